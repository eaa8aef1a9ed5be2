-- What flattening asks of a source, and what a run graph asks of its goto program.
use Rattle.std.specs.Prelude.{◌≡◌, None}
use Rattle.mm_goto.specs.Sourcelike.{IsSourcelike}
use Rattle.mm_goto.specs.Valid.{IsValid}
use Rattle.mm_tree.specs.declared.item.Tree.{Tree}
use Rattle.mm_tree.specs.declared.side.Side.TheVariants.{Source}
use Rattle.mm_sched.specs.Sections.{HasNoSection}
use Rattle.mm_flow.specs.Programs.{limit_passed, program_of}

-- where it passes no limit, what it is flattened to is valid, has no atomic section, and is as the analyses of a source may take it
abbrev pub FlattensWell : Tree → Type 0
FlattensWell tree = limit_passed Source tree ≡ None → IsValid (program_of Source tree) × HasNoSection (program_of Source tree) × IsSourcelike (program_of Source tree)
