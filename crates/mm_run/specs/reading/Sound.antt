-- This mirrors the code: nothing that a reader believes rests on it.
-- What flattening asks of a tree, and what the machines and the weaving ask of a program: every text that makes sense has it.
use Rattle.std.specs.Prelude.{◌≡◌, ◌<◌, ◌^◌, ℕ, None, List, length}
use Rattle.std.specs.Str.{IsUtf8}
use Rattle.mm_goto.specs.Listing.{Listing}
use Rattle.mm_goto.specs.Valid.{IsValid}
use Rattle.mm_tree.specs.declared.item.Tree.{Tree}
use Rattle.mm_tree.specs.declared.side.Side.{Side}
use Rattle.mm_tree.specs.declared.side.Side.TheVariants.{Source, Output}
use Rattle.mm_sched.specs.declared.entry.Rules.{Rules}
use Rattle.mm_sched.specs.declared.entry.Rules.TheVariants.{Sc, Buffered, Partial}
use Rattle.mm_sched.specs.Sections.{HasNoSection}
use Rattle.mm_flow.specs.Programs.{limit_passed, program_of}
use Rattle.mm_run.specs.Program.{IsProgramText}

-- an atomic section stands in outputs alone
abbrev pub HasSections : Side → Listing → Type 0
HasSections Source p = HasNoSection p
HasSections Output p = Unit {0}

-- where it passes no limit, what it is flattened to is valid, and has sections where they may be
abbrev pub FlattensWell : Side → Tree → Type 0
FlattensWell side tree = limit_passed side tree ≡ None → IsValid (program_of side tree) × HasSections side (program_of side tree)

-- it is the goto program of a source text
pub record IsOfSource (p : Listing) : Type 0 where
  pub text : List ℕ
  pub utf8 : IsUtf8 text
  pub short : length text < 2 ^ 32
  pub read : IsProgramText Source text p

-- a machine with buffers takes programs without sections
abbrev pub CanRun : Rules → Listing → Type 0
CanRun Sc p = Unit {0}
CanRun (Buffered m bound) p = HasNoSection p
CanRun (Partial m bound buffered) p = HasNoSection p
