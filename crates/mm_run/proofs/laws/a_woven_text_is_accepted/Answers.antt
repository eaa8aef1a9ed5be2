use Rattle.mm_tree.specs.declared.side.Side.TheVariants.{Source}
use Rattle.mm_flow.specs.Programs.{program_of}
use Rattle.mm_run.proofs.laws.a_woven_text_is_accepted.Goals as goal

pub returns : goal.returns
returns c = λ text tree shape head utf8 short read sense none small bound fits.
    let p = program_of Source tree in
    let source = c.a_source_text_is_sourcelike.ensures text tree utf8 short read sense none in
    let alone = c.a_source_text_checks_alone.ensures text tree utf8 short read sense none in
    let u = c.a_woven_text_is_read_as_its_tree.ensures p shape head source small.cells bound fits in
    (u.0, u.1, u.2, c.a_woven_tree_makes_sense.ensures p shape u.0 source small.cells bound fits u.2, c.a_woven_tree_passes_no_limit.ensures p shape u.0 source alone small bound fits u.2)
