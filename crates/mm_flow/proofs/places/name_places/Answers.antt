use Rattle.std.proofs.Common.{rules}
use Rattle.mm_flow.proofs.Finds.{placed_more}
use Rattle.mm_flow.proofs.places.name_places.Goals as goal

pub loop-i-preserved : goal.loop-i-preserved
loop-i-preserved c =
    rw (c.in_ok-note.ensures) (placed_more c.args.names.now c.loop-i.i c.index-names-i.result c.text.result.now c.loop-i-test.true c.index-names-i.is (λ x. search rules) c.loop-i.invariant)
