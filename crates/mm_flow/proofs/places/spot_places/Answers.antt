use Rattle.std.proofs.Common.{rules}
use Rattle.mm_flow.proofs.Finds.{placed_more}
use Rattle.mm_flow.proofs.places.spot_places.Goals as goal

pub loop-i-preserved : goal.loop-i-preserved
loop-i-preserved c =
    rw (c.in_ok-note.ensures) (placed_more c.args.spots.now c.loop-i.i c.index-spots-i.result c.text.result.now c.loop-i-test.true c.index-spots-i.is (λ x. search rules) c.loop-i.invariant)
