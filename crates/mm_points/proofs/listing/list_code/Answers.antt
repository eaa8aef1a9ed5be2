use Rattle.std.proofs.Common.{refl}
use Rattle.std.proofs.lemmas.Option.{slice_get_read}
use Rattle.mm_points.specs.Sets.{Linked}
use Rattle.mm_points.proofs.Listings.{listed_more}
use Rattle.mm_points.proofs.listing.list_code.Goals as goal

pub code-preserved : goal.code-preserved
code-preserved c =
    rw c.in_ok-push.ensures.items (listed_more (Linked c.args.sets.now) c.args.base c.args.code.now c.code.i c.code.lists.items c.index-code-i.result c.in_ok-cells.cells c.code.invariant
    (slice_get_read c.args.code.now _ c.code.i c.index-code-i.result refl c.code-test.true c.index-code-i.is) c.in_ok-cells.ensures)
