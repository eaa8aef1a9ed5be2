use Rattle.std.proofs.lemmas.Option.{slice_get-get_or}
use Rattle.mm_graph.specs.Sites.{IsSiteOf}
use Rattle.mm_graph.proofs.Pairs.{of_more}
use Rattle.mm_graph.proofs.making.sites_at.Goals as goal

pub spots-preserved : goal.spots-preserved
spots-preserved c =
    rw c.in_ok-push.ensures.items (of_more (IsSiteOf c.args.program.now) c.args.spots.now c.spots.k c.spots.found.items _ c.in_ok-site.site c.spots.invariant
    (slice_get-get_or c.args.spots.now c.spots.k _ c.spots-test.true) c.in_ok-site.ensures)
