use Rattle.std.proofs.Common.{ℕ, List, length-append, arith}
use Rattle.mm_points.proofs.Growing.{none_pushed}
use Rattle.mm_points.proofs.settling.no_sets.Goals as goal

pub holders-preserved : goal.holders-preserved
holders-preserved c =
    let size = c.holders.invariant.size in
    rw c.in_ok-push.ensures.items (record {
      size = omega (arith, length-append {A = List ℕ});
      none = none_pushed c.holders.sets.items c.empty.result c.holders.invariant.none c.empty.ensures;
    })
