use Rattle.std.proofs.Common.{arith, ◌≡◌, ◌+◌, ◌∙◌}
use Rattle.mm_flat_stmt.proofs.Starts.{next_start}
use Rattle.mm_flat_stmt.proofs.numbers.thread_in.Goals as goal

pub loop-start-preserved : goal.loop-start-preserved
loop-start-preserved c = record {
  at = omega arith;
  found =
      let n : c.in-Some.next ≡ c.loop-start.number + 1 = omega arith in
      rw (n, c.latest-found.ensures) (c.loop-start.invariant.found ∙ next_start c.args.starts.now c.loop-start.start-index c.args.count c.loop-start.number c.start-item.result c.args.x.now c.loop-start.found (omega arith) c.start-item.is (omega arith));
}
