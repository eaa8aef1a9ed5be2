use Rattle.std.proofs.Common.{◌≤◌, take}
use Rattle.std.specs.Prelude.{All}
use Rattle.mm_points.proofs.ruled.most_locals.Given as goal

abbrev pub invariant-threads : goal.invariant-threads
invariant-threads l = record {
  most : All (λ t. t.locals ≤ l.most) (take l.thread-index l.threads);
  few : l.most ≤ 524288;
}
