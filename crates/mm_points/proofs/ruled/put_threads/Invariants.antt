use Rattle.std.proofs.Common.{◌≡◌, ◌++◌, ◌+◌, ◌*◌, drop}
use Rattle.mm_points.specs.reading.Ruled.{codes_from}
use Rattle.mm_points.proofs.ruled.put_threads.Given as goal

abbrev pub invariant-threads : goal.invariant-threads
invariant-threads l = record {
  here : l.here ≡ l.base + l.t * l.step;
  rest : l.out.items ++ codes_from l.here l.step (drop l.t l.threads) ≡ l.fn.out.items ++ codes_from l.base l.step l.threads;
}
