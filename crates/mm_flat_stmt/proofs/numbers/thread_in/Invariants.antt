use Rattle.std.proofs.Common.{◌≡◌, ◌+◌, ◌-◌, None, drop, take}
use Rattle.mm_flow.specs.Scopes.{last_with}
use Rattle.mm_flat_stmt.proofs.numbers.thread_in.Given as goal

abbrev pub invariant-loop-start : goal.invariant-loop-start
invariant-loop-start l = record {
  at : l.number ≡ l.start-index + 1;
  found : last_with (take l.fn.count l.starts) 1 l.fn.x None ≡ last_with (take (l.fn.count - l.start-index) (drop l.start-index l.starts)) l.number l.fn.x l.found;
}
