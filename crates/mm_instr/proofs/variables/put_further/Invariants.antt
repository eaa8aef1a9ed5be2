use Rattle.std.proofs.Common.{◌≡◌, ◌++◌, ◌≤◌, map, length}
use Rattle.std.specs.Prelude.{All}
use Rattle.mm_goto.specs.Locals.{local_bound}
use Rattle.mm_instr.specs.Woven.{start_value, further}
use Rattle.mm_instr.proofs.variables.put_further.Given as goal

abbrev pub decreases-loop-rest : goal.decreases-loop-rest
decreases-loop-rest l = length l.rest

abbrev pub invariant-loop-rest : goal.invariant-loop-rest
invariant-loop-rest l = record {
  localless : All (λ cell. local_bound cell.init ≤ 0) l.rest;
  written : l.out.items ++ map start_value (further l.rest) ≡ l.initial.out.items ++ map start_value (further l.cells);
}
