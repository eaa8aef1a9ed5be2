use Rattle.std.proofs.Common.{◌≡◌, ◌++◌, ◌≤◌, length}
use Rattle.std.specs.Prelude.{All}
use Rattle.mm_goto.specs.Locals.{local_bound}
use Rattle.mm_instr.specs.Woven.{variables}
use Rattle.mm_instr.proofs.variables.put_variables.Given as goal

abbrev pub decreases-loop-rest : goal.decreases-loop-rest
decreases-loop-rest l = length l.rest

abbrev pub invariant-loop-rest : goal.invariant-loop-rest
invariant-loop-rest l = record {
  localless : All (λ cell. local_bound cell.init ≤ 0) l.rest;
  written : l.out.items ++ variables l.moved l.c l.rest ≡ l.initial.out.items ++ variables l.moved 0 l.cells;
}
