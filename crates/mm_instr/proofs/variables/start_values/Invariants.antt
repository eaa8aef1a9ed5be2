use Rattle.std.proofs.Common.{◌≡◌, ◌++◌, ◌≤◌, length}
use Rattle.std.specs.Prelude.{All}
use Rattle.mm_goto.specs.Locals.{local_bound}
use Rattle.mm_instr.specs.Woven.{start_values}
use Rattle.mm_instr.proofs.variables.start_values.Given as goal

abbrev pub decreases-loop-rest : goal.decreases-loop-rest
decreases-loop-rest l = length l.rest

abbrev pub invariant-loop-rest : goal.invariant-loop-rest
invariant-loop-rest l = record {
  localless : All (λ cell. local_bound cell.init ≤ 0) l.rest;
  written : l.values.items ++ start_values l.moved l.c l.rest ≡ start_values l.moved 0 l.cells;
}
