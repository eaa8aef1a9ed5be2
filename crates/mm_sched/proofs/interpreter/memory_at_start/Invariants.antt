use Rattle.std.proofs.Common.{◌≡◌, [], map, take}
use Rattle.mm_goto.specs.declared.program.Cell.{Cell}
use Rattle.mm_goto.specs.Value.{value_of}
use Rattle.mm_sched.proofs.interpreter.memory_at_start.Given as goal

abbrev pub invariant-loop-cell : goal.invariant-loop-cell
invariant-loop-cell l = l.memory.items ≡ map (λ (cell : Cell). value_of cell.init []) (take l.cell-index l.cells)
