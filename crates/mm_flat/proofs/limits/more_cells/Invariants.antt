use Rattle.std.proofs.Common.{◌≡◌, ◌≤◌, ◌+◌, min, drop}
use Rattle.mm_flow.specs.Programs.{cell_count}
use Rattle.mm_flat.proofs.limits.more_cells.Given as goal

abbrev pub invariant-loop-global : goal.invariant-loop-global
invariant-loop-global l = record {
  within : l.count ≤ 65537;
  same : min (l.fn.count + cell_count l.globals) 65537 ≡ min (l.count + cell_count (drop l.global-index l.globals)) 65537;
}
