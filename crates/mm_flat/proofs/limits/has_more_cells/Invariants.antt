use Rattle.std.proofs.Common.{◌≡◌, ◌≤◌, ◌+◌, min, drop}
use Rattle.mm_flow.specs.Programs.{cell_count, globals_in}
use Rattle.mm_flat.proofs.limits.has_more_cells.Given as goal

abbrev pub invariant-loop-item : goal.invariant-loop-item
invariant-loop-item l = record {
  within : l.count ≤ 65537;
  same : min (cell_count (globals_in l.items)) 65537 ≡ min (l.count + cell_count (globals_in (drop l.item-index l.items))) 65537;
}
