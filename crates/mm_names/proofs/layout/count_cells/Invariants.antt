use Rattle.std.proofs.Common.{◌≡◌, min, sum_by, take}
use Rattle.std.specs.List.{flat_map}
use Rattle.mm_names.specs.Results.{globals_in, size_of}
use Rattle.mm_names.proofs.layout.count_cells.Given as goal

abbrev pub invariant-loop-item : goal.invariant-loop-item
invariant-loop-item l = l.total ≡ min (sum_by size_of (flat_map globals_in (take l.item-index l.items))) 65537
