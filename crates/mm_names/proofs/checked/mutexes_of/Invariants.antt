use Rattle.std.proofs.Common.{◌≡◌, take}
use Rattle.std.specs.List.{flat_map}
use Rattle.mm_names.specs.Results.{mutexes_in}
use Rattle.mm_names.proofs.checked.mutexes_of.Given as goal

abbrev pub invariant-loop-item : goal.invariant-loop-item
invariant-loop-item l = l.names.items ≡ flat_map mutexes_in (take l.item-index l.items)
