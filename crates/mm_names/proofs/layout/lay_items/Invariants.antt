use Rattle.std.proofs.Common.{◌≡◌, fold, take}
use Rattle.std.specs.List.{flat_map}
use Rattle.mm_names.specs.Results.{globals_in, laid}
use Rattle.mm_names.proofs.layout.lay_items.Given as goal

abbrev pub invariant-loop-item : goal.invariant-loop-item
invariant-loop-item l = l.layout ≡ fold laid l.initial.layout (flat_map globals_in (take l.item-index l.items))
