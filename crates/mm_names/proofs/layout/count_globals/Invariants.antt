use Rattle.std.proofs.Common.{◌≡◌, ◌+◌, min, sum_by, take}
use Rattle.mm_names.specs.Results.{size_of}
use Rattle.mm_names.proofs.layout.count_globals.Given as goal

abbrev pub invariant-loop-global : goal.invariant-loop-global
invariant-loop-global l = l.total ≡ min (l.initial.total + sum_by size_of (take l.global-index l.globals)) 65537
