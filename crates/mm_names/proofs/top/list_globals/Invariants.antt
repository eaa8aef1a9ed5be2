use Rattle.std.proofs.Common.{◌≡◌, take}
use Rattle.mm_names.specs.Tops.{after_top, tops}
use Rattle.mm_names.specs.Items.{listed_global}
use Rattle.mm_names.proofs.top.list_globals.Given as goal

abbrev pub invariant-loop-global : goal.invariant-loop-global
invariant-loop-global l = l.walk ≡ after_top (tops (listed_global l.side) (take l.global-index l.globals)) l.initial.walk
