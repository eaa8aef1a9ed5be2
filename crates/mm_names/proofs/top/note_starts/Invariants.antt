use Rattle.std.proofs.Common.{◌≡◌, take}
use Rattle.mm_names.specs.Tops.{after_top, tops}
use Rattle.mm_names.specs.Items.{listed_start}
use Rattle.mm_names.proofs.top.note_starts.Given as goal

abbrev pub invariant-loop-e : goal.invariant-loop-e
invariant-loop-e l = l.walk ≡ after_top (tops (listed_start l.pointer) (take l.e-index l.init)) l.initial.walk
