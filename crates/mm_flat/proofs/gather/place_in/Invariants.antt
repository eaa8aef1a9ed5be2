use Rattle.std.proofs.Common.{◌≡◌, drop}
use Rattle.mm_flow.specs.Programs.{place_in}
use Rattle.mm_flat.proofs.gather.place_in.Given as goal

abbrev pub invariant-loop-item : goal.invariant-loop-item
invariant-loop-item l = place_in l.items l.fn.f ≡ place_in (drop l.item-index l.items) l.fn.f
