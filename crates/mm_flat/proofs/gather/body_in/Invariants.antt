use Rattle.std.proofs.Common.{◌≡◌, drop}
use Rattle.mm_flow.specs.Programs.{body_in}
use Rattle.mm_flat.proofs.gather.body_in.Given as goal

abbrev pub invariant-loop-item : goal.invariant-loop-item
invariant-loop-item l = body_in l.items l.fn.f ≡ body_in (drop l.item-index l.items) l.fn.f
