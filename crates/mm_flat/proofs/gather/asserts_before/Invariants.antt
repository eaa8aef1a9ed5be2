use Rattle.std.proofs.Common.{◌≡◌, ◌++◌, drop}
use Rattle.mm_flow.specs.Programs.{asserts_before}
use Rattle.mm_flat.proofs.gather.asserts_before.Given as goal

abbrev pub invariant-loop-item : goal.invariant-loop-item
invariant-loop-item l = asserts_before l.items 0 ≡ l.out.items ++ asserts_before (drop l.item-index l.items) l.before
