use Rattle.std.proofs.Common.{◌≡◌, ◌++◌, drop}
use Rattle.std.specs.List.{flat_map}
use Rattle.mm_flow.specs.Text.{of_local}
use Rattle.mm_flow.proofs.mentions.note_locals.Given as goal

abbrev pub invariant-loop-local : goal.invariant-loop-local
invariant-loop-local l = l.fn.out.items ++ flat_map of_local l.locals ≡ l.out.items ++ flat_map of_local (drop l.local-index l.locals)
