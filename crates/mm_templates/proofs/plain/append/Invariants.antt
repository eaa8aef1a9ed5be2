use Rattle.std.proofs.Common.{◌≡◌, ◌++◌}
use Rattle.mm_templates.proofs.plain.append.Given as goal

-- what came so far stands behind what was there
abbrev pub invariant-loop-one : goal.invariant-loop-one
invariant-loop-one g l = l.to.items ≡ l.fn.to.items ++ l.yielded
