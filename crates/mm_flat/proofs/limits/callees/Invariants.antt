use Rattle.std.proofs.Common.{◌≡◌, ◌++◌, drop}
use Rattle.mm_flow.specs.Text.{calls}
use Rattle.mm_flat.specs.reading.Nesting.{callees}
use Rattle.mm_flat.proofs.limits.callees.Given as goal

abbrev pub invariant-loop-mention : goal.invariant-loop-mention
invariant-loop-mention l = callees l.items (calls l.mention-items) ≡ l.out.items ++ callees l.items (calls (drop l.mention-index l.mention-items))
