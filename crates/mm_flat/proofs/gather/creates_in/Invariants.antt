use Rattle.std.proofs.Common.{◌≡◌, ◌++◌, drop}
use Rattle.mm_flow.specs.Text.{creates}
use Rattle.mm_flat.proofs.gather.creates_in.Given as goal

abbrev pub invariant-loop-mention : goal.invariant-loop-mention
invariant-loop-mention l = creates l.mention-items ≡ l.out.items ++ creates (drop l.mention-index l.mention-items)
