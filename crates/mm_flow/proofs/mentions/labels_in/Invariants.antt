use Rattle.std.proofs.Common.{◌≡◌, ◌++◌, drop}
use Rattle.mm_flow.specs.Text.{labels}
use Rattle.mm_flow.proofs.mentions.labels_in.Given as goal

abbrev pub invariant-loop-mention : goal.invariant-loop-mention
invariant-loop-mention l = labels l.mention-items ≡ l.names.items ++ labels (drop l.mention-index l.mention-items)
