use Rattle.std.proofs.Common.{◌≡◌, ◌++◌, replicate}
use Rattle.mm_rungraph.proofs.entries.add_line.Given as goal

abbrev pub invariant-loop : goal.invariant-loop
invariant-loop l = l.entries.items ≡ l.initial.entries.items ++ replicate l.counter l.line.item
