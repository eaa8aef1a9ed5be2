use Rattle.std.proofs.Common.{◌≡◌, ◌≤◌, length}
use Rattle.mm_grammar.specs.Nesting.{deep_at, deep_behind}
use Rattle.mm_grammar.proofs.depth.deep_at.Given as goal

abbrev pub invariant-loop-rest : goal.invariant-loop-rest
invariant-loop-rest l = record {
  deep : deep_behind l.limits l.counts l.rest ≡ deep_at l.fn.side l.terminals;
  brackets : l.counts.brackets ≤ 2048;
  tokens : l.counts.tokens ≤ 2048;
  words : l.counts.words ≤ 2048;
}

abbrev pub decreases-loop-rest : goal.decreases-loop-rest
decreases-loop-rest l = length l.rest
