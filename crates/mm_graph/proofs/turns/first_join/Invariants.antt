use Rattle.std.proofs.Common.{ℕ, ◌<◌}
use Rattle.mm_graph.specs.reading.Accesses.{JoinsAt}
use Rattle.mm_graph.proofs.turns.first_join.Given as goal

abbrev pub invariant-code : goal.invariant-code
invariant-code l = (j : ℕ) → j < l.k → ¬ (JoinsAt l.code l.u j)
