use Rattle.std.proofs.Common.{ℕ, ◌+◌}
use Rattle.std.specs.Prelude.{◌↔◌, ◌⊎◌}
use Rattle.mm_points.specs.Sets.{Has, Linked}
use Rattle.mm_points.proofs.Indexes.{SomeBefore}
use Rattle.mm_points.proofs.gathering.add_locals.Given as goal

abbrev pub invariant-locals : goal.invariant-locals
invariant-locals l = (c : ℕ) → Has l.into c ↔ (Has l.fn.into c ⊎ SomeBefore l.locals l.k (λ m. Linked l.sets (l.base + m) c))
