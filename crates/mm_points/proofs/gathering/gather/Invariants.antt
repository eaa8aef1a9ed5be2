use Rattle.std.proofs.Common.{ℕ}
use Rattle.std.specs.Prelude.{◌↔◌}
use Rattle.mm_points.specs.Sets.{Has, Linked}
use Rattle.mm_points.specs.reading.Rules.{IsPointer}
use Rattle.mm_points.proofs.Indexes.{SomeBefore}
use Rattle.mm_points.proofs.gathering.gather.Given as goal

abbrev pub invariant-names : goal.invariant-names
invariant-names l = (c : ℕ) → Has l.found c ↔ SomeBefore l.names l.i (λ k. IsPointer l.pointers k × Linked l.sets k c)
