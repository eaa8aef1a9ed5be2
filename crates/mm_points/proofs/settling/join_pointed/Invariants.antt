use Rattle.std.proofs.Common.{◌≡◌, ℕ}
use Rattle.std.specs.Prelude.{◌↔◌, ◌⊎◌}
use Rattle.mm_points.specs.Sets.{Has, Linked}
use Rattle.mm_points.specs.reading.Rules.{IsPointer, Grows}
use Rattle.mm_points.proofs.Indexes.{SomeBefore}
use Rattle.mm_points.proofs.settling.join_pointed.Given as goal

abbrev pub invariant-names : goal.invariant-names
invariant-names l = record {
  given : (a b : ℕ) → Linked l.sets a b ↔ (Linked l.fn.sets a b ⊎ SomeBefore l.names l.i (λ k. (a ≡ k) × IsPointer l.pointers k × Has l.value b));
  grows : Grows l.fn.sets l.sets l.grew;
}
