-- The last and the first place where something holds, as far as they are sought.
use Rattle.std.proofs.Common.{ℕ, ◌+◌, ◌<◌, inl, inr, arith, subst, Some, None, Option}
use Rattle.std.proofs.lemmas.Bool.{cases_eq}
use Rattle.mm_graph.specs.reading.Accesses.{IsLast, last, never}

module _ (P : ℕ → Type 0) (k : ℕ) where
  pub last_none : IsLast P 0 None
  last_none = never (λ j less. absurd (omega arith))

  pub last_here : P k → IsLast P (k + 1) (Some k)
  last_here p = last (omega arith) p (λ j after within. absurd (omega arith))

  pub last_before : (o : Option ℕ) → ¬ (P k) → IsLast P k o → IsLast P (k + 1) o
  last_before _ never_here (last {k = i} small p after) = last (omega arith) p (λ j behind within. elim (cases_eq j k) [
    | inl e ↦ λ q. never_here (subst P e q)
    | inr other ↦ after j behind (omega arith)
  ])
  last_before _ never_here (never none) = never (λ j within. elim (cases_eq j k) [
    | inl e ↦ λ q. never_here (subst P e q)
    | inr other ↦ none j (omega arith)
  ])

  pub none_more : ¬ (P k) → ((j : ℕ) → j < k → ¬ (P j)) → (j : ℕ) → j < k + 1 → ¬ (P j)
  none_more not_here none j within = elim (cases_eq j k) [
    | inl e ↦ λ q. not_here (subst P e q)
    | inr other ↦ none j (omega arith)
  ]
