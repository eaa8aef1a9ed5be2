-- Levels by what the last level added.
use Rattle.std.proofs.Common.{◌∙◌, sym, ℕ, List, inl, inr}
use Rattle.std.proofs.lemmas.Bool.{cases_Bool, true≢false}
use Rattle.std.specs.Prelude.{◌↔◌, ◌⊎◌}
use Rattle.mm_bits.specs.declared.numbers.Numbers.{Numbers}
use Rattle.mm_bits.specs.Table.{Linked, AreTurned}
use Rattle.mm_bits.specs.Words.{Has}
use Rattle.mm_bits.proofs.Wordwise.{tests, tests-true}

pub has_or_not : (words : List ℕ) (n : ℕ) → Has words n ⊎ (¬ (Has words n))
has_or_not words n = elim (cases_Bool (tests words n)) [
  | inl t ↦ inl ((tests-true words n).0 t)
  | inr f ↦ inr (λ has. let t = (tests-true words n).1 has in true≢false (sym t ∙ f))
]

-- what was found last is among what is seen, and only what leads to it may still be unseen
pub record IsFrontier (E : ℕ → ℕ → Type 0) (seen fresh : List ℕ) : Type 0 where
  pub among : (x : ℕ) → Has fresh x → Has seen x
  pub behind : (x y : ℕ) → E x y → Has seen y → Has fresh y ⊎ Has seen x

module _ (E : ℕ → ℕ → Type 0) (seen fresh found new : List ℕ) (frontier : IsFrontier E seen fresh)
    (finds : (x : ℕ) → Has found x ↔ ((y : ℕ) × E x y × Has fresh y))
    (news : (x : ℕ) → Has new x ↔ (Has found x × ¬ (Has seen x))) where
  reached : (x y : ℕ) → E x y → Has seen y → Has seen x ⊎ Has new x
  reached x y leads has = elim (has_or_not seen x) [
    | inl old ↦ inl old
    | inr not_old ↦ elim (frontier.behind x y leads has) [
      | inl last ↦ inr ((news x).1 ((finds x).1 (y, leads, last), not_old))
      | inr old ↦ absurd (not_old old)
    ]
  ]

  -- where nothing is new, nothing leads to what is seen from outside it
  pub nothing_new : ((x : ℕ) → ¬ (Has new x)) → (x y : ℕ) → E x y → Has seen y → Has seen x
  nothing_new none x y leads has = elim (reached x y leads has) [ inl old ↦ old | inr fresh ↦ absurd (none x fresh) ]

  module _ (all : List ℕ) (joined : (x : ℕ) → Has all x ↔ (Has seen x ⊎ Has new x)) where
    pub frontier_level : (x : ℕ) → Has all x ↔ (Has seen x ⊎ ((y : ℕ) × E x y × Has seen y))
    frontier_level x = (
      λ h. elim ((joined x).0 h) [
        | inl old ↦ inl old
        | inr fresh ↦ let p = (finds x).0 ((news x).0 fresh).0 in inr (p.0, p.1, frontier.among p.0 p.2)
      ],
      λ h. elim h [ inl old ↦ (joined x).1 (inl old) | inr p ↦ (joined x).1 (reached x p.0 p.1 p.2) ],
    )

    pub frontier_more : IsFrontier E all new
    frontier_more = record {
      among = λ x fresh. (joined x).1 (inr fresh);
      behind = λ x y leads has. elim ((joined y).0 has) [
        | inl old ↦ inr ((joined x).1 (reached x y leads old))
        | inr fresh ↦ inl fresh
      ];
    }

-- what has an edge into the set, by the relation from right to left
pub found_by : (rows back : List Numbers) (set found : List ℕ) → AreTurned rows back
    → ((x : ℕ) → Has found x ↔ ((y : ℕ) × Linked back y x × Has set y)) → (x : ℕ) → Has found x ↔ ((y : ℕ) × Linked rows x y × Has set y)
found_by rows back set found turned finds x = (
  λ h. let p = (finds x).0 h in (p.0, (turned x p.0).0 p.1, p.2),
  λ p. (finds x).1 (p.0, (turned x p.0).1 p.1, p.2),
)
