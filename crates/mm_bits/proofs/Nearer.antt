-- Levels: for each number of edges, what is so near.
use Rattle.std.proofs.Common.{ℕ, ◌+◌, ◌<◌, List, [], ◌∷◌, ◌++◌, length, inl, inr, arith, refl, length-append}
use Rattle.std.proofs.lemmas.Bool.{cases_eq}
use Rattle.std.specs.Prelude.{◌↔◌, ◌⊎◌}
use Rattle.mm_bits.specs.declared.numbers.Numbers.{Numbers}
use Rattle.mm_bits.specs.Near.{Near}
use Rattle.mm_bits.specs.Table.{Linked}
use Rattle.mm_bits.specs.Words.{Has}
use Rattle.mm_bits.proofs.Firsts.{near_more, all_near}
use Rattle.mm_bits.proofs.Wordwise.{words_front, words_end}
use Rattle.mm_goto.specs.Paths.{Leads}

pub iff_on : {P Q R : Type 0} → P ↔ Q → Q ↔ R → P ↔ R
iff_on f g = (λ p. g.0 (f.0 p), λ r. f.1 (g.1 r))

module _ (E : ℕ → ℕ → Type 0) (b : ℕ) where
  abbrev pub HasLevels : List Numbers → Type 0
  HasLevels items = (d : ℕ) → d < length items → (x : ℕ) → Linked items d x ↔ Near E b d x

  pub level_more : (old new : List ℕ) (d : ℕ) → ((x : ℕ) → Has old x ↔ Near E b d x)
      → ((x : ℕ) → Has new x ↔ (Has old x ⊎ ((y : ℕ) × E x y × Has old y))) → (x : ℕ) → Has new x ↔ Near E b (d + 1) x
  level_more old new d was each x = (
    λ h. elim ((each x).0 h) [
      | inl p ↦ (near_more E b d x).1 (inl ((was x).0 p))
      | inr p ↦ (near_more E b d x).1 (inr (p.0, p.1, (was p.0).0 p.2))
    ],
    λ near. elim ((near_more E b d x).0 near) [
      | inl n ↦ (each x).1 (inl ((was x).1 n))
      | inr n ↦ (each x).1 (inr (n.0, n.1, (was n.0).1 n.2))
    ],
  )

  module _ (items : List Numbers) (last : Numbers) (so_far : HasLevels items) (is : (x : ℕ) → Has last.words x ↔ Near E b (length items) x) where
    pub levels_more : HasLevels (items ++ last ∷ [])
    levels_more d within x =
        elim (cases_eq d (length items)) [
          | inl end ↦ rw end (rw (words_end items last (length items) refl) (is x))
          | inr front ↦ let before : d < length items = omega (arith, length-append {A = Numbers}) in rw (words_front items last d before) (so_far d before x)
        ]

    pub levels_all : ((x y : ℕ) → E x y → Has last.words y → Has last.words x) → (x : ℕ) → Leads E x b → Linked (items ++ last ∷ []) (length items) x
    levels_all closed x leads =
        rw (words_end items last (length items) refl)
        ((is x).1 (all_near E b (length items) stays x leads.0 leads.1))
      where
        stays : (y : ℕ) → Near E b (length items + 1) y → Near E b (length items) y
        stays y near = elim ((near_more E b (length items) y).0 near) [
          | inl n ↦ n
          | inr n ↦ (is y).0 (closed y n.0 n.1 ((is n.0).1 n.2))
        ]
