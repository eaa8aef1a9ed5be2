-- Sets of numbers as bits of words.
use Rattle.std.proofs.Common.{◌≡◌, ℕ, replicate, subst, Bool, false, ◌++◌, ◌+◌, ◌*◌, ◌/◌, ◌%◌, ◌^◌, ◌<◌, ◌≤◌, zero, suc, true, List, [], ◌∷◌, length, get_or, eqb, ◌∙◌, ap, sym, inl, inr, refl, arith, eq-eqb, eqb-true, w64}
use Rattle.std.proofs.lemmas.Bool.{cases_eq, cases_lt, ne_eqb}
use Rattle.std.proofs.lemmas.List.{get_or_past, get_or-set_same, get_or-set_other, get_or-replicate, length-replicate, get_or_append_left, get_or_push}
use Rattle.std.proofs.lemmas.Nat.Bits.{bit_at_or, bit_at_and, bit_at-zero, bit_at-lt, shr_and_one, bit_at_set_same, bit_at_set_other, bit_at-trailing_zeros, bit_at_not}
use Rattle.std.specs.Prelude.{bit_and, bit_or, ◌↔◌, ◌⊎◌, slice_set}
use Rattle.std.specs.Int.{bit_at, bit_not, trailing_zeros}
use Rattle.mm_bits.specs.declared.numbers.Numbers.{Numbers}
use Rattle.mm_bits.specs.Table.{Linked, words_at}
use Rattle.mm_bits.specs.Words.{Has}

pub has_tests : (words : List ℕ) (n : ℕ) → (eqb (bit_and (get_or words (n / 64) 0 / 2 ^ (n % 64)) 1) 1 ≡ true) ↔ Has words n
unfolding Has
has_tests words n = rw shr_and_one (eqb-true _ 1, eq-eqb _ 1)

abbrev all_zero : List ℕ → Type 0
all_zero [] = Unit {0}
all_zero (x ∷ xs) = (x ≡ 0) × all_zero xs

zero_at : (xs : List ℕ) (i : ℕ) → all_zero xs → get_or xs i 0 ≡ 0
zero_at [] i h = refl
zero_at (x ∷ xs) zero h = h.0
zero_at (x ∷ xs) (suc i) h = zero_at xs i h.1

pub none_has : (xs : List ℕ) → all_zero xs → (n : ℕ) → ¬ (Has xs n)
unfolding Has
none_has xs h n has = let e = ap (λ x. bit_at x (n % 64)) (zero_at xs (n / 64) h) ∙ bit_at-zero (n % 64) in omega arith

pub has_below : (xs : List ℕ) → length xs ≡ 16 → (n : ℕ) → Has xs n → n < 1024
unfolding Has
has_below xs len n has =
    elim (cases_lt n 1024) [
      | inl small ↦ small
      | inr large ↦ let e = ap (λ x. bit_at x (n % 64)) (get_or_past xs (n / 64) 0 (omega arith)) ∙ bit_at-zero (n % 64) in absurd (omega arith)
    ]

-- one word after an or
or_bit : (a b i : ℕ) → (bit_at (bit_or a b) i ≡ 1) ↔ ((bit_at a i ≡ 1) ⊎ (bit_at b i ≡ 1))
or_bit a b i =
    let e = bit_at_or a b i in
    let x = bit_at-lt a i in
    let y = bit_at-lt b i in (
      λ h. elim (cases_eq (bit_at a i) 1) [ inl p ↦ inl p | inr p ↦ inr (omega arith) ],
      λ h. elim h [ inl p ↦ omega arith | inr p ↦ omega arith ],
    )

pub or_of_words : (old other new : List ℕ) → ((j : ℕ) → j < 16 → get_or new j 0 ≡ bit_or (get_or old j 0) (get_or other j 0))
    → length old ≡ 16 → length other ≡ 16 → length new ≡ 16 → (m : ℕ) → Has new m ↔ (Has old m ⊎ Has other m)
unfolding Has
or_of_words old other new each lo lt ln m =
    elim (cases_lt (m / 64) 16) [
      | inl small ↦ rw (each (m / 64) small) (or_bit (get_or old (m / 64) 0) (get_or other (m / 64) 0) (m % 64))
      | inr large ↦
          let none = bit_at-zero (m % 64) in
          rw (get_or_past new (m / 64) 0 (omega arith), get_or_past old (m / 64) 0 (omega arith), get_or_past other (m / 64) 0 (omega arith))
          (λ h. absurd (omega arith), λ h. elim h [ inl p ↦ absurd (omega arith) | inr p ↦ absurd (omega arith) ])
    ]

pub has_added : (words : List ℕ) (n m : ℕ) → n / 64 < length words
    → Has (slice_set words (n / 64) (bit_or (get_or words (n / 64) 0) (1 * 2 ^ (n % 64) % 2 ^ 64))) m ↔ (Has words m ⊎ (m ≡ n))
unfolding Has
has_added words n m within =
    let word : ℕ = bit_or (get_or words (n / 64) 0) (1 * 2 ^ (n % 64) % 2 ^ 64) in
    let low : n % 64 < 64 = omega arith in
    elim (cases_eq (m / 64) (n / 64)) [
      | inl one ↦
          rw (one, get_or-set_same words (n / 64) word 0 within)
          (elim (cases_eq (m % 64) (n % 64)) [
            | inl same ↦ rw same (λ h. inr (omega arith), λ h. bit_at_set_same w64 (get_or words (n / 64) 0) (n % 64) low)
            | inr other ↦ rw (bit_at_set_other w64 (get_or words (n / 64) 0) (n % 64) low (m % 64) other)
                (λ h. inl h, λ h. elim h [ inl p ↦ p | inr p ↦ absurd (other (ap (λ x. x % 64) p)) ])
          ])
      | inr other ↦
          rw (get_or-set_other words (n / 64) (m / 64) word 0 other)
          (λ h. inl h, λ h. elim h [ inl p ↦ p | inr p ↦ absurd (other (ap (λ x. x / 64) p)) ])
    ]

-- the first word that two sets share, and the lowest bit in it
module _ (a b : List ℕ) (k : ℕ) (before : (j : ℕ) → j < k → bit_and (get_or a j 0) (get_or b j 0) ≡ 0) where
  both_at : (m : ℕ) → Has a m → Has b m → bit_at (bit_and (get_or a (m / 64) 0) (get_or b (m / 64) 0)) (m % 64) ≡ 1
  unfolding Has
  both_at m p q = bit_at_and (get_or a (m / 64) 0) (get_or b (m / 64) 0) (m % 64) ∙ rw (p, q) refl

  pub none_before : (m : ℕ) → m < 64 * k → Has a m → ¬ (Has b m)
  none_before m within p q =
      let one = both_at m p q in
      let none = ap (λ x. bit_at x (m % 64)) (before (m / 64) (omega arith)) ∙ bit_at-zero (m % 64) in
      omega arith

  pub first_bit : (word : ℕ) → word ≡ bit_and (get_or a k 0) (get_or b k 0) → 0 < word → word < 2 ^ 64
      → let n : ℕ = k * 64 + trailing_zeros w64 word in
      (trailing_zeros w64 word < 64) × Has a n × Has b n × ((m : ℕ) → Has a m → Has b m → n ≤ m)
  unfolding Has
  first_bit word is found fits =
      let tz : ℕ = trailing_zeros w64 word in
      let lowest = bit_at-trailing_zeros w64 word found fits in
      let place : (k * 64 + tz) / 64 ≡ k = omega (arith, lowest.0) in
      let bit : (k * 64 + tz) % 64 ≡ tz = omega (arith, lowest.0) in
      let each : bit_at word tz ≡ _ = ap (λ x. bit_at x tz) is ∙ bit_at_and (get_or a k 0) (get_or b k 0) tz in
      let la = bit_at-lt (get_or a k 0) tz in
      let lb = bit_at-lt (get_or b k 0) tz in (
        lowest.0,
        rw (place, bit) (omega (arith, lowest.1, each, la, lb)),
        rw (place, bit) (omega (arith, lowest.1, each, la, lb)),
        λ m p q. elim (cases_lt m (k * 64 + tz)) [
          | inr after ↦ after
          | inl early ↦ elim (cases_lt m (64 * k)) [
            | inl before_it ↦ absurd (none_before m before_it p q)
            | inr inside ↦
                let here : m / 64 ≡ k = omega (arith, lowest.0) in
                let zero : bit_at word (m % 64) ≡ 0 = lowest.2 (m % 64) (omega (arith, lowest.0)) in
                let one = both_at m p q in
                let same : bit_at word (m % 64) ≡ bit_at (bit_and (get_or a (m / 64) 0) (get_or b (m / 64) 0)) (m % 64) = ap (λ x. bit_at x (m % 64)) is ∙ ap (λ j. bit_at (bit_and (get_or a j 0) (get_or b j 0)) (m % 64)) (sym here) in
                absurd (omega arith)
          ]
        ],
      )

-- ---- rows

pub linked_below : (rows : List Numbers) (a b : ℕ) → Linked rows a b → a < length rows
linked_below rows a b linked =
    elim (cases_lt a (length rows)) [
      | inl small ↦ small
      | inr large ↦ absurd (none_has [] tt b (let P : Numbers → Type 0 = λ row. Has row.words b in subst P (get_or_past rows a (record { words = [] }) large) linked))
    ]

pub none_linked : (n : ℕ) (row : Numbers) → ((b : ℕ) → ¬ (Has row.words b)) → (a b : ℕ) → ¬ (Linked (replicate n row) a b)
none_linked n row none a b linked =
    elim (cases_lt a n) [
      | inl small ↦ none b (let P : Numbers → Type 0 = λ row. Has row.words b in subst P (get_or-replicate n a row (record { words = [] }) small) linked)
      | inr large ↦ let within = linked_below (replicate n row) a b linked in absurd (omega (arith, length-replicate {A = Numbers}))
    ]

pub words_front : (rows : List Numbers) (row : Numbers) (d : ℕ) → d < length rows → words_at (rows ++ row ∷ []) d ≡ words_at rows d
words_front rows row d small = ap (λ r. r.words) (get_or_append_left rows (row ∷ []) (record { words = [] }) d small)

pub words_end : (rows : List Numbers) (row : Numbers) (d : ℕ) → length rows ≡ d → words_at (rows ++ row ∷ []) d ≡ row.words
words_end rows row d is = ap (λ r. r.words) (get_or_push rows row (record { words = [] }) d is)

-- the test that the set has the number
unfoldable pub tests : List ℕ → ℕ → Bool
tests words n = eqb (bit_at (get_or words (n / 64) 0) (n % 64)) 1

pub tests-true : (words : List ℕ) (n : ℕ) → (tests words n ≡ true) ↔ Has words n
unfolding tests Has
tests-true words n = (eqb-true _ 1, eq-eqb _ 1)

pub tests-false : (words : List ℕ) (n : ℕ) → ¬ (Has words n) → tests words n ≡ false
unfolding tests Has
tests-false words n none = ne_eqb _ 1 none

-- ---- removal

without_bit : (x y i : ℕ) → y < 2 ^ 64 → i < 64 → (bit_at (bit_and x (bit_not w64 y)) i ≡ 1) ↔ ((bit_at x i ≡ 1) × ¬ (bit_at y i ≡ 1))
without_bit x y i fits within =
    let e = bit_at_and x (bit_not w64 y) i in
    let n = bit_at_not w64 y i fits within in
    let lx = bit_at-lt x i in
    let ly = bit_at-lt y i in
    (λ h. (omega arith, λ one. omega arith), λ h. elim (cases_eq (bit_at y i) 1) [ inl p ↦ absurd (h.1 p) | inr p ↦ let a = h.0 in omega arith ])

pub without_words : (old other new : List ℕ) → ((j : ℕ) → j < 16 → get_or other j 0 < 2 ^ 64)
    → ((j : ℕ) → j < 16 → get_or new j 0 ≡ bit_and (get_or old j 0) (bit_not w64 (get_or other j 0)))
    → length old ≡ 16 → length new ≡ 16 → (m : ℕ) → Has new m ↔ (Has old m × ¬ (Has other m))
unfolding Has
without_words old other new fits each lo ln m =
    elim (cases_lt (m / 64) 16) [
      | inl small ↦ rw (each (m / 64) small) (without_bit (get_or old (m / 64) 0) (get_or other (m / 64) 0) (m % 64) (fits (m / 64) small) (omega arith))
      | inr large ↦
          let none = bit_at-zero (m % 64) in
          rw (get_or_past new (m / 64) 0 (omega arith), get_or_past old (m / 64) 0 (omega arith))
          (λ h. absurd (omega arith), λ h. absurd (omega (arith, h.0)))
    ]
