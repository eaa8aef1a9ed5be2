-- How many numbers below n a set lacks.
use Rattle.std.proofs.Common.{◌≡◌, ℕ, zero, suc, ◌+◌, ◌<◌, ◌≤◌, Bool, true, false, cond, List, inl, inr, arith}
use Rattle.std.proofs.lemmas.Bool.{cases_eq, cases_Bool}
use Rattle.mm_bits.proofs.Wordwise.{tests, tests-true, tests-false}
use Rattle.mm_bits.specs.Words.{Has}

-- the test passes where the number is in the set
unfoldable pub missing : (ℕ → Bool) → ℕ → ℕ
missing P zero = 0
missing P (suc n) = cond (P n) 0 1 + missing P n

pub missing_fewer : (P Q : ℕ → Bool) → ((k : ℕ) → P k ≡ true → Q k ≡ true) → (n : ℕ) → missing Q n ≤ missing P n
unfolding missing
missing_fewer P Q keeps zero = omega arith
missing_fewer P Q keeps (suc n) =
    let rest = missing_fewer P Q keeps n in
    elim (cases_Bool (P n)) [
      | inl p ↦ rw (p, keeps n p) (omega arith)
      | inr p ↦ elim (cases_Bool (Q n)) [ inl q ↦ rw (p, q) (omega arith) | inr q ↦ rw (p, q) (omega arith) ]
    ]

pub missing_less : (P Q : ℕ → Bool) → ((k : ℕ) → P k ≡ true → Q k ≡ true) → (n k : ℕ) → k < n → Q k ≡ true → P k ≡ false → missing Q n < missing P n
unfolding missing
missing_less P Q keeps zero k within q p = absurd (omega arith)
missing_less P Q keeps (suc n) k within q p =
    elim (cases_eq k n) [
      | inl same ↦ let rest = missing_fewer P Q keeps n in rw (← same) (rw (p, q) (rw same (omega arith)))
      | inr other ↦
          let rest = missing_less P Q keeps n k (omega arith) q p in
          elim (cases_Bool (P n)) [
            | inl u ↦ rw (u, keeps n u) (omega arith)
            | inr u ↦ elim (cases_Bool (Q n)) [ inl v ↦ rw (u, v) (omega arith) | inr v ↦ rw (u, v) (omega arith) ]
          ]
    ]

-- a set that gained a number lacks fewer
pub lacks_less : (old new : List ℕ) → ((k : ℕ) → Has old k → Has new k) → (n k : ℕ) → k < n → Has new k → ¬ (Has old k) → missing (tests new) n < missing (tests old) n
lacks_less old new keeps n k within has had =
    missing_less (tests old) (tests new) (λ j t. (tests-true new j).1 (keeps j ((tests-true old j).0 t))) n k within ((tests-true new k).1 has) (tests-false old k had)
