-- Which locals hold pointers: types are given to fresh locals where they are made, and what holds under all that agree with them.
use Rattle.std.proofs.Common.{arith, ◌≡◌, ℕ, ◌+◌, ◌<◌, ◌≤◌, nat_lt, Bool, false, if◌then◌else◌, ◌∙◌, ap}
use Rattle.std.proofs.lemmas.Bool.Decides.{nat_tests}
use Rattle.mm_sourcelike.proofs.Tables.{less}

-- they agree on the locals from m on and below n
abbrev pub Agrees : (pointers kinds : ℕ → Bool) → ℕ → ℕ → Type 0
Agrees pointers kinds m n = (l : ℕ) → m ≤ l → l < n → pointers l ≡ kinds l

-- there are types for the locals from m on and below n under which this holds, whatever those of other locals are
pub record Typing (m n : ℕ) (P : (ℕ → Bool) → Type 0) : Type 0 where
  pub kinds : ℕ → Bool
  pub holds : (pointers : ℕ → Bool) → Agrees pointers kinds m n → P pointers

-- no fresh local
pub still : (n : ℕ) (P : (ℕ → Bool) → Type 0) → ((q : ℕ → Bool) → P q) → Typing n n P
still n P h = record { kinds = λ l. false; holds = λ q a. h q }

pub over : (m n : ℕ) (P Q : (ℕ → Bool) → Type 0) → ((q : ℕ → Bool) → P q → Q q) → Typing m n P → Typing m n Q
over m n P Q f t = record { kinds = t.kinds; holds = λ q a. f q (t.holds q a) }

not_less : (l k : ℕ) → k ≤ l → nat_lt l k ≡ false
not_less l k h = grind (arith, nat_tests)

-- those from m on, and then those from k on
pub both : (m k n : ℕ) (P Q : (ℕ → Bool) → Type 0) → m ≤ k → k ≤ n → Typing m k P → Typing k n Q → Typing m n (λ q. P q × Q q)
both m k n P Q le lt s t = record {
  kinds = λ l. if nat_lt l k then s.kinds l else t.kinds l;
  holds = λ q a. (
    s.holds q (λ l h g. a l h (omega (arith, g, lt)) ∙ ap (λ b. if b then s.kinds l else t.kinds l) (less l k g)),
    t.holds q (λ l h g. a l (omega (arith, h, le)) g ∙ ap (λ b. if b then s.kinds l else t.kinds l) (not_less l k h)),
  );
}

-- one fresh local of this type
pub fresh : (n : ℕ) (b : Bool) → Typing n (n + 1) (λ q. q n ≡ b)
fresh n b = record { kinds = λ l. b; holds = λ q a. a n (omega arith) (omega arith) }

pub then_fresh : (m k : ℕ) (P : (ℕ → Bool) → Type 0) (b : Bool) → m ≤ k → Typing m k P → Typing m (k + 1) (λ q. P q × (q k ≡ b))
then_fresh m k P b le t = both m k (k + 1) P (λ q. q k ≡ b) le (omega arith) t (fresh k b)
