-- Rows of flags for what is decided of each number, and of each instruction.
use Rattle.std.proofs.Common.{◌≡◌, ◌∙◌, ℕ, zero, suc, ◌<◌, Bool, true, false, List, [], ◌∷◌, length, inl, inr, arith, refl, sym, subst, ap, Some}
use Rattle.std.specs.Prelude.{◌↔◌, IsTrue, slice_get, slice_index_or}
use Rattle.std.proofs.lemmas.Bool.{true≢false}
use Rattle.std.proofs.lemmas.Option.{slice_get_within}
use Rattle.mm_goto.specs.declared.program.Thread.{Thread}
use Rattle.mm_goto.specs.Shapes.{flag_at}
use Rattle.mm_decided.proofs.Deciding.{Decided}
use Rattle.mm_points.proofs.Lists.{same_some}

-- so many flags, raised at the numbers below of which it holds
pub record Row (P : ℕ → Type 0) (count : ℕ) : Type 0 where
  pub flags : List Bool
  pub size : length flags ≡ count
  pub raised : (k : ℕ) → IsTrue (slice_index_or flags k false) ↔ ((k < count) × P k)

pub row : (count : ℕ) (P : ℕ → Type 0) → ((k : ℕ) → Decided (P k)) → Row P count
row zero P decided = record {
  flags = [];
  size = refl;
  raised = λ k. (λ up. absurd (true≢false (sym up)), λ h. absurd (let few = h.0 in omega (arith, few)));
}
row (suc count) P decided = by (row count (λ k. P (suc k)) (λ k. decided (suc k))) (decided zero)
  where
    later : (first : Bool) (rest : Row (λ k. P (suc k)) count) (k : ℕ) → IsTrue (slice_index_or (first ∷ rest.flags) (suc k) false) ↔ ((suc k < suc count) × P (suc k))
    later first rest k = (
      λ up. let h = (rest.raised k).0 up in ((let few = h.0 in omega (arith, few)), h.1),
      λ h. (rest.raised k).1 ((let few = h.0 in omega (arith, few)), h.1),
    )

    by : Row (λ k. P (suc k)) count → Decided (P zero) → Row P (suc count)
    by rest (inl is) = record { flags = true ∷ rest.flags; size = ap suc rest.size; raised = each }
      where
        each : (k : ℕ) → IsTrue (slice_index_or (true ∷ rest.flags) k false) ↔ ((k < suc count) × P k)
        each zero = (λ up. (omega arith, is), λ h. refl)
        each (suc k) = later true rest k
    by rest (inr fails) = record { flags = false ∷ rest.flags; size = ap suc rest.size; raised = each }
      where
        each : (k : ℕ) → IsTrue (slice_index_or (false ∷ rest.flags) k false) ↔ ((k < suc count) × P k)
        each zero = (λ up. absurd (true≢false (sym up)), λ h. absurd (fails h.1))
        each (suc k) = later false rest k

-- a thread of that number has an instruction of that number, and it holds of the two
abbrev pub AtInstr : List Thread → (ℕ → ℕ → Type 0) → ℕ → ℕ → Type 0
AtInstr threads P t k = (thread : Thread) × (slice_get threads t ≡ Some thread) × (k < length thread.code) × P t k

-- a row for each thread, with a flag for each instruction
pub record Table (P : ℕ → ℕ → Type 0) (threads : List Thread) : Type 0 where
  pub rows : List (List Bool)
  pub size : length rows ≡ length threads
  pub each : (t : ℕ) (thread : Thread) → slice_get threads t ≡ Some thread → length (slice_index_or rows t []) ≡ length thread.code
  pub raised : (t k : ℕ) → IsTrue (flag_at rows t k) ↔ AtInstr threads P t k

pub table : (threads : List Thread) (P : ℕ → ℕ → Type 0) → ((t k : ℕ) → Decided (P t k)) → Table P threads
table [] P decided = record {
  rows = [];
  size = refl;
  each = λ t thread is. absurd (let within = slice_get_within [] t thread is in omega (arith, within));
  raised = λ t k. (λ up. absurd (true≢false (sym up)), λ h. absurd (let within = slice_get_within [] t h.0 h.1 in omega (arith, within)));
}
table (first ∷ threads) P decided =
    let made = row (length first.code) (P 0) (decided 0) in
    let rest = table threads (λ t k. P (suc t) k) (λ t k. decided (suc t) k) in
    record { rows = made.flags ∷ rest.rows; size = ap suc rest.size; each = each made rest; raised = raised made rest }
  where
    each : (made : Row (P 0) (length first.code)) (rest : Table (λ t k. P (suc t) k) threads) (t : ℕ) (thread : Thread) → slice_get (first ∷ threads) t ≡ Some thread → length (slice_index_or (made.flags ∷ rest.rows) t []) ≡ length thread.code
    each made rest zero thread is = made.size ∙ ap (λ (x : Thread). length x.code) (same_some first thread is)
    each made rest (suc t) thread is = rest.each t thread is

    raised : (made : Row (P 0) (length first.code)) (rest : Table (λ t k. P (suc t) k) threads) (t k : ℕ) → IsTrue (flag_at (made.flags ∷ rest.rows) t k) ↔ AtInstr (first ∷ threads) P t k
    raised made rest zero k = (
      λ up. let h = (made.raised k).0 up in (first, refl, h.0, h.1),
      λ h. (made.raised k).1 (subst (λ (x : Thread). k < length x.code) (sym (same_some first h.0 h.1)) h.2, h.3),
    )
    raised made rest (suc t) k = rest.raised t k
