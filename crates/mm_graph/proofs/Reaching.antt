-- What sweeps mark is what flow leads to.
use Rattle.std.proofs.Common.{◌≡◌, ℕ, ◌<◌, Bool, true, List, length, inl, inr, arith, Some}
use Rattle.std.proofs.lemmas.Bool.{cases_lt}
use Rattle.std.proofs.lemmas.Option.{slice_get_past}
use Rattle.std.specs.Prelude.{◌↔◌, ◌⊎◌, slice_get}
use Rattle.mm_goto.specs.declared.program.Instr.{Instr}
use Rattle.mm_goto.specs.Flow.{GoesTo, IsSuccessor}
use Rattle.mm_goto.specs.Sites.{FlowsBy, once, more, PassesAt}
use Rattle.mm_graph.specs.reading.Marks.{Marked}

-- the instruction that stands there says it
pub successor_at : (code : List Instr) (j m : ℕ) (it : Instr) → slice_get code j ≡ Some it → IsSuccessor code j m ↔ GoesTo j it m
successor_at code j m it is = rw is (λ h. h, λ h. h)

pub passes_at : (passes : Instr → Bool) (code : List Instr) (j : ℕ) (it : Instr) → slice_get code j ≡ Some it → PassesAt passes code j ↔ (passes it ≡ true)
passes_at passes code j it is = rw is (λ h. h, λ h. h)

pub passes_within : (passes : Instr → Bool) (code : List Instr) (j : ℕ) → PassesAt passes code j → j < length code
passes_within passes code j passing =
    elim (cases_lt j (length code)) [
      | inl small ↦ small
      | inr large ↦ absurd (rw (slice_get_past code j large) at passing)
    ]

module _ (passes : Instr → Bool) (code : List Instr) (from : ℕ) (seen : List Bool) where
  pub record IsClosed : Type 0 where
    pub first : (m : ℕ) → IsSuccessor code from m → m < length code → Marked seen m
    pub closed : (j m : ℕ) → Marked seen j → PassesAt passes code j → IsSuccessor code j m → m < length code → Marked seen m

  pub all_marked : IsClosed → (k : ℕ) → FlowsBy passes code from k → k < length code → Marked seen k
  all_marked marks k (once leads) small = marks.first k leads small
  all_marked marks k (more j flow passing leads) small =
      marks.closed j k (all_marked marks j flow (passes_within passes code j passing)) passing leads small

-- what is marked behind the first instruction is what it leads to
pub first_sound : (passes : Instr → Bool) (code : List Instr) (from : ℕ) (old new : List Bool) (it : Instr) → slice_get code from ≡ Some it
    → ((m : ℕ) → ¬ (Marked old m)) → ((m : ℕ) → Marked new m ↔ (Marked old m ⊎ ((m < length old) × GoesTo from it m)))
    → (m : ℕ) → Marked new m → FlowsBy passes code from m
first_sound passes code from old new it is none marks m h =
    elim ((marks m).0 h) [ inl p ↦ absurd (none m p) | inr p ↦ once ((successor_at code from m it is).1 p.1) ]

pub first_first : (code : List Instr) (from : ℕ) (old new : List Bool) (it : Instr) → slice_get code from ≡ Some it → length old ≡ length code
    → ((m : ℕ) → Marked new m ↔ (Marked old m ⊎ ((m < length old) × GoesTo from it m)))
    → (m : ℕ) → IsSuccessor code from m → m < length code → Marked new m
first_first code from old new it is places marks m leads small = (marks m).1 (inr (omega arith, (successor_at code from m it is).0 leads))
