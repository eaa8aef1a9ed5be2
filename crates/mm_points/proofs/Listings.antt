-- Lists of cells, as far as they are made.
use Rattle.std.proofs.Common.{◌≡◌, ℕ, ◌+◌, ◌*◌, ◌<◌, ◌≤◌, ◌^◌, List, [], ◌∷◌, ◌++◌, length, length-append, inl, inr, arith, Some, None, Option}
use Rattle.std.proofs.lemmas.Bool.{cases_eq}
use Rattle.std.proofs.lemmas.List.{get_or_append_left, get_or_push}
use Rattle.std.proofs.lemmas.List.Elements.{All-weaker}
use Rattle.std.proofs.lemmas.Nat.{row_fits}
use Rattle.std.specs.Prelude.{All, IfSome, slice_get, slice_index_or}
use Rattle.mm_goto.specs.declared.program.Instr.{Instr}
use Rattle.mm_goto.specs.declared.program.Thread.{Thread}
use Rattle.mm_goto.specs.Checks.{written_local}
use Rattle.mm_points.specs.Cells.{AreCells}
use Rattle.mm_points.specs.reading.Listed.{IsTargeted, AreListed}

pub listed_more : (T : ℕ → ℕ → Type 0) (base : ℕ) (code : List Instr) (n : ℕ) (lists : List (List ℕ)) (it : Instr) (cells : List ℕ) → AreListed T base code n lists
    → slice_get code n ≡ Some it → AreCells (IsTargeted T base it) cells → AreListed T base code (n + 1) (lists ++ cells ∷ [])
listed_more T base code n lists it cells so_far stands are =
    let size = so_far.size in
    record {
      size = omega (arith, length-append {A = List ℕ});
      each = λ i small. elim (cases_eq i n) [
        | inl here ↦ rw (here, stands, get_or_push lists cells [] n size) are
        | inr before ↦ rw (get_or_append_left lists (cells ∷ []) [] i (omega arith)) (so_far.each i (omega arith))
      ];
    }

pub tabled_more : (P : ℕ → Thread → List (List ℕ) → Type 0) (threads : List Thread) (n : ℕ) (table : List (List (List ℕ))) (thread : Thread) (lists : List (List ℕ)) → length table ≡ n
    → ((t : ℕ) → t < n → IfSome (slice_get threads t) (λ x. P t x (slice_index_or table t []))) → slice_get threads n ≡ Some thread → P n thread lists
    → (t : ℕ) → t < n + 1 → IfSome (slice_get threads t) (λ x. P t x (slice_index_or (table ++ lists ∷ []) t []))
tabled_more P threads n table thread lists size so_far stands is t small = elim (cases_eq t n) [
  | inl here ↦ rw (here, stands, get_or_push table lists [] n size) is
  | inr before ↦ rw (get_or_append_left table (lists ∷ []) [] t (omega arith)) (so_far t (omega arith))
]

if_some_more : {X : Type 0} (o : Option X) (P Q : X → Type 0) → ((x : X) → P x → Q x) → IfSome o P → IfSome o Q
if_some_more None P Q f h = h
if_some_more (Some x) P Q f h = f x h

-- what a thread writes is below what all locals take
pub writes_within : (base step n t : ℕ) (code : List Instr) → base + n * step < 2 ^ 32 → t < n → All (λ it. IfSome (written_local it) (λ l. l < step)) code
    → All (λ it. IfSome (written_local it) (λ l. base + t * step + l < 2 ^ 32)) code
writes_within base step n t code few small below =
    let fits : t * step + step ≤ n * step = row_fits t step n step small (omega arith) in
    All-weaker (λ it. IfSome (written_local it) (λ l. l < step)) (λ it. IfSome (written_local it) (λ l. base + t * step + l < 2 ^ 32))
    (λ it. if_some_more (written_local it) (λ l. l < step) (λ l. base + t * step + l < 2 ^ 32) (λ l h. omega arith)) code below
