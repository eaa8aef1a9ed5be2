-- A schedule has one outcome on a machine.
use Rattle.std.proofs.Common.{◌≡◌, ℕ, suc, ◌+◌, List, [], ◌∷◌, ◌++◌, length, Option, Some, None, option_and_then, refl, sym, ◌∙◌, ap, subst}
use Rattle.std.proofs.lemmas.Option.{option_and_then_some}
use Rattle.mm_goto.specs.Listing.{Listing}
use Rattle.mm_sched.specs.declared.entry.Entry.{Entry}
use Rattle.mm_sched.specs.declared.entry.Rules.{Rules}
use Rattle.mm_sched.specs.declared.schedule.Line.{Line}
use Rattle.mm_sched.specs.State.{State, initial}
use Rattle.mm_sched.specs.Event.{next}
use Rattle.mm_sched.specs.Runs.{run}
use Rattle.mm_sched.specs.ScheduleText.{IsSchedule, entries_in}
use Rattle.mm_sched.proofs.ReadingOn.{not_both, one_bad_line, one_schedule}
use Rattle.mm_run.specs.declared.status.Status.{Status}
use Rattle.mm_run.specs.Lines.{bad_line, stuck_line}
use Rattle.mm_run.specs.Outcome.{IsStuckBehind, Outcome, RunAnswer}
use Rattle.mm_run.proofs.Completing.{no_other_end}

-- for each run there is one answer at most
abbrev pub HasOneAnswer : RunAnswer → Type 0
HasOneAnswer Ends = (es : List Entry) (last : State) (a b : Status) (out text : List ℕ) → Ends es last a out → Ends es last b text → (a ≡ b) × (out ≡ text)

module _ (r : Rules) (p : Listing) where
  -- no run goes on with an entry that is not enabled
  goes_no_further : (s last : State) (x : Entry) (xs : List Entry) → next r p s x ≡ None → run r p s (x ∷ xs) ≡ Some last → ⊥
  goes_no_further s last x xs e h = let none : run r p s (x ∷ xs) ≡ None = ap (λ (o : Option State). option_and_then (λ mid. run r p mid xs) o) e in cc

  -- as many entries come before the first that is not enabled
  same_front : (from m n : State) (xs ys xr yr : List Entry) (x y : Entry) → xs ++ x ∷ xr ≡ ys ++ y ∷ yr → run r p from xs ≡ Some m → next r p m x ≡ None → run r p from ys ≡ Some n → next r p n y ≡ None → length xs ≡ length ys
  same_front from m n [] [] xr yr x y e h i k j = refl
  same_front from m n [] (b ∷ ys) xr yr x y e h i k j =
      let here : m ≡ from = cc in
      let first : x ≡ b = cc in
      absurd (goes_no_further from n b ys (subst (λ (z : Entry). next r p from z ≡ None) first (subst (λ (s : State). next r p s x ≡ None) here i)) k)
  same_front from m n (a ∷ xs) [] xr yr x y e h i k j =
      let here : n ≡ from = cc in
      let first : y ≡ a = cc in
      absurd (goes_no_further from m a xs (subst (λ (z : Entry). next r p from z ≡ None) first (subst (λ (s : State). next r p s y ≡ None) here j)) h)
  same_front from m n (a ∷ xs) (b ∷ ys) xr yr x y e h i k j =
      let first : b ≡ a = cc in
      let more : xs ++ x ∷ xr ≡ ys ++ y ∷ yr = cc in
      let other : run r p from (a ∷ ys) ≡ Some n = subst (λ (z : Entry). run r p from (z ∷ ys) ≡ Some n) first k in
      option_and_then_some (λ s. run r p s xs) (next r p from a) m h (λ s f g.
      let there : run r p s ys ≡ Some n = sym (ap (λ (o : Option State). option_and_then (λ mid. run r p mid ys) o) f) ∙ other in
      ap suc (same_front s m n xs ys xr yr x y more g i there j))

  -- a run has one first entry that is not enabled, and one last state
  one_stuck : (from : State) (es : List Entry) (j k : ℕ) → IsStuckBehind r p from es j → IsStuckBehind r p from es k → j ≡ k
  one_stuck from es j k a b = sym a.count ∙ same_front from a.mid b.mid a.before b.before a.behind b.behind a.entry b.entry (sym a.parts ∙ b.parts) a.runs a.stuck b.runs b.stuck ∙ b.count

  one_last : (from m n : State) (es : List Entry) → run r p from es ≡ Some m → run r p from es ≡ Some n → m ≡ n
  one_last from m n es h k = cc

  module _ (schedule : List ℕ) where
    -- what holds of the lines of a schedule holds of its lines as they are read again
    of_lines : (P : List Entry → Type 0) (ls ms : List Line) → IsSchedule schedule ls → IsSchedule schedule ms → P (entries_in ms) → P (entries_in ls)
    of_lines P ls ms h k = subst (λ (xs : List Line). P (entries_in xs)) (one_schedule schedule ms ls k h)

    not_stuck : (ls ms : List Line) (last : State) (k : ℕ) → IsSchedule schedule ls → IsSchedule schedule ms → run r p (initial p) (entries_in ls) ≡ Some last → IsStuckBehind r p (initial p) (entries_in ms) k → ⊥
    not_stuck ls ms last k h i e s = no_other_end r p (initial p) last (entries_in ls) k e (of_lines (λ es. IsStuckBehind r p (initial p) es k) ls ms h i s)

    -- the lines are one list or one is bad, and they come to an end, where one answer is given, or stop at one entry
    pub one_outcome : (Ends : RunAnswer) → HasOneAnswer Ends → (a b : Status) (out text : List ℕ) → Outcome r p Ends schedule a out → Outcome r p Ends schedule b text → (a ≡ b) × (out ≡ text)
    one_outcome Ends one a b out text (Outcome.ends ls m h e u) (Outcome.ends ms n k f v) =
        let lines : entries_in ms ≡ entries_in ls = ap entries_in (one_schedule schedule ms ls k h) in
        let last : n ≡ m = one_last (initial p) n m (entries_in ls) (of_lines (λ es. run r p (initial p) es ≡ Some n) ls ms h k f) e in
        one (entries_in ls) m a b out text u (subst (λ (s : State). Ends (entries_in ls) s b text) last (subst (λ (es : List Entry). Ends es n b text) lines v))
    one_outcome Ends one a b out text (Outcome.stuck ls m h e) (Outcome.stuck ms n k f) =
        (refl, ap (λ j. stuck_line (j + 1)) (one_stuck (initial p) (entries_in ls) m n e (of_lines (λ es. IsStuckBehind r p (initial p) es n) ls ms h k f)))
    one_outcome Ends one a b out text (Outcome.bad m h) (Outcome.bad n k) = (refl, ap bad_line (one_bad_line schedule m n h k))
    one_outcome Ends one a b out text (Outcome.ends ls m h e u) (Outcome.stuck ms n k f) = absurd (not_stuck ls ms m n h k e f)
    one_outcome Ends one a b out text (Outcome.ends ls m h e u) (Outcome.bad n k) = absurd (not_both schedule ls n h k)
    one_outcome Ends one a b out text (Outcome.stuck ls m h e) (Outcome.ends ms n k f v) = absurd (not_stuck ms ls n m k h f e)
    one_outcome Ends one a b out text (Outcome.stuck ls m h e) (Outcome.bad n k) = absurd (not_both schedule ls n h k)
    one_outcome Ends one a b out text (Outcome.bad m h) (Outcome.ends ms n k f v) = absurd (not_both schedule ms m k h)
    one_outcome Ends one a b out text (Outcome.bad m h) (Outcome.stuck ms n k f) = absurd (not_both schedule ms m k h)
