-- What has been taken of a schedule.
use Rattle.std.proofs.Common.{◌≡◌, ℕ, suc, ◌+◌, ◌-◌, ◌<◌, List, [], ◌∷◌, ◌++◌, length, replicate, drop, Option, Some, None, refl, sym, ◌∙◌, ap, arith, append_assoc, append-nil, length-append, option_and_then, slice_index_or, subst}
use Rattle.std.proofs.lemmas.List.{at_drop_more, length-replicate}
use Rattle.mm_goto.specs.Listing.{Listing}
use Rattle.mm_sched.specs.declared.entry.Entry.{Entry}
use Rattle.mm_sched.specs.declared.entry.Rules.{Rules}
use Rattle.mm_sched.specs.declared.schedule.Line.{Line}
use Rattle.mm_sched.specs.State.{State, initial}
use Rattle.mm_sched.specs.Event.{next}
use Rattle.mm_sched.specs.Runs.{run}
use Rattle.mm_sched.specs.ScheduleText.{IsSchedule, IsBadLine, entries_in}
use Rattle.mm_sched.proofs.Joins.{run-append}
use Rattle.mm_run.specs.declared.status.Status.{Status}
use Rattle.mm_run.specs.declared.status.Status.TheVariants.{Done, BadSchedule, Stuck}
use Rattle.mm_run.specs.Lines.{bad_line, stuck_line, verdict_line}
use Rattle.mm_run.specs.Outcome.{IsStuckBehind, Outcome, TellsVerdict}
use Rattle.mm_run.specs.Answer.{Replays}

-- k of the entries have led from one state to another, and the rest is to come
pub record HasTaken (r : Rules) (p : Listing) (from : State) (es : List Entry) (to : State) (k : ℕ) (rest : List Entry) : Type 0 where
  pub front : List Entry
  pub parts : es ≡ front ++ rest
  pub count : length front ≡ k
  pub runs : run r p from front ≡ Some to

module _ (r : Rules) (p : Listing) (from : State) (es : List Entry) where
  pub none_taken : HasTaken r p from es from 0 es
  none_taken = record { front = []; parts = refl; count = refl; runs = refl }

  runs_on : (front xs : List Entry) (mid to : State) → run r p from front ≡ Some mid → run r p mid xs ≡ Some to → run r p from (front ++ xs) ≡ Some to
  runs_on front xs mid to e f = run-append r p from front xs ∙ ap (λ (o : Option State). option_and_then (λ s. run r p s xs) o) e ∙ f

  pub more_taken : (mid to : State) (k : ℕ) (xs rest : List Entry) → HasTaken r p from es mid k (xs ++ rest) → run r p mid xs ≡ Some to → HasTaken r p from es to (k + length xs) rest
  more_taken mid to k xs rest h e = record {
    front = h.front ++ xs;
    parts = h.parts ∙ sym (append_assoc h.front xs rest);
    count = length-append h.front xs ∙ ap (λ n. n + length xs) h.count;
    runs = runs_on h.front xs mid to h.runs e;
  }

  pub all_taken : (to : State) (k : ℕ) → HasTaken r p from es to k [] → run r p from es ≡ Some to
  all_taken to k h = ap (λ (xs : List Entry). run r p from xs) (h.parts ∙ append-nil h.front) ∙ h.runs

  pub stuck_later : (mid : State) (k j : ℕ) (xs rest : List Entry) → HasTaken r p from es mid k (xs ++ rest) → IsStuckBehind r p mid xs j → IsStuckBehind r p from es (k + j)
  stuck_later mid k j xs rest h s = record {
    before = h.front ++ s.before;
    entry = s.entry;
    behind = s.behind ++ rest;
    mid = s.mid;
    parts = h.parts ∙ ap (λ ys. h.front ++ (ys ++ rest)) s.parts ∙ ap (λ ys. h.front ++ ys) (append_assoc s.before (s.entry ∷ s.behind) rest) ∙ sym (append_assoc h.front s.before (s.entry ∷ (s.behind ++ rest)));
    count = length-append h.front s.before ∙ ap (λ n. n + length s.before) h.count ∙ ap (λ n. k + n) s.count;
    runs = runs_on h.front s.before mid s.mid h.runs s.runs;
    stuck = s.stuck;
  }

-- one entry of a line
module _ (r : Rules) (p : Listing) (from mid : State) (n k : ℕ) (e : Entry) (h : HasTaken r p from (replicate n e) mid k (replicate (n - k) e)) (l : k < n) where
  one_more : replicate (n - k) e ≡ (e ∷ []) ++ replicate (n - (k + 1)) e
  one_more = let m : n - k ≡ suc (n - (k + 1)) = omega (arith, l) in ap (λ i. replicate i e) m

  here : HasTaken r p from (replicate n e) mid k ((e ∷ []) ++ replicate (n - (k + 1)) e)
  here = rw (sym one_more) h

  pub entry_taken : (to : State) → next r p mid e ≡ Some to → HasTaken r p from (replicate n e) to (k + 1) (replicate (n - (k + 1)) e)
  entry_taken to f = more_taken r p from (replicate n e) mid to k (e ∷ []) (replicate (n - (k + 1)) e) here (ap (λ (o : Option State). option_and_then (λ s. Some s) o) f)

  pub entry_stuck : (q : Rules) (o : Listing) → q ≡ r → o ≡ p → next q o mid e ≡ None → IsStuckBehind r p from (replicate n e) k
  entry_stuck q o same_rules same_program g = let f : next r p mid e ≡ None = rw (sym same_rules, sym same_program) g in record { before = here.front; entry = e; behind = replicate (n - (k + 1)) e; mid = mid; parts = here.parts; count = here.count; runs = here.runs; stuck = f }

-- one line, where the machine keeps its rules and its program
module _ (r q : Rules) (p o : Listing) (same_rules : q ≡ r) (same_program : o ≡ p) (from mid : State) (k i : ℕ) (lines : List Line) (d : Line) (h : HasTaken r p from (entries_in lines) mid k (entries_in (drop i lines))) (l : i < length lines) where
  abbrev line : Line
  line = slice_index_or lines i d

  abbrev rest : List Entry
  rest = entries_in (drop (i + 1) lines)

  ahead : HasTaken r p from (entries_in lines) mid k (replicate line.count line.item ++ rest)
  ahead = let e : entries_in (drop i lines) ≡ replicate line.count line.item ++ rest = at_drop_more entries_in lines i d l in rw (sym e) h

  pub line_taken : (to : State) → run q o mid (replicate line.count line.item) ≡ Some to → HasTaken r p from (entries_in lines) to (k + line.count) rest
  line_taken to g =
      let f : run r p mid (replicate line.count line.item) ≡ Some to = rw (sym same_rules, sym same_program) g in
      let n : length (replicate line.count line.item) ≡ line.count = length-replicate line.count line.item in
      let t : HasTaken r p from (entries_in lines) to (k + length (replicate line.count line.item)) rest = more_taken r p from (entries_in lines) mid to k (replicate line.count line.item) rest ahead f in
      subst (λ m. HasTaken r p from (entries_in lines) to (k + m) rest) n t

  pub line_stuck : (j : ℕ) → IsStuckBehind q o mid (replicate line.count line.item) j → IsStuckBehind r p from (entries_in lines) (k + j)
  line_stuck j g = stuck_later r p from (entries_in lines) mid k j (replicate line.count line.item) rest ahead (rw (sym same_rules, sym same_program) g)

-- ---- the answer

module _ (r : Rules) (p : Listing) (from : State) (same : from ≡ initial p) (lines : List Line) (status : Status) (out : List ℕ) (text : List ℕ) (h : IsSchedule text lines) where
  pub replay_ends : (last : State) (verdict : Option ℕ) → run r p from (entries_in lines) ≡ Some last → verdict ≡ last.verdict → status ≡ Done → out ≡ verdict_line verdict → Replays r p text status out
  replay_ends last verdict e v s o = rw (s, o, v) (Outcome.ends lines last h (subst (λ s. run r p s (entries_in lines) ≡ Some last) same e) TellsVerdict.verdict)

  pub replay_sticks : (k : ℕ) → IsStuckBehind r p from (entries_in lines) k → status ≡ Stuck → out ≡ stuck_line (k + 1) → Replays r p text status out
  replay_sticks k e s o = rw (s, o) (Outcome.stuck lines k h (subst (λ s. IsStuckBehind r p s (entries_in lines) k) same e))

pub is_bad : (r : Rules) (p : Listing) (text : List ℕ) (status : Status) (out : List ℕ) (k : ℕ) → IsBadLine text k → status ≡ BadSchedule → out ≡ bad_line k → Replays r p text status out
is_bad r p text status out k h s o = rw (s, o) (Outcome.bad k h)
