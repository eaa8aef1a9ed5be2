-- One turn of reading a text.
use Rattle.std.proofs.Common.{◌≡◌, ℕ, false, ◌+◌, ◌<◌, ◌≤◌, List, [], ◌∷◌, ◌++◌, length, length-append, Option, Some, None, Result, Ok, Err, refl, inl, inr, IsSome, MatchResult, sym, ap, subst, ◌∙◌, arith}
use Rattle.std.specs.Result.{IsErrAnd}
use Rattle.mm_sched.specs.declared.schedule.Line.{Line}
use Rattle.mm_sched.specs.declared.read.Stage.{Stage}
use Rattle.mm_sched.specs.declared.read.Stage.TheVariants.{First}
use Rattle.mm_sched.specs.declared.read.Passed.{Passed}
use Rattle.mm_sched.specs.ScheduleText.{newline, HasKept, IsFault}
use Rattle.mm_sched.specs.reading.Reading.{Cut, cut, next, lines_of, parts, onto, is_ended, read_text, HasSome, IsRead}
use Rattle.mm_sched.proofs.Cutting.{is_cut}
use Rattle.mm_sched.proofs.TextParts.{parts_cut, parts_uncut}
use Rattle.mm_sched.proofs.InTime.{IsInTime, line_is_behind}
use Rattle.mm_sched.proofs.ReadingOn.{onto_onto, read_err, read_schedule_is, read_bad_line}
use Rattle.mm_sched.specs.declared.schedule.SchedFault.{SchedFault}
use Rattle.mm_sched.specs.declared.schedule.SchedFault.TheVariants.{BadLine, NoMemory}

-- a line is passed
pub line_passed : (ls : List Line) (s : Stage) (k : ℕ) (text : List ℕ) (c : Cut) (p : Passed) (r : Result (List Line) ℕ) → cut newline text ≡ Some c → next s c.before ≡ Some p → onto ls (read_text s k text) ≡ r → onto (ls ++ lines_of p.line) (read_text p.stage (k + 1) c.behind) ≡ r
line_passed ls s k text c p r is fits h =
    sym (onto_onto ls (lines_of p.line) (read_text p.stage (k + 1) c.behind)) ∙ rw (parts_cut text c is, fits) at h

-- a line does not fit
pub line_refused : (ls : List Line) (s : Stage) (k : ℕ) (text : List ℕ) (c : Cut) (r : Result (List Line) ℕ) → cut newline text ≡ Some c → next s c.before ≡ None → onto ls (read_text s k text) ≡ r → r ≡ Err k
line_refused ls s k text c r is bad h = sym (rw (parts_cut text c is, bad) at h)

pub text_broken : (ls : List Line) (s : Stage) (k : ℕ) (text : List ℕ) (r : Result (List Line) ℕ) → cut newline text ≡ None → is_ended s text ≡ false → onto ls (read_text s k text) ≡ r → r ≡ Err k
text_broken ls s k text r is broken h = sym (rw (parts_uncut text is, broken) at h)

pub behind_shorter : (text : List ℕ) (c : Cut) → cut newline text ≡ Some c → length c.behind < length text
behind_shorter text c is = omega (arith, ap length (is_cut newline text c is).joins, length-append c.before (newline ∷ c.behind))

-- a number of a bad line is no less than that of the first line
bad_behind : (s : Stage) (k : ℕ) (text : List ℕ) (j : ℕ) → read_text s k text ≡ Err j → k ≤ j
bad_behind s k text j h = omega (arith, (read_err s k (parts text).ws (parts text).left j h).number)

-- some lines are read where one is kept that is the second or a later one
kept : (ls : List Line) (l : Line) (k : ℕ) (r : Result (List Line) ℕ) → 2 ≤ k → ((j : ℕ) → r ≡ Err j → k + 1 ≤ j) → HasSome (onto (ls ++ l ∷ []) r)
kept ls l k (Ok more) some bad = omega (arith, length-append (ls ++ l ∷ []) more, length-append ls (l ∷ []))
kept ls l k (Err j) some bad = omega (arith, some, bad j refl)

-- a line is kept
pub line_kept : (ls : List Line) (s : Stage) (k : ℕ) (text : List ℕ) (c : Cut) (p : Passed) (l : Line) (r : Result (List Line) ℕ) → cut newline text ≡ Some c → next s c.before ≡ Some p → p.line ≡ Some l → IsInTime s k → onto ls (read_text s k text) ≡ r → HasSome r
line_kept ls s k text c p l r is fits one t h =
    let goes : onto (ls ++ l ∷ []) (read_text p.stage (k + 1) c.behind) ≡ r = rw one at (line_passed ls s k text c p r is fits h) in
    subst HasSome goes (kept ls l k (read_text p.stage (k + 1) c.behind) (line_is_behind s c.before p l k t fits one) (bad_behind p.stage (k + 1) c.behind))

-- what fails with this error fails with a want of memory
pub wants_memory : {V : Type 0} (x : Result V SchedFault) (f : SchedFault) → IsErrAnd x (λ e. e ≡ f) → f ≡ NoMemory → x ≡ Err NoMemory
wants_memory (Ok v) f h g = absurd h
wants_memory (Err e) f h g = cc

-- memory was wanted for a line that is kept
pub line_wanted : {V : Type 0} (items : V → List Line) (ls : List Line) (s : Stage) (k : ℕ) (text : List ℕ) (c : Cut) (p : Passed) (r : Result (List Line) ℕ) (x : Result V SchedFault) → cut newline text ≡ Some c → next s c.before ≡ Some p → IsSome p.line → IsInTime s k → onto ls (read_text s k text) ≡ r → x ≡ Err NoMemory → MatchResult x (λ v. r ≡ Ok (items v)) (IsRead r)
line_wanted items ls s k text c p r x is fits one t h e = rw e (at p.line refl one)
  where
    at : (o : Option Line) → p.line ≡ o → IsSome o → HasSome r
    at (Some l) q some = line_kept ls s k text c p l r is fits q t h
    at None q some = cc

-- the text of which some lines are read has them
kept_in : (text : List ℕ) (r : Result (List Line) ℕ) → read_text First 1 text ≡ r → HasSome r → HasKept text
kept_in text (Ok ls) e some = inl (ls, read_schedule_is text ls e, some)
kept_in text (Err k) e some = inr (k, read_bad_line text k e, some)

-- the fault is that of the text
pub fault_is : (text : List ℕ) (e : SchedFault) → IsRead (read_text First 1 text) e → IsFault text e
fault_is text (BadLine k) h = read_bad_line text k h
fault_is text NoMemory h = kept_in text (read_text First 1 text) refl h
