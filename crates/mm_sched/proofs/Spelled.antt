-- What is spelled, step by step.
use Rattle.std.proofs.Common.{◌≡◌, ◌≢◌, ℕ, zero, suc, ◌+◌, ◌-◌, ◌/◌, ◌%◌, ◌<◌, ◌≤◌, Bool, true, false, ◌==◌, nat_lt, List, [], ◌∷◌, ◌++◌, append_assoc, append-nil, length, drop, get_or, replicate, refl, sym, ap, ◌∙◌, cond, if◌then◌else◌, arith, ◌⊎◌, ⊎_elim}
use Rattle.std.specs.List.{flat_map}
use Rattle.std.proofs.lemmas.Bool.Decides.{eqb_tells, nat_tests}
use Rattle.std.proofs.lemmas.List.{replicate-append-replicate, at_drop_more, at_drop_all}
use Rattle.std.proofs.lemmas.List.Concat.{flat_map-append}
use Rattle.mm_sched.specs.declared.entry.Entry.{Entry}
use Rattle.mm_sched.specs.declared.entry.Entry.TheVariants.{Step, In, Flush, FlushCell}
use Rattle.mm_sched.specs.declared.schedule.Line.{Line}
use Rattle.mm_sched.specs.declared.schedule.TheConstants.{FULL}
use Rattle.mm_sched.specs.declared.write.Held.{Held}
use Rattle.mm_sched.specs.ScheduleText.{newline, entries_in}
use Rattle.mm_sched.specs.Spelling.{is_same_step, in_front, runs, last_part, run_lines, spelled_lines, line_text}
use Rattle.mm_sched.specs.ScheduleText.{times}
use Rattle.mm_sched.specs.reading.Writing.{lines_text}
use Rattle.mm_sched.specs.reading.Writing.{held, held_line, filled, grown, written_some, held_some, written, held_behind}
use Rattle.mm_sched.proofs.Numerals.{one_above}

-- one more line of many
pub lines_more : (n : ℕ) (l : Line) → lines_text (replicate n l) ++ lines_text (l ∷ []) ≡ lines_text (replicate (n + 1) l)
lines_more n l = sym (flat_map-append (λ l. line_text l ++ newline ∷ []) (replicate n l) (l ∷ [])) ∙ ap lines_text (replicate-append-replicate n 1 l)

-- ---- runs that begin with steps of a thread

abbrev pub steps_in_front : ℕ → List Line → ℕ
steps_in_front t [] = 0
steps_in_front t (r ∷ rs) = if is_same_step (Step t) r.item then r.count else 0

abbrev pub runs_behind : ℕ → List Line → List Line
runs_behind t [] = []
runs_behind t (r ∷ rs) = if is_same_step (Step t) r.item then rs else r ∷ rs

same_self : (t : ℕ) → is_same_step (Step t) (Step t) ≡ true
same_self t = grind (arith, nat_tests)

pub same_is : (e f : Entry) → is_same_step e f ≡ true → e ≡ f
same_is (Step t) (Step u) h = ⊎_elim (λ p. ap (λ x. Step x) p.1) (λ p. cc (p.0)) (eqb_tells t u)
same_is (Step t) (In u v) h = cc
same_is (Step t) (Flush u) h = cc
same_is (Step t) (FlushCell u c) h = cc
same_is (In t v) f h = cc
same_is (Flush t) f h = cc
same_is (FlushCell t c) f h = cc

no_lines : (e : Entry) → run_lines (times e 0) ≡ []
no_lines e = refl

-- lines of runs, by the steps of the thread in front
split_runs : (t : ℕ) (rs : List Line) → flat_map run_lines rs ≡ run_lines (times (Step t) (steps_in_front t rs)) ++ flat_map run_lines (runs_behind t rs)
split_runs t [] = refl
split_runs t (r ∷ rs) = at (is_same_step (Step t) r.item) (same_is (Step t) r.item)
  where
    at : (b : Bool) → (b ≡ true → Step t ≡ r.item) → flat_map run_lines (r ∷ rs) ≡ run_lines (times (Step t) (cond b r.count 0)) ++ flat_map run_lines (cond b rs (r ∷ rs))
    at true is = rw (is refl) refl
    at false is = refl

front_grows : (t : ℕ) (rs : List Line) → steps_in_front t (in_front (Step t) rs) ≡ steps_in_front t rs + 1
front_grows t [] = rw (same_self t) refl
front_grows t (r ∷ rs) = at (is_same_step (Step t) r.item)
  where
    at : (b : Bool) → steps_in_front t (cond b (times (Step t) (r.count + 1) ∷ rs) (times (Step t) 1 ∷ r ∷ rs)) ≡ cond b r.count 0 + 1
    at true = rw (same_self t) refl
    at false = rw (same_self t) refl

behind_stays : (t : ℕ) (rs : List Line) → runs_behind t (in_front (Step t) rs) ≡ runs_behind t rs
behind_stays t [] = rw (same_self t) refl
behind_stays t (r ∷ rs) = at (is_same_step (Step t) r.item)
  where
    at : (b : Bool) → runs_behind t (cond b (times (Step t) (r.count + 1) ∷ rs) (times (Step t) 1 ∷ r ∷ rs)) ≡ cond b rs (r ∷ rs)
    at true = rw (same_self t) refl
    at false = rw (same_self t) refl

abbrev pub steps : ℕ → ℕ → List Entry
steps t n = replicate n (Step t)

front_steps : (t n : ℕ) (es : List Entry) → steps_in_front t (runs (steps t n ++ es)) ≡ n + steps_in_front t (runs es)
front_steps t zero es = omega arith
front_steps t (suc n) es = omega (arith, front_grows t (runs (steps t n ++ es)), front_steps t n es)

behind_steps : (t n : ℕ) (es : List Entry) → runs_behind t (runs (steps t n ++ es)) ≡ runs_behind t (runs es)
behind_steps t zero es = refl
behind_steps t (suc n) es = behind_stays t (runs (steps t n ++ es)) ∙ behind_steps t n es

-- what is spelled of steps in front of entries
spelled_steps : (t n : ℕ) (es : List Entry) → spelled_lines (steps t n ++ es) ≡ run_lines (times (Step t) (n + steps_in_front t (runs es))) ++ flat_map run_lines (runs_behind t (runs es))
spelled_steps t n es = split_runs t (runs (steps t n ++ es)) ∙ rw (front_steps t n es, behind_steps t n es) refl

-- ---- a full line, and the last part

full_first : (e : Entry) (n : ℕ) → run_lines (times e (FULL + n)) ≡ times e FULL ∷ run_lines (times e n)
full_first e n =
    let lines : (FULL + n) / FULL ≡ suc (n / FULL) = omega arith in
    let rest : (FULL + n) % FULL ≡ n % FULL = omega arith in
    rw (lines, rest) refl

last_alone : (e : Entry) (n : ℕ) → n < FULL → run_lines (times e n) ≡ last_part e n
last_alone e n small =
    let lines : n / FULL ≡ 0 = omega arith in
    let rest : n % FULL ≡ n = omega arith in
    rw (lines, rest) refl

-- ---- what comes behind steps

-- no runs of steps of the thread are in front
pub record IsApart (t : ℕ) (rs : List Line) : Type 0 where
  pub none : steps_in_front t rs ≡ 0
  pub all : runs_behind t rs ≡ rs

nothing_apart : (t : ℕ) → IsApart t []
nothing_apart t = record { none = refl; all = refl }

entry_apart : (t : ℕ) (e : Entry) (rs : List Line) → is_same_step (Step t) e ≡ false → IsApart t (in_front e rs)
entry_apart t e [] other = record { none = rw other refl; all = rw other refl }
entry_apart t e (r ∷ rs) other = at (is_same_step e r.item)
  where
    at : (b : Bool) → IsApart t (cond b (times e (r.count + 1) ∷ rs) (times e 1 ∷ r ∷ rs))
    at true = record { none = rw other refl; all = rw other refl }
    at false = record { none = rw other refl; all = rw other refl }

-- steps are a run by themselves
spelled_alone : (t n : ℕ) (es : List Entry) → n < FULL → IsApart t (runs es) → spelled_lines (steps t n ++ es) ≡ last_part (Step t) n ++ spelled_lines es
spelled_alone t n es small apart =
    let count : n + steps_in_front t (runs es) ≡ n = omega (arith, apart.none) in
    spelled_steps t n es ∙ rw (count, apart.all, last_alone (Step t) n small) refl

-- steps that fill a line
spelled_full : (t n : ℕ) (es : List Entry) → spelled_lines (steps t (FULL + n) ++ es) ≡ times (Step t) FULL ∷ spelled_lines (steps t n ++ es)
spelled_full t n es =
    let sum : FULL + n + steps_in_front t (runs es) ≡ FULL + (n + steps_in_front t (runs es)) = omega arith in
    let first = spelled_steps t (FULL + n) es in
    let rest = spelled_steps t n es in
    first ∙ rw (sum, full_first (Step t) (n + steps_in_front t (runs es)), rest) refl

more_steps : (t m n : ℕ) (es : List Entry) → steps t m ++ (steps t n ++ es) ≡ steps t (m + n) ++ es
more_steps t m n es = sym (append_assoc (steps t m) (steps t n) es) ∙ ap (λ x. x ++ es) (replicate-append-replicate m n (Step t))

-- what is spelled with so many steps held
abbrev pub spelled_with : Held → List Entry → List Line
spelled_with h es = spelled_lines (steps h.thread h.steps ++ es)

spelled_grown : (h : Held) (n : ℕ) (es : List Entry) → spelled_with h (steps h.thread n ++ es) ≡ filled h n ++ spelled_with (grown h n) es
spelled_grown h n es = more_lines ∙ at (nat_lt (h.steps + n) FULL) (fits (h.steps + n))
  where
    more_lines : spelled_with h (steps h.thread n ++ es) ≡ spelled_lines (steps h.thread (h.steps + n) ++ es)
    more_lines = ap spelled_lines (more_steps h.thread h.steps n es)

    fits : (m : ℕ) → nat_lt m FULL ≡ false → m ≡ FULL + (m - FULL)
    fits m e = grind (arith, nat_tests)

    at : (b : Bool) → (b ≡ false → h.steps + n ≡ FULL + (h.steps + n - FULL)) → spelled_lines (steps h.thread (h.steps + n) ++ es) ≡ cond b [] (times (Step h.thread) FULL ∷ []) ++ spelled_with (cond b (held h.thread (h.steps + n)) (held h.thread (h.steps + n - FULL))) es
    at true over = refl
    at false over = ap (λ m. spelled_lines (steps h.thread m ++ es)) (over refl) ∙ spelled_full h.thread (h.steps + n - FULL) es

-- ---- a line behind what is held

-- an entry that is no step joins nothing
abbrev NoStep : Entry → Type 0
NoStep e = (f : Entry) → is_same_step e f ≡ false

alone_in_front : (e : Entry) (rs : List Line) → NoStep e → in_front e rs ≡ times e 1 ∷ rs
alone_in_front e [] no_step = refl
alone_in_front e (r ∷ rs) no_step = rw (no_step r.item) refl

spelled_alone_each : (e : Entry) (n : ℕ) (es : List Entry) → NoStep e → spelled_lines (replicate n e ++ es) ≡ replicate n (times e 1) ++ spelled_lines es
spelled_alone_each e zero es no_step = refl
spelled_alone_each e (suc n) es no_step = rw (alone_in_front e (runs (replicate n e ++ es)) no_step) (ap (λ x. times e 1 ∷ x) (spelled_alone_each e n es no_step))

-- another entry behind what is held
spelled_other : (h : Held) (e : Entry) (n : ℕ) (es : List Entry) → h.steps < FULL → is_same_step (Step h.thread) e ≡ false → spelled_with h (replicate (suc n) e ++ es) ≡ held_line h ++ spelled_lines (replicate (suc n) e ++ es)
spelled_other h e n es small other = spelled_alone h.thread h.steps (replicate (suc n) e ++ es) small (entry_apart h.thread e (runs (replicate n e ++ es)) other)

spelled_no_step : (h : Held) (e : Entry) (n : ℕ) (es : List Entry) → h.steps < FULL → is_same_step (Step h.thread) e ≡ false → NoStep e → spelled_with h (replicate (suc n) e ++ es) ≡ (held_line h ++ replicate (suc n) (times e 1)) ++ spelled_lines es
spelled_no_step h e n es small other no_step = spelled_other h e n es small other ∙ ap (λ x. held_line h ++ x) (spelled_alone_each e (suc n) es no_step) ∙ sym (append_assoc (held_line h) (replicate (suc n) (times e 1)) (spelled_lines es))

other_thread : (t u : ℕ) → (t == u) ≡ false → is_same_step (Step u) (Step t) ≡ false
other_thread t u h = grind (arith, nat_tests)

spelled_some : (h : Held) (e : Entry) (n : ℕ) (es : List Entry) → h.steps < FULL → spelled_with h (replicate (suc n) e ++ es) ≡ written_some h e (suc n) ++ spelled_with (held_some h e (suc n)) es
spelled_some h (In t v) n es small = spelled_no_step h (In t v) n es small refl (λ f. refl)
spelled_some h (Flush t) n es small = spelled_no_step h (Flush t) n es small refl (λ f. refl)
spelled_some h (FlushCell t c) n es small = spelled_no_step h (FlushCell t c) n es small refl (λ f. refl)
spelled_some h (Step t) n es small = at (t == h.thread) (eqb_tells t h.thread) (other_thread t h.thread)
  where
    at : (b : Bool) → ((b ≡ true) × (t ≡ h.thread)) ⊎ ((b ≡ false) × (t ≢ h.thread)) → (b ≡ false → is_same_step (Step h.thread) (Step t) ≡ false) → spelled_with h (steps t (suc n) ++ es) ≡ (cond b [] (held_line h) ++ filled (cond b h (held t 0)) (suc n)) ++ spelled_with (grown (cond b h (held t 0)) (suc n)) es
    at true tells other =
        let same : t ≡ h.thread = ⊎_elim (λ p. p.1) (λ p. cc (p.0)) tells in
        ap (λ u. spelled_with h (steps u (suc n) ++ es)) same ∙ spelled_grown h (suc n) es
    at false tells other =
        spelled_other h (Step t) n es small (other refl) ∙ ap (λ x. held_line h ++ x) (spelled_grown (held t 0) (suc n) es) ∙ sym (append_assoc (held_line h) (filled (held t 0) (suc n)) (spelled_with (grown (held t 0) (suc n)) es))

spelled_count : (h : Held) (e : Entry) (n : ℕ) (es : List Entry) → h.steps < FULL → spelled_with h (replicate n e ++ es) ≡ written h (times e n) ++ spelled_with (held_behind h (times e n)) es
spelled_count h e zero es small = refl
spelled_count h e (suc n) es small = rw (one_above n) (spelled_some h e n es small)

-- a line, and the entries behind it
pub spelled_line : (h : Held) (l : Line) (ls : List Line) → h.steps < FULL → spelled_with h (entries_in (l ∷ ls)) ≡ written h l ++ spelled_with (held_behind h l) (entries_in ls)
spelled_line h l ls small = spelled_count h l.item l.count (entries_in ls) small

pub spelled_end : (h : Held) → h.steps < FULL → spelled_with h [] ≡ held_line h
spelled_end h small = spelled_alone h.thread h.steps [] small (nothing_apart h.thread) ∙ append-nil (held_line h)

-- ---- in text

pub lines_text-append : (xs ys : List Line) → lines_text (xs ++ ys) ≡ lines_text xs ++ lines_text ys
lines_text-append xs ys = flat_map-append (λ l. line_text l ++ newline ∷ []) xs ys

-- a line is written
pub line_written : (out more all : List ℕ) (h : Held) (l : Line) (ls : List Line) → h.steps < FULL → out ++ lines_text (spelled_with h (entries_in (l ∷ ls))) ≡ all → more ≡ out ++ lines_text (written h l) → more ++ lines_text (spelled_with (held_behind h l) (entries_in ls)) ≡ all
line_written out more all h l ls small is put =
    let line = ap lines_text (spelled_line h l ls small) ∙ lines_text-append (written h l) (spelled_with (held_behind h l) (entries_in ls)) in
    rw (put, append_assoc) (rw line at is)

-- the last line is written
pub last_written : (out more all : List ℕ) (h : Held) → h.steps < FULL → out ++ lines_text (spelled_with h []) ≡ all → more ≡ out ++ lines_text (held_line h) → more ≡ all
last_written out more all h small is put = put ∙ rw (spelled_end h small) at is

-- the line at a place is written
pub line_written_at : (out more all : List ℕ) (h next : Held) (ls : List Line) (i : ℕ) (d : Line) → i < length ls → h.steps < FULL → out ++ lines_text (spelled_with h (entries_in (drop i ls))) ≡ all → more ≡ out ++ lines_text (written h (get_or ls i d)) → next ≡ held_behind h (get_or ls i d) → more ++ lines_text (spelled_with next (entries_in (drop (i + 1) ls))) ≡ all
line_written_at out more all h next ls i d within small is put e =
    let here = at_drop_more (λ x. out ++ lines_text (spelled_with h (entries_in x))) ls i d within in
    rw e (line_written out more all h (get_or ls i d) (drop (i + 1) ls) small (sym here ∙ is) put)

pub last_written_at : (out more all : List ℕ) (h : Held) (ls : List Line) (i : ℕ) → length ls ≤ i → h.steps < FULL → out ++ lines_text (spelled_with h (entries_in (drop i ls))) ≡ all → more ≡ out ++ lines_text (held_line h) → more ≡ all
last_written_at out more all h ls i past small is put =
    let here = at_drop_all (λ x. out ++ lines_text (spelled_with h (entries_in x))) ls i past in
    last_written out more all h small (sym here ∙ is) put
