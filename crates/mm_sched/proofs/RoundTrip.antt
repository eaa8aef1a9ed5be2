-- What is spelled is read.
use Rattle.std.proofs.Common.{◌≡◌, ◌≢◌, ℕ, zero, suc, ◌+◌, ◌*◌, ◌/◌, ◌%◌, ◌^◌, ◌<◌, ◌≤◌, Bool, true, false, ◌==◌, List, [], ◌∷◌, ◌++◌, append-nil, length, map, replicate, codes, refl, ap, ◌∙◌, cond, arith, add-one, inl, inr, ◌⊎◌, ⊎_elim}
use Rattle.std.specs.List.{flat_map, All, AllZip}
use Rattle.std.proofs.lemmas.Bool.Decides.{eqb_tells}
use Rattle.std.proofs.lemmas.Nat.{div-add-mod'}
use Rattle.std.proofs.lemmas.List.{replicate-append-replicate}
use Rattle.std.proofs.lemmas.List.Concat.{flat_map-append}
use Rattle.std.proofs.lemmas.List.Elements.{All-nil, All-cons, All-head, All-tail, All-append, All-replicate}
use Rattle.mm_sched.specs.declared.entry.Entry.{Entry}
use Rattle.mm_sched.specs.declared.entry.Entry.TheVariants.{Step, In, Flush, FlushCell}
use Rattle.mm_sched.specs.declared.schedule.Line.{Line}
use Rattle.mm_sched.specs.declared.schedule.TheConstants.{FULL, MAX_ENTRIES}
use Rattle.mm_sched.specs.ScheduleText.{newline, whole, entries_in, step_text, steps_text, IsEntry, Says, IsLine, first_line, last_line, IsSchedule}
use Rattle.mm_sched.specs.Spelling.{is_same_step, in_front, runs, last_part, run_lines, spelled_lines, text_of, line_text, spell}
use Rattle.mm_sched.specs.ScheduleText.{times}
use Rattle.mm_sched.specs.reading.Writing.{lines_text}
use Rattle.mm_sched.proofs.Numerals.{one_above}
use Rattle.mm_sched.proofs.Spelled.{same_is}

-- ---- the entries stay

entries_in-append : (xs ys : List Line) → entries_in (xs ++ ys) ≡ entries_in xs ++ entries_in ys
entries_in-append xs ys = flat_map-append (λ l. replicate l.count l.item) xs ys

entries_full : (e : Entry) (q f : ℕ) → entries_in (replicate q (times e f)) ≡ replicate (q * f) e
entries_full e zero f = let none : zero * f ≡ 0 = omega arith in rw none refl
entries_full e (suc q) f =
    let more : suc q * f ≡ f + q * f = grind arith in
    rw (more, entries_full e q f) (replicate-append-replicate f (q * f) e)

entries_last : (e : Entry) (n : ℕ) → entries_in (last_part e n) ≡ replicate n e
entries_last e zero = refl
entries_last e (suc n) = rw (one_above n) (append-nil (replicate (suc n) e))

entries_run : (r : Line) → entries_in (run_lines r) ≡ replicate r.count r.item
entries_run r =
    entries_in-append (replicate (r.count / FULL) (times r.item FULL)) (last_part r.item (r.count % FULL))
    ∙ rw (entries_full r.item (r.count / FULL) FULL, entries_last r.item (r.count % FULL)) (replicate-append-replicate (r.count / FULL * FULL) (r.count % FULL) r.item)
    ∙ ap (λ n. replicate n r.item) (div-add-mod' r.count FULL)

entries_lines : (rs : List Line) → entries_in (flat_map run_lines rs) ≡ entries_in rs
entries_lines [] = refl
entries_lines (r ∷ rs) = entries_in-append (run_lines r) (flat_map run_lines rs) ∙ rw (entries_run r, entries_lines rs) refl

entries_in_front : (e : Entry) (rs : List Line) → entries_in (in_front e rs) ≡ e ∷ entries_in rs
entries_in_front e [] = refl
entries_in_front e (r ∷ rs) = at (is_same_step e r.item) (same_is e r.item)
  where
    at : (b : Bool) → (b ≡ true → e ≡ r.item) → entries_in (cond b (times e (r.count + 1) ∷ rs) (times e 1 ∷ r ∷ rs)) ≡ e ∷ (replicate r.count r.item ++ entries_in rs)
    at true same = rw (add-one, same refl) refl
    at false same = refl

entries_runs : (es : List Entry) → entries_in (runs es) ≡ es
entries_runs [] = refl
entries_runs (e ∷ es) = entries_in_front e (runs es) ∙ ap (λ x. e ∷ x) (entries_runs es)

pub entries_spelled : (es : List Entry) → entries_in (spelled_lines es) ≡ es
entries_spelled es = entries_lines (runs es) ∙ entries_runs es

-- ---- each line is one

-- an entry may stand so many times in a run, in a line
abbrev MayCount : Entry → ℕ → Type 0
MayCount (Step t) n = 1 ≤ n
MayCount _ n = n ≡ 1

abbrev IsRun : Line → Type 0
IsRun r = IsEntry r.item × MayCount r.item r.count

abbrev IsFit : Line → Type 0
IsFit l = IsRun l × (l.count < 2 ^ 32)

may_count_one : (e : Entry) → MayCount e 1
may_count_one (Step t) = omega arith
may_count_one (In t v) = refl
may_count_one (Flush t) = refl
may_count_one (FlushCell t c) = refl

may_count_more : (e f : Entry) (n : ℕ) → is_same_step e f ≡ true → MayCount e (n + 1)
may_count_more (Step t) f n h = omega arith
may_count_more (In t v) f n h = cc
may_count_more (Flush t) f n h = cc
may_count_more (FlushCell t c) f n h = cc

runs_in_front : (e : Entry) (rs : List Line) → IsEntry e → All IsRun rs → All IsRun (in_front e rs)
runs_in_front e [] fits are = All-cons IsRun (times e 1) [] (fits, may_count_one e) are
runs_in_front e (r ∷ rs) fits are = at (is_same_step e r.item) (λ s. may_count_more e r.item r.count s)
  where
    at : (b : Bool) → (b ≡ true → MayCount e (r.count + 1)) → All IsRun (cond b (times e (r.count + 1) ∷ rs) (times e 1 ∷ r ∷ rs))
    at true may = All-cons IsRun (times e (r.count + 1)) rs (fits, may refl) (All-tail IsRun r rs are)
    at false may = All-cons IsRun (times e 1) (r ∷ rs) (fits, may_count_one e) are

are_runs : (es : List Entry) → All IsEntry es → All IsRun (runs es)
are_runs [] fits = All-nil IsRun
are_runs (e ∷ es) fits = runs_in_front e (runs es) (All-head IsEntry e es fits) (are_runs es (All-tail IsEntry e es fits))

fit_last : (t n : ℕ) → t < 2 ^ 32 → n < 2 ^ 32 → All IsFit (last_part (Step t) n)
fit_last t zero fits small = All-nil IsFit
fit_last t (suc n) fits small = rw (one_above n) (All-cons IsFit (times (Step t) (suc n)) [] ((fits, omega arith), small) (All-nil IsFit))

fit_one : (e : Entry) (n : ℕ) → IsRun (times e n) → n ≡ 1 → All IsFit (run_lines (times e n))
fit_one e n is one = rw one (All-cons IsFit (times e 1) [] (rw one at is, omega arith) (All-nil IsFit))

fit_run : (e : Entry) (n : ℕ) → IsRun (times e n) → All IsFit (run_lines (times e n))
fit_run (Step t) n is =
    let small : n % FULL < 2 ^ 32 = omega arith in
    All-append IsFit (replicate (n / FULL) (times (Step t) FULL)) (last_part (Step t) (n % FULL)) (All-replicate IsFit (n / FULL) (times (Step t) FULL) ((is.0, omega arith), omega arith)) (fit_last t (n % FULL) is.0 small)
fit_run (In t v) n is = fit_one (In t v) n is is.1
fit_run (Flush t) n is = fit_one (Flush t) n is is.1
fit_run (FlushCell t c) n is = fit_one (FlushCell t c) n is is.1

fit_lines : (rs : List Line) → All IsRun rs → All IsFit (flat_map run_lines rs)
fit_lines [] are = All-nil IsFit
fit_lines (r ∷ rs) are = All-append IsFit (run_lines r) (flat_map run_lines rs) (fit_run r.item r.count (All-head IsRun r rs are)) (fit_lines rs (All-tail IsRun r rs are))

says_text : (e : Entry) (n : ℕ) → MayCount e n → n < 2 ^ 32 → Says (text_of e n) e n
says_text (In t v) n may small = (refl, may)
says_text (Flush t) n may small = (refl, may)
says_text (FlushCell t c) n may small = (refl, may)
says_text (Step t) n may small = at (n == 1) (eqb_tells n 1)
  where
    at : (b : Bool) → ((b ≡ true) × (n ≡ 1)) ⊎ ((b ≡ false) × (n ≢ 1)) → Says (cond b (step_text t) (steps_text t n)) (Step t) n
    at true tells = inl (refl, ⊎_elim (λ p. p.1) (λ p. cc (p.0)) tells)
    at false tells = inr (refl, may, small)

lines_fit : (ls : List Line) → All IsFit ls → AllZip IsLine (map line_text ls) ls
lines_fit [] fit = tt
lines_fit (l ∷ ls) fit =
    let f = All-head IsFit l ls fit in
    ((f.0.0, says_text l.item l.count f.0.1 f.1), lines_fit ls (All-tail IsFit l ls fit))

-- ---- the whole text

whole_lines : (ls : List Line) → whole (map line_text ls) ≡ lines_text ls
whole_lines [] = refl
whole_lines (l ∷ ls) = ap (λ x. (line_text l ++ newline ∷ []) ++ x) (whole_lines ls)

-- what is spelled, from its first line to its last
pub spell_parts : (es : List Entry) → spell es ≡ codes "schedule 1\n" ++ lines_text (spelled_lines es) ++ codes "end\n"
unfolding spell
spell_parts es =
    let between = flat_map-append (λ w. w ++ newline ∷ []) (map line_text (spelled_lines es)) (last_line ∷ []) in
    rw (between, whole_lines (spelled_lines es)) refl

pub spelled_is : (es : List Entry) → length es ≤ MAX_ENTRIES → All IsEntry es → (ls : List Line) × IsSchedule (spell es) ls × (entries_in ls ≡ es)
unfolding spell
spelled_is es few fits =
    let ls = spelled_lines es in
    let entries = entries_spelled es in
    let fit = fit_lines (runs es) (are_runs es fits) in (
      ls,
      record {
        ws = first_line ∷ map line_text ls ++ last_line ∷ [];
        is_text = refl;
        are_lines = record { between = map line_text ls; are = refl; fit = lines_fit ls fit; few = rw entries few };
      },
      entries,
    )
