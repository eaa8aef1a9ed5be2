-- What a text is read as is what it is.
use Rattle.std.proofs.Common.{◌≡◌, ◌≢◌, ℕ, ◌+◌, ◌<◌, Bool, true, false, List, [], ◌∷◌, ◌++◌, append_assoc, append-nil, length, Option, Some, None, option_and_then, Result, Ok, Err, refl, sym, ap, ◌∙◌, arith, subst, inl, inr, ◌⊎◌, ⊎_elim, codes, ◌&&◌, not, ◌==◌, ◌^◌}
use Rattle.std.specs.List.{AllZip, list_all}
use Rattle.std.proofs.lemmas.Bool.Decides.{eqb_tells}
use Rattle.std.specs.Fmt.{decimal, signed_decimal}
use Rattle.std.proofs.lemmas.List.Concat.{flat_map-append as flat_map_joined}
use Rattle.std.proofs.lemmas.List.Elements.{All-nil, All-cons, All-head, All-tail, All-append}
use Rattle.std.proofs.lemmas.Option.{option_and_then_some, same_Some}
use Rattle.mm_sched.specs.declared.schedule.Line.{Line}
use Rattle.mm_sched.specs.declared.entry.Entry.{Entry}
use Rattle.mm_sched.specs.declared.entry.Entry.TheVariants.{Step, In, Flush, FlushCell}
use Rattle.mm_sched.specs.declared.read.Stage.{Stage}
use Rattle.mm_sched.specs.declared.read.Stage.TheVariants.{First, Within, Behind}
use Rattle.mm_sched.specs.declared.read.Passed.{Passed}
use Rattle.mm_sched.specs.ScheduleText.{newline, whole, IsUnfinished, IsEntry, Says, IsLine, first_line, last_line, AreLines, IsSchedule, Begin, Stops, IsBadLine}
use Rattle.mm_sched.specs.reading.Reading.{parts, next, lines_of, onto, ended, continued, read_on, read_text}
use Rattle.mm_sched.proofs.Numerals.{decimal_free, signed_free}
use Rattle.mm_sched.proofs.TextParts.{AllFree, parts_line, parts_left, parts_whole, are_parts}
use Rattle.mm_sched.proofs.Advancing.{Went, went, behind, advance, advance-append, advance_schedule, schedule_advanced, begin_advances, advances_begin}

-- ---- what is read, by how far whole lines lead

pub onto_onto : (xs ys : List Line) (r : Result (List Line) ℕ) → onto xs (onto ys r) ≡ onto (xs ++ ys) r
onto_onto xs ys (Ok ls) = ap (λ x. Ok x) (sym (append_assoc xs ys ls))
onto_onto xs ys (Err k) = refl

onto_none : (r : Result (List Line) ℕ) → onto [] r ≡ r
onto_none (Ok ls) = refl
onto_none (Err k) = refl

onto_err : (xs : List Line) (r : Result (List Line) ℕ) (k : ℕ) → r ≡ Err k → onto xs r ≡ Err k
onto_err xs r k e = rw e refl

-- what is read behind lines that lead somewhere
pub read_behind : (s : Stage) (k : ℕ) (ws more : List (List ℕ)) (left : List ℕ) (g : Went) → advance s ws ≡ Some g → read_on s k (ws ++ more) left ≡ onto g.lines (read_on g.stage (k + length ws) more left)
read_behind s k [] more left g h =
    let same : went s [] ≡ g = same_Some _ _ h in
    let n : k + 0 ≡ k = omega arith in
    subst (λ (x : Went). read_on s k more left ≡ onto x.lines (read_on x.stage (k + 0) more left)) same (rw n (sym (onto_none (read_on s k more left))))
read_behind s k (w ∷ ws) more left g h =
    option_and_then_some (λ p. option_and_then (behind (lines_of p.line)) (advance p.stage ws)) (next s w) g h (λ p e f.
    option_and_then_some (behind (lines_of p.line)) (advance p.stage ws) g f (λ d i j.
    let rest = read_behind p.stage (k + 1) ws more left d i in
    let same : went d.stage (lines_of p.line ++ d.lines) ≡ g = same_Some _ _ j in
    let n : k + length (w ∷ ws) ≡ (k + 1) + length ws = omega arith in
    subst (λ (x : Went). read_on s k (w ∷ (ws ++ more)) left ≡ onto x.lines (read_on x.stage (k + length (w ∷ ws)) more left)) same (rw (e, rest, n) (onto_onto (lines_of p.line) d.lines (read_on d.stage ((k + 1) + length ws) more left)))))

-- where reading stopped
pub record Stopped (s : Stage) (k : ℕ) (ws : List (List ℕ)) (left : List ℕ) (j : ℕ) : Type 0 where
  pub front : List (List ℕ)
  pub tail : List (List ℕ)
  pub at : Went
  pub joins : ws ≡ front ++ tail
  pub leads : advance s front ≡ Some at
  pub number : j ≡ k + length front
  pub stuck : read_on at.stage j tail left ≡ Err j
  pub first : (w : List ℕ) (more : List (List ℕ)) → tail ≡ w ∷ more → next at.stage w ≡ None

-- what was read whole
pub record Read (s : Stage) (ws : List (List ℕ)) (left : List ℕ) (ls : List Line) : Type 0 where
  pub nothing_left : left ≡ []
  pub leads : advance s ws ≡ Some (went Behind ls)

onto_ok : (xs : List Line) (r : Result (List Line) ℕ) (ls : List Line) → onto xs r ≡ Ok ls → (more : List Line) × (r ≡ Ok more) × (xs ++ more ≡ ls)
onto_ok xs (Ok more) ls h = (more, refl, cc)
onto_ok xs (Err k) ls h = cc

onto_is_err : (xs : List Line) (r : Result (List Line) ℕ) (k : ℕ) → onto xs r ≡ Err k → r ≡ Err k
onto_is_err xs (Ok more) k h = cc
onto_is_err xs (Err j) k h = cc

ended_ok : (s : Stage) (k : ℕ) (left : List ℕ) (ls : List Line) → ended s k left ≡ Ok ls → (s ≡ Behind) × (left ≡ []) × (ls ≡ [])
ended_ok First k left ls h = cc
ended_ok (Within n) k left ls h = cc
ended_ok Behind k [] ls h = (refl, refl, cc)
ended_ok Behind k (b ∷ left) ls h = cc

ended_err : (s : Stage) (k : ℕ) (left : List ℕ) (j : ℕ) → ended s k left ≡ Err j → j ≡ k
ended_err First k left j h = cc
ended_err (Within n) k left j h = cc
ended_err Behind k [] j h = cc
ended_err Behind k (b ∷ left) j h = cc

continued_ok : (k : ℕ) (o : Option Passed) (go : Stage → Result (List Line) ℕ) (ls : List Line) → continued k o go ≡ Ok ls → (p : Passed) × (o ≡ Some p) × (onto (lines_of p.line) (go p.stage) ≡ Ok ls)
continued_ok k None go ls h = cc
continued_ok k (Some p) go ls h = (p, refl, h)

continued_err : (k : ℕ) (o : Option Passed) (go : Stage → Result (List Line) ℕ) (j : ℕ) → continued k o go ≡ Err j → ((o ≡ None) × (j ≡ k)) ⊎ ((p : Passed) × (o ≡ Some p) × (go p.stage ≡ Err j))
continued_err k None go j h = inl (refl, cc)
continued_err k (Some p) go j h = inr (p, refl, onto_is_err (lines_of p.line) (go p.stage) j h)

pub read_ok : (s : Stage) (k : ℕ) (ws : List (List ℕ)) (left : List ℕ) (ls : List Line) → read_on s k ws left ≡ Ok ls → Read s ws left ls
read_ok s k [] left ls h = let e = ended_ok s k left ls h in record { nothing_left = e.1; leads = rw (e.0, e.2) refl }
read_ok s k (w ∷ ws) left ls h =
    let c = continued_ok k (next s w) (λ t. read_on t (k + 1) ws left) ls h in
    let o = onto_ok (lines_of c.0.line) (read_on c.0.stage (k + 1) ws left) ls c.2 in
    let more = read_ok c.0.stage (k + 1) ws left o.0 o.1 in
    record { nothing_left = more.nothing_left; leads = rw (c.1, more.leads, o.2) refl }

-- nothing of the lines is passed
stopped_here : (s : Stage) (k : ℕ) (ws : List (List ℕ)) (left : List ℕ) (j : ℕ) → read_on s k ws left ≡ Err j → j ≡ k → ((w : List ℕ) (more : List (List ℕ)) → ws ≡ w ∷ more → next s w ≡ None) → Stopped s k ws left j
stopped_here s k ws left j h e first = record { front = []; tail = ws; at = went s []; joins = refl; leads = refl; number = omega arith; stuck = rw (← e) at h; first = first }

stopped_later : (s : Stage) (k : ℕ) (w : List ℕ) (ws : List (List ℕ)) (left : List ℕ) (j : ℕ) (p : Passed) → next s w ≡ Some p → Stopped p.stage (k + 1) ws left j → Stopped s k (w ∷ ws) left j
stopped_later s k w ws left j p e d = record { front = w ∷ d.front; tail = d.tail; at = went d.at.stage (lines_of p.line ++ d.at.lines); joins = ap (λ x. w ∷ x) d.joins; leads = rw (e, d.leads) refl; number = omega (arith, d.number); stuck = d.stuck; first = d.first }

pub read_err : (s : Stage) (k : ℕ) (ws : List (List ℕ)) (left : List ℕ) (j : ℕ) → read_on s k ws left ≡ Err j → Stopped s k ws left j
read_err s k [] left j h = stopped_here s k [] left j h (ended_err s k left j h) (λ w more e. cc)
read_err s k (w ∷ ws) left j h =
    ⊎_elim (λ n. stopped_here s k (w ∷ ws) left j h n.1 (λ v more e. let same : w ≡ v = cc in rw (← same) n.0)) (λ c. stopped_later s k w ws left j c.0 c.1 (read_err c.0.stage (k + 1) ws left j c.2))
    (continued_err k (next s w) (λ t. read_on t (k + 1) ws left) j h)

-- ---- a schedule is read as itself

pass_free : (b : ℕ) (w : List ℕ) → (not (b == newline) && list_all (λ b. not (b == newline)) w) ≡ true → (b ≢ newline) × (list_all (λ b. not (b == newline)) w ≡ true)
pass_free b w h = at (b == newline) (eqb_tells b newline) h
  where
    at : (t : Bool) → ((t ≡ true) × (b ≡ newline)) ⊎ ((t ≡ false) × (b ≢ newline)) → (not t && list_all (λ b. not (b == newline)) w) ≡ true → (b ≢ newline) × (list_all (λ b. not (b == newline)) w ≡ true)
    at true tells e = cc
    at false tells e = (⊎_elim (λ p. cc (p.0)) (λ p. p.1) tells, e)

free_word : (w : List ℕ) → list_all (λ b. not (b == newline)) w ≡ true → IsUnfinished w
free_word [] h = All-nil (λ b. b ≢ newline)
free_word (b ∷ w) h = let p = pass_free b w h in All-cons (λ b. b ≢ newline) b w p.0 (free_word w p.1)

free_append : (xs ys : List ℕ) → IsUnfinished xs → IsUnfinished ys → IsUnfinished (xs ++ ys)
free_append xs ys x y = All-append (λ b. b ≢ newline) xs ys x y

free_number : (t : ℕ) → t < 2 ^ 32 → IsUnfinished (decimal t)
free_number t fits = decimal_free newline t fits (inl (omega arith))

free_one : (word : List ℕ) (t : ℕ) → list_all (λ b. not (b == newline)) word ≡ true → t < 2 ^ 32 → IsUnfinished (word ++ decimal t)
free_one word t w fits = free_append word (decimal t) (free_word word w) (free_number t fits)

free_two : (word : List ℕ) (t : ℕ) (b : List ℕ) → list_all (λ b. not (b == newline)) word ≡ true → t < 2 ^ 32 → IsUnfinished b → IsUnfinished (word ++ decimal t ++ codes " " ++ b)
free_two word t b w fits free = free_append (word ++ decimal t ++ codes " ") b (free_append (word ++ decimal t) (codes " ") (free_one word t w fits) (free_word (codes " ") refl)) free

-- what is said has no newline
said_free : (w : List ℕ) (e : Entry) (n : ℕ) → IsEntry e → Says w e n → IsUnfinished w
said_free w (Step t) n fits s = ⊎_elim (λ p. subst IsUnfinished (sym p.0) (free_one (codes "step ") t refl fits)) (λ p. subst IsUnfinished (sym p.0) (free_two (codes "steps ") t (decimal n) refl fits (free_number n p.2))) s
said_free w (In t v) n fits s = subst IsUnfinished (sym s.0) (free_two (codes "in ") t (signed_decimal v) refl fits.0 (signed_free newline v fits.1 (omega arith)))
said_free w (Flush t) n fits s = subst IsUnfinished (sym s.0) (free_one (codes "flush ") t refl fits)
said_free w (FlushCell t c) n fits s = subst IsUnfinished (sym s.0) (free_two (codes "flush ") t (decimal c) refl fits.0 (free_number c fits.1))

lines_free : (ws : List (List ℕ)) (ls : List Line) → AllZip IsLine ws ls → AllFree ws
lines_free [] ls fit = All-nil IsUnfinished
lines_free (w ∷ ws) [] fit = absurd fit
lines_free (w ∷ ws) (l ∷ ls) fit = All-cons IsUnfinished w ws (said_free w l.item l.count fit.0.0 fit.0.1) (lines_free ws ls fit.1)

schedule_free : (ws : List (List ℕ)) (ls : List Line) → AreLines ws ls → AllFree ws
schedule_free ws ls are = subst AllFree (sym are.are) (All-cons IsUnfinished first_line (are.between ++ last_line ∷ []) (free_word first_line refl) (All-append IsUnfinished are.between (last_line ∷ []) (lines_free are.between ls are.fit) (All-cons IsUnfinished last_line [] (free_word last_line refl) (All-nil IsUnfinished))))

-- the first lines of lines without newline
front_free : (xs ys : List (List ℕ)) → AllFree (xs ++ ys) → AllFree xs
front_free [] ys free = All-nil IsUnfinished
front_free (x ∷ xs) ys free = All-cons IsUnfinished x xs (All-head IsUnfinished x (xs ++ ys) free) (front_free xs ys (All-tail IsUnfinished x (xs ++ ys) free))

begin_free : (ws : List (List ℕ)) → Begin ws → AllFree ws
begin_free ws b = front_free ws b.more (schedule_free (ws ++ b.more) b.lines b.are_lines)

pub schedule_read : (text : List ℕ) (ls : List Line) → IsSchedule text ls → read_text First 1 text ≡ Ok ls
schedule_read text ls is =
    let free = schedule_free is.ws ls is.are_lines in
    let leads = advance_schedule is.ws ls is.are_lines in
    let p = parts_whole is.ws [] free in
    let e : text ≡ whole is.ws ++ [] = is.is_text ∙ sym (append-nil (whole is.ws)) in
    let r = read_behind First 1 is.ws [] [] (went Behind ls) leads in
    rw (e, p, r) (ap (λ x. Ok x) (append-nil ls))

pub read_schedule_is : (text : List ℕ) (ls : List Line) → read_text First 1 text ≡ Ok ls → IsSchedule text ls
read_schedule_is text ls h =
    let are = are_parts text in
    let r = read_ok First 1 (parts text).ws (parts text).left ls h in
    record { ws = (parts text).ws; is_text = are.joins ∙ ap (λ x. whole (parts text).ws ++ x) r.nothing_left ∙ append-nil (whole (parts text).ws); are_lines = schedule_advanced (parts text).ws ls r.leads }

-- ---- a bad line is read as itself

-- what the line behind lines leads to, where they begin a schedule with it
next_begins : (ws : List (List ℕ)) (w : List ℕ) (g : Went) → advance First ws ≡ Some g → next g.stage w ≡ None → ¬ (Begin (ws ++ w ∷ []))
next_begins ws w g h none b =
    let a = begin_advances (ws ++ w ∷ []) b in
    let e = advance-append First ws (w ∷ []) in
    let f : advance First (ws ++ w ∷ []) ≡ None = rw (e, h, none) refl in
    cc (a.1)

none_of : {A : Type 0} (o : Option A) → ((x : A) → o ≡ Some x → ⊥) → o ≡ None
none_of None no_value = refl
none_of (Some x) no_value = absurd (no_value x refl)

next_none : (ws : List (List ℕ)) (w : List ℕ) (g : Went) → advance First ws ≡ Some g → ¬ (Begin (ws ++ w ∷ [])) → next g.stage w ≡ None
next_none ws w g h bad = none_of (next g.stage w) (λ p e. bad (advances_begin (ws ++ w ∷ []) (went p.stage (g.lines ++ (lines_of p.line ++ []))) (rw (advance-append First ws (w ∷ []), h, e) refl)))

-- the last line has not come
not_behind : (ws : List (List ℕ)) (g : Went) → advance First ws ≡ Some g → ((ls : List Line) → ¬ (AreLines ws ls)) → g.stage ≢ Behind
not_behind ws g h missing e = missing g.lines (schedule_advanced ws g.lines (h ∙ ap (λ s. Some (went s g.lines)) e))

is_missing : (ws : List (List ℕ)) (g : Went) → advance First ws ≡ Some g → g.stage ≢ Behind → (ls : List Line) → ¬ (AreLines ws ls)
is_missing ws g h ne ls are =
    let e = advance_schedule ws ls are in
    let same : g ≡ went Behind ls = same_Some _ _ (sym h ∙ e) in
    ne (ap (λ (x : Went). x.stage) same)

pub not_ended : (s : Stage) (k : ℕ) (left : List ℕ) → (s ≢ Behind) ⊎ (left ≢ []) → ended s k left ≡ Err k
not_ended First k left h = refl
not_ended (Within n) k left h = refl
not_ended Behind k [] h = absurd (⊎_elim (λ f. f refl) (λ f. f refl) h)
not_ended Behind k (b ∷ left) h = refl

stuck_there : (ws : List (List ℕ)) (left : List ℕ) (g : Went) (k : ℕ) → advance First ws ≡ Some g → Stops ws left → read_on g.stage k (parts left).ws (parts left).left ≡ Err k
stuck_there ws left g k h (Stops.bad w more free is bad) = rw (is, parts_line w more free, next_none ws w g h bad) refl
stuck_there ws left g k h (Stops.unfinished free some) = rw (parts_left left free) (not_ended g.stage k left (inr some))
stuck_there ws left g k h (Stops.missing nothing missing) = rw nothing (not_ended g.stage k [] (inl (not_behind ws g h missing)))

pub bad_line_read : (text : List ℕ) (k : ℕ) → IsBadLine text k → read_text First 1 text ≡ Err k
bad_line_read text k is =
    let a = begin_advances is.ws is.begin in
    let free = begin_free is.ws is.begin in
    let p = parts_whole is.ws is.left free in
    let r = read_behind First 1 is.ws (parts is.left).ws (parts is.left).left a.0 a.1 in
    let n : 1 + length is.ws ≡ k = omega (arith, is.number) in
    let stuck = stuck_there is.ws is.left a.0 k a.1 is.stops in
    rw (is.is_text, p, r, n) (onto_err a.0.lines _ k stuck)

-- where the lines that were passed are followed by these, and what is left
stops_at : (front tail : List (List ℕ)) (left : List ℕ) (g : Went) (j : ℕ) → advance First front ≡ Some g → AllFree tail → IsUnfinished left → read_on g.stage j tail left ≡ Err j → ((w : List ℕ) (more : List (List ℕ)) → tail ≡ w ∷ more → next g.stage w ≡ None) → Stops front (whole tail ++ left)
stops_at front [] [] g j h free left_free stuck first = Stops.missing refl (is_missing front g h (stage_of g.stage stuck))
  where
    stage_of : (s : Stage) → ended s j [] ≡ Err j → s ≢ Behind
    stage_of First e f = cc
    stage_of (Within n) e f = cc
    stage_of Behind e f = cc
stops_at front [] (b ∷ left) g j h free left_free stuck first = Stops.unfinished left_free (λ e. cc)
stops_at front (w ∷ ws) left g j h free left_free stuck first = Stops.bad w (whole ws ++ left) (All-head IsUnfinished w ws free) (simp append_assoc) (next_begins front w g h (first w ws refl))

back_free : (xs ys : List (List ℕ)) → AllFree (xs ++ ys) → AllFree ys
back_free [] ys free = free
back_free (x ∷ xs) ys free = back_free xs ys (All-tail IsUnfinished x (xs ++ ys) free)

pub read_bad_line : (text : List ℕ) (j : ℕ) → read_text First 1 text ≡ Err j → IsBadLine text j
read_bad_line text j h =
    let are = are_parts text in
    let d = read_err First 1 (parts text).ws (parts text).left j h in
    let tail_free = back_free d.front d.tail (subst AllFree d.joins are.lines) in
    record {
      ws = d.front;
      left = whole d.tail ++ (parts text).left;
      is_text = are.joins ∙ ap (λ x. whole x ++ (parts text).left) d.joins ∙ ap (λ x. x ++ (parts text).left) (flat_map_joined (λ w. w ++ newline ∷ []) d.front d.tail) ∙ append_assoc (whole d.front) (whole d.tail) (parts text).left;
      begin = advances_begin d.front d.at d.leads;
      stops = stops_at d.front d.tail (parts text).left d.at j d.leads tail_free are.left d.stuck d.first;
      number = omega (arith, d.number);
    }

-- ---- one reading

pub one_schedule : (text : List ℕ) (ls ms : List Line) → IsSchedule text ls → IsSchedule text ms → ls ≡ ms
one_schedule text ls ms one other = let e = schedule_read text ls one in let f = schedule_read text ms other in cc

pub one_bad_line : (text : List ℕ) (j k : ℕ) → IsBadLine text j → IsBadLine text k → j ≡ k
one_bad_line text j k one other = let e = bad_line_read text j one in let f = bad_line_read text k other in cc

pub not_both : (text : List ℕ) (ls : List Line) (k : ℕ) → IsSchedule text ls → ¬ (IsBadLine text k)
not_both text ls k one other = let e = schedule_read text ls one in let f = bad_line_read text k other in cc

pub one_of_them : (text : List ℕ) → ((ls : List Line) × IsSchedule text ls) ⊎ ((k : ℕ) × IsBadLine text k)
one_of_them text = at (read_text First 1 text) (λ ls e. read_schedule_is text ls e) (λ k e. read_bad_line text k e)
  where
    at : (r : Result (List Line) ℕ) → ((ls : List Line) → r ≡ Ok ls → IsSchedule text ls) → ((k : ℕ) → r ≡ Err k → IsBadLine text k) → ((ls : List Line) × IsSchedule text ls) ⊎ ((k : ℕ) × IsBadLine text k)
    at (Ok ls) is bad = inl (ls, is ls refl)
    at (Err k) is bad = inr (k, bad k refl)
