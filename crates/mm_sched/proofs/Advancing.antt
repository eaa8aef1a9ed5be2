-- How far whole lines lead.
use Rattle.std.proofs.Common.{◌≡◌, ℕ, ◌+◌, ◌≤◌, Bool, true, false, nat_le, List, [], ◌∷◌, ◌++◌, append_assoc, length, length-append, Option, Some, None, option_and_then, refl, sym, ap, ◌∙◌, arith, subst, ⊎_elim, replicate}
use Rattle.std.specs.List.{AllZip}
use Rattle.std.specs.Str.{bytes_eq}
use Rattle.std.proofs.lemmas.Bool.Decides.{nat_tests}
use Rattle.std.proofs.lemmas.List.{length-replicate}
use Rattle.std.proofs.lemmas.Option.{option_and_then_some, same_Some}
use Rattle.mm_sched.specs.declared.schedule.Line.{Line}
use Rattle.mm_sched.specs.declared.schedule.TheConstants.{MAX_ENTRIES}
use Rattle.mm_sched.specs.declared.read.Stage.{Stage}
use Rattle.mm_sched.specs.declared.read.Stage.TheVariants.{First, Within, Behind}
use Rattle.mm_sched.specs.declared.read.Passed.{Passed}
use Rattle.mm_sched.specs.Guarded.{guarded}
use Rattle.mm_sched.specs.ScheduleText.{entries_in, IsLine, first_line, last_line, AreLines, Begin}
use Rattle.mm_sched.specs.reading.Reading.{line_of, passed, counted, next, lines_of}
use Rattle.mm_sched.proofs.Forms.{tested, line_is, line_read}

-- where lines lead, and the schedule's lines among them
pub record Went : Type 0 where
  pub stage : Stage
  pub lines : List Line

abbrev pub went : Stage → List Line → Went
went s ls = record { stage = s; lines = ls }

abbrev pub behind : List Line → Went → Option Went
behind ls g = Some (went g.stage (ls ++ g.lines))

abbrev pub advance : Stage → List (List ℕ) → Option Went
advance s [] = Some (went s [])
advance s (w ∷ ws) = option_and_then (λ p. option_and_then (behind (lines_of p.line)) (advance p.stage ws)) (next s w)

-- lines behind others
join_behind : (ls : List Line) (o : Option Went) (go : Stage → Option Went) → option_and_then (λ g. option_and_then (behind g.lines) (go g.stage)) (option_and_then (behind ls) o) ≡ option_and_then (behind ls) (option_and_then (λ g. option_and_then (behind g.lines) (go g.stage)) o)
join_behind ls None go = refl
join_behind ls (Some g) go = at (go g.stage)
  where
    at : (o : Option Went) → option_and_then (behind (ls ++ g.lines)) o ≡ option_and_then (behind ls) (option_and_then (behind g.lines) o)
    at None = refl
    at (Some h) = ap (λ x. Some (went h.stage x)) (append_assoc ls g.lines h.lines)

pub advance-append : (s : Stage) (xs ys : List (List ℕ)) → advance s (xs ++ ys) ≡ option_and_then (λ g. option_and_then (behind g.lines) (advance g.stage ys)) (advance s xs)
advance-append s [] ys = at (advance s ys)
  where
    at : (o : Option Went) → o ≡ option_and_then (behind []) o
    at None = refl
    at (Some g) = refl
advance-append s (x ∷ xs) ys = at (next s x) (λ t. advance-append t xs ys)
  where
    at : (o : Option Passed) → ((t : Stage) → advance t (xs ++ ys) ≡ option_and_then (λ g. option_and_then (behind g.lines) (advance g.stage ys)) (advance t xs)) → option_and_then (λ p. option_and_then (behind (lines_of p.line)) (advance p.stage (xs ++ ys))) o ≡ option_and_then (λ g. option_and_then (behind g.lines) (advance g.stage ys)) (option_and_then (λ p. option_and_then (behind (lines_of p.line)) (advance p.stage xs)) o)
    at None more = refl
    at (Some p) more = ap (λ o. option_and_then (behind (lines_of p.line)) o) (more p.stage) ∙ sym (join_behind (lines_of p.line) (advance p.stage xs) (λ s. advance s ys))

-- ---- from the lines of a schedule

below_is : (a b : ℕ) → a ≤ b → nat_le a b ≡ true
below_is a b h = grind (arith, nat_tests)

is_below : (a b : ℕ) → nat_le a b ≡ true → a ≤ b
is_below a b h = grind (arith, nat_tests)

no_last_line : line_of last_line ≡ None
unfolding line_of
no_last_line = refl

-- a line of a schedule is not its last
not_last : (w : List ℕ) (l : Line) → line_of w ≡ Some l → bytes_eq w last_line ≡ false
not_last w l h = ⊎_elim (λ p. let e = rw p.1 at h in let n = no_last_line in cc) (λ f. f) (tested w last_line)

pub length-entries : (l : Line) (ls : List Line) → length (entries_in (l ∷ ls)) ≡ l.count + length (entries_in ls)
length-entries l ls = length-append (replicate l.count l.item) (entries_in ls) ∙ ap (λ n. n + length (entries_in ls)) (length-replicate l.count l.item)

next_line : (n : ℕ) (w : List ℕ) (l : Line) → line_of w ≡ Some l → n + l.count ≤ MAX_ENTRIES → next (Within n) w ≡ Some (passed (Within (n + l.count)) (Some l))
next_line n w l h few = rw (not_last w l h, h, below_is (n + l.count) MAX_ENTRIES few) refl

pub advance_lines : (n : ℕ) (ws : List (List ℕ)) (ls : List Line) → AllZip IsLine ws ls → n + length (entries_in ls) ≤ MAX_ENTRIES → advance (Within n) (ws ++ last_line ∷ []) ≡ Some (went Behind ls)
advance_lines n [] [] fit few = refl
advance_lines n [] (l ∷ ls) fit few = absurd fit
advance_lines n (w ∷ ws) [] fit few = absurd fit
advance_lines n (w ∷ ws) (l ∷ ls) fit few =
    let total = length-entries l ls in
    let within : n + l.count ≤ MAX_ENTRIES = omega arith in
    let more = advance_lines (n + l.count) ws ls fit.1 (omega arith) in
    rw (next_line n w l (line_read w l.item l.count fit.0.0 fit.0.1) within, more) refl

pub advance_schedule : (ws : List (List ℕ)) (ls : List Line) → AreLines ws ls → advance First ws ≡ Some (went Behind ls)
advance_schedule ws ls are = rw (are.are, advance_lines 0 are.between ls are.fit (omega (arith, are.few))) refl

-- ---- to the lines of a schedule

-- lines and the last one
record AreLast (n : ℕ) (ws : List (List ℕ)) (ls : List Line) : Type 0 where
  between : List (List ℕ)
  are : ws ≡ between ++ last_line ∷ []
  fit : AllZip IsLine between ls
  few : n + length (entries_in ls) ≤ MAX_ENTRIES

nothing_behind : (ws : List (List ℕ)) (g : Went) → advance Behind ws ≡ Some g → (ws ≡ []) × (g ≡ went Behind [])
nothing_behind [] g h = (refl, sym (same_Some _ _ h))
nothing_behind (w ∷ ws) g h = cc

counted_is : (n : ℕ) (l : Line) (p : Passed) → counted n l ≡ Some p → (n + l.count ≤ MAX_ENTRIES) × (p ≡ passed (Within (n + l.count)) (Some l))
counted_is n l p h = at (nat_le (n + l.count) MAX_ENTRIES) (is_below (n + l.count) MAX_ENTRIES) h
  where
    at : (t : Bool) → (t ≡ true → n + l.count ≤ MAX_ENTRIES) → guarded t (Some (passed (Within (n + l.count)) (Some l))) ≡ Some p → (n + l.count ≤ MAX_ENTRIES) × (p ≡ passed (Within (n + l.count)) (Some l))
    at true low e = (low refl, sym (same_Some _ _ e))
    at false low e = cc

-- what fits behind lines is one more, or the last
pub data IsNext (n : ℕ) (w : List ℕ) (p : Passed) : Type 0 where
  last : w ≡ last_line → p ≡ passed Behind None → IsNext n w p
  one : (l : Line) → line_of w ≡ Some l → n + l.count ≤ MAX_ENTRIES → p ≡ passed (Within (n + l.count)) (Some l) → IsNext n w p

pub next_is : (n : ℕ) (w : List ℕ) (p : Passed) → next (Within n) w ≡ Some p → IsNext n w p
next_is n w p h =
    ⊎_elim (λ t. IsNext.last t.1 (sym (same_Some _ _ (rw (t.0) at h)))) (λ f. option_and_then_some (counted n) (line_of w) p (rw f at h) (λ l e g. let c = counted_is n l p g in IsNext.one l e c.0 c.1)) (tested w last_line)

last_alone : (n : ℕ) (w : List ℕ) (ws : List (List ℕ)) (ls : List Line) (p : Passed) (g : Went) → n ≤ MAX_ENTRIES → w ≡ last_line → p ≡ passed Behind None → advance p.stage ws ≡ Some g → behind (lines_of p.line) g ≡ Some (went Behind ls) → AreLast n (w ∷ ws) ls
last_alone n w ws ls p g few is q e f =
    let none = nothing_behind ws g (rw q at e) in
    let same : went Behind [] ≡ went Behind ls = same_Some _ _ (rw (q, none.1) at f) in
    let no_lines : [] ≡ ls = ap (λ (x : Went). x.lines) same in
    record { between = []; are = rw (is, none.0) refl; fit = subst (λ x. AllZip IsLine [] x) no_lines tt; few = subst (λ x. n + length (entries_in x) ≤ MAX_ENTRIES) no_lines (omega arith) }

one_more : (n : ℕ) (w : List ℕ) (ws : List (List ℕ)) (ls : List Line) (p : Passed) (g : Went) → ((m : ℕ) (ls : List Line) → m ≤ MAX_ENTRIES → advance (Within m) ws ≡ Some (went Behind ls) → AreLast m ws ls) → (l : Line) → line_of w ≡ Some l → n + l.count ≤ MAX_ENTRIES → p ≡ passed (Within (n + l.count)) (Some l) → advance p.stage ws ≡ Some g → behind (lines_of p.line) g ≡ Some (went Behind ls) → AreLast n (w ∷ ws) ls
one_more n w ws ls p g rest l is few q e f =
    let same : went g.stage (l ∷ g.lines) ≡ went Behind ls = same_Some _ _ (rw q at f) in
    let stage : g.stage ≡ Behind = ap (λ (x : Went). x.stage) same in
    let lines : l ∷ g.lines ≡ ls = ap (λ (x : Went). x.lines) same in
    let e1 : advance (Within (n + l.count)) ws ≡ Some (went Behind g.lines) = rw (← stage) (rw q at e) in
    let more = rest (n + l.count) g.lines few e1 in
    let total = length-entries l g.lines in
    let sum : n + length (entries_in (l ∷ g.lines)) ≤ MAX_ENTRIES = omega (arith, more.few) in
    record { between = w ∷ more.between; are = ap (λ x. w ∷ x) more.are; fit = subst (λ x. AllZip IsLine (w ∷ more.between) x) lines (line_is w l is, more.fit); few = subst (λ x. n + length (entries_in x) ≤ MAX_ENTRIES) lines sum }

last_lines : (n : ℕ) (ws : List (List ℕ)) (ls : List Line) → n ≤ MAX_ENTRIES → advance (Within n) ws ≡ Some (went Behind ls) → AreLast n ws ls
last_lines n [] ls few h = let same : Within n ≡ Behind = ap (λ (x : Went). x.stage) (same_Some _ _ h) in cc
last_lines n (w ∷ ws) ls few h =
    let rest = λ (m : ℕ) (ls : List Line). last_lines m ws ls in
    option_and_then_some (λ p. option_and_then (behind (lines_of p.line)) (advance p.stage ws)) (next (Within n) w) (went Behind ls) h (λ p e f.
    option_and_then_some (behind (lines_of p.line)) (advance p.stage ws) (went Behind ls) f (λ g i j.
    elim (next_is n w p e) [ last is q ↦ last_alone n w ws ls p g few is q i j | one l is total q ↦ one_more n w ws ls p g rest l is total q i j ]))

pub guarded_some : {A : Type 0} (t : Bool) (x y : A) → guarded t (Some x) ≡ Some y → (t ≡ true) × (x ≡ y)
guarded_some true x y h = (refl, same_Some _ _ h)
guarded_some false x y h = cc

both_same : (w v : List ℕ) (ws vs : List (List ℕ)) → w ≡ v → ws ≡ vs → w ∷ ws ≡ v ∷ vs
both_same w v ws vs e f = cc

pub schedule_advanced : (ws : List (List ℕ)) (ls : List Line) → advance First ws ≡ Some (went Behind ls) → AreLines ws ls
schedule_advanced [] ls h = let same : First ≡ Behind = ap (λ (x : Went). x.stage) (same_Some _ _ h) in cc
schedule_advanced (w ∷ ws) ls h =
    option_and_then_some (λ p. option_and_then (behind (lines_of p.line)) (advance p.stage ws)) (next First w) (went Behind ls) h (λ p e f.
    option_and_then_some (behind (lines_of p.line)) (advance p.stage ws) (went Behind ls) f (λ g i j.
    let t = guarded_some (bytes_eq w first_line) (passed (Within 0) None) p e in
    let is : w ≡ first_line = ⊎_elim (λ p. p.1) (λ n. cc) (tested w first_line) in
    let q = sym t.1 in
    let same : went g.stage g.lines ≡ went Behind ls = same_Some _ _ (rw q at j) in
    let e1 : advance (Within 0) ws ≡ Some (went Behind ls) = rw (← same) (rw q at i) in
    let more = last_lines 0 ws ls (omega arith) e1 in
    record { between = more.between; are = both_same w first_line ws (more.between ++ last_line ∷ []) is more.are; fit = more.fit; few = omega (arith, more.few) }))

-- ---- lines that some more make those of a schedule

pub begin_advances : (ws : List (List ℕ)) → Begin ws → (g : Went) × (advance First ws ≡ Some g)
begin_advances ws b =
    let whole = sym (advance-append First ws b.more) ∙ advance_schedule (ws ++ b.more) b.lines b.are_lines in
    option_and_then_some (λ g. option_and_then (behind g.lines) (advance g.stage b.more)) (advance First ws) (went Behind b.lines) whole (λ g e f. (g, e))

-- lines that end a schedule
abbrev ending : Stage → List (List ℕ)
ending First = first_line ∷ last_line ∷ []
ending (Within n) = last_line ∷ []
ending Behind = []

advance_ending : (s : Stage) → advance s (ending s) ≡ Some (went Behind [])
advance_ending First = refl
advance_ending (Within n) = refl
advance_ending Behind = refl

pub advances_begin : (ws : List (List ℕ)) (g : Went) → advance First ws ≡ Some g → Begin ws
advances_begin ws g h = record { more = ending g.stage; lines = g.lines ++ []; are_lines = schedule_advanced (ws ++ ending g.stage) (g.lines ++ []) (rw (advance-append First ws (ending g.stage), h, advance_ending g.stage) refl) }
