-- A text is its whole lines, and what is left behind them.
use Rattle.std.proofs.Common.{◌≡◌, ◌≢◌, ℕ, Bool, true, false, ◌==◌, List, [], ◌∷◌, ◌++◌, append_assoc, Option, Some, None, refl, ap, ◌∙◌, cond, ◌⊎◌, ⊎_elim}
use Rattle.std.specs.List.{All}
use Rattle.std.specs.Option.{option_map}
use Rattle.std.proofs.lemmas.Bool.Decides.{eqb_tells}
use Rattle.std.proofs.lemmas.List.Elements.{All-nil, All-cons, All-head, All-tail}
use Rattle.mm_sched.specs.ScheduleText.{newline, whole, IsUnfinished}
use Rattle.mm_sched.specs.reading.Reading.{Cut, longer, cut, Parts, first_longer, on_first, new_line, parts}
use Rattle.mm_sched.proofs.Cutting.{IsFree, is_cut, other_byte}

abbrev pub parts_in : List (List ℕ) → List ℕ → Parts
parts_in ws left = record { ws = ws; left = left }

abbrev pub AllFree : List (List ℕ) → Type 0
AllFree ws = All IsUnfinished ws

-- ---- a text that is put together

pub parts_line : (w rest : List ℕ) → IsUnfinished w → parts (w ++ newline ∷ rest) ≡ parts_in (w ∷ (parts rest).ws) (parts rest).left
parts_line [] rest free = refl
parts_line (b ∷ w) rest free =
    let e = other_byte newline b (All-head (λ b. b ≢ newline) b w free) in
    let more = parts_line w rest (All-tail (λ b. b ≢ newline) b w free) in
    rw (e, more) refl

pub parts_left : (w : List ℕ) → IsUnfinished w → parts w ≡ parts_in [] w
parts_left [] free = refl
parts_left (b ∷ w) free =
    let e = other_byte newline b (All-head (λ b. b ≢ newline) b w free) in
    let more = parts_left w (All-tail (λ b. b ≢ newline) b w free) in
    rw (e, more) refl

pub parts_whole : (ws : List (List ℕ)) (rest : List ℕ) → AllFree ws → parts (whole ws ++ rest) ≡ parts_in (ws ++ (parts rest).ws) (parts rest).left
parts_whole [] rest free = refl
parts_whole (w ∷ ws) rest free =
    let more = parts_whole ws rest (All-tail IsUnfinished w ws free) in
    let line = parts_line w (whole ws ++ rest) (All-head IsUnfinished w ws free) in
    simp append_assoc (line ∙ rw more refl)

-- ---- a text that is cut

-- the parts make the text, and no newline is in one
pub record ArePartsOf (text : List ℕ) (p : Parts) : Type 0 where
  pub joins : text ≡ whole p.ws ++ p.left
  pub lines : AllFree p.ws
  pub left : IsUnfinished p.left

longer_parts : (b : ℕ) (text : List ℕ) (ws : List (List ℕ)) (left : List ℕ) → b ≢ newline → ArePartsOf text (parts_in ws left) → ArePartsOf (b ∷ text) (first_longer b ws left)
longer_parts b text [] left ne are = record { joins = ap (λ t. b ∷ t) are.joins; lines = All-nil IsUnfinished; left = All-cons (λ b. b ≢ newline) b left ne are.left }
longer_parts b text (w ∷ ws) left ne are = record { joins = ap (λ t. b ∷ t) are.joins; lines = All-cons IsUnfinished (b ∷ w) ws (All-cons (λ b. b ≢ newline) b w ne (All-head IsUnfinished w ws are.lines)) (All-tail IsUnfinished w ws are.lines); left = are.left }

first_parts : (b : ℕ) (text : List ℕ) (t : Bool) → ((t ≡ true) × (b ≡ newline)) ⊎ ((t ≡ false) × (b ≢ newline)) → ArePartsOf text (parts text) → ArePartsOf (b ∷ text) (cond t (new_line (parts text)) (on_first b (parts text)))
first_parts b text true tells are =
    let same : b ≡ newline = ⊎_elim (λ p. p.1) (λ p. cc (p.0)) tells in
    record { joins = rw same (ap (λ t. newline ∷ t) are.joins); lines = All-cons IsUnfinished [] (parts text).ws (All-nil (λ b. b ≢ newline)) are.lines; left = are.left }
first_parts b text false tells are = longer_parts b text (parts text).ws (parts text).left (⊎_elim (λ p. cc (p.0)) (λ p. p.1) tells) are

pub are_parts : (text : List ℕ) → ArePartsOf text (parts text)
are_parts [] = record { joins = refl; lines = All-nil IsUnfinished; left = All-nil (λ b. b ≢ newline) }
are_parts (b ∷ text) = first_parts b text (b == newline) (eqb_tells b newline) (are_parts text)

pub parts_cut : (text : List ℕ) (c : Cut) → cut newline text ≡ Some c → parts text ≡ parts_in (c.before ∷ (parts c.behind).ws) (parts c.behind).left
parts_cut text c h = let is = is_cut newline text c h in rw (is.joins) (parts_line c.before c.behind is.free)

no_longer : (b : ℕ) (o : Option Cut) → option_map (longer b) o ≡ None → o ≡ None
no_longer b None h = refl
no_longer b (Some c) h = cc

pub free_uncut : (mark : ℕ) (text : List ℕ) → cut mark text ≡ None → IsFree mark text
free_uncut mark [] h = All-nil (λ b. b ≢ mark)
free_uncut mark (b ∷ text) h = at (b == mark) (eqb_tells b mark) h (free_uncut mark text)
  where
    at : (t : Bool) → ((t ≡ true) × (b ≡ mark)) ⊎ ((t ≡ false) × (b ≢ mark)) → cond t (Some (record { before = []; behind = text })) (option_map (longer b) (cut mark text)) ≡ None → (cut mark text ≡ None → IsFree mark text) → IsFree mark (b ∷ text)
    at true tells e more = cc
    at false tells e more = All-cons (λ b. b ≢ mark) b text (⊎_elim (λ p. cc (p.0)) (λ p. p.1) tells) (more (no_longer b (cut mark text) e))

pub parts_uncut : (text : List ℕ) → cut newline text ≡ None → parts text ≡ parts_in [] text
parts_uncut text h = parts_left text (free_uncut newline text h)
