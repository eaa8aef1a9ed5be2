-- Where a text is cut.
use Rattle.std.proofs.Common.{◌≡◌, ◌≢◌, ℕ, ◌<◌, Bool, true, false, ◌==◌, List, [], ◌∷◌, ◌++◌, length, get_or, Option, Some, None, MatchOption, refl, ap, arith, cond, subst, ◌⊎◌, ⊎_elim}
use denote.Ref.{Bor}
use Rattle.std.specs.List.{All}
use Rattle.std.specs.Option.{option_map}
use Rattle.std.proofs.lemmas.Bool.Decides.{eqb_tells, nat_tests}
use Rattle.std.proofs.lemmas.List.Elements.{All-nil, All-cons, All-head, All-tail, All-from_get_or}
use Rattle.std.proofs.lemmas.Str.Pattern.{IsSplitOnceResult, split_parts}
use Rattle.mm_sched.specs.reading.Reading.{Cut, longer, cut}

-- no byte of w is the mark
abbrev pub IsFree : ℕ → List ℕ → Type 0
IsFree mark w = All (λ b. b ≢ mark) w

abbrev pub cut_in : List ℕ → List ℕ → Cut
cut_in w behind = record { before = w; behind = behind }

pub other_byte : (mark b : ℕ) → b ≢ mark → (b == mark) ≡ false
other_byte mark b ne = grind (arith, nat_tests)

own_byte : (mark : ℕ) → (mark == mark) ≡ true
own_byte mark = grind (arith, nat_tests)

pub cut_at : (mark : ℕ) (w behind : List ℕ) → IsFree mark w → cut mark (w ++ mark ∷ behind) ≡ Some (cut_in w behind)
cut_at mark [] behind free = rw (own_byte mark) refl
cut_at mark (b ∷ w) behind free =
    let e = other_byte mark b (All-head (λ b. b ≢ mark) b w free) in
    let more = cut_at mark w behind (All-tail (λ b. b ≢ mark) b w free) in
    rw (e, more) refl

pub cut_none : (mark : ℕ) (w : List ℕ) → IsFree mark w → cut mark w ≡ None
cut_none mark [] free = refl
cut_none mark (b ∷ w) free =
    let e = other_byte mark b (All-head (λ b. b ≢ mark) b w free) in
    let more = cut_none mark w (All-tail (λ b. b ≢ mark) b w free) in
    rw (e, more) refl

-- what a cut is of
pub record IsCut (mark : ℕ) (text : List ℕ) (c : Cut) : Type 0 where
  pub joins : text ≡ c.before ++ mark ∷ c.behind
  pub free : IsFree mark c.before

longer_cut : (mark b : ℕ) (text : List ℕ) (o : Option Cut) (c : Cut) → ((d : Cut) → o ≡ Some d → IsCut mark text d) → b ≢ mark → option_map (longer b) o ≡ Some c → IsCut mark (b ∷ text) c
longer_cut mark b text None c more ne h = cc
longer_cut mark b text (Some d) c more ne h =
    let m = more d refl in
    let e : longer b d ≡ c = cc in
    subst (λ x. IsCut mark (b ∷ text) x) e (record { joins = ap (λ t. b ∷ t) m.joins; free = All-cons (λ b. b ≢ mark) b d.before ne m.free })

first_cut : (mark b : ℕ) (text : List ℕ) (t : Bool) (c : Cut) → ((d : Cut) → cut mark text ≡ Some d → IsCut mark text d) → ((t ≡ true) × (b ≡ mark)) ⊎ ((t ≡ false) × (b ≢ mark)) → cond t (Some (cut_in [] text)) (option_map (longer b) (cut mark text)) ≡ Some c → IsCut mark (b ∷ text) c
first_cut mark b text true c more tells h =
    let e : cut_in [] text ≡ c = cc in
    let same : b ≡ mark = ⊎_elim (λ p. p.1) (λ p. cc (p.0)) tells in
    subst (λ x. IsCut mark (b ∷ text) x) e (record { joins = ap (λ m. m ∷ text) same; free = All-nil (λ b. b ≢ mark) })
first_cut mark b text false c more tells h =
    longer_cut mark b text (cut mark text) c more (⊎_elim (λ p. cc (p.0)) (λ p. p.1) tells) h

pub is_cut : (mark : ℕ) (text : List ℕ) (c : Cut) → cut mark text ≡ Some c → IsCut mark text c
is_cut mark [] c h = cc
is_cut mark (b ∷ text) c h = first_cut mark b text (b == mark) c (is_cut mark text) (eqb_tells b mark) h

-- what `split_once` gives
pub split_is_cut : (mark : ℕ) (text : List ℕ) (r : Option (Bor (List ℕ) × Bor (List ℕ))) → IsSplitOnceResult mark text r → mark < 128 → MatchOption r (cut mark text ≡ None) (λ p. cut mark text ≡ Some (cut_in p.0.now p.1.now))
split_is_cut mark text r is low = at r (split_parts mark text r is low)
  where
    at : (r : Option (Bor (List ℕ) × Bor (List ℕ))) → MatchOption r ((i : ℕ) → i < length text → get_or text i 0 ≢ mark) (λ x. (text ≡ x.0.now ++ (mark ∷ x.1.now)) × ((i : ℕ) → i < length x.0.now → get_or x.0.now i 0 ≢ mark)) → MatchOption r (cut mark text ≡ None) (λ p. cut mark text ≡ Some (cut_in p.0.now p.1.now))
    at None h = cut_none mark text (All-from_get_or (λ b. b ≢ mark) text 0 h)
    at (Some x) h = rw (h.0) (cut_at mark x.0.now x.1.now (All-from_get_or (λ b. b ≢ mark) x.0.now 0 h.1))
