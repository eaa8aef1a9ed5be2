-- What the printed names stand for.
use Rattle.std.proofs.Common.{◌≡◌, ◌≢◌, ℕ, zero, suc, ◌+◌, ◌≤◌, ◌<◌, ◌^◌, nat_eq, nat_lt, not, cond, Bool, true, false, List, [], ◌∷◌, length, take, Some, None, refl, sym, ◌∙◌, ap, arith}
use Rattle.std.specs.Prelude.{codes, find, sum_by, slice_get, option_map}
use Rattle.std.specs.List.{starts_with, position_or_len}
use Rattle.std.specs.Str.{bytes_eq}
use Rattle.std.proofs.lemmas.Fmt.{decimal_injective}
use Rattle.std.proofs.lemmas.List.Sums.{sum_by-cons}
use Rattle.std.proofs.lemmas.Bool.Decides.{nat_tests}
use Rattle.std.proofs.lemmas.Slice.Eq.{bytes_eq-Decides}
use Rattle.mm_goto.specs.declared.ident.Ident.{Ident}
use Rattle.mm_goto.specs.declared.program.Cell.{Cell}
use Rattle.mm_goto.specs.declared.program.Instr.{Instr}
use Rattle.mm_small_code.specs.reading.Flattening.{Named, numbered, number_of, cell_named}
use Rattle.mm_print.specs.SmallText.{local_text, label_text}
use Rattle.mm_print.specs.Woven.{size}

-- ---- equal bytes

eq_same : (xs ys : List ℕ) → xs ≡ ys → bytes_eq xs ys ≡ true
eq_same xs ys e = (bytes_eq-Decides xs ys).1 e

eq_apart : (xs ys : List ℕ) → xs ≢ ys → bytes_eq xs ys ≡ false
eq_apart xs ys n = by (bytes_eq xs ys) (bytes_eq-Decides xs ys).0
  where
    by : (b : Bool) → (b ≡ true → xs ≡ ys) → b ≡ false
    by true h = absurd (n (h refl))
    by false h = refl

front : (x : Ident) (n : ℕ) (names : List Named) → number_of (numbered x n ∷ names) x ≡ Some n
front x n names = ap (λ b. option_map (λ (m : Named). m.number) (cond b (Some (numbered x n)) (find (λ m. bytes_eq m.name x) names))) (eq_same x x refl)

past : (x y : Ident) (n : ℕ) (names : List Named) → x ≢ y → number_of (numbered x n ∷ names) y ≡ number_of names y
past x y n names h = ap (λ b. option_map (λ (m : Named). m.number) (cond b (Some (numbered x n)) (find (λ m. bytes_eq m.name y) names))) (eq_apart x y h)

-- ---- locals

local_apart : (l m : ℕ) → l < 2 ^ 32 → m < 2 ^ 32 → l ≢ m → local_text l ≢ local_text m
local_apart l m g h n e = n (decimal_injective l m (omega arith) (omega arith) (cc))

-- the declarations of n locals, the last in front
abbrev pub declared : ℕ → List Named
declared zero = []
declared (suc n) = numbered (local_text n) n ∷ declared n

pub local_found : (n l : ℕ) → n ≤ 2 ^ 32 → l < n → number_of (declared n) (local_text l) ≡ Some l
local_found zero l h k = absurd (omega arith)
local_found (suc n) l h k = by (nat_eq l n) refl (λ j. local_found n l (omega arith) j)
  where
    by : (b : Bool) → nat_eq l n ≡ b → (l < n → number_of (declared n) (local_text l) ≡ Some l) → number_of (declared (suc n)) (local_text l) ≡ Some l
    by true e below = let same : l ≡ n = grind (arith, nat_tests) in ap (λ m. number_of (declared (suc n)) (local_text m)) same ∙ front (local_text n) n (declared n) ∙ ap Some (sym same)
    by false e below = let other : n ≢ l = grind (arith, nat_tests) in past (local_text n) (local_text l) n (declared n) (local_apart n l (omega arith) (omega arith) other) ∙ below (omega (arith, k, other))

-- a name that does not begin with wm_ is none of them
pub no_local : (n : ℕ) (x : Ident) → starts_with nat_eq x (codes "wm_") ≡ false → number_of (declared n) x ≡ None
no_local zero x h = refl
no_local (suc n) x h = past (local_text n) x n (declared n) apart ∙ no_local n x h
  where
    apart : local_text n ≢ x
    apart e = let t : true ≡ false = ap (λ y. starts_with nat_eq y (codes "wm_")) e ∙ h in cc

-- ---- labels

label_apart : (j k : ℕ) → j < 2 ^ 32 → k < 2 ^ 32 → j ≢ k → label_text j ≢ label_text k
label_apart j k g h n e = n (decimal_injective j k (omega arith) (omega arith) (cc))

-- the labels of the instructions from number k and place m on, the last in front, and those before them
abbrev pub labelled : ℕ → ℕ → List Instr → List Named → List Named
labelled k m [] before = before
labelled k m (i ∷ is) before = labelled (k + 1) (m + size i) is (numbered (label_text k) m ∷ before)

label_before : (j k m : ℕ) (is : List Instr) (before : List Named) → j < k → k + length is ≤ 2 ^ 32 → number_of (labelled k m is before) (label_text j) ≡ number_of before (label_text j)
label_before j k m [] before h g = refl
label_before j k m (i ∷ is) before h g =
    let other : k ≢ j = omega arith in
    label_before j (k + 1) (m + size i) is (numbered (label_text k) m ∷ before) (omega arith) (omega arith) ∙ past (label_text k) (label_text j) m before (label_apart k j (omega arith) (omega arith) other)

pub label_found : (d k m : ℕ) (is : List Instr) (before : List Named) → d < length is → k + length is ≤ 2 ^ 32 → number_of (labelled k m is before) (label_text (k + d)) ≡ Some (m + sum_by size (take d is))
label_found d k m [] before h g = absurd (omega arith)
label_found zero k m (i ∷ is) before h g =
    ap (λ j. number_of (labelled k m (i ∷ is) before) (label_text j)) {x = k + 0} {y = k} (omega arith)
    ∙ label_before k (k + 1) (m + size i) is (numbered (label_text k) m ∷ before) (omega arith) (omega arith)
    ∙ front (label_text k) m before ∙ ap Some (omega arith)
label_found (suc d) k m (i ∷ is) before h g =
    ap (λ j. number_of (labelled k m (i ∷ is) before) (label_text j)) {x = k + suc d} {y = k + 1 + d} (omega arith)
    ∙ label_found d (k + 1) (m + size i) is (numbered (label_text k) m ∷ before) (omega arith) (omega arith)
    ∙ ap Some (omega (arith, sum_by-cons size i (take d is)))

-- ---- cells

pub record HasPlace (cells : List Cell) (x : Ident) (c : ℕ) : Type 0 where
  pub cell : Cell
  pub there : slice_get cells c ≡ Some cell
  pub name : cell.name ≡ x
  pub alone : (d : ℕ) (b : Cell) → slice_get cells d ≡ Some b → b.name ≡ x → d ≡ c

-- the first place at which the test passes, where it passes nowhere else
first_place : {X : Type 0} (p : X → Bool) (xs : List X) (c : ℕ) (x : X) → slice_get xs c ≡ Some x → p x ≡ true → ((d : ℕ) (y : X) → slice_get xs d ≡ Some y → p y ≡ true → d ≡ c) → (position_or_len p xs ≡ c) × (c < length xs)
first_place p [] c x e h alone = absurd (cc)
first_place p (y ∷ ys) zero x e h alone =
    let same : y ≡ x = cc in
    (ap (λ b. cond (not b) (1 + position_or_len p ys) 0) (ap p same ∙ h), omega arith)
first_place p (y ∷ ys) (suc c) x e h alone =
    let no : p y ≡ false = by (p y) (λ t. alone 0 y refl t) in
    let rest = first_place p ys c x e h (λ d z g t. below d (alone (suc d) z g t)) in
    (ap (λ b. cond (not b) (1 + position_or_len p ys) 0) no ∙ ap (λ n. 1 + n) rest.0 ∙ omega arith, omega (arith, rest.1))
  where
    by : (b : Bool) → (b ≡ true → 0 ≡ suc c) → b ≡ false
    by true k = absurd (omega (arith, k refl))
    by false k = refl

    below : (d : ℕ) → suc d ≡ suc c → d ≡ c
    below d g = omega arith

pub cell_found : (cells : List Cell) (x : Ident) (c : ℕ) → HasPlace cells x c → cell_named cells x ≡ Some c
cell_found cells x c h =
    let f = first_place (λ (b : Cell). bytes_eq b.name x) cells c h.cell h.there (eq_same h.cell.name x h.name) (λ d b g t. h.alone d b g ((bytes_eq-Decides b.name x).0 t)) in
    placed (position_or_len (λ (b : Cell). bytes_eq b.name x) cells) (length cells) f.0 f.1
  where
    placed : (n l : ℕ) → n ≡ c → c < l → cond (nat_lt n l) (Some n) None ≡ Some c
    placed n l e k =
        let t : nat_lt n l ≡ true = grind (arith, nat_tests) in
        ap (λ b. cond b (Some n) None) t ∙ ap Some e
