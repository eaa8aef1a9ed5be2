-- Main starts each thread once, and waits for each at most once, where no use of a thread's variable is a misuse.
use Rattle.std.proofs.Common.{arith, ◌≡◌, ◌⊎◌, inl, inr, ℕ, zero, suc, ◌+◌, ◌-◌, ◌<◌, ◌≤◌, ◌==◌, Bool, true, false, not, ◌&&◌, ◌||◌, cond, if◌then◌else◌, is_some, List, [], ◌∷◌, ◌++◌, length, take, refl, ◌∙◌, sym, ap, subst, append_assoc, Option, Some, None}
use Rattle.std.specs.List.{AllByRecursion, count_by, list_any, slice_get}
use Rattle.std.specs.Str.{bytes_eq}
use Rattle.std.proofs.lemmas.Bool.Decides.{nat_tests}
use Rattle.std.proofs.lemmas.List.{length-append}
use Rattle.std.proofs.lemmas.List.Sums.{sum_by-cons}
use Rattle.std.proofs.Math.Seq.{take-append_seam}
use Rattle.mm_goto.specs.declared.ident.Ident.{Ident}
use Rattle.mm_goto.specs.declared.program.Instr.{Instr}
use Rattle.mm_goto.specs.declared.program.Instr.TheVariants as instr
use Rattle.mm_goto.specs.Valid.{is_start, is_join}
use Rattle.mm_flow.specs.declared.names.Started.{Started}
use Rattle.mm_flow.specs.Scopes.{last_with, thread_in}
use Rattle.mm_flow.specs.Statements.{or_0}
use Rattle.mm_scope.specs.Notes.{Use}
use Rattle.mm_names.specs.Threads.{starts, are_same, is_start_of, is_join_of, is_misused}
use Rattle.mm_sourcelike.proofs.Bodies.{Follows, Apart}
use Rattle.mm_sourcelike.proofs.Cells.{at_right}
use Rattle.mm_sourcelike.proofs.Scoping.{none_is_not, same_some}
use Rattle.mm_sourcelike.proofs.Starts.{numbered, use_instr, behind_use, start_of, started_in, started_append, next_count}
use Rattle.mm_sourcelike.proofs.Tables.{same_names, itself, true_is_not}
use Rattle.mm_sourcelike.proofs.Valuing.{test_first, test_second}

-- how often it passes
abbrev hit : (Instr → Bool) → Instr → ℕ
hit test i = cond (test i) 1 0

counted : (test : Instr → Bool) (i : Instr) (is : List Instr) → count_by test (i ∷ is) ≡ hit test i + count_by test is
counted test i is = sum_by-cons (hit test) i is

hit_of : (test : Instr → Bool) (i : Instr) (b : Bool) → test i ≡ b → hit test i ≡ cond {A = ℕ} b 1 0
hit_of test i b e = ap {B = ℕ} (λ c. cond c 1 0) e

equal : (m n : ℕ) → m ≡ n → (m == n) ≡ true
equal m n e = grind (arith, nat_tests)

equal_is : (m n : ℕ) → (m == n) ≡ true → m ≡ n
equal_is m n e = grind (arith, nat_tests)

unequal : (m n : ℕ) → (m ≡ n → ⊥) → (m == n) ≡ false
unequal m n h = by (m == n) refl
  where
    by : (b : Bool) → (m == n) ≡ b → b ≡ false
    by true e = absurd (h (equal_is m n e))
    by false e = refl

-- ---- starts

use_grows : (n : ℕ) (f : Option Ident) → n ≤ behind_use n f
use_grows n (Some f) = omega arith
use_grows n None = omega arith

early_head : (all : List Started) (n v : ℕ) (x : Ident) (f : Option Ident) (is : List Instr) → v ≤ n → count_by (is_start v) is ≡ 0 → count_by (is_start v) (use_instr all n x f ∷ is) ≡ 0
early_head all n v x (Some f) is l h = counted (is_start v) (instr.Start (n + 1)) is ∙ omega (arith, h, hit_of (is_start v) (instr.Start (n + 1)) false (unequal (n + 1) v (λ e. omega arith)))
early_head all n v x None is l h = counted (is_start v) (use_instr all n x None) is ∙ omega (arith, h)

early : (all : List Started) (n v : ℕ) (us : List Use) → v ≤ n → count_by (is_start v) (numbered all n us) ≡ 0
early all n v [] l = refl
early all n v (u ∷ us) l = early_head all n v u.variable u.function (numbered all (behind_use n u.function) us) l (early all (behind_use n u.function) v us (omega (arith, l, use_grows n u.function)))

further : (n v : ℕ) → n < v → (n + 1 == v) ≡ false → n + 1 < v
further n v l e = grind (arith, nat_tests)

once_head : (all : List Started) (n v : ℕ) (x : Ident) (f : Option Ident) (us : List Use) → n < v → v ≤ n + length (start_of x f ++ started_in us) → ((m : ℕ) → m < v → v ≤ m + length (started_in us) → count_by (is_start v) (numbered all m us) ≡ 1)
    → count_by (is_start v) (use_instr all n x f ∷ numbered all (behind_use n f) us) ≡ 1
once_head all n v x None us l h g = counted (is_start v) (use_instr all n x None) (numbered all n us) ∙ omega (arith, g n l h)
once_head all n v x (Some f) us l h g = by (n + 1 == v) refl
  where
    by : (b : Bool) → (n + 1 == v) ≡ b → count_by (is_start v) (instr.Start (n + 1) ∷ numbered all (n + 1) us) ≡ 1
    by true e = counted (is_start v) (instr.Start (n + 1)) (numbered all (n + 1) us) ∙ omega (arith, hit_of (is_start v) (instr.Start (n + 1)) true e, early all (n + 1) v us (omega (arith, equal_is (n + 1) v e)))
    by false e =
        let apart : n + 1 < v = further n v l e in
        counted (is_start v) (instr.Start (n + 1)) (numbered all (n + 1) us) ∙ omega (arith, hit_of (is_start v) (instr.Start (n + 1)) false e, g (n + 1) apart (omega arith))

-- each thread is started once
pub once : (all : List Started) (n v : ℕ) (us : List Use) → n < v → v ≤ n + length (started_in us) → count_by (is_start v) (numbered all n us) ≡ 1
once all n v [] l h = absurd (omega arith)
once all n v (u ∷ us) l h = once_head all n v u.variable u.function us l h (λ m p q. once all m v us p q)

-- ---- starts among uses

abbrev kept_if : Use → Option Ident → List Use
kept_if u (Some f) = u ∷ []
kept_if u None = []

abbrev starting : List Use → List Use
starting [] = []
starting (u ∷ us) = kept_if u u.function ++ starting us

starting_append : (us vs : List Use) → starting (us ++ vs) ≡ starting us ++ starting vs
starting_append [] vs = refl
starting_append (u ∷ us) vs = ap (λ ws. kept_if u u.function ++ ws) (starting_append us vs) ∙ sym (append_assoc (kept_if u u.function) (starting us) (starting vs))

kept_length : (u : Use) (x : Ident) (f : Option Ident) → length (kept_if u f) ≡ length (start_of x f)
kept_length u x (Some f) = refl
kept_length u x None = refl

starting_length : (us : List Use) → length (starting us) ≡ length (started_in us)
starting_length [] = refl
starting_length (u ∷ us) = length-append (kept_if u u.function) (starting us) ∙ (omega (arith, kept_length u u.variable u.function, starting_length us) ∙ sym (length-append (start_of u.variable u.function) (started_in us)))

abbrev NoneOf : Ident → List Use → Type 0
NoneOf x us = AllByRecursion (λ w. starts w ≡ true → bytes_eq w.variable x ≡ false) us

-- the last start with a variable
record Found (before : List Use) (c : ℕ) (x : Ident) (v : ℕ) : Type 0 where
  front : List Use
  it : Use
  back : List Use
  is : before ≡ front ++ it ∷ back
  function : Ident
  starts : it.function ≡ Some function
  variable : bytes_eq it.variable x ≡ true
  number : v ≡ c + length (starting front)
  none : NoneOf x back

-- or there is none, and it is as before
record Missing (before : List Use) (x : Ident) (was : Option ℕ) (v : ℕ) : Type 0 where
  old : was ≡ Some v
  none : NoneOf x before

further_found : (u : Use) (us : List Use) (c m : ℕ) (x : Ident) (v : ℕ) → m ≡ c + length (kept_if u u.function) → Found us m x v → Found (u ∷ us) c x v
further_found u us c m x v e h = record {
  front = u ∷ h.front;
  it = h.it;
  back = h.back;
  is = ap (λ ws. u ∷ ws) h.is;
  function = h.function;
  starts = h.starts;
  variable = h.variable;
  number = omega (arith, h.number, e, length-append (kept_if u u.function) (starting h.front));
  none = h.none;
}

is_start_use : (u : Use) (f : Option Ident) → u.function ≡ f → is_some u.function ≡ is_some f
is_start_use u f e = ap is_some e

last_is : (us : List Use) (c : ℕ) (x : Ident) (old : Option ℕ) (v : ℕ) → last_with (started_in us) c x old ≡ Some v → Found us c x v ⊎ Missing us x old v
last_is [] c x old v e = inr (record { old = e; none = tt })
last_is (u ∷ us) c x old v e = by u.function refl (λ m o. last_is us m x o v) e
  where
    kept_more : (f : Option Ident) → u.function ≡ f → length (kept_if u u.function) ≡ length (kept_if u f)
    kept_more f q = ap (λ g. length (kept_if u g)) q

    missed : (b : Bool) (f : Ident) → u.function ≡ Some f → bytes_eq u.variable x ≡ b → Missing us x (if b then Some c else old) v → Found (u ∷ us) c x v ⊎ Missing (u ∷ us) x old v
    missed true f q r h = let same : c ≡ v = same_some c v h.old in inl (record { front = []; it = u; back = us; is = refl; function = f; starts = q; variable = r; number = omega arith; none = h.none })
    missed false f q r h = inr (record { old = h.old; none = (λ s. r, h.none) })

    by : (f : Option Ident) → u.function ≡ f → ((m : ℕ) (o : Option ℕ) → last_with (started_in us) m x o ≡ Some v → Found us m x v ⊎ Missing us x o v) → last_with (start_of u.variable f ++ started_in us) c x old ≡ Some v → Found (u ∷ us) c x v ⊎ Missing (u ∷ us) x old v
    by None q g r = part (g c old r)
      where
        part : Found us c x v ⊎ Missing us x old v → Found (u ∷ us) c x v ⊎ Missing (u ∷ us) x old v
        part (inl h) = inl (further_found u us c c x v (omega (arith, kept_more None q)) h)
        part (inr h) = inr (record { old = h.old; none = (λ s. true_is_not (sym s ∙ is_start_use u None q), h.none) })
    by (Some f) q g r = part (g (c + 1) (if bytes_eq u.variable x then Some c else old) r)
      where
        part : Found us (c + 1) x v ⊎ Missing us x (if bytes_eq u.variable x then Some c else old) v → Found (u ∷ us) c x v ⊎ Missing (u ∷ us) x old v
        part (inl h) = inl (further_found u us c (c + 1) x v (omega (arith, kept_more (Some f) q)) h)
        part (inr h) = missed (bytes_eq u.variable x) f q refl h

-- ---- uses apart

front_follow : (front : List Use) (s : Use) (back : List Use) → Apart (front ++ s ∷ back) → AllByRecursion (λ w. Follows w s) front
front_follow [] s back h = tt
front_follow (w ∷ front) s back h = (middle front h.0, front_follow front s back h.1)
  where
    middle : (us : List Use) → AllByRecursion (Follows w) (us ++ s ∷ back) → Follows w s
    middle [] g = g.0
    middle (q ∷ us) g = middle us g.1

apart_behind : (front us : List Use) → Apart (front ++ us) → Apart us
apart_behind [] us h = h
apart_behind (w ∷ front) us h = apart_behind front us h.1

follow_at : (s : Use) (back : List Use) (u : Use) (rest : List Use) → AllByRecursion (Follows s) (back ++ u ∷ rest) → Follows s u
follow_at s [] u rest h = h.0
follow_at s (w ∷ back) u rest h = follow_at s back u rest h.1

none_any : (test : Use → Bool) (us : List Use) → AllByRecursion (λ w. test w ≡ false) us → list_any test us ≡ false
none_any test [] h = refl
none_any test (u ∷ us) h = ap (λ b. b || list_any test us) h.0 ∙ none_any test us h.1

all_joined : (P : Use → Type 0) (xs : List Use) (y : Use) (ys : List Use) → AllByRecursion P xs → P y → AllByRecursion P ys → AllByRecursion P (xs ++ y ∷ ys)
all_joined P [] y ys h g k = (g, k)
all_joined P (x ∷ xs) y ys h g k = (h.0, all_joined P xs y ys h.1 g k)

each_use : (P Q : Use → Type 0) → ((w : Use) → P w → Q w) → (us : List Use) → AllByRecursion P us → AllByRecursion Q us
each_use P Q f [] h = tt
each_use P Q f (u ∷ us) h = (f u h.0, each_use P Q f us h.1)

-- ---- joins

same_flags : (a b : Bool) → are_same a b ≡ true → a ≡ b
same_flags true true e = refl
same_flags false false e = refl
same_flags true false e = sym e
same_flags false true e = e

flags_same : (a b : Bool) → a ≡ b → are_same a b ≡ true
flags_same true true e = refl
flags_same false false e = refl
flags_same true false e = sym e
flags_same false true e = e

not_start : (u : Use) (w : Use) → (starts w ≡ true → are_same u.local w.local ≡ true → bytes_eq u.variable w.variable ≡ true → ⊥) → is_start_of u w ≡ false
unfolding is_start_of
not_start u w h = by (are_same u.local w.local) (bytes_eq u.variable w.variable) (starts w) h
  where
    by : (a b c : Bool) → (c ≡ true → a ≡ true → b ≡ true → ⊥) → ((a && b) && c) ≡ false
    by true true true g = absurd (g refl refl refl)
    by true true false g = refl
    by true false c g = refl
    by false b c g = refl

record FitsStart (whole : List Use) (u : Use) (v : ℕ) : Type 0 where
  it : Use
  at : slice_get (starting whole) (v - 1) ≡ Some it
  local : it.local ≡ u.local
  variable : it.variable ≡ u.variable

pub only_start : (before : List Use) (u : Use) → u.function ≡ None → is_misused before u ≡ false → (list_any (is_start_of u) before ≡ true) × (list_any (is_join_of u) before ≡ false)
unfolding is_misused
only_start before u e h = by (list_any (is_start_of u) before) (list_any (is_join_of u) before) (sym (ap (λ f. if is_some f then list_any (is_start_of u) before else (not (list_any (is_start_of u) before) || list_any (is_join_of u) before)) e) ∙ h)
  where
    by : (a b : Bool) → (not a || b) ≡ false → (a ≡ true) × (b ≡ false)
    by true b q = (refl, q)
    by false b q = true_is_not q

-- the start whose thread is waited for is of the variable that the join is of
flag_of : (front : List Use) (s : Use) (back : List Use) (u : Use) (rest : List Use) → Apart ((front ++ s ∷ back) ++ u ∷ rest) → bytes_eq s.variable u.variable ≡ true → NoneOf u.variable back → list_any (is_start_of u) (front ++ s ∷ back) ≡ true → s.local ≡ u.local
flag_of front s back u rest apart same none any = by s.local u.local refl refl
  where
    all : Apart (front ++ s ∷ (back ++ u ∷ rest))
    all = subst Apart (append_assoc front (s ∷ back) (u ∷ rest)) apart

    here : Follows s u
    here = follow_at s back u rest (apart_behind front (s ∷ (back ++ u ∷ rest)) all).0

    clash : s.local ≡ false → u.local ≡ true → (w : Use) → Follows w s → starts w ≡ true → are_same u.local w.local ≡ true → bytes_eq u.variable w.variable ≡ true → ⊥
    clash p q w f st fl eq =
        true_is_not (sym (itself w.variable) ∙ (ap (bytes_eq w.variable) (sym (same_names u.variable w.variable eq) ∙ sym (same_names s.variable u.variable same)) ∙ f (sym (same_flags u.local w.local fl) ∙ q) p))

    front_none : s.local ≡ false → u.local ≡ true → AllByRecursion (λ w. is_start_of u w ≡ false) front
    front_none p q = each_use (λ w. Follows w s) (λ w. is_start_of u w ≡ false) (λ w f. not_start u w (clash p q w f)) front (front_follow front s (back ++ u ∷ rest) all)

    back_none : AllByRecursion (λ w. is_start_of u w ≡ false) back
    back_none = each_use (λ w. starts w ≡ true → bytes_eq w.variable u.variable ≡ false) (λ w. is_start_of u w ≡ false) (λ w f. not_start u w (λ st fl eq. true_is_not (sym (itself w.variable) ∙ (ap (bytes_eq w.variable) (sym (same_names u.variable w.variable eq)) ∙ f st)))) back none

    by : (a b : Bool) → s.local ≡ a → u.local ≡ b → a ≡ b
    by true true p q = refl
    by false false p q = refl
    by true false p q = true_is_not (sym same ∙ here p q)
    by false true p q =
        let itself_none : is_start_of u s ≡ false = not_start u s (λ st fl eq. true_is_not (sym q ∙ (same_flags u.local s.local fl ∙ p))) in
        true_is_not (sym any ∙ none_any (is_start_of u) (front ++ s ∷ back) (all_joined (λ w. is_start_of u w ≡ false) front s back (front_none p q) itself_none back_none))

some_value : (o : Option ℕ) (v : ℕ) → 1 ≤ v → or_0 o ≡ v → o ≡ Some v
some_value (Some w) v l e = ap Some e
some_value None v l e = absurd (omega arith)

first_kept : (u : Use) (f : Ident) (us : List Use) → u.function ≡ Some f → starting (u ∷ us) ≡ u ∷ starting us
first_kept u f us e = ap (λ g. kept_if u g ++ starting us) e

join_fits : (whole before rest : List Use) (u : Use) (v : ℕ) → whole ≡ before ++ u ∷ rest → u.function ≡ None → is_misused before u ≡ false → Apart whole → 1 ≤ v
    → or_0 (thread_in (started_in whole) (length (started_in before)) u.variable) ≡ v → FitsStart whole u v
join_fits whole before rest u v e none proper apart l value =
    let split : started_in whole ≡ started_in before ++ started_in (u ∷ rest) = ap started_in e ∙ started_append before (u ∷ rest) in
    let front_of : take (length (started_in before)) (started_in whole) ≡ started_in before = ap (take (length (started_in before))) split ∙ take-append_seam (started_in before) (started_in (u ∷ rest)) in
    let is : last_with (started_in before) 1 u.variable None ≡ Some v = sym (ap (λ ss. last_with ss 1 u.variable None) front_of) ∙ some_value (thread_in (started_in whole) (length (started_in before)) u.variable) v l value in
    by (last_is before 1 u.variable None v is)
  where
    by : Found before 1 u.variable v ⊎ Missing before u.variable None v → FitsStart whole u v
    by (inr m) = absurd (none_is_not v m.old)
    by (inl h) =
        let any = (only_start before u none proper).0 in
        let inside : whole ≡ (h.front ++ h.it ∷ h.back) ++ u ∷ rest = e ∙ ap (λ (bs : List Use). bs ++ u ∷ rest) h.is in
        let flag = flag_of h.front h.it h.back u rest (subst Apart inside apart) h.variable h.none (subst (λ (bs : List Use). list_any (is_start_of u) bs ≡ true) h.is any) in
        let flat : whole ≡ h.front ++ (h.it ∷ (h.back ++ u ∷ rest)) = inside ∙ append_assoc h.front (h.it ∷ h.back) (u ∷ rest) in
        let listed : starting whole ≡ starting h.front ++ (h.it ∷ starting (h.back ++ u ∷ rest)) =
        ap starting flat ∙ (starting_append h.front (h.it ∷ (h.back ++ u ∷ rest)) ∙ ap (λ ws. starting h.front ++ ws) (first_kept h.it h.function (h.back ++ u ∷ rest) h.starts)) in
        let index : v - 1 ≡ length (starting h.front) + 0 = omega (arith, h.number) in
        record {
          it = h.it;
          local = flag;
          variable = same_names h.it.variable u.variable h.variable;
          at = ap (λ ws. slice_get ws (v - 1)) listed ∙ (ap (slice_get (starting h.front ++ (h.it ∷ starting (h.back ++ u ∷ rest)))) index ∙ at_right (starting h.front) (h.it ∷ starting (h.back ++ u ∷ rest)) 0);
        }

-- no use is a misuse behind these
abbrev pub Proper : List Use → List Use → Type 0
Proper before [] = Unit {0}
Proper before (u ∷ us) = (is_misused before u ≡ false) × Proper (before ++ u ∷ []) us

key_same : (s u w : Use) → s.local ≡ u.local → s.variable ≡ u.variable → is_join_of s w ≡ is_join_of u w
unfolding is_join_of
key_same s u w e f = ap (λ b. (are_same b w.local && bytes_eq s.variable w.variable) && not (starts w)) e ∙ ap (λ x. (are_same u.local w.local && bytes_eq x w.variable) && not (starts w)) f

joins_itself : (s u : Use) → s.local ≡ u.local → s.variable ≡ u.variable → u.function ≡ None → is_join_of s u ≡ true
unfolding is_join_of
joins_itself s u e f g =
    ap (λ b. (b && bytes_eq s.variable u.variable) && not (starts u)) (flags_same s.local u.local e)
    ∙ (ap (λ b. b && not (starts u)) (ap (λ x. bytes_eq x u.variable) f ∙ itself u.variable) ∙ ap (λ h. not (is_some h)) g)

module _ (whole : List Use) (apart : Apart whole) (v : ℕ) (positive : 1 ≤ v) (s : Use) (at : slice_get (starting whole) (v - 1) ≡ Some s) where
  abbrev all : List Started
  all = started_in whole

  join_head : (before : List Use) (u : Use) (rest : List Use) (n : ℕ) → whole ≡ before ++ u ∷ rest → n ≡ length (started_in before) → is_misused before u ≡ false → (f : Option Ident) → u.function ≡ f → hit (is_join v) (use_instr all n u.variable f) ≤ cond {A = ℕ} (is_join_of s u) 1 0
  join_head before u rest n e c proper (Some f) q = omega arith
  join_head before u rest n e c proper None q = by (or_0 (thread_in all n u.variable) == v) refl
    where
      by : (b : Bool) → (or_0 (thread_in all n u.variable) == v) ≡ b → hit (is_join v) (instr.Join (or_0 (thread_in all n u.variable))) ≤ cond {A = ℕ} (is_join_of s u) 1 0
      by false r = omega (arith, hit_of (is_join v) (instr.Join (or_0 (thread_in all n u.variable))) false r)
      by true r =
          let value : or_0 (thread_in all (length (started_in before)) u.variable) ≡ v = ap (λ m. or_0 (thread_in all m u.variable)) (sym c) ∙ equal_is (or_0 (thread_in all n u.variable)) v r in
          let fits = join_fits whole before rest u v e q proper apart positive value in
          let same : fits.it ≡ s = same_some fits.it s (sym fits.at ∙ at) in
          let joins : is_join_of s u ≡ true = subst (λ (w : Use). is_join_of w u ≡ true) same (joins_itself fits.it u fits.local fits.variable q) in
          let one : cond {A = ℕ} (is_join_of s u) 1 0 ≡ 1 = ap {B = ℕ} (λ b. cond b 1 0) joins in
          omega (arith, one, hit_of (is_join v) (instr.Join (or_0 (thread_in all n u.variable))) true r)

  joins_bound : (before us : List Use) (n : ℕ) → whole ≡ before ++ us → n ≡ length (started_in before) → Proper before us → count_by (is_join v) (numbered all n us) ≤ count_by (is_join_of s) us
  joins_bound before [] n e c h = omega arith
  joins_bound before (u ∷ us) n e c h =
      let m : ℕ = behind_use n u.function in
      let count : m ≡ length (started_in (before ++ u ∷ [])) = next_count n u.variable u.function ∙ (omega (arith, c, length-append (started_in before) (started_in (u ∷ [])), length-append (start_of u.variable u.function) (started_in [])) ∙ sym (ap length (started_append before (u ∷ [])))) in
      let rest = joins_bound (before ++ u ∷ []) us m (e ∙ sym (append_assoc before (u ∷ []) us)) count h.1 in
      omega (arith, rest, join_head before u us n e c h.0 u.function refl, counted (is_join v) (use_instr all n u.variable u.function) (numbered all m us), sum_by-cons {X = Use} (λ w. cond {A = ℕ} (is_join_of s w) 1 0) u us)

-- ---- a variable is waited for once

any_append : (test : Use → Bool) (xs ys : List Use) → list_any test (xs ++ ys) ≡ (list_any test xs || list_any test ys)
any_append test [] ys = refl
any_append test (x ∷ xs) ys = ap (λ b. test x || b) (any_append test xs ys) ∙ by (test x)
  where
    by : (b : Bool) → (b || (list_any test xs || list_any test ys)) ≡ ((b || list_any test xs) || list_any test ys)
    by true = refl
    by false = refl

same_any : (s u : Use) → s.local ≡ u.local → s.variable ≡ u.variable → (us : List Use) → list_any (is_join_of s) us ≡ list_any (is_join_of u) us
same_any s u e f [] = refl
same_any s u e f (w ∷ us) = ap (λ b. b || list_any (is_join_of s) us) (key_same s u w e f) ∙ ap (λ b. is_join_of u w || b) (same_any s u e f us)

record JoinKey (s u : Use) : Type 0 where
  local : s.local ≡ u.local
  variable : s.variable ≡ u.variable
  function : u.function ≡ None

join_key : (s u : Use) → is_join_of s u ≡ true → JoinKey s u
unfolding is_join_of
join_key s u h =
    let one = test_first (are_same s.local u.local && bytes_eq s.variable u.variable) (not (starts u)) h in
    record {
      local = same_flags s.local u.local (test_first (are_same s.local u.local) (bytes_eq s.variable u.variable) one);
      variable = same_names s.variable u.variable (test_second (are_same s.local u.local) (bytes_eq s.variable u.variable) one);
      function = no_function u.function (test_second (are_same s.local u.local && bytes_eq s.variable u.variable) (not (starts u)) h);
    }
  where
    no_function : (f : Option Ident) → not (is_some f) ≡ true → f ≡ None
    no_function None q = refl
    no_function (Some f) q = true_is_not (sym q)

record AtMostOnce (s : Use) (before us : List Use) : Type 0 where
  once : count_by (is_join_of s) us ≤ 1
  none : list_any (is_join_of s) before ≡ true → count_by (is_join_of s) us ≡ 0

joined_once : (s : Use) (before us : List Use) → Proper before us → AtMostOnce s before us
joined_once s before [] h = record { once = omega arith; none = λ e. refl }
joined_once s before (u ∷ us) h = by (is_join_of s u) refl (joined_once s (before ++ u ∷ []) us h.1)
  where
    head : count_by (is_join_of s) (u ∷ us) ≡ cond {A = ℕ} (is_join_of s u) 1 0 + count_by (is_join_of s) us
    head = sum_by-cons (λ w. cond {A = ℕ} (is_join_of s w) 1 0) u us

    by : (b : Bool) → is_join_of s u ≡ b → AtMostOnce s (before ++ u ∷ []) us → AtMostOnce s before (u ∷ us)
    by true e r =
        let key = join_key s u e in
        let none_before : list_any (is_join_of s) before ≡ false = same_any s u key.local key.variable before ∙ (only_start before u key.function h.0).1 in
        let some_now : list_any (is_join_of s) (before ++ u ∷ []) ≡ true = any_append (is_join_of s) before (u ∷ []) ∙ (ap (λ b. b || list_any (is_join_of s) (u ∷ [])) none_before ∙ ap (λ b. b || false) e) in
        let one : cond {A = ℕ} (is_join_of s u) 1 0 ≡ 1 = ap {B = ℕ} (λ b. cond b 1 0) e in
        record { once = omega (arith, head, one, r.none some_now); none = λ q. true_is_not (sym q ∙ none_before) }
    by false e r =
        let zero_here : cond {A = ℕ} (is_join_of s u) 1 0 ≡ 0 = ap {B = ℕ} (λ b. cond b 1 0) e in
        record {
          once = omega (arith, head, zero_here, r.once);
          none = λ q. omega (arith, head, zero_here, r.none (any_append (is_join_of s) before (u ∷ []) ∙ ap (λ b. b || list_any (is_join_of s) (u ∷ [])) q));
        }

inside : (k : ℕ) (xs : List Use) → k < length xs → slice_get xs k ≡ None → ⊥
inside k [] l e = absurd (omega arith)
inside zero (x ∷ xs) l e = none_is_not x (sym e)
inside (suc k) (x ∷ xs) l e = inside k xs (omega arith) e

-- each thread is waited for at most once
pub joined : (us : List Use) (v : ℕ) → Apart us → Proper [] us → 1 ≤ v → v ≤ length (started_in us) → count_by (is_join v) (numbered (started_in us) 0 us) ≤ 1
joined us v apart proper l h = by (slice_get (starting us) (v - 1)) refl
  where
    by : (o : Option Use) → slice_get (starting us) (v - 1) ≡ o → count_by (is_join v) (numbered (started_in us) 0 us) ≤ 1
    by None e = absurd (missing e)
      where
        missing : slice_get (starting us) (v - 1) ≡ None → ⊥
        missing q = inside (v - 1) (starting us) (omega (arith, starting_length us)) q
    by (Some s) e = omega (arith, joins_bound us apart v l s e [] us 0 refl refl proper, (joined_once s [] us proper).once)
