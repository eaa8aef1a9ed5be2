-- The checks that expressions want, and locals that stand neither in an expression nor in its checks.
use Rattle.std.proofs.Common.{arith, ◌≡◌, ℕ, ℤ, pos, ◌==◌, ◌||◌, Bool, true, false, [], ◌∷◌, ◌++◌, refl, ◌∙◌, sym, ap, ap₂, subst}
use denote.Hole.Carrier
use Rattle.std.proofs.lemmas.Bool.Decides.{nat_tests}
use Rattle.mm_goto.specs.declared.pure.Unary.{Unary}
use Rattle.mm_goto.specs.declared.pure.Binary.{Binary}
use Rattle.mm_goto.specs.declared.pure.Binary.TheVariants as binary
use Rattle.mm_goto.specs.declared.pure.Pure.{Pure}
use Rattle.mm_goto.specs.declared.pure.Pure.TheViews.{roll-Pure}
use Rattle.mm_goto.specs.declared.pure.Pure.TheFolds.{fold-Pure}
use Rattle.mm_goto.specs.Checks.{Checked, wants_of, checked_step, checks_of, names, names_step, is_in_range, is_not_zero}
use Rattle.mm_goto.specs.Parts.{is_division}
use Rattle.mm_goto.specs.Terms.{constant, the_local, applied, combined}
use Rattle.mm_goto.proofs.Folding.{fold_constant, fold_local, fold_applied, fold_combined}
use Rattle.mm_flow.specs.Words.{address, element, chosen}
use Rattle.mm_sourcelike.proofs.Cells.{both_all}
use Rattle.mm_sourcelike.proofs.Guarding.{AreKnown, all_weaker}
use Rattle.mm_sourcelike.proofs.Pures.{fold_address, fold_element, fold_chosen}

abbrev pub checked : Pure → Checked
checked e = fold-Pure Checked checked_step e

-- its checks speak of it
abbrev pub IsItself : Pure → Type 0
IsItself e = (checked e).expr ≡ e

-- ---- what an expression is to its checks

pub constant_itself : (z : ℤ) → IsItself (constant z)
unfolding constant roll-Pure denote.Hole.Carrier.roll
constant_itself z = ap (λ (c : Checked). c.expr) (fold_constant checked_step z)

pub local_itself : (l : ℕ) → IsItself (the_local l)
unfolding the_local roll-Pure denote.Hole.Carrier.roll
local_itself l = ap (λ (c : Checked). c.expr) (fold_local checked_step l)

pub address_itself : (c : ℕ) → IsItself (address c)
unfolding address roll-Pure denote.Hole.Carrier.roll
address_itself c = ap (λ (c : Checked). c.expr) (fold_address checked_step c)

pub element_itself : (first len : ℕ) (x : Pure) → IsItself x → IsItself (element first len x)
unfolding element roll-Pure denote.Hole.Carrier.roll
element_itself first len x h = ap (λ (c : Checked). c.expr) (fold_element checked_step first len x) ∙ ap (element first len) h

pub applied_itself : (op : Unary) (x : Pure) → IsItself x → IsItself (applied op x)
unfolding applied roll-Pure denote.Hole.Carrier.roll
applied_itself op x h = ap (λ (c : Checked). c.expr) (fold_applied checked_step op x) ∙ ap (applied op) h

pub combined_itself : (op : Binary) (x y : Pure) → IsItself x → IsItself y → IsItself (combined op x y)
unfolding combined roll-Pure denote.Hole.Carrier.roll
combined_itself op x y h g = ap (λ (c : Checked). c.expr) (fold_combined checked_step op x y) ∙ ap₂ (combined op) h g

pub chosen_itself : (c x y : Pure) → IsItself c → IsItself x → IsItself y → IsItself (chosen c x y)
unfolding chosen roll-Pure denote.Hole.Carrier.roll
chosen_itself c x y f h g =
    ap (λ (c : Checked). c.expr) (fold_chosen checked_step c x y) ∙ (ap (λ d. chosen d (checked x).expr (checked y).expr) f ∙ ap₂ (chosen c) h g)

-- ---- which checks are known

by_wants : (X : Pure → Type 0) (e : Pure) (c : Checked) → checked e ≡ c → AreKnown X c.wants → AreKnown X (checks_of e)
by_wants X e c is h = subst (λ (d : Checked). AreKnown X d.wants) (sym is) h

pub known_constant : (X : Pure → Type 0) (z : ℤ) → AreKnown X (checks_of (constant z))
known_constant X z = by_wants X (constant z) _ (fold_constant checked_step z) tt

pub known_local : (X : Pure → Type 0) (l : ℕ) → AreKnown X (checks_of (the_local l))
known_local X l = by_wants X (the_local l) _ (fold_local checked_step l) tt

pub known_address : (X : Pure → Type 0) (c : ℕ) → AreKnown X (checks_of (address c))
known_address X c = by_wants X (address c) _ (fold_address checked_step c) tt

pub known_element : (X : Pure → Type 0) (first len : ℕ) (x : Pure) → IsItself x → AreKnown X (checks_of x) → X (is_in_range x len) → AreKnown X (checks_of (element first len x))
known_element X first len x is h c =
    by_wants X (element first len x) _ (fold_element checked_step first len x)
    (both_all X (checks_of x) (is_in_range (checked x).expr len ∷ []) h (subst (λ e. X (is_in_range e len)) (sym is) c, tt))

pub known_applied : (X : Pure → Type 0) (op : Unary) (x : Pure) → AreKnown X (checks_of x) → AreKnown X (checks_of (applied op x))
known_applied X op x h = by_wants X (applied op x) _ (fold_applied checked_step op x) h

known_wants : (X : Pure → Type 0) (op : Binary) (x y : Checked) → AreKnown X x.wants → AreKnown X y.wants → (is_division op ≡ true → X (is_not_zero y.expr)) → AreKnown X (wants_of op x y)
known_wants X binary.Div x y h g d = both_all X (x.wants ++ y.wants) (is_not_zero y.expr ∷ []) (both_all X x.wants y.wants h g) (d refl, tt)
known_wants X binary.Rem x y h g d = both_all X (x.wants ++ y.wants) (is_not_zero y.expr ∷ []) (both_all X x.wants y.wants h g) (d refl, tt)
known_wants X binary.Add x y h g d = both_all X x.wants y.wants h g
known_wants X binary.Sub x y h g d = both_all X x.wants y.wants h g
known_wants X binary.Mul x y h g d = both_all X x.wants y.wants h g
known_wants X binary.Shl x y h g d = both_all X x.wants y.wants h g
known_wants X binary.Shr x y h g d = both_all X x.wants y.wants h g
known_wants X binary.Lt x y h g d = both_all X x.wants y.wants h g
known_wants X binary.Le x y h g d = both_all X x.wants y.wants h g
known_wants X binary.Gt x y h g d = both_all X x.wants y.wants h g
known_wants X binary.Ge x y h g d = both_all X x.wants y.wants h g
known_wants X binary.Eq x y h g d = both_all X x.wants y.wants h g
known_wants X binary.Ne x y h g d = both_all X x.wants y.wants h g
known_wants X binary.And x y h g d = both_all X x.wants y.wants h g
known_wants X binary.Xor x y h g d = both_all X x.wants y.wants h g
known_wants X binary.Or x y h g d = both_all X x.wants y.wants h g
known_wants X binary.Land x y h g d = both_all X x.wants y.wants h g
known_wants X binary.Lor x y h g d = both_all X x.wants y.wants h g

pub known_combined : (X : Pure → Type 0) (op : Binary) (x y : Pure) → IsItself y → AreKnown X (checks_of x) → AreKnown X (checks_of y) → (is_division op ≡ true → X (is_not_zero y)) → AreKnown X (checks_of (combined op x y))
known_combined X op x y is h g d =
    by_wants X (combined op x y) _ (fold_combined checked_step op x y)
    (known_wants X op (checked x) (checked y) h g (λ e. subst (λ z. X (is_not_zero z)) (sym is) (d e)))

pub known_chosen : (X : Pure → Type 0) (c x y : Pure) → AreKnown X (checks_of c) → AreKnown X (checks_of x) → AreKnown X (checks_of y) → AreKnown X (checks_of (chosen c x y))
known_chosen X c x y f h g =
    by_wants X (chosen c x y) _ (fold_chosen checked_step c x y)
    (both_all X (checks_of c ++ checks_of x) (checks_of y) (both_all X (checks_of c) (checks_of x) f h) g)

pub false_is_not : {A : Type 0} → false ≡ true → A
false_is_not e = absurd (by e)
  where
    by : false ≡ true → ⊥
    by q = cc

pub known_range : (X : Pure → Type 0) (x : Pure) (len : ℕ) → IsItself x → AreKnown X (checks_of x) → AreKnown X (checks_of (is_in_range x len))
known_range X x len is h =
    known_combined X binary.Land (combined binary.Le (constant (pos 0)) x) (combined binary.Lt x (constant (pos len)))
    (combined_itself binary.Lt x (constant (pos len)) is (constant_itself (pos len)))
    (known_combined X binary.Le (constant (pos 0)) x is (known_constant X (pos 0)) h (λ e. false_is_not e))
    (known_combined X binary.Lt x (constant (pos len)) (constant_itself (pos len)) h (known_constant X (pos len)) (λ e. false_is_not e))
    (λ e. false_is_not e)

pub known_not_zero : (X : Pure → Type 0) (x : Pure) → AreKnown X (checks_of x) → AreKnown X (checks_of (is_not_zero x))
known_not_zero X x h = known_combined X binary.Ne x (constant (pos 0)) (constant_itself (pos 0)) h (known_constant X (pos 0)) (λ e. false_is_not e)

-- ---- locals that stand in none

-- none of these locals stands in it
abbrev pub Free : (ℕ → Type 0) → Pure → Type 0
Free P e = (l : ℕ) → P l → names l e ≡ false

-- nor in its checks
pub record Clear (P : ℕ → Type 0) (e : Pure) : Type 0 where
  pub same : IsItself e
  pub free : Free P e
  pub checks : AreKnown (Free P) (checks_of e)

pub clear_less : (P Q : ℕ → Type 0) → ((l : ℕ) → Q l → P l) → (e : Pure) → Clear P e → Clear Q e
clear_less P Q f e h = record {
  same = h.same;
  free = λ l q. h.free l (f l q);
  checks = all_weaker (Free P) (Free Q) (λ c g l q. g l (f l q)) (checks_of e) h.checks;
}

free_constant : (P : ℕ → Type 0) (z : ℤ) → Free P (constant z)
free_constant P z l q = fold_constant (names_step l) z

or_false : (a b : Bool) → a ≡ false → b ≡ false → (a || b) ≡ false
or_false a b e f = ap₂ (λ (x y : Bool). x || y) e f

free_combined : (P : ℕ → Type 0) (op : Binary) (x y : Pure) → Free P x → Free P y → Free P (combined op x y)
free_combined P op x y h g l q = fold_combined (names_step l) op x y ∙ or_false (names l x) (names l y) (h l q) (g l q)

pub free_range : (P : ℕ → Type 0) (x : Pure) (len : ℕ) → Free P x → Free P (is_in_range x len)
free_range P x len h =
    free_combined P binary.Land (combined binary.Le (constant (pos 0)) x) (combined binary.Lt x (constant (pos len)))
    (free_combined P binary.Le (constant (pos 0)) x (free_constant P (pos 0)) h)
    (free_combined P binary.Lt x (constant (pos len)) h (free_constant P (pos len)))

pub free_not_zero : (P : ℕ → Type 0) (x : Pure) → Free P x → Free P (is_not_zero x)
free_not_zero P x h = free_combined P binary.Ne x (constant (pos 0)) h (free_constant P (pos 0))

pub constant_clear : (P : ℕ → Type 0) (z : ℤ) → Clear P (constant z)
constant_clear P z = record { same = constant_itself z; free = free_constant P z; checks = known_constant (Free P) z }

other_local : (m l : ℕ) → (m ≡ l → ⊥) → (m == l) ≡ false
other_local m l h = by (m == l) refl
  where
    same : (m == l) ≡ true → m ≡ l
    same e = grind (arith, nat_tests)

    by : (b : Bool) → (m == l) ≡ b → (m == l) ≡ false
    by true e = absurd (h (same e))
    by false e = e

pub local_clear : (P : ℕ → Type 0) (m : ℕ) → (P m → ⊥) → Clear P (the_local m)
local_clear P m h = record {
  same = local_itself m;
  free = λ l q. fold_local (names_step l) m ∙ other_local m l (λ e. h (subst P (sym e) q));
  checks = known_local (Free P) m;
}

pub address_clear : (P : ℕ → Type 0) (c : ℕ) → Clear P (address c)
address_clear P c = record { same = address_itself c; free = λ l q. fold_address (names_step l) c; checks = known_address (Free P) c }

pub element_clear : (P : ℕ → Type 0) (first len : ℕ) (x : Pure) → Clear P x → Clear P (element first len x)
element_clear P first len x h = record {
  same = element_itself first len x h.same;
  free = λ l q. fold_element (names_step l) first len x ∙ h.free l q;
  checks = known_element (Free P) first len x h.same h.checks (free_range P x len h.free);
}

pub applied_clear : (P : ℕ → Type 0) (op : Unary) (x : Pure) → Clear P x → Clear P (applied op x)
applied_clear P op x h = record {
  same = applied_itself op x h.same;
  free = λ l q. fold_applied (names_step l) op x ∙ h.free l q;
  checks = known_applied (Free P) op x h.checks;
}

pub combined_clear : (P : ℕ → Type 0) (op : Binary) (x y : Pure) → Clear P x → Clear P y → Clear P (combined op x y)
combined_clear P op x y h g = record {
  same = combined_itself op x y h.same g.same;
  free = free_combined P op x y h.free g.free;
  checks = known_combined (Free P) op x y g.same h.checks g.checks (λ e. free_not_zero P y g.free);
}

pub chosen_clear : (P : ℕ → Type 0) (c x y : Pure) → Clear P c → Clear P x → Clear P y → Clear P (chosen c x y)
chosen_clear P c x y f h g = record {
  same = chosen_itself c x y f.same h.same g.same;
  free = λ l q. fold_chosen (names_step l) c x y ∙ or_false (names l c || names l x) (names l y) (or_false (names l c) (names l x) (f.free l q) (h.free l q)) (g.free l q);
  checks = known_chosen (Free P) c x y f.checks h.checks g.checks;
}
