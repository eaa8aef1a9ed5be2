-- Outcomes that are alike: of the same kind, with views that look alike.
use Rattle.std.proofs.Common.{◌≡◌, ℕ, ◌≤◌, Bool, true, false, sym, ◌∙◌, subst, arith}
use Rattle.mm_flow.specs.Flow.{Home, Next, Behind}
use Rattle.mm_meaning.specs.Meaning.{View, Outcome, Done, Left, Failed, Halted, Other, then_do, again, caught, pick}
use Rattle.mm_meaning.proofs.Looks.{Looks, looks_below, looks_on}

abbrev pub Alike : ℕ → Outcome → Outcome → Type 0
Alike m (Done l) (Done a) = Looks m l a
Alike m (Left w l) (Left u a) = (w ≡ u) × Looks m l a
Alike m (Failed n) (Failed k) = n ≡ k
Alike m Halted Halted = Unit {0}
Alike m o p = ⊥

-- fewer locals are looked at
pub alike_below : (m i : ℕ) (o p : Outcome) → m ≤ i → Alike i o p → Alike m o p
alike_below m i (Done l) (Done a) h s = looks_below m i l a h s
alike_below m i (Left w l) (Left u a) h s = (s.0, looks_below m i l a h s.1)
alike_below m i (Failed n) (Failed k) h s = s
alike_below m i Halted Halted h s = tt
alike_below m i o p h s = absurd s

pub alike_on : (m : ℕ) (o p q : Outcome) → Alike m o p → Alike m p q → Alike m o q
alike_on m (Done l) (Done a) (Done b) s t = looks_on m m l a b (omega arith) s t
alike_on m (Left w l) (Left u a) (Left v b) s t = (s.0 ∙ t.0, looks_on m m l a b (omega arith) s.1 t.1)
alike_on m (Failed n) (Failed k) (Failed i) s t = s ∙ t
alike_on m Halted Halted Halted s t = tt
alike_on m (Done l) (Done a) q s t = absurd t
alike_on m (Left w l) (Left u a) q s t = absurd t
alike_on m (Failed n) (Failed k) q s t = absurd t
alike_on m Halted Halted q s t = absurd t
alike_on m o p q s t = absurd s

-- ---- what goes on alike

pub alike_then : (m : ℕ) (o p : Outcome) (f g : View → Outcome) → Alike m o p → ((l a : View) → Looks m l a → Alike m (f l) (g a)) → Alike m (then_do o f) (then_do p g)
alike_then m (Done l) (Done a) f g s h = h l a s
alike_then m (Left w l) (Left u a) f g s h = s
alike_then m (Failed n) (Failed k) f g s h = s
alike_then m Halted Halted f g s h = tt
alike_then m o p f g s h = absurd s

pub alike_again : (m : ℕ) (o p : Outcome) (f g : View → Outcome) → Alike m o p → ((l a : View) → Looks m l a → Alike m (f l) (g a)) → Alike m (again o f) (again p g)
alike_again m (Done l) (Done a) f g s h = h l a s
alike_again m (Left Home l) (Left Home a) f g s h = s
alike_again m (Left Next l) (Left Next a) f g s h = h l a s.1
alike_again m (Left Behind l) (Left Behind a) f g s h = s.1
alike_again m (Left w l) (Left u a) f g s h = let e = s.0 in cc
alike_again m (Failed n) (Failed k) f g s h = s
alike_again m Halted Halted f g s h = tt
alike_again m o p f g s h = absurd s

pub alike_caught : (m : ℕ) (o p : Outcome) → Alike m o p → Alike m (caught o) (caught p)
alike_caught m (Done l) (Done a) s = s
alike_caught m (Left Home l) (Left Home a) s = s.1
alike_caught m (Left Next l) (Left Next a) s = s
alike_caught m (Left Behind l) (Left Behind a) s = s
alike_caught m (Left w l) (Left u a) s = let e = s.0 in cc
alike_caught m (Failed n) (Failed k) s = s
alike_caught m Halted Halted s = tt
alike_caught m o p s = absurd s

pub alike_pick : (m : ℕ) (b : Bool) (o p q r : Outcome) → Alike m o p → Alike m q r → Alike m (pick b o q) (pick b p r)
alike_pick m true o p q r s t = s
alike_pick m false o p q r s t = t

-- ---- behind the body of a loop

-- the loop goes on from b
pub alike_goes_on : (m : ℕ) (r p : Outcome) (b : View) (f : View → Outcome) (o : Outcome) → ((g : View → Outcome) → again p g ≡ g b) → Alike m r p → ((y : View) → Looks m y b → Alike m (f y) o) → Alike m (again r f) o
alike_goes_on m (Done y) (Done z) b f o on h n = n y (subst (λ v. Looks m y v) (let e = on Done in cc) h)
alike_goes_on m (Left Next y) (Left Next z) b f o on h n = n y (subst (λ v. Looks m y v) (let e = on Done in cc) h.1)
alike_goes_on m (Left Home y) (Left Home z) b f o on h n = let e = on Done in cc
alike_goes_on m (Left Behind y) (Left Behind z) b f o on h n = let e = on (λ v. Halted) in cc
alike_goes_on m (Left w y) (Left u z) b f o on h n = let e = h.0 in cc
alike_goes_on m (Failed i) (Failed k) b f o on h n = let e = on Done in cc
alike_goes_on m Halted Halted b f o on h n = let e = on Done in cc
alike_goes_on m r p b f o on h n = absurd h

-- the loop ends with this turn
pub alike_leaves : (m : ℕ) (r p : Outcome) (f : View → Outcome) (o : Outcome) → ((g : View → Outcome) → again p g ≡ o) → Alike m r p → Alike m (again r f) o
alike_leaves m (Done y) (Done z) f o out h = let e = out (λ v. Halted) ∙ sym (out (λ v. Other)) in cc
alike_leaves m (Left Next y) (Left Next z) f o out h = let e = out (λ v. Halted) ∙ sym (out (λ v. Other)) in cc
alike_leaves m (Left Home y) (Left Home z) f o out h = subst (λ x. Alike m (Left Home y) x) (out f) h
alike_leaves m (Left Behind y) (Left Behind z) f o out h = subst (λ x. Alike m (Done y) x) (out f) h.1
alike_leaves m (Left w y) (Left u z) f o out h = let e = h.0 in cc
alike_leaves m (Failed i) (Failed k) f o out h = subst (λ x. Alike m (Failed i) x) (out f) h
alike_leaves m Halted Halted f o out h = subst (λ x. Alike m Halted x) (out f) h
alike_leaves m r p f o out h = absurd h
