-- Views that are alike below a local: what is said of one view holds of all that look like it.
use Rattle.std.proofs.Common.{arith, ◌≡◌, ℕ, ◌<◌, ◌≤◌, ⊎_elim, ℤ, pos, length, refl, sym, ◌∙◌, subst, slice_set}
use Rattle.std.proofs.lemmas.List.{length-set, get_or-set_same, get_or-set_other}
use Rattle.std.proofs.lemmas.Bool.{cases_eq}
use Rattle.mm_meaning.specs.Meaning.{View}
use Rattle.mm_meaning.specs.Acting.{at_slot, let_local}

-- l is like a, but for locals from m on
pub record Looks (m : ℕ) (l a : View) : Type 0 where
  pub memory : l.memory ≡ a.memory
  pub inputs : l.inputs ≡ a.inputs
  pub many : length l.locals ≡ length a.locals
  pub locals : (r : ℕ) → r < m → at_slot l.locals r ≡ at_slot a.locals r

pub looks_self : (m : ℕ) (l : View) → Looks m l l
looks_self m l = record { memory = refl; inputs = refl; many = refl; locals = λ r h. refl }

-- a local that is not looked at may change
pub looks_fresh : (m : ℕ) (l a : View) (k : ℕ) (x : ℤ) → m ≤ k → Looks m l a → Looks m (let_local l k x) a
looks_fresh m l a k x h s = record { memory = s.memory; inputs = s.inputs; many = length-set l.locals k x ∙ s.many; locals = λ r q. get_or-set_other l.locals k r x (pos 0) (omega arith) ∙ s.locals r q }

-- one that is looked at changes in both
pub looks_set : (m : ℕ) (l a : View) (r : ℕ) (y : ℤ) → m ≤ length a.locals → Looks m l a → Looks m (let_local l r y) (let_local a r y)
looks_set m l a r y wide s = record {
  memory = s.memory;
  inputs = s.inputs;
  many = length-set l.locals r y ∙ s.many ∙ sym (length-set a.locals r y);
  locals = λ i q. ⊎_elim
      (λ e. subst (λ z. at_slot (slice_set l.locals r y) z ≡ at_slot (slice_set a.locals r y) z) (sym e) (get_or-set_same l.locals r y (pos 0) (inside i q e (sym s.many)) ∙ sym (get_or-set_same a.locals r y (pos 0) (inside i q e refl))))
      (λ d. get_or-set_other l.locals r i y (pos 0) d ∙ s.locals i q ∙ sym (get_or-set_other a.locals r i y (pos 0) d)) (cases_eq i r);
}
  where
    inside : (i : ℕ) → i < m → i ≡ r → {n : ℕ} → length a.locals ≡ n → r < n
    inside i q e h = omega arith

-- fewer locals are looked at
pub looks_below : (m i : ℕ) (l a : View) → m ≤ i → Looks i l a → Looks m l a
looks_below m i l a h s = record { memory = s.memory; inputs = s.inputs; many = s.many; locals = λ r q. s.locals r (omega arith) }

pub looks_on : (m i : ℕ) (l b c : View) → m ≤ i → Looks i l b → Looks m b c → Looks m l c
looks_on m i l b c h s t = record { memory = s.memory ∙ t.memory; inputs = s.inputs ∙ t.inputs; many = s.many ∙ t.many; locals = λ r q. s.locals r (omega arith) ∙ t.locals r q }
