-- The least of more and more faults.
use Rattle.std.proofs.Common.{arith, ◌≡◌, refl, sym, subst, ℕ, ◌<◌, ◌+◌, Bool, true, false, Option, Some, None, if◌then◌else◌, ◌⊎◌, inl, inr}
use Rattle.std.proofs.lemmas.Bool.Decides.{eqb_tells}
use Rattle.mm_scope.specs.declared.fault.Fault.{Fault}
use Rattle.mm_scope.specs.Faults.{is_before, lesser}
use Rattle.mm_names.specs.Least.{IsLeastOf, no_fault, the_least, IsBelow, lesser_of_both}
use Rattle.mm_names.proofs.Lesser.{not_behind, not_before-trans, not_before-self}

-- of the same faults it is the least
pub least-same : {P Q : Fault → Type 0} {l : Option Fault} → ((f : Fault) → P f → Q f) → ((f : Fault) → Q f → P f) → IsLeastOf P l → IsLeastOf Q l
least-same to from (no_fault none) = no_fault (λ f q. none f (from f q))
least-same to from (the_least f p least) = the_least f (to f p) (λ g q. least g (from g q))

-- and of one more
pub least-more : {P : Fault → Type 0} {l : Option Fault} (f : Fault) → IsLeastOf P l → IsLeastOf (λ g. P g ⊎ (g ≡ f)) (lesser l f)
unfolding lesser
least-more f (no_fault none) = the_least f (inr refl) (λ g q. elim q [ inl p ↦ absurd (none g p) | inr e ↦ rw e (not_before-self f) ])
least-more {P} f (the_least g p least) = at (is_before g f) refl
  where
    at : (b : Bool) → is_before g f ≡ b → IsLeastOf (λ h. P h ⊎ (h ≡ f)) (Some (if b then g else f))
    at true e = the_least g (inl p) (λ h q. elim q [ inl r ↦ least h r | inr i ↦ rw i (not_behind g f e) ])
    at false e = the_least f (inr refl) (λ h q. elim q [ inl r ↦ not_before-trans h g f (least h r) e | inr i ↦ rw i (not_before-self f) ])

-- and of both of two kinds
pub least-both : {P Q : Fault → Type 0} {l m : Option Fault} → IsLeastOf P l → IsLeastOf Q m → IsLeastOf (λ f. P f ⊎ Q f) (lesser_of_both l m)
least-both {P} {Q} least (no_fault none) = least-same (λ f p. inl p) (λ f q. elim q [ inl p ↦ p | inr r ↦ absurd (none f r) ]) least
least-both {P} {Q} {l} least (the_least g q behind) = bounded (least-more g least)
  where
    bounded : {m : Option Fault} → IsLeastOf (λ f. P f ⊎ (f ≡ g)) m → IsLeastOf (λ f. P f ⊎ Q f) m
    bounded (no_fault none) = absurd (none g (inr refl))
    bounded (the_least h p least_h) = the_least h (elim p [ inl r ↦ inl r | inr e ↦ inr (subst Q (sym e) q) ])
        (λ f r. elim r [ inl s ↦ least_h f (inl s) | inr s ↦ not_before-trans f g h (behind f s) (least_h g (inr refl)) ])

-- ---- one by one

module _ {F : ℕ → Fault → Type 0} where
  pub below-none : IsLeastOf (IsBelow F 0) None
  below-none = no_fault (λ f r. let b : r.k < 0 = r.below in absurd (omega arith))

  -- it is that one, or one before it
  at_last : {f : Fault} (i : ℕ) (s : IsBelow F (i + 1) f) → F i f ⊎ IsBelow F i f
  at_last {f} i s = elim (eqb_tells s.k i) [
    | inl e ↦ inl (subst (λ k. F k f) e.1 s.is)
    | inr n ↦ inr (record { k = s.k; below = omega (arith, s.below, n.1); is = s.is })
  ]

  further : {f : Fault} (i : ℕ) → IsBelow F i f → IsBelow F (i + 1) f
  further i s = record { k = s.k; below = omega (arith, s.below); is = s.is }

  -- the next has this fault
  pub below-more : {l : Option Fault} (i : ℕ) (g : Fault) → F i g → ((f : Fault) → F i f → f ≡ g) → IsLeastOf (IsBelow F i) l → IsLeastOf (IsBelow F (i + 1)) (lesser l g)
  below-more {l} i g is only least = least-same to from (least-more g least)
    where
      to : (f : Fault) → (IsBelow F i f ⊎ (f ≡ g)) → IsBelow F (i + 1) f
      to f q = elim q [ inl s ↦ further i s | inr e ↦ record { k = i; below = omega arith; is = subst (F i) (sym e) is } ]

      from : (f : Fault) → IsBelow F (i + 1) f → IsBelow F i f ⊎ (f ≡ g)
      from f s = elim (at_last i s) [ inl q ↦ inr (only f q) | inr t ↦ inl t ]

  -- the next has none
  pub below-kept : {l : Option Fault} (i : ℕ) → ((f : Fault) → F i f → ⊥) → IsLeastOf (IsBelow F i) l → IsLeastOf (IsBelow F (i + 1)) l
  below-kept i never least = least-same (λ f s. further i s) (λ f s. elim (at_last i s) [ inl q ↦ absurd (never f q) | inr t ↦ t ]) least

  -- the next has none that is before the least
  pub below-skipped : (i : ℕ) {l : Fault} → ((f : Fault) → F i f → is_before f l ≡ false) → IsLeastOf (IsBelow F i) (Some l) → IsLeastOf (IsBelow F (i + 1)) (Some l)
  below-skipped i behind (the_least l s least) =
      the_least l (further i s) (λ f t. elim (at_last i t) [ inl q ↦ behind f q | inr r ↦ least f r ])
