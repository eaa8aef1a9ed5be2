-- The least fault of the misused threads among the first starts and joins.
use Rattle.std.proofs.Common.{◌≡◌, ℕ, ◌+◌, Bool, true, false, List, refl, ap, subst, ◌∙◌, Option, Some, slice_get, take}
use Rattle.mm_scope.specs.declared.fault.Fault.{Fault}
use Rattle.mm_scope.specs.declared.fault.Rule.TheVariants.{BadThread}
use Rattle.mm_scope.specs.Faults.{fault, lesser}
use Rattle.mm_scope.specs.Notes.{Use}
use Rattle.mm_names.specs.Least.{IsLeastOf, IsBelow}
use Rattle.mm_names.specs.Threads.{is_misused, IsMisuse}
use Rattle.mm_names.proofs.LeastOf.{below-more, below-kept}

same_Some : {X : Type 0} {o : Option X} {x y : X} → o ≡ Some x → o ≡ Some y → x ≡ y
same_Some p q = cc

true_apart : {b : Bool} → b ≡ true → b ≡ false → ⊥
true_apart p q = cc

module _ {uses : List Use} (i : ℕ) (u : Use) (at_i : slice_get uses i ≡ Some u) where
  is_its : (f : Fault) → IsMisuse uses i f → f ≡ fault BadThread u.at
  is_its f r = r.is ∙ ap (λ (v : Use). fault BadThread v.at) (same_Some r.is_k at_i)

  pub misuse-more : {l : Option Fault} → is_misused (take i uses) u ≡ true → IsLeastOf (IsBelow (IsMisuse uses) i) l → IsLeastOf (IsBelow (IsMisuse uses) (i + 1)) (lesser l (fault BadThread u.at))
  misuse-more m least = below-more i (fault BadThread u.at) (record { it = u; is_k = at_i; misused = m; is = refl }) is_its least

  pub misuse-kept : {l : Option Fault} → is_misused (take i uses) u ≡ false → IsLeastOf (IsBelow (IsMisuse uses) i) l → IsLeastOf (IsBelow (IsMisuse uses) (i + 1)) l
  misuse-kept m least =
      below-kept i (λ f r. true_apart (subst (λ (v : Use). is_misused (take i uses) v ≡ true) (same_Some r.is_k at_i) r.misused) m) least
