-- The least fault of the recursive calls among the first.
use Rattle.std.proofs.Common.{◌≡◌, ℕ, ◌+◌, true, false, List, sym, ap, subst, ◌∙◌, Option, Some, None, slice_get, refl}
use Rattle.mm_scope.specs.declared.fault.Fault.{Fault}
use Rattle.mm_scope.specs.declared.fault.Rule.TheVariants.{Recursion}
use Rattle.mm_scope.specs.declared.notes.Call.{Call}
use Rattle.mm_scope.specs.Faults.{fault, is_before, lesser}
use Rattle.mm_names.specs.Calls.{Reaches, IsRecursion}
use Rattle.mm_names.specs.Least.{IsLeastOf, IsBelow}
use Rattle.mm_names.specs.reading.Marks.{is_behind}
use Rattle.mm_names.proofs.Lesser.{not_behind}
use Rattle.mm_names.proofs.LeastOf.{below-more, below-kept, below-skipped}

same_Some : {X : Type 0} {o : Option X} {x y : X} → o ≡ Some x → o ≡ Some y → x ≡ y
same_Some p q = cc

module _ {calls : List Call} (i : ℕ) (c : Call) (at_i : slice_get calls i ≡ Some c) where
  is_its : (f : Fault) → IsRecursion calls i f → f ≡ fault Recursion c.at
  is_its f r = r.is ∙ ap (λ (d : Call). fault Recursion d.at) (same_Some r.is_k at_i)

  pub recursion-more : {l : Option Fault} → Reaches calls c.callee c.caller → IsLeastOf (IsBelow (IsRecursion calls) i) l → IsLeastOf (IsBelow (IsRecursion calls) (i + 1)) (lesser l (fault Recursion c.at))
  recursion-more r least = below-more i (fault Recursion c.at) (record { call = c; is_k = at_i; reaches = r; is = refl }) is_its least

  pub recursion-kept : {l : Option Fault} → (Reaches calls c.callee c.caller → ⊥) → IsLeastOf (IsBelow (IsRecursion calls) i) l → IsLeastOf (IsBelow (IsRecursion calls) (i + 1)) l
  recursion-kept never least =
      below-kept i (λ f r. never (subst (λ (d : Call). Reaches calls d.callee d.caller) (same_Some r.is_k at_i) r.reaches)) least

  pub recursion-skipped : {l : Option Fault} → is_behind l c ≡ true → IsLeastOf (IsBelow (IsRecursion calls) i) l → IsLeastOf (IsBelow (IsRecursion calls) (i + 1)) l
  recursion-skipped {l = None} behind least = cc
  recursion-skipped {l = Some l} behind least =
      below-skipped i (λ f r. subst (λ g. is_before g l ≡ false) (sym (is_its f r)) (not_behind l (fault Recursion c.at) behind)) least
