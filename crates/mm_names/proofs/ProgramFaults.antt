-- The least fault of a program, from the leasts of its three kinds.
use Rattle.std.proofs.Common.{◌≡◌, List, ap, sym, subst, ◌∙◌, Option, length, Contains, ◌⊎◌, inl, inr, true, Some, None}
use Rattle.std.proofs.lemmas.Option.{slice_get_within}
use Rattle.mm_tree.specs.declared.item.Tree.{Tree}
use Rattle.mm_tree.specs.declared.side.Side.{Side}
use Rattle.mm_scope.specs.declared.fault.Fault.{Fault}
use Rattle.mm_scope.specs.Notes.{Note, Noted, a_fault, no_notes, all_noted}
use Rattle.mm_names.specs.Calls.{IsRecursion}
use Rattle.mm_names.specs.Threads.{IsMisuse}
use Rattle.mm_names.specs.Least.{IsLeastOf, no_fault, the_least, IsBelow, lesser_of_both}
use Rattle.mm_names.specs.Programs.{notes_of, calls_of, uses_of, IsFault, noted, misused, recursive, has_main, IsAccepted, IsRefused, at_fault, refusal_of}
use Rattle.mm_names.proofs.LeastOf.{least-same, least-both}
use Rattle.mm_names.proofs.Noting.{all-least, all-calls, all-uses}

pub program-least : (side : Side) (tree : Tree) (n : Noted) {m r : Option Fault} → n ≡ all_noted no_notes (notes_of side tree) → IsLeastOf (IsBelow (IsMisuse n.uses) (length n.uses)) m → IsLeastOf (IsBelow (IsRecursion n.calls) (length n.calls)) r → IsLeastOf (IsFault side tree) (lesser_of_both (lesser_of_both n.least m) r)
program-least side tree n {m} {r} is misuse recursion = least-same to from (least-both (least-both first second) third)
  where
    notes : List Note
    notes = notes_of side tree

    first : IsLeastOf (λ f. Contains notes (a_fault f)) n.least
    first = subst (λ (x : Noted). IsLeastOf (λ f. Contains notes (a_fault f)) x.least) (sym is) (all-least notes)

    second : IsLeastOf (IsBelow (IsMisuse (uses_of side tree)) (length (uses_of side tree))) m
    second = subst (λ us. IsLeastOf (IsBelow (IsMisuse us) (length us)) m) (ap (λ (x : Noted). x.uses) is ∙ all-uses notes) misuse

    third : IsLeastOf (IsBelow (IsRecursion (calls_of side tree)) (length (calls_of side tree))) r
    third = subst (λ cs. IsLeastOf (IsBelow (IsRecursion cs) (length cs)) r) (ap (λ (x : Noted). x.calls) is ∙ all-calls notes) recursion

    to : (f : Fault) → ((Contains notes (a_fault f) ⊎ IsBelow (IsMisuse (uses_of side tree)) (length (uses_of side tree)) f) ⊎ IsBelow (IsRecursion (calls_of side tree)) (length (calls_of side tree)) f) → IsFault side tree f
    to f q = elim q [ inl p ↦ elim p [ inl c ↦ noted c | inr s ↦ misused s.k s.is ] | inr s ↦ recursive s.k s.is ]

    from : (f : Fault) → IsFault side tree f → (Contains notes (a_fault f) ⊎ IsBelow (IsMisuse (uses_of side tree)) (length (uses_of side tree)) f) ⊎ IsBelow (IsRecursion (calls_of side tree)) (length (calls_of side tree)) f
    from f (noted c) = inl (inl c)
    from f (misused k s) = inl (inr (record { k = k; below = slice_get_within (uses_of side tree) k s.it s.is_k; is = s }))
    from f (recursive k s) = inr (record { k = k; below = slice_get_within (calls_of side tree) k s.call s.is_k; is = s })

pub refused-least : {side : Side} {tree : Tree} {f : Fault} → has_main tree ≡ true → IsLeastOf (IsFault side tree) (Some f) → IsRefused side tree (refusal_of f)
refused-least main (the_least f is least) = at_fault f main is least

pub accepted-none : {side : Side} {tree : Tree} → has_main tree ≡ true → IsLeastOf (IsFault side tree) None → IsAccepted side tree
accepted-none main (no_fault none) = record { main = main; no_fault = none }
