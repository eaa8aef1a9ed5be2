use Rattle.std.proofs.Common.{arith, ◌≡◌, ◌+◌, true, false, refl, sym, ap, subst, ◌∙◌, length, take, Some, slice_get}
use Rattle.std.proofs.lemmas.Grind.{common_steps}
use Rattle.std.proofs.lemmas.Option.{slice_get_read}
use Rattle.mm_scope.specs.declared.fault.Rule.TheVariants.{BadThread}
use Rattle.mm_scope.specs.Faults.{fault, lesser}
use Rattle.mm_scope.specs.Notes.{Use}
use Rattle.mm_names.specs.Least.{IsLeastOf, IsBelow}
use Rattle.mm_names.specs.Threads.{is_misused, IsMisuse}
use Rattle.mm_names.proofs.LeastOf.{below-none}
use Rattle.mm_names.proofs.ThreadUses.{misuse-more, misuse-kept}
use Rattle.mm_names.proofs.thread.least_misuse.Goals as goal
use Rattle.mm_names.proofs.thread.least_misuse.Goals.{then-is_misused, else-is_misused}

pub loop-index-init : goal.loop-index-init
loop-index-init c = below-none

pub loop-index-preserved : goal.loop-index-preserved
loop-index-preserved c =
    let uses = c.args.uses.now in
    let i = c.loop-index.index in
    let u = c.index-uses-index.result in
    let at_i : slice_get uses i ≡ Some u = slice_get_read uses (length uses) i u refl c.loop-index-test.true c.index-uses-index.is in
    let place : c.thread.inside.at ≡ u.at = ap (λ (x : Use). x.at) c.thread.view_is in
    elim c.if-is_misused.branch [
      | then-is_misused w ↦
          let misused : is_misused (take i uses) u ≡ true = grind (arith, common_steps, c.is_misused.ensures, w.if-is_misused) in
          subst (IsLeastOf (IsBelow (IsMisuse uses) (i + 1))) (sym (w.least-is ∙ w.lesser-least.ensures ∙ ap (λ at. lesser c.loop-index.least (fault BadThread at)) place)) (misuse-more i u at_i misused c.loop-index.invariant)
      | else-is_misused w ↦
          let fine : is_misused (take i uses) u ≡ false = grind (arith, common_steps, c.is_misused.ensures, w.if-is_misused) in
          subst (IsLeastOf (IsBelow (IsMisuse uses) (i + 1))) (sym w.least-is) (misuse-kept i u at_i fine c.loop-index.invariant)
    ]
