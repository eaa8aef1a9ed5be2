use Rattle.std.proofs.Common.{arith, ◌≡◌, true, Some, sym, subst, ap, ◌∙◌, ◌+◌, get_or, slice_get}
use Rattle.std.proofs.lemmas.Grind.{common_steps}
use Rattle.std.proofs.lemmas.Option.{slice_get-get_or}
use Rattle.std.proofs.lemmas.List.Elements.{Contains-get_or}
use Rattle.mm_scope.specs.declared.notes.Call.{Call}
use Rattle.mm_scope.specs.Faults.{lesser}
use Rattle.mm_names.specs.Calls.{IsRecursion}
use Rattle.mm_names.specs.Least.{IsLeastOf, IsBelow}
use Rattle.mm_names.specs.reading.Marks.{is_behind}
use Rattle.mm_names.proofs.LeastOf.{below-none}
use Rattle.mm_names.proofs.RecursiveCalls.{recursion-more, recursion-kept, recursion-skipped}
use Rattle.mm_names.proofs.calls.search.Goals as goal
use Rattle.mm_names.proofs.calls.search.Goals.{then-not-is_behind+in_ok-is_recursive+then-branch, then-not-is_behind+in_ok-is_recursive+else-branch, else-not-is_behind}

pub loop-call-init : goal.loop-call-init
loop-call-init c = below-none

pub loop-call-preserved : goal.loop-call-preserved
loop-call-preserved c =
    let calls = c.args.calls.now in
    let i = c.loop-call.call-index in
    let d : Call = record { caller = 0; callee = 0; at = record { line = 0; column = 0 } } in
    let call : Call = get_or calls i d in
    let at_i : slice_get calls i ≡ Some (get_or calls i d) = slice_get-get_or calls i d c.loop-call-test.true in
    elim c.if-not-is_behind.branch [
      | then-not-is_behind+in_ok-is_recursive+then-branch w ↦
          subst (IsLeastOf (IsBelow (IsRecursion calls) (i + 1)))
          (sym (w.least-is ∙ w.lesser-least.ensures ∙ ap (lesser c.loop-call.least) w.fault_of.ensures))
          (recursion-more i (get_or calls i d) at_i (w.in_ok-is_recursive.ensures.yes w.if-branch.true) c.loop-call.invariant)
      | then-not-is_behind+in_ok-is_recursive+else-branch w ↦
          subst (IsLeastOf (IsBelow (IsRecursion calls) (i + 1))) (sym w.least-is)
          (recursion-kept i (get_or calls i d) at_i (λ r. w.in_ok-is_recursive.ensures.no w.if-branch.false r (Contains-get_or calls i d c.loop-call-test.true)) c.loop-call.invariant)
      | else-not-is_behind w ↦
          let behind : is_behind c.loop-call.least (get_or calls i d) ≡ true = grind (arith, common_steps, c.is_behind.ensures, w.if-not-is_behind) in
          subst (IsLeastOf (IsBelow (IsRecursion calls) (i + 1))) (sym w.least-is)
          (recursion-skipped i (get_or calls i d) at_i behind c.loop-call.invariant)
    ]
