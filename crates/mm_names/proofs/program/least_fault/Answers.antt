use Rattle.std.proofs.Common.{sym, ap, subst, ◌∙◌, length}
use Rattle.mm_names.specs.Calls.{IsRecursion}
use Rattle.mm_names.specs.Threads.{IsMisuse}
use Rattle.mm_names.specs.Least.{IsLeastOf, IsBelow, lesser_of_both}
use Rattle.mm_names.specs.Programs.{IsFault}
use Rattle.mm_names.proofs.ProgramFaults.{program-least}
use Rattle.mm_names.proofs.program.least_fault.Goals as goal

pub returns : goal.returns
returns c =
    let first = c.lesser_of_both.ensures ∙ ap (λ l. lesser_of_both l c.least_misuse-misuse.result) c.least.ensures in
    let both = c.lesser_of_both-2.ensures ∙ ap (λ l. lesser_of_both l c.in_ok-recursion.recursion) first in
    subst (IsLeastOf (IsFault c.args.side c.args.tree.now)) (sym both)
    (program-least c.args.side c.args.tree.now c.args.notes.now c.requires
    (subst (λ us. IsLeastOf (IsBelow (IsMisuse us) (length us)) c.least_misuse-misuse.result) c.uses.ensures c.least_misuse-misuse.ensures)
    (subst (λ cs. IsLeastOf (IsBelow (IsRecursion cs) (length cs)) c.in_ok-recursion.recursion) c.calls.ensures c.in_ok-recursion.ensures))
