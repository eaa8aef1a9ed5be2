use Rattle.std.proofs.Common.{◌≡◌, sym, ◌∙◌, subst, List, Some, None, position}
use Rattle.mm_sched.specs.State.{Pending}
use Rattle.mm_sched.specs.Buffer.{is_to}
use Rattle.mm_sched.proofs.Removing.{without-found, without-missing}
use Rattle.mm_sched.proofs.waiting.remove_oldest.Goals as goal

pub returns-in-Some-clause-items : goal.returns-in-Some-clause-items
returns-in-Some-clause-items c =
    let at : position (is_to c.args.c) c.args.pending.now.items ≡ Some c.in-Some.i = subst (λ (ps : List Pending). position (is_to c.args.c) ps ≡ Some c.in-Some.i) c.as_slice.ensures.value (sym c.in-Some.ensures) in
    c.remove.ensures.items ∙ without-found c.args.pending.now.items c.args.c c.in-Some.i at

pub returns-in_default-clause-items : goal.returns-in_default-clause-items
returns-in_default-clause-items c =
    without-missing c.args.pending.now.items c.args.c (subst (λ (ps : List Pending). position (is_to c.args.c) ps ≡ None) c.as_slice.ensures.value (sym c.in_default.ensures))
