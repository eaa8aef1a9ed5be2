use Rattle.std.proofs.Common.{arith, ◌≡◌, true, false, sym, subst}
use Rattle.std.proofs.lemmas.Grind.{common_steps}
use Rattle.mm_names.specs.declared.refusal.NameFault.TheVariants.{NoMain}
use Rattle.mm_names.specs.Least.{IsLeastOf}
use Rattle.mm_names.specs.Programs.{has_main, IsFault, IsRefused, no_main}
use Rattle.mm_names.proofs.ProgramFaults.{refused-least, accepted-none}
use Rattle.mm_names.proofs.program.declarations.Goals as goal

pub returns-then-not-has_main-clause-refused : goal.returns-then-not-has_main-clause-refused
returns-then-not-has_main-clause-refused c = λ apart.
    let none : has_main c.args.tree.now ≡ false = grind (arith, common_steps, c.has_main.ensures, c.if-not-has_main.true) in
    subst (λ at. IsRefused c.args.side c.args.tree.now (NoMain at)) (sym c.start.ensures) (no_main none)

pub returns-in-Some-clause-refused : goal.returns-in-Some-clause-refused
returns-in-Some-clause-refused c = λ apart.
    let main : has_main c.args.tree.now ≡ true = grind (arith, common_steps, c.has_main.ensures, c.if-not-has_main.false) in
    subst (IsRefused c.args.side c.args.tree.now) (sym c.refusal_of.ensures)
    (refused-least main (subst (IsLeastOf (IsFault c.args.side c.args.tree.now)) c.in-Some.is c.in_ok-fault.ensures))

pub returns-clause-accepted : goal.returns-clause-accepted
returns-clause-accepted c =
    let main : has_main c.args.tree.now ≡ true = grind (arith, common_steps, c.has_main.ensures, c.if-not-has_main.false) in
    accepted-none main (subst (IsLeastOf (IsFault c.args.side c.args.tree.now)) c.in-None.is c.in_ok-fault.ensures)
