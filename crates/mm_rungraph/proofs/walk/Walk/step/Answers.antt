use Rattle.std.proofs.Common.{◌≤◌, length, sym, subst}
use Rattle.mm_sched.specs.Invariant.{room_of}
use Rattle.mm_sched.proofs.Happens.{has_names}
use Rattle.mm_runkeys.specs.reading.Marks.{Marks}
use Rattle.mm_rungraph.specs.reading.Walking.{IsSized}
use Rattle.mm_rungraph.specs.reading.Walking.{IsSized}
use Rattle.mm_rungraph.proofs.Sized.{in_range, small, sized_step}
use Rattle.mm_rungraph.proofs.walk.Walk.step.Goals as goal

pub step-requires-clause-range : goal.step-requires-clause-range
step-requires-clause-range c = let g = rw (← c.self.view_is) at c.requires.goes in in_range c.args.rules.now c.args.program.now c.self.inside.machine.state c.args.layout.now c.self.inside.marks c.in-Some.event g.fits g.sized (has_names c.args.rules.now c.args.program.now c.self.inside.machine.state g.fits c.args.entry c.in-Some.event (sym c.in-Some.ensures.event))

pub step-requires-clause-small : goal.step-requires-clause-small
step-requires-clause-small c = let g = rw (← c.self.view_is) at c.requires.goes in small c.args.program.now c.args.layout.now c.self.inside.marks g.sized

pub returns-in_ok-step-in-Some-clause-goes : goal.returns-in_ok-step-in-Some-clause-goes
returns-in_ok-step-in-Some-clause-goes c =
    let g = rw (← c.self.view_is) at c.requires.goes in
    record {
      fits = c.take.ensures.fits;
      room = subst (λ n. room_of c.args.rules.now (length c.args.program.now.cells) ≤ n) (sym c.take.ensures.room) g.room;
      sized = subst (λ (m : Marks). IsSized c.args.program.now c.args.layout.now m) (sym c.in_ok-step-in-Some.ensures) (sized_step c.args.program.now c.args.layout.now c.self.inside.marks c.in-Some.event g.sized);
    }
