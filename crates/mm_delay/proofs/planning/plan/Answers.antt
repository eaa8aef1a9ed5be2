use Rattle.std.proofs.Common.{arith, sym, subst}
use Rattle.mm_delay.specs.Plans.{AreNotes, noted}
use Rattle.mm_delay.proofs.Noting.{cycle_within}
use Rattle.mm_delay.proofs.Gathering.{iff_chain}
use Rattle.mm_graph.proofs.Named.{contains_at}
use Rattle.mm_delay.proofs.planning.plan.Goals as goal

pub noted-delayed-requires : goal.noted-delayed-requires
noted-delayed-requires c = λ k s at.
    let notes : AreNotes c.args.program.now c.args.model c.as_slice.result.now = subst (AreNotes c.args.program.now c.args.model) (sym c.as_slice.ensures.value) (c.in_ok-notes.ensures c.args.program.now c.requires) in
    let within = cycle_within c.args.program.now c.args.model s ((notes.all s).0 (contains_at (noted c.as_slice.result.now) k s at)) in
    let few = c.requires.small.sites in
    omega (arith, within, few)

pub shape_of-requires-clause-delayed : goal.shape_of-requires-clause-delayed
shape_of-requires-clause-delayed c = λ s.
    let notes : AreNotes c.args.program.now c.args.model c.as_slice.result.now = subst (AreNotes c.args.program.now c.args.model) (sym c.as_slice.ensures.value) (c.in_ok-notes.ensures c.args.program.now c.requires) in
    iff_chain (c.noted-delayed.ensures s) (notes.all s)
