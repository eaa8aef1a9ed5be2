use Rattle.std.proofs.lemmas.Result.{on_ok_weaker}
use Rattle.mm_points.specs.Sets.{Has, Linked}
use Rattle.mm_points.specs.reading.Rules.{InAim}
use Rattle.mm_points.proofs.Growing.{given_same, gathered, pointed}
use Rattle.mm_points.proofs.settling.apply.Goals as goal

pub returns-in_ok-value-in-Set-clause-given : goal.returns-in_ok-value-in-Set-clause-given
returns-in_ok-value-in-Set-clause-given c = rw c.in-Set.is (on_ok_weaker c.join_value.result (λ given a b.
    given_same (c.in_ok-value-in-Set.ensures b) (rw c.items.ensures.items at (given a b))) c.join_value.ensures.given)

pub returns-in_ok-value-in-Load-clause-given : goal.returns-in_ok-value-in-Load-clause-given
returns-in_ok-value-in-Load-clause-given c = rw c.in-Load.is (on_ok_weaker c.join_value-in-Load.result (λ given a b.
    given_same
    (gathered c.args.pointers.now (Linked c.args.sets.now) c.in_ok-names-in-Load.names (InAim (Linked c.args.sets.now) c.in-Load.aim) b c.in_ok-names-in-Load.ensures
    (rw c.items-in-Load.ensures.items at (c.in_ok-value-in-Load.ensures b)))
    (rw c.items-in-Load-2.ensures.items at (given a b))) c.join_value-in-Load.ensures.given)

pub returns-in_ok-value-in-Store-clause-given : goal.returns-in_ok-value-in-Store-clause-given
returns-in_ok-value-in-Store-clause-given c = rw c.in-Store.is (on_ok_weaker c.join_pointed.result (λ given a b.
    pointed c.args.pointers.now c.in_ok-names-in-Store.names (InAim (Linked c.args.sets.now) c.in-Store.target)
    (Has c.in_ok-value-in-Store.value b) (InAim (Linked c.args.sets.now) c.in-Store.aim b) a c.in_ok-names-in-Store.ensures (c.in_ok-value-in-Store.ensures b)
    (rw (c.items-in-Store.ensures.items, c.items-in-Store-2.ensures.items) at (given a b))) c.join_pointed.ensures.given)
