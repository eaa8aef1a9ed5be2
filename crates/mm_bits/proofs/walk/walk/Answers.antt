use Rattle.std.proofs.Common.{◌≡◌, ℕ, ◌+◌, ◌-◌, ◌∷◌, [], arith, List, sym, subst, append_assoc}
use Rattle.mm_bits.specs.Near.{Near, AreLevels}
use Rattle.mm_bits.specs.declared.numbers.Numbers.{Numbers}
use Rattle.mm_bits.specs.Table.{Linked}
use Rattle.mm_bits.proofs.Firsts.{near_leads, near_on, no_nearer, near_edge, first_edge, first_step, IsNext}
use Rattle.mm_bits.proofs.Wordwise.{linked_below}
use Rattle.mm_bits.proofs.walk.walk.Goals as goal

pub bounds-rows-here : goal.bounds-rows-here
bounds-rows-here c =
    let E : ℕ → ℕ → Type 0 = Linked c.args.rows.now in
    let P : List Numbers → Type 0 = λ s. AreLevels E c.args.levels.now.goal s in
    let levels = subst P (sym c.as_slice-sets.ensures.value) c.requires.levels in
    let near = (levels.near c.path.d c.path.invariant.within c.path.here).0 c.path.invariant.has in
    let on = near_leads E c.args.levels.now.goal c.path.d c.path.here near in
    linked_below c.args.rows.now c.path.here on.0 on.1

pub next-here-requires : goal.next-here-requires
next-here-requires c =
    let E : ℕ → ℕ → Type 0 = Linked c.args.rows.now in
    let P : List Numbers → Type 0 = λ s. AreLevels E c.args.levels.now.goal s in
    let levels = subst P (sym c.as_slice-sets.ensures.value) c.requires.levels in
    let e : ℕ = c.path.d - 1 in
    let is : e + 1 ≡ c.path.d = omega arith in
    let near = (levels.near c.path.d c.path.invariant.within c.path.here).0 c.path.invariant.has in
    let far = λ (n : Near E c.args.levels.now.goal e c.path.here). c.path.invariant.first e is ((levels.near e (omega arith) c.path.here).1 n) in
    let on = near_on E c.args.levels.now.goal e c.path.here (let Q : ℕ → Type 0 = λ d. Near E c.args.levels.now.goal d c.path.here in subst Q (sym is) near) far in
    (on.0, on.1, (levels.near e (omega arith) on.0).1 on.2)

pub path-preserved : goal.path-preserved
path-preserved c =
    let E : ℕ → ℕ → Type 0 = Linked c.args.rows.now in
    let P : List Numbers → Type 0 = λ s. AreLevels E c.args.levels.now.goal s in
    let levels = subst P (sym c.as_slice-sets.ensures.value) c.requires.levels in
    let e : ℕ = c.path.d - 1 in
    let is : e + 1 ≡ c.path.d = omega arith in
    let y : ℕ = c.next-here.result in
    let far = λ (n : Near E c.args.levels.now.goal e c.path.here). c.path.invariant.first e is ((levels.near e (omega arith) c.path.here).1 n) in
    let step : IsNext E c.args.levels.now.goal e c.path.here y = record {
      leads = c.next-here.ensures.row;
      near = (levels.near e (omega arith) y).0 c.next-here.ensures.level;
      far = far;
      least = λ z leads near. c.next-here.ensures.least z leads ((levels.near e (omega arith) z).1 near);
    } in record {
      within = omega arith;
      has = c.next-here.ensures.level;
      first = λ d before has. no_nearer E c.args.levels.now.goal e d c.path.here y before far step.leads ((levels.near d (omega arith) y).0 has);
      on = λ rest first. rw (c.in_ok-push.ensures.items, append_assoc) (c.path.invariant.on (c.path.here ∷ rest) (first_step E c.args.levels.now.goal e c.path.here y step rest first));
    }

pub returns : goal.returns
returns c =
    let E : ℕ → ℕ → Type 0 = Linked c.args.rows.now in
    let P : List Numbers → Type 0 = λ s. AreLevels E c.args.levels.now.goal s in
    let levels = subst P (sym c.as_slice-sets.ensures.value) c.requires.levels in
    let zero : c.path.d ≡ 0 = omega arith in
    let near = (levels.near c.path.d c.path.invariant.within c.path.here).0 c.path.invariant.has in
    let edge = (near_edge E c.args.levels.now.goal c.path.here).1 (let Q : ℕ → Type 0 = λ d. Near E c.args.levels.now.goal d c.path.here in subst Q zero near) in
    rw c.in_ok-push-2.ensures.items (c.path.invariant.on (c.path.here ∷ []) (first_edge E c.args.levels.now.goal c.path.here edge))
