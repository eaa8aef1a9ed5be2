use Rattle.std.proofs.Common.{◌≡◌, ◌∙◌, ◌∷◌, ap, arith, refl}
use Rattle.mm_cycles.specs.Links.{UnsafeIn}
use Rattle.mm_graph.specs.Graphs.{ComIn, EdgeIn}
use Rattle.mm_cycles.specs.Walks.{sites_on, sites_step}
use Rattle.mm_cycles.proofs.Folding.{fold_go}
use Rattle.mm_cycles.proofs.FirstCycles.{same_length, cycle_parts, begins_within, unsafe_within, unsafe_from, iff_none}
use Rattle.mm_cycles.proofs.cycles.is_cycle.Goals as goal

pub returns-else-not-get : goal.returns-else-not-get
returns-else-not-get c =
    let g = c.args.graph.now in
    let e : sites_on c.args.walk.now.rest ≡ c.in-Go.meets ∷ sites_on c.in-Go.rest = ap sites_on c.in-Go.is ∙ fold_go sites_step c.in-Go.meets c.in-Go.rest in
    let f : sites_on c.get-in-Go.result.now ≡ sites_on c.in-Go.rest = ap sites_on c.get-in-Go.ensures in
    let parts = cycle_parts (UnsafeIn g c.args.model) (ComIn g) (EdgeIn g) c.args.walk.now.store c.args.walk.now.later c.in-Go.meets (sites_on c.in-Go.rest) in
    let rest = rw f at c.leads_back.ensures in
    rw e (
      λ h. parts.1 (c.is_unsafe.ensures.0 c.if-not-is_unsafe.false, c.get.ensures.0 c.if-not-get.false, rest.0 h),
      λ p. rest.1 (parts.0 p).2,
    )

pub returns-then-sites-walk : goal.returns-then-sites-walk
returns-then-sites-walk c =
    let g = c.args.graph.now in
    let e : sites_on c.args.walk.now.rest ≡ c.in-Go.meets ∷ sites_on c.in-Go.rest = ap sites_on c.in-Go.is ∙ fold_go sites_step c.in-Go.meets c.in-Go.rest in
    let parts = cycle_parts (UnsafeIn g c.args.model) (ComIn g) (EdgeIn g) c.args.walk.now.store c.args.walk.now.later c.in-Go.meets (sites_on c.in-Go.rest) in
    rw e (iff_none refl (λ p.
    let all = parts.0 p in
    let store = unsafe_from g c.args.model c.args.walk.now.store c.args.walk.now.later all.0 in
    let later = unsafe_within g c.args.model c.args.walk.now.store c.args.walk.now.later all.0 in
    let meets = begins_within g c.in-Go.meets c.args.walk.now.store (c.in-Go.meets ∷ sites_on c.in-Go.rest) all.2 in
    let size = same_length c.sites.ensures in
    elim c.then-sites-walk.branch [
      | goal.then-sites-walk-via-then-sites-walk w ↦ omega arith
      | goal.then-sites-walk-via-else-sites-walk+then-sites-walk-2 w ↦ omega arith
      | goal.then-sites-walk-via-else-sites-walk+else-sites-walk-2+then-sites-meets w ↦ omega arith
    ]))
