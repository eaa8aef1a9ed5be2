use Rattle.std.proofs.Common.{◌≡◌, ◌∙◌, ◌∷◌, [], ap, ℕ, arith, sym, refl}
use Rattle.std.proofs.lemmas.Bool.{true≢false}
use Rattle.mm_graph.specs.Graphs.{EdgeIn}
use Rattle.mm_cycles.specs.Walks.{sites_on, sites_step}
use Rattle.mm_cycles.proofs.Folding.{fold_back, fold_go}
use Rattle.mm_cycles.proofs.FirstCycles.{same_length, back_once, back_more, begins_within, iff_turn, iff_none}
use Rattle.mm_cycles.proofs.cycles.+leads_back.Goals as goal

pub returns-in-Back : goal.returns-in-Back
returns-in-Back t c =
    let e : sites_on c.args.rest.now ≡ [] = ap sites_on c.in-Back.is ∙ fold_back sites_step in
    rw e (iff_turn c.get.ensures (back_once (EdgeIn c.args.graph.now) c.args.here c.args.store))

pub returns-then-sites-next : goal.returns-then-sites-next
returns-then-sites-next t c =
    let E : ℕ → ℕ → Type 0 = EdgeIn c.args.graph.now in
    let e : sites_on c.args.rest.now ≡ c.in-Go.next ∷ sites_on c.in-Go.rest = ap sites_on c.in-Go.is ∙ fold_go sites_step c.in-Go.next c.in-Go.rest in
    rw e (iff_none refl (λ p.
    let parts = (back_more E c.args.here c.in-Go.next c.args.store (sites_on c.in-Go.rest)).0 p in
    elim c.then-sites-next.branch [
      | goal.then-sites-next-via-then-sites-next w ↦
          let small = begins_within c.args.graph.now c.in-Go.next c.args.store (c.in-Go.next ∷ sites_on c.in-Go.rest) parts.1 in let size = same_length c.sites.ensures in omega arith
      | goal.then-sites-next-via-else-sites-next+then-not-get w ↦ true≢false (sym (w.get-else-sites-next.ensures.1 parts.0) ∙ w.if-not-get.true)
    ]))

pub returns-else-not-get : goal.returns-else-not-get
returns-else-not-get t c =
    let E : ℕ → ℕ → Type 0 = EdgeIn c.args.graph.now in
    let e : sites_on c.args.rest.now ≡ c.in-Go.next ∷ sites_on c.in-Go.rest = ap sites_on c.in-Go.is ∙ fold_go sites_step c.in-Go.next c.in-Go.rest in
    let f : sites_on c.get-in-Go.result.now ≡ sites_on c.in-Go.rest = ap sites_on c.get-in-Go.ensures in
    let more = back_more E c.args.here c.in-Go.next c.args.store (sites_on c.in-Go.rest) in
    let rest = rw f at c.leads_back.ensures in
    rw e (
      λ h. more.1 (c.get-else-sites-next.ensures.0 c.if-not-get.false, rest.0 h),
      λ p. rest.1 (more.0 p).1,
    )
