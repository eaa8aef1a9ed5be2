use Rattle.std.proofs.Common.{◌≡◌, ◌∙◌, ℕ, ◌<◌, subst, List, length, refl, sym, ap, Some}
use Rattle.std.proofs.lemmas.Option.{slice_get_read, slice_get_within}
use Rattle.std.specs.Prelude.{slice_get, slice_index_or}
use Rattle.mm_graph.proofs.Filling.{some_and}
use Rattle.mm_delay.proofs.Noting.{note_is}
use Rattle.mm_goto.specs.DelayCycles.{IsCycleOf}
use Rattle.mm_graph.specs.declared.site.Site.{Site}
use Rattle.mm_delay.proofs.notes.note_of.Goals as goal

pub returns-in_ok-sites_of-in-Some-clause-found : goal.returns-in_ok-sites_of-in-Some-clause-found
returns-in_ok-sites_of-in-Some-clause-found c = λ p is.
    let store = some_and (slice_get c.args.graph.now.sites c.args.store) _ c.requires in
    let sites : List Site = c.args.graph.now.sites in
    let small : c.args.store < length sites = slice_get_within sites c.args.store store.0 store.1 in
    let read = c.index-sites-store.is ∙ ap (λ (xs : List Site). slice_index_or xs c.args.store c.index-sites-store.result) c.sites.ensures in
    let at : slice_get sites c.args.store ≡ Some c.index-sites-store.result = slice_get_read sites (length sites) c.args.store c.index-sites-store.result refl small read in
    let P : List ℕ → Type 0 = λ walk. IsCycleOf p c.args.model c.args.store walk in
    let first = c.in_ok-walk.ensures.first in
    note_is p c.args.model c.args.graph.now is c.args.store c.index-sites-store.result at c.in_ok-sites_of-in-Some.field-0
    (subst P (sym c.in_ok-sites_of-in-Some.ensures) (rw c.in-Some.is at first p is))
