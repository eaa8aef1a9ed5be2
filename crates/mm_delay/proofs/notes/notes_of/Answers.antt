use Rattle.std.proofs.Common.{◌≡◌, ◌∙◌, ℕ, ◌+◌, List, length, arith, sym, subst, ap, Vec, Global}
use Rattle.std.proofs.lemmas.Option.{get_or_from_slice_get}
use Rattle.mm_goto.specs.declared.shape.Note.{Note}
use Rattle.std.proofs.lemmas.Bool.{true≢false}
use Rattle.std.specs.Prelude.{slice_get, slice_index_or}
use Rattle.mm_graph.proofs.Filling.{some_and}
use Rattle.mm_graph.specs.declared.site.Site.{Site}
use Rattle.mm_graph.specs.declared.site.SiteKind.TheVariants as kind
use Rattle.mm_delay.proofs.Noting.{SoFar, so_far_none, so_far_skip, so_far_more, so_far_all, cycle_store, is_store}
use Rattle.mm_delay.proofs.notes.notes_of.Goals as goal

pub sites-init : goal.sites-init
sites-init c = λ p is. let P : List Note → Type 0 = SoFar p c.args.model 0 in subst P (sym c.new-notes.ensures.items) (so_far_none p c.args.model)

pub sites-preserved : goal.sites-preserved
sites-preserved c = λ p is.
    let m = c.args.model in
    let s : ℕ = c.sites.s in
    let P : List Note → Type 0 = SoFar p m (s + 1) in
    let so = c.sites.invariant p is in
    elim c.if-eq.branch [
      | goal.then-eq+in_ok-note+in-Some+in_ok-push w ↦
          let noted = w.in_ok-note.ensures.found in
          subst P (sym (ap (λ (v : Vec Note Global). v.items) w.notes-is ∙ w.in_ok-push.ensures.items)) (so_far_more p m s c.sites.notes.items w.in-Some.note so (rw w.in-Some.is at noted p is))
      | goal.then-eq+in_ok-note+in_default w ↦
          let none = w.in_ok-note.ensures.none in
          subst P (sym (ap (λ (v : Vec Note Global). v.items) w.notes-is)) (so_far_skip p m s c.sites.notes.items so (rw w.in_default.is at none p is))
      | goal.else-eq w ↦
          subst P (sym (ap (λ (v : Vec Note Global). v.items) w.notes-is)) (so_far_skip p m s c.sites.notes.items so (λ has.
          let sites : List Site = c.args.graph.now.sites in
          let x = some_and (slice_get sites s) (λ (x : Site). x.kind ≡ kind.Store) (cycle_store p m c.args.graph.now is s has) in
          let r : Site = c.index-sites-s.result in
          let e : slice_index_or c.sites-in-sites.result.now s r ≡ x.0 = ap (λ (xs : List Site). slice_index_or xs s r) c.sites-in-sites.ensures ∙ get_or_from_slice_get sites s x.0 r x.1 in
          let k : (slice_index_or c.sites-in-sites.result.now s r).kind ≡ kind.Store = ap (λ (x : Site). x.kind) e ∙ x.2 in
          true≢false (sym ((is_store (slice_index_or c.sites-in-sites.result.now s r).kind).1 k) ∙ sym w.if-eq.ensures)))
    ]

pub returns : goal.returns
returns c = λ p is.
    let count : length c.sites-2.result.now ≡ length c.args.graph.now.sites = ap (λ (xs : List Site). length xs) c.sites-2.ensures in
    so_far_all p c.args.model c.sites.s c.sites.notes.items (c.sites.invariant p is) (let size = is.size in let past = c.sites-test.false in omega (arith, size, past, count))
