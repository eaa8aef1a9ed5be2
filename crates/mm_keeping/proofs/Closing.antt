-- The three ways by which an instruction must be before a site.
use Rattle.std.proofs.Common.{arith, ◌≡◌, ℕ, ◌+◌, ◌<◌, List, Some, refl, true, sym, ◌∙◌, ap, subst, slice_get}
use Rattle.std.proofs.lemmas.Bool.{false≢true}
use Rattle.std.proofs.lemmas.Option.{slice_get_within}
use Rattle.mm_goto.specs.Bounds.{Bounding}
use Rattle.mm_goto.specs.declared.model.Model.{Model}
use Rattle.mm_goto.specs.declared.program.Instr.{Instr}
use Rattle.mm_goto.specs.declared.program.Instr.TheVariants.{Start, Join, End}
use Rattle.mm_goto.specs.declared.spot.Spot.{Spot}
use Rattle.mm_goto.specs.Listing.{Listing}
use Rattle.mm_goto.specs.PointsTo.{instr_at}
use Rattle.mm_goto.specs.Sites.{Is, is_site, MustBefore, before_start, behind_join, one_after_other}
use Rattle.mm_goto.specs.Sourcelike.{IsSourcelike}
use Rattle.mm_sched.specs.declared.entry.Entry.{Entry}
use Rattle.mm_sched.specs.declared.entry.Rules.TheVariants.{Buffered}
use Rattle.mm_sched.specs.declared.entry.Act.{Act}
use Rattle.mm_sched.specs.declared.entry.Act.TheVariants.{Starts}
use Rattle.mm_sched.specs.declared.entry.Event.TheVariants.{Does}
use Rattle.mm_rungraph.specs.Edges.{IsIssued}
use Rattle.mm_rungraph.specs.RunGraph.{layout_of}
use Rattle.mm_rungraph.specs.Traces.{Trace}
use Rattle.mm_keeping.specs.Executions.{Executes}
use Rattle.mm_keeping.proofs.Before.{settled, start_is}
use Rattle.mm_keeping.proofs.Stepping.{doing, state, instr_is, place_at}
use Rattle.mm_keeping.proofs.Order.{last_is, passed, over, starter, Joined, joins, gone, drained, within}

module _ (m : Model) (bound : Bounding) (p : Listing) (es : List Entry) (run : Trace (Buffered m bound) p es) (source : IsSourcelike p) (a b : ℕ) (s t : Spot) (x : Executes p run.events a s) (y : Executes p run.events b t) where
  abbrev Both : Type 0
  Both = (a < b) × ((f : ℕ) → IsIssued (layout_of m bound p) run.events a f → f < b)

  by_join : (u c : ℕ) (z : Act) → u ≡ s.thread → Joined m bound p source es run.events run.happen u c → slice_get run.events c ≡ Some (Does 0 z) → c < b → Both
  by_join u c z e j h l =
      let at : slice_get run.events a ≡ Some (Does u x.act) = subst (λ w. slice_get run.events a ≡ Some (Does w x.act)) (sym e) x.does in
      let g = gone m bound p source es run.events run.happen u c a x.act j at in
      (omega (arith, g, l), λ f i. let d = drained m bound p source es run.events run.happen u c a f x.act z j h at i in omega (arith, d, l))

  site_inner : (k : ℕ) → instr_at p 0 k ≡ Some End → t.thread ≡ 0 → t.index ≡ k → Is p t (λ it. is_site it ≡ true) → ⊥
  site_inner k h e i q = false≢true (rw (ap (λ w. instr_at p w t.index) e ∙ ap (instr_at p 0) i ∙ h) at q)

  start_no_end : (i : Instr) (u : ℕ) → i ≡ Start u → i ≡ End → ⊥
  start_no_end i u e f = let z : Start u ≡ End = sym e ∙ f in absurd (cc)

  pub both : MustBefore p s t → Is p t (λ it. is_site it ≡ true) → Both
  both (behind_join k e h l) site =
      let at_b : slice_get run.events b ≡ Some (Does 0 y.act) = subst (λ w. slice_get run.events b ≡ Some (Does w y.act)) e y.does in
      let place_b : place_at m bound p source.valid es run.events run.happen 0 b ≡ t.index = subst (λ w. place_at m bound p source.valid es run.events run.happen w b ≡ t.index) e y.place in
      let d = doing m bound p source.valid es run.events run.happen b 0 y.act at_b in
      let is = instr_is m bound p source.valid es run.events run.happen b 0 y.act d in
      let r = passed m bound p source es run.events run.happen k (Join s.thread) h refl b y.act at_b (subst (λ w. k < w) (sym place_b) l) (λ z. site_inner (place_at m bound p source.valid es run.events run.happen 0 b) (is ∙ ap Some (last_is p source (place_at m bound p source.valid es run.events run.happen 0 b) d.instr is z)) e (sym place_b) site) in
      by_join s.thread r.step r.act refl (joins m bound p source es run.events run.happen k s.thread b h r) r.does r.before
  both (one_after_other j k h g l) site =
      let w = starter m bound p source es run.events run.happen b t.thread k y.act y.does g in
      let r = passed m bound p source es run.events run.happen j (Join s.thread) h refl w.0 (Starts t.thread) w.2 (subst (λ i. j < i) (sym w.3) l) (λ z. start_no_end (Start t.thread) t.thread refl (last_is p source k (Start t.thread) g (ap (λ i. i + 1) (sym w.3) ∙ z))) in
      by_join s.thread r.step r.act refl (joins m bound p source es run.events run.happen j s.thread w.0 h r) r.does (let q = r.before in let v = w.1 in omega (arith, q, v))
  both (before_start k e g l) site =
      let w = starter m bound p source es run.events run.happen b t.thread k y.act y.does g in
      let at_a : slice_get run.events a ≡ Some (Does 0 x.act) = subst (λ u. slice_get run.events a ≡ Some (Does u x.act)) e x.does in
      let place_a : place_at m bound p source.valid es run.events run.happen 0 a ≡ s.index = subst (λ u. place_at m bound p source.valid es run.events run.happen u a ≡ s.index) e x.place in
      let c = over m bound p source es run.events run.happen k (Start t.thread) g refl w.0 a (Starts t.thread) x.act w.2 w.3 at_a (subst (λ i. i < k) (sym place_a) l) in
      let d = doing m bound p source.valid es run.events run.happen w.0 0 (Starts t.thread) w.2 in
      let f = doing m bound p source.valid es run.events run.happen a 0 x.act at_a in
      let there = slice_get_within (state m bound p source.valid es run.events run.happen a).threads 0 f.frame f.at.frame in
      (omega (arith, c, w.1), λ n i. let q = settled m bound p source.valid es run.events run.happen w.0 a n 0 x.act c (within m bound p source es run.events run.happen w.0 (Does 0 (Starts t.thread)) w.2) at_a i d.queues (omega (arith, there, f.fits.threads, d.fits.pending)) (start_is (state m bound p source.valid es run.events run.happen w.0) 0 t.thread d.instr d.tells.turn).1 in omega (arith, q, w.1))
