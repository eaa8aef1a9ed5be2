-- The executed instructions of a thread have flow paths.
use Rattle.std.proofs.Common.{arith, ◌≡◌, ◌≢◌, ℕ, suc, ◌<◌, inl, inr, ⊎_elim, List, Option, Some, refl, Bool, true, false, not, sym, ◌∙◌, ap, subst, slice_get}
use Rattle.std.specs.Prelude.{option_and_then}
use Rattle.std.proofs.lemmas.Option.{slice_get_within}
use Rattle.mm_goto.specs.Bounds.{Bounding}
use Rattle.mm_goto.specs.declared.model.Model.{Model}
use Rattle.mm_goto.specs.declared.program.Instr.{Instr}
use Rattle.mm_goto.specs.declared.spot.Spot.{Spot}
use Rattle.mm_goto.specs.Flow.{IsSuccessor}
use Rattle.mm_goto.specs.Listing.{Listing}
use Rattle.mm_goto.specs.PointsTo.{instr_at}
use Rattle.mm_goto.specs.Sites.{PassesAt, FlowsBy, once, more, Po, Undrained, is_undrained}
use Rattle.mm_goto.specs.Valid.{IsValid, code_of}
use Rattle.mm_sched.specs.declared.entry.Entry.{Entry}
use Rattle.mm_sched.specs.declared.entry.Rules.TheVariants.{Buffered}
use Rattle.mm_sched.specs.declared.entry.Act.{Act}
use Rattle.mm_sched.specs.declared.entry.Event.{Event}
use Rattle.mm_sched.specs.declared.entry.Event.TheVariants.{Does}
use Rattle.mm_sched.specs.State.{initial}
use Rattle.mm_runkeys.specs.declared.graph.EdgeKind.TheVariants.{Program}
use Rattle.mm_runkeys.specs.Keys.{deed, runs, drains}
use Rattle.mm_rungraph.specs.Edges.{by, IsEdge}
use Rattle.mm_rungraph.specs.RunGraph.{layout_of}
use Rattle.mm_rungraph.specs.Traces.{Trace, events_of}
use Rattle.mm_keeping.specs.Executions.{Executes}
use Rattle.mm_keeping.proofs.Stepping.{Doing, doing, instr_is, place_at, not_ended, goes_on, held}

abbrev every : Instr → Bool
every it = true

module _ (m : Model) (bound : Bounding) (p : Listing) (valid : IsValid p) (es : List Entry) (vs : List Event) (happens : events_of (Buffered m bound) p (initial p) es ≡ Some vs) where
  -- the instruction of a step passes
  passes_at : (passes : Instr → Bool) (n t : ℕ) (a : Act) (d : Doing m bound p valid es vs happens n t a) → passes d.instr ≡ true → PassesAt passes (code_of p t) (place_at m bound p valid es vs happens t n)
  passes_at passes n t a d h = go (instr_at p t (place_at m bound p valid es vs happens t n)) refl
    where
      go : (o : Option Instr) → instr_at p t (place_at m bound p valid es vs happens t n) ≡ o → PassesAt passes (code_of p t) (place_at m bound p valid es vs happens t n)
      go o e = rw (instr_is m bound p valid es vs happens n t a d) h

  module _ (passes : Instr → Bool) (t a b : ℕ) (x y : Act) (l : a < b) (at_a : slice_get vs a ≡ Some (Does t x)) (at_b : slice_get vs b ≡ Some (Does t y))
      (pass : (n : ℕ) (z : Act) (d : Doing m bound p valid es vs happens n t z) → a < n → n < b → slice_get vs n ≡ Some (Does t z) → passes d.instr ≡ true) where
    abbrev Q : ℕ → ℕ → Type 0
    Q n k = (a < n) × FlowsBy passes (code_of p t) (place_at m bound p valid es vs happens t a) k

    flows : FlowsBy passes (code_of p t) (place_at m bound p valid es vs happens t a) (place_at m bound p valid es vs happens t b)
    flows = ⊎_elim (λ q. q.1) (λ e. absurd (not_ended m bound p valid es vs happens b t y at_b e))
        (held m bound p valid es vs happens t Q b (let w = slice_get_within vs b (Does t y) at_b in omega (arith, w))
        (λ n j q. (let z : a < n = q.0 in omega (arith, z), q.1))
        (λ n k z l2 e q s. (let w : a < n = q.0 in omega (arith, w), more (place_at m bound p valid es vs happens t n) q.1 (passes_at passes n t z (doing m bound p valid es vs happens n t z e) (pass n z (doing m bound p valid es vs happens n t z e) q.0 l2 e)) s))
        (suc a) b l (omega arith)
        (⊎_elim (λ s. inl (omega arith, once s)) (λ e. inr e) (goes_on m bound p valid es vs happens a t x at_a)))

module _ (m : Model) (bound : Bounding) (p : Listing) (es : List Entry) (run : Trace (Buffered m bound) p es) (valid : IsValid p) (a b : ℕ) (s t : Spot) (x : Executes p run.events a s) (y : Executes p run.events b t) where
  module _ (same : s.thread ≡ t.thread) (l : a < b) where
    at_b : slice_get run.events b ≡ Some (Does s.thread y.act)
    at_b = subst (λ w. slice_get run.events b ≡ Some (Does w y.act)) (sym same) y.does

    place_b : place_at m bound p valid es run.events run.happen s.thread b ≡ t.index
    place_b = subst (λ w. place_at m bound p valid es run.events run.happen w b ≡ t.index) (sym same) y.place

    by_places : (passes : Instr → Bool) → FlowsBy passes (code_of p s.thread) (place_at m bound p valid es run.events run.happen s.thread a) (place_at m bound p valid es run.events run.happen s.thread b) → FlowsBy passes (code_of p s.thread) s.index t.index
    by_places passes h = subst (λ i. FlowsBy passes (code_of p s.thread) i t.index) x.place (subst (FlowsBy passes (code_of p s.thread) (place_at m bound p valid es run.events run.happen s.thread a)) place_b h)

    pub ordered : Po p s t
    ordered = record { thread = same; flow = by_places every (flows m bound p valid es run.events run.happen every s.thread a b x.act y.act l x.does at_b (λ n z d i j e. refl)) }

    pub undrained : ((j : ℕ) → a < j → j < b → by drains run.events j ≢ Some s.thread) → Undrained p s t
    undrained none = record { thread = same; flow = by_places is_undrained (flows m bound p valid es run.events run.happen is_undrained s.thread a b x.act y.act l x.does at_b (λ n z d i j e. quiet n z d (none n i j) e)) }
      where
        drains_is : (z : Act) → (deed z).drained ≡ true → drains (Does s.thread z) ≡ Some s.thread
        drains_is z e = rw e refl

        quiet : (n : ℕ) (z : Act) (d : Doing m bound p valid es run.events run.happen n s.thread z) → by drains run.events n ≢ Some s.thread → slice_get run.events n ≡ Some (Does s.thread z) → is_undrained d.instr ≡ true
        quiet n z d no_drain e = go (deed z).drained refl
          where
            go : (c : Bool) → (deed z).drained ≡ c → is_undrained d.instr ≡ true
            go true h = absurd (no_drain (ap (option_and_then (λ v. drains v)) e ∙ drains_is z h))
            go false h = ap not (sym d.tells.drained ∙ h)

  abbrev Next : ℕ → ℕ → Type 0
  Next n k = (a < n) × IsSuccessor (code_of p s.thread) (place_at m bound p valid es run.events run.happen s.thread a) k

  pub neighbours : IsEdge (layout_of m bound p) run.events Program a b → (s.thread ≡ t.thread) × IsSuccessor (code_of p s.thread) s.index t.index
  neighbours e = (same, subst (λ i. IsSuccessor (code_of p s.thread) i t.index) x.place (subst (IsSuccessor (code_of p s.thread) (place_at m bound p valid es run.events run.happen s.thread a)) (place_b same e.before) next))
    where
      key_of : (n u : ℕ) (z : Act) → slice_get run.events n ≡ Some (Does u z) → by runs run.events n ≡ Some u
      key_of n u z h = ap (option_and_then (λ v. runs v)) h

      one : (i j : ℕ) → Some i ≡ Some j → i ≡ j
      one i j h = cc

      mine : s.thread ≡ e.key
      mine = one s.thread e.key (sym (key_of a s.thread x.act x.does) ∙ e.from)

      same : s.thread ≡ t.thread
      same = mine ∙ one e.key t.thread (sym e.to ∙ key_of b t.thread y.act y.does)

      next : IsSuccessor (code_of p s.thread) (place_at m bound p valid es run.events run.happen s.thread a) (place_at m bound p valid es run.events run.happen s.thread b)
      next = ⊎_elim (λ q. q.1) (λ z. absurd (not_ended m bound p valid es run.events run.happen b s.thread y.act (at_b same e.before) z))
          (held m bound p valid es run.events run.happen s.thread Next b (let w = slice_get_within run.events b (Does t.thread y.act) y.does in omega (arith, w))
          (λ n j q. (let z : a < n = q.0 in omega (arith, z), q.1))
          (λ n k z l h q g. absurd (e.none n q.0 l (key_of n s.thread z h ∙ ap Some mine)))
          (suc a) b e.before (omega arith)
          (⊎_elim (λ g. inl (omega arith, g)) (λ z. inr z) (goes_on m bound p valid es run.events run.happen a s.thread x.act x.does)))
