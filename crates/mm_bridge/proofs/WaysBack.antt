-- What leads from step to step in a run, with the edges that a set adds, leads from site to site in the text.
use Rattle.std.proofs.Common.{take, ◌≡◌, ℕ, ◌⊎◌, inl, inr, List, [], ◌∷◌, Option, Some, None, refl, Bool, true, sym, ◌∙◌, ap, ap₂, subst, slice_get}
use Rattle.std.specs.Prelude.{IsSomeAnd}
use Rattle.mm_goto.specs.Bounds.{Bounding}
use Rattle.mm_goto.specs.declared.model.Model.{Model}
use Rattle.mm_goto.specs.declared.program.Instr.{Instr}
use Rattle.mm_goto.specs.declared.spot.Spot.{Spot}
use Rattle.mm_goto.specs.DelayCycles.{Edge}
use Rattle.mm_goto.specs.Listing.{Listing}
use Rattle.mm_goto.specs.Paths.{IsPath}
use Rattle.mm_goto.specs.PointsTo.{instr_at}
use Rattle.mm_goto.specs.Sites.{Between, is_site, sites}
use Rattle.mm_goto.specs.Sourcelike.{IsSourcelike}
use Rattle.mm_sched.specs.declared.entry.Act.{Act}
use Rattle.mm_sched.specs.declared.entry.Act.TheVariants.{Pushes}
use Rattle.mm_sched.specs.declared.entry.Event.TheVariants.{Does}
use Rattle.mm_sched.specs.State.{initial, frame_of}
use Rattle.mm_runkeys.specs.declared.graph.EdgeKind.{EdgeKind}
use Rattle.mm_runkeys.specs.declared.graph.EdgeKind.TheVariants.{Issue, Program}
use Rattle.mm_rungraph.specs.Edges.{IsIssued, IsEdge}
use Rattle.mm_rungraph.specs.RunGraph.{layout_of}
use Rattle.mm_rungraph.specs.Traces.{after_all}
use Rattle.mm_rungraph.proofs.Concluding.{ends_within}
use Rattle.mm_rungraph.proofs.Forward.{IsStore}
use Rattle.mm_reorder.specs.Cycles.{Link, Walk, here, step}
use Rattle.mm_reorder.proofs.Classes.{one_store}
use Rattle.mm_reorder.proofs.Course.{Course}
use Rattle.mm_delay.proofs.Numbered.{numbered}
use Rattle.mm_keeping.specs.Executions.{Executes}
use Rattle.mm_keeping.proofs.Stepping.{get_there}
use Rattle.mm_bridge.specs.Steps.{Shows}
use Rattle.mm_bridge.proofs.Showing.{same_does, no_both, store_is, Seen, Plain, classified, plain_unseen, Into}
use Rattle.mm_bridge.proofs.Between.{one_edge}
use Rattle.mm_bridge.proofs.Passing.{first, next, last}

same_spot : (x y : Spot) → x.thread ≡ y.thread → x.index ≡ y.index → x ≡ y
same_spot x y e h = ap₂ (λ (t i : ℕ). record { thread = t; index = i }) e h

-- what holds of what is there
pub of_there : {A : Type 0} (P : A → Type 0) (o : Option A) (a : A) → o ≡ Some a → P a → IsSomeAnd o P
of_there P o a e h = subst (λ q. IsSomeAnd q P) (sym e) h

-- what is there, of which something holds
pub there : {A : Type 0} (P : A → Type 0) (o : Option A) → IsSomeAnd o P → (a : A) × (o ≡ Some a) × P a
there P None h = absurd h
there P (Some a) h = (a, refl, h)

module _ (m : Model) (bound : Bounding) (p : Listing) (source : IsSourcelike p) (k : Course m bound p) where
  abbrev Site : ℕ → Spot → Type 0
  Site n x = Seen m bound p source k n x

  -- ---- the site of a step

  executes_one : (n : ℕ) (x y : Spot) → Executes p k.events n x → Executes p k.events n y → x ≡ y
  executes_one n x y a b =
      let same : x.thread ≡ y.thread = (same_does x.thread y.thread a.act b.act (sym a.does ∙ b.does)).0 in
      same_spot x y same (sym a.place ∙ ap (λ t. (frame_of (after_all (initial p) (take n k.events)) t).place) same ∙ b.place)

  -- a step is of one site
  pub one_site : (n : ℕ) (x y : Spot) → Site n x → Site n y → x ≡ y
  one_site n x y a b = by a.shows b.shows
    where
      issued_does : (t : ℕ) (a : Act) → slice_get k.events n ≡ Some (Does t a) → (store : ℕ) → IsIssued (layout_of m bound p) k.events store n → ⊥
      issued_does t a e store i = let st = store_is m bound p source k store n i in no_both t st.thread st.cell a st.value (sym e ∙ st.flushed)

      by : Shows (layout_of m bound p) p k.events n x → Shows (layout_of m bound p) p k.events n y → x ≡ y
      by (inl e) (inl f) = executes_one n x y e f
      by (inl e) (inr (d, i, f)) = absurd (issued_does x.thread e.act e.does d i)
      by (inr (d, i, e)) (inl f) = absurd (issued_does y.thread f.act f.does d i)
      by (inr (d, i, e)) (inr (c, j, f)) =
          let same : c ≡ d = one_store (layout_of m bound p) k.events c d n j i in
          executes_one d x y e (subst (λ q. Executes p k.events q y) same f)

  -- the store of a flush is of the flush's site
  pub store_site : (v n : ℕ) (x : Spot) → IsIssued (layout_of m bound p) k.events v n → Site n x → Site v x
  store_site v n x i a = record { shows = by a.shows; is = a.is }
    where
      st : IsStore (layout_of m bound p) k.events v n
      st = store_is m bound p source k v n i

      by : Shows (layout_of m bound p) p k.events n x → Shows (layout_of m bound p) p k.events v x
      by (inl e) = absurd (no_both x.thread st.thread st.cell e.act st.value (sym e.does ∙ st.flushed))
      by (inr (c, j, e)) = inl (subst (λ q. Executes p k.events q x) (one_store (layout_of m bound p) k.events c v n j i) e)

  -- and the other way
  pub flush_site : (v n : ℕ) (x : Spot) → IsIssued (layout_of m bound p) k.events v n → Site v x → Site n x
  flush_site v n x i a = record { shows = by a.shows; is = a.is }
    where
      st : IsStore (layout_of m bound p) k.events v n
      st = store_is m bound p source k v n i

      by : Shows (layout_of m bound p) p k.events v x → Shows (layout_of m bound p) p k.events n x
      by (inl e) = inr (v, i, e)
      by (inr (c, j, e)) = let su = store_is m bound p source k c v j in absurd (no_both st.thread su.thread su.cell (Pushes st.cell st.value) su.value (sym st.made ∙ su.flushed))

  -- ---- numbers of sites

  pub number_of : (n : ℕ) (x : Spot) → Site n x → (j : ℕ) × (slice_get (sites p) j ≡ Some x)
  number_of n x a = let it = there (λ (i : Instr). is_site i ≡ true) (instr_at p x.thread x.index) a.is in numbered p x.thread x.index it.0 it.1 it.2

  pub between : (R : Spot → Spot → Type 0) (i j : ℕ) (x y : Spot) → slice_get (sites p) i ≡ Some x → slice_get (sites p) j ≡ Some y → R x y → Between p R i j
  between R i j x y a b r = of_there (λ u. IsSomeAnd (slice_get (sites p) j) (R u)) (slice_get (sites p) i) x a (of_there (R x) (slice_get (sites p) j) y b r)

  -- the sites are one, or a path leads from the one to the other
  abbrev pub Reaches : Spot → Spot → Type 0
  Reaches x y = (x ≡ y) ⊎ ((i j : ℕ) → slice_get (sites p) i ≡ Some x → slice_get (sites p) j ≡ Some y → (path : List ℕ) × IsPath (Between p (Edge p)) i path j)

  reaches_on : (n : ℕ) (x y z : Spot) → Edge p x y → Site n y → Reaches y z → Reaches x z
  reaches_on n x y z e seen (inl same) = inr (λ i j a b. (i ∷ [], IsPath.edge (between (Edge p) i j x z a b (subst (Edge p x) same e))))
  reaches_on n x y z e seen (inr rest) = inr (λ i j a b.
      let mid = number_of n y seen in
      let more = rest mid.0 j mid.1 b in
      (i ∷ more.0, IsPath.on (between (Edge p) i mid.0 x y a mid.1 e) more.1))

  -- ---- along the run

  -- a step is of the site, or it is plain and the way from the site leads to it
  abbrev pub At : ℕ → Spot → Type 0
  At n x = Site n x ⊎ (Plain m bound p source k n × Into m bound p source k x n)

  -- what comes next is still at the site, or an edge of the text leads to its site
  abbrev Onward : Spot → ℕ → Type 0
  Onward x b = At b x ⊎ ((y : Spot) × Site b y × Edge p x y)

  by_edge : (kind : EdgeKind) (n b : ℕ) (x : Spot) → IsEdge (layout_of m bound p) k.events kind n b → At n x → Onward x b
  by_edge kind n b x e at = let v = get_there k.events b (ends_within (layout_of m bound p) k.events kind n b e) in go (classified m bound p source k b v.0 v.1) at
    where
      issued : kind ≡ Issue → IsIssued (layout_of m bound p) k.events n b
      issued is = subst (λ q. IsEdge (layout_of m bound p) k.events q n b) is e

      go : ((y : Spot) × Site b y) ⊎ Plain m bound p source k b → At n x → Onward x b
      go (inl (y, there)) (inl seen) = met (one_edge m bound p source k kind n b x y seen there e)
        where
          met : Edge p x y ⊎ (kind ≡ Issue) → Onward x b
          met (inl edge) = inr (y, there, edge)
          met (inr is) = inl (inl (flush_site n b x (issued is) seen))
      go (inl (y, there)) (inr (plain, into)) = inr (y, there, last m bound p source k kind n b x y plain there into e)
      go (inr other) (inl seen) = inl (inr (other, first m bound p source k b other kind n x seen.shows e))
      go (inr other) (inr (plain, into)) = inl (inr (other, next m bound p source k kind n b x plain other into e))

  onward : (set : List (List Bool)) (n b : ℕ) (x : Spot) → Link (layout_of m bound p) p set k.events n b → At n x → Onward x b
  onward set n b x (inl (kind, e)) at = by_edge kind n b x e at
  onward set n b x (inr added) (inl seen) = by_edge Program added.store b x added.next (inl (store_site added.store n x added.flush seen))
  onward set n b x (inr added) (inr ((t, a, does, hidden), into)) =
      let st = store_is m bound p source k added.store n added.flush in
      absurd (no_both t st.thread st.cell a st.value (sym does ∙ st.flushed))

  -- a walk to a step of a site
  pub walk_back : (set : List (List Bool)) (end : ℕ) (z : Spot) → Site end z → (n : ℕ) (x : Spot) → At n x → Walk (Link (layout_of m bound p) p set k.events) end n → Reaches x z
  walk_back set end z last_site n x (inl seen) here = inl (one_site end x z seen last_site)
  walk_back set end z last_site n x (inr (plain, into)) here = absurd (plain_unseen m bound p source k end z plain last_site)
  walk_back set end z last_site n x at (step b link rest) = go (onward set n b x link at) (λ y there. walk_back set end z last_site b y there rest)
    where
      go : Onward x b → ((y : Spot) → At b y → Reaches y z) → Reaches x z
      go (inl still) more = more x still
      go (inr (y, there, edge)) more = reaches_on b x y z edge there (more y (inl there))
