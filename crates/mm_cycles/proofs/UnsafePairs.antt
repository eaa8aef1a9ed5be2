-- The pairs that the graph's tables give are the program's, and so are the cycles.
use Rattle.std.proofs.Common.{◌≡◌, ℕ, true}
use Rattle.std.specs.Prelude.{◌↔◌, IsSomeAnd, slice_get}
use Rattle.mm_goto.specs.declared.model.Model.{Model}
use Rattle.mm_goto.specs.declared.spot.Spot.{Spot}
use Rattle.mm_goto.specs.Listing.{Listing}
use Rattle.mm_goto.specs.PointsTo.{instr_at}
use Rattle.mm_goto.specs.Sites.{Is, sites, Undrained, Com, Between}
use Rattle.mm_goto.specs.DelayCycles.{IsStore, Overtakes, NamesOnly, Unsafe, Edge}
use Rattle.mm_graph.specs.declared.event_graph.Graph.{Graph}
use Rattle.mm_graph.specs.declared.site.Site.{Site}
use Rattle.mm_graph.specs.declared.site.SiteKind.TheVariants as kind
use Rattle.mm_graph.specs.Graphs.{ComIn, EdgeIn, IsGraphOf}
use Rattle.mm_graph.specs.Sites.{IsSiteOf, IsOfKind}
use Rattle.mm_graph.specs.reading.Tables.{OnBoth}
use Rattle.mm_graph.proofs.Filling.{some_and, on_both}
use Rattle.mm_graph.proofs.Pairs.{on_spots}
use Rattle.mm_cycles.specs.Links.{overtakes, AreUnsafe, UnsafeIn}
use Rattle.mm_cycles.proofs.OnlyCells.{apart_same, store_same, overtakes_same}
use Rattle.mm_cycles.proofs.Transfer.{Agree}

-- all of what makes a pair unsafe but the flow
record IsPair (p : Listing) (m : Model) (s l : Spot) : Type 0 where
  store : Is p s IsStore
  later : Is p l (Overtakes m)
  apart : (c : ℕ) → NamesOnly p s c → NamesOnly p l c → ⊥

pair_same : (p : Listing) (m : Model) (s l : Spot) (x y : Site) → IsSiteOf p s x → IsSiteOf p l y → AreUnsafe m x y ↔ IsPair p m s l
pair_same p m s l x y of to =
    let here = some_and (instr_at p s.thread s.index) (IsOfKind x.kind) of.kind in
    let there = some_and (instr_at p l.thread l.index) (IsOfKind y.kind) to.kind in
    let store : (x.kind ≡ kind.Store) ↔ Is p s IsStore = rw here.1 (store_same x.kind here.0 here.2) in
    let later : (overtakes m y.kind ≡ true) ↔ Is p l (Overtakes m) = rw there.1 (overtakes_same m y.kind there.0 there.2) in
    let apart = apart_same _ _ x.cells y.cells of.cells to.cells in (
      λ u. record { store = store.0 u.store; later = later.0 u.later; apart = apart.0 u.apart },
      λ u. record { store = store.1 u.store; later = later.1 u.later; apart = apart.1 u.apart },
    )

module _ (p : Listing) (g : Graph) (m : Model) (is : IsGraphOf p g) where
  unsafe_same : (s l : ℕ) → UnsafeIn g m s l ↔ Between p (Unsafe p m) s l
  unsafe_same s l = (there, back)
    where
      pairs : OnBoth (AreUnsafe m) g.sites s l ↔ OnBoth (IsPair p m) (sites p) s l
      pairs = on_spots (IsSiteOf p) (sites p) g.sites (record { size = is.size; each = is.each }) (AreUnsafe m) (IsPair p m) (pair_same p m) s l

      there : UnsafeIn g m s l → Between p (Unsafe p m) s l
      there u =
          let pair = pairs.0 u.pair in
          let x = some_and (slice_get (sites p) s) (λ x. IsSomeAnd (slice_get (sites p) l) (IsPair p m x)) pair in
          let y = some_and (slice_get (sites p) l) (IsPair p m x.0) x.2 in
          let flow = (on_both (Undrained p) (sites p) s l x.0 y.0 x.1 y.1).0 ((is.undrained s l).0 u.undrained) in
          (on_both (Unsafe p m) (sites p) s l x.0 y.0 x.1 y.1).1 (record { store = y.2.store; later = y.2.later; undrained = flow; apart = y.2.apart })

      back : Between p (Unsafe p m) s l → UnsafeIn g m s l
      back h =
          let x = some_and (slice_get (sites p) s) (λ x. IsSomeAnd (slice_get (sites p) l) (Unsafe p m x)) h in
          let y = some_and (slice_get (sites p) l) (Unsafe p m x.0) x.2 in
          record {
            pair = pairs.1 ((on_both (IsPair p m) (sites p) s l x.0 y.0 x.1 y.1).1 (record { store = y.2.store; later = y.2.later; apart = y.2.apart }));
            undrained = (is.undrained s l).1 ((on_both (Undrained p) (sites p) s l x.0 y.0 x.1 y.1).1 y.2.undrained);
          }

  -- what the tables relate is what the program relates
  pub agree : Agree (UnsafeIn g m) (ComIn g) (EdgeIn g) (Between p (Unsafe p m)) (Between p (Com p)) (Between p (Edge p))
  agree = record { unsafe = unsafe_same; meets = is.meets; edges = is.edges }
