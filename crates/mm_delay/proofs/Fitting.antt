-- The shape of the stores that have a delay cycle fits the program.
use Rattle.std.proofs.Common.{◌≡◌, ◌∙◌, ℕ, zero, suc, ◌≤◌, Bool, false, List, [], ◌∷◌, length, inl, inr, arith, sym, subst, ap, Some, Result, Ok, Err, IfOk}
use Rattle.std.specs.Prelude.{◌↔◌, ◌⊎◌, IsTrue, IsSomeAnd, slice_get, slice_index_or}
use Rattle.std.specs.List.{Contains}
use Rattle.mm_bits.specs.Words.{Has}
use Rattle.mm_goto.specs.Bounds.{Bounding}
use Rattle.mm_goto.specs.declared.model.Model.{Model}
use Rattle.mm_goto.specs.declared.program.Instr.{Instr}
use Rattle.mm_goto.specs.declared.program.Thread.{Thread}
use Rattle.mm_goto.specs.declared.shape.Shape.{Shape}
use Rattle.mm_goto.specs.declared.spot.Spot.{Spot}
use Rattle.mm_goto.specs.DelayCycles.{Edge, HasDelayCycle, IsCycle, IsStore, Unsafe}
use Rattle.mm_goto.specs.Listing.{Listing}
use Rattle.mm_goto.specs.PointsTo.{instr_at}
use Rattle.mm_goto.specs.Shapes.{AreOfOneName, Fits, HasFlags, IsAddressed, IsFlushPoint, IsMoved, IsThreadBuffered, NamesBuffered, flag_at}
use Rattle.mm_goto.specs.Sites.{Between, Com, Is, sites}
use Rattle.mm_goto.specs.Valid.{IsValid}
use Rattle.mm_graph.specs.Graphs.{IsGraphOf}
use Rattle.mm_graph.specs.declared.event_graph.Graph.{Graph}
use Rattle.mm_graph.specs.declared.site.Site.{Site}
use Rattle.mm_graph.proofs.Filling.{some_and}
use Rattle.mm_graph.proofs.Named.{names_within}
use Rattle.mm_points.proofs.Derived.{stands_at}
use Rattle.mm_points.proofs.Lists.{same_some}
use Rattle.mm_delay.specs.Plans.{IsDelayed}
use Rattle.mm_delay.specs.reading.Points.{MarksPoints}
use Rattle.mm_delay.specs.reading.Sets.{AreFlagsOf, OfSome, Raised, StandsIn}
use Rattle.mm_delay.proofs.Deciding.{cell_buffered, flags_delayed, flags_stand, near_named, thread_buffered}
use Rattle.mm_delay.proofs.Flushing.{point_is, point_same}
use Rattle.mm_delay.proofs.Gathering.{iff_chain, iff_same}

-- ---- what the code makes, where its slices are the program's and the graph's

abbrev pub Flagged : List Thread → List Site → List ℕ → List (List Bool) → Type 0
Flagged threads sites set rows = (t : ℕ) (thread : Thread) → slice_get threads t ≡ Some thread → AreFlagsOf sites set t (length thread.code) (slice_index_or rows t [])

pub flagged : {threads threads' : List Thread} {before after : List Site} (set : List ℕ) (rows : List (List Bool)) → threads ≡ threads' → before ≡ after → Flagged threads before set rows → Flagged threads' after set rows
flagged {threads' = threads'} {before = before} set rows e f h = subst (λ of. Flagged threads' of set rows) f (subst (λ threads. Flagged threads before set rows) e h)

abbrev pub Marked : Model → List Thread → List (List Bool) → List (List Bool) → List ℕ → List (List Bool) → Type 0
Marked m threads near own storing points = (t : ℕ) (thread : Thread) → slice_get threads t ≡ Some thread
    → MarksPoints m thread.code (slice_index_or near t []) (slice_index_or own t []) (Has storing t) (Has storing) (slice_index_or points t [])

pub marked : {m : Model} {threads threads' : List Thread} {near near' own own' : List (List Bool)} (storing : List ℕ) (points : List (List Bool))
    → threads ≡ threads' → near ≡ near' → own ≡ own' → Marked m threads near own storing points → Marked m threads' near' own' storing points
marked {m = m} {threads' = threads'} {near = near} {near' = near'} {own = own} storing points e f g h =
    subst (λ own. Marked m threads' near' own storing points) g (subst (λ near. Marked m threads' near own storing points) f (subst (λ threads. Marked m threads near own storing points) e h))

pub if_ok : {X E : Type 0} (r : Result X E) (P Q : X → Type 0) → ((x : X) → P x → Q x) → IfOk r P → IfOk r Q
if_ok (Ok x) P Q f h = f x h
if_ok (Err e) P Q f h = h

-- ---- rows

-- what a row that stands there is
pub row_there : (rows : List (List Bool)) (t : ℕ) (row : List Bool) → slice_get rows t ≡ Some row → slice_index_or rows t [] ≡ row
row_there [] t row is = absurd cc
row_there (r ∷ rows) zero row is = same_some r row is
row_there (r ∷ rows) (suc t) row is = row_there rows t row is

-- rows as long as the threads' code, one for each
pub have_flags : (p : Listing) (rows : List (List Bool)) → length rows ≡ length p.threads
    → ((t : ℕ) (thread : Thread) → slice_get p.threads t ≡ Some thread → length (slice_index_or rows t []) ≡ length thread.code) → HasFlags p rows
have_flags p rows size each = (size, λ t thread row at is. ap (λ (row : List Bool). length row) (sym (row_there rows t row is)) ∙ each t thread at)

-- ---- stores

-- a cycle's store, and its access of another thread
parts_of : (Unsafe Com Edge : ℕ → ℕ → Type 0) (s : ℕ) (rest : List ℕ) → IsCycle Unsafe Com Edge (s ∷ rest) → (l m : ℕ) × Unsafe s l × Com l m
parts_of Unsafe Com Edge s rest (IsCycle.cycle {l = l} {m = m} u c path) = (l, m, u, c)

module _ (p : Listing) (valid : IsValid p) (m : Model) where
  -- a store that has a delay cycle is a store, and there is a cell
  pub delayed_store : (t k : ℕ) → IsDelayed p m t k → IsSomeAnd (instr_at p t k) IsStore × (1 ≤ length p.cells)
  delayed_store t k h =
      let x = some_and (slice_get (sites p) h.0) (λ x. (x.thread ≡ t) × (x.index ≡ k)) h.1 in
      let parts = parts_of (Between p (Unsafe p m)) (Between p (Com p)) (Between p (Edge p)) h.0 h.2.0 h.2.1 in
      let y = some_and (slice_get (sites p) h.0) (λ y. IsSomeAnd (slice_get (sites p) parts.0) (Unsafe p m y)) parts.2 in
      let z = some_and (slice_get (sites p) parts.0) (Unsafe p m y.0) y.2 in
      let v = some_and (slice_get (sites p) parts.0) (λ v. IsSomeAnd (slice_get (sites p) parts.1) (Com p v)) parts.3 in
      let w = some_and (slice_get (sites p) parts.1) (Com p v.0) v.2 in
      let same : x.0 ≡ y.0 = same_some x.0 y.0 (sym x.1 ∙ y.1) in
      let stands : Is p x.0 IsStore = subst (λ s. Is p s IsStore) (sym same) z.2.store in
      let here : IsSomeAnd (instr_at p t x.0.index) IsStore = subst (λ t. IsSomeAnd (instr_at p t x.0.index) IsStore) x.2.0 stands in
      (subst (λ k. IsSomeAnd (instr_at p t k) IsStore) x.2.1 here, (let within = names_within p valid v.0 w.2.meet.0 w.2.meet.1 in omega (arith, within)))

-- ---- the shape

module _ (p : Listing) (valid : IsValid p) (g : Graph) (graph : IsGraphOf p g) (m : Model) (set : List ℕ) (delayed : (s : ℕ) → Has set s ↔ HasDelayCycle p m s)
    (rows : List (List Bool)) (size : length rows ≡ length p.threads)
    (each : (t : ℕ) (thread : Thread) → slice_get p.threads t ≡ Some thread → AreFlagsOf g.sites set t (length thread.code) (slice_index_or rows t [])) where
  flags : (t k : ℕ) → IsTrue (flag_at rows t k) ↔ StandsIn g.sites set t k
  flags = flags_stand p g graph set rows size each

  pub buffered_are_delayed : (t k : ℕ) → IsTrue (flag_at rows t k) ↔ IsDelayed p m t k
  buffered_are_delayed = flags_delayed p g graph m set delayed rows flags

  pub buffered_flags : HasFlags p rows
  buffered_flags = have_flags p rows size (λ t thread at. (each t thread at).size)

  pub stores : (t k : ℕ) → IsTrue (flag_at rows t k) → IsSomeAnd (instr_at p t k) IsStore × (1 ≤ length p.cells)
  stores t k up = delayed_store p valid m t k ((buffered_are_delayed t k).0 up)

  module _ (cells : List ℕ) (has : (c : ℕ) → Has cells c ↔ OfSome g.sites set (λ x. Contains x.cells c)) where
    -- the cells that move
    pub moved_cells : (moved : List Bool) → ((c : ℕ) → Raised moved c ↔ ((d : ℕ) × AreOfOneName p c d × (IsAddressed p d ⊎ Has cells d)))
        → (c : ℕ) → IsTrue (slice_index_or moved c false) ↔ IsMoved p rows c
    moved_cells moved raised c = (
      λ up. let d = (raised c).0 up in (d.0, d.1, elim d.2 [ inl a ↦ inl a | inr b ↦ inr ((cell_buffered p g graph m set delayed rows flags cells has d.0).0 b) ]),
      λ is. (raised c).1 (is.0, is.1, elim is.2 [ inl a ↦ inl a | inr b ↦ inr ((cell_buffered p g graph m set delayed rows flags cells has is.0).1 b) ]),
    )

    -- where pending stores may be flushed
    module _ (near : List ℕ) (meets : (s : ℕ) → Has near s ↔ IsSomeAnd (slice_get g.sites s) (λ x. (c : ℕ) × Contains x.cells c × Has cells c))
        (close : List (List Bool)) (close_size : length close ≡ length p.threads)
        (each_close : (t : ℕ) (thread : Thread) → slice_get p.threads t ≡ Some thread → AreFlagsOf g.sites near t (length thread.code) (slice_index_or close t []))
        (storing : List ℕ) (stored : (t : ℕ) → Has storing t ↔ OfSome g.sites set (λ x. x.thread ≡ t))
        (points : List (List Bool)) (point_size : length points ≡ length p.threads)
        (marks : (t : ℕ) (thread : Thread) → slice_get p.threads t ≡ Some thread
        → MarksPoints m thread.code (slice_index_or close t []) (slice_index_or rows t []) (Has storing t) (Has storing) (slice_index_or points t [])) where
      pub point_flags : HasFlags p points
      point_flags = have_flags p points point_size (λ t thread at. (marks t thread at).size)

      near_is : (t k : ℕ) → IsTrue (flag_at close t k) ↔ NamesBuffered p rows (record { thread = t; index = k })
      near_is t k = iff_chain (flags_stand p g graph near close close_size each_close t k) (near_named p g graph m set delayed rows flags cells near has meets t k)

      thread_is : (t : ℕ) → Has storing t ↔ IsThreadBuffered rows t
      thread_is = thread_buffered p g graph m set delayed rows flags storing stored

      pub points_are : (t k : ℕ) (it : Instr) → instr_at p t k ≡ Some it → IsTrue (flag_at points t k) ↔ IsFlushPoint p m rows (record { thread = t; index = k }) it
      points_are t k it is =
          let at = stands_at p t k it is in
          let s : Spot = record { thread = t; index = k } in
          let same = point_same m (Raised (slice_index_or close t []) k) (Raised (slice_index_or rows t []) k) (Has storing t)
          (NamesBuffered p rows s) (IsTrue (flag_at rows t k)) (IsThreadBuffered rows t) (Has storing) (IsThreadBuffered rows)
          (near_is t k) iff_same (thread_is t) thread_is it in
          iff_chain ((marks t at.thread at.runs).points k it at.stands) (iff_chain same (point_is p m rows s it))

      -- the shape that has these rows
      pub fits : (moved : List Bool) → length moved ≡ length p.cells → ((c : ℕ) → Raised moved c ↔ ((d : ℕ) × AreOfOneName p c d × (IsAddressed p d ⊎ Has cells d)))
          → (bound : Bounding) (b : List (List Bool)) (v : List Bool) (f : List (List Bool)) → b ≡ rows → v ≡ moved → f ≡ points
          → Fits p (record { model = m; bound = bound; buffered = b; moved = v; points = f })
      fits moved count raised bound b v f same_rows same_moved same_points =
          let made : Shape = record { model = m; bound = bound; buffered = rows; moved = moved; points = points } in
          let is : Fits p made = record {
            buffered_flags = buffered_flags;
            moved_flags = count;
            point_flags = point_flags;
            stores = stores;
            moved = moved_cells moved raised;
            points = points_are;
          } in
          let B : List (List Bool) → Type 0 = λ b. Fits p (record { model = m; bound = bound; buffered = b; moved = moved; points = points }) in
          let V : List Bool → Type 0 = λ v. Fits p (record { model = m; bound = bound; buffered = b; moved = v; points = points }) in
          let F : List (List Bool) → Type 0 = λ f. Fits p (record { model = m; bound = bound; buffered = b; moved = v; points = f }) in
          subst F (sym same_points) (subst V (sym same_moved) (subst B (sym same_rows) is))
