-- Communication edges of a run between two steps of sites.
use Rattle.std.proofs.Common.{arith, ◌≡◌, ℕ, ◌<◌, ℤ, ◌⊎◌, inl, inr, ⊎_elim, length, take, Some, refl, sym, ◌∙◌, ap, ap₂, slice_get}
use Rattle.std.specs.Prelude.{◌||◌, is_some}
use Rattle.std.proofs.lemmas.Option.{none-some, same_Some}
use Rattle.mm_goto.specs.Bounds.{Bounding}
use Rattle.mm_goto.specs.declared.model.Model.{Model}
use Rattle.mm_goto.specs.declared.spot.Spot.{Spot}
use Rattle.mm_goto.specs.Sites.{Com, Po}
use Rattle.mm_goto.specs.Listing.{Listing}
use Rattle.mm_goto.specs.Sourcelike.{IsSourcelike}
use Rattle.mm_sched.specs.declared.entry.Act.TheVariants.{Loads, Pushes}
use Rattle.mm_sched.specs.declared.entry.Event.TheVariants.{Does, Flushes}
use Rattle.mm_runkeys.specs.declared.graph.EdgeKind.TheVariants.{FromRead}
use Rattle.mm_runkeys.specs.Keys.{deed, queue, own, makes, writes, reads, only_reads, reads_own, is_own}
use Rattle.mm_runkeys.specs.Spans.{Next, Last, at}
use Rattle.mm_rungraph.specs.Edges.{by, IsIssued, IsCoherent, IsOverwritten}
use Rattle.mm_rungraph.specs.RunGraph.{layout_of}
use Rattle.mm_rungraph.proofs.Forward.{IsStore, has_cell, leads_on}
use Rattle.mm_rungraph.proofs.Queues.{digits}
use Rattle.mm_reorder.proofs.Course.{Course}
use Rattle.mm_keeping.specs.Executions.{Executes, touched}
use Rattle.mm_bridge.specs.Steps.{IsOf}
use Rattle.mm_bridge.proofs.Showing.{instr_of, store_is}
use Rattle.mm_bridge.proofs.Later.{only_reads_as, own_as, load_cell, queue_order, queue_of, drained_first, load_first, own_first}
use Rattle.mm_bridge.proofs.Quiet.{key_unless, never, reads_as, writes_as}
use Rattle.mm_bridge.proofs.Meeting.{Shown, origin, act_of, flush_as, key_at, key_behind, writes_of, reads_of, meeting}

module _ (m : Model) (bound : Bounding) (p : Listing) (source : IsSourcelike p) (k : Course m bound p) where
  abbrev Seen : ℕ → Spot → Type 0
  Seen n s = IsOf (layout_of m bound p) p k.events n s

  -- the flush of a store to the cell
  flush_there : (a n : ℕ) (s : Spot) (i : IsIssued (layout_of m bound p) k.events a n) (x : Executes p k.events a s) (c : ℕ) → by writes k.events n ≡ Some c → (v : ℤ) × (slice_get k.events n ≡ Some (Flushes s.thread c v))
  flush_there a n s i x c e =
      let f = flush_as m bound p source k a n s i x in
      (f.value, f.flush ∙ ap (λ z. Some (Flushes s.thread z f.value)) (same_Some f.cell c (key_at m bound p source k writes n (Flushes s.thread f.cell f.value) c f.flush e)))

  -- a step that writes a cell, before a step of its thread that writes or reads it
  module _ (a b : ℕ) (s t : Spot) (l : a < b) (c : ℕ) (of_a : by writes k.events a ≡ Some c) where
    write_first : (x : Shown m bound p source k a s) (y : Shown m bound p source k b t) → ((d : ℕ) → IsIssued (layout_of m bound p) k.events d b → by writes k.events b ≡ Some c) → s.thread ≡ t.thread → origin m bound p source k a s x < origin m bound p source k b t y
    write_first (inl x) (inl y) at_b same = l
    write_first (inr (d, i, x)) (inl y) at_b same = let h : d < a = i.before in omega (arith, h, l)
    write_first (inr (d, i, x)) (inr (e, j, y)) at_b same =
        let f = flush_there d a s i x c of_a in
        let g = flush_there e b t j y c (at_b e j) in
        queue_order m bound p k d e a b i j (queue_of m bound p k d a s.thread c f.0 i f.1 ∙ ap (λ u. queue (layout_of m bound p) u c) same ∙ sym (queue_of m bound p k e b t.thread c g.0 j g.1)) l
    write_first (inl x) (inr (e, j, y)) at_b same =
        let g = flush_there e b t j y c (at_b e j) in
        let i = instr_of m bound p source k a s x in
        let w = writes_as i.it x.act c i.suits (key_at m bound p source k writes a (Does s.thread x.act) c x.does of_a) in
        drained_first m bound p k a b e s.thread c x.act g.0 x.does (g.1 ∙ ap (λ u. Some (Flushes u c g.0)) (sym same)) j l w.drained

  pub of_coherence : (a b : ℕ) (s t : Spot) → Seen a s → Seen b t → IsCoherent k.events a b → Po p s t ⊎ Com p s t
  of_coherence a b s t x y e =
      let f = writes_of m bound p source k a s x.shows e.key e.from in
      let g = writes_of m bound p source k b t y.shows e.key e.to in
      meeting m bound p source k a b s t x y e.before e.key f.touches g.touches (inl f.writing) (write_first a b s t e.before e.key e.from x.shows y.shows (λ d i. e.to))

  pub of_reads : (a b : ℕ) (s t : Spot) → Seen a s → Seen b t → Last (by writes k.events) (at (reads (layout_of m bound p)) k.events) a b → Po p s t ⊎ Com p s t
  of_reads a b s t x y e =
      let f = writes_of m bound p source k a s x.shows e.key e.from in
      let g = reads_of m bound p source k b t y.shows e.key e.to in
      meeting m bound p source k a b s t x y e.before e.key f.touches g (inl f.writing) (write_first a b s t e.before e.key e.from x.shows y.shows (λ d i. absurd (no_flush d i)))
    where
      no_flush : (d : ℕ) → IsIssued (layout_of m bound p) k.events d b → ⊥
      no_flush d i = let st = store_is m bound p source k d b i in none-some e.key (key_behind m bound p source k (reads (layout_of m bound p)) b (Flushes st.thread st.cell st.value) e.key st.flushed e.to)

  -- ---- a read, and a later write of what it read

  -- the read is an instruction
  read_first : (a b : ℕ) (s t : Spot) → a < b → (x : Executes p k.events a s) → (y : Shown m bound p source k b t) → ((d : ℕ) → IsIssued (layout_of m bound p) k.events d b → Executes p k.events d t → s.thread ≡ t.thread → a < d) → s.thread ≡ t.thread → a < origin m bound p source k b t y
  read_first a b s t l x (inl y) first same = l
  read_first a b s t l x (inr (d, i, y)) first same = first d i y same

  -- what a step that shows a spot touches, and that it is executed before a later step of its thread
  abbrev Reading : (a b : ℕ) (s t : Spot) → Shown m bound p source k a s → Shown m bound p source k b t → ℕ → Type 0
  Reading a b s t x y c = (touched (act_of m bound p source k a s x) ≡ Some c) × (s.thread ≡ t.thread → origin m bound p source k a s x < origin m bound p source k b t y)

  memory_first : (a b : ℕ) (s t : Spot) (x : Shown m bound p source k a s) (y : Shown m bound p source k b t) (e : Next (at (only_reads (layout_of m bound p)) k.events) (by writes k.events) a b) → Reading a b s t x y e.key
  memory_first a b s t (inr (d, i, x)) y e = let f = flush_as m bound p source k d a s i x in absurd (none-some e.key (key_behind m bound p source k (only_reads (layout_of m bound p)) a (Flushes s.thread f.cell f.value) e.key f.flush e.from))
  memory_first a b s t (inl x) y e = (reads_as x.act e.key (key_unless (is_own (layout_of m bound p) (take a k.events) (Does s.thread x.act) || is_some (deed x.act).writes) (deed x.act).reads e.key reads_it).1, read_first a b s t e.before x y first)
    where
      reads_it : only_reads (layout_of m bound p) (take a k.events) (Does s.thread x.act) ≡ Some e.key
      reads_it = key_behind m bound p source k (only_reads (layout_of m bound p)) a (Does s.thread x.act) e.key x.does e.from

      first : (d : ℕ) → IsIssued (layout_of m bound p) k.events d b → Executes p k.events d t → s.thread ≡ t.thread → a < d
      first d i z same =
          let g = flush_there d b t i z e.key e.to in
          let at_b : slice_get k.events b ≡ Some (Flushes s.thread e.key g.0) = g.1 ∙ ap (λ u. Some (Flushes u e.key g.0)) (sym same) in
          ⊎_elim
          (λ q. load_first m bound p k a b d s.thread e.key x.act g.0 x.does at_b i e.before q.0 q.1 q.2 q.3)
          (λ q. drained_first m bound p k a b d s.thread e.key x.act g.0 x.does at_b i e.before q)
          (only_reads_as (is_own (layout_of m bound p) (take a k.events) (Does s.thread x.act)) s.thread x.act e.key reads_it)

  own_read_first : (a b : ℕ) (s t : Spot) (x : Shown m bound p source k a s) (y : Shown m bound p source k b t) (o : IsOverwritten (layout_of m bound p) k.events a b) → a < b → Reading a b s t x y o.next.key
  own_read_first a b s t (inr (d, i, x)) y o l = let f = flush_as m bound p source k d a s i x in absurd (never (is_own (layout_of m bound p) (take a k.events) (Flushes s.thread f.cell f.value)) o.took.key (key_behind m bound p source k (reads_own (layout_of m bound p)) a (Flushes s.thread f.cell f.value) o.took.key f.flush o.took.to))
  own_read_first a b s t (inl x) y o l = (ap touched load.3 ∙ ap Some cell, read_first a b s t l x y first)
    where
      load : (j : ℕ) × (c : ℕ) × (v : ℤ) × (x.act ≡ Loads j c v) × (own (layout_of m bound p) s.thread c ≡ o.took.key)
      load = own_as (is_own (layout_of m bound p) (take a k.events) (Does s.thread x.act)) s.thread x.act o.took.key (layout_of m bound p) (key_behind m bound p source k (reads_own (layout_of m bound p)) a (Does s.thread x.act) o.took.key x.does o.took.to)

      st : IsStore (layout_of m bound p) k.events o.store o.flush
      st = store_is m bound p source k o.store o.flush o.issued

      took : own (layout_of m bound p) st.thread st.cell ≡ o.took.key
      took = same_Some (own (layout_of m bound p) st.thread st.cell) o.took.key (key_at m bound p source k (makes (layout_of m bound p)) o.store (Does st.thread (Pushes st.cell st.value)) o.took.key st.made o.took.from)

      -- the cell that is loaded is the one that is overwritten
      cell : load.1 ≡ o.next.key
      cell =
          (digits (length p.cells) s.thread st.thread load.1 st.cell
          (load_cell m bound p k a s.thread load.0 load.1 load.2 (x.does ∙ ap (λ z. Some (Does s.thread z)) load.3))
          (has_cell p k.valid (layout_of m bound p) bound refl k.entries k.events k.happen o.store (Does st.thread (Pushes st.cell st.value)) st.made)
          (load.4 ∙ sym took)).1
          ∙ same_Some st.cell o.next.key (key_at m bound p source k writes o.flush (Flushes st.thread st.cell st.value) o.next.key st.flushed o.next.from)

      first : (d : ℕ) → IsIssued (layout_of m bound p) k.events d b → Executes p k.events d t → s.thread ≡ t.thread → a < d
      first d i z same =
          let g = flush_there d b t i z o.next.key o.next.to in
          own_first m bound p k a b d s.thread load.1 x.act g.0 x.does (g.1 ∙ ap₂ (λ u c. Some (Flushes u c g.0)) (sym same) (sym cell)) i l load.0 load.2 load.3 o load.4

  pub of_from_read : (a b : ℕ) (s t : Spot) → Seen a s → Seen b t → Next (at (only_reads (layout_of m bound p)) k.events) (by writes k.events) a b ⊎ IsOverwritten (layout_of m bound p) k.events a b → Po p s t ⊎ Com p s t
  of_from_read a b s t x y (inl e) =
      let f = memory_first a b s t x.shows y.shows e in
      let g = writes_of m bound p source k b t y.shows e.key e.to in
      meeting m bound p source k a b s t x y e.before e.key f.0 g.touches (inr g.writing) f.1
  of_from_read a b s t x y (inr o) =
      let l = leads_on p k.valid (layout_of m bound p) bound refl k.entries k.events k.happen FromRead a b (inr o) in
      let f = own_read_first a b s t x.shows y.shows o l in
      let g = writes_of m bound p source k b t y.shows o.next.key o.next.to in
      meeting m bound p source k a b s t x y l o.next.key f.0 g.touches (inr g.writing) f.1
