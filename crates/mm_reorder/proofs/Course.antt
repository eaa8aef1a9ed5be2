-- A run with its list of events, and the ways that its edges give.
use Rattle.std.proofs.Common.{◌≡◌, ℕ, zero, ◌<◌, ◌≤◌, List, length, take, Option, Some, None, Bool, true, false, sym, ◌∙◌, ap, subst, slice_get, if◌then◌else◌, inl}
use Rattle.std.specs.Prelude.{option_and_then}
use Rattle.std.proofs.lemmas.Bool.{false≢true}
use Rattle.mm_goto.specs.Bounds.{Bounding}
use Rattle.mm_goto.specs.declared.model.Model.{Model}
use Rattle.mm_goto.specs.Listing.{Listing}
use Rattle.mm_goto.specs.Valid.{IsValid}
use Rattle.mm_sched.specs.declared.entry.Entry.{Entry}
use Rattle.mm_sched.specs.declared.entry.Rules.TheVariants.{Buffered}
use Rattle.mm_sched.specs.declared.entry.Act.{Act}
use Rattle.mm_sched.specs.declared.entry.Event.{Event}
use Rattle.mm_sched.specs.declared.entry.Event.TheVariants.{Does, Flushes}
use Rattle.mm_sched.specs.Sections.{HasNoSection}
use Rattle.mm_sched.specs.State.{Frame, initial}
use Rattle.mm_runkeys.specs.declared.graph.EdgeKind.{EdgeKind}
use Rattle.mm_runkeys.specs.declared.graph.EdgeKind.TheVariants.{Program, Fifo, Reads, Coherence, FromRead, Drain, Start}
use Rattle.mm_runkeys.specs.declared.keys.Layout.{Layout}
use Rattle.mm_rungraph.specs.Edges.{by, IsEdge}
use Rattle.mm_runkeys.specs.Keys.{deed, runs, drains, flushes, starts, pushes, pops, writes, reads, only_reads, key, queue}
use Rattle.mm_rungraph.specs.RunGraph.{layout_of}
use Rattle.mm_runkeys.specs.Spans.{Key, Span, at, is_key, times}
use Rattle.mm_rungraph.specs.Traces.{events_of, after_all}
use Rattle.mm_rungraph.proofs.ForOrders.{span_at}
use Rattle.mm_rungraph.proofs.Spanning.{key_is, is_key_at}
use Rattle.mm_reorder.proofs.Acting.{Tells}
use Rattle.mm_reorder.proofs.Doing.{Did, Ran, ran_tells}
use Rattle.mm_reorder.proofs.Nexts.{Next, chain, onward, from_last}
use Rattle.mm_reorder.proofs.Walking.{Walk}
use Rattle.mm_reorder.proofs.Ways.{one, Leads, join}

-- a thread that is there has ended
abbrev pub ended_of : Option Frame → Bool
ended_of None = false
ended_of (Some f) = f.ended

pub record Course (m : Model) (bound : Bounding) (p : Listing) : Type 0 where
  pub walk : Walk m bound p
  pub entries : List Entry
  pub events : List Event
  pub happen : events_of (Buffered m bound) p (initial p) entries ≡ Some events
  pub valid : IsValid p
  pub calm : HasNoSection p
  pub size : length events ≡ walk.size
  pub each : (n : ℕ) → n < walk.size → slice_get events n ≡ Some (walk.what n)
  pub taken : (n : ℕ) → n < walk.size → slice_get entries n ≡ Some (walk.by n)
  pub states : (n : ℕ) → n ≤ walk.size → (walk.at n).state ≡ after_all (initial p) (take n events)
  pub into : (n : ℕ) → n ≤ walk.size → (t c : ℕ) → c < length p.cells → (walk.at n).pushed t (key m c) ≡ times (pushes (layout_of m bound p)) (queue (layout_of m bound p) t c) (take n events)
  pub out : (n : ℕ) → n ≤ walk.size → (t c : ℕ) → c < length p.cells → (walk.at n).popped t (key m c) ≡ times (pops (layout_of m bound p)) (queue (layout_of m bound p) t c) (take n events)
  pub cells : (n : ℕ) → n < walk.size → length (walk.at n).state.memory ≡ length p.cells
  pub threads : (n : ℕ) → n < walk.size → length (walk.at n).state.threads ≡ length p.threads
  pub none_ended : (u : ℕ) → ended_of (slice_get (walk.at zero).state.threads u) ≡ false

module _ (m : Model) (bound : Bounding) (p : Listing) (k : Course m bound p) where
  abbrev pub w : Walk m bound p
  w = k.walk

  abbrev pub N : ℕ
  N = k.walk.size

  abbrev pub s : Layout
  s = layout_of m bound p

  -- an edge of the run graph
  abbrev pub Edge : ℕ → ℕ → Type 0
  Edge a b = (kind : EdgeKind) × IsEdge (layout_of m bound p) k.events kind a b

  -- a way of edges
  abbrev pub R : ℕ → ℕ → Type 0
  R = Leads Edge

  pub trans : (a b c : ℕ) → R a b → R b c → R a c
  trans = join Edge

  pub edge : (kind : EdgeKind) (a b : ℕ) → IsEdge (layout_of m bound p) k.events kind a b → R a b
  edge kind a b e = one (kind, e)

  -- ---- keys

  pub by_is : (key : Event → Option ℕ) (n : ℕ) → n < k.walk.size → by key k.events n ≡ key (k.walk.what n)
  by_is key n l = ap (option_and_then (λ e. key e)) (k.each n l)

  pub at_is : (key : Key) (n : ℕ) → n < k.walk.size → at key k.events n ≡ key (take n k.events) (k.walk.what n)
  at_is key n l = ap (option_and_then (λ e. key (take n k.events) e)) (k.each n l)

  -- the key of step n is x
  abbrev pub Has : (Event → Option ℕ) → ℕ → ℕ → Type 0
  Has key x n = is_key x (by key k.events n) ≡ true

  pub has : (key : Event → Option ℕ) (x n : ℕ) → n < k.walk.size → key (k.walk.what n) ≡ Some x → Has key x n
  has key x n l e = is_key_at x (by key k.events n) (by_is key n l ∙ e)

  pub has_key : (key : Event → Option ℕ) (x n : ℕ) → n < k.walk.size → is_key x (key (k.walk.what n)) ≡ true → Has key x n
  has_key key x n l e = has key x n l (key_is x (key (k.walk.what n)) e)

  pub had : (key : Event → Option ℕ) (x n : ℕ) → n < k.walk.size → Has key x n → key (k.walk.what n) ≡ Some x
  had key x n l e = sym (by_is key n l) ∙ key_is x (by key k.events n) e

  -- tests at one key make a span
  spanned : (marked asked : ℕ → Option ℕ) (x a b : ℕ) → Next (λ n. is_key x (marked n)) (λ n. is_key x (asked n)) a b → Span marked asked asked a b
  spanned marked asked x a b n = span_at marked asked asked x a b n.before n.from_kind n.to_kind n.none

  -- ---- the ways

  pub program : (t a b : ℕ) → a < b → Has runs t a → Has runs t b → R a b
  program t = chain R trans (λ n. is_key t (by runs k.events n)) (λ a b n. edge Program a b (spanned (by runs k.events) (by runs k.events) t a b n))

  pub coherence : (c a b : ℕ) → a < b → Has writes c a → Has writes c b → R a b
  coherence c = chain R trans (λ n. is_key c (by writes k.events n)) (λ a b n. edge Coherence a b (spanned (by writes k.events) (by writes k.events) c a b n))

  pub fifo : (q a b : ℕ) → a < b → Has (pops (layout_of m bound p)) q a → Has (pops (layout_of m bound p)) q b → R a b
  fifo q = chain R trans (λ n. is_key q (by (pops (layout_of m bound p)) k.events n)) (λ a b n. edge Fifo a b (spanned (by (pops (layout_of m bound p)) k.events) (by (pops (layout_of m bound p)) k.events) q a b n))

  pub starting : (u a b : ℕ) → a < b → Has starts u a → Has runs u b → R a b
  starting u = onward R trans (λ n. is_key u (by starts k.events n)) (λ n. is_key u (by runs k.events n))
      (λ a b n. edge Start a b (spanned (by starts k.events) (by runs k.events) u a b n))
      (λ a b n. edge Program a b (spanned (by runs k.events) (by runs k.events) u a b n))

  pub drain_runs : (t n : ℕ) → Has drains t n → Has runs t n
  drain_runs t n h = go (slice_get k.events n) h
    where
      of_act : (b : Bool) (u : ℕ) → is_key t (if b then Some u else None) ≡ true → is_key t (Some u) ≡ true
      of_act true u e = e
      of_act false u e = absurd (false≢true e)

      go : (o : Option Event) → is_key t (option_and_then (λ e. drains e) o) ≡ true → is_key t (option_and_then (λ e. runs e) o) ≡ true
      go None e = absurd (false≢true e)
      go (Some (Does u a)) e = of_act (deed a).drained u e
      go (Some (Flushes u c v)) e = absurd (false≢true e)

  -- a flush leads to each later drained step of its thread
  pub draining : (t a b : ℕ) → a < b → Has flushes t a → Has drains t b → R a b
  draining t = onward R trans (λ n. is_key t (by flushes k.events n)) (λ n. is_key t (by drains k.events n))
      (λ a b n. edge Drain a b (spanned (by flushes k.events) (by drains k.events) t a b n))
      (λ a b n. program t a b n.before (drain_runs t a n.from_kind) (drain_runs t b n.to_kind))

  -- a write leads to each later read of memory
  pub reading : (c a b : ℕ) → a < b → Has writes c a → is_key c (at (reads (layout_of m bound p)) k.events b) ≡ true → R a b
  reading c = from_last R trans (λ n. is_key c (by writes k.events n)) (λ n. is_key c (at (reads (layout_of m bound p)) k.events n))
      (λ a b n. edge Reads a b (span_at (by writes k.events) (by writes k.events) (at (reads (layout_of m bound p)) k.events) c a b n.before n.from_kind n.to_kind n.none))
      (λ a b n. edge Coherence a b (spanned (by writes k.events) (by writes k.events) c a b n))

  -- a read of memory leads to each later write
  pub from_reading : (c a b : ℕ) → a < b → is_key c (at (only_reads (layout_of m bound p)) k.events a) ≡ true → Has writes c b → R a b
  from_reading c = onward R trans (λ n. is_key c (at (only_reads (layout_of m bound p)) k.events n)) (λ n. is_key c (by writes k.events n))
      (λ a b n. edge FromRead a b (inl (spanned (at (only_reads (layout_of m bound p)) k.events) (by writes k.events) c a b n)))
      (λ a b n. edge Coherence a b (spanned (by writes k.events) (by writes k.events) c a b n))

  -- ---- what a step tells

  pub told : (n t : ℕ) (a : Act) → n < k.walk.size → k.walk.what n ≡ Does t a → Tells m bound (k.walk.at n).state t a
  told n t a l e = ran_tells m bound p (k.walk.at n).state (k.walk.by n) t a k.calm (subst (Did (Buffered m bound) p (k.walk.at n).state (k.walk.by n)) e (k.walk.did n l))

  pub ran : (n t : ℕ) (a : Act) → n < k.walk.size → k.walk.what n ≡ Does t a → Ran (Buffered m bound) p (k.walk.at n).state (k.walk.by n) t a
  ran n t a l e = subst (Did (Buffered m bound) p (k.walk.at n).state (k.walk.by n)) e (k.walk.did n l)
