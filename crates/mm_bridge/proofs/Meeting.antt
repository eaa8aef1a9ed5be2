-- Where an instruction that a step shows is executed, and the communication between two steps of sites.
use Rattle.std.proofs.Common.{arith, ◌≡◌, ℕ, ◌<◌, ◌≤◌, ℤ, ◌⊎◌, inl, inr, ⊎_elim, take, Option, Some, sym, ◌∙◌, ap, subst, slice_get}
use Rattle.std.specs.Prelude.{option_and_then}
use Rattle.std.proofs.lemmas.Bool.{cases_eq}
use Rattle.std.proofs.lemmas.Option.{none-some}
use Rattle.mm_goto.specs.Bounds.{Bounding}
use Rattle.mm_goto.specs.declared.model.Model.{Model}
use Rattle.mm_goto.specs.declared.program.Instr.{Instr}
use Rattle.mm_goto.specs.declared.spot.Spot.{Spot}
use Rattle.mm_goto.specs.Listing.{Listing}
use Rattle.mm_goto.specs.PointsTo.{instr_at}
use Rattle.mm_goto.specs.Sites.{Is, Accesses, Writes, Com, MustBefore, Po}
use Rattle.mm_goto.specs.Sourcelike.{IsSourcelike}
use Rattle.mm_sched.specs.declared.entry.Act.{Act}
use Rattle.mm_sched.specs.declared.entry.Act.TheVariants.{Pushes}
use Rattle.mm_sched.specs.declared.entry.Event.{Event}
use Rattle.mm_sched.specs.declared.entry.Event.TheVariants.{Does, Flushes}
use Rattle.mm_runkeys.specs.Keys.{deed, writes, reads, is_own}
use Rattle.mm_runkeys.specs.Spans.{Key, at}
use Rattle.mm_rungraph.specs.Edges.{by, IsIssued}
use Rattle.mm_rungraph.specs.RunGraph.{layout_of}
use Rattle.mm_reorder.proofs.Course.{Course}
use Rattle.mm_keeping.specs.Executions.{Executes, touched}
use Rattle.mm_keeping.proofs.Closing.{both}
use Rattle.mm_keeping.proofs.Naming.{names}
use Rattle.mm_bridge.specs.Steps.{Shows, IsOf}
use Rattle.mm_bridge.proofs.Suiting.{Suits, IsWriting, accesses, writes_there, is_there}
use Rattle.mm_keeping.proofs.Flowing.{ordered}
use Rattle.mm_bridge.proofs.Showing.{run, instr_of, store_is, same_does}
use Rattle.mm_bridge.proofs.Quiet.{key_unless, reads_as, writes_as}

module _ (m : Model) (bound : Bounding) (p : Listing) (source : IsSourcelike p) (k : Course m bound p) where
  abbrev pub Shown : ℕ → Spot → Type 0
  Shown n s = Shows (layout_of m bound p) p k.events n s

  -- ---- the execution that a step shows

  abbrev pub origin : (n : ℕ) (s : Spot) → Shown n s → ℕ
  origin n s (inl x) = n
  origin n s (inr (a, i, x)) = a

  abbrev pub origin_runs : (n : ℕ) (s : Spot) (h : Shown n s) → Executes p k.events (origin n s h) s
  origin_runs n s (inl x) = x
  origin_runs n s (inr (a, i, x)) = x

  abbrev pub act_of : (n : ℕ) (s : Spot) → Shown n s → Act
  act_of n s h = (origin_runs n s h).act

  pub origin_up : (n : ℕ) (s : Spot) (h : Shown n s) → origin n s h ≤ n
  origin_up n s (inl x) = omega arith
  origin_up n s (inr (a, i, x)) = let l : a < n = i.before in omega (arith, l)

  -- what a step that brings the spot's store to memory does
  pub record FlushAs (n : ℕ) (s : Spot) (a : Act) : Type 0 where
    pub cell : ℕ
    pub value : ℤ
    pub act : a ≡ Pushes cell value
    pub flush : slice_get k.events n ≡ Some (Flushes s.thread cell value)

  pub flush_as : (a n : ℕ) (s : Spot) (i : IsIssued (layout_of m bound p) k.events a n) (x : Executes p k.events a s) → FlushAs n s x.act
  flush_as a n s i x =
      let st = store_is m bound p source k a n i in
      let z = same_does s.thread st.thread x.act (Pushes st.cell st.value) (sym x.does ∙ st.made) in
      record { cell = st.cell; value = st.value; act = z.1; flush = st.flushed ∙ ap (λ t. Some (Flushes t st.cell st.value)) (sym z.0) }

  -- ---- keys

  pub key_at : (key : Event → Option ℕ) (n : ℕ) (v : Event) (x : ℕ) → slice_get k.events n ≡ Some v → by key k.events n ≡ Some x → key v ≡ Some x
  key_at key n v x e h = sym (ap (option_and_then (λ z. key z)) e) ∙ h

  pub key_behind : (key : Key) (n : ℕ) (v : Event) (x : ℕ) → slice_get k.events n ≡ Some v → at key k.events n ≡ Some x → key (take n k.events) v ≡ Some x
  key_behind key n v x e h = sym (ap (option_and_then (λ z. key (take n k.events) z)) e) ∙ h

  pub record IsWriteOf (n : ℕ) (s : Spot) (h : Shown n s) (c : ℕ) : Type 0 where
    pub touches : touched (act_of n s h) ≡ Some c
    pub writing : IsWriting (act_of n s h)

  pub writes_of : (n : ℕ) (s : Spot) (h : Shown n s) (c : ℕ) → by writes k.events n ≡ Some c → IsWriteOf n s h c
  writes_of n s (inl x) c e =
      let i = instr_of m bound p source k n s x in
      let w = writes_as i.it x.act c i.suits (key_at writes n (Does s.thread x.act) c x.does e) in
      record { touches = w.touches; writing = w.writing }
  writes_of n s (inr (a, i, x)) c e =
      let f = flush_as a n s i x in
      record { touches = ap touched f.act ∙ key_at writes n (Flushes s.thread f.cell f.value) c f.flush e; writing = subst IsWriting (sym f.act) tt }

  pub reads_of : (n : ℕ) (s : Spot) (h : Shown n s) (c : ℕ) → at (reads (layout_of m bound p)) k.events n ≡ Some c → touched (act_of n s h) ≡ Some c
  reads_of n s (inl x) c e = reads_as x.act c (key_unless (is_own (layout_of m bound p) (take n k.events) (Does s.thread x.act)) (deed x.act).reads c (key_behind (reads (layout_of m bound p)) n (Does s.thread x.act) c x.does e)).1
  reads_of n s (inr (a, i, x)) c e = let f = flush_as a n s i x in absurd (none-some c (key_behind (reads (layout_of m bound p)) n (Flushes s.thread f.cell f.value) c f.flush e))

  -- ---- communication

  abbrev Seen : ℕ → Spot → Type 0
  Seen n s = IsOf (layout_of m bound p) p k.events n s

  -- no site that a later step shows must be before
  pub may_follow : (a b : ℕ) (s t : Spot) → Seen a s → Seen b t → a < b → MustBefore p t s → ⊥
  may_follow a b s t x y l before = go y.shows
    where
      up : origin a s x.shows ≤ a
      up = origin_up a s x.shows

      go : Shown b t → ⊥
      go (inl z) = let q = (both m bound p k.entries (run m bound p source k) source b (origin a s x.shows) t s z (origin_runs a s x.shows) before x.is).0 in omega (arith, q, up, l)
      go (inr (d, i, z)) = let q = (both m bound p k.entries (run m bound p source k) source d (origin a s x.shows) t s z (origin_runs a s x.shows) before x.is).1 b i in omega (arith, q, up, l)

  -- two steps of sites at one cell, which one of them writes
  module _ (a b : ℕ) (s t : Spot) (x : Seen a s) (y : Seen b t) (l : a < b) (c : ℕ) (at_a : touched (act_of a s x.shows) ≡ Some c) (at_b : touched (act_of b t y.shows) ≡ Some c)
      (write : IsWriting (act_of a s x.shows) ⊎ IsWriting (act_of b t y.shows)) where
    abbrev there : (n : ℕ) (u : Spot) (h : Shown n u) → (P : Instr → Type 0) → ((i : Instr) → Suits i (act_of n u h) → P i) → Is p u P
    there n u h P f = let i = instr_of m bound p source k (origin n u h) u (origin_runs n u h) in is_there P (instr_at p u.thread u.index) i.it i.at (f i.it i.suits)

    communicate : (s.thread ≡ t.thread → ⊥) → Com p s t
    communicate apart = record {
      from = there a s x.shows Accesses (λ i q. accesses i (act_of a s x.shows) c q at_a);
      to = there b t y.shows Accesses (λ i q. accesses i (act_of b t y.shows) c q at_b);
      apart = apart;
      meet = (
        c,
        names m bound p source k.entries k.events k.happen (origin a s x.shows) s (origin_runs a s x.shows) c at_a,
        names m bound p source k.entries k.events k.happen (origin b t y.shows) t (origin_runs b t y.shows) c at_b,
      );
      writes = ⊎_elim
          (λ w. inl (there a s x.shows Writes (λ i q. writes_there i (act_of a s x.shows) q w)))
          (λ w. inr (there b t y.shows Writes (λ i q. writes_there i (act_of b t y.shows) q w))) write;
      may_follow = may_follow a b s t x y l;
    }

    -- in one thread they are executed in their order
    pub meeting : (s.thread ≡ t.thread → origin a s x.shows < origin b t y.shows) → Po p s t ⊎ Com p s t
    meeting order = ⊎_elim
        (λ same. inl (ordered m bound p k.entries (run m bound p source k) source.valid (origin a s x.shows) (origin b t y.shows) s t (origin_runs a s x.shows) (origin_runs b t y.shows) same (order same)))
        (λ apart. inr (communicate apart))
        (cases_eq s.thread t.thread)
