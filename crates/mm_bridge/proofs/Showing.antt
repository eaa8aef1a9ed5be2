-- Which site each step of a run is of, and how a thread comes from a site to a step.
use Rattle.std.proofs.Common.{arith, take, ◌≡◌, ℕ, suc, ◌<◌, ℤ, ◌⊎◌, inl, inr, List, [], ◌∷◌, Some, refl, Bool, true, false, sym, ◌∙◌, ap, subst, slice_get}
use Rattle.std.specs.List.{All}
use Rattle.std.proofs.lemmas.List.Elements.{All-nil, All-cons}
use Rattle.mm_goto.specs.Bounds.{Bounding}
use Rattle.mm_goto.specs.declared.model.Model.{Model}
use Rattle.mm_goto.specs.declared.program.Instr.TheVariants.{Start}
use Rattle.mm_goto.specs.declared.spot.Spot.{Spot}
use Rattle.mm_goto.specs.DelayCycles.{Edge}
use Rattle.mm_goto.specs.Listing.{Listing}
use Rattle.mm_goto.specs.Sites.{start}
use Rattle.mm_goto.specs.Sourcelike.{IsSourcelike, is_section}
use Rattle.mm_sched.specs.declared.entry.Rules.TheVariants.{Buffered}
use Rattle.mm_sched.specs.declared.entry.Act.{Act}
use Rattle.mm_sched.specs.declared.entry.Act.TheVariants.{Pushes, Starts}
use Rattle.mm_sched.specs.declared.entry.Event.{Event}
use Rattle.mm_sched.specs.declared.entry.Event.TheVariants.{Does, Flushes}
use Rattle.mm_sched.specs.Sections.{HasNoSection}
use Rattle.mm_sched.specs.State.{initial, frame_of}
use Rattle.mm_rungraph.specs.Edges.{IsIssued}
use Rattle.mm_rungraph.specs.RunGraph.{layout_of}
use Rattle.mm_rungraph.specs.Traces.{Trace, after_all}
use Rattle.mm_rungraph.proofs.Forward.{IsStore, issued_is}
use Rattle.mm_reorder.proofs.Classes.{what_is, below}
use Rattle.mm_reorder.proofs.Course.{Course}
use Rattle.mm_reorder.proofs.Issuing.{store_of}
use Rattle.mm_keeping.specs.Executions.{Executes}
use Rattle.mm_keeping.proofs.Flowing.{ordered}
use Rattle.mm_bridge.specs.Steps.{Shows, IsOf}
use Rattle.mm_bridge.proofs.Suiting.{Suits, is_visible, Instruction, instruction, is_site_at, no_site_at}

-- ---- no atomic sections

all_from_get : {A : Type 0} (P : A → Type 0) (xs : List A) → ((k : ℕ) (x : A) → slice_get xs k ≡ Some x → P x) → All P xs
all_from_get P [] h = All-nil P
all_from_get P (x ∷ xs) h = All-cons P x xs (h 0 x refl) (all_from_get P xs (λ k. h (suc k)))

pub calm : (p : Listing) → IsSourcelike p → HasNoSection p
calm p source = all_from_get (λ thread. All (λ i. is_section i ≡ false) thread.code) p.threads (λ t thread e. all_from_get (λ i. is_section i ≡ false) thread.code (λ k i h. (source.each t k thread i e h).sections))

pub same_does : (t u : ℕ) (a b : Act) → Some (Does t a) ≡ Some (Does u b) → (t ≡ u) × (a ≡ b)
same_does t u a b e = (cc, cc)

same_flush : (t u c d : ℕ) (v w : ℤ) → Some (Flushes t c v) ≡ Some (Flushes u d w) → (t ≡ u) × (c ≡ d) × (v ≡ w)
same_flush t u c d v w e = (cc, cc, cc)

pub no_both : (t u c : ℕ) (a : Act) (v : ℤ) → Some (Does t a) ≡ Some (Flushes u c v) → ⊥
no_both t u c a v e = cc

module _ (m : Model) (bound : Bounding) (p : Listing) (source : IsSourcelike p) (k : Course m bound p) where
  abbrev pub run : Trace (Buffered m bound) p k.entries
  run = record { events = k.events; happen = k.happen }

  -- ---- the instruction of a step

  abbrev pub Instr_of : Spot → Act → Type 0
  Instr_of s a = Instruction m bound p source.valid k.entries k.events k.happen s a

  pub instr_of : (n : ℕ) (s : Spot) (x : Executes p k.events n s) → Instr_of s x.act
  instr_of n s x = instruction m bound p source.valid k.entries k.events k.happen n s x

  pub store_is : (a n : ℕ) → IsIssued (layout_of m bound p) k.events a n → IsStore (layout_of m bound p) k.events a n
  store_is a n i = issued_is p source.valid (layout_of m bound p) bound refl k.entries k.events k.happen a n i

  -- an instruction shows its own spot
  pub record RunOf (n t : ℕ) (a : Act) (s : Spot) : Type 0 where
    pub runs : Executes p k.events n s
    pub thread : t ≡ s.thread
    pub act : runs.act ≡ a

  pub run_of_spot : (n t : ℕ) (a : Act) (s : Spot) → slice_get k.events n ≡ Some (Does t a) → Shows (layout_of m bound p) p k.events n s → RunOf n t a s
  run_of_spot n t a s e (inl x) = let z = same_does s.thread t x.act a (sym x.does ∙ e) in record { runs = x; thread = sym z.0; act = z.1 }
  run_of_spot n t a s e (inr (b, i, x)) = let st = store_is b n i in absurd (no_both t st.thread st.cell a st.value (sym e ∙ st.flushed))

  -- and a flush that of its store
  pub record FlushOf (n t c : ℕ) (v : ℤ) (s : Spot) : Type 0 where
    pub store : ℕ
    pub issued : IsIssued (layout_of m bound p) k.events store n
    pub runs : Executes p k.events store s
    pub thread : t ≡ s.thread
    pub act : runs.act ≡ Pushes c v
    pub before : store < n

  pub flush_of_spot : (n t c : ℕ) (v : ℤ) (s : Spot) → slice_get k.events n ≡ Some (Flushes t c v) → Shows (layout_of m bound p) p k.events n s → FlushOf n t c v s
  flush_of_spot n t c v s e (inl x) = absurd (no_both s.thread t c x.act v (sym x.does ∙ e))
  flush_of_spot n t c v s e (inr (b, i, x)) =
      let st = store_is b n i in
      let f = same_flush st.thread t st.cell c st.value v (sym st.flushed ∙ e) in
      let z = same_does s.thread st.thread x.act (Pushes st.cell st.value) (sym x.does ∙ st.made) in
      record { store = b; issued = i; runs = x; thread = sym f.0 ∙ sym z.0; act = z.1 ∙ ap (λ d. Pushes d st.value) f.1 ∙ ap (Pushes c) f.2; before = i.before }

  -- ---- the spot of a step

  abbrev pub spot_at : ℕ → ℕ → Spot
  spot_at n t = record { thread = t; index = (frame_of (after_all (initial p) (take n k.events)) t).place }

  abbrev pub executes : (n t : ℕ) (a : Act) → slice_get k.events n ≡ Some (Does t a) → Executes p k.events n (spot_at n t)
  executes n t a e = record { act = a; does = e; place = refl }

  abbrev pub Seen : ℕ → Spot → Type 0
  Seen n s = IsOf (layout_of m bound p) p k.events n s

  pub site_of_run : (n t : ℕ) (a : Act) → slice_get k.events n ≡ Some (Does t a) → is_visible a ≡ true → Seen n (spot_at n t)
  site_of_run n t a e h = record { shows = inl (executes n t a e); is = is_site_at m bound p source.valid k.entries k.events k.happen n (spot_at n t) (executes n t a e) h }

  pub site_of_flush : (n t c : ℕ) (v : ℤ) → slice_get k.events n ≡ Some (Flushes t c v) → (s : Spot) × Seen n s
  site_of_flush n t c v e =
      let f = store_of m bound p k n t c v (below m bound p k [] n (Flushes t c v) e) (what_is m bound p k [] n (Flushes t c v) e) in
      let l : n < k.walk.size = below m bound p k [] n (Flushes t c v) e in
      let b : f.store < n = f.before in
      let made : slice_get k.events f.store ≡ Some (Does t (Pushes f.cell f.value)) = k.each f.store (omega (arith, l, b)) ∙ ap Some f.made in
      (spot_at f.store t, record { shows = inr (f.store, f.issued, executes f.store t (Pushes f.cell f.value) made); is = (site_of_run f.store t (Pushes f.cell f.value) made refl).is })

  -- a step is of a site, or it is an instruction that no other thread sees
  abbrev pub Plain : ℕ → Type 0
  Plain n = (t : ℕ) × (a : Act) × (slice_get k.events n ≡ Some (Does t a)) × (is_visible a ≡ false)

  pub classified : (n : ℕ) (v : Event) → slice_get k.events n ≡ Some v → ((s : Spot) × Seen n s) ⊎ Plain n
  classified n (Flushes t c v) e = inl (site_of_flush n t c v e)
  classified n (Does t a) e = go (is_visible a) refl
    where
      go : (b : Bool) → is_visible a ≡ b → ((s : Spot) × Seen n s) ⊎ Plain n
      go true h = inl (spot_at n t, site_of_run n t a e h)
      go false h = inr (t, a, e, h)

  pub plain_unseen : (n : ℕ) (s : Spot) → Plain n → Seen n s → ⊥
  plain_unseen n s (t, a, e, h) seen =
      let r = run_of_spot n t a s e seen.shows in
      no_site_at m bound p source.valid k.entries k.events k.happen n s r.runs (ap is_visible r.act ∙ h) seen.is

  -- ---- the ways of control to a step

  -- the thread executes the spot's instruction before the step
  pub record Behind (s : Spot) (n : ℕ) : Type 0 where
    pub from : ℕ
    pub runs : Executes p k.events from s
    pub act : Act
    pub does : slice_get k.events n ≡ Some (Does s.thread act)
    pub before : from < n

  -- the spot's instruction starts the step's thread
  pub record Started (s : Spot) (n : ℕ) : Type 0 where
    pub from : ℕ
    pub runs : Executes p k.events from s
    pub thread : ℕ
    pub starts : runs.act ≡ Starts thread
    pub act : Act
    pub does : slice_get k.events n ≡ Some (Does thread act)
    pub before : from < n

  abbrev pub Into : Spot → ℕ → Type 0
  Into s n = Behind s n ⊎ Started s n

  pub po_edge : (a b : ℕ) (s t : Spot) → Executes p k.events a s → Executes p k.events b t → s.thread ≡ t.thread → a < b → Edge p s t
  po_edge a b s t x y same l = inl (ordered m bound p k.entries run source.valid a b s t x y same l)

  -- where the step is of a site, an edge leads to that
  pub arrives : (s t : Spot) (n : ℕ) → Into s n → Seen n t → Edge p s t
  arrives s t n (inl b) seen =
      let r = run_of_spot n s.thread b.act t b.does seen.shows in
      po_edge b.from n s t b.runs r.runs r.thread b.before
  arrives s t n (inr b) seen =
      let r = run_of_spot n b.thread b.act t b.does seen.shows in
      let i = instr_of b.from s b.runs in
      inr (inr (start (i.at ∙ ap Some (subst (Suits i.it) b.starts i.suits ∙ ap Start r.thread))))
