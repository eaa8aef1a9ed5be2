-- What is known behind each step is exact.
use Rattle.std.proofs.Common.{arith, ◌≡◌, ℕ, suc, ◌+◌, ◌<◌, ◌↔◌, ◌⊎◌, inl, inr, Bool, true, false, ◌==◌, nat_lt, List, [], ◌∷◌, ◌++◌, length, Option, Some, None, refl, sym, ◌∙◌, ap, ap₂, subst}
use Rattle.std.specs.Prelude.{Contains}
use Rattle.std.proofs.lemmas.Bool.{cases_eq}
use Rattle.mm_goto.specs.Bounds.{bound_of}
use Rattle.mm_sched.specs.declared.entry.Event.{Event}
use Rattle.mm_sched.specs.declared.entry.Event.TheVariants.{Does, Flushes}
use Rattle.mm_runkeys.specs.declared.graph.EdgeKind.{EdgeKind}
use Rattle.mm_runkeys.specs.declared.graph.EdgeKind.TheVariants.{Program, Issue, Fifo, Reads, Coherence, FromRead, Drain, Mutex, Start, Join, Room}
use Rattle.mm_runkeys.specs.Spans.{Span, Key, at, always}
use Rattle.mm_runkeys.specs.declared.keys.Layout.{Layout}
use Rattle.mm_runkeys.specs.Keys.{deed, runs, drains, flushes, settles, starts, joins, joins_by, is_new, joins_first, takes, gives, pushes, pops, makes, ends_up, loads, is_pending, is_own, writes, reads, reads_by, only_reads, own_by, reads_own}
use Rattle.mm_runkeys.specs.reading.Tables.{asked_row, edge, linked}
use Rattle.mm_runkeys.specs.reading.Marks.{Marks, has_pending, owns, is_first_join, found, all_kinds, links, marked, marked_at, Below, InRange}
use Rattle.mm_rungraph.specs.Edges.{by, IsIssued, IsRoomFor, IsEdge}
use Rattle.mm_rungraph.proofs.Spanning.{AreOpen, open_step, ends_here, at_old, more}
use Rattle.mm_rungraph.proofs.Nths.{AreNths, nths_step, nth_old, nth_back}
use Rattle.mm_rungraph.proofs.Ends.{if_below, issue_here, room_here}
use Rattle.mm_runkeys.proofs.Links.{linked_old, linked_new, of_linked, each_kind}

-- an edge that is found on the way: all but those behind a store of the reading thread's own
abbrev pub IsDirect : Layout → List Event → EdgeKind → ℕ → ℕ → Type 0
IsDirect s es FromRead a b = Span (at (only_reads s) es) (by writes es) (by writes es) a b
IsDirect s es k a b = IsEdge s es k a b

-- b takes the pending store of its thread that is made at a
abbrev pub IsTaken : Layout → List Event → ℕ → ℕ → Type 0
IsTaken s es a b = Span (by (makes s) es) (by (makes s) es) (at (reads_own s) es) a b

-- the marks are those of the events
pub record IsGraph (s : Layout) (es : List Event) (g : Marks) : Type 0 where
  pub count : g.count ≡ length es
  pub ran : AreOpen (always runs) (always runs) es g.ran
  pub left : AreOpen (always (pops s)) (always (pops s)) es g.left
  pub written : AreOpen (always writes) (always writes) es g.written
  pub read : AreOpen (only_reads s) (always writes) es g.read
  pub flushed : AreOpen (always flushes) (always drains) es g.flushed
  pub settled : AreOpen (always settles) (always drains) es g.settled
  pub given : AreOpen (always gives) (always takes) es g.given
  pub started : AreOpen (always starts) (always runs) es g.started
  pub executed : AreNths runs es g.executed
  pub joined : AreNths (joins s) es g.joined
  pub pushed : AreNths (pushes s) es g.pushed
  pub popped : AreNths (pops s) es g.popped
  pub made : AreNths (makes s) es g.made
  pub ended : AreNths (ends_up s) es g.ended
  pub newest : AreOpen (always (makes s)) (always (makes s)) es g.newest
  pub taken : (a b : ℕ) → Contains g.taken (edge b FromRead a) ↔ ((b < length es) × IsTaken s es a b)
  pub edges : (k : EdgeKind) (a b : ℕ) → Contains g.edges (edge b k a) ↔ ((b < length es) × IsDirect s es k a b)

-- ---- keys that the code computes from the marks

pub reads_within : (n : ℕ) (b : Bool) (e : Event) → Below n (reads_by false e) → (x : ℕ) → reads_by b e ≡ Some x → x < n
reads_within n true (Does t a) h x d = cc
reads_within n false (Does t a) h x d = if_below n (deed a).reads h x d
reads_within n b (Flushes t c v) h x d = cc

pub own_within : (s : Layout) (n : ℕ) (b : Bool) (e : Event) → Below n (loads s e) → (x : ℕ) → own_by s b e ≡ Some x → x < n
own_within s n false e h x d = cc
own_within s n true e h x d = if_below n (loads s e) h x d

pub joins_within : (n : ℕ) (b : Bool) (e : Event) → Below n (joins_by true e) → (x : ℕ) → joins_by b e ≡ Some x → x < n
joins_within n false (Does t a) h x d = cc
joins_within n true (Does t a) h x d = if_below n (deed a).joins h x d
joins_within n b (Flushes t c v) h x d = cc

module _ (s : Layout) (es : List Event) (g : Marks) (graph : IsGraph s es g) where
  pending_is : (o : Option ℕ) → Below (length g.ended) o → Below (length g.made) o → has_pending g o ≡ is_pending s o es
  pending_is None l m = refl
  pending_is (Some x) l m = ap₂ nat_lt (graph.ended.count x l) (graph.made.count x m)

  owns_is : (e : Event) → InRange s g e → owns s g e ≡ is_own s es e
  owns_is e r = pending_is (loads s e) r.in_ended_loads r.in_made_loads

  new_is : (o : Option ℕ) → Below (length g.joined) o → (length (asked_row g.joined o) == 0) ≡ is_new (joins s) o es
  new_is None l = refl
  new_is (Some x) l = ap (λ n. n == 0) (graph.joined.count x l)

  first_is : (e : Event) → InRange s g e → joins_by (is_first_join s g e) e ≡ joins_first s es e
  first_is e r = ap (λ b. joins_by b e) (new_is (joins s e) r.in_joined)

-- ---- edges to earlier steps are what they were

module _ (es : List Event) (e : Event) where
  abbrev es' : List Event
  es' = es ++ e ∷ []

  abbrev SpanOf : List Event → Key → Key → Key → ℕ → ℕ → Type 0
  SpanOf es m d q = Span (at m es) (at d es) (at q es)

  span_local : (m d q : Key) (a b : ℕ) → b < length es → SpanOf es' m d q a b ↔ SpanOf es m d q a b
  span_local m d q a b l = (
    λ z. record {
      key = z.key;
      before = z.before;
      from = sym (at_old m es (e ∷ []) a (let h = z.before in omega arith)) ∙ z.from;
      to = sym (at_old q es (e ∷ []) b l) ∙ z.to;
      none = λ k i j h. z.none k i j (at_old d es (e ∷ []) k (omega arith) ∙ h);
    },
    λ z. record {
      key = z.key;
      before = z.before;
      from = at_old m es (e ∷ []) a (let h = z.before in omega arith) ∙ z.from;
      to = at_old q es (e ∷ []) b l ∙ z.to;
      none = λ k i j h. z.none k i j (sym (at_old d es (e ∷ []) k (omega arith)) ∙ h);
    },
  )

  pub issued_local : (s : Layout) (a b : ℕ) → b < length es → IsIssued s es' a b ↔ IsIssued s es a b
  issued_local s a b l = (
    λ i. record { queue = i.queue; nth = i.nth; before = i.before; made = nth_back (pushes s) es e i.queue i.nth a (let h = i.before in omega arith) i.made; flushed = nth_back (pops s) es e i.queue i.nth b l i.flushed },
    λ i. record { queue = i.queue; nth = i.nth; before = i.before; made = nth_old (pushes s) es e i.queue i.nth a (let h = i.before in omega arith) i.made; flushed = nth_old (pops s) es e i.queue i.nth b l i.flushed },
  )

  room_local : (s : Layout) (a b : ℕ) → b < length es → IsRoomFor s es' a b ↔ IsRoomFor s es a b
  room_local s a b l = (
    λ i. record { thread = i.thread; queue = i.queue; nth = i.nth; before = i.before; runs_it = sym (at_old (always runs) es (e ∷ []) b l) ∙ i.runs_it; flushed = nth_back (pops s) es e i.queue i.nth a (let h = i.before in omega arith) i.flushed; made = nth_back (pushes s) es e i.queue (i.nth + bound_of s.bound i.thread) b l i.made },
    λ i. record { thread = i.thread; queue = i.queue; nth = i.nth; before = i.before; runs_it = at_old (always runs) es (e ∷ []) b l ∙ i.runs_it; flushed = nth_old (pops s) es e i.queue i.nth a (let h = i.before in omega arith) i.flushed; made = nth_old (pushes s) es e i.queue (i.nth + bound_of s.bound i.thread) b l i.made },
  )

  local : (s : Layout) (k : EdgeKind) (a b : ℕ) → b < length es → IsDirect s es' k a b ↔ IsDirect s es k a b
  local s Program a b l = span_local (always runs) (always runs) (always runs) a b l
  local s Issue a b l = issued_local s a b l
  local s Fifo a b l = span_local (always (pops s)) (always (pops s)) (always (pops s)) a b l
  local s Reads a b l = span_local (always writes) (always writes) (reads s) a b l
  local s Coherence a b l = span_local (always writes) (always writes) (always writes) a b l
  local s FromRead a b l = span_local (only_reads s) (always writes) (always writes) a b l
  local s Drain a b l = span_local (always flushes) (always drains) (always drains) a b l
  local s Mutex a b l = span_local (always gives) (always takes) (always takes) a b l
  local s Start a b l = span_local (always starts) (always runs) (always runs) a b l
  local s Join a b l = span_local (always settles) (always drains) (joins_first s) a b l
  local s Room a b l = room_local s a b l

-- ---- one step

module _ (s : Layout) (es : List Event) (g : Marks) (graph : IsGraph s es g) (e : Event) (r : InRange s g e) where
  -- the edges that end at the step
  here : (k : EdgeKind) (a : ℕ) → Contains (found s g e k) a ↔ IsDirect s (es ++ e ∷ []) k a (length es)
  here Program a = ends_here (always runs) (always runs) es e g.ran graph.ran (always runs) a (if_below (length g.ran) (runs e) r.in_ran)
  here Issue a = issue_here s es e g graph.pushed graph.popped r.in_pushed_pops r.in_popped a
  here Fifo a = ends_here (always (pops s)) (always (pops s)) es e g.left graph.left (always (pops s)) a (if_below (length g.left) (pops s e) r.in_left)
  here Reads a = rw (owns_is s es g graph e r) (ends_here (always writes) (always writes) es e g.written graph.written (reads s) a (reads_within (length g.written) (is_own s es e) e r.in_reads))
  here Coherence a = ends_here (always writes) (always writes) es e g.written graph.written (always writes) a (if_below (length g.written) (writes e) r.in_written)
  here FromRead a = ends_here (only_reads s) (always writes) es e g.read graph.read (always writes) a (if_below (length g.read) (writes e) r.in_overwritten)
  here Drain a = ends_here (always flushes) (always drains) es e g.flushed graph.flushed (always drains) a (if_below (length g.flushed) (drains e) r.in_drains)
  here Mutex a = ends_here (always gives) (always takes) es e g.given graph.given (always takes) a (if_below (length g.given) (takes e) r.in_takes)
  here Start a = ends_here (always starts) (always runs) es e g.started graph.started (always runs) a (if_below (length g.started) (runs e) r.in_started)
  here Join a = rw (first_is s es g graph e r) (ends_here (always settles) (always drains) es e g.settled graph.settled (joins_first s) a (joins_within (length g.settled) (is_new (joins s) (joins s e) es) e r.in_joins))
  here Room a = room_here s es e g graph.pushed graph.popped r.in_pushed r.in_popped_pushes a

  edges_on : (k : EdgeKind) (a b : ℕ) → Contains (links all_kinds (found s g e) (length es) g.edges) (edge b k a) ↔ ((b < length (es ++ e ∷ [])) × IsDirect s (es ++ e ∷ []) k a b)
  edges_on k a b = (λ c. on (of_linked (found s g e) (length es) all_kinds g.edges (edge b k a) c), λ z. back (cases_eq b (length es)) z.0 z.1)
    where
      on : Contains g.edges (edge b k a) ⊎ ((b ≡ length es) × Contains (found s g e k) a) → (b < length (es ++ e ∷ [])) × IsDirect s (es ++ e ∷ []) k a b
      on (inl c) = let z = (graph.edges k a b).0 c in (rw (more es e) (let l = z.0 in omega arith), (local es e s k a b z.0).1 z.1)
      on (inr z) = (rw (more es e) (let l = z.0 in omega arith), subst (λ i. IsDirect s (es ++ e ∷ []) k a i) (sym z.0) ((here k a).0 z.1))

      back : (b ≡ length es) ⊎ (b ≡ length es → ⊥) → b < length (es ++ e ∷ []) → IsDirect s (es ++ e ∷ []) k a b → Contains (links all_kinds (found s g e) (length es) g.edges) (edge b k a)
      back (inl i) l d = subst (λ j. Contains (links all_kinds (found s g e) (length es) g.edges) (edge j k a)) (sym i) (linked_new (found s g e) (length es) all_kinds g.edges k a (each_kind k) ((here k a).1 (subst (λ j. IsDirect s (es ++ e ∷ []) k a j) i d)))
      back (inr n) l d = let m : b < suc (length es) = rw (more es e) at l in let p : b < length es = omega arith in linked_old (found s g e) (length es) all_kinds g.edges (edge b k a) ((graph.edges k a b).1 (p, (local es e s k a b p).0 d))

  taken_here : (a : ℕ) → Contains (asked_row g.newest (own_by s (owns s g e) e)) a ↔ IsTaken s (es ++ e ∷ []) a (length es)
  taken_here a = rw (owns_is s es g graph e r) (ends_here (always (makes s)) (always (makes s)) es e g.newest graph.newest (reads_own s) a (own_within s (length g.newest) (is_own s es e) e r.in_newest_loads))

  taken_on : (a b : ℕ) → Contains (linked g.taken FromRead (asked_row g.newest (own_by s (owns s g e) e)) (length es)) (edge b FromRead a) ↔ ((b < length (es ++ e ∷ [])) × IsTaken s (es ++ e ∷ []) a b)
  taken_on a b = (λ c. on (of_linked (λ k. asked_row g.newest (own_by s (owns s g e) e)) (length es) (FromRead ∷ []) g.taken (edge b FromRead a) c), λ z. back (cases_eq b (length es)) z.0 z.1)
    where
      on : Contains g.taken (edge b FromRead a) ⊎ ((b ≡ length es) × Contains (asked_row g.newest (own_by s (owns s g e) e)) a) → (b < length (es ++ e ∷ [])) × IsTaken s (es ++ e ∷ []) a b
      on (inl c) = let z = (graph.taken a b).0 c in (rw (more es e) (let l = z.0 in omega arith), (span_local es e (always (makes s)) (always (makes s)) (reads_own s) a b z.0).1 z.1)
      on (inr z) = (rw (more es e) (let l = z.0 in omega arith), subst (λ i. IsTaken s (es ++ e ∷ []) a i) (sym z.0) ((taken_here a).0 z.1))

      back : (b ≡ length es) ⊎ (b ≡ length es → ⊥) → b < length (es ++ e ∷ []) → IsTaken s (es ++ e ∷ []) a b → Contains (linked g.taken FromRead (asked_row g.newest (own_by s (owns s g e) e)) (length es)) (edge b FromRead a)
      back (inl i) l d = subst (λ j. Contains (linked g.taken FromRead (asked_row g.newest (own_by s (owns s g e) e)) (length es)) (edge j FromRead a)) (sym i)
          (linked_new (λ k. asked_row g.newest (own_by s (owns s g e) e)) (length es) (FromRead ∷ []) g.taken FromRead a (0, omega arith, refl) ((taken_here a).1 (subst (λ j. IsTaken s (es ++ e ∷ []) a j) i d)))
      back (inr n) l d = let m : b < suc (length es) = rw (more es e) at l in let p : b < length es = omega arith in linked_old (λ k. asked_row g.newest (own_by s (owns s g e) e)) (length es) (FromRead ∷ []) g.taken (edge b FromRead a) ((graph.taken a b).1 (p, (span_local es e (always (makes s)) (always (makes s)) (reads_own s) a b p).0 d))

  pub graph_step : IsGraph s (es ++ e ∷ []) (marked s g e)
  graph_step = subst (λ n. IsGraph s (es ++ e ∷ []) (marked_at s g n e)) (sym graph.count) (record {
    count = sym (more es e ∙ (omega arith));
    ran = open_step (always runs) (always runs) es e g.ran graph.ran;
    left = open_step (always (pops s)) (always (pops s)) es e g.left graph.left;
    written = open_step (always writes) (always writes) es e g.written graph.written;
    read = rw (owns_is s es g graph e r) (open_step (only_reads s) (always writes) es e g.read graph.read);
    flushed = open_step (always flushes) (always drains) es e g.flushed graph.flushed;
    settled = open_step (always settles) (always drains) es e g.settled graph.settled;
    given = open_step (always gives) (always takes) es e g.given graph.given;
    started = open_step (always starts) (always runs) es e g.started graph.started;
    executed = nths_step runs es e g.executed graph.executed;
    joined = nths_step (joins s) es e g.joined graph.joined;
    pushed = nths_step (pushes s) es e g.pushed graph.pushed;
    popped = nths_step (pops s) es e g.popped graph.popped;
    made = nths_step (makes s) es e g.made graph.made;
    ended = nths_step (ends_up s) es e g.ended graph.ended;
    newest = open_step (always (makes s)) (always (makes s)) es e g.newest graph.newest;
    taken = taken_on;
    edges = edges_on;
  })
