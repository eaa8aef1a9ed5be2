-- All edges, with those behind a store of a thread's own.
use Rattle.std.proofs.Common.{arith, ◌≡◌, ℕ, zero, suc, ◌+◌, ◌<◌, ◌≤◌, ◌↔◌, ◌⊎◌, inl, inr, true, false, if◌then◌else◌, List, [], ◌∷◌, ◌++◌, length, take, Option, Some, None, refl, sym, ◌∙◌, ap, subst, slice_get, option_and_then}
use Rattle.std.specs.Prelude.{Contains, option_map, option_to_list}
use Rattle.std.proofs.lemmas.Bool.{cases_order}
use Rattle.std.proofs.lemmas.Option.{slice_get_within}
use Rattle.std.proofs.lemmas.List.Elements.{Contains-append_left, Contains-append_right, Contains-append_cases}
use Rattle.mm_sched.specs.declared.entry.Event.{Event}
use Rattle.mm_runkeys.specs.declared.keys.Layout.{Layout}
use Rattle.mm_runkeys.specs.declared.graph.EdgeKind.{EdgeKind}
use Rattle.mm_runkeys.specs.declared.graph.EdgeKind.TheVariants.{Issue, Coherence, FromRead}
use Rattle.mm_runkeys.specs.declared.graph.RunEdge.{RunEdge}
use Rattle.mm_runkeys.specs.Spans.{Key, at, is_key, times}
use Rattle.mm_runkeys.specs.Keys.{pops, reads_own}
use Rattle.mm_runkeys.specs.reading.Tables.{edge}
use Rattle.mm_runkeys.specs.reading.Marks.{Marks}
use Rattle.mm_rungraph.specs.Edges.{by, IsNth, IsIssued, IsCoherent, IsOverwritten, IsEdge}
use Rattle.mm_runkeys.specs.reading.Behind.{got, AreNext, behind, behind_one}
use Rattle.mm_rungraph.proofs.Spanning.{is_key_at}
use Rattle.mm_rungraph.proofs.Nths.{within, times_cons}
use Rattle.mm_runkeys.proofs.Links.{front, empty}
use Rattle.mm_rungraph.proofs.Exact.{IsDirect, IsGraph}

-- ---- a store reaches memory once, and one write is next

some_same : (p q : ℕ) → Some p ≡ Some q → p ≡ q
some_same p q h = cc

pub times_up : (key : Event → Option ℕ) (es : List Event) (x a b : ℕ) → by key es a ≡ Some x → a < b → b ≤ length es → times key x (take a es) < times key x (take b es)
times_up key [] x a b h l m = absurd (omega arith)
times_up key (d ∷ es) x a zero h l m = absurd (omega arith)
times_up key (d ∷ es) x zero (suc b) h l m = let k : (if is_key x (key d) then 1 else 0) ≡ suc zero = ap (λ z. if z then 1 else 0) (is_key_at x (key d) h) in let t : times key x (d ∷ take b es) ≡ (if is_key x (key d) then 1 else 0) + times key x (take b es) = times_cons key x d (take b es) in let z : times key x [] ≡ 0 = refl in subst (λ n. n < times key x (d ∷ take b es)) (sym z) (subst (λ n. 0 < n) (sym t) (omega (arith, k)))
times_up key (d ∷ es) x (suc a) (suc b) h l m =
    let ih = times_up key es x a b h (omega arith) (omega arith) in
    let t : times key x (d ∷ take b es) ≡ (if is_key x (key d) then 1 else 0) + times key x (take b es) = times_cons key x d (take b es) in
    let u : times key x (d ∷ take a es) ≡ (if is_key x (key d) then 1 else 0) + times key x (take a es) = times_cons key x d (take a es) in
    subst (λ n. n < times key x (d ∷ take b es)) (sym u) (subst (λ n. (if is_key x (key d) then 1 else 0) + times key x (take a es) < n) (sym t) (omega (arith, ih)))

nth_once : (key : Event → Option ℕ) (es : List Event) (x i a b : ℕ) → IsNth key es x i a → IsNth key es x i b → a ≡ b
nth_once key es x i a b p q = go (cases_order a b)
  where
    go : (a ≡ b) ⊎ ((a < b) ⊎ (b < a)) → a ≡ b
    go (inl e) = e
    go (inr (inl l)) = absurd (let m : b < length es = within key es x b q.is in let u = times_up key es x a b p.is l (omega arith) in omega (arith, u, p.nth, q.nth))
    go (inr (inr l)) = absurd (let m : a < length es = within key es x a p.is in let u = times_up key es x b a q.is l (omega arith) in omega (arith, u, p.nth, q.nth))

issued_once : (s : Layout) (es : List Event) (a f g : ℕ) → IsIssued s es a f → IsIssued s es a g → f ≡ g
issued_once s es a f g p q =
    let queue : p.queue ≡ q.queue = some_same p.queue q.queue (sym p.made.is ∙ q.made.is) in
    let nth : p.nth ≡ q.nth = sym p.made.nth ∙ ap (λ y. times _ y (take a es)) queue ∙ q.made.nth in
    nth_once (pops s) es q.queue q.nth f g (subst (λ j. IsNth (pops s) es q.queue j f) nth (subst (λ y. IsNth (pops s) es y p.nth f) queue p.flushed)) q.flushed

coherent_once : (es : List Event) (a b c : ℕ) → IsCoherent es a b → IsCoherent es a c → b ≡ c
coherent_once es a b c p q = go (cases_order b c)
  where
    same : p.key ≡ q.key
    same = some_same p.key q.key (sym p.from ∙ q.from)

    go : (b ≡ c) ⊎ ((b < c) ⊎ (c < b)) → b ≡ c
    go (inl e) = e
    go (inr (inl l)) = absurd (q.none b p.before l (p.to ∙ ap Some same))
    go (inr (inr l)) = absurd (p.none c q.before l (q.to ∙ ap Some (sym same)))

-- ---- what stands behind the loads

-- the edge leads from a load that took the store to what next overwrites the cell behind the store's flush
pub record IsBehind (fs ns : List (Option ℕ)) (ts : List RunEdge) (d : RunEdge) : Type 0 where
  pub store : ℕ
  pub flush : ℕ
  pub kind : d.kind ≡ FromRead
  pub took : Contains ts (edge d.from FromRead store)
  pub flushes : got fs store ≡ Some flush
  pub next : got ns flush ≡ Some d.to

module _ (fs ns : List (Option ℕ)) (all : List RunEdge) (from_read : (d : RunEdge) → Contains all d → d.kind ≡ FromRead) where
  pub of_one : (t d : RunEdge) → Contains all t → Contains (behind_one fs ns t) d → IsBehind fs ns all d
  of_one t d i c = flushed (got fs t.from) refl c
    where
      last : (f : ℕ) → got fs t.from ≡ Some f → (o : Option ℕ) → got ns f ≡ o → Contains (option_to_list (option_map (λ b. edge b FromRead t.to) o)) d → IsBehind fs ns all d
      last f p None q c = absurd (empty d c)
      last f p (Some b) q c = go (front (edge b FromRead t.to) [] d c)
        where
          go : (edge b FromRead t.to ≡ d) ⊎ Contains [] d → IsBehind fs ns all d
          go (inr z) = absurd (empty d z)
          go (inl z) =
              let at : t.to ≡ d.from = ap (λ (x : RunEdge). x.from) z in
              record {
                store = t.from;
                flush = f;
                kind = sym (ap (λ (x : RunEdge). x.kind) z);
                took = subst (λ (y : ℕ). Contains all (edge y FromRead t.from)) at (subst (λ k. Contains all (edge t.to k t.from)) (from_read t i) i);
                flushes = p;
                next = q ∙ ap (λ (x : RunEdge). Some x.to) z;
              }

      flushed : (o : Option ℕ) → got fs t.from ≡ o → Contains (option_to_list (option_map (λ b. edge b FromRead t.to) (option_and_then (got ns) o))) d → IsBehind fs ns all d
      flushed None p c = absurd (empty d c)
      flushed (Some f) p c = last f p (got ns f) refl c

  pub of_behind : (ts : List RunEdge) (d : RunEdge) → ((t : RunEdge) → Contains ts t → Contains all t) → Contains (behind fs ns ts) d → IsBehind fs ns all d
  of_behind [] d sub c = absurd (empty d c)
  of_behind (t ∷ ts) d sub c = go (of_behind ts d (λ x i. sub x (tail x i))) (Contains-append_cases (behind_one fs ns t) (behind fs ns ts) d c)
    where
      tail : (x : RunEdge) → Contains ts x → Contains (t ∷ ts) x
      tail x (k, l, e) = (suc k, omega arith, e)

      go : (Contains (behind fs ns ts) d → IsBehind fs ns all d) → Contains (behind_one fs ns t) d ⊎ Contains (behind fs ns ts) d → IsBehind fs ns all d
      go ih (inl z) = of_one t d (sub t (0, omega arith, refl)) z
      go ih (inr z) = ih z

to_behind : (fs ns : List (Option ℕ)) (ts : List RunEdge) (store flush a b : ℕ) → Contains ts (edge a FromRead store) → got fs store ≡ Some flush → got ns flush ≡ Some b → Contains (behind fs ns ts) (edge b FromRead a)
to_behind fs ns [] store flush a b c p q = absurd (empty (edge a FromRead store) c)
to_behind fs ns (t ∷ ts) store flush a b c p q = go (λ z. to_behind fs ns ts store flush a b z p q) (front t ts (edge a FromRead store) c)
  where
    go : (Contains ts (edge a FromRead store) → Contains (behind fs ns ts) (edge b FromRead a)) → (t ≡ edge a FromRead store) ⊎ Contains ts (edge a FromRead store) → Contains (behind fs ns (t ∷ ts)) (edge b FromRead a)
    go ih (inr z) = Contains-append_right (behind_one fs ns t) (behind fs ns ts) (edge b FromRead a) (ih z)
    go ih (inl z) = Contains-append_left (behind_one fs ns t) (behind fs ns ts) (edge b FromRead a) (rw z (rw p (rw q (0, omega arith, refl))))

-- ---- the whole

-- the edges are those of the steps
abbrev pub AreEdges : Layout → List Event → List RunEdge → Type 0
AreEdges s es edges = (k : EdgeKind) (a b : ℕ) → Contains edges (edge b k a) ↔ ((b < length es) × IsEdge s es k a b)

pub at_within : (key : Key) (es : List Event) (a x : ℕ) → at key es a ≡ Some x → a < length es
at_within key es a x h = go (slice_get es a) refl h
  where
    go : (o : Option Event) → slice_get es a ≡ o → option_and_then (λ e. key (take a es) e) o ≡ Some x → a < length es
    go None d k = cc
    go (Some e) d k = slice_get_within es a e d

direct_is : (s : Layout) (es : List Event) (k : EdgeKind) (a b : ℕ) → IsDirect s es k a b → IsEdge s es k a b
direct_is s es FromRead a b d = inl d
direct_is s es k a b d = d

is_direct : (s : Layout) (es : List Event) (k : EdgeKind) (a b : ℕ) → IsEdge s es k a b → IsDirect s es k a b ⊎ ((k ≡ FromRead) × IsOverwritten s es a b)
is_direct s es FromRead a b (inl d) = inl d
is_direct s es FromRead a b (inr d) = inr (refl, d)
is_direct s es k a b d = inl d

pub whole : (s : Layout) (es : List Event) (g : Marks) (n : ℕ) (fs ns : List (Option ℕ)) → IsGraph s es g → n ≡ length es → ((d : RunEdge) → Contains g.taken d → d.kind ≡ FromRead) → AreNext g.edges true n fs → AreNext g.edges false n ns → AreEdges s es (g.edges ++ behind fs ns g.taken)
whole s es g n fs ns graph all kinds flushes nexts k a b = (λ c. on (Contains-append_cases g.edges (behind fs ns g.taken) (edge b k a) c), λ z. back z.0 (is_direct s es k a b z.1))
  where
    own : IsBehind fs ns g.taken (edge b k a) → (b < length es) × IsEdge s es k a b
    own h =
        let took = (graph.taken h.store a).0 h.took in
        let issue = (graph.edges Issue h.store h.flush).0 (flushes.sound h.store h.flush h.flushes) in
        let next = (graph.edges Coherence h.flush b).0 (nexts.sound h.flush b h.next) in
        let is : IsOverwritten s es a b = record { store = h.store; flush = h.flush; took = took.1; issued = issue.1; next = next.1 } in
        (next.0, subst (λ j. IsEdge s es j a b) (sym h.kind) (inr is))

    on : Contains g.edges (edge b k a) ⊎ Contains (behind fs ns g.taken) (edge b k a) → (b < length es) × IsEdge s es k a b
    on (inl c) = let z = (graph.edges k a b).0 c in (z.0, direct_is s es k a b z.1)
    on (inr c) = own (of_behind fs ns g.taken kinds g.taken (edge b k a) (λ t i. i) c)

    late : b < length es → IsOverwritten s es a b → Contains (behind fs ns g.taken) (edge b FromRead a)
    late l o =
        let took = (graph.taken o.store a).1 (at_within (reads_own s) es a o.took.key o.took.to, o.took) in
        let m : o.flush < length es = (let h = o.next.before in omega arith) in
        let f = flushes.there o.store o.flush (let h = o.issued.before in omega (arith, all, m, h)) ((graph.edges Issue o.store o.flush).1 (m, o.issued)) in
        let f_is : f.0 ≡ o.flush = issued_once s es o.store f.0 o.flush ((graph.edges Issue o.store f.0).0 (flushes.sound o.store f.0 f.1)).1 o.issued in
        let c = nexts.there o.flush b (omega (arith, all, m)) ((graph.edges Coherence o.flush b).1 (l, o.next)) in
        let c_is : c.0 ≡ b = coherent_once es o.flush c.0 b ((graph.edges Coherence o.flush c.0).0 (nexts.sound o.flush c.0 c.1)).1 o.next in
        to_behind fs ns g.taken o.store o.flush a b took (f.1 ∙ ap Some f_is) (c.1 ∙ ap Some c_is)

    back : b < length es → IsDirect s es k a b ⊎ ((k ≡ FromRead) × IsOverwritten s es a b) → Contains (g.edges ++ behind fs ns g.taken) (edge b k a)
    back l (inl d) = Contains-append_left g.edges (behind fs ns g.taken) (edge b k a) ((graph.edges k a b).1 (l, d))
    back l (inr d) = Contains-append_right g.edges (behind fs ns g.taken) (edge b k a) (subst (λ j. Contains (behind fs ns g.taken) (edge b j a)) (sym d.0) (late l d.1))
