-- Each edge stands once.
use Rattle.std.proofs.Common.{arith, ◌≡◌, ℕ, ◌-◌, ◌<◌, ◌⊎◌, inl, inr, Bool, true, false, if◌then◌else◌, List, [], ◌∷◌, ◌++◌, length, map, Option, Some, None, sym, ◌∙◌, ap, subst, nat_lt, slice_get, take, option_and_then}
use Rattle.std.specs.Prelude.{Contains, option_to_list}
use Rattle.std.proofs.lemmas.Bool.{cases_order}
use Rattle.std.proofs.lemmas.List.Elements.{Contains-append_cases}
use Rattle.mm_sched.specs.declared.entry.Event.{Event}
use Rattle.mm_sched.specs.declared.entry.Event.TheVariants.{Does, Flushes}
use Rattle.mm_runkeys.specs.declared.graph.EdgeKind.{EdgeKind}
use Rattle.mm_runkeys.specs.declared.graph.EdgeKind.TheVariants.{Program, Issue, Fifo, Reads, Coherence, FromRead, Drain, Mutex, Start, Join, Room}
use Rattle.mm_runkeys.specs.declared.graph.RunEdge.{RunEdge}
use Rattle.mm_runkeys.specs.declared.keys.Layout.{Layout}
use Rattle.mm_runkeys.specs.Spans.{at, always}
use Rattle.mm_runkeys.specs.Keys.{runs, drains, flushes, settles, starts, joins_by, takes, gives, pushes, pops, limit, makes, is_own, writes, reads_by, only_reads, only_reads_by, own_by, reads_own}
use Rattle.mm_rungraph.specs.RunGraph.{Once}
use Rattle.mm_runkeys.specs.reading.Tables.{row, asked_row, edge}
use Rattle.mm_runkeys.specs.reading.Marks.{Marks, owns, is_first_join, oldest, issued, room_for, found, marked, marked_at, InRange}
use Rattle.mm_runkeys.specs.reading.Behind.{behind, behind_one}
use Rattle.mm_rungraph.proofs.Ends.{if_below, some_same}
use Rattle.mm_runkeys.proofs.Links.{here, there, front, empty, of_map}
use Rattle.mm_rungraph.proofs.Once.{AreOnce, once_append, once_map, once_step, asked_once, option_once, all_once}
use Rattle.mm_rungraph.proofs.Exact.{IsTaken, IsDirect, IsGraph, reads_within, own_within, joins_within}
use Rattle.mm_rungraph.proofs.Whole.{IsBehind, of_one, of_behind}

-- no row and no list of the marks has anything twice
pub record AreDistinct (g : Marks) : Type 0 where
  pub ran : AreOnce g.ran
  pub left : AreOnce g.left
  pub written : AreOnce g.written
  pub read : AreOnce g.read
  pub flushed : AreOnce g.flushed
  pub settled : AreOnce g.settled
  pub given : AreOnce g.given
  pub started : AreOnce g.started
  pub newest : AreOnce g.newest
  pub edges : Once g.edges
  pub taken : Once g.taken
  pub kinds : (d : RunEdge) → Contains g.taken d → d.kind ≡ FromRead

module _ (s : Layout) (es : List Event) (g : Marks) (graph : IsGraph s es g) (once : AreDistinct g) (e : Event) (r : InRange s g e) where
  once_found : (k : EdgeKind) → Once (found s g e k)
  once_found Program = asked_once g.ran (runs e) once.ran (if_below (length g.ran) (runs e) r.in_ran)
  once_found Issue = go (pops s e)
    where
      go : (o : Option ℕ) → Once (issued g o)
      go None = tt
      go (Some q) = option_once (oldest g q)
  once_found Fifo = asked_once g.left (pops s e) once.left (if_below (length g.left) (pops s e) r.in_left)
  once_found Reads = asked_once g.written (reads_by (owns s g e) e) once.written (reads_within (length g.written) (owns s g e) e r.in_reads)
  once_found Coherence = asked_once g.written (writes e) once.written (if_below (length g.written) (writes e) r.in_written)
  once_found FromRead = asked_once g.read (writes e) once.read (if_below (length g.read) (writes e) r.in_overwritten)
  once_found Drain = asked_once g.flushed (drains e) once.flushed (if_below (length g.flushed) (drains e) r.in_drains)
  once_found Mutex = asked_once g.given (takes e) once.given (if_below (length g.given) (takes e) r.in_takes)
  once_found Start = asked_once g.started (runs e) once.started (if_below (length g.started) (runs e) r.in_started)
  once_found Join = asked_once g.settled (joins_by (is_first_join s g e) e) once.settled (joins_within (length g.settled) (is_first_join s g e) e r.in_joins)
  once_found Room = go (pushes s e)
    where
      some : (q : ℕ) (b : Bool) → Once (if b then [] else option_to_list (slice_get (row g.popped q) (length (row g.pushed q) - limit s e)))
      some q true = tt
      some q false = option_once (slice_get (row g.popped q) (length (row g.pushed q) - limit s e))

      go : (o : Option ℕ) → Once (room_for (limit s e) g o)
      go None = tt
      go (Some q) = some q (nat_lt (length (row g.pushed q)) (limit s e))

  abbrev taken_from : List ℕ
  taken_from = asked_row g.newest (own_by s (owns s g e) e)

  taken_before : (d : RunEdge) → Contains g.taken d → d.to < length es
  taken_before d c = ((graph.taken d.from d.to).0 (subst (λ k. Contains g.taken (edge d.to k d.from)) (once.kinds d c) c)).0

  pub distinct_step : AreDistinct (marked s g e)
  distinct_step = subst (λ n. AreDistinct (marked_at s g n e)) (sym graph.count) (record {
    ran = once_step (always runs) (always runs) es g.ran (runs e) (runs e) graph.ran once.ran;
    left = once_step (always (pops s)) (always (pops s)) es g.left (pops s e) (pops s e) graph.left once.left;
    written = once_step (always writes) (always writes) es g.written (writes e) (writes e) graph.written once.written;
    read = once_step (only_reads s) (always writes) es g.read (writes e) _ graph.read once.read;
    flushed = once_step (always flushes) (always drains) es g.flushed (drains e) (flushes e) graph.flushed once.flushed;
    settled = once_step (always settles) (always drains) es g.settled (drains e) (settles e) graph.settled once.settled;
    given = once_step (always gives) (always takes) es g.given (takes e) (gives e) graph.given once.given;
    started = once_step (always starts) (always runs) es g.started (runs e) (starts e) graph.started once.started;
    newest = once_step (always (makes s)) (always (makes s)) es g.newest (makes s e) (makes s e) graph.newest once.newest;
    edges = all_once (found s g e) (length es) once_found g.edges once.edges (λ d c. ((graph.edges d.kind d.from d.to).0 c).0);
    taken = once_append g.taken (map (edge (length es) FromRead) taken_from) once.taken
        (once_map (length es) FromRead taken_from (asked_once g.newest (own_by s (owns s g e) e) once.newest (own_within s (length g.newest) (owns s g e) e r.in_newest_loads)))
        (λ d i j. absurd (let l = taken_before d i in let m = (of_map (length es) FromRead taken_from d j).0 in omega (arith, l, m)));
    kinds = λ d c. kind d (Contains-append_cases g.taken (map (edge (length es) FromRead) taken_from) d c);
  })
    where
      kind : (d : RunEdge) → Contains g.taken d ⊎ Contains (map (edge (length es) FromRead) taken_from) d → d.kind ≡ FromRead
      kind d (inl c) = once.kinds d c
      kind d (inr c) = (of_map (length es) FromRead taken_from d c).1

-- ---- behind the loads

-- each load stands in the list once
abbrev pub AreOfOneLoad : List RunEdge → Type 0
AreOfOneLoad ts = (d e : RunEdge) → Contains ts d → Contains ts e → d.to ≡ e.to → d ≡ e

behind_once : (fs ns : List (Option ℕ)) (ts : List RunEdge) → ((d : RunEdge) → Contains ts d → d.kind ≡ FromRead) → AreOfOneLoad ts → Once ts → Once (behind fs ns ts)
behind_once fs ns [] kinds one o = tt
behind_once fs ns (t ∷ ts) kinds one o = once_append (behind_one fs ns t) (behind fs ns ts) (option_once _)
    (behind_once fs ns ts rest (λ d e c z. one d e (there t ts d c) (there t ts e z)) o.1)
    (λ d i j. clash d (of_one fs ns (t ∷ []) first t d (here t []) i) (of_behind fs ns ts rest ts d (λ x c. c) j))
  where
    rest : (d : RunEdge) → Contains ts d → d.kind ≡ FromRead
    rest d c = kinds d (there t ts d c)

    first : (d : RunEdge) → Contains (t ∷ []) d → d.kind ≡ FromRead
    first d c = go (front t [] d c)
      where
        go : (t ≡ d) ⊎ Contains [] d → d.kind ≡ FromRead
        go (inl i) = ap (λ (x : RunEdge). x.kind) (sym i) ∙ kinds t (here t ts)
        go (inr c) = absurd (empty d c)

    clash : (d : RunEdge) → IsBehind fs ns (t ∷ []) d → IsBehind fs ns ts d → ⊥
    clash d i j = go (front t [] (edge d.from FromRead i.store) i.took)
      where
        go : (t ≡ edge d.from FromRead i.store) ⊎ Contains [] (edge d.from FromRead i.store) → ⊥
        go (inl e) = o.0 (subst (λ x. Contains ts x) (sym (one t (edge d.from FromRead j.store) (here t ts) (there t ts (edge d.from FromRead j.store) j.took) (ap (λ (x : RunEdge). x.to) e))) j.took)
        go (inr c) = empty (edge d.from FromRead i.store) c

last_once : (s : Layout) (es : List Event) (a b c : ℕ) → IsTaken s es a c → IsTaken s es b c → a ≡ b
last_once s es a b c p q = go (cases_order a b)
  where
    same : p.key ≡ q.key
    same = some_same p.key q.key (sym p.to ∙ q.to)

    go : (a ≡ b) ⊎ ((a < b) ⊎ (b < a)) → a ≡ b
    go (inl e) = e
    go (inr (inl l)) = absurd (p.none b l q.before (q.from ∙ ap Some (sym same)))
    go (inr (inr l)) = absurd (q.none a l p.before (p.from ∙ ap Some same))

same_edge : (d e : RunEdge) → d.from ≡ e.from → d.to ≡ e.to → d.kind ≡ e.kind → d ≡ e
same_edge d e p q r = ap (edge d.to d.kind) p ∙ ap (λ n. edge n d.kind e.from) q ∙ ap (λ k. edge e.to k e.from) r

-- a load of a thread's own store reads nothing in memory
not_both : (s : Layout) (es : List Event) (a x y : ℕ) → at (reads_own s) es a ≡ Some x → at (only_reads s) es a ≡ Some y → ⊥
not_both s es a x y h k = go (slice_get es a) h k
  where
    by_own : (b : Bool) (e : Event) → own_by s b e ≡ Some x → only_reads_by b e ≡ Some y → ⊥
    by_own false e h k = cc
    by_own true (Does t a) h k = cc
    by_own true (Flushes t c v) h k = cc

    go : (o : Option Event) → option_and_then (λ e. reads_own s (take a es) e) o ≡ Some x → option_and_then (λ e. only_reads s (take a es) e) o ≡ Some y → ⊥
    go None h k = cc
    go (Some e) h k = by_own (is_own s (take a es) e) e h k

pub all_distinct : (s : Layout) (es : List Event) (g : Marks) (fs ns : List (Option ℕ)) → IsGraph s es g → AreDistinct g → Once (g.edges ++ behind fs ns g.taken)
all_distinct s es g fs ns graph once = once_append g.edges (behind fs ns g.taken) once.edges (behind_once fs ns g.taken once.kinds one once.taken) (λ d i j. clash d i (of_behind fs ns g.taken once.kinds g.taken d (λ x c. c) j))
  where
    is_taken : (d : RunEdge) → Contains g.taken d → IsTaken s es d.from d.to
    is_taken d c = ((graph.taken d.from d.to).0 (subst (λ k. Contains g.taken (edge d.to k d.from)) (once.kinds d c) c)).1

    one : AreOfOneLoad g.taken
    one d e c z i = same_edge d e (last_once s es d.from e.from e.to (subst (λ n. IsTaken s es d.from n) i (is_taken d c)) (is_taken e z)) i (once.kinds d c ∙ sym (once.kinds e z))

    clash : (d : RunEdge) → Contains g.edges d → IsBehind fs ns g.taken d → ⊥
    clash d c i =
        let direct : IsDirect s es FromRead d.from d.to = subst (λ k. IsDirect s es k d.from d.to) i.kind ((graph.edges d.kind d.from d.to).0 c).1 in
        let took : IsTaken s es i.store d.from = ((graph.taken i.store d.from).0 i.took).1 in
        not_both s es d.from took.key direct.key took.to direct.from
