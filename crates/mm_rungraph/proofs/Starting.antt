-- Before the first step nothing is known.
use Rattle.std.proofs.Common.{arith, ◌≡◌, ℕ, zero, suc, ◌*◌, ◌<◌, ◌≤◌, ◌^◌, List, [], ◌∷◌, length, map, replicate, Option, Some, None, refl, sym, ◌∙◌, ap, ap₂, subst, slice_index_or}
use Rattle.std.proofs.lemmas.List.{length-replicate}
use Rattle.std.proofs.lemmas.Nat.{mul-le}
use Rattle.mm_goto.specs.Bounds.{Bounding}
use Rattle.mm_goto.specs.declared.program.Thread.{Thread}
use Rattle.mm_goto.specs.Listing.{Listing}
use Rattle.mm_goto.specs.Valid.{IsValid}
use Rattle.mm_sched.specs.declared.entry.Event.{Event}
use Rattle.mm_sched.specs.declared.entry.Rules.{Rules}
use Rattle.mm_sched.specs.declared.entry.Rules.TheVariants.{Buffered}
use Rattle.mm_sched.specs.Invariant.{Fits, room_of}
use Rattle.mm_sched.proofs.Fitting.{initial_fits}
use Rattle.mm_sched.specs.State.{State, Pending, initial}
use Rattle.mm_sched.specs.Buffer.{part}
use Rattle.mm_goto.specs.declared.model.Model.{Model}
use Rattle.mm_goto.specs.declared.model.Model.TheVariants.{Tso, Pso}
use Rattle.mm_runkeys.specs.declared.keys.Layout.{Layout}
use Rattle.mm_runkeys.specs.Spans.{Key}
use Rattle.mm_runkeys.specs.reading.Tables.{row}
use Rattle.mm_runkeys.specs.reading.Marks.{Marks, start}
use Rattle.mm_rungraph.specs.reading.Walking.{Walking, IsSized, Goes}
use Rattle.mm_rungraph.proofs.Spanning.{AreOpen, nothing_open}
use Rattle.mm_rungraph.proofs.Nths.{AreNths, nothing_nth}
use Rattle.mm_runkeys.proofs.Links.{empty}
use Rattle.mm_rungraph.proofs.Exact.{IsGraph}
use Rattle.mm_rungraph.proofs.Naming.{AreNodes}
use Rattle.mm_rungraph.proofs.Queues.{AreQueued}
use Rattle.mm_rungraph.proofs.Once.{AreOnce}
use Rattle.mm_rungraph.proofs.Distinct.{AreDistinct}
use Rattle.mm_rungraph.proofs.Marking.{AreMarks}
use Rattle.mm_rungraph.specs.RunGraph.{Once}

pub empty_row : (n x : ℕ) → row (replicate n []) x ≡ []
empty_row zero x = refl
empty_row (suc n) zero = refl
empty_row (suc n) (suc x) = empty_row n x

all_open : (marked erased : Key) (n : ℕ) → AreOpen marked erased [] (replicate n [])
all_open marked erased n = nothing_open marked erased (replicate n []) (empty_row n)

all_nths : (key : Event → Option ℕ) (n : ℕ) → AreNths key [] (replicate n [])
all_nths key n = nothing_nth key (replicate n []) (empty_row n)

pub start_graph : (s : Layout) (mutexes : ℕ) → IsGraph s [] (start s mutexes)
start_graph s mutexes = record {
  count = refl;
  ran = all_open _ _ s.threads;
  left = all_open _ _ (s.threads * s.cells);
  written = all_open _ _ s.cells;
  read = all_open _ _ s.cells;
  flushed = all_open _ _ s.threads;
  settled = all_open _ _ s.threads;
  given = all_open _ _ mutexes;
  started = all_open _ _ s.threads;
  executed = all_nths _ s.threads;
  joined = all_nths _ (s.threads * s.threads);
  pushed = all_nths _ (s.threads * s.cells);
  popped = all_nths _ (s.threads * s.cells);
  made = all_nths _ (s.threads * s.cells);
  ended = all_nths _ (s.threads * s.cells);
  newest = all_open _ _ (s.threads * s.cells);
  taken = λ a b. (λ c. absurd (empty _ c), λ z. absurd (let l = z.0 in omega arith));
  edges = λ k a b. (λ c. absurd (empty _ c), λ z. absurd (let l = z.0 in omega arith));
}

pub start_nodes : (s : Layout) (mutexes : ℕ) → AreNodes s [] (start s mutexes).nodes
start_nodes s mutexes = record { size = refl; each = λ k n h. absurd (none_some n h) }
  where
    none_some : {A : Type 0} (x : A) → None ≡ Some x → ⊥
    none_some x h = cc

nothing_pending : (threads : List Thread) (t : ℕ) → slice_index_or (map {B = List Pending} (λ thread. []) threads) t [] ≡ []
nothing_pending [] t = refl
nothing_pending (thread ∷ threads) zero = refl
nothing_pending (thread ∷ threads) (suc t) = nothing_pending threads t

part_nothing : (m : Model) (ps : List Pending) (c : ℕ) → ps ≡ [] → part m ps c ≡ []
part_nothing Tso ps c e = e
part_nothing Pso ps c e = ap (λ qs. part Pso qs c) e

pub start_queues : (s : Layout) (p : Listing) → AreQueued s (initial p) []
unfolding initial
start_queues s p = record { each = λ t c l m. sym (part_nothing s.model (slice_index_or (map (λ thread. []) p.threads) t []) c (nothing_pending p.threads t)) }

-- ---- the tables are large enough

pub start_sized : (p : Listing) (s : Layout) → IsValid p → s.cells ≡ length p.cells → s.threads ≡ length p.threads → IsSized p s (start s (length p.mutexes))
start_sized p s valid c t = record {
  few = let h : length p.threads * length p.cells ≤ 16 * 65536 = mul-le (length p.threads) (length p.cells) 16 65536 valid.threads valid.cells in omega (arith, h);
  few_joins = let h : length p.threads * length p.threads ≤ 16 * 16 = mul-le (length p.threads) (length p.threads) 16 16 valid.threads valid.threads in omega (arith, h);
  cells = c;
  threads = t;
  ran = threads s.threads refl;
  left = queues;
  written = cells;
  read = cells;
  flushed = threads s.threads refl;
  settled = threads s.threads refl;
  given = length-replicate (length p.mutexes) [];
  started = threads s.threads refl;
  executed = threads s.threads refl;
  counted = λ x l. subst (λ xs. length xs ≤ 0) (sym (empty_row s.threads x)) (omega arith);
  joined = length-replicate (s.threads * s.threads) [] ∙ ap (λ n. n * n) t;
  pushed = queues;
  popped = queues;
  made = queues;
  ended = queues;
  newest = queues;
}
  where
    threads : (n : ℕ) → n ≡ s.threads → length {A = List ℕ} (replicate n []) ≡ length p.threads
    threads n e = length-replicate n [] ∙ e ∙ t

    cells : length {A = List ℕ} (replicate s.cells []) ≡ length p.cells
    cells = length-replicate s.cells [] ∙ c

    queues : length {A = List ℕ} (replicate (s.threads * s.cells) []) ≡ length p.threads * length p.cells
    queues = length-replicate (s.threads * s.cells) [] ∙ ap₂ (λ x y. x * y) t c

-- ---- nothing stands twice

all_once : (n : ℕ) → AreOnce (replicate n [])
all_once n x l = subst (λ xs. Once xs) (sym (empty_row n x)) tt

pub start_distinct : (s : Layout) (mutexes : ℕ) → AreDistinct (start s mutexes)
start_distinct s mutexes = record {
  ran = all_once s.threads;
  left = all_once (s.threads * s.cells);
  written = all_once s.cells;
  read = all_once s.cells;
  flushed = all_once s.threads;
  settled = all_once s.threads;
  given = all_once mutexes;
  started = all_once s.threads;
  newest = all_once (s.threads * s.cells);
  edges = tt;
  taken = tt;
  kinds = λ d c. absurd (empty d c);
}

-- the marks at the start
pub start_marks : (p : Listing) (s : Layout) (bound : Bounding) → IsValid p → s.cells ≡ length p.cells → s.threads ≡ length p.threads → AreMarks p s bound [] (initial p) (start s (length p.mutexes))
start_marks p s bound valid c t = record {
  fits = initial_fits (Buffered s.model bound) p valid;
  sized = start_sized p s valid c t;
  graph = start_graph s (length p.mutexes);
  distinct = start_distinct s (length p.mutexes);
  nodes = start_nodes s (length p.mutexes);
  queues = start_queues s p;
}

-- ---- as code makes them

few_cells : (r : Rules) (p : Listing) (st : State) → Fits r p st → (length p.threads ≤ 16) × (length p.cells ≤ 65536)
few_cells r p st f = (f.valid.threads, f.valid.cells)

pub few_queues : (r : Rules) (p : Listing) (st : State) (s : Layout) → Fits r p st → s.cells ≡ length p.cells → s.threads ≡ length p.threads → s.threads * s.cells < 2 ^ 32
few_queues r p st s f c t = let h : s.threads * s.cells ≤ 16 * 65536 = mul-le s.threads s.cells 16 65536 (rw t (few_cells r p st f).0) (rw c (few_cells r p st f).1) in omega (arith, h)

pub few_joins : (r : Rules) (p : Listing) (st : State) (s : Layout) → Fits r p st → s.threads ≡ length p.threads → s.threads * s.threads < 2 ^ 32
few_joins r p st s f t = let h : s.threads * s.threads ≤ 16 * 16 = mul-le s.threads s.threads 16 16 (rw t (few_cells r p st f).0) (rw t (few_cells r p st f).0) in omega (arith, h)

pub start_goes : (r : Rules) (p : Listing) (s : Layout) (w : Walking) → Fits r p w.state → room_of r (length p.cells) ≤ w.room → s.cells ≡ length p.cells → s.threads ≡ length p.threads → w.marks ≡ start s (length p.mutexes) → Goes r p s w
start_goes r p s w f room c t m = record { fits = f; room = room; sized = subst (λ (g : Marks). IsSized p s g) (sym m) (start_sized p s f.valid c t) }
