-- What is known behind some steps of a run, and what one more step adds.
use Rattle.std.specs.Prelude.{ℕ, ◌+◌, ◌-◌, Bool, true, false, ◌==◌, ◌<◌, ◌≤◌, ◌^◌, ◌*◌, nat_lt, if◌then◌else◌, List, [], ◌∷◌, ◌++◌, length, slice_get, replicate, Option, Some, None, option_map, option_and_then, option_to_list, IfSome}
use Rattle.mm_sched.specs.declared.entry.Event.{Event}
use Rattle.mm_sched.specs.declared.entry.Event.TheVariants.{Does, Flushes}
use Rattle.mm_runkeys.specs.declared.graph.EdgeKind.{EdgeKind}
use Rattle.mm_runkeys.specs.declared.graph.EdgeKind.TheVariants.{Program, Issue, Fifo, Reads, Coherence, FromRead, Drain, Mutex, Start, Join, Room}
use Rattle.mm_runkeys.specs.declared.graph.RunEdge.{RunEdge}
use Rattle.mm_runkeys.specs.declared.graph.RunNode.{RunNode}
use Rattle.mm_runkeys.specs.declared.graph.RunNode.TheVariants.{Run, Flush}
use Rattle.mm_runkeys.specs.declared.keys.Layout.{Layout}
use Rattle.mm_runkeys.specs.Keys.{runs, drains, flushes, settles, starts, joins, joins_by, takes, gives, queue, pushes, pops, limit, makes, ends_up, loads, own_by, writes, reads_by, only_reads_by}
use Rattle.mm_runkeys.specs.reading.Tables.{row, asked_row, stepped, linked}

pub record Marks : Type 0 where
  pub count : ℕ
  -- the last step of each thread, each queue, each cell
  pub ran : List (List ℕ)
  pub left : List (List ℕ)
  pub written : List (List ℕ)
  -- the reads of each cell since it was written
  pub read : List (List ℕ)
  -- the flushes of each thread since it was drained, without and with its end
  pub flushed : List (List ℕ)
  pub settled : List (List ℕ)
  pub given : List (List ℕ)
  pub started : List (List ℕ)
  -- all steps: the instructions of each thread, the joins of each two threads, what joins and leaves a queue, what is made and ends up of each thread and cell
  pub executed : List (List ℕ)
  pub joined : List (List ℕ)
  pub pushed : List (List ℕ)
  pub popped : List (List ℕ)
  pub made : List (List ℕ)
  pub ended : List (List ℕ)
  -- the last store of each thread to each cell
  pub newest : List (List ℕ)
  pub nodes : List RunNode
  pub edges : List RunEdge
  -- from a store to each load of its thread that takes it while it is pending
  pub taken : List RunEdge

-- a store is pending of the thread and the cell, if there is one
abbrev pub has_pending : Marks → Option ℕ → Bool
has_pending g None = false
has_pending g (Some x) = nat_lt (length (row g.ended x)) (length (row g.made x))

-- the event loads what its own thread has pending
abbrev pub owns : Layout → Marks → Event → Bool
owns s g e = has_pending g (loads s e)

abbrev pub is_first_join : Layout → Marks → Event → Bool
is_first_join s g e = length (asked_row g.joined (joins s e)) == 0

-- the store that is the next to leave a queue
abbrev pub oldest : Marks → ℕ → Option ℕ
oldest g q = slice_get (row g.pushed q) (length (row g.popped q))

-- the store that a flush brings to memory
abbrev pub issued : Marks → Option ℕ → List ℕ
issued g None = []
issued g (Some q) = option_to_list (oldest g q)

-- the flush that makes room for a store, where so many may be pending
abbrev pub room_for : ℕ → Marks → Option ℕ → List ℕ
room_for most g None = []
room_for most g (Some q) = if nat_lt (length (row g.pushed q)) most then [] else option_to_list (slice_get (row g.popped q) (length (row g.pushed q) - most))

-- ---- nodes

-- the flush of the store
abbrev pub flush_of : RunNode → RunNode
flush_of (Run t i) = Flush t i
flush_of (Flush t i) = Flush t i

abbrev pub node_of : Layout → Marks → Event → Option RunNode
node_of s g (Does t a) = Some (Run t (length (row g.executed t)))
node_of s g (Flushes t c v) = option_map flush_of (option_and_then (λ a. slice_get g.nodes a) (oldest g (queue s t c)))

-- ---- edges

-- from where edges of the kind lead to the event
abbrev pub found : Layout → Marks → Event → EdgeKind → List ℕ
found s g e Program = asked_row g.ran (runs e)
found s g e Issue = issued g (pops s e)
found s g e Fifo = asked_row g.left (pops s e)
found s g e Reads = asked_row g.written (reads_by (owns s g e) e)
found s g e Coherence = asked_row g.written (writes e)
found s g e FromRead = asked_row g.read (writes e)
found s g e Drain = asked_row g.flushed (drains e)
found s g e Mutex = asked_row g.given (takes e)
found s g e Start = asked_row g.started (runs e)
found s g e Join = asked_row g.settled (joins_by (is_first_join s g e) e)
found s g e Room = room_for (limit s e) g (pushes s e)

abbrev pub all_kinds : List EdgeKind
all_kinds = Program ∷ Issue ∷ Fifo ∷ Reads ∷ Coherence ∷ FromRead ∷ Drain ∷ Mutex ∷ Start ∷ Join ∷ Room ∷ []

abbrev pub links : List EdgeKind → (EdgeKind → List ℕ) → ℕ → List RunEdge → List RunEdge
links [] from n edges = edges
links (k ∷ ks) from n edges = links ks from n (linked edges k (from k) n)

-- what is known behind the event too, which has the number n
abbrev pub marked_at : Layout → Marks → ℕ → Event → Marks
marked_at s g n e = record {
  count = n + 1;
  ran = stepped g.ran (runs e) (runs e) n;
  left = stepped g.left (pops s e) (pops s e) n;
  written = stepped g.written (writes e) (writes e) n;
  read = stepped g.read (writes e) (only_reads_by (owns s g e) e) n;
  flushed = stepped g.flushed (drains e) (flushes e) n;
  settled = stepped g.settled (drains e) (settles e) n;
  given = stepped g.given (takes e) (gives e) n;
  started = stepped g.started (runs e) (starts e) n;
  executed = stepped g.executed None (runs e) n;
  joined = stepped g.joined None (joins s e) n;
  pushed = stepped g.pushed None (pushes s e) n;
  popped = stepped g.popped None (pops s e) n;
  made = stepped g.made None (makes s e) n;
  ended = stepped g.ended None (ends_up s e) n;
  newest = stepped g.newest (makes s e) (makes s e) n;
  nodes = g.nodes ++ option_to_list (node_of s g e);
  edges = links all_kinds (found s g e) n g.edges;
  taken = linked g.taken FromRead (asked_row g.newest (own_by s (owns s g e) e)) n;
}

abbrev pub marked : Layout → Marks → Event → Marks
marked s g e = marked_at s g g.count e

-- the key, if there is one, is below n
abbrev pub Below : ℕ → Option ℕ → Type 0
Below n o = IfSome o (λ x. x < n)

-- the tables have the event's keys, and no thread has executed more than has happened
pub record InRange (s : Layout) (g : Marks) (e : Event) : Type 0 where
  pub in_ran : Below (length g.ran) (runs e)
  pub in_executed : Below (length g.executed) (runs e)
  pub counted : IfSome (runs e) (λ t. length (row g.executed t) ≤ g.count)
  pub in_started : Below (length g.started) (runs e)
  pub in_starts : Below (length g.started) (starts e)
  pub in_left : Below (length g.left) (pops s e)
  pub in_written : Below (length g.written) (writes e)
  pub in_reads : Below (length g.written) (reads_by false e)
  pub in_overwritten : Below (length g.read) (writes e)
  pub in_only_reads : Below (length g.read) (only_reads_by false e)
  pub in_drains : Below (length g.flushed) (drains e)
  pub in_flushes : Below (length g.flushed) (flushes e)
  pub in_settles : Below (length g.settled) (settles e)
  pub in_drains_settled : Below (length g.settled) (drains e)
  pub in_joins : Below (length g.settled) (joins_by true e)
  pub in_joined : Below (length g.joined) (joins s e)
  pub in_gives : Below (length g.given) (gives e)
  pub in_takes : Below (length g.given) (takes e)
  pub in_pushed : Below (length g.pushed) (pushes s e)
  pub in_pushed_pops : Below (length g.pushed) (pops s e)
  pub in_popped : Below (length g.popped) (pops s e)
  pub in_popped_pushes : Below (length g.popped) (pushes s e)
  pub in_made : Below (length g.made) (makes s e)
  pub in_made_loads : Below (length g.made) (loads s e)
  pub in_newest : Below (length g.newest) (makes s e)
  pub in_newest_loads : Below (length g.newest) (loads s e)
  pub in_ended : Below (length g.ended) (ends_up s e)
  pub in_ended_loads : Below (length g.ended) (loads s e)

-- the tables whose keys are made of two numbers are small enough to be numbered
pub record AreSmall (g : Marks) : Type 0 where
  pub pushed : length g.pushed < 2 ^ 32
  pub popped : length g.popped < 2 ^ 32
  pub left : length g.left < 2 ^ 32
  pub made : length g.made < 2 ^ 32
  pub ended : length g.ended < 2 ^ 32
  pub joined : length g.joined < 2 ^ 32
  pub newest : length g.newest < 2 ^ 32

-- what is known before the first step
abbrev pub start : Layout → ℕ → Marks
start s mutexes = record {
  count = 0;
  ran = replicate s.threads [];
  left = replicate (s.threads * s.cells) [];
  written = replicate s.cells [];
  read = replicate s.cells [];
  flushed = replicate s.threads [];
  settled = replicate s.threads [];
  given = replicate mutexes [];
  started = replicate s.threads [];
  executed = replicate s.threads [];
  joined = replicate (s.threads * s.threads) [];
  pushed = replicate (s.threads * s.cells) [];
  popped = replicate (s.threads * s.cells) [];
  made = replicate (s.threads * s.cells) [];
  ended = replicate (s.threads * s.cells) [];
  newest = replicate (s.threads * s.cells) [];
  nodes = [];
  edges = [];
  taken = [];
}
