-- The run graph: the steps of a failing run, and what each of them waits for.
use Rattle.std.specs.Prelude.{◌≡◌, ◌↔◌, ℕ, ◌+◌, List, [], ◌∷◌, ◌++◌, length, slice_get, take, Some, None, Contains}
use Rattle.mm_goto.specs.Bounds.{Bounding}
use Rattle.mm_goto.specs.declared.model.Model.{Model}
use Rattle.mm_goto.specs.Listing.{Listing}
use Rattle.mm_sched.specs.declared.entry.Entry.{Entry}
use Rattle.mm_sched.specs.declared.entry.Event.{Event}
use Rattle.mm_sched.specs.declared.entry.Rules.{Rules}
use Rattle.mm_sched.specs.declared.entry.Rules.TheVariants.{Buffered}
use Rattle.mm_sched.specs.Event.{next}
use Rattle.mm_sched.specs.Runs.{run, Fails}
use Rattle.mm_sched.specs.State.{State, initial}
use Rattle.mm_runkeys.specs.declared.graph.EdgeKind.{EdgeKind}
use Rattle.mm_rungraph.specs.declared.graph.RunFault.{RunFault}
use Rattle.mm_rungraph.specs.declared.graph.RunFault.TheVariants.{Stuck, NotFailing, NoMemory}
use Rattle.mm_rungraph.specs.declared.graph.RunGraph.{RunGraph}
use Rattle.mm_runkeys.specs.declared.graph.RunNode.{RunNode}
use Rattle.mm_runkeys.specs.declared.graph.RunNode.TheVariants.{Run, Flush}
use Rattle.mm_runkeys.specs.declared.keys.Layout.{Layout}
use Rattle.mm_rungraph.specs.Edges.{IsNth, IsIssued, IsEdge}
use Rattle.mm_rungraph.specs.Extension.{extension}
use Rattle.mm_runkeys.specs.Keys.{runs}
use Rattle.mm_rungraph.specs.Traces.{Trace}

-- the threads, cells and queues of the program under the model
abbrev pub layout_of : Model → Bounding → Listing → Layout
layout_of m bound p = record { model = m; cells = length p.cells; threads = length p.threads; bound = bound }

-- the step k is the i-th instruction, from 0, that thread t executes, or it brings the store to memory that this instruction is
abbrev pub IsNode : Layout → List Event → ℕ → RunNode → Type 0
IsNode s es k (Run t i) = IsNth runs es t i k
IsNode s es k (Flush t i) = (a : ℕ) × IsIssued s es a k × IsNth runs es t i a

-- no item stands in the list twice
abbrev pub Once : {A : Type 0} → List A → Type 0
Once [] = Unit {0}
Once (x ∷ xs) = (Contains xs x → ⊥) × Once xs

-- the run graph of the entries, which fail: each node is a step of the run that is extended by the flushes of what is pending
-- at its end, and the edges are all that lead from one of its steps to another
pub record IsRunGraph (m : Model) (bound : Bounding) (p : Listing) (es : List Entry) (g : RunGraph) : Type 0 where
  pub fails : Fails (Buffered m bound) p g.verdict es
  pub entries : g.entries ≡ es ++ extension m fails.last
  pub trace : Trace (Buffered m bound) p g.entries
  pub size : length g.nodes ≡ length g.entries
  pub nodes : (k : ℕ) (n : RunNode) → slice_get g.nodes k ≡ Some n → IsNode (layout_of m bound p) trace.events k n
  pub edges : (kind : EdgeKind) (a b : ℕ) → Contains g.edges (record { from = a; to = b; kind = kind }) ↔ IsEdge (layout_of m bound p) trace.events kind a b
  pub once : Once g.edges

-- the entry of number k, from 1, is not enabled behind those before it
pub record IsStuckAt (r : Rules) (p : Listing) (es : List Entry) (k : ℕ) : Type 0 where
  pub before : ℕ
  pub number : k ≡ before + 1
  pub mid : State
  pub runs_to : run r p (initial p) (take before es) ≡ Some mid
  pub entry : Entry
  pub at : slice_get es before ≡ Some entry
  pub stuck : next r p mid entry ≡ None

-- all entries run, and no assertion has failed
pub record IsNotFailing (r : Rules) (p : Listing) (es : List Entry) : Type 0 where
  pub last : State
  pub runs_to : run r p (initial p) es ≡ Some last
  pub none : last.verdict ≡ None

-- why the entries have no run graph; want of memory is a cause of its own
abbrev pub IsFault : Rules → Listing → List Entry → RunFault → Type 0
IsFault r p es (Stuck k) = IsStuckAt r p es k
IsFault r p es NotFailing = IsNotFailing r p es
IsFault r p es NoMemory = Unit {0}
