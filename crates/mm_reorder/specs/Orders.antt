-- Orders of the nodes of a run graph, and the run of the partial machine that each of them is.
use Rattle.std.specs.Prelude.{◌≡◌, ◌↔◌, ℕ, Bool, ◌<◌, List, [], ◌∷◌, ◌++◌, length, slice_get, Some, Contains}
use Rattle.mm_goto.specs.Listing.{Listing}
use Rattle.mm_sched.specs.declared.entry.Act.TheVariants.{Fails, Puts}
use Rattle.mm_sched.specs.declared.entry.Entry.{Entry}
use Rattle.mm_sched.specs.declared.entry.Event.{Event}
use Rattle.mm_sched.specs.declared.entry.Event.TheVariants.{Does}
use Rattle.mm_runkeys.specs.declared.graph.RunEdge.{RunEdge}
use Rattle.mm_rungraph.specs.declared.graph.RunGraph.{RunGraph}
use Rattle.mm_runkeys.specs.declared.keys.Layout.{Layout}
use Rattle.mm_rungraph.specs.Edges.{IsIssued}
use Rattle.mm_rungraph.specs.RunGraph.{Once}
use Rattle.mm_reorder.specs.AddedEdges.{IsDirect, IsAdded}

-- wherever the two stand in the order, a stands before b
abbrev pub Precedes : List ℕ → ℕ → ℕ → Type 0
Precedes order a b = (i j : ℕ) → slice_get order i ≡ Some a → slice_get order j ≡ Some b → i < j

-- the order has each node of the graph once, and keeps the graph's edges and those that the set adds; es is what happens in
-- the run
pub record KeepsEdges (s : Layout) (p : Listing) (set : List (List Bool)) (g : RunGraph) (es : List Event) (order : List ℕ) : Type 0 where
  pub nodes : (k : ℕ) → Contains order k ↔ (k < length g.nodes)
  pub once : Once order
  pub edges : (e : RunEdge) → Contains g.edges e → Precedes order e.from e.to
  pub added : (a b : ℕ) → IsAdded s p set es a b → Precedes order a b

-- a step of a run: its entry, and what happens by it
abbrev pub Taken : Type 0
Taken = Entry × Event

-- what node k is in the partial machine: nothing where it is a direct store, which is one step with its flush; there the
-- store's entry, by which the store writes memory; each other node is as it was
pub data Stands (s : Layout) (p : Listing) (set : List (List Bool)) (g : RunGraph) (es : List Event) (k : ℕ) : List Taken → Type 0 where
  moved : IsDirect p set es k → Stands s p set g es k []
  at_once : (store : ℕ) (direct : IsDirect p set es store)
      → IsIssued s es store k
      → (e : Entry)
      → slice_get g.entries store ≡ Some e
      → Stands s p set g es k ((e, Does direct.thread (Puts direct.cell direct.value)) ∷ [])
  kept : (IsDirect p set es k → ⊥)
      → ((store : ℕ) → IsDirect p set es store → IsIssued s es store k → ⊥)
      → (e : Entry) (v : Event)
      → slice_get g.entries k ≡ Some e
      → slice_get es k ≡ Some v
      → Stands s p set g es k ((e, v) ∷ [])

-- what the nodes of a list are, one after another
abbrev pub AreSteps : Layout → Listing → List (List Bool) → RunGraph → List Event → List ℕ → List Taken → Type 0
AreSteps s p set g es [] steps = steps ≡ []
AreSteps s p set g es (k ∷ ks) steps = (here : List Taken) × (rest : List Taken) × (steps ≡ here ++ rest) × Stands s p set g es k here × AreSteps s p set g es ks rest

-- what is left of the order: the steps up to and with the assertion that fails
pub record IsReduced (s : Layout) (p : Listing) (set : List (List Bool)) (g : RunGraph) (es : List Event) (order : List ℕ) (steps : List Taken) : Type 0 where
  pub before : List ℕ
  pub fail : ℕ
  pub behind : List ℕ
  pub parts : order ≡ before ++ fail ∷ behind
  pub thread : ℕ
  pub fails : slice_get es fail ≡ Some (Does thread (Fails g.verdict))
  pub are : AreSteps s p set g es (before ++ fail ∷ []) steps
