-- The edges from a load of a thread's own pending store to what next overwrites that.
use Rattle.std.specs.Prelude.{◌≡◌, ℕ, ◌<◌, Bool, true, false, List, [], ◌∷◌, ◌++◌, length, slice_get, slice_set, if◌then◌else◌, Option, Some, option_and_then, option_map, option_to_list, Contains}
use Rattle.mm_runkeys.specs.declared.graph.EdgeKind.{EdgeKind}
use Rattle.mm_runkeys.specs.declared.graph.EdgeKind.TheVariants.{Issue, Coherence, FromRead}
use Rattle.mm_runkeys.specs.declared.graph.RunEdge.{RunEdge}
use Rattle.mm_runkeys.specs.declared.graph.RunNode.{RunNode}
use Rattle.mm_runkeys.specs.reading.Marks.{Marks}
use Rattle.mm_runkeys.specs.reading.Tables.{edge}

-- edges of issue or of coherence
abbrev pub kind_of : Bool → EdgeKind
kind_of true = Issue
kind_of false = Coherence

abbrev pub has_kind : Bool → EdgeKind → Bool
has_kind true Issue = true
has_kind false Coherence = true
has_kind _ _ = false

-- what the list has at a
abbrev pub got : List (Option ℕ) → ℕ → Option ℕ
got xs a = option_and_then (λ o. o) (slice_get xs a)

-- where each of n steps leads by edges of a kind
pub record AreNext (edges : List RunEdge) (issue : Bool) (n : ℕ) (xs : List (Option ℕ)) : Type 0 where
  pub size : length xs ≡ n
  pub sound : (a b : ℕ) → got xs a ≡ Some b → Contains edges (edge b (kind_of issue) a)
  pub there : (a b : ℕ) → a < n → Contains edges (edge b (kind_of issue) a) → (c : ℕ) × (got xs a ≡ Some c)

-- the list with the edge, if it is of the kind
abbrev pub noted : List (Option ℕ) → Bool → RunEdge → List (Option ℕ)
noted xs issue e = if has_kind issue e.kind then slice_set xs e.from (Some e.to) else xs

-- from a load, which its thread's own store leads to: to what overwrites the store
abbrev pub behind_one : List (Option ℕ) → List (Option ℕ) → RunEdge → List RunEdge
behind_one flushes nexts t = option_to_list (option_map (λ b. edge b FromRead t.to) (option_and_then (got nexts) (got flushes t.from)))

abbrev pub behind : List (Option ℕ) → List (Option ℕ) → List RunEdge → List RunEdge
behind flushes nexts [] = []
behind flushes nexts (t ∷ ts) = behind_one flushes nexts t ++ behind flushes nexts ts

-- the nodes and the edges that the marks give, with those behind a store of a thread's own
pub record Given (g : Marks) (nodes : List RunNode) (edges : List RunEdge) : Type 0 where
  pub flushes : List (Option ℕ)
  pub nexts : List (Option ℕ)
  pub are_flushes : AreNext g.edges true g.count flushes
  pub are_nexts : AreNext g.edges false g.count nexts
  pub nodes_are : nodes ≡ g.nodes
  pub edges_are : edges ≡ g.edges ++ behind flushes nexts g.taken
