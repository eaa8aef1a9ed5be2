-- Edges that a run's steps decide by keys: a step leaves a mark under a key, such as a thread or a cell; a later one erases
-- the marks under a key; and an edge leads from each mark that is there to the step that asks for the key.
use Rattle.std.specs.Prelude.{◌≡◌, ◌≢◌, ℕ, ◌<◌, ◌==◌, Bool, false, List, count_by, slice_get, take, Option, Some, None, option_and_then}
use Rattle.mm_sched.specs.declared.entry.Event.{Event}

-- a is marked with a key, b asks for it, and no step between them erases it
pub record Span (marked erased asked : ℕ → Option ℕ) (a b : ℕ) : Type 0 where
  pub key : ℕ
  pub before : a < b
  pub from : marked a ≡ Some key
  pub to : asked b ≡ Some key
  pub none : (k : ℕ) → a < k → k < b → erased k ≢ Some key

-- b is the next that asks for the key of a
abbrev pub Next : (marked asked : ℕ → Option ℕ) → ℕ → ℕ → Type 0
Next marked asked = Span marked asked asked

-- a is the last that is marked with the key that b asks for
abbrev pub Last : (marked asked : ℕ → Option ℕ) → ℕ → ℕ → Type 0
Last marked asked = Span marked marked asked

-- a key of an event behind the events of a list
abbrev pub Key : Type 0
Key = List Event → Event → Option ℕ

-- a key that does not depend on what was before
abbrev pub always : (Event → Option ℕ) → Key
always key before e = key e

-- the key of the event that the list has at k
abbrev pub at : Key → List Event → ℕ → Option ℕ
at key es k = option_and_then (λ e. key (take k es) e) (slice_get es k)

-- the key is x
abbrev pub is_key : ℕ → Option ℕ → Bool
is_key x (Some y) = y == x
is_key x None = false

-- how many events of the list have the key x
abbrev pub times : (Event → Option ℕ) → ℕ → List Event → ℕ
times key x = count_by (λ e. is_key x (key e))
