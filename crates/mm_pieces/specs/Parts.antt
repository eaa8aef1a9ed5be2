-- Under PSO the arrays of a woven program stand for the pending stores of each thread to each cell.
use Rattle.std.specs.Prelude.{◌≡◌, ℕ, ◌+◌, ◌*◌, ◌/◌, ◌%◌, ◌^◌, ◌<◌, ◌≤◌, ℤ, pos, List, ◌∷◌, [], length, slice_get, Some}
use Rattle.mm_goto.specs.declared.model.Model.TheVariants.{Pso}
use Rattle.mm_sched.specs.State.{State, Pending, pending_of, at_cell}
use Rattle.mm_sched.specs.Buffer.{part}
use Rattle.mm_words.specs.Words.{param}
use Rattle.mm_helpers.specs.Helpers.{wm_t, wm_c, wm_v, wm_b, wm_mem, wm_len, wm_val, pso_pop, pso_put, pso_get, pso_empty, pso_set}
use Rattle.mm_flow.specs.declared.names.Spot.{Spot}
use Rattle.mm_flow.specs.Scopes.{spot_of}
use Rattle.mm_flow.specs.Statements.{Within, Function}
use Rattle.mm_meaning.specs.Meaning.{View}
use Rattle.mm_meaning.specs.Acting.{at_slot}
use Rattle.mm_pieces.specs.Mirroring.{array_at}
use Rattle.mm_pieces.specs.Calling.{body_of}
use Rattle.mm_pieces.specs.Flushing.{AllRows}

-- where the arrays are: for how many threads and cells there are rows, of how many places, and the first cells of the lengths
-- and the values
pub record PartTable : Type 0 where
  pub threads : ℕ
  pub cells : ℕ
  pub places : ℕ
  pub lens : ℕ
  pub vals : ℕ

-- how many rows there are
abbrev pub rows_of : PartTable → ℕ
rows_of t = t.threads * t.cells

-- the row of thread u and cell c
abbrev pub row_of : PartTable → (u c : ℕ) → ℕ
row_of t u c = u * t.cells + c

-- few threads, cells, rows and places
pub record AreFew (t : PartTable) : Type 0 where
  pub threads : t.threads < 2 ^ 15
  pub cells : t.cells < 2 ^ 15
  pub places : t.places < 2 ^ 15
  pub rows : t.threads * t.cells < 2 ^ 15
  pub all : t.threads * t.cells * t.places < 2 ^ 16

-- the program names the arrays so
pub record HasPartArrays (t : PartTable) (spots : List Spot) : Type 0 where
  pub lens : spot_of spots wm_len ≡ Some (array_at wm_len t.lens (t.threads * t.cells))
  pub vals : spot_of spots wm_val ≡ Some (array_at wm_val t.vals (t.threads * t.cells * t.places))

-- a list of pending stores for each thread and cell
abbrev pub Parts : Type 0
Parts = ℕ → ℕ → List Pending

-- the pending stores of thread u to cell c, the oldest first
abbrev pub parts_of : State → Parts
parts_of s u c = part Pso (pending_of s u) c

-- memory has the values of the lists, the oldest first
pub record HeldParts (t : PartTable) (memory : List ℤ) (parts : Parts) : Type 0 where
  pub fits : (u c : ℕ) → u < t.threads → c < t.cells → length (parts u c) ≤ t.places
  pub lens : (u c : ℕ) → u < t.threads → c < t.cells → at_slot memory (t.lens + (u * t.cells + c)) ≡ pos (length (parts u c))
  pub vals : (u c k : ℕ) (q : Pending) → u < t.threads → c < t.cells → slice_get (parts u c) k ≡ Some q → at_slot memory (t.vals + ((u * t.cells + c) * t.places + k)) ≡ q.1

-- cell c is the cell home c of the woven program, in front of the arrays, which stand one behind another
pub record PartHomes (t : PartTable) (size : ℕ) (home : ℕ → ℕ) : Type 0 where
  pub before : (c : ℕ) → c < t.cells → home c < t.lens
  pub apart : (c d : ℕ) → c < t.cells → d < t.cells → home c ≡ home d → c ≡ d
  pub lens : t.lens + t.threads * t.cells ≤ t.vals
  pub vals : t.vals + t.threads * t.cells * t.places ≤ size

-- the woven program's memory is like the machine's state, with a row for each thread and cell
pub record MirrorsParts (t : PartTable) (size : ℕ) (home : ℕ → ℕ) (a : View) (s : State) : Type 0 where
  pub size_is : length a.memory ≡ size
  pub threads : length s.pending ≡ t.threads
  pub memory : (c : ℕ) → c < t.cells → at_slot a.memory (home c) ≡ at_cell s c
  pub held : HeldParts t a.memory (parts_of s)

-- the row b is that of thread b / cells and cell b % cells
abbrev pub cell_rows : PartTable → AllRows
cell_rows t = record { count = t.threads * t.cells; stores = λ s b. parts_of s (b / t.cells) (b % t.cells); thread = λ b. b / t.cells }

-- each cell that has a pending store is one of the shared array's, which begins at mem, and each row is shorter than the bound
pub record SafeParts (t : PartTable) (home : ℕ → ℕ) (mem shorter : ℕ) (s : State) : Type 0 where
  pub to : (u c : ℕ) → u < t.threads → c < t.cells → 0 < length (parts_of s u c) → (home c ≡ mem + c) × (c < length s.memory)
  pub short : (u c : ℕ) → u < t.threads → c < t.cells → length (parts_of s u c) < shorter

-- ---- the helpers under PSO, where n assertions stand before the function

abbrev pub pso_put_function : PartTable → ℕ → Function
pso_put_function t n = record { params = param wm_t ∷ param wm_c ∷ param wm_v ∷ []; body = body_of (pso_put t.cells t.places); asserts = n }

abbrev pub pso_pop_function : PartTable → ℕ → Function
pso_pop_function t n = record { params = param wm_b ∷ []; body = body_of (pso_pop t.cells t.places); asserts = n }

abbrev pub pso_get_function : PartTable → ℕ → Function
pso_get_function t n = record { params = param wm_t ∷ param wm_c ∷ []; body = body_of (pso_get t.cells t.places); asserts = n }

abbrev pub pso_set_function : PartTable → ℕ → Function
pso_set_function t n = record { params = param wm_t ∷ param wm_c ∷ param wm_v ∷ []; body = body_of (pso_set t.cells); asserts = n }

abbrev pub pso_empty_function : PartTable → ℕ → Function
pso_empty_function t n = record { params = param wm_t ∷ []; body = body_of (pso_empty t.cells); asserts = n }

-- the bodies name the arrays so, and the shared cells from mem on
pub record SeesParts (t : PartTable) (mem : ℕ) (inner : ℕ → Within) : Type 0 where
  pub arrays : (r : ℕ) → HasPartArrays t (inner r).parts.spots
  pub shared : (r : ℕ) → spot_of (inner r).parts.spots wm_mem ≡ Some (array_at wm_mem mem t.cells)
