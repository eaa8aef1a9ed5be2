-- The arrays of a woven program stand for the pending stores of a machine.
use Rattle.std.specs.Prelude.{◌≡◌, ℕ, ◌+◌, ◌*◌, ◌^◌, ◌<◌, ◌≤◌, ℤ, pos, List, length, slice_get, Option, Some, None}
use Rattle.mm_goto.specs.declared.ident.Ident.{Ident}
use Rattle.mm_sched.specs.State.{State, Pending, pending_of, at_cell}
use Rattle.mm_flow.specs.declared.names.Spot.{Spot}
use Rattle.mm_flow.specs.Scopes.{spot_of}
use Rattle.mm_helpers.specs.Helpers.{wm_len, wm_cell, wm_val}
use Rattle.mm_meaning.specs.Meaning.{View, Outcome, Done, Halted}
use Rattle.mm_meaning.specs.Acting.{at_slot}

-- where the arrays are: how many rows of how many places there are, and the first cells of the lengths, the cells and the values
pub record Table : Type 0 where
  pub rows : ℕ
  pub places : ℕ
  pub lens : ℕ
  pub cells : ℕ
  pub vals : ℕ

-- the global of an array
abbrev pub array_at : Ident → (first len : ℕ) → Spot
array_at x first len = record { name = x; first = first; len = len }

-- few rows and places
pub record IsSmall (t : Table) : Type 0 where
  pub rows : t.rows < 2 ^ 15
  pub places : t.places < 2 ^ 15
  pub all : t.rows * t.places < 2 ^ 16

-- the program names them so
pub record HasArrays (t : Table) (spots : List Spot) : Type 0 where
  pub lens : spot_of spots wm_len ≡ Some (array_at wm_len t.lens t.rows)
  pub cells : spot_of spots wm_cell ≡ Some (array_at wm_cell t.cells (t.rows * t.places))
  pub vals : spot_of spots wm_val ≡ Some (array_at wm_val t.vals (t.rows * t.places))

-- a list of pending stores for each row
abbrev pub Rows : Type 0
Rows = ℕ → List Pending

-- memory has them, the oldest first
pub record Held (t : Table) (memory : List ℤ) (rows : Rows) : Type 0 where
  pub fits : (b : ℕ) → b < t.rows → length (rows b) ≤ t.places
  pub lens : (b : ℕ) → b < t.rows → at_slot memory (t.lens + b) ≡ pos (length (rows b))
  pub cells : (b k : ℕ) (q : Pending) → b < t.rows → slice_get (rows b) k ≡ Some q → at_slot memory (t.cells + (b * t.places + k)) ≡ pos q.0
  pub vals : (b k : ℕ) (q : Pending) → b < t.rows → slice_get (rows b) k ≡ Some q → at_slot memory (t.vals + (b * t.places + k)) ≡ q.1

-- where the shared cells are in the woven program: cell c of so many is the cell home c, in front of the arrays, which stand
-- one behind another
pub record Homes (t : Table) (count size : ℕ) (home : ℕ → ℕ) : Type 0 where
  pub before : (c : ℕ) → c < count → home c < t.lens
  pub apart : (c d : ℕ) → c < count → d < count → home c ≡ home d → c ≡ d
  pub lens : t.lens + t.rows ≤ t.cells
  pub cells : t.cells + t.rows * t.places ≤ t.vals
  pub vals : t.vals + t.rows * t.places ≤ size

-- the woven program's memory is like the machine's state, with a row for each thread
pub record Mirrors (t : Table) (count size : ℕ) (home : ℕ → ℕ) (a : View) (s : State) : Type 0 where
  pub size_is : length a.memory ≡ size
  pub threads : length s.pending ≡ t.rows
  pub memory : (c : ℕ) → c < count → at_slot a.memory (home c) ≡ at_cell s c
  pub held : Held t a.memory (pending_of s)

-- code and a step of a machine agree: both lead on, to what belongs together, or neither does
abbrev pub Agrees : {A : Type 0} → (View → A → Type 0) → Outcome → Option A → Type 0
Agrees R (Done a) (Some s) = R a s
Agrees R Halted None = Unit {0}
Agrees R o s = ⊥
