-- Which goto programs the small programs have: one thread that runs straight on, over ints that are no arrays.
use Rattle.std.specs.Prelude.{◌≡◌, ℕ, pos, ◌<◌, ◌^◌, false, List, [], ◌∷◌, ◌++◌, All, length, slice_get, Some, None}
use Rattle.mm_goto.specs.declared.pure.Pure.{Pure}
use Rattle.mm_goto.specs.declared.pure.Binary.TheVariants as binary
use Rattle.mm_goto.specs.declared.program.Target.TheVariants as target
use Rattle.mm_goto.specs.declared.program.Instr.{Instr}
use Rattle.mm_goto.specs.declared.program.Instr.TheVariants.{Load, Store, Jump, Assert, End}
use Rattle.mm_goto.specs.declared.program.Cell.{Cell}
use Rattle.mm_goto.specs.declared.program.Thread.{Thread}
use Rattle.mm_goto.specs.Listing.{Listing}
use Rattle.mm_goto.specs.Names.{IsDeclarable}
use Rattle.mm_goto.specs.Terms.{constant, the_local, combined}

-- a number, one of so many locals, or whether the local has the number
pub data IsSmallExpr (locals : ℕ) : Pure → Type 0 where
  number : (n : ℕ)
      → n < 2 ^ 31
      → IsSmallExpr locals (constant (pos n))
  local : (l : ℕ)
      → l < locals
      → IsSmallExpr locals (the_local l)
  equal : (l n : ℕ)
      → l < locals
      → n < 2 ^ 31
      → IsSmallExpr locals (combined binary.Eq (the_local l) (constant (pos n)))

-- a load, a store, an assertion, or the jump to the end
pub data IsSmallInstr (cells : List Cell) (t : Thread) : Instr → Type 0 where
  load : (l c : ℕ)
      → l < t.locals
      → c < length cells
      → IsSmallInstr cells t (Load l (target.Cell c))
  store : (c : ℕ) (e : Pure)
      → c < length cells
      → IsSmallExpr t.locals e
      → IsSmallInstr cells t (Store (target.Cell c) e)
  assert : (e : Pure) (n : ℕ)
      → n < 2 ^ 32
      → IsSmallExpr t.locals e
      → IsSmallInstr cells t (Assert e n)
  jump : (k : ℕ)
      → k < length t.code
      → IsSmallInstr cells t (Jump k)

-- an int that is no array, under a name that a source may declare, with a start value that is not negative
pub record IsSmallCell (cell : Cell) : Type 0 where
  pub name : IsDeclarable cell.name
  pub single : cell.index ≡ None
  pub int : cell.pointer ≡ false
  pub value : ℕ
  pub small : value < 2 ^ 31
  pub init : cell.init ≡ constant (pos value)

pub record IsSmallListing (p : Listing) : Type 0 where
  pub cells : All IsSmallCell p.cells
  pub apart : (c d : ℕ) (a b : Cell) → slice_get p.cells c ≡ Some a → slice_get p.cells d ≡ Some b → a.name ≡ b.name → c ≡ d
  pub mutexes : p.mutexes ≡ []
  pub main : Thread
  pub alone : p.threads ≡ main ∷ []
  pub body : List Instr
  pub code : main.code ≡ body ++ End ∷ []
  pub instrs : All (IsSmallInstr p.cells main) body
  -- so few that each cell has a number of 32 bits, and each local and each line a printed name of its own
  pub few_cells : length p.cells < 2 ^ 32
  pub few_locals : main.locals < 2 ^ 32
  pub few_lines : length main.code < 2 ^ 32
