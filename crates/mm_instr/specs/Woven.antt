-- The woven program of a goto program and a shape: a C program in which pending stores are ordinary variables. Its places are all
-- 1:1, since no text stands behind it yet.
use Rattle.std.specs.Prelude.{ℕ, zero, suc, ◌+◌, ◌-◌, Bool, true, false, ◌||◌, if◌then◌else◌, List, [], ◌∷◌, ◌++◌, length, map, codes, Option, Some, None}
use Rattle.std.specs.List.{list_any, range_with_len}
use Rattle.mm_goto.specs.declared.ident.Ident.{Ident}
use Rattle.mm_goto.specs.declared.shape.Shape.{Shape}
use Rattle.mm_goto.specs.declared.pure.Pure.{Pure}
use Rattle.mm_goto.specs.declared.pure.Pure.TheOpen.{Pure-F, Const, Local, Addr, AddrElem, Un, Bin, Cond}
use Rattle.mm_goto.specs.declared.pure.Pure.TheFolds.{fold-Pure}
use Rattle.mm_goto.specs.declared.program.Instr.{Instr}
use Rattle.mm_goto.specs.declared.program.Cell.{Cell}
use Rattle.mm_goto.specs.declared.program.Thread.{Thread}
use Rattle.mm_goto.specs.Bounds.{greatest}
use Rattle.mm_goto.specs.Listing.{Listing}
use Rattle.mm_goto.specs.Sourcelike.{exprs_of}
use Rattle.mm_goto.specs.Value.{value_of}
use Rattle.mm_tree.specs.declared.expr.Expr.{Expr}
use Rattle.mm_tree.specs.declared.stmt.Stmt.{Stmt}
use Rattle.mm_tree.specs.declared.item.Item.{Item}
use Rattle.mm_tree.specs.declared.item.Tree.{Tree}
use Rattle.mm_words.specs.Words.{number, num, declare, input, global, mutex, thread_variable, thread, int}
use Rattle.mm_helpers.specs.Helpers.{Sizes, wm_mem, nondet_wm, helpers, arrays}
use Rattle.mm_templates.specs.Names.{local_name, handle_name, thread_name}
use Rattle.mm_templates.specs.Homes.{has_moved}
use Rattle.mm_templates.specs.Instructions.{woven_instr}

-- ---- what is asked of the whole program

-- some store is buffered
abbrev pub has_buffers : Shape → Bool
has_buffers shape = list_any (list_any (λ b. b)) shape.buffered

-- some cell lives in the shared array
abbrev pub has_moved_cells : Shape → Bool
has_moved_cells shape = list_any (λ b. b) shape.moved

abbrev pub takes_address_step : Pure-F Bool → Bool
takes_address_step (Const z) = false
takes_address_step (Local l) = false
takes_address_step (Addr c) = true
takes_address_step (AddrElem first len index) = true
takes_address_step (Un op x) = x
takes_address_step (Bin op x y) = x || y
takes_address_step (Cond c x y) = c || (x || y)

-- an address stands in the expression
abbrev pub takes_address : Pure → Bool
takes_address = fold-Pure Bool takes_address_step

-- an address stands in the code
abbrev pub code_takes_address : List Instr → Bool
code_takes_address code = list_any (λ it. list_any takes_address (exprs_of it)) code

-- an address stands in the program or in a start value
abbrev pub has_address : Listing → Bool
has_address p = list_any (λ c. takes_address c.init) p.cells || list_any (λ t. code_takes_address t.code) p.threads

-- ---- variables

-- the value of the cell at the start: a number, or the address of a cell as a number
abbrev pub start_value : Cell → Expr
start_value cell = number (value_of cell.init [])

-- the cell stands behind the first of its array
abbrev pub is_behind : Option ℕ → Bool
is_behind None = false
is_behind (Some zero) = false
is_behind (Some (suc k)) = true

-- the elements that follow an array's first
abbrev pub further : List Cell → List Cell
further [] = []
further (cell ∷ cells) = if is_behind cell.index then cell ∷ further cells else []

-- int a[n] = {v, v}; of n values
abbrev pub filled : Ident → List Expr → Item
filled x values = global x (Some (length values)) values

-- int x = v; or, at its first element, int a[n] = {v, v};
abbrev pub declared : Cell → List Cell → Option ℕ → List Item
declared cell cells None = global cell.name None (start_value cell ∷ []) ∷ []
declared cell cells (Some zero) = filled cell.name (map start_value (cell ∷ further cells)) ∷ []
declared cell cells (Some (suc k)) = []

-- the globals that keep their names, with the flags of the cells that have moved
abbrev pub variables : List Bool → ℕ → List Cell → List Item
variables moved c [] = []
variables moved c (cell ∷ cells) = (if has_moved moved c then [] else declared cell cells cell.index) ++ variables moved (c + 1) cells

-- what the shared array has at the start: 0 for a cell that has not moved
abbrev pub start_values : List Bool → ℕ → List Cell → List Expr
start_values moved c [] = []
start_values moved c (cell ∷ cells) = (if has_moved moved c then start_value cell else num 0) ∷ start_values moved (c + 1) cells

-- int wm_mem[C] = {v, v}; where a cell has moved or a store is buffered
abbrev pub memory : Listing → Shape → List Item
memory p shape = if has_moved_cells shape || has_buffers shape then filled wm_mem (start_values shape.moved 0 p.cells) ∷ [] else []

-- ---- functions; whether a store is buffered, and whether an address stands anywhere, is asked once for the whole program

module _ (p : Listing) (shape : Shape) (buffers addresses : Bool) where
  -- the code from place i of thread t on
  abbrev pub woven_code : ℕ → ℕ → List Instr → List Stmt
  woven_code t i [] = []
  woven_code t i (it ∷ code) = woven_instr p shape buffers addresses t i it ++ woven_code t (i + 1) code

  -- the locals' declarations, and the code
  abbrev pub woven_body : ℕ → Thread → List Stmt
  woven_body t it = map (λ l. declare (local_name l)) (range_with_len 0 it.locals) ++ woven_code t 0 it.code

  -- void *wm_thread1(void *wm_arg) { .. }
  unfoldable pub thread_item : ℕ → Thread → Item
  thread_item u it = thread (thread_name u) (codes "wm_arg") (woven_body u it)

  -- the threads from number u on
  abbrev pub thread_items : ℕ → List Thread → List Item
  thread_items u [] = []
  thread_items u (it ∷ threads) = thread_item u it ∷ thread_items (u + 1) threads

  -- the other threads, and main behind them
  abbrev pub functions : List Thread → List Item
  functions [] = []
  functions (main ∷ others) = thread_items 1 others ++ int (codes "main") [] (woven_body 0 main) ∷ []

-- ---- the program

abbrev pub sizes : Listing → Shape → Sizes
sizes p shape = record { threads = length p.threads; cells = length p.cells; bound = greatest shape.bound }

-- int nondet_wm(); the globals, the arrays of pending stores, the mutexes, the threads' variables, the helpers, and the functions
abbrev pub woven_items : Listing → Shape → List Item
woven_items p shape =
    input nondet_wm
    ∷ variables shape.moved 0 p.cells
    ++ memory p shape
    ++ (if has_buffers shape then arrays shape.model (sizes p shape) else [])
    ++ map mutex p.mutexes
    ++ map (λ u. thread_variable (handle_name u)) (range_with_len 1 (length p.threads - 1))
    ++ (if has_buffers shape then helpers shape.model (sizes p shape) else [])
    ++ functions p shape (has_buffers shape) (has_address p) p.threads

unfoldable pub woven : Listing → Shape → Tree
woven p shape = record { items = woven_items p shape }
