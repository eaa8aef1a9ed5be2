-- The functions with which a woven program keeps its pending stores in arrays, after the program transformation of Alglave,
-- Kroening, Nimal and Tautschnig (ESOP 2013). A row of the arrays has the pending stores of a thread under TSO (the store
-- buffer of x86-TSO), and of a thread to one cell under PSO, the oldest first. Read them beside their text in C.
use Rattle.std.specs.Prelude.{ℕ, ◌*◌, List, [], ◌∷◌, codes}
use Rattle.mm_goto.specs.declared.ident.Ident.{Ident}
use Rattle.mm_goto.specs.declared.model.Model.{Model}
use Rattle.mm_goto.specs.declared.model.Model.TheVariants.{Tso, Pso}
use Rattle.mm_tree.specs.declared.expr.Expr.{Expr}
use Rattle.mm_tree.specs.declared.stmt.Stmt.{Stmt}
use Rattle.mm_tree.specs.declared.item.Item.{Item}
use Rattle.mm_words.specs.Words.{num, var, elem, plus, minus, times, modulo, less, at_most, greater, equal, differ, both, assign, assign_call, assign_elem, call, declare, assume, when, while, return, param, void, int, array}

-- ---- names

-- the shared cells
abbrev pub wm_mem : Ident
wm_mem = codes "wm_mem"

-- how many stores are pending in each row
abbrev pub wm_len : Ident
wm_len = codes "wm_len"

-- the cell of each pending store, row by row, the oldest first
abbrev pub wm_cell : Ident
wm_cell = codes "wm_cell"

-- the value of each pending store, row by row, the oldest first
abbrev pub wm_val : Ident
wm_val = codes "wm_val"

-- an input
abbrev pub nondet_wm : Ident
nondet_wm = codes "nondet_wm"

-- the oldest store of a row reaches its cell
abbrev pub wm_pop : Ident
wm_pop = codes "wm_pop"

-- some stores reach their cells, or none
abbrev pub wm_flush : Ident
wm_flush = codes "wm_flush"

-- goes on where no store of a thread is pending
abbrev pub wm_empty : Ident
wm_empty = codes "wm_empty"

-- a store is pending from now on
abbrev pub wm_put : Ident
wm_put = codes "wm_put"

-- what a thread reads of a cell
abbrev pub wm_get : Ident
wm_get = codes "wm_get"

-- a store reaches its cell at once
abbrev pub wm_set : Ident
wm_set = codes "wm_set"

-- a thread
abbrev pub wm_t : Ident
wm_t = codes "wm_t"

-- a cell
abbrev pub wm_c : Ident
wm_c = codes "wm_c"

-- a value
abbrev pub wm_v : Ident
wm_v = codes "wm_v"

-- a row, of a thread and a cell
abbrev pub wm_b : Ident
wm_b = codes "wm_b"

-- a place in a row
abbrev pub wm_j : Ident
wm_j = codes "wm_j"

-- an input that names a row by its number and 1
abbrev pub wm_n : Ident
wm_n = codes "wm_n"

-- ---- both models

-- how many threads and cells there are, and how many stores may be pending in a row
pub record Sizes : Type 0 where
  pub threads : ℕ
  pub cells : ℕ
  pub bound : ℕ

-- (x * k) + e, the place e of row x where each row has k places
abbrev pub in_row : Ident → ℕ → Expr → Expr
in_row x k e = plus (times (var x) (num k)) e

-- x = x + 1;
abbrev pub step : Ident → Stmt
step x = assign x (plus (var x) (num 1))

-- a[(x * k) + wm_j] = a[((x * k) + wm_j) + 1];
abbrev pub shift : Ident → Ident → ℕ → Stmt
shift a x k = assign_elem a (in_row x k (var wm_j)) (elem a (plus (in_row x k (var wm_j)) (num 1)))

-- wm_flush: any number of flushes, each of a row that is not empty
abbrev pub flush : ℕ → Item
flush rows = void wm_flush [] (
    declare wm_n
    ∷ assign_call wm_n nondet_wm []
    ∷ while (differ (var wm_n) (num 0)) (
    assume (both (greater (var wm_n) (num 0)) (at_most (var wm_n) (num rows)))
    ∷ assume (greater (elem wm_len (minus (var wm_n) (num 1))) (num 0))
    ∷ call wm_pop (minus (var wm_n) (num 1) ∷ [])
    ∷ assign_call wm_n nondet_wm []
    ∷ [])
    ∷ [])

-- ---- TSO: a row for each thread

-- wm_pop: the oldest store of the thread reaches its cell, and the others move up
abbrev pub tso_pop : ℕ → Item
tso_pop k = void wm_pop (param wm_t ∷ []) (
    declare wm_j
    ∷ assign_elem wm_mem (elem wm_cell (times (var wm_t) (num k))) (elem wm_val (times (var wm_t) (num k)))
    ∷ assign_elem wm_len (var wm_t) (minus (elem wm_len (var wm_t)) (num 1))
    ∷ assign wm_j (num 0)
    ∷ while (less (var wm_j) (elem wm_len (var wm_t))) (
    shift wm_cell wm_t k
    ∷ shift wm_val wm_t k
    ∷ step wm_j
    ∷ [])
    ∷ [])

-- wm_empty: no store of the thread is pending
abbrev pub tso_empty : Item
tso_empty = void wm_empty (param wm_t ∷ []) (
    assume (equal (elem wm_len (var wm_t)) (num 0))
    ∷ [])

-- wm_put: where there is room, the store is pending behind the others of the thread
abbrev pub tso_put : ℕ → Item
tso_put k = void wm_put (param wm_t ∷ param wm_c ∷ param wm_v ∷ []) (
    assume (less (elem wm_len (var wm_t)) (num k))
    ∷ assign_elem wm_cell (in_row wm_t k (elem wm_len (var wm_t))) (var wm_c)
    ∷ assign_elem wm_val (in_row wm_t k (elem wm_len (var wm_t))) (var wm_v)
    ∷ assign_elem wm_len (var wm_t) (plus (elem wm_len (var wm_t)) (num 1))
    ∷ [])

-- wm_get: the value of the youngest pending store of the thread to the cell, or else what memory holds
abbrev pub tso_get : ℕ → Item
tso_get k = int wm_get (param wm_t ∷ param wm_c ∷ []) (
    declare wm_j
    ∷ assign wm_j (elem wm_len (var wm_t))
    ∷ while (greater (var wm_j) (num 0)) (
    assign wm_j (minus (var wm_j) (num 1))
    ∷ when (equal (elem wm_cell (in_row wm_t k (var wm_j))) (var wm_c)) (
    return (elem wm_val (in_row wm_t k (var wm_j)))
    ∷ [])
    ∷ [])
    ∷ return (elem wm_mem (var wm_c))
    ∷ [])

-- wm_set: where no store of the thread is pending, the value reaches the cell at once
abbrev pub tso_set : Item
tso_set = void wm_set (param wm_t ∷ param wm_c ∷ param wm_v ∷ []) (
    assume (equal (elem wm_len (var wm_t)) (num 0))
    ∷ assign_elem wm_mem (var wm_c) (var wm_v)
    ∷ [])

-- ---- PSO: a row for each thread and cell

-- wm_pop: the oldest store of the row reaches the row's cell, and the others move up
abbrev pub pso_pop : ℕ → ℕ → Item
pso_pop cells k = void wm_pop (param wm_b ∷ []) (
    declare wm_j
    ∷ assign_elem wm_mem (modulo (var wm_b) (num cells)) (elem wm_val (times (var wm_b) (num k)))
    ∷ assign_elem wm_len (var wm_b) (minus (elem wm_len (var wm_b)) (num 1))
    ∷ assign wm_j (num 0)
    ∷ while (less (var wm_j) (elem wm_len (var wm_b))) (
    shift wm_val wm_b k
    ∷ step wm_j
    ∷ [])
    ∷ [])

-- wm_empty: no store of the thread is pending to any cell
abbrev pub pso_empty : ℕ → Item
pso_empty cells = void wm_empty (param wm_t ∷ []) (
    declare wm_c
    ∷ assign wm_c (num 0)
    ∷ while (less (var wm_c) (num cells)) (
    assume (equal (elem wm_len (in_row wm_t cells (var wm_c))) (num 0))
    ∷ step wm_c
    ∷ [])
    ∷ [])

-- wm_put: where there is room, the store is pending behind the others of the thread to the cell
abbrev pub pso_put : ℕ → ℕ → Item
pso_put cells k = void wm_put (param wm_t ∷ param wm_c ∷ param wm_v ∷ []) (
    declare wm_b
    ∷ assign wm_b (in_row wm_t cells (var wm_c))
    ∷ assume (less (elem wm_len (var wm_b)) (num k))
    ∷ assign_elem wm_val (in_row wm_b k (elem wm_len (var wm_b))) (var wm_v)
    ∷ assign_elem wm_len (var wm_b) (plus (elem wm_len (var wm_b)) (num 1))
    ∷ [])

-- wm_get: the value of the youngest pending store of the thread to the cell, or else what memory holds
abbrev pub pso_get : ℕ → ℕ → Item
pso_get cells k = int wm_get (param wm_t ∷ param wm_c ∷ []) (
    declare wm_b
    ∷ assign wm_b (in_row wm_t cells (var wm_c))
    ∷ when (greater (elem wm_len (var wm_b)) (num 0)) (
    return (elem wm_val (minus (in_row wm_b k (elem wm_len (var wm_b))) (num 1)))
    ∷ [])
    ∷ return (elem wm_mem (var wm_c))
    ∷ [])

-- wm_set: where no store of the thread to the cell is pending, the value reaches the cell at once
abbrev pub pso_set : ℕ → Item
pso_set cells = void wm_set (param wm_t ∷ param wm_c ∷ param wm_v ∷ []) (
    assume (equal (elem wm_len (in_row wm_t cells (var wm_c))) (num 0))
    ∷ assign_elem wm_mem (var wm_c) (var wm_v)
    ∷ [])

-- ---- the items

-- the helpers of a row for each thread
abbrev pub tso_helpers : (threads bound : ℕ) → List Item
tso_helpers threads k = tso_pop k ∷ flush threads ∷ tso_empty ∷ tso_put k ∷ tso_get k ∷ tso_set ∷ []

-- the helpers of a row for each thread and cell
abbrev pub pso_helpers : (threads cells bound : ℕ) → List Item
pso_helpers threads cells k = pso_pop cells k ∷ flush (threads * cells) ∷ pso_empty cells ∷ pso_put cells k ∷ pso_get cells k ∷ pso_set cells ∷ []

-- the helpers
abbrev pub helpers : Model → Sizes → List Item
helpers Tso s = tso_helpers s.threads s.bound
helpers Pso s = pso_helpers s.threads s.cells s.bound

-- ---- the arrays that they work on

-- the length of each row, and the cell and the value of each place of it
abbrev pub tso_arrays : (threads bound : ℕ) → List Item
tso_arrays threads k = array wm_len threads ∷ array wm_cell (threads * k) ∷ array wm_val (threads * k) ∷ []

-- the length of each row, and the value of each place of it: a row belongs to one cell
abbrev pub pso_arrays : (threads cells bound : ℕ) → List Item
pso_arrays threads cells k = array wm_len (threads * cells) ∷ array wm_val (threads * cells * k) ∷ []

-- the arrays
abbrev pub arrays : Model → Sizes → List Item
arrays Tso s = tso_arrays s.threads s.bound
arrays Pso s = pso_arrays s.threads s.cells s.bound
