-- From the tree of a text to its goto program, and the limits of what is flattened.
use Rattle.std.specs.Prelude.{ℕ, zero, suc, ◌+◌, ◌^◌, ℤ, pos, negsuc, nat_lt, Bool, true, false, if◌then◌else◌, List, [], ◌∷◌, ◌++◌, length, map, codes, Option, Some, None}
use Rattle.std.specs.List.{list_any}
use Rattle.mm_goto.specs.declared.ident.At.{At}
use Rattle.mm_goto.specs.declared.ident.Ident.{Ident}
use Rattle.mm_goto.specs.declared.pure.Pure.{Pure}
use Rattle.mm_goto.specs.declared.program.Cell.{Cell}
use Rattle.mm_goto.specs.declared.program.Thread.{Thread}
use Rattle.mm_goto.specs.declared.program.Instr.TheVariants as instr
use Rattle.mm_goto.specs.Listing.{Listing}
use Rattle.mm_goto.specs.Place.{start}
use Rattle.mm_goto.specs.Terms.{constant}
use Rattle.mm_tree.specs.declared.expr.Expr.{Expr}
use Rattle.mm_tree.specs.declared.expr.Node.{Node}
use Rattle.mm_tree.specs.declared.expr.Node.TheOpen as node
use Rattle.mm_tree.specs.declared.expr.Node.TheOpen.{Node-F}
use Rattle.mm_tree.specs.declared.expr.Word.{Word}
use Rattle.mm_tree.specs.declared.item.Global.{Global}
use Rattle.mm_tree.specs.declared.item.Item.{Item}
use Rattle.mm_tree.specs.declared.item.Item.TheVariants as item
use Rattle.mm_tree.specs.declared.item.Tree.{Tree}
use Rattle.mm_tree.specs.declared.side.Side.{Side}
use Rattle.mm_tree.specs.declared.side.Side.TheVariants.{Source, Output}
use Rattle.mm_tree.specs.declared.stmt.Stmt.{Stmt}
use Rattle.mm_tree.specs.Trees.{node_of}
use Rattle.mm_flow.specs.declared.names.Parts.{Parts}
use Rattle.mm_flow.specs.declared.names.Spot.{Spot}
use Rattle.mm_flow.specs.declared.names.Started.{Started}
use Rattle.mm_flow.specs.declared.fault.Limit.{Limit}
use Rattle.mm_flow.specs.declared.fault.Limit.TheVariants.{Threads, NestedCalls, Instructions, Locals, Mutexes, Cells}
use Rattle.mm_flow.specs.Flow.{Flow, Then, Do, Body, size, lay, Ways, Placed}
use Rattle.mm_flow.specs.Scopes.{spot_of}
use Rattle.mm_flow.specs.Text.{asserts_in, creates_in, calls_in, labels_in}
use Rattle.mm_flow.specs.Words.{address, element}
use Rattle.mm_flow.specs.Expressions.{zero_value, the_spot}
use Rattle.mm_flow.specs.Statements.{Within, Known, Did, Function, function_of, is_function, body_code, inline_at}

-- ---- globals

abbrev pub GlobalList : Type 0
GlobalList = List Global

abbrev pub globals_of : Item → List Global
globals_of (item.Globals gs) = gs
globals_of (item.Mutexes ws) = []
globals_of (item.Threads ws) = []
globals_of (item.InputDecl at x) = []
globals_of (item.Function at gives x ps ss) = []

abbrev pub globals_in : List Item → List Global
globals_in [] = []
globals_in (i ∷ is) = globals_of i ++ globals_in is

abbrev pub natural : ℤ → ℕ
natural (pos n) = n
natural (negsuc n) = 0

abbrev pub length_of : Option ℤ → ℕ
length_of (Some n) = natural n
length_of None = 1

-- how many cells it has
abbrev pub cells_in : Global → ℕ
cells_in g = length_of g.len

-- at most the greatest number of 32 bits: a program that reaches it has too many cells
abbrev pub capped : ℕ → ℕ
capped n = if nat_lt n (2 ^ 32) then n else 4294967295

-- the globals with the numbers of their cells, from n on
abbrev pub spots : List Global → ℕ → List Spot
spots [] n = []
spots (g ∷ gs) n = record { name = g.name; first = n; len = cells_in g } ∷ spots gs (capped (n + cells_in g))

abbrev pub cell_count : List Global → ℕ
cell_count [] = 0
cell_count (g ∷ gs) = cells_in g + cell_count gs

-- the constant index of an address in a start value
abbrev pub start_index : Node-F Node Expr → Pure
start_index (node.Number z) = constant z
start_index other = zero_value

abbrev pub start_of : List Spot → Node-F Node Expr → Pure
start_of ss (node.Number z) = constant z
start_of ss node.Null = zero_value
start_of ss (node.Name x) = zero_value
start_of ss (node.Index x e) = zero_value
start_of ss (node.Deref e) = zero_value
start_of ss (node.AddrName x) = address (the_spot (spot_of ss x.name)).first
start_of ss (node.AddrIndex x e) =
    element (the_spot (spot_of ss x.name)).first (the_spot (spot_of ss x.name)).len (start_index (node_of e))
start_of ss (node.Un op e) = zero_value
start_of ss (node.Bin op a b) = zero_value
start_of ss (node.Cond c a b) = zero_value

-- the start value that an expression of an initialiser says
abbrev pub start_value : List Spot → Expr → Pure
start_value ss e = start_of ss (node_of e)

abbrev pub first_start : List Spot → List Expr → Pure
first_start ss [] = zero_value
first_start ss (e ∷ es) = start_value ss e

-- the elements of an array from the i-th on, so many
abbrev pub elements : List Spot → Global → (i count : ℕ) → List Expr → List Cell
elements ss g i zero es = []
elements ss g i (suc n) [] = record { name = g.name; index = Some i; pointer = g.pointer; init = zero_value } ∷ elements ss g (i + 1) n []
elements ss g i (suc n) (e ∷ es) =
    record { name = g.name; index = Some i; pointer = g.pointer; init = start_value ss e } ∷ elements ss g (i + 1) n es

abbrev pub cells_of_length : List Spot → Global → Option ℤ → List Cell
cells_of_length ss g (Some n) = elements ss g 0 (natural n) g.init
cells_of_length ss g None = record { name = g.name; index = None; pointer = g.pointer; init = first_start ss g.init } ∷ []

abbrev pub cells_of : List Spot → List Global → List Cell
cells_of ss [] = []
cells_of ss (g ∷ gs) = cells_of_length ss g g.len ++ cells_of ss gs

abbrev pub mutexes_of : Item → List Ident
mutexes_of (item.Globals gs) = []
mutexes_of (item.Mutexes ws) = map (λ (w : Word). w.name) ws
mutexes_of (item.Threads ws) = []
mutexes_of (item.InputDecl at x) = []
mutexes_of (item.Function at gives x ps ss) = []

abbrev pub mutexes_in : List Item → List Ident
mutexes_in [] = []
mutexes_in (i ∷ is) = mutexes_of i ++ mutexes_in is

-- ---- functions

abbrev pub body_of : Item → List Stmt
body_of (item.Globals gs) = []
body_of (item.Mutexes ws) = []
body_of (item.Threads ws) = []
body_of (item.InputDecl at x) = []
body_of (item.Function at gives x ps ss) = ss

abbrev pub place_of : Item → At
place_of (item.Globals gs) = start
place_of (item.Mutexes ws) = start
place_of (item.Threads ws) = start
place_of (item.InputDecl at x) = at
place_of (item.Function at gives x ps ss) = at

-- how many assertions stand before each item, where n stand before the first
abbrev pub asserts_before : List Item → ℕ → List ℕ
asserts_before [] n = []
asserts_before (i ∷ is) n = n ∷ asserts_before is (n + asserts_in (body_of i))

-- the body of a function, and where its name stands
abbrev pub body_in : List Item → Ident → List Stmt
body_in [] f = []
body_in (i ∷ is) f = if is_function f i then body_of i else body_in is f

abbrev pub place_in : List Item → Ident → At
place_in [] f = start
place_in (i ∷ is) f = if is_function f i then place_of i else place_in is f

abbrev pub parts_of : Side → List Item → Parts
parts_of side items = record {
  side = side;
  spots = spots (globals_in items) 0;
  mutexes = mutexes_in items;
  starts = creates_in (body_in items (codes "main"));
  asserts = asserts_before items 0;
}

-- ---- threads

-- the most calls that may nest
unfoldable pub most_calls : ℕ
most_calls = 64

abbrev pub in_thread : Parts → List Item → Within
in_thread parts items = record { parts = parts; items = items; inline = inline_at parts items most_calls; ret = None }

abbrev pub at_entry : ℕ → Known
at_entry asserts = record { names = []; next = 0; seen = record { asserts = asserts; starts = 0 } }

-- the function's body in a thread of its own
abbrev pub thread_code : Parts → List Item → Function → Did
thread_code parts items f = body_code f.body (in_thread parts items) (at_entry f.asserts)

abbrev pub thread_flow : Parts → List Item → At → Function → Flow
thread_flow parts items at f = Then (Body (labels_in f.body) (thread_code parts items f).flow) (Do at instr.End)

-- a thread's body stands in no loop
abbrev pub all_to : ℕ → Ways
all_to k = record { behind = k; next = k; home = k; label = λ y. 0 }

abbrev pub laid : ℕ → List Placed → Thread
laid locals ps = record { locals = locals; code = map (λ (p : Placed). p.instr) ps; places = map (λ (p : Placed). p.at) ps }

-- a function that is not there is refused before
abbrev pub the_function : Option Function → Function
the_function (Some f) = f
the_function None = record { params = []; body = []; asserts = 0 }

abbrev pub named_function : Parts → List Item → Ident → Function
named_function parts items f = the_function (function_of items parts.asserts f)

abbrev pub flow_of : Parts → List Item → Ident → Flow
flow_of parts items f = thread_flow parts items (place_in items f) (named_function parts items f)

abbrev pub locals_of : Parts → List Item → Ident → ℕ
locals_of parts items f = (thread_code parts items (named_function parts items f)).known.next

-- where the End stands
abbrev pub end_of : Parts → List Item → Ident → ℕ
end_of parts items f = size (thread_code parts items (named_function parts items f)).flow

abbrev pub thread_of : Parts → List Item → Ident → Thread
thread_of parts items f = laid (locals_of parts items f) (lay (all_to (end_of parts items f)) (flow_of parts items f) 0)

-- the functions of the threads, by their numbers
abbrev pub threads_in : Parts → List Ident
threads_in parts = codes "main" ∷ map (λ (s : Started). s.function) parts.starts

abbrev pub threads_of : Parts → List Item → List Thread
threads_of parts items = map (thread_of parts items) (threads_in parts)

-- ---- the whole

-- the goto program of a tree
abbrev pub program_of : Side → Tree → Listing
program_of side tree =
    let parts = parts_of side tree.items in
    record {
      cells = cells_of parts.spots (globals_in tree.items);
      mutexes = parts.mutexes;
      threads = threads_of parts tree.items;
    }

-- ---- limits

abbrev pub most_threads : ℕ
most_threads = 16

abbrev pub most_mutexes : ℕ
most_mutexes = 64

abbrev pub most_cells : ℕ
most_cells = 65536

abbrev pub most_instructions : Side → ℕ
most_instructions Source = 16384
most_instructions Output = 8388608

abbrev pub most_locals : Side → ℕ
most_locals Source = 4096
most_locals Output = 524288

abbrev pub is_known : List Item → Ident → Bool
is_known [] f = false
is_known (i ∷ is) f = if is_function f i then true else is_known is f

-- one of the functions is called, and calls nest in it deeper than so many
abbrev pub nests : List Item → ℕ → List Ident → Bool
nests items zero fs = list_any (is_known items) fs
nests items (suc d) fs = list_any (λ f. nests items d (calls_in (body_in items f))) fs

abbrev pub size_in : Parts → List Item → List Ident → ℕ
size_in parts items [] = 0
size_in parts items (f ∷ fs) = size (flow_of parts items f) + size_in parts items fs

-- a thread has more locals than so many
abbrev pub has_more_locals : ℕ → List Thread → Bool
has_more_locals n ts = list_any (λ (t : Thread). nat_lt n t.locals) ts

-- calls nest too deep in one of the functions
abbrev pub nests_too_deep : List Item → List Ident → Bool
nests_too_deep items fs = list_any (λ f. nests items most_calls (calls_in (body_in items f))) fs

-- the first limit that is passed, in the order of the limits
abbrev pub first_passed : Side → List Item → Parts → Option Limit
first_passed side items parts =
    if nat_lt most_threads (1 + length parts.starts) then Some Threads
    else if nests_too_deep items (threads_in parts) then Some NestedCalls
    else if nat_lt (most_instructions side) (size_in parts items (threads_in parts)) then Some Instructions
    else if has_more_locals (most_locals side) (threads_of parts items) then Some Locals
    else if nat_lt most_mutexes (length parts.mutexes) then Some Mutexes
    else if nat_lt most_cells (cell_count (globals_in items)) then Some Cells
    else None

abbrev pub limit_passed : Side → Tree → Option Limit
limit_passed side tree = first_passed side tree.items (parts_of side tree.items)
