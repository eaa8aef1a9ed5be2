-- What a program that is accepted declares: its cells, its mutexes, the functions of its threads, and how many
-- assertions it has.
use Rattle.std.specs.Prelude.{ℕ, ℤ, pos, nat_lt, min, if◌then◌else◌, List, [], ◌++◌, length, map, filter_map, sum_by, count_by, fold, slice_get, Option, Some, None}
use Rattle.std.specs.List.{flat_map, range_with_len}
use Rattle.std.specs.Map.{lookup}
use Rattle.std.specs.Int.{w32, cast_unsigned}
use Rattle.std.specs.Str.{bytes_eq}
use Rattle.indexmap.specs.IndexMap.{insert_entry}
use Rattle.mm_goto.specs.declared.ident.Ident.{Ident}
use Rattle.mm_goto.specs.declared.limits.TheConstants.{MAX_CELLS}
use Rattle.mm_goto.specs.declared.pure.Pure.{Pure, Const, Addr, AddrElem}
use Rattle.mm_goto.specs.declared.program.Cell.{Cell}
use Rattle.mm_tree.specs.Trees.{node_of}
use Rattle.mm_tree.specs.declared.expr.Expr.{Expr}
use Rattle.mm_tree.specs.declared.expr.Node.{Node}
use Rattle.mm_tree.specs.declared.expr.Node.TheOpen as node
use Rattle.mm_tree.specs.declared.expr.Node.TheOpen.{Node-F}
use Rattle.mm_tree.specs.declared.expr.Word.{Word}
use Rattle.mm_tree.specs.declared.item.Global.{Global}
use Rattle.mm_tree.specs.declared.item.Item.{Item}
use Rattle.mm_tree.specs.declared.item.Item.TheVariants as item
use Rattle.mm_tree.specs.declared.item.Tree.{Tree}
use Rattle.mm_tree.specs.declared.side.Side.{Side}
use Rattle.mm_scope.specs.Notes.{Use}
use Rattle.mm_names.specs.declared.checked.Checked.{Checked}
use Rattle.mm_names.specs.declared.checked.Declared.{Declared}
use Rattle.mm_names.specs.declared.layout.Place.{Place}
use Rattle.mm_names.specs.Programs.{notes_of, uses_of, is_assertion}

-- ---- global variables and mutexes

abbrev pub globals_in : Item → List Global
globals_in (item.Globals gs) = gs
globals_in _ = []

abbrev pub name_of : Word → Ident
name_of w = w.name

abbrev pub mutexes_in : Item → List Ident
mutexes_in (item.Mutexes ws) = map name_of ws
mutexes_in _ = []

abbrev pub size_if : Option ℤ → ℕ
size_if None = 1
size_if (Some n) = cast_unsigned w32 n

-- how many cells a variable has
abbrev pub size_of : Global → ℕ
size_of g = size_if g.len

-- ---- cells

-- the variables that have cells, each with its first cell and how many it has
abbrev pub Places : Type 0
Places = List (Ident × Place)

-- the cells so far
pub record Laid : Type 0 where
  pub places : Places
  pub cells : List Cell

abbrev pub address_at : Option Place → Pure
address_at None = Const (pos 0)
address_at (Some p) = Addr p.first

abbrev pub element_at : ℤ → Option Place → Pure
element_at z None = Const (pos 0)
element_at z (Some p) = AddrElem p.first p.size (Const z)

abbrev pub number_in : Node-F Node Expr → ℤ
number_in (node.Number z) = z
number_in _ = pos 0

-- a start value: a number or an address
abbrev pub start_value : Places → Node-F Node Expr → Pure
start_value places (node.Number z) = Const z
start_value places (node.AddrName w) = address_at (lookup (bytes_eq w.name) places)
start_value places (node.AddrIndex w i) = element_at (number_in (node_of i)) (lookup (bytes_eq w.name) places)
start_value places _ = Const (pos 0)

-- 0 where there is no initialiser
abbrev pub start_at : Places → Option Expr → Pure
start_at places None = Const (pos 0)
start_at places (Some e) = start_value places (node_of e)

abbrev pub index_at : Option ℤ → ℕ → Option ℕ
index_at None k = None
index_at (Some n) k = Some k

-- cell k of a variable
abbrev pub cell_at : Places → Global → ℕ → Cell
cell_at places g k = record { name = g.name; index = index_at g.len k; pointer = g.pointer; init = start_at places (slice_get g.init k) }

-- cells 0 to n - 1 of a variable
unfoldable pub cells_to : Places → Global → ℕ → List Cell
cells_to places g n = map (cell_at places g) (range_with_len 0 n)

-- the variable's cells come behind those that are there
abbrev pub place_next : Laid → Global → Places
place_next l g = insert_entry bytes_eq l.places g.name (record { first = length l.cells; size = size_of g })

unfoldable pub laid : Laid → Global → Laid
laid l g = record { places = place_next l g; cells = l.cells ++ cells_to (place_next l g) g (size_of g) }

abbrev pub nothing_laid : Laid
nothing_laid = record { places = []; cells = [] }

-- no cell is kept where there are too many
unfoldable pub cells_of : List Global → List Cell
cells_of gs = if nat_lt MAX_CELLS (sum_by size_of gs) then [] else (fold laid nothing_laid gs).cells

-- ---- the result

unfoldable pub function_of : Use → Option Ident
function_of u = u.function

-- how many assertions there are, up to the greatest number of 32 bits
abbrev pub asserts_of : Side → Tree → ℕ
asserts_of side tree = min (count_by is_assertion (notes_of side tree)) 4294967295

abbrev pub globals_of : Tree → List Global
globals_of tree = flat_map globals_in tree.items

abbrev pub mutexes_of : Tree → List Ident
mutexes_of tree = flat_map mutexes_in tree.items

-- the functions of the threads from 1 on, in the order of their starts
abbrev pub starts_of : Side → Tree → List Ident
starts_of side tree = filter_map function_of (uses_of side tree)

-- what a program declares
abbrev pub declared_of : Side → Tree → Declared
declared_of side tree = record {
  cells = cells_of (globals_of tree);
  mutexes = mutexes_of tree;
  starts = starts_of side tree;
  asserts = asserts_of side tree;
}

abbrev pub in_program : Side → Tree → Declared → Checked
in_program side tree d = record {
  side = side;
  tree = tree;
  cells = d.cells;
  mutexes = d.mutexes;
  starts = d.starts;
  asserts = d.asserts;
}

-- a program, with what it declares
abbrev pub checked_of : Side → Tree → Checked
checked_of side tree = in_program side tree (declared_of side tree)
