-- The flattening of a small program, or of its woven program, case by case: a case for each statement that it has. It is what
-- the equations of flattening say, which is a law.
use Rattle.std.specs.Prelude.{◌≡◌, ℕ, ℤ, pos, ◌+◌, ◌<◌, ◌^◌, Bool, true, false, List, [], ◌∷◌, ◌++◌, length, map, find, position, codes, Option, Some, None, option_map}
use Rattle.std.specs.Str.{bytes_eq}
use Rattle.std.specs.Fmt.{decimal}
use Rattle.mm_goto.specs.declared.ident.At.{At}
use Rattle.mm_goto.specs.declared.ident.Ident.{Ident}
use Rattle.mm_goto.specs.declared.pure.Pure.{Pure}
use Rattle.mm_goto.specs.declared.pure.Binary.{Binary}
use Rattle.mm_goto.specs.declared.pure.Binary.TheVariants as binary
use Rattle.mm_goto.specs.declared.program.Target.TheVariants as target
use Rattle.mm_goto.specs.declared.program.Instr.TheVariants.{Set, Load, Store, Jump, Assert as Check, End}
use Rattle.mm_goto.specs.declared.program.Cell.{Cell}
use Rattle.mm_goto.specs.declared.program.Thread.{Thread}
use Rattle.mm_goto.specs.Listing.{Listing}
use Rattle.mm_goto.specs.Terms.{constant, the_local, combined}
use Rattle.mm_tree.specs.declared.expr.Expr.{Expr}
use Rattle.mm_tree.specs.declared.expr.Node.TheVariants as node
use Rattle.mm_tree.specs.declared.expr.Word.{Word}
use Rattle.mm_tree.specs.declared.stmt.Local.{Local}
use Rattle.mm_tree.specs.declared.stmt.Stmt.{Stmt}
use Rattle.mm_tree.specs.declared.stmt.StmtNode.TheVariants as stmt
use Rattle.mm_tree.specs.declared.stmt.Value.TheVariants as value
use Rattle.mm_tree.specs.declared.item.Gives.TheVariants as gives
use Rattle.mm_tree.specs.declared.item.Global.{Global}
use Rattle.mm_tree.specs.declared.item.Item.{Item}
use Rattle.mm_tree.specs.declared.item.Item.TheVariants as item
use Rattle.mm_tree.specs.declared.item.Tree.{Tree}
use Rattle.mm_tree.specs.declared.side.Side.{Side}
use Rattle.mm_tree.specs.Trees.{expr, statement, named_left, local as local_at}
pub use Rattle.mm_flow.specs.declared.names.Named.{Named}
pub use Rattle.mm_flow.specs.Flow.{Placed, placed}
use Rattle.mm_tree.specs.declared.side.Side.TheVariants.{Source, Output}

-- ---- code and names

abbrev pub numbered : Ident → ℕ → Named
numbered x n = record { name = x; number = n }

-- what the name stands for; of two that are alike the one in front hides the other
abbrev pub number_of : List Named → Ident → Option ℕ
number_of names x = option_map (λ n. n.number) (find (λ n. bytes_eq n.name x) names)

-- the shared cell of a name
abbrev pub cell_named : List Cell → Ident → Option ℕ
cell_named cells x = position (λ c. bytes_eq c.name x) cells

-- what is known before a statement: the locals by their names, the next fresh local, how many assertions stand before it,
-- and the labels before it with their places
pub record Known : Type 0 where
  pub locals : List Named
  pub next : ℕ
  pub asserts : ℕ
  pub labels : List Named

abbrev pub nothing_known : Known
nothing_known = record { locals = []; next = 0; asserts = 0; labels = [] }

-- what does not change within a function: all its code, and all its labels
pub record Around : Type 0 where
  pub side : Side
  pub cells : List Cell
  pub code : List Placed
  pub labels : List Named

-- the same, part by part
abbrev pub around : Side → List Cell → List Placed → List Named → Around
around side cells code labels = record { side = side; cells = cells; code = code; labels = labels }

-- ---- expressions

-- it neither may fail nor leaves its second operand out
abbrev pub is_total : Binary → Bool
is_total binary.Div = false
is_total binary.Rem = false
is_total binary.Land = false
is_total binary.Lor = false
is_total _ = true

-- Where n is the next fresh local, the code in front of the rest reads what the expression needs, and the pure expression is
-- its value then. Another local is the next behind it.
pub data IsValue (cells : List Cell) (locals : List Named) : ℕ → Expr → List Placed → Pure → ℕ → List Placed → Type 0 where
  number : {n : ℕ} {at : At} {z : ℤ} {rest : List Placed} → IsValue cells locals n (expr at (node.Number z)) rest (constant z) n rest
  local : {n l : ℕ} {at : At} {x : Ident} {rest : List Placed}
      → number_of locals x ≡ Some l
      → IsValue cells locals n (expr at (node.Name x)) rest (the_local l) n rest
  global : {n c : ℕ} {at : At} {x : Ident} {rest : List Placed}
      → number_of locals x ≡ None
      → cell_named cells x ≡ Some c
      → IsValue cells locals n (expr at (node.Name x)) (placed at (Load n (target.Cell c)) ∷ rest) (the_local n) (n + 1) rest
  operation : {n m k : ℕ} {at : At} {op : Binary} {a b : Expr} {p q : Pure} {is mid rest : List Placed}
      → is_total op ≡ true
      → IsValue cells locals n a is p m mid
      → IsValue cells locals m b mid q k rest
      → IsValue cells locals n (expr at (node.Bin op a b)) is (combined op p q) k rest

-- ---- statements

abbrev pub bare_local : At → Ident → Local
bare_local at x = local_at at false x None

abbrev pub with_local : Known → Ident → Known
with_local k x = record k { locals = numbered x k.next ∷ k.locals; next = k.next + 1 }

abbrev pub with_label : Known → Ident → ℕ → Known
with_label k x m = record k { labels = numbered x m ∷ k.labels }

-- the code of the declarations of some locals, each of which is 0 at first
pub data AreDeclared : Known → List Local → List Placed → Known → List Placed → Type 0 where
  none : {k : Known} {rest : List Placed} → AreDeclared k [] rest k rest
  bare : {k j : Known} {at : At} {x : Ident} {ls : List Local} {is rest : List Placed}
      → AreDeclared (with_local k x) ls is j rest
      → AreDeclared k (bare_local at x ∷ ls) (placed at (Set k.next (constant (pos 0))) ∷ is) j rest

-- The number of an assertion: in a source they are counted from 1 in the order of the text, and in an output the text of each
-- has its number.
abbrev pub IsAssertion : Side → ℕ → Option Ident → ℕ → Type 0
IsAssertion Source before text n = n ≡ before + 1
IsAssertion Output before text n = (n < 2 ^ 32) × (text ≡ Some (codes "assertion " ++ decimal n))

-- the instructions with which the code ends begin at place m
abbrev pub IsPlace : Around → List Placed → ℕ → Type 0
IsPlace f is m = length f.code ≡ m + length is

-- the code of a statement in front of the rest, and what is known behind it
pub data IsCode (f : Around) : Known → Stmt → List Placed → Known → List Placed → Type 0 where
  declare : {k j : Known} {at : At} {ls : List Local} {is rest : List Placed}
      → AreDeclared k ls is j rest
      → IsCode f k (statement at (stmt.Declare ls)) is j rest
  set : {k : Known} {at there : At} {x : Ident} {e : Expr} {p : Pure} {l n : ℕ} {is rest : List Placed}
      → number_of k.locals x ≡ Some l
      → IsValue f.cells k.locals k.next e is p n (placed there (Set l p) ∷ rest)
      → IsCode f k (statement at (stmt.Assign (named_left there x) (value.Plain e))) is (record k { next = n }) rest
  store : {k : Known} {at there : At} {x : Ident} {e : Expr} {p : Pure} {c n : ℕ} {is rest : List Placed}
      → number_of k.locals x ≡ None
      → cell_named f.cells x ≡ Some c
      → IsValue f.cells k.locals k.next e is p n (placed there (Store (target.Cell c) p) ∷ rest)
      → IsCode f k (statement at (stmt.Assign (named_left there x) (value.Plain e))) is (record k { next = n }) rest
  assert : {k : Known} {at : At} {e : Expr} {text : Option Ident} {p : Pure} {m n : ℕ} {is rest : List Placed}
      → IsAssertion f.side k.asserts text m
      → IsValue f.cells k.locals k.next e is p n (placed at (Check p m) ∷ rest)
      → IsCode f k (statement at (stmt.Assert e text)) is (record k { next = n; asserts = k.asserts + 1 }) rest
  goto : {k : Known} {at : At} {w : Word} {m : ℕ} {rest : List Placed}
      → number_of f.labels w.name ≡ Some m
      → IsCode f k (statement at (stmt.Goto w)) (placed at (Jump m) ∷ rest) k rest
  label : {k j : Known} {at : At} {w : Word} {s : Stmt} {m : ℕ} {is rest : List Placed}
      → IsPlace f is m
      → IsCode f (with_label k w.name m) s is j rest
      → IsCode f k (statement at (stmt.Label w s)) is j rest
  return : {k : Known} {at : At} {e : Expr} {p : Pure} {m n : ℕ} {is rest : List Placed}
      → IsValue f.cells k.locals k.next e is p n (placed at (Jump m) ∷ rest)
      → length f.code ≡ m + 1
      → IsCode f k (statement at (stmt.Return (Some (value.Plain e)))) is (record k { next = n }) rest

-- the code of statements, one after another
pub data AreCode (f : Around) : Known → List Stmt → List Placed → Known → List Placed → Type 0 where
  none : {k : Known} {rest : List Placed} → AreCode f k [] rest k rest
  more : {k j l : Known} {s : Stmt} {ss : List Stmt} {is mid rest : List Placed}
      → IsCode f k s is j mid
      → AreCode f j ss mid l rest
      → AreCode f k (s ∷ ss) is l rest

-- ---- programs

-- the start value of a variable: 0 where the text has none
abbrev pub start_value : List Expr → ℤ → Type 0
start_value [] z = z ≡ pos 0
start_value (e ∷ []) z = (at : At) × (e ≡ expr at (node.Number z))
start_value (e ∷ f ∷ es) z = ⊥

-- an int that is no array
abbrev pub int_global : At → Ident → List Expr → Global
int_global at x es = record { at = at; pointer = false; name = x; len = None; init = es }

abbrev pub int_cell : Ident → ℤ → Cell
int_cell x z = record { name = x; index = None; pointer = false; init = constant z }

-- the cells of some variables, in front of others
pub data AreVariables : List Global → List Cell → List Cell → Type 0 where
  none : {others : List Cell} → AreVariables [] others others
  int : {at : At} {x : Ident} {es : List Expr} {gs : List Global} {cells others : List Cell} (z : ℤ)
      → start_value es z
      → AreVariables gs cells others
      → AreVariables (int_global at x es ∷ gs) (int_cell x z ∷ cells) others

-- the cells that the items in front of others declare
pub data AreCells : List Item → List Cell → List Item → Type 0 where
  none : {others : List Item} → AreCells others [] others
  globals : {gs : List Global} {is others : List Item} {cells mid : List Cell}
      → AreVariables gs cells mid
      → AreCells is mid others
      → AreCells (item.Globals gs ∷ is) cells others
  input : {at : At} {x : Ident} {is others : List Item} {cells : List Cell}
      → AreCells is cells others
      → AreCells (item.InputDecl at x ∷ is) cells others

abbrev pub main_item : At → List Stmt → Item
main_item at body = item.Function at gives.Int (codes "main") [] body

-- the thread of main: the code of its body, and behind it the end, which stands at its name
pub record IsMain (side : Side) (cells : List Cell) (at : At) (body : List Stmt) (thread : Thread) : Type 0 where
  pub code : List Placed
  pub last : Known
  pub body_code : AreCode (record { side = side; cells = cells; code = code; labels = last.labels })
      nothing_known body code last (placed at End ∷ [])
  pub instrs : thread.code ≡ map (λ i. i.instr) code
  pub places : thread.places ≡ map (λ i. i.at) code
  pub locals : thread.locals ≡ last.next

-- the goto program of a tree whose only function is main, and whose cells have numbers of 32 bits
pub record IsFlat (side : Side) (tree : Tree) (p : Listing) : Type 0 where
  pub at : At
  pub body : List Stmt
  pub thread : Thread
  pub cells : AreCells tree.items p.cells (main_item at body ∷ [])
  pub few : length p.cells < 2 ^ 32
  pub mutexes : p.mutexes ≡ []
  pub main : IsMain side p.cells at body thread
  pub threads : p.threads ≡ thread ∷ []
