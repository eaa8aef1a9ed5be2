-- The trees of small programs: main alone, over ints that are declared before it, each by itself.
--
--   int x; int y;
--   int main(void) { x = 1; y = x; assert(y == 1); return 0; }
--
-- A statement stores a number or what a variable has, or asserts that a variable has a number.
use Rattle.std.specs.Prelude.{◌≡◌, ℕ, ℤ, pos, ◌<◌, ◌≤◌, ◌^◌, ◌==◌, int_lt, Bool, true, false, ◌&&◌, if◌then◌else◌, is_none, IsTrue, List, [], ◌∷◌, All, length, position, sum_by, codes, Option, Some, None, option_and_then, option_map}
use Rattle.std.specs.Int.{w32, cast_unsigned}
use Rattle.std.specs.Str.{bytes_eq}
use Rattle.mm_goto.specs.declared.ident.At.{At}
use Rattle.mm_goto.specs.declared.ident.Ident.{Ident}
use Rattle.mm_goto.specs.declared.pure.Binary.TheVariants as binary
use Rattle.mm_goto.specs.Names.{IsDeclarable}
use Rattle.mm_tree.specs.declared.expr.Expr.{Expr}
use Rattle.mm_tree.specs.declared.expr.Node.{Node}
use Rattle.mm_tree.specs.declared.expr.Node.TheOpen.{Node-F}
use Rattle.mm_tree.specs.declared.expr.Node.TheOpen as node
use Rattle.mm_tree.specs.declared.stmt.LeftNode.{LeftNode}
use Rattle.mm_tree.specs.declared.stmt.LeftNode.TheVariants as left
use Rattle.mm_tree.specs.declared.stmt.Stmt.{Stmt, out-Stmt}
use Rattle.mm_tree.specs.declared.stmt.StmtNode.{StmtNode, out-StmtNode}
use Rattle.mm_tree.specs.declared.stmt.StmtNode.TheOpen.{StmtNode-F}
use Rattle.mm_tree.specs.declared.stmt.StmtNode.TheOpen as stmt
use Rattle.mm_tree.specs.declared.stmt.Value.{Value}
use Rattle.mm_tree.specs.declared.stmt.Value.TheVariants as value
use Rattle.mm_tree.specs.declared.item.Gives.{Gives}
use Rattle.mm_tree.specs.declared.item.Gives.TheVariants as gives
use Rattle.mm_tree.specs.declared.item.Global.{Global}
use Rattle.mm_tree.specs.declared.item.Item.{Item}
use Rattle.mm_tree.specs.declared.item.Item.TheVariants as item
use Rattle.mm_tree.specs.declared.item.Param.{Param}
use Rattle.mm_tree.specs.declared.item.Tree.{Tree}
use Rattle.mm_tree.specs.Trees.{place_of, node_of}
use Rattle.mm_small.specs.declared.tree.Statement.{Statement}
use Rattle.mm_small.specs.declared.tree.Statement.TheVariants as statement
use Rattle.mm_small.specs.declared.tree.Small.{Small}
use Rattle.mm_small.specs.declared.tree.Body.{Body}
use Rattle.mm_small.specs.declared.tree.TheConstants.{MAX_VARIABLES, MAX_SITES}

-- the number of a variable
abbrev pub variable_number : List Ident → Ident → Option ℕ
variable_number variables x = position (λ v. bytes_eq v x) variables

-- ---- statements

-- a number, or what a variable has, is stored in variable c
abbrev pub stored : List Ident → At → ℕ → At → Node-F Node Expr → Option Statement
stored variables at c from_at (node.Number z) = if int_lt z (pos 0) then None else Some (statement.Number at c z)
stored variables at c from_at (node.Name y) = option_map (λ d. statement.Variable at c from_at d) (variable_number variables y)
stored variables at c from_at _ = None

abbrev pub assignment : List Ident → At → LeftNode → Value → Option Statement
assignment variables at (left.Name x) (value.Plain e) =
    option_and_then (λ c. stored variables at c (place_of e) (node_of e)) (variable_number variables x)
assignment variables at _ _ = None

-- a variable on the left, and a number on the right
abbrev pub compared : List Ident → At → At → Node-F Node Expr → Node-F Node Expr → Option Statement
compared variables at cell_at (node.Name x) (node.Number z) =
    if int_lt z (pos 0) then None else option_map (λ c. statement.Assert at cell_at c z) (variable_number variables x)
compared variables at cell_at _ _ = None

abbrev pub assertion : List Ident → At → Node-F Node Expr → Option Statement
assertion variables at (node.Bin binary.Eq a b) = compared variables at (place_of a) (node_of a) (node_of b)
assertion variables at _ = None

abbrev pub statement_in : List Ident → At → StmtNode-F StmtNode Stmt → Option Statement
statement_in variables at (stmt.Assign l v) = assignment variables l.at l.node v
statement_in variables at (stmt.Assert e None) = assertion variables at (node_of e)
statement_in variables at _ = None

abbrev pub statement_of : List Ident → Stmt → Option Statement
statement_of variables s = statement_in variables (out-Stmt s).at (out-StmtNode (out-Stmt s).node)

abbrev pub is_zero : Node-F Node Expr → Bool
is_zero (node.Number z) = cast_unsigned w32 z == 0
is_zero _ = false

abbrev pub return_in : At → StmtNode-F StmtNode Stmt → Option At
return_in at (stmt.Return (Some (value.Plain e))) = if is_zero (node_of e) then Some at else None
return_in at _ = None

-- the place of `return 0`
abbrev pub return_of : Stmt → Option At
return_of s = return_in (out-Stmt s).at (out-StmtNode (out-Stmt s).node)

-- a statement stands before the others of the body
abbrev pub statement_before : Statement → Body → Body
statement_before s b = record { statements = s ∷ b.statements; return_at = b.return_at }

-- the statements of a body that ends with `return 0`
abbrev pub body_of : List Ident → List Stmt → Option Body
body_of variables [] = None
body_of variables (s ∷ []) = option_map (λ at. record { statements = []; return_at = at }) (return_of s)
body_of variables (s ∷ t ∷ ss) =
    option_and_then (λ x. option_map (statement_before x) (body_of variables (t ∷ ss))) (statement_of variables s)

-- ---- items

-- an int that is no array and has no start value
abbrev pub declared : Global → Option Ident
declared g = bare g.pointer g.len g.init
  where
    bare : Bool → Option ℤ → List Expr → Option Ident
    bare false None [] = Some g.name
    bare _ _ _ = None

abbrev pub variable_of : Item → Option Ident
variable_of (item.Globals (g ∷ [])) = declared g
variable_of _ = None

abbrev pub whole : List Ident → At → Body → Small
whole variables at b = record { variables = variables; body = b.statements; main_at = at; return_at = b.return_at }

abbrev pub main_in : List Ident → At → Gives → Ident → List Param → List Stmt → Option Small
main_in variables at gives.Int x [] body =
    if bytes_eq x (codes "main") then option_map (whole variables at) (body_of variables body) else None
main_in variables at _ x _ body = None

abbrev pub main_of : List Ident → Item → Option Small
main_of variables (item.Function at kind x params body) = main_in variables at kind x params body
main_of variables _ = None

-- the variables that the items before the last declare
abbrev pub variables_in : List Item → Option (List Ident)
variables_in [] = None
variables_in (i ∷ []) = Some []
variables_in (i ∷ j ∷ is) = option_and_then (λ x. option_map (λ xs. x ∷ xs) (variables_in (j ∷ is))) (variable_of i)

abbrev pub last_item : List Item → Option Item
last_item [] = None
last_item (i ∷ []) = Some i
last_item (i ∷ j ∷ is) = last_item (j ∷ is)

-- variables, and last of all main, whose body may name each of them
abbrev pub small_of : Tree → Option Small
small_of tree = option_and_then (λ variables. option_and_then (main_of variables) (last_item tree.items)) (variables_in tree.items)

-- ---- limits

abbrev pub are_distinct : List Ident → Bool
are_distinct [] = true
are_distinct (v ∷ vs) = is_none (variable_number vs v) && are_distinct vs

-- a source may declare each of the variables, each is declared once, and they are not too many
pub record AreVariables (vs : List Ident) : Type 0 where
  pub declarable : All IsDeclarable vs
  pub distinct : IsTrue (are_distinct vs)
  pub few : length vs ≤ MAX_VARIABLES

-- how many sites a statement has: each access of a variable is one
abbrev pub sites : Statement → ℕ
sites (statement.Number at c z) = 1
sites (statement.Variable at c from_at d) = 2
sites (statement.Assert at cell_at c z) = 1

-- a number that a text may have
abbrev pub IsNumber : ℤ → Type 0
IsNumber z = (m : ℕ) × (m < 2 ^ 31) × (z ≡ pos m)

-- the statement names only the first n variables, and its number is one that a text may have
abbrev pub IsStatementIn : ℕ → Statement → Type 0
IsStatementIn n (statement.Number at c z) = (c < n) × IsNumber z
IsStatementIn n (statement.Variable at c from_at d) = (c < n) × (d < n)
IsStatementIn n (statement.Assert at cell_at c z) = (c < n) × IsNumber z

pub record IsWithinLimits (p : Small) : Type 0 where
  pub variables : AreVariables p.variables
  pub sites : sum_by sites p.body ≤ MAX_SITES
  pub statements : All (IsStatementIn (length p.variables)) p.body
