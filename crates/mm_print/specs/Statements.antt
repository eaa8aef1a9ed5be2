-- The printed form of statements.
use Rattle.std.specs.Prelude.{ℕ, suc, Bool, true, false, List, [], ◌∷◌, ◌++◌, map, Option, Some, None}
use Rattle.std.specs.List.{flat_map}
use Rattle.mm_goto.specs.declared.ident.Ident.{Ident}
use Rattle.mm_goto.specs.declared.pure.Binary.TheVariants as binary
use Rattle.mm_tree.specs.declared.expr.Expr.{Expr}
use Rattle.mm_tree.specs.declared.expr.Word.{Word}
use Rattle.mm_tree.specs.declared.stmt.LeftNode.{LeftNode}
use Rattle.mm_tree.specs.declared.stmt.LeftNode.TheVariants as left
use Rattle.mm_tree.specs.declared.stmt.Local.{Local}
use Rattle.mm_tree.specs.declared.stmt.Stmt.{Stmt, fold-Stmt}
use Rattle.mm_tree.specs.declared.stmt.StmtNode.TheOpen.{StmtNode-F, Stmt-F, Empty, Block, Declare, DeclareThread, Assign, Update, Do, If, While, DoWhile, For, Break, Continue, Return, Assert, Assume, Fence, Lock, Unlock, Start, Join, Goto, Label, AtomBegin, AtomEnd}
use Rattle.mm_tree.specs.declared.stmt.Value.{Value}
use Rattle.mm_tree.specs.declared.stmt.Value.TheVariants as value
use Rattle.mm_parse_expr.specs.declared.symbol.Keyword.{Keyword}
use Rattle.mm_parse_expr.specs.declared.symbol.Keyword.TheVariants as keyword
use Rattle.mm_parse_expr.specs.declared.symbol.Symbol.TheVariants as symbol
use Rattle.mm_print.specs.Pieces.{Piece, spaced, commas, called, subscript, semicolon}
use Rattle.mm_print.specs.Expressions.{written, expr_pieces, operand, address, in_parentheses}

-- ---- the parts of statements

abbrev pub left_pieces : LeftNode → List Piece
left_pieces (left.Name x) = Piece.name x ∷ []
left_pieces (left.Index x e) = Piece.name x ∷ subscript (expr_pieces e)
left_pieces (left.Deref e) = Piece.mark (symbol.Operator binary.Mul) ∷ operand (written e)

abbrev pub value_pieces : Value → List Piece
value_pieces (value.Plain e) = expr_pieces e
value_pieces (value.Call at x es) = called (Piece.name x) (commas (map expr_pieces es))
value_pieces (value.FetchAdd at p e) = called (Piece.word keyword.FetchAndAdd) (commas (map expr_pieces (p ∷ e ∷ [])))
value_pieces (value.CompareSwap at p e f) =
    called (Piece.word keyword.CompareAndSwap) (commas (map expr_pieces (p ∷ e ∷ f ∷ [])))

-- the mark of a pointer
abbrev pub star : Bool → List Piece
star true = Piece.mark (symbol.Operator binary.Mul) ∷ []
star false = []

-- the start value, if there is one
abbrev pub set_to : Option Value → List Piece
set_to None = []
set_to (Some v) = spaced symbol.Assign (value_pieces v)

abbrev pub local_pieces : Local → List Piece
local_pieces l = star l.pointer ++ Piece.name l.name ∷ set_to l.value

abbrev pub name_pieces : Word → List Piece
name_pieces w = Piece.name w.name ∷ []

-- the word behind which names are declared, and these
abbrev pub declared : Keyword → List (List Piece) → List Piece
declared k pss = Piece.word k ∷ Piece.blank ∷ commas pss

-- a condition behind its word
abbrev pub tested : Keyword → Expr → List Piece
tested k e = Piece.word k ∷ Piece.blank ∷ in_parentheses (expr_pieces e)

-- an assertion of CBMC has a text
abbrev pub assertion : Expr → Option Ident → List Piece
assertion e None = called (Piece.word keyword.Assert) (expr_pieces e)
assertion e (Some x) = called (Piece.word keyword.ProverAssert) (commas (expr_pieces e ∷ (Piece.quoted x ∷ []) ∷ []))

abbrev pub returned : Option Value → List Piece
returned None = Piece.word keyword.Return ∷ []
returned (Some v) = Piece.word keyword.Return ∷ Piece.blank ∷ value_pieces v

-- an argument that is not used
abbrev pub zero_argument : List Piece
zero_argument = Piece.number 0 ∷ []

-- ---- lines

-- a statement within so many open blocks, but for the semicolon at its end, and whether it has one
pub record Layout : Type 0 where
  pub body : ℕ → List Piece
  pub simple : Bool

abbrev pub ended : Bool → List Piece → List Piece
ended true ps = ps ++ semicolon
ended false ps = ps

-- the whole statement
abbrev pub whole : Layout → ℕ → List Piece
whole w n = ended w.simple (w.body n)

-- each statement on a line of its own
abbrev pub lines : ℕ → List Layout → List Piece
lines n ws = flat_map (λ w. Piece.line n ∷ whole w n) ws

abbrev pub braces : ℕ → List Layout → List Piece
braces n ws =
    Piece.mark symbol.OpenBrace ∷ lines (suc n) ws ++ Piece.line n ∷ Piece.mark symbol.CloseBrace ∷ []

-- `else` and its statement, if there is one
abbrev pub otherwise : Option Layout → ℕ → List Piece
otherwise None n = []
otherwise (Some w) n = Piece.blank ∷ Piece.word keyword.Else ∷ Piece.blank ∷ whole w n

-- the three parts in the head of a `for`
abbrev pub first_part : Option Layout → ℕ → List Piece
first_part None n = []
first_part (Some w) n = w.body n

abbrev pub test_part : Option Expr → List Piece
test_part None = []
test_part (Some e) = Piece.blank ∷ expr_pieces e

abbrev pub step_part : Option Layout → ℕ → List Piece
step_part None n = []
step_part (Some w) n = Piece.blank ∷ w.body n

-- each but the last has a semicolon behind it
abbrev pub loop_head : Option Layout → Option Expr → Option Layout → ℕ → List Piece
loop_head first e step n =
    Piece.word keyword.For ∷ Piece.blank ∷ Piece.mark symbol.Open ∷ first_part first n
    ++ (Piece.mark symbol.Semicolon ∷ test_part e ++ semicolon)
    ++ (step_part step n ++ Piece.mark symbol.Close ∷ [])

abbrev pub simply : List Piece → Layout
simply ps = record { body = λ n. ps; simple = true }

-- a statement by its printed parts
abbrev pub layout_step : StmtNode-F Layout Layout → Layout
layout_step Empty = simply []
layout_step (Block ws) = record { body = λ n. braces n ws; simple = false }
layout_step (Declare ls) = simply (declared keyword.Int (map local_pieces ls))
layout_step (DeclareThread ws) = simply (declared keyword.Thread (map name_pieces ws))
layout_step (Assign l v) = simply (left_pieces l.node ++ spaced symbol.Assign (value_pieces v))
layout_step (Update l op e) = simply (left_pieces l.node ++ spaced (symbol.Update op) (expr_pieces e))
layout_step (Do v) = simply (value_pieces v)
layout_step (If e w other) = record {
  body = λ n. tested keyword.If e ++ Piece.blank ∷ (whole w n ++ otherwise other n);
  simple = false;
}
layout_step (While e w) = record { body = λ n. tested keyword.While e ++ Piece.blank ∷ whole w n; simple = false }
layout_step (DoWhile w e) = record {
  body = λ n. Piece.word keyword.Do ∷ Piece.blank ∷ whole w n ++ Piece.blank ∷ tested keyword.While e;
  simple = true;
}
layout_step (For first e step w) = record { body = λ n. loop_head first e step n ++ Piece.blank ∷ whole w n; simple = false }
layout_step Break = simply (Piece.word keyword.Break ∷ [])
layout_step Continue = simply (Piece.word keyword.Continue ∷ [])
layout_step (Return v) = simply (returned v)
layout_step (Assert e x) = simply (assertion e x)
layout_step (Assume e) = simply (called (Piece.word keyword.Assume) (expr_pieces e))
layout_step Fence = simply (called (Piece.word keyword.Synchronize) [])
layout_step (Lock w) = simply (called (Piece.word keyword.Lock) (address w.name))
layout_step (Unlock w) = simply (called (Piece.word keyword.Unlock) (address w.name))
layout_step (Start w f) =
    simply (called (Piece.word keyword.Create) (commas (address w.name ∷ zero_argument ∷ name_pieces f ∷ zero_argument ∷ [])))
layout_step (Join w) = simply (called (Piece.word keyword.Join) (commas (name_pieces w ∷ zero_argument ∷ [])))
layout_step (Goto w) = simply (Piece.word keyword.Goto ∷ Piece.blank ∷ Piece.name w.name ∷ [])
layout_step (Label w v) = record {
  body = λ n. Piece.name w.name ∷ Piece.mark symbol.Colon ∷ Piece.blank ∷ whole v n;
  simple = false;
}
layout_step AtomBegin = simply (called (Piece.word keyword.AtomicBegin) [])
layout_step AtomEnd = simply (called (Piece.word keyword.AtomicEnd) [])

abbrev pub layout_inner : Stmt-F Layout Layout → Layout
layout_inner s = s.node

-- one simple statement a line; a body that is a block has its brace at the line's end
unfoldable pub layout : Stmt → Layout
layout = fold-Stmt Layout Layout layout_step layout_inner

abbrev pub stmt_pieces : Stmt → ℕ → List Piece
stmt_pieces s n = whole (layout s) n
