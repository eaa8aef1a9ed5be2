-- The printed form of expressions.
use Rattle.std.specs.Prelude.{ℕ, suc, ℤ, pos, negsuc, Bool, true, false, List, [], ◌∷◌, ◌++◌}
use Rattle.mm_goto.specs.declared.pure.Binary.TheVariants as binary
use Rattle.mm_tree.specs.declared.expr.Expr.{Expr, fold-Expr}
use Rattle.mm_tree.specs.declared.expr.Node.TheOpen.{Node-F, Expr-F, Number, Null, Name, Index, Deref, AddrName, AddrIndex, Un, Bin, Cond}
use Rattle.mm_parse_expr.specs.declared.symbol.Symbol.TheVariants as symbol
use Rattle.mm_print.specs.Pieces.{Piece, sign_of, spaced, subscript}

-- an expression by itself, and whether it has parentheses as an operand
pub record Written : Type 0 where
  pub pieces : List Piece
  pub compound : Bool

abbrev pub in_parentheses : List Piece → List Piece
in_parentheses ps = Piece.mark symbol.Open ∷ ps ++ Piece.mark symbol.Close ∷ []

abbrev pub enclosed : Bool → List Piece → List Piece
enclosed true ps = in_parentheses ps
enclosed false ps = ps

-- the expression as an operand
abbrev pub operand : Written → List Piece
operand w = enclosed w.compound w.pieces

-- the address of a variable
abbrev pub address : List ℕ → List Piece
address x = Piece.mark (symbol.Operator binary.And) ∷ Piece.name x ∷ []

-- a number, with a mark before one below 0
abbrev pub number_pieces : ℤ → List Piece
number_pieces (pos n) = Piece.number n ∷ []
number_pieces (negsuc n) = Piece.mark (symbol.Operator binary.Sub) ∷ Piece.number (suc n) ∷ []

-- an expression by its printed parts
abbrev pub written_step : Node-F Written Written → Written
written_step (Number n) = record { pieces = number_pieces n; compound = false }
written_step Null = record { pieces = Piece.null ∷ []; compound = false }
written_step (Name x) = record { pieces = Piece.name x ∷ []; compound = false }
written_step (Index x e) = record { pieces = Piece.name x ∷ subscript e.pieces; compound = false }
written_step (Deref e) = record { pieces = Piece.mark (symbol.Operator binary.Mul) ∷ operand e; compound = true }
written_step (AddrName w) = record { pieces = address w.name; compound = true }
written_step (AddrIndex w e) = record { pieces = address w.name ++ subscript e.pieces; compound = true }
written_step (Un op e) = record { pieces = Piece.mark (sign_of op) ∷ operand e; compound = true }
written_step (Bin op e f) = record { pieces = operand e ++ spaced (symbol.Operator op) (operand f); compound = true }
written_step (Cond c e f) = record {
  pieces = operand c ++ spaced symbol.Question (operand e ++ spaced symbol.Colon (operand f));
  compound = true;
}

abbrev pub written_inner : Expr-F Written Written → Written
written_inner e = e.node

-- operands that are themselves made of parts have parentheses, and nothing else has
unfoldable pub written : Expr → Written
written = fold-Expr Written Written written_step written_inner

abbrev pub expr_pieces : Expr → List Piece
expr_pieces e = (written e).pieces
