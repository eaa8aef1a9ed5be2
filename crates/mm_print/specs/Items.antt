-- The printed form of items and of whole programs.
use Rattle.std.specs.Prelude.{ℕ, ℤ, List, [], ◌∷◌, ◌++◌, map, Option, Some, None}
use Rattle.std.specs.List.{flat_map}
use Rattle.mm_goto.specs.declared.shape.Head.{Head}
use Rattle.mm_goto.specs.declared.pure.Binary.TheVariants as binary
use Rattle.mm_tree.specs.declared.expr.Expr.{Expr}
use Rattle.mm_tree.specs.declared.expr.Word.{Word}
use Rattle.mm_tree.specs.declared.item.Gives.{Gives}
use Rattle.mm_tree.specs.declared.item.Gives.TheVariants as gives
use Rattle.mm_tree.specs.declared.item.Global.{Global}
use Rattle.mm_tree.specs.declared.item.Item.{Item}
use Rattle.mm_tree.specs.declared.item.Item.TheVariants as item
use Rattle.mm_tree.specs.declared.item.Param.{Param}
use Rattle.mm_tree.specs.declared.item.Tree.{Tree}
use Rattle.mm_parse_expr.specs.declared.symbol.Keyword.{Keyword}
use Rattle.mm_parse_expr.specs.declared.symbol.Keyword.TheVariants as keyword
use Rattle.mm_parse_expr.specs.declared.symbol.Symbol.TheVariants as symbol
use Rattle.mm_print.specs.HeadLines.{head_lines}
use Rattle.mm_print.specs.Pieces.{Piece, text, spaced, commas, subscript, semicolon}
use Rattle.mm_print.specs.Expressions.{expr_pieces, number_pieces}
use Rattle.mm_print.specs.Statements.{star, name_pieces, declared, braces, layout}

-- ---- variables

-- the length of an array
abbrev pub length_pieces : Option ℤ → List Piece
length_pieces None = []
length_pieces (Some n) = subscript (number_pieces n)

-- the start values, those of an array in braces
abbrev pub init_pieces : Option ℤ → List Expr → List Piece
init_pieces len [] = []
init_pieces None (e ∷ es) = spaced symbol.Assign (commas (map expr_pieces (e ∷ es)))
init_pieces (Some n) (e ∷ es) =
    spaced symbol.Assign (Piece.mark symbol.OpenBrace ∷ commas (map expr_pieces (e ∷ es)) ++ Piece.mark symbol.CloseBrace ∷ [])

abbrev pub global_pieces : Global → List Piece
global_pieces g = star g.pointer ++ Piece.name g.name ∷ (length_pieces g.len ++ init_pieces g.len g.init)

abbrev pub mutex_pieces : Word → List Piece
mutex_pieces w = Piece.name w.name ∷ spaced symbol.Assign (Piece.word keyword.MutexInitializer ∷ [])

-- ---- functions

-- the type that a function gives, and what stands between it and the name
abbrev pub gives_pieces : Gives → List Piece
gives_pieces gives.Int = Piece.word keyword.Int ∷ Piece.blank ∷ []
gives_pieces gives.Pointer = Piece.word keyword.Int ∷ Piece.blank ∷ Piece.mark (symbol.Operator binary.Mul) ∷ []
gives_pieces gives.Nothing = Piece.word keyword.Void ∷ Piece.blank ∷ []
gives_pieces gives.Thread = Piece.word keyword.Void ∷ Piece.blank ∷ Piece.mark (symbol.Operator binary.Mul) ∷ []

-- a function of a thread takes `void *`
abbrev pub param_word : Gives → Keyword
param_word gives.Int = keyword.Int
param_word gives.Pointer = keyword.Int
param_word gives.Nothing = keyword.Int
param_word gives.Thread = keyword.Void

abbrev pub param_pieces : Gives → Param → List Piece
param_pieces kind p = Piece.word (param_word kind) ∷ Piece.blank ∷ star p.pointer ++ Piece.name p.name.name ∷ []

-- `void` where there are no parameters
abbrev pub params_pieces : Gives → List Param → List Piece
params_pieces kind [] = Piece.word keyword.Void ∷ []
params_pieces kind (p ∷ ps) = commas (map (param_pieces kind) (p ∷ ps))

-- ---- items

abbrev pub item_pieces : Item → List Piece
item_pieces (item.Globals gs) = declared keyword.Int (map global_pieces gs) ++ semicolon
item_pieces (item.Mutexes ws) = declared keyword.Mutex (map mutex_pieces ws) ++ semicolon
item_pieces (item.Threads ws) = declared keyword.Thread (map name_pieces ws) ++ semicolon
item_pieces (item.InputDecl at x) =
    Piece.word keyword.Int ∷ Piece.blank ∷ Piece.name x ∷ Piece.mark symbol.Open ∷ Piece.mark symbol.Close ∷ semicolon
item_pieces (item.Function at kind x ps ss) =
    gives_pieces kind ++ Piece.name x ∷ Piece.mark symbol.Open ∷ params_pieces kind ps
    ++ Piece.mark symbol.Close ∷ Piece.blank ∷ braces 0 (map layout ss)

-- each item ends its line
abbrev pub items_pieces : List Item → List Piece
items_pieces is = flat_map (λ i. item_pieces i ++ Piece.line 0 ∷ []) is

-- ---- the whole

-- the head of a program, and its items
abbrev pub printed_text : Tree → Head → List ℕ
printed_text tree head = head_lines head ++ text (items_pieces tree.items)
