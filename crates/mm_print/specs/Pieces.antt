-- What a printed text is made of: tokens, and the gaps between them.
use Rattle.std.specs.Prelude.{ℕ, zero, suc, List, [], ◌∷◌, ◌++◌, codes}
use Rattle.std.specs.Fmt.{decimal}
use Rattle.std.specs.List.{flat_map}
use Rattle.mm_goto.specs.declared.pure.Unary.{Unary}
use Rattle.mm_goto.specs.declared.pure.Unary.TheVariants as unary
use Rattle.mm_goto.specs.declared.pure.Binary.{Binary}
use Rattle.mm_goto.specs.declared.pure.Binary.TheVariants as binary
use Rattle.mm_parse_expr.specs.declared.symbol.Keyword.{Keyword}
use Rattle.mm_parse_expr.specs.declared.symbol.Keyword.TheVariants as keyword
use Rattle.mm_parse_expr.specs.declared.symbol.Symbol.{Symbol}
use Rattle.mm_parse_expr.specs.declared.symbol.Symbol.TheVariants as symbol

-- a blank, a new line within so many open blocks, or a token
pub data Piece : Type 0 where
  blank : Piece
  line : ℕ → Piece
  word : Keyword → Piece
  null : Piece
  name : List ℕ → Piece
  number : ℕ → Piece
  quoted : List ℕ → Piece
  mark : Symbol → Piece

-- ---- words and marks (ISO C, POSIX threads, GCC's atomic built-ins, CBMC)

unfoldable pub keyword_text : Keyword → List ℕ
keyword_text keyword.Int = codes "int"
keyword_text keyword.Void = codes "void"
keyword_text keyword.Static = codes "static"
keyword_text keyword.Volatile = codes "volatile"
keyword_text keyword.Extern = codes "extern"
keyword_text keyword.If = codes "if"
keyword_text keyword.Else = codes "else"
keyword_text keyword.While = codes "while"
keyword_text keyword.Do = codes "do"
keyword_text keyword.For = codes "for"
keyword_text keyword.Break = codes "break"
keyword_text keyword.Continue = codes "continue"
keyword_text keyword.Return = codes "return"
keyword_text keyword.Goto = codes "goto"
keyword_text keyword.Assert = codes "assert"
keyword_text keyword.Thread = codes "pthread_t"
keyword_text keyword.Mutex = codes "pthread_mutex_t"
keyword_text keyword.MutexInitializer = codes "PTHREAD_MUTEX_INITIALIZER"
keyword_text keyword.Create = codes "pthread_create"
keyword_text keyword.Join = codes "pthread_join"
keyword_text keyword.Lock = codes "pthread_mutex_lock"
keyword_text keyword.Unlock = codes "pthread_mutex_unlock"
keyword_text keyword.Synchronize = codes "__sync_synchronize"
keyword_text keyword.FetchAndAdd = codes "__sync_fetch_and_add"
keyword_text keyword.CompareAndSwap = codes "__sync_bool_compare_and_swap"
keyword_text keyword.Assume = codes "__CPROVER_assume"
keyword_text keyword.ProverAssert = codes "__CPROVER_assert"
keyword_text keyword.AtomicBegin = codes "__CPROVER_atomic_begin"
keyword_text keyword.AtomicEnd = codes "__CPROVER_atomic_end"

abbrev pub operator_text : Binary → List ℕ
operator_text binary.Add = codes "+"
operator_text binary.Sub = codes "-"
operator_text binary.Mul = codes "*"
operator_text binary.Div = codes "/"
operator_text binary.Rem = codes "%"
operator_text binary.Shl = codes "<<"
operator_text binary.Shr = codes ">>"
operator_text binary.Lt = codes "<"
operator_text binary.Le = codes "<="
operator_text binary.Gt = codes ">"
operator_text binary.Ge = codes ">="
operator_text binary.Eq = codes "=="
operator_text binary.Ne = codes "!="
operator_text binary.And = codes "&"
operator_text binary.Xor = codes "^"
operator_text binary.Or = codes "|"
operator_text binary.Land = codes "&&"
operator_text binary.Lor = codes "||"

-- the operator before one operand
abbrev pub sign_of : Unary → Symbol
sign_of unary.Neg = symbol.Operator binary.Sub
sign_of unary.Plus = symbol.Operator binary.Add
sign_of unary.Not = symbol.Not
sign_of unary.Flip = symbol.Flip

-- the bytes of a mark; words, numbers and texts are none
abbrev pub mark_text : Symbol → List ℕ
mark_text (symbol.Operator op) = operator_text op
mark_text (symbol.Update op) = operator_text op ++ codes "="
mark_text symbol.Increment = codes "++"
mark_text symbol.Decrement = codes "--"
mark_text symbol.Not = codes "!"
mark_text symbol.Flip = codes "~"
mark_text symbol.Assign = codes "="
mark_text symbol.Question = codes "?"
mark_text symbol.Colon = codes ":"
mark_text symbol.Semicolon = codes ";"
mark_text symbol.Comma = codes ","
mark_text symbol.Open = codes "("
mark_text symbol.Close = codes ")"
mark_text symbol.OpenBracket = codes "["
mark_text symbol.CloseBracket = codes "]"
mark_text symbol.OpenBrace = codes "{"
mark_text symbol.CloseBrace = codes "}"
mark_text symbol.Name = []
mark_text (symbol.Number n) = []
mark_text symbol.Text = []
mark_text symbol.Null = []
mark_text (symbol.Keyword k) = []
mark_text symbol.Outside = []

-- ---- the bytes of pieces

-- two blanks for each open block
abbrev pub indent : ℕ → List ℕ
indent zero = []
indent (suc n) = codes "  " ++ indent n

abbrev pub piece_text : Piece → List ℕ
piece_text blank = codes " "
piece_text (line n) = codes "\n" ++ indent n
piece_text (word k) = keyword_text k
piece_text null = codes "NULL"
piece_text (name x) = x
piece_text (number n) = decimal n
piece_text (quoted x) = codes "\"" ++ x ++ codes "\""
piece_text (mark s) = mark_text s

-- one piece behind another
abbrev pub text : List Piece → List ℕ
text ps = flat_map piece_text ps

-- ---- what pieces often stand in

-- one blank on each side of a mark
abbrev pub spaced : Symbol → List Piece → List Piece
spaced s ps = Piece.blank ∷ Piece.mark s ∷ Piece.blank ∷ ps

-- a comma and a blank between one and the next
abbrev pub commas : List (List Piece) → List Piece
commas [] = []
commas (ps ∷ []) = ps
commas (ps ∷ qs ∷ rest) = ps ++ Piece.mark symbol.Comma ∷ Piece.blank ∷ commas (qs ∷ rest)

-- a word or a name with its arguments
abbrev pub called : Piece → List Piece → List Piece
called p ps = p ∷ Piece.mark symbol.Open ∷ ps ++ Piece.mark symbol.Close ∷ []

abbrev pub subscript : List Piece → List Piece
subscript ps = Piece.mark symbol.OpenBracket ∷ ps ++ Piece.mark symbol.CloseBracket ∷ []

abbrev pub semicolon : List Piece
semicolon = Piece.mark symbol.Semicolon ∷ []
