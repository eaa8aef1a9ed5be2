-- This mirrors the code: nothing that a reader believes rests on it.
-- Reading expressions by recursive descent.
use Rattle.std.specs.Prelude.{◌≡◌, ℕ, zero, suc, ◌==◌, Bool, true, false, if◌then◌else◌, List, length, Option, Some, None, Result, Ok, Err}
use Rattle.mm_goto.specs.declared.ident.At.{At}
use Rattle.mm_goto.specs.declared.pure.Binary.{Binary}
use Rattle.mm_goto.specs.declared.pure.Binary.TheVariants as bin
use Rattle.mm_goto.specs.declared.pure.Unary.{Unary}
use Rattle.mm_goto.specs.declared.pure.Unary.TheVariants as un
use Rattle.mm_tree.specs.declared.expr.Expr.{Expr}
use Rattle.mm_tree.specs.declared.expr.Node.TheVariants as node
use Rattle.mm_tree.specs.declared.expr.Word.{Word}
use Rattle.mm_reading.specs.Parsing.{Parser, Outcome, Parsed, rest_of, after, ◌>>=◌, ◌>>◌, pure, fail, peek, skip, token, expect}
use Rattle.mm_reading.specs.declared.refused.Refused.{Refused}
use Rattle.mm_reading.specs.Gives.{Fails}
use Rattle.mm_parse_expr.specs.declared.symbol.Symbol.{Symbol}
use Rattle.mm_parse_expr.specs.declared.symbol.Symbol.TheVariants.{Name, Number, Null, Operator, Not, Flip, Question, Colon, Open, Close, OpenBracket, CloseBracket}
use Rattle.mm_parse_expr.specs.declared.terminal.Terminal.{Terminal}
use Rattle.mm_parse_expr.specs.Grammar.{binary_tree, choice_tree, looseness}
use Rattle.mm_tree.specs.Trees.{expr as tree, word}

abbrev pub Reader : Type 0 → Type 0
Reader A = Parser Terminal A

-- the readers that are called once a token was taken
pub record Lower : Type 0 where
  pub expr : Reader Expr
  pub more : ℕ → Expr → Reader Expr
  pub unary : Reader Expr

-- ---- one token

abbrev pub is_close : Symbol → Bool
is_close Close = true
is_close _ = false

abbrev pub is_close_bracket : Symbol → Bool
is_close_bracket CloseBracket = true
is_close_bracket _ = false

abbrev pub is_colon : Symbol → Bool
is_colon Colon = true
is_colon _ = false

unfoldable pub close : Reader (Unit {0})
close = expect (λ t. is_close t.symbol)

unfoldable pub close_bracket : Reader (Unit {0})
close_bracket = expect (λ t. is_close_bracket t.symbol)

unfoldable pub colon : Reader (Unit {0})
colon = expect (λ t. is_colon t.symbol)

abbrev pub named : Symbol → Terminal → Option Word
named Name t = Some (word t.at t.spelling)
named _ t = None

unfoldable pub name_word : Reader Word
name_word = token (λ t. named t.symbol t)

-- ---- primary and unary

abbrev pub index_by : Lower → Symbol → Reader (Option Expr)
index_by r OpenBracket = skip >> (r.expr >>= λ e. close_bracket >> pure (Some e))
index_by r _ = pure None

abbrev pub index_at : Lower → Option Terminal → Reader (Option Expr)
index_at r None = pure None
index_at r (Some t) = index_by r t.symbol

-- [ "[" expr "]" ]
unfoldable pub index : Lower → Reader (Option Expr)
index r = peek (index_at r)

abbrev pub element_tree : At → List ℕ → Option Expr → Expr
element_tree at name None = tree at (node.Name name)
element_tree at name (Some e) = tree at (node.Index name e)

abbrev pub address_tree : At → Word → Option Expr → Expr
address_tree at w None = tree at (node.AddrName w)
address_tree at w (Some e) = tree at (node.AddrIndex w e)

abbrev pub primary_by : Lower → Symbol → Terminal → Reader Expr
primary_by r (Number n) t = skip >> pure (tree t.at (node.Number n))
primary_by r Null t = skip >> pure (tree t.at node.Null)
primary_by r Name t = skip >> (index r >>= λ i. pure (element_tree t.at t.spelling i))
primary_by r Open t = skip >> (r.expr >>= λ e. close >> pure e)
primary_by r _ t = fail

abbrev pub primary_at : Lower → Option Terminal → Reader Expr
primary_at r None = fail
primary_at r (Some t) = primary_by r t.symbol t

unfoldable pub primary : Lower → Reader Expr
primary r = peek (primary_at r)

-- behind a sign
unfoldable pub signed : Lower → At → Unary → Reader Expr
signed r at op = r.unary >>= λ e. pure (tree at (node.Un op e))

-- behind a star
unfoldable pub pointed : Lower → At → Reader Expr
pointed r at = r.unary >>= λ e. pure (tree at (node.Deref e))

-- behind an ampersand
unfoldable pub address : Lower → At → Reader Expr
address r at = name_word >>= λ w. index r >>= λ i. pure (address_tree at w i)

abbrev pub unary_by : Lower → Symbol → Terminal → Reader Expr
unary_by r (Operator bin.Sub) t = skip >> signed r t.at un.Neg
unary_by r (Operator bin.Add) t = skip >> signed r t.at un.Plus
unary_by r Not t = skip >> signed r t.at un.Not
unary_by r Flip t = skip >> signed r t.at un.Flip
unary_by r (Operator bin.Mul) t = skip >> pointed r t.at
unary_by r (Operator bin.And) t = skip >> address r t.at
unary_by r s t = primary_by r s t

abbrev pub unary_at : Lower → Option Terminal → Reader Expr
unary_at r None = fail
unary_at r (Some t) = unary_by r t.symbol t

unfoldable pub unary : Lower → Reader Expr
unary r = peek (unary_at r)

-- ---- binary operators and the choice

abbrev pub joins : ℕ → Symbol → Option Binary
joins n (Operator op) = if looseness op == n then Some op else None
joins n _ = None

-- operators of looseness n, with operands behind them
abbrev pub more_by : Lower → ℕ → Reader Expr → Expr → Option Binary → Reader Expr
more_by r n operand a (Some op) = skip >> (operand >>= λ b. r.more n (binary_tree op a b))
more_by r n operand a None = pure a

abbrev pub more_at : Lower → ℕ → Reader Expr → Expr → Option Terminal → Reader Expr
more_at r n operand a None = pure a
more_at r n operand a (Some t) = more_by r n operand a (joins n t.symbol)

unfoldable pub more_of : Lower → ℕ → Reader Expr → Expr → Reader Expr
more_of r n operand a = peek (more_at r n operand a)

unfoldable pub level : Lower → ℕ → Reader Expr
level r zero = unary r
level r (suc n) = level r n >>= more_of r n (level r n)

-- what stands behind the first part a of an expression of level n + 1
unfoldable pub more : Lower → ℕ → Expr → Reader Expr
more r n a = more_of r n (level r n) a

-- no operator of looseness n stands next
abbrev pub HasNoOperator : ℕ → List Terminal → Type 0
HasNoOperator n ts = (r : Lower) (a : Expr) → more r n a ts ≡ Parsed a ts

-- the operator does, with the rest behind it
abbrev pub HasOperator : ℕ → List Terminal → Binary → List Terminal → Type 0
HasOperator n ts op rest = (r : Lower) (a : Expr) → more r n a ts ≡ after (level r n rest) (λ b. r.more n (binary_tree op a b))

abbrev pub choice_by : Lower → Expr → Symbol → Reader Expr
choice_by r c Question = skip >> (r.expr >>= λ a. colon >> (r.expr >>= λ b. pure (choice_tree c a b)))
choice_by r c _ = pure c

abbrev pub choice_at : Lower → Expr → Option Terminal → Reader Expr
choice_at r c None = pure c
choice_at r c (Some t) = choice_by r c t.symbol

-- [ "?" expr ":" expr ]
unfoldable pub choice : Lower → Expr → Reader Expr
choice r c = peek (choice_at r c)

unfoldable pub expr : Lower → Reader Expr
expr r = level r 10 >>= choice r

-- ---- the readers for fewer than n tokens

unfoldable pub lower : ℕ → Lower
lower zero = record { expr = fail; more = λ n a. pure a; unary = fail }
lower (suc n) = record { expr = expr (lower n); more = more (lower n); unary = unary (lower n) }

abbrev pub expr_of : Lower → Reader Expr
expr_of r = r.expr

abbrev pub unary_of : Lower → Reader Expr
unary_of r = r.unary

-- a tree, and how many terminals stand behind it
abbrev pub GivesLeft : Result (Expr × ℕ) Refused → Outcome Terminal Expr → Type 0
GivesLeft (Ok x) o = (o ≡ Parsed x.0 (rest_of o)) × (length (rest_of o) ≡ x.1)
GivesLeft (Err e) o = Fails e o
