-- This mirrors the code: nothing that a reader believes rests on it.
-- What is read where the first terminal tells how it goes on, and the parts of a block and of a program one by one.
use Rattle.std.specs.Prelude.{◌≡◌, ℕ, List, [], ◌∷◌, Option, Some, None, Result, Ok, Err, Vec}
use Rattle.std.specs.Borrow.{Bor}
use Rattle.mm_tree.specs.declared.expr.Expr.{Expr}
use Rattle.mm_tree.specs.declared.stmt.Left.{Left}
use Rattle.mm_tree.specs.declared.stmt.Stmt.{Stmt}
use Rattle.mm_tree.specs.declared.stmt.StmtNode.{StmtNode}
use Rattle.mm_tree.specs.declared.stmt.StmtNode.TheVariants as node
use Rattle.mm_tree.specs.declared.stmt.Value.{Value}
use Rattle.mm_reading.specs.Gives.{Fails}
use Rattle.mm_reading.specs.Parsing.{Outcome, Parsed, Fault, head, ◌>>=◌, ◌>>◌, pure, fail, peek, skip}
use Rattle.mm_reading.specs.declared.refused.Refused.{Refused}
use Rattle.mm_parse_expr.specs.declared.symbol.Symbol.{Symbol}
use Rattle.mm_parse_expr.specs.declared.symbol.Symbol.TheVariants.{CloseBrace}
use Rattle.mm_parse_expr.specs.declared.terminal.Terminal.{Terminal}
use Rattle.mm_parse_expr.specs.reading.ExprReading.{Reader, close}
use Rattle.mm_tree.specs.Trees.{statement}
use Rattle.mm_grammar.specs.reading.StatementReading.{Inner, expr, open_mark, plain, named_value, set, declaration_by, first, condition, step, given, ended, node_by, either, body}

-- the items of what was read, and the tokens after it, or the fault
abbrev pub GivesAll : {T A G : Type 0} → Result (Vec A G × Bor (List T)) Refused → Outcome T (List A) → Type 0
GivesAll (Ok x) o = o ≡ Parsed x.0.items x.1.now
GivesAll (Err e) o = Fails e o

-- behind the terminal t, which is at fault where nothing begins with it
abbrev pub begun : {A : Type 0} → Terminal → Option (Reader A) → Reader A
begun t None ts = Fault (t ∷ ts)
begun t (Some p) ts = p ts

-- a value that begins with a name
abbrev pub from_name : ℕ → Reader Value
from_name n [] = plain n []
from_name n (t ∷ us) = named_value n t (head us) (t ∷ us)

-- "(" expr ")"
unfoldable pub in_parentheses : ℕ → Reader Expr
in_parentheses n = open_mark >> (expr n >>= λ e. close >> pure e)

-- a call or an update, and ";"
abbrev pub effect : Reader Value → Reader StmtNode
effect p = p >>= λ v. ended (node.Do v)

-- an assignment by a left side that is read, and ";"
abbrev pub assigned : ℕ → Reader Left → Reader StmtNode
assigned n p = p >>= λ l. set n l >>= ended

-- something, and ";"
abbrev pub closed : Reader StmtNode → Reader StmtNode
closed p = p >>= ended

-- behind "return"
abbrev pub returned : ℕ → Reader StmtNode
returned n = given n >>= λ v. pure (node.Return v)

-- behind "{"
abbrev pub block : ℕ → Reader StmtNode
block n = body n >>= λ ss. pure (node.Block ss)

-- "(" ( decl | [ assign ] ";" ) [ expr ] ";" [ assign ] ")"
unfoldable pub header : ℕ → Reader (Option Stmt × Expr × Option Stmt)
header n = open_mark >> (first n >>= λ f. condition n >>= λ e. step n >>= λ s. pure (f, e, s))

-- what a declaration or statement goes on with behind its first terminal; None where neither begins with it
abbrev pub part_by : ℕ → Inner → Symbol → Terminal → Option (Reader StmtNode)
part_by n i s t = either (declaration_by n s) (node_by n i s t)

abbrev pub next_begun : Terminal → Option (Reader StmtNode) → Reader (Option Stmt)
next_begun t None = fail
next_begun t (Some p) = skip >> (p >>= λ m. pure (Some (statement t.at m)))

abbrev pub next_by : ℕ → Inner → Symbol → Terminal → Reader (Option Stmt)
next_by n i CloseBrace t = skip >> pure None
next_by n i s t = next_begun t (part_by n i s t)

abbrev pub next_at : ℕ → Inner → Option Terminal → Reader (Option Stmt)
next_at n i None = fail
next_at n i (Some t) = next_by n i t.symbol t

-- the next declaration or statement of a block, and None for "}"
unfoldable pub next : ℕ → Inner → Reader (Option Stmt)
next n i = peek (next_at n i)
