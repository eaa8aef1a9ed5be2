-- This mirrors the code: nothing that a reader believes rests on it.
-- How a statement begins: what is read before the statement or block that it holds, and what is read from there on.
use Rattle.std.specs.Prelude.{ℕ, Option, Some, None}
use Rattle.mm_goto.specs.declared.ident.At.{At}
use Rattle.mm_tree.specs.declared.expr.Expr.{Expr}
use Rattle.mm_tree.specs.declared.stmt.Stmt.{Stmt}
use Rattle.mm_tree.specs.declared.stmt.StmtNode.{StmtNode}
use Rattle.mm_tree.specs.declared.stmt.StmtNode.TheVariants as node
use Rattle.mm_reading.specs.Parsing.{◌>>=◌, ◌>>◌, pure, fail, peek, skip}
use Rattle.mm_parse_expr.specs.declared.symbol.Keyword.{Keyword as Reserved}
use Rattle.mm_parse_expr.specs.declared.symbol.Keyword.TheVariants as reserved
use Rattle.mm_parse_expr.specs.declared.symbol.Symbol.{Symbol}
use Rattle.mm_parse_expr.specs.declared.symbol.Symbol.TheVariants.{Name, Keyword, Colon, OpenBrace, CloseBrace}
use Rattle.mm_parse_expr.specs.declared.terminal.Terminal.{Terminal}
use Rattle.mm_tree.specs.Trees.{word, statement}
use Rattle.mm_parse_expr.specs.reading.ExprReading.{Reader}
use Rattle.mm_parse.specs.declared.reading.opening.Head.{Head}
use Rattle.mm_parse.specs.declared.reading.opening.Head.TheVariants as over
use Rattle.mm_parse.specs.declared.reading.opening.Opening.{Opening}
use Rattle.mm_parse.specs.declared.reading.opening.Opening.TheVariants as begins
use Rattle.mm_grammar.specs.reading.StatementReading.{Inner, while_word, ended, declaration_by, else_at, named_by_next, behind_word, node_by}
use Rattle.mm_parse.specs.reading.Begun.{in_parentheses, header}

-- ---- statements that hold no other

-- readers of what stands within, for a statement that holds none
abbrev pub holds_none : Inner
holds_none = record { stmt = fail; body = fail }

-- behind a word; None where no such statement begins with it
abbrev pub simple_word : ℕ → Reserved → Terminal → Option (Reader StmtNode)
simple_word n reserved.If t = None
simple_word n reserved.While t = None
simple_word n reserved.Do t = None
simple_word n reserved.For t = None
simple_word n k t = behind_word n holds_none k t

-- behind the first terminal, other than a name; None where no such statement begins with it
abbrev pub simple_by : ℕ → Symbol → Terminal → Option (Reader StmtNode)
simple_by n OpenBrace t = None
simple_by n Name t = None
simple_by n (Keyword k) t = simple_word n k t
simple_by n s t = node_by n holds_none s t

abbrev pub whole : Reader StmtNode → Reader Opening
whole p = p >>= λ m. pure (begins.Whole m)

abbrev pub whole_of : Option (Reader StmtNode) → Option (Reader Opening)
whole_of None = None
whole_of (Some p) = Some (whole p)

-- ---- how any statement begins

abbrev pub named_by : ℕ → Terminal → Symbol → Reader Opening
named_by n t Colon = skip >> pure (begins.Holds (over.Label (word t.at t.spelling)))
named_by n t s = whole (named_by_next n holds_none t s)

abbrev pub named_at : ℕ → Terminal → Option Terminal → Reader Opening
named_at n t None = fail
named_at n t (Some u) = named_by n t u.symbol

-- behind a name
unfoldable pub named : ℕ → Terminal → Reader Opening
named n t = peek (named_at n t)

-- behind the first terminal; None where no statement begins with it
abbrev pub opening_by : ℕ → Symbol → Terminal → Option (Reader Opening)
opening_by n OpenBrace t = Some (pure begins.Block)
opening_by n Name t = Some (named n t)
opening_by n (Keyword reserved.If) t = Some (in_parentheses n >>= λ e. pure (begins.When e))
opening_by n (Keyword reserved.While) t = Some (in_parentheses n >>= λ e. pure (begins.Holds (over.While e)))
opening_by n (Keyword reserved.Do) t = Some (pure (begins.Holds over.Do))
opening_by n (Keyword reserved.For) t = Some (header n >>= λ h. pure (begins.Holds (over.For h.0 h.1 h.2)))
opening_by n s t = whole_of (simple_by n s t)

abbrev pub opening_begun : Terminal → Option (Reader Opening) → Reader (At × Opening)
opening_begun t None = fail
opening_begun t (Some p) = skip >> (p >>= λ o. pure (t.at, o))

abbrev pub opening_at : ℕ → Option Terminal → Reader (At × Opening)
opening_at n None = fail
opening_at n (Some t) = opening_begun t (opening_by n t.symbol t)

-- how a statement begins, with its place
unfoldable pub opening : ℕ → Reader (At × Opening)
opening n = peek (opening_at n)

-- ---- the parts of a block

-- a declaration, or else a statement
abbrev pub either_begins : Option (Reader StmtNode) → Option (Reader Opening) → Option (Reader Opening)
either_begins (Some p) o = Some (whole p)
either_begins None o = o

abbrev pub part_by : ℕ → Symbol → Terminal → Option (Reader Opening)
part_by n s t = either_begins (declaration_by n s) (opening_by n s t)

abbrev pub next_begun : Terminal → Option (Reader Opening) → Reader (Option (At × Opening))
next_begun t None = fail
next_begun t (Some p) = skip >> (p >>= λ o. pure (Some (t.at, o)))

abbrev pub next_by : ℕ → Symbol → Terminal → Reader (Option (At × Opening))
next_by n CloseBrace t = skip >> pure None
next_by n s t = next_begun t (part_by n s t)

abbrev pub next_at : ℕ → Option Terminal → Reader (Option (At × Opening))
next_at n None = fail
next_at n (Some t) = next_by n t.symbol t

-- how the next declaration or statement of a block begins, with its place, and None for "}"
unfoldable pub next : ℕ → Reader (Option (At × Opening))
next n = peek (next_at n)

-- ---- what is read from there on

-- behind the one statement that is held
abbrev pub closing : ℕ → Head → Stmt → Reader StmtNode
closing n (over.While e) s = pure (node.While e s)
closing n over.Do s = while_word >> (in_parentheses n >>= λ e. ended (node.DoWhile s e))
closing n (over.For f e g) s = pure (node.For f (Some e) g s)
closing n (over.Label w) s = pure (node.Label w s)

-- the one statement that is held, and what stands behind it
abbrev pub held : ℕ → Inner → Head → Reader StmtNode
held n i h = i.stmt >>= λ s. closing n h s

-- behind "if" and the test
abbrev pub branched : Inner → Expr → Reader StmtNode
branched i e = i.stmt >>= λ s. peek (else_at i e s)

-- behind what a statement begins with
abbrev pub within : ℕ → Inner → Opening → Reader StmtNode
within n i (begins.Whole m) = pure m
within n i begins.Block = i.body >>= λ ss. pure (node.Block ss)
within n i (begins.When e) = branched i e
within n i (begins.Holds h) = held n i h

-- with its place
abbrev pub stmt_within : ℕ → Inner → At × Opening → Reader Stmt
stmt_within n i x = within n i x.1 >>= λ m. pure (statement x.0 m)

abbrev pub next_within : ℕ → Inner → Option (At × Opening) → Reader (Option Stmt)
next_within n i None = pure None
next_within n i (Some x) = within n i x.1 >>= λ m. pure (Some (statement x.0 m))
