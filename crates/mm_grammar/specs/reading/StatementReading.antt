-- This mirrors the code: nothing that a reader believes rests on it.
-- Reading statements by recursive descent, each reader with a bound on the terminals.
use Rattle.std.specs.Prelude.{ℕ, ℤ, zero, suc, pos, Bool, true, false, List, [], ◌∷◌, Option, Some, None}
use Rattle.mm_goto.specs.declared.ident.At.{At}
use Rattle.mm_goto.specs.declared.pure.Binary.TheVariants as binary
use Rattle.mm_tree.specs.declared.expr.Expr.{Expr}
use Rattle.mm_tree.specs.declared.expr.Word.{Word}
use Rattle.mm_tree.specs.declared.stmt.Left.{Left}
use Rattle.mm_tree.specs.declared.stmt.LeftNode.TheVariants as left_node
use Rattle.mm_tree.specs.declared.stmt.Local.{Local}
use Rattle.mm_tree.specs.declared.stmt.Stmt.{Stmt}
use Rattle.mm_tree.specs.declared.stmt.StmtNode.{StmtNode}
use Rattle.mm_tree.specs.declared.stmt.StmtNode.TheVariants as node
use Rattle.mm_tree.specs.declared.stmt.Value.{Value}
use Rattle.mm_tree.specs.declared.stmt.Value.TheVariants as value_node
use Rattle.mm_reading.specs.Parsing.{head, ◌>>=◌, ◌>>◌, pure, fail, peek, skip, token, expect}
use Rattle.mm_parse_expr.specs.declared.symbol.Keyword.{Keyword as Reserved}
use Rattle.mm_parse_expr.specs.declared.symbol.Keyword.TheVariants as reserved
use Rattle.mm_parse_expr.specs.declared.symbol.Symbol.{Symbol}
use Rattle.mm_parse_expr.specs.declared.symbol.Symbol.TheVariants.{Name, Number, Text, Null, Keyword, Operator, Update, Increment, Decrement, Assign, Colon, Semicolon, Comma, Open, Close, OpenBrace, CloseBrace}
use Rattle.mm_parse_expr.specs.declared.terminal.Terminal.{Terminal}
use Rattle.mm_tree.specs.Trees.{word, left_at, local, statement}
use Rattle.mm_parse_expr.specs.reading.ExprReading.{Reader, lower, close, name_word, index}
use Rattle.mm_grammar.specs.StatementGrammar.{one}

-- ---- one terminal

-- the next terminal has this symbol and is taken
abbrev pub mark : (Symbol → Bool) → Reader (Unit {0})
mark is = expect (λ t. is t.symbol)

abbrev pub is_semicolon : Symbol → Bool
is_semicolon Semicolon = true
is_semicolon _ = false

abbrev pub is_comma : Symbol → Bool
is_comma Comma = true
is_comma _ = false

abbrev pub is_open : Symbol → Bool
is_open Open = true
is_open _ = false

abbrev pub is_ampersand : Symbol → Bool
is_ampersand (Operator binary.And) = true
is_ampersand _ = false

abbrev pub is_while : Symbol → Bool
is_while (Keyword reserved.While) = true
is_while _ = false

abbrev pub is_int : Symbol → Bool
is_int (Keyword reserved.Int) = true
is_int _ = false

abbrev pub is_zero : ℤ → Bool
is_zero (pos zero) = true
is_zero _ = false

-- "NULL" or the NUMBER 0
abbrev pub is_null : Symbol → Bool
is_null Null = true
is_null (Number n) = is_zero n
is_null _ = false

unfoldable pub semicolon : Reader (Unit {0})
semicolon = mark is_semicolon

unfoldable pub comma : Reader (Unit {0})
comma = mark is_comma

unfoldable pub open_mark : Reader (Unit {0})
open_mark = mark is_open

unfoldable pub ampersand : Reader (Unit {0})
ampersand = mark is_ampersand

unfoldable pub while_word : Reader (Unit {0})
while_word = mark is_while

unfoldable pub int_word : Reader (Unit {0})
int_word = mark is_int

unfoldable pub null : Reader (Unit {0})
null = mark is_null

abbrev pub text_in : Symbol → Terminal → Option (List ℕ)
text_in Text t = Some t.spelling
text_in _ t = None

unfoldable pub text : Reader (List ℕ)
text = token (λ t. text_in t.symbol t)

-- the terminal behind the next one
abbrev pub second : List Terminal → Option Terminal
second [] = None
second (t ∷ ts) = head ts

-- by the terminal behind the next one
unfoldable pub peek_behind : {A : Type 0} → (Option Terminal → Reader A) → Reader A
peek_behind f ts = f (second ts) ts

-- ---- lists

abbrev pub comma_by : {A : Type 0} → Reader A → Reader (List A) → Symbol → Reader (List A)
comma_by item inner Comma = skip >> (item >>= λ x. inner >>= λ xs. pure (x ∷ xs))
comma_by item inner _ = pure []

abbrev pub comma_at : {A : Type 0} → Reader A → Reader (List A) → Option Terminal → Reader (List A)
comma_at item inner None = pure []
comma_at item inner (Some t) = comma_by item inner t.symbol

-- { "," item }
unfoldable pub others : {A : Type 0} → (ℕ → Reader A) → ℕ → Reader (List A)
others item zero = pure []
others item (suc n) = peek (comma_at (item n) (others item n))

-- item { "," item }
unfoldable pub list : {A : Type 0} → (ℕ → Reader A) → ℕ → Reader (List A)
list item n = item n >>= λ x. others item n >>= λ xs. pure (x ∷ xs)

-- ---- left sides

abbrev pub expr : ℕ → Reader Expr
expr n = (lower n).expr

abbrev pub unary : ℕ → Reader Expr
unary n = (lower n).unary

abbrev pub left_tree : At → List ℕ → Option Expr → Left
left_tree at x None = left_at at (left_node.Name x)
left_tree at x (Some e) = left_at at (left_node.Index x e)

-- behind a name
unfoldable pub named_left : ℕ → Terminal → Reader Left
named_left n t = index (lower n) >>= λ i. pure (left_tree t.at t.spelling i)

-- behind a star
unfoldable pub pointed_left : ℕ → Terminal → Reader Left
pointed_left n t = unary n >>= λ e. pure (left_at t.at (left_node.Deref e))

-- behind an open parenthesis
unfoldable pub grouped_left : Reader Left → Reader Left
grouped_left inner = inner >>= λ l. close >> pure l

abbrev pub left_by : ℕ → Reader Left → Symbol → Terminal → Reader Left
left_by n inner Name t = skip >> named_left n t
left_by n inner (Operator binary.Mul) t = skip >> pointed_left n t
left_by n inner Open t = skip >> grouped_left inner
left_by n inner _ t = fail

abbrev pub left_start : ℕ → Reader Left → Option Terminal → Reader Left
left_start n inner None = fail
left_start n inner (Some t) = left_by n inner t.symbol t

unfoldable pub left : ℕ → Reader Left
left zero = fail
left (suc n) = peek (left_start n (left n))

-- ---- values

abbrev pub arguments_by : ℕ → Symbol → Reader (List Expr)
arguments_by n Close = skip >> pure []
arguments_by n _ = list expr n >>= λ es. close >> pure es

abbrev pub arguments_at : ℕ → Option Terminal → Reader (List Expr)
arguments_at n None = fail
arguments_at n (Some t) = arguments_by n t.symbol

-- [ expr { "," expr } ] ")"
unfoldable pub arguments : ℕ → Reader (List Expr)
arguments n = peek (arguments_at n)

-- behind the name and "("
unfoldable pub call : ℕ → Terminal → Reader Value
call n t = arguments n >>= λ es. pure (value_node.Call t.at t.spelling es)

-- behind the word
unfoldable pub fetch_add : ℕ → Terminal → Reader Value
fetch_add n t = open_mark >> (expr n >>= λ a. comma >> (expr n >>= λ e. close >> pure (value_node.FetchAdd t.at a e)))

-- behind the word
unfoldable pub compare_swap : ℕ → Terminal → Reader Value
compare_swap n t = open_mark >> (expr n >>= λ a. comma >> (expr n >>= λ e. comma >> (expr n >>= λ f.
    close >> pure (value_node.CompareSwap t.at a e f))))

unfoldable pub plain : ℕ → Reader Value
plain n = expr n >>= λ e. pure (value_node.Plain e)

abbrev pub named_by : ℕ → Terminal → Symbol → Reader Value
named_by n t Open = skip >> (skip >> call n t)
named_by n t _ = plain n

abbrev pub named_value : ℕ → Terminal → Option Terminal → Reader Value
named_value n t None = plain n
named_value n t (Some u) = named_by n t u.symbol

abbrev pub value_by : ℕ → Symbol → Terminal → Reader Value
value_by n (Keyword reserved.FetchAndAdd) t = skip >> fetch_add n t
value_by n (Keyword reserved.CompareAndSwap) t = skip >> compare_swap n t
value_by n Name t = peek_behind (named_value n t)
value_by n _ t = plain n

abbrev pub value_at : ℕ → Option Terminal → Reader Value
value_at n None = fail
value_at n (Some t) = value_by n t.symbol t

unfoldable pub value : ℕ → Reader Value
value zero = fail
value (suc n) = peek (value_at (suc n))

-- ---- assignments

abbrev pub set_by : ℕ → Left → Symbol → Terminal → Reader StmtNode
set_by n l Assign t = skip >> (value n >>= λ v. pure (node.Assign l v))
set_by n l (Update op) t = skip >> (expr n >>= λ e. pure (node.Update l op e))
set_by n l Increment t = skip >> pure (node.Update l binary.Add (one t.at))
set_by n l Decrement t = skip >> pure (node.Update l binary.Sub (one t.at))
set_by n l _ t = fail

abbrev pub set_at : ℕ → Left → Option Terminal → Reader StmtNode
set_at n l None = fail
set_at n l (Some t) = set_by n l t.symbol t

-- behind a left side
unfoldable pub set : ℕ → Left → Reader StmtNode
set n l = peek (set_at n l)

-- behind "++"
unfoldable pub increment : ℕ → Terminal → Reader StmtNode
increment n t = left n >>= λ l. pure (node.Update l binary.Add (one t.at))

-- behind "--"
unfoldable pub decrement : ℕ → Terminal → Reader StmtNode
decrement n t = left n >>= λ l. pure (node.Update l binary.Sub (one t.at))

abbrev pub assign_by : ℕ → Symbol → Terminal → Reader StmtNode
assign_by n Increment t = skip >> increment n t
assign_by n Decrement t = skip >> decrement n t
assign_by n _ t = left n >>= set n

abbrev pub assign_at : ℕ → Option Terminal → Reader StmtNode
assign_at n None = fail
assign_at n (Some t) = assign_by n t.symbol t

unfoldable pub assign : ℕ → Reader StmtNode
assign n = peek (assign_at n)

-- ---- declarations

abbrev pub star_by : Symbol → Reader Bool
star_by (Operator binary.Mul) = skip >> pure true
star_by _ = pure false

abbrev pub star_at : Option Terminal → Reader Bool
star_at None = pure false
star_at (Some t) = star_by t.symbol

-- [ "*" ], and whether it stands there
unfoldable pub star : Reader Bool
star = peek star_at

abbrev pub local_by : ℕ → Bool → Word → Symbol → Reader Local
local_by n b w Assign = skip >> (value n >>= λ v. pure (local w.at b w.name (Some v)))
local_by n b w _ = pure (local w.at b w.name None)

abbrev pub local_at : ℕ → Bool → Word → Option Terminal → Reader Local
local_at n b w None = pure (local w.at b w.name None)
local_at n b w (Some t) = local_by n b w t.symbol

-- [ "*" ] NAME [ "=" value ]
unfoldable pub local_item : ℕ → Reader Local
local_item n = star >>= λ b. name_word >>= λ w. peek (local_at n b w)

abbrev pub name_item : ℕ → Reader Word
name_item n = name_word

-- behind "int"
unfoldable pub ints : ℕ → Reader StmtNode
ints n = list local_item n >>= λ ls. semicolon >> pure (node.Declare ls)

-- behind "pthread_t"
unfoldable pub threads : ℕ → Reader StmtNode
threads n = list name_item n >>= λ ws. semicolon >> pure (node.DeclareThread ws)

-- what a declaration goes on with behind its first terminal; None where none begins with it
abbrev pub declaration_by : ℕ → Symbol → Option (Reader StmtNode)
declaration_by n (Keyword reserved.Int) = Some (ints n)
declaration_by n (Keyword reserved.Volatile) = Some (int_word >> ints n)
declaration_by n (Keyword reserved.Thread) = Some (threads n)
declaration_by n _ = None

-- ---- the parts of statements

abbrev pub as_first : At → StmtNode → Option Stmt
as_first at n = Some (statement at n)

abbrev pub first_begun : ℕ → Terminal → Option (Reader StmtNode) → Reader (Option Stmt)
first_begun n t (Some p) = skip >> (p >>= λ m. pure (as_first t.at m))
first_begun n t None = assign n >>= λ m. semicolon >> pure (as_first t.at m)

abbrev pub first_by : ℕ → Symbol → Terminal → Reader (Option Stmt)
first_by n Semicolon t = skip >> pure None
first_by n s t = first_begun n t (declaration_by n s)

abbrev pub first_at : ℕ → Option Terminal → Reader (Option Stmt)
first_at n None = fail
first_at n (Some t) = first_by n t.symbol t

-- decl | [ assign ] ";"
unfoldable pub first : ℕ → Reader (Option Stmt)
first n = peek (first_at n)

abbrev pub condition_by : ℕ → Symbol → Terminal → Reader Expr
condition_by n Semicolon t = skip >> pure (one t.at)
condition_by n _ t = expr n >>= λ e. semicolon >> pure e

abbrev pub condition_at : ℕ → Option Terminal → Reader Expr
condition_at n None = fail
condition_at n (Some t) = condition_by n t.symbol t

-- [ expr ] ";"
unfoldable pub condition : ℕ → Reader Expr
condition n = peek (condition_at n)

abbrev pub step_by : ℕ → Symbol → Terminal → Reader (Option Stmt)
step_by n Close t = skip >> pure None
step_by n _ t = assign n >>= λ m. close >> pure (as_first t.at m)

abbrev pub step_at : ℕ → Option Terminal → Reader (Option Stmt)
step_at n None = fail
step_at n (Some t) = step_by n t.symbol t

-- [ assign ] ")"
unfoldable pub step : ℕ → Reader (Option Stmt)
step n = peek (step_at n)

abbrev pub given_by : ℕ → Symbol → Reader (Option Value)
given_by n Semicolon = skip >> pure None
given_by n _ = value n >>= λ v. semicolon >> pure (Some v)

abbrev pub given_at : ℕ → Option Terminal → Reader (Option Value)
given_at n None = fail
given_at n (Some t) = given_by n t.symbol

-- [ value ] ";"
unfoldable pub given : ℕ → Reader (Option Value)
given n = peek (given_at n)

-- a node and then ";"
abbrev pub ended : StmtNode → Reader StmtNode
ended m = semicolon >> pure m

-- "(" ")" ";"
unfoldable pub bare : StmtNode → Reader StmtNode
bare m = open_mark >> (close >> ended m)

-- "(" expr ")" ";"
unfoldable pub with_expr : ℕ → (Expr → StmtNode) → Reader StmtNode
with_expr n make = open_mark >> (expr n >>= λ e. close >> ended (make e))

-- "(" "&" NAME ")" ";"
unfoldable pub with_address : (Word → StmtNode) → Reader StmtNode
with_address make = open_mark >> (ampersand >> (name_word >>= λ w. close >> ended (make w)))

-- "(" expr "," TEXT ")" ";"
unfoldable pub named_assert : ℕ → Reader StmtNode
named_assert n = open_mark >> (expr n >>= λ e. comma >> (text >>= λ x. close >> ended (node.Assert e (Some x))))

-- "," NAME "," null ")" ";"
unfoldable pub started : Word → Reader StmtNode
started w = comma >> (name_word >>= λ f. comma >> (null >> (close >> ended (node.Start w f))))

-- "(" "&" NAME "," null "," NAME "," null ")" ";"
unfoldable pub start : Reader StmtNode
start = open_mark >> (ampersand >> (name_word >>= λ w. comma >> (null >> started w)))

-- "(" NAME "," null ")" ";"
unfoldable pub join : Reader StmtNode
join = open_mark >> (name_word >>= λ w. comma >> (null >> (close >> ended (node.Join w))))

-- NAME ";"
unfoldable pub goto : Reader StmtNode
goto = name_word >>= λ w. ended (node.Goto w)

-- ---- statements

-- the readers of what stands within a statement
pub record Inner : Type 0 where
  pub stmt : Reader Stmt
  pub body : Reader (List Stmt)

abbrev pub else_by : Inner → Expr → Stmt → Symbol → Reader StmtNode
else_by i e s (Keyword reserved.Else) = skip >> (i.stmt >>= λ o. pure (node.If e s (Some o)))
else_by i e s _ = pure (node.If e s None)

abbrev pub else_at : Inner → Expr → Stmt → Option Terminal → Reader StmtNode
else_at i e s None = pure (node.If e s None)
else_at i e s (Some t) = else_by i e s t.symbol

-- "(" expr ")" stmt [ "else" stmt ]
unfoldable pub when : ℕ → Inner → Reader StmtNode
when n i = open_mark >> (expr n >>= λ e. close >> (i.stmt >>= λ s. peek (else_at i e s)))

-- "(" expr ")" stmt
unfoldable pub while : ℕ → Inner → Reader StmtNode
while n i = open_mark >> (expr n >>= λ e. close >> (i.stmt >>= λ s. pure (node.While e s)))

-- stmt "while" "(" expr ")" ";"
unfoldable pub do_while : ℕ → Inner → Reader StmtNode
do_while n i = i.stmt >>= λ s. while_word >> with_expr n (λ e. node.DoWhile s e)

-- "(" ( decl | [ assign ] ";" ) [ expr ] ";" [ assign ] ")" stmt
unfoldable pub for : ℕ → Inner → Reader StmtNode
for n i = open_mark >> (first n >>= λ f. condition n >>= λ e. step n >>= λ s. i.stmt >>= λ b. pure (node.For f (Some e) s b))

abbrev pub named_by_next : ℕ → Inner → Terminal → Symbol → Reader StmtNode
named_by_next n i t Open = skip >> (call n t >>= λ v. ended (node.Do v))
named_by_next n i t Colon = skip >> (i.stmt >>= λ s. pure (node.Label (word t.at t.spelling) s))
named_by_next n i t _ = named_left n t >>= λ l. set n l >>= ended

abbrev pub named_at : ℕ → Inner → Terminal → Option Terminal → Reader StmtNode
named_at n i t None = fail
named_at n i t (Some u) = named_by_next n i t u.symbol

-- behind a name
unfoldable pub named : ℕ → Inner → Terminal → Reader StmtNode
named n i t = peek (named_at n i t)

-- what a statement goes on with behind a word; None where none begins with it
abbrev pub behind_word : ℕ → Inner → Reserved → Terminal → Option (Reader StmtNode)
behind_word n i reserved.FetchAndAdd t = Some (fetch_add n t >>= λ v. ended (node.Do v))
behind_word n i reserved.CompareAndSwap t = Some (compare_swap n t >>= λ v. ended (node.Do v))
behind_word n i reserved.Assert t = Some (with_expr n (λ e. node.Assert e None))
behind_word n i reserved.ProverAssert t = Some (named_assert n)
behind_word n i reserved.Assume t = Some (with_expr n node.Assume)
behind_word n i reserved.Synchronize t = Some (bare node.Fence)
behind_word n i reserved.Lock t = Some (with_address node.Lock)
behind_word n i reserved.Unlock t = Some (with_address node.Unlock)
behind_word n i reserved.Create t = Some start
behind_word n i reserved.Join t = Some join
behind_word n i reserved.AtomicBegin t = Some (bare node.AtomBegin)
behind_word n i reserved.AtomicEnd t = Some (bare node.AtomEnd)
behind_word n i reserved.If t = Some (when n i)
behind_word n i reserved.While t = Some (while n i)
behind_word n i reserved.Do t = Some (do_while n i)
behind_word n i reserved.For t = Some (for n i)
behind_word n i reserved.Break t = Some (ended node.Break)
behind_word n i reserved.Continue t = Some (ended node.Continue)
behind_word n i reserved.Return t = Some (given n >>= λ v. pure (node.Return v))
behind_word n i reserved.Goto t = Some goto
behind_word n i _ t = None

-- what a statement goes on with behind its first terminal; None where none begins with it
abbrev pub node_by : ℕ → Inner → Symbol → Terminal → Option (Reader StmtNode)
node_by n i Semicolon t = Some (pure node.Empty)
node_by n i OpenBrace t = Some (i.body >>= λ ss. pure (node.Block ss))
node_by n i Name t = Some (named n i t)
node_by n i Increment t = Some (increment n t >>= ended)
node_by n i Decrement t = Some (decrement n t >>= ended)
node_by n i (Operator binary.Mul) t = Some (pointed_left n t >>= λ l. set n l >>= ended)
node_by n i Open t = Some (grouped_left (left n) >>= λ l. set n l >>= ended)
node_by n i (Keyword k) t = behind_word n i k t
node_by n i _ t = None

abbrev pub stmt_begun : Terminal → Option (Reader StmtNode) → Reader Stmt
stmt_begun t None = fail
stmt_begun t (Some p) = skip >> (p >>= λ m. pure (statement t.at m))

abbrev pub stmt_at : ℕ → Inner → Option Terminal → Reader Stmt
stmt_at n i None = fail
stmt_at n i (Some t) = stmt_begun t (node_by n i t.symbol t)

unfoldable pub stmt_of : ℕ → Inner → Reader Stmt
stmt_of n i = peek (stmt_at n i)

abbrev pub either : Option (Reader StmtNode) → Option (Reader StmtNode) → Option (Reader StmtNode)
either (Some p) o = Some p
either None o = o

abbrev pub body_begun : Inner → Terminal → Option (Reader StmtNode) → Reader (List Stmt)
body_begun i t None = fail
body_begun i t (Some p) = skip >> (p >>= λ m. i.body >>= λ ss. pure (statement t.at m ∷ ss))

abbrev pub body_by : ℕ → Inner → Symbol → Terminal → Reader (List Stmt)
body_by n i CloseBrace t = skip >> pure []
body_by n i s t = body_begun i t (either (declaration_by n s) (node_by n i s t))

abbrev pub body_at : ℕ → Inner → Option Terminal → Reader (List Stmt)
body_at n i None = fail
body_at n i (Some t) = body_by n i t.symbol t

-- { decl | stmt } "}"
unfoldable pub body_of : ℕ → Inner → Reader (List Stmt)
body_of n i = peek (body_at n i)

-- the readers for fewer than n terminals
unfoldable pub inner : ℕ → Inner
inner zero = record { stmt = fail; body = fail }
inner (suc n) = record { stmt = stmt_of n (inner n); body = body_of n (inner n) }

abbrev pub stmt : ℕ → Reader Stmt
stmt n = (inner n).stmt

abbrev pub body : ℕ → Reader (List Stmt)
body n = (inner n).body
