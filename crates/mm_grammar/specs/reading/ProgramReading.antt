-- This mirrors the code: nothing that a reader believes rests on it.
-- Reading items and programs by recursive descent, each reader with a bound on the terminals.
use Rattle.std.specs.Prelude.{ℕ, ℤ, zero, suc, Bool, true, false, List, [], ◌∷◌, Option, Some, None}
use Rattle.std.specs.Int.{w32, int_wrapping_neg}
use Rattle.mm_goto.specs.declared.pure.Binary.TheVariants as binary
use Rattle.mm_tree.specs.declared.expr.Expr.{Expr}
use Rattle.mm_tree.specs.declared.expr.Node.TheVariants as node
use Rattle.mm_tree.specs.declared.expr.Word.{Word}
use Rattle.mm_tree.specs.declared.item.Gives.{Gives}
use Rattle.mm_tree.specs.declared.item.Gives.TheVariants as gives
use Rattle.mm_tree.specs.declared.item.Global.{Global}
use Rattle.mm_tree.specs.declared.item.Item.{Item}
use Rattle.mm_tree.specs.declared.item.Item.TheVariants as item_node
use Rattle.mm_tree.specs.declared.item.Param.{Param}
use Rattle.mm_tree.specs.declared.item.Tree.{Tree}
use Rattle.mm_reading.specs.Parsing.{◌>>=◌, ◌>>◌, pure, fail, peek, skip, token}
use Rattle.mm_parse_expr.specs.declared.symbol.Keyword.TheVariants as reserved
use Rattle.mm_parse_expr.specs.declared.symbol.Symbol.{Symbol}
use Rattle.mm_parse_expr.specs.declared.symbol.Symbol.TheVariants.{Name, Number, Null, Keyword, Operator, Assign, Semicolon, Open, Close, OpenBracket, OpenBrace, CloseBrace}
use Rattle.mm_parse_expr.specs.declared.terminal.Terminal.{Terminal}
use Rattle.mm_tree.specs.Trees.{expr as tree, global, param}
use Rattle.mm_parse_expr.specs.reading.ExprReading.{Reader, close, close_bracket, name_word}
use Rattle.mm_grammar.specs.ProgramGrammar.{number_at}
use Rattle.mm_grammar.specs.reading.StatementReading.{mark, semicolon, open_mark, int_word, others, list, star, name_item, body}

-- ---- one terminal

abbrev pub is_open_brace : Symbol → Bool
is_open_brace OpenBrace = true
is_open_brace _ = false

abbrev pub is_close_brace : Symbol → Bool
is_close_brace CloseBrace = true
is_close_brace _ = false

abbrev pub is_initializer : Symbol → Bool
is_initializer (Keyword reserved.MutexInitializer) = true
is_initializer _ = false

unfoldable pub open_brace : Reader (Unit {0})
open_brace = mark is_open_brace

unfoldable pub close_brace : Reader (Unit {0})
close_brace = mark is_close_brace

unfoldable pub initializer : Reader (Unit {0})
initializer = mark is_initializer

abbrev pub numbered : Symbol → Option ℤ
numbered (Number n) = Some n
numbered _ = None

unfoldable pub number : Reader ℤ
number = token (λ t. numbered t.symbol)

abbrev pub number_tree : Symbol → Terminal → Option Expr
number_tree (Number n) t = Some (number_at t.at n)
number_tree _ t = None

unfoldable pub number_expr : Reader Expr
number_expr = token (λ t. number_tree t.symbol t)

-- ---- initialisers

abbrev pub const_by : Symbol → Terminal → Reader Expr
const_by (Number n) t = skip >> pure (number_at t.at n)
const_by (Operator binary.Sub) t = skip >> (number >>= λ n. pure (number_at t.at (int_wrapping_neg w32 n)))
const_by _ t = fail

abbrev pub const_at : Option Terminal → Reader Expr
const_at None = fail
const_at (Some t) = const_by t.symbol t

unfoldable pub const : Reader Expr
const = peek const_at

abbrev pub const_item : ℕ → Reader Expr
const_item n = const

abbrev pub address_by : Terminal → Word → Symbol → Reader Expr
address_by t w OpenBracket = skip >> (number_expr >>= λ e. close_bracket >> pure (tree t.at (node.AddrIndex w e)))
address_by t w _ = pure (tree t.at (node.AddrName w))

abbrev pub address_at : Terminal → Word → Option Terminal → Reader Expr
address_at t w None = pure (tree t.at (node.AddrName w))
address_at t w (Some u) = address_by t w u.symbol

-- behind "&"
unfoldable pub address : Terminal → Reader Expr
address t = name_word >>= λ w. peek (address_at t w)

abbrev pub init_by : Symbol → Terminal → Reader Expr
init_by Null t = skip >> pure (tree t.at node.Null)
init_by (Operator binary.And) t = skip >> address t
init_by s t = const_by s t

abbrev pub init_at : Option Terminal → Reader Expr
init_at None = fail
init_at (Some t) = init_by t.symbol t

unfoldable pub init : Reader Expr
init = peek init_at

-- ---- globals

abbrev pub scalar_by : Bool → Word → Symbol → Reader Global
scalar_by b w Assign = skip >> (init >>= λ e. pure (global w.at b w.name None (e ∷ [])))
scalar_by b w _ = pure (global w.at b w.name None [])

abbrev pub scalar_at : Bool → Word → Option Terminal → Reader Global
scalar_at b w None = pure (global w.at b w.name None [])
scalar_at b w (Some t) = scalar_by b w t.symbol

-- behind the name of a variable
unfoldable pub scalar : Bool → Word → Reader Global
scalar b w = peek (scalar_at b w)

abbrev pub elements_by : ℕ → Word → ℤ → Symbol → Reader Global
elements_by n w k Assign = skip >> (open_brace >> (list const_item n >>= λ es. close_brace >> pure (global w.at false w.name (Some k) es)))
elements_by n w k _ = pure (global w.at false w.name (Some k) [])

abbrev pub elements_at : ℕ → Word → ℤ → Option Terminal → Reader Global
elements_at n w k None = pure (global w.at false w.name (Some k) [])
elements_at n w k (Some t) = elements_by n w k t.symbol

-- behind the name of an array and "["
unfoldable pub array : ℕ → Word → Reader Global
array n w = number >>= λ k. close_bracket >> peek (elements_at n w k)

abbrev pub plain_by : ℕ → Word → Symbol → Reader Global
plain_by n w OpenBracket = skip >> array n w
plain_by n w s = scalar_by false w s

abbrev pub plain_at : ℕ → Word → Option Terminal → Reader Global
plain_at n w None = pure (global w.at false w.name None [])
plain_at n w (Some t) = plain_by n w t.symbol

-- behind a name without "*"
unfoldable pub plain : ℕ → Word → Reader Global
plain n w = peek (plain_at n w)

abbrev pub variable : ℕ → Bool → Word → Reader Global
variable n true w = scalar true w
variable n false w = plain n w

unfoldable pub global_item : ℕ → Reader Global
global_item n = star >>= λ b. name_word >>= variable n b

abbrev pub mutex_by : Word → Symbol → Reader Word
mutex_by w Assign = skip >> (initializer >> pure w)
mutex_by w _ = pure w

abbrev pub mutex_at : Word → Option Terminal → Reader Word
mutex_at w None = pure w
mutex_at w (Some t) = mutex_by w t.symbol

unfoldable pub mutex_item : ℕ → Reader Word
mutex_item n = name_word >>= λ w. peek (mutex_at w)

-- ---- functions

-- "{" block
unfoldable pub function : ℕ → Gives → Word → List Param → Reader Item
function n kind w ps = open_brace >> (body n >>= λ ss. pure (item_node.Function w.at kind w.name ps ss))

unfoldable pub param_item : ℕ → Reader Param
param_item n = int_word >> (star >>= λ b. name_word >>= λ w. pure (param b w.at w.name))

abbrev pub params_by : ℕ → Symbol → Reader (List Param)
params_by n Close = skip >> pure []
params_by n (Keyword reserved.Void) = skip >> (close >> pure [])
params_by n _ = list param_item n >>= λ ps. close >> pure ps

abbrev pub params_at : ℕ → Option Terminal → Reader (List Param)
params_at n None = fail
params_at n (Some t) = params_by n t.symbol

-- behind "("
unfoldable pub params : ℕ → Reader (List Param)
params n = peek (params_at n)

abbrev pub name_of_param_by : Symbol → Terminal → Reader (List Param)
name_of_param_by Close t = skip >> pure []
name_of_param_by Name t = skip >> (close >> pure (param true t.at t.spelling ∷ []))
name_of_param_by _ t = fail

abbrev pub name_of_param_at : Option Terminal → Reader (List Param)
name_of_param_at None = fail
name_of_param_at (Some t) = name_of_param_by t.symbol t

abbrev pub behind_void_by : Symbol → Reader (List Param)
behind_void_by Close = skip >> pure []
behind_void_by (Operator binary.Mul) = skip >> peek name_of_param_at
behind_void_by _ = fail

abbrev pub behind_void_at : Option Terminal → Reader (List Param)
behind_void_at None = fail
behind_void_at (Some t) = behind_void_by t.symbol

abbrev pub thread_params_by : Symbol → Reader (List Param)
thread_params_by Close = skip >> pure []
thread_params_by (Keyword reserved.Void) = skip >> peek behind_void_at
thread_params_by _ = fail

abbrev pub thread_params_at : Option Terminal → Reader (List Param)
thread_params_at None = fail
thread_params_at (Some t) = thread_params_by t.symbol

-- behind "("
unfoldable pub thread_params : Reader (List Param)
thread_params = peek thread_params_at

-- behind "void" "*"
unfoldable pub thread_function : ℕ → Reader Item
thread_function n = name_word >>= λ w. open_mark >> (thread_params >>= function n gives.Thread w)

-- params block
unfoldable pub with_params : ℕ → Gives → Word → Reader Item
with_params n kind w = params n >>= function n kind w

abbrev pub void_by : ℕ → Symbol → Reader Item
void_by n (Operator binary.Mul) = skip >> thread_function n
void_by n _ = name_word >>= λ w. open_mark >> with_params n gives.Nothing w

abbrev pub void_at : ℕ → Option Terminal → Reader Item
void_at n None = fail
void_at n (Some t) = void_by n t.symbol

-- behind "void"
unfoldable pub void_item : ℕ → Reader Item
void_item n = peek (void_at n)

-- ---- items that begin with "int"; may_ask says whether they may declare an input, and may_run whether a function

abbrev pub where_it_may : Bool → Reader Item → Reader Item
where_it_may true p = p
where_it_may false p = fail

abbrev pub no_params_by : ℕ → Bool → Word → Symbol → Reader Item
no_params_by n may_ask w Semicolon = where_it_may may_ask (skip >> pure (item_node.InputDecl w.at w.name))
no_params_by n may_ask w _ = function n gives.Int w []

abbrev pub no_params_at : ℕ → Bool → Word → Option Terminal → Reader Item
no_params_at n may_ask w None = fail
no_params_at n may_ask w (Some t) = no_params_by n may_ask w t.symbol

-- behind "int" NAME "(" [ "void" ] ")"
unfoldable pub no_params : ℕ → Bool → Word → Reader Item
no_params n may_ask w = peek (no_params_at n may_ask w)

abbrev pub asked_by : ℕ → Bool → Word → Symbol → Reader Item
asked_by n may_ask w Close = skip >> no_params n may_ask w
asked_by n may_ask w (Keyword reserved.Void) = skip >> (close >> no_params n may_ask w)
asked_by n may_ask w _ = list param_item n >>= λ ps. close >> function n gives.Int w ps

abbrev pub asked_at : ℕ → Bool → Word → Option Terminal → Reader Item
asked_at n may_ask w None = fail
asked_at n may_ask w (Some t) = asked_by n may_ask w t.symbol

-- behind "int" NAME "("
unfoldable pub asked : ℕ → Bool → Word → Reader Item
asked n may_ask w = peek (asked_at n may_ask w)

-- the first of the globals, and the others
unfoldable pub globals : ℕ → Reader Global → Reader Item
globals n p = p >>= λ g. others global_item n >>= λ gs. semicolon >> pure (item_node.Globals (g ∷ gs))

abbrev pub int_named_by : ℕ → Bool → Bool → Word → Symbol → Reader Item
int_named_by n may_ask may_run w Open = where_it_may may_run (skip >> asked n may_ask w)
int_named_by n may_ask may_run w _ = globals n (plain n w)

abbrev pub int_named_at : ℕ → Bool → Bool → Word → Option Terminal → Reader Item
int_named_at n may_ask may_run w None = fail
int_named_at n may_ask may_run w (Some t) = int_named_by n may_ask may_run w t.symbol

abbrev pub pointer_by : ℕ → Bool → Word → Symbol → Reader Item
pointer_by n may_run w Open = where_it_may may_run (skip >> with_params n gives.Pointer w)
pointer_by n may_run w _ = globals n (scalar true w)

abbrev pub pointer_at : ℕ → Bool → Word → Option Terminal → Reader Item
pointer_at n may_run w None = fail
pointer_at n may_run w (Some t) = pointer_by n may_run w t.symbol

abbrev pub int_by : ℕ → Bool → Bool → Symbol → Reader Item
int_by n may_ask may_run (Operator binary.Mul) = skip >> (name_word >>= λ w. peek (pointer_at n may_run w))
int_by n may_ask may_run _ = name_word >>= λ w. peek (int_named_at n may_ask may_run w)

abbrev pub int_at : ℕ → Bool → Bool → Option Terminal → Reader Item
int_at n may_ask may_run None = fail
int_at n may_ask may_run (Some t) = int_by n may_ask may_run t.symbol

-- behind "int"
unfoldable pub int_item : ℕ → Bool → Bool → Reader Item
int_item n may_ask may_run = peek (int_at n may_ask may_run)

-- ---- items

-- behind "pthread_mutex_t"
unfoldable pub mutexes : ℕ → Reader Item
mutexes n = list mutex_item n >>= λ ws. semicolon >> pure (item_node.Mutexes ws)

-- behind "pthread_t"
unfoldable pub threads : ℕ → Reader Item
threads n = list name_item n >>= λ ws. semicolon >> pure (item_node.Threads ws)

abbrev pub qualified_by : ℕ → (Bool → Reader Item) → Bool → Symbol → Reader Item
qualified_by n inner may_run (Keyword reserved.Static) = skip >> inner false
qualified_by n inner may_run (Keyword reserved.Volatile) = skip >> inner false
qualified_by n inner may_run (Keyword reserved.Int) = skip >> int_item n false may_run
qualified_by n inner may_run (Keyword reserved.Mutex) = skip >> mutexes n
qualified_by n inner may_run (Keyword reserved.Thread) = skip >> threads n
qualified_by n inner may_run (Keyword reserved.Void) = where_it_may may_run (skip >> void_item n)
qualified_by n inner may_run _ = fail

abbrev pub qualified_at : ℕ → (Bool → Reader Item) → Bool → Option Terminal → Reader Item
qualified_at n inner may_run None = fail
qualified_at n inner may_run (Some t) = qualified_by n inner may_run t.symbol

-- behind "static" or "volatile"; may_run says whether it may be a function
unfoldable pub qualified : ℕ → Bool → Reader Item
qualified zero may_run = fail
qualified (suc n) may_run = peek (qualified_at n (qualified n) may_run)

abbrev pub void_or_not_by : Symbol → Reader (Unit {0})
void_or_not_by (Keyword reserved.Void) = skip
void_or_not_by _ = pure tt

abbrev pub void_or_not_at : Option Terminal → Reader (Unit {0})
void_or_not_at None = pure tt
void_or_not_at (Some t) = void_or_not_by t.symbol

-- [ "void" ]
unfoldable pub void_or_not : Reader (Unit {0})
void_or_not = peek void_or_not_at

-- behind "extern"
unfoldable pub external : Reader Item
external = int_word >> (name_word >>= λ w. open_mark >> (void_or_not >> (close >> (semicolon >> pure (item_node.InputDecl w.at w.name)))))

-- what an item goes on with behind its first terminal; None where none begins with it
abbrev pub item_by : ℕ → Symbol → Option (Reader Item)
item_by n (Keyword reserved.Extern) = Some external
item_by n (Keyword reserved.Static) = Some (qualified n true)
item_by n (Keyword reserved.Volatile) = Some (qualified n false)
item_by n (Keyword reserved.Int) = Some (int_item n true true)
item_by n (Keyword reserved.Mutex) = Some (mutexes n)
item_by n (Keyword reserved.Thread) = Some (threads n)
item_by n (Keyword reserved.Void) = Some (void_item n)
item_by n _ = None

abbrev pub items_begun : Option (Reader Item) → Reader (List Item) → Reader (List Item)
items_begun None inner = fail
items_begun (Some p) inner = skip >> (p >>= λ i. inner >>= λ is. pure (i ∷ is))

abbrev pub items_at : ℕ → Reader (List Item) → Option Terminal → Reader (List Item)
items_at n inner None = pure []
items_at n inner (Some t) = items_begun (item_by n t.symbol) inner

-- { item }
unfoldable pub items : ℕ → Reader (List Item)
items zero = fail
items (suc n) = peek (items_at n (items n))

abbrev pub program_of : List Item → Tree
program_of is = record { items = is }

unfoldable pub program : ℕ → Reader Tree
program n = items n >>= λ is. pure (program_of is)
