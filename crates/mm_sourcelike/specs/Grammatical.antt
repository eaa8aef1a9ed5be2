-- What the grammar gives of a tree that no rule of names and types asks for.
use Rattle.std.specs.Prelude.{◌≡◌, ℕ, ℤ, pos, negsuc, ◌+◌, ◌≤◌, ◌≤ℤ◌, Bool, true, false, IsTrue, List, [], ◌∷◌, ◌++◌, map, Option, Some, None}
use Rattle.std.specs.List.{AllByRecursion}
use Rattle.std.specs.Str.{chars, IsUtf8}
use Rattle.mm_goto.specs.declared.ident.Ident.{Ident}
use Rattle.mm_goto.specs.declared.pure.Binary.{Binary}
use Rattle.mm_goto.specs.Names.{is_name, is_word}
use Rattle.mm_tree.specs.declared.expr.Expr.{Expr, fold-Expr}
use Rattle.mm_tree.specs.declared.expr.Node.TheOpen as node
use Rattle.mm_tree.specs.declared.expr.Node.TheOpen.{Node-F, Expr-F}
use Rattle.mm_tree.specs.declared.stmt.LeftNode.{LeftNode}
use Rattle.mm_tree.specs.declared.stmt.LeftNode.TheVariants as left
use Rattle.mm_tree.specs.declared.stmt.Local.{Local}
use Rattle.mm_tree.specs.declared.stmt.Value.{Value}
use Rattle.mm_tree.specs.declared.stmt.Value.TheVariants as value
use Rattle.mm_tree.specs.declared.stmt.Stmt.{Stmt, fold-Stmt}
use Rattle.mm_tree.specs.declared.stmt.StmtNode.TheOpen as stmt
use Rattle.mm_tree.specs.declared.stmt.StmtNode.TheOpen.{StmtNode-F, Stmt-F}
use Rattle.mm_tree.specs.declared.item.Global.{Global}
use Rattle.mm_tree.specs.declared.item.Item.{Item}
use Rattle.mm_tree.specs.declared.item.Tree.{Tree}
use Rattle.mm_tree.specs.declared.side.Side.{Side}
use Rattle.mm_tree.specs.declared.side.Side.TheVariants.{Source, Output}
use Rattle.mm_flow.specs.Programs.{body_of, globals_in, mutexes_in}
use Rattle.mm_print.specs.Printable.{updates}
use Rattle.mm_sourcelike.specs.Ints.{AreInts, all_numbers, numbers_of}
use Rattle.mm_sourcelike.specs.Shapes.{IsScoped}

-- ---- how many tokens at least

abbrev pub node_tokens : Node-F ℕ ℕ → ℕ
node_tokens (node.Number z) = 1
node_tokens node.Null = 1
node_tokens (node.Name x) = 1
node_tokens (node.Index x e) = e + 3
node_tokens (node.Deref e) = e + 1
node_tokens (node.AddrName w) = 2
node_tokens (node.AddrIndex w e) = e + 4
node_tokens (node.Un op a) = a + 1
node_tokens (node.Bin op a b) = a + b + 1
node_tokens (node.Cond c a b) = c + a + b + 2

abbrev pub tokens_layer : Expr-F ℕ ℕ → ℕ
tokens_layer layer = layer.node

-- the fewest tokens that spell an expression
unfoldable pub tokens_of : Expr → ℕ
tokens_of e = fold-Expr ℕ ℕ node_tokens tokens_layer e

-- ---- phrases

-- an expression of a statement, alone or behind the operator of an update
pub data Phrase : Type 0 where
  alone : Expr → Phrase
  updating : Binary → Expr → Phrase

abbrev pub value_phrases : Value → List Phrase
value_phrases (value.Plain e) = alone e ∷ []
value_phrases (value.Call at f es) = map alone es
value_phrases (value.FetchAdd at p e) = alone p ∷ alone e ∷ []
value_phrases (value.CompareSwap at p e f) = alone p ∷ alone e ∷ alone f ∷ []

abbrev pub optional_phrases : Option Value → List Phrase
optional_phrases None = []
optional_phrases (Some v) = value_phrases v

-- the expression in a left side
abbrev pub left_phrases : LeftNode → List Phrase
left_phrases (left.Name x) = []
left_phrases (left.Index x e) = alone e ∷ []
left_phrases (left.Deref e) = alone e ∷ []

abbrev pub local_phrases : List Local → List Phrase
local_phrases [] = []
local_phrases (l ∷ ls) = optional_phrases l.value ++ local_phrases ls

abbrev pub condition_phrases : Option Expr → List Phrase
condition_phrases None = []
condition_phrases (Some e) = alone e ∷ []

abbrev pub all_phrases : List (List Phrase) → List Phrase
all_phrases [] = []
all_phrases (d ∷ ds) = d ++ all_phrases ds

abbrev pub phrases_if : Option (List Phrase) → List Phrase
phrases_if None = []
phrases_if (Some d) = d

abbrev pub stmt_phrases : StmtNode-F (List Phrase) (List Phrase) → List Phrase
stmt_phrases stmt.Empty = []
stmt_phrases (stmt.Block ds) = all_phrases ds
stmt_phrases (stmt.Declare ls) = local_phrases ls
stmt_phrases (stmt.DeclareThread xs) = []
stmt_phrases (stmt.Assign l v) = left_phrases l.node ++ value_phrases v
stmt_phrases (stmt.Update l op e) = left_phrases l.node ++ updating op e ∷ []
stmt_phrases (stmt.Do v) = value_phrases v
stmt_phrases (stmt.If c d e) = alone c ∷ (d ++ phrases_if e)
stmt_phrases (stmt.While c d) = alone c ∷ d
stmt_phrases (stmt.DoWhile d c) = d ++ alone c ∷ []
stmt_phrases (stmt.For i c j d) = phrases_if i ++ (condition_phrases c ++ (phrases_if j ++ d))
stmt_phrases stmt.Break = []
stmt_phrases stmt.Continue = []
stmt_phrases (stmt.Return v) = optional_phrases v
stmt_phrases (stmt.Assert e text) = alone e ∷ []
stmt_phrases (stmt.Assume e) = alone e ∷ []
stmt_phrases stmt.Fence = []
stmt_phrases (stmt.Lock x) = []
stmt_phrases (stmt.Unlock x) = []
stmt_phrases (stmt.Start x f) = []
stmt_phrases (stmt.Join x) = []
stmt_phrases (stmt.Goto x) = []
stmt_phrases (stmt.Label x d) = d
stmt_phrases stmt.AtomBegin = []
stmt_phrases stmt.AtomEnd = []

abbrev pub phrases_layer : Stmt-F (List Phrase) (List Phrase) → List Phrase
phrases_layer layer = layer.node

unfoldable pub phrases_of : Stmt → List Phrase
phrases_of s = fold-Stmt (List Phrase) (List Phrase) stmt_phrases phrases_layer s

abbrev pub body_phrases : List Stmt → List Phrase
body_phrases [] = []
body_phrases (s ∷ ss) = phrases_of s ++ body_phrases ss

-- the phrases of the functions' bodies
abbrev pub item_phrases : List Item → List Phrase
item_phrases [] = []
item_phrases (i ∷ is) = body_phrases (body_of i) ++ item_phrases is

-- ---- what holds of phrases

abbrev pub expr_in : Phrase → Expr
expr_in (alone e) = e
expr_in (updating op e) = e

abbrev pub IsUpdate : Phrase → Type 0
IsUpdate (alone e) = Unit {0}
IsUpdate (updating op e) = updates op ≡ true

-- a number of the text has no sign
abbrev pub IsUnsigned : ℤ → Type 0
IsUnsigned z = (n : ℕ) × (z ≡ pos n)

-- its expression has so many tokens at most, its numbers have no sign, and an update is by an operator that has a form with =
pub record IsPhrase (most : ℕ) (phrase : Phrase) : Type 0 where
  pub short : tokens_of (expr_in phrase) ≤ most
  pub numbers : AllByRecursion IsUnsigned (numbers_of (expr_in phrase))
  pub update : IsUpdate phrase

-- ---- what holds of globals

-- the lexer reads it as a name, and it is no word of C
pub record IsName (x : Ident) : Type 0 where
  pub text : IsUtf8 x
  pub name : IsTrue (is_name (chars x))
  pub no_word : is_word x ≡ false

abbrev pub IsOfInts : Option ℤ → Bool → Type 0
IsOfInts None pointer = Unit {0}
IsOfInts (Some n) pointer = pointer ≡ false

-- it has a name, an array has ints, and the numbers of start values are those of 31 bits and a sign
pub record IsGlobal (g : Global) : Type 0 where
  pub name : IsName g.name
  pub array : IsOfInts g.len g.pointer
  pub numbers : AllByRecursion (λ z. negsuc 2147483646 ≤ℤ z) (all_numbers g.init)

-- ---- the whole

-- so many tokens stand at most between one comma, semicolon or brace of a text and the next
abbrev pub most_tokens : Side → ℕ
most_tokens Source = 200
most_tokens Output = 2048

pub record IsGrammatical (side : Side) (tree : Tree) : Type 0 where
  pub ints : AreInts tree
  pub scoped : IsScoped tree
  pub phrases : AllByRecursion (IsPhrase (most_tokens side)) (item_phrases tree.items)
  pub globals : AllByRecursion IsGlobal (globals_in tree.items)
  pub mutexes : AllByRecursion IsName (mutexes_in tree.items)
