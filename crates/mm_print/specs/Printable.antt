-- Which trees have a printed form that is read as them again. Each form of the grammar has; only what no text says has none:
-- a number below 0 outside an initialiser, a word of C as a name, an update by an operator that has no mark for it, and an
-- `else` that would belong to an `if` within the statement before it.
use Rattle.std.specs.Prelude.{◌≡◌, ℕ, suc, pos, negsuc, ◌<◌, ◌≤◌, ◌^◌, Bool, true, false, List, [], ◌∷◌, length, All, Option, Some, None}
use Rattle.std.specs.List.{list_all}
use Rattle.std.specs.Str.{chars, IsUtf8}
use Rattle.mm_goto.specs.Names.{is_name, is_word}
use Rattle.mm_goto.specs.declared.ident.At.{At}
use Rattle.mm_goto.specs.declared.pure.Unary.{Unary}
use Rattle.mm_goto.specs.declared.pure.Binary.{Binary}
use Rattle.mm_goto.specs.declared.pure.Binary.TheVariants as binary
use Rattle.mm_lexer.specs.Class.{is_text_char}
use Rattle.mm_tree.specs.declared.expr.Expr.{Expr}
use Rattle.mm_tree.specs.declared.expr.Node.TheVariants as node
use Rattle.mm_tree.specs.declared.expr.Word.{Word}
use Rattle.mm_tree.specs.declared.stmt.LeftNode.{LeftNode}
use Rattle.mm_tree.specs.declared.stmt.LeftNode.TheVariants as left
use Rattle.mm_tree.specs.declared.stmt.Local.{Local}
use Rattle.mm_tree.specs.declared.stmt.Stmt.{Stmt}
use Rattle.mm_tree.specs.declared.stmt.StmtNode.{StmtNode}
use Rattle.mm_tree.specs.declared.stmt.StmtNode.TheVariants as stmt
use Rattle.mm_tree.specs.declared.stmt.Value.{Value}
use Rattle.mm_tree.specs.declared.stmt.Value.TheVariants as value
use Rattle.mm_tree.specs.declared.item.Gives.{Gives}
use Rattle.mm_tree.specs.declared.item.Gives.TheVariants as gives
use Rattle.mm_tree.specs.declared.item.Global.{Global}
use Rattle.mm_tree.specs.declared.item.Item.{Item}
use Rattle.mm_tree.specs.declared.item.Item.TheVariants as item
use Rattle.mm_tree.specs.declared.item.Param.{Param}
use Rattle.mm_tree.specs.declared.item.Tree.{Tree}
use Rattle.mm_tree.specs.Trees.{expr, word, left_at, statement, global, param}

-- one or more of a kind
pub data OneOrMore {A : Type 0} (P : A → Type 0) : List A → Type 0 where
  last : {a : A} → P a → OneOrMore P (a ∷ [])
  more : {a b : A} {xs : List A} → P a → OneOrMore P (b ∷ xs) → OneOrMore P (a ∷ b ∷ xs)

-- ---- names, texts and operators

-- a name that is no word of C
pub record IsPrintableName (x : List ℕ) : Type 0 where
  pub utf8 : IsUtf8 x
  pub name : is_name (chars x) ≡ true
  pub no_word : is_word x ≡ false

-- what may stand between quotes
pub record IsPrintableText (x : List ℕ) : Type 0 where
  pub printable : list_all is_text_char x ≡ true
  pub short : length x ≤ 200

-- the operators that stand before `=` (ISO C, assignment operators)
abbrev pub updates : Binary → Bool
updates binary.Add = true
updates binary.Sub = true
updates binary.Mul = true
updates binary.Div = true
updates binary.Rem = true
updates binary.Shl = true
updates binary.Shr = true
updates binary.And = true
updates binary.Xor = true
updates binary.Or = true
updates binary.Lt = false
updates binary.Le = false
updates binary.Gt = false
updates binary.Ge = false
updates binary.Eq = false
updates binary.Ne = false
updates binary.Land = false
updates binary.Lor = false

-- ---- expressions

-- a number as a text has it, without a sign
pub data IsPrintableNumber : Expr → Type 0 where
  number : {at : At} {n : ℕ} → n < 2 ^ 31 → IsPrintableNumber (expr at (node.Number (pos n)))

-- an expression that a text has
pub data IsPrintable : Expr → Type 0 where
  number : {e : Expr} → IsPrintableNumber e → IsPrintable e
  null : {at : At} → IsPrintable (expr at node.Null)
  name : {at : At} {x : List ℕ} → IsPrintableName x → IsPrintable (expr at (node.Name x))
  element : {at : At} {x : List ℕ} {e : Expr} → IsPrintableName x → IsPrintable e → IsPrintable (expr at (node.Index x e))
  pointee : {at : At} {e : Expr} → IsPrintable e → IsPrintable (expr at (node.Deref e))
  address : {at p : At} {x : List ℕ} → IsPrintableName x → IsPrintable (expr at (node.AddrName (word p x)))
  element_address : {at p : At} {x : List ℕ} {e : Expr}
      → IsPrintableName x
      → IsPrintable e
      → IsPrintable (expr at (node.AddrIndex (word p x) e))
  un : {at : At} {op : Unary} {e : Expr} → IsPrintable e → IsPrintable (expr at (node.Un op e))
  bin : {at : At} {op : Binary} {a b : Expr} → IsPrintable a → IsPrintable b → IsPrintable (expr at (node.Bin op a b))
  cond : {at : At} {c a b : Expr} → IsPrintable c → IsPrintable a → IsPrintable b → IsPrintable (expr at (node.Cond c a b))

-- ---- statements

-- what may stand before `=`
pub data IsPrintableLeft : LeftNode → Type 0 where
  name : {x : List ℕ} → IsPrintableName x → IsPrintableLeft (left.Name x)
  element : {x : List ℕ} {e : Expr} → IsPrintableName x → IsPrintable e → IsPrintableLeft (left.Index x e)
  pointee : {e : Expr} → IsPrintable e → IsPrintableLeft (left.Deref e)

-- a call, which may be a statement
pub data IsPrintableCall : Value → Type 0 where
  bare_call : {at : At} {x : List ℕ} → IsPrintableName x → IsPrintableCall (value.Call at x [])
  call : {at : At} {x : List ℕ} {es : List Expr}
      → IsPrintableName x
      → OneOrMore IsPrintable es
      → IsPrintableCall (value.Call at x es)
  fetch_add : {at : At} {p e : Expr} → IsPrintable p → IsPrintable e → IsPrintableCall (value.FetchAdd at p e)
  compare_swap : {at : At} {p e f : Expr}
      → IsPrintable p
      → IsPrintable e
      → IsPrintable f
      → IsPrintableCall (value.CompareSwap at p e f)

-- what may stand behind `=`
pub data IsPrintableValue : Value → Type 0 where
  plain : {e : Expr} → IsPrintable e → IsPrintableValue (value.Plain e)
  called : {v : Value} → IsPrintableCall v → IsPrintableValue v

-- a value, or none
pub data IsPrintableGiven : Option Value → Type 0 where
  none : IsPrintableGiven None
  some : {v : Value} → IsPrintableValue v → IsPrintableGiven (Some v)

-- a name that is declared, with its start value
pub record IsPrintableLocal (l : Local) : Type 0 where
  pub name : IsPrintableName l.name
  pub value : IsPrintableGiven l.value

-- a name that is declared without one
abbrev pub IsPrintableWord : Word → Type 0
IsPrintableWord w = IsPrintableName w.name

-- names behind the word of their type
pub data IsPrintableDeclaration : StmtNode → Type 0 where
  ints : {ls : List Local} → OneOrMore IsPrintableLocal ls → IsPrintableDeclaration (stmt.Declare ls)
  threads : {ws : List Word} → OneOrMore IsPrintableWord ws → IsPrintableDeclaration (stmt.DeclareThread ws)

-- an assignment, or an update by an operator
pub data IsPrintableAssignment : StmtNode → Type 0 where
  assign : {p : At} {l : LeftNode} {v : Value}
      → IsPrintableLeft l
      → IsPrintableValue v
      → IsPrintableAssignment (stmt.Assign (left_at p l) v)
  update : {p : At} {l : LeftNode} {op : Binary} {e : Expr}
      → IsPrintableLeft l
      → updates op ≡ true
      → IsPrintable e
      → IsPrintableAssignment (stmt.Update (left_at p l) op e)

-- the last part in the head of a `for`
pub data IsPrintableStep : Option Stmt → Type 0 where
  no_step : IsPrintableStep None
  step : {at : At} {n : StmtNode} → IsPrintableAssignment n → IsPrintableStep (Some (statement at n))

-- and its first part
pub data IsPrintableFirst : Option Stmt → Type 0 where
  declaration : {at : At} {n : StmtNode} → IsPrintableDeclaration n → IsPrintableFirst (Some (statement at n))
  first_step : {s : Option Stmt} → IsPrintableStep s → IsPrintableFirst s

-- a statement in one word, or in a word and its arguments
pub data IsPrintableAction : StmtNode → Type 0 where
  effect : {v : Value} → IsPrintableCall v → IsPrintableAction (stmt.Do v)
  assert : {e : Expr} → IsPrintable e → IsPrintableAction (stmt.Assert e None)
  named_assert : {e : Expr} {x : List ℕ} → IsPrintable e → IsPrintableText x → IsPrintableAction (stmt.Assert e (Some x))
  assume : {e : Expr} → IsPrintable e → IsPrintableAction (stmt.Assume e)
  fence : IsPrintableAction stmt.Fence
  lock : {p : At} {x : List ℕ} → IsPrintableName x → IsPrintableAction (stmt.Lock (word p x))
  unlock : {p : At} {x : List ℕ} → IsPrintableName x → IsPrintableAction (stmt.Unlock (word p x))
  start : {p q : At} {x y : List ℕ} → IsPrintableName x → IsPrintableName y → IsPrintableAction (stmt.Start (word p x) (word q y))
  join : {p : At} {x : List ℕ} → IsPrintableName x → IsPrintableAction (stmt.Join (word p x))
  atom_begin : IsPrintableAction stmt.AtomBegin
  atom_end : IsPrintableAction stmt.AtomEnd

mutual
  -- a statement, and whether it ends with an `if` without `else`, to which an `else` behind it would belong
  pub data IsPrintableStmt : Stmt → Bool → Type 0 where
    empty : {at : At} → IsPrintableStmt (statement at stmt.Empty) false
    block : {at : At} {ss : List Stmt} → IsPrintableBody ss → IsPrintableStmt (statement at (stmt.Block ss)) false
    assignment : {at : At} {n : StmtNode} → IsPrintableAssignment n → IsPrintableStmt (statement at n) false
    action : {at : At} {n : StmtNode} → IsPrintableAction n → IsPrintableStmt (statement at n) false
    when : {at : At} {e : Expr} {s : Stmt} {open_if : Bool}
        → IsPrintable e
        → IsPrintableStmt s open_if
        → IsPrintableStmt (statement at (stmt.If e s None)) true
    choose : {at : At} {e : Expr} {s o : Stmt} {open_if : Bool}
        → IsPrintable e
        → IsPrintableStmt s false
        → IsPrintableStmt o open_if
        → IsPrintableStmt (statement at (stmt.If e s (Some o))) open_if
    while : {at : At} {e : Expr} {s : Stmt} {open_if : Bool}
        → IsPrintable e
        → IsPrintableStmt s open_if
        → IsPrintableStmt (statement at (stmt.While e s)) open_if
    do_while : {at : At} {e : Expr} {s : Stmt} {open_if : Bool}
        → IsPrintable e
        → IsPrintableStmt s open_if
        → IsPrintableStmt (statement at (stmt.DoWhile s e)) false
    for : {at : At} {first step : Option Stmt} {e : Expr} {s : Stmt} {open_if : Bool}
        → IsPrintableFirst first
        → IsPrintable e
        → IsPrintableStep step
        → IsPrintableStmt s open_if
        → IsPrintableStmt (statement at (stmt.For first (Some e) step s)) open_if
    break : {at : At} → IsPrintableStmt (statement at stmt.Break) false
    continue : {at : At} → IsPrintableStmt (statement at stmt.Continue) false
    return : {at : At} {v : Option Value} → IsPrintableGiven v → IsPrintableStmt (statement at (stmt.Return v)) false
    goto : {at p : At} {x : List ℕ} → IsPrintableName x → IsPrintableStmt (statement at (stmt.Goto (word p x))) false
    label : {at p : At} {x : List ℕ} {s : Stmt} {open_if : Bool}
        → IsPrintableName x
        → IsPrintableStmt s open_if
        → IsPrintableStmt (statement at (stmt.Label (word p x) s)) open_if

  -- the statements and declarations of a block
  pub data IsPrintableBody : List Stmt → Type 0 where
    none : IsPrintableBody []
    declaration : {at : At} {n : StmtNode} {ss : List Stmt}
        → IsPrintableDeclaration n
        → IsPrintableBody ss
        → IsPrintableBody (statement at n ∷ ss)
    further : {s : Stmt} {ss : List Stmt} {open_if : Bool}
        → IsPrintableStmt s open_if
        → IsPrintableBody ss
        → IsPrintableBody (s ∷ ss)

-- ---- items

-- a number, or the negative of one
pub data IsPrintableConst : Expr → Type 0 where
  number : {e : Expr} → IsPrintableNumber e → IsPrintableConst e
  negated : {at : At} {n : ℕ} → suc n < 2 ^ 31 → IsPrintableConst (expr at (node.Number (negsuc n)))

-- a number, no address, or the address of a variable or an element
pub data IsPrintableInit : Expr → Type 0 where
  constant : {e : Expr} → IsPrintableConst e → IsPrintableInit e
  null : {at : At} → IsPrintableInit (expr at node.Null)
  address : {at p : At} {x : List ℕ} → IsPrintableName x → IsPrintableInit (expr at (node.AddrName (word p x)))
  element_address : {at p : At} {x : List ℕ} {e : Expr}
      → IsPrintableName x
      → IsPrintableNumber e
      → IsPrintableInit (expr at (node.AddrIndex (word p x) e))

-- a variable or an array, with its start values
pub data IsPrintableGlobal : Global → Type 0 where
  variable : {at : At} {pointer : Bool} {x : List ℕ} → IsPrintableName x → IsPrintableGlobal (global at pointer x None [])
  set_variable : {at : At} {pointer : Bool} {x : List ℕ} {e : Expr}
      → IsPrintableName x
      → IsPrintableInit e
      → IsPrintableGlobal (global at pointer x None (e ∷ []))
  array : {at : At} {x : List ℕ} {n : ℕ}
      → IsPrintableName x
      → n < 2 ^ 31
      → IsPrintableGlobal (global at false x (Some (pos n)) [])
  set_array : {at : At} {x : List ℕ} {n : ℕ} {es : List Expr}
      → IsPrintableName x
      → n < 2 ^ 31
      → OneOrMore IsPrintableConst es
      → IsPrintableGlobal (global at false x (Some (pos n)) es)

-- a parameter's name
abbrev pub IsPrintableParam : Param → Type 0
IsPrintableParam p = IsPrintableName p.name.name

-- a function that is no thread's
pub data IsOrdinary : Gives → Type 0 where
  int : IsOrdinary gives.Int
  pointer : IsOrdinary gives.Pointer
  nothing : IsOrdinary gives.Nothing

-- an item; a thread's function has one parameter at most, a pointer
pub data IsPrintableItem : Item → Type 0 where
  globals : {gs : List Global} → OneOrMore IsPrintableGlobal gs → IsPrintableItem (item.Globals gs)
  mutexes : {ws : List Word} → OneOrMore IsPrintableWord ws → IsPrintableItem (item.Mutexes ws)
  threads : {ws : List Word} → OneOrMore IsPrintableWord ws → IsPrintableItem (item.Threads ws)
  input : {at : At} {x : List ℕ} → IsPrintableName x → IsPrintableItem (item.InputDecl at x)
  bare_function : {at : At} {kind : Gives} {x : List ℕ} {ss : List Stmt}
      → IsPrintableName x
      → IsPrintableBody ss
      → IsPrintableItem (item.Function at kind x [] ss)
  function : {at : At} {kind : Gives} {x : List ℕ} {ps : List Param} {ss : List Stmt}
      → IsOrdinary kind
      → IsPrintableName x
      → OneOrMore IsPrintableParam ps
      → IsPrintableBody ss
      → IsPrintableItem (item.Function at kind x ps ss)
  thread_function : {at p : At} {x y : List ℕ} {ss : List Stmt}
      → IsPrintableName x
      → IsPrintableName y
      → IsPrintableBody ss
      → IsPrintableItem (item.Function at gives.Thread x (param true p y ∷ []) ss)

-- a program whose items are printable
abbrev pub IsPrintableTree : Tree → Type 0
IsPrintableTree tree = All IsPrintableItem tree.items
