-- The grammar of statements, line by line: from the terminals ts on there is a tree, and then the terminals rest.
use Rattle.std.specs.Prelude.{ℕ, pos, Bool, true, false, List, [], ◌∷◌, Option, Some, None}
use Rattle.mm_goto.specs.declared.ident.At.{At}
use Rattle.mm_goto.specs.declared.pure.Binary.{Binary}
use Rattle.mm_goto.specs.declared.pure.Binary.TheVariants as binary
use Rattle.mm_tree.specs.declared.expr.Expr.{Expr}
use Rattle.mm_tree.specs.declared.expr.Node.TheVariants as node
use Rattle.mm_tree.specs.declared.expr.Word.{Word}
use Rattle.mm_tree.specs.declared.stmt.Left.{Left}
use Rattle.mm_tree.specs.declared.stmt.LeftNode.TheVariants as left
use Rattle.mm_tree.specs.declared.stmt.Local.{Local}
use Rattle.mm_tree.specs.declared.stmt.Stmt.{Stmt}
use Rattle.mm_tree.specs.declared.stmt.StmtNode.{StmtNode}
use Rattle.mm_tree.specs.declared.stmt.StmtNode.TheVariants as stmt
use Rattle.mm_tree.specs.declared.stmt.Value.{Value}
use Rattle.mm_tree.specs.declared.stmt.Value.TheVariants as value
use Rattle.mm_parse_expr.specs.declared.symbol.Keyword.TheVariants as word
use Rattle.mm_parse_expr.specs.declared.symbol.Symbol.{Symbol}
use Rattle.mm_parse_expr.specs.declared.symbol.Symbol.TheVariants.{Name, Number, Text, Null, Keyword, Operator, Update, Increment, Decrement, Assign, Colon, Semicolon, Comma, Open, Close, OpenBracket, CloseBracket, OpenBrace, CloseBrace}
use Rattle.mm_parse_expr.specs.declared.terminal.Terminal.{Terminal}
use Rattle.mm_parse_expr.specs.Grammar.{terminal, IsExpr, IsUnary}
use Rattle.mm_tree.specs.Trees.{expr as tree, word as word_at, left_at, local, statement}

-- ---- left sides

-- left = NAME | NAME "[" expr "]" | "*" unary | "(" left ")"
pub data IsLeft : List Terminal → Left → List Terminal → Type 0 where
  name : {rest : List Terminal} {p : At} {x : List ℕ} → IsLeft (terminal Name p x ∷ rest) (left_at p (left.Name x)) rest
  element : {e : Expr} {ts rest : List Terminal} {p q r : At} {x y z : List ℕ}
      → IsExpr ts e (terminal CloseBracket r z ∷ rest)
      → IsLeft (terminal Name p x ∷ terminal OpenBracket q y ∷ ts) (left_at p (left.Index x e)) rest
  pointee : {e : Expr} {ts rest : List Terminal} {p : At} {x : List ℕ}
      → IsUnary ts e rest
      → IsLeft (terminal (Operator binary.Mul) p x ∷ ts) (left_at p (left.Deref e)) rest
  group : {l : Left} {ts rest : List Terminal} {p q : At} {x y : List ℕ}
      → IsLeft ts l (terminal Close q y ∷ rest)
      → IsLeft (terminal Open p x ∷ ts) l rest

-- ---- values

-- arguments = expr { "," expr }
pub data IsArguments : List Terminal → List Expr → List Terminal → Type 0 where
  last_argument : {e : Expr} {ts rest : List Terminal}
      → IsExpr ts e rest
      → IsArguments ts (e ∷ []) rest
  more_arguments : {e : Expr} {es : List Expr} {ts us rest : List Terminal} {p : At} {x : List ℕ}
      → IsExpr ts e (terminal Comma p x ∷ us)
      → IsArguments us es rest
      → IsArguments ts (e ∷ es) rest

-- fcall = NAME "(" [ arguments ] ")"
-- update = "__sync_fetch_and_add" "(" expr "," expr ")" | "__sync_bool_compare_and_swap" "(" expr "," expr "," expr ")"
pub data IsCall : List Terminal → Value → List Terminal → Type 0 where
  bare_call : {rest : List Terminal} {p q r : At} {x y z : List ℕ}
      → IsCall (terminal Name p x ∷ terminal Open q y ∷ terminal Close r z ∷ rest) (value.Call p x []) rest
  full_call : {es : List Expr} {ts rest : List Terminal} {p q r : At} {x y z : List ℕ}
      → IsArguments ts es (terminal Close r z ∷ rest)
      → IsCall (terminal Name p x ∷ terminal Open q y ∷ ts) (value.Call p x es) rest
  fetch_add : {a e : Expr} {ts us rest : List Terminal} {p q r s : At} {x y z w : List ℕ}
      → IsExpr ts a (terminal Comma r z ∷ us)
      → IsExpr us e (terminal Close s w ∷ rest)
      → IsCall (terminal (Keyword word.FetchAndAdd) p x ∷ terminal Open q y ∷ ts) (value.FetchAdd p a e) rest
  compare_swap : {a e f : Expr} {ts us vs rest : List Terminal} {p q r s t : At} {x y z w v : List ℕ}
      → IsExpr ts a (terminal Comma r z ∷ us)
      → IsExpr us e (terminal Comma s w ∷ vs)
      → IsExpr vs f (terminal Close t v ∷ rest)
      → IsCall (terminal (Keyword word.CompareAndSwap) p x ∷ terminal Open q y ∷ ts) (value.CompareSwap p a e f) rest

-- value = expr | fcall | update
pub data IsValue : List Terminal → Value → List Terminal → Type 0 where
  plain : {e : Expr} {ts rest : List Terminal}
      → IsExpr ts e rest
      → IsValue ts (value.Plain e) rest
  called : {v : Value} {ts rest : List Terminal}
      → IsCall ts v rest
      → IsValue ts v rest

-- ---- assignments

abbrev pub one : At → Expr
one at = tree at (node.Number (pos 1))

-- assign = left "=" value | left OPEQ expr | left ( "++" | "--" ) | ( "++" | "--" ) left
pub data IsAssign : List Terminal → StmtNode → List Terminal → Type 0 where
  assign : {l : Left} {v : Value} {ts us rest : List Terminal} {p : At} {x : List ℕ}
      → IsLeft ts l (terminal Assign p x ∷ us)
      → IsValue us v rest
      → IsAssign ts (stmt.Assign l v) rest
  update : {l : Left} {op : Binary} {e : Expr} {ts us rest : List Terminal} {p : At} {x : List ℕ}
      → IsLeft ts l (terminal (Update op) p x ∷ us)
      → IsExpr us e rest
      → IsAssign ts (stmt.Update l op e) rest
  increment : {l : Left} {ts rest : List Terminal} {p : At} {x : List ℕ}
      → IsLeft ts l (terminal Increment p x ∷ rest)
      → IsAssign ts (stmt.Update l binary.Add (one p)) rest
  decrement : {l : Left} {ts rest : List Terminal} {p : At} {x : List ℕ}
      → IsLeft ts l (terminal Decrement p x ∷ rest)
      → IsAssign ts (stmt.Update l binary.Sub (one p)) rest
  increment_before : {l : Left} {ts rest : List Terminal} {p : At} {x : List ℕ}
      → IsLeft ts l rest
      → IsAssign (terminal Increment p x ∷ ts) (stmt.Update l binary.Add (one p)) rest
  decrement_before : {l : Left} {ts rest : List Terminal} {p : At} {x : List ℕ}
      → IsLeft ts l rest
      → IsAssign (terminal Decrement p x ∷ ts) (stmt.Update l binary.Sub (one p)) rest

-- ---- calls as statements

-- null = "NULL" | the NUMBER 0
pub data IsNull : List Terminal → List Terminal → Type 0 where
  null_word : {rest : List Terminal} {p : At} {x : List ℕ} → IsNull (terminal Null p x ∷ rest) rest
  null_number : {rest : List Terminal} {p : At} {x : List ℕ} → IsNull (terminal (Number (pos 0)) p x ∷ rest) rest

-- call = fcall | update | "assert" "(" expr ")" | "__CPROVER_assert" "(" expr "," TEXT ")" | "__CPROVER_assume" "(" expr ")"
--   | "__sync_synchronize" "(" ")" | ( "pthread_mutex_lock" | "pthread_mutex_unlock" ) "(" "&" NAME ")"
--   | "pthread_create" "(" "&" NAME "," null "," NAME "," null ")" | "pthread_join" "(" NAME "," null ")"
--   | ( "__CPROVER_atomic_begin" | "__CPROVER_atomic_end" ) "(" ")"
pub data IsAction : List Terminal → StmtNode → List Terminal → Type 0 where
  effect : {v : Value} {ts rest : List Terminal}
      → IsCall ts v rest
      → IsAction ts (stmt.Do v) rest
  assert : {e : Expr} {ts rest : List Terminal} {p q r : At} {x y z : List ℕ}
      → IsExpr ts e (terminal Close r z ∷ rest)
      → IsAction (terminal (Keyword word.Assert) p x ∷ terminal Open q y ∷ ts) (stmt.Assert e None) rest
  named_assert : {e : Expr} {ts rest : List Terminal} {p q r s t : At} {x y z w v : List ℕ}
      → IsExpr ts e (terminal Comma r z ∷ terminal Text s w ∷ terminal Close t v ∷ rest)
      → IsAction (terminal (Keyword word.ProverAssert) p x ∷ terminal Open q y ∷ ts) (stmt.Assert e (Some (w))) rest
  assume : {e : Expr} {ts rest : List Terminal} {p q r : At} {x y z : List ℕ}
      → IsExpr ts e (terminal Close r z ∷ rest)
      → IsAction (terminal (Keyword word.Assume) p x ∷ terminal Open q y ∷ ts) (stmt.Assume e) rest
  fence : {rest : List Terminal} {p q r : At} {x y z : List ℕ}
      → IsAction (terminal (Keyword word.Synchronize) p x ∷ terminal Open q y ∷ terminal Close r z ∷ rest) stmt.Fence rest
  lock : {rest : List Terminal} {p q r s t : At} {x y z w v : List ℕ}
      → IsAction (terminal (Keyword word.Lock) p x ∷ terminal Open q y ∷ terminal (Operator binary.And) r z ∷ terminal Name s w ∷
      terminal Close t v ∷ rest) (stmt.Lock (word_at s w)) rest
  unlock : {rest : List Terminal} {p q r s t : At} {x y z w v : List ℕ}
      → IsAction (terminal (Keyword word.Unlock) p x ∷ terminal Open q y ∷ terminal (Operator binary.And) r z ∷ terminal Name s w ∷
      terminal Close t v ∷ rest) (stmt.Unlock (word_at s w)) rest
  start : {ts us rest : List Terminal} {p q r s t i j k l : At} {x y z w v a b c d : List ℕ}
      → IsNull ts (terminal Comma i a ∷ terminal Name j b ∷ terminal Comma k c ∷ us)
      → IsNull us (terminal Close l d ∷ rest)
      → IsAction (terminal (Keyword word.Create) p x ∷ terminal Open q y ∷ terminal (Operator binary.And) r z ∷ terminal Name s w ∷
      terminal Comma t v ∷ ts) (stmt.Start (word_at s w) (word_at j b)) rest
  join : {ts rest : List Terminal} {p q r s t : At} {x y z w v : List ℕ}
      → IsNull ts (terminal Close t v ∷ rest)
      → IsAction (terminal (Keyword word.Join) p x ∷ terminal Open q y ∷ terminal Name r z ∷ terminal Comma s w ∷ ts)
      (stmt.Join (word_at r z)) rest
  atom_begin : {rest : List Terminal} {p q r : At} {x y z : List ℕ}
      → IsAction (terminal (Keyword word.AtomicBegin) p x ∷ terminal Open q y ∷ terminal Close r z ∷ rest) stmt.AtomBegin rest
  atom_end : {rest : List Terminal} {p q r : At} {x y z : List ℕ}
      → IsAction (terminal (Keyword word.AtomicEnd) p x ∷ terminal Open q y ∷ terminal Close r z ∷ rest) stmt.AtomEnd rest

-- ---- declarations

-- names = NAME { "," NAME }
pub data AreNames : List Terminal → List Word → List Terminal → Type 0 where
  last_name : {rest : List Terminal} {p : At} {x : List ℕ} → AreNames (terminal Name p x ∷ rest) (word_at p x ∷ []) rest
  more_names : {ws : List Word} {ts rest : List Terminal} {p q : At} {x y : List ℕ}
      → AreNames ts ws rest
      → AreNames (terminal Name p x ∷ terminal Comma q y ∷ ts) (word_at p x ∷ ws) rest

-- [ "*" ], and whether it stands there
pub data IsStar : List Terminal → Bool → List Terminal → Type 0 where
  no_star : {rest : List Terminal} → IsStar rest false rest
  star : {rest : List Terminal} {p : At} {x : List ℕ} → IsStar (terminal (Operator binary.Mul) p x ∷ rest) true rest

-- ditem = [ "*" ] NAME [ "=" value ]
pub data IsLocal : List Terminal → Local → List Terminal → Type 0 where
  bare_local : {star : Bool} {ts rest : List Terminal} {p : At} {x : List ℕ}
      → IsStar ts star (terminal Name p x ∷ rest)
      → IsLocal ts (local p star x None) rest
  set_local : {star : Bool} {v : Value} {ts us rest : List Terminal} {p q : At} {x y : List ℕ}
      → IsStar ts star (terminal Name p x ∷ terminal Assign q y ∷ us)
      → IsValue us v rest
      → IsLocal ts (local p star x (Some v)) rest

-- ditem { "," ditem }
pub data AreLocals : List Terminal → List Local → List Terminal → Type 0 where
  last_local : {l : Local} {ts rest : List Terminal}
      → IsLocal ts l rest
      → AreLocals ts (l ∷ []) rest
  more_locals : {l : Local} {ls : List Local} {ts us rest : List Terminal} {p : At} {x : List ℕ}
      → IsLocal ts l (terminal Comma p x ∷ us)
      → AreLocals us ls rest
      → AreLocals ts (l ∷ ls) rest

-- decl = [ "volatile" ] "int" ditem { "," ditem } ";" | "pthread_t" NAME { "," NAME } ";"
pub data IsDeclaration : List Terminal → StmtNode → List Terminal → Type 0 where
  ints : {ls : List Local} {ts rest : List Terminal} {p q : At} {x y : List ℕ}
      → AreLocals ts ls (terminal Semicolon q y ∷ rest)
      → IsDeclaration (terminal (Keyword word.Int) p x ∷ ts) (stmt.Declare ls) rest
  volatile_ints : {ls : List Local} {ts rest : List Terminal} {p q r : At} {x y z : List ℕ}
      → AreLocals ts ls (terminal Semicolon r z ∷ rest)
      → IsDeclaration (terminal (Keyword word.Volatile) p x ∷ terminal (Keyword word.Int) q y ∷ ts) (stmt.Declare ls) rest
  threads : {ws : List Word} {ts rest : List Terminal} {p q : At} {x y : List ℕ}
      → AreNames ts ws (terminal Semicolon q y ∷ rest)
      → IsDeclaration (terminal (Keyword word.Thread) p x ∷ ts) (stmt.DeclareThread ws) rest

-- ---- statements

abbrev pub is_no_else : Symbol → Type 0
is_no_else (Keyword word.Else) = ⊥
is_no_else _ = Unit {0}

-- no else stands next
abbrev pub NoElse : List Terminal → Type 0
NoElse [] = Unit {0}
NoElse (t ∷ ts) = is_no_else t.symbol

-- [ assign ] before a mark, as a statement that stands at its first terminal
pub data IsStep : List Terminal → Option Stmt → List Terminal → Type 0 where
  no_step : {rest : List Terminal} → IsStep rest None rest
  step : {t : Terminal} {n : StmtNode} {ts rest : List Terminal}
      → IsAssign (t ∷ ts) n rest
      → IsStep (t ∷ ts) (Some (statement t.at n)) rest

-- decl | [ assign ] ";"
pub data IsFirst : List Terminal → Option Stmt → List Terminal → Type 0 where
  first_declaration : {t : Terminal} {n : StmtNode} {ts rest : List Terminal}
      → IsDeclaration (t ∷ ts) n rest
      → IsFirst (t ∷ ts) (Some (statement t.at n)) rest
  first_step : {s : Option Stmt} {ts rest : List Terminal} {p : At} {x : List ℕ}
      → IsStep ts s (terminal Semicolon p x ∷ rest)
      → IsFirst ts s rest

-- [ expr ] ";", where a condition that is left out is the number 1 at the mark
pub data IsCondition : List Terminal → Expr → List Terminal → Type 0 where
  no_condition : {rest : List Terminal} {p : At} {x : List ℕ} → IsCondition (terminal Semicolon p x ∷ rest) (one p) rest
  condition : {e : Expr} {ts rest : List Terminal} {p : At} {x : List ℕ}
      → IsExpr ts e (terminal Semicolon p x ∷ rest)
      → IsCondition ts e rest

-- [ value ] ";"
pub data IsGiven : List Terminal → Option Value → List Terminal → Type 0 where
  nothing : {rest : List Terminal} {p : At} {x : List ℕ} → IsGiven (terminal Semicolon p x ∷ rest) None rest
  given : {v : Value} {ts rest : List Terminal} {p : At} {x : List ℕ}
      → IsValue ts v (terminal Semicolon p x ∷ rest)
      → IsGiven ts (Some v) rest

mutual
  -- A statement stands at its first terminal, and this tells what it is made of.
  pub data IsStmt : List Terminal → Stmt → List Terminal → Type 0 where
    at_first : {t : Terminal} {n : StmtNode} {ts rest : List Terminal}
        → IsStmtNode (t ∷ ts) n rest
        → IsStmt (t ∷ ts) (statement t.at n) rest

  -- stmt = ";" | block | assign ";" | call ";" | "if" "(" expr ")" stmt [ "else" stmt ] | "while" "(" expr ")" stmt
  --   | "do" stmt "while" "(" expr ")" ";" | "for" "(" ( decl | [ assign ] ";" ) [ expr ] ";" [ assign ] ")" stmt
  --   | "break" ";" | "continue" ";" | "return" [ value ] ";" | "goto" NAME ";" | NAME ":" stmt
  -- An else belongs to the nearest if: no else stands behind an if that has none.
  pub data IsStmtNode : List Terminal → StmtNode → List Terminal → Type 0 where
    empty : {rest : List Terminal} {p : At} {x : List ℕ} → IsStmtNode (terminal Semicolon p x ∷ rest) stmt.Empty rest
    block : {ss : List Stmt} {ts rest : List Terminal} {p : At} {x : List ℕ}
        → IsBody ts ss rest
        → IsStmtNode (terminal OpenBrace p x ∷ ts) (stmt.Block ss) rest
    assignment : {n : StmtNode} {ts rest : List Terminal} {p : At} {x : List ℕ}
        → IsAssign ts n (terminal Semicolon p x ∷ rest)
        → IsStmtNode ts n rest
    action : {n : StmtNode} {ts rest : List Terminal} {p : At} {x : List ℕ}
        → IsAction ts n (terminal Semicolon p x ∷ rest)
        → IsStmtNode ts n rest
    when : {e : Expr} {s : Stmt} {ts us rest : List Terminal} {p q r : At} {x y z : List ℕ}
        → IsExpr ts e (terminal Close r z ∷ us)
        → IsStmt us s rest
        → NoElse rest
        → IsStmtNode (terminal (Keyword word.If) p x ∷ terminal Open q y ∷ ts) (stmt.If e s None) rest
    choose : {e : Expr} {s o : Stmt} {ts us vs rest : List Terminal} {p q r t : At} {x y z w : List ℕ}
        → IsExpr ts e (terminal Close r z ∷ us)
        → IsStmt us s (terminal (Keyword word.Else) t w ∷ vs)
        → IsStmt vs o rest
        → IsStmtNode (terminal (Keyword word.If) p x ∷ terminal Open q y ∷ ts) (stmt.If e s (Some o)) rest
    while : {e : Expr} {s : Stmt} {ts us rest : List Terminal} {p q r : At} {x y z : List ℕ}
        → IsExpr ts e (terminal Close r z ∷ us)
        → IsStmt us s rest
        → IsStmtNode (terminal (Keyword word.While) p x ∷ terminal Open q y ∷ ts) (stmt.While e s) rest
    do_while : {e : Expr} {s : Stmt} {ts us rest : List Terminal} {p q r t u : At} {x y z w v : List ℕ}
        → IsStmt ts s (terminal (Keyword word.While) q y ∷ terminal Open r z ∷ us)
        → IsExpr us e (terminal Close t w ∷ terminal Semicolon u v ∷ rest)
        → IsStmtNode (terminal (Keyword word.Do) p x ∷ ts) (stmt.DoWhile s e) rest
    for : {first step : Option Stmt} {e : Expr} {s : Stmt} {ts us vs ws rest : List Terminal} {p q r : At} {x y z : List ℕ}
        → IsFirst ts first us
        → IsCondition us e vs
        → IsStep vs step (terminal Close r z ∷ ws)
        → IsStmt ws s rest
        → IsStmtNode (terminal (Keyword word.For) p x ∷ terminal Open q y ∷ ts) (stmt.For first (Some e) step s) rest
    break : {rest : List Terminal} {p q : At} {x y : List ℕ}
        → IsStmtNode (terminal (Keyword word.Break) p x ∷ terminal Semicolon q y ∷ rest) stmt.Break rest
    continue : {rest : List Terminal} {p q : At} {x y : List ℕ}
        → IsStmtNode (terminal (Keyword word.Continue) p x ∷ terminal Semicolon q y ∷ rest) stmt.Continue rest
    return : {v : Option Value} {ts rest : List Terminal} {p : At} {x : List ℕ}
        → IsGiven ts v rest
        → IsStmtNode (terminal (Keyword word.Return) p x ∷ ts) (stmt.Return v) rest
    goto : {rest : List Terminal} {p q r : At} {x y z : List ℕ}
        → IsStmtNode (terminal (Keyword word.Goto) p x ∷ terminal Name q y ∷ terminal Semicolon r z ∷ rest) (stmt.Goto (word_at q y)) rest
    label : {s : Stmt} {ts rest : List Terminal} {p q : At} {x y : List ℕ}
        → IsStmt ts s rest
        → IsStmtNode (terminal Name p x ∷ terminal Colon q y ∷ ts) (stmt.Label (word_at p x) s) rest

  -- the rest of a block: { decl | stmt } "}"
  pub data IsBody : List Terminal → List Stmt → List Terminal → Type 0 where
    end : {rest : List Terminal} {p : At} {x : List ℕ} → IsBody (terminal CloseBrace p x ∷ rest) [] rest
    declaration : {t : Terminal} {n : StmtNode} {ss : List Stmt} {ts us rest : List Terminal}
        → IsDeclaration (t ∷ ts) n us
        → IsBody us ss rest
        → IsBody (t ∷ ts) (statement t.at n ∷ ss) rest
    further : {s : Stmt} {ss : List Stmt} {ts us rest : List Terminal}
        → IsStmt ts s us
        → IsBody us ss rest
        → IsBody ts (s ∷ ss) rest
