-- The grammar of items and programs, line by line: from the terminals ts on there is a tree, and then the terminals rest.
use Rattle.std.specs.Prelude.{ℕ, ℤ, Bool, true, false, List, [], ◌∷◌, Some, None}
use Rattle.std.specs.Int.{w32, int_wrapping_neg}
use Rattle.mm_goto.specs.declared.ident.At.{At}
use Rattle.mm_goto.specs.declared.pure.Binary.TheVariants as binary
use Rattle.mm_tree.specs.declared.expr.Expr.{Expr}
use Rattle.mm_tree.specs.declared.expr.Node.TheVariants as node
use Rattle.mm_tree.specs.declared.expr.Word.{Word}
use Rattle.mm_tree.specs.declared.item.Gives.{Gives}
use Rattle.mm_tree.specs.declared.item.Gives.TheVariants as gives
use Rattle.mm_tree.specs.declared.item.Global.{Global}
use Rattle.mm_tree.specs.declared.item.Item.{Item}
use Rattle.mm_tree.specs.declared.item.Item.TheVariants as item
use Rattle.mm_tree.specs.declared.item.Param.{Param}
use Rattle.mm_tree.specs.declared.item.Tree.{Tree}
use Rattle.mm_tree.specs.declared.stmt.Stmt.{Stmt}
use Rattle.mm_parse_expr.specs.declared.symbol.Keyword.{Keyword as Reserved}
use Rattle.mm_parse_expr.specs.declared.symbol.Keyword.TheVariants as word
use Rattle.mm_parse_expr.specs.declared.symbol.Symbol.TheVariants.{Name, Number, Null, Keyword, Operator, Assign, Semicolon, Comma, Open, Close, OpenBracket, CloseBracket, OpenBrace, CloseBrace}
use Rattle.mm_parse_expr.specs.declared.terminal.Terminal.{Terminal}
use Rattle.mm_parse_expr.specs.Grammar.{terminal}
use Rattle.mm_tree.specs.Trees.{expr as tree, word as word_at, global, param}
use Rattle.mm_grammar.specs.StatementGrammar.{AreNames, IsStar, IsBody}

-- ---- initialisers

abbrev pub number_at : At → ℤ → Expr
number_at at n = tree at (node.Number n)

-- const = [ "-" ] NUMBER, where the mark negates the number and is its place
pub data IsConst : List Terminal → Expr → List Terminal → Type 0 where
  number : {n : ℤ} {rest : List Terminal} {p : At} {x : List ℕ} → IsConst (terminal (Number n) p x ∷ rest) (number_at p n) rest
  negated : {n : ℤ} {rest : List Terminal} {p q : At} {x y : List ℕ}
      → IsConst (terminal (Operator binary.Sub) p x ∷ terminal (Number n) q y ∷ rest) (number_at p (int_wrapping_neg w32 n)) rest

-- const { "," const }
pub data AreConsts : List Terminal → List Expr → List Terminal → Type 0 where
  last_const : {e : Expr} {ts rest : List Terminal}
      → IsConst ts e rest
      → AreConsts ts (e ∷ []) rest
  more_consts : {e : Expr} {es : List Expr} {ts us rest : List Terminal} {p : At} {x : List ℕ}
      → IsConst ts e (terminal Comma p x ∷ us)
      → AreConsts us es rest
      → AreConsts ts (e ∷ es) rest

-- init = const | "NULL" | "&" NAME [ "[" NUMBER "]" ]
pub data IsInit : List Terminal → Expr → List Terminal → Type 0 where
  constant : {e : Expr} {ts rest : List Terminal}
      → IsConst ts e rest
      → IsInit ts e rest
  null : {rest : List Terminal} {p : At} {x : List ℕ} → IsInit (terminal Null p x ∷ rest) (tree p node.Null) rest
  address : {rest : List Terminal} {p q : At} {x y : List ℕ}
      → IsInit (terminal (Operator binary.And) p x ∷ terminal Name q y ∷ rest) (tree p (node.AddrName (word_at q y))) rest
  element_address : {n : ℤ} {rest : List Terminal} {p q r s t : At} {x y z w v : List ℕ}
      → IsInit (terminal (Operator binary.And) p x ∷ terminal Name q y ∷ terminal OpenBracket r z ∷ terminal (Number n) s w ∷
      terminal CloseBracket t v ∷ rest) (tree p (node.AddrIndex (word_at q y) (number_at s n))) rest

-- ---- globals

-- gitem = [ "*" ] NAME [ "=" init ] | NAME "[" NUMBER "]" [ "=" "{" const { "," const } "}" ]
pub data IsGlobal : List Terminal → Global → List Terminal → Type 0 where
  variable : {star : Bool} {ts rest : List Terminal} {p : At} {x : List ℕ}
      → IsStar ts star (terminal Name p x ∷ rest)
      → IsGlobal ts (global p star x None []) rest
  set_variable : {star : Bool} {e : Expr} {ts us rest : List Terminal} {p q : At} {x y : List ℕ}
      → IsStar ts star (terminal Name p x ∷ terminal Assign q y ∷ us)
      → IsInit us e rest
      → IsGlobal ts (global p star x None (e ∷ [])) rest
  array : {n : ℤ} {rest : List Terminal} {p q r s : At} {x y z w : List ℕ}
      → IsGlobal (terminal Name p x ∷ terminal OpenBracket q y ∷ terminal (Number n) r z ∷ terminal CloseBracket s w ∷ rest)
      (global p false x (Some n) []) rest
  set_array : {n : ℤ} {es : List Expr} {ts rest : List Terminal} {p q r s t u i : At} {x y z w v a b : List ℕ}
      → AreConsts ts es (terminal CloseBrace i b ∷ rest)
      → IsGlobal (terminal Name p x ∷ terminal OpenBracket q y ∷ terminal (Number n) r z ∷ terminal CloseBracket s w ∷ terminal Assign t v ∷
      terminal OpenBrace u a ∷ ts) (global p false x (Some n) es) rest

-- gitem { "," gitem }
pub data AreGlobals : List Terminal → List Global → List Terminal → Type 0 where
  last_global : {g : Global} {ts rest : List Terminal}
      → IsGlobal ts g rest
      → AreGlobals ts (g ∷ []) rest
  more_globals : {g : Global} {gs : List Global} {ts us rest : List Terminal} {p : At} {x : List ℕ}
      → IsGlobal ts g (terminal Comma p x ∷ us)
      → AreGlobals us gs rest
      → AreGlobals ts (g ∷ gs) rest

-- mitem = NAME [ "=" "PTHREAD_MUTEX_INITIALIZER" ]
pub data IsMutex : List Terminal → Word → List Terminal → Type 0 where
  mutex : {rest : List Terminal} {p : At} {x : List ℕ} → IsMutex (terminal Name p x ∷ rest) (word_at p x) rest
  set_mutex : {rest : List Terminal} {p q r : At} {x y z : List ℕ}
      → IsMutex (terminal Name p x ∷ terminal Assign q y ∷ terminal (Keyword word.MutexInitializer) r z ∷ rest) (word_at p x) rest

-- mitem { "," mitem }
pub data AreMutexes : List Terminal → List Word → List Terminal → Type 0 where
  last_mutex : {w : Word} {ts rest : List Terminal}
      → IsMutex ts w rest
      → AreMutexes ts (w ∷ []) rest
  more_mutexes : {w : Word} {ws : List Word} {ts us rest : List Terminal} {p : At} {x : List ℕ}
      → IsMutex ts w (terminal Comma p x ∷ us)
      → AreMutexes us ws rest
      → AreMutexes ts (w ∷ ws) rest

-- ---- functions

-- a word that may be left out
pub data IsOptional : Reserved → List Terminal → List Terminal → Type 0 where
  absent : {k : Reserved} {rest : List Terminal} → IsOptional k rest rest
  present : {k : Reserved} {rest : List Terminal} {p : At} {x : List ℕ} → IsOptional k (terminal (Keyword k) p x ∷ rest) rest

-- param = "int" [ "*" ] NAME
pub data IsParam : List Terminal → Param → List Terminal → Type 0 where
  one_param : {star : Bool} {ts rest : List Terminal} {p q : At} {x y : List ℕ}
      → IsStar ts star (terminal Name q y ∷ rest)
      → IsParam (terminal (Keyword word.Int) p x ∷ ts) (param star q y) rest

-- param { "," param }
pub data AreParams : List Terminal → List Param → List Terminal → Type 0 where
  last_param : {a : Param} {ts rest : List Terminal}
      → IsParam ts a rest
      → AreParams ts (a ∷ []) rest
  more_params : {a : Param} {ps : List Param} {ts us rest : List Terminal} {p : At} {x : List ℕ}
      → IsParam ts a (terminal Comma p x ∷ us)
      → AreParams us ps rest
      → AreParams ts (a ∷ ps) rest

-- params = "(" [ "void" ] ")" | "(" param { "," param } ")"
pub data IsParams : List Terminal → List Param → List Terminal → Type 0 where
  no_params : {ts rest : List Terminal} {p q : At} {x y : List ℕ}
      → IsOptional word.Void ts (terminal Close q y ∷ rest)
      → IsParams (terminal Open p x ∷ ts) [] rest
  params : {ps : List Param} {ts rest : List Terminal} {p q : At} {x y : List ℕ}
      → AreParams ts ps (terminal Close q y ∷ rest)
      → IsParams (terminal Open p x ∷ ts) ps rest

-- tparams = "(" [ "void" ] ")" | "(" "void" "*" [ NAME ] ")"
pub data IsThreadParams : List Terminal → List Param → List Terminal → Type 0 where
  no_thread_params : {ts rest : List Terminal} {p q : At} {x y : List ℕ}
      → IsOptional word.Void ts (terminal Close q y ∷ rest)
      → IsThreadParams (terminal Open p x ∷ ts) [] rest
  nameless_param : {rest : List Terminal} {p q r s : At} {x y z w : List ℕ}
      → IsThreadParams
      (terminal Open p x ∷ terminal (Keyword word.Void) q y ∷ terminal (Operator binary.Mul) r z ∷ terminal Close s w ∷ rest) [] rest
  thread_param : {rest : List Terminal} {p q r s t : At} {x y z w v : List ℕ}
      → IsThreadParams (terminal Open p x ∷ terminal (Keyword word.Void) q y ∷ terminal (Operator binary.Mul) r z ∷ terminal Name s w ∷
      terminal Close t v ∷ rest) (param true s w ∷ []) rest

-- "int" [ "*" ] | "void"
pub data IsGives : List Terminal → Gives → List Terminal → Type 0 where
  gives_int : {rest : List Terminal} {p : At} {x : List ℕ} → IsGives (terminal (Keyword word.Int) p x ∷ rest) gives.Int rest
  gives_pointer : {rest : List Terminal} {p q : At} {x y : List ℕ}
      → IsGives (terminal (Keyword word.Int) p x ∷ terminal (Operator binary.Mul) q y ∷ rest) gives.Pointer rest
  gives_nothing : {rest : List Terminal} {p : At} {x : List ℕ} → IsGives (terminal (Keyword word.Void) p x ∷ rest) gives.Nothing rest

-- ---- items and programs

-- quals = { "static" | "volatile" }
pub data AreQuals : List Terminal → List Terminal → Type 0 where
  no_quals : {rest : List Terminal} → AreQuals rest rest
  static : {ts rest : List Terminal} {p : At} {x : List ℕ}
      → AreQuals ts rest
      → AreQuals (terminal (Keyword word.Static) p x ∷ ts) rest
  volatile : {ts rest : List Terminal} {p : At} {x : List ℕ}
      → AreQuals ts rest
      → AreQuals (terminal (Keyword word.Volatile) p x ∷ ts) rest

-- item = quals "int" gitem { "," gitem } ";" | quals "pthread_mutex_t" mitem { "," mitem } ";"
--   | quals "pthread_t" NAME { "," NAME } ";" | [ "extern" ] "int" NAME "(" [ "void" ] ")" ";"
--   | [ "static" ] ( "int" [ "*" ] | "void" ) NAME params block | [ "static" ] "void" "*" NAME tparams block
pub data IsItem : List Terminal → Item → List Terminal → Type 0 where
  globals : {gs : List Global} {ts us rest : List Terminal} {p q : At} {x y : List ℕ}
      → AreQuals ts (terminal (Keyword word.Int) p x ∷ us)
      → AreGlobals us gs (terminal Semicolon q y ∷ rest)
      → IsItem ts (item.Globals gs) rest
  mutexes : {ws : List Word} {ts us rest : List Terminal} {p q : At} {x y : List ℕ}
      → AreQuals ts (terminal (Keyword word.Mutex) p x ∷ us)
      → AreMutexes us ws (terminal Semicolon q y ∷ rest)
      → IsItem ts (item.Mutexes ws) rest
  threads : {ws : List Word} {ts us rest : List Terminal} {p q : At} {x y : List ℕ}
      → AreQuals ts (terminal (Keyword word.Thread) p x ∷ us)
      → AreNames us ws (terminal Semicolon q y ∷ rest)
      → IsItem ts (item.Threads ws) rest
  input : {ts us rest : List Terminal} {p q r s t : At} {x y z w v : List ℕ}
      → IsOptional word.Extern ts (terminal (Keyword word.Int) p x ∷ terminal Name q y ∷ terminal Open r z ∷ us)
      → IsOptional word.Void us (terminal Close s w ∷ terminal Semicolon t v ∷ rest)
      → IsItem ts (item.InputDecl q y) rest
  function : {kind : Gives} {ps : List Param} {ss : List Stmt} {ts us vs ws rest : List Terminal} {p q : At} {x y : List ℕ}
      → IsOptional word.Static ts us
      → IsGives us kind (terminal Name p x ∷ vs)
      → IsParams vs ps (terminal OpenBrace q y ∷ ws)
      → IsBody ws ss rest
      → IsItem ts (item.Function p kind x ps ss) rest
  thread_function : {ps : List Param} {ss : List Stmt} {ts us vs rest : List Terminal} {p q r s : At} {x y z w : List ℕ}
      → IsOptional word.Static ts (terminal (Keyword word.Void) p x ∷ terminal (Operator binary.Mul) q y ∷ terminal Name r z ∷ us)
      → IsThreadParams us ps (terminal OpenBrace s w ∷ vs)
      → IsBody vs ss rest
      → IsItem ts (item.Function r gives.Thread z ps ss) rest

-- { item }
pub data AreItems : List Terminal → List Item → List Terminal → Type 0 where
  no_items : {rest : List Terminal} → AreItems rest [] rest
  more_items : {i : Item} {is : List Item} {ts us rest : List Terminal}
      → IsItem ts i us
      → AreItems us is rest
      → AreItems ts (i ∷ is) rest

-- all the terminals are a program
abbrev pub IsProgram : List Terminal → Tree → Type 0
IsProgram ts program = AreItems ts program.items []
