-- The grammar of expressions, line by line: from the terminals ts on there is a tree, and then the terminals rest.
use Rattle.std.specs.Prelude.{◌≡◌, ℕ, ℤ, zero, suc, List, [], ◌∷◌}
use Rattle.mm_goto.specs.declared.ident.At.{At}
use Rattle.mm_goto.specs.declared.pure.Binary.{Binary}
use Rattle.mm_goto.specs.declared.pure.Binary.TheVariants as bin
use Rattle.mm_goto.specs.declared.pure.Unary.TheVariants as un
use Rattle.mm_tree.specs.declared.expr.Expr.{Expr}
use Rattle.mm_tree.specs.declared.expr.Node.TheVariants as node
use Rattle.mm_tree.specs.Trees.{expr as tree, place_of, word}
use Rattle.mm_parse_expr.specs.declared.symbol.Symbol.{Symbol}
use Rattle.mm_parse_expr.specs.declared.symbol.Symbol.TheVariants.{Name, Number, Null, Operator, Not, Flip, Question, Colon, Open, Close, OpenBracket, CloseBracket}
use Rattle.mm_parse_expr.specs.declared.terminal.Terminal.{Terminal}

-- ---- trees

-- it has the place of its first part
abbrev pub binary_tree : Binary → Expr → Expr → Expr
binary_tree op a b = tree (place_of a) (node.Bin op a b)

abbrev pub choice_tree : Expr → Expr → Expr → Expr
choice_tree c a b = tree (place_of c) (node.Cond c a b)

-- ---- the grammar

-- a terminal with this symbol, at a place, spelt so
abbrev pub terminal : Symbol → At → List ℕ → Terminal
terminal symbol at spelling = record { symbol = symbol; at = at; spelling = spelling }

-- how loosely a binary operator binds, from 0 on
abbrev pub looseness : Binary → ℕ
looseness bin.Mul = 0
looseness bin.Div = 0
looseness bin.Rem = 0
looseness bin.Add = 1
looseness bin.Sub = 1
looseness bin.Shl = 2
looseness bin.Shr = 2
looseness bin.Lt = 3
looseness bin.Le = 3
looseness bin.Gt = 3
looseness bin.Ge = 3
looseness bin.Eq = 4
looseness bin.Ne = 4
looseness bin.And = 5
looseness bin.Xor = 6
looseness bin.Or = 7
looseness bin.Land = 8
looseness bin.Lor = 9

mutual
  -- expr = lor [ "?" expr ":" expr ], where lor is the level of all ten kinds of operators
  pub data IsExpr : List Terminal → Expr → List Terminal → Type 0 where
    plain : {a : Expr} {ts rest : List Terminal}
        → IsLevel 10 ts a rest
        → IsExpr ts a rest
    choice : {c a b : Expr} {ts us vs rest : List Terminal} {p q : At} {x y : List ℕ}
        → IsLevel 10 ts c (terminal Question p x ∷ us)
        → IsExpr us a (terminal Colon q y ∷ vs)
        → IsExpr vs b rest
        → IsExpr ts (choice_tree c a b) rest

  -- Level 0 is unary. Level n + 1 is level n, and operators of looseness n between expressions of level n, joined to the left.
  pub data IsLevel : ℕ → List Terminal → Expr → List Terminal → Type 0 where
    unary : {a : Expr} {ts rest : List Terminal}
        → IsUnary ts a rest
        → IsLevel zero ts a rest
    joined : {n : ℕ} {a e : Expr} {ts mid rest : List Terminal}
        → IsLevel n ts a mid
        → IsMore n a mid e rest
        → IsLevel (suc n) ts e rest

  -- what stands behind the first part a
  pub data IsMore : ℕ → Expr → List Terminal → Expr → List Terminal → Type 0 where
    done : {n : ℕ} {a : Expr} {rest : List Terminal} → IsMore n a rest a rest
    more : {n : ℕ} {op : Binary} {a b e : Expr} {ts mid rest : List Terminal} {p : At} {x : List ℕ}
        → looseness op ≡ n
        → IsLevel n ts b mid
        → IsMore n (binary_tree op a b) mid e rest
        → IsMore n a (terminal (Operator op) p x ∷ ts) e rest

  -- unary = ( "-" | "+" | "!" | "~" ) unary | "*" unary | "&" NAME [ "[" expr "]" ] | primary
  pub data IsUnary : List Terminal → Expr → List Terminal → Type 0 where
    minus : {e : Expr} {ts rest : List Terminal} {p : At} {x : List ℕ}
        → IsUnary ts e rest
        → IsUnary (terminal (Operator bin.Sub) p x ∷ ts) (tree p (node.Un un.Neg e)) rest
    plus : {e : Expr} {ts rest : List Terminal} {p : At} {x : List ℕ}
        → IsUnary ts e rest
        → IsUnary (terminal (Operator bin.Add) p x ∷ ts) (tree p (node.Un un.Plus e)) rest
    not : {e : Expr} {ts rest : List Terminal} {p : At} {x : List ℕ}
        → IsUnary ts e rest
        → IsUnary (terminal Not p x ∷ ts) (tree p (node.Un un.Not e)) rest
    flip : {e : Expr} {ts rest : List Terminal} {p : At} {x : List ℕ}
        → IsUnary ts e rest
        → IsUnary (terminal Flip p x ∷ ts) (tree p (node.Un un.Flip e)) rest
    deref : {e : Expr} {ts rest : List Terminal} {p : At} {x : List ℕ}
        → IsUnary ts e rest
        → IsUnary (terminal (Operator bin.Mul) p x ∷ ts) (tree p (node.Deref e)) rest
    address : {rest : List Terminal} {p q : At} {x y : List ℕ}
        → IsUnary (terminal (Operator bin.And) p x ∷ terminal Name q y ∷ rest) (tree p (node.AddrName (word q y))) rest
    element_address : {e : Expr} {ts rest : List Terminal} {p q r s : At} {x y z w : List ℕ}
        → IsExpr ts e (terminal CloseBracket s w ∷ rest)
        → IsUnary (terminal (Operator bin.And) p x ∷ terminal Name q y ∷ terminal OpenBracket r z ∷ ts)
        (tree p (node.AddrIndex (word q y) e)) rest
    primary : {e : Expr} {ts rest : List Terminal}
        → IsPrimary ts e rest
        → IsUnary ts e rest

  -- primary = NUMBER | "NULL" | NAME | NAME "[" expr "]" | "(" expr ")"
  pub data IsPrimary : List Terminal → Expr → List Terminal → Type 0 where
    number : {n : ℤ} {rest : List Terminal} {p : At} {x : List ℕ} → IsPrimary (terminal (Number n) p x ∷ rest) (tree p (node.Number n)) rest
    null : {rest : List Terminal} {p : At} {x : List ℕ} → IsPrimary (terminal Null p x ∷ rest) (tree p node.Null) rest
    name : {rest : List Terminal} {p : At} {x : List ℕ} → IsPrimary (terminal Name p x ∷ rest) (tree p (node.Name x)) rest
    element : {e : Expr} {ts rest : List Terminal} {p q r : At} {x y z : List ℕ}
        → IsExpr ts e (terminal CloseBracket r z ∷ rest)
        → IsPrimary (terminal Name p x ∷ terminal OpenBracket q y ∷ ts) (tree p (node.Index x e)) rest
    group : {e : Expr} {ts rest : List Terminal} {p q : At} {x y : List ℕ}
        → IsExpr ts e (terminal Close q y ∷ rest)
        → IsPrimary (terminal Open p x ∷ ts) e rest

-- all the terminals are an expression
abbrev pub IsExpression : List Terminal → Expr → Type 0
IsExpression ts e = IsExpr ts e []

-- all the terminals are a unary expression
abbrev pub IsUnaryExpression : List Terminal → Expr → Type 0
IsUnaryExpression ts e = IsUnary ts e []
