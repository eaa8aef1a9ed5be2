-- Statements that hold others: a test in parentheses, and what stands behind it.
use Rattle.std.proofs.Common.{◌≡◌, ℕ, suc, List, ◌∷◌, Option, Some, None, refl}
use Rattle.mm_tree.specs.declared.expr.Expr.{Expr}
use Rattle.mm_tree.specs.declared.stmt.Stmt.{Stmt}
use Rattle.mm_tree.specs.declared.stmt.StmtNode.{StmtNode}
use Rattle.mm_tree.specs.declared.stmt.StmtNode.TheVariants as node
use Rattle.mm_reading.specs.Parsing.{Outcome, Parsed, Fault, after, ◌>>=◌, ◌>>◌, pure, fail, peek, skip}
use Rattle.mm_parse_expr.specs.declared.terminal.Terminal.{Terminal}
use Rattle.mm_parse_expr.specs.reading.ExprReading.{Reader, close}
use Rattle.mm_parse.specs.reading.Begun.{begun, in_parentheses, header}
use Rattle.mm_tree.specs.Trees.{statement}
use Rattle.mm_grammar.specs.reading.StatementReading.{Inner, expr, open_mark, while_word, first, condition, step, ended, with_expr, else_at, when, while, do_while, for, node_by, stmt_begun, stmt_of, inner, stmt}

module _ {A : Type 0} (n : ℕ) (f : Expr → Reader A) where
  closed : (e : Expr) (o : Outcome Terminal (Unit {0})) → after o (λ _. f e) ≡ after (after o (λ _. pure e)) f
  unfolding pure
  closed e (Parsed u rest) = refl
  closed e (Fault rest) = refl

  read : (o : Outcome Terminal Expr) → after o (λ e. close >> f e) ≡ after (after o (λ e. close >> pure e)) f
  read (Parsed e rest) = closed e (close rest)
  read (Fault rest) = refl

  opened : (o : Outcome Terminal (Unit {0})) → after o (λ _. expr n >>= λ e. close >> f e) ≡ after (after o (λ _. expr n >>= λ e. close >> pure e)) f
  opened (Parsed u rest) = read (expr n rest)
  opened (Fault rest) = refl

  tested : (ts : List Terminal) → (open_mark >> (expr n >>= λ e. close >> f e)) ts ≡ after (in_parentheses n ts) f
  unfolding in_parentheses
  tested ts = opened (open_mark ts)

pub when_on : (n : ℕ) (i : Inner) (ts : List Terminal) → when n i ts ≡ after (in_parentheses n ts) (λ e. i.stmt >>= λ s. peek (else_at i e s))
unfolding when
when_on n i ts = tested n (λ e. i.stmt >>= λ s. peek (else_at i e s)) ts

pub while_on : (n : ℕ) (i : Inner) (ts : List Terminal) → while n i ts ≡ after (in_parentheses n ts) (λ e. i.stmt >>= λ s. pure (node.While e s))
unfolding while
while_on n i ts = tested n (λ e. i.stmt >>= λ s. pure (node.While e s)) ts

pub with_expr_on : (n : ℕ) (make : Expr → StmtNode) (ts : List Terminal) → with_expr n make ts ≡ after (in_parentheses n ts) (λ e. ended (make e))
unfolding with_expr
with_expr_on n make ts = tested n (λ e. ended (make e)) ts

pub do_while_on : (n : ℕ) (i : Inner) (ts : List Terminal) → do_while n i ts ≡ after (i.stmt ts) (λ s. while_word >> (in_parentheses n >>= λ e. ended (node.DoWhile s e)))
unfolding do_while
do_while_on n i ts = by (i.stmt ts)
  where
    back : (s : Stmt) (o : Outcome Terminal (Unit {0})) → after o (λ _. with_expr n (λ e. node.DoWhile s e)) ≡ after o (λ _. in_parentheses n >>= λ e. ended (node.DoWhile s e))
    back s (Parsed u rest) = with_expr_on n (λ e. node.DoWhile s e) rest
    back s (Fault rest) = refl

    by : (o : Outcome Terminal Stmt) → after o (λ s. while_word >> with_expr n (λ e. node.DoWhile s e)) ≡ after o (λ s. while_word >> (in_parentheses n >>= λ e. ended (node.DoWhile s e)))
    by (Parsed s rest) = back s (while_word rest)
    by (Fault rest) = refl

module _ (n : ℕ) (i : Inner) where
  abbrev looped : Option Stmt × Expr × Option Stmt → Reader StmtNode
  looped h = i.stmt >>= λ b. pure (node.For h.0 (Some h.1) h.2 b)

  stepped : (f : Option Stmt) (e : Expr) (o : Outcome Terminal (Option Stmt)) → after o (λ s. looped (f, e, s)) ≡ after (after o (λ s. pure (f, e, s))) looped
  unfolding pure
  stepped f e (Parsed s rest) = refl
  stepped f e (Fault rest) = refl

  conditioned : (f : Option Stmt) (o : Outcome Terminal Expr) → after o (λ e. step n >>= λ s. looped (f, e, s)) ≡ after (after o (λ e. step n >>= λ s. pure (f, e, s))) looped
  conditioned f (Parsed e rest) = stepped f e (step n rest)
  conditioned f (Fault rest) = refl

  begins : (o : Outcome Terminal (Option Stmt)) → after o (λ f. condition n >>= λ e. step n >>= λ s. looped (f, e, s)) ≡ after (after o (λ f. condition n >>= λ e. step n >>= λ s. pure (f, e, s))) looped
  begins (Parsed f rest) = conditioned f (condition n rest)
  begins (Fault rest) = refl

  opens : (o : Outcome Terminal (Unit {0})) → after o (λ _. first n >>= λ f. condition n >>= λ e. step n >>= λ s. looped (f, e, s)) ≡ after (after o (λ _. first n >>= λ f. condition n >>= λ e. step n >>= λ s. pure (f, e, s))) looped
  opens (Parsed u rest) = begins (first n rest)
  opens (Fault rest) = refl

  pub for_on : (ts : List Terminal) → for n i ts ≡ after (header n ts) (λ h. i.stmt >>= λ b. pure (node.For h.0 (Some h.1) h.2 b))
  unfolding for header
  for_on ts = opens (open_mark ts)

-- behind the first terminal of a statement
pub stmt_on : (m : ℕ) (t : Terminal) (us : List Terminal) → stmt (suc m) (t ∷ us) ≡ after (begun t (node_by m (inner m) t.symbol t) us) (λ a. pure (statement t.at a))
unfolding inner stmt_of peek skip fail
stmt_on m t us = by (node_by m (inner m) t.symbol t)
  where
    by : (p : Option (Reader StmtNode)) → stmt_begun t p (t ∷ us) ≡ after (begun t p us) (λ a. pure (statement t.at a))
    by None = refl
    by (Some p) = refl

pub stmt_read : (n m : ℕ) (ts us : List Terminal) (t : Terminal) → n ≡ suc m → ts ≡ t ∷ us → stmt n ts ≡ after (begun t (node_by m (inner m) t.symbol t) us) (λ a. pure (statement t.at a))
stmt_read n m ts us t e f = rw (e, f) (stmt_on m t us)
