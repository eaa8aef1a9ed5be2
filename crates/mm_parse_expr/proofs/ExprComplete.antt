-- What is in the grammar is read.
use Rattle.std.proofs.Common.{◌≡◌, ℕ, zero, suc, ◌<◌, ◌≤◌, List, ◌∷◌, length, arith, Option, Some, None, refl, ◌∙◌, ap}
use Rattle.mm_goto.specs.declared.ident.At.{At}
use Rattle.mm_goto.specs.declared.pure.Binary.{Binary}
use Rattle.mm_goto.specs.declared.pure.Unary.TheVariants as un
use Rattle.mm_tree.specs.declared.expr.Expr.{Expr}
use Rattle.mm_tree.specs.declared.expr.Node.TheVariants as node
use Rattle.mm_reading.specs.Parsing.{Outcome, Parsed, ◌>>=◌, ◌>>◌, pure, peek, skip, head, after, token}
use Rattle.mm_parse_expr.specs.declared.symbol.Symbol.TheVariants.{Operator}
use Rattle.mm_parse_expr.specs.declared.terminal.Terminal.{Terminal}
use Rattle.mm_parse_expr.specs.Grammar as g
use Rattle.mm_parse_expr.specs.Grammar.{IsExpr, IsLevel, IsMore, IsUnary, IsPrimary, terminal, binary_tree, choice_tree, looseness}
use Rattle.mm_tree.specs.Trees.{expr as tree, word}
use Rattle.mm_parse_expr.specs.reading.ExprReading.{Reader, Lower, close, close_bracket, colon, name_word, index, element_tree, address_tree, primary, signed, pointed, address, unary, more_by, more_of, more, level, choice, expr, lower}
use Rattle.mm_parse_expr.proofs.Follow.{Stops, Ends, stops_less, ends_stop, operator_stops, joins_some, index_ends, more_ends, choice_ends}

-- ---- what is read is some tokens

mutual
  pub expr_shorter : {ts : List Terminal} {e : Expr} {rest : List Terminal} → IsExpr ts e rest → length rest < length ts
  expr_shorter (g.plain d) = level_shorter d
  expr_shorter (g.choice d f h) = omega (arith, level_shorter d, expr_shorter f, expr_shorter h)

  pub level_shorter : {n : ℕ} {ts : List Terminal} {e : Expr} {rest : List Terminal} → IsLevel n ts e rest → length rest < length ts
  level_shorter (g.unary d) = unary_shorter d
  level_shorter (g.joined d m) = omega (arith, level_shorter d, more_shorter m)

  pub more_shorter : {n : ℕ} {a : Expr} {ts : List Terminal} {e : Expr} {rest : List Terminal} → IsMore n a ts e rest → length rest ≤ length ts
  more_shorter g.done = omega arith
  more_shorter (g.more is d m) = omega (arith, level_shorter d, more_shorter m)

  pub unary_shorter : {ts : List Terminal} {e : Expr} {rest : List Terminal} → IsUnary ts e rest → length rest < length ts
  unary_shorter (g.minus d) = omega (arith, unary_shorter d)
  unary_shorter (g.plus d) = omega (arith, unary_shorter d)
  unary_shorter (g.not d) = omega (arith, unary_shorter d)
  unary_shorter (g.flip d) = omega (arith, unary_shorter d)
  unary_shorter (g.deref d) = omega (arith, unary_shorter d)
  unary_shorter g.address = omega arith
  unary_shorter (g.element_address d) = omega (arith, expr_shorter d)
  unary_shorter (g.primary d) = primary_shorter d

  pub primary_shorter : {ts : List Terminal} {e : Expr} {rest : List Terminal} → IsPrimary ts e rest → length rest < length ts
  primary_shorter g.number = omega arith
  primary_shorter g.null = omega arith
  primary_shorter g.name = omega arith
  primary_shorter (g.element d) = omega (arith, expr_shorter d)
  primary_shorter (g.group d) = omega (arith, expr_shorter d)

-- ---- where a reader ends

pub index_done : (r : Lower) (rest : List Terminal) → Stops 0 (head rest) → index r rest ≡ Parsed None rest
unfolding index peek pure
index_done r rest c = ap (λ (p : Reader (Option Expr)). p rest) (index_ends r (head rest) c)

more_done : (r : Lower) (n : ℕ) (a : Expr) (rest : List Terminal) → Stops (suc n) (head rest) → more r n a rest ≡ Parsed a rest
unfolding more more_of peek pure
more_done r n a rest c = ap (λ (p : Reader Expr). p rest) (more_ends r n (level r n) a (head rest) c)

choice_done : (r : Lower) (a : Expr) (rest : List Terminal) → Ends (head rest) → choice r a rest ≡ Parsed a rest
unfolding choice peek pure
choice_done r a rest c = ap (λ (p : Reader Expr). p rest) (choice_ends r a (head rest) c)

more_stops : {n : ℕ} {a : Expr} {ts : List Terminal} {e : Expr} {rest : List Terminal} → IsMore n a ts e rest → Stops (suc n) (head rest) → Stops n (head ts)
more_stops {n = n} {rest = rest} g.done c = stops_less n (head rest) c
more_stops {n = n} (g.more {op = op} is d m) c = operator_stops n op is

-- an operator of looseness n is taken
more_taken : (r : Lower) (n : ℕ) (op : Binary) (a : Expr) (p : At) (x : List ℕ) (ts : List Terminal) → looseness op ≡ n → more r n a (terminal (Operator op) p x ∷ ts) ≡ after (level r n ts) (λ b. r.more n (binary_tree op a b))
unfolding more more_of peek skip
more_taken r n op a p x ts is = ap (λ o. more_by r n (level r n) a o (terminal (Operator op) p x ∷ ts)) (joins_some n op is)

-- a unary expression behind a token
behind : (m : ℕ) (ts : List Terminal) (o : Outcome Terminal Expr) → length ts < m → ((k : ℕ) → length ts < suc k → unary (lower k) ts ≡ o) → (lower m).unary ts ≡ o
unfolding lower
behind zero ts o l h = absurd (omega arith)
behind (suc m) ts o l h = h m (omega arith)

-- ---- what is in the grammar is read

mutual
  unfolding primary unary signed pointed address name_word index close close_bracket colon token peek skip pure level more choice expr lower

  pub expr_complete : {ts : List Terminal} {e : Expr} {rest : List Terminal} → IsExpr ts e rest → (m : ℕ) → Ends (head rest) → length ts < m → (lower m).expr ts ≡ Parsed e rest
  expr_complete d zero c l = absurd (omega arith)
  expr_complete {rest = rest} (g.plain {a = a} d) (suc m) c l = ap (λ o. after o (choice (lower m))) (level_complete d m (ends_stop 10 (head rest) c) l) ∙ choice_done (lower m) a rest c
  expr_complete (g.choice d f h) (suc zero) c l = absurd (omega (arith, level_shorter d))
  expr_complete (g.choice {c = test} {a = a} d f h) (suc (suc m)) c l =
      ap (λ o. after o (choice (lower (suc m)))) (level_complete d (suc m) tt l)
      ∙ ap (λ o. after o (λ a. colon >> ((lower (suc m)).expr >>= λ b. pure (choice_tree test a b)))) (expr_complete f (suc m) tt (omega (arith, level_shorter d)))
      ∙ ap (λ o. after o (λ b. pure (choice_tree test a b))) (expr_complete h (suc m) c (omega (arith, level_shorter d, expr_shorter f)))

  pub level_complete : {n : ℕ} {ts : List Terminal} {e : Expr} {rest : List Terminal} → IsLevel n ts e rest → (m : ℕ) → Stops n (head rest) → length ts < suc m → level (lower m) n ts ≡ Parsed e rest
  level_complete (g.unary d) m c l = unary_complete d m c l
  level_complete (g.joined {n = n} d h) m c l = ap (λ o. after o (more (lower m) n)) (level_complete d m (more_stops h c) l) ∙ more_complete h m c (omega (arith, level_shorter d))

  pub more_complete : {n : ℕ} {a : Expr} {ts : List Terminal} {e : Expr} {rest : List Terminal} → IsMore n a ts e rest → (m : ℕ) → Stops (suc n) (head rest) → length ts < suc m → more (lower m) n a ts ≡ Parsed e rest
  more_complete {n = n} {a = a} {rest = rest} g.done m c l = more_done (lower m) n a rest c
  more_complete (g.more is d h) zero c l = absurd (omega arith)
  more_complete {n = n} {a = a} (g.more {op = op} {ts = ts} {p = p} {x = x} is d h) (suc m) c l =
      more_taken (lower (suc m)) n op a p x ts is
      ∙ ap (λ o. after o (λ b. (lower (suc m)).more n (binary_tree op a b))) (level_complete d (suc m) (more_stops h c) (omega arith))
      ∙ more_complete h m c (omega (arith, level_shorter d))

  pub unary_complete : {ts : List Terminal} {e : Expr} {rest : List Terminal} → IsUnary ts e rest → (m : ℕ) → Stops 0 (head rest) → length ts < suc m → unary (lower m) ts ≡ Parsed e rest
  unary_complete (g.minus {p = p} d) m c l = ap (λ o. after o (λ e. pure (tree p (node.Un un.Neg e)))) (behind m _ _ (omega arith) (λ k l. unary_complete d k c l))
  unary_complete (g.plus {p = p} d) m c l = ap (λ o. after o (λ e. pure (tree p (node.Un un.Plus e)))) (behind m _ _ (omega arith) (λ k l. unary_complete d k c l))
  unary_complete (g.not {p = p} d) m c l = ap (λ o. after o (λ e. pure (tree p (node.Un un.Not e)))) (behind m _ _ (omega arith) (λ k l. unary_complete d k c l))
  unary_complete (g.flip {p = p} d) m c l = ap (λ o. after o (λ e. pure (tree p (node.Un un.Flip e)))) (behind m _ _ (omega arith) (λ k l. unary_complete d k c l))
  unary_complete (g.deref {p = p} d) m c l = ap (λ o. after o (λ e. pure (tree p (node.Deref e)))) (behind m _ _ (omega arith) (λ k l. unary_complete d k c l))
  unary_complete (g.address {rest = rest} {p = p} {q = q} {y = y}) m c l = ap (λ o. after o (λ i. pure (address_tree p (word q y) i))) (index_done (lower m) rest c)
  unary_complete (g.element_address {p = p} {q = q} {y = y} d) m c l =
      ap (λ o. after (after o (λ e. close_bracket >> pure (Some e))) (λ i. pure (address_tree p (word q y) i))) (expr_complete d m tt (omega arith))
  unary_complete (g.primary d) m c l = primary_complete d m c l

  pub primary_complete : {ts : List Terminal} {e : Expr} {rest : List Terminal} → IsPrimary ts e rest → (m : ℕ) → Stops 0 (head rest) → length ts < suc m → unary (lower m) ts ≡ Parsed e rest
  primary_complete g.number m c l = refl
  primary_complete g.null m c l = refl
  primary_complete (g.name {rest = rest} {p = p} {x = x}) m c l = ap (λ o. after o (λ i. pure (element_tree p x i))) (index_done (lower m) rest c)
  primary_complete (g.element {p = p} {x = x} d) m c l =
      ap (λ o. after (after o (λ e. close_bracket >> pure (Some e))) (λ i. pure (element_tree p x i))) (expr_complete d m tt (omega arith))
  primary_complete (g.group d) m c l = ap (λ o. after o (λ e. close >> pure e)) (expr_complete d m tt (omega arith))
