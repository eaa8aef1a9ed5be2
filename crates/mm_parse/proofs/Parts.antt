-- The parts of a block, one by one.
use Rattle.std.proofs.Common.{◌≡◌, ℕ, suc, List, [], ◌∷◌, append-nil, refl, ap, Option, Some, None}
use Rattle.mm_tree.specs.declared.stmt.Stmt.{Stmt}
use Rattle.mm_tree.specs.declared.stmt.StmtNode.{StmtNode}
use Rattle.mm_reading.specs.Parsing.{Outcome, Parsed, Fault, after, ◌>>=◌, pure, fail, peek, skip}
use Rattle.mm_parse_expr.specs.declared.symbol.Symbol.{Symbol}
use Rattle.mm_parse_expr.specs.declared.symbol.Symbol.TheVariants.{CloseBrace}
use Rattle.mm_parse_expr.specs.declared.terminal.Terminal.{Terminal}
use Rattle.mm_parse_expr.specs.reading.ExprReading.{Reader}
use Rattle.mm_tree.specs.Trees.{statement}
use Rattle.mm_grammar.specs.reading.StatementReading.{inner, body_begun, body_by, body_of, body}
use Rattle.mm_parse.specs.reading.Begun.{part_by, next_begun, next_by, next}
use Rattle.mm_parse.proofs.Joined.{joined, go_on, joined_more}

module _ (m : ℕ) (xs : List Stmt) where
  read : (t : Terminal) (o : Outcome Terminal StmtNode) → joined xs (after o (λ a. body m >>= λ ss. pure (statement t.at a ∷ ss))) ≡ after (after o (λ a. pure (Some (statement t.at a)))) (go_on xs (body m))
  unfolding pure
  read t (Parsed a rest) = joined_more xs (body m) (Parsed (statement t.at a) rest)
  read t (Fault rest) = refl

  begun : (t : Terminal) (us : List Terminal) (p : Option (Reader StmtNode)) → joined xs (body_begun (inner m) t p (t ∷ us)) ≡ after (next_begun t p (t ∷ us)) (go_on xs (body m))
  unfolding fail skip
  begun t us None = refl
  begun t us (Some p) = read t (p us)

  by : (t : Terminal) (us : List Terminal) (s : Symbol) → joined xs (body_by m (inner m) s t (t ∷ us)) ≡ after (next_by m (inner m) s t (t ∷ us)) (go_on xs (body m))
  unfolding pure skip
  by t us CloseBrace = ap (λ ys. Parsed ys us) (append-nil xs)
  by t us s = begun t us (part_by m (inner m) s t)

  pub body_on : (n : ℕ) (ts : List Terminal) → n ≡ suc m → joined xs (body n ts) ≡ after (next m (inner m) ts) (go_on xs (body m))
  unfolding inner body_of next peek fail
  body_on n [] e = rw e refl
  body_on n (t ∷ us) e = rw e (by t us t.symbol)

  pub body_none : (n : ℕ) (ts : List Terminal) → n ≡ 0 → joined xs (body n ts) ≡ Fault ts
  unfolding inner fail
  body_none n ts e = rw e refl
