use Rattle.std.proofs.Common.{◌≡◌, ◌-◌, ◌∙◌, ℕ, suc, List, Option, Some, None, arith, sym, ap}
use Rattle.std.proofs.lemmas.Result.{err_from_is_err_and}
use Rattle.mm_goto.specs.declared.ident.At.{At}
use Rattle.mm_tree.specs.declared.stmt.StmtNode.{StmtNode}
use Rattle.mm_reading.specs.Gives.{Fails, left_at}
use Rattle.mm_reading.specs.Parsing.{Parsed, after, pure}
use Rattle.mm_reading.specs.declared.refused.Refused.{Refused}
use Rattle.mm_parse_expr.specs.declared.terminal.Terminal.{Terminal}
use Rattle.mm_parse.specs.declared.reading.opening.Opening.{Opening}
use Rattle.mm_parse.specs.reading.Begun.{next}
use Rattle.mm_parse.specs.reading.Openings.{opening, within, stmt_within, next_within}
use Rattle.mm_parse.specs.reading.Openings as openings
use Rattle.mm_tree.specs.Trees.{statement}
use Rattle.mm_grammar.specs.reading.StatementReading.{inner, stmt, body}
use Rattle.mm_parse.proofs.Joined.{joined_none, fails_after, none_next, some_next}
use Rattle.mm_parse.proofs.Parts.{body_on, body_none}
use Rattle.mm_parse.proofs.Opened.{stmt_opened, next_on}
use Rattle.mm_parse.proofs.reading.statement.+statement.Goals as goal

pub read_body-loop-left-init : goal.read_body-loop-left-init
read_body-loop-left-init t c = let none = c.new-stmts.ensures.items in rw none (joined_none (body c.args.bound c.args.ts.now))

pub read_body-returns-in_err-next : goal.read_body-returns-in_err-next
read_body-returns-in_err-next t c =
    let on = body_on (c.loop-left.left - 1) c.loop-left.stmts.items c.loop-left.left c.loop-left.rest.now (omega arith) in
    let p = err_from_is_err_and c.from_residual.result c.from_residual.ensures.1 in
    rw (p.1, p.2, ← c.loop-left.invariant, on) (fails_after _ _ _ c.in_err-next.ensures)

pub read_body-returns-in_default : goal.read_body-returns-in_default
read_body-returns-in_default t c =
    let on = body_on (c.loop-left.left - 1) c.loop-left.stmts.items c.loop-left.left c.loop-left.rest.now (omega arith) in
    rw c.shrink_to_fit.ensures.items (sym c.loop-left.invariant ∙ none_next _ (body (c.loop-left.left - 1)) _ _ _ _ on c.in_ok-next.ensures c.in_default.is)

pub read_body-loop-left-preserved : goal.read_body-loop-left-preserved
read_body-loop-left-preserved t c =
    let on = body_on (c.loop-left.left - 1) c.loop-left.stmts.items c.loop-left.left c.loop-left.rest.now (omega arith) in
    let items = c.in_ok-push.ensures.items in
    let rest = c.onwards-rest.ensures in
    rw (items, rest, c.into_inner.ensures) (some_next _ (body (c.loop-left.left - 1)) _ _ _ _ _ on c.in_ok-next.ensures c.in-Some.is ∙ c.loop-left.invariant)

pub read_body-returns : goal.read_body-returns
read_body-returns t c = ap left_at (sym c.loop-left.invariant ∙ body_none 0 c.loop-left.stmts.items c.loop-left.left c.loop-left.rest.now (omega arith))

module _ (m n : ℕ) (ts : List Terminal) (e : n ≡ suc m) where
  stmt_unopened : (f : Refused) → Fails f (opening m ts) → Fails f (stmt n ts)
  stmt_unopened f h = rw (stmt_opened m n ts e) (fails_after f (opening m ts) (stmt_within m (inner m)) h)

  module _ (x : At × Opening) (rest : List Terminal) (h : opening m ts ≡ Parsed x rest) where
    stmt_from : stmt n ts ≡ after (within m (inner m) x.1 rest) (λ a. pure (statement x.0 a))
    stmt_from = stmt_opened m n ts e ∙ ap (λ q. after q (stmt_within m (inner m))) h

    stmt_unread : (f : Refused) → Fails f (within m (inner m) x.1 rest) → Fails f (stmt n ts)
    stmt_unread f k = rw stmt_from (fails_after f (within m (inner m) x.1 rest) (λ a. pure (statement x.0 a)) k)

    stmt_read : (a : StmtNode) (behind : List Terminal) → within m (inner m) x.1 rest ≡ Parsed a behind → stmt n ts ≡ Parsed (statement x.0 a) behind
    unfolding pure
    stmt_read a behind k = stmt_from ∙ ap (λ q. after q (λ b. pure (statement x.0 b))) k

pub read_stmt-returns-in_err-found : goal.read_stmt-returns-in_err-found
read_stmt-returns-in_err-found t c =
    let p = err_from_is_err_and c.from_residual.result c.from_residual.ensures.1 in
    rw (p.1, p.2) (stmt_unopened (c.args.bound - 1) c.args.bound c.args.ts.now (omega arith) _ c.in_err-found.ensures)

pub read_stmt-returns-in_err-node : goal.read_stmt-returns-in_err-node
read_stmt-returns-in_err-node t c =
    let p = err_from_is_err_and c.from_residual-in_err-node.result c.from_residual-in_err-node.ensures.1 in
    rw (p.1, p.2) (stmt_unread (c.args.bound - 1) c.args.bound c.args.ts.now (omega arith) _ _ c.in_ok-found.ensures _ c.in_err-node.ensures)

pub read_stmt-returns : goal.read_stmt-returns
read_stmt-returns t c = rw c.in_ok-boxed.ensures (stmt_read (c.args.bound - 1) c.args.bound c.args.ts.now (omega arith) _ _ c.in_ok-found.ensures _ _ c.in_ok-node.ensures)

module _ (n : ℕ) (ts : List Terminal) where
  next_unopened : (f : Refused) → Fails f (openings.next n ts) → Fails f (next n (inner n) ts)
  next_unopened f h = rw (next_on n (inner n) ts) (fails_after f (openings.next n ts) (next_within n (inner n)) h)

  module _ (o : Option (At × Opening)) (rest : List Terminal) (h : openings.next n ts ≡ Parsed o rest) where
    next_from : (p : Option (At × Opening)) → o ≡ p → next n (inner n) ts ≡ next_within n (inner n) p rest
    next_from p e = next_on n (inner n) ts ∙ ap (λ q. after q (next_within n (inner n))) h ∙ ap (λ r. next_within n (inner n) r rest) e

    next_end : o ≡ None → next n (inner n) ts ≡ Parsed None rest
    unfolding pure
    next_end e = next_from None e

    module _ (x : At × Opening) (e : o ≡ Some x) where
      next_unread : (f : Refused) → Fails f (within n (inner n) x.1 rest) → Fails f (next n (inner n) ts)
      next_unread f k = rw (next_from (Some x) e) (fails_after f (within n (inner n) x.1 rest) (λ a. pure (Some (statement x.0 a))) k)

      next_read : (a : StmtNode) (behind : List Terminal) → within n (inner n) x.1 rest ≡ Parsed a behind → next n (inner n) ts ≡ Parsed (Some (statement x.0 a)) behind
      unfolding pure
      next_read a behind k = next_from (Some x) e ∙ ap (λ q. after q (λ b. pure (Some (statement x.0 b)))) k

pub read_next-returns-in_err-next : goal.read_next-returns-in_err-next
read_next-returns-in_err-next t c =
    let p = err_from_is_err_and c.from_residual.result c.from_residual.ensures.1 in
    rw (p.1, p.2) (next_unopened c.args.bound c.args.ts.now _ c.in_err-next.ensures)

pub read_next-returns-in_default : goal.read_next-returns-in_default
read_next-returns-in_default t c = next_end c.args.bound c.args.ts.now _ _ c.in_ok-next.ensures c.in_default.is

pub read_next-returns-in_err-node : goal.read_next-returns-in_err-node
read_next-returns-in_err-node t c =
    let p = err_from_is_err_and c.from_residual-in_err-node.result c.from_residual-in_err-node.ensures.1 in
    rw (p.1, p.2) (next_unread c.args.bound c.args.ts.now _ _ c.in_ok-next.ensures _ c.in-Some.is _ c.in_err-node.ensures)

pub read_next-returns : goal.read_next-returns
read_next-returns t c = rw c.in_ok-boxed.ensures (next_read c.args.bound c.args.ts.now _ _ c.in_ok-next.ensures _ c.in-Some.is _ _ c.in_ok-node.ensures)
