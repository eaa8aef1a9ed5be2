-- How the readers of the statements read that are marks, words and expressions alone.
use Rattle.std.proofs.Common.{ℕ, Some}
use Rattle.mm_tree.specs.declared.expr.Expr.{Expr}
use Rattle.mm_tree.specs.declared.expr.Word.{Word}
use Rattle.mm_tree.specs.declared.stmt.StmtNode.{StmtNode}
use Rattle.mm_tree.specs.declared.stmt.StmtNode.TheVariants as node
use Rattle.mm_parse_expr.specs.declared.symbol.Symbol.TheVariants.{Semicolon}
use Rattle.mm_parse_expr.proofs.Follow.{Any, Ends}
use Rattle.mm_grammar.specs.reading.StatementReading as r
use Rattle.mm_grammar.proofs.MarkReads.{Follow, sample}
use Rattle.mm_grammar.proofs.StatementReadsParts.{Reading, bound, done, close_reading, comma_reading, semicolon_reading, open_reading, ampersand_reading, null_reading, text_reading, name_reading, expr_reading}

pub ended_reading : {n : ℕ} {C : Follow} (P : Follow) → P (Some (sample Semicolon)) → (m : StmtNode) → Reading n P C (r.ended m) (λ k. r.ended m)
ended_reading P p m = bound (semicolon_reading P p) (λ u. done m)

pub bare_reading : {n : ℕ} {C : Follow} (m : StmtNode) → Reading n Any C (r.bare m) (λ k. r.bare m)
unfolding r.bare
bare_reading m = bound open_reading (λ u. bound (close_reading Any tt) (λ u. ended_reading Any tt m))

pub with_expr_reading : {n : ℕ} {C : Follow} (make : Expr → StmtNode) → Reading n Any C (r.with_expr n make) (λ k. r.with_expr k make)
unfolding r.with_expr
with_expr_reading make = bound open_reading (λ u. bound expr_reading (λ e. bound (close_reading Ends tt) (λ u. ended_reading Any tt (make e))))

pub with_address_reading : {n : ℕ} {C : Follow} (make : Word → StmtNode) → Reading n Any C (r.with_address make) (λ k. r.with_address make)
unfolding r.with_address
with_address_reading make = bound open_reading (λ u. bound ampersand_reading (λ u. bound (name_reading Any tt) (λ w. bound (close_reading Any tt) (λ u. ended_reading Any tt (make w)))))

pub named_assert_reading : {n : ℕ} {C : Follow} → Reading n Any C (r.named_assert n) r.named_assert
unfolding r.named_assert
named_assert_reading = bound open_reading (λ u. bound expr_reading (λ e. bound (comma_reading Ends tt) (λ u. bound text_reading (λ x. bound (close_reading Any tt) (λ u. ended_reading Any tt (node.Assert e (Some x)))))))

started_reading : {n : ℕ} {C : Follow} (w : Word) → Reading n Any C (r.started w) (λ k. r.started w)
unfolding r.started
started_reading w = bound (comma_reading Any tt) (λ u. bound (name_reading Any tt) (λ f. bound (comma_reading Any tt) (λ u. bound null_reading (λ u. bound (close_reading Any tt) (λ u. ended_reading Any tt (node.Start w f))))))

pub start_reading : {n : ℕ} {C : Follow} → Reading n Any C r.start (λ k. r.start)
unfolding r.start
start_reading = bound open_reading (λ u. bound ampersand_reading (λ u. bound (name_reading Any tt) (λ w. bound (comma_reading Any tt) (λ u. bound null_reading (λ u. started_reading w)))))

pub join_reading : {n : ℕ} {C : Follow} → Reading n Any C r.join (λ k. r.join)
unfolding r.join
join_reading = bound open_reading (λ u. bound (name_reading Any tt) (λ w. bound (comma_reading Any tt) (λ u. bound null_reading (λ u. bound (close_reading Any tt) (λ u. ended_reading Any tt (node.Join w))))))

pub goto_reading : {n : ℕ} {C : Follow} → Reading n Any C r.goto (λ k. r.goto)
unfolding r.goto
goto_reading = bound (name_reading Any tt) (λ w. ended_reading Any tt (node.Goto w))
