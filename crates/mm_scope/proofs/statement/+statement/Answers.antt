use Rattle.std.proofs.Common.{ap, sym, ◌∙◌}
use Rattle.mm_scope.specs.Statements.{said_stmt}
use Rattle.mm_scope.specs.Steps.{after}
use Rattle.mm_scope.proofs.Steps.{after-all_at-next}
use Rattle.mm_scope.proofs.statement.+statement.Goals as goal

pub read_all-loop-stmt-preserved : goal.read_all-loop-stmt-preserved
read_all-loop-stmt-preserved t c =
    let said = said_stmt c.args.items.now c.args.labels.now in
    c.in_ok-read_stmt.ensures
    ∙ ap (after (said c.stmt-item.result c.args.around)) c.loop-stmt.invariant
    ∙ sym (after-all_at-next said c.args.around c.args.stmts.now c.loop-stmt.stmt-index c.stmt-item.result c.args.walk.now c.loop-stmt-test.true c.stmt-item.is)
