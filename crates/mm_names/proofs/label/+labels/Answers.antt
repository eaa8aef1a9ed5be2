use Rattle.std.proofs.Common.{ap, sym, ◌∙◌}
use Rattle.mm_names.specs.Labels.{labels_in, labelled}
use Rattle.mm_names.proofs.Labelling.{all-next}
use Rattle.mm_names.proofs.label.+labels.Goals as goal

pub label_all-loop-stmt-preserved : goal.label_all-loop-stmt-preserved
label_all-loop-stmt-preserved t c =
    c.in_ok-label_stmt.ensures
    ∙ ap (labelled c.args.side (labels_in c.stmt-item.result)) c.loop-stmt.invariant
    ∙ sym (all-next c.args.side labels_in c.args.stmts.now c.loop-stmt.stmt-index c.stmt-item.result (c.args.labels.now, c.args.notes.now) c.loop-stmt-test.true c.stmt-item.is)
