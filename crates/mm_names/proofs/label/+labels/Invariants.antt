use Rattle.std.proofs.Common.{◌≡◌, map, take}
use Rattle.mm_names.specs.Labels.{labels_in, all_labels, labelled}
use Rattle.mm_names.proofs.label.+labels.Given as goal

abbrev pub invariant-label_all-loop-stmt : goal.invariant-label_all-loop-stmt
invariant-label_all-loop-stmt l = (l.labels, l.notes) ≡ labelled l.side (all_labels (map labels_in (take l.stmt-index l.stmts))) (l.initial.labels, l.initial.notes)
