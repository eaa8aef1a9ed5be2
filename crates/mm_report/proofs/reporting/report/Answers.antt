use Rattle.std.proofs.Common.{ap, ◌∙◌, map, length, subst}
use Rattle.serde_json.specs.View.{view}
use Rattle.mm_report.specs.Reports.{AreReported}
use Rattle.mm_report.proofs.Adding.{is_report}
use Rattle.mm_report.proofs.reporting.report.Goals as goal

pub returns : goal.returns
returns c = is_report c.args.program.now c.args.head.now (map view c.in_ok-buffered.buffered.items) c.in_ok-value.value (length c.sites.result.now) _
    (subst (λ notes. AreReported c.args.program.now notes (map view c.in_ok-buffered.buffered.items)) c.items.ensures c.in_ok-buffered.ensures)
    c.in_ok-value.ensures
    (ap length c.sites.ensures ∙ c.requires.graph.size)
    c.in_ok-to_string.ensures.text
