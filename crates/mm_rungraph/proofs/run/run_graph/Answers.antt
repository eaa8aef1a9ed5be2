use Rattle.std.proofs.Common.{◌∙◌, ap}
use Rattle.mm_sched.specs.declared.entry.Rules.TheVariants.{Buffered}
use Rattle.mm_sched.specs.ScheduleText.{entries_in, entries_of}
use Rattle.mm_rungraph.specs.RunGraph.{IsFault}
use Rattle.mm_rungraph.proofs.Concluding.{refused, refuse_from, conclude_from}
use Rattle.mm_rungraph.proofs.run.run_graph.Goals as goal

pub returns-in_err-verdict : goal.returns-in_err-verdict
returns-in_err-verdict c = refused _ (IsFault (Buffered c.args.model c.args.bound) c.args.program.now (entries_of c.args.schedule.now)) c.from_residual-in_err-verdict.result c.in_err-verdict.field-0.0 c.from_residual-in_err-verdict.ensures
    (refuse_from c.args.model c.args.bound c.args.program.now c.layout_of-layout.result c.in_ok-walk.walk c.in_ok-entries.entries.items (entries_of c.args.schedule.now) c.in_err-verdict.field-0.0
    c.layout_of-layout.ensures (c.in_ok-entries.ensures ∙ ap entries_in c.items.ensures) c.in_ok-walk.ensures.goes.fits.valid c.in_ok-walk.ensures.state c.in_err-verdict.ensures)

pub returns : goal.returns
returns c = rw (c.new-2.ensures, c.new-3.ensures, c.new-4.ensures)
    (conclude_from c.args.model c.args.bound c.args.program.now c.layout_of-layout.result c.in_ok-walk.walk c.extend.new.self c.in_ok-entries.entries.items (entries_of c.args.schedule.now) c.extend.new.entries.items c.in_ok-verdict.verdict c.in_ok-nodes.nodes.items c.in_ok-nodes.edges.items
    c.layout_of-layout.ensures (c.in_ok-entries.ensures ∙ ap entries_in c.items.ensures) c.in_ok-walk.ensures.goes.fits.valid c.in_ok-walk.ensures.state c.in_ok-walk.ensures.marks c.in_ok-verdict.ensures c.in_ok-nodes.ensures)
