use Rattle.std.proofs.Common.{arith, ◌++◌, ◌∙◌, ap, map}
use Rattle.mm_sched.specs.State.{pending_of}
use Rattle.mm_rungraph.specs.Extension.{flush_entry}
use Rattle.mm_rungraph.specs.reading.Walking.{Walking}
use Rattle.mm_rungraph.proofs.Entering.{flushes_next}
use Rattle.mm_rungraph.proofs.walk.Walk.extension.Goals as goal

pub loop-t-preserved : goal.loop-t-preserved
loop-t-preserved c = flushes_next c.args.model c.args.self.now.state.pending c.loop-t.t c.loop-t.entries.items c.add_flushes.new.entries.items (omega (arith, c.requires.threads)) c.loop-t.invariant
    (c.in_ok-add_flushes.ensures ∙ ap (λ ps. c.loop-t.entries.items ++ map (flush_entry c.args.model c.loop-t.t) ps) (c.pending.ensures ∙ ap (λ (w : Walking). pending_of w.state c.loop-t.t) c.self.view_is))
