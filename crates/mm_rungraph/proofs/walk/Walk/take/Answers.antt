use Rattle.std.proofs.Common.{arith}
use Rattle.mm_rungraph.proofs.Walks.{leads_next}
use Rattle.mm_rungraph.proofs.walk.Walk.take.Goals as goal

pub loop-i-preserved : goal.loop-i-preserved
loop-i-preserved c = record {
  goes = c.in_ok-step.ensures.goes;
  count = omega (arith, c.in_ok-step.ensures.count, c.loop-i.invariant.count);
  leads = leads_next c.args.rules.now c.args.program.now c.args.layout.now c.args.self.now c.loop-i.self c.step.new.self c.args.entries.now c.loop-i.i _ (omega arith) c.loop-i.invariant.leads c.in_ok-step.ensures.step;
}
