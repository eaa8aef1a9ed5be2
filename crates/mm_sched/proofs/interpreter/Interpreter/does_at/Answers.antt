use Rattle.mm_sched.proofs.Possibly.{fetched_within, fetched_place}
use Rattle.mm_sched.proofs.interpreter.Interpreter.does_at.Goals as goal

pub act-requires-clause-place : goal.act-requires-clause-place
act-requires-clause-place c = fetched_place c.args.rules.now c.args.program.now c.args.self.now.state c.requires.fits c.args.t c.args.frame.now.place c.args.instr.now c.requires.instr

pub act-requires-clause-within : goal.act-requires-clause-within
act-requires-clause-within c = fetched_within c.args.rules.now c.args.program.now c.args.self.now.state c.requires.fits c.args.t c.args.frame.now c.args.instr.now c.requires.frame c.requires.instr
