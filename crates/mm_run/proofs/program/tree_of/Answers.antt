use Rattle.mm_run.proofs.Refused.{tree_of}
use Rattle.mm_run.proofs.program.tree_of.Goals as goal

pub returns-in-Ok-parse-clause-tree : goal.returns-in-Ok-parse-clause-tree
returns-in-Ok-parse-clause-tree c =
    tree_of c.args.side c.args.text.now c.in-Ok.tokens.items c.deref.result.now c.in-Ok-parse.tree c.deref.ensures.value c.in-Ok.ensures.tokens c.in-Ok-parse.ensures.tree

pub returns-in-Err-clause-refused : goal.returns-in-Err-clause-refused
returns-in-Err-clause-refused c = c.unlexed.ensures c.args.side c.args.text.now c.in-Err.ensures.fault
