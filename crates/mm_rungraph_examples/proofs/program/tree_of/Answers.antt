use Rattle.mm_rungraph_examples.proofs.Sources.{tree_of}
use Rattle.mm_rungraph_examples.proofs.program.tree_of.Goals as goal

pub returns-in-Ok-parse : goal.returns-in-Ok-parse
returns-in-Ok-parse c = tree_of c.args.text.now c.in-Ok.tokens.items c.deref.result.now c.in-Ok-parse.tree c.deref.ensures.value c.in-Ok.ensures.tokens c.in-Ok-parse.ensures.tree
