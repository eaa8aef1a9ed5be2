use Rattle.mm_tree.specs.declared.side.Side.TheVariants.{Source}
use Rattle.mm_sourcelike.proofs.Texts.{text_is_grammatical}
use Rattle.mm_sourcelike.proofs.Whole.{source_like}
use Rattle.mm_sourcelike.proofs.laws.a_source_text_is_sourcelike.Goals as goal

pub returns : goal.returns
returns c = λ text tree utf8 small read sense none. source_like tree (text_is_grammatical Source text tree utf8 small read) sense none
