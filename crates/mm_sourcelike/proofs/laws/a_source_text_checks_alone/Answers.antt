use Rattle.mm_tree.specs.declared.side.Side.TheVariants.{Source}
use Rattle.mm_sourcelike.proofs.PlainThreads.{checks_alone}
use Rattle.mm_sourcelike.proofs.Texts.{text_is_grammatical}
use Rattle.mm_sourcelike.proofs.laws.a_source_text_checks_alone.Goals as goal

pub returns : goal.returns
returns c = λ text tree utf8 small read. checks_alone tree (text_is_grammatical Source text tree utf8 small read)
