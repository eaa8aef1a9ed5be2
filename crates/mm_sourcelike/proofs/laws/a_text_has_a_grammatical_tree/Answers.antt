use Rattle.mm_sourcelike.proofs.Texts.{text_is_grammatical}
use Rattle.mm_sourcelike.proofs.laws.a_text_has_a_grammatical_tree.Goals as goal

pub returns : goal.returns
returns c = text_is_grammatical
