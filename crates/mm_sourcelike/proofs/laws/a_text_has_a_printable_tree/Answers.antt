use Rattle.mm_sourcelike.proofs.PrintableItems.{text_is_printable}
use Rattle.mm_sourcelike.proofs.laws.a_text_has_a_printable_tree.Goals as goal

pub returns : goal.returns
returns c = text_is_printable
