use Rattle.mm_sourcelike.proofs.Law.{flattened_valid}
use Rattle.mm_sourcelike.proofs.Texts.{text_is_grammatical}
use Rattle.mm_sourcelike.proofs.laws.a_flattened_text_is_valid.Goals as goal

pub returns : goal.returns
returns c = λ side text tree utf8 small read sense none.
    let g = text_is_grammatical side text tree utf8 small read in
    flattened_valid side tree g.ints g.scoped sense none
