use Rattle.std.proofs.Common.{◌∙◌, List, ℕ, length, take, ◌≤◌, ap, subst}
use Rattle.std.specs.Str.{chars}
use Rattle.std.proofs.lemmas.List.{take_all}
use Rattle.std.proofs.lemmas.Str.{encodes-chars, length-le-encodes}
use Rattle.mm_lexer.specs.Place.{start, past_all}
use Rattle.mm_lexer.proofs.Spans.{place_of_all}
use Rattle.mm_lexer.proofs.place.end_of.Goals as goal

pub returns : goal.returns
returns c =
    let text = c.args.text.now in
    let few : length (chars text) ≤ length text = subst (λ (bs : List ℕ). length (chars text) ≤ length bs) (encodes-chars text c.utf8.text) (length-le-encodes (chars text)) in
    ap (λ p. p.at) c.after.ensures.place
    ∙ ap (λ p. (past_all p (take (length text) (chars text))).at) c.start.ensures
    ∙ ap (λ (cs : List ℕ). (past_all start cs).at) (take_all (length text) (chars text) few)
    ∙ place_of_all (chars text)
