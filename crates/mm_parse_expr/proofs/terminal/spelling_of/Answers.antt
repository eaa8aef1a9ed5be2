use Rattle.std.proofs.Common.{◌∙◌, ap, sym}
use Rattle.mm_lexer.specs.Tokens.{bytes_of}
use Rattle.mm_parse_expr.specs.Terminals as spec
use Rattle.mm_parse_expr.proofs.Quoted.{between_ends}
use Rattle.mm_parse_expr.proofs.terminal.spelling_of.Goals as goal

pub returns-in-Text : goal.returns-in-Text
returns-in-Text c =
    let text = c.args.text.now in
    let t = c.args.token.now in
    c.range.ensures.value ∙ between_ends text t.start t.end (c.requires.quotes c.in-Text.is).both c.requires.within
    ∙ ap (λ kind. spec.spelling_of kind (bytes_of text t)) (sym c.in-Text.is)
