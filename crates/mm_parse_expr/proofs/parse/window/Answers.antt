use Rattle.std.proofs.Common.{length, take, ap, ◌∙◌}
use Rattle.std.proofs.Math.Nat.{min_comm}
use Rattle.std.proofs.lemmas.List.{take_min}
use Rattle.mm_parse_expr.specs.declared.parse.TheConstants.{TOKENS}
use Rattle.mm_parse_expr.proofs.parse.window.Goals as goal

pub returns : goal.returns
returns c =
    c.split_at-2.ensures.front ∙ ap (λ n. take n c.split_at.result.1.now) (c.min.ensures ∙ min_comm (length c.split_at.result.1.now) TOKENS)
    ∙ take_min TOKENS c.split_at.result.1.now ∙ ap (λ ts. take TOKENS ts) c.split_at.ensures.back
