use Rattle.std.proofs.Common.{string_bytes}
use Rattle.mm_goto.specs.Listing.{Listing}
use Rattle.mm_graph.specs.Refusals.{IsRefused}
use Rattle.mm_run.specs.declared.answer.Answer.{Answer}
use Rattle.mm_run.specs.Answer.{IsTooLargeFor}
use Rattle.mm_run.proofs.Answering.{cells_told, if_ok, sites_told}
use Rattle.mm_run.proofs.event_graph.too_large.Goals as goal

pub returns-in-TooManySites : goal.returns-in-TooManySites
returns-in-TooManySites c =
    if_ok _ (λ (a : Answer). (p : Listing) → IsRefused p c.args.fault → IsTooLargeFor p a.status (string_bytes a.output)) _ c.refused.ensures
    (λ a h p r. sites_told _ _ p _ _ c.in-TooManySites.is c.start.ensures h.0 h.1 r)

pub returns-in-TooManyCells : goal.returns-in-TooManyCells
returns-in-TooManyCells c =
    if_ok _ (λ (a : Answer). (p : Listing) → IsRefused p c.args.fault → IsTooLargeFor p a.status (string_bytes a.output)) _ c.refused-in-TooManyCells.ensures
    (λ a h p r. cells_told _ _ p _ _ c.in-TooManyCells.is c.start-in-TooManyCells.ensures h.0 h.1 r)
