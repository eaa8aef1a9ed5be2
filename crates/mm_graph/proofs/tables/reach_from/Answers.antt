use Rattle.std.proofs.Common.{◌≡◌, ◌∙◌, ◌<◌, ◌^◌, true, length, sym, ap}
use Rattle.mm_goto.specs.declared.program.Thread.{Thread}
use Rattle.mm_goto.specs.Sites.{is_site}
use Rattle.mm_points.proofs.InRange.{all_at}
use Rattle.mm_graph.proofs.Pairs.{thread_read, code_read, short_code}
use Rattle.mm_graph.proofs.Flowing.{spot_within}
use Rattle.mm_graph.proofs.tables.reach_from.Goals as goal

pub reach-requires-clause-few : goal.reach-requires-clause-few
reach-requires-clause-few c =
    let is = thread_read c.args.program.now c.args.spot (λ it. is_site it ≡ true) c.requires c.threads.result.now c.index-threads-spot.result c.threads.ensures.threads c.index-threads-spot.is in
    rw (c.items.ensures ∙ ap (λ (x : Thread). x.code) (sym c.index-threads-spot.is)) (all_at (λ t. length t.code < 2 ^ 32) c.args.program.now.threads (short_code c.args.program.now c.threads.ensures.valid) c.args.spot.thread c.index-threads-spot.result is)

pub reach-requires-clause-from : goal.reach-requires-clause-from
reach-requires-clause-from c =
    let is = thread_read c.args.program.now c.args.spot (λ it. is_site it ≡ true) c.requires c.threads.result.now c.index-threads-spot.result c.threads.ensures.threads c.index-threads-spot.is in
    rw (c.items.ensures ∙ ap (λ (x : Thread). x.code) (sym c.index-threads-spot.is) ∙ sym (code_read c.args.program.now c.args.spot.thread c.index-threads-spot.result is)) (spot_within c.args.program.now c.args.spot c.requires)

pub returns : goal.returns
returns c =
    let is = thread_read c.args.program.now c.args.spot (λ it. is_site it ≡ true) c.requires c.threads.result.now c.index-threads-spot.result c.threads.ensures.threads c.index-threads-spot.is in
    rw (c.items.ensures ∙ ap (λ (x : Thread). x.code) (sym c.index-threads-spot.is) ∙ sym (code_read c.args.program.now c.args.spot.thread c.index-threads-spot.result is)) at c.reach.ensures.flows
