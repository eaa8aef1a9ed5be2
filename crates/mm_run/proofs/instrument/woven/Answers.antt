use Rattle.std.proofs.Common.{ℕ, ◌≤◌, subst}
use Rattle.mm_goto.specs.Bounds.{IsBound}
use Rattle.mm_run.specs.Answer.{PrintsWoven}
use Rattle.mm_run.proofs.Alike.{is_alike}
use Rattle.mm_run.proofs.ReadAgain.{read_again}
use Rattle.mm_run.proofs.instrument.woven.Goals as goal

pub returns : goal.returns
returns c =
    let bound : IsBound c.args.bound = (subst (λ (n : ℕ). 1 ≤ n) c.get.ensures.number c.get.ensures.at_least, subst (λ (n : ℕ). n ≤ 8) c.get.ensures.number c.get.ensures.at_most) in
    let small = c.requires.graph.small in
    let w = c.in_ok-weave.ensures in
    PrintsWoven.done small w (read_again c.a_woven_text_is_accepted.ensures c.args.program.now c.args.model c.args.bound _ c.requires.source small bound w)
    (is_alike c.args.program.now c.args.model c.args.bound _ c.threads.ensures.valid bound.0 w)
