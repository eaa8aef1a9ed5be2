use Rattle.std.proofs.Common.{ℕ, List, ◌++◌, codes, subst}
use Rattle.mm_run.specs.Program.{IsNoProgram}
use Rattle.mm_run.specs.Refusal.{Says}
use Rattle.mm_run.proofs.Refused.{rejects, known}
use Rattle.mm_run.proofs.program.unparsed.Goals as goal

pub returns-in-TooDeep : goal.returns-in-TooDeep
returns-in-TooDeep c side text tokens t h = rejects side text _ _ _ (IsNoProgram.too_deep _ (known side text tokens _ _ t c.in-TooDeep.is (λ e. cc) h)) c.refuse.ensures

pub returns-in-OutsideProfile : goal.returns-in-OutsideProfile
returns-in-OutsideProfile c side text tokens t h =
    let says : Says c.outside_profile.result c.in-OutsideProfile.at (codes "outside profile: " ++ c.in-OutsideProfile.word) = subst (λ (w : List ℕ). Says c.outside_profile.result c.in-OutsideProfile.at (codes "outside profile: " ++ w)) c.text.ensures c.outside_profile.ensures in
    rejects side text _ _ _ (IsNoProgram.outside _ _ (known side text tokens _ _ t c.in-OutsideProfile.is (λ e. cc) h)) says

pub returns-in-BadSyntax : goal.returns-in-BadSyntax
returns-in-BadSyntax c side text tokens t h = rejects side text _ _ _ (IsNoProgram.bad_syntax _ (known side text tokens _ _ t c.in-BadSyntax.is (λ e. cc) h)) c.refuse-in-BadSyntax.ensures
