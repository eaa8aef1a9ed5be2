use Rattle.mm_run.specs.Program.{IsNoProgram}
use Rattle.mm_run.proofs.Refused.{rejects, lexed}
use Rattle.mm_run.proofs.program.unlexed.Goals as goal

pub returns-in-BadToken : goal.returns-in-BadToken
returns-in-BadToken c side text h = rejects side text _ _ _ (IsNoProgram.bad_token _ (lexed text _ _ c.in-BadToken.is (λ e. cc) h)) c.refuse.ensures

pub returns-in-NumberTooLarge : goal.returns-in-NumberTooLarge
returns-in-NumberTooLarge c side text h = rejects side text _ _ _ (IsNoProgram.large_number _ (lexed text _ _ c.in-NumberTooLarge.is (λ e. cc) h)) c.refuse-in-NumberTooLarge.ensures
