use Rattle.mm_run.specs.Program.{IsNoProgram}
use Rattle.mm_run.proofs.Refused.{rejects, sensed}
use Rattle.mm_run.proofs.program.senseless.Goals as goal

pub returns-in-NoMain : goal.returns-in-NoMain
returns-in-NoMain c side text tree t h = rejects side text _ _ _ (IsNoProgram.no_main _ (sensed side text tree _ _ t c.in-NoMain.is (λ e. cc) h)) c.refuse.ensures

pub returns-in-ReservedName : goal.returns-in-ReservedName
returns-in-ReservedName c side text tree t h = rejects side text _ _ _ (IsNoProgram.reserved _ (sensed side text tree _ _ t c.in-ReservedName.is (λ e. cc) h)) c.refuse-in-ReservedName.ensures

pub returns-in-OutputOnly : goal.returns-in-OutputOnly
returns-in-OutputOnly c side text tree t h = rejects side text _ _ _ (IsNoProgram.output_only _ (sensed side text tree _ _ t c.in-OutputOnly.is (λ e. cc) h)) c.refuse-in-OutputOnly.ensures

pub returns-in-TwiceDeclared : goal.returns-in-TwiceDeclared
returns-in-TwiceDeclared c side text tree t h = rejects side text _ _ _ (IsNoProgram.twice _ (sensed side text tree _ _ t c.in-TwiceDeclared.is (λ e. cc) h)) c.refuse-in-TwiceDeclared.ensures

pub returns-in-UnknownName : goal.returns-in-UnknownName
returns-in-UnknownName c side text tree t h = rejects side text _ _ _ (IsNoProgram.unknown _ (sensed side text tree _ _ t c.in-UnknownName.is (λ e. cc) h)) c.refuse-in-UnknownName.ensures

pub returns-in-WrongType : goal.returns-in-WrongType
returns-in-WrongType c side text tree t h = rejects side text _ _ _ (IsNoProgram.wrong_type _ (sensed side text tree _ _ t c.in-WrongType.is (λ e. cc) h)) c.refuse-in-WrongType.ensures

pub returns-in-BadThread : goal.returns-in-BadThread
returns-in-BadThread c side text tree t h = rejects side text _ _ _ (IsNoProgram.bad_thread _ (sensed side text tree _ _ t c.in-BadThread.is (λ e. cc) h)) c.refuse-in-BadThread.ensures

pub returns-in-Recursion : goal.returns-in-Recursion
returns-in-Recursion c side text tree t h = rejects side text _ _ _ (IsNoProgram.recursion _ (sensed side text tree _ _ t c.in-Recursion.is (λ e. cc) h)) c.refuse-in-Recursion.ensures
