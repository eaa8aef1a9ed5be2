use Rattle.mm_run.proofs.Answered.{ends_for, breaks_off_for}
use Rattle.mm_run.proofs.Completing.{complete}
use Rattle.mm_run.proofs.Wording.{one_command}
use Rattle.mm_run.proofs.top.run.Goals as goal

pub returns-in-Ok-write_output-clause-ends : goal.returns-in-Ok-write_output-clause-ends
returns-in-Ok-write_output-clause-ends g c s h =
    ends_for _ s _ _ _ _ _ _ _ (one_command _ _ s c.in-Some.ensures.some h) c.in-Ok.ensures.of_input c.in-Ok.ensures.responds c.as_bytes.ensures.value c.in-Ok-write_output.ensures.ok

pub returns-in-Ok-write_output-clause-complete : goal.returns-in-Ok-write_output-clause-complete
returns-in-Ok-write_output-clause-complete g c s h = complete _ s _ _ _ _ (one_command _ _ s c.in-Some.ensures.some h) c.in-Ok.ensures.responds

pub returns-in-Ok-clause-ends : goal.returns-in-Ok-clause-ends
returns-in-Ok-clause-ends g c s h =
    breaks_off_for _ s _ _ _ _ _ _ _ (one_command _ _ s c.in-Some.ensures.some h) c.in-Ok.ensures.responds c.as_bytes.ensures.value c.in-Err.ensures.part
