use Rattle.std.proofs.Common.{◌≡◌, List, ℕ, string_bytes, subst}
use Rattle.mm_goto.specs.Listing.{Listing}
use Rattle.mm_sched.specs.declared.entry.Rules.{Rules}
use Rattle.mm_sched.specs.ScheduleText.{IsBadLine, IsFault}
use Rattle.mm_run.specs.declared.answer.Answer.{Answer}
use Rattle.mm_run.specs.declared.status.Status.TheVariants.{BadSchedule}
use Rattle.mm_run.specs.Lines.{bad_line}
use Rattle.mm_run.specs.Answer.{Replays}
use Rattle.mm_run.proofs.Answering.{if_ok}
use Rattle.mm_run.proofs.Replaying.{is_bad}
use Rattle.mm_run.proofs.replay.unread.Goals as goal

pub returns-in-BadLine : goal.returns-in-BadLine
returns-in-BadLine c =
    let gives : (a : Answer) → (a.status ≡ BadSchedule) × (string_bytes a.output ≡ bad_line c.in-BadLine.line) → (r : Rules) (p : Listing) (text : List ℕ) → IsFault text c.args.fault → Replays r p text a.status (string_bytes a.output)
    = λ a h r p text b. let bad : IsBadLine text c.in-BadLine.line = subst (IsFault text) c.in-BadLine.is b in is_bad _ _ _ _ _ _ bad h.0 h.1 in
    if_ok _ _ _ c.bad_schedule.ensures gives
