use Rattle.std.proofs.Common.{◌≡◌, ℕ, ◌+◌, List, string_bytes}
use Rattle.mm_sched.specs.ScheduleText.{IsSchedule}
use Rattle.mm_run.specs.declared.answer.Answer.{Answer}
use Rattle.mm_run.specs.declared.status.Status.TheVariants.{Done, Stuck}
use Rattle.mm_run.specs.Lines.{stuck_line, verdict_line}
use Rattle.mm_run.specs.Answer.{Replays}
use Rattle.mm_run.proofs.Answering.{if_ok}
use Rattle.mm_run.proofs.Replaying.{replay_ends, replay_sticks}
use Rattle.mm_run.proofs.replay.replay.Goals as goal

pub returns-in-Ok : goal.returns-in-Ok
returns-in-Ok g c =
    let gives : (a : Answer) → (a.status ≡ Done) × (string_bytes a.output ≡ verdict_line c.verdict.result) → (text : List ℕ) → IsSchedule text c.args.lines.now → Replays (g.M.Machine.rules c.args.machine.now) (g.M.Machine.program c.args.machine.now) text a.status (string_bytes a.output)
    = λ a h text fits. replay_ends _ _ _ c.requires.start _ _ _ text fits _ _ c.in-Ok.ensures.taken c.verdict.ensures h.0 h.1 in
    if_ok _ _ _ c.ended.ensures gives

pub returns-in-Err : goal.returns-in-Err
returns-in-Err g c =
    let gives : (a : Answer) → (a.status ≡ Stuck) × (string_bytes a.output ≡ stuck_line (c.in-Err.taken + 1)) → (text : List ℕ) → IsSchedule text c.args.lines.now → Replays (g.M.Machine.rules c.args.machine.now) (g.M.Machine.program c.args.machine.now) text a.status (string_bytes a.output)
    = λ a h text fits. replay_sticks _ _ _ c.requires.start _ _ _ text fits _ c.in-Err.ensures.taken h.0 h.1 in
    if_ok _ _ _ c.stuck.ensures gives
