use Rattle.std.proofs.Common.{◌≡◌, Some, Err, rules}
use Rattle.mm_sched.specs.declared.schedule.SchedFault.TheVariants.{NoMemory}
use Rattle.mm_sched.specs.ScheduleText.{newline}
use Rattle.mm_sched.specs.reading.Reading.{cut, next}
use Rattle.mm_sched.proofs.Cutting.{cut_in}
use Rattle.mm_sched.proofs.InTime.{in_time}
use Rattle.mm_sched.proofs.ReadingLoop.{line_passed, line_refused, line_wanted, wants_memory, text_broken, behind_shorter}
use Rattle.mm_sched.proofs.read.read_text.Goals as goal

pub returns-in_default-next : goal.returns-in_default-next
returns-in_default-next c =
    let is : cut newline c.loop-line.rest.now ≡ Some (cut_in c.in-Some.line.now c.in-Some.behind.now) = c.in-Some.ensures in
    line_refused c.loop-line.lines.items c.loop-line.stage c.loop-line.number c.loop-line.rest.now (cut_in c.in-Some.line.now c.in-Some.behind.now) _ is (cc) c.loop-line.invariant.0

pub loop-line-smaller : goal.loop-line-smaller
loop-line-smaller c = behind_shorter c.loop-line.rest.now (cut_in c.in-Some.line.now c.in-Some.behind.now) c.in-Some.ensures

pub loop-line-preserved : goal.loop-line-preserved
loop-line-preserved c =
    let fits : next c.loop-line.stage c.in-Some.line.now ≡ Some c.in-Some-next.passed = cc in (
      rw c.in_ok-put.ensures.ok (line_passed c.loop-line.lines.items c.loop-line.stage c.loop-line.number c.loop-line.rest.now (cut_in c.in-Some.line.now c.in-Some.behind.now) c.in-Some-next.passed _ c.in-Some.ensures fits c.loop-line.invariant.0),
      in_time c.loop-line.stage c.in-Some.line.now c.in-Some-next.passed c.loop-line.number c.loop-line.invariant.1 fits,
      search rules,
    )

pub returns-else-is_ended : goal.returns-else-is_ended
returns-else-is_ended c = text_broken c.loop-line.lines.items c.loop-line.stage c.loop-line.number c.loop-line.rest.now _ c.in_default.ensures (cc) c.loop-line.invariant.0

pub returns-in_err-put : goal.returns-in_err-put
returns-in_err-put c =
    let fits : next c.loop-line.stage c.in-Some.line.now ≡ Some c.in-Some-next.passed = cc in
    let e : c.from_residual.result ≡ Err NoMemory = wants_memory c.from_residual.result c.in_err-put.field-0.0 c.from_residual.ensures.1 c.in_err-put.ensures.no_memory in
    line_wanted (λ lines. lines.items) c.loop-line.lines.items c.loop-line.stage c.loop-line.number c.loop-line.rest.now (cut_in c.in-Some.line.now c.in-Some.behind.now) c.in-Some-next.passed _ c.from_residual.result c.in-Some.ensures fits c.in_err-put.ensures.kept c.loop-line.invariant.1 c.loop-line.invariant.0 e
