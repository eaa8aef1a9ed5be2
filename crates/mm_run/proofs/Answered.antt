-- With which statuses a command answers.
use Rattle.std.proofs.Common.{◌≡◌, ℕ, List, Option, sym}
use Rattle.std.specs.Io.KnownBytes.{Appends}
use Rattle.mm_goto.specs.declared.model.Model.{Model}
use Rattle.mm_goto.specs.Bounds.{Bounding}
use Rattle.mm_goto.specs.Listing.{Listing}
use Rattle.mm_sched.specs.declared.entry.Entry.{Entry}
use Rattle.mm_sched.specs.declared.entry.Rules.{Rules}
use Rattle.mm_sched.specs.State.{State}
use Rattle.mm_sched.specs.ScheduleText.{entries_in}
use Rattle.mm_run.specs.declared.command.Settings.{Settings}
use Rattle.mm_run.specs.declared.command.Settings.TheVariants.{Instrument, Cycles, ReplaySc, Replay}
use Rattle.mm_run.specs.declared.status.Status.{Status}
use Rattle.mm_run.specs.declared.status.Status.TheVariants.{Done, Words, ReadFault, TooLong, Refused, BadSchedule, Stuck, NotFailing, WriteFault, NoMemory}
use Rattle.mm_tree.specs.declared.side.Side.{Side}
use Rattle.mm_tree.specs.declared.side.Side.TheVariants.{Source}
use Rattle.mm_run.specs.Program.{side_for}
use Rattle.mm_run.specs.Outcome.{Outcome, TellsVerdict}
use Rattle.mm_run.specs.Answer.{AnswersParts, AnswersProgram, AnswersText, AnswersWhole, IsTooLargeFor, PrintsWoven, Refusing, Replays, ReportsCycles, Responds, IsOfInput, Writes, BreaksOff, Ends}
use Rattle.mm_run.specs.Output.{AppendsPart}

-- ---- what is answered is of an input, where what a command gives at the end of its work is

of_refusal : (side : Side) (text : List ℕ) (status : Status) (out : List ℕ) → Refusing side text status out → IsOfInput status
of_refusal side text status out (Refusing.refused at why h) = tt

of_verdict : (es : List Entry) (last : State) (status : Status) (out : List ℕ) → TellsVerdict es last status out → IsOfInput status
of_verdict es last status out TellsVerdict.verdict = tt

of_replay : (r : Rules) (p : Listing) (schedule : List ℕ) (status : Status) (out : List ℕ) → Replays r p schedule status out → IsOfInput status
of_replay r p schedule status out (Outcome.bad k s) = tt
of_replay r p schedule status out (Outcome.stuck lines k s e) = tt
of_replay r p schedule status out (Outcome.ends lines last s e v) = of_verdict (entries_in lines) last status out v

of_parts : (r : Rules) (input : List ℕ) (status : Status) (out : List ℕ) → AnswersParts (side_for r) (Replays r) input status out → IsOfInput status
of_parts r input status out (AnswersParts.one_part l) = tt
of_parts r input status out (AnswersParts.refused program schedule s h) = of_refusal (side_for r program) program status out h
of_parts r input status out (AnswersParts.both program schedule p s m h) = of_replay r p schedule status out h

of_too_large : (p : Listing) (status : Status) (out : List ℕ) → IsTooLargeFor p status out → IsOfInput status
of_too_large p status out (IsTooLargeFor.too_many_sites h) = tt
of_too_large p status out (IsTooLargeFor.too_many_cells h) = tt

of_woven : (m : Model) (bound : Bounding) (p : Listing) (status : Status) (out : List ℕ) → PrintsWoven m bound p status out → IsOfInput status
of_woven m bound p status out (PrintsWoven.too_large h) = of_too_large p status out h
of_woven m bound p status out (PrintsWoven.done s w r u) = tt

of_instrument : (m : Model) (bound : Bounding) (input : List ℕ) (status : Status) (out : List ℕ) → AnswersProgram Source (PrintsWoven m bound) input status out → IsOfInput status
of_instrument m bound input status out (AnswersProgram.refused h) = of_refusal Source input status out h
of_instrument m bound input status out (AnswersProgram.program p h w) = of_woven m bound p status out w

of_report : (m : Model) (bound : Bounding) (p : Listing) (status : Status) (out : List ℕ) → ReportsCycles m bound p status out → IsOfInput status
of_report m bound p status out (ReportsCycles.too_large h) = of_too_large p status out h
of_report m bound p status out (ReportsCycles.reported head s h r) = tt

of_cycles : (m : Model) (bound : Bounding) (input : List ℕ) (status : Status) (out : List ℕ) → AnswersProgram Source (ReportsCycles m bound) input status out → IsOfInput status
of_cycles m bound input status out (AnswersProgram.refused h) = of_refusal Source input status out h
of_cycles m bound input status out (AnswersProgram.program p h r) = of_report m bound p status out r

of_text : (s : Settings) (input : List ℕ) (status : Status) (out : List ℕ) → AnswersText s input status out → IsOfInput status
of_text (Instrument m bound) input status out h = of_instrument m bound input status out h
of_text (Cycles m bound) input status out h = of_cycles m bound input status out h
of_text ReplaySc input status out h = of_parts _ input status out h
of_text (Replay m bound) input status out h = of_parts _ input status out h

pub of_whole : (s : Settings) (input : List ℕ) (status : Status) (out : List ℕ) → AnswersWhole s input status out → IsOfInput status
of_whole s input status out (AnswersWhole.no_text at n) = tt
of_whole s input status out (AnswersWhole.text u h) = of_text s input status out h

-- what is written whole is how the command ends
ends : (s : Settings) (old new taken now : Option (List ℕ)) (status : Status) → IsOfInput status → Writes s old new taken now status → Ends s old new taken now status
ends s old new taken now Done i w = w
ends s old new taken now Words i w = absurd i
ends s old new taken now ReadFault i w = absurd i
ends s old new taken now TooLong i w = w
ends s old new taken now Refused i w = w
ends s old new taken now BadSchedule i w = w
ends s old new taken now Stuck i w = w
ends s old new taken now NotFailing i w = w
ends s old new taken now WriteFault i w = absurd i
ends s old new taken now NoMemory i w = absurd i

-- so it is where the settings were read off the words
module _ (r s : Settings) (old new taken now : Option (List ℕ)) (status : Status) (out bytes : List ℕ) (same : r ≡ s) where
  pub ends_for : IsOfInput status → Responds r old new status out → bytes ≡ out → Appends taken now bytes → Ends s old new taken now status
  ends_for i h e w = ends s old new taken now status i (record { out = out; responds = rw (sym same) h; written = rw (sym e) w })

  pub breaks_off_for : Responds r old new status out → bytes ≡ out → AppendsPart taken now bytes → BreaksOff s old new taken now
  breaks_off_for h e w = record { status = status; out = out; responds = rw (sym same) h; written = rw (sym e) w }
