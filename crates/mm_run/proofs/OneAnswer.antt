-- An input has one answer.
use Rattle.std.proofs.Common.{◌≡◌, ℕ, List, take, codes, refl, sym, ◌∙◌, ap, subst}
use Rattle.std.specs.Str.{chars}
use Rattle.std.proofs.lemmas.Str.{utf8_valid_len-IsValidUpTo}
use Rattle.mm_goto.specs.declared.ident.At.{At}
use Rattle.mm_goto.specs.declared.model.Model.{Model}
use Rattle.mm_goto.specs.Bounds.{Bounding}
use Rattle.mm_tree.specs.declared.side.Side.{Side}
use Rattle.mm_tree.specs.declared.side.Side.TheVariants.{Source}
use Rattle.mm_print.specs.Items.{printed_text}
use Rattle.mm_instr.specs.Woven.{woven}
use Rattle.mm_planned.proofs.Unique.{one_plan}
use Rattle.mm_goto.specs.Listing.{Listing}
use Rattle.mm_goto.specs.Place.{place_after}
use Rattle.mm_sched.specs.declared.entry.Rules.{Rules}
use Rattle.mm_sched.specs.declared.entry.Rules.TheVariants.{Sc, Buffered}
use Rattle.mm_run.specs.declared.command.Settings.{Settings}
use Rattle.mm_run.specs.declared.command.Settings.TheVariants.{Instrument, Cycles, ReplaySc, Replay}
use Rattle.mm_run.specs.declared.status.Status.{Status}
use Rattle.mm_run.specs.Answer.{AnswersParts, AnswersProgram, AnswersText, AnswersWhole, PrintsWoven, ProgramAnswer, Refusing, Replays, ReportsCycles, ScheduleAnswer}
use Rattle.mm_run.specs.Lines.{refusal_line}
use Rattle.mm_run.specs.Parts.{IsNotUtf8, IsSplit}
use Rattle.mm_run.specs.Outcome.{TellsVerdict}
use Rattle.mm_run.specs.Program.{IsProgramText, side_for}
use Rattle.mm_run.proofs.Completing.{is_text, not_too_large, one_back, one_front}
use Rattle.mm_run.proofs.OneReport.{one_of_reports, one_too_large}
use Rattle.mm_run.proofs.Refused.{not_refused, one_program}
use Rattle.mm_run.proofs.OneAnswerCause.{one_refusing}
use Rattle.mm_run.proofs.OneAnswerSchedule.{HasOneAnswer, one_outcome}

-- the longest front that is UTF-8 is one
one_place : (input : List ℕ) (at place : At) → IsNotUtf8 input at → IsNotUtf8 input place → at ≡ place
one_place input at place h k =
    let same : h.front ≡ k.front = sym (utf8_valid_len-IsValidUpTo input h.front h.longest) ∙ utf8_valid_len-IsValidUpTo input k.front k.longest in
    h.place ∙ ap (λ n. place_after (chars (take n input))) same ∙ sym k.place

one_verdict : HasOneAnswer TellsVerdict
one_verdict es last a b out text TellsVerdict.verdict TellsVerdict.verdict = (refl, refl)

one_replay : (r : Rules) (p : Listing) (schedule : List ℕ) (a b : Status) (out text : List ℕ) → Replays r p schedule a out → Replays r p schedule b text → (a ≡ b) × (out ≡ text)
one_replay r p schedule = one_outcome r p schedule TellsVerdict one_verdict

-- a program has one woven program
one_woven : (m : Model) (bound : Bounding) (p : Listing) (a b : Status) (out text : List ℕ) → PrintsWoven m bound p a out → PrintsWoven m bound p b text → (a ≡ b) × (out ≡ text)
one_woven m bound p a b out text (PrintsWoven.too_large h) (PrintsWoven.too_large k) = one_too_large p a b out text h k
one_woven m bound p a b out text (PrintsWoven.too_large h) (PrintsWoven.done s w r u) = absurd (not_too_large p s a out h)
one_woven m bound p a b out text (PrintsWoven.done s w r u) (PrintsWoven.too_large k) = absurd (not_too_large p s b text k)
one_woven m bound p a b out text (PrintsWoven.done s v r u) (PrintsWoven.done t w z o) =
    let one = one_plan p m bound v.shape w.shape v.head w.head v.plan w.plan in
    (refl, v.text ∙ ap (λ shape. printed_text (woven p shape) v.head) one.0 ∙ ap (λ head. printed_text (woven p w.shape) head) one.1 ∙ sym w.text)

-- the program of an input is refused or has one listing
module _ (side : Side) (Gives : ProgramAnswer) (one : (p : Listing) (a b : Status) (out text : List ℕ) → Gives p a out → Gives p b text → (a ≡ b) × (out ≡ text)) (input : List ℕ) where
  one_of_program : (a b : Status) (out text : List ℕ) → AnswersProgram side Gives input a out → AnswersProgram side Gives input b text → (a ≡ b) × (out ≡ text)
  one_of_program a b out text (AnswersProgram.program p h u) (AnswersProgram.program q k v) =
      one p a b out text u (subst (λ (x : Listing). Gives x b text) (one_program side input q p k h) v)
  one_of_program a b out text (AnswersProgram.program p h u) (AnswersProgram.refused k) = absurd (not_refused side input p h b text k)
  one_of_program a b out text (AnswersProgram.refused h) (AnswersProgram.program q k v) = absurd (not_refused side input q k a out h)
  one_of_program a b out text (AnswersProgram.refused h) (AnswersProgram.refused k) = one_refusing side input a b out text h k

-- and the parts of an input are one program and one schedule
module _ (side_of : List ℕ → Side) (Gives : ScheduleAnswer) (one : (p : Listing) (schedule : List ℕ) (a b : Status) (out text : List ℕ) → Gives p schedule a out → Gives p schedule b text → (a ≡ b) × (out ≡ text)) (input : List ℕ) where
  one_way : (p q s t : List ℕ) (n : Listing) (status : Status) (out : List ℕ) → IsSplit input p s → IsSplit input q t → Refusing (side_of p) p status out → IsProgramText (side_of q) q n → ⊥
  one_way p q s t n status out h k u v = not_refused (side_of q) q n v status out (subst (λ (x : List ℕ). Refusing (side_of x) x status out) (one_front input p q s t h k) u)

  one_of_parts : (a b : Status) (out text : List ℕ) → AnswersParts side_of Gives input a out → AnswersParts side_of Gives input b text → (a ≡ b) × (out ≡ text)
  one_of_parts a b out text (AnswersParts.one_part h) (AnswersParts.one_part k) = (refl, refl)
  one_of_parts a b out text (AnswersParts.refused p s h u) (AnswersParts.refused q t k v) =
      one_refusing (side_of p) p a b out text u (subst (λ (x : List ℕ). Refusing (side_of x) x b text) (one_front input q p t s k h) v)
  one_of_parts a b out text (AnswersParts.both p s m h u e) (AnswersParts.both q t n k v f) =
      let listing : n ≡ m = one_program (side_of p) p n m (subst (λ (x : List ℕ). IsProgramText (side_of x) x n) (one_front input q p t s k h) v) u in
      one m s a b out text e (subst (λ (x : List ℕ). Gives m x b text) (one_back input q p t s k h) (subst (λ (x : Listing). Gives x t b text) listing f))
  one_of_parts a b out text (AnswersParts.one_part h) (AnswersParts.refused q t k v) = absurd (h _ k.parting)
  one_of_parts a b out text (AnswersParts.one_part h) (AnswersParts.both q t n k v f) = absurd (h _ k.parting)
  one_of_parts a b out text (AnswersParts.refused p s h u) (AnswersParts.one_part k) = absurd (k _ h.parting)
  one_of_parts a b out text (AnswersParts.refused p s h u) (AnswersParts.both q t n k v f) = absurd (one_way p q s t n a out h k u v)
  one_of_parts a b out text (AnswersParts.both p s m h u e) (AnswersParts.one_part k) = absurd (k _ h.parting)
  one_of_parts a b out text (AnswersParts.both p s m h u e) (AnswersParts.refused q t k v) = absurd (one_way q p t s m b text k h v u)

one_text : (s : Settings) (input : List ℕ) (a b : Status) (out text : List ℕ) → AnswersText s input a out → AnswersText s input b text → (a ≡ b) × (out ≡ text)
one_text (Instrument m bound) input a b out text h k = one_of_program Source (PrintsWoven m bound) (one_woven m bound) input a b out text h k
one_text (Cycles m bound) input a b out text h k = one_of_program Source (ReportsCycles m bound) (one_of_reports m bound) input a b out text h k
one_text ReplaySc input a b out text h k = one_of_parts (side_for Sc) (Replays Sc) (one_replay Sc) input a b out text h k
one_text (Replay m bound) input a b out text h k = one_of_parts (side_for (Buffered m bound)) (Replays (Buffered m bound)) (one_replay (Buffered m bound)) input a b out text h k

-- an input is a text or is none, and has one answer
pub one_answer : (s : Settings) (input : List ℕ) (a b : Status) (out text : List ℕ) → AnswersWhole s input a out → AnswersWhole s input b text → (a ≡ b) × (out ≡ text)
one_answer s input a b out text (AnswersWhole.no_text at h) (AnswersWhole.no_text place k) = (refl, ap (λ q. refusal_line q (codes "not UTF-8")) (one_place input at place h k))
one_answer s input a b out text (AnswersWhole.no_text at h) (AnswersWhole.text u k) = absurd (is_text input h.front u h.longest)
one_answer s input a b out text (AnswersWhole.text u h) (AnswersWhole.no_text place k) = absurd (is_text input k.front u k.longest)
one_answer s input a b out text (AnswersWhole.text u h) (AnswersWhole.text v k) = one_text s input a b out text h k
