-- An accepted input that is read whole is answered to its end.
use Rattle.std.proofs.Common.{◌≡◌, ℕ, ◌≤◌, List, ◌∷◌, ◌++◌, length, take, drop, codes, Option, Some, None, IfSome, sym, ap, ◌∙◌, arith, subst, length-append, append-nil, append_assoc, option_and_then, IsUtf8}
use Rattle.std.specs.Io.KnownBytes.{Consumes, IsAtEnd}
use Rattle.std.specs.Str.{IsValidUpTo}
use Rattle.std.proofs.Math.Seq.{drop-append_seam, take-append_seam}
use Rattle.std.proofs.lemmas.Str.{utf8_valid_len-IsUtf8, utf8_valid_len-IsValidUpTo}
use Rattle.mm_goto.specs.declared.model.Model.{Model}
use Rattle.mm_goto.specs.Bounds.{Bounding}
use Rattle.mm_goto.specs.Listing.{Listing}
use Rattle.mm_sched.specs.declared.entry.Entry.{Entry}
use Rattle.mm_sched.specs.declared.entry.Rules.{Rules}
use Rattle.mm_sched.specs.declared.entry.Rules.TheVariants.{Sc, Buffered}
use Rattle.mm_sched.specs.State.{State, initial}
use Rattle.mm_sched.specs.Event.{next}
use Rattle.mm_sched.specs.Runs.{run}
use Rattle.mm_sched.specs.ScheduleText.{entries_in}
use Rattle.mm_sched.proofs.Joins.{run-append}
use Rattle.mm_sched.proofs.ReadingOn.{not_both, one_schedule}
use Rattle.mm_run.specs.declared.command.Settings.{Settings}
use Rattle.mm_run.specs.declared.command.Settings.TheVariants.{Instrument, Cycles, ReplaySc, Replay}
use Rattle.mm_run.specs.declared.status.Status.{Status}
use Rattle.mm_run.specs.Accepted.{HasParts, IsAccepted, IsRun}
use Rattle.mm_run.specs.Input.{IsTooLong}
use Rattle.mm_run.specs.Parts.{IsSplit}
use Rattle.mm_graph.specs.Graphs.{IsSmall}
use Rattle.mm_tree.specs.declared.side.Side.{Side}
use Rattle.mm_tree.specs.declared.side.Side.TheVariants.{Source}
use Rattle.mm_run.specs.Program.{IsProgramText, side_for}
use Rattle.mm_run.specs.Outcome.{IsStuckBehind, Outcome, TellsVerdict}
use Rattle.mm_run.specs.Answer.{AnswersInput, AnswersParts, AnswersProgram, AnswersText, AnswersWhole, IsTooLargeFor, PrintsWoven, Replays, ReportsCycles, Responds, IsDoneOrKept}
use Rattle.mm_run.proofs.Answering.{input_responds}
use Rattle.mm_run.proofs.Refused.{one_program, not_refused}

-- ---- what was read is the input

whole_is : (xs bytes : List ℕ) (new : Option (List ℕ)) → Consumes (Some xs) new bytes → IsAtEnd new → xs ≡ bytes
whole_is xs bytes None c e = absurd c
whole_is xs bytes (Some ys) c e = c ∙ ap (λ (zs : List ℕ). bytes ++ zs) e ∙ append-nil bytes

no_longer : (xs bytes : List ℕ) (new : Option (List ℕ)) → Consumes (Some xs) new bytes → length bytes ≤ length xs
no_longer xs bytes None c = absurd c
no_longer xs bytes (Some ys) c = omega (arith, ap length c, length-append bytes ys)

not_long : (xs : List ℕ) (new : Option (List ℕ)) → IsTooLong (Some xs) new → length xs ≤ 16777216 → ⊥
not_long xs new t l = omega (arith, t.long, no_longer xs t.bytes new t.read, l)

-- ---- its parts are determined

-- a text has no first byte that begins no character
pub is_text : (input : List ℕ) (n : ℕ) → IsUtf8 input → IsValidUpTo input n → ⊥
is_text input n u v = omega (arith, v.short, utf8_valid_len-IsUtf8 input u, utf8_valid_len-IsValidUpTo input n v)

module _ (input : List ℕ) (a b c d : List ℕ) (h : IsSplit input a c) (k : IsSplit input b d) where
  same_length : length a ≡ length b
  same_length = omega (arith, h.first (length b) k.parting, k.first (length a) h.parting)

  front : (x y : List ℕ) → IsSplit input x y → take (length x) input ≡ x
  front x y s = ap (λ (t : List ℕ). take (length x) t) (s.whole ∙ append_assoc x (codes "%%\n") y) ∙ take-append_seam x (codes "%%\n" ++ y)

  back : (x y : List ℕ) → IsSplit input x y → drop (length (x ++ codes "%%\n")) input ≡ y
  back x y s = ap (λ (t : List ℕ). drop (length (x ++ codes "%%\n")) t) s.whole ∙ drop-append_seam (x ++ codes "%%\n") y

  pub one_front : a ≡ b
  one_front = sym (front a c h) ∙ ap (λ n. take n input) same_length ∙ front b d k

  pub one_back : c ≡ d
  one_back = sym (back a c h) ∙ ap (λ (x : List ℕ). drop (length (x ++ codes "%%\n")) input) one_front ∙ back b d k

-- ---- the schedule is a run

pub no_other_end : (r : Rules) (p : Listing) (from last : State) (es : List Entry) (k : ℕ) → run r p from es ≡ Some last → IsStuckBehind r p from es k → ⊥
no_other_end r p from last es k e s =
    let parts : run r p from es ≡ option_and_then (λ mid. run r p mid (s.entry ∷ s.behind)) (run r p from s.before) = ap (λ (xs : List Entry). run r p from xs) s.parts ∙ run-append r p from s.before (s.entry ∷ s.behind) in
    let ahead : run r p from es ≡ option_and_then (λ mid. run r p mid s.behind) (next r p s.mid s.entry) = parts ∙ ap (λ (o : Option State). option_and_then (λ mid. run r p mid (s.entry ∷ s.behind)) o) s.runs in
    let none : run r p from es ≡ None = ahead ∙ ap (λ (o : Option State). option_and_then (λ mid. run r p mid s.behind) o) s.stuck in
    cc

module _ (side_of : List ℕ → Side) (r : Rules) (input : List ℕ) (h : IsRun side_of r input) where
  replayed : (p : Listing) (schedule : List ℕ) (status : Status) (out : List ℕ) → p ≡ h.listing → schedule ≡ h.schedule → Replays r p schedule status out → IsDoneOrKept status
  replayed p schedule status out same_program same_schedule (Outcome.ends lines last s e v) = told (entries_in lines) last status out v
    where
      told : (es : List Entry) (last : State) (status : Status) (out : List ℕ) → TellsVerdict es last status out → IsDoneOrKept status
      told es last status out TellsVerdict.verdict = tt
  replayed p schedule status out same_program same_schedule (Outcome.bad k s) = absurd (not_both h.schedule h.lines k h.fits (rw (sym same_schedule) s))
  replayed p schedule status out same_program same_schedule (Outcome.stuck lines k s e) =
      let same : lines ≡ h.lines = one_schedule h.schedule lines h.lines (rw (sym same_schedule) s) h.fits in
      absurd (no_other_end r h.listing (initial h.listing) h.last (entries_in h.lines) k h.runs (rw (sym same, sym same_program) e))

  parts : (status : Status) (out : List ℕ) → AnswersParts side_of (Replays r) input status out → IsDoneOrKept status
  parts status out (AnswersParts.one_part lacks) = absurd (lacks _ h.split.parting)
  parts status out (AnswersParts.refused program schedule s no_program) =
      let same : program ≡ h.program = one_front input program h.program schedule h.schedule s h.split in
      absurd (not_refused (side_of h.program) h.program h.listing h.accepted status out (rw (sym same) no_program))
  parts status out (AnswersParts.both program schedule p s small e) =
      let same : program ≡ h.program = one_front input program h.program schedule h.schedule s h.split in
      replayed p schedule status out (one_program (side_of h.program) h.program p h.listing (rw (sym same) small) h.accepted) (one_back input program h.program schedule h.schedule s h.split) e

-- ---- the program has a graph

pub not_too_large : (p : Listing) → IsSmall p → (status : Status) (out : List ℕ) → IsTooLargeFor p status out → ⊥
not_too_large p s status out (IsTooLargeFor.too_many_sites h) = omega (arith, s.sites, h)
not_too_large p s status out (IsTooLargeFor.too_many_cells h) = omega (arith, s.cells, h.1)

instrumented : (m : Model) (bound : Bounding) (input : List ℕ) (p : Listing) → IsProgramText Source input p → IsSmall p → (status : Status) (out : List ℕ) → AnswersProgram Source (PrintsWoven m bound) input status out → IsDoneOrKept status
instrumented m bound input p h s status out (AnswersProgram.refused r) = absurd (not_refused Source input p h status out r)
instrumented m bound input p h s status out (AnswersProgram.program q k w) = printed q status out w (subst IsSmall (one_program Source input p q h k) s)
  where
    printed : (q : Listing) (status : Status) (out : List ℕ) → PrintsWoven m bound q status out → IsSmall q → IsDoneOrKept status
    printed q status out (PrintsWoven.too_large n) s = absurd (not_too_large q s status out n)
    printed q status out (PrintsWoven.done i w r u) s = tt

analysed : (m : Model) (bound : Bounding) (input : List ℕ) (p : Listing) → IsProgramText Source input p → IsSmall p → (status : Status) (out : List ℕ) → AnswersProgram Source (ReportsCycles m bound) input status out → IsDoneOrKept status
analysed m bound input p h s status out (AnswersProgram.refused r) = absurd (not_refused Source input p h status out r)
analysed m bound input p h s status out (AnswersProgram.program q k w) = told q status out w (subst IsSmall (one_program Source input p q h k) s)
  where
    told : (q : Listing) (status : Status) (out : List ℕ) → ReportsCycles m bound q status out → IsSmall q → IsDoneOrKept status
    told q status out (ReportsCycles.too_large n) s = absurd (not_too_large q s status out n)
    told q status out (ReportsCycles.reported head i n r) s = tt

-- ---- the answer

done_text : (s : Settings) (input : List ℕ) (status : Status) (out : List ℕ) → HasParts s input → AnswersText s input status out → IsDoneOrKept status
done_text (Instrument m bound) input status out h a = instrumented m bound input h.0 h.1 h.2 status out a
done_text (Cycles m bound) input status out h a = analysed m bound input h.0 h.1 h.2 status out a
done_text ReplaySc input status out h a = parts (side_for Sc) Sc input h status out a
done_text (Replay m bound) input status out h a = parts (side_for (Buffered m bound)) (Buffered m bound) input h status out a

done_whole : (s : Settings) (input : List ℕ) (status : Status) (out : List ℕ) → IsAccepted s input → AnswersWhole s input status out → IsDoneOrKept status
done_whole s input status out h (AnswersWhole.no_text at n) = absurd (is_text input n.front h.text n.longest)
done_whole s input status out h (AnswersWhole.text u a) = done_text s input status out h.parts a

done : (s : Settings) (xs out : List ℕ) (new : Option (List ℕ)) (status : Status) → AnswersInput s (Some xs) new status out → IsAccepted s xs → length xs ≤ 16777216 → IsDoneOrKept status
done s xs out new status (AnswersInput.whole bytes w a) h l = let same : xs ≡ bytes = whole_is xs bytes new w.read w.end in done_whole s xs status out h (rw same a)
done s xs out new status (AnswersInput.too_long t) h l = absurd (not_long xs new t l)

-- where the words ask for one command alone
pub complete : (s o : Settings) (old new : Option (List ℕ)) (status : Status) (out : List ℕ) → s ≡ o → Responds s old new status out → IfSome old (λ text. IsAccepted o text → length text ≤ 16777216 → IsDoneOrKept status)
complete s o None new status out e r = tt
complete s o (Some xs) new status out e r = λ h l. done s xs out new status (input_responds s (Some xs) new status out r) (rw e h) l
