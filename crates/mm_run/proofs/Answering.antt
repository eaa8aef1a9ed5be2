-- What is answered to what was read.
use Rattle.std.proofs.Common.{◌≡◌, sym, ℕ, List, codes, Option, IsUtf8, Result, Ok, Err, IfOk, IfErr, IsErr, IsErrAnd, subst}
use Rattle.std.specs.Str.{chars}
use Rattle.mm_goto.specs.declared.ident.At.{At}
use Rattle.mm_goto.specs.Listing.{Listing}
use Rattle.mm_goto.specs.Place.{place_after, start}
use Rattle.mm_graph.specs.declared.fault.GraphFault.{GraphFault}
use Rattle.mm_graph.specs.declared.fault.GraphFault.TheVariants.{TooManySites, TooManyCells}
use Rattle.mm_graph.specs.Refusals.{IsRefused as IsTooLarge}
use Rattle.mm_sched.specs.declared.entry.Rules.{Rules}
use Rattle.mm_run.specs.declared.command.Settings.{Settings}
use Rattle.mm_run.specs.declared.command.Settings.TheVariants.{Instrument, Cycles, ReplaySc, Replay}
use Rattle.mm_run.specs.declared.status.Status.{Status}
use Rattle.mm_run.specs.declared.status.Status.TheVariants.{Refused, TooLong}
use Rattle.mm_run.specs.Input.{IsWhole, IsTooLong}
use Rattle.mm_run.specs.Lines.{refusal_line}
use Rattle.mm_run.specs.Parts.{IsNotUtf8, LacksPart}
use Rattle.mm_run.specs.Program.{side_for}
use Rattle.mm_run.specs.Answer.{AnswersInput, AnswersParts, AnswersText, AnswersWhole, IsTooLargeFor, Replays, Responds}

pub if_ok : {A E : Type 0} (P Q : A → Type 0) (r : Result A E) → IfOk r P → ((a : A) → P a → Q a) → IfOk r Q
if_ok P Q (Ok a) h f = f a h
if_ok P Q (Err e) h f = tt

-- an error that is passed on is the same
pub passed_err : {A E : Type 0} (P : E → Type 0) (r : Result A E) (x : E) → IsErr r × IsErrAnd r (λ e. e ≡ x) → P x → IfErr r P
passed_err P (Ok a) x h p = tt
passed_err P (Err e) x h p = subst P (sym h.1) p

-- what a command gives once it has read its input
pub responds_input : (s : Settings) (old new : Option (List ℕ)) (status : Status) (out : List ℕ) → AnswersInput s old new status out → Responds s old new status out
responds_input (Instrument m bound) old new status out h = h
responds_input (Cycles m bound) old new status out h = h
responds_input ReplaySc old new status out h = h
responds_input (Replay m bound) old new status out h = h

pub input_responds : (s : Settings) (old new : Option (List ℕ)) (status : Status) (out : List ℕ) → Responds s old new status out → AnswersInput s old new status out
input_responds (Instrument m bound) old new status out h = h
input_responds (Cycles m bound) old new status out h = h
input_responds ReplaySc old new status out h = h
input_responds (Replay m bound) old new status out h = h

module _ (status : Status) (out : List ℕ) where
  pub sites_told : (p : Listing) (fault : GraphFault) (at : At) → fault ≡ TooManySites → at ≡ start → status ≡ Refused → out ≡ refusal_line at (codes "too many sites") → IsTooLarge p fault → IsTooLargeFor p status out
  sites_told p fault at f e s o h = rw (s, o, e) (IsTooLargeFor.too_many_sites (subst (IsTooLarge p) f h))

  pub cells_told : (p : Listing) (fault : GraphFault) (at : At) → fault ≡ TooManyCells → at ≡ start → status ≡ Refused → out ≡ refusal_line at (codes "too many shared cells") → IsTooLarge p fault → IsTooLargeFor p status out
  cells_told p fault at f e s o h = rw (s, o, e) (IsTooLargeFor.too_many_cells (subst (IsTooLarge p) f h))

  pub no_text : (s : Settings) (input : List ℕ) (at : At) → IsNotUtf8 input at → status ≡ Refused → out ≡ refusal_line at (codes "not UTF-8") → AnswersWhole s input status out
  no_text s input at h t o = rw (t, o) (AnswersWhole.no_text at h)

  pub has_text : (s : Settings) (input text : List ℕ) → IsUtf8 input → text ≡ input → AnswersText s text status out → AnswersWhole s input status out
  has_text s input text u e h = AnswersWhole.text u (rw (sym e) h)

  pub one_part : (r : Rules) (input : List ℕ) → LacksPart input → status ≡ Refused → out ≡ refusal_line (place_after (chars input)) (codes "missing part") → AnswersParts (side_for r) (Replays r) input status out
  one_part r input h s o = rw (s, o) (AnswersParts.one_part h)

  pub responds_whole : (s : Settings) (old new : Option (List ℕ)) (bytes read : List ℕ) → IsWhole old new bytes → read ≡ bytes → AnswersWhole s read status out → Responds s old new status out
  responds_whole s old new bytes read w e a = responds_input s old new status out (AnswersInput.whole bytes w (rw e at a))

  pub responds_long : (s : Settings) (old new : Option (List ℕ)) → IsTooLong old new → status ≡ TooLong → out ≡ codes "too long\n" → Responds s old new status out
  responds_long s old new w e f = rw (e, f) (responds_input s old new TooLong (codes "too long\n") (AnswersInput.too_long w))
