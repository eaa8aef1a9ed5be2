-- A refused text has one cause, which tells the place and the words.
use Rattle.std.proofs.Common.{◌≡◌, ℕ, List, [], ◌++◌, length, drop, codes, Option, Some, refl, sym, ◌∙◌, ap, subst, arith}
use Rattle.std.proofs.Math.Seq.{drop-append_seam}
use Rattle.mm_goto.specs.declared.ident.At.{At}
use Rattle.mm_goto.specs.Place.{start}
use Rattle.mm_lexer.specs.declared.token.Token.{Token}
use Rattle.mm_lexer.specs.declared.token.LexFault.{LexFault}
use Rattle.mm_lexer.specs.declared.token.LexFault.TheVariants as lex_fault
use Rattle.mm_lexer.specs.Tokens.{IsFirstFault}
use Rattle.mm_lexer.proofs.Unique.{fault_unique, tokens_or_fault, tokens_unique}
use Rattle.mm_reading.specs.Runs.{Language, IsLongestRun}
use Rattle.mm_tree.specs.declared.item.Tree.{Tree}
use Rattle.mm_tree.specs.declared.side.Side.{Side}
use Rattle.mm_parse_expr.specs.declared.fault.ParseFault.{ParseFault}
use Rattle.mm_parse_expr.specs.declared.fault.ParseFault.TheVariants as parse_fault
use Rattle.mm_parse_expr.specs.Faults.{fault_at}
use Rattle.mm_parse.specs.Faults.{IsFault}
use Rattle.mm_run.specs.declared.status.Status.{Status}
use Rattle.mm_run.specs.Answer.{Refusing}
use Rattle.mm_run.specs.Lines.{refusal_line}
use Rattle.mm_flow.specs.declared.fault.Limit.{Limit}
use Rattle.mm_flow.specs.Programs.{limit_passed}
use Rattle.mm_names.specs.declared.refusal.NameFault.{NameFault}
use Rattle.mm_names.specs.declared.refusal.NameFault.TheVariants as name_fault
use Rattle.mm_names.specs.Programs.{IsRefused as IsNameFault}
use Rattle.mm_names.proofs.Decided.{in_one_way}
use Rattle.mm_run.specs.Program.{HasFault, HasNameFault, IsNoProgram, PassesLimit, limit_words}
use Rattle.mm_run.proofs.Refused.{no_fault, no_parse_fault, no_name_fault, one_tree}

-- ---- the fault of the grammar is one

-- two longest runs have the same tokens behind them
one_rest : {T A : Type 0} (L : Language T A) (ts run rest other left : List T) → IsLongestRun L ts run rest → IsLongestRun L ts other left → rest ≡ left
one_rest {T = T} L ts run rest other left h k = sym (behind run rest h.parts) ∙ ap (λ n. drop n ts) same ∙ behind other left k.parts
  where
    same : length run ≡ length other
    same = omega (arith, h.longest other left k.parts k.begins, k.longest run rest h.parts h.begins)

    behind : (front back : List T) → front ++ back ≡ ts → drop (length front) ts ≡ back
    behind front back e = ap (λ us. drop (length front) us) (sym e) ∙ drop-append_seam front back

-- the tokens have one fault at most
one_fault : (side : Side) (text : List ℕ) (tokens : List Token) (a b : ParseFault) → IsFault side text tokens a → IsFault side text tokens b → a ≡ b
one_fault side text tokens a b (IsFault.too_deep at e) (IsFault.too_deep by f) = cc
one_fault side text tokens a b (IsFault.too_deep at e) (IsFault.no_program left f k) = cc
one_fault side text tokens a b (IsFault.no_program rest e h) (IsFault.too_deep by f) = cc
one_fault side text tokens a b (IsFault.no_program rest e h) (IsFault.no_program left f k) = ap (fault_at text) (one_rest _ _ h.run rest k.run left h.is_longest k.is_longest)

-- ---- causes

-- why a text is refused
data Cause : Type 0 where
  of_tokens : LexFault → Cause
  of_grammar : ParseFault → Cause
  of_names : NameFault → Cause
  of_limits : Limit → Cause

abbrev HasCause : Side → List ℕ → Cause → Type 0
HasCause side text (Cause.of_tokens fault) = IsFirstFault text fault
HasCause side text (Cause.of_grammar fault) = HasFault side text fault
HasCause side text (Cause.of_names fault) = HasNameFault side text fault
HasCause side text (Cause.of_limits limit) = PassesLimit side text limit

-- the place of a cause; want of memory refuses no text
abbrev place_of : Cause → At
place_of (Cause.of_tokens (lex_fault.BadToken at)) = at
place_of (Cause.of_tokens (lex_fault.NumberTooLarge at)) = at
place_of (Cause.of_tokens lex_fault.NoMemory) = start
place_of (Cause.of_grammar (parse_fault.TooDeep at)) = at
place_of (Cause.of_grammar (parse_fault.OutsideProfile word at)) = at
place_of (Cause.of_grammar (parse_fault.BadSyntax at)) = at
place_of (Cause.of_grammar parse_fault.NoMemory) = start
place_of (Cause.of_names (name_fault.NoMain at)) = at
place_of (Cause.of_names (name_fault.ReservedName at)) = at
place_of (Cause.of_names (name_fault.OutputOnly at)) = at
place_of (Cause.of_names (name_fault.TwiceDeclared at)) = at
place_of (Cause.of_names (name_fault.UnknownName at)) = at
place_of (Cause.of_names (name_fault.WrongType at)) = at
place_of (Cause.of_names (name_fault.BadThread at)) = at
place_of (Cause.of_names (name_fault.Recursion at)) = at
place_of (Cause.of_names name_fault.NoMemory) = start
place_of (Cause.of_limits limit) = start

-- and its words
abbrev words_of : Cause → List ℕ
words_of (Cause.of_tokens (lex_fault.BadToken at)) = codes "bad token"
words_of (Cause.of_tokens (lex_fault.NumberTooLarge at)) = codes "number too large"
words_of (Cause.of_tokens lex_fault.NoMemory) = []
words_of (Cause.of_grammar (parse_fault.TooDeep at)) = codes "too deep"
words_of (Cause.of_grammar (parse_fault.OutsideProfile word at)) = codes "outside profile: " ++ word
words_of (Cause.of_grammar (parse_fault.BadSyntax at)) = codes "bad syntax"
words_of (Cause.of_grammar parse_fault.NoMemory) = []
words_of (Cause.of_names (name_fault.NoMain at)) = codes "no main"
words_of (Cause.of_names (name_fault.ReservedName at)) = codes "reserved name"
words_of (Cause.of_names (name_fault.OutputOnly at)) = codes "output only"
words_of (Cause.of_names (name_fault.TwiceDeclared at)) = codes "declared twice"
words_of (Cause.of_names (name_fault.UnknownName at)) = codes "unknown name"
words_of (Cause.of_names (name_fault.WrongType at)) = codes "wrong type"
words_of (Cause.of_names (name_fault.BadThread at)) = codes "bad thread"
words_of (Cause.of_names (name_fault.Recursion at)) = codes "recursion"
words_of (Cause.of_names name_fault.NoMemory) = []
words_of (Cause.of_limits limit) = limit_words limit

-- a text has one fault of its names and types at most
one_name_fault : (side : Side) (text : List ℕ) (f g : NameFault) → HasNameFault side text f → HasNameFault side text g → f ≡ g
one_name_fault side text f g h k = in_one_way side k.tree f g (subst (λ (t : Tree). IsNameFault side t f) (one_tree side text h.tree k.tree h.read k.read) h.fails) k.fails

-- and passes one limit first
one_limit : (side : Side) (text : List ℕ) (f g : Limit) → PassesLimit side text f → PassesLimit side text g → f ≡ g
one_limit side text f g h k = same (subst (λ (t : Tree). limit_passed side t ≡ Some f) (one_tree side text h.tree k.tree h.read k.read) h.passed) k.passed
  where
    same : {o : Option Limit} → o ≡ Some f → o ≡ Some g → f ≡ g
    same e f = cc

-- a text has one cause at most
one_cause : (side : Side) (text : List ℕ) (a b : Cause) → HasCause side text a → HasCause side text b → a ≡ b
one_cause side text (Cause.of_tokens f) (Cause.of_tokens g) h k = ap Cause.of_tokens (fault_unique text f g h k)
one_cause side text (Cause.of_tokens f) (Cause.of_grammar g) h k = absurd (tokens_or_fault text k.tokens f k.cut h)
one_cause side text (Cause.of_tokens f) (Cause.of_names g) h k = absurd (no_fault side text k.tree k.read f h)
one_cause side text (Cause.of_grammar f) (Cause.of_tokens g) h k = absurd (tokens_or_fault text h.tokens g h.cut k)
one_cause side text (Cause.of_grammar f) (Cause.of_grammar g) h k = ap Cause.of_grammar (one_fault side text k.tokens f g (subst (λ (ts : List Token). IsFault side text ts f) (tokens_unique text h.tokens k.tokens h.cut k.cut) h.fails) k.fails)
one_cause side text (Cause.of_grammar f) (Cause.of_names g) h k = absurd (no_parse_fault side text k.tree k.read f h)
one_cause side text (Cause.of_names f) (Cause.of_tokens g) h k = absurd (no_fault side text h.tree h.read g k)
one_cause side text (Cause.of_names f) (Cause.of_grammar g) h k = absurd (no_parse_fault side text h.tree h.read g k)
one_cause side text (Cause.of_names f) (Cause.of_names g) h k = ap Cause.of_names (one_name_fault side text f g h k)
one_cause side text (Cause.of_tokens f) (Cause.of_limits g) h k = absurd (no_fault side text k.tree k.read f h)
one_cause side text (Cause.of_grammar f) (Cause.of_limits g) h k = absurd (no_parse_fault side text k.tree k.read f h)
one_cause side text (Cause.of_names f) (Cause.of_limits g) h k = absurd (no_name_fault side text k.tree k.read k.sense f h)
one_cause side text (Cause.of_limits f) (Cause.of_tokens g) h k = absurd (no_fault side text h.tree h.read g k)
one_cause side text (Cause.of_limits f) (Cause.of_grammar g) h k = absurd (no_parse_fault side text h.tree h.read g k)
one_cause side text (Cause.of_limits f) (Cause.of_names g) h k = absurd (no_name_fault side text h.tree h.read h.sense g k)
one_cause side text (Cause.of_limits f) (Cause.of_limits g) h k = ap Cause.of_limits (one_limit side text f g h k)

-- ---- refusals

-- the cause of a refusal
record Caused (side : Side) (text : List ℕ) (at : At) (why : List ℕ) : Type 0 where
  cause : Cause
  has : HasCause side text cause
  place : at ≡ place_of cause
  words : why ≡ words_of cause

caused : (side : Side) (text : List ℕ) (at : At) (why : List ℕ) → IsNoProgram side text at why → Caused side text at why
caused side text at why (IsNoProgram.bad_token q f) = record { cause = Cause.of_tokens (lex_fault.BadToken q); has = f; place = refl; words = refl }
caused side text at why (IsNoProgram.large_number q f) = record { cause = Cause.of_tokens (lex_fault.NumberTooLarge q); has = f; place = refl; words = refl }
caused side text at why (IsNoProgram.too_deep q f) = record { cause = Cause.of_grammar (parse_fault.TooDeep q); has = f; place = refl; words = refl }
caused side text at why (IsNoProgram.outside word q f) = record { cause = Cause.of_grammar (parse_fault.OutsideProfile word q); has = f; place = refl; words = refl }
caused side text at why (IsNoProgram.bad_syntax q f) = record { cause = Cause.of_grammar (parse_fault.BadSyntax q); has = f; place = refl; words = refl }
caused side text at why (IsNoProgram.no_main q f) = record { cause = Cause.of_names (name_fault.NoMain q); has = f; place = refl; words = refl }
caused side text at why (IsNoProgram.reserved q f) = record { cause = Cause.of_names (name_fault.ReservedName q); has = f; place = refl; words = refl }
caused side text at why (IsNoProgram.output_only q f) = record { cause = Cause.of_names (name_fault.OutputOnly q); has = f; place = refl; words = refl }
caused side text at why (IsNoProgram.twice q f) = record { cause = Cause.of_names (name_fault.TwiceDeclared q); has = f; place = refl; words = refl }
caused side text at why (IsNoProgram.unknown q f) = record { cause = Cause.of_names (name_fault.UnknownName q); has = f; place = refl; words = refl }
caused side text at why (IsNoProgram.wrong_type q f) = record { cause = Cause.of_names (name_fault.WrongType q); has = f; place = refl; words = refl }
caused side text at why (IsNoProgram.bad_thread q f) = record { cause = Cause.of_names (name_fault.BadThread q); has = f; place = refl; words = refl }
caused side text at why (IsNoProgram.recursion q f) = record { cause = Cause.of_names (name_fault.Recursion q); has = f; place = refl; words = refl }
caused side text at why (IsNoProgram.too_many limit f) = record { cause = Cause.of_limits limit; has = f; place = refl; words = refl }

-- a refusal has one place and one reason
one_refusal : (side : Side) (text : List ℕ) (at place : At) (why words : List ℕ) → IsNoProgram side text at why → IsNoProgram side text place words → (at ≡ place) × (why ≡ words)
one_refusal side text at place why words h k =
    let a = caused side text at why h in
    let b = caused side text place words k in
    let same = one_cause side text a.cause b.cause a.has b.has in
    (a.place ∙ ap place_of same ∙ sym b.place, a.words ∙ ap words_of same ∙ sym b.words)

-- and so one status and one output
pub one_refusing : (side : Side) (input : List ℕ) (a b : Status) (out text : List ℕ) → Refusing side input a out → Refusing side input b text → (a ≡ b) × (out ≡ text)
one_refusing side input a b out text (Refusing.refused at why h) (Refusing.refused place words k) =
    let same = one_refusal side input at place why words h k in
    (refl, ap (λ q. refusal_line q why) same.0 ∙ ap (refusal_line place) same.1)
