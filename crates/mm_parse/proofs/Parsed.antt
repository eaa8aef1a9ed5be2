-- What was read of a text's tokens, or is refused of them.
use Rattle.std.proofs.Common.{◌≡◌, ℕ, ◌+◌, ◌-◌, List, length, drop, arith, Some, None, refl, sym, ◌∙◌, ap, subst, length-append, map}
use Rattle.std.proofs.Math.Seq.{drop-append_seam}
use Rattle.mm_lexer.specs.declared.token.Token.{Token}
use Rattle.mm_tree.specs.declared.item.Tree.{Tree}
use Rattle.mm_tree.specs.declared.side.Side.{Side}
use Rattle.mm_reading.specs.declared.refused.Refused.{Refused}
use Rattle.mm_reading.specs.declared.refused.Refused.TheVariants as refused
use Rattle.mm_reading.specs.Gives.{left_at, Fails}
use Rattle.mm_reading.specs.Parsing.{Outcome, Parsed, Fault, rest_of}
use Rattle.mm_reading.specs.Runs.{IsFirstRefusal}
use Rattle.mm_parse_expr.specs.declared.terminal.Terminal.{Terminal}
use Rattle.mm_parse_expr.specs.declared.fault.ParseFault.{ParseFault}
use Rattle.mm_parse_expr.specs.Faults.{fault_at}
use Rattle.mm_parse_expr.specs.Terminals.{terminal_of}
use Rattle.mm_grammar.specs.Nesting.{deep_at}
use Rattle.mm_grammar.specs.ProgramGrammar.{IsProgram}
use Rattle.mm_grammar.specs.reading.ProgramReading.{program}
use Rattle.mm_parse.specs.Faults.{IsFault, no_program}
use Rattle.mm_parse.specs.reading.Whole.{IsFaultOf}
use Rattle.mm_grammar.proofs.ProgramRuns.{program_fault, program_whole}
use Rattle.mm_grammar.proofs.ProgramSound.{program_sound}

pub is_program : (ts : List Terminal) (tree : Tree) (n : ℕ) → program n ts ≡ Parsed tree (rest_of (program n ts)) → IsProgram ts tree
is_program ts tree n h =
    let whole = program_whole n ts (rest_of (program n ts)) tree h in
    program_sound n ts tree (h ∙ ap (λ rest. Parsed tree rest) whole)

pub no_program_at : (side : Side) (text : List ℕ) (tokens : List Token) (ts : List Terminal) (refused : Refused) (fault : ParseFault) → ts ≡ map (terminal_of text) tokens → deep_at side ts ≡ None → Fails refused (program (length ts + 1) ts) → IsFaultOf text ts refused fault → IsFault side text tokens fault
no_program_at side text tokens ts refused.Memory fault same shallow h is = absurd is
no_program_at side text tokens ts (refused.Fault left) fault same shallow h is = by (program (length ts + 1) ts) refl h
  where
    found : (rest : List Terminal) → IsFirstRefusal IsProgram ts rest → length rest ≡ left → fault ≡ fault_at text rest
    found rest r e =
        let n : length ts - left ≡ length r.run = omega (arith, length-append r.run rest, ap length r.is_longest.parts) in
        is ∙ ap (λ m. fault_at text (drop m ts)) n ∙ ap (λ us. fault_at text (drop (length r.run) us)) (sym r.is_longest.parts) ∙ ap (fault_at text) (drop-append_seam r.run rest)

    by : (o : Outcome Terminal Tree) → program (length ts + 1) ts ≡ o → left_at o ≡ Some left → IsFault side text tokens fault
    by (Parsed tree rest) e l = absurd (cc l)
    by (Fault rest) e l =
        let r = program_fault (length ts + 1) ts rest (omega arith) e in
        let there : fault ≡ fault_at text rest = found rest r (cc) in
        subst (λ (f : ParseFault). IsFault side text tokens f) (sym there) (no_program rest (ap (deep_at side) (sym same) ∙ shallow) (subst (λ (us : List Terminal). IsFirstRefusal IsProgram us rest) same r))
