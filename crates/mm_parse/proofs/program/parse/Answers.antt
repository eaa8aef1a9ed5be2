use Rattle.std.proofs.Common.{◌≡◌, ◌+◌, ◌∙◌, List, length, ap, sym, subst, map, None}
use Rattle.mm_lexer.proofs.Spans.{all_spans}
use Rattle.mm_parse_expr.specs.declared.terminal.Terminal.{Terminal}
use Rattle.mm_parse_expr.specs.Terminals.{terminal_of}
use Rattle.mm_parse.specs.Faults.{too_deep}
use Rattle.mm_grammar.specs.Nesting.{deep_at}
use Rattle.mm_grammar.specs.ProgramGrammar.{IsProgram}
use Rattle.mm_parse.proofs.Parsed.{is_program, no_program_at}
use Rattle.mm_parse.proofs.program.parse.Goals as goal

pub terminals-requires : goal.terminals-requires
terminals-requires c = all_spans c.args.text.now c.args.tokens.now c.utf8.text c.requires.tokens

pub returns-in-Some-clause-fault : goal.returns-in-Some-clause-fault
returns-in-Some-clause-fault c = λ ne.
    let same : c.as_slice-all.result.now ≡ map (terminal_of c.args.text.now) c.args.tokens.now = c.as_slice-all.ensures.value ∙ c.in_ok-terminals.ensures in
    too_deep c.in-Some.at (ap (deep_at c.args.side) (sym same) ∙ sym c.in-Some.ensures)

pub returns-in-Ok-clause-tree : goal.returns-in-Ok-clause-tree
returns-in-Ok-clause-tree c =
    let ts = c.as_slice-all.result.now in
    let same : ts ≡ map (terminal_of c.args.text.now) c.args.tokens.now = c.as_slice-all.ensures.value ∙ c.in_ok-terminals.ensures in
    let shallow : deep_at c.args.side ts ≡ None = sym c.deep_at.ensures ∙ c.in_default.is in
    record {
      shallow = ap (deep_at c.args.side) (sym same) ∙ shallow;
      program = subst (λ (us : List Terminal). IsProgram us c.in-Ok.tree) same (is_program ts c.in-Ok.tree (length ts + 1) c.in-Ok.ensures);
    }

pub returns-clause-fault : goal.returns-clause-fault
returns-clause-fault c = λ ne.
    let ts = c.as_slice-all.result.now in
    let same : ts ≡ map (terminal_of c.args.text.now) c.args.tokens.now = c.as_slice-all.ensures.value ∙ c.in_ok-terminals.ensures in
    let shallow : deep_at c.args.side ts ≡ None = sym c.deep_at.ensures ∙ c.in_default.is in
    no_program_at c.args.side c.args.text.now c.args.tokens.now ts c.in-Err.refused c.fault_of.result same shallow c.in-Err.ensures (c.fault_of.ensures ne)
