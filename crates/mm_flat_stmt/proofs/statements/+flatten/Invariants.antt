use Rattle.std.proofs.Common.{◌≡◌, length, take, drop}
use Rattle.mm_flow.specs.Statements.{body_code, declared}
use Rattle.mm_flow.specs.reading.Assembling.{doing, within}
use Rattle.mm_flat_stmt.specs.reading.Bodies.{Remains}
use Rattle.mm_flat_stmt.proofs.statements.+flatten.Given as goal

abbrev pub invariant-stmts-loop-s : goal.invariant-stmts-loop-s
invariant-stmts-loop-s l = record {
  remains : Remains l.context (doing l.context (body_code l.ss) l.fn.code) (doing l.context (body_code (drop l.s-index l.ss)) l.code) l.fn.code l.code;
  kept : take (length l.fn.code.known.names) l.code.known.names ≡ l.fn.code.known.names;
}

abbrev pub invariant-declare-loop-l : goal.invariant-declare-loop-l
invariant-declare-loop-l l = record {
  remains : Remains l.context (declared (within l.context) l.locals l.fn.code.known) (declared (within l.context) (drop l.l-index l.locals) l.code.known) l.fn.code l.code;
  kept : take (length l.fn.code.known.names) l.code.known.names ≡ l.fn.code.known.names;
}

abbrev pub decreases-value : goal.decreases-value
decreases-value l = l.room

abbrev pub decreases-call_value : goal.decreases-call_value
decreases-call_value l = l.room

abbrev pub decreases-call : goal.decreases-call
decreases-call l = l.room

abbrev pub decreases-inline : goal.decreases-inline
decreases-inline l = l.room

abbrev pub decreases-inline_with : goal.decreases-inline_with
decreases-inline_with l = l.room

abbrev pub decreases-stmts : goal.decreases-stmts
decreases-stmts l = l.room

abbrev pub decreases-inner : goal.decreases-inner
decreases-inner l = l.room

abbrev pub decreases-block : goal.decreases-block
decreases-block l = l.room

abbrev pub decreases-first_value : goal.decreases-first_value
decreases-first_value l = l.room

abbrev pub decreases-declare_one : goal.decreases-declare_one
decreases-declare_one l = l.room

abbrev pub decreases-declare : goal.decreases-declare
decreases-declare l = l.room

abbrev pub decreases-assign_target : goal.decreases-assign_target
decreases-assign_target l = l.room

abbrev pub decreases-assign : goal.decreases-assign
decreases-assign l = l.room

abbrev pub decreases-give_back : goal.decreases-give_back
decreases-give_back l = l.room

abbrev pub decreases-do_value : goal.decreases-do_value
decreases-do_value l = l.room

abbrev pub decreases-if_code : goal.decreases-if_code
decreases-if_code l = l.room

abbrev pub decreases-choice_code : goal.decreases-choice_code
decreases-choice_code l = l.room

abbrev pub decreases-if_or_choice : goal.decreases-if_or_choice
decreases-if_or_choice l = l.room

abbrev pub decreases-while_code : goal.decreases-while_code
decreases-while_code l = l.room

abbrev pub decreases-do_code : goal.decreases-do_code
decreases-do_code l = l.room

abbrev pub decreases-maybe : goal.decreases-maybe
decreases-maybe l = l.room

abbrev pub decreases-step : goal.decreases-step
decreases-step l = l.room

abbrev pub decreases-turns : goal.decreases-turns
decreases-turns l = l.room

abbrev pub decreases-for_code : goal.decreases-for_code
decreases-for_code l = l.room

abbrev pub decreases-label_code : goal.decreases-label_code
decreases-label_code l = l.room

abbrev pub decreases-stmt : goal.decreases-stmt
decreases-stmt l = l.room
