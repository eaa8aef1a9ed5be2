-- What the grammar of statements reads is some terminals.
use Rattle.std.proofs.Common.{◌<◌, ◌≤◌, Bool, List, length, arith, Option}
use Rattle.mm_tree.specs.declared.expr.Expr.{Expr}
use Rattle.mm_tree.specs.declared.expr.Word.{Word}
use Rattle.mm_tree.specs.declared.stmt.Left.{Left}
use Rattle.mm_tree.specs.declared.stmt.Local.{Local}
use Rattle.mm_tree.specs.declared.stmt.Stmt.{Stmt}
use Rattle.mm_tree.specs.declared.stmt.StmtNode.{StmtNode}
use Rattle.mm_tree.specs.declared.stmt.Value.{Value}
use Rattle.mm_parse_expr.specs.declared.terminal.Terminal.{Terminal}
use Rattle.mm_parse_expr.proofs.ExprComplete.{expr_shorter, unary_shorter}
use Rattle.mm_grammar.specs.StatementGrammar as g
use Rattle.mm_grammar.specs.StatementGrammar.{IsLeft, IsArguments, IsCall, IsValue, IsAssign, IsNull, IsAction, AreNames, IsStar, IsLocal, AreLocals, IsDeclaration, IsStep, IsFirst, IsCondition, IsGiven, IsStmt, IsStmtNode, IsBody}

pub left_shorter : {ts : List Terminal} {l : Left} {rest : List Terminal} → IsLeft ts l rest → length rest < length ts
left_shorter g.name = omega arith
left_shorter (g.element d) = omega (arith, expr_shorter d)
left_shorter (g.pointee d) = omega (arith, unary_shorter d)
left_shorter (g.group d) = omega (arith, left_shorter d)

pub arguments_shorter : {ts : List Terminal} {es : List Expr} {rest : List Terminal} → IsArguments ts es rest → length rest < length ts
arguments_shorter (g.last_argument d) = expr_shorter d
arguments_shorter (g.more_arguments d m) = omega (arith, expr_shorter d, arguments_shorter m)

pub call_shorter : {ts : List Terminal} {v : Value} {rest : List Terminal} → IsCall ts v rest → length rest < length ts
call_shorter g.bare_call = omega arith
call_shorter (g.full_call d) = omega (arith, arguments_shorter d)
call_shorter (g.fetch_add d f) = omega (arith, expr_shorter d, expr_shorter f)
call_shorter (g.compare_swap d f h) = omega (arith, expr_shorter d, expr_shorter f, expr_shorter h)

pub value_shorter : {ts : List Terminal} {v : Value} {rest : List Terminal} → IsValue ts v rest → length rest < length ts
value_shorter (g.plain d) = expr_shorter d
value_shorter (g.called d) = call_shorter d

pub assign_shorter : {ts : List Terminal} {m : StmtNode} {rest : List Terminal} → IsAssign ts m rest → length rest < length ts
assign_shorter (g.assign d f) = omega (arith, left_shorter d, value_shorter f)
assign_shorter (g.update d f) = omega (arith, left_shorter d, expr_shorter f)
assign_shorter (g.increment d) = omega (arith, left_shorter d)
assign_shorter (g.decrement d) = omega (arith, left_shorter d)
assign_shorter (g.increment_before d) = omega (arith, left_shorter d)
assign_shorter (g.decrement_before d) = omega (arith, left_shorter d)

pub null_shorter : {ts rest : List Terminal} → IsNull ts rest → length rest < length ts
null_shorter g.null_word = omega arith
null_shorter g.null_number = omega arith

pub action_shorter : {ts : List Terminal} {m : StmtNode} {rest : List Terminal} → IsAction ts m rest → length rest < length ts
action_shorter (g.effect d) = call_shorter d
action_shorter (g.assert d) = omega (arith, expr_shorter d)
action_shorter (g.named_assert d) = omega (arith, expr_shorter d)
action_shorter (g.assume d) = omega (arith, expr_shorter d)
action_shorter g.fence = omega arith
action_shorter g.lock = omega arith
action_shorter g.unlock = omega arith
action_shorter (g.start d f) = omega (arith, null_shorter d, null_shorter f)
action_shorter (g.join d) = omega (arith, null_shorter d)
action_shorter g.atom_begin = omega arith
action_shorter g.atom_end = omega arith

pub names_shorter : {ts : List Terminal} {ws : List Word} {rest : List Terminal} → AreNames ts ws rest → length rest < length ts
names_shorter g.last_name = omega arith
names_shorter (g.more_names m) = omega (arith, names_shorter m)

pub star_shorter : {ts : List Terminal} {b : Bool} {rest : List Terminal} → IsStar ts b rest → length rest ≤ length ts
star_shorter g.no_star = omega arith
star_shorter g.star = omega arith

pub local_shorter : {ts : List Terminal} {l : Local} {rest : List Terminal} → IsLocal ts l rest → length rest < length ts
local_shorter (g.bare_local d) = omega (arith, star_shorter d)
local_shorter (g.set_local d f) = omega (arith, star_shorter d, value_shorter f)

pub locals_shorter : {ts : List Terminal} {ls : List Local} {rest : List Terminal} → AreLocals ts ls rest → length rest < length ts
locals_shorter (g.last_local d) = local_shorter d
locals_shorter (g.more_locals d m) = omega (arith, local_shorter d, locals_shorter m)

pub declaration_shorter : {ts : List Terminal} {m : StmtNode} {rest : List Terminal} → IsDeclaration ts m rest → length rest < length ts
declaration_shorter (g.ints d) = omega (arith, locals_shorter d)
declaration_shorter (g.volatile_ints d) = omega (arith, locals_shorter d)
declaration_shorter (g.threads d) = omega (arith, names_shorter d)

pub step_shorter : {ts : List Terminal} {s : Option Stmt} {rest : List Terminal} → IsStep ts s rest → length rest ≤ length ts
step_shorter g.no_step = omega arith
step_shorter (g.step d) = omega (arith, assign_shorter d)

pub first_shorter : {ts : List Terminal} {s : Option Stmt} {rest : List Terminal} → IsFirst ts s rest → length rest < length ts
first_shorter (g.first_declaration d) = declaration_shorter d
first_shorter (g.first_step d) = omega (arith, step_shorter d)

pub condition_shorter : {ts : List Terminal} {e : Expr} {rest : List Terminal} → IsCondition ts e rest → length rest < length ts
condition_shorter g.no_condition = omega arith
condition_shorter (g.condition d) = omega (arith, expr_shorter d)

pub given_shorter : {ts : List Terminal} {v : Option Value} {rest : List Terminal} → IsGiven ts v rest → length rest < length ts
given_shorter g.nothing = omega arith
given_shorter (g.given d) = omega (arith, value_shorter d)

mutual
  pub stmt_shorter : {ts : List Terminal} {s : Stmt} {rest : List Terminal} → IsStmt ts s rest → length rest < length ts
  stmt_shorter (g.at_first d) = node_shorter d

  pub node_shorter : {ts : List Terminal} {m : StmtNode} {rest : List Terminal} → IsStmtNode ts m rest → length rest < length ts
  node_shorter g.empty = omega arith
  node_shorter (g.block d) = omega (arith, body_shorter d)
  node_shorter (g.assignment d) = omega (arith, assign_shorter d)
  node_shorter (g.action d) = omega (arith, action_shorter d)
  node_shorter (g.when d f nc) = omega (arith, expr_shorter d, stmt_shorter f)
  node_shorter (g.choose d f h) = omega (arith, expr_shorter d, stmt_shorter f, stmt_shorter h)
  node_shorter (g.while d f) = omega (arith, expr_shorter d, stmt_shorter f)
  node_shorter (g.do_while d f) = omega (arith, stmt_shorter d, expr_shorter f)
  node_shorter (g.for d c h f) = omega (arith, first_shorter d, condition_shorter c, step_shorter h, stmt_shorter f)
  node_shorter g.break = omega arith
  node_shorter g.continue = omega arith
  node_shorter (g.return d) = omega (arith, given_shorter d)
  node_shorter g.goto = omega arith
  node_shorter (g.label d) = omega (arith, stmt_shorter d)

  pub body_shorter : {ts : List Terminal} {ss : List Stmt} {rest : List Terminal} → IsBody ts ss rest → length rest < length ts
  body_shorter g.end = omega arith
  body_shorter (g.declaration d f) = omega (arith, declaration_shorter d, body_shorter f)
  body_shorter (g.further d f) = omega (arith, stmt_shorter d, body_shorter f)
