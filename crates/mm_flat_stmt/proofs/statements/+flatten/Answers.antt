use Rattle.std.proofs.Common.{arith, subst, ◌≡◌, ◌+◌, ◌<◌, ◌∙◌, ap, sym}
use Rattle.mm_flow.specs.Flow.{size}
use Rattle.std.proofs.Common.{map}
use Rattle.std.specs.Option.{option_map}
use Rattle.mm_tree.specs.declared.stmt.StmtNode.TheOpen as stmt
use Rattle.mm_tree.specs.declared.stmt.StmtNode.TheVariants as node
use Rattle.mm_flow.specs.Statements.{assigned, body_code, effect, for_code, in_order, inner, left_aim, stmt_code, while_code}
use Rattle.mm_tree.specs.declared.stmt.Value.{Value}
use Rattle.mm_tree.specs.declared.stmt.Value.TheVariants as value
use Rattle.mm_flat_stmt.specs.reading.Bodies.{value_at}
use Rattle.mm_flat_stmt.proofs.Arms.{arm_code, arm_count, arm_full, for_is, stmt_code_is}
use Rattle.mm_flow.specs.Expressions.{Aim}
use Rattle.mm_flow.specs.reading.Assembling.{Context, count, doing, the_scope}
use Rattle.mm_flat_stmt.proofs.Rooms.{aim_count, aim_full, count_valued, full_stmt, passed_on, size_of_mark}
use Rattle.mm_flat_stmt.proofs.statements.+flatten.Goals as goal

pub assign_target-returns-in-Err-clause-full : goal.assign_target-returns-in-Err-clause-full
assign_target-returns-in-Err-clause-full t c =
    let aim : Aim = left_aim (the_scope c.args.context.now c.args.code.now) c.args.left.now.at c.args.left.now.node c.args.code.now.known.next in
    aim_full c.args.context.now aim c.args.code.now c.left_aim.new.code c.args.v.now c.in-Err.stop c.in_ok-target.ensures.code c.in-Err.ensures.full

pub assign_target-returns-clause-count : goal.assign_target-returns-clause-count
assign_target-returns-clause-count t c =
    let aim : Aim = left_aim (the_scope c.args.context.now c.args.code.now) c.args.left.now.at c.args.left.now.node c.args.code.now.known.next in
    c.in_ok-store.ensures.count ∙ aim_count c.args.context.now aim c.args.code.now c.left_aim.new.code c.value.new.code c.args.v.now c.in_ok-target.ensures.code c.in-Ok.ensures.count

pub if_or_choice-returns-in-Some-b-clause-full : goal.if_or_choice-returns-in-Some-b-clause-full
if_or_choice-returns-in-Some-b-clause-full t c = rw c.in-Some-b.is (rw c.get.ensures at c.choice_code.ensures.full)

pub label_code-returns-clause-full : goal.label_code-returns-clause-full
label_code-returns-clause-full t c =
    size_of_mark c.args.context.now.limit (count c.args.code.now) _ c.stmt.result (rw (c.in_ok-mark.ensures.count, c.in_ok-mark.ensures.code) at c.stmt.ensures.full)

pub maybe-returns-in-Some-s-clause-full : goal.maybe-returns-in-Some-s-clause-full
maybe-returns-in-Some-s-clause-full t c = rw c.in-Some-s.is (rw c.get.ensures at c.stmt.ensures.full)

pub stmt-returns-in-Block-clause-full : goal.stmt-returns-in-Block-clause-full
stmt-returns-in-Block-clause-full t c =
    arm_full c.args.context.now c.args.code.now c.block.result (stmt_code c.args.s.now) (inner (in_order (map stmt_code c.in-Block.ss)))
    (stmt_code_is c.args.s.now (stmt.Block c.in-Block.ss) (c.in-Block.is ∙ sym (node.rolls-Block c.in-Block.ss)))
    (rw c.as_slice.ensures at c.block.ensures.full)

pub stmt-returns-in-Assign-clause-full : goal.stmt-returns-in-Assign-clause-full
stmt-returns-in-Assign-clause-full t c =
    arm_full c.args.context.now c.args.code.now c.assign.result (stmt_code c.args.s.now) (λ w k. effect k (assigned w k.names k.next c.in-Assign.left c.in-Assign.v))
    (stmt_code_is c.args.s.now (stmt.Assign c.in-Assign.left c.in-Assign.v) (c.in-Assign.is ∙ sym (node.rolls-Assign c.in-Assign.left c.in-Assign.v)))
    (rw (c.get.ensures, c.get-in-Assign.ensures) at c.assign.ensures.full)

pub stmt-returns-in-While-clause-full : goal.stmt-returns-in-While-clause-full
stmt-returns-in-While-clause-full t c =
    arm_full c.args.context.now c.args.code.now c.while_code.result (stmt_code c.args.s.now) (while_code c.args.s.now.at c.in-While.c (stmt_code c.in-While.a))
    (stmt_code_is c.args.s.now (stmt.While c.in-While.c c.in-While.a) (c.in-While.is ∙ sym (node.rolls-While c.in-While.c c.in-While.a)))
    (rw (c.get-in-While.ensures, c.get-in-While-2.ensures) at c.while_code.ensures.full)

pub stmt-returns-in-For-clause-code : goal.stmt-returns-in-For-clause-code
stmt-returns-in-For-clause-code t c =
    arm_code c.args.context.now c.args.code.now c.for_code.new.code c.for_code.result (stmt_code c.args.s.now) (inner (for_code c.args.s.now.at (option_map stmt_code c.in-For.i) c.in-For.c (option_map stmt_code c.in-For.j) (stmt_code c.in-For.a)))
    (for_is c.args.s.now c.in-For.i c.in-For.c c.in-For.j c.in-For.a c.in-For.is)
    (rw c.get-in-For.ensures at c.for_code.ensures.code)

pub stmt-returns-in-For-clause-count : goal.stmt-returns-in-For-clause-count
stmt-returns-in-For-clause-count t c =
    arm_count c.args.context.now c.args.code.now c.for_code.new.code c.for_code.result (stmt_code c.args.s.now) (inner (for_code c.args.s.now.at (option_map stmt_code c.in-For.i) c.in-For.c (option_map stmt_code c.in-For.j) (stmt_code c.in-For.a)))
    (for_is c.args.s.now c.in-For.i c.in-For.c c.in-For.j c.in-For.a c.in-For.is)
    (rw c.get-in-For.ensures at c.for_code.ensures.count)

pub stmt-returns-in-For-clause-full : goal.stmt-returns-in-For-clause-full
stmt-returns-in-For-clause-full t c =
    arm_full c.args.context.now c.args.code.now c.for_code.result (stmt_code c.args.s.now) (inner (for_code c.args.s.now.at (option_map stmt_code c.in-For.i) c.in-For.c (option_map stmt_code c.in-For.j) (stmt_code c.in-For.a)))
    (for_is c.args.s.now c.in-For.i c.in-For.c c.in-For.j c.in-For.a c.in-For.is)
    (rw c.get-in-For.ensures at c.for_code.ensures.full)

pub stmts-returns-in_err-stmt-clause-full : goal.stmts-returns-in_err-stmt-clause-full
stmts-returns-in_err-stmt-clause-full t c =
    passed_on c.from_residual.result c.in_err-stmt.field-0.0 c.from_residual.ensures c.in_err-stmt.ensures.full
    (full_stmt c.args.context.now (doing c.args.context.now (body_code c.args.ss.now) c.args.code.now) c.args.ss.now c.loop-s.s-index c.s-item.result c.args.code.now c.loop-s.code c.args.context.now.limit (omega arith) c.s-item.is c.loop-s.invariant.remains)

pub stmts-returns-then-context-len-clause-full : goal.stmts-returns-then-context-len-clause-full
stmts-returns-then-context-len-clause-full t c =
    full_stmt c.args.context.now (doing c.args.context.now (body_code c.args.ss.now) c.args.code.now) c.args.ss.now c.loop-s.s-index c.s-item.result c.args.code.now c.loop-s.code c.args.context.now.limit (omega arith) c.s-item.is c.loop-s.invariant.remains
    (subst (λ n. c.args.context.now.limit < n) c.in_ok-stmt.ensures.count
    (subst (λ (x : Context). x.limit < count c.stmt.new.code) c.context.view_is (subst (λ n. c.context.inside.limit < n) c.len.ensures c.if-context-len.true)))

pub value-returns-in_ok-fetch_add-in-FetchAdd-clause-count : goal.value-returns-in_ok-fetch_add-in-FetchAdd-clause-count
value-returns-in_ok-fetch_add-in-FetchAdd-clause-count t c =
    let v : Value = value.FetchAdd c.in-FetchAdd.at c.get-in-FetchAdd.result.now c.get-in-FetchAdd-2.result.now in
    let same : v ≡ c.args.v.now = rw (c.get-in-FetchAdd.ensures, c.get-in-FetchAdd-2.ensures) (sym c.in-FetchAdd.is) in
    count_valued c.args.context.now (value_at c.args.context.now c.args.code.now v) c.args.code.now c.fetch_add.new.code c.in_ok-fetch_add-in-FetchAdd.ensures.code
    ∙ ap (λ (u : Value). count c.args.code.now + size (value_at c.args.context.now c.args.code.now u).flow) same

pub value-returns-in_ok-compare_swap-in-CompareSwap-clause-count : goal.value-returns-in_ok-compare_swap-in-CompareSwap-clause-count
value-returns-in_ok-compare_swap-in-CompareSwap-clause-count t c =
    let v : Value = value.CompareSwap c.in-CompareSwap.at c.get-in-CompareSwap.result.now c.get-in-CompareSwap-2.result.now c.get-in-CompareSwap-3.result.now in
    let same : v ≡ c.args.v.now = rw (c.get-in-CompareSwap.ensures, c.get-in-CompareSwap-2.ensures, c.get-in-CompareSwap-3.ensures) (sym c.in-CompareSwap.is) in
    count_valued c.args.context.now (value_at c.args.context.now c.args.code.now v) c.args.code.now c.compare_swap.new.code c.in_ok-compare_swap-in-CompareSwap.ensures.code
    ∙ ap (λ (u : Value). count c.args.code.now + size (value_at c.args.context.now c.args.code.now u).flow) same
