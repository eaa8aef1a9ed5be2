use Rattle.std.proofs.Common.{◌<◌, ◌∙◌, ap, subst}
use Rattle.mm_flow.specs.Flow.{size}
use Rattle.mm_flow.specs.Programs.{thread_code}
use Rattle.mm_flow.specs.Statements.{Function}
use Rattle.mm_flow.specs.reading.Assembling.{with_label, with_labels}
use Rattle.mm_flat.proofs.Faults.{passed_on}
use Rattle.mm_flat.proofs.Threads.{full_body}
use Rattle.mm_flat.proofs.program.body.Goals as goal

pub returns-in_err-stmts-clause-full : goal.returns-in_err-stmts-clause-full
returns-in_err-stmts-clause-full c =
    let r : Function = record { params = c.function.inside.params.now; body = c.function.inside.body.now; asserts = c.function.inside.asserts } in
    passed_on c.from_residual-in_err-stmts.result c.in_err-stmts.field-0.0 c.from_residual-in_err-stmts.ensures c.in_err-stmts.ensures.full
    (λ h. subst (λ q. c.args.limit < size (thread_code c.args.parts.now c.args.items.now q).flow) c.function.view_is
    (full_body c.args.parts.now c.args.items.now r c.args.limit c.most_calls.result c.deref.result.now c.reserve.new.self
    (c.in_ok-reserve.ensures.code ∙ ap (with_labels c.deref.result.now) (c.in_ok-home.ensures.code ∙ ap with_label c.new-code.ensures))
    c.most_calls.ensures h))
