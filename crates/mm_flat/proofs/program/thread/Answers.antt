use Rattle.std.proofs.Common.{arith, ◌≡◌, ◌∙◌, ap, sym, length, Some}
use Rattle.mm_goto.specs.declared.program.Instr.TheVariants.{End}
use Rattle.mm_goto.specs.declared.program.Thread.{Thread}
use Rattle.mm_flow.specs.declared.assembler.Piece.TheVariants.{Do}
use Rattle.mm_flow.specs.Programs.{named_function, place_in}
use Rattle.mm_flow.specs.Statements.{Function}
use Rattle.mm_flow.specs.reading.Assembling.{with_piece}
use Rattle.mm_flat.specs.reading.Threading.{thread_made}
use Rattle.mm_flat.proofs.Faults.{passed_on}
use Rattle.mm_flat.proofs.Threads.{code_size, count_is, full_thread, thread_of_is}
use Rattle.mm_flat.proofs.program.thread.Goals as goal

pub returns-in_err-code-clause-full : goal.returns-in_err-code-clause-full
returns-in_err-code-clause-full c =
    let r : Function = c.named_function-function.result in
    let F : r ≡ named_function c.args.parts.now c.args.items.now c.args.f.now = c.named_function-function.ensures in
    passed_on c.from_residual.result c.in_err-code.field-0.0 c.from_residual.ensures c.in_err-code.ensures.full (full_thread c.args.parts.now c.args.items.now c.args.f.now r c.args.limit F)

pub returns-then-limit-len-clause-full : goal.returns-then-limit-len-clause-full
returns-then-limit-len-clause-full c =
    let r : Function = c.named_function-function.result in
    let F : r ≡ named_function c.args.parts.now c.args.items.now c.args.f.now = c.named_function-function.ensures in
    let at = c.place_in.ensures ∙ ap (λ is. place_in is c.text.result.now) c.items.ensures ∙ ap (place_in c.args.items.now) c.text.ensures in
    let M : c.put.new.self ≡ thread_made c.args.parts.now c.args.items.now c.args.f.now r =
    c.in_ok-put.ensures.code ∙ ap (λ p. with_piece (Do p End) c.in_ok-code.code) at ∙ ap (with_piece (Do (place_in c.args.items.now c.args.f.now) End)) c.in_ok-code.ensures.code in
    omega (arith, count_is c.args.parts.now c.args.items.now c.args.f.now r c.put.new.self F M, c.len.ensures, c.if-limit-len.true)

pub returns-clause-room : goal.returns-clause-room
returns-clause-room c =
    let r : Function = c.named_function-function.result in
    let F : r ≡ named_function c.args.parts.now c.args.items.now c.args.f.now = c.named_function-function.ensures in
    let at = c.place_in.ensures ∙ ap (λ is. place_in is c.text.result.now) c.items.ensures ∙ ap (place_in c.args.items.now) c.text.ensures in
    let M : c.put.new.self ≡ thread_made c.args.parts.now c.args.items.now c.args.f.now r =
    c.in_ok-put.ensures.code ∙ ap (λ p. with_piece (Do p End) c.in_ok-code.code) at ∙ ap (with_piece (Do (place_in c.args.items.now c.args.f.now) End)) c.in_ok-code.ensures.code in
    omega (arith, count_is c.args.parts.now c.args.items.now c.args.f.now r c.put.new.self F M, c.len.ensures, c.if-limit-len.false)

pub returns-clause-size : goal.returns-clause-size
returns-clause-size c =
    let r : Function = c.named_function-function.result in
    let F : r ≡ named_function c.args.parts.now c.args.items.now c.args.f.now = c.named_function-function.ensures in
    let at = c.place_in.ensures ∙ ap (λ is. place_in is c.text.result.now) c.items.ensures ∙ ap (place_in c.args.items.now) c.text.ensures in
    let M : c.put.new.self ≡ thread_made c.args.parts.now c.args.items.now c.args.f.now r =
    c.in_ok-put.ensures.code ∙ ap (λ p. with_piece (Do p End) c.in_ok-code.code) at ∙ ap (with_piece (Do (place_in c.args.items.now c.args.f.now) End)) c.in_ok-code.ensures.code in
    ap (λ (t : Thread). length t.code) c.in_ok-settled_thread.ensures ∙ code_size c.put.new.self ∙ count_is c.args.parts.now c.args.items.now c.args.f.now r c.put.new.self F M

pub returns-clause-thread : goal.returns-clause-thread
returns-clause-thread c =
    let r : Function = c.named_function-function.result in
    let F : r ≡ named_function c.args.parts.now c.args.items.now c.args.f.now = c.named_function-function.ensures in
    let at = c.place_in.ensures ∙ ap (λ is. place_in is c.text.result.now) c.items.ensures ∙ ap (place_in c.args.items.now) c.text.ensures in
    let M : c.put.new.self ≡ thread_made c.args.parts.now c.args.items.now c.args.f.now r =
    c.in_ok-put.ensures.code ∙ ap (λ p. with_piece (Do p End) c.in_ok-code.code) at ∙ ap (with_piece (Do (place_in c.args.items.now c.args.f.now) End)) c.in_ok-code.ensures.code in
    c.in_ok-settled_thread.ensures ∙ thread_of_is c.args.parts.now c.args.items.now c.args.f.now r c.put.new.self F M
