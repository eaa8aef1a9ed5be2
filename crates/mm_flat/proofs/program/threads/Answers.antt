use Rattle.std.proofs.Common.{arith, ◌++◌, ◌∙◌, ap, sym, length, append_assoc}
use Rattle.mm_flat.proofs.Faults.{passed_on}
use Rattle.mm_flat.proofs.Threads.{next_thread, next_size}
use Rattle.mm_flat.proofs.program.threads.Goals as goal

pub returns-in_err-thread-clause-full : goal.returns-in_err-thread-clause-full
returns-in_err-thread-clause-full c =
    passed_on c.from_residual.result c.in_err-thread.field-0.0 c.from_residual.ensures c.in_err-thread.ensures.full
    (λ h. omega (arith, h, c.loop-f.invariant.room, next_size c.args.parts.now c.args.items.now c.args.functions.now c.loop-f.f-index c.f-item.result (omega arith) c.f-item.is))

pub loop-f-preserved : goal.loop-f-preserved
loop-f-preserved c = record {
  threads = rw (c.in_ok-push.ensures, c.in_ok-thread.ensures.thread)
      (c.loop-f.invariant.threads ∙ ap (λ ts. c.loop-f.out.items ++ ts) (next_thread c.args.parts.now c.args.items.now c.args.functions.now c.loop-f.f-index c.f-item.result (omega arith) c.f-item.is)
      ∙ sym (append_assoc c.loop-f.out.items _ _));
  room = omega (arith, c.loop-f.invariant.room, c.in_ok-thread.ensures.size, c.in_ok-thread.ensures.room, ap length c.items.ensures, next_size c.args.parts.now c.args.items.now c.args.functions.now c.loop-f.f-index c.f-item.result (omega arith) c.f-item.is);
}
