use Rattle.std.proofs.Common.{◌≤◌, ℕ, arith, subst, sym, take}
use Rattle.std.proofs.lemmas.List.{take_all}
use Rattle.std.proofs.lemmas.List.Elements.{All-more, All-weaker}
use Rattle.mm_goto.specs.declared.program.Thread.{Thread}
use Rattle.mm_points.proofs.ruled.most_locals.Goals as goal

pub threads-preserved : goal.threads-preserved
threads-preserved c =
    let thread : Thread = c.thread-item.result in
    let m : ℕ = c.if-most-thread.most in
    let Q : Thread → Type 0 = λ t. t.locals ≤ 524288 in
    let small : thread.locals ≤ 524288 = subst Q (sym c.thread-item.is) (c.requires c.threads.thread-index thread c.threads-test.true) in
    let old : c.threads.most ≤ 524288 = c.threads.invariant.few in
    let bounds : (c.threads.most ≤ m) × (thread.locals ≤ m) × (m ≤ 524288) = elim c.if-most-thread.branch [
      | goal.then-most-thread w ↦ let is = w.most-is in (omega arith, omega arith, omega arith)
      | goal.else-most-thread w ↦ let is = w.most-is in (omega arith, omega arith, omega arith)
    ] in
    let P : Thread → Type 0 = λ t. t.locals ≤ m in
    record {
      most = All-more P c.args.threads.now c.threads.thread-index thread c.threads-test.true
          (All-weaker (λ t. t.locals ≤ c.threads.most) P (λ t h. let b = bounds.0 in omega arith) (take c.threads.thread-index c.args.threads.now) c.threads.invariant.most)
          (subst P c.thread-item.is bounds.1);
      few = bounds.2;
    }

pub returns-clause-most : goal.returns-clause-most
returns-clause-most c = rw (take_all c.threads.thread-index c.args.threads.now (omega arith)) at c.threads.invariant.most
