use Rattle.std.proofs.Common.{arith, ◌≡◌, ◌<◌, false, true, sym, ◌∙◌, subst, length, get_or, sum_by}
use Rattle.std.proofs.lemmas.List.Elements.{Contains-get_or}
use Rattle.std.proofs.lemmas.List.{get_or_default}
use borrow.Author.Count.{below_more}
use Rattle.mm_scope.specs.declared.notes.Call.{Call}
use Rattle.mm_names.specs.reading.Marks.{AreReached, IsClosed, IsClosedAt, IsMarkedBy, unmarked}
use Rattle.mm_names.proofs.Marking.{reached-more, fewer, kept}
use Rattle.mm_names.proofs.calls.spread.Goals as goal
use Rattle.mm_names.proofs.calls.spread.Goals.{then-mark, else-mark}

pub loop-call-preserved : goal.loop-call-preserved
loop-call-preserved c =
    let calls = c.args.calls.now in
    let i = c.loop-call.call-index in
    let d : Call = record { caller = 0; callee = 0; at = record { line = 0; column = 0 } } in
    let in_range : (get_or calls i d).callee < length c.loop-call.marks = omega (arith, (c.requires.range i d c.loop-call-test.true).1) in
    elim c.if-mark.branch [
      | then-mark w ↦
          let is : IsMarkedBy (get_or calls i d) c.loop-call.marks c.mark.new.marks = c.mark.ensures.yes w.if-mark.true in
          let less : sum_by unmarked c.mark.new.marks < sum_by unmarked c.loop-call.marks = fewer in_range is in
          record {
            reached = reached-more c.loop-call.invariant.reached (Contains-get_or calls i d c.loop-call-test.true) in_range is;
            start = λ e. kept c.args.from in_range is (c.loop-call.invariant.start e);
            more = λ e. omega arith;
            fewer = omega arith;
            same = λ e. cc;
            closed = λ e. cc;
          }
      | else-mark w ↦
          let same : c.mark.new.marks ≡ c.loop-call.marks = c.mark.ensures.same w.if-mark.false in
          record {
            reached = subst (λ m. AreReached calls c.args.from m) (sym same) c.loop-call.invariant.reached;
            start = λ e. subst (λ m. get_or m c.args.from false ≡ true) (sym same) (c.loop-call.invariant.start e);
            more = λ e. rw same (c.loop-call.invariant.more (sym w.changed-is ∙ e));
            fewer = rw same c.loop-call.invariant.fewer;
            same = λ e. same ∙ c.loop-call.invariant.same (sym w.changed-is ∙ e);
            closed = λ e. below_more (λ k. IsClosedAt c.mark.new.marks calls k) i
                (λ k below. subst (λ m. IsClosedAt m calls k) (sym same) (c.loop-call.invariant.closed (sym w.changed-is ∙ e) k below))
                (record { it = λ f. subst (IsClosed c.mark.new.marks) (get_or_default calls i d f c.loop-call-test.true) (c.mark.ensures.closed w.if-mark.false) });
          }
    ]

pub returns-clause-closed : goal.returns-clause-closed
returns-clause-closed c = λ e. record { each = λ k below. c.loop-call.invariant.closed e k (omega arith) }
