use Rattle.std.proofs.Common.{rules, arith, ◌≡◌, false, refl, replicate}
use Rattle.std.proofs.lemmas.Grind.{common_steps}
use Rattle.mm_names.proofs.Marking.{all_marked, start_reached}
use Rattle.mm_names.proofs.calls.reaches.Goals as goal

pub loop-init : goal.loop-init
loop-init c =
    let is : c.in_ok-marks.marks.items ≡ replicate c.args.functions false = search (rules, c.in_ok-marks.ensures) in
    record {
      reached = start_reached c.in_ok-marks.marks.items c.args.functions c.args.from is;
      start = grind (arith, common_steps);
      long = grind (arith, common_steps);
    }

pub returns-clause-no : goal.returns-clause-no
returns-clause-no c = λ no r.
    let m = all_marked c.spread.new.marks (c.loop-test.ensures.closed refl) r (c.loop-test.ensures.start (rw c.as_mut_slice.ensures.value c.loop.invariant.start)) in
    grind (arith, common_steps, m, no, c.index.ensures)
