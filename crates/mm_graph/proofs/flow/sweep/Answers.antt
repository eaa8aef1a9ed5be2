use Rattle.std.proofs.Common.{◌≡◌, ◌∙◌, arith, inl, inr, sym}
use Rattle.std.proofs.lemmas.Bool.{cases_lt, true≢false}
use Rattle.mm_goto.specs.Sites.{more}
use Rattle.mm_graph.proofs.flow.sweep.Goals as goal

pub places-preserved : goal.places-preserved
places-preserved c =
    let inv = c.places.invariant in
    let marked = c.visit.ensures.marked in
    record {
      places = omega arith;
      sound = λ m h. elim ((marked m).0 h) [ inl p ↦ inv.sound m p | inr p ↦ more c.places.j (inv.sound c.places.j p.1) p.2 p.3 ];
      keeps = λ m h. (marked m).1 (inl (inv.keeps m h));
      stays = λ same m h. elim c.if-visit.branch [
        | goal.then-visit w ↦ absurd (true≢false (sym w.grew-is ∙ same))
        | goal.else-visit w ↦ inv.stays (sym w.grew-is ∙ same) m (c.visit.ensures.stays w.if-visit.false m h)
      ];
      grows = λ grew. elim c.if-visit.branch [
        | goal.then-visit w ↦ let new = c.visit.ensures.grows w.if-visit.true in (new.0, new.1, new.2, λ old. new.3 (inv.keeps new.0 old))
        | goal.else-visit w ↦ let new = inv.grows (sym w.grew-is ∙ grew) in (new.0, new.1, (marked new.0).1 (inl new.2), new.3)
      ];
      closed = λ same i m below old passing leads small. elim c.if-visit.branch [
        | goal.then-visit w ↦ absurd (true≢false (sym w.grew-is ∙ same))
        | goal.else-visit w ↦ elim (cases_lt i c.places.j) [
          | inl before ↦ inv.closed (sym w.grew-is ∙ same) i m before old passing leads small
          | inr here ↦
              let at : i ≡ c.places.j = omega arith in
              inv.stays (sym w.grew-is ∙ same) m (c.visit.ensures.stays w.if-visit.false m
              ((marked m).1 (inr (small, inv.keeps c.places.j (rw at at old), rw at at passing, rw at at leads))))
        ]
      ];
    }
