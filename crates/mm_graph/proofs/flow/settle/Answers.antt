use Rattle.std.proofs.Common.{◌≡◌, ℕ, Bool, false, length, slice_index_or, inl, inr}
use Rattle.std.proofs.lemmas.Bool.{cases_Bool}
use Rattle.mm_bits.proofs.Missing.{missing_less}
use Rattle.mm_graph.specs.reading.Marks.{passes_where}
use Rattle.mm_graph.proofs.Reaching.{all_marked}
use Rattle.mm_graph.proofs.flow.settle.Goals as goal

pub sweeps-smaller : goal.sweeps-smaller
sweeps-smaller c =
    let P : ℕ → Bool = λ k. slice_index_or c.sweeps.seen k false in
    let Q : ℕ → Bool = λ k. slice_index_or c.sweep.new.seen k false in
    let new = c.sweep.ensures.grows c.sweeps-test.true in
    let was : P new.0 ≡ false = elim (cases_Bool (P new.0)) [ inl p ↦ absurd (new.3 p) | inr p ↦ p ] in
    missing_less P Q c.sweep.ensures.keeps (length c.args.code.now) new.0 new.1 new.2 was

pub returns : goal.returns
returns c = λ k small. (
  λ h. c.sweep.ensures.sound k h,
  λ flow. all_marked (passes_where c.args.all) c.args.code.now c.args.from c.sweep.new.seen
      (record { first = λ m leads within. c.sweep.ensures.keeps m (c.sweeps.invariant.first m leads within); closed = c.sweep.ensures.closed c.sweeps-test.false }) k flow small,
)
