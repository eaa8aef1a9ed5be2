use Rattle.std.proofs.Common.{inl, inr, get_or, arith}
use Rattle.std.proofs.lemmas.Option.{slice_get-get_or}
use Rattle.mm_points.specs.Sets.{Has, Linked}
use Rattle.mm_points.specs.reading.Rules.{IsPointer}
use Rattle.mm_points.proofs.Indexes.{adds_more, adds_all, iff_inr}
use Rattle.mm_points.proofs.gathering.gather.Goals as goal

pub names-init : goal.names-init
names-init c = λ x. (λ h. absurd (c.empty-found.ensures x h), λ s. absurd (omega (arith, s.2)))

pub names-preserved : goal.names-preserved
names-preserved c = λ x.
    let was = c.names.invariant x in
    iff_inr (λ p. p) (adds_more c.args.names.now c.names.i (get_or c.args.names.now c.names.i 0) (λ k. IsPointer c.args.pointers.now k × Linked c.args.sets.now k x) ⊥ (Has c.names.found x) (Has c.gather_from.new.into x)
    (slice_get-get_or c.args.names.now c.names.i 0 c.names-test.true)
    (λ h. inr (was.0 h), λ h. elim h [ inl p ↦ absurd p | inr s ↦ was.1 s ]) (c.in_ok-gather_from.ensures x))

pub returns : goal.returns
returns c = λ x.
    let was = c.names.invariant x in
    let all = iff_inr (λ p. p) (adds_all c.args.names.now c.names.i (λ k. IsPointer c.args.pointers.now k × Linked c.args.sets.now k x) ⊥ (Has c.names.found x) (omega arith)
    (λ h. inr (was.0 h), λ h. elim h [ inl p ↦ absurd p | inr s ↦ was.1 s ])) in (
      λ h. let s = all.0 h in let both = s.3 in (s.0, s.1, s.2, both.0, both.1),
      λ s. all.1 (s.0, s.1, s.2, (s.3, s.4)),
    )
