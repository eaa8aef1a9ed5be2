use Rattle.std.proofs.Common.{◌∙◌, inl, inr, sym}
use Rattle.std.proofs.lemmas.Result.{on_ok_weaker}
use Rattle.mm_points.proofs.settling.join_at.Goals as goal

pub returns-then-is_pointer-clause-given : goal.returns-then-is_pointer-clause-given
returns-then-is_pointer-clause-given c =
    let pointer = sym c.is_pointer.ensures ∙ c.if-is_pointer.true in
    on_ok_weaker c.join_value.result (λ given a b. (
      λ h. elim ((given a b).0 h) [ inl was ↦ inl was | inr both ↦ inr (both.0, pointer, both.1) ],
      λ h. elim h [ inl was ↦ (given a b).1 (inl was) | inr all ↦ (given a b).1 (inr (all.0, all.2)) ],
    )) c.join_value.ensures.given
