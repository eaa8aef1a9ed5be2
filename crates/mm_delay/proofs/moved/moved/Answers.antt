use Rattle.std.proofs.Common.{◌≡◌, ◌∙◌, ℕ, Bool, true, false, List, length, inl, inr, arith, sym, subst, Some}
use Rattle.std.proofs.lemmas.Bool.{true≢false}
use Rattle.std.proofs.lemmas.Option.{slice_get-get_or, slice_get_cases}
use Rattle.std.specs.Prelude.{◌↔◌, ◌<◌, ◌+◌, IsSomeAnd, slice_get, slice_index_or}
use Rattle.mm_bits.specs.Words.{Has}
use Rattle.mm_goto.specs.declared.program.Cell.{Cell}
use Rattle.mm_points.proofs.Lists.{same_some}
use Rattle.mm_delay.proofs.Pushing.{each_more, one_more, past_end}
use Rattle.mm_delay.proofs.moved.moved.Goals as goal

pub cells-preserved : goal.cells-preserved
cells-preserved c =
    let k : ℕ = c.cells.c in
    let cells : List Cell = c.args.cells.now in
    let R : ℕ → Bool → Type 0 = λ j b. (x : Cell) → slice_get cells j ≡ Some x → (b ≡ true) ↔ ((d : ℕ) × IsSomeAnd (slice_get cells d) (λ y. x.name ≡ y.name) × Has c.args.set.now.words d) in
    let P : List Bool → Type 0 = λ row. (length row ≡ k + 1) × ((j : ℕ) → j < k + 1 → R j (slice_index_or row j false)) in
    let mine : Cell = slice_index_or cells k c.index-cells-c.result in
    let here : R k c.is_named.result = λ x at.
    let Q : Cell → Type 0 = λ x. (c.is_named.result ≡ true) ↔ ((d : ℕ) × IsSomeAnd (slice_get cells d) (λ y. x.name ≡ y.name) × Has c.args.set.now.words d) in
    subst Q (same_some mine x (sym (slice_get-get_or cells k c.index-cells-c.result c.cells-test.true) ∙ at)) c.is_named.ensures in
    let both = subst P (sym c.in_ok-push.ensures.items) (one_more c.cells.moved.items c.is_named.result k c.cells.invariant.size, each_more R c.cells.moved.items c.is_named.result false k c.cells.invariant.size c.cells.invariant.raised here) in
    record { size = both.0; raised = both.1 }

pub returns-clause-raised : goal.returns-clause-raised
returns-clause-raised c = λ n.
    let cells : List Cell = c.args.cells.now in
    elim (slice_get_cases cells n).1 [
      | inl h ↦ (let w = h.1 in rw h.2 (c.cells.invariant.raised n (omega (arith, w)) h.0 h.2))
      | inr h ↦ (
        λ so. absurd (let past = h.0 in let size = c.cells.invariant.size in true≢false (sym so ∙ past_end c.cells.moved.items n false (omega (arith, past, size)))),
        λ m. absurd (rw h.1 at m.1),
      )
    ]
