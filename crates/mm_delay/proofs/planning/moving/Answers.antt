use Rattle.std.proofs.Common.{◌≡◌, ℕ, List, Bool, subst, inl, inr}
use Rattle.std.specs.Prelude.{◌↔◌, ◌⊎◌, IsSomeAnd, slice_get}
use Rattle.mm_bits.specs.Words.{Has}
use Rattle.mm_goto.specs.declared.program.Cell.{Cell}
use Rattle.mm_goto.specs.Shapes.{AreOfOneName, IsAddressed}
use Rattle.mm_delay.specs.reading.Sets.{Raised}
use Rattle.mm_delay.proofs.Fitting.{if_ok}
use Rattle.mm_delay.proofs.planning.moving.Goals as goal

pub returns-clause-raised : goal.returns-clause-raised
returns-clause-raised c =
    let cells : List Cell = c.args.program.now.cells in
    let all : List ℕ = c.join.new.self.words in
    let R : List Cell → List Bool → Type 0 = λ cells moved. (n : ℕ) → Raised moved n ↔ ((d : ℕ) × IsSomeAnd (slice_get cells n) (λ x. IsSomeAnd (slice_get cells d) (λ y. x.name ≡ y.name)) × Has all d) in
    let Q : List Bool → Type 0 = λ moved. (n : ℕ) → Raised moved n ↔ ((d : ℕ) × AreOfOneName c.args.program.now n d × (IsAddressed c.args.program.now d ⊎ Has c.args.cells.now.words d)) in
    let join = c.join.ensures in
    let addressed = c.addressed-touched.ensures in
    if_ok c.moved.result (λ moved. R c.cells.result.now moved.items) (λ moved. Q moved.items) (λ moved h n.
    let r = subst (λ cells. R cells moved.items) c.cells.ensures h n in (
      λ up. let d = r.0 up in (d.0, d.1, elim ((join d.0).0 d.2) [ inl a ↦ inl ((addressed d.0).0 a) | inr b ↦ inr b ]),
      λ d. r.1 (d.0, d.1, (join d.0).1 (elim d.2 [ inl a ↦ inl ((addressed d.0).1 a) | inr b ↦ inr b ])),
    )) c.moved.ensures.raised
