use Rattle.std.proofs.Common.{◌≡◌, ◌∙◌, ℕ, Bool, true, false, List, length, arith, sym, subst, Some}
use Rattle.std.proofs.lemmas.Option.{slice_get_within}
use Rattle.std.specs.Prelude.{◌↔◌, ◌<◌, ◌+◌, IsTrue, slice_get, slice_index_or}
use Rattle.mm_bits.specs.Words.{Has}
use Rattle.mm_goto.specs.declared.program.Instr.{Instr}
use Rattle.mm_points.proofs.Lists.{same_some}
use Rattle.mm_delay.specs.reading.Points.{IsPoint}
use Rattle.mm_delay.specs.reading.Sets.{Raised}
use Rattle.mm_delay.proofs.Pushing.{each_more, one_more, item_is}
use Rattle.mm_delay.proofs.flush_points.row_of.Goals as goal

pub code-preserved : goal.code-preserved
code-preserved c =
    let k : ℕ = c.code.k in
    let code : List Instr = c.args.code.now in
    let R : ℕ → Bool → Type 0 = λ j b. (it : Instr) → slice_get code j ≡ Some it
    → (b ≡ true) ↔ IsPoint c.args.model (Raised c.args.near.now j) (Raised c.args.own.now j) (IsTrue c.args.thread) (Has c.args.threads.now.words) it in
    let P : List Bool → Type 0 = λ row. (length row ≡ k + 1) × ((j : ℕ) → j < k + 1 → R j (slice_index_or row j false)) in
    let here : R k c.is_point.result = λ it at.
    let Q : Instr → Type 0 = λ it. (c.is_point.result ≡ true) ↔ IsPoint c.args.model (Raised c.args.near.now k) (Raised c.args.own.now k) (IsTrue c.args.thread) (Has c.args.threads.now.words) it in
    subst Q (same_some c.index-code-k.result it (sym (item_is code k c.index-code-k.result c.code-test.true c.index-code-k.is) ∙ at)) c.is_point.ensures in
    let both = subst P (sym c.in_ok-push.ensures.items) (one_more c.code.row.items c.is_point.result k c.code.invariant.size, each_more R c.code.row.items c.is_point.result false k c.code.invariant.size c.code.invariant.points here) in
    record { size = both.0; points = both.1 }

pub returns : goal.returns
returns c = record {
  size = let s = c.code.invariant.size in omega (arith, s);
  points = λ k it at. c.code.invariant.points k (let w = slice_get_within c.args.code.now k it at in omega (arith, w)) it at;
}
