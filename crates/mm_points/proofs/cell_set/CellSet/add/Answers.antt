use Rattle.std.proofs.Common.{◌≡◌, ℕ, List, subst}
use Rattle.std.proofs.lemmas.List.Sorted.{searched}
use Rattle.std.proofs.lemmas.Result.{MatchResult-at_err}
use Rattle.std.specs.Prelude.{◌↔◌, ◌⊎◌}
use Rattle.std.specs.List.{insert}
use Rattle.mm_points.specs.Sets.{Has}
use Rattle.mm_points.proofs.Insertions.{increasing_le, increasing_inserted, has_inserted}
use Rattle.mm_points.proofs.cell_set.CellSet.add.Goals as goal

pub invariant_of-self-in-Err : goal.invariant_of-self-in-Err
invariant_of-self-in-Err c =
    let xs : List ℕ = c.self.inside.items.items in
    let found = searched xs c.args.c c.binary_search.result (rw c.deref.ensures.value at c.binary_search.ensures.position) (increasing_le xs c.self.invariant) in
    let at = MatchResult-at_err _ _ c.in-Err.place c.in-Err.is found in
    rw c.in_ok-insert-in-Err.ensures.items (increasing_inserted xs c.in-Err.place c.args.c at.0 c.self.invariant at.1 at.2)

pub returns-in_ok-insert-in-Err-clause-added : goal.returns-in_ok-insert-in-Err-clause-added
returns-in_ok-insert-in-Err-clause-added c = λ m.
    let xs : List ℕ = c.self.inside.items.items in
    let P : List ℕ → Type 0 = λ ys. Has (insert xs c.in-Err.place c.args.c) m ↔ (Has ys m ⊎ (m ≡ c.args.c)) in
    rw c.in_ok-insert-in-Err.ensures.items (subst P c.self.view_is (has_inserted xs c.in-Err.place c.args.c m))
