use Rattle.std.proofs.Common.{◌≤◌, ℕ, List}
use Rattle.std.specs.Prelude.{◌↔◌, All}
use Rattle.mm_goto.specs.Listing.{Listing}
use Rattle.mm_points.specs.Sets.{Linked}
use Rattle.mm_points.specs.reading.Rules.{Holds, holder}
use Rattle.mm_points.specs.reading.Ruled.{rules_of, pointers_of}
use Rattle.mm_points.proofs.InRange.{rules_in}
use Rattle.mm_points.proofs.Solved.{targets_in, listed_cells, listed_sizes}
use Rattle.mm_points.proofs.points.points_to.Goals as goal

pub solve-requires-clause-fits : goal.solve-requires-clause-fits
solve-requires-clause-fits c =
    let p : Listing = c.args.program.now in
    let step : ℕ = c.most_locals-step.result in
    let most : All (λ t. t.locals ≤ step) p.threads = rw c.threads-threads.ensures.threads at c.most_locals-step.ensures.most in
    rw (c.as_slice-2.ensures.value, c.in_ok-rules.ensures, c.cells-cells.ensures, c.threads-threads.ensures.threads)
    (rules_in p c.threads-threads.ensures.valid step most)

pub list_threads-requires-clause-fits : goal.list_threads-requires-clause-fits
list_threads-requires-clause-fits c =
    let p : Listing = c.args.program.now in
    let step : ℕ = c.most_locals-step.result in
    let most : All (λ t. t.locals ≤ step) p.threads = rw c.threads-threads.ensures.threads at c.most_locals-step.ensures.most in
    rw (c.as_slice-3.ensures.value, c.in_ok-sets.ensures.size, c.cells-cells.ensures, c.threads-threads.ensures.threads)
    (targets_in p c.threads-threads.ensures.valid step most)

pub returns : goal.returns
returns c =
    let p : Listing = c.args.program.now in
    let valid = c.threads-threads.ensures.valid in
    let step : ℕ = c.most_locals-step.result in
    let sets : List (List ℕ) = c.in_ok-sets.sets.items in
    let most : All (λ t. t.locals ≤ step) p.threads = rw c.threads-threads.ensures.threads at c.most_locals-step.ensures.most in
    let least : (a b : ℕ) → Linked sets a b ↔ Holds (rules_of p step) (pointers_of p.cells) (holder a) b =
    rw (c.as_slice-2.ensures.value, c.in_ok-rules.ensures, c.as_slice.ensures.value, c.in_ok-pointers.ensures, c.cells-cells.ensures, c.threads-threads.ensures.threads) at c.in_ok-sets.ensures.least in
    let lists = rw (c.as_slice-3.ensures.value, c.cells-cells.ensures, c.threads-threads.ensures.threads) at c.in_ok-listed.ensures.lists in
    record {
      threads = rw c.threads-threads.ensures.threads at c.in_ok-listed.ensures.size;
      code = listed_sizes p valid step most sets least c.in_ok-listed.listed lists;
      cells = listed_cells p valid step most sets least c.in_ok-listed.listed lists;
    }
