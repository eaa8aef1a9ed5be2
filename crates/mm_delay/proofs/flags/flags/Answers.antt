use Rattle.std.proofs.Common.{◌≡◌, ◌∙◌, ℕ, List, Bool, [], length, arith, sym, subst, Some}
use Rattle.std.proofs.lemmas.Option.{slice_get-get_or, slice_get_within}
use Rattle.std.specs.Prelude.{◌<◌, ◌+◌, slice_get, slice_index_or}
use Rattle.mm_goto.specs.declared.program.Instr.{Instr}
use Rattle.mm_goto.specs.declared.program.Thread.{Thread}
use Rattle.mm_points.proofs.Lists.{same_some}
use Rattle.mm_delay.specs.reading.Sets.{AreFlagsOf}
use Rattle.mm_delay.proofs.Pushing.{each_more, one_more}
use Rattle.mm_delay.proofs.flags.flags.Goals as goal

pub threads-preserved : goal.threads-preserved
threads-preserved c =
    let t : ℕ = c.threads.t in
    let threads : List Thread = c.args.threads.now in
    let R : ℕ → List Bool → Type 0 = λ u row. (thread : Thread) → slice_get threads u ≡ Some thread → AreFlagsOf c.args.sites.now c.args.set.now.words u (length thread.code) row in
    let P : List (List Bool) → Type 0 = λ rows. (length rows ≡ t + 1) × ((u : ℕ) → u < t + 1 → R u (slice_index_or rows u [])) in
    let mine : Thread = slice_index_or threads t c.index-threads-t.result in
    let S : List Instr → Type 0 = λ code. AreFlagsOf c.args.sites.now c.args.set.now.words t (length code) c.in_ok-row.row.items in
    let here : R t c.in_ok-row.row.items = λ thread at.
    let Q : Thread → Type 0 = λ thread. AreFlagsOf c.args.sites.now c.args.set.now.words t (length thread.code) c.in_ok-row.row.items in
    subst Q (same_some mine thread (sym (slice_get-get_or threads t c.index-threads-t.result c.threads-test.true) ∙ at)) (subst S c.items.ensures c.in_ok-row.ensures) in
    let both = subst P (sym c.in_ok-push.ensures.items) (one_more c.threads.rows.items c.new.result t c.threads.invariant.size, each_more R c.threads.rows.items c.new.result [] t c.threads.invariant.size c.threads.invariant.each (subst (R t) (sym c.new.ensures) here)) in
    record { size = both.0; each = both.1 }

pub returns-clause-each : goal.returns-clause-each
returns-clause-each c = λ t thread at. c.threads.invariant.each t (let w = slice_get_within c.args.threads.now t thread at in omega (arith, w)) thread at
