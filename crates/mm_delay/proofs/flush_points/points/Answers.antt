use Rattle.std.proofs.Common.{◌≡◌, ◌∙◌, ℕ, List, Bool, [], length, arith, sym, ap, subst, Some}
use Rattle.std.proofs.lemmas.Option.{slice_get-get_or, slice_get_within}
use Rattle.std.specs.Prelude.{◌<◌, ◌+◌, IsTrue, slice_get, slice_index_or}
use Rattle.mm_bits.specs.Words.{Has}
use Rattle.mm_goto.specs.declared.program.Instr.{Instr}
use Rattle.mm_goto.specs.declared.program.Instr.TheVariants.{Join}
use Rattle.mm_goto.specs.declared.program.Thread.{Thread}
use Rattle.mm_points.proofs.Lists.{same_some}
use Rattle.mm_delay.specs.reading.Points.{MarksPoints}
use Rattle.mm_delay.proofs.Flushing.{marks_same}
use Rattle.mm_delay.proofs.Pushing.{each_more, one_more, item_or}
use Rattle.mm_delay.proofs.flush_points.points.Goals as goal

pub row_of-requires-clause-near : goal.row_of-requires-clause-near
row_of-requires-clause-near c =
    let t : ℕ = c.threads.t in
    let at = slice_get-get_or c.args.code.now t c.index-code-t.result c.threads-test.true in
    let rows = c.requires.rows t _ at in
    let small : t < length c.args.near.now = (let a = c.threads-test.true in let b = c.requires.near in omega (arith, a, b)) in
    ap (λ (row : List Bool). length row) (c.items-in-threads.ensures ∙ sym (item_or c.args.near.now t c.index-near-t.result [] small c.index-near-t.is)) ∙ rows.0 ∙ ap (λ (code : List Instr). length code) (sym c.items.ensures)

pub row_of-requires-clause-own : goal.row_of-requires-clause-own
row_of-requires-clause-own c =
    let t : ℕ = c.threads.t in
    let at = slice_get-get_or c.args.code.now t c.index-code-t.result c.threads-test.true in
    let rows = c.requires.rows t _ at in
    let small : t < length c.args.own.now = (let a = c.threads-test.true in let b = c.requires.own in omega (arith, a, b)) in
    ap (λ (row : List Bool). length row) (c.items-in-threads-2.ensures ∙ sym (item_or c.args.own.now t c.index-own-t.result [] small c.index-own-t.is)) ∙ rows.1 ∙ ap (λ (code : List Instr). length code) (sym c.items.ensures)

pub row_of-requires-clause-joins : goal.row_of-requires-clause-joins
row_of-requires-clause-joins c = λ k u is.
    let t : ℕ = c.threads.t in
    let at = slice_get-get_or c.args.code.now t c.index-code-t.result c.threads-test.true in
    let P : List Instr → Type 0 = λ code. slice_get code k ≡ Some (Join u) in
    c.requires.joins t k u _ at (subst P c.items.ensures is)

pub threads-preserved : goal.threads-preserved
threads-preserved c =
    let t : ℕ = c.threads.t in
    let code : List Thread = c.args.code.now in
    let near : List (List Bool) = c.args.near.now in
    let own : List (List Bool) = c.args.own.now in
    let words : List ℕ = c.args.threads.now.words in
    let R : ℕ → List Bool → Type 0 = λ u row. (thread : Thread) → slice_get code u ≡ Some thread
    → MarksPoints c.args.model thread.code (slice_index_or near u []) (slice_index_or own u []) (Has words u) (Has words) row in
    let P : List (List Bool) → Type 0 = λ rows. (length rows ≡ t + 1) × ((u : ℕ) → u < t + 1 → R u (slice_index_or rows u [])) in
    let mine : Thread = slice_index_or code t c.index-code-t.result in
    let row : List Bool = c.in_ok-row.row.items in
    let a = c.threads-test.true in
    let near_is = c.items-in-threads.ensures ∙ sym (item_or near t c.index-near-t.result [] (let b = c.requires.near in omega (arith, a, b)) c.index-near-t.is) in
    let own_is = c.items-in-threads-2.ensures ∙ sym (item_or own t c.index-own-t.result [] (let b = c.requires.own in omega (arith, a, b)) c.index-own-t.is) in
    let A : List Instr → Type 0 = λ code. MarksPoints c.args.model code c.items-in-threads.result.now c.items-in-threads-2.result.now (Has words t) (Has words) row in
    let B : List Bool → Type 0 = λ near. MarksPoints c.args.model mine.code near c.items-in-threads-2.result.now (Has words t) (Has words) row in
    let C : List Bool → Type 0 = λ own. MarksPoints c.args.model mine.code (slice_index_or near t []) own (Has words t) (Has words) row in
    let made = marks_same c.args.model c.items.result.now c.items-in-threads.result.now c.items-in-threads-2.result.now (IsTrue c.has.result) (Has words t) (Has words) row c.has.ensures c.in_ok-row.ensures in
    let here : R t row = λ thread at.
    let Q : Thread → Type 0 = λ thread. MarksPoints c.args.model thread.code (slice_index_or near t []) (slice_index_or own t []) (Has words t) (Has words) row in
    subst Q (same_some mine thread (sym (slice_get-get_or code t c.index-code-t.result a) ∙ at)) (subst C own_is (subst B near_is (subst A c.items.ensures made))) in
    let both = subst P (sym c.in_ok-push.ensures.items) (
      one_more c.threads.rows.items c.new.result t c.threads.invariant.size,
      each_more R c.threads.rows.items c.new.result [] t c.threads.invariant.size c.threads.invariant.each (subst (R t) (sym c.new.ensures) here),
    ) in
    record { size = both.0; each = both.1 }

pub returns-clause-each : goal.returns-clause-each
returns-clause-each c = λ t thread at. c.threads.invariant.each t (let w = slice_get_within c.args.code.now t thread at in omega (arith, w)) thread at
