use Rattle.std.proofs.Common.{◌≡◌, ◌∙◌, sym, Some, None}
use Rattle.std.specs.Prelude.{position, slice_get}
use Rattle.mm_flow.specs.Statements.{function_of, is_function}
use Rattle.mm_flat_stmt.specs.reading.Bodies.{function_at}
use Rattle.mm_flat_stmt.proofs.Functions.{found_function, no_function}
use Rattle.mm_flat_stmt.proofs.calls.function_of.Goals as goal

pub returns-in-Some-clause-some : goal.returns-in-Some-clause-some
returns-in-Some-clause-some c =
    let place : position (is_function c.args.f.now) c.args.items.now ≡ Some c.in-Some.i = sym (rw c.text.ensures at c.place_of.ensures) ∙ c.in-Some.is in
    let same : function_of c.args.items.now c.args.asserts.now c.args.f.now ≡ function_at (slice_get c.items.result.now c.in-Some.i) (slice_get c.args.asserts.now c.in-Some.i) =
    rw c.items.ensures (found_function c.args.items.now c.args.asserts.now c.args.f.now c.in-Some.i place) in
    rw same c.function_at.ensures.some

pub returns-in-Some-clause-none : goal.returns-in-Some-clause-none
returns-in-Some-clause-none c =
    let place : position (is_function c.args.f.now) c.args.items.now ≡ Some c.in-Some.i = sym (rw c.text.ensures at c.place_of.ensures) ∙ c.in-Some.is in
    let same : function_of c.args.items.now c.args.asserts.now c.args.f.now ≡ function_at (slice_get c.items.result.now c.in-Some.i) (slice_get c.args.asserts.now c.in-Some.i) =
    rw c.items.ensures (found_function c.args.items.now c.args.asserts.now c.args.f.now c.in-Some.i place) in
    rw same c.function_at.ensures.none

pub returns-in-None-clause-none : goal.returns-in-None-clause-none
returns-in-None-clause-none c =
    no_function c.args.items.now c.args.asserts.now c.args.f.now (sym (rw c.text.ensures at c.place_of.ensures) ∙ c.in-None.is)
