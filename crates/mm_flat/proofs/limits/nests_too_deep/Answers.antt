use Rattle.std.proofs.Common.{arith, ◌≡◌, ◌∙◌, sym, true, false}
use Rattle.mm_flat.specs.reading.Nesting.{callee, deep_of}
use Rattle.mm_flat.proofs.Tables.{next_nest}
use Rattle.mm_flat.proofs.limits.nests_too_deep.Goals as goal

pub returns-then-deep_of : goal.returns-then-deep_of
returns-then-deep_of c =
    let e : true ≡ deep_of c.in_ok-deep.deep.items (callee c.args.items.now c.f-item.result) = cc in
    sym (c.loop-f.invariant.same ∙ next_nest c.args.items.now c.args.functions.now c.loop-f.f-index c.f-item.result c.in_ok-deep.deep.items true (omega arith) c.f-item.is c.loop-f.invariant.table e)

pub loop-f-preserved : goal.loop-f-preserved
loop-f-preserved c =
    let e : false ≡ deep_of c.in_ok-deep.deep.items (callee c.args.items.now c.f-item.result) = cc in
    record {
      table = c.loop-f.invariant.table;
      same = c.loop-f.invariant.same ∙ next_nest c.args.items.now c.args.functions.now c.loop-f.f-index c.f-item.result c.in_ok-deep.deep.items false (omega arith) c.f-item.is c.loop-f.invariant.table e;
    }
