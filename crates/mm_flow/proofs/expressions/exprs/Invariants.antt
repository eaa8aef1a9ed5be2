use Rattle.std.proofs.Common.{◌≡◌, ◌++◌, drop}
use Rattle.mm_flow.specs.Expressions.{values, Vals}
use Rattle.mm_flow.specs.reading.Assembling.{the_scope, with_values}
use Rattle.mm_flow.proofs.expressions.exprs.Given as goal

abbrev pub invariant-loop-e : goal.invariant-loop-e
invariant-loop-e l =
    let whole : Vals = values (the_scope l.context l.fn.code) l.es l.fn.code.known.next in
    let rest : Vals = values (the_scope l.context l.code) (drop l.e-index l.es) l.code.known.next in
    record {
      pures : whole.pures ≡ l.pures.items ++ rest.pures;
      code : with_values l.context whole l.fn.code ≡ with_values l.context rest l.code;
    }
