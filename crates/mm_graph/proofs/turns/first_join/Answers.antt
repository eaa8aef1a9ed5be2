use Rattle.std.proofs.Common.{◌≡◌, ◌∙◌, true, length, sym, refl, arith}
use Rattle.std.proofs.lemmas.Bool.{true≢false}
use Rattle.std.proofs.lemmas.Option.{slice_get_read}
use Rattle.mm_goto.specs.Valid.{is_join}
use Rattle.mm_graph.specs.reading.Accesses.{JoinsAt, first, nowhere}
use Rattle.mm_graph.proofs.Extremes.{none_more}
use Rattle.mm_graph.proofs.turns.first_join.Goals as goal

pub returns-then-is_join : goal.returns-then-is_join
returns-then-is_join c =
    let at = slice_get_read c.args.code.now (length c.args.code.now) c.code.k c.index-code-k.result refl (omega arith) c.index-code-k.is in
    first (omega arith) (rw at (sym c.is_join.ensures ∙ c.if-is_join.true)) c.code.invariant

pub code-preserved : goal.code-preserved
code-preserved c =
    let at = slice_get_read c.args.code.now (length c.args.code.now) c.code.k c.index-code-k.result refl (omega arith) c.index-code-k.is in
    none_more (JoinsAt c.args.code.now c.args.u) c.code.k
    (λ here. let is : is_join c.args.u c.index-code-k.result ≡ true = rw at at here in true≢false (sym is ∙ sym c.is_join.ensures ∙ c.if-is_join.false))
    c.code.invariant

pub returns : goal.returns
returns c = nowhere (λ j small. c.code.invariant j (omega arith))
