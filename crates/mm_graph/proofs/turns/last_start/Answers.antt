use Rattle.std.proofs.Common.{◌≡◌, ◌∙◌, ℕ, ◌+◌, true, length, sym, refl, arith, subst, Option}
use Rattle.std.proofs.lemmas.Bool.{true≢false}
use Rattle.std.proofs.lemmas.Option.{slice_get_read}
use Rattle.mm_goto.specs.Valid.{is_start}
use Rattle.mm_graph.specs.reading.Accesses.{IsLast, StartsAt}
use Rattle.mm_graph.proofs.Extremes.{last_none, last_here, last_before}
use Rattle.mm_graph.proofs.turns.last_start.Goals as goal

pub code-init : goal.code-init
code-init c = last_none (StartsAt c.args.code.now c.args.u) 0

pub code-preserved : goal.code-preserved
code-preserved c =
    let at = slice_get_read c.args.code.now (length c.args.code.now) c.code.k c.index-code-k.result refl (omega arith) c.index-code-k.is in
    let P : Option ℕ → Type 0 = IsLast (StartsAt c.args.code.now c.args.u) (c.code.k + 1) in
    elim c.if-is_start.branch [
      | goal.then-is_start w ↦
          subst P (sym w.last-is) (last_here (StartsAt c.args.code.now c.args.u) c.code.k (rw at (sym c.is_start.ensures ∙ w.if-is_start.true)))
      | goal.else-is_start w ↦
          subst P (sym w.last-is) (last_before (StartsAt c.args.code.now c.args.u) c.code.k c.code.last
          (λ here. let is : is_start c.args.u c.index-code-k.result ≡ true = rw at at here in true≢false (sym is ∙ sym c.is_start.ensures ∙ w.if-is_start.false))
          c.code.invariant)
    ]
