-- What a fold makes of each kind of expression. A fold computes by these equations alone.
use Rattle.std.proofs.Common.{◌≡◌, ℕ, ℤ}
use denote.Hole.Carrier
use Rattle.mm_goto.specs.declared.pure.Unary.{Unary}
use Rattle.mm_goto.specs.declared.pure.Binary.{Binary}
use Rattle.mm_goto.specs.declared.pure.Pure.{Pure}
use Rattle.mm_goto.specs.declared.pure.Pure.TheOpen as pure
use Rattle.mm_goto.specs.declared.pure.Pure.TheViews.{roll-Pure}
use Rattle.mm_goto.specs.declared.pure.Pure.TheFolds.{fold-Pure, fold-roll-Pure}
use Rattle.mm_goto.specs.Terms.{constant, the_local, applied, combined}

pub fold_constant : {C : Type 0} (step : pure.Pure-F C → C) (z : ℤ) → fold-Pure C step (constant z) ≡ step (pure.Const z)
unfolding constant roll-Pure denote.Hole.Carrier.roll
fold_constant {C = C} step z = fold-roll-Pure C step (pure.Const z)

pub fold_local : {C : Type 0} (step : pure.Pure-F C → C) (l : ℕ) → fold-Pure C step (the_local l) ≡ step (pure.Local l)
unfolding the_local roll-Pure denote.Hole.Carrier.roll
fold_local {C = C} step l = fold-roll-Pure C step (pure.Local l)

pub fold_applied : {C : Type 0} (step : pure.Pure-F C → C) (op : Unary) (x : Pure) → fold-Pure C step (applied op x) ≡ step (pure.Un op (fold-Pure C step x))
unfolding applied roll-Pure denote.Hole.Carrier.roll
fold_applied {C = C} step op x = fold-roll-Pure C step (pure.Un op x)

pub fold_combined : {C : Type 0} (step : pure.Pure-F C → C) (op : Binary) (x y : Pure) → fold-Pure C step (combined op x y) ≡ step (pure.Bin op (fold-Pure C step x) (fold-Pure C step y))
unfolding combined roll-Pure denote.Hole.Carrier.roll
fold_combined {C = C} step op x y = fold-roll-Pure C step (pure.Bin op x y)
