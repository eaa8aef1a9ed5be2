use Rattle.std.proofs.Common.{◌≡◌, fold, take}
use Rattle.mm_names.specs.Results.{laid}
use Rattle.mm_names.proofs.layout.lay_globals.Given as goal

abbrev pub invariant-loop-global : goal.invariant-loop-global
invariant-loop-global l = l.layout ≡ fold laid l.initial.layout (take l.global-index l.globals)
