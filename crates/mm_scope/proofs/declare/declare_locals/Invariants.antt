use Rattle.std.proofs.Common.{◌≡◌, take}
use Rattle.mm_scope.specs.Declarations.{declared_local}
use Rattle.mm_scope.specs.Steps.{after, in_turn}
use Rattle.mm_scope.proofs.declare.declare_locals.Given as goal

abbrev pub invariant-loop-local : goal.invariant-loop-local
invariant-loop-local l = l.walk ≡ after (in_turn (declared_local l.items l.around) (take l.local-index l.locals)) l.initial.walk
