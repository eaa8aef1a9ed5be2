use Rattle.std.proofs.Common.{◌≡◌, take}
use Rattle.mm_scope.specs.Steps.{after, in_turn}
use Rattle.mm_names.specs.Items.{declared_param}
use Rattle.mm_names.proofs.item.declare_params.Given as goal

abbrev pub invariant-loop-param : goal.invariant-loop-param
invariant-loop-param l = l.walk ≡ after (in_turn (declared_param l.around) (take l.param-index l.params)) l.initial.walk
