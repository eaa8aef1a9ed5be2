use Rattle.std.proofs.Common.{◌≡◌, ◌&&◌, length}
use Rattle.mm_scope.specs.Notes.{all_noted}
use Rattle.mm_scope.specs.Values.{arguments, are_known}
use Rattle.mm_scope.proofs.value.check_arguments.Given as goal

abbrev pub decreases-loop-args : goal.decreases-loop-args
decreases-loop-args l = length l.args

abbrev pub invariant-loop-args : goal.invariant-loop-args
invariant-loop-args l = record {
  notes : all_noted l.notes (arguments l.scope l.params l.args) ≡ all_noted l.initial.notes (arguments l.scope l.initial.params l.initial.args);
  known : (l.known && are_known l.scope l.params l.args) ≡ are_known l.scope l.initial.params l.initial.args;
}
