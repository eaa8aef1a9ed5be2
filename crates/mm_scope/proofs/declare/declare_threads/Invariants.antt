use Rattle.std.proofs.Common.{◌≡◌, take}
use Rattle.mm_scope.specs.Declarations.{declared_thread}
use Rattle.mm_scope.specs.Steps.{after, in_turn}
use Rattle.mm_scope.proofs.declare.declare_threads.Given as goal

abbrev pub invariant-loop-word : goal.invariant-loop-word
invariant-loop-word l = l.walk ≡ after (in_turn (declared_thread l.around) (take l.word-index l.words)) l.initial.walk
