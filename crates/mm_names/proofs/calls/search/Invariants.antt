use Rattle.mm_names.specs.Calls.{IsRecursion}
use Rattle.mm_names.specs.Least.{IsLeastOf, IsBelow}
use Rattle.mm_names.proofs.calls.search.Given as goal

abbrev pub invariant-loop-call : goal.invariant-loop-call
invariant-loop-call l = IsLeastOf (IsBelow (IsRecursion l.calls) l.call-index) l.least
