use Rattle.mm_names.specs.Threads.{IsMisuse}
use Rattle.mm_names.specs.Least.{IsLeastOf, IsBelow}
use Rattle.mm_names.proofs.thread.least_misuse.Given as goal

abbrev pub invariant-loop-index : goal.invariant-loop-index
invariant-loop-index l = IsLeastOf (IsBelow (IsMisuse l.uses) l.index) l.least
