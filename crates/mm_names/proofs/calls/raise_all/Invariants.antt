use Rattle.std.proofs.Common.{◌≡◌, length}
use Rattle.mm_names.proofs.calls.raise_all.Given as goal

abbrev pub invariant-loop-call : goal.invariant-loop-call
invariant-loop-call l = length l.ranks ≡ length l.initial.ranks
