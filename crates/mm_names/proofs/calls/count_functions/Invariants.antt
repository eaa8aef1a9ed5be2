use Rattle.std.proofs.Common.{ℕ, ◌<◌, get_or}
use Rattle.mm_scope.specs.declared.notes.Call.{Call}
use Rattle.mm_names.proofs.calls.count_functions.Given as goal

abbrev pub invariant-loop-call : goal.invariant-loop-call
invariant-loop-call l = (k : ℕ) (d : Call) → k < l.call-index → ((get_or l.calls k d).caller < l.functions) × ((get_or l.calls k d).callee < l.functions)
