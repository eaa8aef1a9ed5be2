use Rattle.std.proofs.Common.{◌≡◌, ◌++◌, drop}
use Rattle.mm_flow.specs.Statements.{bound}
use Rattle.mm_flat_stmt.proofs.calls.bind.Given as goal

abbrev pub invariant-loop-param : goal.invariant-loop-param
invariant-loop-param l = bound l.params l.fn.first ≡ l.names ++ bound (drop l.param-index l.params) l.number
