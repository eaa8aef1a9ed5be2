use Rattle.std.proofs.Common.{◌≡◌, map, take}
use Rattle.mm_scope.specs.Statements.{all_at, said_stmt}
use Rattle.mm_scope.specs.Steps.{after}
use Rattle.mm_scope.proofs.statement.+statement.Given as goal

abbrev pub invariant-read_all-loop-stmt : goal.invariant-read_all-loop-stmt
invariant-read_all-loop-stmt l = l.walk ≡ after (all_at l.around (map (said_stmt l.items l.labels) (take l.stmt-index l.stmts))) l.initial.walk
