use Rattle.std.proofs.Common.{◌≡◌, ◌+◌, ◌*◌}
use Rattle.mm_grammar.specs.reading.StatementReading.{body}
use Rattle.mm_parse.proofs.Joined.{joined}
use Rattle.mm_parse.proofs.reading.statement.+statement.Given as goal

abbrev pub decreases-read_stmt : goal.decreases-read_stmt
decreases-read_stmt l = 8 * l.depth + 0

abbrev pub decreases-read_else : goal.decreases-read_else
decreases-read_else l = 8 * l.depth + 1

abbrev pub decreases-read_when : goal.decreases-read_when
decreases-read_when l = 8 * l.depth + 2

abbrev pub decreases-read_held : goal.decreases-read_held
decreases-read_held l = 8 * l.depth + 1

abbrev pub decreases-read_block : goal.decreases-read_block
decreases-read_block l = 8 * l.depth + 1

abbrev pub decreases-read_within : goal.decreases-read_within
decreases-read_within l = 8 * l.depth + 3

abbrev pub decreases-read_next : goal.decreases-read_next
decreases-read_next l = 8 * l.depth + 4

abbrev pub decreases-read_body : goal.decreases-read_body
decreases-read_body l = 8 * l.depth + 5

abbrev pub invariant-read_body-loop-left : goal.invariant-read_body-loop-left
invariant-read_body-loop-left l = joined l.stmts.items (body l.left l.rest) ≡ body l.fn.bound l.fn.ts

abbrev pub decreases-read_body-loop-left : goal.decreases-read_body-loop-left
decreases-read_body-loop-left l = l.left
