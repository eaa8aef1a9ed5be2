use Rattle.std.proofs.Common.{◌+◌, ◌*◌}
use Rattle.mm_parse_expr.proofs.reading.+reading.Given as goal

abbrev pub decreases-read_expr : goal.decreases-read_expr
decreases-read_expr l = 32 * l.depth

abbrev pub decreases-read_unary : goal.decreases-read_unary
decreases-read_unary l = 32 * l.depth

abbrev pub decreases-read_index : goal.decreases-read_index
decreases-read_index l = 32 * l.depth + 1

abbrev pub decreases-read_primary : goal.decreases-read_primary
decreases-read_primary l = 32 * l.depth + 2

abbrev pub decreases-read_signed : goal.decreases-read_signed
decreases-read_signed l = 32 * l.depth + 1

abbrev pub decreases-read_pointed : goal.decreases-read_pointed
decreases-read_pointed l = 32 * l.depth + 1

abbrev pub decreases-read_address : goal.decreases-read_address
decreases-read_address l = 32 * l.depth + 2

abbrev pub decreases-read_open_unary : goal.decreases-read_open_unary
decreases-read_open_unary l = 32 * l.depth + 3

abbrev pub decreases-read_level : goal.decreases-read_level
decreases-read_level l = 32 * l.depth + 4 + 2 * l.level

abbrev pub decreases-read_more : goal.decreases-read_more
decreases-read_more l = 32 * l.depth + 5 + 2 * l.level

abbrev pub decreases-read_choice : goal.decreases-read_choice
decreases-read_choice l = 32 * l.depth + 1
