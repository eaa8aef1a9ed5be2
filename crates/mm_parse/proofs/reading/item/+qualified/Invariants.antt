use Rattle.std.proofs.Common.{◌+◌, ◌*◌}
use Rattle.mm_parse.proofs.reading.item.+qualified.Given as goal

abbrev pub decreases-read_qualified : goal.decreases-read_qualified
decreases-read_qualified l = 2 * l.depth

abbrev pub decreases-read_qualified_by : goal.decreases-read_qualified_by
decreases-read_qualified_by l = 2 * l.depth + 1
