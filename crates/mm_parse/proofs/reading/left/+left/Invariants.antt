use Rattle.std.proofs.Common.{◌+◌, ◌*◌}
use Rattle.mm_parse.proofs.reading.left.+left.Given as goal

abbrev pub decreases-read_grouped_left : goal.decreases-read_grouped_left
decreases-read_grouped_left l = 2 * l.depth + 1

abbrev pub decreases-read_left : goal.decreases-read_left
decreases-read_left l = 2 * l.depth
