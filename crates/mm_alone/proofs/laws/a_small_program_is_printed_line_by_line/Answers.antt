use Rattle.mm_alone.proofs.Items.{woven_line_by_line}
use Rattle.mm_alone.proofs.laws.a_small_program_is_printed_line_by_line.Goals as goal

pub returns : goal.returns
returns c = woven_line_by_line
