use Rattle.std.proofs.Common.{append_assoc}
use Rattle.mm_print.proofs.Texts.{indent_more}
use Rattle.mm_print.proofs.statements.put_line.Goals as goal

pub loop-level-preserved : goal.loop-level-preserved
loop-level-preserved c = rw (indent_more c.loop-level.level, c.in_ok-put-2.ensures, c.loop-level.invariant) (simp append_assoc)
