use Rattle.std.proofs.Common.{arith}
use Rattle.std.specs.Prelude.{◌<◌}
use Rattle.mm_goto.specs.declared.program.Instr.{Instr}
use Rattle.mm_goto.specs.Sourcelike.{exprs_of}
use Rattle.mm_delay.specs.reading.Addressed.{InExprs}
use Rattle.mm_delay.proofs.Gathering.{item_more, item_all}
use Rattle.mm_delay.proofs.Pushing.{item_is}
use Rattle.mm_delay.proofs.addressed.add_code.Goals as goal

pub code-preserved : goal.code-preserved
code-preserved c = λ n. item_more (λ (it : Instr). InExprs (exprs_of it) n) (n < 1024) _ c.args.code.now c.code.k _ _ _
    (item_is c.args.code.now c.code.k c.index-code-k.result c.code-test.true c.index-code-k.is) (c.code.invariant n) (c.add_instr.ensures n)

pub returns : goal.returns
returns c = λ n. item_all (λ (it : Instr). InExprs (exprs_of it) n) (n < 1024) _ c.args.code.now c.code.k _ (omega arith) (c.code.invariant n)
