use Rattle.std.proofs.Common.{List, arith, subst}
use Rattle.std.proofs.lemmas.Option.{slice_get-get_or}
use Rattle.std.specs.Prelude.{◌<◌, ◌↔◌, ◌⊎◌}
use Rattle.mm_bits.specs.Words.{Has}
use Rattle.mm_goto.specs.declared.program.Instr.{Instr}
use Rattle.mm_goto.specs.declared.program.Thread.{Thread}
use Rattle.mm_delay.specs.reading.Addressed.{InCode}
use Rattle.mm_delay.proofs.Gathering.{item_more, item_all}
use Rattle.mm_delay.proofs.addressed.add_threads.Goals as goal

pub threads-preserved : goal.threads-preserved
threads-preserved c = λ n.
    let P : List Instr → Type 0 = λ code. Has c.add_code.new.into.words n ↔ (Has c.threads.into.words n ⊎ (InCode code n × (n < 1024))) in
    item_more (λ (thread : Thread). InCode thread.code n) (n < 1024) _ c.args.threads.now c.threads.t _ _ _
    (slice_get-get_or c.args.threads.now c.threads.t c.index-threads-t.result c.threads-test.true) (c.threads.invariant n) (subst P c.items.ensures (c.add_code.ensures n))

pub returns : goal.returns
returns c = λ n. item_all (λ (thread : Thread). InCode thread.code n) (n < 1024) _ c.args.threads.now c.threads.t _ (omega arith) (c.threads.invariant n)
