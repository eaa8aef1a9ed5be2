use Rattle.std.proofs.Common.{List, subst, inl, inr}
use Rattle.std.specs.Prelude.{◌<◌, ◌↔◌, ◌⊎◌}
use Rattle.mm_bits.specs.Words.{Has}
use Rattle.mm_goto.specs.declared.program.Cell.{Cell}
use Rattle.mm_goto.specs.declared.program.Thread.{Thread}
use Rattle.mm_delay.specs.reading.Addressed.{InThreads, InStarts}
use Rattle.mm_delay.proofs.Gathering.{adds_both}
use Rattle.mm_delay.proofs.Standing.{addressed_is}
use Rattle.mm_delay.proofs.addressed.addressed.Goals as goal

pub returns : goal.returns
returns c = λ n.
    let P : List Thread → Type 0 = λ threads. Has c.add_threads.new.into.words n ↔ (Has c.empty-found.result.words n ⊎ (InThreads threads n × (n < 1024))) in
    let Q : List Cell → Type 0 = λ cells. Has c.add_starts.new.into.words n ↔ (Has c.add_threads.new.into.words n ⊎ (InStarts cells n × (n < 1024))) in
    let all = adds_both (subst P c.threads.ensures.threads (c.add_threads.ensures n)) (subst Q c.cells.ensures (c.add_starts.ensures n)) (addressed_is c.args.program.now n) in (
      λ h. elim (all.0 h) [ inl none ↦ absurd (c.empty-found.ensures n none) | inr a ↦ a.0 ],
      λ a. all.1 (inr (a, c.requires n a)),
    )
