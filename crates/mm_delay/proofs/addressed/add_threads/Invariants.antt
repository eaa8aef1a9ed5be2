use Rattle.std.proofs.Common.{ℕ, ◌<◌}
use Rattle.std.specs.Prelude.{◌↔◌, ◌⊎◌}
use Rattle.mm_bits.specs.Words.{Has}
use Rattle.mm_points.proofs.Indexes.{SomeBefore}
use Rattle.mm_delay.specs.reading.Addressed.{InCode}
use Rattle.mm_delay.proofs.addressed.add_threads.Given as goal

abbrev pub invariant-threads : goal.invariant-threads
invariant-threads l = (c : ℕ) → Has l.into.words c ↔ (Has l.fn.into.words c ⊎ SomeBefore l.threads l.t (λ thread. InCode thread.code c × (c < 1024)))
