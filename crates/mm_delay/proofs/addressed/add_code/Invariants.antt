use Rattle.std.proofs.Common.{ℕ, ◌<◌}
use Rattle.std.specs.Prelude.{◌↔◌, ◌⊎◌}
use Rattle.mm_bits.specs.Words.{Has}
use Rattle.mm_goto.specs.Sourcelike.{exprs_of}
use Rattle.mm_points.proofs.Indexes.{SomeBefore}
use Rattle.mm_delay.specs.reading.Addressed.{InExprs}
use Rattle.mm_delay.proofs.addressed.add_code.Given as goal

abbrev pub invariant-code : goal.invariant-code
invariant-code l = (c : ℕ) → Has l.into.words c ↔ (Has l.fn.into.words c ⊎ SomeBefore l.code l.k (λ it. InExprs (exprs_of it) c × (c < 1024)))
