use Rattle.std.proofs.Common.{◌≡◌, ℕ, ◌<◌, [], length, Some}
use Rattle.std.specs.Prelude.{slice_get, slice_index_or}
use Rattle.mm_goto.specs.declared.program.Thread.{Thread}
use Rattle.mm_delay.specs.reading.Sets.{AreFlagsOf}
use Rattle.mm_delay.proofs.flags.flags.Given as goal

abbrev pub invariant-threads : goal.invariant-threads
invariant-threads l = record {
  size : length l.rows.items ≡ l.t;
  each : (u : ℕ) → u < l.t → (thread : Thread) → slice_get l.threads u ≡ Some thread → AreFlagsOf l.sites l.set.words u (length thread.code) (slice_index_or l.rows.items u []);
}
