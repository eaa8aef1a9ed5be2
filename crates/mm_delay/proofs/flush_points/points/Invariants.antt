use Rattle.std.proofs.Common.{◌≡◌, ℕ, ◌<◌, [], length, Some}
use Rattle.std.specs.Prelude.{slice_get, slice_index_or}
use Rattle.mm_bits.specs.Words.{Has}
use Rattle.mm_goto.specs.declared.program.Thread.{Thread}
use Rattle.mm_delay.specs.reading.Points.{MarksPoints}
use Rattle.mm_delay.proofs.flush_points.points.Given as goal

abbrev pub invariant-threads : goal.invariant-threads
invariant-threads l = record {
  size : length l.rows.items ≡ l.t;
  each : (u : ℕ) → u < l.t → (thread : Thread) → slice_get l.code u ≡ Some thread
      → MarksPoints l.model thread.code (slice_index_or l.near u []) (slice_index_or l.own u []) (Has l.threads.words u) (Has l.threads.words) (slice_index_or l.rows.items u []);
}
