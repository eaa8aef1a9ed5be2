use Rattle.std.proofs.Common.{◌≡◌, ℕ, ◌+◌, ◌*◌, ◌<◌, [], length}
use Rattle.std.specs.Prelude.{IfSome, slice_get, slice_index_or}
use Rattle.mm_points.specs.Sets.{Linked}
use Rattle.mm_points.specs.reading.Listed.{AreListed}
use Rattle.mm_points.proofs.listing.list_threads.Given as goal

abbrev pub invariant-threads : goal.invariant-threads
invariant-threads l = record {
  here : l.here ≡ l.base + l.t * l.step;
  size : length l.table.items ≡ l.t;
  lists : (u : ℕ) → u < l.t → IfSome (slice_get l.threads u) (λ thread. AreListed (Linked l.sets) (l.base + u * l.step) thread.code (length thread.code) (slice_index_or l.table.items u []));
}
