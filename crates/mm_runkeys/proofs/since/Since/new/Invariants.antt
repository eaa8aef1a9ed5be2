use Rattle.std.proofs.Common.{◌≡◌, List, ℕ, [], map, replicate}
use Rattle.mm_runkeys.proofs.since.Since.new.Given as goal

abbrev pub invariant-loop : goal.invariant-loop
invariant-loop l = map {B = List ℕ} (λ v. v.items) l.rows.items ≡ replicate l.counter []
