use Rattle.std.proofs.Common.{◌≡◌, [], ◌≤◌, map, take, List, vec_capacity}
use Rattle.std.specs.List.{All}
use Rattle.mm_sched.specs.State.{Pending}
use Rattle.mm_sched.proofs.waiting.Waiting.new.Given as goal

abbrev pub invariant-loop : goal.invariant-loop
invariant-loop l = record { lists : map (λ v. v.items) l.lists.items ≡ map {B = List Pending} (λ thread. []) (take l.index l.threads); room : All (λ v. l.room ≤ vec_capacity v) l.lists.items }
