-- A store has a first delay cycle, or none.
use Rattle.std.proofs.Common.{ℕ, List, length}
use Rattle.std.specs.Prelude.{◌⊎◌}
use Rattle.mm_goto.specs.declared.model.Model.{Model}
use Rattle.mm_goto.specs.DelayCycles.{Unsafe, Edge, IsCycleOf, HasDelayCycle}
use Rattle.mm_goto.specs.Listing.{Listing}
use Rattle.mm_goto.specs.Sites.{Com, Between, sites}
use Rattle.mm_decided.proofs.Between.{unsafe_decided, com_decided, edge_decided, between}
use Rattle.mm_decided.proofs.Firsts.{cycle_or_none}

pub first_cycle_or_none : (p : Listing) (m : Model) (s : ℕ) → ((walk : List ℕ) × IsCycleOf p m s walk) ⊎ (HasDelayCycle p m s → ⊥)
first_cycle_or_none p m s = cycle_or_none (length (sites p)) (Between p (Unsafe p m)) (Between p (Com p)) (Between p (Edge p))
    (between p (Unsafe p m) (unsafe_decided p m)) (between p (Com p) (com_decided p)) (between p (Edge p) (edge_decided p)) s
