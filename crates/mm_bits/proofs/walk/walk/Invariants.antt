use Rattle.std.proofs.Common.{◌≡◌, ℕ, ◌+◌, ◌<◌, List, ◌++◌, length}
use Rattle.mm_goto.specs.Paths.{IsFirstPath}
use Rattle.mm_bits.specs.Table.{Linked}
use Rattle.mm_bits.proofs.walk.walk.Given as goal

abbrev pub invariant-path : goal.invariant-path
invariant-path l = record {
  within : l.d < length l.sets;
  has : Linked l.sets l.d l.here;
  first : (e : ℕ) → e + 1 ≡ l.d → ¬ (Linked l.sets e l.here);
  on : (rest : List ℕ) → IsFirstPath (Linked l.rows) l.here rest l.levels.goal → IsFirstPath (Linked l.rows) l.a (l.path.items ++ rest) l.levels.goal;
}

abbrev pub decreases-path : goal.decreases-path
decreases-path l = l.d
