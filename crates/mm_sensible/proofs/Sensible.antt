-- The names and types of woven programs make sense.
use Rattle.std.proofs.Common.{◌≡◌, ◌≤◌, List, [], ◌∷◌, length, slice_get, arith, refl, ap}
use Rattle.mm_goto.specs.declared.program.Thread.{Thread}
use Rattle.mm_goto.specs.declared.shape.Shape.{Shape}
use Rattle.mm_goto.specs.Bounds.{IsBound}
use Rattle.mm_goto.specs.Listing.{Listing}
use Rattle.mm_goto.specs.Shapes.{Fits}
use Rattle.mm_goto.specs.Sourcelike.{IsSourcelike}
use Rattle.mm_tree.specs.Places.{without_places}
use Rattle.mm_tree.specs.declared.item.Tree.{Tree}
use Rattle.mm_tree.specs.declared.side.Side.TheVariants.{Output}
use Rattle.mm_names.specs.Programs.{IsAccepted}
use Rattle.mm_instr.specs.Woven.{woven, woven_items}
use Rattle.mm_sensible.proofs.DistinctItems.{distinct_apart}
use Rattle.mm_sensible.proofs.DistinctWoven.{woven_distinct}
use Rattle.mm_sensible.proofs.Joining.{accepted_where_well}
use Rattle.mm_sensible.proofs.StartsOrder.{main_orderly}
use Rattle.mm_sensible.proofs.UsesOrder.{told}
use Rattle.mm_sensible.proofs.WovenWell.{woven_well}

pub woven_sensible : (p : Listing) (shape : Shape) (u : Tree) → IsSourcelike p → length p.cells ≤ 256 → IsBound shape.bound → Fits p shape → without_places u ≡ without_places (woven p shape) → IsAccepted Output u
woven_sensible p shape u source few bound fits same = by p.threads refl source.valid.main
  where
    by : (threads : List Thread) → p.threads ≡ threads → 1 ≤ length threads → IsAccepted Output u
    by [] e some = absurd (omega (arith, some))
    by (main ∷ others) e some =
        accepted_where_well p shape u (told main.code) main others e source same
        (woven_well p shape main others source few bound fits e (distinct_apart (woven_items p shape) (woven_distinct p shape source main others e)))
        (main_orderly p source main (ap (λ xs. slice_get xs 0) e))
