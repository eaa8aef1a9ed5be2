-- The cells that an instruction of a program may name are cells of the program.
use Rattle.std.proofs.Common.{◌≡◌, ℕ, zero, suc, ◌<◌, List, [], ◌∷◌, length, arith, subst, Some}
use Rattle.std.proofs.lemmas.Option.{slice_get_within, get_or_from_slice_get}
use Rattle.std.specs.Prelude.{slice_get, slice_index_or}
use Rattle.std.specs.List.{Contains}
use Rattle.mm_goto.specs.declared.program.Instr.{Instr}
use Rattle.mm_goto.specs.declared.program.Instr.TheVariants as instr
use Rattle.mm_goto.specs.declared.program.Target.{Target}
use Rattle.mm_goto.specs.declared.program.Thread.{Thread}
use Rattle.mm_goto.specs.declared.spot.Spot.{Spot}
use Rattle.mm_goto.specs.Checks.{targets}
use Rattle.mm_goto.specs.Listing.{Listing}
use Rattle.mm_goto.specs.PointsTo.{MayName, place, instr_at}
use Rattle.mm_goto.specs.Sites.{Names}
use Rattle.mm_goto.specs.Valid.{IsValid, IsInstrIn, IsTargetIn}
use Rattle.mm_points.proofs.InRange.{named_within, of_thread, target_bounded}
use Rattle.mm_graph.proofs.Filling.{some_and}

pub contains_at : {X : Type 0} (xs : List X) (k : ℕ) (x : X) → slice_get xs k ≡ Some x → Contains xs x
contains_at xs k x is = (k, slice_get_within xs k x is, get_or_from_slice_get xs k x x is)

contains_none : {X : Type 0} (x : X) → Contains [] x → ⊥
contains_none x h = omega (arith, h.1)

contains_one : {X : Type 0} (P : X → Type 0) (x y : X) → Contains (x ∷ []) y → P x → P y
contains_one P x y h holds = at h.0 h.1 h.2
  where
    at : (k : ℕ) → k < length (x ∷ []) → slice_index_or (x ∷ []) k y ≡ y → P y
    at zero small is = subst P is holds
    at (suc k) small is = absurd (omega arith)

target_in : (p : Listing) (thread : Thread) (it : Instr) → IsInstrIn p thread it → (to : Target) → Contains (targets it) to → IsTargetIn p thread to
target_in p thread (instr.Load l t) is to has = contains_one (IsTargetIn p thread) t to has is.1
target_in p thread (instr.Store t e) is to has = contains_one (IsTargetIn p thread) t to has is.0
target_in p thread (instr.Add l t e) is to has = contains_one (IsTargetIn p thread) t to has is.1
target_in p thread (instr.Cas l t e f) is to has = contains_one (IsTargetIn p thread) t to has is.1
target_in p thread _ is to has = absurd (contains_none to has)

pub names_within : (p : Listing) → IsValid p → (s : Spot) (c : ℕ) → Names p s c → c < length p.cells
names_within p valid s c names =
    let it = some_and (instr_at p s.thread s.index) (λ it. (to : _) × Contains (targets it) to × MayName p (place s.thread to) c) names in
    let of = of_thread p valid s.thread s.index it.0 it.1 in
    let to = it.2 in
    named_within p valid (place s.thread to.0) c (target_bounded p of.thread to.0 (target_in p of.thread it.0 of.is to.0 to.1)) to.2
