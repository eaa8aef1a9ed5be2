-- The cells of an access can be listed.
use Rattle.std.proofs.Common.{ℕ, ◌+◌, ◌<◌, List, inl, inr, Some, None, Option, arith}
use Rattle.std.specs.List.{Contains}
use Rattle.std.specs.List.Sorted.{IsStrictlyIncreasing}
use Rattle.std.specs.Prelude.{◌↔◌, slice_get}
use Rattle.mm_goto.specs.declared.program.Target.{Target}
use Rattle.mm_goto.specs.declared.program.Instr.{Instr}
use Rattle.mm_goto.specs.declared.spot.Spot.{Spot}
use Rattle.mm_goto.specs.Checks.{targets}
use Rattle.mm_goto.specs.Listing.{Listing}
use Rattle.mm_goto.specs.PointsTo.{MayName, place, instr_at}
use Rattle.mm_goto.specs.Sites.{Names}
use Rattle.mm_decided.proofs.Deciding.{Decided, as_well, some_and, of_option, some_at, at_contained, contained_at, total, total_above, listed}
use Rattle.mm_decided.proofs.Naming.{target_ends, most_cells, named_below, place_decided}

-- a target of the instruction may name the cell
abbrev NamesBy : Listing → ℕ → ℕ → Instr → Type 0
NamesBy p t c it = (to : Target) × Contains (targets it) to × MayName p (place t to) c

pub names_decided : (p : Listing) (s : Spot) (c : ℕ) → Decided (Names p s c)
names_decided p s c = of_option (instr_at p s.thread s.index) (NamesBy p s.thread c) (λ (it : Instr).
    as_well (λ h. contained_at (targets it) (λ to. MayName p (place s.thread to) c) h) (λ h. at_contained (targets it) (λ to. MayName p (place s.thread to) c) h.0 h.1 h.2)
    (some_at (targets it) (λ to. MayName p (place s.thread to) c) (λ to. place_decided p s.thread to c)))

abbrev ends_at : Option Instr → ℕ
ends_at None = 0
ends_at (Some it) = total target_ends (targets it)

pub cells_end : Listing → Spot → ℕ
cells_end p s = most_cells p + ends_at (instr_at p s.thread s.index)

pub names_below : (p : Listing) (s : Spot) (c : ℕ) → Names p s c → c < cells_end p s
unfolding cells_end
names_below p s c names =
    let at = some_and (instr_at p s.thread s.index) (NamesBy p s.thread c) names in
    let to = at.2.0 in
    let by = at_contained (targets at.0) (λ to. MayName p (place s.thread to) c) to at.2.1 at.2.2 in
    let here = some_and (slice_get (targets at.0) by.0) (λ to. MayName p (place s.thread to) c) by.1 in
    let all = total_above target_ends (targets at.0) by.0 here.0 here.1 in
    rw at.1 (elim (named_below p (place s.thread here.0) c here.2) [ inl h ↦ omega arith | inr h ↦ omega arith ])

pub cells_listed : (p : Listing) (s : Spot) → (cells : List ℕ) × IsStrictlyIncreasing cells × ((c : ℕ) → Contains cells c ↔ Names p s c)
cells_listed p s =
    let all = listed (Names p s) (names_decided p s) (cells_end p s) in
    (all.cells, all.ordered, λ c. (λ h. ((all.each c).0 h).0, λ h. (all.each c).1 (h, names_below p s c h)))
