-- Rows of flow: from a spot to the marked spots of its thread.
use Rattle.std.proofs.Common.{◌≡◌, ◌∙◌, ℕ, ◌<◌, List, length, Bool, true, false, inl, inr, refl, sym, ap, subst, Some}
use Rattle.std.proofs.lemmas.Option.{slice_get_within}
use Rattle.std.specs.Prelude.{◌↔◌, ◌⊎◌, All, IsSomeAnd, slice_get}
use Rattle.mm_goto.specs.declared.program.Instr.{Instr}
use Rattle.mm_goto.specs.declared.spot.Spot.{Spot}
use Rattle.mm_goto.specs.Listing.{Listing}
use Rattle.mm_goto.specs.PointsTo.{instr_at}
use Rattle.mm_goto.specs.Sites.{Is, is_site, FlowsBy, Po, Undrained, is_undrained}
use Rattle.mm_goto.specs.Valid.{code_of}
use Rattle.mm_graph.specs.reading.Marks.{Marked, passes_where}
use Rattle.mm_graph.specs.reading.Tables.{OnBoth, IsMarkedIn, FlowsIn}
use Rattle.mm_graph.proofs.Filling.{some_and, on_both}
use Rattle.mm_graph.proofs.Laws.{flows_same}
use Rattle.mm_points.proofs.InRange.{all_at}

pub spot_within : (p : Listing) (s : Spot) → Is p s (λ it. is_site it ≡ true) → s.index < length (code_of p s.thread)
spot_within p s is = let at = some_and (instr_at p s.thread s.index) (λ it. is_site it ≡ true) is in slice_get_within (code_of p s.thread) s.index at.0 at.1

module _ (p : Listing) (spots : List Spot) (all : All (λ s. Is p s (λ it. is_site it ≡ true)) spots) (passes : Instr → Bool) (a : ℕ) (spot : Spot) (stands : slice_get spots a ≡ Some spot)
    (seen : List Bool) (marks : (k : ℕ) → k < length (code_of p spot.thread) → Marked seen k ↔ FlowsBy passes (code_of p spot.thread) spot.index k) where
  one_row : (y : ℕ) (t : Spot) → slice_get spots y ≡ Some t → IsMarkedIn seen spot t ↔ FlowsIn p passes spot t
  one_row y t is = (
    λ m. (m.0, (marks t.index (within m.0)).0 m.1),
    λ f. (f.0, (marks t.index (within f.0)).1 f.1),
  )
    where
      within : t.thread ≡ spot.thread → t.index < length (code_of p spot.thread)
      within e = let P : ℕ → Type 0 = λ n. t.index < length (code_of p n) in subst P e (spot_within p t (all_at (λ s. Is p s (λ it. is_site it ≡ true)) spots all y t is))

  both_rows : (Q R : Spot → Spot → Type 0) (x y : ℕ) → x ≡ a → ((t : Spot) → slice_get spots y ≡ Some t → Q spot t → R spot t) → OnBoth Q spots x y → OnBoth R spots x y
  both_rows Q R x y e law h =
      let is : slice_get spots x ≡ Some spot = ap (slice_get spots) e ∙ stands in
      let at : IsSomeAnd (slice_get spots y) (Q spot) = rw is at h in
      let t = some_and (slice_get spots y) (Q spot) at in
      (on_both R spots x y spot t.0 is t.1).1 (law t.0 t.1 t.2)

  -- the marked spots of the row are those to which control may flow
  pub flow_same : (new now : ℕ → ℕ → Type 0) → ((x y : ℕ) → new x y ↔ (now x y ⊎ ((x ≡ a) × OnBoth (IsMarkedIn seen) spots x y)))
      → (x y : ℕ) → new x y ↔ (now x y ⊎ ((x ≡ a) × OnBoth (FlowsIn p passes) spots x y))
  flow_same new now row x y = (
    λ n. elim ((row x y).0 n) [ inl o ↦ inl o | inr m ↦ inr (m.0, both_rows (IsMarkedIn seen) (FlowsIn p passes) x y m.0 (λ t is. (one_row y t is).0) m.1) ],
    λ h. elim h [ inl o ↦ (row x y).1 (inl o) | inr f ↦ (row x y).1 (inr (f.0, both_rows (FlowsIn p passes) (IsMarkedIn seen) x y f.0 (λ t is. (one_row y t is).1) f.1)) ],
  )

-- what the tables of flow say is program order
pub po_same : (p : Listing) (s t : Spot) → FlowsIn p (passes_where true) s t ↔ Po p s t
po_same p s t = (
  λ f. record { thread = sym f.0; flow = flows_same (passes_where true) (λ it. true) (code_of p s.thread) s.index (λ it. refl) t.index f.1 },
  λ o. (sym o.thread, flows_same (λ it. true) (passes_where true) (code_of p s.thread) s.index (λ it. refl) t.index o.flow),
)

pub undrained_same : (p : Listing) (s t : Spot) → FlowsIn p (passes_where false) s t ↔ Undrained p s t
undrained_same p s t = (
  λ f. record { thread = sym f.0; flow = flows_same (passes_where false) is_undrained (code_of p s.thread) s.index (λ it. refl) t.index f.1 },
  λ o. (sym o.thread, flows_same is_undrained (passes_where false) (code_of p s.thread) s.index (λ it. refl) t.index o.flow),
)
