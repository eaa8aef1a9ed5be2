-- The tables of a graph say what the program says.
use Rattle.std.proofs.Common.{ℕ, List, true, false, inl, inr}
use Rattle.std.specs.Prelude.{◌↔◌, ◌⊎◌, IsSomeAnd, slice_get}
use Rattle.mm_goto.specs.declared.spot.Spot.{Spot}
use Rattle.mm_goto.specs.DelayCycles.{Edge}
use Rattle.mm_goto.specs.Listing.{Listing}
use Rattle.mm_goto.specs.Sites.{Po, Undrained, Com, Ord}
use Rattle.mm_graph.specs.declared.access.Access.{Access}
use Rattle.mm_graph.specs.reading.Accesses.{AreMet, AreOrdered, IsAccessOf}
use Rattle.mm_graph.specs.reading.Marks.{passes_where}
use Rattle.mm_graph.specs.reading.Tables.{OnBoth, AreOf, FlowsIn}
use Rattle.mm_graph.proofs.Filling.{some_and, on_both}
use Rattle.mm_graph.proofs.Flowing.{po_same, undrained_same}
use Rattle.mm_graph.proofs.Laws.{com_same, ord_same}
use Rattle.mm_graph.proofs.Pairs.{on_spots}

pub iff_chain : {A B C : Type 0} → A ↔ B → B ↔ C → A ↔ C
iff_chain f g = (λ a. g.0 (f.0 a), λ c. f.1 (g.1 c))

carry : {X : Type 0} (Q R : X → X → Type 0) (xs : List X) → ((x y : X) → Q x y → R x y) → (a b : ℕ) → OnBoth Q xs a b → OnBoth R xs a b
carry Q R xs law a b h =
    let x = some_and (slice_get xs a) (λ x. IsSomeAnd (slice_get xs b) (Q x)) h in
    let y = some_and (slice_get xs b) (Q x.0) x.2 in
    (on_both R xs a b x.0 y.0 x.1 y.1).1 (law x.0 y.0 y.2)

on_law : {X : Type 0} (Q R : X → X → Type 0) (xs : List X) → ((x y : X) → Q x y ↔ R x y) → (a b : ℕ) → OnBoth Q xs a b ↔ OnBoth R xs a b
on_law Q R xs law a b = (carry Q R xs (λ x y. (law x y).0) a b, carry R Q xs (λ x y. (law x y).1) a b)

on_either : (p : Listing) (xs : List Spot) (a b : ℕ) → (OnBoth (Po p) xs a b ⊎ OnBoth (Com p) xs a b ⊎ OnBoth (Ord p) xs a b) ↔ OnBoth (Edge p) xs a b
on_either p xs a b = (
  λ h. elim h [
    | inl o ↦ carry (Po p) (Edge p) xs (λ x y r. inl r) a b o
    | inr g ↦ elim g [
      | inl c ↦ carry (Com p) (Edge p) xs (λ x y r. inr (inl r)) a b c
      | inr o ↦ carry (Ord p) (Edge p) xs (λ x y r. inr (inr r)) a b o
    ]
  ],
  λ h.
      let x = some_and (slice_get xs a) (λ x. IsSomeAnd (slice_get xs b) (Edge p x)) h in
      let y = some_and (slice_get xs b) (Edge p x.0) x.2 in
      elim y.2 [
        | inl o ↦ inl ((on_both (Po p) xs a b x.0 y.0 x.1 y.1).1 o)
        | inr g ↦ elim g [
          | inl c ↦ inr (inl ((on_both (Com p) xs a b x.0 y.0 x.1 y.1).1 c))
          | inr o ↦ inr (inr ((on_both (Ord p) xs a b x.0 y.0 x.1 y.1).1 o))
        ]
      ],
)

module _ (p : Listing) (spots : List Spot) where
  pub po_table : (now : ℕ → ℕ → Type 0) → ((x y : ℕ) → now x y ↔ OnBoth (FlowsIn p (passes_where true)) spots x y) → (a b : ℕ) → now a b ↔ OnBoth (Po p) spots a b
  po_table now all a b = iff_chain (all a b) (on_law (FlowsIn p (passes_where true)) (Po p) spots (po_same p) a b)

  pub undrained_table : (now : ℕ → ℕ → Type 0) → ((x y : ℕ) → now x y ↔ OnBoth (FlowsIn p (passes_where false)) spots x y)
      → (a b : ℕ) → now a b ↔ OnBoth (Undrained p) spots a b
  undrained_table now all a b = iff_chain (all a b) (on_law (FlowsIn p (passes_where false)) (Undrained p) spots (undrained_same p) a b)

  module _ (accesses : List Access) (of : AreOf (IsAccessOf p) spots accesses) where
    pub com_table : (now : ℕ → ℕ → Type 0) → ((x y : ℕ) → now x y ↔ OnBoth AreMet accesses x y) → (a b : ℕ) → now a b ↔ OnBoth (Com p) spots a b
    com_table now all a b = iff_chain (all a b) (on_spots (IsAccessOf p) spots accesses of AreMet (Com p) (λ s t x y of to. com_same p s t x y of to) a b)

    pub ord_table : (now : ℕ → ℕ → Type 0) → ((x y : ℕ) → now x y ↔ OnBoth AreOrdered accesses x y) → (a b : ℕ) → now a b ↔ OnBoth (Ord p) spots a b
    ord_table now all a b = iff_chain (all a b) (on_spots (IsAccessOf p) spots accesses of AreOrdered (Ord p) (λ s t x y of to. ord_same p s t x y of to) a b)

  pub edge_table : (edges po meets ord : ℕ → ℕ → Type 0) → ((x y : ℕ) → edges x y ↔ (po x y ⊎ meets x y ⊎ ord x y))
      → ((a b : ℕ) → po a b ↔ OnBoth (Po p) spots a b) → ((a b : ℕ) → meets a b ↔ OnBoth (Com p) spots a b) → ((a b : ℕ) → ord a b ↔ OnBoth (Ord p) spots a b)
      → (a b : ℕ) → edges a b ↔ OnBoth (Edge p) spots a b
  edge_table edges po meets ord all is_po is_com is_ord a b = iff_chain (all a b) (iff_chain (
    λ h. elim h [ inl o ↦ inl ((is_po a b).0 o) | inr g ↦ elim g [ inl c ↦ inr (inl ((is_com a b).0 c)) | inr o ↦ inr (inr ((is_ord a b).0 o)) ] ],
    λ h. elim h [ inl o ↦ inl ((is_po a b).1 o) | inr g ↦ elim g [ inl c ↦ inr (inl ((is_com a b).1 c)) | inr o ↦ inr (inr ((is_ord a b).1 o)) ] ],
  ) (on_either p spots a b))
