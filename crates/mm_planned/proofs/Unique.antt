-- A program has one plan.
use Rattle.std.proofs.Common.{◌≡◌, ◌∙◌, ℕ, suc, ◌<◌, ◌≤◌, Bool, true, false, List, [], ◌∷◌, length, inl, inr, arith, refl, sym, subst, Some}
use Rattle.std.specs.Prelude.{◌↔◌, ◌⊎◌, IsTrue, slice_get, slice_index_or}
use Rattle.std.proofs.lemmas.Bool.{true≢false, cases_lt}
use Rattle.std.proofs.lemmas.Option.{slice_get_within}
use Rattle.mm_goto.specs.Bounds.{Bounding}
use Rattle.mm_goto.specs.declared.model.Model.{Model}
use Rattle.mm_goto.specs.declared.program.Instr.{Instr}
use Rattle.mm_goto.specs.declared.program.Thread.{Thread}
use Rattle.mm_goto.specs.declared.shape.Head.{Head}
use Rattle.mm_goto.specs.declared.shape.Shape.{Shape}
use Rattle.mm_goto.specs.declared.spot.Spot.{Spot}
use Rattle.mm_goto.specs.Listing.{Listing}
use Rattle.mm_goto.specs.PointsTo.{instr_at}
use Rattle.mm_goto.specs.Shapes.{Fits, HasFlags, IsFlushPoint, IsMoved, flag_at}
use Rattle.mm_graph.proofs.Pairs.{there_is}
use Rattle.mm_points.proofs.Derived.{instr_is}
use Rattle.mm_delay.specs.Plans.{IsPlanOf}
use Rattle.mm_delay.proofs.Fitting.{row_there}
use Rattle.mm_delay.proofs.Pushing.{past_end}
use Rattle.mm_planned.proofs.OneHead.{one_head}

-- ---- rows of flags

same_flag : (x y : Bool) → IsTrue x ↔ IsTrue y → x ≡ y
same_flag true true same = refl
same_flag false false same = refl
same_flag true false same = absurd (true≢false (sym (same.0 refl)))
same_flag false true same = absurd (true≢false (sym (same.1 refl)))

-- rows that are as long and have the same flags raised are equal
same_row : (xs ys : List Bool) → length xs ≡ length ys → ((k : ℕ) → IsTrue (slice_index_or xs k false) ↔ IsTrue (slice_index_or ys k false)) → xs ≡ ys
same_row [] [] size same = refl
same_row [] (y ∷ ys) size same = absurd (omega (arith, size))
same_row (x ∷ xs) [] size same = absurd (omega (arith, size))
same_row (x ∷ xs) (y ∷ ys) size same =
    let first : x ≡ y = same_flag x y (same 0) in
    let rest : xs ≡ ys = same_row xs ys (omega (arith, size)) (λ k. same (suc k)) in
    λ i. first i ∷ rest i

same_rows : (rows others : List (List Bool)) → length rows ≡ length others
    → ((t : ℕ) (row other : List Bool) → slice_get rows t ≡ Some row → slice_get others t ≡ Some other → row ≡ other) → rows ≡ others
same_rows [] [] size same = refl
same_rows [] (o ∷ others) size same = absurd (omega (arith, size))
same_rows (r ∷ rows) [] size same = absurd (omega (arith, size))
same_rows (r ∷ rows) (o ∷ others) size same =
    let first : r ≡ o = same 0 r o refl refl in
    let rest : rows ≡ others = same_rows rows others (omega (arith, size)) (λ t row other. same (suc t) row other) in
    λ i. first i ∷ rest i

module _ (p : Listing) where
  -- flags of one program that are raised at the same instructions are equal
  same_flags : (a b : List (List Bool)) → HasFlags p a → HasFlags p b → ((t k : ℕ) → IsTrue (flag_at a t k) ↔ IsTrue (flag_at b t k)) → a ≡ b
  same_flags a b h g same = same_rows a b (h.0 ∙ sym g.0) by
    where
      by : (t : ℕ) (row other : List Bool) → slice_get a t ≡ Some row → slice_get b t ≡ Some other → row ≡ other
      by t row other is at =
          let within = slice_get_within a t row is in
          let thread = there_is p.threads t (let size = h.0 in omega (arith, within, size)) in
          let P : List Bool → Type 0 = λ r. (k : ℕ) → IsTrue (slice_index_or r k false) ↔ IsTrue (flag_at b t k) in
          let Q : List Bool → Type 0 = λ r. (k : ℕ) → IsTrue (slice_index_or row k false) ↔ IsTrue (slice_index_or r k false) in
          same_row row other (h.1 t thread.0 row thread.1 is ∙ sym (g.1 t thread.0 other thread.1 at)) (subst Q (row_there b t other at) (subst P (row_there a t row is) (λ k. same t k)))

  -- a raised flag is that of an instruction
  of_instr : (a : List (List Bool)) → HasFlags p a → (t k : ℕ) → IsTrue (flag_at a t k) → (it : Instr) × (instr_at p t k ≡ Some it)
  of_instr a h t k up = row (cases_lt t (length a))
    where
      none : (k : ℕ) → IsTrue (slice_index_or [] k false) → ⊥
      none k up = true≢false (sym up)

      row : (t < length a) ⊎ (length a ≤ t) → (it : Instr) × (instr_at p t k ≡ Some it)
      row (inr past) = absurd (none k (subst (λ (r : List Bool). IsTrue (slice_index_or r k false)) (past_end a t [] past) up))
      row (inl small) =
          let r = there_is a t small in
          let thread = there_is p.threads t (let size = h.0 in omega (arith, small, size)) in
          let raised : IsTrue (slice_index_or r.0 k false) = subst (λ (r : List Bool). IsTrue (slice_index_or r k false)) (row_there a t r.0 r.1) up in
          within r.0 thread.0 thread.1 (h.1 t thread.0 r.0 thread.1 r.1) raised (cases_lt k (length r.0))
        where
          within : (r : List Bool) (thread : Thread) → slice_get p.threads t ≡ Some thread → length r ≡ length thread.code → IsTrue (slice_index_or r k false) → (k < length r) ⊎ (length r ≤ k) → (it : Instr) × (instr_at p t k ≡ Some it)
          within r thread runs size raised (inr past) = absurd (true≢false (sym raised ∙ past_end r k false past))
          within r thread runs size raised (inl small) = let it = there_is thread.code k (omega (arith, small, size)) in (it.0, instr_is p t k thread it.0 runs it.1)

  -- two shapes that fit the program and buffer the same stores for one model and one bound
  module _ (s t : Shape) (f : Fits p s) (g : Fits p t) (model : s.model ≡ t.model) (bound : s.bound ≡ t.bound) (buffered : s.buffered ≡ t.buffered) where
    same_moved : s.moved ≡ t.moved
    same_moved = same_row s.moved t.moved (f.moved_flags ∙ sym g.moved_flags) (λ c.
        let is : IsMoved p s.buffered c ↔ IsMoved p t.buffered c = (λ h. subst (λ b. IsMoved p b c) buffered h, λ h. subst (λ b. IsMoved p b c) (sym buffered) h) in (
          λ up. (g.moved c).1 (is.0 ((f.moved c).0 up)),
          λ up. (f.moved c).1 (is.1 ((g.moved c).0 up)),
        ))

    same_points : s.points ≡ t.points
    same_points = same_flags s.points t.points f.point_flags g.point_flags (λ u k. (there u k, back u k))
      where
        there : (u k : ℕ) → IsTrue (flag_at s.points u k) → IsTrue (flag_at t.points u k)
        there u k up =
            let it = of_instr s.points f.point_flags u k up in
            let at : Spot = record { thread = u; index = k } in
            (g.points u k it.0 it.1).1 (subst (λ b. IsFlushPoint p t.model b at it.0) buffered (subst (λ m. IsFlushPoint p m s.buffered at it.0) model ((f.points u k it.0 it.1).0 up)))

        back : (u k : ℕ) → IsTrue (flag_at t.points u k) → IsTrue (flag_at s.points u k)
        back u k up =
            let it = of_instr t.points g.point_flags u k up in
            let at : Spot = record { thread = u; index = k } in
            (f.points u k it.0 it.1).1 (subst (λ b. IsFlushPoint p s.model b at it.0) (sym buffered) (subst (λ m. IsFlushPoint p m t.buffered at it.0) (sym model) ((g.points u k it.0 it.1).0 up)))

    same_shape : s ≡ t
    same_shape = λ x. record { model = model x; bound = bound x; buffered = buffered x; moved = same_moved x; points = same_points x }

pub one_plan : (p : Listing) (m : Model) (bound : Bounding) (s t : Shape) (h k : Head) → IsPlanOf p m bound s h → IsPlanOf p m bound t k → (s ≡ t) × (h ≡ k)
one_plan p m bound s t h k a b =
    let buffered : s.buffered ≡ t.buffered = same_flags p s.buffered t.buffered a.fits.buffered_flags b.fits.buffered_flags (λ u i. (λ up. (b.buffered u i).1 ((a.buffered u i).0 up), λ up. (a.buffered u i).1 ((b.buffered u i).0 up))) in
    (same_shape p s t a.fits b.fits (a.shape_model ∙ sym b.shape_model) (a.shape_bound ∙ sym b.shape_bound) buffered, one_head m bound p h k a.head b.head)
