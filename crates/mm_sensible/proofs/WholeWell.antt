-- The items of a woven program are well, one behind another.
use Rattle.std.proofs.Common.{◌≡◌, ℕ, zero, suc, ◌+◌, ◌-◌, ◌<◌, ◌≤◌, Bool, List, [], ◌∷◌, ◌++◌, length, slice_get, codes, append-nil, arith, refl, ◌∙◌, ap, subst, Some}
use Rattle.mm_goto.specs.declared.program.Thread.{Thread}
use Rattle.mm_goto.specs.declared.shape.Shape.{Shape}
use Rattle.mm_goto.specs.Listing.{Listing}
use Rattle.mm_goto.specs.Shapes.{Fits}
use Rattle.mm_goto.specs.Sourcelike.{IsSourcelike}
use Rattle.mm_tree.specs.declared.item.Item.{Item}
use Rattle.mm_words.specs.Words as words
use Rattle.mm_instr.specs.Woven.{has_buffers, has_address, thread_item, thread_items, woven_body}
use Rattle.mm_sensible.proofs.ItemWalk.{AreWell, AreApart, none, more}
use Rattle.mm_sensible.proofs.DataItems.{IsIn, Follows, follows_behind, stands_before, well_part}
use Rattle.mm_sensible.proofs.UsesOrder.{told}
use Rattle.mm_sensible.proofs.ThreadHomes.{HasBefore}
use Rattle.mm_sensible.proofs.ThreadItems.{threads_good}
use Rattle.mm_sensible.proofs.MainItem.{main_well}

pub zero_plus : (k : ℕ) → 0 + k ≡ k
zero_plus k = omega arith

-- each of the other threads has its function
body_in : (p : Listing) (shape : Shape) (on addressed : Bool) (a : ℕ) (threads : List Thread) (u : ℕ) → a ≤ u → u < a + length threads → (thread : Thread) × IsIn (thread_items p shape on addressed a threads) (thread_item p shape on addressed u thread)
body_in p shape on addressed a [] u above below = absurd (omega (arith, above, below))
body_in p shape on addressed a (t ∷ threads) u above below = by (u - a) (let e : u ≡ a + (u - a) = omega (arith, above) in e) (λ low high. body_in p shape on addressed (a + 1) threads u low high)
  where
    by : (d : ℕ) → u ≡ a + d → (a + 1 ≤ u → u < (a + 1) + length threads → (thread : Thread) × IsIn (thread_items p shape on addressed (a + 1) threads) (thread_item p shape on addressed u thread)) → (thread : Thread) × IsIn (thread_items p shape on addressed a (t ∷ threads)) (thread_item p shape on addressed u thread)
    by zero e rest = (t, (0, omega arith, ap (λ v. Some (thread_item p shape on addressed v t)) (let q : a ≡ u = omega (arith, e) in q)))
    by (suc d) e rest =
        let r = rest (omega (arith, e)) (omega (arith, below)) in
        (r.0, (suc r.1.0, (let q = r.1.1 in omega (arith, q)), r.1.2))

module _ (p : Listing) (shape : Shape) (s : IsSourcelike p) (fits : Fits p shape) (items : List Item) (apart : AreApart items) where
  -- the functions, from place b on
  pub functions_well : (b : ℕ) (main : Thread) (others : List Thread) → p.threads ≡ main ∷ others → HasBefore p shape items b
      → Follows items b (thread_items p shape (has_buffers shape) (has_address p) 1 others ++ words.int (codes "main") [] (woven_body p shape (has_buffers shape) (has_address p) 0 main) ∷ [])
      → AreWell items (told main.code) b (thread_items p shape (has_buffers shape) (has_address p) 1 others ++ words.int (codes "main") [] (woven_body p shape (has_buffers shape) (has_address p) 0 main) ∷ [])
  functions_well b main others e before h =
      let on : Bool = has_buffers shape in
      let addressed : Bool = has_address p in
      let ts : List Item = thread_items p shape on addressed 1 others in
      let last : Item = words.int (codes "main") [] (woven_body p shape on addressed 0 main) in
      let behind = follows_behind items b ts (last ∷ []) h in
      let at : slice_get items (b + length ts) ≡ Some last = ap (slice_get items) (let q : b + length ts ≡ (b + length ts) + 0 = omega arith in q) ∙ behind 0 in
      let many : length p.threads ≡ suc (length others) = ap length e in
      well_part items b b ts (last ∷ []) (told main.code) (omega arith) h
      (threads_good p shape s fits items apart b before 1 others (omega arith) (λ j. ap (λ xs. slice_get xs (1 + j)) e ∙ ap (slice_get (main ∷ others)) (let q : 1 + j ≡ suc j = omega arith in q)))
      (subst (λ us. AreWell items us (b + length ts) (last ∷ [])) (append-nil (told main.code))
      (more at refl (main_well p shape s fits items apart b before main (ap (λ xs. slice_get xs 0) e) (b + length ts) (omega arith)
      (λ u some less. let f = body_in p shape on addressed 1 others u some (omega (arith, many, less)) in (f.0, stands_before items b ts (last ∷ []) (thread_item p shape on addressed u f.0) h f.1)) at) none))
