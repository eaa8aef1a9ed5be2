-- A program that a source can have starts each thread once, before it waits for it, and waits for it once at most.
use Rattle.std.proofs.Common.{◌≡◌, ℕ, zero, suc, ◌+◌, ◌<◌, ◌≤◌, nat_eq, Bool, true, false, cond, List, [], ◌∷◌, length, slice_get, count_by, arith, refl, ◌∙◌, ap, subst, Some, None}
use Rattle.std.proofs.lemmas.Bool.Decides.{nat_tests}
use Rattle.std.proofs.lemmas.List.Sums.{sum_by-cons}
use Rattle.std.proofs.lemmas.Option.{same_Some}
use Rattle.mm_goto.specs.declared.program.Instr.{Instr}
use Rattle.mm_goto.specs.declared.program.Instr.TheVariants as i
use Rattle.mm_goto.specs.declared.program.Thread.{Thread}
use Rattle.mm_goto.specs.Listing.{Listing}
use Rattle.mm_goto.specs.Sourcelike.{IsSourcelike}
use Rattle.mm_goto.specs.Valid.{IsThreadIn, IsInstrIn, IsStartedByMain, code_of, is_start, is_join}
use Rattle.mm_sensible.proofs.MovedMemory.{at_place}
use Rattle.mm_sensible.proofs.NameSorts.{handle_apart}
use Rattle.mm_sensible.proofs.SoundNotes.{are_orderly}
use Rattle.mm_sensible.proofs.UsesOrder.{told, IsGood, orderly}

-- ---- counts

module _ (f : Instr → Bool) where
  count_next : (x : Instr) (xs : List Instr) → count_by f (x ∷ xs) ≡ cond (f x) 1 0 + count_by f xs
  count_next x xs = sum_by-cons (λ y. cond (f y) 1 0) x xs

  -- where one is counted, one is so
  one_counted : (xs : List Instr) → 1 ≤ count_by f xs → (k : ℕ) × (x : Instr) × (slice_get xs k ≡ Some x) × (f x ≡ true)
  one_counted [] low = absurd (omega (arith, low))
  one_counted (x ∷ xs) low = by (f x) refl (one_counted xs)
    where
      by : (b : Bool) → f x ≡ b → (1 ≤ count_by f xs → (k : ℕ) × (y : Instr) × (slice_get xs k ≡ Some y) × (f y ≡ true)) → (k : ℕ) × (y : Instr) × (slice_get (x ∷ xs) k ≡ Some y) × (f y ≡ true)
      by true e more = (0, x, refl, e)
      by false e more =
          let none : count_by f (x ∷ xs) ≡ 0 + count_by f xs = count_next x xs ∙ ap (λ b. cond b 1 0 + count_by f xs) e in
          let it = more (omega (arith, none, low)) in (suc it.0, it.1, it.2, it.3)

  -- what is so is counted
  pub counts_one : (xs : List Instr) (k : ℕ) (x : Instr) → slice_get xs k ≡ Some x → f x ≡ true → 1 ≤ count_by f xs
  counts_one [] k x at h = absurd (nothing at)
    where
      nothing : None ≡ Some x → ⊥
      nothing q = cc
  counts_one (y ∷ xs) zero x at h =
      let e : count_by f (y ∷ xs) ≡ 1 + count_by f xs = count_next y xs ∙ ap (λ b. cond b 1 0 + count_by f xs) (ap f (same_Some y x at) ∙ h) in
      omega (arith, e)
  counts_one (y ∷ xs) (suc k) x at h =
      let more = counts_one xs k x at h in
      let e = count_next y xs in
      omega (arith, e, more)

  -- two that are so are counted both
  counts_two : (xs : List Instr) (j k : ℕ) (x y : Instr) → j < k → slice_get xs j ≡ Some x → slice_get xs k ≡ Some y → f x ≡ true → f y ≡ true → 2 ≤ count_by f xs
  counts_two [] j k x y low at there h g = absurd (nothing at)
    where
      nothing : None ≡ Some x → ⊥
      nothing q = cc
  counts_two (z ∷ xs) j zero x y low at there h g = absurd (omega (arith, low))
  counts_two (z ∷ xs) zero (suc k) x y low at there h g =
      let e : count_by f (z ∷ xs) ≡ 1 + count_by f xs = count_next z xs ∙ ap (λ b. cond b 1 0 + count_by f xs) (ap f (same_Some z x at) ∙ h) in
      let more = counts_one xs k y there g in
      omega (arith, e, more)
  counts_two (z ∷ xs) (suc j) (suc k) x y low at there h g =
      let more = counts_two xs j k x y (omega (arith, low)) at there h g in
      let e = count_next z xs in
      omega (arith, e, more)

pub same_number : (u : ℕ) → nat_eq u u ≡ true
same_number u = grind (arith, nat_tests)

-- what starts thread u is its start
start_is : (u : ℕ) (it : Instr) → is_start u it ≡ true → it ≡ i.Start u
start_is u (i.Start v) e = (let q : v ≡ u = grind (arith, nat_tests) in ap i.Start q)
start_is u (i.Set l e) h = cc
start_is u (i.Load l a) h = cc
start_is u (i.Store a e) h = cc
start_is u (i.Input l) h = cc
start_is u (i.Jump m) h = cc
start_is u (i.Branch e m) h = cc
start_is u (i.Assert e m) h = cc
start_is u (i.Assume e) h = cc
start_is u i.Fence h = cc
start_is u (i.Lock m) h = cc
start_is u (i.Unlock m) h = cc
start_is u (i.Add l a e) h = cc
start_is u (i.Cas l a e g) h = cc
start_is u (i.Join v) h = cc
start_is u i.AtomBegin h = cc
start_is u i.AtomEnd h = cc
start_is u i.End h = cc

-- ---- main

module _ (p : Listing) (s : IsSourcelike p) (main : Thread) (at : slice_get p.threads 0 ≡ Some main) where
  code_is : code_of p 0 ≡ main.code
  code_is = rw at refl

  at_main : (k : ℕ) (it : Instr) → slice_get (code_of p 0) k ≡ Some it → slice_get main.code k ≡ Some it
  at_main k it e = subst (λ c. slice_get c k ≡ Some it) code_is e

  within : (k : ℕ) (it : Instr) → slice_get (code_of p 0) k ≡ Some it → IsInstrIn p main it
  within k it e = at_place (IsInstrIn p main) main.code k it (at_place (IsThreadIn p) p.threads 0 main s.valid.each_thread at).instructions (at_main k it e)

  few : length p.threads ≤ 16
  few = s.limits.threads

  -- a thread that main waits for is none but another
  another : (k u : ℕ) → slice_get (code_of p 0) k ≡ Some (i.Join u) → IsStartedByMain p u
  another k zero e = absurd ((s.each 0 k main (i.Join 0) at (at_main k (i.Join 0) e)).not_main.1 refl)
  another k (suc u) e = s.valid.each_start (suc u) (omega arith) (within k (i.Join (suc u)) e)

  good : IsGood handle_apart (code_of p 0)
  good = record {
    low_start = λ j u e. let h = within j (i.Start u) e in omega (arith, h, few);
    low_join = λ j u e. let h = within j (i.Join u) e in omega (arith, h, few);
    once = λ j k u low a b. let h = s.order.order j k u u low a b in omega (arith, h);
    joined_once = λ j k u low a b.
        let two = counts_two (is_join u) (code_of p 0) j k (i.Join u) (i.Join u) low a b (same_number u) (same_number u) in
        let one = (another j u a).join in
        omega (arith, two, one);
    started = λ k u e.
        let one = (another k u e).start in
        let it = one_counted (is_start u) (code_of p 0) (omega (arith, one)) in
        let there : slice_get (code_of p 0) it.0 ≡ Some (i.Start u) = it.2 ∙ ap Some (start_is u it.1 it.3) in
        (it.0, s.order.joins it.0 k u there e, there);
  }

  -- the starts and joins of main are in a good order
  pub main_orderly : are_orderly [] (told main.code) ≡ true
  main_orderly = subst (λ c. are_orderly [] (told c) ≡ true) code_is (orderly handle_apart (code_of p 0) good)
