-- What is kept of the notes.
use Rattle.std.proofs.Common.{arith, ◌≡◌, refl, sym, ap, ◌∙◌, ℕ, zero, suc, ◌<◌, ◌+◌, List, [], ◌∷◌, ◌++◌, ◌≤◌, min, Contains, cond, count_by, filter_map, ◌⊎◌, inl, inr, append_assoc}
use Rattle.std.proofs.lemmas.List.{append-nil}
use Rattle.std.proofs.lemmas.List.Sums.{sum_by-cons}
use Rattle.std.proofs.lemmas.Bool.Decides.{nat_tests}
use Rattle.mm_scope.specs.declared.fault.Fault.{Fault}
use Rattle.mm_names.specs.Least.{IsLeastOf, no_fault}
use Rattle.mm_scope.specs.Notes.{Note, a_fault, a_call, a_use, an_assertion, Noted, no_notes, counted, noted, all_noted}
use Rattle.mm_names.specs.Programs.{call_in, use_in, is_assertion}
use Rattle.mm_names.proofs.LeastOf.{least-same, least-more}

contains-first : {X : Type 0} (x : X) (xs : List X) → Contains (x ∷ xs) x
contains-first x xs = (0, omega arith, refl)

contains-behind : {X : Type 0} (x y : X) (xs : List X) → Contains xs y → Contains (x ∷ xs) y
contains-behind x y xs (k, below, is) = (suc k, omega arith, is)

contains-cases : {X : Type 0} (x y : X) (xs : List X) → Contains (x ∷ xs) y → (x ≡ y) ⊎ Contains xs y
contains-cases x y xs (zero, below, is) = inl is
contains-cases x y xs (suc k, below, is) = inr (k, omega arith, is)

-- what is no fault adds none
other-to : (P : Fault → Type 0) (n : Note) (ns : List Note) (f : Fault) → (P f ⊎ Contains ns (a_fault f)) → P f ⊎ Contains (n ∷ ns) (a_fault f)
other-to P n ns f q = elim q [ inl p ↦ inl p | inr c ↦ inr (contains-behind n (a_fault f) ns c) ]

other-from : (P : Fault → Type 0) (n : Note) (ns : List Note) → ((f : Fault) → n ≡ a_fault f → ⊥) → (f : Fault) → (P f ⊎ Contains (n ∷ ns) (a_fault f)) → P f ⊎ Contains ns (a_fault f)
other-from P n ns apart f q = elim q [ inl p ↦ inl p | inr c ↦ elim (contains-cases n (a_fault f) ns c) [ inl e ↦ absurd (apart f e) | inr d ↦ inr d ] ]

pub noted-least : {P : Fault → Type 0} (ns : List Note) (n : Noted) → IsLeastOf P n.least → IsLeastOf (λ f. P f ⊎ Contains ns (a_fault f)) (all_noted n ns).least
unfolding noted
noted-least [] n least = least-same (λ f p. inl p) (λ f q. elim q [ inl p ↦ p | inr c ↦ let b : c.0 < 0 = c.1 in absurd (omega arith) ]) least
noted-least {P} (a_fault g ∷ ns) n least = least-same to from (noted-least ns (noted n (a_fault g)) (least-more g least))
  where
    to : (f : Fault) → ((P f ⊎ (f ≡ g)) ⊎ Contains ns (a_fault f)) → P f ⊎ Contains (a_fault g ∷ ns) (a_fault f)
    to f q = elim q [ inl r ↦ elim r [ inl p ↦ inl p | inr e ↦ inr (rw e (contains-first (a_fault g) ns)) ] | inr c ↦ inr (contains-behind (a_fault g) (a_fault f) ns c) ]

    from : (f : Fault) → (P f ⊎ Contains (a_fault g ∷ ns) (a_fault f)) → (P f ⊎ (f ≡ g)) ⊎ Contains ns (a_fault f)
    from f q = elim q [ inl p ↦ inl (inl p) | inr c ↦ elim (contains-cases (a_fault g) (a_fault f) ns c) [ inl e ↦ inl (inr cc) | inr d ↦ inr d ] ]
noted-least {P} (a_call g ∷ ns) n least = least-same (other-to P (a_call g) ns) (other-from P (a_call g) ns (λ f e. cc)) (noted-least ns (noted n (a_call g)) least)
noted-least {P} (a_use g ∷ ns) n least = least-same (other-to P (a_use g) ns) (other-from P (a_use g) ns (λ f e. cc)) (noted-least ns (noted n (a_use g)) least)
noted-least {P} (an_assertion ∷ ns) n least = least-same (other-to P an_assertion ns) (other-from P an_assertion ns (λ f e. cc)) (noted-least ns (noted n an_assertion) least)

pub all-least : (ns : List Note) → IsLeastOf (λ f. Contains ns (a_fault f)) (all_noted no_notes ns).least
all-least ns = least-same (λ f q. elim q [ inl p ↦ absurd p | inr c ↦ c ]) (λ f c. inr c) (noted-least {P = λ f. ⊥} ns no_notes (no_fault (λ f p. p)))

-- ---- calls, starts and joins

noted-calls : (ns : List Note) (n : Noted) → (all_noted n ns).calls ≡ n.calls ++ filter_map call_in ns
unfolding noted
noted-calls [] n = sym (append-nil n.calls)
noted-calls (a_fault f ∷ ns) n = noted-calls ns (noted n (a_fault f))
noted-calls (a_call c ∷ ns) n = noted-calls ns (noted n (a_call c)) ∙ append_assoc n.calls (c ∷ []) (filter_map call_in ns)
noted-calls (a_use u ∷ ns) n = noted-calls ns (noted n (a_use u))
noted-calls (an_assertion ∷ ns) n = noted-calls ns (noted n an_assertion)

pub all-calls : (ns : List Note) → (all_noted no_notes ns).calls ≡ filter_map call_in ns
all-calls ns = noted-calls ns no_notes

noted-uses : (ns : List Note) (n : Noted) → (all_noted n ns).uses ≡ n.uses ++ filter_map use_in ns
unfolding noted
noted-uses [] n = sym (append-nil n.uses)
noted-uses (a_fault f ∷ ns) n = noted-uses ns (noted n (a_fault f))
noted-uses (a_call c ∷ ns) n = noted-uses ns (noted n (a_call c))
noted-uses (a_use u ∷ ns) n = noted-uses ns (noted n (a_use u)) ∙ append_assoc n.uses (u ∷ []) (filter_map use_in ns)
noted-uses (an_assertion ∷ ns) n = noted-uses ns (noted n an_assertion)

pub all-uses : (ns : List Note) → (all_noted no_notes ns).uses ≡ filter_map use_in ns
all-uses ns = noted-uses ns no_notes

-- ---- assertions

one_more : (n k : ℕ) → min (counted n + k) 4294967295 ≡ min (n + (1 + k)) 4294967295
one_more n k = grind (arith, nat_tests)

count_one : (ns : List Note) → count_by is_assertion (an_assertion ∷ ns) ≡ 1 + count_by is_assertion ns
count_one ns = sum_by-cons (λ x. cond (is_assertion x) 1 0) an_assertion ns

counted_small : (n : ℕ) → n ≤ 4294967295 → counted n ≤ 4294967295
counted_small n small = grind (arith, nat_tests, small)

noted-asserts : (ns : List Note) (n : Noted) → n.asserts ≤ 4294967295 → (all_noted n ns).asserts ≡ min (n.asserts + count_by is_assertion ns) 4294967295
unfolding noted
noted-asserts [] n small = grind (arith, small)
noted-asserts (a_fault f ∷ ns) n small = noted-asserts ns (noted n (a_fault f)) small
noted-asserts (a_call c ∷ ns) n small = noted-asserts ns (noted n (a_call c)) small
noted-asserts (a_use u ∷ ns) n small = noted-asserts ns (noted n (a_use u)) small
noted-asserts (an_assertion ∷ ns) n small =
    let m : Noted = record n { asserts = counted n.asserts } in
    let little : counted n.asserts ≤ 4294967295 = counted_small n.asserts small in
    let step : (all_noted m ns).asserts ≡ min (counted n.asserts + count_by is_assertion ns) 4294967295 = noted-asserts ns m little in
    let next : min (counted n.asserts + count_by is_assertion ns) 4294967295 ≡ min (n.asserts + (1 + count_by is_assertion ns)) 4294967295 = one_more n.asserts (count_by is_assertion ns) in
    step ∙ next ∙ ap (λ k. min (n.asserts + k) 4294967295) (sym (count_one ns))

pub all-asserts : (ns : List Note) → (all_noted no_notes ns).asserts ≡ min (count_by is_assertion ns) 4294967295
all-asserts ns = noted-asserts ns no_notes (omega arith) ∙ ap (λ k. min k 4294967295) (from_0 (count_by is_assertion ns))
  where
    from_0 : (k : ℕ) → 0 + k ≡ k
    from_0 k = omega arith

pub ruleset in_results = (all-uses, all-asserts)
