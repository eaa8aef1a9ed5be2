-- Rows from which nothing is erased: the n-th step of a key stands at n.
use Rattle.std.proofs.Common.{arith, ◌≡◌, ℕ, zero, suc, ◌+◌, ◌-◌, ◌<◌, ◌≤◌, ◌↔◌, ◌⊎◌, inl, inr, Bool, true, false, if◌then◌else◌, List, [], ◌∷◌, ◌++◌, length, Option, Some, None, refl, sym, ◌∙◌, ap, subst, slice_get, length-append}
use Rattle.std.proofs.lemmas.Bool.{cases_lt, cases_eq, false≢true}
use Rattle.std.proofs.lemmas.List.{take-append-le}
use Rattle.std.proofs.lemmas.List.Sums.{sum_by-append}
use Rattle.std.proofs.lemmas.Option.{slice_get_within}
use Rattle.mm_sched.specs.declared.entry.Event.{Event}
use Rattle.mm_runkeys.specs.Spans.{always, is_key, times}
use Rattle.mm_runkeys.specs.reading.Tables.{row, stepped}
use Rattle.mm_rungraph.specs.Edges.{by, IsNth}
use Rattle.mm_rungraph.proofs.Spanning.{get_old, get_new, take_new, at_old, at_new, more, key_is, is_key_at, row_stepped, stepped_length}

times_more : (key : Event → Option ℕ) (x : ℕ) (es : List Event) (e : Event) → times key x (es ++ e ∷ []) ≡ times key x es + (if is_key x (key e) then 1 else 0)
times_more key x es e = sum_by-append (λ d. if is_key x (key d) then 1 else 0) es (e ∷ []) ∙ (omega arith)

pub times_cons : (key : Event → Option ℕ) (x : ℕ) (d : Event) (es : List Event) → times key x (d ∷ es) ≡ (if is_key x (key d) then 1 else 0) + times key x es
times_cons key x d es = sum_by-append (λ e. if is_key x (key e) then 1 else 0) (d ∷ []) es ∙ (omega arith)

pub within : (key : Event → Option ℕ) (es : List Event) (x a : ℕ) → by key es a ≡ Some x → a < length es
within key es x a h = go (slice_get es a) refl h
  where
    go : (o : Option Event) → slice_get es a ≡ o → elim o as (λ _. Option ℕ) [ None ↦ None | Some e ↦ key e ] ≡ Some x → a < length es
    go None d k = cc
    go (Some e) d k = slice_get_within es a e d

-- the rows have the steps in their order
pub record AreNths (key : Event → Option ℕ) (es : List Event) (rows : List (List ℕ)) : Type 0 where
  pub each : (x i a : ℕ) → x < length rows → (slice_get (row rows x) i ≡ Some a) ↔ IsNth key es x i a
  pub count : (x : ℕ) → x < length rows → length (row rows x) ≡ times key x es

module _ (key : Event → Option ℕ) (es : List Event) (e : Event) where
  abbrev es' : List Event
  es' = es ++ e ∷ []

  pub nth_old : (x i a : ℕ) → a < length es → IsNth key es x i a → IsNth key es' x i a
  nth_old x i a l n = record {
    is = at_old (always key) es (e ∷ []) a l ∙ n.is;
    nth = ap (times key x) (take-append-le a es (e ∷ []) (omega arith)) ∙ n.nth;
  }

  pub nth_back : (x i a : ℕ) → a < length es → IsNth key es' x i a → IsNth key es x i a
  nth_back x i a l n = record {
    is = sym (at_old (always key) es (e ∷ []) a l) ∙ n.is;
    nth = ap (times key x) (sym (take-append-le a es (e ∷ []) (omega arith))) ∙ n.nth;
  }

  pub nth_new : (x : ℕ) → key e ≡ Some x → IsNth key es' x (times key x es) (length es)
  nth_new x h = record { is = at_new (always key) es e ∙ h; nth = ap (times key x) (take_new es (e ∷ [])) }

  pub new_nth : (x i : ℕ) → IsNth key es' x i (length es) → (key e ≡ Some x) × (i ≡ times key x es)
  new_nth x i n = (sym (at_new (always key) es e) ∙ n.is, sym n.nth ∙ ap (times key x) (take_new es (e ∷ [])))

  pub below : (x i a : ℕ) → IsNth key es' x i a → (a < length es) ⊎ (a ≡ length es)
  below x i a n = let l : a < suc (length es) = rw (more es e) at (within key es' x a n.is) in elim (cases_eq a (length es)) [ inl h ↦ inr h | inr h ↦ inl (omega arith) ]

  module _ (rows : List (List ℕ)) (so_far : AreNths key es rows) where
    abbrev tail : Bool → List ℕ
    tail b = if b then length es ∷ [] else []

    to : (x i a : ℕ) → x < length rows → (b : Bool) → is_key x (key e) ≡ b → slice_get (row rows x ++ tail b) i ≡ Some a → IsNth key es' x i a
    to x i a l b d h = go (cases_lt i (length (row rows x)))
      where
        last : (b : Bool) → is_key x (key e) ≡ b → (j : ℕ) → slice_get (tail b) j ≡ Some a → (j ≡ 0) × (a ≡ length es) × (key e ≡ Some x)
        last true k zero z = (refl, cc, key_is x (key e) k)
        last true k (suc j) z = cc
        last false k j z = cc

        go : (i < length (row rows x)) ⊎ (length (row rows x) ≤ i) → IsNth key es' x i a
        go (inl m) = let n = (so_far.each x i a l).0 (sym (get_old (row rows x) (tail b) i m) ∙ h) in nth_old x i a (within key es x a n.is) n
        go (inr m) =
            let z = last b d (i - length (row rows x)) (sym (get_past (row rows x) (tail b) i m) ∙ h) in
            let same : i ≡ times key x es = omega (arith, so_far.count x l, z.0, m) in
            subst (λ j. IsNth key es' x j a) (sym same) (subst (λ c. IsNth key es' x (times key x es) c) (sym z.1) (nth_new x z.2))
          where
            get_past : (xs ys : List ℕ) (i : ℕ) → length xs ≤ i → slice_get (xs ++ ys) i ≡ slice_get ys (i - length xs)
            get_past [] ys i l = ap (slice_get ys) (let k : i ≡ i - 0 = omega arith in k)
            get_past (x ∷ xs) ys zero l = absurd (omega arith)
            get_past (x ∷ xs) ys (suc i) l = get_past xs ys i (omega arith) ∙ ap (slice_get ys) (let k : i - length xs ≡ suc i - suc (length xs) = omega arith in k)

    from : (x i a : ℕ) → x < length rows → (b : Bool) → is_key x (key e) ≡ b → IsNth key es' x i a → slice_get (row rows x ++ tail b) i ≡ Some a
    from x i a l b d n = go (below x i a n)
      where
        fresh : (b : Bool) → is_key x (key e) ≡ b → key e ≡ Some x → slice_get (row rows x ++ tail b) (length (row rows x)) ≡ Some (length es)
        fresh true k z = get_new (row rows x) (length es)
        fresh false k z = absurd (false≢true (sym k ∙ is_key_at x (key e) z))

        go : (a < length es) ⊎ (a ≡ length es) → slice_get (row rows x ++ tail b) i ≡ Some a
        go (inl m) = let h : slice_get (row rows x) i ≡ Some a = (so_far.each x i a l).1 (nth_back x i a m n) in get_old (row rows x) (tail b) i (slice_get_within (row rows x) i a h) ∙ h
        go (inr m) =
            let z = new_nth x i (subst (λ c. IsNth key es' x i c) m n) in
            subst (λ c. slice_get (row rows x ++ tail b) i ≡ Some c) (sym m)
            (subst (λ j. slice_get (row rows x ++ tail b) j ≡ Some (length es)) (so_far.count x l ∙ sym z.1) (fresh b d z.0))

    pub nths_step : AreNths key es' (stepped rows None (key e) (length es))
    nths_step = record {
      each = λ x i a l.
          let here : x < length rows = rw (stepped_length rows None (key e) (length es)) at l in
          let is = row_stepped rows None (key e) (length es) x here in
          (λ h. to x i a here (is_key x (key e)) refl (rw is at h), λ n. rw is (from x i a here (is_key x (key e)) refl n));
      count = λ x l.
          let here : x < length rows = rw (stepped_length rows None (key e) (length es)) at l in
          ap length (row_stepped rows None (key e) (length es) x here) ∙ counted x here (is_key x (key e)) refl;
    }
      where
        counted : (x : ℕ) → x < length rows → (b : Bool) → is_key x (key e) ≡ b → length (row rows x ++ tail b) ≡ times key x es'
        counted x l true d = length-append (row rows x) (tail true) ∙ (let k = times_more key x es e in let c = so_far.count x l in rw (k, d, c) refl)
        counted x l false d = length-append (row rows x) (tail false) ∙ (let k = times_more key x es e in let c = so_far.count x l in rw (k, d, c) refl)

pub nothing_nth : (key : Event → Option ℕ) (rows : List (List ℕ)) → ((x : ℕ) → row rows x ≡ []) → AreNths key [] rows
nothing_nth key rows none = record {
  each = λ x i a l. (λ h. absurd (nowhere i a (rw none at h)), λ n. absurd (let m : a < 0 = within key [] x a n.is in omega arith));
  count = λ x l. ap length (none x);
}
  where
    nowhere : (i a : ℕ) → slice_get {X = ℕ} [] i ≡ Some a → ⊥
    nowhere i a h = cc
