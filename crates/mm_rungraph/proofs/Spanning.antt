-- What the rows have, after each step, is what is marked and not erased.
use Rattle.std.proofs.Common.{arith, ◌≡◌, ◌≢◌, ℕ, zero, suc, ◌<◌, ◌≤◌, ◌↔◌, ◌⊎◌, inl, inr, Bool, true, false, ◌==◌, if◌then◌else◌, List, [], ◌∷◌, ◌++◌, length, take, Option, Some, None, refl, sym, ◌∙◌, ap, subst, slice_get, slice_set, length-append}
use Rattle.std.specs.Prelude.{Contains}
use Rattle.std.proofs.lemmas.Bool.{cases_eq, eqb-true, eq-eqb, ne_eqb, false≢true}
use Rattle.std.proofs.lemmas.List.{take-append-le, get_or-set_same, get_or-set_other, length-set}
use Rattle.std.proofs.lemmas.List.Elements.{Contains-append_left, Contains-append_right, Contains-append_cases}
use Rattle.mm_sched.specs.declared.entry.Event.{Event}
use Rattle.mm_runkeys.specs.Spans.{Span, Key, at, is_key}
use Rattle.mm_runkeys.specs.reading.Tables.{row, asked_row, erased_rows, marked_rows, stepped}

-- ---- the keys of the events of a list, when one more is behind it

module _ {A : Type 0} where
  pub get_old : (es r : List A) (k : ℕ) → k < length es → slice_get (es ++ r) k ≡ slice_get es k
  get_old [] r k l = absurd (omega arith)
  get_old (e ∷ es) r zero l = refl
  get_old (e ∷ es) r (suc k) l = get_old es r k (omega arith)

  pub get_new : (es : List A) (e : A) → slice_get (es ++ e ∷ []) (length es) ≡ Some e
  get_new [] e = refl
  get_new (x ∷ es) e = get_new es e

  pub take_new : (es r : List A) → take (length es) (es ++ r) ≡ es
  take_new [] r = refl
  take_new (x ∷ es) r = ap (λ z. x ∷ z) (take_new es r)

  pub none_past : (es : List A) (k : ℕ) → length es ≤ k → slice_get es k ≡ None
  none_past [] k l = refl
  none_past (x ∷ es) zero l = absurd (omega arith)
  none_past (x ∷ es) (suc k) l = none_past es k (omega arith)

pub at_old : (key : Key) (es r : List Event) (k : ℕ) → k < length es → at key (es ++ r) k ≡ at key es k
at_old key es r k l = rw (get_old es r k l, take-append-le k es r (omega arith)) refl

pub at_new : (key : Key) (es : List Event) (e : Event) → at key (es ++ e ∷ []) (length es) ≡ key es e
at_new key es e = rw (get_new es e, take_new es (e ∷ [])) refl

pub more : (es : List Event) (e : Event) → length (es ++ e ∷ []) ≡ suc (length es)
more es e = length-append es (e ∷ []) ∙ (omega arith)

pub key_is : (x : ℕ) (o : Option ℕ) → is_key x o ≡ true → o ≡ Some x
key_is x (Some y) h = ap Some (eqb-true y x h)
key_is x None h = absurd (false≢true h)

pub is_key_at : (x : ℕ) (o : Option ℕ) → o ≡ Some x → is_key x o ≡ true
is_key_at x o e = rw e (eq-eqb x x refl)

-- ---- rows after a step

row_erased : (rows : List (List ℕ)) (o : Option ℕ) (x : ℕ) → x < length rows → row (erased_rows rows o) x ≡ (if is_key x o then [] else row rows x)
row_erased rows None x l = refl
row_erased rows (Some y) x l = go (cases_eq y x)
  where
    go : (y ≡ x) ⊎ (y ≡ x → ⊥) → row (slice_set rows y []) x ≡ (if y == x then [] else row rows x)
    go (inl e) = rw (e, eq-eqb x x refl) (get_or-set_same rows x [] [] l)
    go (inr n) = rw (ne_eqb y x n) (get_or-set_other rows y x [] [] (λ e. n (sym e)))

row_marked : (rows : List (List ℕ)) (o : Option ℕ) (n x : ℕ) → x < length rows → row (marked_rows rows o n) x ≡ row rows x ++ (if is_key x o then n ∷ [] else [])
row_marked rows None n x l = sym (append_nil (row rows x))
  where
    append_nil : (xs : List ℕ) → xs ++ [] ≡ xs
    append_nil [] = refl
    append_nil (y ∷ ys) = ap (λ z. y ∷ z) (append_nil ys)
row_marked rows (Some y) n x l = go (cases_eq y x)
  where
    append_nil : (xs : List ℕ) → xs ++ [] ≡ xs
    append_nil [] = refl
    append_nil (z ∷ ys) = ap (λ w. z ∷ w) (append_nil ys)

    go : (y ≡ x) ⊎ (y ≡ x → ⊥) → row (slice_set rows y (row rows y ++ n ∷ [])) x ≡ row rows x ++ (if y == x then n ∷ [] else [])
    go (inl e) = rw (e, eq-eqb x x refl) (get_or-set_same rows x (row rows x ++ n ∷ []) [] l)
    go (inr d) = rw (ne_eqb y x d, append_nil (row rows x)) (get_or-set_other rows y x (row rows y ++ n ∷ []) [] (λ e. d (sym e)))

erased_length : (rows : List (List ℕ)) (o : Option ℕ) → length (erased_rows rows o) ≡ length rows
erased_length rows None = refl
erased_length rows (Some y) = length-set rows y []

marked_length : (rows : List (List ℕ)) (o : Option ℕ) (n : ℕ) → length (marked_rows rows o n) ≡ length rows
marked_length rows None n = refl
marked_length rows (Some y) n = length-set rows y (row rows y ++ n ∷ [])

pub stepped_length : (rows : List (List ℕ)) (er mk : Option ℕ) (n : ℕ) → length (stepped rows er mk n) ≡ length rows
stepped_length rows er mk n = marked_length (erased_rows rows er) mk n ∙ erased_length rows er

pub row_stepped : (rows : List (List ℕ)) (er mk : Option ℕ) (n x : ℕ) → x < length rows → row (stepped rows er mk n) x ≡ (if is_key x er then [] else row rows x) ++ (if is_key x mk then n ∷ [] else [])
row_stepped rows er mk n x l =
    row_marked (erased_rows rows er) mk n x (rw (erased_length rows er) l)
    ∙ ap (λ z. z ++ (if is_key x mk then n ∷ [] else [])) (row_erased rows er x l)

-- ---- what is open

-- a is marked with x, and nothing behind it erases x
pub record Open (marked erased : Key) (es : List Event) (x a : ℕ) : Type 0 where
  pub within : a < length es
  pub from : at marked es a ≡ Some x
  pub none : (k : ℕ) → a < k → k < length es → at erased es k ≢ Some x

-- the rows have what is open
pub record AreOpen (marked erased : Key) (es : List Event) (rows : List (List ℕ)) : Type 0 where
  pub each : (x a : ℕ) → x < length rows → Contains (row rows x) a ↔ Open marked erased es x a

pub one : (n a : ℕ) → Contains (n ∷ []) a → a ≡ n
one n a (zero, l, e) = sym e
one n a (suc k, l, e) = absurd (omega arith)

pub nothing : (a : ℕ) → Contains {X = ℕ} [] a → ⊥
nothing a c = absurd (omega (arith, c.1))

module _ (marked erased : Key) (es : List Event) (e : Event) (rows : List (List ℕ)) (so_far : AreOpen marked erased es rows) where
  abbrev es' : List Event
  es' = es ++ e ∷ []

  abbrev rows' : List (List ℕ)
  rows' = stepped rows (erased es e) (marked es e) (length es)

  -- what was open stays so, where the step does not erase it
  kept : (x a : ℕ) → is_key x (erased es e) ≡ false → Open marked erased es x a → Open marked erased es' x a
  kept x a n o = record {
    within = rw (more es e) (let h = o.within in omega arith);
    from = at_old marked es (e ∷ []) a o.within ∙ o.from;
    none = λ k l m h. go k l (cases_eq k (length es)) (rw (more es e) at m) h;
  }
    where
      go : (k : ℕ) → a < k → (k ≡ length es) ⊎ (k ≡ length es → ⊥) → k < suc (length es) → at erased es' k ≡ Some x → ⊥
      go k l (inl i) m h = false≢true (sym n ∙ is_key_at x (erased es e) (sym (at_new erased es e) ∙ subst (λ j. at erased es' j ≡ Some x) i h))
      go k l (inr i) m h = let b : k < length es = omega arith in o.none k l b (sym (at_old erased es (e ∷ []) k b) ∙ h)

  -- the step is open, where it is marked
  added : (x : ℕ) → is_key x (marked es e) ≡ true → Open marked erased es' x (length es)
  added x h = record {
    within = rw (more es e) (omega arith);
    from = at_new marked es e ∙ key_is x (marked es e) h;
    none = λ k l m. absurd (let b : k < suc (length es) = rw (more es e) at m in omega arith);
  }

  has : (x a : ℕ) → x < length rows → (er mk : Bool) → is_key x (erased es e) ≡ er → is_key x (marked es e) ≡ mk
      → Contains ((if er then [] else row rows x) ++ (if mk then length es ∷ [] else [])) a → Open marked erased es' x a
  has x a l er mk p q c = go (Contains-append_cases (if er then [] else row rows x) (if mk then length es ∷ [] else []) a c)
    where
      old : (b : Bool) → is_key x (erased es e) ≡ b → Contains (if b then [] else row rows x) a → Open marked erased es' x a
      old true d h = absurd (nothing a h)
      old false d h = kept x a d ((so_far.each x a l).0 h)

      new : (b : Bool) → is_key x (marked es e) ≡ b → Contains (if b then length es ∷ [] else []) a → Open marked erased es' x a
      new true d h = subst (λ i. Open marked erased es' x i) (sym (one (length es) a h)) (added x d)
      new false d h = absurd (nothing a h)

      go : Contains (if er then [] else row rows x) a ⊎ Contains (if mk then length es ∷ [] else []) a → Open marked erased es' x a
      go (inl h) = old er p h
      go (inr h) = new mk q h

  found : (x a : ℕ) → x < length rows → (er mk : Bool) → is_key x (erased es e) ≡ er → is_key x (marked es e) ≡ mk
      → Open marked erased es' x a → Contains ((if er then [] else row rows x) ++ (if mk then length es ∷ [] else [])) a
  found x a l er mk p q o = go (cases_eq a (length es))
    where
      fresh : (b : Bool) → is_key x (marked es e) ≡ b → marked es e ≡ Some x → Contains (if b then length es ∷ [] else []) (length es)
      fresh true d h = (0, omega arith, refl)
      fresh false d h = absurd (false≢true (sym d ∙ is_key_at x (marked es e) h))

      still : (b : Bool) → is_key x (erased es e) ≡ b → a < length es → Contains (if b then [] else row rows x) a
      still true d h = absurd (o.none (length es) h (rw (more es e) (omega arith)) (at_new erased es e ∙ key_is x (erased es e) d))
      still false d h = (so_far.each x a l).1 (record {
        within = h;
        from = sym (at_old marked es (e ∷ []) a h) ∙ o.from;
        none = λ k b m z. o.none k b (rw (more es e) (omega arith)) (at_old erased es (e ∷ []) k m ∙ z);
      })

      go : (a ≡ length es) ⊎ (a ≡ length es → ⊥) → Contains ((if er then [] else row rows x) ++ (if mk then length es ∷ [] else [])) a
      go (inl i) = Contains-append_right (if er then [] else row rows x) (if mk then length es ∷ [] else []) a
          (subst (λ j. Contains (if mk then length es ∷ [] else []) j) (sym i) (fresh mk q (sym (at_new marked es e) ∙ subst (λ j. at marked es' j ≡ Some x) i o.from)))
      go (inr i) = let b : a < suc (length es) = rw (more es e) at o.within in
          Contains-append_left (if er then [] else row rows x) (if mk then length es ∷ [] else []) a (still er p (omega arith))

  pub open_step : AreOpen marked erased es' rows'
  open_step = record {
    each = λ x a l.
        let here : x < length rows = rw (stepped_length rows (erased es e) (marked es e) (length es)) at l in (
          λ c. has x a here (is_key x (erased es e)) (is_key x (marked es e)) refl refl (rw (row_stepped rows (erased es e) (marked es e) (length es) x here) at c),
          λ o. rw (row_stepped rows (erased es e) (marked es e) (length es) x here) (found x a here (is_key x (erased es e)) (is_key x (marked es e)) refl refl o),
        );
  }

  -- the edges that end at the step: those of the key that it asks for
  pub ends_here : (asked : Key) (a : ℕ) → ((x : ℕ) → asked es e ≡ Some x → x < length rows)
      → Contains (asked_row rows (asked es e)) a ↔ Span (at marked es') (at erased es') (at asked es') a (length es)
  ends_here asked a within = (λ c. there (asked es e) refl c, λ s. back s (asked es e) refl)
    where
      there : (o : Option ℕ) → asked es e ≡ o → Contains (asked_row rows o) a → Span (at marked es') (at erased es') (at asked es') a (length es)
      there None d c = absurd (nothing a c)
      there (Some x) d c = let o = (so_far.each x a (within x d)).0 c in record {
        key = x;
        before = o.within;
        from = at_old marked es (e ∷ []) a o.within ∙ o.from;
        to = at_new asked es e ∙ d;
        none = λ k l m h. o.none k l m (sym (at_old erased es (e ∷ []) k m) ∙ h);
      }

      back : Span (at marked es') (at erased es') (at asked es') a (length es) → (o : Option ℕ) → asked es e ≡ o → Contains (asked_row rows o) a
      back s None d = absurd (none_some s.key (sym d ∙ sym (at_new asked es e) ∙ s.to))
        where
          none_some : (x : ℕ) → None ≡ Some x → ⊥
          none_some x h = cc
      back s (Some x) d = let same : s.key ≡ x = some_same (sym s.to ∙ at_new asked es e ∙ d) in (so_far.each x a (within x d)).1 (record {
        within = s.before;
        from = sym (at_old marked es (e ∷ []) a s.before) ∙ s.from ∙ ap Some same;
        none = λ k l m h. s.none k l m (at_old erased es (e ∷ []) k m ∙ h ∙ ap Some (sym same));
      })
        where
          some_same : {p q : ℕ} → Some p ≡ Some q → p ≡ q
          some_same h = cc

pub nothing_open : (marked erased : Key) (rows : List (List ℕ)) → ((x : ℕ) → row rows x ≡ []) → AreOpen marked erased [] rows
nothing_open marked erased rows none = record { each = λ x a l. (λ c. absurd (nothing a (rw none at c)), λ o. absurd (let h = o.within in omega arith)) }
