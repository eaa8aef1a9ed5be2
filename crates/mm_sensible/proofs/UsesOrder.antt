-- The starts and joins of code in which each thread is started once, before it is joined, and joined once at most, are in a good order.
use Rattle.std.proofs.Common.{◌≡◌, ◌≢◌, ℕ, zero, suc, ◌<◌, ◌^◌, Bool, true, false, not, ◌&&◌, ◌||◌, List, [], ◌∷◌, ◌++◌, length, slice_get, append_assoc, append-nil, arith, refl, ◌∙◌, sym, ap, subst, Option, Some, None}
use Rattle.std.specs.List.{list_any}
use Rattle.std.specs.Str.{bytes_eq}
use Rattle.std.proofs.lemmas.Slice.Eq.{bytes_eq-Decides}
use Rattle.mm_goto.specs.declared.ident.Ident.{Ident}
use Rattle.mm_goto.specs.declared.program.Instr.{Instr}
use Rattle.mm_goto.specs.declared.program.Instr.TheVariants as i
use Rattle.mm_scope.specs.Notes.{Use}
use Rattle.mm_scope.specs.Threads.{use_of}
use Rattle.mm_tree.specs.Places.{nowhere}
use Rattle.mm_words.specs.Words as words
use Rattle.mm_names.specs.Threads.{is_start_of, is_join_of, is_misused}
use Rattle.mm_templates.specs.Names.{handle_name}
use Rattle.mm_sensible.proofs.ItemWalk.{apart_names}
use Rattle.mm_sensible.proofs.SoundNotes.{are_orderly}
use Rattle.mm_sensible.proofs.MainTemplates.{start_of, join_of, told_by}

-- what the code tells of
unfoldable pub told : List Instr → List Use
told [] = []
told (it ∷ code) = told_by it ++ told code

told_append : (xs ys : List Instr) → told (xs ++ ys) ≡ told xs ++ told ys
unfolding told
told_append [] ys = refl
told_append (x ∷ xs) ys = ap (λ us. told_by x ++ us) (told_append xs ys) ∙ sym (append_assoc (told_by x) (told xs) (told ys))

any_both : (f : Use → Bool) (us vs : List Use) → list_any f us ≡ false → list_any f vs ≡ false → list_any f (us ++ vs) ≡ false
any_both f [] vs p q = q
any_both f (u ∷ us) vs p q = let h = first (f u) (list_any f us) p in ap (λ b. b || list_any f (us ++ vs)) h.0 ∙ any_both f us vs h.1 q
  where
    first : (a b : Bool) → (a || b) ≡ false → (a ≡ false) × (b ≡ false)
    first false b e = (refl, e)
    first true b e = cc

any_left : (f : Use → Bool) (us vs : List Use) → list_any f us ≡ true → list_any f (us ++ vs) ≡ true
any_left f [] vs p = cc
any_left f (u ∷ us) vs p = by (f u) p (any_left f us vs)
  where
    by : (b : Bool) → (b || list_any f us) ≡ true → (list_any f us ≡ true → list_any f (us ++ vs) ≡ true) → (b || list_any f (us ++ vs)) ≡ true
    by true q more = refl
    by false q more = more q

any_right : (f : Use → Bool) (us vs : List Use) → list_any f vs ≡ true → list_any f (us ++ vs) ≡ true
any_right f [] vs p = p
any_right f (u ∷ us) vs p = by (f u) (any_right f us vs p)
  where
    by : (b : Bool) → list_any f (us ++ vs) ≡ true → (b || list_any f (us ++ vs)) ≡ true
    by true q = refl
    by false q = q

-- none of the starts and joins of this code is so, where none of each instruction is
none_so : (f : Use → Bool) (code : List Instr) → ((j : ℕ) (it : Instr) → slice_get code j ≡ Some it → list_any f (told_by it) ≡ false) → list_any f (told code) ≡ false
unfolding told
none_so f [] h = refl
none_so f (it ∷ code) h = any_both f (told_by it) (told code) (h 0 it refl) (none_so f code (λ j o at. h (suc j) o at))

-- one is, where one of an instruction is
one_so : (f : Use → Bool) (code : List Instr) (j : ℕ) (it : Instr) → slice_get code j ≡ Some it → list_any f (told_by it) ≡ true → list_any f (told code) ≡ true
unfolding told
one_so f [] j it at h = absurd (nothing at)
  where
    nothing : None ≡ Some it → ⊥
    nothing q = cc
one_so f (o ∷ code) zero it at h = any_left f (told_by o) (told code) (subst (λ q. list_any f (told_by q) ≡ true) (sym (same at)) h)
  where
    same : Some o ≡ Some it → o ≡ it
    same q = cc
one_so f (o ∷ code) (suc j) it at h = any_right f (told_by o) (told code) (one_so f code j it at h)

-- ---- starts and joins of one thread

module _ (apart : (u v : ℕ) → u < 2 ^ 32 → v < 2 ^ 32 → u ≢ v → handle_name u ≢ handle_name v) where
  own : (u : ℕ) → bytes_eq (handle_name u) (handle_name u) ≡ true
  own u = (bytes_eq-Decides (handle_name u) (handle_name u)).1 refl

  -- a use of thread u is no use of another
  other : (u v : ℕ) (b : Bool) → u < 2 ^ 32 → v < 2 ^ 32 → u ≢ v → (bytes_eq (handle_name u) (handle_name v) && b) ≡ false
  other u v b p q n = ap (λ c. c && b) (apart_names (handle_name u) (handle_name v) (apart u v p q n))

  and_false : (b : Bool) → (b && false) ≡ false
  and_false true = refl
  and_false false = refl

  -- a start of thread u, or a wait for it
  abbrev of_thread : Option Ident → ℕ → Use
  of_thread f u = use_of f false nowhere (words.word (handle_name u))

  -- the instruction starts no thread u, or waits for none
  starts_none : (f : Option Ident) (u : ℕ) → u < 2 ^ 32 → (it : Instr) → ((v : ℕ) → it ≡ i.Start v → (v < 2 ^ 32) × (u ≢ v)) → list_any (is_start_of (of_thread f u)) (told_by it) ≡ false
  unfolding is_start_of
  starts_none f u low (i.Start v) h = let r = h v refl in ap (λ b. b || false) (other u v true low r.0 r.1)
  starts_none f u low (i.Join v) h = ap (λ b. b || false) (and_false (bytes_eq (handle_name u) (handle_name v)))
  starts_none f u low (i.Set l e) h = refl
  starts_none f u low (i.Load l a) h = refl
  starts_none f u low (i.Store a e) h = refl
  starts_none f u low (i.Input l) h = refl
  starts_none f u low (i.Jump m) h = refl
  starts_none f u low (i.Branch e m) h = refl
  starts_none f u low (i.Assert e m) h = refl
  starts_none f u low (i.Assume e) h = refl
  starts_none f u low i.Fence h = refl
  starts_none f u low (i.Lock m) h = refl
  starts_none f u low (i.Unlock m) h = refl
  starts_none f u low (i.Add l a e) h = refl
  starts_none f u low (i.Cas l a e g) h = refl
  starts_none f u low i.AtomBegin h = refl
  starts_none f u low i.AtomEnd h = refl
  starts_none f u low i.End h = refl

  joins_none : (f : Option Ident) (u : ℕ) → u < 2 ^ 32 → (it : Instr) → ((v : ℕ) → it ≡ i.Join v → (v < 2 ^ 32) × (u ≢ v)) → list_any (is_join_of (of_thread f u)) (told_by it) ≡ false
  unfolding is_join_of
  joins_none f u low (i.Join v) h = let r = h v refl in ap (λ b. b || false) (other u v true low r.0 r.1)
  joins_none f u low (i.Start v) h = ap (λ b. b || false) (and_false (bytes_eq (handle_name u) (handle_name v)))
  joins_none f u low (i.Set l e) h = refl
  joins_none f u low (i.Load l a) h = refl
  joins_none f u low (i.Store a e) h = refl
  joins_none f u low (i.Input l) h = refl
  joins_none f u low (i.Jump m) h = refl
  joins_none f u low (i.Branch e m) h = refl
  joins_none f u low (i.Assert e m) h = refl
  joins_none f u low (i.Assume e) h = refl
  joins_none f u low i.Fence h = refl
  joins_none f u low (i.Lock m) h = refl
  joins_none f u low (i.Unlock m) h = refl
  joins_none f u low (i.Add l a e) h = refl
  joins_none f u low (i.Cas l a e g) h = refl
  joins_none f u low i.AtomBegin h = refl
  joins_none f u low i.AtomEnd h = refl
  joins_none f u low i.End h = refl

  start_found : (f : Option Ident) (u : ℕ) → list_any (is_start_of (of_thread f u)) (told_by (i.Start u)) ≡ true
  unfolding is_start_of
  start_found f u = ap (λ b. (b && true) || false) (own u)

  -- a start that is the first of its thread, and a wait behind a start that is the first
  start_good : (u : ℕ) (before : List Use) → list_any (is_start_of (start_of u)) before ≡ false → is_misused before (start_of u) ≡ false
  unfolding is_misused
  start_good u before h = h

  join_good : (u : ℕ) (before : List Use) → list_any (is_start_of (join_of u)) before ≡ true → list_any (is_join_of (join_of u)) before ≡ false → is_misused before (join_of u) ≡ false
  unfolding is_misused
  join_good u before h g = ap (λ b. not b || list_any (is_join_of (join_of u)) before) h ∙ g

  -- in the code each thread is started once, before it is joined, and joined once at most
  pub record IsGood (code : List Instr) : Type 0 where
    pub low_start : (j u : ℕ) → slice_get code j ≡ Some (i.Start u) → u < 2 ^ 32
    pub low_join : (j u : ℕ) → slice_get code j ≡ Some (i.Join u) → u < 2 ^ 32
    pub once : (j k u : ℕ) → j < k → slice_get code j ≡ Some (i.Start u) → slice_get code k ≡ Some (i.Start u) → ⊥
    pub joined_once : (j k u : ℕ) → j < k → slice_get code j ≡ Some (i.Join u) → slice_get code k ≡ Some (i.Join u) → ⊥
    pub started : (k u : ℕ) → slice_get code k ≡ Some (i.Join u) → (j : ℕ) × (j < k) × (slice_get code j ≡ Some (i.Start u))

  -- places of a list are places of the list with more behind it
  front : (xs ys : List Instr) (j : ℕ) (it : Instr) → slice_get xs j ≡ Some it → (j < length xs) × (slice_get (xs ++ ys) j ≡ Some it)
  front [] ys j it e = absurd (nothing e)
    where
      nothing : None ≡ Some it → ⊥
      nothing q = cc
  front (x ∷ xs) ys zero it e = (omega arith, e)
  front (x ∷ xs) ys (suc j) it e = let more = front xs ys j it e in let low = more.0 in (omega (arith, low), more.1)

  back : (xs ys : List Instr) (j : ℕ) (it : Instr) → j < length xs → slice_get (xs ++ ys) j ≡ Some it → slice_get xs j ≡ Some it
  back [] ys j it low e = absurd (omega (arith, low))
  back (x ∷ xs) ys zero it low e = e
  back (x ∷ xs) ys (suc j) it low e = back xs ys j it (omega (arith, low)) e

  middle : (xs ys : List Instr) (it : Instr) → slice_get (xs ++ it ∷ ys) (length xs) ≡ Some it
  middle [] ys it = refl
  middle (x ∷ xs) ys it = middle xs ys it

  module _ (xs ys : List Instr) (u : ℕ) where
    good_start : IsGood (xs ++ i.Start u ∷ ys) → is_misused (told xs) (start_of u) ≡ false
    good_start good = start_good u (told xs) (none_so (is_start_of (start_of u)) xs (λ j it at. starts_none _ u (good.low_start (length xs) u (middle xs ys (i.Start u))) it (λ v is.
        let there = front xs (i.Start u ∷ ys) j it at in
        let here : slice_get (xs ++ i.Start u ∷ ys) j ≡ Some (i.Start v) = there.1 ∙ ap Some is in
        (good.low_start j v here, λ same. good.once j (length xs) u there.0 (here ∙ ap (λ w. Some (i.Start w)) (sym same)) (middle xs ys (i.Start u))))))

    good_join : IsGood (xs ++ i.Join u ∷ ys) → is_misused (told xs) (join_of u) ≡ false
    good_join good =
        let at_here = middle xs ys (i.Join u) in
        let low = good.low_join (length xs) u at_here in
        let started = good.started (length xs) u at_here in
        join_good u (told xs)
        (one_so (is_start_of (join_of u)) xs started.0 (i.Start u) (back xs (i.Join u ∷ ys) started.0 (i.Start u) started.1 started.2) (start_found _ u))
        (none_so (is_join_of (join_of u)) xs (λ j it at. joins_none _ u low it (λ v is.
        let there = front xs (i.Join u ∷ ys) j it at in
        let here : slice_get (xs ++ i.Join u ∷ ys) j ≡ Some (i.Join v) = there.1 ∙ ap Some is in
        (good.low_join j v here, λ same. good.joined_once j (length xs) u there.0 (here ∙ ap (λ w. Some (i.Join w)) (sym same)) at_here))))

  -- one more instruction behind those
  one_behind : (xs : List Instr) (it : Instr) → told (xs ++ it ∷ []) ≡ told xs ++ told_by it
  unfolding told
  one_behind xs it = told_append xs (it ∷ []) ∙ ap (λ us. told xs ++ us) (append-nil (told_by it))

  orderly_next : (xs ys : List Instr) (it : Instr) → IsGood (xs ++ it ∷ ys) → are_orderly (told xs ++ told_by it) (told ys) ≡ true → are_orderly (told xs) (told_by it ++ told ys) ≡ true
  orderly_next xs ys (i.Start u) good h = ap (λ b. not b && are_orderly (told xs ++ start_of u ∷ []) (told ys)) (good_start xs ys u good) ∙ h
  orderly_next xs ys (i.Join u) good h = ap (λ b. not b && are_orderly (told xs ++ join_of u ∷ []) (told ys)) (good_join xs ys u good) ∙ h
  orderly_next xs ys (i.Set l e) good h = ap (λ us. are_orderly us (told ys)) (sym (append-nil (told xs))) ∙ h
  orderly_next xs ys (i.Load l a) good h = ap (λ us. are_orderly us (told ys)) (sym (append-nil (told xs))) ∙ h
  orderly_next xs ys (i.Store a e) good h = ap (λ us. are_orderly us (told ys)) (sym (append-nil (told xs))) ∙ h
  orderly_next xs ys (i.Input l) good h = ap (λ us. are_orderly us (told ys)) (sym (append-nil (told xs))) ∙ h
  orderly_next xs ys (i.Jump m) good h = ap (λ us. are_orderly us (told ys)) (sym (append-nil (told xs))) ∙ h
  orderly_next xs ys (i.Branch e m) good h = ap (λ us. are_orderly us (told ys)) (sym (append-nil (told xs))) ∙ h
  orderly_next xs ys (i.Assert e m) good h = ap (λ us. are_orderly us (told ys)) (sym (append-nil (told xs))) ∙ h
  orderly_next xs ys (i.Assume e) good h = ap (λ us. are_orderly us (told ys)) (sym (append-nil (told xs))) ∙ h
  orderly_next xs ys i.Fence good h = ap (λ us. are_orderly us (told ys)) (sym (append-nil (told xs))) ∙ h
  orderly_next xs ys (i.Lock m) good h = ap (λ us. are_orderly us (told ys)) (sym (append-nil (told xs))) ∙ h
  orderly_next xs ys (i.Unlock m) good h = ap (λ us. are_orderly us (told ys)) (sym (append-nil (told xs))) ∙ h
  orderly_next xs ys (i.Add l a e) good h = ap (λ us. are_orderly us (told ys)) (sym (append-nil (told xs))) ∙ h
  orderly_next xs ys (i.Cas l a e g) good h = ap (λ us. are_orderly us (told ys)) (sym (append-nil (told xs))) ∙ h
  orderly_next xs ys i.AtomBegin good h = ap (λ us. are_orderly us (told ys)) (sym (append-nil (told xs))) ∙ h
  orderly_next xs ys i.AtomEnd good h = ap (λ us. are_orderly us (told ys)) (sym (append-nil (told xs))) ∙ h
  orderly_next xs ys i.End good h = ap (λ us. are_orderly us (told ys)) (sym (append-nil (told xs))) ∙ h

  orderly_behind : (xs ys : List Instr) → IsGood (xs ++ ys) → are_orderly (told xs) (told ys) ≡ true
  unfolding told
  orderly_behind xs [] good = refl
  orderly_behind xs (it ∷ ys) good =
      orderly_next xs ys it good
      (ap (λ us. are_orderly us (told ys)) (sym (one_behind xs it)) ∙ orderly_behind (xs ++ it ∷ []) ys (subst IsGood (sym (append_assoc xs (it ∷ []) ys)) good))

  -- the starts and joins of good code are in a good order
  pub orderly : (code : List Instr) → IsGood code → are_orderly [] (told code) ≡ true
  unfolding told
  orderly code good = orderly_behind [] code good
