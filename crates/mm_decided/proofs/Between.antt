-- What leads from site to site is decided.
use Rattle.std.proofs.Common.{◌≡◌, ◌∙◌, ℕ, zero, suc, ◌+◌, ◌<◌, true, List, [], ◌∷◌, length, inl, inr, refl, sym, ap, Some, None, Option, arith, subst}
use Rattle.std.proofs.lemmas.Bool.{cases_eq, cases_lt}
use Rattle.std.proofs.lemmas.Option.{slice_get_within}
use Rattle.std.specs.List.{Contains}
use Rattle.std.specs.Prelude.{◌⊎◌, ◌↔◌, IsSomeAnd, slice_get}
use Rattle.mm_goto.specs.declared.model.Model.{Model}
use Rattle.mm_goto.specs.declared.model.Model.TheVariants as model
use Rattle.mm_goto.specs.declared.program.Instr.{Instr}
use Rattle.mm_goto.specs.declared.program.Instr.TheVariants as i
use Rattle.mm_goto.specs.declared.spot.Spot.{Spot}
use Rattle.mm_goto.specs.DelayCycles.{IsStore, Overtakes, NamesOnly, Unsafe, Edge}
use Rattle.mm_goto.specs.Listing.{Listing}
use Rattle.mm_goto.specs.PointsTo.{instr_at}
use Rattle.mm_goto.specs.Sites.{Is, Names, Po, Undrained, is_undrained, MustBefore, before_start, behind_join, one_after_other, Accesses, Writes, Com, Handles, Ord, mutex, start, join, Between, sites}
use Rattle.mm_goto.specs.Valid.{code_of}
use Rattle.mm_points.specs.Cells.{AreCells}
use Rattle.mm_points.proofs.Insertions.{has_one}
use Rattle.mm_decided.proofs.Cells.{names_decided, names_below, cells_end, cells_listed}
use Rattle.mm_decided.proofs.Deciding.{Decided, as_well, both, all_three, either, failing, SomeBelow, some_below, some_and, of_option}
use Rattle.mm_decided.proofs.Reaching.{flows_decided, IsDecided}

-- ---- kinds of instructions

accesses : (it : Instr) → Decided (Accesses it)
accesses (i.Load l t) = inl tt
accesses (i.Store t e) = inl tt
accesses (i.Add l t e) = inl tt
accesses (i.Cas l t e f) = inl tt
accesses _ = inr (λ h. h)

writes : (it : Instr) → Decided (Writes it)
writes (i.Store t e) = inl tt
writes (i.Add l t e) = inl tt
writes (i.Cas l t e f) = inl tt
writes _ = inr (λ h. h)

handles : (m : ℕ) (it : Instr) → Decided (Handles m it)
handles m (i.Lock n) = cases_eq n m
handles m (i.Unlock n) = cases_eq n m
handles m _ = inr (λ h. h)

stores : (it : Instr) → Decided (IsStore it)
stores (i.Store t e) = inl tt
stores _ = inr (λ h. h)

overtakes : (m : Model) (it : Instr) → Decided (Overtakes m it)
overtakes m (i.Load l t) = inl tt
overtakes model.Tso (i.Store t e) = inr (λ h. h)
overtakes model.Pso (i.Store t e) = inl tt
overtakes m _ = inr (λ h. h)

is_decided : (p : Listing) (s : Spot) (P : Instr → Type 0) → ((it : Instr) → Decided (P it)) → Decided (Is p s P)
is_decided p s P d = of_option (instr_at p s.thread s.index) P d

starts : (o : Option Instr) (u : ℕ) → Decided (o ≡ Some (i.Start u))
starts None u = inr (λ e. cc)
starts (Some (i.Start v)) u = elim (cases_eq v u) [ inl e ↦ inl (ap (λ n. Some (i.Start n)) e) | inr other ↦ inr (λ e. other (cc)) ]
starts (Some _) u = inr (λ e. cc)

joins : (o : Option Instr) (u : ℕ) → Decided (o ≡ Some (i.Join u))
joins None u = inr (λ e. cc)
joins (Some (i.Join v)) u = elim (cases_eq v u) [ inl e ↦ inl (ap (λ n. Some (i.Join n)) e) | inr other ↦ inr (λ e. other (cc)) ]
joins (Some _) u = inr (λ e. cc)

is_less : (a b : ℕ) → Decided (a < b)
is_less a b = elim (cases_lt a b) [ inl h ↦ inl h | inr h ↦ inr (λ g. omega arith) ]

module _ (p : Listing) where
  -- ---- program order

  po : (a b : Spot) → Decided (Po p a b)
  po a b = as_well (λ h. record { thread = h.0; flow = h.1 }) (λ po. (po.thread, po.flow))
      (both (cases_eq a.thread b.thread) (flows_decided (λ it. true) (code_of p a.thread) a.index b.index))

  undrained : (a b : Spot) → Decided (Undrained p a b)
  undrained a b = as_well (λ h. record { thread = h.0; flow = h.1 }) (λ u. (u.thread, u.flow))
      (both (cases_eq a.thread b.thread) (flows_decided is_undrained (code_of p a.thread) a.index b.index))

  -- ---- starts and joins

  abbrev length_of_main : ℕ
  length_of_main = length (code_of p 0)

  stands_within : (k : ℕ) (it : Instr) → instr_at p 0 k ≡ Some it → k < length_of_main
  stands_within k it is = slice_get_within (code_of p 0) k it is

  abbrev StartsAfter : ℕ → ℕ → ℕ → Type 0
  StartsAfter u j k = (instr_at p 0 k ≡ Some (i.Start u)) × (j < k)

  abbrev JoinsBefore : ℕ → ℕ → ℕ → Type 0
  JoinsBefore u j k = (instr_at p 0 k ≡ Some (i.Join u)) × (k < j)

  abbrev JoinsFirst : ℕ → ℕ → ℕ → Type 0
  JoinsFirst u v j = (instr_at p 0 j ≡ Some (i.Join u)) × SomeBelow (StartsAfter v j) length_of_main

  starts_after : (u j k : ℕ) → Decided (StartsAfter u j k)
  starts_after u j k = both (starts (instr_at p 0 k) u) (is_less j k)

  joins_first : (u v j : ℕ) → Decided (JoinsFirst u v j)
  joins_first u v j = both (joins (instr_at p 0 j) u) (some_below (StartsAfter v j) (starts_after v j) length_of_main)

  abbrev BeforeStart : Spot → Spot → Type 0
  BeforeStart a b = (a.thread ≡ 0) × SomeBelow (StartsAfter b.thread a.index) length_of_main

  abbrev BehindJoin : Spot → Spot → Type 0
  BehindJoin a b = (b.thread ≡ 0) × SomeBelow (JoinsBefore a.thread b.index) length_of_main

  abbrev OneAfterOther : Spot → Spot → Type 0
  OneAfterOther a b = SomeBelow (JoinsFirst a.thread b.thread) length_of_main

  one_way : (a b : Spot) → BeforeStart a b ⊎ (BehindJoin a b ⊎ OneAfterOther a b) → MustBefore p a b
  one_way a b h = elim h [
    | inl x ↦ let k = x.1.2 in before_start x.1.0 x.0 k.0 k.1
    | inr g ↦ elim g [
      | inl x ↦ let k = x.1.2 in behind_join x.1.0 x.0 k.0 k.1
      | inr x ↦ let j = x.2 in let k = j.1.2 in one_after_other x.0 j.1.0 j.0 k.0 k.1
    ]
  ]

  which_way : (a b : Spot) → MustBefore p a b → BeforeStart a b ⊎ (BehindJoin a b ⊎ OneAfterOther a b)
  which_way a b (before_start k main is less) = inl (main, (k, stands_within k (i.Start b.thread) is, (is, less)))
  which_way a b (behind_join k main is less) = inr (inl (main, (k, stands_within k (i.Join a.thread) is, (is, less))))
  which_way a b (one_after_other j k first is less) =
      inr (inr (j, stands_within j (i.Join a.thread) first, (first, (k, stands_within k (i.Start b.thread) is, (is, less)))))

  must_before : (a b : Spot) → Decided (MustBefore p a b)
  must_before a b = as_well (one_way a b) (which_way a b)
      (either (both (cases_eq a.thread 0) (some_below (StartsAfter b.thread a.index) (starts_after b.thread a.index) length_of_main))
      (either (both (cases_eq b.thread 0) (some_below (JoinsBefore a.thread b.index) (λ k. both (joins (instr_at p 0 k) a.thread) (is_less k b.index)) length_of_main))
      (some_below (JoinsFirst a.thread b.thread) (joins_first a.thread b.thread) length_of_main)))

  -- ---- communication

  abbrev Meet : Spot → Spot → ℕ → Type 0
  Meet a b c = Names p a c × Names p b c

  meet : (a b : Spot) → Decided ((c : ℕ) × Names p a c × Names p b c)
  meet a b = as_well (λ h. let c = h.2 in (h.0, c.0, c.1)) (λ h. (h.0, names_below p a h.0 h.1, (h.1, h.2)))
      (some_below (Meet a b) (λ c. both (names_decided p a c) (names_decided p b c)) (cells_end p a))

  pub com_decided : (a b : Spot) → Decided (Com p a b)
  com_decided a b = as_well
      (λ h. let f = h.0 in let g = h.1 in record { from = f.0; to = f.1; apart = f.2; meet = g.0; writes = g.1; may_follow = g.2 })
      (λ c. ((c.from, c.to, c.apart), (c.meet, c.writes, c.may_follow)))
      (both (all_three (is_decided p a Accesses accesses) (is_decided p b Accesses accesses) (failing (cases_eq a.thread b.thread)))
      (all_three (meet a b) (either (is_decided p a Writes writes) (is_decided p b Writes writes)) (failing (must_before b a))))

  -- ---- mutexes and threads

  abbrev mutex_end : Option Instr → ℕ
  mutex_end None = 0
  mutex_end (Some (i.Lock n)) = n + 1
  mutex_end (Some (i.Unlock n)) = n + 1
  mutex_end (Some it) = 0

  handles_below : (o : Option Instr) (m : ℕ) → IsSomeAnd o (Handles m) → m < mutex_end o
  handles_below None m h = absurd h
  handles_below (Some (i.Lock n)) m h = omega arith
  handles_below (Some (i.Unlock n)) m h = omega arith
  handles_below (Some _) m h = absurd h

  abbrev Shared : Spot → Spot → ℕ → Type 0
  Shared a b m = Is p a (Handles m) × Is p b (Handles m)

  abbrev ByMutex : Spot → Spot → Type 0
  ByMutex a b = SomeBelow (Shared a b) (mutex_end (instr_at p a.thread a.index)) × (a.thread ≡ b.thread → ⊥) × (MustBefore p b a → ⊥)

  abbrev Started : Spot → Spot → Type 0
  Started a b = instr_at p a.thread a.index ≡ Some (i.Start b.thread)

  abbrev Joined : Spot → Spot → Type 0
  Joined a b = instr_at p b.thread b.index ≡ Some (i.Join a.thread)

  one_ord : (a b : Spot) → ByMutex a b ⊎ (Started a b ⊎ Joined a b) → Ord p a b
  one_ord a b h = elim h [
    | inl x ↦ let m = x.0 in let two = m.2 in mutex m.0 two.0 two.1 x.1 x.2
    | inr g ↦ elim g [ inl is ↦ start is | inr is ↦ join is ]
  ]

  which_ord : (a b : Spot) → Ord p a b → ByMutex a b ⊎ (Started a b ⊎ Joined a b)
  which_ord a b (mutex m x y apart after) = inl ((m, handles_below (instr_at p a.thread a.index) m x, (x, y)), apart, after)
  which_ord a b (start is) = inr (inl is)
  which_ord a b (join is) = inr (inr is)

  ord : (a b : Spot) → Decided (Ord p a b)
  ord a b = as_well (one_ord a b) (which_ord a b)
      (either (all_three (some_below (Shared a b) (λ m. both (is_decided p a (Handles m) (handles m)) (is_decided p b (Handles m) (handles m))) (mutex_end (instr_at p a.thread a.index)))
      (failing (cases_eq a.thread b.thread)) (failing (must_before b a)))
      (either (starts (instr_at p a.thread a.index) b.thread) (joins (instr_at p b.thread b.index) a.thread)))

  pub edge_decided : (a b : Spot) → Decided (Edge p a b)
  edge_decided a b = either (po a b) (either (com_decided a b) (ord a b))

  -- ---- unsafe pairs

  abbrev Listed : Spot → List ℕ → Type 0
  Listed s cells = (c : ℕ) → Contains cells c ↔ Names p s c

  single : (cells : List ℕ) → Decided ((c : ℕ) × (cells ≡ c ∷ []))
  single [] = inr (λ h. let e = h.1 in cc)
  single (c ∷ []) = inl (c, refl)
  single (c ∷ d ∷ cells) = inr (λ h. let e = h.1 in cc)

  is_single : (cells : List ℕ) (c : ℕ) → Decided (cells ≡ c ∷ [])
  is_single cells c = elim (single cells) [
    | inl h ↦ elim (cases_eq h.0 c) [
      | inl e ↦ inl (h.1 ∙ ap (λ n. n ∷ []) e)
      | inr other ↦ inr (λ g. other (let e : h.0 ∷ [] ≡ c ∷ [] = sym h.1 ∙ g in cc))
    ]
    | inr none ↦ inr (λ e. none (c, e))
  ]

  only_list : (s : Spot) (xs : List ℕ) (c : ℕ) → AreCells (Names p s) xs → NamesOnly p s c → xs ≡ c ∷ []
  only_list s [] c are only = absurd (let k = (are.each c).1 ((only c).1 refl) in omega (arith, k.1))
  only_list s (x ∷ []) c are only = let e : x ≡ c = (only x).0 ((are.each x).0 (zero, omega arith, refl)) in ap (λ n. n ∷ []) e
  only_list s (x ∷ y ∷ xs) c are only =
      let e : x ≡ c = (only x).0 ((are.each x).0 (zero, omega arith, refl)) in
      let f : y ≡ c = (only y).0 ((are.each y).0 (suc zero, omega arith, refl)) in
      let less : x < y = are.ordered zero (omega arith) in
      absurd (omega arith)

  list_only : (s : Spot) (xs : List ℕ) (c : ℕ) → AreCells (Names p s) xs → xs ≡ c ∷ [] → NamesOnly p s c
  list_only s xs c are is d = (
    λ n. let P : List ℕ → Type 0 = λ ys. Contains ys d in (has_one c d).0 (subst P is ((are.each d).1 n)),
    λ e. (are.each d).0 (let P : List ℕ → Type 0 = λ ys. Contains ys d in subst P (sym is) ((has_one c d).1 e)),
  )

  names_only : (s : Spot) → Decided ((c : ℕ) × NamesOnly p s c)
  names_only s =
      let cells = cells_listed p s in
      let are : AreCells (Names p s) cells.0 = record { ordered = cells.1; each = cells.2 } in
      as_well (λ h. (h.0, list_only s cells.0 h.0 are h.1)) (λ h. (h.0, only_list s cells.0 h.0 are h.1)) (single cells.0)

  only_this : (s : Spot) (c : ℕ) → Decided (NamesOnly p s c)
  only_this s c =
      let cells = cells_listed p s in
      let are : AreCells (Names p s) cells.0 = record { ordered = cells.1; each = cells.2 } in
      as_well (list_only s cells.0 c are) (only_list s cells.0 c are) (is_single cells.0 c)

  abbrev Apart : Spot → Spot → Type 0
  Apart s l = (c : ℕ) → NamesOnly p s c → NamesOnly p l c → ⊥

  apart : (s l : Spot) → Decided (Apart s l)
  apart s l = elim (names_only s) [
    | inr none ↦ inl (λ c f g. none (c, f))
    | inl h ↦ elim (only_this l h.0) [
      | inl g ↦ inr (λ apart. apart h.0 h.1 g)
      | inr other ↦ inl (λ c f g. other (
          let e : c ≡ h.0 = (h.1 c).0 ((f c).1 refl) in
          let P : ℕ → Type 0 = λ d. NamesOnly p l d in
          subst P e g))
    ]
  ]

  pub unsafe_decided : (m : Model) (s l : Spot) → Decided (Unsafe p m s l)
  unsafe_decided m s l = as_well
      (λ h. let f = h.0 in let g = h.1 in record { store = f.0; later = f.1; undrained = g.0; apart = g.1 })
      (λ u. ((u.store, u.later), (u.undrained, u.apart)))
      (both (both (is_decided p s IsStore stores) (is_decided p l (Overtakes m) (overtakes m))) (both (undrained s l) (apart s l)))

  -- ---- by numbers

  pub between : (R : Spot → Spot → Type 0) → ((a b : Spot) → Decided (R a b)) → IsDecided (length (sites p)) (Between p R)
  between R d = record {
    decide = λ a b. of_option (slice_get (sites p) a) (λ x. IsSomeAnd (slice_get (sites p) b) (R x)) (λ x. of_option (slice_get (sites p) b) (R x) (d x));
    from_within = λ a b h.
        let x = some_and (slice_get (sites p) a) (λ x. IsSomeAnd (slice_get (sites p) b) (R x)) h in
        slice_get_within (sites p) a x.0 x.1;
    to_within = λ a b h.
        let x = some_and (slice_get (sites p) a) (λ x. IsSomeAnd (slice_get (sites p) b) (R x)) h in
        let y = some_and (slice_get (sites p) b) (R x.0) x.2 in
        slice_get_within (sites p) b y.0 y.1;
  }
