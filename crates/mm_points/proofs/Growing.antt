-- Tables that grow to the least sets.
use Rattle.std.proofs.Common.{◌≡◌, ◌∙◌, ℕ, ◌+◌, ◌<◌, ◌≤◌, Bool, true, false, List, [], length, inl, inr, arith, refl, sym, subst, Some, None, Option, Result, Ok, Err, ◌++◌, ◌∷◌, length-append}
use Rattle.std.proofs.lemmas.Bool.{cases_lt, cases_eq, true≢false}
use Rattle.std.proofs.lemmas.List.{get_or-set_same, get_or-set_other, get_or_append_left, get_or_push, get_or_past, length-set}
use Rattle.std.proofs.lemmas.Option.{slice_get_past}
use Rattle.std.specs.Prelude.{◌↔◌, ◌⊎◌, ◌||◌, slice_get, slice_set, IfSome, IfOk, OnOk}
use Rattle.mm_points.specs.Sets.{Has, Linked}
use Rattle.mm_points.proofs.Insertions.{has_by_index}
use Rattle.mm_points.specs.declared.rules.Rule.{Rule}
use Rattle.mm_points.specs.declared.rules.Rule.TheVariants as rule
use Rattle.mm_points.specs.declared.rules.Aim.{Aim}
use Rattle.mm_goto.specs.declared.row.Row.{Row}
use Rattle.mm_goto.specs.PointsTo.{IsInRow}
use Rattle.mm_points.specs.reading.Rules.{Holds, rows, locals, set, load, store, Source, holder, aim, Gives, InAim, by_row, by_local, IsPointer, Grows}

pub neither : (g h : Bool) → (g || h) ≡ false → (g ≡ false) × (h ≡ false)
neither false h e = (refl, e)
neither true h e = absurd (true≢false e)

pub grows_none : (sets : List (List ℕ)) → Grows sets sets false
grows_none sets = record { size = refl; keeps = λ a b h. h; stays = λ e a b h. h }

pub grows_both : (old mid new : List (List ℕ)) (g h : Bool) → Grows old mid g → Grows mid new h → Grows old new (g || h)
grows_both old mid new g h x y = record {
  size = omega (arith, x.size, y.size);
  keeps = λ a b l. y.keeps a b (x.keeps a b l);
  stays = λ e a b l. let two = neither g h e in x.stays two.0 a b (y.stays two.1 a b l);
}

pub aim_more : (T U : ℕ → ℕ → Type 0) → ((a b : ℕ) → T a b → U a b) → (x : Aim) (c : ℕ) → InAim T x c → InAim U x c
aim_more T U more x c (by_row k row is within) = by_row k row is within
aim_more T U more x c (by_local k l is t) = by_local k l is (more (x.base + l) c t)

pub gives_more : (pointers : List Bool) (T U : ℕ → ℕ → Type 0) → ((a b : ℕ) → T a b → U a b) → (it : Rule) (a b : ℕ) → Gives pointers T it a b → Gives pointers U it a b
gives_more pointers T U more rule.Nothing a b g = g
gives_more pointers T U more (rule.Set h x) a b g = (g.0, aim_more T U more x b g.1)
gives_more pointers T U more (rule.Load h x) a b g = (g.0, (g.1.0, g.1.1, aim_more T U more x g.1.0 g.1.2, more g.1.0 b g.1.3))
gives_more pointers T U more (rule.Store x y) a b g = (g.0, aim_more T U more x a g.1, aim_more T U more y b g.2)

module _ (cs : List Rule) (pointers : List Bool) where
  abbrev pub Held : ℕ → ℕ → Type 0
  Held a b = Holds cs pointers (holder a) b

  pub aim_held : (x : Aim) (c : ℕ) → InAim Held x c → Holds cs pointers (aim x) c
  aim_held x c (by_row k row is within) = rows k row is within
  aim_held x c (by_local k l is t) = locals k l is t

  pub held_aim : (x : Aim) (c : ℕ) → Holds cs pointers (aim x) c → InAim Held x c
  held_aim x c (rows k row is within) = by_row k row is within
  held_aim x c (locals k l is held) = by_local k l is held

  -- what a rule gives from what is held is held
  pub held_more : (i : ℕ) (it : Rule) → slice_get cs i ≡ Some it → (a b : ℕ) → Gives pointers Held it a b → Held a b
  held_more i rule.Nothing is a b g = absurd g
  held_more i (rule.Set h x) is a b g = let P : ℕ → Type 0 = λ n. Held n b in subst P (sym g.0) (set i x is (aim_held x b g.1))
  held_more i (rule.Load h x) is a b g = let P : ℕ → Type 0 = λ n. Held n b in subst P (sym g.0) (load i g.1.0 x is g.1.1 (aim_held x g.1.0 g.1.2) g.1.3)
  held_more i (rule.Store x y) is a b g = store i x y is g.0 (aim_held x a g.1) (aim_held y b g.2)

  abbrev pub InSource : (ℕ → ℕ → Type 0) → Source → ℕ → Type 0
  InSource T (holder h) c = T h c
  InSource T (aim x) c = InAim T x c

  -- what meets each rule has all that is held
  pub all_held : (T : ℕ → ℕ → Type 0) → ((i a b : ℕ) → IfSome (slice_get cs i) (λ it. Gives pointers T it a b → T a b)) → (v : Source) (c : ℕ) → Holds cs pointers v c → InSource T v c
  all_held T closed (aim x) c (rows k row is within) = by_row k row is within
  all_held T closed (aim x) c (locals k l is from) = by_local k l is (all_held T closed (holder (x.base + l)) c from)
  all_held T closed (holder h) c (set i x is from) = (rw is at (closed i h c)) (refl, all_held T closed (aim x) c from)
  all_held T closed (holder h) c (load i k x is pointer through from) = (rw is at (closed i h c)) (refl, (k, pointer, all_held T closed (aim x) k through, all_held T closed (holder k) c from))
  all_held T closed (holder k) c (store i x y is pointer through from) = (rw is at (closed i k c)) (pointer, all_held T closed (aim x) k through, all_held T closed (aim y) c from)

-- ---- a sweep, as far as it has come

if_some_map : {X : Type 0} (o : Option X) (P Q : X → Type 0) → ((x : X) → P x → Q x) → IfSome o P → IfSome o Q
if_some_map None P Q f h = h
if_some_map (Some x) P Q f h = f x h

pub record SoFar (cs : List Rule) (pointers : List Bool) (old now : List (List ℕ)) (grew : Bool) (i : ℕ) : Type 0 where
  pub sound : (a b : ℕ) → Linked now a b → Holds cs pointers (holder a) b
  pub grows : Grows old now grew
  pub closed : grew ≡ false → (j a b : ℕ) → j < i → IfSome (slice_get cs j) (λ it. Gives pointers (Linked old) it a b → Linked old a b)

module _ (cs : List Rule) (pointers : List Bool) (old : List (List ℕ)) where
  pub sweep_none : ((a b : ℕ) → Linked old a b → Holds cs pointers (holder a) b) → SoFar cs pointers old old false 0
  sweep_none sound = record { sound = sound; grows = grows_none old; closed = λ e j a b below. absurd (omega arith) }

  module _ (now new : List (List ℕ)) (grew more : Bool) (i : ℕ) (it : Rule) (is : slice_get cs i ≡ Some it) (so_far : SoFar cs pointers old now grew i)
      (given : (a b : ℕ) → Linked new a b ↔ (Linked now a b ⊎ Gives pointers (Linked now) it a b)) (grows : Grows now new more) where
    closed_more : (grew || more) ≡ false → (j a b : ℕ) → j < i + 1 → IfSome (slice_get cs j) (λ it. Gives pointers (Linked old) it a b → Linked old a b)
    closed_more e j a b below =
        let two = neither grew more e in
        elim (cases_lt j i) [
          | inl before ↦ so_far.closed two.0 j a b before
          | inr after ↦
              let here : j ≡ i = omega arith in
              rw (here, is) (λ g. so_far.grows.stays two.0 a b (grows.stays two.1 a b ((given a b).1 (inr (gives_more pointers (Linked old) (Linked now) so_far.grows.keeps it a b g)))))
        ]

    pub sweep_more : SoFar cs pointers old new (grew || more) (i + 1)
    sweep_more = record {
      sound = λ a b l. elim ((given a b).0 l) [
        | inl p ↦ so_far.sound a b p
        | inr p ↦ held_more cs pointers i it is a b (gives_more pointers (Linked now) (Held cs pointers) so_far.sound it a b p)
      ];
      grows = grows_both old now new grew more so_far.grows grows;
      closed = closed_more;
    }

  pub sweep_all : (now : List (List ℕ)) (grew : Bool) → SoFar cs pointers old now grew (length cs) → grew ≡ false
      → (i a b : ℕ) → IfSome (slice_get cs i) (λ it. Gives pointers (Linked now) it a b → Linked now a b)
  sweep_all now grew so_far e i a b =
      elim (cases_lt i (length cs)) [
        | inl small ↦ if_some_map (slice_get cs i) (λ it. Gives pointers (Linked old) it a b → Linked old a b) (λ it. Gives pointers (Linked now) it a b → Linked now a b)
            (λ it f g. so_far.grows.keeps a b (f (gives_more pointers (Linked now) (Linked old) (so_far.grows.stays e) it a b g))) (so_far.closed e i a b small)
        | inr large ↦ rw (slice_get_past cs i large) tt
      ]

-- ---- what a rule's parts give

pub aim_set : (T : ℕ → ℕ → Type 0) (x : Aim) (c : ℕ) (first both : Type 0)
    → first ↔ ((k : ℕ) × (row : Row) × (slice_get x.rows k ≡ Some row) × IsInRow row c)
    → both ↔ (first ⊎ ((k : ℕ) × (l : ℕ) × (slice_get x.locals k ≡ Some l) × T (x.base + l) c))
    → both ↔ InAim T x c
aim_set T x c first both f g = (λ h. elim (g.0 h) [ inl p ↦ (let s = f.0 p in by_row s.0 s.1 s.2 s.3) | inr s ↦ by_local s.0 s.1 s.2 s.3 ], back)
  where
    back : InAim T x c → both
    back (by_row k row is within) = g.1 (inl (f.1 (k, row, is, within)))
    back (by_local k l is t) = g.1 (inr (k, l, is, t))

-- the same, where each part says the same
pub given_same : {New Old A B C : Type 0} → B ↔ C → New ↔ (Old ⊎ (A × B)) → New ↔ (Old ⊎ (A × C))
given_same f g = (λ n. elim (g.0 n) [ inl o ↦ inl o | inr p ↦ inr (p.0, f.0 p.1) ], λ h. elim h [ inl o ↦ g.1 (inl o) | inr p ↦ g.1 (inr (p.0, f.1 p.1)) ])

-- what the pointers among named cells have
pub gathered : {V : Type 0} (pointers : List Bool) (T : ℕ → ℕ → Type 0) (names : List ℕ) (M : ℕ → Type 0) (c : ℕ) → ((k : ℕ) → Has names k ↔ M k)
    → V ↔ ((i : ℕ) × (k : ℕ) × (slice_get names i ≡ Some k) × IsPointer pointers k × T k c) → V ↔ ((k : ℕ) × IsPointer pointers k × M k × T k c)
gathered pointers T names M c f g = (
  λ v. let p = g.0 v in (p.1, p.3, (f p.1).0 ((has_by_index names p.1).0 (p.0, p.1, p.2, refl)), p.4),
  λ p.
      let n = (has_by_index names p.0).1 ((f p.0).1 p.2) in
      let P : ℕ → Type 0 = λ x. slice_get names n.0 ≡ Some x in
      g.1 (n.0, p.0, subst P (sym n.3) n.2, p.1, p.3),
)

-- what the pointers among named cells get
pub pointed : {New Old : Type 0} (pointers : List Bool) (names : List ℕ) (M : ℕ → Type 0) (B N : Type 0) (a : ℕ) → ((k : ℕ) → Has names k ↔ M k) → B ↔ N
    → New ↔ (Old ⊎ ((i : ℕ) × (k : ℕ) × (slice_get names i ≡ Some k) × ((a ≡ k) × IsPointer pointers k × B))) → New ↔ (Old ⊎ (IsPointer pointers a × M a × N))
pointed pointers names M B N a f e g = (
  λ n. elim (g.0 n) [
    | inl o ↦ inl o
    | inr p ↦
        let P : ℕ → Type 0 = λ k. IsPointer pointers k in
        let Q : ℕ → Type 0 = λ k. M k in
        let q = p.3 in
        inr (subst P (sym q.0) q.1, subst Q (sym q.0) ((f p.1).0 ((has_by_index names p.1).0 (p.0, p.1, p.2, refl))), e.0 q.2)
  ],
  λ h. elim h [
    | inl o ↦ g.1 (inl o)
    | inr q ↦
        let n = (has_by_index names a).1 ((f a).1 q.1) in
        let P : ℕ → Type 0 = λ x. slice_get names n.0 ≡ Some x in
        g.1 (inr (n.0, a, subst P (sym n.3) n.2, (refl, q.0, e.1 q.2)))
  ],
)

-- ---- one set that gets more

module _ (sets : List (List ℕ)) (into : ℕ) (new value : List ℕ) (small : into < length sets) where
  pub linked_set : ((m : ℕ) → Has new m ↔ (Linked sets into m ⊎ Has value m)) → (a b : ℕ) → Linked (slice_set sets into new) a b ↔ (Linked sets a b ⊎ ((a ≡ into) × Has value b))
  linked_set added a b = elim (cases_eq a into) [
    | inl here ↦
        rw (here, get_or-set_same sets into new [] small) (
          λ h. elim ((added b).0 h) [ inl was ↦ inl was | inr has ↦ inr (refl, has) ],
          λ h. elim h [ inl was ↦ (added b).1 (inl was) | inr both ↦ (added b).1 (inr both.1) ],
        )
    | inr other ↦
        rw (get_or-set_other sets into a new [] other) (λ h. inl h, λ h. elim h [ inl was ↦ was | inr both ↦ absurd (other both.0) ])
  ]

  pub grows_set : (grew : Bool) → ((m : ℕ) → Has new m ↔ (Linked sets into m ⊎ Has value m)) → (grew ≡ false → (m : ℕ) → Has new m → Linked sets into m) → Grows sets (slice_set sets into new) grew
  grows_set grew added stays = record {
    size = length-set sets into new;
    keeps = λ a b l. (linked_set added a b).1 (inl l);
    stays = λ e a b l. elim (cases_eq a into) [
      | inl here ↦
          let P : ℕ → Type 0 = λ n. Linked (slice_set sets into new) n b in
          let Q : ℕ → Type 0 = λ n. Linked sets n b in
          let R : List ℕ → Type 0 = λ ys. Has ys b in
          subst Q (sym here) (stays e b (subst R (get_or-set_same sets into new [] small) (subst P here l)))
      | inr other ↦ let R : List ℕ → Type 0 = λ ys. Has ys b in subst R (get_or-set_other sets into a new [] other) l
    ];
  }

pub ok_both : {T E A : Type 0} {B C : T → Type 0} (r : Result T E) → OnOk r A → IfOk r B → ((g : T) → A → B g → C g) → IfOk r C
ok_both (Ok g) a b f = f g a b
ok_both (Err e) a b f = tt

pub pointer_within : (pointers : List Bool) (k : ℕ) → IsPointer pointers k → k < length pointers
pointer_within pointers k is =
    elim (cases_lt k (length pointers)) [ inl small ↦ small | inr large ↦ absurd (true≢false (sym is ∙ get_or_past pointers k false large)) ]

-- an empty set more
pub none_pushed : (sets : List (List ℕ)) (one : List ℕ) → ((a b : ℕ) → ¬ (Linked sets a b)) → ((b : ℕ) → ¬ (Has one b)) → (a b : ℕ) → ¬ (Linked (sets ++ one ∷ []) a b)
none_pushed sets one none empty a b l =
    let P : List ℕ → Type 0 = λ ys. Has ys b in
    elim (cases_lt a (length sets)) [
      | inl small ↦ none a b (subst P (get_or_append_left sets (one ∷ []) [] a small) l)
      | inr large ↦ elim (cases_eq a (length sets)) [
        | inl end ↦ empty b (subst P (get_or_push sets one [] a (sym end)) l)
        | inr past ↦
            let out : length (sets ++ one ∷ []) ≤ a = omega (arith, length-append {A = List ℕ}) in
            let gone = subst P (get_or_past (sets ++ one ∷ []) a [] out) l in
            absurd (omega (arith, gone.1))
      ]
    ]
