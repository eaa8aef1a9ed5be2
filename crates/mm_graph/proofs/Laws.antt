-- What the code decides of two sites is what the program says of them.
use Rattle.std.proofs.Common.{◌≡◌, ◌≢◌, ◌∙◌, ℕ, ◌<◌, List, length, Bool, true, false, inl, inr, arith, refl, sym, ap, subst, Some, Option, eqb-true, eq-eqb}
use Rattle.std.specs.Prelude.{◌↔◌, ◌⊎◌, ◌||◌, ◌&&◌, ◌==◌, nat_lt, IsSomeAnd, slice_get}
use Rattle.std.proofs.lemmas.Bool.{cases_Bool, cases_lt, true≢false, ltb-true, ltb-false}
use Rattle.std.proofs.lemmas.Option.{slice_get_within}
use Rattle.mm_goto.specs.declared.program.Instr.{Instr}
use Rattle.mm_goto.specs.declared.program.Instr.TheVariants as i
use Rattle.mm_goto.specs.declared.spot.Spot.{Spot}
use Rattle.mm_goto.specs.Listing.{Listing}
use Rattle.mm_goto.specs.PointsTo.{instr_at}
use Rattle.mm_goto.specs.Sites.{Is, Accesses, Writes, Handles, FlowsBy, once, more, MustBefore, before_start, behind_join, one_after_other, Com, Ord, mutex, start, join}
use Rattle.mm_goto.specs.Valid.{code_of, is_start, is_join}
use Rattle.mm_graph.specs.declared.access.Access.{Access}
use Rattle.mm_graph.specs.declared.site.SiteKind.{SiteKind}
use Rattle.mm_graph.specs.declared.site.SiteKind.TheVariants as kind
use Rattle.mm_graph.specs.Sites.{IsOfKind, subject_of}
use Rattle.mm_graph.specs.reading.Accesses as reading
use Rattle.mm_graph.specs.reading.Accesses.{IsLast, last, never, IsFirst, first, nowhere, StartsAt, JoinsAt, is_before, is_behind, are_in_turn, must_before, accesses, writes, handles_mutex, AreMet, AreOfMutex, AreOrdered, IsAccessOf}
use Rattle.mm_graph.proofs.Filling.{some_and}
use Rattle.mm_graph.proofs.KindsOfSites.{accesses_same, writes_same, handled, handles, starts, joins}

-- ---- tests

or_holds : (a b : Bool) → ((a || b) ≡ true) ↔ ((a ≡ true) ⊎ (b ≡ true))
or_holds true b = (λ h. inl refl, λ h. refl)
or_holds false b = (λ h. inr h, λ h. elim h [ inl e ↦ absurd (true≢false (sym e)) | inr e ↦ e ])

and_holds : (a b : Bool) → ((a && b) ≡ true) ↔ ((a ≡ true) × (b ≡ true))
and_holds true b = (λ h. (refl, h), λ h. h.1)
and_holds false b = (λ h. absurd (true≢false (sym h)), λ h. absurd (true≢false (sym h.0)))

same_number : (a b : ℕ) → ((a == b) ≡ true) ↔ (a ≡ b)
same_number a b = (eqb-true a b, eq-eqb a b)

is_false : (b : Bool) (P : Type 0) → (b ≡ true) ↔ P → (b ≡ false) ↔ (P → ⊥)
is_false b P f = (
  λ e p. true≢false (sym (f.1 p) ∙ e),
  λ no. elim (cases_Bool b) [ inl t ↦ absurd (no (f.0 t)) | inr e ↦ e ],
)

iff_both : {A B C D : Type 0} → A ↔ C → B ↔ D → (A ⊎ B) ↔ (C ⊎ D)
iff_both f g = (
  λ h. elim h [ inl a ↦ inl (f.0 a) | inr b ↦ inr (g.0 b) ],
  λ h. elim h [ inl c ↦ inl (f.1 c) | inr d ↦ inr (g.1 d) ],
)

-- ---- the last start and the first join

is_before_last : (P : ℕ → Type 0) (n i : ℕ) (o : Option ℕ) → ((k : ℕ) → P k → k < n) → IsLast P n o → (is_before i o ≡ true) ↔ ((k : ℕ) × (i < k) × P k)
is_before_last P n i _ within (last {k} small p after) = (
  λ h. (k, ltb-true i k h, p),
  λ s. elim (cases_lt i k) [
    | inl less ↦ eq_true i k less
    | inr past ↦ absurd (after s.0 (let a = s.1 in omega arith) (within s.0 s.2) s.2)
  ],
)
  where
    eq_true : (i k : ℕ) → i < k → nat_lt i k ≡ true
    eq_true i k less = elim (cases_Bool (nat_lt i k)) [ inl t ↦ t | inr f ↦ absurd (let h = ltb-false i k f in omega arith) ]
is_before_last P n i _ within (never none) = (λ h. absurd (true≢false (sym h)), λ s. absurd (none s.0 (within s.0 s.2) s.2))

is_behind_first : (P : ℕ → Type 0) (n i : ℕ) (o : Option ℕ) → ((k : ℕ) → P k → k < n) → IsFirst P n o → (is_behind o i ≡ true) ↔ ((k : ℕ) × (k < i) × P k)
is_behind_first P n i _ within (first {k} small p before) = (
  λ h. (k, ltb-true k i h, p),
  λ s. elim (cases_Bool (nat_lt k i)) [
    | inl t ↦ t
    | inr f ↦ absurd (before s.0 (let h = ltb-false k i f in let a = s.1 in omega arith) s.2)
  ],
)
is_behind_first P n i _ within (nowhere none) = (λ h. absurd (true≢false (sym h)), λ s. absurd (none s.0 (within s.0 s.2) s.2))

in_turn : (P Q : ℕ → Type 0) (n : ℕ) (over begun : Option ℕ) → ((k : ℕ) → P k → k < n) → ((k : ℕ) → Q k → k < n) → IsFirst P n over → IsLast Q n begun
    → (are_in_turn over begun ≡ true) ↔ ((j : ℕ) × (k : ℕ) × P j × Q k × (j < k))
in_turn P Q n _ begun wp wq (first {k = f} small p before) l =
    let b = is_before_last Q n f begun wq l in (
      λ h. let s = b.0 h in (f, s.0, p, s.2, s.1),
      λ s. b.1 (s.1, (elim (cases_lt s.0 f) [ inl less ↦ absurd (before s.0 less s.2) | inr past ↦ (let a = s.4 in omega arith) ]), s.3),
    )
in_turn P Q n _ begun wp wq (nowhere none) l = (λ h. absurd (true≢false (sym h)), λ s. absurd (none s.0 (wp s.0 s.2) s.2))

at_within : (code : List Instr) (Q : Instr → Type 0) (k : ℕ) → IsSomeAnd (slice_get code k) Q → k < length code
at_within code Q k h = let s = some_and (slice_get code k) Q h in slice_get_within code k s.0 s.1

start_is : (u : ℕ) (it : Instr) → (is_start u it ≡ true) ↔ (it ≡ i.Start u)
start_is u (i.Start v) = (λ h. ap i.Start (eqb-true v u h), λ e. eq-eqb v u (let f : v ≡ u = cc in f))
start_is u _ = (λ h. absurd (true≢false (sym h)), λ e. absurd (cc))

join_is : (u : ℕ) (it : Instr) → (is_join u it ≡ true) ↔ (it ≡ i.Join u)
join_is u (i.Join v) = (λ h. ap i.Join (eqb-true v u h), λ e. eq-eqb v u (let f : v ≡ u = cc in f))
join_is u _ = (λ h. absurd (true≢false (sym h)), λ e. absurd (cc))

starts_at : (p : Listing) (u k : ℕ) → StartsAt (code_of p 0) u k ↔ (instr_at p 0 k ≡ Some (i.Start u))
starts_at p u k = (
  λ h. let s = some_and (slice_get (code_of p 0) k) (λ it. is_start u it ≡ true) h in s.1 ∙ ap Some ((start_is u s.0).0 s.2),
  λ e. rw e ((start_is u (i.Start u)).1 refl),
)

joins_at : (p : Listing) (u k : ℕ) → JoinsAt (code_of p 0) u k ↔ (instr_at p 0 k ≡ Some (i.Join u))
joins_at p u k = (
  λ h. let s = some_and (slice_get (code_of p 0) k) (λ it. is_join u it ≡ true) h in s.1 ∙ ap Some ((join_is u s.0).0 s.2),
  λ e. rw e ((join_is u (i.Join u)).1 refl),
)

module _ (p : Listing) (s t : Spot) (x y : Access) (of : IsAccessOf p s x) (to : IsAccessOf p t y) where
  abbrev n : ℕ
  n = length (code_of p 0)

  pub must_before_same : (must_before x y ≡ true) ↔ MustBefore p s t
  must_before_same =
      let a = is_before_last (StartsAt (code_of p 0) t.thread) n x.index y.start (at_within (code_of p 0) (λ it. is_start t.thread it ≡ true)) to.start in
      let b = is_behind_first (JoinsAt (code_of p 0) s.thread) n y.index x.join (at_within (code_of p 0) (λ it. is_join s.thread it ≡ true)) of.join in
      let c = in_turn (JoinsAt (code_of p 0) s.thread) (StartsAt (code_of p 0) t.thread) n x.join y.start
      (at_within (code_of p 0) (λ it. is_join s.thread it ≡ true)) (at_within (code_of p 0) (λ it. is_start t.thread it ≡ true)) of.join to.start in
      let one = or_holds ((x.thread == 0) && is_before x.index y.start) (((y.thread == 0) && is_behind x.join y.index) || are_in_turn x.join y.start) in
      let two = or_holds ((y.thread == 0) && is_behind x.join y.index) (are_in_turn x.join y.start) in
      let three = and_holds (x.thread == 0) (is_before x.index y.start) in
      let four = and_holds (y.thread == 0) (is_behind x.join y.index) in (
        λ h. elim (one.0 h) [
          | inl g ↦
              let e = three.0 g in let k = a.0 e.1 in
              before_start k.0 (sym of.thread ∙ eqb-true x.thread 0 e.0) ((starts_at p t.thread k.0).0 k.2) (let i = of.index in let j = k.1 in omega arith)
          | inr g ↦ elim (two.0 g) [
            | inl f ↦
                let e = four.0 f in let k = b.0 e.1 in
                behind_join k.0 (sym to.thread ∙ eqb-true y.thread 0 e.0) ((joins_at p s.thread k.0).0 k.2) (let i = to.index in let j = k.1 in omega arith)
            | inr f ↦ let k = c.0 f in one_after_other k.0 k.1 ((joins_at p s.thread k.0).0 k.2) ((starts_at p t.thread k.1).0 k.3) k.4
          ]
        ],
        back,
      )
    where
      back : MustBefore p s t → must_before x y ≡ true
      back (before_start k main at less) =
          let a = is_before_last (StartsAt (code_of p 0) t.thread) n x.index y.start (at_within (code_of p 0) (λ it. is_start t.thread it ≡ true)) to.start in
          (or_holds ((x.thread == 0) && is_before x.index y.start) (((y.thread == 0) && is_behind x.join y.index) || are_in_turn x.join y.start)).1
          (inl ((and_holds (x.thread == 0) (is_before x.index y.start)).1 (eq-eqb x.thread 0 (of.thread ∙ main), a.1 (k, (let i = of.index in omega arith), (starts_at p t.thread k).1 at))))
      back (behind_join k main at less) =
          let b = is_behind_first (JoinsAt (code_of p 0) s.thread) n y.index x.join (at_within (code_of p 0) (λ it. is_join s.thread it ≡ true)) of.join in
          (or_holds ((x.thread == 0) && is_before x.index y.start) (((y.thread == 0) && is_behind x.join y.index) || are_in_turn x.join y.start)).1
          (inr ((or_holds ((y.thread == 0) && is_behind x.join y.index) (are_in_turn x.join y.start)).1
          (inl ((and_holds (y.thread == 0) (is_behind x.join y.index)).1 (eq-eqb y.thread 0 (to.thread ∙ main), b.1 (k, (let i = to.index in omega arith), (joins_at p s.thread k).1 at))))))
      back (one_after_other j k at after less) =
          let c = in_turn (JoinsAt (code_of p 0) s.thread) (StartsAt (code_of p 0) t.thread) n x.join y.start
          (at_within (code_of p 0) (λ it. is_join s.thread it ≡ true)) (at_within (code_of p 0) (λ it. is_start t.thread it ≡ true)) of.join to.start in
          (or_holds ((x.thread == 0) && is_before x.index y.start) (((y.thread == 0) && is_behind x.join y.index) || are_in_turn x.join y.start)).1
          (inr ((or_holds ((y.thread == 0) && is_behind x.join y.index) (are_in_turn x.join y.start)).1
          (inr (c.1 (j, k, (joins_at p s.thread j).1 at, (starts_at p t.thread k).1 after, less)))))

-- ---- communication and order

-- a test on the kind, as one on the instruction
kind_test : (p : Listing) (s : Spot) (x : Access) → IsAccessOf p s x → (test : SiteKind → Bool) (P : Instr → Type 0)
    → ((k : SiteKind) (it : Instr) → IsOfKind k it → (test k ≡ true) ↔ P it) → (test x.kind ≡ true) ↔ Is p s P
kind_test p s x of test P law =
    let at = some_and (instr_at p s.thread s.index) (IsOfKind x.kind) of.kind in
    rw at.1 (law x.kind at.0 at.2)

module _ (p : Listing) (s t : Spot) (x y : Access) (of : IsAccessOf p s x) (to : IsAccessOf p t y) where
  apart_same : ¬ (x.thread ≡ y.thread) ↔ (s.thread ≢ t.thread)
  apart_same = (λ no e. no (of.thread ∙ e ∙ sym to.thread), λ no e. no (sym of.thread ∙ e ∙ to.thread))

  pub com_same : AreMet x y ↔ Com p s t
  com_same =
      let from = kind_test p s x of accesses Accesses accesses_same in
      let at = kind_test p t y to accesses Accesses accesses_same in
      let w = kind_test p s x of writes Writes writes_same in
      let v = kind_test p t y to writes Writes writes_same in
      let either = or_holds (writes x.kind) (writes y.kind) in
      let after = is_false (must_before y x) (MustBefore p t s) (must_before_same p t s y x to of) in (
        λ m. record {
          from = from.0 m.from;
          to = at.0 m.to;
          apart = apart_same.0 m.apart;
          meet = (m.meet.0, (of.cells m.meet.0).0 m.meet.1, (to.cells m.meet.0).0 m.meet.2);
          writes = (iff_both w v).0 (either.0 m.writes);
          may_follow = after.0 m.may_follow;
        },
        λ c. record {
          from = from.1 c.from;
          to = at.1 c.to;
          apart = apart_same.1 c.apart;
          writes = either.1 ((iff_both w v).1 c.writes);
          may_follow = after.1 c.may_follow;
          meet = (c.meet.0, (of.cells c.meet.0).1 c.meet.1, (to.cells c.meet.0).1 c.meet.2);
        },
      )

  handles_one : (s : Spot) (x : Access) → IsAccessOf p s x → handles_mutex x.kind ≡ true → Is p s (Handles x.subject)
  handles_one s x of h =
      let at = some_and (instr_at p s.thread s.index) (IsOfKind x.kind) of.kind in
      let named : x.subject ≡ subject_of at.0 = rw at.1 at of.subject in
      rw at.1 (handled x.kind x.subject at.0 at.2 named h)

  handled_by : (s : Spot) (x : Access) → IsAccessOf p s x → (m : ℕ) → Is p s (Handles m) → (handles_mutex x.kind ≡ true) × (x.subject ≡ m)
  handled_by s x of m h =
      let at = some_and (instr_at p s.thread s.index) (IsOfKind x.kind) of.kind in
      let named : x.subject ≡ subject_of at.0 = rw at.1 at of.subject in
      let does : Handles m at.0 = rw at.1 at h in
      handles x.kind x.subject m at.0 at.2 named does

  pub ord_same : AreOrdered x y ↔ Ord p s t
  ord_same = (there, back)
    where
      after : (must_before y x ≡ false) ↔ (MustBefore p t s → ⊥)
      after = is_false (must_before y x) (MustBefore p t s) (must_before_same p t s y x to of)

      there : AreOrdered x y → Ord p s t
      there (reading.mutex m) =
          let P : ℕ → Type 0 = λ n. Is p t (Handles n) in
          mutex x.subject (handles_one s x of m.from) (subst P (sym m.one) (handles_one t y to m.to)) (apart_same.0 m.apart) (after.0 m.may_follow)
      there (reading.start k u) =
          let at = some_and (instr_at p s.thread s.index) (IsOfKind x.kind) of.kind in
          let named : x.subject ≡ subject_of at.0 = rw at.1 at of.subject in
          start (at.1 ∙ ap Some (starts x.kind x.subject t.thread at.0 at.2 named k (u ∙ to.thread)))
      there (reading.join k u) =
          let at = some_and (instr_at p t.thread t.index) (IsOfKind y.kind) to.kind in
          let named : y.subject ≡ subject_of at.0 = rw at.1 at to.subject in
          join (at.1 ∙ ap Some (joins y.kind y.subject s.thread at.0 at.2 named k (u ∙ of.thread)))

      back : Ord p s t → AreOrdered x y
      back (mutex m a b far late) =
          let f = handled_by s x of m a in
          let g = handled_by t y to m b in
          reading.mutex (record { from = f.0; to = g.0; one = f.1 ∙ sym g.1; apart = apart_same.1 far; may_follow = after.1 late })
      back (start at) =
          let k : x.kind ≡ kind.Start = rw at at of.kind in
          let u : x.subject ≡ t.thread = rw at at of.subject in
          reading.start k (u ∙ sym to.thread)
      back (join at) =
          let k : y.kind ≡ kind.Join = rw at at to.kind in
          let u : y.subject ≡ s.thread = rw at at to.subject in
          reading.join k (u ∙ sym of.thread)

-- ---- flow

pub flows_same : (f g : Instr → Bool) (code : List Instr) (from : ℕ) → ((it : Instr) → f it ≡ g it) → (k : ℕ) → FlowsBy f code from k → FlowsBy g code from k
flows_same f g code from same k (once leads) = once leads
flows_same f g code from same k (more j flow passing leads) =
    let s = some_and (slice_get code j) (λ it. f it ≡ true) passing in
    more j (flows_same f g code from same j flow) (rw s.1 (sym (same s.0) ∙ s.2)) leads
