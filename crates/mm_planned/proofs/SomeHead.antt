-- A program whose instructions come from places in a text has a note for each store that has a delay cycle.
use Rattle.std.proofs.Common.{arith, ◌≡◌, sym, subst, refl, ℕ, zero, suc, true, ◌+◌, ◌<◌, ◌≤◌, List, [], ◌∷◌, length, Option, Some, None, inl, inr, ⊎_elim, get_or}
use Rattle.std.specs.Prelude.{◌⊎◌, IsSomeAnd, slice_get}
use Rattle.std.specs.List.{Contains}
use Rattle.std.specs.List.Sorted.{IsStrictlyIncreasing}
use Rattle.std.proofs.lemmas.Bool.{cases_lt}
use Rattle.std.proofs.lemmas.Option.{slice_get_within}
use Rattle.mm_goto.specs.Bounds.{Bounding}
use Rattle.mm_goto.specs.DelayCycles.{HasDelayCycle, IsCycle, IsCycleOf, IsDelayCycle, Unsafe}
use Rattle.mm_goto.specs.Listing.{Listing}
use Rattle.mm_goto.specs.PointsTo.{instr_at}
use Rattle.mm_goto.specs.Sites.{is_site, sites}
use Rattle.mm_goto.specs.declared.ident.At.{At}
use Rattle.mm_goto.specs.declared.model.Model.{Model}
use Rattle.mm_goto.specs.declared.program.Thread.{Thread}
use Rattle.mm_goto.specs.declared.shape.Head.{Head}
use Rattle.mm_goto.specs.declared.shape.Note.{Note}
use Rattle.mm_goto.specs.declared.spot.Spot.{Spot}
use Rattle.mm_graph.proofs.Pairs.{StandsAt, there_is, site_is, spot_stands}
use Rattle.mm_decided.proofs.First.{first_cycle_or_none}
use Rattle.mm_delay.specs.Plans.{AreNotes, IsHeadOf, IsNoteOf, noted}
use Rattle.mm_report.proofs.Unique.{first_or_later, there_later}

-- each instruction comes from a place
abbrev pub HasPlaces : Listing → Type 0
HasPlaces p = (t : ℕ) (thread : Thread) → slice_get p.threads t ≡ Some thread → length thread.places ≡ length thread.code

-- ---- numbers in order

in_front : (x : ℕ) (xs : List ℕ) → IsStrictlyIncreasing xs → ((c : ℕ) → Contains xs c → x < c) → IsStrictlyIncreasing (x ∷ xs)
in_front x xs up above zero h = by xs above (omega (arith, h))
  where
    by : (ys : List ℕ) → ((c : ℕ) → Contains ys c → x < c) → 0 < length ys → x < get_or ys 0 0
    by [] over l = absurd (omega (arith, l))
    by (y ∷ ys) over l = over y (0, omega arith, refl)
in_front x xs up above (suc k) h =
    let next : suc (k + 1) ≡ suc k + 1 = omega arith in
    subst (λ n. get_or (x ∷ xs) (suc k) 0 < get_or (x ∷ xs) n 0) next (up k (omega (arith, h)))

begins : (p : Listing) (m : Model) (s : ℕ) (walk : List ℕ) → IsDelayCycle p m walk → IsSomeAnd (slice_get walk 0) (λ first. first ≡ s) → HasDelayCycle p m s
begins p m s _ (IsCycle.cycle {s = a} {l = l} {back = back} u c path) first = (l ∷ back, subst (λ z. IsDelayCycle p m (z ∷ l ∷ back)) first (IsCycle.cycle u c path))

-- a store has a delay cycle, or it has none
pub cycle_decided : (p : Listing) (m : Model) (s : ℕ) → HasDelayCycle p m s ⊎ (HasDelayCycle p m s → ⊥)
cycle_decided p m s = elim (first_cycle_or_none p m s) [ inl c ↦ inl (begins p m s c.0 c.1.is c.1.of) | inr none ↦ inr none ]

module _ (p : Listing) (places : HasPlaces p) (m : Model) where
  -- ---- a note

  some_and : {X : Type 0} (P : X → Type 0) (o : Option X) → IsSomeAnd o P → (x : X) × (o ≡ Some x) × P x
  some_and P (Some x) h = (x, refl, h)
  some_and P None h = absurd h

  -- the place from which a site comes
  place_of : (k : ℕ) (s : Spot) → slice_get (sites p) k ≡ Some s → (at : At) × IsSomeAnd (slice_get p.threads s.thread) (λ thread. slice_get thread.places s.index ≡ Some at)
  place_of k s e =
      let it = some_and (λ it. is_site it ≡ true) (instr_at p s.thread s.index) (site_is p k s e) in
      let stands : StandsAt p s it.0 = spot_stands p s it.0 it.1 in
      let within : s.index < length stands.thread.places = omega (arith, places s.thread stands.thread stands.runs, slice_get_within stands.thread.code s.index it.0 stands.stands) in
      let at = there_is stands.thread.places s.index within in
      (at.0, subst (λ o. IsSomeAnd o (λ thread. slice_get thread.places s.index ≡ Some at.0)) (sym stands.runs) at.1)

  pub within : (s : ℕ) → HasDelayCycle p m s → s < length (sites p)
  within s h = by (s ∷ h.0) h.1 refl
    where
      by : (walk : List ℕ) → IsDelayCycle p m walk → walk ≡ s ∷ h.0 → s < length (sites p)
      by _ (IsCycle.cycle {s = a} {l = l} u c path) e =
          let same : a ≡ s = cc in
          let x = some_and (λ x. IsSomeAnd (slice_get (sites p) l) (Unsafe p m x)) (slice_get (sites p) a) u in
          subst (λ z. z < length (sites p)) same (slice_get_within (sites p) a x.0 x.1)

  -- ---- the notes of the sites from one on

  record NotesFrom (k : ℕ) : Type 0 where
    notes : List Note
    each : (j : ℕ) (note : Note) → slice_get notes j ≡ Some note → IsNoteOf p m note.site note
    ordered : IsStrictlyIncreasing (noted notes)
    low : (s : ℕ) → Contains (noted notes) s → k ≤ s
    only : (s : ℕ) → Contains (noted notes) s → HasDelayCycle p m s
    all : (s : ℕ) → k ≤ s → HasDelayCycle p m s → Contains (noted notes) s

  none_contains : (s : ℕ) → Contains [] s → ⊥
  none_contains s h = omega (arith, h.1)

  no_notes : (k : ℕ) → k ≡ length (sites p) → NotesFrom k
  no_notes k e = record {
    notes = [];
    each = λ j note f. none j note f;
    ordered = λ j h. absurd (omega (arith, h));
    low = λ s h. absurd (none_contains s h);
    only = λ s h. absurd (none_contains s h);
    all = λ s l h. absurd (omega (arith, within s h, l, e));
  }
    where
      none : (j : ℕ) (note : Note) → slice_get [] j ≡ Some note → IsNoteOf p m note.site note
      none zero note f = absurd (cc)
      none (suc j) note f = absurd (cc)

  one_more : (k : ℕ) (walk : List ℕ) → IsCycleOf p m k walk → (spot : Spot) → slice_get (sites p) k ≡ Some spot → NotesFrom (suc k) → NotesFrom k
  one_more k walk first spot e rest =
      let place = place_of k spot e in
      let note : Note = record { site = k; thread = spot.thread; at = place.0; cycle = walk } in
      let is : IsNoteOf p m k note = record { site = refl; spot = subst (λ o. IsSomeAnd o (λ x. (spot.thread ≡ x.thread) × IsSomeAnd (slice_get p.threads x.thread) (λ thread. slice_get thread.places x.index ≡ Some place.0))) (sym e) (refl, place.1); cycle = first } in
      let has : HasDelayCycle p m k = begins p m k walk first.is first.of in
      record {
        notes = note ∷ rest.notes;
        each = each note is;
        ordered = in_front k (noted rest.notes) rest.ordered (λ s h. omega (arith, rest.low s h));
        low = λ s h. ⊎_elim (λ f. omega (arith, f)) (λ g. omega (arith, rest.low s g)) (first_or_later k s (noted rest.notes) h);
        only = λ s h. ⊎_elim (λ f. subst (HasDelayCycle p m) f has) (λ g. rest.only s g) (first_or_later k s (noted rest.notes) h);
        all = λ s l h. ⊎_elim (λ below. there_later k s (noted rest.notes) (rest.all s (omega (arith, below)) h)) (λ above. (0, omega arith, omega (arith, above, l))) (cases_lt k s);
      }
    where
      each : (note : Note) → IsNoteOf p m note.site note → (j : ℕ) (other : Note) → slice_get (note ∷ rest.notes) j ≡ Some other → IsNoteOf p m other.site other
      each note is zero other f = let same : note ≡ other = cc in subst (λ n. IsNoteOf p m n.site n) same is
      each note is (suc j) other f = rest.each j other f

  as_it_was : (k : ℕ) → (HasDelayCycle p m k → ⊥) → NotesFrom (suc k) → NotesFrom k
  as_it_was k none rest = record {
    notes = rest.notes;
    each = rest.each;
    ordered = rest.ordered;
    low = λ s h. omega (arith, rest.low s h);
    only = rest.only;
    all = λ s l h. ⊎_elim (λ below. rest.all s (omega (arith, below)) h) (λ above. let same : s ≡ k = omega (arith, above, l) in absurd (none (subst (HasDelayCycle p m) same h))) (cases_lt k s);
  }

  notes_from : (left k : ℕ) → k + left ≡ length (sites p) → NotesFrom k
  notes_from zero k e = no_notes k (omega (arith, e))
  notes_from (suc left) k e = by (notes_from left (suc k) (omega (arith, e))) (first_cycle_or_none p m k)
    where
      by : NotesFrom (suc k) → ((walk : List ℕ) × IsCycleOf p m k walk) ⊎ (HasDelayCycle p m k → ⊥) → NotesFrom k
      by rest (inl c) = let spot = there_is (sites p) k (omega (arith, e)) in one_more k c.0 c.1 spot.0 spot.1 rest
      by rest (inr none) = as_it_was k none rest

  pub a_head : (bound : Bounding) → (head : Head) × IsHeadOf p m bound head
  a_head bound =
      let n = notes_from (length (sites p)) 0 (omega arith) in
      let notes : AreNotes p m n.notes = record { each = n.each; ordered = n.ordered; all = λ s. (n.only s, n.all s (omega arith)) } in
      (record { model = m; bound = bound; notes = n.notes }, record { model = refl; bound = refl; notes = notes })
