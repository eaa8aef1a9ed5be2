-- The notes of a program's stores, gathered site by site.
use Rattle.std.proofs.Common.{◌≡◌, ◌∙◌, ℕ, zero, suc, ◌+◌, ◌<◌, ◌≤◌, List, [], ◌∷◌, ◌++◌, length, inl, inr, arith, refl, sym, subst, ap, Some, true}
use Rattle.std.proofs.lemmas.Bool.{cases_eq, cases_lt, true≢false}
use Rattle.std.proofs.lemmas.Option.{slice_get_cases, slice_get-get_or, slice_get_within, slice_get_read, get_or_from_slice_get}
use Rattle.std.proofs.lemmas.List.{get_or_append_left, map-append, length-append}
use Rattle.std.proofs.lemmas.List.Elements.{Contains-append_left, Contains-append_right, Contains-append_cases, Contains-get_or}
use Rattle.std.proofs.Math.Seq.{get_or-append_seam}
use Rattle.std.specs.Prelude.{◌↔◌, IsSomeAnd, slice_get, slice_index_or, All}
use Rattle.std.specs.List.{Contains, slice_index}
use Rattle.std.specs.List.Sorted.{IsStrictlyIncreasing}
use Rattle.mm_goto.specs.declared.model.Model.{Model}
use Rattle.mm_goto.specs.declared.shape.Note.{Note}
use Rattle.mm_goto.specs.declared.spot.Spot.{Spot}
use Rattle.mm_goto.specs.DelayCycles.{HasDelayCycle, IsCycle, cycle, Unsafe, Edge, IsCycleOf}
use Rattle.mm_goto.specs.Listing.{Listing}
use Rattle.mm_goto.specs.Sites.{sites, Com, Between}
use Rattle.mm_graph.proofs.Filling.{some_and, on_both_within}
use Rattle.mm_graph.specs.declared.event_graph.Graph.{Graph}
use Rattle.mm_graph.specs.declared.site.Site.{Site}
use denote.Enum.Bare.{sameb}
use Rattle.mm_graph.specs.contracts.site.SiteKind.{the_type}
use Rattle.mm_graph.specs.declared.site.SiteKind.{SiteKind}
use Rattle.mm_graph.specs.declared.site.SiteKind.TheVariants as kind
use Rattle.mm_graph.specs.Graphs.{IsGraphOf}
use Rattle.mm_graph.specs.Sites.{IsSiteOf}
use Rattle.mm_cycles.proofs.UnsafePairs.{agree}
use Rattle.mm_cycles.specs.Links.{UnsafeIn, AreUnsafe, IsStoreSite}
use Rattle.mm_delay.specs.Plans.{IsNoteOf, noted, AreNotes}

-- ---- the test for a store

pub is_store : (k : SiteKind) → (sameb the_type k kind.Store ≡ true) ↔ (k ≡ kind.Store)
is_store k = (to k, λ e. ap (λ k. sameb the_type k kind.Store) e)
  where
    to : (k : SiteKind) → sameb the_type k kind.Store ≡ true → k ≡ kind.Store
    to kind.Load h = absurd (true≢false (sym h))
    to kind.Store h = refl
    to kind.Update h = absurd (true≢false (sym h))
    to kind.Lock h = absurd (true≢false (sym h))
    to kind.Unlock h = absurd (true≢false (sym h))
    to kind.Start h = absurd (true≢false (sym h))
    to kind.Join h = absurd (true≢false (sym h))

-- ---- the first site of a cycle

first_of : (U C E : ℕ → ℕ → Type 0) (s : ℕ) (walk : List ℕ) → IsCycle U C E walk → IsSomeAnd (slice_get walk 0) (λ first. first ≡ s) → (rest : List ℕ) × IsCycle U C E (s ∷ rest)
first_of U C E s _ (cycle {s = z} {l} {m} {back} u c q) of =
    let P : ℕ → Type 0 = λ z. IsCycle U C E (z ∷ l ∷ back) in
    (l ∷ back, subst P of (cycle u c q))

unsafe_first : (U C E : ℕ → ℕ → Type 0) (s : ℕ) (rest : List ℕ) → IsCycle U C E (s ∷ rest) → (l : ℕ) × U s l
unsafe_first U C E s _ (cycle {l} u c q) = (l, u)

module _ (p : Listing) (m : Model) where
  pub has_cycle : (s : ℕ) (note : Note) → IsNoteOf p m s note → HasDelayCycle p m s
  has_cycle s note is = first_of (Between p (Unsafe p m)) (Between p (Com p)) (Between p (Edge p)) s note.cycle is.cycle.is is.cycle.of

  -- a store with a delay cycle is a site
  pub cycle_within : (s : ℕ) → HasDelayCycle p m s → s < length (sites p)
  cycle_within s has =
      let first = unsafe_first (Between p (Unsafe p m)) (Between p (Com p)) (Between p (Edge p)) s has.0 has.1 in
      (on_both_within (Unsafe p m) (sites p) s first.0 first.1).0

  -- a site with a delay cycle is a store of the graph
  pub cycle_store : (g : Graph) → IsGraphOf p g → (s : ℕ) → HasDelayCycle p m s → IsStoreSite g s
  cycle_store g is s has =
      let first = unsafe_first (Between p (Unsafe p m)) (Between p (Com p)) (Between p (Edge p)) s has.0 has.1 in
      let u : UnsafeIn g m s first.0 = ((agree p g m is).unsafe s first.0).1 first.1 in
      let x = some_and (slice_get g.sites s) (λ x. IsSomeAnd (slice_get g.sites first.0) (AreUnsafe m x)) u.pair in
      let y = some_and (slice_get g.sites first.0) (AreUnsafe m x.0) x.2 in
      rw x.1 y.2.store

  -- ---- site by site

  pub record SoFar (n : ℕ) (notes : List Note) : Type 0 where
    pub each : (k : ℕ) (note : Note) → slice_get notes k ≡ Some note → IsNoteOf p m note.site note
    pub ordered : IsStrictlyIncreasing (noted notes)
    pub below : (s : ℕ) → Contains (noted notes) s → s < n
    pub all : (s : ℕ) → s < n → Contains (noted notes) s ↔ HasDelayCycle p m s

  pub so_far_none : SoFar 0 []
  so_far_none = record {
    each = λ k note e. absurd (let within = slice_get_within [] k note e in omega (arith, within));
    ordered = λ k within. absurd (omega (arith, within));
    below = λ s has. absurd (omega (arith, has.1));
    all = λ s within. absurd (omega (arith, within));
  }

  pub so_far_skip : (n : ℕ) (notes : List Note) → SoFar n notes → ¬ (HasDelayCycle p m n) → SoFar (n + 1) notes
  so_far_skip n notes so none = record {
    each = so.each;
    ordered = so.ordered;
    below = λ s has. let small = so.below s has in omega (arith, small);
    all = λ s within. elim (cases_eq s n) [
      | inl e ↦ (
        λ has. absurd (let small = so.below s has in omega (arith, small, e)),
        λ has. absurd (none (subst (HasDelayCycle p m) e has)),
      )
      | inr other ↦ so.all s (omega (arith, within, other))
    ];
  }

  module _ (n : ℕ) (notes : List Note) (note : Note) (so : SoFar n notes) (is : IsNoteOf p m n note) where
    all_sites : noted (notes ++ note ∷ []) ≡ noted notes ++ n ∷ []
    all_sites = map-append (λ (x : Note). x.site) notes (note ∷ []) ∙ ap (λ s. noted notes ++ s ∷ []) is.site

    each_more : (k : ℕ) (x : Note) → slice_get (notes ++ note ∷ []) k ≡ Some x → IsNoteOf p m x.site x
    each_more k x e =
        let within = slice_get_within (notes ++ note ∷ []) k x e in
        let size = length-append notes (note ∷ []) in
        let here = get_or_from_slice_get (notes ++ note ∷ []) k x x e in
        elim (cases_lt k (length notes)) [
          | inl old ↦ so.each k x (slice_get_read notes (length notes) k x refl old (sym here ∙ get_or_append_left notes (note ∷ []) x k old))
          | inr new ↦
              let last : k ≡ length notes = omega (arith, within, size, new) in
              let same : note ≡ x = sym (get_or-append_seam notes note [] x) ∙ ap (λ k. slice_index_or (notes ++ note ∷ []) k x) (sym last) ∙ here in
              let P : Note → Type 0 = λ x. IsNoteOf p m x.site x in
              let Q : ℕ → Type 0 = λ s. IsNoteOf p m s note in
              subst P same (subst Q (sym is.site) is)
        ]

    rising : IsStrictlyIncreasing (noted notes ++ n ∷ [])
    rising k within =
        let size = length-append (noted notes) (n ∷ []) in
        let left = get_or_append_left (noted notes) (n ∷ []) 0 k (omega (arith, within, size)) in
        elim (cases_lt (k + 1) (length (noted notes))) [
          | inl old ↦
              let right = get_or_append_left (noted notes) (n ∷ []) 0 (k + 1) old in
              rw (left, right) (so.ordered k old)
          | inr new ↦
              let last : k + 1 ≡ length (noted notes) = omega (arith, within, size, new) in
              let right : slice_index (noted notes ++ n ∷ []) (k + 1) ≡ n = ap (λ k. slice_index (noted notes ++ n ∷ []) k) last ∙ get_or-append_seam (noted notes) n [] 0 in
              rw (left, right) (so.below (slice_index (noted notes) k) (Contains-get_or (noted notes) k 0 (omega (arith, last))))
        ]

    below_more : (s : ℕ) → Contains (noted notes ++ n ∷ []) s → s < n + 1
    below_more s has = elim (Contains-append_cases (noted notes) (n ∷ []) s has) [
      | inl old ↦ (let small = so.below s old in omega (arith, small))
      | inr new ↦ (let e = one s new in omega (arith, e))
    ]
      where
        one : (s : ℕ) → Contains (n ∷ []) s → n ≡ s
        one s (zero, small, e) = e
        one s (suc k, small, e) = absurd (omega (arith, small))

    all_more : (s : ℕ) → s < n + 1 → Contains (noted notes ++ n ∷ []) s ↔ HasDelayCycle p m s
    all_more s within = elim (cases_eq s n) [
      | inl e ↦ (
        λ has. subst (HasDelayCycle p m) (sym e) (has_cycle n note is),
        λ has. Contains-append_right (noted notes) (n ∷ []) s (0, omega arith, sym e),
      )
      | inr other ↦
          let old = so.all s (omega (arith, within, other)) in (
            λ has. elim (Contains-append_cases (noted notes) (n ∷ []) s has) [
              | inl was ↦ old.0 was
              | inr new ↦ absurd (let small = below_more s has in other (sym (at s new)))
            ],
            λ has. Contains-append_left (noted notes) (n ∷ []) s (old.1 has),
          )
    ]
      where
        at : (s : ℕ) → Contains (n ∷ []) s → n ≡ s
        at s (zero, small, e) = e
        at s (suc k, small, e) = absurd (omega (arith, small))

    pub so_far_more : SoFar (n + 1) (notes ++ note ∷ [])
    so_far_more =
        let I : List ℕ → Type 0 = IsStrictlyIncreasing in
        let B : List ℕ → Type 0 = λ ns. (s : ℕ) → Contains ns s → s < n + 1 in
        let A : List ℕ → Type 0 = λ ns. (s : ℕ) → s < n + 1 → Contains ns s ↔ HasDelayCycle p m s in
        record {
          each = each_more;
          ordered = subst I (sym all_sites) rising;
          below = subst B (sym all_sites) below_more;
          all = subst A (sym all_sites) all_more;
        }

  pub so_far_all : (n : ℕ) (notes : List Note) → SoFar n notes → length (sites p) ≤ n → AreNotes p m notes
  so_far_all n notes so past = record {
    each = so.each;
    ordered = so.ordered;
    all = λ s. (
      λ has. (so.all s (so.below s has)).0 has,
      λ has. let small = cycle_within s has in (so.all s (omega (arith, small, past))).1 has,
    );
  }

-- what a site of the graph is
pub note_is : (p : Listing) (m : Model) (g : Graph) → IsGraphOf p g → (s : ℕ) (x : Site) → slice_get g.sites s ≡ Some x → (walk : List ℕ) → IsCycleOf p m s walk
    → IsNoteOf p m s (record { site = s; thread = x.thread; at = x.at; cycle = walk })
note_is p m g is s x there walk first =
    let small = slice_get_within g.sites s x there in
    let spot = spot_at s (let size = is.size in omega (arith, size, small)) in
    let of = is.each s spot.0 x spot.1 there in
    record { site = refl; spot = rw spot.1 (of.thread, of_place spot.0 of); cycle = first }
  where
    spot_at : (s : ℕ) → s < length (sites p) → (spot : Spot) × (slice_get (sites p) s ≡ Some spot)
    spot_at s small = elim (slice_get_cases (sites p) s).1 [
      | inl h ↦ (h.0, h.2)
      | inr h ↦ absurd (let past = h.0 in omega (arith, past, small))
    ]

    of_place : (spot : Spot) → IsSiteOf p spot x → IsSomeAnd (slice_get p.threads spot.thread) (λ thread. slice_get thread.places spot.index ≡ Some x.at)
    of_place spot of = of.at

-- each note's site is a site of the program
pub notes_within : (p : Listing) (m : Model) (notes : List Note) → AreNotes p m notes → All (λ note. note.site < length (sites p)) notes
notes_within p m notes are k note small =
    let x : Note = slice_index_or notes k note in
    cycle_within p m x.site (has_cycle p m x.site x (are.each k x (slice_get-get_or notes k note small)))
