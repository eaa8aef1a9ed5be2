-- A program's plan has one head, since each store has one first cycle.
use Rattle.std.proofs.Common.{arith, ◌≡◌, ◌∙◌, sym, subst, ap, refl, ℕ, suc, List, [], ◌∷◌, length, Option, Some, None}
use Rattle.std.specs.Prelude.{IsSomeAnd, slice_get}
use Rattle.mm_goto.specs.Bounds.{Bounding}
use Rattle.mm_goto.specs.DelayCycles.{IsCycle, IsFirstCycle, rank}
use Rattle.mm_goto.specs.Listing.{Listing}
use Rattle.mm_goto.specs.Paths.{IsPath, IsUpTo}
use Rattle.mm_goto.specs.Sites.{sites}
use Rattle.mm_goto.specs.declared.ident.At.{At}
use Rattle.mm_goto.specs.declared.model.Model.{Model}
use Rattle.mm_goto.specs.declared.program.Thread.{Thread}
use Rattle.mm_goto.specs.declared.shape.Head.{Head}
use Rattle.mm_goto.specs.declared.shape.Note.{Note}
use Rattle.mm_goto.specs.declared.spot.Spot.{Spot}
use Rattle.mm_delay.specs.Plans.{AreNotes, IsHeadOf, IsNoteOf, noted}
use Rattle.mm_report.proofs.Unique.{same_increasing}

-- ---- one first cycle

-- of two lists that are each up to the other
up_to_each_other : {xs ys us vs : List ℕ} → IsUpTo xs ys → IsUpTo us vs → us ≡ ys → vs ≡ xs → xs ≡ ys
up_to_each_other IsUpTo.done IsUpTo.done e f = e
up_to_each_other IsUpTo.done (IsUpTo.less k) e f = absurd (cc)
up_to_each_other IsUpTo.done (IsUpTo.same k) e f = absurd (cc)
up_to_each_other (IsUpTo.less h) IsUpTo.done e f = absurd (cc)
up_to_each_other (IsUpTo.less {x = x} {y = y} h) (IsUpTo.less {x = u} {y = v} k) e f =
    let first : u ≡ y = cc in
    let second : v ≡ x = cc in
    absurd (omega (arith, h, k, first, second))
up_to_each_other (IsUpTo.less {x = x} {y = y} h) (IsUpTo.same {x = u} k) e f =
    let first : u ≡ y = cc in
    let second : u ≡ x = cc in
    absurd (omega (arith, h, first, second))
up_to_each_other (IsUpTo.same h) IsUpTo.done e f = absurd (cc)
up_to_each_other (IsUpTo.same {x = x} h) (IsUpTo.less {x = u} {y = v} k) e f =
    let first : u ≡ x = cc in
    let second : v ≡ x = cc in
    absurd (omega (arith, k, first, second))
up_to_each_other (IsUpTo.same {x = x} {xs = xs} {ys = ys} h) (IsUpTo.same {xs = us} {ys = vs} k) e f =
    let first : us ≡ ys = cc in
    let second : vs ≡ xs = cc in
    ap (λ zs. x ∷ zs) (up_to_each_other h k first second)

begins : {E : ℕ → ℕ → Type 0} {a b : ℕ} {path : List ℕ} → IsPath E a path b → (rest : List ℕ) × (path ≡ a ∷ rest)
begins (IsPath.edge e) = ([], refl)
begins (IsPath.on {ks = ks} e p) = (ks, refl)

module _ (Unsafe Com Edge : ℕ → ℕ → Type 0) (s : ℕ) where
  -- the parts of a walk from the store
  record Parts (walk : List ℕ) : Type 0 where
    later : ℕ
    meets : ℕ
    rest : List ℕ
    is : walk ≡ s ∷ later ∷ meets ∷ rest

  parts_of : (walk : List ℕ) → IsFirstCycle Unsafe Com Edge s walk → Parts walk
  parts_of walk h = of walk h.is h.of
    where
      of : (walk : List ℕ) → IsCycle Unsafe Com Edge walk → IsSomeAnd (slice_get walk 0) (λ first. first ≡ s) → Parts walk
      of _ (IsCycle.cycle {l = l} {m = m} u c p) first =
          let b = begins p in
          record { later = l; meets = m; rest = b.0; is = λ x. first x ∷ l ∷ b.1 x }

  same_walk : (a b : List ℕ) → IsFirstCycle Unsafe Com Edge s a → IsFirstCycle Unsafe Com Edge s b → a ≡ b
  same_walk a b h k =
      let x = parts_of a h in
      let y = parts_of b k in
      let up : IsUpTo (rank (s ∷ x.later ∷ x.meets ∷ x.rest)) (rank (s ∷ y.later ∷ y.meets ∷ y.rest)) =
      subst (λ w. IsUpTo (rank w) (rank (s ∷ y.later ∷ y.meets ∷ y.rest))) x.is (h.first (y.later ∷ y.meets ∷ y.rest) (subst (IsCycle Unsafe Com Edge) y.is k.is)) in
      let down : IsUpTo (rank (s ∷ y.later ∷ y.meets ∷ y.rest)) (rank (s ∷ x.later ∷ x.meets ∷ x.rest)) =
      subst (λ w. IsUpTo (rank w) (rank (s ∷ x.later ∷ x.meets ∷ x.rest))) y.is (k.first (x.later ∷ x.meets ∷ x.rest) (subst (IsCycle Unsafe Com Edge) x.is h.is)) in
      x.is ∙ (equal x.later y.later x.meets y.meets x.rest y.rest (up_to_each_other up down refl refl) ∙ sym y.is)
    where
      equal : (l k m n : ℕ) (xs ys : List ℕ) → l ∷ m ∷ length xs ∷ xs ≡ k ∷ n ∷ length ys ∷ ys → s ∷ l ∷ m ∷ xs ≡ s ∷ k ∷ n ∷ ys
      equal l k m n xs ys e =
          let first : l ≡ k = cc in
          let second : m ≡ n = cc in
          let others : xs ≡ ys = cc in
          λ x. s ∷ first x ∷ second x ∷ others x

-- ---- one head

some_at : {xs : Option At} {a b : At} → xs ≡ Some a → xs ≡ Some b → a ≡ b
some_at e f = cc

one_place : (o : Option Thread) (i : ℕ) (a b : At) → IsSomeAnd o (λ thread. slice_get thread.places i ≡ Some a) → IsSomeAnd o (λ thread. slice_get thread.places i ≡ Some b) → a ≡ b
one_place None i a b h k = absurd h
one_place (Some thread) i a b h k = some_at h k

abbrev IsAt : Listing → Option Spot → ℕ → At → Type 0
IsAt p o t at = IsSomeAnd o (λ x. (t ≡ x.thread) × IsSomeAnd (slice_get p.threads x.thread) (λ thread. slice_get thread.places x.index ≡ Some at))

one_thread : (p : Listing) (o : Option Spot) (t u : ℕ) (a b : At) → IsAt p o t a → IsAt p o u b → (t ≡ u) × (a ≡ b)
one_thread p None t u a b h k = absurd h
one_thread p (Some x) t u a b h k = (h.0 ∙ sym k.0, one_place (slice_get p.threads x.thread) x.index a b h.1 k.1)

same_note : (p : Listing) (m : Model) (s : ℕ) (a b : Note) → IsNoteOf p m s a → IsNoteOf p m s b → a ≡ b
same_note p m s a b h k =
    let place = one_thread p (slice_get (sites p) s) a.thread b.thread a.at b.at h.spot k.spot in
    let cycle : a.cycle ≡ b.cycle = same_walk _ _ _ s a.cycle b.cycle h.cycle k.cycle in
    let site : a.site ≡ b.site = h.site ∙ sym k.site in
    λ x. record { site = site x; thread = place.0 x; at = place.1 x; cycle = cycle x }

same_list : (ns ms : List Note) → noted ns ≡ noted ms → ((k : ℕ) (n o : Note) → slice_get ns k ≡ Some n → slice_get ms k ≡ Some o → n.site ≡ o.site → n ≡ o) → ns ≡ ms
same_list [] [] e same = refl
same_list [] (o ∷ os) e same = absurd (cc)
same_list (n ∷ ns) [] e same = absurd (cc)
same_list (n ∷ ns) (o ∷ os) e same =
    let site : n.site ≡ o.site = cc in
    let others : noted ns ≡ noted os = cc in
    let first : n ≡ o = same 0 n o refl refl site in
    let rest : ns ≡ os = same_list ns os others (λ k a b f g. same (suc k) a b f g) in
    λ x. first x ∷ rest x

same_notes : (p : Listing) (m : Model) (ns ms : List Note) → AreNotes p m ns → AreNotes p m ms → ns ≡ ms
same_notes p m ns ms h k =
    let which : noted ns ≡ noted ms = same_increasing (noted ns) (noted ms) h.ordered k.ordered (λ s. (λ c. (k.all s).1 ((h.all s).0 c), λ c. (h.all s).1 ((k.all s).0 c))) in
    same_list ns ms which (λ j n o f g e. same_note p m o.site n o (subst (λ s. IsNoteOf p m s n) e (h.each j n f)) (k.each j o g))

pub one_head : (m : Model) (bound : Bounding) (p : Listing) (h k : Head) → IsHeadOf p m bound h → IsHeadOf p m bound k → h ≡ k
one_head m bound p h k a b =
    let model : h.model ≡ k.model = a.model ∙ sym b.model in
    let number : h.bound ≡ k.bound = a.bound ∙ sym b.bound in
    let notes : h.notes ≡ k.notes = same_notes p m h.notes k.notes a.notes b.notes in
    λ x. record { model = model x; bound = number x; notes = notes x }
