-- Items that are of the spots of a program, by their numbers.
use Rattle.std.proofs.Common.{◌≡◌, ◌∙◌, ℕ, zero, suc, ◌+◌, ◌<◌, ◌≤◌, ◌^◌, List, [], ◌∷◌, ◌++◌, length, length-append, get_or, Bool, true, false, inl, inr, arith, refl, sym, subst, ap, Some}
use Rattle.std.proofs.lemmas.List.Sums.{get_or-le-sum_by}
use Rattle.std.proofs.lemmas.Option.{slice_get_within, slice_get_read, slice_get_cases, slice_get-get_or}
use Rattle.std.specs.Prelude.{◌↔◌, ◌⊎◌, if◌then◌else◌, All, IsSomeAnd, slice_get, sum_by}
use Rattle.mm_goto.specs.declared.program.Instr.{Instr}
use Rattle.mm_goto.specs.declared.program.Thread.{Thread}
use Rattle.mm_goto.specs.declared.spot.Spot.{Spot}
use Rattle.mm_goto.specs.Listing.{Listing}
use Rattle.mm_goto.specs.PointsTo.{instr_at}
use Rattle.mm_goto.specs.Sites.{is_site, sites_from, sites_of, sites, Is}
use Rattle.mm_goto.specs.Valid.{IsValid, code_of}
use Rattle.mm_graph.specs.reading.Tables.{OnBoth, AreOf}
use Rattle.mm_points.proofs.Derived.{stands_at}
use Rattle.mm_points.proofs.Lists.{same_some, no_some, among_split}
use Rattle.mm_graph.proofs.Filling.{some_and, on_both}

pub there_is : {X : Type 0} (xs : List X) (k : ℕ) → k < length xs → (x : X) × (slice_get xs k ≡ Some x)
there_is xs k small = elim (slice_get_cases xs k).1 [ inl p ↦ (p.0, p.2) | inr q ↦ absurd (omega (arith, q.0)) ]

-- ---- relations of items and of spots

module _ {X : Type 0} (Of : Spot → X → Type 0) (spots : List Spot) (items : List X) (of : AreOf Of spots items)
    (Q : X → X → Type 0) (R : Spot → Spot → Type 0) (law : (s t : Spot) (x y : X) → Of s x → Of t y → Q x y ↔ R s t) where
  pub on_spots : (a b : ℕ) → OnBoth Q items a b ↔ OnBoth R spots a b
  on_spots a b = (there, back)
    where
      there : OnBoth Q items a b → OnBoth R spots a b
      there h =
          let x = some_and (slice_get items a) (λ x. IsSomeAnd (slice_get items b) (Q x)) h in
          let y = some_and (slice_get items b) (Q x.0) x.2 in
          let size = of.size in
          let s = there_is spots a (let w = slice_get_within items a x.0 x.1 in omega arith) in
          let t = there_is spots b (let w = slice_get_within items b y.0 y.1 in omega arith) in
          (on_both R spots a b s.0 t.0 s.1 t.1).1 ((law s.0 t.0 x.0 y.0 (of.each a s.0 x.0 s.1 x.1) (of.each b t.0 y.0 t.1 y.1)).0 y.2)

      back : OnBoth R spots a b → OnBoth Q items a b
      back h =
          let s = some_and (slice_get spots a) (λ s. IsSomeAnd (slice_get spots b) (R s)) h in
          let t = some_and (slice_get spots b) (R s.0) s.2 in
          let size = of.size in
          let x = there_is items a (let w = slice_get_within spots a s.0 s.1 in omega arith) in
          let y = there_is items b (let w = slice_get_within spots b t.0 t.1 in omega arith) in
          (on_both Q items a b x.0 y.0 x.1 y.1).1 ((law s.0 t.0 x.0 y.0 (of.each a s.0 x.0 s.1 x.1) (of.each b t.0 y.0 t.1 y.1)).1 t.2)

-- the items, as far as they are made
pub record AreOfFirst {X : Type 0} (Of : Spot → X → Type 0) (spots : List Spot) (n : ℕ) (items : List X) : Type 0 where
  pub size : length items ≡ n
  pub each : (k : ℕ) (spot : Spot) (item : X) → slice_get spots k ≡ Some spot → slice_get items k ≡ Some item → Of spot item

pub of_none : {X : Type 0} (Of : Spot → X → Type 0) (spots : List Spot) → AreOfFirst Of spots 0 []
of_none Of spots = record { size = refl; each = λ k spot item p q. absurd (no_some item q) }

pub of_more : {X : Type 0} (Of : Spot → X → Type 0) (spots : List Spot) (n : ℕ) (items : List X) (spot : Spot) (item : X) → AreOfFirst Of spots n items
    → slice_get spots n ≡ Some spot → Of spot item → AreOfFirst Of spots (n + 1) (items ++ item ∷ [])
of_more Of spots n items spot item so_far stands of = record {
  size = let e = so_far.size in let f = length-append items (item ∷ []) in omega (arith, f);
  each = λ k s x p q. elim (last items item k x q) [
    | inl before ↦ so_far.each k s x p before
    | inr here ↦
        let size = so_far.size in
        let at : n ≡ k = omega (arith, here.0) in
        let P : Spot → Type 0 = λ s. Of s x in
        let Q : _ → Type 0 = λ x. Of spot x in
        subst P (same_some spot s (sym stands ∙ ap (slice_get spots) at ∙ p)) (subst Q here.1 of)
  ];
}
  where
    last : {X : Type 0} (items : List X) (item : X) (k : ℕ) (x : X) → slice_get (items ++ item ∷ []) k ≡ Some x → (slice_get items k ≡ Some x) ⊎ ((k ≡ length items) × (item ≡ x))
    last [] item zero x is = inr (refl, same_some item x is)
    last [] item (suc k) x is = absurd (no_some x is)
    last (y ∷ items) item zero x is = inl is
    last (y ∷ items) item (suc k) x is = elim (last items item k x is) [ inl p ↦ inl p | inr p ↦ inr (omega (arith, p.0), p.1) ]

pub of_all : {X : Type 0} (Of : Spot → X → Type 0) (spots : List Spot) (n : ℕ) (items : List X) → n ≡ length spots → AreOfFirst Of spots n items → AreOf Of spots items
of_all Of spots n items is so_far = record { size = so_far.size ∙ is; each = so_far.each }

-- ---- the sites of a program

-- a site of the thread stands there
pub record IsSiteIn (t k : ℕ) (code : List Instr) (s : Spot) : Type 0 where
  pub i : ℕ
  pub it : Instr
  pub thread : s.thread ≡ t
  pub index : s.index ≡ k + i
  pub stands : slice_get code i ≡ Some it
  pub is : is_site it ≡ true

site_here : (t k : ℕ) (it : Instr) (rest : List Instr) (j : ℕ) (s : Spot) (b : Bool) → is_site it ≡ b
    → ((j : ℕ) → slice_get (sites_from t (k + 1) rest) j ≡ Some s → IsSiteIn t (k + 1) rest s)
    → slice_get (if b then record { thread = t; index = k } ∷ sites_from t (k + 1) rest else sites_from t (k + 1) rest) j ≡ Some s → IsSiteIn t k (it ∷ rest) s
site_here t k it rest j s false not_one later is =
    let r = later j is in record { i = suc r.i; it = r.it; thread = r.thread; index = (let e = r.index in omega arith); stands = r.stands; is = r.is }
site_here t k it rest (suc j) s true so later is =
    let r = later j is in record { i = suc r.i; it = r.it; thread = r.thread; index = (let e = r.index in omega arith); stands = r.stands; is = r.is }
site_here t k it rest zero s true so later is =
    let e : record { thread = t; index = k } ≡ s = same_some _ s is in
    record { i = zero; it = it; thread = sym (ap (λ x. x.thread) e); index = (let f = sym (ap (λ x. x.index) e) in omega arith); stands = refl; is = so }

pub site_from : (t k : ℕ) (code : List Instr) (j : ℕ) (s : Spot) → slice_get (sites_from t k code) j ≡ Some s → IsSiteIn t k code s
site_from t k [] j s is = absurd (no_some s is)
site_from t k (it ∷ rest) j s is = site_here t k it rest j s (is_site it) refl (λ j is. site_from t (k + 1) rest j s is) is

-- a site of one of the threads stands there
pub record IsSiteAmong (t : ℕ) (threads : List Thread) (s : Spot) : Type 0 where
  pub u : ℕ
  pub thread : Thread
  pub number : s.thread ≡ t + u
  pub runs : slice_get threads u ≡ Some thread
  pub site : IsSiteIn (t + u) 0 thread.code s

pub site_among : (t : ℕ) (threads : List Thread) (j : ℕ) (s : Spot) → slice_get (sites_of t threads) j ≡ Some s → IsSiteAmong t threads s
site_among t [] j s is = absurd (no_some s is)
site_among t (thread ∷ rest) j s is = elim (among_split (sites_from t 0 thread.code) (sites_of (t + 1) rest) j s is) [
  | inl a ↦
      let r = site_from t 0 thread.code a.0 s a.1 in
      let P : ℕ → Type 0 = λ n. IsSiteIn n 0 thread.code s in
      record { u = zero; thread = thread; number = (let e = r.thread in omega arith); runs = refl; site = subst P (let e : t ≡ t + zero = omega arith in e) r }
  | inr b ↦
      let r = site_among (t + 1) rest b.0 s b.1 in
      let P : ℕ → Type 0 = λ n. IsSiteIn n 0 r.thread.code s in
      record { u = suc r.u; thread = r.thread; number = (let e = r.number in omega arith); runs = r.runs; site = subst P (let e : t + 1 + r.u ≡ t + suc r.u = omega arith in e) r.site }
]

-- what stands at a site's spot is a site
pub site_is : (p : Listing) (k : ℕ) (s : Spot) → slice_get (sites p) k ≡ Some s → Is p s (λ it. is_site it ≡ true)
site_is p k s is =
    let r = site_among 0 p.threads k s is in
    let t : r.u ≡ s.thread = (let e = r.number in omega arith) in
    let i : r.site.i ≡ s.index = (let e = r.site.index in omega arith) in
    let P : ℕ → ℕ → Type 0 = λ t i. IsSomeAnd (instr_at p t i) (λ it. is_site it ≡ true) in
    let at : P r.u r.site.i = rw r.runs (rw r.site.stands r.site.is) in
    subst (λ n. P n s.index) t (subst (λ n. P r.u n) i at)

pub all_sites : (p : Listing) → All (λ s. Is p s (λ it. is_site it ≡ true)) (sites p)
all_sites p k d small = site_is p k (get_or (sites p) k d) (slice_get-get_or (sites p) k d small)

-- ---- what stands at a spot

-- the instruction at the spot, with its thread
pub record StandsAt (p : Listing) (s : Spot) (it : Instr) : Type 0 where
  pub thread : Thread
  pub runs : slice_get p.threads s.thread ≡ Some thread
  pub stands : slice_get thread.code s.index ≡ Some it

pub spot_stands : (p : Listing) (s : Spot) (it : Instr) → instr_at p s.thread s.index ≡ Some it → StandsAt p s it
spot_stands p s it is = let at = stands_at p s.thread s.index it is in record { thread = at.thread; runs = at.runs; stands = at.stands }

-- the thread that is read at the spot is the spot's
pub thread_read : (p : Listing) (s : Spot) (P : Instr → Type 0) → Is p s P → (threads : List Thread) (x : Thread) → threads ≡ p.threads → x ≡ get_or threads s.thread x
    → slice_get p.threads s.thread ≡ Some x
thread_read p s P is threads x same read =
    let it = some_and (instr_at p s.thread s.index) P is in
    let st = spot_stands p s it.0 it.1 in
    slice_get_read p.threads (length p.threads) s.thread x refl (slice_get_within p.threads s.thread st.thread st.runs) (rw same at read)

pub code_read : (p : Listing) (t : ℕ) (x : Thread) → slice_get p.threads t ≡ Some x → code_of p t ≡ x.code
code_read p t x is = rw is refl

pub short_code : (p : Listing) → IsValid p → All (λ t. length t.code < 2 ^ 32) p.threads
short_code p valid k d small =
    let most : sum_by (λ (x : Thread). length x.code) p.threads ≤ 8388608 = valid.instructions in
    let one = get_or-le-sum_by (λ (x : Thread). length x.code) p.threads k d small in
    omega arith
