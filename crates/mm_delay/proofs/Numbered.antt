-- Each instruction that is a site has a number.
use Rattle.std.proofs.Common.{◌≡◌, ◌∙◌, ℕ, zero, suc, ◌+◌, Bool, true, false, List, [], ◌∷◌, ◌++◌, arith, refl, sym, subst, ap, Some}
use Rattle.std.specs.Prelude.{if◌then◌else◌, slice_get}
use Rattle.std.proofs.lemmas.Bool.{true≢false}
use Rattle.mm_goto.specs.declared.program.Instr.{Instr}
use Rattle.mm_goto.specs.declared.program.Thread.{Thread}
use Rattle.mm_goto.specs.declared.spot.Spot.{Spot}
use Rattle.mm_goto.specs.Listing.{Listing}
use Rattle.mm_goto.specs.PointsTo.{instr_at}
use Rattle.mm_goto.specs.Sites.{is_site, sites_from, sites_of, sites}
use Rattle.mm_points.proofs.Derived.{stands_at}

in_front : {X : Type 0} (xs ys : List X) (k : ℕ) (x : X) → slice_get xs k ≡ Some x → slice_get (xs ++ ys) k ≡ Some x
in_front [] ys k x is = absurd cc
in_front (y ∷ xs) ys zero x is = is
in_front (y ∷ xs) ys (suc k) x is = in_front xs ys k x is

behind : {X : Type 0} (xs ys : List X) (k : ℕ) (x : X) → slice_get ys k ≡ Some x → (j : ℕ) × (slice_get (xs ++ ys) j ≡ Some x)
behind [] ys k x is = (k, is)
behind (y ∷ xs) ys k x is = let r = behind xs ys k x is in (suc r.0, r.1)

-- a list with one in front or not
with_first : {X : Type 0} (b : Bool) (x y : X) (xs : List X) (j : ℕ) → slice_get xs j ≡ Some x → (i : ℕ) × (slice_get (if b then y ∷ xs else xs) i ≡ Some x)
with_first true x y xs j is = (suc j, is)
with_first false x y xs j is = (j, is)

the_first : (b : Bool) (y : Spot) (xs : List Spot) → b ≡ true → slice_get (if b then y ∷ xs else xs) 0 ≡ Some y
the_first true y xs is = refl
the_first false y xs is = absurd (true≢false (sym is))

numbered_from : (t k : ℕ) (code : List Instr) (i : ℕ) (it : Instr) → slice_get code i ≡ Some it → is_site it ≡ true
    → (j : ℕ) × (slice_get (sites_from t k code) j ≡ Some (record { thread = t; index = k + i }))
numbered_from t k [] i it is site = absurd cc
numbered_from t k (first ∷ code) zero it is site =
    let same : first ≡ it = cc in
    let P : ℕ → Type 0 = λ n. (j : ℕ) × (slice_get (sites_from t k (first ∷ code)) j ≡ Some (record { thread = t; index = n })) in
    subst P (let e : k ≡ k + zero = omega arith in e) (0, the_first (is_site first) (record { thread = t; index = k }) (sites_from t (k + 1) code) (ap is_site same ∙ site))
numbered_from t k (first ∷ code) (suc i) it is site =
    let r = numbered_from t (k + 1) code i it is site in
    let P : ℕ → Type 0 = λ n. (j : ℕ) × (slice_get (sites_from t k (first ∷ code)) j ≡ Some (record { thread = t; index = n })) in
    subst P (let e : k + 1 + i ≡ k + suc i = omega arith in e) (with_first (is_site first) (record { thread = t; index = k + 1 + i }) (record { thread = t; index = k }) (sites_from t (k + 1) code) r.0 r.1)

numbered_of : (t : ℕ) (threads : List Thread) (u : ℕ) (thread : Thread) (i : ℕ) (it : Instr) → slice_get threads u ≡ Some thread → slice_get thread.code i ≡ Some it → is_site it ≡ true
    → (j : ℕ) × (slice_get (sites_of t threads) j ≡ Some (record { thread = t + u; index = i }))
numbered_of t [] u thread i it runs is site = absurd cc
numbered_of t (first ∷ threads) zero thread i it runs is site =
    let same : thread ≡ first = cc in
    let r = numbered_from t 0 first.code i it (subst (λ (x : Thread). slice_get x.code i ≡ Some it) same is) site in
    let P : ℕ → ℕ → Type 0 = λ n k. (j : ℕ) × (slice_get (sites_of t (first ∷ threads)) j ≡ Some (record { thread = n; index = k })) in
    subst (λ n. P n i) (let e : t ≡ t + zero = omega arith in e)
    (subst (P t) (let e : 0 + i ≡ i = omega arith in e) (r.0, in_front (sites_from t 0 first.code) (sites_of (t + 1) threads) r.0 (record { thread = t; index = 0 + i }) r.1))
numbered_of t (first ∷ threads) (suc u) thread i it runs is site =
    let r = numbered_of (t + 1) threads u thread i it runs is site in
    let P : ℕ → Type 0 = λ n. (j : ℕ) × (slice_get (sites_of t (first ∷ threads)) j ≡ Some (record { thread = n; index = i })) in
    subst P (let e : t + 1 + u ≡ t + suc u = omega arith in e) (behind (sites_from t 0 first.code) (sites_of (t + 1) threads) r.0 (record { thread = t + 1 + u; index = i }) r.1)

-- the site that stands there
pub numbered : (p : Listing) (t k : ℕ) (it : Instr) → instr_at p t k ≡ Some it → is_site it ≡ true → (s : ℕ) × (slice_get (sites p) s ≡ Some (record { thread = t; index = k }))
numbered p t k it is site =
    let at = stands_at p t k it is in
    let P : ℕ → Type 0 = λ n. (s : ℕ) × (slice_get (sites p) s ≡ Some (record { thread = n; index = k })) in
    subst P (let e : 0 + t ≡ t = omega arith in e) (numbered_of 0 p.threads t at.thread k it at.runs at.stands site)
