-- One and the same only cell, by sets and by lists.
use Rattle.std.proofs.Common.{◌≡◌, ◌∙◌, ℕ, zero, suc, ◌<◌, List, [], ◌∷◌, Bool, true, false, inl, inr, refl, sym, ap, arith, subst, eqb-true, eq-eqb}
use Rattle.std.proofs.lemmas.Bool.{cases_Bool, true≢false}
use Rattle.std.specs.Prelude.{◌↔◌}
use Rattle.mm_goto.specs.declared.program.Instr.{Instr}
use Rattle.mm_goto.specs.declared.program.Instr.TheVariants as i
use Rattle.mm_goto.specs.declared.model.Model.{Model}
use Rattle.mm_goto.specs.declared.model.Model.TheVariants as model
use Rattle.mm_goto.specs.DelayCycles.{IsStore, Overtakes}
use Rattle.mm_graph.specs.declared.site.SiteKind.{SiteKind}
use Rattle.mm_graph.specs.declared.site.SiteKind.TheVariants as kind
use Rattle.mm_graph.specs.Sites.{IsOfKind}
use Rattle.mm_points.specs.Cells.{AreCells}
use Rattle.mm_points.specs.Sets.{Has}
use Rattle.mm_points.proofs.Insertions.{has_one}
use Rattle.mm_cycles.specs.Links.{same_only, overtakes}

pub only_list : (N : ℕ → Type 0) (xs : List ℕ) (c : ℕ) → AreCells N xs → ((d : ℕ) → N d ↔ (d ≡ c)) → xs ≡ c ∷ []
only_list N [] c are only = absurd (let k = (are.each c).1 ((only c).1 refl) in omega (arith, k.1))
only_list N (x ∷ []) c are only = let e : x ≡ c = (only x).0 ((are.each x).0 (zero, omega arith, refl)) in ap (λ n. n ∷ []) e
only_list N (x ∷ y ∷ xs) c are only =
    let e : x ≡ c = (only x).0 ((are.each x).0 (zero, omega arith, refl)) in
    let f : y ≡ c = (only y).0 ((are.each y).0 (suc zero, omega arith, refl)) in
    let less : x < y = are.ordered zero (omega arith) in
    absurd (omega arith)

pub list_only : (N : ℕ → Type 0) (xs : List ℕ) (c : ℕ) → AreCells N xs → xs ≡ c ∷ [] → (d : ℕ) → N d ↔ (d ≡ c)
list_only N xs c are is d = (
  λ n. let P : List ℕ → Type 0 = λ ys. Has ys d in (has_one c d).0 (subst P is ((are.each d).1 n)),
  λ e. (are.each d).0 (let P : List ℕ → Type 0 = λ ys. Has ys d in subst P (sym is) ((has_one c d).1 e)),
)

pub same_list : (xs ys : List ℕ) → same_only xs ys ≡ true → (c : ℕ) × (xs ≡ c ∷ []) × (ys ≡ c ∷ [])
same_list (c ∷ []) (d ∷ []) e = (c, refl, ap (λ n. n ∷ []) (sym (eqb-true c d e)))
same_list [] ys e = absurd (true≢false (sym e))
same_list (c ∷ []) [] e = absurd (true≢false (sym e))
same_list (c ∷ []) (d ∷ y ∷ ys) e = absurd (true≢false (sym e))
same_list (c ∷ x ∷ xs) ys e = absurd (true≢false (sym e))

pub list_same : (xs ys : List ℕ) (c : ℕ) → xs ≡ c ∷ [] → ys ≡ c ∷ [] → same_only xs ys ≡ true
list_same xs ys c e f = rw (e, f) (eq-eqb c c refl)

-- the test fails just where no cell is the only one of both
pub apart_same : (N M : ℕ → Type 0) (xs ys : List ℕ) → AreCells N xs → AreCells M ys
    → (same_only xs ys ≡ false) ↔ ((c : ℕ) → ((d : ℕ) → N d ↔ (d ≡ c)) → ((d : ℕ) → M d ↔ (d ≡ c)) → ⊥)
apart_same N M xs ys n m = (
  λ no c f g. true≢false (sym (list_same xs ys c (only_list N xs c n f) (only_list M ys c m g)) ∙ no),
  λ apart. elim (cases_Bool (same_only xs ys)) [
    | inl both ↦ let s = same_list xs ys both in absurd (apart s.0 (list_only N xs s.0 n s.1) (list_only M ys s.0 m s.2))
    | inr neither ↦ neither
  ],
)

-- ---- kinds

pub store_same : (k : SiteKind) (it : Instr) → IsOfKind k it → (k ≡ kind.Store) ↔ IsStore it
store_same k (i.Store t e) is = (λ h. tt, λ h. is)
store_same k (i.Load l t) is = (λ h. absurd (let no : kind.Store ≡ kind.Load = sym h ∙ is in cc), λ h. absurd h)
store_same k (i.Add l t e) is = (λ h. absurd (let no : kind.Store ≡ kind.Update = sym h ∙ is in cc), λ h. absurd h)
store_same k (i.Cas l t e f) is = (λ h. absurd (let no : kind.Store ≡ kind.Update = sym h ∙ is in cc), λ h. absurd h)
store_same k (i.Lock m) is = (λ h. absurd (let no : kind.Store ≡ kind.Lock = sym h ∙ is in cc), λ h. absurd h)
store_same k (i.Unlock m) is = (λ h. absurd (let no : kind.Store ≡ kind.Unlock = sym h ∙ is in cc), λ h. absurd h)
store_same k (i.Start u) is = (λ h. absurd (let no : kind.Store ≡ kind.Start = sym h ∙ is in cc), λ h. absurd h)
store_same k (i.Join u) is = (λ h. absurd (let no : kind.Store ≡ kind.Join = sym h ∙ is in cc), λ h. absurd h)
store_same k _ is = absurd is

is_so : {b : Bool} {P : Type 0} → b ≡ true → P → (b ≡ true) ↔ P
is_so e p = (λ h. p, λ q. e)

is_not : {b : Bool} {P : Type 0} → b ≡ false → ¬ P → (b ≡ true) ↔ P
is_not e f = (λ h. absurd (true≢false (sym h ∙ e)), λ p. absurd (f p))

pub overtakes_same : (m : Model) (k : SiteKind) (it : Instr) → IsOfKind k it → (overtakes m k ≡ true) ↔ Overtakes m it
overtakes_same m k (i.Load l t) is = is_so (ap (overtakes m) is) tt
overtakes_same model.Tso k (i.Store t e) is = is_not (ap (overtakes model.Tso) is) (λ h. h)
overtakes_same model.Pso k (i.Store t e) is = is_so (ap (overtakes model.Pso) is) tt
overtakes_same m k (i.Add l t e) is = is_not (ap (overtakes m) is) (λ h. h)
overtakes_same m k (i.Cas l t e f) is = is_not (ap (overtakes m) is) (λ h. h)
overtakes_same m k (i.Lock n) is = is_not (ap (overtakes m) is) (λ h. h)
overtakes_same m k (i.Unlock n) is = is_not (ap (overtakes m) is) (λ h. h)
overtakes_same m k (i.Start u) is = is_not (ap (overtakes m) is) (λ h. h)
overtakes_same m k (i.Join u) is = is_not (ap (overtakes m) is) (λ h. h)
overtakes_same m k _ is = absurd is
