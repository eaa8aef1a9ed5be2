-- The first cycle is the first later access, the first that meets it, and the first path back.
use Rattle.std.proofs.Common.{◌≡◌, ℕ, Bool, true, false, ◌<◌, ◌≤◌, List, [], ◌∷◌, length, inl, inr, arith, refl, ap, subst}
use Rattle.std.proofs.lemmas.Bool.{cases_order, cases_lt}
use Rattle.std.specs.Prelude.{◌↔◌, ◌⊎◌}
use Rattle.mm_goto.specs.Paths.{IsPath, edge, on, Leads, IsUpTo, less, IsFirstPath}
use Rattle.mm_goto.specs.DelayCycles.{IsCycle, cycle, IsFirstCycle, rank}
use Rattle.mm_goto.specs.declared.model.Model.{Model}
use Rattle.mm_graph.specs.declared.event_graph.Graph.{Graph}
use Rattle.mm_graph.specs.Graphs.{EdgeIn}
use Rattle.mm_graph.proofs.Filling.{on_both_within}
use Rattle.mm_cycles.specs.Links.{UnsafeIn, AreUnsafe}
use Rattle.mm_bits.proofs.Wordwise.{linked_below}
use Rattle.mm_bits.proofs.Firsts.{upto_head, upto_tail, upto_same, path_head}

module _ (U C E : ℕ → ℕ → Type 0) (s : ℕ) where
  -- the least list of a path, from the order of length and list
  shorter : (m n : ℕ) (xs ys : List ℕ) → m ≡ n → IsUpTo (length (m ∷ xs) ∷ m ∷ xs) (length (n ∷ ys) ∷ n ∷ ys) → IsUpTo (length xs ∷ xs) (length ys ∷ ys)
  shorter m n xs ys one h =
      let low = upto_head _ _ _ _ h in
      elim (cases_lt (length xs) (length ys)) [
        | inl fewer ↦ less fewer
        | inr more ↦
            let even : length xs ≡ length ys = omega arith in
            upto_same _ _ _ _ even (upto_tail _ _ _ _ one (upto_tail _ _ _ _ (omega arith) h))
      ]

  module _ (l m : ℕ) (path : List ℕ) (is_unsafe : U s l) (meets : C l m) (first : IsFirstPath E m path s)
      (before : (k n : ℕ) → k < l → U s k → C k n → ¬ (Leads E n s))
      (least : (n : ℕ) → C l n → Leads E n s → m ≤ n) where
    against : (k n : ℕ) (xs : List ℕ) → U s k → C k n → IsPath E n xs s → IsUpTo (rank (s ∷ l ∷ path)) (rank (s ∷ k ∷ xs))
    against k n xs u c p =
        let mine = path_head E s m path first.is in
        let theirs = path_head E s n xs p in
        rw (mine.1, theirs.1)
        (elim (cases_order l k) [
          | inl one ↦
              let c' : C l n = rw (← one) at c in
              let low : m ≤ n = least n c' (xs, p) in
              upto_same l k _ _ one (elim (cases_lt m n) [
                | inl lower ↦ less lower
                | inr not_lower ↦
                    let two : m ≡ n = omega arith in
                    let p' : IsPath E m xs s = rw (← two) at p in
                    upto_same m n _ _ two (shorter m n _ _ two (rw (mine.1, theirs.1) at (first.first xs p')))
              ])
          | inr (inl less_l) ↦ less less_l
          | inr (inr more_l) ↦ absurd (before k n more_l u c (xs, p))
        ])

    pub first_cycle : IsFirstCycle U C E s (s ∷ l ∷ path)
    first_cycle = record { of = refl; is = cycle is_unsafe meets first.is; first = each }
      where
        each : (rest : List ℕ) → IsCycle U C E (s ∷ rest) → IsUpTo (rank (s ∷ l ∷ path)) (rank (s ∷ rest))
        each _ (cycle {l = k} {m = n} {back = xs} u c p) = against k n xs u c p

  pub no_cycle : ((k n : ℕ) → U s k → C k n → ¬ (Leads E n s)) → (rest : List ℕ) → ¬ (IsCycle U C E (s ∷ rest))
  no_cycle none _ (cycle {l = k} {m = n} {back = xs} u c p) = none k n u c (xs, p)

-- ---- sites by their numbers

pub same_length : {X : Type 0} {xs ys : List X} → xs ≡ ys → length xs ≡ length ys
same_length e = ap (λ zs. length zs) e

pub unsafe_within : (g : Graph) (m : Model) (s l : ℕ) → UnsafeIn g m s l → l < length g.sites
unsafe_within g m s l u = (on_both_within (AreUnsafe m) g.sites s l u.pair).1

pub unsafe_from : (g : Graph) (m : Model) (s l : ℕ) → UnsafeIn g m s l → s < length g.sites
unsafe_from g m s l u = (on_both_within (AreUnsafe m) g.sites s l u.pair).0

-- ---- a walk, step by step

-- a path is an edge, or an edge and a path
pub record Longer (E : ℕ → ℕ → Type 0) (a : ℕ) (xs : List ℕ) (b : ℕ) : Type 0 where
  pub by : ℕ
  pub rest : List ℕ
  pub is : xs ≡ a ∷ rest
  pub edge : E a by
  pub path : IsPath E by rest b

pub path_parts : (E : ℕ → ℕ → Type 0) (a b : ℕ) (xs : List ℕ) → IsPath E a xs b → ((xs ≡ a ∷ []) × E a b) ⊎ Longer E a xs b
path_parts E a b [] p = elim p [ ]
path_parts E a b (_ ∷ []) (edge e) = inl (refl, e)
path_parts E a b (_ ∷ ks) (on {b = m} e p) = inr (record { by = m; rest = ks; is = refl; edge = e; path = p })

pub back_once : (E : ℕ → ℕ → Type 0) (h s : ℕ) → IsPath E h (h ∷ []) s ↔ E h s
back_once E h s = (
  λ p. elim (path_parts E h s (h ∷ []) p) [
    | inl one ↦ one.1
    | inr more ↦ let head = path_head E s more.by more.rest more.path in absurd (let no : [] ≡ more.by ∷ head.0 = cc in cc)
  ],
  λ e. edge e,
)

pub back_more : (E : ℕ → ℕ → Type 0) (h n s : ℕ) (rest : List ℕ) → IsPath E h (h ∷ n ∷ rest) s ↔ (E h n × IsPath E n (n ∷ rest) s)
back_more E h n s rest = (
  λ p. elim (path_parts E h s (h ∷ n ∷ rest) p) [
    | inl one ↦ absurd (let no : n ∷ rest ≡ [] = cc in cc)
    | inr more ↦
        let head = path_head E s more.by more.rest more.path in
        let whole : more.rest ≡ n ∷ rest = cc in
        let same : more.by ≡ n = cc in
        let P : ℕ → Type 0 = λ m. E h m in
        let Q : ℕ → Type 0 = λ m. IsPath E m (n ∷ rest) s in
        (subst P same more.edge, subst Q same (rw whole at more.path))
  ],
  λ both. on both.0 both.1,
)

pub cycle_parts : (U C E : ℕ → ℕ → Type 0) (s l m : ℕ) (rest : List ℕ) → IsCycle U C E (s ∷ l ∷ m ∷ rest) ↔ (U s l × C l m × IsPath E m (m ∷ rest) s)
cycle_parts U C E s l m rest = (λ c. at c, λ parts. cycle parts.0 parts.1 parts.2)
  where
    at : IsCycle U C E (s ∷ l ∷ m ∷ rest) → U s l × C l m × IsPath E m (m ∷ rest) s
    at (cycle {m = n} u c p) = let head = path_head E s n (m ∷ rest) p in let same : n ≡ m = cc in let P : ℕ → Type 0 = λ k. C l k in let Q : ℕ → Type 0 = λ k. IsPath E k (m ∷ rest) s in (u, subst P same c, subst Q same p)

pub no_short_cycle : (U C E : ℕ → ℕ → Type 0) (s l : ℕ) → ¬ (IsCycle U C E (s ∷ l ∷ []))
no_short_cycle U C E s l (cycle u c p) = elim p [ ]

pub path_begins : (E : ℕ → ℕ → Type 0) (a b : ℕ) (xs : List ℕ) → IsPath E a xs b → (y : ℕ) × E a y
path_begins E a b xs p = elim (path_parts E a b xs p) [ inl one ↦ (b, one.1) | inr more ↦ (more.by, more.edge) ]

-- what a path begins at is a site
pub begins_within : (g : Graph) (a b : ℕ) (xs : List ℕ) → IsPath (EdgeIn g) a xs b → a < length g.sites
begins_within g a b xs p =
    let first = path_begins (EdgeIn g) a b xs p in
    let w = linked_below g.edges.rows.items a first.0 first.1 in
    let size = g.edges.sized in
    let side = g.edges_size in
    omega arith

pub iff_turn : {P Q R : Type 0} → P ↔ Q → R ↔ Q → P ↔ R
iff_turn f g = (λ p. g.1 (f.0 p), λ r. f.1 (g.0 r))

pub iff_none : {b : Bool} {P : Type 0} → b ≡ false → ¬ P → (b ≡ true) ↔ P
iff_none e none = (λ t. absurd (let no : false ≡ true = cc in cc), λ p. absurd (none p))
