-- The transitive closure, through one number after the other.
use Rattle.std.proofs.Common.{◌≡◌, ℕ, ◌+◌, ◌<◌, List, [], ◌∷◌, ◌++◌, inl, inr, arith}
use Rattle.std.proofs.lemmas.Bool.{cases_lt}
use Rattle.std.specs.Prelude.{◌↔◌, ◌⊎◌}
use Rattle.mm_goto.specs.Paths.{IsPath, edge, on, Leads}

pub path_joined : (E : ℕ → ℕ → Type 0) (a b c : ℕ) (xs ys : List ℕ) → IsPath E a xs b → IsPath E b ys c → IsPath E a (xs ++ ys) c
path_joined E a b c [] ys p q = elim p [ ]
path_joined E a b c (_ ∷ []) ys (edge e) q = on e q
path_joined E a b c (_ ∷ xs) ys (on {b = m} e p) q = on e (path_joined E m b c xs ys p q)

pub leads_on : (E : ℕ → ℕ → Type 0) (a b c : ℕ) → Leads E a b → Leads E b c → Leads E a c
leads_on E a b c p q = (p.0 ++ q.0, path_joined E a b c p.0 q.0 p.1 q.1)

-- what contains the edges and is transitive contains the paths
pub path_within : (E T : ℕ → ℕ → Type 0) → ((a b : ℕ) → E a b → T a b) → ((j a b : ℕ) → T a j → T j b → T a b)
    → (a b : ℕ) (xs : List ℕ) → IsPath E a xs b → T a b
path_within E T has joins a b [] p = elim p [ ]
path_within E T has joins a b (_ ∷ []) (edge e) = has a b e
path_within E T has joins a b (_ ∷ xs) (on {b = m} e p) = joins m a b (has a m e) (path_within E T has joins m b xs p)

-- so far: T has R's edges, only what paths of R give, and is transitive through each number below k
pub record IsClosing (R T : ℕ → ℕ → Type 0) (k : ℕ) : Type 0 where
  pub has : (a b : ℕ) → R a b → T a b
  pub only : (a b : ℕ) → T a b → Leads R a b
  pub joins : (j a b : ℕ) → j < k → T a j → T j b → T a b

-- U is T and what goes through k
abbrev pub IsThrough : (T U : ℕ → ℕ → Type 0) → ℕ → Type 0
IsThrough T U k = (a b : ℕ) → U a b ↔ (T a b ⊎ (T a k × T k b))

module _ (R T U : ℕ → ℕ → Type 0) (k : ℕ) (through : IsThrough T U k) (so_far : IsClosing R T k) where
  to_k : (a : ℕ) → U a k → T a k
  to_k a u = elim ((through a k).0 u) [ inl t ↦ t | inr t ↦ t.0 ]

  from_k : (b : ℕ) → U k b → T k b
  from_k b u = elim ((through k b).0 u) [ inl t ↦ t | inr t ↦ t.1 ]

  joins_below : (j a b : ℕ) → j < k → U a j → U j b → U a b
  joins_below j a b below u v =
      elim ((through a j).0 u) [
        | inl aj ↦ elim ((through j b).0 v) [
          | inl jb ↦ (through a b).1 (inl (so_far.joins j a b below aj jb))
          | inr jkb ↦ (through a b).1 (inr (so_far.joins j a k below aj jkb.0, jkb.1))
        ]
        | inr akj ↦ elim ((through j b).0 v) [
          | inl jb ↦ (through a b).1 (inr (akj.0, so_far.joins j k b below akj.1 jb))
          | inr jkb ↦ (through a b).1 (inr (akj.0, jkb.1))
        ]
      ]

  pub closing_more : IsClosing R U (k + 1)
  closing_more = record {
    has = λ a b r. (through a b).1 (inl (so_far.has a b r));
    only = λ a b u. elim ((through a b).0 u) [ inl t ↦ so_far.only a b t | inr t ↦ leads_on R a k b (so_far.only a k t.0) (so_far.only k b t.1) ];
    joins = λ j a b below u v. elim (cases_lt j k) [
      | inl less ↦ joins_below j a b less u v
      | inr more ↦ let same : j ≡ k = omega arith in (through a b).1 (inr (to_k a (rw same at u), from_k b (rw same at v)))
    ];
  }

pub closing_none : (R : ℕ → ℕ → Type 0) → IsClosing R R 0
closing_none R = record { has = λ a b r. r; only = λ a b r. (a ∷ [], edge r); joins = λ j a b below u v. absurd (omega arith) }

pub closing_all : (R T : ℕ → ℕ → Type 0) (n : ℕ) → IsClosing R T n → ((a b : ℕ) → T a b → a < n) → (a b : ℕ) → T a b ↔ Leads R a b
closing_all R T n closing within a b =
    (closing.only a b, λ leads. path_within R T closing.has (λ j x y u v. closing.joins j x y (within j y v) u v) a b leads.0 leads.1)

-- what edges lead to is below where each edge does
pub leads_within : (E : ℕ → ℕ → Type 0) (n : ℕ) → ((a b : ℕ) → E a b → b < n) → (a b : ℕ) → Leads E a b → b < n
leads_within E n within a b leads = path_within E (λ x y. y < n) within (λ j x y u v. v) a b leads.0 leads.1
