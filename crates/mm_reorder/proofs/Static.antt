-- Static edges below a walk: a relation between sites that contains each edge between steps, through steps that are no sites.
use Rattle.std.proofs.Common.{◌≡◌, ℕ, Option, Some, None, refl, sym, subst, ◌⊎◌, inl, inr}
use Rattle.mm_reorder.specs.Cycles.{Walk, here, step}

-- a walk along static edges from a to c
pub data Path (Site : Type 0) (S : Site → Site → Type 0) (c : Site) : Site → Type 0 where
  there : Path Site S c c
  next : {a : Site} (b : Site) → S a b → Path Site S c b → Path Site S c a

-- site: the site of a step that is one. Into a x: from the site a the program leads to the step x, which is none
module _ (Site : Type 0) (site : ℕ → Option Site) (S : Site → Site → Type 0) (Into : Site → ℕ → Type 0) (E : ℕ → ℕ → Type 0) where
  -- what each edge gives, by whether its ends are sites
  pub record Contained : Type 0 where
    pub site_site : (x y : ℕ) (a b : Site) → E x y → site x ≡ Some a → site y ≡ Some b → S a b ⊎ (a ≡ b)
    pub site_plain : (x y : ℕ) (a : Site) → E x y → site x ≡ Some a → site y ≡ None → Into a y
    pub plain_plain : (x y : ℕ) (a : Site) → E x y → site x ≡ None → site y ≡ None → Into a x → Into a y
    pub plain_site : (x y : ℕ) (a b : Site) → E x y → site x ≡ None → site y ≡ Some b → Into a x → S a b

  path_on : (b c a : Site) → Path Site S b a → Path Site S c b → Path Site S c a
  path_on b c a there q = q
  path_on b c a (next d e p) q = next d e (path_on b c d p q)

  -- from the site a to the step of this site, or into the step that is none
  abbrev Under : Option Site → Site → ℕ → Type 0
  Under (Some b) a x = Path Site S b a
  Under None a x = (b : Site) × Path Site S b a × Into b x

  last : (a b c : Site) → Path Site S b a → S b c ⊎ (b ≡ c) → Path Site S c a
  last a b c p (inl s) = path_on b c a p (next c s there)
  last a b c p (inr e) = subst (λ d. Path Site S d a) e p

  module _ (h : Contained) where
    under_edge : (a : Site) (x y : ℕ) → Under (site x) a x → E x y → Under (site y) a y
    under_edge a x y u e = go (site x) (site y) refl refl
      where
        go : (o q : Option Site) → site x ≡ o → site y ≡ q → Under (site y) a y
        go (Some b) (Some c) i j = subst (λ o. Under o a y) (sym j) (last a b c (subst (λ o. Under o a x) i u) (h.site_site x y b c e i j))
        go (Some b) None i j = subst (λ o. Under o a y) (sym j) (b, subst (λ o. Under o a x) i u, h.site_plain x y b e i j)
        go None (Some c) i j = let r : Under None a x = subst (λ o. Under o a x) i u in subst (λ o. Under o a y) (sym j) (last a r.0 c r.1 (inl (h.plain_site x y r.0 c e i j r.2)))
        go None None i j = let r : Under None a x = subst (λ o. Under o a x) i u in subst (λ o. Under o a y) (sym j) (r.0, r.1, h.plain_plain x y r.0 e i j r.2)

    under_walk : (a : Site) (y x : ℕ) → Under (site x) a x → Walk E y x → Under (site y) a y
    under_walk a y x u here = u
    under_walk a y x u (step b e q) = under_walk a y b (under_edge a x b u e) q

    -- a walk from a site to a site has a path of static edges below it
    pub static_path : (a c : Site) (x y : ℕ) → site x ≡ Some a → site y ≡ Some c → Walk E y x → Path Site S c a
    static_path a c x y i j q = subst (λ o. Under o a y) j (under_walk a y x (subst (λ o. Under o a x) (sym i) there) q)
