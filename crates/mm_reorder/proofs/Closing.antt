-- A cycle that needs added edges gives a store that leaves its thread too early: by recursion on the added edges.
use Rattle.std.proofs.Common.{ℕ, List, [], ◌∷◌, ◌++◌, ◌⊎◌, inl, inr}
use Rattle.mm_reorder.specs.Cycles.{Walk, here, step}

module _ (E : ℕ → ℕ → Type 0) where
  -- at least one edge
  abbrev pub Way : ℕ → ℕ → Type 0
  Way a c = (b : ℕ) × E a b × Walk E c b

  joined_by : (b c a : ℕ) → Walk E b a → Walk E c b → Walk E c a
  joined_by b c a here q = q
  joined_by b c a (step d e p) q = step d e (joined_by b c d p q)

  pub joined : (a b c : ℕ) → Walk E b a → Walk E c b → Walk E c a
  joined a b c p q = joined_by b c a p q

  pub longer : (a b c : ℕ) → Way a b → Walk E c b → Way a c
  longer a b c w q = (w.0, w.1, joined w.0 b c w.2 q)

  pub walk : (a b : ℕ) → Way a b → Walk E b a
  walk a b w = step w.0 w.1 w.2

-- W: the stores outside the set
module _ (W : Type 0) (E : ℕ → ℕ → Type 0) (flush after : W → ℕ) (Later Escapes : W → ℕ → Type 0) where
  -- where a step from behind the store w may lead
  pub data Leads (w : W) (y : ℕ) : Type 0 where
    -- the flush of w leads there by the edges of the run alone
    past : Way E (flush w) y → Leads w y
    -- it is in the thread of w behind w, with no drained instruction from w to there
    stays : Later w y → Leads w y
    -- a later access leaves the thread
    leaves : Escapes w y → Leads w y

  module _ (Shade : ℕ → ℕ → Type 0)
      (forward : (x : ℕ) → Way E x x → ⊥)
      (enters : (w : W) → Leads w (after w))
      (goes : (w : W) (x y : ℕ) → Later w x → E x y → Leads w y)
      (apart : (w : W) → Later w (flush w) → ⊥)
      (onward : (w v : W) → Later w (flush v) → Walk E (after v) (after w))
      -- Shade m x: a walk leads from m to x
      (shade_first : (m : ℕ) → Shade m m)
      (shade_edge : (m x y : ℕ) → Shade m x → E x y → Shade m y)
      (shade_added : (m : ℕ) (w : W) → Shade m (flush w) → Shade m (after w)) where
    -- a walk that takes the added edges of these stores, in order
    abbrev pub Chain : List W → ℕ → ℕ → Type 0
    Chain [] a b = Walk E b a
    Chain (w ∷ ws) a b = Walk E (flush w) a × Chain ws (after w) b

    front : (ws : List W) (a b c : ℕ) → Walk E b a → Chain ws b c → Chain ws a c
    front [] a b c p q = joined E a b c p q
    front (w ∷ ws) a b c p q = (joined E a b (flush w) p q.0, q.1)

    back : (ws : List W) (a b c : ℕ) → Chain ws a b → Walk E c b → Chain ws a c
    back [] a b c p q = joined E a b c p q
    back (w ∷ ws) a b c p q = (p.0, back ws (after w) b c p.1 q)

    -- a store that is overtaken, from where a walk leads back to its flush
    abbrev pub Delayed : W → Type 0
    Delayed w = (m : ℕ) × Escapes w m × Shade m (flush w)

    -- where a walk from behind w has come to
    pub data Out (w : W) (y : ℕ) : Type 0 where
      passed : Way E (flush w) y → Out w y
      inside : Later w y → Out w y
      outside : (m : ℕ) → Escapes w m → Walk E y m → Out w y

    on : (w : W) (x y : ℕ) → Leads w x → Walk E y x → (Later w x → Out w y) → Out w y
    on w x y (past p) rest ih = passed (longer E (flush w) x y p rest)
    on w x y (stays l) rest ih = ih l
    on w x y (leaves e) rest ih = outside x e rest

    out : (w : W) (y x : ℕ) → Later w x → Walk E y x → Out w y
    out w y x l here = inside l
    out w y x l (step b e rest) = on w b y (goes w x b l e) rest (λ k. out w y b k rest)

    leads : (w : W) (y : ℕ) → Walk E y (after w) → Out w y
    leads w y p = on w (after w) y (enters w) p (λ k. out w y (after w) k p)

    shade_walk : (m y x : ℕ) → Shade m x → Walk E y x → Shade m y
    shade_walk m y x s here = s
    shade_walk m y x s (step b e p) = shade_walk m y b (shade_edge m x b s e) p

    shade_chain : (ws : List W) (m x y : ℕ) → Shade m x → Chain ws x y → Shade m y
    shade_chain [] m x y s p = shade_walk m y x s p
    shade_chain (w ∷ ws) m x y s p = shade_chain ws m (after w) y (shade_added m w (shade_walk m (flush w) x s p.0)) p.1

    -- a closed walk: it takes the added edges of w and then those of ws
    delayed : (ws : List W) (w : W) → Chain ws (after w) (flush w) → (v : W) × Delayed v
    delayed [] w p = go (leads w (flush w) p)
      where
        go : Out w (flush w) → (v : W) × Delayed v
        go (passed q) = absurd (forward (flush w) q)
        go (inside l) = absurd (apart w l)
        go (outside m e q) = (w, (m, e, shade_walk m (flush w) m (shade_first m) q))
    delayed (v ∷ vs) w p = go (leads w (flush v) p.0) (λ q. delayed vs v q) (λ q. delayed vs w q)
      where
        go : Out w (flush v) → (Chain vs (after v) (flush v) → (u : W) × Delayed u) → (Chain vs (after w) (flush w) → (u : W) × Delayed u) → (u : W) × Delayed u
        go (passed q) without_w without_v = without_w (back vs (after v) (flush w) (flush v) p.1 (walk E (flush w) (flush v) q))
        go (inside l) without_w without_v = without_v (front vs (after w) (after v) (flush w) (onward w v l) p.1)
        go (outside m e q) without_w without_v = (w, (m, e, shade_chain (v ∷ vs) m m (flush w) (shade_first m) (q, p.1)))

    -- some walk with added edges, of at least one edge
    abbrev pub Linked : ℕ → ℕ → Type 0
    Linked x y = Way E x y ⊎ ((w : W) × (ws : List W) × Walk E (flush w) x × Chain ws (after w) y)

    chains : (ws vs : List W) (a b c : ℕ) → Chain ws a b → Chain vs b c → Chain (ws ++ vs) a c
    chains [] vs a b c p q = front vs a b c p q
    chains (w ∷ ws) vs a b c p q = (p.0, chains ws vs (after w) b c p.1 q)

    pub linked_trans : (x y z : ℕ) → Linked x y → Linked y z → Linked x z
    linked_trans x y z (inl p) (inl q) = inl (longer E x y z p (walk E y z q))
    linked_trans x y z (inl p) (inr q) = inr (q.0, q.1, joined E x y (flush q.0) (walk E x y p) q.2, q.3)
    linked_trans x y z (inr p) (inl q) = inr (p.0, p.1, p.2, back p.1 (after p.0) y z p.3 (walk E y z q))
    linked_trans x y z (inr p) (inr q) = inr (p.0, p.1 ++ (q.0 ∷ q.1), p.2, chains p.1 (q.0 ∷ q.1) (after p.0) y z p.3 (q.2, q.3))

    -- a cycle of the edges with the added ones gives a store that is overtaken
    pub cycle_delayed : (x : ℕ) → Linked x x → (v : W) × Delayed v
    cycle_delayed x (inl p) = absurd (forward x p)
    cycle_delayed x (inr p) = delayed p.1 p.0 (back p.1 (after p.0) x (flush p.0) p.3 p.2)
