-- Jumps of laid code pass no Start and no Join, where none stands in a loop or a branch.
use Rattle.std.proofs.Common.{arith, ◌≡◌, ◌⊎◌, inl, inr, ℕ, ◌+◌, ◌<◌, ◌≤◌, false, List, [], ◌∷◌, ◌++◌, length, refl, ◌∙◌, sym, ap, subst, Some}
use Rattle.std.specs.List.{slice_get}
use Rattle.std.proofs.lemmas.Bool.{cases_lt}
use Rattle.mm_goto.specs.declared.ident.At.{At}
use Rattle.mm_goto.specs.declared.pure.Pure.{Pure}
use Rattle.mm_goto.specs.declared.program.Instr.{Instr}
use Rattle.mm_goto.specs.declared.program.Instr.TheVariants as instr
use Rattle.mm_goto.specs.Sourcelike.{JumpPassesNone, is_start_or_join}
use Rattle.mm_flow.specs.Flow.{Flow, Empty, Do, Then, When, Either, While, DoWhile, For, Body, Leave, Mark, Goto, Way, Behind, Next, Home, Ways, Placed, size, lay, way, in_loop, in_body, placed}
use Rattle.mm_sourcelike.proofs.Guarding.{Plain, Safe, after, nothing, Stands, split}
use Rattle.mm_sourcelike.proofs.Cells.{both_all}
use Rattle.mm_sourcelike.proofs.Laying.{Each, EachPlaced, laid_size}
use Rattle.mm_sourcelike.proofs.Scoping.{same_some}

-- ---- where Starts and Joins stand

-- the flow has neither
abbrev pub Calm : Flow → Type 0
Calm f = Each (λ i. is_start_or_join i ≡ false) (λ e. Unit {0}) f

-- each stands in no loop and in no branch
pub data Level : Flow → Type 0 where
  calm : {f : Flow} → Calm f → Level f
  event : {at : At} {i : Instr} → Level (Do at i)
  in_order : {a b : Flow} → Level a → Level b → Level (Then a b)

-- ---- where jumps lead

-- the last place, or one of these
abbrev Meets : (lo hi last : ℕ) → ℕ → Type 0
Meets lo hi last m = (m ≡ last) ⊎ ((lo ≤ m) × (m ≤ hi))

abbrev JumpsIn : (lo hi last : ℕ) → Instr → Type 0
JumpsIn lo hi last (instr.Set l e) = Unit {0}
JumpsIn lo hi last (instr.Load l t) = Unit {0}
JumpsIn lo hi last (instr.Store t e) = Unit {0}
JumpsIn lo hi last (instr.Input l) = Unit {0}
JumpsIn lo hi last (instr.Jump m) = Meets lo hi last m
JumpsIn lo hi last (instr.Branch e m) = Meets lo hi last m
JumpsIn lo hi last (instr.Assert e n) = Unit {0}
JumpsIn lo hi last (instr.Assume e) = Unit {0}
JumpsIn lo hi last instr.Fence = Unit {0}
JumpsIn lo hi last (instr.Lock m) = Unit {0}
JumpsIn lo hi last (instr.Unlock m) = Unit {0}
JumpsIn lo hi last (instr.Add l t e) = Unit {0}
JumpsIn lo hi last (instr.Cas l t e f) = Unit {0}
JumpsIn lo hi last (instr.Start u) = Unit {0}
JumpsIn lo hi last (instr.Join u) = Unit {0}
JumpsIn lo hi last instr.AtomBegin = Unit {0}
JumpsIn lo hi last instr.AtomEnd = Unit {0}
JumpsIn lo hi last instr.End = Unit {0}

-- what control goes on behind is no jump
no_jump : (m : ℕ) → Plain (instr.Jump m) → ⊥
no_jump m h = let a : m ≡ 0 + 1 = h 0 m refl in let b : m ≡ 1 + 1 = h 1 m refl in omega arith

no_branch : (e : Pure) (m : ℕ) → Plain (instr.Branch e m) → ⊥
no_branch e m h = let a : m ≡ 0 + 1 = h 0 m (inl refl) in let b : m ≡ 1 + 1 = h 1 m (inl refl) in omega arith

plain_jumps : (lo hi last : ℕ) (i : Instr) → Plain i → JumpsIn lo hi last i
plain_jumps lo hi last (instr.Set l e) h = tt
plain_jumps lo hi last (instr.Load l t) h = tt
plain_jumps lo hi last (instr.Store t e) h = tt
plain_jumps lo hi last (instr.Input l) h = tt
plain_jumps lo hi last (instr.Jump m) h = absurd (no_jump m h)
plain_jumps lo hi last (instr.Branch e m) h = absurd (no_branch e m h)
plain_jumps lo hi last (instr.Assert e n) h = tt
plain_jumps lo hi last (instr.Assume e) h = tt
plain_jumps lo hi last instr.Fence h = tt
plain_jumps lo hi last (instr.Lock m) h = tt
plain_jumps lo hi last (instr.Unlock m) h = tt
plain_jumps lo hi last (instr.Add l t e) h = tt
plain_jumps lo hi last (instr.Cas l t e f) h = tt
plain_jumps lo hi last (instr.Start u) h = tt
plain_jumps lo hi last (instr.Join u) h = tt
plain_jumps lo hi last instr.AtomBegin h = tt
plain_jumps lo hi last instr.AtomEnd h = tt
plain_jumps lo hi last instr.End h = tt

-- the jumps of an instruction that meet such places pass nothing, where nothing stands among them
passes_none : (code : List Instr) (lo hi last j : ℕ) → last + 1 ≡ length code → lo ≤ j → j < hi → ((m : ℕ) (i : Instr) → lo ≤ m → m < hi → slice_get code m ≡ Some i → is_start_or_join i ≡ false) → (i : Instr) → JumpsIn lo hi last i → JumpPassesNone code j i
passes_none code lo hi last j is low high idle i h = by i h
  where
    between : (k : ℕ) → lo ≤ k → k ≤ hi → (m : ℕ) (i : Instr) → ((j < m) × (m < k)) ⊎ ((k ≤ m) × (m < j)) → slice_get code m ≡ Some i → is_start_or_join i ≡ false
    between k a b m i (inl r) e = idle m i (omega (arith, low, r.0)) (omega (arith, b, r.1)) e
    between k a b m i (inr r) e = idle m i (omega (arith, a, r.0)) (omega (arith, high, r.1)) e

    meets : (k : ℕ) → Meets lo hi last k → (k + 1 ≡ length code) ⊎ ((m : ℕ) (i : Instr) → ((j < m) × (m < k)) ⊎ ((k ≤ m) × (m < j)) → slice_get code m ≡ Some i → is_start_or_join i ≡ false)
    meets k (inl e) = inl (omega (arith, e, is))
    meets k (inr r) = inr (between k r.0 r.1)

    by : (i : Instr) → JumpsIn lo hi last i → JumpPassesNone code j i
    by (instr.Set l e) g = tt
    by (instr.Load l t) g = tt
    by (instr.Store t e) g = tt
    by (instr.Input l) g = tt
    by (instr.Jump m) g = meets m g
    by (instr.Branch e m) g = meets m g
    by (instr.Assert e n) g = tt
    by (instr.Assume e) g = tt
    by instr.Fence g = tt
    by (instr.Lock m) g = tt
    by (instr.Unlock m) g = tt
    by (instr.Add l t e) g = tt
    by (instr.Cas l t e f) g = tt
    by (instr.Start u) g = tt
    by (instr.Join u) g = tt
    by instr.AtomBegin g = tt
    by instr.AtomEnd g = tt
    by instr.End g = tt

plain_passes : (code : List Instr) (j : ℕ) (i : Instr) → Plain i → JumpPassesNone code j i
plain_passes code j (instr.Set l e) h = tt
plain_passes code j (instr.Load l t) h = tt
plain_passes code j (instr.Store t e) h = tt
plain_passes code j (instr.Input l) h = tt
plain_passes code j (instr.Jump m) h = absurd (no_jump m h)
plain_passes code j (instr.Branch e m) h = absurd (no_branch e m h)
plain_passes code j (instr.Assert e n) h = tt
plain_passes code j (instr.Assume e) h = tt
plain_passes code j instr.Fence h = tt
plain_passes code j (instr.Lock m) h = tt
plain_passes code j (instr.Unlock m) h = tt
plain_passes code j (instr.Add l t e) h = tt
plain_passes code j (instr.Cas l t e f) h = tt
plain_passes code j (instr.Start u) h = tt
plain_passes code j (instr.Join u) h = tt
plain_passes code j instr.AtomBegin h = tt
plain_passes code j instr.AtomEnd h = tt
plain_passes code j instr.End h = tt

-- ---- a flow with no Start and no Join

both : (P : Instr → Type 0) (ps qs : List Placed) → EachPlaced P ps → EachPlaced P qs → EachPlaced P (ps ++ qs)
both P ps qs h g = both_all (λ (q : Placed). P q.instr) ps qs h g

record WaysMeet (lo hi last : ℕ) (x : Ways) : Type 0 where
  behind : Meets lo hi last x.behind
  next : Meets lo hi last x.next
  home : Meets lo hi last x.home

module _ (lo hi last : ℕ) where
  abbrev Quiet : Instr → Type 0
  Quiet i = JumpsIn lo hi last i × (is_start_or_join i ≡ false)

  way_meets : (x : Ways) (w : Way) → WaysMeet lo hi last x → Meets lo hi last (way x w)
  way_meets x Behind h = h.behind
  way_meets x Next h = h.next
  way_meets x Home h = h.home

  loop_meets : (x : Ways) (behind next : ℕ) → WaysMeet lo hi last x → Meets lo hi last behind → Meets lo hi last next → WaysMeet lo hi last (in_loop x behind next)
  loop_meets x behind next h b m = record { behind = b; next = m; home = h.home }

  quiet : (x : Ways) (f : Flow) (k : ℕ) (X : Pure → Type 0) → WaysMeet lo hi last x → lo ≤ k → k + size f ≤ hi → Safe X f → Calm f → EachPlaced Quiet (lay x f k)
  quiet x Empty k X w l r s c = tt
  quiet x (Do at i) k X w l r s c = ((plain_jumps lo hi last i s.0, c), tt)
  quiet x (Then a b) k X w l r s c =
      both Quiet (lay x a k) (lay x b (k + size a)) (quiet x a k X w l (omega (arith, r)) s.0 c.0) (quiet x b (k + size a) (after X a) w (omega (arith, l)) (omega (arith, r)) s.1 c.1)
  quiet x (When at e a) k X w l r s c = ((inr (omega (arith, l), omega (arith, r)), refl), quiet x a (k + 1) nothing w (omega (arith, l)) (omega (arith, r)) s.1 c.1)
  quiet x (Either at e a b) k X w l r s c =
      let other : ℕ = k + 1 + size a + 1 in (
        (inr (omega (arith, l), omega (arith, r)), refl),
        both Quiet (lay x a (k + 1)) (placed at (instr.Jump (other + size b)) ∷ lay x b other)
            (quiet x a (k + 1) nothing w (omega (arith, l)) (omega (arith, r)) s.1 c.1)
            ((inr (omega (arith, l), omega (arith, r)), refl), quiet x b other nothing w (omega (arith, l)) (omega (arith, r)) s.2 c.2),
      )
  quiet x (While at d e a) k X w l r s c =
      let end : ℕ = k + size d + 1 + size a + 1 in
      let inside : WaysMeet lo hi last (in_loop x end k) = loop_meets x end k w (inr (omega (arith, l), omega (arith, r))) (inr (l, omega (arith, r))) in
      both Quiet (lay x d k) (placed at (instr.Branch e end) ∷ (lay (in_loop x end k) a (k + size d + 1) ++ (placed at (instr.Jump k) ∷ [])))
      (quiet x d k nothing w l (omega (arith, r)) s.0 c.0) (
        (inr (omega (arith, l), omega (arith, r)), refl),
        both Quiet (lay (in_loop x end k) a (k + size d + 1)) (placed at (instr.Jump k) ∷ [])
            (quiet (in_loop x end k) a (k + size d + 1) nothing inside (omega (arith, l)) (omega (arith, r)) s.2 c.2)
            ((inr (l, omega (arith, r)), refl), tt),
      )
  quiet x (DoWhile at a d e) k X w l r s c =
      let next : ℕ = k + size a in
      let end : ℕ = next + size d + 2 in
      let inside : WaysMeet lo hi last (in_loop x end next) = loop_meets x end next w (inr (omega (arith, l), omega (arith, r))) (inr (omega (arith, l), omega (arith, r))) in
      both Quiet (lay (in_loop x end next) a k) (lay x d next ++ (placed at (instr.Branch e end) ∷ (placed at (instr.Jump k) ∷ [])))
      (quiet (in_loop x end next) a k nothing inside l (omega (arith, r)) s.0 c.0)
      (both Quiet (lay x d next) (placed at (instr.Branch e end) ∷ (placed at (instr.Jump k) ∷ []))
      (quiet x d next nothing w (omega (arith, l)) (omega (arith, r)) s.1 c.1)
      ((inr (omega (arith, l), omega (arith, r)), refl), ((inr (l, omega (arith, r)), refl), tt)))
  quiet x (For at d e a j) k X w l r s c =
      let next : ℕ = k + size d + 1 + size a in
      let end : ℕ = next + size j + 1 in
      let inside : WaysMeet lo hi last (in_loop x end next) = loop_meets x end next w (inr (omega (arith, l), omega (arith, r))) (inr (omega (arith, l), omega (arith, r))) in
      both Quiet (lay x d k) (placed at (instr.Branch e end) ∷ (lay (in_loop x end next) a (k + size d + 1) ++ (lay x j next ++ (placed at (instr.Jump k) ∷ []))))
      (quiet x d k nothing w l (omega (arith, r)) s.0 c.0) (
        (inr (omega (arith, l), omega (arith, r)), refl),
        both Quiet (lay (in_loop x end next) a (k + size d + 1)) (lay x j next ++ (placed at (instr.Jump k) ∷ []))
            (quiet (in_loop x end next) a (k + size d + 1) nothing inside (omega (arith, l)) (omega (arith, r)) s.2 c.2)
            (both Quiet (lay x j next) (placed at (instr.Jump k) ∷ []) (quiet x j next nothing w (omega (arith, l)) (omega (arith, r)) s.3 c.3) ((inr (l, omega (arith, r)), refl), tt)),
      )
  quiet x (Body names a) k X w l r s c = quiet (in_body x names a k) a k nothing (record { behind = w.behind; next = w.next; home = inr (omega (arith, l), r) }) l r s c
  quiet x (Leave at v) k X w l r s c = ((way_meets x v w, refl), tt)
  quiet x (Mark y) k X w l r s c = tt
  quiet x (Goto at y) k X w l r s c = absurd s

-- ---- a flow in which each stands in no loop and in no branch

-- what is said of laid instructions holds of what stands at their places
at_place : (code : List Instr) (P : Instr → Type 0) (ps : List Placed) (k : ℕ) → EachPlaced P ps → Stands code k ps → (j : ℕ) → k ≤ j → j < k + length ps → (i : Instr) → slice_get code j ≡ Some i → P i
at_place code P [] k h s j l r i e = absurd (omega (arith, l, r))
at_place code P (p ∷ ps) k h s j l r i e = choose (cases_lt k j) (λ m. at_place code P ps (k + 1) h.1 s.1 j (omega (arith, m)) (omega (arith, r)) i e)
  where
    choose : (k < j) ⊎ (j ≤ k) → (k < j → P i) → P i
    choose (inl m) rest = rest m
    choose (inr m) rest = let is : k ≡ j = omega (arith, l, m) in subst P (same_some p.instr i (sym s.0 ∙ (ap (slice_get code) is ∙ e))) h.0

pub record AllLast (last : ℕ) (x : Ways) : Type 0 where
  pub behind : x.behind ≡ last
  pub next : x.next ≡ last
  pub home : x.home ≡ last

module _ (code : List Instr) (last : ℕ) (is_last : last + 1 ≡ length code) (x : Ways) (ways : AllLast last x) where
  calm_jumps : (f : Flow) (X : Pure → Type 0) (k : ℕ) → Calm f → Safe X f → Stands code k (lay x f k) → (j : ℕ) → k ≤ j → j < k + size f → (i : Instr) → slice_get code j ≡ Some i → JumpPassesNone code j i
  calm_jumps f X k c s at_k j l r i e = passes_none code k (k + size f) last j is_last l r (λ m q a b g. (quiet_at m a b q g).1) i (quiet_at j l r i e).0
    where
      all : EachPlaced (Quiet k (k + size f) last) (lay x f k)
      all = quiet k (k + size f) last x f k X (record { behind = inl ways.behind; next = inl ways.next; home = inl ways.home }) (omega arith) (omega arith) s c

      quiet_at : (m : ℕ) → k ≤ m → m < k + size f → (q : Instr) → slice_get code m ≡ Some q → Quiet k (k + size f) last q
      quiet_at m a b q g = at_place code (Quiet k (k + size f) last) (lay x f k) k all at_k m a (omega (arith, b, laid_size x f k)) q g

  pub level_jumps : {f : Flow} → Level f → (X : Pure → Type 0) (k : ℕ) → Safe X f → Stands code k (lay x f k) → (j : ℕ) → k ≤ j → j < k + size f → (i : Instr) → slice_get code j ≡ Some i → JumpPassesNone code j i
  level_jumps (calm {f} c) X k s at_k j l r i e = calm_jumps f X k c s at_k j l r i e
  level_jumps (event {at} {i = q}) X k s at_k j l r i e =
      let is : k ≡ j = omega (arith, l, r) in
      plain_passes code j i (subst Plain (same_some q i (sym at_k.0 ∙ (ap (slice_get code) is ∙ e))) s.0)
  level_jumps (in_order {a} {b} ha hb) X k s at_k j l r i e =
      let parts = split code k x a (lay x b (k + size a)) at_k in
      choose (cases_lt j (k + size a)) (λ m. level_jumps ha X k s.0 parts.0 j l m i e) (λ m. level_jumps hb (after X a) (k + size a) s.1 parts.1 j m (omega (arith, r)) i e)
    where
      choose : (j < k + size a) ⊎ (k + size a ≤ j) → (j < k + size a → JumpPassesNone code j i) → (k + size a ≤ j → JumpPassesNone code j i) → JumpPassesNone code j i
      choose (inl m) f g = f m
      choose (inr m) f g = g m
