-- An order in which each direct store is taken right before its flush.
use Rattle.std.proofs.Common.{◌≡◌, ℕ, List, [], ◌∷◌, ◌++◌, refl, Bool, true, false, sym, ◌∙◌, ap, ◌==◌, ◌||◌, ◌⊎◌, inl, inr, subst, ⊎_elim}
use Rattle.std.proofs.lemmas.Bool.{eq-eqb, ne_eqb, or_right, cases_eq}
use Rattle.mm_reorder.proofs.Cut.{with_step}

-- what a node is: a direct store, the flush of the direct store w, or another
pub data Kind : Type 0 where
  Held : Kind
  Frees : ℕ → Kind
  Other : Kind

-- what stands in the place of a node of the order
abbrev pub places : Kind → ℕ → List ℕ
places Held n = []
places (Frees w) n = w ∷ n ∷ []
places Other n = n ∷ []

abbrev pub settled : (ℕ → Kind) → List ℕ → List ℕ
settled kind [] = []
settled kind (n ∷ ns) = places (kind n) n ++ settled kind ns

-- each node once, and behind those that have an edge to it
abbrev pub Keeps : (ℕ → ℕ → Type 0) → (ℕ → Bool) → List ℕ → Type 0
Keeps E done [] = Unit {0}
Keeps E done (v ∷ vs) = (done v ≡ false) × ((a : ℕ) → E a v → done a ≡ true) × Keeps E (with_step done v) vs

pub with_it : (done : ℕ → Bool) (v : ℕ) → with_step done v v ≡ true
with_it done v = or_right (done v) (v == v) (eq-eqb v v refl)

or_false : (b c : Bool) → c ≡ false → (b || c) ≡ b
or_false true c e = refl
or_false false c e = e

pub with_other : (done : ℕ → Bool) (v n : ℕ) → (n ≡ v → ⊥) → with_step done v n ≡ done n
with_other done v n d = or_false (done n) (n == v) (ne_eqb n v d)

pub with_kept : (done : ℕ → Bool) (v n : ℕ) → done n ≡ true → with_step done v n ≡ true
with_kept done v n e = ap (λ b. b || (n == v)) e

-- E: the edges. G: these and the added ones. A direct store leads by an edge to its flush alone, and to what its flush leads to
module _ (kind : ℕ → Kind) (E G : ℕ → ℕ → Type 0) (more : (a b : ℕ) → E a b → G a b)
    (held : (w m : ℕ) → kind m ≡ Frees w → kind w ≡ Held)
    (once : (w m n : ℕ) → kind m ≡ Frees w → kind n ≡ Frees w → m ≡ n)
    (issue : (w m : ℕ) → kind m ≡ Frees w → G w m)
    (release : (a v : ℕ) → E a v → kind a ≡ Held → (kind v ≡ Frees a) ⊎ ((m : ℕ) × (kind m ≡ Frees a) × G m v)) where
  abbrev Closed : (ℕ → Bool) → Type 0
  Closed done = (a b : ℕ) → G a b → done b ≡ true → done a ≡ true

  -- now: what is done of the settled order
  abbrev Alike : (ℕ → Bool) → (ℕ → Bool) → Type 0
  Alike done now = ((n : ℕ) → (kind n ≡ Held → ⊥) → now n ≡ done n) × ((w m : ℕ) → kind m ≡ Frees w → now w ≡ done m)

  held_or : (k : Kind) → (k ≡ Held) ⊎ (k ≡ Held → ⊥)
  held_or Held = inl refl
  held_or (Frees w) = inr (λ e. cc)
  held_or Other = inr (λ e. cc)

  -- what leads to v is done in the settled order too, but for the store that v frees
  before : (done now : ℕ → Bool) (v : ℕ) → Alike done now → ((a : ℕ) → G a v → done a ≡ true) → (a : ℕ) → E a v → (kind v ≡ Frees a) ⊎ (now a ≡ true)
  before done now v alike ready a e = ⊎_elim
      (λ h. ⊎_elim (λ f. inl f) (λ r. inr (alike.1 a r.0 r.1 ∙ ready r.0 r.2)) (release a v e h))
      (λ n. inr (alike.0 a n ∙ ready a (more a v e)))
      (held_or (kind a))

  closed_more : (done : ℕ → Bool) (v : ℕ) → Closed done → ((a : ℕ) → G a v → done a ≡ true) → Closed (with_step done v)
  closed_more done v closed ready a b g d = ⊎_elim
      (λ e. with_kept done v a (ready a (subst (λ x. G a x) e g)))
      (λ n. with_kept done v a (closed a b g (sym (with_other done v b n) ∙ d)))
      (cases_eq b v)

  apart : (w v m : ℕ) → kind m ≡ Frees w → (kind v ≡ Held) ⊎ (kind v ≡ Other) → m ≡ v → ⊥
  apart w v m f (inl e) x = let a : Frees w ≡ Held = sym f ∙ ap kind x ∙ e in cc
  apart w v m f (inr e) x = let a : Frees w ≡ Other = sym f ∙ ap kind x ∙ e in cc

  pub settle : (ns : List ℕ) (done now : ℕ → Bool) → Alike done now → Closed done → Keeps G done ns → Keeps E now (settled kind ns)
  settle [] done now alike closed keeps = tt
  settle (v ∷ vs) done now alike closed keeps = go (kind v) refl (λ later b. settle vs (with_step done v) later b (closed_more done v closed keeps.1) keeps.2)
    where
      go : (k : Kind) → kind v ≡ k → ((later : ℕ → Bool) → Alike (with_step done v) later → Keeps E later (settled kind vs)) → Keeps E now (places k v ++ settled kind vs)
      go Held e ih = ih now (
        λ n d. alike.0 n d ∙ sym (with_other done v n (λ f. d (subst (λ x. kind x ≡ Held) (sym f) e))),
        λ w m f. alike.1 w m f ∙ sym (with_other done v m (λ x. apart w v m f (inl e) x)),
      )
      go Other e ih = (
        alike.0 v (λ h. let a : Held ≡ Other = sym h ∙ e in cc) ∙ keeps.0,
        λ a g. ⊎_elim (λ f. let b : Frees a ≡ Other = sym f ∙ e in absurd cc) (λ x. x) (before done now v alike keeps.1 a g),
        ih (with_step now v) (
          λ n d. ap (λ b. b || (n == v)) (alike.0 n d),
          λ w m f. with_other now v w (λ x. let a : Held ≡ Other = sym (held w m f) ∙ ap kind x ∙ e in cc) ∙ alike.1 w m f ∙ sym (with_other done v m (λ x. apart w v m f (inr e) x)),
        ),
      )
      go (Frees w) e ih = (
        alike.1 w v e ∙ keeps.0,
        λ a g. ⊎_elim (λ f. let b : Frees a ≡ Held = sym f ∙ held w v e in absurd cc) (λ x. x) (before done now w alike (λ b k. closed b w k (keeps.1 w (issue w v e))) a g),
        (
          with_other now w v (λ x. let a : Frees w ≡ Held = sym e ∙ ap kind x ∙ held w v e in cc) ∙ alike.0 v (λ h. let a : Frees w ≡ Held = sym e ∙ h in cc) ∙ keeps.0,
          λ a g. ⊎_elim (λ f. let b : Frees a ≡ Frees w = sym f ∙ e in let c : w ≡ a = cc in subst (λ x. with_step now w x ≡ true) c (with_it now w)) (λ x. with_kept now w a x) (before done now v alike keeps.1 a g),
          ih (with_step (with_step now w) v) (
            λ n d. ap (λ b. b || (n == v)) (with_other now w n (λ x. d (ap kind x ∙ held w v e)) ∙ alike.0 n d),
            λ u m f. freed w e u m f,
          ),
        ),
      )
        where
          freed : (w : ℕ) → kind v ≡ Frees w → (u m : ℕ) → kind m ≡ Frees u → with_step (with_step now w) v u ≡ with_step done v m
          freed w e u m f = ⊎_elim
              (λ x. let b : Frees u ≡ Frees w = sym f ∙ ap kind x ∙ e in let c : u ≡ w = cc in
              with_kept (with_step now w) v u (subst (λ y. with_step now w y ≡ true) (sym c) (with_it now w)) ∙ sym (subst (λ y. with_step done v y ≡ true) (sym x) (with_it done v)))
              (λ n. with_other (with_step now w) v u (λ x. let a : Held ≡ Frees w = sym (held u m f) ∙ ap kind x ∙ e in cc)
              ∙ with_other now w u (λ x. n (once w m v (subst (λ y. kind m ≡ Frees y) x f) e))
              ∙ alike.1 u m f ∙ sym (with_other done v m n))
              (cases_eq m v)
