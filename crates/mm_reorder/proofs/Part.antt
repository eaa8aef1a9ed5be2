-- The stores that count for a cell, under both models.
use Rattle.std.proofs.Common.{◌≡◌, ℕ, ℤ, List, [], ◌∷◌, Option, Some, None, refl, Bool, true, false, sym, ◌∙◌, ap, ap₂, ◌==◌, if◌then◌else◌, slice_get, subst, cond}
use Rattle.std.specs.List.{filter, find}
use Rattle.std.proofs.lemmas.Bool.{eq-eqb, eqb-true, false≢true}
use Rattle.mm_goto.specs.declared.model.Model.{Model}
use Rattle.mm_goto.specs.declared.model.Model.TheVariants.{Tso, Pso}
use Rattle.mm_sched.specs.declared.entry.Entry.{Entry}
use Rattle.mm_sched.specs.declared.entry.Entry.TheVariants.{Step, In, Flush, FlushCell}
use Rattle.mm_sched.specs.State.{Pending}
use Rattle.mm_sched.specs.Buffer.{is_empty, is_to, part, without, flush_under}
use Rattle.mm_runkeys.specs.Keys.{key}
use Rattle.mm_reorder.proofs.Newest.{newest, newer}
use Rattle.mm_reorder.proofs.Queue.{head_of}

abbrev only : ℕ → List Pending → List Pending
only c ps = filter (is_to c) ps

only_pop : (ps : List Pending) (c : ℕ) (q : Pending) → head_of (only c ps) ≡ Some q → only c ps ≡ q ∷ only c (without ps c)
only_pop [] c q e = cc
only_pop (x ∷ ps) c q e = go (x.0 == c) refl e (only_pop ps c q)
  where
    go : (b : Bool) → (x.0 == c) ≡ b → head_of (cond b (x ∷ only c ps) (only c ps)) ≡ Some q → (head_of (only c ps) ≡ Some q → only c ps ≡ q ∷ only c (without ps c)) → cond b (x ∷ only c ps) (only c ps) ≡ q ∷ only c (if b then ps else x ∷ without ps c)
    go true d e ih = cc
    go false d e ih = ih e ∙ ap (λ b. q ∷ cond b (x ∷ only c (without ps c)) (only c (without ps c))) (sym d)

pub newest_part : (m : Model) (ps : List Pending) (c : ℕ) → newest (part m ps c) c ≡ newest ps c
newest_part Tso ps c = refl
newest_part Pso [] c = refl
newest_part Pso (x ∷ ps) c = go (x.0 == c) refl (newest_part Pso ps c)
  where
    go : (b : Bool) → (x.0 == c) ≡ b → newest (only c ps) c ≡ newest ps c → newest (cond b (x ∷ only c ps) (only c ps)) c ≡ newer (newest ps c) b x.1
    go true e ih = ap₂ (λ o b. newer o b x.1) ih e
    go false e ih = ih ∙ still (newest ps c)
      where
        still : (o : Option ℤ) → o ≡ newer o false x.1
        still None = refl
        still (Some v) = refl

pub part_none : (m : Model) (c : ℕ) → part m [] c ≡ []
part_none Tso c = refl
part_none Pso c = refl

pub empty_part : (m : Model) (ps : List Pending) → ((c : ℕ) → part m ps c ≡ []) → ps ≡ []
empty_part Tso ps h = h 0
empty_part Pso [] h = refl
empty_part Pso (x ∷ ps) h = let e : cond (x.0 == x.0) (x ∷ only x.0 ps) (only x.0 ps) ≡ [] = h x.0 in let d : x ∷ only x.0 ps ≡ [] = ap (λ b. cond b (x ∷ only x.0 ps) (only x.0 ps)) (sym (eq-eqb x.0 x.0 refl)) ∙ e in cc

pub part_pop : (m : Model) (ps : List Pending) (c d : ℕ) (v : ℤ) → key m d ≡ key m c → head_of (part m ps c) ≡ Some (c, v) → part m ps d ≡ (c, v) ∷ part m (without ps c) d
part_pop Tso [] c d v e f = cc
part_pop Tso (q ∷ ps) c d v e f = let s : q ≡ (c, v) = cc in ap (λ z. z ∷ ps) s ∙ ap (λ b. (c, v) ∷ (if b then ps else q ∷ without ps c)) (sym (ap (λ (z : Pending). z.0 == c) s ∙ eq-eqb c c refl))
part_pop Pso ps c d v e f = subst (λ k. only k ps ≡ (c, v) ∷ only k (without ps c)) (sym e) (only_pop ps c (c, v) f)

pub empty_alike : (m : Model) (ps qs : List Pending) → ((c : ℕ) → part m ps c ≡ part m qs c) → is_empty ps ≡ is_empty qs
empty_alike m [] [] h = refl
empty_alike m [] (q ∷ qs) h = let e : q ∷ qs ≡ [] = empty_part m (q ∷ qs) (λ c. sym (h c) ∙ part_none m c) in cc
empty_alike m (p ∷ ps) [] h = let e : p ∷ ps ≡ [] = empty_part m (p ∷ ps) (λ c. h c ∙ part_none m c) in cc
empty_alike m (p ∷ ps) (q ∷ qs) h = refl

pub none_counts : (m : Model) (ps : List Pending) (c : ℕ) → is_empty ps ≡ true → part m ps c ≡ []
none_counts m [] c e = part_none m c
none_counts m (q ∷ ps) c e = absurd (false≢true e)

-- ---- flushes

only_cell : (ps : List Pending) (c : ℕ) (q : Pending) → head_of (only c ps) ≡ Some q → q.0 ≡ c
only_cell [] c q e = cc
only_cell (x ∷ ps) c q e = go (x.0 == c) refl e (only_cell ps c q)
  where
    go : (b : Bool) → (x.0 == c) ≡ b → head_of (cond b (x ∷ only c ps) (only c ps)) ≡ Some q → (head_of (only c ps) ≡ Some q → q.0 ≡ c) → q.0 ≡ c
    go true d f ih = let s : x ≡ q = cc in ap (λ (z : Pending). z.0) (sym s) ∙ eqb-true x.0 c d
    go false d f ih = ih f

found : (ps : List Pending) (c : ℕ) → find (is_to c) ps ≡ head_of (only c ps)
found [] c = refl
found (x ∷ ps) c = go (x.0 == c) (found ps c)
  where
    go : (b : Bool) → find (is_to c) ps ≡ head_of (only c ps) → cond b (Some x) (find (is_to c) ps) ≡ head_of (cond b (x ∷ only c ps) (only c ps))
    go true e = refl
    go false e = e

front : (ps : List Pending) → slice_get ps 0 ≡ head_of ps
front [] = refl
front (x ∷ ps) = refl

pub takes_head : (m : Model) (e : Entry) (ps : List Pending) (c : ℕ) (v : ℤ) → flush_under m e ps ≡ Some (c, v) → head_of (part m ps c) ≡ Some (c, v)
takes_head Tso (Flush t) ps c v e = sym (front ps) ∙ e
takes_head Pso (FlushCell t k) ps c v e = let h : head_of (only k ps) ≡ Some (c, v) = sym (found ps k) ∙ e in subst (λ j. head_of (only j ps) ≡ Some (c, v)) (sym (only_cell ps k (c, v) h)) h
takes_head Tso (Step t) ps c v e = cc
takes_head Tso (In t w) ps c v e = cc
takes_head Tso (FlushCell t k) ps c v e = cc
takes_head Pso (Step t) ps c v e = cc
takes_head Pso (In t w) ps c v e = cc
takes_head Pso (Flush t) ps c v e = cc

pub takes_again : (m : Model) (e : Entry) (ps qs : List Pending) (c : ℕ) (v : ℤ) → flush_under m e ps ≡ Some (c, v) → head_of (part m qs c) ≡ Some (c, v) → flush_under m e qs ≡ Some (c, v)
takes_again Tso (Flush t) ps qs c v e f = front qs ∙ f
takes_again Pso (FlushCell t k) ps qs c v e f = found qs k ∙ subst (λ j. head_of (only j qs) ≡ Some (c, v)) (only_cell ps k (c, v) (sym (found ps k) ∙ e)) f
takes_again Tso (Step t) ps qs c v e f = cc
takes_again Tso (In t w) ps qs c v e f = cc
takes_again Tso (FlushCell t k) ps qs c v e f = cc
takes_again Pso (Step t) ps qs c v e f = cc
takes_again Pso (In t w) ps qs c v e f = cc
takes_again Pso (Flush t) ps qs c v e f = cc
