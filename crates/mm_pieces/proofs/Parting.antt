-- The pending stores of a thread to one cell, when one more is pending or the oldest is flushed.
use Rattle.std.proofs.Common.{◌≡◌, ℕ, ◌+◌, ◌*◌, ◌<◌, ◌≢◌, ⊎_elim, ℤ, Bool, true, false, List, [], ◌∷◌, ◌++◌, length, refl, sym, ◌∙◌, ap, subst, arith, cond, ◌==◌, if◌then◌else◌}
use Rattle.std.specs.List.{filter}
use Rattle.std.proofs.lemmas.Bool.{eq-eqb, ne_eqb, cases_eq}
use Rattle.std.proofs.lemmas.List.{append-nil, get_or-set_same, get_or-set_other}
use Rattle.std.proofs.lemmas.List.Elements.{filter-append}
use Rattle.mm_sched.specs.State.{State, Pending, pending_of}
use Rattle.mm_sched.specs.Buffer.{is_to, without}
use Rattle.mm_sched.specs.Event.{pushed, flushed}
use Rattle.mm_meaning.specs.Meaning.{pick}
use Rattle.mm_pieces.specs.Parts.{PartTable, parts_of}
use Rattle.mm_pieces.proofs.Held.{apart, is_b, not_b}

pub part_put : (ps : List Pending) (c : ℕ) (v : ℤ) → filter (is_to c) (ps ++ (c, v) ∷ []) ≡ filter (is_to c) ps ++ (c, v) ∷ []
part_put ps c v = filter-append (is_to c) ps ((c, v) ∷ []) ∙ ap (λ b. filter (is_to c) ps ++ cond b ((c, v) ∷ []) []) (eq-eqb c c refl)

pub part_put_other : (ps : List Pending) (c d : ℕ) (v : ℤ) → c ≢ d → filter (is_to d) (ps ++ (c, v) ∷ []) ≡ filter (is_to d) ps
part_put_other ps c d v n = filter-append (is_to d) ps ((c, v) ∷ []) ∙ ap (λ b. filter (is_to d) ps ++ cond b ((c, v) ∷ []) []) (ne_eqb c d n) ∙ append-nil (filter (is_to d) ps)

-- a row has one thread and one cell
pub row_same : (K u d t c : ℕ) → d < K → c < K → u * K + d ≡ t * K + c → (u ≡ t) × (d ≡ c)
row_same K u d t c ld lc e = ⊎_elim (λ (h : u ≡ t). (h, cell_same h)) (λ h. absurd (apart K u d t c ld lc h e)) (cases_eq u t)
  where
    cell_same : u ≡ t → d ≡ c
    cell_same h = (let f : t * K + d ≡ t * K + c = ap (λ x. x * K + d) (sym h) ∙ e in omega arith)

-- the lists of the state with one more pending store
pub parts_pushed : (tb : PartTable) (s : State) (t c : ℕ) (v : ℤ) (u d : ℕ) → t < length s.pending → c < tb.cells → d < tb.cells → (x : Bool) → (u * tb.cells + d == t * tb.cells + c) ≡ x →
    pick x (parts_of s t c ++ (c, v) ∷ []) (parts_of s u d) ≡ parts_of (pushed s t c v) u d
parts_pushed tb s t c v u d there lc ld true e = whole (row_same tb.cells u d t c ld lc (is_b (u * tb.cells + d) (t * tb.cells + c) e))
  where
    whole : (u ≡ t) × (d ≡ c) → parts_of s t c ++ (c, v) ∷ [] ≡ parts_of (pushed s t c v) u d
    whole h = sym (ap (λ i. parts_of (pushed s t c v) i d) h.0 ∙ ap (λ i. parts_of (pushed s t c v) t i) h.1 ∙ ap (filter (is_to c)) (get_or-set_same s.pending t (pending_of s t ++ (c, v) ∷ []) [] there) ∙ part_put (pending_of s t) c v)
parts_pushed tb s t c v u d there lc ld false e = ⊎_elim (λ h. same_thread h) (λ h. sym (ap (filter (is_to d)) (get_or-set_other s.pending t u (pending_of s t ++ (c, v) ∷ []) [] h))) (cases_eq u t)
  where
    same_thread : u ≡ t → parts_of s u d ≡ parts_of (pushed s t c v) u d
    same_thread h =
        let n : c ≢ d = (λ g. not_b (u * tb.cells + d) (t * tb.cells + c) e (ap (λ i. i * tb.cells + d) h ∙ ap (λ i. t * tb.cells + i) (sym g))) in
        subst (λ i. parts_of s i d ≡ parts_of (pushed s t c v) i d) (sym h) (sym (ap (filter (is_to d)) (get_or-set_same s.pending t (pending_of s t ++ (c, v) ∷ []) [] there) ∙ part_put_other (pending_of s t) c d v n))

part_without : (ps : List Pending) (c : ℕ) (q : Pending) (rest : List Pending) → filter (is_to c) ps ≡ q ∷ rest → filter (is_to c) (without ps c) ≡ rest
part_without [] c q rest e = cc
part_without (x ∷ ps) c q rest e = by (x.0 == c) refl e (part_without ps c q rest)
  where
    by : (b : Bool) → (x.0 == c) ≡ b → cond b (x ∷ filter (is_to c) ps) (filter (is_to c) ps) ≡ q ∷ rest → (filter (is_to c) ps ≡ q ∷ rest → filter (is_to c) (without ps c) ≡ rest) → filter (is_to c) (if b then ps else x ∷ without ps c) ≡ rest
    by true d f ih = cc
    by false d f ih = ap (λ b. cond b (x ∷ filter (is_to c) (without ps c)) (filter (is_to c) (without ps c))) d ∙ ih f

part_without_other : (ps : List Pending) (c d : ℕ) → c ≢ d → filter (is_to d) (without ps c) ≡ filter (is_to d) ps
part_without_other [] c d n = refl
part_without_other (x ∷ ps) c d n = by (x.0 == c) refl (part_without_other ps c d n)
  where
    by : (b : Bool) → (x.0 == c) ≡ b → filter (is_to d) (without ps c) ≡ filter (is_to d) ps → filter (is_to d) (if b then ps else x ∷ without ps c) ≡ cond (is_to d x) (x ∷ filter (is_to d) ps) (filter (is_to d) ps)
    by true e ih = sym (ap (λ b. cond b (x ∷ filter (is_to d) ps) (filter (is_to d) ps)) (ne_eqb x.0 d (λ h. n (sym (is_b x.0 c e) ∙ h))))
    by false e ih = ap (λ (ys : List Pending). cond (is_to d x) (x ∷ ys) ys) ih

-- the lists of the state behind the flush of the oldest store of one
pub parts_flushed : (tb : PartTable) (s : State) (t c : ℕ) (v : ℤ) (rest : List Pending) (u d : ℕ) → t < length s.pending → c < tb.cells → d < tb.cells → parts_of s t c ≡ (c, v) ∷ rest → (x : Bool) → (u * tb.cells + d == t * tb.cells + c) ≡ x →
    pick x rest (parts_of s u d) ≡ parts_of (flushed s t c v) u d
unfolding flushed
parts_flushed tb s t c v rest u d there lc ld is true e = whole (row_same tb.cells u d t c ld lc (is_b (u * tb.cells + d) (t * tb.cells + c) e))
  where
    whole : (u ≡ t) × (d ≡ c) → rest ≡ parts_of (flushed s t c v) u d
    whole h = sym (ap (λ i. parts_of (flushed s t c v) i d) h.0 ∙ ap (λ i. parts_of (flushed s t c v) t i) h.1 ∙ ap (filter (is_to c)) (get_or-set_same s.pending t (without (pending_of s t) c) [] there) ∙ part_without (pending_of s t) c (c, v) rest is)
parts_flushed tb s t c v rest u d there lc ld is false e = ⊎_elim (λ h. same_thread h) (λ h. sym (ap (filter (is_to d)) (get_or-set_other s.pending t u (without (pending_of s t) c) [] h))) (cases_eq u t)
  where
    same_thread : u ≡ t → parts_of s u d ≡ parts_of (flushed s t c v) u d
    same_thread h =
        let n : c ≢ d = (λ g. not_b (u * tb.cells + d) (t * tb.cells + c) e (ap (λ i. i * tb.cells + d) h ∙ ap (λ i. t * tb.cells + i) (sym g))) in
        subst (λ i. parts_of s i d ≡ parts_of (flushed s t c v) i d) (sym h) (sym (ap (filter (is_to d)) (get_or-set_same s.pending t (without (pending_of s t) c) [] there) ∙ part_without_other (pending_of s t) c d n))
