-- What memory has once every pending store has reached it.
use Rattle.std.proofs.Common.{◌≡◌, ℕ, ◌<◌, ℤ, pos, List, [], ◌∷◌, ◌++◌, length, length-set, slice_set, slice_index_or, Option, Some, None, option_map, unwrap_or, refl, sym, ◌∙◌, ap, subst, Bool, true, false, cond, if◌then◌else◌, ◌==◌, IfSome, ⊎_elim, get_or-set_same, get_or-set_other, eq-eqb, ne_eqb, eqb-true, reverse}
use Rattle.std.specs.List.{find}
use Rattle.std.specs.Option.{option_or}
use Rattle.std.proofs.lemmas.List.{reverse-append, set_comm}
use Rattle.std.proofs.lemmas.List.Folds.{find-append}
use Rattle.std.proofs.lemmas.Bool.{cases_eq}
use Rattle.std.proofs.lemmas.Option.{IfSome_then}
use Rattle.mm_goto.specs.declared.model.Model.{Model}
use Rattle.mm_goto.specs.declared.model.Model.TheVariants.{Tso, Pso}
use Rattle.mm_sched.specs.declared.entry.Entry.{Entry}
use Rattle.mm_sched.specs.declared.entry.Entry.TheVariants.{Flush, FlushCell}
use Rattle.mm_sched.specs.State.{Pending}
use Rattle.mm_sched.specs.Buffer.{is_to, newest, without, flush_under}

-- the memory after the stores, the first of the list first
abbrev pub laid : List ℤ → List Pending → List ℤ
laid memory [] = memory
laid memory (q ∷ ps) = laid (slice_set memory q.0 q.1) ps

pub length-laid : (memory : List ℤ) (ps : List Pending) → length (laid memory ps) ≡ length memory
length-laid memory [] = refl
length-laid memory (q ∷ ps) = length-laid (slice_set memory q.0 q.1) ps ∙ length-set memory q.0 q.1

pub laid-append : (memory : List ℤ) (ps : List Pending) (c : ℕ) (v : ℤ) → laid memory (ps ++ (c, v) ∷ []) ≡ slice_set (laid memory ps) c v
laid-append memory [] c v = refl
laid-append memory (q ∷ ps) c v = laid-append (slice_set memory q.0 q.1) ps c v

-- ---- what is read there

set-reads : (memory : List ℤ) (a c : ℕ) (v : ℤ) → c < length memory → slice_index_or (slice_set memory a v) c (pos 0) ≡ (if a == c then v else slice_index_or memory c (pos 0))
set-reads memory a c v l = ⊎_elim
    (λ e. subst (λ k. slice_index_or (slice_set memory k v) c (pos 0) ≡ v) (sym e) (get_or-set_same memory c v (pos 0) l) ∙ sym (ap (λ b. if b then v else slice_index_or memory c (pos 0)) (eq-eqb a c e)))
    (λ n. get_or-set_other memory a c v (pos 0) (λ e. n (sym e)) ∙ sym (ap (λ b. if b then v else slice_index_or memory c (pos 0)) (ne_eqb a c n)))
    (cases_eq a c)

newest-more : (q : Pending) (ps : List Pending) (c : ℕ) (z : ℤ) → unwrap_or (newest (q ∷ ps) c) z ≡ unwrap_or (newest ps c) (if q.0 == c then q.1 else z)
newest-more q ps c z = ap (λ (o : Option Pending). unwrap_or (option_map (λ x. x.1) o) z) (ap (find (is_to c)) (reverse-append (q ∷ []) ps) ∙ find-append (is_to c) (reverse ps) (q ∷ [])) ∙ either (find (is_to c) (reverse ps)) (q.0 == c)
  where
    either : (o : Option Pending) (b : Bool) → unwrap_or (option_map (λ x. x.1) (option_or o (cond b (Some q) None))) z ≡ unwrap_or (option_map (λ x. x.1) o) (if b then q.1 else z)
    either None true = refl
    either None false = refl
    either (Some x) b = refl

-- the newest pending store to the cell, else what memory had
pub laid-reads : (ps : List Pending) (memory : List ℤ) (c : ℕ) → c < length memory → slice_index_or (laid memory ps) c (pos 0) ≡ unwrap_or (newest ps c) (slice_index_or memory c (pos 0))
laid-reads [] memory c l = refl
laid-reads (q ∷ ps) memory c l =
    laid-reads ps (slice_set memory q.0 q.1) c (subst (λ n. c < n) (sym (length-set memory q.0 q.1)) l)
    ∙ ap (unwrap_or (newest ps c)) (set-reads memory q.0 c q.1 l)
    ∙ sym (newest-more q ps c (slice_index_or memory c (pos 0)))

-- ---- a flush

-- where the oldest store to a cell reaches memory first, memory has the same in the end
abbrev pub IsOldest : List Pending → Pending → Type 0
IsOldest ps q = (memory : List ℤ) → laid (slice_set memory q.0 q.1) (without ps q.0) ≡ laid memory ps

laid-without : (ps : List Pending) (c : ℕ) (q : Pending) → find (is_to c) ps ≡ Some q → (memory : List ℤ) → laid (slice_set memory c q.1) (without ps c) ≡ laid memory ps
laid-without [] c q e memory = cc
laid-without (x ∷ ps) c q e memory = go (x.0 == c) refl e (laid-without ps c q)
  where
    go : (b : Bool) → (x.0 == c) ≡ b → cond b (Some x) (find (is_to c) ps) ≡ Some q → (find (is_to c) ps ≡ Some q → (memory : List ℤ) → laid (slice_set memory c q.1) (without ps c) ≡ laid memory ps) → laid (slice_set memory c q.1) (if b then ps else x ∷ without ps c) ≡ laid (slice_set memory x.0 x.1) ps
    go true d f ih = let same : x ≡ q = cc in subst (λ (y : Pending). laid (slice_set memory c y.1) ps ≡ laid (slice_set memory x.0 x.1) ps) same (ap (λ k. laid (slice_set memory k x.1) ps) (sym (eqb-true x.0 c d)))
    go false d f ih = ap (λ mid. laid mid (without ps c)) (set_comm memory c x.0 q.1 x.1 (λ h. let a : true ≡ false = sym (eq-eqb x.0 c (sym h)) ∙ d in cc)) ∙ ih f (slice_set memory x.0 x.1)

-- the first of those to the cell
pub found-to : (ps : List Pending) (c : ℕ) → IfSome (find (is_to c) ps) (λ q. (q.0 ≡ c) × (find (is_to c) ps ≡ Some q))
found-to [] c = tt
found-to (x ∷ ps) c = go (x.0 == c) refl (found-to ps c)
  where
    go : (b : Bool) → (x.0 == c) ≡ b → IfSome (find (is_to c) ps) (λ q. (q.0 ≡ c) × (find (is_to c) ps ≡ Some q)) → IfSome (cond b (Some x) (find (is_to c) ps)) (λ q. (q.0 ≡ c) × (cond b (Some x) (find (is_to c) ps) ≡ Some q))
    go true d ih = (eqb-true x.0 c d, refl)
    go false d ih = ih

-- what a flush takes, under either model
pub flush-oldest : (m : Model) (e : Entry) (ps : List Pending) → IfSome (flush_under m e ps) (IsOldest ps)
flush-oldest Tso (Flush t) [] = tt
flush-oldest Tso (Flush t) (q ∷ ps) = λ memory. ap (λ b. laid (slice_set memory q.0 q.1) (if b then ps else q ∷ without ps q.0)) (eq-eqb q.0 q.0 refl)
flush-oldest Pso (FlushCell t c) ps = IfSome_then (find (is_to c) ps) (found-to ps c) (λ q h memory. subst (λ k. laid (slice_set memory k q.1) (without ps k) ≡ laid memory ps) (sym h.0) (laid-without ps c q h.1 memory))
flush-oldest _ _ ps = tt
