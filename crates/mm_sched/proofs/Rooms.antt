-- How many stores of a thread may be pending.
use Rattle.std.proofs.Common.{arith, ◌≡◌, ℕ, zero, suc, ◌+◌, ◌*◌, ◌<◌, ◌≤◌, ◌==◌, Bool, true, false, not, List, [], ◌∷◌, All, length, cond, refl, sym, ap, subst, eq-eqb}
use Rattle.std.specs.List.{filter}
use Rattle.std.proofs.lemmas.List.Elements.{All-head, All-tail, All-cons, All-nil}
use Rattle.std.proofs.lemmas.List.Filters.{length-filter_both}
use Rattle.mm_goto.specs.Bounds.{Bounding, bound_of, greatest}
use Rattle.mm_goto.specs.declared.model.Model.{Model}
use Rattle.mm_goto.specs.declared.model.Model.TheVariants.{Tso, Pso}
use Rattle.mm_sched.specs.declared.entry.Rules.{Rules}
use Rattle.mm_sched.specs.declared.entry.Rules.TheVariants.{Sc, Buffered, Partial}
use Rattle.mm_sched.specs.State.{Pending}
use Rattle.mm_sched.specs.Buffer.{is_to, part}
use Rattle.mm_sched.specs.Invariant.{IsBounded, room_under, room_of}

-- each pending store is to one of so many cells
abbrev pub AreTo : ℕ → List Pending → Type 0
AreTo cells ps = All (λ q. q.0 < cells) ps

-- the pending store is not to cell c
abbrev is_not_to : ℕ → Pending → Bool
is_not_to c q = not (is_to c q)

filter-filter : {A : Type 0} (p q : A → Bool) (xs : List A) → length (filter p (filter q xs)) ≤ length (filter p xs)
filter-filter p q [] = omega arith
filter-filter {A = A} p q (x ∷ xs) = go (p x) (q x) refl (filter-filter p q xs)
  where
    more : (b : Bool) → length (filter p (filter q xs)) ≤ length (filter p xs) → length (cond b (x ∷ filter p (filter q xs)) (filter p (filter q xs))) ≤ length (cond b (x ∷ filter p xs) (filter p xs))
    more true h = omega arith
    more false h = h

    less : (b : Bool) → length (filter p (filter q xs)) ≤ length (filter p xs) → length (filter p (filter q xs)) ≤ length (cond b (x ∷ filter p xs) (filter p xs))
    less true h = omega arith
    less false h = h

    go : (b d : Bool) → p x ≡ b → length (filter p (filter q xs)) ≤ length (filter p xs) → length (filter p (cond d (x ∷ filter q xs) (filter q xs))) ≤ length (cond b (x ∷ filter p xs) (filter p xs))
    go b true e h = subst (λ (z : Bool). length (cond z (x ∷ filter p (filter q xs)) (filter p (filter q xs))) ≤ length (cond b (x ∷ filter p xs) (filter p xs))) (sym e) (more b h)
    go b false e h = less b h

-- stores to one cell less
fewer : (cells : ℕ) (ps : List Pending) → AreTo (suc cells) ps → AreTo cells (filter (is_not_to cells) ps)
fewer cells [] h = All-nil (λ q. q.0 < cells)
fewer cells (q ∷ ps) h = go (q.0 == cells) refl (fewer cells ps (All-tail (λ q. q.0 < suc cells) q ps h))
  where
    go : (b : Bool) → (q.0 == cells) ≡ b → AreTo cells (filter (is_not_to cells) ps) → AreTo cells (cond (not b) (q ∷ filter (is_not_to cells) ps) (filter (is_not_to cells) ps))
    go true e k = k
    go false e k = All-cons (λ q. q.0 < cells) q (filter (is_not_to cells) ps) (let below : q.0 < suc cells = All-head (λ q. q.0 < suc cells) q ps h in let other : q.0 ≡ cells → ⊥ = λ (same : q.0 ≡ cells). let yes : (q.0 == cells) ≡ true = eq-eqb q.0 cells same in cc in omega arith) k

-- at most so many to each cell: in all at most that many times the cells
pub pigeonhole : (bound cells : ℕ) (ps : List Pending) → AreTo cells ps → ((c : ℕ) → length (filter (is_to c) ps) ≤ bound) → length ps ≤ bound * cells
pigeonhole bound zero [] h k = omega arith
pigeonhole bound zero (q ∷ ps) h k = absurd (let below : q.0 < 0 = All-head (λ q. q.0 < 0) q ps h in omega arith)
pigeonhole bound (suc cells) ps h k =
    let rest : length (filter (is_not_to cells) ps) ≤ bound * cells = pigeonhole bound cells (filter (is_not_to cells) ps) (fewer cells ps h) (λ c. let less : length (filter (is_to c) (filter (is_not_to cells) ps)) ≤ length (filter (is_to c) ps) = filter-filter (is_to c) (is_not_to cells) ps in let most : length (filter (is_to c) ps) ≤ bound = k c in omega arith) in
    let one : length (filter (is_to cells) ps) ≤ bound = k cells in
    let both : length (filter (is_to cells) ps) + length (filter (is_not_to cells) ps) ≡ length ps = length-filter_both (is_to cells) (is_not_to cells) (λ x. refl) ps in
    grind arith

-- no thread's number is above the greatest
below-greatest : (bound : Bounding) (t : ℕ) → bound_of bound t ≤ greatest bound
below-greatest bound t = omega arith

room-under : (m : Model) (bound : Bounding) (t cells : ℕ) (ps : List Pending) → AreTo cells ps → ((c : ℕ) → length (part m ps c) ≤ bound_of bound t) → length ps ≤ room_under m bound cells
room-under Tso bound t cells ps h k = omega (arith, k 0, below-greatest bound t)
room-under Pso bound t cells ps h k = pigeonhole (greatest bound) cells ps h (λ c. omega (arith, k c, below-greatest bound t))

-- what the rules let be pending has room
pub bounded-room : (r : Rules) (t cells : ℕ) (ps : List Pending) → AreTo cells ps → IsBounded r t ps → length ps ≤ room_of r cells
bounded-room Sc t cells ps h e = omega (arith, ap length e)
bounded-room (Buffered m bound) t cells ps h k = room-under m bound t cells ps h k
bounded-room (Partial m bound set) t cells ps h k = room-under m bound t cells ps h k
