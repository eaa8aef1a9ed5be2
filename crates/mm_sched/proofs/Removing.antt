-- The oldest store to a cell, as code finds and removes it.
use Rattle.std.proofs.Common.{arith, ◌≡◌, ℕ, suc, ◌+◌, ◌≤◌, Bool, true, false, List, [], ◌∷◌, length, not, refl, sym, ◌∙◌, ap, cond, if◌then◌else◌, nat_lt, Some, None, find, option_map, ◌==◌}
use borrow.Author.Tests.{ltb-false}
use Rattle.std.specs.List.{position, position_or_len, remove}
use Rattle.std.proofs.lemmas.Bool.{eqb-true}
use Rattle.std.proofs.lemmas.List.{map-set, get_or-map, take_all, drop_all, append-nil}
use Rattle.std.proofs.lemmas.Int.{to_z-of_z}
use Rattle.mm_sched.specs.State.{Pending}
use Rattle.mm_sched.specs.Buffer.{is_to, without}

without-is : (ps : List Pending) (c : ℕ) → without ps c ≡ remove ps (position_or_len (is_to c) ps)
without-is [] c = refl
without-is (q ∷ ps) c = go (is_to c q) (position_or_len (is_to c) ps) (without-is ps c)
  where
    go : (b : Bool) (n : ℕ) → without ps c ≡ remove ps n → (if b then ps else q ∷ without ps c) ≡ remove (q ∷ ps) (cond (not b) (1 + n) 0)
    go true n h = refl
    go false n h = grind (arith, h)

remove-past : (ps : List Pending) (n : ℕ) → length ps ≤ n → remove ps n ≡ ps
remove-past ps n h = rw (take_all n ps h, drop_all (suc n) ps (omega arith), append-nil) refl

-- a position is the first at which the test passes
position-is : (ps : List Pending) (c i : ℕ) → position (is_to c) ps ≡ Some i → position_or_len (is_to c) ps ≡ i
position-is ps c i e = go (nat_lt (position_or_len (is_to c) ps) (length ps)) e
  where
    go : (b : Bool) → cond b (Some (position_or_len (is_to c) ps)) None ≡ Some i → position_or_len (is_to c) ps ≡ i
    go true h = cc
    go false h = cc

position-none : (ps : List Pending) (c : ℕ) → position (is_to c) ps ≡ None → length ps ≤ position_or_len (is_to c) ps
position-none ps c e = go (nat_lt (position_or_len (is_to c) ps) (length ps)) refl e
  where
    go : (b : Bool) → nat_lt (position_or_len (is_to c) ps) (length ps) ≡ b → cond b (Some (position_or_len (is_to c) ps)) None ≡ None → length ps ≤ position_or_len (is_to c) ps
    go true d h = cc
    go false d h = ltb-false (position_or_len (is_to c) ps) (length ps) d

pub without-found : (ps : List Pending) (c i : ℕ) → position (is_to c) ps ≡ Some i → remove ps i ≡ without ps c
without-found ps c i e = ap (remove ps) (sym (position-is ps c i e)) ∙ sym (without-is ps c)

pub without-missing : (ps : List Pending) (c : ℕ) → position (is_to c) ps ≡ None → ps ≡ without ps c
without-missing ps c e = sym (remove-past ps (position_or_len (is_to c) ps) (position-none ps c e)) ∙ sym (without-is ps c)

-- the oldest store to the cell is the cell with its value
pub oldest_found : (ps : List Pending) (c : ℕ) → find (is_to c) ps ≡ option_map (λ v. (c, v)) (option_map (λ q. q.1) (find (is_to c) ps))
oldest_found [] c = refl
oldest_found (q ∷ ps) c = go (q.0 == c) refl (oldest_found ps c)
  where
    go : (b : Bool) → (q.0 == c) ≡ b → find (is_to c) ps ≡ option_map (λ v. (c, v)) (option_map (λ x. x.1) (find (is_to c) ps)) → cond b (Some q) (find (is_to c) ps) ≡ option_map (λ v. (c, v)) (option_map (λ x. x.1) (cond b (Some q) (find (is_to c) ps)))
    go true e h = ap (λ k. Some (k, q.1)) (eqb-true q.0 c e)
    go false e h = h

pub ruleset writing = (map-set, get_or-map, to_z-of_z)
