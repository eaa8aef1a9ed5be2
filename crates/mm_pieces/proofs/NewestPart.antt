-- The newest pending store to a cell is the last of those to the cell.
use Rattle.std.proofs.Common.{arith, ◌≡◌, ℕ, zero, suc, ℤ, Bool, true, false, List, [], ◌∷◌, ◌++◌, length, Option, Some, None, option_map, reverse, refl, ◌∙◌, ap, cond}
use Rattle.std.specs.List.{filter, find}
use Rattle.std.proofs.lemmas.List.{reverse-append}
use Rattle.mm_sched.specs.State.{Pending}
use Rattle.mm_sched.specs.Buffer.{is_to, newest}
use Rattle.mm_pieces.proofs.Loads.{store_at}

-- the newer of what is found and an older store
abbrev older : Option ℤ → Bool → ℤ → Option ℤ
older (Some w) b v = Some w
older None true v = Some v
older None false v = None

older_no : (o : Option ℤ) (v : ℤ) → older o false v ≡ o
older_no None v = refl
older_no (Some w) v = refl

-- the value of the last store
abbrev pub last_value : List Pending → Option ℤ
last_value [] = None
last_value (q ∷ qs) = older (last_value qs) true q.1

find_end : (c : ℕ) (xs : List Pending) (x : Pending) → option_map (λ q. q.1) (find (is_to c) (xs ++ x ∷ [])) ≡ older (option_map (λ q. q.1) (find (is_to c) xs)) (is_to c x) x.1
find_end c [] x = by (is_to c x)
  where
    by : (b : Bool) → option_map (λ (q : Pending). q.1) (cond b (Some x) None) ≡ older None b x.1
    by true = refl
    by false = refl
find_end c (y ∷ ys) x = by (is_to c y) (find_end c ys x)
  where
    by : (b : Bool) → option_map (λ (q : Pending). q.1) (find (is_to c) (ys ++ x ∷ [])) ≡ older (option_map (λ (q : Pending). q.1) (find (is_to c) ys)) (is_to c x) x.1 →
        option_map (λ (q : Pending). q.1) (cond b (Some y) (find (is_to c) (ys ++ x ∷ []))) ≡ older (option_map (λ (q : Pending). q.1) (cond b (Some y) (find (is_to c) ys))) (is_to c x) x.1
    by true h = refl
    by false h = h

pub newest_last : (ps : List Pending) (c : ℕ) → newest ps c ≡ last_value (filter (is_to c) ps)
newest_last [] c = refl
newest_last (x ∷ ps) c =
    ap (λ qs. option_map (λ (q : Pending). q.1) (find (is_to c) qs)) (reverse-append (x ∷ []) ps) ∙ find_end c (reverse ps) x
    ∙ ap (λ o. older o (is_to c x) x.1) (newest_last ps c) ∙ by (is_to c x)
  where
    by : (b : Bool) → older (last_value (filter (is_to c) ps)) b x.1 ≡ last_value (cond b (x ∷ filter (is_to c) ps) (filter (is_to c) ps))
    by true = refl
    by false = older_no (last_value (filter (is_to c) ps)) x.1

pub last_at : (qs : List Pending) (n : ℕ) → length qs ≡ suc n → last_value qs ≡ Some (store_at qs n).1
last_at [] n e = absurd (omega arith)
last_at (q ∷ []) zero e = refl
last_at (q ∷ []) (suc n) e = absurd (omega arith)
last_at (q ∷ p ∷ qs) zero e = absurd (omega arith)
last_at (q ∷ p ∷ qs) (suc n) e = ap (λ o. older o true q.1) (last_at (p ∷ qs) n (omega arith))
