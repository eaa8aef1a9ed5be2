-- Checks hold where control has passed them.
use Rattle.std.proofs.Common.{arith, ◌≡◌, ℕ, zero, suc, ℤ, ◌⊎◌, ◌∙◌, inl, inr, ⊎_elim, List, [], ◌∷◌, ◌++◌, Some, refl, false, sym, subst, slice_get, IfSome}
use Rattle.std.specs.List.{All, Contains, flat_map}
use Rattle.std.proofs.lemmas.List.Concat.{flat_map-cons}
use Rattle.std.proofs.lemmas.List.Elements.{All-contains, All-weaker, All-contains_itself, Contains-push}
use Rattle.std.proofs.lemmas.Option.{same_Some}
use Rattle.mm_goto.specs.declared.pure.Pure.{Pure}
use Rattle.mm_goto.specs.declared.program.Instr.{Instr}
use Rattle.mm_goto.specs.declared.program.Instr.TheVariants.{Assert}
use Rattle.mm_goto.specs.declared.program.Target.{Target}
use Rattle.mm_goto.specs.Checks.{checks_of, names, targets, target_checks, target_exprs, value_exprs, written_local}
use Rattle.mm_goto.specs.Flow.{IsSuccessor, IsFlow, on, here as at_end}
use Rattle.mm_goto.specs.Sourcelike.{IsCheckAt, KeepsCheck, Passes, here, later, IsGuarded, wants}
use Rattle.mm_keeping.proofs.Values.{all_left, all_right, Holds}

-- ---- lists of parts

pub all_flat : {A B : Type 0} (P : B → Type 0) (f : A → List B) (xs : List A) (x : A) → All P (flat_map f xs) → Contains xs x → All P (f x)
all_flat P f [] x h c = absurd (let l = c.1 in omega (arith, l))
all_flat P f (y ∷ xs) x h (zero, l, e) = subst (λ z. All P (f z)) e (all_left P (f y) (flat_map f xs) (subst (All P) (flat_map-cons f y xs) h))
all_flat P f (y ∷ xs) x h (suc k, l, e) = all_flat P f xs x (all_right P (f y) (flat_map f xs) (subst (All P) (flat_map-cons f y xs) h)) (k, omega (arith, l), e)

pub all_parts : {A B : Type 0} (P : B → Type 0) (f : A → List B) (xs : List A) → All P (flat_map f xs) → All (λ x. All P (f x)) xs
all_parts P f xs h = All-weaker (Contains xs) (λ x. All P (f x)) (λ x c. all_flat P f xs x h c) xs (All-contains_itself xs)

-- ---- flow paths

flow_on : {code : List Instr} {j k : ℕ} {path : List ℕ} (l : ℕ) → IsFlow code j path k → IsSuccessor code k l → IsFlow code j (path ++ k ∷ []) l
flow_on l at_end s = on s at_end
flow_on l (on r f) s = on r (flow_on l f s)

passes_some : {code : List Instr} {check : Pure} {path : List ℕ} → Passes code check path → path ≡ [] → ⊥
passes_some (here c h) e = absurd (cc)
passes_some (later h) e = absurd (cc)

passes_on : (code : List Instr) (check : Pure) (k : ℕ) (path : List ℕ) → Passes code check (path ++ k ∷ []) → (Passes code check path × KeepsCheck code check k) ⊎ IsCheckAt code check k
passes_on code check k [] (here c h) = inr c
passes_on code check k [] (later h) = absurd (passes_some h refl)
passes_on code check k (x ∷ xs) (here c h) = inl (here c (all_left (KeepsCheck code check) xs (k ∷ []) h), All-contains (KeepsCheck code check) (xs ++ k ∷ []) k h (Contains-push xs k))
passes_on code check k (x ∷ xs) (later h) = ⊎_elim (λ q. inl (later q.0, q.1)) (λ c. inr c) (passes_on code check k xs h)

-- ---- a thread on its way

-- a flow path leads to the place, and each check that it passes holds
pub record Walked (code : List Instr) (k : ℕ) (locals : List ℤ) : Type 0 where
  pub path : List ℕ
  pub flow : IsFlow code 0 path k
  pub holds : (check : Pure) → Passes code check path → Holds locals check

pub walked_start : (code : List Instr) (locals : List ℤ) → Walked code 0 locals
walked_start code locals = record { path = []; flow = at_end; holds = λ check h. absurd (passes_some h refl) }

-- the instruction writes no local of the check
abbrev pub Spares : Instr → Pure → Type 0
Spares i check = IfSome (written_local i) (λ l. names l check ≡ false)

pub walked_on : (code : List Instr) (i : Instr) (k l : ℕ) (before behind : List ℤ) → slice_get code k ≡ Some i → IsSuccessor code k l → Walked code k before → ((check : Pure) → i ≡ Assert check 0 → Holds behind check) → ((check : Pure) → Spares i check → Holds before check → Holds behind check) → Walked code l behind
walked_on code i k l before behind at goes w new old = record {
  path = w.path ++ k ∷ [];
  flow = flow_on l w.flow goes;
  holds = λ check h. ⊎_elim
      (λ q. old check (subst (λ o. IfSome o (λ z. Spares z check)) at q.1) (w.holds check q.0))
      (λ c. new check (same_Some i (Assert check 0) (sym at ∙ c)))
      (passes_on code check k w.path h);
}

-- each check that the instruction wants holds
pub wanted : (code : List Instr) (i : Instr) (k : ℕ) (locals : List ℤ) → IsGuarded code k i → Walked code k locals → All (Holds locals) (wants i)
wanted code i k locals h w = All-weaker (λ check. (path : List ℕ) → IsFlow code 0 path k → Passes code check path) (Holds locals) (λ check g. w.holds check (g w.path w.flow)) (wants i) h

-- those of its targets' expressions, and those of its others
pub target_wanted : (i : Instr) (locals : List ℤ) (to : Target) → All (Holds locals) (wants i) → Contains (targets i) to → All (λ e. All (Holds locals) (checks_of e)) (target_exprs to)
target_wanted i locals to h c =
    let two = all_left (Holds locals) (flat_map target_checks (targets i) ++ flat_map checks_of (flat_map target_exprs (targets i))) (flat_map checks_of (value_exprs i)) h in
    all_flat (λ e. All (Holds locals) (checks_of e)) target_exprs (targets i) to (all_parts (Holds locals) checks_of (flat_map target_exprs (targets i)) (all_right (Holds locals) (flat_map target_checks (targets i)) (flat_map checks_of (flat_map target_exprs (targets i))) two)) c

pub value_wanted : (i : Instr) (locals : List ℤ) → All (Holds locals) (wants i) → All (λ e. All (Holds locals) (checks_of e)) (value_exprs i)
value_wanted i locals h = all_parts (Holds locals) checks_of (value_exprs i) (all_right (Holds locals) (flat_map target_checks (targets i) ++ flat_map checks_of (flat_map target_exprs (targets i))) (flat_map checks_of (value_exprs i)) h)
