-- Whether a flow path or a path over a relation leads to a place is decided.
use Rattle.std.proofs.Common.{◌≡◌, ℕ, zero, suc, ◌+◌, ◌<◌, Bool, true, List, [], ◌∷◌, length, inl, inr, refl, Some, None, Option, arith}
use Rattle.std.proofs.lemmas.Bool.{cases_eq}
use Rattle.std.proofs.lemmas.Option.{slice_get_within}
use Rattle.std.specs.Prelude.{◌⊎◌, slice_get}
use Rattle.mm_goto.specs.declared.program.Instr.{Instr}
use Rattle.mm_goto.specs.declared.program.Instr.TheVariants as instr
use Rattle.mm_goto.specs.Flow.{IsSuccessor, GoesTo}
use Rattle.mm_goto.specs.Paths.{IsPath, edge, on, Leads}
use Rattle.mm_goto.specs.Sites.{FlowsBy, once, more, PassesAt}
use Rattle.mm_decided.proofs.Deciding.{Decided, as_well, both, all_three, either, SomeBelow, some_below, some_and, of_option, bool_true}
use Rattle.mm_decided.proofs.Saturating as saturating
use Rattle.mm_decided.proofs.Saturating.{In}

abbrev pub up_to : ℕ → List ℕ
up_to zero = []
up_to (suc n) = n ∷ up_to n

pub in_up_to : (n k : ℕ) → k < n → In (up_to n) k
in_up_to zero k low = absurd (omega arith)
in_up_to (suc n) k low = elim (cases_eq k n) [ inl e ↦ inl e | inr other ↦ inr (in_up_to n k (omega arith)) ]

-- ---- flow paths

goes_to : (j : ℕ) (it : Instr) (k : ℕ) → Decided (GoesTo j it k)
goes_to j (instr.Jump m) k = cases_eq k m
goes_to j (instr.Branch e m) k = either (cases_eq k m) (cases_eq k (j + 1))
goes_to j instr.End k = inr (λ h. h)
goes_to j _ k = cases_eq k (j + 1)

pub successor : (code : List Instr) (j k : ℕ) → Decided (IsSuccessor code j k)
successor code j k = at (slice_get code j) refl
  where
    at : (o : Option Instr) → slice_get code j ≡ o → Decided (IsSuccessor code j k)
    at None e = inr (λ h. rw e at h)
    at (Some it) e = as_well (λ h. rw e h) (λ h. rw e at h) (goes_to j it k)

module _ (passes : Instr → Bool) (code : List Instr) (from : ℕ) where
  abbrev Flows : ℕ → Type 0
  Flows k = FlowsBy passes code from k

  abbrev Over : (ℕ → Bool) → ℕ → ℕ → Type 0
  Over set k j = (set j ≡ true) × PassesAt passes code j × IsSuccessor code j k

  abbrev FlowStep : (ℕ → Bool) → ℕ → Type 0
  FlowStep set k = IsSuccessor code from k ⊎ SomeBelow (Over set k) (length code)

  passes_at : (j : ℕ) → Decided (PassesAt passes code j)
  passes_at j = of_option (slice_get code j) (λ it. passes it ≡ true) (λ it. bool_true (passes it))

  flow_step : (set : ℕ → Bool) (k : ℕ) → Decided (FlowStep set k)
  flow_step set k = either (successor code from k) (some_below (Over set k) (λ j. all_three (bool_true (set j)) (passes_at j) (successor code j k)) (length code))

  flow_sound : (set : ℕ → Bool) → ((k : ℕ) → set k ≡ true → Flows k) → (k : ℕ) → FlowStep set k → Flows k
  flow_sound set holds k step = elim step [ inl s ↦ once s | inr h ↦ let j = h.2 in more h.0 (holds h.0 j.0) j.1 j.2 ]

  flow_closed : saturating.Closed ℕ cases_eq (up_to (length code)) Flows FlowStep flow_step flow_sound
  flow_closed = saturating.saturated ℕ cases_eq (up_to (length code)) Flows FlowStep flow_step flow_sound

  passes_within : (j : ℕ) → PassesAt passes code j → j < length code
  passes_within j h = let at = some_and (slice_get code j) (λ it. passes it ≡ true) h in slice_get_within code j at.0 at.1

  flow_found : (k : ℕ) → FlowsBy passes code from k → FlowStep flow_closed.set k
  flow_found k (once s) = inl s
  flow_found k (more j flow pass s) =
      let within = passes_within j pass in
      inr (j, within, (flow_closed.closed j (in_up_to (length code) j within) (flow_found j flow), pass, s))

  pub flows_decided : (k : ℕ) → Decided (FlowsBy passes code from k)
  flows_decided k = as_well (flow_sound flow_closed.set flow_closed.holds k) (flow_found k) (flow_step flow_closed.set k)

-- ---- paths

-- a relation between numbers below n that is decided
pub record IsDecided (n : ℕ) (E : ℕ → ℕ → Type 0) : Type 0 where
  pub decide : (a b : ℕ) → Decided (E a b)
  pub from_within : (a b : ℕ) → E a b → a < n
  pub to_within : (a b : ℕ) → E a b → b < n

module _ (n : ℕ) (E : ℕ → ℕ → Type 0) (is : IsDecided n E) (b : ℕ) where
  abbrev Reaches : ℕ → Type 0
  Reaches x = Leads E x b

  abbrev By : (ℕ → Bool) → ℕ → ℕ → Type 0
  By set x y = E x y × (set y ≡ true)

  abbrev PathStep : (ℕ → Bool) → ℕ → Type 0
  PathStep set x = E x b ⊎ SomeBelow (By set x) n

  path_step : (set : ℕ → Bool) (x : ℕ) → Decided (PathStep set x)
  path_step set x = either (is.decide x b) (some_below (By set x) (λ y. both (is.decide x y) (bool_true (set y))) n)

  path_sound : (set : ℕ → Bool) → ((x : ℕ) → set x ≡ true → Reaches x) → (x : ℕ) → PathStep set x → Reaches x
  path_sound set holds x step = elim step [
    | inl e ↦ (x ∷ [], edge e)
    | inr h ↦ let y = h.2 in let path = holds h.0 y.1 in (x ∷ path.0, on y.0 path.1)
  ]

  path_closed : saturating.Closed ℕ cases_eq (up_to n) Reaches PathStep path_step path_sound
  path_closed = saturating.saturated ℕ cases_eq (up_to n) Reaches PathStep path_step path_sound

  path_from : (x : ℕ) (xs : List ℕ) → IsPath E x xs b → x < n
  path_from x [] p = elim p [ ]
  path_from x (_ ∷ []) (edge e) = is.from_within x b e
  path_from x (_ ∷ xs) (on {b = y} e p) = is.from_within x y e

  path_found : (x : ℕ) (xs : List ℕ) → IsPath E x xs b → PathStep path_closed.set x
  path_found x [] p = elim p [ ]
  path_found x (_ ∷ []) (edge e) = inl e
  path_found x (_ ∷ xs) (on {b = y} e p) =
      let within = path_from y xs p in
      inr (y, within, (e, path_closed.closed y (in_up_to n y within) (path_found y xs p)))

  pub leads_decided : (x : ℕ) → Decided (Leads E x b)
  leads_decided x = as_well (path_sound path_closed.set path_closed.holds x) (λ leads. path_found x leads.0 leads.1) (path_step path_closed.set x)

  pub leads_from : (x : ℕ) → Leads E x b → x < n
  leads_from x leads = path_from x leads.0 leads.1
