-- The first path and the first cycle, over relations that are decided.
use Rattle.std.proofs.Common.{◌≡◌, ℕ, zero, suc, ◌+◌, List, [], ◌∷◌, length, inl, inr, arith, subst, sym}
use Rattle.std.specs.Prelude.{◌⊎◌}
use Rattle.mm_goto.specs.Paths.{Leads, IsFirstPath}
use Rattle.mm_goto.specs.DelayCycles.{IsCycle, IsFirstCycle}
use Rattle.mm_bits.specs.Near.{Near}
use Rattle.mm_bits.proofs.Firsts.{near_edge, near_more, near_on, first_edge, first_step, IsNext}
use Rattle.mm_cycles.proofs.FirstCycles.{first_cycle, no_cycle}
use Rattle.mm_decided.proofs.Deciding.{Decided, as_well, both, either, SomeBelow, some_below, least_of}
use Rattle.mm_decided.proofs.Reaching.{IsDecided, leads_decided, leads_from}

module _ (n : ℕ) (E : ℕ → ℕ → Type 0) (is : IsDecided n E) (b : ℕ) where
  abbrev Nearer : ℕ → ℕ → ℕ → Type 0
  Nearer d x y = E x y × Near E b d y

  near_decided : (d x : ℕ) → Decided (Near E b d x)
  near_decided zero x = as_well (near_edge E b x).0 (near_edge E b x).1 (is.decide x b)
  near_decided (suc d) x =
      let same : d + 1 ≡ suc d = omega arith in
      let P : ℕ → Type 0 = λ k. Near E b k x in
      as_well
      (λ h. subst P same ((near_more E b d x).1 (elim h [ inl near ↦ inl near | inr y ↦ inr (y.0, y.2.0, y.2.1) ])))
      (λ near. elim ((near_more E b d x).0 (subst P (sym same) near)) [ inl old ↦ inl old | inr y ↦ inr (y.0, is.to_within x y.0 y.1, (y.1, y.2)) ])
      (either (near_decided d x) (some_below (Nearer d x) (λ y. both (is.decide x y) (near_decided d y)) n))

  abbrev First : ℕ → Type 0
  First x = (path : List ℕ) × IsFirstPath E x path b

  onward : (d x : ℕ) → ((y : ℕ) → Near E b d y → First y) → (Near E b d x → ⊥) → Near E b (d + 1) x → First x
  onward d x first far near =
      let some = near_on E b d x near far in
      let least = least_of (Nearer d x) (λ y. both (is.decide x y) (near_decided d y)) n (some.0, is.to_within x some.0 some.1, (some.1, some.2)) in
      let y : ℕ = least.at in
      let rest = first y least.is.1 in
      let next : IsNext E b d x y = record { leads = least.is.0; near = least.is.1; far = far; least = λ z e h. least.least z (e, h) } in
      (x ∷ rest.0, first_step E b d x y next rest.0 rest.1)

  pub first_path : (d x : ℕ) → Near E b d x → First x
  first_path zero x near = (x ∷ [], first_edge E b x ((near_edge E b x).1 near))
  first_path (suc d) x near = elim (near_decided d x) [
    | inl nearer ↦ first_path d x nearer
    | inr far ↦
        let same : suc d ≡ d + 1 = omega arith in
        let P : ℕ → Type 0 = λ k. Near E b k x in
        onward d x (first_path d) far (subst P same near)
  ]

module _ (n : ℕ) (U C E : ℕ → ℕ → Type 0) (of_u : IsDecided n U) (of_c : IsDecided n C) (of_e : IsDecided n E) (s : ℕ) where
  abbrev Back : ℕ → ℕ → Type 0
  Back l m = C l m × Leads E m s

  abbrev Late : ℕ → Type 0
  Late l = U s l × SomeBelow (Back l) n

  back_decided : (l m : ℕ) → Decided (Back l m)
  back_decided l m = both (of_c.decide l m) (leads_decided n E of_e s m)

  late_decided : (l : ℕ) → Decided (Late l)
  late_decided l = both (of_u.decide s l) (some_below (Back l) (back_decided l) n)

  is_back : (l m : ℕ) → C l m → Leads E m s → SomeBelow (Back l) n
  is_back l m c leads = (m, leads_from n E of_e s m leads, (c, leads))

  abbrev Found : Type 0
  Found = (walk : List ℕ) × IsFirstCycle U C E s walk

  the_cycle : SomeBelow Late n → Found
  the_cycle late =
      let l = least_of Late late_decided n late in
      let m = least_of (Back l.at) (back_decided l.at) n l.is.1 in
      let some = m.is.1 in
      let path = first_path n E of_e s (length some.0) m.at (some.0, some.1, omega arith) in (
        s ∷ l.at ∷ path.0,
        first_cycle U C E s l.at m.at path.0 l.is.0 m.is.0 path.1
            (λ k j low u c leads. let high = l.least k (u, is_back k j c leads) in omega arith)
            (λ j c leads. m.least j (c, leads)),
      )

  pub cycle_or_none : Found ⊎ (((rest : List ℕ) × IsCycle U C E (s ∷ rest)) → ⊥)
  cycle_or_none = elim (some_below Late late_decided n) [
    | inl late ↦ inl (the_cycle late)
    | inr none ↦ inr (λ has. no_cycle U C E s (λ k j u c leads. none (k, of_u.to_within s k u, (u, is_back k j c leads))) has.0 has.1)
  ]
