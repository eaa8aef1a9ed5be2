-- What the plan's sets and flags say of the program.
use Rattle.std.proofs.Common.{◌≡◌, ◌∙◌, ℕ, zero, suc, ◌<◌, ◌≤◌, Bool, true, false, List, [], ◌∷◌, length, inl, inr, arith, refl, sym, subst, ap, Some}
use Rattle.std.specs.Prelude.{◌↔◌, IsTrue, IsSomeAnd, All, slice_get, slice_index_or}
use Rattle.std.specs.List.{Contains}
use Rattle.std.proofs.lemmas.Bool.{true≢false}
use Rattle.std.proofs.lemmas.Option.{slice_get_within, slice_get_cases, slice_get-get_or}
use Rattle.mm_bits.specs.Words.{Has}
use Rattle.mm_goto.specs.declared.model.Model.{Model}
use Rattle.mm_goto.specs.declared.program.Instr.{Instr}
use Rattle.mm_goto.specs.declared.program.Instr.TheVariants as instr
use Rattle.mm_goto.specs.declared.program.Target.{Target}
use Rattle.mm_goto.specs.declared.program.Thread.{Thread}
use Rattle.mm_goto.specs.declared.pure.Pure.{Pure}
use Rattle.mm_goto.specs.declared.spot.Spot.{Spot}
use Rattle.mm_goto.specs.Checks.{targets, target_exprs}
use Rattle.mm_goto.specs.DelayCycles.{HasDelayCycle}
use Rattle.mm_goto.specs.Listing.{Listing}
use Rattle.mm_goto.specs.PointsTo.{MayName, aims_of, instr_at, place}
use Rattle.mm_goto.specs.Shapes.{IsAddressed, IsBuffered, IsThreadBuffered, NamesBuffered, TakesAddress, flag_at}
use Rattle.mm_goto.specs.Sites.{Names, is_site, sites}
use Rattle.mm_goto.specs.Sourcelike.{exprs_of}
use Rattle.mm_goto.specs.declared.program.Target.TheVariants as target
use Rattle.mm_goto.specs.Locals.{rows_of}
use Rattle.mm_goto.specs.Valid.{IsValid, IsInstrIn, IsCellIn, IsPureIn, IsRow, IsTargetIn}
use Rattle.mm_graph.specs.Graphs.{IsGraphOf}
use Rattle.mm_graph.specs.Sites.{IsSiteOf}
use Rattle.mm_graph.specs.declared.event_graph.Graph.{Graph}
use Rattle.mm_graph.specs.declared.site.Site.{Site}
use Rattle.mm_graph.proofs.Filling.{some_and}
use Rattle.mm_graph.proofs.Named.{contains_at, names_within}
use Rattle.mm_graph.proofs.Pairs.{there_is, site_is}
use Rattle.mm_points.proofs.Derived.{stands_at, instr_is}
use Rattle.mm_points.proofs.InRange.{all_at, bounded, of_thread}
use Rattle.mm_points.proofs.Lists.{same_some}
use Rattle.mm_delay.specs.Plans.{IsDelayed}
use Rattle.mm_delay.specs.reading.Sets.{AreFlagsOf, AreSmall, OfSome, StandsIn}
use Rattle.mm_delay.specs.reading.Addressed.{InExprs}
use Rattle.mm_delay.proofs.Gathering.{any_none, any_one, iff_chain}
use Rattle.mm_delay.proofs.Numbered.{numbered}
use Rattle.mm_delay.proofs.Takes.{in_set, in_load, in_store, in_branch, in_assert, in_assume, in_add, in_cas}

-- ---- numbers in range

module _ (p : Listing) (valid : IsValid p) where
  -- each join is of a thread whose number is small
  pub joined_small : (t k u : ℕ) (thread : Thread) → slice_get p.threads t ≡ Some thread → slice_get thread.code k ≡ Some (instr.Join u) → u < 1024
  joined_small t k u thread runs stands =
      let of = of_thread p valid t k (instr.Join u) (instr_is p t k thread (instr.Join u) runs stands) in
      omega (arith, of.is, valid.threads)

-- ---- addresses are of cells

contained : {X : Type 0} (xs : List X) (x : X) → Contains xs x → (k : ℕ) × (slice_get xs k ≡ Some x)
contained xs x h = (h.0, slice_get-get_or xs h.0 x h.1 ∙ ap Some h.2)

expr_below : (p : Listing) (e : Pure) → All (IsRow p.cells) (rows_of e) → (c : ℕ) → TakesAddress c e → c < length p.cells
expr_below p e rows c h =
    let at = contained (aims_of e).rows h.0 h.1 in
    omega (arith, bounded p e rows at.0 h.0 at.1, h.2.1)

module _ (p : Listing) (thread : Thread) (c : ℕ) where
  pure_below : (e : Pure) → IsPureIn p thread e → TakesAddress c e → c < length p.cells
  pure_below e is h = expr_below p e is.cells c h

  one_below : (e : Pure) → IsPureIn p thread e → InExprs (e ∷ []) c → c < length p.cells
  one_below e is h = pure_below e is ((any_one (λ e. TakesAddress c e) e).0 h)

  none_below : InExprs [] c → c < length p.cells
  none_below h = absurd (any_none (λ e. TakesAddress c e) h)

  target_below : (to : Target) → IsTargetIn p thread to → InExprs (target_exprs to) c → c < length p.cells
  target_below (target.Cell k) is h = none_below h
  target_below (target.Elem first len index) is h = one_below index is.1 h
  target_below (target.Deref e) is h = one_below e is h

  instr_below : (it : Instr) → IsInstrIn p thread it → InExprs (exprs_of it) c → c < length p.cells
  instr_below (instr.Set l e) is h = pure_below e is.1 ((in_set (instr.Set l e) c l e refl).0 h)
  instr_below (instr.Load l to) is h = target_below to is.1 ((in_load (instr.Load l to) c l to refl).0 h)
  instr_below (instr.Store to e) is h = elim ((in_store (instr.Store to e) c to e refl).0 h) [ inl a ↦ target_below to is.0 a | inr b ↦ pure_below e is.1 b ]
  instr_below (instr.Input l) is h = none_below h
  instr_below (instr.Jump k) is h = none_below h
  instr_below (instr.Branch e k) is h = pure_below e is.0 ((in_branch (instr.Branch e k) c e k refl).0 h)
  instr_below (instr.Assert e n) is h = pure_below e is.0 ((in_assert (instr.Assert e n) c e n refl).0 h)
  instr_below (instr.Assume e) is h = pure_below e is ((in_assume (instr.Assume e) c e refl).0 h)
  instr_below instr.Fence is h = none_below h
  instr_below (instr.Lock m) is h = none_below h
  instr_below (instr.Unlock m) is h = none_below h
  instr_below (instr.Add l to e) is h = elim ((in_add (instr.Add l to e) c l to e refl).0 h) [ inl a ↦ target_below to is.1 a | inr b ↦ pure_below e is.2 b ]
  instr_below (instr.Cas l to e f) is h =
      elim ((in_cas (instr.Cas l to e f) c l to e f refl).0 h) [ inl a ↦ target_below to is.1 a | inr b ↦ elim b [ inl a ↦ pure_below e is.2 a | inr b ↦ pure_below f is.3 b ] ]
  instr_below (instr.Start u) is h = none_below h
  instr_below (instr.Join u) is h = none_below h
  instr_below instr.AtomBegin is h = none_below h
  instr_below instr.AtomEnd is h = none_below h
  instr_below instr.End is h = none_below h

pub addressed_small : (p : Listing) → IsValid p → length p.cells ≤ 256 → (c : ℕ) → IsAddressed p c → c < 1024
addressed_small p valid few c (IsAddressed.in_code t k it e is stands takes) =
    let of = of_thread p valid t k it is in
    omega (arith, instr_below p of.thread c it of.is (e, stands, takes), few)
addressed_small p valid few c (IsAddressed.in_start k cell is takes) =
    omega (arith, expr_below p cell.init (all_at (IsCellIn p.cells) p.cells valid.each_cell k cell is).rows c takes, few)

-- ---- what names a cell is a site

named_site : (it : Instr) (to : Target) → Contains (targets it) to → is_site it ≡ true
named_site (instr.Load l t) to h = refl
named_site (instr.Store t e) to h = refl
named_site (instr.Add l t e) to h = refl
named_site (instr.Cas l t e f) to h = refl
named_site (instr.Lock m) to h = refl
named_site (instr.Unlock m) to h = refl
named_site (instr.Start u) to h = refl
named_site (instr.Join u) to h = refl
named_site (instr.Set l e) to h = absurd (omega (arith, h.1))
named_site (instr.Input l) to h = absurd (omega (arith, h.1))
named_site (instr.Jump k) to h = absurd (omega (arith, h.1))
named_site (instr.Branch e k) to h = absurd (omega (arith, h.1))
named_site (instr.Assert e n) to h = absurd (omega (arith, h.1))
named_site (instr.Assume e) to h = absurd (omega (arith, h.1))
named_site instr.Fence to h = absurd (omega (arith, h.1))
named_site instr.AtomBegin to h = absurd (omega (arith, h.1))
named_site instr.AtomEnd to h = absurd (omega (arith, h.1))
named_site instr.End to h = absurd (omega (arith, h.1))

module _ (p : Listing) (g : Graph) (graph : IsGraphOf p g) where
  -- a site and its spot
  record Spotted (s : ℕ) (x : Site) : Type 0 where
    spot : Spot
    stands : slice_get (sites p) s ≡ Some spot
    of : IsSiteOf p spot x

  spotted : (s : ℕ) (x : Site) → slice_get g.sites s ≡ Some x → Spotted s x
  spotted s x is =
      let within : s < length (sites p) = omega (arith, slice_get_within g.sites s x is, graph.size) in
      let spot = there_is (sites p) s within in
      record { spot = spot.0; stands = spot.1; of = graph.each s spot.0 x spot.1 is }

  -- a spot's site
  sited : (s : ℕ) (spot : Spot) → slice_get (sites p) s ≡ Some spot → (x : Site) × (slice_get g.sites s ≡ Some x) × IsSiteOf p spot x
  sited s spot is =
      let within : s < length g.sites = omega (arith, slice_get_within (sites p) s spot is, graph.size) in
      let x = there_is g.sites s within in
      (x.0, x.1, graph.each s spot x.0 is x.1)

  pub small_sites : IsValid p → AreSmall g.sites
  small_sites valid = record {
    few = omega (arith, graph.size, graph.small.sites);
    threads = λ s x is.
        let at = spotted s x is in
        let it = some_and (instr_at p at.spot.thread at.spot.index) (λ it. is_site it ≡ true) (site_is p s at.spot at.stands) in
        let stands = stands_at p at.spot.thread at.spot.index it.0 it.1 in
        omega (arith, at.of.thread, slice_get_within p.threads at.spot.thread stands.thread stands.runs, valid.threads);
    cells = λ s x is k c has.
        let at = spotted s x is in
        omega (arith, graph.small.cells, names_within p valid at.spot c ((at.of.cells.each c).0 (contains_at x.cells k c has)));
  }

  -- the sites of a set of stores that have a delay cycle
  module _ (m : Model) (set : List ℕ) (delayed : (s : ℕ) → Has set s ↔ HasDelayCycle p m s) where
    stands_delayed : (t k : ℕ) → StandsIn g.sites set t k ↔ IsDelayed p m t k
    stands_delayed t k = (there, back)
      where
        there : StandsIn g.sites set t k → IsDelayed p m t k
        there h =
            let x = some_and (slice_get g.sites h.0) (λ x. (x.thread ≡ t) × (x.index ≡ k)) h.1 in
            let at = spotted h.0 x.0 x.1 in
            (h.0, subst (λ o. IsSomeAnd o (λ y. (y.thread ≡ t) × (y.index ≡ k))) (sym at.stands) (sym at.of.thread ∙ x.2.0, sym at.of.index ∙ x.2.1), (delayed h.0).0 h.2)

        back : IsDelayed p m t k → StandsIn g.sites set t k
        back h =
            let y = some_and (slice_get (sites p) h.0) (λ y. (y.thread ≡ t) × (y.index ≡ k)) h.1 in
            let x = sited h.0 y.0 y.1 in
            (h.0, subst (λ o. IsSomeAnd o (λ x. (x.thread ≡ t) × (x.index ≡ k))) (sym x.1) (x.2.thread ∙ y.2.0, x.2.index ∙ y.2.1), (delayed h.0).1 h.2)

  -- ---- rows of flags

  -- where a site stands there is an instruction
  stands_there : (set : List ℕ) (t k : ℕ) → StandsIn g.sites set t k → (thread : Thread) × (slice_get p.threads t ≡ Some thread) × (k < length thread.code)
  stands_there set t k h =
      let x = some_and (slice_get g.sites h.0) (λ x. (x.thread ≡ t) × (x.index ≡ k)) h.1 in
      let at = spotted h.0 x.0 x.1 in
      let it = some_and (instr_at p at.spot.thread at.spot.index) (λ it. is_site it ≡ true) (site_is p h.0 at.spot at.stands) in
      let stands = stands_at p at.spot.thread at.spot.index it.0 it.1 in
      let thread : at.spot.thread ≡ t = sym at.of.thread ∙ x.2.0 in
      let index : at.spot.index ≡ k = sym at.of.index ∙ x.2.1 in
      (stands.thread, ap (λ u. slice_get p.threads u) (sym thread) ∙ stands.runs, omega (arith, index, slice_get_within stands.thread.code at.spot.index it.0 stands.stands))

  abbrev pub AreRows : List ℕ → List (List Bool) → Type 0
  AreRows set rows = (t : ℕ) (thread : Thread) → slice_get p.threads t ≡ Some thread → AreFlagsOf g.sites set t (length thread.code) (slice_index_or rows t [])

  past : {X : Type 0} (xs : List X) (k : ℕ) (d : X) → length xs ≤ k → slice_index_or xs k d ≡ d
  past [] k d h = refl
  past (x ∷ xs) zero d h = absurd (omega (arith, h))
  past (x ∷ xs) (suc k) d h = past xs k d (omega (arith, h))

  no_flag : (k : ℕ) → IsTrue (slice_index_or [] k false) → ⊥
  no_flag k h = true≢false (sym h)

  pub flags_stand : (set : List ℕ) (rows : List (List Bool)) → length rows ≡ length p.threads → AreRows set rows → (t k : ℕ) → IsTrue (flag_at rows t k) ↔ StandsIn g.sites set t k
  flags_stand set rows size each t k = (there, back)
    where
      there : IsTrue (flag_at rows t k) → StandsIn g.sites set t k
      there up = elim (slice_get_cases p.threads t).1 [
        | inl x ↦ (((each t x.0 x.2).raised k).0 up).1
        | inr none ↦
            let gone : slice_index_or rows t [] ≡ [] = past rows t [] (omega (arith, size, none.0)) in
            absurd (no_flag k (subst (λ row. IsTrue (slice_index_or row k false)) gone up))
      ]

      back : StandsIn g.sites set t k → IsTrue (flag_at rows t k)
      back h = let at = stands_there set t k h in ((each t at.0 at.1).raised k).1 (at.2, h)

  -- ---- what follows of the flags of the buffered stores

  module _ (m : Model) (set : List ℕ) (delayed : (s : ℕ) → Has set s ↔ HasDelayCycle p m s)
      (rows : List (List Bool)) (flags : (t k : ℕ) → IsTrue (flag_at rows t k) ↔ StandsIn g.sites set t k) where
    pub flags_delayed : (t k : ℕ) → IsTrue (flag_at rows t k) ↔ IsDelayed p m t k
    flags_delayed t k = iff_chain (flags t k) (stands_delayed m set delayed t k)

    pub cell_buffered : (cells : List ℕ) → ((c : ℕ) → Has cells c ↔ OfSome g.sites set (λ x. Contains x.cells c)) → (c : ℕ) → Has cells c ↔ IsBuffered p rows c
    cell_buffered cells has c = (there, back)
      where
        there : Has cells c → IsBuffered p rows c
        there h =
            let s = (has c).0 h in
            let x = some_and (slice_get g.sites s.0) (λ x. Contains x.cells c) s.1 in
            let at = spotted s.0 x.0 x.1 in
            let stands : StandsIn g.sites set at.spot.thread at.spot.index = (s.0, subst (λ o. IsSomeAnd o (λ x. (x.thread ≡ at.spot.thread) × (x.index ≡ at.spot.index))) (sym x.1) (at.of.thread, at.of.index), s.2) in
            record { t = at.spot.thread; k = at.spot.index; flag = (flags at.spot.thread at.spot.index).1 stands; names = (at.of.cells.each c).0 x.2 }

        back : IsBuffered p rows c → Has cells c
        back b =
            let s = (flags b.t b.k).0 b.flag in
            let x = some_and (slice_get g.sites s.0) (λ x. (x.thread ≡ b.t) × (x.index ≡ b.k)) s.1 in
            let at = spotted s.0 x.0 x.1 in
            let thread : b.t ≡ at.spot.thread = sym x.2.0 ∙ at.of.thread in
            let index : b.k ≡ at.spot.index = sym x.2.1 ∙ at.of.index in
            let names : Names p at.spot c = subst (λ k. Names p (record { thread = at.spot.thread; index = k }) c) index (subst (λ t. Names p (record { thread = t; index = b.k }) c) thread b.names) in
            (has c).1 (s.0, subst (λ o. IsSomeAnd o (λ x. Contains x.cells c)) (sym x.1) ((at.of.cells.each c).1 names), s.2)

    pub near_named : (cells near : List ℕ) → ((c : ℕ) → Has cells c ↔ OfSome g.sites set (λ x. Contains x.cells c))
        → ((s : ℕ) → Has near s ↔ IsSomeAnd (slice_get g.sites s) (λ x. (c : ℕ) × Contains x.cells c × Has cells c))
        → (t k : ℕ) → StandsIn g.sites near t k ↔ NamesBuffered p rows (record { thread = t; index = k })
    near_named cells near has at_cells t k = (there, back)
      where
        there : StandsIn g.sites near t k → NamesBuffered p rows (record { thread = t; index = k })
        there h =
            let x = some_and (slice_get g.sites h.0) (λ x. (x.thread ≡ t) × (x.index ≡ k)) h.1 in
            let y = some_and (slice_get g.sites h.0) (λ x. (c : ℕ) × Contains x.cells c × Has cells c) ((at_cells h.0).0 h.2) in
            let same : y.0 ≡ x.0 = same_some y.0 x.0 (sym y.1 ∙ x.1) in
            let c = y.2 in
            let at = spotted h.0 x.0 x.1 in
            let names : Names p at.spot c.0 = (at.of.cells.each c.0).0 (subst (λ (z : Site). Contains z.cells c.0) same c.1) in
            let thread : at.spot.thread ≡ t = sym at.of.thread ∙ x.2.0 in
            let index : at.spot.index ≡ k = sym at.of.index ∙ x.2.1 in
            (c.0, subst (λ k. Names p (record { thread = t; index = k }) c.0) index (subst (λ t. Names p (record { thread = t; index = at.spot.index }) c.0) thread names), (cell_buffered cells has c.0).0 c.2)

        back : NamesBuffered p rows (record { thread = t; index = k }) → StandsIn g.sites near t k
        back h =
            let it = some_and (instr_at p t k) (λ it. (to : Target) × Contains (targets it) to × MayName p (place t to) h.0) h.1 in
            let to = it.2 in
            let s = numbered p t k it.0 it.1 (named_site it.0 to.0 to.1) in
            let x = sited s.0 (record { thread = t; index = k }) s.1 in
            let near_is : IsSomeAnd (slice_get g.sites s.0) (λ x. (c : ℕ) × Contains x.cells c × Has cells c) =
            subst (λ o. IsSomeAnd o (λ (x : Site). (c : ℕ) × Contains x.cells c × Has cells c)) (sym x.1) (h.0, (x.2.cells.each h.0).1 h.1, (cell_buffered cells has h.0).1 h.2) in
            (s.0, subst (λ o. IsSomeAnd o (λ (x : Site). (x.thread ≡ t) × (x.index ≡ k))) (sym x.1) (x.2.thread, x.2.index), (at_cells s.0).1 near_is)

    pub thread_buffered : (threads : List ℕ) → ((t : ℕ) → Has threads t ↔ OfSome g.sites set (λ x. x.thread ≡ t)) → (t : ℕ) → Has threads t ↔ IsThreadBuffered rows t
    thread_buffered threads has t = (there, back)
      where
        there : Has threads t → IsThreadBuffered rows t
        there h =
            let s = (has t).0 h in
            let x = some_and (slice_get g.sites s.0) (λ x. x.thread ≡ t) s.1 in
            (x.0.index, (flags t x.0.index).1 (s.0, subst (λ o. IsSomeAnd o (λ (y : Site). (y.thread ≡ t) × (y.index ≡ x.0.index))) (sym x.1) (x.2, refl), s.2))

        back : IsThreadBuffered rows t → Has threads t
        back b =
            let s = (flags t b.0).0 b.1 in
            let x = some_and (slice_get g.sites s.0) (λ x. (x.thread ≡ t) × (x.index ≡ b.0)) s.1 in
            (has t).1 (s.0, subst (λ o. IsSomeAnd o (λ (y : Site). y.thread ≡ t)) (sym x.1) x.2.0, s.2)
