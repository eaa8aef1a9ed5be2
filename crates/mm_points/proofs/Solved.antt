-- The sets that the rules of a program ask for are its points-to sets.
use Rattle.std.proofs.Common.{◌≡◌, ◌∙◌, ℕ, zero, suc, ◌+◌, ◌*◌, ◌<◌, ◌≤◌, List, [], ◌∷◌, length, true, false, refl, sym, ap, Some, None, Option, arith, subst}
use Rattle.std.proofs.lemmas.Option.{slice_get_within, slice_get-get_or}
use Rattle.std.proofs.lemmas.Bool.{true≢false}
use Rattle.std.specs.List.{Contains}
use Rattle.std.specs.Prelude.{◌↔◌, All, IfSome, IsSomeAnd, slice_get, slice_index_or}
use Rattle.mm_goto.specs.declared.pure.Pure.{Pure}
use Rattle.mm_goto.specs.declared.program.Cell.{Cell}
use Rattle.mm_goto.specs.declared.program.Thread.{Thread}
use Rattle.mm_goto.specs.declared.program.Target.{Target}
use Rattle.mm_goto.specs.declared.program.Target.TheVariants as target
use Rattle.mm_goto.specs.declared.program.Instr.{Instr}
use Rattle.mm_goto.specs.declared.program.Instr.TheVariants as instr
use Rattle.mm_goto.specs.Checks.{targets, written_local}
use Rattle.mm_goto.specs.declared.spot.Spot.{Spot}
use Rattle.mm_goto.specs.Listing.{Listing}
use Rattle.mm_goto.specs.Sites.{Names}
use Rattle.mm_goto.specs.PointsTo.{MayName, place, instr_at}
use Rattle.mm_goto.specs.Valid.{IsValid, IsThreadIn, IsInstrIn, IsPureIn, IsTargetIn, IsCellIn}
use Rattle.mm_points.specs.Cells.{AreCells}
use Rattle.mm_points.specs.Sets.{Linked}
use Rattle.mm_points.specs.reading.Listed.{OnTarget, IsTargeted, AreInRange, AreListed}
use Rattle.mm_points.specs.reading.Rules.{Holds, holder, aim, InAim, IsAimIn}
use Rattle.mm_points.specs.reading.Ruled.{aim_to, rules_of, pointers_of, BelowIn, BelowTo, BelowAt, WritesBelow}
use Rattle.mm_points.proofs.Derived.{IsNumbered, held_named, named_held}
use Rattle.mm_points.proofs.Growing.{aim_held, held_aim, aim_more}
use Rattle.mm_points.proofs.InRange.{all_at, of_thread, locals_below, target_in}
use Rattle.mm_points.proofs.Lists.{no_some}
use Rattle.mm_points.proofs.Ranges.{below}
use Rattle.mm_points.proofs.Starts.{start_localless}

pointer_same : (cells : List Cell) (k : ℕ) → (slice_index_or (pointers_of cells) k false ≡ true) ↔ IsSomeAnd (slice_get cells k) (λ cell. cell.pointer ≡ true)
pointer_same [] k = (λ h. absurd (true≢false (sym h)), λ h. absurd h)
pointer_same (cell ∷ cells) zero = (λ h. h, λ h. h)
pointer_same (cell ∷ cells) (suc k) = pointer_same cells k

-- what a list of one target names
one_target : (N : Target → Type 0) (x : Target) → ((to : Target) × Contains (x ∷ []) to × N to) ↔ N x
one_target N x = (λ h. at h.0 h.1.0 h.1.1 h.1.2 h.2, λ n. (x, (0, omega arith, refl), n))
  where
    at : (to : Target) (k : ℕ) → k < length (x ∷ []) → slice_index_or (x ∷ []) k to ≡ to → N to → N x
    at to zero within is n = subst N (sym is) n
    at to (suc k) within is n = absurd (omega arith)

module _ (p : Listing) (valid : IsValid p) (step : ℕ) (most : All (λ t. t.locals ≤ step) p.threads) where
  pure_below : (t : ℕ) (thread : Thread) (e : Pure) → slice_get p.threads t ≡ Some thread → IsPureIn p thread e → BelowIn step e
  pure_below t thread e runs is k l at =
      let low = below e k l at in
      let bound = is.locals in
      let own = locals_below p valid step most t thread runs in
      omega arith

  to_below : (t : ℕ) (thread : Thread) (to : Target) → slice_get p.threads t ≡ Some thread → IsTargetIn p thread to → BelowTo step to
  to_below t thread (target.Cell c) runs is = tt
  to_below t thread (target.Elem first len index) runs is = tt
  to_below t thread (target.Deref e) runs is = pure_below t thread e runs is

  instr_below : (t : ℕ) (thread : Thread) (it : Instr) → slice_get p.threads t ≡ Some thread → IsInstrIn p thread it → BelowAt step it
  instr_below t thread (instr.Set l e) runs is = let own = locals_below p valid step most t thread runs in (omega (arith, is.0), pure_below t thread e runs is.1)
  instr_below t thread (instr.Load l to) runs is = let own = locals_below p valid step most t thread runs in (omega (arith, is.0), to_below t thread to runs is.1)
  instr_below t thread (instr.Store to e) runs is = (to_below t thread to runs is.0, pure_below t thread e runs is.1)
  instr_below t thread _ runs is = tt

  pub numbered : IsNumbered p step (pointers_of p.cells)
  numbered = record {
    pointers_are = pointer_same p.cells;
    starts = λ k of is k' l at. absurd (no_some l (sym (ap (λ ls. slice_get ls k') (start_localless of.init (all_at (IsCellIn p.cells) p.cells valid.each_cell k of is).kind)) ∙ at));
    instrs = λ t j it is. let at = of_thread p valid t j it is in instr_below t at.thread it at.runs at.is;
  }

  written_below : (t : ℕ) (thread : Thread) (it : Instr) → slice_get p.threads t ≡ Some thread → IsInstrIn p thread it → IfSome (written_local it) (λ l. l < step)
  written_below t thread (instr.Set l e) runs is = let own = locals_below p valid step most t thread runs in omega (arith, is.0)
  written_below t thread (instr.Load l to) runs is = let own = locals_below p valid step most t thread runs in omega (arith, is.0)
  written_below t thread (instr.Input l) runs is = let own = locals_below p valid step most t thread runs in omega (arith, is)
  written_below t thread (instr.Add l to e) runs is = let own = locals_below p valid step most t thread runs in omega (arith, is.0)
  written_below t thread (instr.Cas l to e f) runs is = let own = locals_below p valid step most t thread runs in omega (arith, is.0)
  written_below t thread _ runs is = tt

  thread_at : (t : ℕ) (d : Thread) → t < length p.threads → slice_get p.threads t ≡ Some (slice_index_or p.threads t d)
  thread_at t d small = slice_get-get_or p.threads t d small

  -- no thread writes a local from the step on
  pub writes_below : All (WritesBelow step) p.threads
  writes_below t d small j e within =
      let thread : Thread = slice_index_or p.threads t d in
      let runs = thread_at t d small in
      let is = all_at (IsThreadIn p) p.threads valid.each_thread t thread runs in
      written_below t thread (slice_index_or thread.code j e) runs (is.instructions j e within)

  -- the numbers in the targets are in range
  pub targets_in : (t : ℕ) → IfSome (slice_get p.threads t) (λ thread. AreInRange (length p.cells + length p.threads * step) (length p.cells + t * step) thread.code)
  targets_in t = at (slice_get p.threads t) refl
    where
      it_in : (thread : Thread) → slice_get p.threads t ≡ Some thread → (it : Instr) → IsInstrIn p thread it
          → OnTarget (λ to. IsAimIn (length p.cells + length p.threads * step) (aim_to (length p.cells + t * step) to)) it
      it_in thread runs (instr.Load l to) is = target_in p valid step most t thread to runs is.1
      it_in thread runs (instr.Store to e) is = target_in p valid step most t thread to runs is.0
      it_in thread runs (instr.Add l to e) is = target_in p valid step most t thread to runs is.1
      it_in thread runs (instr.Cas l to e f) is = target_in p valid step most t thread to runs is.1
      it_in thread runs _ is = tt

      inside : (thread : Thread) → slice_get p.threads t ≡ Some thread → (i : ℕ) (o : Option Instr) → slice_get thread.code i ≡ o
          → IfSome o (OnTarget (λ to. IsAimIn (length p.cells + length p.threads * step) (aim_to (length p.cells + t * step) to)))
      inside thread runs i None e = tt
      inside thread runs i (Some it) e =
          it_in thread runs it (all_at (IsInstrIn p thread) thread.code (all_at (IsThreadIn p) p.threads valid.each_thread t thread runs).instructions i it e)

      at : (o : Option Thread) → slice_get p.threads t ≡ o → IfSome o (λ thread. AreInRange (length p.cells + length p.threads * step) (length p.cells + t * step) thread.code)
      at None e = tt
      at (Some thread) e = λ i. inside thread e i (slice_get thread.code i) refl

  module _ (sets : List (List ℕ)) (least : (a b : ℕ) → Linked sets a b ↔ Holds (rules_of p step) (pointers_of p.cells) (holder a) b) where
    -- what a target's numbers name is what it may name
    pub aimed : (t : ℕ) (to : Target) → BelowTo step to → (c : ℕ) → InAim (Linked sets) (aim_to (length p.cells + t * step) to) c ↔ MayName p (place t to) c
    aimed t to low c =
        let x = aim_to (length p.cells + t * step) to in
        let cs = rules_of p step in
        let ps = pointers_of p.cells in
        let T : ℕ → ℕ → Type 0 = λ a b. Holds cs ps (holder a) b in (
          λ h. (held_named p step ps numbered (aim x) c (aim_held cs ps x c (aim_more (Linked sets) T (λ a b. (least a b).0) x c h))).targets t to low refl,
          λ may. aim_more T (Linked sets) (λ a b. (least a b).1) x c (held_aim cs ps x c (named_held p step ps numbered (place t to) c may)),
        )

    -- what an instruction's target names is what the access may be to
    target_same : (t i : ℕ) (it : Instr) (to : Target) → instr_at p t i ≡ Some it → targets it ≡ to ∷ [] → BelowTo step to
        → (c : ℕ) → InAim (Linked sets) (aim_to (length p.cells + t * step) to) c ↔ Names p (record { thread = t; index = i }) c
    target_same t i it to is has low c =
        let a = aimed t to low c in
        let b = one_target (λ x. MayName p (place t x) c) to in
        rw is (rw has (λ h. b.1 (a.0 h), λ n. a.1 (b.0 n)))

    no_target : (t i : ℕ) (it : Instr) → instr_at p t i ≡ Some it → targets it ≡ [] → (c : ℕ) → ⊥ ↔ Names p (record { thread = t; index = i }) c
    no_target t i it is has c = rw is (rw has (λ h. absurd h, λ n. absurd (let small = n.1.1 in omega arith)))

    instr_same : (t i : ℕ) (thread : Thread) (it : Instr) → slice_get p.threads t ≡ Some thread → IsInstrIn p thread it → instr_at p t i ≡ Some it
        → (c : ℕ) → IsTargeted (Linked sets) (length p.cells + t * step) it c ↔ Names p (record { thread = t; index = i }) c
    instr_same t i thread (instr.Load l to) runs is at = target_same t i (instr.Load l to) to at refl (to_below t thread to runs is.1)
    instr_same t i thread (instr.Store to e) runs is at = target_same t i (instr.Store to e) to at refl (to_below t thread to runs is.0)
    instr_same t i thread (instr.Add l to e) runs is at = target_same t i (instr.Add l to e) to at refl (to_below t thread to runs is.1)
    instr_same t i thread (instr.Cas l to e f) runs is at = target_same t i (instr.Cas l to e f) to at refl (to_below t thread to runs is.1)
    instr_same t i thread (instr.Set l e) runs is at = no_target t i (instr.Set l e) at refl
    instr_same t i thread (instr.Input l) runs is at = no_target t i (instr.Input l) at refl
    instr_same t i thread (instr.Jump k) runs is at = no_target t i (instr.Jump k) at refl
    instr_same t i thread (instr.Branch e k) runs is at = no_target t i (instr.Branch e k) at refl
    instr_same t i thread (instr.Assert e n) runs is at = no_target t i (instr.Assert e n) at refl
    instr_same t i thread (instr.Assume e) runs is at = no_target t i (instr.Assume e) at refl
    instr_same t i thread instr.Fence runs is at = no_target t i instr.Fence at refl
    instr_same t i thread (instr.Lock m) runs is at = no_target t i (instr.Lock m) at refl
    instr_same t i thread (instr.Unlock m) runs is at = no_target t i (instr.Unlock m) at refl
    instr_same t i thread (instr.Start u) runs is at = no_target t i (instr.Start u) at refl
    instr_same t i thread (instr.Join u) runs is at = no_target t i (instr.Join u) at refl
    instr_same t i thread instr.AtomBegin runs is at = no_target t i instr.AtomBegin at refl
    instr_same t i thread instr.AtomEnd runs is at = no_target t i instr.AtomEnd at refl
    instr_same t i thread instr.End runs is at = no_target t i instr.End at refl

    cells_same : (N M : ℕ → Type 0) (cells : List ℕ) → ((c : ℕ) → N c ↔ M c) → AreCells N cells → AreCells M cells
    cells_same N M cells same are = record {
      ordered = are.ordered;
      each = λ c. let a = are.each c in let b = same c in (λ h. b.0 (a.0 h), λ m. a.1 (b.1 m));
    }

    -- what is listed for an instruction is what its access may be to
    pub listed_cells : (table : List (List (List ℕ)))
        → ((t : ℕ) → IfSome (slice_get p.threads t) (λ thread. AreListed (Linked sets) (length p.cells + t * step) thread.code (length thread.code) (slice_index_or table t [])))
        → (s : Spot) (it : Instr) → instr_at p s.thread s.index ≡ Some it → AreCells (Names p s) (slice_index_or (slice_index_or table s.thread []) s.index [])
    listed_cells table lists s it is =
        let at = of_thread p valid s.thread s.index it is in
        let row : List (List ℕ) = slice_index_or table s.thread [] in
        let listed : AreListed (Linked sets) (length p.cells + s.thread * step) at.thread.code (length at.thread.code) row = rw at.runs at (lists s.thread) in
        let cells : AreCells (IsTargeted (Linked sets) (length p.cells + s.thread * step) it) (slice_index_or row s.index []) = rw at.stands at (listed.each s.index (slice_get_within at.thread.code s.index it at.stands)) in
        cells_same (IsTargeted (Linked sets) (length p.cells + s.thread * step) it) (Names p s) (slice_index_or row s.index []) (instr_same s.thread s.index at.thread it at.runs at.is is) cells

    pub listed_sizes : (table : List (List (List ℕ)))
        → ((t : ℕ) → IfSome (slice_get p.threads t) (λ thread. AreListed (Linked sets) (length p.cells + t * step) thread.code (length thread.code) (slice_index_or table t [])))
        → (t : ℕ) (thread : Thread) → slice_get p.threads t ≡ Some thread → length (slice_index_or table t []) ≡ length thread.code
    listed_sizes table lists t thread runs =
        let listed : AreListed (Linked sets) (length p.cells + t * step) thread.code (length thread.code) (slice_index_or table t []) = rw runs at (lists t) in
        listed.size
