-- A valid program has a plan: what a plan says is decided of each instruction and each cell.
use Rattle.std.proofs.Common.{◌≡◌, ◌∙◌, ℕ, ◌+◌, ◌<◌, ◌≤◌, Bool, true, false, List, [], ◌∷◌, length, inl, inr, arith, refl, sym, subst, Some}
use Rattle.std.specs.Prelude.{◌↔◌, ◌⊎◌, IsTrue, IsSomeAnd, slice_get, slice_index_or}
use Rattle.std.specs.List.{Contains}
use Rattle.std.proofs.lemmas.Bool.{cases_eq, cases_lt, true≢false}
use Rattle.std.proofs.lemmas.Option.{slice_get_within}
use Rattle.mm_goto.specs.Bounds.{Bounding}
use Rattle.mm_goto.specs.DelayCycles.{HasDelayCycle}
use Rattle.mm_goto.specs.declared.model.Model.{Model}
use Rattle.mm_goto.specs.declared.model.Model.TheVariants.{Tso, Pso}
use Rattle.mm_goto.specs.declared.program.Cell.{Cell}
use Rattle.mm_goto.specs.declared.program.Instr.{Instr}
use Rattle.mm_goto.specs.declared.program.Instr.TheVariants as i
use Rattle.mm_goto.specs.declared.program.Thread.{Thread}
use Rattle.mm_goto.specs.declared.pure.Pure.{Pure}
use Rattle.mm_goto.specs.declared.row.Row.{Row as CellRow}
use Rattle.mm_goto.specs.declared.shape.Head.{Head}
use Rattle.mm_goto.specs.declared.shape.Shape.{Shape}
use Rattle.mm_goto.specs.declared.spot.Spot.{Spot}
use Rattle.mm_goto.specs.Listing.{Listing}
use Rattle.mm_goto.specs.PointsTo.{IsInRow, aims_of, instr_at}
use Rattle.mm_goto.specs.Shapes.{AreOfOneName, Fits, IsAddressed, IsBuffered, IsFlushPoint, IsMoved, IsThreadBuffered, NamesBuffered, TakesAddress, flag_at}
use Rattle.mm_goto.specs.Sites.{Names, is_site, sites}
use Rattle.mm_goto.specs.Sourcelike.{exprs_of}
use Rattle.mm_goto.specs.Valid.{IsValid, IsThreadIn}
use Rattle.mm_graph.proofs.Pairs.{site_is}
use Rattle.mm_points.proofs.Derived.{stands_at}
use Rattle.mm_points.proofs.InRange.{all_at}
use Rattle.mm_points.proofs.Lists.{same_some}
use Rattle.mm_decided.proofs.Cells.{cells_listed, names_decided}
use Rattle.mm_decided.proofs.Deciding.{Decided, SomeBelow, and_some, as_well, at_contained, bool_true, both, contained_at, either, of_option, some_and, some_at, some_below}
use Rattle.mm_delay.specs.Plans.{IsDelayed, IsPlanOf}
use Rattle.mm_delay.specs.reading.Addressed.{InCode, InExprs}
use Rattle.mm_delay.proofs.Fitting.{delayed_store, have_flags}
use Rattle.mm_delay.proofs.Pushing.{past_end}
use Rattle.mm_delay.proofs.Standing.{addressed_is}
use Rattle.mm_planned.proofs.Rows.{AtInstr, Row, Table, row, table}
use Rattle.mm_planned.proofs.SomeHead.{HasPlaces, a_head, cycle_decided}

-- ---- deciding

same_number : (a b : ℕ) → Decided (a ≡ b)
same_number a b = elim (cases_eq a b) [ inl e ↦ inl e | inr other ↦ inr other ]

less : (a b : ℕ) → Decided (a < b)
less a b = elim (cases_lt a b) [ inl h ↦ inl h | inr more ↦ inr (λ h. absurd (omega (arith, h, more))) ]

up_to : (a b : ℕ) → Decided (a ≤ b)
up_to a b = elim (cases_lt b a) [ inl more ↦ inr (λ h. absurd (omega (arith, h, more))) | inr h ↦ inl h ]

same_name : (xs ys : List ℕ) → Decided (xs ≡ ys)
same_name [] [] = inl refl
same_name [] (y ∷ ys) = inr (λ e. absurd cc)
same_name (x ∷ xs) [] = inr (λ e. absurd cc)
same_name (x ∷ xs) (y ∷ ys) = as_well (λ h. λ z. h.0 z ∷ h.1 z) (λ e. (let f : x ≡ y = cc in f, let g : xs ≡ ys = cc in g)) (both (same_number x y) (same_name xs ys))

same_model : (m : Model) → Decided (m ≡ Tso)
same_model Tso = inl refl
same_model Pso = inr (λ e. absurd cc)

-- something stands in the list, of which it holds
at_some : {X : Type 0} (xs : List X) (P : X → Type 0) → ((x : X) → Decided (P x)) → Decided ((k : ℕ) × (x : X) × (slice_get xs k ≡ Some x) × P x)
at_some xs P decided = as_well
    (λ h. let x = some_and (slice_get xs h.0) P h.1 in (h.0, x.0, x.1, x.2))
    (λ h. (h.0, and_some (slice_get xs h.0) P h.1 h.2 h.3))
    (some_at xs P decided)

has_some : {X : Type 0} (xs : List X) (P : X → Type 0) → ((x : X) → Decided (P x)) → Decided ((x : X) × Contains xs x × P x)
has_some xs P decided = as_well (λ h. contained_at xs P h) (λ h. at_contained xs P h.0 h.1 h.2) (some_at xs P decided)

-- ---- addresses

takes_address : (c : ℕ) (e : Pure) → Decided (TakesAddress c e)
takes_address c e = has_some (aims_of e).rows (λ (r : CellRow). IsInRow r c) (λ r. both (up_to r.first c) (less c (r.first + r.len)))

in_exprs : (c : ℕ) (es : List Pure) → Decided (InExprs es c)
in_exprs c es = has_some es (λ e. TakesAddress c e) (takes_address c)

in_code : (c : ℕ) (code : List Instr) → Decided (InCode code c)
in_code c code = at_some code (λ it. InExprs (exprs_of it) c) (λ it. in_exprs c (exprs_of it))

addressed : (p : Listing) (c : ℕ) → Decided (IsAddressed p c)
addressed p c = as_well (λ h. (addressed_is p c).1 h) (λ h. (addressed_is p c).0 h)
    (either (at_some p.threads (λ (t : Thread). InCode t.code c) (λ t. in_code c t.code)) (at_some p.cells (λ (x : Cell). TakesAddress c x.init) (λ x. takes_address c x.init)))

-- ---- buffered stores

module _ (p : Listing) (m : Model) where
  delayed : (t k : ℕ) → Decided (IsDelayed p m t k)
  delayed t k = as_well
      (λ h. (h.0, h.2.0, h.2.1))
      (λ h. (h.0, (let x = some_and (slice_get (sites p) h.0) (λ x. (x.thread ≡ t) × (x.index ≡ k)) h.1 in slice_get_within (sites p) h.0 x.0 x.1), (h.1, h.2)))
      (some_below (λ s. IsSomeAnd (slice_get (sites p) s) (λ x. (x.thread ≡ t) × (x.index ≡ k)) × HasDelayCycle p m s)
      (λ s. both (of_option (slice_get (sites p) s) (λ x. (x.thread ≡ t) × (x.index ≡ k)) (λ x. both (same_number x.thread t) (same_number x.index k))) (cycle_decided p m s))
      (length (sites p)))

  -- where a store that has a delay cycle stands there is an instruction
  delayed_stands : (t k : ℕ) → IsDelayed p m t k → AtInstr p.threads (IsDelayed p m) t k
  delayed_stands t k h =
      let x = some_and (slice_get (sites p) h.0) (λ x. (x.thread ≡ t) × (x.index ≡ k)) h.1 in
      let it = some_and (instr_at p x.0.thread x.0.index) (λ it. is_site it ≡ true) (site_is p h.0 x.0 x.1) in
      let at = stands_at p x.0.thread x.0.index it.0 it.1 in
      (at.thread, subst (λ t. slice_get p.threads t ≡ Some at.thread) x.2.0 at.runs, subst (λ k. k < length at.thread.code) x.2.1 (slice_get_within at.thread.code x.0.index it.0 at.stands), h)

-- ---- what follows of the buffered stores

module _ (p : Listing) (rows : List (List Bool)) where
  raised_below : (t k : ℕ) → IsTrue (flag_at rows t k) → (t < length rows) × (k < length (slice_index_or rows t []))
  raised_below t k up = (
    elim (cases_lt t (length rows)) [
      | inl small ↦ small
      | inr past ↦ absurd (none k (subst (λ (r : List Bool). IsTrue (slice_index_or r k false)) (past_end rows t [] past) up))
    ],
    elim (cases_lt k (length (slice_index_or rows t []))) [
      | inl small ↦ small
      | inr past ↦ absurd (true≢false (sym up ∙ past_end (slice_index_or rows t []) k false past))
    ],
  )
    where
      none : (k : ℕ) → IsTrue (slice_index_or [] k false) → ⊥
      none k up = true≢false (sym up)

  thread_buffered : (t : ℕ) → Decided (IsThreadBuffered rows t)
  thread_buffered t = as_well (λ h. (h.0, h.2)) (λ h. (h.0, (raised_below t h.0 h.1).1, h.1))
      (some_below (λ k. IsTrue (flag_at rows t k)) (λ k. bool_true (flag_at rows t k)) (length (slice_index_or rows t [])))

  buffered : (c : ℕ) → Decided (IsBuffered p rows c)
  buffered c = as_well
      (λ h. record { t = h.0; k = h.2.0; flag = h.2.2.0; names = h.2.2.1 })
      (λ b. (b.t, (raised_below b.t b.k b.flag).0, (b.k, (raised_below b.t b.k b.flag).1, (b.flag, b.names))))
      (some_below (λ t. SomeBelow (λ k. IsTrue (flag_at rows t k) × Names p (record { thread = t; index = k }) c) (length (slice_index_or rows t [])))
      (λ t. some_below (λ k. IsTrue (flag_at rows t k) × Names p (record { thread = t; index = k }) c)
      (λ k. both (bool_true (flag_at rows t k)) (names_decided p (record { thread = t; index = k }) c)) (length (slice_index_or rows t [])))
      (length rows))

  names_buffered : (s : Spot) → Decided (NamesBuffered p rows s)
  names_buffered s =
      let cells = cells_listed p s in
      as_well (λ h. (h.0, (cells.2 h.0).0 h.1, h.2)) (λ h. (h.0, (cells.2 h.0).1 h.1, h.2)) (has_some cells.0 (IsBuffered p rows) buffered)

  of_one_name : (c d : ℕ) → Decided (AreOfOneName p c d)
  of_one_name c d = of_option (slice_get p.cells c) (λ x. IsSomeAnd (slice_get p.cells d) (λ y. x.name ≡ y.name))
      (λ x. of_option (slice_get p.cells d) (λ y. x.name ≡ y.name) (λ y. same_name x.name y.name))

  -- the two cells are there
  there_are : (c d : ℕ) → AreOfOneName p c d → (c < length p.cells) × (d < length p.cells)
  there_are c d h =
      let x = some_and (slice_get p.cells c) (λ x. IsSomeAnd (slice_get p.cells d) (λ y. x.name ≡ y.name)) h in
      let y = some_and (slice_get p.cells d) (λ y. x.0.name ≡ y.name) x.2 in
      (slice_get_within p.cells c x.0 x.1, slice_get_within p.cells d y.0 y.1)

  moves : (c : ℕ) → Decided (IsMoved p rows c)
  moves c = as_well (λ h. (h.0, h.2.0, h.2.1)) (λ h. (h.0, (there_are c h.0 h.1).1, (h.1, h.2)))
      (some_below (λ d. AreOfOneName p c d × (IsAddressed p d ⊎ IsBuffered p rows d)) (λ d. both (of_one_name c d) (either (addressed p d) (buffered d))) (length p.cells))

  flush_point : (m : Model) (s : Spot) (it : Instr) → Decided (IsFlushPoint p m rows s it)
  flush_point m s (i.Load l to) = names_buffered s
  flush_point m s (i.Store to e) = either (bool_true (flag_at rows s.thread s.index)) (either (names_buffered s) (both (same_model m) (thread_buffered s.thread)))
  flush_point m s (i.Add l to e) = either (names_buffered s) (thread_buffered s.thread)
  flush_point m s (i.Cas l to e f) = either (names_buffered s) (thread_buffered s.thread)
  flush_point m s i.Fence = thread_buffered s.thread
  flush_point m s (i.Lock n) = thread_buffered s.thread
  flush_point m s (i.Unlock n) = thread_buffered s.thread
  flush_point m s (i.Start u) = thread_buffered s.thread
  flush_point m s (i.Join u) = either (thread_buffered s.thread) (thread_buffered u)
  flush_point m s (i.Set l e) = inr (λ h. h)
  flush_point m s (i.Input l) = inr (λ h. h)
  flush_point m s (i.Jump k) = inr (λ h. h)
  flush_point m s (i.Branch e k) = inr (λ h. h)
  flush_point m s (i.Assert e k) = inr (λ h. h)
  flush_point m s (i.Assume e) = inr (λ h. h)
  flush_point m s i.AtomBegin = inr (λ h. h)
  flush_point m s i.AtomEnd = inr (λ h. h)
  flush_point m s i.End = inr (λ h. h)

  -- some instruction stands there, before which pending stores may be flushed
  abbrev FlushesAt : Model → ℕ → ℕ → Type 0
  FlushesAt m t k = IsSomeAnd (instr_at p t k) (λ it. IsFlushPoint p m rows (record { thread = t; index = k }) it)

  flushes : (m : Model) (t k : ℕ) → Decided (FlushesAt m t k)
  flushes m t k = of_option (instr_at p t k) (λ it. IsFlushPoint p m rows (record { thread = t; index = k }) it) (flush_point m (record { thread = t; index = k }))

-- ---- the plan

-- the instructions of a valid program come from places
valid_places : (p : Listing) → IsValid p → HasPlaces p
valid_places p valid t thread is = (all_at (IsThreadIn p) p.threads valid.each_thread t thread is).places

pub a_plan : (p : Listing) (m : Model) (bound : Bounding) → IsValid p → (shape : Shape) × (head : Head) × IsPlanOf p m bound shape head
a_plan p m bound valid =
    let stores = table p.threads (IsDelayed p m) (delayed p m) in
    let moved = row (length p.cells) (IsMoved p stores.rows) (moves p stores.rows) in
    let points = table p.threads (FlushesAt p stores.rows m) (flushes p stores.rows m) in
    let head = a_head p (valid_places p valid) m bound in
    let shape : Shape = record { model = m; bound = bound; buffered = stores.rows; moved = moved.flags; points = points.rows } in
    (shape, head.0, record { shape_model = refl; shape_bound = refl; fits = fits stores moved points; buffered = buffered_are stores; head = head.1 })
  where
    buffered_are : (stores : Table (IsDelayed p m) p.threads) (t k : ℕ) → IsTrue (flag_at stores.rows t k) ↔ IsDelayed p m t k
    buffered_are stores t k = (λ up. ((stores.raised t k).0 up).3, λ h. (stores.raised t k).1 (delayed_stands p m t k h))

    points_are : (stores : Table (IsDelayed p m) p.threads) (points : Table (FlushesAt p stores.rows m) p.threads) (t k : ℕ) (it : Instr) → instr_at p t k ≡ Some it
        → IsTrue (flag_at points.rows t k) ↔ IsFlushPoint p m stores.rows (record { thread = t; index = k }) it
    points_are stores points t k it is =
        let P : Instr → Type 0 = λ it. IsFlushPoint p m stores.rows (record { thread = t; index = k }) it in
        let at = stands_at p t k it is in (
          λ up. let x = some_and (instr_at p t k) P ((points.raised t k).0 up).3 in subst P (same_some x.0 it (sym x.1 ∙ is)) x.2,
          λ h. (points.raised t k).1 (at.thread, at.runs, slice_get_within at.thread.code k it at.stands, and_some (instr_at p t k) P it is h),
        )

    fits : (stores : Table (IsDelayed p m) p.threads) (moved : Row (IsMoved p stores.rows) (length p.cells)) (points : Table (FlushesAt p stores.rows m) p.threads)
        → Fits p (record { model = m; bound = bound; buffered = stores.rows; moved = moved.flags; points = points.rows })
    fits stores moved points = record {
      buffered_flags = have_flags p stores.rows stores.size stores.each;
      moved_flags = moved.size;
      point_flags = have_flags p points.rows points.size points.each;
      stores = λ t k up. delayed_store p valid m t k ((buffered_are stores t k).0 up);
      moved = λ c. (λ up. ((moved.raised c).0 up).1, λ h. (moved.raised c).1 ((there_are p stores.rows c h.0 h.1).0, h));
      points = points_are stores points;
    }
