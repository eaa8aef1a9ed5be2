-- Which cells may be named is decided: the facts that the program's rules may give are finitely many.
use Rattle.std.proofs.Common.{◌≡◌, ℕ, zero, suc, ◌+◌, ◌<◌, ◌≤◌, Bool, true, List, [], ◌∷◌, ◌++◌, length, inl, inr, refl, sym, ap, Some, arith, subst}
use Rattle.std.proofs.lemmas.Bool.{cases_eq, cases_lt}
use Rattle.std.proofs.lemmas.Option.{slice_get_within}
use Rattle.std.specs.Prelude.{◌⊎◌, IsSomeAnd, slice_get}
use Rattle.mm_goto.specs.declared.pure.Pure.{Pure}
use Rattle.mm_goto.specs.declared.program.Cell.{Cell}
use Rattle.mm_goto.specs.declared.program.Thread.{Thread}
use Rattle.mm_goto.specs.declared.program.Target.{Target}
use Rattle.mm_goto.specs.declared.program.Target.TheVariants as target
use Rattle.mm_goto.specs.declared.program.Instr.{Instr}
use Rattle.mm_goto.specs.declared.program.Instr.TheVariants as instr
use Rattle.mm_goto.specs.Listing.{Listing}
use Rattle.mm_goto.specs.declared.row.Row.{Row}
use Rattle.mm_goto.specs.PointsTo.{MayName, Holder, local, cell, expr, place, address, copy, itself, element, behind, start, set, load, store, aims_of, element_row, IsInRow, HoldsPointer, instr_at}
use Rattle.mm_goto.specs.Valid.{code_of}
use Rattle.mm_points.proofs.Derived.{stands_at}
use Rattle.mm_decided.proofs.Deciding.{Decided, as_well, both, all_three, either, SomeBelow, some_below, some_and, and_some, of_option, SomeAt, some_at, bool_true, total, total_above}
use Rattle.mm_decided.proofs.Saturating as saturating
use Rattle.mm_decided.proofs.Saturating.{In}

-- ---- facts

-- a local of a thread or a cell may name a cell: 0 and the cell, or the thread's number plus 1 and the local
pub record Fact : Type 0 where
  pub who : ℕ
  pub which : ℕ
  pub names : ℕ

abbrev fact : ℕ → ℕ → ℕ → Fact
fact w l c = record { who = w; which = l; names = c }

same_facts : (v w k l c d : ℕ) → v ≡ w → k ≡ l → c ≡ d → fact v k c ≡ fact w l d
same_facts v w k l c d e f g = cc

pub alike : (a b : Fact) → Decided (a ≡ b)
alike a b = elim (cases_eq a.who b.who) [
  | inr other ↦ inr (λ e. other (ap (λ f. f.who) e))
  | inl e ↦ elim (cases_eq a.which b.which) [
    | inr other ↦ inr (λ g. other (ap (λ f. f.which) g))
    | inl f ↦ elim (cases_eq a.names b.names) [
      | inr other ↦ inr (λ g. other (ap (λ f. f.names) g))
      | inl g ↦ inl (same_facts a.who b.who a.which b.which a.names b.names e f g)
    ]
  ]
]

abbrev over_cells : ℕ → ℕ → ℕ → List Fact
over_cells w l zero = []
over_cells w l (suc c) = fact w l c ∷ over_cells w l c

abbrev over_locals : ℕ → ℕ → ℕ → List Fact
over_locals w zero n = []
over_locals w (suc l) n = over_cells w l n ++ over_locals w l n

abbrev all_facts : ℕ → ℕ → ℕ → List Fact
all_facts zero m n = []
all_facts (suc w) m n = over_locals w m n ++ all_facts w m n

in_left : {A : Type 0} (xs ys : List A) (x : A) → In xs x → In (xs ++ ys) x
in_left [] ys x h = absurd h
in_left (z ∷ xs) ys x h = elim h [ inl e ↦ inl e | inr later ↦ inr (in_left xs ys x later) ]

in_right : {A : Type 0} (xs ys : List A) (x : A) → In ys x → In (xs ++ ys) x
in_right [] ys x h = h
in_right (z ∷ xs) ys x h = inr (in_right xs ys x h)

in_cells : (w l n c : ℕ) → c < n → In (over_cells w l n) (fact w l c)
in_cells w l zero c low = absurd (omega arith)
in_cells w l (suc n) c low = elim (cases_eq c n) [ inl e ↦ inl (same_facts w w l l c n refl refl e) | inr other ↦ inr (in_cells w l n c (omega arith)) ]

in_locals : (w m n l c : ℕ) → l < m → c < n → In (over_locals w m n) (fact w l c)
in_locals w zero n l c small low = absurd (omega arith)
in_locals w (suc m) n l c small low = elim (cases_eq l m) [
  | inl e ↦ in_left (over_cells w m n) (over_locals w m n) (fact w l c) (let P : ℕ → Type 0 = λ k. In (over_cells w m n) (fact w k c) in subst P (sym e) (in_cells w m n c low))
  | inr other ↦ in_right (over_cells w m n) (over_locals w m n) (fact w l c) (in_locals w m n l c (omega arith) low)
]

in_facts : (t m n w l c : ℕ) → w < t → l < m → c < n → In (all_facts t m n) (fact w l c)
in_facts zero m n w l c few small low = absurd (omega arith)
in_facts (suc t) m n w l c few small low = elim (cases_eq w t) [
  | inl e ↦ in_left (over_locals t m n) (all_facts t m n) (fact w l c) (let P : ℕ → Type 0 = λ v. In (over_locals t m n) (fact v l c) in subst P (sym e) (in_locals t m n l c small low))
  | inr other ↦ in_right (over_locals t m n) (all_facts t m n) (fact w l c) (in_facts t m n w l c (omega arith) small low)
]

-- ---- bounds

abbrev pub ends : Pure → ℕ
ends e = total (λ row. row.first + row.len) (aims_of e).rows

abbrev set_ends : Instr → ℕ
set_ends (instr.Set l e) = ends e
set_ends (instr.Store to e) = ends e
set_ends it = 0

abbrev set_local : Instr → ℕ
set_local (instr.Set l e) = l + 1
set_local (instr.Load l to) = l + 1
set_local it = 0

abbrev pub target_ends : Target → ℕ
target_ends (target.Cell c) = c + 1
target_ends (target.Elem first len index) = (element_row first len (aims_of index).constant).first + (element_row first len (aims_of index).constant).len
target_ends (target.Deref e) = ends e

in_code : (Instr → ℕ) → Thread → ℕ
in_code f thread = total f thread.code

module _ (p : Listing) where
  in_program : (Instr → ℕ) → ℕ
  in_program f = total (in_code f) p.threads

  at_instr : (f : Instr → ℕ) (t i : ℕ) (it : Instr) → instr_at p t i ≡ Some it → f it ≤ in_program f
  unfolding in_program in_code
  at_instr f t i it is =
      let at = stands_at p t i it is in
      let a : f it ≤ total f at.thread.code = total_above f at.thread.code i it at.stands in
      let b : total f at.thread.code ≤ total (in_code f) p.threads = total_above (in_code f) p.threads t at.thread at.runs in
      omega arith

  of_thread : (t i : ℕ) (it : Instr) → instr_at p t i ≡ Some it → t < length p.threads
  of_thread t i it is = let at = stands_at p t i it is in slice_get_within p.threads t at.thread at.runs

  pointer_within : (k : ℕ) → HoldsPointer p k → k < length p.cells
  pointer_within k h = let at = some_and (slice_get p.cells k) (λ cell. cell.pointer ≡ true) h in slice_get_within p.cells k at.0 at.1

  in_starts : ℕ
  in_starts = total (λ of. ends of.init) p.cells

  pub most_cells : ℕ
  most_cells = in_starts + in_program set_ends

  abbrev pub Below : Holder → ℕ → Type 0
  Below (local t l) c = c < most_cells
  Below (cell k) c = c < most_cells
  Below (expr t e) c = (c < most_cells) ⊎ (c < ends e)
  Below (place t to) c = (c < most_cells) ⊎ (c < target_ends to)

  start_below : (k : ℕ) (of : Cell) (c : ℕ) → slice_get p.cells k ≡ Some of → (c < most_cells) ⊎ (c < ends of.init) → c < most_cells
  unfolding most_cells in_starts
  start_below k of c is low = let all = total_above (λ (of : Cell). ends of.init) p.cells k of is in elim low [ inl h ↦ h | inr h ↦ omega arith ]

  set_below : (t i : ℕ) (it : Instr) (e : Pure) (c : ℕ) → instr_at p t i ≡ Some it → set_ends it ≡ ends e → (c < most_cells) ⊎ (c < ends e) → c < most_cells
  unfolding most_cells
  set_below t i it e c is same low = let all = at_instr set_ends t i it is in elim low [ inl h ↦ h | inr h ↦ omega arith ]

  pub named_below : (v : Holder) (c : ℕ) → MayName p v c → Below v c
  named_below (expr t e) c (address k row is within) = let all = total_above (λ (row : Row). row.first + row.len) (aims_of e).rows k row is in inr (omega (arith, within.1))
  named_below (expr t e) c (copy k l is may) = inl (named_below (local t l) c may)
  named_below (place t _) c itself = inr (omega arith)
  named_below (place t (target.Elem first len index)) c (element within) = inr (omega (arith, within.1))
  named_below (place t (target.Deref e)) c (behind may) = named_below (expr t e) c may
  named_below (cell k) c (start of is may) = start_below k of c is (named_below (expr 0 of.init) c may)
  named_below (local t l) c (set i e is may) = set_below t i (instr.Set l e) e c is refl (named_below (expr t e) c may)
  named_below (local t l) c (load i to k is names pointer may) = named_below (cell k) c may
  named_below (cell k) c (store t i to e is names pointer may) = set_below t i (instr.Store to e) e c is refl (named_below (expr t e) c may)

  -- ---- the rules, over a set of facts

  abbrev Has : (Fact → Bool) → ℕ → ℕ → ℕ → Type 0
  Has have w l c = have (fact w l c) ≡ true

  abbrev ExprBy : (Fact → Bool) → ℕ → Pure → ℕ → Type 0
  ExprBy have t e c = SomeAt (aims_of e).rows (λ row. IsInRow row c) ⊎ SomeAt (aims_of e).locals (λ l. Has have (suc t) l c)

  abbrev PlaceBy : (Fact → Bool) → ℕ → Target → ℕ → Type 0
  PlaceBy have t (target.Cell x) c = x ≡ c
  PlaceBy have t (target.Elem first len index) c = IsInRow (element_row first len (aims_of index).constant) c
  PlaceBy have t (target.Deref e) c = ExprBy have t e c

  abbrev LoadBy : (Fact → Bool) → ℕ → Target → ℕ → ℕ → Type 0
  LoadBy have t to c k = PlaceBy have t to k × HoldsPointer p k × Has have 0 k c

  abbrev LocalBy : (Fact → Bool) → ℕ → ℕ → ℕ → Instr → Type 0
  LocalBy have t l c (instr.Set m e) = (m ≡ l) × ExprBy have t e c
  LocalBy have t l c (instr.Load m to) = (m ≡ l) × SomeBelow (LoadBy have t to c) (length p.cells)
  LocalBy have t l c it = ⊥

  abbrev CellBy : (Fact → Bool) → ℕ → ℕ → ℕ → Instr → Type 0
  CellBy have k c t (instr.Store to e) = PlaceBy have t to k × HoldsPointer p k × ExprBy have t e c
  CellBy have k c t it = ⊥

  abbrev HolderBy : (Fact → Bool) → ℕ → ℕ → ℕ → Type 0
  HolderBy have zero k c = IsSomeAnd (slice_get p.cells k) (λ of. ExprBy have 0 of.init c) ⊎ SomeBelow (λ t. SomeAt (code_of p t) (CellBy have k c t)) (length p.threads)
  HolderBy have (suc t) l c = SomeAt (code_of p t) (LocalBy have t l c)

  -- ---- each rule is decided

  in_row : (row : Row) (c : ℕ) → Decided (IsInRow row c)
  in_row row c = both (elim (cases_lt c row.first) [ inl h ↦ inr (λ g. omega arith) | inr h ↦ inl (omega arith) ]) (elim (cases_lt c (row.first + row.len)) [ inl h ↦ inl h | inr h ↦ inr (λ g. omega arith) ])

  expr_by : (have : Fact → Bool) (t : ℕ) (e : Pure) (c : ℕ) → Decided (ExprBy have t e c)
  expr_by have t e c = either (some_at (aims_of e).rows (λ row. IsInRow row c) (λ row. in_row row c))
      (some_at (aims_of e).locals (λ l. Has have (suc t) l c) (λ l. bool_true (have (fact (suc t) l c))))

  place_by : (have : Fact → Bool) (t : ℕ) (to : Target) (c : ℕ) → Decided (PlaceBy have t to c)
  place_by have t (target.Cell x) c = cases_eq x c
  place_by have t (target.Elem first len index) c = in_row (element_row first len (aims_of index).constant) c
  place_by have t (target.Deref e) c = expr_by have t e c

  holds_pointer : (k : ℕ) → Decided (HoldsPointer p k)
  holds_pointer k = of_option (slice_get p.cells k) (λ cell. cell.pointer ≡ true) (λ (cell : Cell). bool_true cell.pointer)

  load_by : (have : Fact → Bool) (t : ℕ) (to : Target) (c k : ℕ) → Decided (LoadBy have t to c k)
  load_by have t to c k = all_three (place_by have t to k) (holds_pointer k) (bool_true (have (fact 0 k c)))

  local_by : (have : Fact → Bool) (t l c : ℕ) (it : Instr) → Decided (LocalBy have t l c it)
  local_by have t l c (instr.Set m e) = both (cases_eq m l) (expr_by have t e c)
  local_by have t l c (instr.Load m to) = both (cases_eq m l) (some_below (LoadBy have t to c) (load_by have t to c) (length p.cells))
  local_by have t l c _ = inr (λ h. h)

  cell_by : (have : Fact → Bool) (k c t : ℕ) (it : Instr) → Decided (CellBy have k c t it)
  cell_by have k c t (instr.Store to e) = all_three (place_by have t to k) (holds_pointer k) (expr_by have t e c)
  cell_by have k c t _ = inr (λ h. h)

  holder_by : (have : Fact → Bool) (w l c : ℕ) → Decided (HolderBy have w l c)
  holder_by have zero k c = either (of_option (slice_get p.cells k) (λ of. ExprBy have 0 of.init c) (λ (of : Cell). expr_by have 0 of.init c))
      (some_below (λ t. SomeAt (code_of p t) (CellBy have k c t)) (λ t. some_at (code_of p t) (CellBy have k c t) (cell_by have k c t)) (length p.threads))
  holder_by have (suc t) l c = some_at (code_of p t) (LocalBy have t l c) (local_by have t l c)

  -- ---- what the rules give may be named

  abbrev holder_of : ℕ → ℕ → Holder
  holder_of zero k = cell k
  holder_of (suc t) l = local t l

  abbrev Holds : Fact → Type 0
  Holds f = MayName p (holder_of f.who f.which) f.names

  module _ (have : Fact → Bool) (true_of : (f : Fact) → have f ≡ true → Holds f) where
    expr_may : (t : ℕ) (e : Pure) (c : ℕ) → ExprBy have t e c → MayName p (expr t e) c
    expr_may t e c by = elim by [
      | inl r ↦ let at = some_and (slice_get (aims_of e).rows r.0) (λ row. IsInRow row c) r.1 in address r.0 at.0 at.1 at.2
      | inr r ↦ let at = some_and (slice_get (aims_of e).locals r.0) (λ l. Has have (suc t) l c) r.1 in copy r.0 at.0 at.1 (true_of (fact (suc t) at.0 c) at.2)
    ]

    place_may : (t : ℕ) (to : Target) (c : ℕ) → PlaceBy have t to c → MayName p (place t to) c
    place_may t (target.Cell x) c by = let P : ℕ → Type 0 = λ y. MayName p (place t (target.Cell x)) y in subst P by itself
    place_may t (target.Elem first len index) c by = element by
    place_may t (target.Deref e) c by = behind (expr_may t e c by)

    local_may : (t l c i : ℕ) (it : Instr) → instr_at p t i ≡ Some it → LocalBy have t l c it → MayName p (local t l) c
    local_may t l c i (instr.Set m e) is by = let P : ℕ → Type 0 = λ n. MayName p (local t n) c in subst P by.0 (set i e is (expr_may t e c by.1))
    local_may t l c i (instr.Load m to) is by =
        let P : ℕ → Type 0 = λ n. MayName p (local t n) c in
        let k = by.1.0 in
        let h = by.1.2 in
        subst P by.0 (load i to k is (place_may t to k h.0) h.1 (true_of (fact 0 k c) h.2))
    local_may t l c i _ is by = absurd by

    cell_may : (k c t i : ℕ) (it : Instr) → instr_at p t i ≡ Some it → CellBy have k c t it → MayName p (cell k) c
    cell_may k c t i (instr.Store to e) is by = store t i to e is (place_may t to k by.0) by.1 (expr_may t e c by.2)
    cell_may k c t i _ is by = absurd by

    holder_may : (w l c : ℕ) → HolderBy have w l c → MayName p (holder_of w l) c
    holder_may zero k c by = elim by [
      | inl r ↦ let at = some_and (slice_get p.cells k) (λ of. ExprBy have 0 of.init c) r in start at.0 at.1 (expr_may 0 at.0.init c at.2)
      | inr r ↦
          let t = r.0 in
          let i = r.2.0 in
          let at = some_and (instr_at p t i) (CellBy have k c t) r.2.1 in
          cell_may k c t i at.0 at.1 at.2
    ]
    holder_may (suc t) l c by = let at = some_and (instr_at p t by.0) (LocalBy have t l c) by.1 in local_may t l c by.0 at.0 at.1 at.2

  -- ---- what may be named is among the facts

  most_locals : ℕ
  most_locals = length p.cells + in_program set_local

  abbrev program_facts : List Fact
  program_facts = all_facts (suc (length p.threads)) most_locals most_cells

  abbrev Step : (Fact → Bool) → Fact → Type 0
  Step have f = HolderBy have f.who f.which f.names

  abbrev Closed : Type 0
  Closed = saturating.Closed Fact alike program_facts Holds Step (λ have f. holder_by have f.who f.which f.names) (λ have true_of f by. holder_may have true_of f.who f.which f.names by)

  closed : Closed
  closed = saturating.saturated Fact alike program_facts Holds Step (λ have f. holder_by have f.who f.which f.names) (λ have true_of f by. holder_may have true_of f.who f.which f.names by)

  cell_among : (k c : ℕ) → k < length p.cells → c < most_cells → In program_facts (fact 0 k c)
  unfolding most_locals
  cell_among k c within low = in_facts (suc (length p.threads)) (length p.cells + in_program set_local) most_cells 0 k c (omega arith) (omega arith) low

  local_among : (t i l c : ℕ) (it : Instr) → instr_at p t i ≡ Some it → set_local it ≡ l + 1 → c < most_cells → In program_facts (fact (suc t) l c)
  unfolding most_locals
  local_among t i l c it is same low =
      let few = of_thread t i it is in
      let all = at_instr set_local t i it is in
      in_facts (suc (length p.threads)) (length p.cells + in_program set_local) most_cells (suc t) l c (omega arith) (omega arith) low

  abbrev InSet : Holder → ℕ → Type 0
  InSet (local t l) c = Has closed.set (suc t) l c
  InSet (cell k) c = Has closed.set 0 k c
  InSet (expr t e) c = ExprBy closed.set t e c
  InSet (place t to) c = PlaceBy closed.set t to c

  may_set : (v : Holder) (c : ℕ) → MayName p v c → InSet v c
  may_set (expr t e) c (address k row is within) = inl (k, and_some (slice_get (aims_of e).rows k) (λ row. IsInRow row c) row is within)
  may_set (expr t e) c (copy k l is may) = inr (k, and_some (slice_get (aims_of e).locals k) (λ l. Has closed.set (suc t) l c) l is (may_set (local t l) c may))
  may_set (place t _) c itself = refl
  may_set (place t (target.Elem first len index)) c (element within) = within
  may_set (place t (target.Deref e)) c (behind may) = may_set (expr t e) c may
  may_set (cell k) c (start of is may) =
      closed.closed (fact 0 k c) (cell_among k c (slice_get_within p.cells k of is) (named_below (cell k) c (start of is may)))
      (inl (and_some (slice_get p.cells k) (λ of. ExprBy closed.set 0 of.init c) of is (may_set (expr 0 of.init) c may)))
  may_set (local t l) c (set i e is may) =
      closed.closed (fact (suc t) l c) (local_among t i l c (instr.Set l e) is refl (named_below (local t l) c (set i e is may)))
      (i, and_some (instr_at p t i) (LocalBy closed.set t l c) (instr.Set l e) is (refl, may_set (expr t e) c may))
  may_set (local t l) c (load i to k is names pointer may) =
      closed.closed (fact (suc t) l c) (local_among t i l c (instr.Load l to) is refl (named_below (cell k) c may))
      (i, and_some (instr_at p t i) (LocalBy closed.set t l c) (instr.Load l to) is (refl, (k, pointer_within k pointer, (may_set (place t to) k names, pointer, may_set (cell k) c may))))
  may_set (cell k) c (store t i to e is names pointer may) =
      closed.closed (fact 0 k c) (cell_among k c (pointer_within k pointer) (named_below (cell k) c (store t i to e is names pointer may)))
      (inr (t, of_thread t i (instr.Store to e) is, (i, and_some (instr_at p t i) (CellBy closed.set k c t) (instr.Store to e) is (may_set (place t to) k names, pointer, may_set (expr t e) c may))))

  pub place_decided : (t : ℕ) (to : Target) (c : ℕ) → Decided (MayName p (place t to) c)
  place_decided t to c = as_well (place_may closed.set closed.holds t to c) (may_set (place t to) c) (place_by closed.set t to c)
