-- What the rules of a program hold is what may be named.
use Rattle.std.proofs.Common.{◌≡◌, ◌∙◌, ℕ, zero, suc, ◌+◌, ◌*◌, ◌<◌, Bool, List, [], ◌∷◌, length, inl, inr, refl, sym, ap, Some, None, Option, arith, subst}
use Rattle.std.proofs.lemmas.Nat.{same_from_place}
use Rattle.std.proofs.lemmas.Option.{slice_get_within, slice_get_past}
use Rattle.std.proofs.lemmas.Bool.{cases_lt}
use Rattle.std.specs.Prelude.{◌↔◌, slice_get}
use Rattle.mm_goto.specs.declared.pure.Pure.{Pure}
use Rattle.mm_goto.specs.declared.program.Cell.{Cell}
use Rattle.mm_goto.specs.declared.program.Thread.{Thread}
use Rattle.mm_goto.specs.declared.program.Target.{Target}
use Rattle.mm_goto.specs.declared.program.Target.TheVariants as target
use Rattle.mm_goto.specs.declared.program.Instr.{Instr}
use Rattle.mm_goto.specs.declared.program.Instr.TheVariants as instr
use Rattle.mm_goto.specs.Listing.{Listing}
use Rattle.mm_goto.specs.declared.row.Row.{Row}
use Rattle.mm_goto.specs.PointsTo.{MayName, Holder, local, cell, expr, place, address, copy, itself, element, behind, start, set, load, store, aims_of, element_row, IsInRow, HoldsPointer, instr_at}
use Rattle.mm_points.specs.declared.rules.Aim.{Aim}
use Rattle.mm_points.specs.declared.rules.Rule.TheVariants as rule
use Rattle.mm_points.specs.reading.Rules as rules
use Rattle.mm_points.specs.reading.Rules.{Holds, Source, holder, aim, IsPointer}
use Rattle.mm_points.specs.reading.Ruled.{aim_of, aim_to, rule_of, rules_of, Named, a_cell, a_local, BelowIn, BelowTo, BelowAt}
use Rattle.mm_points.proofs.Lists.{no_some, same_some}
use Rattle.mm_points.proofs.RulesOf.{OfCell, OfInstr, rule_from, cell_there, instr_there}

-- ---- instructions by their places

pub instr_is : (p : Listing) (t j : ℕ) (thread : Thread) (it : Instr) → slice_get p.threads t ≡ Some thread → slice_get thread.code j ≡ Some it → instr_at p t j ≡ Some it
instr_is p t j thread it runs stands = rw runs stands

pub record Stands (p : Listing) (t j : ℕ) (it : Instr) : Type 0 where
  pub thread : Thread
  pub runs : slice_get p.threads t ≡ Some thread
  pub stands : slice_get thread.code j ≡ Some it

pub stands_at : (p : Listing) (t j : ℕ) (it : Instr) → instr_at p t j ≡ Some it → Stands p t j it
stands_at p t j it is = at (slice_get p.threads t) refl
  where
    at : (o : Option Thread) → slice_get p.threads t ≡ o → Stands p t j it
    at None e = absurd (no_some it (rw e at is))
    at (Some thread) e = record { thread = thread; runs = e; stands = rw e at is }

only_one : {X : Type 0} (s : X) (k : ℕ) (x : X) → slice_get (s ∷ []) k ≡ Some x → s ≡ x
only_one s zero x is = same_some s x is
only_one s (suc k) x is = absurd (no_some x is)

-- ---- which instruction a rule is of

pub record IsSet (it : Instr) (base h : ℕ) (a : Aim) : Type 0 where
  pub l : ℕ
  pub e : Pure
  pub it_is : it ≡ instr.Set l e
  pub h_is : h ≡ base + l
  pub a_is : a ≡ aim_of base e

set_of : (it : Instr) (base h : ℕ) (a : Aim) → rule.Set h a ≡ rule_of base it → IsSet it base h a
set_of (instr.Set l e) base h a is = record { l = l; e = e; it_is = refl; h_is = cc; a_is = cc }
set_of (instr.Load l to) base h a is = absurd (cc)
set_of (instr.Store to e) base h a is = absurd (cc)
set_of _ base h a is = absurd (cc)

pub record IsLoad (it : Instr) (base h : ℕ) (a : Aim) : Type 0 where
  pub l : ℕ
  pub to : Target
  pub it_is : it ≡ instr.Load l to
  pub h_is : h ≡ base + l
  pub a_is : a ≡ aim_to base to

load_of : (it : Instr) (base h : ℕ) (a : Aim) → rule.Load h a ≡ rule_of base it → IsLoad it base h a
load_of (instr.Load l to) base h a is = record { l = l; to = to; it_is = refl; h_is = cc; a_is = cc }
load_of (instr.Set l e) base h a is = absurd (cc)
load_of (instr.Store to e) base h a is = absurd (cc)
load_of _ base h a is = absurd (cc)

pub record IsStore (it : Instr) (base : ℕ) (a b : Aim) : Type 0 where
  pub to : Target
  pub e : Pure
  pub it_is : it ≡ instr.Store to e
  pub a_is : a ≡ aim_to base to
  pub b_is : b ≡ aim_of base e

store_of : (it : Instr) (base : ℕ) (a b : Aim) → rule.Store a b ≡ rule_of base it → IsStore it base a b
store_of (instr.Store to e) base a b is = record { to = to; e = e; it_is = refl; a_is = cc; b_is = cc }
store_of (instr.Set l e) base a b is = absurd (cc)
store_of (instr.Load l to) base a b is = absurd (cc)
store_of _ base a b is = absurd (cc)

module _ (p : Listing) (step : ℕ) (pointers : List Bool) where
  base_of : ℕ → ℕ
  base_of t = length p.cells + t * step

  -- the flags say which cells hold pointers, and no thread has more locals
  pub record IsNumbered : Type 0 where
    pub pointers_are : (k : ℕ) → IsPointer pointers k ↔ HoldsPointer p k
    pub starts : (k : ℕ) (of : Cell) → slice_get p.cells k ≡ Some of → BelowIn step of.init
    pub instrs : (t j : ℕ) (it : Instr) → instr_at p t j ≡ Some it → BelowAt step it

  pointer_within : (k : ℕ) → HoldsPointer p k → k < length p.cells
  pointer_within k holds = elim (cases_lt k (length p.cells)) [ inl small ↦ small | inr large ↦ absurd (rw (slice_get_past p.cells k large) at holds) ]

  local_of : (t l h c : ℕ) → l < step → h ≡ length p.cells + t * step + l → Named p step h c → MayName p (local t l) c
  local_of t l h c below is (a_cell small may) = absurd (omega arith)
  local_of t l h c below is (a_local u m under at may) =
      let place : t * step + l ≡ u * step + m = omega arith in
      let both = same_from_place t l u m step below under place in
      let P : ℕ → Type 0 = λ x. MayName p (local x l) c in
      let Q : ℕ → Type 0 = λ x. MayName p (local u x) c in
      subst P (sym both.0) (subst Q (sym both.1) may)

  cell_of : (k c : ℕ) → k < length p.cells → Named p step k c → MayName p (cell k) c
  cell_of k c within (a_cell small may) = may
  cell_of k c within (a_local u m under at may) = absurd (omega arith)

  pub record AimNamed (a : Aim) (c : ℕ) : Type 0 where
    pub exprs : (t : ℕ) (e : Pure) → BelowIn step e → a ≡ aim_of (length p.cells + t * step) e → MayName p (expr t e) c
    pub targets : (t : ℕ) (to : Target) → BelowTo step to → a ≡ aim_to (length p.cells + t * step) to → MayName p (place t to) c

  targets_by : (a : Aim) (c : ℕ) → ((t : ℕ) (e : Pure) → BelowIn step e → a ≡ aim_of (length p.cells + t * step) e → MayName p (expr t e) c)
      → ((t x : ℕ) → a ≡ aim_to (length p.cells + t * step) (target.Cell x) → MayName p (place t (target.Cell x)) c)
      → ((t first len : ℕ) (index : Pure) → a ≡ aim_to (length p.cells + t * step) (target.Elem first len index) → MayName p (place t (target.Elem first len index)) c)
      → AimNamed a c
  targets_by a c es cs xs = record { exprs = es; targets = each }
    where
      each : (t : ℕ) (to : Target) → BelowTo step to → a ≡ aim_to (length p.cells + t * step) to → MayName p (place t to) c
      each t (target.Cell x) below is = cs t x is
      each t (target.Elem first len index) below is = xs t first len index is
      each t (target.Deref e) below is = behind (es t e below is)

  rows_named : (a : Aim) (c k : ℕ) (row : Row) → slice_get a.rows k ≡ Some row → IsInRow row c → AimNamed a c
  rows_named a c k row is within = targets_by a c
      (λ t e below same. address k row (sym (ap (λ x. slice_get x.rows k) same) ∙ is) within)
      (λ t x same.
      let one = only_one (record { first = x; len = 1 }) k row (sym (ap (λ y. slice_get y.rows k) same) ∙ is) in
      let P : Row → Type 0 = λ s. IsInRow s c in
      let inside = subst P (sym one) within in
      let Q : ℕ → Type 0 = λ y. MayName p (place t (target.Cell x)) y in
      subst Q (let e : x ≡ c = omega (arith, inside.0, inside.1) in e) itself)
      (λ t first len index same.
      let one = only_one (element_row first len (aims_of index).constant) k row (sym (ap (λ y. slice_get y.rows k) same) ∙ is) in
      let P : Row → Type 0 = λ s. IsInRow s c in
      element (subst P (sym one) within))

  locals_named : (a : Aim) (c k l : ℕ) → slice_get a.locals k ≡ Some l → Named p step (a.base + l) c → AimNamed a c
  locals_named a c k l is named = targets_by a c
      (λ t e below same.
      let here = sym (ap (λ x. slice_get x.locals k) same) ∙ is in
      copy k l here (local_of t l (a.base + l) c (below k l here) (ap (λ x. x.base + l) same) named))
      (λ t x same. absurd (no_some l (sym (ap (λ y. slice_get y.locals k) same) ∙ is)))
      (λ t first len index same. absurd (no_some l (sym (ap (λ y. slice_get y.locals k) same) ∙ is)))

  module _ (numbered : IsNumbered) where
    set_named : (h c i : ℕ) (a : Aim) → slice_get (rules_of p step) i ≡ Some (rule.Set h a) → AimNamed a c → Named p step h c
    set_named h c i a is named = elim (rule_from p step i (rule.Set h a) is) [
      | inl start_rule ↦ from_start start_rule
      | inr code ↦ from_code code
    ]
      where
        from_start : OfCell (length p.cells) 0 p.cells (rule.Set h a) → Named p step h c
        from_start r =
            let at : h ≡ 0 + r.at = (let e = r.is in cc) in
            let aims : a ≡ aim_of (length p.cells) r.of.init = (let e = r.is in cc) in
            let base : length p.cells ≡ length p.cells + 0 * step = omega arith in
            let may = named.exprs 0 r.of.init (numbered.starts r.at r.of r.stands) (aims ∙ ap (λ n. aim_of n r.of.init) base) in
            let within = slice_get_within p.cells r.at r.of r.stands in
            let P : ℕ → Type 0 = λ n. Named p step n c in
            subst P (let e : r.at ≡ h = omega arith in e) (a_cell within (start r.of r.stands may))

        from_code : OfInstr (length p.cells) step p.threads (rule.Set h a) → Named p step h c
        from_code r =
            let s = set_of r.it (length p.cells + r.t * step) h a r.is in
            let stands : instr_at p r.t r.j ≡ Some (instr.Set s.l s.e) = instr_is p r.t r.j r.thread r.it r.runs r.stands ∙ ap Some s.it_is in
            let below = numbered.instrs r.t r.j (instr.Set s.l s.e) stands in
            a_local r.t s.l below.0 s.h_is (set r.j s.e stands (named.exprs r.t s.e below.1 s.a_is))

    load_named : (h c i k : ℕ) (a : Aim) → slice_get (rules_of p step) i ≡ Some (rule.Load h a) → IsPointer pointers k → AimNamed a k → Named p step k c → Named p step h c
    load_named h c i k a is pointer names named = elim (rule_from p step i (rule.Load h a) is) [
      | inl start_rule ↦ absurd (let e = start_rule.is in cc)
      | inr code ↦ from_code code
    ]
      where
        from_code : OfInstr (length p.cells) step p.threads (rule.Load h a) → Named p step h c
        from_code r =
            let s = load_of r.it (length p.cells + r.t * step) h a r.is in
            let stands : instr_at p r.t r.j ≡ Some (instr.Load s.l s.to) = instr_is p r.t r.j r.thread r.it r.runs r.stands ∙ ap Some s.it_is in
            let below = numbered.instrs r.t r.j (instr.Load s.l s.to) stands in
            let holds = (numbered.pointers_are k).0 pointer in
            a_local r.t s.l below.0 s.h_is (load r.j s.to k stands (names.targets r.t s.to below.1 s.a_is) holds (cell_of k c (pointer_within k holds) named))

    store_named : (c i k : ℕ) (a b : Aim) → slice_get (rules_of p step) i ≡ Some (rule.Store a b) → IsPointer pointers k → AimNamed a k → AimNamed b c → Named p step k c
    store_named c i k a b is pointer names named = elim (rule_from p step i (rule.Store a b) is) [
      | inl start_rule ↦ absurd (let e = start_rule.is in cc)
      | inr code ↦ from_code code
    ]
      where
        from_code : OfInstr (length p.cells) step p.threads (rule.Store a b) → Named p step k c
        from_code r =
            let s = store_of r.it (length p.cells + r.t * step) a b r.is in
            let stands : instr_at p r.t r.j ≡ Some (instr.Store s.to s.e) = instr_is p r.t r.j r.thread r.it r.runs r.stands ∙ ap Some s.it_is in
            let below = numbered.instrs r.t r.j (instr.Store s.to s.e) stands in
            let holds = (numbered.pointers_are k).0 pointer in
            a_cell (pointer_within k holds) (store r.t r.j s.to s.e stands (names.targets r.t s.to below.0 s.a_is) holds (named.exprs r.t s.e below.1 s.b_is))

    abbrev pub InNamed : Source → ℕ → Type 0
    InNamed (holder h) c = Named p step h c
    InNamed (aim a) c = AimNamed a c

    -- what the rules hold may be named
    pub held_named : (v : Source) (c : ℕ) → Holds (rules_of p step) pointers v c → InNamed v c
    held_named (aim a) c (rules.rows k row is within) = rows_named a c k row is within
    held_named (aim a) c (rules.locals k l is held) = locals_named a c k l is (held_named (holder (a.base + l)) c held)
    held_named (holder h) c (rules.set i a is held) = set_named h c i a is (held_named (aim a) c held)
    held_named (holder h) c (rules.load i k a is pointer names held) = load_named h c i k a is pointer (held_named (aim a) k names) (held_named (holder k) c held)
    held_named (holder k) c (rules.store i a b is pointer names held) = store_named c i k a b is pointer (held_named (aim a) k names) (held_named (aim b) c held)

    abbrev pub InHeld : Holder → ℕ → Type 0
    InHeld (local t l) c = Holds (rules_of p step) pointers (holder (length p.cells + t * step + l)) c
    InHeld (cell k) c = Holds (rules_of p step) pointers (holder k) c
    InHeld (expr t e) c = Holds (rules_of p step) pointers (aim (aim_of (length p.cells + t * step) e)) c
    InHeld (place t to) c = Holds (rules_of p step) pointers (aim (aim_to (length p.cells + t * step) to)) c

    -- what may be named is held
    pub named_held : (v : Holder) (c : ℕ) → MayName p v c → InHeld v c
    named_held (expr t e) c (address k row is within) = rules.rows k row is within
    named_held (expr t e) c (copy k l is may) = rules.locals k l is (named_held (local t l) c may)
    named_held (place t _) c itself = rules.rows zero (record { first = c; len = 1 }) refl (omega arith, omega arith)
    named_held (place t (target.Elem first len index)) c (element within) = rules.rows zero (element_row first len (aims_of index).constant) refl within
    named_held (place t (target.Deref e)) c (behind may) = named_held (expr t e) c may
    named_held (cell k) c (start of is may) =
        let there = cell_there p step k of is in
        let base : length p.cells + 0 * step ≡ length p.cells = omega arith in
        let P : ℕ → Type 0 = λ n. Holds (rules_of p step) pointers (aim (aim_of n of.init)) c in
        rules.set there.0 (aim_of (length p.cells) of.init) there.1 (subst P base (named_held (expr 0 of.init) c may))
    named_held (local t l) c (set i e is may) =
        let at = stands_at p t i (instr.Set l e) is in
        let there = instr_there p step t i at.thread (instr.Set l e) at.runs at.stands in
        rules.set there.0 (aim_of (length p.cells + t * step) e) there.1 (named_held (expr t e) c may)
    named_held (local t l) c (load i to k is names pointer may) =
        let at = stands_at p t i (instr.Load l to) is in
        let there = instr_there p step t i at.thread (instr.Load l to) at.runs at.stands in
        rules.load there.0 k (aim_to (length p.cells + t * step) to) there.1 ((numbered.pointers_are k).1 pointer) (named_held (place t to) k names) (named_held (cell k) c may)
    named_held (cell k) c (store t i to e is names pointer may) =
        let at = stands_at p t i (instr.Store to e) is in
        let there = instr_there p step t i at.thread (instr.Store to e) at.runs at.stands in
        rules.store there.0 (aim_to (length p.cells + t * step) to) (aim_of (length p.cells + t * step) e) there.1 ((numbered.pointers_are k).1 pointer) (named_held (place t to) k names) (named_held (expr t e) c may)
