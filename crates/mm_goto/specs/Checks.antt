-- The checks before what may fail: a division, a subscript, and a pointer that is followed.
use Rattle.std.specs.Prelude.{◌≡◌, ◌⊎◌, ℕ, pos, ◌==◌, Bool, false, ◌||◌, List, [], ◌∷◌, ◌++◌, All, Option, Some, None}
use Rattle.mm_goto.specs.declared.pure.Binary.{Binary}
use Rattle.mm_goto.specs.declared.pure.Binary.TheVariants as binary
use Rattle.mm_goto.specs.declared.pure.Pure.{Pure}
use Rattle.mm_goto.specs.declared.pure.Pure.TheOpen as pure
use Rattle.mm_goto.specs.declared.pure.Pure.TheFolds.{fold-Pure}
use Rattle.mm_goto.specs.declared.pure.Pure.TheViews.{roll-Pure}
use Rattle.mm_goto.specs.declared.program.Target.{Target}
use Rattle.mm_goto.specs.declared.program.Target.TheVariants as target
use Rattle.mm_goto.specs.declared.program.Instr.{Instr}
use Rattle.mm_goto.specs.declared.program.Instr.TheVariants.{Set, Load, Store, Input, Jump, Branch, Assert, Assume, Fence, Lock, Unlock, Add, Cas, Start, Join, AtomBegin, AtomEnd, End}
use Rattle.mm_goto.specs.Terms.{constant, combined}
use Rattle.mm_goto.specs.Parts.{divides}

-- ---- the parts of an instruction

abbrev pub target_exprs : Target → List Pure
target_exprs (target.Cell c) = []
target_exprs (target.Elem first len index) = index ∷ []
target_exprs (target.Deref e) = e ∷ []

-- the expressions beside the target's
abbrev pub value_exprs : Instr → List Pure
value_exprs (Set l e) = e ∷ []
value_exprs (Load l t) = []
value_exprs (Store t e) = e ∷ []
value_exprs (Input l) = []
value_exprs (Jump k) = []
value_exprs (Branch e k) = e ∷ []
value_exprs (Assert e n) = e ∷ []
value_exprs (Assume e) = e ∷ []
value_exprs Fence = []
value_exprs (Lock m) = []
value_exprs (Unlock m) = []
value_exprs (Add l t e) = e ∷ []
value_exprs (Cas l t e f) = e ∷ f ∷ []
value_exprs (Start u) = []
value_exprs (Join u) = []
value_exprs AtomBegin = []
value_exprs AtomEnd = []
value_exprs End = []

abbrev pub targets : Instr → List Target
targets (Set l e) = []
targets (Load l t) = t ∷ []
targets (Store t e) = t ∷ []
targets (Input l) = []
targets (Jump k) = []
targets (Branch e k) = []
targets (Assert e n) = []
targets (Assume e) = []
targets Fence = []
targets (Lock m) = []
targets (Unlock m) = []
targets (Add l t e) = t ∷ []
targets (Cas l t e f) = t ∷ []
targets (Start u) = []
targets (Join u) = []
targets AtomBegin = []
targets AtomEnd = []
targets End = []

-- the local that it writes
abbrev pub written_local : Instr → Option ℕ
written_local (Set l e) = Some l
written_local (Load l t) = Some l
written_local (Store t e) = None
written_local (Input l) = Some l
written_local (Jump k) = None
written_local (Branch e k) = None
written_local (Assert e n) = None
written_local (Assume e) = None
written_local Fence = None
written_local (Lock m) = None
written_local (Unlock m) = None
written_local (Add l t e) = Some l
written_local (Cas l t e f) = Some l
written_local (Start u) = None
written_local (Join u) = None
written_local AtomBegin = None
written_local AtomEnd = None
written_local End = None

abbrev pub names_step : ℕ → pure.Pure-F Bool → Bool
names_step l (pure.Const c) = false
names_step l (pure.Local m) = m == l
names_step l (pure.Addr c) = false
names_step l (pure.AddrElem first len index) = index
names_step l (pure.Un op x) = x
names_step l (pure.Bin op x y) = x || y
names_step l (pure.Cond c x y) = (c || x) || y

-- the expression names the local
abbrev pub names : ℕ → Pure → Bool
names l = fold-Pure Bool (names_step l)

-- ---- checks

-- the index is one of so many: (0 <= i) && (i < n)
abbrev pub is_in_range : Pure → ℕ → Pure
is_in_range index len = combined binary.Land (combined binary.Le (constant (pos 0)) index) (combined binary.Lt index (constant (pos len)))

-- the value is not 0
abbrev pub is_not_zero : Pure → Pure
is_not_zero e = combined binary.Ne e (constant (pos 0))

-- an expression, and the checks that it wants, innermost first
pub record Checked : Type 0 where
  pub expr : Pure
  pub wants : List Pure

abbrev pub wants_of : Binary → Checked → Checked → List Pure
wants_of binary.Div x y = x.wants ++ y.wants ++ is_not_zero y.expr ∷ []
wants_of binary.Rem x y = x.wants ++ y.wants ++ is_not_zero y.expr ∷ []
wants_of op x y = x.wants ++ y.wants

abbrev pub checked_step : pure.Pure-F Checked → Checked
checked_step (pure.Const c) = record { expr = roll-Pure (pure.Const c); wants = [] }
checked_step (pure.Local l) = record { expr = roll-Pure (pure.Local l); wants = [] }
checked_step (pure.Addr c) = record { expr = roll-Pure (pure.Addr c); wants = [] }
checked_step (pure.AddrElem first len index) =
    record { expr = roll-Pure (pure.AddrElem first len index.expr); wants = index.wants ++ is_in_range index.expr len ∷ [] }
checked_step (pure.Un op x) = record { expr = roll-Pure (pure.Un op x.expr); wants = x.wants }
checked_step (pure.Bin op x y) = record { expr = roll-Pure (pure.Bin op x.expr y.expr); wants = wants_of op x y }
checked_step (pure.Cond c x y) = record { expr = roll-Pure (pure.Cond c.expr x.expr y.expr); wants = c.wants ++ x.wants ++ y.wants }

-- the checks that an expression wants
abbrev pub checks_of : Pure → List Pure
checks_of e = (fold-Pure Checked checked_step e).wants

-- the checks that a target wants, beside those of its expression
abbrev pub target_checks : Target → List Pure
target_checks (target.Cell c) = []
target_checks (target.Elem first len index) = is_in_range index len ∷ []
target_checks (target.Deref e) = is_not_zero e ∷ []

-- ---- parts that are not always reached

-- a part of an expression that C does not always evaluate: what is behind && or ||, and an arm of ?:
pub record Late : Type 0 where
  pub whole : Pure
  pub part : Pure

pub record Timed : Type 0 where
  pub expr : Pure
  pub late : List Late

abbrev pub late_behind : Binary → Pure → Pure → List Late
late_behind binary.Land whole y = record { whole = whole; part = y } ∷ []
late_behind binary.Lor whole y = record { whole = whole; part = y } ∷ []
late_behind op whole y = []

abbrev pub timed_bin : Binary → Pure → Timed → Timed → Timed
timed_bin op whole x y = record { expr = whole; late = x.late ++ y.late ++ late_behind op whole y.expr }

abbrev pub timed_cond : Pure → Timed → Timed → Timed → Timed
timed_cond whole c x y = record {
  expr = whole;
  late = c.late ++ x.late ++ y.late ++ record { whole = whole; part = x.expr } ∷ record { whole = whole; part = y.expr } ∷ [];
}

abbrev pub timed_step : pure.Pure-F Timed → Timed
timed_step (pure.Const c) = record { expr = roll-Pure (pure.Const c); late = [] }
timed_step (pure.Local l) = record { expr = roll-Pure (pure.Local l); late = [] }
timed_step (pure.Addr c) = record { expr = roll-Pure (pure.Addr c); late = [] }
timed_step (pure.AddrElem first len index) = record { expr = roll-Pure (pure.AddrElem first len index.expr); late = index.late }
timed_step (pure.Un op x) = record { expr = roll-Pure (pure.Un op x.expr); late = x.late }
timed_step (pure.Bin op x y) = timed_bin op (roll-Pure (pure.Bin op x.expr y.expr)) x y
timed_step (pure.Cond c x y) = timed_cond (roll-Pure (pure.Cond c.expr x.expr y.expr)) c x y

abbrev pub late_parts : Pure → List Late
late_parts e = (fold-Pure Timed timed_step e).late

-- the expression is the check of an index
abbrev pub IsRangeCheck : Pure → Type 0
IsRangeCheck e = (index : Pure) × (len : ℕ) × (e ≡ is_in_range index len)

-- no part that is not always reached divides, but in the check of an index
abbrev pub DividesInTime : Pure → Type 0
DividesInTime e = All (λ late. (divides late.part ≡ false) ⊎ IsRangeCheck late.whole) (late_parts e)
