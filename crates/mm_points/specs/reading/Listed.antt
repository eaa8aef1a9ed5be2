-- The cells of each instruction, as far as they are listed.
use Rattle.std.specs.Prelude.{◌≡◌, ℕ, ◌<◌, List, [], length, slice_get, slice_index_or, IfSome}
use Rattle.mm_goto.specs.declared.program.Target.{Target}
use Rattle.mm_goto.specs.declared.program.Instr.{Instr}
use Rattle.mm_goto.specs.declared.program.Instr.TheVariants.{Load, Store, Add, Cas}
use Rattle.mm_points.specs.Cells.{AreCells}
use Rattle.mm_points.specs.reading.Rules.{InAim, IsAimIn}
use Rattle.mm_points.specs.reading.Ruled.{aim_to}

-- it holds of the instruction's target, if it has one
abbrev pub OnTarget : (Target → Type 0) → Instr → Type 0
OnTarget P (Load l to) = P to
OnTarget P (Store to e) = P to
OnTarget P (Add l to e) = P to
OnTarget P (Cas l to e f) = P to
OnTarget P _ = Unit {0}

-- the numbers in the targets are in range, where there are so many holders
abbrev pub AreInRange : ℕ → ℕ → List Instr → Type 0
AreInRange n base code = (i : ℕ) → IfSome (slice_get code i) (OnTarget (λ to. IsAimIn n (aim_to base to)))

-- the instruction's target names the cell, where the holders have these sets
abbrev pub IsTargeted : (ℕ → ℕ → Type 0) → ℕ → Instr → ℕ → Type 0
IsTargeted T base (Load l to) c = InAim T (aim_to base to) c
IsTargeted T base (Store to e) c = InAim T (aim_to base to) c
IsTargeted T base (Add l to e) c = InAim T (aim_to base to) c
IsTargeted T base (Cas l to e f) c = InAim T (aim_to base to) c
IsTargeted T base _ c = ⊥

-- each of the first n instructions has its cells in the list
pub record AreListed (T : ℕ → ℕ → Type 0) (base : ℕ) (code : List Instr) (n : ℕ) (lists : List (List ℕ)) : Type 0 where
  pub size : length lists ≡ n
  pub each : (i : ℕ) → i < n → IfSome (slice_get code i) (λ it. AreCells (IsTargeted T base it) (slice_index_or lists i []))
