-- The least sets that rules ask for. Holders are numbers, and the first of them are the cells.
use Rattle.std.specs.Prelude.{◌≡◌, ℕ, ◌+◌, ◌<◌, ◌^◌, Bool, true, false, List, length, slice_get, Some, slice_index_or}
use Rattle.mm_points.specs.Sets.{Linked}
use Rattle.mm_goto.specs.declared.row.Row.{Row}
use Rattle.mm_goto.specs.PointsTo.{IsInRow}
use Rattle.mm_points.specs.declared.rules.Aim.{Aim}
use Rattle.mm_points.specs.declared.rules.Rule.{Rule}
use Rattle.mm_points.specs.declared.rules.Rule.TheVariants.{Nothing, Set, Load, Store}

abbrev pub IsPointer : List Bool → ℕ → Type 0
IsPointer pointers k = slice_index_or pointers k false ≡ true

-- the aim names the cell, where the holders have these sets
pub data InAim (T : ℕ → ℕ → Type 0) (aim : Aim) (c : ℕ) : Type 0 where
  by_row : (k : ℕ) (row : Row) → slice_get aim.rows k ≡ Some row → IsInRow row c → InAim T aim c
  by_local : (k l : ℕ) → slice_get aim.locals k ≡ Some l → T (aim.base + l) c → InAim T aim c

-- what has cells: a holder, and an aim
pub data Source : Type 0 where
  holder : ℕ → Source
  aim : Aim → Source

pub data Holds (rules : List Rule) (pointers : List Bool) : Source → ℕ → Type 0 where
  rows : {a : Aim} {c : ℕ} (k : ℕ) (row : Row) → slice_get a.rows k ≡ Some row → IsInRow row c → Holds rules pointers (aim a) c
  locals : {a : Aim} {c : ℕ} (k l : ℕ) → slice_get a.locals k ≡ Some l → Holds rules pointers (holder (a.base + l)) c → Holds rules pointers (aim a) c
  set : {h c : ℕ} (i : ℕ) (a : Aim) → slice_get rules i ≡ Some (Set h a) → Holds rules pointers (aim a) c → Holds rules pointers (holder h) c
  load : {h c : ℕ} (i k : ℕ) (a : Aim) → slice_get rules i ≡ Some (Load h a) → IsPointer pointers k → Holds rules pointers (aim a) k → Holds rules pointers (holder k) c → Holds rules pointers (holder h) c
  store : {k c : ℕ} (i : ℕ) (a b : Aim) → slice_get rules i ≡ Some (Store a b) → IsPointer pointers k → Holds rules pointers (aim a) k → Holds rules pointers (aim b) c → Holds rules pointers (holder k) c

-- what one rule gives from sets
abbrev pub Gives : List Bool → (ℕ → ℕ → Type 0) → Rule → ℕ → ℕ → Type 0
Gives pointers T Nothing a b = ⊥
Gives pointers T (Set h x) a b = (a ≡ h) × InAim T x b
Gives pointers T (Load h x) a b = (a ≡ h) × ((k : ℕ) × IsPointer pointers k × InAim T x k × T k b)
Gives pointers T (Store x y) a b = IsPointer pointers a × InAim T x a × InAim T y b

-- the numbers are in range, where there are so many holders
pub record IsAimIn (n : ℕ) (x : Aim) : Type 0 where
  pub rows : (k : ℕ) (row : Row) → slice_get x.rows k ≡ Some row → row.first + row.len < 2 ^ 32
  pub locals : (k l : ℕ) → slice_get x.locals k ≡ Some l → x.base + l < n

abbrev pub IsIn : ℕ → Rule → Type 0
IsIn n Nothing = Unit {0}
IsIn n (Set h x) = (h < n) × IsAimIn n x
IsIn n (Load h x) = (h < n) × IsAimIn n x
IsIn n (Store x y) = IsAimIn n x × IsAimIn n y

-- whether the table grew
pub record Grows (old new : List (List ℕ)) (grew : Bool) : Type 0 where
  pub size : length new ≡ length old
  pub keeps : (a b : ℕ) → Linked old a b → Linked new a b
  pub stays : grew ≡ false → (a b : ℕ) → Linked new a b → Linked old a b
