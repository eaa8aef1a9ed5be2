-- What the code decides of two sites.
use Rattle.std.specs.Prelude.{◌≡◌, ◌↔◌, ℕ, ◌<◌, ◌==◌, nat_lt, Bool, true, false, ◌&&◌, ◌||◌, Option, Some, None, IsSomeAnd, List, length, slice_get}
use Rattle.mm_goto.specs.declared.program.Instr.{Instr}
use Rattle.mm_goto.specs.declared.spot.Spot.{Spot}
use Rattle.mm_goto.specs.Listing.{Listing}
use Rattle.mm_goto.specs.Sites.{Is, Names}
use Rattle.mm_goto.specs.Valid.{code_of, is_start, is_join}
use Rattle.mm_bits.specs.Words.{Has}
use Rattle.mm_graph.specs.declared.access.Access.{Access}
use Rattle.mm_graph.specs.declared.site.SiteKind.{SiteKind}
use Rattle.mm_graph.specs.declared.site.SiteKind.TheVariants as kind
use Rattle.mm_graph.specs.Sites.{IsOfKind, subject_of}

-- ---- the last and the first place below n where something holds

pub data IsLast (P : ℕ → Type 0) (n : ℕ) : Option ℕ → Type 0 where
  last : {k : ℕ} → k < n → P k → ((j : ℕ) → k < j → j < n → ¬ (P j)) → IsLast P n (Some k)
  never : ((j : ℕ) → j < n → ¬ (P j)) → IsLast P n None

pub data IsFirst (P : ℕ → Type 0) (n : ℕ) : Option ℕ → Type 0 where
  first : {k : ℕ} → k < n → P k → ((j : ℕ) → j < k → ¬ (P j)) → IsFirst P n (Some k)
  nowhere : ((j : ℕ) → j < n → ¬ (P j)) → IsFirst P n None

abbrev pub StartsAt : List Instr → ℕ → ℕ → Type 0
StartsAt code u k = IsSomeAnd (slice_get code k) (λ it. is_start u it ≡ true)

abbrev pub JoinsAt : List Instr → ℕ → ℕ → Type 0
JoinsAt code u k = IsSomeAnd (slice_get code k) (λ it. is_join u it ≡ true)

-- ---- must before

abbrev pub is_before : ℕ → Option ℕ → Bool
is_before i (Some k) = nat_lt i k
is_before i None = false

abbrev pub is_behind : Option ℕ → ℕ → Bool
is_behind (Some j) i = nat_lt j i
is_behind None i = false

abbrev pub are_in_turn : Option ℕ → Option ℕ → Bool
are_in_turn (Some j) start = is_before j start
are_in_turn None start = false

abbrev pub must_before : Access → Access → Bool
must_before x y = ((x.thread == 0) && is_before x.index y.start) || (((y.thread == 0) && is_behind x.join y.index) || are_in_turn x.join y.start)

-- ---- communication and order

abbrev pub accesses : SiteKind → Bool
accesses kind.Load = true
accesses kind.Store = true
accesses kind.Update = true
accesses kind.Lock = false
accesses kind.Unlock = false
accesses kind.Start = false
accesses kind.Join = false

abbrev pub writes : SiteKind → Bool
writes kind.Load = false
writes kind.Store = true
writes kind.Update = true
writes kind.Lock = false
writes kind.Unlock = false
writes kind.Start = false
writes kind.Join = false

abbrev pub handles_mutex : SiteKind → Bool
handles_mutex kind.Load = false
handles_mutex kind.Store = false
handles_mutex kind.Update = false
handles_mutex kind.Lock = true
handles_mutex kind.Unlock = true
handles_mutex kind.Start = false
handles_mutex kind.Join = false

pub record AreMet (x y : Access) : Type 0 where
  pub from : accesses x.kind ≡ true
  pub to : accesses y.kind ≡ true
  pub apart : ¬ (x.thread ≡ y.thread)
  pub writes : (writes x.kind || writes y.kind) ≡ true
  pub may_follow : must_before y x ≡ false
  pub meet : (c : ℕ) × Has x.cells.words c × Has y.cells.words c

-- they handle one mutex
pub record AreOfMutex (x y : Access) : Type 0 where
  pub from : handles_mutex x.kind ≡ true
  pub to : handles_mutex y.kind ≡ true
  pub one : x.subject ≡ y.subject
  pub apart : ¬ (x.thread ≡ y.thread)
  pub may_follow : must_before y x ≡ false

pub data AreOrdered (x y : Access) : Type 0 where
  mutex : AreOfMutex x y → AreOrdered x y
  start : x.kind ≡ kind.Start → x.subject ≡ y.thread → AreOrdered x y
  join : y.kind ≡ kind.Join → y.subject ≡ x.thread → AreOrdered x y

-- the access is that of the instruction at the spot
pub record IsAccessOf (p : Listing) (spot : Spot) (x : Access) : Type 0 where
  pub thread : x.thread ≡ spot.thread
  pub index : x.index ≡ spot.index
  pub kind : Is p spot (IsOfKind x.kind)
  pub subject : Is p spot (λ it. x.subject ≡ subject_of it)
  pub start : IsLast (StartsAt (code_of p 0) spot.thread) (length (code_of p 0)) x.start
  pub join : IsFirst (JoinsAt (code_of p 0) spot.thread) (length (code_of p 0)) x.join
  pub cells : (c : ℕ) → Has x.cells.words c ↔ Names p spot c
