-- What sets of sites, cells and threads have.
use Rattle.std.specs.Prelude.{◌≡◌, ◌↔◌, ℕ, ◌<◌, Bool, true, List, false, ◌≤◌, Some, length, IsSomeAnd, slice_get, slice_index_or}
use Rattle.mm_bits.specs.Words.{Has}
use Rattle.mm_graph.specs.declared.site.Site.{Site}

-- the flag of the row is raised
abbrev pub Raised : List Bool → ℕ → Type 0
Raised row k = slice_index_or row k false ≡ true

-- a site of the set is so
abbrev pub OfSome : List Site → List ℕ → (Site → Type 0) → Type 0
OfSome sites set P = (s : ℕ) × IsSomeAnd (slice_get sites s) P × Has set s

-- a site of the set stands there
abbrev pub StandsIn : List Site → List ℕ → ℕ → ℕ → Type 0
StandsIn sites set t k = OfSome sites set (λ x. (x.thread ≡ t) × (x.index ≡ k))

-- each number is one that a set can have
abbrev pub AllSmall : List ℕ → Type 0
AllSmall xs = (k c : ℕ) → slice_get xs k ≡ Some c → c < 1024

-- the threads and cells of the sites are numbers that a set can have
pub record AreSmall (sites : List Site) : Type 0 where
  pub few : length sites ≤ 1024
  pub threads : (s : ℕ) (x : Site) → slice_get sites s ≡ Some x → x.thread < 1024
  pub cells : (s : ℕ) (x : Site) → slice_get sites s ≡ Some x → AllSmall x.cells

-- the row has a flag for each of so many instructions of the thread, raised at those that are sites of the set
pub record AreFlagsOf (sites : List Site) (set : List ℕ) (t count : ℕ) (row : List Bool) : Type 0 where
  pub size : length row ≡ count
  pub raised : (k : ℕ) → Raised row k ↔ ((k < count) × StandsIn sites set t k)
