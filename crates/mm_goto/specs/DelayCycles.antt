-- Delay cycles: how a store that stays pending may be seen to be late. A later access of its thread overtakes it, and from there
-- communication and program order lead back to the store (after Shasha and Snir, TOPLAS 1988, and the critical cycles of Alglave and
-- others, ESOP 2013; unlike those it may visit a thread again).
use Rattle.std.specs.Prelude.{◌≡◌, ◌⊎◌, ◌↔◌, ℕ, IsSomeAnd, List, ◌∷◌, length, slice_get}
use Rattle.mm_goto.specs.declared.model.Model.{Model}
use Rattle.mm_goto.specs.declared.model.Model.TheVariants as model
use Rattle.mm_goto.specs.declared.program.Instr.{Instr}
use Rattle.mm_goto.specs.declared.program.Instr.TheVariants as i
use Rattle.mm_goto.specs.Listing.{Listing}
use Rattle.mm_goto.specs.Paths.{IsPath, IsUpTo}
use Rattle.mm_goto.specs.declared.spot.Spot.{Spot}
use Rattle.mm_goto.specs.Sites.{Is, Names, Po, Undrained, Com, Ord, Between}

-- it is a store, and no update
abbrev pub IsStore : Instr → Type 0
IsStore (i.Set l e) = ⊥
IsStore (i.Load l t) = ⊥
IsStore (i.Store t e) = Unit {0}
IsStore (i.Input l) = ⊥
IsStore (i.Jump k) = ⊥
IsStore (i.Branch e k) = ⊥
IsStore (i.Assert e n) = ⊥
IsStore (i.Assume e) = ⊥
IsStore i.Fence = ⊥
IsStore (i.Lock m) = ⊥
IsStore (i.Unlock m) = ⊥
IsStore (i.Add l t e) = ⊥
IsStore (i.Cas l t e f) = ⊥
IsStore (i.Start u) = ⊥
IsStore (i.Join u) = ⊥
IsStore i.AtomBegin = ⊥
IsStore i.AtomEnd = ⊥
IsStore i.End = ⊥

-- it may overtake a pending store: a load, under PSO also a store
abbrev pub Overtakes : Model → Instr → Type 0
Overtakes m (i.Set l e) = ⊥
Overtakes m (i.Load l t) = Unit {0}
Overtakes model.Tso (i.Store t e) = ⊥
Overtakes model.Pso (i.Store t e) = Unit {0}
Overtakes m (i.Input l) = ⊥
Overtakes m (i.Jump k) = ⊥
Overtakes m (i.Branch e k) = ⊥
Overtakes m (i.Assert e n) = ⊥
Overtakes m (i.Assume e) = ⊥
Overtakes m i.Fence = ⊥
Overtakes m (i.Lock n) = ⊥
Overtakes m (i.Unlock n) = ⊥
Overtakes m (i.Add l t e) = ⊥
Overtakes m (i.Cas l t e f) = ⊥
Overtakes m (i.Start u) = ⊥
Overtakes m (i.Join u) = ⊥
Overtakes m i.AtomBegin = ⊥
Overtakes m i.AtomEnd = ⊥
Overtakes m i.End = ⊥

-- the cell is the only one that the access may be to
abbrev pub NamesOnly : Listing → Spot → ℕ → Type 0
NamesOnly p s c = (d : ℕ) → Names p s d ↔ (d ≡ c)

-- the second may overtake the first while that is pending, and they are not both to one and the same cell for sure
pub record Unsafe (p : Listing) (m : Model) (s l : Spot) : Type 0 where
  pub store : Is p s IsStore
  pub later : Is p l (Overtakes m)
  pub undrained : Undrained p s l
  pub apart : (c : ℕ) → NamesOnly p s c → NamesOnly p l c → ⊥

-- what an edge of the way back may be
abbrev pub Edge : Listing → Spot → Spot → Type 0
Edge p a b = Po p a b ⊎ Com p a b ⊎ Ord p a b

-- the store, a later access that may overtake it, an access of another thread that meets that one, and a path from there
-- back to the store, without the store at its end
pub data IsCycle (Unsafe Com Edge : ℕ → ℕ → Type 0) : List ℕ → Type 0 where
  cycle : {s l m : ℕ} {back : List ℕ} → Unsafe s l → Com l m → IsPath Edge m back s → IsCycle Unsafe Com Edge (s ∷ l ∷ back)

-- what decides which cycle of a store comes first: the later access, the one that meets it, the number of edges, the sites
abbrev pub rank : List ℕ → List ℕ
rank (s ∷ l ∷ m ∷ rest) = l ∷ m ∷ length rest ∷ rest
rank walk = walk

pub record IsFirstCycle (Unsafe Com Edge : ℕ → ℕ → Type 0) (s : ℕ) (walk : List ℕ) : Type 0 where
  pub of : IsSomeAnd (slice_get walk 0) (λ first. first ≡ s)
  pub is : IsCycle Unsafe Com Edge walk
  pub first : (rest : List ℕ) → IsCycle Unsafe Com Edge (s ∷ rest) → IsUpTo (rank walk) (rank (s ∷ rest))

-- over a program: a delay cycle, a store that has one, the store's cycle
abbrev pub IsDelayCycle : Listing → Model → List ℕ → Type 0
IsDelayCycle p m = IsCycle (Between p (Unsafe p m)) (Between p (Com p)) (Between p (Edge p))

abbrev pub HasDelayCycle : Listing → Model → ℕ → Type 0
HasDelayCycle p m s = (rest : List ℕ) × IsDelayCycle p m (s ∷ rest)

abbrev pub IsCycleOf : Listing → Model → ℕ → List ℕ → Type 0
IsCycleOf p m = IsFirstCycle (Between p (Unsafe p m)) (Between p (Com p)) (Between p (Edge p))
