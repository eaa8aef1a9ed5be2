-- What acts have to do with cells, mutexes and threads, by what other threads can see of them.
use Rattle.std.proofs.Common.{◌≡◌, ℕ, ℤ, Option, Some, None, refl, Bool, true, false, sym, ap, if◌then◌else◌}
use Rattle.std.specs.Prelude.{option_map}
use Rattle.std.proofs.lemmas.Bool.{false≢true}
use Rattle.std.proofs.lemmas.Option.{none-some, same_Some}
use Rattle.mm_goto.specs.declared.program.Instr.{Instr}
use Rattle.mm_sched.specs.declared.entry.Act.{Act}
use Rattle.mm_sched.specs.declared.entry.Act.TheVariants.{Goes, Assigns, Fails, Ends, Loads, Pushes, Puts, Fences, Takes, Gives, Updates, Misses, Starts, Joins, Enters, Leaves}
use Rattle.mm_runkeys.specs.Keys.{Deed, deed}
use Rattle.mm_keeping.specs.Executions.{touched}
use Rattle.mm_bridge.proofs.Suiting.{Suits, IsWriting, is_visible}

-- a key that is there under a condition
pub key_if : (b : Bool) (t x : ℕ) → (if b then Some t else None) ≡ Some x → (b ≡ true) × (t ≡ x)
key_if true t x e = (refl, same_Some t x e)
key_if false t x e = absurd (none-some x e)

pub key_unless : (b : Bool) (o : Option ℕ) (x : ℕ) → (if b then None else o) ≡ Some x → (b ≡ false) × (o ≡ Some x)
key_unless true o x e = absurd (none-some x e)
key_unless false o x e = (refl, e)

pub key_where : (b : Bool) (o : Option ℕ) (x : ℕ) → (if b then o else None) ≡ Some x → (b ≡ true) × (o ≡ Some x)
key_where true o x e = (refl, e)
key_where false o x e = absurd (none-some x e)

pub never : (b : Bool) (x : ℕ) → (if b then None else None) ≡ Some x → ⊥
never true x e = none-some x e
never false x e = none-some x e

pub mapped : (f : ℕ → ℕ) (o : Option ℕ) (x : ℕ) → option_map f o ≡ Some x → (y : ℕ) × (o ≡ Some y) × (f y ≡ x)
mapped f None x e = absurd (none-some x e)
mapped f (Some y) x e = (y, refl, same_Some (f y) x e)

-- ---- what no other thread sees

pub record IsQuiet (d : Deed) : Type 0 where
  pub starts : d.starts ≡ None
  pub joins : d.joins ≡ None
  pub takes : d.takes ≡ None
  pub gives : d.gives ≡ None
  pub stores : d.stores ≡ None
  pub loads : d.loads ≡ None
  pub reads : d.reads ≡ None
  pub writes : d.writes ≡ None

pub quiet : (a : Act) → is_visible a ≡ false → IsQuiet (deed a)
quiet (Goes k) h = record { starts = refl; joins = refl; takes = refl; gives = refl; stores = refl; loads = refl; reads = refl; writes = refl }
quiet (Assigns l v) h = record { starts = refl; joins = refl; takes = refl; gives = refl; stores = refl; loads = refl; reads = refl; writes = refl }
quiet (Fails n) h = record { starts = refl; joins = refl; takes = refl; gives = refl; stores = refl; loads = refl; reads = refl; writes = refl }
quiet Ends h = record { starts = refl; joins = refl; takes = refl; gives = refl; stores = refl; loads = refl; reads = refl; writes = refl }
quiet Fences h = record { starts = refl; joins = refl; takes = refl; gives = refl; stores = refl; loads = refl; reads = refl; writes = refl }
quiet Enters h = record { starts = refl; joins = refl; takes = refl; gives = refl; stores = refl; loads = refl; reads = refl; writes = refl }
quiet Leaves h = record { starts = refl; joins = refl; takes = refl; gives = refl; stores = refl; loads = refl; reads = refl; writes = refl }
quiet (Loads l c v) h = absurd (false≢true (sym h))
quiet (Pushes c v) h = absurd (false≢true (sym h))
quiet (Puts c v) h = absurd (false≢true (sym h))
quiet (Takes m) h = absurd (false≢true (sym h))
quiet (Gives m) h = absurd (false≢true (sym h))
quiet (Updates l v c w) h = absurd (false≢true (sym h))
quiet (Misses l c) h = absurd (false≢true (sym h))
quiet (Starts u) h = absurd (false≢true (sym h))
quiet (Joins u) h = absurd (false≢true (sym h))

-- ---- what is seen

pub starts_as : (a : Act) (u : ℕ) → (deed a).starts ≡ Some u → a ≡ Starts u
starts_as (Starts v) u e = ap Starts (same_Some v u e)
starts_as (Goes k) u e = absurd (none-some u e)
starts_as a u e = absurd (none-some u e)

pub joins_as : (a : Act) (u : ℕ) → (deed a).joins ≡ Some u → a ≡ Joins u
joins_as (Joins v) u e = ap Joins (same_Some v u e)
joins_as (Goes k) u e = absurd (none-some u e)
joins_as a u e = absurd (none-some u e)

pub takes_as : (a : Act) (u : ℕ) → (deed a).takes ≡ Some u → a ≡ Takes u
takes_as (Takes v) u e = ap Takes (same_Some v u e)
takes_as (Goes k) u e = absurd (none-some u e)
takes_as a u e = absurd (none-some u e)

pub gives_as : (a : Act) (u : ℕ) → (deed a).gives ≡ Some u → a ≡ Gives u
gives_as (Gives v) u e = ap Gives (same_Some v u e)
gives_as (Goes k) u e = absurd (none-some u e)
gives_as a u e = absurd (none-some u e)

pub stores_as : (a : Act) (c : ℕ) → (deed a).stores ≡ Some c → (v : ℤ) × (a ≡ Pushes c v)
stores_as (Pushes d v) c e = (v, ap (λ z. Pushes z v) (same_Some d c e))
stores_as (Goes k) c e = absurd (none-some c e)
stores_as a c e = absurd (none-some c e)

pub reads_as : (a : Act) (c : ℕ) → (deed a).reads ≡ Some c → touched a ≡ Some c
reads_as (Loads l d v) c e = e
reads_as (Updates l v d w) c e = e
reads_as (Misses l d) c e = e
reads_as (Goes k) c e = absurd (none-some c e)
reads_as a c e = absurd (none-some c e)

-- nothing is written in memory at once but by an update
pub record IsWrite (a : Act) (c : ℕ) : Type 0 where
  pub touches : touched a ≡ Some c
  pub writing : IsWriting a
  pub drained : (deed a).drained ≡ true

pub writes_as : (i : Instr) (a : Act) (c : ℕ) → Suits i a → (deed a).writes ≡ Some c → IsWrite a c
writes_as i (Updates l v d w) c s e = record { touches = e; writing = tt; drained = refl }
writes_as i (Puts d v) c s e = absurd s
writes_as i (Goes k) c s e = absurd (none-some c e)
writes_as i a c s e = absurd (none-some c e)
