-- Runs of a machine.
use Rattle.std.specs.Prelude.{◌≡◌, ℕ, ℤ, List, [], ◌∷◌, length, reverse, slice_get, take, Option, Some, None}
use Rattle.std.specs.List.{filter_map}
use Rattle.mm_sched.specs.declared.entry.Entry.{Entry}
use Rattle.mm_sched.specs.declared.entry.Entry.TheVariants.{Step, In, Flush, FlushCell}
use Rattle.mm_sched.specs.declared.entry.Rules.{Rules}
use Rattle.mm_sched.specs.Guarded.{◌>>=◌}
use Rattle.mm_goto.specs.Listing.{Listing}
use Rattle.mm_sched.specs.State.{State, initial, frame_of}
use Rattle.mm_sched.specs.Event.{next}

-- the state after the entries, where each is enabled in its turn
abbrev pub run : Rules → Listing → State → List Entry → Option State
run r p s [] = Some s
run r p s (e ∷ es) = do
  mid ← next r p s e
  run r p mid es

-- the schedule fails n: it is a run from the start whose last state has the verdict n
pub record Fails (r : Rules) (p : Listing) (n : ℕ) (es : List Entry) : Type 0 where
  pub last : State
  pub runs : run r p (initial p) es ≡ Some last
  pub verdict : last.verdict ≡ Some n

-- some schedule fails n
abbrev pub Reaches : Rules → Listing → ℕ → Type 0
Reaches r p n = (es : List Entry) × Fails r p n es

-- the thread of a `step` entry
abbrev pub step_of : Entry → Option ℕ
step_of (Step t) = Some t
step_of (In t v) = None
step_of (Flush t) = None
step_of (FlushCell t c) = None

-- the thread of the last `step` entry: where the schedule fails, the thread whose assertion failed
abbrev pub failing_thread : List Entry → Option ℕ
failing_thread es = slice_get (filter_map step_of (reverse es)) 0

-- the locals of thread t
abbrev pub locals_of : State → ℕ → List ℤ
locals_of s t = (frame_of s t).locals

-- the one list is the front of the other
abbrev pub IsFront : List ℤ → List ℤ → Type 0
IsFront xs ys = take (length xs) ys ≡ xs

-- a schedule of p under r and one of q under o fail alike: with the same number and in the same thread, whose locals at the
-- end in p are the front of its locals at the end in q
pub record FailAlike (r o : Rules) (p q : Listing) (n : ℕ) (es fs : List Entry) : Type 0 where
  pub one : Fails r p n es
  pub other : Fails o q n fs
  pub thread : failing_thread es ≡ failing_thread fs
  pub locals : (t : ℕ) → failing_thread es ≡ Some t → IsFront (locals_of one.last t) (locals_of other.last t)
