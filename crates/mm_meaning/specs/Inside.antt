-- A thread of the machine of sequential consistency that is inside its atomic section: it alone steps.
use Rattle.std.specs.Prelude.{◌≡◌, ℕ, ◌≤◌, ℤ, Bool, true, false, ◌&&◌, is_none, List, [], ◌∷◌, ◌++◌, length, map, slice_set, Option, Some, None, ◌⊎◌}
use Rattle.mm_goto.specs.Listing.{Listing}
use Rattle.mm_sched.specs.declared.entry.Entry.{Entry}
use Rattle.mm_sched.specs.declared.entry.Entry.TheVariants.{Step, In, Flush, FlushCell}
use Rattle.mm_sched.specs.declared.entry.Rules.TheVariants.{Sc}
use Rattle.mm_sched.specs.State.{State, Frame}
use Rattle.mm_sched.specs.Event.{next, is_owner}
use Rattle.mm_sched.specs.Runs.{run}
use Rattle.mm_sched.specs.Guarded.{◌>>=◌, guarded}
use Rattle.mm_flow.specs.Flow.{Ways, way}
use Rattle.mm_meaning.specs.Meaning.{View, Outcome, Done, Left, Failed, Halted, Other}

-- ---- entries

-- an entry of thread t: a step, or an input of this value
abbrev pub own : ℕ → Option ℤ → Entry
own t None = Step t
own t (Some v) = In t v

-- the values that a thread's own entries give
abbrev pub values : List (Option ℤ) → List ℤ
values [] = []
values (None ∷ ws) = values ws
values (Some v ∷ ws) = v ∷ values ws

-- the values that a schedule gives, whoever takes them
abbrev pub inputs_of : List Entry → List ℤ
inputs_of [] = []
inputs_of (Step u ∷ es) = inputs_of es
inputs_of (In u v ∷ es) = v ∷ inputs_of es
inputs_of (Flush u ∷ es) = inputs_of es
inputs_of (FlushCell u c ∷ es) = inputs_of es

-- ---- states

-- thread t is in its section, and nothing has failed
abbrev pub stays : State → ℕ → Bool
stays s t = is_owner t s.section && is_none s.verdict

-- a thread that is at place k and sees this
abbrev pub frame : ℕ → View → Frame
frame k v = record { place = k; locals = v.locals; started = true; ended = false }

-- s, but that thread t is in its section, is at place k, and sees this
abbrev pub stand : ℕ → State → ℕ → View → State
stand t s k v = record s { memory = v.memory; section = Some t; verdict = None; threads = slice_set s.threads t (frame k v) }

-- the state after own entries of thread t, where it is in its section before each
abbrev pub inside : Listing → ℕ → State → List (Option ℤ) → Option State
inside p t s [] = Some s
inside p t s (w ∷ ws) = guarded (stays s t) (next Sc p s (own t w)) >>= λ m. inside p t m ws

-- ---- runs that the code's meaning gives

-- its own entries lead thread t from place k on to place j, in its section all the while
pub record Leads (p : Listing) (t : ℕ) (s : State) (k : ℕ) (v : View) (j : ℕ) (u : View) : Type 0 where
  pub steps : List (Option ℤ)
  pub takes : values steps ++ u.inputs ≡ v.inputs
  pub goes : inside p t (stand t s k v) steps ≡ Some (stand t s j u)

-- the value is the next of the inputs, where there is one
abbrev pub FitsIn : Option ℤ → List ℤ → Type 0
FitsIn None ins = Unit {0}
FitsIn (Some v) ins = (vs : List ℤ) × (ins ≡ v ∷ vs)

-- no own entry of the thread leads on
pub record Ends (p : Listing) (t : ℕ) (m : State) (ins : List ℤ) : Type 0 where
  pub by : (w : Option ℤ) (s : State) → FitsIn w ins → next Sc p m (own t w) ≡ Some s → ⊥

-- they lead to where none leads on, or are at least n
pub record Stops (p : Listing) (t : ℕ) (s : State) (n : ℕ) (k : ℕ) (v : View) : Type 0 where
  pub place : ℕ
  pub sees : View
  pub leads : Leads p t s k v place sees
  pub why : (n ≤ length leads.steps) ⊎ Ends p t (stand t s place sees) sees.inputs

-- they lead to an assertion of number a that does not hold
pub record Breaks (p : Listing) (t : ℕ) (s : State) (a : ℕ) (k : ℕ) (v : View) : Type 0 where
  pub place : ℕ
  pub sees : View
  pub leads : Leads p t s k v place sees
  pub last : State
  pub fails : next Sc p (stand t s place sees) (Step t) ≡ Some last
  pub verdict : last.verdict ≡ Some a

-- what a run of code from place k to place end does, over what runs may do: lead elsewhere, fail, or stop
abbrev pub Runs : (Leading : ℕ → View → ℕ → View → Type 0) → (Breaking : ℕ → ℕ → View → Type 0) → (Stopping : ℕ → ℕ → View → Type 0) → Ways → ℕ → ℕ → View → ℕ → Outcome → Type 0
Runs Leading Breaking Stopping x n k v end (Done u) = Leading k v end u
Runs Leading Breaking Stopping x n k v end (Left w u) = Leading k v (way x w) u
Runs Leading Breaking Stopping x n k v end (Failed a) = Breaking a k v
Runs Leading Breaking Stopping x n k v end Halted = Stopping n k v
Runs Leading Breaking Stopping x n k v end Other = Unit {0}

-- a run of code of this outcome, in the section
abbrev pub RunsInside : Listing → ℕ → State → Ways → ℕ → ℕ → View → ℕ → Outcome → Type 0
RunsInside p t s = Runs (Leads p t s) (Breaks p t s) (Stops p t s)

-- ---- any run

-- the rest es of a schedule, which ends in z, brings thread t to place k by own entries in front
pub record Comes (p : Listing) (t : ℕ) (s : State) (k : ℕ) (v : View) (es : List Entry) (z : State) : Type 0 where
  pub before : List (Option ℤ)
  pub later : List Entry
  pub split : es ≡ map (own t) before ++ later
  pub left : inputs_of later ≡ v.inputs
  pub goes : run Sc p (stand t s k v) later ≡ Some z

-- how the rest es of any schedule goes on from code of this outcome: as the outcome says, or it ends in the code
abbrev pub Meets : Listing → ℕ → State → ℕ → Ways → List Entry → State → Outcome → Type 0
Meets p t s end x es z (Done v) = Comes p t s end v es z ⊎ (stays z t ≡ true)
Meets p t s end x es z (Left w v) = Comes p t s (way x w) v es z ⊎ (stays z t ≡ true)
Meets p t s end x es z (Failed a) = (z.verdict ≡ Some a) ⊎ (stays z t ≡ true)
Meets p t s end x es z Halted = stays z t ≡ true
Meets p t s end x es z Other = Unit {0}
