-- A machine at work, and what is known of its run.
use Rattle.std.specs.Prelude.{◌≡◌, ℕ, ◌+◌, ◌*◌, ◌^◌, ◌<◌, ◌≤◌, List, [], ◌∷◌, ◌++◌, length, slice_get, take, Some, None, Result, Ok, Err}
use Rattle.mm_goto.specs.Bounds.{Bounding}
use Rattle.mm_goto.specs.declared.model.Model.{Model}
use Rattle.mm_goto.specs.Listing.{Listing}
use Rattle.mm_sched.specs.declared.entry.Entry.{Entry}
use Rattle.mm_sched.specs.declared.entry.Rules.{Rules}
use Rattle.mm_sched.specs.declared.entry.Rules.TheVariants.{Buffered}
use Rattle.mm_sched.specs.declared.entry.Event.{Event}
use Rattle.mm_sched.specs.State.{State}
use Rattle.mm_sched.specs.Event.{event, after}
use Rattle.mm_sched.specs.Invariant.{Fits, room_of}
use Rattle.mm_rungraph.specs.declared.graph.RunFault.{RunFault}
use Rattle.mm_rungraph.specs.declared.graph.RunFault.TheVariants.{Stuck, NotFailing, NoMemory}
use Rattle.mm_runkeys.specs.declared.keys.Layout.{Layout}
use Rattle.mm_rungraph.specs.Extension.{extension}
use Rattle.mm_rungraph.specs.Traces.{events_of, after_all}
use Rattle.mm_runkeys.specs.reading.Marks.{Marks, marked}
use Rattle.mm_runkeys.specs.reading.Tables.{row}

-- what is known behind them
abbrev pub marked_all : Layout → Marks → List Event → Marks
marked_all s g [] = g
marked_all s g (v ∷ vs) = marked_all s (marked s g v) vs

-- a machine at work, and what is known of its run
pub record Walking : Type 0 where
  pub state : State
  pub room : ℕ
  pub marks : Marks

-- the entries lead from the one to the other
pub record Leads (r : Rules) (p : Listing) (s : Layout) (old : Walking) (es : List Entry) (new : Walking) : Type 0 where
  pub happens : List Event
  pub are : events_of r p old.state es ≡ Some happens
  pub state : new.state ≡ after_all old.state happens
  pub marks : new.marks ≡ marked_all s old.marks happens

-- the entry of number k, from 1, is not enabled behind those before it
pub record StopsAt (r : Rules) (p : Listing) (from : State) (es : List Entry) (k : ℕ) : Type 0 where
  pub before : ℕ
  pub number : k ≡ before + 1
  pub happens : List Event
  pub are : events_of r p from (take before es) ≡ Some happens
  pub entry : Entry
  pub at : slice_get es before ≡ Some entry
  pub stuck : event r p (after_all from happens) entry ≡ None

abbrev pub Stops : Rules → Listing → State → List Entry → RunFault → Type 0
Stops r p from es (Stuck k) = StopsAt r p from es k
Stops r p from es NotFailing = ⊥
Stops r p from es NoMemory = Unit {0}

-- the tables are as large as the program asks
pub record IsSized (p : Listing) (s : Layout) (g : Marks) : Type 0 where
  pub few : length p.threads * length p.cells < 2 ^ 32
  pub few_joins : length p.threads * length p.threads < 2 ^ 32
  pub cells : s.cells ≡ length p.cells
  pub threads : s.threads ≡ length p.threads
  pub ran : length g.ran ≡ length p.threads
  pub left : length g.left ≡ length p.threads * length p.cells
  pub written : length g.written ≡ length p.cells
  pub read : length g.read ≡ length p.cells
  pub flushed : length g.flushed ≡ length p.threads
  pub settled : length g.settled ≡ length p.threads
  pub given : length g.given ≡ length p.mutexes
  pub started : length g.started ≡ length p.threads
  pub executed : length g.executed ≡ length p.threads
  pub counted : (t : ℕ) → t < length g.executed → length (row g.executed t) ≤ g.count
  pub joined : length g.joined ≡ length p.threads * length p.threads
  pub pushed : length g.pushed ≡ length p.threads * length p.cells
  pub popped : length g.popped ≡ length p.threads * length p.cells
  pub made : length g.made ≡ length p.threads * length p.cells
  pub ended : length g.ended ≡ length p.threads * length p.cells
  pub newest : length g.newest ≡ length p.threads * length p.cells

-- the machine can go on
pub record Goes (r : Rules) (p : Listing) (s : Layout) (w : Walking) : Type 0 where
  pub fits : Fits r p w.state
  pub room : room_of r (length p.cells) ≤ w.room
  pub sized : IsSized p s w.marks

-- one entry leads from the one to the other
pub record Steps (r : Rules) (p : Listing) (s : Layout) (old : Walking) (e : Entry) (new : Walking) : Type 0 where
  pub happens : Event
  pub is : event r p old.state e ≡ Some happens
  pub state : new.state ≡ after old.state happens
  pub marks : new.marks ≡ marked s old.marks happens

abbrev pub Halts : Rules → Listing → State → Entry → ℕ → RunFault → Type 0
Halts r p from e n (Stuck k) = (k ≡ n) × (event r p from e ≡ None)
Halts r p from e n NotFailing = ⊥
Halts r p from e n NoMemory = Unit {0}

-- the number of the assertion that failed, or the answer that none did
abbrev pub Ends : State → Result ℕ RunFault → Type 0
Ends s (Ok n) = s.verdict ≡ Some n
Ends s (Err f) = (s.verdict ≡ None) × (f ≡ NotFailing)

-- the entries lead to where assertion n has failed, and then the flushes of what is pending lead on: those are all entries
pub record Extends (m : Model) (bound : Bounding) (p : Listing) (s : Layout) (old : Walking) (es : List Entry) (n : ℕ) (new : Walking) (all : List Entry) : Type 0 where
  pub mid : Walking
  pub first : Leads (Buffered m bound) p s old es mid
  pub verdict : mid.state.verdict ≡ Some n
  pub entries : all ≡ es ++ extension m mid.state
  pub second : Leads (Buffered m bound) p s mid (extension m mid.state) new

-- why the entries do not
abbrev pub Lacks : Model → Bounding → Listing → Layout → Walking → List Entry → RunFault → Type 0
Lacks m bound p s old es (Stuck k) = StopsAt (Buffered m bound) p old.state es k
Lacks m bound p s old es NotFailing = (mid : Walking) × Leads (Buffered m bound) p s old es mid × (mid.state.verdict ≡ None)
Lacks m bound p s old es NoMemory = Unit {0}
