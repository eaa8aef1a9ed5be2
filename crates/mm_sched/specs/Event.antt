-- One step of a machine: an event, which is read off the state, and its effect. The instructions are those of ISO C's
-- threads, mutexes and assertions in small steps; a fence, a mutex, a thread's start and end and an update of a cell wait
-- until the thread's stores have reached memory, as the locked instructions of x86-TSO do.
use Rattle.std.specs.Prelude.{ℕ, zero, suc, ◌+◌, ◌^◌, ℤ, pos, negsuc, Bool, true, false, not, ◌&&◌, if◌then◌else◌, ◌==◌, nat_lt, List, [], ◌∷◌, ◌++◌, length, slice_get, slice_set, Option, Some, None, is_none, option_map}
use Rattle.std.specs.Int.{w32, int_wrapping_add, cast_unsigned}
use Rattle.mm_goto.specs.declared.program.Instr.{Instr}
use Rattle.mm_goto.specs.declared.program.Instr.TheVariants.{Set, Load, Store, Input, Jump, Branch, Assert, Assume, Fence, Lock, Unlock, Add, Cas, Start, Join, AtomBegin, AtomEnd, End}
use Rattle.mm_goto.specs.declared.program.Target.{Target}
use Rattle.mm_goto.specs.declared.program.Target.TheVariants.{Cell, Elem, Deref}
use Rattle.mm_sched.specs.declared.entry.Entry.{Entry}
use Rattle.mm_sched.specs.declared.entry.Entry.TheVariants.{Step, In, Flush, FlushCell}
use Rattle.mm_sched.specs.declared.entry.Rules.{Rules}
use Rattle.mm_sched.specs.declared.entry.How.{How}
use Rattle.mm_sched.specs.declared.entry.How.TheVariants.{AtOnce, Delayed, NotEnabled}
use Rattle.mm_sched.specs.declared.entry.Act.{Act}
use Rattle.mm_sched.specs.declared.entry.Act.TheVariants.{Goes, Assigns, Fails, Ends, Loads, Pushes, Puts, Fences, Takes, Gives, Updates, Misses, Starts, Joins, Enters, Leaves}
use Rattle.mm_sched.specs.declared.entry.Event.{Event}
use Rattle.mm_sched.specs.declared.entry.Event.TheVariants.{Does, Flushes}
use Rattle.mm_sched.specs.Guarded.{◌>>=◌, guarded}
use Rattle.mm_goto.specs.Listing.{Listing}
use Rattle.mm_sched.specs.State.{Frame, State, frame_of, pending_of, at_cell}
use Rattle.mm_sched.specs.Buffer.{is_empty, seen, without, store_of, flush_of}
use Rattle.mm_goto.specs.Value.{value_of, is_zero}

-- ---- what a step reads

-- the cell of an index, where it is one of the len cells from first on
abbrev pub element : ℤ → ℕ → ℕ → Option ℕ
element (pos n) first len = if nat_lt n len then Some (first + n) else None
element (negsuc n) first len = None

-- the cell of an address, where it is not null and one of the cells
abbrev pub pointee : ℤ → ℕ → Option ℕ
pointee (pos zero) cells = None
pointee (pos (suc n)) cells = if nat_lt n cells then Some n else None
pointee (negsuc n) cells = None

-- the cell of a target, where there is one
abbrev pub cell_of : ℕ → List ℤ → Target → Option ℕ
cell_of cells locals (Cell c) = Some c
cell_of cells locals (Elem first len index) = element (value_of index locals) first len
cell_of cells locals (Deref e) = pointee (value_of e locals) cells

-- the owner is thread t
abbrev pub is_owner : ℕ → Option ℕ → Bool
is_owner t (Some u) = u == t
is_owner t None = false

-- nobody else owns it
abbrev pub is_open_to : ℕ → Option ℕ → Bool
is_open_to t (Some u) = u == t
is_open_to t None = true

-- the thread is started and has not ended, nothing has failed, and no other thread is in an atomic section
abbrev pub may_step : State → ℕ → Frame → Bool
may_step s t f = f.started && not f.ended && is_none s.verdict && is_open_to t s.section

-- the instruction of thread t at place k
abbrev pub fetched : Listing → ℕ → ℕ → Option Instr
fetched p t k = do
  thread ← slice_get p.threads t
  slice_get thread.code k

-- the act, where the thread has nothing pending
abbrev pub drained : State → ℕ → Option Act → Option Act
drained s t act = guarded (is_empty (pending_of s t)) act

-- the store of v to cell c that acts so
abbrev pub stored : How → ℕ → ℤ → Option Act
stored Delayed c v = Some (Pushes c v)
stored AtOnce c v = Some (Puts c v)
stored NotEnabled c v = None

-- takes the mutex, where it is free
abbrev pub locked : Option (Option ℕ) → ℕ → Option Act
locked (Some owner) m = guarded (is_none owner) (Some (Takes m))
locked None m = None

-- gives the mutex back, where thread t has it
abbrev pub unlocked : Option (Option ℕ) → ℕ → ℕ → Option Act
unlocked (Some owner) t m = guarded (is_owner t owner) (Some (Gives m))
unlocked None t m = None

-- starts thread u, where it is not started
abbrev pub begun : Option Frame → ℕ → Option Act
begun (Some g) u = guarded (not g.started) (Some (Starts u))
begun None u = None

-- joins thread u, where it has ended and has nothing pending
abbrev pub joined : Option Frame → Bool → ℕ → Option Act
joined (Some g) empty u = guarded (g.ended && empty) (Some (Joins u))
joined None empty u = None

-- the two are equal, as the operator == has it
abbrev pub is_same : ℤ → ℤ → Bool
is_same x y = cast_unsigned w32 x == cast_unsigned w32 y

-- what thread t in frame f does by an instruction other than Input, where it is enabled
unfoldable pub act : Rules → State → ℕ → Frame → Instr → Option Act
act r s t f (Set l e) = Some (Assigns l (value_of e f.locals))
act r s t f (Load l target) = do
  c ← cell_of (length s.memory) f.locals target
  Some (Loads l c (seen s t c))
act r s t f (Store target e) = do
  c ← cell_of (length s.memory) f.locals target
  stored (store_of r t f.place (pending_of s t) c) c (value_of e f.locals)
act r s t f (Input l) = None
act r s t f (Jump k) = Some (Goes k)
act r s t f (Branch e k) = Some (Goes (if is_zero (value_of e f.locals) then k else f.place + 1))
act r s t f (Assert e n) = Some (if is_zero (value_of e f.locals) then Fails n else Goes (f.place + 1))
act r s t f (Assume e) = guarded (not (is_zero (value_of e f.locals))) (Some (Goes (f.place + 1)))
act r s t f Fence = drained s t (Some Fences)
act r s t f (Lock m) = drained s t (locked (slice_get s.owners m) m)
act r s t f (Unlock m) = drained s t (unlocked (slice_get s.owners m) t m)
act r s t f (Add l target e) = drained s t (do
  c ← cell_of (length s.memory) f.locals target
  Some (Updates l (at_cell s c) c (int_wrapping_add w32 (at_cell s c) (value_of e f.locals))))
act r s t f (Cas l target e g) = drained s t (do
  c ← cell_of (length s.memory) f.locals target
  Some (if is_same (at_cell s c) (value_of e f.locals) then Updates l (pos 1) c (value_of g f.locals) else Misses l c))
act r s t f (Start u) = drained s t (begun (slice_get s.threads u) u)
act r s t f (Join u) = drained s t (joined (slice_get s.threads u) (is_empty (pending_of s u)) u)
act r s t f AtomBegin = guarded (is_none s.section) (Some Enters)
act r s t f AtomEnd = guarded (is_owner t s.section) (Some Leaves)
act r s t f End = Some Ends

-- z is an int of 32 bits
abbrev pub is_int : ℤ → Bool
is_int (pos n) = nat_lt n (2 ^ 31)
is_int (negsuc n) = nat_lt n (2 ^ 31)

-- what a thread does by an Input that takes the value
abbrev pub input : Instr → ℤ → Option Act
input (Set l e) v = None
input (Load l target) v = None
input (Store target e) v = None
input (Input l) v = guarded (is_int v) (Some (Assigns l v))
input (Jump k) v = None
input (Branch e k) v = None
input (Assert e n) v = None
input (Assume e) v = None
input Fence v = None
input (Lock m) v = None
input (Unlock m) v = None
input (Add l target e) v = None
input (Cas l target e g) v = None
input (Start u) v = None
input (Join u) v = None
input AtomBegin v = None
input AtomEnd v = None
input End v = None

-- what thread t does by its next instruction, where it may step
abbrev pub does : Listing → State → ℕ → (Frame → Instr → Option Act) → Option Event
does p s t what = do
  f ← slice_get s.threads t
  i ← fetched p t f.place
  a ← guarded (may_step s t f) (what f i)
  Some (Does t a)

-- the flush that the entry asks of thread t
abbrev pub flushes : Rules → State → ℕ → Entry → Option Event
flushes r s t e = do
  q ← flush_of r e (pending_of s t)
  Some (Flushes t q.0 q.1)

-- what happens by the entry, where it is enabled
unfoldable pub event : Rules → Listing → State → Entry → Option Event
event r p s (Step t) = does p s t (act r s t)
event r p s (In t v) = does p s t (λ f i. input i v)
event r p s (Flush t) = flushes r s t (Flush t)
event r p s (FlushCell t c) = flushes r s t (FlushCell t c)

-- ---- what a step changes

-- the frame at the next place
abbrev pub on : Frame → Frame
on f = record f { place = f.place + 1 }

-- the frame at the next place, where the local has the value
abbrev pub assigned : Frame → ℕ → ℤ → Frame
assigned f l v = record f { place = f.place + 1; locals = slice_set f.locals l v }

-- the thread's own frame
abbrev pub framed : Frame → Act → Frame
framed f (Goes k) = record f { place = k }
framed f (Assigns l v) = assigned f l v
framed f (Fails n) = on f
framed f Ends = record f { ended = true }
framed f (Loads l c v) = assigned f l v
framed f (Pushes c v) = on f
framed f (Puts c v) = on f
framed f Fences = on f
framed f (Takes m) = on f
framed f (Gives m) = on f
framed f (Updates l v c w) = assigned f l v
framed f (Misses l c) = assigned f l (pos 0)
framed f (Starts u) = on f
framed f (Joins u) = on f
framed f Enters = on f
framed f Leaves = on f

-- the frame of thread t is now f
abbrev pub moved : State → ℕ → Frame → State
moved s t f = record s { threads = slice_set s.threads t f }

-- cell c now has v
abbrev pub written : State → ℕ → ℤ → State
written s c v = record s { memory = slice_set s.memory c v }

-- thread t has one more store pending
abbrev pub pushed : State → ℕ → ℕ → ℤ → State
pushed s t c v = record s { pending = slice_set s.pending t (pending_of s t ++ (c, v) ∷ []) }

-- mutex m is now of this owner
abbrev pub owned : State → ℕ → Option ℕ → State
owned s m owner = record s { owners = slice_set s.owners m owner }

-- thread u is now started
abbrev pub started : State → ℕ → State
started s u = moved s u (record (frame_of s u) { started = true })

-- all else that the act of thread t changes
abbrev pub done : State → ℕ → Act → State
done s t (Goes k) = s
done s t (Assigns l v) = s
done s t (Fails n) = record s { verdict = Some n }
done s t Ends = s
done s t (Loads l c v) = s
done s t (Pushes c v) = pushed s t c v
done s t (Puts c v) = written s c v
done s t Fences = s
done s t (Takes m) = owned s m (Some t)
done s t (Gives m) = owned s m None
done s t (Updates l v c w) = written s c w
done s t (Misses l c) = s
done s t (Starts u) = started s u
done s t (Joins u) = s
done s t Enters = record s { section = Some t }
done s t Leaves = record s { section = None }

-- the state after thread t did this
unfoldable pub acted : State → ℕ → Act → State
acted s t a = moved (done s t a) t (framed (frame_of s t) a)

-- the state after thread t's oldest pending store to cell c, of value v, moved to memory
unfoldable pub flushed : State → ℕ → ℕ → ℤ → State
flushed s t c v = record (written s c v) { pending = slice_set s.pending t (without (pending_of s t) c) }

-- the state after the event
abbrev pub after : State → Event → State
after s (Does t a) = acted s t a
after s (Flushes t c v) = flushed s t c v

-- ---- one step

-- the state after the entry, where it is enabled
abbrev pub next : Rules → Listing → State → Entry → Option State
next r p s e = option_map (after s) (event r p s e)
