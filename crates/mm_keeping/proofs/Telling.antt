-- What an act tells of the instruction that it is of.
use Rattle.std.proofs.Common.{◌≡◌, inl, inr, ℕ, ◌+◌, ℤ, pos, length, Option, Some, None, refl, Bool, true, false, not, nat_lt, slice_get, IfSome, if◌then◌else◌, arith}
use Rattle.std.specs.Prelude.{◌&&◌, is_none}
use Rattle.std.specs.List.{Contains}
use Rattle.std.specs.Int.{w32, int_wrapping_add}
use Rattle.std.proofs.lemmas.Bool.{and_parts}
use Rattle.mm_goto.specs.Bounds.{Bounding, bound_of}
use Rattle.mm_goto.specs.declared.model.Model.{Model}
use Rattle.mm_goto.specs.declared.program.Instr.{Instr}
use Rattle.mm_goto.specs.declared.program.Instr.TheVariants.{Set, Load, Store, Input, Jump, Branch, Assert, Assume, Fence, Lock, Unlock, Add, Cas, Start, Join, AtomBegin, AtomEnd, End}
use Rattle.mm_goto.specs.declared.program.Target.{Target}
use Rattle.mm_goto.specs.Checks.{targets}
use Rattle.mm_goto.specs.Flow.{GoesTo}
use Rattle.mm_goto.specs.Sites.{drains}
use Rattle.mm_goto.specs.Value.{value_of, is_zero}
use Rattle.mm_sched.specs.declared.entry.Rules.TheVariants.{Buffered}
use Rattle.mm_sched.specs.declared.entry.How.TheVariants.{Delayed, NotEnabled}
use Rattle.mm_sched.specs.declared.entry.Act.{Act}
use Rattle.mm_sched.specs.declared.entry.Act.TheVariants.{Goes, Assigns, Fails, Ends, Loads, Pushes, Fences, Takes, Gives, Updates, Misses, Starts, Joins, Enters, Leaves}
use Rattle.mm_sched.specs.Guarded.{◌>>=◌, guarded}
use Rattle.mm_sched.specs.State.{Frame, State, pending_of, at_cell}
use Rattle.mm_sched.specs.Buffer.{is_empty, part, seen, pends}
use Rattle.mm_sched.specs.Event.{cell_of, stored, locked, unlocked, begun, joined, is_owner, is_same, framed, act, input, is_int}
use Rattle.mm_sched.proofs.Steps.{bind-there}
use Rattle.mm_runkeys.specs.Keys.{deed}
use Rattle.mm_keeping.specs.Executions.{touched}

-- where the thread goes on, unless it ends
abbrev pub FlowOf : Frame → Instr → Act → Type 0
FlowOf f i Ends = Unit {0}
FlowOf f i a = GoesTo f.place i (framed f a).place

-- it starts and joins no thread
abbrev pub NoTurn : Act → Type 0
NoTurn (Starts u) = ⊥
NoTurn (Joins u) = ⊥
NoTurn a = Unit {0}

-- the start of a thread, and the wait for one, which has ended and has nothing pending
abbrev pub TurnOf : State → ℕ → Instr → Act → Type 0
TurnOf s t (Start u) a = (a ≡ Starts u) × (is_empty (pending_of s t) ≡ true)
TurnOf s t (Join u) a = (a ≡ Joins u) × (is_empty (pending_of s u) ≡ true) × ((g : Frame) × (slice_get s.threads u ≡ Some g) × (g.ended ≡ true))
TurnOf s t i a = NoTurn a

-- the cell is one that a target of the instruction has
abbrev pub CellOf : State → Frame → Instr → Option ℕ → Type 0
CellOf s f i o = IfSome o (λ c. (to : Target) × Contains (targets i) to × (cell_of (length s.memory) f.locals to ≡ Some c))

pub record Tells (s : State) (t : ℕ) (f : Frame) (i : Instr) (a : Act) : Type 0 where
  pub flow : FlowOf f i a
  pub drained : (deed a).drained ≡ drains i
  pub turn : TurnOf s t i a
  pub cell : CellOf s f i (touched a)

module _ (m : Model) (bound : Bounding) (s : State) (t : ℕ) (f : Frame) where
  abbrev Told : Instr → Act → Type 0
  Told i = Tells s t f i

  guarded_tells : (i : Instr) (b : Bool) (x : Option Act) → (b ≡ true → IfSome x (Told i)) → IfSome (guarded b x) (Told i)
  guarded_tells i true x h = h refl
  guarded_tells i false x h = tt

  pends_tells : (i : Instr) (b : Bool) (c : ℕ) (v : ℤ) → Told i (Pushes c v) → IfSome (stored (if b then Delayed else NotEnabled) c v) (Told i)
  pends_tells i true c v h = h
  pends_tells i false c v h = tt

  locked_tells : (i : Instr) (o : Option (Option ℕ)) (k : ℕ) → Told i (Takes k) → IfSome (locked o k) (Told i)
  locked_tells i None k h = tt
  locked_tells i (Some o) k h = guarded_tells i (is_none o) (Some (Takes k)) (λ b. h)

  unlocked_tells : (i : Instr) (o : Option (Option ℕ)) (k : ℕ) → Told i (Gives k) → IfSome (unlocked o t k) (Told i)
  unlocked_tells i None k h = tt
  unlocked_tells i (Some o) k h = guarded_tells i (is_owner t o) (Some (Gives k)) (λ b. h)

  begun_tells : (i : Instr) (o : Option Frame) (u : ℕ) → Told i (Starts u) → IfSome (begun o u) (Told i)
  begun_tells i None u h = tt
  begun_tells i (Some g) u h = guarded_tells i (not g.started) (Some (Starts u)) (λ b. h)

  joined_tells : (o : Option Frame) (u : ℕ) → slice_get s.threads u ≡ o → IfSome (joined o (is_empty (pending_of s u)) u) (Told (Join u))
  joined_tells None u e = tt
  joined_tells (Some g) u e = guarded_tells (Join u) (g.ended && is_empty (pending_of s u)) (Some (Joins u)) (λ b.
      let q = and_parts g.ended (is_empty (pending_of s u)) b in
      record { flow = refl; drained = refl; turn = (refl, q.1, (g, e, q.0)); cell = tt })

  matched : (l : ℕ) (to : Target) (e g : _) (c : ℕ) (w : ℤ) (b : Bool) → cell_of (length s.memory) f.locals to ≡ Some c → Told (Cas l to e g) (if b then Updates l (pos 1) c w else Misses l c)
  matched l to e g c w true d = record { flow = refl; drained = refl; turn = tt; cell = (to, (0, omega arith, refl), d) }
  matched l to e g c w false d = record { flow = refl; drained = refl; turn = tt; cell = (to, (0, omega arith, refl), d) }

  branched : (e : _) (k : ℕ) (b : Bool) → Told (Branch e k) (Goes (if b then k else f.place + 1))
  branched e k true = record { flow = inl refl; drained = refl; turn = tt; cell = tt }
  branched e k false = record { flow = inr refl; drained = refl; turn = tt; cell = tt }

  asserted : (e : _) (n : ℕ) (b : Bool) → Told (Assert e n) (if b then Fails n else Goes (f.place + 1))
  asserted e n true = record { flow = refl; drained = refl; turn = tt; cell = tt }
  asserted e n false = record { flow = refl; drained = refl; turn = tt; cell = tt }

  pub act_tells : (i : Instr) → IfSome (act (Buffered m bound) s t f i) (Told i)
  unfolding act
  act_tells (Set l e) = record { flow = refl; drained = refl; turn = tt; cell = tt }
  act_tells (Load l to) = bind-there (Told (Load l to)) (cell_of (length s.memory) f.locals to) (λ c. Some (Loads l c (seen s t c))) (λ c d. record { flow = refl; drained = refl; turn = tt; cell = (to, (0, omega arith, refl), d) })
  act_tells (Store to e) = bind-there (Told (Store to e)) (cell_of (length s.memory) f.locals to) (λ c. stored (pends m (bound_of bound t) (pending_of s t) c) c (value_of e f.locals)) (λ c d. pends_tells (Store to e) (nat_lt (length (part m (pending_of s t) c)) (bound_of bound t)) c (value_of e f.locals) (record { flow = refl; drained = refl; turn = tt; cell = (to, (0, omega arith, refl), d) }))
  act_tells (Input l) = tt
  act_tells (Jump k) = record { flow = refl; drained = refl; turn = tt; cell = tt }
  act_tells (Branch e k) = branched e k (is_zero (value_of e f.locals))
  act_tells (Assert e n) = asserted e n (is_zero (value_of e f.locals))
  act_tells (Assume e) = guarded_tells (Assume e) (not (is_zero (value_of e f.locals))) (Some (Goes (f.place + 1))) (λ b. record { flow = refl; drained = refl; turn = tt; cell = tt })
  act_tells Fence = guarded_tells Fence (is_empty (pending_of s t)) (Some Fences) (λ b. record { flow = refl; drained = refl; turn = tt; cell = tt })
  act_tells (Lock k) = guarded_tells (Lock k) (is_empty (pending_of s t)) (locked (slice_get s.owners k) k) (λ b. locked_tells (Lock k) (slice_get s.owners k) k (record { flow = refl; drained = refl; turn = tt; cell = tt }))
  act_tells (Unlock k) = guarded_tells (Unlock k) (is_empty (pending_of s t)) (unlocked (slice_get s.owners k) t k) (λ b. unlocked_tells (Unlock k) (slice_get s.owners k) k (record { flow = refl; drained = refl; turn = tt; cell = tt }))
  act_tells (Add l to e) = guarded_tells (Add l to e) (is_empty (pending_of s t)) (cell_of (length s.memory) f.locals to >>= (λ c. Some (Updates l (at_cell s c) c (int_wrapping_add w32 (at_cell s c) (value_of e f.locals))))) (λ b. bind-there (Told (Add l to e)) (cell_of (length s.memory) f.locals to) (λ c. Some (Updates l (at_cell s c) c (int_wrapping_add w32 (at_cell s c) (value_of e f.locals)))) (λ c d. record { flow = refl; drained = refl; turn = tt; cell = (to, (0, omega arith, refl), d) }))
  act_tells (Cas l to e g) = guarded_tells (Cas l to e g) (is_empty (pending_of s t)) (cell_of (length s.memory) f.locals to >>= (λ c. Some (if is_same (at_cell s c) (value_of e f.locals) then Updates l (pos 1) c (value_of g f.locals) else Misses l c))) (λ b. bind-there (Told (Cas l to e g)) (cell_of (length s.memory) f.locals to) (λ c. Some (if is_same (at_cell s c) (value_of e f.locals) then Updates l (pos 1) c (value_of g f.locals) else Misses l c)) (λ c d. matched l to e g c (value_of g f.locals) (is_same (at_cell s c) (value_of e f.locals)) d))
  act_tells (Start u) = guarded_tells (Start u) (is_empty (pending_of s t)) (begun (slice_get s.threads u) u) (λ b. begun_tells (Start u) (slice_get s.threads u) u (record { flow = refl; drained = refl; turn = (refl, b); cell = tt }))
  act_tells (Join u) = guarded_tells (Join u) (is_empty (pending_of s t)) (joined (slice_get s.threads u) (is_empty (pending_of s u)) u) (λ b. joined_tells (slice_get s.threads u) u refl)
  act_tells AtomBegin = guarded_tells AtomBegin (is_none s.section) (Some Enters) (λ b. record { flow = refl; drained = refl; turn = tt; cell = tt })
  act_tells AtomEnd = guarded_tells AtomEnd (is_owner t s.section) (Some Leaves) (λ b. record { flow = refl; drained = refl; turn = tt; cell = tt })
  act_tells End = record { flow = tt; drained = refl; turn = tt; cell = tt }

  pub input_tells : (i : Instr) (v : ℤ) → IfSome (input i v) (Told i)
  input_tells (Input l) v = guarded_tells (Input l) (is_int v) (Some (Assigns l v)) (λ b. record { flow = refl; drained = refl; turn = tt; cell = tt })
  input_tells i v = tt
