-- A machine with one thread, and the same where what the thread has pending has reached memory: what the thread does in
-- the one with store buffers, it does in the other without.
use Rattle.std.proofs.Common.{rules, ◌≡◌, ℕ, ◌<◌, ℤ, Bool, true, false, List, [], ◌∷◌, length, Option, Some, refl, sym, ap, subst, IfSome, if◌then◌else◌, nat_lt}
use Rattle.mm_goto.specs.declared.program.Target.{Target}
use Rattle.mm_goto.specs.declared.program.Instr.{Instr}
use Rattle.mm_goto.specs.declared.program.Instr.TheVariants.{Set, Load, Store, Input, Jump, Branch, Assert, Assume, Fence, Lock, Unlock, Add, Cas, Start, Join, AtomBegin, AtomEnd, End}
use Rattle.mm_goto.specs.declared.pure.Pure.{Pure}
use Rattle.mm_goto.specs.Bounds.{Bounding, bound_of}
use Rattle.mm_goto.specs.declared.model.Model.{Model}
use Rattle.mm_sched.specs.declared.entry.Rules.TheVariants.{Sc, Buffered}
use Rattle.mm_sched.specs.declared.entry.How.TheVariants.{Delayed, NotEnabled}
use Rattle.mm_sched.specs.declared.entry.Act.{Act}
use Rattle.mm_sched.specs.declared.entry.Act.TheVariants.{Goes, Assigns, Fails, Ends, Loads, Pushes, Puts, Fences, Takes, Gives, Updates, Misses, Starts, Joins, Enters, Leaves}
use Rattle.mm_sched.specs.Guarded.{◌>>=◌}
use Rattle.mm_sched.specs.State.{Frame, State, Pending, pending_of, at_cell}
use Rattle.mm_sched.specs.Buffer.{is_empty, seen, part, pends}
use Rattle.mm_sched.specs.Event.{act, acted, cell_of, stored, input}
use Rattle.mm_goto.specs.Value.{value_of}
use Rattle.mm_sched.proofs.Steps.{guarded-if, bind-if, either-if, if-at, locked-if, unlocked-if, begun-if, joined-if}
use Rattle.mm_sched.proofs.Laid.{laid, laid-append, laid-reads, length-laid}
use Rattle.mm_sched.proofs.Matched.{Matched, matched-bind, matched-same}

-- the state of one thread that has these pending
abbrev pub loaded : State → List Pending → State
loaded s ps = record s { pending = ps ∷ [] }

-- the same where they have reached memory
abbrev pub settled : State → List Pending → State
settled s ps = record s { memory = laid s.memory ps; pending = [] ∷ [] }

-- the same for what main has pending
abbrev pub settle : State → State
settle s = settled s (pending_of s 0)

-- ---- what an act changes

-- the act does the same in both
abbrev pub IsReady : List Pending → Act → Type 0
IsReady ps (Pushes c v) = ⊥
IsReady ps (Puts c v) = is_empty ps ≡ true
IsReady ps (Updates l v c w) = is_empty ps ≡ true
IsReady ps _ = Unit {0}

-- the one act, and then a settling, is a settling and then the other act
abbrev pub SettlesTo : State → List Pending → Act → Act → Type 0
SettlesTo s ps a b = settle (acted (loaded s ps) 0 a) ≡ acted (settled s ps) 0 b

ready-settles : (s : State) (ps : List Pending) (a : Act) → IsReady ps a → SettlesTo s ps a a
unfolding acted
ready-settles s ps (Pushes c v) r = absurd r
ready-settles s [] (Puts c v) r = refl
ready-settles s (q ∷ ps) (Puts c v) r = cc
ready-settles s [] (Updates l v c w) r = refl
ready-settles s (q ∷ ps) (Updates l v c w) r = cc
ready-settles s ps (Goes k) r = refl
ready-settles s ps (Assigns l v) r = refl
ready-settles s ps (Fails n) r = refl
ready-settles s ps Ends r = refl
ready-settles s ps (Loads l c v) r = refl
ready-settles s ps Fences r = refl
ready-settles s ps (Takes m) r = refl
ready-settles s ps (Gives m) r = refl
ready-settles s ps (Misses l c) r = refl
ready-settles s ps (Starts u) r = refl
ready-settles s ps (Joins u) r = refl
ready-settles s ps Enters r = refl
ready-settles s ps Leaves r = refl

push-settles : (s : State) (ps : List Pending) (c : ℕ) (v : ℤ) → SettlesTo s ps (Pushes c v) (Puts c v)
unfolding acted
push-settles s ps c v = ap (λ memory. record (acted (settled s ps) 0 (Puts c v)) { memory = memory }) (laid-append s.memory ps c v)

-- ---- what the thread does

ruleset ready = (guarded-if, bind-if, either-if, locked-if, unlocked-if, begun-if, joined-if)

-- the cell that the instruction loads, where it loads one, is one of the cells
abbrev pub LoadsWithin : State → Frame → Instr → Type 0
LoadsWithin s f (Load l target) = IfSome (cell_of (length s.memory) f.locals target) (λ c. c < length s.memory)
LoadsWithin s f _ = Unit {0}

module _ (m : Model) (bound : Bounding) (s : State) where
  -- what the thread does with these pending, and what it does where they have reached memory
  abbrev pub DoesAlike : List Pending → Frame → Instr → Type 0
  DoesAlike ps f i = Matched (SettlesTo s ps) (act (Buffered m bound) (loaded s ps) 0 f i) (act Sc (settled s ps) 0 f i)

  alike : (ps : List Pending) (o : Option Act) → IfSome o (IsReady ps) → Matched (SettlesTo s ps) o o
  alike ps o h = matched-same (SettlesTo s ps) (IsReady ps) o h (ready-settles s ps)

  load-alike : (ps : List Pending) (f : Frame) (l : ℕ) (target : Target) → LoadsWithin s f (Load l target) → DoesAlike ps f (Load l target)
  unfolding act
  load-alike ps f l target h = subst
      (λ n. Matched (SettlesTo s ps) (cell_of (length s.memory) f.locals target >>= (λ c. Some (Loads l c (seen (loaded s ps) 0 c)))) (cell_of n f.locals target >>= (λ c. Some (Loads l c (at_cell (settled s ps) c)))))
      (sym (length-laid s.memory ps))
      (matched-bind (SettlesTo s ps) (cell_of (length s.memory) f.locals target) (λ c. Some (Loads l c (seen (loaded s ps) 0 c))) (λ c. Some (Loads l c (at_cell (settled s ps) c))) (λ c d.
      subst (λ v. SettlesTo s ps (Loads l c (seen (loaded s ps) 0 c)) (Loads l c v)) (sym (laid-reads ps s.memory c (if-at (λ k. k < length s.memory) (cell_of (length s.memory) f.locals target) c d h))) (ready-settles s ps (Loads l c (seen (loaded s ps) 0 c)) tt)))

  pends-alike : (ps : List Pending) (room : Bool) (c : ℕ) (v : ℤ) → Matched (SettlesTo s ps) (stored (if room then Delayed else NotEnabled) c v) (Some (Puts c v))
  pends-alike ps true c v = push-settles s ps c v
  pends-alike ps false c v = tt

  store-alike : (ps : List Pending) (f : Frame) (target : Target) (e : Pure) → DoesAlike ps f (Store target e)
  unfolding act
  store-alike ps f target e = subst
      (λ n. Matched (SettlesTo s ps) (cell_of (length s.memory) f.locals target >>= (λ c. stored (pends m (bound_of bound 0) ps c) c (value_of e f.locals))) (cell_of n f.locals target >>= (λ c. Some (Puts c (value_of e f.locals)))))
      (sym (length-laid s.memory ps))
      (matched-bind (SettlesTo s ps) (cell_of (length s.memory) f.locals target) (λ c. stored (pends m (bound_of bound 0) ps c) c (value_of e f.locals)) (λ c. Some (Puts c (value_of e f.locals))) (λ c d.
      pends-alike ps (nat_lt (length (part m ps c)) (bound_of bound 0)) c (value_of e f.locals)))

  pub act-alike : (ps : List Pending) (f : Frame) (i : Instr) → LoadsWithin s f i → DoesAlike ps f i
  unfolding act
  act-alike ps f (Load l target) h = load-alike ps f l target h
  act-alike ps f (Store target e) h = store-alike ps f target e
  act-alike ps f (Set l e) h = alike ps (Some (Assigns l (value_of e f.locals))) tt
  act-alike ps f (Input l) h = tt
  act-alike ps f (Jump k) h = alike ps (Some (Goes k)) tt
  act-alike ps f (Branch e k) h = alike ps (act Sc (settled s ps) 0 f (Branch e k)) tt
  act-alike ps f (Assert e n) h = alike ps (act Sc (settled s ps) 0 f (Assert e n)) (search (rules, ready))
  act-alike ps f (Assume e) h = alike ps (act Sc (settled s ps) 0 f (Assume e)) (search (rules, ready))
  act-alike (q ∷ ps) f Fence h = tt
  act-alike [] f Fence h = alike [] (act Sc (settled s []) 0 f Fence) tt
  act-alike (q ∷ ps) f (Lock k) h = tt
  act-alike [] f (Lock k) h = alike [] (act Sc (settled s []) 0 f (Lock k)) (search (rules, ready))
  act-alike (q ∷ ps) f (Unlock k) h = tt
  act-alike [] f (Unlock k) h = alike [] (act Sc (settled s []) 0 f (Unlock k)) (search (rules, ready))
  act-alike (q ∷ ps) f (Add l target e) h = tt
  act-alike [] f (Add l target e) h = alike [] (act Sc (settled s []) 0 f (Add l target e)) (search (rules, ready))
  act-alike (q ∷ ps) f (Cas l target e g) h = tt
  act-alike [] f (Cas l target e g) h = alike [] (act Sc (settled s []) 0 f (Cas l target e g)) (search (rules, ready))
  act-alike (q ∷ ps) f (Start u) h = tt
  act-alike [] f (Start u) h = alike [] (act Sc (settled s []) 0 f (Start u)) (search (rules, ready))
  act-alike (q ∷ ps) f (Join u) h = tt
  act-alike [] f (Join u) h = alike [] (act Sc (settled s []) 0 f (Join u)) (search (rules, ready))
  act-alike ps f AtomBegin h = alike ps (act Sc (settled s ps) 0 f AtomBegin) (search (rules, ready))
  act-alike ps f AtomEnd h = alike ps (act Sc (settled s ps) 0 f AtomEnd) (search (rules, ready))
  act-alike ps f End h = alike ps (Some Ends) tt

  -- what it does by an Input
  pub input-alike : (ps : List Pending) (i : Instr) (v : ℤ) → Matched (SettlesTo s ps) (input i v) (input i v)
  input-alike ps (Input l) v = alike ps (input (Input l) v) (search (rules, ready))
  input-alike ps _ v = tt
