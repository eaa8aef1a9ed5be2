-- Under sequential consistency nothing is ever pending.
use Rattle.std.proofs.Common.{rules, ◌≡◌, ℕ, zero, suc, ℤ, List, [], ◌∷◌, map, slice_get, slice_index_or, Option, Some, None, refl, ap, ◌∙◌, IfSome}
use Rattle.mm_goto.specs.declared.program.Thread.{Thread}
use Rattle.mm_goto.specs.declared.program.Instr.{Instr}
use Rattle.mm_goto.specs.declared.program.Instr.TheVariants.{Set, Load, Store, Input, Jump, Branch, Assert, Assume, Fence, Lock, Unlock, Add, Cas, Start, Join, AtomBegin, AtomEnd, End}
use Rattle.mm_sched.specs.declared.entry.Entry.{Entry}
use Rattle.mm_sched.specs.declared.entry.Entry.TheVariants.{Step, In, Flush, FlushCell}
use Rattle.mm_sched.specs.declared.entry.Rules.TheVariants.{Sc}
use Rattle.mm_sched.specs.declared.entry.Act.{Act}
use Rattle.mm_sched.specs.declared.entry.Act.TheVariants.{Goes, Assigns, Fails, Ends, Loads, Pushes, Puts, Fences, Takes, Gives, Updates, Misses, Starts, Joins, Enters, Leaves}
use Rattle.mm_sched.specs.declared.entry.Event.{Event}
use Rattle.mm_sched.specs.declared.entry.Event.TheVariants.{Does, Flushes}
use Rattle.mm_sched.specs.Guarded.{◌>>=◌, guarded}
use Rattle.mm_goto.specs.Listing.{Listing}
use Rattle.mm_sched.specs.State.{Frame, State, Pending, initial, pending_of}
use Rattle.mm_sched.specs.Event.{act, acted, after, event, next, input, does, fetched, may_step}
use Rattle.mm_sched.specs.Runs.{run}
use Rattle.mm_sched.proofs.Steps.{guarded-if, bind-if, bind-with, map-with, either-if, if-at, locked-if, unlocked-if, begun-if, joined-if}

-- the act makes no store pending
abbrev pub IsQuiet : Act → Type 0
IsQuiet (Pushes c v) = ⊥
IsQuiet (Goes k) = Unit {0}
IsQuiet (Assigns l v) = Unit {0}
IsQuiet (Fails n) = Unit {0}
IsQuiet Ends = Unit {0}
IsQuiet (Loads l c v) = Unit {0}
IsQuiet (Puts c v) = Unit {0}
IsQuiet Fences = Unit {0}
IsQuiet (Takes m) = Unit {0}
IsQuiet (Gives m) = Unit {0}
IsQuiet (Updates l v c w) = Unit {0}
IsQuiet (Misses l c) = Unit {0}
IsQuiet (Starts u) = Unit {0}
IsQuiet (Joins u) = Unit {0}
IsQuiet Enters = Unit {0}
IsQuiet Leaves = Unit {0}

abbrev pub IsQuietEvent : Event → Type 0
IsQuietEvent (Does t a) = IsQuiet a
IsQuietEvent (Flushes t c v) = ⊥

ruleset quiet = (guarded-if, bind-if, either-if, locked-if, unlocked-if, begun-if, joined-if)

act-quiet : (s : State) (t : ℕ) (f : Frame) (i : Instr) → IfSome (act Sc s t f i) IsQuiet
unfolding act
act-quiet s t f (Set l e) = tt
act-quiet s t f (Load l target) = search (rules, quiet)
act-quiet s t f (Store target e) = search (rules, quiet)
act-quiet s t f (Input l) = tt
act-quiet s t f (Jump k) = tt
act-quiet s t f (Branch e k) = tt
act-quiet s t f (Assert e n) = search (rules, quiet)
act-quiet s t f (Assume e) = search (rules, guarded-if)
act-quiet s t f Fence = search (rules, guarded-if)
act-quiet s t f (Lock m) = search (rules, quiet)
act-quiet s t f (Unlock m) = search (rules, quiet)
act-quiet s t f (Add l target e) = search (rules, quiet)
act-quiet s t f (Cas l target e g) = search (rules, quiet)
act-quiet s t f (Start u) = search (rules, quiet)
act-quiet s t f (Join u) = search (rules, quiet)
act-quiet s t f AtomBegin = search (rules, guarded-if)
act-quiet s t f AtomEnd = search (rules, guarded-if)
act-quiet s t f End = tt

input-quiet : (i : Instr) (v : ℤ) → IfSome (input i v) IsQuiet
input-quiet (Input l) v = search (rules, guarded-if)
input-quiet (Set l e) v = tt
input-quiet (Load l target) v = tt
input-quiet (Store target e) v = tt
input-quiet (Jump k) v = tt
input-quiet (Branch e k) v = tt
input-quiet (Assert e n) v = tt
input-quiet (Assume e) v = tt
input-quiet Fence v = tt
input-quiet (Lock m) v = tt
input-quiet (Unlock m) v = tt
input-quiet (Add l target e) v = tt
input-quiet (Cas l target e g) v = tt
input-quiet (Start u) v = tt
input-quiet (Join u) v = tt
input-quiet AtomBegin v = tt
input-quiet AtomEnd v = tt
input-quiet End v = tt

does-quiet : (p : Listing) (s : State) (t : ℕ) (what : Frame → Instr → Option Act) → ((f : Frame) (i : Instr) → IfSome (what f i) IsQuiet) → IfSome (does p s t what) IsQuietEvent
does-quiet p s t what h =
    bind-if IsQuietEvent (slice_get s.threads t) (λ f. fetched p t f.place >>= (λ i. act_of f i)) (λ f.
    bind-if IsQuietEvent (fetched p t f.place) (act_of f) (λ i.
    bind-with IsQuietEvent IsQuiet (guarded (may_step s t f) (what f i)) (λ a. Some (Does t a)) (guarded-if IsQuiet (may_step s t f) (what f i) (h f i)) (λ a q. q)))
  where
    act_of : Frame → Instr → Option Event
    act_of f i = guarded (may_step s t f) (what f i) >>= (λ a. Some (Does t a))

event-quiet : (p : Listing) (s : State) (e : Entry) → IfSome (event Sc p s e) IsQuietEvent
unfolding event
event-quiet p s (Step t) = does-quiet p s t (act Sc s t) (act-quiet s t)
event-quiet p s (In t v) = does-quiet p s t (λ f i. input i v) (λ f i. input-quiet i v)
event-quiet p s (Flush t) = tt
event-quiet p s (FlushCell t c) = tt

-- the step leaves each pending list
abbrev pub KeepsPending : State → State → Type 0
KeepsPending s s' = s'.pending ≡ s.pending

acted-keeps : (s : State) (t : ℕ) (a : Act) → IsQuiet a → KeepsPending s (acted s t a)
unfolding acted
acted-keeps s t (Goes k) q = refl
acted-keeps s t (Assigns l v) q = refl
acted-keeps s t (Fails n) q = refl
acted-keeps s t Ends q = refl
acted-keeps s t (Loads l c v) q = refl
acted-keeps s t (Pushes c v) q = absurd q
acted-keeps s t (Puts c v) q = refl
acted-keeps s t Fences q = refl
acted-keeps s t (Takes m) q = refl
acted-keeps s t (Gives m) q = refl
acted-keeps s t (Updates l v c w) q = refl
acted-keeps s t (Misses l c) q = refl
acted-keeps s t (Starts u) q = refl
acted-keeps s t (Joins u) q = refl
acted-keeps s t Enters q = refl
acted-keeps s t Leaves q = refl

after-keeps : (s : State) (v : Event) → IsQuietEvent v → KeepsPending s (after s v)
after-keeps s (Does t a) q = acted-keeps s t a q
after-keeps s (Flushes t c v) q = absurd q

next-keeps : (p : Listing) (s : State) (e : Entry) → IfSome (next Sc p s e) (KeepsPending s)
next-keeps p s e = map-with (KeepsPending s) IsQuietEvent (after s) (event Sc p s e) (event-quiet p s e) (after-keeps s)

pub run-keeps : (p : Listing) (s : State) (es : List Entry) → IfSome (run Sc p s es) (KeepsPending s)
run-keeps p s [] = refl
run-keeps p s (e ∷ es) = bind-with (KeepsPending s) (KeepsPending s) (next Sc p s e) (λ mid. run Sc p mid es) (next-keeps p s e) (λ mid h. on_to mid h (run Sc p mid es) (run-keeps p mid es))
  where
    on_to : (mid : State) → KeepsPending s mid → (o : Option State) → IfSome o (KeepsPending mid) → IfSome o (KeepsPending s)
    on_to mid h None k = tt
    on_to mid h (Some last) k = k ∙ h

pub no-pending : (xs : List Thread) (t : ℕ) → slice_index_or {A = List Pending} (map (λ thread. []) xs) t [] ≡ []
no-pending [] t = refl
no-pending (x ∷ xs) zero = refl
no-pending (x ∷ xs) (suc t) = no-pending xs t

pub run-quiet : (p : Listing) (es : List Entry) (s : State) → run Sc p (initial p) es ≡ Some s → (t : ℕ) → pending_of s t ≡ []
unfolding initial
run-quiet p es s e t = ap (λ ps. slice_index_or ps t []) (if-at (KeepsPending (initial p)) (run Sc p (initial p) es) s e (run-keeps p (initial p) es)) ∙ no-pending p.threads t
