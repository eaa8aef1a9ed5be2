-- What happens by an entry can happen in a machine that fits the program, and leaves it one that does.
use Rattle.std.proofs.Common.{arith, ◌≡◌, ◌≢◌, ℕ, zero, suc, ◌+◌, ◌^◌, ◌<◌, ◌≤◌, ◌==◌, ℤ, pos, Bool, true, false, not, ◌&&◌, List, [], ◌∷◌, ◌++◌, length, length-append, slice_get, slice_index_or, Option, Some, None, is_none, IfSome, cond, refl, sym, ◌∙◌, ap, subst, if◌then◌else◌, nat_lt}
use Rattle.std.specs.List.{filter, find}
use Rattle.std.proofs.lemmas.Bool.{ltb-true, eqb-true}
use Rattle.std.proofs.lemmas.Option.{slice_get_within, get_or_from_slice_get, IfSome_then}
use Rattle.std.proofs.lemmas.List.Elements.{All-head, All-tail, All-push, filter-append}
use Rattle.mm_goto.specs.Bounds.{bound_of}
use Rattle.mm_goto.specs.declared.model.Model.{Model}
use Rattle.mm_goto.specs.declared.model.Model.TheVariants.{Tso, Pso}
use Rattle.mm_goto.specs.declared.program.Instr.{Instr}
use Rattle.mm_goto.specs.declared.program.Instr.TheVariants.{Set, Load, Store, Input, Jump, Branch, Assert, Assume, Fence, Lock, Unlock, Add, Cas, Start, Join, AtomBegin, AtomEnd, End}
use Rattle.mm_goto.specs.Listing.{Listing}
use Rattle.mm_goto.specs.Value.{value_of}
use Rattle.mm_sched.specs.declared.entry.Entry.{Entry}
use Rattle.mm_sched.specs.declared.entry.Entry.TheVariants.{Step, In, Flush, FlushCell}
use Rattle.mm_sched.specs.declared.entry.Rules.{Rules}
use Rattle.mm_sched.specs.declared.entry.Rules.TheVariants.{Sc, Buffered, Partial}
use Rattle.mm_sched.specs.declared.entry.How.TheVariants.{AtOnce, Delayed, NotEnabled}
use Rattle.mm_sched.specs.declared.entry.Act.{Act}
use Rattle.mm_sched.specs.declared.entry.Act.TheVariants.{Goes, Assigns, Fails, Ends, Loads, Pushes, Puts, Fences, Takes, Gives, Updates, Misses, Starts, Joins, Enters, Leaves}
use Rattle.mm_sched.specs.declared.entry.Event.{Event}
use Rattle.mm_sched.specs.declared.entry.Event.TheVariants.{Does, Flushes}
use Rattle.mm_sched.specs.Guarded.{◌>>=◌, guarded}
use Rattle.mm_sched.specs.State.{Frame, State, Pending, frame_of, pending_of, at_cell, idle}
use Rattle.mm_sched.specs.Buffer.{is_empty, is_to, part, seen, pends, writes, is_in, store_of, flush_under, flush_of}
use Rattle.mm_sched.specs.Event.{cell_of, may_step, fetched, stored, locked, unlocked, begun, joined, is_owner, is_open_to, act, input, does, flushes, event}
use Rattle.mm_sched.specs.Running.{Roomy}
use Rattle.mm_sched.specs.Invariant.{IsBounded, IsWithin, Fits, IsLocalWithin, IsThere, CanHappen, room_of}
use Rattle.mm_sched.proofs.Steps.{guarded-if, bind-if, bind-with, either-if, bind-there, guarded-there, if-at}
use Rattle.mm_sched.proofs.Within.{All-get}
use Rattle.mm_sched.proofs.Possibly.{target_within, fetched_within, fetched_place}
use Rattle.mm_sched.proofs.Drops.{flush-none}
use Rattle.mm_sched.proofs.Rooms.{AreTo, bounded-room}

-- ---- acts

-- what the act of thread t changes is there, and no more are pending than the rules let be
abbrev pub IsSound : Rules → State → ℕ → Act → Type 0
IsSound r s t (Pushes c v) = (c < length s.memory) × IsBounded r t (pending_of s t ++ (c, v) ∷ [])
IsSound r s t (Puts c v) = c < length s.memory
IsSound r s t (Updates l v c w) = c < length s.memory
IsSound r s t (Takes k) = k < length s.owners
IsSound r s t (Gives k) = k < length s.owners
IsSound r s t (Starts u) = (u < length s.threads) × (u ≢ t)
IsSound r s t (Loads l c v) = c < length s.memory
IsSound r s t (Misses l c) = c < length s.memory
IsSound r s t (Joins u) = u < length s.threads
IsSound r s t _ = Unit {0}

pub record Sound (r : Rules) (s : State) (t : ℕ) (a : Act) : Type 0 where
  pub thread : t < length s.threads
  pub place : (frame_of s t).place + 1 < 2 ^ 32
  pub local : IsLocalWithin (length (frame_of s t).locals) a
  pub there : IsSound r s t a

-- one more to a cell with room is within the bound
push-bounded : (m : Model) (bound : ℕ) (ps : List Pending) (c : ℕ) (v : ℤ) → ((d : ℕ) → length (part m ps d) ≤ bound) → length (part m ps c) < bound → (d : ℕ) → length (part m (ps ++ (c, v) ∷ []) d) ≤ bound
push-bounded Tso bound ps c v h l d = omega (arith, length-append ps ((c, v) ∷ []))
push-bounded Pso bound ps c v h l d = rw (filter-append (is_to d) ps ((c, v) ∷ [])) (go (c == d) refl)
  where
    go : (b : Bool) → (c == d) ≡ b → length (filter (is_to d) ps ++ cond b ((c, v) ∷ []) []) ≤ bound
    go true e =
        let same : c ≡ d = eqb-true c d e in
        let less : length (filter (is_to d) ps) < bound = subst (λ k. length (filter (is_to k) ps) < bound) same l in
        omega (arith, length-append (filter (is_to d) ps) ((c, v) ∷ []))
    go false e = let most : length (filter (is_to d) ps) ≤ bound = h d in omega (arith, length-append {A = Pending} (filter (is_to d) ps) [])

-- the step is made where the test holds
guarded-given : {A : Type 0} (P : A → Type 0) (b : Bool) (o : Option A) → (b ≡ true → IfSome o P) → IfSome (guarded b o) P
guarded-given P true o h = h refl
guarded-given P false o h = tt

-- a thread that is not started is not the one that steps
not-itself : (s : State) (t u : ℕ) (g : Frame) → (frame_of s t).started ≡ true → slice_get s.threads u ≡ Some g → not g.started ≡ true → u ≢ t
not-itself s t u g runs at idles e =
    let same : frame_of s u ≡ g = get_or_from_slice_get s.threads u g idle at in
    let on : g.started ≡ true = ap (λ (f : Frame). f.started) (sym same) ∙ ap (λ k. (frame_of s k).started) e ∙ runs in
    let off : not g.started ≡ false = ap not on in
    cc

module _ (r : Rules) (s : State) (t : ℕ) (thread : t < length s.threads) (place : (frame_of s t).place + 1 < 2 ^ 32) (started : (frame_of s t).started ≡ true) where
  sound : (a : Act) → IsLocalWithin (length (frame_of s t).locals) a → IsSound r s t a → Sound r s t a
  sound a l h = record { thread = thread; place = place; local = l; there = h }

  locked-sound : (o : Option (Option ℕ)) (k : ℕ) → slice_get s.owners k ≡ o → IfSome (locked o k) (Sound r s t)
  locked-sound None k e = tt
  locked-sound (Some owner) k e = guarded-if (Sound r s t) _ (Some (Takes k)) (sound (Takes k) tt (slice_get_within s.owners k owner e))

  unlocked-sound : (o : Option (Option ℕ)) (k : ℕ) → slice_get s.owners k ≡ o → IfSome (unlocked o t k) (Sound r s t)
  unlocked-sound None k e = tt
  unlocked-sound (Some owner) k e = guarded-if (Sound r s t) (is_owner t owner) (Some (Gives k)) (sound (Gives k) tt (slice_get_within s.owners k owner e))

  begun-sound : (o : Option Frame) (u : ℕ) → slice_get s.threads u ≡ o → IfSome (begun o u) (Sound r s t)
  begun-sound None u e = tt
  begun-sound (Some g) u e = guarded-given (Sound r s t) (not g.started) (Some (Starts u)) (λ no. sound (Starts u) tt (slice_get_within s.threads u g e, not-itself s t u g started e no))

  joined-sound : (o : Option Frame) (empty : Bool) (u : ℕ) → slice_get s.threads u ≡ o → IfSome (joined o empty u) (Sound r s t)
  joined-sound None empty u e = tt
  joined-sound (Some g) empty u e = guarded-if (Sound r s t) (g.ended && empty) (Some (Joins u)) (sound (Joins u) tt (slice_get_within s.threads u g e))

  -- the store, where there is room and where nothing counts
  pends-sound : (m : Model) (bound c : ℕ) (v : ℤ) → (length (part m (pending_of s t) c) < bound → Sound r s t (Pushes c v)) → IfSome (stored (pends m bound (pending_of s t) c) c v) (Sound r s t)
  pends-sound m bound c v h = go (nat_lt (length (part m (pending_of s t) c)) bound) refl
    where
      go : (b : Bool) → nat_lt (length (part m (pending_of s t) c)) bound ≡ b → IfSome (stored (if b then Delayed else NotEnabled) c v) (Sound r s t)
      go true e = h (ltb-true (length (part m (pending_of s t) c)) bound e)
      go false e = tt

  writes-sound : (m : Model) (c : ℕ) (v : ℤ) → Sound r s t (Puts c v) → IfSome (stored (writes m (pending_of s t) c) c v) (Sound r s t)
  writes-sound m c v h = go (is_empty (part m (pending_of s t) c))
    where
      go : (b : Bool) → IfSome (stored (if b then AtOnce else NotEnabled) c v) (Sound r s t)
      go true = h
      go false = tt

store-sound : (r : Rules) (s : State) (t k c : ℕ) (v : ℤ) → t < length s.threads → (frame_of s t).place + 1 < 2 ^ 32 → (frame_of s t).started ≡ true → IsBounded r t (pending_of s t) → c < length s.memory → IfSome (stored (store_of r t k (pending_of s t) c) c v) (Sound r s t)
store-sound Sc s t k c v thread place started h l = sound Sc s t thread place started (Puts c v) tt l
store-sound (Buffered m bound) s t k c v thread place started h l = pends-sound (Buffered m bound) s t thread place started m (bound_of bound t) c v (λ few. sound (Buffered m bound) s t thread place started (Pushes c v) tt (l, push-bounded m (bound_of bound t) (pending_of s t) c v h few))
store-sound (Partial m bound set) s t k c v thread place started h l = go (is_in set t k)
  where
    go : (b : Bool) → IfSome (stored (if b then pends m (bound_of bound t) (pending_of s t) c else writes m (pending_of s t) c) c v) (Sound (Partial m bound set) s t)
    go true = pends-sound (Partial m bound set) s t thread place started m (bound_of bound t) c v (λ few. sound (Partial m bound set) s t thread place started (Pushes c v) tt (l, push-bounded m (bound_of bound t) (pending_of s t) c v h few))
    go false = writes-sound (Partial m bound set) s t thread place started m c v (sound (Partial m bound set) s t thread place started (Puts c v) tt l)

module _ (r : Rules) (s : State) (t : ℕ) (thread : t < length s.threads) (place : (frame_of s t).place + 1 < 2 ^ 32) (started : (frame_of s t).started ≡ true) where
  abbrev Is : Act → Type 0
  Is = Sound r s t

  ok : (a : Act) → IsLocalWithin (length (frame_of s t).locals) a → IsSound r s t a → Is a
  ok = sound r s t thread place started

  act-sound : (i : Instr) → IsBounded r t (pending_of s t) → IsWithin (length s.memory) (length (frame_of s t).locals) i → IfSome (act r s t (frame_of s t) i) Is
  unfolding act
  act-sound (Set l e) b h = ok (Assigns l _) h.0 tt
  act-sound (Load l target) b h = bind-with Is (λ c. c < length s.memory) (cell_of (length s.memory) (frame_of s t).locals target) (λ c. Some (Loads l c (seen s t c))) (target_within (length s.memory) (length (frame_of s t).locals) (frame_of s t).locals target h.1) (λ c k. ok (Loads l c (seen s t c)) h.0 k)
  act-sound (Store target e) b h = bind-with Is (λ c. c < length s.memory) (cell_of (length s.memory) (frame_of s t).locals target) (λ c. stored (store_of r t (frame_of s t).place (pending_of s t) c) c (value_of e (frame_of s t).locals)) (target_within (length s.memory) (length (frame_of s t).locals) (frame_of s t).locals target h.0) (λ c l. store-sound r s t (frame_of s t).place c (value_of e (frame_of s t).locals) thread place started b l)
  act-sound (Input l) b h = tt
  act-sound (Jump k) b h = ok (Goes k) tt tt
  act-sound (Branch e k) b h = ok (Goes _) tt tt
  act-sound (Assert e n) b h = either-if Is _ (Fails n) (Goes ((frame_of s t).place + 1)) (ok (Fails n) tt tt) (ok (Goes ((frame_of s t).place + 1)) tt tt)
  act-sound (Assume e) b h = guarded-if Is _ (Some (Goes ((frame_of s t).place + 1))) (ok (Goes ((frame_of s t).place + 1)) tt tt)
  act-sound Fence b h = guarded-if Is _ (Some Fences) (ok Fences tt tt)
  act-sound (Lock k) b h = guarded-if Is _ (locked (slice_get s.owners k) k) (locked-sound r s t thread place started (slice_get s.owners k) k refl)
  act-sound (Unlock k) b h = guarded-if Is _ (unlocked (slice_get s.owners k) t k) (unlocked-sound r s t thread place started (slice_get s.owners k) k refl)
  act-sound (Add l target e) b h = guarded-if Is _ _ (bind-with Is (λ c. c < length s.memory) (cell_of (length s.memory) (frame_of s t).locals target) _ (target_within (length s.memory) (length (frame_of s t).locals) (frame_of s t).locals target h.1) (λ c k. ok (Updates l (at_cell s c) c _) h.0 k))
  act-sound (Cas l target e g) b h = guarded-if Is _ _ (bind-with Is (λ c. c < length s.memory) (cell_of (length s.memory) (frame_of s t).locals target) _ (target_within (length s.memory) (length (frame_of s t).locals) (frame_of s t).locals target h.1) (λ c k. either-if Is _ (Updates l (pos 1) c (value_of g (frame_of s t).locals)) (Misses l c) (ok (Updates l (pos 1) c (value_of g (frame_of s t).locals)) h.0 k) (ok (Misses l c) h.0 k)))
  act-sound (Start u) b h = guarded-if Is _ (begun (slice_get s.threads u) u) (begun-sound r s t thread place started (slice_get s.threads u) u refl)
  act-sound (Join u) b h = guarded-if Is _ (joined (slice_get s.threads u) (is_empty (pending_of s u)) u) (joined-sound r s t thread place started (slice_get s.threads u) (is_empty (pending_of s u)) u refl)
  act-sound AtomBegin b h = guarded-if Is _ (Some Enters) (ok Enters tt tt)
  act-sound AtomEnd b h = guarded-if Is _ (Some Leaves) (ok Leaves tt tt)
  act-sound End b h = ok Ends tt tt

  input-sound : (i : Instr) (v : ℤ) → IsWithin (length s.memory) (length (frame_of s t).locals) i → IfSome (input i v) Is
  input-sound (Input l) v h = guarded-if Is _ (Some (Assigns l v)) (ok (Assigns l v) h tt)
  input-sound _ v h = tt

-- ---- events

abbrev pub IsSoundEvent : Rules → State → Event → Type 0
IsSoundEvent r s (Does t a) = Sound r s t a
IsSoundEvent r s (Flushes t c v) = (t < length s.pending) × (c < length s.memory)

may-started : (s : State) (t : ℕ) (f : Frame) → may_step s t f ≡ true → f.started ≡ true
may-started s t f e = and-left f.started (not f.ended) (and-left (f.started && not f.ended) (is_none s.verdict) (and-left (f.started && not f.ended && is_none s.verdict) (is_open_to t s.section) e))
  where
    and-left : (a b : Bool) → (a && b) ≡ true → a ≡ true
    and-left true b h = refl
    and-left false b h = h

does-sound : (r : Rules) (p : Listing) (s : State) (t : ℕ) (what : Frame → Instr → Option Act) → Fits r p s → ((i : Instr) → t < length s.threads → (frame_of s t).place + 1 < 2 ^ 32 → (frame_of s t).started ≡ true → IsWithin (length s.memory) (length (frame_of s t).locals) i → IfSome (what (frame_of s t) i) (Sound r s t)) → IfSome (does p s t what) (IsSoundEvent r s)
does-sound r p s t what fits h =
    bind-there (IsSoundEvent r s) (slice_get s.threads t) (λ f. fetched p t f.place >>= (λ i. guarded (may_step s t f) (what f i) >>= (λ a. Some (Does t a)))) (λ f at.
    let here : frame_of s t ≡ f = get_or_from_slice_get s.threads t f idle at in
    bind-there (IsSoundEvent r s) (fetched p t f.place) (λ i. guarded (may_step s t f) (what f i) >>= (λ a. Some (Does t a))) (λ i got.
    guarded-there (IsSoundEvent r s) (may_step s t f) (what f i) (λ a. Some (Does t a)) (λ may.
    bind-with (IsSoundEvent r s) (Sound r s t) (what f i) (λ a. Some (Does t a))
    (subst (λ (g : Frame). IfSome (what g i) (Sound r s t)) here
    (h i (slice_get_within s.threads t f at)
    (subst (λ (g : Frame). g.place + 1 < 2 ^ 32) (sym here) (fetched_place r p s fits t f.place i got))
    (ap (λ (g : Frame). g.started) here ∙ may-started s t f may)
    (subst (λ (g : Frame). IsWithin (length s.memory) (length g.locals) i) (sym here) (fetched_within r p s fits t f i at got))))
    (λ a q. q))))

-- what a flush takes is one of the pending stores
flush-under-one : (m : Model) (e : Entry) (cells : ℕ) (ps : List Pending) → AreTo cells ps → IfSome (flush_under m e ps) (λ q. q.0 < cells)
flush-under-one Tso (Flush t) cells ps h = All-get (λ q. q.0 < cells) ps 0 h
flush-under-one Pso (FlushCell t c) cells ps h = found ps h
  where
    either : (q : Pending) (b : Bool) (o : Option Pending) → q.0 < cells → IfSome o (λ x. x.0 < cells) → IfSome (cond b (Some q) o) (λ x. x.0 < cells)
    either q true o l k = l
    either q false o l k = k

    found : (ps : List Pending) → AreTo cells ps → IfSome (find (is_to c) ps) (λ q. q.0 < cells)
    found [] h = tt
    found (q ∷ ps) h = either q (is_to c q) (find (is_to c) ps) (All-head (λ x. x.0 < cells) q ps h) (found ps (All-tail (λ x. x.0 < cells) q ps h))
flush-under-one _ _ cells ps h = tt

flush-one : (r : Rules) (e : Entry) (cells : ℕ) (ps : List Pending) → AreTo cells ps → IfSome (flush_of r e ps) (λ q. q.0 < cells)
flush-one Sc e cells ps h = tt
flush-one (Buffered m bound) e cells ps h = flush-under-one m e cells ps h
flush-one (Partial m bound set) e cells ps h = flush-under-one m e cells ps h

flush-nothing : (r : Rules) (e : Entry) → flush_of r e [] ≡ None
flush-nothing Sc e = refl
flush-nothing (Buffered m bound) e = flush-none m e
flush-nothing (Partial m bound set) e = flush-none m e

flush-thread : (r : Rules) (e : Entry) (xs : List (List Pending)) (t : ℕ) → IfSome (flush_of r e (slice_index_or xs t [])) (λ q. t < length xs)
flush-thread r e [] t = subst (λ (o : Option Pending). IfSome o (λ q. t < 0)) (sym (flush-nothing r e)) tt
flush-thread r e (ps ∷ xs) zero = IfSome_then (flush_of r e ps) (flush-any (flush_of r e ps)) (λ q h. omega arith)
  where
    flush-any : (o : Option Pending) → IfSome o (λ q. Unit {0})
    flush-any None = tt
    flush-any (Some q) = tt
flush-thread r e (ps ∷ xs) (suc t) = IfSome_then (flush_of r e (slice_index_or xs t [])) (flush-thread r e xs t) (λ q h. omega arith)

both-if : {A : Type 0} (P Q : A → Type 0) (o : Option A) → IfSome o P → IfSome o Q → IfSome o (λ a. P a × Q a)
both-if P Q None h k = tt
both-if P Q (Some a) h k = (h, k)

flushes-sound : (r : Rules) (p : Listing) (s : State) (t : ℕ) (e : Entry) → Fits r p s → IfSome (flushes r s t e) (IsSoundEvent r s)
flushes-sound r p s t e fits = bind-with (IsSoundEvent r s) (λ q. (t < length s.pending) × (q.0 < length p.cells)) (flush_of r e (pending_of s t)) (λ q. Some (Flushes t q.0 q.1))
    (both-if (λ q. t < length s.pending) (λ q. q.0 < length p.cells) (flush_of r e (pending_of s t)) (flush-thread r e s.pending t) (flush-one r e (length p.cells) (pending_of s t) (fits.cells t)))
    (λ q h. (h.0, subst (λ n. q.0 < n) (sym fits.memory) h.1))

pub event-sound : (r : Rules) (p : Listing) (s : State) (e : Entry) → Fits r p s → IfSome (event r p s e) (IsSoundEvent r s)
unfolding event
event-sound r p s (Step t) fits = does-sound r p s t (act r s t) fits (λ i thread place started within. act-sound r s t thread place started i (fits.bounded t) within)
event-sound r p s (In t v) fits = does-sound r p s t (λ f i. input i v) fits (λ i thread place started within. input-sound r s t thread place started i v within)
event-sound r p s (Flush t) fits = flushes-sound r p s t (Flush t) fits
event-sound r p s (FlushCell t c) fits = flushes-sound r p s t (FlushCell t c) fits

-- ---- the machine

module _ (r : Rules) (p : Listing) (m : Roomy) (fits : Fits r p m.state) (room : room_of r (length p.cells) ≤ m.room) where
  there-can : (t : ℕ) (a : Act) → Sound r m.state t a → IsThere m t a
  there-can t (Pushes c v) h =
      let all : length (pending_of m.state t ++ (c, v) ∷ []) ≤ room_of r (length p.cells) = bounded-room r t (length p.cells) (pending_of m.state t ++ (c, v) ∷ []) (All-push (λ q. q.0 < length p.cells) (pending_of m.state t) (c, v) (fits.cells t) (subst (λ n. c < n) fits.memory h.there.0)) h.there.1 in
      omega (arith, length-append (pending_of m.state t) ((c, v) ∷ []))
  there-can t (Puts c v) h = h.there
  there-can t (Updates l v c w) h = h.there
  there-can t (Takes k) h = h.there
  there-can t (Gives k) h = h.there
  there-can t (Starts u) h = h.there
  there-can t _ h = tt

  sound-can : (v : Event) → IsSoundEvent r m.state v → CanHappen m v
  sound-can (Flushes t c v) h = h
  sound-can (Does t a) h = record {
    thread = h.thread;
    pending = subst (λ n. t < n) (fits.threads ∙ sym fits.pending) h.thread;
    place = h.place;
    local = h.local;
    there = there-can t a h;
  }

  pub can_happen : (e : Entry) (v : Event) → event r p m.state e ≡ Some v → CanHappen m v
  can_happen e v is = sound-can v (if-at (IsSoundEvent r m.state) (event r p m.state e) v is (event-sound r p m.state e fits))

-- ---- names

-- the cells, mutexes and threads that the act names are there
abbrev pub Names : State → Act → Type 0
Names s (Loads l c v) = c < length s.memory
Names s (Pushes c v) = c < length s.memory
Names s (Puts c v) = c < length s.memory
Names s (Updates l v c w) = c < length s.memory
Names s (Misses l c) = c < length s.memory
Names s (Takes m) = m < length s.owners
Names s (Gives m) = m < length s.owners
Names s (Starts u) = u < length s.threads
Names s (Joins u) = u < length s.threads
Names s _ = Unit {0}

-- those of the event are there
abbrev pub HasNames : State → Event → Type 0
HasNames s (Does t a) = (t < length s.threads) × Names s a
HasNames s (Flushes t c v) = (t < length s.pending) × (c < length s.memory)

module _ (r : Rules) (p : Listing) (s : State) (fits : Fits r p s) where
  names-it : (t : ℕ) (a : Act) → Sound r s t a → Names s a
  names-it t (Loads l c v) h = h.there
  names-it t (Pushes c v) h = h.there.0
  names-it t (Puts c v) h = h.there
  names-it t (Updates l v c w) h = h.there
  names-it t (Misses l c) h = h.there
  names-it t (Takes k) h = h.there
  names-it t (Gives k) h = h.there
  names-it t (Starts u) h = h.there.0
  names-it t (Joins u) h = h.there
  names-it t _ h = tt

  sound-names : (v : Event) → IsSoundEvent r s v → HasNames s v
  sound-names (Flushes t c v) h = h
  sound-names (Does t a) h = (h.thread, names-it t a h)

  pub has_names : (e : Entry) (v : Event) → event r p s e ≡ Some v → HasNames s v
  has_names e v is = sound-names v (if-at (IsSoundEvent r s) (event r p s e) v is (event-sound r p s e fits))
