-- Each state that a machine reaches fits the program.
use Rattle.std.proofs.Common.{arith, ◌≡◌, ℕ, zero, suc, ◌≤◌, ◌<◌, ℤ, pos, Bool, true, false, List, [], ◌∷◌, ◌++◌, map, length, length-set, slice_get, slice_set, slice_index_or, Some, None, IfSome, cond, refl, sym, ◌∙◌, ap, subst, if◌then◌else◌}
use Rattle.std.specs.List.{filter}
use Rattle.std.proofs.lemmas.List.{length-map, length-replicate}
use Rattle.std.proofs.lemmas.List.Elements.{All-nil, All-cons, All-head, All-tail, All-push}
use Rattle.mm_goto.specs.Bounds.{bound_of}
use Rattle.mm_goto.specs.declared.model.Model.{Model}
use Rattle.mm_goto.specs.declared.model.Model.TheVariants.{Tso, Pso}
use Rattle.mm_goto.specs.declared.program.Thread.{Thread}
use Rattle.mm_goto.specs.Listing.{Listing}
use Rattle.mm_goto.specs.Valid.{IsValid}
use Rattle.mm_sched.specs.declared.entry.Entry.{Entry}
use Rattle.mm_sched.specs.declared.entry.Rules.{Rules}
use Rattle.mm_sched.specs.declared.entry.Rules.TheVariants.{Sc, Buffered, Partial}
use Rattle.mm_sched.specs.declared.entry.Act.{Act}
use Rattle.mm_sched.specs.declared.entry.Act.TheVariants.{Assigns, Loads, Pushes, Takes, Gives, Updates, Misses, Starts}
use Rattle.mm_sched.specs.declared.entry.Event.{Event}
use Rattle.mm_sched.specs.declared.entry.Event.TheVariants.{Does, Flushes}
use Rattle.mm_sched.specs.State.{Frame, State, Pending, initial, frame_of, pending_of, idle, all_at_start, at_start}
use Rattle.mm_sched.specs.Buffer.{is_to, part, without}
use Rattle.mm_sched.specs.Event.{done, framed, acted, flushed, after, event, next}
use Rattle.mm_sched.specs.Invariant.{IsBounded, Fits, room_of}
use Rattle.mm_sched.proofs.Steps.{map-with, if-at}
use Rattle.mm_sched.proofs.Quiet.{no-pending}
use Rattle.mm_sched.proofs.Drops.{acted-memory, acted-pending}
use Rattle.mm_sched.proofs.Possibly.{done-threads}
use Rattle.mm_sched.proofs.Rooms.{AreTo, bounded-room}
use Rattle.mm_sched.proofs.Happens.{IsSound, Sound, IsSoundEvent, event-sound}

-- ---- the start

starts-threads : (xs : List Thread) → length (all_at_start xs) ≡ length xs
starts-threads [] = refl
starts-threads (x ∷ xs) = ap suc (length-map xs (at_start false))

-- each thread has as many locals as it says
starts-locals : (xs : List Thread) (t : ℕ) (thread : Thread) → slice_get xs t ≡ Some thread → length (slice_index_or (all_at_start xs) t idle).locals ≡ thread.locals
starts-locals [] t thread e = cc
starts-locals (x ∷ xs) zero thread e = let same : x ≡ thread = cc in length-replicate x.locals (pos 0) ∙ ap (λ y. y.locals) same
starts-locals (x ∷ xs) (suc t) thread e = others xs t e
  where
    others : (ys : List Thread) (k : ℕ) → slice_get ys k ≡ Some thread → length (slice_index_or (map (at_start false) ys) k idle).locals ≡ thread.locals
    others [] k d = cc
    others (y ∷ ys) zero d = let same : y ≡ thread = cc in length-replicate y.locals (pos 0) ∙ ap (λ z. z.locals) same
    others (y ∷ ys) (suc k) d = others ys k d

nothing-bounded : (r : Rules) (t : ℕ) → IsBounded r t []
nothing-bounded Sc t = refl
nothing-bounded (Buffered Tso bound) t = λ c. omega arith
nothing-bounded (Buffered Pso bound) t = λ c. omega arith
nothing-bounded (Partial Tso bound set) t = λ c. omega arith
nothing-bounded (Partial Pso bound set) t = λ c. omega arith

pub initial_fits : (r : Rules) (p : Listing) → IsValid p → Fits r p (initial p)
unfolding initial
initial_fits r p valid = record {
  valid = valid;
  memory = length-map p.cells _;
  owners = length-map p.mutexes _;
  threads = starts-threads p.threads;
  pending = length-map p.threads _;
  locals = starts-locals p.threads;
  cells = λ t. subst (AreTo (length p.cells)) (sym (no-pending p.threads t)) (All-nil (λ q. q.0 < length p.cells));
  bounded = λ t. subst (IsBounded r t) (sym (no-pending p.threads t)) (nothing-bounded r t);
}

-- ---- acts

framed-locals : (f : Frame) (a : Act) → length (framed f a).locals ≡ length f.locals
framed-locals f (Assigns l v) = length-set f.locals l v
framed-locals f (Loads l c v) = length-set f.locals l v
framed-locals f (Updates l v c w) = length-set f.locals l v
framed-locals f (Misses l c) = length-set f.locals l (pos 0)
framed-locals f _ = refl

-- a frame with as many locals in place of another
set-locals : (xs : List Frame) (t u : ℕ) (f : Frame) → length f.locals ≡ length (slice_index_or xs t idle).locals → length (slice_index_or (slice_set xs t f) u idle).locals ≡ length (slice_index_or xs u idle).locals
set-locals [] t u f e = refl
set-locals (x ∷ xs) zero zero f e = e
set-locals (x ∷ xs) zero (suc u) f e = refl
set-locals (x ∷ xs) (suc t) zero f e = refl
set-locals (x ∷ xs) (suc t) (suc u) f e = set-locals xs t u f e

done-locals : (s : State) (t u : ℕ) (a : Act) → length (frame_of (done s t a) u).locals ≡ length (frame_of s u).locals
done-locals s t u (Starts k) = set-locals s.threads k u (record (frame_of s k) { started = true }) refl
done-locals s t u _ = refl

acted-locals : (s : State) (t u : ℕ) (a : Act) → length (frame_of (acted s t a) u).locals ≡ length (frame_of s u).locals
unfolding acted
acted-locals s t u a = set-locals (done s t a).threads t u (framed (frame_of s t) a) (framed-locals (frame_of s t) a ∙ sym (done-locals s t t a)) ∙ done-locals s t u a

acted-threads : (s : State) (t : ℕ) (a : Act) → length (acted s t a).threads ≡ length s.threads
unfolding acted
acted-threads s t a = length-set (done s t a).threads t (framed (frame_of s t) a) ∙ done-threads s t a

acted-owners : (s : State) (t : ℕ) (a : Act) → length (acted s t a).owners ≡ length s.owners
unfolding acted
acted-owners s t (Takes k) = length-set s.owners k (Some t)
acted-owners s t (Gives k) = length-set s.owners k None
acted-owners s t _ = refl

-- what holds of each list of pending stores holds where one that has it stands in place of another
set-keeps : (P : List Pending → Type 0) (xs : List (List Pending)) (t u : ℕ) (ps : List Pending) → (t ≡ u → P ps) → P (slice_index_or xs u []) → P (slice_index_or (slice_set xs t ps) u [])
set-keeps P [] t u ps h k = k
set-keeps P (x ∷ xs) zero zero ps h k = h refl
set-keeps P (x ∷ xs) zero (suc u) ps h k = k
set-keeps P (x ∷ xs) (suc t) zero ps h k = k
set-keeps P (x ∷ xs) (suc t) (suc u) ps h k = set-keeps P xs t u ps (λ e. h (ap suc e)) k

acted-keeps : (P : List Pending → Type 0) (s : State) (t u : ℕ) (a : Act) → ((c : ℕ) (v : ℤ) → a ≡ Pushes c v → t ≡ u → P (pending_of s t ++ (c, v) ∷ [])) → P (pending_of s u) → P (pending_of (acted s t a) u)
unfolding acted
acted-keeps P s t u (Pushes c v) h k = set-keeps P s.pending t u (pending_of s t ++ (c, v) ∷ []) (h c v refl) k
acted-keeps P s t u _ h k = k

pushes-sound : (r : Rules) (s : State) (t : ℕ) (a : Act) (c : ℕ) (v : ℤ) → Sound r s t a → a ≡ Pushes c v → IsSound r s t (Pushes c v)
pushes-sound r s t a c v h e = subst (IsSound r s t) e h.there

-- ---- flushes

without-to : (cells : ℕ) (ps : List Pending) (c : ℕ) → AreTo cells ps → AreTo cells (without ps c)
without-to cells [] c h = h
without-to cells (q ∷ ps) c h = go (is_to c q) (without-to cells ps c (All-tail (λ x. x.0 < cells) q ps h))
  where
    go : (b : Bool) → AreTo cells (without ps c) → AreTo cells (if b then ps else q ∷ without ps c)
    go true k = All-tail (λ x. x.0 < cells) q ps h
    go false k = All-cons (λ x. x.0 < cells) q (without ps c) (All-head (λ x. x.0 < cells) q ps h) k

without-fewer : (p : Pending → Bool) (ps : List Pending) (c : ℕ) → length (filter p (without ps c)) ≤ length (filter p ps)
without-fewer p [] c = omega arith
without-fewer p (q ∷ ps) c = go (is_to c q) (p q) refl (without-fewer p ps c)
  where
    less : (b : Bool) → length (filter p ps) ≤ length (cond b (q ∷ filter p ps) (filter p ps))
    less true = omega arith
    less false = omega arith

    more : (b : Bool) → length (filter p (without ps c)) ≤ length (filter p ps) → length (cond b (q ∷ filter p (without ps c)) (filter p (without ps c))) ≤ length (cond b (q ∷ filter p ps) (filter p ps))
    more true h = omega arith
    more false h = h

    go : (b d : Bool) → p q ≡ d → length (filter p (without ps c)) ≤ length (filter p ps) → length (filter p (if b then ps else q ∷ without ps c)) ≤ length (cond (p q) (q ∷ filter p ps) (filter p ps))
    go true d e h = less (p q)
    go false d e h = more (p q) h

without-length : (ps : List Pending) (c : ℕ) → length (without ps c) ≤ length ps
without-length [] c = omega arith
without-length (q ∷ ps) c = go (is_to c q) (without-length ps c)
  where
    go : (b : Bool) → length (without ps c) ≤ length ps → length (if b then ps else q ∷ without ps c) ≤ suc (length ps)
    go true h = omega arith
    go false h = omega arith

without-part : (m : Model) (ps : List Pending) (c d bound : ℕ) → length (part m ps d) ≤ bound → length (part m (without ps c) d) ≤ bound
without-part Tso ps c d bound h = omega (arith, without-length ps c)
without-part Pso ps c d bound h = omega (arith, without-fewer (is_to d) ps c)

without-bounded : (r : Rules) (t : ℕ) (ps : List Pending) (c : ℕ) → IsBounded r t ps → IsBounded r t (without ps c)
without-bounded Sc t ps c h = subst (λ (qs : List Pending). without qs c ≡ []) (sym h) refl
without-bounded (Buffered m bound) t ps c h = λ d. without-part m ps c d (bound_of bound t) (h d)
without-bounded (Partial m bound set) t ps c h = λ d. without-part m ps c d (bound_of bound t) (h d)

-- ---- steps

module _ (r : Rules) (p : Listing) (s : State) (fits : Fits r p s) where
  acted-fits : (t : ℕ) (a : Act) → Sound r s t a → Fits r p (acted s t a)
  acted-fits t a h = record {
    valid = fits.valid;
    memory = acted-memory s t a ∙ fits.memory;
    owners = acted-owners s t a ∙ fits.owners;
    threads = acted-threads s t a ∙ fits.threads;
    pending = acted-pending s t a ∙ fits.pending;
    locals = λ u thread at. acted-locals s t u a ∙ fits.locals u thread at;
    cells = λ u. acted-keeps (AreTo (length p.cells)) s t u a (λ c v e here. All-push (λ q. q.0 < length p.cells) (pending_of s t) (c, v) (fits.cells t) (subst (λ n. c < n) fits.memory (pushes-sound r s t a c v h e).0)) (fits.cells u);
    bounded = λ u. acted-keeps (IsBounded r u) s t u a (λ c v e here. subst (λ k. IsBounded r k (pending_of s t ++ (c, v) ∷ [])) here (pushes-sound r s t a c v h e).1) (fits.bounded u);
  }

  flushed-fits : (t c : ℕ) (v : ℤ) → Fits r p (flushed s t c v)
  unfolding flushed
  flushed-fits t c v = record {
    valid = fits.valid;
    memory = length-set s.memory c v ∙ fits.memory;
    owners = fits.owners;
    threads = fits.threads;
    pending = length-set s.pending t (without (pending_of s t) c) ∙ fits.pending;
    locals = fits.locals;
    cells = λ u. set-keeps (AreTo (length p.cells)) s.pending t u (without (pending_of s t) c) (λ here. without-to (length p.cells) (pending_of s t) c (fits.cells t)) (fits.cells u);
    bounded = λ u. set-keeps (IsBounded r u) s.pending t u (without (pending_of s t) c) (λ here. subst (λ k. IsBounded r k (without (pending_of s t) c)) here (without-bounded r t (pending_of s t) c (fits.bounded t))) (fits.bounded u);
  }

  after-fits : (v : Event) → IsSoundEvent r s v → Fits r p (after s v)
  after-fits (Does t a) h = acted-fits t a h
  after-fits (Flushes t c v) h = flushed-fits t c v

  -- what is enabled leads to a state that fits
  pub next_fits : (e : Entry) → IfSome (next r p s e) (Fits r p)
  next_fits e = map-with (Fits r p) (IsSoundEvent r s) (after s) (event r p s e) (event-sound r p s e fits) after-fits

  pub event_fits : (e : Entry) (v : Event) → event r p s e ≡ Some v → Fits r p (after s v)
  event_fits e v is = after-fits v (if-at (IsSoundEvent r s) (event r p s e) v is (event-sound r p s e fits))

  -- no more is pending than there is room for
  pub pending_within : (t : ℕ) → length (pending_of s t) ≤ room_of r (length p.cells)
  pending_within t = bounded-room r t (length p.cells) (pending_of s t) (fits.cells t) (fits.bounded t)
