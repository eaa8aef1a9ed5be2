-- What happens by an entry of a program's machine can happen in it.
use Rattle.std.proofs.Common.{arith, ◌≡◌, ℕ, ◌+◌, ◌^◌, ◌<◌, ◌≤◌, ℤ, List, length, length-set, slice_get, sum_by, true, Some, IfSome, refl, sym, ◌∙◌, ap, subst}
use Rattle.std.proofs.lemmas.Option.{option_and_then_some, slice_get_within, get_or_from_slice_get}
use Rattle.std.proofs.lemmas.List.{get_or-set_other}
use Rattle.std.proofs.lemmas.List.Sums.{get_or-le-sum_by}
use Rattle.mm_goto.specs.declared.program.Target.{Target}
use Rattle.mm_goto.specs.declared.program.Target.TheVariants.{Cell, Elem, Deref}
use Rattle.mm_goto.specs.declared.program.Thread.{Thread}
use Rattle.mm_goto.specs.declared.program.Instr.{Instr}
use Rattle.mm_goto.specs.declared.program.Instr.TheVariants.{Set, Load, Store, Input, Branch, Assert, Assume, Add, Cas}
use Rattle.mm_goto.specs.Listing.{Listing}
use Rattle.mm_goto.specs.Value.{value_of}
use Rattle.mm_goto.specs.Valid.{IsInstrIn, IsTargetIn, IsThreadIn}
use Rattle.mm_sched.specs.declared.entry.Rules.{Rules}
use Rattle.mm_sched.specs.declared.entry.Act.{Act}
use Rattle.mm_sched.specs.declared.entry.Act.TheVariants.{Starts}
use Rattle.mm_sched.specs.State.{Frame, State, frame_of, idle}
use Rattle.mm_sched.specs.Running.{Roomy}
use Rattle.mm_sched.specs.Event.{cell_of, fetched, done}
use Rattle.mm_sched.specs.Invariant.{IsTargetWithin, IsWithin, Fits, CanDo}
use Rattle.mm_sched.proofs.Steps.{if-at}
use Rattle.mm_sched.proofs.Within.{All-get, element-within, pointee-within}

-- ---- instructions

pub target_within : (cells n : ℕ) (locals : List ℤ) (target : Target) → IsTargetWithin cells n target → IfSome (cell_of cells locals target) (λ c. c < cells)
target_within cells n locals (Cell c) h = h
target_within cells n locals (Elem first len index) h = element-within (value_of index locals) first len cells h.0
target_within cells n locals (Deref e) h = pointee-within (value_of e locals) cells

target-in : (p : Listing) (thread : Thread) (target : Target) → IsTargetIn p thread target → IsTargetWithin (length p.cells) thread.locals target
target-in p thread (Cell c) h = h
target-in p thread (Elem first len index) h = (h.0.within, h.1.locals)
target-in p thread (Deref e) h = h.locals

instr-in : (p : Listing) (thread : Thread) (i : Instr) → IsInstrIn p thread i → IsWithin (length p.cells) thread.locals i
instr-in p thread (Set l e) h = (h.0, h.1.locals)
instr-in p thread (Load l target) h = (h.0, target-in p thread target h.1)
instr-in p thread (Store target e) h = (target-in p thread target h.0, h.1.locals)
instr-in p thread (Input l) h = h
instr-in p thread (Branch e k) h = h.0.locals
instr-in p thread (Assert e n) h = h.0.locals
instr-in p thread (Assume e) h = h.locals
instr-in p thread (Add l target e) h = (h.0, target-in p thread target h.1, h.2.locals)
instr-in p thread (Cas l target e g) h = (h.0, target-in p thread target h.1, h.2.locals, h.3.locals)
instr-in p thread _ h = tt

module _ (r : Rules) (p : Listing) (s : State) (fits : Fits r p s) where
  pub frame_at : (t : ℕ) (f : Frame) → slice_get s.threads t ≡ Some f → frame_of s t ≡ f
  frame_at t f e = get_or_from_slice_get s.threads t f idle e

  pub few_cells : length s.memory < 2 ^ 32
  few_cells = let cells : length p.cells ≤ 65536 = fits.valid.cells in let same : length s.memory ≡ length p.cells = fits.memory in omega arith

  -- an instruction that is fetched names what there is
  pub fetched_within : (t : ℕ) (f : Frame) (i : Instr) → slice_get s.threads t ≡ Some f → fetched p t f.place ≡ Some i → IsWithin (length s.memory) (length f.locals) i
  fetched_within t f i e d = option_and_then_some (λ (thread : Thread). slice_get thread.code f.place) (slice_get p.threads t) i d (λ thread at got.
      let ok : IsThreadIn p thread = if-at (IsThreadIn p) (slice_get p.threads t) thread at (All-get (IsThreadIn p) p.threads t fits.valid.each_thread) in
      let within : IsWithin (length p.cells) thread.locals i = instr-in p thread i (if-at (IsInstrIn p thread) (slice_get thread.code f.place) i got (All-get (IsInstrIn p thread) thread.code f.place ok.instructions)) in
      let locals : thread.locals ≡ length f.locals = sym (fits.locals t thread at) ∙ ap (λ g. length g.locals) (frame_at t f e) in
      subst (λ n. IsWithin (length s.memory) n i) locals (subst (λ n. IsWithin n thread.locals i) (sym fits.memory) within))

  -- and there are not many of them
  pub fetched_place : (t k : ℕ) (i : Instr) → fetched p t k ≡ Some i → k + 1 < 2 ^ 32
  fetched_place t k i d = option_and_then_some (λ (thread : Thread). slice_get thread.code k) (slice_get p.threads t) i d (λ thread at got.
      let inside : k < length thread.code = slice_get_within thread.code k i got in
      let all : length thread.code ≤ sum_by (λ (x : Thread). length x.code) p.threads = subst (λ (x : Thread). length x.code ≤ sum_by (λ (y : Thread). length y.code) p.threads) (get_or_from_slice_get p.threads t thread thread at) (get_or-le-sum_by (λ (x : Thread). length x.code) p.threads t thread (slice_get_within p.threads t thread at)) in
      let most : sum_by (λ (x : Thread). length x.code) p.threads ≤ 8388608 = fits.valid.instructions in
      omega arith)

-- ---- what an act leaves of its thread's frame

pub done-frame : (m : Roomy) (t : ℕ) (a : Act) → CanDo m t a → frame_of (done m.state t a) t ≡ frame_of m.state t
done-frame m t (Starts u) h = get_or-set_other m.state.threads u t (record (frame_of m.state u) { started = true }) idle (λ e. h.there.1 (sym e))
done-frame m t _ h = refl

pub done-threads : (s : State) (t : ℕ) (a : Act) → length (done s t a).threads ≡ length s.threads
done-threads s t (Starts u) = length-set s.threads u (record (frame_of s u) { started = true })
done-threads s t _ = refl

pub ruleset doing = (done-frame, done-threads)
