-- No more is pending than has happened.
use Rattle.std.proofs.Common.{arith, ◌≡◌, ℕ, zero, suc, ◌+◌, ◌≤◌, if◌then◌else◌, Bool, true, false, List, [], ◌∷◌, ◌++◌, length, length-append, map, Option, Some, None, refl, sym, ◌∙◌, ap, slice_set, slice_index_or}
use Rattle.std.proofs.lemmas.List.{length-map}
use Rattle.mm_goto.specs.declared.model.Model.{Model}
use Rattle.mm_goto.specs.declared.program.Thread.{Thread}
use Rattle.mm_goto.specs.Listing.{Listing}
use Rattle.mm_sched.specs.declared.entry.Entry.{Entry}
use Rattle.mm_sched.specs.declared.entry.Rules.{Rules}
use Rattle.mm_sched.specs.declared.entry.Act.{Act}
use Rattle.mm_sched.specs.declared.entry.Act.TheVariants.{Pushes}
use Rattle.mm_sched.specs.declared.entry.Event.{Event}
use Rattle.mm_sched.specs.declared.entry.Event.TheVariants.{Does, Flushes}
use Rattle.mm_sched.specs.Guarded.{◌>>=◌}
use Rattle.mm_sched.specs.State.{State, Pending, initial, pending_of}
use Rattle.mm_sched.specs.Buffer.{is_to, without}
use Rattle.mm_sched.specs.Event.{event, acted, flushed, after}
use Rattle.mm_rungraph.specs.Extension.{flush_entry, thread_flushes, extension}
use Rattle.mm_rungraph.specs.Traces.{events_of, after_all}

-- how many stores are in the lists
abbrev pub total : List (List Pending) → ℕ
total [] = 0
total (ps ∷ lists) = length ps + total lists

flushes_total : (m : Model) (lists : List (List Pending)) (t : ℕ) → length (thread_flushes m lists t) ≡ total lists
flushes_total m [] t = refl
flushes_total m (ps ∷ lists) t = let here : length (map (flush_entry m t) ps) ≡ length ps = length-map ps (flush_entry m t) in let rest : length (thread_flushes m lists (suc t)) ≡ total lists = flushes_total m lists (suc t) in omega (arith, here, rest, length-append (map (flush_entry m t) ps) (thread_flushes m lists (suc t)))

set_total : (lists : List (List Pending)) (t n : ℕ) (ps : List Pending) → length ps ≤ length (slice_index_or lists t []) + n → total (slice_set lists t ps) ≤ total lists + n
set_total [] t n ps l = omega arith
set_total (qs ∷ lists) zero n ps l = omega (arith, l)
set_total (qs ∷ lists) (suc t) n ps l = let rest : total (slice_set lists t ps) ≤ total lists + n = set_total lists t n ps l in omega (arith, rest)

without_fewer : (ps : List Pending) (c : ℕ) → length (without ps c) ≤ length ps
without_fewer [] c = omega arith
without_fewer (q ∷ ps) c = go (is_to c q) (without_fewer ps c)
  where
    go : (b : Bool) → length (without ps c) ≤ length ps → length (if b then ps else q ∷ without ps c) ≤ suc (length ps)
    go true h = omega arith
    go false h = omega (arith, h)

acted_total : (s : State) (t : ℕ) (a : Act) → total (acted s t a).pending ≤ total s.pending + 1
unfolding acted
acted_total s t (Pushes c v) = set_total s.pending t 1 (pending_of s t ++ (c, v) ∷ []) (omega (arith, length-append (pending_of s t) ((c, v) ∷ [])))
acted_total s t a = omega arith

after_total : (s : State) (v : Event) → total (after s v).pending ≤ total s.pending + 1
unfolding flushed
after_total s (Does t a) = acted_total s t a
after_total s (Flushes t c v) = let h : total (slice_set s.pending t (without (pending_of s t) c)) ≤ total s.pending + 0 = set_total s.pending t 0 (without (pending_of s t) c) (omega (arith, without_fewer (pending_of s t) c)) in omega (arith, h)

all_total : (s : State) (vs : List Event) → total (after_all s vs).pending ≤ total s.pending + length vs
all_total s [] = omega arith
all_total s (v ∷ vs) = omega (arith, all_total (after s v) vs, after_total s v)

nothing_total : (threads : List Thread) → total (map (λ thread. []) threads) ≡ 0
nothing_total [] = refl
nothing_total (thread ∷ threads) = let rest : total (map (λ thread. []) threads) ≡ 0 = nothing_total threads in omega (arith, rest)

initial_total : (p : Listing) → total (initial p).pending ≡ 0
unfolding initial
initial_total p = nothing_total p.threads

pub events_length : (r : Rules) (p : Listing) (s : State) (es : List Entry) (vs : List Event) → events_of r p s es ≡ Some vs → length vs ≡ length es
events_length r p s [] vs h = let same : [] ≡ vs = cc in ap length (sym same)
events_length r p s (e ∷ es) vs h = go (event r p s e) vs h (λ w us. events_length r p (after s w) es us)
  where
    last : (w : Event) (o : Option (List Event)) (vs : List Event) → (o >>= λ us. Some (w ∷ us)) ≡ Some vs → ((us : List Event) → o ≡ Some us → length us ≡ length es) → length vs ≡ suc (length es)
    last w None vs h ih = cc
    last w (Some us) vs h ih = let same : w ∷ us ≡ vs = cc in ap length (sym same) ∙ ap suc (ih us refl)

    go : (o : Option Event) → (vs : List Event) → (o >>= λ w. events_of r p (after s w) es >>= λ us. Some (w ∷ us)) ≡ Some vs → ((w : Event) (us : List Event) → events_of r p (after s w) es ≡ Some us → length us ≡ length es) → length vs ≡ suc (length es)
    go None vs h ih = cc
    go (Some w) vs h ih = last w (events_of r p (after s w) es) vs h (ih w)

-- the extension of a run is no longer than the run
pub extension_few : (r : Rules) (m : Model) (p : Listing) (es : List Entry) (vs : List Event) → events_of r p (initial p) es ≡ Some vs → length (extension m (after_all (initial p) vs)) ≤ length es
extension_few r m p es vs h =
    let size : length (extension m (after_all (initial p) vs)) ≡ total (after_all (initial p) vs).pending = flushes_total m (after_all (initial p) vs).pending 0 in
    omega (arith, size, all_total (initial p) vs, initial_total p, events_length r p (initial p) es vs h)
