-- The parts of a state, and which of them a step changes.
use Rattle.std.proofs.Common.{arith, ◌≡◌, ℕ, zero, suc, ◌≤◌, List, [], ◌∷◌, ◌++◌, length, Some, None, option_map, refl, Bool, true, false, sym, ◌∙◌, ap, ◌&&◌, ◌||◌, ◌==◌, slice_get, slice_set, if◌then◌else◌, ◌⊎◌, inl, inr, subst}
use Rattle.std.proofs.lemmas.Bool.{false≢true, cases_eq, eq-eqb, or_parts}
use Rattle.std.proofs.lemmas.List.{length-set}
use Rattle.std.proofs.lemmas.Option.{unwrap_or-slice_get}
use Rattle.std.specs.Prelude.{unwrap_or}
use Rattle.mm_goto.specs.declared.model.Model.{Model}
use Rattle.mm_sched.specs.declared.entry.Act.{Act}
use Rattle.mm_sched.specs.declared.entry.Act.TheVariants.{Goes, Assigns, Fails, Ends, Loads, Pushes, Puts, Fences, Takes, Gives, Updates, Misses, Starts, Joins, Enters, Leaves}
use Rattle.mm_sched.specs.declared.entry.Event.{Event}
use Rattle.mm_sched.specs.declared.entry.Event.TheVariants.{Does, Flushes}
use Rattle.mm_sched.specs.State.{Frame, State, frame_of, pending_of, idle}
use Rattle.mm_sched.specs.Buffer.{without}
use Rattle.mm_sched.specs.Event.{framed, done, acted, flushed, after}
use Rattle.mm_runkeys.specs.Spans.{is_key}
use Rattle.mm_runkeys.specs.Keys.{deed, runs, starts, takes, gives, writes, key}

-- a state, with how many stores each queue of each thread has taken in and given out
pub record Ghost : Type 0 where
  pub state : State
  pub pushed : ℕ → ℕ → ℕ
  pub popped : ℕ → ℕ → ℕ

pub data Part : Type 0 where
  FrameOf CellOf OwnerOf : ℕ → Part
  PushedOf PoppedOf : ℕ → ℕ → Part
  Sizes : Part
  -- the verdict and the owner of the atomic section
  Whole : Part

abbrev pub Same : Ghost → Ghost → Part → Type 0
Same g h (FrameOf t) = slice_get g.state.threads t ≡ slice_get h.state.threads t
Same g h (CellOf c) = slice_get g.state.memory c ≡ slice_get h.state.memory c
Same g h (OwnerOf k) = slice_get g.state.owners k ≡ slice_get h.state.owners k
Same g h (PushedOf t k) = g.pushed t k ≡ h.pushed t k
Same g h (PoppedOf t k) = g.popped t k ≡ h.popped t k
Same g h Sizes = (length g.state.memory ≡ length h.state.memory) × (length g.state.pending ≡ length h.state.pending)
Same g h Whole = (g.state.verdict ≡ h.state.verdict) × (g.state.section ≡ h.state.section)

pub same_refl : (g : Ghost) (x : Part) → Same g g x
same_refl g (FrameOf t) = refl
same_refl g (CellOf c) = refl
same_refl g (OwnerOf k) = refl
same_refl g (PushedOf t k) = refl
same_refl g (PoppedOf t k) = refl
same_refl g Sizes = (refl, refl)
same_refl g Whole = (refl, refl)

pub same_sym : (g h : Ghost) (x : Part) → Same g h x → Same h g x
same_sym g h (FrameOf t) e = sym e
same_sym g h (CellOf c) e = sym e
same_sym g h (OwnerOf k) e = sym e
same_sym g h (PushedOf t k) e = sym e
same_sym g h (PoppedOf t k) e = sym e
same_sym g h Sizes e = (sym e.0, sym e.1)
same_sym g h Whole e = (sym e.0, sym e.1)

pub same_trans : (g h i : Ghost) (x : Part) → Same g h x → Same h i x → Same g i x
same_trans g h i (FrameOf t) d e = d ∙ e
same_trans g h i (CellOf c) d e = d ∙ e
same_trans g h i (OwnerOf k) d e = d ∙ e
same_trans g h i (PushedOf t k) d e = d ∙ e
same_trans g h i (PoppedOf t k) d e = d ∙ e
same_trans g h i Sizes d e = (d.0 ∙ e.0, d.1 ∙ e.1)
same_trans g h i Whole d e = (d.0 ∙ e.0, d.1 ∙ e.1)

-- ---- what a step changes

-- the act changes the verdict or the owner of the section
abbrev pub whole : Act → Bool
whole (Goes k) = false
whole (Assigns l v) = false
whole (Fails n) = true
whole Ends = false
whole (Loads l c v) = false
whole (Pushes c v) = false
whole (Puts c v) = false
whole Fences = false
whole (Takes m) = false
whole (Gives m) = false
whole (Updates l v c w) = false
whole (Misses l c) = false
whole (Starts u) = false
whole (Joins u) = false
whole Enters = true
whole Leaves = true

abbrev pub changes : Model → Event → Part → Bool
changes m v (FrameOf u) = is_key u (runs v) || is_key u (starts v)
changes m v (CellOf c) = is_key c (writes v)
changes m v (OwnerOf k) = is_key k (takes v) || is_key k (gives v)
changes m (Does t a) (PushedOf u k) = (t == u) && is_key k (option_map (key m) (deed a).stores)
changes m (Flushes t c w) (PushedOf u k) = false
changes m (Does t a) (PoppedOf u k) = false
changes m (Flushes t c w) (PoppedOf u k) = (t == u) && (key m c == k)
changes m v Sizes = false
changes m (Does t a) Whole = whole a
changes m (Flushes t c w) Whole = false

-- one more, if the test holds
abbrev pub count : Bool → ℕ → ℕ
count b n = if b then suc n else n

abbrev pub follow : Model → Ghost → Event → Ghost
follow m g v = record {
  state = after g.state v;
  pushed = λ t k. count (changes m v (PushedOf t k)) (g.pushed t k);
  popped = λ t k. count (changes m v (PoppedOf t k)) (g.popped t k);
}

-- ---- lists

pub get_set_same : {A : Type 0} (xs : List A) (t : ℕ) (v : A) → slice_get (slice_set xs t v) t ≡ option_map (λ (w : A). v) (slice_get xs t)
get_set_same [] t v = refl
get_set_same (x ∷ xs) zero v = refl
get_set_same (x ∷ xs) (suc t) v = get_set_same xs t v

pub get_set_other : {A : Type 0} (xs : List A) (t : ℕ) (v : A) (x : ℕ) → (x ≡ t → ⊥) → slice_get (slice_set xs t v) x ≡ slice_get xs x
get_set_other [] t v x n = refl
get_set_other (y ∷ ys) zero v zero n = absurd (n refl)
get_set_other (y ∷ ys) zero v (suc x) n = refl
get_set_other (y ∷ ys) (suc t) v zero n = refl
get_set_other (y ∷ ys) (suc t) v (suc x) n = get_set_other ys t v x (λ e. n (ap suc e))

pub get_set_alike : {A : Type 0} (xs ys : List A) (t : ℕ) (v w : A) (x : ℕ) → (x ≡ t → v ≡ w) → slice_get xs x ≡ slice_get ys x → slice_get (slice_set xs t v) x ≡ slice_get (slice_set ys t w) x
get_set_alike {A = A} xs ys t v w x s e = go (cases_eq x t)
  where
    here : v ≡ w → slice_get xs t ≡ slice_get ys t → slice_get (slice_set xs t v) t ≡ slice_get (slice_set ys t w) t
    here d q = get_set_same xs t v ∙ ap (option_map (λ (z : A). v)) q ∙ ap (λ (y : A). option_map (λ (z : A). y) (slice_get ys t)) d ∙ sym (get_set_same ys t w)

    go : (x ≡ t) ⊎ (x ≡ t → ⊥) → slice_get (slice_set xs t v) x ≡ slice_get (slice_set ys t w) x
    go (inl d) = subst (λ u. slice_get xs u ≡ slice_get ys u → slice_get (slice_set xs t v) u ≡ slice_get (slice_set ys t w) u) (sym d) (here (s d)) e
    go (inr n) = get_set_other xs t v x n ∙ e ∙ sym (get_set_other ys t w x n)

ne_from_eqb : (a b : ℕ) → (b == a) ≡ false → a ≡ b → ⊥
ne_from_eqb a b e d = false≢true (sym e ∙ eq-eqb b a (sym d))

pub frame_alike : (s h : State) (t : ℕ) → slice_get s.threads t ≡ slice_get h.threads t → frame_of s t ≡ frame_of h t
frame_alike s h t e = sym (unwrap_or-slice_get s.threads t idle) ∙ ap (λ o. unwrap_or o idle) e ∙ unwrap_or-slice_get h.threads t idle

-- ---- a step does the same wherever the part is the same

abbrev start : Frame → Frame
start g = record g { started = true }

threads_alike : (s h : State) (t : ℕ) (a : Act) (x : ℕ) → slice_get s.threads x ≡ slice_get h.threads x → slice_get (done s t a).threads x ≡ slice_get (done h t a).threads x
threads_alike s h t (Starts u) x e = get_set_alike s.threads h.threads u (start (frame_of s u)) (start (frame_of h u)) x (λ d. ap start (frame_alike s h u (subst (λ y. slice_get s.threads y ≡ slice_get h.threads y) d e))) e
threads_alike s h t _ x e = e

memory_alike : (s h : State) (t : ℕ) (a : Act) (x : ℕ) → slice_get s.memory x ≡ slice_get h.memory x → slice_get (done s t a).memory x ≡ slice_get (done h t a).memory x
memory_alike s h t (Puts c v) x e = get_set_alike s.memory h.memory c v v x (λ d. refl) e
memory_alike s h t (Updates l v c w) x e = get_set_alike s.memory h.memory c w w x (λ d. refl) e
memory_alike s h t _ x e = e

owners_alike : (s h : State) (t : ℕ) (a : Act) (x : ℕ) → slice_get s.owners x ≡ slice_get h.owners x → slice_get (done s t a).owners x ≡ slice_get (done h t a).owners x
owners_alike s h t (Takes k) x e = get_set_alike s.owners h.owners k (Some t) (Some t) x (λ d. refl) e
owners_alike s h t (Gives k) x e = get_set_alike s.owners h.owners k None None x (λ d. refl) e
owners_alike s h t _ x e = e

sizes_kept : (s : State) (t : ℕ) (a : Act) → length (done s t a).memory ≡ length s.memory
sizes_kept s t (Puts c v) = length-set s.memory c v
sizes_kept s t (Updates l v c w) = length-set s.memory c w
sizes_kept s t _ = refl

lists_kept : (s : State) (t : ℕ) (a : Act) → length (done s t a).pending ≡ length s.pending
lists_kept s t (Pushes c v) = length-set s.pending t (pending_of s t ++ (c, v) ∷ [])
lists_kept s t _ = refl

verdict_alike : (s h : State) (t : ℕ) (a : Act) → s.verdict ≡ h.verdict → (done s t a).verdict ≡ (done h t a).verdict
verdict_alike s h t (Fails n) e = refl
verdict_alike s h t _ e = e

section_alike : (s h : State) (t : ℕ) (a : Act) → s.section ≡ h.section → (done s t a).section ≡ (done h t a).section
section_alike s h t Enters e = refl
section_alike s h t Leaves e = refl
section_alike s h t _ e = e

pub alike : (m : Model) (v : Event) (g h : Ghost) (x : Part) → Same g h x → Same (follow m g v) (follow m h v) x
unfolding acted flushed
alike m (Does t a) g h (FrameOf u) e = get_set_alike (done g.state t a).threads (done h.state t a).threads t (framed (frame_of g.state t) a) (framed (frame_of h.state t) a) u (λ d. ap (λ f. framed f a) (frame_alike g.state h.state t (subst (λ y. slice_get g.state.threads y ≡ slice_get h.state.threads y) d e))) (threads_alike g.state h.state t a u e)
alike m (Does t a) g h (CellOf c) e = memory_alike g.state h.state t a c e
alike m (Does t a) g h (OwnerOf k) e = owners_alike g.state h.state t a k e
alike m (Does t a) g h (PushedOf u k) e = ap (count (changes m (Does t a) (PushedOf u k))) e
alike m (Does t a) g h (PoppedOf u k) e = e
alike m (Does t a) g h Sizes e = (sizes_kept g.state t a ∙ e.0 ∙ sym (sizes_kept h.state t a), lists_kept g.state t a ∙ e.1 ∙ sym (lists_kept h.state t a))
alike m (Does t a) g h Whole e = (verdict_alike g.state h.state t a e.0, section_alike g.state h.state t a e.1)
alike m (Flushes t d v) g h (FrameOf u) e = e
alike m (Flushes t d v) g h (CellOf c) e = get_set_alike g.state.memory h.state.memory d v v c (λ q. refl) e
alike m (Flushes t d v) g h (OwnerOf k) e = e
alike m (Flushes t d v) g h (PushedOf u k) e = e
alike m (Flushes t d v) g h (PoppedOf u k) e = ap (count (changes m (Flushes t d v) (PoppedOf u k))) e
alike m (Flushes t d v) g h Sizes e = (length-set g.state.memory d v ∙ e.0 ∙ sym (length-set h.state.memory d v), length-set g.state.pending t (without (pending_of g.state t) d) ∙ e.1 ∙ sym (length-set h.state.pending t (without (pending_of h.state t) d)))
alike m (Flushes t d v) g h Whole e = e

-- ---- a step keeps what it does not change

threads_kept : (s : State) (t : ℕ) (a : Act) (x : ℕ) → is_key x (deed a).starts ≡ false → slice_get (done s t a).threads x ≡ slice_get s.threads x
threads_kept s t (Starts u) x e = get_set_other s.threads u (start (frame_of s u)) x (ne_from_eqb x u e)
threads_kept s t _ x e = refl

memory_kept : (s : State) (t : ℕ) (a : Act) (c : ℕ) → is_key c (deed a).writes ≡ false → slice_get (done s t a).memory c ≡ slice_get s.memory c
memory_kept s t (Puts d v) c e = get_set_other s.memory d v c (ne_from_eqb c d e)
memory_kept s t (Updates l v d w) c e = get_set_other s.memory d w c (ne_from_eqb c d e)
memory_kept s t _ c e = refl

owners_kept : (s : State) (t : ℕ) (a : Act) (k : ℕ) → is_key k (deed a).takes ≡ false → is_key k (deed a).gives ≡ false → slice_get (done s t a).owners k ≡ slice_get s.owners k
owners_kept s t (Takes j) k e f = get_set_other s.owners j (Some t) k (ne_from_eqb k j e)
owners_kept s t (Gives j) k e f = get_set_other s.owners j None k (ne_from_eqb k j f)
owners_kept s t _ k e f = refl

pub count_kept : (n : ℕ) (b : Bool) → b ≡ false → count b n ≡ n
count_kept n false e = refl
count_kept n true e = absurd (false≢true (sym e))

pub count_up : (n : ℕ) (b : Bool) → b ≡ true → count b n ≡ suc n
count_up n true e = refl
count_up n false e = absurd (false≢true e)

pub count_least : (n : ℕ) (b : Bool) → n ≤ count b n
count_least n true = omega arith
count_least n false = omega arith

verdict_kept : (s : State) (t : ℕ) (a : Act) → whole a ≡ false → (done s t a).verdict ≡ s.verdict
verdict_kept s t (Fails n) e = absurd (false≢true (sym e))
verdict_kept s t _ e = refl

section_kept : (s : State) (t : ℕ) (a : Act) → whole a ≡ false → (done s t a).section ≡ s.section
section_kept s t Enters e = absurd (false≢true (sym e))
section_kept s t Leaves e = absurd (false≢true (sym e))
section_kept s t _ e = refl

pub kept : (m : Model) (v : Event) (g : Ghost) (x : Part) → changes m v x ≡ false → Same (follow m g v) g x
unfolding acted flushed
kept m (Does t a) g (FrameOf u) e = let p = or_parts (t == u) (is_key u (deed a).starts) e in get_set_other (done g.state t a).threads t (framed (frame_of g.state t) a) u (ne_from_eqb u t p.0) ∙ threads_kept g.state t a u p.1
kept m (Does t a) g (CellOf c) e = memory_kept g.state t a c e
kept m (Does t a) g (OwnerOf k) e = let p = or_parts (is_key k (deed a).takes) (is_key k (deed a).gives) e in owners_kept g.state t a k p.0 p.1
kept m (Does t a) g (PushedOf u k) e = count_kept (g.pushed u k) (changes m (Does t a) (PushedOf u k)) e
kept m (Does t a) g (PoppedOf u k) e = refl
kept m (Does t a) g Sizes e = (sizes_kept g.state t a, lists_kept g.state t a)
kept m (Does t a) g Whole e = (verdict_kept g.state t a e, section_kept g.state t a e)
kept m (Flushes t d v) g (FrameOf u) e = refl
kept m (Flushes t d v) g (CellOf c) e = get_set_other g.state.memory d v c (ne_from_eqb c d e)
kept m (Flushes t d v) g (OwnerOf k) e = refl
kept m (Flushes t d v) g (PushedOf u k) e = refl
kept m (Flushes t d v) g (PoppedOf u k) e = count_kept (g.popped u k) (changes m (Flushes t d v) (PoppedOf u k)) e
kept m (Flushes t d v) g Sizes e = (length-set g.state.memory d v, length-set g.state.pending t (without (pending_of g.state t) d))
kept m (Flushes t d v) g Whole e = (refl, refl)
