-- Straight code: main alone, without jumps up to its end, on the machine of sequential consistency.
use Rattle.std.proofs.Common.{◌≡◌, ℕ, zero, suc, ◌+◌, ℤ, pos, Bool, true, false, cond, List, [], ◌∷◌, ◌++◌, length, slice_get, slice_set, slice_index_or, Option, Some, None, option_map, refl, sym, ◌∙◌, ap, subst, arith, append_assoc, length-append}
use Rattle.std.proofs.Math.Seq.{get_or-append_seam}
use Rattle.std.proofs.lemmas.Option.{slice_get-get_or}
use Rattle.mm_goto.specs.declared.program.Cell.{Cell as GotoCell}
use Rattle.mm_goto.specs.declared.program.Thread.{Thread}
use Rattle.mm_goto.specs.declared.program.Target.TheVariants.{Cell}
use Rattle.mm_goto.specs.declared.program.Instr.{Instr}
use Rattle.mm_goto.specs.declared.program.Instr.TheVariants.{Set, Load, Store, Assert, Input, Jump, End}
use Rattle.mm_goto.specs.Listing.{Listing}
use Rattle.mm_goto.specs.Value.{value_of, is_zero}
use Rattle.mm_sched.specs.declared.entry.Rules.TheVariants.{Sc}
use Rattle.mm_sched.specs.declared.entry.Entry.{Entry}
use Rattle.mm_sched.specs.declared.entry.Entry.TheVariants.{Step, In, Flush, FlushCell}
use Rattle.mm_sched.specs.declared.entry.Act.{Act}
use Rattle.mm_sched.specs.declared.entry.Act.TheVariants.{Goes, Assigns, Fails as FailsWith, Ends, Loads, Puts}
use Rattle.mm_sched.specs.State.{State, Frame}
use Rattle.mm_sched.specs.Guarded.{◌>>=◌, guarded}
use Rattle.mm_sched.specs.declared.entry.Event.TheVariants.{Does}
use Rattle.mm_sched.specs.Event.{event, act, acted, after, input, next}
use Rattle.mm_sched.specs.Runs.{run}

-- the number of the first assertion that straight code fails, from this memory and these locals
abbrev pub straight : List Instr → List ℤ → List ℤ → Option ℕ
straight [] mem ls = None
straight (Set l e ∷ is) mem ls = straight is mem (slice_set ls l (value_of e ls))
straight (Load l (Cell c) ∷ is) mem ls = straight is mem (slice_set ls l (slice_index_or mem c (pos 0)))
straight (Store (Cell c) e ∷ is) mem ls = straight is (slice_set mem c (value_of e ls)) ls
straight (Assert e n ∷ is) mem ls = cond (is_zero (value_of e ls)) (Some n) (straight is mem ls)
straight (i ∷ is) mem ls = None

-- the code is straight
abbrev pub IsStraight : List Instr → Type 0
IsStraight [] = Unit {0}
IsStraight (Set l e ∷ is) = IsStraight is
IsStraight (Load l (Cell c) ∷ is) = IsStraight is
IsStraight (Store (Cell c) e ∷ is) = IsStraight is
IsStraight (Assert e n ∷ is) = IsStraight is
IsStraight (i ∷ is) = ⊥

-- main at a place, and the verdict
abbrev pub frame_at : List ℤ → ℕ → Frame
frame_at ls k = record { place = k; locals = ls; started = true; ended = false }

abbrev pub at : List ℤ → List ℤ → ℕ → Option ℕ → State
at mem ls k v = record { memory = mem; owners = []; section = None; verdict = v; threads = frame_at ls k ∷ []; pending = [] ∷ [] }

-- main alone with this code
abbrev pub alone : List GotoCell → Thread → Listing
alone cells main = record { cells = cells; mutexes = []; threads = main ∷ [] }

-- ---- one step

fetch : (pre is : List Instr) (i : Instr) → slice_get (pre ++ i ∷ is) (length pre) ≡ Some i
fetch pre is i = slice_get-get_or (pre ++ i ∷ is) (length pre) i (simp length-append (omega arith)) ∙ ap Some (get_or-append_seam pre i is i)

-- the act of the instruction in front is the step that main takes
step : (cells : List GotoCell) (main : Thread) (pre is : List Instr) (i : Instr) → main.code ≡ pre ++ i ∷ is → (mem ls : List ℤ) (a : Act) → act Sc (at mem ls (length pre) None) 0 (frame_at ls (length pre)) i ≡ Some a → next Sc (alone cells main) (at mem ls (length pre) None) (Step 0) ≡ Some (acted (at mem ls (length pre) None) 0 a)
unfolding event
step cells main pre is i code mem ls a h = let f : slice_get main.code (length pre) ≡ Some i = ap (λ (c : List Instr). slice_get c (length pre)) code ∙ fetch pre is i in rw (f, h) refl

-- an Input takes a value
abbrev pub IsNoInput : Instr → Type 0
IsNoInput (Input l) = ⊥
IsNoInput i = Unit {0}

no_input : (i : Instr) (v : ℤ) → IsNoInput i → input i v ≡ None
no_input (Input l) v h = absurd h
no_input i v h = refl

-- no other entry is enabled
only_step : (cells : List GotoCell) (main : Thread) (pre is : List Instr) (i : Instr) → main.code ≡ pre ++ i ∷ is → IsNoInput i → (mem ls : List ℤ) (e : Entry) (s : State) → next Sc (alone cells main) (at mem ls (length pre) None) e ≡ Some s → e ≡ Step 0
unfolding event
only_step cells main pre is i code h mem ls (Step zero) s n = refl
only_step cells main pre is i code h mem ls (Step (suc t)) s n = cc
only_step cells main pre is i code h mem ls (In zero v) s n = let f : slice_get main.code (length pre) ≡ Some i = ap (λ (c : List Instr). slice_get c (length pre)) code ∙ fetch pre is i in let m : None ≡ Some s = rw (f, no_input i v h) at n in cc
only_step cells main pre is i code h mem ls (In (suc t) v) s n = cc
only_step cells main pre is i code h mem ls (Flush t) s n = cc
only_step cells main pre is i code h mem ls (FlushCell t c) s n = cc

-- ---- where nothing goes on

-- the state of main once it has ended
abbrev pub ended : List ℤ → List ℤ → ℕ → State
ended mem ls k = record (at mem ls k None) { threads = record (frame_at ls k) { ended = true } ∷ [] }

none_of : {A B C : Type 0} (o : Option A) (what : A → Option B) (f : B → Option C) → (do
  x ← o
  y ← guarded false (what x)
  f y) ≡ None
none_of (Some x) what f = refl
none_of None what f = refl

-- no entry is enabled after a verdict
after_verdict : (cells : List GotoCell) (main : Thread) (mem ls : List ℤ) (k n : ℕ) (e : Entry) → next Sc (alone cells main) (at mem ls k (Some n)) e ≡ None
unfolding event
after_verdict cells main mem ls k n (Step zero) = let s = at mem ls k (Some n) in ap (option_map (after s)) (none_of (slice_get main.code k) (act Sc s 0 (frame_at ls k)) (λ (a : Act). Some (Does 0 a)))
after_verdict cells main mem ls k n (Step (suc t)) = refl
after_verdict cells main mem ls k n (In zero v) = let s = at mem ls k (Some n) in ap (option_map (after s)) (none_of (slice_get main.code k) (λ (i : Instr). input i v) (λ (a : Act). Some (Does 0 a)))
after_verdict cells main mem ls k n (In (suc t) v) = refl
after_verdict cells main mem ls k n (Flush t) = refl
after_verdict cells main mem ls k n (FlushCell t c) = refl

-- nor after the end
after_end : (cells : List GotoCell) (main : Thread) (mem ls : List ℤ) (k : ℕ) (e : Entry) → next Sc (alone cells main) (ended mem ls k) e ≡ None
unfolding event
after_end cells main mem ls k (Step zero) = let s = ended mem ls k in ap (option_map (after s)) (none_of (slice_get main.code k) (act Sc s 0 (record (frame_at ls k) { ended = true })) (λ (a : Act). Some (Does 0 a)))
after_end cells main mem ls k (Step (suc t)) = refl
after_end cells main mem ls k (In zero v) = let s = ended mem ls k in ap (option_map (after s)) (none_of (slice_get main.code k) (λ (i : Instr). input i v) (λ (a : Act). Some (Does 0 a)))
after_end cells main mem ls k (In (suc t) v) = refl
after_end cells main mem ls k (Flush t) = refl
after_end cells main mem ls k (FlushCell t c) = refl

-- no run from such a state fails
stays : (p : Listing) (s : State) → ((e : Entry) → next Sc p s e ≡ None) → (es : List Entry) (last : State) → run Sc p s es ≡ Some last → last ≡ s
stays p s h [] last r = cc
stays p s h (e ∷ es) last r = let m : None ≡ Some last = rw (h e) at r in cc

-- ---- the end of straight code

-- jumps from each place to the next, and the end
abbrev pub IsTail : ℕ → List Instr → Type 0
IsTail k (Jump j ∷ is) = (j ≡ k + 1) × IsTail (k + 1) is
IsTail k (End ∷ is) = Unit {0}
IsTail k _ = ⊥

-- one step on, where only a step of main is enabled
first_step : (cells : List GotoCell) (main : Thread) (pre is : List Instr) (i : Instr) → main.code ≡ pre ++ i ∷ is → IsNoInput i → (mem ls : List ℤ) (a : Act) → act Sc (at mem ls (length pre) None) 0 (frame_at ls (length pre)) i ≡ Some a → (e : Entry) (es : List Entry) (last : State) → run Sc (alone cells main) (at mem ls (length pre) None) (e ∷ es) ≡ Some last → run Sc (alone cells main) (acted (at mem ls (length pre) None) 0 a) es ≡ Some last
first_step cells main pre is i code h mem ls a w e es last r = by_next (next Sc (alone cells main) (at mem ls (length pre) None) e) refl
  where
    by_next : (o : Option State) → next Sc (alone cells main) (at mem ls (length pre) None) e ≡ o → run Sc (alone cells main) (acted (at mem ls (length pre) None) 0 a) es ≡ Some last
    by_next None n = let m : None ≡ Some last = rw n at r in cc
    by_next (Some mid) n =
        let o = only_step cells main pre is i code h mem ls e mid n in
        let t = step cells main pre is i code mem ls a w in
        let q : Some mid ≡ Some (acted (at mem ls (length pre) None) 0 a) = sym (rw o at n) ∙ t in
        let m : mid ≡ acted (at mem ls (length pre) None) 0 a = cc in
        rw (← m) (rw n at r)

verdict_of : (s last : State) → Some s ≡ Some last → last.verdict ≡ s.verdict
verdict_of s last q = let m : last ≡ s = cc in ap (λ (t : State). t.verdict) m

next_place : (pre : List Instr) (i : Instr) → length pre + 1 ≡ length (pre ++ i ∷ [])
next_place pre i = simp length-append (omega arith)

behind : (code : List Instr) (pre is : List Instr) (i : Instr) → code ≡ pre ++ i ∷ is → code ≡ (pre ++ i ∷ []) ++ is
behind code pre is i e = e ∙ sym (append_assoc pre (i ∷ []) is)

-- the end of straight code fails nothing
tail_quiet : (cells : List GotoCell) (main : Thread) (pre is : List Instr) → main.code ≡ pre ++ is → IsTail (length pre) is → (mem ls : List ℤ) (es : List Entry) (last : State) → run Sc (alone cells main) (at mem ls (length pre) None) es ≡ Some last → last.verdict ≡ None
unfolding acted act
tail_quiet cells main pre is code h mem ls [] last r = verdict_of (at mem ls (length pre) None) last r
tail_quiet cells main pre (Jump j ∷ is) code h mem ls (e ∷ es) last r =
    tail_quiet cells main (pre ++ Jump j ∷ []) is (behind main.code pre is (Jump j) code) (subst (λ (k : ℕ). IsTail k is) (next_place pre (Jump j)) h.1) mem ls es last
    (subst (λ (k : ℕ). run Sc (alone cells main) (at mem ls k None) es ≡ Some last) (h.0 ∙ next_place pre (Jump j)) (first_step cells main pre is (Jump j) code tt mem ls (Goes j) refl e es last r))
tail_quiet cells main pre (End ∷ is) code h mem ls (e ∷ es) last r =
    let q : last ≡ ended mem ls (length pre) = stays (alone cells main) (ended mem ls (length pre)) (after_end cells main mem ls (length pre)) es last (first_step cells main pre is End code tt mem ls Ends refl e es last r) in
    ap (λ (t : State). t.verdict) q
tail_quiet cells main pre is code h mem ls (e ∷ es) last r = absurd h

-- ---- straight code

tail_on : (pre is tail : List Instr) (i : Instr) → IsTail (length pre + length (i ∷ is)) tail → IsTail (length (pre ++ i ∷ []) + length is) tail
tail_on pre is tail i k = subst (λ (m : ℕ). IsTail m tail) (simp length-append (omega arith)) k

run_on : (cells : List GotoCell) (main : Thread) (pre : List Instr) (i : Instr) (mem ls : List ℤ) (es : List Entry) (last : State) → run Sc (alone cells main) (at mem ls (length pre + 1) None) es ≡ Some last → run Sc (alone cells main) (at mem ls (length (pre ++ i ∷ [])) None) es ≡ Some last
run_on cells main pre i mem ls es last r = subst (λ (k : ℕ). run Sc (alone cells main) (at mem ls k None) es ≡ Some last) (next_place pre i) r

-- what the machine fails, the code fails
pub fails_straight : (cells : List GotoCell) (main : Thread) (pre is tail : List Instr) → main.code ≡ pre ++ (is ++ tail) → IsStraight is → IsTail (length pre + length is) tail → (mem ls : List ℤ) (es : List Entry) (last : State) (n : ℕ) → run Sc (alone cells main) (at mem ls (length pre) None) es ≡ Some last → last.verdict ≡ Some n → straight is mem ls ≡ Some n
unfolding acted act
fails_straight cells main pre [] tail code h k mem ls es last n r v = let q = tail_quiet cells main pre tail code (subst (λ (m : ℕ). IsTail m tail) (omega arith) k) mem ls es last r in cc
fails_straight cells main pre (i ∷ is) tail code h k mem ls [] last n r v = let q = verdict_of (at mem ls (length pre) None) last r in cc
fails_straight cells main pre (Set l e ∷ is) tail code h k mem ls (x ∷ es) last n r v =
    let i = Set l e in
    let ls' = slice_set ls l (value_of e ls) in
    fails_straight cells main (pre ++ i ∷ []) is tail (behind main.code pre (is ++ tail) i code) h (tail_on pre is tail i k) mem ls' es last n (run_on cells main pre i mem ls' es last (first_step cells main pre (is ++ tail) i code tt mem ls (Assigns l (value_of e ls)) refl x es last r)) v
fails_straight cells main pre (Load l (Cell c) ∷ is) tail code h k mem ls (x ∷ es) last n r v =
    let i = Load l (Cell c) in
    let w = slice_index_or mem c (pos 0) in
    fails_straight cells main (pre ++ i ∷ []) is tail (behind main.code pre (is ++ tail) i code) h (tail_on pre is tail i k) mem (slice_set ls l w) es last n (run_on cells main pre i mem (slice_set ls l w) es last (first_step cells main pre (is ++ tail) i code tt mem ls (Loads l c w) refl x es last r)) v
fails_straight cells main pre (Store (Cell c) e ∷ is) tail code h k mem ls (x ∷ es) last n r v =
    let i = Store (Cell c) e in
    let mem' = slice_set mem c (value_of e ls) in
    fails_straight cells main (pre ++ i ∷ []) is tail (behind main.code pre (is ++ tail) i code) h (tail_on pre is tail i k) mem' ls es last n (run_on cells main pre i mem' ls es last (first_step cells main pre (is ++ tail) i code tt mem ls (Puts c (value_of e ls)) refl x es last r)) v
fails_straight cells main pre (Assert e m ∷ is) tail code h k mem ls (x ∷ es) last n r v = by_test (is_zero (value_of e ls)) refl (λ r'. fails_straight cells main (pre ++ Assert e m ∷ []) is tail (behind main.code pre (is ++ tail) (Assert e m) code) h (tail_on pre is tail (Assert e m) k) mem ls es last n (run_on cells main pre (Assert e m) mem ls es last r') v)
  where
    by_test : (b : Bool) → is_zero (value_of e ls) ≡ b → (run Sc (alone cells main) (at mem ls (length pre + 1) None) es ≡ Some last → straight is mem ls ≡ Some n) → cond b (Some m) (straight is mem ls) ≡ Some n
    by_test true z goes_on =
        let q = stays (alone cells main) (at mem ls (length pre + 1) (Some m)) (after_verdict cells main mem ls (length pre + 1) m) es last (first_step cells main pre (is ++ tail) (Assert e m) code tt mem ls (FailsWith m) (rw z refl) x es last r) in
        let w : last.verdict ≡ Some m = ap (λ (t : State). t.verdict) q in cc
    by_test false z goes_on = goes_on (first_step cells main pre (is ++ tail) (Assert e m) code tt mem ls (Goes (length pre + 1)) (rw z refl) x es last r)
fails_straight cells main pre (i ∷ is) tail code h k mem ls (x ∷ es) last n r v = absurd h

-- a schedule of main that fails n from here
pub record Failing (cells : List GotoCell) (main : Thread) (s : State) (n : ℕ) : Type 0 where
  pub schedule : List Entry
  pub last : State
  pub runs : run Sc (alone cells main) s schedule ≡ Some last
  pub verdict : last.verdict ≡ Some n

-- with one step of main in front
with_step : (cells : List GotoCell) (main : Thread) (pre is : List Instr) (i : Instr) → main.code ≡ pre ++ i ∷ is → (mem ls : List ℤ) (a : Act) → act Sc (at mem ls (length pre) None) 0 (frame_at ls (length pre)) i ≡ Some a → (n : ℕ) → Failing cells main (acted (at mem ls (length pre) None) 0 a) n → Failing cells main (at mem ls (length pre) None) n
with_step cells main pre is i code mem ls a w n f = record { schedule = Step 0 ∷ f.schedule; last = f.last; runs = rw (step cells main pre is i code mem ls a w) f.runs; verdict = f.verdict }

place_on : (cells : List GotoCell) (main : Thread) (pre : List Instr) (i : Instr) (mem ls : List ℤ) (n : ℕ) → Failing cells main (at mem ls (length (pre ++ i ∷ [])) None) n → Failing cells main (at mem ls (length pre + 1) None) n
place_on cells main pre i mem ls n f = subst (λ (k : ℕ). Failing cells main (at mem ls k None) n) (sym (next_place pre i)) f

-- what the code fails, the machine fails
pub straight_fails : (cells : List GotoCell) (main : Thread) (pre is tail : List Instr) → main.code ≡ pre ++ (is ++ tail) → IsStraight is → (mem ls : List ℤ) (n : ℕ) → straight is mem ls ≡ Some n → Failing cells main (at mem ls (length pre) None) n
unfolding acted act
straight_fails cells main pre [] tail code h mem ls n f = cc
straight_fails cells main pre (Set l e ∷ is) tail code h mem ls n f =
    let i = Set l e in
    let ls' = slice_set ls l (value_of e ls) in
    with_step cells main pre (is ++ tail) i code mem ls (Assigns l (value_of e ls)) refl n (place_on cells main pre i mem ls' n (straight_fails cells main (pre ++ i ∷ []) is tail (behind main.code pre (is ++ tail) i code) h mem ls' n f))
straight_fails cells main pre (Load l (Cell c) ∷ is) tail code h mem ls n f =
    let i = Load l (Cell c) in
    let w = slice_index_or mem c (pos 0) in
    with_step cells main pre (is ++ tail) i code mem ls (Loads l c w) refl n (place_on cells main pre i mem (slice_set ls l w) n (straight_fails cells main (pre ++ i ∷ []) is tail (behind main.code pre (is ++ tail) i code) h mem (slice_set ls l w) n f))
straight_fails cells main pre (Store (Cell c) e ∷ is) tail code h mem ls n f =
    let i = Store (Cell c) e in
    let mem' = slice_set mem c (value_of e ls) in
    with_step cells main pre (is ++ tail) i code mem ls (Puts c (value_of e ls)) refl n (place_on cells main pre i mem' ls n (straight_fails cells main (pre ++ i ∷ []) is tail (behind main.code pre (is ++ tail) i code) h mem' ls n f))
straight_fails cells main pre (Assert e m ∷ is) tail code h mem ls n f = by_test (is_zero (value_of e ls)) refl f (λ g. straight_fails cells main (pre ++ Assert e m ∷ []) is tail (behind main.code pre (is ++ tail) (Assert e m) code) h mem ls n g)
  where
    by_test : (b : Bool) → is_zero (value_of e ls) ≡ b → cond b (Some m) (straight is mem ls) ≡ Some n → (straight is mem ls ≡ Some n → Failing cells main (at mem ls (length (pre ++ Assert e m ∷ [])) None) n) → Failing cells main (at mem ls (length pre) None) n
    by_test true z g goes_on = with_step cells main pre (is ++ tail) (Assert e m) code mem ls (FailsWith m) (rw z refl) n (record { schedule = []; last = at mem ls (length pre + 1) (Some m); runs = refl; verdict = g })
    by_test false z g goes_on = with_step cells main pre (is ++ tail) (Assert e m) code mem ls (Goes (length pre + 1)) (rw z refl) n (place_on cells main pre (Assert e m) mem ls n (goes_on g))
straight_fails cells main pre (i ∷ is) tail code h mem ls n f = absurd h
