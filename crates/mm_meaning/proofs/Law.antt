-- The run of the code of a flow does what the flow means.
use Rattle.std.proofs.Common.{arith, ◌≡◌, ℕ, zero, suc, ◌+◌, ◌≤◌, List, Some, refl, Bool, true, false, subst, slice_get}
use Rattle.mm_goto.specs.Value.{value_of, is_zero}
use Rattle.mm_goto.specs.declared.pure.Pure.{Pure}
use Rattle.mm_goto.specs.declared.program.Instr.{Instr}
use Rattle.mm_goto.specs.declared.program.Instr.TheVariants as instr
use Rattle.mm_flow.specs.Flow.{Flow, Empty, Do, Then, When, Either, While, DoWhile, For, Body, Leave, Mark, Goto, Behind, Next, Home, Ways, way, size, in_loop, in_body}
use Rattle.mm_meaning.specs.Meaning.{View, Outcome, Done, Left, Failed, Halted, Other, then_do, again, caught, pick, while_turns, do_turns, meaning}
use Rattle.mm_meaning.specs.Standing.{Stands}
use Rattle.mm_meaning.specs.Inside.{Runs}

module _ (code : List Instr) (act : Instr → View → Outcome) (Leads : ℕ → View → ℕ → View → Type 0) (Breaks : ℕ → ℕ → View → Type 0) (Stops : ℕ → ℕ → View → Type 0)
    (here : (k : ℕ) (l : View) → Leads k l k l)
    (on : (k i j : ℕ) (a b c : View) → Leads k a i b → Leads i b j c → Leads k a j c)
    (breaks : (n k i : ℕ) (a b : View) → Leads k a i b → Breaks n i b → Breaks n k a)
    (stops : (n k i : ℕ) (a b : View) → Leads k a i b → Stops n i b → Stops n k a)
    (jumps : (k j : ℕ) (l : View) → slice_get code k ≡ Some (instr.Jump j) → Leads k l j l)
    (goes : (k j : ℕ) (e : Pure) (l : View) → slice_get code k ≡ Some (instr.Branch e j) → is_zero (value_of e l.locals) ≡ true → Leads k l j l)
    (stays : (k j : ℕ) (e : Pure) (l : View) → slice_get code k ≡ Some (instr.Branch e j) → is_zero (value_of e l.locals) ≡ false → Leads k l (k + 1) l)
    (turned : (n k j : ℕ) (e : Pure) (l : View) → slice_get code k ≡ Some (instr.Branch e j) → is_zero (value_of e l.locals) ≡ false → Stops n (k + 1) l → Stops (suc n) k l)
    (none : (k : ℕ) (l : View) → Stops 0 k l)
    (fewer : (m n k : ℕ) (l : View) → m ≤ n → Stops n k l → Stops m k l)
    (acts : (x : Ways) (n k : ℕ) (l : View) (i : Instr) → slice_get code k ≡ Some i → Runs Leads Breaks Stops x n k l (k + 1) (act i l))
  where
    abbrev R : Ways → ℕ → ℕ → View → ℕ → Outcome → Type 0
    R = Runs Leads Breaks Stops

    ends : (x : Ways) (n k i j : ℕ) (l : View) (o : Outcome) → i ≡ j → R x n k l i o → R x n k l j o
    ends x n k i j l o e r = subst (λ m. R x n k l m o) e r

    after : (x : Ways) (n k i j : ℕ) (a b : View) (o : Outcome) → Leads k a i b → R x n i b j o → R x n k a j o
    after x n k i j a b (Done m) h r = on k i j a b m h r
    after x n k i j a b (Left w m) h r = on k i (way x w) a b m h r
    after x n k i j a b (Failed c) h r = breaks c k i a b h r
    after x n k i j a b Halted h r = stops n k i a b h r
    after x n k i j a b Other h r = tt

    less : (x : Ways) (m n k i : ℕ) (l : View) (o : Outcome) → m ≤ n → R x n k l i o → R x m k l i o
    less x m n k i l (Done d) le r = r
    less x m n k i l (Left w d) le r = r
    less x m n k i l (Failed c) le r = r
    less x m n k i l Halted le r = fewer m n k l le r
    less x m n k i l Other le r = tt

    -- the same from the branch that begins a turn
    turn : (x : Ways) (n k i j : ℕ) (e : Pure) (l : View) (o : Outcome) → slice_get code k ≡ Some (instr.Branch e j) → is_zero (value_of e l.locals) ≡ false → R x n (k + 1) l i o → R x (suc n) k l i o
    turn x n k i j e l (Done d) h z r = on k (k + 1) i l l d (stays k j e l h z) r
    turn x n k i j e l (Left w d) h z r = on k (k + 1) (way x w) l l d (stays k j e l h z) r
    turn x n k i j e l (Failed c) h z r = breaks c k (k + 1) l l (stays k j e l h z) r
    turn x n k i j e l Halted h z r = turned n k j e l h z r
    turn x n k i j e l Other h z r = tt

    seq : (x : Ways) (n k i j : ℕ) (l : View) (o : Outcome) (go : View → Outcome) → R x n k l i o → ((m : View) → R x n i m j (go m)) → R x n k l j (then_do o go)
    seq x n k i j l (Done m) go a b = after x n k i j l m (go m) a (b m)
    seq x n k i j l (Left w m) go a b = a
    seq x n k i j l (Failed c) go a b = a
    seq x n k i j l Halted go a b = a
    seq x n k i j l Other go a b = a

    -- behind a turn, whose end leads to where Next leads
    repeats : (x : Ways) (n k i t end : ℕ) (l : View) (o : Outcome) (go : View → Outcome) → ((m : View) → Leads i m t m) → R (in_loop x end t) n k l i o → ((m : View) → R x n t m end (go m)) → R x n k l end (again o go)
    repeats x n k i t end l (Done m) go back r b = after x n k t end l m (go m) (on k i t l m m r (back m)) (b m)
    repeats x n k i t end l (Left Next m) go back r b = after x n k t end l m (go m) r (b m)
    repeats x n k i t end l (Left Behind m) go back r b = r
    repeats x n k i t end l (Left Home m) go back r b = r
    repeats x n k i t end l (Failed c) go back r b = r
    repeats x n k i t end l Halted go back r b = r
    repeats x n k i t end l Other go back r b = r

    returns : (x y : Ways) (n k i : ℕ) (l : View) (o : Outcome) → y.home ≡ i → y.next ≡ x.next → y.behind ≡ x.behind → R y n k l i o → R x n k l i (caught o)
    returns x y n k i l (Done m) e f g r = r
    returns x y n k i l (Left Home m) e f g r = subst (λ j. Leads k l j m) e r
    returns x y n k i l (Left Next m) e f g r = subst (λ j. Leads k l j m) f r
    returns x y n k i l (Left Behind m) e f g r = subst (λ j. Leads k l j m) g r
    returns x y n k i l (Failed c) e f g r = r
    returns x y n k i l Halted e f g r = r
    returns x y n k i l Other e f g r = r

    when : (x : Ways) (n k i : ℕ) (l : View) (e : Pure) (o : Outcome) (b : Bool) → is_zero (value_of e l.locals) ≡ b → slice_get code k ≡ Some (instr.Branch e i) → R x n (k + 1) l i o → R x n k l i (pick b (Done l) o)
    when x n k i l e o true z h r = goes k i e l h z
    when x n k i l e o false z h r = after x n k (k + 1) i l l o (stays k i e l h z) r

    either : (x : Ways) (n k i j end : ℕ) (l : View) (e : Pure) (o u : Outcome) (b : Bool) → is_zero (value_of e l.locals) ≡ b → slice_get code k ≡ Some (instr.Branch e j) → slice_get code i ≡ Some (instr.Jump end) → R x n (k + 1) l i o → R x n j l end u → R x n k l end (pick b u o)
    either x n k i j end l e o u true z h g r s = after x n k j end l l u (goes k j e l h z) s
    either x n k i j end l e o u false z h g r s = after x n k (k + 1) end l l o (stays k j e l h z) (behind o r)
      where
        behind : (o : Outcome) → R x n (k + 1) l i o → R x n (k + 1) l end o
        behind (Done m) q = on (k + 1) i end l m m q (jumps i end m g)
        behind (Left w m) q = q
        behind (Failed c) q = q
        behind Halted q = q
        behind Other q = q

    -- a loop: its test from k, its branch at j, its turn up to i, which leads to t, from where its step leads to p and back
    loop : (x : Ways) (n k j i t p end : ℕ) (e : Pure) (test body step : View → Outcome) → slice_get code j ≡ Some (instr.Branch e end) → ((m : View) → Leads i m t m) → ((m : View) → Leads p m k m) → ((m : View) → R x n k m j (test m)) → ((m : View) → R (in_loop x end t) n (j + 1) m i (body m)) → ((m : View) → R x n t m p (step m)) → (m : ℕ) → m ≤ n → (l : View) → R x m k l end (while_turns m test e body step l)
    loop x n k j i t p end e test body step h back top rt rb rs zero le l = none k l
    loop x n k j i t p end e test body step h back top rt rb rs (suc m) le l =
        seq x (suc m) k j end l (test l) _ (less x (suc m) n k j l (test l) le (rt l)) (λ a. once (λ d. loop x n k j i t p end e test body step h back top rt rb rs m (omega arith) d) a (is_zero (value_of e a.locals)) refl)
      where
        once : ((d : View) → R x m k d end (while_turns m test e body step d)) → (a : View) (b : Bool) → is_zero (value_of e a.locals) ≡ b → R x (suc m) j a end (pick b (Done a) (again (body a) (λ c. then_do (step c) (while_turns m test e body step))))
        once next a true z = goes j end e a h z
        once next a false z = turn x m j end end e a _ h z
            (repeats x m (j + 1) i t end a (body a) _ back (less (in_loop x end t) m n (j + 1) i a (body a) (omega arith) (rb a))
            (λ c. seq x m t p end c (step c) _ (less x m n t p c (step c) (omega arith) (rs c)) (λ d. after x m p k end d d _ (top d) (next d))))

    -- a loop whose turn stands first, from k to i, its test from there to j
    do_loop : (x : Ways) (n k i j end : ℕ) (e : Pure) (body test : View → Outcome) → slice_get code j ≡ Some (instr.Branch e end) → ((m : View) → Leads (j + 1) m k m) → ((m : View) → R (in_loop x end i) n k m i (body m)) → ((m : View) → R x n i m j (test m)) → (m : ℕ) → m ≤ n → (l : View) → R x m k l end (do_turns m body test e l)
    do_loop x n k i j end e body test h top rb rt zero le l = none k l
    do_loop x n k i j end e body test h top rb rt (suc m) le l =
        repeats x (suc m) k i i end l (body l) _ (here i) (less (in_loop x end i) (suc m) n k i l (body l) le (rb l))
        (λ b. seq x (suc m) i j end b (test b) _ (less x (suc m) n i j b (test b) le (rt b)) (λ a. once (λ d. do_loop x n k i j end e body test h top rb rt m (omega arith) d) a (is_zero (value_of e a.locals)) refl))
      where
        once : ((d : View) → R x m k d end (do_turns m body test e d)) → (a : View) (b : Bool) → is_zero (value_of e a.locals) ≡ b → R x (suc m) j a end (pick b (Done a) (do_turns m body test e a))
        once next a true z = goes j end e a h z
        once next a false z = turn x m j end end e a _ h z (after x m (j + 1) k end a a _ (top a) (next a))

    -- THE LAW
    pub flow_runs : (f : Flow) (x : Ways) (n k : ℕ) (l : View) → Stands code x f k → R x n k l (k + size f) (meaning act f n l)
    flow_runs Empty x n k l h = ends x n k k (k + 0) l (Done l) (omega arith) (here k l)
    flow_runs (Do at i) x n k l h = acts x n k l i h
    flow_runs (Then a b) x n k l h = ends x n k _ _ l _ (omega arith) (seq x n k (k + size a) (k + size a + size b) l (meaning act a n l) _ (flow_runs a x n k l h.0) (λ m. flow_runs b x n (k + size a) m h.1))
    flow_runs (When at e a) x n k l h = ends x n k _ _ l _ (omega arith) (when x n k (k + 1 + size a) l e (meaning act a n l) _ refl h.0 (flow_runs a x n (k + 1) l h.1))
    flow_runs (Either at e a b) x n k l h = ends x n k _ _ l _ (omega arith) (either x n k (k + 1 + size a) (k + 1 + size a + 1) (k + 1 + size a + 1 + size b) l e (meaning act a n l) (meaning act b n l) _ refl h.0 h.2 (flow_runs a x n (k + 1) l h.1) (flow_runs b x n (k + 1 + size a + 1) l h.3))
    flow_runs (While at c e a) x n k l h = ends x n k _ _ l _ (omega arith) (loop x n k (k + size c) (k + size c + 1 + size a) k k (k + size c + 1 + size a + 1) e (meaning act c n) (meaning act a n) Done h.1 (λ m. jumps (k + size c + 1 + size a) k m h.3) (here k) (λ m. flow_runs c x n k m h.0) (λ m. flow_runs a (in_loop x (k + size c + 1 + size a + 1) k) n (k + size c + 1) m h.2) (here k) n (omega arith) l)
    flow_runs (DoWhile at a c e) x n k l h = ends x n k _ _ l _ (omega arith) (do_loop x n k (k + size a) (k + size a + size c) (k + size a + size c + 2) e (meaning act a n) (meaning act c n) h.2 (λ m. jumps (k + size a + size c + 1) k m h.3) (λ m. flow_runs a (in_loop x (k + size a + size c + 2) (k + size a)) n k m h.0) (λ m. flow_runs c x n (k + size a) m h.1) n (omega arith) l)
    flow_runs (For at c e a j) x n k l h = ends x n k _ _ l _ (omega arith) (loop x n k (k + size c) (k + size c + 1 + size a) (k + size c + 1 + size a) (k + size c + 1 + size a + size j) (k + size c + 1 + size a + size j + 1) e (meaning act c n) (meaning act a n) (meaning act j n) h.1 (here (k + size c + 1 + size a)) (λ m. jumps (k + size c + 1 + size a + size j) k m h.4) (λ m. flow_runs c x n k m h.0) (λ m. flow_runs a (in_loop x (k + size c + 1 + size a + size j + 1) (k + size c + 1 + size a)) n (k + size c + 1) m h.2) (λ m. flow_runs j x n (k + size c + 1 + size a) m h.3) n (omega arith) l)
    flow_runs (Body names a) x n k l h = returns x (in_body x names a k) n k (k + size a) l (meaning act a n l) refl refl refl (flow_runs a (in_body x names a k) n k l h)
    flow_runs (Leave at w) x n k l h = jumps k (way x w) l h
    flow_runs (Mark z) x n k l h = ends x n k k (k + 0) l (Done l) (omega arith) (here k l)
    flow_runs (Goto at z) x n k l h = tt
