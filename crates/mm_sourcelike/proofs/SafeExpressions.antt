-- The code of an expression is safe, and behind it the checks of its value are known.
use Rattle.std.proofs.Common.{arith, ◌≡◌, ◌⊎◌, inl, inr, ℕ, ◌+◌, ◌<◌, ◌≤◌, Bool, true, false, ◌||◌, if◌then◌else◌, List, [], ◌∷◌, ◌++◌, refl, sym, subst, Option, Some, None}
use Rattle.std.specs.List.{AllByRecursion, flat_map}
use Rattle.std.specs.Option.{IfSome}
use Rattle.mm_goto.specs.declared.ident.At.{At}
use Rattle.mm_goto.specs.declared.ident.Ident.{Ident}
use Rattle.mm_goto.specs.declared.pure.Pure.{Pure}
use Rattle.mm_goto.specs.declared.pure.Unary.{Unary}
use Rattle.mm_goto.specs.declared.pure.Unary.TheVariants.{Not}
use Rattle.mm_goto.specs.declared.pure.Binary.{Binary}
use Rattle.mm_goto.specs.declared.program.Target.{Target}
use Rattle.mm_goto.specs.declared.program.Instr.{Instr}
use Rattle.mm_goto.specs.declared.program.Instr.TheVariants as instr
use Rattle.mm_goto.specs.Checks.{checks_of, names, written_local, is_in_range, is_not_zero, target_checks, target_exprs}
use Rattle.mm_goto.specs.Parts.{is_division}
use Rattle.mm_goto.specs.Sourcelike.{UpdatesApart, is_section}
use Rattle.mm_goto.specs.Terms.{the_local, applied}
use Rattle.mm_tree.specs.declared.expr.Expr.{Expr, roll-Expr}
use Rattle.mm_tree.specs.declared.expr.Node.{Node, roll-Node}
use Rattle.mm_tree.specs.declared.expr.Node.TheOpen as node
use Rattle.mm_tree.specs.declared.expr.Node.TheOpen.{Node-F, Expr-F}
use Rattle.mm_tree.specs.declared.expr.Node.TheFolds.{ind-Expr, fold-roll-Node, fold-roll-Expr, map-Node, map-Expr}
use Rattle.mm_flow.specs.declared.names.Joining.{Joining}
use Rattle.mm_flow.specs.declared.names.Joining.TheVariants.{Both, And, Or}
use Rattle.mm_flow.specs.declared.names.Named.{Named}
use Rattle.mm_flow.specs.declared.names.Spot.{Spot}
use Rattle.mm_flow.specs.Flow.{Flow, Empty, Do}
use Rattle.mm_flow.specs.Scopes.{local_of, spot_of}
use Rattle.mm_flow.specs.Expressions.{Scope, Reading, Val, Aim, reading, node_step, expr_step, no_code, zero_value, one_value, name_value, of_one, of_two, short, of_three, one_of_two, binary_value, joining, cond_value, expr_value, the_spot, cell, indexed, followed, loaded, address_at, division_check}
use Rattle.mm_sourcelike.proofs.Cells.{both_all}
use Rattle.mm_sourcelike.proofs.Checking.{known_constant, known_local, known_address, known_element, known_applied, known_combined, known_chosen, known_range, known_not_zero, Free, Clear, clear_less, free_range, free_not_zero, constant_clear, local_clear, address_clear, element_clear, applied_clear, combined_clear, chosen_clear}
use Rattle.mm_sourcelike.proofs.Growth.{node_reading}
use Rattle.mm_sourcelike.proofs.Guarding.{Keeps, Kept, Learnt, nothing, after, AreKnown, Safe, Implies, after_more, framed, none_implies, safe_any, all_weaker}
use Rattle.mm_sourcelike.proofs.Laying.{Each, weaker}

-- ---- what code writes

-- the instruction writes locals from this one on alone, not one that it reads, and is no atomic section's
abbrev pub Step : ℕ → Instr → Type 0
Step b i = IfSome (written_local i) (λ l. b ≤ l) × UpdatesApart i × (is_section i ≡ false)

abbrev pub Steps : ℕ → Flow → Type 0
Steps b f = Each (Step b) (λ e. Unit {0}) f

from_more : (b c : ℕ) → b ≤ c → (o : Option ℕ) → IfSome o (λ l. c ≤ l) → IfSome o (λ l. b ≤ l)
from_more b c h None g = tt
from_more b c h (Some l) g = omega (arith, g)

pub steps_from : (b c : ℕ) → b ≤ c → (f : Flow) → Steps c f → Steps b f
steps_from b c h f g = weaker (Step c) (Step b) (λ e. Unit {0}) (λ e. Unit {0}) (λ i k. (from_more b c h (written_local i) k.0, k.1, k.2)) (λ e k. tt) f g

kept_local : (P : ℕ → Type 0) (c : Pure) → Free P c → (o : Option ℕ) → IfSome o P → IfSome o (λ l. names l c ≡ false)
kept_local P c h None g = tt
kept_local P c h (Some l) g = h l g

pub kept_from : (b : ℕ) (c : Pure) (f : Flow) → Steps b f → Free (λ l. b ≤ l) c → Kept c f
kept_from b c f g h = weaker (Step b) (Keeps c) (λ e. Unit {0}) (λ e. Unit {0}) (λ i k. kept_local (λ l. b ≤ l) c h (written_local i) k.0) (λ e k. tt) f g

-- what is known and free of what the flow writes is known behind it
pub all_still : (X : Pure → Type 0) (P : ℕ → Type 0) (b : ℕ) → ((l : ℕ) → b ≤ l → P l) → (f : Flow) → Steps b f → (cs : List Pure) → AllByRecursion (Free P) cs → AreKnown X cs → AreKnown (after X f) cs
all_still X P b g f s [] h k = tt
all_still X P b g f s (c ∷ cs) h k = (framed X c f k.0 (kept_from b c f s (λ l q. h.0 l (g l q))), all_still X P b g f s cs h.1 k.1)

pub still : (X : Pure → Type 0) (P : ℕ → Type 0) (b : ℕ) → ((l : ℕ) → b ≤ l → P l) → (f : Flow) → Steps b f → (e : Pure) → Clear P e → AreKnown X (checks_of e) → AreKnown (after X f) (checks_of e)
still X P b g f s e h k = all_still X P b g f s (checks_of e) h.checks k

-- what is known behind a flow that nothing is known before
pub anyway : (X : Pure → Type 0) (f : Flow) (cs : List Pure) → AreKnown (after nothing f) cs → AreKnown (after X f) cs
anyway X f cs h = all_weaker (after nothing f) (after X f) (after_more nothing X (none_implies X) f) cs h

-- an instruction's only expression
pub alone : (X : Pure → Type 0) (e : Pure) → AreKnown X (checks_of e) → AreKnown X (checks_of e ++ [])
alone X e h = both_all X (checks_of e) [] h tt

-- ---- values

-- locals between the named ones and the first fresh one, and those that are still fresh
abbrev pub Off : ℕ → ℕ → ℕ → ℕ → Type 0
Off n m k l = ((n ≤ l) × (l < m)) ⊎ (k ≤ l)

pub off_less : (n m p k q : ℕ) → m ≤ p → k ≤ q → (l : ℕ) → Off n m q l → Off n p k l
off_less n m p k q g h l (inl r) = inl (r.0, omega (arith, r.1))
off_less n m p k q g h l (inr r) = inr (omega (arith, r))

-- a local that is not among them
pub not_off : (n m k t : ℕ) → m ≤ t → t < k → Off n m k t → ⊥
not_off n m k t g h (inl r) = omega (arith, r.1)
not_off n m k t g h (inr r) = omega (arith, r)

-- the names below n, the fresh locals from m on
pub record Guards (n m : ℕ) (v : Val) : Type 0 where
  pub grows : m ≤ v.next
  pub safe : Safe nothing v.flow
  pub known : AreKnown (after nothing v.flow) (checks_of v.pure)
  pub clear : Clear (Off n m v.next) v.pure
  pub steps : Steps m v.flow

-- what is wanted before an access of the target
abbrev pub wanted : Target → List Pure
wanted t = flat_map target_checks (t ∷ []) ++ flat_map checks_of (flat_map target_exprs (t ∷ []))

abbrev pub inner_exprs : Target → List Pure
inner_exprs t = flat_map target_exprs (t ∷ [])

pub record GuardsAim (n m : ℕ) (a : Aim) : Type 0 where
  pub grows : m ≤ a.next
  pub safe : Safe nothing a.flow
  pub known : AreKnown (after nothing a.flow) (wanted a.target)
  pub free : AllByRecursion (Free (Off n m a.next)) (wanted a.target)
  pub exprs : AllByRecursion (Free (Off n m a.next)) (inner_exprs a.target)
  pub steps : Steps m a.flow

pub constant_guards : (n m : ℕ) (e : Pure) → Clear (Off n m m) e → AreKnown nothing (checks_of e) → Guards n m (no_code e m)
constant_guards n m e h k = record { grows = omega arith; safe = tt; known = k; clear = h; steps = tt }

pub cell_guards : (n m : ℕ) (s : Spot) → GuardsAim n m (cell s m)
cell_guards n m s = record { grows = omega arith; safe = tt; known = tt; free = tt; exprs = tt; steps = tt }

pub indexed_guards : (n m : ℕ) (at : At) (s : Spot) (i : Val) → Guards n m i → GuardsAim n m (indexed at s i)
indexed_guards n m at s i g =
    let X : Pure → Type 0 = after nothing i.flow in
    let check : Instr = instr.Assert (is_in_range i.pure s.len) 0 in
    record {
      grows = g.grows;
      safe = (g.safe, ((λ j k e. e), alone X (is_in_range i.pure s.len) (known_range X i.pure s.len g.clear.same g.known)));
      known = (inl refl, alone (Learnt X check) i.pure (all_weaker X (Learnt X check) (λ c x. inr (x, tt)) (checks_of i.pure) g.known));
      free = (free_range (Off n m i.next) i.pure s.len g.clear.free, both_all (Free (Off n m i.next)) (checks_of i.pure) [] g.clear.checks tt);
      exprs = (g.clear.free, tt);
      steps = (g.steps, (tt, tt, refl));
    }

pub followed_guards : (n m : ℕ) (at : At) (i : Val) → Guards n m i → GuardsAim n m (followed at i)
followed_guards n m at i g =
    let X : Pure → Type 0 = after nothing i.flow in
    let check : Instr = instr.Assert (is_not_zero i.pure) 0 in
    record {
      grows = g.grows;
      safe = (g.safe, ((λ j k e. e), alone X (is_not_zero i.pure) (known_not_zero X i.pure g.known)));
      known = (inl refl, alone (Learnt X check) i.pure (all_weaker X (Learnt X check) (λ c x. inr (x, tt)) (checks_of i.pure) g.known));
      free = (free_not_zero (Off n m i.next) i.pure g.clear.free, both_all (Free (Off n m i.next)) (checks_of i.pure) [] g.clear.checks tt);
      exprs = (g.clear.free, tt);
      steps = (g.steps, (tt, tt, refl));
    }

pub loaded_guards : (n m : ℕ) (at : At) (a : Aim) → GuardsAim n m a → Guards n m (loaded at a)
loaded_guards n m at a g =
    let X : Pure → Type 0 = after nothing a.flow in
    record {
      grows = omega (arith, g.grows);
      safe = (g.safe, ((λ j k e. e), both_all X (wanted a.target) [] g.known tt));
      known = known_local (Learnt X (instr.Load a.next a.target)) a.next;
      clear = local_clear (Off n m (a.next + 1)) a.next (not_off n m (a.next + 1) a.next g.grows (omega arith));
      steps = (g.steps, (g.grows, tt, refl));
    }

address_at_guards : (n m : ℕ) (at : At) (s : Spot) (i : Val) → Guards n m i → Guards n m (address_at at s i)
address_at_guards n m at s i g =
    let X : Pure → Type 0 = after nothing i.flow in
    let check : Instr = instr.Assert (is_in_range i.pure s.len) 0 in
    record {
      grows = g.grows;
      safe = (g.safe, ((λ j k e. e), alone X (is_in_range i.pure s.len) (known_range X i.pure s.len g.clear.same g.known)));
      known = known_element (Learnt X check) s.first s.len i.pure g.clear.same (all_weaker X (Learnt X check) (λ c x. inr (x, tt)) (checks_of i.pure) g.known) (inl refl);
      clear = element_clear (Off n m i.next) s.first s.len i.pure g.clear;
      steps = (g.steps, (tt, tt, refl));
    }

-- ---- operators

pub check_safe : (X : Pure → Type 0) (op : Binary) (at : At) (e : Pure) → AreKnown X (checks_of e) → Safe X (division_check op at e)
check_safe X op at e h = by (is_division op)
  where
    by : (b : Bool) → Safe X (if b then Do at (instr.Assert (is_not_zero e) 0) else Empty)
    by true = ((λ j k q. q), alone X (is_not_zero e) (known_not_zero X e h))
    by false = tt

pub check_steps : (m : ℕ) (op : Binary) (at : At) (e : Pure) → Steps m (division_check op at e)
check_steps m op at e = by (is_division op)
  where
    by : (b : Bool) → Steps m (if b then Do at (instr.Assert (is_not_zero e) 0) else Empty)
    by true = (tt, tt, refl)
    by false = tt

pub past_check : (X : Pure → Type 0) (op : Binary) (at : At) (e : Pure) → Implies X (after X (division_check op at e))
past_check X op at e c x = by (is_division op)
  where
    by : (b : Bool) → after X (if b then Do at (instr.Assert (is_not_zero e) 0) else Empty) c
    by true = inr (x, tt)
    by false = x

pub checked_divisor : (X : Pure → Type 0) (op : Binary) (at : At) (e : Pure) → is_division op ≡ true → after X (division_check op at e) (is_not_zero e)
checked_divisor X op at e h = subst (λ b. after X (if b then Do at (instr.Assert (is_not_zero e) 0) else Empty) (is_not_zero e)) (sym h) (inl refl)

of_one_guards : (n m : ℕ) (op : Unary) (a : Val) → Guards n m a → Guards n m (of_one op a)
of_one_guards n m op a g = record {
  grows = g.grows;
  safe = g.safe;
  known = known_applied (after nothing a.flow) op a.pure g.known;
  clear = applied_clear (Off n m a.next) op a.pure g.clear;
  steps = g.steps;
}

of_two_guards : (n m : ℕ) (at : At) (op : Binary) (a c : Val) → Guards n m a → Guards n a.next c → Guards n m (of_two at op a (λ k. c))
of_two_guards n m at op a c g h =
    let X : Pure → Type 0 = after nothing a.flow in
    let Y : Pure → Type 0 = after X c.flow in
    let Z : Pure → Type 0 = after Y (division_check op at c.pure) in
    let first : AreKnown Y (checks_of a.pure) = still X (Off n m a.next) a.next (λ l q. inr q) c.flow h.steps a.pure g.clear g.known in
    let second : AreKnown Y (checks_of c.pure) = anyway X c.flow (checks_of c.pure) h.known in
    record {
      grows = omega (arith, g.grows, h.grows);
      safe = (g.safe, (safe_any X c.flow h.safe, check_safe Y op at c.pure second));
      known = known_combined Z op a.pure c.pure h.clear.same (all_weaker Y Z (past_check Y op at c.pure) (checks_of a.pure) first) (all_weaker Y Z (past_check Y op at c.pure) (checks_of c.pure) second) (checked_divisor Y op at c.pure);
      clear = combined_clear (Off n m c.next) op a.pure c.pure
          (clear_less (Off n m a.next) (Off n m c.next) (off_less n m m a.next c.next (omega arith) h.grows) a.pure g.clear)
          (clear_less (Off n a.next c.next) (Off n m c.next) (off_less n m a.next c.next c.next g.grows (omega arith)) c.pure h.clear);
      steps = (g.steps, (steps_from m a.next g.grows c.flow h.steps, check_steps m op at c.pure));
    }

short_guards : (n m : ℕ) (at : At) (start test : Pure) (a c : Val) → AreKnown (after nothing a.flow) (checks_of start) → ((X : Pure → Type 0) → AreKnown X (checks_of a.pure) → AreKnown X (checks_of test)) → Guards n m a → Guards n (a.next + 1) c → Guards n m (short at start test a (λ k. c))
short_guards n m at start test a c hs ht g h =
    let t : ℕ = a.next in
    let X : Pure → Type 0 = after nothing a.flow in
    let set : Flow = Do at (instr.Set t start) in
    let Y : Pure → Type 0 = after X set in
    record {
      grows = omega (arith, g.grows, h.grows);
      safe = (
        g.safe,
        (
          ((λ j k e. e), alone X start hs),
          (
            ht Y (still X (Off n m t) t (λ l q. inr q) set (omega arith, tt, refl) a.pure g.clear g.known),
            (h.safe, ((λ j k e. e), alone (after nothing c.flow) (is_not_zero c.pure) (known_not_zero (after nothing c.flow) c.pure h.known))),
          ),
        ),
      );
      known = known_local _ t;
      clear = local_clear (Off n m c.next) t (not_off n m c.next t g.grows (omega (arith, h.grows)));
      steps = (g.steps, ((g.grows, tt, refl), (tt, (steps_from m (t + 1) (omega (arith, g.grows)) c.flow h.steps, (g.grows, tt, refl)))));
    }

of_three_guards : (n m : ℕ) (c v w : Val) → Guards n m c → Guards n c.next v → Guards n v.next w → Guards n m (of_three c (λ k. v) (λ k. w))
of_three_guards n m c v w g h i =
    let X : Pure → Type 0 = after nothing c.flow in
    let Y : Pure → Type 0 = after X v.flow in
    let Z : Pure → Type 0 = after Y w.flow in
    let test : AreKnown Y (checks_of c.pure) = still X (Off n m c.next) c.next (λ l q. inr q) v.flow h.steps c.pure g.clear g.known in
    let first : AreKnown Y (checks_of v.pure) = anyway X v.flow (checks_of v.pure) h.known in
    record {
      grows = omega (arith, g.grows, h.grows, i.grows);
      safe = (g.safe, (safe_any X v.flow h.safe, safe_any Y w.flow i.safe));
      known = known_chosen Z c.pure v.pure w.pure
          (still Y (Off n m c.next) v.next (λ l q. inr (omega (arith, q, h.grows))) w.flow i.steps c.pure g.clear test)
          (still Y (Off n c.next v.next) v.next (λ l q. inr q) w.flow i.steps v.pure h.clear first)
          (anyway Y w.flow (checks_of w.pure) i.known);
      clear = chosen_clear (Off n m w.next) c.pure v.pure w.pure
          (clear_less (Off n m c.next) (Off n m w.next) (off_less n m m c.next w.next (omega arith) (omega (arith, h.grows, i.grows))) c.pure g.clear)
          (clear_less (Off n c.next v.next) (Off n m w.next) (off_less n m c.next v.next w.next g.grows i.grows) v.pure h.clear)
          (clear_less (Off n v.next w.next) (Off n m w.next) (off_less n m v.next w.next w.next (omega (arith, g.grows, h.grows)) (omega arith)) w.pure i.clear);
      steps = (g.steps, (steps_from m c.next g.grows v.flow h.steps, steps_from m v.next (omega (arith, g.grows, h.grows)) w.flow i.steps));
    }

one_of_two_guards : (n m : ℕ) (at : At) (c v w : Val) → Guards n m c → Guards n (c.next + 1) v → Guards n v.next w → Guards n m (one_of_two at c (λ k. v) (λ k. w))
one_of_two_guards n m at c v w g h i =
    let t : ℕ = c.next in
    record {
      grows = omega (arith, g.grows, h.grows, i.grows);
      safe = (
        g.safe,
        (
          g.known,
          (h.safe, ((λ j k e. e), alone (after nothing v.flow) v.pure h.known)),
          (i.safe, ((λ j k e. e), alone (after nothing w.flow) w.pure i.known)),
        ),
      );
      known = known_local _ t;
      clear = local_clear (Off n m w.next) t (not_off n m w.next t g.grows (omega (arith, h.grows, i.grows)));
      steps = (
        g.steps,
        (
          tt,
          (steps_from m (t + 1) (omega (arith, g.grows)) v.flow h.steps, (g.grows, tt, refl)),
          (steps_from m v.next (omega (arith, g.grows, h.grows)) w.flow i.steps, (g.grows, tt, refl)),
        ),
      );
    }

binary_guards : (n m : ℕ) (at : At) (op : Binary) (j : Joining) (a : Val) (b : ℕ → Val) → Guards n m a → ((k : ℕ) → m ≤ k → Guards n k (b k)) → Guards n m (binary_value at op j a b)
binary_guards n m at op And a b g h = short_guards n m at zero_value a.pure a (b (a.next + 1)) (known_constant _ _) (λ X k. k) g (h (a.next + 1) (omega (arith, g.grows)))
binary_guards n m at op Or a b g h = short_guards n m at one_value (applied Not a.pure) a (b (a.next + 1)) (known_constant _ _) (λ X k. known_applied X Not a.pure k) g (h (a.next + 1) (omega (arith, g.grows)))
binary_guards n m at op Both a b g h = of_two_guards n m at op a (b a.next) g (h a.next g.grows)

cond_guards : (n m : ℕ) (at : At) (choice : Bool) (c : Val) (a b : ℕ → Val) → Guards n m c → ((k : ℕ) → m ≤ k → Guards n k (a k)) → ((k : ℕ) → m ≤ k → Guards n k (b k)) → Guards n m (cond_value at choice c a b)
cond_guards n m at true c a b g h i =
    let v = h (c.next + 1) (omega (arith, g.grows)) in
    one_of_two_guards n m at c (a (c.next + 1)) (b (a (c.next + 1)).next) g v (i (a (c.next + 1)).next (omega (arith, g.grows, v.grows)))
cond_guards n m at false c a b g h i =
    let v = h c.next g.grows in
    of_three_guards n m c (a c.next) (b (a c.next).next) g v (i (a c.next).next (omega (arith, g.grows, v.grows)))

-- ---- the whole

-- the locals that have names are these
pub record NamesBelow (n : ℕ) (names : List Named) : Type 0 where
  pub each : (x : Ident) (l : ℕ) → local_of names x ≡ Some l → l < n

abbrev pub IsGuarding : Reading → Type 0
IsGuarding r = (s : Scope) (n m : ℕ) → n ≤ m → NamesBelow n s.names → Guards n m (r.value s m)

abbrev P : Node → Type 0
P d = (at : At) → IsGuarding (node_reading d at)

abbrev Q : Expr → Type 0
Q e = IsGuarding (reading e)

by : (z : Node-F Node Expr) (at : At) → IsGuarding (node_step (map-Node Node Expr (At → Reading) Reading node_reading reading z) at) → IsGuarding (node_reading (roll-Node z) at)
unfolding reading
by z at g = subst (λ (f : At → Reading). IsGuarding (f at)) (sym (fold-roll-Node (At → Reading) Reading node_step expr_step z)) g

by_expr : (z : Expr-F Node Expr) → IsGuarding (node_reading z.node z.at) → IsGuarding (reading (roll-Expr z))
unfolding reading
by_expr z g = subst IsGuarding (sym (fold-roll-Expr (At → Reading) Reading node_step expr_step z)) g

name_guards : (at : At) (s : Scope) (x : Ident) (n m : ℕ) → n ≤ m → NamesBelow n s.names → Guards n m (name_value at s x (local_of s.names x) m)
name_guards at s x n m le h = choose (local_of s.names x) refl
  where
    off : (l : ℕ) → l < n → Off n m m l → ⊥
    off l b (inl r) = omega (arith, r.0)
    off l b (inr r) = omega (arith, r)

    choose : (o : Option ℕ) → local_of s.names x ≡ o → Guards n m (name_value at s x o m)
    choose (Some l) e = constant_guards n m (the_local l) (local_clear (Off n m m) l (off l (h.each x l e))) (known_local nothing l)
    choose None e = loaded_guards n m at (cell (the_spot (spot_of s.spots x)) m) (cell_guards n m (the_spot (spot_of s.spots x)))

node_guards : (y : Node-F ((d : Node) × P d) ((e : Expr) × Q e)) → P (roll-Node (map-Node ((d : Node) × P d) ((e : Expr) × Q e) Node Expr (λ d. d.0) (λ e. e.0) y))
node_guards (node.Number z) at = by (node.Number z) at (λ s n m le h. constant_guards n m _ (constant_clear (Off n m m) z) (known_constant nothing z))
node_guards node.Null at = by node.Null at (λ s n m le h. constant_guards n m _ (constant_clear (Off n m m) _) (known_constant nothing _))
node_guards (node.Name x) at = by (node.Name x) at (λ s n m le h. name_guards at s x n m le h)
node_guards (node.Index x e) at = by (node.Index x e.0) at (λ s n m le h. loaded_guards n m at _ (indexed_guards n m at (the_spot (spot_of s.spots x)) (expr_value e.0 s m) (e.1 s n m le h)))
node_guards (node.Deref e) at = by (node.Deref e.0) at (λ s n m le h. loaded_guards n m at _ (followed_guards n m at (expr_value e.0 s m) (e.1 s n m le h)))
node_guards (node.AddrName w) at = by (node.AddrName w) at (λ s n m le h. constant_guards n m _ (address_clear (Off n m m) (the_spot (spot_of s.spots w.name)).first) (known_address nothing (the_spot (spot_of s.spots w.name)).first))
node_guards (node.AddrIndex w e) at = by (node.AddrIndex w e.0) at (λ s n m le h. address_at_guards n m at (the_spot (spot_of s.spots w.name)) (expr_value e.0 s m) (e.1 s n m le h))
node_guards (node.Un op e) at = by (node.Un op e.0) at (λ s n m le h. of_one_guards n m op (expr_value e.0 s m) (e.1 s n m le h))
node_guards (node.Bin op a b) at = by (node.Bin op a.0 b.0) at (λ s n m le h.
    binary_guards n m at op (joining op ((reading b.0).has_code s)) (expr_value a.0 s m) (expr_value b.0 s) (a.1 s n m le h) (λ k l. b.1 s n k (omega (arith, le, l)) h))
node_guards (node.Cond c a b) at = by (node.Cond c.0 a.0 b.0) at (λ s n m le h.
    cond_guards n m at ((reading a.0).has_code s || (reading b.0).has_code s) (expr_value c.0 s m) (expr_value a.0 s) (expr_value b.0 s) (c.1 s n m le h)
    (λ k l. a.1 s n k (omega (arith, le, l)) h) (λ k l. b.1 s n k (omega (arith, le, l)) h))

pub expr_guards : (e : Expr) → IsGuarding (reading e)
expr_guards = ind-Expr P Q (λ x y is. subst (λ z. P (roll-Node z)) is (node_guards y)) (λ x y is. subst (λ z. Q (roll-Expr z)) is (by_expr (map-Expr _ _ Node Expr (λ d. d.0) (λ e. e.0) y) (y.node.1 y.at)))
