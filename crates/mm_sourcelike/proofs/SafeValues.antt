-- The code of what is assigned, returned or called is safe, and so is that of assignments.
use Rattle.std.proofs.Common.{arith, ◌≡◌, inl, inr, ℕ, suc, ◌+◌, ◌<◌, ◌≤◌, Bool, true, false, List, [], ◌∷◌, ◌++◌, length, refl, ap, Option, Some, None}
use Rattle.std.specs.List.{AllByRecursion}
use Rattle.std.proofs.lemmas.List.Elements.{All-from_recursion}
use Rattle.mm_goto.specs.declared.ident.At.{At}
use Rattle.mm_goto.specs.declared.ident.Ident.{Ident}
use Rattle.mm_goto.specs.declared.pure.Pure.{Pure}
use Rattle.mm_goto.specs.declared.pure.Binary.{Binary}
use Rattle.mm_goto.specs.declared.program.Instr.TheVariants as instr
use Rattle.mm_goto.specs.Checks.{checks_of, names as names_in}
use Rattle.mm_goto.specs.Terms.{the_local, combined}
use Rattle.mm_tree.specs.declared.expr.Expr.{Expr}
use Rattle.mm_tree.specs.declared.expr.Node.{Node}
use Rattle.mm_tree.specs.declared.expr.Node.TheOpen as node
use Rattle.mm_tree.specs.declared.expr.Node.TheOpen.{Node-F}
use Rattle.mm_tree.specs.declared.stmt.Left.{Left}
use Rattle.mm_tree.specs.declared.stmt.LeftNode.{LeftNode}
use Rattle.mm_tree.specs.declared.stmt.LeftNode.TheVariants as left
use Rattle.mm_tree.specs.declared.stmt.Value.{Value}
use Rattle.mm_tree.specs.declared.stmt.Value.TheVariants as value
use Rattle.mm_tree.specs.Trees.{node_of}
use Rattle.mm_flow.specs.declared.names.Named.{Named}
use Rattle.mm_flow.specs.Flow.{Flow, Do}
use Rattle.mm_flow.specs.Expressions.{Scope, Val, Vals, Aim, expr_value, values, the_spot, zero_value, division_check}
use Rattle.mm_flow.specs.Scopes.{spot_of}
use Rattle.mm_flow.specs.Statements.{Did, Function, Within, scope, reads, function_of, bound, is_input, sets, called, call_of, call_value, aim_of, aim_at, added, swapped, value_of, first_value, left_aim, assigned_to, updated_to}
use Rattle.mm_sourcelike.proofs.Cells.{both_all}
use Rattle.mm_sourcelike.proofs.Checking.{known_constant, known_local, known_combined, Free, Clear, clear_less, constant_clear, local_clear}
use Rattle.mm_sourcelike.proofs.Deeds.{Called, Fits, AllFit, of_value, of_optional}
use Rattle.mm_sourcelike.proofs.Guarding.{Learnt, nothing, after, AreKnown, Safe, safe_any, all_weaker}
use Rattle.mm_sourcelike.proofs.SafeExpressions.{Steps, steps_from, all_still, still, anyway, alone, Off, off_less, not_off, Guards, wanted, inner_exprs, GuardsAim, constant_guards, cell_guards, indexed_guards, followed_guards, check_safe, check_steps, past_check, checked_divisor, NamesBelow, expr_guards}

-- ---- arguments

pub record GuardsVals (n m many : ℕ) (vs : Vals) : Type 0 where
  pub grows : m ≤ vs.next
  pub safe : Safe nothing vs.flow
  pub known : AllByRecursion (λ e. AreKnown (after nothing vs.flow) (checks_of e)) vs.pures
  pub clear : AllByRecursion (Clear (Off n m vs.next)) vs.pures
  pub steps : Steps m vs.flow
  pub count : length vs.pures ≡ many

values_guards : (s : Scope) (es : List Expr) (n m : ℕ) → n ≤ m → NamesBelow n s.names → GuardsVals n m (length es) (values s es m)
values_guards s [] n m le h = record { grows = omega arith; safe = tt; known = tt; clear = tt; steps = tt; count = refl }
values_guards s (e ∷ es) n m le h =
    let v : Val = expr_value e s m in
    let vs : Vals = values s es v.next in
    let one : Guards n m v = expr_guards e s n m le h in
    let more = values_guards s es n v.next (omega (arith, le, one.grows)) h in
    let X : Pure → Type 0 = after nothing v.flow in
    record {
      grows = omega (arith, one.grows, more.grows);
      safe = (one.safe, safe_any X vs.flow more.safe);
      known = (
        still X (Off n m v.next) v.next (λ l q. inr q) vs.flow more.steps v.pure one.clear one.known,
        all_weaker (λ d. AreKnown (after nothing vs.flow) (checks_of d)) (λ d. AreKnown (after X vs.flow) (checks_of d)) (λ d k. anyway X vs.flow (checks_of d) k) vs.pures more.known,
      );
      clear = (
        clear_less (Off n m v.next) (Off n m vs.next) (off_less n m m v.next vs.next (omega arith) more.grows) v.pure one.clear,
        all_weaker (Clear (Off n v.next vs.next)) (Clear (Off n m vs.next)) (λ d c. clear_less (Off n v.next vs.next) (Off n m vs.next) (off_less n m v.next vs.next vs.next one.grows (omega arith)) d c) vs.pures more.clear,
      );
      steps = (one.steps, steps_from m v.next one.grows vs.flow more.steps);
      count = ap suc more.count;
    }

-- behind a Set of a local that stands in no check
past_set : (X : Pure → Type 0) (P : ℕ → Type 0) (k : ℕ) (e : Pure) → P k → (cs : List Pure) → AllByRecursion (Free P) cs → AreKnown X cs → AreKnown (Learnt X (instr.Set k e)) cs
past_set X P k e p [] h g = tt
past_set X P k e p (c ∷ cs) h g = (inr (g.0, h.0 k p), past_set X P k e p cs h.1 g.1)

past_sets : (X : Pure → Type 0) (P : ℕ → Type 0) (k : ℕ) (e : Pure) → P k → (es : List Pure) → AllByRecursion (Clear P) es → AllByRecursion (λ d. AreKnown X (checks_of d)) es → AllByRecursion (λ d. AreKnown (Learnt X (instr.Set k e)) (checks_of d)) es
past_sets X P k e p [] h g = tt
past_sets X P k e p (d ∷ es) h g = (past_set X P k e p (checks_of d) h.0.checks g.0, past_sets X P k e p es h.1 g.1)

sets_safe : (X : Pure → Type 0) (P : ℕ → Type 0) (at : At) (es : List Pure) (k : ℕ) → ((l : ℕ) → k ≤ l → l < k + length es → P l) → AllByRecursion (Clear P) es → AllByRecursion (λ e. AreKnown X (checks_of e)) es → Safe X (sets at es k)
sets_safe X P at [] k p h g = tt
sets_safe X P at (e ∷ es) k p h g = (
  ((λ j m q. q), alone X e g.0),
  sets_safe (Learnt X (instr.Set k e)) P at es (k + 1) (λ l a b. p l (omega (arith, a)) (omega (arith, b))) h.1 (past_sets X P k e (p k (omega arith) (omega arith)) es h.1 g.1),
)

sets_steps : (b : ℕ) (at : At) (es : List Pure) (k : ℕ) → b ≤ k → Steps b (sets at es k)
sets_steps b at [] k h = tt
sets_steps b at (e ∷ es) k h = ((h, tt, refl), sets_steps b at es (k + 1) (omega (arith, h)))

-- ---- calls

-- the code of a called function, whose parameters are the locals from m on
pub record SafeCall (m q : ℕ) (d : Did) : Type 0 where
  pub grows : q ≤ d.known.next
  pub safe : Safe nothing d.flow
  pub steps : Steps m d.flow

-- the code of these functions is safe wherever they are called
abbrev pub CallsSafe : (Function → Type 0) → Within → Type 0
CallsSafe G w = (f : Function) → G f → (m q ret : ℕ) → m + length f.params ≤ ret → ret < q → SafeCall m q (w.inline f (bound f.params m) q ret)

pub names_up : (n m : ℕ) (names : List Named) → n ≤ m → NamesBelow n names → NamesBelow m names
names_up n m names le h = record { each = λ x l e. omega (arith, h.each x l e, le) }

-- what is done with a value: it is safe, and writes locals from b on alone
pub record SafeVal (b m : ℕ) (v : Val) : Type 0 where
  pub grows : m ≤ v.next
  pub safe : Safe nothing v.flow
  pub steps : Steps b v.flow

module _ (G : Function → Type 0) (w : Within) (calls : CallsSafe G w) (names : List Named) where
  called_guards : (at : At) (es : List Expr) (n m : ℕ) (f : Function) → n ≤ m → NamesBelow n names → length es ≡ length f.params → G f → Guards n m (called w at es names m f)
  called_guards at es n m f le h count good =
      let ret : ℕ = m + length f.params in
      let args : Vals = values (scope w names) es (ret + 1) in
      let vs = values_guards (scope w names) es m (ret + 1) (omega arith) (names_up n m names le h) in
      let body = calls f good m args.next ret (omega arith) (omega (arith, vs.grows)) in
      let X : Pure → Type 0 = after nothing args.flow in
      let few : (l : ℕ) → m ≤ l → l < m + length args.pures → Off m (ret + 1) args.next l = λ l a b. inl (a, omega (arith, b, vs.count, count)) in
      record {
        grows = omega (arith, vs.grows, body.grows);
        safe = (vs.safe, (sets_safe X (Off m (ret + 1) args.next) at args.pures m few vs.clear vs.known, (((λ j k q. q), alone _ zero_value (known_constant _ _)), body.safe)));
        known = known_local _ ret;
        clear = local_clear (Off n m _) ret (not_off n m _ ret (omega arith) (omega (arith, vs.grows, body.grows)));
        steps = (steps_from m (ret + 1) (omega arith) args.flow vs.steps, (sets_steps m at args.pures m (omega arith), ((omega arith, tt, refl), body.steps)));
      }

  call_guards : (at : At) (x : Ident) (es : List Expr) (n m : ℕ) → n ≤ m → NamesBelow n names → is_input x ≡ false → Fits w.parts w.items G (Called x (length es)) → Guards n m (call_of w at es names m (function_of w.items w.parts.asserts x))
  call_guards at x es n m le h real fits = choose (function_of w.items w.parts.asserts x) refl
    where
      choose : (o : Option Function) → function_of w.items w.parts.asserts x ≡ o → Guards n m (call_of w at es names m o)
      choose None e = constant_guards n m zero_value (constant_clear (Off n m m) _) (known_constant nothing _)
      choose (Some f) e = let r = fits real f e in called_guards at es n m f le h r.0 r.1

  -- ---- values

  expr_in : (e : Expr) (n m : ℕ) → n ≤ m → NamesBelow n names → Guards n m (reads w names e m)
  expr_in e n m le h = expr_guards e (scope w names) n m le h

  aim_by : (at : At) (e : Expr) (d : Node-F Node Expr) (n m : ℕ) → n ≤ m → NamesBelow n names → GuardsAim n m (aim_of (scope w names) at e d m)
  aim_by at e (node.AddrName x) n m le h = cell_guards n m (the_spot (spot_of w.parts.spots x.name))
  aim_by at e (node.AddrIndex x i) n m le h = indexed_guards n m at (the_spot (spot_of w.parts.spots x.name)) (expr_value i (scope w names) m) (expr_in i n m le h)
  aim_by at e (node.Number z) n m le h = followed_guards n m at (expr_value e (scope w names) m) (expr_in e n m le h)
  aim_by at e node.Null n m le h = followed_guards n m at (expr_value e (scope w names) m) (expr_in e n m le h)
  aim_by at e (node.Name x) n m le h = followed_guards n m at (expr_value e (scope w names) m) (expr_in e n m le h)
  aim_by at e (node.Index x i) n m le h = followed_guards n m at (expr_value e (scope w names) m) (expr_in e n m le h)
  aim_by at e (node.Deref i) n m le h = followed_guards n m at (expr_value e (scope w names) m) (expr_in e n m le h)
  aim_by at e (node.Un op i) n m le h = followed_guards n m at (expr_value e (scope w names) m) (expr_in e n m le h)
  aim_by at e (node.Bin op a b) n m le h = followed_guards n m at (expr_value e (scope w names) m) (expr_in e n m le h)
  aim_by at e (node.Cond c a b) n m le h = followed_guards n m at (expr_value e (scope w names) m) (expr_in e n m le h)

  -- none of the expressions of a locked instruction has the local that it writes
  apart_all : (P : ℕ → Type 0) (t : ℕ) → P t → (es : List Pure) → AllByRecursion (Free P) es → AllByRecursion (λ e. names_in t e ≡ false) es
  apart_all P t p [] h = tt
  apart_all P t p (e ∷ es) h = (h.0 t p, apart_all P t p es h.1)

  add_guards : (at : At) (n m : ℕ) (a : Aim) (v : Val) → GuardsAim n m a → Guards n a.next v → Guards n m (added at a (λ k. v))
  add_guards at n m a v g h =
      let t : ℕ = v.next in
      let X : Pure → Type 0 = after nothing a.flow in
      let Y : Pure → Type 0 = after X v.flow in
      let aim : AreKnown Y (wanted a.target) = all_still X (Off n m a.next) a.next (λ l q. inr q) v.flow h.steps (wanted a.target) g.free g.known in
      let value : AreKnown Y (checks_of v.pure) = anyway X v.flow (checks_of v.pure) h.known in
      record {
        grows = omega (arith, g.grows, h.grows);
        safe = (g.safe, (safe_any X v.flow h.safe, ((λ j k q. q), both_all Y (wanted a.target) (checks_of v.pure ++ []) aim (alone Y v.pure value))));
        known = known_local _ t;
        clear = local_clear (Off n m (t + 1)) t (not_off n m (t + 1) t (omega (arith, g.grows, h.grows)) (omega arith));
        steps = (
          g.steps,
          (
            steps_from m a.next g.grows v.flow h.steps,
            (
              omega (arith, g.grows, h.grows),
              All-from_recursion (λ e. names_in t e ≡ false) (inner_exprs a.target ++ v.pure ∷ [])
                  (both_all (λ e. names_in t e ≡ false) (inner_exprs a.target) (v.pure ∷ []) (apart_all (Off n m a.next) t (inr h.grows) (inner_exprs a.target) g.exprs) (h.clear.free t (inr (omega arith)), tt)),
              refl,
            ),
          ),
        );
      }

  swap_guards : (at : At) (n m : ℕ) (a : Aim) (v u : Val) → GuardsAim n m a → Guards n a.next v → Guards n v.next u → Guards n m (swapped at a (λ k. v) (λ k. u))
  swap_guards at n m a v u g h i =
      let t : ℕ = u.next in
      let X : Pure → Type 0 = after nothing a.flow in
      let Y : Pure → Type 0 = after X v.flow in
      let Z : Pure → Type 0 = after Y u.flow in
      let aim : AreKnown Y (wanted a.target) = all_still X (Off n m a.next) a.next (λ l q. inr q) v.flow h.steps (wanted a.target) g.free g.known in
      let aim_there : AreKnown Z (wanted a.target) = all_still Y (Off n m a.next) v.next (λ l q. inr (omega (arith, q, h.grows))) u.flow i.steps (wanted a.target) g.free aim in
      let value : AreKnown Z (checks_of v.pure) = still Y (Off n a.next v.next) v.next (λ l q. inr q) u.flow i.steps v.pure h.clear (anyway X v.flow (checks_of v.pure) h.known) in
      let other : AreKnown Z (checks_of u.pure) = anyway Y u.flow (checks_of u.pure) i.known in
      record {
        grows = omega (arith, g.grows, h.grows, i.grows);
        safe = (g.safe, (safe_any X v.flow h.safe, (safe_any Y u.flow i.safe, ((λ j k q. q), both_all Z (wanted a.target) (checks_of v.pure ++ (checks_of u.pure ++ [])) aim_there (both_all Z (checks_of v.pure) (checks_of u.pure ++ []) value (alone Z u.pure other))))));
        known = known_local _ t;
        clear = local_clear (Off n m (t + 1)) t (not_off n m (t + 1) t (omega (arith, g.grows, h.grows, i.grows)) (omega arith));
        steps = (
          g.steps,
          (
            steps_from m a.next g.grows v.flow h.steps,
            (
              steps_from m v.next (omega (arith, g.grows, h.grows)) u.flow i.steps,
              (
                omega (arith, g.grows, h.grows, i.grows),
                All-from_recursion (λ e. names_in t e ≡ false) (inner_exprs a.target ++ v.pure ∷ u.pure ∷ [])
                    (both_all (λ e. names_in t e ≡ false) (inner_exprs a.target) (v.pure ∷ u.pure ∷ []) (apart_all (Off n m a.next) t (inr (omega (arith, h.grows, i.grows))) (inner_exprs a.target) g.exprs)
                    (h.clear.free t (inr i.grows), (i.clear.free t (inr (omega arith)), tt))),
                refl,
              ),
            ),
          ),
        );
      }

  pub value_guards : (v : Value) (n m : ℕ) → n ≤ m → NamesBelow n names → AllFit w.parts w.items G (of_value v) → Guards n m (value_of w names m v)
  value_guards (value.Plain e) n m le h fits = expr_in e n m le h
  value_guards (value.Call at x es) n m le h fits = choose (is_input x) refl
    where
      choose : (b : Bool) → is_input x ≡ b → Guards n m (call_value w at x es names m b)
      choose true e = record {
        grows = omega arith;
        safe = ((λ j k q. q), tt);
        known = known_local _ m;
        clear = local_clear (Off n m (m + 1)) m (not_off n m (m + 1) m (omega arith) (omega arith));
        steps = (omega arith, tt, refl);
      }
      choose false e = call_guards at x es n m le h e fits.0
  value_guards (value.FetchAdd at p e) n m le h fits =
      let a : Aim = aim_at (scope w names) at p m in
      let g = aim_by at p (node_of p) n m le h in
      add_guards at n m a (reads w names e a.next) g (expr_in e n a.next (omega (arith, le, g.grows)) h)
  value_guards (value.CompareSwap at p e f) n m le h fits =
      let a : Aim = aim_at (scope w names) at p m in
      let v : Val = reads w names e a.next in
      let g = aim_by at p (node_of p) n m le h in
      let i = expr_in e n a.next (omega (arith, le, g.grows)) h in
      swap_guards at n m a v (reads w names f v.next) g i (expr_in f n v.next (omega (arith, le, g.grows, i.grows)) h)

  pub first_guards : (v : Option Value) (n m : ℕ) → n ≤ m → NamesBelow n names → AllFit w.parts w.items G (of_optional v) → Guards n m (first_value w names m v)
  first_guards None n m le h fits = constant_guards n m zero_value (constant_clear (Off n m m) _) (known_constant nothing _)
  first_guards (Some v) n m le h fits = value_guards v n m le h fits

  -- ---- assignments

  pub left_guards : (at : At) (l : LeftNode) (n m : ℕ) → n ≤ m → NamesBelow n names → GuardsAim n m (left_aim (scope w names) at l m)
  left_guards at (left.Name x) n m le h = cell_guards n m (the_spot (spot_of w.parts.spots x))
  left_guards at (left.Index x e) n m le h = indexed_guards n m at (the_spot (spot_of w.parts.spots x)) (expr_value e (scope w names) m) (expr_in e n m le h)
  left_guards at (left.Deref e) n m le h = followed_guards n m at (expr_value e (scope w names) m) (expr_in e n m le h)

  pub assigned_safe : (b n : ℕ) (l : Left) (v : Value) (o : Option ℕ) → b ≤ n → ((t : ℕ) → o ≡ Some t → b ≤ t) → NamesBelow n names → AllFit w.parts w.items G (of_value v) → SafeVal b n (assigned_to w names n l v o)
  assigned_safe b n l v (Some t) le above h fits =
      let g = value_guards v n n (omega arith) h fits in
      let u : Val = value_of w names n v in
      record { grows = g.grows; safe = (g.safe, ((λ j k q. q), alone (after nothing u.flow) u.pure g.known)); steps = (steps_from b n le u.flow g.steps, (above t refl, tt, refl)) }
  assigned_safe b n l v None le above h fits =
      let a : Aim = left_aim (scope w names) l.at l.node n in
      let g = left_guards l.at l.node n n (omega arith) h in
      let i = value_guards v n a.next g.grows h fits in
      let u : Val = value_of w names a.next v in
      let X : Pure → Type 0 = after nothing a.flow in
      let Y : Pure → Type 0 = after X u.flow in
      record {
        grows = omega (arith, g.grows, i.grows);
        safe = (
          g.safe,
          (
            safe_any X u.flow i.safe,
            (
              (λ j k q. q),
              both_all Y (wanted a.target) (checks_of u.pure ++ [])
                  (all_still X (Off n n a.next) a.next (λ l q. inr q) u.flow i.steps (wanted a.target) g.free g.known)
                  (alone Y u.pure (anyway X u.flow (checks_of u.pure) i.known)),
            ),
          ),
        );
        steps = (steps_from b n le a.flow g.steps, (steps_from b a.next (omega (arith, le, g.grows)) u.flow i.steps, (tt, tt, refl)));
      }

  pub updated_safe : (b n : ℕ) (l : Left) (op : Binary) (e : Expr) (o : Option ℕ) → b ≤ n → ((t : ℕ) → o ≡ Some t → b ≤ t) → NamesBelow n names → SafeVal b n (updated_to w names n l op e o)
  updated_safe b n l op e (Some t) le above h =
      let v : Val = reads w names e n in
      let g = expr_in e n n (omega arith) h in
      let X : Pure → Type 0 = after nothing v.flow in
      let Y : Pure → Type 0 = after X (division_check op l.at v.pure) in
      record {
        grows = g.grows;
        safe = (
          g.safe,
          (
            check_safe X op l.at v.pure g.known,
            (
              (λ j k q. q),
              alone Y (combined op (the_local t) v.pure)
                  (known_combined Y op (the_local t) v.pure g.clear.same (known_local Y t) (all_weaker X Y (past_check X op l.at v.pure) (checks_of v.pure) g.known) (checked_divisor X op l.at v.pure)),
            ),
          ),
        );
        steps = (steps_from b n le v.flow g.steps, (check_steps b op l.at v.pure, (above t refl, tt, refl)));
      }
  updated_safe b n l op e None le above h =
      let a : Aim = left_aim (scope w names) l.at l.node n in
      let t : ℕ = a.next in
      let v : Val = reads w names e (t + 1) in
      let g = left_guards l.at l.node n n (omega arith) h in
      let i = expr_in e n (t + 1) (omega (arith, g.grows)) h in
      let load : Flow = Do l.at (instr.Load t a.target) in
      let X : Pure → Type 0 = after nothing a.flow in
      let Y : Pure → Type 0 = after X load in
      let Z : Pure → Type 0 = after Y v.flow in
      let W : Pure → Type 0 = after Z (division_check op l.at v.pure) in
      let behind_load : AreKnown Y (wanted a.target) = all_still X (Off n n t) t (λ m q. inr q) load (omega arith, tt, refl) (wanted a.target) g.free g.known in
      let behind_value : AreKnown Z (wanted a.target) = all_still Y (Off n n t) (t + 1) (λ m q. inr (omega (arith, q))) v.flow i.steps (wanted a.target) g.free behind_load in
      let value : AreKnown Z (checks_of v.pure) = anyway Y v.flow (checks_of v.pure) i.known in
      record {
        grows = omega (arith, g.grows, i.grows);
        safe = (
          g.safe,
          (
            ((λ j k q. q), both_all X (wanted a.target) [] g.known tt),
            (
              safe_any Y v.flow i.safe,
              (
                check_safe Z op l.at v.pure value,
                (
                  (λ j k q. q),
                  both_all W (wanted a.target) (checks_of (combined op (the_local t) v.pure) ++ [])
                      (all_weaker Z W (past_check Z op l.at v.pure) (wanted a.target) behind_value)
                      (alone W (combined op (the_local t) v.pure) (known_combined W op (the_local t) v.pure i.clear.same (known_local W t) (all_weaker Z W (past_check Z op l.at v.pure) (checks_of v.pure) value) (checked_divisor Z op l.at v.pure))),
                ),
              ),
            ),
          ),
        );
        steps = (steps_from b n le a.flow g.steps, ((omega (arith, le, g.grows), tt, refl), (steps_from b (t + 1) (omega (arith, le, g.grows)) v.flow i.steps, (check_steps b op l.at v.pure, (tt, tt, refl)))));
      }
