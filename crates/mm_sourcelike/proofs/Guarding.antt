-- Flows whose code passes each check before what wants it, whichever way control goes.
use Rattle.std.proofs.Common.{arith, ◌≡◌, ◌⊎◌, inl, inr, ℕ, suc, ◌+◌, ◌<◌, false, List, [], ◌∷◌, ◌++◌, length, ◌∙◌, sym, ap, subst, Option, Some, None}
use Rattle.std.specs.List.{AllByRecursion, slice_get}
use Rattle.std.specs.Option.{IfSome}
use Rattle.std.proofs.lemmas.List.Elements.{All-from_recursion}
use Rattle.mm_goto.specs.declared.pure.Pure.{Pure}
use Rattle.mm_goto.specs.declared.program.Instr.{Instr}
use Rattle.mm_goto.specs.declared.program.Instr.TheVariants.{Jump, Branch, Assert, End}
use Rattle.mm_goto.specs.Checks.{checks_of, names, written_local}
use Rattle.mm_goto.specs.Flow.{GoesTo, IsSuccessor, IsFlow, on, here as at_end}
use Rattle.mm_goto.specs.Sourcelike.{KeepsCheck, Passes, here, later, wants}
use Rattle.mm_flow.specs.Flow.{Flow, Empty, Do, Then, When, Either, While, DoWhile, For, Body, Leave, Mark, Goto, Way, Ways, Placed, size, lay, way}
use Rattle.mm_sourcelike.proofs.Cells.{both_all}
use Rattle.mm_sourcelike.proofs.Laying.{Each, laid_size}
use Rattle.mm_sourcelike.proofs.Scoping.{same_some}

pub all_weaker : {A : Type 0} (P Q : A → Type 0) → ((x : A) → P x → Q x) → (xs : List A) → AllByRecursion P xs → AllByRecursion Q xs
all_weaker P Q f [] h = tt
all_weaker P Q f (x ∷ xs) h = (f x h.0, all_weaker P Q f xs h.1)

-- ---- what is known of a flow

-- the instruction writes no local of the check
abbrev pub Keeps : Pure → Instr → Type 0
Keeps c i = IfSome (written_local i) (λ l. names l c ≡ false)

-- and none of the flow does
abbrev pub Kept : Pure → Flow → Type 0
Kept c f = Each (Keeps c) (λ e. Unit {0}) f

-- the checks that are known behind an instruction
abbrev pub Learnt : (Pure → Type 0) → Instr → Pure → Type 0
Learnt X i c = (i ≡ Assert c 0) ⊎ (X c × Keeps c i)

abbrev pub nothing : Pure → Type 0
nothing c = ⊥

-- the checks that are known behind a flow
abbrev pub after : (Pure → Type 0) → Flow → Pure → Type 0
after X Empty c = X c
after X (Do at i) c = Learnt X i c
after X (Then a b) c = after (after X a) b c
after X (When at e a) c = X c × Kept c (When at e a)
after X (Either at e a b) c = X c × Kept c (Either at e a b)
after X (While at d e a) c = X c × Kept c (While at d e a)
after X (DoWhile at a d e) c = X c × Kept c (DoWhile at a d e)
after X (For at d e a j) c = X c × Kept c (For at d e a j)
after X (Body ns a) c = X c × Kept c (Body ns a)
after X (Leave at w) c = X c
after X (Mark y) c = X c
after X (Goto at y) c = X c

-- control goes on behind the instruction at most
abbrev pub Plain : Instr → Type 0
Plain i = (j k : ℕ) → GoesTo j i k → k ≡ j + 1

abbrev pub AreKnown : (Pure → Type 0) → List Pure → Type 0
AreKnown X cs = AllByRecursion X cs

-- where these checks are known before it, each check of it is known in time
abbrev pub Safe : (Pure → Type 0) → Flow → Type 0
Safe X Empty = Unit {0}
Safe X (Do at i) = Plain i × AreKnown X (wants i)
Safe X (Then a b) = Safe X a × Safe (after X a) b
Safe X (When at e a) = AreKnown X (checks_of e) × Safe nothing a
Safe X (Either at e a b) = AreKnown X (checks_of e) × Safe nothing a × Safe nothing b
Safe X (While at d e a) = Safe nothing d × AreKnown (after nothing d) (checks_of e) × Safe nothing a
Safe X (DoWhile at a d e) = Safe nothing a × Safe nothing d × AreKnown (after nothing d) (checks_of e)
Safe X (For at d e a j) = Safe nothing d × AreKnown (after nothing d) (checks_of e) × Safe nothing a × Safe nothing j
Safe X (Body ns a) = Safe nothing a
Safe X (Leave at w) = Unit {0}
Safe X (Mark y) = Unit {0}
Safe X (Goto at y) = ⊥

abbrev pub Implies : (Pure → Type 0) → (Pure → Type 0) → Type 0
Implies X Y = (c : Pure) → X c → Y c

pub learnt_more : (X Y : Pure → Type 0) → Implies X Y → (i : Instr) → Implies (Learnt X i) (Learnt Y i)
learnt_more X Y h i c (inl e) = inl e
learnt_more X Y h i c (inr k) = inr (h c k.0, k.1)

pub after_more : (X Y : Pure → Type 0) → Implies X Y → (f : Flow) → Implies (after X f) (after Y f)
after_more X Y h Empty c k = h c k
after_more X Y h (Do at i) c k = learnt_more X Y h i c k
after_more X Y h (Then a b) c k = after_more (after X a) (after Y a) (after_more X Y h a) b c k
after_more X Y h (When at e a) c k = (h c k.0, k.1)
after_more X Y h (Either at e a b) c k = (h c k.0, k.1)
after_more X Y h (While at d e a) c k = (h c k.0, k.1)
after_more X Y h (DoWhile at a d e) c k = (h c k.0, k.1)
after_more X Y h (For at d e a j) c k = (h c k.0, k.1)
after_more X Y h (Body ns a) c k = (h c k.0, k.1)
after_more X Y h (Leave at w) c k = h c k
after_more X Y h (Mark y) c k = h c k
after_more X Y h (Goto at y) c k = h c k

-- what is known before a flow that keeps it is known behind it
pub framed : (X : Pure → Type 0) (c : Pure) (f : Flow) → X c → Kept c f → after X f c
framed X c Empty x k = x
framed X c (Do at i) x k = inr (x, k)
framed X c (Then a b) x k = framed (after X a) c b (framed X c a x k.0) k.1
framed X c (When at e a) x k = (x, k)
framed X c (Either at e a b) x k = (x, k)
framed X c (While at d e a) x k = (x, k)
framed X c (DoWhile at a d e) x k = (x, k)
framed X c (For at d e a j) x k = (x, k)
framed X c (Body ns a) x k = (x, k)
framed X c (Leave at w) x k = x
framed X c (Mark y) x k = x
framed X c (Goto at y) x k = x

pub safe_more : (X Y : Pure → Type 0) → Implies X Y → (f : Flow) → Safe X f → Safe Y f
safe_more X Y h Empty s = tt
safe_more X Y h (Do at i) s = (s.0, all_weaker X Y h (wants i) s.1)
safe_more X Y h (Then a b) s = (safe_more X Y h a s.0, safe_more (after X a) (after Y a) (after_more X Y h a) b s.1)
safe_more X Y h (When at e a) s = (all_weaker X Y h (checks_of e) s.0, s.1)
safe_more X Y h (Either at e a b) s = (all_weaker X Y h (checks_of e) s.0, s.1, s.2)
safe_more X Y h (While at d e a) s = s
safe_more X Y h (DoWhile at a d e) s = s
safe_more X Y h (For at d e a j) s = s
safe_more X Y h (Body ns a) s = s
safe_more X Y h (Leave at w) s = tt
safe_more X Y h (Mark y) s = tt
safe_more X Y h (Goto at y) s = s

pub none_implies : (X : Pure → Type 0) → Implies nothing X
none_implies X c e = absurd e

pub safe_any : (X : Pure → Type 0) (f : Flow) → Safe nothing f → Safe X f
safe_any X f s = safe_more nothing X (none_implies X) f s

-- ---- paths

abbrev Leads : ℕ → ℕ → Option Instr → Type 0
Leads j k (Some i) = GoesTo j i k
Leads j k None = ⊥

goes : (code : List Instr) (j k : ℕ) (i : Instr) → slice_get code j ≡ Some i → IsSuccessor code j k → GoesTo j i k
goes code j k i e h = subst (Leads j k) e h

-- the path passes the check, or it keeps what is known before it
abbrev pub Reached : List Instr → (Pure → Type 0) → List ℕ → Pure → Type 0
Reached code X path c = Passes code c path ⊎ (X c × AllByRecursion (KeepsCheck code c) path)

-- what fewer than n steps lead to from place j has its checks in time, where these are known there
abbrev pub Fine : List Instr → ℕ → (Pure → Type 0) → ℕ → Type 0
Fine code n X j = (path : List ℕ) (l : ℕ) (i : Instr) → length path < n → IsFlow code j path l → slice_get code l ≡ Some i → AllByRecursion (Reached code X path) (wants i)

module _ (code : List Instr) where
  shifted : (X : Pure → Type 0) (j : ℕ) (i : Instr) → slice_get code j ≡ Some i → (path : List ℕ) (c : Pure) → Reached code (Learnt X i) path c → Reached code X (j ∷ path) c
  shifted X j i e path c (inl p) = inl (later p)
  shifted X j i e path c (inr r) = by r.0
    where
      by : Learnt X i c → Reached code X (j ∷ path) c
      by (inl is) = inl (here (e ∙ ap Some is) (All-from_recursion (KeepsCheck code c) path r.1))
      by (inr k) = inr (k.0, (subst (λ o. IfSome o (Keeps c)) (sym e) k.1, r.1))

  reached : (n : ℕ) (X : Pure → Type 0) {j l : ℕ} {path : List ℕ} → IsFlow code j path l → (i m : Instr) → slice_get code j ≡ Some i → slice_get code l ≡ Some m → length path < suc n → AreKnown X (wants i) → ((k : ℕ) → GoesTo j i k → Fine code n (Learnt X i) k) → AllByRecursion (Reached code X path) (wants m)
  reached n X at_end i m e f len h go =
      subst (λ x. AllByRecursion (Reached code X []) (wants x)) (same_some i m (sym e ∙ f)) (all_weaker X (Reached code X []) (λ c x. inr (x, tt)) (wants i) h)
  reached n X (on {j} {k} {l} {ks} s rest) i m e f len h go =
      all_weaker (Reached code (Learnt X i) ks) (Reached code X (j ∷ ks)) (shifted X j i e ks) (wants m) (go k (goes code j k i e s) ks l m (omega arith) rest f)

  pub step : (n : ℕ) (X : Pure → Type 0) (j : ℕ) (i : Instr) → slice_get code j ≡ Some i → AreKnown X (wants i) → ((k : ℕ) → GoesTo j i k → Fine code n (Learnt X i) k) → Fine code (suc n) X j
  step n X j i e h go path l m len flow f = reached n X flow i m e f len h go

  pub fewer : (n : ℕ) (X : Pure → Type 0) (j : ℕ) → Fine code (suc n) X j → Fine code n X j
  fewer n X j h path l i len flow f = h path l i (omega arith) flow f

  pub known : (n : ℕ) (X Y : Pure → Type 0) (j : ℕ) → Implies X Y → Fine code n X j → Fine code n Y j
  known n X Y j g h path l i len flow f = all_weaker (Reached code X path) (Reached code Y path) by (wants i) (h path l i len flow f)
    where
      by : (c : Pure) → Reached code X path c → Reached code Y path c
      by c (inl p) = inl p
      by c (inr k) = inr (g c k.0, k.1)

  pub moved : (n : ℕ) (X : Pure → Type 0) (j k : ℕ) → j ≡ k → Fine code n X j → Fine code n X k
  moved n X j k e h = subst (Fine code n X) e h

  pub no_steps : (X : Pure → Type 0) (j : ℕ) → Fine code 0 X j
  no_steps X j path l i len flow f = absurd (omega arith)

  pub branch_fine : (n : ℕ) (X : Pure → Type 0) (j : ℕ) (e : Pure) (m : ℕ) → slice_get code j ≡ Some (Branch e m) → AreKnown X (checks_of e) → Fine code n X m → Fine code n X (j + 1) → Fine code (suc n) X j
  branch_fine n X j e m is h there next = step n X j (Branch e m) is (both_all X (checks_of e) [] h tt) by
    where
      by : (k : ℕ) → GoesTo j (Branch e m) k → Fine code n (Learnt X (Branch e m)) k
      by k (inl q) = moved n (Learnt X (Branch e m)) m k (sym q) (known n X (Learnt X (Branch e m)) m (λ c x. inr (x, tt)) there)
      by k (inr q) = moved n (Learnt X (Branch e m)) (j + 1) k (sym q) (known n X (Learnt X (Branch e m)) (j + 1) (λ c x. inr (x, tt)) next)

  pub jump_fine : (n : ℕ) (X : Pure → Type 0) (j m : ℕ) → slice_get code j ≡ Some (Jump m) → Fine code n X m → Fine code (suc n) X j
  jump_fine n X j m is there = step n X j (Jump m) is tt (λ k q. moved n (Learnt X (Jump m)) m k (sym q) (known n X (Learnt X (Jump m)) m (λ c x. inr (x, tt)) there))

  pub end_fine : (n : ℕ) (X : Pure → Type 0) (j : ℕ) → slice_get code j ≡ Some End → Fine code n X j
  end_fine n X j is = fewer n X j (step n X j End is tt (λ k q. absurd q))

  -- ---- parts of the code

  -- from place k on these stand
  abbrev pub Stands : ℕ → List Placed → Type 0
  Stands k [] = Unit {0}
  Stands k (p ∷ ps) = (slice_get code k ≡ Some p.instr) × Stands (k + 1) ps

  pub parted : (k : ℕ) (ps qs : List Placed) → Stands k (ps ++ qs) → Stands k ps × Stands (k + length ps) qs
  parted k [] qs h = let e : k ≡ k + 0 = omega arith in (tt, subst (λ m. Stands m qs) e h)
  parted k (p ∷ ps) qs h =
      let r = parted (k + 1) ps qs h.1 in
      let e : k + 1 + length ps ≡ k + suc (length ps) = omega arith in
      ((h.0, r.0), subst (λ m. Stands m qs) e r.1)

  -- a flow, and what is laid behind it
  pub split : (k : ℕ) (x : Ways) (a : Flow) (qs : List Placed) → Stands k (lay x a k ++ qs) → Stands k (lay x a k) × Stands (k + size a) qs
  split k x a qs h = let r = parted k (lay x a k) qs h in (r.0, subst (λ m. Stands (k + m) qs) (laid_size x a k) r.1)

  abbrev pub Exits : ℕ → (Pure → Type 0) → Ways → Flow → Type 0
  Exits n X x f = (w : Way) → Fine code n (λ c. X c × Kept c f) (way x w)

  -- where the flow is left with what is known behind it, it may be entered with what is known before it
  abbrev pub Carries : Ways → Flow → ℕ → Type 1
  Carries x f k = (n : ℕ) (X : Pure → Type 0) → Safe X f → Fine code n (after X f) (k + size f) → Exits n X x f → Fine code n X k

  pub exits_of : (n : ℕ) (X : Pure → Type 0) (x : Ways) (f a : Flow) → ((c : Pure) → Kept c f → Kept c a) → Exits n X x f → Exits n X x a
  exits_of n X x f a g h w = known n (λ c. X c × Kept c f) (λ c. X c × Kept c a) (way x w) (λ c r. (r.0, g c r.1)) (h w)
  -- ---- loops
