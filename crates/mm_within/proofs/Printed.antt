-- What an expression of a goto program costs where it is printed over the names of its locals: code for its divisions alone.
use Rattle.std.proofs.Common.{arith, ◌≡◌, ℕ, ◌+◌, ◌≤◌, ◌<◌, nat_lt, ◌⊎◌, inl, inr, Bool, true, false, ◌||◌, if◌then◌else◌, List, [], ◌∷◌, ◌++◌, refl, sym, ◌∙◌, ap, subst}
use Rattle.std.specs.List.{AllByRecursion}
use Rattle.std.proofs.lemmas.Bool.Decides.{nat_tests}
use Rattle.std.proofs.lemmas.List.Elements.{recursion_from_All}
use Rattle.mm_goto.specs.declared.ident.Ident.{Ident}
use Rattle.mm_goto.specs.declared.pure.Unary.{Unary}
use Rattle.mm_goto.specs.declared.pure.Binary.{Binary}
use Rattle.mm_goto.specs.declared.pure.Binary.TheVariants as binary
use Rattle.mm_goto.specs.declared.pure.Pure.{Pure}
use Rattle.mm_goto.specs.declared.pure.Pure.TheOpen as pure
use Rattle.mm_goto.specs.declared.pure.Pure.TheViews.{roll-Pure}
use Rattle.mm_goto.specs.declared.pure.Pure.TheFolds.{fold-Pure, fold-roll-Pure, ind-Pure, map-Pure}
use Rattle.mm_goto.specs.Checks.{Late, Timed, late_behind, timed_bin, timed_cond, timed_step, late_parts}
use Rattle.mm_goto.specs.Locals.{larger, local_bound, local_bound_step}
use Rattle.mm_goto.specs.Parts.{is_division, nodes, nodes_step, divides, divides_step}
use Rattle.mm_tree.specs.declared.expr.Expr.{Expr}
use Rattle.mm_tree.specs.declared.expr.Node.TheOpen as node
use Rattle.mm_flow.specs.declared.names.Joining.TheVariants.{Both}
use Rattle.mm_flow.specs.Expressions.{joining}
use Rattle.mm_words.specs.Words.{num}
use Rattle.mm_templates.specs.Names.{local_name}
use Rattle.mm_templates.specs.Expressions.{printed, printed_step}
use Rattle.mm_sourcelike.specs.Checks.{DividesAlone}
use Rattle.mm_within.proofs.Costs.{is_local, Cost, costs, Costing, cost_of, joined_size, joined_fresh, name_cost, two_cost, choice_size, choice_fresh, three_cost, division_at_most, joined_at_most, fresh_at_most}
use Rattle.mm_within.proofs.WordCosts.{cost_expr, Priced}

-- ---- lists of late parts

-- what holds of a list holds of its front and of its back
pub split : {A : Type 0} (P : A → Type 0) (xs ys : List A) → AllByRecursion P (xs ++ ys) → AllByRecursion P xs × AllByRecursion P ys
split P [] ys h = (tt, h)
split P (x ∷ xs) ys h = let r = split P xs ys h.1 in ((h.0, r.0), r.1)

-- what holds of two lists holds of both together
pub both : {A : Type 0} (P : A → Type 0) (xs ys : List A) → AllByRecursion P xs → AllByRecursion P ys → AllByRecursion P (xs ++ ys)
both P [] ys h k = k
both P (x ∷ xs) ys h k = (h.0, both P xs ys h.1 k)

-- what follows for each follows for all
pub each : {A : Type 0} (P Q : A → Type 0) → ((x : A) → P x → Q x) → (xs : List A) → AllByRecursion P xs → AllByRecursion Q xs
each P Q f [] h = tt
each P Q f (x ∷ xs) h = (f x h.0, each P Q f xs h.1)

-- what follows from two facts for each follows for all
pub paired : {A : Type 0} (P Q R : A → Type 0) → ((x : A) → P x → Q x → R x) → (xs : List A) → AllByRecursion P xs → AllByRecursion Q xs → AllByRecursion R xs
paired P Q R f [] h k = tt
paired P Q R f (x ∷ xs) h k = (f x h.0 k.0, paired P Q R f xs h.1 k.1)

-- no part that is not always reached divides
abbrev Free : List Late → Type 0
Free ls = AllByRecursion (λ (l : Late). divides l.part ≡ false) ls

-- one does only in the expression itself
abbrev FreeBut : Pure → List Late → Type 0
FreeBut e ls = AllByRecursion (λ (l : Late). (divides l.part ≡ false) ⊎ (l.whole ≡ e)) ls

-- the parts stand in expressions of so many nodes at most
abbrev Inside : ℕ → List Late → Type 0
Inside n ls = AllByRecursion (λ (l : Late). nodes l.whole ≤ n) ls

-- what is smaller than the expression is not the expression
free_inside : (e : Pure) (n : ℕ) (ls : List Late) → n < nodes e → FreeBut e ls → Inside n ls → Free ls
free_inside e n ls h f i =
    paired (λ (l : Late). (divides l.part ≡ false) ⊎ (l.whole ≡ e)) (λ (l : Late). nodes l.whole ≤ n) (λ (l : Late). divides l.part ≡ false) one ls f i
  where
    one : (l : Late) → (divides l.part ≡ false) ⊎ (l.whole ≡ e) → nodes l.whole ≤ n → divides l.part ≡ false
    one l (inl k) j = k
    one l (inr k) j = absurd (let m : nodes l.whole ≡ nodes e = ap nodes k in omega (arith, m, j, h))

-- so many nodes or more
inside_more : (n m : ℕ) (ls : List Late) → n ≤ m → Inside n ls → Inside m ls
inside_more n m ls h i = each (λ (l : Late). nodes l.whole ≤ n) (λ (l : Late). nodes l.whole ≤ m) (λ l k. omega (arith, k, h)) ls i

-- ---- operators

-- an operator joins both operands, or its second one is a late part and joins them where it has no code
data Joined (op : Binary) : Type 0 where
  always : ((w y : Pure) → late_behind op w y ≡ []) → ((b : Bool) → joining op b ≡ Both) → Joined op
  late : ((w y : Pure) → late_behind op w y ≡ record { whole = w; part = y } ∷ []) → joining op false ≡ Both → Joined op

-- each operator is of one of the two kinds
joined : (op : Binary) → Joined op
joined binary.Add = always (λ w y. refl) (λ b. refl)
joined binary.Sub = always (λ w y. refl) (λ b. refl)
joined binary.Mul = always (λ w y. refl) (λ b. refl)
joined binary.Div = always (λ w y. refl) (λ b. refl)
joined binary.Rem = always (λ w y. refl) (λ b. refl)
joined binary.Shl = always (λ w y. refl) (λ b. refl)
joined binary.Shr = always (λ w y. refl) (λ b. refl)
joined binary.Lt = always (λ w y. refl) (λ b. refl)
joined binary.Le = always (λ w y. refl) (λ b. refl)
joined binary.Gt = always (λ w y. refl) (λ b. refl)
joined binary.Ge = always (λ w y. refl) (λ b. refl)
joined binary.Eq = always (λ w y. refl) (λ b. refl)
joined binary.Ne = always (λ w y. refl) (λ b. refl)
joined binary.And = always (λ w y. refl) (λ b. refl)
joined binary.Xor = always (λ w y. refl) (λ b. refl)
joined binary.Or = always (λ w y. refl) (λ b. refl)
joined binary.Land = late (λ w y. refl) refl
joined binary.Lor = late (λ w y. refl) refl

-- a late part behind an operator stands in the whole
behind_inside : (op : Binary) (w y : Pure) (n : ℕ) → nodes w ≤ n → Inside n (late_behind op w y)
behind_inside op w y n h = by (joined op)
  where
    by : Joined op → Inside n (late_behind op w y)
    by (always none j) = subst (Inside n) (sym (none w y)) tt
    by (late one j) = subst (Inside n) (sym (one w y)) (h, tt)

-- operands are joined where the late part does not divide
behind_free : (op : Binary) (w y : Pure) (b : Bool) → b ≡ divides y → Free (late_behind op w y) → joining op b ≡ Both
behind_free op w y b e f = by (joined op)
  where
    by : Joined op → joining op b ≡ Both
    by (always none j) = j b
    by (late one j) = let k = (subst Free (one w y) f).0 in ap (joining op) (e ∙ k) ∙ j

-- a choice takes four instructions and one fresh local at most
choice_at_most : (t : Bool) (n f : ℕ) → (choice_size t n ≤ n + 4) × (choice_fresh t f ≤ f + 1)
choice_at_most true n f = (omega arith, omega arith)
choice_at_most false n f = (omega arith, omega arith)

-- ---- the whole

-- the larger is within a bound just where both are
larger_within : (m n k : ℕ) → larger m n ≤ k → (m ≤ k) × (n ≤ k)
larger_within m n k h = by (nat_lt m n) refl h
  where
    by : (b : Bool) → nat_lt m n ≡ b → (if b then n else m) ≤ k → (m ≤ k) × (n ≤ k)
    by true e h = (grind (arith, nat_tests), h)
    by false e h = (h, grind (arith, nat_tests))

-- an operator divides, or one of its operands does
divides_two : (a b d : Bool) → (a || (b || d)) ≡ ((d || a) || b)
divides_two true b true = refl
divides_two true b false = refl
divides_two false true true = refl
divides_two false true false = refl
divides_two false false true = refl
divides_two false false false = refl

-- one of three divides
divides_three : (a b c : Bool) → (a || (b || c)) ≡ ((a || b) || c)
divides_three true b c = refl
divides_three false b c = refl

-- an expression with its late parts
abbrev timed : Pure → Timed
timed = fold-Pure Timed timed_step

-- the locals of the first numbers are among the names
abbrev pub HasLocals : List Ident → ℕ → Type 0
HasLocals xs n = (l : ℕ) → l < n → is_local xs (local_name l) ≡ true

module _ (xs : List Ident) (n : ℕ) (has : HasLocals xs n) where
  -- what the printed expression costs
  abbrev cost : Pure → Cost
  cost e = cost_of (printed e) xs

  -- what holds of an expression: it is what its late parts are told of, they stand in it, its code is that of its divisions, and it costs hardly more than its nodes
  record Facts (e : Pure) : Type 0 where
    same : (timed e).expr ≡ e
    inside : Inside (nodes e) (late_parts e)
    coded : local_bound e ≤ n → (cost e).coded ≡ divides e
    free : local_bound e ≤ n → Free (late_parts e) → ((cost e).size ≤ nodes e) × ((cost e).fresh ≤ 0)
    whole : local_bound e ≤ n → FreeBut e (late_parts e) → ((cost e).size ≤ nodes e + 3) × ((cost e).fresh ≤ 1)

  -- an expression with no part and no code
  no_parts : (e : Pure) → (timed e).expr ≡ e → late_parts e ≡ [] → divides e ≡ false → (local_bound e ≤ n → cost e ≡ costs 0 0 false) → Facts e
  no_parts e same none d is = record {
    same = same;
    inside = subst (Inside (nodes e)) (sym none) tt;
    coded = λ h. ap (λ (c : Cost). c.coded) (is h) ∙ sym d;
    free = λ h f. (omega (arith, ap (λ (c : Cost). c.size) (is h)), omega (arith, ap (λ (c : Cost). c.fresh) (is h)));
    whole = λ h f. (omega (arith, ap (λ (c : Cost). c.size) (is h)), omega (arith, ap (λ (c : Cost). c.fresh) (is h)));
  }

  -- an expression of one part
  one_part : (e x : Pure) → Facts x → (timed e).expr ≡ e → late_parts e ≡ late_parts x → divides e ≡ divides x → nodes e ≡ nodes x + 1 → local_bound e ≡ local_bound x
      → ((cost e).size ≤ (cost x).size) × ((cost e).fresh ≤ (cost x).fresh) → (cost e).coded ≡ (cost x).coded → Facts e
  one_part e x a same lates d more bound c code =
      let inside : Inside (nodes x) (late_parts e) = subst (Inside (nodes x)) (sym lates) a.inside in
      record {
        same = same;
        inside = inside_more (nodes x) (nodes e) (late_parts e) (omega (arith, more)) inside;
        coded = λ h. code ∙ a.coded (omega (arith, h, bound)) ∙ sym d;
        free = λ h f. let b = a.free (omega (arith, h, bound)) (subst Free lates f) in (omega (arith, c.0, b.0, more), omega (arith, c.1, b.1));
        whole = λ h f.
            let b = a.free (omega (arith, h, bound)) (subst Free lates (free_inside e (nodes x) (late_parts e) (omega (arith, more)) f inside)) in
            (omega (arith, c.0, b.0, more), omega (arith, c.1, b.1));
      }

  -- an operator between two
  two_parts : (e : Pure) (op : Binary) (x y : Pure) → Facts x → Facts y → timed e ≡ timed_bin op e (timed x) (timed y) → divides e ≡ ((is_division op || divides x) || divides y)
      → nodes e ≡ nodes x + nodes y + 1
      → local_bound e ≡ larger (local_bound x) (local_bound y) → cost e ≡ two_cost op (cost x) (cost y) → Facts e
  two_parts e op x y a b tm d more bound c =
      let lates : late_parts e ≡ late_parts x ++ late_parts y ++ late_behind op e y = ap (λ (t : Timed). t.late) tm ∙ ap (λ z. late_parts x ++ late_parts y ++ late_behind op e z) b.same in
      let within = λ (h : local_bound e ≤ n). larger_within (local_bound x) (local_bound y) n (omega (arith, h, bound)) in
      let few = joined_at_most (joining op (cost y).coded) op (cost x).size (cost y).size in
      let few_fresh = fresh_at_most (joining op (cost y).coded) (cost x).fresh (cost y).fresh in
      let size : (cost e).size ≡ joined_size (joining op (cost y).coded) op (cost x).size (cost y).size = ap (λ (k : Cost). k.size) c in
      let fresh : (cost e).fresh ≡ joined_fresh (joining op (cost y).coded) (cost x).fresh (cost y).fresh = ap (λ (k : Cost). k.fresh) c in
      record {
        same = ap (λ (t : Timed). t.expr) tm;
        inside = subst (Inside (nodes e)) (sym lates) (both _ (late_parts x ++ late_parts y) (late_behind op e y)
            (both _ (late_parts x) (late_parts y) (inside_more (nodes x) (nodes e) (late_parts x) (omega (arith, more)) a.inside)
            (inside_more (nodes y) (nodes e) (late_parts y) (omega (arith, more)) b.inside))
            (behind_inside op e y (nodes e) (omega arith)));
        coded = λ h. ap (λ (k : Cost). k.coded) c ∙ (λ i. a.coded (within h).0 i || (b.coded (within h).1 i || is_division op)) ∙ divides_two (divides x) (divides y) (is_division op) ∙ sym d;
        free = λ h f.
            let s = split _ (late_parts x ++ late_parts y) (late_behind op e y) (subst Free lates f) in
            let t = split _ (late_parts x) (late_parts y) s.0 in
            let u = a.free (within h).0 t.0 in
            let v = b.free (within h).1 t.1 in
            let j = behind_free op e y (cost y).coded (b.coded (within h).1) s.1 in (
              omega (arith, size, ap (λ k. joined_size k op (cost x).size (cost y).size) j, u.0, v.0, more, division_at_most (is_division op)),
              omega (arith, fresh, ap (λ k. joined_fresh k (cost x).fresh (cost y).fresh) j, u.1, v.1),
            );
        whole = λ h f.
            let s = split _ (late_parts x ++ late_parts y) (late_behind op e y) (subst (FreeBut e) lates f) in
            let t = split _ (late_parts x) (late_parts y) s.0 in
            let u = a.free (within h).0 (free_inside e (nodes x) (late_parts x) (omega (arith, more)) t.0 a.inside) in
            let v = b.free (within h).1 (free_inside e (nodes y) (late_parts y) (omega (arith, more)) t.1 b.inside) in
            (omega (arith, size, few, u.0, v.0, more), omega (arith, fresh, few_fresh, u.1, v.1));
      }

  -- a choice between two
  three_parts : (e c x y : Pure) → Facts c → Facts x → Facts y → timed e ≡ timed_cond e (timed c) (timed x) (timed y) → divides e ≡ ((divides c || divides x) || divides y)
      → nodes e ≡ nodes c + nodes x + nodes y + 1
      → local_bound e ≡ larger (local_bound c) (larger (local_bound x) (local_bound y)) → cost e ≡ three_cost (cost c) (cost x) (cost y) → Facts e
  three_parts e c x y k a b tm d more bound is =
      let arms : List Late = record { whole = e; part = x } ∷ record { whole = e; part = y } ∷ [] in
      let lates : late_parts e ≡ late_parts c ++ late_parts x ++ late_parts y ++ arms = ap (λ (t : Timed). t.late) tm
      ∙ (λ i. late_parts c ++ late_parts x ++ late_parts y ++ record { whole = e; part = a.same i } ∷ record { whole = e; part = b.same i } ∷ []) in
      let within = λ (h : local_bound e ≤ n). larger_within (local_bound c) (larger (local_bound x) (local_bound y)) n (omega (arith, h, bound)) in
      let within_arms = λ (h : local_bound e ≤ n). larger_within (local_bound x) (local_bound y) n (within h).1 in
      let size : (cost e).size ≡ choice_size ((cost x).coded || (cost y).coded) ((cost c).size + (cost x).size + (cost y).size) = ap (λ (t : Cost). t.size) is in
      let fresh : (cost e).fresh ≡ choice_fresh ((cost x).coded || (cost y).coded) ((cost c).fresh + (cost x).fresh + (cost y).fresh) = ap (λ (t : Cost). t.fresh) is in
      let at_most = choice_at_most ((cost x).coded || (cost y).coded) ((cost c).size + (cost x).size + (cost y).size) ((cost c).fresh + (cost x).fresh + (cost y).fresh) in
      record {
        same = ap (λ (t : Timed). t.expr) tm;
        inside = subst (Inside (nodes e)) (sym lates)
            (both _ (late_parts c ++ late_parts x ++ late_parts y) arms
            (both _ (late_parts c ++ late_parts x) (late_parts y)
            (both _ (late_parts c) (late_parts x) (inside_more (nodes c) (nodes e) (late_parts c) (omega (arith, more)) k.inside)
            (inside_more (nodes x) (nodes e) (late_parts x) (omega (arith, more)) a.inside))
            (inside_more (nodes y) (nodes e) (late_parts y) (omega (arith, more)) b.inside))
            (omega arith, (omega arith, tt)));
        coded = λ h. ap (λ (t : Cost). t.coded) is ∙ (λ i. k.coded (within h).0 i || (a.coded (within_arms h).0 i || b.coded (within_arms h).1 i))
            ∙ divides_three (divides c) (divides x) (divides y) ∙ sym d;
        free = λ h f.
            let s = split _ (late_parts c ++ late_parts x ++ late_parts y) arms (subst Free lates f) in
            let t = split _ (late_parts c ++ late_parts x) (late_parts y) s.0 in
            let r = split _ (late_parts c) (late_parts x) t.0 in
            let u = k.free (within h).0 r.0 in
            let v = a.free (within_arms h).0 r.1 in
            let w = b.free (within_arms h).1 t.1 in
            let test : ((cost x).coded || (cost y).coded) ≡ false = λ i. (a.coded (within_arms h).0 ∙ s.1.0) i || (b.coded (within_arms h).1 ∙ s.1.1.0) i in (
              omega (arith, size, ap (λ z. choice_size z ((cost c).size + (cost x).size + (cost y).size)) test, u.0, v.0, w.0, more),
              omega (arith, fresh, ap (λ z. choice_fresh z ((cost c).fresh + (cost x).fresh + (cost y).fresh)) test, u.1, v.1, w.1),
            );
        whole = λ h f.
            let s = split _ (late_parts c ++ late_parts x ++ late_parts y) arms (subst (FreeBut e) lates f) in
            let t = split _ (late_parts c ++ late_parts x) (late_parts y) s.0 in
            let r = split _ (late_parts c) (late_parts x) t.0 in
            let u = k.free (within h).0 (free_inside e (nodes c) (late_parts c) (omega (arith, more)) r.0 k.inside) in
            let v = a.free (within_arms h).0 (free_inside e (nodes x) (late_parts x) (omega (arith, more)) r.1 a.inside) in
            let w = b.free (within_arms h).1 (free_inside e (nodes y) (late_parts y) (omega (arith, more)) t.1 b.inside) in
            (omega (arith, size, at_most.0, u.0, v.0, w.0, more), omega (arith, fresh, at_most.1, u.1, v.1, w.1));
      }

  -- ---- the constructors

  -- what a printed layer costs
  cost_at : (z : pure.Pure-F Pure) → cost (roll-Pure z) ≡ cost_of (printed_step (map-Pure Pure Expr printed z)) xs
  cost_at z = ap (λ e. cost_of e xs) (fold-roll-Pure Expr printed_step z)

  -- the late parts of a layer
  time_at : (z : pure.Pure-F Pure) → timed (roll-Pure z) ≡ timed_step (map-Pure Pure Timed timed z)
  time_at z = fold-roll-Pure Timed timed_step z

  -- the nodes of a layer
  nodes_at : (z : pure.Pure-F Pure) → nodes (roll-Pure z) ≡ nodes_step (map-Pure Pure ℕ nodes z)
  nodes_at z = fold-roll-Pure ℕ nodes_step z

  -- whether a layer divides
  divides_at : (z : pure.Pure-F Pure) → divides (roll-Pure z) ≡ divides_step (map-Pure Pure Bool divides z)
  divides_at z = fold-roll-Pure Bool divides_step z

  -- the locals that a layer names
  bound_at : (z : pure.Pure-F Pure) → local_bound (roll-Pure z) ≡ local_bound_step (map-Pure Pure ℕ local_bound z)
  bound_at z = fold-roll-Pure ℕ local_bound_step z

  -- what is printed as a number
  of_number : (z : pure.Pure-F Pure) → (timed (roll-Pure z)).expr ≡ roll-Pure z → late_parts (roll-Pure z) ≡ [] → divides (roll-Pure z) ≡ false → cost (roll-Pure z) ≡ costs 0 0 false
      → Facts (roll-Pure z)
  of_number z a b c d = no_parts (roll-Pure z) a b c (λ h. d)

  -- a number
  facts_const : (k : _) → Facts (roll-Pure (pure.Const k))
  facts_const k = let z = pure.Const k in
      of_number z (ap (λ (t : Timed). t.expr) (time_at z)) (ap (λ (t : Timed). t.late) (time_at z)) (divides_at z) (cost_at z ∙ ap (λ (f : Costing). f xs) (cost_expr (node.Number k)))

  -- the address of a cell
  facts_addr : (c : ℕ) → Facts (roll-Pure (pure.Addr c))
  facts_addr c = let z = pure.Addr c in
      of_number z (ap (λ (t : Timed). t.expr) (time_at z)) (ap (λ (t : Timed). t.late) (time_at z)) (divides_at z) (cost_at z ∙ ap (λ (f : Costing). f xs) (cost_expr (node.Number _)))

  -- a local
  facts_local : (l : ℕ) → Facts (roll-Pure (pure.Local l))
  facts_local l =
      let z = pure.Local l in
      no_parts (roll-Pure z) (ap (λ (t : Timed). t.expr) (time_at z)) (ap (λ (t : Timed). t.late) (time_at z)) (divides_at z)
      (λ h. cost_at z ∙ ap (λ (f : Costing). f xs) (cost_expr (node.Name (local_name l))) ∙ ap name_cost (has l (omega (arith, h, bound_at z))))

  -- the address of an element
  facts_element : (first len : ℕ) (x : Pure) → Facts x → Facts (roll-Pure (pure.AddrElem first len x))
  facts_element first len x a =
      let z = pure.AddrElem first len x in
      let c : cost (roll-Pure z) ≡ two_cost binary.Add (cost_of (num (first + 1)) xs) (cost x) = cost_at z
      ∙ ap (λ (f : Costing). f xs) (cost_expr (node.Bin binary.Add (num (first + 1)) (printed x))) in
      let o : cost_of (num (first + 1)) xs ≡ costs 0 0 false = ap (λ (f : Costing). f xs) (cost_expr (node.Number _)) in
      let whole : cost (roll-Pure z) ≡ two_cost binary.Add (costs 0 0 false) (cost x) = c ∙ ap (λ k. two_cost binary.Add k (cost x)) o in
      one_part (roll-Pure z) x a (ap (λ (t : Timed). t.expr) (time_at z) ∙ ap (λ y. roll-Pure (pure.AddrElem first len y)) a.same) (ap (λ (t : Timed). t.late) (time_at z)) (divides_at z)
      (nodes_at z) (bound_at z)
      (omega (arith, ap (λ (k : Cost). k.size) whole), omega (arith, ap (λ (k : Cost). k.fresh) whole)) (ap (λ (k : Cost). k.coded) whole ∙ last (cost x).coded)
    where
      last : (b : Bool) → (b || false) ≡ b
      last true = refl
      last false = refl

  -- an operator before one
  facts_un : (op : Unary) (x : Pure) → Facts x → Facts (roll-Pure (pure.Un op x))
  facts_un op x a =
      let z = pure.Un op x in
      let c : cost (roll-Pure z) ≡ cost x = cost_at z ∙ ap (λ (f : Costing). f xs) (cost_expr (node.Un op (printed x))) in
      one_part (roll-Pure z) x a (ap (λ (t : Timed). t.expr) (time_at z) ∙ ap (λ y. roll-Pure (pure.Un op y)) a.same) (ap (λ (t : Timed). t.late) (time_at z)) (divides_at z) (nodes_at z) (bound_at z)
      (omega (arith, ap (λ (k : Cost). k.size) c), omega (arith, ap (λ (k : Cost). k.fresh) c)) (ap (λ (k : Cost). k.coded) c)

  -- an operator between two
  facts_bin : (op : Binary) (x y : Pure) → Facts x → Facts y → Facts (roll-Pure (pure.Bin op x y))
  facts_bin op x y a b =
      let z = pure.Bin op x y in
      two_parts (roll-Pure z) op x y a b (time_at z ∙ (λ i. timed_bin op (roll-Pure (pure.Bin op (a.same i) (b.same i))) (timed x) (timed y))) (divides_at z) (nodes_at z) (bound_at z)
      (cost_at z ∙ ap (λ (f : Costing). f xs) (cost_expr (node.Bin op (printed x) (printed y))))

  -- a choice between two
  facts_cond : (c x y : Pure) → Facts c → Facts x → Facts y → Facts (roll-Pure (pure.Cond c x y))
  facts_cond c x y k a b =
      let z = pure.Cond c x y in
      three_parts (roll-Pure z) c x y k a b (time_at z ∙ (λ i. timed_cond (roll-Pure (pure.Cond (k.same i) (a.same i) (b.same i))) (timed c) (timed x) (timed y))) (divides_at z)
      (nodes_at z) (bound_at z)
      (cost_at z ∙ ap (λ (f : Costing). f xs) (cost_expr (node.Cond (printed c) (printed x) (printed y))))

  -- these facts hold of each expression
  facts : (e : Pure) → Facts e
  facts e = ind-Pure Facts (λ x y is.
      let P : pure.Pure-F Pure → Type 0 = λ v. Facts (roll-Pure v) in
      elim y as (λ v. map-Pure _ Pure (λ d. d.0) v ≡ x → Facts (roll-Pure x)) [
        | pure.Const c ↦ λ same. subst P same (facts_const c)
        | pure.Local m ↦ λ same. subst P same (facts_local m)
        | pure.Addr c ↦ λ same. subst P same (facts_addr c)
        | pure.AddrElem first len x ↦ λ same. subst P same (facts_element first len x.0 x.1)
        | pure.Un op x ↦ λ same. subst P same (facts_un op x.0 x.1)
        | pure.Bin op x y ↦ λ same. subst P same (facts_bin op x.0 y.0 x.1 y.1)
        | pure.Cond x y z ↦ λ same. subst P same (facts_cond x.0 y.0 z.0 x.1 y.1 z.1)
      ] is) e

  -- an expression whose checks stand alone costs hardly more than its nodes
  pub priced_printed : (e : Pure) → local_bound e ≤ n → DividesAlone e → Priced xs (printed e) (nodes e + 3) 1
  priced_printed e h alone =
      let a = (facts e).whole h (recursion_from_All (λ (l : Late). (divides l.part ≡ false) ⊎ (l.whole ≡ e)) (late_parts e) alone) in
      record { size = a.0; fresh = a.1 }
