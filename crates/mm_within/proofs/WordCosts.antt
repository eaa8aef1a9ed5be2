-- What the words of woven programs cost, weigh and mention.
use Rattle.std.proofs.Common.{arith, ◌≡◌, ℕ, ◌+◌, ◌≤◌, Bool, true, false, List, [], ◌∷◌, ◌++◌, length, map, append_assoc, append-nil, pos, refl, sym, ◌∙◌, ap, subst, Some, None}
use Rattle.std.specs.Prelude.{ℤ}
use Rattle.std.specs.List.{AllByRecursion}
use Rattle.mm_goto.specs.declared.ident.Ident.{Ident}
use Rattle.mm_goto.specs.declared.pure.Unary.{Unary}
use Rattle.mm_goto.specs.declared.pure.Binary.{Binary}
use Rattle.mm_goto.specs.Parts.{is_division}
use Rattle.mm_tree.specs.Places.{nowhere}
use Rattle.mm_tree.specs.Trees as tree
use Rattle.mm_tree.specs.declared.expr.Expr.{Expr}
use Rattle.mm_tree.specs.declared.expr.Node.{Node, roll-Node}
use Rattle.mm_tree.specs.declared.expr.Node.TheOpen as node
use Rattle.mm_tree.specs.declared.expr.Node.TheOpen.{Node-F}
use Rattle.mm_tree.specs.declared.stmt.LeftNode.TheVariants as left
use Rattle.mm_tree.specs.declared.stmt.Value.TheVariants as value
use Rattle.mm_tree.specs.declared.stmt.Stmt.{Stmt}
use Rattle.mm_tree.specs.declared.stmt.StmtNode.{StmtNode, roll-StmtNode}
use Rattle.mm_tree.specs.declared.stmt.StmtNode.TheOpen as stmt
use Rattle.mm_tree.specs.declared.stmt.StmtNode.TheOpen.{StmtNode-F}
use Rattle.mm_flow.specs.declared.mentions.Mention.{Mention}
use Rattle.mm_flow.specs.declared.mentions.Mention.TheVariants.{Assertion, Create, Label, Call}
use Rattle.mm_flow.specs.declared.names.Joining.TheVariants.{Both}
use Rattle.mm_flow.specs.declared.names.Started.{Started}
use Rattle.mm_flow.specs.Expressions.{joining}
use Rattle.mm_flow.specs.Statements.{is_input}
use Rattle.mm_flow.specs.Text.{mentions_of, mentions, creates, calls as called}
use Rattle.mm_words.specs.Words.{expr_of, stmt_of, word, number, num, var, elem, un, bin, assign, assign_call, assign_elem, call, declare, skip, assume, assert, block, when, while, return, go_to, branch, label, labelled, atomic_begin, atomic_end, section, fence, lock, unlock, start, join}
use Rattle.mm_within.proofs.Bare.{mention_layer, mention_rolled, mention_at}
use Rattle.mm_within.proofs.Costs.{is_local, Costing, cost_of, cost_layer, cost_rolled, cost_at, costs_of, division_size, joined_size, joined_at_most, joined_fresh, fresh_at_most, name_cost}
use Rattle.mm_within.proofs.Weights.{Calls, Weighing, call_price, in_turn, weight_of, body_weight, weight_layer, weight_rolled, weight_at}

-- ---- expressions

-- an expression of a layer costs what the layer does
pub cost_expr : (z : Node-F Node Expr) → cost_of (expr_of z) ≡ cost_layer z
unfolding expr_of
cost_expr z = cost_at (record { at = nowhere; node = roll-Node z }) ∙ cost_rolled z

-- where these names are locals, the expression costs no more
pub record Priced (xs : List Ident) (e : Expr) (n f : ℕ) : Type 0 where
  pub size : (cost_of e xs).size ≤ n
  pub fresh : (cost_of e xs).fresh ≤ f

-- so much as its layer
pub priced_by : {xs : List Ident} (z : Node-F Node Expr) {n f : ℕ} → (cost_layer z xs).size ≤ n → (cost_layer z xs).fresh ≤ f → Priced xs (expr_of z) n f
priced_by {xs} z h k = record {
  size = omega (arith, ap (λ (c : Costing). (c xs).size) (cost_expr z), h);
  fresh = omega (arith, ap (λ (c : Costing). (c xs).fresh) (cost_expr z), k);
}

-- an expression may be said to cost more
pub priced_more : {xs : List Ident} {e : Expr} {n f m g : ℕ} → n ≤ m → f ≤ g → Priced xs e n f → Priced xs e m g
priced_more h k p = record { size = omega (arith, p.size, h); fresh = omega (arith, p.fresh, k) }

-- a number
pub priced_number : {xs : List Ident} (z : ℤ) → Priced xs (number z) 0 0
priced_number z = priced_by (node.Number z) (omega arith) (omega arith)

-- a number that is not negative
pub priced_num : {xs : List Ident} (n : ℕ) → Priced xs (num n) 0 0
priced_num n = priced_number (pos n)

-- the name of a local
pub priced_local : {xs : List Ident} (x : Ident) → is_local xs x ≡ true → Priced xs (var x) 0 0
priced_local {xs} x h = priced_by (node.Name x) (omega (arith, ap (λ b. (name_cost b).size) h)) (omega (arith, ap (λ b. (name_cost b).fresh) h))

-- a name costs one instruction at most
one_size : (b : Bool) → (name_cost b).size ≤ 1
one_size true = omega arith
one_size false = omega arith

-- and one fresh local at most
one_fresh : (b : Bool) → (name_cost b).fresh ≤ 1
one_fresh true = omega arith
one_fresh false = omega arith

-- any name
pub priced_var : {xs : List Ident} (x : Ident) → Priced xs (var x) 1 1
priced_var {xs} x = priced_by (node.Name x) (one_size (is_local xs x)) (one_fresh (is_local xs x))

-- x[e]
pub priced_elem : {xs : List Ident} (x : Ident) {e : Expr} {n f : ℕ} → Priced xs e n f → Priced xs (elem x e) (n + 2) (f + 1)
priced_elem x {e} p = priced_by (node.Index x e) (omega (arith, p.size)) (omega (arith, p.fresh))

-- op e
pub priced_un : {xs : List Ident} (op : Unary) {e : Expr} {n f : ℕ} → Priced xs e n f → Priced xs (un op e) n f
priced_un op {e} p = priced_by (node.Un op e) (omega (arith, p.size)) (omega (arith, p.fresh))

-- with any operator between
pub priced_any : {xs : List Ident} (op : Binary) {a b : Expr} {n f m g : ℕ} → Priced xs a n f → Priced xs b m g → Priced xs (bin op a b) (n + m + 3) (f + g + 1)
priced_any {xs} op {a} {b} p q =
    let c = cost_of a xs in let d = cost_of b xs in
    priced_by (node.Bin op a b)
    (omega (arith, p.size, q.size, joined_at_most (joining op d.coded) op c.size d.size))
    (omega (arith, p.fresh, q.fresh, fresh_at_most (joining op d.coded) c.fresh d.fresh))

-- an operator that joins both operands, and does not divide
pub record Joins (op : Binary) : Type 0 where
  pub both : (b : Bool) → joining op b ≡ Both
  pub whole : is_division op ≡ false

-- a op b
pub priced_bin : {xs : List Ident} (op : Binary) → Joins op → {a b : Expr} {n f m g : ℕ} → Priced xs a n f → Priced xs b m g → Priced xs (bin op a b) (n + m) (f + g)
priced_bin {xs} op j {a} {b} p q =
    let c = cost_of a xs in let d = cost_of b xs in
    priced_by (node.Bin op a b)
    (omega (arith, p.size, q.size, ap (λ t. joined_size t op c.size d.size) (j.both d.coded), ap division_size j.whole))
    (omega (arith, p.fresh, q.fresh, ap (λ t. joined_fresh t c.fresh d.fresh) (j.both d.coded)))

-- expressions in order
pub record PricedAll (xs : List Ident) (es : List Expr) (n f : ℕ) : Type 0 where
  pub size : (costs_of es xs).size ≤ n
  pub fresh : (costs_of es xs).fresh ≤ f

-- no expression
pub priced_none : {xs : List Ident} → PricedAll xs [] 0 0
priced_none = record { size = omega arith; fresh = omega arith }

-- an expression in front of others
pub priced_next : {xs : List Ident} {e : Expr} {es : List Expr} {n f m g : ℕ} → Priced xs e n f → PricedAll xs es m g → PricedAll xs (e ∷ es) (n + m) (f + g)
priced_next p q = record { size = omega (arith, p.size, q.size); fresh = omega (arith, p.fresh, q.fresh) }

-- ---- mentions

-- what is started in one text and another
pub creates_append : (xs ys : List Mention) → creates (xs ++ ys) ≡ creates xs ++ creates ys
creates_append [] ys = refl
creates_append (Assertion ∷ xs) ys = creates_append xs ys
creates_append (Create s ∷ xs) ys = ap (λ ss. s ∷ ss) (creates_append xs ys)
creates_append (Label y ∷ xs) ys = creates_append xs ys
creates_append (Call f ∷ xs) ys = creates_append xs ys

-- what is called in one text and another is quiet
called_append : (Quiet : Ident → Type 0) (xs ys : List Mention) → AllByRecursion Quiet (called xs) → AllByRecursion Quiet (called ys) → AllByRecursion Quiet (called (xs ++ ys))
called_append Quiet [] ys h k = k
called_append Quiet (Assertion ∷ xs) ys h k = called_append Quiet xs ys h k
called_append Quiet (Create s ∷ xs) ys h k = called_append Quiet xs ys h k
called_append Quiet (Label y ∷ xs) ys h k = called_append Quiet xs ys h k
called_append Quiet (Call f ∷ xs) ys h k = (h.0, called_append Quiet xs ys h.1 k)

-- ---- statements

-- a statement of a layer weighs what the layer does
pub weight_stmt : (z : StmtNode-F StmtNode Stmt) → weight_of (stmt_of z) ≡ weight_layer z
unfolding stmt_of
weight_stmt z = weight_at (record { at = nowhere; node = roll-StmtNode z }) ∙ weight_rolled z

-- a statement of a layer mentions what the layer does
pub mention_stmt : (z : StmtNode-F StmtNode Stmt) → mentions_of (stmt_of z) ≡ mention_layer z
unfolding stmt_of
mention_stmt z = mention_at (record { at = nowhere; node = roll-StmtNode z }) ∙ mention_rolled z

module _ (calls : Calls) (Quiet : Ident → Type 0) where
  -- where the first names are locals, the statement weighs no more, the second names are locals behind it, it starts these threads, and
  -- what it calls is quiet
  pub record One (xs ys : List Ident) (s : Stmt) (n f : ℕ) (us : List Started) : Type 0 where
    pub size : (weight_of s calls xs).size ≤ n
    pub fresh : (weight_of s calls xs).fresh ≤ f
    pub names : (weight_of s calls xs).names ≡ ys
    pub starts : creates (mentions_of s) ≡ us
    pub quiet : AllByRecursion Quiet (called (mentions_of s))

  -- the same of statements in order
  pub record Runs (xs ys : List Ident) (ss : List Stmt) (n f : ℕ) (us : List Started) : Type 0 where
    pub size : (body_weight ss calls xs).size ≤ n
    pub fresh : (body_weight ss calls xs).fresh ≤ f
    pub names : (body_weight ss calls xs).names ≡ ys
    pub starts : creates (mentions ss) ≡ us
    pub quiet : AllByRecursion Quiet (called (mentions ss))

  -- so much as its layer
  pub one_by : {xs ys : List Ident} (z : StmtNode-F StmtNode Stmt) {n f : ℕ} {us : List Started} → (weight_layer z calls xs).size ≤ n → (weight_layer z calls xs).fresh ≤ f
      → (weight_layer z calls xs).names ≡ ys
      → creates (mention_layer z) ≡ us → AllByRecursion Quiet (called (mention_layer z)) → One xs ys (stmt_of z) n f us
  one_by {xs} z h k same is quiet = record {
    size = omega (arith, ap (λ (w : Weighing). (w calls xs).size) (weight_stmt z), h);
    fresh = omega (arith, ap (λ (w : Weighing). (w calls xs).fresh) (weight_stmt z), k);
    names = ap (λ (w : Weighing). (w calls xs).names) (weight_stmt z) ∙ same;
    starts = ap creates (mention_stmt z) ∙ is;
    quiet = subst (λ (ms : List Mention). AllByRecursion Quiet (called ms)) (sym (mention_stmt z)) quiet;
  }

  -- no statement
  pub runs_none : {xs : List Ident} → Runs xs xs [] 0 0 []
  runs_none = record { size = omega arith; fresh = omega arith; names = refl; starts = refl; quiet = tt }

  -- a statement in front of others
  pub runs_next : {xs ys zs : List Ident} {s : Stmt} {ss : List Stmt} {n f m g : ℕ} {us vs : List Started} → One xs ys s n f us → Runs ys zs ss m g vs → Runs xs zs (s ∷ ss) (n + m) (f + g) (us ++ vs)
  runs_next {xs} {ys} {zs} {s} {ss} {n} {f} {m} {g} {us} {vs} a b =
      let c : Runs (weight_of s calls xs).names zs ss m g vs = subst (λ (ns : List Ident). Runs ns zs ss m g vs) (sym a.names) b in
      record {
        size = omega (arith, a.size, c.size);
        fresh = omega (arith, a.fresh, c.fresh);
        names = c.names;
        starts = creates_append (mentions_of s) (mentions ss) ∙ (λ i. a.starts i ++ b.starts i);
        quiet = called_append Quiet (mentions_of s) (mentions ss) a.quiet b.quiet;
      }

  -- statements may be said to weigh more
  pub runs_more : {xs ys : List Ident} {ss : List Stmt} {n f m g : ℕ} {us : List Started} → n ≤ m → f ≤ g → Runs xs ys ss n f us → Runs xs ys ss m g us
  runs_more h k p = record { size = omega (arith, p.size, h); fresh = omega (arith, p.fresh, k); names = p.names; starts = p.starts; quiet = p.quiet }

  -- a statement may be said to weigh more
  pub one_more : {xs ys : List Ident} {s : Stmt} {n f m g : ℕ} {us : List Started} → n ≤ m → f ≤ g → One xs ys s n f us → One xs ys s m g us
  one_more h k p = record { size = omega (arith, p.size, h); fresh = omega (arith, p.fresh, k); names = p.names; starts = p.starts; quiet = p.quiet }

  -- one statement
  pub runs_one : {xs ys : List Ident} {s : Stmt} {n f : ℕ} {us : List Started} → One xs ys s n f us → Runs xs ys (s ∷ []) n f us
  runs_one {xs} {ys} {s} {n} {f} {us} a =
      let b = runs_next a (runs_none {xs = ys}) in
      record { size = omega (arith, a.size); fresh = omega (arith, a.fresh); names = b.names; starts = b.starts ∙ append-nil us; quiet = b.quiet }

  -- statements in front of others
  pub runs_both : (ss : List Stmt) {xs ys zs : List Ident} {ts : List Stmt} {n f m g : ℕ} {us vs : List Started} → Runs xs ys ss n f us → Runs ys zs ts m g vs
      → Runs xs zs (ss ++ ts) (n + m) (f + g) (us ++ vs)
  runs_both [] {xs} {ys} {zs} {ts} {n} {f} {m} {g} {us} {vs} a b =
      let c : Runs xs zs ts m g vs = subst (λ (ns : List Ident). Runs ns zs ts m g vs) (sym a.names) b in
      let e : vs ≡ us ++ vs = ap (λ ws. ws ++ vs) a.starts in
      record { size = omega (arith, c.size); fresh = omega (arith, c.fresh); names = c.names; starts = c.starts ∙ e; quiet = c.quiet }
  runs_both (s ∷ ss) {xs} {ys} {zs} {ts} {n} {f} {m} {g} {us} {vs} a b =
      let w = weight_of s calls xs in
      let rest = body_weight ss calls w.names in
      let c : Runs w.names ys ss rest.size rest.fresh (creates (mentions ss)) =
      record { size = omega arith; fresh = omega arith; names = a.names; starts = refl; quiet = called_behind (mentions_of s) (mentions ss) a.quiet } in
      let d = runs_both ss c b in
      record {
        size = omega (arith, a.size, d.size);
        fresh = omega (arith, a.fresh, d.fresh);
        names = d.names;
        starts = creates_append (mentions_of s) (mentions (ss ++ ts)) ∙ ap (λ ws. creates (mentions_of s) ++ ws) d.starts ∙ sym (append_assoc (creates (mentions_of s)) (creates (mentions ss)) vs)
            ∙ ap (λ ws. ws ++ vs) (sym (creates_append (mentions_of s) (mentions ss)) ∙ a.starts);
        quiet = called_append Quiet (mentions_of s) (mentions (ss ++ ts)) (called_before (mentions_of s) (mentions ss) a.quiet) d.quiet;
      }
    where
      called_behind : (xs ys : List Mention) → AllByRecursion Quiet (called (xs ++ ys)) → AllByRecursion Quiet (called ys)
      called_behind [] ys h = h
      called_behind (Assertion ∷ xs) ys h = called_behind xs ys h
      called_behind (Create s ∷ xs) ys h = called_behind xs ys h
      called_behind (Label y ∷ xs) ys h = called_behind xs ys h
      called_behind (Call f ∷ xs) ys h = called_behind xs ys h.1

      called_before : (xs ys : List Mention) → AllByRecursion Quiet (called (xs ++ ys)) → AllByRecursion Quiet (called xs)
      called_before [] ys h = tt
      called_before (Assertion ∷ xs) ys h = called_before xs ys h
      called_before (Create s ∷ xs) ys h = called_before xs ys h
      called_before (Label y ∷ xs) ys h = called_before xs ys h
      called_before (Call f ∷ xs) ys h = (h.0, called_before xs ys h.1)

  -- ---- one word each

  -- x = e;
  pub one_assign : {xs : List Ident} (x : Ident) {e : Expr} {n f : ℕ} → Priced xs e n f → One xs xs (assign x e) (n + 1) f []
  one_assign x {e} p = one_by (stmt.Assign (tree.left_at nowhere (left.Name x)) (value.Plain e)) (omega (arith, p.size)) (omega (arith, p.fresh)) refl refl tt

  -- x[i] = e;
  pub one_assign_elem : {xs : List Ident} (x : Ident) {i e : Expr} {n f m g : ℕ} → Priced xs i n f → Priced xs e m g → One xs xs (assign_elem x i e) (n + m + 2) (f + g) []
  one_assign_elem x {i} {e} p q = one_by (stmt.Assign (tree.left_at nowhere (left.Index x i)) (value.Plain e)) (omega (arith, p.size, q.size)) (omega (arith, p.fresh, q.fresh)) refl refl tt

  -- a call of the function takes no more beside its arguments, and is quiet
  pub record Callable (f : Ident) (n g : ℕ) : Type 0 where
    pub size : (calls f).size ≤ n
    pub fresh : (calls f).fresh ≤ g
    pub defined : is_input f ≡ false
    pub quiet : Quiet f

  -- f(..);
  pub one_call : {xs : List Ident} (f : Ident) {es : List Expr} {n g m h : ℕ} → Callable f n g → PricedAll xs es m h → One xs xs (call f es) (m + length es + 1 + n) (h + g) []
  one_call {xs} f {es} c p = one_by (stmt.Do (value.Call nowhere f es))
      (omega (arith, p.size, c.size, ap (λ b. (call_price b (calls f) (length es) (costs_of es xs)).size) c.defined))
      (omega (arith, p.fresh, c.fresh, ap (λ b. (call_price b (calls f) (length es) (costs_of es xs)).fresh) c.defined))
      refl refl (c.quiet, tt)

  -- x = f(..);
  pub one_assign_call : {xs : List Ident} (x f : Ident) {es : List Expr} {n g m h : ℕ} → Callable f n g → PricedAll xs es m h → One xs xs (assign_call x f es) (m + length es + n + 2) (h + g) []
  one_assign_call {xs} x f {es} c p = one_by (stmt.Assign (tree.left_at nowhere (left.Name x)) (value.Call nowhere f es))
      (omega (arith, p.size, c.size, ap (λ b. (call_price b (calls f) (length es) (costs_of es xs)).size) c.defined))
      (omega (arith, p.fresh, c.fresh, ap (λ b. (call_price b (calls f) (length es) (costs_of es xs)).fresh) c.defined))
      refl refl (c.quiet, tt)

  -- x = f(); of an input
  pub one_input : {xs : List Ident} (x f : Ident) → is_input f ≡ true → Quiet f → One xs xs (assign_call x f []) 2 1 []
  one_input {xs} x f h quiet = one_by (stmt.Assign (tree.left_at nowhere (left.Name x)) (value.Call nowhere f []))
      (omega (arith, ap (λ b. (call_price b (calls f) 0 (costs_of [] xs)).size) h))
      (omega (arith, ap (λ b. (call_price b (calls f) 0 (costs_of [] xs)).fresh) h))
      refl refl (quiet, tt)

  -- int x;
  pub one_declare : {xs : List Ident} (x : Ident) → One xs (xs ++ x ∷ []) (declare x) 1 1 []
  one_declare x = one_by (stmt.Declare (tree.local nowhere false x None ∷ [])) (omega arith) (omega arith) refl refl tt

  -- ;
  pub one_skip : {xs : List Ident} → One xs xs skip 0 0 []
  one_skip = one_by stmt.Empty (omega arith) (omega arith) refl refl tt

  -- __CPROVER_assume(e);
  pub one_assume : {xs : List Ident} {e : Expr} {n f : ℕ} → Priced xs e n f → One xs xs (assume e) (n + 1) f []
  one_assume {e = e} p = one_by (stmt.Assume e) (omega (arith, p.size)) p.fresh refl refl tt

  -- __CPROVER_assert(e, "assertion k");
  pub one_assert : {xs : List Ident} {e : Expr} {n f : ℕ} (k : ℕ) → Priced xs e n f → One xs xs (assert e k) (n + 1) f []
  one_assert {e = e} k p = one_by (stmt.Assert e (Some _)) (omega (arith, p.size)) p.fresh refl refl tt

  -- { .. }
  pub one_block : {xs ys : List Ident} {ss : List Stmt} {n f : ℕ} {us : List Started} → Runs xs ys ss n f us → One xs xs (block ss) n f us
  one_block {ss = ss} p = one_by (stmt.Block ss) p.size p.fresh refl p.starts p.quiet

  -- if (e) s
  pub one_if : {xs ys : List Ident} {e : Expr} {s : Stmt} {n f m g : ℕ} → Priced xs e n f → One xs ys s m g [] → One xs xs (stmt_of (stmt.If e s None)) (n + 1 + m) (f + g) []
  one_if {e = e} {s = s} p q = one_by (stmt.If e s None) (omega (arith, p.size, q.size)) (omega (arith, p.fresh, q.fresh)) refl
      (creates_append (mentions_of s) [] ∙ ap (λ us. us ++ []) q.starts) (called_append Quiet (mentions_of s) [] q.quiet tt)

  -- if (e) { .. }
  pub one_when : {xs ys : List Ident} {e : Expr} {ss : List Stmt} {n f m g : ℕ} → Priced xs e n f → Runs xs ys ss m g [] → One xs xs (when e ss) (n + 1 + m) (f + g) []
  one_when p q = one_if p (one_block q)

  -- while (e) { .. }
  pub one_while : {xs ys : List Ident} {e : Expr} {ss : List Stmt} {n f m g : ℕ} → Priced xs e n f → Runs xs ys ss m g [] → One xs xs (while e ss) (n + 1 + m + 1) (f + g) []
  one_while {e = e} {ss = ss} p r = let q = one_block r in one_by (stmt.While e (block ss)) (omega (arith, p.size, q.size)) (omega (arith, p.fresh, q.fresh)) refl q.starts q.quiet

  -- return e;
  pub one_return : {xs : List Ident} {e : Expr} {n f : ℕ} → Priced xs e n f → One xs xs (return e) (n + 2) f []
  one_return {e = e} p = one_by (stmt.Return (Some (value.Plain e))) (omega (arith, p.size)) p.fresh refl refl tt

  -- goto x;
  pub one_goto : {xs : List Ident} (x : Ident) → One xs xs (go_to x) 1 0 []
  one_goto x = one_by (stmt.Goto (word x)) (omega arith) (omega arith) refl refl tt

  -- if (e) goto x;
  pub one_branch : {xs : List Ident} {e : Expr} {n f : ℕ} (x : Ident) → Priced xs e n f → One xs xs (branch e x) (n + 1 + 1) (f + 0) []
  one_branch x p = one_if p (one_goto x)

  -- __CPROVER_atomic_begin();
  pub one_begin : {xs : List Ident} → One xs xs atomic_begin 1 0 []
  one_begin = one_by stmt.AtomBegin (omega arith) (omega arith) refl refl tt

  -- __CPROVER_atomic_end();
  pub one_end : {xs : List Ident} → One xs xs atomic_end 1 0 []
  one_end = one_by stmt.AtomEnd (omega arith) (omega arith) refl refl tt

  -- __sync_synchronize();
  pub one_fence : {xs : List Ident} → One xs xs fence 1 0 []
  one_fence = one_by stmt.Fence (omega arith) (omega arith) refl refl tt

  -- pthread_mutex_lock(&x);
  pub one_lock : {xs : List Ident} (x : Ident) → One xs xs (lock x) 1 0 []
  one_lock x = one_by (stmt.Lock (word x)) (omega arith) (omega arith) refl refl tt

  -- pthread_mutex_unlock(&x);
  pub one_unlock : {xs : List Ident} (x : Ident) → One xs xs (unlock x) 1 0 []
  one_unlock x = one_by (stmt.Unlock (word x)) (omega arith) (omega arith) refl refl tt

  -- pthread_create(&x, 0, f, 0);
  pub one_start : {xs : List Ident} (x f : Ident) → One xs xs (start x f) 1 0 (record { variable = x; function = f } ∷ [])
  one_start x f = one_by (stmt.Start (word x) (word f)) (omega arith) (omega arith) refl refl tt

  -- pthread_join(x, 0);
  pub one_join : {xs : List Ident} (x : Ident) → One xs xs (join x) 1 0 []
  one_join x = one_by (stmt.Join (word x)) (omega arith) (omega arith) refl refl tt

  -- statements as one atomic section
  pub runs_section : {xs ys : List Ident} {ss : List Stmt} {n f : ℕ} {us : List Started} → Runs xs ys ss n f us → Runs xs ys (section ss) (1 + (n + 1)) (0 + (f + 0)) (us ++ [])
  runs_section p = runs_next one_begin (runs_both _ p (runs_one one_end))

  -- statements with a label before the first
  pub runs_labelled : {xs ys : List Ident} (x : Ident) {ss : List Stmt} {n f : ℕ} {us : List Started} → Runs xs ys ss n f us → Runs xs ys (labelled x ss) n f us
  runs_labelled x {ss = []} p = p
  runs_labelled {xs} {ys} x {ss = s ∷ ss} {n} {f} {us} p =
      let w = weight_of s calls xs in
      let same : body_weight (label x s ∷ ss) ≡ body_weight (s ∷ ss) = ap (λ (v : Weighing). in_turn (v ∷ map weight_of ss)) (weight_stmt (stmt.Label (word x) s)) in
      let said : mentions (label x s ∷ ss) ≡ Label x ∷ mentions (s ∷ ss) = ap (λ (ms : List Mention). ms ++ mentions ss) (mention_stmt (stmt.Label (word x) s)) in
      record {
        size = omega (arith, ap (λ (v : Weighing). (v calls xs).size) same, p.size);
        fresh = omega (arith, ap (λ (v : Weighing). (v calls xs).fresh) same, p.fresh);
        names = ap (λ (v : Weighing). (v calls xs).names) same ∙ p.names;
        starts = ap creates said ∙ p.starts;
        quiet = subst (λ (ms : List Mention). AllByRecursion Quiet (called ms)) (sym said) p.quiet;
      }
