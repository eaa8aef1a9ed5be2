-- Expressions of a source in C: each is printable, and takes fewer brackets than it has nodes, and fewer than five tokens for a node.
-- The types are needed for that: an address of an element is no int, and so it is no index.
use Rattle.std.proofs.Common.{◌≡◌, ◌∙◌, ℕ, ℤ, pos, ◌+◌, ◌*◌, ◌<◌, ◌≤◌, ◌^◌, Bool, true, false, ◌&&◌, ◌||◌, List, [], ◌∷◌, ◌++◌, inl, inr, arith, refl, sym, subst, ap}
use Rattle.std.specs.Prelude.{IsTrue}
use Rattle.std.specs.List.{AllByRecursion}
use Rattle.std.proofs.lemmas.Bool.{true≢false, cases_Bool}
use Rattle.mm_goto.specs.declared.pure.Unary.{Unary}
use Rattle.mm_goto.specs.declared.pure.Unary.TheVariants as unary
use Rattle.mm_goto.specs.declared.pure.Binary.{Binary}
use Rattle.mm_goto.specs.declared.pure.Binary.TheVariants as binary
use Rattle.mm_goto.specs.declared.pure.Pure.{Pure, roll-Pure}
use Rattle.mm_goto.specs.declared.pure.Pure.TheOpen as pure
use Rattle.mm_goto.specs.declared.pure.Pure.TheFolds.{fold-roll-Pure, ind-Pure, map-Pure}
use Rattle.mm_goto.specs.declared.row.Row.{Row}
use Rattle.mm_goto.specs.Kinds.{Kinds, binary_kinds, is_typed, kinds_of, kinds_step, unary_kinds}
use Rattle.mm_goto.specs.Locals.{rows_of, rows_step}
use Rattle.mm_goto.specs.Parts.{nodes, nodes_step, numbers, numbers_step}
use Rattle.mm_tree.specs.declared.expr.Expr.{Expr}
use Rattle.mm_words.specs.Words as word
use Rattle.mm_templates.specs.Expressions.{printed, printed_step}
use Rattle.mm_templates.specs.Names.{local_name}
use Rattle.mm_readable.proofs.Naming.{local_named}
use Rattle.mm_readable.proofs.Reading.{ExprReads, bin_reads, choice_reads, num_reads, un_reads, var_reads}

-- ---- what an expression of a source has

-- a number without a sign
abbrev pub IsNatural : ℤ → Type 0
IsNatural z = (n : ℕ) × (z ≡ pos n) × (n < 2 ^ 31)

-- the row begins at a cell of few
abbrev pub IsNear : Row → Type 0
IsNear row = row.first ≤ 256

pub left : {X : Type 0} (P : X → Type 0) (xs ys : List X) → AllByRecursion P (xs ++ ys) → AllByRecursion P xs
left P [] ys h = tt
left P (x ∷ xs) ys h = (h.0, left P xs ys h.1)

pub right : {X : Type 0} (P : X → Type 0) (xs ys : List X) → AllByRecursion P (xs ++ ys) → AllByRecursion P ys
right P [] ys h = h
right P (x ∷ xs) ys h = right P xs ys h.1

-- ---- types

alike_typed : (a b c d : Bool) → ((a && c) || (b && d)) ≡ true → ((a || b) ≡ true) × ((c || d) ≡ true)
alike_typed true b true d h = (refl, refl)
alike_typed true true false true h = (refl, refl)
alike_typed true true false false h = absurd (true≢false (sym h))
alike_typed true false false d h = absurd (true≢false (sym h))
alike_typed false true true true h = (refl, refl)
alike_typed false true false true h = (refl, refl)
alike_typed false true c false h = absurd (true≢false (sym h))
alike_typed false false c d h = absurd (true≢false (sym h))

both_true : (a b : Bool) → (a && b) ≡ true → (a ≡ true) × (b ≡ true)
both_true true true h = (refl, refl)
both_true true false h = absurd (true≢false (sym h))
both_true false b h = absurd (true≢false (sym h))

-- an int is typed
int_typed : (k : Kinds) → k.int ≡ true → is_typed k ≡ true
int_typed k h = ap (λ b. b || k.pointer) h

ints_typed : (x y : Kinds) → (x.int && y.int) ≡ true → (is_typed x ≡ true) × (is_typed y ≡ true)
ints_typed x y h = let b = both_true x.int y.int h in (int_typed x b.0, int_typed y b.1)

-- both sides of an operator are typed
sides_typed : (op : Binary) (x y : Kinds) → (binary_kinds op x y).int ≡ true → (is_typed x ≡ true) × (is_typed y ≡ true)
sides_typed binary.Eq x y h = alike_typed x.int x.pointer y.int y.pointer h
sides_typed binary.Ne x y h = alike_typed x.int x.pointer y.int y.pointer h
sides_typed binary.Land x y h = both_true (is_typed x) (is_typed y) h
sides_typed binary.Lor x y h = both_true (is_typed x) (is_typed y) h
sides_typed binary.Add x y h = ints_typed x y h
sides_typed binary.Sub x y h = ints_typed x y h
sides_typed binary.Mul x y h = ints_typed x y h
sides_typed binary.Div x y h = ints_typed x y h
sides_typed binary.Rem x y h = ints_typed x y h
sides_typed binary.Shl x y h = ints_typed x y h
sides_typed binary.Shr x y h = ints_typed x y h
sides_typed binary.Lt x y h = ints_typed x y h
sides_typed binary.Le x y h = ints_typed x y h
sides_typed binary.Gt x y h = ints_typed x y h
sides_typed binary.Ge x y h = ints_typed x y h
sides_typed binary.And x y h = ints_typed x y h
sides_typed binary.Xor x y h = ints_typed x y h
sides_typed binary.Or x y h = ints_typed x y h

no_pointer : (op : Binary) (x y : Kinds) → (binary_kinds op x y).pointer ≡ false
no_pointer binary.Eq x y = refl
no_pointer binary.Ne x y = refl
no_pointer binary.Land x y = refl
no_pointer binary.Lor x y = refl
no_pointer binary.Add x y = refl
no_pointer binary.Sub x y = refl
no_pointer binary.Mul x y = refl
no_pointer binary.Div x y = refl
no_pointer binary.Rem x y = refl
no_pointer binary.Shl x y = refl
no_pointer binary.Shr x y = refl
no_pointer binary.Lt x y = refl
no_pointer binary.Le x y = refl
no_pointer binary.Gt x y = refl
no_pointer binary.Ge x y = refl
no_pointer binary.And x y = refl
no_pointer binary.Xor x y = refl
no_pointer binary.Or x y = refl

operand_typed : (op : Unary) (x : Kinds) → (unary_kinds op x).int ≡ true → is_typed x ≡ true
operand_typed unary.Not x h = h
operand_typed unary.Neg x h = int_typed x h
operand_typed unary.Plus x h = int_typed x h
operand_typed unary.Flip x h = int_typed x h

no_pointer_of : (op : Unary) (x : Kinds) → (unary_kinds op x).pointer ≡ false
no_pointer_of unary.Not x = refl
no_pointer_of unary.Neg x = refl
no_pointer_of unary.Plus x = refl
no_pointer_of unary.Flip x = refl

-- ---- room

-- how many tokens it takes at most, by what it can be called
pub record Bounded (k : Kinds) (t n : ℕ) : Type 0 where
  pub int : IsTrue k.int → 2 * t + 7 ≤ 9 * n
  pub pointer : IsTrue k.pointer → 2 * t + 4 ≤ 9 * n

pub typed_bound : (k : Kinds) (t n : ℕ) → Bounded k t n → is_typed k ≡ true → 2 * t + 4 ≤ 9 * n
typed_bound k t n h typed = elim (cases_Bool k.int) [
  | inl int ↦ (let b = h.int int in omega (arith, b))
  | inr other ↦ h.pointer (sym (ap (λ b. b || k.pointer) other) ∙ typed)
]

module _ (pointers : ℕ → Bool) where
  pub record Printed (e : Pure) : Type 0 where
    pub b : ℕ
    pub t : ℕ
    pub reads : ExprReads (printed e) b t
    pub brackets : b + 1 ≤ nodes e
    pub tokens : Bounded (kinds_of pointers e) t (nodes e)

  abbrev Fine : Pure → Type 0
  Fine e = AllByRecursion IsNatural (numbers e) → AllByRecursion IsNear (rows_of e) → Printed e

  made : (v : pure.Pure-F Pure) (tree : Expr) (n : ℕ) (k : Kinds) (b t : ℕ) → printed (roll-Pure v) ≡ tree → nodes (roll-Pure v) ≡ n → kinds_of pointers (roll-Pure v) ≡ k
      → ExprReads tree b t → b + 1 ≤ n → Bounded k t n → Printed (roll-Pure v)
  made v tree n k b t same_tree same_nodes same_kinds reads brackets tokens = record {
    b = b;
    t = t;
    reads = subst (λ e. ExprReads e b t) (sym same_tree) reads;
    brackets = subst (λ n. b + 1 ≤ n) (sym same_nodes) brackets;
    tokens = subst (λ n. Bounded (kinds_of pointers (roll-Pure v)) t n) (sym same_nodes) (subst (λ k. Bounded k t n) (sym same_kinds) tokens);
  }

  number_printed : (z : ℤ) → IsNatural z → ExprReads (word.number z) 0 1
  number_printed z h = subst (λ z. ExprReads (word.number z) 0 1) (sym h.1) (num_reads h.0 h.2)

  at_const : (z : ℤ) → Fine (roll-Pure (pure.Const z))
  at_const z = λ ns rs.
      let n = subst (AllByRecursion IsNatural) (fold-roll-Pure (List ℤ) numbers_step (pure.Const z)) ns in
      made (pure.Const z) (word.number z) 1 _ 0 1 (fold-roll-Pure Expr printed_step (pure.Const z)) (fold-roll-Pure ℕ nodes_step (pure.Const z)) (fold-roll-Pure Kinds (kinds_step pointers) (pure.Const z))
      (number_printed z n.0) (omega arith) (record { int = λ h. omega arith; pointer = λ h. omega arith })

  at_local : (l : ℕ) → Fine (roll-Pure (pure.Local l))
  at_local l = λ ns rs.
      made (pure.Local l) (word.var (local_name l)) 1 _ 0 1 (fold-roll-Pure Expr printed_step (pure.Local l)) (fold-roll-Pure ℕ nodes_step (pure.Local l)) (fold-roll-Pure Kinds (kinds_step pointers) (pure.Local l))
      (var_reads (local_name l) (local_named l)) (omega arith) (record { int = λ h. omega arith; pointer = λ h. omega arith })

  at_addr : (c : ℕ) → Fine (roll-Pure (pure.Addr c))
  at_addr c = λ ns rs.
      let r = subst (AllByRecursion IsNear) (fold-roll-Pure (List Row) rows_step (pure.Addr c)) rs in
      made (pure.Addr c) (word.num (c + 1)) 1 _ 0 1 (fold-roll-Pure Expr printed_step (pure.Addr c)) (fold-roll-Pure ℕ nodes_step (pure.Addr c)) (fold-roll-Pure Kinds (kinds_step pointers) (pure.Addr c))
      (num_reads (c + 1) (let near = r.0 in omega (arith, near))) (omega arith) (record { int = λ h. omega arith; pointer = λ h. omega arith })

  at_elem : (first len : ℕ) (x : Pure) → Fine x → Fine (roll-Pure (pure.AddrElem first len x))
  at_elem first len x f = λ ns rs.
      let v : pure.Pure-F Pure = pure.AddrElem first len x in
      let n = subst (AllByRecursion IsNatural) (fold-roll-Pure (List ℤ) numbers_step v) ns in
      let r = subst (AllByRecursion IsNear) (fold-roll-Pure (List Row) rows_step v) rs in
      let p = f n r.1 in
      made v (word.plus (word.num (first + 1)) (printed x)) (nodes x + 1) _ (1 + (0 + p.b)) (5 + (1 + p.t)) (fold-roll-Pure Expr printed_step v) (fold-roll-Pure ℕ nodes_step v) (fold-roll-Pure Kinds (kinds_step pointers) v)
      (bin_reads binary.Add (word.num (first + 1)) (printed x) (num_reads (first + 1) (let near = r.0 in omega (arith, near))) p.reads) (let b = p.brackets in omega (arith, b))
      (record { int = λ h. absurd (true≢false (sym h)); pointer = λ h. (let b = p.tokens.int h in omega (arith, b)) })

  at_un : (op : Unary) (x : Pure) → Fine x → Fine (roll-Pure (pure.Un op x))
  at_un op x f = λ ns rs.
      let v : pure.Pure-F Pure = pure.Un op x in
      let p = f (subst (AllByRecursion IsNatural) (fold-roll-Pure (List ℤ) numbers_step v) ns) (subst (AllByRecursion IsNear) (fold-roll-Pure (List Row) rows_step v) rs) in
      let k = kinds_of pointers x in
      made v (word.un op (printed x)) (nodes x + 1) _ (1 + p.b) (3 + p.t) (fold-roll-Pure Expr printed_step v) (fold-roll-Pure ℕ nodes_step v) (fold-roll-Pure Kinds (kinds_step pointers) v)
      (un_reads op (printed x) p.reads) (let b = p.brackets in omega (arith, b))
      (record {
        int = λ h. (let b = typed_bound k p.t (nodes x) p.tokens (operand_typed op k h) in omega (arith, b));
        pointer = λ h. absurd (true≢false (sym h ∙ no_pointer_of op k));
      })

  at_bin : (op : Binary) (x y : Pure) → Fine x → Fine y → Fine (roll-Pure (pure.Bin op x y))
  at_bin op x y f g = λ ns rs.
      let v : pure.Pure-F Pure = pure.Bin op x y in
      let n = subst (AllByRecursion IsNatural) (fold-roll-Pure (List ℤ) numbers_step v) ns in
      let r = subst (AllByRecursion IsNear) (fold-roll-Pure (List Row) rows_step v) rs in
      let p = f (left IsNatural (numbers x) (numbers y) n) (left IsNear (rows_of x) (rows_of y) r) in
      let q = g (right IsNatural (numbers x) (numbers y) n) (right IsNear (rows_of x) (rows_of y) r) in
      let k = kinds_of pointers x in
      let l = kinds_of pointers y in
      made v (word.bin op (printed x) (printed y)) (nodes x + nodes y + 1) _ (1 + (p.b + q.b)) (5 + (p.t + q.t)) (fold-roll-Pure Expr printed_step v) (fold-roll-Pure ℕ nodes_step v) (fold-roll-Pure Kinds (kinds_step pointers) v)
      (bin_reads op (printed x) (printed y) p.reads q.reads) (let b = p.brackets in let c = q.brackets in omega (arith, b, c))
      (record {
        int = λ h.
            let typed = sides_typed op k l h in
            let b = typed_bound k p.t (nodes x) p.tokens typed.0 in
            let c = typed_bound l q.t (nodes y) q.tokens typed.1 in
            omega (arith, b, c);
        pointer = λ h. absurd (true≢false (sym h ∙ no_pointer op k l));
      })

  at_cond : (x y z : Pure) → Fine x → Fine y → Fine z → Fine (roll-Pure (pure.Cond x y z))
  at_cond x y z f g h = λ ns rs.
      let v : pure.Pure-F Pure = pure.Cond x y z in
      let n = subst (AllByRecursion IsNatural) (fold-roll-Pure (List ℤ) numbers_step v) ns in
      let r = subst (AllByRecursion IsNear) (fold-roll-Pure (List Row) rows_step v) rs in
      let m = left IsNatural (numbers x ++ numbers y) (numbers z) n in
      let s = left IsNear (rows_of x ++ rows_of y) (rows_of z) r in
      let p = f (left IsNatural (numbers x) (numbers y) m) (left IsNear (rows_of x) (rows_of y) s) in
      let q = g (right IsNatural (numbers x) (numbers y) m) (right IsNear (rows_of x) (rows_of y) s) in
      let o = h (right IsNatural (numbers x ++ numbers y) (numbers z) n) (right IsNear (rows_of x ++ rows_of y) (rows_of z) r) in
      let k = kinds_of pointers x in
      let l = kinds_of pointers y in
      let j = kinds_of pointers z in
      made v (word.choice (printed x) (printed y) (printed z)) (nodes x + nodes y + nodes z + 1) _ (1 + (p.b + (q.b + o.b))) (8 + (p.t + (q.t + o.t))) (fold-roll-Pure Expr printed_step v) (fold-roll-Pure ℕ nodes_step v) (fold-roll-Pure Kinds (kinds_step pointers) v)
      (choice_reads (printed x) (printed y) (printed z) p.reads q.reads o.reads) (let b = p.brackets in let c = q.brackets in let d = o.brackets in omega (arith, b, c, d))
      (record {
        int = λ i.
            let typed = both_true (is_typed k) (l.int && j.int) i in
            let arms = both_true l.int j.int typed.1 in
            let b = typed_bound k p.t (nodes x) p.tokens typed.0 in
            let c = q.tokens.int arms.0 in
            let d = o.tokens.int arms.1 in
            omega (arith, b, c, d);
        pointer = λ i.
            let typed = both_true (is_typed k) (l.pointer && j.pointer) i in
            let arms = both_true l.pointer j.pointer typed.1 in
            let b = typed_bound k p.t (nodes x) p.tokens typed.0 in
            let c = q.tokens.pointer arms.0 in
            let d = o.tokens.pointer arms.1 in
            omega (arith, b, c, d);
      })

  pub expr_printed : (e : Pure) → AllByRecursion IsNatural (numbers e) → AllByRecursion IsNear (rows_of e) → Printed e
  expr_printed e = ind-Pure Fine (λ x y is.
      let P : pure.Pure-F Pure → Type 0 = λ v. Fine (roll-Pure v) in
      elim y as (λ v. map-Pure _ Pure (λ d. d.0) v ≡ x → Fine (roll-Pure x)) [
        | pure.Const c ↦ λ same. subst P same (at_const c)
        | pure.Local m ↦ λ same. subst P same (at_local m)
        | pure.Addr c ↦ λ same. subst P same (at_addr c)
        | pure.AddrElem first len x ↦ λ same. subst P same (at_elem first len x.0 x.1)
        | pure.Un op x ↦ λ same. subst P same (at_un op x.0 x.1)
        | pure.Bin op x y ↦ λ same. subst P same (at_bin op x.0 y.0 x.1 y.1)
        | pure.Cond x y z ↦ λ same. subst P same (at_cond x.0 y.0 z.0 x.1 y.1 z.1)
      ] is) e
