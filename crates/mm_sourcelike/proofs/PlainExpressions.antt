-- What the code of a short expression speaks of is plain, and so is its value.
use Rattle.std.proofs.Common.{arith, ◌≡◌, inl, ℕ, ℤ, pos, ◌+◌, ◌≤◌, Bool, true, false, ◌||◌, is_none, if◌then◌else◌, List, ◌++◌, refl, sym, subst, Option, Some, None}
use Rattle.std.specs.List.{AllByRecursion}
use Rattle.mm_goto.specs.declared.ident.At.{At}
use Rattle.mm_goto.specs.declared.ident.Ident.{Ident}
use Rattle.mm_goto.specs.declared.pure.Pure.{Pure}
use Rattle.mm_goto.specs.declared.pure.Unary.TheVariants.{Not}
use Rattle.mm_goto.specs.declared.pure.Binary.{Binary}
use Rattle.mm_goto.specs.declared.pure.Binary.TheVariants as binary
use Rattle.mm_goto.specs.declared.program.Target.{Target}
use Rattle.mm_goto.specs.declared.program.Target.TheVariants as target
use Rattle.mm_goto.specs.declared.program.Instr.{Instr}
use Rattle.mm_goto.specs.declared.program.Instr.TheVariants as instr
use Rattle.mm_goto.specs.Checks.{is_not_zero}
use Rattle.mm_goto.specs.Parts.{divides, is_division}
use Rattle.mm_goto.specs.Terms.{applied, constant}
use Rattle.mm_tree.specs.declared.expr.Expr.{Expr, roll-Expr}
use Rattle.mm_tree.specs.declared.expr.Node.{Node, roll-Node}
use Rattle.mm_tree.specs.declared.expr.Node.TheOpen as node
use Rattle.mm_tree.specs.declared.expr.Node.TheOpen.{Node-F, Expr-F}
use Rattle.mm_tree.specs.declared.expr.Node.TheFolds.{ind-Expr, fold-Node, fold-roll-Node, fold-roll-Expr, map-Node, map-Expr}
use Rattle.mm_flow.specs.declared.names.Joining.{Joining}
use Rattle.mm_flow.specs.declared.names.Joining.TheVariants.{Both, And, Or}
use Rattle.mm_flow.specs.declared.names.Spot.{Spot}
use Rattle.mm_flow.specs.Flow.{Flow, Empty, Do}
use Rattle.mm_flow.specs.Scopes.{local_of, spot_of}
use Rattle.mm_flow.specs.Expressions.{Scope, Reading, Val, Aim, reading, node_step, expr_step, zero_value, one_value, name_value, short, binary_value, joining, cond_value, expr_value, the_spot, cell, indexed, followed, loaded, address_at, division_check}
use Rattle.mm_sourcelike.specs.Grammatical.{IsUnsigned, node_tokens, tokens_layer, tokens_of}
use Rattle.mm_sourcelike.specs.Ints.{numbers_of, node_numbers, expr_layer}
use Rattle.mm_sourcelike.proofs.Evaluating.{all_left, all_right, node_ints}
use Rattle.mm_sourcelike.proofs.Checking.{false_is_not}
use Rattle.mm_sourcelike.proofs.Growth.{node_reading}
use Rattle.mm_sourcelike.proofs.Laying.{Each}
use Rattle.mm_sourcelike.proofs.PlainPures.{Asserted, Plain, plain_asserted, plain_up, constant_plain, local_plain, address_plain, element_plain, applied_plain, combined_plain, chosen_plain, is_lazy, range_asserted, not_zero_plain, constant_whole, local_whole, address_whole, applied_whole, combined_whole, chosen_whole}
use Rattle.mm_sourcelike.proofs.Tables.{true_is_not}
use Rattle.mm_sourcelike.proofs.Validity.{first_false, second_false}

-- ---- instructions

-- the target's expression has at most 200 nodes
abbrev pub PlainTarget : Target → Type 0
PlainTarget (target.Cell c) = Unit {0}
PlainTarget (target.Elem first len index) = Plain 200 200 index
PlainTarget (target.Deref e) = Plain 200 200 e

-- an expression that stands alone, and one beside a target
abbrev pub IsPlain : Pure → Type 0
IsPlain e = Plain 410 210 e

abbrev pub IsPlainBeside : Pure → Type 0
IsPlainBeside e = Plain 205 205 e

abbrev pub PlainInstr : Instr → Type 0
PlainInstr (instr.Set l e) = IsPlain e
PlainInstr (instr.Load l t) = PlainTarget t
PlainInstr (instr.Store t e) = PlainTarget t × IsPlainBeside e
PlainInstr (instr.Input l) = Unit {0}
PlainInstr (instr.Jump k) = Unit {0}
PlainInstr (instr.Branch e k) = IsPlain e
PlainInstr (instr.Assert e n) = Asserted 410 210 e
PlainInstr (instr.Assume e) = IsPlain e
PlainInstr instr.Fence = Unit {0}
PlainInstr (instr.Lock m) = Unit {0}
PlainInstr (instr.Unlock m) = Unit {0}
PlainInstr (instr.Add l t e) = PlainTarget t × IsPlainBeside e
PlainInstr (instr.Cas l t e f) = PlainTarget t × IsPlainBeside e × IsPlainBeside f
PlainInstr (instr.Start u) = Unit {0}
PlainInstr (instr.Join u) = Unit {0}
PlainInstr instr.AtomBegin = Unit {0}
PlainInstr instr.AtomEnd = Unit {0}
PlainInstr instr.End = Unit {0}

abbrev pub PlainFlow : Flow → Type 0
PlainFlow f = Each PlainInstr IsPlain f

pub record PlainVal (many : ℕ) (v : Val) : Type 0 where
  pub flow : PlainFlow v.flow
  pub pure : Plain many many v.pure

pub record PlainAim (a : Aim) : Type 0 where
  pub flow : PlainFlow a.flow
  pub target : PlainTarget a.target

pub val_up : (m n : ℕ) (v : Val) → m ≤ n → PlainVal m v → PlainVal n v
val_up m n v l h = record { flow = h.flow; pure = plain_up m n m n v.pure l l h.pure }

pub alone_plain : (m : ℕ) (e : Pure) → m ≤ 200 → Plain m m e → IsPlain e
alone_plain m e l h = plain_up m 410 m 210 e (omega (arith, l)) (omega (arith, l)) h

pub beside_plain : (m : ℕ) (e : Pure) → m ≤ 200 → Plain m m e → IsPlainBeside e
beside_plain m e l h = plain_up m 205 m 205 e (omega (arith, l)) (omega (arith, l)) h

pub not_zero_alone : (m : ℕ) (e : Pure) → m ≤ 200 → Plain m m e → IsPlain (is_not_zero e)
not_zero_alone m e l h = plain_up (m + 2) 410 (m + 2) 210 (is_not_zero e) (omega (arith, l)) (omega (arith, l)) (not_zero_plain m e h)

-- and so it may be asserted
pub not_zero_asserted : (m : ℕ) (e : Pure) → m ≤ 200 → Plain m m e → Asserted 410 210 (is_not_zero e)
not_zero_asserted m e l h = plain_asserted 410 210 (is_not_zero e) (not_zero_alone m e l h)

asserted_up : (m n d k : ℕ) (e : Pure) → m ≤ n → d ≤ k → Asserted m d e → Asserted n k e
asserted_up m n d k e l g h = record { size = omega (arith, l, h.size); height = omega (arith, g, h.height); signs = h.signs; alone = h.alone }

-- ---- accesses

pub cell_plain : (s : Spot) (n : ℕ) → PlainAim (cell s n)
cell_plain s n = record { flow = tt; target = tt }

pub loaded_plain : (at : At) (a : Aim) → PlainAim a → PlainVal 1 (loaded at a)
loaded_plain at a h = record { flow = (h.flow, h.target); pure = local_plain a.next }

pub indexed_plain : (at : At) (s : Spot) (m : ℕ) (i : Val) → m ≤ 200 → PlainVal m i → PlainAim (indexed at s i)
indexed_plain at s m i l h = record {
  flow = (h.flow, asserted_up (m + m + 5) 410 (m + 3) 210 _ (omega (arith, l)) (omega (arith, l)) (range_asserted m i.pure s.len h.pure));
  target = plain_up m 200 m 200 i.pure l l h.pure;
}

pub followed_plain : (at : At) (m : ℕ) (v : Val) → m ≤ 200 → PlainVal m v → PlainAim (followed at v)
followed_plain at m v l h = record { flow = (h.flow, not_zero_asserted m v.pure l h.pure); target = plain_up m 200 m 200 v.pure l l h.pure }

address_at_plain : (at : At) (s : Spot) (m : ℕ) (i : Val) → m ≤ 200 → PlainVal m i → PlainVal (m + 1) (address_at at s i)
address_at_plain at s m i l h = record { flow = (indexed_plain at s m i l h).flow; pure = element_plain m m s.first s.len i.pure h.pure }

pub division_plain : (op : Binary) (at : At) (m : ℕ) (e : Pure) → m ≤ 200 → Plain m m e → PlainFlow (division_check op at e)
division_plain op at m e l h = by (is_division op)
  where
    by : (b : Bool) → PlainFlow (if b then Do at (instr.Assert (is_not_zero e) 0) else Empty)
    by true = not_zero_asserted m e l h
    by false = tt

-- ---- operators

short_plain : (at : At) (start test : Pure) (m : ℕ) (a c : Val) → m ≤ 200 → IsPlain start → IsPlain test → PlainFlow a.flow → PlainVal m c → PlainVal 1 (short at start test a (λ k. c))
short_plain at start test m a c l hs ht ha hc = record { flow = (ha, (hs, (ht, (hc.flow, not_zero_alone m c.pure l hc.pure)))); pure = local_plain a.next }

-- where both operands are joined without code, the second has none or is always reached
no_code_behind : (op : Binary) (code : Bool) → joining op code ≡ Both → is_lazy op ≡ true → code ≡ false
no_code_behind op false e l = refl
no_code_behind binary.Land true e l = cc
no_code_behind binary.Lor true e l = cc
no_code_behind binary.Add true e l = false_is_not l
no_code_behind binary.Sub true e l = false_is_not l
no_code_behind binary.Mul true e l = false_is_not l
no_code_behind binary.Div true e l = false_is_not l
no_code_behind binary.Rem true e l = false_is_not l
no_code_behind binary.Shl true e l = false_is_not l
no_code_behind binary.Shr true e l = false_is_not l
no_code_behind binary.Lt true e l = false_is_not l
no_code_behind binary.Le true e l = false_is_not l
no_code_behind binary.Gt true e l = false_is_not l
no_code_behind binary.Ge true e l = false_is_not l
no_code_behind binary.Eq true e l = false_is_not l
no_code_behind binary.Ne true e l = false_is_not l
no_code_behind binary.And true e l = false_is_not l
no_code_behind binary.Xor true e l = false_is_not l
no_code_behind binary.Or true e l = false_is_not l

zero_plain : IsPlain zero_value
zero_plain = plain_up 1 410 1 210 zero_value (omega arith) (omega arith) (constant_plain 0)

pub one_plain : IsPlain one_value
one_plain = plain_up 1 410 1 210 one_value (omega arith) (omega arith) (constant_plain 1)

binary_plain : (at : At) (op : Binary) (j : Joining) (code : Bool) (m n : ℕ) (a : Val) (b : ℕ → Val) → joining op code ≡ j → m + n + 1 ≤ 200 → PlainVal m a → ((k : ℕ) → PlainVal n (b k)) → ((k : ℕ) → code ≡ false → divides (b k).pure ≡ false)
    → PlainVal (m + n + 1) (binary_value at op j a b)
binary_plain at op And code m n a b is l ha hb hd =
    val_up 1 (m + n + 1) _ (omega arith) (short_plain at zero_value a.pure n a (b (a.next + 1)) (omega (arith, l)) zero_plain (alone_plain m a.pure (omega (arith, l)) ha.pure) ha.flow (hb (a.next + 1)))
binary_plain at op Or code m n a b is l ha hb hd =
    val_up 1 (m + n + 1) _ (omega arith)
    (short_plain at one_value (applied Not a.pure) n a (b (a.next + 1)) (omega (arith, l)) one_plain (alone_plain (m + 1) (applied Not a.pure) (omega (arith, l)) (applied_plain m m Not a.pure ha.pure)) ha.flow (hb (a.next + 1)))
binary_plain at op Both code m n a b is l ha hb hd =
    let c = hb a.next in
    record {
      flow = (ha.flow, (c.flow, division_plain op at n (b a.next).pure (omega (arith, l)) c.pure));
      pure = plain_up (m + n + 1) (m + n + 1) (m + n + 1) (m + n + 1) _ (omega arith) (omega arith)
          (combined_plain m n m n (m + n) op a.pure (b a.next).pure (omega arith) (omega arith) ha.pure c.pure (λ z. hd a.next (no_code_behind op code is z)));
    }

cond_plain : (at : At) (choice : Bool) (l m n : ℕ) (c : Val) (a b : ℕ → Val) → l + m + n + 1 ≤ 200 → PlainVal l c → ((k : ℕ) → PlainVal m (a k)) → ((k : ℕ) → PlainVal n (b k)) → ((k : ℕ) → choice ≡ false → divides (a k).pure ≡ false) → ((k : ℕ) → choice ≡ false → divides (b k).pure ≡ false)
    → PlainVal (l + m + n + 1) (cond_value at choice c a b)
cond_plain at true l m n c a b le hc ha hb da db =
    let v = ha (c.next + 1) in
    let w = hb (a (c.next + 1)).next in
    val_up 1 (l + m + n + 1) _ (omega arith) (record {
      flow = (
        hc.flow,
        (
          alone_plain l c.pure (omega (arith, le)) hc.pure,
          (v.flow, alone_plain m (a (c.next + 1)).pure (omega (arith, le)) v.pure),
          (w.flow, alone_plain n (b (a (c.next + 1)).next).pure (omega (arith, le)) w.pure),
        ),
      );
      pure = local_plain c.next;
    })
cond_plain at false l m n c a b le hc ha hb da db =
    let v = ha c.next in
    let w = hb (a c.next).next in
    record {
      flow = (hc.flow, (v.flow, w.flow));
      pure = chosen_plain l m n (l + m + n) c.pure (a c.next).pure (b (a c.next).next).pure (omega arith) (omega arith) (omega arith) hc.pure v.pure w.pure (da c.next refl) (db (a c.next).next refl);
    }

-- ---- the whole

-- where the expression has so many tokens and these numbers
pub record PlainRead (many : ℕ) (code : Bool) (v : Val) : Type 0 where
  pub plain : PlainVal many v
  pub whole : code ≡ false → divides v.pure ≡ false

abbrev pub ReadsPlain : Reading → List ℤ → ℕ → Type 0
ReadsPlain r zs many = (s : Scope) (n : ℕ) → many ≤ 200 → AllByRecursion IsUnsigned zs → PlainRead many (r.has_code s) (r.value s n)

abbrev pub node_length : Node → ℕ
node_length = fold-Node ℕ ℕ node_tokens tokens_layer

abbrev P : Node → Type 0
P d = (at : At) → ReadsPlain (node_reading d at) (node_ints d) (node_length d)

abbrev Q : Expr → Type 0
Q e = ReadsPlain (reading e) (numbers_of e) (tokens_of e)

by : (z : Node-F Node Expr) (at : At)
    → ReadsPlain (node_step (map-Node Node Expr (At → Reading) Reading node_reading reading z) at) (node_numbers (map-Node Node Expr (List ℤ) (List ℤ) node_ints numbers_of z)) (node_tokens (map-Node Node Expr ℕ ℕ node_length tokens_of z))
    → ReadsPlain (node_reading (roll-Node z) at) (node_ints (roll-Node z)) (node_length (roll-Node z))
unfolding reading numbers_of tokens_of
by z at g =
    subst (λ (f : At → Reading). ReadsPlain (f at) (node_ints (roll-Node z)) (node_length (roll-Node z))) (sym (fold-roll-Node (At → Reading) Reading node_step expr_step z))
    (subst (λ (f : List ℤ). ReadsPlain (node_step (map-Node Node Expr (At → Reading) Reading node_reading reading z) at) f (node_length (roll-Node z))) (sym (fold-roll-Node (List ℤ) (List ℤ) node_numbers expr_layer z))
    (subst (λ (f : ℕ). ReadsPlain (node_step (map-Node Node Expr (At → Reading) Reading node_reading reading z) at) (node_numbers (map-Node Node Expr (List ℤ) (List ℤ) node_ints numbers_of z)) f) (sym (fold-roll-Node ℕ ℕ node_tokens tokens_layer z)) g))

by_expr : (z : Expr-F Node Expr) → ReadsPlain (node_reading z.node z.at) (node_ints z.node) (node_length z.node) → Q (roll-Expr z)
unfolding reading numbers_of tokens_of
by_expr z g =
    subst (λ (f : Reading). ReadsPlain f (numbers_of (roll-Expr z)) (tokens_of (roll-Expr z))) (sym (fold-roll-Expr (At → Reading) Reading node_step expr_step z))
    (subst (λ (f : List ℤ). ReadsPlain (node_reading z.node z.at) f (tokens_of (roll-Expr z))) (sym (fold-roll-Expr (List ℤ) (List ℤ) node_numbers expr_layer z))
    (subst (λ (f : ℕ). ReadsPlain (node_reading z.node z.at) (node_ints z.node) f) (sym (fold-roll-Expr ℕ ℕ node_tokens tokens_layer z)) g))

name_plain : (at : At) (x : Ident) (s : Scope) (n : ℕ) → PlainRead 1 (is_none (local_of s.names x)) (name_value at s x (local_of s.names x) n)
name_plain at x s n = choose (local_of s.names x)
  where
    choose : (o : Option ℕ) → PlainRead 1 (is_none o) (name_value at s x o n)
    choose (Some l) = record { plain = record { flow = tt; pure = local_plain l }; whole = λ e. local_whole l }
    choose None = record { plain = loaded_plain at _ (cell_plain (the_spot (spot_of s.spots x)) n); whole = λ e. true_is_not e }

number_plain : (z : ℤ) (n : ℕ) → IsUnsigned z → PlainRead 1 false (record { flow = Empty; pure = constant z; next = n })
number_plain z n h = subst (λ y. PlainRead 1 false (record { flow = Empty; pure = constant y; next = n })) (sym h.1) (record { plain = record { flow = tt; pure = constant_plain h.0 }; whole = λ e. constant_whole h.0 })

binary_whole : (at : At) (op : Binary) (j : Joining) (c d : Bool) (a : Val) (b : ℕ → Val) → joining op d ≡ j → (c || (d || is_division op)) ≡ false → (c ≡ false → divides a.pure ≡ false) → ((k : ℕ) → d ≡ false → divides (b k).pure ≡ false) → divides (binary_value at op j a b).pure ≡ false
binary_whole at op And c d a b is e ha hb = local_whole a.next
binary_whole at op Or c d a b is e ha hb = local_whole a.next
binary_whole at op Both c d a b is e ha hb =
    let rest = second_false c (d || is_division op) e in
    combined_whole op a.pure (b a.next).pure (second_false d (is_division op) rest) (ha (first_false c (d || is_division op) e)) (hb a.next (first_false d (is_division op) rest))

cond_whole : (at : At) (choice f : Bool) (c : Val) (a b : ℕ → Val) → (f || choice) ≡ false → (f ≡ false → divides c.pure ≡ false) → ((k : ℕ) → choice ≡ false → divides (a k).pure ≡ false) → ((k : ℕ) → choice ≡ false → divides (b k).pure ≡ false) → divides (cond_value at choice c a b).pure ≡ false
cond_whole at true f c a b e hc ha hb = local_whole c.next
cond_whole at false f c a b e hc ha hb = chosen_whole c.pure (a c.next).pure (b (a c.next).next).pure (hc (first_false f false e)) (ha c.next refl) (hb (a c.next).next refl)

node_plain : (y : Node-F ((d : Node) × P d) ((e : Expr) × Q e)) → P (roll-Node (map-Node ((d : Node) × P d) ((e : Expr) × Q e) Node Expr (λ d. d.0) (λ e. e.0) y))
node_plain (node.Number z) at = by (node.Number z) at (λ s n l h. number_plain z n h.0)
node_plain node.Null at = by node.Null at (λ s n l h. number_plain (pos 0) n (0, refl))
node_plain (node.Name x) at = by (node.Name x) at (λ s n l h. name_plain at x s n)
node_plain (node.Index x e) at = by (node.Index x e.0) at (λ s n l h.
    let i = e.1 s n (omega (arith, l)) h in
    record {
      plain = val_up 1 (tokens_of e.0 + 3) _ (omega arith) (loaded_plain at _ (indexed_plain at (the_spot (spot_of s.spots x)) (tokens_of e.0) (expr_value e.0 s n) (omega (arith, l)) i.plain));
      whole = λ q. true_is_not q;
    })
node_plain (node.Deref e) at = by (node.Deref e.0) at (λ s n l h.
    let i = e.1 s n (omega (arith, l)) h in
    record {
      plain = val_up 1 (tokens_of e.0 + 1) _ (omega arith) (loaded_plain at _ (followed_plain at (tokens_of e.0) (expr_value e.0 s n) (omega (arith, l)) i.plain));
      whole = λ q. true_is_not q;
    })
node_plain (node.AddrName w) at = by (node.AddrName w) at (λ s n l h. record {
  plain = val_up 1 2 _ (omega arith) (record { flow = tt; pure = address_plain (the_spot (spot_of s.spots w.name)).first });
  whole = λ q. address_whole (the_spot (spot_of s.spots w.name)).first;
})
node_plain (node.AddrIndex w e) at = by (node.AddrIndex w e.0) at (λ s n l h.
    let i = e.1 s n (omega (arith, l)) h in
    record {
      plain = val_up (tokens_of e.0 + 1) (tokens_of e.0 + 4) _ (omega arith) (address_at_plain at (the_spot (spot_of s.spots w.name)) (tokens_of e.0) (expr_value e.0 s n) (omega (arith, l)) i.plain);
      whole = λ q. true_is_not q;
    })
node_plain (node.Un op e) at = by (node.Un op e.0) at (λ s n l h.
    let i = e.1 s n (omega (arith, l)) h in
    record {
      plain = record { flow = i.plain.flow; pure = applied_plain (tokens_of e.0) (tokens_of e.0) op (expr_value e.0 s n).pure i.plain.pure };
      whole = λ q. applied_whole op (expr_value e.0 s n).pure (i.whole q);
    })
node_plain (node.Bin op a b) at = by (node.Bin op a.0 b.0) at (λ s n l h.
    let code : Bool = (reading b.0).has_code s in
    let first = a.1 s n (omega (arith, l)) (all_left IsUnsigned (numbers_of a.0) (numbers_of b.0) h) in
    let second : (k : ℕ) → PlainRead (tokens_of b.0) code (expr_value b.0 s k) = λ k. b.1 s k (omega (arith, l)) (all_right IsUnsigned (numbers_of a.0) (numbers_of b.0) h) in
    record {
      plain = binary_plain at op (joining op code) code (tokens_of a.0) (tokens_of b.0) (expr_value a.0 s n) (expr_value b.0 s) refl l first.plain (λ k. (second k).plain) (λ k. (second k).whole);
      whole = λ q. binary_whole at op (joining op code) ((reading a.0).has_code s) code (expr_value a.0 s n) (expr_value b.0 s) refl q first.whole (λ k. (second k).whole);
    })
node_plain (node.Cond c a b) at = by (node.Cond c.0 a.0 b.0) at (λ s n l h.
    let code : Bool = (reading a.0).has_code s in
    let other : Bool = (reading b.0).has_code s in
    let rest = all_right IsUnsigned (numbers_of c.0) (numbers_of a.0 ++ numbers_of b.0) h in
    let test = c.1 s n (omega (arith, l)) (all_left IsUnsigned (numbers_of c.0) (numbers_of a.0 ++ numbers_of b.0) h) in
    let first : (k : ℕ) → PlainRead (tokens_of a.0) code (expr_value a.0 s k) = λ k. a.1 s k (omega (arith, l)) (all_left IsUnsigned (numbers_of a.0) (numbers_of b.0) rest) in
    let second : (k : ℕ) → PlainRead (tokens_of b.0) other (expr_value b.0 s k) = λ k. b.1 s k (omega (arith, l)) (all_right IsUnsigned (numbers_of a.0) (numbers_of b.0) rest) in
    let one : (k : ℕ) → (code || other) ≡ false → divides (expr_value a.0 s k).pure ≡ false = λ k q. (first k).whole (first_false code other q) in
    let two : (k : ℕ) → (code || other) ≡ false → divides (expr_value b.0 s k).pure ≡ false = λ k q. (second k).whole (second_false code other q) in
    record {
      plain = val_up (tokens_of c.0 + tokens_of a.0 + tokens_of b.0 + 1) (tokens_of c.0 + tokens_of a.0 + tokens_of b.0 + 2) _ (omega arith)
          (cond_plain at (code || other) (tokens_of c.0) (tokens_of a.0) (tokens_of b.0) (expr_value c.0 s n) (expr_value a.0 s) (expr_value b.0 s) (omega (arith, l)) test.plain (λ k. (first k).plain) (λ k. (second k).plain) one two);
      whole = λ q. cond_whole at (code || other) ((reading c.0).has_code s) (expr_value c.0 s n) (expr_value a.0 s) (expr_value b.0 s) q test.whole one two;
    })

pub expr_plain : (e : Expr) → Q e
expr_plain = ind-Expr P Q (λ x y is. subst (λ z. P (roll-Node z)) is (node_plain y)) (λ x y is. subst (λ z. Q (roll-Expr z)) is (by_expr (map-Expr _ _ Node Expr (λ d. d.0) (λ e. e.0) y) (y.node.1 y.at)))
