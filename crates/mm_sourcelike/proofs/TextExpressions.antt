-- What an expression of the grammar is like: its numbers are literals, and it is spelled by so many tokens.
use Rattle.std.proofs.Common.{arith, ◌≡◌, refl, sym, subst, ◌∙◌, ℕ, ℤ, pos, ◌+◌, ◌≤◌, List, [], ◌∷◌, ◌++◌}
use Rattle.std.specs.List.{AllByRecursion}
use Rattle.mm_goto.specs.declared.ident.At.{At}
use Rattle.mm_goto.specs.declared.pure.Unary.TheVariants as un
use Rattle.mm_tree.specs.declared.expr.Expr.{Expr}
use Rattle.mm_tree.specs.declared.expr.Node.{Node, roll-Node}
use Rattle.mm_tree.specs.declared.expr.Node.TheVariants as node
use Rattle.mm_tree.specs.declared.expr.Node.TheOpen as layer
use Rattle.mm_tree.specs.declared.expr.Node.TheOpen.{Node-F}
use Rattle.mm_tree.specs.declared.expr.Node.TheFolds.{fold-Node, fold-roll-Node, fold-roll-Expr, map-Node}
use Rattle.mm_tree.specs.Trees.{expr as tree, place_of, word}
use Rattle.mm_parse_expr.specs.declared.terminal.Terminal.{Terminal}
use Rattle.mm_parse_expr.specs.Grammar as g
use Rattle.mm_parse_expr.specs.Grammar.{IsExpr, IsLevel, IsMore, IsUnary, IsPrimary}
use Rattle.mm_sourcelike.specs.Ints.{numbers_of, node_numbers, expr_layer}
use Rattle.mm_sourcelike.specs.Grammatical.{tokens_of, node_tokens, tokens_layer}
use Rattle.mm_sourcelike.proofs.TextStreams.{IsLiteral, Stream}

pub both : {X : Type 0} (P : X → Type 0) (xs ys : List X) → AllByRecursion P xs → AllByRecursion P ys → AllByRecursion P (xs ++ ys)
both P [] ys h k = k
both P (x ∷ xs) ys h k = (h.0, both P xs ys h.1 k)

-- ---- one layer of an expression

abbrev pub numbers_in : Node-F Node Expr → List ℤ
numbers_in z = node_numbers (map-Node Node Expr (List ℤ) (List ℤ) (fold-Node (List ℤ) (List ℤ) node_numbers expr_layer) numbers_of z)

abbrev tokens_in : Node-F Node Expr → ℕ
tokens_in z = node_tokens (map-Node Node Expr ℕ ℕ (fold-Node ℕ ℕ node_tokens tokens_layer) tokens_of z)

pub numbers_at : (at : At) (z : Node-F Node Expr) → numbers_of (tree at (roll-Node z)) ≡ numbers_in z
unfolding numbers_of
numbers_at at z = fold-roll-Expr (List ℤ) (List ℤ) node_numbers expr_layer (record { at = at; node = roll-Node z }) ∙ fold-roll-Node (List ℤ) (List ℤ) node_numbers expr_layer z

tokens_at : (at : At) (z : Node-F Node Expr) → tokens_of (tree at (roll-Node z)) ≡ tokens_in z
unfolding tokens_of
tokens_at at z = fold-roll-Expr ℕ ℕ node_tokens tokens_layer (record { at = at; node = roll-Node z }) ∙ fold-roll-Node ℕ ℕ node_tokens tokens_layer z

-- the numbers of an expression that is made of this
pub numbers_are : (at : At) (m : Node) (z : Node-F Node Expr) → roll-Node z ≡ m → numbers_of (tree at m) ≡ numbers_in z
numbers_are at m z is = subst (λ (k : Node). numbers_of (tree at k) ≡ numbers_in z) is (numbers_at at z)

-- ---- expressions

-- it has literals, and with so many tokens before it, it is spelled within so many
pub record Spelled (n after : ℕ) (e : Expr) : Type 0 where
  pub numbers : AllByRecursion IsLiteral (numbers_of e)
  pub tokens : n + tokens_of e ≤ after

spelled : {n after : ℕ} (at : At) (m : Node) (z : Node-F Node Expr) → roll-Node z ≡ m → AllByRecursion IsLiteral (numbers_in z) → n + tokens_in z ≤ after → Spelled n after (tree at m)
spelled {n} {after} at m z is numbers tokens = subst (λ (k : Node). Spelled n after (tree at k)) is (record {
  numbers = subst (λ (zs : List ℤ). AllByRecursion IsLiteral zs) (sym (numbers_at at z)) numbers;
  tokens = subst (λ (k : ℕ). n + k ≤ after) (sym (tokens_at at z)) tokens;
})

pub one_spelled : (n : ℕ) (p : At) → Spelled n (n + 1) (tree p (node.Number (pos 1)))
one_spelled n p = spelled p (node.Number (pos 1)) (layer.Number (pos 1)) (node.rolls-Number (pos 1)) ((1, refl, omega arith), tt) (omega arith)

module _ (most : ℕ) where
  -- behind an expression, where n tokens were counted before it
  pub record Read (n : ℕ) (e : Expr) (rest : List Terminal) : Type 0 where
    pub after : ℕ
    pub stream : Stream most after rest
    pub is : Spelled n after e

  mutual
    pub expr_read : {ts : List Terminal} {e : Expr} {rest : List Terminal} → IsExpr ts e rest → (n : ℕ) → Stream most n ts → Read n e rest
    expr_read (g.plain d) n s = level_read d n s
    expr_read (g.choice {c = c} {a = a} {b = b} d f h) n s =
        let x = level_read d n s in
        let y = expr_read f (x.after + 1) x.stream.2 in
        let z = expr_read h (y.after + 1) y.stream.2 in
        record {
          after = z.after;
          stream = z.stream;
          is = spelled (place_of c) (node.Cond c a b) (layer.Cond c a b) (node.rolls-Cond c a b)
              (both IsLiteral (numbers_of c) (numbers_of a ++ numbers_of b) x.is.numbers (both IsLiteral (numbers_of a) (numbers_of b) y.is.numbers z.is.numbers))
              (omega (arith, x.is.tokens, y.is.tokens, z.is.tokens));
        }

    pub level_read : {k : ℕ} {ts : List Terminal} {e : Expr} {rest : List Terminal} → IsLevel k ts e rest → (n : ℕ) → Stream most n ts → Read n e rest
    level_read (g.unary d) n s = unary_read d n s
    level_read (g.joined d m) n s = let x = level_read d n s in more_read m n x.after x.is x.stream

    pub more_read : {k : ℕ} {a : Expr} {ts : List Terminal} {e : Expr} {rest : List Terminal} → IsMore k a ts e rest → (n after : ℕ) → Spelled n after a → Stream most after ts → Read n e rest
    more_read g.done n after is s = record { after = after; stream = s; is = is }
    more_read (g.more {op = op} {a = a} {b = b} same d m) n after is s =
        let y = level_read d (after + 1) s.2 in
        more_read m n y.after
        (spelled (place_of a) (node.Bin op a b) (layer.Bin op a b) (node.rolls-Bin op a b) (both IsLiteral (numbers_of a) (numbers_of b) is.numbers y.is.numbers) (omega (arith, is.tokens, y.is.tokens)))
        y.stream

    pub unary_read : {ts : List Terminal} {e : Expr} {rest : List Terminal} → IsUnary ts e rest → (n : ℕ) → Stream most n ts → Read n e rest
    unary_read (g.minus {e = e} {p = p} d) n s =
        let x = unary_read d (n + 1) s.2 in
        record { after = x.after; stream = x.stream; is = spelled p (node.Un un.Neg e) (layer.Un un.Neg e) (node.rolls-Un un.Neg e) x.is.numbers (omega (arith, x.is.tokens)) }
    unary_read (g.plus {e = e} {p = p} d) n s =
        let x = unary_read d (n + 1) s.2 in
        record { after = x.after; stream = x.stream; is = spelled p (node.Un un.Plus e) (layer.Un un.Plus e) (node.rolls-Un un.Plus e) x.is.numbers (omega (arith, x.is.tokens)) }
    unary_read (g.not {e = e} {p = p} d) n s =
        let x = unary_read d (n + 1) s.2 in
        record { after = x.after; stream = x.stream; is = spelled p (node.Un un.Not e) (layer.Un un.Not e) (node.rolls-Un un.Not e) x.is.numbers (omega (arith, x.is.tokens)) }
    unary_read (g.flip {e = e} {p = p} d) n s =
        let x = unary_read d (n + 1) s.2 in
        record { after = x.after; stream = x.stream; is = spelled p (node.Un un.Flip e) (layer.Un un.Flip e) (node.rolls-Un un.Flip e) x.is.numbers (omega (arith, x.is.tokens)) }
    unary_read (g.deref {e = e} {p = p} d) n s =
        let x = unary_read d (n + 1) s.2 in
        record { after = x.after; stream = x.stream; is = spelled p (node.Deref e) (layer.Deref e) (node.rolls-Deref e) x.is.numbers (omega (arith, x.is.tokens)) }
    unary_read (g.address {p = p} {q = q} {y = y}) n s =
        record { after = n + 1 + 1; stream = s.2.2; is = spelled p (node.AddrName (word q y)) (layer.AddrName (word q y)) (node.rolls-AddrName (word q y)) tt (omega arith) }
    unary_read (g.element_address {e = e} {p = p} {q = q} {y = y} d) n s =
        let x = expr_read d (n + 1 + 1 + 1) s.2.2.2 in
        record {
          after = x.after + 1;
          stream = x.stream.2;
          is = spelled p (node.AddrIndex (word q y) e) (layer.AddrIndex (word q y) e) (node.rolls-AddrIndex (word q y) e) x.is.numbers (omega (arith, x.is.tokens));
        }
    unary_read (g.primary d) n s = primary_read d n s

    pub primary_read : {ts : List Terminal} {e : Expr} {rest : List Terminal} → IsPrimary ts e rest → (n : ℕ) → Stream most n ts → Read n e rest
    primary_read (g.number {n = z} {p = p}) n s = record { after = n + 1; stream = s.2; is = spelled p (node.Number z) (layer.Number z) (node.rolls-Number z) (s.1, tt) (omega arith) }
    primary_read (g.null {p = p}) n s = record { after = n + 1; stream = s.2; is = spelled p node.Null layer.Null node.rolls-Null tt (omega arith) }
    primary_read (g.name {p = p} {x = x}) n s = record { after = n + 1; stream = s.2; is = spelled p (node.Name x) (layer.Name x) (node.rolls-Name x) tt (omega arith) }
    primary_read (g.element {e = e} {p = p} {x = x} d) n s =
        let y = expr_read d (n + 1 + 1) s.2.2 in
        record { after = y.after + 1; stream = y.stream.2; is = spelled p (node.Index x e) (layer.Index x e) (node.rolls-Index x e) y.is.numbers (omega (arith, y.is.tokens)) }
    primary_read (g.group d) n s =
        let x = expr_read d (n + 1) s.2 in
        record { after = x.after + 1; stream = x.stream.2; is = record { numbers = x.is.numbers; tokens = omega (arith, x.is.tokens) } }
