-- What the grammar has as an expression, a left side or a value is printable.
use Rattle.std.proofs.Common.{arith, ◌≡◌, refl, subst, sym, ℕ, ℤ, pos, ◌≤◌, Bool, true, false, IsTrue, List, [], ◌∷◌}
use Rattle.std.specs.List.{AllByRecursion}
use Rattle.mm_goto.specs.declared.ident.At.{At}
use Rattle.mm_tree.specs.declared.expr.Expr.{Expr}
use Rattle.mm_tree.specs.declared.expr.Node.TheVariants as node
use Rattle.mm_tree.specs.declared.stmt.Left.{Left}
use Rattle.mm_tree.specs.declared.stmt.Value.{Value}
use Rattle.mm_tree.specs.Trees.{expr as tree}
use Rattle.mm_parse_expr.specs.declared.terminal.Terminal.{Terminal}
use Rattle.mm_parse_expr.specs.Grammar as e
use Rattle.mm_parse_expr.specs.Grammar.{IsExpr, IsLevel, IsMore, IsUnary, IsPrimary}
use Rattle.mm_grammar.specs.StatementGrammar as g
use Rattle.mm_grammar.specs.StatementGrammar.{IsLeft, IsArguments, IsCall, IsValue}
use Rattle.mm_print.specs.Printable.{OneOrMore, IsPrintableName, IsPrintableNumber, IsPrintable, IsPrintableLeft, IsPrintableCall, IsPrintableValue}
use Rattle.mm_sourcelike.specs.Grammatical.{IsName}
use Rattle.mm_sourcelike.proofs.TextStreams.{IsLiteral, IsProper}

-- what stands from here on is what the lexer gives
abbrev pub AreProper : List Terminal → Type 0
AreProper = AllByRecursion IsProper

pub name_prints : (x : List ℕ) → IsName x → IsPrintableName x
name_prints x is = record { utf8 = is.text; name = is.name; no_word = is.no_word }

pub number_prints : (at : At) (z : ℤ) → IsLiteral z → IsPrintableNumber (tree at (node.Number z))
number_prints at z l = subst (λ (y : ℤ). IsPrintableNumber (tree at (node.Number y))) (sym l.1) (small l.0 l.2)
  where
    small : (k : ℕ) → k ≤ 2147483647 → IsPrintableNumber (tree at (node.Number (pos k)))
    small k h = IsPrintableNumber.number (omega (arith, h))

-- ---- expressions

mutual
  pub expr_prints : {ts : List Terminal} {a : Expr} {rest : List Terminal} → IsExpr ts a rest → AreProper ts → IsPrintable a × AreProper rest
  expr_prints (e.plain d) s = level_prints d s
  expr_prints (e.choice d f h) s =
      let x = level_prints d s in
      let y = expr_prints f x.1.1 in
      let z = expr_prints h y.1.1 in
      (IsPrintable.cond x.0 y.0 z.0, z.1)

  level_prints : {k : ℕ} {ts : List Terminal} {a : Expr} {rest : List Terminal} → IsLevel k ts a rest → AreProper ts → IsPrintable a × AreProper rest
  level_prints (e.unary d) s = unary_prints d s
  level_prints (e.joined d m) s = let x = level_prints d s in more_prints m x.0 x.1

  more_prints : {k : ℕ} {a : Expr} {ts : List Terminal} {b : Expr} {rest : List Terminal} → IsMore k a ts b rest → IsPrintable a → AreProper ts → IsPrintable b × AreProper rest
  more_prints e.done is s = (is, s)
  more_prints (e.more same d m) is s = let y = level_prints d s.1 in more_prints m (IsPrintable.bin is y.0) y.1

  pub unary_prints : {ts : List Terminal} {a : Expr} {rest : List Terminal} → IsUnary ts a rest → AreProper ts → IsPrintable a × AreProper rest
  unary_prints (e.minus d) s = let x = unary_prints d s.1 in (IsPrintable.un x.0, x.1)
  unary_prints (e.plus d) s = let x = unary_prints d s.1 in (IsPrintable.un x.0, x.1)
  unary_prints (e.not d) s = let x = unary_prints d s.1 in (IsPrintable.un x.0, x.1)
  unary_prints (e.flip d) s = let x = unary_prints d s.1 in (IsPrintable.un x.0, x.1)
  unary_prints (e.deref d) s = let x = unary_prints d s.1 in (IsPrintable.pointee x.0, x.1)
  unary_prints (e.address {y = y}) s = (IsPrintable.address (name_prints y s.1.0), s.1.1)
  unary_prints (e.element_address {y = y} d) s = let x = expr_prints d s.1.1.1 in (IsPrintable.element_address (name_prints y s.1.0) x.0, x.1.1)
  unary_prints (e.primary d) s = primary_prints d s

  primary_prints : {ts : List Terminal} {a : Expr} {rest : List Terminal} → IsPrimary ts a rest → AreProper ts → IsPrintable a × AreProper rest
  primary_prints (e.number {n = z} {p = p}) s = (IsPrintable.number (number_prints p z s.0), s.1)
  primary_prints e.null s = (IsPrintable.null, s.1)
  primary_prints (e.name {x = x}) s = (IsPrintable.name (name_prints x s.0), s.1)
  primary_prints (e.element {x = x} d) s = let y = expr_prints d s.1.1 in (IsPrintable.element (name_prints x s.0) y.0, y.1.1)
  primary_prints (e.group d) s = let x = expr_prints d s.1 in (x.0, x.1.1)

-- ---- left sides

pub left_prints : {ts : List Terminal} {l : Left} {rest : List Terminal} → IsLeft ts l rest → AreProper ts → IsPrintableLeft l.node × AreProper rest
left_prints (g.name {x = x}) s = (IsPrintableLeft.name (name_prints x s.0), s.1)
left_prints (g.element {x = x} d) s = let y = expr_prints d s.1.1 in (IsPrintableLeft.element (name_prints x s.0) y.0, y.1.1)
left_prints (g.pointee d) s = let x = unary_prints d s.1 in (IsPrintableLeft.pointee x.0, x.1)
left_prints (g.group d) s = let x = left_prints d s.1 in (x.0, x.1.1)

-- ---- values

pub one_more : {A : Type 0} {P : A → Type 0} {a : A} {rest : List A} → P a → OneOrMore P rest → OneOrMore P (a ∷ rest)
one_more h (OneOrMore.last k) = OneOrMore.more h (OneOrMore.last k)
one_more h (OneOrMore.more k ks) = OneOrMore.more h (OneOrMore.more k ks)

arguments_print : {ts : List Terminal} {es : List Expr} {rest : List Terminal} → IsArguments ts es rest → AreProper ts → OneOrMore IsPrintable es × AreProper rest
arguments_print (g.last_argument d) s = let x = expr_prints d s in (OneOrMore.last x.0, x.1)
arguments_print (g.more_arguments d m) s =
    let x = expr_prints d s in
    let y = arguments_print m x.1.1 in
    (one_more x.0 y.0, y.1)

pub call_prints : {ts : List Terminal} {v : Value} {rest : List Terminal} → IsCall ts v rest → AreProper ts → IsPrintableCall v × AreProper rest
call_prints (g.bare_call {x = x}) s = (IsPrintableCall.bare_call (name_prints x s.0), s.1.1.1)
call_prints (g.full_call {x = x} d) s = let y = arguments_print d s.1.1 in (IsPrintableCall.call (name_prints x s.0) y.0, y.1.1)
call_prints (g.fetch_add d f) s =
    let x = expr_prints d s.1.1 in
    let y = expr_prints f x.1.1 in
    (IsPrintableCall.fetch_add x.0 y.0, y.1.1)
call_prints (g.compare_swap d f h) s =
    let x = expr_prints d s.1.1 in
    let y = expr_prints f x.1.1 in
    let z = expr_prints h y.1.1 in
    (IsPrintableCall.compare_swap x.0 y.0 z.0, z.1.1)

pub value_prints : {ts : List Terminal} {v : Value} {rest : List Terminal} → IsValue ts v rest → AreProper ts → IsPrintableValue v × AreProper rest
value_prints (g.plain d) s = let x = expr_prints d s in (IsPrintableValue.plain x.0, x.1)
value_prints (g.called d) s = let x = call_prints d s in (IsPrintableValue.called x.0, x.1)
