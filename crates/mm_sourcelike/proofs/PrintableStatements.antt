-- What the grammar has as a statement is printable.
use Rattle.std.proofs.Common.{arith, ◌≡◌, refl, ℕ, Bool, true, false, List, [], ◌∷◌, Option, Some, None}
use Rattle.mm_goto.specs.declared.ident.At.{At}
use Rattle.mm_goto.specs.declared.pure.Binary.{Binary}
use Rattle.mm_goto.specs.declared.pure.Binary.TheVariants as binary
use Rattle.mm_tree.specs.declared.expr.Expr.{Expr}
use Rattle.mm_tree.specs.declared.expr.Word.{Word}
use Rattle.mm_tree.specs.declared.stmt.Left.{Left}
use Rattle.mm_tree.specs.declared.stmt.Local.{Local}
use Rattle.mm_tree.specs.declared.stmt.Value.{Value}
use Rattle.mm_tree.specs.declared.stmt.Stmt.{Stmt}
use Rattle.mm_tree.specs.declared.stmt.StmtNode.{StmtNode}
use Rattle.mm_tree.specs.declared.stmt.StmtNode.TheVariants as stmt
use Rattle.mm_tree.specs.Trees.{statement}
use Rattle.mm_parse_expr.specs.declared.terminal.Terminal.{Terminal}
use Rattle.mm_grammar.specs.StatementGrammar as g
use Rattle.mm_grammar.specs.StatementGrammar.{IsAssign, IsNull, IsAction, AreNames, IsStar, IsLocal, AreLocals, IsDeclaration, NoElse, IsStep, IsFirst, IsCondition, IsGiven, IsStmt, IsStmtNode, IsBody, one}
use Rattle.mm_print.specs.Printable.{OneOrMore, IsPrintable, IsPrintableName, IsPrintableNumber, IsPrintableLeft, IsPrintableGiven, IsPrintableLocal, IsPrintableWord, IsPrintableDeclaration, IsPrintableAssignment, IsPrintableStep, IsPrintableFirst, IsPrintableAction, IsPrintableStmt, IsPrintableBody, updates}
use Rattle.mm_sourcelike.proofs.PrintableExpressions.{AreProper, name_prints, expr_prints, left_prints, call_prints, value_prints, one_more}

one_prints : (at : At) → IsPrintable (one at)
one_prints at = IsPrintable.number (IsPrintableNumber.number (omega arith))

-- ---- assignments

update_prints : (l : Left) (op : Binary) (a : Expr) → IsPrintableLeft l.node → updates op ≡ true → IsPrintable a → IsPrintableAssignment (stmt.Update l op a)
update_prints l op a left by is = IsPrintableAssignment.update left by is

assign_prints : {ts : List Terminal} {n : StmtNode} {rest : List Terminal} → IsAssign ts n rest → AreProper ts → IsPrintableAssignment n × AreProper rest
assign_prints (g.assign d f) s =
    let x = left_prints d s in
    let y = value_prints f x.1.1 in
    (IsPrintableAssignment.assign x.0 y.0, y.1)
assign_prints (g.update {l = l} {op = op} {e = e} d f) s =
    let x = left_prints d s in
    let y = expr_prints f x.1.1 in
    (update_prints l op e x.0 x.1.0 y.0, y.1)
assign_prints (g.increment {l = l} {p = p} d) s = let x = left_prints d s in (update_prints l binary.Add (one p) x.0 refl (one_prints p), x.1.1)
assign_prints (g.decrement {l = l} {p = p} d) s = let x = left_prints d s in (update_prints l binary.Sub (one p) x.0 refl (one_prints p), x.1.1)
assign_prints (g.increment_before {l = l} {p = p} d) s = let x = left_prints d s.1 in (update_prints l binary.Add (one p) x.0 refl (one_prints p), x.1)
assign_prints (g.decrement_before {l = l} {p = p} d) s = let x = left_prints d s.1 in (update_prints l binary.Sub (one p) x.0 refl (one_prints p), x.1)

-- ---- actions

null_prints : {ts rest : List Terminal} → IsNull ts rest → AreProper ts → AreProper rest
null_prints g.null_word s = s.1
null_prints g.null_number s = s.1

action_prints : {ts : List Terminal} {n : StmtNode} {rest : List Terminal} → IsAction ts n rest → AreProper ts → IsPrintableAction n × AreProper rest
action_prints (g.effect d) s = let x = call_prints d s in (IsPrintableAction.effect x.0, x.1)
action_prints (g.assert d) s = let x = expr_prints d s.1.1 in (IsPrintableAction.assert x.0, x.1.1)
action_prints (g.named_assert d) s = let x = expr_prints d s.1.1 in (IsPrintableAction.named_assert x.0 x.1.1.0, x.1.1.1.1)
action_prints (g.assume d) s = let x = expr_prints d s.1.1 in (IsPrintableAction.assume x.0, x.1.1)
action_prints g.fence s = (IsPrintableAction.fence, s.1.1.1)
action_prints (g.lock {w = w}) s = (IsPrintableAction.lock (name_prints w s.1.1.1.0), s.1.1.1.1.1)
action_prints (g.unlock {w = w}) s = (IsPrintableAction.unlock (name_prints w s.1.1.1.0), s.1.1.1.1.1)
action_prints (g.start {w = w} {b = b} d f) s =
    let x = null_prints d s.1.1.1.1.1 in
    let y = null_prints f x.1.1.1 in
    (IsPrintableAction.start (name_prints w s.1.1.1.0) (name_prints b x.1.0), y.1)
action_prints (g.join {z = z} d) s = let x = null_prints d s.1.1.1.1 in (IsPrintableAction.join (name_prints z s.1.1.0), x.1)
action_prints g.atom_begin s = (IsPrintableAction.atom_begin, s.1.1.1)
action_prints g.atom_end s = (IsPrintableAction.atom_end, s.1.1.1)

-- ---- declarations

pub names_print : {ts : List Terminal} {ws : List Word} {rest : List Terminal} → AreNames ts ws rest → AreProper ts → OneOrMore IsPrintableWord ws × AreProper rest
names_print (g.last_name {x = x}) s = (OneOrMore.last (name_prints x s.0), s.1)
names_print (g.more_names {x = x} m) s = let y = names_print m s.1.1 in (one_more (name_prints x s.0) y.0, y.1)

pub star_prints : {ts : List Terminal} {star : Bool} {rest : List Terminal} → IsStar ts star rest → AreProper ts → AreProper rest
star_prints g.no_star s = s
star_prints g.star s = s.1

local_prints : {ts : List Terminal} {l : Local} {rest : List Terminal} → IsLocal ts l rest → AreProper ts → IsPrintableLocal l × AreProper rest
local_prints (g.bare_local {x = x} d) s = let y = star_prints d s in (record { name = name_prints x y.0; value = IsPrintableGiven.none }, y.1)
local_prints (g.set_local {x = x} d f) s =
    let y = star_prints d s in
    let z = value_prints f y.1.1 in
    (record { name = name_prints x y.0; value = IsPrintableGiven.some z.0 }, z.1)

locals_print : {ts : List Terminal} {ls : List Local} {rest : List Terminal} → AreLocals ts ls rest → AreProper ts → OneOrMore IsPrintableLocal ls × AreProper rest
locals_print (g.last_local d) s = let x = local_prints d s in (OneOrMore.last x.0, x.1)
locals_print (g.more_locals d m) s =
    let x = local_prints d s in
    let y = locals_print m x.1.1 in
    (one_more x.0 y.0, y.1)

declaration_prints : {ts : List Terminal} {n : StmtNode} {rest : List Terminal} → IsDeclaration ts n rest → AreProper ts → IsPrintableDeclaration n × AreProper rest
declaration_prints (g.ints d) s = let x = locals_print d s.1 in (IsPrintableDeclaration.ints x.0, x.1.1)
declaration_prints (g.volatile_ints d) s = let x = locals_print d s.1.1 in (IsPrintableDeclaration.ints x.0, x.1.1)
declaration_prints (g.threads d) s = let x = names_print d s.1 in (IsPrintableDeclaration.threads x.0, x.1.1)

-- ---- parts of statements

step_prints : {ts : List Terminal} {i : Option Stmt} {rest : List Terminal} → IsStep ts i rest → AreProper ts → IsPrintableStep i × AreProper rest
step_prints g.no_step s = (IsPrintableStep.no_step, s)
step_prints (g.step d) s = let x = assign_prints d s in (IsPrintableStep.step x.0, x.1)

first_prints : {ts : List Terminal} {i : Option Stmt} {rest : List Terminal} → IsFirst ts i rest → AreProper ts → IsPrintableFirst i × AreProper rest
first_prints (g.first_declaration d) s = let x = declaration_prints d s in (IsPrintableFirst.declaration x.0, x.1)
first_prints (g.first_step d) s = let x = step_prints d s in (IsPrintableFirst.first_step x.0, x.1.1)

condition_prints : {ts : List Terminal} {a : Expr} {rest : List Terminal} → IsCondition ts a rest → AreProper ts → IsPrintable a × AreProper rest
condition_prints (g.no_condition {p = p}) s = (one_prints p, s.1)
condition_prints (g.condition d) s = let x = expr_prints d s in (x.0, x.1.1)

given_prints : {ts : List Terminal} {v : Option Value} {rest : List Terminal} → IsGiven ts v rest → AreProper ts → IsPrintableGiven v × AreProper rest
given_prints g.nothing s = (IsPrintableGiven.none, s.1)
given_prints (g.given d) s = let x = value_prints d s in (IsPrintableGiven.some x.0, x.1.1)

-- ---- statements

-- a statement in front of what rests: no `else` stands behind it where it would belong to an `if` at its end
record StmtPrints (s : Stmt) (rest : List Terminal) : Type 0 where
  open_if : Bool
  is : IsPrintableStmt s open_if
  ends : open_if ≡ true → NoElse rest
  proper : AreProper rest

record NodePrints (n : StmtNode) (rest : List Terminal) : Type 0 where
  open_if : Bool
  is : (at : At) → IsPrintableStmt (statement at n) open_if
  ends : open_if ≡ true → NoElse rest
  proper : AreProper rest

never : false ≡ true → ⊥
never e = cc

closed : {n : StmtNode} {rest : List Terminal} → ((at : At) → IsPrintableStmt (statement at n) false) → AreProper rest → NodePrints n rest
closed is proper = record { open_if = false; is = is; ends = λ e. absurd (never e); proper = proper }

-- in front of an `else` it has none to wait for
before_else : {s : Stmt} (open_if : Bool) → IsPrintableStmt s open_if → (open_if ≡ true → ⊥) → IsPrintableStmt s false
before_else true is none = absurd (none refl)
before_else false is none = is

mutual
  stmt_prints : {ts : List Terminal} {s : Stmt} {rest : List Terminal} → IsStmt ts s rest → AreProper ts → StmtPrints s rest
  stmt_prints (g.at_first {t = t} d) p = let x = node_prints d p in record { open_if = x.open_if; is = x.is t.at; ends = x.ends; proper = x.proper }

  node_prints : {ts : List Terminal} {n : StmtNode} {rest : List Terminal} → IsStmtNode ts n rest → AreProper ts → NodePrints n rest
  node_prints g.empty p = closed (λ at. IsPrintableStmt.empty) p.1
  node_prints (g.block d) p = let x = body_prints d p.1 in closed (λ at. IsPrintableStmt.block x.0) x.1
  node_prints (g.assignment d) p = let x = assign_prints d p in closed (λ at. IsPrintableStmt.assignment x.0) x.1.1
  node_prints (g.action d) p = let x = action_prints d p in closed (λ at. IsPrintableStmt.action x.0) x.1.1
  node_prints (g.when d f none) p =
      let x = expr_prints d p.1.1 in
      let y = stmt_prints f x.1.1 in
      record { open_if = true; is = λ at. IsPrintableStmt.when x.0 y.is; ends = λ e. none; proper = y.proper }
  node_prints (g.choose d f h) p =
      let x = expr_prints d p.1.1 in
      let y = stmt_prints f x.1.1 in
      let z = stmt_prints h y.proper.1 in
      record { open_if = z.open_if; is = λ at. IsPrintableStmt.choose x.0 (before_else y.open_if y.is y.ends) z.is; ends = z.ends; proper = z.proper }
  node_prints (g.while d f) p =
      let x = expr_prints d p.1.1 in
      let y = stmt_prints f x.1.1 in
      record { open_if = y.open_if; is = λ at. IsPrintableStmt.while x.0 y.is; ends = y.ends; proper = y.proper }
  node_prints (g.do_while d f) p =
      let y = stmt_prints d p.1 in
      let x = expr_prints f y.proper.1.1 in
      closed (λ at. IsPrintableStmt.do_while x.0 y.is) x.1.1.1
  node_prints (g.for d c h f) p =
      let x = first_prints d p.1.1 in
      let y = condition_prints c x.1 in
      let z = step_prints h y.1 in
      let w = stmt_prints f z.1.1 in
      record { open_if = w.open_if; is = λ at. IsPrintableStmt.for x.0 y.0 z.0 w.is; ends = w.ends; proper = w.proper }
  node_prints g.break p = closed (λ at. IsPrintableStmt.break) p.1.1
  node_prints g.continue p = closed (λ at. IsPrintableStmt.continue) p.1.1
  node_prints (g.return d) p = let x = given_prints d p.1 in closed (λ at. IsPrintableStmt.return x.0) x.1
  node_prints (g.goto {y = y}) p = closed (λ at. IsPrintableStmt.goto (name_prints y p.1.0)) p.1.1.1
  node_prints (g.label {x = x} d) p =
      let y = stmt_prints d p.1.1 in
      record { open_if = y.open_if; is = λ at. IsPrintableStmt.label (name_prints x p.0) y.is; ends = y.ends; proper = y.proper }

  pub body_prints : {ts : List Terminal} {ss : List Stmt} {rest : List Terminal} → IsBody ts ss rest → AreProper ts → IsPrintableBody ss × AreProper rest
  body_prints g.end p = (IsPrintableBody.none, p.1)
  body_prints (g.declaration d f) p =
      let x = declaration_prints d p in
      let y = body_prints f x.1 in
      (IsPrintableBody.declaration x.0 y.0, y.1)
  body_prints (g.further d f) p =
      let x = stmt_prints d p in
      let y = body_prints f x.proper in
      (IsPrintableBody.further x.is y.0, y.1)
