-- The code of an expression. Each access of a shared variable is an instruction of its own, operands come from left to
-- right, and a check stands before what may fail.
use Rattle.std.specs.Prelude.{ℕ, ◌+◌, pos, Bool, true, false, is_none, ◌||◌, if◌then◌else◌, List, [], ◌∷◌, Option, Some, None}
use Rattle.mm_goto.specs.declared.ident.At.{At}
use Rattle.mm_goto.specs.declared.ident.Ident.{Ident}
use Rattle.mm_goto.specs.declared.pure.Pure.{Pure}
use Rattle.mm_goto.specs.declared.pure.Unary.{Unary}
use Rattle.mm_goto.specs.declared.pure.Unary.TheVariants.{Not}
use Rattle.mm_goto.specs.declared.pure.Binary.{Binary}
use Rattle.mm_goto.specs.declared.pure.Binary.TheVariants as binary
use Rattle.mm_goto.specs.declared.program.Target.{Target}
use Rattle.mm_goto.specs.declared.program.Target.TheVariants as target
use Rattle.mm_goto.specs.declared.program.Instr.TheVariants as instr
use Rattle.mm_goto.specs.Checks.{is_in_range, is_not_zero}
use Rattle.mm_goto.specs.Parts.{is_division}
use Rattle.mm_goto.specs.Terms.{constant, the_local, applied, combined}
use Rattle.mm_tree.specs.declared.expr.Expr.{Expr, fold-Expr}
use Rattle.mm_tree.specs.declared.expr.Node.TheOpen as node
use Rattle.mm_tree.specs.declared.expr.Node.TheOpen.{Node-F, Expr-F}
use Rattle.mm_flow.specs.declared.names.Joining.{Joining}
use Rattle.mm_flow.specs.declared.names.Joining.TheVariants.{Both, And, Or}
use Rattle.mm_flow.specs.declared.names.Named.{Named}
use Rattle.mm_flow.specs.declared.names.Spot.{Spot}
use Rattle.mm_flow.specs.Flow.{Flow, Empty, Do, Then, When, Either}
use Rattle.mm_flow.specs.Scopes.{local_of, spot_of}
use Rattle.mm_flow.specs.Words.{address, element, chosen}

-- the code of an expression, what its value is behind that code, and the next fresh local
pub record Val : Type 0 where
  pub flow : Flow
  pub pure : Pure
  pub next : ℕ

abbrev pub no_code : Pure → ℕ → Val
no_code e n = record { flow = Empty; pure = e; next = n }

abbrev pub zero_value : Pure
zero_value = constant (pos 0)

abbrev pub one_value : Pure
one_value = constant (pos 1)

-- what names stand for
pub record Scope : Type 0 where
  pub spots : List Spot
  pub names : List Named

-- how an expression is read where names stand for these, from a fresh local on, and whether it has code
pub record Reading : Type 0 where
  pub value : Scope → ℕ → Val
  pub has_code : Scope → Bool

-- ---- targets

-- the code before an access, what is accessed, and the next fresh local
pub record Aim : Type 0 where
  pub flow : Flow
  pub target : Target
  pub next : ℕ

-- a name that stands for nothing is refused before
abbrev pub nowhere : Spot
nowhere = record { name = []; first = 0; len = 0 }

abbrev pub the_spot : Option Spot → Spot
the_spot (Some s) = s
the_spot None = nowhere

abbrev pub cell : Spot → ℕ → Aim
cell s n = record { flow = Empty; target = target.Cell s.first; next = n }

-- a[i], of which this is i
abbrev pub indexed : At → Spot → Val → Aim
indexed at s i = record {
  flow = Then i.flow (Do at (instr.Assert (is_in_range i.pure s.len) 0));
  target = target.Elem s.first s.len i.pure;
  next = i.next;
}

-- *p, of which this is p
abbrev pub followed : At → Val → Aim
followed at p = record {
  flow = Then p.flow (Do at (instr.Assert (is_not_zero p.pure) 0));
  target = target.Deref p.pure;
  next = p.next;
}

-- reads the target into a fresh local
abbrev pub loaded : At → Aim → Val
loaded at a = record {
  flow = Then a.flow (Do at (instr.Load a.next a.target));
  pure = the_local a.next;
  next = a.next + 1;
}

-- &a[i], of which this is i
abbrev pub address_at : At → Spot → Val → Val
address_at at s i = record {
  flow = Then i.flow (Do at (instr.Assert (is_in_range i.pure s.len) 0));
  pure = element s.first s.len i.pure;
  next = i.next;
}

-- ---- operators

abbrev pub division_check : Binary → At → Pure → Flow
division_check op at e = if is_division op then Do at (instr.Assert (is_not_zero e) 0) else Empty

abbrev pub of_one : Unary → Val → Val
of_one op a = record { flow = a.flow; pure = applied op a.pure; next = a.next }

-- both operands are evaluated
abbrev pub of_two : At → Binary → Val → (ℕ → Val) → Val
of_two at op a b =
    let c = b a.next in
    record { flow = Then a.flow (Then c.flow (division_check op at c.pure)); pure = combined op a.pure c.pure; next = c.next }

-- the second operand only where the test on the first is not 0; the value is the start where it is not
abbrev pub short : At → Pure → Pure → Val → (ℕ → Val) → Val
short at start test a b =
    let t = a.next in
    let c = b (t + 1) in
    record {
      flow = Then a.flow (Then (Do at (instr.Set t start)) (When at test (Then c.flow (Do at (instr.Set t (is_not_zero c.pure))))));
      pure = the_local t;
      next = c.next;
    }

-- how the operands are joined, by whether the second has code
abbrev pub joining : Binary → Bool → Joining
joining binary.Land true = And
joining binary.Lor true = Or
joining op b = Both

abbrev pub binary_value : At → Binary → Joining → Val → (ℕ → Val) → Val
binary_value at op And a b = short at zero_value a.pure a b
binary_value at op Or a b = short at one_value (applied Not a.pure) a b
binary_value at op Both a b = of_two at op a b

-- c ? a : b, where no arm has code
abbrev pub of_three : Val → (ℕ → Val) → (ℕ → Val) → Val
of_three c a b =
    let v = a c.next in
    let w = b v.next in
    record { flow = Then c.flow (Then v.flow w.flow); pure = chosen c.pure v.pure w.pure; next = w.next }

-- c ? a : b else
abbrev pub one_of_two : At → Val → (ℕ → Val) → (ℕ → Val) → Val
one_of_two at c a b =
    let t = c.next in
    let v = a (t + 1) in
    let w = b v.next in
    record {
      flow = Then c.flow (Either at c.pure (Then v.flow (Do at (instr.Set t v.pure))) (Then w.flow (Do at (instr.Set t w.pure))));
      pure = the_local t;
      next = w.next;
    }

abbrev pub cond_value : At → Bool → Val → (ℕ → Val) → (ℕ → Val) → Val
cond_value at true c a b = one_of_two at c a b
cond_value at false c a b = of_three c a b

-- ---- the whole

abbrev pub name_value : At → Scope → Ident → Option ℕ → ℕ → Val
name_value at s x (Some l) n = no_code (the_local l) n
name_value at s x None n = loaded at (cell (the_spot (spot_of s.spots x)) n)

abbrev pub node_value : Node-F (At → Reading) Reading → At → Scope → ℕ → Val
node_value (node.Number z) at s n = no_code (constant z) n
node_value node.Null at s n = no_code zero_value n
node_value (node.Name x) at s n = name_value at s x (local_of s.names x) n
node_value (node.Index x e) at s n = loaded at (indexed at (the_spot (spot_of s.spots x)) (e.value s n))
node_value (node.Deref e) at s n = loaded at (followed at (e.value s n))
node_value (node.AddrName w) at s n = no_code (address (the_spot (spot_of s.spots w.name)).first) n
node_value (node.AddrIndex w e) at s n = address_at at (the_spot (spot_of s.spots w.name)) (e.value s n)
node_value (node.Un op a) at s n = of_one op (a.value s n)
node_value (node.Bin op a b) at s n = binary_value at op (joining op (b.has_code s)) (a.value s n) (b.value s)
node_value (node.Cond c a b) at s n = cond_value at (a.has_code s || b.has_code s) (c.value s n) (a.value s) (b.value s)

-- its code is not empty
abbrev pub node_has_code : Node-F (At → Reading) Reading → Scope → Bool
node_has_code (node.Number z) s = false
node_has_code node.Null s = false
node_has_code (node.Name x) s = is_none (local_of s.names x)
node_has_code (node.Index x e) s = true
node_has_code (node.Deref e) s = true
node_has_code (node.AddrName w) s = false
node_has_code (node.AddrIndex w e) s = true
node_has_code (node.Un op a) s = a.has_code s
node_has_code (node.Bin op a b) s = a.has_code s || (b.has_code s || is_division op)
node_has_code (node.Cond c a b) s = c.has_code s || (a.has_code s || b.has_code s)

abbrev pub node_step : Node-F (At → Reading) Reading → At → Reading
node_step layer at = record { value = node_value layer at; has_code = node_has_code layer }

abbrev pub expr_step : Expr-F (At → Reading) Reading → Reading
expr_step layer = layer.node layer.at

unfoldable pub reading : Expr → Reading
reading e = fold-Expr (At → Reading) Reading node_step expr_step e

abbrev pub expr_value : Expr → Scope → ℕ → Val
expr_value e s n = (reading e).value s n

-- the code of expressions in order, and their values
pub record Vals : Type 0 where
  pub flow : Flow
  pub pures : List Pure
  pub next : ℕ

abbrev pub values : Scope → List Expr → ℕ → Vals
values s [] n = record { flow = Empty; pures = []; next = n }
values s (e ∷ es) n =
    let v = expr_value e s n in
    let rest = values s es v.next in
    record { flow = Then v.flow rest.flow; pures = v.pure ∷ rest.pures; next = rest.next }
