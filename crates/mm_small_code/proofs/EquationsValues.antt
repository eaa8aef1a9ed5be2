-- The code of an expression is that of the equations.
use Rattle.std.proofs.Common.{◌≡◌, ℕ, ◌+◌, Bool, true, List, [], ◌∷◌, ◌++◌, reverse, length, None, refl, sym, ◌∙◌, ap, subst, append_assoc, arith}
use Rattle.std.proofs.lemmas.List.{append-nil}
use Rattle.mm_goto.specs.declared.ident.At.{At}
use Rattle.mm_goto.specs.declared.ident.Ident.{Ident}
use Rattle.mm_goto.specs.declared.pure.Pure.{Pure}
use Rattle.mm_goto.specs.declared.pure.Binary.{Binary}
use Rattle.mm_goto.specs.declared.pure.Binary.TheVariants as binary
use Rattle.mm_goto.specs.declared.program.Cell.{Cell}
use Rattle.mm_goto.specs.declared.program.Target.TheVariants as target
use Rattle.mm_goto.specs.declared.program.Instr.TheVariants.{Load}
use Rattle.mm_goto.specs.Terms.{constant, the_local, combined}
use Rattle.mm_tree.specs.declared.expr.Expr.{Expr}
use Rattle.mm_flow.specs.declared.names.Joining.TheVariants.{Both}
use Rattle.mm_flow.specs.Flow.{Flow, Empty, Then, Ways, size, mark_of, lay}
use Rattle.mm_flow.specs.Scopes.{spot_of}
use Rattle.mm_flow.specs.Expressions.{Val, Scope, no_code, name_value, loaded, cell, the_spot, division_check, of_two, binary_value, joining, reading, expr_value}
use Rattle.mm_small_code.specs.reading.Flattening.{Placed, placed, Named, is_total, IsValue}
use Rattle.mm_small_code.proofs.EquationsLayers.{number_value, named_value, operation_value}
use Rattle.mm_small_code.proofs.EquationsNames.{same_local, same_cell, spots_from}

-- the value that the equations give is this, and its code stands in front of the rest
pub record ValueIs (v : Val) (p : Pure) (m : ℕ) (is rest : List Placed) : Type 0 where
  pub pure : v.pure ≡ p
  pub next : v.next ≡ m
  pub lengths : length is ≡ size v.flow + length rest
  pub code : (x : Ways) (c : ℕ) → is ≡ lay x v.flow c ++ rest
  pub marks : (y : Ident) (c : ℕ) → mark_of y v.flow c ≡ None

-- what stands for the names
abbrev pub scope_of : List Cell → List Named → Scope
scope_of cells locals = record { spots = spots_from 0 cells; names = reverse locals }

free : (p : Pure) (m : ℕ) (rest : List Placed) → ValueIs (no_code p m) p m rest rest
free p m rest = record { pure = refl; next = refl; lengths = omega arith; code = λ x c. refl; marks = λ y c. refl }

read_at : (at : At) (n c d : ℕ) (rest : List Placed) → c ≡ d → placed at (Load n (target.Cell d)) ∷ rest ≡ placed at (Load n (target.Cell c)) ∷ rest
read_at at n c d rest e = cc

read_is : (at : At) (s : Scope) (x : Ident) (n c : ℕ) (rest : List Placed) → (the_spot (spot_of s.spots x)).first ≡ c → ValueIs (loaded at (cell (the_spot (spot_of s.spots x)) n)) (the_local n) (n + 1) (placed at (Load n (target.Cell c)) ∷ rest) rest
read_is at s x n c rest e = record { pure = refl; next = refl; lengths = omega arith; code = λ w k. read_at at n _ c rest e; marks = λ y k. refl }

-- ---- operators

total_joins : (op : Binary) (b : Bool) → is_total op ≡ true → joining op b ≡ Both
total_joins binary.Div b h = cc
total_joins binary.Rem b h = cc
total_joins binary.Land b h = cc
total_joins binary.Lor b h = cc
total_joins _ b h = refl

unchecked : (op : Binary) (at : At) (e : Pure) → is_total op ≡ true → division_check op at e ≡ Empty
unchecked binary.Div at e h = cc
unchecked binary.Rem at e h = cc
unchecked binary.Land at e h = cc
unchecked binary.Lor at e h = cc
unchecked _ at e h = refl

pub both_marks : (a b : Flow) (y : Ident) (c : ℕ) → mark_of y a c ≡ None → mark_of y b (c + size a) ≡ None → mark_of y (Then a b) c ≡ None
both_marks a b y c h g = rw (h, g)

both_code : (x : Ways) (a b d : Flow) (c : ℕ) (is mid rest : List Placed) → d ≡ Empty → is ≡ lay x a c ++ mid → mid ≡ lay x b (c + size a) ++ rest → is ≡ lay x (Then a (Then b d)) c ++ rest
both_code x a b d c is mid rest e h g =
    h
    ∙ ap (λ is. lay x a c ++ is) (g ∙ ap (λ is. is ++ rest) (sym (append-nil (lay x b (c + size a)))))
    ∙ sym (append_assoc (lay x a c) (lay x b (c + size a) ++ []) rest)
    ∙ ap (λ (f : Flow). (lay x a c ++ (lay x b (c + size a) ++ lay x f (c + size a + size b))) ++ rest) (sym e)

both_is : (at : At) (op : Binary) (v : Val) (b : ℕ → Val) (p q : Pure) (m k : ℕ) (is mid rest : List Placed) → is_total op ≡ true → ValueIs v p m is mid → ValueIs (b v.next) q k mid rest → ValueIs (of_two at op v b) (combined op p q) k is rest
both_is at op v b p q m k is mid rest t d e =
    let none = unchecked op at (b v.next).pure t in
    record {
      pure = ap (λ p. combined op p (b v.next).pure) d.pure ∙ ap (combined op p) e.pure;
      next = e.next;
      lengths = omega (arith, d.lengths, e.lengths, ap size none);
      code = λ x c. both_code x v.flow (b v.next).flow (division_check op at (b v.next).pure) c is mid rest none (d.code x c) (e.code x (c + size v.flow));
      marks = λ y c. both_marks v.flow (Then (b v.next).flow (division_check op at (b v.next).pure)) y c (d.marks y c)
          (both_marks (b v.next).flow (division_check op at (b v.next).pure) y (c + size v.flow) (e.marks y (c + size v.flow)) (ap (λ f. mark_of y f (c + size v.flow + size (b v.next).flow)) none));
    }

-- ---- the whole

pub value_is : {cells : List Cell} {locals : List Named} {n m : ℕ} {e : Expr} {is rest : List Placed} {p : Pure} → IsValue cells locals n e is p m rest → ValueIs (expr_value e (scope_of cells locals) n) p m is rest
value_is {cells = cells} {locals = locals} {rest = rest} (IsValue.number {n = n} {at = at} {z = z}) =
    subst (λ v. ValueIs v (constant z) n rest rest) (sym (number_value at z (scope_of cells locals) n)) (free (constant z) n rest)
value_is {cells = cells} {locals = locals} {rest = rest} (IsValue.local {n = n} {l = l} {at = at} {x = x} h) =
    subst (λ v. ValueIs v (the_local l) n rest rest) (sym (named_value at x (scope_of cells locals) n ∙ ap (λ o. name_value at (scope_of cells locals) x o n) (same_local locals x ∙ h))) (free (the_local l) n rest)
value_is {cells = cells} {locals = locals} {rest = rest} (IsValue.global {n = n} {c = c} {at = at} {x = x} h g) =
    subst (λ v. ValueIs v (the_local n) (n + 1) (placed at (Load n (target.Cell c)) ∷ rest) rest) (sym (named_value at x (scope_of cells locals) n ∙ ap (λ o. name_value at (scope_of cells locals) x o n) (same_local locals x ∙ h)))
    (read_is at (scope_of cells locals) x n c rest (same_cell cells x c g))
value_is {cells = cells} {locals = locals} {is = is} {rest = rest} (IsValue.operation {n = n} {m = m} {k = k} {at = at} {op = op} {a = a} {b = b} {p = p} {q = q} {mid = mid} t d e) =
    let first = value_is d in
    let second = subst (λ m. ValueIs (expr_value b (scope_of cells locals) m) q k mid rest) (sym first.next) (value_is e) in
    subst (λ v. ValueIs v (combined op p q) k is rest)
    (sym (operation_value at op a b (scope_of cells locals) n ∙ ap (λ j. binary_value at op j (expr_value a (scope_of cells locals) n) (expr_value b (scope_of cells locals))) (total_joins op ((reading b).has_code (scope_of cells locals)) t)))
    (both_is at op (expr_value a (scope_of cells locals) n) (expr_value b (scope_of cells locals)) p q m k is mid rest t first second)
