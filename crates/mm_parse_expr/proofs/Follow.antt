-- What may stand behind an expression, so that it does not go on.
use Rattle.std.proofs.Common.{◌≡◌, ℕ, suc, ◌≤◌, ◌==◌, Bool, true, false, if◌then◌else◌, Option, Some, None, refl, arith}
use Rattle.std.proofs.lemmas.Bool.Decides.{nat_tests}
use Rattle.mm_goto.specs.declared.pure.Binary.{Binary}
use Rattle.mm_reading.specs.Parsing.{pure}
use Rattle.mm_tree.specs.declared.expr.Expr.{Expr}
use Rattle.mm_parse_expr.specs.declared.symbol.Symbol.{Symbol}
use Rattle.mm_parse_expr.specs.declared.symbol.Symbol.TheVariants.{Operator, Question, OpenBracket}
use Rattle.mm_parse_expr.specs.declared.terminal.Terminal.{Terminal}
use Rattle.mm_parse_expr.specs.Grammar.{looseness}
use Rattle.mm_parse_expr.specs.reading.ExprReading.{Reader, Lower, index_by, index_at, joins, more_by, more_at, choice_by, choice_at}

-- any token, or the end
abbrev pub Any : Option Terminal → Type 0
Any h = Unit {0}

abbrev pub stops_by : ℕ → Symbol → Type 0
stops_by n OpenBracket = ⊥
stops_by n (Operator op) = n ≤ looseness op
stops_by n _ = Unit {0}

-- no expression of level n goes on with it
abbrev pub Stops : ℕ → Option Terminal → Type 0
Stops n None = Unit {0}
Stops n (Some t) = stops_by n t.symbol

abbrev pub ends_by : Symbol → Type 0
ends_by OpenBracket = ⊥
ends_by (Operator op) = ⊥
ends_by Question = ⊥
ends_by _ = Unit {0}

-- no expression goes on with it
abbrev pub Ends : Option Terminal → Type 0
Ends None = Unit {0}
Ends (Some t) = ends_by t.symbol

pub stops_less : (n : ℕ) (h : Option Terminal) → Stops (suc n) h → Stops n h
stops_less n None c = tt
stops_less n (Some t) c = by t.symbol c
  where
    by : (s : Symbol) → stops_by (suc n) s → stops_by n s
    by OpenBracket c = c
    by (Operator op) c = omega arith
    by _ c = tt

pub ends_stop : (n : ℕ) (h : Option Terminal) → Ends h → Stops n h
ends_stop n None c = tt
ends_stop n (Some t) c = by t.symbol c
  where
    by : (s : Symbol) → ends_by s → stops_by n s
    by OpenBracket c = c
    by (Operator op) c = absurd c
    by Question c = tt
    by _ c = tt

-- an operator of looseness n does not go on with an expression of level n
pub operator_stops : (n : ℕ) (op : Binary) → looseness op ≡ n → n ≤ looseness op
operator_stops n op e = omega arith

pub joins_none : (n : ℕ) (s : Symbol) → stops_by (suc n) s → joins n s ≡ None
joins_none n OpenBracket c = refl
joins_none n (Operator op) c = by_test (looseness op == n) refl
  where
    above : (k : ℕ) → suc n ≤ k → (k == n) ≡ true → ⊥
    above k l e = let same : k ≡ n = grind (arith, nat_tests) in omega arith

    by_test : (b : Bool) → (looseness op == n) ≡ b → (if b then Some op else None) ≡ None
    by_test true e = absurd (above (looseness op) c e)
    by_test false e = refl
joins_none n _ c = refl

pub joins_some : (n : ℕ) (op : Binary) → looseness op ≡ n → joins n (Operator op) ≡ Some op
joins_some n op e = by_test (looseness op == n) (same (looseness op) e)
  where
    same : (k : ℕ) → k ≡ n → (k == n) ≡ true
    same k e = grind (arith, nat_tests)

    by_test : (b : Bool) → b ≡ true → (if b then Some op else None) ≡ Some op
    by_test true h = refl
    by_test false h = cc

-- where the readers end

pub index_ends : (r : Lower) (h : Option Terminal) → Stops 0 h → index_at r h ≡ pure None
index_ends r None c = refl
index_ends r (Some t) c = by t.symbol c
  where
    by : (s : Symbol) → stops_by 0 s → index_by r s ≡ pure None
    by OpenBracket c = absurd c
    by _ c = refl

pub more_ends : (r : Lower) (n : ℕ) (operand : Reader Expr) (a : Expr) (h : Option Terminal) → Stops (suc n) h → more_at r n operand a h ≡ pure a
more_ends r n operand a None c = refl
more_ends r n operand a (Some t) c = by (joins n t.symbol) (joins_none n t.symbol c)
  where
    by : (o : Option Binary) → o ≡ None → more_by r n operand a o ≡ pure a
    by None e = refl
    by (Some op) e = cc

pub choice_ends : (r : Lower) (e : Expr) (h : Option Terminal) → Ends h → choice_at r e h ≡ pure e
choice_ends r e None c = refl
choice_ends r e (Some t) c = by t.symbol c
  where
    by : (s : Symbol) → ends_by s → choice_by r e s ≡ pure e
    by Question c = absurd c
    by _ c = refl
