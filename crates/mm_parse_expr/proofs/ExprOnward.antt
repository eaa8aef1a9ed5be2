-- What the readers do where more terminals stand behind those that they read.
use Rattle.std.proofs.Common.{ℕ, zero, suc, List, [], ◌∷◌, Option, Some, None, refl, inl, inr}
use Rattle.mm_goto.specs.declared.ident.At.{At}
use Rattle.mm_goto.specs.declared.pure.Binary.{Binary}
use Rattle.mm_goto.specs.declared.pure.Binary.TheVariants as bin
use Rattle.mm_goto.specs.declared.pure.Unary.{Unary}
use Rattle.mm_tree.specs.declared.expr.Expr.{Expr}
use Rattle.mm_reading.specs.Parsing.{Parsed, ◌>>=◌, ◌>>◌, pure, fail, skip}
use Rattle.mm_reading.proofs.Onwards.{Onward, Extends, onward_pure, onward_fail, onward_skip, onward_bind, onward_peek, onward_token, takes_more}
use Rattle.mm_parse_expr.specs.declared.symbol.Symbol.{Symbol}
use Rattle.mm_parse_expr.specs.declared.symbol.Symbol.TheVariants.{Name, Number, Null, Operator, Not, Flip, Question, Open, OpenBracket}
use Rattle.mm_parse_expr.specs.declared.terminal.Terminal.{Terminal}
use Rattle.mm_parse_expr.specs.Grammar.{choice_tree}
use Rattle.mm_parse_expr.specs.reading.ExprReading.{Reader, Lower, close, close_bracket, colon, name_word, index_by, index_at, index, primary_by, signed, pointed, address, unary_by, unary_at, unary, joins, more_by, more_at, more_of, more, level, choice_by, choice_at, choice, expr, lower}

pub record AllOnward (r : Lower) : Type 0 where
  pub expr : Onward r.expr
  pub more : (n : ℕ) (a : Expr) → Onward (r.more n a)
  pub unary : Onward r.unary

pub close_onward : Onward close
unfolding close
close_onward = onward_token _

pub close_bracket_onward : Onward close_bracket
unfolding close_bracket
close_bracket_onward = onward_token _

colon_onward : Onward colon
unfolding colon
colon_onward = onward_token _

pub name_onward : Onward name_word
unfolding name_word
name_onward = onward_token _

-- a token, and then p
pub then_onward : {A : Type 0} (p : Reader A) → Onward p → Onward (skip >> p)
then_onward p h = onward_bind skip (λ _. p) onward_skip (λ _. h)

module _ (r : Lower) (O : AllOnward r) where
  in_brackets : Onward (r.expr >>= λ e. close_bracket >> pure (Some e))
  in_brackets = onward_bind r.expr _ O.expr (λ e. onward_bind close_bracket _ close_bracket_onward (λ u. onward_pure (Some e)))

  index_by_onward : (s : Symbol) → Onward (index_by r s)
  index_by_onward OpenBracket = then_onward _ in_brackets
  index_by_onward _ = onward_pure None

  index_at_onward : (h : Option Terminal) → Onward (index_at r h)
  index_at_onward None = onward_pure None
  index_at_onward (Some t) = index_by_onward t.symbol

  index_ends : (s : Symbol) (t : Terminal) (tail : List Terminal) → Extends (t ∷ tail) (Parsed None []) (index_by r s (t ∷ tail))
  unfolding pure
  index_ends OpenBracket t tail = inr (takes_more _ t tail in_brackets)
  index_ends _ t tail = inl refl

  pub index_onward : Onward (index r)
  unfolding index pure
  index_onward = onward_peek (index_at r) index_at_onward (λ t tail. index_ends t.symbol t tail)

  primary_by_onward : (s : Symbol) (t : Terminal) → Onward (primary_by r s t)
  primary_by_onward (Number n) t = then_onward _ (onward_pure _)
  primary_by_onward Null t = then_onward _ (onward_pure _)
  primary_by_onward Name t = then_onward _ (onward_bind (index r) _ index_onward (λ i. onward_pure _))
  primary_by_onward Open t = then_onward _ (onward_bind r.expr _ O.expr (λ e. onward_bind close _ close_onward (λ u. onward_pure e)))
  primary_by_onward _ t = onward_fail

  signed_onward : (p : At) (op : Unary) → Onward (signed r p op)
  unfolding signed
  signed_onward p op = onward_bind r.unary _ O.unary (λ e. onward_pure _)

  pointed_onward : (p : At) → Onward (pointed r p)
  unfolding pointed
  pointed_onward p = onward_bind r.unary _ O.unary (λ e. onward_pure _)

  address_onward : (p : At) → Onward (address r p)
  unfolding address
  address_onward p = onward_bind name_word _ name_onward (λ w. onward_bind (index r) _ index_onward (λ i. onward_pure _))

  unary_by_onward : (s : Symbol) (t : Terminal) → Onward (unary_by r s t)
  unary_by_onward (Operator bin.Sub) t = then_onward _ (signed_onward _ _)
  unary_by_onward (Operator bin.Add) t = then_onward _ (signed_onward _ _)
  unary_by_onward Not t = then_onward _ (signed_onward _ _)
  unary_by_onward Flip t = then_onward _ (signed_onward _ _)
  unary_by_onward (Operator bin.Mul) t = then_onward _ (pointed_onward _)
  unary_by_onward (Operator bin.And) t = then_onward _ (address_onward _)
  unary_by_onward s t = primary_by_onward s t

  unary_at_onward : (h : Option Terminal) → Onward (unary_at r h)
  unary_at_onward None = onward_fail
  unary_at_onward (Some t) = unary_by_onward t.symbol t

  unary_onward : Onward (unary r)
  unfolding unary fail
  unary_onward = onward_peek (unary_at r) unary_at_onward (λ t tail. tt)

  more_of_onward : (n : ℕ) (operand : Reader Expr) → Onward operand → (a : Expr) → Onward (more_of r n operand a)
  unfolding more_of pure
  more_of_onward n operand h a = onward_peek (more_at r n operand a) at (λ t tail. ends (joins n t.symbol) t tail)
    where
      by : (o : Option Binary) → Onward (more_by r n operand a o)
      by (Some op) = then_onward _ (onward_bind operand _ h (λ b. O.more n _))
      by None = onward_pure a

      at : (h : Option Terminal) → Onward (more_at r n operand a h)
      at None = onward_pure a
      at (Some t) = by (joins n t.symbol)

      ends : (o : Option Binary) (t : Terminal) (tail : List Terminal) → Extends (t ∷ tail) (Parsed a []) (more_by r n operand a o (t ∷ tail))
      ends (Some op) t tail = inr (takes_more _ t tail (onward_bind operand _ h (λ b. O.more n _)))
      ends None t tail = inl refl

  level_onward : (n : ℕ) → Onward (level r n)
  unfolding level
  level_onward zero = unary_onward
  level_onward (suc n) = onward_bind (level r n) _ (level_onward n) (λ a. more_of_onward n (level r n) (level_onward n) a)

  more_onward : (n : ℕ) (a : Expr) → Onward (more r n a)
  unfolding more
  more_onward n a = more_of_onward n (level r n) (level_onward n) a

  arms_onward : (c : Expr) → Onward (r.expr >>= λ a. colon >> (r.expr >>= λ b. pure (choice_tree c a b)))
  arms_onward c = onward_bind r.expr _ O.expr (λ a. onward_bind colon _ colon_onward (λ u. onward_bind r.expr _ O.expr (λ b. onward_pure _)))

  choice_onward : (c : Expr) → Onward (choice r c)
  unfolding choice pure
  choice_onward c = onward_peek (choice_at r c) at (λ t tail. ends t.symbol t tail)
    where
      by : (s : Symbol) → Onward (choice_by r c s)
      by Question = then_onward _ (arms_onward c)
      by _ = onward_pure c

      at : (h : Option Terminal) → Onward (choice_at r c h)
      at None = onward_pure c
      at (Some t) = by t.symbol

      ends : (s : Symbol) (t : Terminal) (tail : List Terminal) → Extends (t ∷ tail) (Parsed c []) (choice_by r c s (t ∷ tail))
      ends Question t tail = inr (takes_more _ t tail (arms_onward c))
      ends _ t tail = inl refl

  expr_onward : Onward (expr r)
  unfolding expr
  expr_onward = onward_bind (level r 10) _ (level_onward 10) choice_onward

pub all_onward : (n : ℕ) → AllOnward (lower n)
unfolding lower
all_onward zero = record { expr = onward_fail; more = λ n a. onward_pure a; unary = onward_fail }
all_onward (suc n) =
    let O = all_onward n in
    record { expr = expr_onward (lower n) O; more = more_onward (lower n) O; unary = unary_onward (lower n) O }
