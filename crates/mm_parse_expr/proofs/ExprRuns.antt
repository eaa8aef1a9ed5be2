-- The readers read the longest run of terminals that begins an expression, or a unary one.
use Rattle.std.proofs.Common.{◌≡◌, ℕ, zero, suc, ◌+◌, ◌<◌, List, [], length, subst, arith}
use Rattle.mm_tree.specs.declared.expr.Expr.{Expr}
use Rattle.mm_reading.specs.Parsing.{Outcome, Parsed, Fault}
use Rattle.mm_reading.specs.Runs.{IsRead, IsFirstFault}
use Rattle.mm_reading.proofs.Sounding.{SoundAt}
use Rattle.mm_reading.proofs.LongestRuns.{parsed_is_read, fault_is_first}
use Rattle.mm_parse_expr.specs.declared.terminal.Terminal.{Terminal}
use Rattle.mm_parse_expr.specs.Grammar.{IsExpr, IsExpression, IsUnaryExpression}
use Rattle.mm_parse_expr.specs.reading.ExprReading.{lower}
use Rattle.mm_parse_expr.proofs.Follow.{Any, Ends}
use Rattle.mm_parse_expr.proofs.ExprSound.{all_sound}
use Rattle.mm_parse_expr.proofs.ExprComplete.{expr_complete, unary_complete}
use Rattle.mm_parse_expr.proofs.ExprOnward.{all_onward}
use Rattle.mm_parse_expr.proofs.ExprReading.{at_expr, at_unary, all_read}

expr_sound : (m : ℕ) (ts : List Terminal) (e : Expr) → at_expr m ts ≡ Parsed e [] → IsExpression ts e
expr_sound m ts e same = subst (λ (o : Outcome Terminal Expr). SoundAt (λ e rest. IsExpr ts e rest) o) same ((all_sound m).expr ts)

pub expr_found : (ts : List Terminal) (e : Expr) → IsExpression ts e → (m : ℕ) → length ts < m → at_expr m ts ≡ Parsed e []
expr_found ts e d m l = expr_complete d m tt l

pub unary_found : (ts : List Terminal) (e : Expr) → IsUnaryExpression ts e → (m : ℕ) → length ts < m → at_unary m ts ≡ Parsed e []
unfolding lower
unary_found ts e d zero l = absurd (omega arith)
unary_found ts e d (suc m) l = unary_complete d m tt l

pub expr_read : (n : ℕ) (ts : List Terminal) (e : Expr) (rest : List Terminal) → length ts < n → (lower n).expr ts ≡ Parsed e rest → IsRead IsExpression ts e rest
expr_read n ts e rest l same = parsed_is_read IsExpression Any Ends at_expr tt expr_sound expr_found n ts e rest ((all_read n).expr.at ts l) same

pub expr_fault : (n : ℕ) (ts rest : List Terminal) → length ts < n → (lower n).expr ts ≡ Fault rest → IsFirstFault IsExpression ts rest
expr_fault n ts rest l same = fault_is_first IsExpression Any Ends at_expr tt expr_sound expr_found (λ m. (all_onward m).expr) n ts rest ((all_read n).expr.at ts l) same

-- the terminals tell the tree
pub one_tree : (ts : List Terminal) (e f : Expr) → IsExpression ts e → IsExpression ts f → e ≡ f
one_tree ts e f d h = same (expr_found ts e d (length ts + 1) (omega arith)) (expr_found ts f h (length ts + 1) (omega arith))
  where
    same : {o : Outcome Terminal Expr} → o ≡ Parsed e [] → o ≡ Parsed f [] → e ≡ f
    same p q = cc

pub one_unary_tree : (ts : List Terminal) (e f : Expr) → IsUnaryExpression ts e → IsUnaryExpression ts f → e ≡ f
one_unary_tree ts e f d h = same (unary_found ts e d (length ts + 1) (omega arith)) (unary_found ts f h (length ts + 1) (omega arith))
  where
    same : {o : Outcome Terminal Expr} → o ≡ Parsed e [] → o ≡ Parsed f [] → e ≡ f
    same p q = cc
