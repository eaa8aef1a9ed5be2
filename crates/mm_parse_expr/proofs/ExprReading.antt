-- How the readers read: they see what they take and one token more, and what they took before a fault can be completed.
use Rattle.std.proofs.Common.{◌≡◌, ℕ, pos, zero, suc, List, codes, Option, Some, None, refl, sym, ap, subst}
use Rattle.mm_goto.specs.declared.ident.At.{At}
use Rattle.mm_goto.specs.declared.pure.Binary.{Binary}
use Rattle.mm_goto.specs.declared.pure.Binary.TheVariants as bin
use Rattle.mm_goto.specs.declared.pure.Unary.{Unary}
use Rattle.mm_goto.specs.declared.pure.Unary.TheVariants as un
use Rattle.mm_tree.specs.declared.expr.Expr.{Expr}
use Rattle.mm_tree.specs.declared.expr.Node.TheVariants as node
use Rattle.mm_reading.specs.Parsing.{◌>>=◌, ◌>>◌, pure, fail, peek, skip, when}
use Rattle.mm_reading.proofs.Combining.{Family, seq, Reads, Takes, Example, Branch, takes, fails, ends, reads_pure, reads_bind, reads_peek, takes_skip, takes_skip_same, reads_none, reads_up, reads_switch, reads_token, example_of_token, example_pure, example_bind, example_end, example_token, example_switch}
use Rattle.mm_parse_expr.specs.declared.symbol.Symbol.{Symbol}
use Rattle.mm_parse_expr.specs.declared.symbol.Symbol.TheVariants.{Name, Number, Null, Operator, Not, Flip, Question, Colon, Open, Close, OpenBracket, CloseBracket}
use Rattle.mm_parse_expr.specs.declared.terminal.Terminal.{Terminal}
use Rattle.mm_parse_expr.specs.Grammar.{terminal, binary_tree, choice_tree}
use Rattle.mm_tree.specs.Trees.{expr as tree, word}
use Rattle.mm_parse_expr.specs.reading.ExprReading.{Reader, Lower, is_close, is_close_bracket, is_colon, close, close_bracket, colon, named, name_word, index_at, index, element_tree, signed, pointed, address, unary_at, unary, joins, more_by, more_at, more_of, more, level, choice_at, choice, expr, lower}
use Rattle.mm_parse_expr.proofs.Follow.{Any, Stops, Ends, stops_less, ends_stop, index_ends, more_ends, choice_ends}

-- ---- the families

abbrev pub at_expr : Family Terminal Expr
at_expr m = (lower m).expr

abbrev pub at_more : ℕ → Expr → Family Terminal Expr
at_more k a m = (lower m).more k a

abbrev pub at_unary : Family Terminal Expr
at_unary m = (lower m).unary

-- a family that has one bound more than what it calls
abbrev pub above : {A : Type 0} → (Lower → Reader A) → Family Terminal A
above f zero = fail
above f (suc m) = f (lower m)

abbrev pub at_level : ℕ → Family Terminal Expr
at_level k = above (λ r. level r k)

abbrev pub at_index : Family Terminal (Option Expr)
at_index m = index (lower m)

pub record AllRead (n : ℕ) (r : Lower) : Type 0 where
  pub expr : Reads n Any Ends r.expr at_expr
  pub more : (k : ℕ) (a : Expr) → Reads n (Stops k) (Stops (suc k)) (r.more k a) (at_more k a)
  pub unary : Reads n Any (Stops 0) r.unary at_unary

-- ---- examples

abbrev pub nowhere : At
nowhere = record { line = 1; column = 1 }

abbrev pub a_zero : Terminal
a_zero = terminal (Number (pos 0)) nowhere (codes "0")

abbrev pub zero_tree : Expr
zero_tree = tree nowhere (node.Number (pos 0))

pub close_example : (P C : Option Terminal → Type 0) → P (Some (terminal Close nowhere (codes ")"))) → Example P C (λ m. close)
unfolding close
close_example P C p = example_of_token P C (λ t. when (is_close t.symbol)) (terminal Close nowhere (codes ")")) tt refl p

pub close_reads : (n : ℕ) (P C : Option Terminal → Type 0) → P (Some (terminal Close nowhere (codes ")"))) → Reads n P C close (λ m. close)
unfolding close
close_reads n P C p = reads_token n P C (λ t. when (is_close t.symbol)) (terminal Close nowhere (codes ")")) tt refl p

pub close_bracket_example : (P C : Option Terminal → Type 0) → P (Some (terminal CloseBracket nowhere (codes "]"))) → Example P C (λ m. close_bracket)
unfolding close_bracket
close_bracket_example P C p = example_of_token P C (λ t. when (is_close_bracket t.symbol)) (terminal CloseBracket nowhere (codes "]")) tt refl p

pub close_bracket_reads : (n : ℕ) (P C : Option Terminal → Type 0) → P (Some (terminal CloseBracket nowhere (codes "]"))) → Reads n P C close_bracket (λ m. close_bracket)
unfolding close_bracket
close_bracket_reads n P C p = reads_token n P C (λ t. when (is_close_bracket t.symbol)) (terminal CloseBracket nowhere (codes "]")) tt refl p

colon_example : (P C : Option Terminal → Type 0) → P (Some (terminal Colon nowhere (codes ":"))) → Example P C (λ m. colon)
unfolding colon
colon_example P C p = example_of_token P C (λ t. when (is_colon t.symbol)) (terminal Colon nowhere (codes ":")) tt refl p

colon_reads : (n : ℕ) (P C : Option Terminal → Type 0) → P (Some (terminal Colon nowhere (codes ":"))) → Reads n P C colon (λ m. colon)
unfolding colon
colon_reads n P C p = reads_token n P C (λ t. when (is_colon t.symbol)) (terminal Colon nowhere (codes ":")) tt refl p

pub name_reads : (n : ℕ) (C : Option Terminal → Type 0) → Reads n Any C name_word (λ m. name_word)
unfolding name_word
name_reads n C = reads_token n Any C (λ t. named t.symbol t) (terminal Name nowhere (codes "x")) (word nowhere (codes "x")) refl tt

pub index_example : Example Any (Stops 0) at_index
unfolding index
index_example = example_end Any (Stops 0) at_index (λ h m. index_at (lower m) h) None (λ m. refl) (λ h m c. index_ends (lower (suc m)) h c) (λ h c. tt)

pub unary_example : (C : Option Terminal → Type 0) → Example Any C at_unary
unfolding lower unary peek skip pure
unary_example C = example_token Any C C a_zero at_unary (λ m. pure zero_tree) tt (λ m ts. refl) (example_pure C zero_tree)

more_example : (k : ℕ) (a : Expr) → Example (Stops k) (Stops (suc k)) (at_more k a)
unfolding lower more more_of
more_example k a = example_end (Stops k) (Stops (suc k)) (at_more k a) (λ h. above (λ r. more_at r k (level r k) a h)) a (λ m. refl) (λ h m c. more_ends (lower m) k (level (lower m) k) a h c) (λ h c. stops_less k h c)

pub level_example : (k : ℕ) → Example Any (Stops k) (at_level k)
unfolding lower level more
level_example zero = example_switch Any (Stops 0) at_unary (at_level 0) (λ m. refl) (unary_example (Stops 0))
level_example (suc k) = example_switch Any (Stops (suc k)) (seq (at_level k) (at_more k)) (at_level (suc k)) (λ m. refl)
    (example_bind Any (Stops k) (Stops (suc k)) (at_level k) (at_more k) (level_example k) (more_example k))

choice_example : (c : Expr) → Example (Stops 10) Ends (above (λ r. choice r c))
unfolding choice
choice_example c = example_end (Stops 10) Ends (above (λ r. choice r c)) (λ h. above (λ r. choice_at r c h)) c (λ m. refl) (λ h m e. choice_ends (lower m) c h e) (λ h e. ends_stop 10 h e)

pub expr_example : Example Any Ends at_expr
unfolding lower expr
expr_example = example_switch Any Ends (seq (at_level 10) (λ c. above (λ r. choice r c))) at_expr (λ m. refl)
    (example_bind Any (Stops 10) Ends (at_level 10) (λ c. above (λ r. choice r c)) (level_example 10) choice_example)

unary_start_example : (C : Option Terminal → Type 0) → Example Any C (λ m. peek (λ h. above (λ r. unary_at r h) m))
unfolding peek skip pure
unary_start_example C = example_token Any C C a_zero _ (λ m. pure zero_tree) tt (λ m ts. refl) (example_pure C zero_tree)

-- ---- one level

module _ (n : ℕ) (r : Lower) (R : AllRead n r) where
  pub index_reads : Reads n Any (Stops 0) (index r) at_index
  unfolding index
  index_reads = reads_peek n Any (Stops 0) (index_at r) (λ h m. index_at (lower m) h) index_example branch
    where
      closing : (e : Expr) → Reads n Ends (Stops 0) (close_bracket >> pure (Some e)) (λ m. close_bracket >> pure (Some e))
      closing e = reads_bind n Ends (Stops 0) (Stops 0) close_bracket (λ m. close_bracket) _ _ (close_bracket_reads n Ends (Stops 0) tt) (λ u. reads_pure n (Stops 0) (Some e)) (λ u. example_pure (Stops 0) (Some e))

      closing_example : (e : Expr) → Example Ends (Stops 0) (λ m. close_bracket >> pure (Some e))
      closing_example e = example_bind Ends (Stops 0) (Stops 0) (λ m. close_bracket) _ (close_bracket_example Ends (Stops 0) tt) (λ u. example_pure (Stops 0) (Some e))

      by : (s : Symbol) (p : At) (x : List ℕ) → Branch n Any (Stops 0) (index_at r) (λ h m. index_at (lower m) h) (Some (terminal s p x))
      by OpenBracket p x = takes (takes_skip_same n (terminal OpenBracket p x) Any (Stops 0) _ _ (reads_bind n Any Ends (Stops 0) r.expr at_expr _ _ R.expr closing closing_example))
      by _ p x = ends None refl (λ m. refl) (λ k m c. index_ends (lower (suc m)) k c) (λ k c. tt)

      branch : (h : Option Terminal) → Branch n Any (Stops 0) (index_at r) (λ h m. index_at (lower m) h) h
      branch None = ends None refl (λ m. refl) (λ k m c. index_ends (lower (suc m)) k c) (λ k c. tt)
      branch (Some t) = by t.symbol t.at t.spelling

  signed_reads : (p : At) (op : Unary) → Reads n Any (Stops 0) (signed r p op) (λ m. signed (lower m) p op)
  unfolding signed
  signed_reads p op = reads_bind n Any (Stops 0) (Stops 0) r.unary at_unary _ _ R.unary (λ e. reads_pure n (Stops 0) _) (λ e. example_pure (Stops 0) _)

  pointed_reads : (p : At) → Reads n Any (Stops 0) (pointed r p) (λ m. pointed (lower m) p)
  unfolding pointed
  pointed_reads p = reads_bind n Any (Stops 0) (Stops 0) r.unary at_unary _ _ R.unary (λ e. reads_pure n (Stops 0) _) (λ e. example_pure (Stops 0) _)

  address_reads : (p : At) → Reads n Any (Stops 0) (address r p) (λ m. address (lower m) p)
  unfolding address
  address_reads p = reads_bind n Any Any (Stops 0) name_word (λ m. name_word) _ _ (name_reads n Any)
      (λ w. reads_bind n Any (Stops 0) (Stops 0) (index r) at_index _ _ index_reads (λ i. reads_pure n (Stops 0) _) (λ i. example_pure (Stops 0) _))
      (λ w. example_bind Any (Stops 0) (Stops 0) at_index _ index_example (λ i. example_pure (Stops 0) _))

  unary_reads : Reads (suc n) Any (Stops 0) (unary r) at_unary
  unfolding lower unary
  unary_reads = reads_switch (suc n) Any (Stops 0) (unary r) (λ m. peek (λ h. above (λ r. unary_at r h) m)) at_unary (λ m. refl)
      (reads_peek (suc n) Any (Stops 0) (unary_at r) (λ h. above (λ r. unary_at r h)) (unary_start_example (Stops 0)) branch)
    where
      sign : (s : Symbol) (p : At) (x : List ℕ) (op : Unary) → Takes (suc n) (terminal s p x) (Stops 0) (skip >> signed r p op) (above (λ r. skip >> signed r p op))
      sign s p x op = takes_skip n (terminal s p x) Any (Stops 0) _ (λ m. signed (lower m) p op) _ (λ m. refl) (signed_reads p op)

      group : (p : At) (x : List ℕ) → Takes (suc n) (terminal Open p x) (Stops 0) (skip >> (r.expr >>= λ e. close >> pure e)) (above (λ r. skip >> (r.expr >>= λ e. close >> pure e)))
      group p x = takes_skip n (terminal Open p x) Any (Stops 0) _ (seq at_expr (λ e m. close >> pure e)) _ (λ m. refl)
          (reads_bind n Any Ends (Stops 0) r.expr at_expr _ _ R.expr
          (λ e. reads_bind n Ends (Stops 0) (Stops 0) close (λ m. close) _ _ (close_reads n Ends (Stops 0) tt) (λ u. reads_pure n (Stops 0) e) (λ u. example_pure (Stops 0) e))
          (λ e. example_bind Ends (Stops 0) (Stops 0) (λ m. close) _ (close_example Ends (Stops 0) tt) (λ u. example_pure (Stops 0) e)))

      by : (s : Symbol) (p : At) (x : List ℕ) → Branch (suc n) Any (Stops 0) (unary_at r) (λ h. above (λ r. unary_at r h)) (Some (terminal s p x))
      by (Operator bin.Sub) p x = takes (sign (Operator bin.Sub) p x un.Neg)
      by (Operator bin.Add) p x = takes (sign (Operator bin.Add) p x un.Plus)
      by Not p x = takes (sign Not p x un.Not)
      by Flip p x = takes (sign Flip p x un.Flip)
      by (Operator bin.Mul) p x = takes (takes_skip n (terminal (Operator bin.Mul) p x) Any (Stops 0) _ (λ m. pointed (lower m) p) _ (λ m. refl) (pointed_reads p))
      by (Operator bin.And) p x = takes (takes_skip n (terminal (Operator bin.And) p x) Any (Stops 0) _ (λ m. address (lower m) p) _ (λ m. refl) (address_reads p))
      by (Number k) p x = takes (takes_skip n (terminal (Number k) p x) (Stops 0) (Stops 0) _ (λ m. pure (tree p (node.Number k))) _ (λ m. refl) (reads_pure n (Stops 0) _))
      by Null p x = takes (takes_skip n (terminal Null p x) (Stops 0) (Stops 0) _ (λ m. pure (tree p node.Null)) _ (λ m. refl) (reads_pure n (Stops 0) _))
      by Name p x = takes (takes_skip n (terminal Name p x) Any (Stops 0) _ (seq at_index (λ i m. pure (element_tree p x i))) _ (λ m. refl)
          (reads_bind n Any (Stops 0) (Stops 0) (index r) at_index _ _ index_reads (λ i. reads_pure n (Stops 0) _) (λ i. example_pure (Stops 0) _)))
      by Open p x = takes (group p x)
      by _ p x = fails refl (λ m. refl)

      branch : (h : Option Terminal) → Branch (suc n) Any (Stops 0) (unary_at r) (λ h. above (λ r. unary_at r h)) h
      branch None = fails refl (λ m. refl)
      branch (Some t) = by t.symbol t.at t.spelling

  more_reads : (k : ℕ) → Reads (suc n) Any (Stops k) (level r k) (at_level k) → (a : Expr) → Reads (suc n) (Stops k) (Stops (suc k)) (more r k a) (at_more k a)
  unfolding lower more more_of
  more_reads k L a = reads_switch (suc n) (Stops k) (Stops (suc k)) (more r k a) (λ m. peek (λ h. above (λ r. more_at r k (level r k) a h) m)) (at_more k a) (λ m. refl)
      (reads_peek (suc n) (Stops k) (Stops (suc k)) (more_at r k (level r k) a) (λ h. above (λ r. more_at r k (level r k) a h))
      (example_end (Stops k) (Stops (suc k)) _ (λ h. above (λ r. more_at r k (level r k) a h)) a (λ m. refl) (λ h m c. more_ends (lower m) k (level (lower m) k) a h c) (λ h c. stops_less k h c)) branch)
    where
      taken : (t : Terminal) (op : Binary) → Takes (suc n) t (Stops (suc k)) (more_by r k (level r k) a (Some op)) (above (λ r. more_by r k (level r k) a (Some op)))
      taken t op = takes_skip n t Any (Stops (suc k)) _ (seq (λ m. level (lower m) k) (λ b. at_more k (binary_tree op a b))) _ (λ m. refl)
          (reads_bind n Any (Stops k) (Stops (suc k)) (level r k) (λ m. level (lower m) k) _ _ (reads_up n Any (Stops k) (level r k) (at_level k) L)
          (λ b. R.more k (binary_tree op a b)) (λ b. more_example k (binary_tree op a b)))

      by : (t : Terminal) (o : Option Binary) → joins k t.symbol ≡ o → Branch (suc n) (Stops k) (Stops (suc k)) (more_at r k (level r k) a) (λ h. above (λ r. more_at r k (level r k) a h)) (Some t)
      by t None e = ends a (ap (λ o. more_by r k (level r k) a o) e) (λ m. ap (λ o. more_by (lower m) k (level (lower m) k) a o) e) (λ j m c. more_ends (lower m) k (level (lower m) k) a j c) (λ j c. stops_less k j c)
      by t (Some op) e = takes (subst (λ (o : Option Binary). Takes (suc n) t (Stops (suc k)) (more_by r k (level r k) a o) (above (λ r. more_by r k (level r k) a o))) (sym e) (taken t op))

      branch : (h : Option Terminal) → Branch (suc n) (Stops k) (Stops (suc k)) (more_at r k (level r k) a) (λ h. above (λ r. more_at r k (level r k) a h)) h
      branch None = ends a refl (λ m. refl) (λ j m c. more_ends (lower m) k (level (lower m) k) a j c) (λ j c. stops_less k j c)
      branch (Some t) = by t (joins k t.symbol) refl

  level_reads : (k : ℕ) → Reads (suc n) Any (Stops k) (level r k) (at_level k)
  unfolding lower level more
  level_reads zero = reads_switch (suc n) Any (Stops 0) (unary r) at_unary (at_level 0) (λ m. refl) unary_reads
  level_reads (suc k) = reads_switch (suc n) Any (Stops (suc k)) (level r (suc k)) (seq (at_level k) (at_more k)) (at_level (suc k)) (λ m. refl)
      (reads_bind (suc n) Any (Stops k) (Stops (suc k)) (level r k) (at_level k) (more r k) (at_more k) (level_reads k) (more_reads k (level_reads k)) (more_example k))

  choice_reads : (c : Expr) → Reads (suc n) (Stops 10) Ends (choice r c) (above (λ r. choice r c))
  unfolding choice
  choice_reads c = reads_switch (suc n) (Stops 10) Ends (choice r c) (λ m. peek (λ h. above (λ r. choice_at r c h) m)) (above (λ r. choice r c)) (λ m. refl)
      (reads_peek (suc n) (Stops 10) Ends (choice_at r c) (λ h. above (λ r. choice_at r c h))
      (example_end (Stops 10) Ends _ (λ h. above (λ r. choice_at r c h)) c (λ m. refl) (λ h m e. choice_ends (lower m) c h e) (λ h e. ends_stop 10 h e)) branch)
    where
      arms_example : (a : Expr) → Example Ends Ends (λ m. colon >> ((lower m).expr >>= λ b. pure (choice_tree c a b)))
      arms_example a = example_bind Ends Any Ends (λ m. colon) _ (colon_example Ends Any tt) (λ u. example_bind Any Ends Ends at_expr _ expr_example (λ b. example_pure Ends _))

      arms : (a : Expr) → Reads n Ends Ends (colon >> (r.expr >>= λ b. pure (choice_tree c a b))) (λ m. colon >> ((lower m).expr >>= λ b. pure (choice_tree c a b)))
      arms a = reads_bind n Ends Any Ends colon (λ m. colon) _ _ (colon_reads n Ends Any tt)
          (λ u. reads_bind n Any Ends Ends r.expr at_expr _ _ R.expr (λ b. reads_pure n Ends _) (λ b. example_pure Ends _))
          (λ u. example_bind Any Ends Ends at_expr _ expr_example (λ b. example_pure Ends _))

      by : (s : Symbol) (p : At) (x : List ℕ) → Branch (suc n) (Stops 10) Ends (choice_at r c) (λ h. above (λ r. choice_at r c h)) (Some (terminal s p x))
      by Question p x = takes (takes_skip n (terminal Question p x) Any Ends _ (seq at_expr (λ a m. colon >> ((lower m).expr >>= λ b. pure (choice_tree c a b)))) _ (λ m. refl)
          (reads_bind n Any Ends Ends r.expr at_expr _ _ R.expr arms arms_example))
      by _ p x = ends c refl (λ m. refl) (λ j m e. choice_ends (lower m) c j e) (λ j e. ends_stop 10 j e)

      branch : (h : Option Terminal) → Branch (suc n) (Stops 10) Ends (choice_at r c) (λ h. above (λ r. choice_at r c h)) h
      branch None = ends c refl (λ m. refl) (λ j m e. choice_ends (lower m) c j e) (λ j e. ends_stop 10 j e)
      branch (Some t) = by t.symbol t.at t.spelling

  expr_reads : Reads (suc n) Any Ends (expr r) at_expr
  unfolding lower expr
  expr_reads = reads_switch (suc n) Any Ends (expr r) (seq (at_level 10) (λ c. above (λ r. choice r c))) at_expr (λ m. refl)
      (reads_bind (suc n) Any (Stops 10) Ends (level r 10) (at_level 10) (choice r) (λ c. above (λ r. choice r c)) (level_reads 10) choice_reads choice_example)

-- the readers read alike with any two bounds that are large enough
pub all_read : (n : ℕ) → AllRead n (lower n)
unfolding lower
all_read zero = record { expr = reads_none Any Ends _ _; more = λ k a. reads_none (Stops k) (Stops (suc k)) _ _; unary = reads_none Any (Stops 0) _ _ }
all_read (suc n) =
    let R = all_read n in
    record { expr = expr_reads n (lower n) R; more = λ k a. more_reads n (lower n) R k (level_reads n (lower n) R k) a; unary = unary_reads n (lower n) R }
