-- A statement that is read from how it begins on is the statement that is read.
use Rattle.std.proofs.Common.{◌≡◌, ℕ, suc, List, [], ◌∷◌, Option, Some, None, refl, sym, ap, ◌∙◌}
use Rattle.mm_goto.specs.declared.pure.Binary.TheVariants as binary
use Rattle.mm_tree.specs.declared.stmt.StmtNode.{StmtNode}
use Rattle.mm_reading.specs.Parsing.{Outcome, Parsed, Fault, after, pure, fail, peek, skip}
use Rattle.mm_parse_expr.specs.declared.symbol.Keyword.TheVariants as reserved
use Rattle.mm_parse_expr.specs.declared.symbol.Symbol.{Symbol}
use Rattle.mm_parse_expr.specs.declared.symbol.Symbol.TheVariants.{Name, Keyword, Operator, Colon, OpenBrace, CloseBrace}
use Rattle.mm_parse_expr.specs.declared.terminal.Terminal.{Terminal}
use Rattle.mm_parse_expr.specs.reading.ExprReading.{Reader}
use Rattle.mm_parse.specs.declared.reading.opening.Opening.{Opening}
use Rattle.mm_parse.specs.declared.reading.opening.Opening.TheVariants as begins
use Rattle.mm_parse.specs.declared.reading.opening.Head.TheVariants as over
use Rattle.mm_tree.specs.Trees.{statement}
use Rattle.mm_grammar.specs.reading.StatementReading.{Inner, declaration_by, either, node_by, inner, stmt}
use Rattle.mm_grammar.specs.reading.StatementReading as r
use Rattle.mm_parse.specs.reading.Begun.{begun, in_parentheses, header}
use Rattle.mm_parse.specs.reading.Begun as b
use Rattle.mm_parse.specs.reading.Openings as o
use Rattle.mm_parse.proofs.Tested.{when_on, while_on, do_while_on, for_on, stmt_on}

-- a statement that holds no other
pub whole_begun : (t : Terminal) (p : Option (Reader StmtNode)) (us : List Terminal) → begun t (o.whole_of p) us ≡ after (begun t p us) (λ m. pure (begins.Whole m))
whole_begun t None us = refl
whole_begun t (Some p) us = refl

module _ (n : ℕ) (i : Inner) where
  whole_on : (p : Outcome Terminal StmtNode) → after (after p (λ m. pure (begins.Whole m))) (o.within n i) ≡ p
  unfolding pure
  whole_on (Parsed m rest) = refl
  whole_on (Fault rest) = refl

  simple_on : (t : Terminal) (us : List Terminal) (p : Option (Reader StmtNode)) → after (begun t (o.whole_of p) us) (o.within n i) ≡ begun t p us
  simple_on t us None = refl
  simple_on t us (Some p) = whole_on (p us)

  made_on : {A : Type 0} (f : A → Opening) (p : Outcome Terminal A) → after (after p (λ a. pure (f a))) (o.within n i) ≡ after p (λ a. o.within n i (f a))
  unfolding pure
  made_on f (Parsed a rest) = refl
  made_on f (Fault rest) = refl

  named_on : (t : Terminal) (us : List Terminal) → after (o.named n t us) (o.within n i) ≡ r.named n i t us
  unfolding o.named r.named peek skip pure fail
  named_on t [] = refl
  named_on t (u ∷ us) = by u.symbol
    where
      by : (s : Symbol) → after (o.named_by n t s (u ∷ us)) (o.within n i) ≡ r.named_by_next n i t s (u ∷ us)
      by Colon = refl
      by s = whole_on (r.named_by_next n o.holds_none t s (u ∷ us))

  pub node_on : (t : Terminal) (us : List Terminal) (s : Symbol) → after (begun t (o.opening_by n s t) us) (o.within n i) ≡ begun t (node_by n i s t) us
  unfolding pure
  node_on t us OpenBrace = refl
  node_on t us Name = named_on t us
  node_on t us (Keyword reserved.If) = made_on begins.When (in_parentheses n us) ∙ sym (when_on n i us)
  node_on t us (Keyword reserved.While) = made_on (λ e. begins.Holds (over.While e)) (in_parentheses n us) ∙ sym (while_on n i us)
  node_on t us (Keyword reserved.Do) = sym (do_while_on n i us)
  node_on t us (Keyword reserved.For) = made_on (λ h. begins.Holds (over.For h.0 h.1 h.2)) (header n us) ∙ sym (for_on n i us)
  node_on t us (Operator binary.Mul) = simple_on t us (o.simple_by n (Operator binary.Mul) t)
  node_on t us s = simple_on t us (o.simple_by n s t)

  -- a part of a block
  part_on : (t : Terminal) (us : List Terminal) (p : Option (Reader Opening)) → after (o.next_begun t p (t ∷ us)) (o.next_within n i) ≡ after (after (begun t p us) (o.within n i)) (λ m. pure (Some (statement t.at m)))
  unfolding skip fail pure
  part_on t us None = refl
  part_on t us (Some p) = by (p us)
    where
      by : (q : Outcome Terminal Opening) → after (after q (λ x. pure (Some (t.at, x)))) (o.next_within n i) ≡ after (after q (o.within n i)) (λ m. pure (Some (statement t.at m)))
      by (Parsed x rest) = refl
      by (Fault rest) = refl

  next_part : (t : Terminal) (us : List Terminal) (p : Option (Reader StmtNode)) → b.next_begun t p (t ∷ us) ≡ after (begun t p us) (λ m. pure (Some (statement t.at m)))
  unfolding skip fail
  next_part t us None = refl
  next_part t us (Some p) = refl

  either_on : (t : Terminal) (us : List Terminal) (s : Symbol) (d : Option (Reader StmtNode)) → after (begun t (o.either_begins d (o.opening_by n s t)) us) (o.within n i) ≡ begun t (either d (node_by n i s t)) us
  either_on t us s None = node_on t us s
  either_on t us s (Some p) = whole_on (p us)

  next_by_on : (t : Terminal) (us : List Terminal) (s : Symbol) → b.next_by n i s t (t ∷ us) ≡ after (o.next_by n s t (t ∷ us)) (o.next_within n i)
  unfolding skip pure
  next_by_on t us CloseBrace = refl
  next_by_on t us s = next_part t us (b.part_by n i s t) ∙ ap (λ q. after q (λ m. pure (Some (statement t.at m)))) (sym (either_on t us s (declaration_by n s))) ∙ sym (part_on t us (o.part_by n s t))

  -- the next part of a block
  pub next_on : (ts : List Terminal) → b.next n i ts ≡ after (o.next n ts) (o.next_within n i)
  unfolding b.next o.next peek fail
  next_on [] = refl
  next_on (t ∷ us) = next_by_on t us t.symbol

module _ (m : ℕ) where
  opened : (t : Terminal) (us : List Terminal) (p : Option (Reader Opening)) → after (o.opening_begun t p (t ∷ us)) (o.stmt_within m (inner m)) ≡ after (after (begun t p us) (o.within m (inner m))) (λ a. pure (statement t.at a))
  unfolding skip fail pure
  opened t us None = refl
  opened t us (Some p) = by (p us)
    where
      by : (q : Outcome Terminal Opening) → after (after q (λ x. pure (t.at, x))) (o.stmt_within m (inner m)) ≡ after (after q (o.within m (inner m))) (λ a. pure (statement t.at a))
      by (Parsed x rest) = refl
      by (Fault rest) = refl

  all : (ts : List Terminal) → stmt (suc m) ts ≡ after (o.opening m ts) (o.stmt_within m (inner m))
  unfolding inner r.stmt_of o.opening peek fail
  all [] = refl
  all (t ∷ us) = stmt_on m t us ∙ ap (λ q. after q (λ a. pure (statement t.at a))) (sym (node_on m (inner m) t us t.symbol)) ∙ sym (opened t us (o.opening_by m t.symbol t))

  -- a statement
  pub stmt_opened : (n : ℕ) (ts : List Terminal) → n ≡ suc m → stmt n ts ≡ after (o.opening m ts) (o.stmt_within m (inner m))
  stmt_opened n ts e = rw e (all ts)
