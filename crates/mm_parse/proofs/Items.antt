-- The items of a program, one by one.
use Rattle.std.proofs.Common.{◌≡◌, ℕ, suc, Bool, true, false, List, [], ◌∷◌, append-nil, refl, ap, Option, Some, None}
use Rattle.mm_tree.specs.declared.item.Global.{Global}
use Rattle.mm_tree.specs.declared.item.Item.{Item}
use Rattle.mm_tree.specs.declared.item.Item.TheVariants as item_node
use Rattle.mm_reading.specs.Parsing.{Outcome, Parsed, Fault, after, ◌>>=◌, ◌>>◌, pure, fail, peek, skip}
use Rattle.mm_parse_expr.specs.declared.symbol.Keyword.{Keyword as Reserved}
use Rattle.mm_parse_expr.specs.declared.symbol.Keyword.TheVariants as reserved
use Rattle.mm_parse_expr.specs.declared.symbol.Symbol.{Symbol}
use Rattle.mm_parse_expr.specs.declared.symbol.Symbol.TheVariants.{Keyword}
use Rattle.mm_parse_expr.specs.declared.terminal.Terminal.{Terminal}
use Rattle.mm_parse_expr.specs.reading.ExprReading.{Reader}
use Rattle.mm_grammar.specs.reading.StatementReading.{semicolon, others}
use Rattle.mm_grammar.specs.reading.ProgramReading as r
use Rattle.mm_grammar.specs.reading.ProgramReading.{global_item, item_by, items_begun, items, qualified}
use Rattle.mm_parse.specs.reading.Begun.{begun}
use Rattle.mm_parse.specs.reading.BegunItems.{globals_behind, qualified_by, item_begun, next_item}
use Rattle.mm_parse.proofs.Joined.{joined, go_on, joined_more}

-- the first of the globals, put before the others
pub with_first : (n : ℕ) (g : Global) (ts : List Terminal) → globals_behind n g ts ≡ after (after (others global_item n ts) (λ gs. pure (g ∷ gs))) (λ gs. semicolon >> pure (item_node.Globals gs))
unfolding pure
with_first n g ts = by (others global_item n ts)
  where
    by : (o : Outcome Terminal (List Global)) → after o (λ gs. semicolon >> pure (item_node.Globals (g ∷ gs))) ≡ after (after o (λ gs. pure (g ∷ gs))) (λ gs. semicolon >> pure (item_node.Globals gs))
    by (Parsed gs rest) = refl
    by (Fault rest) = refl

pub qualified_on : (n : ℕ) (may_run : Bool) (t : Terminal) (us : List Terminal) → qualified (suc n) may_run (t ∷ us) ≡ begun t (qualified_by n may_run t.symbol) us
unfolding qualified peek skip fail
qualified_on n may_run t us = by t.symbol
  where
    runs : (b : Bool) → r.where_it_may b (skip >> r.void_item n) (t ∷ us) ≡ begun t (qualified_by n b (Keyword reserved.Void)) us
    runs true = refl
    runs false = refl

    word : (k : Reserved) → r.qualified_by n (qualified n) may_run (Keyword k) (t ∷ us) ≡ begun t (qualified_by n may_run (Keyword k)) us
    word reserved.Static = refl
    word reserved.Volatile = refl
    word reserved.Int = refl
    word reserved.Mutex = refl
    word reserved.Thread = refl
    word reserved.Void = runs may_run
    word _ = refl

    by : (s : Symbol) → r.qualified_by n (qualified n) may_run s (t ∷ us) ≡ begun t (qualified_by n may_run s) us
    by (Keyword k) = word k
    by _ = refl

pub qualified_read : (n m : ℕ) (may_run : Bool) (ts us : List Terminal) (t : Terminal) → n ≡ suc m → ts ≡ t ∷ us → qualified n may_run ts ≡ begun t (qualified_by m may_run t.symbol) us
qualified_read n m may_run ts us t e f = rw (e, f) (qualified_on m may_run t us)

pub qualified_none : (n : ℕ) (may_run : Bool) (ts : List Terminal) → n ≡ 0 → qualified n may_run ts ≡ Fault ts
unfolding qualified fail
qualified_none n may_run ts e = rw e refl

pub qualified_empty : (n m : ℕ) (may_run : Bool) (ts : List Terminal) → n ≡ suc m → ts ≡ [] → qualified n may_run ts ≡ Fault []
unfolding qualified peek fail
qualified_empty n m may_run ts e f = rw (e, f) refl

module _ (m : ℕ) (xs : List Item) where
  read : (o : Outcome Terminal Item) → joined xs (after o (λ i. items m >>= λ is. pure (i ∷ is))) ≡ after (after o (λ i. pure (Some i))) (go_on xs (items m))
  unfolding pure
  read (Parsed i rest) = joined_more xs (items m) (Parsed i rest)
  read (Fault rest) = refl

  by : (t : Terminal) (us : List Terminal) (p : Option (Reader Item)) → joined xs (items_begun p (items m) (t ∷ us)) ≡ after (item_begun p (t ∷ us)) (go_on xs (items m))
  unfolding fail skip
  by t us None = refl
  by t us (Some p) = read (p us)

  pub items_on : (n : ℕ) (ts : List Terminal) → n ≡ suc m → joined xs (items n ts) ≡ after (next_item m ts) (go_on xs (items m))
  unfolding items next_item peek pure
  items_on n [] e = rw e (ap (λ ys. Parsed ys []) (append-nil xs))
  items_on n (t ∷ us) e = rw e (by t us (item_by m t.symbol))

  pub items_none : (n : ℕ) (ts : List Terminal) → n ≡ 0 → joined xs (items n ts) ≡ Fault ts
  unfolding items fail
  items_none n ts e = rw e refl
