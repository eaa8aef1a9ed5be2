-- How the readers of left sides, calls and values read.
use Rattle.std.proofs.Common.{◌≡◌, ℕ, zero, suc, List, [], Option, Some, None, refl}
use Rattle.mm_goto.specs.declared.ident.At.{At as Place}
use Rattle.mm_goto.specs.declared.pure.Binary.TheVariants as binary
use Rattle.mm_tree.specs.declared.expr.Node.TheVariants as expr_node
use Rattle.mm_tree.specs.declared.stmt.Left.{Left}
use Rattle.mm_tree.specs.declared.stmt.Value.TheVariants as value_node
use Rattle.mm_reading.specs.Parsing.{◌>>=◌, ◌>>◌, pure, fail, peek, skip}
use Rattle.mm_reading.proofs.Combining.{Reads, Takes, Example, Branch, takes, fails, reads_none, reads_peek, reads_pure, reads_switch, takes_skip, takes_skip_same, example_pure, example_token, example_switch}
use Rattle.mm_parse_expr.specs.declared.symbol.Keyword.TheVariants as reserved
use Rattle.mm_parse_expr.specs.declared.symbol.Symbol.{Symbol}
use Rattle.mm_parse_expr.specs.declared.symbol.Symbol.TheVariants.{Name, Keyword, Operator, Open, Close}
use Rattle.mm_parse_expr.specs.declared.terminal.Terminal.{Terminal}
use Rattle.mm_parse_expr.specs.Grammar.{terminal}
use Rattle.mm_tree.specs.Trees.{expr as tree}
use Rattle.mm_parse_expr.specs.reading.ExprReading.{close, lower, expr, unary, level, more, more_of, choice, index}
use Rattle.mm_parse_expr.proofs.Follow.{Any, Stops, Ends, ends_by}
use Rattle.mm_parse_expr.proofs.ExprReading.{a_zero, zero_tree}
use Rattle.mm_grammar.specs.reading.StatementReading as r
use Rattle.mm_grammar.proofs.MarkReads.{Follow, sample}
use Rattle.mm_grammar.proofs.StatementReadsChoice as choose
use Rattle.mm_grammar.proofs.StatementReadsChoice.{Many, Alone, Begun, begins, Behind, both, same, alone, example_alone, example_taken, reads_begun, takes_behind}
use Rattle.mm_grammar.proofs.StatementReadsParts.{Reading, bound, within, done, close_reading, comma_reading, open_reading, expr_reading, unary_reading, index_reading, Listed, list_reading}

-- ---- left sides

pub named_left_reading : {n : ℕ} (t : Terminal) → Reading n Any (Stops 0) (r.named_left n t) (λ m. r.named_left m t)
unfolding r.named_left
named_left_reading t = bound index_reading (λ i. done _)

pub pointed_left_reading : {n : ℕ} (t : Terminal) → Reading n Any (Stops 0) (r.pointed_left n t) (λ m. r.pointed_left m t)
unfolding r.pointed_left
pointed_left_reading t = bound unary_reading (λ e. done _)

-- over a bound that is one less
abbrev pub left_above : Option Terminal → Many Left
left_above h zero = fail
left_above h (suc m) = r.left_start m (r.left m) h

left_example : Example Any (Stops 0) r.left
unfolding r.left peek skip
left_example = example_token Any Any (Stops 0) (sample Name) r.left (λ m. r.named_left m (sample Name)) tt (λ m ts. refl) (named_left_reading {n = 0} (sample Name)).example

pub grouped_left_reading : {n : ℕ} {C : Follow} → Reading n Any (Stops 0) (r.left n) r.left → Reading n Any C (r.grouped_left (r.left n)) (λ m. r.grouped_left (r.left m))
unfolding r.grouped_left
grouped_left_reading inner = bound inner (λ l. bound (close_reading (Stops 0) tt) (λ u. done l))

left_step : (n : ℕ) → Reading n Any (Stops 0) (r.left n) r.left → Reads (suc n) Any (Stops 0) (peek (r.left_start n (r.left n))) (λ m. peek (λ h. left_above h m))
unfolding r.left
left_step n inner = reads_peek (suc n) Any (Stops 0) (r.left_start n (r.left n)) left_above (example_switch Any (Stops 0) r.left _ (λ m. refl) left_example) branch
  where
    by : (s : Symbol) (p : Place) (x : List ℕ) → Branch (suc n) Any (Stops 0) (r.left_start n (r.left n)) left_above (Some (terminal s p x))
    by Name p x = takes (takes_skip n (terminal Name p x) Any (Stops 0) _ (λ m. r.named_left m (terminal Name p x)) _ (λ m. refl) (named_left_reading (terminal Name p x)).reads)
    by (Operator binary.Mul) p x = takes (takes_skip n (terminal (Operator binary.Mul) p x) Any (Stops 0) _ (λ m. r.pointed_left m (terminal (Operator binary.Mul) p x)) _ (λ m. refl) (pointed_left_reading (terminal (Operator binary.Mul) p x)).reads)
    by Open p x = takes (takes_skip n (terminal Open p x) Any (Stops 0) _ (λ m. r.grouped_left (r.left m)) _ (λ m. refl) (grouped_left_reading inner).reads)
    by _ p x = fails refl (λ m. refl)

    branch : (h : Option Terminal) → Branch (suc n) Any (Stops 0) (r.left_start n (r.left n)) left_above h
    branch None = fails refl (λ m. refl)
    branch (Some t) = by t.symbol t.at t.spelling

pub left_reading : {n : ℕ} → Reading n Any (Stops 0) (r.left n) r.left
unfolding r.left
left_reading {n = zero} = record { reads = reads_none Any (Stops 0) _ _; example = left_example }
left_reading {n = suc n} = record { reads = reads_switch (suc n) Any (Stops 0) _ (λ m. peek (λ h. left_above h m)) r.left (λ m. refl) (left_step n left_reading); example = left_example }

-- ---- calls

arguments_example : Example Any Any r.arguments
unfolding r.arguments peek skip
arguments_example = example_taken Any Any Any (sample Close) r.arguments (λ m. pure []) tt (λ m ts. refl) (example_pure Any [])

some_arguments : {n : ℕ} → Reading n Any Any (r.list r.expr n >>= λ es. close >> pure es) (λ m. r.list r.expr m >>= λ es. close >> pure es)
some_arguments {n = n} = bound (list_reading (λ n. expr_reading) n) (λ es. bound (close_reading (Listed Ends) (tt, tt)) (λ u. done es))

arguments_reading : {n : ℕ} → Reading n Any Any (r.arguments n) r.arguments
unfolding r.arguments r.list lower expr level unary peek fail
arguments_reading {n = n} = record { reads = reads_begun n Any Any (r.arguments_at n) (λ h m. r.arguments_at m h) tt arguments_example refl (λ m. refl) (λ t. by t.symbol t.at t.spelling); example = arguments_example }
  where
    by : (s : Symbol) (p : Place) (x : List ℕ) → Begun n Any (r.arguments_at n) (λ h m. r.arguments_at m h) (terminal s p x)
    by Close p x = choose.takes (takes_skip_same n (terminal Close p x) Any Any (pure []) (λ m. pure []) (reads_pure n Any []))
    by _ p x = begins refl some_arguments.reads

pub call_reading : {n : ℕ} (t : Terminal) → Reading n Any Any (r.call n t) (λ m. r.call m t)
unfolding r.call
call_reading t = bound arguments_reading (λ es. done _)

pub fetch_add_reading : {n : ℕ} {C : Follow} (t : Terminal) → Reading n Any C (r.fetch_add n t) (λ m. r.fetch_add m t)
unfolding r.fetch_add
fetch_add_reading t = bound open_reading (λ u. bound expr_reading (λ a. bound (comma_reading Ends tt) (λ u. bound expr_reading (λ e. bound (close_reading Ends tt) (λ u. done _)))))

pub compare_swap_reading : {n : ℕ} {C : Follow} (t : Terminal) → Reading n Any C (r.compare_swap n t) (λ m. r.compare_swap m t)
unfolding r.compare_swap
compare_swap_reading t = bound open_reading (λ u. bound expr_reading (λ a. bound (comma_reading Ends tt) (λ u. bound expr_reading (λ e. bound (comma_reading Ends tt) (λ u. bound expr_reading (λ f. bound (close_reading Ends tt) (λ u. done _)))))))

-- ---- values

abbrev pub ends_value_by : Symbol → Type 0
ends_value_by Open = ⊥
ends_value_by s = ends_by s

-- no value goes on with it
abbrev pub EndsValue : Follow
EndsValue None = Unit {0}
EndsValue (Some t) = ends_value_by t.symbol

pub value_ends : (h : Option Terminal) → EndsValue h → Ends h
value_ends None c = tt
value_ends (Some t) c = by t.symbol c
  where
    by : (s : Symbol) → ends_value_by s → ends_by s
    by Open c = tt
    by _ c = c

plain_reading : {n : ℕ} → Reading n Any EndsValue (r.plain n) r.plain
unfolding r.plain
plain_reading = within EndsValue value_ends (bound expr_reading (λ e. done _))

-- a number by itself is a value
number_alone : Alone EndsValue a_zero (value_node.Plain zero_tree) r.plain
unfolding r.plain lower expr level unary more more_of choice index peek skip pure
number_alone = alone Any EndsValue a_zero (value_node.Plain zero_tree) (r.plain 2) r.plain plain_reading.reads refl

-- so is a name
name_alone : (p : Place) (x : List ℕ) → Alone EndsValue (terminal Name p x) (value_node.Plain (tree p (expr_node.Name x))) r.plain
unfolding r.plain lower expr level unary more more_of choice index peek skip pure
name_alone p x = alone Any EndsValue (terminal Name p x) (value_node.Plain (tree p (expr_node.Name x))) (r.plain 2) r.plain plain_reading.reads refl

value_choice_example : Example Any EndsValue (λ m. peek (λ h. r.value_at m h))
unfolding peek
value_choice_example = example_alone Any EndsValue a_zero (value_node.Plain zero_tree) r.plain _ tt number_alone (λ m ts. refl)

-- a name before what may follow a value is no call
named_clear : (t : Terminal) (h : Option Terminal) (m : ℕ) → EndsValue h → r.named_value m t h ≡ r.plain m
named_clear t None m c = refl
named_clear t (Some u) m c = by u.symbol c
  where
    by : (s : Symbol) → ends_value_by s → r.named_by m t s ≡ r.plain m
    by Open c = absurd c
    by _ c = refl

-- where a name stands next
named_takes : (n : ℕ) (p : Place) (x : List ℕ) → Takes n (terminal Name p x) EndsValue (r.peek_behind (r.named_value n (terminal Name p x))) (λ m. r.peek_behind (r.named_value m (terminal Name p x)))
named_takes n p x = takes_behind n EndsValue (r.named_value n t) (λ h m. r.named_value m t h) t (value_node.Plain (tree p (expr_node.Name x))) (r.plain n) r.plain tt plain_reading.reads (name_alone p x) (named_clear t) each
  where
    t : Terminal
    t = terminal Name p x

    by : (s : Symbol) (q : Place) (y : List ℕ) → Behind n EndsValue (r.named_value n t) (λ h m. r.named_value m t h) (r.plain n) r.plain (Some (terminal s q y))
    by Open q y = both (r.call n t) (λ m. r.call m t) refl (λ m. refl) (within EndsValue (λ h c. tt) (call_reading t)).reads
    by _ q y = same refl (λ m. refl)

    each : (h : Option Terminal) → Behind n EndsValue (r.named_value n t) (λ h m. r.named_value m t h) (r.plain n) r.plain h
    each None = same refl (λ m. refl)
    each (Some u) = by u.symbol u.at u.spelling

-- a value begins with the word of an action, with a name, or as an expression does
value_choice_reads : (n : ℕ) → Reads n Any EndsValue (peek (r.value_at n)) (λ m. peek (λ h. r.value_at m h))
unfolding r.plain lower expr level unary peek fail
value_choice_reads n = reads_begun n Any EndsValue (r.value_at n) (λ h m. r.value_at m h) tt value_choice_example refl (λ m. refl) (λ t. by t.symbol t.at t.spelling)
  where
    by : (s : Symbol) (p : Place) (x : List ℕ) → Begun n EndsValue (r.value_at n) (λ h m. r.value_at m h) (terminal s p x)
    by (Keyword reserved.FetchAndAdd) p x = choose.takes (takes_skip_same n (terminal (Keyword reserved.FetchAndAdd) p x) Any EndsValue _ (λ m. r.fetch_add m (terminal (Keyword reserved.FetchAndAdd) p x)) (fetch_add_reading (terminal (Keyword reserved.FetchAndAdd) p x)).reads)
    by (Keyword reserved.CompareAndSwap) p x = choose.takes (takes_skip_same n (terminal (Keyword reserved.CompareAndSwap) p x) Any EndsValue _ (λ m. r.compare_swap m (terminal (Keyword reserved.CompareAndSwap) p x)) (compare_swap_reading (terminal (Keyword reserved.CompareAndSwap) p x)).reads)
    by Name p x = choose.takes (named_takes n p x)
    by _ p x = begins refl plain_reading.reads

pub value_example : Example Any EndsValue r.value
unfolding r.value
value_example = example_switch Any EndsValue (λ m. peek (λ h. r.value_at m h)) r.value (λ m. refl) value_choice_example

-- a name before a parenthesis is a call, and any other value is an expression
pub value_reads : (n : ℕ) → Reads n Any EndsValue (r.value n) (λ m. r.value m)
unfolding r.value
value_reads zero = reads_none Any EndsValue _ _
value_reads (suc n) = reads_switch (suc n) Any EndsValue _ (λ m. peek (λ h. r.value_at m h)) r.value (λ m. refl) (value_choice_reads (suc n))

pub value_reading : {n : ℕ} → Reading n Any EndsValue (r.value n) r.value
value_reading {n = n} = record { reads = value_reads n; example = value_example }
