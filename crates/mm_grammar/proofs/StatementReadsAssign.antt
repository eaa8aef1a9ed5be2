-- How the readers of assignments and declarations read, and of the parts of statements.
use Rattle.std.proofs.Common.{◌≡◌, ℕ, suc, List, Bool, Option, Some, None, refl}
use Rattle.mm_goto.specs.declared.ident.At.{At as Place}
use Rattle.mm_goto.specs.declared.pure.Binary.TheVariants as binary
use Rattle.mm_tree.specs.declared.expr.Word.{Word}
use Rattle.mm_tree.specs.declared.stmt.Left.{Left}
use Rattle.mm_tree.specs.declared.stmt.StmtNode.TheVariants as node
use Rattle.mm_reading.specs.Parsing.{◌>>=◌, ◌>>◌, pure, fail, peek, skip}
use Rattle.mm_reading.proofs.Combining.{Example, Branch, takes, fails, ends, reads_peek, reads_pure, takes_skip_same, example_pure, example_end}
use Rattle.mm_parse_expr.specs.declared.symbol.Keyword.TheVariants as reserved
use Rattle.mm_parse_expr.specs.declared.symbol.Symbol.{Symbol}
use Rattle.mm_parse_expr.specs.declared.symbol.Symbol.TheVariants.{Keyword, Update, Increment, Decrement, Assign, Semicolon, Close}
use Rattle.mm_parse_expr.specs.declared.terminal.Terminal.{Terminal}
use Rattle.mm_parse_expr.specs.Grammar.{terminal}
use Rattle.mm_parse_expr.specs.reading.ExprReading.{lower, expr, level, unary}
use Rattle.mm_parse_expr.proofs.Follow.{Any, Stops, Ends, ends_stop}
use Rattle.mm_grammar.specs.StatementGrammar.{one}
use Rattle.mm_tree.specs.Trees.{local}
use Rattle.mm_grammar.specs.reading.StatementReading as r
use Rattle.mm_grammar.proofs.MarkReads.{Follow, sample, NotStar, star_reads, star_example}
use Rattle.mm_grammar.proofs.StatementReadsChoice as choose
use Rattle.mm_grammar.proofs.StatementReadsChoice.{Begun, begins, example_taken, reads_begun}
use Rattle.mm_grammar.proofs.StatementReadsParts.{Reading, bound, within, done, close_reading, semicolon_reading, int_reading, name_reading, expr_reading, Listed, list_reading}
use Rattle.mm_grammar.proofs.StatementReadsValue.{EndsValue, ends_value_by, value_ends, left_reading, value_reading}

-- ---- assignments

value_stops : (h : Option Terminal) → EndsValue h → Stops 0 h
value_stops h c = ends_stop 0 h (value_ends h c)

set_example : (l : Left) → Example (Stops 0) EndsValue (λ m. r.set m l)
unfolding r.set peek skip
set_example l = example_taken (Stops 0) EndsValue EndsValue (sample Increment) (λ m. r.set m l) (λ m. pure (node.Update l binary.Add (one (sample Increment).at))) tt (λ m ts. refl) (example_pure EndsValue _)

-- behind a left side
pub set_reading : {n : ℕ} (l : Left) → Reading n (Stops 0) EndsValue (r.set n l) (λ m. r.set m l)
unfolding r.set
set_reading {n = n} l = record { reads = reads_peek n (Stops 0) EndsValue (r.set_at n l) (λ h m. r.set_at m l h) (set_example l) branch; example = set_example l }
  where
    by : (s : Symbol) (p : Place) (x : List ℕ) → Branch n (Stops 0) EndsValue (r.set_at n l) (λ h m. r.set_at m l h) (Some (terminal s p x))
    by Assign p x = takes (takes_skip_same n (terminal Assign p x) Any EndsValue _ (λ m. r.value m >>= λ v. pure (node.Assign l v)) (bound value_reading (λ v. done _)).reads)
    by (Update op) p x = takes (takes_skip_same n (terminal (Update op) p x) Any EndsValue _ (λ m. r.expr m >>= λ e. pure (node.Update l op e)) (within EndsValue value_ends (bound expr_reading (λ e. done _))).reads)
    by Increment p x = takes (takes_skip_same n (terminal Increment p x) EndsValue EndsValue _ _ (reads_pure n EndsValue _))
    by Decrement p x = takes (takes_skip_same n (terminal Decrement p x) EndsValue EndsValue _ _ (reads_pure n EndsValue _))
    by _ p x = fails refl (λ m. refl)

    branch : (h : Option Terminal) → Branch n (Stops 0) EndsValue (r.set_at n l) (λ h m. r.set_at m l h) h
    branch None = fails refl (λ m. refl)
    branch (Some t) = by t.symbol t.at t.spelling

pub increment_reading : {n : ℕ} (t : Terminal) → Reading n Any EndsValue (r.increment n t) (λ m. r.increment m t)
unfolding r.increment
increment_reading t = within EndsValue value_stops (bound left_reading (λ l. done _))

pub decrement_reading : {n : ℕ} (t : Terminal) → Reading n Any EndsValue (r.decrement n t) (λ m. r.decrement m t)
unfolding r.decrement
decrement_reading t = within EndsValue value_stops (bound left_reading (λ l. done _))

assign_example : Example Any EndsValue r.assign
unfolding r.assign peek skip
assign_example = example_taken Any Any EndsValue (sample Increment) r.assign (λ m. r.increment m (sample Increment)) tt (λ m ts. refl) (increment_reading {n = 0} (sample Increment)).example

pub assign_reading : {n : ℕ} → Reading n Any EndsValue (r.assign n) r.assign
unfolding r.assign r.left peek fail
assign_reading {n = n} = record { reads = reads_begun n Any EndsValue (r.assign_at n) (λ h m. r.assign_at m h) tt assign_example refl (λ m. refl) (λ t. by t.symbol t.at t.spelling); example = assign_example }
  where
    by : (s : Symbol) (p : Place) (x : List ℕ) → Begun n EndsValue (r.assign_at n) (λ h m. r.assign_at m h) (terminal s p x)
    by Increment p x = choose.takes (takes_skip_same n (terminal Increment p x) Any EndsValue _ (λ m. r.increment m (terminal Increment p x)) (increment_reading (terminal Increment p x)).reads)
    by Decrement p x = choose.takes (takes_skip_same n (terminal Decrement p x) Any EndsValue _ (λ m. r.decrement m (terminal Decrement p x)) (decrement_reading (terminal Decrement p x)).reads)
    by _ p x = begins refl (bound left_reading (λ l. set_reading l)).reads

-- ---- declarations

abbrev pub ends_local_by : Symbol → Type 0
ends_local_by Assign = ⊥
ends_local_by s = ends_value_by s

-- no declared variable goes on with it
abbrev pub EndsLocal : Follow
EndsLocal None = Unit {0}
EndsLocal (Some t) = ends_local_by t.symbol

local_ends : (h : Option Terminal) → EndsLocal h → EndsValue h
local_ends None c = tt
local_ends (Some t) c = by t.symbol c
  where
    by : (s : Symbol) → ends_local_by s → ends_value_by s
    by Assign c = tt
    by _ c = c

-- what may follow a declared variable gives it no value
local_clear : (b : Bool) (w : Word) (h : Option Terminal) (m : ℕ) → EndsLocal h → r.local_at m b w h ≡ pure (local w.at b w.name None)
local_clear b w None m c = refl
local_clear b w (Some t) m c = by t.symbol c
  where
    by : (s : Symbol) → ends_local_by s → r.local_by m b w s ≡ pure (local w.at b w.name None)
    by Assign c = absurd c
    by _ c = refl

-- behind the name
given_local : {n : ℕ} (b : Bool) (w : Word) → Reading n Any EndsLocal (peek (r.local_at n b w)) (λ m. peek (r.local_at m b w))
given_local {n = n} b w = record { reads = reads_peek n Any EndsLocal (r.local_at n b w) (λ h m. r.local_at m b w h) ex branch; example = ex }
  where
    ex : Example Any EndsLocal (λ m. peek (r.local_at m b w))
    ex = example_end Any EndsLocal _ (λ h m. r.local_at m b w h) (local w.at b w.name None) (λ m. refl) (λ h m c. local_clear b w h (suc m) c) (λ h c. tt)

    by : (s : Symbol) (p : Place) (x : List ℕ) → Branch n Any EndsLocal (r.local_at n b w) (λ h m. r.local_at m b w h) (Some (terminal s p x))
    by Assign p x = takes (takes_skip_same n (terminal Assign p x) Any EndsLocal _ (λ m. r.value m >>= λ v. pure (local w.at b w.name (Some v))) (within EndsLocal local_ends (bound value_reading (λ v. done _))).reads)
    by _ p x = ends _ refl (λ m. refl) (λ h m c. local_clear b w h (suc m) c) (λ h c. tt)

    branch : (h : Option Terminal) → Branch n Any EndsLocal (r.local_at n b w) (λ h m. r.local_at m b w h) h
    branch None = ends _ refl (λ m. refl) (λ h m c. local_clear b w h (suc m) c) (λ h c. tt)
    branch (Some t) = by t.symbol t.at t.spelling

star_reading : {n : ℕ} → Reading n Any NotStar r.star (λ m. r.star)
star_reading {n = n} = record { reads = star_reads n; example = star_example }

local_reading : {n : ℕ} → Reading n Any EndsLocal (r.local_item n) r.local_item
unfolding r.local_item
local_reading = bound star_reading (λ b. bound (name_reading NotStar tt) (λ w. given_local b w))

pub ints_reading : {n : ℕ} {C : Follow} → Reading n Any C (r.ints n) r.ints
unfolding r.ints
ints_reading {n = n} = bound (list_reading (λ n. local_reading) n) (λ ls. bound (semicolon_reading (Listed EndsLocal) (tt, tt)) (λ u. done _))

pub threads_reading : {n : ℕ} {C : Follow} → Reading n Any C (r.threads n) r.threads
unfolding r.threads
threads_reading {n = n} = bound (list_reading {item = r.name_item} (λ n. name_reading {C = Any} Any tt) n) (λ ws. bound (semicolon_reading (Listed Any) (tt, tt)) (λ u. done _))

-- ---- the parts of statements

first_example : Example Any Any r.first
unfolding r.first peek skip
first_example = example_taken Any Any Any (sample Semicolon) r.first (λ m. pure None) tt (λ m ts. refl) (example_pure Any None)

pub first_reading : {n : ℕ} → Reading n Any Any (r.first n) r.first
unfolding r.first r.assign r.left peek fail
first_reading {n = n} = record { reads = reads_begun n Any Any (r.first_at n) (λ h m. r.first_at m h) tt first_example refl (λ m. refl) (λ t. by t.symbol t.at t.spelling); example = first_example }
  where
    by : (s : Symbol) (p : Place) (x : List ℕ) → Begun n Any (r.first_at n) (λ h m. r.first_at m h) (terminal s p x)
    by Semicolon p x = choose.takes (takes_skip_same n (terminal Semicolon p x) Any Any _ _ (reads_pure n Any None))
    by (Keyword reserved.Int) p x = choose.takes (takes_skip_same n (terminal (Keyword reserved.Int) p x) Any Any _ (λ m. r.ints m >>= λ d. pure (r.as_first p d)) (bound ints_reading (λ d. done _)).reads)
    by (Keyword reserved.Volatile) p x = choose.takes (takes_skip_same n (terminal (Keyword reserved.Volatile) p x) Any Any _ (λ m. (r.int_word >> r.ints m) >>= λ d. pure (r.as_first p d)) (bound (bound int_reading (λ u. ints_reading)) (λ d. done _)).reads)
    by (Keyword reserved.Thread) p x = choose.takes (takes_skip_same n (terminal (Keyword reserved.Thread) p x) Any Any _ (λ m. r.threads m >>= λ d. pure (r.as_first p d)) (bound threads_reading (λ d. done _)).reads)
    by _ p x = begins refl (bound assign_reading (λ d. bound (semicolon_reading EndsValue tt) (λ u. done _))).reads

condition_example : Example Any Any r.condition
unfolding r.condition peek skip
condition_example = example_taken Any Any Any (sample Semicolon) r.condition (λ m. pure (one (sample Semicolon).at)) tt (λ m ts. refl) (example_pure Any _)

pub condition_reading : {n : ℕ} → Reading n Any Any (r.condition n) r.condition
unfolding r.condition lower expr level unary peek fail
condition_reading {n = n} = record { reads = reads_begun n Any Any (r.condition_at n) (λ h m. r.condition_at m h) tt condition_example refl (λ m. refl) (λ t. by t.symbol t.at t.spelling); example = condition_example }
  where
    by : (s : Symbol) (p : Place) (x : List ℕ) → Begun n Any (r.condition_at n) (λ h m. r.condition_at m h) (terminal s p x)
    by Semicolon p x = choose.takes (takes_skip_same n (terminal Semicolon p x) Any Any _ _ (reads_pure n Any _))
    by _ p x = begins refl (bound expr_reading (λ e. bound (semicolon_reading Ends tt) (λ u. done _))).reads

step_example : Example Any Any r.step
unfolding r.step peek skip
step_example = example_taken Any Any Any (sample Close) r.step (λ m. pure None) tt (λ m ts. refl) (example_pure Any None)

pub step_reading : {n : ℕ} → Reading n Any Any (r.step n) r.step
unfolding r.step r.assign r.left peek fail
step_reading {n = n} = record { reads = reads_begun n Any Any (r.step_at n) (λ h m. r.step_at m h) tt step_example refl (λ m. refl) (λ t. by t.symbol t.at t.spelling); example = step_example }
  where
    by : (s : Symbol) (p : Place) (x : List ℕ) → Begun n Any (r.step_at n) (λ h m. r.step_at m h) (terminal s p x)
    by Close p x = choose.takes (takes_skip_same n (terminal Close p x) Any Any _ _ (reads_pure n Any None))
    by _ p x = begins refl (bound assign_reading (λ d. bound (close_reading EndsValue tt) (λ u. done _))).reads

given_example : Example Any Any r.given
unfolding r.given peek skip
given_example = example_taken Any Any Any (sample Semicolon) r.given (λ m. pure None) tt (λ m ts. refl) (example_pure Any None)

pub given_reading : {n : ℕ} → Reading n Any Any (r.given n) r.given
unfolding r.given r.value peek fail
given_reading {n = n} = record { reads = reads_begun n Any Any (r.given_at n) (λ h m. r.given_at m h) tt given_example refl (λ m. refl) (λ t. by t.symbol t.at t.spelling); example = given_example }
  where
    by : (s : Symbol) (p : Place) (x : List ℕ) → Begun n Any (r.given_at n) (λ h m. r.given_at m h) (terminal s p x)
    by Semicolon p x = choose.takes (takes_skip_same n (terminal Semicolon p x) Any Any _ _ (reads_pure n Any None))
    by _ p x = begins refl (bound value_reading (λ v. bound (semicolon_reading EndsValue tt) (λ u. done _))).reads
