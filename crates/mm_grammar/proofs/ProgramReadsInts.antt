-- How the readers of items that begin with "int" read, whether they may declare an input or be a function or not.
use Rattle.std.proofs.Common.{◌≡◌, ℕ, suc, Bool, true, false, List, [], ◌∷◌, Option, Some, None, refl}
use Rattle.mm_goto.specs.declared.ident.At.{At}
use Rattle.mm_goto.specs.declared.pure.Binary.TheVariants as binary
use Rattle.mm_tree.specs.declared.expr.Word.{Word}
use Rattle.mm_tree.specs.declared.item.Gives.TheVariants as gives
use Rattle.mm_tree.specs.declared.item.Global.{Global}
use Rattle.mm_tree.specs.declared.item.Item.{Item}
use Rattle.mm_tree.specs.declared.item.Item.TheVariants as item
use Rattle.mm_reading.specs.Parsing.{◌>>=◌, ◌>>◌, pure, peek}
use Rattle.mm_reading.proofs.Combining.{Family, Reads, Example, reads_pure, reads_bind, takes_skip_same, example_bind}
use Rattle.mm_parse_expr.specs.declared.symbol.Keyword.TheVariants as reserved
use Rattle.mm_parse_expr.specs.declared.symbol.Symbol.{Symbol}
use Rattle.mm_parse_expr.specs.declared.symbol.Symbol.TheVariants.{Name, Keyword, Operator, Semicolon, Open, Close, OpenBrace}
use Rattle.mm_parse_expr.specs.declared.terminal.Terminal.{Terminal}
use Rattle.mm_parse_expr.specs.Grammar.{terminal}
use Rattle.mm_parse_expr.specs.reading.ExprReading.{Reader, close, name_word}
use Rattle.mm_parse_expr.proofs.Follow.{Any}
use Rattle.mm_parse_expr.proofs.ExprReading.{close_reads}
use Rattle.mm_grammar.specs.reading.StatementReading.{is_int, semicolon, others, list}
use Rattle.mm_grammar.specs.reading.ProgramReading as r
use Rattle.mm_grammar.specs.reading.ProgramReading.{is_open_brace}
use Rattle.mm_grammar.proofs.MarkReads.{Follow, semicolon_example, semicolon_reads, name_word_example, name_word_reads}
use Rattle.mm_grammar.proofs.ListReads.{others_example, others_reads}
use Rattle.mm_grammar.proofs.ChoiceReads.{Leaves, AtNext, reads_choice, example_leaving, by_leaving, by_taking, by_failing}
use Rattle.mm_grammar.proofs.ProgramReadsGlobals.{giving_example, giving_reads, scalar_example, scalar_reads, plain_example, plain_reads, global_example, global_reads}
use Rattle.mm_grammar.proofs.ProgramReadsFunctions.{Next, is_name, closed_params_example, closed_params_reads, function_example, function_reads, with_params_reads}
use Rattle.mm_grammar.proofs.StatementComplete.{Marked, marked_by, NoComma}

-- ---- globals

-- a mark that ends a list
abbrev pub Listed : Follow
Listed h = Marked h × NoComma h

module _ (Q : Follow) (q : Family Terminal Global) where
  behind_example : (v : Global) → Example Marked Any (λ m. others r.global_item m >>= λ vs. semicolon >> pure (item.Globals (v ∷ vs)))
  behind_example v = example_bind Marked Listed Any (others r.global_item) _ (others_example Any Marked Listed r.global_item global_reads global_example (λ h c. c.0) (λ h c. c.1))
      (λ vs. giving_example Listed Any (λ m. semicolon) _ (semicolon_example Listed Any (tt, tt)))

  globals_example : Example Q Marked q → Example Q Any (λ m. r.globals m (q m))
  unfolding r.globals
  globals_example x = example_bind Q Marked Any q _ x behind_example

  globals_reads : (n : ℕ) (p : Reader Global) → Reads n Q Marked p q → Reads n Q Any (r.globals n p) (λ m. r.globals m (q m))
  unfolding r.globals
  globals_reads n p d = reads_bind n Q Marked Any p q _ _ d behind_reads behind_example
    where
      behind_reads : (v : Global) → Reads n Marked Any (others r.global_item n >>= λ vs. semicolon >> pure (item.Globals (v ∷ vs))) (λ m. others r.global_item m >>= λ vs. semicolon >> pure (item.Globals (v ∷ vs)))
      behind_reads v = reads_bind n Marked Listed Any (others r.global_item n) (others r.global_item) _ _ (others_reads Any Marked Listed r.global_item global_reads global_example (λ h c. c.0) (λ h c. c.1) n)
          (λ vs. giving_reads n Listed Any semicolon (λ m. semicolon) _ (semicolon_reads n Listed Any (tt, tt)))
          (λ vs. giving_example Listed Any (λ m. semicolon) _ (semicolon_example Listed Any (tt, tt)))

-- no list of parameters stands behind the name
abbrev is_not_open : Symbol → Bool
is_not_open Open = false
is_not_open _ = true

marked_next : (h : Option Terminal) → Marked h → Next is_not_open h
marked_next None c = c
marked_next (Some t) c = by t.symbol c
  where
    by : (s : Symbol) → marked_by s → is_not_open s ≡ true
    by Open c = absurd c
    by _ c = refl

-- ---- functions that give a number

no_params_leave : (may_ask : Bool) (w : Word) → Leaves Any Any (λ h m. r.no_params_at m may_ask w h) (Next is_open_brace) (λ m. r.function m gives.Int w [])
no_params_leave may_ask w None m c = absurd c
no_params_leave may_ask w (Some t) m c = by t.symbol c
  where
    by : (s : Symbol) → is_open_brace s ≡ true → r.no_params_by (suc m) may_ask w s ≡ r.function (suc m) gives.Int w []
    by OpenBrace c = refl
    by _ c = cc

no_params_example : (may_ask : Bool) (w : Word) → Example Any Any (λ m. r.no_params m may_ask w)
unfolding r.no_params
no_params_example may_ask w = example_leaving Any Any (λ h m. r.no_params_at m may_ask w h) (Next is_open_brace) _ (λ h c. tt) (no_params_leave may_ask w) (function_example (Next is_open_brace) refl gives.Int w [])

no_params_reads : (n : ℕ) (may_ask : Bool) (w : Word) → Reads n Any Any (r.no_params n may_ask w) (λ m. r.no_params m may_ask w)
unfolding r.no_params
no_params_reads n may_ask w = reads_choice Any Any (λ h m. r.no_params_at m may_ask w h) n (r.no_params_at n may_ask w) next
  where
    by : (b : Bool) (s : Symbol) (p : At) (x : List ℕ) → AtNext Any Any (λ h m. r.no_params_at m b w h) n (r.no_params_at n b w) (Some (terminal s p x))
    by true Semicolon p x = by_taking Any Any _ n (r.no_params_at n true w) (terminal Semicolon p x) (takes_skip_same n (terminal Semicolon p x) Any Any _ _ (reads_pure n Any (item.InputDecl w.at w.name)))
    by false Semicolon p x = by_failing Any Any _ n (r.no_params_at n false w) (no_params_example false w) (Some (terminal Semicolon p x)) refl (λ m. refl)
    by b s p x = by_leaving Any Any _ n (r.no_params_at n b w) (Next is_open_brace) _ _ (λ h c. tt) (no_params_leave b w) (function_reads (Next is_open_brace) refl n gives.Int w []) (Some (terminal s p x)) refl (λ m. refl)

    next : (h : Option Terminal) → AtNext Any Any (λ h m. r.no_params_at m may_ask w h) n (r.no_params_at n may_ask w) h
    next None = by_failing Any Any _ n (r.no_params_at n may_ask w) (no_params_example may_ask w) None refl (λ m. refl)
    next (Some t) = by may_ask t.symbol t.at t.spelling

abbrev asked_params : Word → Family Terminal Item
asked_params w m = list r.param_item m >>= λ ps. close >> r.function m gives.Int w ps

asked_leaves : (may_ask : Bool) (w : Word) → Leaves Any Any (λ h m. r.asked_at m may_ask w h) (Next is_int) (asked_params w)
asked_leaves may_ask w None m c = absurd c
asked_leaves may_ask w (Some t) m c = by t.symbol c
  where
    by : (s : Symbol) → is_int s ≡ true → r.asked_by (suc m) may_ask w s ≡ asked_params w (suc m)
    by (Keyword reserved.Int) c = refl
    by _ c = cc

asked_example : (may_ask : Bool) (w : Word) → Example Any Any (λ m. r.asked m may_ask w)
unfolding r.asked
asked_example may_ask w = example_leaving Any Any (λ h m. r.asked_at m may_ask w h) (Next is_int) (asked_params w) (λ h c. tt) (asked_leaves may_ask w) (closed_params_example (λ m ps. r.function m gives.Int w ps) (function_example Any tt gives.Int w))

asked_reads : (n : ℕ) (may_ask : Bool) (w : Word) → Reads n Any Any (r.asked n may_ask w) (λ m. r.asked m may_ask w)
unfolding r.asked
asked_reads n may_ask w = reads_choice Any Any (λ h m. r.asked_at m may_ask w h) n (r.asked_at n may_ask w) next
  where
    by : (s : Symbol) (p : At) (x : List ℕ) → AtNext Any Any (λ h m. r.asked_at m may_ask w h) n (r.asked_at n may_ask w) (Some (terminal s p x))
    by Close p x = by_taking Any Any _ n (r.asked_at n may_ask w) (terminal Close p x) (takes_skip_same n (terminal Close p x) Any Any _ _ (no_params_reads n may_ask w))
    by (Keyword reserved.Void) p x = by_taking Any Any _ n (r.asked_at n may_ask w) (terminal (Keyword reserved.Void) p x) (takes_skip_same n (terminal (Keyword reserved.Void) p x) Any Any _ _
        (reads_bind n Any Any Any close (λ m. close) _ _ (close_reads n Any Any tt) (λ u. no_params_reads n may_ask w) (λ u. no_params_example may_ask w)))
    by s p x = by_leaving Any Any _ n (r.asked_at n may_ask w) (Next is_int) _ (asked_params w) (λ h c. tt) (asked_leaves may_ask w)
        (closed_params_reads (λ m ps. r.function m gives.Int w ps) (function_example Any tt gives.Int w) n (function_reads Any tt n gives.Int w)) (Some (terminal s p x)) refl (λ m. refl)

    next : (h : Option Terminal) → AtNext Any Any (λ h m. r.asked_at m may_ask w h) n (r.asked_at n may_ask w) h
    next None = by_failing Any Any _ n (r.asked_at n may_ask w) (asked_example may_ask w) None refl (λ m. refl)
    next (Some t) = by t.symbol t.at t.spelling

-- ---- behind "int" and a name

int_named_leaves : (may_ask may_run : Bool) (w : Word) → Leaves Any Any (λ h m. r.int_named_at m may_ask may_run w h) (Next is_not_open) (λ m. r.globals m (r.plain m w))
int_named_leaves may_ask may_run w None m c = absurd c
int_named_leaves may_ask may_run w (Some t) m c = by t.symbol c
  where
    by : (s : Symbol) → is_not_open s ≡ true → r.int_named_by (suc m) may_ask may_run w s ≡ r.globals (suc m) (r.plain (suc m) w)
    by Open c = cc
    by _ c = refl

int_named_example : (may_ask may_run : Bool) (w : Word) → Example Any Any (λ m. peek (r.int_named_at m may_ask may_run w))
int_named_example may_ask may_run w = example_leaving Any Any (λ h m. r.int_named_at m may_ask may_run w h) (Next is_not_open) _ (λ h c. tt) (int_named_leaves may_ask may_run w)
    (globals_example (Next is_not_open) (λ m. r.plain m w) (plain_example w (Next is_not_open) marked_next))

int_named_reads : (n : ℕ) (may_ask may_run : Bool) (w : Word) → Reads n Any Any (peek (r.int_named_at n may_ask may_run w)) (λ m. peek (r.int_named_at m may_ask may_run w))
int_named_reads n may_ask may_run w = reads_choice Any Any (λ h m. r.int_named_at m may_ask may_run w h) n (r.int_named_at n may_ask may_run w) next
  where
    by : (b : Bool) (s : Symbol) (p : At) (x : List ℕ) → AtNext Any Any (λ h m. r.int_named_at m may_ask b w h) n (r.int_named_at n may_ask b w) (Some (terminal s p x))
    by true Open p x = by_taking Any Any _ n (r.int_named_at n may_ask true w) (terminal Open p x) (takes_skip_same n (terminal Open p x) Any Any _ _ (asked_reads n may_ask w))
    by false Open p x = by_failing Any Any _ n (r.int_named_at n may_ask false w) (int_named_example may_ask false w) (Some (terminal Open p x)) refl (λ m. refl)
    by b s p x = by_leaving Any Any _ n (r.int_named_at n may_ask b w) (Next is_not_open) _ _ (λ h c. tt) (int_named_leaves may_ask b w)
        (globals_reads (Next is_not_open) (λ m. r.plain m w) n (r.plain n w) (plain_reads w (Next is_not_open) marked_next n)) (Some (terminal s p x)) refl (λ m. refl)

    next : (h : Option Terminal) → AtNext Any Any (λ h m. r.int_named_at m may_ask may_run w h) n (r.int_named_at n may_ask may_run w) h
    next None = by_failing Any Any _ n (r.int_named_at n may_ask may_run w) (int_named_example may_ask may_run w) None refl (λ m. refl)
    next (Some t) = by may_run t.symbol t.at t.spelling

-- ---- behind "int", "*" and a name

pointer_leaves : (may_run : Bool) (w : Word) → Leaves Any Any (λ h m. r.pointer_at m may_run w h) (Next is_not_open) (λ m. r.globals m (r.scalar true w))
pointer_leaves may_run w None m c = absurd c
pointer_leaves may_run w (Some t) m c = by t.symbol c
  where
    by : (s : Symbol) → is_not_open s ≡ true → r.pointer_by (suc m) may_run w s ≡ r.globals (suc m) (r.scalar true w)
    by Open c = cc
    by _ c = refl

pointer_example : (may_run : Bool) (w : Word) → Example Any Any (λ m. peek (r.pointer_at m may_run w))
pointer_example may_run w = example_leaving Any Any (λ h m. r.pointer_at m may_run w h) (Next is_not_open) _ (λ h c. tt) (pointer_leaves may_run w)
    (globals_example (Next is_not_open) (λ m. r.scalar true w) (scalar_example true w (Next is_not_open) marked_next))

pointer_reads : (n : ℕ) (may_run : Bool) (w : Word) → Reads n Any Any (peek (r.pointer_at n may_run w)) (λ m. peek (r.pointer_at m may_run w))
pointer_reads n may_run w = reads_choice Any Any (λ h m. r.pointer_at m may_run w h) n (r.pointer_at n may_run w) next
  where
    by : (b : Bool) (s : Symbol) (p : At) (x : List ℕ) → AtNext Any Any (λ h m. r.pointer_at m b w h) n (r.pointer_at n b w) (Some (terminal s p x))
    by true Open p x = by_taking Any Any _ n (r.pointer_at n true w) (terminal Open p x) (takes_skip_same n (terminal Open p x) Any Any _ _ (with_params_reads n gives.Pointer w))
    by false Open p x = by_failing Any Any _ n (r.pointer_at n false w) (pointer_example false w) (Some (terminal Open p x)) refl (λ m. refl)
    by b s p x = by_leaving Any Any _ n (r.pointer_at n b w) (Next is_not_open) _ _ (λ h c. tt) (pointer_leaves b w)
        (globals_reads (Next is_not_open) (λ m. r.scalar true w) n (r.scalar true w) (scalar_reads true w (Next is_not_open) marked_next n)) (Some (terminal s p x)) refl (λ m. refl)

    next : (h : Option Terminal) → AtNext Any Any (λ h m. r.pointer_at m may_run w h) n (r.pointer_at n may_run w) h
    next None = by_failing Any Any _ n (r.pointer_at n may_run w) (pointer_example may_run w) None refl (λ m. refl)
    next (Some t) = by may_run t.symbol t.at t.spelling

-- ---- behind "int"

int_leaves : (may_ask may_run : Bool) → Leaves Any Any (λ h m. r.int_at m may_ask may_run h) (Next is_name) (λ m. name_word >>= λ w. peek (r.int_named_at m may_ask may_run w))
int_leaves may_ask may_run None m c = absurd c
int_leaves may_ask may_run (Some t) m c = by t.symbol c
  where
    by : (s : Symbol) → is_name s ≡ true → r.int_by (suc m) may_ask may_run s ≡ (name_word >>= λ w. peek (r.int_named_at (suc m) may_ask may_run w))
    by Name c = refl
    by _ c = cc

pub int_example : (may_ask may_run : Bool) → Example Any Any (λ m. r.int_item m may_ask may_run)
unfolding r.int_item
int_example may_ask may_run = example_leaving Any Any (λ h m. r.int_at m may_ask may_run h) (Next is_name) _ (λ h c. tt) (int_leaves may_ask may_run)
    (example_bind (Next is_name) Any Any (λ m. name_word) _ (name_word_example (Next is_name) Any refl) (int_named_example may_ask may_run))

pub int_reads : (n : ℕ) (may_ask may_run : Bool) → Reads n Any Any (r.int_item n may_ask may_run) (λ m. r.int_item m may_ask may_run)
unfolding r.int_item
int_reads n may_ask may_run = reads_choice Any Any (λ h m. r.int_at m may_ask may_run h) n (r.int_at n may_ask may_run) next
  where
    by : (s : Symbol) (p : At) (x : List ℕ) → AtNext Any Any (λ h m. r.int_at m may_ask may_run h) n (r.int_at n may_ask may_run) (Some (terminal s p x))
    by (Operator binary.Mul) p x = by_taking Any Any _ n (r.int_at n may_ask may_run) (terminal (Operator binary.Mul) p x) (takes_skip_same n (terminal (Operator binary.Mul) p x) Any Any _ _
        (reads_bind n Any Any Any name_word (λ m. name_word) _ _ (name_word_reads n Any Any tt) (pointer_reads n may_run) (pointer_example may_run)))
    by s p x = by_leaving Any Any _ n (r.int_at n may_ask may_run) (Next is_name) _ _ (λ h c. tt) (int_leaves may_ask may_run)
        (reads_bind n (Next is_name) Any Any name_word (λ m. name_word) _ _ (name_word_reads n (Next is_name) Any refl) (int_named_reads n may_ask may_run) (int_named_example may_ask may_run)) (Some (terminal s p x)) refl (λ m. refl)

    next : (h : Option Terminal) → AtNext Any Any (λ h m. r.int_at m may_ask may_run h) n (r.int_at n may_ask may_run) h
    next None = by_failing Any Any _ n (r.int_at n may_ask may_run) (int_example may_ask may_run) None refl (λ m. refl)
    next (Some t) = by t.symbol t.at t.spelling
