-- How the readers of functions read, over any reader of their bodies.
use Rattle.std.proofs.Common.{◌≡◌, ℕ, suc, Bool, true, false, List, [], Option, Some, None, refl}
use Rattle.mm_goto.specs.declared.ident.At.{At}
use Rattle.mm_goto.specs.declared.pure.Binary.TheVariants as binary
use Rattle.mm_tree.specs.declared.expr.Word.{Word}
use Rattle.mm_tree.specs.declared.item.Gives.{Gives}
use Rattle.mm_tree.specs.declared.item.Gives.TheVariants as gives
use Rattle.mm_tree.specs.declared.item.Param.{Param}
use Rattle.mm_reading.specs.Parsing.{◌>>=◌, ◌>>◌, pure, peek, skip}
use Rattle.mm_reading.proofs.Combining.{Reads, Takes, Example, Branch, takes, fails, reads_pure, reads_bind, reads_peek, takes_skip_same, example_pure, example_bind, example_token}
use Rattle.mm_parse_expr.specs.declared.symbol.Keyword.TheVariants as reserved
use Rattle.mm_parse_expr.specs.declared.symbol.Symbol.{Symbol}
use Rattle.mm_parse_expr.specs.declared.symbol.Symbol.TheVariants.{Name, Keyword, Operator, Close, OpenBrace}
use Rattle.mm_parse_expr.specs.declared.terminal.Terminal.{Terminal}
use Rattle.mm_parse_expr.specs.Grammar.{terminal}
use Rattle.mm_parse_expr.specs.reading.ExprReading.{Reader, close, name_word}
use Rattle.mm_parse_expr.proofs.Follow.{Any}
use Rattle.mm_parse_expr.proofs.ExprReading.{close_example, close_reads}
use Rattle.mm_tree.specs.Trees.{param}
use Rattle.mm_grammar.specs.reading.StatementReading.{is_int, int_word, open_mark, list, star, body}
use Rattle.mm_grammar.specs.reading.ProgramReading as r
use Rattle.mm_grammar.proofs.MarkReads.{Follow, sample, open_example, open_reads, int_word_example, int_word_reads, name_word_example, name_word_reads, NotStar, star_example, star_reads}
use Rattle.mm_grammar.proofs.ListReads.{list_example, list_reads}
use Rattle.mm_grammar.proofs.ChoiceReads.{Leaves, AtNext, reads_choice, example_leaving, by_leaving, by_taking, by_failing}
use Rattle.mm_grammar.proofs.ProgramReadsGlobals.{giving_example, giving_reads, open_brace_example, open_brace_reads}
use Rattle.mm_grammar.proofs.StatementComplete.{NoComma}
use Rattle.mm_grammar.proofs.StatementReads.{body_reads, body_example}

-- a terminal stands next, and the test holds of it
abbrev pub Next : (Symbol → Bool) → Follow
Next is None = ⊥
Next is (Some t) = is t.symbol ≡ true

abbrev pub is_name : Symbol → Bool
is_name Name = true
is_name _ = false

-- ---- parameters

module _ (C : Follow) where
  one_param_reads : (n : ℕ) → Reads n Any C (star >>= λ b. name_word >>= λ w. pure (param b w.at w.name)) (λ m. star >>= λ b. name_word >>= λ w. pure (param b w.at w.name))
  one_param_reads n = reads_bind n Any NotStar C star (λ m. star) _ _ (star_reads n)
      (λ b. giving_reads n NotStar C name_word (λ m. name_word) (λ w. param b w.at w.name) (name_word_reads n NotStar C tt))
      (λ b. giving_example NotStar C (λ m. name_word) (λ w. param b w.at w.name) (name_word_example NotStar C tt))

  one_param_example : Example Any C (λ m. star >>= λ b. name_word >>= λ w. pure (param b w.at w.name))
  one_param_example = example_bind Any NotStar C (λ m. star) _ star_example (λ b. giving_example NotStar C (λ m. name_word) (λ w. param b w.at w.name) (name_word_example NotStar C tt))

  param_example : Example (Next is_int) C r.param_item
  unfolding r.param_item
  param_example = example_bind (Next is_int) Any C (λ m. int_word) _ (int_word_example (Next is_int) Any refl) (λ u. one_param_example)

  param_reads : (n : ℕ) → Reads n (Next is_int) C (r.param_item n) r.param_item
  unfolding r.param_item
  param_reads n = reads_bind n (Next is_int) Any C int_word (λ m. int_word) _ _ (int_word_reads n (Next is_int) Any refl) (λ u. one_param_reads n) (λ u. one_param_example)

params_list_example : Example (Next is_int) NoComma (list r.param_item)
params_list_example = list_example (Next is_int) Any NoComma r.param_item (param_reads Any) (param_example Any) (λ h c. tt) (λ h c. c)

params_list_reads : (n : ℕ) → Reads n (Next is_int) NoComma (list r.param_item n) (list r.param_item)
params_list_reads = list_reads (Next is_int) Any NoComma r.param_item (param_reads Any) (param_example Any) (λ h c. tt) (λ h c. c)

-- parameters, ")", and then f of them
module _ {B : Type 0} (f : ℕ → List Param → Reader B) (example : (ps : List Param) → Example Any Any (λ m. f m ps)) where
  pub closed_params_example : Example (Next is_int) Any (λ m. list r.param_item m >>= λ ps. close >> f m ps)
  closed_params_example = example_bind (Next is_int) NoComma Any (list r.param_item) _ params_list_example (λ ps. example_bind NoComma Any Any (λ m. close) _ (close_example NoComma Any tt) (λ u. example ps))

  pub closed_params_reads : (n : ℕ) → ((ps : List Param) → Reads n Any Any (f n ps) (λ m. f m ps)) → Reads n (Next is_int) Any (list r.param_item n >>= λ ps. close >> f n ps) (λ m. list r.param_item m >>= λ ps. close >> f m ps)
  closed_params_reads n reads = reads_bind n (Next is_int) NoComma Any (list r.param_item n) (list r.param_item) _ _ (params_list_reads n)
      (λ ps. reads_bind n NoComma Any Any close (λ m. close) _ _ (close_reads n NoComma Any tt) (λ u. reads ps) (λ u. example ps))
      (λ ps. example_bind NoComma Any Any (λ m. close) _ (close_example NoComma Any tt) (λ u. example ps))

close_takes : {A : Type 0} (n : ℕ) (p : At) (x : List ℕ) (a : A) → Takes n (terminal Close p x) Any (skip >> pure a) (λ m. skip >> pure a)
close_takes n p x a = takes_skip_same n (terminal Close p x) Any Any _ _ (reads_pure n Any a)

params_leave : Leaves Any Any (λ h m. r.params_at m h) (Next is_int) (λ m. list r.param_item m >>= λ ps. close >> pure ps)
params_leave None m c = absurd c
params_leave (Some t) m c = by t.symbol c
  where
    by : (s : Symbol) → is_int s ≡ true → r.params_by (suc m) s ≡ (list r.param_item (suc m) >>= λ ps. close >> pure ps)
    by (Keyword reserved.Int) c = refl
    by _ c = cc

params_example : Example Any Any r.params
unfolding r.params
params_example = example_leaving Any Any (λ h m. r.params_at m h) (Next is_int) _ (λ h c. tt) params_leave (closed_params_example (λ m ps. pure ps) (λ ps. example_pure Any ps))

params_reads : (n : ℕ) → Reads n Any Any (r.params n) r.params
unfolding r.params
params_reads n = reads_choice Any Any (λ h m. r.params_at m h) n (r.params_at n) next
  where
    by : (s : Symbol) (p : At) (x : List ℕ) → AtNext Any Any (λ h m. r.params_at m h) n (r.params_at n) (Some (terminal s p x))
    by Close p x = by_taking Any Any (λ h m. r.params_at m h) n (r.params_at n) (terminal Close p x) (close_takes n p x [])
    by (Keyword reserved.Void) p x = by_taking Any Any (λ h m. r.params_at m h) n (r.params_at n) (terminal (Keyword reserved.Void) p x)
        (takes_skip_same n (terminal (Keyword reserved.Void) p x) Any Any _ _ (giving_reads n Any Any close (λ m. close) _ (close_reads n Any Any tt)))
    by s p x = by_leaving Any Any (λ h m. r.params_at m h) n (r.params_at n) (Next is_int) _ _ (λ h c. tt) params_leave
        (closed_params_reads (λ m ps. pure ps) (λ ps. example_pure Any ps) n (λ ps. reads_pure n Any ps)) (Some (terminal s p x)) refl (λ m. refl)

    next : (h : Option Terminal) → AtNext Any Any (λ h m. r.params_at m h) n (r.params_at n) h
    next None = by_failing Any Any (λ h m. r.params_at m h) n (r.params_at n) params_example None refl (λ m. refl)
    next (Some t) = by t.symbol t.at t.spelling

-- ---- parameters of thread functions

name_of_param_example : Example Any Any (λ m. peek r.name_of_param_at)
unfolding peek skip pure
name_of_param_example = example_token Any Any Any (sample Close) _ (λ m. pure []) tt (λ m ts. refl) (example_pure Any [])

name_of_param_reads : (n : ℕ) → Reads n Any Any (peek r.name_of_param_at) (λ m. peek r.name_of_param_at)
name_of_param_reads n = reads_peek n Any Any r.name_of_param_at (λ h m. r.name_of_param_at h) name_of_param_example branch
  where
    by : (s : Symbol) (p : At) (x : List ℕ) → Branch n Any Any r.name_of_param_at (λ h m. r.name_of_param_at h) (Some (terminal s p x))
    by Close p x = takes (close_takes n p x [])
    by Name p x = takes (takes_skip_same n (terminal Name p x) Any Any _ _ (giving_reads n Any Any close (λ m. close) _ (close_reads n Any Any tt)))
    by _ p x = fails refl (λ m. refl)

    branch : (h : Option Terminal) → Branch n Any Any r.name_of_param_at (λ h m. r.name_of_param_at h) h
    branch None = fails refl (λ m. refl)
    branch (Some t) = by t.symbol t.at t.spelling

behind_void_example : Example Any Any (λ m. peek r.behind_void_at)
unfolding peek skip pure
behind_void_example = example_token Any Any Any (sample Close) _ (λ m. pure []) tt (λ m ts. refl) (example_pure Any [])

behind_void_reads : (n : ℕ) → Reads n Any Any (peek r.behind_void_at) (λ m. peek r.behind_void_at)
behind_void_reads n = reads_peek n Any Any r.behind_void_at (λ h m. r.behind_void_at h) behind_void_example branch
  where
    by : (s : Symbol) (p : At) (x : List ℕ) → Branch n Any Any r.behind_void_at (λ h m. r.behind_void_at h) (Some (terminal s p x))
    by Close p x = takes (close_takes n p x [])
    by (Operator binary.Mul) p x = takes (takes_skip_same n (terminal (Operator binary.Mul) p x) Any Any _ _ (name_of_param_reads n))
    by _ p x = fails refl (λ m. refl)

    branch : (h : Option Terminal) → Branch n Any Any r.behind_void_at (λ h m. r.behind_void_at h) h
    branch None = fails refl (λ m. refl)
    branch (Some t) = by t.symbol t.at t.spelling

thread_params_example : Example Any Any (λ m. r.thread_params)
unfolding r.thread_params peek skip pure
thread_params_example = example_token Any Any Any (sample Close) _ (λ m. pure []) tt (λ m ts. refl) (example_pure Any [])

thread_params_reads : (n : ℕ) → Reads n Any Any r.thread_params (λ m. r.thread_params)
unfolding r.thread_params
thread_params_reads n = reads_peek n Any Any r.thread_params_at (λ h m. r.thread_params_at h) thread_params_example branch
  where
    by : (s : Symbol) (p : At) (x : List ℕ) → Branch n Any Any r.thread_params_at (λ h m. r.thread_params_at h) (Some (terminal s p x))
    by Close p x = takes (close_takes n p x [])
    by (Keyword reserved.Void) p x = takes (takes_skip_same n (terminal (Keyword reserved.Void) p x) Any Any _ _ (behind_void_reads n))
    by _ p x = fails refl (λ m. refl)

    branch : (h : Option Terminal) → Branch n Any Any r.thread_params_at (λ h m. r.thread_params_at h) h
    branch None = fails refl (λ m. refl)
    branch (Some t) = by t.symbol t.at t.spelling

-- ---- functions

pub function_example : (P : Follow) → P (Some (sample OpenBrace)) → (kind : Gives) (w : Word) (ps : List Param) → Example P Any (λ m. r.function m kind w ps)
unfolding r.function
function_example P first kind w ps = example_bind P Any Any (λ m. r.open_brace) _ (open_brace_example P Any first) (λ u. giving_example Any Any (λ m. body m) _ body_example)

pub function_reads : (P : Follow) → P (Some (sample OpenBrace)) → (n : ℕ) (kind : Gives) (w : Word) (ps : List Param) → Reads n P Any (r.function n kind w ps) (λ m. r.function m kind w ps)
unfolding r.function
function_reads P first n kind w ps = reads_bind n P Any Any r.open_brace (λ m. r.open_brace) _ _ (open_brace_reads n P Any first)
    (λ u. giving_reads n Any Any (body n) (λ m. body m) _ (body_reads n)) (λ u. giving_example Any Any (λ m. body m) _ body_example)

pub with_params_example : (kind : Gives) (w : Word) → Example Any Any (λ m. r.with_params m kind w)
unfolding r.with_params
with_params_example kind w = example_bind Any Any Any r.params _ params_example (λ ps. function_example Any tt kind w ps)

pub with_params_reads : (n : ℕ) (kind : Gives) (w : Word) → Reads n Any Any (r.with_params n kind w) (λ m. r.with_params m kind w)
unfolding r.with_params
with_params_reads n kind w = reads_bind n Any Any Any (r.params n) r.params _ _ (params_reads n) (function_reads Any tt n kind w) (function_example Any tt kind w)

thread_function_reads : (n : ℕ) → Reads n Any Any (r.thread_function n) r.thread_function
unfolding r.thread_function
thread_function_reads n = reads_bind n Any Any Any name_word (λ m. name_word) _ _ (name_word_reads n Any Any tt)
    (λ w. reads_bind n Any Any Any open_mark (λ m. open_mark) _ _ (open_reads n Any Any tt) (λ u. given_reads w) (λ u. given_example w))
    (λ w. example_bind Any Any Any (λ m. open_mark) _ (open_example Any Any tt) (λ u. given_example w))
  where
    given_example : (w : Word) → Example Any Any (λ m. r.thread_params >>= r.function m gives.Thread w)
    given_example w = example_bind Any Any Any (λ m. r.thread_params) _ thread_params_example (function_example Any tt gives.Thread w)

    given_reads : (w : Word) → Reads n Any Any (r.thread_params >>= r.function n gives.Thread w) (λ m. r.thread_params >>= r.function m gives.Thread w)
    given_reads w = reads_bind n Any Any Any r.thread_params (λ m. r.thread_params) _ _ (thread_params_reads n) (function_reads Any tt n gives.Thread w) (function_example Any tt gives.Thread w)

-- ---- items that begin with "void"

opened_example : (w : Word) → Example Any Any (λ m. open_mark >> r.with_params m gives.Nothing w)
opened_example w = example_bind Any Any Any (λ m. open_mark) _ (open_example Any Any tt) (λ u. with_params_example gives.Nothing w)

nothing_example : Example (Next is_name) Any (λ m. name_word >>= λ w. open_mark >> r.with_params m gives.Nothing w)
nothing_example = example_bind (Next is_name) Any Any (λ m. name_word) _ (name_word_example (Next is_name) Any refl) opened_example

nothing_reads : (n : ℕ) → Reads n (Next is_name) Any (name_word >>= λ w. open_mark >> r.with_params n gives.Nothing w) (λ m. name_word >>= λ w. open_mark >> r.with_params m gives.Nothing w)
nothing_reads n = reads_bind n (Next is_name) Any Any name_word (λ m. name_word) _ _ (name_word_reads n (Next is_name) Any refl)
    (λ w. reads_bind n Any Any Any open_mark (λ m. open_mark) _ _ (open_reads n Any Any tt) (λ u. with_params_reads n gives.Nothing w) (λ u. with_params_example gives.Nothing w)) opened_example

void_leaves : Leaves Any Any (λ h m. r.void_at m h) (Next is_name) (λ m. name_word >>= λ w. open_mark >> r.with_params m gives.Nothing w)
void_leaves None m c = absurd c
void_leaves (Some t) m c = by t.symbol c
  where
    by : (s : Symbol) → is_name s ≡ true → r.void_by (suc m) s ≡ (name_word >>= λ w. open_mark >> r.with_params (suc m) gives.Nothing w)
    by Name c = refl
    by _ c = cc

pub void_example : Example Any Any r.void_item
unfolding r.void_item
void_example = example_leaving Any Any (λ h m. r.void_at m h) (Next is_name) _ (λ h c. tt) void_leaves nothing_example

pub void_reads : (n : ℕ) → Reads n Any Any (r.void_item n) r.void_item
unfolding r.void_item
void_reads n = reads_choice Any Any (λ h m. r.void_at m h) n (r.void_at n) next
  where
    by : (s : Symbol) (p : At) (x : List ℕ) → AtNext Any Any (λ h m. r.void_at m h) n (r.void_at n) (Some (terminal s p x))
    by (Operator binary.Mul) p x = by_taking Any Any (λ h m. r.void_at m h) n (r.void_at n) (terminal (Operator binary.Mul) p x) (takes_skip_same n (terminal (Operator binary.Mul) p x) Any Any _ _ (thread_function_reads n))
    by s p x = by_leaving Any Any (λ h m. r.void_at m h) n (r.void_at n) (Next is_name) _ _ (λ h c. tt) void_leaves (nothing_reads n) (Some (terminal s p x)) refl (λ m. refl)

    next : (h : Option Terminal) → AtNext Any Any (λ h m. r.void_at m h) n (r.void_at n) h
    next None = by_failing Any Any (λ h m. r.void_at m h) n (r.void_at n) void_example None refl (λ m. refl)
    next (Some t) = by t.symbol t.at t.spelling
