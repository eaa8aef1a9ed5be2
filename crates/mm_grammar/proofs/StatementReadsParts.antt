-- Readers that see what they take and one terminal more, with an example of what they read, one after another.
use Rattle.std.proofs.Common.{ℕ, codes, Option, Some}
use Rattle.mm_reading.specs.Parsing.{◌>>=◌, pure}
use Rattle.mm_reading.proofs.Combining.{seq, Reads, Example, reads_pure, reads_bind, example_pure, example_bind}
use Rattle.mm_parse_expr.specs.declared.symbol.Keyword.TheVariants as reserved
use Rattle.mm_parse_expr.specs.declared.symbol.Symbol.TheVariants.{Name, Keyword, Semicolon, Comma, Close}
use Rattle.mm_parse_expr.specs.declared.terminal.Terminal.{Terminal}
use Rattle.mm_parse_expr.specs.Grammar.{terminal}
use Rattle.mm_parse_expr.specs.reading.ExprReading.{Reader, lower, close, name_word, index}
use Rattle.mm_parse_expr.proofs.Follow.{Any, Stops, Ends}
use Rattle.mm_parse_expr.proofs.ExprReading.{at_index, nowhere, all_read, expr_example, unary_example, index_example, index_reads, close_example, close_reads}
use Rattle.mm_grammar.specs.reading.StatementReading as r
use Rattle.mm_grammar.proofs.ListReads.{list_reads, list_example}
use Rattle.mm_grammar.proofs.MarkReads as marks
use Rattle.mm_grammar.proofs.MarkReads.{Follow, sample, reads_within, example_within}
use Rattle.mm_grammar.proofs.StatementComplete.{NoComma}
use Rattle.mm_grammar.proofs.StatementReadsChoice.{Many}

-- how p reads fewer than n terminals, and some that q reads
pub record Reading {A : Type 0} (n : ℕ) (P C : Follow) (p : Reader A) (q : Many A) : Type 0 where
  pub reads : Reads n P C p q
  pub example : Example P C q

-- p, and then f of its value
pub bound : {A B : Type 0} {n : ℕ} {P C D : Follow} {p : Reader A} {q : Many A} {f : A → Reader B} {g : A → Many B} → Reading n P C p q → ((a : A) → Reading n C D (f a) (g a)) → Reading n P D (p >>= f) (seq q g)
bound {n = n} {P = P} {C = C} {D = D} {p = p} {q = q} {f = f} {g = g} h k = record {
  reads = reads_bind n P C D p q f g h.reads (λ a. (k a).reads) (λ a. (k a).example);
  example = example_bind P C D q g h.example (λ a. (k a).example);
}

-- less may follow
pub within : {A : Type 0} {n : ℕ} {P C : Follow} (D : Follow) {p : Reader A} {q : Many A} → ((h : Option Terminal) → D h → C h) → Reading n P C p q → Reading n P D p q
within {n = n} {P = P} {C = C} D {p = p} {q = q} follows h = record { reads = reads_within n P P C D p q (λ h c. c) follows h.reads; example = example_within P P C D q (λ h c. c) follows h.example }

-- anything may stand first
pub anyhow : {A : Type 0} {n : ℕ} {P C : Follow} {p : Reader A} {q : Many A} → Reading n P C p q → Reading n Any C p q
anyhow {n = n} {P = P} {C = C} {p = p} {q = q} h = record { reads = reads_within n P Any C C p q (λ h c. tt) (λ h c. c) h.reads; example = example_within P Any C C q (λ h c. tt) (λ h c. c) h.example }

pub done : {A : Type 0} {n : ℕ} {C : Follow} (a : A) → Reading n C C (pure a) (λ m. pure a)
done {n = n} {C = C} a = record { reads = reads_pure n C a; example = example_pure C a }

-- ---- marks and words

pub close_reading : {n : ℕ} {C : Follow} (P : Follow) → P (Some (terminal Close nowhere (codes ")"))) → Reading n P C close (λ m. close)
close_reading {n = n} {C = C} P p = record { reads = close_reads n P C p; example = close_example P C p }

pub semicolon_reading : {n : ℕ} {C : Follow} (P : Follow) → P (Some (sample Semicolon)) → Reading n P C r.semicolon (λ m. r.semicolon)
semicolon_reading {n = n} {C = C} P p = record { reads = marks.semicolon_reads n P C p; example = marks.semicolon_example P C p }

pub comma_reading : {n : ℕ} {C : Follow} (P : Follow) → P (Some (sample Comma)) → Reading n P C r.comma (λ m. r.comma)
comma_reading {n = n} {C = C} P p = record { reads = marks.comma_reads n P C p; example = marks.comma_example P C p }

pub open_reading : {n : ℕ} {C : Follow} → Reading n Any C r.open_mark (λ m. r.open_mark)
open_reading {n = n} {C = C} = record { reads = marks.open_reads n Any C tt; example = marks.open_example Any C tt }

pub ampersand_reading : {n : ℕ} {C : Follow} → Reading n Any C r.ampersand (λ m. r.ampersand)
ampersand_reading {n = n} {C = C} = record { reads = marks.ampersand_reads n Any C tt; example = marks.ampersand_example Any C tt }

pub while_reading : {n : ℕ} {C : Follow} (P : Follow) → P (Some (sample (Keyword reserved.While))) → Reading n P C r.while_word (λ m. r.while_word)
while_reading {n = n} {C = C} P p = record { reads = marks.while_word_reads n P C p; example = marks.while_word_example P C p }

pub int_reading : {n : ℕ} {C : Follow} → Reading n Any C r.int_word (λ m. r.int_word)
int_reading {n = n} {C = C} = record { reads = marks.int_word_reads n Any C tt; example = marks.int_word_example Any C tt }

pub null_reading : {n : ℕ} {C : Follow} → Reading n Any C r.null (λ m. r.null)
null_reading {n = n} {C = C} = record { reads = marks.null_reads n Any C tt; example = marks.null_example Any C tt }

pub text_reading : {n : ℕ} {C : Follow} → Reading n Any C r.text (λ m. r.text)
text_reading {n = n} {C = C} = record { reads = marks.text_reads n Any C tt; example = marks.text_example Any C tt }

pub name_reading : {n : ℕ} {C : Follow} (P : Follow) → P (Some (sample Name)) → Reading n P C name_word (λ m. name_word)
name_reading {n = n} {C = C} P p = record { reads = marks.name_word_reads n P C p; example = marks.name_word_example P C p }

-- ---- expressions

pub expr_reading : {n : ℕ} → Reading n Any Ends (r.expr n) r.expr
expr_reading {n = n} = record { reads = (all_read n).expr; example = expr_example }

pub unary_reading : {n : ℕ} → Reading n Any (Stops 0) (r.unary n) r.unary
unary_reading {n = n} = record { reads = (all_read n).unary; example = unary_example (Stops 0) }

pub index_reading : {n : ℕ} → Reading n Any (Stops 0) (index (lower n)) at_index
index_reading {n = n} = record { reads = index_reads n (lower n) (all_read n); example = index_example }

-- ---- lists

-- what may follow one thing may follow a list of them, except a comma
abbrev pub Listed : Follow → Follow
Listed C h = C h × NoComma h

pub list_reading : {A : Type 0} {P C : Follow} {item : ℕ → Reader A} → ((n : ℕ) → Reading n P C (item n) item) → (n : ℕ) → Reading n P (Listed C) (r.list item n) (r.list item)
list_reading {P = P} {C = C} {item = item} each n = record {
  reads = list_reads P C (Listed C) item (λ n. (each n).reads) (each 0).example (λ h d. d.0) (λ h d. d.1) n;
  example = list_example P C (Listed C) item (λ n. (each n).reads) (each 0).example (λ h d. d.0) (λ h d. d.1);
}
