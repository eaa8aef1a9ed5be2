-- How the readers of one terminal read.
use Rattle.std.proofs.Common.{◌≡◌, ℕ, Bool, true, false, List, [], ◌++◌, Option, Some, None, refl, ap, ◌⊎◌, inl, inr}
use Rattle.mm_goto.specs.declared.ident.At.{At as Place}
use Rattle.mm_goto.specs.declared.pure.Binary.TheVariants as binary
use Rattle.mm_reading.specs.Parsing.{Outcome, Parsed, Fault, head, pure, peek, when}
use Rattle.mm_reading.proofs.Combining.{Family, At, Reads, Example, Branch, takes, ends, reads_pure, reads_peek, takes_skip_same, reads_token, example_of_token, example_end}
use Rattle.mm_parse_expr.specs.declared.symbol.Keyword.TheVariants as reserved
use Rattle.mm_parse_expr.specs.declared.symbol.Symbol.{Symbol}
use Rattle.mm_parse_expr.specs.declared.symbol.Symbol.TheVariants.{Name, Text, Null, Keyword, Operator, Semicolon, Comma, Open}
use Rattle.mm_parse_expr.specs.declared.terminal.Terminal.{Terminal}
use Rattle.mm_parse_expr.specs.Grammar.{terminal}
use Rattle.mm_tree.specs.Trees.{word}
use Rattle.mm_parse_expr.specs.reading.ExprReading.{Reader, named, name_word}
use Rattle.mm_parse_expr.proofs.Follow.{Any}
use Rattle.mm_parse_expr.proofs.ExprReading.{nowhere}
use Rattle.mm_grammar.specs.reading.StatementReading.{mark, is_semicolon, is_comma, is_open, is_ampersand, is_while, is_int, is_null, semicolon, comma, open_mark, ampersand, while_word, int_word, null, text_in, text, star_by, star_at, star, name_item}

-- a terminal with this symbol
abbrev pub sample : Symbol → Terminal
sample s = terminal s nowhere []

abbrev pub Follow : Type 1
Follow = Option Terminal → Type 0

-- ---- fewer terminals may follow, and more may stand first

pub reads_within : {A : Type 0} (n : ℕ) (P Q C D : Follow) (p : Reader A) (q : Family Terminal A) → ((h : Option Terminal) → P h → Q h) → ((h : Option Terminal) → D h → C h) → Reads n P C p q → Reads n Q D p q
reads_within {A = A} n P Q C D p q firsts follows r = record { at = λ ts l. over (p ts) ts (r.at ts l) }
  where
    behind : (rest tail : List Terminal) → D (head tail) ⊎ (head tail ≡ head rest) → C (head tail) ⊎ (head tail ≡ head rest)
    behind rest tail (inl d) = inl (follows (head tail) d)
    behind rest tail (inr s) = inr s

    over : (o : Outcome Terminal A) (ts : List Terminal) → At q P C o ts → At q Q D o ts
    over (Parsed a rest) ts h = record { read = h.read; parts = h.parts; fits = λ tail c m l. h.fits tail (behind rest tail c) m l; starts = λ e tail d. firsts (head tail) (h.starts e tail (follows (head tail) d)) }
    over (Fault rest) ts h = record { read = h.read; parts = h.parts; same = h.same; more = h.more; value = h.value; fits = λ tail d m l. h.fits tail (follows (head tail) d) m l; starts = λ e tail d. firsts (head (h.more ++ tail)) (h.starts e tail (follows (head tail) d)) }

pub example_within : {A : Type 0} (P Q C D : Follow) (q : Family Terminal A) → ((h : Option Terminal) → P h → Q h) → ((h : Option Terminal) → D h → C h) → Example P C q → Example Q D q
example_within P Q C D q firsts follows x = record { more = x.more; value = x.value; fits = λ tail d m l. x.fits tail (follows (head tail) d) m l; starts = λ tail d. firsts (head (x.more ++ tail)) (x.starts tail (follows (head tail) d)) }

-- ---- marks and words

-- a symbol that the test holds of, as it does of s
pub mark_example : (is : Symbol → Bool) (s : Symbol) → is s ≡ true → (P C : Follow) → P (Some (sample s)) → Example P C (λ m. mark is)
mark_example is s e P C p = example_of_token P C (λ t. when (is t.symbol)) (sample s) tt (ap when e) p

pub mark_reads : (is : Symbol → Bool) (s : Symbol) → is s ≡ true → (n : ℕ) (P C : Follow) → P (Some (sample s)) → Reads n P C (mark is) (λ m. mark is)
mark_reads is s e n P C p = reads_token n P C (λ t. when (is t.symbol)) (sample s) tt (ap when e) p

pub semicolon_example : (P C : Follow) → P (Some (sample Semicolon)) → Example P C (λ m. semicolon)
unfolding semicolon
semicolon_example P C p = mark_example is_semicolon Semicolon refl P C p

pub semicolon_reads : (n : ℕ) (P C : Follow) → P (Some (sample Semicolon)) → Reads n P C semicolon (λ m. semicolon)
unfolding semicolon
semicolon_reads n P C p = mark_reads is_semicolon Semicolon refl n P C p

pub comma_example : (P C : Follow) → P (Some (sample Comma)) → Example P C (λ m. comma)
unfolding comma
comma_example P C p = mark_example is_comma Comma refl P C p

pub comma_reads : (n : ℕ) (P C : Follow) → P (Some (sample Comma)) → Reads n P C comma (λ m. comma)
unfolding comma
comma_reads n P C p = mark_reads is_comma Comma refl n P C p

pub open_example : (P C : Follow) → P (Some (sample Open)) → Example P C (λ m. open_mark)
unfolding open_mark
open_example P C p = mark_example is_open Open refl P C p

pub open_reads : (n : ℕ) (P C : Follow) → P (Some (sample Open)) → Reads n P C open_mark (λ m. open_mark)
unfolding open_mark
open_reads n P C p = mark_reads is_open Open refl n P C p

pub ampersand_example : (P C : Follow) → P (Some (sample (Operator binary.And))) → Example P C (λ m. ampersand)
unfolding ampersand
ampersand_example P C p = mark_example is_ampersand (Operator binary.And) refl P C p

pub ampersand_reads : (n : ℕ) (P C : Follow) → P (Some (sample (Operator binary.And))) → Reads n P C ampersand (λ m. ampersand)
unfolding ampersand
ampersand_reads n P C p = mark_reads is_ampersand (Operator binary.And) refl n P C p

pub while_word_example : (P C : Follow) → P (Some (sample (Keyword reserved.While))) → Example P C (λ m. while_word)
unfolding while_word
while_word_example P C p = mark_example is_while (Keyword reserved.While) refl P C p

pub while_word_reads : (n : ℕ) (P C : Follow) → P (Some (sample (Keyword reserved.While))) → Reads n P C while_word (λ m. while_word)
unfolding while_word
while_word_reads n P C p = mark_reads is_while (Keyword reserved.While) refl n P C p

pub int_word_example : (P C : Follow) → P (Some (sample (Keyword reserved.Int))) → Example P C (λ m. int_word)
unfolding int_word
int_word_example P C p = mark_example is_int (Keyword reserved.Int) refl P C p

pub int_word_reads : (n : ℕ) (P C : Follow) → P (Some (sample (Keyword reserved.Int))) → Reads n P C int_word (λ m. int_word)
unfolding int_word
int_word_reads n P C p = mark_reads is_int (Keyword reserved.Int) refl n P C p

pub null_example : (P C : Follow) → P (Some (sample Null)) → Example P C (λ m. null)
unfolding null
null_example P C p = mark_example is_null Null refl P C p

pub null_reads : (n : ℕ) (P C : Follow) → P (Some (sample Null)) → Reads n P C null (λ m. null)
unfolding null
null_reads n P C p = mark_reads is_null Null refl n P C p

-- ---- texts and names

pub text_example : (P C : Follow) → P (Some (sample Text)) → Example P C (λ m. text)
unfolding text
text_example P C p = example_of_token P C (λ t. text_in t.symbol t) (sample Text) _ refl p

pub text_reads : (n : ℕ) (P C : Follow) → P (Some (sample Text)) → Reads n P C text (λ m. text)
unfolding text
text_reads n P C p = reads_token n P C (λ t. text_in t.symbol t) (sample Text) _ refl p

pub name_word_example : (P C : Follow) → P (Some (sample Name)) → Example P C (λ m. name_word)
unfolding name_word
name_word_example P C p = example_of_token P C (λ t. named t.symbol t) (sample Name) (word nowhere []) refl p

pub name_word_reads : (n : ℕ) (P C : Follow) → P (Some (sample Name)) → Reads n P C name_word (λ m. name_word)
unfolding name_word
name_word_reads n P C p = reads_token n P C (λ t. named t.symbol t) (sample Name) (word nowhere []) refl p

pub name_item_example : (P C : Follow) → P (Some (sample Name)) → Example P C name_item
name_item_example P C p = name_word_example P C p

pub name_item_reads : (n : ℕ) (P C : Follow) → P (Some (sample Name)) → Reads n P C (name_item n) name_item
name_item_reads n P C p = name_word_reads n P C p

-- ---- stars

abbrev pub is_no_star : Symbol → Type 0
is_no_star (Operator binary.Mul) = ⊥
is_no_star _ = Unit {0}

abbrev pub NotStar : Follow
NotStar None = Unit {0}
NotStar (Some t) = is_no_star t.symbol

star_ends : (h : Option Terminal) → NotStar h → star_at h ≡ pure false
star_ends None c = refl
star_ends (Some t) c = by t.symbol c
  where
    by : (s : Symbol) → is_no_star s → star_by s ≡ pure false
    by (Operator binary.Mul) c = absurd c
    by _ c = refl

pub star_example : Example Any NotStar (λ m. star)
unfolding star
star_example = example_end Any NotStar (λ m. peek star_at) (λ h m. star_at h) false (λ m. refl) (λ h m c. star_ends h c) (λ h c. tt)

pub star_reads : (n : ℕ) → Reads n Any NotStar star (λ m. star)
unfolding star
star_reads n = reads_peek n Any NotStar star_at (λ h m. star_at h) star_example branch
  where
    by : (s : Symbol) (p : Place) (x : List ℕ) → Branch n Any NotStar star_at (λ h m. star_at h) (Some (terminal s p x))
    by (Operator binary.Mul) p x = takes (takes_skip_same n (terminal (Operator binary.Mul) p x) NotStar NotStar (pure true) (λ m. pure true) (reads_pure n NotStar true))
    by _ p x = ends false refl (λ m. refl) (λ k m c. star_ends k c) (λ k c. tt)

    branch : (h : Option Terminal) → Branch n Any NotStar star_at (λ h m. star_at h) h
    branch None = ends false refl (λ m. refl) (λ k m c. star_ends k c) (λ k c. tt)
    branch (Some t) = by t.symbol t.at t.spelling
