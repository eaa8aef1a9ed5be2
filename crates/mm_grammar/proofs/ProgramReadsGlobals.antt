-- How the readers of initialisers, globals and mutexes read.
use Rattle.std.proofs.Common.{◌≡◌, ℕ, ℤ, pos, Bool, true, false, List, [], Option, Some, None, refl}
use Rattle.mm_goto.specs.declared.ident.At.{At}
use Rattle.mm_goto.specs.declared.pure.Binary.TheVariants as binary
use Rattle.mm_tree.specs.declared.expr.Expr.{Expr}
use Rattle.mm_tree.specs.declared.expr.Node.TheVariants as node
use Rattle.mm_tree.specs.declared.expr.Word.{Word}
use Rattle.mm_reading.specs.Parsing.{◌>>=◌, ◌>>◌, pure, peek, skip}
use Rattle.mm_reading.proofs.Combining.{Family, Reads, Takes, Example, Branch, takes, fails, ends, reads_pure, reads_bind, reads_peek, takes_skip_same, reads_token, example_of_token, example_pure, example_bind, example_end, example_token}
use Rattle.mm_parse_expr.specs.declared.symbol.Keyword.TheVariants as reserved
use Rattle.mm_parse_expr.specs.declared.symbol.Symbol.{Symbol}
use Rattle.mm_parse_expr.specs.declared.symbol.Symbol.TheVariants.{Number, Null, Keyword, Operator, Assign, OpenBracket, OpenBrace, CloseBrace}
use Rattle.mm_parse_expr.specs.declared.terminal.Terminal.{Terminal}
use Rattle.mm_parse_expr.specs.Grammar.{terminal}
use Rattle.mm_tree.specs.Trees.{expr as tree, global}
use Rattle.mm_parse_expr.specs.reading.ExprReading.{Reader, close_bracket, name_word}
use Rattle.mm_parse_expr.proofs.Follow.{Any}
use Rattle.mm_parse_expr.proofs.ExprReading.{nowhere, close_bracket_example, close_bracket_reads}
use Rattle.mm_grammar.specs.ProgramGrammar.{number_at}
use Rattle.mm_grammar.specs.reading.StatementReading.{list, star}
use Rattle.mm_grammar.specs.reading.ProgramReading as r
use Rattle.mm_grammar.proofs.MarkReads.{Follow, sample, mark_example, mark_reads, name_word_example, name_word_reads, NotStar, star_example, star_reads}
use Rattle.mm_grammar.proofs.ListReads.{list_example, list_reads}
use Rattle.mm_grammar.proofs.StatementComplete.{Marked, marked_by, NoComma}

-- ---- one terminal

pub open_brace_example : (P C : Follow) → P (Some (sample OpenBrace)) → Example P C (λ m. r.open_brace)
unfolding r.open_brace
open_brace_example P C p = mark_example r.is_open_brace OpenBrace refl P C p

pub open_brace_reads : (n : ℕ) (P C : Follow) → P (Some (sample OpenBrace)) → Reads n P C r.open_brace (λ m. r.open_brace)
unfolding r.open_brace
open_brace_reads n P C p = mark_reads r.is_open_brace OpenBrace refl n P C p

close_brace_example : (P C : Follow) → P (Some (sample CloseBrace)) → Example P C (λ m. r.close_brace)
unfolding r.close_brace
close_brace_example P C p = mark_example r.is_close_brace CloseBrace refl P C p

close_brace_reads : (n : ℕ) (P C : Follow) → P (Some (sample CloseBrace)) → Reads n P C r.close_brace (λ m. r.close_brace)
unfolding r.close_brace
close_brace_reads n P C p = mark_reads r.is_close_brace CloseBrace refl n P C p

initializer_reads : (n : ℕ) (P C : Follow) → P (Some (sample (Keyword reserved.MutexInitializer))) → Reads n P C r.initializer (λ m. r.initializer)
unfolding r.initializer
initializer_reads n P C p = mark_reads r.is_initializer (Keyword reserved.MutexInitializer) refl n P C p

number_example : (P C : Follow) → P (Some (sample (Number (pos 0)))) → Example P C (λ m. r.number)
unfolding r.number
number_example P C p = example_of_token P C (λ t. r.numbered t.symbol) (sample (Number (pos 0))) (pos 0) refl p

number_reads : (n : ℕ) (P C : Follow) → P (Some (sample (Number (pos 0)))) → Reads n P C r.number (λ m. r.number)
unfolding r.number
number_reads n P C p = reads_token n P C (λ t. r.numbered t.symbol) (sample (Number (pos 0))) (pos 0) refl p

number_expr_reads : (n : ℕ) (P C : Follow) → P (Some (sample (Number (pos 0)))) → Reads n P C r.number_expr (λ m. r.number_expr)
unfolding r.number_expr
number_expr_reads n P C p = reads_token n P C (λ t. r.number_tree t.symbol t) (sample (Number (pos 0))) (number_at nowhere (pos 0)) refl p

-- ---- a value of what was read

pub giving_example : {A B : Type 0} (P C : Follow) (q : Family Terminal A) (f : A → B) → Example P C q → Example P C (λ m. q m >>= λ a. pure (f a))
giving_example P C q f x = example_bind P C C q _ x (λ a. example_pure C (f a))

pub giving_reads : {A B : Type 0} (n : ℕ) (P C : Follow) (p : Reader A) (q : Family Terminal A) (f : A → B) → Reads n P C p q → Reads n P C (p >>= λ a. pure (f a)) (λ m. q m >>= λ a. pure (f a))
giving_reads n P C p q f d = reads_bind n P C C p q _ _ d (λ a. reads_pure n C (f a)) (λ a. example_pure C (f a))

-- ---- initialisers

const_example : (C : Follow) → Example Any C r.const_item
unfolding r.const peek skip pure
const_example C = example_token Any C C (sample (Number (pos 0))) _ (λ m. pure (number_at nowhere (pos 0))) tt (λ m ts. refl) (example_pure C (number_at nowhere (pos 0)))

module _ (n : ℕ) (C : Follow) (p : At) (x : List ℕ) where
  number_takes : (k : ℤ) → Takes n (terminal (Number k) p x) C (r.const_by (Number k) (terminal (Number k) p x)) (λ m. r.const_by (Number k) (terminal (Number k) p x))
  number_takes k = takes_skip_same n (terminal (Number k) p x) C C _ _ (reads_pure n C (number_at p k))

  minus_takes : Takes n (terminal (Operator binary.Sub) p x) C (r.const_by (Operator binary.Sub) (terminal (Operator binary.Sub) p x)) (λ m. r.const_by (Operator binary.Sub) (terminal (Operator binary.Sub) p x))
  minus_takes = takes_skip_same n (terminal (Operator binary.Sub) p x) Any C _ _ (giving_reads n Any C r.number (λ m. r.number) _ (number_reads n Any C tt))

const_reads : (n : ℕ) (C : Follow) → Reads n Any C (r.const_item n) r.const_item
unfolding r.const
const_reads n C = reads_peek n Any C r.const_at (λ h m. r.const_at h) (const_example C) branch
  where
    by : (s : Symbol) (p : At) (x : List ℕ) → Branch n Any C r.const_at (λ h m. r.const_at h) (Some (terminal s p x))
    by (Number k) p x = takes (number_takes n C p x k)
    by (Operator binary.Sub) p x = takes (minus_takes n C p x)
    by _ p x = fails refl (λ m. refl)

    branch : (h : Option Terminal) → Branch n Any C r.const_at (λ h m. r.const_at h) h
    branch None = fails refl (λ m. refl)
    branch (Some t) = by t.symbol t.at t.spelling

consts_example : Example Any NoComma (list r.const_item)
consts_example = list_example Any Any NoComma r.const_item (λ n. const_reads n Any) (const_example Any) (λ h c. tt) (λ h c. c)

consts_reads : (n : ℕ) → Reads n Any NoComma (list r.const_item n) (list r.const_item)
consts_reads = list_reads Any Any NoComma r.const_item (λ n. const_reads n Any) (const_example Any) (λ h c. tt) (λ h c. c)

module _ (t : Terminal) (w : Word) where
  address_ends : (h : Option Terminal) → Marked h → r.address_at t w h ≡ pure (tree t.at (node.AddrName w))
  address_ends None c = refl
  address_ends (Some u) c = by u.symbol c
    where
      by : (s : Symbol) → marked_by s → r.address_by t w s ≡ pure (tree t.at (node.AddrName w))
      by OpenBracket c = absurd c
      by _ c = refl

  element_example : Example Any Marked (λ m. peek (r.address_at t w))
  element_example = example_end Any Marked (λ m. peek (r.address_at t w)) (λ h m. r.address_at t w h) (tree t.at (node.AddrName w)) (λ m. refl) (λ h m c. address_ends h c) (λ h c. tt)

  element_reads : (n : ℕ) → Reads n Any Marked (peek (r.address_at t w)) (λ m. peek (r.address_at t w))
  element_reads n = reads_peek n Any Marked (r.address_at t w) (λ h m. r.address_at t w h) element_example branch
    where
      closing : (e : Expr) → Reads n Any Marked (close_bracket >> pure (tree t.at (node.AddrIndex w e))) (λ m. close_bracket >> pure (tree t.at (node.AddrIndex w e)))
      closing e = giving_reads n Any Marked close_bracket (λ m. close_bracket) _ (close_bracket_reads n Any Marked tt)

      closing_example : (e : Expr) → Example Any Marked (λ m. close_bracket >> pure (tree t.at (node.AddrIndex w e)))
      closing_example e = giving_example Any Marked (λ m. close_bracket) _ (close_bracket_example Any Marked tt)

      by : (s : Symbol) (p : At) (x : List ℕ) → Branch n Any Marked (r.address_at t w) (λ h m. r.address_at t w h) (Some (terminal s p x))
      by OpenBracket p x = takes (takes_skip_same n (terminal OpenBracket p x) Any Marked _ _ (reads_bind n Any Any Marked r.number_expr (λ m. r.number_expr) _ _ (number_expr_reads n Any Any tt) closing closing_example))
      by _ p x = ends (tree t.at (node.AddrName w)) refl (λ m. refl) (λ k m c. address_ends k c) (λ k c. tt)

      branch : (h : Option Terminal) → Branch n Any Marked (r.address_at t w) (λ h m. r.address_at t w h) h
      branch None = ends (tree t.at (node.AddrName w)) refl (λ m. refl) (λ k m c. address_ends k c) (λ k c. tt)
      branch (Some u) = by u.symbol u.at u.spelling

address_reads : (n : ℕ) (t : Terminal) → Reads n Any Marked (r.address t) (λ m. r.address t)
unfolding r.address
address_reads n t = reads_bind n Any Any Marked name_word (λ m. name_word) _ _ (name_word_reads n Any Any tt) (λ w. element_reads t w n) (λ w. element_example t w)

init_example : Example Any Marked (λ m. r.init)
unfolding r.init peek skip pure
init_example = example_token Any Marked Marked (sample Null) _ (λ m. pure (tree nowhere node.Null)) tt (λ m ts. refl) (example_pure Marked (tree nowhere node.Null))

init_reads : (n : ℕ) → Reads n Any Marked r.init (λ m. r.init)
unfolding r.init
init_reads n = reads_peek n Any Marked r.init_at (λ h m. r.init_at h) init_example branch
  where
    by : (s : Symbol) (p : At) (x : List ℕ) → Branch n Any Marked r.init_at (λ h m. r.init_at h) (Some (terminal s p x))
    by Null p x = takes (takes_skip_same n (terminal Null p x) Marked Marked _ _ (reads_pure n Marked (tree p node.Null)))
    by (Operator binary.And) p x = takes (takes_skip_same n (terminal (Operator binary.And) p x) Any Marked _ _ (address_reads n (terminal (Operator binary.And) p x)))
    by (Number k) p x = takes (number_takes n Marked p x k)
    by (Operator binary.Sub) p x = takes (minus_takes n Marked p x)
    by _ p x = fails refl (λ m. refl)

    branch : (h : Option Terminal) → Branch n Any Marked r.init_at (λ h m. r.init_at h) h
    branch None = fails refl (λ m. refl)
    branch (Some t) = by t.symbol t.at t.spelling

-- ---- variables

module _ (b : Bool) (w : Word) where
  scalar_ends : (h : Option Terminal) → Marked h → r.scalar_at b w h ≡ pure (global w.at b w.name None [])
  scalar_ends None c = refl
  scalar_ends (Some t) c = by t.symbol c
    where
      by : (s : Symbol) → marked_by s → r.scalar_by b w s ≡ pure (global w.at b w.name None [])
      by Assign c = absurd c
      by _ c = refl

  set_takes : (n : ℕ) (p : At) (x : List ℕ) → Takes n (terminal Assign p x) Marked (r.scalar_by b w Assign) (λ m. r.scalar_by b w Assign)
  set_takes n p x = takes_skip_same n (terminal Assign p x) Any Marked _ _ (giving_reads n Any Marked r.init (λ m. r.init) _ (init_reads n))

  module _ (P : Follow) (marked : (h : Option Terminal) → Marked h → P h) where
    pub scalar_example : Example P Marked (λ m. r.scalar b w)
    unfolding r.scalar
    scalar_example = example_end P Marked (λ m. peek (r.scalar_at b w)) (λ h m. r.scalar_at b w h) (global w.at b w.name None []) (λ m. refl) (λ h m c. scalar_ends h c) marked

    pub scalar_reads : (n : ℕ) → Reads n P Marked (r.scalar b w) (λ m. r.scalar b w)
    unfolding r.scalar
    scalar_reads n = reads_peek n P Marked (r.scalar_at b w) (λ h m. r.scalar_at b w h) scalar_example branch
      where
        by : (s : Symbol) (p : At) (x : List ℕ) → Branch n P Marked (r.scalar_at b w) (λ h m. r.scalar_at b w h) (Some (terminal s p x))
        by Assign p x = takes (set_takes n p x)
        by _ p x = ends (global w.at b w.name None []) refl (λ m. refl) (λ k m c. scalar_ends k c) marked

        branch : (h : Option Terminal) → Branch n P Marked (r.scalar_at b w) (λ h m. r.scalar_at b w h) h
        branch None = ends (global w.at b w.name None []) refl (λ m. refl) (λ k m c. scalar_ends k c) marked
        branch (Some t) = by t.symbol t.at t.spelling

-- ---- arrays

module _ (w : Word) (k : ℤ) where
  elements_ends : (n : ℕ) (h : Option Terminal) → Marked h → r.elements_at n w k h ≡ pure (global w.at false w.name (Some k) [])
  elements_ends n None c = refl
  elements_ends n (Some t) c = by t.symbol c
    where
      by : (s : Symbol) → marked_by s → r.elements_by n w k s ≡ pure (global w.at false w.name (Some k) [])
      by Assign c = absurd c
      by _ c = refl

  elements_example : Example Any Marked (λ m. peek (r.elements_at m w k))
  elements_example = example_end Any Marked (λ m. peek (r.elements_at m w k)) (λ h m. r.elements_at m w k h) (global w.at false w.name (Some k) []) (λ m. refl) (λ h m c. elements_ends _ h c) (λ h c. tt)

  elements_reads : (n : ℕ) → Reads n Any Marked (peek (r.elements_at n w k)) (λ m. peek (r.elements_at m w k))
  elements_reads n = reads_peek n Any Marked (r.elements_at n w k) (λ h m. r.elements_at m w k h) elements_example branch
    where
      closing : (es : List Expr) → Reads n NoComma Marked (r.close_brace >> pure (global w.at false w.name (Some k) es)) (λ m. r.close_brace >> pure (global w.at false w.name (Some k) es))
      closing es = giving_reads n NoComma Marked r.close_brace (λ m. r.close_brace) _ (close_brace_reads n NoComma Marked tt)

      closing_example : (es : List Expr) → Example NoComma Marked (λ m. r.close_brace >> pure (global w.at false w.name (Some k) es))
      closing_example es = giving_example NoComma Marked (λ m. r.close_brace) _ (close_brace_example NoComma Marked tt)

      by : (s : Symbol) (p : At) (x : List ℕ) → Branch n Any Marked (r.elements_at n w k) (λ h m. r.elements_at m w k h) (Some (terminal s p x))
      by Assign p x = takes (takes_skip_same n (terminal Assign p x) Any Marked _ _ (reads_bind n Any Any Marked r.open_brace (λ m. r.open_brace) _ _ (open_brace_reads n Any Any tt)
          (λ u. reads_bind n Any NoComma Marked (list r.const_item n) (list r.const_item) _ _ (consts_reads n) closing closing_example)
          (λ u. example_bind Any NoComma Marked (list r.const_item) _ consts_example closing_example)))
      by _ p x = ends (global w.at false w.name (Some k) []) refl (λ m. refl) (λ h m c. elements_ends _ h c) (λ h c. tt)

      branch : (h : Option Terminal) → Branch n Any Marked (r.elements_at n w k) (λ h m. r.elements_at m w k h) h
      branch None = ends (global w.at false w.name (Some k) []) refl (λ m. refl) (λ h m c. elements_ends _ h c) (λ h c. tt)
      branch (Some t) = by t.symbol t.at t.spelling

array_reads : (n : ℕ) (w : Word) → Reads n Any Marked (r.array n w) (λ m. r.array m w)
unfolding r.array
array_reads n w = reads_bind n Any Any Marked r.number (λ m. r.number) _ _ (number_reads n Any Any tt)
    (λ k. reads_bind n Any Any Marked close_bracket (λ m. close_bracket) _ _ (close_bracket_reads n Any Any tt) (λ u. elements_reads w k n) (λ u. elements_example w k))
    (λ k. example_bind Any Any Marked (λ m. close_bracket) _ (close_bracket_example Any Any tt) (λ u. elements_example w k))

plain_ends : (n : ℕ) (w : Word) (h : Option Terminal) → Marked h → r.plain_at n w h ≡ pure (global w.at false w.name None [])
plain_ends n w None c = refl
plain_ends n w (Some t) c = by t.symbol c
  where
    by : (s : Symbol) → marked_by s → r.plain_by n w s ≡ pure (global w.at false w.name None [])
    by OpenBracket c = absurd c
    by Assign c = absurd c
    by _ c = refl

module _ (w : Word) (P : Follow) (marked : (h : Option Terminal) → Marked h → P h) where
  pub plain_example : Example P Marked (λ m. r.plain m w)
  unfolding r.plain
  plain_example = example_end P Marked (λ m. peek (r.plain_at m w)) (λ h m. r.plain_at m w h) (global w.at false w.name None []) (λ m. refl) (λ h m c. plain_ends _ w h c) marked

  pub plain_reads : (n : ℕ) → Reads n P Marked (r.plain n w) (λ m. r.plain m w)
  unfolding r.plain
  plain_reads n = reads_peek n P Marked (r.plain_at n w) (λ h m. r.plain_at m w h) plain_example branch
    where
      by : (s : Symbol) (p : At) (x : List ℕ) → Branch n P Marked (r.plain_at n w) (λ h m. r.plain_at m w h) (Some (terminal s p x))
      by OpenBracket p x = takes (takes_skip_same n (terminal OpenBracket p x) Any Marked _ _ (array_reads n w))
      by Assign p x = takes (set_takes false w n p x)
      by _ p x = ends (global w.at false w.name None []) refl (λ m. refl) (λ h m c. plain_ends _ w h c) marked

      branch : (h : Option Terminal) → Branch n P Marked (r.plain_at n w) (λ h m. r.plain_at m w h) h
      branch None = ends (global w.at false w.name None []) refl (λ m. refl) (λ h m c. plain_ends _ w h c) marked
      branch (Some t) = by t.symbol t.at t.spelling

variable_example : (b : Bool) (w : Word) → Example Any Marked (λ m. r.variable m b w)
variable_example true w = scalar_example true w Any (λ h c. tt)
variable_example false w = plain_example w Any (λ h c. tt)

variable_reads : (n : ℕ) (b : Bool) (w : Word) → Reads n Any Marked (r.variable n b w) (λ m. r.variable m b w)
variable_reads n true w = scalar_reads true w Any (λ h c. tt) n
variable_reads n false w = plain_reads w Any (λ h c. tt) n

named_example : (b : Bool) → Example NotStar Marked (λ m. name_word >>= r.variable m b)
named_example b = example_bind NotStar Any Marked (λ m. name_word) _ (name_word_example NotStar Any tt) (variable_example b)

pub global_example : Example Any Marked r.global_item
unfolding r.global_item
global_example = example_bind Any NotStar Marked (λ m. star) _ star_example named_example

pub global_reads : (n : ℕ) → Reads n Any Marked (r.global_item n) r.global_item
unfolding r.global_item
global_reads n = reads_bind n Any NotStar Marked star (λ m. star) _ _ (star_reads n)
    (λ b. reads_bind n NotStar Any Marked name_word (λ m. name_word) _ _ (name_word_reads n NotStar Any tt) (variable_reads n b) (variable_example b)) named_example

-- ---- mutexes

module _ (w : Word) where
  mutex_ends : (h : Option Terminal) → Marked h → r.mutex_at w h ≡ pure w
  mutex_ends None c = refl
  mutex_ends (Some t) c = by t.symbol c
    where
      by : (s : Symbol) → marked_by s → r.mutex_by w s ≡ pure w
      by Assign c = absurd c
      by _ c = refl

  set_mutex_example : Example Any Marked (λ m. peek (r.mutex_at w))
  set_mutex_example = example_end Any Marked (λ m. peek (r.mutex_at w)) (λ h m. r.mutex_at w h) w (λ m. refl) (λ h m c. mutex_ends h c) (λ h c. tt)

  set_mutex_reads : (n : ℕ) → Reads n Any Marked (peek (r.mutex_at w)) (λ m. peek (r.mutex_at w))
  set_mutex_reads n = reads_peek n Any Marked (r.mutex_at w) (λ h m. r.mutex_at w h) set_mutex_example branch
    where
      by : (s : Symbol) (p : At) (x : List ℕ) → Branch n Any Marked (r.mutex_at w) (λ h m. r.mutex_at w h) (Some (terminal s p x))
      by Assign p x = takes (takes_skip_same n (terminal Assign p x) Any Marked _ _ (giving_reads n Any Marked r.initializer (λ m. r.initializer) _ (initializer_reads n Any Marked tt)))
      by _ p x = ends w refl (λ m. refl) (λ h m c. mutex_ends h c) (λ h c. tt)

      branch : (h : Option Terminal) → Branch n Any Marked (r.mutex_at w) (λ h m. r.mutex_at w h) h
      branch None = ends w refl (λ m. refl) (λ h m c. mutex_ends h c) (λ h c. tt)
      branch (Some t) = by t.symbol t.at t.spelling

pub mutex_example : Example Any Marked r.mutex_item
unfolding r.mutex_item
mutex_example = example_bind Any Any Marked (λ m. name_word) _ (name_word_example Any Any tt) set_mutex_example

pub mutex_reads : (n : ℕ) → Reads n Any Marked (r.mutex_item n) r.mutex_item
unfolding r.mutex_item
mutex_reads n = reads_bind n Any Any Marked name_word (λ m. name_word) _ _ (name_word_reads n Any Any tt) (λ w. set_mutex_reads w n) set_mutex_example
