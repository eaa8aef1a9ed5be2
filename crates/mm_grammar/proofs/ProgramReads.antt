-- How the readers of items and programs read, over any reader of the bodies of functions.
use Rattle.std.proofs.Common.{◌≡◌, ℕ, zero, suc, Bool, true, false, List, [], ◌∷◌, Option, Some, None, refl}
use Rattle.mm_goto.specs.declared.ident.At.{At}
use Rattle.mm_tree.specs.declared.expr.Word.{Word}
use Rattle.mm_tree.specs.declared.item.Item.{Item}
use Rattle.mm_tree.specs.declared.item.Item.TheVariants as item
use Rattle.mm_reading.specs.Parsing.{◌>>=◌, ◌>>◌, pure, fail, peek, skip}
use Rattle.mm_reading.proofs.Combining.{Family, Reads, Takes, Example, Branch, takes, fails, ends, reads_none, reads_bind, reads_peek, reads_switch, takes_skip, takes_skip_alone, example_bind, example_end, example_token}
use Rattle.mm_parse_expr.specs.declared.symbol.Keyword.TheVariants as reserved
use Rattle.mm_parse_expr.specs.declared.symbol.Symbol.{Symbol}
use Rattle.mm_parse_expr.specs.declared.symbol.Symbol.TheVariants.{Keyword}
use Rattle.mm_parse_expr.specs.declared.terminal.Terminal.{Terminal}
use Rattle.mm_parse_expr.specs.Grammar.{terminal}
use Rattle.mm_parse_expr.specs.reading.ExprReading.{Reader, close, name_word}
use Rattle.mm_parse_expr.proofs.Follow.{Any}
use Rattle.mm_parse_expr.proofs.ExprReading.{close_example, close_reads}
use Rattle.mm_grammar.specs.reading.StatementReading.{semicolon, open_mark, int_word, list, name_item}
use Rattle.mm_grammar.specs.reading.ProgramReading as r
use Rattle.mm_grammar.proofs.MarkReads.{Follow, sample, semicolon_example, semicolon_reads, open_example, open_reads, int_word_reads, name_word_example, name_word_reads, name_item_example, name_item_reads}
use Rattle.mm_grammar.proofs.ListReads.{list_example, list_reads}
use Rattle.mm_grammar.proofs.ProgramReadsGlobals.{giving_example, giving_reads, mutex_example, mutex_reads}
use Rattle.mm_grammar.proofs.ProgramReadsFunctions.{void_reads}
use Rattle.mm_grammar.proofs.ProgramReadsInts.{Listed, int_reads}
use Rattle.mm_grammar.proofs.StatementComplete.{Marked, marked_by, NoComma}

-- ---- mutexes and threads

mutexes_reads : (n : ℕ) → Reads n Any Any (r.mutexes n) r.mutexes
unfolding r.mutexes
mutexes_reads n = reads_bind n Any Listed Any (list r.mutex_item n) (list r.mutex_item) _ _ (list_reads Any Marked Listed r.mutex_item mutex_reads mutex_example (λ h c. c.0) (λ h c. c.1) n)
    (λ ws. giving_reads n Listed Any semicolon (λ m. semicolon) _ (semicolon_reads n Listed Any (tt, tt)))
    (λ ws. giving_example Listed Any (λ m. semicolon) _ (semicolon_example Listed Any (tt, tt)))

threads_end_example : (ws : List Word) → Example NoComma Any (λ m. semicolon >> pure (item.Threads ws))
threads_end_example ws = giving_example NoComma Any (λ m. semicolon) _ (semicolon_example NoComma Any tt)

threads_example : Example Any Any r.threads
unfolding r.threads
threads_example = example_bind Any NoComma Any (list name_item) _ (list_example Any Any NoComma name_item (λ n. name_item_reads n Any Any tt) (name_item_example Any Any tt) (λ h c. tt) (λ h c. c)) threads_end_example

threads_reads : (n : ℕ) → Reads n Any Any (r.threads n) r.threads
unfolding r.threads
threads_reads n = reads_bind n Any NoComma Any (list name_item n) (list name_item) _ _ (list_reads Any Any NoComma name_item (λ n. name_item_reads n Any Any tt) (name_item_example Any Any tt) (λ h c. tt) (λ h c. c) n)
    (λ ws. giving_reads n NoComma Any semicolon (λ m. semicolon) _ (semicolon_reads n NoComma Any tt)) threads_end_example

-- ---- inputs

void_or_not_ends : (h : Option Terminal) → Marked h → r.void_or_not_at h ≡ pure tt
void_or_not_ends None c = refl
void_or_not_ends (Some t) c = by t.symbol c
  where
    by : (s : Symbol) → marked_by s → r.void_or_not_by s ≡ pure tt
    by (Keyword reserved.Void) c = absurd c
    by _ c = refl

void_or_not_example : Example Any Marked (λ m. r.void_or_not)
unfolding r.void_or_not
void_or_not_example = example_end Any Marked (λ m. peek r.void_or_not_at) (λ h m. r.void_or_not_at h) tt (λ m. refl) (λ h m c. void_or_not_ends h c) (λ h c. tt)

void_or_not_reads : (n : ℕ) → Reads n Any Marked r.void_or_not (λ m. r.void_or_not)
unfolding r.void_or_not
void_or_not_reads n = reads_peek n Any Marked r.void_or_not_at (λ h m. r.void_or_not_at h) void_or_not_example branch
  where
    by : (s : Symbol) (p : At) (x : List ℕ) → Branch n Any Marked r.void_or_not_at (λ h m. r.void_or_not_at h) (Some (terminal s p x))
    by (Keyword reserved.Void) p x = takes (takes_skip_alone n (terminal (Keyword reserved.Void) p x) Marked)
    by _ p x = ends tt refl (λ m. refl) (λ h m c. void_or_not_ends h c) (λ h c. tt)

    branch : (h : Option Terminal) → Branch n Any Marked r.void_or_not_at (λ h m. r.void_or_not_at h) h
    branch None = ends tt refl (λ m. refl) (λ h m c. void_or_not_ends h c) (λ h c. tt)
    branch (Some t) = by t.symbol t.at t.spelling

module _ (i : Item) where
  declared_example : Example Any Any (λ m. semicolon >> pure i)
  declared_example = giving_example Any Any (λ m. semicolon) _ (semicolon_example Any Any tt)

  closed_example : Example Marked Any (λ m. close >> (semicolon >> pure i))
  closed_example = example_bind Marked Any Any (λ m. close) _ (close_example Marked Any tt) (λ u. declared_example)

  opened_example : Example Any Any (λ m. r.void_or_not >> (close >> (semicolon >> pure i)))
  opened_example = example_bind Any Marked Any (λ m. r.void_or_not) _ void_or_not_example (λ u. closed_example)

  named_example : Example Any Any (λ m. open_mark >> (r.void_or_not >> (close >> (semicolon >> pure i))))
  named_example = example_bind Any Any Any (λ m. open_mark) _ (open_example Any Any tt) (λ u. opened_example)

  named_reads : (n : ℕ) → Reads n Any Any (open_mark >> (r.void_or_not >> (close >> (semicolon >> pure i)))) (λ m. open_mark >> (r.void_or_not >> (close >> (semicolon >> pure i))))
  named_reads n = reads_bind n Any Any Any open_mark (λ m. open_mark) _ _ (open_reads n Any Any tt)
      (λ u. reads_bind n Any Marked Any r.void_or_not (λ m. r.void_or_not) _ _ (void_or_not_reads n)
      (λ u. reads_bind n Marked Any Any close (λ m. close) _ _ (close_reads n Marked Any tt) (λ u. giving_reads n Any Any semicolon (λ m. semicolon) _ (semicolon_reads n Any Any tt)) (λ u. declared_example))
      (λ u. closed_example)) (λ u. opened_example)

external_reads : (n : ℕ) → Reads n Any Any r.external (λ m. r.external)
unfolding r.external
external_reads n = reads_bind n Any Any Any int_word (λ m. int_word) _ _ (int_word_reads n Any Any tt)
    (λ u. reads_bind n Any Any Any name_word (λ m. name_word) _ _ (name_word_reads n Any Any tt) (λ w. named_reads (item.InputDecl w.at w.name) n) (λ w. named_example (item.InputDecl w.at w.name)))
    (λ u. example_bind Any Any Any (λ m. name_word) _ (name_word_example Any Any tt) (λ w. named_example (item.InputDecl w.at w.name)))

-- the end
abbrev pub IsEnd : Follow
IsEnd None = Unit {0}
IsEnd (Some t) = ⊥

-- ---- items behind "static" or "volatile"

abbrev qualified_above : Bool → Option Terminal → Family Terminal Item
qualified_above may_run h zero = fail
qualified_above may_run h (suc m) = r.qualified_at m (r.qualified m) may_run h

qualified_example : (may_run : Bool) → Example Any Any (λ m. peek (λ h. qualified_above may_run h m))
unfolding peek skip
qualified_example may_run = example_token Any Any Any (sample (Keyword reserved.Thread)) _ r.threads tt (λ m ts. refl) threads_example

qualified_step : (n : ℕ) → Reads n Any Any (r.qualified n false) (λ m. r.qualified m false) → (may_run : Bool) → Reads (suc n) Any Any (peek (r.qualified_at n (r.qualified n) may_run)) (λ m. peek (λ h. qualified_above may_run h m))
qualified_step n inner may_run = reads_peek (suc n) Any Any (r.qualified_at n (r.qualified n) may_run) (qualified_above may_run) (qualified_example may_run) branch
  where
    by : (b : Bool) (s : Symbol) (p : At) (x : List ℕ) → Branch (suc n) Any Any (r.qualified_at n (r.qualified n) b) (qualified_above b) (Some (terminal s p x))
    by b (Keyword reserved.Static) p x = takes (takes_skip n (terminal (Keyword reserved.Static) p x) Any Any _ (λ m. r.qualified m false) _ (λ m. refl) inner)
    by b (Keyword reserved.Volatile) p x = takes (takes_skip n (terminal (Keyword reserved.Volatile) p x) Any Any _ (λ m. r.qualified m false) _ (λ m. refl) inner)
    by b (Keyword reserved.Int) p x = takes (takes_skip n (terminal (Keyword reserved.Int) p x) Any Any _ (λ m. r.int_item m false b) _ (λ m. refl) (int_reads n false b))
    by b (Keyword reserved.Mutex) p x = takes (takes_skip n (terminal (Keyword reserved.Mutex) p x) Any Any _ r.mutexes _ (λ m. refl) (mutexes_reads n))
    by b (Keyword reserved.Thread) p x = takes (takes_skip n (terminal (Keyword reserved.Thread) p x) Any Any _ r.threads _ (λ m. refl) (threads_reads n))
    by true (Keyword reserved.Void) p x = takes (takes_skip n (terminal (Keyword reserved.Void) p x) Any Any _ r.void_item _ (λ m. refl) (void_reads n))
    by false (Keyword reserved.Void) p x = fails refl (λ m. refl)
    by b _ p x = fails refl (λ m. refl)

    branch : (h : Option Terminal) → Branch (suc n) Any Any (r.qualified_at n (r.qualified n) may_run) (qualified_above may_run) h
    branch None = fails refl (λ m. refl)
    branch (Some t) = by may_run t.symbol t.at t.spelling

qualified_reads : (n : ℕ) (may_run : Bool) → Reads n Any Any (r.qualified n may_run) (λ m. r.qualified m may_run)
unfolding r.qualified
qualified_reads zero may_run = reads_none Any Any _ _
qualified_reads (suc n) may_run = reads_switch (suc n) Any Any _ (λ m. peek (λ h. qualified_above may_run h m)) (λ m. r.qualified m may_run) (λ m. refl) (qualified_step n (qualified_reads n false) may_run)

-- ---- items

abbrev items_above : Option Terminal → Family Terminal (List Item)
items_above h zero = fail
items_above h (suc m) = r.items_at m (r.items m) h

items_end : (h : Option Terminal) (m : ℕ) → IsEnd h → items_above h (suc m) ≡ pure []
items_end None m c = refl
items_end (Some t) m c = absurd c

items_example : Example Any IsEnd r.items
unfolding r.items
items_example = example_end Any IsEnd r.items items_above [] (λ m. refl) items_end (λ h c. tt)

choice_example : Example Any IsEnd (λ m. peek (λ h. items_above h m))
choice_example = example_end Any IsEnd _ items_above [] (λ m. refl) items_end (λ h c. tt)

others_example : (i : Item) → Example Any IsEnd (λ m. r.items m >>= λ is. pure (i ∷ is))
others_example i = giving_example Any IsEnd r.items (λ is. i ∷ is) items_example

items_step : (n : ℕ) → Reads n Any IsEnd (r.items n) r.items → Reads (suc n) Any IsEnd (peek (r.items_at n (r.items n))) (λ m. peek (λ h. items_above h m))
items_step n inner = reads_peek (suc n) Any IsEnd (r.items_at n (r.items n)) items_above choice_example branch
  where
    -- an item that p reads behind its first terminal, and then the others
    begun : (p : Reader Item) (q : Family Terminal Item) → Reads n Any Any p q → (t : Terminal) → ((m : ℕ) → items_above (Some t) (suc m) ≡ (skip >> (q m >>= λ i. r.items m >>= λ is. pure (i ∷ is)))) → Takes (suc n) t IsEnd (skip >> (p >>= λ i. r.items n >>= λ is. pure (i ∷ is))) (items_above (Some t))
    begun p q d t e = takes_skip n t Any IsEnd _ (λ m. q m >>= λ i. r.items m >>= λ is. pure (i ∷ is)) _ e
        (reads_bind n Any Any IsEnd p q _ _ d (λ i. giving_reads n Any IsEnd (r.items n) r.items (λ is. i ∷ is) inner) others_example)

    by : (s : Symbol) (p : At) (x : List ℕ) → Branch (suc n) Any IsEnd (r.items_at n (r.items n)) items_above (Some (terminal s p x))
    by (Keyword reserved.Extern) p x = takes (begun r.external (λ m. r.external) (external_reads n) (terminal (Keyword reserved.Extern) p x) (λ m. refl))
    by (Keyword reserved.Static) p x = takes (begun (r.qualified n true) (λ m. r.qualified m true) (qualified_reads n true) (terminal (Keyword reserved.Static) p x) (λ m. refl))
    by (Keyword reserved.Volatile) p x = takes (begun (r.qualified n false) (λ m. r.qualified m false) (qualified_reads n false) (terminal (Keyword reserved.Volatile) p x) (λ m. refl))
    by (Keyword reserved.Int) p x = takes (begun (r.int_item n true true) (λ m. r.int_item m true true) (int_reads n true true) (terminal (Keyword reserved.Int) p x) (λ m. refl))
    by (Keyword reserved.Mutex) p x = takes (begun (r.mutexes n) r.mutexes (mutexes_reads n) (terminal (Keyword reserved.Mutex) p x) (λ m. refl))
    by (Keyword reserved.Thread) p x = takes (begun (r.threads n) r.threads (threads_reads n) (terminal (Keyword reserved.Thread) p x) (λ m. refl))
    by (Keyword reserved.Void) p x = takes (begun (r.void_item n) r.void_item (void_reads n) (terminal (Keyword reserved.Void) p x) (λ m. refl))
    by _ p x = fails refl (λ m. refl)

    branch : (h : Option Terminal) → Branch (suc n) Any IsEnd (r.items_at n (r.items n)) items_above h
    branch None = ends [] refl (λ m. refl) items_end (λ h c. tt)
    branch (Some t) = by t.symbol t.at t.spelling

items_reads : (n : ℕ) → Reads n Any IsEnd (r.items n) r.items
unfolding r.items
items_reads zero = reads_none Any IsEnd _ _
items_reads (suc n) = reads_switch (suc n) Any IsEnd _ (λ m. peek (λ h. items_above h m)) r.items (λ m. refl) (items_step n (items_reads n))

-- the reader of programs sees all the terminals, and completes those before a fault
pub program_reads : (n : ℕ) → Reads n Any IsEnd (r.program n) (λ m. r.program m)
unfolding r.program
program_reads n = giving_reads n Any IsEnd (r.items n) r.items r.program_of (items_reads n)
