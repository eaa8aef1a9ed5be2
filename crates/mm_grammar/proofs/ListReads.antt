-- How the readers of lists read, over any reader of one thing.
use Rattle.std.proofs.Common.{◌≡◌, ℕ, zero, suc, List, [], ◌∷◌, Option, Some, None, refl}
use Rattle.mm_goto.specs.declared.ident.At.{At as Place}
use Rattle.mm_reading.specs.Parsing.{◌>>=◌, pure, fail, peek}
use Rattle.mm_reading.proofs.Combining.{Family, Reads, Example, Branch, takes, ends, reads_none, reads_pure, reads_bind, reads_peek, reads_switch, takes_skip, example_pure, example_bind, example_end}
use Rattle.mm_parse_expr.specs.declared.symbol.Symbol.{Symbol}
use Rattle.mm_parse_expr.specs.declared.symbol.Symbol.TheVariants.{Comma}
use Rattle.mm_parse_expr.specs.declared.terminal.Terminal.{Terminal}
use Rattle.mm_parse_expr.specs.Grammar.{terminal}
use Rattle.mm_parse_expr.specs.reading.ExprReading.{Reader}
use Rattle.mm_grammar.specs.reading.StatementReading.{comma_by, comma_at, others, list}
use Rattle.mm_grammar.proofs.MarkReads.{Follow}
use Rattle.mm_grammar.proofs.StatementComplete.{NoComma, no_comma_by}

comma_ends : {A : Type 0} (item : Reader A) (inner : Reader (List A)) (h : Option Terminal) → NoComma h → comma_at item inner h ≡ pure []
comma_ends item inner None c = refl
comma_ends item inner (Some t) c = by t.symbol c
  where
    by : (s : Symbol) → no_comma_by s → comma_by item inner s ≡ pure []
    by Comma c = absurd c
    by _ c = refl

-- C may follow one thing, and D a list of them
module _ {A : Type 0} (P C D : Follow) (item : ℕ → Reader A) (reads : (n : ℕ) → Reads n P C (item n) item) (example : Example P C item) (within : (h : Option Terminal) → D h → C h) (stops : (h : Option Terminal) → D h → NoComma h) where
  -- with one bound more than what it calls
  abbrev comma_above : Option Terminal → Family Terminal (List A)
  comma_above h zero = fail
  comma_above h (suc m) = comma_at (item m) (others item m) h

  choice_example : Example C D (λ m. peek (λ h. comma_above h m))
  choice_example = example_end C D _ comma_above [] (λ m. refl) (λ h m c. comma_ends (item m) (others item m) h (stops h c)) within

  pub others_example : Example C D (others item)
  unfolding others
  others_example = example_end C D (others item) comma_above [] (λ m. refl) (λ h m c. comma_ends (item m) (others item m) h (stops h c)) within

  more_reads : (n : ℕ) (x : A) → Reads n C D (others item n) (others item) → Reads n C D (others item n >>= λ xs. pure (x ∷ xs)) (λ m. others item m >>= λ xs. pure (x ∷ xs))
  more_reads n x inner = reads_bind n C D D (others item n) (others item) _ _ inner (λ xs. reads_pure n D (x ∷ xs)) (λ xs. example_pure D (x ∷ xs))

  more_example : (x : A) → Example C D (λ m. others item m >>= λ xs. pure (x ∷ xs))
  more_example x = example_bind C D D (others item) _ others_example (λ xs. example_pure D (x ∷ xs))

  pub list_example : Example P D (list item)
  unfolding list
  list_example = example_bind P C D item _ example more_example

  one_more : (n : ℕ) → Reads n C D (others item n) (others item) → Reads n P D (item n >>= λ x. others item n >>= λ xs. pure (x ∷ xs)) (λ m. item m >>= λ x. others item m >>= λ xs. pure (x ∷ xs))
  one_more n inner = reads_bind n P C D (item n) item _ _ (reads n) (λ x. more_reads n x inner) more_example

  others_step : (n : ℕ) → Reads n C D (others item n) (others item) → Reads (suc n) C D (peek (comma_at (item n) (others item n))) (λ m. peek (λ h. comma_above h m))
  others_step n inner = reads_peek (suc n) C D (comma_at (item n) (others item n)) comma_above choice_example branch
    where
      stop : (h : Option Terminal) (m : ℕ) → D h → comma_above h (suc m) ≡ pure []
      stop h m c = comma_ends (item m) (others item m) h (stops h c)

      by : (s : Symbol) (p : Place) (x : List ℕ) → Branch (suc n) C D (comma_at (item n) (others item n)) comma_above (Some (terminal s p x))
      by Comma p x = takes (takes_skip n (terminal Comma p x) P D _ (λ m. item m >>= λ x. others item m >>= λ xs. pure (x ∷ xs)) _ (λ m. refl) (one_more n inner))
      by _ p x = ends [] refl (λ m. refl) stop within

      branch : (h : Option Terminal) → Branch (suc n) C D (comma_at (item n) (others item n)) comma_above h
      branch None = ends [] refl (λ m. refl) stop within
      branch (Some t) = by t.symbol t.at t.spelling

  pub others_reads : (n : ℕ) → Reads n C D (others item n) (others item)
  unfolding others
  others_reads zero = reads_none C D _ _
  others_reads (suc n) = reads_switch (suc n) C D _ (λ m. peek (λ h. comma_above h m)) (others item) (λ m. refl) (others_step n (others_reads n))

  pub list_reads : (n : ℕ) → Reads n P D (list item n) (list item)
  unfolding list
  list_reads n = one_more n (others_reads n)
