-- What is read of some of the tokens is read of all of them, where not all of those were used up.
use Rattle.std.proofs.Common.{◌≡◌, ◌≢◌, ℕ, Bool, IsTrue, ◌+◌, ◌-◌, ◌<◌, List, [], ◌∷◌, ◌++◌, All, length, map, take, drop, arith, Some, refl, sym, ◌∙◌, ap, subst, length-append}
use Rattle.std.proofs.lemmas.List.{take-map, drop-map, take-append-drop, length-map, length-drop, nil_from_length}
use Rattle.std.proofs.lemmas.List.Elements.{All-take, All-drop}
use Rattle.std.proofs.Math.Seq.{drop-append_seam}
use Rattle.std.specs.Str.{IsUtf8}
use Rattle.mm_lexer.specs.declared.token.Token.{Token}
use Rattle.mm_lexer.specs.Tokens.{AreTokens, IsSpan}
use Rattle.mm_lexer.proofs.Spans.{all_spans}
use Rattle.mm_tree.specs.declared.expr.Expr.{Expr}
use Rattle.mm_reading.specs.Parsing.{Outcome, Parsed, Fault, rest_of}
use Rattle.mm_reading.specs.Runs.{IsRead, IsFirstFault}
use Rattle.mm_reading.specs.declared.refused.Refused.{Refused}
use Rattle.mm_reading.specs.declared.refused.Refused.TheVariants as refused
use Rattle.mm_reading.specs.Gives.{left_at, Fails}
use Rattle.mm_reading.proofs.LongestRuns.{read_before, fault_before}
use Rattle.mm_parse_expr.specs.declared.terminal.Terminal.{Terminal}
use Rattle.mm_parse_expr.specs.declared.fault.ParseFault.{ParseFault}
use Rattle.mm_parse_expr.specs.Grammar.{IsExpression}
use Rattle.mm_parse_expr.specs.Terminals.{terminal_of}
use Rattle.mm_parse_expr.specs.Faults.{fault_at, terminals_from, IsParsed, IsRefused, IsFaultBefore}
use Rattle.mm_parse_expr.specs.reading.ExprReading.{lower}
use Rattle.mm_parse_expr.proofs.ExprRuns.{expr_read, expr_fault}

-- the tokens that are looked at are some of the text too
pub window_spans : (text : List ℕ) (tokens : List Token) (from k : ℕ) → IsUtf8 text → AreTokens text tokens → All (IsSpan text) (take k (drop from tokens))
window_spans text tokens from k u t = All-take (IsSpan text) k (drop from tokens) (All-drop (IsSpan text) from tokens (all_spans text tokens u t))

-- what was asked for, of a window of k tokens
pub record Window (text : List ℕ) (tokens seen : List Token) (from k : ℕ) (terminals : List Terminal) : Type 0 where
  pub seen_is : seen ≡ take k (drop from tokens)
  pub terminals_are : terminals ≡ map (terminal_of text) seen

pub window_of : (text : List ℕ) (tokens seen : List Token) (from k : ℕ) (terminals : List Terminal) → seen ≡ take k (drop from tokens) → terminals ≡ map (terminal_of text) seen → Window text tokens seen from k terminals
window_of text tokens seen from k terminals a b = record { seen_is = a; terminals_are = b }

module _ (text : List ℕ) (tokens seen : List Token) (from k : ℕ) (terminals : List Terminal) (W : Window text tokens seen from k terminals) where
  abbrev others : List Terminal
  others = drop k (terminals_from text tokens from)

  window_is : terminals ≡ take k (terminals_from text tokens from)
  window_is = W.terminals_are ∙ ap (λ us. map (terminal_of text) us) W.seen_is ∙ sym (take-map (terminal_of text) k (drop from tokens)) ∙ ap (λ ts. take k ts) (sym (drop-map (terminal_of text) from tokens))

  whole : terminals ++ others ≡ terminals_from text tokens from
  whole = ap (λ ts. ts ++ others) window_is ∙ take-append-drop k (terminals_from text tokens from)

  same_length : length terminals ≡ length seen
  same_length = ap length W.terminals_are ∙ length-map seen (terminal_of text)

  all_length : length (terminals_from text tokens from) ≡ length tokens - from
  all_length = length-drop from (map (terminal_of text) tokens) ∙ ap (λ n. n - from) (length-map tokens (terminal_of text))

  -- where all was used up, there are no other tokens
  no_others : (rest : List Terminal) → (length seen < length tokens - from → length rest ≢ 0) → rest ≡ [] → others ≡ []
  no_others rest h e = nil_from_length others (omega (arith, same_length, all_length, ap length whole, length-append terminals others, not_cut))
    where
      not_cut : length seen < length tokens - from → ⊥
      not_cut l = h l (ap length e)

  parsed : (L : List Terminal → Expr → Type 0) (e : Expr) (rest : List Terminal) (end : ℕ) → IsRead L terminals e rest → end ≡ from + (length seen - length rest) → (length seen < length tokens - from → length rest ≢ 0) → IsParsed L (terminals_from text tokens from) from e end
  parsed L e rest end h position cut =
      let all : IsRead L (terminals ++ others) e (rest ++ others) = read_before L terminals e rest others (no_others rest cut) h in
      let there : IsRead L (terminals_from text tokens from) e (rest ++ others) = subst (λ (ts : List Terminal). IsRead L ts e (rest ++ others)) whole all in
      record { run = there.run; rest = rest ++ others; is_longest = there.is_longest; value = there.value; position = position ∙ omega (arith, same_length, ap length whole, length-append terminals others, length-append rest others, length-append there.run (rest ++ others), ap length there.is_longest.parts) }

  refused_at : (L : List Terminal → Expr → Type 0) (rest : List Terminal) (fault : ParseFault) → IsFirstFault L terminals rest → fault ≡ fault_at text (drop (length terminals - length rest) terminals) → (length seen < length tokens - from → length rest ≢ 0) → IsRefused L text (terminals_from text tokens from) fault
  refused_at L rest fault h is cut = record {
    rest = rest ++ others;
    is_first = subst (λ (ts : List Terminal). IsFirstFault L ts (rest ++ others)) whole (fault_before L terminals rest others (no_others rest cut) h);
    fault_there = is ∙ ap (λ ts. fault_at text ts) behind ∙ alike rest (no_others rest cut);
  }
    where
      behind : drop (length terminals - length rest) terminals ≡ rest
      behind =
          let n : length terminals - length rest ≡ length h.run = omega (arith, length-append h.run rest, ap length h.is_longest.parts) in
          ap (λ m. drop m terminals) n ∙ ap (λ ts. drop (length h.run) ts) (sym h.is_longest.parts) ∙ drop-append_seam h.run rest

      alike : (us : List Terminal) → (us ≡ [] → others ≡ []) → fault_at text us ≡ fault_at text (us ++ others)
      alike [] none = ap (λ ts. fault_at text ts) (sym (none refl))
      alike (u ∷ us) none = refl

  fault_is : (o : Outcome Terminal Expr) (left : ℕ) → left_at o ≡ Some left → (o ≡ Fault (rest_of o)) × (length (rest_of o) ≡ left)
  fault_is (Parsed e rest) left h = cc
  fault_is (Fault rest) left h = (refl, cc)

  pub expr_parsed : (e : Expr) (left end : ℕ) → let o = (lower (length terminals + 1)).expr terminals in (o ≡ Parsed e (rest_of o)) × (length (rest_of o) ≡ left) → end ≡ from + (length seen - left) → (length seen < length tokens - from → left ≢ 0) → IsParsed IsExpression (terminals_from text tokens from) from e end
  expr_parsed e left end h position cut =
      let o = (lower (length terminals + 1)).expr terminals in
      let same : length (rest_of o) ≡ left = h.1 in
      parsed IsExpression e (rest_of o) end (expr_read (length terminals + 1) terminals e (rest_of o) (omega arith) h.0) (position ∙ ap (λ n. from + (length seen - n)) (sym same)) (λ l z. cut l (sym same ∙ z))

  pub expr_refused : (refused : Refused) (cut : Bool) (fault : ParseFault) → Fails refused ((lower (length terminals + 1)).expr terminals) → IsFaultBefore text terminals refused cut fault → (length seen < length tokens - from → IsTrue cut) → IsRefused IsExpression text (terminals_from text tokens from) fault
  expr_refused refused.Memory cut fault h is more = absurd is
  expr_refused (refused.Fault left) cut fault h is more =
      let o = (lower (length terminals + 1)).expr terminals in
      let there = fault_is o left h in
      let same : length (rest_of o) ≡ left = there.1 in
      refused_at IsExpression (rest_of o) fault (expr_fault (length terminals + 1) terminals (rest_of o) (omega arith) there.0) (is.0 ∙ ap (λ n. fault_at text (drop (length terminals - n) terminals)) (sym same)) (λ l z. is.1 (more l) (sym same ∙ z))
