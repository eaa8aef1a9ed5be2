-- Where the line %% stands.
use Rattle.std.proofs.Common.{arith, ◌≡◌, ℕ, zero, suc, ◌+◌, ◌-◌, ◌≤◌, List, [], ◌∷◌, ◌++◌, length, take, drop, codes, Some, sym, ◌∙◌, ap, ⊎_elim, length-append, append_assoc}
use Rattle.std.proofs.lemmas.Bool.{cases_lt}
use Rattle.std.specs.List.{slice_range}
use Rattle.std.specs.Str.Pattern.{LacksTextAt, FindsText, FindsTextPrefix, StripsPrefix}
use Rattle.std.proofs.lemmas.List.{take-append-drop, length-drop}
use Rattle.mm_run.specs.Parts.{IsParting, IsSplit, LacksPart}

-- the line itself, and the line with a newline before it
abbrev mark : List ℕ
mark = codes "%%\n"

abbrev line : List ℕ
line = codes "\n%%\n"

-- a text that begins with the line has it at its start
pub at_start : (text schedule : List ℕ) → StripsPrefix (FindsTextPrefix mark) text schedule → IsSplit text [] schedule
at_start text schedule (n, (k, s, b), d, l) = record {
  whole = s ∙ ap (λ t. mark ++ t) (sym d);
  parting = record { behind = schedule; line = ap (λ t. 10 ∷ t) (s ∙ ap (λ t. mark ++ t) (sym d)) };
  first = λ i h. omega arith;
}

-- the text with one byte more than a front of it
pub with_next : (text program front : List ℕ) (i : ℕ) → length front ≡ i → program ≡ slice_range text 0 (length front + 1) → program ≡ take (suc i) text
with_next text program front i l e = let n : length front + 1 - 0 ≡ suc i = omega (arith, l) in e ∙ ap (λ k. take k text) n

module _ (text : List ℕ) (no_start : LacksTextAt mark text 0) where
  not_at_start : IsParting text 0 → ⊥
  not_at_start h = no_start h.behind (ap (drop 1) h.line)

  within : (i : ℕ) → IsParting text (suc i) → i ≤ length text
  within i h = omega (arith, ap length h.line, length-drop i text, length-append line h.behind)

  -- where the line does not stand at the start nor behind a newline, the text lacks it
  pub no_part : ((i : ℕ) → i ≤ length text → LacksTextAt line text i) → LacksPart text
  no_part lacks zero h = not_at_start h
  no_part lacks (suc i) h = lacks i (within i h) h.behind h.line

  -- the first line behind a newline parts the text
  module _ (i j : ℕ) (found : FindsText line text (Some (i, j))) where
    first : (k : ℕ) → IsParting text k → i + 1 ≤ k
    first zero h = absurd (not_at_start h)
    first (suc k) h = ⊎_elim (λ l. absurd (found.0 k l h.behind h.line)) (λ l. omega (arith, l)) (cases_lt k i)

    rest : drop i text ≡ line ++ drop j text
    rest = found.1.split

    whole : text ≡ take i text ++ (line ++ drop j text)
    whole = sym (take-append-drop i text) ∙ ap (λ t. take i text ++ t) rest

    next : (xs : List ℕ) (k : ℕ) (ys : List ℕ) → drop k xs ≡ 10 ∷ ys → take (suc k) xs ≡ take k xs ++ 10 ∷ []
    next [] zero ys e = cc
    next [] (suc k) ys e = cc
    next (x ∷ xs) zero ys e = ap (take 1) e
    next (x ∷ xs) (suc k) ys e = ap (λ t. x ∷ t) (next xs k ys e)

    pub splits : (program schedule : List ℕ) → program ≡ take (suc i) text → length program ≡ suc i → schedule ≡ drop j text → IsSplit text program schedule
    splits program schedule p l s = record {
      whole = whole ∙ sym (ap (λ t. t ++ (mark ++ drop j text)) (p ∙ next text i (mark ++ drop j text) rest) ∙ append_assoc (take i text) (10 ∷ []) (mark ++ drop j text)) ∙ ap (λ t. program ++ (mark ++ t)) (sym s) ∙ sym (append_assoc program mark schedule);
      parting = record { behind = schedule; line = ap (λ k. drop k (10 ∷ text)) l ∙ rest ∙ ap (λ t. line ++ t) (sym s) };
      first = λ k h. omega (arith, l, first k h);
    }
