-- A separator and a token have some character.
use Rattle.std.proofs.Common.{◌≡◌, ℕ, pos, ◌+◌, ◌<◌, ◌≤◌, Bool, true, false, not, ◌&&◌, ◌==◌, cond, nat_lt, nat_le, refl, List, [], ◌∷◌, length, drop, Option, Some, None, subst, sym, ◌∙◌, arith, length-drop}
use Rattle.mm_lexer.specs.declared.class.Class.TheVariants.{Line, Quoted, Name as NameChar}
use Rattle.mm_lexer.specs.declared.token.TokenKind.{TokenKind}
use Rattle.mm_lexer.specs.declared.token.TokenKind.TheVariants.{Name, Number, Text, Mark}
use Rattle.std.specs.List.{prefix_len}
use Rattle.std.proofs.lemmas.Bool.Decides.{nat_tests}
use Rattle.mm_lexer.specs.declared.piece.Piece.{Piece}
use Rattle.mm_lexer.specs.declared.piece.Piece.TheVariants.{End, Gap, Token, Bad, TooLarge}
use Rattle.mm_lexer.specs.Class.{is_in}
use Rattle.mm_lexer.specs.Marks.{mark_len}
use Rattle.mm_lexer.specs.Piece.{number, base_of, lead_len, quoted, mark_of, closing, comment_of, line_comment, comment, hash, piece_at, digits_len, is_whole, value_of}

abbrev pub Moves : Piece → Type 0
Moves End = ⊥
Moves (Gap n) = 1 ≤ n
Moves (Token kind n) = 1 ≤ n
Moves Bad = Unit {0}
Moves TooLarge = Unit {0}

-- a piece that stands in front of a text, so that it has some character
pub record Stands (x : Piece) : Type 0 where
  pub moves : Moves x

gap_stands : (n : ℕ) → 1 ≤ n → Stands (Gap n)
gap_stands n h = record { moves = h }

token_stands : (kind : TokenKind) (n : ℕ) → 1 ≤ n → Stands (Token kind n)
token_stands kind n h = record { moves = h }

bad_stands : Stands Bad
bad_stands = record { moves = tt }

either : {x y : Piece} (b : Bool) → Stands x → Stands y → Stands (cond b x y)
either true h k = h
either false h k = k

whole_stands : (n lead : ℕ) (b small : Bool) (kind : TokenKind) → (b ≡ true → 1 ≤ n) → Stands (cond (not b) Bad (cond small (Token kind (lead + n)) TooLarge))
whole_stands n lead false small kind h = bad_stands
whole_stands n lead true small kind h = let k : 1 ≤ n = h refl in either small (token_stands kind (lead + n) (omega arith)) (record { moves = tt })

some_digit : (n : ℕ) (b : Bool) → (nat_lt 0 n && b) ≡ true → 1 ≤ n
some_digit n b h = grind (arith, nat_tests)

number_stands : (cs : List ℕ) → Stands (number cs)
unfolding number
number_stands cs =
    let base = base_of cs in
    let ds = drop (lead_len base) cs in
    whole_stands (digits_len base ds) (lead_len base) (is_whole base ds) (nat_le (value_of base ds) 2147483647) (Number (pos (value_of base ds))) (some_digit (digits_len base ds) _)

quoted_stands : (cs : List ℕ) → Stands (quoted cs)
unfolding quoted
quoted_stands cs = either _ (token_stands Text (prefix_len (is_in Quoted) cs + 2) (omega arith)) bad_stands

mark_stands : (n : ℕ) → Stands (mark_of n)
mark_stands n = by_test (n == 0) (λ h. some n h)
  where
    some : (n : ℕ) → (n == 0) ≡ false → 1 ≤ n
    some n h = grind (arith, nat_tests)

    by_test : (b : Bool) → (b ≡ false → 1 ≤ n) → Stands (cond b Bad (Token Mark n))
    by_test true h = bad_stands
    by_test false h = token_stands Mark n (h refl)

comment_of_stands : (o : Option ℕ) → Stands (comment_of o)
comment_of_stands None = bad_stands
comment_of_stands (Some n) = gap_stands (n + 2) (omega arith)

line_comment_stands : (cs : List ℕ) → Stands (line_comment cs)
unfolding line_comment
line_comment_stands cs = gap_stands (1 + prefix_len (is_in Line) cs) (omega arith)

comment_stands : (cs : List ℕ) → Stands (comment cs)
unfolding comment
comment_stands cs = comment_of_stands (closing (drop 1 cs))

hash_stands : (h : Bool) (cs : List ℕ) → Stands (hash h cs)
unfolding hash
hash_stands h cs = either _ (gap_stands (1 + prefix_len (is_in Line) cs) (omega arith)) bad_stands

name_stands : (cs : List ℕ) → Stands (Token Name (1 + prefix_len (is_in NameChar) cs))
name_stands cs = token_stands Name (1 + prefix_len (is_in NameChar) cs) (omega arith)

pub piece_stands : (h : Bool) (c : ℕ) (cs : List ℕ) → Stands (piece_at h (c ∷ cs))
unfolding piece_at
piece_stands h c cs =
    either _ (gap_stands 1 (omega arith))
    (either _ (name_stands cs)
    (either _ (number_stands (c ∷ cs))
    (either _ (quoted_stands cs)
    (either _ (line_comment_stands cs)
    (either _ (comment_stands cs)
    (either _ (hash_stands h cs) (mark_stands (mark_len (c ∷ cs)))))))))

pub nil_is_end : (h : Bool) → piece_at h [] ≡ End
unfolding piece_at
nil_is_end h = refl

-- nothing stands at the end of a text alone
pub end_is_nil : (h : Bool) (cs : List ℕ) → piece_at h cs ≡ End → cs ≡ []
end_is_nil h [] e = refl
end_is_nil h (c ∷ cs) e = absurd ((subst Stands e (piece_stands h c cs)).moves)

drop_shorter : (n : ℕ) (c : ℕ) (cs : List ℕ) → 1 ≤ n → length (drop n (c ∷ cs)) < length (c ∷ cs)
drop_shorter n c cs h = let some : length (c ∷ cs) ≡ length cs + 1 = grind arith in omega (arith, length-drop n (c ∷ cs))

gap_or_end : (n : ℕ) → End ≡ Gap n → ⊥
gap_or_end n e = cc

token_or_end : (kind : TokenKind) (n : ℕ) → End ≡ Token kind n → ⊥
token_or_end kind n e = cc

-- what stands behind a separator is shorter
pub gap_shorter : (h : Bool) (cs : List ℕ) (n : ℕ) → piece_at h cs ≡ Gap n → length (drop n cs) < length cs
gap_shorter h [] n e = absurd (gap_or_end n (sym (nil_is_end h) ∙ e))
gap_shorter h (c ∷ cs) n e = drop_shorter n c cs ((subst Stands e (piece_stands h c cs)).moves)

-- and behind a token
pub token_shorter : (h : Bool) (cs : List ℕ) (kind : TokenKind) (n : ℕ) → piece_at h cs ≡ Token kind n → length (drop n cs) < length cs
token_shorter h [] kind n e = absurd (token_or_end kind n (sym (nil_is_end h) ∙ e))
token_shorter h (c ∷ cs) kind n e = drop_shorter n c cs ((subst Stands e (piece_stands h c cs)).moves)
