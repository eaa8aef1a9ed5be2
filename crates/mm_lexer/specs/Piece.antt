-- What stands in front of a text, as characters: a separator, a token, or none of them.
use Rattle.std.specs.Prelude.{ℕ, suc, pos, ◌+◌, Bool, not, ◌&&◌, ◌||◌, ◌==◌, nat_le, nat_lt, nat_eq, if◌then◌else◌, List, [], ◌∷◌, take, drop, codes, slice_index, Option, Some, None, option_map}
use Rattle.std.specs.Char.{is_ascii_digit}
use Rattle.std.specs.List.{prefix_len, starts_with}
use Rattle.std.specs.Str.Parse.{digits_value}
use Rattle.mm_lexer.specs.declared.class.Base.{Base}
use Rattle.mm_lexer.specs.declared.class.Base.TheVariants.{Octal, Decimal, Hexadecimal}
use Rattle.mm_lexer.specs.declared.class.Class.TheVariants.{Blank, Line, Name as NameChar, Quoted, Digit}
use Rattle.mm_lexer.specs.declared.token.TokenKind.TheVariants.{Name, Number, Text, Mark}
use Rattle.mm_lexer.specs.declared.piece.Piece.{Piece}
use Rattle.mm_lexer.specs.declared.piece.Piece.TheVariants.{End, Gap, Token, Bad, TooLarge}
use Rattle.mm_goto.specs.Names.{is_name_start, is_name_char}
use Rattle.mm_lexer.specs.Class.{is_space, radix, is_in}
use Rattle.mm_lexer.specs.Marks.{mark_len}

-- ---- numbers

-- hexadecimal after 0x or 0X, octal after 0, else decimal
abbrev pub base_of : List ℕ → Base
base_of cs =
    if slice_index cs 0 == 48
    then (if (slice_index cs 1 == 120) || (slice_index cs 1 == 88) then Hexadecimal else Octal)
    else Decimal

-- how many characters stand before the digits: 0x or none, since the 0 of an octal number is one of its digits
abbrev pub lead_len : Base → ℕ
lead_len Octal = 0
lead_len Decimal = 0
lead_len Hexadecimal = 2

-- how many digits of the base stand in front
abbrev pub digits_len : Base → List ℕ → ℕ
digits_len base ds = prefix_len (is_in (Digit base)) ds

-- at least one does, and no name character follows them; a digit outside the base is one
abbrev pub is_whole : Base → List ℕ → Bool
is_whole base ds = nat_lt 0 (digits_len base ds) && not (is_name_char (slice_index ds (digits_len base ds)))

-- what they write
abbrev pub value_of : Base → List ℕ → ℕ
value_of base ds = digits_value (radix base) (take (digits_len base ds) ds)

-- a number has at most the value 2,147,483,647
abbrev pub number_in : Base → List ℕ → Piece
number_in base ds =
    if not (is_whole base ds) then Bad
    else if nat_le (value_of base ds) 2147483647 then Token (Number (pos (value_of base ds))) (lead_len base + digits_len base ds)
    else TooLarge

unfoldable pub number : List ℕ → Piece
number cs = number_in (base_of cs) (drop (lead_len (base_of cs)) cs)

-- ---- texts, marks, comments, and lines that are skipped

-- a text, by what stands behind its first quote: up to 200 characters, and another quote
unfoldable pub quoted : List ℕ → Piece
quoted cs =
    let n = prefix_len (is_in Quoted) cs in
    if nat_le n 200 && (slice_index cs n == 34) then Token Text (n + 2) else Bad

abbrev pub mark_of : ℕ → Piece
mark_of n = if n == 0 then Bad else Token Mark n

-- how many characters there are up to and with the first */
abbrev pub closing : List ℕ → Option ℕ
closing [] = None
closing (c ∷ cs) = if (c == 42) && (slice_index cs 0 == 47) then Some 2 else option_map suc (closing cs)

-- a comment that is not closed is no separator
abbrev pub comment_of : Option ℕ → Piece
comment_of None = Bad
comment_of (Some n) = Gap (n + 2)

-- a comment to the end of the line, by what stands behind its first /
unfoldable pub line_comment : List ℕ → Piece
line_comment cs = Gap (1 + prefix_len (is_in Line) cs)

-- a comment from /* to the first */, by what stands behind its /
unfoldable pub comment : List ℕ → Piece
comment cs = comment_of (closing (drop 1 cs))

-- behind # stands include, with at most blanks and tabs between
abbrev pub is_include : List ℕ → Bool
is_include cs = starts_with nat_eq (drop (prefix_len (is_in Blank) cs) cs) (codes "include")

-- a line that begins so is skipped up to its end; any other # is no token
unfoldable pub hash : Bool → List ℕ → Piece
hash is_head cs = if is_head && is_include cs then Gap (1 + prefix_len (is_in Line) cs) else Bad

-- ---- any of them

-- what stands in front of a text, where its line has had only blanks and tabs so far, or more
unfoldable pub piece_at : Bool → List ℕ → Piece
piece_at is_head [] = End
piece_at is_head (c ∷ cs) =
    if is_space c then Gap 1
    else if is_name_start c then Token Name (1 + prefix_len (is_in NameChar) cs)
    else if is_ascii_digit c then number (c ∷ cs)
    else if c == 34 then quoted cs
    else if (c == 47) && (slice_index cs 0 == 47) then line_comment cs
    else if (c == 47) && (slice_index cs 0 == 42) then comment cs
    else if c == 35 then hash is_head cs
    else mark_of (mark_len (c ∷ cs))
