-- The classes of characters.
use Rattle.std.specs.Prelude.{ℕ, Bool, not, ◌&&◌, ◌||◌, ◌==◌, nat_le}
use Rattle.std.specs.Char.{is_digit}
use Rattle.mm_goto.specs.Names.{is_name_char}
use Rattle.mm_lexer.specs.declared.class.Base.{Base}
use Rattle.mm_lexer.specs.declared.class.Base.TheVariants.{Octal, Decimal, Hexadecimal}
use Rattle.mm_lexer.specs.declared.class.Class.{Class}
use Rattle.mm_lexer.specs.declared.class.Class.TheVariants.{Blank, Line, Name, Quoted, Digit}

-- a blank or a tab
abbrev pub is_blank : ℕ → Bool
is_blank c = (c == 32) || (c == 9)

-- what separates tokens by itself: a blank, a tab, a carriage return or a newline
abbrev pub is_space : ℕ → Bool
is_space c = (is_blank c || (c == 13)) || (c == 10)

-- a text has printable ASCII other than " and \
abbrev pub is_text_char : ℕ → Bool
is_text_char c = ((nat_le 32 c && nat_le c 126) && not (c == 34)) && not (c == 92)

abbrev pub radix : Base → ℕ
radix Octal = 8
radix Decimal = 10
radix Hexadecimal = 16

-- the characters of a class
abbrev pub is_in : Class → ℕ → Bool
is_in Blank c = is_blank c
is_in Line c = not (c == 10)
is_in Name c = is_name_char c
is_in Quoted c = is_text_char c
is_in (Digit base) c = is_digit c (radix base)
