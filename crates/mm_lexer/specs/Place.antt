-- How far a text has been read. A place is at the head of its line where only blanks and tabs stand before it there, and
-- so where its line begins outside a comment: a line that begins in one has the comment's end in it.
use Rattle.std.specs.Prelude.{ℕ, ◌+◌, ◌≤◌, true, ◌&&◌, ◌||◌, ◌==◌, List, [], ◌∷◌}
use Rattle.std.specs.Char.{len_utf8}
use Rattle.std.specs.Str.{chars}
use Rattle.mm_goto.specs.declared.ident.At.{At}
use Rattle.mm_goto.specs.Place as place
use Rattle.mm_lexer.specs.declared.place.Place.{Place}
use Rattle.mm_lexer.specs.Class.{is_blank}

-- where a text begins
abbrev pub start : Place
start = record { offset = 0; at = place.start; is_head = true }

-- the place behind a character: a newline begins a line
unfoldable pub past : Place → ℕ → Place
past p c = record { offset = p.offset + len_utf8 c; at = place.past p.at c; is_head = (c == 10) || (p.is_head && is_blank c) }

-- the place behind these characters
abbrev pub past_all : Place → List ℕ → Place
past_all p [] = p
past_all p (c ∷ cs) = past_all (past p c) cs

-- one behind the last character of a text
abbrev pub end_of : List ℕ → At
end_of text = place.place_after (chars text)

-- n bytes more are within the bound of a text
pub record HasRoom (p : Place) (n : ℕ) : Type 0 where
  pub offset : p.offset + n ≤ 16777216
  pub line : p.at.line ≤ p.offset + 1
  pub column : p.at.column ≤ p.offset + 1
