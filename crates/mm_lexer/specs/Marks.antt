-- The marks, longest first.
use Rattle.std.specs.Prelude.{ℕ, Bool, ◌&&◌, ◌||◌, ◌==◌, if◌then◌else◌, List, codes, slice_index}
use Rattle.std.specs.List.{list_any}

abbrev pub is_one_of : List ℕ → ℕ → Bool
is_one_of cs c = list_any (λ d. c == d) cs

-- <<= and >>=
abbrev pub is_triple : ℕ → ℕ → ℕ → Bool
is_triple c d e = (is_one_of (codes "<>") c && (c == d)) && (e == 61)

-- ++ -- && || == << >>
abbrev pub is_double : ℕ → ℕ → Bool
is_double c d = is_one_of (codes "+-&|=<>") c && (c == d)

-- what makes a mark with = behind it: += -= *= /= %= &= |= ^= != <= >=
abbrev pub takes_equal : ℕ → Bool
takes_equal c = is_one_of (codes "+-*/%&|^!<>") c

-- these, and ->
abbrev pub is_pair : ℕ → ℕ → Bool
is_pair c d = (is_double c d || (takes_equal c && (d == 61))) || ((c == 45) && (d == 62))

abbrev pub singles : List ℕ
singles = codes "+-*/%&|^~!<>=?:;,()[]{}."

abbrev pub is_single : ℕ → Bool
is_single c = is_one_of singles c

-- how many characters the longest mark in front of a text has, and 0 where none stands there
unfoldable pub mark_len : List ℕ → ℕ
mark_len cs =
    let c = slice_index cs 0 in
    let d = slice_index cs 1 in
    if is_triple c d (slice_index cs 2) then 3 else if is_pair c d then 2 else if is_single c then 1 else 0
