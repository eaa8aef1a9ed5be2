-- How a printed text is cut into its tokens, from the right.
use Rattle.std.proofs.Common.{◌≡◌, ℕ, zero, suc, ◌+◌, ◌≤◌, ◌<◌, ◌^◌, ◌/◌, ◌%◌, ◌==◌, ◌&&◌, cond, nat_lt, Bool, true, false, List, [], ◌∷◌, ◌++◌, map, length, refl, sym, ◌∙◌, ap, subst, arith, append-nil}
use Rattle.std.proofs.lemmas.Bool.{and_parts}
use Rattle.std.specs.Prelude.{slice_index}
use Rattle.std.specs.Fmt.{decimal, digits, digits_onto, digit_glyph}
use Rattle.std.specs.List.{list_all}
use Rattle.std.specs.Str.{chars, IsUtf8, IsAscii}
use Rattle.std.proofs.lemmas.Bool.Decides.{nat_tests}
use Rattle.std.proofs.lemmas.Str.{chars-append, chars-nil, chars-IsAscii, encodes-chars, IsUtf8-append, IsUtf8-from_ascii, IsUtf8-nil}
use Rattle.mm_goto.specs.declared.pure.Binary.TheVariants as binary
use Rattle.mm_goto.specs.Names.{is_name, is_name_char}
use Rattle.mm_lexer.specs.Class.{is_space, is_text_char}
use Rattle.mm_lexer.specs.Lexemes.{Spells}
use Rattle.mm_lexer.specs.Marks.{is_single, mark_len}
use Rattle.mm_lexer.proofs.Characters.{is_ascii, is_ascii_name, is_ascii_stop, stops_name, name_from_ascii, name_is_ascii, each, text_is_ascii}
use Rattle.mm_lexer.proofs.Building.{Ends, blank_on, name_on, mark_on, text_on, decimal_on}
use Rattle.mm_parse_expr.specs.declared.symbol.Symbol.{Symbol}
use Rattle.mm_parse_expr.specs.declared.symbol.Symbol.TheVariants as symbol
use Rattle.mm_parse_expr.specs.Symbols.{word_symbol, mark_symbol}
use Rattle.mm_print.proofs.Signs.{Sign, word, number, quoted, mark, lexeme, AreSigns, quoted_is_sign}

-- ---- ASCII

one_ascii : (c : ℕ) → nat_lt c 128 ≡ true → IsAscii (c ∷ [])
one_ascii c h zero = grind (arith, nat_tests)
one_ascii c h (suc i) = omega arith

pub ascii_first : (c : ℕ) (bs : List ℕ) → nat_lt c 128 ≡ true → chars (c ∷ bs) ≡ c ∷ chars bs
ascii_first c bs h = chars-append (c ∷ []) bs (IsUtf8-from_ascii (c ∷ []) (one_ascii c h)) ∙ ap (λ cs. cs ++ chars bs) (chars-IsAscii (c ∷ []) (one_ascii c h))

pub ascii_utf8 : (c : ℕ) (bs : List ℕ) → nat_lt c 128 ≡ true → IsUtf8 bs → IsUtf8 (c ∷ bs)
ascii_utf8 c bs h u = IsUtf8-append (c ∷ []) bs (IsUtf8-from_ascii (c ∷ []) (one_ascii c h)) u

pub ascii_word : (w bs : List ℕ) → list_all is_ascii w ≡ true → chars (w ++ bs) ≡ w ++ chars bs
ascii_word [] bs h = refl
ascii_word (c ∷ w) bs h = let b = and_parts (is_ascii c) (list_all is_ascii w) h in ascii_first c (w ++ bs) b.0 ∙ ap (λ cs. c ∷ cs) (ascii_word w bs b.1)

pub ascii_word_utf8 : (w bs : List ℕ) → list_all is_ascii w ≡ true → IsUtf8 bs → IsUtf8 (w ++ bs)
ascii_word_utf8 [] bs h u = u
ascii_word_utf8 (c ∷ w) bs h u = let b = and_parts (is_ascii c) (list_all is_ascii w) h in ascii_utf8 c (w ++ bs) b.0 (ascii_word_utf8 w bs b.1 u)

-- ---- printed numbers

glyph : (p : ℕ → Bool) → ((d : ℕ) → d < 10 → p (48 + d) ≡ true) → (d : ℕ) → d < 10 → p (digit_glyph false d) ≡ true
glyph p k d h = let small : nat_lt d 10 ≡ true = grind (arith, nat_tests) in ap p (ap (λ b. cond b (48 + d) (87 + d)) small) ∙ k d h

onto_all : (p : ℕ → Bool) → ((d : ℕ) → d < 10 → p (48 + d) ≡ true) → (k n : ℕ) (acc : List ℕ) → list_all p acc ≡ true → list_all p (digits_onto k 10 false n acc) ≡ true
onto_all p f zero n acc h = h
onto_all p f (suc k) n acc h =
    let more : list_all p (digit_glyph false (n % 10) ∷ acc) ≡ true = rw (glyph p f (n % 10) (omega arith), h) refl in
    by_test (n / 10 == 0) _ _ more (onto_all p f k (n / 10) (digit_glyph false (n % 10) ∷ acc) more)
  where
    by_test : (b : Bool) (xs ys : List ℕ) → list_all p xs ≡ true → list_all p ys ≡ true → list_all p (cond b xs ys) ≡ true
    by_test true xs ys g e = g
    by_test false xs ys g e = e

-- what holds of each digit holds of each character of a printed number
pub digits_all : (p : ℕ → Bool) → ((d : ℕ) → d < 10 → p (48 + d) ≡ true) → (n : ℕ) → list_all p (decimal n) ≡ true
unfolding digits
digits_all p f n = onto_all p f 64 n [] refl

-- ---- tokens, one after another

-- the text is cut into these tokens
pub record Says (text : List ℕ) (ss : List Sign) : Type 0 where
  pub utf8 : IsUtf8 text
  pub spells : Spells false (chars text) (map lexeme ss)
  pub signs : AreSigns ss

-- no name goes on into the text
abbrev pub Stops : List ℕ → Type 0
Stops [] = Unit {0}
Stops (c ∷ bs) = is_ascii_stop c ≡ true

stops : (bs : List ℕ) → Stops bs → Ends is_name_char (chars bs)
stops [] h = subst (Ends is_name_char) (sym chars-nil) tt
stops (c ∷ bs) h = subst (Ends is_name_char) (sym (ascii_first c bs (and_parts (is_ascii c) _ h).0)) (stops_name c h)

pub nothing_says : Says [] []
nothing_says = record { utf8 = IsUtf8-nil; spells = subst (λ cs. Spells false cs []) (sym chars-nil) Spells.none; signs = tt }

pub space_says : (c : ℕ) {bs : List ℕ} {ss : List Sign} → is_space c ≡ true → is_ascii c ≡ true → Says bs ss → Says (c ∷ bs) ss
space_says c {bs = bs} {ss = ss} e a s = record {
  utf8 = ascii_utf8 c bs a s.utf8;
  spells = subst (λ cs. Spells false cs (map lexeme ss)) (sym (ascii_first c bs a)) (blank_on false c (chars bs) (map lexeme ss) e s.spells);
  signs = s.signs;
}

pub blank_says : {bs : List ℕ} {ss : List Sign} → Says bs ss → Says (32 ∷ bs) ss
blank_says s = space_says 32 refl refl s

pub newline_says : {bs : List ℕ} {ss : List Sign} → Says bs ss → Says (10 ∷ bs) ss
newline_says s = space_says 10 refl refl s

pub mark_says : (c : ℕ) (w : List ℕ) (m : Symbol) {bs : List ℕ} {ss : List Sign} → is_single c ≡ true → list_all is_ascii (c ∷ w) ≡ true → (c == 47) ≡ false → mark_symbol (c ∷ w) ≡ m → mark_len (c ∷ (w ++ chars bs)) ≡ length (c ∷ w) → Says bs ss → Says (c ∷ (w ++ bs)) (mark m (c ∷ w) ∷ ss)
mark_says c w m {bs = bs} {ss = ss} e a n k l s = record {
  utf8 = ascii_word_utf8 (c ∷ w) bs a s.utf8;
  spells = subst (λ cs. Spells false cs (map lexeme (mark m (c ∷ w) ∷ ss))) (sym (ascii_word (c ∷ w) bs a)) (mark_on false c w (chars bs) (map lexeme ss) e a (apart 47) (apart 42) l s.spells);
  signs = (record { symbol = k; spelling = refl }, s.signs);
}
  where
    apart : (d : ℕ) → ((c == 47) && (slice_index (w ++ chars bs) 0 == d)) ≡ false
    apart d = ap (λ b. b && (slice_index (w ++ chars bs) 0 == d)) n

pub semicolon_says : {bs : List ℕ} {ss : List Sign} → Says bs ss → Says (59 ∷ bs) (mark symbol.Semicolon (59 ∷ []) ∷ ss)
unfolding mark_len mark_symbol
semicolon_says s = mark_says 59 [] symbol.Semicolon refl refl refl refl refl s

pub colon_says : {bs : List ℕ} {ss : List Sign} → Says bs ss → Says (58 ∷ bs) (mark symbol.Colon (58 ∷ []) ∷ ss)
unfolding mark_len mark_symbol
colon_says s = mark_says 58 [] symbol.Colon refl refl refl refl refl s

pub comma_says : {bs : List ℕ} {ss : List Sign} → Says bs ss → Says (44 ∷ bs) (mark symbol.Comma (44 ∷ []) ∷ ss)
unfolding mark_len mark_symbol
comma_says s = mark_says 44 [] symbol.Comma refl refl refl refl refl s

pub open_says : {bs : List ℕ} {ss : List Sign} → Says bs ss → Says (40 ∷ bs) (mark symbol.Open (40 ∷ []) ∷ ss)
unfolding mark_len mark_symbol
open_says s = mark_says 40 [] symbol.Open refl refl refl refl refl s

pub close_says : {bs : List ℕ} {ss : List Sign} → Says bs ss → Says (41 ∷ bs) (mark symbol.Close (41 ∷ []) ∷ ss)
unfolding mark_len mark_symbol
close_says s = mark_says 41 [] symbol.Close refl refl refl refl refl s

pub open_brace_says : {bs : List ℕ} {ss : List Sign} → Says bs ss → Says (123 ∷ bs) (mark symbol.OpenBrace (123 ∷ []) ∷ ss)
unfolding mark_len mark_symbol
open_brace_says s = mark_says 123 [] symbol.OpenBrace refl refl refl refl refl s

pub close_brace_says : {bs : List ℕ} {ss : List Sign} → Says bs ss → Says (125 ∷ bs) (mark symbol.CloseBrace (125 ∷ []) ∷ ss)
unfolding mark_len mark_symbol
close_brace_says s = mark_says 125 [] symbol.CloseBrace refl refl refl refl refl s

-- `=` with a blank behind it
pub assign_says : {bs : List ℕ} {ss : List Sign} → Says bs ss → Says (61 ∷ 32 ∷ bs) (mark symbol.Assign (61 ∷ []) ∷ ss)
unfolding mark_len mark_symbol
assign_says {bs = bs} s = mark_says 61 [] symbol.Assign refl refl refl refl (ap (λ cs. mark_len (61 ∷ cs)) (ascii_first 32 bs refl)) (blank_says s)

pub equal_says : {bs : List ℕ} {ss : List Sign} → Says bs ss → Says (61 ∷ 61 ∷ bs) (mark (symbol.Operator binary.Eq) (61 ∷ 61 ∷ []) ∷ ss)
unfolding mark_len mark_symbol
equal_says s = mark_says 61 (61 ∷ []) (symbol.Operator binary.Eq) refl refl refl refl refl s

-- ---- words, numbers and texts

pub word_says : (x : List ℕ) (m : Symbol) {bs : List ℕ} {ss : List Sign} → IsUtf8 x → is_name (chars x) ≡ true → word_symbol x ≡ m → Stops bs → Says bs ss → Says (x ++ bs) (word m x ∷ ss)
word_says x m {bs = bs} {ss = ss} u n k e s = record {
  utf8 = IsUtf8-append x bs u s.utf8;
  spells = subst (λ cs. Spells false cs (map lexeme (word m x ∷ ss))) (sym (chars-append x bs u))
      (subst (λ w. Spells false (chars x ++ chars bs) (lexeme (word m w) ∷ map lexeme ss)) (encodes-chars x u) (name_on false (chars x) (chars bs) (map lexeme ss) n (stops bs e) s.spells));
  signs = (record { symbol = k; spelling = refl }, s.signs);
}

pub ascii_name : (x : List ℕ) → is_ascii_name x ≡ true → is_name (chars x) ≡ true
ascii_name x h = ap is_name (sym (ap chars (append-nil x)) ∙ ascii_word x [] (name_is_ascii x h) ∙ ap (λ cs. x ++ cs) chars-nil ∙ append-nil x) ∙ name_from_ascii x h

-- a word of ASCII
pub ascii_says : (x : List ℕ) (m : Symbol) {bs : List ℕ} {ss : List Sign} → is_ascii_name x ≡ true → word_symbol x ≡ m → Stops bs → Says bs ss → Says (x ++ bs) (word m x ∷ ss)
ascii_says x m h k e s = word_says x m (subst IsUtf8 (append-nil x) (ascii_word_utf8 x [] (name_is_ascii x h) IsUtf8-nil)) (ascii_name x h) k e s

pub number_says : (n : ℕ) {bs : List ℕ} {ss : List Sign} → n < 2 ^ 31 → Stops bs → Says bs ss → Says (decimal n ++ bs) (number n ∷ ss)
number_says n {bs = bs} {ss = ss} small e s =
    let digits : list_all is_ascii (decimal n) ≡ true = digits_all is_ascii digit_ascii n in
    record {
      utf8 = ascii_word_utf8 (decimal n) bs digits s.utf8;
      spells = subst (λ cs. Spells false cs (map lexeme (number n ∷ ss))) (sym (ascii_word (decimal n) bs digits)) (decimal_on false n (chars bs) (map lexeme ss) (omega arith) (stops bs e) s.spells);
      signs = (record { symbol = refl; spelling = refl }, s.signs);
    }
  where
    digit_ascii : (d : ℕ) → d < 10 → is_ascii (48 + d) ≡ true
    digit_ascii d h = grind (arith, nat_tests)

pub quoted_says : (x : List ℕ) {bs : List ℕ} {ss : List Sign} → list_all is_text_char x ≡ true → length x ≤ 200 → Says bs ss → Says (34 ∷ (x ++ 34 ∷ bs)) (quoted x ∷ ss)
quoted_says x {bs = bs} {ss = ss} all small s =
    let a = each is_text_char is_ascii text_is_ascii x all in
    let e : chars (34 ∷ (x ++ 34 ∷ bs)) ≡ 34 ∷ (x ++ 34 ∷ chars bs) = ascii_first 34 (x ++ 34 ∷ bs) refl ∙ ap (λ cs. 34 ∷ cs) (ascii_word x (34 ∷ bs) a ∙ ap (λ cs. x ++ cs) (ascii_first 34 bs refl)) in
    record {
      utf8 = ascii_utf8 34 _ refl (ascii_word_utf8 x (34 ∷ bs) a (ascii_utf8 34 bs refl s.utf8));
      spells = subst (λ cs. Spells false cs (map lexeme (quoted x ∷ ss))) (sym e) (text_on false x (chars bs) (map lexeme ss) all small s.spells);
      signs = (quoted_is_sign x, s.signs);
    }
