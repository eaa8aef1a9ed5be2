-- How pieces are cut into tokens: one law for all lists of pieces in which each ends where the next begins.
use Rattle.std.proofs.Common.{◌≡◌, ℕ, zero, suc, ◌+◌, ◌<◌, ◌^◌, Bool, true, false, not, ◌&&◌, ◌||◌, ◌==◌, List, [], ◌∷◌, ◌++◌, length, map, slice_index, refl, sym, ◌∙◌, ap, subst, arith, append_assoc}
use Rattle.std.specs.Prelude.{codes}
use Rattle.std.specs.Fmt.{decimal}
use Rattle.std.specs.List.{list_all}
use Rattle.std.specs.Str.{chars}
use Rattle.std.proofs.lemmas.Bool.{and_parts}
use Rattle.std.proofs.lemmas.Fmt.{decimal_is_IsNumeral}
use Rattle.std.proofs.lemmas.Bool.Decides.{nat_tests}
use Rattle.std.proofs.lemmas.Str.{chars-append, chars-nil}
use Rattle.unicode_ident.specs.Ident.{is_xid_start, is_xid_continue}
use Rattle.unicode_ident.proofs.IdentLemmas.{is_xid_start-is_xid_continue}
use Rattle.mm_goto.specs.declared.pure.Binary.{Binary}
use Rattle.mm_goto.specs.declared.pure.Binary.TheVariants as binary
use Rattle.mm_goto.specs.Names.{is_name, is_name_start, is_name_char}
use Rattle.mm_lexer.specs.Lexemes.{Spells}
use Rattle.mm_lexer.specs.Marks.{is_one_of, is_single, is_pair, is_triple, mark_len}
use Rattle.mm_lexer.proofs.Characters.{is_ascii, is_ascii_name, is_ascii_name_start, is_ascii_stop, stops_name, is_ascii_name_char}
use Rattle.mm_lexer.proofs.Building.{mark_on}
use Rattle.mm_parse_expr.specs.declared.symbol.Keyword.{Keyword}
use Rattle.mm_parse_expr.specs.declared.symbol.Keyword.TheVariants as keyword
use Rattle.mm_parse_expr.specs.declared.symbol.Symbol.{Symbol}
use Rattle.mm_parse_expr.specs.declared.symbol.Symbol.TheVariants as symbol
use Rattle.mm_parse_expr.specs.Symbols.{word_symbol, mark_symbol}
use Rattle.mm_parse_expr.proofs.WordNames.{name_symbol}
use Rattle.mm_print.proofs.Says.{Says, Stops, mark_says, ascii_first, ascii_word, ascii_word_utf8, digits_all, nothing_says, blank_says, newline_says, word_says, ascii_says, number_says, quoted_says, semicolon_says, colon_says, comma_says, open_says, close_says, open_brace_says, close_brace_says, equal_says}
use Rattle.mm_print.proofs.Signs.{Sign, word, named, number, quoted, mark, lexeme}
use Rattle.mm_print.specs.Pieces.{Piece, indent, keyword_text, operator_text, mark_text, text}
use Rattle.mm_print.specs.Printable.{IsPrintableName, IsPrintableText, updates}

-- ---- where a piece ends

abbrev pub IsPiece : Piece → Type 0
IsPiece (Piece.name x) = IsPrintableName x
IsPiece (Piece.number n) = n < 2 ^ 31
IsPiece (Piece.quoted x) = IsPrintableText x
IsPiece _ = Unit {0}

-- no word or number goes on into these
abbrev pub ends_word : List Piece → Bool
ends_word (Piece.word k ∷ ps) = false
ends_word (Piece.null ∷ ps) = false
ends_word (Piece.name x ∷ ps) = false
ends_word (Piece.number n ∷ ps) = false
ends_word _ = true

-- no mark goes on into these
abbrev pub ends_mark : List Piece → Bool
ends_mark (Piece.mark symbol.Open ∷ ps) = true
ends_mark (Piece.mark _ ∷ ps) = false
ends_mark (Piece.quoted x ∷ ps) = false
ends_mark _ = true

-- a mark that no other begins with
abbrev pub is_solid : Symbol → Bool
is_solid symbol.Flip = true
is_solid symbol.Question = true
is_solid symbol.Colon = true
is_solid symbol.Semicolon = true
is_solid symbol.Comma = true
is_solid symbol.Open = true
is_solid symbol.Close = true
is_solid symbol.OpenBracket = true
is_solid symbol.CloseBracket = true
is_solid symbol.OpenBrace = true
is_solid symbol.CloseBrace = true
is_solid _ = false

-- the piece ends where the others begin
abbrev pub fits : Piece → List Piece → Bool
fits (Piece.word k) ps = ends_word ps
fits Piece.null ps = ends_word ps
fits (Piece.name x) ps = ends_word ps
fits (Piece.number n) ps = ends_word ps
fits (Piece.mark (symbol.Operator op)) ps = ends_mark ps
fits (Piece.mark (symbol.Update op)) ps = updates op && ends_mark ps
fits (Piece.mark symbol.Not) ps = ends_mark ps
fits (Piece.mark symbol.Assign) ps = ends_mark ps
fits (Piece.mark s) ps = is_solid s
fits _ ps = true

-- each piece is one, and ends where the next begins
abbrev pub Fit : List Piece → Type 0
Fit [] = Unit {0}
Fit (p ∷ ps) = IsPiece p × (fits p ps ≡ true) × Fit ps

-- ---- the tokens

-- the tokens of pieces
abbrev pub signs : List Piece → List Sign
signs [] = []
signs (Piece.blank ∷ ps) = signs ps
signs (Piece.line n ∷ ps) = signs ps
signs (Piece.word k ∷ ps) = word (symbol.Keyword k) (keyword_text k) ∷ signs ps
signs (Piece.null ∷ ps) = word symbol.Null (codes "NULL") ∷ signs ps
signs (Piece.name x ∷ ps) = named x ∷ signs ps
signs (Piece.number n ∷ ps) = number n ∷ signs ps
signs (Piece.quoted x ∷ ps) = quoted x ∷ signs ps
signs (Piece.mark s ∷ ps) = mark s (mark_text s) ∷ signs ps

-- ---- the first character behind a mark

-- no mark goes on with it, and no comment begins
abbrev loose : ℕ → Bool
loose d = list_all (λ k. not (k == d)) (codes "+-&|=<>/*")

ascii_loose : (c : ℕ) → is_ascii_name_char c ≡ true → loose c ≡ true
ascii_loose c h = grind (arith, nat_tests)

apart_from : (k c : ℕ) → is_name_char k ≡ false → is_name_char c ≡ true → not (k == c) ≡ true
apart_from k c e f = by_test (k == c) refl
  where
    by_test : (b : Bool) → (k == c) ≡ b → not b ≡ true
    by_test false g = refl
    by_test true g = let i : k ≡ c = grind (arith, nat_tests) in let j = ap is_name_char i in cc

name_loose : (c : ℕ) → is_name_char c ≡ true → loose c ≡ true
name_loose c h = rw (at 43 refl, at 45 refl, at 38 refl, at 124 refl, at 61 refl, at 60 refl, at 62 refl, at 47 refl, at 42 refl) refl
  where
    at : (k : ℕ) → is_ascii_stop k ≡ true → not (k == c) ≡ true
    at k s = apart_from k c (stops_name k s) h

no_pair : (c d : ℕ) → loose d ≡ true → is_pair c d ≡ false
no_pair c d h = grind (arith, nat_tests)

no_triple : (c d e : ℕ) → loose d ≡ true → is_triple c d e ≡ false
no_triple c d e h = grind (arith, nat_tests)

no_third : (c d e : ℕ) → loose e ≡ true → is_triple c d e ≡ false
no_third c d e h = grind (arith, nat_tests)

no_comment : (c d k : ℕ) → is_one_of (codes "/*") k ≡ true → loose d ≡ true → ((c == 47) && (d == k)) ≡ false
no_comment c d k h l = grind (arith, nat_tests)

single_ascii : (c : ℕ) → is_single c ≡ true → is_ascii c ≡ true
single_ascii c h = grind (arith, nat_tests)

any_mark_says : (c : ℕ) (w : List ℕ) (m : Symbol) {bs : List ℕ} {ss : List Sign} → is_single c ≡ true → list_all is_ascii (c ∷ w) ≡ true → ((c == 47) && (slice_index (w ++ chars bs) 0 == 47)) ≡ false → ((c == 47) && (slice_index (w ++ chars bs) 0 == 42)) ≡ false → mark_symbol (c ∷ w) ≡ m → mark_len (c ∷ (w ++ chars bs)) ≡ length (c ∷ w) → Says bs ss → Says (c ∷ (w ++ bs)) (mark m (c ∷ w) ∷ ss)
any_mark_says c w m {bs = bs} {ss = ss} e a line block k l s = record {
  utf8 = ascii_word_utf8 (c ∷ w) bs a s.utf8;
  spells = subst (λ cs. Spells false cs (map lexeme (mark m (c ∷ w) ∷ ss))) (sym (ascii_word (c ∷ w) bs a)) (mark_on false c w (chars bs) (map lexeme ss) e a line block l s.spells);
  signs = (record { symbol = k; spelling = refl }, s.signs);
}

-- a mark of one or two characters, with which nothing behind it goes on
single_says : (c : ℕ) (m : Symbol) {bs : List ℕ} {ss : List Sign} → is_single c ≡ true → mark_symbol (c ∷ []) ≡ m → loose (slice_index (chars bs) 0) ≡ true → Says bs ss → Says (c ∷ bs) (mark m (c ∷ []) ∷ ss)
unfolding mark_len
single_says c m {bs = bs} e k l s = any_mark_says c [] m e (rw (single_ascii c e) refl) (no_comment c _ 47 refl l) (no_comment c _ 42 refl l) k (rw (no_triple c (slice_index (chars bs) 0) (slice_index (chars bs) 1) l, no_pair c (slice_index (chars bs) 0) l, e) refl) s

double_says : (c d : ℕ) (m : Symbol) {bs : List ℕ} {ss : List Sign} → is_single c ≡ true → list_all is_ascii (c ∷ d ∷ []) ≡ true → (c == 47) ≡ false → is_pair c d ≡ true → mark_symbol (c ∷ d ∷ []) ≡ m → loose (slice_index (chars bs) 0) ≡ true → Says bs ss → Says (c ∷ d ∷ bs) (mark m (c ∷ d ∷ []) ∷ ss)
unfolding mark_len
double_says c d m {bs = bs} e a n p k l s = mark_says c (d ∷ []) m e a n k (rw (no_third c d (slice_index (chars bs) 0) l, p) refl) s

operator_says : (op : Binary) {bs : List ℕ} {ss : List Sign} → loose (slice_index (chars bs) 0) ≡ true → Says bs ss → Says (operator_text op ++ bs) (mark (symbol.Operator op) (operator_text op) ∷ ss)
unfolding mark_symbol
operator_says binary.Add l s = single_says 43 (symbol.Operator binary.Add) refl refl l s
operator_says binary.Sub l s = single_says 45 (symbol.Operator binary.Sub) refl refl l s
operator_says binary.Mul l s = single_says 42 (symbol.Operator binary.Mul) refl refl l s
operator_says binary.Div l s = single_says 47 (symbol.Operator binary.Div) refl refl l s
operator_says binary.Rem l s = single_says 37 (symbol.Operator binary.Rem) refl refl l s
operator_says binary.Shl l s = double_says 60 60 (symbol.Operator binary.Shl) refl refl refl refl refl l s
operator_says binary.Shr l s = double_says 62 62 (symbol.Operator binary.Shr) refl refl refl refl refl l s
operator_says binary.Lt l s = single_says 60 (symbol.Operator binary.Lt) refl refl l s
operator_says binary.Le l s = double_says 60 61 (symbol.Operator binary.Le) refl refl refl refl refl l s
operator_says binary.Gt l s = single_says 62 (symbol.Operator binary.Gt) refl refl l s
operator_says binary.Ge l s = double_says 62 61 (symbol.Operator binary.Ge) refl refl refl refl refl l s
operator_says binary.Eq l s = equal_says s
operator_says binary.Ne l s = double_says 33 61 (symbol.Operator binary.Ne) refl refl refl refl refl l s
operator_says binary.And l s = single_says 38 (symbol.Operator binary.And) refl refl l s
operator_says binary.Xor l s = single_says 94 (symbol.Operator binary.Xor) refl refl l s
operator_says binary.Or l s = single_says 124 (symbol.Operator binary.Or) refl refl l s
operator_says binary.Land l s = double_says 38 38 (symbol.Operator binary.Land) refl refl refl refl refl l s
operator_says binary.Lor l s = double_says 124 124 (symbol.Operator binary.Lor) refl refl refl refl refl l s

-- an operator, and `=` behind it
update_says : (op : Binary) {bs : List ℕ} {ss : List Sign} → updates op ≡ true → Says bs ss → Says ((operator_text op ++ codes "=") ++ bs) (mark (symbol.Update op) (operator_text op ++ codes "=") ∷ ss)
unfolding mark_symbol mark_len
update_says binary.Add u s = mark_says 43 (61 ∷ []) (symbol.Update binary.Add) refl refl refl refl refl s
update_says binary.Sub u s = mark_says 45 (61 ∷ []) (symbol.Update binary.Sub) refl refl refl refl refl s
update_says binary.Mul u s = mark_says 42 (61 ∷ []) (symbol.Update binary.Mul) refl refl refl refl refl s
update_says binary.Div u s = any_mark_says 47 (61 ∷ []) (symbol.Update binary.Div) refl refl refl refl refl refl s
update_says binary.Rem u s = mark_says 37 (61 ∷ []) (symbol.Update binary.Rem) refl refl refl refl refl s
update_says binary.Shl u s = mark_says 60 (60 ∷ 61 ∷ []) (symbol.Update binary.Shl) refl refl refl refl refl s
update_says binary.Shr u s = mark_says 62 (62 ∷ 61 ∷ []) (symbol.Update binary.Shr) refl refl refl refl refl s
update_says binary.And u s = mark_says 38 (61 ∷ []) (symbol.Update binary.And) refl refl refl refl refl s
update_says binary.Xor u s = mark_says 94 (61 ∷ []) (symbol.Update binary.Xor) refl refl refl refl refl s
update_says binary.Or u s = mark_says 124 (61 ∷ []) (symbol.Update binary.Or) refl refl refl refl refl s
update_says binary.Lt u s = absurd (cc)
update_says binary.Le u s = absurd (cc)
update_says binary.Gt u s = absurd (cc)
update_says binary.Ge u s = absurd (cc)
update_says binary.Eq u s = absurd (cc)
update_says binary.Ne u s = absurd (cc)
update_says binary.Land u s = absurd (cc)
update_says binary.Lor u s = absurd (cc)

keyword_facts : (k : Keyword) → (is_ascii_name (keyword_text k) ≡ true) × (word_symbol (keyword_text k) ≡ symbol.Keyword k)
unfolding word_symbol keyword_text
keyword_facts keyword.Int = (refl, refl)
keyword_facts keyword.Void = (refl, refl)
keyword_facts keyword.Static = (refl, refl)
keyword_facts keyword.Volatile = (refl, refl)
keyword_facts keyword.Extern = (refl, refl)
keyword_facts keyword.If = (refl, refl)
keyword_facts keyword.Else = (refl, refl)
keyword_facts keyword.While = (refl, refl)
keyword_facts keyword.Do = (refl, refl)
keyword_facts keyword.For = (refl, refl)
keyword_facts keyword.Break = (refl, refl)
keyword_facts keyword.Continue = (refl, refl)
keyword_facts keyword.Return = (refl, refl)
keyword_facts keyword.Goto = (refl, refl)
keyword_facts keyword.Assert = (refl, refl)
keyword_facts keyword.Thread = (refl, refl)
keyword_facts keyword.Mutex = (refl, refl)
keyword_facts keyword.MutexInitializer = (refl, refl)
keyword_facts keyword.Create = (refl, refl)
keyword_facts keyword.Join = (refl, refl)
keyword_facts keyword.Lock = (refl, refl)
keyword_facts keyword.Unlock = (refl, refl)
keyword_facts keyword.Synchronize = (refl, refl)
keyword_facts keyword.FetchAndAdd = (refl, refl)
keyword_facts keyword.CompareAndSwap = (refl, refl)
keyword_facts keyword.Assume = (refl, refl)
keyword_facts keyword.ProverAssert = (refl, refl)
keyword_facts keyword.AtomicBegin = (refl, refl)
keyword_facts keyword.AtomicEnd = (refl, refl)

operator_stops : (op : Binary) (bs : List ℕ) → Stops (operator_text op ++ bs)
operator_stops binary.Add bs = refl
operator_stops binary.Sub bs = refl
operator_stops binary.Mul bs = refl
operator_stops binary.Div bs = refl
operator_stops binary.Rem bs = refl
operator_stops binary.Shl bs = refl
operator_stops binary.Shr bs = refl
operator_stops binary.Lt bs = refl
operator_stops binary.Le bs = refl
operator_stops binary.Gt bs = refl
operator_stops binary.Ge bs = refl
operator_stops binary.Eq bs = refl
operator_stops binary.Ne bs = refl
operator_stops binary.And bs = refl
operator_stops binary.Xor bs = refl
operator_stops binary.Or bs = refl
operator_stops binary.Land bs = refl
operator_stops binary.Lor bs = refl

mark_stops : (s : Symbol) (ps : List Piece) → fits (Piece.mark s) ps ≡ true → (bs : List ℕ) → Stops (mark_text s ++ bs)
mark_stops (symbol.Operator op) ps h bs = operator_stops op bs
mark_stops symbol.Not ps h bs = refl
mark_stops symbol.Assign ps h bs = refl
mark_stops symbol.Flip ps h bs = refl
mark_stops symbol.Question ps h bs = refl
mark_stops symbol.Colon ps h bs = refl
mark_stops symbol.Semicolon ps h bs = refl
mark_stops symbol.Comma ps h bs = refl
mark_stops symbol.Open ps h bs = refl
mark_stops symbol.Close ps h bs = refl
mark_stops symbol.OpenBracket ps h bs = refl
mark_stops symbol.CloseBracket ps h bs = refl
mark_stops symbol.OpenBrace ps h bs = refl
mark_stops symbol.CloseBrace ps h bs = refl
mark_stops symbol.Name ps h bs = absurd (cc)
mark_stops (symbol.Number z) ps h bs = absurd (cc)
mark_stops symbol.Text ps h bs = absurd (cc)
mark_stops symbol.Null ps h bs = absurd (cc)
mark_stops (symbol.Keyword k) ps h bs = absurd (cc)
mark_stops symbol.Outside ps h bs = absurd (cc)
mark_stops (symbol.Update op) ps h bs = subst Stops (sym (append_assoc (operator_text op) (codes "=") bs)) (operator_stops op (61 ∷ bs))
mark_stops symbol.Increment ps h bs = absurd (cc)
mark_stops symbol.Decrement ps h bs = absurd (cc)

mark_piece_says : (s : Symbol) (ps : List Piece) → fits (Piece.mark s) ps ≡ true → (ends_mark ps ≡ true → loose (slice_index (chars (text ps)) 0) ≡ true) → Says (text ps) (signs ps) → Says (text (Piece.mark s ∷ ps)) (signs (Piece.mark s ∷ ps))
unfolding mark_symbol mark_len
mark_piece_says (symbol.Operator op) ps h l s = operator_says op (l h) s
mark_piece_says symbol.Not ps h l s = single_says 33 symbol.Not refl refl (l h) s
mark_piece_says symbol.Assign ps h l s = single_says 61 symbol.Assign refl refl (l h) s
mark_piece_says symbol.Flip ps h l s = mark_says 126 [] symbol.Flip refl refl refl refl refl s
mark_piece_says symbol.Question ps h l s = mark_says 63 [] symbol.Question refl refl refl refl refl s
mark_piece_says symbol.Colon ps h l s = colon_says s
mark_piece_says symbol.Semicolon ps h l s = semicolon_says s
mark_piece_says symbol.Comma ps h l s = comma_says s
mark_piece_says symbol.Open ps h l s = open_says s
mark_piece_says symbol.Close ps h l s = close_says s
mark_piece_says symbol.OpenBracket ps h l s = mark_says 91 [] symbol.OpenBracket refl refl refl refl refl s
mark_piece_says symbol.CloseBracket ps h l s = mark_says 93 [] symbol.CloseBracket refl refl refl refl refl s
mark_piece_says symbol.OpenBrace ps h l s = open_brace_says s
mark_piece_says symbol.CloseBrace ps h l s = close_brace_says s
mark_piece_says symbol.Name ps h l s = absurd (cc)
mark_piece_says (symbol.Number z) ps h l s = absurd (cc)
mark_piece_says symbol.Text ps h l s = absurd (cc)
mark_piece_says symbol.Null ps h l s = absurd (cc)
mark_piece_says (symbol.Keyword k) ps h l s = absurd (cc)
mark_piece_says symbol.Outside ps h l s = absurd (cc)
mark_piece_says (symbol.Update op) ps h l s = update_says op (and_parts (updates op) (ends_mark ps) h).0 s
mark_piece_says symbol.Increment ps h l s = absurd (cc)
mark_piece_says symbol.Decrement ps h l s = absurd (cc)

-- ---- what the text behind a piece begins with

ends : (ps : List Piece) → Fit ps → ends_word ps ≡ true → Stops (text ps)
ends [] f h = tt
ends (Piece.blank ∷ ps) f h = refl
ends (Piece.line n ∷ ps) f h = refl
ends (Piece.word k ∷ ps) f h = absurd (cc)
ends (Piece.null ∷ ps) f h = absurd (cc)
ends (Piece.name x ∷ ps) f h = absurd (cc)
ends (Piece.number n ∷ ps) f h = absurd (cc)
ends (Piece.quoted x ∷ ps) f h = refl
ends (Piece.mark s ∷ ps) f h = mark_stops s ps f.1 (text ps)

first_ascii : (c : ℕ) (bs : List ℕ) → is_ascii c ≡ true → loose c ≡ true → loose (slice_index (chars (c ∷ bs)) 0) ≡ true
first_ascii c bs a l = ap (λ cs. loose (slice_index cs 0)) (ascii_first c bs a) ∙ l

name_char_ascii : (c : ℕ) → is_ascii_name_char c ≡ true → is_ascii c ≡ true
name_char_ascii c h = grind (arith, nat_tests)

word_loose : (w bs : List ℕ) → 0 < length w → list_all is_ascii_name_char w ≡ true → loose (slice_index (chars (w ++ bs)) 0) ≡ true
word_loose [] bs n h = absurd (omega arith)
word_loose (c ∷ w) bs n h = let b = and_parts (is_ascii_name_char c) (list_all is_ascii_name_char w) h in first_ascii c (w ++ bs) (name_char_ascii c b.0) (ascii_loose c b.0)

start_char : (c : ℕ) → is_ascii_name_start c ≡ true → is_ascii_name_char c ≡ true
start_char c h = grind (arith, nat_tests)

ascii_name_loose : (w bs : List ℕ) → is_ascii_name w ≡ true → loose (slice_index (chars (w ++ bs)) 0) ≡ true
ascii_name_loose [] bs h = absurd (cc)
ascii_name_loose (c ∷ w) bs h = let b = and_parts (is_ascii_name_start c) (list_all is_ascii_name_char w) h in first_ascii c (w ++ bs) (name_char_ascii c (start_char c b.0)) (ascii_loose c (start_char c b.0))

start_is_char : (c : ℕ) → is_name_start c ≡ true → is_name_char c ≡ true
start_is_char c h = by (c == 95) h
  where
    by : (b : Bool) → (b || is_xid_start c) ≡ true → (b || is_xid_continue c) ≡ true
    by true e = refl
    by false e = is_xid_start-is_xid_continue c e

chars_loose : (w bs : List ℕ) → is_name w ≡ true → loose (slice_index (w ++ bs) 0) ≡ true
chars_loose [] bs h = absurd (cc)
chars_loose (c ∷ w) bs h = let b = and_parts (is_name_start c) (list_all is_name_char w) h in name_loose c (start_is_char c b.0)

digit_char : (d : ℕ) → d < 10 → is_ascii_name_char (48 + d) ≡ true
digit_char d h = grind (arith, nat_tests)

number_loose : (n : ℕ) (bs : List ℕ) → n < 2 ^ 31 → loose (slice_index (chars (decimal n ++ bs)) 0) ≡ true
number_loose n bs h = let wide : n < 2 ^ 64 = omega arith in word_loose (decimal n) bs (decimal_is_IsNumeral n wide).0.0 (digits_all is_ascii_name_char digit_char n)

open_loose : (bs : List ℕ) → loose (slice_index (chars (40 ∷ bs)) 0) ≡ true
open_loose bs = first_ascii 40 bs refl refl

looses : (ps : List Piece) → Fit ps → ends_mark ps ≡ true → loose (slice_index (chars (text ps)) 0) ≡ true
looses [] f h = ap (λ cs. loose (slice_index cs 0)) chars-nil
looses (Piece.blank ∷ ps) f h = first_ascii 32 (text ps) refl refl
looses (Piece.line n ∷ ps) f h = first_ascii 10 (indent n ++ text ps) refl refl
looses (Piece.word k ∷ ps) f h = ascii_name_loose (keyword_text k) (text ps) (keyword_facts k).0
looses (Piece.null ∷ ps) f h = ascii_name_loose (codes "NULL") (text ps) refl
looses (Piece.name x ∷ ps) f h = ap (λ cs. loose (slice_index cs 0)) (chars-append x (text ps) f.0.utf8) ∙ chars_loose (chars x) (chars (text ps)) f.0.name
looses (Piece.number n ∷ ps) f h = number_loose n (text ps) f.0
looses (Piece.quoted x ∷ ps) f h = absurd (cc)
looses (Piece.mark symbol.Open ∷ ps) f h = open_loose (text ps)
looses (Piece.mark _ ∷ ps) f h = absurd (cc)

-- ---- the law

null_symbol : word_symbol (codes "NULL") ≡ symbol.Null
unfolding word_symbol
null_symbol = refl

indent_says : (n : ℕ) {bs : List ℕ} {ss : List Sign} → Says bs ss → Says (indent n ++ bs) ss
indent_says zero s = s
indent_says (suc n) s = blank_says (blank_says (indent_says n s))

pub pieces_say : (ps : List Piece) → Fit ps → Says (text ps) (signs ps)
pieces_say [] f = nothing_says
pieces_say (Piece.blank ∷ ps) f = blank_says (pieces_say ps f.2)
pieces_say (Piece.line n ∷ ps) f = newline_says (indent_says n (pieces_say ps f.2))
pieces_say (Piece.word k ∷ ps) f = let a = keyword_facts k in ascii_says (keyword_text k) (symbol.Keyword k) a.0 a.1 (ends ps f.2 f.1) (pieces_say ps f.2)
pieces_say (Piece.null ∷ ps) f = ascii_says (codes "NULL") symbol.Null refl null_symbol (ends ps f.2 f.1) (pieces_say ps f.2)
pieces_say (Piece.name x ∷ ps) f = word_says x symbol.Name f.0.utf8 f.0.name (name_symbol x f.0.no_word) (ends ps f.2 f.1) (pieces_say ps f.2)
pieces_say (Piece.number n ∷ ps) f = number_says n f.0 (ends ps f.2 f.1) (pieces_say ps f.2)
pieces_say (Piece.quoted x ∷ ps) f = subst (λ t. Says t (quoted x ∷ signs ps)) (ap (λ t. 34 ∷ t) (sym (append_assoc x (34 ∷ []) (text ps)))) (quoted_says x f.0.printable f.0.short (pieces_say ps f.2))
pieces_say (Piece.mark s ∷ ps) f = mark_piece_says s ps f.1 (looses ps f.2) (pieces_say ps f.2)
