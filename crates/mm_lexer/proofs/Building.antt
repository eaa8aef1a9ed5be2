-- How a text that is written piece by piece is read: a law for each way to go on.
use Rattle.std.proofs.Common.{◌≡◌, ℕ, zero, suc, pos, ◌+◌, ◌<◌, ◌≤◌, ◌^◌, Bool, true, false, not, ◌&&◌, ◌||◌, ◌==◌, cond, nat_lt, nat_le, List, [], ◌∷◌, ◌++◌, length, take, drop, get_or, slice_index, Some, refl, sym, ◌∙◌, ap, subst, arith, add-zero, lit<, length-append, append_assoc}
use Rattle.std.specs.Prelude.{option_map}
use Rattle.std.specs.Char.{is_ascii_digit, is_digit, digit_value}
use Rattle.std.specs.List.{list_all, prefix_len}
use Rattle.std.specs.Str.{encode_utf8_all}
use Rattle.std.proofs.Math.Seq.{drop-append_seam, take-append_seam}
use Rattle.std.specs.Fmt.{decimal}
use Rattle.std.proofs.lemmas.Fmt.{decimal_digit, decimal_is_IsNumeral, first_decimal, IsAscii-decimal}
use Rattle.std.proofs.lemmas.Str.Parse.{digit_from_value}
use Rattle.std.proofs.lemmas.Str.{encodes-IsAscii}
use Rattle.std.proofs.lemmas.Bool.{and_parts, lt-ltb}
use Rattle.std.proofs.lemmas.List.{get_or-append-add}
use Rattle.std.specs.Str.Parse.{digits_value, AllDigits}
use Rattle.std.proofs.lemmas.List.Folds.{list_all-append}
use Rattle.std.proofs.lemmas.Bool.Decides.{nat_tests}
use Rattle.mm_lexer.specs.declared.class.Base.{Base}
use Rattle.mm_lexer.specs.declared.class.Base.TheVariants.{Octal, Decimal}
use Rattle.mm_lexer.specs.declared.class.Class.TheVariants.{Line, Name as NameChar, Quoted, Digit}
use Rattle.mm_lexer.specs.declared.token.TokenKind.{TokenKind}
use Rattle.mm_lexer.specs.declared.token.TokenKind.TheVariants.{Name, Number, Text, Mark}
use Rattle.mm_lexer.specs.declared.piece.Piece.{Piece}
use Rattle.mm_lexer.specs.declared.piece.Piece.TheVariants.{Gap, Token, Bad, TooLarge}
use Rattle.mm_goto.specs.Names.{is_name, is_name_start, is_name_char}
use Rattle.mm_lexer.specs.Class.{is_blank, is_space, is_text_char, is_in, radix}
use Rattle.mm_lexer.specs.Marks.{is_single, mark_len}
use Rattle.mm_lexer.specs.Piece.{number_in, number, base_of, lead_len, digits_len, value_of, quoted, mark_of, closing, line_comment, comment, is_include, hash, piece_at}
use Rattle.mm_lexer.specs.Lexemes.{Lexeme, head_after, Spells}
use Rattle.mm_lexer.proofs.Characters.{is_ascii, is_ascii_name, each, encodes_ascii, name_from_ascii, name_is_ascii, text_is_ascii, name_start-ascii, name_char-ascii, start_space, digit_space, digit_name_start, digit_name, IsMarkAlone, mark_is_alone}

-- ---- the head of a line matters to # alone

hash_away : (cs : List ℕ) → hash false cs ≡ Bad
unfolding hash
hash_away cs = refl

-- two pieces of which the second is the first where this is not bad
abbrev Keeps : Piece → Piece → Type 0
Keeps x y = (z : Piece) → x ≡ z → (z ≡ Bad → ⊥) → y ≡ z

keeps_both : (b : Bool) (x y z : Piece) → Keeps y z → Keeps (cond b x y) (cond b x z)
keeps_both true x y z k w e n = e
keeps_both false x y z k w e n = k w e n

keeps_hash : (b h : Bool) (cs : List ℕ) (x : Piece) → Keeps (cond b (hash false cs) x) (cond b (hash h cs) x)
keeps_hash true h cs x w e n = absurd (n (sym e ∙ hash_away cs))
keeps_hash false h cs x w e n = e

away_from_head : (h : Bool) (cs : List ℕ) → Keeps (piece_at false cs) (piece_at h cs)
unfolding piece_at
away_from_head h [] = λ w e n. e
away_from_head h (c ∷ cs) =
    keeps_both (is_space c) _ _ _
    (keeps_both (is_name_start c) _ _ _
    (keeps_both (is_ascii_digit c) _ _ _
    (keeps_both (c == 34) _ _ _
    (keeps_both ((c == 47) && (slice_index cs 0 == 47)) _ _ _
    (keeps_both ((c == 47) && (slice_index cs 0 == 42)) _ _ _
    (keeps_hash (c == 35) h cs (mark_of (mark_len (c ∷ cs)))))))))

-- what holds where a line has begun holds at its head too
head_keeps : (cs : List ℕ) (a b : Bool) → (a ≡ true → b ≡ true) → head_after a cs ≡ true → head_after b cs ≡ true
head_keeps [] a b k e = k e
head_keeps (c ∷ cs) a b k e = head_keeps cs _ _ (step (c == 10) (is_blank c)) e
  where
    both_so : (w : Bool) → (a ≡ true → b ≡ true) → (a && w) ≡ true → (b && w) ≡ true
    both_so true k h = ap (λ d. d && true) (k (first a h))
      where
        first : (d : Bool) → (d && true) ≡ true → d ≡ true
        first true h = refl
        first false h = cc
    both_so false k h = absurd (none a h)
      where
        none : (d : Bool) → (d && false) ≡ true → ⊥
        none true h = cc
        none false h = cc

    step : (n w : Bool) → (n || (a && w)) ≡ true → (n || (b && w)) ≡ true
    step true w h = refl
    step false w h = both_so w k h

gap_not_bad : (n : ℕ) → Gap n ≡ Bad → ⊥
gap_not_bad n e = cc

token_not_bad : (kind : TokenKind) (n : ℕ) → Token kind n ≡ Bad → ⊥
token_not_bad kind n e = cc

piece_keeps : (a b : Bool) (cs : List ℕ) (z : Piece) → (a ≡ true → b ≡ true) → (z ≡ Bad → ⊥) → piece_at a cs ≡ z → piece_at b cs ≡ z
piece_keeps true b cs z k n e = ap (λ h. piece_at h cs) (k refl) ∙ e
piece_keeps false b cs z k n e = away_from_head b cs z e n

spells_keeps : {a : Bool} {cs : List ℕ} {ls : List Lexeme} → Spells a cs ls → (b : Bool) → (a ≡ true → b ≡ true) → Spells b cs ls
spells_keeps Spells.none b k = Spells.none
spells_keeps (Spells.gap {h = a} {cs = cs} {n = n} e s) b k = Spells.gap (piece_keeps a b cs (Gap n) k (gap_not_bad n) e) (spells_keeps s (head_after b (take n cs)) (head_keeps (take n cs) a b k))
spells_keeps (Spells.token {h = a} {cs = cs} {l = l} {n = n} e w s) b k = Spells.token (piece_keeps a b cs (Token l.kind n) k (token_not_bad l.kind n) e) w (spells_keeps s (head_after b (take n cs)) (head_keeps (take n cs) a b k))

-- the lexemes of a text do not depend on where in a line it stands, unless they need its head
pub anywhere : {cs : List ℕ} {ls : List Lexeme} → Spells false cs ls → (h : Bool) → Spells h cs ls
anywhere s h = spells_keeps s h (λ e. never e)
  where
    never : false ≡ true → h ≡ true
    never e = cc

-- ---- any piece

-- a separator, and what is read behind it
pub gap_on : (h : Bool) (front rest : List ℕ) (ls : List Lexeme) → piece_at h (front ++ rest) ≡ Gap (length front) → Spells (head_after h front) rest ls → Spells h (front ++ rest) ls
gap_on h front rest ls e s =
    let moved : Spells (head_after h (take (length front) (front ++ rest))) rest ls = subst (λ (w : List ℕ). Spells (head_after h w) rest ls) (sym (take-append_seam front rest)) s in
    Spells.gap e (subst (λ (more : List ℕ). Spells (head_after h (take (length front) (front ++ rest))) more ls) (sym (drop-append_seam front rest)) moved)

lexeme : TokenKind → List ℕ → Lexeme
lexeme kind word = record { kind = kind; bytes = encode_utf8_all word }

-- a token, and what is read behind it
pub token_on : (h : Bool) (kind : TokenKind) (front rest : List ℕ) (ls : List Lexeme) → piece_at h (front ++ rest) ≡ Token kind (length front) → Spells false rest ls → Spells h (front ++ rest) (record { kind = kind; bytes = encode_utf8_all front } ∷ ls)
token_on h kind front rest ls e s =
    let moved = subst (λ (more : List ℕ). Spells false more ls) (sym (drop-append_seam front rest)) s in
    Spells.token e (ap encode_utf8_all (sym (take-append_seam front rest))) (anywhere moved (head_after h (take (length front) (front ++ rest))))

-- ---- runs of characters

-- the text ends there, or goes on with a character that fails the test
abbrev pub Ends : (ℕ → Bool) → List ℕ → Type 0
Ends p [] = Unit {0}
Ends p (c ∷ cs) = p c ≡ false

run_len : (p : ℕ → Bool) (front rest : List ℕ) → list_all p front ≡ true → Ends p rest → prefix_len p (front ++ rest) ≡ length front
run_len p [] [] all e = refl
run_len p [] (c ∷ cs) all e = rw e refl
run_len p (c ∷ cs) rest all e =
    let b = and_parts (p c) (list_all p cs) all in
    let on = run_len p cs rest b.1 e in
    rw b.0 (omega (arith, on))

-- ---- what a piece begins with

at_name : (h : Bool) (c : ℕ) (cs : List ℕ) → is_space c ≡ false → is_name_start c ≡ true → piece_at h (c ∷ cs) ≡ Token Name (1 + prefix_len (is_in NameChar) cs)
unfolding piece_at
at_name h c cs a b = rw (a, b) refl

at_digit : (h : Bool) (c : ℕ) (cs : List ℕ) → is_ascii_digit c ≡ true → piece_at h (c ∷ cs) ≡ number (c ∷ cs)
unfolding piece_at
at_digit h c cs d = rw (digit_space c d, digit_name_start c d, d) refl

at_quote : (h : Bool) (c : ℕ) (cs : List ℕ) → is_space c ≡ false → is_name_start c ≡ false → is_ascii_digit c ≡ false → (c == 34) ≡ true → piece_at h (c ∷ cs) ≡ quoted cs
unfolding piece_at
at_quote h c cs a b d q = rw (a, b, d, q) refl

at_line_comment : (h : Bool) (c : ℕ) (cs : List ℕ) → IsMarkAlone c → ((c == 47) && (slice_index cs 0 == 47)) ≡ true → piece_at h (c ∷ cs) ≡ line_comment cs
unfolding piece_at
at_line_comment h c cs m e = rw (m.space, m.name, m.digit, m.quote, e) refl

at_comment : (h : Bool) (c : ℕ) (cs : List ℕ) → IsMarkAlone c → ((c == 47) && (slice_index cs 0 == 47)) ≡ false → ((c == 47) && (slice_index cs 0 == 42)) ≡ true → piece_at h (c ∷ cs) ≡ comment cs
unfolding piece_at
at_comment h c cs m e f = rw (m.space, m.name, m.digit, m.quote, e, f) refl

at_hash : (h : Bool) (c : ℕ) (cs : List ℕ) → is_space c ≡ false → is_name_start c ≡ false → is_ascii_digit c ≡ false → (c == 34) ≡ false → (c == 47) ≡ false → (c == 35) ≡ true → piece_at h (c ∷ cs) ≡ hash h cs
unfolding piece_at
at_hash h c cs a b d q l e = rw (a, b, d, q, l, e) refl

at_mark : (h : Bool) (c : ℕ) (cs : List ℕ) → IsMarkAlone c → ((c == 47) && (slice_index cs 0 == 47)) ≡ false → ((c == 47) && (slice_index cs 0 == 42)) ≡ false → piece_at h (c ∷ cs) ≡ mark_of (mark_len (c ∷ cs))
unfolding piece_at
at_mark h c cs m e f = rw (m.space, m.name, m.digit, m.quote, e, f, m.hash) refl

slash_alone : IsMarkAlone 47
slash_alone = mark_is_alone 47 refl

-- the first character behind the front
next_at : (xs ys : List ℕ) → slice_index (xs ++ ys) (length xs) ≡ slice_index ys 0
next_at xs ys = ap (slice_index (xs ++ ys)) (sym (add-zero (length xs))) ∙ get_or-append-add xs ys 0 0

-- ---- separators

pub space_piece : (h : Bool) (c : ℕ) (cs : List ℕ) → is_space c ≡ true → piece_at h (c ∷ cs) ≡ Gap 1
unfolding piece_at
space_piece h c cs e = rw e refl

-- a blank, a tab or a carriage return
pub blank_on : (h : Bool) (c : ℕ) (cs : List ℕ) (ls : List Lexeme) → is_space c ≡ true → Spells false cs ls → Spells h (c ∷ cs) ls
blank_on h c cs ls e s = gap_on h (c ∷ []) cs ls (space_piece h c cs e) (anywhere s _)

-- a newline, with the head of a line behind it
pub newline_on : (h : Bool) (cs : List ℕ) (ls : List Lexeme) → Spells true cs ls → Spells h (10 ∷ cs) ls
newline_on h cs ls s = gap_on h (10 ∷ []) cs ls (space_piece h 10 cs refl) s

-- a comment to the end of its line, which does not hold a newline
line_comment_len : (word rest : List ℕ) → list_all (is_in Line) word ≡ true → Ends (is_in Line) rest → line_comment (47 ∷ word ++ rest) ≡ Gap (length (47 ∷ 47 ∷ word))
unfolding line_comment
line_comment_len word rest all e = let n = run_len (is_in Line) (47 ∷ word) rest all e in ap Gap (omega (arith, n))

pub line_comment_on : (h : Bool) (word rest : List ℕ) (ls : List Lexeme) → list_all (is_in Line) word ≡ true → Ends (is_in Line) rest → Spells false rest ls → Spells h (47 ∷ 47 ∷ word ++ rest) ls
line_comment_on h word rest ls all e s = gap_on h (47 ∷ 47 ∷ word) rest ls (at_line_comment h 47 (47 ∷ word ++ rest) slash_alone refl ∙ line_comment_len word rest all e) (anywhere s _)

-- a comment in which no * stands
closing_len : (word rest : List ℕ) → list_all (λ c. not (c == 42)) word ≡ true → closing (word ++ 42 ∷ 47 ∷ rest) ≡ Some (length word + 2)
closing_len [] rest all = refl
closing_len (c ∷ cs) rest all =
    let b = and_parts (not (c == 42)) (list_all (λ d. not (d == 42)) cs) all in
    by_test (c == 42) b.0 (closing_len cs rest b.1)
  where
    by_test : (t : Bool) → not t ≡ true → closing (cs ++ 42 ∷ 47 ∷ rest) ≡ Some (length cs + 2) → cond (t && (slice_index (cs ++ 42 ∷ 47 ∷ rest) 0 == 47)) (Some 2) (option_map suc (closing (cs ++ 42 ∷ 47 ∷ rest))) ≡ Some (length (c ∷ cs) + 2)
    by_test true n on = cc
    by_test false n on = ap (option_map suc) on ∙ ap Some (omega arith)

comment_len : (word rest : List ℕ) → list_all (λ c. not (c == 42)) word ≡ true → comment (42 ∷ (word ++ 42 ∷ 47 ∷ rest)) ≡ Gap (length word + 4)
unfolding comment
comment_len word rest all = rw (closing_len word rest all) (ap Gap (omega arith))

pub comment_on : (h : Bool) (word rest : List ℕ) (ls : List Lexeme) → list_all (λ c. not (c == 42)) word ≡ true → Spells false rest ls → Spells h (47 ∷ 42 ∷ (word ++ 42 ∷ 47 ∷ rest)) ls
comment_on h word rest ls all s =
    let front = 47 ∷ 42 ∷ (word ++ 42 ∷ 47 ∷ []) in
    let e : word ++ 42 ∷ 47 ∷ [] ++ rest ≡ word ++ 42 ∷ 47 ∷ rest = append_assoc word (42 ∷ 47 ∷ []) rest in
    let p : piece_at h (47 ∷ 42 ∷ (word ++ 42 ∷ 47 ∷ rest)) ≡ Gap (length word + 4) = at_comment h 47 (42 ∷ (word ++ 42 ∷ 47 ∷ rest)) slash_alone refl refl ∙ comment_len word rest all in
    let n : length word + 4 ≡ length front = omega (arith, length-append word (42 ∷ 47 ∷ [])) in
    subst (λ (cs : List ℕ). Spells h (47 ∷ 42 ∷ cs) ls) e (gap_on h front rest ls (ap (λ cs. piece_at h (47 ∷ 42 ∷ cs)) e ∙ p ∙ ap Gap n) (anywhere s _))

-- a line that is skipped, up to its end
hash_apart : (is_space 35 ≡ false) × (is_name_start 35 ≡ false)
hash_apart = (refl, name_start-ascii 35 (lit< tt))

include_len : (word rest : List ℕ) → is_include (word ++ rest) ≡ true → list_all (is_in Line) word ≡ true → Ends (is_in Line) rest → hash true (word ++ rest) ≡ Gap (length (35 ∷ word))
unfolding hash
include_len word rest i all e = rw i (let n = run_len (is_in Line) word rest all e in ap Gap (omega (arith, n)))

pub include_on : (word rest : List ℕ) (ls : List Lexeme) → is_include (word ++ rest) ≡ true → list_all (is_in Line) word ≡ true → Ends (is_in Line) rest → Spells false rest ls → Spells true (35 ∷ word ++ rest) ls
include_on word rest ls i all e s = gap_on true (35 ∷ word) rest ls (at_hash true 35 (word ++ rest) hash_apart.0 hash_apart.1 refl refl refl refl ∙ include_len word rest i all e) (anywhere s _)

-- ---- names and marks

pub name_on : (h : Bool) (word rest : List ℕ) (ls : List Lexeme) → is_name word ≡ true → Ends is_name_char rest → Spells false rest ls → Spells h (word ++ rest) (record { kind = Name; bytes = encode_utf8_all word } ∷ ls)
name_on h [] rest ls n e s = cc
name_on h (c ∷ cs) rest ls n e s =
    let b = and_parts (is_name_start c) (list_all is_name_char cs) n in
    let len = run_len is_name_char cs rest b.1 e in
    token_on h Name (c ∷ cs) rest ls (at_name h c (cs ++ rest) (start_space c b.0) b.0 ∙ ap (Token Name) (omega (arith, len))) s

-- a name of ASCII is its bytes, as a keyword is
pub ascii_name_on : (h : Bool) (word rest : List ℕ) (ls : List Lexeme) → is_ascii_name word ≡ true → Ends is_name_char rest → Spells false rest ls → Spells h (word ++ rest) (record { kind = Name; bytes = word } ∷ ls)
ascii_name_on h word rest ls n e s =
    subst (λ (bs : List ℕ). Spells h (word ++ rest) (record { kind = Name; bytes = bs } ∷ ls)) (encodes_ascii word (name_is_ascii word n)) (name_on h word rest ls (name_from_ascii word n) e s)

mark_of_len : (n : ℕ) → 1 ≤ n → mark_of n ≡ Token Mark n
mark_of_len n h = by_test (n == 0) (grind (arith, nat_tests))
  where
    by_test : (b : Bool) → b ≡ false → cond b Bad (Token Mark n) ≡ Token Mark n
    by_test true e = cc
    by_test false e = refl

-- a mark that no longer one covers, and that begins no comment
pub mark_on : (h : Bool) (c : ℕ) (word rest : List ℕ) (ls : List Lexeme) → is_single c ≡ true → list_all is_ascii (c ∷ word) ≡ true → ((c == 47) && (slice_index (word ++ rest) 0 == 47)) ≡ false → ((c == 47) && (slice_index (word ++ rest) 0 == 42)) ≡ false → mark_len (c ∷ (word ++ rest)) ≡ length (c ∷ word) → Spells false rest ls → Spells h (c ∷ (word ++ rest)) (record { kind = Mark; bytes = c ∷ word } ∷ ls)
mark_on h c word rest ls m a line block len s =
    subst (λ (bs : List ℕ). Spells h (c ∷ (word ++ rest)) (record { kind = Mark; bytes = bs } ∷ ls)) (encodes_ascii (c ∷ word) a)
    (token_on h Mark (c ∷ word) rest ls (at_mark h c (word ++ rest) (mark_is_alone c m) line block ∙ ap mark_of len ∙ mark_of_len (length (c ∷ word)) (omega arith)) s)

-- ---- texts

quoted_len : (word rest : List ℕ) → list_all is_text_char word ≡ true → length word ≤ 200 → quoted (word ++ 34 ∷ rest) ≡ Token Text (length word + 2)
unfolding quoted
quoted_len word rest all h =
    let n = run_len (is_in Quoted) word (34 ∷ rest) all refl in
    let next : slice_index (word ++ 34 ∷ rest) (length word) ≡ 34 = next_at word (34 ∷ rest) in
    let small : nat_le (length word) 200 ≡ true = grind (arith, nat_tests) in
    rw (n, small, next) refl

quote_apart : is_name_start 34 ≡ false
quote_apart = name_start-ascii 34 (lit< tt)

quoted_bytes : (word : List ℕ) → list_all is_text_char word ≡ true → encode_utf8_all (34 ∷ (word ++ 34 ∷ [])) ≡ 34 ∷ (word ++ 34 ∷ [])
quoted_bytes word all =
    let text : list_all is_ascii word ≡ true = each is_text_char is_ascii text_is_ascii word all in
    let front : list_all is_ascii (word ++ 34 ∷ []) ≡ true = list_all-append is_ascii word (34 ∷ []) ∙ ap (λ b. b && true) text in
    encodes_ascii (34 ∷ (word ++ 34 ∷ [])) (rw front refl)

pub text_on : (h : Bool) (word rest : List ℕ) (ls : List Lexeme) → list_all is_text_char word ≡ true → length word ≤ 200 → Spells false rest ls → Spells h (34 ∷ (word ++ 34 ∷ rest)) (record { kind = Text; bytes = 34 ∷ (word ++ 34 ∷ []) } ∷ ls)
text_on h word rest ls all small s =
    let front = 34 ∷ (word ++ 34 ∷ []) in
    let e : word ++ 34 ∷ [] ++ rest ≡ word ++ 34 ∷ rest = append_assoc word (34 ∷ []) rest in
    let p : piece_at h (34 ∷ (word ++ 34 ∷ rest)) ≡ Token Text (length word + 2) = at_quote h 34 (word ++ 34 ∷ rest) refl quote_apart refl refl ∙ quoted_len word rest all small in
    let n : length word + 2 ≡ length front = omega (arith, length-append word (34 ∷ [])) in
    subst (λ (bs : List ℕ). Spells h (34 ∷ (word ++ 34 ∷ rest)) (record { kind = Text; bytes = bs } ∷ ls)) (quoted_bytes word all)
    (subst (λ (cs : List ℕ). Spells h (34 ∷ cs) (record { kind = Text; bytes = encode_utf8_all front } ∷ ls)) e (token_on h Text front rest ls (ap (λ cs. piece_at h (34 ∷ cs)) e ∙ p ∙ ap (Token Text) n) s))

-- ---- numbers

name_at_end : (rest : List ℕ) → Ends is_name_char rest → is_name_char (slice_index rest 0) ≡ false
name_at_end [] e = name_char-ascii 0 (lit< tt)
name_at_end (c ∷ cs) e = e

digits_end : (base : Base) (rest : List ℕ) → Ends is_name_char rest → Ends (is_in (Digit base)) rest
digits_end base [] e = tt
digits_end base (c ∷ cs) e = by_test (is_digit c (radix base)) refl
  where
    by_test : (b : Bool) → is_digit c (radix base) ≡ b → is_digit c (radix base) ≡ false
    by_test false f = f
    by_test true f = let g = digit_name base c f in cc

whole : (n k lead v : ℕ) (b : Bool) → n ≡ k → 0 < k → b ≡ false → v ≤ 2147483647 → cond (not (nat_lt 0 n && not b)) Bad (cond (nat_le v 2147483647) (Token (Number (pos v)) (lead + n)) TooLarge) ≡ Token (Number (pos v)) (lead + k)
whole n k lead v b e h f small =
    let some : nat_lt 0 k ≡ true = grind (arith, nat_tests) in
    let low : nat_le v 2147483647 ≡ true = grind (arith, nat_tests) in
    rw (e, f, some, low) refl

-- digits of a base, which no name character follows
pub digits_piece : (base : Base) (ds rest : List ℕ) → list_all (is_in (Digit base)) ds ≡ true → 0 < length ds → Ends is_name_char rest → digits_value (radix base) ds ≤ 2147483647 → number_in base (ds ++ rest) ≡ Token (Number (pos (digits_value (radix base) ds))) (lead_len base + length ds)
digits_piece base ds rest all some e small =
    let n = run_len (is_in (Digit base)) ds rest all (digits_end base rest e) in
    let next : slice_index (ds ++ rest) (digits_len base (ds ++ rest)) ≡ slice_index rest 0 = ap (slice_index (ds ++ rest)) n ∙ next_at ds rest in
    let word : take (digits_len base (ds ++ rest)) (ds ++ rest) ≡ ds = ap (λ k. take k (ds ++ rest)) n ∙ take-append_seam ds rest in
    let value : value_of base (ds ++ rest) ≡ digits_value (radix base) ds = ap (digits_value (radix base)) word in
    let low : value_of base (ds ++ rest) ≤ 2147483647 = rw value small in
    whole (digits_len base (ds ++ rest)) (length ds) (lead_len base) (value_of base (ds ++ rest)) _ n some (ap is_name_char next ∙ name_at_end rest e) low ∙ ap (λ v. Token (Number (pos v)) (lead_len base + length ds)) value

begins_number : (h : Bool) (cs : List ℕ) → is_ascii_digit (slice_index cs 0) ≡ true → piece_at h cs ≡ number cs
begins_number h [] d = cc
begins_number h (c ∷ cs) d = at_digit h c cs d

number_by_base : (base : Base) (cs : List ℕ) → base_of cs ≡ base → (x : Piece) → number_in base (drop (lead_len base) cs) ≡ x → number cs ≡ x
unfolding number
number_by_base base cs b x e = rw b e

-- a number in its base: what stands before the digits is 0x, 0X or nothing
pub number_on : (h : Bool) (base : Base) (lead ds rest : List ℕ) (ls : List Lexeme) → is_ascii_digit (slice_index (lead ++ ds ++ rest) 0) ≡ true → base_of (lead ++ ds ++ rest) ≡ base → length lead ≡ lead_len base → list_all (is_in (Digit base)) ds ≡ true → 0 < length ds → Ends is_name_char rest → digits_value (radix base) ds ≤ 2147483647 → Spells false rest ls → Spells h (lead ++ ds ++ rest) (record { kind = Number (pos (digits_value (radix base) ds)); bytes = encode_utf8_all (lead ++ ds) } ∷ ls)
number_on h base lead ds rest ls first b len all some e small s =
    let n : length (lead ++ ds) ≡ lead_len base + length ds = length-append lead ds ∙ ap (λ k. k + length ds) len in
    token_on h (Number (pos (digits_value (radix base) ds))) (lead ++ ds) rest ls (begins_number h (lead ++ ds ++ rest) first ∙ read ∙ ap (Token (Number (pos (digits_value (radix base) ds)))) (sym n)) s
  where
    behind : drop (lead_len base) (lead ++ ds ++ rest) ≡ ds ++ rest
    behind = ap (λ k. drop k (lead ++ ds ++ rest)) (sym len) ∙ ap (drop (length lead)) (append_assoc lead ds rest) ∙ drop-append_seam lead (ds ++ rest)

    read : number (lead ++ ds ++ rest) ≡ Token (Number (pos (digits_value (radix base) ds))) (lead_len base + length ds)
    read = number_by_base base (lead ++ ds ++ rest) b _ (ap (number_in base) behind ∙ digits_piece base ds rest all some e small)

-- ---- what a printed number says

all_digits : (ds : List ℕ) → AllDigits 10 ds → list_all (is_in (Digit Decimal)) ds ≡ true
all_digits [] a = refl
all_digits (c ∷ cs) a = let b : nat_lt (digit_value c) 10 ≡ true = lt-ltb _ _ a.0 in rw (b, all_digits cs a.1) refl

first_of_word : (word rest : List ℕ) → 0 < length word → slice_index (word ++ rest) 0 ≡ get_or word 0 0
first_of_word [] rest h = absurd (omega arith)
first_of_word (c ∷ cs) rest h = refl

first_digit : (ds : List ℕ) → 0 < length ds → AllDigits 10 ds → is_ascii_digit (get_or ds 0 0) ≡ true
first_digit [] h a = absurd (omega arith)
first_digit (c ∷ cs) h a = let r = digit_from_value c a.0 in grind (arith, nat_tests)

decimal_base : (cs : List ℕ) (c : ℕ) → slice_index cs 0 ≡ c → 48 < c → base_of cs ≡ Decimal
decimal_base cs c e h = let t : (c == 48) ≡ false = grind (arith, nat_tests) in rw (e, t) refl

other_char : (c k : ℕ) → is_name_char c ≡ false → is_name_char k ≡ true → (c == k) ≡ false
other_char c k e f = by_test (c == k) refl
  where
    by_test : (b : Bool) → (c == k) ≡ b → (c == k) ≡ false
    by_test false g = g
    by_test true g = let i : c ≡ k = grind (arith, nat_tests) in let j = ap is_name_char i in cc

zero_base : (rest : List ℕ) → Ends is_name_char rest → base_of (48 ∷ rest) ≡ Octal
zero_base rest e =
    let x : (slice_index rest 0 == 120) ≡ false = other_char (slice_index rest 0) 120 (name_at_end rest e) (name_char-ascii 120 (lit< tt)) in
    let y : (slice_index rest 0 == 88) ≡ false = other_char (slice_index rest 0) 88 (name_at_end rest e) (name_char-ascii 88 (lit< tt)) in
    rw (x, y) refl

-- the number that is printed for n
decimal_spells : (h : Bool) (n : ℕ) (rest : List ℕ) (ls : List Lexeme) → n ≤ 2147483647 → Ends is_name_char rest → Spells false rest ls → Spells h (decimal n ++ rest) (record { kind = Number (pos n); bytes = encode_utf8_all (decimal n) } ∷ ls)
decimal_spells h zero rest ls small e s =
    let z : decimal 0 ≡ 48 ∷ [] = decimal_digit 0 (omega arith) in
    subst (λ (w : List ℕ). Spells h (w ++ rest) (record { kind = Number (pos 0); bytes = encode_utf8_all w } ∷ ls)) (sym z) (number_on h Octal [] (48 ∷ []) rest ls refl (zero_base rest e) refl refl (omega arith) e (omega arith) s)
decimal_spells h (suc n) rest ls small e s =
    let wide : suc n < 2 ^ 64 = omega arith in
    let d = decimal_is_IsNumeral (suc n) wide in
    let ds = decimal (suc n) in
    let first : slice_index (ds ++ rest) 0 ≡ get_or ds 0 0 = first_of_word ds rest d.0.0 in
    let value : digits_value 10 ds ≡ suc n = d.1 in
    let on = number_on h Decimal [] ds rest ls (ap is_ascii_digit first ∙ first_digit ds d.0.0 d.0.1) (decimal_base (ds ++ rest) _ first (first_decimal (suc n) (omega arith) wide)) refl (all_digits ds d.0.1) d.0.0 e (rw value small) s in
    subst (λ (v : ℕ). Spells h (ds ++ rest) (record { kind = Number (pos v); bytes = encode_utf8_all ds } ∷ ls)) value on

pub decimal_on : (h : Bool) (n : ℕ) (rest : List ℕ) (ls : List Lexeme) → n ≤ 2147483647 → Ends is_name_char rest → Spells false rest ls → Spells h (decimal n ++ rest) (record { kind = Number (pos n); bytes = decimal n } ∷ ls)
decimal_on h n rest ls small e s =
    let wide : n < 2 ^ 64 = omega arith in
    subst (λ (bs : List ℕ). Spells h (decimal n ++ rest) (record { kind = Number (pos n); bytes = bs } ∷ ls)) (encodes-IsAscii (decimal n) (IsAscii-decimal n wide)) (decimal_spells h n rest ls small e s)
