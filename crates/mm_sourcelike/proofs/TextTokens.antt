-- What the tokens of a text are for the grammar: numbers are literals, names are names, and there are no more of them than bytes.
use Rattle.std.proofs.Common.{arith, ◌≡◌, refl, subst, sym, ap, ◌∙◌, ℕ, zero, suc, pos, ◌+◌, ◌≤◌, ◌<◌, Bool, true, false, not, ◌&&◌, ◌||◌, ◌==◌, cond, nat_le, nat_lt, IsTrue, if◌then◌else◌, List, [], ◌∷◌, map, length, take, drop, slice_index, ◌++◌, ◌-◌, length-append, Option, Some, None}
use Rattle.std.specs.List.{AllByRecursion, list_all, prefix_len}
use Rattle.std.specs.Str.{bytes_eq, chars, encode_utf8_all, IsUtf8}
use Rattle.std.specs.Char.{is_ascii}
use Rattle.std.proofs.lemmas.Bool.{and_parts}
use Rattle.std.proofs.Math.Seq.{take-append_seam}
use Rattle.std.proofs.lemmas.List.Folds.{length-prefix_len}
use Rattle.std.proofs.lemmas.Bool.Decides.{nat_tests}
use Rattle.std.proofs.lemmas.Str.{chars_from_encodes}
use lib.Utf8.{scalars}
use Rattle.mm_goto.specs.declared.ident.At.{At}
use Rattle.mm_goto.specs.Names.{is_name, is_name_start, is_name_char}
use Rattle.mm_lexer.specs.declared.class.Class.TheVariants.{Line, Quoted, Name as NameChar}
use Rattle.mm_lexer.specs.declared.place.Place.{Place}
use Rattle.mm_lexer.specs.declared.token.Token.{Token as TokenOf}
use Rattle.mm_lexer.specs.declared.token.TokenKind.{TokenKind}
use Rattle.mm_lexer.specs.declared.token.TokenKind.TheVariants.{Name, Number, Text, Mark}
use Rattle.mm_lexer.specs.declared.piece.Piece.{Piece}
use Rattle.mm_lexer.specs.declared.piece.Piece.TheVariants.{Gap, Token, Bad, TooLarge}
use Rattle.mm_lexer.specs.Class.{is_in, is_text_char}
use Rattle.mm_lexer.specs.Marks.{mark_len}
use Rattle.mm_lexer.specs.Piece.{number, base_of, lead_len, quoted, mark_of, closing, comment_of, line_comment, comment, hash, piece_at, digits_len, is_whole, value_of}
use Rattle.mm_lexer.specs.Tokens.{AreTokens, AreInOrder, IsSpan, Reads, bytes_of, token_at}
use Rattle.mm_lexer.proofs.Characters.{encodes_ascii}
use Rattle.mm_lexer.proofs.Spans.{StandsAt, stands_after, stands_at_start, bytes, reads_spans, all_in_order}
use Rattle.mm_tree.specs.declared.side.Side.{Side}
use Rattle.mm_parse_expr.specs.declared.symbol.Symbol.{Symbol}
use Rattle.mm_parse_expr.specs.declared.symbol.Symbol.TheVariants as symbol
use Rattle.mm_parse_expr.specs.declared.symbol.TheConstants.{WORDS, MARKS}
use Rattle.mm_parse_expr.specs.declared.terminal.Terminal.{Terminal}
use Rattle.mm_parse_expr.specs.Symbols.{lookup, mark_symbol, word_symbol}
use Rattle.mm_parse_expr.specs.Terminals.{terminal_of, between_quotes}
use Rattle.mm_parse_expr.proofs.WordNames.{no_word}
use Rattle.mm_grammar.specs.declared.depth.Counts.{Counts}
use Rattle.mm_grammar.specs.Nesting.{limits, counted, passes, deep_behind}
use Rattle.mm_print.specs.Printable.{IsPrintableText, updates}
use Rattle.mm_sourcelike.proofs.TextStreams.{IsLiteral, IsProper, IsProperAs, Stream}

-- ---- pieces

-- a short text between quotes
record IsQuotation (cs : List ℕ) : Type 0 where
  inner : List ℕ
  is : cs ≡ 34 ∷ (inner ++ 34 ∷ [])
  printable : list_all is_text_char inner ≡ true
  short : length inner ≤ 200

abbrev TakenOf : List ℕ → Piece → Type 0
TakenOf cs (Token (Number z) n) = IsLiteral z
TakenOf cs (Token Name n) = is_name (take n cs) ≡ true
TakenOf cs (Token Text n) = IsQuotation (take n cs)
TakenOf cs _ = Unit {0}

record Taken (cs : List ℕ) (x : Piece) : Type 0 where
  taken : TakenOf cs x

gap : (cs : List ℕ) (n : ℕ) → Taken cs (Gap n)
gap cs n = record { taken = tt }

bad : (cs : List ℕ) → Taken cs Bad
bad cs = record { taken = tt }

either : {cs : List ℕ} {x y : Piece} (b : Bool) → Taken cs x → Taken cs y → Taken cs (cond b x y)
either true h k = h
either false h k = k

where_so : {cs : List ℕ} {x y : Piece} (b : Bool) → (b ≡ true → Taken cs x) → Taken cs y → Taken cs (cond b x y)
where_so true h k = h refl
where_so false h k = k

one_more : (n : ℕ) → 1 + n ≡ suc n
one_more n = omega arith

first_more : (p : ℕ → Bool) (c : ℕ) (cs : List ℕ) (n : ℕ) → list_all p (take (1 + n) (c ∷ cs)) ≡ (p c && list_all p (take n cs))
first_more p c cs n = ap (λ (k : ℕ). list_all p (take k (c ∷ cs))) (one_more n)

-- what a front is made of passes
front : (p : ℕ → Bool) (cs : List ℕ) → list_all p (take (prefix_len p cs) cs) ≡ true
front p [] = refl
front p (c ∷ cs) = by (p c) refl (front p cs)
  where
    by : (b : Bool) → p c ≡ b → list_all p (take (prefix_len p cs) cs) ≡ true → list_all p (take (cond b (1 + prefix_len p cs) 0) (c ∷ cs)) ≡ true
    by true e more = first_more p c cs (prefix_len p cs) ∙ (ap (λ (d : Bool). d && list_all p (take (prefix_len p cs) cs)) e ∙ more)
    by false e more = refl

name : (c : ℕ) (cs : List ℕ) → is_name_start c ≡ true → Taken (c ∷ cs) (Token Name (1 + prefix_len (is_in NameChar) cs))
name c cs e = record { taken = ap (λ (k : ℕ). is_name (take k (c ∷ cs))) (one_more (prefix_len (is_in NameChar) cs)) ∙ (ap (λ (d : Bool). d && list_all is_name_char (take (prefix_len (is_in NameChar) cs) cs)) e ∙ front (is_in NameChar) cs) }

whole : (ds : List ℕ) (n k : ℕ) (b : Bool) → Taken ds (cond b Bad (cond (nat_le k 2147483647) (Token (Number (pos k)) n) TooLarge))
whole ds n k b = either b (bad ds) (where_so (nat_le k 2147483647) (λ h. record { taken = (k, refl, small h) }) (record { taken = tt }))
  where
    small : nat_le k 2147483647 ≡ true → k ≤ 2147483647
    small h = grind (arith, nat_tests)

number_taken : (ds cs : List ℕ) → Taken ds (number cs)
unfolding number
number_taken ds cs =
    let base = base_of cs in
    let es = drop (lead_len base) cs in
    whole ds (lead_len base + digits_len base es) (value_of base es) (not (is_whole base es))

one_behind : (n : ℕ) (cs : List ℕ) → slice_index cs n ≡ 34 → take (suc n) cs ≡ take n cs ++ 34 ∷ []
one_behind zero [] e = cc
one_behind zero (c ∷ cs) e = ap (λ (d : ℕ). d ∷ []) e
one_behind (suc n) [] e = cc
one_behind (suc n) (c ∷ cs) e = ap (λ (ds : List ℕ). c ∷ ds) (one_behind n cs e)

quotation : (cs : List ℕ) (n : ℕ) → n ≡ prefix_len (is_in Quoted) cs → (nat_le n 200 && (slice_index cs n == 34)) ≡ true → IsQuotation (take (n + 2) (34 ∷ cs))
quotation cs n size h = record {
  inner = take n cs;
  is = ap (λ (k : ℕ). take k (34 ∷ cs)) (two_more n) ∙ ap (λ (ds : List ℕ). 34 ∷ ds) (one_behind n cs (closes (and_parts (nat_le n 200) (slice_index cs n == 34) h).1));
  printable = subst (λ (k : ℕ). list_all is_text_char (take k cs) ≡ true) (sym size) (front (is_in Quoted) cs);
  short = few (and_parts (nat_le n 200) (slice_index cs n == 34) h).0 (subst (λ (k : ℕ). length (take k cs) ≡ k) (sym size) (length-prefix_len (is_in Quoted) cs));
}
  where
    two_more : (k : ℕ) → k + 2 ≡ suc (suc k)
    two_more k = omega arith

    closes : (slice_index cs n == 34) ≡ true → slice_index cs n ≡ 34
    closes e = grind (arith, nat_tests)

    few : nat_le n 200 ≡ true → length (take n cs) ≡ n → length (take n cs) ≤ 200
    few e l = grind (arith, nat_tests)

quoted_taken : (cs : List ℕ) → Taken (34 ∷ cs) (quoted cs)
unfolding quoted
quoted_taken cs = let n = prefix_len (is_in Quoted) cs in where_so (nat_le n 200 && (slice_index cs n == 34)) (λ h. record { taken = quotation cs n refl h }) (bad (34 ∷ cs))

mark_taken : (ds : List ℕ) (n : ℕ) → Taken ds (mark_of n)
mark_taken ds n = either (n == 0) (bad ds) (record { taken = tt })

comment_of_taken : (ds : List ℕ) (o : Option ℕ) → Taken ds (comment_of o)
comment_of_taken ds None = bad ds
comment_of_taken ds (Some n) = gap ds (n + 2)

line_comment_taken : (ds cs : List ℕ) → Taken ds (line_comment cs)
unfolding line_comment
line_comment_taken ds cs = gap ds (1 + prefix_len (is_in Line) cs)

comment_taken : (ds cs : List ℕ) → Taken ds (comment cs)
unfolding comment
comment_taken ds cs = comment_of_taken ds (closing (drop 1 cs))

hash_taken : (ds : List ℕ) (h : Bool) (cs : List ℕ) → Taken ds (hash h cs)
unfolding hash
hash_taken ds h cs = either _ (gap ds (1 + prefix_len (is_in Line) cs)) (bad ds)

piece_taken : (h : Bool) (cs : List ℕ) → Taken cs (piece_at h cs)
unfolding piece_at
piece_taken h [] = record { taken = tt }
piece_taken h (c ∷ cs) =
    let ds = c ∷ cs in
    either _ (gap ds 1)
    (where_so (is_name_start c) (name c cs)
    (either _ (number_taken ds ds)
    (where_so (c == 34) (λ e. subst (λ (k : ℕ). Taken (k ∷ cs) (quoted cs)) (sym (is_quote e)) (quoted_taken cs))
    (either _ (line_comment_taken ds cs)
    (either _ (comment_taken ds cs)
    (either _ (hash_taken ds h cs) (mark_taken ds (mark_len ds))))))))
  where
    is_quote : (c == 34) ≡ true → c ≡ 34
    is_quote e = grind (arith, nat_tests)

token_taken : (h : Bool) (cs : List ℕ) (kind : TokenKind) (n : ℕ) → piece_at h cs ≡ Token kind n → Taken cs (Token kind n)
token_taken h cs kind n e = subst (λ (x : Piece). Taken cs x) e (piece_taken h cs)

-- ---- symbols

abbrev words : List (List ℕ × Symbol)
words = map (λ entry. (entry.0.now, entry.1)) WORDS

abbrev marks : List (List ℕ × Symbol)
marks = map (λ entry. (entry.0.now, entry.1)) MARKS

-- neither a number, a name nor a text, and if it updates, by an operator that has such a form
abbrev is_plain : Symbol → Bool
is_plain (symbol.Number z) = false
is_plain symbol.Name = false
is_plain symbol.Text = false
is_plain (symbol.Update op) = updates op
is_plain _ = true

abbrev are_plain : List (List ℕ × Symbol) → Bool
are_plain [] = true
are_plain (e ∷ es) = is_plain e.1 && are_plain es

plain_proper : (s : Symbol) (w : List ℕ) → is_plain s ≡ true → IsProperAs s w
plain_proper (symbol.Number z) w h = absurd (never h)
  where
    never : false ≡ true → ⊥
    never e = cc
plain_proper symbol.Name w h = absurd (never h)
  where
    never : false ≡ true → ⊥
    never e = cc
plain_proper symbol.Text w h = absurd (never h)
  where
    never : false ≡ true → ⊥
    never e = cc
plain_proper (symbol.Update op) w h = h
plain_proper _ w h = tt

found : (es : List (List ℕ × Symbol)) (w : List ℕ) (other : Symbol) (P : Symbol → Type 0) → ((s : Symbol) → is_plain s ≡ true → P s) → are_plain es ≡ true → (lookup es w other ≡ other → P other) → P (lookup es w other)
found [] w other P h plain k = k refl
found (e ∷ es) w other P h plain k =
    let parts = and_parts (is_plain e.1) (are_plain es) plain in
    by (bytes_eq e.0 w) refl (h e.1 parts.0) (found es w other P h parts.1)
  where
    by : (b : Bool) → bytes_eq e.0 w ≡ b → P e.1 → ((lookup es w other ≡ other → P other) → P (lookup es w other)) → P (if b then e.1 else lookup es w other)
    by true is first more = first
    by false is first more = more (λ same. k (ap (λ (b : Bool). if b then e.1 else lookup es w other) is ∙ same))

words_plain : are_plain words ≡ true
words_plain = refl

marks_plain : are_plain marks ≡ true
marks_plain = refl

name_proper : (w : List ℕ) → IsUtf8 w → is_name (chars w) ≡ true → IsProperAs (word_symbol w) w
unfolding word_symbol
name_proper w text is = found words w symbol.Name (λ (s : Symbol). IsProperAs s w) (λ s h. plain_proper s w h) words_plain
    (λ same. record { text = text; name = is_true (is_name (chars w)) is; no_word = no_word w same })
  where
    is_true : (b : Bool) → b ≡ true → IsTrue b
    is_true true e = refl
    is_true false e = cc

mark_proper : (w : List ℕ) → IsProperAs (mark_symbol w) w
unfolding mark_symbol
mark_proper w = found marks w symbol.Outside (λ (s : Symbol). IsProperAs s w) (λ s h. plain_proper s w h) marks_plain (λ same. tt)

-- ---- tokens

scalars_take : (n : ℕ) (cs : List ℕ) → scalars cs ≡ true → scalars (take n cs) ≡ true
scalars_take zero cs h = refl
scalars_take (suc n) [] h = h
scalars_take (suc n) (c ∷ cs) h = by _ h (scalars_take n cs)
  where
    by : (b : Bool) → (b && scalars cs) ≡ true → (scalars cs ≡ true → scalars (take n cs) ≡ true) → (b && scalars (take n cs)) ≡ true
    by true h more = more h
    by false h more = cc

text_ascii : (c : ℕ) → is_text_char c ≡ true → is_ascii c ≡ true
text_ascii c e = grind (arith, nat_tests)

texts_ascii : (cs : List ℕ) → list_all is_text_char cs ≡ true → list_all is_ascii (cs ++ 34 ∷ []) ≡ true
texts_ascii [] e = refl
texts_ascii (c ∷ cs) e =
    let parts = and_parts (is_text_char c) (list_all is_text_char cs) e in
    ap (λ (b : Bool). b && list_all is_ascii (cs ++ 34 ∷ [])) (text_ascii c parts.0) ∙ texts_ascii cs parts.1

between_ascii : (cs : List ℕ) → list_all is_text_char cs ≡ true → list_all is_ascii (34 ∷ (cs ++ 34 ∷ [])) ≡ true
between_ascii cs e = texts_ascii cs e

between : (cs : List ℕ) → between_quotes (34 ∷ (cs ++ 34 ∷ [])) ≡ cs
between cs = ap (λ (k : ℕ). take k (cs ++ 34 ∷ [])) size ∙ take-append_seam cs (34 ∷ [])
  where
    size : length (34 ∷ (cs ++ 34 ∷ [])) - 2 ≡ length cs
    size = omega (arith, length-append cs (34 ∷ []))

proper_at : (text : List ℕ) (p : Place) (cs : List ℕ) (kind : TokenKind) (n : ℕ) → StandsAt text p cs → Taken cs (Token kind n) → IsProper (terminal_of text (token_at kind p (take n cs)))
proper_at text p cs (Number z) n s h = h.taken
proper_at text p cs Text n s h =
    let q : IsQuotation (take n cs) = h.taken in
    let e : bytes_of text (token_at Text p (take n cs)) ≡ 34 ∷ (q.inner ++ 34 ∷ []) = bytes text p cs Text n s ∙ (ap encode_utf8_all q.is ∙ encodes_ascii (34 ∷ (q.inner ++ 34 ∷ [])) (between_ascii q.inner q.printable)) in
    subst IsPrintableText (sym (ap between_quotes e ∙ between q.inner)) (record { printable = q.printable; short = q.short })
proper_at text p cs Mark n s h = mark_proper (bytes_of text (token_at Mark p (take n cs)))
proper_at text p cs Name n s h =
    let e : bytes_of text (token_at Name p (take n cs)) ≡ encode_utf8_all (take n cs) = bytes text p cs Name n s in
    let utf8 : IsUtf8 (bytes_of text (token_at Name p (take n cs))) = (take n cs, (scalars_take n cs s.scalar, sym e)) in
    let same : take n cs ≡ chars (bytes_of text (token_at Name p (take n cs))) = chars_from_encodes (take n cs) (bytes_of text (token_at Name p (take n cs))) utf8 (sym e) in
    name_proper (bytes_of text (token_at Name p (take n cs))) utf8 (subst (λ (ds : List ℕ). is_name ds ≡ true) same h.taken)

reads_proper : (text : List ℕ) {p q : Place} {cs rest : List ℕ} {ts : List TokenOf} → Reads p cs ts q rest → StandsAt text p cs → AllByRecursion IsProper (map (terminal_of text) ts)
reads_proper text Reads.none s = tt
reads_proper text (Reads.gap {p = p} {cs = cs} {n = n} e a) s = reads_proper text a (stands_after text p cs n s)
reads_proper text (Reads.token {p = p} {cs = cs} {kind = kind} {n = n} e t a) s =
    (subst (λ (k : TokenOf). IsProper (terminal_of text k)) (sym t) (proper_at text p cs kind n s (token_taken p.is_head cs kind n e)), reads_proper text a (stands_after text p cs n s))

pub tokens_proper : (text : List ℕ) (ts : List TokenOf) → IsUtf8 text → AreTokens text ts → AllByRecursion IsProper (map (terminal_of text) ts)
tokens_proper text ts utf8 cut = reads_proper text cut.read (stands_at_start text utf8)

-- there are no more tokens than bytes
few_from : (text : List ℕ) (from : ℕ) (ts : List TokenOf) → AreInOrder from ts → AllByRecursion (IsSpan text) ts → from ≤ length text → from + length ts ≤ length text
few_from text from [] order spans l = omega (arith, l)
few_from text from (t ∷ ts) order spans l =
    let span : IsSpan text t = spans.0 in
    let more : t.end + length ts ≤ length text = few_from text t.end ts order.1 spans.1 span.within in
    let first : from ≤ t.start = order.0 in
    let some : t.start < t.end = span.some in
    omega (arith, more, first, some)

pub few_tokens : (text : List ℕ) (ts : List TokenOf) → IsUtf8 text → AreTokens text ts → length ts ≤ length text
few_tokens text ts utf8 cut = omega (arith, few_from text 0 ts (all_in_order text ts cut) (reads_spans text cut.read (stands_at_start text utf8)) (omega arith))

-- ---- nesting

module _ (side : Side) where
  abbrev most : ℕ
  most = (limits side).tokens

  not_more : (m n : ℕ) (a b : Bool) → ((a || nat_lt m n) || b) ≡ false → n ≤ m
  not_more m n a b h = grind (arith, nat_tests)

  pub shallow_stream : (c : Counts) (ts : List Terminal) → deep_behind (limits side) c ts ≡ None → AllByRecursion IsProper ts → c.tokens ≤ most → Stream most c.tokens ts
  shallow_stream c [] deep proper l = l
  shallow_stream c (t ∷ ts) deep proper l = by (passes (limits side) (counted c t.symbol)) refl deep (λ k. shallow_stream (counted c t.symbol) ts k proper.1)
    where
      some_is_not : {x : At} → Some x ≡ None → ⊥
      some_is_not e = cc

      by : (b : Bool) → passes (limits side) (counted c t.symbol) ≡ b → (if b then Some t.at else deep_behind (limits side) (counted c t.symbol) ts) ≡ None
          → (deep_behind (limits side) (counted c t.symbol) ts ≡ None → (counted c t.symbol).tokens ≤ most → Stream most (counted c t.symbol).tokens ts)
          → Stream most c.tokens (t ∷ ts)
      by true e k more = absurd (some_is_not k)
      by false e k more = (l, proper.0, more k (not_more most (counted c t.symbol).tokens _ _ e))
