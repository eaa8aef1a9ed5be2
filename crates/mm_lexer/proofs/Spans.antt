-- The tokens of a text are its slices, in order, and say what its lexemes say.
use Rattle.std.proofs.Common.{◌≡◌, ◌≢◌, ℕ, zero, suc, ◌+◌, ◌-◌, ◌≤◌, Bool, true, false, ◌&&◌, ◌||◌, ◌==◌, List, [], ◌∷◌, ◌++◌, All, map, length, take, drop, refl, sym, ◌∙◌, ap, subst, arith, length-append, length-drop, append_assoc}
use Rattle.std.specs.List.{AllByRecursion, fold}
use Rattle.mm_goto.specs.Place as place
use Rattle.std.proofs.lemmas.List.Elements.{All-from_recursion}
use Rattle.std.proofs.lemmas.List.{take-append-drop}
use Rattle.std.proofs.Math.Seq.{drop-append_seam, take-append_seam}
use Rattle.std.specs.Char.{encode_utf8}
use Rattle.std.specs.Str.{chars, encode_utf8_all, IsUtf8, IsCharBoundary}
use Rattle.std.proofs.lemmas.Str.{encodes-append, encodes-chars, scalars-chars, length-encode, len_utf8_bounds, IsCharBoundary-at_seam}
use lib.Utf8.{scalars}
use Rattle.mm_lexer.specs.declared.place.Place.{Place}
use Rattle.mm_lexer.specs.declared.piece.Piece.TheVariants as piece
use Rattle.mm_lexer.specs.declared.token.Token.{Token}
use Rattle.mm_lexer.specs.declared.token.TokenKind.{TokenKind}
use Rattle.mm_lexer.specs.declared.token.TokenKind.TheVariants.{Text}
use Rattle.mm_lexer.specs.Class.{is_blank}
use Rattle.mm_lexer.specs.Place.{start, past, past_all}
use Rattle.mm_lexer.specs.Piece.{piece_at}
use Rattle.mm_lexer.specs.Tokens.{token_at, bytes_of, IsQuoted, IsSpan, AreInOrder, Reads, AreTokens, IsFirstFault}
use Rattle.mm_lexer.specs.declared.token.LexFault.{LexFault}
use Rattle.mm_lexer.specs.declared.token.LexFault.TheVariants.{BadToken, NumberTooLarge, NoMemory}
use Rattle.mm_lexer.specs.Lexemes.{Lexeme, lexeme_of, head_after, Spells}
use Rattle.mm_lexer.proofs.Pieces.{token_shorter}
use Rattle.mm_lexer.proofs.Quotes.{IsQuotedFront, text_quotes, in_range, past_last}
use Rattle.mm_lexer.proofs.Unique.{tokens_unique, tokens_or_fault}

-- ---- offsets

past-offset : (p : Place) (c : ℕ) → (past p c).offset ≡ p.offset + length (encode_utf8 c)
unfolding past
past-offset p c = ap (λ n. p.offset + n) (sym (length-encode c))

past_all-offset : (p : Place) (word : List ℕ) → (past_all p word).offset ≡ p.offset + length (encode_utf8_all word)
past_all-offset p [] = omega arith
past_all-offset p (c ∷ cs) = past_all-offset (past p c) cs ∙ ap (λ n. n + length (encode_utf8_all cs)) (past-offset p c) ∙ sum
  where
    sum : p.offset + length (encode_utf8 c) + length (encode_utf8_all cs) ≡ p.offset + length (encode_utf8 c ++ encode_utf8_all cs)
    sum = rw length-append (omega arith)

-- ---- a place in a text

-- the characters stand in the text from the place on
pub record StandsAt (text : List ℕ) (p : Place) (cs : List ℕ) : Type 0 where
  pub before : List ℕ
  pub offset : length before ≡ p.offset
  pub joined : text ≡ before ++ encode_utf8_all cs
  pub scalar : scalars cs ≡ true

scalars_drop : (n : ℕ) (cs : List ℕ) → scalars cs ≡ true → scalars (drop n cs) ≡ true
scalars_drop zero cs h = h
scalars_drop (suc n) [] h = h
scalars_drop (suc n) (c ∷ cs) h = scalars_drop n cs (second _ _ h)
  where
    second : (b d : Bool) → (b && d) ≡ true → d ≡ true
    second true d h = h
    second false d h = cc

encodes_cut : (n : ℕ) (cs : List ℕ) → encode_utf8_all cs ≡ encode_utf8_all (take n cs) ++ encode_utf8_all (drop n cs)
encodes_cut n cs = ap encode_utf8_all (sym (take-append-drop n cs)) ∙ encodes-append (take n cs) (drop n cs)

-- what follows stands behind
pub stands_after : (text : List ℕ) (p : Place) (cs : List ℕ) (n : ℕ) → StandsAt text p cs → StandsAt text (past_all p (take n cs)) (drop n cs)
stands_after text p cs n s = record {
  before = s.before ++ encode_utf8_all (take n cs);
  offset = length-append _ _ ∙ ap (λ k. k + length (encode_utf8_all (take n cs))) s.offset ∙ sym (past_all-offset p (take n cs));
  joined = s.joined ∙ ap (λ bs. s.before ++ bs) (encodes_cut n cs) ∙ sym (append_assoc s.before _ _);
  scalar = scalars_drop n cs s.scalar;
}

pub stands_at_start : (text : List ℕ) → IsUtf8 text → StandsAt text start (chars text)
stands_at_start text u = record { before = []; offset = refl; joined = sym (encodes-chars text u); scalar = scalars-chars text u }

boundary : (text : List ℕ) (p : Place) (cs : List ℕ) → StandsAt text p cs → IsCharBoundary text p.offset
boundary text p cs s = subst (IsCharBoundary text) s.offset (IsCharBoundary-at_seam text s.before (encode_utf8_all cs) s.joined (cs, (s.scalar, refl)))

-- the token that these characters are is a span of the text
word_length : (n : ℕ) (cs : List ℕ) → 1 ≤ n → 1 ≤ length cs → 1 ≤ length (encode_utf8_all (take n cs))
word_length n [] h k = absurd (omega (arith, k))
word_length zero (c ∷ cs) h k = absurd (omega (arith, h))
word_length (suc n) (c ∷ cs) h k = rw length-append (omega (arith, length-encode c, (len_utf8_bounds c).0))

within : (text : List ℕ) (p : Place) (cs : List ℕ) → StandsAt text p cs → p.offset ≤ length text
within text p cs s = let e : length text ≡ length s.before + length (encode_utf8_all cs) = ap length s.joined ∙ length-append _ _ in omega (arith, e, s.offset)

-- a text is cut behind its first quote and before its last one
quoted : (text : List ℕ) (p : Place) (cs : List ℕ) (n : ℕ) → StandsAt text p cs → IsQuotedFront cs n → IsQuoted text (token_at Text p (take n cs))
quoted text p cs n s q =
    let inner = past_all p (take 1 cs) in
    let last = past_all p (take (suc q.m) cs) in
    let first : inner.offset ≡ p.offset + 1 = past_last p cs 0 q.opened in
    let end : (past_all p (take n cs)).offset ≡ last.offset + 1 = ap (λ k. (past_all p (take k cs)).offset) q.count ∙ past_last p cs (suc q.m) q.closed in
    record {
      both = omega (arith, end, past_all-offset p (take (suc q.m) cs), word_length (suc q.m) cs (omega arith) (omega (arith, in_range cs 0 q.opened)));
      opened = subst (IsCharBoundary text) first (boundary text inner (drop 1 cs) (stands_after text p cs 1 s));
      closed = subst (IsCharBoundary text) (omega (arith, end)) (boundary text last (drop (suc q.m) cs) (stands_after text p cs (suc q.m) s));
    }

pub span : (text : List ℕ) (p : Place) (cs : List ℕ) (kind : TokenKind) (n : ℕ) → StandsAt text p cs → 1 ≤ n → 1 ≤ length cs → (kind ≡ Text → IsQuotedFront cs n) → IsSpan text (token_at kind p (take n cs))
span text p cs kind n s h k q =
    let after = stands_after text p cs n s in
    record {
      some = omega (arith, past_all-offset p (take n cs), word_length n cs h k);
      within = within text (past_all p (take n cs)) (drop n cs) after;
      begins = boundary text p cs s;
      ends = boundary text (past_all p (take n cs)) (drop n cs) after;
      quotes = λ e. subst (λ (kind : TokenKind). IsQuoted text (token_at kind p (take n cs))) (sym e) (quoted text p cs n s (q e));
    }

-- its bytes are theirs
pub bytes : (text : List ℕ) (p : Place) (cs : List ℕ) (kind : TokenKind) (n : ℕ) → StandsAt text p cs → bytes_of text (token_at kind p (take n cs)) ≡ encode_utf8_all (take n cs)
bytes text p cs kind n s =
    let w = encode_utf8_all (take n cs) in
    let rest = encode_utf8_all (drop n cs) in
    let e : text ≡ s.before ++ (w ++ rest) = s.joined ∙ ap (λ bs. s.before ++ bs) (encodes_cut n cs) in
    cut text s.before w rest p.offset (past_all p (take n cs)).offset e s.offset (past_all-offset p (take n cs))
  where
    cut : (text before w rest : List ℕ) (i j : ℕ) → text ≡ before ++ (w ++ rest) → length before ≡ i → j ≡ i + length w → take (j - i) (drop i text) ≡ w
    cut text before w rest i j e f g =
        let d : drop i text ≡ w ++ rest = ap (drop i) e ∙ ap (λ k. drop k (before ++ (w ++ rest))) (sym f) ∙ drop-append_seam before (w ++ rest) in
        let l : j - i ≡ length w = omega arith in
        ap (take (j - i)) d ∙ ap (λ k. take k (w ++ rest)) l ∙ take-append_seam w rest

-- ---- what is read

-- a token has some characters, of a text that has some
token_some : (h : Bool) (cs : List ℕ) (kind : TokenKind) (n : ℕ) → piece_at h cs ≡ piece.Token kind n → (1 ≤ n) × (1 ≤ length cs)
token_some h cs kind n e = let s = token_shorter h cs kind n e in (omega (arith, s, length-drop n cs), omega (arith, s))

-- each token that is read is a span of the text
pub reads_spans : (text : List ℕ) {p q : Place} {cs rest : List ℕ} {ts : List Token} → Reads p cs ts q rest → StandsAt text p cs → AllByRecursion (IsSpan text) ts
reads_spans text Reads.none s = tt
reads_spans text (Reads.gap {p = p} {cs = cs} {n = n} e a) s = reads_spans text a (stands_after text p cs n s)
reads_spans text (Reads.token {p = p} {cs = cs} {kind = kind} {n = n} e t a) s =
    let some = token_some _ cs kind n e in
    (subst (IsSpan text) (sym t) (span text p cs kind n s some.0 some.1 (λ k. text_quotes _ cs n (e ∙ ap (λ x. piece.Token x n) k))), reads_spans text a (stands_after text p cs n s))

-- and they are in order
pub reads_in_order : (from : ℕ) {p q : Place} {cs rest : List ℕ} {ts : List Token} → Reads p cs ts q rest → from ≤ p.offset → AreInOrder from ts
reads_in_order from Reads.none h = tt
reads_in_order from (Reads.gap {p = p} {cs = cs} {n = n} e a) h = reads_in_order from a (omega (arith, h, past_all-offset p (take n cs)))
reads_in_order from (Reads.token {p = p} {cs = cs} {t = t} {kind = kind} {n = n} e u a) h =
    let begins : from ≤ t.start = rw u h in
    let ends : t.end ≤ (past_all p (take n cs)).offset = rw u (omega arith) in
    (begins, reads_in_order t.end a ends)

pub all_spans : (text : List ℕ) (ts : List Token) → IsUtf8 text → AreTokens text ts → All (IsSpan text) ts
all_spans text ts u a = All-from_recursion _ _ (reads_spans text a.read (stands_at_start text u))

pub all_in_order : (text : List ℕ) (ts : List Token) → AreTokens text ts → AreInOrder 0 ts
all_in_order text ts a = reads_in_order 0 a.read (omega arith)

-- ---- lexemes

past-head : (p : Place) (c : ℕ) → (past p c).is_head ≡ (c == 10) || (p.is_head && is_blank c)
unfolding past
past-head p c = refl

past-place : (p : Place) (c : ℕ) → (past p c).at ≡ place.past p.at c
unfolding past
past-place p c = refl

past_all-place : (p : Place) (cs : List ℕ) → (past_all p cs).at ≡ fold place.past p.at cs
past_all-place p [] = refl
past_all-place p (c ∷ cs) = past_all-place (past p c) cs ∙ ap (λ at. fold place.past at cs) (past-place p c)

-- the place behind all characters of a text
pub place_of_all : (cs : List ℕ) → (past_all start cs).at ≡ place.place_after cs
place_of_all cs = past_all-place start cs

past_all-head : (p : Place) (word : List ℕ) → (past_all p word).is_head ≡ head_after p.is_head word
past_all-head p [] = refl
past_all-head p (c ∷ cs) = past_all-head (past p c) cs ∙ ap (λ h. head_after h cs) (past-head p c)

-- tokens that say these lexemes
pub record Says (text : List ℕ) (p : Place) (cs : List ℕ) (ls : List Lexeme) : Type 0 where
  pub tokens : List Token
  pub end : Place
  pub read : Reads p cs tokens end []
  pub say : map (lexeme_of text) tokens ≡ ls

pub spells_says : (text : List ℕ) {h : Bool} {cs : List ℕ} {ls : List Lexeme} → Spells h cs ls → (p : Place) → p.is_head ≡ h → StandsAt text p cs → Says text p cs ls
spells_says text Spells.none p e s = record { tokens = []; end = p; read = Reads.none; say = refl }
spells_says text (Spells.gap {h = h} {cs = cs} {ls = ls} {n = n} g a) p e s =
    let q = past_all p (take n cs) in
    let on = spells_says text a q (past_all-head p (take n cs) ∙ ap (λ b. head_after b (take n cs)) e) (stands_after text p cs n s) in
    record { tokens = on.tokens; end = on.end; read = Reads.gap (ap (λ b. piece_at b cs) e ∙ g) on.read; say = on.say }
spells_says text (Spells.token {h = h} {cs = cs} {l = l} {ls = ls} {n = n} g w a) p e s =
    let q = past_all p (take n cs) in
    let on = spells_says text a q (past_all-head p (take n cs) ∙ ap (λ b. head_after b (take n cs)) e) (stands_after text p cs n s) in
    let t = token_at l.kind p (take n cs) in
    let b : bytes_of text t ≡ l.bytes = bytes text p cs l.kind n s ∙ sym w in
    record { tokens = t ∷ on.tokens; end = on.end; read = Reads.token (ap (λ b. piece_at b cs) e ∙ g) refl on.read; say = said l (lexeme_of text t) ls (map (lexeme_of text) on.tokens) refl b on.say }
  where
    said : (l m : Lexeme) (ls ms : List Lexeme) → m.kind ≡ l.kind → m.bytes ≡ l.bytes → ms ≡ ls → m ∷ ms ≡ l ∷ ls
    said l m ls ms e f g = λ i. record { kind = e i; bytes = f i } ∷ g i

-- the tokens of a text say what the text spells
pub tokens_say : (text : List ℕ) (ls : List Lexeme) (ts : List Token) → IsUtf8 text → Spells true (chars text) ls → AreTokens text ts → map (lexeme_of text) ts ≡ ls
tokens_say text ls ts u s a =
    let said = spells_says text s start refl (stands_at_start text u) in
    ap (map (lexeme_of text)) (tokens_unique text ts said.tokens a (record { end = said.end; read = said.read })) ∙ said.say

-- and it is not refused
pub not_refused : (text : List ℕ) (ls : List Lexeme) (fault : LexFault) → IsUtf8 text → Spells true (chars text) ls → IsFirstFault text fault → ⊥
not_refused text ls fault u s f =
    let said = spells_says text s start refl (stands_at_start text u) in
    tokens_or_fault text said.tokens fault (record { end = said.end; read = said.read }) f

-- so that `lex` answers it with tokens or want of memory
pub only_memory : (text : List ℕ) (ls : List Lexeme) (fault : LexFault) → IsUtf8 text → Spells true (chars text) ls → (fault ≢ NoMemory → IsFirstFault text fault) → fault ≡ NoMemory
only_memory text ls NoMemory u s f = refl
only_memory text ls (BadToken at) u s f = absurd (not_refused text ls (BadToken at) u s (f apart))
  where
    apart : BadToken at ≢ NoMemory
    apart e = cc
only_memory text ls (NumberTooLarge at) u s f = absurd (not_refused text ls (NumberTooLarge at) u s (f apart))
  where
    apart : NumberTooLarge at ≢ NoMemory
    apart e = cc
