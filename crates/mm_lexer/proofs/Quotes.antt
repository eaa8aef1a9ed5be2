-- A text stands between two quotes.
use Rattle.std.proofs.Common.{◌≡◌, ℕ, zero, suc, pos, ◌+◌, ◌<◌, Bool, true, false, not, ◌&&◌, ◌==◌, cond, nat_le, refl, List, [], ◌∷◌, ◌++◌, length, take, drop, slice_index, Option, Some, None, subst, ap, ◌∙◌, arith}
use Rattle.std.proofs.lemmas.Bool.{and_parts}
use Rattle.std.specs.List.{prefix_len}
use Rattle.std.proofs.lemmas.Bool.Decides.{nat_tests}
use Rattle.mm_lexer.specs.declared.class.Class.TheVariants.{Line, Quoted, Name as NameChar}
use Rattle.mm_lexer.specs.declared.place.Place.{Place}
use Rattle.mm_lexer.specs.declared.token.TokenKind.TheVariants.{Name, Number, Text}
use Rattle.mm_lexer.specs.declared.piece.Piece.{Piece}
use Rattle.mm_lexer.specs.declared.piece.Piece.TheVariants.{End, Gap, Token, Bad, TooLarge}
use Rattle.mm_lexer.specs.Class.{is_in}
use Rattle.mm_lexer.specs.Marks.{mark_len}
use Rattle.mm_lexer.specs.Place.{past, past_all}
use Rattle.mm_lexer.specs.Piece.{number, base_of, lead_len, quoted, mark_of, closing, comment_of, line_comment, comment, hash, piece_at, digits_len, is_whole, value_of}

-- n characters in front are a quote, m others, and a quote
pub record IsQuotedFront (cs : List ℕ) (n : ℕ) : Type 0 where
  pub m : ℕ
  pub count : n ≡ suc (suc m)
  pub opened : slice_index cs 0 ≡ 34
  pub closed : slice_index cs (suc m) ≡ 34

abbrev QuotesOf : List ℕ → Piece → Type 0
QuotesOf cs (Token Text n) = IsQuotedFront cs n
QuotesOf cs _ = Unit {0}

record Quotes (cs : List ℕ) (x : Piece) : Type 0 where
  quotes : QuotesOf cs x

gap : (cs : List ℕ) (n : ℕ) → Quotes cs (Gap n)
gap cs n = record { quotes = tt }

bad : (cs : List ℕ) → Quotes cs Bad
bad cs = record { quotes = tt }

either : {cs : List ℕ} {x y : Piece} (b : Bool) → Quotes cs x → Quotes cs y → Quotes cs (cond b x y)
either true h k = h
either false h k = k

where_so : {cs : List ℕ} {x y : Piece} (b : Bool) → (b ≡ true → Quotes cs x) → Quotes cs y → Quotes cs (cond b x y)
where_so true h k = h refl
where_so false h k = k

name : (ds cs : List ℕ) → Quotes ds (Token Name (1 + prefix_len (is_in NameChar) cs))
name ds cs = record { quotes = tt }

whole : (ds : List ℕ) (n k : ℕ) (b small : Bool) → Quotes ds (cond b Bad (cond small (Token (Number (pos k)) n) TooLarge))
whole ds n k b small = either b (bad ds) (either small (record { quotes = tt }) (record { quotes = tt }))

number_quotes : (ds cs : List ℕ) → Quotes ds (number cs)
unfolding number
number_quotes ds cs =
    let base = base_of cs in
    let es = drop (lead_len base) cs in
    whole ds (lead_len base + digits_len base es) (value_of base es) (not (is_whole base es)) (nat_le (value_of base es) 2147483647)

two : (n : ℕ) → n + 2 ≡ suc (suc n)
two n = omega arith

is_quote : (c : ℕ) → (c == 34) ≡ true → c ≡ 34
is_quote c h = grind (arith, nat_tests)

quoted_quotes : (c : ℕ) (cs : List ℕ) → c ≡ 34 → Quotes (c ∷ cs) (quoted cs)
unfolding quoted
quoted_quotes c cs e =
    let n = prefix_len (is_in Quoted) cs in
    where_so (nat_le n 200 && (slice_index cs n == 34)) (λ h. record { quotes = record { m = n; count = two n; opened = e; closed = is_quote (slice_index cs n) (and_parts (nat_le n 200) _ h).1 } }) (bad (c ∷ cs))

mark_quotes : (ds : List ℕ) (n : ℕ) → Quotes ds (mark_of n)
mark_quotes ds n = either (n == 0) (bad ds) (record { quotes = tt })

comment_of_quotes : (ds : List ℕ) (o : Option ℕ) → Quotes ds (comment_of o)
comment_of_quotes ds None = bad ds
comment_of_quotes ds (Some n) = gap ds (n + 2)

line_comment_quotes : (ds cs : List ℕ) → Quotes ds (line_comment cs)
unfolding line_comment
line_comment_quotes ds cs = gap ds (1 + prefix_len (is_in Line) cs)

comment_quotes : (ds cs : List ℕ) → Quotes ds (comment cs)
unfolding comment
comment_quotes ds cs = comment_of_quotes ds (closing (drop 1 cs))

hash_quotes : (ds : List ℕ) (h : Bool) (cs : List ℕ) → Quotes ds (hash h cs)
unfolding hash
hash_quotes ds h cs = either _ (gap ds (1 + prefix_len (is_in Line) cs)) (bad ds)

piece_quotes : (h : Bool) (c : ℕ) (cs : List ℕ) → Quotes (c ∷ cs) (piece_at h (c ∷ cs))
unfolding piece_at
piece_quotes h c cs =
    let ds = c ∷ cs in
    either _ (gap ds 1)
    (either _ (name ds cs)
    (either _ (number_quotes ds ds)
    (where_so (c == 34) (λ e. quoted_quotes c cs (is_quote c e))
    (either _ (line_comment_quotes ds cs)
    (either _ (comment_quotes ds cs)
    (either _ (hash_quotes ds h cs) (mark_quotes ds (mark_len ds))))))))

end_no_text : (n : ℕ) → End ≡ Token Text n → ⊥
end_no_text n e = cc

-- what a text stands in front of
pub text_quotes : (h : Bool) (cs : List ℕ) (n : ℕ) → piece_at h cs ≡ Token Text n → IsQuotedFront cs n
unfolding piece_at
text_quotes h [] n e = absurd (end_no_text n e)
text_quotes h (c ∷ cs) n e = (subst (λ (x : Piece). Quotes (c ∷ cs) x) e (piece_quotes h c cs)).quotes

-- ---- a text's last character

-- one character more
take_more : (n : ℕ) (cs : List ℕ) → n < length cs → take (suc n) cs ≡ take n cs ++ (slice_index cs n ∷ [])
take_more n [] h = absurd (omega (arith, h))
take_more zero (c ∷ cs) h = refl
take_more (suc n) (c ∷ cs) h = ap (λ xs. c ∷ xs) (take_more n cs (omega (arith, h)))

-- where a character stands that is not 0 the list goes on
pub in_range : (cs : List ℕ) (n : ℕ) → slice_index cs n ≡ 34 → n < length cs
in_range [] n h = cc
in_range (c ∷ cs) zero h = omega arith
in_range (c ∷ cs) (suc n) h = let l : n < length cs = in_range cs n h in omega (arith, l)

past_append : (p : Place) (cs ds : List ℕ) → past_all p (cs ++ ds) ≡ past_all (past_all p cs) ds
past_append p [] ds = refl
past_append p (c ∷ cs) ds = past_append (past p c) cs ds

past_quote : (p : Place) → (past p 34).offset ≡ p.offset + 1
unfolding past
past_quote p = refl

-- a quote takes one byte
pub past_last : (p : Place) (cs : List ℕ) (n : ℕ) → slice_index cs n ≡ 34 → (past_all p (take (suc n) cs)).offset ≡ (past_all p (take n cs)).offset + 1
past_last p cs n h =
    ap (λ xs. (past_all p xs).offset) (take_more n cs (in_range cs n h))
    ∙ ap (λ (q : Place). q.offset) (past_append p (take n cs) (slice_index cs n ∷ []))
    ∙ ap (λ c. (past (past_all p (take n cs)) c).offset) h
    ∙ past_quote (past_all p (take n cs))
