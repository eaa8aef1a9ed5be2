-- A text has tokens or a first fault, one of the two, and in one way.
use Rattle.std.proofs.Common.{◌≡◌, ℕ, zero, suc, ◌<◌, Bool, true, false, List, [], ◌∷◌, length, take, drop, Some, None, ◌⊎◌, inl, inr, refl, sym, ◌∙◌, ap, subst, arith}
use Rattle.std.specs.Str.{chars}
use Rattle.mm_goto.specs.declared.ident.At.{At}
use Rattle.mm_lexer.specs.declared.place.Place.{Place}
use Rattle.mm_lexer.specs.declared.piece.Piece.{Piece}
use Rattle.mm_lexer.specs.declared.piece.Piece.TheVariants.{End, Gap, Token, Bad, TooLarge}
use Rattle.mm_lexer.specs.declared.token.LexFault.{LexFault}
use Rattle.mm_lexer.specs.declared.token.LexFault.TheVariants.{BadToken, NumberTooLarge}
use Rattle.mm_lexer.specs.declared.token.Token as token
use Rattle.mm_lexer.specs.declared.token.TokenKind.{TokenKind}
use Rattle.mm_lexer.specs.Place.{start, past_all}
use Rattle.mm_lexer.specs.Piece.{piece_at}
use Rattle.mm_lexer.specs.Tokens.{token_at, Reads, AreTokens, IsFirstFault, fault_of}
use Rattle.mm_lexer.proofs.Pieces.{end_is_nil, nil_is_end, gap_shorter, token_shorter}

abbrev goes_on : Piece → Bool
goes_on End = false
goes_on (Gap n) = true
goes_on (Token kind n) = true
goes_on Bad = false
goes_on TooLarge = false

gap_goes : (x : Piece) (n : ℕ) → x ≡ Gap n → goes_on x ≡ false → ⊥
gap_goes x n e h = let f : true ≡ false = ap goes_on (sym e) ∙ h in cc

token_goes : (x : Piece) (kind : TokenKind) (n : ℕ) → x ≡ Token kind n → goes_on x ≡ false → ⊥
token_goes x kind n e h = let f : true ≡ false = ap goes_on (sym e) ∙ h in cc

gap_or_token : (x : Piece) (n : ℕ) (kind : TokenKind) (m : ℕ) → x ≡ Gap n → x ≡ Token kind m → ⊥
gap_or_token x n kind m e f = cc

gap_len : (x : Piece) (n m : ℕ) → x ≡ Gap n → x ≡ Gap m → n ≡ m
gap_len x n m e f = cc

token_len : (x : Piece) (k l : TokenKind) (n m : ℕ) → x ≡ Token k n → x ≡ Token l m → n ≡ m
token_len x k l n m e f = cc

token_kind : (x : Piece) (k l : TokenKind) (n m : ℕ) → x ≡ Token k n → x ≡ Token l m → k ≡ l
token_kind x k l n m e f = cc

-- two readings that go as far as they can
pub record SameReading (ts us : List token.Token) (q r : Place) (rest more : List ℕ) : Type 0 where
  pub tokens : ts ≡ us
  pub place : q ≡ r
  pub left : rest ≡ more

first_same : (t u : token.Token) (ts us : List token.Token) (q r : Place) (rest more : List ℕ) → t ≡ u → SameReading ts us q r rest more → SameReading (t ∷ ts) (u ∷ us) q r rest more
first_same t u ts us q r rest more e s = let i = s.tokens in record { tokens = cc; place = s.place; left = s.left }

pub reads_same : {p q r : Place} {cs rest more : List ℕ} {ts us : List token.Token} → Reads p cs ts q rest → goes_on (piece_at q.is_head rest) ≡ false → Reads p cs us r more → goes_on (piece_at r.is_head more) ≡ false → SameReading ts us q r rest more
reads_same Reads.none h Reads.none k = record { tokens = refl; place = refl; left = refl }
reads_same Reads.none h (Reads.gap {n = m} f b) k = absurd (gap_goes _ m f h)
reads_same Reads.none h (Reads.token {kind = l} {n = m} f u b) k = absurd (token_goes _ l m f h)
reads_same (Reads.gap {n = n} e a) h Reads.none k = absurd (gap_goes _ n e k)
reads_same (Reads.token {kind = j} {n = n} e t a) h Reads.none k = absurd (token_goes _ j n e k)
reads_same (Reads.gap {n = n} e a) h (Reads.token {kind = l} {n = m} f u b) k = absurd (gap_or_token _ n l m e f)
reads_same (Reads.token {kind = j} {n = n} e t a) h (Reads.gap {n = m} f b) k = absurd (gap_or_token _ m j n f e)
reads_same (Reads.gap {p = p} {cs = cs} {n = n} e a) h (Reads.gap {q = r} {rest = more} {ts = us} {n = m} f b) k =
    reads_same a h (subst (λ (i : ℕ). Reads (past_all p (take i cs)) (drop i cs) us r more) (gap_len _ m n f e) b) k
reads_same (Reads.token {p = p} {q = q} {cs = cs} {rest = rest} {t = t} {ts = ts} {kind = j} {n = n} e v a) h (Reads.token {q = r} {rest = more} {t = u} {ts = us} {kind = l} {n = m} f w b) k =
    let len = token_len (piece_at p.is_head cs) l j m n f e in
    let kind = token_kind (piece_at p.is_head cs) l j m n f e in
    let same : t ≡ u = v ∙ sym (ap (λ (i : ℕ). token_at j p (take i cs)) len) ∙ sym (ap (λ (i : TokenKind). token_at i p (take m cs)) kind) ∙ sym w in
    first_same t u ts us q r rest more same (reads_same a h (subst (λ (i : ℕ). Reads (past_all p (take i cs)) (drop i cs) us r more) len b) k)

-- ---- what a reading comes to

nil_stops : (h : Bool) → goes_on (piece_at h []) ≡ false
nil_stops h = ap goes_on (nil_is_end h)

fault_stops : (x : Piece) (at : At) (fault : LexFault) → fault_of x at ≡ Some fault → goes_on x ≡ false
fault_stops End at fault e = refl
fault_stops (Gap n) at fault e = absurd (none_some e)
  where
    none_some : None ≡ Some fault → ⊥
    none_some e = cc
fault_stops (Token kind n) at fault e = absurd (none_some e)
  where
    none_some : None ≡ Some fault → ⊥
    none_some e = cc
fault_stops Bad at fault e = refl
fault_stops TooLarge at fault e = refl

-- a text has one list of tokens at most
pub tokens_unique : (text : List ℕ) (ts us : List token.Token) → AreTokens text ts → AreTokens text us → ts ≡ us
tokens_unique text ts us a b = (reads_same a.read (nil_stops a.end.is_head) b.read (nil_stops b.end.is_head)).tokens

-- a text with tokens has no first fault
pub tokens_or_fault : (text : List ℕ) (ts : List token.Token) (fault : LexFault) → AreTokens text ts → IsFirstFault text fault → ⊥
tokens_or_fault text ts fault a f =
    let same = reads_same a.read (nil_stops a.end.is_head) f.read (fault_stops _ _ _ f.fails) in
    no_fault f.place.is_head f.place.at f.rest (sym same.left) f.fails
  where
    no_fault : (h : Bool) (at : At) (rest : List ℕ) → rest ≡ [] → fault_of (piece_at h rest) at ≡ Some fault → ⊥
    no_fault h at rest e g =
        let x : piece_at h rest ≡ End = ap (piece_at h) e ∙ nil_is_end h in
        let y : None ≡ Some fault = ap (λ p. fault_of p at) (sym x) ∙ g in
        cc

-- and else one first fault
pub fault_unique : (text : List ℕ) (e f : LexFault) → IsFirstFault text e → IsFirstFault text f → e ≡ f
fault_unique text e f a b =
    let same = reads_same a.read (fault_stops _ _ _ a.fails) b.read (fault_stops _ _ _ b.fails) in
    same_fault a.place b.place a.rest b.rest same.place same.left a.fails b.fails
  where
    same_fault : (q r : Place) (rest more : List ℕ) → q ≡ r → rest ≡ more → fault_of (piece_at q.is_head rest) q.at ≡ Some e → fault_of (piece_at r.is_head more) r.at ≡ Some f → e ≡ f
    same_fault q r rest more i j x y =
        let z : fault_of (piece_at r.is_head more) r.at ≡ Some e = subst (λ (m : List ℕ). fault_of (piece_at r.is_head m) r.at ≡ Some e) j (subst (λ (s : Place). fault_of (piece_at s.is_head rest) s.at ≡ Some e) i x) in
        cc

-- ---- every text has tokens or a first fault

-- a reading as far as it goes
pub record Halts (p : Place) (cs : List ℕ) : Type 0 where
  pub tokens : List token.Token
  pub end : Place
  pub left : List ℕ
  pub read : Reads p cs tokens end left
  pub stops : goes_on (piece_at end.is_head left) ≡ false

stopped : (p : Place) (cs : List ℕ) → goes_on (piece_at p.is_head cs) ≡ false → Halts p cs
stopped p cs e = record { tokens = []; end = p; left = cs; read = Reads.none; stops = e }

halts : (n : ℕ) (p : Place) (cs : List ℕ) → length cs < n → Halts p cs
halts zero p cs h = absurd (omega (arith, h))
halts (suc n) p cs h = by_piece (λ q ds k. halts n q ds k) (piece_at p.is_head cs) refl
  where
    by_piece : ((q : Place) (ds : List ℕ) → length ds < n → Halts q ds) → (x : Piece) → piece_at p.is_head cs ≡ x → Halts p cs
    by_piece behind End e = stopped p cs (ap goes_on e)
    by_piece behind Bad e = stopped p cs (ap goes_on e)
    by_piece behind TooLarge e = stopped p cs (ap goes_on e)
    by_piece behind (Gap m) e =
        let on = behind (past_all p (take m cs)) (drop m cs) (omega (arith, h, gap_shorter p.is_head cs m e)) in
        record { tokens = on.tokens; end = on.end; left = on.left; read = Reads.gap e on.read; stops = on.stops }
    by_piece behind (Token kind m) e =
        let on = behind (past_all p (take m cs)) (drop m cs) (omega (arith, h, token_shorter p.is_head cs kind m e)) in
        record { tokens = token_at kind p (take m cs) ∷ on.tokens; end = on.end; left = on.left; read = Reads.token e refl on.read; stops = on.stops }

pub tokens_and_fault : (text : List ℕ) → ((ts : List token.Token) × AreTokens text ts) ⊎ ((fault : LexFault) × IsFirstFault text fault)
tokens_and_fault text = by_piece (piece_at all.end.is_head all.left) refl all.stops
  where
    all : Halts start (chars text)
    all = halts (suc (length (chars text))) start (chars text) (omega arith)

    fault : (f : LexFault) (x : Piece) → piece_at all.end.is_head all.left ≡ x → fault_of x all.end.at ≡ Some f → IsFirstFault text f
    fault f x e g = record { before = all.tokens; place = all.end; rest = all.left; read = all.read; fails = ap (λ y. fault_of y all.end.at) e ∙ g }

    by_piece : (x : Piece) → piece_at all.end.is_head all.left ≡ x → goes_on x ≡ false → ((ts : List token.Token) × AreTokens text ts) ⊎ ((f : LexFault) × IsFirstFault text f)
    by_piece End e h = inl (all.tokens, record { end = all.end; read = subst (λ (m : List ℕ). Reads start (chars text) all.tokens all.end m) (end_is_nil all.end.is_head all.left e) all.read })
    by_piece (Gap n) e h = absurd (gap_goes _ n refl h)
    by_piece (Token kind n) e h = absurd (token_goes _ kind n refl h)
    by_piece Bad e h = inr (BadToken all.end.at, fault (BadToken all.end.at) Bad e refl)
    by_piece TooLarge e h = inr (NumberTooLarge all.end.at, fault (NumberTooLarge all.end.at) TooLarge e refl)
