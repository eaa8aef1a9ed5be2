-- What readers of marks, names and lists give.
use Rattle.std.proofs.Common.{◌≡◌, ℕ, pos, zero, suc, Bool, true, List, [], ◌∷◌, Some, refl, sym, subst}
use Rattle.mm_goto.specs.declared.ident.At.{At}
use Rattle.mm_goto.specs.declared.pure.Binary.TheVariants as binary
use Rattle.mm_tree.specs.declared.expr.Word.{Word}
use Rattle.mm_reading.specs.Parsing.{Outcome, Parsed, Fault, ◌>>=◌, ◌>>◌, pure, fail, peek, skip, when, after, token}
use Rattle.mm_reading.proofs.Sounding.{SoundAt, sound_after, sound_token}
use Rattle.mm_parse_expr.specs.declared.symbol.Keyword.TheVariants as reserved
use Rattle.mm_parse_expr.specs.declared.symbol.Symbol.{Symbol}
use Rattle.mm_parse_expr.specs.declared.symbol.Symbol.TheVariants.{Name, Number, Null, Keyword, Operator, Semicolon, Comma, Open, Close}
use Rattle.mm_parse_expr.specs.declared.terminal.Terminal.{Terminal}
use Rattle.mm_parse_expr.specs.Grammar.{terminal}
use Rattle.mm_tree.specs.Trees.{word}
use Rattle.mm_parse_expr.specs.reading.ExprReading.{Reader, is_close, named, name_word}
use Rattle.mm_parse_expr.proofs.ExprSound.{holds, as_terminal, is_a_name}
use Rattle.mm_grammar.specs.StatementGrammar as g
use Rattle.mm_grammar.specs.StatementGrammar.{IsNull}
use Rattle.mm_grammar.specs.reading.StatementReading as r
use Rattle.mm_grammar.specs.reading.StatementReading.{mark, is_semicolon, is_comma, is_open, is_ampersand, is_while, is_int}

-- ---- one terminal

-- the test holds of this symbol alone
abbrev pub Tells : (Symbol → Bool) → Symbol → Type 0
Tells is s = (u : Symbol) → is u ≡ true → u ≡ s

pub tells_close : Tells is_close Close
tells_close Close e = refl
tells_close _ e = cc

pub tells_semicolon : Tells is_semicolon Semicolon
tells_semicolon Semicolon e = refl
tells_semicolon _ e = cc

pub tells_comma : Tells is_comma Comma
tells_comma Comma e = refl
tells_comma _ e = cc

pub tells_open : Tells is_open Open
tells_open Open e = refl
tells_open _ e = cc

pub tells_ampersand : Tells is_ampersand (Operator binary.And)
tells_ampersand (Operator binary.And) e = refl
tells_ampersand _ e = cc

pub tells_while : Tells is_while (Keyword reserved.While)
tells_while (Keyword reserved.While) e = refl
tells_while _ e = cc

pub tells_int : Tells is_int (Keyword reserved.Int)
tells_int (Keyword reserved.Int) e = refl
tells_int _ e = cc

-- a mark, and then f
pub sound_mark : {B : Type 0} (is : Symbol → Bool) (s : Symbol) → Tells is s → (K : List Terminal → B → List Terminal → Type 0) (f : Reader B) → ((p : At) (x : List ℕ) (rest : List Terminal) → SoundAt (K (terminal s p x ∷ rest)) (f rest)) → (ts : List Terminal) → SoundAt (K ts) ((mark is >> f) ts)
sound_mark {B = B} is s tells K f k ts = sound_token (K ts) (λ t. when (is t.symbol)) (λ _. f) ts found
  where
    found : (t : Terminal) (u : Unit {0}) (rest : List Terminal) → when (is t.symbol) ≡ Some u → ts ≡ t ∷ rest → SoundAt (K ts) (f rest)
    found t u rest e same =
        subst (λ (us : List Terminal). SoundAt (K us) (f rest)) (sym same)
        (subst (λ (v : Terminal). SoundAt (K (v ∷ rest)) (f rest)) (sym (as_terminal t s (tells t.symbol (holds (is t.symbol) u e)))) (k t.at t.spelling rest))

-- what N says of the value and the terminals behind it, and then a mark, and then f
pub sound_until : {A B : Type 0} (is : Symbol → Bool) (s : Symbol) → Tells is s → (N : A → List Terminal → Type 0) (K : B → List Terminal → Type 0) (o : Outcome Terminal A) (f : A → Reader B) → SoundAt N o → ((a : A) (p : At) (x : List ℕ) (rest : List Terminal) → N a (terminal s p x ∷ rest) → SoundAt K (f a rest)) → SoundAt K (after o (λ a. mark is >> f a))
sound_until {A = A} is s tells N K (Parsed a mid) f h k =
    sound_token K (λ t. when (is t.symbol)) (λ _. f a) mid
    (λ t u rest e same. k a t.at t.spelling rest (subst (λ (v : Terminal). N a (v ∷ rest)) (as_terminal t s (tells t.symbol (holds (is t.symbol) u e))) (subst (λ (us : List Terminal). N a us) same h)))
sound_until is s tells N K (Fault rest) f h k = tt

-- the name stands first
abbrev pub IsName : List Terminal → Word → List Terminal → Type 0
IsName ts w rest = ts ≡ terminal Name w.at w.name ∷ rest

-- a name, and then f of it
pub sound_name : {B : Type 0} (K : List Terminal → B → List Terminal → Type 0) (f : Word → Reader B) → ((p : At) (x : List ℕ) (rest : List Terminal) → SoundAt (K (terminal Name p x ∷ rest)) (f (word p x) rest)) → (ts : List Terminal) → SoundAt (K ts) ((name_word >>= f) ts)
unfolding name_word
sound_name {B = B} K f k ts = sound_token (K ts) (λ t. named t.symbol t) f ts found
  where
    found : (t : Terminal) (w : Word) (rest : List Terminal) → named t.symbol t ≡ Some w → ts ≡ t ∷ rest → SoundAt (K ts) (f w rest)
    found t w rest e same =
        let is = is_a_name t.symbol t w e in
        subst (λ (us : List Terminal). SoundAt (K us) (f w rest)) (sym same)
        (subst (λ (v : Terminal). SoundAt (K (v ∷ rest)) (f w rest)) (sym (as_terminal t Name is.0))
        (subst (λ (v : Word). SoundAt (K (terminal Name t.at t.spelling ∷ rest)) (f v rest)) is.1 (k t.at t.spelling rest)))

-- what N says of the value and the terminals behind it, and then a name, and then f
pub sound_until_name : {A B : Type 0} (N : A → List Terminal → Type 0) (K : B → List Terminal → Type 0) (o : Outcome Terminal A) (f : A → Word → Reader B) → SoundAt N o → ((a : A) (p : At) (x : List ℕ) (rest : List Terminal) → N a (terminal Name p x ∷ rest) → SoundAt K (f a (word p x) rest)) → SoundAt K (after o (λ a. name_word >>= f a))
unfolding name_word
sound_until_name {A = A} {B = B} N K (Parsed a mid) f h k = sound_token K (λ t. named t.symbol t) (f a) mid found
  where
    found : (t : Terminal) (w : Word) (rest : List Terminal) → named t.symbol t ≡ Some w → mid ≡ t ∷ rest → SoundAt K (f a w rest)
    found t w rest e same =
        let is = is_a_name t.symbol t w e in
        subst (λ (v : Word). SoundAt K (f a v rest)) is.1
        (k a t.at t.spelling rest (subst (λ (v : Terminal). N a (v ∷ rest)) (as_terminal t Name is.0) (subst (λ (us : List Terminal). N a us) same h)))
sound_until_name N K (Fault rest) f h k = tt

pub null_sound : (ts : List Terminal) → SoundAt (λ u rest. IsNull ts rest) (r.null ts)
unfolding r.null token peek skip fail pure
null_sound [] = tt
null_sound (t ∷ ts) = by t.symbol t.at t.spelling
  where
    by : (s : Symbol) (p : At) (x : List ℕ) → SoundAt (λ u rest. IsNull (terminal s p x ∷ ts) rest) (r.null (terminal s p x ∷ ts))
    by Null p x = g.null_word
    by (Number (pos zero)) p x = g.null_number
    by (Number _) p x = tt
    by _ p x = tt

-- ---- lists

module _ {A : Type 0} (One : List Terminal → A → List Terminal → Type 0) (Many : List Terminal → List A → List Terminal → Type 0)
    (last : (ts : List Terminal) (a : A) (rest : List Terminal) → One ts a rest → Many ts (a ∷ []) rest)
    (more : (ts : List Terminal) (a : A) (p : At) (x : List ℕ) (us : List Terminal) (xs : List A) (rest : List Terminal) → One ts a (terminal Comma p x ∷ us) → Many us xs rest → Many ts (a ∷ xs) rest)
    (item : ℕ → Reader A) (sound : (n : ℕ) (ts : List Terminal) → SoundAt (λ a rest. One ts a rest) (item n ts)) where
  others_step : (n : ℕ) (inner : Reader (List A)) → ((ts : List Terminal) (a : A) (mid : List Terminal) → One ts a mid → SoundAt (λ xs rest. Many ts (a ∷ xs) rest) (inner mid)) → (ts : List Terminal) (a : A) (mid : List Terminal) → One ts a mid → SoundAt (λ xs rest. Many ts (a ∷ xs) rest) (peek (r.comma_at (item n) inner) mid)
  unfolding peek pure skip
  others_step n inner k ts a [] d = last ts a [] d
  others_step n inner k ts a (t ∷ us) d = by t.symbol t.at t.spelling d
    where
      by : (s : Symbol) (p : At) (x : List ℕ) → One ts a (terminal s p x ∷ us) → SoundAt (λ xs rest. Many ts (a ∷ xs) rest) (r.comma_by (item n) inner s (terminal s p x ∷ us))
      by Comma p x d = sound_after (λ b rest. One us b rest) _ (item n us) (λ b. inner >>= λ xs. pure (b ∷ xs)) (sound n us)
          (λ b mid h. sound_after (λ xs rest. Many us (b ∷ xs) rest) (λ xs rest. Many ts (a ∷ xs) rest) (inner mid) (λ xs. pure (b ∷ xs)) (k us b mid h) (λ xs rest m. more ts a p x us (b ∷ xs) rest d m))
      by s p x d = last ts a (terminal s p x ∷ us) d

  pub others_sound : (n : ℕ) (ts : List Terminal) (a : A) (mid : List Terminal) → One ts a mid → SoundAt (λ xs rest. Many ts (a ∷ xs) rest) (r.others item n mid)
  unfolding r.others pure
  others_sound zero ts a mid d = last ts a mid d
  others_sound (suc n) ts a mid d = others_step n (r.others item n) (others_sound n) ts a mid d

  pub list_sound : (n : ℕ) (ts : List Terminal) → SoundAt (λ xs rest. Many ts xs rest) (r.list item n ts)
  unfolding r.list pure
  list_sound n ts = sound_after (λ a rest. One ts a rest) _ (item n ts) (λ a. r.others item n >>= λ xs. pure (a ∷ xs)) (sound n ts)
      (λ a mid d. sound_after (λ xs rest. Many ts (a ∷ xs) rest) (λ xs rest. Many ts xs rest) (r.others item n mid) (λ xs. pure (a ∷ xs)) (others_sound n ts a mid d) (λ xs rest m. m))
