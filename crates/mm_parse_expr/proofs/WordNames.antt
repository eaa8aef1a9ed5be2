-- Which words are names.
use Rattle.std.proofs.Common.{◌≡◌, ◌≢◌, ℕ, Bool, true, false, ◌&&◌, ◌||◌, List, [], ◌∷◌, ◌++◌, if◌then◌else◌, map, refl, sym, ◌∙◌, ap, subst}
use Rattle.std.proofs.lemmas.Bool.{and_parts}
use Rattle.std.specs.List.{list_any}
use Rattle.std.specs.Str.{bytes_eq}
use Rattle.mm_goto.specs.Names.{profile_words, outside_words, is_word}
use Rattle.mm_parse_expr.specs.declared.symbol.Symbol.{Symbol}
use Rattle.mm_parse_expr.specs.declared.symbol.Symbol.TheVariants.{Name}
use Rattle.mm_parse_expr.specs.declared.symbol.TheConstants.{WORDS}
use Rattle.mm_parse_expr.specs.Symbols.{lookup, word_symbol}

abbrev table : List (List ℕ × Symbol)
table = map (λ entry. (entry.0.now, entry.1)) WORDS

abbrev words_of : List (List ℕ × Symbol) → List (List ℕ)
words_of [] = []
words_of (e ∷ es) = e.0 ∷ words_of es

abbrev is_other : Symbol → Bool
is_other Name = false
is_other _ = true

-- no entry is a name
abbrev none_is_name : List (List ℕ × Symbol) → Bool
none_is_name [] = true
none_is_name (e ∷ es) = is_other e.1 && none_is_name es

the_words : words_of table ≡ profile_words ++ outside_words
unfolding profile_words outside_words
the_words = refl

abbrev is_in : List (List ℕ) → List ℕ → Bool
is_in ws w = list_any (λ u. bytes_eq u w) ws

any_false : (a b : Bool) → (a || b) ≡ false → (a ≡ false) × (b ≡ false)
any_false true b h = absurd (never h)
  where
    never : true ≡ false → ⊥
    never e = cc
any_false false b h = (refl, h)

other : (es : List (List ℕ × Symbol)) (w : List ℕ) → is_in (words_of es) w ≡ false → lookup es w Name ≡ Name
other [] w h = refl
other (e ∷ es) w h =
    let k = any_false (bytes_eq e.0 w) (is_in (words_of es) w) h in
    ap (λ b. if b then e.1 else lookup es w Name) k.0 ∙ other es w k.1

other_is_no_name : (s : Symbol) → is_other s ≡ true → s ≢ Name
other_is_no_name s h same = never (sym (ap is_other same) ∙ h)
  where
    never : false ≡ true → ⊥
    never e = cc

no_end : false ≡ true → ⊥
no_end e = cc

among : (es : List (List ℕ × Symbol)) (w : List ℕ) → none_is_name es ≡ true → is_in (words_of es) w ≡ true → lookup es w Name ≢ Name
among [] w none h = absurd (no_end h)
among (e ∷ es) w none h =
    let both = and_parts (is_other e.1) (none_is_name es) none in
    by (bytes_eq e.0 w) refl both.0 (among es w both.1)
  where
    by : (b : Bool) → bytes_eq e.0 w ≡ b → is_other e.1 ≡ true → (is_in (words_of es) w ≡ true → lookup es w Name ≢ Name) → lookup (e ∷ es) w Name ≢ Name
    by true k first behind = λ same. other_is_no_name e.1 first (sym (ap (λ b. if b then e.1 else lookup es w Name) k) ∙ same)
    by false k first behind = λ same. behind (sym (ap (λ b. b || is_in (words_of es) w) k) ∙ h) (sym (ap (λ b. if b then e.1 else lookup es w Name) k) ∙ same)

no_names : none_is_name table ≡ true
no_names = refl

pub name_symbol : (w : List ℕ) → is_word w ≡ false → word_symbol w ≡ Name
unfolding word_symbol
name_symbol w h = other table w (subst (λ ws. is_in ws w ≡ false) (sym the_words) h)

pub word_is_no_name : (w : List ℕ) → is_word w ≡ true → word_symbol w ≢ Name
unfolding word_symbol
word_is_no_name w h = among table w no_names (subst (λ ws. is_in ws w ≡ true) (sym the_words) h)

-- a word is one or the other
pub no_word : (w : List ℕ) → word_symbol w ≡ Name → is_word w ≡ false
no_word w h = by (is_word w) refl
  where
    by : (b : Bool) → is_word w ≡ b → b ≡ false
    by true e = absurd (word_is_no_name w e h)
    by false e = refl

pub some_word : (w : List ℕ) → (word_symbol w ≡ Name → ⊥) → is_word w ≡ true
some_word w h = by (is_word w) refl
  where
    by : (b : Bool) → is_word w ≡ b → b ≡ true
    by true e = refl
    by false e = absurd (h (name_symbol w e))
