-- Which names a source may declare.
use Rattle.std.specs.Prelude.{◌≡◌, ◌≢◌, ℕ, Bool, false, ◌&&◌, ◌||◌, ◌==◌, nat_eq, IsTrue, List, [], ◌∷◌, ◌++◌, codes}
use Rattle.std.specs.List.{list_any, list_all, starts_with}
use Rattle.std.specs.Str.{bytes_eq, chars, IsUtf8}
use Rattle.unicode_ident.specs.Ident.{is_xid_start, is_xid_continue}
use Rattle.mm_goto.specs.declared.ident.Ident.{Ident}

-- a name begins with _ or a character that may start an identifier (UAX 31)
abbrev pub is_name_start : ℕ → Bool
is_name_start c = (c == 95) || is_xid_start c

-- and goes on with _ or characters that may continue one
abbrev pub is_name_char : ℕ → Bool
is_name_char c = (c == 95) || is_xid_continue c

abbrev pub is_name : List ℕ → Bool
is_name [] = false
is_name (c ∷ cs) = is_name_start c && list_all is_name_char cs

-- the words that the profile keeps for itself
unfoldable pub profile_words : List (List ℕ)
profile_words =
    codes "int" ∷ codes "void" ∷ codes "static" ∷ codes "volatile" ∷ codes "extern" ∷ codes "if" ∷ codes "else" ∷ codes "while"
    ∷ codes "do" ∷ codes "for" ∷ codes "break" ∷ codes "continue" ∷ codes "return" ∷ codes "goto" ∷ codes "NULL" ∷ codes "assert"
    ∷ codes "pthread_t" ∷ codes "pthread_mutex_t" ∷ codes "PTHREAD_MUTEX_INITIALIZER" ∷ codes "pthread_create"
    ∷ codes "pthread_join" ∷ codes "pthread_mutex_lock" ∷ codes "pthread_mutex_unlock" ∷ codes "__sync_synchronize"
    ∷ codes "__sync_fetch_and_add" ∷ codes "__sync_bool_compare_and_swap" ∷ codes "__CPROVER_assume" ∷ codes "__CPROVER_assert"
    ∷ codes "__CPROVER_atomic_begin" ∷ codes "__CPROVER_atomic_end" ∷ []

-- the words of C that it has not
unfoldable pub outside_words : List (List ℕ)
outside_words =
    codes "auto" ∷ codes "case" ∷ codes "char" ∷ codes "const" ∷ codes "default" ∷ codes "double" ∷ codes "enum" ∷ codes "float"
    ∷ codes "inline" ∷ codes "long" ∷ codes "register" ∷ codes "restrict" ∷ codes "short" ∷ codes "signed" ∷ codes "sizeof"
    ∷ codes "struct" ∷ codes "switch" ∷ codes "typedef" ∷ codes "union" ∷ codes "unsigned" ∷ codes "_Bool" ∷ codes "_Atomic" ∷ []

abbrev pub is_word : List ℕ → Bool
is_word name = list_any (λ w. bytes_eq w name) (profile_words ++ outside_words)

-- A source may declare the name beside its main. The woven program takes the names that begin with wm_ for itself, and
-- those that begin with nondet_ are functions that give any int.
pub record IsDeclarable (x : Ident) : Type 0 where
  pub text : IsUtf8 x
  pub name : IsTrue (is_name (chars x))
  pub no_word : is_word x ≡ false
  pub not_woven : starts_with nat_eq x (codes "wm_") ≡ false
  pub no_input : starts_with nat_eq x (codes "nondet_") ≡ false
  pub not_main : x ≢ codes "main"
