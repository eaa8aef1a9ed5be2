-- The names in a woven program are names of C, and no words of it.
use Rattle.std.proofs.Common.{◌≡◌, ◌∙◌, ℕ, zero, suc, ◌+◌, ◌<◌, true, List, [], ◌∷◌, refl, ap, arith}
use Rattle.std.specs.Prelude.{codes}
use Rattle.std.specs.List.{list_all}
use Rattle.std.specs.Str.{IsAscii}
use Rattle.std.proofs.lemmas.Bool.{and_parts}
use Rattle.std.proofs.lemmas.Bool.Decides.{nat_tests}
use Rattle.std.proofs.lemmas.Str.{IsUtf8-from_ascii, chars-IsAscii}
use Rattle.mm_goto.specs.Names.{IsDeclarable, is_name}
use Rattle.mm_lexer.proofs.Characters.{is_ascii, is_ascii_name, is_ascii_name_char, name_from_ascii, name_is_ascii}
use Rattle.mm_parse_expr.specs.declared.symbol.Symbol.TheVariants as symbol
use Rattle.mm_parse_expr.specs.Symbols.{word_symbol}
use Rattle.mm_parse_expr.proofs.WordNames.{no_word}
use Rattle.mm_print.specs.Printable.{IsPrintableName}
use Rattle.mm_print.proofs.Says.{digits_all}
use Rattle.mm_helpers.specs.Helpers as helper
use Rattle.mm_templates.specs.Names.{local_name, label_name, handle_name, thread_name}

-- a text of ASCII
all_ascii : (x : List ℕ) → list_all is_ascii x ≡ true → IsAscii x
all_ascii [] h i = omega arith
all_ascii (c ∷ x) h zero = let b = (and_parts (is_ascii c) (list_all is_ascii x) h).0 in grind (arith, nat_tests)
all_ascii (c ∷ x) h (suc i) = all_ascii x (and_parts (is_ascii c) (list_all is_ascii x) h).1 i

-- a name of ASCII that is no word
ascii : (x : List ℕ) → is_ascii_name x ≡ true → word_symbol x ≡ symbol.Name → IsPrintableName x
ascii x name is =
    let text = all_ascii x (name_is_ascii x name) in
    record { utf8 = IsUtf8-from_ascii x text; name = ap is_name (chars-IsAscii x text) ∙ name_from_ascii x name; no_word = no_word x is }

-- a name that a source may declare
pub declarable : (x : List ℕ) → IsDeclarable x → IsPrintableName x
declarable x is = record { utf8 = is.text; name = is.name; no_word = is.no_word }

digit_name : (d : ℕ) → d < 10 → is_ascii_name_char (48 + d) ≡ true
digit_name d h = grind (arith, nat_tests)

-- ---- names that end with a number

pub local_named : (l : ℕ) → IsPrintableName (local_name l)
unfolding word_symbol
local_named l = ascii (local_name l) (digits_all is_ascii_name_char digit_name l) refl

pub label_named : (k : ℕ) → IsPrintableName (label_name k)
unfolding word_symbol
label_named k = ascii (label_name k) (digits_all is_ascii_name_char digit_name k) refl

pub handle_named : (u : ℕ) → IsPrintableName (handle_name u)
unfolding word_symbol
handle_named u = ascii (handle_name u) (digits_all is_ascii_name_char digit_name u) refl

pub thread_named : (u : ℕ) → IsPrintableName (thread_name u)
unfolding word_symbol
thread_named u = ascii (thread_name u) (digits_all is_ascii_name_char digit_name u) refl

-- ---- names of the helpers and of what they work on

pub mem_named : IsPrintableName helper.wm_mem
unfolding word_symbol
mem_named = ascii helper.wm_mem refl refl

pub len_named : IsPrintableName helper.wm_len
unfolding word_symbol
len_named = ascii helper.wm_len refl refl

pub cell_named : IsPrintableName helper.wm_cell
unfolding word_symbol
cell_named = ascii helper.wm_cell refl refl

pub val_named : IsPrintableName helper.wm_val
unfolding word_symbol
val_named = ascii helper.wm_val refl refl

pub input_named : IsPrintableName helper.nondet_wm
unfolding word_symbol
input_named = ascii helper.nondet_wm refl refl

pub pop_named : IsPrintableName helper.wm_pop
unfolding word_symbol
pop_named = ascii helper.wm_pop refl refl

pub flush_named : IsPrintableName helper.wm_flush
unfolding word_symbol
flush_named = ascii helper.wm_flush refl refl

pub empty_named : IsPrintableName helper.wm_empty
unfolding word_symbol
empty_named = ascii helper.wm_empty refl refl

pub put_named : IsPrintableName helper.wm_put
unfolding word_symbol
put_named = ascii helper.wm_put refl refl

pub get_named : IsPrintableName helper.wm_get
unfolding word_symbol
get_named = ascii helper.wm_get refl refl

pub set_named : IsPrintableName helper.wm_set
unfolding word_symbol
set_named = ascii helper.wm_set refl refl

pub t_named : IsPrintableName helper.wm_t
unfolding word_symbol
t_named = ascii helper.wm_t refl refl

pub c_named : IsPrintableName helper.wm_c
unfolding word_symbol
c_named = ascii helper.wm_c refl refl

pub v_named : IsPrintableName helper.wm_v
unfolding word_symbol
v_named = ascii helper.wm_v refl refl

pub b_named : IsPrintableName helper.wm_b
unfolding word_symbol
b_named = ascii helper.wm_b refl refl

pub j_named : IsPrintableName helper.wm_j
unfolding word_symbol
j_named = ascii helper.wm_j refl refl

pub n_named : IsPrintableName helper.wm_n
unfolding word_symbol
n_named = ascii helper.wm_n refl refl

pub arg_named : IsPrintableName (codes "wm_arg")
unfolding word_symbol
arg_named = ascii (codes "wm_arg") refl refl

pub main_named : IsPrintableName (codes "main")
unfolding word_symbol
main_named = ascii (codes "main") refl refl
