-- How the first lines are read: as nothing.
use Rattle.std.proofs.Common.{◌≡◌, ℕ, ◌+◌, ◌<◌, ◌==◌, ◌&&◌, not, Bool, true, false, List, [], ◌∷◌, ◌++◌, map, refl, sym, ◌∙◌, subst, arith, append_assoc}
use Rattle.std.specs.Prelude.{codes}
use Rattle.std.specs.Fmt.{decimal}
use Rattle.std.specs.List.{flat_map, list_all}
use Rattle.std.specs.Str.{chars, IsUtf8}
use Rattle.std.proofs.lemmas.Bool.{and_parts}
use Rattle.std.proofs.lemmas.Bool.Decides.{nat_tests}
use Rattle.std.proofs.lemmas.List.Folds.{list_all-append}
use Rattle.mm_goto.specs.declared.model.Model.{Model}
use Rattle.mm_goto.specs.declared.model.Model.TheVariants as model
use Rattle.mm_goto.specs.Bounds.{greatest}
use Rattle.mm_goto.specs.Models.{word_of}
use Rattle.mm_goto.specs.declared.shape.Head.{Head}
use Rattle.mm_goto.specs.declared.shape.Note.{Note}
use Rattle.mm_lexer.specs.Lexemes.{Spells}
use Rattle.mm_lexer.proofs.Building.{anywhere, comment_on, include_on, newline_on}
use Rattle.mm_lexer.proofs.Characters.{is_ascii, each}
use Rattle.mm_print.specs.HeadLines.{comment_line, first_body, site_text, place_text, note_body, note_line, first_line, head_lines}
use Rattle.mm_print.proofs.Says.{Says, ascii_word, ascii_word_utf8, digits_all}
use Rattle.mm_print.proofs.Signs.{Sign, AreSigns, lexeme}

-- cut into these tokens, from the head of a line on
pub record Begins (text : List ℕ) (ss : List Sign) : Type 0 where
  pub utf8 : IsUtf8 text
  pub spells : Spells true (chars text) (map lexeme ss)
  pub signs : AreSigns ss

-- ---- what may stand in a comment

abbrev quiet : ℕ → Bool
quiet c = is_ascii c && not (c == 42)

IsQuiet : List ℕ → Type 0
IsQuiet w = list_all quiet w ≡ true

quiet_both : (v w : List ℕ) → IsQuiet v → IsQuiet w → IsQuiet (v ++ w)
unfolding IsQuiet
quiet_both v w h k = list_all-append quiet v w ∙ rw (h, k) refl

literal : (w : List ℕ) → list_all quiet w ≡ true → IsQuiet w
unfolding IsQuiet
literal w h = h

quiet_digit : (d : ℕ) → d < 10 → quiet (48 + d) ≡ true
quiet_digit d h = grind (arith, nat_tests)

quiet_number : (n : ℕ) → IsQuiet (decimal n)
unfolding IsQuiet
quiet_number n = digits_all quiet quiet_digit n

quiet_model : (m : Model) → IsQuiet (word_of m)
unfolding IsQuiet
quiet_model model.Tso = refl
quiet_model model.Pso = refl

quiet_site : (s : ℕ) → IsQuiet (site_text s)
quiet_site s = quiet_both (codes " #") (decimal s) (literal (codes " #") refl) (quiet_number s)

quiet_sites : (ss : List ℕ) → IsQuiet (flat_map site_text ss)
quiet_sites [] = literal [] refl
quiet_sites (s ∷ ss) = quiet_both (site_text s) (flat_map site_text ss) (quiet_site s) (quiet_sites ss)

quiet_first : (h : Head) → IsQuiet (first_body h)
quiet_first h = quiet_both _ _ (quiet_both _ _ (quiet_both _ _ (quiet_both _ _ (literal (codes " goto-mm 1 ") refl) (quiet_model h.model)) (literal (codes " ") refl)) (quiet_number (greatest h.bound))) (literal (codes " ") refl)

quiet_place : (n : Note) → IsQuiet (place_text n)
unfolding place_text
quiet_place n = quiet_both _ _ (quiet_both _ _ (quiet_both _ _ (quiet_both _ _ (quiet_both _ _ (literal (codes " T") refl) (quiet_number n.thread)) (literal (codes " ") refl)) (quiet_number n.at.line)) (literal (codes ":") refl)) (quiet_number n.at.column)

quiet_note : (n : Note) → IsQuiet (note_body n)
quiet_note n = quiet_both _ _ (quiet_both _ _ (quiet_both _ _ (quiet_both _ _ (quiet_both _ _ (literal (codes " buffered") refl) (quiet_site n.site)) (quiet_place n)) (literal (codes " cycle") refl)) (quiet_sites n.cycle)) (literal (codes " ") refl)

-- ---- lines

quiet_ascii : (c : ℕ) → quiet c ≡ true → is_ascii c ≡ true
quiet_ascii c h = (and_parts (is_ascii c) (not (c == 42)) h).0

quiet_star : (c : ℕ) → quiet c ≡ true → not (c == 42) ≡ true
quiet_star c h = (and_parts (is_ascii c) (not (c == 42)) h).1

comment_shape : (w rest : List ℕ) → 47 ∷ 42 ∷ (w ++ 42 ∷ 47 ∷ 10 ∷ rest) ≡ comment_line w ++ rest
comment_shape w rest = simp append_assoc

line_ascii : (w : List ℕ) → IsQuiet w → list_all is_ascii (comment_line w) ≡ true
unfolding IsQuiet
line_ascii w h = list_all-append is_ascii w (codes "*/\n") ∙ rw (each quiet is_ascii quiet_ascii w h) refl

comment_begins : (w : List ℕ) {rest : List ℕ} {ss : List Sign} → IsQuiet w → Begins rest ss → Begins (comment_line w ++ rest) ss
unfolding IsQuiet
comment_begins w {rest = rest} {ss = ss} h b = record {
  utf8 = ascii_word_utf8 (comment_line w) rest (line_ascii w h) b.utf8;
  spells = subst (λ cs. Spells true cs (map lexeme ss)) (sym (ascii_word (comment_line w) rest (line_ascii w h) ∙ sym (comment_shape w (chars rest))))
      (comment_on true w (10 ∷ chars rest) (map lexeme ss) (each quiet (λ c. not (c == 42)) quiet_star w h) (newline_on false (chars rest) (map lexeme ss) b.spells));
  signs = b.signs;
}

note_begins : (n : Note) {rest : List ℕ} {ss : List Sign} → Begins rest ss → Begins (note_line n ++ rest) ss
unfolding note_line
note_begins n b = comment_begins (note_body n) (quiet_note n) b

first_begins : (h : Head) {rest : List ℕ} {ss : List Sign} → Begins rest ss → Begins (first_line h ++ rest) ss
unfolding first_line
first_begins h b = comment_begins (first_body h) (quiet_first h) b

notes_begin : (ns : List Note) {rest : List ℕ} {ss : List Sign} → Begins rest ss → Begins (flat_map note_line ns ++ rest) ss
notes_begin [] b = b
notes_begin (n ∷ ns) {rest = rest} {ss = ss} b = subst (λ t. Begins t ss) (sym (append_assoc (note_line n) (flat_map note_line ns) rest)) (note_begins n (notes_begin ns b))

include_begins : {rest : List ℕ} {ss : List Sign} → Says rest ss → Begins (codes "#include <pthread.h>\n" ++ rest) ss
include_begins {rest = rest} {ss = ss} s = record {
  utf8 = ascii_word_utf8 (codes "#include <pthread.h>\n") rest refl s.utf8;
  spells = subst (λ cs. Spells true cs (map lexeme ss)) (sym (ascii_word (codes "#include <pthread.h>\n") rest refl)) (include_on (codes "include <pthread.h>") (10 ∷ chars rest) (map lexeme ss) refl refl refl (newline_on false (chars rest) (map lexeme ss) (anywhere s.spells true)));
  signs = s.signs;
}

pub head_begins : (h : Head) {rest : List ℕ} {ss : List Sign} → Says rest ss → Begins (head_lines h ++ rest) ss
unfolding head_lines
head_begins h {rest = rest} {ss = ss} s = subst (λ t. Begins t ss) shape (first_begins h (notes_begin h.notes (include_begins s)))
  where
    shape : first_line h ++ (flat_map note_line h.notes ++ (codes "#include <pthread.h>\n" ++ rest)) ≡ (first_line h ++ flat_map note_line h.notes ++ codes "#include <pthread.h>\n") ++ rest
    shape = sym (append_assoc (first_line h ++ flat_map note_line h.notes) (codes "#include <pthread.h>\n") rest ∙ append_assoc (first_line h) (flat_map note_line h.notes) (codes "#include <pthread.h>\n" ++ rest))
