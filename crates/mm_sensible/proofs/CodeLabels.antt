-- The labels of a thread's code: one for each instruction, all different.
use Rattle.std.proofs.Common.{rules, ◌≡◌, ◌≢◌, ℕ, zero, suc, ◌+◌, ◌<◌, ◌≤◌, ◌^◌, nat_eq, Bool, true, false, cond, List, [], ◌∷◌, ◌++◌, map, length, slice_get, codes, is_some, arith, refl, ◌∙◌, sym, ap, Some, None}
use Rattle.std.specs.Str.{bytes_eq}
use Rattle.std.specs.Fmt.{decimal}
use Rattle.std.proofs.lemmas.Fmt.{decimal_injective}
use Rattle.std.proofs.lemmas.Bool.Decides.{nat_tests}
use Rattle.mm_goto.specs.declared.ident.Ident.{Ident}
use Rattle.mm_goto.specs.declared.shape.Shape.{Shape}
use Rattle.mm_goto.specs.declared.program.Instr.{Instr}
use Rattle.mm_goto.specs.Listing.{Listing}
use Rattle.mm_goto.specs.Sourcelike.{is_section}
use Rattle.mm_tree.specs.Places.{nowhere}
use Rattle.mm_tree.specs.declared.expr.Word.{Word}
use Rattle.mm_tree.specs.declared.side.Side.TheVariants.{Output}
use Rattle.mm_tree.specs.declared.stmt.Stmt.{Stmt}
use Rattle.mm_tree.specs.declared.stmt.StmtNode.{the_lemmas as stmt_lemmas}
use Rattle.mm_flow.proofs.Finds.{lookup-put}
use Rattle.mm_scope.specs.declared.table.Meaning.TheVariants as meaning
use Rattle.mm_scope.specs.Scopes.{Table, meaning_in, with_name}
use Rattle.mm_scope.specs.Steps.{reserved}
use Rattle.mm_names.specs.Items.{labels_of}
use Rattle.mm_names.specs.Labels.{labels_in, all_labels, with_label, with_labels, twice_if, labels_notes}
use Rattle.mm_words.specs.Words as words
use Rattle.mm_templates.specs.Names.{label_name}
use Rattle.mm_templates.specs.Instructions.{woven_instr}
use Rattle.mm_instr.specs.Woven.{woven_code}
use Rattle.mm_sensible.proofs.ItemWalk.{meaning_new, meaning_old}
use Rattle.mm_sensible.proofs.TemplateLabels.{labels_append, woven_label}

-- n labels from number j on
abbrev pub labels_from : ℕ → ℕ → List Word
labels_from j zero = []
labels_from j (suc n) = words.word (label_name j) ∷ labels_from (j + 1) n

label_apart : (j l : ℕ) → j < 2 ^ 32 → l < 2 ^ 32 → j ≢ l → label_name j ≢ label_name l
label_apart j l h g n e = n (decimal_injective j l (omega (arith, h)) (omega (arith, g)) (same e))
  where
    same : codes "wm_" ++ decimal j ≡ codes "wm_" ++ decimal l → decimal j ≡ decimal l
    same q = cc

-- the labels of such code
pub code_labels : (p : Listing) (shape : Shape) (buffers addresses : Bool) (t j : ℕ) (code : List Instr) → ((k : ℕ) (it : Instr) → slice_get code k ≡ Some it → is_section it ≡ false)
    → labels_of (woven_code p shape buffers addresses t j code) ≡ labels_from j (length code)
unfolding all_labels
code_labels p shape buffers addresses t j [] h = refl
code_labels p shape buffers addresses t j (it ∷ code) h =
    labels_append (woven_instr p shape buffers addresses t j it) (woven_code p shape buffers addresses t (j + 1) code)
    ∙ ap (λ ws. ws ++ labels_of (woven_code p shape buffers addresses t (j + 1) code)) (woven_label p shape buffers addresses t j it (h 0 it refl))
    ∙ ap (λ ws. words.word (label_name j) ∷ ws) (code_labels p shape buffers addresses t (j + 1) code (λ k i at. h (suc k) i at))

-- declarations in front have none
pub declared_labels : (ys : List Ident) (ss : List Stmt) → labels_of (map words.declare ys ++ ss) ≡ labels_of ss
unfolding all_labels words.stmt_of
declared_labels [] ss = refl
declared_labels (y ∷ ys) ss = ap (λ ws. ws ++ labels_of (map words.declare ys ++ ss)) (no_label y) ∙ declared_labels ys ss
  where
    no_label : (y : Ident) → labels_in (words.declare y) ≡ []
    no_label y = search (rules, stmt_lemmas)

-- none of these is declared twice
pub labels_none : (table : Table) (j n : ℕ) → j + n < 2 ^ 32 → ((l : ℕ) → j ≤ l → l < 2 ^ 32 → meaning_in table (label_name l) ≡ None) → labels_notes Output table (labels_from j n) ≡ []
unfolding labels_notes reserved
labels_none table j zero low new = refl
labels_none table j (suc n) low new =
    ap (λ o. twice_if (is_some o) nowhere ++ labels_notes Output (with_label table (words.word (label_name j))) (labels_from (j + 1) n)) (new j (omega arith) (omega (arith, low)))
    ∙ labels_none (with_label table (words.word (label_name j))) (j + 1) n (omega (arith, low)) (λ l above below.
    meaning_old table (label_name j) (label_name l) meaning.Label (label_apart j l (omega (arith, low)) below (λ e. omega (arith, above, e))) ∙ new l (omega (arith, above)) below)

-- what was a label stays one
kept : (table : Table) (j n : ℕ) (x : Ident) → is_some (meaning_in table x) ≡ true → is_some (meaning_in (with_labels table (labels_from j n)) x) ≡ true
kept table j zero x h = h
kept table j (suc n) x h = kept (with_label table (words.word (label_name j))) (j + 1) n x (still table (label_name j) x h)
  where
    still : (table : Table) (y x : Ident) → is_some (meaning_in table x) ≡ true → is_some (meaning_in (with_name table y meaning.Label) x) ≡ true
    still table y x h = ap is_some (lookup-put table y x meaning.Label) ∙ by (bytes_eq y x)
      where
        by : (b : Bool) → is_some (cond b (Some meaning.Label) (meaning_in table x)) ≡ true
        by true = refl
        by false = h

-- each is known
pub labels_known : (table : Table) (j n l : ℕ) → j ≤ l → l < j + n → is_some (meaning_in (with_labels table (labels_from j n)) (label_name l)) ≡ true
labels_known table j zero l above below = absurd (omega (arith, above, below))
labels_known table j (suc n) l above below = by (nat_eq j l) refl (λ more. labels_known (with_label table (words.word (label_name j))) (j + 1) n l more (omega (arith, below)))
  where
    by : (b : Bool) → nat_eq j l ≡ b → (j + 1 ≤ l → is_some (meaning_in (with_labels table (labels_from j (suc n))) (label_name l)) ≡ true) → is_some (meaning_in (with_labels table (labels_from j (suc n))) (label_name l)) ≡ true
    by true e more =
        let same : j ≡ l = grind (arith, nat_tests) in
        kept (with_label table (words.word (label_name j))) (j + 1) n (label_name l) (ap (λ m. is_some (meaning_in (with_label table (words.word (label_name j))) (label_name m))) (sym same) ∙ ap is_some (meaning_new table (label_name j) meaning.Label))
    by false e more = let other : j ≢ l = grind (arith, nat_tests) in more (omega (arith, above, other))
