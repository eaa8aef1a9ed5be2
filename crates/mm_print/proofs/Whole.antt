-- The printed text of a small program is accepted, and means the woven program.
use Rattle.std.proofs.Common.{◌≡◌, ℕ, zero, suc, ◌+◌, ◌<◌, ◌^◌, ◌⊎◌, inl, inr, ◌==◌, ◌&&◌, not, Bool, true, false, List, [], ◌∷◌, ◌++◌, length, map, Some, None, refl, sym, ◌∙◌, ap, subst, arith, append_assoc}
use Rattle.std.specs.Prelude.{codes, slice_get}
use Rattle.std.specs.Fmt.{decimal}
use Rattle.std.specs.List.{flat_map, list_all, slice_index_or, AllByRecursion}
use Rattle.std.specs.Str.{chars, IsUtf8}
use Rattle.std.proofs.lemmas.Bool.Decides.{nat_tests}
use Rattle.std.proofs.lemmas.List.Folds.{list_all-append}
use Rattle.mm_goto.specs.declared.ident.At.{At}
use Rattle.mm_goto.specs.declared.program.Cell.{Cell}
use Rattle.mm_goto.specs.declared.program.Instr.{Instr}
use Rattle.mm_goto.specs.declared.program.Instr.TheVariants as instr
use Rattle.mm_goto.specs.declared.program.Thread.{Thread}
use Rattle.mm_goto.specs.declared.model.Model.{Model}
use Rattle.mm_goto.specs.declared.model.Model.TheVariants.{Tso, Pso}
use Rattle.mm_goto.specs.Bounds.{Bounding}
use Rattle.mm_goto.specs.Listing.{Listing, unplaced, without_places}
use Rattle.mm_lexer.specs.declared.token.LexFault.{LexFault}
use Rattle.mm_lexer.specs.declared.token.Token.{Token}
use Rattle.mm_lexer.specs.Lexemes.{Spells}
use Rattle.mm_lexer.specs.Tokens.{AreTokens, IsFirstFault}
use Rattle.mm_lexer.proofs.Building.{anywhere, comment_on, include_on, newline_on}
use Rattle.mm_lexer.proofs.Characters.{is_ascii}
use Rattle.mm_lexer.proofs.Spans.{tokens_say, not_refused}
use Rattle.mm_lexer.proofs.Unique.{tokens_and_fault, tokens_unique}
use Rattle.mm_tree.specs.declared.item.Tree.{Tree}
use Rattle.mm_tree.specs.declared.side.Side.{Side}
use Rattle.mm_tree.specs.declared.side.Side.TheVariants.{Output}
use Rattle.mm_flow.specs.Programs.{program_of}
use Rattle.mm_small_code.specs.reading.Flattening.{AreCells}
use Rattle.mm_small_code.proofs.Equations.{by_the_equations}
use Rattle.mm_grammar.proofs.ProgramComplete.{one_program as one_tree}
use Rattle.mm_goto.specs.Names.{IsDeclarable}
use Rattle.std.proofs.lemmas.List.Elements.{recursion_from_All}
use Rattle.mm_parse_expr.specs.declared.symbol.Keyword.TheVariants as reserved
use Rattle.mm_parse_expr.specs.declared.symbol.Symbol.TheVariants as symbol
use Rattle.mm_parse_expr.specs.Symbols.{word_symbol}
use Rattle.mm_parse_expr.specs.Terminals.{terminal_of}
use Rattle.mm_print.specs.Meaning.{IsProgramOf}
use Rattle.mm_grammar.specs.Nesting.{deep_at}
use Rattle.mm_grammar.specs.ProgramGrammar as g
use Rattle.mm_grammar.specs.ProgramGrammar.{AreItems, IsProgram}
use Rattle.mm_print.specs.SmallListing.{IsSmallCell, IsSmallInstr, IsSmallListing}
use Rattle.mm_print.specs.SmallText.{name_in, cell_text, global_text, main_text, head_text, small_text, no_thread}
use Rattle.mm_print.specs.Woven.{woven, woven_main}
use Rattle.mm_print.proofs.SmallItems.{ItemsRead, Items, main_items, globals_items}
use Rattle.mm_print.proofs.Mains.{HasNames, AreSmall}
use Rattle.mm_print.proofs.Says.{Says, ascii_word, ascii_word_utf8, digits_all, ascii_says, newline_says, blank_says, semicolon_says, open_says, close_says}
use Rattle.mm_print.proofs.Signs.{Sign, AreSigns, named, keyword, lexeme, semicolon, open_mark, close_mark, places, skipped, laid, terminals_laid}

-- ---- the head

-- what stands in the comment of the head line, before the bound and in all
abbrev front : Model → List ℕ
front Tso = codes " goto-mm 1 tso "
front Pso = codes " goto-mm 1 pso "

comment_text : Model → Bounding → List ℕ
comment_text m bound = front m ++ (decimal bound ++ 32 ∷ [])

-- the head line and the include line, in front of the rest
lines_text : Model → Bounding → List ℕ → List ℕ
lines_text m bound text = 47 ∷ 42 ∷ (comment_text m bound ++ 42 ∷ 47 ∷ 10 ∷ 35 ∷ (codes "include <pthread.h>" ++ 10 ∷ text))

head_shape : (m : Model) (bound : Bounding) (text : List ℕ) → head_text m bound ++ text ≡ lines_text m bound (codes "int nondet_wm();\n" ++ text)
unfolding head_text lines_text comment_text
head_shape Tso bound text = simp append_assoc
head_shape Pso bound text = simp append_assoc

-- a test that the words, the blanks and the digits of the comment pass is passed by the whole of it
comment_all : (p : ℕ → Bool) → ((m : Model) → list_all p (front m ++ 32 ∷ []) ≡ true) → ((d : ℕ) → d < 10 → p (48 + d) ≡ true) → (m : Model) (bound : Bounding) → list_all p (comment_text m bound) ≡ true
unfolding comment_text
comment_all p words digit m bound =
    list_all-append p (front m) (decimal bound ++ 32 ∷ [])
    ∙ ap (λ b. list_all p (front m) && b) (list_all-append p (decimal bound) (32 ∷ []) ∙ ap (λ b. b && list_all p (32 ∷ [])) (digits_all p digit bound))
    ∙ sym (list_all-append p (front m) (32 ∷ [])) ∙ words m

words_no_star : (m : Model) → list_all (λ c. not (c == 42)) (front m ++ 32 ∷ []) ≡ true
words_no_star Tso = refl
words_no_star Pso = refl

words_ascii : (m : Model) → list_all is_ascii (front m ++ 32 ∷ []) ≡ true
words_ascii Tso = refl
words_ascii Pso = refl

digit_no_star : (d : ℕ) → d < 10 → not ((48 + d) == 42) ≡ true
digit_no_star d h = grind (arith, nat_tests)

digit_ascii : (d : ℕ) → d < 10 → is_ascii (48 + d) ≡ true
digit_ascii d h = grind (arith, nat_tests)

-- the lines are ASCII
lines_ascii : (m : Model) (bound : Bounding) → list_all is_ascii (lines_text m bound []) ≡ true
unfolding lines_text
lines_ascii m bound = list_all-append is_ascii (comment_text m bound) (42 ∷ 47 ∷ 10 ∷ 35 ∷ (codes "include <pthread.h>" ++ 10 ∷ [])) ∙ ap (λ b. b && list_all is_ascii (42 ∷ 47 ∷ 10 ∷ 35 ∷ (codes "include <pthread.h>" ++ 10 ∷ []))) (comment_all is_ascii words_ascii digit_ascii m bound)

lines_front : (m : Model) (bound : Bounding) (text : List ℕ) → lines_text m bound [] ++ text ≡ lines_text m bound text
unfolding lines_text
lines_front m bound text = simp append_assoc

-- the text is cut into these tokens, from its first line on
record Begins (text : List ℕ) (ss : List Sign) : Type 0 where
  utf8 : IsUtf8 text
  spells : Spells true (chars text) (map lexeme ss)
  signs : AreSigns ss

lines_spell : (m : Model) (bound : Bounding) {text : List ℕ} {ss : List Sign} → Says text ss → Spells true (lines_text m bound (chars text)) (map lexeme ss)
unfolding lines_text
lines_spell m bound {text = text} {ss = ss} s =
    comment_on true (comment_text m bound) _ (map lexeme ss) (comment_all (λ c. not (c == 42)) words_no_star digit_no_star m bound)
    (newline_on false _ (map lexeme ss) (include_on (codes "include <pthread.h>") (10 ∷ chars text) (map lexeme ss) refl refl refl (newline_on false (chars text) (map lexeme ss) (anywhere s.spells true))))

lines_begin : (m : Model) (bound : Bounding) {text : List ℕ} {ss : List Sign} → Says text ss → Begins (lines_text m bound text) ss
lines_begin m bound {text = text} {ss = ss} s = record {
  utf8 = subst IsUtf8 (lines_front m bound text) (ascii_word_utf8 (lines_text m bound []) text (lines_ascii m bound) s.utf8);
  spells = subst (λ cs. Spells true cs (map lexeme ss)) (sym (ap chars (sym (lines_front m bound text)) ∙ ascii_word (lines_text m bound []) text (lines_ascii m bound) ∙ lines_front m bound (chars text))) (lines_spell m bound s);
  signs = s.signs;
}

input_says : {text : List ℕ} {ss : List Sign} → Says text ss → Says (codes "int nondet_wm();\n" ++ text) (keyword reserved.Int (codes "int") ∷ named (codes "nondet_wm") ∷ open_mark ∷ close_mark ∷ semicolon ∷ ss)
unfolding word_symbol
input_says s =
    ascii_says (codes "int") (symbol.Keyword reserved.Int) refl refl refl (blank_says
    (ascii_says (codes "nondet_wm") symbol.Name refl refl refl (open_says (close_says (semicolon_says (newline_says s))))))

-- ---- the whole text

-- the text is a program with these cells, and main is the woven main
record Text (cells : List Cell) (main : Thread) (text : List ℕ) : Type 0 where
  signs : List Sign
  begins : Begins text signs
  shallow : (ps : List At) → deep_at Output (laid ps signs) ≡ None
  read : (ps : List At) → ItemsRead cells main cells (laid ps signs)

whole : {cells : List Cell} {main : Thread} {text : List ℕ} (m : Model) (bound : Bounding) → Items cells main text cells → Text cells main (head_text m bound ++ text)
whole {cells = cells} {main = main} {text = text} m bound s = record {
  signs = keyword reserved.Int (codes "int") ∷ named (codes "nondet_wm") ∷ open_mark ∷ close_mark ∷ semicolon ∷ s.signs;
  begins = subst (λ t. Begins t (keyword reserved.Int (codes "int") ∷ named (codes "nondet_wm") ∷ open_mark ∷ close_mark ∷ semicolon ∷ s.signs)) (sym (head_shape m bound text)) (lines_begin m bound (input_says s.says));
  shallow = λ ps. s.shallow (skipped 5 ps);
  read = λ ps. let r = s.read (skipped 5 ps) in record {
    items = _;
    parsed = g.more_items (g.input g.absent g.absent) r.parsed;
    at = r.at;
    body = r.body;
    declared = AreCells.input r.declared;
    thread = r.thread;
    flat = r.flat;
    code = r.code;
    locals = r.locals;
  };
}

-- what a text of this kind means
record Means (text : List ℕ) (p : Listing) : Type 0 where
  listing : Listing
  program : IsProgramOf Output text listing
  same : without_places listing ≡ woven p

main_listing : (p : Listing) (main : Thread) → p.mutexes ≡ [] → p.threads ≡ main ∷ [] → (t : Thread) → t.code ≡ (woven_main main).code → t.locals ≡ (woven_main main).locals → without_places (record { cells = p.cells; mutexes = []; threads = t ∷ [] }) ≡ woven p
main_listing p main none alone t code locals = λ i. record {
  cells = p.cells;
  mutexes = sym none i;
  threads = (ap (λ u. u ∷ []) thread ∙ ap (map woven_main) (sym alone)) i;
}
  where
    thread : unplaced t ≡ woven_main main
    thread = λ i. record { locals = locals i; code = code i; places = [] }

means_of : (p : Listing) (main : Thread) (text : List ℕ) → length p.cells < 2 ^ 32 → p.mutexes ≡ [] → p.threads ≡ main ∷ [] → Text p.cells main text → Means text p
means_of p main text few none alone s = by (tokens_and_fault text)
  where
    terminals : (ts : List Token) → AreTokens text ts → map (terminal_of text) ts ≡ laid (places ts) s.signs
    terminals ts a = terminals_laid text ts s.signs (tokens_say text (map lexeme s.signs) ts s.begins.utf8 s.begins.spells a) s.begins.signs

    of_tokens : (ts : List Token) → AreTokens text ts → Means text p
    of_tokens ts a =
        let r = s.read (places ts) in
        let e = terminals ts a in
        let tree : Tree = record { items = r.items } in
        record {
          listing = record { cells = p.cells; mutexes = []; threads = r.thread ∷ [] };
          program = record {
            tree = tree;
            read = record {
              tokens = ts;
              cut = a;
              shallow = ap (deep_at Output) e ∙ s.shallow (places ts);
              parsed = subst (λ us. AreItems us r.items []) (sym e) r.parsed;
            };
            flat = by_the_equations Output tree _ (record { at = r.at; body = r.body; thread = r.thread; cells = r.declared; few = few; mutexes = refl; main = r.flat; threads = refl });
          };
          same = main_listing p main none alone r.thread r.code r.locals;
        }

    by : ((ts : List Token) × AreTokens text ts) ⊎ ((f : LexFault) × IsFirstFault text f) → Means text p
    by (inl (ts, a)) = of_tokens ts a
    by (inr (f, e)) = absurd (not_refused text (map lexeme s.signs) f s.begins.utf8 s.begins.spells e)

-- ---- small programs

cell_at : (cells : List Cell) (c : ℕ) → c < length cells → (cell : Cell) × (slice_get cells c ≡ Some cell)
cell_at [] c h = absurd (omega arith)
cell_at (x ∷ cells) zero h = (x, refl)
cell_at (x ∷ cells) (suc c) h = cell_at cells c (omega arith)

small_at : (cells : List Cell) (c : ℕ) (cell : Cell) → AllByRecursion IsSmallCell cells → slice_get cells c ≡ Some cell → IsSmallCell cell
small_at [] c cell s e = absurd (cc)
small_at (x ∷ cells) zero cell s e = let same : x ≡ cell = cc in subst IsSmallCell same s.0
small_at (x ∷ cells) (suc c) cell s e = small_at cells c cell s.1 e

small_names : (cells : List Cell) → AllByRecursion IsSmallCell cells → ((c d : ℕ) (a b : Cell) → slice_get cells c ≡ Some a → slice_get cells d ≡ Some b → a.name ≡ b.name → c ≡ d) → HasNames cells
small_names cells small apart c h = (record { cell = found.0; there = found.1; name = sym text; alone = λ d b e same. apart d c b found.0 e found.1 (same ∙ text) }, subst IsDeclarable (sym text) (small_at cells c found.0 small found.1).name)
  where
    found : (cell : Cell) × (slice_get cells c ≡ Some cell)
    found = cell_at cells c h

    text : cell_text cells c ≡ found.0.name
    text = ap name_in found.1

small_code : (cells : List Cell) (main : Thread) (body : List Instr) → AllByRecursion (IsSmallInstr cells main) body → AreSmall cells main (body ++ instr.End ∷ [])
small_code cells main [] h = (inr refl, tt)
small_code cells main (i ∷ is) h = (inl h.0, small_code cells main is h.1)

means : (p : Listing) (m : Model) (bound : Bounding) → IsSmallListing p → Means (small_text p m bound) p
means p m bound s =
    let cells = recursion_from_All IsSmallCell p.cells s.cells in
    let small : AreSmall p.cells s.main s.main.code = subst (AreSmall p.cells s.main) (sym s.code) (small_code p.cells s.main s.body (recursion_from_All (IsSmallInstr p.cells s.main) s.body s.instrs)) in
    let items = globals_items p.cells s.main p.cells cells (main_items p.cells s.main (omega (arith, s.few_locals)) (omega (arith, s.few_lines)) (small_names p.cells cells s.apart) small) in
    let text : head_text m bound ++ (flat_map global_text p.cells ++ main_text p.cells s.main) ≡ small_text p m bound =
    sym (append_assoc (head_text m bound) (flat_map global_text p.cells) (main_text p.cells s.main)) ∙ ap (λ ts. head_text m bound ++ flat_map global_text p.cells ++ main_text p.cells (slice_index_or ts 0 no_thread)) (sym s.alone) in
    means_of p s.main (small_text p m bound) s.few_cells s.mutexes s.alone (subst (Text p.cells s.main) text (whole m bound items))

pub accepted : (p : Listing) (m : Model) (bound : Bounding) → IsSmallListing p → (q : Listing) × IsProgramOf Output (small_text p m bound) q
accepted p m bound s = let means = means p m bound s in (means.listing, means.program)

-- ---- a text has one program

pub one_program : (side : Side) (text : List ℕ) (p q : Listing) → IsProgramOf side text p → IsProgramOf side text q → p ≡ q
one_program side text p q a b =
    let tokens = tokens_unique text b.read.tokens a.read.tokens b.read.cut a.read.cut in
    let parsed : IsProgram (map (terminal_of text) a.read.tokens) b.tree = subst (λ ts. IsProgram (map (terminal_of text) ts) b.tree) tokens b.read.parsed in
    let tree = one_tree (map (terminal_of text) a.read.tokens) b.tree a.tree parsed a.read.parsed in
    a.flat ∙ ap (program_of side) (sym tree) ∙ sym b.flat

pub woven_text : (p q : Listing) (m : Model) (bound : Bounding) → IsSmallListing p → IsProgramOf Output (small_text p m bound) q → without_places q ≡ woven p
woven_text p q m bound s d = let means = means p m bound s in ap without_places (one_program Output (small_text p m bound) q means.listing d means.program) ∙ means.same
