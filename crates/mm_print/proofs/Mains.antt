-- How the lines of main are read, one after another.
use Rattle.std.proofs.Common.{◌≡◌, ℕ, zero, suc, ◌+◌, ◌≤◌, ◌<◌, ◌^◌, ◌⊎◌, inl, inr, List, [], ◌∷◌, ◌++◌, length, map, Some, refl, sym, ◌∙◌, ap, subst, arith, append_assoc, length-append}
use Rattle.std.specs.Prelude.{codes, sum_by}
use Rattle.std.specs.List.{range_with_len}
use Rattle.std.proofs.lemmas.List.Sums.{sum_by-cons}
use Rattle.std.proofs.lemmas.List.FromFn.{map-range_with_len_more}
use Rattle.mm_goto.specs.declared.program.Cell.{Cell}
use Rattle.mm_goto.specs.declared.program.Instr.{Instr}
use Rattle.mm_goto.specs.declared.program.Instr.TheVariants as instr
use Rattle.mm_goto.specs.declared.program.Thread.{Thread}
use Rattle.mm_goto.specs.Names.{IsDeclarable}
use Rattle.mm_small_code.specs.reading.Flattening.{placed, Named, number_of, Known, nothing_known, with_local, AreDeclared, IsCode, AreCode}
use Rattle.mm_small_code.specs.reading.Flattening as flat
use Rattle.mm_parse_expr.specs.declared.symbol.Keyword.TheVariants as reserved
use Rattle.mm_parse_expr.specs.declared.symbol.Symbol.TheVariants as symbol
use Rattle.mm_parse_expr.specs.Symbols.{word_symbol}
use Rattle.mm_grammar.specs.StatementGrammar as g
use Rattle.mm_print.specs.SmallListing.{IsSmallInstr}
use Rattle.mm_print.specs.SmallText.{local_text, label_text, cell_text, line_text, code_text, declaration_text, locals_text}
use Rattle.mm_print.specs.Woven.{fresh, size, place_of, end_of, statement, statements, declaration}
use Rattle.mm_print.proofs.Bodies.{labels_of, state, Rest, end_rest}
use Rattle.mm_print.proofs.Lookup.{declared, labelled, label_found, HasPlace}
use Rattle.mm_print.proofs.Operands.{local_says}
use Rattle.mm_print.proofs.Says.{Says, ascii_says, blank_says, newline_says, semicolon_says}
use Rattle.mm_print.proofs.Signs.{Sign, named, keyword, semicolon, place, skipped}
use Rattle.mm_print.proofs.SmallStatements.{load_rest, store_rest, assert_rest, jump_rest, return_rest}

-- ---- the statements

size_is : (main : Thread) (t : ℕ) (i : Instr) → length (statement main t i) ≡ size i
size_is main t (instr.Load l target) = refl
size_is main t i = refl

pub statements_size : (main : Thread) (t : ℕ) (is : List Instr) → length (statements main t is) ≡ sum_by size is
statements_size main t [] = refl
statements_size main t (i ∷ is) = length-append (statement main t i) (statements main (t + fresh i) is) ∙ omega (arith, size_is main t i, statements_size main (t + fresh i) is, sum_by-cons size i is)

-- the name of each cell may be declared, and is that of no other
abbrev pub HasNames : List Cell → Type 0
HasNames cells = (c : ℕ) → c < length cells → HasPlace cells (cell_text cells c) c × IsDeclarable (cell_text cells c)

-- each is an instruction of a small program, or the end
abbrev pub AreSmall : List Cell → Thread → List Instr → Type 0
AreSmall cells main [] = Unit {0}
AreSmall cells main (i ∷ is) = (IsSmallInstr cells main i ⊎ (i ≡ instr.End)) × AreSmall cells main is

-- what is behind a statement, from number k + 1 on
abbrev Behind : List Cell → Thread → ℕ → ℕ → ℕ → List Named → Instr → List Instr → Type 0
Behind cells main k m t ls i is = (a : ℕ) → Rest cells main (code_text cells (k + 1) is ++ codes "}\n") (state main (t + fresh i) a (flat.numbered (label_text k) m ∷ ls)) (statements main (t + fresh i) is ++ instr.End ∷ [])

module _ (cells : List Cell) (main : Thread) (few : main.locals ≤ 2 ^ 32) (lines : length main.code ≤ 2 ^ 32) (names : HasNames cells) where
  jump_found : (j : ℕ) → j < length main.code → number_of (labels_of main) (label_text j) ≡ Some (place_of main j)
  jump_found j h = ap (λ i. number_of (labels_of main) (label_text i)) {x = j} {y = 0 + j} (omega arith) ∙ label_found j 0 main.locals main.code [] h (omega arith)

  -- the line of an instruction is read, where all behind it is
  Goes : ℕ → ℕ → ℕ → ℕ → List Named → List Instr → Instr → Type 0
  Goes k m t a ls is i = m + (size i + length (statements main (t + fresh i) is ++ instr.End ∷ [])) ≡ end_of main + 1 → Behind cells main k m t ls i is → Rest cells main (line_text cells k i ++ (code_text cells (k + 1) is ++ codes "}\n")) (state main t a ls) (statements main t (i ∷ is) ++ instr.End ∷ [])

  moved : {t u a : ℕ} {ls : List Named} {text : List ℕ} {instrs : List Instr} → t ≡ u → Rest cells main text (state main t a ls) instrs → Rest cells main text (state main u a ls) instrs
  moved {a = a} {ls = ls} {text = text} {instrs = instrs} e s = subst (λ n. Rest cells main text (state main n a ls) instrs) e s

  end_line : (is : List Instr) (k m t a : ℕ) (ls : List Named) → Goes k m t a ls is instr.End
  unfolding Goes
  end_line is k m t a ls there s = return_rest cells main few k m t a ls there (moved (omega arith) (s a))

  small_line : {i : Instr} → IsSmallInstr cells main i → (is : List Instr) (k m t a : ℕ) (ls : List Named) → Goes k m t a ls is i
  unfolding Goes
  small_line (IsSmallInstr.load l c h g) is k m t a ls there s = let n = names c g in load_rest cells main few k m t a l c ls there h n.0 n.1 (s a)
  small_line (IsSmallInstr.store c e g d) is k m t a ls there s = let n = names c g in store_rest cells main few k m t a c d ls there n.0 n.1 (moved (omega arith) (s a))
  small_line (IsSmallInstr.assert e n h d) is k m t a ls there s = assert_rest cells main few k m t a n h d ls there (moved (omega arith) (s (a + 1)))
  small_line (IsSmallInstr.jump j h) is k m t a ls there s = jump_rest cells main few k m t a j (place_of main j) ls there (jump_found j h) (moved (omega arith) (s a))

  line_rest : (i : Instr) (is : List Instr) (k m t a : ℕ) (ls : List Named) → IsSmallInstr cells main i ⊎ (i ≡ instr.End) → Goes k m t a ls is i
  line_rest i is k m t a ls (inl h) = small_line h is k m t a ls
  line_rest i is k m t a ls (inr e) = subst (Goes k m t a ls is) (sym e) (end_line is k m t a ls)

  pub code_rest : (is : List Instr) (k m t a : ℕ) (ls : List Named) → AreSmall cells main is → m + sum_by size is ≡ end_of main → t + sum_by fresh is ≡ main.locals + sum_by fresh main.code → labelled k m is ls ≡ labels_of main → Rest cells main (code_text cells k is ++ codes "}\n") (state main t a ls) (statements main t is ++ instr.End ∷ [])
  unfolding Goes
  code_rest [] k m t a ls small size_left fresh_left labels = end_rest cells main (state main t a ls) labels (omega (arith, fresh_left))
  code_rest (i ∷ is) k m t a ls small size_left fresh_left labels =
      subst (λ text. Rest cells main text (state main t a ls) (statements main t (i ∷ is) ++ instr.End ∷ [])) (sym (append_assoc (line_text cells k i) (code_text cells (k + 1) is) (codes "}\n")))
      (line_rest i is k m t a ls small.0
      (omega (arith, size_left, sum_by-cons size i is, statements_size main (t + fresh i) is, length-append (statements main (t + fresh i) is) (instr.End ∷ [])))
      (λ b. code_rest is (k + 1) (m + size i) (t + fresh i) b (flat.numbered (label_text k) m ∷ ls) small.1 (omega (arith, size_left, sum_by-cons size i is)) (omega (arith, fresh_left, sum_by-cons fresh i is)) labels))

-- ---- the declarations

-- what is known behind the declarations of n locals
abbrev pub begun : ℕ → Known
begun n = record { locals = declared n; next = n; asserts = 0; labels = [] }

declaration_says : (n : ℕ) {text : List ℕ} {ss : List Sign} → Says text ss → Says (declaration_text n ++ text) (keyword reserved.Int (codes "int") ∷ named (local_text n) ∷ semicolon ∷ ss)
unfolding word_symbol
declaration_says n {text = text} {ss = ss} s =
    subst (λ t. Says t (keyword reserved.Int (codes "int") ∷ named (local_text n) ∷ semicolon ∷ ss)) (sym (shape (local_text n)))
    (blank_says (blank_says (ascii_says (codes "int") (symbol.Keyword reserved.Int) refl refl refl (blank_says (local_says n refl (semicolon_says (newline_says s)))))))
  where
    shape : (x : List ℕ) → codes "  int " ++ x ++ codes ";\n" ++ text ≡ 32 ∷ 32 ∷ (codes "int" ++ 32 ∷ (x ++ 59 ∷ 10 ∷ text))
    shape x = simp append_assoc

module _ (cells : List Cell) (main : Thread) where
  declaration_rest : (n : ℕ) {text : List ℕ} {instrs : List Instr} → Rest cells main text (with_local (begun n) (local_text n)) instrs → Rest cells main (declaration_text n ++ text) (begun n) (declaration n ∷ instrs)
  declaration_rest n {text = text} {instrs = instrs} s = record {
    signs = keyword reserved.Int (codes "int") ∷ named (local_text n) ∷ semicolon ∷ s.signs;
    says = declaration_says n s.says;
    shallow = λ ps. s.shallow (skipped 3 ps);
    read = λ ps at. let r = s.read (skipped 3 ps) at in record {
      statements = _;
      parsed = g.declaration (g.ints (g.last_local (g.bare_local g.no_star))) r.parsed;
      code = placed (place 1 ps) (declaration n) ∷ r.code;
      same = ap (λ is. declaration n ∷ is) r.same;
      last = r.last;
      labels = r.labels;
      next = r.next;
      flat = λ all h. AreCode.more (IsCode.declare (AreDeclared.bare AreDeclared.none)) (r.flat all h);
    };
  }

  pub locals_rest : (n : ℕ) {text : List ℕ} {instrs : List Instr} → Rest cells main text (begun n) instrs → Rest cells main (locals_text n ++ text) nothing_known (map declaration (range_with_len 0 n) ++ instrs)
  locals_rest zero s = s
  locals_rest (suc n) {text = text} {instrs = instrs} s =
      let more : map declaration (range_with_len 0 (suc n)) ≡ map declaration (range_with_len 0 n) ++ declaration n ∷ [] = ap (λ k. map declaration (range_with_len 0 k)) {x = suc n} {y = n + 1} (omega arith) ∙ map-range_with_len_more declaration 0 n n (omega arith) in
      let known : begun (suc n) ≡ with_local (begun n) (local_text n) = ap (λ k. record (begun (suc n)) { next = k }) (omega arith) in
      let one = declaration_rest n (subst (λ k. Rest cells main text k instrs) known s) in
      let all = locals_rest n one in
      subst (λ is. Rest cells main (locals_text n ++ declaration_text n ++ text) nothing_known is) (sym (append_assoc (map declaration (range_with_len 0 n)) (declaration n ∷ []) instrs) ∙ ap (λ is. is ++ instrs) (sym more))
      (subst (λ t. Rest cells main t nothing_known (map declaration (range_with_len 0 n) ++ declaration n ∷ instrs)) (sym (append_assoc (locals_text n) (declaration_text n) text)) all)
