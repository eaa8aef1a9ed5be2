-- The pieces of a printable item are tokens, and are read xs the item.
use Rattle.std.proofs.Common.{◌≡◌, ℕ, suc, ℤ, pos, negsuc, ◌<◌, ◌^◌, Bool, true, false, List, [], ◌∷◌, ◌++◌, map, Option, Some, None, refl, sym, ◌∙◌, ap, subst, append_assoc, arith}
use Rattle.std.specs.Int.{w32, int_wrapping_neg}
use Rattle.std.proofs.lemmas.Int.{wrapping_neg_is, int_wrap_fits}
use Rattle.std.specs.List.{AllByRecursion as ByRecursion}
use Rattle.mm_goto.specs.declared.ident.At.{At}
use Rattle.mm_tree.specs.declared.expr.Expr.{Expr}
use Rattle.mm_tree.specs.declared.expr.Node.TheVariants as node
use Rattle.mm_tree.specs.declared.expr.Word.{Word}
use Rattle.mm_tree.specs.declared.item.Gives.{Gives}
use Rattle.mm_tree.specs.declared.item.Gives.TheVariants as gives
use Rattle.mm_tree.specs.declared.item.Global.{Global}
use Rattle.mm_tree.specs.declared.item.Item.{Item}
use Rattle.mm_tree.specs.declared.item.Item.TheVariants as item
use Rattle.mm_tree.specs.declared.item.Param.{Param}
use Rattle.mm_tree.specs.declared.stmt.Stmt.{Stmt}
use Rattle.mm_tree.specs.Trees.{expr as tree, word, global, param}
use Rattle.mm_tree.specs.Places.{bare_expr, bare_stmt, bare_global, bare_param, bare_word, bare_item, nowhere}
use Rattle.mm_parse_expr.specs.declared.symbol.Keyword.TheVariants as keyword
use Rattle.mm_parse_expr.specs.declared.symbol.Symbol.TheVariants as symbol
use Rattle.mm_parse_expr.specs.declared.terminal.Terminal.{Terminal}
use Rattle.mm_parse_expr.specs.Grammar.{terminal}
use Rattle.mm_grammar.specs.StatementGrammar as s
use Rattle.mm_grammar.specs.StatementGrammar.{IsStar}
use Rattle.mm_grammar.specs.ProgramGrammar as g
use Rattle.mm_grammar.specs.ProgramGrammar.{IsConst, AreConsts, IsInit, IsGlobal, AreGlobals, IsMutex, AreMutexes, IsParam, AreParams, IsParams, IsThreadParams, IsItem, AreItems}
use Rattle.mm_print.specs.Pieces.{Piece, commas, subscript, spaced, semicolon}
use Rattle.mm_print.specs.Expressions.{Written, written, expr_pieces, number_pieces, address}
use Rattle.mm_print.specs.Statements.{star, name_pieces, lines, braces, layout}
use Rattle.mm_print.specs.Items.{init_pieces, global_pieces, mutex_pieces, gives_pieces, param_pieces, params_pieces, item_pieces, items_pieces}
use Rattle.mm_print.specs.Printable.{OneOrMore, IsPrintableName, IsPrintableWord, IsPrintableBody, IsPrintableNumber, IsPrintableConst, IsPrintableInit, IsPrintableGlobal, IsPrintableParam, IsOrdinary, IsPrintableItem}
use Rattle.mm_print.proofs.Signs.{laid, behind as past}
use Rattle.mm_print.proofs.Spelling.{Fit, signs}
use Rattle.mm_print.proofs.Reading.{Read, Reads, Commas, behind, commas_read, cons_same}
use Rattle.mm_print.proofs.ExpressionForms.{written_number, written_null, written_address, written_element_address, bare_at, bare_address, bare_element_address}
use Rattle.mm_print.proofs.PartReads.{star_fit, star_read, names_read}
use Rattle.mm_print.proofs.BodyReads.{body_reads, closed}

-- ---- initialisers

pieces_of : (e : Expr) {w : Written} → written e ≡ w → expr_pieces e ≡ w.pieces
pieces_of i e = ap (λ (w : Written). w.pieces) e

negative : (n : ℕ) → suc n < 2 ^ 31 → int_wrapping_neg w32 (pos (suc n)) ≡ negsuc n
negative n h = wrapping_neg_is w32 (pos (suc n)) (record { sfits = omega (arith, h) }) ∙ int_wrap_fits w32 (negsuc n) (record { sfits = omega (arith, h) })

const_reads : {e : Expr} → IsPrintableConst e → Reads bare_expr IsConst e (expr_pieces e)
const_reads (IsPrintableConst.number (IsPrintableNumber.number {at = at} {n = n} h)) = subst (Reads bare_expr IsConst (tree at (node.Number (pos n)))) (sym (pieces_of _ (written_number at (pos n)))) (record {
  fit = λ rest k f. (h, k, f);
  read = λ ps rest. record { tree = _; left = past ps; parsed = g.number; same = bare_at _ at (node.Number (pos n)) };
})
const_reads (IsPrintableConst.negated {at = at} {n = n} h) = subst (Reads bare_expr IsConst (tree at (node.Number (negsuc n)))) (sym (pieces_of _ (written_number at (negsuc n)))) (record {
  fit = λ rest k f. (tt, refl, (h, k, f));
  read = λ ps rest. record { tree = _; left = past (past ps); parsed = g.negated; same = bare_at _ at (node.Number (int_wrapping_neg w32 (pos (suc n)))) ∙ ap (λ z. bare_expr (tree at (node.Number z))) (negative n h) };
})

consts_listed : Commas IsConst AreConsts
consts_listed = record { last = λ d. g.last_const d; more = λ d ds. g.more_consts d ds }

consts_read : {es : List Expr} → OneOrMore IsPrintableConst es → Reads (map bare_expr) AreConsts es (commas (map expr_pieces es))
consts_read h = commas_read bare_expr IsConst AreConsts expr_pieces IsPrintableConst consts_listed (λ e i. const_reads i) h

init_reads : {e : Expr} → IsPrintableInit e → Reads bare_expr IsInit e (expr_pieces e)
init_reads (IsPrintableInit.constant i) =
    let r = const_reads i in
    record { fit = r.fit; read = λ ps rest. let t = r.read ps rest in record { tree = t.tree; left = t.left; parsed = g.constant t.parsed; same = t.same } }
init_reads (IsPrintableInit.null {at = at}) = subst (Reads bare_expr IsInit (tree at node.Null)) (sym (pieces_of _ (written_null at))) (record {
  fit = λ rest k f. (tt, k, f);
  read = λ ps rest. record { tree = _; left = past ps; parsed = g.null; same = bare_at _ at node.Null };
})
init_reads (IsPrintableInit.address {at = at} {p = p} {x = x} h) = subst (Reads bare_expr IsInit (tree at (node.AddrName (word p x)))) (sym (pieces_of _ (written_address at p x))) (record {
  fit = λ rest k f. (tt, refl, (h, k, f));
  read = λ ps rest. record { tree = _; left = past (past ps); parsed = g.address; same = bare_address _ _ at p x };
})
init_reads (IsPrintableInit.element_address {at = at} {p = p} {x = x} h (IsPrintableNumber.number {at = q} {n = n} i)) = subst (Reads bare_expr IsInit (tree at (node.AddrIndex (word p x) (tree q (node.Number (pos n)))))) (sym (pieces_of _ (written_element_address at p x (tree q (node.Number (pos n)))) ∙ ap (λ (w : Written). address x ++ subscript w.pieces) (written_number q (pos n)))) (record {
  fit = λ rest k f. (tt, refl, (h, refl, (tt, refl, (i, refl, (tt, refl, f)))));
  read = λ ps rest. record { tree = _; left = past (past (past (past (past ps)))); parsed = g.element_address; same = bare_element_address _ _ at p x _ (tree q (node.Number (pos n))) (bare_at _ q (node.Number (pos n))) };
})

-- ---- globals

same_global : (b : Bool) (x : List ℕ) (len : Option ℤ) (es fs : List Expr) (p q : At) → map bare_expr es ≡ map bare_expr fs → bare_global (global p b x len es) ≡ bare_global (global q b x len fs)
same_global b x len es fs p q e = ap (λ ts. global nowhere b x len ts) e

variable_front : (b : Bool) (x : List ℕ) (us rest : List Piece) → star b ++ (Piece.name x ∷ (us ++ rest)) ≡ (star b ++ Piece.name x ∷ us) ++ rest
variable_front b x us rest = sym (append_assoc (star b) (Piece.name x ∷ us) rest)

set_front : (x : List ℕ) (n : ℕ) (cs rest : List Piece) → Piece.name x ∷ Piece.mark symbol.OpenBracket ∷ Piece.number n ∷ Piece.mark symbol.CloseBracket ∷ spaced symbol.Assign (Piece.mark symbol.OpenBrace ∷ (cs ++ (Piece.mark symbol.CloseBrace ∷ rest))) ≡ (Piece.name x ∷ subscript (number_pieces (pos n)) ++ spaced symbol.Assign (Piece.mark symbol.OpenBrace ∷ cs ++ Piece.mark symbol.CloseBrace ∷ [])) ++ rest
set_front x n cs rest = simp append_assoc

set_array_reads : (at : At) (x : List ℕ) (n : ℕ) {es : List Expr} → IsPrintableName x → n < 2 ^ 31 → OneOrMore IsPrintableConst es → init_pieces (Some (pos n)) es ≡ spaced symbol.Assign (Piece.mark symbol.OpenBrace ∷ commas (map expr_pieces es) ++ Piece.mark symbol.CloseBrace ∷ []) → Reads bare_global IsGlobal (global at false x (Some (pos n)) es) (global_pieces (global at false x (Some (pos n)) es))
set_array_reads at x n {es = es} h i c e = subst (λ us. Reads bare_global IsGlobal (global at false x (Some (pos n)) es) (Piece.name x ∷ subscript (number_pieces (pos n)) ++ us)) (sym e) (record {
  fit = λ rest k f. subst Fit (set_front x n (commas (map expr_pieces es)) rest) (h, refl, (tt, refl, (i, refl, (tt, refl, (tt, refl, (tt, refl, (tt, refl, (tt, refl, (consts_read c).fit (Piece.mark symbol.CloseBrace ∷ rest) refl (tt, refl, f)))))))));
  read = λ ps rest. subst (λ us. Read bare_global IsGlobal ps us rest (global at false x (Some (pos n)) es)) (set_front x n (commas (map expr_pieces es)) rest)
      (let r = (consts_read c).read (past (past (past (past (past (past ps)))))) (Piece.mark symbol.CloseBrace ∷ rest) in
      record { tree = _; left = past r.left; parsed = g.set_array r.parsed; same = same_global false x (Some (pos n)) r.tree es nowhere at r.same });
})

global_reads : {v : Global} → IsPrintableGlobal v → Reads bare_global IsGlobal v (global_pieces v)
global_reads (IsPrintableGlobal.variable {at = at} {pointer = b} {x = x} h) = record {
  fit = λ rest k f. subst Fit (variable_front b x [] rest) (star_fit b x rest (h, k, f));
  read = λ ps rest. subst (λ us. Read bare_global IsGlobal ps us rest (global at b x None [])) (variable_front b x [] rest)
      (let t = star_read b ps (Piece.name x ∷ rest) in record { tree = _; left = past t.0; parsed = g.variable t.1; same = refl });
}
global_reads (IsPrintableGlobal.set_variable {at = at} {pointer = b} {x = x} {e = e} h i) = record {
  fit = λ rest k f. subst Fit (variable_front b x (spaced symbol.Assign (expr_pieces e)) rest) (star_fit b x (spaced symbol.Assign (expr_pieces e ++ rest)) (h, refl, (tt, refl, (tt, refl, (tt, refl, (init_reads i).fit rest k f)))));
  read = λ ps rest. subst (λ us. Read bare_global IsGlobal ps us rest (global at b x None (e ∷ []))) (variable_front b x (spaced symbol.Assign (expr_pieces e)) rest)
      (let t = star_read b ps (Piece.name x ∷ spaced symbol.Assign (expr_pieces e ++ rest)) in
      let r = (init_reads i).read (past (past t.0)) rest in
      record { tree = _; left = r.left; parsed = g.set_variable t.1 r.parsed; same = same_global b x None (r.tree ∷ []) (e ∷ []) nowhere at (cons_same bare_expr r.tree e [] [] r.same refl) });
}
global_reads (IsPrintableGlobal.array {at = at} {x = x} {n = n} h i) = record {
  fit = λ rest k f. (h, refl, (tt, refl, (i, refl, (tt, refl, f))));
  read = λ ps rest. record { tree = _; left = past (past (past (past ps))); parsed = g.array; same = refl };
}
global_reads (IsPrintableGlobal.set_array {at = at} {x = x} {n = n} h i (OneOrMore.last c)) = set_array_reads at x n h i (OneOrMore.last c) refl
global_reads (IsPrintableGlobal.set_array {at = at} {x = x} {n = n} h i (OneOrMore.more c cs)) = set_array_reads at x n h i (OneOrMore.more c cs) refl

globals_listed : Commas IsGlobal AreGlobals
globals_listed = record { last = λ d. g.last_global d; more = λ d ds. g.more_globals d ds }

globals_read : {gs : List Global} → OneOrMore IsPrintableGlobal gs → Reads (map bare_global) AreGlobals gs (commas (map global_pieces gs))
globals_read h = commas_read bare_global IsGlobal AreGlobals global_pieces IsPrintableGlobal globals_listed (λ v i. global_reads i) h

mutex_reads : (w : Word) → IsPrintableWord w → Reads bare_word IsMutex w (mutex_pieces w)
mutex_reads w h = record {
  fit = λ rest k f. (h, refl, (tt, refl, (tt, refl, (tt, refl, (tt, k, f)))));
  read = λ ps rest. record { tree = _; left = past (past (past ps)); parsed = g.set_mutex; same = refl };
}

mutexes_listed : Commas IsMutex AreMutexes
mutexes_listed = record { last = λ d. g.last_mutex d; more = λ d ds. g.more_mutexes d ds }

mutexes_read : {ws : List Word} → OneOrMore IsPrintableWord ws → Reads (map bare_word) AreMutexes ws (commas (map mutex_pieces ws))
mutexes_read h = commas_read bare_word IsMutex AreMutexes mutex_pieces IsPrintableWord mutexes_listed mutex_reads h

-- ---- parameters

param_reads : (a : Param) → IsPrintableParam a → Reads bare_param IsParam a (param_pieces gives.Int a)
param_reads a h = record {
  fit = λ rest k f. (tt, refl, (tt, refl, subst Fit (variable_front a.pointer a.name.name [] rest) (star_fit a.pointer a.name.name rest (h, k, f))));
  read = λ ps rest. subst (λ us. Read bare_param IsParam ps (Piece.word keyword.Int ∷ Piece.blank ∷ us) rest a) (variable_front a.pointer a.name.name [] rest)
      (let t = star_read a.pointer (past ps) (Piece.name a.name.name ∷ rest) in record { tree = _; left = past t.0; parsed = g.one_param t.1; same = refl });
}

params_listed : Commas IsParam AreParams
params_listed = record { last = λ d. g.last_param d; more = λ d ds. g.more_params d ds }

params_read : {xs : List Param} → OneOrMore IsPrintableParam xs → Reads (map bare_param) AreParams xs (commas (map (param_pieces gives.Int) xs))
params_read h = commas_read bare_param IsParam AreParams (param_pieces gives.Int) IsPrintableParam params_listed param_reads h

-- ---- declarations

semi_front : (us rest : List Piece) → us ++ (Piece.mark symbol.Semicolon ∷ rest) ≡ (us ++ semicolon) ++ rest
semi_front us rest = behind us rest symbol.Semicolon

-- in front of any others these pieces are tokens, and are read xs the item
record ItemReads (i : Item) : Type 0 where
  fit : (rest : List Piece) → Fit rest → Fit (item_pieces i ++ rest)
  read : (ps : List At) (rest : List Piece) → Read bare_item IsItem ps (item_pieces i ++ rest) rest i

globals_item : {gs : List Global} → OneOrMore IsPrintableGlobal gs → ItemReads (item.Globals gs)
globals_item {gs = gs} h = record {
  fit = λ rest f. subst (λ us. Fit (Piece.word keyword.Int ∷ Piece.blank ∷ us)) (semi_front (commas (map global_pieces gs)) rest) (tt, refl, (tt, refl, (globals_read h).fit (Piece.mark symbol.Semicolon ∷ rest) refl (tt, refl, f)));
  read = λ ps rest. subst (λ us. Read bare_item IsItem ps (Piece.word keyword.Int ∷ Piece.blank ∷ us) rest (item.Globals gs)) (semi_front (commas (map global_pieces gs)) rest)
      (let r = (globals_read h).read (past ps) (Piece.mark symbol.Semicolon ∷ rest) in record { tree = _; left = past r.left; parsed = g.globals g.no_quals r.parsed; same = ap (λ us. item.Globals us) r.same });
}

mutexes_item : {ws : List Word} → OneOrMore IsPrintableWord ws → ItemReads (item.Mutexes ws)
mutexes_item {ws = ws} h = record {
  fit = λ rest f. subst (λ us. Fit (Piece.word keyword.Mutex ∷ Piece.blank ∷ us)) (semi_front (commas (map mutex_pieces ws)) rest) (tt, refl, (tt, refl, (mutexes_read h).fit (Piece.mark symbol.Semicolon ∷ rest) refl (tt, refl, f)));
  read = λ ps rest. subst (λ us. Read bare_item IsItem ps (Piece.word keyword.Mutex ∷ Piece.blank ∷ us) rest (item.Mutexes ws)) (semi_front (commas (map mutex_pieces ws)) rest)
      (let r = (mutexes_read h).read (past ps) (Piece.mark symbol.Semicolon ∷ rest) in record { tree = _; left = past r.left; parsed = g.mutexes g.no_quals r.parsed; same = ap (λ us. item.Mutexes us) r.same });
}

threads_item : {ws : List Word} → OneOrMore IsPrintableWord ws → ItemReads (item.Threads ws)
threads_item {ws = ws} h = record {
  fit = λ rest f. subst (λ us. Fit (Piece.word keyword.Thread ∷ Piece.blank ∷ us)) (semi_front (commas (map name_pieces ws)) rest) (tt, refl, (tt, refl, (names_read h).fit (Piece.mark symbol.Semicolon ∷ rest) refl (tt, refl, f)));
  read = λ ps rest. subst (λ us. Read bare_item IsItem ps (Piece.word keyword.Thread ∷ Piece.blank ∷ us) rest (item.Threads ws)) (semi_front (commas (map name_pieces ws)) rest)
      (let r = (names_read h).read (past ps) (Piece.mark symbol.Semicolon ∷ rest) in record { tree = _; left = past r.left; parsed = g.threads g.no_quals r.parsed; same = ap (λ us. item.Threads us) r.same });
}

input_item : (at : At) (x : List ℕ) → IsPrintableName x → ItemReads (item.InputDecl at x)
input_item at x h = record {
  fit = λ rest f. (tt, refl, (tt, refl, (h, refl, (tt, refl, (tt, refl, (tt, refl, f))))));
  read = λ ps rest. record { tree = _; left = past (past (past (past (past ps)))); parsed = g.input g.absent g.absent; same = refl };
}

-- ---- functions

-- the body of a function
abbrev opened : List Stmt → List Piece → List Piece
opened ss rest = Piece.blank ∷ Piece.mark symbol.OpenBrace ∷ (lines 1 (map layout ss) ++ closed 0 rest)

function_front : (gs : List Piece) (x : List ℕ) (us : List Piece) (ss : List Stmt) (rest : List Piece) → gs ++ (Piece.name x ∷ Piece.mark symbol.Open ∷ (us ++ (Piece.mark symbol.Close ∷ opened ss rest))) ≡ (gs ++ Piece.name x ∷ Piece.mark symbol.Open ∷ us ++ Piece.mark symbol.Close ∷ Piece.blank ∷ braces 0 (map layout ss)) ++ rest
function_front gs x us ss rest = simp append_assoc

opened_fit : {ss : List Stmt} → IsPrintableBody ss → (rest : List Piece) → Fit rest → Fit (opened ss rest)
opened_fit d rest h = (tt, refl, (tt, refl, (body_reads d).fit 1 0 rest h))

gives_fit : (kind : Gives) (x : List ℕ) (rest : List Piece) → Fit (Piece.name x ∷ rest) → Fit (gives_pieces kind ++ (Piece.name x ∷ rest))
gives_fit gives.Int x rest h = (tt, refl, (tt, refl, h))
gives_fit gives.Pointer x rest h = (tt, refl, (tt, refl, (tt, refl, h)))
gives_fit gives.Nothing x rest h = (tt, refl, (tt, refl, h))
gives_fit gives.Thread x rest h = (tt, refl, (tt, refl, (tt, refl, h)))

-- what stands behind the type that it gives
record Typed (kind : Gives) (x : List ℕ) (ps : List At) (front rest : List Piece) : Type 0 where
  place : At
  left : List At
  parsed : {xs : List Param} {ss : List Stmt} {us ws : List Terminal} {q : At} {z : List ℕ} → IsParams (laid left (signs front)) xs (terminal symbol.OpenBrace q z ∷ us) → s.IsBody us ss ws → IsItem (laid ps (signs (gives_pieces kind ++ (Piece.name x ∷ front)))) (item.Function place kind x xs ss) ws

typed : {kind : Gives} → IsOrdinary kind → (x : List ℕ) (ps : List At) (front rest : List Piece) → Typed kind x ps front rest
typed IsOrdinary.int x ps front rest = record { place = _; left = past (past ps); parsed = λ d b. g.function g.absent g.gives_int d b }
typed IsOrdinary.pointer x ps front rest = record { place = _; left = past (past (past ps)); parsed = λ d b. g.function g.absent g.gives_pointer d b }
typed IsOrdinary.nothing x ps front rest = record { place = _; left = past (past ps); parsed = λ d b. g.function g.absent g.gives_nothing d b }

same_function : (kind : Gives) (x : List ℕ) (p q : At) (xs bs : List Param) (ss ts : List Stmt) → map bare_param xs ≡ map bare_param bs → map bare_stmt ss ≡ map bare_stmt ts → bare_item (item.Function p kind x xs ss) ≡ bare_item (item.Function q kind x bs ts)
same_function kind x p q xs bs ss ts e h = ap (λ us. item.Function nowhere kind x us (map bare_stmt ss)) e ∙ ap (λ us. item.Function nowhere kind x (map bare_param bs) us) h

-- a function by its parameters: their pieces, and how these are read
function_item : (at : At) {kind : Gives} (x : List ℕ) (xs : List Param) {ss : List Stmt} → IsOrdinary kind → IsPrintableName x → IsPrintableBody ss → ((rest : List Piece) → Fit rest → Fit (params_pieces kind xs ++ (Piece.mark symbol.Close ∷ rest))) → ((ps : List At) (rest : List Piece) → Read (map bare_param) IsParams ps (Piece.mark symbol.Open ∷ (params_pieces kind xs ++ (Piece.mark symbol.Close ∷ rest))) rest xs) → ItemReads (item.Function at kind x xs ss)
function_item at {kind = kind} x xs {ss = ss} o h d fit read = record {
  fit = λ rest f. subst Fit (function_front (gives_pieces kind) x (params_pieces kind xs) ss rest) (gives_fit kind x (Piece.mark symbol.Open ∷ (params_pieces kind xs ++ (Piece.mark symbol.Close ∷ opened ss rest))) (h, refl, (tt, refl, fit (opened ss rest) (opened_fit d rest f))));
  read = λ ps rest. subst (λ us. Read bare_item IsItem ps us rest (item.Function at kind x xs ss)) (function_front (gives_pieces kind) x (params_pieces kind xs) ss rest)
      (let t = typed o x ps (Piece.mark symbol.Open ∷ (params_pieces kind xs ++ (Piece.mark symbol.Close ∷ opened ss rest))) rest in
      let r = read t.left (opened ss rest) in
      let b = (body_reads d).read 1 0 (past r.left) rest in
      record { tree = _; left = b.left; parsed = t.parsed r.parsed b.parsed; same = same_function kind x t.place at r.tree xs b.tree ss r.same b.same });
}

bare_function_item : (at : At) {kind : Gives} (x : List ℕ) {ss : List Stmt} → IsOrdinary kind → IsPrintableName x → IsPrintableBody ss → ItemReads (item.Function at kind x [] ss)
bare_function_item at x o h d = function_item at x [] o h d
    (λ rest f. (tt, refl, (tt, refl, f)))
    (λ ps rest. record { tree = []; left = past (past (past ps)); parsed = g.no_params g.present; same = refl })

-- some parameters are not none
ordinary_params : {kind : Gives} {xs : List Param} → IsOrdinary kind → OneOrMore IsPrintableParam xs → params_pieces kind xs ≡ commas (map (param_pieces gives.Int) xs)
ordinary_params IsOrdinary.int (OneOrMore.last h) = refl
ordinary_params IsOrdinary.int (OneOrMore.more h hs) = refl
ordinary_params IsOrdinary.pointer (OneOrMore.last h) = refl
ordinary_params IsOrdinary.pointer (OneOrMore.more h hs) = refl
ordinary_params IsOrdinary.nothing (OneOrMore.last h) = refl
ordinary_params IsOrdinary.nothing (OneOrMore.more h hs) = refl

full_function_item : (at : At) {kind : Gives} (x : List ℕ) {xs : List Param} {ss : List Stmt} → IsOrdinary kind → IsPrintableName x → OneOrMore IsPrintableParam xs → IsPrintableBody ss → ItemReads (item.Function at kind x xs ss)
full_function_item at {kind = kind} x {xs = xs} o h a d = function_item at x xs o h d
    (λ rest f. subst (λ us. Fit (us ++ (Piece.mark symbol.Close ∷ rest))) (sym (ordinary_params o a)) ((params_read a).fit (Piece.mark symbol.Close ∷ rest) refl (tt, refl, f)))
    (λ ps rest. subst (λ us. Read (map bare_param) IsParams ps (Piece.mark symbol.Open ∷ (us ++ (Piece.mark symbol.Close ∷ rest))) rest xs) (sym (ordinary_params o a))
    (let r = (params_read a).read (past ps) (Piece.mark symbol.Close ∷ rest) in record { tree = r.tree; left = past r.left; parsed = g.params r.parsed; same = r.same }))

-- a thread's function by its parameter
thread_item : (at : At) (x : List ℕ) (xs : List Param) {ss : List Stmt} → IsPrintableName x → IsPrintableBody ss → ((rest : List Piece) → Fit rest → Fit (params_pieces gives.Thread xs ++ (Piece.mark symbol.Close ∷ rest))) → ((ps : List At) (rest : List Piece) → Read (map bare_param) IsThreadParams ps (Piece.mark symbol.Open ∷ (params_pieces gives.Thread xs ++ (Piece.mark symbol.Close ∷ rest))) rest xs) → ItemReads (item.Function at gives.Thread x xs ss)
thread_item at x xs {ss = ss} h d fit read = record {
  fit = λ rest f. subst Fit (function_front (gives_pieces gives.Thread) x (params_pieces gives.Thread xs) ss rest) (tt, refl, (tt, refl, (tt, refl, (h, refl, (tt, refl, fit (opened ss rest) (opened_fit d rest f))))));
  read = λ ps rest. subst (λ us. Read bare_item IsItem ps us rest (item.Function at gives.Thread x xs ss)) (function_front (gives_pieces gives.Thread) x (params_pieces gives.Thread xs) ss rest)
      (let r = read (past (past (past ps))) (opened ss rest) in
      let b = (body_reads d).read 1 0 (past r.left) rest in
      record { tree = _; left = b.left; parsed = g.thread_function g.absent r.parsed b.parsed; same = same_function gives.Thread x nowhere at r.tree xs b.tree ss r.same b.same });
}

item_reads : {i : Item} → IsPrintableItem i → ItemReads i
item_reads (IsPrintableItem.globals h) = globals_item h
item_reads (IsPrintableItem.mutexes h) = mutexes_item h
item_reads (IsPrintableItem.threads h) = threads_item h
item_reads (IsPrintableItem.input {at = at} {x = x} h) = input_item at x h
item_reads (IsPrintableItem.bare_function {at = at} {kind = gives.Int} {x = x} h d) = bare_function_item at x IsOrdinary.int h d
item_reads (IsPrintableItem.bare_function {at = at} {kind = gives.Pointer} {x = x} h d) = bare_function_item at x IsOrdinary.pointer h d
item_reads (IsPrintableItem.bare_function {at = at} {kind = gives.Nothing} {x = x} h d) = bare_function_item at x IsOrdinary.nothing h d
item_reads (IsPrintableItem.bare_function {at = at} {kind = gives.Thread} {x = x} h d) = thread_item at x [] h d
    (λ rest f. (tt, refl, (tt, refl, f)))
    (λ ps rest. record { tree = []; left = past (past (past ps)); parsed = g.no_thread_params g.present; same = refl })
item_reads (IsPrintableItem.function {at = at} {x = x} o h a d) = full_function_item at x o h a d
item_reads (IsPrintableItem.thread_function {at = at} {p = p} {x = x} {y = y} h i d) = thread_item at x (param true p y ∷ []) h d
    (λ rest f. (tt, refl, (tt, refl, (tt, refl, (i, refl, (tt, refl, f))))))
    (λ ps rest. record { tree = _; left = past (past (past (past (past ps)))); parsed = g.thread_param; same = refl })

-- ---- all items

pub record ItemsRead (ps : List At) (front : List Piece) (is : List Item) : Type 0 where
  pub tree : List Item
  pub parsed : AreItems (laid ps (signs front)) tree []
  pub same : map bare_item tree ≡ map bare_item is

items_front : (i : Item) (is : List Item) → item_pieces i ++ (Piece.line 0 ∷ items_pieces is) ≡ items_pieces (i ∷ is)
items_front i is = sym (append_assoc (item_pieces i) (Piece.line 0 ∷ []) (items_pieces is))

pub items_fit : (is : List Item) → ByRecursion IsPrintableItem is → Fit (items_pieces is)
items_fit [] h = tt
items_fit (i ∷ is) h = subst Fit (items_front i is) ((item_reads h.0).fit (Piece.line 0 ∷ items_pieces is) (tt, refl, items_fit is h.1))

pub items_read : (is : List Item) → ByRecursion IsPrintableItem is → (ps : List At) → ItemsRead ps (items_pieces is) is
items_read [] h ps = record { tree = []; parsed = g.no_items; same = refl }
items_read (i ∷ is) h ps =
    let r = (item_reads h.0).read ps (Piece.line 0 ∷ items_pieces is) in
    let t = items_read is h.1 r.left in
    subst (λ us. ItemsRead ps us (i ∷ is)) (items_front i is) (record { tree = r.tree ∷ t.tree; parsed = g.more_items r.parsed t.parsed; same = cons_same bare_item r.tree i t.tree is r.same t.same })
