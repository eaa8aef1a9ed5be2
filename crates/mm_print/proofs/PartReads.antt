-- The pieces of the printable parts of statements are tokens, and are read as the parts.
use Rattle.std.proofs.Common.{◌≡◌, ℕ, Bool, true, false, List, [], ◌∷◌, ◌++◌, map, Option, Some, refl, sym, ◌∙◌, ap, subst, append_assoc}
use Rattle.mm_goto.specs.declared.ident.At.{At}
use Rattle.mm_tree.specs.declared.expr.Expr.{Expr}
use Rattle.mm_tree.specs.declared.expr.Word.{Word}
use Rattle.mm_tree.specs.declared.stmt.LeftNode.{LeftNode}
use Rattle.mm_tree.specs.declared.stmt.LeftNode.TheVariants as left
use Rattle.mm_tree.specs.declared.stmt.Local.{Local}
use Rattle.mm_tree.specs.declared.stmt.Value.{Value}
use Rattle.mm_tree.specs.declared.stmt.Value.TheVariants as value
use Rattle.mm_tree.specs.Trees.{word, left_at, local}
use Rattle.mm_tree.specs.Places.{bare_expr, bare_value, bare_left, bare_local, bare_word, nowhere}
use Rattle.mm_parse_expr.specs.declared.symbol.Keyword.TheVariants as keyword
use Rattle.mm_parse_expr.specs.declared.symbol.Symbol.TheVariants as symbol
use Rattle.mm_parse_expr.specs.declared.terminal.Terminal.{Terminal}
use Rattle.mm_parse_expr.specs.Grammar.{terminal, IsExpr}
use Rattle.mm_parse_expr.specs.Grammar as e
use Rattle.mm_grammar.specs.StatementGrammar as g
use Rattle.mm_grammar.specs.StatementGrammar.{IsLeft, IsValue, IsCall, IsArguments, IsStar, IsLocal, AreLocals, AreNames}
use Rattle.mm_print.specs.Pieces.{Piece, commas, called, subscript, spaced}
use Rattle.mm_print.specs.Expressions.{expr_pieces}
use Rattle.mm_print.specs.Statements.{left_pieces, value_pieces, set_to, star, local_pieces, name_pieces}
use Rattle.mm_print.specs.Printable.{OneOrMore, IsPrintable, IsPrintableLeft, IsPrintableCall, IsPrintableValue, IsPrintableGiven, IsPrintableLocal, IsPrintableWord}
use Rattle.mm_print.proofs.Signs.{laid, first, behind as past}
use Rattle.mm_print.proofs.Spelling.{Fit, ends_word, signs}
use Rattle.mm_print.proofs.Reading.{Line, Read, Reads, Commas, behind, commas_read}
use Rattle.mm_print.proofs.ExpressionReads.{expr_reads}

pub whole_expr : {a : Expr} → IsPrintable a → Reads bare_expr IsExpr a (expr_pieces a)
whole_expr i = (expr_reads i).whole

-- ---- arguments

arguments_listed : Commas IsExpr IsArguments
arguments_listed = record { last = λ d. g.last_argument d; more = λ d ds. g.more_arguments d ds }

pub arguments_read : {xs : List Expr} → OneOrMore IsPrintable xs → Reads (map bare_expr) IsArguments xs (commas (map expr_pieces xs))
arguments_read h = commas_read bare_expr IsExpr IsArguments expr_pieces IsPrintable arguments_listed (λ a i. whole_expr i) h

-- ---- calls and values

pub called_front : (p : Piece) (us rest : List Piece) → p ∷ Piece.mark symbol.Open ∷ (us ++ (Piece.mark symbol.Close ∷ rest)) ≡ called p us ++ rest
called_front p us rest = ap (λ vs. p ∷ Piece.mark symbol.Open ∷ vs) (behind us rest symbol.Close)

called_fit : (p : Piece) (us rest : List Piece) → (Fit (Piece.mark symbol.Open ∷ (us ++ (Piece.mark symbol.Close ∷ rest))) → Fit (p ∷ Piece.mark symbol.Open ∷ (us ++ (Piece.mark symbol.Close ∷ rest)))) → ((vs : List Piece) → ends_word vs ≡ true → Fit vs → Fit (us ++ vs)) → Fit rest → Fit (called p us ++ rest)
called_fit p us rest h fit f = subst Fit (called_front p us rest) (h (tt, refl, fit (Piece.mark symbol.Close ∷ rest) refl (tt, refl, f)))

pair_front : (p : Piece) (us vs rest : List Piece) → p ∷ Piece.mark symbol.Open ∷ (us ++ (Piece.mark symbol.Comma ∷ Piece.blank ∷ (vs ++ (Piece.mark symbol.Close ∷ rest)))) ≡ called p (us ++ Piece.mark symbol.Comma ∷ Piece.blank ∷ vs) ++ rest
pair_front p us vs rest = simp append_assoc

triple_front : (p : Piece) (us vs ws rest : List Piece) → p ∷ Piece.mark symbol.Open ∷ (us ++ (Piece.mark symbol.Comma ∷ Piece.blank ∷ (vs ++ (Piece.mark symbol.Comma ∷ Piece.blank ∷ (ws ++ (Piece.mark symbol.Close ∷ rest)))))) ≡ called p (us ++ Piece.mark symbol.Comma ∷ Piece.blank ∷ (vs ++ Piece.mark symbol.Comma ∷ Piece.blank ∷ ws)) ++ rest
triple_front p us vs ws rest = simp append_assoc

pub call_reads : {v : Value} → IsPrintableCall v → Reads bare_value IsCall v (value_pieces v)
call_reads (IsPrintableCall.bare_call h) = record {
  fit = λ rest k f. (h, refl, (tt, refl, (tt, refl, f)));
  read = λ ps rest. record { tree = _; left = past (past (past ps)); parsed = g.bare_call; same = refl };
}
call_reads (IsPrintableCall.call {at = at} {x = x} {es = es} h i) =
    let r = arguments_read i in
    record {
      fit = λ rest k f. called_fit (Piece.name x) (commas (map expr_pieces es)) rest (λ o. (h, refl, o)) r.fit f;
      read = λ ps rest. subst (λ us. Read bare_value IsCall ps us rest (value.Call at x es)) (called_front (Piece.name x) (commas (map expr_pieces es)) rest)
          (let t = r.read (past (past ps)) (Piece.mark symbol.Close ∷ rest) in record { tree = _; left = past t.left; parsed = g.full_call t.parsed; same = ap (λ ts. value.Call nowhere x ts) t.same });
    }
call_reads (IsPrintableCall.fetch_add {at = at} {p = a} {e = b} i j) = record {
  fit = λ rest k f. called_fit (Piece.word keyword.FetchAndAdd) (commas (map expr_pieces (a ∷ b ∷ []))) rest (λ o. (tt, refl, o)) (arguments_read (OneOrMore.more i (OneOrMore.last j))).fit f;
  read = λ ps rest. subst (λ us. Read bare_value IsCall ps us rest (value.FetchAdd at a b)) (pair_front (Piece.word keyword.FetchAndAdd) (expr_pieces a) (expr_pieces b) rest)
      (let s = (whole_expr i).read (past (past ps)) (Piece.mark symbol.Comma ∷ Piece.blank ∷ (expr_pieces b ++ (Piece.mark symbol.Close ∷ rest))) in
      let t = (whole_expr j).read (past s.left) (Piece.mark symbol.Close ∷ rest) in
      record { tree = _; left = past t.left; parsed = g.fetch_add s.parsed t.parsed; same = ap (λ u. value.FetchAdd nowhere u (bare_expr t.tree)) s.same ∙ ap (λ u. value.FetchAdd nowhere (bare_expr a) u) t.same });
}
call_reads (IsPrintableCall.compare_swap {at = at} {p = a} {e = b} {f = c} i j k) = record {
  fit = λ rest o f. called_fit (Piece.word keyword.CompareAndSwap) (commas (map expr_pieces (a ∷ b ∷ c ∷ []))) rest (λ o. (tt, refl, o)) (arguments_read (OneOrMore.more i (OneOrMore.more j (OneOrMore.last k)))).fit f;
  read = λ ps rest. subst (λ us. Read bare_value IsCall ps us rest (value.CompareSwap at a b c)) (triple_front (Piece.word keyword.CompareAndSwap) (expr_pieces a) (expr_pieces b) (expr_pieces c) rest)
      (let s = (whole_expr i).read (past (past ps)) (Piece.mark symbol.Comma ∷ Piece.blank ∷ (expr_pieces b ++ (Piece.mark symbol.Comma ∷ Piece.blank ∷ (expr_pieces c ++ (Piece.mark symbol.Close ∷ rest))))) in
      let t = (whole_expr j).read (past s.left) (Piece.mark symbol.Comma ∷ Piece.blank ∷ (expr_pieces c ++ (Piece.mark symbol.Close ∷ rest))) in
      let u = (whole_expr k).read (past t.left) (Piece.mark symbol.Close ∷ rest) in
      record { tree = _; left = past u.left; parsed = g.compare_swap s.parsed t.parsed u.parsed; same = ap (λ x. value.CompareSwap nowhere x (bare_expr t.tree) (bare_expr u.tree)) s.same ∙ ap (λ x. value.CompareSwap nowhere (bare_expr a) x (bare_expr u.tree)) t.same ∙ ap (λ x. value.CompareSwap nowhere (bare_expr a) (bare_expr b) x) u.same });
}

pub value_reads : {v : Value} → IsPrintableValue v → Reads bare_value IsValue v (value_pieces v)
value_reads (IsPrintableValue.plain i) =
    let r = whole_expr i in
    record { fit = r.fit; read = λ ps rest. let t = r.read ps rest in record { tree = _; left = t.left; parsed = g.plain t.parsed; same = ap value.Plain t.same } }
value_reads (IsPrintableValue.called i) =
    let r = call_reads i in
    record { fit = r.fit; read = λ ps rest. let t = r.read ps rest in record { tree = t.tree; left = t.left; parsed = g.called t.parsed; same = t.same } }

-- ---- left sides

element_front : (x : List ℕ) (us rest : List Piece) → Piece.name x ∷ Piece.mark symbol.OpenBracket ∷ (us ++ (Piece.mark symbol.CloseBracket ∷ rest)) ≡ (Piece.name x ∷ subscript us) ++ rest
element_front x us rest = ap (λ vs. Piece.name x ∷ Piece.mark symbol.OpenBracket ∷ vs) (behind us rest symbol.CloseBracket)

pub left_reads : (at : At) {l : LeftNode} → IsPrintableLeft l → Reads bare_left IsLeft (left_at at l) (left_pieces l)
left_reads at (IsPrintableLeft.name h) = record {
  fit = λ rest k f. (h, k, f);
  read = λ ps rest. record { tree = _; left = past ps; parsed = g.name; same = refl };
}
left_reads at (IsPrintableLeft.element {x = x} {e = i} h j) =
    let r = whole_expr j in
    record {
      fit = λ rest k f. subst Fit (element_front x (expr_pieces i) rest) (h, refl, (tt, refl, r.fit (Piece.mark symbol.CloseBracket ∷ rest) refl (tt, refl, f)));
      read = λ ps rest. subst (λ us. Read bare_left IsLeft ps us rest (left_at at (left.Index x i))) (element_front x (expr_pieces i) rest)
          (let t = r.read (past (past ps)) (Piece.mark symbol.CloseBracket ∷ rest) in record { tree = _; left = past t.left; parsed = g.element t.parsed; same = ap (λ u. left_at nowhere (left.Index x u)) t.same });
    }
left_reads at (IsPrintableLeft.pointee {e = i} j) =
    let r = expr_reads j in
    record {
      fit = λ rest k f. (tt, r.loose rest, r.part.fit rest k f);
      read = λ ps rest. let t = r.part.read (past ps) rest in record { tree = _; left = t.left; parsed = g.pointee (e.primary t.parsed); same = ap (λ u. left_at nowhere (left.Deref u)) t.same };
    }

-- ---- declared names

pub star_fit : (b : Bool) (x : List ℕ) (rest : List Piece) → Fit (Piece.name x ∷ rest) → Fit (star b ++ (Piece.name x ∷ rest))
star_fit true x rest f = (tt, refl, f)
star_fit false x rest f = f

pub star_read : (b : Bool) (ps : List At) (rest : List Piece) → (left : List At) × IsStar (laid ps (signs (star b ++ rest))) b (laid left (signs rest))
star_read true ps rest = (past ps, g.star)
star_read false ps rest = (ps, g.no_star)

set_ends : {v : Option Value} → IsPrintableGiven v → (rest : List Piece) → ends_word rest ≡ true → ends_word (set_to v ++ rest) ≡ true
set_ends IsPrintableGiven.none rest k = k
set_ends (IsPrintableGiven.some i) rest k = refl

set_fit : {v : Option Value} → IsPrintableGiven v → (rest : List Piece) → ends_word rest ≡ true → Fit rest → Fit (set_to v ++ rest)
set_fit IsPrintableGiven.none rest k f = f
set_fit (IsPrintableGiven.some i) rest k f = (tt, refl, (tt, refl, (tt, refl, (value_reads i).fit rest k f)))

local_front : (b : Bool) (x : List ℕ) (us rest : List Piece) → star b ++ (Piece.name x ∷ (us ++ rest)) ≡ (star b ++ Piece.name x ∷ us) ++ rest
local_front b x us rest = sym (append_assoc (star b) (Piece.name x ∷ us) rest)

local_read : (at : At) (b : Bool) (x : List ℕ) {v : Option Value} → IsPrintableGiven v → (ps : List At) (rest : List Piece) → Read bare_local IsLocal ps (star b ++ (Piece.name x ∷ (set_to v ++ rest))) rest (local at b x v)
local_read at b x IsPrintableGiven.none ps rest =
    let s = star_read b ps (Piece.name x ∷ rest) in
    record { tree = _; left = past s.0; parsed = g.bare_local s.1; same = refl }
local_read at b x (IsPrintableGiven.some {v = v} i) ps rest =
    let s = star_read b ps (Piece.name x ∷ spaced symbol.Assign (value_pieces v ++ rest)) in
    let t = (value_reads i).read (past (past s.0)) rest in
    record { tree = _; left = t.left; parsed = g.set_local s.1 t.parsed; same = ap (λ u. local nowhere b x (Some u)) t.same }

local_reads : (l : Local) → IsPrintableLocal l → Reads bare_local IsLocal l (local_pieces l)
local_reads l h = record {
  fit = λ rest k f. subst Fit (local_front l.pointer l.name (set_to l.value) rest) (star_fit l.pointer l.name (set_to l.value ++ rest) (h.name, set_ends h.value rest k, set_fit h.value rest k f));
  read = λ ps rest. subst (λ us. Read bare_local IsLocal ps us rest l) (local_front l.pointer l.name (set_to l.value) rest) (local_read l.at l.pointer l.name h.value ps rest);
}

locals_listed : Commas IsLocal AreLocals
locals_listed = record { last = λ d. g.last_local d; more = λ d ds. g.more_locals d ds }

pub locals_read : {ls : List Local} → OneOrMore IsPrintableLocal ls → Reads (map bare_local) AreLocals ls (commas (map local_pieces ls))
locals_read h = commas_read bare_local IsLocal AreLocals local_pieces IsPrintableLocal locals_listed local_reads h

-- a name alone
abbrev IsNamed : Line Word
IsNamed ts w rest = ts ≡ terminal symbol.Name w.at w.name ∷ rest

names_listed : Commas IsNamed AreNames
names_listed = record { last = last; more = more }
  where
    last : {a : Word} {ts rest : List Terminal} → IsNamed ts a rest → AreNames ts (a ∷ []) rest
    last {a = a} {rest = rest} d = subst (λ us. AreNames us (a ∷ []) rest) (sym d) g.last_name

    more : {a : Word} {xs : List Word} {ts us rest : List Terminal} {p : At} {x : List ℕ} → IsNamed ts a (terminal symbol.Comma p x ∷ us) → AreNames us xs rest → AreNames ts (a ∷ xs) rest
    more {a = a} {xs = xs} {rest = rest} d ds = subst (λ us. AreNames us (a ∷ xs) rest) (sym d) (g.more_names ds)

word_reads : (w : Word) → IsPrintableWord w → Reads bare_word IsNamed w (name_pieces w)
word_reads w h = record {
  fit = λ rest k f. (h, k, f);
  read = λ ps rest. record { tree = word (first ps) w.name; left = past ps; parsed = refl; same = refl };
}

pub names_read : {ws : List Word} → OneOrMore IsPrintableWord ws → Reads (map bare_word) AreNames ws (commas (map name_pieces ws))
names_read h = commas_read bare_word IsNamed AreNames name_pieces IsPrintableWord names_listed word_reads h
