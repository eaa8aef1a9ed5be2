-- What the grammar has as an item is printable, and so is the tree of every text.
use Rattle.std.proofs.Common.{arith, ◌≡◌, refl, subst, sym, ◌∙◌, ℕ, zero, suc, ℤ, pos, negsuc, ◌<◌, ◌≤◌, ◌^◌, Bool, true, false, List, [], ◌∷◌, Some, None}
use Rattle.std.proofs.lemmas.List.Elements.{All-from_recursion}
use Rattle.std.specs.List.{AllByRecursion}
use Rattle.std.specs.Int.{w32, int_wrapping_neg}
use Rattle.std.proofs.lemmas.Int.{wrapping_neg_is, int_wrap_fits}
use Rattle.std.specs.Str.{IsUtf8}
use Rattle.mm_goto.specs.declared.ident.At.{At}
use Rattle.mm_tree.specs.declared.expr.Expr.{Expr}
use Rattle.mm_tree.specs.declared.expr.Node.TheVariants as node
use Rattle.mm_tree.specs.declared.expr.Word.{Word}
use Rattle.mm_tree.specs.declared.item.Gives.{Gives}
use Rattle.mm_tree.specs.declared.item.Gives.TheVariants as gives
use Rattle.mm_tree.specs.declared.item.Global.{Global}
use Rattle.mm_tree.specs.declared.item.Item.{Item}
use Rattle.mm_tree.specs.declared.item.Item.TheVariants as item
use Rattle.mm_tree.specs.declared.item.Param.{Param}
use Rattle.mm_tree.specs.declared.item.Tree.{Tree}
use Rattle.mm_tree.specs.declared.side.Side.{Side}
use Rattle.mm_tree.specs.declared.stmt.Stmt.{Stmt}
use Rattle.mm_tree.specs.Trees.{global}
use Rattle.mm_parse_expr.specs.declared.symbol.Keyword.{Keyword as Reserved}
use Rattle.mm_parse_expr.specs.declared.terminal.Terminal.{Terminal}
use Rattle.mm_grammar.specs.Meaning.{IsTreeOf}
use Rattle.mm_grammar.specs.ProgramGrammar as g
use Rattle.mm_grammar.specs.ProgramGrammar.{IsConst, AreConsts, IsInit, IsGlobal, AreGlobals, IsMutex, AreMutexes, IsOptional, IsParam, AreParams, IsParams, IsThreadParams, IsGives, AreQuals, IsItem, AreItems, number_at}
use Rattle.mm_print.specs.Printable.{OneOrMore, IsPrintableConst, IsPrintableInit, IsPrintableGlobal, IsPrintableParam, IsPrintableWord, IsOrdinary, IsPrintableBody, IsPrintableItem, IsPrintableName, IsPrintableTree}
use Rattle.mm_sourcelike.proofs.TextStreams.{IsLiteral}
use Rattle.mm_sourcelike.proofs.TextTokens.{tokens_proper}
use Rattle.mm_sourcelike.proofs.PrintableExpressions.{AreProper, name_prints, number_prints, one_more}
use Rattle.mm_sourcelike.proofs.PrintableStatements.{names_print, star_prints, body_prints}

-- ---- initialisers

negative : (n : ℕ) → suc n < 2 ^ 31 → int_wrapping_neg w32 (pos (suc n)) ≡ negsuc n
negative n h = wrapping_neg_is w32 (pos (suc n)) (record { sfits = omega (arith, h) }) ∙ int_wrap_fits w32 (negsuc n) (record { sfits = omega (arith, h) })

negated_prints : (at : At) (z : ℤ) → IsLiteral z → IsPrintableConst (number_at at (int_wrapping_neg w32 z))
negated_prints at z l = subst (λ (y : ℤ). IsPrintableConst (number_at at (int_wrapping_neg w32 y))) (sym l.1) (by l.0 l.2)
  where
    zero_prints : IsPrintableConst (number_at at (pos 0))
    zero_prints = IsPrintableConst.number (number_prints at (pos 0) (0, refl, omega arith))

    by : (k : ℕ) → k ≤ 2147483647 → IsPrintableConst (number_at at (int_wrapping_neg w32 (pos k)))
    by zero h = zero_prints
    by (suc k) h = subst (λ (y : ℤ). IsPrintableConst (number_at at y)) (sym (negative k (omega (arith, h)))) (IsPrintableConst.negated (omega (arith, h)))

const_prints : {ts : List Terminal} {e : Expr} {rest : List Terminal} → IsConst ts e rest → AreProper ts → IsPrintableConst e × AreProper rest
const_prints (g.number {n = z} {p = p}) s = (IsPrintableConst.number (number_prints p z s.0), s.1)
const_prints (g.negated {n = z} {p = p}) s = (negated_prints p z s.1.0, s.1.1)

consts_print : {ts : List Terminal} {es : List Expr} {rest : List Terminal} → AreConsts ts es rest → AreProper ts → OneOrMore IsPrintableConst es × AreProper rest
consts_print (g.last_const d) s = let x = const_prints d s in (OneOrMore.last x.0, x.1)
consts_print (g.more_consts d m) s =
    let x = const_prints d s in
    let y = consts_print m x.1.1 in
    (one_more x.0 y.0, y.1)

init_prints : {ts : List Terminal} {e : Expr} {rest : List Terminal} → IsInit ts e rest → AreProper ts → IsPrintableInit e × AreProper rest
init_prints (g.constant d) s = let x = const_prints d s in (IsPrintableInit.constant x.0, x.1)
init_prints g.null s = (IsPrintableInit.null, s.1)
init_prints (g.address {y = y}) s = (IsPrintableInit.address (name_prints y s.1.0), s.1.1)
init_prints (g.element_address {n = z} {s = i} {y = y}) s = (IsPrintableInit.element_address (name_prints y s.1.0) (number_prints i z s.1.1.1.0), s.1.1.1.1.1)

-- ---- globals and mutexes

length_prints : (P : ℤ → Type 0) → ((n : ℕ) → n < 2 ^ 31 → P (pos n)) → (z : ℤ) → IsLiteral z → P z
length_prints P h z l = subst P (sym l.1) (h l.0 (omega (arith, l.2)))

global_prints : {ts : List Terminal} {a : Global} {rest : List Terminal} → IsGlobal ts a rest → AreProper ts → IsPrintableGlobal a × AreProper rest
global_prints (g.variable {x = x} d) s = let y = star_prints d s in (IsPrintableGlobal.variable (name_prints x y.0), y.1)
global_prints (g.set_variable {x = x} d f) s =
    let y = star_prints d s in
    let z = init_prints f y.1.1 in
    (IsPrintableGlobal.set_variable (name_prints x y.0) z.0, z.1)
global_prints (g.array {n = z} {p = p} {x = x}) s =
    (length_prints (λ y. IsPrintableGlobal (global p false x (Some y) [])) (λ n h. IsPrintableGlobal.array (name_prints x s.0) h) z s.1.1.0, s.1.1.1.1)
global_prints (g.set_array {n = z} {es = es} {p = p} {x = x} d) s =
    let y = consts_print d s.1.1.1.1.1.1 in
    (length_prints (λ y. IsPrintableGlobal (global p false x (Some y) es)) (λ n h. IsPrintableGlobal.set_array (name_prints x s.0) h y.0) z s.1.1.0, y.1.1)

globals_print : {ts : List Terminal} {gs : List Global} {rest : List Terminal} → AreGlobals ts gs rest → AreProper ts → OneOrMore IsPrintableGlobal gs × AreProper rest
globals_print (g.last_global d) s = let x = global_prints d s in (OneOrMore.last x.0, x.1)
globals_print (g.more_globals d m) s =
    let x = global_prints d s in
    let y = globals_print m x.1.1 in
    (one_more x.0 y.0, y.1)

mutex_prints : {ts : List Terminal} {w : Word} {rest : List Terminal} → IsMutex ts w rest → AreProper ts → IsPrintableWord w × AreProper rest
mutex_prints (g.mutex {x = x}) s = (name_prints x s.0, s.1)
mutex_prints (g.set_mutex {x = x}) s = (name_prints x s.0, s.1.1.1)

mutexes_print : {ts : List Terminal} {ws : List Word} {rest : List Terminal} → AreMutexes ts ws rest → AreProper ts → OneOrMore IsPrintableWord ws × AreProper rest
mutexes_print (g.last_mutex d) s = let x = mutex_prints d s in (OneOrMore.last x.0, x.1)
mutexes_print (g.more_mutexes d m) s =
    let x = mutex_prints d s in
    let y = mutexes_print m x.1.1 in
    (one_more x.0 y.0, y.1)

-- ---- functions

optional_prints : {k : Reserved} {ts rest : List Terminal} → IsOptional k ts rest → AreProper ts → AreProper rest
optional_prints g.absent s = s
optional_prints g.present s = s.1

quals_print : {ts rest : List Terminal} → AreQuals ts rest → AreProper ts → AreProper rest
quals_print g.no_quals s = s
quals_print (g.static d) s = quals_print d s.1
quals_print (g.volatile d) s = quals_print d s.1

param_prints : {ts : List Terminal} {a : Param} {rest : List Terminal} → IsParam ts a rest → AreProper ts → IsPrintableParam a × AreProper rest
param_prints (g.one_param {y = y} d) s = let x = star_prints d s.1 in (name_prints y x.0, x.1)

params_print : {ts : List Terminal} {ps : List Param} {rest : List Terminal} → AreParams ts ps rest → AreProper ts → OneOrMore IsPrintableParam ps × AreProper rest
params_print (g.last_param d) s = let x = param_prints d s in (OneOrMore.last x.0, x.1)
params_print (g.more_params d m) s =
    let x = param_prints d s in
    let y = params_print m x.1.1 in
    (one_more x.0 y.0, y.1)

gives_prints : {ts : List Terminal} {kind : Gives} {rest : List Terminal} → IsGives ts kind rest → AreProper ts → IsOrdinary kind × AreProper rest
gives_prints g.gives_int s = (IsOrdinary.int, s.1)
gives_prints g.gives_pointer s = (IsOrdinary.pointer, s.1.1)
gives_prints g.gives_nothing s = (IsOrdinary.nothing, s.1)

-- a function of these parameters, whatever its body is
ordinary_prints : {kind : Gives} {ps : List Param} {ts rest : List Terminal} {at : At} {x : List ℕ} → IsOrdinary kind → IsPrintableName x → IsParams ts ps rest → AreProper ts
    → ((ss : List Stmt) → IsPrintableBody ss → IsPrintableItem (item.Function at kind x ps ss)) × AreProper rest
ordinary_prints kind name (g.no_params d) s = let y = optional_prints d s.1 in (λ ss body. IsPrintableItem.bare_function name body, y.1)
ordinary_prints kind name (g.params d) s = let y = params_print d s.1 in (λ ss body. IsPrintableItem.function kind name y.0 body, y.1.1)

thread_prints : {ps : List Param} {ts rest : List Terminal} {at : At} {x : List ℕ} → IsPrintableName x → IsThreadParams ts ps rest → AreProper ts
    → ((ss : List Stmt) → IsPrintableBody ss → IsPrintableItem (item.Function at gives.Thread x ps ss)) × AreProper rest
thread_prints name (g.no_thread_params d) s = let y = optional_prints d s.1 in (λ ss body. IsPrintableItem.bare_function name body, y.1)
thread_prints name g.nameless_param s = (λ ss body. IsPrintableItem.bare_function name body, s.1.1.1.1)
thread_prints name (g.thread_param {w = w}) s = (λ ss body. IsPrintableItem.thread_function name (name_prints w s.1.1.1.0) body, s.1.1.1.1.1)

-- ---- items and programs

item_prints : {ts : List Terminal} {i : Item} {rest : List Terminal} → IsItem ts i rest → AreProper ts → IsPrintableItem i × AreProper rest
item_prints (g.globals d f) s =
    let x = quals_print d s in
    let y = globals_print f x.1 in
    (IsPrintableItem.globals y.0, y.1.1)
item_prints (g.mutexes d f) s =
    let x = quals_print d s in
    let y = mutexes_print f x.1 in
    (IsPrintableItem.mutexes y.0, y.1.1)
item_prints (g.threads d f) s =
    let x = quals_print d s in
    let y = names_print f x.1 in
    (IsPrintableItem.threads y.0, y.1.1)
item_prints (g.input {y = name} d f) s =
    let x = optional_prints d s in
    let y = optional_prints f x.1.1.1 in
    (IsPrintableItem.input (name_prints name x.1.0), y.1.1)
item_prints (g.function {x = name} d h f k) s =
    let x = optional_prints d s in
    let y = gives_prints h x in
    let z = ordinary_prints y.0 (name_prints name y.1.0) f y.1.1 in
    let w = body_prints k z.1.1 in
    (z.0 _ w.0, w.1)
item_prints (g.thread_function {z = name} d f k) s =
    let x = optional_prints d s in
    let y = thread_prints (name_prints name x.1.1.0) f x.1.1.1 in
    let z = body_prints k y.1.1 in
    (y.0 _ z.0, z.1)

items_print : {ts : List Terminal} {is : List Item} {rest : List Terminal} → AreItems ts is rest → AreProper ts → AllByRecursion IsPrintableItem is × AreProper rest
items_print g.no_items s = (tt, s)
items_print (g.more_items d m) s =
    let x = item_prints d s in
    let y = items_print m x.1 in
    ((x.0, y.0), y.1)

pub text_is_printable : (side : Side) (text : List ℕ) (tree : Tree) → IsUtf8 text → IsTreeOf side text tree → IsPrintableTree tree
text_is_printable side text tree utf8 is = All-from_recursion IsPrintableItem tree.items (items_print is.parsed (tokens_proper text is.tokens utf8 is.cut)).0
