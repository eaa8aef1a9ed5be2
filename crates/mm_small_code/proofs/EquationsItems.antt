-- The cells and the function of a text whose only function is main, by the equations.
use Rattle.std.proofs.Common.{◌≡◌, ℕ, ◌+◌, ◌<◌, ◌^◌, ℤ, false, cond, List, [], ◌∷◌, ◌++◌, length, codes, Some, None, refl, sym, ◌∙◌, ap, subst, arith, lt-ltb}
use Rattle.mm_goto.specs.declared.ident.At.{At}
use Rattle.mm_goto.specs.declared.ident.Ident.{Ident}
use Rattle.mm_goto.specs.declared.pure.Pure.{Pure}
use Rattle.mm_goto.specs.declared.program.Cell.{Cell}
use Rattle.mm_goto.specs.Terms.{constant}
use Rattle.mm_tree.specs.declared.expr.Expr.{Expr}
use Rattle.mm_tree.specs.declared.item.Global.{Global}
use Rattle.mm_tree.specs.declared.item.Item.{Item}
use Rattle.mm_tree.specs.declared.stmt.Stmt.{Stmt}
use Rattle.mm_flow.specs.declared.names.Spot.{Spot}
use Rattle.mm_flow.specs.Programs.{globals_in, capped, spots, start_of, first_start, cells_of, mutexes_in, asserts_before, body_in, place_in}
use Rattle.mm_flow.specs.Statements.{Function, function_of}
use Rattle.mm_small_code.specs.reading.Flattening as flat
use Rattle.mm_small_code.specs.reading.Flattening.{int_global, int_cell, AreVariables, AreCells, main_item}
use Rattle.mm_small_code.proofs.EquationsNames.{spots_from}
use Rattle.mm_small_code.proofs.EquationsLayers.{number_node}

-- ---- globals

not_capped : (n : ℕ) → n < 2 ^ 32 → capped n ≡ n
not_capped n h = ap (λ b. cond b n 4294967295) (lt-ltb n (2 ^ 32) h)

-- the globals get these numbers, and have these cells
pub record AreNumbered (gs : List Global) (cells : List Cell) : Type 0 where
  pub numbers : (n : ℕ) → n + length cells < 2 ^ 32 → spots gs n ≡ spots_from n cells
  pub values : (ss : List Spot) → cells_of ss gs ≡ cells

start_is : (ss : List Spot) (es : List Expr) (z : ℤ) → flat.start_value es z → first_start ss es ≡ constant z
start_is ss [] z h = ap constant (sym h)
start_is ss (e ∷ []) z h = ap (λ e. first_start ss (e ∷ [])) h.1 ∙ ap (start_of ss) (number_node h.0 z)
start_is ss (e ∷ f ∷ es) z h = absurd h

cell_of : Ident → Pure → Cell
cell_of x e = record { name = x; index = None; pointer = false; init = e }

first_spot : (x : Ident) (n : ℕ) (gs : List Global) (cells : List Cell) → n + 1 < 2 ^ 32 → spots gs (n + 1) ≡ spots_from (n + 1) cells → record { name = x; first = n; len = 1 } ∷ spots gs (capped (n + 1)) ≡ record { name = x; first = n; len = 1 } ∷ spots_from (n + 1) cells
first_spot x n gs cells h e = ap (λ m. record { name = x; first = n; len = 1 } ∷ spots gs m) (not_capped (n + 1) h) ∙ ap (λ ss. record { name = x; first = n; len = 1 } ∷ ss) e

variables_are : {gs : List Global} {cells mid : List Cell} (hs : List Global) → AreVariables gs cells mid → AreNumbered hs mid → AreNumbered (gs ++ hs) cells
unfolding cell_of
variables_are hs AreVariables.none k = k
variables_are hs (AreVariables.int {at = at} {x = x} {es = es} {gs = gs} {cells = cells} z s d) k =
    let r = variables_are hs d k in
    record {
      numbers = λ n h. first_spot x n (gs ++ hs) cells (omega (arith, h)) (r.numbers (n + 1) (omega (arith, h)));
      values = λ ss. ap (λ e. cell_of x e ∷ cells_of ss (gs ++ hs)) (start_is ss es z s) ∙ ap (λ cs. int_cell x z ∷ cs) (r.values ss);
    }

-- ---- items

-- the function main
abbrev pub main_function : List Stmt → Function
main_function body = record { params = []; body = body; asserts = 0 }

-- the items declare these cells, and main
pub record ItemsAre (items : List Item) (cells : List Cell) (at : At) (body : List Stmt) : Type 0 where
  pub globals : AreNumbered (globals_in items) cells
  pub mutexes : mutexes_in items ≡ []
  pub statements : body_in items (codes "main") ≡ body
  pub place : place_in items (codes "main") ≡ at
  pub function : function_of items (asserts_before items 0) (codes "main") ≡ Some (main_function body)

only_main : (at : At) (body : List Stmt) → ItemsAre (main_item at body ∷ []) [] at body
only_main at body = record { globals = record { numbers = λ n h. refl; values = λ ss. refl }; mutexes = refl; statements = refl; place = refl; function = refl }

pub items_are : {is others : List Item} {cells : List Cell} (at : At) (body : List Stmt) → AreCells is cells others → others ≡ main_item at body ∷ [] → ItemsAre is cells at body
items_are at body (AreCells.none {others = others}) e = subst (λ is. ItemsAre is [] at body) (sym e) (only_main at body)
items_are at body (AreCells.globals {gs = gs} {is = is} v d) e =
    let r = items_are at body d e in
    record { globals = variables_are (globals_in is) v r.globals; mutexes = r.mutexes; statements = r.statements; place = r.place; function = r.function }
items_are at body (AreCells.input d) e =
    let r = items_are at body d e in
    record { globals = r.globals; mutexes = r.mutexes; statements = r.statements; place = r.place; function = r.function }
