-- One more of the items, elements or functions.
use Rattle.std.proofs.Common.{arith, ◌≡◌, ℕ, zero, suc, ◌+◌, ◌-◌, ◌<◌, Bool, true, false, ◌||◌, List, [], ◌∷◌, ◌++◌, length, drop, get_or, refl, ◌∙◌, sym, ap, add-one, append_assoc, Some, if◌then◌else◌}
use Rattle.std.proofs.lemmas.List.{get_or_default}
use Rattle.mm_goto.specs.declared.ident.Ident.{Ident}
use Rattle.mm_goto.specs.declared.program.Cell.{Cell}
use Rattle.mm_goto.specs.declared.pure.Pure.{Pure}
use Rattle.mm_tree.specs.declared.expr.Expr.{Expr}
use Rattle.mm_tree.specs.declared.item.Global.{Global}
use Rattle.mm_tree.specs.declared.item.Item.{Item}
use Rattle.mm_flow.specs.declared.names.Spot.{Spot}
use Rattle.mm_flow.specs.Programs.{cell_count, elements, first_start, globals_in, globals_of, cells_of, cells_of_length, nests, nests_too_deep, most_calls, body_in}
use Rattle.mm_flow.specs.Text.{calls_in}
use Rattle.mm_flat.specs.reading.Nesting.{callee, deep_after, deep_of, graph}
use Rattle.mm_flat.proofs.Nests.{nests_is}
use Rattle.mm_flow.specs.Statements.{as_function, function_of, is_function}
use Rattle.mm_flat.proofs.Order.{split_at}

pub count_append : (gs hs : List Global) → cell_count (gs ++ hs) ≡ cell_count gs + cell_count hs
count_append [] hs = omega arith
count_append (g ∷ gs) hs = omega (arith, count_append gs hs)

pub next_globals : (items : List Item) (i : ℕ) (item : Item) → i < length items → item ≡ get_or items i item → cell_count (globals_in (drop i items)) ≡ cell_count (globals_of item) + cell_count (globals_in (drop (i + 1) items))
next_globals items i item within is = ap (λ js. cell_count (globals_in js)) (split_at items i item within is) ∙ count_append (globals_of item) (globals_in (drop (i + 1) items))

drop_twice : {A : Type 0} (xs : List A) (i : ℕ) → drop 1 (drop i xs) ≡ drop (i + 1) xs
drop_twice xs zero = refl
drop_twice [] (suc i) = ap (λ n. drop n []) (sym (add-one (suc i)))
drop_twice (x ∷ xs) (suc i) = let e : suc (i + 1) ≡ suc i + 1 = omega arith in drop_twice xs i ∙ ap (λ n. drop n (x ∷ xs)) e

one_element : (ss : List Spot) (g : Global) (i n : ℕ) (es : List Expr) → elements ss g i (suc n) es ≡ record { name = g.name; index = Some i; pointer = g.pointer; init = first_start ss es } ∷ elements ss g (i + 1) n (drop 1 es)
one_element ss g i n [] = refl
one_element ss g i n (e ∷ es) = refl

next_element : (ss : List Spot) (g : Global) (i count : ℕ) → i < count
    → elements ss g i (count - i) (drop i g.init) ≡ record { name = g.name; index = Some i; pointer = g.pointer; init = first_start ss (drop i g.init) } ∷ elements ss g (i + 1) (count - (i + 1)) (drop (i + 1) g.init)
next_element ss g i count room =
    let more : count - i ≡ suc (count - (i + 1)) = omega arith in
    ap (λ n. elements ss g i n (drop i g.init)) more
    ∙ one_element ss g i (count - (i + 1)) (drop i g.init)
    ∙ ap (λ es. record { name = g.name; index = Some i; pointer = g.pointer; init = first_start ss (drop i g.init) } ∷ elements ss g (i + 1) (count - (i + 1)) es) (drop_twice g.init i)

pub add_element : (ss : List Spot) (g : Global) (i count : ℕ) (whole out out' : List Cell) (es : List Expr) (init : Pure) → i < count → es ≡ g.init
    → whole ≡ out ++ elements ss g i (count - i) (drop i g.init)
    → init ≡ first_start ss (drop i es)
    → out' ≡ out ++ record { name = g.name; index = Some i; pointer = g.pointer; init = init } ∷ []
    → whole ≡ out' ++ elements ss g (i + 1) (count - (i + 1)) (drop (i + 1) g.init)
add_element ss g i count whole out out' es init room same before is added =
    let rest : List Cell = elements ss g (i + 1) (count - (i + 1)) (drop (i + 1) g.init) in
    let start : init ≡ first_start ss (drop i g.init) = is ∙ ap (λ xs. first_start ss (drop i xs)) same in
    before
    ∙ ap (λ cs. out ++ cs) (next_element ss g i count room)
    ∙ sym (append_assoc out (record { name = g.name; index = Some i; pointer = g.pointer; init = first_start ss (drop i g.init) } ∷ []) rest)
    ∙ ap (λ p. (out ++ record { name = g.name; index = Some i; pointer = g.pointer; init = p } ∷ []) ++ rest) (sym start)
    ∙ ap (λ cs. cs ++ rest) (sym added)

pub split_globals : (items : List Item) (i : ℕ) (item : Item) → i < length items → item ≡ get_or items i item → globals_in (drop i items) ≡ globals_of item ++ globals_in (drop (i + 1) items)
split_globals items i item within is = ap globals_in (split_at items i item within is)

pub cells_append : (ss : List Spot) (gs hs : List Global) → cells_of ss (gs ++ hs) ≡ cells_of ss gs ++ cells_of ss hs
cells_append ss [] hs = refl
cells_append ss (g ∷ gs) hs = ap (λ cs. cells_of_length ss g g.len ++ cs) (cells_append ss gs hs) ∙ sym (append_assoc (cells_of_length ss g g.len) (cells_of ss gs) (cells_of ss hs))

pub next_cells : (ss : List Spot) (items : List Item) (i : ℕ) (item : Item) → i < length items → item ≡ get_or items i item
    → cells_of ss (globals_in (drop i items)) ≡ cells_of ss (globals_of item) ++ cells_of ss (globals_in (drop (i + 1) items))
next_cells ss items i item within is = ap (cells_of ss) (split_globals items i item within is) ∙ cells_append ss (globals_of item) (globals_in (drop (i + 1) items))

pub next_nest : (items : List Item) (fs : List Ident) (i : ℕ) (f : Ident) (D : List Bool) (b : Bool) → i < length fs → f ≡ get_or fs i f → D ≡ deep_after (graph items) most_calls → b ≡ deep_of D (callee items f)
    → nests_too_deep items (drop i fs) ≡ b || nests_too_deep items (drop (i + 1) fs)
next_nest items fs i f D b within is table e =
    let deep : b ≡ nests items most_calls (calls_in (body_in items f)) = e ∙ ap (λ d. deep_of d (callee items f)) table ∙ nests_is items f most_calls in
    ap (nests_too_deep items) (split_at fs i f within is) ∙ ap (λ c. c || nests_too_deep items (drop (i + 1) fs)) (sym deep)
