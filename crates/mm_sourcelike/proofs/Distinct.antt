-- In an accepted text each global name is declared once.
use Rattle.std.proofs.Common.{◌≡◌, ℕ, ℤ, ◌+◌, ◌||◌, codes, Bool, true, false, List, [], ◌∷◌, ◌++◌, map, refl, ◌∙◌, sym, ap, subst, Option, Some, None}
use Rattle.std.specs.List.{AllByRecursion, list_any}
use Rattle.std.specs.Str.{bytes_eq}
use Rattle.mm_goto.specs.declared.ident.Ident.{Ident}
use Rattle.mm_tree.specs.declared.expr.Expr.{Expr}
use Rattle.mm_tree.specs.declared.expr.Word.{Word}
use Rattle.mm_tree.specs.declared.item.Global.{Global}
use Rattle.mm_tree.specs.declared.item.Item.{Item}
use Rattle.mm_tree.specs.declared.item.Item.TheVariants as item
use Rattle.mm_tree.specs.declared.side.Side.{Side}
use Rattle.mm_flow.specs.Programs.{globals_in, mutexes_in, mutexes_of}
use Rattle.mm_scope.specs.declared.table.Meaning.{Meaning}
use Rattle.mm_scope.specs.declared.table.Meaning.TheVariants as meaning
use Rattle.mm_scope.specs.Notes.{Note}
use Rattle.mm_scope.specs.Scopes.{Table, is_declared, meaning_in, with_name}
use Rattle.mm_scope.specs.Steps.{reserved}
use Rattle.mm_names.specs.Items.{is_main, meaning_of_global, listed_start, listed_global, listed_input, input_notes, listed_word, listed_item, listed_items}
use Rattle.mm_names.specs.Tops.{Listed, listed, listed_name, no_more, top_notes, top_then, tops}
use Rattle.mm_sourcelike.proofs.Cells.{both_all}
use Rattle.mm_sourcelike.proofs.Evaluating.{all_left, all_right}
use Rattle.mm_sourcelike.proofs.Scoping.{NoFault, fault_left, fault_right}
use Rattle.mm_sourcelike.proofs.Starting.{global_names}
use Rattle.mm_sourcelike.proofs.Tables.{all_weaker, differs, is_new, itself, now, same_names, still, true_is_not}
use Rattle.mm_sourcelike.proofs.Walking.{main_is}

-- the name is not declared in the table
abbrev IsFree : Table → Ident → Type 0
IsFree table x = is_declared (meaning_in table x) ≡ false

-- no name of these is one of those
abbrev Differs : Ident → Ident → Type 0
Differs x y = bytes_eq x y ≡ false

abbrev pub EachDiffers : List Global → Type 0
EachDiffers [] = Unit {0}
EachDiffers (g ∷ gs) = AllByRecursion (λ (h : Global). bytes_eq g.name h.name ≡ false) gs × EachDiffers gs

abbrev pub EachOnce : List Ident → Type 0
EachOnce [] = Unit {0}
EachOnce (m ∷ ms) = AllByRecursion (λ n. bytes_eq m n ≡ false) ms × EachOnce ms

-- these are declared once each, and the table has none of them
pub record Once (table : Table) (gs : List Global) (ms : List Ident) : Type 0 where
  pub globals : EachDiffers gs
  pub mutexes : EachOnce ms
  pub neither : AllByRecursion (λ (g : Global). AllByRecursion (λ m. bytes_eq g.name m ≡ false) ms) gs
  pub free_globals : AllByRecursion (λ (g : Global). IsFree table g.name) gs
  pub free_mutexes : AllByRecursion (IsFree table) ms

-- what a larger table has not, a smaller one has not
free_before : (table : Table) (x : Ident) (m : Meaning) (y : Ident) → is_declared (Some m) ≡ true → IsFree (with_name table x m) y → IsFree table y
free_before table x m y d h = by (is_declared (meaning_in table y)) refl
  where
    by : (b : Bool) → is_declared (meaning_in table y) ≡ b → b ≡ false
    by false e = refl
    by true e = true_is_not (sym (still table x m y d e) ∙ h)

other_name : (table : Table) (x : Ident) (m : Meaning) (y : Ident) → is_declared (Some m) ≡ true → IsFree (with_name table x m) y → bytes_eq x y ≡ false
other_name table x m y d h = differs (with_name table x m) x y (now table x m d) h

once_before : (table : Table) (x : Ident) (m : Meaning) (gs : List Global) (ms : List Ident) → is_declared (Some m) ≡ true → Once (with_name table x m) gs ms → Once table gs ms
once_before table x m gs ms d h = record {
  globals = h.globals;
  mutexes = h.mutexes;
  neither = h.neither;
  free_globals = all_weaker (λ (g : Global). IsFree (with_name table x m) g.name) (λ (g : Global). IsFree table g.name) (λ g f. free_before table x m g.name d f) gs h.free_globals;
  free_mutexes = all_weaker (IsFree (with_name table x m)) (IsFree table) (λ y f. free_before table x m y d f) ms h.free_mutexes;
}

more_global : (table : Table) (g : Global) (m : Meaning) (gs : List Global) (ms : List Ident) → is_declared (Some m) ≡ true → IsFree table g.name → Once (with_name table g.name m) gs ms → Once table (g ∷ gs) ms
more_global table g m gs ms d f h =
    let before = once_before table g.name m gs ms d h in
    record {
      globals = (all_weaker (λ (q : Global). IsFree (with_name table g.name m) q.name) (λ (q : Global). bytes_eq g.name q.name ≡ false) (λ q k. other_name table g.name m q.name d k) gs h.free_globals, h.globals);
      mutexes = h.mutexes;
      neither = (all_weaker (IsFree (with_name table g.name m)) (λ n. bytes_eq g.name n ≡ false) (λ n k. other_name table g.name m n d k) ms h.free_mutexes, h.neither);
      free_globals = (f, before.free_globals);
      free_mutexes = before.free_mutexes;
    }

-- a name that differs from another differs the other way round
turned : (x y : Ident) → bytes_eq x y ≡ false → bytes_eq y x ≡ false
turned x y e = by (bytes_eq y x) refl
  where
    by : (b : Bool) → bytes_eq y x ≡ b → b ≡ false
    by false q = refl
    by true q = true_is_not (sym (itself x) ∙ (ap (bytes_eq x) (sym (same_names y x q)) ∙ e))

neither_push : (x : Ident) (gs : List Global) (ms : List Ident) → AllByRecursion (λ (g : Global). bytes_eq x g.name ≡ false) gs → AllByRecursion (λ (g : Global). AllByRecursion (λ m. bytes_eq g.name m ≡ false) ms) gs
    → AllByRecursion (λ (g : Global). AllByRecursion (λ m. bytes_eq g.name m ≡ false) (x ∷ ms)) gs
neither_push x [] ms h k = tt
neither_push x (g ∷ gs) ms h k = ((turned x g.name h.0, k.0), neither_push x gs ms h.1 k.1)

more_mutex : (table : Table) (x : Ident) (m : Meaning) (gs : List Global) (ms : List Ident) → is_declared (Some m) ≡ true → IsFree table x → Once (with_name table x m) gs ms → Once table gs (x ∷ ms)
more_mutex table x m gs ms d f h =
    let before = once_before table x m gs ms d h in
    record {
      globals = h.globals;
      mutexes = (all_weaker (IsFree (with_name table x m)) (λ n. bytes_eq x n ≡ false) (λ n k. other_name table x m n d k) ms h.free_mutexes, h.mutexes);
      neither = neither_push x gs ms (all_weaker (λ (q : Global). IsFree (with_name table x m) q.name) (λ (q : Global). bytes_eq x q.name ≡ false) (λ q k. other_name table x m q.name d k) gs h.free_globals) h.neither;
      free_globals = before.free_globals;
      free_mutexes = (f, before.free_mutexes);
    }

-- ---- items

-- the names of mutexes and functions
abbrev pub others_of : Item → List Ident
others_of (item.Globals gs) = []
others_of (item.Mutexes ws) = map (λ (w : Word). w.name) ws
others_of (item.Threads ws) = []
others_of (item.InputDecl at x) = []
others_of (item.Function at gives x ps ss) = x ∷ []

abbrev pub others_in : List Item → List Ident
others_in [] = []
others_in (i ∷ is) = others_of i ++ others_in is

global_meant : (pointer : Bool) (len : Option ℤ) → is_declared (Some (meaning_of_global pointer len)) ≡ true
global_meant pointer (Some n) = refl
global_meant true None = refl
global_meant false None = refl

starts_keep : (pointer : Bool) (es : List Expr) (table : Table) → (tops (listed_start pointer) es (global_names table)).globals ≡ table
unfolding tops no_more top_then listed_start top_notes
starts_keep pointer [] table = refl
starts_keep pointer (e ∷ es) table = starts_keep pointer es table

module _ (side : Side) where
  one_global : (g : Global) (gs : List Global) (ms : List Ident) (table : Table) → NoFault (listed_global side g (global_names table)).notes → Once (listed_global side g (global_names table)).globals gs ms → Once table (g ∷ gs) ms
  unfolding listed_global top_then top_notes listed_name
  one_global g gs ms table f h =
      let m : Meaning = meaning_of_global g.pointer g.len in
      let here : Listed = listed g.at g.name m (global_names table) in
      let first : List Note = reserved side g.at g.name ++ here.notes in
      let new = is_new g.at g.name m (global_names table) (fault_right (reserved side g.at g.name) here.notes (fault_left first _ f)) in
      more_global table g m gs ms (global_meant g.pointer g.len) new.fresh
      (subst (λ (q : Table). Once q gs ms) (starts_keep g.pointer g.init here.globals ∙ new.globals) h)

  globals_once : (gs after : List Global) (ms : List Ident) (table : Table) → NoFault (tops (listed_global side) gs (global_names table)).notes → Once (tops (listed_global side) gs (global_names table)).globals after ms → Once table (gs ++ after) ms
  unfolding tops no_more top_then
  globals_once [] after ms table f h = h
  globals_once (g ∷ gs) after ms table f h =
      let said : Listed = listed_global side g (global_names table) in
      one_global g (gs ++ after) ms table (fault_left said.notes _ f) (globals_once gs after ms said.globals (fault_right said.notes _ f) h)

  mutexes_once : (ws : List Word) (gs : List Global) (ms : List Ident) (table : Table) → NoFault (tops (listed_word side meaning.Mutex) ws (global_names table)).notes → Once (tops (listed_word side meaning.Mutex) ws (global_names table)).globals gs ms → Once table gs (map (λ (w : Word). w.name) ws ++ ms)
  unfolding tops no_more top_then listed_word listed_name top_notes
  mutexes_once [] gs ms table f h = h
  mutexes_once (w ∷ ws) gs ms table f h =
      let here : Listed = listed w.at w.name meaning.Mutex (global_names table) in
      let notes : List Note = reserved side w.at w.name ++ here.notes in
      let new = is_new w.at w.name meaning.Mutex (global_names table) (fault_right (reserved side w.at w.name) here.notes (fault_left notes _ f)) in
      more_mutex table w.name meaning.Mutex gs (map (λ (v : Word). v.name) ws ++ ms) refl new.fresh
      (subst (λ (q : Table). Once q gs (map (λ (v : Word). v.name) ws ++ ms)) new.globals (mutexes_once ws gs ms here.globals (fault_right notes _ f) h))

  threads_once : (ws : List Word) (gs : List Global) (ms : List Ident) (table : Table) → NoFault (tops (listed_word side meaning.SharedThread) ws (global_names table)).notes → Once (tops (listed_word side meaning.SharedThread) ws (global_names table)).globals gs ms → Once table gs ms
  unfolding tops no_more top_then listed_word listed_name top_notes
  threads_once [] gs ms table f h = h
  threads_once (w ∷ ws) gs ms table f h =
      let here : Listed = listed w.at w.name meaning.SharedThread (global_names table) in
      let notes : List Note = reserved side w.at w.name ++ here.notes in
      let new = is_new w.at w.name meaning.SharedThread (global_names table) (fault_right (reserved side w.at w.name) here.notes (fault_left notes _ f)) in
      once_before table w.name meaning.SharedThread gs ms refl
      (subst (λ (q : Table). Once q gs ms) new.globals (threads_once ws gs ms here.globals (fault_right notes _ f) h))

  item_once : (items : List Item) (k : ℕ) (it : Item) (is : List Item) (table : Table) → NoFault (listed_item side items k it (global_names table)).notes
      → Once (listed_item side items k it (global_names table)).globals (globals_in is) (others_in is) → Once table (globals_in (it ∷ is)) (others_in (it ∷ is))
  unfolding listed_item listed_input top_then top_notes listed_name
  item_once items k (item.Globals gs) is table f h = globals_once gs (globals_in is) (others_in is) table f h
  item_once items k (item.Mutexes ws) is table f h = mutexes_once ws (globals_in is) (others_in is) table f h
  item_once items k (item.Threads ws) is table f h = threads_once ws (globals_in is) (others_in is) table f h
  item_once items k (item.InputDecl at x) is table f h =
      let notes : List Note = input_notes side at x (global_names table) in
      let new = is_new at x meaning.Input (global_names table) (fault_right notes _ f) in
      once_before table x meaning.Input (globals_in is) (others_in is) refl (subst (λ (q : Table). Once q (globals_in is) (others_in is)) new.globals h)
  item_once items k (item.Function at g x ps ss) is table f h =
      let here : Listed = listed at x (meaning.Function k) (global_names table) in
      let first : List Note = reserved side at x ++ here.notes in
      let new = is_new at x (meaning.Function k) (global_names table) (fault_right (reserved side at x) here.notes (fault_left first _ f)) in
      more_mutex table x (meaning.Function k) (globals_in is) (others_in is) refl new.fresh (subst (λ (q : Table). Once q (globals_in is) (others_in is)) new.globals h)

  pub items_once : (items : List Item) (k : ℕ) (is : List Item) (table : Table) → NoFault (listed_items side items k is (global_names table)).notes → Once table (globals_in is) (others_in is)
  unfolding listed_items no_more top_then
  items_once items k [] table f = record { globals = tt; mutexes = tt; neither = tt; free_globals = tt; free_mutexes = tt }
  items_once items k (it ∷ is) table f =
      let said : Listed = listed_item side items k it (global_names table) in
      item_once items k it is table (fault_left said.notes _ f) (items_once items (k + 1) is said.globals (fault_right said.notes _ f))

-- ---- mutexes among others

mutexes_among_of : (P : Ident → Type 0) (i : Item) (ns ms : List Ident) → AllByRecursion P (others_of i ++ ns) → AllByRecursion P ms → AllByRecursion P (mutexes_of i ++ ms)
mutexes_among_of P (item.Globals gs) ns ms h g = g
mutexes_among_of P (item.Mutexes ws) ns ms h g = both_all P (map (λ (w : Word). w.name) ws) ms (all_left P (map (λ (w : Word). w.name) ws) ns h) g
mutexes_among_of P (item.Threads ws) ns ms h g = g
mutexes_among_of P (item.InputDecl at x) ns ms h g = g
mutexes_among_of P (item.Function at gives x ps ss) ns ms h g = g

pub mutexes_among : (P : Ident → Type 0) (is : List Item) → AllByRecursion P (others_in is) → AllByRecursion P (mutexes_in is)
mutexes_among P [] h = tt
mutexes_among P (i ∷ is) h = mutexes_among_of P i (others_in is) (mutexes_in is) h (mutexes_among P is (all_right P (others_of i) (others_in is) h))

words_once : (xs ns ms : List Ident) → ((P : Ident → Type 0) → AllByRecursion P ns → AllByRecursion P ms) → EachOnce (xs ++ ns) → EachOnce ms → EachOnce (xs ++ ms)
words_once [] ns ms f h g = g
words_once (x ∷ xs) ns ms f h g =
    let P : Ident → Type 0 = λ n. bytes_eq x n ≡ false in
    (both_all P xs ms (all_left P xs ns h.0) (f P (all_right P xs ns h.0)), words_once xs ns ms f h.1 g)

once_right : (xs ns : List Ident) → EachOnce (xs ++ ns) → EachOnce ns
once_right [] ns h = h
once_right (x ∷ xs) ns h = once_right xs ns h.1

pub mutexes_once_each : (is : List Item) → EachOnce (others_in is) → EachOnce (mutexes_in is)
mutexes_once_each [] h = tt
mutexes_once_each (i ∷ is) h = by i h (mutexes_once_each is (once_right (others_of i) (others_in is) h))
  where
    by : (j : Item) → EachOnce (others_of j ++ others_in is) → EachOnce (mutexes_in is) → EachOnce (mutexes_of j ++ mutexes_in is)
    by (item.Globals gs) k g = g
    by (item.Mutexes ws) k g = words_once (map (λ (w : Word). w.name) ws) (others_in is) (mutexes_in is) (λ P. mutexes_among P is) k g
    by (item.Threads ws) k g = g
    by (item.InputDecl at x) k g = g
    by (item.Function at gives x ps ss) k g = g

-- ---- main

main_first : (P : Ident → Type 0) (i : Item) (ns : List Ident) → is_main i ≡ true → AllByRecursion P (others_of i ++ ns) → P (codes "main")
main_first P (item.Globals gs) ns e h = true_is_not (sym e)
main_first P (item.Mutexes ws) ns e h = true_is_not (sym e)
main_first P (item.Threads ws) ns e h = true_is_not (sym e)
main_first P (item.InputDecl at x) ns e h = true_is_not (sym e)
main_first P (item.Function at gives x ps ss) ns e h = subst P (main_is at gives x ps ss e) h.0

-- what holds of mutexes and functions holds of main
pub main_among : (P : Ident → Type 0) (is : List Item) → list_any is_main is ≡ true → AllByRecursion P (others_in is) → P (codes "main")
main_among P [] e h = true_is_not (sym e)
main_among P (i ∷ is) e h = by (is_main i) refl e (λ q. main_among P is q (all_right P (others_of i) (others_in is) h))
  where
    by : (b : Bool) → is_main i ≡ b → (b || list_any is_main is) ≡ true → (list_any is_main is ≡ true → P (codes "main")) → P (codes "main")
    by true q r g = main_first P i (others_in is) q h
    by false q r g = g r

-- no mutex has the name of main
pub mutexes_not_main : (is : List Item) → list_any is_main is ≡ true → EachOnce (others_in is) → AllByRecursion (λ m. bytes_eq m (codes "main") ≡ false) (mutexes_in is)
mutexes_not_main [] e h = tt
mutexes_not_main (i ∷ is) e h = by i e h (λ q. mutexes_not_main is q (once_right (others_of i) (others_in is) h))
  where
    words : (xs : List Ident) → list_any is_main is ≡ true → EachOnce (xs ++ others_in is) → AllByRecursion (λ m. bytes_eq m (codes "main") ≡ false) xs
    words [] q k = tt
    words (x ∷ xs) q k = (main_among (λ n. bytes_eq x n ≡ false) is q (all_right (λ n. bytes_eq x n ≡ false) xs (others_in is) k.0), words xs q k.1)

    function : (b : Bool) (j : Item) (x : Ident) → is_main j ≡ b → (is_main j ≡ true → x ≡ codes "main") → AllByRecursion (λ n. bytes_eq x n ≡ false) (others_in is) → (b || list_any is_main is) ≡ true → (list_any is_main is ≡ true → AllByRecursion (λ m. bytes_eq m (codes "main") ≡ false) (mutexes_in is))
        → AllByRecursion (λ m. bytes_eq m (codes "main") ≡ false) (mutexes_in is)
    function true j x q name k r g =
        all_weaker (λ n. bytes_eq x n ≡ false) (λ m. bytes_eq m (codes "main") ≡ false) (λ m d. turned (codes "main") m (subst (λ y. bytes_eq y m ≡ false) (name q) d)) (mutexes_in is) (mutexes_among (λ n. bytes_eq x n ≡ false) is k)
    function false j x q name k r g = g r

    by : (j : Item) → (is_main j || list_any is_main is) ≡ true → EachOnce (others_of j ++ others_in is) → (list_any is_main is ≡ true → AllByRecursion (λ m. bytes_eq m (codes "main") ≡ false) (mutexes_in is))
        → AllByRecursion (λ m. bytes_eq m (codes "main") ≡ false) (mutexes_of j ++ mutexes_in is)
    by (item.Globals gs) q k g = g q
    by (item.Mutexes ws) q k g = both_all (λ m. bytes_eq m (codes "main") ≡ false) (map (λ (w : Word). w.name) ws) (mutexes_in is) (words (map (λ (w : Word). w.name) ws) q k) (g q)
    by (item.Threads ws) q k g = g q
    by (item.InputDecl at x) q k g = g q
    by (item.Function at gives x ps ss) q k g = function (is_main (item.Function at gives x ps ss)) (item.Function at gives x ps ss) x refl (λ r. main_is at gives x ps ss r) k.0 q g
