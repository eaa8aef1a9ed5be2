-- The names of an accepted source's cells and mutexes may be declared.
use Rattle.std.proofs.Common.{◌≡◌, ℕ, ◌+◌, nat_eq, Bool, true, false, if◌then◌else◌, List, [], ◌∷◌, ◌++◌, map, codes, All, refl, ◌∙◌, sym, ap}
use Rattle.std.specs.List.{AllByRecursion, starts_with}
use Rattle.std.specs.Str.{bytes_eq}
use Rattle.std.proofs.lemmas.List.Elements.{All-from_recursion}
use Rattle.mm_goto.specs.declared.ident.At.{At}
use Rattle.mm_goto.specs.declared.ident.Ident.{Ident}
use Rattle.mm_goto.specs.declared.program.Cell.{Cell}
use Rattle.mm_goto.specs.Names.{IsDeclarable}
use Rattle.mm_tree.specs.declared.expr.Word.{Word}
use Rattle.mm_tree.specs.declared.item.Global.{Global}
use Rattle.mm_tree.specs.declared.item.Item.{Item}
use Rattle.mm_tree.specs.declared.item.Item.TheVariants as item
use Rattle.mm_tree.specs.declared.item.Tree.{Tree}
use Rattle.mm_tree.specs.declared.side.Side.{Side}
use Rattle.mm_tree.specs.declared.side.Side.TheVariants.{Source}
use Rattle.mm_flow.specs.Programs.{globals_in, mutexes_in, parts_of, program_of}
use Rattle.mm_scope.specs.declared.fault.Rule.TheVariants.{ReservedName}
use Rattle.mm_scope.specs.declared.table.Meaning.TheVariants as meaning
use Rattle.mm_scope.specs.Notes.{refusal}
use Rattle.mm_scope.specs.Scopes.{Table}
use Rattle.mm_scope.specs.Steps.{is_reserved_on, reserved}
use Rattle.mm_names.specs.Items.{ahead, listed_global, listed_item, listed_items, listed_word, meaning_of_global}
use Rattle.mm_names.specs.Programs.{IsAccepted}
use Rattle.mm_names.specs.Tops.{Listed, listed, listed_name, no_more, top_notes, top_then, tops}
use Rattle.mm_sourcelike.specs.Grammatical.{IsGlobal, IsGrammatical, IsName}
use Rattle.mm_sourcelike.proofs.Cells.{both_all}
use Rattle.mm_sourcelike.proofs.CellsOf.{anything, cells_each}
use Rattle.mm_sourcelike.proofs.Distinct.{items_once, main_among, mutexes_not_main, others_in}
use Rattle.mm_sourcelike.proofs.Scoping.{NoFault, fault_left, fault_right}
use Rattle.mm_sourcelike.proofs.Starting.{global_names}
use Rattle.mm_sourcelike.proofs.Tables.{itself, true_is_not}
use Rattle.mm_sourcelike.proofs.Validity.{accepted_notes, first_false, second_false}

-- ---- names that are reserved

abbrev IsFree : Side → Ident → Type 0
IsFree side x = is_reserved_on side x ≡ false

not_reserved : (side : Side) (at : At) (x : Ident) → NoFault (reserved side at x) → IsFree side x
unfolding reserved
not_reserved side at x f = by (is_reserved_on side x) f
  where
    by : (b : Bool) → NoFault (if b then refusal ReservedName at ∷ [] else []) → b ≡ false
    by true h = absurd h
    by false h = refl

module _ (side : Side) where
  globals_free : (gs : List Global) (table : Table) → NoFault (tops (listed_global side) gs (global_names table)).notes → AllByRecursion (λ (g : Global). IsFree side g.name) gs
  unfolding tops no_more top_then top_notes listed_global listed_name
  globals_free [] table f = tt
  globals_free (g ∷ gs) table f =
      let said : Listed = listed_global side g (global_names table) in
      let here : Listed = listed g.at g.name (meaning_of_global g.pointer g.len) (global_names table) in
      (not_reserved side g.at g.name (fault_left (reserved side g.at g.name) here.notes (fault_left (reserved side g.at g.name ++ here.notes) _ (fault_left said.notes _ f))), globals_free gs said.globals (fault_right said.notes _ f))

  mutexes_free : (ws : List Word) (table : Table) → NoFault (tops (listed_word side meaning.Mutex) ws (global_names table)).notes → AllByRecursion (IsFree side) (map (λ (w : Word). w.name) ws)
  unfolding tops no_more top_then top_notes listed_word listed_name
  mutexes_free [] table f = tt
  mutexes_free (w ∷ ws) table f =
      let said : Listed = listed_word side meaning.Mutex w (global_names table) in
      let here : Listed = listed w.at w.name meaning.Mutex (global_names table) in
      (not_reserved side w.at w.name (fault_left (reserved side w.at w.name) here.notes (fault_left said.notes _ f)), mutexes_free ws said.globals (fault_right said.notes _ f))

  abbrev AreFree : List Item → Type 0
  AreFree is = AllByRecursion (λ (g : Global). IsFree side g.name) (globals_in is) × AllByRecursion (IsFree side) (mutexes_in is)

  item_free : (items : List Item) (k : ℕ) (i : Item) (is : List Item) (table : Table) → NoFault (listed_item side items k i (global_names table)).notes → AreFree is → AreFree (i ∷ is)
  unfolding listed_item
  item_free items k (item.Globals gs) is table f h = (both_all (λ (g : Global). IsFree side g.name) gs (globals_in is) (globals_free gs table f) h.0, h.1)
  item_free items k (item.Mutexes ws) is table f h = (h.0, both_all (IsFree side) (map (λ (w : Word). w.name) ws) (mutexes_in is) (mutexes_free ws table f) h.1)
  item_free items k (item.Threads ws) is table f h = h
  item_free items k (item.InputDecl at x) is table f h = h
  item_free items k (item.Function at gives x ps ss) is table f h = h

  items_free : (items : List Item) (k : ℕ) (is : List Item) (table : Table) → NoFault (listed_items side items k is (global_names table)).notes → AreFree is
  unfolding listed_items no_more top_then
  items_free items k [] table f = (tt, tt)
  items_free items k (i ∷ is) table f =
      let said : Listed = listed_item side items k i (global_names table) in
      item_free items k i is table (fault_left said.notes _ f) (items_free items (k + 1) is said.globals (fault_right said.notes _ f))

-- ---- names that may be declared

declarable : (x : Ident) → IsName x → IsFree Source x → bytes_eq x (codes "main") ≡ false → IsDeclarable x
declarable x h f m =
    record {
      text = h.text;
      name = h.name;
      no_word = h.no_word;
      not_woven = first_false (starts_with nat_eq x (codes "wm_")) (starts_with nat_eq x (codes "nondet_")) f;
      no_input = second_false (starts_with nat_eq x (codes "wm_")) (starts_with nat_eq x (codes "nondet_")) f;
      not_main = λ e. true_is_not (sym (itself x) ∙ (ap (bytes_eq x) e ∙ m));
    }

each_two : {A : Type 0} (P Q R : A → Type 0) → ((x : A) → P x → Q x → R x) → (xs : List A) → AllByRecursion P xs → AllByRecursion Q xs → AllByRecursion R xs
each_two P Q R f [] h g = tt
each_two P Q R f (x ∷ xs) h g = (f x h.0 g.0, each_two P Q R f xs h.1 g.1)

module _ (tree : Tree) (g : IsGrammatical Source tree) (accepted : IsAccepted Source tree) where
  abbrev items : List Item
  items = tree.items

  free : AreFree Source items
  free = items_free Source items 0 items (ahead [] 0 items) (accepted_notes Source tree accepted)

  abbrev IsNamed : Ident → Type 0
  IsNamed x = IsFree Source x × (bytes_eq x (codes "main") ≡ false)

  globals_declarable : AllByRecursion (λ (q : Global). IsDeclarable q.name) (globals_in items)
  globals_declarable =
      let once = items_once Source items 0 items (ahead [] 0 items) (accepted_notes Source tree accepted) in
      each_two (λ (q : Global). IsGlobal q) (λ (q : Global). IsNamed q.name) (λ (q : Global). IsDeclarable q.name) (λ q h n. declarable q.name h.name n.0 n.1) (globals_in items) g.globals
      (each_two (λ (q : Global). IsFree Source q.name) (λ (q : Global). AllByRecursion (λ m. bytes_eq q.name m ≡ false) (others_in items)) (λ (q : Global). IsNamed q.name)
      (λ q h n. (h, main_among (λ m. bytes_eq q.name m ≡ false) items accepted.main n)) (globals_in items) free.0 once.neither)

  pub mutexes_declarable : All IsDeclarable (program_of Source tree).mutexes
  mutexes_declarable =
      let once = items_once Source items 0 items (ahead [] 0 items) (accepted_notes Source tree accepted) in
      All-from_recursion IsDeclarable (mutexes_in items)
      (each_two IsName IsNamed IsDeclarable (λ x h n. declarable x h n.0 n.1) (mutexes_in items) g.mutexes
      (each_two (IsFree Source) (λ m. bytes_eq m (codes "main") ≡ false) IsNamed (λ x h n. (h, n)) (mutexes_in items) free.1 (mutexes_not_main items accepted.main once.mutexes)))

  pub cells_declarable : All (λ (c : Cell). IsDeclarable c.name) (program_of Source tree).cells
  cells_declarable =
      All-from_recursion (λ (c : Cell). IsDeclarable c.name) (program_of Source tree).cells
      (cells_each (parts_of Source items).spots (λ q e. Unit {0}) (λ (q : Global). IsDeclarable q.name) (λ (c : Cell). IsDeclarable c.name) (λ q. tt) (λ q n s h i e d. h) (λ q s h e d. h) (globals_in items) globals_declarable (anything (parts_of Source items).spots (globals_in items)))
