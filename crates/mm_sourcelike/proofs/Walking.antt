-- What is accepted of a whole text: each function and each global.
use Rattle.std.proofs.Common.{arith, ◌≡◌, ℕ, ℤ, pos, negsuc, ◌+◌, ◌<◌, ◌≤◌, ◌^◌, nat_eq, Bool, true, false, not, ◌||◌, if◌then◌else◌, is_some, List, [], ◌∷◌, ◌++◌, length, map, refl, ◌∙◌, sym, ap, subst, append_assoc, Option, Some, None, codes}
use Rattle.std.specs.Prelude.{int_lt}
use Rattle.std.specs.List.{AllByRecursion, slice_get, starts_with, list_any}
use Rattle.std.specs.Str.{bytes_eq}
use Rattle.std.proofs.lemmas.List.{append-nil, length-append}
use Rattle.std.proofs.lemmas.Bool.Decides.{nat_tests}
use Rattle.mm_goto.specs.declared.ident.At.{At}
use Rattle.mm_goto.specs.declared.ident.Ident.{Ident}
use Rattle.mm_goto.specs.Listing.{Listing}
use Rattle.mm_goto.specs.Valid.{IsInt, IsRow}
use Rattle.mm_tree.specs.declared.expr.Expr.{Expr}
use Rattle.mm_tree.specs.declared.expr.Word.{Word}
use Rattle.mm_tree.specs.declared.item.Gives.{Gives}
use Rattle.mm_tree.specs.declared.item.Gives.TheVariants as gives
use Rattle.mm_tree.specs.declared.item.Global.{Global}
use Rattle.mm_tree.specs.declared.item.Item.{Item}
use Rattle.mm_tree.specs.declared.item.Item.TheVariants as item
use Rattle.mm_tree.specs.declared.item.Param.{Param}
use Rattle.mm_tree.specs.declared.side.Side.{Side}
use Rattle.mm_tree.specs.declared.stmt.Stmt.{Stmt}
use Rattle.mm_flow.specs.declared.names.Named.{Named}
use Rattle.mm_flow.specs.declared.names.Parts.{Parts}
use Rattle.mm_flow.specs.declared.names.Spot.{Spot}
use Rattle.mm_flow.specs.Programs.{globals_in, globals_of, mutexes_in, mutexes_of, natural, cells_in, length_of, spots, parts_of, body_of, asserts_before, start_value}
use Rattle.mm_flow.specs.Scopes.{spot_of, named}
use Rattle.mm_flow.specs.Statements.{Function, function_of, is_function, as_function, bound}
use Rattle.mm_flow.specs.Text.{asserts_in}
use Rattle.mm_scope.specs.declared.around.Around.{Around}
use Rattle.mm_scope.specs.declared.table.Meaning.{Meaning}
use Rattle.mm_scope.specs.declared.table.Meaning.TheVariants as meaning
use Rattle.mm_scope.specs.Declarations.{meaning_of_local}
use Rattle.mm_scope.specs.Notes.{Note, Use}
use Rattle.mm_scope.specs.Scopes.{Names, Table, Named as NamedAs, named_as, meaning_in, with_name, is_declared, is_taken}
use Rattle.mm_scope.specs.Statements.{all_at, said_stmt}
use Rattle.mm_scope.specs.Steps.{Said, skip, behind, and_then, in_turn, reserved, declaring}
use Rattle.mm_scope.specs.Values.{can_be_called}
use Rattle.mm_names.specs.Items.{meaning_of_global, refused_if, length_notes, noted_length, listed_start, start_notes, listed_global, is_main, meaning_of_param, declared_param, in_function, body_of as body_step, labels_of, function_notes, ahead, with_ahead, unknown_prototype, woven_prototype, input_notes, listed_input, listed_word, listed_item, listed_items}
use Rattle.mm_names.specs.Labels.{with_labels, labels_notes}
use Rattle.mm_names.specs.Tops.{Listed, no_more, top_notes, top_then, tops, listed, listed_name}
use Rattle.mm_sourcelike.specs.Ints.{all_numbers, numbers_of, of_globals, of_item, of_items, of_stmts, asserts_of}
use Rattle.mm_sourcelike.specs.Shapes.{body_scoped, items_scoped}
use Rattle.mm_sourcelike.proofs.Cells.{row_of, at_right, both_all, EachHasCells, EachStarts, StartsIn}
use Rattle.mm_sourcelike.proofs.Evaluating.{all_left, all_right}
use Rattle.mm_sourcelike.proofs.Inlining.{AcceptedBody}
use Rattle.mm_sourcelike.proofs.Leaves.{declared_is}
use Rattle.mm_sourcelike.proofs.Noting.{function_uses, other_idle}
use Rattle.mm_sourcelike.proofs.Scoping.{NoFault, fault_left, fault_right, HasMutex, IsGlobalOf, HasFunction, Means, Stands, Sees, IsSound, none_is_not}
use Rattle.mm_sourcelike.proofs.Standing.{sees_nil, sees_thread, sees_local, stands_for}
use Rattle.mm_sourcelike.proofs.Starting.{global_names, no_thread, start_fine}
use Rattle.mm_sourcelike.proofs.Tables.{Behind, itself, same_names, sound_with, IsListed, GlobalListed, is_new, behind_with, now, differs, spot_here, mutex_here, true_is_not, all_weaker}
use Rattle.mm_sourcelike.proofs.TypedNames.{GlobalsFit, SeesTypes, StandsAs, stands_as, types_local, types_nil, types_thread}
use Rattle.mm_sourcelike.proofs.TypedStarts.{StartTyped, Starts, start_typed}
use Rattle.mm_sourcelike.proofs.TypedValues.{ParamsTyped}
use Rattle.mm_sourcelike.proofs.Using.{uses, uses_append}
use Rattle.mm_sourcelike.proofs.Valuing.{test_first, test_second}

pub main_is : (at : At) (g : Gives) (x : Ident) (ps : List Param) (ss : List Stmt) → is_main (item.Function at g x ps ss) ≡ true → x ≡ codes "main"
main_is at gives.Int x [] ss e = same_names x (codes "main") e
main_is at gives.Int x (q ∷ ps) ss e = true_is_not (sym e)
main_is at gives.Pointer x ps ss e = true_is_not (sym e)
main_is at gives.Nothing x ps ss e = true_is_not (sym e)
main_is at gives.Thread x ps ss e = true_is_not (sym e)

-- ---- parameters

module _ (p : Listing) (items : List Item) where
  -- those of a function that is called stand for its first locals
  params_see : (a : Around) → ((b : Bool) → meaning_of_param a.gives b ≡ meaning_of_local b) → (ps : List Param) (names : Names) (ns : List Named) (n : ℕ) → Sees names.locals ns → NoFault (in_turn (declared_param a) ps names).notes
      → Sees (names.locals ++ (in_turn (declared_param a) ps names).declared) (ns ++ bound ps n)
  unfolding in_turn and_then skip declared_param declaring
  params_see a g [] names ns n s f = subst (λ (ms : List Named). Sees (names.locals ++ []) ms) (sym (append-nil ns)) (sees_nil names.locals ns s)
  params_see a g (q ∷ ps) names ns n s f =
      let names1 : Names = record names { locals = names.locals ++ [] } in
      let m : Meaning = meaning_of_param a.gives q.pointer in
      let said : Said = declared_param a q names in
      let e : said.declared ≡ named_as q.name.name m ∷ [] = declared_is p no_thread items (is_taken names1 a.from q.name.name) q.name.at q.name.name m names1 (fault_right (reserved a.side q.name.at q.name.name) _ (fault_left said.notes _ f)) in
      let one : Sees (names.locals ++ said.declared) (ns ++ named q.name.name n ∷ []) =
      subst (λ (ds : List NamedAs). Sees (names.locals ++ ds) (ns ++ named q.name.name n ∷ [])) (sym e)
      (sees_local names.locals ns q.name.name n m (λ y h. subst (Stands (ns ++ named q.name.name n ∷ []) y) (sym (g q.pointer)) (stands_for ns q.name.name n q.pointer y h)) s) in
      let before : Names = behind (declared_param a q) names in
      let two = params_see a g ps before (ns ++ named q.name.name n ∷ []) (n + 1) one (fault_right said.notes _ f) in
      subst (λ (ls : List NamedAs). Sees ls (ns ++ (named q.name.name n ∷ bound ps (n + 1)))) (append_assoc names.locals said.declared (in_turn (declared_param a) ps before).declared)
      (subst (λ (ms : List Named). Sees (before.locals ++ (in_turn (declared_param a) ps before).declared) ms) (append_assoc ns (named q.name.name n ∷ []) (bound ps (n + 1))) two)

  -- and for locals of their types
  params_types : (t : ℕ → Bool) (a : Around) → ((b : Bool) → meaning_of_param a.gives b ≡ meaning_of_local b) → (ps : List Param) (names : Names) (ns : List Named) (n : ℕ) → ParamsTyped t ps n → SeesTypes t names.locals ns → NoFault (in_turn (declared_param a) ps names).notes
      → SeesTypes t (names.locals ++ (in_turn (declared_param a) ps names).declared) (ns ++ bound ps n)
  unfolding in_turn and_then skip declared_param declaring
  params_types t a g [] names ns n h s f = subst (λ (ms : List Named). SeesTypes t (names.locals ++ []) ms) (sym (append-nil ns)) (types_nil t names.locals ns s)
  params_types t a g (q ∷ ps) names ns n h s f =
      let names1 : Names = record names { locals = names.locals ++ [] } in
      let m : Meaning = meaning_of_param a.gives q.pointer in
      let said : Said = declared_param a q names in
      let e : said.declared ≡ named_as q.name.name m ∷ [] = declared_is p no_thread items (is_taken names1 a.from q.name.name) q.name.at q.name.name m names1 (fault_right (reserved a.side q.name.at q.name.name) _ (fault_left said.notes _ f)) in
      let one : SeesTypes t (names.locals ++ said.declared) (ns ++ named q.name.name n ∷ []) =
      subst (λ (ds : List NamedAs). SeesTypes t (names.locals ++ ds) (ns ++ named q.name.name n ∷ [])) (sym e)
      (types_local t names.locals ns q.name.name n m (λ y i. subst (StandsAs t (ns ++ named q.name.name n ∷ []) y) (sym (g q.pointer)) (stands_as t ns q.name.name n q.pointer y h.0 i)) s) in
      let before : Names = behind (declared_param a q) names in
      let two = params_types t a g ps before (ns ++ named q.name.name n ∷ []) (n + 1) h.1 one (fault_right said.notes _ f) in
      subst (λ (ls : List NamedAs). SeesTypes t ls (ns ++ (named q.name.name n ∷ bound ps (n + 1)))) (append_assoc names.locals said.declared (in_turn (declared_param a) ps before).declared)
      (subst (λ (ms : List Named). SeesTypes t (before.locals ++ (in_turn (declared_param a) ps before).declared) ms) (append_assoc ns (named q.name.name n ∷ []) (bound ps (n + 1))) two)

  handed_types : (t : ℕ → Bool) (a : Around) → ((b : Bool) → meaning_of_param a.gives b ≡ meaning.Handed) → (ps : List Param) (names : Names) (ns : List Named) → SeesTypes t names.locals ns → NoFault (in_turn (declared_param a) ps names).notes
      → SeesTypes t (names.locals ++ (in_turn (declared_param a) ps names).declared) ns
  unfolding in_turn and_then skip declared_param declaring
  handed_types t a g [] names ns s f = types_nil t names.locals ns s
  handed_types t a g (q ∷ ps) names ns s f =
      let names1 : Names = record names { locals = names.locals ++ [] } in
      let m : Meaning = meaning_of_param a.gives q.pointer in
      let said : Said = declared_param a q names in
      let e : said.declared ≡ named_as q.name.name m ∷ [] = declared_is p no_thread items (is_taken names1 a.from q.name.name) q.name.at q.name.name m names1 (fault_right (reserved a.side q.name.at q.name.name) _ (fault_left said.notes _ f)) in
      let h : said.declared ≡ named_as q.name.name meaning.Handed ∷ [] = e ∙ ap (λ (r : Meaning). named_as q.name.name r ∷ []) (g q.pointer) in
      let one : SeesTypes t (names.locals ++ said.declared) ns = subst (λ (ds : List NamedAs). SeesTypes t (names.locals ++ ds) ns) (sym h) (types_thread t names.locals ns q.name.name meaning.Handed (λ ms y. tt) s) in
      let before : Names = behind (declared_param a q) names in
      let two = handed_types t a g ps before ns one (fault_right said.notes _ f) in
      subst (λ (ls : List NamedAs). SeesTypes t ls ns) (append_assoc names.locals said.declared (in_turn (declared_param a) ps before).declared) two

  -- that of a thread's function stands for nothing
  handed_see : (a : Around) → ((b : Bool) → meaning_of_param a.gives b ≡ meaning.Handed) → (ps : List Param) (names : Names) (ns : List Named) → Sees names.locals ns → NoFault (in_turn (declared_param a) ps names).notes
      → Sees (names.locals ++ (in_turn (declared_param a) ps names).declared) ns
  unfolding in_turn and_then skip declared_param declaring
  handed_see a g [] names ns s f = sees_nil names.locals ns s
  handed_see a g (q ∷ ps) names ns s f =
      let names1 : Names = record names { locals = names.locals ++ [] } in
      let m : Meaning = meaning_of_param a.gives q.pointer in
      let said : Said = declared_param a q names in
      let e : said.declared ≡ named_as q.name.name m ∷ [] = declared_is p no_thread items (is_taken names1 a.from q.name.name) q.name.at q.name.name m names1 (fault_right (reserved a.side q.name.at q.name.name) _ (fault_left said.notes _ f)) in
      let h : said.declared ≡ named_as q.name.name meaning.Handed ∷ [] = e ∙ ap (λ (r : Meaning). named_as q.name.name r ∷ []) (g q.pointer) in
      let one : Sees (names.locals ++ said.declared) ns = subst (λ (ds : List NamedAs). Sees (names.locals ++ ds) ns) (sym h) (sees_thread names.locals ns q.name.name meaning.Handed (λ ms y. tt) s) in
      let before : Names = behind (declared_param a q) names in
      let two = handed_see a g ps before ns one (fault_right said.notes _ f) in
      subst (λ (ls : List NamedAs). Sees ls ns) (append_assoc names.locals said.declared (in_turn (declared_param a) ps before).declared) two

-- ---- one item

module _ (side : Side) (items : List Item) (p : Listing) (same : p.mutexes ≡ mutexes_in items) where
  abbrev parts : Parts
  parts = parts_of side items

  abbrev At_ : List Item → List Global → Table → Type 0
  At_ done gs table = Behind parts.spots p.mutexes items done gs table

  -- a global has cells, and its start values are among them
  pub record GlobalsFine (gs : List Global) : Type 0 where
    pub cells : EachHasCells gs
    pub starts : length p.cells < 2 ^ 31 → AllByRecursion (λ s. IsRow p.cells (row_of s)) parts.spots → EachStarts parts.spots p.cells gs
    pub typed : GlobalsFit p items parts.spots → AllByRecursion (Starts parts.spots (λ g e. StartTyped p g.pointer e)) gs

  pub record FunctionFine (at : At) (g : Gives) (x : Ident) (ps : List Param) (ss : List Stmt) : Type 0 where
    pub before : ℕ
    pub is : function_of items parts.asserts x ≡ Some (record { params = ps; body = ss; asserts = before })
    pub asserts : before + asserts_in ss < 2 ^ 32
    pub called : can_be_called x g ≡ true → AcceptedBody p items parts false (bound ps) ss
    pub thread : g ≡ gives.Thread → AcceptedBody p items parts false (λ n. []) ss
    pub main : is_main (item.Function at g x ps ss) ≡ true → AcceptedBody p items parts true (λ n. []) ss
    pub called_is : (c : can_be_called x g ≡ true) → ((called c).around.gives ≡ g) × ((called c).typed_params ≡ ps)
    pub thread_is : (h : g ≡ gives.Thread) → (thread h).typed_params ≡ []
    pub main_is : (h : is_main (item.Function at g x ps ss) ≡ true) → (main h).typed_params ≡ []

  abbrev pub ItemFine : Item → Type 0
  ItemFine (item.Globals gs) = Unit {0}
  ItemFine (item.Mutexes ws) = Unit {0}
  ItemFine (item.Threads ws) = Unit {0}
  ItemFine (item.InputDecl at x) = Unit {0}
  ItemFine (item.Function at g x ps ss) = FunctionFine at g x ps ss

  -- ---- globals

  global_declared : (b : Bool) (len : Option ℤ) → is_declared (Some (meaning_of_global b len)) ≡ true
  global_declared true None = refl
  global_declared false None = refl
  global_declared b (Some n) = refl

  global_here : (gs : List Global) (g : Global) (after : List Global) → globals_in items ≡ gs ++ (g ∷ after) → IsGlobalOf items g.name g.pointer g.len
  global_here gs g after e =
      let i : length gs ≡ length gs + 0 = omega arith in
      record {
        place = length gs;
        global = g;
        is = ap (λ (hs : List Global). slice_get hs (length gs)) e ∙ (ap (slice_get (gs ++ (g ∷ after))) i ∙ at_right gs (g ∷ after) 0);
        name = refl;
        pointer_is = refl;
        len_is = refl;
      }

  means_global : (g : Global) (b : Bool) (len : Option ℤ) (s : Spot) → spot_of parts.spots g.name ≡ Some s → s.len ≡ length_of len → IsGlobalOf items g.name b len → Means parts.spots p.mutexes items g.name (meaning_of_global b len)
  means_global g true None s e l h = record { spot = s; is = e; global = h }
  means_global g false None s e l h = record { spot = s; is = e; global = h }
  means_global g b (Some n) s e l h = record { spot = s; is = e; len = l; pointer = b; global = h }

  not_refused : (b : Bool) (at : At) (ns : List Note) → NoFault (refused_if b at ++ ns) → b ≡ false
  not_refused true at ns h = absurd h
  not_refused false at ns h = refl

  some_cells : (n : ℤ) → int_lt n (pos 1) ≡ false → 1 ≤ natural n
  some_cells (pos n) h = grind (arith, nat_tests)
  some_cells (negsuc n) h = true_is_not h

  has_cells : (at : At) (es : List Expr) (len : Option ℤ) → NoFault (length_notes at es len) → 1 ≤ length_of len
  has_cells at es None h = omega arith
  has_cells at es (Some n) h = some_cells n (not_refused (int_lt n (pos 1)) at _ h)

  starts_keep : (pointer : Bool) (es : List Expr) (table : Table) → (tops (listed_start pointer) es (global_names table)).globals ≡ table
  unfolding tops no_more top_then listed_start top_notes
  starts_keep pointer [] table = refl
  starts_keep pointer (e ∷ es) table = starts_keep pointer es table

  starts_fine : (pointer : Bool) (es : List Expr) (table : Table) → IsSound parts.spots p.mutexes items table → AllByRecursion IsInt (all_numbers es) → NoFault (tops (listed_start pointer) es (global_names table)).notes
      → length p.cells < 2 ^ 31 → AllByRecursion (λ s. IsRow p.cells (row_of s)) parts.spots → AllByRecursion (λ e. StartsIn p.cells (start_value parts.spots e)) es
  unfolding tops top_then listed_start top_notes
  starts_fine pointer [] table s i f few rows = tt
  starts_fine pointer (e ∷ es) table s i f few rows =
      let one = start_notes pointer e (global_names table) in (
        start_fine p items parts.spots few rows table s pointer e (all_left IsInt (numbers_of e) (all_numbers es) i) (fault_left one _ f),
        starts_fine pointer es table s (all_right IsInt (numbers_of e) (all_numbers es) i) (fault_right one _ f) few rows,
      )

  starts_typed : (pointer : Bool) (es : List Expr) (table : Table) → IsSound parts.spots p.mutexes items table → NoFault (tops (listed_start pointer) es (global_names table)).notes → GlobalsFit p items parts.spots → AllByRecursion (λ e. StartTyped p pointer (start_value parts.spots e)) es
  unfolding tops top_then listed_start top_notes
  starts_typed pointer [] table s f fit = tt
  starts_typed pointer (e ∷ es) table s f fit =
      let one = start_notes pointer e (global_names table) in
      (start_typed p items parts.spots fit table s pointer e (fault_left one _ f), starts_typed pointer es table s (fault_right one _ f) fit)

  record GlobalDone (done : List Item) (gs : List Global) (g : Global) (table : Table) : Type 0 where
    cells : 1 ≤ cells_in g
    starts : length p.cells < 2 ^ 31 → AllByRecursion (λ s. IsRow p.cells (row_of s)) parts.spots → AllByRecursion (λ e. StartsIn p.cells (start_value parts.spots e)) g.init
    typed : GlobalsFit p items parts.spots → Starts parts.spots (λ h e. StartTyped p h.pointer e) g
    behind : At_ done (gs ++ g ∷ []) (listed_global side g (global_names table)).globals

  global_done : (done : List Item) (gs : List Global) (g : Global) (after : List Global) (table : Table) → globals_in items ≡ gs ++ (g ∷ after) → At_ done gs table → AllByRecursion IsInt (all_numbers g.init) → NoFault (listed_global side g (global_names table)).notes → GlobalDone done gs g table
  unfolding listed_global top_then top_notes listed_name
  global_done done gs g after table e b i f =
      let names : Names = global_names table in
      let m : Meaning = meaning_of_global g.pointer g.len in
      let here : Listed = listed g.at g.name m names in
      let first : List Note = reserved side g.at g.name ++ here.notes in
      let new = is_new g.at g.name m names (fault_right (reserved side g.at g.name) here.notes (fault_left first _ f)) in
      let others = all_weaker (GlobalListed table) (λ (h : Global). bytes_eq h.name g.name ≡ false) (λ h l. differs table h.name g.name l new.fresh) gs b.globals in
      let spot = spot_here gs g after 0 others in
      let is : spot_of parts.spots g.name ≡ Some spot.0 = ap (λ (hs : List Global). spot_of (spots hs 0) g.name) e ∙ spot.1 in
      let table1 : Table = with_name table g.name m in
      let b1 = behind_with parts.spots p.mutexes items done gs table g.name m (global_declared g.pointer g.len) (means_global g g.pointer g.len spot.0 is spot.2 (global_here gs g after e)) b in
      let rest : List Note = noted_length g (global_names here.globals) in
      let behind_name = fault_right first _ f in
      record {
        cells = has_cells g.at g.init g.len (fault_left rest _ behind_name);
        starts = starts_fine g.pointer g.init table1 b1.sound i (subst (λ (q : Table). NoFault (tops (listed_start g.pointer) g.init (global_names q)).notes) new.globals (fault_right rest _ behind_name));
        typed = starts_typed g.pointer g.init table1 b1.sound (subst (λ (q : Table). NoFault (tops (listed_start g.pointer) g.init (global_names q)).notes) new.globals (fault_right rest _ behind_name));
        behind = subst (λ (q : Table). At_ done (gs ++ g ∷ []) q) (sym (starts_keep g.pointer g.init here.globals ∙ new.globals)) (record {
          sound = b1.sound;
          globals = both_all (GlobalListed table1) gs (g ∷ []) b1.globals (now table g.name m (global_declared g.pointer g.len), tt);
          functions = b1.functions;
        });
      }

  record GlobalsDone (done : List Item) (all gs : List Global) (table : Table) : Type 0 where
    fine : GlobalsFine gs
    behind : At_ done all table

  globals_done : (done : List Item) (acc gs after : List Global) (table : Table) → globals_in items ≡ acc ++ (gs ++ after) → At_ done acc table → AllByRecursion IsInt (of_globals gs) → NoFault (tops (listed_global side) gs (global_names table)).notes
      → GlobalsDone done (acc ++ gs) gs (tops (listed_global side) gs (global_names table)).globals
  unfolding tops no_more top_then
  globals_done done acc [] after table e b i f = record { fine = record { cells = tt; starts = λ few rows. tt; typed = λ fit. tt }; behind = subst (λ (gs : List Global). At_ done gs table) (sym (append-nil acc)) b }
  globals_done done acc (g ∷ gs) after table e b i f =
      let notes : List Note = (listed_global side g (global_names table)).notes in
      let table1 : Table = (listed_global side g (global_names table)).globals in
      let one = global_done done acc g (gs ++ after) table e b (all_left IsInt (all_numbers g.init) (of_globals gs) i) (fault_left notes _ f) in
      let e1 : globals_in items ≡ (acc ++ g ∷ []) ++ (gs ++ after) = e ∙ sym (append_assoc acc (g ∷ []) (gs ++ after)) in
      let two = globals_done done (acc ++ g ∷ []) gs after table1 e1 one.behind (all_right IsInt (all_numbers g.init) (of_globals gs) i) (fault_right notes _ f) in
      record {
        fine = record { cells = (one.cells, two.fine.cells); starts = λ few rows. (one.starts few rows, two.fine.starts few rows); typed = λ fit. (one.typed fit, two.fine.typed fit) };
        behind = subst (λ (hs : List Global). At_ done hs (tops (listed_global side) gs (global_names table1)).globals) (append_assoc acc (g ∷ []) gs) two.behind;
      }

  -- ---- words

  words_done : (done : List Item) (acc : List Global) (m : Meaning) → is_declared (Some m) ≡ true → (ws : List Word) (table : Table) → AllByRecursion (λ (w : Word). Means parts.spots p.mutexes items w.name m) ws → At_ done acc table → NoFault (tops (listed_word side m) ws (global_names table)).notes
      → At_ done acc (tops (listed_word side m) ws (global_names table)).globals
  unfolding tops no_more top_then listed_word listed_name top_notes
  words_done done acc m d [] table h b f = b
  words_done done acc m d (w ∷ ws) table h b f =
      let here : Listed = listed w.at w.name m (global_names table) in
      let notes : List Note = reserved side w.at w.name ++ here.notes in
      let new = is_new w.at w.name m (global_names table) (fault_right (reserved side w.at w.name) here.notes (fault_left notes _ f)) in
      let b1 = behind_with parts.spots p.mutexes items done acc table w.name m d h.0 b in
      words_done done acc m d ws here.globals h.1 (subst (λ (q : Table). At_ done acc q) (sym new.globals) b1) (fault_right notes _ f)

  mutexes_mean : (pre : List Ident) (ws : List Word) (post : List Ident) → p.mutexes ≡ pre ++ (map (λ (w : Word). w.name) ws ++ post) → AllByRecursion (λ (w : Word). HasMutex p.mutexes w.name) ws
  mutexes_mean pre [] post e = tt
  mutexes_mean pre (w ∷ ws) post e = (
    subst (λ (ms : List Ident). HasMutex ms w.name) (sym e) (mutex_here pre w.name (map (λ (v : Word). v.name) ws ++ post)),
    mutexes_mean (pre ++ w.name ∷ []) ws post (e ∙ sym (append_assoc pre (w.name ∷ []) (map (λ (v : Word). v.name) ws ++ post))),
  )

  anything : (ws : List Word) → AllByRecursion (λ (w : Word). Means parts.spots p.mutexes items w.name meaning.SharedThread) ws
  anything [] = tt
  anything (w ∷ ws) = (tt, anything ws)

  -- ---- functions

  asserts_append : (xs ys : List Item) → asserts_of (xs ++ ys) ≡ asserts_of xs + asserts_of ys
  asserts_append [] ys = omega arith
  asserts_append (x ∷ xs) ys = omega (arith, asserts_append xs ys)

  found_here : (done : List Item) (at : At) (g : Gives) (x : Ident) (ps : List Param) (ss : List Stmt) (rest : List Item) (n : ℕ) → AllByRecursion (λ (j : Item). is_function x j ≡ false) done
      → function_of (done ++ item.Function at g x ps ss ∷ rest) (asserts_before (done ++ item.Function at g x ps ss ∷ rest) n) x ≡ Some (record { params = ps; body = ss; asserts = n + asserts_of done })
  found_here [] at g x ps ss rest n h =
      let here : Option Function = Some (record { params = ps; body = ss; asserts = n }) in
      let end : n ≡ n + 0 = omega arith in
      ap (λ b. if b then here else function_of rest (asserts_before rest (n + asserts_in ss)) x) (itself x) ∙ ap (λ m. Some (record { params = ps; body = ss; asserts = m })) end
  found_here (j ∷ done) at g x ps ss rest n h =
      let more : ℕ = n + asserts_in (body_of j) in
      let all : List Item = done ++ item.Function at g x ps ss ∷ rest in
      let end : more + asserts_of done ≡ n + (asserts_in (body_of j) + asserts_of done) = omega arith in
      ap (λ b. if b then as_function j n else function_of all (asserts_before all more) x) h.0 ∙ (found_here done at g x ps ss rest more h.1 ∙ ap (λ m. Some (record { params = ps; body = ss; asserts = m })) end)

  no_function : (table : Table) (x : Ident) → is_declared (meaning_in table x) ≡ false → (j : Item) → IsListed table j → is_function x j ≡ false
  no_function table x e (item.Globals gs) h = refl
  no_function table x e (item.Mutexes ws) h = refl
  no_function table x e (item.Threads ws) h = refl
  no_function table x e (item.InputDecl at y) h = refl
  no_function table x e (item.Function at g y ps ss) h = differs table y x h e

  pub has_function : (done rest : List Item) (at : At) (g : Gives) (x : Ident) (ps : List Param) (ss : List Stmt) (k : ℕ) → items ≡ done ++ (item.Function at g x ps ss ∷ rest) → length done ≡ k → HasFunction items x k
  has_function done rest at g x ps ss k e l =
      let i : k ≡ length done + 0 = omega (arith, l) in
      record {
        at = at;
        gives = g;
        params = ps;
        body = ss;
        is = ap (λ (is : List Item). slice_get is k) e ∙ (ap (slice_get (done ++ (item.Function at g x ps ss ∷ rest))) i ∙ at_right done (item.Function at g x ps ss ∷ rest) 0);
      }

  not_main : (b : Bool) → not b ≡ true → b ≡ false
  not_main true e = sym e
  not_main false e = refl

  called_place : (at : At) (g : Gives) (x : Ident) (ps : List Param) (ss : List Stmt) → can_be_called x g ≡ true → is_main (item.Function at g x ps ss) ≡ false
  called_place at gives.Int x [] ss e = not_main (bytes_eq x (codes "main")) e
  called_place at gives.Int x (q ∷ ps) ss e = refl
  called_place at gives.Pointer x ps ss e = refl
  called_place at gives.Nothing x ps ss e = refl
  called_place at gives.Thread x ps ss e = refl

  called_kind : (x : Ident) (g : Gives) → can_be_called x g ≡ true → (b : Bool) → meaning_of_param g b ≡ meaning_of_local b
  called_kind x gives.Int e true = refl
  called_kind x gives.Int e false = refl
  called_kind x gives.Pointer e true = refl
  called_kind x gives.Pointer e false = refl
  called_kind x gives.Nothing e true = refl
  called_kind x gives.Nothing e false = refl
  called_kind x gives.Thread e b = true_is_not (sym e)

  thread_place : (at : At) (g : Gives) (x : Ident) (ps : List Param) (ss : List Stmt) → g ≡ gives.Thread → is_main (item.Function at g x ps ss) ≡ false
  thread_place at g x ps ss e = ap (λ (h : Gives). is_main (item.Function at h x ps ss)) e

  thread_kind : (g : Gives) → g ≡ gives.Thread → (b : Bool) → meaning_of_param g b ≡ meaning.Handed
  thread_kind g e b = ap (λ (h : Gives). meaning_of_param h b) e

  nothing_seen : Sees [] []
  nothing_seen = record { each = λ x m e. absurd (none_is_not m e) }

  main_see : (a : Around) (at : At) (g : Gives) (x : Ident) (ps : List Param) (ss : List Stmt) (table : Table) → is_main (item.Function at g x ps ss) ≡ true → Sees ([] ++ (in_turn (declared_param a) ps (global_names table)).declared) []
  unfolding in_turn skip
  main_see a at gives.Int x [] ss table e = nothing_seen
  main_see a at gives.Int x (q ∷ ps) ss table e = true_is_not (sym e)
  main_see a at gives.Pointer x ps ss table e = true_is_not (sym e)
  main_see a at gives.Nothing x ps ss table e = true_is_not (sym e)
  main_see a at gives.Thread x ps ss table e = true_is_not (sym e)

  nothing_typed : (t : ℕ → Bool) → SeesTypes t [] []
  nothing_typed t = record { each = λ x m e. absurd (none_is_not m e); known = λ x l e. absurd (none_is_not l e) }

  main_types : (t : ℕ → Bool) (a : Around) (at : At) (g : Gives) (x : Ident) (ps : List Param) (ss : List Stmt) (table : Table) → is_main (item.Function at g x ps ss) ≡ true → SeesTypes t ([] ++ (in_turn (declared_param a) ps (global_names table)).declared) []
  unfolding in_turn skip
  main_types t a at gives.Int x [] ss table e = nothing_typed t
  main_types t a at gives.Int x (q ∷ ps) ss table e = true_is_not (sym e)
  main_types t a at gives.Pointer x ps ss table e = true_is_not (sym e)
  main_types t a at gives.Nothing x ps ss table e = true_is_not (sym e)
  main_types t a at gives.Thread x ps ss table e = true_is_not (sym e)

  -- main's body, and what is noted of threads in it
  pub record MainBody (ss : List Stmt) (us : List Use) : Type 0 where
    pub body : AcceptedBody p items parts true (λ n. []) ss
    pub noted : us ≡ uses (all_at body.around (map (said_stmt items body.labels) ss) body.names).notes

  pub record MainAt (done : List Item) (it : Item) (us : List Use) : Type 0 where
    pub at : At
    pub gives : Gives
    pub name : Ident
    pub params : List Param
    pub stmts : List Stmt
    pub is : it ≡ item.Function at gives name params stmts
    pub only : AllByRecursion (λ (j : Item). is_main j ≡ false) done
    pub body : MainBody stmts us

  -- threads are used in main alone
  pub record ItemUses (done : List Item) (it : Item) (us : List Use) : Type 0 where
    pub idle : is_main it ≡ false → us ≡ []
    pub main : is_main it ≡ true → MainAt done it us

  abbrev pub UsesFine : List Item → List Item → List Use → Type 0
  UsesFine done [] us = us ≡ []
  UsesFine done (it ∷ is) us = (vs : List Use) × (ws : List Use) × (us ≡ vs ++ ws) × ItemUses done it vs × UsesFine (done ++ it ∷ []) is ws

  no_main : (at : At) (g : Gives) (x : Ident) (ps : List Param) (ss : List Stmt) → is_main (item.Function at g x ps ss) ≡ true → (j : Item) → is_function x j ≡ false → is_main j ≡ false
  no_main at g x ps ss e (item.Globals gs) h = refl
  no_main at g x ps ss e (item.Mutexes ws) h = refl
  no_main at g x ps ss e (item.Threads ws) h = refl
  no_main at g x ps ss e (item.InputDecl there y) h = refl
  no_main at g x ps ss e (item.Function there gives.Int y [] body) h = subst (λ z. bytes_eq y z ≡ false) (main_is at g x ps ss e) h
  no_main at g x ps ss e (item.Function there gives.Int y (q ∷ qs) body) h = refl
  no_main at g x ps ss e (item.Function there gives.Pointer y qs body) h = refl
  no_main at g x ps ss e (item.Function there gives.Nothing y qs body) h = refl
  no_main at g x ps ss e (item.Function there gives.Thread y qs body) h = refl

  record FunctionDone (done : List Item) (acc : List Global) (k : ℕ) (at : At) (g : Gives) (x : Ident) (ps : List Param) (ss : List Stmt) (table : Table) : Type 0 where
    fine : FunctionFine at g x ps ss
    behind : At_ (done ++ item.Function at g x ps ss ∷ []) acc (listed_item side items k (item.Function at g x ps ss) (global_names table)).globals
    main : is_main (item.Function at g x ps ss) ≡ true → MainAt done (item.Function at g x ps ss) (uses (listed_item side items k (item.Function at g x ps ss) (global_names table)).notes)

  function_done : (done : List Item) (acc : List Global) (k : ℕ) (at : At) (g : Gives) (x : Ident) (ps : List Param) (ss : List Stmt) (rest : List Item) (table : Table)
      → items ≡ done ++ (item.Function at g x ps ss ∷ rest) → length done ≡ k → At_ done acc table → AllByRecursion IsInt (of_stmts ss) → body_scoped ss ≡ true → asserts_of items < 2 ^ 32
      → NoFault (listed_item side items k (item.Function at g x ps ss) (global_names table)).notes → FunctionDone done acc k at g x ps ss table
  unfolding listed_item top_then top_notes listed_name function_notes body_step and_then
  function_done done acc k at g x ps ss rest table e l b i scoped small f =
      let it : Item = item.Function at g x ps ss in
      let m : Meaning = meaning.Function k in
      let here : Listed = listed at x m (global_names table) in
      let first : List Note = reserved side at x ++ here.notes in
      let new = is_new at x m (global_names table) (fault_right (reserved side at x) here.notes (fault_left first _ f)) in
      let has = has_function done rest at g x ps ss k e l in
      let table1 : Table = with_name table x m in
      let b1 = behind_with parts.spots p.mutexes items done acc table x m refl has b in
      let back : table1 ≡ here.globals = sym new.globals in
      let labels : Table = with_labels [] (labels_of ss) in
      let a : Around = in_function side k it g 0 in
      let names : Names = global_names here.globals in
      let body = fault_right (labels_notes side [] (labels_of ss)) _ (fault_right first _ f) in
      let params : Said = in_turn (declared_param a) ps names in
      let param_notes = fault_left params.notes _ body in
      let sound : IsSound parts.spots p.mutexes items here.globals = subst (IsSound parts.spots p.mutexes items) back b1.sound in
      let accepted : (outermost : Bool) (named_at : ℕ → List Named) → is_main it ≡ outermost → ((n : ℕ) → Sees ([] ++ params.declared) (named_at n)) → (typed : List Param) → ((t : ℕ → Bool) (n : ℕ) → ParamsTyped t typed n → SeesTypes t ([] ++ params.declared) (named_at n)) → AcceptedBody p items parts outermost named_at ss =
      λ outermost named_at place sees typed types. record {
        labels = labels;
        around = a;
        names = record { globals = here.globals; locals = [] ++ params.declared };
        side = refl;
        place = place;
        sees = sees;
        globals = sound;
        fine = fault_right params.notes _ body;
        ints = i;
        scoped = scoped;
        typed_params = typed;
        types = types;
      } in
      let called : can_be_called x g ≡ true → AcceptedBody p items parts false (bound ps) ss =
      λ c. accepted false (bound ps) (called_place at g x ps ss c) (λ n. params_see p items a (called_kind x g c) ps names [] n nothing_seen param_notes)
      ps (λ t n h. params_types p items t a (called_kind x g c) ps names [] n h (nothing_typed t) param_notes) in
      let thread : g ≡ gives.Thread → AcceptedBody p items parts false (λ n. []) ss =
      λ h. accepted false (λ n. []) (thread_place at g x ps ss h) (λ n. handed_see p items a (thread_kind g h) ps names [] nothing_seen param_notes)
      [] (λ t n q. handed_types p items t a (thread_kind g h) ps names [] (nothing_typed t) param_notes) in
      let main_body : is_main it ≡ true → AcceptedBody p items parts true (λ n. []) ss =
      λ h. accepted true (λ n. []) h (λ n. main_see a at g x ps ss here.globals h) [] (λ t n q. main_types t a at g x ps ss here.globals h) in
      let others = all_weaker (IsListed table) (λ (j : Item). is_function x j ≡ false) (no_function table x new.fresh) done b.functions in
      let is : function_of items parts.asserts x ≡ Some (record { params = ps; body = ss; asserts = 0 + asserts_of done }) = ap (λ (is : List Item). function_of is (asserts_before is 0) x) e ∙ found_here done at g x ps ss rest 0 others in
      record {
        fine = record {
          before = 0 + asserts_of done;
          is = is;
          asserts = omega (arith, ap asserts_of e, asserts_append done (it ∷ rest), small);
          called = called;
          thread = thread;
          main = main_body;
          called_is = λ c. (refl, refl);
          thread_is = λ h. refl;
          main_is = λ h. refl;
        };
        behind = subst (λ (q : Table). At_ (done ++ it ∷ []) acc q) back (record {
          sound = b1.sound;
          globals = b1.globals;
          functions = both_all (IsListed table1) done (it ∷ []) b1.functions (now table x m refl, tt);
        });
        main = λ h. record {
          at = at;
          gives = g;
          name = x;
          params = ps;
          stmts = ss;
          is = refl;
          only = all_weaker (λ (j : Item). is_function x j ≡ false) (λ (j : Item). is_main j ≡ false) (no_main at g x ps ss h) done others;
          body = record { body = main_body h; noted = function_uses side items k at g x ps ss (global_names table) };
        };
      }

  -- ---- the whole

  one_more : (done : List Item) (acc : List Global) (it : Item) (table : Table) → IsListed table it → At_ done acc table → At_ (done ++ it ∷ []) acc table
  one_more done acc it table h b = record { sound = b.sound; globals = b.globals; functions = both_all (IsListed table) done (it ∷ []) b.functions (h, tt) }

  input_means : (x : Ident) (at : At) (b : Bool) → starts_with nat_eq x (codes "nondet_") ≡ b → NoFault (unknown_prototype at b) → starts_with nat_eq x (codes "nondet_") ≡ true
  input_means x at true e h = e
  input_means x at false e h = absurd h

  record ItemDone (done : List Item) (acc : List Global) (k : ℕ) (it : Item) (table : Table) : Type 0 where
    fine : ItemFine it
    globals : GlobalsFine (globals_of it)
    behind : At_ (done ++ it ∷ []) (acc ++ globals_of it) (listed_item side items k it (global_names table)).globals
    uses : ItemUses done it (uses (listed_item side items k it (global_names table)).notes)

  no_globals : GlobalsFine []
  no_globals = record { cells = tt; starts = λ few rows. tt; typed = λ fit. tt }

  no_uses : (done : List Item) (it : Item) (k : ℕ) (names : Names) → is_main it ≡ false → ItemUses done it (uses (listed_item side items k it names).notes)
  no_uses done it k names e = record { idle = λ q. other_idle side items k it names e; main = λ q. true_is_not (sym q ∙ e) }

  item_done : (done : List Item) (acc : List Global) (macc : List Ident) (k : ℕ) (it : Item) (rest : List Item) (table : Table)
      → items ≡ done ++ (it ∷ rest) → globals_in items ≡ acc ++ (globals_of it ++ globals_in rest) → mutexes_in items ≡ macc ++ (mutexes_of it ++ mutexes_in rest) → length done ≡ k
      → At_ done acc table → AllByRecursion IsInt (of_item it) → body_scoped (body_of it) ≡ true → asserts_of items < 2 ^ 32
      → NoFault (listed_item side items k it (global_names table)).notes → ItemDone done acc k it table
  unfolding listed_item listed_input top_then top_notes
  item_done done acc macc k (item.Globals gs) rest table e eg em l b i s small f =
      let r = globals_done done acc gs (globals_in rest) table eg b i f in
      record { fine = tt; globals = r.fine; uses = no_uses done (item.Globals gs) k (global_names table) refl; behind = one_more done (acc ++ gs) (item.Globals gs) _ tt r.behind }
  item_done done acc macc k (item.Mutexes ws) rest table e eg em l b i s small f =
      let r = words_done done acc meaning.Mutex refl ws table (mutexes_mean macc ws (mutexes_in rest) (same ∙ em)) b f in
      record { fine = tt; globals = no_globals; uses = no_uses done (item.Mutexes ws) k (global_names table) refl; behind = one_more done (acc ++ []) (item.Mutexes ws) _ tt (subst (λ (gs : List Global). At_ done gs (tops (listed_word side meaning.Mutex) ws (global_names table)).globals) (sym (append-nil acc)) r) }
  item_done done acc macc k (item.Threads ws) rest table e eg em l b i s small f =
      let r = words_done done acc meaning.SharedThread refl ws table (anything ws) b f in
      record { fine = tt; globals = no_globals; uses = no_uses done (item.Threads ws) k (global_names table) refl; behind = one_more done (acc ++ []) (item.Threads ws) _ tt (subst (λ (gs : List Global). At_ done gs (tops (listed_word side meaning.SharedThread) ws (global_names table)).globals) (sym (append-nil acc)) r) }
  item_done done acc macc k (item.InputDecl at x) rest table e eg em l b i s small f =
      let notes : List Note = input_notes side at x (global_names table) in
      let means = input_means x at (starts_with nat_eq x (codes "nondet_")) refl (fault_right (woven_prototype side at _) _ (fault_left notes _ f)) in
      let new = is_new at x meaning.Input (global_names table) (fault_right notes _ f) in
      let r = subst (λ (q : Table). At_ done acc q) (sym new.globals) (behind_with parts.spots p.mutexes items done acc table x meaning.Input refl means b) in
      record { fine = tt; globals = no_globals; uses = no_uses done (item.InputDecl at x) k (global_names table) refl; behind = one_more done (acc ++ []) (item.InputDecl at x) _ tt (subst (λ (gs : List Global). At_ done gs (listed at x meaning.Input (global_names table)).globals) (sym (append-nil acc)) r) }
  item_done done acc macc k (item.Function at g x ps ss) rest table e eg em l b i s small f =
      let r = function_done done acc k at g x ps ss rest table e l b i s small f in
      record { fine = r.fine; globals = no_globals; uses = record { idle = λ q. other_idle side items k (item.Function at g x ps ss) (global_names table) q; main = r.main }; behind = subst (λ (gs : List Global). At_ (done ++ item.Function at g x ps ss ∷ []) gs (listed_item side items k (item.Function at g x ps ss) (global_names table)).globals) (sym (append-nil acc)) r.behind }

  pub record TextFine (is : List Item) : Type 0 where
    pub each : AllByRecursion ItemFine is
    pub globals : GlobalsFine (globals_in is)

  join_globals : (gs hs : List Global) → GlobalsFine gs → GlobalsFine hs → GlobalsFine (gs ++ hs)
  join_globals gs hs h g = record {
    cells = both_all (λ q. 1 ≤ cells_in q) gs hs h.cells g.cells;
    starts = λ few rows. both_all (λ q. AllByRecursion (λ e. StartsIn p.cells (start_value parts.spots e)) q.init) gs hs (h.starts few rows) (g.starts few rows);
    typed = λ fit. both_all (Starts parts.spots (λ q e. StartTyped p q.pointer e)) gs hs (h.typed fit) (g.typed fit);
  }

  record WalkDone (done : List Item) (k : ℕ) (is : List Item) (table : Table) : Type 0 where
    fine : TextFine is
    uses : UsesFine done is (uses (listed_items side items k is (global_names table)).notes)

  walk : (done : List Item) (acc : List Global) (macc : List Ident) (k : ℕ) (is : List Item) (table : Table)
      → items ≡ done ++ is → globals_in items ≡ acc ++ globals_in is → mutexes_in items ≡ macc ++ mutexes_in is → length done ≡ k
      → At_ done acc table → AllByRecursion IsInt (of_items is) → items_scoped is ≡ true → asserts_of items < 2 ^ 32
      → NoFault (listed_items side items k is (global_names table)).notes → WalkDone done k is table
  unfolding listed_items no_more top_then
  walk done acc macc k [] table e eg em l b i s small f = record { fine = record { each = tt; globals = no_globals }; uses = refl }
  walk done acc macc k (it ∷ is) table e eg em l b i s small f =
      let said : Listed = listed_item side items k it (global_names table) in
      let one = item_done done acc macc k it is table e eg em l b (all_left IsInt (of_item it) (of_items is) i) (test_first (body_scoped (body_of it)) (items_scoped is) s) small (fault_left said.notes _ f) in
      let two = walk (done ++ it ∷ []) (acc ++ globals_of it) (macc ++ mutexes_of it) (k + 1) is said.globals
      (e ∙ sym (append_assoc done (it ∷ []) is)) (eg ∙ sym (append_assoc acc (globals_of it) (globals_in is))) (em ∙ sym (append_assoc macc (mutexes_of it) (mutexes_in is)))
      (length-append done (it ∷ []) ∙ omega (arith, l)) one.behind (all_right IsInt (of_item it) (of_items is) i) (test_second (body_scoped (body_of it)) (items_scoped is) s) small (fault_right said.notes _ f) in
      record {
        fine = record { each = (one.fine, two.fine.each); globals = join_globals (globals_of it) (globals_in is) one.globals two.fine.globals };
        uses = (uses said.notes, uses (listed_items side items (k + 1) is (global_names said.globals)).notes, uses_append said.notes _, one.uses, two.uses);
      }

  -- ---- functions before their text

  ahead_if : (b : Bool) (table : Table) (x : Ident) (k : ℕ) → HasFunction items x k → IsSound parts.spots p.mutexes items table → IsSound parts.spots p.mutexes items (if b then table else with_name table x (meaning.Ahead k))
  ahead_if true table x k h s = s
  ahead_if false table x k h s = sound_with parts.spots p.mutexes items table x (meaning.Ahead k) h s

  ahead_sound : (done is : List Item) (k : ℕ) (table : Table) → items ≡ done ++ is → length done ≡ k → IsSound parts.spots p.mutexes items table → IsSound parts.spots p.mutexes items (ahead table k is)
  unfolding ahead
  ahead_sound done [] k table e l s = s
  ahead_sound done (it ∷ is) k table e l s = ahead_sound (done ++ it ∷ []) is (k + 1) (with_ahead table k it) (e ∙ sym (append_assoc done (it ∷ []) is)) (length-append done (it ∷ []) ∙ omega (arith, l)) (by it e)
    where
      by : (j : Item) → items ≡ done ++ (j ∷ is) → IsSound parts.spots p.mutexes items (with_ahead table k j)
      by (item.Globals gs) q = s
      by (item.Mutexes ws) q = s
      by (item.Threads ws) q = s
      by (item.InputDecl at x) q = s
      by (item.Function at g x ps ss) q = ahead_if (is_some (meaning_in table x)) table x k (has_function done is at g x ps ss k q l) s

  text_done : AllByRecursion IsInt (of_items items) → items_scoped items ≡ true → asserts_of items < 2 ^ 32 → NoFault (listed_items side items 0 items (global_names (ahead [] 0 items))).notes → WalkDone [] 0 items (ahead [] 0 items)
  text_done i s small f =
      walk [] [] [] 0 items (ahead [] 0 items) refl refl refl refl
      (record { sound = ahead_sound [] items 0 [] refl refl (record { each = λ x m e. absurd (none_is_not m e) }); globals = tt; functions = tt }) i s small f

  -- each function and each global is accepted
  pub text_fine : AllByRecursion IsInt (of_items items) → items_scoped items ≡ true → asserts_of items < 2 ^ 32 → NoFault (listed_items side items 0 items (global_names (ahead [] 0 items))).notes → TextFine items
  text_fine i s small f = (text_done i s small f).fine

  -- and threads are used in main alone
  pub text_uses : AllByRecursion IsInt (of_items items) → items_scoped items ≡ true → asserts_of items < 2 ^ 32 → NoFault (listed_items side items 0 items (global_names (ahead [] 0 items))).notes → UsesFine [] items (uses (listed_items side items 0 items (global_names (ahead [] 0 items))).notes)
  text_uses i s small f = (text_done i s small f).uses

  -- ---- main

  -- what is noted of threads is noted in main
  pub record TheMain (us : List Use) : Type 0 where
    pub k : ℕ
    pub function : HasFunction items (codes "main") k
    pub body : MainBody function.body us

  any_append : (test : Item → Bool) (xs ys : List Item) → list_any test (xs ++ ys) ≡ (list_any test xs || list_any test ys)
  any_append test [] ys = refl
  any_append test (x ∷ xs) ys = ap (λ b. test x || b) (any_append test xs ys) ∙ by (test x)
    where
      by : (b : Bool) → (b || (list_any test xs || list_any test ys)) ≡ ((b || list_any test xs) || list_any test ys)
      by true = refl
      by false = refl

  none_any : (test : Item → Bool) (xs : List Item) → AllByRecursion (λ x. test x ≡ false) xs → list_any test xs ≡ false
  none_any test [] h = refl
  none_any test (x ∷ xs) h = ap (λ b. b || list_any test xs) h.0 ∙ none_any test xs h.1

  -- behind main there are none
  after_main : (done is : List Item) (us : List Use) → list_any is_main done ≡ true → UsesFine done is us → us ≡ []
  after_main done [] us h u = u
  after_main done (it ∷ is) us h u =
      let idle : u.0 ≡ [] = by (is_main it) refl in
      let rest : u.1 ≡ [] = after_main (done ++ it ∷ []) is u.1 (any_append is_main done (it ∷ []) ∙ ap (λ b. b || list_any is_main (it ∷ [])) h) u.4 in
      u.2 ∙ (ap (λ vs. vs ++ u.1) idle ∙ rest)
    where
      by : (b : Bool) → is_main it ≡ b → u.0 ≡ []
      by false e = u.3.idle e
      by true e = true_is_not (sym h ∙ none_any is_main done (u.3.main e).only)

  main_body : (done is : List Item) (it : Item) (k : ℕ) (us vs : List Use) → items ≡ done ++ (it ∷ is) → length done ≡ k → is_main it ≡ true → us ≡ vs → MainAt done it vs → TheMain us
  unfolding has_function
  main_body done is it k us vs e l h same m =
      let e1 : items ≡ done ++ (item.Function m.at m.gives m.name m.params m.stmts ∷ is) = e ∙ ap (λ (j : Item). done ++ (j ∷ is)) m.is in
      let named : m.name ≡ codes "main" = main_is m.at m.gives m.name m.params m.stmts (subst (λ (j : Item). is_main j ≡ true) m.is h) in
      let has = has_function done is m.at m.gives m.name m.params m.stmts k e1 l in
      record {
        k = k;
        function = record { at = m.at; gives = m.gives; params = m.params; body = m.stmts; is = has.is ∙ ap (λ y. Some (item.Function m.at m.gives y m.params m.stmts)) named };
        body = record { body = m.body.body; noted = same ∙ m.body.noted };
      }

  pub the_main : (done is : List Item) (k : ℕ) (us : List Use) → items ≡ done ++ is → length done ≡ k → list_any is_main is ≡ true → UsesFine done is us → TheMain us
  the_main done [] k us e l h u = true_is_not (sym h)
  the_main done (it ∷ is) k us e l h u =
      by (is_main it) refl (λ vs q r. the_main (done ++ it ∷ []) is (k + 1) vs (e ∙ sym (append_assoc done (it ∷ []) is)) (length-append done (it ∷ []) ∙ omega (arith, l)) q r) h
    where
      by : (b : Bool) → is_main it ≡ b → ((vs : List Use) → list_any is_main is ≡ true → UsesFine (done ++ it ∷ []) is vs → TheMain vs) → (b || list_any is_main is) ≡ true → TheMain us
      by true q g r =
          let last : u.1 ≡ [] = after_main (done ++ it ∷ []) is u.1 (any_append is_main done (it ∷ []) ∙ (ap (λ b. list_any is_main done || (b || false)) q ∙ or_true (list_any is_main done))) u.4 in
          let same : us ≡ u.0 = u.2 ∙ (ap (λ ws. u.0 ++ ws) last ∙ append-nil u.0) in
          main_body done is it k us u.0 e l q same (u.3.main q)
        where
          or_true : (b : Bool) → (b || true) ≡ true
          or_true true = refl
          or_true false = refl
      by false q g r =
          let first : u.0 ≡ [] = u.3.idle q in
          subst TheMain (sym (u.2 ∙ ap (λ vs. vs ++ u.1) first)) (g u.1 r u.4)
