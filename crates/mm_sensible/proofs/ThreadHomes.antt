-- What the names mean where the code of a thread stands, behind the variables and the helpers of a woven program.
use Rattle.std.proofs.Common.{◌≡◌, ℕ, zero, suc, ◌+◌, ◌<◌, ◌≤◌, nat_eq, true, false, ◌||◌, List, [], ◌∷◌, map, length, slice_get, is_some, codes, arith, refl, ◌∙◌, sym, ap, Option, Some, None}
use Rattle.std.specs.Prelude.{All}
use Rattle.std.specs.List.{starts_with}
use Rattle.std.specs.Str.{bytes_eq}
use Rattle.mm_goto.specs.declared.ident.Ident.{Ident}
use Rattle.mm_goto.specs.declared.program.Cell.{Cell}
use Rattle.mm_goto.specs.declared.shape.Shape.{Shape}
use Rattle.mm_goto.specs.Listing.{Listing}
use Rattle.mm_goto.specs.Names.{IsDeclarable}
use Rattle.mm_goto.specs.Sourcelike.{IsSourcelike}
use Rattle.mm_tree.specs.declared.expr.Expr.{Expr}
use Rattle.mm_tree.specs.declared.item.Gives.{Gives}
use Rattle.mm_tree.specs.declared.item.Gives.TheVariants as gives
use Rattle.mm_tree.specs.declared.item.Item.{Item}
use Rattle.mm_tree.specs.declared.stmt.Stmt.{Stmt}
use Rattle.mm_scope.specs.Scopes.{Names, Named, Table, meaning_in, meaning_of, found}
use Rattle.mm_scope.specs.Values.{can_be_called}
use Rattle.mm_words.specs.Words as words
use Rattle.mm_helpers.specs.Helpers.{wm_mem, wm_flush, wm_empty, wm_put, wm_get, wm_set, wm_t, wm_c, wm_v, helpers}
use Rattle.mm_templates.specs.Names.{local_name, label_name, handle_name}
use Rattle.mm_templates.specs.Homes.{has_moved}
use Rattle.mm_templates.specs.Instructions.{mutex_name}
use Rattle.mm_instr.specs.Woven.{has_buffers, has_moved_cells, start_value, start_values, filled, sizes}
use Rattle.mm_sensible.proofs.IntExpressions.{shared, IsArrayName}
use Rattle.mm_sensible.proofs.QuietStatements.{IsCallable}
use Rattle.mm_sensible.proofs.QuietTemplates.{IsHome}
use Rattle.mm_sensible.proofs.ItemWalk.{item_name, item_meaning, apart_names, Stands, Knows}
use Rattle.mm_sensible.proofs.MovedMemory.{at_place}
use Rattle.mm_sensible.proofs.ThreadLocals.{IsFront, thread_names, local_means, global_means}
use Rattle.mm_sensible.proofs.HelperItems.{known_item, HasFunction, helpers_in}

-- the name is none of a local, and not that of a thread's parameter
abbrev pub IsGlobalName : Ident → Type 0
IsGlobalName x = (bytes_eq (codes "wm_arg") x ≡ false) × ((l : ℕ) → bytes_eq (local_name l) x ≡ false)

-- the parameters hide no local and no global name
pub record IsPlainFront (ds : List Named) : Type 0 where
  pub front : IsFront ds
  pub none : (x : Ident) → bytes_eq (codes "wm_arg") x ≡ false → found ds x ≡ None

source_global : (x : Ident) → IsDeclarable x → IsGlobalName x
source_global x h = (apart_names (codes "wm_arg") x (λ e. other (codes "wm_arg") e refl), λ l. apart_names (local_name l) x (λ e. other (local_name l) e refl))
  where
    differ : true ≡ false → ⊥
    differ q = cc

    other : (y : Ident) → y ≡ x → starts_with nat_eq y (codes "wm_") ≡ true → ⊥
    other y e w = differ (sym w ∙ ap (λ z. starts_with nat_eq z (codes "wm_")) e ∙ h.not_woven)

-- what stands before place b
pub record HasBefore (p : Listing) (shape : Shape) (items : List Item) (b : ℕ) : Type 0 where
  pub single : (c : ℕ) (cell : Cell) → slice_get p.cells c ≡ Some cell → cell.index ≡ None → has_moved shape.moved c ≡ false → Stands items b (words.global cell.name None (start_value cell ∷ []))
  pub arrays : (c : ℕ) (cell : Cell) → slice_get p.cells c ≡ Some cell → cell.index ≡ Some 0 → has_moved shape.moved c ≡ false → (es : List Expr) × Stands items b (filled cell.name es)
  pub memory : (has_moved_cells shape || has_buffers shape) ≡ true → Stands items b (filled wm_mem (start_values shape.moved 0 p.cells))
  pub mutexes : (m : ℕ) → m < length p.mutexes → Stands items b (words.mutex (mutex_name p.mutexes m))
  pub handles : (u : ℕ) → 1 ≤ u → u < length p.threads → Stands items b (words.thread_variable (handle_name u))
  pub helper : has_buffers shape ≡ true → (g : Gives) (f : Ident) (xs : List Ident) → HasFunction (helpers shape.model (sizes p shape)) g f xs → (ss : List Stmt) × Stands items b (words.function g f (map words.param xs) ss)

module _ (p : Listing) (shape : Shape) (s : IsSourcelike p) (items : List Item) (b : ℕ) (before : HasBefore p shape items b) (k : ℕ) (low : b ≤ k) (table : Table) (knows : Knows items (k + 1) table) (ds : List Named) (plain : IsPlainFront ds) (n : ℕ) where
  abbrev names : Names
  names = thread_names table ds n

  -- what the name of an item that stands before means
  pub before_means : (i : Item) → Stands items b i → IsGlobalName (item_name i) → (j : ℕ) × (j < b) × (slice_get items j ≡ Some i) × (meaning_of names (item_name i) ≡ Some (item_meaning j i))
  before_means i st h =
      let it = known_item items b (k + 1) i table (omega (arith, low)) st knows in
      (it.0, it.1, it.2, global_means table ds n (item_name i) (plain.none (item_name i) h.0, h.1) ∙ it.3)

  helper_callable : has_buffers shape ≡ true → (g : Gives) (f : Ident) (xs : List Ident) → HasFunction (helpers shape.model (sizes p shape)) g f xs → IsGlobalName f → can_be_called f g ≡ true → starts_with nat_eq f (codes "nondet_") ≡ false → IsCallable items k names f g xs
  helper_callable on g f xs has safe can input =
      let it = before.helper on g f xs has in
      let m = before_means (words.function g f (map words.param xs) it.0) it.1 safe in
      let up = m.1 in
      record { callee = m.0; body = it.0; means = m.3; is = m.2; up = omega (arith, up, low); can = can; no_input = input }

  cell_global : (c : ℕ) (cell : Cell) → slice_get p.cells c ≡ Some cell → IsGlobalName cell.name
  cell_global c cell at = source_global cell.name (at_place (λ (d : Cell). IsDeclarable d.name) p.cells c cell s.cell_names at)

  mutex_global : (xs : List Ident) (m : ℕ) → All IsDeclarable xs → m < length xs → IsGlobalName (mutex_name xs m)
  mutex_global xs m all less = by (slice_get xs m) refl
    where
      there : (xs : List Ident) (m : ℕ) → m < length xs → slice_get xs m ≡ Some (mutex_name xs m)
      there [] m less = absurd (omega (arith, less))
      there (x ∷ xs) zero less = refl
      there (x ∷ xs) (suc m) less = there xs m (omega (arith, less))

      by : (o : Option Ident) → slice_get xs m ≡ o → IsGlobalName (mutex_name xs m)
      by o e = source_global (mutex_name xs m) (at_place IsDeclarable xs m (mutex_name xs m) all (there xs m less))

  pub memory_name : (has_moved_cells shape || has_buffers shape) ≡ true → IsArrayName names wm_mem
  memory_name on = (_, (before_means (filled wm_mem (start_values shape.moved 0 p.cells)) (before.memory on) (refl, λ l. refl)).3)

  -- the home of a thread's code, where each place has its label
  pub home_here : (labels : Table) (size : ℕ) → ((i : ℕ) → i < size → is_some (meaning_in labels (label_name i)) ≡ true) → IsHome p shape (has_buffers shape) items labels k names n size
  home_here labels size places =
      let h = helpers_in shape.model (sizes p shape) in
      record {
        locals = λ l less. local_means table ds n l less;
        single = λ c cell at none still. shared ((before_means (words.global cell.name None (start_value cell ∷ [])) (before.single c cell at none still) (cell_global c cell at)).3);
        arrays = λ c cell at first still. let it = before.arrays c cell at first still in (_, (before_means (filled cell.name it.0) it.1 (cell_global c cell at)).3);
        memory = memory_name;
        mutexes = λ m less. (before_means (words.mutex (mutex_name p.mutexes m)) (before.mutexes m less) (mutex_global p.mutexes m s.mutex_names less)).3;
        places = places;
        flush = λ on. helper_callable on gives.Nothing wm_flush [] h.flush (refl, λ l. refl) refl refl;
        empty = λ on. helper_callable on gives.Nothing wm_empty (wm_t ∷ []) h.empty (refl, λ l. refl) refl refl;
        put = λ on. helper_callable on gives.Nothing wm_put (wm_t ∷ wm_c ∷ wm_v ∷ []) h.put (refl, λ l. refl) refl refl;
        get = λ on. helper_callable on gives.Int wm_get (wm_t ∷ wm_c ∷ []) h.get (refl, λ l. refl) refl refl;
        set = λ on. helper_callable on gives.Nothing wm_set (wm_t ∷ wm_c ∷ wm_v ∷ []) h.set (refl, λ l. refl) refl refl;
      }
