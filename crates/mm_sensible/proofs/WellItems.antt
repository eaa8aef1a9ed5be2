-- Each kind of item of woven programs declares its name, and what is noted in it is fine.
use Rattle.std.proofs.Common.{rules, ◌≡◌, ℕ, ℤ, ◌+◌, nat_eq, true, false, if◌then◌else◌, List, [], ◌∷◌, ◌++◌, slice_get, codes, refl, ◌∙◌, sym, ap, subst, Option, Some}
use Rattle.std.specs.List.{starts_with}
use Rattle.mm_goto.specs.declared.ident.Ident.{Ident}
use Rattle.mm_tree.specs.Places.{nowhere}
use Rattle.mm_tree.specs.Trees.{global, node_of}
use Rattle.mm_tree.specs.declared.expr.Expr.{Expr}
use Rattle.mm_tree.specs.declared.expr.Node.{the_lemmas as expr_lemmas}
use Rattle.mm_tree.specs.declared.expr.Node.TheOpen as node
use Rattle.mm_tree.specs.declared.expr.Node.TheOpen.{Node-F}
use Rattle.mm_tree.specs.declared.item.Gives.{Gives as Given}
use Rattle.mm_tree.specs.declared.item.Global.{Global}
use Rattle.mm_tree.specs.declared.item.Item.{Item}
use Rattle.mm_tree.specs.declared.item.Item.TheVariants as item
use Rattle.mm_tree.specs.declared.item.Param.{Param}
use Rattle.mm_tree.specs.declared.side.Side.TheVariants.{Output}
use Rattle.mm_tree.specs.declared.stmt.Stmt.{Stmt}
use Rattle.mm_scope.specs.declared.operand.Kind.TheVariants as kind
use Rattle.mm_scope.specs.declared.fault.Rule.TheVariants.{ReservedName, TwiceDeclared}
use Rattle.mm_scope.specs.declared.table.Meaning.{Meaning}
use Rattle.mm_scope.specs.declared.table.Meaning.TheVariants as meaning
use Rattle.mm_scope.specs.Expressions.{judged_expr}
use Rattle.mm_scope.specs.Notes.{Note, Use, refusal}
use Rattle.mm_scope.specs.Operands.{Judged, fit}
use Rattle.mm_scope.specs.Scopes.{Names, Table, meaning_in, with_name, is_declared}
use Rattle.mm_scope.specs.Steps.{reserved}
use Rattle.mm_names.specs.Items.{length_notes, address_notes, start_notes, noted_length, listed_start, listed_global, listed_word, listed_input, input_notes, unknown_prototype, function_notes, listed_item}
use Rattle.mm_names.specs.Tops.{Top, Listed, no_more, top_notes, top_then, tops, listed, listed_name, reserved_at, with_globals, with_more}
use Rattle.mm_words.specs.Words as words
use Rattle.mm_sensible.proofs.IntExpressions.{IsInt, fitted_int, number_int}
use Rattle.mm_sensible.proofs.QuietStatements.{AreFine, fine_nothing}
use Rattle.mm_sensible.proofs.ItemWalk.{item_meaning, Knows, AreApart, IsWell, knows_next}

-- a part that declares what leads to this table, and in which nothing is noted
abbrev Gives : Table → Listed → Type 0
Gives t l = l ≡ record { globals = t; notes = [] }

gives_then : (t u : Table) (f g : Top) (names : Names) → Gives t (f names) → Gives u (g (with_globals names t)) → Gives u (top_then f g names)
unfolding top_then
gives_then t u f g names e h = ap (λ (l : Listed). with_more l.notes (g (with_globals names l.globals))) e ∙ ap (with_more []) h

gives_none : (names : Names) → Gives names.globals (no_more names)
unfolding no_more
gives_none names = refl

gives_notes : (f : Names → List Note) (names : Names) → f names ≡ [] → Gives names.globals (top_notes f names)
unfolding top_notes
gives_notes f names e = ap (λ ns. record { globals = names.globals; notes = ns }) e

-- one part alone
gives_alone : (t : Table) (f : Top) (names : Names) → Gives t (f names) → Gives t (top_then f no_more names)
gives_alone t f names e = gives_then t t f no_more names e (gives_none (with_globals names t))

-- a name that is not declared, and does not begin as those of inputs do
name_listed : (x : Ident) (m : Meaning) (names : Names) → is_declared (meaning_in names.globals x) ≡ false → starts_with nat_eq x (codes "nondet_") ≡ false → Gives (with_name names.globals x m) (listed_name Output nowhere x m names)
unfolding listed_name reserved listed
name_listed x m names new plain =
    gives_then names.globals (with_name names.globals x m) (top_notes (reserved_at Output nowhere x)) (listed nowhere x m) names (gives_notes (reserved_at Output nowhere x) names (unreserved x plain)) (once x m names new)
  where
    unreserved : (x : Ident) → starts_with nat_eq x (codes "nondet_") ≡ false → reserved Output nowhere x ≡ []
    unreserved x e = ap (λ b. if b then refusal ReservedName nowhere ∷ [] else []) e

    once : (x : Ident) (m : Meaning) (names : Names) → is_declared (meaning_in names.globals x) ≡ false → Gives (with_name names.globals x m) (listed nowhere x m names)
    once x m names e = ap (λ b. if b then record { globals = names.globals; notes = refusal TwiceDeclared nowhere ∷ [] } else record { globals = with_name names.globals x m; notes = [] }) e

-- ---- global variables

-- each is a number
unfoldable pub AreNumbers : List Expr → Type 0
AreNumbers [] = Unit {0}
AreNumbers (e ∷ es) = ((z : ℤ) × (e ≡ words.number z)) × AreNumbers es

number_start : (z : ℤ) (names : Names) → start_notes false (words.number z) names ≡ []
unfolding start_notes words.expr_of
number_start z names =
    let i : IsInt names (words.number z) = number_int names z in
    let j : Judged = judged_expr names (words.number z) in
    ap (λ ns. (ns ++ (fit kind.Int j.operand).notes) ++ address_notes names (node_of (words.number z))) i.notes
    ∙ ap (λ ns. ns ++ address_notes names (node_of (words.number z))) (fitted_int j.operand i.kind).notes
    ∙ ap (address_notes names) (number_node z)
  where
    number_node : (z : ℤ) → node_of (words.number z) ≡ node.Number z
    number_node z = search (rules, expr_lemmas)

starts_listed : (es : List Expr) (names : Names) → AreNumbers es → Gives names.globals (tops (listed_start false) es names)
unfolding tops AreNumbers listed_start
starts_listed [] names h = gives_none names
starts_listed (e ∷ es) names h =
    gives_then names.globals names.globals (top_notes (start_notes false e)) (tops (listed_start false) es) names
    (gives_notes (start_notes false e) names (ap (λ d. start_notes false d names) h.0.1 ∙ number_start h.0.0 names)) (starts_listed es names h.1)

-- the length fits the start values
abbrev pub HasLength : List Expr → Option ℤ → Type 0
HasLength es n = length_notes nowhere es n ≡ []

module _ (items : List Item) where
  pub global_well : (k : ℕ) (x : Ident) (len : Option ℤ) (es : List Expr) → starts_with nat_eq x (codes "nondet_") ≡ false → AreNumbers es → HasLength es len → IsWell items [] k (item.Globals (global nowhere false x len es ∷ []))
  unfolding listed_item tops listed_global
  global_well k x len es plain numbers long table knows new =
      let names : Names = record { globals = table; locals = [] } in
      let g : Global = global nowhere false x len es in
      let m : Meaning = item_meaning k (item.Globals (g ∷ [])) in
      let t : Table = with_name table x m in
      let later : Names = record { globals = t; locals = [] } in
      let it = gives_alone t (listed_global Output g) names
      (gives_then t t (listed_name Output nowhere x m) (top_then (top_notes (noted_length g)) (tops (listed_start false) es)) names (name_listed x m names new plain)
      (gives_then t t (top_notes (noted_length g)) (tops (listed_start false) es) later (gives_notes (noted_length g) later long) (starts_listed es later numbers)))
      in (ap (λ (l : Listed). l.globals) it, fine_nothing (ap (λ (l : Listed). l.notes) it))

  word_well : (k : ℕ) (x : Ident) (m : Meaning) (table : Table) → is_declared (meaning_in table x) ≡ false → starts_with nat_eq x (codes "nondet_") ≡ false → Gives (with_name table x m) (tops (listed_word Output m) (words.word x ∷ []) (record { globals = table; locals = [] }))
  unfolding tops listed_word
  word_well k x m table new plain =
      let names : Names = record { globals = table; locals = [] } in
      gives_alone (with_name table x m) (listed_name Output nowhere x m) names (name_listed x m names new plain)

  pub mutex_well : (k : ℕ) (x : Ident) → starts_with nat_eq x (codes "nondet_") ≡ false → IsWell items [] k (words.mutex x)
  unfolding listed_item
  mutex_well k x plain table knows new =
      let it = word_well k x meaning.Mutex table new plain in
      (ap (λ (l : Listed). l.globals) it, fine_nothing (ap (λ (l : Listed). l.notes) it))

  pub handle_well : (k : ℕ) (x : Ident) → starts_with nat_eq x (codes "nondet_") ≡ false → IsWell items [] k (words.thread_variable x)
  unfolding listed_item
  handle_well k x plain table knows new =
      let it = word_well k x meaning.SharedThread table new plain in
      (ap (λ (l : Listed). l.globals) it, fine_nothing (ap (λ (l : Listed). l.notes) it))

  pub input_well : (k : ℕ) (x : Ident) → starts_with nat_eq x (codes "nondet_") ≡ true → IsWell items [] k (words.input x)
  unfolding listed_item listed_input listed
  input_well k x input table knows new =
      let names : Names = record { globals = table; locals = [] } in
      let it = gives_then table (with_name table x meaning.Input) (top_notes (input_notes Output nowhere x)) (listed nowhere x meaning.Input) names
      (gives_notes (input_notes Output nowhere x) names (ap (unknown_prototype nowhere) input))
      (ap (λ b. if b then record { globals = table; notes = refusal TwiceDeclared nowhere ∷ [] } else record { globals = with_name table x meaning.Input; notes = [] }) new)
      in (ap (λ (l : Listed). l.globals) it, fine_nothing (ap (λ (l : Listed). l.notes) it))

  -- a function, whose own text sees its name
  pub function_well : (us : List Use) (k : ℕ) (g : Given) (x : Ident) (ps : List Param) (ss : List Stmt) → AreApart items → slice_get items k ≡ Some (words.function g x ps ss) → starts_with nat_eq x (codes "nondet_") ≡ false
      → ((table : Table) → Knows items (k + 1) table → AreFine us (function_notes Output items k (words.function g x ps ss) g ps ss (record { globals = table; locals = [] })))
      → IsWell items us k (words.function g x ps ss)
  unfolding listed_item top_then top_notes
  function_well us k g x ps ss apart at plain fine table knows new =
      let names : Names = record { globals = table; locals = [] } in
      let i : Item = words.function g x ps ss in
      let t : Table = with_name table x (meaning.Function k) in
      let first = name_listed x (meaning.Function k) names new plain in
      let notes : Table → List Note = λ u. function_notes Output items k i g ps ss (record { globals = u; locals = [] }) in (
        ap (λ (l : Listed). l.globals) first,
        subst (AreFine us) (sym (ap (λ (l : Listed). l.notes ++ notes l.globals) first)) (fine t (knows_next items apart k i table at refl knows)),
      )
