-- What is noted in a function that declares its locals first, and then runs statements that declare nothing.
use Rattle.std.proofs.Common.{◌≡◌, ℕ, nat_eq, Bool, true, false, if◌then◌else◌, List, [], ◌∷◌, ◌++◌, map, codes, append_assoc, append-nil, refl, ◌∙◌, sym, ap, subst, None}
use Rattle.std.specs.List.{starts_with}
use Rattle.mm_goto.specs.declared.ident.Ident.{Ident}
use Rattle.mm_tree.specs.Places.{nowhere}
use Rattle.mm_tree.specs.Trees.{local}
use Rattle.mm_tree.specs.declared.item.Gives.{Gives}
use Rattle.mm_tree.specs.declared.item.Item.{Item}
use Rattle.mm_tree.specs.declared.item.Param.{Param}
use Rattle.mm_tree.specs.declared.side.Side.TheVariants.{Output}
use Rattle.mm_tree.specs.declared.stmt.Stmt.{Stmt}
use Rattle.mm_tree.specs.declared.stmt.StmtNode.TheOpen as stmt
use Rattle.mm_scope.specs.declared.around.Around.{Around}
use Rattle.mm_scope.specs.declared.table.Meaning.{Meaning}
use Rattle.mm_scope.specs.declared.table.Meaning.TheVariants as meaning
use Rattle.mm_scope.specs.declared.fault.Rule.TheVariants.{ReservedName, TwiceDeclared}
use Rattle.mm_scope.specs.Declarations.{declared_name, declared_local}
use Rattle.mm_scope.specs.Notes.{Use, refusal}
use Rattle.mm_scope.specs.Scopes.{Names, Named, Table, named_as, stands}
use Rattle.mm_scope.specs.Statements.{Placed, all_at, said_stmt}
use Rattle.mm_scope.specs.Steps.{Said, Step, skip, noting, with_both, and_then, in_turn, reserved, declaring, declaring_where}
use Rattle.mm_names.specs.Items.{meaning_of_param, declared_param, is_main, body_of, labels_of, function_notes}
use Rattle.mm_names.specs.Labels.{with_labels, labels_notes}
use Rattle.mm_words.specs.Words as words
use Rattle.mm_sensible.proofs.QuietStatements.{AreFine, fine_both, Tells, stand}
use Rattle.mm_sensible.proofs.WordStatements.{said_is}

-- a part declares these names, and nothing is noted in it
abbrev pub Opens : List Named → Said → Type 0
Opens ds s = s ≡ record { declared = ds; notes = [] }

-- what is noted behind such a part
pub open_then : (ds : List Named) (f g : Step) (names : Names) → Opens ds (f names) → (and_then f g names).notes ≡ (g (record names { locals = names.locals ++ ds })).notes
unfolding and_then
open_then ds f g names e = ap (λ (s : Said). (with_both s (g (record names { locals = names.locals ++ s.declared }))).notes) e

open_both : (ds es : List Named) (f g : Step) (names : Names) → Opens ds (f names) → Opens es (g (record names { locals = names.locals ++ ds })) → Opens (ds ++ es) (and_then f g names)
unfolding and_then
open_both ds es f g names e h =
    ap (λ (s : Said). with_both s (g (record names { locals = names.locals ++ s.declared }))) e
    ∙ ap (with_both (record { declared = ds; notes = [] })) h

-- the name may be declared in a function behind these
abbrev pub IsFresh : List Named → Ident → Type 0
IsFresh ls x = (stands ls 0 x ≡ false) × (starts_with nat_eq x (codes "nondet_") ≡ false)

-- names may be declared one behind another, each with this meaning
unfoldable pub AreFresh : Meaning → List Named → List Ident → Type 0
AreFresh m ls [] = Unit {0}
AreFresh m ls (x ∷ xs) = IsFresh ls x × AreFresh m (ls ++ named_as x m ∷ []) xs

-- names with this meaning
abbrev pub named_all : Meaning → List Ident → List Named
named_all m xs = map (λ x. named_as x m) xs

declared_where : Bool → Ident → Meaning → Said
declared_where b x m = if b then record { declared = []; notes = refusal TwiceDeclared nowhere ∷ [] } else record { declared = named_as x m ∷ []; notes = [] }

module _ (items : List Item) (labels : Table) (k : ℕ) (g : Gives) (table : Table) where
  abbrev inside : List Named → Names
  inside ls = record { globals = table; locals = ls }

  name_opens : (looped outermost : Bool) (ls : List Named) (x : Ident) (m : Meaning) → IsFresh ls x → Opens (named_as x m ∷ []) (declared_name (stand k g 0 looped outermost) nowhere x m (inside ls))
  unfolding and_then reserved declaring declaring_where declared_where
  name_opens looped outermost ls x m h =
      ap (λ b. with_both (noting (if b then refusal ReservedName nowhere ∷ [] else [])) (declaring 0 nowhere x m (inside (ls ++ [])))) h.1
      ∙ ap (λ ns. with_both (noting []) (declared_where (stands ns 0 x) x m)) (append-nil ls)
      ∙ ap (λ b. with_both (noting []) (declared_where b x m)) h.0

  -- the parameters of a function that is no thread
  pub params_open : (outermost : Bool) (ls : List Named) (xs : List Ident) → meaning_of_param g false ≡ meaning.Int → AreFresh meaning.Int ls xs → Opens (named_all meaning.Int xs) (in_turn (declared_param (stand k g 0 false outermost)) (map words.param xs) (inside ls))
  unfolding in_turn skip AreFresh declared_param
  params_open outermost ls [] ints h = refl
  params_open outermost ls (x ∷ xs) ints h =
      let a : Around = stand k g 0 false outermost in
      open_both (named_as x meaning.Int ∷ []) (named_all meaning.Int xs) (declared_param a (words.param x)) (in_turn (declared_param a) (map words.param xs)) (inside ls)
      (subst (λ m. Opens (named_as x meaning.Int ∷ []) (declared_name a nowhere x m (inside ls))) (sym ints) (name_opens false outermost ls x meaning.Int h.0))
      (params_open outermost (ls ++ named_as x meaning.Int ∷ []) xs ints h.1)

  -- the parameter of a thread
  pub pointer_opens : (outermost : Bool) (x : Ident) → IsFresh [] x → Opens (named_as x (meaning_of_param g true) ∷ []) (in_turn (declared_param (stand k g 0 false outermost)) (words.pointer_param x ∷ []) (inside []))
  unfolding in_turn skip declared_param
  pointer_opens outermost x h =
      let a : Around = stand k g 0 false outermost in
      open_both (named_as x (meaning_of_param g true) ∷ []) [] (declared_param a (words.pointer_param x)) skip (inside []) (name_opens false outermost [] x (meaning_of_param g true) h) refl

  -- int x;
  declare_opens : (outermost : Bool) (ls : List Named) (x : Ident) → IsFresh ls x → Opens (named_as x meaning.Int ∷ []) (said_stmt items labels (words.declare x) (stand k g 0 false outermost) (inside ls))
  unfolding in_turn skip declared_local
  declare_opens outermost ls x h =
      let a : Around = stand k g 0 false outermost in
      let name : Step = declared_name a nowhere x meaning.Int in
      ap (λ (f : Placed). f a (inside ls)) (said_is items labels k g (inside ls) (stmt.Declare (local nowhere false x None ∷ [])))
      ∙ open_both (named_as x meaning.Int ∷ []) [] (and_then skip name) skip (inside ls)
      (open_both [] (named_as x meaning.Int ∷ []) skip name (inside ls) refl (subst (λ ns. Opens (named_as x meaning.Int ∷ []) (name (inside ns))) (sym (append-nil ls)) (name_opens false outermost ls x meaning.Int h)))
      refl

  -- what is noted in statements behind declarations of ints
  pub declared_first : (outermost : Bool) (ls : List Named) (xs : List Ident) (ss : List Stmt) → AreFresh meaning.Int ls xs
      → (all_at (stand k g 0 false outermost) (map (said_stmt items labels) (map words.declare xs ++ ss)) (inside ls)).notes
      ≡ (all_at (stand k g 0 false outermost) (map (said_stmt items labels) ss) (inside (ls ++ named_all meaning.Int xs))).notes
  unfolding all_at in_turn AreFresh
  declared_first outermost ls [] ss h = ap (λ ns. (all_at (stand k g 0 false outermost) (map (said_stmt items labels) ss) (inside ns)).notes) (sym (append-nil ls))
  declared_first outermost ls (x ∷ xs) ss h =
      let a : Around = stand k g 0 false outermost in
      let more : Step = all_at a (map (said_stmt items labels) (map words.declare xs ++ ss)) in
      open_then (named_as x meaning.Int ∷ []) (said_stmt items labels (words.declare x) a) more (inside ls) (declare_opens outermost ls x h.0)
      ∙ declared_first outermost (ls ++ named_as x meaning.Int ∷ []) xs ss h.1
      ∙ ap (λ ns. (all_at a (map (said_stmt items labels) ss) (inside ns)).notes) (append_assoc ls (named_as x meaning.Int ∷ []) (named_all meaning.Int xs))

-- what is noted in a function whose parameters and locals are declared, and whose labels are fine
pub function_fine : (us : List Use) (items : List Item) (k : ℕ) (g : Gives) (f : Ident) (table : Table) (ps : List Param) (ds : List Named) (ys : List Ident) (ss : List Stmt)
    → let i : Item = words.function g f ps (map words.declare ys ++ ss) in
    let labels : List _ = labels_of (map words.declare ys ++ ss) in
    AreFine [] (labels_notes Output [] labels)
    → Opens ds (in_turn (declared_param (stand k g 0 false (is_main i))) ps (record { globals = table; locals = [] }))
    → AreFresh meaning.Int ds ys
    → Tells us (all_at (stand k g 0 false (is_main i)) (map (said_stmt items (with_labels [] labels)) ss) (record { globals = table; locals = ds ++ named_all meaning.Int ys }))
    → AreFine us (function_notes Output items k i g ps (map words.declare ys ++ ss) (record { globals = table; locals = [] }))
unfolding function_notes body_of
function_fine us items k g f table ps ds ys ss labelled opens fresh told =
    let i : Item = words.function g f ps (map words.declare ys ++ ss) in
    let labels : Table = with_labels [] (labels_of (map words.declare ys ++ ss)) in
    let a : Around = stand k g 0 false (is_main i) in
    let names : Names = record { globals = table; locals = [] } in
    fine_both (labels_notes Output [] (labels_of (map words.declare ys ++ ss))) _ labelled
    (subst (AreFine us)
    (sym (open_then ds (in_turn (declared_param a) ps) (all_at a (map (said_stmt items labels) (map words.declare ys ++ ss))) names opens
    ∙ declared_first items labels k g table (is_main i) ds ys ss fresh))
    told.notes)
