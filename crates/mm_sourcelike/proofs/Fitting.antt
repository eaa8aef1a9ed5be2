-- In an accepted source each call has the arguments of its function, and there is nothing that only outputs have.
use Rattle.std.proofs.Common.{arith, ◌≡◌, ℕ, nat_eq, Bool, true, false, ◌&&◌, if◌then◌else◌, List, [], ◌∷◌, ◌++◌, length, map, codes, refl, ◌∙◌, sym, subst, append_assoc, Option, Some, None}
use Rattle.std.specs.List.{AllByRecursion, slice_get, starts_with}
use Rattle.std.specs.Option.{option_or}
use Rattle.std.specs.Str.{bytes_eq}
use Rattle.std.proofs.lemmas.Bool.Decides.{nat_tests}
use Rattle.std.proofs.lemmas.List.{append-nil}
use Rattle.mm_goto.specs.declared.ident.At.{At}
use Rattle.mm_goto.specs.declared.ident.Ident.{Ident}
use Rattle.mm_tree.specs.declared.expr.Expr.{Expr}
use Rattle.mm_tree.specs.declared.expr.Word.{Word}
use Rattle.mm_tree.specs.declared.item.Item.{Item}
use Rattle.mm_tree.specs.declared.item.Item.TheVariants as item
use Rattle.mm_tree.specs.declared.side.Side.TheVariants.{Source}
use Rattle.mm_tree.specs.declared.stmt.Left.{Left}
use Rattle.mm_tree.specs.declared.stmt.Local.{Local}
use Rattle.mm_tree.specs.declared.stmt.Value.{Value}
use Rattle.mm_tree.specs.declared.stmt.Value.TheVariants as value
use Rattle.mm_tree.specs.declared.stmt.Stmt.{Stmt, roll-Stmt}
use Rattle.mm_tree.specs.declared.stmt.StmtNode.{StmtNode, roll-StmtNode}
use Rattle.mm_tree.specs.declared.stmt.StmtNode.TheOpen as stmt
use Rattle.mm_tree.specs.declared.stmt.StmtNode.TheOpen.{StmtNode-F, Stmt-F}
use Rattle.mm_tree.specs.declared.stmt.StmtNode.TheFolds.{ind-Stmt, fold-StmtNode, fold-roll-StmtNode, fold-roll-Stmt, map-StmtNode, map-Stmt}
use Rattle.mm_flow.specs.declared.names.Named.{Named}
use Rattle.mm_flow.specs.declared.names.Parts.{Parts}
use Rattle.mm_flow.specs.Statements.{Function, function_of, is_input}
use Rattle.mm_scope.specs.declared.around.Around.{Around}
use Rattle.mm_scope.specs.declared.table.Meaning.{Meaning}
use Rattle.mm_scope.specs.declared.table.Meaning.TheVariants as meaning
use Rattle.mm_scope.specs.Declarations.{initialiser, declared_local, declared_thread, declared_name, meaning_of_local}
use Rattle.mm_scope.specs.Notes.{Note}
use Rattle.mm_scope.specs.Parts.{inner, guarded, in_loop, noted_expr, noted_value, noted_assign, noted_update, returned, asserted, refusal_unless, output_only}
use Rattle.mm_scope.specs.Scopes.{Names, Table, Named as NamedAs, named_as, found, meaning_in, meaning_of}
use Rattle.mm_scope.specs.Statements.{Placed, noted_goto, all_at, if_some, block, choice, while_loop, do_loop, for_loop, said_node_step, said_stmt_step, said_node, said_stmt}
use Rattle.mm_scope.specs.Steps.{Step, skip, noting, behind, and_then, in_turn, if_there, closed, adding, declaring, declaring_where}
use Rattle.mm_scope.specs.Threads.{noted_mutex, noted_thread, noted_body, started}
use Rattle.mm_scope.specs.Values.{judged_value, judged_left, call, call_of, numbered_call, call_fault, input_call, can_be_called, arguments}
use Rattle.mm_sourcelike.proofs.Deeds.{Deed, Foreign, AllFit, Fits, of_value, of_optional, of_locals, deed_step, deed_layer, deeds_of, deeds_in}
use Rattle.mm_sourcelike.proofs.Cells.{both_all}
use Rattle.mm_sourcelike.proofs.Scoping.{NoFault, fault_left, fault_right, HasFunction, Means, Stands, Sees, IsSound, found_push, same_some}
use Rattle.mm_sourcelike.proofs.Valuing.{test_first, test_second}

-- ---- names

-- what a local name may mean
abbrev pub IsOfLocal : Meaning → Type 0
IsOfLocal meaning.Int = Unit {0}
IsOfLocal meaning.Pointer = Unit {0}
IsOfLocal meaning.Thread = Unit {0}
IsOfLocal meaning.Handed = Unit {0}
IsOfLocal meaning.Unready = Unit {0}
IsOfLocal meaning.Shared = ⊥
IsOfLocal (meaning.Array n) = ⊥
IsOfLocal meaning.Mutex = ⊥
IsOfLocal meaning.SharedThread = ⊥
IsOfLocal (meaning.Function k) = ⊥
IsOfLocal (meaning.Ahead k) = ⊥
IsOfLocal meaning.Input = ⊥
IsOfLocal meaning.Label = ⊥

of_local_name : (named : List Named) (x : Ident) (m : Meaning) → Stands named x m → IsOfLocal m
of_local_name named x meaning.Int s = tt
of_local_name named x meaning.Pointer s = tt
of_local_name named x meaning.Thread s = tt
of_local_name named x meaning.Handed s = tt
of_local_name named x meaning.Unready s = tt
of_local_name named x meaning.Shared s = s
of_local_name named x (meaning.Array n) s = s
of_local_name named x meaning.Mutex s = s
of_local_name named x meaning.SharedThread s = s
of_local_name named x (meaning.Function k) s = s
of_local_name named x (meaning.Ahead k) s = s
of_local_name named x meaning.Input s = s
of_local_name named x meaning.Label s = s

abbrev pub AreOfLocals : List NamedAs → Type 0
AreOfLocals ds = AllByRecursion (λ (d : NamedAs). IsOfLocal d.meaning) ds

local_meaning : (pointer : Bool) → IsOfLocal (meaning_of_local pointer)
local_meaning true = tt
local_meaning false = tt

declaring_locals : (taken : Bool) (at : At) (x : Ident) (m : Meaning) (names : Names) → IsOfLocal m → AreOfLocals (declaring_where taken at x m names).declared
unfolding declaring_where
declaring_locals true at x m names h = tt
declaring_locals false at x m names h = (h, tt)

name_locals : (a : Around) (at : At) (x : Ident) (m : Meaning) (names : Names) → IsOfLocal m → AreOfLocals (declared_name a at x m names).declared
unfolding and_then declaring
name_locals a at x m names h = declaring_locals _ at x m _ h

-- what a step declares are locals
abbrev pub DeclaresLocals : Step → Type 0
DeclaresLocals f = (names : Names) → AreOfLocals (f names).declared

and_locals : (f g : Step) → DeclaresLocals f → DeclaresLocals g → DeclaresLocals (and_then f g)
unfolding and_then
and_locals f g h i names = both_all (λ (d : NamedAs). IsOfLocal d.meaning) (f names).declared (g (behind f names)).declared (h names) (i (behind f names))

skip_locals : DeclaresLocals skip
unfolding skip
skip_locals names = tt

turn_locals : {X : Type 0} (f : X → Step) → ((x : X) → DeclaresLocals (f x)) → (xs : List X) → DeclaresLocals (in_turn f xs)
unfolding in_turn
turn_locals f h [] = skip_locals
turn_locals f h (x ∷ xs) = and_locals (f x) (in_turn f xs) (h x) (turn_locals f h xs)

closed_locals : (f : Step) → DeclaresLocals (closed f)
unfolding closed
closed_locals f names = tt

initial_locals : (items : List Item) (a : Around) (l : Local) (o : Option Value) → DeclaresLocals (initialiser items a l o)
initial_locals items a l None = skip_locals
initial_locals items a l (Some v) = closed_locals _

local_locals : (items : List Item) (a : Around) (l : Local) → DeclaresLocals (declared_local items a l)
unfolding declared_local
local_locals items a l = and_locals (initialiser items a l l.value) (declared_name a l.at l.name (meaning_of_local l.pointer)) (initial_locals items a l l.value) (λ names. name_locals a l.at l.name (meaning_of_local l.pointer) names (local_meaning l.pointer))

word_locals : (a : Around) (w : Word) → DeclaresLocals (declared_thread a w)
unfolding declared_thread
word_locals a w names = name_locals a w.at w.name meaning.Thread names tt

module _ (items : List Item) (parts : Parts) (mutexes : List Ident) where
  -- the names are those of an accepted text
  pub record Good (names : Names) : Type 0 where
    pub globals : IsSound parts.spots mutexes items names.globals
    pub locals : (x : Ident) (m : Meaning) → found names.locals x ≡ Some m → IsOfLocal m

  pub seen_good : (names : Names) (named : List Named) → IsSound parts.spots mutexes items names.globals → Sees names.locals named → Good names
  seen_good names named g s = record { globals = g; locals = λ x m e. of_local_name named x m (s.each x m e) }

  good_push : (names : Names) (ds : List NamedAs) → AreOfLocals ds → Good names → Good (record names { locals = names.locals ++ ds })
  good_push names [] h g = subst (λ (ls : List NamedAs). Good (record names { locals = ls })) (sym (append-nil names.locals)) g
  good_push names (d ∷ ds) h g =
      subst (λ (ls : List NamedAs). Good (record names { locals = ls })) (append_assoc names.locals (d ∷ []) ds)
      (good_push (record names { locals = names.locals ++ d ∷ [] }) ds h.1 (record { globals = g.globals; locals = λ x m e. by x m (bytes_eq d.name x) (sym (found_push names.locals d.name d.meaning x) ∙ e) }))
    where
      by : (x : Ident) (m : Meaning) (b : Bool) → (if b then Some d.meaning else found names.locals x) ≡ Some m → IsOfLocal m
      by x m true e = subst IsOfLocal (same_some d.meaning m e) h.0
      by x m false e = g.locals x m e

  good_behind : (f : Step) (names : Names) → DeclaresLocals f → Good names → Good (behind f names)
  good_behind f names h g = good_push names (f names).declared (h names) g

  -- ---- calls

  record CallOf (x : Ident) (es : List Expr) : Type 0 where
    k : ℕ
    function : HasFunction items x k
    can : can_be_called x function.gives ≡ true
    many : length es ≡ length function.params

  same_count : (m n : ℕ) → nat_eq m n ≡ true → m ≡ n
  same_count m n e = grind (arith, nat_tests)

  call_true : (at : At) (b : Bool) (ns : List Note) → NoFault (call_fault at b ++ ns) → b ≡ true
  call_true at true ns h = refl
  call_true at false ns h = absurd h

  module _ (names : Names) (caller : ℕ) (at : At) (x : Ident) (es : List Expr) where
    numbered : (k : ℕ) (h : HasFunction items x k) → NoFault (numbered_call names caller k at es (slice_get items k)).notes → CallOf x es
    numbered k h f =
        let g : NoFault (numbered_call names caller k at es (Some (item.Function h.at h.gives x h.params h.body))).notes = subst (λ o. NoFault (numbered_call names caller k at es o).notes) h.is f in
        let r : (can_be_called x h.gives && nat_eq (length es) (length h.params)) ≡ true = call_true at (can_be_called x h.gives && nat_eq (length es) (length h.params)) (arguments names h.params es) g in
        record { k = k; function = h; can = test_first (can_be_called x h.gives) (nat_eq (length es) (length h.params)) r; many = same_count (length es) (length h.params) (test_second (can_be_called x h.gives) (nat_eq (length es) (length h.params)) r) }

    of_local : (m : Meaning) → IsOfLocal m → NoFault (call_of items names caller at es (Some m)).notes → ⊥
    of_local meaning.Int s f = f
    of_local meaning.Pointer s f = f
    of_local meaning.Thread s f = f
    of_local meaning.Handed s f = f
    of_local meaning.Unready s f = f
    of_local meaning.Shared s f = s
    of_local (meaning.Array n) s f = s
    of_local meaning.Mutex s f = s
    of_local meaning.SharedThread s f = s
    of_local (meaning.Function k) s f = s
    of_local (meaning.Ahead k) s f = s
    of_local meaning.Input s f = s
    of_local meaning.Label s f = s

    of_global : (m : Meaning) → starts_with nat_eq x (codes "nondet_") ≡ false → Means parts.spots mutexes items x m → NoFault (call_of items names caller at es (Some m)).notes → CallOf x es
    of_global (meaning.Function k) e s f = numbered k s f
    of_global (meaning.Ahead k) e s f = numbered k s f
    of_global meaning.Input e s f = absurd (apart (sym e ∙ s))
      where
        apart : false ≡ true → ⊥
        apart q = cc
    of_global meaning.Shared e s f = absurd f
    of_global meaning.Pointer e s f = absurd f
    of_global (meaning.Array n) e s f = absurd f
    of_global meaning.Mutex e s f = absurd f
    of_global meaning.SharedThread e s f = absurd f
    of_global meaning.Int e s f = absurd s
    of_global meaning.Thread e s f = absurd s
    of_global meaning.Handed e s f = absurd s
    of_global meaning.Unready e s f = absurd s
    of_global meaning.Label e s f = absurd s

    is_call : Good names → starts_with nat_eq x (codes "nondet_") ≡ false → NoFault (call_of items names caller at es (meaning_of names x)).notes → CallOf x es
    is_call g e f = by (found names.locals x) (meaning_in names.globals x) (g.locals x) (g.globals.each x) f
      where
        by : (a b : Option Meaning) → ((m : Meaning) → a ≡ Some m → IsOfLocal m) → ((m : Meaning) → b ≡ Some m → Means parts.spots mutexes items x m) → NoFault (call_of items names caller at es (option_or a b)).notes → CallOf x es
        by (Some m) b s q h = absurd (of_local m (s m refl) h)
        by None (Some m) s q h = of_global m e (q m refl) h
        by None None s q h = absurd h

  module _ (G : Function → Type 0) (callable : (x : Ident) (k : ℕ) (h : HasFunction items x k) (f : Function) → can_be_called x h.gives ≡ true → function_of items parts.asserts x ≡ Some f → (length h.params ≡ length f.params) × G f) where
    value_fits : (caller : ℕ) (names : Names) (v : Value) → Good names → NoFault (judged_value items caller names v).notes → AllFit parts items G (of_value v)
    unfolding judged_value call
    value_fits caller names (value.Plain e) g f = tt
    value_fits caller names (value.FetchAdd at p e) g f = tt
    value_fits caller names (value.CompareSwap at p e o) g f = tt
    value_fits caller names (value.Call at x es) g f = ((λ real q is. by real q is f), tt)
      where
        by : is_input x ≡ false → (q : Function) → function_of items parts.asserts x ≡ Some q → NoFault (if starts_with nat_eq x (codes "nondet_") then input_call names at es else call_of items names caller at es (meaning_of names x)).notes → (length es ≡ length q.params) × G q
        by real q is h =
            let c : CallOf x es = is_call names caller at x es g real (subst (λ b. NoFault (if b then input_call names at es else call_of items names caller at es (meaning_of names x)).notes) real h) in
            let r = callable x c.k c.function q c.can is in
            (c.many ∙ r.0, r.1)

    -- ---- statements

    -- where it is accepted, what it does fits
    abbrev pub Fitting : List Deed → Placed → Type 0
    Fitting ds s = (a : Around) (names : Names) → a.side ≡ Source → Good names → NoFault (s a names).notes → AllFit parts items G ds

    abbrev pub Says : List Deed → Placed → Type 0
    Says ds s = ((a : Around) → DeclaresLocals (s a)) × Fitting ds s

    initial_fits : (l : Local) (o : Option Value) (a : Around) (names : Names) → Good names → NoFault (initialiser items a l o names).notes → AllFit parts items G (of_optional o)
    unfolding closed and_then adding noted_value skip
    initial_fits l None a names g f = tt
    initial_fits l (Some v) a names g f =
        let names1 : Names = record names { locals = names.locals ++ named_as l.name meaning.Unready ∷ [] } in
        value_fits a.caller names1 v (good_push names (named_as l.name meaning.Unready ∷ []) (tt, tt) g) (fault_left (judged_value items a.caller names1 v).notes _ f)

    local_fits : (l : Local) → Fitting (of_optional l.value) (λ a. declared_local items a l)
    unfolding declared_local and_then
    local_fits l a names e g f = initial_fits l l.value a names g (fault_left (initialiser items a l l.value names).notes _ f)

    locals_fit : (ls : List Local) → Fitting (of_locals ls) (λ a. in_turn (declared_local items a) ls)
    unfolding in_turn and_then
    locals_fit [] a names e g f = tt
    locals_fit (l ∷ ls) a names e g f =
        both_all (Fits parts items G) (of_optional l.value) (of_locals ls)
        (local_fits l a names e g (fault_left (declared_local items a l names).notes _ f))
        (locals_fit ls a (behind (declared_local items a l) names) e (good_behind (declared_local items a l) names (local_locals items a l) g) (fault_right (declared_local items a l names).notes _ f))

    assign_fits : (l : Left) (v : Value) → Fitting (of_value v) (λ a. noted_assign items a l v)
    unfolding noted_assign
    assign_fits l v a names e g f = value_fits a.caller names v g (fault_left (judged_value items a.caller names v).notes _ (fault_right (judged_left names l).notes _ f))

    do_fits : (v : Value) → Fitting (of_value v) (λ a. noted_value items a None v)
    unfolding noted_value
    do_fits v a names e g f = value_fits a.caller names v g (fault_left (judged_value items a.caller names v).notes _ f)

    return_fits : (v : Option Value) → Fitting (of_optional v) (λ a. if_there (returned items a) v)
    unfolding returned
    return_fits None a names e g f = tt
    return_fits (Some v) a names e g f = value_fits a.caller names v g (fault_left (judged_value items a.caller names v).notes _ f)

    return_locals : (v : Option Value) (a : Around) → DeclaresLocals (if_there (returned items a) v)
    unfolding returned
    return_locals None a = skip_locals
    return_locals (Some v) a = λ names. tt

    no_output : (at : At) (a : Around) (ns : List Note) → a.side ≡ Source → NoFault (output_only a.side at ++ ns) → ⊥
    no_output at a ns e f = subst (λ s. NoFault (output_only s at ++ ns)) e f

    fault_nil : (ns : List Note) → NoFault ns → NoFault (ns ++ [])
    fault_nil ns f = subst NoFault (sym (append-nil ns)) f

    goto_fits : (at : At) (labels : Table) (x : Word) → Fitting (Foreign ∷ []) (λ a. noted_goto a labels at x)
    unfolding noted_goto
    goto_fits at labels x a names e g f = absurd (no_output at a _ e f)

    goto_locals : (at : At) (labels : Table) (x : Word) (a : Around) → DeclaresLocals (noted_goto a labels at x)
    unfolding noted_goto
    goto_locals at labels x a names = tt

    -- ---- statements with statements in them

    two_fit : (ds es : List Deed) (f g : Step) (names : Names) → (NoFault (f names).notes → AllFit parts items G ds) → (NoFault (g (behind f names)).notes → AllFit parts items G es) → NoFault (and_then f g names).notes → AllFit parts items G (ds ++ es)
    unfolding and_then
    two_fit ds es f g names h i n = both_all (Fits parts items G) ds es (h (fault_left (f names).notes _ n)) (i (fault_right (f names).notes _ n))

    last_fits : (f g : Step) (names : Names) (ds : List Deed) → (NoFault (g (behind f names)).notes → AllFit parts items G ds) → NoFault (and_then f g names).notes → AllFit parts items G ds
    unfolding and_then
    last_fits f g names ds h n = h (fault_right (f names).notes _ n)

    first_fits : (f g : Step) (names : Names) (ds : List Deed) → (NoFault (f names).notes → AllFit parts items G ds) → NoFault (and_then f g names).notes → AllFit parts items G ds
    unfolding and_then
    first_fits f g names ds h n = h (fault_left (f names).notes _ n)

    expr_locals : (c : Expr) → DeclaresLocals (noted_expr c)
    expr_locals c names = tt

    abbrev SaysIfSome : List Deed → Option Placed → Type 0
    SaysIfSome ds o = ((a : Around) → DeclaresLocals (if_some a o)) × ((a : Around) (names : Names) → a.side ≡ Source → Good names → NoFault (if_some a o names).notes → AllFit parts items G ds)

    choice_says : (c : Expr) (ds es : List Deed) (s : Placed) (o : Option Placed) → Says ds s → SaysIfSome es o → Says (ds ++ es) (λ a. choice a c s o)
    unfolding choice
    choice_says c ds es s o h i = (
      (λ a. and_locals (noted_expr c) (and_then (s (guarded a)) (if_some (guarded a) o)) (expr_locals c) (and_locals (s (guarded a)) (if_some (guarded a) o) (h.0 (guarded a)) (i.0 (guarded a)))),
      (λ a names e g f.
          let names1 : Names = behind (noted_expr c) names in
          let g1 : Good names1 = good_behind (noted_expr c) names (expr_locals c) g in
          last_fits (noted_expr c) (and_then (s (guarded a)) (if_some (guarded a) o)) names (ds ++ es)
          (two_fit ds es (s (guarded a)) (if_some (guarded a) o) names1 (λ q. h.1 (guarded a) names1 e g1 q) (λ q. i.1 (guarded a) (behind (s (guarded a)) names1) e (good_behind (s (guarded a)) names1 (h.0 (guarded a)) g1) q)) f),
    )

    while_says : (c : Expr) (ds : List Deed) (s : Placed) → Says ds s → Says ds (λ a. while_loop a c s)
    unfolding while_loop
    while_says c ds s h = (
      (λ a. and_locals (noted_expr c) (s (in_loop a)) (expr_locals c) (h.0 (in_loop a))),
      (λ a names e g f. last_fits (noted_expr c) (s (in_loop a)) names ds (λ q. h.1 (in_loop a) (behind (noted_expr c) names) e (good_behind (noted_expr c) names (expr_locals c) g) q) f),
    )

    loop_says : (c : Expr) (ds : List Deed) (s : Placed) → Says ds s → Says ds (λ a. do_loop a s c)
    unfolding do_loop
    loop_says c ds s h = (
      (λ a. and_locals (s (in_loop a)) (noted_expr c) (h.0 (in_loop a)) (expr_locals c)),
      (λ a names e g f. first_fits (s (in_loop a)) (noted_expr c) names ds (λ q. h.1 (in_loop a) names e g q) f),
    )

    condition_locals : (c : Option Expr) → DeclaresLocals (if_there noted_expr c)
    condition_locals None = skip_locals
    condition_locals (Some c) = expr_locals c

    for_says : (is : List Deed) (i : Option Placed) (c : Option Expr) (js : List Deed) (j : Option Placed) (ds : List Deed) (s : Placed) → SaysIfSome is i → SaysIfSome js j → Says ds s → Says (is ++ (js ++ ds)) (λ a. for_loop a i c j s)
    unfolding for_loop closed
    for_says is i c js j ds s hi hj h = (
      (λ a names. tt),
      (λ a names e g f.
          let b : Around = inner a names in
          let last : Step = and_then (if_some b j) (s (in_loop b)) in
          let names1 : Names = behind (if_some b i) names in
          let names2 : Names = behind (if_there noted_expr c) names1 in
          let names3 : Names = behind (if_some b j) names2 in
          let g1 : Good names1 = good_behind (if_some b i) names (hi.0 b) g in
          let g2 : Good names2 = good_behind (if_there noted_expr c) names1 (condition_locals c) g1 in
          let g3 : Good names3 = good_behind (if_some b j) names2 (hj.0 b) g2 in
          two_fit is (js ++ ds) (if_some b i) (and_then (if_there noted_expr c) last) names (λ q. hi.1 b names e g q)
          (λ q. last_fits (if_there noted_expr c) last names1 (js ++ ds) (two_fit js ds (if_some b j) (s (in_loop b)) names2 (λ r. hj.1 b names2 e g2 r) (λ r. h.1 (in_loop b) names3 e g3 r)) q) f),
    )

    none_says : SaysIfSome [] None
    none_says = ((λ a. skip_locals), (λ a names e g f. tt))

    one_says : (ds : List Deed) (s : Placed) → Says ds s → SaysIfSome ds (Some s)
    one_says ds s h = h

    module _ (labels : Table) where
      abbrev SaidBy : Type 0
      SaidBy = At → Placed

      abbrev node_deeds : StmtNode → List Deed
      node_deeds = fold-StmtNode (List Deed) (List Deed) deed_step deed_layer

      abbrev P : StmtNode → Type 0
      P d = (at : At) → Says (node_deeds d) (said_node items labels d at)

      abbrev Q : Stmt → Type 0
      Q s = Says (deeds_of s) (said_stmt items labels s)

      abbrev said_layer : StmtNode-F StmtNode Stmt → At → Placed
      said_layer z at = said_node_step items labels (map-StmtNode StmtNode Stmt SaidBy Placed (said_node items labels) (said_stmt items labels) z) at

      abbrev done_layer : StmtNode-F StmtNode Stmt → List Deed
      done_layer z = deed_step (map-StmtNode StmtNode Stmt (List Deed) (List Deed) node_deeds deeds_of z)

      by_node : (z : StmtNode-F StmtNode Stmt) (at : At) → Says (done_layer z) (said_layer z at) → Says (node_deeds (roll-StmtNode z)) (said_node items labels (roll-StmtNode z) at)
      unfolding deeds_of
      by_node z at g =
          subst (λ (f : SaidBy). Says (node_deeds (roll-StmtNode z)) (f at)) (sym (fold-roll-StmtNode SaidBy Placed (said_node_step items labels) (said_stmt_step items labels) z))
          (subst (λ (f : List Deed). Says f (said_layer z at)) (sym (fold-roll-StmtNode (List Deed) (List Deed) deed_step deed_layer z)) g)

      by_stmt : (z : Stmt-F StmtNode Stmt) → Says (node_deeds z.node) (said_node items labels z.node z.at) → Q (roll-Stmt z)
      unfolding deeds_of
      by_stmt z g =
          subst (λ (f : Placed). Says (deeds_of (roll-Stmt z)) f) (sym (fold-roll-Stmt SaidBy Placed (said_node_step items labels) (said_stmt_step items labels) z))
          (subst (λ (f : List Deed). Says f (said_node items labels z.node z.at)) (sym (fold-roll-Stmt (List Deed) (List Deed) deed_step deed_layer z)) g)

      abbrev Proved : Type 0
      Proved = (s : Stmt) × Q s

      abbrev stmts_in : List Proved → List Stmt
      stmts_in ss = map (λ (s : Proved). s.0) ss

      parts_fit : (ss : List Proved) → Fitting (deeds_in (stmts_in ss)) (λ a. all_at a (map (said_stmt items labels) (stmts_in ss)))
      unfolding all_at in_turn
      parts_fit [] a names e g f = tt
      parts_fit (s ∷ ss) a names e g f =
          two_fit (deeds_of s.0) (deeds_in (stmts_in ss)) (said_stmt items labels s.0 a) (all_at a (map (said_stmt items labels) (stmts_in ss))) names
          (λ q. s.1.1 a names e g q)
          (λ q. parts_fit ss a (behind (said_stmt items labels s.0 a) names) e (good_behind (said_stmt items labels s.0 a) names (s.1.0 a) g) q) f

      abbrev Layer : Type 0
      Layer = StmtNode-F ((d : StmtNode) × P d) Proved

      abbrev bare : Layer → StmtNode-F StmtNode Stmt
      bare y = map-StmtNode ((d : StmtNode) × P d) Proved StmtNode Stmt (λ d. d.0) (λ e. e.0) y

      abbrev said : Proved → Placed
      said s = said_stmt items labels s.0

      block_says : (ss : List Proved) → Says (deeds_in (stmts_in ss)) (λ a. block a (map (said_stmt items labels) (stmts_in ss)))
      unfolding block closed
      block_says ss = ((λ a names. tt), (λ a names e g f. parts_fit ss (inner a names) names e g f))

      idle_says : (s : Placed) → ((a : Around) → DeclaresLocals (s a)) → Says [] s
      idle_says s h = (h, (λ a names e g f. tt))

      some_of : (d : Proved) → SaysIfSome (deeds_of d.0) (Some (said d))
      some_of d = one_says (deeds_of d.0) (said d) d.1

      update_locals : (l : Left) (e : Expr) → DeclaresLocals (noted_update l e)
      unfolding noted_update
      update_locals l e names = tt

      assign_locals : (a : Around) (l : Left) (v : Value) → DeclaresLocals (noted_assign items a l v)
      unfolding noted_assign
      assign_locals a l v names = tt

      do_locals : (a : Around) (v : Value) → DeclaresLocals (noted_value items a None v)
      unfolding noted_value
      do_locals a v names = tt

      assert_locals : (a : Around) (at : At) (e : Expr) (text : Option Ident) → DeclaresLocals (asserted a.side at e text)
      unfolding asserted
      assert_locals a at e text names = tt

      mutex_locals : (x : Word) → DeclaresLocals (noted_mutex x)
      unfolding noted_mutex
      mutex_locals x names = tt

      join_locals : (a : Around) (at : At) (x : Word) → DeclaresLocals (noted_thread a None at x)
      unfolding noted_thread
      join_locals a at x names = tt

      start_locals : (a : Around) (at : At) (x f : Word) → DeclaresLocals (started items a at x f)
      unfolding started and_then noted_thread noted_body
      start_locals a at x f names = tt

      layer_says : (y : Layer) (at : At) → Says (done_layer (bare y)) (said_layer (bare y) at)
      layer_says stmt.Empty at = idle_says (λ a. skip) (λ a. skip_locals)
      layer_says (stmt.Block ss) at = block_says ss
      layer_says (stmt.Declare ls) at = ((λ a. turn_locals (declared_local items a) (λ l. local_locals items a l) ls), locals_fit ls)
      layer_says (stmt.DeclareThread xs) at = idle_says (λ a. in_turn (declared_thread a) xs) (λ a. turn_locals (declared_thread a) (λ x. word_locals a x) xs)
      layer_says (stmt.Assign l v) at = ((λ a. assign_locals a l v), assign_fits l v)
      layer_says (stmt.Update l op e) at = idle_says (λ a. noted_update l e) (λ a. update_locals l e)
      layer_says (stmt.Do v) at = ((λ a. do_locals a v), do_fits v)
      layer_says (stmt.If c d None) at = choice_says c (deeds_of d.0) [] (said d) None d.1 none_says
      layer_says (stmt.If c d (Some e)) at = choice_says c (deeds_of d.0) (deeds_of e.0) (said d) (Some (said e)) d.1 (some_of e)
      layer_says (stmt.While c d) at = while_says c (deeds_of d.0) (said d) d.1
      layer_says (stmt.DoWhile d c) at = loop_says c (deeds_of d.0) (said d) d.1
      layer_says (stmt.For None c None d) at = for_says [] None c [] None (deeds_of d.0) (said d) none_says none_says d.1
      layer_says (stmt.For None c (Some j) d) at = for_says [] None c (deeds_of j.0) (Some (said j)) (deeds_of d.0) (said d) none_says (some_of j) d.1
      layer_says (stmt.For (Some i) c None d) at = for_says (deeds_of i.0) (Some (said i)) c [] None (deeds_of d.0) (said d) (some_of i) none_says d.1
      layer_says (stmt.For (Some i) c (Some j) d) at = for_says (deeds_of i.0) (Some (said i)) c (deeds_of j.0) (Some (said j)) (deeds_of d.0) (said d) (some_of i) (some_of j) d.1
      layer_says stmt.Break at = idle_says (λ a names. noting (refusal_unless a.looped at)) (λ a names. tt)
      layer_says stmt.Continue at = idle_says (λ a names. noting (refusal_unless a.looped at)) (λ a names. tt)
      layer_says (stmt.Return v) at = ((λ a. return_locals v a), return_fits v)
      layer_says (stmt.Assert e text) at = idle_says (λ a. asserted a.side at e text) (λ a. assert_locals a at e text)
      layer_says (stmt.Assume e) at = idle_says (λ a. noted_expr e) (λ a. expr_locals e)
      layer_says stmt.Fence at = idle_says (λ a. skip) (λ a. skip_locals)
      layer_says (stmt.Lock x) at = idle_says (λ a. noted_mutex x) (λ a. mutex_locals x)
      layer_says (stmt.Unlock x) at = idle_says (λ a. noted_mutex x) (λ a. mutex_locals x)
      layer_says (stmt.Start x f) at = idle_says (λ a. started items a at x f) (λ a. start_locals a at x f)
      layer_says (stmt.Join x) at = idle_says (λ a. noted_thread a None at x) (λ a. join_locals a at x)
      layer_says (stmt.Goto x) at = ((λ a. goto_locals at labels x a), goto_fits at labels x)
      layer_says (stmt.Label x d) at = d.1
      layer_says stmt.AtomBegin at = ((λ a names. tt), (λ a names e g f. absurd (no_output at a [] e (fault_nil (output_only a.side at) f))))
      layer_says stmt.AtomEnd at = ((λ a names. tt), (λ a names e g f. absurd (no_output at a [] e (fault_nil (output_only a.side at) f))))

      stmt_says : (s : Stmt) → Q s
      stmt_says = ind-Stmt P Q
          (λ x y is. subst (λ z. P (roll-StmtNode z)) is (λ at. by_node (bare y) at (layer_says y at)))
          (λ x y is. subst (λ z. Q (roll-Stmt z)) is (by_stmt (map-Stmt _ _ StmtNode Stmt (λ d. d.0) (λ e. e.0) y) (y.node.1 y.at)))

      -- the statements of an accepted body
      pub body_fits : (ss : List Stmt) → Fitting (deeds_in ss) (λ a. all_at a (map (said_stmt items labels) ss))
      unfolding all_at in_turn
      body_fits [] a names e g f = tt
      body_fits (s ∷ ss) a names e g f =
          two_fit (deeds_of s) (deeds_in ss) (said_stmt items labels s a) (all_at a (map (said_stmt items labels) ss)) names
          (λ q. (stmt_says s).1 a names e g q)
          (λ q. body_fits ss a (behind (said_stmt items labels s a) names) e (good_behind (said_stmt items labels s a) names ((stmt_says s).0 a) g) q) f
