-- Statements with no statements in them: what is done by them agrees with what is said.
use Rattle.std.proofs.Common.{arith, ◌≡◌, ℕ, zero, suc, ℤ, pos, ◌+◌, ◌<◌, ◌≤◌, ◌^◌, Bool, true, false, if◌then◌else◌, List, [], ◌∷◌, ◌++◌, length, take, refl, ◌∙◌, sym, ap, subst, append_assoc, Option, Some, None}
use Rattle.std.specs.List.{AllByRecursion}
use Rattle.std.proofs.lemmas.List.Quantifiers.{position-Some}
use Rattle.std.specs.Option.{option_or}
use Rattle.std.specs.Str.{bytes_eq}
use Rattle.std.proofs.lemmas.List.{append-nil}
use Rattle.mm_goto.specs.declared.ident.At.{At}
use Rattle.mm_goto.specs.declared.ident.Ident.{Ident}
use Rattle.mm_goto.specs.declared.pure.Pure.{Pure}
use Rattle.mm_goto.specs.declared.pure.Binary.{Binary}
use Rattle.mm_goto.specs.declared.program.Instr.TheVariants as instr
use Rattle.mm_goto.specs.declared.program.Thread.{Thread}
use Rattle.mm_goto.specs.Kinds.{Kinds, kinds_of}
use Rattle.mm_goto.specs.Listing.{Listing}
use Rattle.mm_goto.specs.Valid.{IsInt, IsPureIn}
use Rattle.mm_tree.specs.declared.expr.Expr.{Expr}
use Rattle.mm_tree.specs.declared.expr.Word.{Word}
use Rattle.mm_tree.specs.declared.item.Gives.{Gives}
use Rattle.mm_tree.specs.declared.item.Gives.TheVariants as gives
use Rattle.mm_tree.specs.declared.item.Item.{Item}
use Rattle.mm_tree.specs.declared.side.Side.{Side}
use Rattle.mm_tree.specs.declared.side.Side.TheVariants.{Source, Output}
use Rattle.mm_tree.specs.declared.stmt.Left.{Left}
use Rattle.mm_tree.specs.declared.stmt.Local.{Local}
use Rattle.mm_tree.specs.declared.stmt.Value.{Value}
use Rattle.mm_flow.specs.declared.names.Named.{Named}
use Rattle.mm_flow.specs.declared.names.Spot.{Spot}
use Rattle.mm_flow.specs.declared.names.Started.{Started}
use Rattle.mm_flow.specs.Flow.{Flow, Do, Goto}
use Rattle.mm_flow.specs.Expressions.{Val}
use Rattle.mm_flow.specs.Scopes.{named, index_of, thread_in, last_with}
use Rattle.mm_flow.specs.Statements.{Known, Doing, Within, scope, reads, nothing, just, effect, first_value, value_of, declared_one, declared, assigned, updated, returned, set_ret, asserted, assumed, assert_number, or_0, started, labelled}
use Rattle.mm_scope.specs.declared.around.Around.{Around}
use Rattle.mm_scope.specs.declared.operand.Operand.{Operand}
use Rattle.mm_scope.specs.declared.table.Meaning.{Meaning}
use Rattle.mm_scope.specs.declared.table.Meaning.TheVariants as meaning
use Rattle.mm_scope.specs.Declarations.{initialiser, declared_local, declared_thread, meaning_of_local}
use Rattle.mm_scope.specs.Expressions.{judged_expr}
use Rattle.mm_scope.specs.Notes.{Note}
use Rattle.mm_scope.specs.Parts.{fit_return, is_nothing, noted_expr, noted_value, noted_assign, noted_update, returned as noted_return, asserted as noted_assert, text_fits, refusal_unless, is_assertion_text}
use Rattle.mm_scope.specs.Scopes.{Table, Names, Named as NamedAs, named_as, found, meaning_in, meaning_of, is_taken}
use Rattle.mm_scope.specs.Statements.{Placed, noted_goto}
use Rattle.mm_scope.specs.Steps.{Said, skip, noting, behind, and_then, in_turn, if_there, closed, reserved, adding, declaring, declaring_where}
use Rattle.mm_scope.specs.Threads.{as_mutex, noted_mutex, outside_main, noted_thread, noted_body, started as noted_start}
use Rattle.mm_scope.specs.Values.{fit_place, judged_value, judged_left}
use Rattle.mm_sourcelike.specs.Ints.{numbers_of, of_value, of_optional, of_left, of_locals}
use Rattle.mm_sourcelike.specs.Shapes.{Shape, plain}
use Rattle.mm_sourcelike.proofs.Evaluating.{all_left, all_right, FlowIn, ValIn, expr_fine}
use Rattle.mm_sourcelike.proofs.Judging.{KindIs, ValueFits, fit_as, fit_int, fit_pointer, known_value, never_known}
use Rattle.mm_sourcelike.proofs.Lengthening.{declared_long, first_grows}
use Rattle.mm_sourcelike.proofs.Numbering.{stated_below}
use Rattle.mm_sourcelike.proofs.Pures.{zero_in}
use Rattle.mm_sourcelike.proofs.Scoping.{NoFault, fault_left, fault_right, HasMutex, Means, Stands, Sees, Reads, none_is_not, same_some}
use Rattle.mm_sourcelike.proofs.Standing.{RetFits, FlowAt, Does, Agrees, names_kept, no_locals, test_typed, sees_nil, sees_thread, sees_local, reads_with, locals_push, stands_for, at_once, room_before, kept}
use Rattle.mm_sourcelike.proofs.TypedExpressions.{FitsFlow, set_to}
use Rattle.mm_sourcelike.proofs.TypedNames.{GlobalsFit, SeesTypes, stands_as, types_local, types_nil, types_thread}
use Rattle.mm_sourcelike.proofs.TypedPures.{Tidy, constant_tidy}
use Rattle.mm_sourcelike.proofs.TypedValues.{FitsValue, TypedCalls, assigned_typed, gives_pointer, updated_typed, value_typed, zero_kind}
use Rattle.mm_sourcelike.proofs.Typing.{Typing, both, fresh, over, still}
use Rattle.mm_sourcelike.proofs.Valuing.{IsGood, value_fine, assigned_fine, updated_fine}

-- ---- numbers of mutexes and threads

pub last_below : (ss : List Started) (u : ℕ) (x : Ident) (old : Option ℕ) (n : ℕ) → u + length ss ≤ n → ((v : ℕ) → old ≡ Some v → v < n) → (v : ℕ) → last_with ss u x old ≡ Some v → v < n
last_below [] u x old n l h v e = h v e
last_below (s ∷ ss) u x old n l h v e = last_below ss (u + 1) x (if bytes_eq s.variable x then Some u else old) n (omega arith) (by (bytes_eq s.variable x)) v e
  where
    by : (b : Bool) → (m : ℕ) → (if b then Some u else old) ≡ Some m → m < n
    by true m q = let i : u ≡ m = same_some u m q in omega arith
    by false m q = h m q

pub some_below : (o : Option ℕ) (n : ℕ) → 0 < n → ((v : ℕ) → o ≡ Some v → v < n) → or_0 o < n
some_below (Some v) n l h = h v refl
some_below None n l h = l

taken_length : {A : Type 0} (n : ℕ) (xs : List A) → length (take n xs) ≤ length xs
taken_length zero xs = omega arith
taken_length (suc n) [] = omega arith
taken_length (suc n) (x ∷ xs) = omega (arith, taken_length n xs)

thread_below : (starts : List Started) (n : ℕ) (x : Ident) → or_0 (thread_in starts n x) < 1 + length starts
thread_below starts n x =
    some_below (thread_in starts n x) (1 + length starts) (omega arith)
    (last_below (take n starts) 1 x None (1 + length starts) (omega (arith, taken_length n starts)) (λ v e. absurd (none_is_not v e)))

-- ---- mutexes

mutex_local : (named : List Named) (x : Ident) (at : At) (m : Meaning) → Stands named x m → NoFault (as_mutex at (Some m)) → ⊥
mutex_local named x at meaning.Int s f = f
mutex_local named x at meaning.Pointer s f = f
mutex_local named x at meaning.Thread s f = f
mutex_local named x at meaning.Handed s f = f
mutex_local named x at meaning.Unready s f = f
mutex_local named x at meaning.Shared s f = s
mutex_local named x at (meaning.Array n) s f = s
mutex_local named x at meaning.Mutex s f = s
mutex_local named x at meaning.SharedThread s f = s
mutex_local named x at (meaning.Function k) s f = s
mutex_local named x at (meaning.Ahead k) s f = s
mutex_local named x at meaning.Input s f = s
mutex_local named x at meaning.Label s f = s

mutex_global : (spots : List Spot) (mutexes : List Ident) (items : List Item) (x : Ident) (at : At) (m : Meaning) → Means spots mutexes items x m → NoFault (as_mutex at (Some m)) → HasMutex mutexes x
mutex_global spots mutexes items x at meaning.Mutex s f = s
mutex_global spots mutexes items x at meaning.Shared s f = absurd f
mutex_global spots mutexes items x at meaning.Pointer s f = absurd f
mutex_global spots mutexes items x at (meaning.Array n) s f = absurd f
mutex_global spots mutexes items x at meaning.SharedThread s f = absurd f
mutex_global spots mutexes items x at (meaning.Function k) s f = absurd f
mutex_global spots mutexes items x at (meaning.Ahead k) s f = absurd f
mutex_global spots mutexes items x at meaning.Input s f = absurd f
mutex_global spots mutexes items x at meaning.Int s f = absurd s
mutex_global spots mutexes items x at meaning.Thread s f = absurd s
mutex_global spots mutexes items x at meaning.Handed s f = absurd s
mutex_global spots mutexes items x at meaning.Unready s f = absurd s
mutex_global spots mutexes items x at meaning.Label s f = absurd s

module _ (p : Listing) (t : Thread) (items : List Item) where
  has_mutex : (w : Within) (k : List Named) (names : Names) (x : Ident) (at : At) → Reads p t items w.parts.spots k names → NoFault (as_mutex at (meaning_of names x)) → HasMutex p.mutexes x
  has_mutex w k names x at r f = by (found names.locals x) (meaning_in names.globals x) (r.sees.each x) (r.globals.each x) f
    where
      by : (a b : Option Meaning) → ((m : Meaning) → a ≡ Some m → Stands k x m) → ((m : Meaning) → b ≡ Some m → Means w.parts.spots p.mutexes items x m) → NoFault (as_mutex at (option_or a b)) → HasMutex p.mutexes x
      by (Some m) b s g h = absurd (mutex_local k x at m (s m refl) h)
      by None (Some m) s g h = mutex_global w.parts.spots p.mutexes items x at m (g m refl) h
      by None None s g h = absurd h

  mutex_below : (w : Within) (k : List Named) (names : Names) (x : Ident) (at : At) → IsGood p t items w → Reads p t items w.parts.spots k names → NoFault (as_mutex at (meaning_of names x)) → or_0 (index_of w.parts.mutexes x) < length p.mutexes
  mutex_below w k names x at good r f =
      let h = has_mutex w k names x at r f in
      let below : h.index < length p.mutexes = (position-Some (λ y. bytes_eq y x) p.mutexes h.index [] h.is).0 in
      let e : or_0 (index_of w.parts.mutexes x) ≡ h.index = ap (λ ms. or_0 (index_of ms x)) good.mutexes ∙ ap or_0 h.is in
      omega arith

  -- ---- what does nothing with names

  value_at : (w : Within) (ns : List Named) (names : Names) (e : Expr) (n : ℕ) → Reads p t items w.parts.spots ns names → AllByRecursion IsInt (numbers_of e) → NoFault (judged_expr names e).notes → (reads w ns e n).next ≤ t.locals → ValIn p t (reads w ns e n)
  value_at w ns names e n r i f l = expr_fine p t items names e (scope w ns) n r i f l

  pub skip_agrees : Agrees p t items (λ a. skip) (λ w k. nothing k) [] plain
  unfolding skip
  skip_agrees = record { quiet = λ e f a names. refl; does = λ a names w k h. kept p t items w a names k [] _ k.next k.seen.asserts h.reads tt (no_locals p items w a names k (nothing k).flow (λ q. tt)) }

  pub fence_agrees : (at : At) → Agrees p t items (λ a. skip) (λ w k. just (Do at instr.Fence) k) [] plain
  unfolding skip
  fence_agrees at = record { quiet = λ e f a names. refl; does = λ a names w k h. kept p t items w a names k [] (Do at instr.Fence) k.next k.seen.asserts h.reads (tt, λ e. refl) (no_locals p items w a names k (Do at instr.Fence) (λ q. tt)) }

  -- what is noted in it does not matter, and it is one instruction or none that is in range
  pub just_agrees : (ns : Around → List Note) (f : Flow) → ((b : Bool) → FlowAt p t b f) → ((q : ℕ → Bool) → FitsFlow p q f) → Agrees p t items (λ a names. noting (ns a)) (λ w k. just f k) [] plain
  just_agrees ns f h typed = record { quiet = λ e g a names. refl; does = λ a names w k r. kept p t items w a names k (ns a) f k.next k.seen.asserts r.reads (h a.outermost) (no_locals p items w a names k f typed) }

  pub goto_agrees : (at : At) (x : Word) (labels : Table) → Agrees p t items (λ a. noted_goto a labels at x) (λ w k. just (Goto at x.name) k) [] plain
  unfolding noted_goto
  goto_agrees at x labels = record { quiet = λ e g a names. refl; does = λ a names w k r. kept p t items w a names k _ (Goto at x.name) k.next k.seen.asserts r.reads tt (no_locals p items w a names k (Goto at x.name) (λ q. tt)) }

  pub assign_agrees : (at : At) (l : Left) (v : Value) → Agrees p t items (λ a. noted_assign items a l v) (λ w k. effect k (assigned w k.names k.next l v)) (of_left l.node ++ of_value v) plain
  unfolding noted_assign
  assign_agrees at l v = record {
    quiet = λ e f a names. refl;
    does = λ a names w k h.
        kept p t items w a names k _ (assigned w k.names k.next l v).flow (assigned w k.names k.next l v).next k.seen.asserts h.reads
        (at_once p t a.outermost (assigned w k.names k.next l v).flow
        (assigned_fine p t items names w k.names h.good h.reads a.caller k.next l v h.ints (fault_left (judged_left names l).notes _ h.fine)
        (fault_left (judged_value items a.caller names v).notes _ (fault_right (judged_left names l).notes _ h.fine)) h.room.next))
        (λ g c. over k.next _ _ _ (λ q r ret sees. r sees) (assigned_typed p t items names w k.names g c h.good.grow h.reads a.caller k.next l v (fault_left (judged_left names l).notes _ h.fine)
        (fault_left (judged_value items a.caller names v).notes _ (fault_right (judged_left names l).notes _ h.fine)) (fault_right (judged_value items a.caller names v).notes _ (fault_right (judged_left names l).notes _ h.fine))));
  }

  pub update_agrees : (at : At) (l : Left) (op : Binary) (e : Expr) → Agrees p t items (λ a. noted_update l e) (λ w k. effect k (updated w k.names k.next l op e)) (of_left l.node ++ numbers_of e) plain
  unfolding noted_update
  update_agrees at l op e = record {
    quiet = λ q f a names. refl;
    does = λ a names w k h.
        kept p t items w a names k _ (updated w k.names k.next l op e).flow (updated w k.names k.next l op e).next k.seen.asserts h.reads
        (at_once p t a.outermost (updated w k.names k.next l op e).flow
        (updated_fine p t items names w k.names h.good h.reads k.next l op e h.ints (fault_left (judged_left names l).notes _ (fault_left ((judged_left names l).notes ++ _) _ h.fine))
        (fault_left (judged_expr names e).notes _ (fault_right ((judged_left names l).notes ++ _) _ h.fine)) h.room.next))
        (λ g c. over k.next _ _ _ (λ q r ret sees. r sees) (updated_typed p t items names w k.names g c h.good.grow h.reads k.next l op e
        (fault_left (judged_left names l).notes _ (fault_left ((judged_left names l).notes ++ _) _ h.fine)) (fault_right (judged_left names l).notes _ (fault_left ((judged_left names l).notes ++ _) _ h.fine))
        (fault_left (judged_expr names e).notes _ (fault_right ((judged_left names l).notes ++ _) _ h.fine)) (fault_right (judged_expr names e).notes _ (fault_right ((judged_left names l).notes ++ _) _ h.fine))));
  }

  pub do_value_agrees : (v : Value) → Agrees p t items (λ a. noted_value items a None v) (λ w k. effect k (value_of w k.names k.next v)) (of_value v) plain
  unfolding noted_value
  do_value_agrees v = record {
    quiet = λ q f a names. refl;
    does = λ a names w k h.
        kept p t items w a names k _ (value_of w k.names k.next v).flow (value_of w k.names k.next v).next k.seen.asserts h.reads
        (at_once p t a.outermost (value_of w k.names k.next v).flow (value_fine p t items names w k.names h.good h.reads a.caller k.next v h.ints (fault_left (judged_value items a.caller names v).notes _ h.fine) h.room.next).flow)
        (λ g c. over k.next _ _ _ (λ q r ret sees. (r sees).flow) (value_typed p t items names w k.names g c h.good.grow h.reads a.caller k.next v (fault_left (judged_value items a.caller names v).notes _ h.fine)));
  }

  set_ret_in : (at : At) (o : Option ℕ) (e : Pure) → ((l : ℕ) → o ≡ Some l → l < t.locals) → IsPureIn p t e → FlowIn p t (set_ret at o e)
  set_ret_in at None e h g = tt
  set_ret_in at (Some l) e h g = ((h l refl, g), refl)

  -- what is returned has the type of the function
  return_fits : (g : Gives) (nothing : Bool) (o : Operand) (ks : Kinds) → NoFault (fit_return g nothing o).notes → ValueFits ks o.kind o.zero → (g ≡ gives.Thread → ⊥) → KindIs ks (gives_pointer g)
  return_fits gives.Int nothing o ks f h n = (fit_int o ks f h).0
  return_fits gives.Pointer nothing o ks f h n = (fit_pointer o ks f h).0
  return_fits gives.Nothing nothing o ks f h n = absurd (never_known o f (known_value ks o.kind o.zero h))
  return_fits gives.Thread nothing o ks f h n = absurd (n refl)

  ret_type : (q : ℕ → Bool) (l : ℕ) (g : Gives) → RetFits q (Some l) g → (q l ≡ gives_pointer g) × (g ≡ gives.Thread → ⊥)
  ret_type q l gives.Int h = (h, λ e. cc)
  ret_type q l gives.Pointer h = (h, λ e. cc)
  ret_type q l gives.Nothing h = (h, λ e. cc)
  ret_type q l gives.Thread h = absurd h

  set_ret_fits : (q : ℕ → Bool) (at : At) (ret : Option ℕ) (g : Gives) (nothing : Bool) (o : Operand) (e : Pure) → NoFault (fit_return g nothing o).notes → ValueFits (kinds_of q e) o.kind o.zero → Tidy p e → RetFits q ret g → FitsFlow p q (set_ret at ret e)
  set_ret_fits q at None g nothing o e f h t r = tt
  set_ret_fits q at (Some l) g nothing o e f h t r =
      let is = ret_type q l g r in
      set_to p q l e (gives_pointer g) is.0 (return_fits g nothing o (kinds_of q e) f h is.1) t

  pub return_agrees : (at : At) (v : Option Value) → Agrees p t items (λ a. if_there (noted_return items a) v) (λ w k. effect k (returned w at k.names k.next v)) (of_optional v) plain
  unfolding noted_return skip
  return_agrees at None = record { quiet = λ q f a names. refl; does = λ a names w k h. kept p t items w a names k [] (returned w at k.names k.next None).flow k.next k.seen.asserts h.reads tt (no_locals p items w a names k (returned w at k.names k.next None).flow (λ q. tt)) }
  return_agrees at (Some v) = record {
    quiet = λ q f a names. refl;
    does = λ a names w k h.
        let u = value_fine p t items names w k.names h.good h.reads a.caller k.next v h.ints (fault_left (judged_value items a.caller names v).notes _ h.fine) h.room.next in
        kept p t items w a names k _ (returned w at k.names k.next (Some v)).flow (value_of w k.names k.next v).next k.seen.asserts h.reads
        (at_once p t a.outermost (value_of w k.names k.next v).flow u.flow, (at_once p t a.outermost (set_ret at w.ret (value_of w k.names k.next v).pure) (set_ret_in at w.ret (value_of w k.names k.next v).pure h.good.ret u.pure), tt))
        (λ g c. over k.next _ _ _ (λ q r ret sees.
        let z = r sees in
        (z.flow, (set_ret_fits q at w.ret a.gives (is_nothing v) (judged_value items a.caller names v).operand (value_of w k.names k.next v).pure (fault_right (judged_value items a.caller names v).notes _ h.fine) z.kind z.tidy ret, tt)))
        (value_typed p t items names w k.names g c h.good.grow h.reads a.caller k.next v (fault_left (judged_value items a.caller names v).notes _ h.fine)));
  }

  pub assume_agrees : (at : At) (e : Expr) → Agrees p t items (λ a. noted_expr e) (λ w k. assumed w at e k) (numbers_of e) plain
  assume_agrees at e = record {
    quiet = λ q f a names. refl;
    does = λ a names w k h.
        let u = value_at w k.names names e k.next h.reads h.ints h.fine h.room.next in
        kept p t items w a names k _ (assumed w at e k).flow (reads w k.names e k.next).next k.seen.asserts h.reads
        (at_once p t a.outermost (reads w k.names e k.next).flow u.flow, (u.pure, λ q. refl))
        (λ g c. over k.next _ _ _ (λ q r ret sees. r sees) (test_typed p t items w k.names names e k.next h.reads h.fine g));
  }

  number_below : (side : Side) (before : ℕ) (text : Option Ident) (at : At) (ns : List Note) → before + 1 < 2 ^ 32 → NoFault (refusal_unless (text_fits side text) at ++ ns) → assert_number side before text < 2 ^ 32
  number_below Source before text at ns l f = l
  number_below Output before None at ns l f = absurd f
  number_below Output before (Some text) at ns l f = stated_below text (by (is_assertion_text text) refl f)
    where
      by : (b : Bool) → is_assertion_text text ≡ b → NoFault (refusal_unless b at ++ ns) → is_assertion_text text ≡ true
      by true e h = e
      by false e h = absurd h

  pub assert_agrees : (at : At) (e : Expr) (text : Option Ident) → Agrees p t items (λ a. noted_assert a.side at e text) (λ w k. asserted w at e text k) (numbers_of e) plain
  unfolding noted_assert
  assert_agrees at e text = record {
    quiet = λ q f a names. refl;
    does = λ a names w k h.
        let parts = fault_left ((judged_expr names e).notes ++ refusal_unless (text_fits a.side text) at) _ h.fine in
        let u = value_at w k.names names e k.next h.reads h.ints (fault_left (judged_expr names e).notes _ parts) h.room.next in
        let check = subst (λ s. NoFault (refusal_unless (text_fits s text) at)) h.side (fault_right (judged_expr names e).notes (refusal_unless (text_fits a.side text) at) parts) in
        let below = number_below w.parts.side k.seen.asserts text at [] h.room.asserts (subst NoFault (sym (nil_behind (refusal_unless (text_fits w.parts.side text) at))) check) in
        kept p t items w a names k _ (asserted w at e text k).flow (reads w k.names e k.next).next (k.seen.asserts + 1) h.reads
        (at_once p t a.outermost (reads w k.names e k.next).flow u.flow, ((u.pure, below), λ q. refl))
        (λ g c. over k.next _ _ _ (λ q r ret sees. r sees) (test_typed p t items w k.names names e k.next h.reads (fault_left (judged_expr names e).notes _ parts) g));
  }
    where
      nil_behind : (ns : List Note) → ns ++ [] ≡ ns
      nil_behind ns = append-nil ns

  pub lock_agrees : (at : At) (x : Word) → Agrees p t items (λ a. noted_mutex x) (λ w k. just (Do at (instr.Lock (or_0 (index_of w.parts.mutexes x.name)))) k) [] plain
  unfolding noted_mutex
  lock_agrees at x = record {
    quiet = λ q f a names. refl;
    does = λ a names w k h. kept p t items w a names k _ (Do at (instr.Lock (or_0 (index_of w.parts.mutexes x.name)))) k.next k.seen.asserts h.reads
        (mutex_below w k.names names x.name x.at h.good h.reads h.fine, λ q. refl) (no_locals p items w a names k (Do at (instr.Lock (or_0 (index_of w.parts.mutexes x.name)))) (λ q. tt));
  }

  pub unlock_agrees : (at : At) (x : Word) → Agrees p t items (λ a. noted_mutex x) (λ w k. just (Do at (instr.Unlock (or_0 (index_of w.parts.mutexes x.name)))) k) [] plain
  unfolding noted_mutex
  unlock_agrees at x = record {
    quiet = λ q f a names. refl;
    does = λ a names w k h. kept p t items w a names k _ (Do at (instr.Unlock (or_0 (index_of w.parts.mutexes x.name)))) k.next k.seen.asserts h.reads
        (mutex_below w k.names names x.name x.at h.good h.reads h.fine, λ q. refl) (no_locals p items w a names k (Do at (instr.Unlock (or_0 (index_of w.parts.mutexes x.name)))) (λ q. tt));
  }

  -- ---- threads

  true_or : (b : Bool) (at : At) (ns : List Note) → NoFault (outside_main b at ++ ns) → b ≡ true
  true_or true at ns f = refl
  true_or false at ns f = absurd f

  never_both : (b : Bool) → b ≡ true → b ≡ false → ⊥
  never_both b e f = impossible (sym e ∙ f)
    where
      impossible : true ≡ false → ⊥
      impossible q = cc

  pub start_agrees : (at : At) (x f : Word) → Agrees p t items (λ a. noted_start items a at x f) (λ w k. started at k) [] plain
  unfolding noted_start and_then noted_thread noted_body
  start_agrees at x f = record {
    quiet = λ q g a names. refl;
    does = λ a names w k h.
        let main : a.outermost ≡ true = true_or a.outermost at _ (fault_left (outside_main a.outermost at ++ _) _ h.fine) in
        record {
          flow = (h.room.starts main, λ q. absurd (never_both a.outermost main q));
          starts = λ q. absurd (never_both a.outermost main q);
          sees = sees_nil names.locals k.names h.reads.sees;
          thread = h.reads.locals;
          typed = names_kept p items w a names k (started at k).flow k.next [] refl (no_locals p items w a names k (started at k).flow (λ q. tt));
        };
  }

  pub join_agrees : (at : At) (x : Word) → Agrees p t items (λ a. noted_thread a None at x) (λ w k. just (Do at (instr.Join (or_0 (thread_in w.parts.starts k.seen.starts x.name)))) k) [] plain
  unfolding noted_thread
  join_agrees at x = record {
    quiet = λ q g a names. refl;
    does = λ a names w k h.
        let main : a.outermost ≡ true = true_or a.outermost at _ h.fine in
        kept p t items w a names k _ (Do at (instr.Join (or_0 (thread_in w.parts.starts k.seen.starts x.name)))) k.next k.seen.asserts h.reads
        (omega (arith, h.good.starts, thread_below w.parts.starts k.seen.starts x.name), λ q. absurd (never_both a.outermost main q)) (no_locals p items w a names k (Do at (instr.Join (or_0 (thread_in w.parts.starts k.seen.starts x.name)))) (λ q. tt));
  }

  pub label_agrees : (x : Word) (s : Placed) (d : Doing) (z : List ℤ) (shape : Shape) → Agrees p t items s d z shape → Agrees p t items (λ a. s a) (labelled x.name d) z shape
  label_agrees x s d z shape g = record {
    quiet = g.quiet;
    does = λ a names w k h.
        let one = g.does a names w k (record { good = h.good; side = h.side; reads = h.reads; ints = h.ints; scoped = h.scoped; fine = h.fine; room = h.room }) in
        record { flow = (tt, one.flow); starts = one.starts; sees = one.sees; thread = one.thread; typed = λ g c. over k.next _ _ _ (λ q r ret seen. let z = r ret seen in ((tt, z.0), z.1)) (one.typed g c) };
  }

  -- ---- declarations

  pub declared_is : (b : Bool) (at : At) (x : Ident) (m : Meaning) (names : Names) → NoFault (declaring_where b at x m names).notes → (declaring_where b at x m names).declared ≡ named_as x m ∷ []
  unfolding declaring_where
  declared_is true at x m names f = absurd f
  declared_is false at x m names f = refl

  -- a name of a thread
  word_done : (x : Word) → Does p t items (λ a. declared_thread a x) (λ w k. nothing k) [] true
  unfolding declared_thread and_then declaring
  word_done x a names w k h =
      let names1 : Names = record names { locals = names.locals ++ [] } in
      let e = declared_is (is_taken names1 a.from x.name) x.at x.name meaning.Thread names1 (fault_right (reserved a.side x.at x.name) _ h.fine) in
      record {
        flow = tt;
        starts = λ q. refl;
        sees = subst (λ (ds : List NamedAs). Sees (names.locals ++ ds) k.names) (sym e) (sees_thread names.locals k.names x.name meaning.Thread (λ ns y. tt) h.reads.sees);
        thread = h.reads.locals;
        typed = λ g c. still k.next _ (λ q ret seen. (tt, subst (λ (ds : List NamedAs). SeesTypes q (names.locals ++ ds) k.names) (sym e) (types_thread q names.locals k.names x.name meaning.Thread (λ ns y. tt) seen)));
      }

  words_done : (xs : List Word) → Does p t items (λ a. in_turn (declared_thread a) xs) (λ w k. nothing k) [] true
  unfolding in_turn and_then skip
  words_done [] a names w k h = record { flow = tt; starts = λ e. refl; sees = sees_nil names.locals k.names h.reads.sees; thread = h.reads.locals; typed = λ g c. still k.next _ (λ q ret seen. (tt, types_nil q names.locals k.names seen)) }
  words_done (x ∷ xs) a names w k h =
      let said : Said = declared_thread a x names in
      let before : Names = behind (declared_thread a x) names in
      let one = word_done x a names w k (record { good = h.good; side = h.side; reads = h.reads; ints = tt; scoped = refl; fine = fault_left said.notes _ h.fine; room = h.room }) in
      let two = words_done xs a before w k (record { good = h.good; side = h.side; reads = reads_with p t items w.parts.spots k.names k.names names said.declared h.reads one.sees one.thread; ints = tt; scoped = refl; fine = fault_right said.notes _ h.fine; room = h.room }) in
      record {
        flow = tt;
        starts = λ e. refl;
        sees = subst (λ (ls : List NamedAs). Sees ls k.names) (append_assoc names.locals said.declared (in_turn (declared_thread a) xs before).declared) two.sees;
        thread = two.thread;
        typed = λ g c. over k.next k.next _ _ (λ q r ret seen. (tt, subst (λ (ls : List NamedAs). SeesTypes q ls k.names) (append_assoc names.locals said.declared (in_turn (declared_thread a) xs before).declared) (r.1 ret (r.0 ret seen).1).1))
            (both k.next k.next k.next _ _ (omega arith) (omega arith) (one.typed g c) (two.typed g c));
      }

  impossible_shape : {A : Type 0} → true ≡ false → A
  impossible_shape e = absurd (by e)
    where
      by : true ≡ false → ⊥
      by q = cc

  pub declare_threads_agrees : (xs : List Word) → Agrees p t items (λ a. in_turn (declared_thread a) xs) (λ w k. nothing k) [] (record { declares = true; is_scoped = true })
  declare_threads_agrees xs = record { quiet = λ e. impossible_shape e; does = words_done xs }

  -- the value of a local, before which its name is not ready
  first_in : (l : Local) (o : Option Value) (a : Around) (names : Names) (w : Within) (k : Known) → IsGood p t items w → Reads p t items w.parts.spots k.names names → AllByRecursion IsInt (of_optional o) → NoFault (initialiser items a l o names).notes → (first_value w k.names (k.next + 1) o).next ≤ t.locals → ValIn p t (first_value w k.names (k.next + 1) o)
  unfolding closed and_then adding noted_value skip
  first_in l None a names w k good r i f h = record { flow = tt; pure = zero_in p t }
  first_in l (Some v) a names w k good r i f h =
      let names1 : Names = record names { locals = names.locals ++ named_as l.name meaning.Unready ∷ [] } in
      value_fine p t items names1 w k.names good
      (reads_with p t items w.parts.spots k.names k.names names (named_as l.name meaning.Unready ∷ []) r (sees_thread names.locals k.names l.name meaning.Unready (λ ns y. tt) r.sees) r.locals)
      a.caller (k.next + 1) v i (fault_left (judged_value items a.caller names1 v).notes _ f) h

  -- the value fits the type of the local
  first_typed : (l : Local) (o : Option Value) (a : Around) (names : Names) (w : Within) (k : Known) → GlobalsFit p items w.parts.spots → TypedCalls p items w → IsGood p t items w → Reads p t items w.parts.spots k.names names → NoFault (initialiser items a l o names).notes
      → Typing (k.next + 1) (first_value w k.names (k.next + 1) o).next (λ q. SeesTypes q names.locals k.names → FitsFlow p q (first_value w k.names (k.next + 1) o).flow × KindIs (kinds_of q (first_value w k.names (k.next + 1) o).pure) l.pointer × Tidy p (first_value w k.names (k.next + 1) o).pure)
  unfolding closed and_then adding noted_value skip fit_place
  first_typed l None a names w k g c good r f = still (k.next + 1) _ (λ q seen. (tt, zero_kind q l.pointer, constant_tidy p (pos 0)))
  first_typed l (Some v) a names w k g c good r f =
      let names1 : Names = record names { locals = names.locals ++ named_as l.name meaning.Unready ∷ [] } in
      let u : Val = value_of w k.names (k.next + 1) v in
      over (k.next + 1) u.next (λ q. SeesTypes q names1.locals k.names → FitsValue p q (judged_value items a.caller names1 v).operand u) _ (λ q h seen.
      let z = h (types_thread q names.locals k.names l.name meaning.Unready (λ ns y. tt) seen) in
      (z.flow, fit_as l.pointer (judged_value items a.caller names1 v).operand (kinds_of q u.pure) (fault_right (judged_value items a.caller names1 v).notes _ f) z.kind, z.tidy))
      (value_typed p t items names1 w k.names g c good.grow
      (reads_with p t items w.parts.spots k.names k.names names (named_as l.name meaning.Unready ∷ []) r (sees_thread names.locals k.names l.name meaning.Unready (λ ns y. tt) r.sees) r.locals)
      a.caller (k.next + 1) v (fault_left (judged_value items a.caller names1 v).notes _ f))

  initial_quiet : (l : Local) (o : Option Value) (a : Around) (names : Names) → (initialiser items a l o names).declared ≡ []
  unfolding closed skip
  initial_quiet l None a names = refl
  initial_quiet l (Some v) a names = refl

  local_done : (l : Local) → Does p t items (λ a. declared_local items a l) (λ w k. declared_one w k l) (of_optional l.value) true
  unfolding declared_local and_then declaring
  local_done l a names w k h =
      let first : Said = initialiser items a l l.value names in
      let names1 : Names = record names { locals = names.locals ++ first.declared } in
      let names2 : Names = record names1 { locals = names1.locals ++ [] } in
      let m : Meaning = meaning_of_local l.pointer in
      let v : Val = first_value w k.names (k.next + 1) l.value in
      let last : Said = declaring_where (is_taken names2 a.from l.name) l.at l.name m names2 in
      let e : last.declared ≡ named_as l.name m ∷ [] = declared_is (is_taken names2 a.from l.name) l.at l.name m names2 (fault_right (reserved a.side l.at l.name) _ (fault_right first.notes _ h.fine)) in
      let below : k.next < t.locals = omega (arith, first_grows w k.names (k.next + 1) l.value h.good.grow, h.room.next) in
      let u = first_in l l.value a names w k h.good h.reads h.ints (fault_left first.notes _ h.fine) h.room.next in
      let all : first.declared ++ last.declared ≡ named_as l.name m ∷ [] = ap (λ (ds : List NamedAs). ds ++ last.declared) (initial_quiet l l.value a names) ∙ e in
      record {
        flow = (at_once p t a.outermost v.flow u.flow, ((below, u.pure), λ q. refl));
        starts = λ q. refl;
        sees = subst (λ (ds : List NamedAs). Sees (names.locals ++ ds) (k.names ++ named l.name k.next ∷ [])) (sym all) (sees_local names.locals k.names l.name k.next m (stands_for k.names l.name k.next l.pointer) h.reads.sees);
        thread = locals_push t k.names l.name k.next below h.reads.locals;
        typed = λ g c. over k.next v.next _ _ (λ q r ret seen.
            let z = r.1 seen in (
              (z.0, set_to p q k.next v.pure l.pointer r.0 z.1 z.2),
              subst (λ (ds : List NamedAs). SeesTypes q (names.locals ++ ds) (k.names ++ named l.name k.next ∷ [])) (sym all) (types_local q names.locals k.names l.name k.next m (λ y e. stands_as q k.names l.name k.next l.pointer y r.0 e) seen),
            ))
            (both k.next (k.next + 1) v.next (λ q. q k.next ≡ l.pointer) (λ q. SeesTypes q names.locals k.names → FitsFlow p q v.flow × KindIs (kinds_of q v.pure) l.pointer × Tidy p v.pure) (omega arith) (first_grows w k.names (k.next + 1) l.value h.good.grow) (fresh k.next l.pointer)
            (first_typed l l.value a names w k g c h.good h.reads (fault_left first.notes _ h.fine)));
      }

  locals_done : (ls : List Local) → Does p t items (λ a. in_turn (declared_local items a) ls) (λ w k. declared w ls k) (of_locals ls) true
  unfolding in_turn and_then skip
  locals_done [] a names w k h = record { flow = tt; starts = λ e. refl; sees = sees_nil names.locals k.names h.reads.sees; thread = h.reads.locals; typed = λ g c. still k.next _ (λ q ret seen. (tt, types_nil q names.locals k.names seen)) }
  locals_done (l ∷ ls) a names w k h =
      let said : Said = declared_local items a l names in
      let before : Names = behind (declared_local items a l) names in
      let mid : Known = (declared_one w k l).known in
      let one = local_done l a names w k (record {
        good = h.good;
        side = h.side;
        reads = h.reads;
        ints = all_left IsInt (of_optional l.value) (of_locals ls) h.ints;
        scoped = refl;
        fine = fault_left said.notes _ h.fine;
        room = room_before p t a.outermost mid (declared w ls mid) (declared_long ls w h.good.grow mid) (record { next = h.room.next; asserts = h.room.asserts; starts = h.room.starts });
      }) in
      let two = locals_done ls a before w mid (record {
        good = h.good;
        side = h.side;
        reads = reads_with p t items w.parts.spots k.names mid.names names said.declared h.reads one.sees one.thread;
        ints = all_right IsInt (of_optional l.value) (of_locals ls) h.ints;
        scoped = refl;
        fine = fault_right said.notes _ h.fine;
        room = record { next = h.room.next; asserts = h.room.asserts; starts = h.room.starts };
      }) in
      record {
        flow = (one.flow, two.flow);
        starts = λ e. two.starts e ∙ one.starts e;
        sees = subst (λ (ns : List NamedAs). Sees ns (declared w ls mid).known.names) (append_assoc names.locals said.declared (in_turn (declared_local items a) ls before).declared) two.sees;
        thread = two.thread;
        typed = λ g c. over k.next (declared w ls mid).known.next _ _ (λ q r ret seen.
            let first = r.0 ret seen in
            let more = r.1 ret first.1 in
            ((first.0, more.0), subst (λ (ns : List NamedAs). SeesTypes q ns (declared w ls mid).known.names) (append_assoc names.locals said.declared (in_turn (declared_local items a) ls before).declared) more.1))
            (both k.next mid.next (declared w ls mid).known.next _ _ (omega (arith, first_grows w k.names (k.next + 1) l.value h.good.grow)) (declared_long ls w h.good.grow mid).next (one.typed g c) (two.typed g c));
      }

  pub declare_agrees : (ls : List Local) → Agrees p t items (λ a. in_turn (declared_local items a) ls) (λ w k. declared w ls k) (of_locals ls) (record { declares = true; is_scoped = true })
  declare_agrees ls = record { quiet = λ e. impossible_shape e; does = locals_done ls }
