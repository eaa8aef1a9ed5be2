-- The code of called functions and of threads is in range, where their bodies are accepted.
use Rattle.std.proofs.Common.{arith, ◌≡◌, ℕ, zero, suc, ◌+◌, ◌<◌, ◌≤◌, ◌^◌, Bool, true, false, List, [], ◌∷◌, length, map, reverse, refl, ◌∙◌, sym, ap, subst, Option, Some, None}
use Rattle.std.specs.List.{AllByRecursion, find}
use Rattle.std.specs.Option.{option_map}
use Rattle.std.specs.Str.{bytes_eq}
use Rattle.std.proofs.lemmas.List.{reverse-append}
use Rattle.mm_goto.specs.declared.ident.Ident.{Ident}
use Rattle.mm_goto.specs.declared.program.Thread.{Thread}
use Rattle.mm_goto.specs.Listing.{Listing}
use Rattle.mm_goto.specs.Valid.{IsInt, IsRow, IsPureIn}
use Rattle.mm_tree.specs.declared.item.Gives.{Gives}
use Rattle.mm_tree.specs.declared.item.Gives.TheVariants as gives
use Rattle.mm_tree.specs.declared.item.Item.{Item}
use Rattle.mm_tree.specs.declared.item.Param.{Param}
use Rattle.mm_tree.specs.declared.stmt.Stmt.{Stmt}
use Rattle.mm_flow.specs.declared.names.Named.{Named}
use Rattle.mm_flow.specs.declared.names.Parts.{Parts}
use Rattle.mm_flow.specs.Programs.{most_calls, in_thread, at_entry, thread_code}
use Rattle.mm_flow.specs.Statements.{Known, Function, Within, function_of, bound, body_code, inline_at}
use Rattle.mm_flow.specs.Text.{asserts_in, creates_in}
use Rattle.mm_scope.specs.declared.around.Around.{Around}
use Rattle.mm_scope.specs.Scopes.{Names, Table}
use Rattle.mm_scope.specs.Statements.{all_at, said_stmt}
use Rattle.mm_scope.specs.Values.{can_be_called}
use Rattle.mm_sourcelike.specs.Ints.{of_stmts}
use Rattle.mm_sourcelike.specs.Shapes.{body_scoped}
use Rattle.mm_sourcelike.proofs.Cells.{row_of, both_all}
use Rattle.mm_sourcelike.proofs.Evaluating.{IsStepIn}
use Rattle.mm_sourcelike.proofs.Laying.{weaker}
use Rattle.mm_sourcelike.proofs.Lengthening.{inline_grows}
use Rattle.mm_sourcelike.proofs.Mentioned.{body_passes}
use Rattle.mm_sourcelike.proofs.Resolving.{found_passes}
use Rattle.mm_sourcelike.proofs.Scoping.{NoFault, HasFunction, Sees, IsSound, AreLocals, none_is_not, same_some}
use Rattle.mm_sourcelike.proofs.Standing.{RetFits, FlowAt, IsInstrAt, Accepted}
use Rattle.mm_sourcelike.proofs.Statements.{body_does}
use Rattle.mm_sourcelike.proofs.TypedExpressions.{FitsFlow}
use Rattle.mm_sourcelike.proofs.TypedNames.{GlobalsFit, SeesTypes}
use Rattle.mm_sourcelike.proofs.TypedValues.{IsTyped, ParamsTyped, TypedCalls, gives_pointer}
use Rattle.mm_sourcelike.proofs.Typing.{Typing, over, still}
use Rattle.mm_sourcelike.proofs.Valuing.{IsCallable, IsGood}

-- the body of a function is accepted, where its parameters have these names
pub record AcceptedBody (p : Listing) (items : List Item) (parts : Parts) (outermost : Bool) (named_at : ℕ → List Named) (body : List Stmt) : Type 0 where
  pub labels : Table
  pub around : Around
  pub names : Names
  pub side : around.side ≡ parts.side
  pub place : around.outermost ≡ outermost
  pub sees : (n : ℕ) → Sees names.locals (named_at n)
  pub globals : IsSound parts.spots p.mutexes items names.globals
  pub fine : NoFault (all_at around (map (said_stmt items labels) body) names).notes
  pub ints : AllByRecursion IsInt (of_stmts body)
  pub scoped : body_scoped body ≡ true
  pub typed_params : List Param
  pub types : (q : ℕ → Bool) (n : ℕ) → ParamsTyped q typed_params n → SeesTypes q names.locals (named_at n)

-- a function that may be called is as it is declared, and its body is accepted
pub record AcceptedFunction (p : Listing) (items : List Item) (parts : Parts) (f : Function) (params : List Param) (g : Gives) : Type 0 where
  pub count : length f.params ≡ length params
  pub params_are : f.params ≡ params
  pub asserts : f.asserts + asserts_in f.body < 2 ^ 32
  pub body : AcceptedBody p items parts false (bound f.params) f.body
  pub gives_are : body.around.gives ≡ g
  pub types_are : body.typed_params ≡ f.params

-- the program is as its text says, and each function that may be called is accepted
pub record AcceptedText (p : Listing) (items : List Item) (parts : Parts) : Type 0 where
  pub few : length p.cells < 2 ^ 31
  pub rows : AllByRecursion (λ s. IsRow p.cells (row_of s)) parts.spots
  pub mutexes : parts.mutexes ≡ p.mutexes
  pub starts : length p.threads ≡ 1 + length parts.starts
  pub functions : (x : Ident) (k : ℕ) (h : HasFunction items x k) (f : Function) → can_be_called x h.gives ≡ true → function_of items parts.asserts x ≡ Some f → AcceptedFunction p items parts f h.params h.gives
  pub found : (x : Ident) (k : ℕ) (h : HasFunction items x k) → (f : Function) × (function_of items parts.asserts x ≡ Some f)

-- ---- parameters

all_reverse : {A : Type 0} (P : A → Type 0) (xs : List A) → AllByRecursion P xs → AllByRecursion P (reverse xs)
all_reverse P [] h = tt
all_reverse {A = A} P (x ∷ xs) h = subst (AllByRecursion P) (sym (reverse-append (x ∷ []) xs)) (both_all P (reverse xs) (x ∷ []) (all_reverse P xs h.1) (h.0, tt))

bound_below : (ps : List Param) (n m : ℕ) → n + length ps ≤ m → AllByRecursion (λ (k : Named). k.number < m) (bound ps n)
bound_below [] n m h = tt
bound_below (p ∷ ps) n m h = (omega arith, bound_below ps (n + 1) m (omega arith))

number_of : (o : Option Named) (m l : ℕ) → ((k : Named) → o ≡ Some k → k.number < m) → option_map (λ (k : Named). k.number) o ≡ Some l → l < m
number_of None m l h e = absurd (none_is_not l e)
number_of (Some k) m l h e = let is : k.number ≡ l = same_some k.number l e in let below : k.number < m = h k refl in omega arith

pub bound_locals : (t : Thread) (ps : List Param) (n : ℕ) → n + length ps ≤ t.locals → AreLocals t (bound ps n)
bound_locals t ps n h = record {
  each = λ x l e. number_of (find (λ (k : Named). bytes_eq k.name x) (reverse (bound ps n))) t.locals l
      (λ k f. found_passes (λ (j : Named). j.number < t.locals) (λ (j : Named). bytes_eq j.name x) (reverse (bound ps n)) k (all_reverse (λ (j : Named). j.number < t.locals) (bound ps n) (bound_below ps n t.locals h)) f) e;
}

no_locals : (t : Thread) → AreLocals t []
no_locals t = record { each = λ x l e. absurd (none_is_not l e) }

-- ---- called functions

never : {A : Type 0} → false ≡ true → A
never e = absurd (by e)
  where
    by : false ≡ true → ⊥
    by q = cc

module _ (p : Listing) (t : Thread) (items : List Item) (parts : Parts) (text : AcceptedText p items parts) where
  abbrev at_depth : ℕ → Option ℕ → Within
  at_depth d ret = record { parts = parts; items = items; inline = inline_at parts items d; ret = ret }

  good_at : (d : ℕ) (ret : Option ℕ) → ((l : ℕ) → ret ≡ Some l → l < t.locals) → ((r : Option ℕ) (f : Function) (params : List Param) (g : Gives) → AcceptedFunction p items parts f params g → IsCallable p t (at_depth d r) f params) → IsGood p t items (at_depth d ret)
  good_at d ret h callable = record {
    mutexes = text.mutexes;
    starts = text.starts;
    ret = h;
    grow = inline_grows parts items d;
    calls = λ x k g f c e. callable ret f g.params g.gives (text.functions x k g f c e);
  }

  callable_at : (d : ℕ) (r : Option ℕ) (f : Function) (params : List Param) (g : Gives) → AcceptedFunction p items parts f params g → IsCallable p t (at_depth d r) f params
  callable_at zero r f params g a = record { count = a.count; code = λ n m ret l below h. tt }
  callable_at (suc d) r f params g a = record {
    count = a.count;
    code = λ n m ret l below h.
        let b = a.body in
        let w : Within = at_depth d (Some ret) in
        let k : Known = record { names = bound f.params n; next = m; seen = record { asserts = f.asserts; starts = 0 } } in
        let is_ret : (q : ℕ) → Some ret ≡ Some q → q < t.locals = λ q e. subst (λ i. i < t.locals) (same_some ret q e) below in
        let passes = body_passes f.body w k in
        let done = body_does p t items b.labels f.body b.around b.names w k (record {
          good = good_at d (Some ret) is_ret (callable_at d);
          side = b.side;
          reads = record { few = text.few; rows = text.rows; sees = b.sees n; locals = bound_locals t f.params n l; globals = b.globals };
          ints = b.ints;
          scoped = b.scoped;
          fine = b.fine;
          room = record { next = h; asserts = omega (arith, passes.asserts, a.asserts); starts = λ e. never (sym b.place ∙ e) };
        }) in
        weaker (IsInstrAt p t b.around.outermost) (IsStepIn p t) (IsPureIn p t) (IsPureIn p t) (λ i g. (g.0, g.1 b.place)) (λ e g. g) (body_code f.body w k).flow done.flow;
  }

  -- ---- threads

  -- what stands in the thread of a function is accepted
  pub thread_accepted : (outermost : Bool) (f : Function) (b : AcceptedBody p items parts outermost (λ n. []) f.body) → f.asserts + asserts_in f.body < 2 ^ 32
      → (thread_code parts items f).known.next ≤ t.locals → (outermost ≡ true → creates_in f.body ≡ parts.starts)
      → Accepted p t items (λ a. all_at a (map (said_stmt items b.labels) f.body)) (body_code f.body) (of_stmts f.body) (body_scoped f.body) b.around b.names (in_thread parts items) (at_entry f.asserts)
  thread_accepted outermost f b asserts h main =
      let passes = body_passes f.body (in_thread parts items) (at_entry f.asserts) in
      record {
        good = good_at most_calls None (λ l e. absurd (none_is_not l e)) (callable_at most_calls);
        side = b.side;
        reads = record { few = text.few; rows = text.rows; sees = b.sees 0; locals = no_locals t; globals = b.globals };
        ints = b.ints;
        scoped = b.scoped;
        fine = b.fine;
        room = record { next = h; asserts = omega (arith, passes.asserts, asserts); starts = λ e. omega (arith, passes.starts, ap length (main (sym b.place ∙ e)), text.starts) };
      }

  pub thread_flow_in : (outermost : Bool) (f : Function) → AcceptedBody p items parts outermost (λ n. []) f.body → f.asserts + asserts_in f.body < 2 ^ 32
      → (thread_code parts items f).known.next ≤ t.locals → (outermost ≡ true → creates_in f.body ≡ parts.starts)
      → FlowAt p t outermost (thread_code parts items f).flow
  thread_flow_in outermost f b asserts h main =
      let done = body_does p t items b.labels f.body b.around b.names (in_thread parts items) (at_entry f.asserts) (thread_accepted outermost f b asserts h main) in
      subst (λ o. FlowAt p t o (thread_code parts items f).flow) b.place done.flow

-- ---- types

can_give : (x : Ident) (g : Gives) (q : ℕ → Bool) (ret : ℕ) → can_be_called x g ≡ true → q ret ≡ gives_pointer g → RetFits q (Some ret) g
can_give x gives.Int q ret c e = e
can_give x gives.Pointer q ret c e = e
can_give x gives.Nothing q ret c e = e
can_give x gives.Thread q ret c e = never c

module _ (p : Listing) (items : List Item) (parts : Parts) (text : AcceptedText p items parts) (fit : GlobalsFit p items parts.spots) where
  abbrev within : ℕ → Option ℕ → Within
  within d ret = record { parts = parts; items = items; inline = inline_at parts items d; ret = ret }

  -- a thread with room for so many locals
  abbrev wide : ℕ → Thread
  wide n = record { locals = n; code = []; places = [] }

  typed_call : (d : ℕ) (r : Option ℕ) (x : Ident) (k : ℕ) (h : HasFunction items x k) → can_be_called x h.gives ≡ true → IsTyped p (within d r) x h.params h.gives
  typed_call zero r x k h c =
      let f = text.found x k h in
      let a = text.functions x k h f.0 c f.1 in
      record { function = f.0; is = f.1; params_are = a.params_are; code = λ n m ret. still m _ (λ q ps e. tt) }
  typed_call (suc d) r x k h c =
      let f = text.found x k h in
      let a = text.functions x k h f.0 c f.1 in
      let b = a.body in
      record {
        function = f.0;
        is = f.1;
        params_are = a.params_are;
        code = λ n m ret.
            let w : Within = within d (Some ret) in
            let known : Known = record { names = bound f.0.params n; next = m; seen = record { asserts = f.0.asserts; starts = 0 } } in
            let end : ℕ = (body_code f.0.body w known).known.next in
            let t : Thread = wide (n + length f.0.params + ret + 1 + end) in
            let passes = body_passes f.0.body w known in
            let is_ret : (l : ℕ) → Some ret ≡ Some l → l < t.locals = λ l e. subst (λ i. i < t.locals) (same_some ret l e) (omega arith) in
            let done = body_does p t items b.labels f.0.body b.around b.names w known (record {
              good = good_at p t items parts text d (Some ret) is_ret (callable_at p t items parts text d);
              side = b.side;
              reads = record { few = text.few; rows = text.rows; sees = b.sees n; locals = bound_locals t f.0.params n (omega arith); globals = b.globals };
              ints = b.ints;
              scoped = b.scoped;
              fine = b.fine;
              room = record { next = omega arith; asserts = omega (arith, passes.asserts, a.asserts); starts = λ e. never (sym b.place ∙ e) };
            }) in
            over m end _ _ (λ q g ps e.
            (g (subst (RetFits q (Some ret)) (sym a.gives_are) (can_give x h.gives q ret c e)) (b.types q n (subst (λ (qs : List Param). ParamsTyped q qs n) (sym a.types_are) ps))).0) (done.typed fit (record { each = λ y j i u. typed_call d (Some ret) y j i u }));
      }

  typed_at : (d : ℕ) (ret : Option ℕ) → TypedCalls p items (within d ret)
  typed_at d ret = record { each = λ x k h c. typed_call d ret x k h c }

  -- there are types for the locals of a thread
  pub thread_typed : (t : Thread) (outermost : Bool) (f : Function) (b : AcceptedBody p items parts outermost (λ n. []) f.body) → b.typed_params ≡ [] → f.asserts + asserts_in f.body < 2 ^ 32
      → (thread_code parts items f).known.next ≤ t.locals → (outermost ≡ true → creates_in f.body ≡ parts.starts)
      → Typing 0 (thread_code parts items f).known.next (λ q. FitsFlow p q (thread_code parts items f).flow)
  thread_typed t outermost f b none asserts h main =
      let done = body_does p t items b.labels f.body b.around b.names (in_thread parts items) (at_entry f.asserts) (thread_accepted p t items parts text outermost f b asserts h main) in
      over 0 (thread_code parts items f).known.next _ _ (λ q g. (g tt (b.types q 0 (subst (λ (qs : List Param). ParamsTyped q qs 0) (sym none) tt))).0) (done.typed fit (typed_at most_calls None))
