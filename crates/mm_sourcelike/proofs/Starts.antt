-- The Starts and Joins in the code of main are those that are noted in its text.
use Rattle.std.proofs.Common.{arith, ◌≡◌, ℕ, ℤ, ◌+◌, Bool, true, false, cond, List, [], ◌∷◌, ◌++◌, length, refl, ◌∙◌, sym, ap, subst, append_assoc, Option, Some, None}
use Rattle.std.specs.List.{AllByRecursion, filter, slice_get}
use Rattle.std.specs.Option.{option_or}
use Rattle.std.proofs.lemmas.List.{length-append}
use Rattle.mm_goto.specs.declared.ident.At.{At}
use Rattle.mm_goto.specs.declared.ident.Ident.{Ident}
use Rattle.mm_goto.specs.declared.program.Instr.{Instr}
use Rattle.mm_goto.specs.declared.program.Instr.TheVariants as instr
use Rattle.mm_goto.specs.declared.program.Thread.{Thread}
use Rattle.mm_goto.specs.Listing.{Listing}
use Rattle.mm_goto.specs.Sourcelike.{is_start_or_join}
use Rattle.mm_goto.specs.Valid.{IsPureIn}
use Rattle.mm_tree.specs.declared.expr.Word.{Word}
use Rattle.mm_tree.specs.declared.item.Gives.{Gives}
use Rattle.mm_tree.specs.declared.item.Gives.TheVariants as gives
use Rattle.mm_tree.specs.declared.item.Item.{Item}
use Rattle.mm_tree.specs.declared.item.Item.TheVariants as item
use Rattle.mm_tree.specs.declared.stmt.Stmt.{Stmt, roll-Stmt}
use Rattle.mm_tree.specs.declared.stmt.StmtNode.{StmtNode, roll-StmtNode}
use Rattle.mm_tree.specs.declared.stmt.StmtNode.TheOpen as stmt
use Rattle.mm_tree.specs.declared.stmt.StmtNode.TheOpen.{StmtNode-F}
use Rattle.mm_tree.specs.declared.stmt.StmtNode.TheFolds.{ind-Stmt, fold-StmtNode, fold-roll-StmtNode, fold-roll-Stmt, map-StmtNode}
use Rattle.mm_flow.specs.declared.mentions.Mention.{Mention}
use Rattle.mm_flow.specs.declared.mentions.Mention.TheVariants.{Create, Label}
use Rattle.mm_flow.specs.declared.names.Named.{Named}
use Rattle.mm_flow.specs.declared.names.Spot.{Spot}
use Rattle.mm_flow.specs.declared.names.Started.{Started}
use Rattle.mm_flow.specs.Flow.{Flow, Do}
use Rattle.mm_flow.specs.Scopes.{thread_in}
use Rattle.mm_flow.specs.Statements.{Known, Did, Doing, Within, or_0, just, started, labelled, stmt_step, placed_step, stmt_code}
use Rattle.mm_flow.specs.Text.{mention_step, mentions_of, creates}
use Rattle.mm_scope.specs.declared.around.Around.{Around}
use Rattle.mm_scope.specs.declared.table.Meaning.{Meaning}
use Rattle.mm_scope.specs.declared.table.Meaning.TheVariants as meaning
use Rattle.mm_scope.specs.Notes.{Note, Use}
use Rattle.mm_scope.specs.Declarations.{declared_local, declared_thread}
use Rattle.mm_scope.specs.Parts.{guarded, noted_assign, noted_value, returned, asserted}
use Rattle.mm_scope.specs.Scopes.{Names, Table, found, meaning_in, meaning_of}
use Rattle.mm_scope.specs.Statements.{Placed, noted_goto, choice, while_loop, do_loop, block, for_loop, said_node_step, said_stmt_step, said_node, said_stmt}
use Rattle.mm_scope.specs.Steps.{Said, and_then, in_turn, closed, declaring}
use Rattle.mm_scope.specs.Threads.{as_thread, outside_main, noted_thread, as_function, gives_thread, as_body, noted_body, started as noted_start}
use Rattle.mm_sourcelike.specs.Ints.{of_stmt, stmt_numbers, stmt_layer}
use Rattle.mm_sourcelike.specs.Shapes.{Shape, shape_step, shape_layer, shape_of}
use Rattle.mm_sourcelike.proofs.Counting.{steps}
use Rattle.mm_sourcelike.proofs.Idling.{stmt_idle, body_idle}
use Rattle.mm_sourcelike.proofs.Jumping.{Level, calm, event, in_order}
use Rattle.mm_sourcelike.proofs.Laying.{weaker}
use Rattle.mm_sourcelike.proofs.Lengthening.{node_code}
use Rattle.mm_sourcelike.proofs.Mentioned.{stmt_passes}
use Rattle.mm_sourcelike.proofs.Scoping.{NoFault, fault_left, fault_right, HasFunction, Means, Stands, Reads}
use Rattle.mm_sourcelike.proofs.Standing.{IsInstrAt, Accepted, reads_nil}
use Rattle.mm_sourcelike.proofs.Statements.{stmt_agrees}
use Rattle.mm_sourcelike.proofs.Tables.{true_is_not}
use Rattle.mm_sourcelike.proofs.Threading.{steps_are}
use Rattle.mm_sourcelike.proofs.Using.{uses, uses_append, Idle}
use Rattle.mm_sourcelike.proofs.Validity.{IsThreadFunction}

-- ---- what uses say

-- the instructions of uses, behind so many creates
abbrev pub use_instr : List Started → ℕ → Ident → Option Ident → Instr
use_instr starts n x (Some f) = instr.Start (n + 1)
use_instr starts n x None = instr.Join (or_0 (thread_in starts n x))

abbrev pub behind_use : ℕ → Option Ident → ℕ
behind_use n (Some f) = n + 1
behind_use n None = n

abbrev pub numbered : List Started → ℕ → List Use → List Instr
numbered starts n [] = []
numbered starts n (u ∷ us) = use_instr starts n u.variable u.function ∷ numbered starts (behind_use n u.function) us

abbrev pub start_of : Ident → Option Ident → List Started
start_of x (Some f) = record { variable = x; function = f } ∷ []
start_of x None = []

abbrev pub started_in : List Use → List Started
started_in [] = []
started_in (u ∷ us) = start_of u.variable u.function ++ started_in us

pub started_append : (us vs : List Use) → started_in (us ++ vs) ≡ started_in us ++ started_in vs
started_append [] vs = refl
started_append (u ∷ us) vs = ap (λ ss. start_of u.variable u.function ++ ss) (started_append us vs) ∙ sym (append_assoc (start_of u.variable u.function) (started_in us) (started_in vs))

pub next_count : (n : ℕ) (x : Ident) (f : Option Ident) → behind_use n f ≡ n + length (start_of x f)
next_count n x (Some f) = refl
next_count n x None = omega arith

pub numbered_append : (starts : List Started) (n : ℕ) (us vs : List Use) → numbered starts n (us ++ vs) ≡ numbered starts n us ++ numbered starts (n + length (started_in us)) vs
numbered_append starts n [] vs = let e : n ≡ n + 0 = omega arith in ap (λ m. numbered starts m vs) e
numbered_append starts n (u ∷ us) vs =
    let m : ℕ = behind_use n u.function in
    let e : m + length (started_in us) ≡ n + length (started_in (u ∷ us)) = omega (arith, next_count n u.variable u.function, length-append (start_of u.variable u.function) (started_in us)) in
    ap (λ is. use_instr starts n u.variable u.function ∷ is) (numbered_append starts m us vs ∙ ap (λ q. numbered starts m us ++ numbered starts q vs) e)

-- the Starts and Joins of a flow
abbrev pub events : Flow → List Instr
events f = filter is_start_or_join (steps f)

pub filter_append : (xs ys : List Instr) → filter is_start_or_join (xs ++ ys) ≡ filter is_start_or_join xs ++ filter is_start_or_join ys
filter_append [] ys = refl
filter_append (x ∷ xs) ys = by (is_start_or_join x) (filter_append xs ys)
  where
    by : (b : Bool) → filter is_start_or_join (xs ++ ys) ≡ filter is_start_or_join xs ++ filter is_start_or_join ys → cond b (x ∷ filter is_start_or_join (xs ++ ys)) (filter is_start_or_join (xs ++ ys)) ≡ cond b (x ∷ filter is_start_or_join xs) (filter is_start_or_join xs) ++ filter is_start_or_join ys
    by true e = ap (λ zs. x ∷ zs) e
    by false e = e

none_kept : (xs : List Instr) → AllByRecursion (λ i. is_start_or_join i ≡ false) xs → filter is_start_or_join xs ≡ []
none_kept [] h = refl
none_kept (x ∷ xs) h = ap (λ b. cond b (x ∷ filter is_start_or_join xs) (filter is_start_or_join xs)) h.0 ∙ none_kept xs h.1

-- whether the variable of a use is a local is as the names have it
pub record FlagFits (names : Names) (u : Use) : Type 0 where
  pub local : u.local ≡ true → found names.locals u.variable ≡ Some meaning.Thread
  pub global : u.local ≡ false → found names.locals u.variable ≡ None

pub record Threaded (items : List Item) (starts : List Started) (names : Names) (ns : List Note) (k : Known) (d : Did) (ms : List Mention) : Type 0 where
  pub events : events d.flow ≡ numbered starts k.seen.starts (uses ns)
  pub creates : creates ms ≡ started_in (uses ns)
  pub functions : AllByRecursion (λ (s : Started). IsThreadFunction items s.function) (started_in (uses ns))
  pub flags : AllByRecursion (FlagFits names) (uses ns)
  pub level : Level d.flow

-- ---- the function of a thread

thread_item : (items : List Item) (x : Ident) (k : ℕ) (h : HasFunction items x k) (at : At) → NoFault (as_function at (gives_thread (slice_get items k))) → IsThreadFunction items x
thread_item items x k h at f =
    let g : NoFault (as_function at (gives_thread (Some (item.Function h.at h.gives x h.params h.body)))) = subst (λ o. NoFault (as_function at (gives_thread o))) h.is f in
    record { k = k; function = h; gives = by h.gives g }
  where
    by : (g : Gives) → NoFault (as_function at (gives_thread (Some (item.Function h.at g x h.params h.body)))) → g ≡ gives.Thread
    by gives.Thread q = refl
    by gives.Int q = absurd q
    by gives.Pointer q = absurd q
    by gives.Nothing q = absurd q

module _ (p : Listing) (t : Thread) (items : List Item) where
  local_body : (ns : List Named) (x : Ident) (at there : At) (m : Meaning) → Stands ns x m → NoFault (as_body items at there (Some m)) → ⊥
  local_body ns x at there meaning.Int s f = f
  local_body ns x at there meaning.Pointer s f = f
  local_body ns x at there meaning.Thread s f = f
  local_body ns x at there meaning.Handed s f = f
  local_body ns x at there meaning.Unready s f = f
  local_body ns x at there meaning.Shared s f = s
  local_body ns x at there (meaning.Array n) s f = s
  local_body ns x at there meaning.Mutex s f = s
  local_body ns x at there meaning.SharedThread s f = s
  local_body ns x at there (meaning.Function k) s f = s
  local_body ns x at there (meaning.Ahead k) s f = s
  local_body ns x at there meaning.Input s f = s
  local_body ns x at there meaning.Label s f = s

  global_body : (spots : List Spot) (mutexes : List Ident) (x : Ident) (at there : At) (m : Meaning) → Means spots mutexes items x m → NoFault (as_body items at there (Some m)) → IsThreadFunction items x
  global_body spots mutexes x at there (meaning.Function k) s f = thread_item items x k s at f
  global_body spots mutexes x at there (meaning.Ahead k) s f = thread_item items x k s at f
  global_body spots mutexes x at there meaning.Input s f = absurd f
  global_body spots mutexes x at there meaning.Shared s f = absurd f
  global_body spots mutexes x at there meaning.Pointer s f = absurd f
  global_body spots mutexes x at there (meaning.Array n) s f = absurd f
  global_body spots mutexes x at there meaning.Mutex s f = absurd f
  global_body spots mutexes x at there meaning.SharedThread s f = absurd f
  global_body spots mutexes x at there meaning.Int s f = absurd s
  global_body spots mutexes x at there meaning.Thread s f = absurd s
  global_body spots mutexes x at there meaning.Handed s f = absurd s
  global_body spots mutexes x at there meaning.Unready s f = absurd s
  global_body spots mutexes x at there meaning.Label s f = absurd s

  has_body : (spots : List Spot) (ns : List Named) (names : Names) (x : Ident) (at there : At) → Reads p t items spots ns names → NoFault (as_body items at there (meaning_of names x)) → IsThreadFunction items x
  has_body spots ns names x at there r f = by (found names.locals x) (meaning_in names.globals x) (r.sees.each x) (r.globals.each x) f
    where
      by : (a b : Option Meaning) → ((m : Meaning) → a ≡ Some m → Stands ns x m) → ((m : Meaning) → b ≡ Some m → Means spots p.mutexes items x m) → NoFault (as_body items at there (option_or a b)) → IsThreadFunction items x
      by (Some m) b s g h = absurd (local_body ns x at there m (s m refl) h)
      by None (Some m) s g h = global_body spots p.mutexes x at there m (g m refl) h
      by None None s g h = absurd h

  -- ---- the use of a variable

  -- one use is noted, of this function and this variable
  record OneUse (names : Names) (f : Option Ident) (x : Ident) (ns : List Note) : Type 0 where
    it : Use
    is : uses ns ≡ it ∷ []
    function : it.function ≡ f
    variable : it.variable ≡ x
    flag : FlagFits names it

  local_use : (ns : List Named) (names : Names) (f : Option Ident) (at : At) (w : Word) (m : Meaning) → found names.locals w.name ≡ Some m → Stands ns w.name m → NoFault (as_thread true f at w (Some m)) → OneUse names f w.name (as_thread true f at w (Some m))
  local_use ns names f at w meaning.Thread e s h = record { it = record { function = f; local = true; variable = w.name; at = at }; is = refl; function = refl; variable = refl; flag = record { local = λ q. e; global = λ q. true_is_not q } }
  local_use ns names f at w meaning.Int e s h = absurd h
  local_use ns names f at w meaning.Pointer e s h = absurd h
  local_use ns names f at w meaning.Handed e s h = absurd h
  local_use ns names f at w meaning.Unready e s h = absurd h
  local_use ns names f at w meaning.Shared e s h = absurd s
  local_use ns names f at w (meaning.Array n) e s h = absurd s
  local_use ns names f at w meaning.Mutex e s h = absurd s
  local_use ns names f at w meaning.SharedThread e s h = absurd s
  local_use ns names f at w (meaning.Function k) e s h = absurd s
  local_use ns names f at w (meaning.Ahead k) e s h = absurd s
  local_use ns names f at w meaning.Input e s h = absurd s
  local_use ns names f at w meaning.Label e s h = absurd s

  global_use : (spots : List Spot) (mutexes : List Ident) (names : Names) (f : Option Ident) (at : At) (w : Word) (m : Meaning) → found names.locals w.name ≡ None → Means spots mutexes items w.name m → NoFault (as_thread true f at w (Some m)) → OneUse names f w.name (as_thread true f at w (Some m))
  global_use spots mutexes names f at w meaning.SharedThread e s h = record { it = record { function = f; local = false; variable = w.name; at = at }; is = refl; function = refl; variable = refl; flag = record { local = λ q. true_is_not (sym q); global = λ q. e } }
  global_use spots mutexes names f at w meaning.Shared e s h = absurd h
  global_use spots mutexes names f at w meaning.Pointer e s h = absurd h
  global_use spots mutexes names f at w (meaning.Array n) e s h = absurd h
  global_use spots mutexes names f at w meaning.Mutex e s h = absurd h
  global_use spots mutexes names f at w (meaning.Function k) e s h = absurd h
  global_use spots mutexes names f at w (meaning.Ahead k) e s h = absurd h
  global_use spots mutexes names f at w meaning.Input e s h = absurd h
  global_use spots mutexes names f at w meaning.Int e s h = absurd s
  global_use spots mutexes names f at w meaning.Thread e s h = absurd s
  global_use spots mutexes names f at w meaning.Handed e s h = absurd s
  global_use spots mutexes names f at w meaning.Unready e s h = absurd s
  global_use spots mutexes names f at w meaning.Label e s h = absurd s

  one_use : (spots : List Spot) (ns : List Named) (names : Names) (f : Option Ident) (at : At) (w : Word) → Reads p t items spots ns names → NoFault (as_thread true f at w (meaning_of names w.name)) → OneUse names f w.name (as_thread true f at w (meaning_of names w.name))
  one_use spots ns names f at w r h = by (found names.locals w.name) (meaning_in names.globals w.name) refl (r.sees.each w.name) (r.globals.each w.name) h
    where
      by : (a b : Option Meaning) → found names.locals w.name ≡ a → ((m : Meaning) → a ≡ Some m → Stands ns w.name m) → ((m : Meaning) → b ≡ Some m → Means spots p.mutexes items w.name m) → NoFault (as_thread true f at w (option_or a b)) → OneUse names f w.name (as_thread true f at w (option_or a b))
      by (Some m) b e s g q = local_use ns names f at w m e (s m refl) q
      by None (Some m) e s g q = global_use spots p.mutexes names f at w m e (g m refl) q
      by None None e s g q = absurd q

  -- in the outermost block
  thread_use : (spots : List Spot) (ns : List Named) (names : Names) (a : Around) (f : Option Ident) (at : At) (w : Word) → a.outermost ≡ true → Reads p t items spots ns names → NoFault (noted_thread a f at w names).notes → OneUse names f w.name (noted_thread a f at w names).notes
  unfolding noted_thread
  thread_use spots ns names a f at w e r h =
      subst (λ b. OneUse names f w.name (outside_main b at ++ as_thread b f at w (meaning_of names w.name))) (sym e)
      (one_use spots ns names f at w r (subst (λ b. NoFault (outside_main b at ++ as_thread b f at w (meaning_of names w.name))) e h))

  -- ---- statements

  one_event : (starts : List Started) (n : ℕ) (names : Names) (f : Option Ident) (x : Ident) (ns : List Note) → OneUse names f x ns → numbered starts n (uses ns) ≡ use_instr starts n x f ∷ []
  one_event starts n names f x ns o = ap (numbered starts n) o.is ∙ (ap (λ y. use_instr starts n y o.it.function ∷ []) o.variable ∙ ap (λ g. use_instr starts n x g ∷ []) o.function)

  one_start : (names : Names) (f : Option Ident) (x : Ident) (ns : List Note) → OneUse names f x ns → started_in (uses ns) ≡ start_of x f ++ []
  one_start names f x ns o = ap started_in o.is ∙ (ap (λ y. start_of y o.it.function ++ []) o.variable ∙ ap (λ g. start_of x g ++ []) o.function)

  one_flag : (names : Names) (f : Option Ident) (x : Ident) (ns : List Note) → OneUse names f x ns → AllByRecursion (FlagFits names) (uses ns)
  one_flag names f x ns o = subst (AllByRecursion (FlagFits names)) (sym o.is) (o.flag, tt)

  more_notes : (names : Names) (f : Option Ident) (x : Ident) (ns ms : List Note) → Idle ms → OneUse names f x ns → OneUse names f x (ns ++ ms)
  more_notes names f x ns ms i o = record { it = o.it; is = uses_append ns ms ∙ (ap (λ us. us ++ uses ms) o.is ∙ ap (λ us. o.it ∷ us) i); function = o.function; variable = o.variable; flag = o.flag }

  abbrev Threads : Placed → Doing → List ℤ → Bool → List Mention → Type 0
  Threads s d zs b ms = (a : Around) (names : Names) (w : Within) (k : Known) → a.outermost ≡ true → Accepted p t items s d zs b a names w k → Threaded items w.parts.starts names (s a names).notes k (d w k) ms

  start_threads : (at : At) (x f : Word) (zs : List ℤ) (b : Bool) → Threads (λ a. noted_start items a at x f) (λ w k. started at k) zs b (Create (record { variable = x.name; function = f.name }) ∷ [])
  unfolding noted_start and_then noted_body noted_thread
  start_threads at x f zs b a names w k e h =
      let first : List Note = (noted_thread a (Some f.name) at x names).notes in
      let names1 : Names = record names { locals = names.locals ++ [] } in
      let second : List Note = as_body items at f.at (meaning_of names1 f.name) in
      let o = more_notes names (Some f.name) x.name first second (body_idle items at f.at (meaning_of names1 f.name)) (thread_use w.parts.spots k.names names a (Some f.name) at x e h.reads (fault_left first second h.fine)) in
      let body = has_body w.parts.spots k.names names1 f.name at f.at (reads_nil p t items w.parts.spots k.names names h.reads) (fault_right first second h.fine) in
      record {
        events = sym (one_event w.parts.starts k.seen.starts names (Some f.name) x.name (first ++ second) o);
        creates = sym (one_start names (Some f.name) x.name (first ++ second) o);
        functions = subst (AllByRecursion (λ (s : Started). IsThreadFunction items s.function)) (sym (one_start names (Some f.name) x.name (first ++ second) o)) (body, tt);
        flags = one_flag names (Some f.name) x.name (first ++ second) o;
        level = event;
      }

  join_threads : (at : At) (x : Word) (zs : List ℤ) (b : Bool) → Threads (λ a. noted_thread a None at x) (λ w k. just (Do at (instr.Join (or_0 (thread_in w.parts.starts k.seen.starts x.name)))) k) zs b []
  join_threads at x zs b a names w k e h =
      let ns : List Note = (noted_thread a None at x names).notes in
      let o = thread_use w.parts.spots k.names names a None at x e h.reads h.fine in
      record {
        events = sym (one_event w.parts.starts k.seen.starts names None x.name ns o);
        creates = sym (one_start names None x.name ns o);
        functions = subst (AllByRecursion (λ (s : Started). IsThreadFunction items s.function)) (sym (one_start names None x.name ns o)) tt;
        flags = one_flag names None x.name ns o;
        level = event;
      }

  nothing_created : (ms : List Mention) → length (creates ms) ≡ 0 → creates ms ≡ []
  nothing_created ms e = by (creates ms) e
    where
      by : (ss : List Started) → length ss ≡ 0 → ss ≡ []
      by [] q = refl
      by (s ∷ ss) q = absurd (omega arith)

  module _ (labels : Table) where
    abbrev SaidBy : Type 0
    SaidBy = At → Placed

    abbrev Q : Stmt → Type 0
    Q s = Threads (said_stmt items labels s) (stmt_code s) (of_stmt s) (shape_of s).is_scoped (mentions_of s)

    -- what does not look at whether it stands in the outermost block has neither
    ordinary : (s : Stmt) → ((a : Around) (names : Names) → said_stmt items labels s a names ≡ said_stmt items labels s (guarded a) names) → Q s
    ordinary s same a names w k e h =
        let ns : List Note = (said_stmt items labels s a names).notes in
        let idle : uses ns ≡ [] = subst (λ (q : Said). Idle q.notes) (sym (same a names)) (stmt_idle items labels s (guarded a) names refl) in
        let done = (stmt_agrees p t items labels s).does (guarded a) names w k (record {
          good = h.good;
          side = h.side;
          reads = h.reads;
          ints = h.ints;
          scoped = h.scoped;
          fine = subst (λ (q : Said). NoFault q.notes) (same a names) h.fine;
          room = record { next = h.room.next; asserts = h.room.asserts; starts = λ q. true_is_not (sym q) };
        }) in
        let passes = stmt_passes s w k in
        let none = nothing_created (mentions_of s) (omega (arith, passes.starts, done.starts refl)) in
        record {
          events = none_kept (steps (stmt_code s w k).flow) (steps_are (λ i. is_start_or_join i ≡ false) (λ q. Unit {0}) (stmt_code s w k).flow (weaker (IsInstrAt p t false) (λ i. is_start_or_join i ≡ false) (IsPureIn p t) (λ q. Unit {0}) (λ i g. g.1 refl) (λ q g. tt) (stmt_code s w k).flow done.flow)) ∙ sym (ap (numbered w.parts.starts k.seen.starts) idle);
          creates = none ∙ sym (ap started_in idle);
          functions = subst (λ us. AllByRecursion (λ (q : Started). IsThreadFunction items q.function) (started_in us)) (sym idle) tt;
          flags = subst (AllByRecursion (FlagFits names)) (sym idle) tt;
          level = calm (weaker (IsInstrAt p t false) (λ i. is_start_or_join i ≡ false) (IsPureIn p t) (λ q. Unit {0}) (λ i g. g.1 refl) (λ q g. tt) (stmt_code s w k).flow done.flow);
        }

    -- ---- one layer

    abbrev said_layer : StmtNode-F StmtNode Stmt → At → Placed
    said_layer z at = said_node_step items labels (map-StmtNode StmtNode Stmt SaidBy Placed (said_node items labels) (said_stmt items labels) z) at

    abbrev code_layer : StmtNode-F StmtNode Stmt → At → Doing
    code_layer z at = stmt_step (map-StmtNode StmtNode Stmt (At → Doing) Doing node_code stmt_code z) at

    abbrev numbers_layer : StmtNode-F StmtNode Stmt → List ℤ
    numbers_layer z = stmt_numbers (map-StmtNode StmtNode Stmt (List ℤ) (List ℤ) (fold-StmtNode (List ℤ) (List ℤ) stmt_numbers stmt_layer) of_stmt z)

    abbrev shapes_layer : StmtNode-F StmtNode Stmt → Shape
    shapes_layer z = shape_step (map-StmtNode StmtNode Stmt Shape Shape (fold-StmtNode Shape Shape shape_step shape_layer) shape_of z)

    abbrev mentions_layer : StmtNode-F StmtNode Stmt → List Mention
    mentions_layer z = mention_step (map-StmtNode StmtNode Stmt (List Mention) (List Mention) (fold-StmtNode (List Mention) (List Mention) mention_step (λ layer. layer.node)) mentions_of z)

    abbrev whole : StmtNode-F StmtNode Stmt → At → Stmt
    whole z at = roll-Stmt (record { at = at; node = roll-StmtNode z })

    said_is : (z : StmtNode-F StmtNode Stmt) (at : At) → said_stmt items labels (whole z at) ≡ said_layer z at
    said_is z at = fold-roll-Stmt SaidBy Placed (said_node_step items labels) (said_stmt_step items labels) (record { at = at; node = roll-StmtNode z }) ∙ ap (λ (f : SaidBy). f at) (fold-roll-StmtNode SaidBy Placed (said_node_step items labels) (said_stmt_step items labels) z)

    code_is : (z : StmtNode-F StmtNode Stmt) (at : At) → stmt_code (whole z at) ≡ code_layer z at
    unfolding stmt_code
    code_is z at = fold-roll-Stmt (At → Doing) Doing stmt_step placed_step (record { at = at; node = roll-StmtNode z }) ∙ ap (λ (f : At → Doing). f at) (fold-roll-StmtNode (At → Doing) Doing stmt_step placed_step z)

    numbers_is : (z : StmtNode-F StmtNode Stmt) (at : At) → of_stmt (whole z at) ≡ numbers_layer z
    unfolding of_stmt
    numbers_is z at = fold-roll-Stmt (List ℤ) (List ℤ) stmt_numbers stmt_layer (record { at = at; node = roll-StmtNode z }) ∙ fold-roll-StmtNode (List ℤ) (List ℤ) stmt_numbers stmt_layer z

    shape_is : (z : StmtNode-F StmtNode Stmt) (at : At) → shape_of (whole z at) ≡ shapes_layer z
    unfolding shape_of
    shape_is z at = fold-roll-Stmt Shape Shape shape_step shape_layer (record { at = at; node = roll-StmtNode z }) ∙ fold-roll-StmtNode Shape Shape shape_step shape_layer z

    mentions_is : (z : StmtNode-F StmtNode Stmt) (at : At) → mentions_of (whole z at) ≡ mentions_layer z
    unfolding mentions_of
    mentions_is z at = fold-roll-Stmt (List Mention) (List Mention) mention_step (λ layer. layer.node) (record { at = at; node = roll-StmtNode z }) ∙ fold-roll-StmtNode (List Mention) (List Mention) mention_step (λ layer. layer.node) z

    lift : (z : StmtNode-F StmtNode Stmt) (at : At) → Threads (said_layer z at) (code_layer z at) (numbers_layer z) (shapes_layer z).is_scoped (mentions_layer z) → Q (whole z at)
    lift z at g =
        subst (λ (f : Placed). Threads f (stmt_code (whole z at)) (of_stmt (whole z at)) (shape_of (whole z at)).is_scoped (mentions_of (whole z at))) (sym (said_is z at))
        (subst (λ (f : Doing). Threads (said_layer z at) f (of_stmt (whole z at)) (shape_of (whole z at)).is_scoped (mentions_of (whole z at))) (sym (code_is z at))
        (subst (λ (f : List ℤ). Threads (said_layer z at) (code_layer z at) f (shape_of (whole z at)).is_scoped (mentions_of (whole z at))) (sym (numbers_is z at))
        (subst (λ (f : Shape). Threads (said_layer z at) (code_layer z at) (numbers_layer z) f.is_scoped (mentions_of (whole z at))) (sym (shape_is z at))
        (subst (λ (f : List Mention). Threads (said_layer z at) (code_layer z at) (numbers_layer z) (shapes_layer z).is_scoped f) (sym (mentions_is z at)) g))))

    plain_layer : (z : StmtNode-F StmtNode Stmt) (at : At) → ((a : Around) (names : Names) → said_layer z at a names ≡ said_layer z at (guarded a) names) → Q (whole z at)
    plain_layer z at h = ordinary (whole z at) (λ a names. subst (λ (f : Placed). f a names ≡ f (guarded a) names) (sym (said_is z at)) (h a names))

    abbrev P : StmtNode → Type 0
    P d = (at : At) → Q (roll-Stmt (record { at = at; node = d }))

    abbrev Proved : Type 0
    Proved = (s : Stmt) × Q s

    abbrev Layer : Type 0
    Layer = StmtNode-F ((d : StmtNode) × P d) Proved

    abbrev bare : Layer → StmtNode-F StmtNode Stmt
    bare y = map-StmtNode ((d : StmtNode) × P d) Proved StmtNode Stmt (λ d. d.0) (λ e. e.0) y

    label_threads : (x : Word) (d : Proved) → Threads (said_stmt items labels d.0) (labelled x.name (stmt_code d.0)) (of_stmt d.0) (shape_of d.0).is_scoped (Label x.name ∷ mentions_of d.0)
    label_threads x d a names w k e h =
        let one = d.1 a names w k e (record { good = h.good; side = h.side; reads = h.reads; ints = h.ints; scoped = h.scoped; fine = h.fine; room = record { next = h.room.next; asserts = h.room.asserts; starts = h.room.starts } }) in
        record { events = one.events; creates = one.creates; functions = one.functions; flags = one.flags; level = in_order (calm tt) one.level }

    layer_threads : (y : Layer) (at : At) → Q (whole (bare y) at)
    unfolding choice while_loop do_loop block for_loop closed noted_assign noted_value returned asserted noted_goto declared_local declared_thread declaring and_then in_turn
    layer_threads stmt.Empty at = plain_layer (bare stmt.Empty) at (λ a names. refl)
    layer_threads (stmt.Block ss) at = plain_layer (bare (stmt.Block ss)) at (λ a names. refl)
    layer_threads (stmt.Declare ls) at = plain_layer (bare (stmt.Declare ls)) at (λ a names. refl)
    layer_threads (stmt.DeclareThread xs) at = plain_layer (bare (stmt.DeclareThread xs)) at (λ a names. refl)
    layer_threads (stmt.Assign l v) at = plain_layer (bare (stmt.Assign l v)) at (λ a names. refl)
    layer_threads (stmt.Update l op c) at = plain_layer (bare (stmt.Update l op c)) at (λ a names. refl)
    layer_threads (stmt.Do v) at = plain_layer (bare (stmt.Do v)) at (λ a names. refl)
    layer_threads (stmt.If c d o) at = plain_layer (bare (stmt.If c d o)) at (λ a names. refl)
    layer_threads (stmt.While c d) at = plain_layer (bare (stmt.While c d)) at (λ a names. refl)
    layer_threads (stmt.DoWhile d c) at = plain_layer (bare (stmt.DoWhile d c)) at (λ a names. refl)
    layer_threads (stmt.For i c j d) at = plain_layer (bare (stmt.For i c j d)) at (λ a names. refl)
    layer_threads stmt.Break at = plain_layer (bare stmt.Break) at (λ a names. refl)
    layer_threads stmt.Continue at = plain_layer (bare stmt.Continue) at (λ a names. refl)
    layer_threads (stmt.Return v) at = plain_layer (bare (stmt.Return v)) at (λ a names. refl)
    layer_threads (stmt.Assert c text) at = plain_layer (bare (stmt.Assert c text)) at (λ a names. refl)
    layer_threads (stmt.Assume c) at = plain_layer (bare (stmt.Assume c)) at (λ a names. refl)
    layer_threads stmt.Fence at = plain_layer (bare stmt.Fence) at (λ a names. refl)
    layer_threads (stmt.Lock x) at = plain_layer (bare (stmt.Lock x)) at (λ a names. refl)
    layer_threads (stmt.Unlock x) at = plain_layer (bare (stmt.Unlock x)) at (λ a names. refl)
    layer_threads (stmt.Start x f) at = lift (bare (stmt.Start x f)) at (start_threads at x f [] true)
    layer_threads (stmt.Join x) at = lift (bare (stmt.Join x)) at (join_threads at x [] true)
    layer_threads (stmt.Goto x) at = plain_layer (bare (stmt.Goto x)) at (λ a names. refl)
    layer_threads (stmt.Label x d) at = lift (bare (stmt.Label x d)) at (label_threads x d)
    layer_threads stmt.AtomBegin at = plain_layer (bare stmt.AtomBegin) at (λ a names. refl)
    layer_threads stmt.AtomEnd at = plain_layer (bare stmt.AtomEnd) at (λ a names. refl)

    pub stmt_threads : (s : Stmt) → Q s
    stmt_threads = ind-Stmt P Q
        (λ x y is. subst (λ z. P (roll-StmtNode z)) is (λ at. layer_threads y at))
        (λ x y is. subst (λ z. Q (roll-Stmt z)) is (y.node.1 y.at))
