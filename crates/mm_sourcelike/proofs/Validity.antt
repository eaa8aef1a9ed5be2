-- The program of an accepted text whose limits are kept is valid.
use Rattle.std.proofs.Common.{arith, ◌≡◌, ℕ, zero, suc, ◌+◌, ◌<◌, ◌≤◌, nat_lt, Bool, true, false, ◌||◌, if◌then◌else◌, List, [], ◌∷◌, length, map, refl, ◌∙◌, sym, ap, subst, codes, Option, Some, None}
use Rattle.std.specs.List.{AllByRecursion, Contains, slice_get, count_by, sum_by, list_any}
use Rattle.std.proofs.lemmas.Bool.Decides.{nat_tests}
use Rattle.std.proofs.lemmas.List.{length-map}
use Rattle.std.proofs.lemmas.List.Elements.{All-from_recursion}
use Rattle.std.proofs.lemmas.List.Sums.{sum_by-cons}
use Rattle.mm_goto.specs.declared.ident.Ident.{Ident}
use Rattle.mm_goto.specs.declared.limits.TheConstants.{MAX_INSTRUCTIONS, MAX_LOCALS}
use Rattle.mm_goto.specs.declared.program.Instr.{Instr}
use Rattle.mm_goto.specs.declared.program.Thread.{Thread}
use Rattle.mm_goto.specs.Listing.{Listing}
use Rattle.mm_goto.specs.Valid.{IsRow, IsCellIn, IsThreadIn, IsValid, is_start, is_join, starts, joins}
use Rattle.mm_tree.specs.declared.item.Gives.TheVariants as gives
use Rattle.mm_tree.specs.declared.item.Item.{Item}
use Rattle.mm_tree.specs.declared.item.Item.TheVariants as item
use Rattle.mm_tree.specs.declared.item.Tree.{Tree}
use Rattle.mm_tree.specs.declared.side.Side.{Side}
use Rattle.mm_tree.specs.declared.side.Side.TheVariants.{Source, Output}
use Rattle.mm_flow.specs.declared.fault.Limit.TheVariants.{Threads, NestedCalls, Instructions, Locals, Mutexes, Cells}
use Rattle.mm_flow.specs.declared.names.Parts.{Parts}
use Rattle.mm_flow.specs.declared.names.Started.{Started}
use Rattle.mm_flow.specs.Flow.{Flow, size}
use Rattle.mm_flow.specs.Programs.{globals_in, cell_count, parts_of, body_of, body_in, threads_in, threads_of, thread_of, thread_code, named_function, flow_of, program_of, limit_passed, first_passed, most_threads, most_mutexes, most_cells, most_instructions, most_locals, nests_too_deep, has_more_locals, size_in, asserts_before, all_to, end_of}
use Rattle.mm_flow.specs.Statements.{Function, function_of, is_function, as_function}
use Rattle.mm_flow.specs.Text.{asserts_in, creates_in}
use Rattle.mm_flow.specs.Flow.{lay, Placed}
use Rattle.mm_scope.specs.declared.fault.Fault.{Fault}
use Rattle.mm_scope.specs.Notes.{Note, a_fault, a_call, a_use, an_assertion}
use Rattle.mm_scope.specs.Values.{can_be_called}
use Rattle.mm_names.specs.Items.{is_main, ahead, listed_items}
use Rattle.mm_names.specs.Programs.{notes_of, noted, IsAccepted}
use Rattle.mm_sourcelike.specs.Ints.{AreInts}
use Rattle.mm_sourcelike.specs.Shapes.{IsScoped}
use Rattle.mm_sourcelike.proofs.Cells.{row_of, cells_length, spot_rows, cells_in_range}
use Rattle.mm_sourcelike.proofs.Counting.{steps}
use Rattle.mm_sourcelike.proofs.Inlining.{AcceptedFunction, AcceptedText}
use Rattle.mm_sourcelike.proofs.Laying.{laid_size}
use Rattle.mm_sourcelike.proofs.Scoping.{NoFault, HasFunction, same_some, none_is_not}
use Rattle.mm_sourcelike.proofs.Starting.{global_names}
use Rattle.mm_sourcelike.proofs.Tables.{true_is_not}
use Rattle.mm_sourcelike.proofs.Threading.{ThreadFunction, thread_in, starts_are, joins_are, idle_starts, idle_joins}
use Rattle.mm_sourcelike.proofs.Walking.{main_is, FunctionFine, ItemFine, TextFine, text_fine}

-- ---- notes

pub no_fault_from : (ns : List Note) → ((f : Fault) → Contains ns (a_fault f) → ⊥) → NoFault ns
no_fault_from [] h = tt
no_fault_from (a_fault f ∷ ns) h = h f (0, omega arith, refl)
no_fault_from (a_call c ∷ ns) h = no_fault_from ns (λ f g. h f (suc g.0, omega (arith, g.1), g.2))
no_fault_from (a_use u ∷ ns) h = no_fault_from ns (λ f g. h f (suc g.0, omega (arith, g.1), g.2))
no_fault_from (an_assertion ∷ ns) h = no_fault_from ns (λ f g. h f (suc g.0, omega (arith, g.1), g.2))

pub accepted_notes : (side : Side) (tree : Tree) → IsAccepted side tree → NoFault (listed_items side tree.items 0 tree.items (global_names (ahead [] 0 tree.items))).notes
unfolding notes_of
accepted_notes side tree h = no_fault_from (notes_of side tree) (λ f g. h.no_fault f (noted g))

-- ---- limits

pub record LimitsKept (side : Side) (items : List Item) (parts : Parts) : Type 0 where
  pub threads : nat_lt most_threads (1 + length parts.starts) ≡ false
  pub instructions : nat_lt (most_instructions side) (size_in parts items (threads_in parts)) ≡ false
  pub locals : has_more_locals (most_locals side) (threads_of parts items) ≡ false
  pub mutexes : nat_lt most_mutexes (length parts.mutexes) ≡ false
  pub cells : nat_lt most_cells (cell_count (globals_in items)) ≡ false

some_is_not : {A B : Type 0} (x : A) → Some x ≡ None → B
some_is_not x e = absurd (none_is_not x (sym e))

pub limits_kept : (side : Side) (items : List Item) (parts : Parts) → first_passed side items parts ≡ None → LimitsKept side items parts
limits_kept side items parts e = by (nat_lt most_threads (1 + length parts.starts)) (nests_too_deep items (threads_in parts)) (nat_lt (most_instructions side) (size_in parts items (threads_in parts))) (has_more_locals (most_locals side) (threads_of parts items)) (nat_lt most_mutexes (length parts.mutexes)) (nat_lt most_cells (cell_count (globals_in items))) refl refl refl refl refl e
  where
    by : (a b c d f g : Bool) → nat_lt most_threads (1 + length parts.starts) ≡ a → nat_lt (most_instructions side) (size_in parts items (threads_in parts)) ≡ c → has_more_locals (most_locals side) (threads_of parts items) ≡ d → nat_lt most_mutexes (length parts.mutexes) ≡ f → nat_lt most_cells (cell_count (globals_in items)) ≡ g
        → (if a then Some Threads else if b then Some NestedCalls else if c then Some Instructions else if d then Some Locals else if f then Some Mutexes else if g then Some Cells else None) ≡ None → LimitsKept side items parts
    by true b c d f g ea ec ed ef eg q = some_is_not Threads q
    by false true c d f g ea ec ed ef eg q = some_is_not NestedCalls q
    by false false true d f g ea ec ed ef eg q = some_is_not Instructions q
    by false false false true f g ea ec ed ef eg q = some_is_not Locals q
    by false false false false true g ea ec ed ef eg q = some_is_not Mutexes q
    by false false false false false true ea ec ed ef eg q = some_is_not Cells q
    by false false false false false false ea ec ed ef eg q = record { threads = ea; instructions = ec; locals = ed; mutexes = ef; cells = eg }

pub at_most : (m n : ℕ) → nat_lt m n ≡ false → n ≤ m
at_most m n h = grind (arith, nat_tests)

most_instructions_fit : (side : Side) → most_instructions side ≤ MAX_INSTRUCTIONS
most_instructions_fit Source = omega arith
most_instructions_fit Output = omega arith

most_locals_fit : (side : Side) → most_locals side ≤ MAX_LOCALS
most_locals_fit Source = omega arith
most_locals_fit Output = omega arith

pub first_false : (a b : Bool) → (a || b) ≡ false → a ≡ false
first_false true b e = e
first_false false b e = refl

pub second_false : (a b : Bool) → (a || b) ≡ false → b ≡ false
second_false true b e = true_is_not e
second_false false b e = e

pub few_locals : (n : ℕ) (ts : List Thread) → has_more_locals n ts ≡ false → AllByRecursion (λ (t : Thread). t.locals ≤ n) ts
few_locals n [] e = tt
few_locals n (t ∷ ts) e = (at_most n t.locals (first_false (nat_lt n t.locals) (has_more_locals n ts) e), few_locals n ts (second_false (nat_lt n t.locals) (has_more_locals n ts) e))

code_length : (parts : Parts) (items : List Item) (f : Ident) → length (thread_of parts items f).code ≡ size (flow_of parts items f)
code_length parts items f = length-map (lay (all_to (end_of parts items f)) (flow_of parts items f) 0) (λ (q : Placed). q.instr) ∙ laid_size (all_to (end_of parts items f)) (flow_of parts items f) 0

pub code_sum : (parts : Parts) (items : List Item) (fs : List Ident) → sum_by (λ (t : Thread). length t.code) (map (thread_of parts items) fs) ≡ size_in parts items fs
code_sum parts items [] = refl
code_sum parts items (f ∷ fs) = sum_by-cons (λ (t : Thread). length t.code) (thread_of parts items f) (map (thread_of parts items) fs) ∙ omega (arith, code_length parts items f, code_sum parts items fs)

-- ---- functions

pub all_at_index : {A : Type 0} (P : A → Type 0) (xs : List A) (k : ℕ) (x : A) → AllByRecursion P xs → slice_get xs k ≡ Some x → P x
all_at_index P [] k x h e = absurd (none_is_not x e)
all_at_index P (y ∷ xs) zero x h e = subst P (same_some y x e) h.0
all_at_index P (y ∷ xs) (suc k) x h e = all_at_index P xs k x h.1 e

-- an item that is main
record IsMainAt (items : List Item) : Type 0 where
  k : ℕ
  function : HasFunction items (codes "main") k
  main : is_main (item.Function function.at function.gives (codes "main") function.params function.body) ≡ true

one_later : (i : Item) (is : List Item) → IsMainAt is → IsMainAt (i ∷ is)
one_later i is m = record { k = suc m.k; function = record { at = m.function.at; gives = m.function.gives; params = m.function.params; body = m.function.body; is = m.function.is }; main = m.main }

at_first : (i : Item) (is : List Item) → is_main i ≡ true → IsMainAt (i ∷ is)
at_first (item.Globals gs) is e = true_is_not (sym e)
at_first (item.Mutexes ws) is e = true_is_not (sym e)
at_first (item.Threads ws) is e = true_is_not (sym e)
at_first (item.InputDecl at x) is e = true_is_not (sym e)
at_first (item.Function at g x ps ss) is e =
    let same : x ≡ codes "main" = main_is at g x ps ss e in
    record {
      k = 0;
      function = record { at = at; gives = g; params = ps; body = ss; is = ap (λ y. Some (item.Function at g y ps ss)) same };
      main = subst (λ y. is_main (item.Function at g y ps ss) ≡ true) same e;
    }

main_at : (items : List Item) → list_any is_main items ≡ true → IsMainAt items
main_at [] e = true_is_not (sym e)
main_at (i ∷ is) e = by (is_main i) refl (λ q. one_later i is (main_at is q)) e
  where
    by : (b : Bool) → is_main i ≡ b → (list_any is_main is ≡ true → IsMainAt (i ∷ is)) → (b || list_any is_main is) ≡ true → IsMainAt (i ∷ is)
    by true q g r = at_first i is q
    by false q g r = g r

-- the body of the function that is found
pub same_body : (items : List Item) (n : ℕ) (f : Ident) (g : Function) → function_of items (asserts_before items n) f ≡ Some g → body_in items f ≡ g.body
same_body [] n f g e = absurd (none_is_not g e)
same_body (i ∷ is) n f g e = by (is_function f i) (same_body is (n + asserts_in (body_of i)) f g) e
  where
    here : (j : Item) → as_function j n ≡ Some g → body_of j ≡ g.body
    here (item.Globals gs) q = absurd (none_is_not g q)
    here (item.Mutexes ws) q = absurd (none_is_not g q)
    here (item.Threads ws) q = absurd (none_is_not g q)
    here (item.InputDecl at x) q = absurd (none_is_not g q)
    here (item.Function at h x ps ss) q = ap (λ (r : Function). r.body) (same_some (record { params = ps; body = ss; asserts = n }) g q)

    by : (b : Bool) → (function_of is (asserts_before is (n + asserts_in (body_of i))) f ≡ Some g → body_in is f ≡ g.body)
        → (if b then as_function i n else function_of is (asserts_before is (n + asserts_in (body_of i))) f) ≡ Some g → (if b then body_of i else body_in is f) ≡ g.body
    by true h q = here i q
    by false h q = h q

-- ---- what is left to say of Starts and Joins

-- the function of a thread
pub record IsThreadFunction (items : List Item) (f : Ident) : Type 0 where
  pub k : ℕ
  pub function : HasFunction items f k
  pub gives : function.gives ≡ gives.Thread

abbrev pub main_flow : Parts → List Item → Flow
main_flow parts items = (thread_code parts items (named_function parts items (codes "main"))).flow

-- main starts each thread once and waits for each at most once, and each runs the function of a thread
pub record StartsFine (items : List Item) (parts : Parts) : Type 0 where
  pub threads : AllByRecursion (λ (s : Started). IsThreadFunction items s.function) parts.starts
  pub once : (u : ℕ) → 1 ≤ u → u < 1 + length parts.starts → count_by (is_start u) (steps (main_flow parts items)) ≡ 1
  pub joins : (u : ℕ) → 1 ≤ u → u < 1 + length parts.starts → count_by (is_join u) (steps (main_flow parts items)) ≤ 1

abbrev code_or_none : Option Thread → List Instr
code_or_none (Some thread) = thread.code
code_or_none None = []

module _ (side : Side) (tree : Tree) (ints : AreInts tree) (scoped : IsScoped tree) (accepted : IsAccepted side tree) (none : limit_passed side tree ≡ None) where
  abbrev items : List Item
  items = tree.items

  abbrev p : Listing
  p = program_of side tree

  abbrev parts : Parts
  parts = parts_of side items

  kept : LimitsKept side items parts
  kept = limits_kept side items parts none

  pub fine : TextFine side items p refl items
  fine = text_fine side items p refl ints.numbers scoped ints.asserts (accepted_notes side tree accepted)

  cells_few : length p.cells ≤ 65536
  cells_few = omega (arith, cells_length parts.spots (globals_in items), at_most most_cells (cell_count (globals_in items)) kept.cells)

  rows : AllByRecursion (λ s. IsRow p.cells (row_of s)) parts.spots
  rows = spot_rows parts.spots (globals_in items) p.cells [] 0 refl refl (omega (arith, at_most most_cells (cell_count (globals_in items)) kept.cells)) fine.globals.cells

  pub function_fine : (x : Ident) (k : ℕ) (h : HasFunction items x k) → FunctionFine side items p refl h.at h.gives x h.params h.body
  function_fine x k h = all_at_index (ItemFine side items p refl) items k (item.Function h.at h.gives x h.params h.body) fine.each h.is

  functions : (x : Ident) (k : ℕ) (h : HasFunction items x k) (f : Function) → can_be_called x h.gives ≡ true → function_of items parts.asserts x ≡ Some f → AcceptedFunction p items parts f h.params h.gives
  functions x k h f c e =
      let q = function_fine x k h in
      let same : record { params = h.params; body = h.body; asserts = q.before } ≡ f = same_some (record { params = h.params; body = h.body; asserts = q.before }) f (sym q.is ∙ e) in
      subst (λ (g : Function). AcceptedFunction p items parts g h.params h.gives) same (record { count = refl; params_are = refl; asserts = q.asserts; body = q.called c; gives_are = (q.called_is c).0; types_are = (q.called_is c).1 })

  pub threads_length : length p.threads ≡ 1 + length parts.starts
  threads_length = length-map (threads_in parts) (thread_of parts items) ∙ omega (arith, length-map parts.starts (λ (s : Started). s.function))

  pub text : AcceptedText p items parts
  text = record { few = omega (arith, cells_few); rows = rows; mutexes = refl; starts = threads_length; functions = functions; found = λ x k h. let q = function_fine x k h in (record { params = h.params; body = h.body; asserts = q.before }, q.is) }

  main_here : IsMainAt items
  main_here = main_at items accepted.main

  pub main_function : ThreadFunction p items parts text true (codes "main")
  main_function =
      let m = main_here in
      let q = function_fine (codes "main") m.k m.function in
      record {
        function = record { params = m.function.params; body = m.function.body; asserts = q.before };
        is = q.is;
        body = q.main m.main;
        untyped = q.main_is m.main;
        asserts = q.asserts;
        main = λ e. sym (ap creates_in (same_body items 0 (codes "main") (record { params = m.function.params; body = m.function.body; asserts = q.before }) q.is));
      }

  pub thread_function : (f : Ident) → IsThreadFunction items f → ThreadFunction p items parts text false f
  thread_function f h =
      let q = function_fine f h.k h.function in
      record {
        function = record { params = h.function.params; body = h.function.body; asserts = q.before };
        is = q.is;
        body = q.thread h.gives;
        untyped = q.thread_is h.gives;
        asserts = q.asserts;
        main = λ e. true_is_not (sym e);
      }

  module _ (s : StartsFine items parts) where
    others_in : (ss : List Started) → AllByRecursion (λ (t : Started). IsThreadFunction items t.function) ss → AllByRecursion (λ (t : Thread). t.locals ≤ most_locals side) (map (thread_of parts items) (map (λ (t : Started). t.function) ss)) → AllByRecursion (IsThreadIn p) (map (thread_of parts items) (map (λ (t : Started). t.function) ss))
    others_in [] h l = tt
    others_in (q ∷ ss) h l = (thread_in p items parts text false q.function (thread_function q.function h.0) (omega (arith, l.0, most_locals_fit side)), others_in ss h.1 l.1)

    locals_few : AllByRecursion (λ (t : Thread). t.locals ≤ most_locals side) p.threads
    locals_few = few_locals (most_locals side) p.threads kept.locals

    threads_in_range : AllByRecursion (IsThreadIn p) p.threads
    threads_in_range = (thread_in p items parts text true (codes "main") main_function (omega (arith, locals_few.0, most_locals_fit side)), others_in parts.starts s.threads locals_few.1)

    idle_other : (ss : List Started) (k : ℕ) (t : Thread) → AllByRecursion (λ (q : Started). IsThreadFunction items q.function) ss → slice_get (map (thread_of parts items) (map (λ (q : Started). q.function) ss)) k ≡ Some t → (u : ℕ) → (count_by (is_start u) t.code ≡ 0) × (count_by (is_join u) t.code ≡ 0)
    idle_other [] k t h e u = absurd (none_is_not t e)
    idle_other (q ∷ ss) zero t h e u =
        let same : thread_of parts items q.function ≡ t = same_some (thread_of parts items q.function) t e in
        let f = thread_function q.function h.0 in
        subst (λ (r : Thread). (count_by (is_start u) r.code ≡ 0) × (count_by (is_join u) r.code ≡ 0)) same
        (idle_starts p items parts text false q.function f refl u, idle_joins p items parts text false q.function f refl u)
    idle_other (q ∷ ss) (suc k) t h e u = idle_other ss k t h.1 e u

    no_other : (u t : ℕ) → 1 ≤ t → (starts p t u ≡ 0) × (joins p t u ≡ 0)
    no_other u zero l = absurd (omega arith)
    no_other u (suc t) l = by (slice_get (map (thread_of parts items) (map (λ (q : Started). q.function) parts.starts)) t) refl
      where
        by : (o : Option Thread) → slice_get (map (thread_of parts items) (map (λ (q : Started). q.function) parts.starts)) t ≡ o → (count_by (is_start u) (code_or_none o) ≡ 0) × (count_by (is_join u) (code_or_none o) ≡ 0)
        by None e = (refl, refl)
        by (Some th) e = idle_other parts.starts t th s.threads e u

    pub is_valid : IsValid p
    is_valid = record {
      main = omega (arith, threads_length);
      threads = omega (arith, threads_length, at_most most_threads (1 + length parts.starts) kept.threads);
      mutexes = at_most most_mutexes (length parts.mutexes) kept.mutexes;
      cells = omega (arith, cells_few);
      instructions = omega (arith, code_sum parts items (threads_in parts), at_most (most_instructions side) (size_in parts items (threads_in parts)) kept.instructions, most_instructions_fit side);
      each_cell = All-from_recursion (IsCellIn p.cells) p.cells (cells_in_range parts.spots p.cells (globals_in items) (fine.globals.starts (omega (arith, cells_few)) rows));
      each_thread = All-from_recursion (IsThreadIn p) p.threads threads_in_range;
      each_start = λ u l h. record {
        start = starts_are p items parts text true (codes "main") main_function u ∙ s.once u l (omega (arith, threads_length));
        join = omega (arith, joins_are p items parts text true (codes "main") main_function u, s.joins u l (omega (arith, threads_length)));
        no_other = λ t g. no_other u t g;
      };
    }
