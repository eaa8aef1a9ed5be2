-- What the limits ask of the items of a tree, by what its functions weigh and mention. It does not depend on places.
use Rattle.std.proofs.Common.{arith, ◌≡◌, ℕ, zero, suc, ◌+◌, ◌≤◌, nat_lt, Bool, true, false, if◌then◌else◌, List, [], ◌∷◌, ◌++◌, length, map, ◌||◌, refl, sym, ◌∙◌, ap, subst, Option, Some, None}
use Rattle.std.specs.Prelude.{codes}
use Rattle.std.specs.List.{list_any, AllByRecursion}
use Rattle.std.proofs.lemmas.List.{map-append}
use Rattle.std.proofs.lemmas.Bool.Decides.{nat_tests}
use Rattle.mm_goto.specs.declared.ident.Ident.{Ident}
use Rattle.mm_tree.specs.declared.expr.Word.{Word}
use Rattle.mm_tree.specs.declared.stmt.Stmt.{Stmt}
use Rattle.mm_tree.specs.declared.item.Global.{Global}
use Rattle.mm_tree.specs.declared.item.Item.{Item}
use Rattle.mm_tree.specs.declared.item.Item.TheVariants as item
use Rattle.mm_tree.specs.declared.item.Param.{Param}
use Rattle.mm_tree.specs.declared.item.Tree.{Tree}
use Rattle.mm_tree.specs.declared.side.Side.{Side}
use Rattle.mm_tree.specs.declared.side.Side.TheVariants.{Output}
use Rattle.mm_tree.specs.Places.{bare_word, bare_stmt, bare_param, bare_global, bare_item, without_places}
use Rattle.mm_flow.specs.declared.fault.Limit.{Limit}
use Rattle.mm_flow.specs.declared.fault.Limit.TheVariants.{Threads, NestedCalls, Instructions, Locals, Mutexes, Cells}
use Rattle.mm_flow.specs.declared.names.Started.{Started}
use Rattle.mm_flow.specs.Text.{asserts_in, mentions, creates, calls, creates_in, calls_in}
use Rattle.mm_flow.specs.Statements.{Known, Function, Within, bound, function_of, is_function, as_function, body_code, inline_at}
use Rattle.mm_flow.specs.Programs.{globals_of, globals_in, cells_in, cell_count, mutexes_of, mutexes_in, body_of, asserts_before, body_in, parts_of, most_calls, at_entry, thread_code, the_function, named_function, thread_of, threads_in, threads_of, is_known, nests, size_in, has_more_locals, nests_too_deep, limit_passed}
use Rattle.mm_within.proofs.Bare.{body_bare, mentions_bare}
use Rattle.mm_within.proofs.Costs.{names_of}
use Rattle.mm_within.proofs.Weights.{Calls, price, Weight, body_weight}
use Rattle.mm_within.proofs.Weighing.{Bounds, Weighs, body_weighed}

-- ---- what a call takes

-- the names of parameters
abbrev pub param_names : List Param → List Ident
param_names ps = map (λ (p : Param). p.name.name) ps

-- the names of an item's parameters
abbrev pub params_of : Item → List Ident
params_of (item.Globals gs) = []
params_of (item.Mutexes ws) = []
params_of (item.Threads ws) = []
params_of (item.InputDecl at x) = []
params_of (item.Function at gives x ps ss) = param_names ps

-- the names of a function's parameters
abbrev pub params_in : List Item → Ident → List Ident
params_in [] f = []
params_in (i ∷ is) f = if is_function f i then params_of i else params_in is f

-- what a call of each function takes beside its arguments, where calls nest at most so many deep
abbrev pub calls_at : List Item → ℕ → Calls
calls_at items zero f = price 0 (length (params_in items f) + 1)
calls_at items (suc d) f =
    let b = body_weight (body_in items f) (calls_at items d) (params_in items f) in
    price b.size (length (params_in items f) + 1 + b.fresh)

-- ---- the account of a tree

-- what each function weighs as a thread, what main starts, in which functions calls nest too deep, and how many mutexes and cells there are
pub record Account : Type 0 where
  pub weights : Ident → Weight
  pub starts : List Started
  pub nested : Ident → Bool
  pub mutexes : ℕ
  pub cells : ℕ

-- the account of items
abbrev pub account : List Item → Account
account items = record {
  weights = λ f. body_weight (body_in items f) (calls_at items most_calls) [];
  starts = creates_in (body_in items (codes "main"));
  nested = λ f. nests items most_calls (calls_in (body_in items f));
  mutexes = length (mutexes_in items);
  cells = cell_count (globals_in items);
}

-- the functions of the threads
abbrev pub threads_named : Account → List Ident
threads_named a = codes "main" ∷ map (λ (s : Started). s.function) a.starts

-- what the threads of these functions weigh in all, each with its End
abbrev pub total_weight : (Ident → Weight) → List Ident → ℕ
total_weight w [] = 0
total_weight w (f ∷ fs) = (w f).size + 1 + total_weight w fs

-- no limit of a woven program is passed
pub record IsWithin (a : Account) : Type 0 where
  pub threads : 1 + length a.starts ≤ 16
  pub nesting : list_any a.nested (threads_named a) ≡ false
  pub instructions : total_weight a.weights (threads_named a) ≤ 8388608
  pub locals : AllByRecursion (λ f. (a.weights f).fresh ≤ 524288) (threads_named a)
  pub mutexes : a.mutexes ≤ 64
  pub cells : a.cells ≤ 65536

-- ---- the code keeps to the account

-- the function of an item has its body and its parameters
as_found : (i : Item) (n : ℕ) (g : Function) → as_function i n ≡ Some g → (g.body ≡ body_of i) × (param_names g.params ≡ params_of i)
as_found (item.Globals gs) n g e = absurd cc
as_found (item.Mutexes ws) n g e = absurd cc
as_found (item.Threads ws) n g e = absurd cc
as_found (item.InputDecl at x) n g e = absurd cc
as_found (item.Function at gives x ps ss) n g e =
    let same : record { params = ps; body = ss; asserts = n } ≡ g = cc in
    (ap (λ (h : Function). h.body) (sym same), ap (λ (h : Function). param_names h.params) (sym same))

-- a function that is found has the body and the parameters of its name
found : (items : List Item) (n : ℕ) (f : Ident) (g : Function) → function_of items (asserts_before items n) f ≡ Some g → (g.body ≡ body_in items f) × (param_names g.params ≡ params_in items f)
found [] n f g e = absurd cc
found (i ∷ is) n f g e = by (is_function f i) e (as_found i n g) (found is (n + asserts_in (body_of i)) f g)
  where
    by : (b : Bool) → (if b then as_function i n else function_of is (asserts_before is (n + asserts_in (body_of i))) f) ≡ Some g
        → (as_function i n ≡ Some g → (g.body ≡ body_of i) × (param_names g.params ≡ params_of i))
        → (function_of is (asserts_before is (n + asserts_in (body_of i))) f ≡ Some g → (g.body ≡ body_in is f) × (param_names g.params ≡ params_in is f))
        → (g.body ≡ (if b then body_of i else body_in is f)) × (param_names g.params ≡ (if b then params_of i else params_in is f))
    by true e h k = h e
    by false e h k = k e

-- the function of an item has the item's body, and none where it is no function
own_body : (i : Item) (n : ℕ) → (the_function (as_function i n)).body ≡ body_of i
own_body (item.Globals gs) n = refl
own_body (item.Mutexes ws) n = refl
own_body (item.Threads ws) n = refl
own_body (item.InputDecl at x) n = refl
own_body (item.Function at gives x ps ss) n = refl

-- the function of a name has the body of the name
the_body : (items : List Item) (n : ℕ) (f : Ident) → (the_function (function_of items (asserts_before items n) f)).body ≡ body_in items f
the_body [] n f = refl
the_body (i ∷ is) n f = by (is_function f i) (own_body i n) (the_body is (n + asserts_in (body_of i)) f)
  where
    by : (b : Bool) → (the_function (as_function i n)).body ≡ body_of i → (the_function (function_of is (asserts_before is (n + asserts_in (body_of i))) f)).body ≡ body_in is f
        → (the_function (if b then as_function i n else function_of is (asserts_before is (n + asserts_in (body_of i))) f)).body ≡ (if b then body_of i else body_in is f)
    by true h k = h
    by false h k = k

-- the names that parameters bind are theirs
bound_names : (ps : List Param) (n : ℕ) → names_of (bound ps n) ≡ param_names ps
bound_names [] n = refl
bound_names (p ∷ ps) n = ap (λ xs. p.name.name ∷ xs) (bound_names ps (n + 1))

-- there are as many names as parameters
length_names : (ps : List Param) → length (param_names ps) ≡ length ps
length_names [] = refl
length_names (p ∷ ps) = ap suc (length_names ps)

-- what a body stands in where calls nest at most so many deep
abbrev at_depth : Side → List Item → ℕ → Option ℕ → Within
at_depth side items d r = record { parts = parts_of side items; items = items; inline = inline_at (parts_of side items) items d; ret = r }

-- called bodies take no more than the calls say
bounds_at : (side : Side) (items : List Item) (d : ℕ) (r : Option ℕ) → Bounds (at_depth side items d r) (calls_at items d)
bounds_at side items zero r f g is n m ret =
    let h = found items 0 f g is in
    (omega arith, omega (arith, length_names g.params, ap (λ (xs : List Ident). length xs) h.1))
bounds_at side items (suc d) r f g is n m ret =
    let h = found items 0 f g is in
    let k : Known = record { names = bound g.params n; next = m; seen = record { asserts = g.asserts; starts = 0 } } in
    let w = at_depth side items d (Some ret) in
    let names : names_of (bound g.params n) ≡ params_in items f = bound_names g.params n ∙ h.1 in
    let a : Weighs k (body_code g.body w k) (body_weight (body_in items f) (calls_at items d) (params_in items f)) =
    subst (λ (xs : List Ident). Weighs k (body_code g.body w k) (body_weight (body_in items f) (calls_at items d) xs)) names
    (subst (λ (ss : List Stmt). Weighs k (body_code g.body w k) (body_weight ss (calls_at items d) (names_of (bound g.params n)))) h.0
    (body_weighed g.body w (calls_at items d) (bounds_at side items d (Some ret)) k)) in
    (a.size, omega (arith, a.next, length_names g.params, ap (λ (xs : List Ident). length xs) h.1))

-- the code of a thread takes no more than its function weighs
thread_weighed : (side : Side) (items : List Item) (f : Ident) → let g = named_function (parts_of side items) items f in
    Weighs (at_entry g.asserts) (thread_code (parts_of side items) items g) ((account items).weights f)
thread_weighed side items f =
    let g = named_function (parts_of side items) items f in
    subst (λ (ss : List Stmt). Weighs (at_entry g.asserts) (thread_code (parts_of side items) items g) (body_weight ss (calls_at items most_calls) [])) (the_body items 0 f)
    (body_weighed g.body (at_depth side items most_calls None) (calls_at items most_calls) (bounds_at side items most_calls None) (at_entry g.asserts))

-- the threads have no more instructions than their functions weigh
sizes_within : (side : Side) (items : List Item) (fs : List Ident) → size_in (parts_of side items) items fs ≤ total_weight (account items).weights fs
sizes_within side items [] = omega arith
sizes_within side items (f ∷ fs) = omega (arith, (thread_weighed side items f).size, sizes_within side items fs)

-- what is at most n is not more than n
not_more : (n m : ℕ) → m ≤ n → nat_lt n m ≡ false
not_more n m h = grind (arith, nat_tests)

-- no thread has more locals than its function takes
few_locals : (side : Side) (items : List Item) (n : ℕ) (fs : List Ident) → AllByRecursion (λ f. ((account items).weights f).fresh ≤ n) fs
    → has_more_locals n (map (thread_of (parts_of side items) items) fs) ≡ false
few_locals side items n [] h = refl
few_locals side items n (f ∷ fs) h =
    let few : nat_lt n (thread_of (parts_of side items) items f).locals ≡ false = not_more n (thread_of (parts_of side items) items f).locals (omega (arith, (thread_weighed side items f).next, h.0)) in
    ap (λ b. b || has_more_locals n (map (thread_of (parts_of side items) items) fs)) few ∙ few_locals side items n fs h.1

-- a limit that is not passed
next : (b : Bool) (x : Limit) {y : Option Limit} → b ≡ false → y ≡ None → (if b then Some x else y) ≡ None
next true x h k = absurd cc
next false x h k = k

-- the tree of such an account passes no limit
pub none_passed : (tree : Tree) → IsWithin (account tree.items) → limit_passed Output tree ≡ None
none_passed tree h =
    let items = tree.items in
    let parts = parts_of Output items in
    let fs = threads_named (account items) in
    next (nat_lt 16 (1 + length parts.starts)) Threads (not_more 16 (1 + length parts.starts) h.threads)
    (next (nests_too_deep items (threads_in parts)) NestedCalls h.nesting
    (next (nat_lt 8388608 (size_in parts items (threads_in parts))) Instructions (not_more 8388608 (size_in parts items fs) (omega (arith, sizes_within Output items fs, h.instructions)))
    (next (has_more_locals 524288 (threads_of parts items)) Locals (few_locals Output items 524288 fs h.locals)
    (next (nat_lt 64 (length parts.mutexes)) Mutexes (not_more 64 (length parts.mutexes) h.mutexes)
    (next (nat_lt 65536 (cell_count (globals_in items))) Cells (not_more 65536 (cell_count (globals_in items)) h.cells) refl)))))

-- ---- without places

-- a bare item is a function of the same name
function_bare : (f : Ident) (i : Item) → is_function f (bare_item i) ≡ is_function f i
function_bare f (item.Globals gs) = refl
function_bare f (item.Mutexes ws) = refl
function_bare f (item.Threads ws) = refl
function_bare f (item.InputDecl at x) = refl
function_bare f (item.Function at gives x ps ss) = refl

-- the body of a bare item is the bare body
own_bare : (i : Item) → body_of (bare_item i) ≡ map bare_stmt (body_of i)
own_bare (item.Globals gs) = refl
own_bare (item.Mutexes ws) = refl
own_bare (item.Threads ws) = refl
own_bare (item.InputDecl at x) = refl
own_bare (item.Function at gives x ps ss) = refl

-- among bare items a function has its bare body
body_in_bare : (items : List Item) (f : Ident) → body_in (map bare_item items) f ≡ map bare_stmt (body_in items f)
body_in_bare [] f = refl
body_in_bare (i ∷ is) f = (λ j. if function_bare f i j then own_bare i j else body_in_bare is f j) ∙ by (is_function f i)
  where
    by : (b : Bool) → (if b then map bare_stmt (body_of i) else map bare_stmt (body_in is f)) ≡ map bare_stmt (if b then body_of i else body_in is f)
    by true = refl
    by false = refl

-- bare parameters have the same names
params_bare : (ps : List Param) → param_names (map bare_param ps) ≡ param_names ps
params_bare [] = refl
params_bare (p ∷ ps) = ap (λ xs. p.name.name ∷ xs) (params_bare ps)

-- a bare item has the same parameters
own_params : (i : Item) → params_of (bare_item i) ≡ params_of i
own_params (item.Globals gs) = refl
own_params (item.Mutexes ws) = refl
own_params (item.Threads ws) = refl
own_params (item.InputDecl at x) = refl
own_params (item.Function at gives x ps ss) = params_bare ps

-- among bare items a function has the same parameters
params_in_bare : (items : List Item) (f : Ident) → params_in (map bare_item items) f ≡ params_in items f
params_in_bare [] f = refl
params_in_bare (i ∷ is) f = λ j. if function_bare f i j then own_params i j else params_in_bare is f j

-- among bare items a function's body weighs the same
weight_bare : (items : List Item) (f : Ident) → body_weight (body_in (map bare_item items) f) ≡ body_weight (body_in items f)
weight_bare items f = ap body_weight (body_in_bare items f) ∙ body_bare (body_in items f)

-- among bare items calls take the same
calls_bare : (items : List Item) (d : ℕ) → calls_at (map bare_item items) d ≡ calls_at items d
calls_bare items zero = λ i f. price 0 (length (params_in_bare items f i) + 1)
calls_bare items (suc d) = λ i f.
    let b = weight_bare items f i (calls_bare items d i) (params_in_bare items f i) in
    price b.size (length (params_in_bare items f i) + 1 + b.fresh)

-- among bare items a function's body mentions the same
mentioned_bare : (items : List Item) (f : Ident) → mentions (body_in (map bare_item items) f) ≡ mentions (body_in items f)
mentioned_bare items f = ap mentions (body_in_bare items f) ∙ mentions_bare (body_in items f)

-- the same names are of functions
known_bare : (items : List Item) (f : Ident) → is_known (map bare_item items) f ≡ is_known items f
known_bare [] f = refl
known_bare (i ∷ is) f = λ j. if function_bare f i j then true else known_bare is f j

-- calls nest as deep among bare items
nests_bare : (items : List Item) (d : ℕ) (fs : List Ident) → nests (map bare_item items) d fs ≡ nests items d fs
nests_bare items zero fs = λ i. list_any (λ f. known_bare items f i) fs
nests_bare items (suc d) fs = λ i. list_any (λ f. (ap (nests (map bare_item items) d) (ap calls (mentioned_bare items f)) ∙ nests_bare items d (calls_in (body_in items f))) i) fs

-- bare words have the same names
words_bare : (ws : List Word) → map (λ (w : Word). w.name) (map bare_word ws) ≡ map (λ (w : Word). w.name) ws
words_bare [] = refl
words_bare (w ∷ ws) = ap (λ xs. w.name ∷ xs) (words_bare ws)

-- a bare item has the same mutexes
own_mutexes : (i : Item) → mutexes_of (bare_item i) ≡ mutexes_of i
own_mutexes (item.Globals gs) = refl
own_mutexes (item.Mutexes ws) = words_bare ws
own_mutexes (item.Threads ws) = refl
own_mutexes (item.InputDecl at x) = refl
own_mutexes (item.Function at gives x ps ss) = refl

-- bare items have the same mutexes
mutexes_bare : (items : List Item) → mutexes_in (map bare_item items) ≡ mutexes_in items
mutexes_bare [] = refl
mutexes_bare (i ∷ is) = λ j. own_mutexes i j ++ mutexes_bare is j

-- the globals of a bare item are bare
own_globals : (i : Item) → globals_of (bare_item i) ≡ map bare_global (globals_of i)
own_globals (item.Globals gs) = refl
own_globals (item.Mutexes ws) = refl
own_globals (item.Threads ws) = refl
own_globals (item.InputDecl at x) = refl
own_globals (item.Function at gives x ps ss) = refl

-- the globals of bare items are bare
globals_bare : (items : List Item) → globals_in (map bare_item items) ≡ map bare_global (globals_in items)
globals_bare [] = refl
globals_bare (i ∷ is) = (λ j. own_globals i j ++ globals_bare is j) ∙ sym (map-append bare_global (globals_of i) (globals_in is))

-- bare globals have as many cells
cells_bare : (gs : List Global) → cell_count (map bare_global gs) ≡ cell_count gs
cells_bare [] = refl
cells_bare (g ∷ gs) = ap (λ n. cells_in g + n) (cells_bare gs)

-- the account does not depend on places
account_bare : (items : List Item) → account (map bare_item items) ≡ account items
account_bare items = λ i. record {
  weights = λ f. weight_bare items f i (calls_bare items most_calls i) [];
  starts = creates (mentioned_bare items (codes "main") i);
  nested = λ f. (ap (nests (map bare_item items) most_calls) (ap calls (mentioned_bare items f)) ∙ nests_bare items most_calls (calls_in (body_in items f))) i;
  mutexes = length (mutexes_bare items i);
  cells = (ap cell_count (globals_bare items) ∙ cells_bare (globals_in items)) i;
}

-- trees that differ in places alone have one account
pub one_account : (t u : Tree) → without_places t ≡ without_places u → account t.items ≡ account u.items
one_account t u e = sym (account_bare t.items) ∙ ap (λ (v : Tree). account v.items) e ∙ account_bare u.items
