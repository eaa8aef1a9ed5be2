-- The woven tree of a source is printable, and has room within the limits of a woven program.
use Rattle.std.proofs.Common.{◌≡◌, ◌∙◌, ℕ, ℤ, zero, suc, pos, negsuc, ◌+◌, ◌-◌, ◌*◌, ◌<◌, ◌≤◌, ◌^◌, Bool, true, false, if◌then◌else◌, ◌||◌, List, [], ◌∷◌, ◌++◌, length, map, inl, inr, arith, refl, sym, subst, ap, Option, Some, None, codes, mul-le-mul}
use Rattle.std.specs.Prelude.{◌≤ℤ◌, IsTrue, slice_get, slice_index_or}
use Rattle.std.specs.List.{AllByRecursion, list_any, range_with_len}
use Rattle.std.proofs.lemmas.Bool.{true≢false, cases_Bool}
use Rattle.std.proofs.lemmas.List.Elements.{All-from_recursion, recursion_from_All}
use Rattle.std.proofs.lemmas.Option.{slice_get_within}
use Rattle.mm_goto.specs.Bounds.{IsBound}
use Rattle.mm_goto.specs.declared.ident.Ident.{Ident}
use Rattle.mm_goto.specs.declared.program.Cell.{Cell}
use Rattle.mm_goto.specs.declared.program.Instr.{Instr}
use Rattle.mm_goto.specs.declared.program.Thread.{Thread}
use Rattle.mm_goto.specs.declared.row.Row.{Row}
use Rattle.mm_goto.specs.declared.shape.Shape.{Shape}
use Rattle.mm_goto.specs.Checks.{value_exprs}
use Rattle.mm_goto.specs.Kinds.{IsInstrTyped}
use Rattle.mm_goto.specs.Listing.{Listing}
use Rattle.mm_goto.specs.Locals.{rows_of}
use Rattle.mm_goto.specs.Names.{IsDeclarable}
use Rattle.mm_goto.specs.Parts.{nodes, numbers}
use Rattle.mm_goto.specs.Shapes.{Fits, flag_at}
use Rattle.mm_goto.specs.Sourcelike.{IsSourceCell, IsSourcelike, exprs_of, target_nodes}
use Rattle.mm_goto.specs.Valid.{IsCellIn, IsInstrIn, IsInt, IsRow, IsThreadIn}
use Rattle.mm_goto.specs.Value.{value_of}
use Rattle.mm_tree.specs.declared.expr.Expr.{Expr}
use Rattle.mm_tree.specs.declared.expr.Node.{roll-Node}
use Rattle.mm_tree.specs.declared.item.Item.{Item}
use Rattle.mm_tree.specs.declared.stmt.Stmt.{Stmt}
use Rattle.mm_words.specs.Words as word
use Rattle.mm_words.specs.Words.{expr_of}
use Rattle.mm_helpers.specs.Helpers.{Sizes, arrays, helpers, nondet_wm, wm_mem}
use Rattle.mm_templates.specs.Homes.{has_moved}
use Rattle.mm_templates.specs.Instructions.{woven_instr}
use Rattle.mm_templates.specs.Names.{handle_name, local_name}
use Rattle.mm_instr.specs.Woven as woven
use Rattle.mm_instr.specs.Woven.{has_address, has_buffers, has_moved_cells, start_value}
use Rattle.mm_print.specs.Printable.{IsPrintableConst, IsPrintableGlobal, IsPrintableInit, IsPrintableItem, IsPrintableName, IsPrintableNumber, OneOrMore}
use Rattle.mm_print.specs.Room.{IsRoomy, IsRoomyTree}
use Rattle.mm_points.proofs.InRange.{all_at}
use Rattle.mm_readable.proofs.Helpers.{AreSmallSizes, arrays_roomy, helpers_roomy}
use Rattle.mm_readable.proofs.Naming.{arg_named, declarable, handle_named, input_named, local_named, main_named, mem_named, thread_named}
use Rattle.mm_readable.proofs.Reading.{BodyReads, all_further, declared, no_body}
use Rattle.mm_readable.proofs.Starts.{IsAbove, IsWithinFew, IsWritable, start_writable}
use Rattle.mm_readable.proofs.Templates.{IsReady, IsUnsigned, instr_reads}

-- ---- lists of items

both : (xs ys : List Item) → AllByRecursion IsRoomy xs → AllByRecursion IsRoomy ys → AllByRecursion IsRoomy (xs ++ ys)
both [] ys h k = k
both (x ∷ xs) ys h k = (h.0, both xs ys h.1 k)

either : (b : Bool) (xs ys : List Item) → AllByRecursion IsRoomy xs → AllByRecursion IsRoomy ys → AllByRecursion IsRoomy (if b then xs else ys)
either true xs ys h k = h
either false xs ys h k = k

-- ---- start values

written : (z : ℤ) → IsWritable z → IsPrintableConst (word.number z)
unfolding expr_of roll-Node denote.Hole.Carrier.roll
written z (inl h) = subst (λ z. IsPrintableConst (word.number z)) (sym h.1) (IsPrintableConst.number (IsPrintableNumber.number h.2))
written z (inr h) = subst (λ z. IsPrintableConst (word.number z)) (sym h.1) (IsPrintableConst.negated h.2)

-- a list of start values that a text has
abbrev AreStarts : List Expr → Type 0
AreStarts = AllByRecursion IsPrintableConst

one_or_more : (e : Expr) (es : List Expr) → IsPrintableConst e → AreStarts es → OneOrMore IsPrintableConst (e ∷ es)
one_or_more e [] h k = OneOrMore.last h
one_or_more e (f ∷ es) h k = OneOrMore.more h (one_or_more f es k.0 k.1)

-- int a[n] = {v, v};
filled_roomy : (x : Ident) (e : Expr) (es : List Expr) → IsPrintableName x → IsPrintableConst e → AreStarts es → length (e ∷ es) < 2 ^ 31 → IsRoomy (woven.filled x (e ∷ es))
filled_roomy x e es name h k small = record { printable = IsPrintableItem.globals (OneOrMore.last (IsPrintableGlobal.set_array name small (one_or_more e es h k))); room = (omega arith, omega arith) }

-- int x = v;
set_roomy : (x : Ident) (e : Expr) → IsPrintableName x → IsPrintableConst e → IsRoomy (word.global x None (e ∷ []))
set_roomy x e name h = record { printable = IsPrintableItem.globals (OneOrMore.last (IsPrintableGlobal.set_variable name (IsPrintableInit.constant h))); room = (omega arith, omega arith) }

-- ---- variables

-- a cell whose name and start value a text has
record IsWrittenCell (cell : Cell) : Type 0 where
  name : IsPrintableName cell.name
  start : IsPrintableConst (start_value cell)

abbrev AreWritten : List Cell → Type 0
AreWritten = AllByRecursion IsWrittenCell

further_starts : (cells : List Cell) → AreWritten cells → AreStarts (map start_value (woven.further cells))
further_starts [] h = tt
further_starts (cell ∷ cells) h = by (woven.is_behind cell.index) (further_starts cells h.1)
  where
    by : (b : Bool) → AreStarts (map start_value (woven.further cells)) → AreStarts (map start_value (if b then cell ∷ woven.further cells else []))
    by true rest = (h.0.start, rest)
    by false rest = tt

further_few : (cells : List Cell) → length (map start_value (woven.further cells)) ≤ length cells
further_few [] = omega arith
further_few (cell ∷ cells) = by (woven.is_behind cell.index) (further_few cells)
  where
    by : (b : Bool) → length (map start_value (woven.further cells)) ≤ length cells → length (map start_value (if b then cell ∷ woven.further cells else [])) ≤ suc (length cells)
    by true h = omega (arith, h)
    by false h = omega arith

declared_roomy : (cell : Cell) (cells : List Cell) (index : Option ℕ) → IsWrittenCell cell → AreWritten cells → length cells < 2 ^ 30 → AllByRecursion IsRoomy (woven.declared cell cells index)
declared_roomy cell cells None h k few = (set_roomy cell.name (start_value cell) h.name h.start, tt)
declared_roomy cell cells (Some zero) h k few =
    (filled_roomy cell.name (start_value cell) (map start_value (woven.further cells)) h.name h.start (further_starts cells k) (let less = further_few cells in omega (arith, less, few)), tt)
declared_roomy cell cells (Some (suc n)) h k few = tt

variables_roomy : (moved : List Bool) (c : ℕ) (cells : List Cell) → AreWritten cells → length cells < 2 ^ 30 → AllByRecursion IsRoomy (woven.variables moved c cells)
variables_roomy moved c [] h few = tt
variables_roomy moved c (cell ∷ cells) h few =
    both (if has_moved moved c then [] else woven.declared cell cells cell.index) (woven.variables moved (c + 1) cells)
    (either (has_moved moved c) [] (woven.declared cell cells cell.index) tt (declared_roomy cell cells cell.index h.0 h.1 (omega (arith, few))))
    (variables_roomy moved (c + 1) cells h.1 (omega (arith, few)))

zero_written : IsPrintableConst (word.num 0)
zero_written = written (pos 0) (inl (0, refl, omega arith))

starts_written : (moved : List Bool) (c : ℕ) (cells : List Cell) → AreWritten cells → AreStarts (woven.start_values moved c cells)
starts_written moved c [] h = tt
starts_written moved c (cell ∷ cells) h = (by (has_moved moved c), starts_written moved (c + 1) cells h.1)
  where
    by : (b : Bool) → IsPrintableConst (if b then start_value cell else word.num 0)
    by true = h.0.start
    by false = zero_written

starts_many : (moved : List Bool) (c : ℕ) (cells : List Cell) → length (woven.start_values moved c cells) ≡ length cells
starts_many moved c [] = refl
starts_many moved c (cell ∷ cells) = ap suc (starts_many moved (c + 1) cells)

-- the shared array, over one cell or more
memory_roomy : (moved : List Bool) (cells : List Cell) → 1 ≤ length cells → length cells < 2 ^ 30 → AreWritten cells → IsRoomy (woven.filled wm_mem (woven.start_values moved 0 cells))
memory_roomy moved [] some few h = absurd (omega (arith, some))
memory_roomy moved (cell ∷ cells) some few h =
    let all = starts_written moved 0 (cell ∷ cells) h in
    filled_roomy wm_mem _ (woven.start_values moved 1 cells) mem_named all.0 all.1 (let many = starts_many moved 1 cells in omega (arith, many, few))

-- ---- mutexes and threads' variables

mutex_items : (mutexes : List Ident) → AllByRecursion IsDeclarable mutexes → AllByRecursion IsRoomy (map word.mutex mutexes)
mutex_items [] h = tt
mutex_items (m ∷ mutexes) h = (record { printable = IsPrintableItem.mutexes (OneOrMore.last (declarable m h.0)); room = tt }, mutex_items mutexes h.1)

handle_items : (us : List ℕ) → AllByRecursion IsRoomy (map (λ u. word.thread_variable (handle_name u)) us)
handle_items [] = tt
handle_items (u ∷ us) = (record { printable = IsPrintableItem.threads (OneOrMore.last (handle_named u)); room = tt }, handle_items us)

-- ---- the program

local_items : (us : List ℕ) (rest : List Stmt) → BodyReads 420 rest → BodyReads 420 (map (λ l. word.declare (local_name l)) us ++ rest)
local_items [] rest r = r
local_items (u ∷ us) rest r = declared (local_name u) (local_named u) (local_items us rest r)

-- a flag that is up, where some row has one
some_up : (flags : List Bool) → list_any (λ b. b) flags ≡ true → (k : ℕ) × IsTrue (slice_index_or flags k false)
some_up [] h = absurd (true≢false (sym h))
some_up (true ∷ flags) h = (0, refl)
some_up (false ∷ flags) h = let r = some_up flags h in (suc r.0, r.1)

some_row_up : (rows : List (List Bool)) → list_any (list_any (λ b. b)) rows ≡ true → (t k : ℕ) × IsTrue (flag_at rows t k)
some_row_up [] h = absurd (true≢false (sym h))
some_row_up (row ∷ rows) h = elim (cases_Bool (list_any (λ b. b) row)) [
  | inl up ↦ (let k = some_up row up in (0, k.0, k.1))
  | inr down ↦ (let r = some_row_up rows (sym (ap (λ b. b || list_any (list_any (λ b. b)) rows) down) ∙ h) in (suc r.0, r.1, r.2))
]

up_within : (flags : List Bool) (k : ℕ) → IsTrue (slice_index_or flags k false) → 1 ≤ length flags
up_within [] k h = absurd (true≢false (sym h))
up_within (b ∷ flags) k h = omega arith

module _ (p : Listing) (shape : Shape) (source : IsSourcelike p) (few : length p.cells ≤ 256) (bound : IsBound shape.bound) (fits : Fits p shape) where
  names : AllByRecursion (λ cell. IsDeclarable cell.name) p.cells
  names = recursion_from_All _ p.cells source.cell_names

  mutexes : AllByRecursion IsDeclarable p.mutexes
  mutexes = recursion_from_All _ p.mutexes source.mutex_names

  rows_few : (rows : List Row) → AllByRecursion (IsRow p.cells) rows → AllByRecursion IsWithinFew rows
  rows_few [] h = tt
  rows_few (row ∷ rows) h = ((let within = h.0.within in omega (arith, within, few)), rows_few rows h.1)

  above : (zs : List ℤ) → AllByRecursion IsInt zs → AllByRecursion (λ z. negsuc 2147483646 ≤ℤ z) zs → AllByRecursion IsAbove zs
  above [] h k = tt
  above (z ∷ zs) h k = ((h.0, k.0), above zs h.1 k.1)

  cell_written : (cell : Cell) → IsDeclarable cell.name → IsCellIn p.cells cell → IsSourceCell p cell → IsWrittenCell cell
  cell_written cell name is of = record {
    name = declarable cell.name name;
    start = written (value_of cell.init []) (start_writable cell.init is.kind (above (numbers cell.init) (recursion_from_All IsInt (numbers cell.init) is.ints) (recursion_from_All _ (numbers cell.init) of.numbers)) (rows_few (rows_of cell.init) (recursion_from_All (IsRow p.cells) (rows_of cell.init) is.rows)));
  }

  cells_written : (cells : List Cell) → AllByRecursion (λ cell. IsDeclarable cell.name) cells → AllByRecursion (IsCellIn p.cells) cells → AllByRecursion (IsSourceCell p) cells → AreWritten cells
  cells_written [] h k l = tt
  cells_written (cell ∷ cells) h k l = (cell_written cell h.0 k.0 l.0, cells_written cells h.1 k.1 l.1)

  all_written : AreWritten p.cells
  all_written = cells_written p.cells names (recursion_from_All _ p.cells source.valid.each_cell) (recursion_from_All _ p.cells source.cells)

  -- ---- code

  ready : (t k : ℕ) (thread : Thread) (it : Instr) (runs : slice_get p.threads t ≡ Some thread) → slice_get thread.code k ≡ Some it → IsReady p few names shape thread (source.typed t thread runs).0 it
  ready t k thread it runs stands =
      let of = source.each t k thread it runs stands in
      record {
        is = all_at (IsInstrIn p thread) thread.code (all_at (IsThreadIn p) p.threads source.valid.each_thread t thread runs).instructions k it stands;
        typed = all_at (IsInstrTyped p (source.typed t thread runs).0) thread.code (source.typed t thread runs).1 k it stands;
        unsigned = recursion_from_All IsUnsigned (exprs_of it) of.numbers;
        size = of.size.0;
        sizes = recursion_from_All (λ e. target_nodes it + nodes e ≤ 410) (value_exprs it) of.size.1;
      }

  module _ (buffers addresses : Bool) (t : ℕ) (thread : Thread) (runs : slice_get p.threads t ≡ Some thread) where
    low : t < length p.threads
    low = slice_get_within p.threads t thread runs

    code_reads : (k : ℕ) (code : List Instr) → ((j : ℕ) (it : Instr) → slice_get code j ≡ Some it → slice_get thread.code (k + j) ≡ Some it) → BodyReads 420 (woven.woven_code p shape buffers addresses t k code)
    code_reads k [] at = no_body 420
    code_reads k (it ∷ code) at =
        let here : slice_get thread.code k ≡ Some it = subst (λ n. slice_get thread.code n ≡ Some it) (let e : k + 0 ≡ k = omega arith in e) (at 0 it refl) in
        let rest = code_reads (k + 1) code (λ j i is. subst (λ n. slice_get thread.code n ≡ Some i) (let e : k + suc j ≡ k + 1 + j = omega arith in e) (at (suc j) i is)) in
        all_further 420 1902 (woven_instr p shape buffers addresses t k it) (woven.woven_code p shape buffers addresses t (k + 1) code) (omega arith)
        (instr_reads p few names shape mutexes thread (source.typed t thread runs).0 source.limits.threads t k low buffers addresses it (ready t k thread it runs here)) rest

    body_reads : BodyReads 420 (woven.woven_body p shape buffers addresses t thread)
    body_reads = local_items (range_with_len 0 thread.locals) (woven.woven_code p shape buffers addresses t 0 thread.code) (code_reads 0 thread.code (λ j it is. subst (λ n. slice_get thread.code n ≡ Some it) (let e : j ≡ 0 + j = omega arith in e) is))

  thread_roomy : (buffers addresses : Bool) (t : ℕ) (thread : Thread) → slice_get p.threads t ≡ Some thread → IsRoomy (woven.thread_item p shape buffers addresses t thread)
  unfolding woven.thread_item
  thread_roomy buffers addresses t thread runs =
      let body = body_reads buffers addresses t thread runs in
      record { printable = IsPrintableItem.thread_function (thread_named t) arg_named body.printable; room = body.room 511 (omega arith) }

  threads_roomy : (buffers addresses : Bool) (t : ℕ) (threads : List Thread) → ((u : ℕ) (thread : Thread) → slice_get threads u ≡ Some thread → slice_get p.threads (t + u) ≡ Some thread)
      → AllByRecursion IsRoomy (woven.thread_items p shape buffers addresses t threads)
  threads_roomy buffers addresses t [] at = tt
  threads_roomy buffers addresses t (thread ∷ threads) at = (
    thread_roomy buffers addresses t thread (subst (λ n. slice_get p.threads n ≡ Some thread) (let e : t + 0 ≡ t = omega arith in e) (at 0 thread refl)),
    threads_roomy buffers addresses (t + 1) threads (λ u other is. subst (λ n. slice_get p.threads n ≡ Some other) (let e : t + suc u ≡ t + 1 + u = omega arith in e) (at (suc u) other is)),
  )

  functions_roomy : (buffers addresses : Bool) (threads : List Thread) → ((u : ℕ) (thread : Thread) → slice_get threads u ≡ Some thread → slice_get p.threads u ≡ Some thread)
      → AllByRecursion IsRoomy (woven.functions p shape buffers addresses threads)
  functions_roomy buffers addresses [] at = tt
  functions_roomy buffers addresses (main ∷ others) at =
      let body = body_reads buffers addresses 0 main (at 0 main refl) in
      both (woven.thread_items p shape buffers addresses 1 others) (word.int (codes "main") [] (woven.woven_body p shape buffers addresses 0 main) ∷ [])
      (threads_roomy buffers addresses 1 others (λ u thread is. subst (λ n. slice_get p.threads n ≡ Some thread) (let e : suc u ≡ 1 + u = omega arith in e) (at (suc u) thread is)))
      (record { printable = IsPrintableItem.bare_function main_named body.printable; room = body.room 511 (omega arith) }, tt)

  -- ---- the items

  abbrev sizes : Sizes
  sizes = woven.sizes p shape

  sizes_small : AreSmallSizes sizes
  sizes_small =
      let threads = source.limits.threads in
      let k = bound.1 in
      let rows : length p.threads * length p.cells ≤ 16 * 256 = mul-le-mul threads few in
      let tso : length p.threads * shape.bound ≤ 16 * 8 = mul-le-mul threads k in
      let pso : length p.threads * length p.cells * shape.bound ≤ 16 * 256 * 8 = mul-le-mul rows k in
      record {
        bound = (let small : shape.bound < 2 ^ 31 = omega (arith, k) in small);
        threads = (let small : length p.threads < 2 ^ 31 = omega (arith, threads) in small);
        cells = (let small : length p.cells < 2 ^ 31 = omega (arith, few) in small);
        rows = (let small : length p.threads * length p.cells < 2 ^ 31 = omega (arith, rows) in small);
        tso = (let small : length p.threads * shape.bound < 2 ^ 31 = omega (arith, tso) in small);
        pso = (let small : length p.threads * length p.cells * shape.bound < 2 ^ 31 = omega (arith, pso) in small);
      }

  -- there is a cell where a store is buffered or a cell has moved
  some_cell : (has_moved_cells shape || has_buffers shape) ≡ true → 1 ≤ length p.cells
  some_cell h = elim (cases_Bool (has_moved_cells shape)) [
    | inl up ↦ (let k = some_up shape.moved up in let size = fits.moved_flags in let within = up_within shape.moved k.0 k.1 in omega (arith, size, within))
    | inr down ↦ (let at = some_row_up shape.buffered (sym (ap (λ b. b || has_buffers shape) down) ∙ h) in (fits.stores at.0 at.1 at.2).1)
  ]

  memory_items : AllByRecursion IsRoomy (woven.memory p shape)
  memory_items = by (has_moved_cells shape || has_buffers shape) refl
    where
      by : (b : Bool) → (has_moved_cells shape || has_buffers shape) ≡ b → AllByRecursion IsRoomy (if b then woven.filled wm_mem (woven.start_values shape.moved 0 p.cells) ∷ [] else [])
      by true up = (memory_roomy shape.moved p.cells (some_cell up) (omega (arith, few)) all_written, tt)
      by false down = tt

  items_roomy : AllByRecursion IsRoomy (woven.woven_items p shape)
  items_roomy =
      let buffers = has_buffers shape in
      let addresses = has_address p in
      let variables = woven.variables shape.moved 0 p.cells in
      let memory = woven.memory p shape in
      let rows : List Item = if buffers then arrays shape.model sizes else [] in
      let locks : List Item = map word.mutex p.mutexes in
      let handles : List Item = map (λ u. word.thread_variable (handle_name u)) (range_with_len 1 (length p.threads - 1)) in
      let functions : List Item = if buffers then helpers shape.model sizes else [] in
      let bodies = woven.functions p shape buffers addresses p.threads in
      let first : List Item = word.input nondet_wm ∷ variables in
      both (first ++ memory ++ rows ++ locks ++ handles ++ functions) bodies
      (both (first ++ memory ++ rows ++ locks ++ handles) functions
      (both (first ++ memory ++ rows ++ locks) handles
      (both (first ++ memory ++ rows) locks
      (both (first ++ memory) rows
      (both first memory (record { printable = IsPrintableItem.input input_named; room = tt }, variables_roomy shape.moved 0 p.cells all_written (omega (arith, few))) memory_items)
      (either buffers (arrays shape.model sizes) [] (arrays_roomy shape.model sizes sizes_small) tt))
      (mutex_items p.mutexes mutexes))
      (handle_items (range_with_len 1 (length p.threads - 1))))
      (either buffers (helpers shape.model sizes) [] (helpers_roomy shape.model sizes sizes_small) tt))
      (functions_roomy buffers addresses p.threads (λ u thread is. is))

pub woven_roomy : (p : Listing) (shape : Shape) → IsSourcelike p → length p.cells ≤ 256 → IsBound shape.bound → Fits p shape → IsRoomyTree (woven.woven p shape)
unfolding woven.woven
woven_roomy p shape source few bound fits = All-from_recursion IsRoomy (woven.woven_items p shape) (items_roomy p shape source few bound fits)
