-- The template of each instruction of a source has room.
use Rattle.std.proofs.Common.{◌≡◌, ℕ, ℤ, zero, suc, pos, ◌+◌, ◌*◌, ◌<◌, ◌≤◌, ◌^◌, Bool, true, false, ◌&&◌, ◌||◌, not, if◌then◌else◌, List, [], ◌∷◌, ◌++◌, length, arith, refl, subst, ap, codes}
use Rattle.std.specs.Prelude.{All, sum_by}
use Rattle.std.specs.Fmt.{decimal}
use Rattle.std.specs.List.{AllByRecursion}
use Rattle.std.proofs.lemmas.Bool.Decides.{nat_tests}
use Rattle.std.proofs.lemmas.List.{length-append}
use Rattle.std.proofs.lemmas.List.Elements.{recursion_from_All}
use Rattle.std.proofs.lemmas.Fmt.{length-decimal-le}
use Rattle.mm_goto.specs.declared.ident.Ident.{Ident}
use Rattle.mm_goto.specs.declared.model.Model.{Model}
use Rattle.mm_goto.specs.declared.model.Model.TheVariants.{Tso, Pso}
use Rattle.mm_goto.specs.declared.program.Cell.{Cell}
use Rattle.mm_goto.specs.declared.program.Instr.{Instr}
use Rattle.mm_goto.specs.declared.program.Instr.TheVariants as i
use Rattle.mm_goto.specs.declared.program.Target.{Target}
use Rattle.mm_goto.specs.declared.program.Target.TheVariants as target
use Rattle.mm_goto.specs.declared.program.Thread.{Thread}
use Rattle.mm_goto.specs.declared.pure.Binary.TheVariants as binary
use Rattle.mm_goto.specs.declared.pure.Unary.TheVariants as unary
use Rattle.mm_goto.specs.declared.pure.Pure.{Pure}
use Rattle.mm_goto.specs.declared.row.Row.{Row}
use Rattle.mm_goto.specs.declared.shape.Shape.{Shape}
use Rattle.mm_goto.specs.Checks.{target_exprs, value_exprs}
use Rattle.mm_goto.specs.Kinds.{IsInstrTyped, IsOf, IsTargetOf, is_typed, kinds_of}
use Rattle.mm_goto.specs.Listing.{Listing}
use Rattle.mm_goto.specs.Locals.{rows_of}
use Rattle.mm_goto.specs.Names.{IsDeclarable}
use Rattle.mm_goto.specs.Parts.{nodes, numbers}
use Rattle.mm_goto.specs.Shapes.{flag_at}
use Rattle.mm_goto.specs.Sourcelike.{exprs_of, target_nodes}
use Rattle.mm_goto.specs.Valid.{IsInstrIn, IsInt, IsPureIn, IsRow, IsTargetIn}
use Rattle.mm_lexer.specs.Class.{is_text_char}
use Rattle.mm_tree.specs.declared.expr.Expr.{Expr}
use Rattle.mm_tree.specs.declared.stmt.Stmt.{Stmt}
use Rattle.mm_words.specs.Words as word
use Rattle.mm_helpers.specs.Helpers.{wm_empty, wm_flush, wm_get, wm_mem, wm_put, wm_set, nondet_wm}
use Rattle.mm_templates.specs.Expressions.{cell_number, printed}
use Rattle.mm_templates.specs.Homes as home
use Rattle.mm_templates.specs.Instructions as template
use Rattle.mm_templates.specs.Names.{handle_name, label_name, local_name, thread_name}
use Rattle.mm_print.specs.Printable.{IsPrintableName, IsPrintableText}
use Rattle.mm_readable.proofs.Expressions.{IsNatural, IsNear, expr_printed, left, right, typed_bound}
use Rattle.mm_print.proofs.Says.{digits_all}
use Rattle.mm_readable.proofs.Naming.{declarable, empty_named, flush_named, get_named, handle_named, input_named, label_named, local_named, mem_named, put_named, set_named, thread_named}
use Rattle.mm_readable.proofs.Reading.{ExprReads, StmtReads, assert_reads, assign_call_reads, assign_elem_reads, assign_reads, assume_reads, bare_call, begin_reads, bin_reads, branch_reads, call_reads, call_with, elem_reads, end_reads, fence_reads, further, go_to_reads, join_reads, label_reads, lock_reads, more_arguments, no_body, num_reads, one_argument, return_reads, skip_reads, start_reads, un_reads, unlock_reads, var_reads, when_within, wider, widened}

-- ---- what is put together

-- a statement of a template, before its label
abbrev pub Reads : Stmt → Type 0
Reads = StmtReads 420 1900

append : (xs ys : List Stmt) → AllByRecursion Reads xs → AllByRecursion Reads ys → AllByRecursion Reads (xs ++ ys)
append [] ys h k = k
append (x ∷ xs) ys h k = (h.0, append xs ys h.1 k)

one : {s : Stmt} → Reads s → AllByRecursion Reads (s ∷ [])
one r = (r, tt)

short : {b t : ℕ} {s : Stmt} → b ≤ 420 → t ≤ 1900 → StmtReads b t s → Reads s
short less fewer r = wider 420 1900 less fewer r

section : (ss : List Stmt) → AllByRecursion Reads ss → AllByRecursion Reads (word.section ss)
section ss h = (short (omega arith) (omega arith) begin_reads, append ss (word.atomic_end ∷ []) h (one (short (omega arith) (omega arith) end_reads)))

longer : (ss : List Stmt) → AllByRecursion Reads ss → AllByRecursion (StmtReads 420 1902) ss
longer [] h = tt
longer (s ∷ ss) h = (wider 420 1902 (omega arith) (omega arith) h.0, longer ss h.1)

-- with a label before the first
labelled_reads : (x : Ident) → IsPrintableName x → (ss : List Stmt) → AllByRecursion Reads ss → AllByRecursion (StmtReads 420 1902) (word.labelled x ss)
labelled_reads x name [] h = tt
labelled_reads x name (s ∷ ss) h = (wider 420 1902 (omega arith) (omega arith) (label_reads x s name h.0), longer ss h.1)

-- the text of an assertion
digit_text : (d : ℕ) → d < 10 → is_text_char (48 + d) ≡ true
digit_text d h = grind (arith, nat_tests)

assertion_text : (n : ℕ) → n < 2 ^ 32 → IsPrintableText (word.numbered (codes "assertion ") n)
assertion_text n small = record {
  printable = digits_all is_text_char digit_text n;
  short = omega (arith, length-append (codes "assertion ") (decimal n), length-decimal-le 10 n (omega arith) (omega arith) (omega arith));
}

-- ---- expressions

-- the printed expression takes fewer brackets than it has nodes, and fewer than five tokens for a node
pub record ValueReads (e : Pure) : Type 0 where
  pub t : ℕ
  pub reads : ExprReads (printed e) (nodes e) t
  pub tokens : 2 * t + 4 ≤ 9 * nodes e

natural : (z : ℤ) → IsInt z → ((n : ℕ) × (z ≡ pos n)) → IsNatural z
natural z fits is = (is.0, is.1, (let f : IsInt (pos is.0) = subst IsInt is.1 fits in omega (arith, f)))

naturals : (zs : List ℤ) → AllByRecursion IsInt zs → AllByRecursion (λ z. (n : ℕ) × (z ≡ pos n)) zs → AllByRecursion IsNatural zs
naturals [] h k = tt
naturals (z ∷ zs) h k = (natural z h.0 k.0, naturals zs h.1 k.1)

-- an expression whose numbers have no sign
abbrev pub IsUnsigned : Pure → Type 0
IsUnsigned e = All (λ z. (n : ℕ) × (z ≡ pos n)) (numbers e)

of_typed : (pointers : ℕ → Bool) (e : Pure) (b : Bool) → IsOf pointers e b → is_typed (kinds_of pointers e) ≡ true
of_typed pointers e true h = by (kinds_of pointers e).int (kinds_of pointers e).pointer h
  where
    by : (x y : Bool) → y ≡ true → (x || y) ≡ true
    by true y h = refl
    by false y h = h
of_typed pointers e false h = ap (λ b. b || (kinds_of pointers e).pointer) h

module _ (p : Listing) (few : length p.cells ≤ 256) where
  nears : (rows : List Row) → AllByRecursion (IsRow p.cells) rows → AllByRecursion IsNear rows
  nears [] h = tt
  nears (row ∷ rows) h = ((let within = h.0.within in omega (arith, within, few)), nears rows h.1)

  -- an expression that is typed
  value_reads : (thread : Thread) (pointers : ℕ → Bool) (e : Pure) → IsPureIn p thread e → IsUnsigned e → is_typed (kinds_of pointers e) ≡ true → ValueReads e
  value_reads thread pointers e is unsigned typed =
      let made = expr_printed pointers e
      (naturals (numbers e) (recursion_from_All IsInt (numbers e) is.ints) (recursion_from_All (λ z. (n : ℕ) × (z ≡ pos n)) (numbers e) unsigned))
      (nears (rows_of e) (recursion_from_All (IsRow p.cells) (rows_of e) is.cells)) in
      record {
        t = made.t;
        reads = widened (nodes e) made.t (let b = made.brackets in omega (arith, b)) (omega arith) made.reads;
        tokens = typed_bound (kinds_of pointers e) made.t (nodes e) made.tokens typed;
      }

-- ---- targets

if_reads : {b t : ℕ} {e f : Expr} (c : Bool) → ExprReads e b t → ExprReads f b t → ExprReads (if c then e else f) b t
if_reads true r s = r
if_reads false r s = s

if_stmt : {b t : ℕ} {r s : Stmt} (c : Bool) → StmtReads b t r → StmtReads b t s → StmtReads b t (if c then r else s)
if_stmt true h k = h
if_stmt false h k = k

if_all : (c : Bool) (xs ys : List Stmt) → AllByRecursion Reads xs → AllByRecursion Reads ys → AllByRecursion Reads (if c then xs else ys)
if_all true xs ys h k = h
if_all false xs ys h k = k

-- how many nodes the target's expression has
abbrev target_size : Target → ℕ
target_size (target.Cell c) = 0
target_size (target.Elem first len index) = nodes index
target_size (target.Deref e) = nodes e

size_is : (a : Target) → sum_by nodes (target_exprs a ++ []) ≡ target_size a
size_is (target.Cell c) = refl
size_is (target.Elem first len index) = omega arith
size_is (target.Deref e) = omega arith

named_at : (cells : List Cell) → AllByRecursion (λ cell. IsDeclarable cell.name) cells → (c : ℕ) → c < length cells → IsPrintableName (home.cell_name cells c)
named_at [] h c within = absurd (omega (arith, within))
named_at (cell ∷ cells) h zero within = declarable cell.name h.0
named_at (cell ∷ cells) h (suc c) within = named_at cells h.1 c (omega (arith, within))

mutex_named : (mutexes : List Ident) → AllByRecursion IsDeclarable mutexes → (m : ℕ) → m < length mutexes → IsPrintableName (template.mutex_name mutexes m)
mutex_named [] h m within = absurd (omega (arith, within))
mutex_named (x ∷ mutexes) h zero within = declarable x h.0
mutex_named (x ∷ mutexes) h (suc m) within = mutex_named mutexes h.1 m (omega (arith, within))

module _ (p : Listing) (few : length p.cells ≤ 256) (names : AllByRecursion (λ cell. IsDeclarable cell.name) p.cells) (shape : Shape) where
  -- how much room a target takes, by its number, read and written
  record TargetReads (a : Target) (n : ℕ) : Type 0 where
    nt : ℕ
    number : ExprReads (cell_number a) (n + 1) nt
    number_tokens : 2 * nt ≤ 9 * n + 8
    rt : ℕ
    read : ExprReads (home.read p.cells shape.moved a) (n + 2) rt
    read_tokens : 2 * rt ≤ 9 * n + 14
    write : (c u : ℕ) (e : Expr) → ExprReads e c u → StmtReads (n + 2 + c) (4 + (nt + u)) (home.write p.cells shape.moved a e)

  -- what lives in the shared array, and what it is called else
  target_made : (a : Target) (n nt : ℕ) → ExprReads (cell_number a) (n + 1) nt → 2 * nt ≤ 9 * n + 8 → ExprReads (home.read_by_name p.cells a) (n + 2) (3 + nt)
      → ((c u : ℕ) (e : Expr) → ExprReads e c u → StmtReads (n + 2 + c) (4 + (nt + u)) (home.write_by_name p.cells a e)) → TargetReads a n
  target_made a n nt number tokens read write = record {
    nt = nt;
    number = number;
    number_tokens = tokens;
    rt = 3 + nt;
    read = if_reads (home.is_moved shape.moved a) (widened (n + 2) (3 + nt) (omega arith) (omega arith) (elem_reads wm_mem (cell_number a) mem_named number)) read;
    read_tokens = omega (arith, tokens);
    write = λ c u e r. if_stmt (home.is_moved shape.moved a) (wider (n + 2 + c) (4 + (nt + u)) (omega arith) (omega arith) (assign_elem_reads wm_mem (cell_number a) e mem_named number r)) (write c u e r);
  }

  target_reads : (thread : Thread) (pointers : ℕ → Bool) (b : Bool) (a : Target) → IsTargetIn p thread a → IsTargetOf p pointers a b → AllByRecursion IsUnsigned (target_exprs a) → TargetReads a (target_size a)
  target_reads thread pointers b (target.Cell c) is typed unsigned =
      target_made (target.Cell c) 0 1 (widened 1 1 (omega arith) (omega arith) (num_reads c (omega (arith, is, few)))) (omega arith)
      (widened 2 4 (omega arith) (omega arith) (var_reads (home.cell_name p.cells c) (named_at p.cells names c is)))
      (λ d u e r. wider (0 + 2 + d) (4 + (1 + u)) (omega arith) (omega arith) (assign_reads (home.cell_name p.cells c) e (named_at p.cells names c is) r))
  target_reads thread pointers b (target.Elem first len index) is typed unsigned =
      let v = value_reads p few thread pointers index is.1 unsigned.0 (of_typed pointers index false typed.1) in
      let some = is.0.some in
      let row = is.0.within in
      let within : first < length p.cells = omega (arith, some, row) in
      target_made (target.Elem first len index) (nodes index) (5 + (1 + v.t))
      (widened (nodes index + 1) (5 + (1 + v.t)) (omega arith) (omega arith) (bin_reads binary.Add (word.num first) (printed index) (num_reads first (omega (arith, within, few))) v.reads))
      (let k = v.tokens in omega (arith, k))
      (widened (nodes index + 2) (3 + (5 + (1 + v.t))) (omega arith) (omega arith) (elem_reads (home.cell_name p.cells first) (printed index) (named_at p.cells names first within) v.reads))
      (λ d u e r. wider (nodes index + 2 + d) (4 + (5 + (1 + v.t) + u)) (omega arith) (omega arith) (assign_elem_reads (home.cell_name p.cells first) (printed index) e (named_at p.cells names first within) v.reads r))
  target_reads thread pointers b (target.Deref x) is typed unsigned =
      let v = value_reads p few thread pointers x is unsigned.0 (of_typed pointers x true typed.1) in
      let number : ExprReads (cell_number (target.Deref x)) (nodes x + 1) (5 + (v.t + 1)) = widened (nodes x + 1) (5 + (v.t + 1)) (omega arith) (omega arith) (bin_reads binary.Sub (printed x) (word.num 1) v.reads (num_reads 1 (omega arith))) in
      target_made (target.Deref x) (nodes x) (5 + (v.t + 1)) number (let k = v.tokens in omega (arith, k))
      (widened (nodes x + 2) (3 + (5 + (v.t + 1))) (omega arith) (omega arith) (elem_reads wm_mem (cell_number (target.Deref x)) mem_named number))
      (λ d u e r. wider (nodes x + 2 + d) (4 + (5 + (v.t + 1) + u)) (omega arith) (omega arith) (assign_elem_reads wm_mem (cell_number (target.Deref x)) e mem_named number r))

  -- ---- instructions

  -- what an instruction of a source has
  pub record IsReady (thread : Thread) (pointers : ℕ → Bool) (it : Instr) : Type 0 where
    pub is : IsInstrIn p thread it
    pub typed : IsInstrTyped p pointers it
    pub unsigned : AllByRecursion IsUnsigned (exprs_of it)
    pub size : target_nodes it ≤ 410
    pub sizes : AllByRecursion (λ e. target_nodes it + nodes e ≤ 410) (value_exprs it)

  module _ (thread : Thread) (pointers : ℕ → Bool) where
    abbrev Value : Pure → Type 0
    Value e = IsPureIn p thread e × IsUnsigned e × (is_typed (kinds_of pointers e) ≡ true)

    value : (e : Pure) → Value e → ValueReads e
    value e h = value_reads p few thread pointers e h.0 h.1 h.2

    -- r = e;
    set_reads : (l : ℕ) (e : Pure) → Value e → nodes e ≤ 410 → Reads (word.assign (local_name l) (printed e))
    set_reads l e h small =
        let v = value e h in
        short (omega (arith, small)) (let k = v.tokens in omega (arith, k, small)) (assign_reads (local_name l) (printed e) (local_named l) v.reads)

    module _ (a : Target) (r : TargetReads a (target_size a)) (few_nodes : target_size a ≤ 410) where
      -- r = A;
      load_reads : (l : ℕ) → Reads (word.assign (local_name l) (home.read p.cells shape.moved a))
      load_reads l = short (omega (arith, few_nodes)) (let k = r.read_tokens in omega (arith, k, few_nodes)) (assign_reads (local_name l) (home.read p.cells shape.moved a) (local_named l) r.read)

      -- A = e;
      write_reads : (e : Pure) → Value e → target_size a + nodes e ≤ 410 → Reads (home.write p.cells shape.moved a (printed e))
      write_reads e h small =
          let v = value e h in
          short (omega (arith, small)) (let k = v.tokens in let n = r.number_tokens in omega (arith, k, n, small)) (r.write (nodes e) v.t (printed e) v.reads)

      -- r = A; A = r + e;
      added_reads : (l : ℕ) (e : Pure) → Value e → target_size a + nodes e ≤ 410
          → AllByRecursion Reads (word.assign (local_name l) (home.read p.cells shape.moved a) ∷ home.write p.cells shape.moved a (word.plus (word.var (local_name l)) (printed e)) ∷ [])
      added_reads l e h small =
          let v = value e h in
          let sum = bin_reads binary.Add (word.var (local_name l)) (printed e) (var_reads (local_name l) (local_named l)) v.reads in
          (load_reads l, one (short (omega (arith, small)) (let k = v.tokens in let n = r.number_tokens in omega (arith, k, n, small)) (r.write (1 + (0 + nodes e)) (5 + (1 + v.t)) (word.plus (word.var (local_name l)) (printed e)) sum)))

      -- r == e
      compared : (l : ℕ) (e : Pure) (v : ValueReads e) → ExprReads (word.equal (word.var (local_name l)) (printed e)) (1 + (0 + nodes e)) (5 + (1 + v.t))
      compared l e v = bin_reads binary.Eq (word.var (local_name l)) (printed e) (var_reads (local_name l) (local_named l)) v.reads

      swapped_reads : (l : ℕ) (e f : Pure) → Value e → Value f → target_size a + nodes e ≤ 410 → target_size a + nodes f ≤ 410
          → AllByRecursion Reads (word.assign (local_name l) (home.read p.cells shape.moved a)
          ∷ word.when (word.equal (word.var (local_name l)) (printed e)) (home.write p.cells shape.moved a (printed f) ∷ [])
          ∷ word.assign (local_name l) (word.equal (word.var (local_name l)) (printed e)) ∷ [])
      swapped_reads l e f h g small less =
          let v = value e h in
          let w = value f g in
          let k = v.tokens in
          let j = w.tokens in
          let n = r.number_tokens in
          let inner = further (r.write (nodes f) w.t (printed f) w.reads) (omega (arith, j, n, less)) (no_body (target_size a + 2 + nodes f)) in (
            load_reads l,
            (
              short (omega arith) (omega (arith, k, small)) (when_within 420 (word.equal (word.var (local_name l)) (printed e)) (omega (arith, small)) (omega (arith, less)) (compared l e v) inner),
              one (short (omega (arith, small)) (omega (arith, k, small)) (assign_reads (local_name l) (word.equal (word.var (local_name l)) (printed e)) (local_named l) (compared l e v))),
            ),
          )

      -- wm_put(t, n, e); and wm_set(t, n, e);
      put_reads : (f : Ident) → IsPrintableName f → (t : ℕ) → t ≤ 16 → (e : Pure) → Value e → target_size a + nodes e ≤ 410 → Reads (word.call f (word.num t ∷ cell_number a ∷ printed e ∷ []))
      put_reads f name t less e h small =
          let v = value e h in
          short (omega (arith, small)) (let k = v.tokens in let n = r.number_tokens in omega (arith, k, n, small))
          (call_reads f (call_with f name (more_arguments (num_reads t (omega (arith, less))) (more_arguments r.number (one_argument v.reads)))))

      -- r = wm_get(t, n);
      got_reads : (l t : ℕ) → t ≤ 16 → Reads (word.assign_call (local_name l) wm_get (word.num t ∷ cell_number a ∷ []))
      got_reads l t less =
          short (omega (arith, few_nodes)) (let n = r.number_tokens in omega (arith, n, few_nodes))
          (assign_call_reads (local_name l) wm_get (local_named l) (call_with wm_get get_named (more_arguments (num_reads t (omega (arith, less))) (one_argument r.number))))

    -- ---- what stands beside an instruction

    flushed_reads : (points : List (List Bool)) (t k : ℕ) → AllByRecursion Reads (template.flushed points t k)
    flushed_reads points t k = if_all (flag_at points t k) (word.call wm_flush [] ∷ []) [] (one (short (omega arith) (omega arith) (call_reads wm_flush (bare_call wm_flush flush_named)))) tt

    emptied_reads : (t : ℕ) → t ≤ 16 → Reads (template.emptied t)
    emptied_reads t less = short (omega arith) (omega arith) (call_reads wm_empty (call_with wm_empty empty_named (one_argument (num_reads t (omega (arith, less))))))

    emptied_before_reads : (m : Model) (t : ℕ) → t ≤ 16 → AllByRecursion Reads (template.emptied_before m t)
    emptied_before_reads Tso t less = one (emptied_reads t less)
    emptied_before_reads Pso t less = tt

    drained_reads : (points : List (List Bool)) (t k : ℕ) (rest : List Stmt) → t ≤ 16 → AllByRecursion Reads rest → AllByRecursion Reads (template.drained points t k rest)
    drained_reads points t k rest less h = section (template.flushed points t k ++ template.emptied t ∷ rest) (append (template.flushed points t k) (template.emptied t ∷ rest) (flushed_reads points t k) (emptied_reads t less, h))

    -- ---- one instruction

    -- its target, and the numbers of nodes
    module _ (a : Target) (b : Bool) (is : IsTargetIn p thread a) (typed : IsTargetOf p pointers a b) (unsigned : AllByRecursion IsUnsigned (target_exprs a)) where
      reached : TargetReads a (target_size a)
      reached = target_reads thread pointers b a is typed unsigned

    -- the target's expressions are among the instruction's
    in_front : (a : Target) (es : List Pure) → AllByRecursion IsUnsigned ((target_exprs a ++ []) ++ es) → AllByRecursion IsUnsigned (target_exprs a)
    in_front a es h = left IsUnsigned (target_exprs a) [] (left IsUnsigned (target_exprs a ++ []) es h)

    behind : (a : Target) (es : List Pure) → AllByRecursion IsUnsigned ((target_exprs a ++ []) ++ es) → AllByRecursion IsUnsigned es
    behind a es h = right IsUnsigned (target_exprs a ++ []) es h

    sized : (a : Target) → sum_by nodes (target_exprs a ++ []) ≤ 410 → target_size a ≤ 410
    sized a h = let e = size_is a in omega (arith, h, e)

    sized_beside : (a : Target) (e : Pure) → sum_by nodes (target_exprs a ++ []) + nodes e ≤ 410 → target_size a + nodes e ≤ 410
    sized_beside a e h = let f = size_is a in omega (arith, h, f)

  module _ (mutexes : AllByRecursion IsDeclarable p.mutexes) (thread : Thread) (pointers : ℕ → Bool) where
    plain_reads : (it : Instr) → IsReady thread pointers it → AllByRecursion Reads (template.plain p shape it)
    plain_reads (i.Set l e) h = one (set_reads thread pointers l e (h.is.1, h.unsigned.0, of_typed pointers e (pointers l) h.typed) (let k = h.sizes.0 in omega (arith, k)))
    plain_reads (i.Load l a) h =
        one (load_reads thread pointers a (reached thread pointers a (pointers l) h.is.1 h.typed (in_front thread pointers a [] h.unsigned)) (sized thread pointers a h.size) l)
    plain_reads (i.Store a e) h =
        one (write_reads thread pointers a (reached thread pointers a h.typed.0 h.is.0 h.typed.1 (in_front thread pointers a (e ∷ []) h.unsigned)) (sized thread pointers a h.size)
        e (h.is.1, (behind thread pointers a (e ∷ []) h.unsigned).0, of_typed pointers e h.typed.0 h.typed.2) (sized_beside thread pointers a e h.sizes.0))
    plain_reads (i.Input l) h = one (short (omega arith) (omega arith) (assign_call_reads (local_name l) nondet_wm (local_named l) (bare_call nondet_wm input_named)))
    plain_reads (i.Jump k) h = one (short (omega arith) (omega arith) (go_to_reads (label_name k) (label_named k)))
    plain_reads (i.Branch e k) h =
        let v = value thread pointers e (h.is.0, h.unsigned.0, h.typed) in
        let n = h.sizes.0 in
        one (short (omega (arith, n)) (let j = v.tokens in omega (arith, j, n)) (branch_reads (word.un unary.Not (printed e)) (label_name k) (un_reads unary.Not (printed e) v.reads) (label_named k)))
    plain_reads (i.Assert e n) h =
        let v = value thread pointers e (h.is.0, h.unsigned.0, h.typed) in
        let m = h.sizes.0 in
        one (short (omega (arith, m)) (let j = v.tokens in omega (arith, j, m)) (assert_reads (printed e) n (assertion_text n h.is.1) v.reads))
    plain_reads (i.Assume e) h =
        let v = value thread pointers e (h.is, h.unsigned.0, h.typed) in
        let m = h.sizes.0 in
        one (short (omega (arith, m)) (let j = v.tokens in omega (arith, j, m)) (assume_reads (printed e) v.reads))
    plain_reads i.Fence h = one (short (omega arith) (omega arith) fence_reads)
    plain_reads (i.Lock m) h = one (short (omega arith) (omega arith) (lock_reads (template.mutex_name p.mutexes m) (mutex_named p.mutexes mutexes m h.is)))
    plain_reads (i.Unlock m) h = one (short (omega arith) (omega arith) (unlock_reads (template.mutex_name p.mutexes m) (mutex_named p.mutexes mutexes m h.is)))
    plain_reads (i.Add l a e) h =
        section (template.added p shape l a e) (added_reads thread pointers a (reached thread pointers a false h.is.1 h.typed.1 (in_front thread pointers a (e ∷ []) h.unsigned)) (sized thread pointers a h.size)
        l e (h.is.2, (behind thread pointers a (e ∷ []) h.unsigned).0, of_typed pointers e false h.typed.2) (sized_beside thread pointers a e h.sizes.0))
    plain_reads (i.Cas l a e f) h =
        let others = behind thread pointers a (e ∷ f ∷ []) h.unsigned in
        section (template.swapped p shape l a e f) (swapped_reads thread pointers a (reached thread pointers a false h.is.1 h.typed.1 (in_front thread pointers a (e ∷ f ∷ []) h.unsigned)) (sized thread pointers a h.size)
        l e f (h.is.2, others.0, of_typed pointers e false h.typed.2) (h.is.3, others.1.0, of_typed pointers f false h.typed.3)
        (sized_beside thread pointers a e h.sizes.0) (sized_beside thread pointers a f h.sizes.1.0))
    plain_reads (i.Start u) h = one (short (omega arith) (omega arith) (start_reads (handle_name u) (thread_name u) (handle_named u) (thread_named u)))
    plain_reads (i.Join u) h = one (short (omega arith) (omega arith) (join_reads (handle_name u) (handle_named u)))
    plain_reads i.AtomBegin h = tt
    plain_reads i.AtomEnd h = tt
    plain_reads i.End h = one (short (omega arith) (omega arith) (return_reads (word.num 0) (num_reads 0 (omega arith))))

    module _ (threads : length p.threads ≤ 16) (t k : ℕ) (low : t < length p.threads) where
      small : t ≤ 16
      small = omega (arith, low, threads)

      loaded_reads : (l : ℕ) (a : Target) → TargetReads a (target_size a) → target_size a ≤ 410 → Reads (template.loaded p shape t l a)
      loaded_reads l a r few_nodes = if_stmt (home.is_moved shape.moved a) (got_reads thread pointers a r few_nodes l t small) (load_reads thread pointers a r few_nodes l)

      stored_reads : (a : Target) (e : Pure) → TargetReads a (target_size a) → target_size a ≤ 410 → Value thread pointers e → target_size a + nodes e ≤ 410
          → AllByRecursion Reads (template.stored p shape t k a e)
      stored_reads a e r few_nodes h size =
          if_all (flag_at shape.buffered t k) (word.call wm_put (word.num t ∷ cell_number a ∷ printed e ∷ []) ∷ []) _ (one (put_reads thread pointers a r few_nodes wm_put put_named t small e h size))
          (if_all (home.is_moved shape.moved a) (word.call wm_set (word.num t ∷ cell_number a ∷ printed e ∷ []) ∷ []) _ (one (put_reads thread pointers a r few_nodes wm_set set_named t small e h size))
          (append (template.emptied_before shape.model t) (home.write p.cells shape.moved a (printed e) ∷ []) (emptied_before_reads thread pointers shape.model t small) (one (write_reads thread pointers a r few_nodes e h size))))

      buffered_reads : (it : Instr) → IsReady thread pointers it → AllByRecursion Reads (template.with_buffers p shape t k it)
      buffered_reads (i.Load l a) h =
          section _ (append (template.flushed shape.points t k) (template.loaded p shape t l a ∷ []) (flushed_reads thread pointers shape.points t k)
          (one (loaded_reads l a (reached thread pointers a (pointers l) h.is.1 h.typed (in_front thread pointers a [] h.unsigned)) (sized thread pointers a h.size))))
      buffered_reads (i.Store a e) h =
          section _ (append (template.flushed shape.points t k) (template.stored p shape t k a e) (flushed_reads thread pointers shape.points t k)
          (stored_reads a e (reached thread pointers a h.typed.0 h.is.0 h.typed.1 (in_front thread pointers a (e ∷ []) h.unsigned)) (sized thread pointers a h.size)
          (h.is.1, (behind thread pointers a (e ∷ []) h.unsigned).0, of_typed pointers e h.typed.0 h.typed.2) (sized_beside thread pointers a e h.sizes.0)))
      buffered_reads (i.Add l a e) h =
          drained_reads thread pointers shape.points t k (template.added p shape l a e) small
          (added_reads thread pointers a (reached thread pointers a false h.is.1 h.typed.1 (in_front thread pointers a (e ∷ []) h.unsigned)) (sized thread pointers a h.size)
          l e (h.is.2, (behind thread pointers a (e ∷ []) h.unsigned).0, of_typed pointers e false h.typed.2) (sized_beside thread pointers a e h.sizes.0))
      buffered_reads (i.Cas l a e f) h =
          let others = behind thread pointers a (e ∷ f ∷ []) h.unsigned in
          drained_reads thread pointers shape.points t k (template.swapped p shape l a e f) small
          (swapped_reads thread pointers a (reached thread pointers a false h.is.1 h.typed.1 (in_front thread pointers a (e ∷ f ∷ []) h.unsigned)) (sized thread pointers a h.size)
          l e f (h.is.2, others.0, of_typed pointers e false h.typed.2) (h.is.3, others.1.0, of_typed pointers f false h.typed.3)
          (sized_beside thread pointers a e h.sizes.0) (sized_beside thread pointers a f h.sizes.1.0))
      buffered_reads i.Fence h = append (template.drained shape.points t k []) (template.plain p shape i.Fence) (drained_reads thread pointers shape.points t k [] small tt) (plain_reads i.Fence h)
      buffered_reads (i.Lock m) h = append (template.drained shape.points t k []) (template.plain p shape (i.Lock m)) (drained_reads thread pointers shape.points t k [] small tt) (plain_reads (i.Lock m) h)
      buffered_reads (i.Unlock m) h = append (template.drained shape.points t k []) (template.plain p shape (i.Unlock m)) (drained_reads thread pointers shape.points t k [] small tt) (plain_reads (i.Unlock m) h)
      buffered_reads (i.Start u) h = append (template.drained shape.points t k []) (template.plain p shape (i.Start u)) (drained_reads thread pointers shape.points t k [] small tt) (plain_reads (i.Start u) h)
      buffered_reads (i.Join u) h =
          append (template.plain p shape (i.Join u)) (template.drained shape.points t k (template.emptied u ∷ [])) (plain_reads (i.Join u) h)
          (drained_reads thread pointers shape.points t k (template.emptied u ∷ []) small (one (emptied_reads thread pointers u (let within = h.is in omega (arith, within, threads)))))
      buffered_reads (i.Set l e) h = plain_reads (i.Set l e) h
      buffered_reads (i.Input l) h = plain_reads (i.Input l) h
      buffered_reads (i.Jump j) h = plain_reads (i.Jump j) h
      buffered_reads (i.Branch e j) h = plain_reads (i.Branch e j) h
      buffered_reads (i.Assert e n) h = plain_reads (i.Assert e n) h
      buffered_reads (i.Assume e) h = plain_reads (i.Assume e) h
      buffered_reads i.AtomBegin h = plain_reads i.AtomBegin h
      buffered_reads i.AtomEnd h = plain_reads i.AtomEnd h
      buffered_reads i.End h = plain_reads i.End h

      -- an instruction with its label
      pub instr_reads : (buffers addresses : Bool) (it : Instr) → IsReady thread pointers it → AllByRecursion (StmtReads 420 1902) (template.woven_instr p shape buffers addresses t k it)
      instr_reads buffers addresses it h =
          labelled_reads (label_name k) (label_named k) _
          (if_all (template.reaches_by_pointer it && not addresses) (word.skip ∷ []) _ (one (skip_reads 420 1900))
          (if_all buffers (template.with_buffers p shape t k it) (template.plain p shape it) (buffered_reads it h) (plain_reads it h)))
