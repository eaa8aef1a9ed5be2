-- The helpers of both models, and the arrays that they work on, have room.
use Rattle.std.proofs.Common.{ℕ, ◌+◌, ◌*◌, ◌<◌, ◌^◌, List, [], arith}
use Rattle.std.specs.List.{AllByRecursion}
use Rattle.mm_goto.specs.declared.ident.Ident.{Ident}
use Rattle.mm_goto.specs.declared.model.Model.{Model}
use Rattle.mm_goto.specs.declared.model.Model.TheVariants.{Tso, Pso}
use Rattle.mm_goto.specs.declared.pure.Binary.TheVariants as binary
use Rattle.mm_tree.specs.declared.expr.Expr.{Expr}
use Rattle.mm_tree.specs.declared.item.Param.{Param}
use Rattle.mm_tree.specs.declared.item.Gives.{Gives}
use Rattle.mm_tree.specs.declared.stmt.Stmt.{Stmt}
use Rattle.mm_words.specs.Words as word
use Rattle.mm_helpers.specs.Helpers as helper
use Rattle.mm_helpers.specs.Helpers.{Sizes, in_row, wm_b, wm_c, wm_cell, wm_empty, wm_flush, wm_get, wm_j, wm_len, wm_mem, wm_n, wm_pop, wm_put, wm_set, wm_t, wm_v, wm_val, nondet_wm}
use Rattle.mm_print.specs.Printable.{IsOrdinary, IsPrintableGlobal, IsPrintableItem, IsPrintableName, IsPrintableParam, OneOrMore}
use Rattle.mm_print.specs.Room.{IsRoomy}
use Rattle.mm_readable.proofs.Naming.{b_named, c_named, cell_named, empty_named, flush_named, get_named, input_named, j_named, len_named, mem_named, n_named, pop_named, put_named, set_named, t_named, v_named, val_named}
use Rattle.mm_readable.proofs.Reading.{ExprReads, StmtReads, BodyReads, assign_call_reads, assign_elem_reads, assign_reads, assume_reads, bare_call, bin_reads, call_reads, call_with, declared, elem_reads, further, no_body, num_reads, one_argument, return_reads, var_reads, when_reads, while_reads, wider, widened}

-- a number of a helper
abbrev IsSmallNumber : ℕ → Type 0
IsSmallNumber n = n < 2 ^ 31

zero_reads : ExprReads (word.num 0) 0 1
zero_reads = num_reads 0 (omega arith)

one_reads : ExprReads (word.num 1) 0 1
one_reads = num_reads 1 (omega arith)

-- wm_len[x]
len_reads : (x : Ident) → IsPrintableName x → ExprReads (word.elem wm_len (word.var x)) 1 4
len_reads x name = elem_reads wm_len (word.var x) len_named (var_reads x name)

-- a place in a row
row_reads : {b t : ℕ} (x : Ident) (k : ℕ) (e : Expr) → IsPrintableName x → IsSmallNumber k → ExprReads e b t → ExprReads (in_row x k e) (2 + b) (12 + t)
row_reads {b = b} {t = t} x k e name small r =
    widened (2 + b) (12 + t) (omega arith) (omega arith) (bin_reads binary.Add (word.times (word.var x) (word.num k)) e (bin_reads binary.Mul (word.var x) (word.num k) (var_reads x name) (num_reads k small)) r)

-- ---- functions and arrays

-- a function with parameters, whose body has room within its bracket
function_roomy : {kind : Gives} {x : Ident} {ps : List Param} {ss : List Stmt} → IsOrdinary kind → IsPrintableName x → OneOrMore IsPrintableParam ps → BodyReads 80 ss → IsRoomy (word.function kind x ps ss)
function_roomy ordinary name params body = record { printable = IsPrintableItem.function ordinary name params body.printable; room = body.room 511 (omega arith) }

-- one without
bare_roomy : {kind : Gives} {x : Ident} {ss : List Stmt} → IsPrintableName x → BodyReads 80 ss → IsRoomy (word.function kind x [] ss)
bare_roomy name body = record { printable = IsPrintableItem.bare_function name body.printable; room = body.room 511 (omega arith) }

array_roomy : (x : Ident) (n : ℕ) → IsPrintableName x → IsSmallNumber n → IsRoomy (word.array x n)
array_roomy x n name small = record { printable = IsPrintableItem.globals (OneOrMore.last (IsPrintableGlobal.array name small)); room = (omega arith, omega arith) }

-- ---- both models

t_read : ExprReads (word.var wm_t) 0 1
t_read = var_reads wm_t t_named

c_read : ExprReads (word.var wm_c) 0 1
c_read = var_reads wm_c c_named

v_read : ExprReads (word.var wm_v) 0 1
v_read = var_reads wm_v v_named

b_read : ExprReads (word.var wm_b) 0 1
b_read = var_reads wm_b b_named

j_read : ExprReads (word.var wm_j) 0 1
j_read = var_reads wm_j j_named

n_read : ExprReads (word.var wm_n) 0 1
n_read = var_reads wm_n n_named

step_reads : (x : Ident) → IsPrintableName x → StmtReads 20 100 (helper.step x)
step_reads x name = wider 20 100 (omega arith) (omega arith) (assign_reads x (word.plus (word.var x) (word.num 1)) name (bin_reads binary.Add (word.var x) (word.num 1) (var_reads x name) one_reads))

shift_reads : (a x : Ident) (k : ℕ) → IsPrintableName a → IsPrintableName x → IsSmallNumber k → StmtReads 20 100 (helper.shift a x k)
shift_reads a x k array name small =
    wider 20 100 (omega arith) (omega arith) (assign_elem_reads a (in_row x k (word.var wm_j)) (word.elem a (word.plus (in_row x k (word.var wm_j)) (word.num 1))) array (row_reads x k (word.var wm_j) name small j_read)
    (elem_reads a (word.plus (in_row x k (word.var wm_j)) (word.num 1)) array (bin_reads binary.Add (in_row x k (word.var wm_j)) (word.num 1) (row_reads x k (word.var wm_j) name small j_read) one_reads)))

flush_roomy : (rows : ℕ) → IsSmallNumber rows → IsRoomy (helper.flush rows)
flush_roomy rows small = bare_roomy flush_named
    (declared _ n_named
    (further (wider 80 100 (omega arith) (omega arith) (assign_call_reads _ _ n_named (bare_call _ input_named))) (omega arith)
    (further (wider 80 100 (omega arith) (omega arith) (while_reads _ (bin_reads binary.Ne _ _ n_read zero_reads)
    (further (wider 20 100 (omega arith) (omega arith) (assume_reads _ (bin_reads binary.Land _ _ (bin_reads binary.Gt _ _ n_read zero_reads) (bin_reads binary.Le _ _ n_read (num_reads rows small))))) (omega arith)
    (further (wider 20 100 (omega arith) (omega arith) (assume_reads _ (bin_reads binary.Gt _ _ (elem_reads _ _ len_named (bin_reads binary.Sub _ _ n_read one_reads)) zero_reads))) (omega arith)
    (further (wider 20 100 (omega arith) (omega arith) (call_reads wm_pop (call_with _ pop_named (one_argument (bin_reads binary.Sub _ _ n_read one_reads))))) (omega arith)
    (further (wider 20 100 (omega arith) (omega arith) (assign_call_reads _ _ n_named (bare_call _ input_named))) (omega arith)
    (no_body 20))))))) (omega arith)
    (no_body 80))))

-- ---- TSO

tso_pop_roomy : (k : ℕ) → IsSmallNumber k → IsRoomy (helper.tso_pop k)
tso_pop_roomy k small = function_roomy IsOrdinary.nothing pop_named (OneOrMore.last t_named)
    (declared _ j_named
    (further (wider 80 100 (omega arith) (omega arith) (assign_elem_reads _ _ _ mem_named (elem_reads _ _ cell_named (bin_reads binary.Mul _ _ t_read (num_reads k small))) (elem_reads _ _ val_named (bin_reads binary.Mul _ _ t_read (num_reads k small))))) (omega arith)
    (further (wider 80 100 (omega arith) (omega arith) (assign_elem_reads _ _ _ len_named t_read (bin_reads binary.Sub _ _ (elem_reads _ _ len_named t_read) one_reads))) (omega arith)
    (further (wider 80 100 (omega arith) (omega arith) (assign_reads _ _ j_named zero_reads)) (omega arith)
    (further (wider 80 100 (omega arith) (omega arith) (while_reads _ (bin_reads binary.Lt _ _ j_read (elem_reads _ _ len_named t_read))
    (further (wider 20 100 (omega arith) (omega arith) (shift_reads wm_cell wm_t k cell_named t_named small)) (omega arith)
    (further (wider 20 100 (omega arith) (omega arith) (shift_reads wm_val wm_t k val_named t_named small)) (omega arith)
    (further (wider 20 100 (omega arith) (omega arith) (step_reads wm_j j_named)) (omega arith)
    (no_body 20)))))) (omega arith)
    (no_body 80))))))

tso_empty_roomy : IsRoomy (helper.tso_empty)
tso_empty_roomy = function_roomy IsOrdinary.nothing empty_named (OneOrMore.last t_named)
    (further (wider 80 100 (omega arith) (omega arith) (assume_reads _ (bin_reads binary.Eq _ _ (elem_reads _ _ len_named t_read) zero_reads))) (omega arith)
    (no_body 80))

tso_put_roomy : (k : ℕ) → IsSmallNumber k → IsRoomy (helper.tso_put k)
tso_put_roomy k small = function_roomy IsOrdinary.nothing put_named (OneOrMore.more t_named (OneOrMore.more c_named (OneOrMore.last v_named)))
    (further (wider 80 100 (omega arith) (omega arith) (assume_reads _ (bin_reads binary.Lt _ _ (elem_reads _ _ len_named t_read) (num_reads k small)))) (omega arith)
    (further (wider 80 100 (omega arith) (omega arith) (assign_elem_reads _ _ _ cell_named (row_reads wm_t k _ t_named small (elem_reads _ _ len_named t_read)) c_read)) (omega arith)
    (further (wider 80 100 (omega arith) (omega arith) (assign_elem_reads _ _ _ val_named (row_reads wm_t k _ t_named small (elem_reads _ _ len_named t_read)) v_read)) (omega arith)
    (further (wider 80 100 (omega arith) (omega arith) (assign_elem_reads _ _ _ len_named t_read (bin_reads binary.Add _ _ (elem_reads _ _ len_named t_read) one_reads))) (omega arith)
    (no_body 80)))))

tso_get_roomy : (k : ℕ) → IsSmallNumber k → IsRoomy (helper.tso_get k)
tso_get_roomy k small = function_roomy IsOrdinary.int get_named (OneOrMore.more t_named (OneOrMore.last c_named))
    (declared _ j_named
    (further (wider 80 100 (omega arith) (omega arith) (assign_reads _ _ j_named (elem_reads _ _ len_named t_read))) (omega arith)
    (further (wider 80 100 (omega arith) (omega arith) (while_reads _ (bin_reads binary.Gt _ _ j_read zero_reads)
    (further (wider 50 100 (omega arith) (omega arith) (assign_reads _ _ j_named (bin_reads binary.Sub _ _ j_read one_reads))) (omega arith)
    (further (wider 50 100 (omega arith) (omega arith) (when_reads _ (bin_reads binary.Eq _ _ (elem_reads _ _ cell_named (row_reads wm_t k _ t_named small j_read)) c_read)
    (further (wider 20 100 (omega arith) (omega arith) (return_reads _ (elem_reads _ _ val_named (row_reads wm_t k _ t_named small j_read)))) (omega arith)
    (no_body 20)))) (omega arith)
    (no_body 50))))) (omega arith)
    (further (wider 80 100 (omega arith) (omega arith) (return_reads _ (elem_reads _ _ mem_named c_read))) (omega arith)
    (no_body 80)))))

tso_set_roomy : IsRoomy (helper.tso_set)
tso_set_roomy = function_roomy IsOrdinary.nothing set_named (OneOrMore.more t_named (OneOrMore.more c_named (OneOrMore.last v_named)))
    (further (wider 80 100 (omega arith) (omega arith) (assume_reads _ (bin_reads binary.Eq _ _ (elem_reads _ _ len_named t_read) zero_reads))) (omega arith)
    (further (wider 80 100 (omega arith) (omega arith) (assign_elem_reads _ _ _ mem_named c_read v_read)) (omega arith)
    (no_body 80)))

-- ---- PSO

pso_pop_roomy : (cells : ℕ) → (k : ℕ) → IsSmallNumber cells → IsSmallNumber k → IsRoomy (helper.pso_pop cells k)
pso_pop_roomy cells k few small = function_roomy IsOrdinary.nothing pop_named (OneOrMore.last b_named)
    (declared _ j_named
    (further (wider 80 100 (omega arith) (omega arith) (assign_elem_reads _ _ _ mem_named (bin_reads binary.Rem _ _ b_read (num_reads cells few)) (elem_reads _ _ val_named (bin_reads binary.Mul _ _ b_read (num_reads k small))))) (omega arith)
    (further (wider 80 100 (omega arith) (omega arith) (assign_elem_reads _ _ _ len_named b_read (bin_reads binary.Sub _ _ (elem_reads _ _ len_named b_read) one_reads))) (omega arith)
    (further (wider 80 100 (omega arith) (omega arith) (assign_reads _ _ j_named zero_reads)) (omega arith)
    (further (wider 80 100 (omega arith) (omega arith) (while_reads _ (bin_reads binary.Lt _ _ j_read (elem_reads _ _ len_named b_read))
    (further (wider 20 100 (omega arith) (omega arith) (shift_reads wm_val wm_b k val_named b_named small)) (omega arith)
    (further (wider 20 100 (omega arith) (omega arith) (step_reads wm_j j_named)) (omega arith)
    (no_body 20))))) (omega arith)
    (no_body 80))))))

pso_empty_roomy : (cells : ℕ) → IsSmallNumber cells → IsRoomy (helper.pso_empty cells)
pso_empty_roomy cells few = function_roomy IsOrdinary.nothing empty_named (OneOrMore.last t_named)
    (declared _ c_named
    (further (wider 80 100 (omega arith) (omega arith) (assign_reads _ _ c_named zero_reads)) (omega arith)
    (further (wider 80 100 (omega arith) (omega arith) (while_reads _ (bin_reads binary.Lt _ _ c_read (num_reads cells few))
    (further (wider 20 100 (omega arith) (omega arith) (assume_reads _ (bin_reads binary.Eq _ _ (elem_reads _ _ len_named (row_reads wm_t cells _ t_named few c_read)) zero_reads))) (omega arith)
    (further (wider 20 100 (omega arith) (omega arith) (step_reads wm_c c_named)) (omega arith)
    (no_body 20))))) (omega arith)
    (no_body 80))))

pso_put_roomy : (cells : ℕ) → (k : ℕ) → IsSmallNumber cells → IsSmallNumber k → IsRoomy (helper.pso_put cells k)
pso_put_roomy cells k few small = function_roomy IsOrdinary.nothing put_named (OneOrMore.more t_named (OneOrMore.more c_named (OneOrMore.last v_named)))
    (declared _ b_named
    (further (wider 80 100 (omega arith) (omega arith) (assign_reads _ _ b_named (row_reads wm_t cells _ t_named few c_read))) (omega arith)
    (further (wider 80 100 (omega arith) (omega arith) (assume_reads _ (bin_reads binary.Lt _ _ (elem_reads _ _ len_named b_read) (num_reads k small)))) (omega arith)
    (further (wider 80 100 (omega arith) (omega arith) (assign_elem_reads _ _ _ val_named (row_reads wm_b k _ b_named small (elem_reads _ _ len_named b_read)) v_read)) (omega arith)
    (further (wider 80 100 (omega arith) (omega arith) (assign_elem_reads _ _ _ len_named b_read (bin_reads binary.Add _ _ (elem_reads _ _ len_named b_read) one_reads))) (omega arith)
    (no_body 80))))))

pso_get_roomy : (cells : ℕ) → (k : ℕ) → IsSmallNumber cells → IsSmallNumber k → IsRoomy (helper.pso_get cells k)
pso_get_roomy cells k few small = function_roomy IsOrdinary.int get_named (OneOrMore.more t_named (OneOrMore.last c_named))
    (declared _ b_named
    (further (wider 80 100 (omega arith) (omega arith) (assign_reads _ _ b_named (row_reads wm_t cells _ t_named few c_read))) (omega arith)
    (further (wider 80 100 (omega arith) (omega arith) (when_reads _ (bin_reads binary.Gt _ _ (elem_reads _ _ len_named b_read) zero_reads)
    (further (wider 20 100 (omega arith) (omega arith) (return_reads _ (elem_reads _ _ val_named (bin_reads binary.Sub _ _ (row_reads wm_b k _ b_named small (elem_reads _ _ len_named b_read)) one_reads)))) (omega arith)
    (no_body 20)))) (omega arith)
    (further (wider 80 100 (omega arith) (omega arith) (return_reads _ (elem_reads _ _ mem_named c_read))) (omega arith)
    (no_body 80)))))

pso_set_roomy : (cells : ℕ) → IsSmallNumber cells → IsRoomy (helper.pso_set cells)
pso_set_roomy cells few = function_roomy IsOrdinary.nothing set_named (OneOrMore.more t_named (OneOrMore.more c_named (OneOrMore.last v_named)))
    (further (wider 80 100 (omega arith) (omega arith) (assume_reads _ (bin_reads binary.Eq _ _ (elem_reads _ _ len_named (row_reads wm_t cells _ t_named few c_read)) zero_reads))) (omega arith)
    (further (wider 80 100 (omega arith) (omega arith) (assign_elem_reads _ _ _ mem_named c_read v_read)) (omega arith)
    (no_body 80)))

-- ---- the items

-- what is small of the sizes of a woven program
pub record AreSmallSizes (s : Sizes) : Type 0 where
  pub bound : IsSmallNumber s.bound
  pub threads : IsSmallNumber s.threads
  pub cells : IsSmallNumber s.cells
  pub rows : IsSmallNumber (s.threads * s.cells)
  pub tso : IsSmallNumber (s.threads * s.bound)
  pub pso : IsSmallNumber (s.threads * s.cells * s.bound)

pub helpers_roomy : (m : Model) (s : Sizes) → AreSmallSizes s → AllByRecursion IsRoomy (helper.helpers m s)
helpers_roomy Tso s small =
    (tso_pop_roomy s.bound small.bound, (flush_roomy s.threads small.threads, (tso_empty_roomy, (tso_put_roomy s.bound small.bound, (tso_get_roomy s.bound small.bound, (tso_set_roomy, tt))))))
helpers_roomy Pso s small =
    (pso_pop_roomy s.cells s.bound small.cells small.bound, (flush_roomy (s.threads * s.cells) small.rows, (pso_empty_roomy s.cells small.cells, (pso_put_roomy s.cells s.bound small.cells small.bound, (pso_get_roomy s.cells s.bound small.cells small.bound, (pso_set_roomy s.cells small.cells, tt))))))

pub arrays_roomy : (m : Model) (s : Sizes) → AreSmallSizes s → AllByRecursion IsRoomy (helper.arrays m s)
arrays_roomy Tso s small = (array_roomy wm_len s.threads len_named small.threads, (array_roomy wm_cell (s.threads * s.bound) cell_named small.tso, (array_roomy wm_val (s.threads * s.bound) val_named small.tso, tt)))
arrays_roomy Pso s small = (array_roomy wm_len (s.threads * s.cells) len_named small.rows, (array_roomy wm_val (s.threads * s.cells * s.bound) val_named small.pso, tt))
