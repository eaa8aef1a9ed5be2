-- The body of wm_flush under TSO, where each row is a thread's.
use Rattle.std.proofs.Common.{arith, ◌≡◌, ℕ, suc, ◌+◌, ◌<◌, ◌≤◌, ℤ, pos, Bool, true, false, List, [], ◌∷◌, length, Option, Some, refl, sym, ◌∙◌, ap, subst, slice_get}
use Rattle.std.specs.Prelude.{◌==◌}
use Rattle.std.proofs.lemmas.List.{length-set, get_or-set_same, get_or-set_other}
use Rattle.mm_goto.specs.declared.pure.Binary.TheVariants as binary
use Rattle.mm_sched.specs.State.{State, Pending, pending_of}
use Rattle.mm_sched.specs.Buffer.{without}
use Rattle.mm_sched.specs.Event.{flushed}
use Rattle.mm_words.specs.Words.{num, var, minus, times, block, call}
use Rattle.mm_helpers.specs.Helpers.{flush, wm_n, wm_t, wm_j, wm_mem, wm_len, wm_cell, wm_val, wm_pop, in_row, shift, step, tso_pop}
use Rattle.mm_flow.specs.declared.names.Seen.{Seen}
use Rattle.mm_flow.specs.Scopes.{named, spot_of}
use Rattle.mm_flow.specs.Statements.{Within, Did, function_of, bound, scope}
use Rattle.mm_meaning.specs.Meaning.{View, Outcome, Done, pick}
use Rattle.mm_meaning.proofs.Sized.{Sized, KnowsOne, num_sized, var_sized, bin_sized, elem_sized, knows_nil, knows_cons, assign_knows, assign_elem_knows, block_knows}
use Rattle.mm_meaning.proofs.Does.{Does, DoesAll}
use Rattle.mm_meaning.proofs.Calls.{Plain, no_args, arg, counted_before}
use Rattle.mm_pieces.specs.Calling.{Inlines, body_of, pop_function}
use Rattle.mm_pieces.specs.Mirroring.{Table, IsSmall, array_at, HasArrays, Homes, Mirrors}
use Rattle.mm_pieces.specs.Flushing.{Rest, Safe, thread_rows, asked}
use Rattle.mm_pieces.proofs.FlushTurns as turns
use Rattle.mm_pieces.proofs.Held.{is_b, not_b}
use Rattle.mm_pieces.proofs.Taking.{Takes, takes, takes_declared, while_knows, call_knows}
use Rattle.mm_pieces.proofs.Popped.{popped, without_first}
use Rattle.mm_pieces.proofs.Flushes.{pop_agrees}
use Rattle.mm_pieces.proofs.Agreeing.{mirrors_as}

-- ---- how many fresh locals wm_pop takes

module _ (tb : Table) (w : Within) (seen : Seen) (lt slot : ℕ) where
  base_sized : (k : ℕ) → Sized (scope w (named wm_t lt ∷ named wm_j slot ∷ [])) k k (times (var wm_t) (num tb.places))
  base_sized k = bin_sized binary.Mul refl (var_sized k wm_t lt refl) (num_sized k tb.places)

  place_sized : (k : ℕ) → Sized (scope w (named wm_t lt ∷ named wm_j slot ∷ [])) k k (in_row wm_t tb.places (var wm_j))
  place_sized k = bin_sized binary.Add refl (base_sized k) (var_sized k wm_j slot refl)

  turn_knows : (k : ℕ) → KnowsOne w (named wm_t lt ∷ named wm_j slot ∷ []) seen k seen (k + 1 + 1) (block (shift wm_cell wm_t tb.places ∷ shift wm_val wm_t tb.places ∷ step wm_j ∷ []))
  turn_knows k = block_knows
      (knows_cons (assign_elem_knows wm_cell (place_sized k) (elem_sized wm_cell (bin_sized binary.Add refl (place_sized k) (num_sized k 1))))
      (knows_cons (assign_elem_knows wm_val (place_sized (k + 1)) (elem_sized wm_val (bin_sized binary.Add refl (place_sized (k + 1)) (num_sized (k + 1) 1))))
      (knows_cons (assign_knows wm_j slot refl (bin_sized binary.Add refl (var_sized (k + 1 + 1) wm_j slot refl) (num_sized (k + 1 + 1) 1)))
      (knows_nil (k + 1 + 1)))))

  pub pop_takes : Takes w (named wm_t lt ∷ []) seen slot (slot + 1 + 1 + 1 + 1 + 1 + 1 + 1) (body_of (tso_pop tb.places))
  pop_takes = takes_declared false wm_j (takes
      (knows_cons (assign_elem_knows wm_mem (elem_sized wm_cell (base_sized (slot + 1))) (elem_sized wm_val (base_sized (slot + 1 + 1))))
      (knows_cons (assign_elem_knows wm_len (var_sized (slot + 1 + 1 + 1) wm_t lt refl) (bin_sized binary.Sub refl (elem_sized wm_len (var_sized (slot + 1 + 1 + 1) wm_t lt refl)) (num_sized (slot + 1 + 1 + 1 + 1) 1)))
      (knows_cons (assign_knows wm_j slot refl (num_sized (slot + 1 + 1 + 1 + 1) 0))
      (knows_cons (while_knows (bin_sized binary.Lt refl (var_sized (slot + 1 + 1 + 1 + 1) wm_j slot refl) (elem_sized wm_len (var_sized (slot + 1 + 1 + 1 + 1) wm_t lt refl))) (turn_knows (slot + 1 + 1 + 1 + 1 + 1)))
      (knows_nil (slot + 1 + 1 + 1 + 1 + 1 + 1 + 1)))))))

-- ---- states whose pending stores are to shared cells of the arrays

pub pending_flushed : (s : State) (t c : ℕ) (v : ℤ) (rest : List Pending) (i : ℕ) → t < length s.pending → pending_of s t ≡ (c, v) ∷ rest → (x : Bool) → (i == t) ≡ x → pending_of (flushed s t c v) i ≡ pick x rest (pending_of s i)
unfolding flushed
pending_flushed s t c v rest i h is true e = subst (λ j. pending_of (flushed s t c v) j ≡ rest) (sym (is_b i t e)) (get_or-set_same s.pending t (without (pending_of s t) c) [] h ∙ ap (λ ps. without ps c) is ∙ without_first c v rest)
pending_flushed s t c v rest i h is false e = get_or-set_other s.pending t i (without (pending_of s t) c) [] (not_b i t e)

memory_flushed : (s : State) (t c : ℕ) (v : ℤ) → length (flushed s t c v).memory ≡ length s.memory
unfolding flushed
memory_flushed s t c v = length-set s.memory c v

module _ (tb : Table) (count size : ℕ) (home : ℕ → ℕ) (homes : Homes tb count size home) (mem bound_of_rows : ℕ) where
  safe_flushed : (s : State) (t c : ℕ) (v : ℤ) (rest : List Pending) → t < length s.pending → t < tb.rows → pending_of s t ≡ (c, v) ∷ rest → Safe tb count home mem bound_of_rows s → Safe tb count home mem bound_of_rows (flushed s t c v)
  safe_flushed s t c v rest there below is h = record { to = λ i k q li g. to_at i k q li (i == t) refl g; short = λ i li. short_at i li (i == t) refl }
    where
      by_memory : (q : Pending) → (q.0 < count) × (home q.0 ≡ mem + q.0) × (q.0 < length s.memory) → (q.0 < count) × (home q.0 ≡ mem + q.0) × (q.0 < length (flushed s t c v).memory)
      by_memory q x = (x.0, x.1, (let e = x.2 in omega (arith, memory_flushed s t c v)))

      to_at : (i k : ℕ) (q : Pending) → i < tb.rows → (x : Bool) → (i == t) ≡ x → slice_get (pending_of (flushed s t c v) i) k ≡ Some q → (q.0 < count) × (home q.0 ≡ mem + q.0) × (q.0 < length (flushed s t c v).memory)
      to_at i k q li true e g = by_memory q (h.to t (suc k) q below (ap (λ ps. slice_get ps (suc k)) is ∙ sym (ap (λ ps. slice_get ps k) (pending_flushed s t c v rest i there is true e)) ∙ g))
      to_at i k q li false e g = by_memory q (h.to i k q li (sym (ap (λ ps. slice_get ps k) (pending_flushed s t c v rest i there is false e)) ∙ g))

      short_at : (i : ℕ) → i < tb.rows → (x : Bool) → (i == t) ≡ x → length (pending_of (flushed s t c v) i) < bound_of_rows
      short_at i li true e = (let a = h.short t below in let b = ap length is in let d = ap length (pending_flushed s t c v rest i there is true e) in omega arith)
      short_at i li false e = subst (λ ps. length ps < bound_of_rows) (sym (pending_flushed s t c v rest i there is false e)) (h.short i li)

  -- memory behind a flush of row b to cell c
  abbrev pub popped_at : List ℤ → (b n c : ℕ) → ℤ → List ℤ
  popped_at memory b n c x = popped tb homes.lens homes.cells memory b n (home c) x

  -- memory behind the flushes that the inputs ask for
  abbrev pub asked_memory : List ℤ → State → List ℤ → List ℤ
  asked_memory = turns.asked_memory (thread_rows tb.rows) tb.lens (Mirrors tb count size home) (Safe tb count home mem bound_of_rows) popped_at

  -- how the body of wm_flush ends
  abbrev pub Emptied : ℕ → View → List ℤ → Outcome → Option Rest → Type 0
  Emptied = turns.Emptied (thread_rows tb.rows) tb.lens (Mirrors tb count size home) (Safe tb count home mem bound_of_rows) popped_at

  module _ (small : IsSmall tb) (fuel asserts slot : ℕ) (fueled : bound_of_rows ≤ fuel) (w : Within) (seen : Seen) (inner : ℕ → Within) (inlines : Inlines w inner) (here : HasArrays tb w.parts.spots) (arrays : (r : ℕ) → HasArrays tb (inner r).parts.spots) (is_mem : (r : ℕ) → spot_of (inner r).parts.spots wm_mem ≡ Some (array_at wm_mem mem count)) (mem_len : mem + count ≤ tb.lens) (items : function_of w.items w.parts.asserts wm_pop ≡ Some (pop_function tb.places asserts)) where
    -- the next fresh local behind the call of wm_pop
    abbrev after : ℕ → ℕ
    after k = k + 1 + 1 + 1 + 1 + 1 + 1 + 1 + 1 + 1 + 1

    abbrev pub flush_next : ℕ
    flush_next = after (slot + 1 + 1) + 1

    pub flush_does : (a : View) (s : State) (ins : List ℤ) → Mirrors tb count size home a s → Safe tb count home mem bound_of_rows s → a.inputs ≡ ins → flush_next ≤ length a.locals → length ins ≤ fuel →
        (o : Outcome) × DoesAll fuel slot w [] a seen slot seen flush_next (body_of (flush tb.rows)) o × Emptied slot a (asked_memory a.memory s ins) o (asked (thread_rows tb.rows) s ins)
    flush_does = turns.flush_does (thread_rows tb.rows) tb.lens (Mirrors tb count size home) (Safe tb count home mem bound_of_rows) popped_at small.rows fuel slot w seen here.lens after (λ k. omega arith)
        (mirrors_as tb count size home) (λ a s b like below. like.held.lens b below)
        (λ a k x plain. call_knows wm_pop (pop_function tb.places asserts) refl items (arg plain no_args)
        (ap (λ (d : Did). d.known.next) (inlines.by (pop_function tb.places asserts) (bound (pop_function tb.places asserts).params (k + 1)) (k + 1 + 1 + 1) (k + 1 + 1))
        ∙ (pop_takes tb (inner (k + 1 + 1)) (counted_before (pop_function tb.places asserts)) (k + 1) (k + 1 + 1 + 1)).next) (omega arith))
        does (λ a s b c x rest like safe below is. safe_flushed s b c x rest (let f = like.threads in omega arith) below is safe)
      where
        does : (a : View) (s : State) (b c k : ℕ) (x : ℤ) (rest : List Pending) → Mirrors tb count size home a s → Safe tb count home mem bound_of_rows s → b < tb.rows → pending_of s b ≡ (c, x) ∷ rest → slot + 1 ≤ k + 1 → after k ≤ length a.locals → Plain fuel (slot + 1) a (scope w (named wm_n slot ∷ [])) (minus (var wm_n) (num 1)) (pos b) →
            Does fuel (slot + 1) w (named wm_n slot ∷ []) a seen (k + 1) seen (after k) (call wm_pop (minus (var wm_n) (num 1) ∷ [])) (Done (record { memory = popped_at a.memory b (length rest) c x; locals = a.locals; inputs = a.inputs })) × Mirrors tb count size home (record { memory = popped_at a.memory b (length rest) c x; locals = a.locals; inputs = a.inputs }) (flushed s b c x)
        does a s b c k x rest like safe below is mk room plain =
            let q = safe.to b 0 (c, x) below (ap (λ ps. slice_get ps 0) is) in
            let short = safe.short b below in let many = ap length is in
            pop_agrees tb count size home homes small fuel (slot + 1) asserts mem w inner inlines arrays is_mem mem_len items (named wm_n slot ∷ []) seen a s b c (k + 1) x rest (minus (var wm_n) (num 1)) like below mk room plain is q.0 q.1 q.2 (omega arith)
