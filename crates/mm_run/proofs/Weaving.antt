-- A small program and its woven program fail the same assertions under sequential consistency.
use Rattle.std.proofs.Common.{◌≡◌, ◌↔◌, ℕ, ◌+◌, ◌<◌, ◌≤◌, ℤ, pos, cond, ◌==◌, List, [], ◌∷◌, ◌++◌, map, take, sum_by, replicate, length, slice_set, slice_index_or, Option, Some, None, refl, sym, ◌∙◌, ap, arith, append_assoc, length-append, add-zero}
use Rattle.std.specs.Int.{w32, cast_unsigned}
use Rattle.std.specs.List.{range_with_len}
use Rattle.std.proofs.lemmas.List.Sums.{sum_by-cons, sum_by-append}
use Rattle.std.proofs.lemmas.List.FromFn.{length-map-range_with_len}
use Rattle.std.proofs.Math.Seq.{take-append-add}
use Rattle.std.proofs.lemmas.List.{length-set, get_or-set_same, length-replicate}
use Rattle.mm_goto.specs.declared.program.Thread.{Thread}
use Rattle.mm_goto.specs.declared.program.Instr.{Instr}
use Rattle.mm_goto.specs.declared.program.Instr.TheVariants.{Jump, End}
use Rattle.mm_goto.specs.Terms.{constant, the_local}
use Rattle.mm_goto.specs.Value.{value_of, value_step, is_zero, truth}
use Rattle.mm_goto.proofs.Folding.{fold_constant, fold_local, fold_combined}
use Rattle.mm_small.specs.declared.tree.Statement.{Statement}
use Rattle.mm_small.specs.declared.tree.Statement.TheVariants as statement
use Rattle.mm_small.specs.declared.tree.Small.{Small}
use Rattle.mm_small.specs.Flat.{reads, asserts, equals, statement_code as source_code, body_code, main_of, cell, listing_of}
use Rattle.mm_print.proofs.Mains.{statements_size}
use Rattle.mm_print.specs.Woven.{fresh, size, place_of, end_of, statement as statement_code, statements, declaration, woven_main, woven}
use Rattle.mm_sched.specs.declared.entry.Rules.TheVariants.{Sc}
use Rattle.mm_sched.specs.State.{initial}
use Rattle.mm_sched.specs.Runs.{Reaches}
use Rattle.mm_run.proofs.Straight.{straight, IsStraight, IsTail, at, fails_straight, straight_fails}

-- ---- values

value_constant : (z : ℤ) (ls : List ℤ) → value_of (constant z) ls ≡ z
unfolding value_of
value_constant z ls = fold_constant (value_step ls) z

value_local : (l : ℕ) (ls : List ℤ) → value_of (the_local l) ls ≡ slice_index_or ls l (pos 0)
unfolding value_of
value_local l ls = fold_local (value_step ls) l

abbrev pub compared : ℤ → ℤ → ℤ
compared x z = truth (cast_unsigned w32 x == cast_unsigned w32 z)

value_equals : (l : ℕ) (z : ℤ) (ls : List ℤ) → value_of (equals l z) ls ≡ compared (slice_index_or ls l (pos 0)) z
unfolding value_of
value_equals l z ls = rw (fold_combined (value_step ls), fold_local (value_step ls), fold_constant (value_step ls)) refl

-- a local that was just set
value_set : (l : ℕ) (w : ℤ) (ls : List ℤ) → l < length ls → value_of (the_local l) (slice_set ls l w) ≡ w
value_set l w ls h = value_local l (slice_set ls l w) ∙ get_or-set_same ls l w (pos 0) h

-- ---- what a small program fails

-- the number of the first assertion that fails, from this memory
abbrev pub failure : ℕ → List ℤ → List Statement → Option ℕ
failure n mem [] = None
failure n mem (statement.Number at c z ∷ ss) = failure n (slice_set mem c z) ss
failure n mem (statement.Variable at c f d ∷ ss) = failure n (slice_set mem c (slice_index_or mem d (pos 0))) ss
failure n mem (statement.Assert at f c z ∷ ss) = cond (is_zero (compared (slice_index_or mem c (pos 0)) z)) (Some n) (failure (n + 1) mem ss)

source_fails : (ss : List Statement) (l n : ℕ) (mem ls : List ℤ) → l + sum_by reads ss ≤ length ls → straight (body_code l n ss) mem ls ≡ failure n mem ss
source_fails [] l n mem ls h = refl
source_fails (statement.Number at c z ∷ ss) l n mem ls h = rw value_constant (source_fails ss (l + 0) (n + 0) (slice_set mem c z) ls (omega (arith, h, sum_by-cons reads (statement.Number at c z) ss)) ∙ ap (λ (m : ℕ). failure m (slice_set mem c z) ss) (add-zero n))
source_fails (statement.Variable at c f d ∷ ss) l n mem ls h =
    let k : l < length ls = omega (arith, h, sum_by-cons reads (statement.Variable at c f d) ss) in
    let w = slice_index_or mem d (pos 0) in
    rw (value_set l w ls k) (source_fails ss (l + 1) (n + 0) (slice_set mem c w) (slice_set ls l w) (rw length-set (omega (arith, h, sum_by-cons reads (statement.Variable at c f d) ss))) ∙ ap (λ (m : ℕ). failure m (slice_set mem c w) ss) (add-zero n))
source_fails (statement.Assert at f c z ∷ ss) l n mem ls h =
    let k : l < length ls = omega (arith, h, sum_by-cons reads (statement.Assert at f c z) ss) in
    let w = slice_index_or mem c (pos 0) in
    let v : value_of (equals l z) (slice_set ls l w) ≡ compared w z = value_equals l z (slice_set ls l w) ∙ ap (λ (x : ℤ). compared x z) (get_or-set_same ls l w (pos 0) k) in
    rw v (ap (λ (o : Option ℕ). cond (is_zero (compared w z)) (Some n) o) (source_fails ss (l + 1) (n + 1) mem (slice_set ls l w) (rw length-set (omega (arith, h, sum_by-cons reads (statement.Assert at f c z) ss)))))

woven_fails : (main : Thread) (ss : List Statement) (l n t : ℕ) (mem ls : List ℤ) → l + sum_by reads ss ≤ length ls → t + sum_by reads ss ≤ length ls → straight (statements main t (body_code l n ss)) mem ls ≡ failure n mem ss
woven_fails main [] l n t mem ls h g = refl
woven_fails main (statement.Number at c z ∷ ss) l n t mem ls h g = rw value_constant (woven_fails main ss (l + 0) (n + 0) (t + 0) (slice_set mem c z) ls (omega (arith, h, sum_by-cons reads (statement.Number at c z) ss)) (omega (arith, g, sum_by-cons reads (statement.Number at c z) ss)) ∙ ap (λ (m : ℕ). failure m (slice_set mem c z) ss) (add-zero n))
woven_fails main (statement.Variable at c f d ∷ ss) l n t mem ls h g =
    let r = sum_by-cons reads (statement.Variable at c f d) ss in
    let w = slice_index_or mem d (pos 0) in
    let a = slice_set ls t w in
    let b = slice_set a l w in
    let m : length a ≡ length ls = length-set ls t w in
    let k : length b ≡ length ls = length-set a l w ∙ m in
    let v : value_of (the_local t) a ≡ w = value_set t w ls (omega (arith, g, r)) in
    let u : value_of (the_local l) b ≡ w = value_set l w a (omega (arith, h, r, m)) in
    rw (v, u) (woven_fails main ss (l + 1) (n + 0) (t + 1 + 0) (slice_set mem c w) b (omega (arith, h, r, k)) (omega (arith, g, r, k)) ∙ ap (λ (x : ℕ). failure x (slice_set mem c w) ss) (add-zero n))
woven_fails main (statement.Assert at f c z ∷ ss) l n t mem ls h g =
    let r = sum_by-cons reads (statement.Assert at f c z) ss in
    let w = slice_index_or mem c (pos 0) in
    let a = slice_set ls t w in
    let b = slice_set a l w in
    let m : length a ≡ length ls = length-set ls t w in
    let k : length b ≡ length ls = length-set a l w ∙ m in
    let v : value_of (the_local t) a ≡ w = value_set t w ls (omega (arith, g, r)) in
    let u : value_of (equals l z) b ≡ compared w z = value_equals l z b ∙ ap (λ (x : ℤ). compared x z) (get_or-set_same a l w (pos 0) (omega (arith, h, r, m))) in
    rw (v, u) (ap (λ (o : Option ℕ). cond (is_zero (compared w z)) (Some n) o) (woven_fails main ss (l + 1) (n + 1) (t + 1 + 0) mem b (omega (arith, h, r, k)) (omega (arith, g, r, k))))

-- ---- the parts of the code

straight_body : (ss : List Statement) (l n : ℕ) → IsStraight (body_code l n ss)
straight_body [] l n = tt
straight_body (statement.Number at c z ∷ ss) l n = straight_body ss (l + 0) (n + 0)
straight_body (statement.Variable at c f d ∷ ss) l n = straight_body ss (l + 1) (n + 0)
straight_body (statement.Assert at f c z ∷ ss) l n = straight_body ss (l + 1) (n + 1)

straight_woven : (main : Thread) (ss : List Statement) (l n t : ℕ) → IsStraight (statements main t (body_code l n ss))
straight_woven main [] l n t = tt
straight_woven main (statement.Number at c z ∷ ss) l n t = straight_woven main ss (l + 0) (n + 0) (t + 0)
straight_woven main (statement.Variable at c f d ∷ ss) l n t = straight_woven main ss (l + 1) (n + 0) (t + 1 + 0)
straight_woven main (statement.Assert at f c z ∷ ss) l n t = straight_woven main ss (l + 1) (n + 1) (t + 1 + 0)

straight_sets : (ks : List ℕ) (is : List Instr) → IsStraight is → IsStraight (map declaration ks ++ is)
straight_sets [] is h = h
straight_sets (k ∷ ks) is h = straight_sets ks is h

-- the declarations keep how many locals there are
record Declared (is : List Instr) (mem ls : List ℤ) (o : Option ℕ) : Type 0 where
  pub locals : List ℤ
  pub count : length locals ≡ length ls
  pub same : o ≡ straight is mem locals

declared : (ks : List ℕ) (is : List Instr) (mem ls : List ℤ) → Declared is mem ls (straight (map declaration ks ++ is) mem ls)
declared [] is mem ls = record { locals = ls; count = refl; same = refl }
declared (k ∷ ks) is mem ls =
    let d = declared ks is mem (slice_set ls k (value_of (constant (pos 0)) ls)) in
    record { locals = d.locals; count = d.count ∙ length-set ls k (value_of (constant (pos 0)) ls); same = d.same }

statements_append : (main : Thread) (t : ℕ) (is js : List Instr) → statements main t (is ++ js) ≡ statements main t is ++ statements main (t + sum_by fresh is) js
statements_append main t [] js = ap (λ (k : ℕ). statements main k js) (sym (add-zero t))
statements_append main t (i ∷ is) js =
    let e : (t + fresh i) + sum_by fresh is ≡ t + sum_by fresh (i ∷ is) = omega (arith, sum_by-cons fresh i is) in
    ap (λ (xs : List Instr). statement_code main t i ++ xs) (statements_append main (t + fresh i) is js) ∙ sym (append_assoc (statement_code main t i) (statements main (t + fresh i) is) (statements main ((t + fresh i) + sum_by fresh is) js)) ∙ ap (λ (k : ℕ). (statement_code main t i ++ statements main (t + fresh i) is) ++ statements main k js) e

fresh_statement : (l n : ℕ) (s : Statement) → sum_by fresh (source_code l n s) ≡ reads s
fresh_statement l n (statement.Number at c z) = refl
fresh_statement l n (statement.Variable at c f d) = refl
fresh_statement l n (statement.Assert at f c z) = refl

fresh_body : (l n : ℕ) (ss : List Statement) → sum_by fresh (body_code l n ss) ≡ sum_by reads ss
fresh_body l n [] = refl
fresh_body l n (s ∷ ss) = sum_by-append fresh (source_code l n s) (body_code (l + reads s) (n + asserts s) ss) ∙ omega (arith, fresh_statement l n s, fresh_body (l + reads s) (n + asserts s) ss, sum_by-cons reads s ss)

-- ---- the woven code whole

regroup : (a b c d : List Instr) → (a ++ (b ++ c)) ++ d ≡ (a ++ b) ++ (c ++ d)
regroup a b c d = simp append_assoc

module _ (p : Small) where
  body : List Instr
  body = body_code 0 1 p.body

  main : Thread
  main = main_of p

  ending : List Instr
  ending = Jump (length body + 1) ∷ End ∷ []

  front : List Instr
  front = map declaration (range_with_len 0 main.locals) ++ statements main main.locals body

  woven_ending : List Instr
  woven_ending = Jump (place_of main (length body + 1)) ∷ Jump (end_of main) ∷ End ∷ []

  code_is : main.code ≡ body ++ ending
  unfolding body main ending
  code_is = refl

  woven_code_is : (woven_main main).code ≡ front ++ woven_ending
  unfolding front woven_ending ending
  woven_code_is =
      let e : statements main main.locals main.code ≡ statements main main.locals body ++ statements main (main.locals + sum_by fresh body) ending = ap (λ (c : List Instr). statements main main.locals c) code_is ∙ statements_append main main.locals body ending in
      ap (λ (xs : List Instr). (map declaration (range_with_len 0 main.locals) ++ xs) ++ End ∷ []) e ∙ regroup (map declaration (range_with_len 0 main.locals)) (statements main main.locals body) (Jump (place_of main (length body + 1)) ∷ Jump (end_of main) ∷ []) (End ∷ [])

  front_length : length front ≡ main.locals + sum_by size body
  unfolding front
  front_length = rw length-append (omega (arith, length-map-range_with_len declaration 0 main.locals, statements_size main main.locals body))

  first_jump : place_of main (length body + 1) ≡ length front + 1
  unfolding ending
  first_jump =
      let t : take (length body + 1) main.code ≡ body ++ take 1 ending = ap (λ (c : List Instr). take (length body + 1) c) code_is ∙ take-append-add body ending 1 in
      let e : sum_by size (take (length body + 1) main.code) ≡ sum_by size body + 1 = ap (λ (c : List Instr). sum_by size c) t ∙ sum_by-append size body (Jump (length body + 1) ∷ []) in
      omega (arith, e, front_length)

  second_jump : end_of main ≡ length front + 2
  unfolding ending
  second_jump =
      let e : sum_by size main.code ≡ sum_by size body + 2 = ap (λ (c : List Instr). sum_by size c) code_is ∙ sum_by-append size body ending in
      omega (arith, e, front_length)

  locals_fresh : sum_by fresh main.code ≡ main.locals
  unfolding ending body main
  locals_fresh = ap (λ (c : List Instr). sum_by fresh c) code_is ∙ sum_by-append fresh (body_code 0 1 p.body) ending ∙ add-zero (sum_by fresh (body_code 0 1 p.body)) ∙ fresh_body 0 1 p.body

  -- ---- the failures

  memory : List ℤ
  memory = map (λ cell. value_of cell.init []) (listing_of p).cells

  source_start : initial (listing_of p) ≡ at memory (replicate main.locals (pos 0)) 0 None
  unfolding initial memory main
  source_start = refl

  woven_start : initial (woven (listing_of p)) ≡ at memory (replicate (main.locals + sum_by fresh main.code) (pos 0)) 0 None
  unfolding initial memory main
  woven_start = refl

  source_straight : straight body memory (replicate main.locals (pos 0)) ≡ failure 1 memory p.body
  unfolding body main
  source_straight = source_fails p.body 0 1 memory (replicate main.locals (pos 0)) (rw length-replicate (omega arith))

  woven_straight : straight front memory (replicate (main.locals + sum_by fresh main.code) (pos 0)) ≡ failure 1 memory p.body
  unfolding body main front
  woven_straight =
      let zeros = replicate (main.locals + sum_by fresh main.code) (pos 0) in
      let d = declared (range_with_len 0 main.locals) (statements main main.locals body) memory zeros in
      let c : length d.locals ≡ main.locals + main.locals = d.count ∙ length-replicate (main.locals + sum_by fresh main.code) (pos 0) ∙ ap (λ (m : ℕ). main.locals + m) locals_fresh in
      d.same ∙ woven_fails main p.body 0 1 main.locals memory d.locals (omega (arith, c)) (omega (arith, c))

  source_tail : IsTail (0 + length body) ending
  unfolding ending
  source_tail = (omega arith, tt)

  woven_tail : IsTail (0 + length front) woven_ending
  unfolding woven_ending
  woven_tail = (omega (arith, first_jump), (omega (arith, second_jump), tt))

  source_body : IsStraight body
  unfolding body
  source_body = straight_body p.body 0 1

  woven_front : IsStraight front
  unfolding front body
  woven_front = straight_sets (range_with_len 0 main.locals) (statements main main.locals body) (straight_woven main p.body 0 1 main.locals)

  to_woven : (n : ℕ) → Reaches Sc (listing_of p) n → Reaches Sc (woven (listing_of p)) n
  unfolding main
  to_woven n r =
      let f = fails_straight (map cell p.variables) main [] body ending code_is source_body source_tail memory (replicate main.locals (pos 0)) r.0 r.1.last n (rw source_start at r.1.runs) r.1.verdict in
      let g = straight_fails (map cell p.variables) (woven_main main) [] front woven_ending woven_code_is woven_front memory (replicate (main.locals + sum_by fresh main.code) (pos 0)) n (woven_straight ∙ sym source_straight ∙ f) in
      (g.schedule, record { last = g.last; runs = rw woven_start g.runs; verdict = g.verdict })

  from_woven : (n : ℕ) → Reaches Sc (woven (listing_of p)) n → Reaches Sc (listing_of p) n
  unfolding main
  from_woven n r =
      let f = fails_straight (map cell p.variables) (woven_main main) [] front woven_ending woven_code_is woven_front woven_tail memory (replicate (main.locals + sum_by fresh main.code) (pos 0)) r.0 r.1.last n (rw woven_start at r.1.runs) r.1.verdict in
      let g = straight_fails (map cell p.variables) main [] body ending code_is source_body memory (replicate main.locals (pos 0)) n (source_straight ∙ sym woven_straight ∙ f) in
      (g.schedule, record { last = g.last; runs = rw source_start g.runs; verdict = g.verdict })

-- the two fail the same assertions under sequential consistency
pub woven_alike : (p : Small) (n : ℕ) → Reaches Sc (listing_of p) n ↔ Reaches Sc (woven (listing_of p)) n
woven_alike p n = (to_woven p n, from_woven p n)
