-- The goto program of a small program is valid.
use Rattle.std.proofs.Common.{◌≡◌, ℕ, ◌+◌, ◌-◌, ◌*◌, ◌^◌, ◌<◌, ◌≤◌, ℤ, pos, List, [], ◌∷◌, ◌++◌, All, map, length, sum_by, slice_get, Some, IsSomeAnd, refl, sym, ◌∙◌, ap, subst, arith, length-append}
use Rattle.std.specs.List.{AllByRecursion}
use Rattle.std.proofs.lemmas.List.Elements.{All-from_recursion, recursion_from_All, All-map}
use Rattle.std.proofs.lemmas.List.Sums.{sum_by-cons}
use Rattle.std.proofs.lemmas.List.{length-map, get_or-append-add}
use Rattle.std.proofs.lemmas.Option.{slice_get-get_or}
use Rattle.mm_goto.specs.declared.program.Cell.{Cell}
use Rattle.mm_goto.specs.declared.ident.Ident.{Ident}
use Rattle.mm_goto.specs.declared.program.Instr.{Instr}
use Rattle.mm_goto.specs.declared.program.Instr.TheVariants.{Jump, End}
use Rattle.mm_goto.specs.declared.program.Thread.{Thread}
use Rattle.mm_goto.specs.Listing.{Listing}
use Rattle.mm_goto.specs.Locals.{local_bound, local_bound_step, rows_of, rows_step}
use Rattle.mm_goto.specs.Parts.{numbers, numbers_step}
use Rattle.mm_goto.specs.Valid.{IsInt, IsPureIn, IsInstrIn, IsThreadIn, IsCellIn, IsValid, IsLast, start_step}
use Rattle.mm_goto.proofs.Folding.{fold_constant, fold_local, fold_combined}
use Rattle.mm_goto.proofs.Within.{constant_in, local_in}
use Rattle.mm_small.specs.declared.tree.Statement.{Statement}
use Rattle.mm_small.specs.declared.tree.Statement.TheVariants as statement
use Rattle.mm_small.specs.declared.tree.Small.{Small}
use Rattle.mm_small.specs.SmallTree.{IsNumber, IsStatementIn, IsWithinLimits, sites}
use Rattle.mm_small.specs.Flat.{reads, asserts, equals, statement_code, statement_places, body_code, body_places, main_of, cell, listing_of}

-- ---- expressions

bound_of_equals : (l : ℕ) (z : ℤ) → local_bound (equals l z) ≡ l + 1
bound_of_equals l z = rw (fold_combined local_bound_step, fold_local local_bound_step, fold_constant local_bound_step) (grind arith)

rows_of_equals : (l : ℕ) (z : ℤ) → rows_of (equals l z) ≡ []
rows_of_equals l z = rw (fold_combined rows_step, fold_local rows_step, fold_constant rows_step) refl

numbers_of_equals : (l : ℕ) (z : ℤ) → numbers (equals l z) ≡ z ∷ []
numbers_of_equals l z = rw (fold_combined numbers_step, fold_local numbers_step, fold_constant numbers_step) refl

-- a number that a text may have is an int
int_number : (z : ℤ) → IsNumber z → IsInt z
int_number z h = let small : h.0 < 2 ^ 31 = h.1 in rw h.2 (record { sfits = small })

equals_in : (p : Listing) (t : Thread) (l : ℕ) (z : ℤ) → l < t.locals → IsNumber z → IsPureIn p t (equals l z)
equals_in p t l z h n = record {
  locals = rw bound_of_equals (omega (arith, h));
  cells = rw rows_of_equals (All-from_recursion _ [] tt);
  ints = rw numbers_of_equals (All-from_recursion IsInt (z ∷ []) (int_number z n, tt));
}

-- ---- the code

statement_in : (p : Listing) (t : Thread) (l n : ℕ) (s : Statement) → IsStatementIn (length p.cells) s → l + reads s ≤ t.locals → n < 2 ^ 32 → AllByRecursion (IsInstrIn p t) (statement_code l n s)
statement_in p t l n (statement.Number at c z) h k m = ((h.0, constant_in p t z (int_number z h.1)), tt)
statement_in p t l n (statement.Variable at c f d) h k m = ((omega arith, h.1), ((h.0, local_in p t l (omega arith)), tt))
statement_in p t l n (statement.Assert at f c z) h k m = ((omega arith, h.0), ((equals_in p t l z (omega arith) h.1, m), tt))

pub append_in : {X : Type 0} (P : X → Type 0) (xs ys : List X) → AllByRecursion P xs → AllByRecursion P ys → AllByRecursion P (xs ++ ys)
append_in P [] ys h k = k
append_in P (x ∷ xs) ys h k = (h.0, append_in P xs ys h.1 k)

one_assertion : (s : Statement) → asserts s ≤ 1
one_assertion (statement.Number at c z) = omega arith
one_assertion (statement.Variable at c f d) = omega arith
one_assertion (statement.Assert at f c z) = omega arith

body_in : (p : Listing) (t : Thread) (l n : ℕ) (ss : List Statement) → AllByRecursion (IsStatementIn (length p.cells)) ss → l + sum_by reads ss ≤ t.locals → n + length ss ≤ 2 ^ 32 → AllByRecursion (IsInstrIn p t) (body_code l n ss)
body_in p t l n [] h k m = tt
body_in p t l n (s ∷ ss) h k m = append_in (IsInstrIn p t) (statement_code l n s) (body_code (l + reads s) (n + asserts s) ss) (statement_in p t l n s h.0 (omega (arith, k, sum_by-cons reads s ss)) (omega (arith, m))) (body_in p t (l + reads s) (n + asserts s) ss h.1 (omega (arith, k, sum_by-cons reads s ss)) (omega (arith, m, one_assertion s)))

-- ---- lengths

statement_length : (l n : ℕ) (s : Statement) → length (statement_code l n s) ≤ 2
statement_length l n (statement.Number at c z) = omega arith
statement_length l n (statement.Variable at c f d) = omega arith
statement_length l n (statement.Assert at f c z) = omega arith

pub body_length : (l n : ℕ) (ss : List Statement) → length (body_code l n ss) ≤ 2 * length ss
body_length l n [] = omega arith
body_length l n (s ∷ ss) = rw length-append (omega (arith, statement_length l n s, body_length (l + reads s) (n + asserts s) ss))

places_length : (l n : ℕ) (ss : List Statement) → length (body_places ss) ≡ length (body_code l n ss)
places_length l n [] = refl
places_length l n (s ∷ ss) = simp length-append (omega (arith, one l n s, places_length (l + reads s) (n + asserts s) ss))
  where
    one : (l n : ℕ) (s : Statement) → length (statement_places s) ≡ length (statement_code l n s)
    one l n (statement.Number at c z) = refl
    one l n (statement.Variable at c f d) = refl
    one l n (statement.Assert at f c z) = refl

-- a statement has a site at least, and reads no more than its sites
pub length_sites : (ss : List Statement) → length ss ≤ sum_by sites ss
length_sites [] = omega arith
length_sites (s ∷ ss) = omega (arith, some s, sum_by-cons sites s ss, length_sites ss)
  where
    some : (s : Statement) → 1 ≤ sites s
    some (statement.Number at c z) = omega arith
    some (statement.Variable at c f d) = omega arith
    some (statement.Assert at f c z) = omega arith

pub reads_length : (ss : List Statement) → sum_by reads ss ≤ length ss
reads_length [] = omega arith
reads_length (s ∷ ss) = omega (arith, one s, sum_by-cons reads s ss, reads_length ss)
  where
    one : (s : Statement) → reads s ≤ 1
    one (statement.Number at c z) = omega arith
    one (statement.Variable at c f d) = omega arith
    one (statement.Assert at f c z) = omega arith

-- ---- the program

cells_in : (vs : List Ident) (cells : List Cell) → All (IsCellIn cells) (map cell vs)
cells_in vs cells = All-map (IsCellIn cells) cell vs (λ k d h. record { kind = rw (fold_constant start_step (pos 0)) refl; rows = rw (fold_constant rows_step (pos 0)) (All-from_recursion _ [] tt); ints = rw (fold_constant numbers_step (pos 0)) (All-from_recursion IsInt (pos 0 ∷ []) (int_number (pos 0) (0, omega arith, refl), tt)) })

pub last_is : (xs : List Instr) (a b : Instr) → slice_get (xs ++ a ∷ b ∷ []) (length (xs ++ a ∷ b ∷ []) - 1) ≡ Some b
last_is xs a b =
    let e : length (xs ++ a ∷ b ∷ []) - 1 ≡ length xs + 1 = simp length-append (omega arith) in
    rw e (slice_get-get_or (xs ++ a ∷ b ∷ []) (length xs + 1) b (simp length-append (omega arith)) ∙ ap Some (get_or-append-add xs (a ∷ b ∷ []) 1 b))

main_in : (p : Small) → length p.body ≤ 1024 → All (IsStatementIn (length p.variables)) p.body → IsThreadIn (listing_of p) (main_of p)
main_in p b h = record {
  locals = omega (arith, b, reads_length p.body);
  instructions = All-from_recursion _ _ (append_in _ (body_code 0 1 p.body) _ (body_in (listing_of p) (main_of p) 0 1 p.body (rw length-map (recursion_from_All _ _ h)) (omega arith) (omega (arith, b))) (simp length-append (omega arith), (tt, tt)));
  last = subst (λ o. IsSomeAnd o IsLast) (sym (last_is (body_code 0 1 p.body) (Jump (length (body_code 0 1 p.body) + 1)) End)) tt;
  places = simp length-append (omega (arith, places_length 0 1 p.body));
}

-- the program is valid
pub listing_valid : (p : Small) → IsWithinLimits p → IsValid (listing_of p)
listing_valid p l = record {
  main = omega arith;
  threads = omega arith;
  mutexes = omega arith;
  cells = rw length-map (omega (arith, l.variables.few));
  instructions = simp length-append (omega (arith, body_length 0 1 p.body, length_sites p.body, l.sites));
  each_cell = cells_in p.variables _;
  each_thread = All-from_recursion (IsThreadIn (listing_of p)) (main_of p ∷ []) (main_in p (omega (arith, length_sites p.body, l.sites)) l.statements, tt);
  each_start = λ u a b. absurd (omega arith);
}
