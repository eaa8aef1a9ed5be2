-- The goto program of a small program is one that flattening may give for a source.
use Rattle.std.proofs.Common.{◌≡◌, inl, ℕ, zero, suc, ◌+◌, ◌-◌, ◌<◌, ◌≤◌, ◌≤ℤ◌, ℤ, pos, negsuc, Bool, true, false, not, cond, ◌&&◌, is_none, IsTrue, nat_lt, List, [], ◌∷◌, ◌++◌, All, map, length, slice_get, Some, None, IsSomeAnd, refl, sym, ◌∙◌, ap, ap₂, subst, arith, length-append}
use Rattle.std.specs.List.{AllByRecursion, prefix_len}
use Rattle.std.specs.Str.{bytes_eq}
use Rattle.std.proofs.lemmas.Bool.Decides.{nat_tests}
use Rattle.std.proofs.lemmas.List.Elements.{All-from_recursion, recursion_from_All, All-map, All-same, All-weaker}
use Rattle.std.proofs.lemmas.Option.{same_Some, get_or_from_slice_get, slice_get_within}
use Rattle.std.proofs.lemmas.Slice.Eq.{bytes_eq-Decides}
use Rattle.mm_goto.specs.declared.ident.Ident.{Ident}
use Rattle.mm_goto.specs.declared.pure.Pure.{Pure}
use Rattle.mm_goto.specs.declared.pure.Pure.TheOpen as pure
use Rattle.mm_goto.specs.declared.pure.Pure.TheFolds.{fold-Pure}
use Rattle.mm_goto.specs.declared.pure.Binary.TheVariants as binary
use Rattle.mm_goto.specs.declared.program.Cell.{Cell}
use Rattle.mm_goto.specs.declared.program.Instr.{Instr}
use Rattle.mm_goto.specs.declared.program.Instr.TheVariants.{Load, Store, Jump, Assert, End, Start}
use Rattle.mm_goto.specs.declared.program.Target.TheVariants as target
use Rattle.mm_goto.specs.declared.program.Thread.{Thread}
use Rattle.mm_goto.specs.Checks.{checked_step, checks_of, timed_step, late_parts, DividesInTime}
use Rattle.mm_goto.specs.Kinds.{kinds_step, kinds_of, IsInstrTyped, NamesInts}
use Rattle.mm_goto.specs.Listing.{Listing}
use Rattle.mm_goto.specs.Locals.{rows_step, rows_of}
use Rattle.mm_goto.specs.Parts.{nodes_step, nodes, levels_step, levels, numbers_step, numbers, arrays_step, arrays_of, addressed_step, addressed}
use Rattle.mm_goto.specs.Sourcelike.{IsSourcelike, IsWithinSource, IsSourceInstr, IsSourceCell, IsSingle, AreApart, HasWholeArrays, StartsInOrder, JumpPassesNone, is_start_or_join}
use Rattle.mm_goto.specs.Names.{IsDeclarable}
use Rattle.mm_goto.specs.Terms.{constant, the_local}
use Rattle.mm_goto.proofs.Folding.{fold_constant, fold_local, fold_combined}
use Rattle.mm_small.specs.declared.tree.Statement.{Statement}
use Rattle.mm_small.specs.declared.tree.Statement.TheVariants as statement
use Rattle.mm_small.specs.declared.tree.Small.{Small}
use Rattle.mm_small.specs.SmallTree.{IsNumber, IsStatementIn, IsWithinLimits, are_distinct, variable_number}
use Rattle.mm_small.specs.Flat.{reads, asserts, equals, statement_code, body_code, main_of, cell, listing_of}
use Rattle.mm_small.proofs.Validity.{append_in, body_length, length_sites, reads_length, last_is, listing_valid}

-- ---- expressions

fold_equals : {C : Type 0} (step : pure.Pure-F C → C) (l : ℕ) (z : ℤ) → fold-Pure C step (equals l z) ≡ step (pure.Bin binary.Eq (step (pure.Local l)) (step (pure.Const z)))
fold_equals step l z = fold_combined step binary.Eq (the_local l) (constant z) ∙ ap₂ (λ x y. step (pure.Bin binary.Eq x y)) (fold_local step l) (fold_constant step z)

-- the number is not below 0
abbrev IsCounted : ℤ → Type 0
IsCounted z = (n : ℕ) × (z ≡ pos n)

-- the expression is a small int that names no cell, wants no check and has no number below 0
record IsPlain (e : Pure) : Type 0 where
  rows : rows_of e ≡ []
  numbers : All IsCounted (numbers e)
  arrays : arrays_of e ≡ []
  addressed : addressed e ≡ []
  checks : checks_of e ≡ []
  late : late_parts e ≡ []
  nodes : nodes e ≤ 3
  levels : levels e ≤ 2
  int : (kinds_of (λ l. false) e).int ≡ true

constant_plain : (z : ℤ) → IsNumber z → IsPlain (constant z)
constant_plain z h = record {
  rows = fold_constant rows_step z;
  numbers = All-same IsCounted _ (z ∷ []) (fold_constant numbers_step z) (All-from_recursion IsCounted (z ∷ []) ((h.0, h.2), tt));
  arrays = fold_constant arrays_step z;
  addressed = fold_constant addressed_step z;
  checks = ap (λ c. c.wants) (fold_constant checked_step z);
  late = ap (λ c. c.late) (fold_constant timed_step z);
  nodes = omega (arith, fold_constant nodes_step z);
  levels = omega (arith, fold_constant levels_step z);
  int = ap (λ k. k.int) (fold_constant (kinds_step (λ l. false)) z);
}

local_plain : (l : ℕ) → IsPlain (the_local l)
local_plain l = record {
  rows = fold_local rows_step l;
  numbers = All-same IsCounted _ [] (fold_local numbers_step l) (All-from_recursion IsCounted [] tt);
  arrays = fold_local arrays_step l;
  addressed = fold_local addressed_step l;
  checks = ap (λ c. c.wants) (fold_local checked_step l);
  late = ap (λ c. c.late) (fold_local timed_step l);
  nodes = omega (arith, fold_local nodes_step l);
  levels = omega (arith, fold_local levels_step l);
  int = ap (λ k. k.int) (fold_local (kinds_step (λ l. false)) l);
}

equals_plain : (l : ℕ) (z : ℤ) → IsNumber z → IsPlain (equals l z)
equals_plain l z h = record {
  rows = fold_equals rows_step l z;
  numbers = All-same IsCounted _ (z ∷ []) (fold_equals numbers_step l z) (All-from_recursion IsCounted (z ∷ []) ((h.0, h.2), tt));
  arrays = fold_equals arrays_step l z;
  addressed = fold_equals addressed_step l z;
  checks = ap (λ c. c.wants) (fold_equals checked_step l z);
  late = ap (λ c. c.late) (fold_equals timed_step l z);
  nodes = omega (arith, fold_equals nodes_step l z);
  levels = omega (arith, fold_equals levels_step l z);
  int = ap (λ k. k.int) (fold_equals (kinds_step (λ l. false)) l z);
}

-- ---- instructions

-- all that is asked of an instruction of the code
record IsSmall (p : Listing) (code : List Instr) (i : Instr) : Type 0 where
  source : (k : ℕ) → IsSourceInstr p code k i
  typed : IsInstrTyped p (λ l. false) i
  alone : is_start_or_join i ≡ false
  jumps : (j : ℕ) → JumpPassesNone code j i

-- the cell is an int that is no element
record IsIntCell (p : Listing) (c : ℕ) : Type 0 where
  single : IsSingle p c
  int : IsSomeAnd (slice_get p.cells c) (λ a. a.pointer ≡ false)

-- what holds of each variable's cell holds of the one at the place
cell_at : (P : Cell → Type 0) → ((x : Ident) → P (cell x)) → (vs : List Ident) (c : ℕ) → c < length vs → IsSomeAnd (slice_get (map cell vs) c) P
cell_at P h [] c l = absurd (omega arith)
cell_at P h (x ∷ vs) zero l = h x
cell_at P h (x ∷ vs) (suc c) l = cell_at P h vs c (omega arith)

int_cell : (s : Small) (c : ℕ) → c < length s.variables → IsIntCell (listing_of s) c
int_cell s c l = record {
  single = cell_at (λ a. a.index ≡ None) (λ x. refl) s.variables c l;
  int = cell_at (λ a. a.pointer ≡ false) (λ x. refl) s.variables c l;
}

load_small : (p : Listing) (code : List Instr) (l c : ℕ) → IsIntCell p c → IsSmall p code (Load l (target.Cell c))
load_small p code l c h = record {
  source = λ k. record {
    sections = refl;
    not_main = ((λ e. cc), (λ e. cc));
    ints = All-from_recursion _ [] tt;
    numbers = All-from_recursion _ [] tt;
    arrays = All-from_recursion _ [] tt;
    singles = All-from_recursion (IsSingle p) (c ∷ []) (h.single, tt);
    guarded = All-from_recursion _ [] tt;
    apart = tt;
    late = All-from_recursion _ [] tt;
    size = (omega arith, All-from_recursion _ [] tt);
    levels = All-from_recursion _ [] tt;
  };
  typed = h.int;
  alone = refl;
  jumps = λ j. tt;
}

store_small : (p : Listing) (code : List Instr) (c : ℕ) (e : Pure) → IsIntCell p c → IsPlain e → IsSmall p code (Store (target.Cell c) e)
store_small p code c e h d = record {
  source = λ k. record {
    sections = refl;
    not_main = ((λ e. cc), (λ e. cc));
    ints = All-from_recursion (NamesInts p) (e ∷ []) (rw d.rows (All-from_recursion _ [] tt), tt);
    numbers = All-from_recursion (λ x. All IsCounted (numbers x)) (e ∷ []) (d.numbers, tt);
    arrays = rw d.arrays (All-from_recursion _ [] tt);
    singles = All-same (IsSingle p) (c ∷ addressed e ++ []) (c ∷ []) (ap (λ (cs : List ℕ). c ∷ cs ++ []) d.addressed) (All-from_recursion (IsSingle p) (c ∷ []) (h.single, tt));
    guarded = rw d.checks (All-from_recursion _ [] tt);
    apart = tt;
    late = All-from_recursion DividesInTime (e ∷ []) (rw d.late (All-from_recursion _ [] tt), tt);
    size = (omega arith, All-from_recursion (λ x. 0 + nodes x ≤ 410) (e ∷ []) (omega (arith, d.nodes), tt));
    levels = All-from_recursion (λ x. levels x ≤ 210) (e ∷ []) (omega (arith, d.levels), tt);
  };
  typed = (false, h.int, d.int);
  alone = refl;
  jumps = λ j. tt;
}

assert_small : (p : Listing) (code : List Instr) (e : Pure) (n : ℕ) → IsPlain e → IsSmall p code (Assert e n)
assert_small p code e n d = record {
  source = λ k. record {
    sections = refl;
    not_main = ((λ e. cc), (λ e. cc));
    ints = All-from_recursion (NamesInts p) (e ∷ []) (rw d.rows (All-from_recursion _ [] tt), tt);
    numbers = All-from_recursion (λ x. All IsCounted (numbers x)) (e ∷ []) (d.numbers, tt);
    arrays = rw d.arrays (All-from_recursion _ [] tt);
    singles = rw d.addressed (All-from_recursion _ [] tt);
    guarded = rw d.checks (All-from_recursion _ [] tt);
    apart = tt;
    late = All-from_recursion DividesInTime (e ∷ []) (rw d.late (All-from_recursion _ [] tt), tt);
    size = (omega arith, All-from_recursion (λ x. 0 + nodes x ≤ 410) (e ∷ []) (omega (arith, d.nodes), tt));
    levels = All-from_recursion (λ x. levels x ≤ 210) (e ∷ []) (omega (arith, d.levels), tt);
  };
  typed = rw d.int refl;
  alone = refl;
  jumps = λ j. tt;
}

-- the jump leads to the last instruction
jump_small : (p : Listing) (code : List Instr) (m : ℕ) → m + 1 ≡ length code → IsSmall p code (Jump m)
jump_small p code m e = record {
  source = λ k. record {
    sections = refl;
    not_main = ((λ e. cc), (λ e. cc));
    ints = All-from_recursion _ [] tt;
    numbers = All-from_recursion _ [] tt;
    arrays = All-from_recursion _ [] tt;
    singles = All-from_recursion _ [] tt;
    guarded = All-from_recursion _ [] tt;
    apart = tt;
    late = All-from_recursion _ [] tt;
    size = (omega arith, All-from_recursion _ [] tt);
    levels = All-from_recursion _ [] tt;
  };
  typed = tt;
  alone = refl;
  jumps = λ j. inl e;
}

end_small : (p : Listing) (code : List Instr) → IsSmall p code End
end_small p code = record {
  source = λ k. record {
    sections = refl;
    not_main = ((λ e. cc), (λ e. cc));
    ints = All-from_recursion _ [] tt;
    numbers = All-from_recursion _ [] tt;
    arrays = All-from_recursion _ [] tt;
    singles = All-from_recursion _ [] tt;
    guarded = All-from_recursion _ [] tt;
    apart = tt;
    late = All-from_recursion _ [] tt;
    size = (omega arith, All-from_recursion _ [] tt);
    levels = All-from_recursion _ [] tt;
  };
  typed = tt;
  alone = refl;
  jumps = λ j. tt;
}

-- ---- the code

statement_small : (s : Small) (code : List Instr) (l n : ℕ) (st : Statement) → IsStatementIn (length s.variables) st → AllByRecursion (IsSmall (listing_of s) code) (statement_code l n st)
statement_small s code l n (statement.Number at c z) h = (store_small (listing_of s) code c (constant z) (int_cell s c h.0) (constant_plain z h.1), tt)
statement_small s code l n (statement.Variable at c f d) h = (load_small (listing_of s) code l d (int_cell s d h.1), (store_small (listing_of s) code c (the_local l) (int_cell s c h.0) (local_plain l), tt))
statement_small s code l n (statement.Assert at f c z) h = (load_small (listing_of s) code l c (int_cell s c h.0), (assert_small (listing_of s) code (equals l z) n (equals_plain l z h.1), tt))

body_small : (s : Small) (code : List Instr) (l n : ℕ) (ss : List Statement) → AllByRecursion (IsStatementIn (length s.variables)) ss → AllByRecursion (IsSmall (listing_of s) code) (body_code l n ss)
body_small s code l n [] h = tt
body_small s code l n (st ∷ ss) h = append_in (IsSmall (listing_of s) code) (statement_code l n st) (body_code (l + reads st) (n + asserts st) ss) (statement_small s code l n st h.0) (body_small s code (l + reads st) (n + asserts st) ss h.1)

code_small : (s : Small) → All (IsStatementIn (length s.variables)) s.body → All (IsSmall (listing_of s) (main_of s).code) (main_of s).code
code_small s h = All-from_recursion _ _ (append_in _ (body_code 0 1 s.body) _ (body_small s (main_of s).code 0 1 s.body (recursion_from_All _ _ h)) (jump_small (listing_of s) (main_of s).code (length (body_code 0 1 s.body) + 1) (simp length-append (omega arith)), (end_small (listing_of s) (main_of s).code, tt)))

-- what holds of each element holds of the one at the place
at_place : {X : Type 0} (P : X → Type 0) (xs : List X) (k : ℕ) (x : X) → All P xs → slice_get xs k ≡ Some x → P x
at_place P xs k x h e = subst P (get_or_from_slice_get xs k x x e) (h k x (slice_get_within xs k x e))

only_one : {X : Type 0} (x y : X) (t : ℕ) → slice_get (x ∷ []) t ≡ Some y → x ≡ y
only_one x y zero e = same_Some x y e
only_one x y (suc t) e = cc

-- ---- names

-- the name is found before the end
found_before : (vs : List Ident) (x : Ident) (d : ℕ) → slice_get vs d ≡ Some x → prefix_len (λ v. not (bytes_eq v x)) vs < length vs
found_before [] x d e = cc
found_before (v ∷ vs) x zero e = rw ((bytes_eq-Decides v x).1 (same_Some v x e)) (omega arith)
found_before (v ∷ vs) x (suc d) e = by (bytes_eq v x) (found_before vs x d e)
  where
    by : (b : Bool) → prefix_len (λ v. not (bytes_eq v x)) vs < length vs → cond (not b) (1 + prefix_len (λ v. not (bytes_eq v x)) vs) 0 < length (v ∷ vs)
    by true h = omega arith
    by false h = omega (arith, h)

both : (a b : Bool) → IsTrue (a && b) → IsTrue a × IsTrue b
both true b h = (refl, h)
both false b h = cc

-- a name that is not found stands nowhere
nowhere : (vs : List Ident) (x : Ident) (d : ℕ) → IsTrue (is_none (variable_number vs x)) → slice_get vs d ≡ Some x → ⊥
nowhere vs x d h e = by (prefix_len (λ v. not (bytes_eq v x)) vs) (length vs) (found_before vs x d e) h
  where
    by : (m n : ℕ) → m < n → IsTrue (is_none (cond (nat_lt m n) (Some m) None)) → ⊥
    by m n l h = grind (arith, nat_tests)

-- each name stands once
once : (vs : List Ident) → IsTrue (are_distinct vs) → (c d : ℕ) (x : Ident) → slice_get vs c ≡ Some x → slice_get vs d ≡ Some x → c ≡ d
once [] h c d x e f = cc
once (v ∷ vs) h zero zero x e f = refl
once (v ∷ vs) h zero (suc d) x e f = absurd (nowhere vs v d (both _ _ h).0 (f ∙ sym e))
once (v ∷ vs) h (suc c) zero x e f = absurd (nowhere vs v c (both _ _ h).0 (e ∙ sym f))
once (v ∷ vs) h (suc c) (suc d) x e f = ap suc (once vs (both _ _ h).1 c d x e f)

-- two cells of one name are one cell
pub one_cell : (vs : List Ident) → IsTrue (are_distinct vs) → (c d : ℕ) (a b : Cell) → slice_get (map cell vs) c ≡ Some a → slice_get (map cell vs) d ≡ Some b → a.name ≡ b.name → c ≡ d
one_cell vs h c d a b e f same = once vs h c d a.name (by vs c a e) (by vs d b f ∙ ap Some (sym same))
  where
    by : (vs : List Ident) (c : ℕ) (a : Cell) → slice_get (map cell vs) c ≡ Some a → slice_get vs c ≡ Some a.name
    by [] c a e = cc
    by (v ∷ vs) zero a e = ap Some (ap (λ (a : Cell). a.name) (same_Some (cell v) a e))
    by (v ∷ vs) (suc c) a e = by vs c a e

-- a cell of the program is a variable's
cell_is : (vs : List Ident) (c : ℕ) (a : Cell) → slice_get (map cell vs) c ≡ Some a → (x : Ident) × (a ≡ cell x)
cell_is [] c a e = cc
cell_is (v ∷ vs) zero a e = (v, sym (same_Some (cell v) a e))
cell_is (v ∷ vs) (suc c) a e = cell_is vs c a e

-- ---- the program

source_cell : (p : Listing) (x : Ident) → IsSourceCell p (cell x)
source_cell p x = record {
  typed = ap (λ k. k.int) (fold_constant (kinds_step (λ l. false)) (pos 0));
  numbers = All-same (λ z. negsuc 2147483646 ≤ℤ z) _ (pos 0 ∷ []) (fold_constant numbers_step (pos 0)) (All-from_recursion (λ z. negsuc 2147483646 ≤ℤ z) (pos 0 ∷ []) (record { le = tt }, tt));
  ints = rw (fold_constant rows_step (pos 0)) (All-from_recursion _ [] tt);
  arrays = rw (fold_constant arrays_step (pos 0)) (All-from_recursion _ [] tt);
  singles = rw (fold_constant addressed_step (pos 0)) (All-from_recursion _ [] tt);
}

within_source : (s : Small) → IsWithinLimits s → IsWithinSource (listing_of s)
within_source s l = record {
  threads = omega arith;
  instructions = simp length-append (omega (arith, body_length 0 1 s.body, length_sites s.body, l.sites));
  locals = All-from_recursion (λ (t : Thread). t.locals ≤ 4096) (main_of s ∷ []) (omega (arith, reads_length s.body, length_sites s.body, l.sites), tt);
  mutexes = omega arith;
}

cells_apart : (s : Small) → IsWithinLimits s → AreApart (listing_of s)
cells_apart s l = record {
  cells = λ c d a b e f same. inl (one_cell s.variables l.variables.distinct c d a b e f same);
  mutexes = λ m n x e f. cc;
  neither = λ c m a x e f. cc;
}

no_arrays : (s : Small) → HasWholeArrays (listing_of s)
no_arrays s = record {
  before = λ c i a e h. absurd (single c i a e h);
  ints = λ c i a e h. ap (λ (a : Cell). a.pointer) (cell_is s.variables c a e).1;
}
  where
    single : (c i : ℕ) (a : Cell) → slice_get (map cell s.variables) c ≡ Some a → a.index ≡ Some (i + 1) → ⊥
    single c i a e h = let k = ap (λ (a : Cell). a.index) (cell_is s.variables c a e).1 in cc

-- main starts no thread
starts_none : (s : Small) → All (IsSmall (listing_of s) (main_of s).code) (main_of s).code → StartsInOrder (listing_of s)
starts_none s h = record {
  order = λ j k u v l e f. absurd (none j (Start u) e refl);
  joins = λ j k u e f. absurd (none j (Start u) e refl);
  jumps = λ j i e. (at_place (IsSmall (listing_of s) (main_of s).code) (main_of s).code j i h e).jumps j;
}
  where
    none : (k : ℕ) (i : Instr) → slice_get (main_of s).code k ≡ Some i → is_start_or_join i ≡ true → ⊥
    none k i e f = let a = (at_place (IsSmall (listing_of s) (main_of s).code) (main_of s).code k i h e).alone in cc

-- flattening may give the program for a source
pub listing_sourcelike : (s : Small) → IsWithinLimits s → IsSourcelike (listing_of s)
listing_sourcelike s l = record {
  valid = listing_valid s l;
  limits = within_source s l;
  ends = All-from_recursion (λ (t : Thread). slice_get t.code (length t.code - 1) ≡ Some End) (main_of s ∷ []) (last_is (body_code 0 1 s.body) (Jump (length (body_code 0 1 s.body) + 1)) End, tt);
  each = λ t k thread i e f. each t k thread i (only_one (main_of s) thread t e) f;
  typed = λ t thread e. subst (λ (thread : Thread). (pointers : ℕ → Bool) × All (IsInstrTyped (listing_of s) pointers) thread.code) (only_one (main_of s) thread t e) ((λ l. false), All-weaker (IsSmall (listing_of s) (main_of s).code) (IsInstrTyped (listing_of s) (λ l. false)) (λ i h. h.typed) (main_of s).code small);
  cells = All-map (IsSourceCell (listing_of s)) cell s.variables (λ k d h. source_cell (listing_of s) _);
  cell_names = All-map (λ (c : Cell). IsDeclarable c.name) cell s.variables l.variables.declarable;
  mutex_names = All-from_recursion IsDeclarable [] tt;
  apart = cells_apart s l;
  arrays = no_arrays s;
  order = starts_none s small;
}
  where
    small : All (IsSmall (listing_of s) (main_of s).code) (main_of s).code
    small = code_small s l.statements

    each : (t k : ℕ) (thread : Thread) (i : Instr) → main_of s ≡ thread → slice_get thread.code k ≡ Some i → IsSourceInstr (listing_of s) thread.code k i
    each t k thread i e f = subst (λ (thread : Thread). slice_get thread.code k ≡ Some i → IsSourceInstr (listing_of s) thread.code k i) e (λ f. (at_place (IsSmall (listing_of s) (main_of s).code) (main_of s).code k i small f).source k) f
