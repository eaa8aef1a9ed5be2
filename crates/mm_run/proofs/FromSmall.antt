-- The goto program of a small program has the form that is printed.
use Rattle.std.proofs.Common.{ℕ, ◌+◌, ◌<◌, ◌≤◌, ◌^◌, ℤ, List, [], ◌∷◌, ◌++◌, All, map, length, sum_by, refl, sym, subst, arith, append_assoc, length-append}
use Rattle.std.specs.List.{AllByRecursion}
use Rattle.std.proofs.lemmas.List.{length-map}
use Rattle.std.proofs.lemmas.List.Elements.{All-from_recursion, recursion_from_All, All-map}
use Rattle.std.proofs.lemmas.List.Sums.{sum_by-cons}
use Rattle.mm_goto.specs.declared.ident.Ident.{Ident}
use Rattle.mm_goto.specs.declared.program.Cell.{Cell}
use Rattle.mm_goto.specs.declared.program.Instr.TheVariants.{Jump, End}
use Rattle.mm_goto.specs.declared.program.Thread.{Thread}
use Rattle.mm_goto.specs.Names.{IsDeclarable}
use Rattle.mm_goto.specs.Terms.{constant, the_local}
use Rattle.mm_small.specs.declared.tree.Statement.{Statement}
use Rattle.mm_small.specs.declared.tree.Statement.TheVariants as statement
use Rattle.mm_small.specs.declared.tree.Small.{Small}
use Rattle.mm_small.specs.SmallTree.{IsNumber, IsStatementIn, IsWithinLimits}
use Rattle.mm_small.specs.Flat.{reads, asserts, equals, statement_code, body_code, main_of, cell, listing_of}
use Rattle.mm_small.proofs.SmallSourcelike.{one_cell}
use Rattle.mm_small.proofs.Validity.{append_in, length_sites, body_length, reads_length}
use Rattle.mm_print.specs.SmallListing as small
use Rattle.mm_print.specs.SmallListing.{IsSmallExpr, IsSmallInstr, IsSmallCell, IsSmallListing}

number_small : (locals : ℕ) (z : ℤ) → IsNumber z → IsSmallExpr locals (constant z)
number_small locals z h = subst (λ z. IsSmallExpr locals (constant z)) (sym h.2) (small.number h.0 h.1)

equals_small : (locals l : ℕ) (z : ℤ) → l < locals → IsNumber z → IsSmallExpr locals (equals l z)
equals_small locals l z k h = subst (λ z. IsSmallExpr locals (equals l z)) (sym h.2) (small.equal l h.0 k h.1)

statement_small : (cells : List Cell) (t : Thread) (l n : ℕ) (s : Statement) → IsStatementIn (length cells) s → l + reads s ≤ t.locals → n < 2 ^ 32 → AllByRecursion (IsSmallInstr cells t) (statement_code l n s)
statement_small cells t l n (statement.Number at c z) h k m = (small.store c (constant z) h.0 (number_small t.locals z h.1), tt)
statement_small cells t l n (statement.Variable at c f d) h k m = (small.load l d (omega arith) h.1, (small.store c (the_local l) h.0 (small.local l (omega arith)), tt))
statement_small cells t l n (statement.Assert at f c z) h k m = (small.load l c (omega arith) h.0, (small.assert (equals l z) n m (equals_small t.locals l z (omega arith) h.1), tt))

-- a statement has one assertion at most
one_assertion : (s : Statement) → asserts s ≤ 1
one_assertion (statement.Number at c z) = omega arith
one_assertion (statement.Variable at c f d) = omega arith
one_assertion (statement.Assert at f c z) = omega arith

body_small : (cells : List Cell) (t : Thread) (l n : ℕ) (ss : List Statement) → AllByRecursion (IsStatementIn (length cells)) ss → l + sum_by reads ss ≤ t.locals → n + length ss < 2 ^ 32 → AllByRecursion (IsSmallInstr cells t) (body_code l n ss)
body_small cells t l n [] h k m = tt
body_small cells t l n (s ∷ ss) h k m = append_in (IsSmallInstr cells t) (statement_code l n s) (body_code (l + reads s) (n + asserts s) ss) (statement_small cells t l n s h.0 (omega (arith, k, sum_by-cons reads s ss)) (omega arith)) (body_small cells t (l + reads s) (n + asserts s) ss h.1 (omega (arith, k, sum_by-cons reads s ss)) (omega (arith, one_assertion s)))

cell_small : (x : Ident) → IsDeclarable x → IsSmallCell (cell x)
cell_small x h = record {
  name = h;
  single = refl;
  int = refl;
  value = 0;
  small = omega arith;
  init = refl;
}

code_small : (s : Small) → IsWithinLimits s → All (IsSmallInstr (map cell s.variables) (main_of s)) (body_code 0 1 s.body ++ Jump (length (body_code 0 1 s.body) + 1) ∷ [])
code_small s l = All-from_recursion _ _ (append_in (IsSmallInstr (map cell s.variables) (main_of s)) (body_code 0 1 s.body) (Jump (length (body_code 0 1 s.body) + 1) ∷ []) (body_small (map cell s.variables) (main_of s) 0 1 s.body (rw length-map (recursion_from_All _ _ l.statements)) (omega arith) (omega (arith, l.sites, length_sites s.body))) (small.jump (length (body_code 0 1 s.body) + 1) (simp length-append (omega arith)), tt))

-- the program has the form that is printed
pub listing_small : (s : Small) → IsWithinLimits s → IsSmallListing (listing_of s)
listing_small s l = record {
  cells = All-map IsSmallCell cell s.variables (λ k d h. cell_small _ (l.variables.declarable k d h));
  apart = one_cell s.variables l.variables.distinct;
  mutexes = refl;
  main = main_of s;
  alone = refl;
  body = body_code 0 1 s.body ++ Jump (length (body_code 0 1 s.body) + 1) ∷ [];
  code = sym (append_assoc (body_code 0 1 s.body) (Jump (length (body_code 0 1 s.body) + 1) ∷ []) (End ∷ []));
  instrs = code_small s l;
  few_cells = rw length-map (omega (arith, l.variables.few));
  few_locals = omega (arith, l.sites, length_sites s.body, reads_length s.body);
  few_lines = simp length-append (omega (arith, l.sites, length_sites s.body, body_length 0 1 s.body));
}
