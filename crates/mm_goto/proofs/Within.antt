-- Expressions that any thread may have.
use Rattle.std.proofs.Common.{ℕ, ℤ, ◌<◌, [], ◌∷◌, arith}
use Rattle.std.proofs.lemmas.List.Elements.{All-from_recursion}
use Rattle.mm_goto.specs.declared.program.Thread.{Thread}
use Rattle.mm_goto.specs.Listing.{Listing}
use Rattle.mm_goto.specs.Locals.{local_bound_step, rows_step}
use Rattle.mm_goto.specs.Terms.{constant, the_local}
use Rattle.mm_goto.specs.Parts.{numbers_step}
use Rattle.mm_goto.specs.Valid.{IsPureIn, IsInt}
use Rattle.mm_goto.proofs.Folding.{fold_constant, fold_local}

pub constant_in : (p : Listing) (t : Thread) (z : ℤ) → IsInt z → IsPureIn p t (constant z)
constant_in p t z h = record {
  locals = rw (fold_constant local_bound_step z) (omega arith);
  cells = rw (fold_constant rows_step z) (All-from_recursion _ [] tt);
  ints = rw (fold_constant numbers_step z) (All-from_recursion IsInt (z ∷ []) (h, tt));
}

pub local_in : (p : Listing) (t : Thread) (l : ℕ) → l < t.locals → IsPureIn p t (the_local l)
local_in p t l h = record {
  locals = rw (fold_local local_bound_step l) (omega (arith, h));
  cells = rw (fold_local rows_step l) (All-from_recursion _ [] tt);
  ints = rw (fold_local numbers_step l) (All-from_recursion IsInt [] tt);
}
