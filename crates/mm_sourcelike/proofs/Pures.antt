-- Expressions that stand in a thread, by the expressions that they are made of.
use Rattle.std.proofs.Common.{arith, ◌≡◌, ℕ, pos, ◌<◌, ◌≤◌, ◌^◌, nat_lt, Bool, true, false, if◌then◌else◌, [], ◌∷◌, ◌++◌, length}
use denote.Hole.Carrier
use Rattle.std.proofs.lemmas.List.Elements.{All-from_recursion, All-append, All-cons}
use Rattle.mm_goto.specs.declared.pure.Unary.{Unary}
use Rattle.mm_goto.specs.declared.pure.Binary.{Binary}
use Rattle.mm_goto.specs.declared.pure.Binary.TheVariants as binary
use Rattle.mm_goto.specs.declared.pure.Pure.{Pure}
use Rattle.mm_goto.specs.declared.pure.Pure.TheOpen as pure
use Rattle.mm_goto.specs.declared.pure.Pure.TheViews.{roll-Pure}
use Rattle.mm_goto.specs.declared.pure.Pure.TheFolds.{fold-Pure, fold-roll-Pure}
use Rattle.mm_goto.specs.declared.program.Thread.{Thread}
use Rattle.mm_goto.specs.Checks.{is_in_range, is_not_zero}
use Rattle.mm_goto.specs.Listing.{Listing}
use Rattle.mm_goto.specs.Locals.{larger, local_bound, local_bound_step, rows_of, rows_step}
use Rattle.mm_goto.specs.Parts.{numbers, numbers_step}
use Rattle.mm_goto.specs.Terms.{constant, applied, combined}
use Rattle.mm_goto.specs.Valid.{IsInt, IsRow, IsPureIn}
use Rattle.mm_goto.proofs.Folding.{fold_applied, fold_combined}
use Rattle.mm_goto.proofs.Within.{constant_in}
use Rattle.mm_flow.specs.Words.{address, element, chosen}

-- ---- what a fold makes of the words of flattening

pub fold_address : {C : Type 0} (step : pure.Pure-F C → C) (c : ℕ) → fold-Pure C step (address c) ≡ step (pure.Addr c)
unfolding address roll-Pure denote.Hole.Carrier.roll
fold_address {C = C} step c = fold-roll-Pure C step (pure.Addr c)

pub fold_element : {C : Type 0} (step : pure.Pure-F C → C) (first len : ℕ) (x : Pure) → fold-Pure C step (element first len x) ≡ step (pure.AddrElem first len (fold-Pure C step x))
unfolding element roll-Pure denote.Hole.Carrier.roll
fold_element {C = C} step first len x = fold-roll-Pure C step (pure.AddrElem first len x)

pub fold_chosen : {C : Type 0} (step : pure.Pure-F C → C) (c x y : Pure) → fold-Pure C step (chosen c x y) ≡ step (pure.Cond (fold-Pure C step c) (fold-Pure C step x) (fold-Pure C step y))
unfolding chosen roll-Pure denote.Hole.Carrier.roll
fold_chosen {C = C} step c x y = fold-roll-Pure C step (pure.Cond c x y)

-- ---- what stands in a thread

pub larger_at_most : (m n k : ℕ) → m ≤ k → n ≤ k → larger m n ≤ k
larger_at_most m n k p q = by (nat_lt m n)
  where
    by : (b : Bool) → (if b then n else m) ≤ k
    by true = q
    by false = p

pub zero_in : (p : Listing) (t : Thread) → IsPureIn p t (constant (pos 0))
zero_in p t = constant_in p t (pos 0) (omega arith)

pub one_in : (p : Listing) (t : Thread) → IsPureIn p t (constant (pos 1))
one_in p t = constant_in p t (pos 1) (omega arith)

pub applied_in : (p : Listing) (t : Thread) (op : Unary) (x : Pure) → IsPureIn p t x → IsPureIn p t (applied op x)
applied_in p t op x h = record {
  locals = rw (fold_applied local_bound_step op x) h.locals;
  cells = rw (fold_applied rows_step op x) h.cells;
  ints = rw (fold_applied numbers_step op x) h.ints;
}

pub combined_in : (p : Listing) (t : Thread) (op : Binary) (x y : Pure) → IsPureIn p t x → IsPureIn p t y → IsPureIn p t (combined op x y)
combined_in p t op x y h g = record {
  locals = rw (fold_combined local_bound_step op x y) (larger_at_most (local_bound x) (local_bound y) t.locals h.locals g.locals);
  cells = rw (fold_combined rows_step op x y) (All-append (IsRow p.cells) (rows_of x) (rows_of y) h.cells g.cells);
  ints = rw (fold_combined numbers_step op x y) (All-append IsInt (numbers x) (numbers y) h.ints g.ints);
}

pub chosen_in : (p : Listing) (t : Thread) (c x y : Pure) → IsPureIn p t c → IsPureIn p t x → IsPureIn p t y → IsPureIn p t (chosen c x y)
chosen_in p t c x y f h g = record {
  locals = rw (fold_chosen local_bound_step c x y) (larger_at_most (local_bound c) (larger (local_bound x) (local_bound y)) t.locals f.locals (larger_at_most (local_bound x) (local_bound y) t.locals h.locals g.locals));
  cells = rw (fold_chosen rows_step c x y) (All-append (IsRow p.cells) (rows_of c ++ rows_of x) (rows_of y) (All-append (IsRow p.cells) (rows_of c) (rows_of x) f.cells h.cells) g.cells);
  ints = rw (fold_chosen numbers_step c x y) (All-append IsInt (numbers c ++ numbers x) (numbers y) (All-append IsInt (numbers c) (numbers x) f.ints h.ints) g.ints);
}

pub address_in : (p : Listing) (t : Thread) (c : ℕ) → c < length p.cells → IsPureIn p t (address c)
address_in p t c h = record {
  locals = rw (fold_address local_bound_step c) (omega arith);
  cells = rw (fold_address rows_step c) (All-from_recursion (IsRow p.cells) (record { first = c; len = 1 } ∷ []) (record { some = omega arith; within = omega arith; together = λ k l. absurd (omega arith) }, tt));
  ints = rw (fold_address numbers_step c) (All-from_recursion IsInt [] tt);
}

pub element_in : (p : Listing) (t : Thread) (first len : ℕ) (x : Pure) → IsRow p.cells (record { first = first; len = len }) → IsPureIn p t x → IsPureIn p t (element first len x)
element_in p t first len x r h = record {
  locals = rw (fold_element local_bound_step first len x) h.locals;
  cells = rw (fold_element rows_step first len x) (All-cons (IsRow p.cells) (record { first = first; len = len }) (rows_of x) r h.cells);
  ints = rw (fold_element numbers_step first len x) h.ints;
}

pub in_range_in : (p : Listing) (t : Thread) (x : Pure) (len : ℕ) → len < 2 ^ 31 → IsPureIn p t x → IsPureIn p t (is_in_range x len)
in_range_in p t x len l h =
    combined_in p t binary.Land (combined binary.Le (constant (pos 0)) x) (combined binary.Lt x (constant (pos len)))
    (combined_in p t binary.Le (constant (pos 0)) x (zero_in p t) h)
    (combined_in p t binary.Lt x (constant (pos len)) h (constant_in p t (pos len) (omega (arith, l))))

pub not_zero_in : (p : Listing) (t : Thread) (x : Pure) → IsPureIn p t x → IsPureIn p t (is_not_zero x)
not_zero_in p t x h = combined_in p t binary.Ne x (constant (pos 0)) h (zero_in p t)
