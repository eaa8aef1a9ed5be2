-- The function of a name, by where it stands among the items.
use Rattle.std.proofs.Common.{arith, ◌≡◌, ℕ, suc, ◌+◌, Bool, true, false, cond, not, List, [], ◌∷◌, length, refl, ap, sym, ◌∙◌, if◌then◌else◌, Option, Some, None}
use Rattle.std.specs.Prelude.{nat_lt, position, slice_get}
use Rattle.std.specs.List.{position_or_len}
use Rattle.std.proofs.lemmas.Bool.{ltb-false}
use Rattle.std.proofs.lemmas.Option.{slice_get_past}
use Rattle.mm_goto.specs.declared.ident.Ident.{Ident}
use Rattle.mm_tree.specs.declared.item.Item.{Item}
use Rattle.mm_flow.specs.Statements.{Function, as_function, function_of, is_function}
use Rattle.mm_flat_stmt.specs.reading.Bodies.{function_at}

no_number : (o : Option Item) → None ≡ function_at o None
no_number None = refl
no_number (Some i) = refl

by_place : (items : List Item) (ns : List ℕ) (f : Ident) → function_of items ns f ≡ function_at (slice_get items (position_or_len (is_function f) items)) (slice_get ns (position_or_len (is_function f) items))
by_place [] ns f = refl
by_place (i ∷ is) [] f = no_number (slice_get (i ∷ is) (position_or_len (is_function f) (i ∷ is)))
by_place (i ∷ is) (n ∷ ns) f = by (is_function f i) (by_place is ns f)
  where
    next : (k m : ℕ) → k ≡ suc m → function_at (slice_get is m) (slice_get ns m) ≡ function_at (slice_get (i ∷ is) k) (slice_get (n ∷ ns) k)
    next k m e = sym (ap (λ q. function_at (slice_get (i ∷ is) q) (slice_get (n ∷ ns) q)) e)

    by : (b : Bool) → function_of is ns f ≡ function_at (slice_get is (position_or_len (is_function f) is)) (slice_get ns (position_or_len (is_function f) is))
        → (if b then as_function i n else function_of is ns f) ≡ function_at (slice_get (i ∷ is) (cond (not b) (1 + position_or_len (is_function f) is) 0)) (slice_get (n ∷ ns) (cond (not b) (1 + position_or_len (is_function f) is) 0))
    by true more = refl
    by false more = more ∙ next (1 + position_or_len (is_function f) is) (position_or_len (is_function f) is) (omega arith)

place_is : (b : Bool) (n i : ℕ) → cond b (Some n) None ≡ Some i → n ≡ i
place_is true n i e = cc
place_is false n i e = absurd (cc)

pub found_function : (items : List Item) (ns : List ℕ) (f : Ident) (i : ℕ) → position (is_function f) items ≡ Some i → function_of items ns f ≡ function_at (slice_get items i) (slice_get ns i)
found_function items ns f i e =
    by_place items ns f
    ∙ ap (λ q. function_at (slice_get items q) (slice_get ns q)) (place_is (nat_lt (position_or_len (is_function f) items) (length items)) (position_or_len (is_function f) items) i e)

past_end : (b : Bool) (n : ℕ) → cond b (Some n) None ≡ None → b ≡ false
past_end true n e = absurd (cc)
past_end false n e = refl

pub no_function : (items : List Item) (ns : List ℕ) (f : Ident) → position (is_function f) items ≡ None → function_of items ns f ≡ None
no_function items ns f e =
    let n = position_or_len (is_function f) items in
    by_place items ns f
    ∙ ap (λ (o : Option Item). function_at o (slice_get ns n)) (slice_get_past items n (ltb-false n (length items) (past_end (nat_lt n (length items)) n e)))
