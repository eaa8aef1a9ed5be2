-- The rounds say how deep calls nest.
use Rattle.std.proofs.Common.{arith, ◌≡◌, ℕ, zero, suc, ◌+◌, Bool, true, false, ◌||◌, cond, List, [], ◌∷◌, ◌++◌, length, map, get_or, refl, ◌∙◌, sym, ap, append_assoc, Option, Some, None, is_some, if◌then◌else◌}
use Rattle.std.proofs.Math.Seq.{get_or-append_seam}
use Rattle.std.proofs.lemmas.List.{length-append}
use Rattle.std.proofs.lemmas.Iterator.Adapters.{position_from-zero}
use Rattle.std.specs.List.{list_any, position_from}
use Rattle.mm_goto.specs.declared.ident.Ident.{Ident}
use Rattle.mm_tree.specs.declared.item.Item.{Item}
use Rattle.mm_flow.specs.Programs.{body_of, body_in, is_known, nests}
use Rattle.mm_flow.specs.Statements.{is_function}
use Rattle.mm_flow.specs.Text.{calls_in}
use Rattle.mm_flat.specs.reading.Nesting.{callee, added, callees, called_by, graph, not_empty, has_deep, deep_after, deep_of}

nests_in : List Item → ℕ → Item → Bool
nests_in all d i = nests all d (calls_in (body_of i))

map_both : {A B : Type 0} (f g : A → B) (xs : List A) → ((x : A) → f x ≡ g x) → map f xs ≡ map g xs
map_both f g [] h = refl
map_both f g (x ∷ xs) h = ap (λ y. y ∷ map f xs) (h x) ∙ ap (λ ys. g x ∷ ys) (map_both f g xs h)

map_twice : {A B C : Type 0} (f : B → C) (g : A → B) (xs : List A) → map f (map g xs) ≡ map (λ x. f (g x)) xs
map_twice f g [] = refl
map_twice f g (x ∷ xs) = ap (λ ys. f (g x) ∷ ys) (map_twice f g xs)

nests_none : (all : List Item) (d : ℕ) → nests all d [] ≡ false
nests_none all zero = refl
nests_none all (suc d) = refl

-- what the table says of a function's item is what holds of its body
at_one : (all is : List Item) (i : Item) (d : ℕ) (f : Ident) (n : ℕ) (pre : List Bool) (t : Bool) → length pre ≡ n
    → deep_of ((pre ++ nests_in all d i ∷ []) ++ map (nests_in all d) is) (position_from (is_function f) (n + 1) is) ≡ nests all d (calls_in (body_in is f))
    → deep_of (pre ++ nests_in all d i ∷ map (nests_in all d) is) (cond t (Some n) (position_from (is_function f) (n + 1) is)) ≡ nests all d (calls_in (if t then body_of i else body_in is f))
unfolding nests_in
at_one all is i d f n pre true e h =
    ap (λ m. get_or (pre ++ nests_in all d i ∷ map (nests_in all d) is) m false) (sym e) ∙ get_or-append_seam pre (nests_in all d i) (map (nests_in all d) is) false
at_one all is i d f n pre false e h = ap (λ l. deep_of l (position_from (is_function f) (n + 1) is)) (sym (append_assoc pre (nests_in all d i ∷ []) (map (nests_in all d) is))) ∙ h

at_from : (all is : List Item) (d : ℕ) (f : Ident) (n : ℕ) (pre : List Bool) → length pre ≡ n
    → deep_of (pre ++ map (nests_in all d) is) (position_from (is_function f) n is) ≡ nests all d (calls_in (body_in is f))
at_from all [] d f n pre e = sym (nests_none all d)
at_from all (i ∷ is) d f n pre e =
    at_one all is i d f n pre (is_function f i) e (at_from all is d f (n + 1) (pre ++ nests_in all d i ∷ []) (omega (arith, length-append pre (nests_in all d i ∷ []))))

at_callee : (items : List Item) (d : ℕ) (f : Ident) → deep_of (map (nests_in items d) items) (callee items f) ≡ nests items d (calls_in (body_in items f))
at_callee items d f = ap (deep_of (map (nests_in items d) items)) (position_from-zero (is_function f) items) ∙ at_from items items d f 0 [] refl

known_one : (t : Bool) (n : ℕ) (o : Option ℕ) (b : Bool) → b ≡ is_some o → (if t then true else b) ≡ is_some (cond t (Some n) o)
known_one true n o b h = refl
known_one false n o b h = h

known_from : (is : List Item) (f : Ident) (n : ℕ) → is_known is f ≡ is_some (position_from (is_function f) n is)
known_from [] f n = refl
known_from (i ∷ is) f n = known_one (is_function f i) n (position_from (is_function f) (n + 1) is) (is_known is f) (known_from is f (n + 1))

known_is : (items : List Item) (f : Ident) → is_known items f ≡ is_some (callee items f)
known_is items f = known_from items f 0 ∙ ap is_some (sym (position_from-zero (is_function f) items))

one_more : (o : Option ℕ) (js : List ℕ) (b : Bool) → not_empty js ≡ b → not_empty (added o js) ≡ is_some o || b
one_more None js b h = h
one_more (Some j) js b h = refl

some_called : (items : List Item) (fs : List Ident) → not_empty (callees items fs) ≡ list_any (is_known items) fs
some_called items [] = refl
some_called items (f ∷ fs) =
    one_more (callee items f) (callees items fs) (list_any (is_known items) fs) (some_called items fs)
    ∙ ap (λ b. b || list_any (is_known items) fs) (sym (known_is items f))

one_deep : (D : List Bool) (o : Option ℕ) (js : List ℕ) (b : Bool) → has_deep D js ≡ b → has_deep D (added o js) ≡ deep_of D o || b
one_deep D None js b h = h
one_deep D (Some j) js b h = ap (λ c. get_or D j false || c) h

some_deep : (items : List Item) (d : ℕ) (fs : List Ident) → has_deep (map (nests_in items d) items) (callees items fs) ≡ list_any (λ f. nests items d (calls_in (body_in items f))) fs
some_deep items d [] = refl
some_deep items d (f ∷ fs) =
    one_deep (map (nests_in items d) items) (callee items f) (callees items fs) (list_any (λ g. nests items d (calls_in (body_in items g))) fs) (some_deep items d fs)
    ∙ ap (λ b. b || list_any (λ g. nests items d (calls_in (body_in items g))) fs) (at_callee items d f)

deep_is : (items : List Item) (d : ℕ) → deep_after (graph items) d ≡ map (nests_in items d) items
unfolding nests_in
deep_is items zero = map_twice not_empty (called_by items) items ∙ map_both (λ i. not_empty (called_by items i)) (nests_in items 0) items (λ i. some_called items (calls_in (body_of i)))
deep_is items (suc d) =
    ap (λ D. map (has_deep D) (graph items)) (deep_is items d)
    ∙ map_twice (has_deep (map (nests_in items d) items)) (called_by items) items
    ∙ map_both (λ i. has_deep (map (nests_in items d) items) (called_by items i)) (nests_in items (suc d)) items (λ i. some_deep items d (calls_in (body_of i)))

pub nests_is : (items : List Item) (f : Ident) (d : ℕ) → deep_of (deep_after (graph items) d) (callee items f) ≡ nests items d (calls_in (body_in items f))
nests_is items f d = ap (λ D. deep_of D (callee items f)) (deep_is items d) ∙ at_callee items d f
