-- Notes of which a program is accepted: no fault, only calls of functions further up, and starts and joins in a good order.
use Rattle.std.proofs.Common.{◌≡◌, ℕ, zero, suc, ◌<◌, ◌≤◌, nat_lt, Bool, true, false, not, ◌&&◌, ◌||◌, if◌then◌else◌, List, [], ◌∷◌, ◌++◌, map, length, slice_get, append_assoc, append-nil, arith, refl, ◌∙◌, sym, ap, Some}
use Rattle.std.specs.Prelude.{filter_map, take}
use Rattle.std.specs.List.{Contains, list_any, list_all, slice_index_or}
use Rattle.std.proofs.lemmas.Bool.Decides.{nat_tests}
use Rattle.std.proofs.lemmas.Bool.{and_parts}
use Rattle.mm_tree.specs.Places.{nowhere, without_places}
use Rattle.mm_tree.specs.declared.item.Tree.{Tree}
use Rattle.mm_tree.specs.declared.side.Side.{Side}
use Rattle.mm_scope.specs.declared.fault.Fault.{Fault}
use Rattle.mm_scope.specs.declared.notes.Call.{Call}
use Rattle.mm_scope.specs.Notes.{Note, Use, a_fault, a_call, a_use, an_assertion}
use Rattle.mm_names.specs.Calls.{Reaches, itself, through}
use Rattle.mm_names.specs.Programs.{notes_of, call_in, use_in, has_main, IsFault, noted, misused, recursive, IsAccepted}
use Rattle.mm_names.specs.Threads.{starts, is_of_one, is_start_of, is_join_of, is_misused}
use Rattle.mm_sensible.proofs.BareOperands.{bare_note, bare_notes}
use Rattle.mm_sensible.proofs.BareItems.{notes_bare, main_kept}
use Rattle.mm_sensible.proofs.MovedMemory.{contained}

-- it is no fault, and where it is a call, it is one of a function further up
abbrev pub is_fine : Note → Bool
is_fine (a_fault f) = false
is_fine (a_call c) = nat_lt c.callee c.caller
is_fine (a_use u) = true
is_fine an_assertion = true

-- none of these is misused behind those
abbrev pub are_orderly : List Use → List Use → Bool
are_orderly before [] = true
are_orderly before (u ∷ us) = not (is_misused before u) && are_orderly (before ++ u ∷ []) us

abbrev pub uses_in : List Note → List Use
uses_in ns = filter_map use_in ns

pub record IsSound (ns : List Note) : Type 0 where
  pub fine : list_all is_fine ns ≡ true
  pub orderly : are_orderly [] (uses_in ns) ≡ true

-- ---- without places

abbrev bare_use : Use → Use
bare_use u = record u { at = nowhere }

fine_bare : (n : Note) → is_fine (bare_note n) ≡ is_fine n
fine_bare (a_fault f) = refl
fine_bare (a_call c) = refl
fine_bare (a_use u) = refl
fine_bare an_assertion = refl

all_fine_bare : (ns : List Note) → list_all is_fine (bare_notes ns) ≡ list_all is_fine ns
all_fine_bare [] = refl
all_fine_bare (n ∷ ns) = ap (λ b. b && list_all is_fine (bare_notes ns)) (fine_bare n) ∙ ap (λ b. is_fine n && b) (all_fine_bare ns)

uses_bare : (ns : List Note) → uses_in (bare_notes ns) ≡ map bare_use (uses_in ns)
uses_bare [] = refl
uses_bare (a_fault f ∷ ns) = uses_bare ns
uses_bare (a_call c ∷ ns) = uses_bare ns
uses_bare (a_use u ∷ ns) = ap (λ us. bare_use u ∷ us) (uses_bare ns)
uses_bare (an_assertion ∷ ns) = uses_bare ns

any_start_bare : (u : Use) (us : List Use) → list_any (is_start_of (bare_use u)) (map bare_use us) ≡ list_any (is_start_of u) us
unfolding is_start_of
any_start_bare u [] = refl
any_start_bare u (v ∷ us) = ap (λ b. (is_of_one u v && starts v) || b) (any_start_bare u us)

any_join_bare : (u : Use) (us : List Use) → list_any (is_join_of (bare_use u)) (map bare_use us) ≡ list_any (is_join_of u) us
unfolding is_join_of
any_join_bare u [] = refl
any_join_bare u (v ∷ us) = ap (λ b. (is_of_one u v && not (starts v)) || b) (any_join_bare u us)

misused_bare : (before : List Use) (u : Use) → is_misused (map bare_use before) (bare_use u) ≡ is_misused before u
unfolding is_misused
misused_bare before u =
    ap (λ b. if starts u then b else not b || list_any (is_join_of (bare_use u)) (map bare_use before)) (any_start_bare u before)
    ∙ ap (λ b. if starts u then list_any (is_start_of u) before else not (list_any (is_start_of u) before) || b) (any_join_bare u before)

map_more : (us : List Use) (u : Use) → map bare_use us ++ bare_use u ∷ [] ≡ map bare_use (us ++ u ∷ [])
map_more [] u = refl
map_more (v ∷ us) u = ap (λ vs. bare_use v ∷ vs) (map_more us u)

orderly_bare : (before us : List Use) → are_orderly (map bare_use before) (map bare_use us) ≡ are_orderly before us
orderly_bare before [] = refl
orderly_bare before (u ∷ us) =
    ap (λ b. not b && are_orderly (map bare_use before ++ bare_use u ∷ []) (map bare_use us)) (misused_bare before u)
    ∙ ap (λ vs. not (is_misused before u) && are_orderly vs (map bare_use us)) (map_more before u)
    ∙ ap (λ b. not (is_misused before u) && b) (orderly_bare (before ++ u ∷ []) us)

pub sound_bare : (ns ms : List Note) → bare_notes ns ≡ bare_notes ms → IsSound ns → IsSound ms
sound_bare ns ms e s = record {
  fine = sym (all_fine_bare ms) ∙ sym (ap (list_all is_fine) e) ∙ all_fine_bare ns ∙ s.fine;
  orderly = sym (orderly_bare [] (uses_in ms)) ∙ ap (are_orderly []) (sym (uses_bare ms) ∙ sym (ap uses_in e) ∙ uses_bare ns) ∙ orderly_bare [] (uses_in ns) ∙ s.orderly;
}

-- ---- a program of sound notes

not_true : (b : Bool) → not b ≡ true → b ≡ false
not_true false e = refl
not_true true e = cc

true_false : {b : Bool} → b ≡ true → b ≡ false → ⊥
true_false p q = cc

-- what holds of each of a list holds of the one at a place
all_at_place : {X : Type 0} (f : X → Bool) (xs : List X) (x : X) (k : ℕ) → list_all f xs ≡ true → k < length xs → slice_index_or xs k x ≡ x → f x ≡ true
all_at_place f [] x k e low is = absurd (omega (arith, low))
all_at_place f (y ∷ xs) x zero e low is = ap f (sym is) ∙ (and_parts (f y) (list_all f xs) e).0
all_at_place f (y ∷ xs) x (suc k) e low is = all_at_place f xs x k (and_parts (f y) (list_all f xs) e).1 (omega (arith, low)) is

-- what holds of each of a list holds of one that stands in it
all_one : {X : Type 0} (f : X → Bool) (xs : List X) (x : X) → list_all f xs ≡ true → Contains xs x → f x ≡ true
all_one f xs x e has = all_at_place f xs x has.0 e has.1 has.2

descends : Call → Bool
descends c = nat_lt c.callee c.caller

all_calls : (ns : List Note) → list_all is_fine ns ≡ true → list_all descends (filter_map call_in ns) ≡ true
unfolding descends
all_calls [] e = refl
all_calls (a_fault f ∷ ns) e = cc
all_calls (a_call c ∷ ns) e = let both = and_parts (nat_lt c.callee c.caller) (list_all is_fine ns) e in ap (λ b. b && list_all descends (filter_map call_in ns)) both.0 ∙ all_calls ns both.1
all_calls (a_use u ∷ ns) e = all_calls ns e
all_calls (an_assertion ∷ ns) e = all_calls ns e

less : (m n : ℕ) → nat_lt m n ≡ true → m < n
less m n e = grind (arith, nat_tests)

-- a function reaches only those further up
reaches_up : {calls : List Call} {f g : ℕ} → list_all descends calls ≡ true → Reaches calls f g → g ≤ f
unfolding descends
reaches_up e itself = omega arith
reaches_up {calls} e (through c has r) =
    let low = less c.callee c.caller (all_one descends calls c e has) in
    let further = reaches_up e r in
    omega (arith, low, further)

orderly_at : (before us : List Use) (k : ℕ) (u : Use) → are_orderly before us ≡ true → slice_get us k ≡ Some u → is_misused (before ++ take k us) u ≡ false
orderly_at before [] k u e at = cc
orderly_at before (v ∷ us) zero u e at =
    ap (λ vs. is_misused vs u) (append-nil before)
    ∙ ap (is_misused before) (sym (by at))
    ∙ not_true (is_misused before v) (and_parts (not (is_misused before v)) (are_orderly (before ++ v ∷ []) us) e).0
  where
    by : Some v ≡ Some u → v ≡ u
    by q = cc
orderly_at before (v ∷ us) (suc k) u e at =
    ap (λ vs. is_misused vs u) (sym (append_assoc before (v ∷ []) (take k us)))
    ∙ orderly_at (before ++ v ∷ []) us k u (and_parts (not (is_misused before v)) (are_orderly (before ++ v ∷ []) us) e).1 at

-- a program with a main and sound notes is accepted
pub sound_accepted : (side : Side) (tree : Tree) → has_main tree ≡ true → IsSound (notes_of side tree) → IsAccepted side tree
unfolding descends
sound_accepted side tree main s = record { main = main; no_fault = λ f fault. by f fault }
  where
    by : (f : Fault) → IsFault side tree f → ⊥
    by f (noted has) = true_false (all_one is_fine (notes_of side tree) (a_fault f) s.fine has) refl
    by f (misused k m) = true_false m.misused (orderly_at [] (uses_in (notes_of side tree)) k m.it s.orderly m.is_k)
    by f (recursive k r) =
        let calls : List Call = filter_map call_in (notes_of side tree) in
        let down = all_calls (notes_of side tree) s.fine in
        let low = less r.call.callee r.call.caller (all_one descends calls r.call down (contained calls k r.call r.is_k)) in
        let up = reaches_up down r.reaches in
        omega (arith, low, up)

-- a program that differs from such a one in its places alone
pub accepted_but_for_places : (side : Side) (u v : Tree) → without_places u ≡ without_places v → has_main v ≡ true → IsSound (notes_of side v) → IsAccepted side u
accepted_but_for_places side u v e main s =
    sound_accepted side u (sym (main_kept u) ∙ ap has_main e ∙ main_kept v ∙ main)
    (sound_bare (notes_of side v) (notes_of side u) (sym (notes_bare side v) ∙ ap (notes_of side) (sym e) ∙ notes_bare side u) s)
