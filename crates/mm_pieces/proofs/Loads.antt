-- A load: wm_get in the woven program, what a thread of the machine reads.
use Rattle.std.proofs.Common.{arith, ◌≡◌, ℕ, zero, suc, ◌+◌, ◌*◌, ◌^◌, ◌<◌, ◌≤◌, ℤ, pos, Bool, true, false, List, [], ◌∷◌, length, Some, option_map, unwrap_or, reverse, refl, sym, ◌∙◌, ap, slice_get, slice_set, if◌then◌else◌}
use Rattle.std.specs.Prelude.{◌==◌, find, take, slice_index_or}
use Rattle.std.proofs.Math.Seq.{take-suc}
use Rattle.std.proofs.lemmas.List.{length-set, get_or-set_same, get_or-set_other, reverse-append}
use Rattle.mm_sched.specs.State.{State, Pending, pending_of}
use Rattle.mm_sched.specs.Buffer.{is_to, newest, seen as seen_at}
use Rattle.mm_tree.specs.declared.expr.Expr.{Expr}
use Rattle.mm_words.specs.Words.{num, called}
use Rattle.mm_helpers.specs.Helpers.{wm_mem, wm_get}
use Rattle.mm_flow.specs.declared.names.Named.{Named}
use Rattle.mm_flow.specs.Scopes.{spot_of}
use Rattle.mm_flow.specs.Statements.{Within, function_of, bound, scope}
use Rattle.mm_meaning.specs.Meaning.{View}
use Rattle.mm_meaning.specs.Acting.{at_slot}
use Rattle.mm_meaning.proofs.Looks.{Looks}
use Rattle.mm_meaning.proofs.Does.{Computes}
use Rattle.mm_meaning.proofs.Calls.{Plain, num_plain, PlainAll, no_args, arg, Gives, entered, counted_before, length_set_all, set_all_below, call_computes}
use Rattle.mm_pieces.specs.Mirroring.{Table, IsSmall, array_at, HasArrays, Homes, Mirrors}
use Rattle.mm_pieces.specs.Calling.{Inlines, get_function}
use Rattle.mm_pieces.proofs.Get.{found, get_does}

-- the store k of a row
abbrev pub store_at : List Pending → ℕ → Pending
store_at ps k = slice_index_or ps k (0, pos 0)

-- the search from the end finds the newest
pub found_first : (ps : List Pending) (c j : ℕ) → j ≤ length ps → found (λ k. (store_at ps k).0) (λ k. (store_at ps k).1) c j ≡ option_map (λ q. q.1) (find (is_to c) (reverse (take j ps)))
found_first ps c zero h = refl
found_first ps c (suc j) h =
    ap (λ o. if (store_at ps j).0 == c then Some (store_at ps j).1 else o) (found_first ps c j (omega arith))
    ∙ by ((store_at ps j).0 == c) refl (reverse (take j ps))
    ∙ ap (λ qs. option_map (λ (q : Pending). q.1) (find (is_to c) qs)) (sym (ap reverse (take-suc ps j (0, pos 0) (omega arith)) ∙ reverse-append (take j ps) (store_at ps j ∷ [])))
  where
    by : (x : Bool) → ((store_at ps j).0 == c) ≡ x → (qs : List Pending) → (if x then Some (store_at ps j).1 else option_map (λ (q : Pending). q.1) (find (is_to c) qs)) ≡ option_map (λ (q : Pending). q.1) (find (is_to c) (store_at ps j ∷ qs))
    by true e qs = rw e refl
    by false e qs = rw e refl

pub found_newest : (ps : List Pending) (c : ℕ) → found (λ k. (store_at ps k).0) (λ k. (store_at ps k).1) c (length ps) ≡ newest ps c
found_newest ps c = found_first ps c (length ps) (omega arith) ∙ ap (λ qs. option_map (λ (q : Pending). q.1) (find (is_to c) (reverse qs))) (take_all ps)
  where
    take_all : (qs : List Pending) → take (length qs) qs ≡ qs
    take_all [] = refl
    take_all (q ∷ qs) = ap (λ rs. q ∷ rs) (take_all qs)

cells_small : (ps : List Pending) (bound : ℕ) → 0 < bound → ((k : ℕ) (q : Pending) → slice_get ps k ≡ Some q → q.0 < bound) → (k : ℕ) → (store_at ps k).0 < bound
cells_small [] bound h all k = h
cells_small (q ∷ ps) bound h all zero = all zero q refl
cells_small (q ∷ ps) bound h all (suc k) = cells_small ps bound h (λ i r e. all (suc i) r e) k

pub is_there : (ps : List Pending) (k : ℕ) → k < length ps → slice_get ps k ≡ Some (store_at ps k)
is_there [] k h = absurd (omega arith)
is_there (q ∷ ps) zero h = refl
is_there (q ∷ ps) (suc k) h = is_there ps k (omega arith)

module _ (tb : Table) (count size : ℕ) (home : ℕ → ℕ) (homes : Homes tb count size home) where
  module _ (small : IsSmall tb) (few : count < 2 ^ 31) (fuel m asserts mem : ℕ) (w : Within) (inner : ℕ → Within) (inlines : Inlines w inner) (arrays : (r : ℕ) → HasArrays tb (inner r).parts.spots) (is_mem : (r : ℕ) → spot_of (inner r).parts.spots wm_mem ≡ Some (array_at wm_mem mem count)) (items : function_of w.items w.parts.asserts wm_get ≡ Some (get_function tb.places asserts)) where
    -- the next fresh local behind the call
    abbrev pub get_next : ℕ → ℕ
    get_next k = k + 2 + 1 + 1 + 1 + 1 + 1 + 1

    pub get_agrees : (names : List Named) (a : View) (s : State) (t c k : ℕ) (number : Expr) → Mirrors tb count size home a s → t < tb.rows → m ≤ k → get_next k ≤ length a.locals → Plain fuel m a (scope w names) number (pos c) →
        c < count → home c ≡ mem + c → ((i : ℕ) (q : Pending) → slice_get (pending_of s t) i ≡ Some q → q.0 < count) → length (pending_of s t) < fuel →
        Computes fuel m w names a a k (get_next k) (called wm_get (num t ∷ number ∷ [])) (seen_at s t c)
    get_agrees names a s t c k number like below mk room pc c_below moved inside fueled =
        call_computes wm_get (get_function tb.places asserts) refl items args (λ l look. gives l look)
      where
        ps : List Pending
        ps = pending_of s t

        args : PlainAll fuel m a (scope w names) (num t ∷ number ∷ []) (pos t ∷ pos c ∷ [])
        args = arg (num_plain t) (arg pc no_args)

        into : View → View
        into l = entered l k (pos t ∷ pos c ∷ []) 2

        l1 : View → List ℤ
        l1 l = slice_set l.locals k (pos t)

        l2 : View → List ℤ
        l2 l = slice_set (l1 l) (k + 1) (pos c)

        wide : (l : View) → Looks m l a → length (into l).locals ≡ length a.locals
        wide l look = length-set (l2 l) (k + 2) (pos 0) ∙ length_set_all l.locals k (pos t ∷ pos c ∷ []) ∙ look.many

        old : (l : View) → Looks m l a → (r : ℕ) → r < m → at_slot (into l).locals r ≡ at_slot a.locals r
        old l look r q = get_or-set_other (l2 l) (k + 2) r (pos 0) (pos 0) (omega arith) ∙ set_all_below l.locals k (pos t ∷ pos c ∷ []) r (omega arith) ∙ look.locals r q

        first : (l : View) → Looks m l a → at_slot (into l).locals k ≡ pos t
        first l look = get_or-set_other (l2 l) (k + 2) k (pos 0) (pos 0) (omega arith) ∙ get_or-set_other (l1 l) (k + 1) k (pos c) (pos 0) (omega arith) ∙ get_or-set_same l.locals k (pos t) (pos 0) (omega (arith, look.many))

        second : (l : View) → Looks m l a → at_slot (into l).locals (k + 1) ≡ pos c
        second l look = get_or-set_other (l2 l) (k + 2) (k + 1) (pos 0) (pos 0) (omega arith) ∙ get_or-set_same (l1 l) (k + 1) (pos c) (pos 0) (omega (arith, look.many, length-set l.locals k (pos t)))

        length_is : (l : View) → Looks m l a → at_slot (into l).memory (tb.lens + t) ≡ pos (length (pending_of s t))
        length_is l look = ap (λ (x : List ℤ). at_slot x (tb.lens + t)) look.memory ∙ like.held.lens t below

        gives : (l : View) → Looks m l a → Gives fuel m w (get_function tb.places asserts) k (get_next k) (pos t ∷ pos c ∷ []) a (seen_at s t c) l
        gives l look = (let g = get_does tb small count mem fuel (inner (k + 2)) (counted_before (get_function tb.places asserts)) (arrays (k + 2)) (is_mem (k + 2)) k (k + 1) (k + 2) (k + 2 + 1) (omega arith) (omega arith) (omega arith) (omega arith) (inlines.ret (k + 2)) t c below (omega arith)
            (λ i. (store_at (pending_of s t) i).0) (λ i. (store_at (pending_of s t) i).1) (λ i. (let h = cells_small (pending_of s t) count (omega arith) inside i in omega arith))
            (into l) (length (pending_of s t)) (first l look) (second l look) (length_is l look) c_below (like.held.fits t below) fueled (omega (arith, wide l look))
            (λ i q. ap (λ (x : List ℤ). at_slot x (tb.cells + (t * tb.places + i))) look.memory ∙ like.held.cells t i (store_at (pending_of s t) i) below (is_there (pending_of s t) i q))
            (λ i q. ap (λ (x : List ℤ). at_slot x (tb.vals + (t * tb.places + i))) look.memory ∙ like.held.vals t i (store_at (pending_of s t) i) below (is_there (pending_of s t) i q)) in record {
              end = g.0;
              body = record { inner = inner (k + 2); later = counted_before (get_function tb.places asserts); is = inlines.by (get_function tb.places asserts) (bound (get_function tb.places asserts).params k) (k + 2 + 1) (k + 2); does = g.1 };
              like = record { memory = g.2.memory ∙ look.memory; inputs = g.2.inputs ∙ look.inputs; many = g.2.many ∙ wide l look; locals = λ r q. g.2.locals r (omega arith) (omega arith) ∙ old l look r q };
              value = g.3 ∙ ap (λ o. unwrap_or o (at_slot l.memory (mem + c))) (found_newest (pending_of s t) c)
                  ∙ ap (λ z. unwrap_or (newest (pending_of s t) c) z) (ap (λ (x : List ℤ). at_slot x (mem + c)) look.memory ∙ ap (at_slot a.memory) (sym moved) ∙ like.memory c c_below);
            })
