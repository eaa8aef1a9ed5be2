-- A store that is buffered: wm_put in the woven program, one more pending store in the machine.
use Rattle.std.proofs.Common.{suc, Option, arith, ◌≡◌, ℕ, ◌+◌, ◌*◌, ◌<◌, ◌≤◌, ⊎_elim, ℤ, pos, Bool, true, false, List, [], ◌∷◌, ◌++◌, length, Some, None, refl, sym, ◌∙◌, ap, subst, slice_set, nat_lt, if◌then◌else◌}
use Rattle.std.specs.Prelude.{◌==◌}
use Rattle.std.proofs.lemmas.List.{length-set, get_or-set_same, get_or-set_other}
use Rattle.std.proofs.lemmas.Nat.{mul-add-lt}
use Rattle.std.proofs.lemmas.Bool.{lt-ltb, le-ltb, cases_lt}
use Rattle.mm_sched.specs.State.{State, pending_of}
use Rattle.mm_sched.specs.Event.{pushed}
use Rattle.mm_tree.specs.declared.expr.Expr.{Expr}
use Rattle.mm_tree.specs.declared.item.Item.{Item}
use Rattle.mm_flow.specs.declared.names.Parts.{Parts}
use Rattle.mm_words.specs.Words.{num, call}
use Rattle.mm_helpers.specs.Helpers.{wm_put, tso_put}
use Rattle.mm_flow.specs.declared.names.Named.{Named}
use Rattle.mm_flow.specs.declared.names.Seen.{Seen}
use Rattle.mm_flow.specs.Statements.{inline_at, Within, function_of, bound, scope}
use Rattle.mm_meaning.specs.Meaning.{View, Outcome, Done, Halted, caught, pick}
use Rattle.mm_meaning.specs.Acting.{at_slot}
use Rattle.mm_meaning.proofs.Looks.{Looks}
use Rattle.mm_meaning.proofs.Alike.{Alike}
use Rattle.mm_meaning.proofs.Does.{Does, DoesAll}
use Rattle.mm_meaning.proofs.Calls.{Plain, num_plain, PlainAll, no_args, arg, Called, entered, counted_before, length_set_all, set_all_below, calls}
use Rattle.mm_pieces.specs.Calling.{Inlines, body_of, put_function}
use Rattle.mm_pieces.specs.Mirroring.{Table, IsSmall, HasArrays, Held, Homes, Mirrors, Agrees}
use Rattle.mm_pieces.proofs.Held.{held_put, held_same, updated, is_b, not_b}
use Rattle.mm_pieces.proofs.Put.{put_in, put_does, put_halts}

module _ (tb : Table) (count size : ℕ) (home : ℕ → ℕ) (homes : Homes tb count size home) where
  same_rows : (s : State) (t : ℕ) (c : ℕ) (v : ℤ) (b : ℕ) → t < length s.pending → (x : Bool) → (b == t) ≡ x → pick x (pending_of s t ++ (c, v) ∷ []) (pending_of s b) ≡ pending_of (pushed s t c v) b
  same_rows s t c v b h true e = subst (λ i. pending_of s t ++ (c, v) ∷ [] ≡ pending_of (pushed s t c v) i) (sym (is_b b t e)) (sym (get_or-set_same s.pending t (pending_of s t ++ (c, v) ∷ []) [] h))
  same_rows s t c v b h false e = sym (get_or-set_other s.pending t b (pending_of s t ++ (c, v) ∷ []) [] (not_b b t e))

  -- memory with one more store in row t
  abbrev pub with_put : List ℤ → (t n c : ℕ) → ℤ → List ℤ
  with_put mem t n c v = slice_set (slice_set (slice_set mem (tb.cells + (t * tb.places + n)) (pos c)) (tb.vals + (t * tb.places + n)) v) (tb.lens + t) (pos (n + 1))

  pub mirrors_put : (a : View) (s : State) (t c : ℕ) (v : ℤ) → Mirrors tb count size home a s → t < tb.rows → length (pending_of s t) < tb.places →
      (b : View) → b.memory ≡ with_put a.memory t (length (pending_of s t)) c v → Mirrors tb count size home b (pushed s t c v)
  mirrors_put a s t c v m below room b e =
      let inside : t * tb.places + length (pending_of s t) < tb.rows * tb.places = (let h = mul-add-lt t tb.places (length (pending_of s t)) tb.rows below room in omega arith) in
      let h1 = homes.lens in let h2 = homes.cells in let h3 = homes.vals in
      record {
        size_is = ap length e ∙ length-set _ (tb.lens + t) _ ∙ length-set _ (tb.vals + (t * tb.places + length (pending_of s t))) v ∙ length-set a.memory _ (pos c) ∙ m.size_is;
        threads = length-set s.pending t _ ∙ m.threads;
        memory = λ i below2. ap (λ (mem : List ℤ). at_slot mem (home i)) e
            ∙ get_or-set_other _ (tb.lens + t) (home i) _ (pos 0) (let q = homes.before i below2 in omega arith)
            ∙ get_or-set_other _ (tb.vals + (t * tb.places + length (pending_of s t))) (home i) v (pos 0) (let q = homes.before i below2 in omega arith)
            ∙ get_or-set_other a.memory (tb.cells + (t * tb.places + length (pending_of s t))) (home i) (pos c) (pos 0) (let q = homes.before i below2 in omega arith)
            ∙ m.memory i below2;
        held = subst (λ mem. Held tb mem (pending_of (pushed s t c v))) (sym e)
            (held_same tb homes.lens homes.cells _ (updated (pending_of s) t (pending_of s t ++ (c, v) ∷ [])) (pending_of (pushed s t c v)) (λ i q. same_rows s t c v i (omega (arith, m.threads)) (i == t) refl)
            (held_put tb homes.lens homes.cells a.memory (pending_of s) t c v m.held below room (omega (arith, m.size_is))));
      }

  module _ (small : IsSmall tb) (fuel m asserts : ℕ) (w : Within) (inner : ℕ → Within) (inlines : Inlines w inner) (arrays : (r : ℕ) → HasArrays tb (inner r).parts.spots) (items : function_of w.items w.parts.asserts wm_put ≡ Some (put_function tb.places asserts)) where
    -- the next fresh local behind the call
    abbrev pub put_next : ℕ → ℕ
    put_next k = k + 3 + 1 + 1 + 1 + 1 + 1

    -- the view behind the call
    abbrev pub put_view : View → State → (t c : ℕ) → ℤ → View
    put_view a s t c v = record { memory = with_put a.memory t (length (pending_of s t)) c v; locals = a.locals; inputs = a.inputs }

    -- the store is pending, and the caller's locals and inputs stay
    abbrev pub Pushed : View → View → State → Type 0
    Pushed a b q = Mirrors tb count size home b q × (b.locals ≡ a.locals) × (b.inputs ≡ a.inputs)

    pub put_agrees : (names : List Named) (seen : Seen) (a : View) (s : State) (t c k : ℕ) (v : ℤ) (number value : Expr) → Mirrors tb count size home a s → t < tb.rows → m ≤ k → put_next k ≤ length a.locals → Plain fuel m a (scope w names) number (pos c) → Plain fuel m a (scope w names) value v →
        (o : Outcome) × Does fuel m w names a seen k seen (put_next k) (call wm_put (num t ∷ number ∷ value ∷ [])) o × Agrees (Pushed a) o (if nat_lt (length (pending_of s t)) tb.places then Some (pushed s t c v) else None)
    put_agrees names seen a s t c k v number value like below mk room pc pv =
        ⊎_elim
        (λ h. (
          Done (put_view a s t c v),
          calls wm_put (put_function tb.places asserts) refl items args (λ l look. called l look (Done (put_in tb small fuel (k + 3 + 1) (inner (k + 3)) (arrays (k + 3)) k (k + 1) (k + 1 + 1) (omega arith) (omega arith) (omega arith) counted homes.lens homes.cells (into l) t n c v)) (Done (put_view a s t c v))
              (put_does tb small fuel (k + 3 + 1) (inner (k + 3)) (arrays (k + 3)) k (k + 1) (k + 1 + 1) (omega arith) (omega arith) (omega arith) counted homes.lens homes.cells (into l) t n c (k + 3 + 1) v (first l look) (second l look) (third l look) (length_is l look) below h)
              (record { memory = ap (λ (mem : List ℤ). with_put mem t n c v) look.memory; inputs = look.inputs; many = wide l look; locals = λ r q. old l look r q })),
          rw (lt-ltb n tb.places h) (mirrors_put a s t c v like below h (put_view a s t c v) refl, refl, refl),
        ))
        (λ h. (
          Halted,
          calls wm_put (put_function tb.places asserts) refl items args (λ l look. called l look Halted Halted
              (put_halts tb small fuel (k + 3 + 1) (inner (k + 3)) (arrays (k + 3)) k (k + 1) (k + 1 + 1) (omega arith) (omega arith) (omega arith) counted homes.lens homes.cells (into l) t n (k + 3 + 1) (first l look) (length_is l look) below h) tt),
          rw (le-ltb n tb.places h) tt,
        ))
        (cases_lt n tb.places)
      where
        n : ℕ
        n = length (pending_of s t)

        counted : Seen
        counted = counted_before (put_function tb.places asserts)

        args : PlainAll fuel m a (scope w names) (num t ∷ number ∷ value ∷ []) (pos t ∷ pos c ∷ v ∷ [])
        args = arg (num_plain t) (arg pc (arg pv no_args))

        into : View → View
        into l = entered l k (pos t ∷ pos c ∷ v ∷ []) 3

        wide : (l : View) → Looks m l a → length (into l).locals ≡ length a.locals
        wide l look = length-set _ (k + 3) (pos 0) ∙ length_set_all l.locals k (pos t ∷ pos c ∷ v ∷ []) ∙ look.many

        old : (l : View) → Looks m l a → (r : ℕ) → r < m → at_slot (into l).locals r ≡ at_slot a.locals r
        old l look r q = get_or-set_other _ (k + 3) r (pos 0) (pos 0) (omega arith) ∙ set_all_below l.locals k (pos t ∷ pos c ∷ v ∷ []) r (omega arith) ∙ look.locals r q

        l1 : View → List ℤ
        l1 l = slice_set l.locals k (pos t)

        l2 : View → List ℤ
        l2 l = slice_set (l1 l) (k + 1) (pos c)

        first : (l : View) → Looks m l a → at_slot (into l).locals k ≡ pos t
        first l look = get_or-set_other _ (k + 3) k (pos 0) (pos 0) (omega arith) ∙ get_or-set_other (l2 l) (k + 1 + 1) k v (pos 0) (omega arith) ∙ get_or-set_other (l1 l) (k + 1) k (pos c) (pos 0) (omega arith) ∙ get_or-set_same l.locals k (pos t) (pos 0) (omega (arith, look.many))

        second : (l : View) → Looks m l a → at_slot (into l).locals (k + 1) ≡ pos c
        second l look = get_or-set_other _ (k + 3) (k + 1) (pos 0) (pos 0) (omega arith) ∙ get_or-set_other (l2 l) (k + 1 + 1) (k + 1) v (pos 0) (omega arith) ∙ get_or-set_same (l1 l) (k + 1) (pos c) (pos 0) (omega (arith, look.many, length-set l.locals k (pos t)))

        third : (l : View) → Looks m l a → at_slot (into l).locals (k + 1 + 1) ≡ v
        third l look = get_or-set_other _ (k + 3) (k + 1 + 1) (pos 0) (pos 0) (omega arith) ∙ get_or-set_same (l2 l) (k + 1 + 1) v (pos 0) (omega (arith, look.many, length-set (l1 l) (k + 1) (pos c), length-set l.locals k (pos t)))

        length_is : (l : View) → Looks m l a → at_slot (into l).memory (tb.lens + t) ≡ pos n
        length_is l look = ap (λ (mem : List ℤ). at_slot mem (tb.lens + t)) look.memory ∙ like.held.lens t below

        called : (l : View) → Looks m l a → (end o : Outcome) → DoesAll fuel (k + 3 + 1) (inner (k + 3)) (bound (put_function tb.places asserts).params k) (into l) counted (k + 3 + 1) counted (put_next k) (body_of (tso_put tb.places)) end → Alike m (caught end) o → Called fuel m w (put_function tb.places asserts) k (put_next k) (pos t ∷ pos c ∷ v ∷ []) l o
        called l look end o d same = record { end = end; body = record { inner = inner (k + 3); later = counted; is = inlines.by (put_function tb.places asserts) (bound (put_function tb.places asserts).params k) (k + 3 + 1) (k + 3); does = d }; like = same }

-- what flattening gives does so
pub inlines_at : (parts : Parts) (items : List Item) (d : ℕ) (ret : Option ℕ) → Inlines (record { parts = parts; items = items; inline = inline_at parts items (suc d); ret = ret }) (λ r. record { parts = parts; items = items; inline = inline_at parts items d; ret = Some r })
inlines_at parts items d ret = record { by = λ f names k r. refl; ret = λ r. refl }
