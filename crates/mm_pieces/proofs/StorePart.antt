-- A store that is buffered under PSO: wm_put in the woven program, one more pending store in the machine.
use Rattle.std.proofs.Common.{arith, ◌≡◌, ℕ, ◌+◌, ◌*◌, ◌<◌, ◌≤◌, ⊎_elim, ℤ, pos, List, [], ◌∷◌, length, Some, refl, ◌∙◌, ap, slice_set, nat_lt, if◌then◌else◌}
use Rattle.std.proofs.lemmas.List.{length-set, get_or-set_other}
use Rattle.std.proofs.lemmas.Bool.{lt-ltb, le-ltb, cases_lt}
use Rattle.mm_sched.specs.State.{State}
use Rattle.mm_tree.specs.declared.expr.Expr.{Expr}
use Rattle.mm_words.specs.Words.{num, call}
use Rattle.mm_helpers.specs.Helpers.{wm_put, pso_put}
use Rattle.mm_flow.specs.declared.names.Named.{Named}
use Rattle.mm_flow.specs.declared.names.Seen.{Seen}
use Rattle.mm_flow.specs.Statements.{Within, function_of, bound, scope}
use Rattle.mm_meaning.specs.Meaning.{View, Outcome, Done, Halted, caught}
use Rattle.mm_meaning.specs.Acting.{at_slot}
use Rattle.mm_meaning.proofs.Looks.{Looks}
use Rattle.mm_meaning.proofs.Alike.{Alike}
use Rattle.mm_meaning.proofs.Does.{Does, DoesAll}
use Rattle.mm_meaning.proofs.Calls.{Plain, num_plain, PlainAll, no_args, arg, Called, entered, counted_before, calls}
use Rattle.mm_pieces.specs.Calling.{Inlines, body_of}
use Rattle.mm_pieces.specs.Parts.{PartTable, AreFew, HasPartArrays, PartHomes, MirrorsParts, parts_of, pso_put_function}
use Rattle.mm_pieces.proofs.Entering.{entered_wide, entered_old, entered_arg}
use Rattle.mm_pieces.proofs.HeldPart.{with_value}
use Rattle.mm_pieces.proofs.PutPart.{put_part_in, put_part_does, put_part_halts}

module _ (tb : PartTable) (size : ℕ) (home : ℕ → ℕ) (homes : PartHomes tb size home) (few : AreFew tb) (fuel m asserts : ℕ) (w : Within) (inner : ℕ → Within) (inlines : Inlines w inner) (arrays : (r : ℕ) → HasPartArrays tb (inner r).parts.spots) (items : function_of w.items w.parts.asserts wm_put ≡ Some (pso_put_function tb asserts)) where
  -- the next fresh local behind the call
  abbrev pub put_part_next : ℕ → ℕ
  put_part_next k = k + 3 + 1 + 1 + 1 + 1 + 1

  -- the view behind the call
  abbrev pub put_part_view : View → State → (t c : ℕ) → ℤ → View
  put_part_view a s t c v = record { memory = with_value tb a.memory (t * tb.cells + c) (length (parts_of s t c)) v; locals = a.locals; inputs = a.inputs }

  pub put_part_agrees : (names : List Named) (seen : Seen) (a : View) (s : State) (t c k : ℕ) (v : ℤ) (number value : Expr) → MirrorsParts tb size home a s → t < tb.threads → c < tb.cells → m ≤ k → put_part_next k ≤ length a.locals → Plain fuel m a (scope w names) number (pos c) → Plain fuel m a (scope w names) value v →
      Does fuel m w names a seen k seen (put_part_next k) (call wm_put (num t ∷ number ∷ value ∷ [])) (if nat_lt (length (parts_of s t c)) tb.places then Done (put_part_view a s t c v) else Halted)
  put_part_agrees names seen a s t c k v number value like lt lc mk room pc pv = calls wm_put (pso_put_function tb asserts) refl items args (λ l look. ⊎_elim (λ h. stored l look h) (λ h. halted l look h) (cases_lt n tb.places))
    where
      n : ℕ
      n = length (parts_of s t c)

      counted : Seen
      counted = counted_before (pso_put_function tb asserts)

      args : PlainAll fuel m a (scope w names) (num t ∷ number ∷ value ∷ []) (pos t ∷ pos c ∷ v ∷ [])
      args = arg (num_plain t) (arg pc (arg pv no_args))

      into : View → View
      into l = entered l k (pos t ∷ pos c ∷ v ∷ []) 3

      wide : (l : View) → Looks m l a → length (into l).locals ≡ length a.locals
      wide l look = entered_wide mk (pos t ∷ pos c ∷ v ∷ []) (omega arith) l look

      first : (l : View) → Looks m l a → at_slot (into l).locals k ≡ pos t
      first l look = entered_arg mk (pos t ∷ pos c ∷ v ∷ []) (omega arith) l look k 0 (pos t) (omega arith) (omega arith) refl

      second : (l : View) → Looks m l a → at_slot (into l).locals (k + 1) ≡ pos c
      second l look = entered_arg mk (pos t ∷ pos c ∷ v ∷ []) (omega arith) l look (k + 1) 1 (pos c) (omega arith) (omega arith) refl

      third : (l : View) → Looks m l a → at_slot (into l).locals (k + 1 + 1) ≡ v
      third l look = entered_arg mk (pos t ∷ pos c ∷ v ∷ []) (omega arith) l look (k + 1 + 1) 2 v (omega arith) (omega arith) refl

      length_is : (l : View) → Looks m l a → at_slot (into l).memory (tb.lens + (t * tb.cells + c)) ≡ pos (length (parts_of s t c))
      length_is l look = ap (λ (mem : List ℤ). at_slot mem (tb.lens + (t * tb.cells + c))) look.memory ∙ like.held.lens t c lt lc

      called : (l : View) → Looks m l a → (end o : Outcome) → DoesAll fuel (k + 3 + 1) (inner (k + 3)) (bound (pso_put_function tb asserts).params k) (into l) counted (k + 3 + 1) counted (put_part_next k) (body_of (pso_put tb.cells tb.places)) end → Alike m (caught end) o → Called fuel m w (pso_put_function tb asserts) k (put_part_next k) (pos t ∷ pos c ∷ v ∷ []) l o
      called l look end o d same = record { end = end; body = record { inner = inner (k + 3); later = counted; is = inlines.by (pso_put_function tb asserts) (bound (pso_put_function tb asserts).params k) (k + 3 + 1) (k + 3); does = d }; like = same }

      stored : (l : View) → Looks m l a → length (parts_of s t c) < tb.places → Called fuel m w (pso_put_function tb asserts) k (put_part_next k) (pos t ∷ pos c ∷ v ∷ []) l (if nat_lt (length (parts_of s t c)) tb.places then Done (put_part_view a s t c v) else Halted)
      stored l look h = rw (lt-ltb (length (parts_of s t c)) tb.places h) (called l look (Done (put_part_in tb few fuel (inner (k + 3)) (arrays (k + 3)) k (k + 1) (k + 1 + 1) (k + 3 + 1) (omega arith) (omega arith) (omega arith) counted homes.lens (into l) (t * tb.cells + c) (length (parts_of s t c)) v)) (Done (put_part_view a s t c v))
          (put_part_does tb few fuel (inner (k + 3)) (arrays (k + 3)) k (k + 1) (k + 1 + 1) (k + 3 + 1) (omega arith) (omega arith) (omega arith) counted homes.lens (into l) t c (length (parts_of s t c)) v (first l look) (second l look) (third l look) (length_is l look) lt lc h (omega (arith, wide l look)))
          (record {
            memory = ap (λ (x : List ℤ). with_value tb x (t * tb.cells + c) (length (parts_of s t c)) v) look.memory;
            inputs = look.inputs;
            many = length-set (slice_set (into l).locals (k + 3 + 1) (pos 0)) (k + 3 + 1) (pos (t * tb.cells + c)) ∙ length-set (into l).locals (k + 3 + 1) (pos 0) ∙ wide l look;
            locals = λ r q. get_or-set_other (slice_set (into l).locals (k + 3 + 1) (pos 0)) (k + 3 + 1) r (pos (t * tb.cells + c)) (pos 0) (omega arith) ∙ get_or-set_other (into l).locals (k + 3 + 1) r (pos 0) (pos 0) (omega arith) ∙ entered_old mk (pos t ∷ pos c ∷ v ∷ []) (omega arith) l look r q;
          }))

      halted : (l : View) → Looks m l a → tb.places ≤ length (parts_of s t c) → Called fuel m w (pso_put_function tb asserts) k (put_part_next k) (pos t ∷ pos c ∷ v ∷ []) l (if nat_lt (length (parts_of s t c)) tb.places then Done (put_part_view a s t c v) else Halted)
      halted l look h = rw (le-ltb (length (parts_of s t c)) tb.places h) (called l look Halted Halted
          (put_part_halts tb few fuel (inner (k + 3)) (arrays (k + 3)) k (k + 1) (k + 1 + 1) (k + 3 + 1) (omega arith) (omega arith) (omega arith) counted homes.lens (into l) t c (length (parts_of s t c)) (first l look) (second l look) (length_is l look) lt lc h (omega (arith, wide l look))) tt)
