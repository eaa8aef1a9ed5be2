-- A load under PSO: wm_get in the woven program, what a thread of the machine reads.
use Rattle.std.proofs.Common.{arith, ◌≡◌, ℕ, zero, suc, ◌+◌, ◌*◌, ◌<◌, ◌≤◌, ℤ, pos, List, [], ◌∷◌, length, Some, unwrap_or, refl, sym, ◌∙◌, ap, slice_get, slice_set}
use Rattle.std.proofs.lemmas.List.{length-set, get_or-set_same, get_or-set_other}
use Rattle.mm_sched.specs.State.{State, Pending, pending_of, at_cell}
use Rattle.mm_sched.specs.Buffer.{seen as seen_at}
use Rattle.mm_tree.specs.declared.expr.Expr.{Expr}
use Rattle.mm_words.specs.Words.{num, called}
use Rattle.mm_helpers.specs.Helpers.{wm_get}
use Rattle.mm_flow.specs.declared.names.Named.{Named}
use Rattle.mm_flow.specs.declared.names.Seen.{Seen}
use Rattle.mm_flow.specs.Statements.{Within, function_of, bound, scope}
use Rattle.mm_meaning.specs.Meaning.{View}
use Rattle.mm_meaning.specs.Acting.{at_slot, let_local}
use Rattle.mm_meaning.proofs.Looks.{Looks}
use Rattle.mm_meaning.proofs.Does.{Computes}
use Rattle.mm_meaning.proofs.Calls.{Plain, num_plain, PlainAll, no_args, arg, Gives, entered, counted_before, call_computes}
use Rattle.mm_pieces.specs.Calling.{Inlines}
use Rattle.mm_pieces.specs.Parts.{PartTable, AreFew, SeesParts, MirrorsParts, parts_of, pso_get_function}
use Rattle.mm_pieces.proofs.Entering.{entered_wide, entered_old, entered_arg}
use Rattle.mm_pieces.proofs.Loads.{store_at, is_there}
use Rattle.mm_pieces.proofs.NewestPart.{newest_last, last_value, last_at}
use Rattle.mm_pieces.proofs.GetPart.{got, got_row, get_part_does}

module _ (tb : PartTable) (size : ℕ) (home : ℕ → ℕ) (few : AreFew tb) (fuel m asserts mem : ℕ) (w : Within) (inner : ℕ → Within) (inlines : Inlines w inner) (sees : SeesParts tb mem inner) (items : function_of w.items w.parts.asserts wm_get ≡ Some (pso_get_function tb asserts)) where
  -- the next fresh local behind the call
  abbrev pub get_part_next : ℕ → ℕ
  get_part_next k = k + 2 + 1 + 1 + 1 + 1 + 1 + 1

  pub get_part_agrees : (names : List Named) (a : View) (s : State) (t c k : ℕ) (number : Expr) → MirrorsParts tb size home a s → t < tb.threads → c < tb.cells → m ≤ k → get_part_next k ≤ length a.locals → Plain fuel m a (scope w names) number (pos c) → home c ≡ mem + c →
      Computes fuel m w names a a k (get_part_next k) (called wm_get (num t ∷ number ∷ [])) (seen_at s t c)
  get_part_agrees names a s t c k number like lt lc mk room pc moved = call_computes wm_get (pso_get_function tb asserts) refl items args (λ l look. gives l look)
    where
      args : PlainAll fuel m a (scope w names) (num t ∷ number ∷ []) (pos t ∷ pos c ∷ [])
      args = arg (num_plain t) (arg pc no_args)

      into : View → View
      into l = entered l k (pos t ∷ pos c ∷ []) 2

      counted : Seen
      counted = counted_before (pso_get_function tb asserts)

      wide : (l : View) → Looks m l a → length (into l).locals ≡ length a.locals
      wide l look = entered_wide mk (pos t ∷ pos c ∷ []) (omega arith) l look

      first : (l : View) → Looks m l a → at_slot (into l).locals k ≡ pos t
      first l look = entered_arg mk (pos t ∷ pos c ∷ []) (omega arith) l look k 0 (pos t) (omega arith) (omega arith) refl

      second : (l : View) → Looks m l a → at_slot (into l).locals (k + 1) ≡ pos c
      second l look = entered_arg mk (pos t ∷ pos c ∷ []) (omega arith) l look (k + 1) 1 (pos c) (omega arith) (omega arith) refl

      length_is : (l : View) → Looks m l a → at_slot (into l).memory (tb.lens + (t * tb.cells + c)) ≡ pos (length (parts_of s t c))
      length_is l look = ap (λ (x : List ℤ). at_slot x (tb.lens + (t * tb.cells + c))) look.memory ∙ like.held.lens t c lt lc

      got_is : (l : View) → Looks m l a → (n : ℕ) → length (parts_of s t c) ≡ n → (qs : List Pending) → parts_of s t c ≡ qs →
          got tb few fuel mem (inner (k + 2)) counted (sees.arrays (k + 2)) (sees.shared (k + 2)) k (k + 1) (k + 2) (k + 2 + 1) (omega arith) (omega arith) (omega arith) (inlines.ret (k + 2)) t c lt lc (into l) n ≡ unwrap_or (last_value qs) (at_cell s c)
      got_is l look zero e [] f = ap (λ (x : List ℤ). at_slot x (mem + c)) look.memory ∙ ap (at_slot a.memory) (sym moved) ∙ like.memory c lc
      got_is l look zero e (q ∷ qs) f = absurd (let g = ap length f in omega arith)
      got_is l look (suc i) e [] f = absurd (let g = ap length f in omega arith)
      got_is l look (suc i) e (q ∷ qs) f =
          ap (λ (x : List ℤ). at_slot x (tb.vals + ((t * tb.cells + c) * tb.places + i))) look.memory
          ∙ like.held.vals t c i (store_at (q ∷ qs) i) lt lc (ap (λ ps. slice_get ps i) f ∙ is_there (q ∷ qs) i (let g = ap length f in omega arith))
          ∙ sym (ap (λ o. unwrap_or o (at_cell s c)) (last_at (q ∷ qs) i (let g = ap length f in omega arith)))

      gives : (l : View) → Looks m l a → Gives fuel m w (pso_get_function tb asserts) k (get_part_next k) (pos t ∷ pos c ∷ []) a (seen_at s t c) l
      gives l look = record {
        end = let_local (got_row tb few fuel mem (inner (k + 2)) counted (sees.arrays (k + 2)) (sees.shared (k + 2)) k (k + 1) (k + 2) (k + 2 + 1) (omega arith) (omega arith) (omega arith) (inlines.ret (k + 2)) t c lt lc (into l)) (k + 2)
            (got tb few fuel mem (inner (k + 2)) counted (sees.arrays (k + 2)) (sees.shared (k + 2)) k (k + 1) (k + 2) (k + 2 + 1) (omega arith) (omega arith) (omega arith) (inlines.ret (k + 2)) t c lt lc (into l) (length (parts_of s t c)));
        body = record {
          inner = inner (k + 2);
          later = counted;
          is = inlines.by (pso_get_function tb asserts) (bound (pso_get_function tb asserts).params k) (k + 2 + 1) (k + 2);
          does = get_part_does tb few fuel mem (inner (k + 2)) counted (sees.arrays (k + 2)) (sees.shared (k + 2)) k (k + 1) (k + 2) (k + 2 + 1) (omega arith) (omega arith) (omega arith) (inlines.ret (k + 2)) t c lt lc (into l) (length (parts_of s t c)) (first l look) (second l look) (length_is l look) (like.held.fits t c lt lc) (omega (arith, wide l look));
        };
        like = record {
          memory = look.memory;
          inputs = look.inputs;
          many = length-set _ (k + 2) _ ∙ length-set (slice_set (into l).locals (k + 2 + 1) (pos 0)) (k + 2 + 1) (pos (t * tb.cells + c)) ∙ length-set (into l).locals (k + 2 + 1) (pos 0) ∙ wide l look;
          locals = λ r q. get_or-set_other _ (k + 2) r _ (pos 0) (omega arith) ∙ get_or-set_other (slice_set (into l).locals (k + 2 + 1) (pos 0)) (k + 2 + 1) r (pos (t * tb.cells + c)) (pos 0) (omega arith) ∙ get_or-set_other (into l).locals (k + 2 + 1) r (pos 0) (pos 0) (omega arith) ∙ entered_old mk (pos t ∷ pos c ∷ []) (omega arith) l look r q;
        };
        value = get_or-set_same _ (k + 2) _ (pos 0) (omega (arith, length-set (slice_set (into l).locals (k + 2 + 1) (pos 0)) (k + 2 + 1) (pos (t * tb.cells + c)), length-set (into l).locals (k + 2 + 1) (pos 0), wide l look))
            ∙ got_is l look (length (parts_of s t c)) refl (parts_of s t c) refl
            ∙ sym (ap (λ o. unwrap_or o (at_cell s c)) (newest_last (pending_of s t) c));
      }
