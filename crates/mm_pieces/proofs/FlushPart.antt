-- A flush under PSO: wm_pop in the woven program, the oldest pending store of a thread to a cell in the machine.
use Rattle.std.proofs.Common.{arith, ◌≡◌, ℕ, zero, suc, ◌+◌, ◌*◌, ◌<◌, ◌≤◌, ◌≢◌, ℤ, pos, List, [], ◌∷◌, length, Some, refl, sym, ◌∙◌, ap, subst, slice_get, slice_set, false, if◌then◌else◌, ◌==◌, ◌%◌}
use Rattle.std.proofs.lemmas.List.{length-set, get_or-set_other}
use Rattle.std.proofs.lemmas.Nat.{mod-mul-add}
use Rattle.mm_goto.specs.Value.{binary_value}
use Rattle.mm_goto.specs.declared.pure.Binary.TheVariants as binary
use Rattle.mm_sched.specs.State.{State, Pending}
use Rattle.mm_tree.specs.declared.expr.Expr.{Expr}
use Rattle.mm_words.specs.Words.{call}
use Rattle.mm_helpers.specs.Helpers.{wm_pop}
use Rattle.mm_flow.specs.declared.names.Named.{Named}
use Rattle.mm_flow.specs.declared.names.Seen.{Seen}
use Rattle.mm_flow.specs.Statements.{Within, function_of, bound, scope}
use Rattle.mm_meaning.specs.Meaning.{View, Done}
use Rattle.mm_meaning.specs.Acting.{at_slot}
use Rattle.mm_meaning.proofs.Looks.{Looks}
use Rattle.mm_meaning.proofs.Does.{Does}
use Rattle.mm_meaning.proofs.Calls.{Plain, PlainAll, no_args, arg, Called, entered, counted_before, calls}
use Rattle.mm_pieces.specs.Calling.{Inlines}
use Rattle.mm_pieces.specs.Parts.{PartTable, AreFew, SeesParts, PartHomes, MirrorsParts, parts_of, pso_pop_function}
use Rattle.mm_pieces.proofs.Entering.{entered_wide, entered_old, entered_arg}
use Rattle.mm_pieces.proofs.PutPart.{row_below}
use Rattle.mm_pieces.proofs.PopPart.{turned_part, taken_part, pop_part_does}
use Rattle.mm_pieces.proofs.PoppedPart.{moved_part, moved_part_other, popped_part}

-- the cell of a row
pub rem_is : (K t c : ℕ) → c < K → binary_value binary.Rem (pos (t * K + c)) (pos K) ≡ pos c
rem_is zero t c h = absurd (omega arith)
rem_is (suc k) t c h = (let e : (suc k == 0) ≡ false = grind arith in ap (λ b. if b then pos 0 else pos ((t * suc k + c) % suc k)) e ∙ ap pos (mod-mul-add t (suc k) c h))

-- ---- memory behind the turns

module _ (tb : PartTable) (slot row : ℕ) where
  turned_part_memory : (a : View) (i : ℕ) → (turned_part tb slot row a i).memory ≡ moved_part tb a.memory row i
  turned_part_memory a zero = refl
  turned_part_memory a (suc i) =
      ap (λ (m : List ℤ). slice_set m (tb.vals + (row * tb.places + i)) (at_slot m (tb.vals + (row * tb.places + i + 1)))) (turned_part_memory a i)
      ∙ ap (λ x. slice_set (moved_part tb a.memory row i) (tb.vals + (row * tb.places + i)) x) (moved_part_other tb a.memory row i (tb.vals + (row * tb.places + i + 1)) (λ k q. omega arith) ∙ ap (at_slot a.memory) place)
    where
      place : tb.vals + (row * tb.places + i + 1) ≡ tb.vals + (row * tb.places + (i + 1))
      place = omega arith

  turned_part_inputs : (a : View) (i : ℕ) → (turned_part tb slot row a i).inputs ≡ a.inputs
  turned_part_inputs a zero = refl
  turned_part_inputs a (suc i) = turned_part_inputs a i

  turned_part_length : (a : View) (i : ℕ) → length (turned_part tb slot row a i).locals ≡ length a.locals
  turned_part_length a zero = refl
  turned_part_length a (suc i) = length-set (turned_part tb slot row a i).locals slot (pos (i + 1)) ∙ turned_part_length a i

  turned_part_local : (a : View) (i r : ℕ) → r ≢ slot → at_slot (turned_part tb slot row a i).locals r ≡ at_slot a.locals r
  turned_part_local a zero r d = refl
  turned_part_local a (suc i) r d = get_or-set_other (turned_part tb slot row a i).locals slot r (pos (i + 1)) (pos 0) d ∙ turned_part_local a i r d

-- ---- the call

module _ (tb : PartTable) (size : ℕ) (home : ℕ → ℕ) (homes : PartHomes tb size home) (few : AreFew tb) (fuel m asserts mem : ℕ) (w : Within) (inner : ℕ → Within) (inlines : Inlines w inner) (sees : SeesParts tb mem inner) (mem_len : mem + tb.cells ≤ tb.lens) (items : function_of w.items w.parts.asserts wm_pop ≡ Some (pso_pop_function tb asserts)) where
  -- the next fresh local behind the call
  abbrev pub pop_part_next : ℕ → ℕ
  pop_part_next k = k + 1 + 1 + 1 + 1 + 1 + 1 + 1

  -- the view behind the call
  abbrev pub pop_part_view : View → (t n c : ℕ) → ℤ → View
  pop_part_view a t n c v = record { memory = popped_part tb a.memory (t * tb.cells + c) n (home c) v; locals = a.locals; inputs = a.inputs }

  pub pop_part_agrees : (names : List Named) (seen : Seen) (a : View) (s : State) (t c k : ℕ) (v : ℤ) (rest : List Pending) (row : Expr) → MirrorsParts tb size home a s → t < tb.threads → c < tb.cells → m ≤ k → pop_part_next k ≤ length a.locals → Plain fuel m a (scope w names) row (pos (t * tb.cells + c)) →
      parts_of s t c ≡ (c, v) ∷ rest → home c ≡ mem + c → length rest < fuel →
      Does fuel m w names a seen k seen (pop_part_next k) (call wm_pop (row ∷ [])) (Done (pop_part_view a t (length rest) c v))
  pop_part_agrees names seen a s t c k v rest row like lt lc mk room pr is moved fueled = calls wm_pop (pso_pop_function tb asserts) refl items args (λ l look. called l look)
    where
      counted : Seen
      counted = counted_before (pso_pop_function tb asserts)

      args : PlainAll fuel m a (scope w names) (row ∷ []) (pos (t * tb.cells + c) ∷ [])
      args = arg pr no_args

      into : View → View
      into l = entered l k (pos (t * tb.cells + c) ∷ []) 1

      full : length rest + 1 ≤ tb.places
      full = let f = subst (λ xs. length xs ≤ tb.places) is (like.held.fits t c lt lc) in omega arith

      wide : (l : View) → Looks m l a → length (into l).locals ≡ length a.locals
      wide l look = entered_wide mk (pos (t * tb.cells + c) ∷ []) (omega arith) l look

      is_row : (l : View) → Looks m l a → at_slot (into l).locals k ≡ pos (t * tb.cells + c)
      is_row l look = entered_arg mk (pos (t * tb.cells + c) ∷ []) (omega arith) l look k 0 (pos (t * tb.cells + c)) (omega arith) (omega arith) refl

      is_len : at_slot a.memory (tb.lens + (t * tb.cells + c)) ≡ pos (length rest + 1)
      is_len = like.held.lens t c lt lc ∙ ap pos (ap length is ∙ (let e : length ((c, v) ∷ rest) ≡ length rest + 1 = omega arith in e))

      is_val : at_slot a.memory (tb.vals + ((t * tb.cells + c) * tb.places)) ≡ v
      is_val = subst (λ i. at_slot a.memory i ≡ v) (omega arith) (like.held.vals t c 0 (c, v) lt lc (ap (λ ps. slice_get ps 0) is))

      start : View → View
      start l = taken_part tb mem (k + 1 + 1) (t * tb.cells + c) (into l) c (length rest) v

      reached : (l : View) → Looks m l a → Looks m (turned_part tb (k + 1 + 1) (t * tb.cells + c) (start l) (length rest)) (pop_part_view a t (length rest) c v)
      reached l look = record {
        memory = turned_part_memory tb (k + 1 + 1) (t * tb.cells + c) (start l) (length rest)
            ∙ ap (λ (x : List ℤ). moved_part tb (slice_set (slice_set x (mem + c) v) (tb.lens + (t * tb.cells + c)) (pos (length rest))) (t * tb.cells + c) (length rest)) look.memory
            ∙ ap (λ i. popped_part tb a.memory (t * tb.cells + c) (length rest) i v) (sym moved);
        inputs = turned_part_inputs tb (k + 1 + 1) (t * tb.cells + c) (start l) (length rest) ∙ look.inputs;
        many = turned_part_length tb (k + 1 + 1) (t * tb.cells + c) (start l) (length rest) ∙ length-set _ (k + 1 + 1) (pos 0) ∙ length-set _ (k + 1 + 1) (pos 0) ∙ wide l look;
        locals = λ r q. turned_part_local tb (k + 1 + 1) (t * tb.cells + c) (start l) (length rest) r (omega arith)
            ∙ get_or-set_other _ (k + 1 + 1) r (pos 0) (pos 0) (omega arith) ∙ get_or-set_other _ (k + 1 + 1) r (pos 0) (pos 0) (omega arith) ∙ entered_old mk (pos (t * tb.cells + c) ∷ []) (omega arith) l look r q;
      }

      called : (l : View) → Looks m l a → Called fuel m w (pso_pop_function tb asserts) k (pop_part_next k) (pos (t * tb.cells + c) ∷ []) l (Done (pop_part_view a t (length rest) c v))
      called l look = record {
        end = Done (turned_part tb (k + 1 + 1) (t * tb.cells + c) (start l) (length rest));
        body = record {
          inner = inner (k + 1);
          later = counted;
          is = inlines.by (pso_pop_function tb asserts) (bound (pso_pop_function tb asserts).params k) (k + 1 + 1) (k + 1);
          does = pop_part_does tb few mem fuel (inner (k + 1)) counted (sees.arrays (k + 1)) (sees.shared (k + 1)) k (k + 1 + 1) (omega arith) mem_len homes.lens (t * tb.cells + c) (row_below tb t c lt lc) (into l) c (length rest) v
              (is_row l look) (ap (λ (x : List ℤ). at_slot x (tb.lens + (t * tb.cells + c))) look.memory ∙ is_len) (ap (λ (x : List ℤ). at_slot x (tb.vals + ((t * tb.cells + c) * tb.places))) look.memory ∙ is_val)
              (rem_is tb.cells t c lc) lc full fueled (omega (arith, wide l look)) (let h = homes.vals in let e = like.size_is in omega (arith, ap length look.memory));
        };
        like = reached l look;
      }
