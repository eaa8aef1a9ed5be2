-- A store that reaches its cell at once under PSO: wm_set.
use Rattle.std.proofs.Common.{arith, ◌≡◌, ℕ, ◌+◌, ◌*◌, ◌<◌, ◌≤◌, ◌≢◌, ℤ, pos, Bool, true, false, not, List, [], ◌∷◌, length, Some, refl, sym, ◌∙◌, ap, subst, slice_set, ◌==◌, if◌then◌else◌}
use Rattle.std.proofs.lemmas.List.{length-set, get_or-set_same, get_or-set_other}
use Rattle.mm_goto.specs.Value.{is_zero, binary_value}
use Rattle.mm_goto.specs.declared.pure.Binary.TheVariants as binary
use Rattle.mm_sched.specs.State.{State}
use Rattle.mm_sched.specs.Buffer.{is_empty}
use Rattle.mm_sched.specs.Event.{written}
use Rattle.mm_tree.specs.declared.expr.Expr.{Expr}
use Rattle.mm_words.specs.Words.{num, var, elem, equal, call, assign_elem}
use Rattle.mm_helpers.specs.Helpers.{wm_t, wm_c, wm_v, wm_mem, wm_len, wm_set, in_row, pso_set}
use Rattle.mm_flow.specs.declared.names.Named.{Named}
use Rattle.mm_flow.specs.declared.names.Seen.{Seen}
use Rattle.mm_flow.specs.Statements.{Within, function_of, bound, scope}
use Rattle.mm_meaning.specs.Meaning.{View, Outcome, Done, Halted}
use Rattle.mm_meaning.specs.Acting.{at_slot, let_cell}
use Rattle.mm_meaning.proofs.Looks.{Looks}
use Rattle.mm_meaning.proofs.Gets.{Gets, num_gets, var_gets, bin_gets, elem_gets, gets_as}
use Rattle.mm_meaning.proofs.Does.{Does, DoesAll, nil, cons, ends, passes, halts, assigns_elem}
use Rattle.mm_meaning.proofs.Sized.{var_sized, knows_nil, knows_cons, assign_elem_knows}
use Rattle.mm_meaning.proofs.Calls.{Plain, num_plain, PlainAll, no_args, arg, BodyDoes, Called, entered, counted_before, calls}
use Rattle.mm_pieces.specs.Calling.{Inlines, body_of}
use Rattle.mm_pieces.specs.Mirroring.{array_at}
use Rattle.mm_pieces.specs.Parts.{PartTable, AreFew, SeesParts, PartHomes, MirrorsParts, parts_of, pso_set_function}
use Rattle.mm_pieces.proofs.Held.{is_b, not_b}
use Rattle.mm_pieces.proofs.Get.{is_equal}
use Rattle.mm_pieces.proofs.Sets.{empty_is}
use Rattle.mm_pieces.proofs.PutPart.{in_row_gets, rows_fit, row_below}
use Rattle.mm_pieces.proofs.Entering.{entered_wide, entered_old, entered_arg}

module _ (tb : PartTable) (size : ℕ) (home : ℕ → ℕ) (homes : PartHomes tb size home) where
  pub mirrors_set_part : (a : View) (s : State) (c : ℕ) (v : ℤ) → MirrorsParts tb size home a s → c < tb.cells → c < length s.memory →
      (b : View) → b.memory ≡ slice_set a.memory (home c) v → MirrorsParts tb size home b (written s c v)
  mirrors_set_part a s c v like lc lm b e = record {
    size_is = ap length e ∙ length-set a.memory (home c) v ∙ like.size_is;
    threads = like.threads;
    memory = λ i li. ap (λ (x : List ℤ). at_slot x (home i)) e ∙ at_home i li (i == c) refl;
    held = record {
      fits = like.held.fits;
      lens = λ u d lu ld. other (tb.lens + (u * tb.cells + d)) (λ f. (let h = homes.before c lc in omega arith)) ∙ like.held.lens u d lu ld;
      vals = λ u d k q lu ld g. other (tb.vals + ((u * tb.cells + d) * tb.places + k)) (λ f. (let h = homes.before c lc in let h1 = homes.lens in omega arith)) ∙ like.held.vals u d k q lu ld g;
    };
  }
    where
      other : (p : ℕ) → p ≢ home c → at_slot b.memory p ≡ at_slot a.memory p
      other p d = ap (λ (x : List ℤ). at_slot x p) e ∙ get_or-set_other a.memory (home c) p v (pos 0) d

      at_home : (i : ℕ) → i < tb.cells → (x : Bool) → (i == c) ≡ x → at_slot (slice_set a.memory (home c) v) (home i) ≡ at_slot (slice_set s.memory c v) i
      at_home i li true f = subst (λ j. at_slot (slice_set a.memory (home c) v) (home j) ≡ at_slot (slice_set s.memory c v) j) (sym (is_b i c f))
          (get_or-set_same a.memory (home c) v (pos 0) (let w = like.size_is in let hc = homes.before c lc in let h1 = homes.lens in let h2 = homes.vals in omega arith) ∙ sym (get_or-set_same s.memory c v (pos 0) lm))
      at_home i li false f = let d = not_b i c f in
          get_or-set_other a.memory (home c) (home i) v (pos 0) (λ g. d (homes.apart i c li lc g)) ∙ like.memory i li ∙ sym (get_or-set_other s.memory c i v (pos 0) d)

  module _ (few : AreFew tb) (fuel m asserts mem : ℕ) (w : Within) (inner : ℕ → Within) (inlines : Inlines w inner) (sees : SeesParts tb mem inner) (items : function_of w.items w.parts.asserts wm_set ≡ Some (pso_set_function tb asserts)) where
    -- the next fresh local behind the call
    abbrev pub set_part_next : ℕ → ℕ
    set_part_next k = k + 3 + 1 + 1

    -- the view behind the call
    abbrev pub set_part_view : View → ℕ → ℤ → View
    set_part_view a c v = record { memory = slice_set a.memory (home c) v; locals = a.locals; inputs = a.inputs }

    pub set_part_agrees : (names : List Named) (seen : Seen) (a : View) (s : State) (t c k : ℕ) (v : ℤ) (number value : Expr) → MirrorsParts tb size home a s → t < tb.threads → c < tb.cells → m ≤ k → set_part_next k ≤ length a.locals → Plain fuel m a (scope w names) number (pos c) → Plain fuel m a (scope w names) value v → home c ≡ mem + c →
        Does fuel m w names a seen k seen (set_part_next k) (call wm_set (num t ∷ number ∷ value ∷ [])) (if is_empty (parts_of s t c) then Done (set_part_view a c v) else Halted)
    set_part_agrees names seen a s t c k v number value like lt lc mk room pc pv moved = calls wm_set (pso_set_function tb asserts) refl items args (λ l look. called l look (is_empty (parts_of s t c)) refl)
      where
        inside : List Named
        inside = bound (pso_set_function tb asserts).params k

        counted : Seen
        counted = counted_before (pso_set_function tb asserts)

        args : PlainAll fuel m a (scope w names) (num t ∷ number ∷ value ∷ []) (pos t ∷ pos c ∷ v ∷ [])
        args = arg (num_plain t) (arg pc (arg pv no_args))

        into : View → View
        into l = entered l k (pos t ∷ pos c ∷ v ∷ []) 3

        first : (l : View) → Looks m l a → at_slot (into l).locals k ≡ pos t
        first l look = entered_arg mk (pos t ∷ pos c ∷ v ∷ []) (omega arith) l look k 0 (pos t) (omega arith) (omega arith) refl

        second : (l : View) → Looks m l a → at_slot (into l).locals (k + 1) ≡ pos c
        second l look = entered_arg mk (pos t ∷ pos c ∷ v ∷ []) (omega arith) l look (k + 1) 1 (pos c) (omega arith) (omega arith) refl

        third : (l : View) → Looks m l a → at_slot (into l).locals (k + 1 + 1) ≡ v
        third l look = entered_arg mk (pos t ∷ pos c ∷ v ∷ []) (omega arith) l look (k + 1 + 1) 2 v (omega arith) (omega arith) refl

        length_is : (l : View) → Looks m l a → at_slot (into l).memory (tb.lens + (t * tb.cells + c)) ≡ pos (length (parts_of s t c))
        length_is l look = ap (λ (x : List ℤ). at_slot x (tb.lens + (t * tb.cells + c))) look.memory ∙ like.held.lens t c lt lc

        test : (l : View) → Looks m l a → Gets fuel (k + 3 + 1) (into l) (scope (inner (k + 3)) inside) (k + 3 + 1) (k + 3 + 1 + 1) (equal (elem wm_len (in_row wm_t tb.cells (var wm_c))) (num 0)) (binary_value binary.Eq (pos (length (parts_of s t c))) (pos 0))
        test l look = bin_gets binary.Eq refl (λ p. refl) (gets_as (length_is l look) (elem_gets wm_len (array_at wm_len tb.lens (tb.threads * tb.cells)) (t * tb.cells + c) (sees.arrays (k + 3)).lens (row_below tb t c lt lc)
            (in_row_gets wm_t tb.threads tb.cells t c refl lt lc few.threads few.cells (rows_fit few) (gets_as (first l look) (var_gets (k + 3 + 1) wm_t k (omega arith) refl)) (gets_as (second l look) (var_gets (k + 3 + 1) wm_c (k + 1) (omega arith) refl))))) (num_gets (k + 3 + 1 + 1) 0)

        zero_is : (x : Bool) → is_empty (parts_of s t c) ≡ x → is_zero (binary_value binary.Eq (pos (length (parts_of s t c))) (pos 0)) ≡ not x
        zero_is x e = is_equal (length (parts_of s t c)) 0 (let h = few.places in let f = like.held.fits t c lt lc in omega arith) (omega arith) ∙ ap not (empty_is (parts_of s t c) ∙ e)

        stored : (l : View) → Looks m l a → Does fuel (k + 3 + 1) (inner (k + 3)) inside (into l) counted (k + 3 + 1 + 1) counted (k + 3 + 1 + 1) (assign_elem wm_mem (var wm_c) (var wm_v)) (Done (let_cell (into l) (mem + c) v))
        stored l look = assigns_elem wm_mem (array_at wm_mem mem tb.cells) c (sees.shared (k + 3)) lc (gets_as (second l look) (var_gets (k + 3 + 1 + 1) wm_c (k + 1) (omega arith) refl)) (gets_as (third l look) (var_gets (k + 3 + 1 + 1) wm_v (k + 1 + 1) (omega arith) refl))

        body : (l : View) (o : Outcome) → DoesAll fuel (k + 3 + 1) (inner (k + 3)) inside (into l) counted (k + 3 + 1) counted (k + 3 + 1 + 1) (body_of (pso_set tb.cells)) o → BodyDoes fuel w (pso_set_function tb asserts) k (set_part_next k) (pos t ∷ pos c ∷ v ∷ []) l o
        body l o d = record { inner = inner (k + 3); later = counted; is = inlines.by (pso_set_function tb asserts) (bound (pso_set_function tb asserts).params k) (k + 3 + 1) (k + 3); does = d }

        called : (l : View) → Looks m l a → (x : Bool) → is_empty (parts_of s t c) ≡ x → Called fuel m w (pso_set_function tb asserts) k (set_part_next k) (pos t ∷ pos c ∷ v ∷ []) l (if x then Done (set_part_view a c v) else Halted)
        called l look true e = record {
          end = Done (let_cell (into l) (mem + c) v);
          body = body l (Done (let_cell (into l) (mem + c) v)) (cons (passes (zero_is true e) (test l look)) refl (cons (stored l look) refl (nil (k + 3 + 1 + 1))));
          like = record {
            memory = ap (λ (x : List ℤ). slice_set x (mem + c) v) look.memory ∙ ap (λ i. slice_set a.memory i v) (sym moved);
            inputs = look.inputs;
            many = entered_wide mk (pos t ∷ pos c ∷ v ∷ []) (omega arith) l look;
            locals = entered_old mk (pos t ∷ pos c ∷ v ∷ []) (omega arith) l look;
          };
        }
        called l look false e = record {
          end = Halted;
          body = body l Halted (ends (halts (zero_is false e) (test l look)) (λ go. refl) (knows_cons (assign_elem_knows wm_mem (var_sized (k + 3 + 1 + 1) wm_c (k + 1) refl) (var_sized (k + 3 + 1 + 1) wm_v (k + 1 + 1) refl)) (knows_nil (k + 3 + 1 + 1))));
          like = tt;
        }
