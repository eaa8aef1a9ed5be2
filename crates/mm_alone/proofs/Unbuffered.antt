-- Main alone has no delay cycle, so no store of a small program is buffered, and no cell moves.
use Rattle.std.proofs.Common.{◌≡◌, ℕ, zero, suc, pos, Bool, true, false, List, [], ◌∷◌, ◌++◌, refl, sym, ◌∙◌, ap, subst, arith, Some, inl, inr, ◌||◌}
use Rattle.std.specs.Prelude.{IsTrue, IsSomeAnd, All, slice_get, slice_index_or}
use Rattle.std.specs.List.{list_any, Contains}
use Rattle.std.proofs.lemmas.Bool.{true≢false}
use Rattle.std.proofs.lemmas.List.Elements.{All-head, All-tail}
use Rattle.mm_goto.specs.declared.model.Model.{Model}
use Rattle.mm_goto.specs.declared.program.Cell.{Cell}
use Rattle.mm_goto.specs.declared.program.Instr.{Instr}
use Rattle.mm_goto.specs.declared.program.Instr.TheVariants as instr
use Rattle.mm_goto.specs.declared.program.Thread.{Thread}
use Rattle.mm_goto.specs.declared.pure.Pure.{Pure}
use Rattle.mm_goto.specs.declared.pure.Binary.TheVariants as binary
use Rattle.mm_goto.specs.declared.shape.Shape.{Shape}
use Rattle.mm_goto.specs.declared.spot.Spot.{Spot}
use Rattle.mm_goto.specs.DelayCycles.{HasDelayCycle, IsCycle, IsDelayCycle}
use Rattle.mm_goto.specs.Listing.{Listing}
use Rattle.mm_goto.specs.PointsTo.{Aims, aims_of, aims_step, instr_at}
use Rattle.mm_goto.specs.Shapes.{Fits, IsAddressed, IsMoved, TakesAddress, flag_at}
use Rattle.mm_goto.specs.Sites.{Accesses, Com, sites}
use Rattle.mm_goto.specs.Sourcelike.{exprs_of}
use Rattle.mm_goto.specs.Terms.{constant, the_local}
use Rattle.mm_goto.proofs.Folding.{fold_constant, fold_local, fold_combined}
use Rattle.mm_points.proofs.Derived.{Stands, stands_at}
use Rattle.mm_graph.proofs.Filling.{some_and}
use Rattle.mm_print.specs.SmallListing.{IsSmallExpr, IsSmallInstr, IsSmallCell, IsSmallListing, number, local, equal, load, store, assert, jump}
use Rattle.mm_instr.specs.Woven.{has_buffers, has_moved_cells}

-- ---- flags that are all down

none_up : (flags : List Bool) → ((k : ℕ) → IsTrue (slice_index_or flags k false) → ⊥) → list_any (λ b. b) flags ≡ false
none_up [] none = refl
none_up (true ∷ flags) none = absurd (none 0 refl)
none_up (false ∷ flags) none = none_up flags (λ k. none (suc k))

no_row_up : (rows : List (List Bool)) → ((t k : ℕ) → IsTrue (flag_at rows t k) → ⊥) → list_any (list_any (λ b. b)) rows ≡ false
no_row_up [] none = refl
no_row_up (row ∷ rows) none = by (list_any (λ b. b) row) (none_up row (none 0)) (no_row_up rows (λ t. none (suc t)))
  where
    by : (b : Bool) → b ≡ false → list_any (list_any (λ b. b)) rows ≡ false → (b || list_any (list_any (λ b. b)) rows) ≡ false
    by true e rest = absurd (true≢false e)
    by false e rest = rest

-- ---- expressions and instructions of a small program take no address

no_rows : {locals : ℕ} (e : Pure) → IsSmallExpr locals e → (aims_of e).rows ≡ []
no_rows e (number n below) = ap (λ (a : Aims). a.rows) (fold_constant aims_step (pos n))
no_rows e (local l below) = ap (λ (a : Aims). a.rows) (fold_local aims_step l)
no_rows e (equal l n below fits) =
    ap (λ (a : Aims). a.rows) (fold_combined aims_step binary.Eq (the_local l) (constant (pos n)))
    ∙ ap (λ (a : Aims). a.rows ++ (aims_of (constant (pos n))).rows) (fold_local aims_step l)
    ∙ ap (λ (a : Aims). a.rows) (fold_constant aims_step (pos n))

none_in : {X : Type 0} (x : X) → Contains [] x → ⊥
none_in x h = omega (arith, h.1)

takes_none : (c : ℕ) (e : Pure) → (aims_of e).rows ≡ [] → TakesAddress c e → ⊥
takes_none c e none h = none_in h.0 (subst (λ rows. Contains rows h.0) none h.1)

only : {X : Type 0} (x y : X) → Contains (x ∷ []) y → x ≡ y
only x y (zero, within, is) = is
only x y (suc k, within, is) = absurd (omega (arith, within))

instr_takes_none : {cells : List Cell} {t : Thread} (it : Instr) → IsSmallInstr cells t it → (c : ℕ) (e : Pure) → Contains (exprs_of it) e → TakesAddress c e → ⊥
instr_takes_none it (load l k in_locals in_cells) c e stands h = none_in e stands
instr_takes_none it (store k x in_cells is_small) c e stands h = takes_none c e (subst (λ y. (aims_of y).rows ≡ []) (only x e stands) (no_rows x is_small)) h
instr_takes_none it (assert x n fits is_small) c e stands h = takes_none c e (subst (λ y. (aims_of y).rows ≡ []) (only x e stands) (no_rows x is_small)) h
instr_takes_none it (jump k within) c e stands h = none_in e stands

code_takes_none : {cells : List Cell} {t : Thread} (body : List Instr) → All (IsSmallInstr cells t) body → (k : ℕ) (it : Instr) → slice_get (body ++ instr.End ∷ []) k ≡ Some it
    → (c : ℕ) (e : Pure) → Contains (exprs_of it) e → TakesAddress c e → ⊥
code_takes_none [] all zero it is c e stands h = none_in e (subst (λ i. Contains (exprs_of i) e) (sym (let same : instr.End ≡ it = cc in same)) stands)
code_takes_none [] all (suc k) it is c e stands h = absurd cc
code_takes_none {cells = cells} {t = t} (i ∷ body) all zero it is c e stands h =
    let same : i ≡ it = cc in
    instr_takes_none i (All-head (IsSmallInstr cells t) i body all) c e (subst (λ j. Contains (exprs_of j) e) (sym same) stands) h
code_takes_none {cells = cells} {t = t} (i ∷ body) all (suc k) it is c e stands h = code_takes_none body (All-tail (IsSmallInstr cells t) i body all) k it is c e stands h

cells_take_none : (cells : List Cell) → All IsSmallCell cells → (k : ℕ) (cell : Cell) → slice_get cells k ≡ Some cell → (c : ℕ) → TakesAddress c cell.init → ⊥
cells_take_none [] all k cell is c h = absurd cc
cells_take_none (first ∷ cells) all zero cell is c h =
    let same : first ≡ cell = cc in
    let s = All-head IsSmallCell first cells all in
    takes_none c first.init (ap (λ e. (aims_of e).rows) s.init ∙ ap (λ (a : Aims). a.rows) (fold_constant aims_step (pos s.value))) (subst (λ (x : Cell). TakesAddress c x.init) (sym same) h)
cells_take_none (first ∷ cells) all (suc k) cell is c h = cells_take_none cells (All-tail IsSmallCell first cells all) k cell is c h

module _ (p : Listing) (s : IsSmallListing p) where
  -- all that stands in the program is main's
  in_main : (t k : ℕ) (it : Instr) → instr_at p t k ≡ Some it → (t ≡ 0) × (slice_get (s.body ++ instr.End ∷ []) k ≡ Some it)
  in_main t k it is =
      let at : Stands p t k it = stands_at p t k it is in
      by t at.thread (sym (ap (λ ts. slice_get ts t) s.alone) ∙ at.runs) at.stands
    where
      by : (t : ℕ) (thread : Thread) → slice_get (s.main ∷ []) t ≡ Some thread → slice_get thread.code k ≡ Some it → (t ≡ 0) × (slice_get (s.body ++ instr.End ∷ []) k ≡ Some it)
      by zero thread e stands = (refl, let same : s.main ≡ thread = cc in subst (λ code. slice_get code k ≡ Some it) (ap (λ (x : Thread). x.code) (sym same) ∙ s.code) stands)
      by (suc t) thread e stands = absurd cc

  no_communication : (a b : Spot) → Com p a b → ⊥
  no_communication a b meets =
      let x = some_and (instr_at p a.thread a.index) Accesses meets.from in
      let y = some_and (instr_at p b.thread b.index) Accesses meets.to in
      meets.apart ((in_main a.thread a.index x.0 x.1).0 ∙ sym (in_main b.thread b.index y.0 y.1).0)

  no_walk : (m : Model) (walk : List ℕ) → IsDelayCycle p m walk → ⊥
  no_walk m _ (IsCycle.cycle {l = l} {m = k} first across back) =
      let x = some_and (slice_get (sites p) l) (λ x. IsSomeAnd (slice_get (sites p) k) (Com p x)) across in
      let y = some_and (slice_get (sites p) k) (Com p x.0) x.2 in
      no_communication x.0 y.0 y.2

  pub no_delay_cycle : (m : Model) (site : ℕ) → HasDelayCycle p m site → ⊥
  no_delay_cycle m site h = no_walk m (site ∷ h.0) h.1

  not_addressed : (c : ℕ) → IsAddressed p c → ⊥
  not_addressed c (IsAddressed.in_code t k it e is stands takes) = code_takes_none s.body s.instrs k it (in_main t k it is).1 c e stands takes
  not_addressed c (IsAddressed.in_start k cell is takes) = cells_take_none p.cells s.cells k cell is c takes

  module _ (shape : Shape) (none : (t k : ℕ) → IsTrue (flag_at shape.buffered t k) → ⊥) where
    pub unbuffered : has_buffers shape ≡ false
    unbuffered = no_row_up shape.buffered none

    not_moved : (c : ℕ) → IsMoved p shape.buffered c → ⊥
    not_moved c (d, same, inl addressed) = not_addressed d addressed
    not_moved c (d, same, inr buffered) = none buffered.t buffered.k buffered.flag

    pub unmoved : Fits p shape → has_moved_cells shape ≡ false
    unmoved fits = none_up shape.moved (λ c up. not_moved c ((fits.moved c).0 up))
