-- Which addresses stand in an expression, by its kind.
use Rattle.std.proofs.Common.{◌≡◌, ℕ, ℤ, List, [], ◌∷◌, ◌++◌, inl, inr, ap, sym, subst, Option}
use Rattle.std.specs.Prelude.{◌↔◌, ◌⊎◌}
use denote.Hole.Carrier
use Rattle.mm_goto.specs.declared.pure.Unary.{Unary}
use Rattle.mm_goto.specs.declared.pure.Binary.{Binary}
use Rattle.mm_goto.specs.declared.pure.Pure.{Pure, Const, Local, Addr, AddrElem, Un, Bin, Cond}
use Rattle.mm_goto.specs.declared.pure.Pure.TheOpen as pure
use Rattle.mm_goto.specs.declared.pure.Pure.TheViews.{roll-Pure}
use Rattle.mm_goto.specs.declared.pure.Pure.TheFolds.{fold-roll-Pure}
use Rattle.mm_goto.specs.declared.row.Row.{Row}
use Rattle.mm_goto.specs.PointsTo.{Aims, aims_of, aims_step, element_row, IsInRow}
use Rattle.mm_goto.specs.declared.program.Instr.{Instr}
use Rattle.mm_goto.specs.declared.program.Instr.TheVariants as i
use Rattle.mm_goto.specs.declared.program.Target.{Target}
use Rattle.mm_goto.specs.Checks.{target_exprs}
use Rattle.mm_goto.specs.Shapes.{TakesAddress}
use Rattle.mm_goto.specs.Sourcelike.{exprs_of}
use Rattle.mm_delay.specs.reading.Addressed.{InExprs}
use Rattle.mm_delay.proofs.Gathering.{Any, any_none, any_one, any_append, iff_chain}

abbrev In : List Row → ℕ → Type 0
In rows c = Any (λ row. IsInRow row c) rows

by_rows : (e : Pure) (rows : List Row) → (aims_of e).rows ≡ rows → (c : ℕ) → TakesAddress c e ↔ In rows c
by_rows e rows is c = let P : List Row → Type 0 = λ rs. In rs c in (λ h. subst P is h, λ h. subst P (sym is) h)

two : (xs ys : List Row) (c : ℕ) → In (xs ++ ys) c ↔ (In xs c ⊎ In ys c)
two xs ys c = any_append (λ row. IsInRow row c) xs ys

rows_const : (k : ℤ) → (aims_of (Const k)).rows ≡ []
unfolding roll-Pure denote.Hole.Carrier.roll
rows_const k = ap (λ (a : Aims). a.rows) (fold-roll-Pure Aims aims_step (pure.Const k))

rows_local : (l : ℕ) → (aims_of (Local l)).rows ≡ []
unfolding roll-Pure denote.Hole.Carrier.roll
rows_local l = ap (λ (a : Aims). a.rows) (fold-roll-Pure Aims aims_step (pure.Local l))

rows_addr : (n : ℕ) → (aims_of (Addr n)).rows ≡ record { first = n; len = 1 } ∷ []
unfolding roll-Pure denote.Hole.Carrier.roll
rows_addr n = ap (λ (a : Aims). a.rows) (fold-roll-Pure Aims aims_step (pure.Addr n))

rows_elem : (first len : ℕ) (x : Pure) → (aims_of (AddrElem first len x)).rows ≡ element_row first len (aims_of x).constant ∷ (aims_of x).rows
unfolding roll-Pure denote.Hole.Carrier.roll
rows_elem first len x = ap (λ (a : Aims). a.rows) (fold-roll-Pure Aims aims_step (pure.AddrElem first len x))

rows_un : (op : Unary) (x : Pure) → (aims_of (Un op x)).rows ≡ (aims_of x).rows
unfolding roll-Pure denote.Hole.Carrier.roll
rows_un op x = ap (λ (a : Aims). a.rows) (fold-roll-Pure Aims aims_step (pure.Un op x))

rows_bin : (op : Binary) (x y : Pure) → (aims_of (Bin op x y)).rows ≡ (aims_of x).rows ++ (aims_of y).rows
unfolding roll-Pure denote.Hole.Carrier.roll
rows_bin op x y = ap (λ (a : Aims). a.rows) (fold-roll-Pure Aims aims_step (pure.Bin op x y))

rows_cond : (x y z : Pure) → (aims_of (Cond x y z)).rows ≡ ((aims_of x).rows ++ (aims_of y).rows) ++ (aims_of z).rows
unfolding roll-Pure denote.Hole.Carrier.roll
rows_cond x y z = ap (λ (a : Aims). a.rows) (fold-roll-Pure Aims aims_step (pure.Cond x y z))

pub takes_const : (k : ℤ) (c : ℕ) → ¬ (TakesAddress c (Const k))
takes_const k c h = any_none (λ (row : Row). IsInRow row c) ((by_rows (Const k) [] (rows_const k) c).0 h)

pub takes_local : (l c : ℕ) → ¬ (TakesAddress c (Local l))
takes_local l c h = any_none (λ (row : Row). IsInRow row c) ((by_rows (Local l) [] (rows_local l) c).0 h)

pub takes_addr : (n c : ℕ) → TakesAddress c (Addr n) ↔ IsInRow (record { first = n; len = 1 }) c
takes_addr n c = iff_chain (by_rows (Addr n) (record { first = n; len = 1 } ∷ []) (rows_addr n) c) (any_one (λ row. IsInRow row c) (record { first = n; len = 1 }))

pub takes_elem : (first len : ℕ) (x : Pure) (c : ℕ) → TakesAddress c (AddrElem first len x) ↔ (IsInRow (element_row first len (aims_of x).constant) c ⊎ TakesAddress c x)
takes_elem first len x c =
    let row : Row = element_row first len (aims_of x).constant in
    let f = iff_chain (by_rows (AddrElem first len x) ((row ∷ []) ++ (aims_of x).rows) (rows_elem first len x) c) (two (row ∷ []) (aims_of x).rows c) in
    let one = any_one (λ (row : Row). IsInRow row c) row in (
      λ h. elim (f.0 h) [ inl a ↦ inl (one.0 a) | inr b ↦ inr b ],
      λ h. elim h [ inl a ↦ f.1 (inl (one.1 a)) | inr b ↦ f.1 (inr b) ],
    )

pub takes_un : (op : Unary) (x : Pure) (c : ℕ) → TakesAddress c (Un op x) ↔ TakesAddress c x
takes_un op x c = by_rows (Un op x) (aims_of x).rows (rows_un op x) c

pub takes_bin : (op : Binary) (x y : Pure) (c : ℕ) → TakesAddress c (Bin op x y) ↔ (TakesAddress c x ⊎ TakesAddress c y)
takes_bin op x y c = iff_chain (by_rows (Bin op x y) ((aims_of x).rows ++ (aims_of y).rows) (rows_bin op x y) c) (two (aims_of x).rows (aims_of y).rows c)

pub takes_cond : (x y z : Pure) (c : ℕ) → TakesAddress c (Cond x y z) ↔ ((TakesAddress c x ⊎ TakesAddress c y) ⊎ TakesAddress c z)
takes_cond x y z c =
    let xy : List Row = (aims_of x).rows ++ (aims_of y).rows in
    let f = iff_chain (by_rows (Cond x y z) (xy ++ (aims_of z).rows) (rows_cond x y z) c) (two xy (aims_of z).rows c) in
    let g = two (aims_of x).rows (aims_of y).rows c in (
      λ h. elim (f.0 h) [ inl a ↦ inl (g.0 a) | inr b ↦ inr b ],
      λ h. elim h [ inl a ↦ f.1 (inl (g.1 a)) | inr b ↦ f.1 (inr b) ],
    )

-- ---- where the expression and its parts are known by equations

module _ (e : Pure) (c : ℕ) where
  pub at_addr : (n : ℕ) → e ≡ Addr n → TakesAddress c e ↔ IsInRow (record { first = n; len = 1 }) c
  at_addr n is = rw is (takes_addr n c)

  pub at_elem : (first len : ℕ) (x y : Pure) (k : Option ℤ) → e ≡ AddrElem first len x → y ≡ x → k ≡ (aims_of x).constant
      → TakesAddress c e ↔ (IsInRow (element_row first len k) c ⊎ TakesAddress c y)
  at_elem first len x y k is same constant = rw is (rw constant (rw same (takes_elem first len x c)))

  pub at_un : (op : Unary) (x y : Pure) → e ≡ Un op x → y ≡ x → TakesAddress c e ↔ TakesAddress c y
  at_un op x y is same = rw is (rw same (takes_un op x c))

  pub at_bin : (op : Binary) (x y u v : Pure) → e ≡ Bin op x y → u ≡ x → v ≡ y → TakesAddress c e ↔ (TakesAddress c u ⊎ TakesAddress c v)
  at_bin op x y u v is f g = rw is (rw f (rw g (takes_bin op x y c)))

  pub at_cond : (x y z u v w : Pure) → e ≡ Cond x y z → u ≡ x → v ≡ y → w ≡ z → TakesAddress c e ↔ ((TakesAddress c u ⊎ TakesAddress c v) ⊎ TakesAddress c w)
  at_cond x y z u v w is f g h = rw is (rw f (rw g (rw h (takes_cond x y z c))))

-- ---- which addresses stand in an instruction's expressions

with_target : (t : Target) (es : List Pure) (c : ℕ) → InExprs ((target_exprs t ++ []) ++ es) c ↔ (InExprs (target_exprs t) c ⊎ InExprs es c)
with_target t es c =
    let P : Pure → Type 0 = λ e. TakesAddress c e in
    let f = any_append P (target_exprs t ++ []) es in
    let g = any_append P (target_exprs t) [] in (
      λ h. elim (f.0 h) [ inl a ↦ elim (g.0 a) [ inl a ↦ inl a | inr b ↦ absurd (any_none P b) ] | inr b ↦ inr b ],
      λ h. elim h [ inl a ↦ f.1 (inl (g.1 (inl a))) | inr b ↦ f.1 (inr b) ],
    )

then_value : {A B C D : Type 0} → A ↔ (B ⊎ C) → C ↔ D → A ↔ (B ⊎ D)
then_value f g = (
  λ a. elim (f.0 a) [ inl b ↦ inl b | inr c ↦ inr (g.0 c) ],
  λ h. elim h [ inl b ↦ f.1 (inl b) | inr d ↦ f.1 (inr (g.1 d)) ],
)

module _ (it : Instr) (c : ℕ) where
  pub in_load : (l : ℕ) (t : Target) → it ≡ i.Load l t → InExprs (exprs_of it) c ↔ InExprs (target_exprs t) c
  in_load l t is = rw is (
    λ h. elim ((with_target t [] c).0 h) [ inl a ↦ a | inr b ↦ absurd (any_none (λ e. TakesAddress c e) b) ],
    λ a. (with_target t [] c).1 (inl a),
  )

  pub in_store : (t : Target) (e : Pure) → it ≡ i.Store t e → InExprs (exprs_of it) c ↔ (InExprs (target_exprs t) c ⊎ TakesAddress c e)
  in_store t e is = rw is (then_value (with_target t (e ∷ []) c) (any_one (λ e. TakesAddress c e) e))

  pub in_add : (l : ℕ) (t : Target) (e : Pure) → it ≡ i.Add l t e → InExprs (exprs_of it) c ↔ (InExprs (target_exprs t) c ⊎ TakesAddress c e)
  in_add l t e is = rw is (then_value (with_target t (e ∷ []) c) (any_one (λ e. TakesAddress c e) e))

  pub in_cas : (l : ℕ) (t : Target) (e f : Pure) → it ≡ i.Cas l t e f → InExprs (exprs_of it) c ↔ (InExprs (target_exprs t) c ⊎ (TakesAddress c e ⊎ TakesAddress c f))
  in_cas l t e f is =
      let P : Pure → Type 0 = λ e. TakesAddress c e in
      let two = any_append P (e ∷ []) (f ∷ []) in
      let both : Any P (e ∷ f ∷ []) ↔ (TakesAddress c e ⊎ TakesAddress c f) = (
        λ h. elim (two.0 h) [ inl a ↦ inl ((any_one P e).0 a) | inr b ↦ inr ((any_one P f).0 b) ],
        λ h. elim h [ inl a ↦ two.1 (inl ((any_one P e).1 a)) | inr b ↦ two.1 (inr ((any_one P f).1 b)) ],
      ) in
      rw is (then_value (with_target t (e ∷ f ∷ []) c) both)

  pub in_set : (l : ℕ) (e : Pure) → it ≡ i.Set l e → InExprs (exprs_of it) c ↔ TakesAddress c e
  in_set l e is = rw is (any_one (λ e. TakesAddress c e) e)

  pub in_branch : (e : Pure) (n : ℕ) → it ≡ i.Branch e n → InExprs (exprs_of it) c ↔ TakesAddress c e
  in_branch e n is = rw is (any_one (λ e. TakesAddress c e) e)

  pub in_assert : (e : Pure) (n : ℕ) → it ≡ i.Assert e n → InExprs (exprs_of it) c ↔ TakesAddress c e
  in_assert e n is = rw is (any_one (λ e. TakesAddress c e) e)

  pub in_assume : (e : Pure) → it ≡ i.Assume e → InExprs (exprs_of it) c ↔ TakesAddress c e
  in_assume e is = rw is (any_one (λ e. TakesAddress c e) e)
