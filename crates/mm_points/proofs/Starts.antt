-- No local stands in a start value.
use Rattle.std.proofs.Common.{◌≡◌, ◌∙◌, ℕ, ℤ, List, [], true, false, refl, sym, ap, Some, None, Option, subst}
use Rattle.std.proofs.lemmas.Bool.{true≢false}
use Rattle.mm_goto.specs.declared.pure.Unary.{Unary}
use Rattle.mm_goto.specs.declared.pure.Binary.{Binary}
use Rattle.mm_goto.specs.declared.pure.Pure.{Pure}
use Rattle.mm_goto.specs.declared.pure.Pure.TheOpen as pure
use Rattle.mm_goto.specs.declared.pure.Pure.TheViews.{roll-Pure}
use Rattle.mm_goto.specs.declared.pure.Pure.TheFolds.{fold-roll-Pure, ind-Pure, map-Pure}
use Rattle.mm_goto.specs.Valid.{StartKind, start_kind, start_step, is_index}
use Rattle.mm_goto.specs.PointsTo.{Aims, aims_of, aims_step}

-- a number has no local, nor has what may be a start value
record Localless (kind : StartKind) (locals : List ℕ) : Type 0 where
  number : (z : ℤ) → kind.constant ≡ Some z → locals ≡ []
  value : kind.fits ≡ true → locals ≡ []

abbrev OfNone : Pure → Type 0
OfNone e = Localless (start_kind e) (aims_of e).locals

no_number : (z : ℤ) → None ≡ Some z → ⊥
no_number z e = cc

empty_locals : (kind : StartKind) (locals : List ℕ) → locals ≡ [] → Localless kind locals
empty_locals kind locals e = record { number = λ z is. e; value = λ is. e }

unfit : (kind : StartKind) (locals : List ℕ) → kind ≡ record { constant = None; fits = false } → Localless kind locals
unfit kind locals e = record {
  number = λ z is. absurd (no_number z (sym (ap (λ k. k.constant) e) ∙ is));
  value = λ is. absurd (true≢false (sym is ∙ ap (λ k. k.fits) e));
}

indexed : (len : ℕ) (o : Option ℤ) → is_index o len ≡ true → (z : ℤ) × (o ≡ Some z)
indexed len (Some z) h = (z, refl)
indexed len None h = absurd (true≢false (sym h))

of_element : (kind index : StartKind) (locals inner : List ℕ) (len : ℕ) → kind ≡ record { constant = None; fits = is_index index.constant len }
    → locals ≡ inner → Localless index inner → Localless kind locals
of_element kind index locals inner len e f of = record {
  number = λ z is. absurd (no_number z (sym (ap (λ k. k.constant) e) ∙ is));
  value = λ is. let c = indexed len index.constant (sym (ap (λ k. k.fits) e) ∙ is) in f ∙ of.number c.0 c.1;
}

aims_at : (x : pure.Pure-F Pure) → aims_of (roll-Pure x) ≡ aims_step (map-Pure Pure Aims aims_of x)
aims_at x = fold-roll-Pure Aims aims_step x

kind_at : (x : pure.Pure-F Pure) → start_kind (roll-Pure x) ≡ start_step (map-Pure Pure StartKind start_kind x)
kind_at x = fold-roll-Pure StartKind start_step x

at_const : (z : ℤ) → OfNone (roll-Pure (pure.Const z))
at_const z = empty_locals _ _ (ap (λ a. a.locals) (aims_at (pure.Const z)))

at_local : (m : ℕ) → OfNone (roll-Pure (pure.Local m))
at_local m = unfit _ _ (kind_at (pure.Local m))

at_addr : (c : ℕ) → OfNone (roll-Pure (pure.Addr c))
at_addr c = empty_locals _ _ (ap (λ a. a.locals) (aims_at (pure.Addr c)))

at_elem : (first len : ℕ) (x : Pure) → OfNone x → OfNone (roll-Pure (pure.AddrElem first len x))
at_elem first len x of = of_element _ (start_kind x) _ (aims_of x).locals len (kind_at (pure.AddrElem first len x)) (ap (λ a. a.locals) (aims_at (pure.AddrElem first len x))) of

at_un : (op : Unary) (x : Pure) → OfNone (roll-Pure (pure.Un op x))
at_un op x = unfit _ _ (kind_at (pure.Un op x))

at_bin : (op : Binary) (x y : Pure) → OfNone (roll-Pure (pure.Bin op x y))
at_bin op x y = unfit _ _ (kind_at (pure.Bin op x y))

at_cond : (x y z : Pure) → OfNone (roll-Pure (pure.Cond x y z))
at_cond x y z = unfit _ _ (kind_at (pure.Cond x y z))

of_none : (e : Pure) → OfNone e
of_none e = ind-Pure OfNone (λ x y is.
    let P : pure.Pure-F Pure → Type 0 = λ v. OfNone (roll-Pure v) in
    elim y as (λ v. map-Pure _ Pure (λ d. d.0) v ≡ x → OfNone (roll-Pure x)) [
      | pure.Const c ↦ λ same. subst P same (at_const c)
      | pure.Local m ↦ λ same. subst P same (at_local m)
      | pure.Addr c ↦ λ same. subst P same (at_addr c)
      | pure.AddrElem first len x ↦ λ same. subst P same (at_elem first len x.0 x.1)
      | pure.Un op x ↦ λ same. subst P same (at_un op x.0)
      | pure.Bin op x y ↦ λ same. subst P same (at_bin op x.0 y.0)
      | pure.Cond x y z ↦ λ same. subst P same (at_cond x.0 y.0 z.0)
    ] is) e

-- a start value names no local
pub start_localless : (e : Pure) → (start_kind e).fits ≡ true → (aims_of e).locals ≡ []
start_localless e fits = (of_none e).value fits
