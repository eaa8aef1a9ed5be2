-- A start value names no local.
use Rattle.std.proofs.Common.{◌≡◌, ◌∙◌, ◌≤◌, ℕ, ℤ, true, false, refl, sym, ap, subst, Some, None, Option, arith}
use Rattle.std.specs.Prelude.{All}
use Rattle.std.proofs.lemmas.Bool.{true≢false}
use Rattle.std.proofs.lemmas.List.Elements.{All-weaker}
use Rattle.mm_goto.specs.declared.program.Cell.{Cell}
use Rattle.mm_goto.specs.declared.pure.Pure.{Pure}
use Rattle.mm_goto.specs.declared.pure.Pure.TheOpen as pure
use Rattle.mm_goto.specs.declared.pure.Pure.TheViews.{roll-Pure}
use Rattle.mm_goto.specs.declared.pure.Pure.TheFolds.{fold-roll-Pure, ind-Pure, map-Pure}
use Rattle.mm_goto.specs.Listing.{Listing}
use Rattle.mm_goto.specs.Locals.{local_bound, local_bound_step}
use Rattle.mm_goto.specs.Valid.{IsValid, IsCellIn, StartKind, start_kind, start_step, is_index}

-- a number names no local, nor does what may be a start value
record Localless (kind : StartKind) (bound : ℕ) : Type 0 where
  number : (z : ℤ) → kind.constant ≡ Some z → bound ≡ 0
  value : kind.fits ≡ true → bound ≡ 0

abbrev NamesNone : Pure → Type 0
NamesNone e = Localless (start_kind e) (local_bound e)

no_number : (z : ℤ) → None ≡ Some z → ⊥
no_number z e = cc

without : (kind : StartKind) (bound : ℕ) → bound ≡ 0 → Localless kind bound
without kind bound e = record { number = λ z is. e; value = λ is. e }

unfit : (kind : StartKind) (bound : ℕ) → kind ≡ record { constant = None; fits = false } → Localless kind bound
unfit kind bound e = record {
  number = λ z is. absurd (no_number z (sym (ap (λ k. k.constant) e) ∙ is));
  value = λ is. absurd (true≢false (sym is ∙ ap (λ k. k.fits) e));
}

indexed : (len : ℕ) (o : Option ℤ) → is_index o len ≡ true → (z : ℤ) × (o ≡ Some z)
indexed len (Some z) h = (z, refl)
indexed len None h = absurd (true≢false (sym h))

of_element : (kind index : StartKind) (bound inner len : ℕ) → kind ≡ record { constant = None; fits = is_index index.constant len }
    → bound ≡ inner → Localless index inner → Localless kind bound
of_element kind index bound inner len e f of = record {
  number = λ z is. absurd (no_number z (sym (ap (λ k. k.constant) e) ∙ is));
  value = λ is. let c = indexed len index.constant (sym (ap (λ k. k.fits) e) ∙ is) in f ∙ of.number c.0 c.1;
}

bound_at : (x : pure.Pure-F Pure) → local_bound (roll-Pure x) ≡ local_bound_step (map-Pure Pure ℕ local_bound x)
bound_at x = fold-roll-Pure ℕ local_bound_step x

kind_at : (x : pure.Pure-F Pure) → start_kind (roll-Pure x) ≡ start_step (map-Pure Pure StartKind start_kind x)
kind_at x = fold-roll-Pure StartKind start_step x

names_none : (e : Pure) → NamesNone e
names_none e = ind-Pure NamesNone (λ x y is.
    let P : pure.Pure-F Pure → Type 0 = λ v. NamesNone (roll-Pure v) in
    elim y as (λ v. map-Pure _ Pure (λ d. d.0) v ≡ x → NamesNone (roll-Pure x)) [
      | pure.Const c ↦ λ same. subst P same (without _ _ (bound_at (pure.Const c)))
      | pure.Local m ↦ λ same. subst P same (unfit _ _ (kind_at (pure.Local m)))
      | pure.Addr c ↦ λ same. subst P same (without _ _ (bound_at (pure.Addr c)))
      | pure.AddrElem first len x ↦ λ same. subst P same (of_element _ (start_kind x.0) _ (local_bound x.0) len (kind_at (pure.AddrElem first len x.0)) (bound_at (pure.AddrElem first len x.0)) x.1)
      | pure.Un op x ↦ λ same. subst P same (unfit _ _ (kind_at (pure.Un op x.0)))
      | pure.Bin op x y ↦ λ same. subst P same (unfit _ _ (kind_at (pure.Bin op x.0 y.0)))
      | pure.Cond x y z ↦ λ same. subst P same (unfit _ _ (kind_at (pure.Cond x.0 y.0 z.0)))
    ] is) e

-- the start values of a valid program's cells name no local
pub starts_localless : (p : Listing) → IsValid p → All (λ (cell : Cell). local_bound cell.init ≤ 0) p.cells
starts_localless p valid = All-weaker (IsCellIn p.cells) (λ cell. local_bound cell.init ≤ 0) (λ cell is. omega (arith, (names_none cell.init).value is.kind)) p.cells valid.each_cell
