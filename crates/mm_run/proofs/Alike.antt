-- The woven program of a small program fails as the program does with store buffers.
use Rattle.std.proofs.Common.{◌≡◌, ◌↔◌, ℕ, ◌≤◌, List, length, sym, ◌∙◌, ap, subst}
use Rattle.mm_goto.specs.declared.model.Model.{Model}
use Rattle.mm_goto.specs.Bounds.{Bounding}
use Rattle.mm_goto.specs.Listing.{Listing, without_places}
use Rattle.mm_goto.specs.Valid.{IsValid}
use Rattle.mm_tree.specs.declared.side.Side.TheVariants.{Output}
use Rattle.mm_sched.specs.declared.entry.Rules.TheVariants.{Sc, Buffered}
use Rattle.mm_sched.specs.Runs.{Reaches}
use Rattle.mm_sched.proofs.Drops.{drops}
use Rattle.mm_sched.proofs.Adds.{adds}
use Rattle.mm_sched.proofs.Placeless.{places_do_not_matter}
use Rattle.mm_print.specs.SmallListing.{IsSmallListing}
use Rattle.mm_print.specs.SmallText.{small_text}
use Rattle.mm_print.specs.Woven.{woven as small_woven}
use Rattle.mm_print.specs.Meaning.{IsProgramOf}
use Rattle.mm_alone.proofs.Planned.{plan_printed}
use Rattle.mm_run.proofs.FromSmall.{listing_small}
use Rattle.mm_print.proofs.Whole.{woven_text}
use Rattle.mm_run.specs.Answer.{FailsAsBuffered, IsAlike, IsOfSmall, IsWoven}
use Rattle.mm_run.proofs.Weaving.{woven_alike}

-- q is what the text means that is printed for the small program p, the model and the bound
abbrev IsOut : Listing → Model → Bounding → Listing → Type 0
IsOut p m bound q = IsProgramOf Output (small_text p m bound) q

module _ (p : Listing) (o : IsOfSmall p) (m : Model) (bound : Bounding) where
  is_small_listing : IsSmallListing p
  is_small_listing = subst IsSmallListing (sym o.flat) (listing_small o.small o.within)

  one_thread : length p.threads ≡ 1
  one_thread = ap (λ (q : Listing). length q.threads) o.flat

  fails_alike : IsValid p → 1 ≤ bound → FailsAsBuffered (small_woven p) p m bound
  fails_alike v k n = (λ r. adds m bound k p one_thread n (a.1 r), λ r. a.0 (drops m bound p v one_thread n r)) where
    a : Reaches Sc p n ↔ Reaches Sc (small_woven p) n
    a = subst (λ (q : Listing). Reaches Sc q n ↔ Reaches Sc (small_woven q) n) (sym o.flat) (woven_alike o.small n)

  -- and so does any program that the printed text has
  printed_alike : (q : Listing) → IsValid p → 1 ≤ bound → IsOut p m bound q → FailsAsBuffered q p m bound
  printed_alike q v k h n = (λ r. g.0 (there (e.1 r)), λ r. e.0 (back (g.1 r))) where
    e : Reaches Sc (without_places q) n ↔ Reaches Sc q n
    e = places_do_not_matter Sc q n

    g : Reaches Sc (small_woven p) n ↔ Reaches (Buffered m bound) p n
    g = fails_alike v k n

    same : without_places q ≡ small_woven p
    same = woven_text p q m bound is_small_listing h

    there : Reaches Sc (without_places q) n → Reaches Sc (small_woven p) n
    there r = subst (λ (o : Listing). Reaches Sc o n) same r

    back : Reaches Sc (small_woven p) n → Reaches Sc (without_places q) n
    back r = subst (λ (o : Listing). Reaches Sc o n) (sym same) r

-- the text of a small program's woven program fails as the program does with store buffers
pub is_alike : (p : Listing) (m : Model) (bound : Bounding) (out : List ℕ) → IsValid p → 1 ≤ bound → IsWoven p m bound out → IsOfSmall p → IsAlike p m bound out
is_alike p m bound out v b w o =
    let small = is_small_listing p o m bound in
    let text : out ≡ small_text p m bound = w.text ∙ plan_printed p m bound w.shape w.head small w.plan in
    λ q read. printed_alike p o m bound q v b (subst (λ text. IsProgramOf Output text q) text read)
