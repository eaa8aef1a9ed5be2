-- A program has one report.
use Rattle.std.proofs.Common.{arith, ◌≡◌, sym, subst, ap, refl, ℕ, ◌++◌, List, codes}
use Rattle.mm_goto.specs.Bounds.{Bounding}
use Rattle.mm_goto.specs.Listing.{Listing}
use Rattle.mm_goto.specs.declared.model.Model.{Model}
use Rattle.mm_goto.specs.declared.shape.Head.{Head}
use Rattle.mm_graph.specs.declared.fault.GraphFault.TheVariants.{TooManySites, TooManyCells}
use Rattle.mm_graph.specs.Refusals.{IsRefused as IsTooLarge}
use Rattle.mm_planned.proofs.OneHead.{one_head}
use Rattle.mm_report.specs.Reports.{IsReport}
use Rattle.mm_report.proofs.Unique.{one_report}
use Rattle.mm_run.specs.declared.status.Status.{Status}
use Rattle.mm_run.specs.Answer.{IsTooLargeFor, ReportsCycles}
use Rattle.mm_run.proofs.Completing.{not_too_large}

first_limit : (p : Listing) → IsTooLarge p TooManySites → IsTooLarge p TooManyCells → ⊥
first_limit p h k = omega (arith, h, k.0)

pub one_too_large : (p : Listing) (a b : Status) (out text : List ℕ) → IsTooLargeFor p a out → IsTooLargeFor p b text → (a ≡ b) × (out ≡ text)
one_too_large p a b out text (IsTooLargeFor.too_many_sites h) (IsTooLargeFor.too_many_sites k) = (refl, refl)
one_too_large p a b out text (IsTooLargeFor.too_many_cells h) (IsTooLargeFor.too_many_cells k) = (refl, refl)
one_too_large p a b out text (IsTooLargeFor.too_many_sites h) (IsTooLargeFor.too_many_cells k) = absurd (first_limit p h k)
one_too_large p a b out text (IsTooLargeFor.too_many_cells h) (IsTooLargeFor.too_many_sites k) = absurd (first_limit p k h)

pub one_of_reports : (m : Model) (bound : Bounding) (p : Listing) (a b : Status) (out text : List ℕ) → ReportsCycles m bound p a out → ReportsCycles m bound p b text → (a ≡ b) × (out ≡ text)
one_of_reports m bound p a b out text (ReportsCycles.too_large h) (ReportsCycles.too_large k) = one_too_large p a b out text h k
one_of_reports m bound p a b out text (ReportsCycles.too_large h) (ReportsCycles.reported head s k r) = absurd (not_too_large p s a out h)
one_of_reports m bound p a b out text (ReportsCycles.reported head s k r) (ReportsCycles.too_large h) = absurd (not_too_large p s b text h)
one_of_reports m bound p a b out text (ReportsCycles.reported {line = line} head s k r) (ReportsCycles.reported {line = other} top t l q) =
    let same : line ≡ other = one_report p head line other r (subst (λ (h : Head). IsReport p h other) (sym (one_head m bound p head top k l)) q) in
    (refl, ap (λ xs. xs ++ codes "\n") same)
