-- The plan of a small program buffers no store, so its woven program is printed line by line.
use Rattle.std.proofs.Common.{◌≡◌, ◌∙◌, ℕ, false, List, [], ◌∷◌, refl, ap, arith}
use Rattle.std.specs.Prelude.{IsTrue}
use Rattle.std.specs.List.{Contains}
use Rattle.mm_goto.specs.Bounds.{Bounding}
use Rattle.mm_goto.specs.Listing.{Listing}
use Rattle.mm_goto.specs.Shapes.{flag_at}
use Rattle.mm_goto.specs.declared.model.Model.{Model}
use Rattle.mm_goto.specs.declared.shape.Head.{Head}
use Rattle.mm_goto.specs.declared.shape.Note.{Note}
use Rattle.mm_goto.specs.declared.shape.Shape.{Shape}
use Rattle.mm_delay.specs.Plans.{IsPlanOf, noted}
use Rattle.mm_instr.specs.Woven.{has_buffers, woven}
use Rattle.mm_print.specs.Items.{printed_text}
use Rattle.mm_print.specs.SmallListing.{IsSmallListing}
use Rattle.mm_print.specs.SmallText.{small_text}
use Rattle.mm_alone.proofs.Items.{woven_line_by_line}
use Rattle.mm_alone.proofs.Unbuffered.{no_delay_cycle, unbuffered, unmoved}

-- where no site has a note there is none
no_notes : (notes : List Note) → ((s : ℕ) → Contains (noted notes) s → ⊥) → notes ≡ []
no_notes [] none = refl
no_notes (note ∷ notes) none = absurd (none note.site (0, omega arith, refl))

module _ (p : Listing) (m : Model) (bound : Bounding) (shape : Shape) (head : Head) (small : IsSmallListing p) (plan : IsPlanOf p m bound shape head) where
  none_up : (t k : ℕ) → IsTrue (flag_at shape.buffered t k) → ⊥
  none_up t k up = let site = (plan.buffered t k).0 up in no_delay_cycle p small m site.0 site.2

  pub plan_unbuffered : has_buffers shape ≡ false
  plan_unbuffered = unbuffered p small shape none_up

  pub plan_printed : printed_text (woven p shape) head ≡ small_text p m bound
  plan_printed =
      let notes : head.notes ≡ [] = no_notes head.notes (λ site h. no_delay_cycle p small m site ((plan.head.notes.all site).0 h)) in
      let is : head ≡ record { model = m; bound = bound; notes = [] } = λ x. record { model = plan.head.model x; bound = plan.head.bound x; notes = notes x } in
      ap (λ head. printed_text (woven p shape) head) is ∙ woven_line_by_line p shape m bound small plan_unbuffered (unmoved p small shape none_up plan.fits)
