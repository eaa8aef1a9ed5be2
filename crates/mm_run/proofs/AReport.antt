-- A program whose instructions come from places in a text has a report.
use Rattle.std.proofs.Common.{◌≡◌, ◌∙◌, ap, ℕ, ◌++◌, List, length, codes, Some, ⊎_elim}
use Rattle.std.specs.Prelude.{slice_get}
use Rattle.std.specs.List.{Contains}
use Rattle.std.proofs.lemmas.Bool.{cases_lt}
use Rattle.std.proofs.lemmas.Option.{slice_get-map}
use Rattle.std.specs.Option.{option_map}
use Rattle.mm_goto.specs.Bounds.{Bounding}
use Rattle.mm_goto.specs.Listing.{Listing}
use Rattle.mm_goto.specs.Place.{start}
use Rattle.mm_goto.specs.Sites.{sites}
use Rattle.mm_goto.specs.declared.model.Model.{Model}
use Rattle.mm_goto.specs.declared.shape.Head.{Head}
use Rattle.mm_goto.specs.declared.shape.Note.{Note}
use Rattle.mm_graph.proofs.Named.{contains_at}
use Rattle.mm_decided.proofs.Cells.{cells_listed}
use Rattle.mm_planned.proofs.SomeHead.{HasPlaces, a_head, within}
use Rattle.mm_delay.specs.Plans.{IsHeadOf, noted}
use Rattle.mm_report.specs.Reports.{IsReport}
use Rattle.mm_report.proofs.Existing.{some_report}
use Rattle.mm_run.specs.declared.status.Status.{Status}
use Rattle.mm_run.specs.declared.status.Status.TheVariants.{Done, Refused}
use Rattle.mm_run.specs.Answer.{IsTooLargeFor, ReportsCycles}
use Rattle.mm_run.specs.Lines.{refusal_line}

module _ (p : Listing) (places : HasPlaces p) (m : Model) where
  -- ---- the report

  a_report : (bound : Bounding) → (head : Head) × IsHeadOf p m bound head × ((line : List ℕ) × IsReport p head line)
  a_report bound =
      let h = a_head p places m bound in
      (h.0, h.1, some_report p (λ s. let c = cells_listed p s in (c.0, record { ordered = c.1; each = c.2 })) h.0 (λ j note e. within p places m note.site ((h.1.notes.all note.site).0 (at_index h.0.notes j note e))))
    where
      at_index : (notes : List Note) (j : ℕ) (note : Note) → slice_get notes j ≡ Some note → Contains (noted notes) note.site
      at_index notes j note e =
          let mapped : slice_get (noted notes) j ≡ Some note.site = slice_get-map (λ (n : Note). n.site) notes j ∙ ap (option_map (λ (n : Note). n.site)) e in
          contains_at (noted notes) j note.site mapped

  -- a small program has its report, and another is too large
  pub an_answer_of_cycles : (bound : Bounding) → (status : Status) × (out : List ℕ) × ReportsCycles m bound p status out
  an_answer_of_cycles bound = ⊎_elim
      (λ l. (Refused, refusal_line start (codes "too many sites"), ReportsCycles.too_large (IsTooLargeFor.too_many_sites l)))
      (λ few. ⊎_elim
      (λ l. (Refused, refusal_line start (codes "too many shared cells"), ReportsCycles.too_large (IsTooLargeFor.too_many_cells (few, l))))
      (λ small. let r = a_report bound in (Done, r.2.0 ++ codes "\n", ReportsCycles.reported r.0 (record { sites = few; cells = small }) r.1 r.2.1))
      (cases_lt 256 (length p.cells)))
      (cases_lt 1024 (length (sites p)))
