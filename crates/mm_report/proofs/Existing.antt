-- A program has a report on each head whose notes are of its sites, where the cells of an access can be listed.
use Rattle.std.proofs.Common.{◌≡◌, sym, subst, refl, ℕ, suc, ◌<◌, List, [], ◌∷◌, length, Some}
use Rattle.std.specs.Prelude.{IsSomeAnd, slice_get}
use Rattle.serde_json.specs.Data.{Data}
use Rattle.serde_json.specs.Written.{compact_text}
use Rattle.mm_goto.specs.Listing.{Listing}
use Rattle.mm_goto.specs.Sites.{sites, Names}
use Rattle.mm_goto.specs.declared.shape.Head.{Head}
use Rattle.mm_goto.specs.declared.shape.Note.{Note}
use Rattle.mm_goto.specs.declared.spot.Spot.{Spot}
use Rattle.mm_points.specs.Cells.{AreCells}
use Rattle.mm_graph.proofs.Pairs.{there_is}
use Rattle.mm_report.specs.Reports.{AreReported, IsReport, list_data, note_data, report_of}

module _ (p : Listing) (listed : (s : Spot) → (cells : List ℕ) × AreCells (Names p s) cells) where
  reported : (notes : List Note) → ((j : ℕ) (note : Note) → slice_get notes j ≡ Some note → note.site < length (sites p)) → (ds : List Data) × AreReported p notes ds
  reported [] inside = ([], AreReported.none)
  reported (note ∷ notes) inside =
      let spot = there_is (sites p) note.site (inside 0 note refl) in
      let named = listed spot.0 in
      let rest = reported notes (λ j other e. inside (suc j) other e) in
      (note_data p.cells named.0 note ∷ rest.0, AreReported.more named.0 (subst (λ o. IsSomeAnd o (λ s. AreCells (Names p s) named.0)) (sym spot.1) named.1) rest.1)

  pub some_report : (head : Head) → ((j : ℕ) (note : Note) → slice_get head.notes j ≡ Some note → note.site < length (sites p)) → (line : List ℕ) × IsReport p head line
  some_report head inside =
      let r = reported head.notes inside in
      (compact_text (report_of (list_data r.0) (length (sites p)) head), record { buffered = r.0; reported = r.1; spelled = refl })
