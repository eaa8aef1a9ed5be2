use Rattle.std.proofs.Common.{refl, ap, ◌∙◌, ◌≡◌, ◌<◌, length, subst, sym}
use Rattle.std.proofs.lemmas.List.Elements.{All-get_or}
use Rattle.std.proofs.lemmas.Option.{slice_get_read}
use Rattle.std.specs.Prelude.{slice_get}
use Rattle.mm_goto.specs.Sites.{sites}
use Rattle.mm_report.specs.Reports.{AreReported, note_data}
use Rattle.mm_report.proofs.Adding.{noted, one_more}
use Rattle.mm_report.proofs.reporting.notes_values.Goals as goal

pub notes-init : goal.notes-init
notes-init c = rw c.new-values.ensures.items AreReported.none

pub notes-preserved : goal.notes-preserved
notes-preserved c =
    let small : c.note-item.result.site < length (sites c.args.program.now) =
    subst (λ note. note.site < length (sites c.args.program.now)) (sym c.note-item.is)
    (All-get_or (λ note. note.site < length (sites c.args.program.now)) c.args.notes.now c.notes.note-index c.note-item.result c.notes-test.true c.requires.notes) in
    rw c.in_ok-push.ensures.items (one_more c.args.program.now c.args.notes.now c.notes.note-index c.notes.values.items c.in_ok-value.value c.note-item.result c.index-sites-note.result.cells c.notes.invariant
    (slice_get_read c.args.notes.now _ c.notes.note-index c.note-item.result refl c.notes-test.true c.note-item.is)
    (noted c.args.program.now c.args.graph.now c.requires.graph c.note-item.result c.index-sites-note.result small
    (ap (λ found. slice_get found c.note-item.result.site) (sym c.sites.ensures)
    ∙ slice_get_read c.sites.result.now (length (sites c.args.program.now)) c.note-item.result.site c.index-sites-note.result (sym (ap length c.sites.ensures ∙ c.requires.graph.size)) small c.index-sites-note.is))
    (c.in_ok-value.ensures ∙ ap (λ cells. note_data cells c.items.result.now c.note-item.result) c.cells.ensures ∙ ap (λ named. note_data c.args.program.now.cells named c.note-item.result) c.items.ensures))
