use Rattle.std.proofs.Common.{◌≡◌, ◌∙◌, List, Some, arith, sym}
use Rattle.std.proofs.lemmas.Option.{slice_get-get_or, slice_get_within, get_or_from_slice_get}
use Rattle.std.specs.Prelude.{slice_get}
use Rattle.mm_bits.specs.Words.{Has}
use Rattle.mm_goto.specs.declared.shape.Note.{Note}
use Rattle.mm_points.proofs.Indexes.{adds_more, adds_all, iff_inr}
use Rattle.mm_points.proofs.Lists.{mapped, among_map}
use Rattle.mm_delay.specs.Plans.{noted}
use Rattle.mm_delay.proofs.sets.noted.Goals as goal

pub add-requires : goal.add-requires
add-requires c =
    let at = slice_get-get_or c.args.notes.now c.notes.k c.index-notes-k.result c.notes-test.true in
    c.requires c.notes.k _ (mapped (λ (x : Note). x.site) c.args.notes.now c.notes.k _ at)

pub notes-preserved : goal.notes-preserved
notes-preserved c = λ s. adds_more c.args.notes.now c.notes.k _ (λ (x : Note). s ≡ x.site) ⊥ (Has c.notes.found.words s) (Has c.add.new.self.words s)
    (slice_get-get_or c.args.notes.now c.notes.k c.index-notes-k.result c.notes-test.true) (c.notes.invariant s) (c.add.ensures s)

pub returns : goal.returns
returns c = λ s.
    let notes : List Note = c.args.notes.now in
    let all = iff_inr (λ b. b) (adds_all notes c.notes.k (λ (x : Note). s ≡ x.site) ⊥ (Has c.notes.found.words s) (omega arith) (c.notes.invariant s)) in (
      λ h.
          let some = all.0 h in
          let at : slice_get (noted notes) some.0 ≡ Some some.1.site = mapped (λ (x : Note). x.site) notes some.0 some.1 some.2 in
          (some.0, slice_get_within (noted notes) some.0 some.1.site at, get_or_from_slice_get (noted notes) some.0 some.1.site s at ∙ sym some.3),
      λ h.
          let there = among_map (λ (x : Note). x.site) notes h.0 _ (slice_get-get_or (noted notes) h.0 s h.1) in
          all.1 (h.0, there.0, there.1, sym h.2 ∙ there.2),
    )
