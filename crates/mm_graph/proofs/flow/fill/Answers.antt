use Rattle.std.proofs.Common.{length, arith, refl}
use Rattle.std.proofs.lemmas.Option.{slice_get_read}
use Rattle.mm_graph.specs.reading.Marks.{passes_where}
use Rattle.mm_graph.proofs.Reaching.{first_sound, first_first}
use Rattle.mm_graph.proofs.flow.fill.Goals as goal

pub settle-requires-clause-sound : goal.settle-requires-clause-sound
settle-requires-clause-sound c =
    first_sound (passes_where c.args.all) c.args.code.now c.args.from c.args.seen.now c.mark_after.new.seen c.index-code-from.result
    (slice_get_read c.args.code.now (length c.args.code.now) c.args.from c.index-code-from.result refl (omega arith) c.index-code-from.is) c.requires.none c.mark_after.ensures.marked

pub settle-requires-clause-first : goal.settle-requires-clause-first
settle-requires-clause-first c =
    first_first c.args.code.now c.args.from c.args.seen.now c.mark_after.new.seen c.index-code-from.result
    (slice_get_read c.args.code.now (length c.args.code.now) c.args.from c.index-code-from.result refl (omega arith) c.index-code-from.is) c.requires.places c.mark_after.ensures.marked
