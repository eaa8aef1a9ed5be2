use Rattle.std.proofs.Common.{◌≡◌, get_or, arith}
use Rattle.std.proofs.lemmas.Option.{slice_get-get_or}
use Rattle.mm_points.specs.Sets.{Has, Linked}
use Rattle.mm_points.specs.reading.Rules.{IsPointer}
use Rattle.mm_points.proofs.Growing.{grows_both}
use Rattle.mm_points.proofs.Indexes.{adds_more, adds_all}
use Rattle.mm_points.proofs.settling.join_pointed.Goals as goal

pub names-preserved : goal.names-preserved
names-preserved c = record {
  given = λ a b. adds_more c.args.names.now c.names.i (get_or c.args.names.now c.names.i 0) (λ k. (a ≡ k) × IsPointer c.args.pointers.now k × Has c.args.value.now b)
      (Linked c.args.sets.now a b) (Linked c.names.sets a b) (Linked c.join_at.new.sets a b)
      (slice_get-get_or c.args.names.now c.names.i 0 c.names-test.true) (c.names.invariant.given a b) (c.in_ok-more.ensures.given a b);
  grows = grows_both c.args.sets.now c.names.sets c.join_at.new.sets c.names.grew c.in_ok-more.more c.names.invariant.grows c.in_ok-more.ensures.grows;
}

pub returns-clause-given : goal.returns-clause-given
returns-clause-given c = λ a b. adds_all c.args.names.now c.names.i (λ k. (a ≡ k) × IsPointer c.args.pointers.now k × Has c.args.value.now b)
    (Linked c.args.sets.now a b) (Linked c.names.sets a b) (omega arith) (c.names.invariant.given a b)
