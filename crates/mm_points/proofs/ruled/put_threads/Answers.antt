use Rattle.std.proofs.Common.{length, get_or}
use Rattle.mm_goto.specs.declared.program.Thread.{Thread}
use Rattle.mm_points.proofs.Listings.{writes_within}
use Rattle.mm_points.proofs.ruled.put_threads.Goals as goal

pub put_code-requires : goal.put_code-requires
put_code-requires c =
    let thread : Thread = get_or c.args.threads.now c.threads.t c.index-threads-t.result in
    let below = c.requires.below c.threads.t c.index-threads-t.result c.threads-test.true in
    rw (c.items.ensures, c.threads.invariant.here) (writes_within c.args.base c.args.step (length c.args.threads.now) c.threads.t thread.code c.requires.few c.threads-test.true below)
