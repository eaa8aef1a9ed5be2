use Rattle.mm_sourcelike.proofs.Sources.{threads_end}
use Rattle.mm_sourcelike.proofs.laws.each_thread_ends.Goals as goal

pub returns : goal.returns
returns c = threads_end
