use Rattle.std.proofs.Common.{refl}
use Rattle.mm_rungraph.specs.RunGraph.{layout_of}
use Rattle.mm_rungraph.proofs.Remarks.{store_first, room_first}
use Rattle.mm_rungraph.proofs.laws.stores_and_flushes_come_in_order.Goals as goal

pub returns-clause-issue : goal.returns-clause-issue
returns-clause-issue c = λ m bound p es run valid. store_first p valid (layout_of m bound p) bound refl es run.events run.happen

pub returns-clause-room : goal.returns-clause-room
returns-clause-room c = λ m bound p es run valid t q j a b is h k. room_first p valid (layout_of m bound p) bound refl es run.events run.happen t q j a b is h k refl
