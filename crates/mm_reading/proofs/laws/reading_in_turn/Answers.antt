use Rattle.mm_reading.proofs.InTurn.{first, last, together}
use Rattle.mm_reading.proofs.laws.reading_in_turn.Goals as goal

pub returns : goal.returns
returns g c = record { first = first; last = last; together = together }
