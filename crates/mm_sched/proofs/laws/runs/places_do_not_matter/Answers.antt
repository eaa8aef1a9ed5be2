use Rattle.mm_sched.proofs.Placeless.{places_do_not_matter}
use Rattle.mm_sched.proofs.laws.runs.places_do_not_matter.Goals as goal

pub returns : goal.returns
returns c = places_do_not_matter
