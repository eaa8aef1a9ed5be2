use Rattle.mm_keeping.proofs.Naming.{names, flush_names}
use Rattle.mm_keeping.proofs.laws.an_access_names_its_cell.Goals as goal

pub returns-clause-executed : goal.returns-clause-executed
returns-clause-executed c = λ m bound p es run source. names m bound p source es run.events run.happen

pub returns-clause-flushed : goal.returns-clause-flushed
returns-clause-flushed c = λ m bound p es run source. flush_names m bound p source es run.events run.happen
