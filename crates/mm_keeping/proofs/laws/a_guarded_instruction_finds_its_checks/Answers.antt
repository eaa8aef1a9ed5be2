use Rattle.mm_keeping.proofs.Guarded.{checks_hold, reaches}
use Rattle.mm_keeping.proofs.laws.a_guarded_instruction_finds_its_checks.Goals as goal

pub returns-clause-checks : goal.returns-clause-checks
returns-clause-checks c = λ m bound p es last source runs alive t i at. checks_hold m bound p source es last runs alive t i at

pub returns-clause-cells : goal.returns-clause-cells
returns-clause-cells c = λ m bound p es last source runs alive t i at to has. reaches m bound p source es last runs alive t i at to has
