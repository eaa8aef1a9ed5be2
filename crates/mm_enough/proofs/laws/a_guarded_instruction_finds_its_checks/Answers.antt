use Rattle.mm_keeping.proofs.Guarded.{checks_hold, reaches}
use Rattle.mm_part.proofs.Failing.{a_full_run}
use Rattle.mm_enough.proofs.laws.a_guarded_instruction_finds_its_checks.Goals as goal

pub returns-clause-checks : goal.returns-clause-checks
returns-clause-checks c = λ m bound set p es last source b runs alive t i at.
    let full = a_full_run m bound set p es last source.valid b runs in
    checks_hold m bound p source full.0 last full.1 alive t i at

pub returns-clause-cells : goal.returns-clause-cells
returns-clause-cells c = λ m bound set p es last source b runs alive t i at to has.
    let full = a_full_run m bound set p es last source.valid b runs in
    reaches m bound p source full.0 last full.1 alive t i at to has
