use Rattle.std.proofs.Common.{◌≡◌, Some, subst}
use Rattle.mm_goto.specs.Place.{start}
use Rattle.mm_flow.specs.declared.fault.FlatFault.{FlatFault}
use Rattle.mm_flow.specs.Programs.{limit_passed}
use Rattle.mm_flat.specs.reading.Refusal.{WhenTooMany}
use Rattle.mm_run.specs.Program.{IsNoProgram, limit_words}
use Rattle.mm_run.proofs.Refused.{rejects}
use Rattle.mm_run.proofs.program.flat.Goals as goal

pub returns-in-Err-TooMany-clause-refused : goal.returns-in-Err-TooMany-clause-refused
returns-in-Err-TooMany-clause-refused c = λ text read sense.
    let passed = subst (λ (f : FlatFault). WhenTooMany f (λ l. limit_passed c.args.side c.args.tree.now ≡ Some l)) c.in-Err-TooMany.field-0-is c.in-Err-TooMany.ensures.too_many in
    rejects c.args.side text start (limit_words c.in-Err-TooMany.limit) c.too_large.result (IsNoProgram.too_many c.in-Err-TooMany.limit (record {
      tree = c.args.tree.now;
      read = read;
      sense = sense;
      passed = passed;
    })) c.too_large.ensures
