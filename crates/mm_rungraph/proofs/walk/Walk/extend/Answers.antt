use Rattle.std.proofs.Common.{arith, ◌≡◌, ◌≤◌, length, ap, ◌∙◌}
use Rattle.mm_rungraph.specs.Extension.{extension}
use Rattle.mm_rungraph.proofs.Concluding.{extension_short, second_lacks, refused}
use Rattle.mm_rungraph.proofs.walk.Walk.extend.Goals as goal

pub take-requires-2-clause-count : goal.take-requires-2-clause-count
take-requires-2-clause-count c =
    let first : length c.as_slice.result.now ≡ length c.args.entries.now.items = ap length c.as_slice.ensures.value in
    let second : length c.as_slice-2.result.now ≡ length (extension c.args.model c.take.new.self.state) = ap length (c.as_slice-2.ensures.value ∙ c.in_ok-flushes.ensures) in
    let short : length (extension c.args.model c.take.new.self.state) ≤ length c.as_slice.result.now = extension_short c.args.model c.args.bound c.args.program.now c.args.layout.now c.args.self.now c.take.new.self c.as_slice.result.now c.requires.start c.in_ok-take.ensures.take in
    omega (arith, first, second, short, c.requires.few, c.in_ok-take.ensures.count)

pub returns-in_err-take-2 : goal.returns-in_err-take-2
returns-in_err-take-2 c = refused _ _ c.from_residual-in_err-take-2.result c.in_err-take-2.field-0.0 c.from_residual-in_err-take-2.ensures
    (second_lacks c.args.model c.args.bound c.args.program.now c.args.layout.now c.args.self.now c.take.new.self c.args.entries.now.items c.in_err-take-2.field-0.0
    (rw (c.as_slice-2.ensures.value, c.in_ok-flushes.ensures) at c.in_err-take-2.ensures.take))
