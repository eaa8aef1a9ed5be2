use Rattle.std.proofs.Common.{◌≡◌, drop}
use Rattle.std.specs.List.{fold}
use Rattle.mm_flow.specs.Statements.{digit_step}
use Rattle.mm_flat_stmt.proofs.numbers.digits.Given as goal

abbrev pub invariant-loop-byte : goal.invariant-loop-byte
invariant-loop-byte l = fold digit_step 0 l.bytes ≡ fold digit_step l.number (drop l.byte-index l.bytes)
