use Rattle.std.proofs.Common.{◌≡◌, ◌+◌, length, take}
use Rattle.mm_flow.proofs.locals.Locals.truncate.Given as goal

abbrev pub invariant-loop-behind : goal.invariant-loop-behind
invariant-loop-behind l = record {
  kept : take l.len l.self ≡ take l.len l.fn.self;
  left : length l.self + l._behind ≡ length l.fn.self + l.len;
}
