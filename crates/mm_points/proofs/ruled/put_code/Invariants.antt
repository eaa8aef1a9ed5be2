use Rattle.std.proofs.Common.{◌≡◌, ◌++◌, map, take}
use Rattle.mm_points.specs.reading.Ruled.{rule_of}
use Rattle.mm_points.proofs.ruled.put_code.Given as goal

abbrev pub invariant-code : goal.invariant-code
invariant-code l = l.out.items ≡ l.fn.out.items ++ map (rule_of l.base) (take l.it-index l.code)
