use Rattle.std.proofs.Common.{refl}
use Rattle.mm_bits.proofs.Wordwise.{none_has}
use Rattle.mm_bits.proofs.numbers.Numbers.empty.Goals as goal

pub returns : goal.returns
returns c = none_has _ (refl, (refl, (refl, (refl, (refl, (refl, (refl, (refl, (refl, (refl, (refl, (refl, (refl, (refl, (refl, (refl, tt))))))))))))))))
