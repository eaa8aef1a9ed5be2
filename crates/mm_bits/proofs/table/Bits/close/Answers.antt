use Rattle.std.proofs.Common.{◌≡◌, List, length, drop, arith, subst}
use Rattle.std.proofs.lemmas.List.{take_at}
use Rattle.mm_bits.specs.declared.numbers.Numbers.{Numbers}
use Rattle.mm_bits.specs.Table.{Linked}
use Rattle.mm_bits.proofs.table.Bits.close.Goals as goal

pub invariant_of-self-clause-within : goal.invariant_of-self-clause-within
invariant_of-self-clause-within c = λ a b h.
    let rows : List Numbers = c.close.new.rows in
    let size : length rows ≡ c.args.self.now.rows.len = omega arith in
    let same = take_at rows (drop (length rows) c.args.self.now.rows.items) c.args.self.now.rows.len size in
    let P : List Numbers → Type 0 = λ xs. Linked xs a b in
    c.close.ensures.within c.args.self.now.side
    (λ x y k. let Q : List Numbers → Type 0 = λ xs. Linked xs x y in c.args.self.now.within x y (subst Q c.as_mut_slice.ensures.value k))
    a b (subst P same h)
