use Rattle.std.proofs.Common.{◌≡◌, ℕ, ◌+◌, ◌-◌, inl, inr, arith, length, length-append}
use Rattle.mm_bits.specs.declared.numbers.Numbers.{Numbers}
use Rattle.mm_bits.specs.Table.{Linked}
use Rattle.mm_bits.proofs.Firsts.{near_edge}
use Rattle.mm_bits.proofs.Frontiers.{frontier_level, frontier_more, nothing_new, found_by}
use Rattle.mm_bits.proofs.Nearer.{level_more, levels_more, levels_all, iff_on}
use Rattle.mm_bits.proofs.Missing.{lacks_less}
use Rattle.mm_bits.proofs.levels.levels_of.Goals as goal

pub levels-init : goal.levels-init
levels-init c =
    rw c.new-sets.ensures.items (record {
      near = λ d within. absurd (omega arith);
      last = λ x. iff_on (c.requires.turned x c.args.b) (near_edge (Linked c.args.rows.now) c.args.b x);
      frontier = record { among = λ x h. h; behind = λ x y leads has. inl has };
    })

pub returns-then-is_empty-clause-sets : goal.returns-then-is_empty-clause-sets
returns-then-is_empty-clause-sets c =
    let E : ℕ → ℕ → Type 0 = Linked c.args.rows.now in
    let items = c.levels.sets.items in
    let size : length c.push.new.self.items - 1 ≡ length items = rw c.in_ok-push.ensures.items (omega (arith, length-append {A = Numbers})) in
    let finds = found_by c.args.rows.now c.args.back.now c.levels.fresh.words c.before-fresh.result.words c.requires.turned c.before-fresh.ensures in
    let closed = nothing_new E c.levels.seen.words c.levels.fresh.words c.before-fresh.result.words c.remove.new.self.words c.levels.invariant.frontier finds c.remove.ensures (c.is_empty.ensures.none c.if-is_empty.true) in
    record {
      some = rw c.in_ok-push.ensures.items (omega (arith, length-append {A = Numbers}));
      near = rw c.in_ok-push.ensures.items (levels_more E c.args.b items c.levels.seen c.levels.invariant.near c.levels.invariant.last);
      all = λ x leads. rw size (rw c.in_ok-push.ensures.items (levels_all E c.args.b items c.levels.seen c.levels.invariant.near c.levels.invariant.last closed x leads));
    }

pub levels-smaller : goal.levels-smaller
levels-smaller c =
    let new = c.is_empty.ensures.some c.if-is_empty.false in
    lacks_less c.levels.seen.words c.join.new.self.words (λ k has. (c.join.ensures k).1 (inl has)) 1024 new.0 new.1
    ((c.join.ensures new.0).1 (inr new.2)) ((c.remove.ensures new.0).0 new.2).1

pub levels-preserved : goal.levels-preserved
levels-preserved c =
    let E : ℕ → ℕ → Type 0 = Linked c.args.rows.now in
    let items = c.levels.sets.items in
    let size : length c.push.new.self.items ≡ length items + 1 = rw c.in_ok-push.ensures.items (omega (arith, length-append {A = Numbers})) in
    let finds = found_by c.args.rows.now c.args.back.now c.levels.fresh.words c.before-fresh.result.words c.requires.turned c.before-fresh.ensures in
    let level = frontier_level E c.levels.seen.words c.levels.fresh.words c.before-fresh.result.words c.remove.new.self.words c.levels.invariant.frontier finds c.remove.ensures c.join.new.self.words c.join.ensures in
    record {
      near = rw c.in_ok-push.ensures.items (levels_more E c.args.b items c.levels.seen c.levels.invariant.near c.levels.invariant.last);
      last = rw size (level_more E c.args.b c.levels.seen.words c.join.new.self.words (length items) c.levels.invariant.last level);
      frontier = frontier_more E c.levels.seen.words c.levels.fresh.words c.before-fresh.result.words c.remove.new.self.words c.levels.invariant.frontier finds c.remove.ensures c.join.new.self.words c.join.ensures;
    }
