use Rattle.std.proofs.Common.{rules, ◌≡◌, false}
use Rattle.std.specs.Str.{bytes_eq}
use Rattle.mm_goto.specs.declared.ident.Ident.{Ident}
use Rattle.mm_flow.specs.Statements.{is_function}
use Rattle.mm_flow.proofs.Finds.{placed_more, placed_same}
use Rattle.mm_flow.proofs.places.function_places.Goals as goal
use Rattle.mm_flow.proofs.places.function_places.Goals.{in-Some+in_ok-note, in_default}

pub loop-i-preserved : goal.loop-i-preserved
loop-i-preserved c = elim c.match-function_name.branch [
  | in-Some+in_ok-note w ↦
      let own : (x : Ident) → is_function x c.index-items-i.result ≡ bytes_eq w.in-Some.name.now x = λ x. search (rules, w.in-Some.is, c.function_name.ensures.some x) in
      rw (w.places-is, w.in_ok-note.ensures) (placed_more c.args.items.now c.loop-i.i c.index-items-i.result w.in-Some.name.now c.loop-i-test.true c.index-items-i.is own c.loop-i.invariant)
  | in_default w ↦
      let other : (x : Ident) → is_function x c.index-items-i.result ≡ false = λ x. search (rules, w.in_default.is, c.function_name.ensures.none x) in
      rw (w.places-is) (placed_same c.args.items.now c.loop-i.i c.index-items-i.result c.loop-i-test.true c.index-items-i.is other c.loop-i.invariant)
]
