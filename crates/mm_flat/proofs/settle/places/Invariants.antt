use Rattle.std.proofs.Common.{◌≡◌, ◌++◌, drop, map}
use Rattle.mm_flow.specs.reading.Settling.{piece_place}
use Rattle.mm_flat.proofs.settle.places.Given as goal

abbrev pub invariant-loop-piece : goal.invariant-loop-piece
invariant-loop-piece l = map piece_place l.pieces ≡ l.out.items ++ map piece_place (drop l.piece-index l.pieces)
