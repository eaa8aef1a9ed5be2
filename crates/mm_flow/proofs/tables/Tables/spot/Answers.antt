use Rattle.std.proofs.Common.{◌≡◌, ◌∙◌}
use Rattle.std.specs.Prelude.{position}
use Rattle.mm_flow.specs.Scopes.{spot_of}
use Rattle.mm_flow.specs.reading.Finding.{at_place, spot_is_called}
use Rattle.mm_flow.proofs.Finds.{found_at}
use Rattle.mm_flow.proofs.tables.Tables.spot.Goals as goal

pub returns : goal.returns
returns c =
    let place : c.place_of.result ≡ position (spot_is_called c.args.x.now) c.self.inside.parts.now.spots = rw c.text.ensures at c.place_of.ensures ∙ c.self.invariant.0.each c.args.x.now in
    let same : spot_of c.self.inside.parts.now.spots c.args.x.now ≡ at_place c.items.result.now c.place_of.result = rw (c.items.ensures, place) (found_at (spot_is_called c.args.x.now) c.self.inside.parts.now.spots) in
    rw (← c.self.view_is, same) c.spot_at.ensures
