-- Where the address of a cell stands in a program.
use Rattle.std.proofs.Common.{ℕ, inl, inr}
use Rattle.std.specs.Prelude.{◌↔◌, ◌⊎◌}
use Rattle.mm_goto.specs.Listing.{Listing}
use Rattle.mm_goto.specs.Shapes.{IsAddressed, in_code, in_start}
use Rattle.mm_points.proofs.Derived.{instr_is, stands_at}
use Rattle.mm_delay.specs.reading.Addressed.{InThreads, InStarts}

from_addressed : (p : Listing) (c : ℕ) → IsAddressed p c → InThreads p.threads c ⊎ InStarts p.cells c
from_addressed p c (in_code t k it e is has takes) =
    let at = stands_at p t k it is in
    inl (t, at.thread, at.runs, (k, it, at.stands, (e, has, takes)))
from_addressed p c (in_start k of is takes) = inr (k, of, is, takes)

to_addressed : (p : Listing) (c : ℕ) → InThreads p.threads c ⊎ InStarts p.cells c → IsAddressed p c
to_addressed p c (inl h) =
    let at = h.3 in
    let e = at.3 in
    in_code h.0 at.0 at.1 e.0 (instr_is p h.0 at.0 h.1 at.1 h.2 at.2) e.1 e.2
to_addressed p c (inr h) = in_start h.0 h.1 h.2 h.3

pub addressed_is : (p : Listing) (c : ℕ) → IsAddressed p c ↔ (InThreads p.threads c ⊎ InStarts p.cells c)
addressed_is p c = (from_addressed p c, to_addressed p c)
