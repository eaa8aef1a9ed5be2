use Rattle.std.proofs.Common.{◌≡◌, ◌∙◌, ℕ, Bool, List, length, sym, subst, ap, Some}
use Rattle.std.specs.Prelude.{◌↔◌, IsTrue, IsSomeAnd, slice_get}
use Rattle.std.specs.List.{Contains}
use Rattle.mm_bits.specs.Words.{Has}
use Rattle.mm_goto.specs.declared.program.Thread.{Thread}
use Rattle.mm_goto.specs.Shapes.{flag_at}
use Rattle.mm_graph.specs.declared.site.Site.{Site}
use Rattle.mm_delay.specs.Plans.{IsDelayed}
use Rattle.mm_delay.specs.reading.Sets.{AreSmall, OfSome}
use Rattle.mm_delay.proofs.Deciding.{addressed_small, joined_small, small_sites}
use Rattle.mm_delay.proofs.Fitting as fitting
use Rattle.mm_delay.proofs.planning.shape_of.Goals as goal

pub cells_of-cells-requires : goal.cells_of-cells-requires
cells_of-cells-requires c = subst AreSmall (sym c.sites-sites.ensures) (small_sites c.args.program.now c.args.graph.now c.requires.graph c.threads-threads.ensures.valid)

pub threads_of-storing-requires : goal.threads_of-storing-requires
threads_of-storing-requires c = subst AreSmall (sym c.sites-sites.ensures) (small_sites c.args.program.now c.args.graph.now c.requires.graph c.threads-threads.ensures.valid)

pub sites_at-near-requires : goal.sites_at-near-requires
sites_at-near-requires c = subst AreSmall (sym c.sites-sites.ensures) (small_sites c.args.program.now c.args.graph.now c.requires.graph c.threads-threads.ensures.valid)

pub points-requires-clause-joins : goal.points-requires-clause-joins
points-requires-clause-joins c = λ t k u thread at.
    joined_small c.args.program.now c.threads-threads.ensures.valid t k u thread (subst (λ (threads : List Thread). slice_get threads t ≡ Some thread) c.threads-threads.ensures.threads at)

pub moving-requires-clause-below : goal.moving-requires-clause-below
moving-requires-clause-below c = addressed_small c.args.program.now c.threads-threads.ensures.valid c.requires.graph.small.cells

pub returns-clause-buffered : goal.returns-clause-buffered
returns-clause-buffered c = λ t k.
    let threads = c.threads-threads.ensures.threads in
    let P : List (List Bool) → Type 0 = λ rows. IsTrue (flag_at rows t k) ↔ IsDelayed c.args.program.now c.args.model t k in
    subst P (sym c.new.ensures)
    (fitting.buffered_are_delayed c.args.program.now c.threads-threads.ensures.valid c.args.graph.now c.requires.graph c.args.model c.args.delayed.now.words c.requires.delayed
    c.in_ok-buffered.buffered.items (c.in_ok-buffered.ensures.size ∙ ap (λ (threads : List Thread). length threads) threads) (fitting.flagged c.args.delayed.now.words c.in_ok-buffered.buffered.items threads c.sites-sites.ensures c.in_ok-buffered.ensures.each) t k)

pub returns-clause-fits : goal.returns-clause-fits
returns-clause-fits c =
    let p = c.args.program.now in
    let valid = c.threads-threads.ensures.valid in
    let threads = c.threads-threads.ensures.threads in
    let sites = c.sites-sites.ensures in
    let set : List ℕ = c.args.delayed.now.words in
    let cells : List ℕ = c.cells_of-cells.result.words in
    let near : List ℕ = c.sites_at-near.result.words in
    let storing : List ℕ = c.threads_of-storing.result.words in
    let as_many = ap (λ (threads : List Thread). length threads) threads in
    let C : List Site → Type 0 = λ sites. (n : ℕ) → Has cells n ↔ OfSome sites set (λ x. Contains x.cells n) in
    let N : List Site → Type 0 = λ sites. (s : ℕ) → Has near s ↔ IsSomeAnd (slice_get sites s) (λ x. (n : ℕ) × Contains x.cells n × Has cells n) in
    let T : List Site → Type 0 = λ sites. (t : ℕ) → Has storing t ↔ OfSome sites set (λ x. x.thread ≡ t) in
    fitting.fits p valid c.args.graph.now c.requires.graph c.args.model set c.requires.delayed
    c.in_ok-buffered.buffered.items (c.in_ok-buffered.ensures.size ∙ as_many) (fitting.flagged set c.in_ok-buffered.buffered.items threads sites c.in_ok-buffered.ensures.each)
    cells (subst C sites c.cells_of-cells.ensures)
    near (subst N sites c.sites_at-near.ensures)
    c.in_ok-close.close.items (c.in_ok-close.ensures.size ∙ as_many) (fitting.flagged near c.in_ok-close.close.items threads sites c.in_ok-close.ensures.each)
    storing (subst T sites c.threads_of-storing.ensures)
    c.in_ok-points.points.items (c.in_ok-points.ensures.size ∙ as_many) (fitting.marked storing c.in_ok-points.points.items threads c.as_slice.ensures.value c.as_slice-2.ensures.value c.in_ok-points.ensures.each)
    c.in_ok-moved.moved.items c.in_ok-moved.ensures.size c.in_ok-moved.ensures.raised
    c.args.bound c.new.result c.new-2.result c.new-3.result c.new.ensures c.new-2.ensures c.new-3.ensures
