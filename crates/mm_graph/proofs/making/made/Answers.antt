use Rattle.std.proofs.Common.{◌≡◌, ◌∙◌, length, sym, ap}
use Rattle.std.specs.Prelude.{slice_get}
use Rattle.mm_goto.specs.Sites.{sites}
use Rattle.mm_bits.specs.Table.{Linked}
use Rattle.mm_graph.proofs.Made.{po_table, undrained_table, com_table, ord_table, edge_table}
use Rattle.mm_graph.proofs.Pairs.{all_sites}
use Rattle.mm_graph.proofs.making.made.Goals as goal

pub sites_at-requires-clause-sites : goal.sites_at-requires-clause-sites
sites_at-requires-clause-sites c = rw c.requires.spots (all_sites c.args.program.now)

pub accesses_of-requires-clause-sites : goal.accesses_of-requires-clause-sites
accesses_of-requires-clause-sites c = rw c.requires.spots (all_sites c.args.program.now)

pub flows-requires-clause-sites : goal.flows-requires-clause-sites
flows-requires-clause-sites c = rw c.requires.spots (all_sites c.args.program.now)

pub flows-requires-2-clause-sites : goal.flows-requires-2-clause-sites
flows-requires-2-clause-sites c = rw c.requires.spots (all_sites c.args.program.now)

pub returns : goal.returns
returns c =
    let p = c.args.program.now in
    let spots = c.args.spots.now in
    let same : spots ≡ sites p = c.requires.spots in
    let of = c.in_ok-accesses.ensures in
    let po = po_table p spots (Linked c.in_ok-po.po.rows.items) c.in_ok-po.ensures.all in
    let meets = com_table p spots c.in_ok-accesses.accesses.items of (Linked c.in_ok-com.com.rows.items) (rw c.as_slice.ensures.value at c.in_ok-com.ensures.all) in
    let ordered = ord_table p spots c.in_ok-accesses.accesses.items of (Linked c.in_ok-ord.ord.rows.items) (rw c.as_slice-2.ensures.value at c.in_ok-ord.ensures.all) in
    let edges = edge_table p spots (Linked c.in_ok-edges.edges.rows.items) (Linked c.in_ok-po.po.rows.items) (Linked c.in_ok-com.com.rows.items) (Linked c.in_ok-ord.ord.rows.items)
    c.in_ok-edges.ensures.all po meets ordered in
    let made = c.in_ok-sites.ensures in
    record {
      small = record { sites = rw same at c.requires.few; cells = c.requires.cells };
      size = ap (λ xs. length xs) c.new.ensures ∙ made.size ∙ ap (λ xs. length xs) same;
      each = λ a spot site stands is. made.each a spot site (ap (λ xs. slice_get xs a) same ∙ stands) (ap (λ xs. slice_get xs a) (sym c.new.ensures) ∙ is);
      order = rw same at po;
      undrained = rw same at (undrained_table p spots (Linked c.in_ok-undrained.undrained.rows.items) c.in_ok-undrained.ensures.all);
      meets = rw same at meets;
      ordered = rw same at ordered;
      edges = rw same at edges;
    }
