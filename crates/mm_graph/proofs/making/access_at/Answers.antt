use Rattle.std.proofs.Common.{◌≡◌, ◌∙◌, ◌≤◌, length, refl, sym, ap, arith, Some}
use Rattle.std.proofs.lemmas.Option.{slice_get_read}
use Rattle.std.specs.Option.{option_copied}
use Rattle.mm_goto.specs.declared.program.Thread.{Thread}
use Rattle.mm_goto.specs.PointsTo.{instr_at}
use Rattle.mm_goto.specs.Valid.{code_of}
use Rattle.mm_graph.proofs.Made.{iff_chain}
use Rattle.mm_graph.proofs.Named.{contains_at, names_within}
use Rattle.mm_graph.proofs.Pairs.{code_read}
use Rattle.mm_graph.proofs.making.access_at.Goals as goal

pub access_of-requires-clause-cells : goal.access_of-requires-clause-cells
access_of-requires-clause-cells c = λ k x is.
    let p = c.args.program.now in
    let at : instr_at p c.args.spot.thread c.args.spot.index ≡ Some c.in-Some.it.now = sym c.fetched.ensures ∙ ap (λ o. option_copied o) c.in-Some.is in
    let are = c.requires.points.cells c.args.spot c.in-Some.it.now at in
    let small = names_within p c.threads.ensures.valid c.args.spot x ((are.each x).0 (contains_at _ k x is)) in
    let few = c.requires.cells in
    omega arith

pub returns : goal.returns
returns c =
    let p = c.args.program.now in
    let at : instr_at p c.args.spot.thread c.args.spot.index ≡ Some c.in-Some.it.now = sym c.fetched.ensures ∙ ap (λ o. option_copied o) c.in-Some.is in
    let are = c.requires.points.cells c.args.spot c.in-Some.it.now at in
    let some : 1 ≤ length p.threads = c.threads.ensures.valid.main in
    let main = slice_get_read p.threads (length p.threads) 0 c.index-threads-0.result refl (omega arith) (rw c.threads.ensures.threads at c.index-threads-0.is) in
    let code : c.items.result.now ≡ code_of p 0 = c.items.ensures ∙ ap (λ (x : Thread). x.code) (sym c.index-threads-0.is) ∙ sym (code_read p 0 c.index-threads-0.result main) in
    record {
      thread = c.access_of.ensures.place.0;
      index = c.access_of.ensures.place.1;
      kind = rw at c.access_of.ensures.kind.0;
      subject = rw at c.access_of.ensures.kind.1;
      start = rw code at c.access_of.ensures.start;
      join = rw code at c.access_of.ensures.join;
      cells = λ x. iff_chain (c.access_of.ensures.cells x) (are.each x);
    }
