-- A flattened source is a source's program.
use Rattle.std.proofs.Common.{◌≡◌, None}
use Rattle.mm_goto.specs.Sourcelike.{IsSourcelike}
use Rattle.mm_tree.specs.declared.item.Tree.{Tree}
use Rattle.mm_tree.specs.declared.side.Side.TheVariants.{Source}
use Rattle.mm_flow.specs.Programs.{limit_passed, program_of}
use Rattle.mm_names.specs.Programs.{IsAccepted}
use Rattle.mm_sourcelike.specs.Grammatical.{IsGrammatical}
use Rattle.mm_sourcelike.proofs.Apartness.{names_apart}
use Rattle.mm_sourcelike.proofs.Arrays.{arrays_continue}
use Rattle.mm_sourcelike.proofs.CellsOf.{elements_are_ints}
use Rattle.mm_sourcelike.proofs.Declared.{cells_declarable, mutexes_declarable}
use Rattle.mm_sourcelike.proofs.GlobalCells.{source_cells}
use Rattle.mm_sourcelike.proofs.Guarded.{checks_passed, no_section, updates_apart}
use Rattle.mm_sourcelike.proofs.Jumped.{jumps_pass_none}
use Rattle.mm_sourcelike.proofs.Law.{flattened_valid}
use Rattle.mm_sourcelike.proofs.NotMain.{never_main}
use Rattle.mm_sourcelike.proofs.Ordering.{joins_follow, starts_rise}
use Rattle.mm_sourcelike.proofs.PlainThreads.{divides_in_time, few_levels, few_nodes, unsigned_numbers}
use Rattle.mm_sourcelike.proofs.Sources.{threads_end, within_source}
use Rattle.mm_sourcelike.proofs.TypedThreads.{addresses_of_ints, locals_typed, single_cells, whole_arrays}

pub source_like : (tree : Tree) → IsGrammatical Source tree → IsAccepted Source tree → limit_passed Source tree ≡ None → IsSourcelike (program_of Source tree)
source_like tree g accepted none = record {
  valid = flattened_valid Source tree g.ints g.scoped accepted none;
  limits = within_source tree none;
  ends = threads_end Source tree;
  each = λ t k thread i e f. record {
    sections = no_section tree g.ints g.scoped accepted none t k thread i e f;
    not_main = never_main Source tree g.ints g.scoped accepted none t k thread i e f;
    ints = addresses_of_ints tree g accepted none t k thread i e f;
    numbers = unsigned_numbers tree g accepted none t k thread i e f;
    arrays = whole_arrays tree g accepted none t k thread i e f;
    singles = single_cells tree g accepted none t k thread i e f;
    guarded = checks_passed tree g.ints g.scoped accepted none t k thread i e f;
    apart = updates_apart tree g.ints g.scoped accepted none t k thread i e f;
    late = divides_in_time tree g accepted none t k thread i e f;
    size = few_nodes tree g accepted none t k thread i e f;
    levels = few_levels tree g accepted none t k thread i e f;
  };
  typed = locals_typed tree g accepted none;
  cells = source_cells tree g accepted none;
  cell_names = cells_declarable tree g accepted;
  mutex_names = mutexes_declarable tree g accepted;
  apart = names_apart Source tree accepted;
  arrays = record { before = arrays_continue Source tree; ints = elements_are_ints tree g };
  order = record {
    order = starts_rise Source tree g.ints g.scoped accepted none;
    joins = joins_follow Source tree g.ints g.scoped accepted none;
    jumps = jumps_pass_none tree g.ints g.scoped accepted none;
  };
}
