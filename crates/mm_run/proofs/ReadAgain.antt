-- The printed woven program of a source is a program again.
use Rattle.std.proofs.Common.{◌≡◌, ℕ, ◌<◌, ◌^◌, List, length, None, refl, sym, ◌∙◌, ap, subst}
use Rattle.std.specs.Str.{IsUtf8}
use Rattle.mm_goto.specs.declared.model.Model.{Model}
use Rattle.mm_goto.specs.declared.shape.Head.{Head}
use Rattle.mm_goto.specs.declared.shape.Shape.{Shape}
use Rattle.mm_goto.specs.Bounds.{Bounding, IsBound}
use Rattle.mm_goto.specs.Listing.{Listing}
use Rattle.mm_goto.specs.Shapes.{Fits}
use Rattle.mm_graph.specs.Graphs.{IsSmall}
use Rattle.mm_tree.specs.declared.item.Tree.{Tree}
use Rattle.mm_tree.specs.declared.side.Side.TheVariants.{Source, Output}
use Rattle.mm_tree.specs.Places.{without_places}
use Rattle.mm_flow.specs.Programs.{limit_passed, program_of}
use Rattle.mm_grammar.specs.Meaning.{IsTreeOf}
use Rattle.mm_names.specs.Programs.{IsAccepted}
use Rattle.mm_print.specs.Items.{printed_text}
use Rattle.mm_instr.specs.Woven.{woven}
use Rattle.mm_run.specs.Answer.{IsReadAgain, IsWoven}
use Rattle.mm_run.specs.reading.Sound.{IsOfSource}

-- what the law says of the woven texts of sources
abbrev pub WovenIsAccepted : Type 0
WovenIsAccepted = (text : List ℕ) (tree : Tree) (shape : Shape) (head : Head) → IsUtf8 text → length text < 2 ^ 32
    → IsTreeOf Source text tree → IsAccepted Source tree → limit_passed Source tree ≡ None
    → IsSmall (program_of Source tree) → IsBound shape.bound → Fits (program_of Source tree) shape
    → (u : Tree) × IsTreeOf Output (printed_text (woven (program_of Source tree) shape) head) u
    × (without_places u ≡ without_places (woven (program_of Source tree) shape)) × IsAccepted Output u × (limit_passed Output u ≡ None)

pub read_again : WovenIsAccepted → (p : Listing) (m : Model) (bound : Bounding) (out : List ℕ) → IsOfSource p → IsSmall p → IsBound bound → IsWoven p m bound out → IsReadAgain out
read_again law p m bound out source small b w =
    let flat : p ≡ program_of Source source.read.tree = source.read.flat in
    let r = law source.text source.read.tree w.shape w.head source.utf8 source.short source.read.read source.read.sense source.read.within
    (subst IsSmall flat small) (subst IsBound (sym w.plan.shape_bound) b) (subst (λ q. Fits q w.shape) flat w.plan.fits) in
    subst IsReadAgain (sym (w.text ∙ ap (λ q. printed_text (woven q w.shape) w.head) flat))
    (program_of Output r.0, record { tree = r.0; read = r.1; sense = r.3; within = r.4; flat = refl })
