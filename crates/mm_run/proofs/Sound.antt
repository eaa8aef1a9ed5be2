-- What a text that makes sense is flattened to is what the machines take.
use Rattle.std.proofs.Common.{◌≡◌, ℕ, suc, ◌<◌, ◌^◌, false, List, [], ◌∷◌, length, refl, sym, subst, Some, None}
use Rattle.std.specs.List.{AllByRecursion, slice_get}
use Rattle.std.specs.Str.{IsUtf8}
use Rattle.std.proofs.lemmas.List.Elements.{All-from_recursion}
use Rattle.mm_goto.specs.declared.program.Instr.{Instr}
use Rattle.mm_goto.specs.declared.program.Thread.{Thread}
use Rattle.mm_goto.specs.Listing.{Listing}
use Rattle.mm_goto.specs.Sourcelike.{is_section}
use Rattle.mm_goto.specs.Valid.{IsValid}
use Rattle.mm_tree.specs.declared.item.Tree.{Tree}
use Rattle.mm_tree.specs.declared.side.Side.{Side}
use Rattle.mm_tree.specs.declared.side.Side.TheVariants.{Source, Output}
use Rattle.mm_names.specs.Programs.{IsAccepted as MakesSense}
use Rattle.mm_flow.specs.Programs.{limit_passed, program_of}
use Rattle.mm_grammar.specs.Meaning.{IsTreeOf}
use Rattle.mm_sched.specs.declared.entry.Rules.{Rules}
use Rattle.mm_sched.specs.declared.entry.Rules.TheVariants.{Sc, Buffered, Partial}
use Rattle.mm_sched.specs.Sections.{HasNoSection}
use Rattle.mm_sourcelike.specs.Ints.{AreInts}
use Rattle.mm_sourcelike.specs.Shapes.{IsScoped}
use Rattle.mm_sourcelike.proofs.Guarded.{no_section}
use Rattle.mm_sourcelike.proofs.Law.{flattened_valid}
use Rattle.mm_sourcelike.proofs.Texts.{text_is_grammatical}
use Rattle.mm_run.specs.Program.{IsProgramText, side_for}
use Rattle.mm_run.specs.reading.Sound.{CanRun, FlattensWell, HasSections}

by_index : {X : Type 0} (P : X → Type 0) (xs : List X) → ((k : ℕ) (x : X) → slice_get xs k ≡ Some x → P x) → AllByRecursion P xs
by_index P [] h = tt
by_index P (x ∷ xs) h = (h 0 x refl, by_index P xs (λ k y e. h (suc k) y e))

no_sections : (p : Listing) → ((t k : ℕ) (thread : Thread) (i : Instr) → slice_get p.threads t ≡ Some thread → slice_get thread.code k ≡ Some i → is_section i ≡ false) → HasNoSection p
no_sections p h =
    All-from_recursion _ p.threads (by_index _ p.threads (λ t thread e.
    All-from_recursion _ thread.code (by_index _ thread.code (λ k i f. h t k thread i e f))))

has_sections : (side : Side) (tree : Tree) → AreInts tree → IsScoped tree → MakesSense side tree → limit_passed side tree ≡ None → HasSections side (program_of side tree)
has_sections Source tree ints scoped sense none = no_sections (program_of Source tree) (no_section tree ints scoped sense none)
has_sections Output tree ints scoped sense none = tt

pub flattens_well : (side : Side) (text : List ℕ) (tree : Tree) → IsUtf8 text → length text < 2 ^ 32 → IsTreeOf side text tree → MakesSense side tree → FlattensWell side tree
flattens_well side text tree utf8 small read sense = λ none.
    let g = text_is_grammatical side text tree utf8 small read in
    (flattened_valid side tree g.ints g.scoped sense none, has_sections side tree g.ints g.scoped sense none)

-- a text's program is valid
pub valid_program : (side : Side) (text : List ℕ) (p : Listing) → IsUtf8 text → length text < 2 ^ 32 → IsProgramText side text p → IsValid p
valid_program side text p utf8 short h = subst IsValid (sym h.flat) (flattens_well side text h.tree utf8 short h.read h.sense h.within).0

-- the rules take what stands on the side that they read
pub can_run : (r : Rules) (text : List ℕ) (p : Listing) → HasSections (side_for r text) p → CanRun r p
can_run Sc text p h = tt
can_run (Buffered m bound) text p h = h
can_run (Partial m bound buffered) text p h = h
