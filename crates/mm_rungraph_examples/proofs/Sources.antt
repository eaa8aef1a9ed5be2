-- A source that makes sense is flattened to what a run graph takes.
use Rattle.std.proofs.Common.{◌≡◌, ℕ, suc, ◌<◌, ◌^◌, false, List, [], ◌∷◌, length, refl, subst, Some}
use Rattle.std.specs.List.{AllByRecursion, slice_get}
use Rattle.std.specs.Str.{IsUtf8}
use Rattle.std.proofs.lemmas.List.Elements.{All-from_recursion}
use Rattle.mm_goto.specs.declared.program.Instr.{Instr}
use Rattle.mm_goto.specs.declared.program.Thread.{Thread}
use Rattle.mm_goto.specs.Listing.{Listing}
use Rattle.mm_goto.specs.Sourcelike.{is_section}
use Rattle.mm_lexer.specs.declared.token.Token.{Token}
use Rattle.mm_lexer.specs.Tokens.{AreTokens}
use Rattle.mm_tree.specs.declared.item.Tree.{Tree}
use Rattle.mm_tree.specs.declared.side.Side.TheVariants.{Source}
use Rattle.mm_names.specs.Programs.{IsAccepted}
use Rattle.mm_flow.specs.Programs.{program_of}
use Rattle.mm_grammar.specs.Meaning.{IsTreeOf}
use Rattle.mm_parse.specs.Faults.{Parses}
use Rattle.mm_sched.specs.Sections.{HasNoSection}
use Rattle.mm_sourcelike.proofs.Guarded.{no_section}
use Rattle.mm_sourcelike.proofs.Law.{flattened_valid}
use Rattle.mm_sourcelike.proofs.Texts.{text_is_grammatical}
use Rattle.mm_sourcelike.proofs.Whole.{source_like}
use Rattle.mm_rungraph_examples.specs.Flattening.{FlattensWell}

by_index : {X : Type 0} (P : X → Type 0) (xs : List X) → ((k : ℕ) (x : X) → slice_get xs k ≡ Some x → P x) → AllByRecursion P xs
by_index P [] h = tt
by_index P (x ∷ xs) h = (h 0 x refl, by_index P xs (λ k y e. h (suc k) y e))

no_sections : (p : Listing) → ((t k : ℕ) (thread : Thread) (i : Instr) → slice_get p.threads t ≡ Some thread → slice_get thread.code k ≡ Some i → is_section i ≡ false) → HasNoSection p
no_sections p h =
    All-from_recursion _ p.threads (by_index _ p.threads (λ t thread e.
    All-from_recursion _ thread.code (by_index _ thread.code (λ k i f. h t k thread i e f))))

pub tree_of : (text : List ℕ) (tokens read : List Token) (tree : Tree) → read ≡ tokens → AreTokens text tokens → Parses Source text read tree → IsTreeOf Source text tree
tree_of text tokens read tree same cut h = let there : Parses Source text tokens tree = subst (λ (ts : List Token). Parses Source text ts tree) same h in record { tokens = tokens; cut = cut; shallow = there.shallow; parsed = there.program }

pub flattens_well : (text : List ℕ) (tree : Tree) → IsUtf8 text → length text < 2 ^ 32 → IsTreeOf Source text tree → IsAccepted Source tree → FlattensWell tree
flattens_well text tree utf8 small read sense = λ none.
    let g = text_is_grammatical Source text tree utf8 small read in
    (flattened_valid Source tree g.ints g.scoped sense none, no_sections (program_of Source tree) (no_section tree g.ints g.scoped sense none), source_like tree g sense none)
