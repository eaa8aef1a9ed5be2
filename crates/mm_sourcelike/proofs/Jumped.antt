-- No jump of main that is not to its last place passes a Start or a Join.
use Rattle.std.proofs.Common.{arith, ◌≡◌, ◌⊎◌, inl, inr, ℕ, ◌+◌, ◌<◌, ◌≤◌, true, List, length, codes, refl, ◌∙◌, sym, ap, subst, Some, None}
use Rattle.std.specs.List.{slice_get}
use Rattle.std.proofs.lemmas.Bool.{cases_lt}
use Rattle.std.proofs.lemmas.Option.{slice_get_within}
use Rattle.mm_goto.specs.declared.program.Instr.{Instr}
use Rattle.mm_goto.specs.declared.program.Instr.TheVariants as instr
use Rattle.mm_goto.specs.Listing.{Listing}
use Rattle.mm_goto.specs.Sourcelike.{JumpPassesNone}
use Rattle.mm_goto.specs.Valid.{code_of}
use Rattle.mm_tree.specs.declared.item.Item.{Item}
use Rattle.mm_tree.specs.declared.item.Tree.{Tree}
use Rattle.mm_tree.specs.declared.side.Side.TheVariants.{Source}
use Rattle.mm_flow.specs.declared.names.Parts.{Parts}
use Rattle.mm_flow.specs.Flow.{Ways, in_body}
use Rattle.mm_flow.specs.Programs.{all_to, end_of, limit_passed, named_function, parts_of, program_of, thread_of}
use Rattle.mm_flow.specs.Text.{labels_in}
use Rattle.mm_names.specs.Programs.{IsAccepted}
use Rattle.mm_sourcelike.specs.Ints.{AreInts}
use Rattle.mm_sourcelike.specs.Shapes.{IsScoped}
use Rattle.mm_sourcelike.proofs.Guarding.{nothing}
use Rattle.mm_sourcelike.proofs.Inlining.{AcceptedText}
use Rattle.mm_sourcelike.proofs.Jumping.{AllLast, level_jumps}
use Rattle.mm_sourcelike.proofs.Law.{main_level}
use Rattle.mm_sourcelike.proofs.SafeThreads.{body_done, end_at, halves}
use Rattle.mm_sourcelike.proofs.Scoping.{same_some}
use Rattle.mm_sourcelike.proofs.Threading.{ThreadFunction, code_size}
use Rattle.mm_sourcelike.proofs.Validity.{main_flow, main_function, text}

module _ (tree : Tree) (ints : AreInts tree) (scoped : IsScoped tree) (accepted : IsAccepted Source tree) (none : limit_passed Source tree ≡ None) where
  abbrev p : Listing
  p = program_of Source tree

  abbrev items : List Item
  items = tree.items

  abbrev parts : Parts
  parts = parts_of Source items

  abbrev code : List Instr
  code = (thread_of parts items (codes "main")).code

  abbrev last : ℕ
  last = end_of parts items (codes "main")

  abbrev accepted_text : AcceptedText p items parts
  accepted_text = text Source tree ints scoped accepted none

  abbrev main : ThreadFunction p items parts accepted_text true (codes "main")
  main = main_function Source tree ints scoped accepted none

  length_is : last + 1 ≡ length code
  length_is = sym (code_size p items parts accepted_text true (codes "main") main)

  -- the body's ways all lead to the last place
  abbrev ways : Ways
  ways = in_body (all_to last) (labels_in (named_function parts items (codes "main")).body) (main_flow parts items) 0

  all_last : AllLast last ways
  all_last = record { behind = refl; next = refl; home = omega arith }

  pub jumps_pass_none : (j : ℕ) (i : Instr) → slice_get (code_of p 0) j ≡ Some i → JumpPassesNone (code_of p 0) j i
  jumps_pass_none j i e = choose (cases_lt j last)
    where
      within : j < length code
      within = slice_get_within code j i e

      choose : (j < last) ⊎ (last ≤ j) → JumpPassesNone code j i
      choose (inl l) =
          level_jumps code last length_is ways all_last (main_level Source tree ints scoped accepted none) nothing 0
          (body_done p items parts accepted_text refl true (codes "main") main).safe
          (halves p items parts accepted_text refl true (codes "main") main).0
          j (omega arith) (omega (arith, l)) i e
      choose (inr l) =
          let is : last ≡ j = omega (arith, l, within, length_is) in
          subst (JumpPassesNone code j) (same_some instr.End i (sym (end_at p items parts accepted_text refl true (codes "main") main) ∙ (ap (slice_get code) is ∙ e))) tt
