-- The relation under PSO looks at memory alone.
use Rattle.std.proofs.Common.{◌≡◌, ℕ, ℤ, List, length, sym, ◌∙◌, ap, subst}
use Rattle.mm_sched.specs.State.{State}
use Rattle.mm_meaning.specs.Meaning.{View}
use Rattle.mm_meaning.specs.Acting.{at_slot}
use Rattle.mm_pieces.specs.Parts.{PartTable, HeldParts, MirrorsParts, parts_of}

pub mirrors_part_as : (tb : PartTable) (size : ℕ) (home : ℕ → ℕ) (l b : View) (s : State) → l.memory ≡ b.memory → MirrorsParts tb size home b s → MirrorsParts tb size home l s
mirrors_part_as tb size home l b s e h = record {
  size_is = ap length e ∙ h.size_is;
  threads = h.threads;
  memory = λ c q. ap (λ (x : List ℤ). at_slot x (home c)) e ∙ h.memory c q;
  held = subst (λ x. HeldParts tb x (parts_of s)) (sym e) h.held;
}
