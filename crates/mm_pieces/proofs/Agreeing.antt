-- The calls of the helpers from any view.
use Rattle.std.proofs.Common.{◌≡◌, ℕ, ℤ, List, length, Option, Some, None, sym, ◌∙◌, ap, subst}
use Rattle.mm_sched.specs.State.{State, pending_of}
use Rattle.mm_meaning.specs.Meaning.{View, Outcome, Done, Left, Failed, Halted}
use Rattle.mm_meaning.specs.Acting.{at_slot}
use Rattle.mm_meaning.proofs.Alike.{Alike}
use Rattle.mm_pieces.specs.Mirroring.{Table, Held, Mirrors, Agrees}

-- only memory is looked at
pub mirrors_as : (tb : Table) (count size : ℕ) (home : ℕ → ℕ) (l b : View) (s : State) → l.memory ≡ b.memory → Mirrors tb count size home b s → Mirrors tb count size home l s
mirrors_as tb count size home l b s e h = record {
  size_is = ap length e ∙ h.size_is;
  threads = h.threads;
  memory = λ c q. ap (λ (m : List ℤ). at_slot m (home c)) e ∙ h.memory c q;
  held = subst (λ m. Held tb m (pending_of s)) (sym e) h.held;
}

pub agrees_as : {R : View → State → Type 0} (tb : Table) (count size : ℕ) (home : ℕ → ℕ) (m : ℕ) (r o : Outcome) (s : Option State) → ((b : View) (q : State) → R b q → Mirrors tb count size home b q) → Alike m r o → Agrees R o s → Agrees (Mirrors tb count size home) r s
agrees_as tb count size home m (Done l) (Done b) (Some q) f h g = mirrors_as tb count size home l b q h.memory (f b q g)
agrees_as tb count size home m Halted Halted None f h g = tt
agrees_as tb count size home m (Done l) (Done b) None f h g = absurd g
agrees_as tb count size home m Halted Halted (Some q) f h g = absurd g
agrees_as tb count size home m (Left w l) (Left u b) s f h g = absurd g
agrees_as tb count size home m (Failed i) (Failed j) s f h g = absurd g
agrees_as tb count size home m r o s f h g = absurd h
