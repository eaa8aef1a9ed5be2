-- The edges as the law on orders takes them: by tests at one key, and by counters.
use Rattle.std.proofs.Common.{arith, ◌≡◌, ℕ, ◌+◌, ◌<◌, true, false, if◌then◌else◌, List, [], ◌∷◌, length, take, Option, sym, ◌∙◌, ap, slice_index_or}
use Rattle.std.proofs.lemmas.Bool.{false≢true}
use Rattle.std.proofs.lemmas.List.{take_more}
use Rattle.std.proofs.lemmas.List.Sums.{sum_by-append}
use Rattle.mm_sched.specs.declared.entry.Event.{Event}
use Rattle.mm_runkeys.specs.Spans.{Span, is_key, times}
use Rattle.mm_rungraph.proofs.Spanning.{key_is, is_key_at}

-- an edge of a kind, from tests at one key: what `Next P Q` and `Last P Q` over tests say
pub span_at : (marked erased asked : ℕ → Option ℕ) (x a b : ℕ) → a < b → is_key x (marked a) ≡ true → is_key x (asked b) ≡ true → ((k : ℕ) → a < k → k < b → is_key x (erased k) ≡ false) → Span marked erased asked a b
span_at marked erased asked x a b l p q none = record {
  key = x;
  before = l;
  from = key_is x (marked a) p;
  to = key_is x (asked b) q;
  none = λ k i j h. false≢true (sym (none k i j) ∙ is_key_at x (erased k) h);
}

-- the counter of a key goes up by the events that have it
pub counts_on : (key : Event → Option ℕ) (x : ℕ) (es : List Event) (n : ℕ) (d : Event) → n < length es → times key x (take (n + 1) es) ≡ times key x (take n es) + (if is_key x (key (slice_index_or es n d)) then 1 else 0)
counts_on key x es n d l = ap (times key x) (take_more es n d l) ∙ sum_by-append (λ e. if is_key x (key e) then 1 else 0) (take n es) (slice_index_or es n d ∷ []) ∙ (omega arith)
