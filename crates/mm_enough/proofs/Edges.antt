-- The list of all edges between the steps of a run.
use Rattle.std.proofs.Common.{arith, ◌≡◌, ℕ, zero, suc, ◌<◌, inl, inr, ⊎_elim, List, length, refl, sym, ◌∙◌, ap, subst}
use Rattle.std.proofs.lemmas.Bool.{cases_eq}
use Rattle.mm_decided.proofs.Deciding.{Decided}
use Rattle.mm_sched.specs.declared.entry.Event.{Event}
use Rattle.mm_runkeys.specs.declared.graph.EdgeKind.{EdgeKind}
use Rattle.mm_runkeys.specs.declared.graph.EdgeKind.TheVariants.{Program, Issue, Fifo, Reads, Coherence, FromRead, Drain, Mutex, Start, Join as Joining, Room}
use Rattle.mm_runkeys.specs.declared.graph.RunEdge.{RunEdge}
use Rattle.mm_runkeys.specs.declared.keys.Layout.{Layout}
use Rattle.mm_rungraph.specs.Edges.{IsEdge}
use Rattle.mm_rungraph.proofs.Once.{rank}
use Rattle.mm_enough.proofs.Gathering.{Gathered, as_told, no_item, one_item, below}
use Rattle.mm_enough.proofs.Deciding.{edge_or}

-- the kinds by their ranks
abbrev kind_at : ℕ → EdgeKind
kind_at zero = Program
kind_at (suc zero) = Issue
kind_at (suc (suc zero)) = Fifo
kind_at (suc (suc (suc zero))) = Reads
kind_at (suc (suc (suc (suc zero)))) = Coherence
kind_at (suc (suc (suc (suc (suc zero))))) = FromRead
kind_at (suc (suc (suc (suc (suc (suc zero)))))) = Drain
kind_at (suc (suc (suc (suc (suc (suc (suc zero))))))) = Mutex
kind_at (suc (suc (suc (suc (suc (suc (suc (suc zero)))))))) = Start
kind_at (suc (suc (suc (suc (suc (suc (suc (suc (suc zero))))))))) = Joining
kind_at (suc (suc (suc (suc (suc (suc (suc (suc (suc (suc n)))))))))) = Room

numbered : (k : EdgeKind) → (kind_at (rank k) ≡ k) × (rank k < 11)
numbered Program = (refl, omega arith)
numbered Issue = (refl, omega arith)
numbered Fifo = (refl, omega arith)
numbered Reads = (refl, omega arith)
numbered Coherence = (refl, omega arith)
numbered FromRead = (refl, omega arith)
numbered Drain = (refl, omega arith)
numbered Mutex = (refl, omega arith)
numbered Start = (refl, omega arith)
numbered Joining = (refl, omega arith)
numbered Room = (refl, omega arith)

module _ (s : Layout) (es : List Event) where
  abbrev made : EdgeKind → ℕ → ℕ → RunEdge
  made kind a b = record { from = a; to = b; kind = kind }

  -- the edge of the kind from a to b, from a to some step, and all of the kind
  abbrev Between : EdgeKind → ℕ → ℕ → RunEdge → Type 0
  Between kind a b e = IsEdge s es kind a b × (e ≡ made kind a b)

  abbrev From : EdgeKind → ℕ → RunEdge → Type 0
  From kind a e = (b : ℕ) × (b < length es) × Between kind a b e

  abbrev Of : EdgeKind → RunEdge → Type 0
  Of kind e = (a : ℕ) × (a < length es) × From kind a e

  abbrev Numbered : ℕ → RunEdge → Type 0
  Numbered j e = (rank (kind_at j) ≡ j) × Of (kind_at j) e

  between : (kind : EdgeKind) (a b : ℕ) → Gathered (Between kind a b)
  between kind a b = by (edge_or s es kind a b)
    where
      by : Decided (IsEdge s es kind a b) → Gathered (Between kind a b)
      by (inl i) = one_item (Between kind a b) (made kind a b) (i, refl) (λ y t. sym t.1)
      by (inr n) = no_item (Between kind a b) (λ y t. n t.0)

  from_step : (kind : EdgeKind) (a : ℕ) → Gathered (From kind a)
  from_step kind a = below (Between kind a) (between kind a) (λ j k e t u. ap (λ (x : RunEdge). x.to) (sym t.1 ∙ u.1)) (length es)

  of_kind : (kind : EdgeKind) → Gathered (Of kind)
  of_kind kind = below (From kind) (from_step kind) (λ j k e t u. ap (λ (x : RunEdge). x.from) (sym t.2.1 ∙ u.2.1)) (length es)

  of_number : (j : ℕ) → Gathered (Numbered j)
  of_number j = ⊎_elim
      (λ q. as_told (Of (kind_at j)) (Numbered j) (λ e. (λ h. (q, h), λ h. h.1)) (of_kind (kind_at j)))
      (λ n. no_item (Numbered j) (λ e h. n h.0))
      (cases_eq (rank (kind_at j)) j)

  one_number : (j k : ℕ) (e : RunEdge) → Numbered j e → Numbered k e → j ≡ k
  one_number j k e t u = sym t.0 ∙ ap (λ (x : RunEdge). rank x.kind) (sym t.1.2.2.1 ∙ u.1.2.2.1) ∙ u.0

  all_numbers : Gathered (λ (e : RunEdge). (j : ℕ) × (j < 11) × Numbered j e)
  all_numbers = below Numbered of_number one_number 11

  -- just the edges
  pub all_edges : ((kind : EdgeKind) (a b : ℕ) → IsEdge s es kind a b → (a < length es) × (b < length es)) → Gathered (λ (e : RunEdge). IsEdge s es e.kind e.from e.to)
  all_edges within = as_told (λ (e : RunEdge). (j : ℕ) × (j < 11) × Numbered j e) (λ (e : RunEdge). IsEdge s es e.kind e.from e.to) (λ e. (there e, back e)) all_numbers
    where
      there : (e : RunEdge) → (j : ℕ) × (j < 11) × Numbered j e → IsEdge s es e.kind e.from e.to
      there e (j, low, (q, (a, la, (b, lb, (i, is))))) = subst (λ (x : RunEdge). IsEdge s es x.kind x.from x.to) (sym is) i

      back : (e : RunEdge) → IsEdge s es e.kind e.from e.to → (j : ℕ) × (j < 11) × Numbered j e
      back e i =
          let l = within e.kind e.from e.to i in
          let it = numbered e.kind in
          (rank e.kind, it.1, (ap rank it.0, subst (λ k. Of k e) (sym it.0) (e.from, l.0, (e.to, l.1, (i, refl)))))
