-- Cycles over tables that say the same are the same.
use Rattle.std.proofs.Common.{ℕ, List, [], ◌∷◌}
use Rattle.std.specs.Prelude.{◌↔◌}
use Rattle.mm_goto.specs.Paths.{IsPath, edge, on}
use Rattle.mm_goto.specs.DelayCycles.{IsCycle, cycle, IsFirstCycle}

pub path_same : (E F : ℕ → ℕ → Type 0) → ((a b : ℕ) → E a b → F a b) → (a b : ℕ) (xs : List ℕ) → IsPath E a xs b → IsPath F a xs b
path_same E F to a b [] p = elim p [ ]
path_same E F to a b (_ ∷ []) (edge e) = edge (to a b e)
path_same E F to a b (_ ∷ xs) (on {b = m} e p) = on (to a m e) (path_same E F to m b xs p)

pub record Agree (U C E V D F : ℕ → ℕ → Type 0) : Type 0 where
  pub unsafe : (a b : ℕ) → U a b ↔ V a b
  pub meets : (a b : ℕ) → C a b ↔ D a b
  pub edges : (a b : ℕ) → E a b ↔ F a b

pub agree_turn : (U C E V D F : ℕ → ℕ → Type 0) → Agree U C E V D F → Agree V D F U C E
agree_turn U C E V D F agree = record {
  unsafe = λ a b. ((agree.unsafe a b).1, (agree.unsafe a b).0);
  meets = λ a b. ((agree.meets a b).1, (agree.meets a b).0);
  edges = λ a b. ((agree.edges a b).1, (agree.edges a b).0);
}

pub cycle_same : (U C E V D F : ℕ → ℕ → Type 0) → Agree U C E V D F → (walk : List ℕ) → IsCycle U C E walk → IsCycle V D F walk
cycle_same U C E V D F agree _ (cycle {s} {l} {m} {back} u c p) =
    cycle ((agree.unsafe s l).0 u) ((agree.meets l m).0 c) (path_same E F (λ a b. (agree.edges a b).0) m s back p)

pub first_same : (U C E V D F : ℕ → ℕ → Type 0) → Agree U C E V D F → (s : ℕ) (walk : List ℕ) → IsFirstCycle U C E s walk → IsFirstCycle V D F s walk
first_same U C E V D F agree s walk first = record {
  of = first.of;
  is = cycle_same U C E V D F agree walk first.is;
  first = λ rest other. first.first rest (cycle_same V D F U C E (agree_turn U C E V D F agree) _ other);
}
