use Rattle.std.proofs.Common.{◌≡◌, ◌∙◌, ◌∷◌, ℕ, ◌<◌, List, length, arith, subst, sym}
use Rattle.mm_goto.specs.Paths.{IsFirstPath}
use Rattle.mm_goto.specs.DelayCycles.{IsFirstCycle, Unsafe, Edge}
use Rattle.mm_goto.specs.Sites.{Com, Between}
use Rattle.mm_cycles.proofs.Transfer.{first_same, cycle_same, agree_turn}
use Rattle.mm_cycles.proofs.UnsafePairs.{agree}
use Rattle.mm_cycles.specs.Links.{UnsafeIn}
use Rattle.mm_graph.specs.Graphs.{ComIn, EdgeIn}
use Rattle.mm_cycles.specs.Walks.{sites_on}
use Rattle.mm_cycles.proofs.FirstCycles.{same_length, first_cycle, no_cycle, unsafe_within}
use Rattle.mm_cycles.proofs.cycles.first_cycle.Goals as goal

pub returns-in-Some-clause-first : goal.returns-in-Some-clause-first
returns-in-Some-clause-first c =
    let U : ℕ → ℕ → Type 0 = UnsafeIn c.args.graph.now c.args.model in
    let C : ℕ → ℕ → Type 0 = ComIn c.args.graph.now in
    let E : ℕ → ℕ → Type 0 = EdgeIn c.args.graph.now in
    let s : ℕ = c.args.store in
    let P : ℕ → Type 0 = λ goal. IsFirstPath E c.in-Some.meets c.in_ok-path.path.items goal in
    let first = subst P c.in_ok-levels.ensures.goal c.in_ok-path.ensures in
    let sites : sites_on c.in_ok-rest.rest ≡ c.in_ok-path.path.items = c.in_ok-rest.ensures ∙ c.as_slice.ensures.value in
    let Q : List ℕ → Type 0 = λ rest. IsFirstCycle U C E s (s ∷ c.later.later ∷ rest) in
    let found = subst Q (sym sites) (first_cycle U C E s c.later.later c.in-Some.meets c.in_ok-path.path.items
    (c.is_unsafe.ensures.0 c.if-is_unsafe.true) c.in-Some.ensures.this first c.later.invariant
    (λ n meets leads. c.in-Some.ensures.least n meets ((c.all.ensures n).1 (c.in_ok-levels.ensures.sets.all n leads)))) in
    λ p is. first_same U C E (Between p (Unsafe p c.args.model)) (Between p (Com p)) (Between p (Edge p)) (agree p c.args.graph.now c.args.model is) s (s ∷ c.later.later ∷ sites_on c.in_ok-rest.rest) found

pub returns-clause-none : goal.returns-clause-none
returns-clause-none c =
    let U : ℕ → ℕ → Type 0 = UnsafeIn c.args.graph.now c.args.model in
    let C : ℕ → ℕ → Type 0 = ComIn c.args.graph.now in
    let E : ℕ → ℕ → Type 0 = EdgeIn c.args.graph.now in
    let none = no_cycle U C E c.args.store (λ k n u meets.
    let small : k < length c.args.graph.now.sites = unsafe_within c.args.graph.now c.args.model c.args.store k u in
    let size = same_length c.sites.ensures in
    c.later.invariant k n (omega arith) u meets) in
    λ p is has.
    let V : ℕ → ℕ → Type 0 = Between p (Unsafe p c.args.model) in
    let D : ℕ → ℕ → Type 0 = Between p (Com p) in
    let F : ℕ → ℕ → Type 0 = Between p (Edge p) in
    none has.0 (cycle_same V D F U C E (agree_turn U C E V D F (agree p c.args.graph.now c.args.model is)) (c.args.store ∷ has.0) has.1)
