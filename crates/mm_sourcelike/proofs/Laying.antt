-- Laid code: it has as many instructions as its flow, each of them is one of the flow's or a jump, and no jump leads out of it.
use Rattle.std.proofs.Common.{arith, ◌≡◌, ℕ, ◌+◌, ◌<◌, ◌≤◌, Bool, true, false, List, [], ◌∷◌, ◌++◌, length, refl, ◌∙◌, Option, Some, None, if◌then◌else◌}
use Rattle.std.proofs.lemmas.List.{length-append}
use Rattle.std.specs.List.{AllByRecursion}
use Rattle.std.specs.Str.{bytes_eq}
use Rattle.mm_goto.specs.declared.ident.Ident.{Ident}
use Rattle.mm_goto.specs.declared.pure.Pure.{Pure}
use Rattle.mm_goto.specs.declared.program.Instr.{Instr}
use Rattle.mm_goto.specs.declared.program.Instr.TheVariants.{Jump, Branch}
use Rattle.mm_flow.specs.Scopes.{index_of}
use Rattle.mm_flow.specs.Flow.{Flow, Empty, Do, Then, When, Either, While, DoWhile, For, Body, Leave, Mark, Goto, Way, Behind, Next, Home, Ways, Placed, size, lay, way, in_loop, in_body, mark_of, later, place_of_label, placed}

-- each instruction that is no jump is so, and each test
abbrev pub Each : (Instr → Type 0) → (Pure → Type 0) → Flow → Type 0
Each P Q Empty = Unit {0}
Each P Q (Do at i) = P i
Each P Q (Then a b) = Each P Q a × Each P Q b
Each P Q (When at e a) = Q e × Each P Q a
Each P Q (Either at e a b) = Q e × Each P Q a × Each P Q b
Each P Q (While at c e a) = Each P Q c × Q e × Each P Q a
Each P Q (DoWhile at a c e) = Each P Q a × Each P Q c × Q e
Each P Q (For at c e a j) = Each P Q c × Q e × Each P Q a × Each P Q j
Each P Q (Body names a) = Each P Q a
Each P Q (Leave at w) = Unit {0}
Each P Q (Mark y) = Unit {0}
Each P Q (Goto at y) = Unit {0}

pub weaker : (P R : Instr → Type 0) (Q S : Pure → Type 0) → ((i : Instr) → P i → R i) → ((e : Pure) → Q e → S e) → (f : Flow) → Each P Q f → Each R S f
weaker P R Q S p q Empty h = tt
weaker P R Q S p q (Do at i) h = p i h
weaker P R Q S p q (Then a b) h = (weaker P R Q S p q a h.0, weaker P R Q S p q b h.1)
weaker P R Q S p q (When at e a) h = (q e h.0, weaker P R Q S p q a h.1)
weaker P R Q S p q (Either at e a b) h = (q e h.0, weaker P R Q S p q a h.1, weaker P R Q S p q b h.2)
weaker P R Q S p q (While at c e a) h = (weaker P R Q S p q c h.0, q e h.1, weaker P R Q S p q a h.2)
weaker P R Q S p q (DoWhile at a c e) h = (weaker P R Q S p q a h.0, weaker P R Q S p q c h.1, q e h.2)
weaker P R Q S p q (For at c e a j) h = (weaker P R Q S p q c h.0, q e h.1, weaker P R Q S p q a h.2, weaker P R Q S p q j h.3)
weaker P R Q S p q (Body names a) h = weaker P R Q S p q a h
weaker P R Q S p q (Leave at w) h = tt
weaker P R Q S p q (Mark y) h = tt
weaker P R Q S p q (Goto at y) h = tt

-- ---- how long it is

joined : {A : Type 0} (xs ys : List A) (m n : ℕ) → length xs ≡ m → length ys ≡ n → length (xs ++ ys) ≡ m + n
joined xs ys m n p q = length-append xs ys ∙ rw (p, q) refl

pub laid_size : (x : Ways) (f : Flow) (k : ℕ) → length (lay x f k) ≡ size f
laid_size x Empty k = refl
laid_size x (Do at i) k = refl
laid_size x (Then a b) k = joined (lay x a k) (lay x b (k + size a)) (size a) (size b) (laid_size x a k) (laid_size x b (k + size a))
laid_size x (When at e a) k = omega (arith, laid_size x a (k + 1))
laid_size x (Either at e a b) k =
    let other : ℕ = k + 1 + size a + 1 in
    let rest = placed at (Jump (other + size b)) ∷ lay x b other in
    omega (arith, length-append (lay x a (k + 1)) rest, laid_size x a (k + 1), laid_size x b other)
laid_size x (While at c e a) k =
    let end : ℕ = k + size c + 1 + size a + 1 in
    let turn = lay (in_loop x end k) a (k + size c + 1) in
    let back = placed at (Jump k) ∷ [] in
    omega (arith, length-append (lay x c k) (placed at (Branch e end) ∷ (turn ++ back)), length-append turn back, laid_size x c k, laid_size (in_loop x end k) a (k + size c + 1))
laid_size x (DoWhile at a c e) k =
    let next : ℕ = k + size a in
    let end : ℕ = next + size c + 2 in
    let turn = lay (in_loop x end next) a k in
    let back = placed at (Branch e end) ∷ (placed at (Jump k) ∷ []) in
    omega (arith, length-append turn (lay x c next ++ back), length-append (lay x c next) back, laid_size x c next, laid_size (in_loop x end next) a k)
laid_size x (For at c e a j) k =
    let next : ℕ = k + size c + 1 + size a in
    let end : ℕ = next + size j + 1 in
    let turn = lay (in_loop x end next) a (k + size c + 1) in
    let back = placed at (Jump k) ∷ [] in
    omega (arith, length-append (lay x c k) (placed at (Branch e end) ∷ (turn ++ (lay x j next ++ back))), length-append turn (lay x j next ++ back), length-append (lay x j next) back, laid_size x c k, laid_size x j next, laid_size (in_loop x end next) a (k + size c + 1))
laid_size x (Body names a) k = laid_size (in_body x names a k) a k
laid_size x (Leave at w) k = refl
laid_size x (Mark y) k = refl
laid_size x (Goto at y) k = refl

-- ---- where labels stand

abbrev AtMost : ℕ → Option ℕ → Type 0
AtMost n None = Unit {0}
AtMost n (Some l) = l ≤ n

later_at_most : (n : ℕ) (k l : Option ℕ) → AtMost n k → AtMost n l → AtMost n (later k l)
later_at_most n k (Some l) p q = q
later_at_most n k None p q = p

raised : (m n : ℕ) (k : Option ℕ) → m ≤ n → AtMost m k → AtMost n k
raised m n None le h = tt
raised m n (Some l) le h = omega arith

at_itself : (k : ℕ) (b : Bool) → AtMost (k + 0) (if b then Some k else None)
at_itself k true = omega arith
at_itself k false = tt

-- a label stands in the code or at its end
pub marked_within : (y : Ident) (f : Flow) (k : ℕ) → AtMost (k + size f) (mark_of y f k)
marked_within y Empty k = tt
marked_within y (Do at i) k = tt
marked_within y (Then a b) k = later_at_most _ (mark_of y a k) (mark_of y b (k + size a))
    (raised _ _ (mark_of y a k) (omega arith) (marked_within y a k))
    (raised _ _ (mark_of y b (k + size a)) (omega arith) (marked_within y b (k + size a)))
marked_within y (When at e a) k = raised _ _ (mark_of y a (k + 1)) (omega arith) (marked_within y a (k + 1))
marked_within y (Either at e a b) k = later_at_most _ (mark_of y a (k + 1)) (mark_of y b (k + 1 + size a + 1))
    (raised _ _ (mark_of y a (k + 1)) (omega arith) (marked_within y a (k + 1)))
    (raised _ _ (mark_of y b (k + 1 + size a + 1)) (omega arith) (marked_within y b (k + 1 + size a + 1)))
marked_within y (While at c e a) k = later_at_most _ (mark_of y c k) (mark_of y a (k + size c + 1))
    (raised _ _ (mark_of y c k) (omega arith) (marked_within y c k))
    (raised _ _ (mark_of y a (k + size c + 1)) (omega arith) (marked_within y a (k + size c + 1)))
marked_within y (DoWhile at a c e) k = later_at_most _ (mark_of y a k) (mark_of y c (k + size a))
    (raised _ _ (mark_of y a k) (omega arith) (marked_within y a k))
    (raised _ _ (mark_of y c (k + size a)) (omega arith) (marked_within y c (k + size a)))
marked_within y (For at c e a j) k =
    later_at_most _ (later (mark_of y c k) (mark_of y a (k + size c + 1))) (mark_of y j (k + size c + 1 + size a))
    (later_at_most _ (mark_of y c k) (mark_of y a (k + size c + 1))
    (raised _ _ (mark_of y c k) (omega arith) (marked_within y c k))
    (raised _ _ (mark_of y a (k + size c + 1)) (omega arith) (marked_within y a (k + size c + 1))))
    (raised _ _ (mark_of y j (k + size c + 1 + size a)) (omega arith) (marked_within y j (k + size c + 1 + size a)))
marked_within y (Body names a) k = tt
marked_within y (Leave at w) k = tt
marked_within y (Mark x) k = at_itself k (bytes_eq x y)
marked_within y (Goto at x) k = tt

label_within : (n : ℕ) (i k : Option ℕ) → 0 < n → AtMost n k → place_of_label i k ≤ n
label_within n (Some i) (Some k) p h = h
label_within n (Some i) None p h = omega arith
label_within n None k p h = omega arith

-- ---- where jumps lead

-- each way and each label lead to one of the first n places
pub record LeadsIn (n : ℕ) (x : Ways) : Type 0 where
  pub behind : x.behind < n
  pub next : x.next < n
  pub home : x.home < n
  pub label : (y : Ident) → x.label y < n

way_in : (n : ℕ) (x : Ways) (w : Way) → LeadsIn n x → way x w < n
way_in n x Behind h = h.behind
way_in n x Next h = h.next
way_in n x Home h = h.home

loop_in : (n : ℕ) (x : Ways) (behind next : ℕ) → LeadsIn n x → behind < n → next < n → LeadsIn n (in_loop x behind next)
loop_in n x behind next h b m = record { behind = b; next = m; home = h.home; label = h.label }

label_in : (n k : ℕ) (names : List Ident) (a : Flow) (y : Ident) → k + size a < n → place_of_label (index_of names y) (mark_of y a k) < n
label_in n k names a y h = by (index_of names y) (mark_of y a k) (marked_within y a k)
  where
    by : (i l : Option ℕ) → AtMost (k + size a) l → place_of_label i l < n
    by (Some i) (Some l) m = omega arith
    by (Some i) None m = omega arith
    by None l m = omega arith

body_in : (n : ℕ) (x : Ways) (names : List Ident) (a : Flow) (k : ℕ) → LeadsIn n x → k + size a < n → LeadsIn n (in_body x names a k)
body_in n x names a k h r = record { behind = h.behind; next = h.next; home = r; label = λ y. label_in n k names a y r }

-- ---- what is laid

abbrev pub EachPlaced : (Instr → Type 0) → List Placed → Type 0
EachPlaced P ps = AllByRecursion (λ (p : Placed). P p.instr) ps

both : (P : Instr → Type 0) (ps qs : List Placed) → EachPlaced P ps → EachPlaced P qs → EachPlaced P (ps ++ qs)
both P [] qs h g = g
both P (p ∷ ps) qs h g = (h.0, both P ps qs h.1 g)

-- where jumps and branches to the first n places are so
pub record TakesJumps (P : Instr → Type 0) (Q : Pure → Type 0) (n : ℕ) : Type 0 where
  pub jump : (k : ℕ) → k < n → P (Jump k)
  pub branch : (e : Pure) (k : ℕ) → Q e → k < n → P (Branch e k)

-- what the flow's instructions are, the laid ones are
pub laid_each : (P : Instr → Type 0) (Q : Pure → Type 0) (n : ℕ) → TakesJumps P Q n → (x : Ways) (f : Flow) (k : ℕ) → LeadsIn n x → k + size f < n → Each P Q f → EachPlaced P (lay x f k)
laid_each P Q n t x Empty k l r h = tt
laid_each P Q n t x (Do at i) k l r h = (h, tt)
laid_each P Q n t x (Then a b) k l r h =
    both P (lay x a k) (lay x b (k + size a)) (laid_each P Q n t x a k l (omega arith) h.0) (laid_each P Q n t x b (k + size a) l (omega arith) h.1)
laid_each P Q n t x (When at e a) k l r h = (t.branch e (k + 1 + size a) h.0 (omega arith), laid_each P Q n t x a (k + 1) l (omega arith) h.1)
laid_each P Q n t x (Either at e a b) k l r h =
    let other : ℕ = k + 1 + size a + 1 in (
      t.branch e other h.0 (omega arith),
      both P (lay x a (k + 1)) (placed at (Jump (other + size b)) ∷ lay x b other)
          (laid_each P Q n t x a (k + 1) l (omega arith) h.1)
          (t.jump (other + size b) (omega arith), laid_each P Q n t x b other l (omega arith) h.2),
    )
laid_each P Q n t x (While at c e a) k l r h =
    let end : ℕ = k + size c + 1 + size a + 1 in
    let inside : LeadsIn n (in_loop x end k) = loop_in n x end k l (omega arith) (omega arith) in
    both P (lay x c k) (placed at (Branch e end) ∷ (lay (in_loop x end k) a (k + size c + 1) ++ (placed at (Jump k) ∷ [])))
    (laid_each P Q n t x c k l (omega arith) h.0) (
      t.branch e end h.1 (omega arith),
      both P (lay (in_loop x end k) a (k + size c + 1)) (placed at (Jump k) ∷ [])
          (laid_each P Q n t (in_loop x end k) a (k + size c + 1) inside (omega arith) h.2)
          (t.jump k (omega arith), tt),
    )
laid_each P Q n t x (DoWhile at a c e) k l r h =
    let next : ℕ = k + size a in
    let end : ℕ = next + size c + 2 in
    let inside : LeadsIn n (in_loop x end next) = loop_in n x end next l (omega arith) (omega arith) in
    both P (lay (in_loop x end next) a k) (lay x c next ++ (placed at (Branch e end) ∷ (placed at (Jump k) ∷ [])))
    (laid_each P Q n t (in_loop x end next) a k inside (omega arith) h.0)
    (both P (lay x c next) (placed at (Branch e end) ∷ (placed at (Jump k) ∷ []))
    (laid_each P Q n t x c next l (omega arith) h.1)
    (t.branch e end h.2 (omega arith), (t.jump k (omega arith), tt)))
laid_each P Q n t x (For at c e a j) k l r h =
    let next : ℕ = k + size c + 1 + size a in
    let end : ℕ = next + size j + 1 in
    let inside : LeadsIn n (in_loop x end next) = loop_in n x end next l (omega arith) (omega arith) in
    both P (lay x c k) (placed at (Branch e end) ∷ (lay (in_loop x end next) a (k + size c + 1) ++ (lay x j next ++ (placed at (Jump k) ∷ []))))
    (laid_each P Q n t x c k l (omega arith) h.0) (
      t.branch e end h.1 (omega arith),
      both P (lay (in_loop x end next) a (k + size c + 1)) (lay x j next ++ (placed at (Jump k) ∷ []))
          (laid_each P Q n t (in_loop x end next) a (k + size c + 1) inside (omega arith) h.2)
          (both P (lay x j next) (placed at (Jump k) ∷ []) (laid_each P Q n t x j next l (omega arith) h.3) (t.jump k (omega arith), tt)),
    )
laid_each P Q n t x (Body names a) k l r h = laid_each P Q n t (in_body x names a k) a k (body_in n x names a k l r) r h
laid_each P Q n t x (Leave at w) k l r h = (t.jump (way x w) (way_in n x w l), tt)
laid_each P Q n t x (Mark y) k l r h = tt
laid_each P Q n t x (Goto at y) k l r h = (t.jump (x.label y) (l.label y), tt)
