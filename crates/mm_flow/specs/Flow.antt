-- Structured code: a thread's code before its instructions have places.
use Rattle.std.specs.Prelude.{ℕ, ◌+◌, if◌then◌else◌, List, [], ◌∷◌, ◌++◌, Option, Some, None}
use Rattle.std.specs.Str.{bytes_eq}
use Rattle.mm_goto.specs.declared.ident.At.{At}
use Rattle.mm_goto.specs.declared.ident.Ident.{Ident}
use Rattle.mm_goto.specs.declared.pure.Pure.{Pure}
use Rattle.mm_goto.specs.declared.program.Instr.{Instr}
use Rattle.mm_goto.specs.declared.program.Instr.TheVariants.{Jump, Branch}
use Rattle.mm_flow.specs.Scopes.{index_of}

-- how code leaves what it stands in
pub data Way : Type 0 where
  -- break: behind the loop
  Behind : Way
  -- continue: at the loop's next turn
  Next : Way
  -- return: at the end of the body
  Home : Way

pub data Flow : Type 0 where
  -- nothing
  Empty : Flow
  -- one instruction that is no jump, from this place of the text
  Do : At → Instr → Flow
  Then : Flow → Flow → Flow
  -- the second only where the value is not 0
  When : At → Pure → Flow → Flow
  -- the first where the value is not 0, else the second
  Either : At → Pure → Flow → Flow → Flow
  -- a test's code, its value, and the body
  While : At → Flow → Pure → Flow → Flow
  -- a body, the code of the test behind it, and its value
  DoWhile : At → Flow → Flow → Pure → Flow
  -- a test's code, its value, the body and the step
  For : At → Flow → Pure → Flow → Flow → Flow
  -- the body of a function, with the names of its labels
  Body : List Ident → Flow → Flow
  -- leaves the loop, its turn or the body
  Leave : At → Way → Flow
  -- a label
  Mark : Ident → Flow
  -- goes to a label of the body
  Goto : At → Ident → Flow

-- how many instructions it has
abbrev pub size : Flow → ℕ
size Empty = 0
size (Do at i) = 1
size (Then a b) = size a + size b
size (When at e a) = 1 + size a
size (Either at e a b) = 1 + size a + 1 + size b
size (While at c e a) = size c + 1 + size a + 1
size (DoWhile at a c e) = size a + size c + 2
size (For at c e a j) = size c + 1 + size a + size j + 1
size (Body names a) = size a
size (Leave at w) = 1
size (Mark y) = 0
size (Goto at y) = 1

abbrev pub later : Option ℕ → Option ℕ → Option ℕ
later k (Some l) = Some l
later k None = k

-- where the label of a name stands in a body that is laid from place k on: the last, where there are several
abbrev pub mark_of : Ident → Flow → ℕ → Option ℕ
mark_of y Empty k = None
mark_of y (Do at i) k = None
mark_of y (Then a b) k = later (mark_of y a k) (mark_of y b (k + size a))
mark_of y (When at e a) k = mark_of y a (k + 1)
mark_of y (Either at e a b) k = later (mark_of y a (k + 1)) (mark_of y b (k + 1 + size a + 1))
mark_of y (While at c e a) k = later (mark_of y c k) (mark_of y a (k + size c + 1))
mark_of y (DoWhile at a c e) k = later (mark_of y a k) (mark_of y c (k + size a))
mark_of y (For at c e a j) k = later (later (mark_of y c k) (mark_of y a (k + size c + 1))) (mark_of y j (k + size c + 1 + size a))
mark_of y (Body names a) k = None
mark_of y (Leave at w) k = None
mark_of y (Mark x) k = if bytes_eq x y then Some k else None
mark_of y (Goto at x) k = None

abbrev pub place_or_0 : Option ℕ → ℕ
place_or_0 (Some k) = k
place_or_0 None = 0

-- a goto that names no label of the body is refused before
abbrev pub place_of_label : Option ℕ → Option ℕ → ℕ
place_of_label (Some i) k = place_or_0 k
place_of_label None k = 0

-- where each way and each label of a body lead
pub record Ways : Type 0 where
  pub behind : ℕ
  pub next : ℕ
  pub home : ℕ
  pub label : Ident → ℕ

abbrev pub way : Ways → Way → ℕ
way x Behind = x.behind
way x Next = x.next
way x Home = x.home

abbrev pub in_loop : Ways → (behind next : ℕ) → Ways
in_loop x behind next = record { behind = behind; next = next; home = x.home; label = x.label }

-- the labels of a body are its own
abbrev pub in_body : Ways → List Ident → Flow → ℕ → Ways
in_body x names a k = record {
  behind = x.behind;
  next = x.next;
  home = k + size a;
  label = λ y. place_of_label (index_of names y) (mark_of y a k);
}

-- an instruction, with the place in the text that it comes from
pub record Placed : Type 0 where
  pub at : At
  pub instr : Instr

abbrev pub placed : At → Instr → Placed
placed at i = record { at = at; instr = i }

-- the instructions, from place k on
abbrev pub lay : Ways → Flow → ℕ → List Placed
lay x Empty k = []
lay x (Do at i) k = placed at i ∷ []
lay x (Then a b) k = lay x a k ++ lay x b (k + size a)
lay x (When at e a) k = placed at (Branch e (k + 1 + size a)) ∷ lay x a (k + 1)
lay x (Either at e a b) k =
    let other = k + 1 + size a + 1 in
    placed at (Branch e other) ∷ (lay x a (k + 1) ++ (placed at (Jump (other + size b)) ∷ lay x b other))
lay x (While at c e a) k =
    let end = k + size c + 1 + size a + 1 in
    lay x c k ++ (placed at (Branch e end) ∷ (lay (in_loop x end k) a (k + size c + 1) ++ (placed at (Jump k) ∷ [])))
lay x (DoWhile at a c e) k =
    let next = k + size a in
    let end = next + size c + 2 in
    lay (in_loop x end next) a k ++ (lay x c next ++ (placed at (Branch e end) ∷ (placed at (Jump k) ∷ [])))
lay x (For at c e a j) k =
    let next = k + size c + 1 + size a in
    let end = next + size j + 1 in
    lay x c k ++ (placed at (Branch e end) ∷ (lay (in_loop x end next) a (k + size c + 1) ++ (lay x j next ++ (placed at (Jump k) ∷ []))))
lay x (Body names a) k = lay (in_body x names a k) a k
lay x (Leave at w) k = placed at (Jump (way x w)) ∷ []
lay x (Mark y) k = []
lay x (Goto at y) k = placed at (Jump (x.label y)) ∷ []
