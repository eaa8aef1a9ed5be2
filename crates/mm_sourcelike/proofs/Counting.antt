-- What laid code has beside its jumps.
use Rattle.std.proofs.Common.{arith, ◌≡◌, ℕ, ◌+◌, ◌-◌, Bool, false, cond, List, [], ◌∷◌, ◌++◌, length, map, refl, ◌∙◌, ap, zero-add, Some}
use Rattle.std.specs.List.{count_by, slice_get}
use Rattle.std.proofs.Math.Seq.{get_or-append_seam}
use Rattle.std.proofs.lemmas.List.{length-append}
use Rattle.std.proofs.lemmas.List.Sums.{sum_by-append, sum_by-cons}
use Rattle.std.proofs.lemmas.Option.{slice_get-get_or}
use Rattle.mm_goto.specs.declared.ident.At.{At}
use Rattle.mm_goto.specs.declared.pure.Pure.{Pure}
use Rattle.mm_goto.specs.declared.program.Instr.{Instr}
use Rattle.mm_goto.specs.declared.program.Instr.TheVariants.{Jump, Branch}
use Rattle.mm_flow.specs.Flow.{Flow, Empty, Do, Then, When, Either, While, DoWhile, For, Body, Leave, Mark, Goto, Ways, Placed, size, lay, way, in_loop, in_body, placed}

-- its instructions that are no jumps, in the order in which they are laid
abbrev pub steps : Flow → List Instr
steps Empty = []
steps (Do at i) = i ∷ []
steps (Then a b) = steps a ++ steps b
steps (When at e a) = steps a
steps (Either at e a b) = steps a ++ steps b
steps (While at c e a) = steps c ++ steps a
steps (DoWhile at a c e) = steps a ++ steps c
steps (For at c e a j) = steps c ++ (steps a ++ steps j)
steps (Body names a) = steps a
steps (Leave at w) = []
steps (Mark y) = []
steps (Goto at y) = []

abbrev pub code_in : List Placed → List Instr
code_in ps = map (λ (p : Placed). p.instr) ps

pub count_append : {A : Type 0} (p : A → Bool) (xs ys : List A) → count_by p (xs ++ ys) ≡ count_by p xs + count_by p ys
count_append p xs ys = sum_by-append (λ x. cond (p x) 1 0) xs ys

pub code_append : (ps qs : List Placed) → code_in (ps ++ qs) ≡ code_in ps ++ code_in qs
code_append [] qs = refl
code_append (p ∷ ps) qs = ap (λ is. p.instr ∷ is) (code_append ps qs)

abbrev counted : (Instr → Bool) → List Placed → ℕ
counted p ps = count_by p (code_in ps)

split : (p : Instr → Bool) (ps qs : List Placed) → counted p (ps ++ qs) ≡ counted p ps + counted p qs
split p ps qs = ap (count_by p) (code_append ps qs) ∙ count_append p (code_in ps) (code_in qs)

-- no jump passes
pub record PassesNoJump (p : Instr → Bool) : Type 0 where
  pub jump : (k : ℕ) → p (Jump k) ≡ false
  pub branch : (e : Pure) (k : ℕ) → p (Branch e k) ≡ false

one_less : (p : Instr → Bool) (at : At) (i : Instr) (ps : List Placed) → p i ≡ false → counted p (placed at i ∷ ps) ≡ counted p ps
one_less p at i ps h = sum_by-cons (λ j. cond (p j) 1 0) i (code_in ps) ∙ (ap (λ b. cond b 1 0 + count_by p (code_in ps)) h ∙ zero-add (count_by p (code_in ps)))

pub laid_count : (p : Instr → Bool) → PassesNoJump p → (x : Ways) (f : Flow) (k : ℕ) → count_by p (code_in (lay x f k)) ≡ count_by p (steps f)
laid_count p n x Empty k = refl
laid_count p n x (Do at i) k = refl
laid_count p n x (Then a b) k = split p (lay x a k) (lay x b (k + size a)) ∙ omega (arith, count_append p (steps a) (steps b), laid_count p n x a k, laid_count p n x b (k + size a))
laid_count p n x (When at e a) k = one_less p at (Branch e (k + 1 + size a)) (lay x a (k + 1)) (n.branch e (k + 1 + size a)) ∙ laid_count p n x a (k + 1)
laid_count p n x (Either at e a b) k =
    let other : ℕ = k + 1 + size a + 1 in
    let back = placed at (Jump (other + size b)) ∷ lay x b other in
    one_less p at (Branch e other) (lay x a (k + 1) ++ back) (n.branch e other)
    ∙ split p (lay x a (k + 1)) back
    ∙ omega (arith, count_append p (steps a) (steps b), laid_count p n x a (k + 1), laid_count p n x b other, one_less p at (Jump (other + size b)) (lay x b other) (n.jump (other + size b)))
laid_count p n x (While at c e a) k =
    let end : ℕ = k + size c + 1 + size a + 1 in
    let turn = lay (in_loop x end k) a (k + size c + 1) in
    let back = placed at (Jump k) ∷ [] in
    split p (lay x c k) (placed at (Branch e end) ∷ (turn ++ back))
    ∙ omega (arith, count_append p (steps c) (steps a), laid_count p n x c k, laid_count p n (in_loop x end k) a (k + size c + 1), one_less p at (Branch e end) (turn ++ back) (n.branch e end), split p turn back, one_less p at (Jump k) [] (n.jump k))
laid_count p n x (DoWhile at a c e) k =
    let next : ℕ = k + size a in
    let end : ℕ = next + size c + 2 in
    let turn = lay (in_loop x end next) a k in
    let back = placed at (Branch e end) ∷ (placed at (Jump k) ∷ []) in
    split p turn (lay x c next ++ back)
    ∙ omega (arith, count_append p (steps a) (steps c), laid_count p n x c next, laid_count p n (in_loop x end next) a k, split p (lay x c next) back, one_less p at (Branch e end) (placed at (Jump k) ∷ []) (n.branch e end), one_less p at (Jump k) [] (n.jump k))
laid_count p n x (For at c e a j) k =
    let next : ℕ = k + size c + 1 + size a in
    let end : ℕ = next + size j + 1 in
    let turn = lay (in_loop x end next) a (k + size c + 1) in
    let back = placed at (Jump k) ∷ [] in
    split p (lay x c k) (placed at (Branch e end) ∷ (turn ++ (lay x j next ++ back)))
    ∙ omega (arith, count_append p (steps c) (steps a ++ steps j), count_append p (steps a) (steps j), laid_count p n x c k, laid_count p n x j next, laid_count p n (in_loop x end next) a (k + size c + 1), one_less p at (Branch e end) (turn ++ (lay x j next ++ back)) (n.branch e end), split p turn (lay x j next ++ back), split p (lay x j next) back, one_less p at (Jump k) [] (n.jump k))
laid_count p n x (Body names a) k = laid_count p n (in_body x names a k) a k
laid_count p n x (Leave at w) k = one_less p at (Jump (way x w)) [] (n.jump (way x w))
laid_count p n x (Mark y) k = refl
laid_count p n x (Goto at y) k = one_less p at (Jump (x.label y)) [] (n.jump (x.label y))

-- the last of a list
pub last_of : {A : Type 0} (xs : List A) (y : A) → slice_get (xs ++ y ∷ []) (length (xs ++ y ∷ []) - 1) ≡ Some y
last_of xs y =
    let long : length (xs ++ y ∷ []) ≡ length xs + 1 = length-append xs (y ∷ []) in
    let at : length (xs ++ y ∷ []) - 1 ≡ length xs = omega arith in
    ap (slice_get (xs ++ y ∷ [])) at ∙ (slice_get-get_or (xs ++ y ∷ []) (length xs) y (omega arith) ∙ ap Some (get_or-append_seam xs y [] y))
