-- What stands between the quotes of a text.
use Rattle.std.proofs.Common.{◌≡◌, ℕ, zero, suc, ◌+◌, ◌-◌, ◌≤◌, List, [], ◌∷◌, length, take, drop, refl, sym, ◌∙◌, ap, arith, length-drop, length-take}
use Rattle.mm_parse_expr.specs.Terminals.{between_quotes}

drop_more : (s : ℕ) (text : List ℕ) → drop (suc s) text ≡ drop 1 (drop s text)
drop_more zero text = refl
drop_more (suc s) [] = refl
drop_more (suc s) (c ∷ cs) = drop_more s cs

take_less : (m : ℕ) (cs : List ℕ) → take m (take (suc m) cs) ≡ take m cs
take_less zero cs = refl
take_less (suc m) [] = refl
take_less (suc m) (c ∷ cs) = ap (λ xs. c ∷ xs) (take_less m cs)

-- of n + 2 bytes in front, the n behind the first
inner : (n : ℕ) (cs : List ℕ) → suc (suc n) ≤ length cs → take n (drop 1 cs) ≡ between_quotes (take (suc (suc n)) cs)
inner n [] h = absurd (omega (arith, h))
inner n (c ∷ cs) h =
    let l : length (take (suc (suc n)) (c ∷ cs)) - 2 ≡ n = rw length-take (omega (arith, h)) in
    sym (take_less n cs) ∙ ap (λ k. take k (take (suc n) cs)) (sym l)

pub between_ends : (text : List ℕ) (s e : ℕ) → s + 2 ≤ e → e ≤ length text → take (e - 1 - (s + 1)) (drop (s + 1) text) ≡ between_quotes (take (e - s) (drop s text))
between_ends text s e h k =
    let n : ℕ = e - s - 2 in
    let a : e - 1 - (s + 1) ≡ n = omega (arith, h) in
    let b : e - s ≡ suc (suc n) = omega (arith, h) in
    let d : s + 1 ≡ suc s = omega arith in
    ap (λ m. take m (drop (s + 1) text)) a ∙ ap (λ m. take n (drop m text)) d ∙ ap (λ xs. take n xs) (drop_more s text)
    ∙ inner n (drop s text) (omega (arith, h, k, length-drop s text)) ∙ ap (λ m. between_quotes (take m (drop s text))) (sym b)
