-- The code of a safe flow is guarded.
use Rattle.std.proofs.Common.{arith, ◌≡◌, inl, inr, ℕ, zero, suc, ◌+◌, List, [], ◌∷◌, ◌++◌, length, ◌∙◌, sym, ap, subst, append_assoc, Some}
use Rattle.std.specs.List.{AllByRecursion, slice_get}
use Rattle.std.proofs.lemmas.List.{length-append}
use Rattle.std.proofs.lemmas.List.Elements.{All-from_recursion}
use Rattle.mm_goto.specs.declared.ident.At.{At}
use Rattle.mm_goto.specs.declared.ident.Ident.{Ident}
use Rattle.mm_goto.specs.declared.pure.Pure.{Pure}
use Rattle.mm_goto.specs.declared.program.Instr.{Instr}
use Rattle.mm_goto.specs.declared.program.Instr.TheVariants.{Jump, Branch}
use Rattle.mm_goto.specs.Checks.{checks_of}
use Rattle.mm_goto.specs.Flow.{IsFlow}
use Rattle.mm_goto.specs.Sourcelike.{IsGuarded, Passes, wants}
use Rattle.mm_flow.specs.Flow.{Flow, Empty, Do, Then, When, Either, While, DoWhile, For, Body, Leave, Mark, Goto, Behind, Next, Home, Ways, Placed, size, lay, way, in_loop, in_body, placed}
use Rattle.mm_sourcelike.proofs.Cells.{at_right}
use Rattle.mm_sourcelike.proofs.Counting.{code_in}
use Rattle.mm_sourcelike.proofs.Guarding.{Kept, nothing, after, AreKnown, Safe, after_more, framed, none_implies, safe_any, all_weaker, Reached, Fine, step, fewer, known, moved, no_steps, branch_fine, jump_fine, Stands, split, Exits, Carries, exits_of}

-- the checks that are known before a flow and kept by it
abbrev pub Frame : (Pure → Type 0) → Flow → Pure → Type 0
Frame X f c = X c × Kept c f

module _ (code : List Instr) (x : Ways) (at : At) where
  -- ---- loops

  abbrev Turning : ℕ → (Pure → Type 0) → Flow → ℕ → ℕ → Type 0
  Turning n X f k end = Fine code n (Frame X f) end → Exits code n X x f → Fine code n (Frame X f) k

  -- an inner flow keeps the frame
  inside : (n : ℕ) (X : Pure → Type 0) (f a : Flow) (k : ℕ) → ((c : Pure) → Kept c f → Kept c a) → Fine code n (Frame X f) k → Fine code n (Frame (Frame X f) a) k
  inside n X f a k g h = known code n (Frame X f) (Frame (Frame X f) a) k (λ c r. (r, g c r.1)) h

  behind : (n : ℕ) (X : Pure → Type 0) (f a : Flow) (k : ℕ) → ((c : Pure) → Kept c f → Kept c a) → Fine code n (Frame X f) k → Fine code n (after (Frame X f) a) k
  behind n X f a k g h = known code n (Frame X f) (after (Frame X f) a) k (λ c r. framed (Frame X f) c a r (g c r.1)) h

  exits_inside : (n : ℕ) (X : Pure → Type 0) (f a : Flow) → ((c : Pure) → Kept c f → Kept c a) → Exits code n X x f → Exits code n (Frame X f) x a
  exits_inside n X f a g h w = inside n X f a (way x w) g (h w)

  loop_exits : (n : ℕ) (X : Pure → Type 0) (f a : Flow) (end next : ℕ) → ((c : Pure) → Kept c f → Kept c a) → Exits code n X x f → Fine code n (Frame X f) end → Fine code n (Frame X f) next → Exits code n (Frame X f) (in_loop x end next) a
  loop_exits n X f a end next g h p q Behind = inside n X f a end g p
  loop_exits n X f a end next g h p q Next = inside n X f a next g q
  loop_exits n X f a end next g h p q Home = inside n X f a x.home g (h Home)

  fewer_exits : (n : ℕ) (X : Pure → Type 0) (f : Flow) → Exits code (suc n) X x f → Exits code n X x f
  fewer_exits n X f h w = fewer code n (Frame X f) (way x w) (h w)

  -- what is known behind a test that is entered with nothing known
  tested : (X : Pure → Type 0) (f d : Flow) (e : Pure) → AreKnown (after nothing d) (checks_of e) → AreKnown (after (Frame X f) d) (checks_of e)
  tested X f d e h = all_weaker (after nothing d) (after (Frame X f) d) (after_more nothing (Frame X f) (none_implies (Frame X f)) d) (checks_of e) h

  module _ (d : Flow) (e : Pure) (a : Flow) (k : ℕ) where
    abbrev while_end : ℕ
    while_end = k + size d + 1 + size a + 1

    while_fine : Carries code x d k → Carries code (in_loop x while_end k) a (k + size d + 1) → slice_get code (k + size d) ≡ Some (Branch e while_end) → slice_get code (k + size d + 1 + size a) ≡ Some (Jump k)
        → (n : ℕ) (X : Pure → Type 0) → Safe X (While at d e a) → Turning n X (While at d e a) k while_end
    while_fine test body branch jump zero X s end h = no_steps code (Frame X (While at d e a)) k
    while_fine test body branch jump (suc m) X s end h =
        let f : Flow = While at d e a in
        let fewer_end : Fine code m (Frame X f) while_end = fewer code m (Frame X f) while_end end in
        let top : Fine code m (Frame X f) k = while_fine test body branch jump m X s fewer_end (fewer_exits m X f h) in
        let back : Fine code m (Frame X f) (k + size d + 1 + size a) = fewer code m (Frame X f) (k + size d + 1 + size a) (jump_fine code m (Frame X f) (k + size d + 1 + size a) k jump top) in
        let turn : Fine code m (Frame X f) (k + size d + 1) =
        body m (Frame X f) (safe_any (Frame X f) a s.2) (behind m X f a (k + size d + 1 + size a) (λ c r. r.2) back)
        (loop_exits m X f a while_end k (λ c r. r.2) (fewer_exits m X f h) fewer_end top) in
        let choice : Fine code (suc m) (after (Frame X f) d) (k + size d) =
        branch_fine code m (after (Frame X f) d) (k + size d) e while_end branch (tested X f d e s.1)
        (behind m X f d while_end (λ c r. r.0) fewer_end) (behind m X f d (k + size d + 1) (λ c r. r.0) turn) in
        test (suc m) (Frame X f) (safe_any (Frame X f) d s.0) choice (exits_inside (suc m) X f d (λ c r. r.0) h)

    abbrev do_next : ℕ
    do_next = k + size a

    abbrev do_end : ℕ
    do_end = k + size a + size d + 2

    do_fine : Carries code (in_loop x do_end do_next) a k → Carries code x d do_next → slice_get code (do_next + size d) ≡ Some (Branch e do_end) → slice_get code (do_next + size d + 1) ≡ Some (Jump k)
        → (n : ℕ) (X : Pure → Type 0) → Safe X (DoWhile at a d e) → Turning n X (DoWhile at a d e) k do_end
    do_fine body test branch jump zero X s end h = no_steps code (Frame X (DoWhile at a d e)) k
    do_fine body test branch jump (suc m) X s end h =
        let f : Flow = DoWhile at a d e in
        let fewer_end : Fine code m (Frame X f) do_end = fewer code m (Frame X f) do_end end in
        let top : Fine code m (Frame X f) k = do_fine body test branch jump m X s fewer_end (fewer_exits m X f h) in
        let back : Fine code m (Frame X f) (do_next + size d + 1) = fewer code m (Frame X f) (do_next + size d + 1) (jump_fine code m (Frame X f) (do_next + size d + 1) k jump top) in
        let choice : Fine code (suc m) (after (Frame X f) d) (do_next + size d) =
        branch_fine code m (after (Frame X f) d) (do_next + size d) e do_end branch (tested X f d e s.2)
        (behind m X f d do_end (λ c r. r.1) fewer_end) (behind m X f d (do_next + size d + 1) (λ c r. r.1) back) in
        let condition : Fine code (suc m) (Frame X f) do_next =
        test (suc m) (Frame X f) (safe_any (Frame X f) d s.1) choice (exits_inside (suc m) X f d (λ c r. r.1) h) in
        body (suc m) (Frame X f) (safe_any (Frame X f) a s.0) (behind (suc m) X f a do_next (λ c r. r.0) condition)
        (loop_exits (suc m) X f a do_end do_next (λ c r. r.0) h end condition)

    module _ (j : Flow) where
      abbrev for_next : ℕ
      for_next = k + size d + 1 + size a

      abbrev for_end : ℕ
      for_end = k + size d + 1 + size a + size j + 1

      for_fine : Carries code x d k → Carries code (in_loop x for_end for_next) a (k + size d + 1) → Carries code x j for_next → slice_get code (k + size d) ≡ Some (Branch e for_end) → slice_get code (for_next + size j) ≡ Some (Jump k)
          → (n : ℕ) (X : Pure → Type 0) → Safe X (For at d e a j) → Turning n X (For at d e a j) k for_end
      for_fine test body last branch jump zero X s end h = no_steps code (Frame X (For at d e a j)) k
      for_fine test body last branch jump (suc m) X s end h =
          let f : Flow = For at d e a j in
          let fewer_end : Fine code m (Frame X f) for_end = fewer code m (Frame X f) for_end end in
          let exits : Exits code m X x f = fewer_exits m X f h in
          let top : Fine code m (Frame X f) k = for_fine test body last branch jump m X s fewer_end exits in
          let back : Fine code m (Frame X f) (for_next + size j) = fewer code m (Frame X f) (for_next + size j) (jump_fine code m (Frame X f) (for_next + size j) k jump top) in
          let next : Fine code m (Frame X f) for_next =
          last m (Frame X f) (safe_any (Frame X f) j s.3) (behind m X f j (for_next + size j) (λ c r. r.3) back) (exits_inside m X f j (λ c r. r.3) exits) in
          let turn : Fine code m (Frame X f) (k + size d + 1) =
          body m (Frame X f) (safe_any (Frame X f) a s.2) (behind m X f a for_next (λ c r. r.2) next)
          (loop_exits m X f a for_end for_next (λ c r. r.2) exits fewer_end next) in
          let choice : Fine code (suc m) (after (Frame X f) d) (k + size d) =
          branch_fine code m (after (Frame X f) d) (k + size d) e for_end branch (tested X f d e s.1)
          (behind m X f d for_end (λ c r. r.0) fewer_end) (behind m X f d (k + size d + 1) (λ c r. r.0) turn) in
          test (suc m) (Frame X f) (safe_any (Frame X f) d s.0) choice (exits_inside (suc m) X f d (λ c r. r.0) h)

-- ---- the whole

module _ (code : List Instr) where
  abbrev first : (n : ℕ) (X : Pure → Type 0) (f : Flow) (k : ℕ) → Fine code n (Frame X f) k → Fine code n X k
  first n X f k h = known code n (Frame X f) X k (λ c r. r.0) h

  body_exits : (n : ℕ) (X : Pure → Type 0) (x : Ways) (names : List Ident) (a : Flow) (k : ℕ) → Exits code n X x (Body names a) → Fine code n (Frame X a) (k + size a) → Exits code n X (in_body x names a k) a
  body_exits n X x names a k h e Behind = h Behind
  body_exits n X x names a k h e Next = h Next
  body_exits n X x names a k h e Home = e

  pub carries : (x : Ways) (f : Flow) (k : ℕ) → Stands code k (lay x f k) → Carries code x f k
  carries x Empty k at_k n X s e h = let is : k + 0 ≡ k = omega arith in moved code n X (k + 0) k is e
  carries x (Do at i) k at_k n X s e h =
      fewer code n X k (step code n X k i at_k.0 s.1 (λ m g. moved code n (after X (Do at i)) (k + 1) m (sym (s.0 k m g)) e))
  carries x (Then a b) k at_k n X s e h =
      let parts = split code k x a (lay x b (k + size a)) at_k in
      let is : k + (size a + size b) ≡ k + size a + size b = omega arith in
      carries x a k parts.0 n X s.0
      (carries x b (k + size a) parts.1 n (after X a) s.1 (moved code n (after (after X a) b) (k + (size a + size b)) (k + size a + size b) is e)
      (λ w. known code n (Frame X (Then a b)) (Frame (after X a) b) (way x w) (λ c r. (framed X c a r.0 r.1.0, r.1.1)) (h w)))
      (exits_of code n X x (Then a b) a (λ c r. r.0) h)
  carries x (When at t a) k at_k n X s e h =
      let is : k + (1 + size a) ≡ k + 1 + size a = omega arith in
      let end : Fine code n (Frame X (When at t a)) (k + 1 + size a) = moved code n (Frame X (When at t a)) (k + (1 + size a)) (k + 1 + size a) is e in
      fewer code n X k (branch_fine code n X k t (k + 1 + size a) at_k.0 s.0 (first n X (When at t a) (k + 1 + size a) end)
      (carries x a (k + 1) at_k.1 n X (safe_any X a s.1)
      (known code n (Frame X (When at t a)) (after X a) (k + 1 + size a) (λ c r. framed X c a r.0 r.1.1) end)
      (exits_of code n X x (When at t a) a (λ c r. r.1) h)))
  carries x (Either at t a b) k at_k n X s e h =
      let f : Flow = Either at t a b in
      let other : ℕ = k + 1 + size a + 1 in
      let parts = split code (k + 1) x a (placed at (Jump (other + size b)) ∷ lay x b other) at_k.1 in
      let is : k + (1 + size a + 1 + size b) ≡ other + size b = omega arith in
      let end : Fine code n (Frame X f) (other + size b) = moved code n (Frame X f) (k + (1 + size a + 1 + size b)) (other + size b) is e in
      let second : Fine code n X other = carries x b other parts.1.1 n X (safe_any X b s.2)
      (known code n (Frame X f) (after X b) (other + size b) (λ c r. framed X c b r.0 r.1.2) end)
      (exits_of code n X x f b (λ c r. r.2) h) in
      let over : Fine code n (Frame X f) (k + 1 + size a) = fewer code n (Frame X f) (k + 1 + size a) (jump_fine code n (Frame X f) (k + 1 + size a) (other + size b) parts.1.0 end) in
      fewer code n X k (branch_fine code n X k t other at_k.0 s.0 second
      (carries x a (k + 1) parts.0 n X (safe_any X a s.1)
      (known code n (Frame X f) (after X a) (k + 1 + size a) (λ c r. framed X c a r.0 r.1.1) over)
      (exits_of code n X x f a (λ c r. r.1) h)))
  carries x (While at d t a) k at_k n X s e h =
      let end : ℕ = k + size d + 1 + size a + 1 in
      let outer = split code k x d (placed at (Branch t end) ∷ (lay (in_loop x end k) a (k + size d + 1) ++ (placed at (Jump k) ∷ []))) at_k in
      let parts = split code (k + size d + 1) (in_loop x end k) a (placed at (Jump k) ∷ []) outer.1.1 in
      let is : k + (size d + 1 + size a + 1) ≡ end = omega arith in
      first n X (While at d t a) k
      (while_fine code x at d t a k (carries x d k outer.0) (carries (in_loop x end k) a (k + size d + 1) parts.0) outer.1.0 parts.1.0 n X s
      (moved code n (Frame X (While at d t a)) (k + (size d + 1 + size a + 1)) end is e) h)
  carries x (DoWhile at a d t) k at_k n X s e h =
      let next : ℕ = k + size a in
      let end : ℕ = next + size d + 2 in
      let outer = split code k (in_loop x end next) a (lay x d next ++ (placed at (Branch t end) ∷ (placed at (Jump k) ∷ []))) at_k in
      let parts = split code next x d (placed at (Branch t end) ∷ (placed at (Jump k) ∷ [])) outer.1 in
      let is : k + (size a + size d + 2) ≡ end = omega arith in
      first n X (DoWhile at a d t) k
      (do_fine code x at d t a k (carries (in_loop x end next) a k outer.0) (carries x d next parts.0) parts.1.0 parts.1.1.0 n X s
      (moved code n (Frame X (DoWhile at a d t)) (k + (size a + size d + 2)) end is e) h)
  carries x (For at d t a j) k at_k n X s e h =
      let next : ℕ = k + size d + 1 + size a in
      let end : ℕ = next + size j + 1 in
      let outer = split code k x d (placed at (Branch t end) ∷ (lay (in_loop x end next) a (k + size d + 1) ++ (lay x j next ++ (placed at (Jump k) ∷ [])))) at_k in
      let parts = split code (k + size d + 1) (in_loop x end next) a (lay x j next ++ (placed at (Jump k) ∷ [])) outer.1.1 in
      let ends = split code next x j (placed at (Jump k) ∷ []) parts.1 in
      let is : k + (size d + 1 + size a + size j + 1) ≡ end = omega arith in
      first n X (For at d t a j) k
      (for_fine code x at d t a k j (carries x d k outer.0) (carries (in_loop x end next) a (k + size d + 1) parts.0) (carries x j next ends.0) outer.1.0 ends.1.0 n X s
      (moved code n (Frame X (For at d t a j)) (k + (size d + 1 + size a + size j + 1)) end is e) h)
  carries x (Body names a) k at_k n X s e h =
      carries (in_body x names a k) a k at_k n X (safe_any X a s)
      (known code n (Frame X (Body names a)) (after X a) (k + size a) (λ c r. framed X c a r.0 r.1) e)
      (body_exits n X x names a k h e)
  carries x (Leave at w) k at_k n X s e h = fewer code n X k (jump_fine code n X k (way x w) at_k.0 (known code n (Frame X (Leave at w)) X (way x w) (λ c r. r.0) (h w)))
  carries x (Mark y) k at_k n X s e h = let is : k + 0 ≡ k = omega arith in moved code n X (k + 0) k is e
  carries x (Goto at y) k at_k n X s e h = absurd s

  all_under : (P : List ℕ → Pure → Type 0) (F : List ℕ → Type 0) (cs : List Pure) → ((path : List ℕ) → F path → AllByRecursion (P path) cs) → AllByRecursion (λ c. (path : List ℕ) → F path → P path c) cs
  all_under P F [] h = tt
  all_under P F (c ∷ cs) h = (λ path f. (h path f).0, all_under P F cs (λ path f. (h path f).1))

  -- what is fine from the first place on is guarded
  pub guarded : ((n : ℕ) → Fine code n nothing 0) → (k : ℕ) (i : Instr) → slice_get code k ≡ Some i → IsGuarded code k i
  guarded h k i e = All-from_recursion (λ c. (path : List ℕ) → IsFlow code 0 path k → Passes code c path) (wants i)
      (all_under (λ path c. Passes code c path) (λ path. IsFlow code 0 path k) (wants i)
      (λ path f. all_weaker (Reached code nothing path) (λ c. Passes code c path) (passed path) (wants i) (h (suc (length path)) path k i (omega arith) f e)))
    where
      passed : (path : List ℕ) (c : Pure) → Reached code nothing path c → Passes code c path
      passed path c (inl p) = p
      passed path c (inr r) = absurd r.0

-- all of the code stands in it
pub stands_all : (front : List Instr) (ps : List Placed) (code : List Instr) → code ≡ front ++ code_in ps → Stands code (length front) ps
stands_all front [] code e = tt
stands_all front (p ∷ ps) code e =
    let here : length front + 0 ≡ length front = omega arith in
    let next : length (front ++ p.instr ∷ []) ≡ length front + 1 = length-append front (p.instr ∷ []) in (
      subst (λ k. slice_get code k ≡ Some p.instr) here (ap (λ c. slice_get c (length front + 0)) e ∙ at_right front (p.instr ∷ code_in ps) 0),
      subst (λ k. Stands code k ps) next (stands_all (front ++ p.instr ∷ []) ps code (e ∙ sym (append_assoc front (p.instr ∷ []) (code_in ps)))),
    )
