-- The rules of a program, one by one.
use Rattle.std.proofs.Common.{◌≡◌, ◌∙◌, ℕ, zero, suc, ◌+◌, ◌*◌, List, [], ◌∷◌, ◌++◌, map, length, inl, inr, refl, sym, ap, Some, arith, subst}
use Rattle.std.specs.Prelude.{◌⊎◌, slice_get}
use Rattle.mm_goto.specs.declared.program.Cell.{Cell}
use Rattle.mm_goto.specs.declared.program.Thread.{Thread}
use Rattle.mm_goto.specs.declared.program.Instr.{Instr}
use Rattle.mm_goto.specs.Listing.{Listing}
use Rattle.mm_points.specs.declared.rules.Rule.{Rule}
use Rattle.mm_points.specs.declared.rules.Rule.TheVariants.{Set}
use Rattle.mm_points.specs.reading.Ruled.{aim_of, rule_of, starts_from, codes_from, rules_of}
use Rattle.mm_points.proofs.Lists.{Among, same_some, no_some, among_front, among_back, among_split, among_map, mapped}

-- the rule is that of a start value
pub record OfCell (base k : ℕ) (cells : List Cell) (rule : Rule) : Type 0 where
  pub at : ℕ
  pub of : Cell
  pub stands : slice_get cells at ≡ Some of
  pub is : rule ≡ Set (k + at) (aim_of base of.init)

-- the rule is that of an instruction
pub record OfInstr (base step : ℕ) (threads : List Thread) (rule : Rule) : Type 0 where
  pub t : ℕ
  pub j : ℕ
  pub thread : Thread
  pub it : Instr
  pub runs : slice_get threads t ≡ Some thread
  pub stands : slice_get thread.code j ≡ Some it
  pub is : rule ≡ rule_of (base + t * step) it

pub start_from : (base k : ℕ) (cells : List Cell) (i : ℕ) (rule : Rule) → slice_get (starts_from base k cells) i ≡ Some rule → OfCell base k cells rule
start_from base k [] i rule is = absurd (no_some rule is)
start_from base k (of ∷ rest) zero rule is = record { at = zero; of = of; stands = refl; is = sym (same_some _ rule is) ∙ ap (λ n. Set n (aim_of base of.init)) (let e : k ≡ k + zero = omega arith in e) }
start_from base k (of ∷ rest) (suc i) rule is =
    let r = start_from base (k + 1) rest i rule is in
    record { at = suc r.at; of = r.of; stands = r.stands; is = r.is ∙ ap (λ n. Set n (aim_of base r.of.init)) (let e : k + 1 + r.at ≡ k + suc r.at = omega arith in e) }

pub code_from : (base step : ℕ) (threads : List Thread) (i : ℕ) (rule : Rule) → slice_get (codes_from base step threads) i ≡ Some rule → OfInstr base step threads rule
code_from base step [] i rule is = absurd (no_some rule is)
code_from base step (thread ∷ rest) i rule is =
    elim (among_split (map (rule_of base) thread.code) (codes_from (base + step) step rest) i rule is) [
      | inl here ↦
          let m = among_map (rule_of base) thread.code here.0 rule here.1 in
          record { t = zero; j = here.0; thread = thread; it = m.0; runs = refl; stands = m.1; is = m.2 ∙ ap (λ n. rule_of n m.0) (let e : base ≡ base + zero * step = omega arith in e) }
      | inr later ↦
          let r = code_from (base + step) step rest later.0 rule later.1 in
          record { t = suc r.t; j = r.j; thread = r.thread; it = r.it; runs = r.runs; stands = r.stands; is = r.is ∙ ap (λ n. rule_of n r.it) (next r.t) }
    ]
  where
    next : (t : ℕ) → base + step + t * step ≡ base + suc t * step
    next t = grind arith

pub rule_from : (p : Listing) (step i : ℕ) (rule : Rule) → slice_get (rules_of p step) i ≡ Some rule
    → OfCell (length p.cells) 0 p.cells rule ⊎ OfInstr (length p.cells) step p.threads rule
rule_from p step i rule is =
    elim (among_split (starts_from (length p.cells) 0 p.cells) (codes_from (length p.cells) step p.threads) i rule is) [
      | inl start ↦ inl (start_from (length p.cells) 0 p.cells start.0 rule start.1)
      | inr code ↦ inr (code_from (length p.cells) step p.threads code.0 rule code.1)
    ]

-- ---- each is there

pub start_there : (base k : ℕ) (cells : List Cell) (at : ℕ) (of : Cell) → slice_get cells at ≡ Some of → Among (starts_from base k cells) (Set (k + at) (aim_of base of.init))
start_there base k [] at of is = absurd (no_some of is)
start_there base k (x ∷ rest) zero of is = (zero, ap Some (ap (λ n. Set n (aim_of base x.init)) (let e : k ≡ k + zero = omega arith in e) ∙ ap (λ o. Set (k + zero) (aim_of base o.init)) (same_some x of is)))
start_there base k (x ∷ rest) (suc at) of is =
    let r = start_there base (k + 1) rest at of is in
    (suc r.0, r.1 ∙ ap (λ n. Some (Set n (aim_of base of.init))) (let e : k + 1 + at ≡ k + suc at = omega arith in e))

pub code_there : (base step : ℕ) (threads : List Thread) (t j : ℕ) (thread : Thread) (it : Instr) → slice_get threads t ≡ Some thread → slice_get thread.code j ≡ Some it
    → Among (codes_from base step threads) (rule_of (base + t * step) it)
code_there base step [] t j thread it runs stands = absurd (no_some thread runs)
code_there base step (x ∷ rest) zero j thread it runs stands =
    let same : x ≡ thread = same_some x thread runs in
    let e : base ≡ base + zero * step = omega arith in
    let P : ℕ → Type 0 = λ n. Among (map (rule_of base) x.code ++ codes_from (base + step) step rest) (rule_of n it) in
    subst P e (among_front (map (rule_of base) x.code) (codes_from (base + step) step rest) j (rule_of base it) (mapped (rule_of base) x.code j it (ap (λ y. slice_get y.code j) same ∙ stands)))
code_there base step (x ∷ rest) (suc t) j thread it runs stands =
    let r = code_there (base + step) step rest t j thread it runs stands in
    let P : ℕ → Type 0 = λ n. Among (map (rule_of base) x.code ++ codes_from (base + step) step rest) (rule_of n it) in
    subst P next (among_back (map (rule_of base) x.code) (codes_from (base + step) step rest) (rule_of (base + step + t * step) it) r)
  where
    next : base + step + t * step ≡ base + suc t * step
    next = grind arith

pub cell_there : (p : Listing) (step k : ℕ) (of : Cell) → slice_get p.cells k ≡ Some of → Among (rules_of p step) (Set k (aim_of (length p.cells) of.init))
cell_there p step k of is =
    let r = start_there (length p.cells) 0 p.cells k of is in
    let P : ℕ → Type 0 = λ n. Among (rules_of p step) (Set n (aim_of (length p.cells) of.init)) in
    subst P (let e : 0 + k ≡ k = omega arith in e) (among_front (starts_from (length p.cells) 0 p.cells) (codes_from (length p.cells) step p.threads) r.0 _ r.1)

pub instr_there : (p : Listing) (step t j : ℕ) (thread : Thread) (it : Instr) → slice_get p.threads t ≡ Some thread → slice_get thread.code j ≡ Some it
    → Among (rules_of p step) (rule_of (length p.cells + t * step) it)
instr_there p step t j thread it runs stands =
    among_back (starts_from (length p.cells) 0 p.cells) (codes_from (length p.cells) step p.threads) _ (code_there (length p.cells) step p.threads t j thread it runs stands)
