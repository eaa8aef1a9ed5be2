-- What the body of a woven thread weighs, by its locals, its instructions and its sites.
use Rattle.std.proofs.Common.{arith, ◌≡◌, ℕ, zero, suc, ◌+◌, ◌*◌, ◌≤◌, ◌<◌, Bool, true, false, ◌||◌, if◌then◌else◌, List, [], ◌∷◌, ◌++◌, length, map, append_assoc, append-nil, refl, sym, ◌∙◌, ap, subst, Some, slice_get}
use Rattle.std.specs.Prelude.{All, sum_by}
use Rattle.std.specs.List.{AllByRecursion, flat_map, range_with_len}
use Rattle.std.specs.Str.{bytes_eq}
use Rattle.std.proofs.lemmas.List.{length-append}
use Rattle.std.proofs.lemmas.List.Elements.{recursion_from_All}
use Rattle.std.proofs.lemmas.List.Sums.{sum_by-cons}
use Rattle.std.proofs.lemmas.Slice.Eq.{bytes_eq-Decides}
use Rattle.mm_goto.specs.declared.ident.Ident.{Ident}
use Rattle.mm_goto.specs.declared.shape.Shape.{Shape}
use Rattle.mm_goto.specs.declared.pure.Pure.{Pure}
use Rattle.mm_goto.specs.declared.program.Target.{Target}
use Rattle.mm_goto.specs.declared.program.Target.TheVariants as target
use Rattle.mm_goto.specs.declared.program.Instr.{Instr}
use Rattle.mm_goto.specs.declared.program.Instr.TheVariants as instr
use Rattle.mm_goto.specs.declared.program.Thread.{Thread}
use Rattle.mm_goto.specs.Checks.{targets, target_exprs, value_exprs}
use Rattle.mm_goto.specs.Listing.{Listing}
use Rattle.mm_goto.specs.Locals.{local_bound}
use Rattle.mm_goto.specs.Parts.{nodes}
use Rattle.mm_goto.specs.Sites.{is_site, sites_from, sites_of}
use Rattle.mm_goto.specs.Sourcelike.{exprs_of, target_nodes}
use Rattle.mm_goto.specs.Valid.{IsInstrIn, IsTargetIn}
use Rattle.mm_flow.specs.declared.names.Started.{Started}
use Rattle.mm_words.specs.Words.{declare}
use Rattle.mm_helpers.specs.Helpers.{nondet_wm}
use Rattle.mm_templates.specs.Names.{local_name}
use Rattle.mm_templates.specs.Expressions.{printed}
use Rattle.mm_instr.specs.Woven.{woven_code, woven_body}
use Rattle.mm_sourcelike.specs.Checks.{DividesAlone}
use Rattle.mm_within.proofs.Costs.{is_local}
use Rattle.mm_within.proofs.Weights.{Calls}
use Rattle.mm_within.proofs.WordCosts.{Priced, priced_more, Runs, runs_none, runs_next, runs_more, runs_both, one_declare}
use Rattle.mm_within.proofs.HelperCosts.{Helped}
use Rattle.mm_within.proofs.Printed.{HasLocals, priced_printed, split, paired}
use Rattle.mm_within.proofs.TemplateCosts.{most_size, most_fresh, starts_of, Sized, instr_runs}

-- ---- lists

-- what holds of each element holds of that at a place
pub at_place : {X : Type 0} (P : X → Type 0) (xs : List X) → AllByRecursion P xs → (k : ℕ) (x : X) → slice_get xs k ≡ Some x → P x
at_place P [] h k x e = absurd cc
at_place P (y ∷ ys) h zero x e = let same : y ≡ x = cc in subst P same h.0
at_place P (y ∷ ys) h (suc k) x e = at_place P ys h.1 k x e

-- what holds at each place holds of each element
pub from_places : {X : Type 0} (P : X → Type 0) (xs : List X) → ((k : ℕ) (x : X) → slice_get xs k ≡ Some x → P x) → AllByRecursion P xs
from_places P [] f = tt
from_places P (x ∷ xs) f = (f 0 x refl, from_places P xs (λ k y e. f (suc k) y e))

-- what holds of each element of the parts holds in each part
flat_split : {X A : Type 0} (P : A → Type 0) (f : X → List A) (xs : List X) → AllByRecursion P (flat_map f xs) → AllByRecursion (λ x. AllByRecursion P (f x)) xs
flat_split P f [] h = tt
flat_split P f (x ∷ xs) h = let s = split P (f x) (flat_map f xs) h in (s.0, flat_split P f xs s.1)

-- a part is at most the sum
pub part_of_sum : {X : Type 0} (f : X → ℕ) (xs : List X) (n : ℕ) → sum_by f xs ≤ n → AllByRecursion (λ x. f x ≤ n) xs
part_of_sum f [] n h = tt
part_of_sum f (x ∷ xs) n h = (omega (arith, sum_by-cons f x xs, h), part_of_sum f xs n (omega (arith, sum_by-cons f x xs, h)))

-- ---- the expressions of an instruction

module _ (p : Listing) (t : Thread) where
  -- the expressions name locals of the thread
  abbrev Bounded : List Pure → Type 0
  Bounded es = AllByRecursion (λ e. local_bound e ≤ t.locals) es

  -- those of a target
  target_bounded : (a : Target) → IsTargetIn p t a → Bounded ((target_exprs a ++ []) ++ [])
  target_bounded (target.Cell c) h = tt
  target_bounded (target.Elem first len index) h = (h.1.locals, tt)
  target_bounded (target.Deref e) h = (h.locals, tt)

  -- those of a target and others behind them
  with_value : (a : Target) (es : List Pure) → IsTargetIn p t a → Bounded es → Bounded ((target_exprs a ++ []) ++ es)
  with_value (target.Cell c) es h k = k
  with_value (target.Elem first len index) es h k = (h.1.locals, k)
  with_value (target.Deref e) es h k = (h.locals, k)

  -- those of an instruction
  instr_bounded : (it : Instr) → IsInstrIn p t it → Bounded (exprs_of it)
  instr_bounded (instr.Set l e) h = (h.1.locals, tt)
  instr_bounded (instr.Load l a) h = target_bounded a h.1
  instr_bounded (instr.Store a e) h = with_value a (e ∷ []) h.0 (h.1.locals, tt)
  instr_bounded (instr.Input l) h = tt
  instr_bounded (instr.Jump k) h = tt
  instr_bounded (instr.Branch e k) h = (h.0.locals, tt)
  instr_bounded (instr.Assert e n) h = (h.0.locals, tt)
  instr_bounded (instr.Assume e) h = (h.locals, tt)
  instr_bounded instr.Fence h = tt
  instr_bounded (instr.Lock m) h = tt
  instr_bounded (instr.Unlock m) h = tt
  instr_bounded (instr.Add l a e) h = with_value a (e ∷ []) h.1 (h.2.locals, tt)
  instr_bounded (instr.Cas l a e f) h = with_value a (e ∷ f ∷ []) h.1 (h.2.locals, (h.3.locals, tt))
  instr_bounded (instr.Start u) h = tt
  instr_bounded (instr.Join u) h = tt
  instr_bounded instr.AtomBegin h = tt
  instr_bounded instr.AtomEnd h = tt
  instr_bounded instr.End h = tt

  -- an instruction of a source, whose checks stand alone, is no larger than a source has them
  pub sized : (xs : List Ident) → HasLocals xs t.locals → (it : Instr) → IsInstrIn p t it → All DividesAlone (exprs_of it)
      → (target_nodes it ≤ 410) × All (λ e. target_nodes it + nodes e ≤ 410) (value_exprs it) → Sized xs it
  sized xs has it within alone size =
      let fine = paired (λ e. local_bound e ≤ t.locals) DividesAlone (λ e. Priced xs (printed e) (nodes e + 3) 1) (λ e h k. priced_printed xs t.locals has e h k) (exprs_of it)
      (instr_bounded it within) (recursion_from_All DividesAlone (exprs_of it) alone) in
      let s = split (λ e. Priced xs (printed e) (nodes e + 3) 1) (flat_map target_exprs (targets it)) (value_exprs it) fine in
      let n : ℕ = target_nodes it in
      record {
        n = n;
        few = size.0;
        targets = flat_split (λ e. Priced xs (printed e) (n + 3) 1) target_exprs (targets it)
            (paired (λ e. Priced xs (printed e) (nodes e + 3) 1) (λ e. nodes e ≤ n) (λ e. Priced xs (printed e) (n + 3) 1) (λ e h k. priced_more (omega (arith, k)) (omega arith) h)
            (flat_map target_exprs (targets it))
            s.0 (part_of_sum nodes (flat_map target_exprs (targets it)) n (omega arith)));
        values = paired (λ e. Priced xs (printed e) (nodes e + 3) 1) (λ e. n + nodes e ≤ 410) (λ e. Priced xs (printed e) (nodes e + 3) 1 × (n + nodes e ≤ 410)) (λ e h k. (h, k)) (value_exprs it)
            s.1 (recursion_from_All (λ e. n + nodes e ≤ 410) (value_exprs it) size.1);
      }

-- ---- code

-- how many instructions the templates of the code take at most
abbrev pub code_size : List Instr → ℕ
code_size [] = 0
code_size (it ∷ code) = most_size (is_site it) + code_size code

-- how many fresh locals they take at most
abbrev pub code_fresh : List Instr → ℕ
code_fresh [] = 0
code_fresh (it ∷ code) = most_fresh (is_site it) + code_fresh code

-- the threads that the code starts
abbrev pub starts_in : List Instr → List Started
starts_in [] = []
starts_in (it ∷ code) = starts_of it ++ starts_in code

-- the names of the locals from number l on
abbrev pub local_names : ℕ → ℕ → List Ident
local_names l n = map local_name (range_with_len l n)

-- a name is equal to itself
same_name : (x : Ident) → bytes_eq x x ≡ true
same_name x = (bytes_eq-Decides x x).1 refl

-- the name of a local is among those of the locals
names_from : (n k l : ℕ) → l < n → is_local (local_names k n) (local_name (k + l)) ≡ true
names_from zero k l h = absurd (omega (arith, h))
names_from (suc n) k zero h =
    let e : k + 0 ≡ k = omega arith in
    ap (λ b. b || is_local (local_names (k + 1) n) (local_name (k + 0))) (ap (λ m. bytes_eq (local_name k) (local_name m)) e ∙ same_name (local_name k))
names_from (suc n) k (suc l) h =
    let e : k + suc l ≡ k + 1 + l = omega arith in
    ap (λ b. bytes_eq (local_name k) (local_name (k + suc l)) || b) (ap (λ m. is_local (local_names (k + 1) n) (local_name m)) e ∙ names_from n (k + 1) l (omega (arith, h)))
    ∙ last (bytes_eq (local_name k) (local_name (k + suc l)))
  where
    last : (b : Bool) → (b || true) ≡ true
    last true = refl
    last false = refl

-- the first locals' names are those of the locals below the number
pub has_locals : (n : ℕ) → HasLocals (local_names 0 n) n
has_locals n l h = let e : l ≡ 0 + l = omega arith in ap (λ m. is_local (local_names 0 n) (local_name m)) e ∙ names_from n 0 l h

module _ (calls : Calls) (Quiet : Ident → Type 0) where
  -- the declarations of the locals
  declared_run : (n l : ℕ) (xs : List Ident) → Runs calls Quiet xs (xs ++ local_names l n) (map (λ k. declare (local_name k)) (range_with_len l n)) n n []
  declared_run zero l xs = subst (λ ys. Runs calls Quiet xs ys [] 0 0 []) (sym (append-nil xs)) (runs_none calls Quiet)
  declared_run (suc n) l xs =
      subst (λ ys. Runs calls Quiet xs ys (map (λ k. declare (local_name k)) (range_with_len l (suc n))) (suc n) (suc n) []) (append_assoc xs (local_name l ∷ []) (local_names (l + 1) n))
      (runs_more calls Quiet (omega arith) (omega arith) (runs_next calls Quiet (one_declare calls Quiet (local_name l)) (declared_run n (l + 1) (xs ++ local_name l ∷ []))))

  module _ (p : Listing) (shape : Shape) (buffers addresses : Bool) (help : buffers ≡ true → Helped calls Quiet) (quiet : Quiet nondet_wm) where
    -- the templates of the code
    code_runs : (xs : List Ident) (t i : ℕ) (code : List Instr) → AllByRecursion (Sized xs) code
        → Runs calls Quiet xs xs (woven_code p shape buffers addresses t i code) (code_size code) (code_fresh code) (starts_in code)
    code_runs xs t i [] h = runs_none calls Quiet
    code_runs xs t i (it ∷ code) h = runs_both calls Quiet _ (instr_runs calls Quiet p shape xs quiet buffers addresses help t i it h.0) (code_runs xs t (i + 1) code h.1)

    -- the body of a thread weighs no more than its locals and its code
    pub body_runs : (t : ℕ) (it : Thread) → AllByRecursion (Sized (local_names 0 it.locals)) it.code
        → Runs calls Quiet [] (local_names 0 it.locals) (woven_body p shape buffers addresses t it) (it.locals + code_size it.code) (it.locals + code_fresh it.code) (starts_in it.code)
    body_runs t it h = runs_both calls Quiet _ (declared_run it.locals 0 []) (code_runs (local_names 0 it.locals) t 0 it.code h)

-- ---- sums

-- how much a thread may weigh, with its End
abbrev pub thread_size : Thread → ℕ
thread_size it = it.locals + code_size it.code + 1

-- the sums over the code, by its length and its sites
code_sums : (t k : ℕ) (code : List Instr) → (code_size code ≡ 416 * length code + 1100 * length (sites_from t k code)) × (code_fresh code ≡ 25 * length code + 20 * length (sites_from t k code))
code_sums t k [] = (refl, refl)
code_sums t k (it ∷ code) = by (is_site it) (code_sums t (k + 1) code)
  where
    by : (b : Bool) → (code_size code ≡ 416 * length code + 1100 * length (sites_from t (k + 1) code)) × (code_fresh code ≡ 25 * length code + 20 * length (sites_from t (k + 1) code))
        → (most_size b + code_size code ≡ 416 * suc (length code) + 1100 * length (if b then record { thread = t; index = k } ∷ sites_from t (k + 1) code else sites_from t (k + 1) code))
        × (most_fresh b + code_fresh code ≡ 25 * suc (length code) + 20 * length (if b then record { thread = t; index = k } ∷ sites_from t (k + 1) code else sites_from t (k + 1) code))
    by true h = (omega (arith, h.0), omega (arith, h.1))
    by false h = (omega (arith, h.0), omega (arith, h.1))

-- the threads weigh little in all
pub size_sum : (t : ℕ) (ts : List Thread) → AllByRecursion (λ (it : Thread). it.locals ≤ 4096) ts
    → sum_by thread_size ts ≤ 4097 * length ts + 416 * sum_by (λ (it : Thread). length it.code) ts + 1100 * length (sites_of t ts)
size_sum t [] h = omega arith
size_sum t (it ∷ ts) h =
    omega (
      arith,
      h.0,
      (code_sums t 0 it.code).0,
      size_sum (t + 1) ts h.1,
      sum_by-cons thread_size it ts,
      sum_by-cons (λ (it : Thread). length it.code) it ts,
      length-append (sites_from t 0 it.code) (sites_of (t + 1) ts),
    )

-- they take few fresh locals in all
pub fresh_sum : (t : ℕ) (ts : List Thread) → sum_by (λ (it : Thread). code_fresh it.code) ts ≡ 25 * sum_by (λ (it : Thread). length it.code) ts + 20 * length (sites_of t ts)
fresh_sum t [] = refl
fresh_sum t (it ∷ ts) =
    omega (
      arith,
      (code_sums t 0 it.code).1,
      fresh_sum (t + 1) ts,
      sum_by-cons (λ (it : Thread). code_fresh it.code) it ts,
      sum_by-cons (λ (it : Thread). length it.code) it ts,
      length-append (sites_from t 0 it.code) (sites_of (t + 1) ts),
    )
