-- Each program is accepted or refused, in one way alone.
use Rattle.std.proofs.Common.{arith, ◌≡◌, refl, sym, ap, ◌∙◌, subst, ℕ, zero, suc, ◌<◌, ◌≤◌, ◌+◌, Bool, true, false, ◌&&◌, ◌||◌, nat_eq, List, [], ◌∷◌, length, get_or, take, slice_get, Contains, Option, Some, None, ◌⊎◌, inl, inr}
use Rattle.std.proofs.lemmas.Bool.Decides.{eqb_tells}
use Rattle.std.proofs.lemmas.Option.{slice_get-get_or}
use Rattle.mm_goto.specs.declared.ident.At.{At}
use Rattle.mm_goto.specs.Place.{start}
use Rattle.mm_tree.specs.declared.item.Tree.{Tree}
use Rattle.mm_tree.specs.declared.side.Side.{Side}
use Rattle.mm_scope.specs.declared.fault.Fault.{Fault}
use Rattle.mm_scope.specs.declared.fault.Rule.{Rule}
use Rattle.mm_scope.specs.declared.fault.Rule.TheVariants.{ReservedName, OutputOnly, TwiceDeclared, UnknownName, WrongType, BadThread, Recursion}
use Rattle.mm_scope.specs.declared.notes.Call.{Call}
use Rattle.mm_scope.specs.Faults.{fault, is_before, rank}
use Rattle.mm_scope.specs.Notes.{Use, Noted, no_notes, all_noted}
use Rattle.mm_names.specs.declared.refusal.NameFault.{NameFault}
use Rattle.mm_names.specs.declared.refusal.NameFault.TheVariants.{NoMain}
use Rattle.mm_names.specs.Calls.{Reaches, itself, through, IsRecursion}
use Rattle.mm_names.specs.Threads.{is_misused, IsMisuse}
use Rattle.mm_names.specs.Least.{IsLeastOf, IsBelow, lesser_of_both}
use Rattle.mm_names.specs.Programs.{notes_of, IsFault, has_main, IsAccepted, IsRefused, no_main, at_fault, refusal_of}
use Rattle.mm_names.proofs.Lesser.{same_place}
use Rattle.mm_names.proofs.LeastOf.{below-none}
use Rattle.mm_names.proofs.ProgramFaults.{program-least, refused-least, accepted-none}
use Rattle.mm_names.proofs.RecursiveCalls.{recursion-more, recursion-kept}
use Rattle.mm_names.proofs.ThreadUses.{misuse-more, misuse-kept}

-- ---- whether a function reaches another: by the other calls alone, or through the first too (after Floyd and Warshall)

true_apart : {b : Bool} → b ≡ true → b ≡ false → ⊥
true_apart p q = cc

abbrev reach : List Call → ℕ → ℕ → Bool
reach [] f g = nat_eq f g
reach (c ∷ cs) f g = reach cs f g || (reach cs f c.caller && reach cs c.callee g)

or_cases : (a b : Bool) → (a || b) ≡ true → (a ≡ true) ⊎ (b ≡ true)
or_cases true b e = inl refl
or_cases false b e = inr e

or_first : (a b : Bool) → a ≡ true → (a || b) ≡ true
or_first true b e = refl
or_first false b e = cc

or_second : (a b : Bool) → b ≡ true → (a || b) ≡ true
or_second true b e = refl
or_second false b e = e

and_both : (a b : Bool) → (a && b) ≡ true → (a ≡ true) × (b ≡ true)
and_both true b e = (refl, e)
and_both false b e = cc

both_and : (a b : Bool) → a ≡ true → b ≡ true → (a && b) ≡ true
both_and true b p q = q
both_and false b p q = cc

contains-first : (c : Call) (cs : List Call) → Contains (c ∷ cs) c
contains-first c cs = (0, omega arith, refl)

contains-behind : (c d : Call) (cs : List Call) → Contains cs d → Contains (c ∷ cs) d
contains-behind c d cs (k, below, is) = (suc k, omega arith, is)

contains-cases : (c d : Call) (cs : List Call) → Contains (c ∷ cs) d → (c ≡ d) ⊎ Contains cs d
contains-cases c d cs (zero, below, is) = inl is
contains-cases c d cs (suc k, below, is) = inr (k, omega arith, is)

more_calls : {c : Call} {cs : List Call} {f g : ℕ} → Reaches cs f g → Reaches (c ∷ cs) f g
more_calls itself = itself
more_calls {c} {cs} (through d is r) = through d (contains-behind c d cs is) (more_calls r)

joined : {calls : List Call} {f g h : ℕ} → Reaches calls f g → Reaches calls g h → Reaches calls f h
joined itself s = s
joined (through c is r) s = through c is (joined r s)

reach-sound : (calls : List Call) (f g : ℕ) → reach calls f g ≡ true → Reaches calls f g
reach-sound [] f g e = elim (eqb_tells f g) [ inl t ↦ subst (Reaches [] f) t.1 itself | inr n ↦ absurd (true_apart e n.0) ]
reach-sound (c ∷ cs) f g e = elim (or_cases (reach cs f g) (reach cs f c.caller && reach cs c.callee g) e) [
  | inl p ↦ more_calls (reach-sound cs f g p)
  | inr q ↦ let b = and_both (reach cs f c.caller) (reach cs c.callee g) q in
      joined (more_calls (reach-sound cs f c.caller b.0)) (through c (contains-first c cs) (more_calls (reach-sound cs c.callee g b.1)))
]

reach-self : (calls : List Call) (f : ℕ) → reach calls f f ≡ true
reach-self [] f = elim (eqb_tells f f) [ inl t ↦ t.0 | inr n ↦ absurd (n.1 refl) ]
reach-self (c ∷ cs) f = or_first (reach cs f f) (reach cs f c.caller && reach cs c.callee f) (reach-self cs f)

reach-own : (c : Call) (cs : List Call) (g : ℕ) → reach (c ∷ cs) c.callee g ≡ true → reach cs c.callee g ≡ true
reach-own c cs g h = elim (or_cases (reach cs c.callee g) (reach cs c.callee c.caller && reach cs c.callee g) h) [
  | inl p ↦ p
  | inr q ↦ (and_both (reach cs c.callee c.caller) (reach cs c.callee g) q).1
]

reach-call : (calls : List Call) (d : Call) (g : ℕ) → Contains calls d → reach calls d.callee g ≡ true → reach calls d.caller g ≡ true
reach-call [] d g is e = let b : is.0 < 0 = is.1 in absurd (omega arith)
reach-call (c ∷ cs) d g is e = elim (contains-cases c d cs is) [
  | inl same ↦ subst (λ (x : Call). reach (c ∷ cs) x.caller g ≡ true) same (or_second (reach cs c.caller g) (reach cs c.caller c.caller && reach cs c.callee g) (both_and (reach cs c.caller c.caller) (reach cs c.callee g) (reach-self cs c.caller) (reach-own c cs g (subst (λ (x : Call). reach (c ∷ cs) x.callee g ≡ true) (sym same) e))))
  | inr among ↦ elim (or_cases (reach cs d.callee g) (reach cs d.callee c.caller && reach cs c.callee g) e) [
    | inl p ↦ or_first (reach cs d.caller g) (reach cs d.caller c.caller && reach cs c.callee g) (reach-call cs d g among p)
    | inr q ↦ let b = and_both (reach cs d.callee c.caller) (reach cs c.callee g) q in
        or_second (reach cs d.caller g) (reach cs d.caller c.caller && reach cs c.callee g) (both_and (reach cs d.caller c.caller) (reach cs c.callee g) (reach-call cs d c.caller among b.0) b.1)
  ]
]

reach-complete : (calls : List Call) {f g : ℕ} → Reaches calls f g → reach calls f g ≡ true
reach-complete calls {f} itself = reach-self calls f
reach-complete calls {f} {g} (through c is r) = reach-call calls c g is (reach-complete calls r)

-- ---- the leasts

-- there is a least
abbrev HasLeast : (Fault → Type 0) → Type 0
HasLeast P = (l : Option Fault) × IsLeastOf P l

one_more : (i : ℕ) → i + 1 ≡ suc i
one_more i = omega arith

next-recursion : (calls : List Call) (i : ℕ) → i < length calls → HasLeast (IsBelow (IsRecursion calls) i) → HasLeast (IsBelow (IsRecursion calls) (i + 1))
next-recursion calls i within before = by (reach calls call.callee call.caller) refl
  where
    call : Call
    call = get_or calls i (record { caller = 0; callee = 0; at = start })

    at_i : slice_get calls i ≡ Some call
    at_i = slice_get-get_or calls i (record { caller = 0; callee = 0; at = start }) within

    by : (b : Bool) → reach calls call.callee call.caller ≡ b → HasLeast (IsBelow (IsRecursion calls) (i + 1))
    by true e = (_, recursion-more i call at_i (reach-sound calls call.callee call.caller e) before.1)
    by false e = (before.0, recursion-kept i call at_i (λ r. true_apart (reach-complete calls r) e) before.1)

least-recursion : (calls : List Call) (i : ℕ) → i ≤ length calls → HasLeast (IsBelow (IsRecursion calls) i)
least-recursion calls zero within = (None, below-none)
least-recursion calls (suc i) within =
    subst (λ k. HasLeast (IsBelow (IsRecursion calls) k)) (one_more i) (next-recursion calls i (omega (arith, within)) (least-recursion calls i (omega (arith, within))))

next-misuse : (uses : List Use) (i : ℕ) → i < length uses → HasLeast (IsBelow (IsMisuse uses) i) → HasLeast (IsBelow (IsMisuse uses) (i + 1))
next-misuse uses i within before = by (is_misused (take i uses) this) refl
  where
    nobody : Use
    nobody = record { function = None; local = false; variable = []; at = start }

    this : Use
    this = get_or uses i nobody

    at_i : slice_get uses i ≡ Some this
    at_i = slice_get-get_or uses i nobody within

    by : (b : Bool) → is_misused (take i uses) this ≡ b → HasLeast (IsBelow (IsMisuse uses) (i + 1))
    by true e = (_, misuse-more i this at_i e before.1)
    by false e = (before.0, misuse-kept i this at_i e before.1)

least-misuse : (uses : List Use) (i : ℕ) → i ≤ length uses → HasLeast (IsBelow (IsMisuse uses) i)
least-misuse uses zero within = (None, below-none)
least-misuse uses (suc i) within =
    subst (λ k. HasLeast (IsBelow (IsMisuse uses) k)) (one_more i) (next-misuse uses i (omega (arith, within)) (least-misuse uses i (omega (arith, within))))

has-least : (side : Side) (tree : Tree) → HasLeast (IsFault side tree)
has-least side tree =
    let n : Noted = all_noted no_notes (notes_of side tree) in
    let m = least-misuse n.uses (length n.uses) (omega arith) in
    let r = least-recursion n.calls (length n.calls) (omega arith) in
    (lesser_of_both (lesser_of_both n.least m.0) r.0, program-least side tree n refl m.1 r.1)

-- ---- programs

pub each : (side : Side) (tree : Tree) → IsAccepted side tree ⊎ ((fault : NameFault) × IsRefused side tree fault)
each side tree = by (has_main tree) refl
  where
    of_least : has_main tree ≡ true → (l : Option Fault) → IsLeastOf (IsFault side tree) l → IsAccepted side tree ⊎ ((fault : NameFault) × IsRefused side tree fault)
    of_least main None least = inl (accepted-none main least)
    of_least main (Some f) least = inr (refusal_of f, refused-least main least)

    by : (b : Bool) → has_main tree ≡ b → IsAccepted side tree ⊎ ((fault : NameFault) × IsRefused side tree fault)
    by true e = of_least e (has-least side tree).0 (has-least side tree).1
    by false e = inr (NoMain start, no_main e)

pub never_both : (side : Side) (tree : Tree) (fault : NameFault) → IsAccepted side tree → IsRefused side tree fault → ⊥
never_both side tree fault accepted (no_main none) = true_apart accepted.main none
never_both side tree fault accepted (at_fault f main is least) = accepted.no_fault f is

-- ---- in one way

abbrev rule_of : ℕ → Rule
rule_of zero = ReservedName
rule_of (suc zero) = OutputOnly
rule_of (suc (suc zero)) = TwiceDeclared
rule_of (suc (suc (suc zero))) = UnknownName
rule_of (suc (suc (suc (suc zero)))) = WrongType
rule_of (suc (suc (suc (suc (suc zero))))) = BadThread
rule_of _ = Recursion

of_rank : (a : Rule) → rule_of (rank a) ≡ a
of_rank ReservedName = refl
of_rank OutputOnly = refl
of_rank TwiceDeclared = refl
of_rank UnknownName = refl
of_rank WrongType = refl
of_rank BadThread = refl
of_rank Recursion = refl

rank-tells : (a b : Rule) → rank a ≡ rank b → a ≡ b
rank-tells a b e = sym (of_rank a) ∙ ap rule_of e ∙ of_rank b

of_parts : (f g : Fault) → f.rule ≡ g.rule → f.at.line ≡ g.at.line → f.at.column ≡ g.at.column → f ≡ g
of_parts f g p q r =
    let place : f.at ≡ g.at = ap (λ (l : ℕ). at_place l f.at.column) q ∙ ap (at_place g.at.line) r in
    ap (λ (x : Rule). fault x f.at) p ∙ ap (fault g.rule) place
  where
    at_place : ℕ → ℕ → At
    at_place l c = record { line = l; column = c }

neither-before : (f g : Fault) → is_before f g ≡ false → is_before g f ≡ false → f ≡ g
neither-before f g p q = let e = same_place f g p q in of_parts f g (rank-tells f.rule g.rule e.2) e.0 e.1

pub in_one_way : (side : Side) (tree : Tree) (one other : NameFault) → IsRefused side tree one → IsRefused side tree other → one ≡ other
in_one_way side tree one other (no_main p) (no_main q) = refl
in_one_way side tree one other (no_main p) (at_fault g main is least) = absurd (true_apart main p)
in_one_way side tree one other (at_fault f main is least) (no_main q) = absurd (true_apart main q)
in_one_way side tree one other (at_fault f main is least) (at_fault g also this less) = ap refusal_of (neither-before f g (less f is) (least g this))
