-- The least of some faults.
use Rattle.std.proofs.Common.{arith, ◌≡◌, ℕ, Bool, true, false, nat_eq, nat_lt, if◌then◌else◌}
use Rattle.std.proofs.lemmas.Bool.Decides.{nat_tests}
use Rattle.mm_scope.specs.declared.fault.Fault.{Fault}
use Rattle.mm_scope.specs.Faults.{is_before, rank}

-- the order of three numbers
abbrev before3 : ℕ → ℕ → ℕ → ℕ → ℕ → ℕ → Bool
before3 a b c d e f = if nat_eq a d then (if nat_eq b e then nat_lt c f else nat_lt b e) else nat_lt a d

asym3 : (a b c d e f : ℕ) → before3 a b c d e f ≡ true → before3 d e f a b c ≡ false
asym3 a b c d e f h = grind (arith, nat_tests)

trans3 : (a b c d e f g h i : ℕ) → before3 a b c d e f ≡ false → before3 d e f g h i ≡ false → before3 a b c g h i ≡ false
trans3 a b c d e f g h i p q = grind (arith, nat_tests)

pub not_behind : (f g : Fault) → is_before f g ≡ true → is_before g f ≡ false
unfolding is_before
not_behind f g h = asym3 f.at.line f.at.column (rank f.rule) g.at.line g.at.column (rank g.rule) h

pub not_before-trans : (f g h : Fault) → is_before f g ≡ false → is_before g h ≡ false → is_before f h ≡ false
unfolding is_before
not_before-trans f g h p q = trans3 f.at.line f.at.column (rank f.rule) g.at.line g.at.column (rank g.rule) h.at.line h.at.column (rank h.rule) p q

pub not_before-self : (f : Fault) → is_before f f ≡ false
unfolding is_before
not_before-self f = asym-self f.at.line f.at.column (rank f.rule)
  where
    asym-self : (a b c : ℕ) → before3 a b c a b c ≡ false
    asym-self a b c = grind (arith, nat_tests)

-- neither of two at different places, or under different rules, is without the other before it
same3 : (a b c d e f : ℕ) → before3 a b c d e f ≡ false → before3 d e f a b c ≡ false → (a ≡ d) × (b ≡ e) × (c ≡ f)
same3 a b c d e f p q = (grind (arith, nat_tests), grind (arith, nat_tests), grind (arith, nat_tests))

pub same_place : (f g : Fault) → is_before f g ≡ false → is_before g f ≡ false → (f.at.line ≡ g.at.line) × (f.at.column ≡ g.at.column) × (rank f.rule ≡ rank g.rule)
unfolding is_before
same_place f g p q = same3 f.at.line f.at.column (rank f.rule) g.at.line g.at.column (rank g.rule) p q
