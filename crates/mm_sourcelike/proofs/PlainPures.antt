-- Expressions that are small, have numbers without a sign, and divide in time.
use Rattle.std.proofs.Common.{arith, ◌≡◌, ◌⊎◌, inl, inr, ℕ, pos, ◌+◌, ◌≤◌, Bool, true, false, ◌||◌, List, [], ◌∷◌, ◌++◌, refl, ◌∙◌, sym, ap, ap₂, subst}
use denote.Hole.Carrier
use Rattle.std.specs.List.{AllByRecursion}
use Rattle.mm_goto.specs.declared.pure.Unary.{Unary}
use Rattle.mm_goto.specs.declared.pure.Binary.{Binary}
use Rattle.mm_goto.specs.declared.pure.Binary.TheVariants as binary
use Rattle.mm_goto.specs.declared.pure.Pure.{Pure}
use Rattle.mm_goto.specs.declared.pure.Pure.TheOpen as pure
use Rattle.mm_goto.specs.declared.pure.Pure.TheViews.{roll-Pure}
use Rattle.mm_goto.specs.declared.pure.Pure.TheFolds.{fold-Pure}
use Rattle.mm_goto.specs.Checks.{Late, Timed, IsRangeCheck, late_behind, timed_step, is_in_range, is_not_zero}
use Rattle.mm_goto.specs.Locals.{larger}
use Rattle.mm_goto.specs.Parts.{divides, divides_step, is_division, levels, levels_step, nodes, nodes_step, numbers, numbers_step}
use Rattle.mm_goto.specs.Terms.{constant, the_local, applied, combined}
use Rattle.mm_goto.proofs.Folding.{fold_constant, fold_local, fold_applied, fold_combined}
use Rattle.mm_flow.specs.Words.{address, element, chosen}
use Rattle.mm_sourcelike.specs.Grammatical.{IsUnsigned}
use Rattle.mm_sourcelike.proofs.Cells.{both_all}
use Rattle.mm_sourcelike.proofs.Checking.{false_is_not}
use Rattle.mm_sourcelike.proofs.Pures.{fold_address, fold_element, fold_chosen, larger_at_most}

abbrev pub timed : Pure → Timed
timed e = fold-Pure Timed timed_step e

-- the part does not divide
abbrev pub IsTimely : Late → Type 0
IsTimely late = divides late.part ≡ false

-- so it is, or it stands in the whole expression, the check of an index
abbrev pub IsAlone : Pure → Late → Type 0
IsAlone e late = (divides late.part ≡ false) ⊎ ((late.whole ≡ e) × IsRangeCheck e)

-- it has so many nodes and levels at most, its numbers have no sign, and it divides in time
pub record Plain (many deep : ℕ) (e : Pure) : Type 0 where
  pub size : nodes e ≤ many
  pub height : levels e ≤ deep
  pub signs : AllByRecursion IsUnsigned (numbers e)
  pub itself : (timed e).expr ≡ e
  pub timely : AllByRecursion IsTimely (timed e).late

-- it is asserted: it is plain, or the check of an index
pub record Asserted (many deep : ℕ) (e : Pure) : Type 0 where
  pub size : nodes e ≤ many
  pub height : levels e ≤ deep
  pub signs : AllByRecursion IsUnsigned (numbers e)
  pub alone : AllByRecursion (IsAlone e) (timed e).late

all_timely : (e : Pure) (ls : List Late) → AllByRecursion IsTimely ls → AllByRecursion (IsAlone e) ls
all_timely e [] h = tt
all_timely e (l ∷ ls) h = (inl h.0, all_timely e ls h.1)

pub plain_asserted : (m d : ℕ) (e : Pure) → Plain m d e → Asserted m d e
plain_asserted m d e h = record { size = h.size; height = h.height; signs = h.signs; alone = all_timely e (timed e).late h.timely }

pub plain_up : (m n d k : ℕ) (e : Pure) → m ≤ n → d ≤ k → Plain m d e → Plain n k e
plain_up m n d k e l g h = record { size = omega (arith, h.size); height = omega (arith, h.height); signs = h.signs; itself = h.itself; timely = h.timely }

-- ---- its parts

by_timed : (P : Late → Type 0) (e : Pure) (c : Timed) → timed e ≡ c → AllByRecursion P c.late → AllByRecursion P (timed e).late
by_timed P e c is h = subst (λ (d : Timed). AllByRecursion P d.late) (sym is) h

pub constant_plain : (n : ℕ) → Plain 1 1 (constant (pos n))
unfolding constant roll-Pure denote.Hole.Carrier.roll
constant_plain n = record {
  size = omega (arith, fold_constant nodes_step (pos n));
  height = omega (arith, fold_constant levels_step (pos n));
  signs = rw (fold_constant numbers_step (pos n)) ((n, refl), tt);
  itself = ap (λ (c : Timed). c.expr) (fold_constant timed_step (pos n));
  timely = by_timed IsTimely (constant (pos n)) _ (fold_constant timed_step (pos n)) tt;
}

pub local_plain : (l : ℕ) → Plain 1 1 (the_local l)
unfolding the_local roll-Pure denote.Hole.Carrier.roll
local_plain l = record {
  size = omega (arith, fold_local nodes_step l);
  height = omega (arith, fold_local levels_step l);
  signs = rw (fold_local numbers_step l) tt;
  itself = ap (λ (c : Timed). c.expr) (fold_local timed_step l);
  timely = by_timed IsTimely (the_local l) _ (fold_local timed_step l) tt;
}

pub address_plain : (c : ℕ) → Plain 1 1 (address c)
unfolding address roll-Pure denote.Hole.Carrier.roll
address_plain c = record {
  size = omega (arith, fold_address nodes_step c);
  height = omega (arith, fold_address levels_step c);
  signs = rw (fold_address numbers_step c) tt;
  itself = ap (λ (c : Timed). c.expr) (fold_address timed_step c);
  timely = by_timed IsTimely (address c) _ (fold_address timed_step c) tt;
}

pub element_plain : (m d first len : ℕ) (x : Pure) → Plain m d x → Plain (m + 1) (d + 1) (element first len x)
unfolding element roll-Pure denote.Hole.Carrier.roll
element_plain m d first len x h = record {
  size = omega (arith, fold_element nodes_step first len x, h.size);
  height = omega (arith, fold_element levels_step first len x, h.height);
  signs = rw (fold_element numbers_step first len x) h.signs;
  itself = ap (λ (c : Timed). c.expr) (fold_element timed_step first len x) ∙ ap (element first len) h.itself;
  timely = by_timed IsTimely (element first len x) _ (fold_element timed_step first len x) h.timely;
}

pub applied_plain : (m d : ℕ) (op : Unary) (x : Pure) → Plain m d x → Plain (m + 1) (d + 1) (applied op x)
unfolding applied roll-Pure denote.Hole.Carrier.roll
applied_plain m d op x h = record {
  size = omega (arith, fold_applied nodes_step op x, h.size);
  height = omega (arith, fold_applied levels_step op x, h.height);
  signs = rw (fold_applied numbers_step op x) h.signs;
  itself = ap (λ (c : Timed). c.expr) (fold_applied timed_step op x) ∙ ap (applied op) h.itself;
  timely = by_timed IsTimely (applied op x) _ (fold_applied timed_step op x) h.timely;
}

-- the second operand is not always reached
abbrev pub is_lazy : Binary → Bool
is_lazy binary.Land = true
is_lazy binary.Lor = true
is_lazy op = false

behind_timely : (op : Binary) (whole y : Pure) → (is_lazy op ≡ true → IsTimely (record { whole = whole; part = y })) → AllByRecursion IsTimely (late_behind op whole y)
behind_timely binary.Land whole y h = (h refl, tt)
behind_timely binary.Lor whole y h = (h refl, tt)
behind_timely binary.Add whole y h = tt
behind_timely binary.Sub whole y h = tt
behind_timely binary.Mul whole y h = tt
behind_timely binary.Div whole y h = tt
behind_timely binary.Rem whole y h = tt
behind_timely binary.Shl whole y h = tt
behind_timely binary.Shr whole y h = tt
behind_timely binary.Lt whole y h = tt
behind_timely binary.Le whole y h = tt
behind_timely binary.Gt whole y h = tt
behind_timely binary.Ge whole y h = tt
behind_timely binary.Eq whole y h = tt
behind_timely binary.Ne whole y h = tt
behind_timely binary.And whole y h = tt
behind_timely binary.Xor whole y h = tt
behind_timely binary.Or whole y h = tt

joined_timely : (op : Binary) (whole : Pure) (x y : Timed) (v : Pure) → y.expr ≡ v → AllByRecursion IsTimely x.late → AllByRecursion IsTimely y.late → (is_lazy op ≡ true → IsTimely (record { whole = whole; part = v })) → AllByRecursion IsTimely ((x.late ++ y.late) ++ late_behind op whole y.expr)
joined_timely op whole x y v is h g f =
    both_all IsTimely (x.late ++ y.late) (late_behind op whole y.expr) (both_all IsTimely x.late y.late h g)
    (behind_timely op whole y.expr (λ l. subst (λ e. IsTimely (record { whole = whole; part = e })) (sym is) (f l)))

-- its nodes, levels and numbers, whatever it does
record Formed (many deep : ℕ) (e : Pure) : Type 0 where
  size : nodes e ≤ many
  height : levels e ≤ deep
  signs : AllByRecursion IsUnsigned (numbers e)

combined_formed : (m n d k q : ℕ) (op : Binary) (x y : Pure) → d ≤ q → k ≤ q → Plain m d x → Plain n k y → Formed (m + n + 1) (q + 1) (combined op x y)
combined_formed m n d k q op x y dq kq h g = record {
  size = omega (arith, fold_combined nodes_step op x y, h.size, g.size);
  height = omega (arith, fold_combined levels_step op x y, larger_at_most (levels x) (levels y) q (omega (arith, h.height)) (omega (arith, g.height)));
  signs = rw (fold_combined numbers_step op x y) (both_all IsUnsigned (numbers x) (numbers y) h.signs g.signs);
}

pub combined_plain : (m n d k q : ℕ) (op : Binary) (x y : Pure) → d ≤ q → k ≤ q → Plain m d x → Plain n k y → (is_lazy op ≡ true → IsTimely (record { whole = combined op x y; part = y })) → Plain (m + n + 1) (q + 1) (combined op x y)
unfolding combined roll-Pure denote.Hole.Carrier.roll
combined_plain m n d k q op x y dq kq h g f = record {
  size = (combined_formed m n d k q op x y dq kq h g).size;
  height = (combined_formed m n d k q op x y dq kq h g).height;
  signs = (combined_formed m n d k q op x y dq kq h g).signs;
  itself = same;
  timely = by_timed IsTimely (combined op x y) _ (fold_combined timed_step op x y)
      (joined_timely op (combined op (timed x).expr (timed y).expr) (timed x) (timed y) y g.itself h.timely g.timely
      (λ l. subst (λ e. IsTimely (record { whole = e; part = y })) (sym (ap₂ (combined op) h.itself g.itself)) (f l)));
}
  where
    same : (timed (combined op x y)).expr ≡ combined op x y
    same = ap (λ (c : Timed). c.expr) (fold_combined timed_step op x y) ∙ ap₂ (combined op) h.itself g.itself

pub chosen_plain : (l m n q : ℕ) (c x y : Pure) → l ≤ q → m ≤ q → n ≤ q → Plain l l c → Plain m m x → Plain n n y → divides x ≡ false → divides y ≡ false → Plain (l + m + n + 1) (q + 1) (chosen c x y)
unfolding chosen roll-Pure denote.Hole.Carrier.roll
chosen_plain l m n q c x y lq mq nq f h g dx dy = record {
  size = omega (arith, fold_chosen nodes_step c x y, f.size, h.size, g.size);
  height = omega (arith, fold_chosen levels_step c x y, larger_at_most (levels c) (larger (levels x) (levels y)) q (omega (arith, f.height)) (larger_at_most (levels x) (levels y) q (omega (arith, h.height)) (omega (arith, g.height))));
  signs = rw (fold_chosen numbers_step c x y) (both_all IsUnsigned (numbers c ++ numbers x) (numbers y) (both_all IsUnsigned (numbers c) (numbers x) f.signs h.signs) g.signs);
  itself = ap (λ (t : Timed). t.expr) (fold_chosen timed_step c x y) ∙ (ap (λ e. chosen e (timed x).expr (timed y).expr) f.itself ∙ ap₂ (chosen c) h.itself g.itself);
  timely = by_timed IsTimely (chosen c x y) _ (fold_chosen timed_step c x y)
      (both_all IsTimely ((timed c).late ++ (timed x).late ++ (timed y).late) _
      (both_all IsTimely ((timed c).late ++ (timed x).late) (timed y).late (both_all IsTimely (timed c).late (timed x).late f.timely h.timely) g.timely)
      (ap divides h.itself ∙ dx, (ap divides g.itself ∙ dy, tt)));
}

-- ---- checks

whole : (low high : Pure) → (timed low).expr ≡ low → (timed high).expr ≡ high → roll-Pure (pure.Bin binary.Land (timed low).expr (timed high).expr) ≡ combined binary.Land low high
unfolding combined roll-Pure denote.Hole.Carrier.roll
whole low high a b = ap₂ (λ c d. roll-Pure (pure.Bin binary.Land c d)) a b

pub range_asserted : (m : ℕ) (x : Pure) (len : ℕ) → Plain m m x → Asserted (m + m + 5) (m + 3) (is_in_range x len)
range_asserted m x len h =
    let low : Pure = combined binary.Le (constant (pos 0)) x in
    let high : Pure = combined binary.Lt x (constant (pos len)) in
    let a = combined_plain 1 m 1 m (m + 1) binary.Le (constant (pos 0)) x (omega arith) (omega arith) (constant_plain 0) h (λ l. false_is_not l) in
    let b = combined_plain m 1 m 1 (m + 1) binary.Lt x (constant (pos len)) (omega arith) (omega arith) h (constant_plain len) (λ l. false_is_not l) in
    let f = combined_formed (1 + m + 1) (m + 1 + 1) (m + 1 + 1) (m + 1 + 1) (m + 1 + 1) binary.Land low high (omega arith) (omega arith) a b in
    let e : Pure = is_in_range x len in
    record {
      size = (let k = f.size in omega (arith, k));
      height = (let k = f.height in omega (arith, k));
      signs = f.signs;
      alone = by_timed (IsAlone e) e _ (fold_combined timed_step binary.Land low high)
          (both_all (IsAlone e) ((timed low).late ++ (timed high).late) _
          (both_all (IsAlone e) (timed low).late (timed high).late (all_timely e (timed low).late a.timely) (all_timely e (timed high).late b.timely))
          (inr (whole low high a.itself b.itself, (x, len, refl)), tt));
    }

pub not_zero_plain : (m : ℕ) (x : Pure) → Plain m m x → Plain (m + 2) (m + 2) (is_not_zero x)
not_zero_plain m x h =
    plain_up (m + 1 + 1) (m + 2) (m + 1 + 1) (m + 2) (is_not_zero x) (omega arith) (omega arith)
    (combined_plain m 1 m 1 (m + 1) binary.Ne x (constant (pos 0)) (omega arith) (omega arith) h (constant_plain 0) (λ l. false_is_not l))

-- ---- what does not divide

pub or_false : (a b : Bool) → a ≡ false → b ≡ false → (a || b) ≡ false
or_false true b e f = e
or_false false b e f = f

pub constant_whole : (n : ℕ) → divides (constant (pos n)) ≡ false
constant_whole n = fold_constant divides_step (pos n)

pub local_whole : (l : ℕ) → divides (the_local l) ≡ false
local_whole l = fold_local divides_step l

pub address_whole : (c : ℕ) → divides (address c) ≡ false
address_whole c = fold_address divides_step c

pub applied_whole : (op : Unary) (x : Pure) → divides x ≡ false → divides (applied op x) ≡ false
applied_whole op x h = fold_applied divides_step op x ∙ h

pub combined_whole : (op : Binary) (x y : Pure) → is_division op ≡ false → divides x ≡ false → divides y ≡ false → divides (combined op x y) ≡ false
combined_whole op x y e h g = fold_combined divides_step op x y ∙ or_false (is_division op || divides x) (divides y) (or_false (is_division op) (divides x) e h) g

pub chosen_whole : (c x y : Pure) → divides c ≡ false → divides x ≡ false → divides y ≡ false → divides (chosen c x y) ≡ false
chosen_whole c x y f h g = fold_chosen divides_step c x y ∙ or_false (divides c || divides x) (divides y) (or_false (divides c) (divides x) f h) g
