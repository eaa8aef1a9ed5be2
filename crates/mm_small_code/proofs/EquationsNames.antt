-- The names of the relation are those of the equations.
use Rattle.std.proofs.Common.{◌≡◌, ℕ, ◌+◌, Bool, true, false, cond, ◌||◌, List, [], ◌∷◌, ◌++◌, reverse, find, Option, Some, None, option_map, refl, sym, ◌∙◌, ap}
use Rattle.std.specs.List.{position_from, list_any}
use Rattle.std.specs.Str.{bytes_eq}
use Rattle.std.proofs.lemmas.List.{reverse-reverse, reverse-append}
use Rattle.std.proofs.lemmas.Iterator.Adapters.{position_from-zero}
use Rattle.mm_goto.specs.declared.ident.Ident.{Ident}
use Rattle.mm_goto.specs.declared.program.Cell.{Cell}
use Rattle.mm_flow.specs.declared.mentions.Mention.{Mention}
use Rattle.mm_flow.specs.declared.mentions.Mention.TheVariants.{Assertion, Create, Label, Call}
use Rattle.mm_flow.specs.declared.names.Spot.{Spot}
use Rattle.mm_flow.specs.Flow.{later}
use Rattle.mm_flow.specs.Scopes.{named, local_of, spot_of, index_of}
use Rattle.mm_flow.specs.Text.{labels, creates}
use Rattle.mm_flow.specs.Expressions.{the_spot}
use Rattle.mm_small_code.specs.reading.Flattening.{Named, numbered, number_of, cell_named}

-- ---- locals

-- the innermost local stands last in the equations
pub same_local : (ls : List Named) (x : Ident) → local_of (reverse ls) x ≡ number_of ls x
same_local ls x = ap (λ ns. option_map (λ n. n.number) (find (λ n. bytes_eq n.name x) ns)) (reverse-reverse ls)

pub one_more_name : (ls : List Named) (x : Ident) (n : ℕ) → reverse ls ++ named x n ∷ [] ≡ reverse (numbered x n ∷ ls)
one_more_name ls x n = sym (reverse-append (numbered x n ∷ []) ls)

-- ---- cells

-- the globals of these cells, of which the first is cell n
abbrev pub spots_from : ℕ → List Cell → List Spot
spots_from n [] = []
spots_from n (c ∷ cs) = record { name = c.name; first = n; len = 1 } ∷ spots_from (n + 1) cs

found_one : (b : Bool) (s : Spot) (c : ℕ) (o : Option ℕ) (r : Option Spot) → (o ≡ Some c → (the_spot r).first ≡ c) → cond b (Some s.first) o ≡ Some c → (the_spot (cond b (Some s) r)).first ≡ c
found_one true s c o r f h = cc
found_one false s c o r f h = f h

found_from : (x : Ident) (n c : ℕ) (cells : List Cell) → position_from (λ d. bytes_eq d.name x) n cells ≡ Some c → (the_spot (spot_of (spots_from n cells) x)).first ≡ c
found_from x n c [] h = cc
found_from x n c (d ∷ ds) h =
    found_one (bytes_eq d.name x) (record { name = d.name; first = n; len = 1 }) c (position_from (λ d. bytes_eq d.name x) (n + 1) ds) (spot_of (spots_from (n + 1) ds) x) (found_from x (n + 1) c ds) h

pub same_cell : (cells : List Cell) (x : Ident) (c : ℕ) → cell_named cells x ≡ Some c → (the_spot (spot_of (spots_from 0 cells) x)).first ≡ c
same_cell cells x c h = found_from x 0 c cells (sym (position_from-zero (λ d. bytes_eq d.name x) cells) ∙ h)

-- ---- labels

pub later_later : (a b c : Option ℕ) → later (later a b) c ≡ later a (later b c)
later_later a b None = refl
later_later a b (Some n) = refl

pub label_later : (b : Bool) (m : ℕ) (o r : Option ℕ) → later (cond b (Some m) o) r ≡ later o (later (cond b (Some m) None) r)
label_later true m o None = refl
label_later true m o (Some n) = refl
label_later false m o None = refl
label_later false m o (Some n) = refl

number_first : (b : Bool) (n : Named) (o : Option Named) → option_map (λ n. n.number) (cond b (Some n) o) ≡ cond b (Some n.number) (option_map (λ n. n.number) o)
number_first true n o = refl
number_first false n o = refl

pub number_of_more : (ls : List Named) (x y : Ident) (m : ℕ) → number_of (numbered x m ∷ ls) y ≡ cond (bytes_eq x y) (Some m) (number_of ls y)
number_of_more ls x y m = number_first (bytes_eq x y) (numbered x m) (find (λ n. bytes_eq n.name y) ls)

-- none of the mentions is a label of the name
abbrev pub LacksLabel : List Mention → Ident → Type 0
LacksLabel ms y = list_any (λ z. bytes_eq z y) (labels ms) ≡ false

record AreBothFalse (a b : Bool) : Type 0 where
  first : a ≡ false
  second : b ≡ false

both_false : (a b : Bool) → a || b ≡ false → AreBothFalse a b
both_false true b h = cc
both_false false b h = record { first = refl; second = h }

pub record LackBoth (ms ns : List Mention) (y : Ident) : Type 0 where
  pub first : LacksLabel ms y
  pub second : LacksLabel ns y

lack_more : (x y : Ident) (ms ns : List Mention) → bytes_eq x y ≡ false → LackBoth ms ns y → LackBoth (Label x ∷ ms) ns y
lack_more x y ms ns e h = record { first = ap (λ b. b || list_any (λ z. bytes_eq z y) (labels ms)) e ∙ h.first; second = h.second }

pub lack_both : (ms ns : List Mention) (y : Ident) → LacksLabel (ms ++ ns) y → LackBoth ms ns y
lack_both [] ns y h = record { first = refl; second = h }
lack_both (Assertion ∷ ms) ns y h = let r = lack_both ms ns y h in record { first = r.first; second = r.second }
lack_both (Create s ∷ ms) ns y h = let r = lack_both ms ns y h in record { first = r.first; second = r.second }
lack_both (Call f ∷ ms) ns y h = let r = lack_both ms ns y h in record { first = r.first; second = r.second }
lack_both (Label x ∷ ms) ns y h =
    let b = both_false (bytes_eq x y) (list_any (λ z. bytes_eq z y) (labels (ms ++ ns))) h in
    lack_more x y ms ns b.first (lack_both ms ns y b.second)

pub lack_first : (x y : Ident) (ms : List Mention) → LacksLabel (Label x ∷ ms) y → LackBoth (Label x ∷ []) ms y
lack_first x y ms h = lack_both (Label x ∷ []) ms y h

pub lacked : (x y : Ident) → LacksLabel (Label x ∷ []) y → bytes_eq x y ≡ false
lacked x y h = (both_false (bytes_eq x y) false h).first

none_from : (b : Bool) (n : ℕ) (o : Option ℕ) (c : Bool) → (o ≡ None → c ≡ false) → cond b (Some n) o ≡ None → b || c ≡ false
none_from true n o c f h = cc
none_from false n o c f h = f h

lacks_from : (ys : List Ident) (y : Ident) (n : ℕ) → position_from (λ z. bytes_eq z y) n ys ≡ None → list_any (λ z. bytes_eq z y) ys ≡ false
lacks_from [] y n h = refl
lacks_from (z ∷ zs) y n h = none_from (bytes_eq z y) n (position_from (λ z. bytes_eq z y) (n + 1) zs) (list_any (λ z. bytes_eq z y) zs) (lacks_from zs y (n + 1)) h

pub no_index : (ms : List Mention) (y : Ident) → index_of (labels ms) y ≡ None → LacksLabel ms y
no_index ms y h = lacks_from (labels ms) y 0 (sym (position_from-zero (λ z. bytes_eq z y) (labels ms)) ∙ h)

pub creates-append : (ms ns : List Mention) → creates ms ≡ [] → creates ns ≡ [] → creates (ms ++ ns) ≡ []
creates-append [] ns h g = g
creates-append (Assertion ∷ ms) ns h g = creates-append ms ns h g
creates-append (Create s ∷ ms) ns h g = cc
creates-append (Call f ∷ ms) ns h g = creates-append ms ns h g
creates-append (Label x ∷ ms) ns h g = creates-append ms ns h g
