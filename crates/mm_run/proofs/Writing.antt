-- What has been written so far.
use Rattle.std.proofs.Common.{◌≡◌, ℕ, ◌<◌, List, [], ◌++◌, length, take, drop, Option, Some, None, refl, sym, ◌∙◌, ap, append_assoc, append-nil}
use Rattle.std.specs.Io.KnownBytes.{Appends, Keeps}
use Rattle.std.proofs.lemmas.List.{take-append-drop}
use Rattle.mm_run.specs.Output.{AppendsPart}

-- a part of the text was written, and the rest is still to be
pub record Writes (old now : Option (List ℕ)) (text rest : List ℕ) : Type 0 where
  pub part : List ℕ
  pub whole : text ≡ part ++ rest
  pub written : Appends old now part

appends_none : (x : Option (List ℕ)) → Appends x x []
appends_none None = tt
appends_none (Some xs) = sym (append-nil xs)

pub none_written : (x : Option (List ℕ)) (text : List ℕ) → Writes x x text text
none_written x text = record { part = []; whole = refl; written = appends_none x }

appends_both : (x y z : Option (List ℕ)) (a b : List ℕ) → Appends x y a → Appends y z b → Appends x z (a ++ b)
appends_both None y z a b h k = tt
appends_both (Some xs) None z a b h k = absurd h
appends_both (Some xs) (Some ys) None a b h k = absurd k
appends_both (Some xs) (Some ys) (Some zs) a b h k = k ∙ ap (λ t. t ++ b) h ∙ append_assoc xs a b

pub more_written : (x y z : Option (List ℕ)) (text rest behind : List ℕ) (n : ℕ) → Writes x y text rest → Appends y z (take n rest) → behind ≡ drop n rest → Writes x z text behind
more_written x y z text rest behind n w a e = record {
  part = w.part ++ take n rest;
  whole = w.whole ∙ ap (λ t. w.part ++ t) (sym (take-append-drop n rest)) ∙ sym (append_assoc w.part (take n rest) (drop n rest)) ∙ ap (λ t. (w.part ++ take n rest) ++ t) (sym e);
  written = appends_both x y z w.part (take n rest) w.written a;
}

pub all_written : (x y : Option (List ℕ)) (text rest : List ℕ) → Writes x y text rest → rest ≡ [] → Appends x y text
all_written x y text rest w e = let t : text ≡ w.part = w.whole ∙ ap (λ r. w.part ++ r) e ∙ append-nil w.part in rw t w.written

keeps_appends : (x y z : Option (List ℕ)) (a : List ℕ) → Appends x y a → Keeps y z → Appends x z a
keeps_appends None y z a h k = tt
keeps_appends (Some xs) None z a h k = absurd h
keeps_appends (Some xs) (Some ys) None a h k = absurd k
keeps_appends (Some xs) (Some ys) (Some zs) a h k = k ∙ h

pub part_written : (x y z : Option (List ℕ)) (text rest : List ℕ) → Writes x y text rest → Keeps y z → 0 < length rest → AppendsPart x z text
part_written x y z text rest w k l = record { part = w.part; lacking = rest; whole = w.whole; proper = l; written = keeps_appends x y z w.part w.written k }
