use Rattle.std.proofs.Common.{◌≡◌, ℕ, Bool, List}
use Rattle.std.proofs.lemmas.Slice.Eq.{bytes_eq-Decides}
use Rattle.std.specs.Prelude.{◌↔◌, IsTrue}
use Rattle.std.specs.Str.{bytes_eq}
use Rattle.mm_delay.proofs.moved.are_same.Goals as goal

same_texts : (r : Bool) (x y a b : List ℕ) → r ≡ bytes_eq x y → x ≡ a → y ≡ b → IsTrue r ↔ (a ≡ b)
same_texts r x y a b e p q = rw e (rw p (rw q (bytes_eq-Decides a b)))

pub returns : goal.returns
returns c = same_texts _ _ _ _ _ c.eq.ensures c.text.ensures c.text-2.ensures
