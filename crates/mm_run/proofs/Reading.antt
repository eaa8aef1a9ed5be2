-- What has been read so far.
use Rattle.std.proofs.Common.{◌≡◌, ℕ, ◌+◌, ◌≤◌, ◌<◌, List, [], ◌++◌, length, Option, Some, None, refl, sym, ◌∙◌, ap, arith, append_assoc, length-append}
use Rattle.std.specs.Io.KnownBytes.{Consumes}
use Rattle.mm_run.specs.Input.{AddsPiece, IsWhole, IsTooLong}

pub consumes_none : (x : Option (List ℕ)) (bs : List ℕ) → bs ≡ [] → Consumes x x bs
consumes_none None bs e = tt
consumes_none (Some xs) bs e = rw e refl

consumes_both : (x y z : Option (List ℕ)) (a b : List ℕ) → Consumes x y a → Consumes y z b → Consumes x z (a ++ b)
consumes_both None y z a b h k = tt
consumes_both (Some xs) None z a b h k = absurd h
consumes_both (Some xs) (Some ys) None a b h k = absurd k
consumes_both (Some xs) (Some ys) (Some zs) a b h k = h ∙ ap (λ t. a ++ t) k ∙ sym (append_assoc a b zs)

pub more_read : (x y z : Option (List ℕ)) (before after : List ℕ) (most n : ℕ) → Consumes x y before → AddsPiece y z before after most n → Consumes x z after
more_read x y z before after most n h p = let e = p.added in rw e (consumes_both x y z before p.piece h p.read)

pub length_read : (y z : Option (List ℕ)) (before after : List ℕ) (most n : ℕ) → AddsPiece y z before after most n → length after ≡ length before + n
length_read y z before after most n p = ap length p.added ∙ simp length-append (omega (arith, p.count))

pub whole_at_end : (x y z : Option (List ℕ)) (before after : List ℕ) (most n : ℕ) → Consumes x y before → AddsPiece y z before after most n → n ≡ 0 → length before ≤ 16777216 → IsWhole x z after
whole_at_end x y z before after most n h p e l = record { read = more_read x y z before after most n h p; end = p.end e; within = omega (arith, length_read y z before after most n p, e, l) }

pub too_long : (x y : Option (List ℕ)) (bytes : List ℕ) → Consumes x y bytes → 16777216 < length bytes → length bytes ≤ 16777217 → IsTooLong x y
too_long x y bytes h a b = record { bytes = bytes; read = h; long = omega arith }
