use Rattle.std.proofs.Common.{◌≡◌, ◌+◌, ◌*◌, ◌≤◌, ◌<◌, true, sym, ◌∙◌, arith, rules}
use Rattle.std.specs.Str.{chars}
use Rattle.std.specs.Char.{digit_value}
use Rattle.mm_lexer.specs.declared.class.Class.TheVariants.{Digit}
use Rattle.mm_lexer.specs.Class.{is_in, radix}
use Rattle.mm_lexer.specs.Piece.{value_of}
use Rattle.mm_lexer.proofs.Numbers.{too_large, digit_more}
use Rattle.mm_lexer.proofs.piece.value_of.Goals as goal

pub returns-then-value-gt2147483647 : goal.returns-then-value-gt2147483647
returns-then-value-gt2147483647 c =
    let e = rw c.in-Some.ensures.cases at c.loop-c.invariant.value in
    let digit : is_in (Digit c.args.base) c.in-Some.c ≡ true = sym c.if-not-is_in.ensures in
    let least : c.loop-c.value * radix c.args.base + digit_value c.in-Some.c ≤ value_of c.args.base (chars c.args.digits.now) = too_large c.args.base c.loop-c.value c.in-Some.c (chars c.in-Some.behind.now) (value_of c.args.base (chars c.args.digits.now)) digit e in
    let large : 2147483647 < c.loop-c.value * radix c.args.base + digit_value c.in-Some.c = rw (← c.radix.ensures.value, ← c.digit_of.ensures.value) c.if-value-gt2147483647.true in
    λ small. omega (arith, least, large, small)

pub loop-c-preserved : goal.loop-c-preserved
loop-c-preserved c =
    let e = rw c.in-Some.ensures.cases at c.loop-c.invariant.value in
    let digit : is_in (Digit c.args.base) c.in-Some.c ≡ true = sym c.if-not-is_in.ensures in
    record {
      value = rw (c.radix.ensures.value, c.digit_of.ensures.value) (sym (digit_more c.args.base c.loop-c.value c.in-Some.c (chars c.in-Some.behind.now) digit) ∙ e);
      small = c.if-value-gt2147483647.false;
      text = search rules;
    }
