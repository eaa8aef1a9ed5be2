-- What the left sides and values of the grammar are like: their phrases are short, and their numbers are ints.
use Rattle.std.proofs.Common.{arith, subst, sym, ℕ, ℤ, pos, ◌+◌, ◌≤◌, List, [], ◌∷◌, ◌++◌, map}
use Rattle.std.specs.List.{AllByRecursion}
use Rattle.mm_goto.specs.Valid.{IsInt}
use Rattle.mm_tree.specs.declared.expr.Expr.{Expr}
use Rattle.mm_tree.specs.declared.stmt.Left.{Left}
use Rattle.mm_tree.specs.declared.stmt.Value.{Value}
use Rattle.mm_parse_expr.specs.declared.terminal.Terminal.{Terminal}
use Rattle.mm_grammar.specs.StatementGrammar as g
use Rattle.mm_grammar.specs.StatementGrammar.{IsLeft, IsArguments, IsCall, IsValue}
use Rattle.mm_sourcelike.specs.Ints.{numbers_of, all_numbers, of_value, of_left}
use Rattle.mm_sourcelike.specs.Grammatical.{alone, IsPhrase, IsUnsigned, left_phrases, value_phrases}
use Rattle.mm_sourcelike.proofs.TextStreams.{IsLiteral, Stream, within}
use Rattle.mm_sourcelike.proofs.TextExpressions.{both, Spelled, expr_read, unary_read}

all_are : {X : Type 0} (P Q : X → Type 0) → ((x : X) → P x → Q x) → (xs : List X) → AllByRecursion P xs → AllByRecursion Q xs
all_are P Q h [] a = tt
all_are P Q h (x ∷ xs) a = (h x a.0, all_are P Q h xs a.1)

pub literal_int : (z : ℤ) → IsLiteral z → IsInt z
literal_int z l = subst IsInt (sym l.1) (literal l.0 l.2)
  where
    literal : (k : ℕ) → k ≤ 2147483647 → IsInt (pos k)
    literal k h = omega (arith, h)

literal_unsigned : (z : ℤ) → IsLiteral z → IsUnsigned z
literal_unsigned z l = (l.0, l.1)

pub spelled_ints : {n after : ℕ} (e : Expr) → Spelled n after e → AllByRecursion IsInt (numbers_of e)
spelled_ints e is = all_are IsLiteral IsInt literal_int (numbers_of e) is.numbers

pub spelled_unsigned : {n after : ℕ} (e : Expr) → Spelled n after e → AllByRecursion IsUnsigned (numbers_of e)
spelled_unsigned e is = all_are IsLiteral IsUnsigned literal_unsigned (numbers_of e) is.numbers

module _ (most : ℕ) where
  pub phrase_alone : {n after : ℕ} (e : Expr) → Spelled n after e → after ≤ most → IsPhrase most (alone e)
  phrase_alone e is l = record { short = omega (arith, is.tokens, l); numbers = spelled_unsigned e is; update = tt }

  -- ---- left sides

  pub record LeftRead (l : Left) (rest : List Terminal) : Type 0 where
    pub after : ℕ
    pub stream : Stream most after rest
    pub phrases : AllByRecursion (IsPhrase most) (left_phrases l.node)
    pub ints : AllByRecursion IsInt (of_left l.node)

  pub left_read : {ts : List Terminal} {l : Left} {rest : List Terminal} → IsLeft ts l rest → (n : ℕ) → Stream most n ts → LeftRead l rest
  left_read g.name n s = record { after = n + 1; stream = s.2; phrases = tt; ints = tt }
  left_read (g.element {e = e} d) n s =
      let x = expr_read most d (n + 1 + 1) s.2.2 in
      record {
        after = x.after + 1;
        stream = x.stream.2;
        phrases = (phrase_alone e x.is x.stream.0, tt);
        ints = spelled_ints e x.is;
      }
  left_read {rest = rest} (g.pointee {e = e} d) n s =
      let x = unary_read most d (n + 1) s.2 in
      record {
        after = x.after;
        stream = x.stream;
        phrases = (phrase_alone e x.is (within most x.after rest x.stream), tt);
        ints = spelled_ints e x.is;
      }
  left_read (g.group d) n s =
      let x = left_read d (n + 1) s.2 in
      record { after = x.after + 1; stream = x.stream.2; phrases = x.phrases; ints = x.ints }

  -- ---- values

  pub record ArgumentsRead (es : List Expr) (rest : List Terminal) : Type 0 where
    pub after : ℕ
    pub stream : Stream most after rest
    pub phrases : AllByRecursion (IsPhrase most) (map alone es)
    pub ints : AllByRecursion IsInt (all_numbers es)

  arguments_read : {ts : List Terminal} {es : List Expr} {rest : List Terminal} → IsArguments ts es rest → (n : ℕ) → Stream most n ts → ArgumentsRead es rest
  arguments_read {rest = rest} (g.last_argument {e = e} d) n s =
      let x = expr_read most d n s in
      record {
        after = x.after;
        stream = x.stream;
        phrases = (phrase_alone e x.is (within most x.after rest x.stream), tt);
        ints = both IsInt (numbers_of e) [] (spelled_ints e x.is) tt;
      }
  arguments_read (g.more_arguments {e = e} {es = es} d m) n s =
      let x = expr_read most d n s in
      let y = arguments_read m 0 x.stream.2 in
      record {
        after = y.after;
        stream = y.stream;
        phrases = (phrase_alone e x.is x.stream.0, y.phrases);
        ints = both IsInt (numbers_of e) (all_numbers es) (spelled_ints e x.is) y.ints;
      }

  -- a value
  pub record ValueRead (v : Value) (rest : List Terminal) : Type 0 where
    pub after : ℕ
    pub stream : Stream most after rest
    pub phrases : AllByRecursion (IsPhrase most) (value_phrases v)
    pub ints : AllByRecursion IsInt (of_value v)

  pub call_read : {ts : List Terminal} {v : Value} {rest : List Terminal} → IsCall ts v rest → (n : ℕ) → Stream most n ts → ValueRead v rest
  call_read g.bare_call n s = record { after = n + 1 + 1 + 1; stream = s.2.2.2; phrases = tt; ints = tt }
  call_read (g.full_call d) n s =
      let x = arguments_read d (n + 1 + 1) s.2.2 in
      record { after = x.after + 1; stream = x.stream.2; phrases = x.phrases; ints = x.ints }
  call_read (g.fetch_add {a = a} {e = e} d f) n s =
      let x = expr_read most d (n + 1 + 1) s.2.2 in
      let y = expr_read most f 0 x.stream.2 in
      let phrases : AllByRecursion (IsPhrase most) (alone a ∷ alone e ∷ []) = (phrase_alone a x.is x.stream.0, (phrase_alone e y.is y.stream.0, tt)) in
      record {
        after = y.after + 1;
        stream = y.stream.2;
        phrases = phrases;
        ints = both IsInt (numbers_of a) (numbers_of e) (spelled_ints a x.is) (spelled_ints e y.is);
      }
  call_read (g.compare_swap {a = a} {e = e} {f = b} d f h) n s =
      let x = expr_read most d (n + 1 + 1) s.2.2 in
      let y = expr_read most f 0 x.stream.2 in
      let z = expr_read most h 0 y.stream.2 in
      let phrases : AllByRecursion (IsPhrase most) (alone a ∷ alone e ∷ alone b ∷ []) = (phrase_alone a x.is x.stream.0, (phrase_alone e y.is y.stream.0, (phrase_alone b z.is z.stream.0, tt))) in
      record {
        after = z.after + 1;
        stream = z.stream.2;
        phrases = phrases;
        ints = both IsInt (numbers_of a) (numbers_of e ++ numbers_of b) (spelled_ints a x.is) (both IsInt (numbers_of e) (numbers_of b) (spelled_ints e y.is) (spelled_ints b z.is));
      }

  pub value_read : {ts : List Terminal} {v : Value} {rest : List Terminal} → IsValue ts v rest → (n : ℕ) → Stream most n ts → ValueRead v rest
  value_read {rest = rest} (g.plain {e = e} d) n s =
      let x = expr_read most d n s in
      let l : x.after ≤ most = within most x.after rest x.stream in
      record {
        after = x.after;
        stream = x.stream;
        phrases = (phrase_alone e x.is l, tt);
        ints = spelled_ints e x.is;
      }
  value_read (g.called d) n s = call_read d n s
