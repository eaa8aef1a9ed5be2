-- Which characters are of which class.
use Rattle.std.proofs.Common.{◌≡◌, ℕ, ◌<◌, ◌≤◌, Bool, true, false, not, ◌&&◌, ◌||◌, ◌==◌, nat_lt, List, [], ◌∷◌, ◌++◌, refl, ◌∙◌, ap, arith}
use Rattle.std.specs.Char.{is_ascii_alphabetic, is_ascii_alphanumeric, is_ascii_digit, is_digit, digit_value}
use Rattle.std.specs.List.{list_all}
use Rattle.std.specs.Str.{encode_utf8_all}
use Rattle.std.proofs.lemmas.Str.{encode_ascii}
use Rattle.std.proofs.lemmas.Bool.{and_parts, ltb-true}
use Rattle.std.proofs.lemmas.Bool.Decides.{nat_tests}
use Rattle.unicode_ident.proofs.IdentLemmas.{is_xid_start-ascii, is_xid_continue-ascii}
use Rattle.mm_lexer.specs.declared.class.Base.{Base}
use Rattle.mm_lexer.specs.declared.class.Base.TheVariants.{Octal, Decimal, Hexadecimal}
use Rattle.mm_goto.specs.Names.{is_name, is_name_start, is_name_char}
use Rattle.mm_lexer.specs.Class.{is_space, is_text_char, radix}
use Rattle.mm_lexer.specs.Marks.{is_one_of, singles, is_single}

-- ---- below 128

pub name_start-ascii : (c : ℕ) → c < 128 → is_name_start c ≡ ((c == 95) || is_ascii_alphabetic c)
name_start-ascii c h = ap (λ b. (c == 95) || b) (is_xid_start-ascii c h)

pub name_char-ascii : (c : ℕ) → c < 128 → is_name_char c ≡ ((c == 95) || (is_ascii_alphanumeric c || (c == 95)))
name_char-ascii c h = ap (λ b. (c == 95) || b) (is_xid_continue-ascii c h)

-- ---- what begins a name is no space, and what begins a number begins no name

space_small : (c : ℕ) → is_space c ≡ true → c < 128
space_small c h = grind (arith, nat_tests)

space_start : (c : ℕ) → is_space c ≡ true → ((c == 95) || is_ascii_alphabetic c) ≡ false
space_start c h = grind (arith, nat_tests)

pub start_space : (c : ℕ) → is_name_start c ≡ true → is_space c ≡ false
start_space c h = by_test (is_space c) refl
  where
    by_test : (b : Bool) → is_space c ≡ b → is_space c ≡ false
    by_test false e = e
    by_test true e = let f : is_name_start c ≡ false = name_start-ascii c (space_small c e) ∙ space_start c e in cc

digit_small : (c : ℕ) → is_ascii_digit c ≡ true → c < 128
digit_small c h = grind (arith, nat_tests)

digit_start : (c : ℕ) → is_ascii_digit c ≡ true → ((c == 95) || is_ascii_alphabetic c) ≡ false
digit_start c h = grind (arith, nat_tests)

pub digit_space : (c : ℕ) → is_ascii_digit c ≡ true → is_space c ≡ false
digit_space c h = grind (arith, nat_tests)

pub digit_name_start : (c : ℕ) → is_ascii_digit c ≡ true → is_name_start c ≡ false
digit_name_start c h = name_start-ascii c (digit_small c h) ∙ digit_start c h

-- ---- digits go on with a name

value_small : (c : ℕ) → digit_value c < 16 → c < 128
value_small c h = grind (arith, nat_tests)

value_name : (c : ℕ) → digit_value c < 16 → ((c == 95) || (is_ascii_alphanumeric c || (c == 95))) ≡ true
value_name c h = grind (arith, nat_tests)

radix_small : (base : Base) → radix base ≤ 16
radix_small Octal = omega arith
radix_small Decimal = omega arith
radix_small Hexadecimal = omega arith

-- ---- marks

passes : (test : ℕ → Bool) (cs : List ℕ) (c : ℕ) → is_one_of cs c ≡ true → list_all test cs ≡ true → test c ≡ true
passes test [] c h k = cc
passes test (d ∷ ds) c h k = by_test (λ i. passes test ds c i (and_parts _ _ k).1) (c == d) refl h
  where
    by_test : (is_one_of ds c ≡ true → test c ≡ true) → (b : Bool) → (c == d) ≡ b → (b || is_one_of ds c) ≡ true → test c ≡ true
    by_test others true e i = let f : c ≡ d = grind (arith, nat_tests) in ap test f ∙ (and_parts _ _ k).0
    by_test others false e i = others i

-- what begins a mark begins nothing else
abbrev is_mark_alone : ℕ → Bool
is_mark_alone c = (nat_lt c 128 && not (is_space c)) && ((not ((c == 95) || is_ascii_alphabetic c) && not (is_ascii_digit c)) && (not (c == 34) && not (c == 35)))

mark_alone : (c : ℕ) → is_single c ≡ true → is_mark_alone c ≡ true
mark_alone c h = passes is_mark_alone singles c h refl

-- a character that begins a mark begins no other token
pub record IsMarkAlone (c : ℕ) : Type 0 where
  pub space : is_space c ≡ false
  pub name : is_name_start c ≡ false
  pub digit : is_ascii_digit c ≡ false
  pub quote : (c == 34) ≡ false
  pub hash : (c == 35) ≡ false

pub mark_is_alone : (c : ℕ) → is_single c ≡ true → IsMarkAlone c
mark_is_alone c h =
    let t = mark_alone c h in
    let small : c < 128 = grind (arith, nat_tests) in
    record {
      space = grind (arith, nat_tests);
      name = name_start-ascii c small ∙ grind (arith, nat_tests);
      digit = grind (arith, nat_tests);
      quote = grind (arith, nat_tests);
      hash = grind (arith, nat_tests);
    }

-- a digit of a number may go on with a name
pub digit_name : (base : Base) (c : ℕ) → is_digit c (radix base) ≡ true → is_name_char c ≡ true
digit_name base c h =
    let small : digit_value c < 16 = below (digit_value c) (radix base) (radix_small base) h in
    name_char-ascii c (value_small c small) ∙ value_name c small
  where
    below : (v r : ℕ) → r ≤ 16 → nat_lt v r ≡ true → v < 16
    below v r k h = grind (arith, nat_tests)

-- ---- ASCII, by tests that compute

abbrev pub is_ascii : ℕ → Bool
is_ascii c = nat_lt c 128

abbrev pub is_ascii_name_start : ℕ → Bool
is_ascii_name_start c = (c == 95) || is_ascii_alphabetic c

abbrev pub is_ascii_name_char : ℕ → Bool
is_ascii_name_char c = (c == 95) || is_ascii_alphanumeric c

-- an ASCII character with which no name goes on
abbrev pub is_ascii_stop : ℕ → Bool
is_ascii_stop c = is_ascii c && not (is_ascii_name_char c)

abbrev pub is_ascii_name : List ℕ → Bool
is_ascii_name [] = false
is_ascii_name (c ∷ cs) = is_ascii_name_start c && list_all is_ascii_name_char cs

pub stops_name : (c : ℕ) → is_ascii_stop c ≡ true → is_name_char c ≡ false
stops_name c h =
    let small : c < 128 = grind (arith, nat_tests) in
    let other : ((c == 95) || (is_ascii_alphanumeric c || (c == 95))) ≡ false = grind (arith, nat_tests) in
    name_char-ascii c small ∙ other

start_ascii : (c : ℕ) → is_ascii_name_start c ≡ true → is_name_start c ≡ true
start_ascii c h = let small : c < 128 = grind (arith, nat_tests) in name_start-ascii c small ∙ h

char_ascii : (c : ℕ) → is_ascii_name_char c ≡ true → is_name_char c ≡ true
char_ascii c h =
    let small : c < 128 = grind (arith, nat_tests) in
    let own : ((c == 95) || (is_ascii_alphanumeric c || (c == 95))) ≡ true = grind (arith, nat_tests) in
    name_char-ascii c small ∙ own

-- a test that implies another, on each character
pub each : (p q : ℕ → Bool) → ((c : ℕ) → p c ≡ true → q c ≡ true) → (cs : List ℕ) → list_all p cs ≡ true → list_all q cs ≡ true
each p q f [] h = refl
each p q f (c ∷ cs) h = let b = and_parts (p c) (list_all p cs) h in rw (f c b.0, each p q f cs b.1) refl

pub name_from_ascii : (word : List ℕ) → is_ascii_name word ≡ true → is_name word ≡ true
name_from_ascii [] h = h
name_from_ascii (c ∷ cs) h =
    let b = and_parts (is_ascii_name_start c) (list_all is_ascii_name_char cs) h in
    rw (start_ascii c b.0, each is_ascii_name_char is_name_char char_ascii cs b.1) refl

-- a word of ASCII is its bytes
pub encodes_ascii : (word : List ℕ) → list_all is_ascii word ≡ true → encode_utf8_all word ≡ word
encodes_ascii [] h = refl
encodes_ascii (c ∷ cs) h =
    let b = and_parts (is_ascii c) (list_all is_ascii cs) h in
    let small : c < 128 = ltb-true c 128 b.0 in
    ap (λ bs. bs ++ encode_utf8_all cs) (encode_ascii c small) ∙ ap (λ bs. c ∷ bs) (encodes_ascii cs b.1)

pub name_is_ascii : (word : List ℕ) → is_ascii_name word ≡ true → list_all is_ascii word ≡ true
name_is_ascii [] h = refl
name_is_ascii (c ∷ cs) h =
    let b = and_parts (is_ascii_name_start c) (list_all is_ascii_name_char cs) h in
    rw (first c b.0, each is_ascii_name_char is_ascii other cs b.1) refl
  where
    first : (d : ℕ) → is_ascii_name_start d ≡ true → is_ascii d ≡ true
    first d h = grind (arith, nat_tests)

    other : (d : ℕ) → is_ascii_name_char d ≡ true → is_ascii d ≡ true
    other d h = grind (arith, nat_tests)

pub text_is_ascii : (c : ℕ) → is_text_char c ≡ true → is_ascii c ≡ true
text_is_ascii c h = grind (arith, nat_tests)
