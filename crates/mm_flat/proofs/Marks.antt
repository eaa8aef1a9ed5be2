-- Which places the labels of a flow get.
use Rattle.std.proofs.Common.{arith, ◌≡◌, ℕ, suc, ◌+◌, ◌-◌, ◌<◌, ◌≤◌, List, [], ◌∷◌, ◌++◌, length, set, refl, ◌∙◌, sym, ap, append_assoc, Option, Some, None, position, option_map}
use Rattle.std.specs.Str.{bytes_eq}
use Rattle.std.proofs.lemmas.List.{append-nil, length-append, length-set, set-append_left, set-append_right}
use Rattle.std.proofs.lemmas.List.Quantifiers.{position-Some}
use Rattle.mm_goto.specs.declared.ident.Ident.{Ident}
use Rattle.mm_flow.specs.declared.assembler.Exits.{Exits}
use Rattle.mm_flow.specs.declared.assembler.Piece.TheVariants as piece
use Rattle.mm_flow.specs.Flow.{Flow, Empty, Do, Then, When, Either, While, DoWhile, For, Body, Leave, Mark, Goto, size}
use Rattle.mm_flow.specs.reading.Emission.{Made, emit, put, labelled, marked, mark, reserved, within_loop, within_body}
use Rattle.mm_flow.proofs.Grows.{emit_size, reserved_pieces}

abbrev pub set_some : Option ℕ → ℕ → ℕ → List ℕ → List ℕ
set_some None b k ms = ms
set_some (Some i) b k ms = set ms (b + i) k

-- the places that a flow's own labels give those of the body it stands in, whose first label is b
abbrev pub sets : List Ident → ℕ → Flow → ℕ → List ℕ → List ℕ
sets ns b Empty k ms = ms
sets ns b (Do at i) k ms = ms
sets ns b (Then a c) k ms = sets ns b c (k + size a) (sets ns b a k ms)
sets ns b (When at e a) k ms = sets ns b a (k + 1) ms
sets ns b (Either at e a c) k ms = sets ns b c (k + 1 + size a + 1) (sets ns b a (k + 1) ms)
sets ns b (While at c e a) k ms = sets ns b a (k + size c + 1) (sets ns b c k ms)
sets ns b (DoWhile at a c e) k ms = sets ns b c (k + size a) (sets ns b a k ms)
sets ns b (For at c e a j) k ms = sets ns b j (k + size c + 1 + size a) (sets ns b a (k + size c + 1) (sets ns b c k ms))
sets ns b (Body names a) k ms = ms
sets ns b (Leave at w) k ms = ms
sets ns b (Mark y) k ms = set_some (position (λ z. bytes_eq z y) ns) b k ms
sets ns b (Goto at y) k ms = ms

abbrev pub zeros : List Ident → List ℕ
zeros [] = []
zeros (y ∷ ys) = 0 ∷ zeros ys

-- the places of the labels that a flow takes, in their order
abbrev pub table : Flow → ℕ → List ℕ
table Empty k = []
table (Do at i) k = []
table (Then a b) k = table a k ++ table b (k + size a)
table (When at e a) k = (k + 1 + size a) ∷ table a (k + 1)
table (Either at e a b) k = (k + 1 + size a + 1) ∷ ((k + 1 + size a + 1 + size b) ∷ (table a (k + 1) ++ table b (k + 1 + size a + 1)))
table (While at c e a) k = k ∷ ((k + size c + 1 + size a + 1) ∷ (table c k ++ table a (k + size c + 1)))
table (DoWhile at a c e) k = k ∷ ((k + size a) ∷ ((k + size a + size c + 2) ∷ (table a k ++ table c (k + size a))))
table (For at c e a j) k = k ∷ ((k + size c + 1 + size a) ∷ ((k + size c + 1 + size a + size j + 1) ∷ (table c k ++ (table a (k + size c + 1) ++ table j (k + size c + 1 + size a)))))
table (Body names a) k = (k + size a) ∷ (sets names 0 a k (zeros names) ++ table a k)
table (Leave at w) k = []
table (Mark y) k = []
table (Goto at y) k = []

some_length : (o : Option ℕ) (b k : ℕ) (ms : List ℕ) → length (set_some o b k ms) ≡ length ms
some_length None b k ms = refl
some_length (Some i) b k ms = length-set ms (b + i) k

pub sets_length : (ns : List Ident) (b : ℕ) (f : Flow) (k : ℕ) (ms : List ℕ) → length (sets ns b f k ms) ≡ length ms
sets_length ns b Empty k ms = refl
sets_length ns b (Do at i) k ms = refl
sets_length ns b (Then a c) k ms = sets_length ns b c (k + size a) (sets ns b a k ms) ∙ sets_length ns b a k ms
sets_length ns b (When at e a) k ms = sets_length ns b a (k + 1) ms
sets_length ns b (Either at e a c) k ms = sets_length ns b c (k + 1 + size a + 1) (sets ns b a (k + 1) ms) ∙ sets_length ns b a (k + 1) ms
sets_length ns b (While at c e a) k ms = sets_length ns b a (k + size c + 1) (sets ns b c k ms) ∙ sets_length ns b c k ms
sets_length ns b (DoWhile at a c e) k ms = sets_length ns b c (k + size a) (sets ns b a k ms) ∙ sets_length ns b a k ms
sets_length ns b (For at c e a j) k ms =
    sets_length ns b j (k + size c + 1 + size a) (sets ns b a (k + size c + 1) (sets ns b c k ms))
    ∙ sets_length ns b a (k + size c + 1) (sets ns b c k ms) ∙ sets_length ns b c k ms
sets_length ns b (Body names a) k ms = refl
sets_length ns b (Leave at w) k ms = refl
sets_length ns b (Mark y) k ms = some_length (position (λ z. bytes_eq z y) ns) b k ms
sets_length ns b (Goto at y) k ms = refl

-- a place that is set is one of the front
some_append : (o : Option ℕ) (n b k : ℕ) (ms t : List ℕ) → ((i : ℕ) → o ≡ Some i → i < n) → b + n ≤ length ms → set_some o b k (ms ++ t) ≡ set_some o b k ms ++ t
some_append None n b k ms t within h = refl
some_append (Some i) n b k ms t within h = let lt : i < n = within i refl in set-append_left ms t (b + i) k (omega arith)

found_within : (y : Ident) (ns : List Ident) (i : ℕ) → position (λ (z : Ident). bytes_eq z y) ns ≡ Some i → i < length ns
found_within y ns i e = (position-Some (λ (z : Ident). bytes_eq z y) ns i [] e).0

pub sets_append : (ns : List Ident) (b : ℕ) (f : Flow) (k : ℕ) (ms t : List ℕ) → b + length ns ≤ length ms → sets ns b f k (ms ++ t) ≡ sets ns b f k ms ++ t
sets_append ns b Empty k ms t h = refl
sets_append ns b (Do at i) k ms t h = refl
sets_append ns b (Then a c) k ms t h =
    ap (sets ns b c (k + size a)) (sets_append ns b a k ms t h) ∙ sets_append ns b c (k + size a) (sets ns b a k ms) t (omega (arith, sets_length ns b a k ms))
sets_append ns b (When at e a) k ms t h = sets_append ns b a (k + 1) ms t h
sets_append ns b (Either at e a c) k ms t h =
    ap (sets ns b c (k + 1 + size a + 1)) (sets_append ns b a (k + 1) ms t h) ∙ sets_append ns b c (k + 1 + size a + 1) (sets ns b a (k + 1) ms) t (omega (arith, sets_length ns b a (k + 1) ms))
sets_append ns b (While at c e a) k ms t h =
    ap (sets ns b a (k + size c + 1)) (sets_append ns b c k ms t h) ∙ sets_append ns b a (k + size c + 1) (sets ns b c k ms) t (omega (arith, sets_length ns b c k ms))
sets_append ns b (DoWhile at a c e) k ms t h =
    ap (sets ns b c (k + size a)) (sets_append ns b a k ms t h) ∙ sets_append ns b c (k + size a) (sets ns b a k ms) t (omega (arith, sets_length ns b a k ms))
sets_append ns b (For at c e a j) k ms t h =
    let one : List ℕ = sets ns b c k ms in
    let two : List ℕ = sets ns b a (k + size c + 1) one in
    ap (λ u. sets ns b j (k + size c + 1 + size a) (sets ns b a (k + size c + 1) u)) (sets_append ns b c k ms t h)
    ∙ ap (sets ns b j (k + size c + 1 + size a)) (sets_append ns b a (k + size c + 1) one t (omega (arith, sets_length ns b c k ms)))
    ∙ sets_append ns b j (k + size c + 1 + size a) two t (omega (arith, sets_length ns b c k ms, sets_length ns b a (k + size c + 1) one))
sets_append ns b (Body names a) k ms t h = refl
sets_append ns b (Leave at w) k ms t h = refl
sets_append ns b (Mark y) k ms t h = some_append (position (λ z. bytes_eq z y) ns) (length ns) b k ms t (found_within y ns) h
sets_append ns b (Goto at y) k ms t h = refl

-- labels behind others
some_shift : (o : Option ℕ) (b k : ℕ) (ps ms : List ℕ) → length ps ≡ b → set_some o b k (ps ++ ms) ≡ ps ++ set_some o 0 k ms
some_shift None b k ps ms e = refl
some_shift (Some i) b k ps ms e = set-append_right ps ms b (b + i) k e (omega arith) ∙ ap (λ (j : ℕ). ps ++ set ms j k) (let same : b + i - b ≡ 0 + i = omega arith in same)

pub sets_shift : (ns : List Ident) (b : ℕ) (f : Flow) (k : ℕ) (ps ms : List ℕ) → length ps ≡ b → sets ns b f k (ps ++ ms) ≡ ps ++ sets ns 0 f k ms
sets_shift ns b Empty k ps ms e = refl
sets_shift ns b (Do at i) k ps ms e = refl
sets_shift ns b (Then a c) k ps ms e =
    ap (sets ns b c (k + size a)) (sets_shift ns b a k ps ms e) ∙ sets_shift ns b c (k + size a) ps (sets ns 0 a k ms) e
sets_shift ns b (When at e' a) k ps ms e = sets_shift ns b a (k + 1) ps ms e
sets_shift ns b (Either at e' a c) k ps ms e =
    ap (sets ns b c (k + 1 + size a + 1)) (sets_shift ns b a (k + 1) ps ms e) ∙ sets_shift ns b c (k + 1 + size a + 1) ps (sets ns 0 a (k + 1) ms) e
sets_shift ns b (While at c e' a) k ps ms e =
    ap (sets ns b a (k + size c + 1)) (sets_shift ns b c k ps ms e) ∙ sets_shift ns b a (k + size c + 1) ps (sets ns 0 c k ms) e
sets_shift ns b (DoWhile at a c e') k ps ms e =
    ap (sets ns b c (k + size a)) (sets_shift ns b a k ps ms e) ∙ sets_shift ns b c (k + size a) ps (sets ns 0 a k ms) e
sets_shift ns b (For at c e' a j) k ps ms e =
    ap (λ u. sets ns b j (k + size c + 1 + size a) (sets ns b a (k + size c + 1) u)) (sets_shift ns b c k ps ms e)
    ∙ ap (sets ns b j (k + size c + 1 + size a)) (sets_shift ns b a (k + size c + 1) ps (sets ns 0 c k ms) e)
    ∙ sets_shift ns b j (k + size c + 1 + size a) ps (sets ns 0 a (k + size c + 1) (sets ns 0 c k ms)) e
sets_shift ns b (Body names a) k ps ms e = refl
sets_shift ns b (Leave at w) k ps ms e = refl
sets_shift ns b (Mark y) k ps ms e = some_shift (position (λ z. bytes_eq z y) ns) b k ps ms e
sets_shift ns b (Goto at y) k ps ms e = refl

-- ---- what the code does

-- more code between labels that stand open and what was made
step : (ns : List Ident) (b : ℕ) (f : Flow) (k : ℕ) (M M' S L T : List ℕ) → M ≡ (S ++ L) ++ T → M' ≡ sets ns b f k M ++ table f k → b + length ns ≤ length S → M' ≡ (sets ns b f k S ++ L) ++ (T ++ table f k)
step ns b f k M M' S L T e e' h =
    e' ∙ ap (λ u. sets ns b f k u ++ table f k) e
    ∙ ap (λ u. u ++ table f k) (sets_append ns b f k (S ++ L) T (omega (arith, length-append S L)) ∙ ap (λ u. u ++ T) (sets_append ns b f k S L h))
    ∙ append_assoc (sets ns b f k S ++ L) T (table f k)

-- a label that stands open gets its place
place : (M S L T : List ℕ) (n j l v : ℕ) → M ≡ (S ++ L) ++ T → length S ≡ n → l ≡ n + j → j < length L → set M l v ≡ (S ++ set L j v) ++ T
place M S L T n j l v e en el h =
    ap (λ u. set u l v) e
    ∙ set-append_left (S ++ L) T l v (omega (arith, length-append S L))
    ∙ ap (λ u. u ++ T) (set-append_right S L n l v en (omega arith) ∙ ap (λ i. S ++ set L i v) (let same : l - n ≡ j = omega arith in same))

-- fresh labels stand open
opened1 : (M : List ℕ) → M ++ 0 ∷ [] ≡ (M ++ 0 ∷ []) ++ []
opened1 M = sym (append-nil (M ++ 0 ∷ []))

opened2 : (M : List ℕ) → (M ++ 0 ∷ []) ++ 0 ∷ [] ≡ (M ++ 0 ∷ 0 ∷ []) ++ []
opened2 M = append_assoc M (0 ∷ []) (0 ∷ []) ∙ sym (append-nil (M ++ 0 ∷ 0 ∷ []))

opened3 : (M : List ℕ) → ((M ++ 0 ∷ []) ++ 0 ∷ []) ++ 0 ∷ [] ≡ (M ++ 0 ∷ 0 ∷ 0 ∷ []) ++ []
opened3 M = append_assoc (M ++ 0 ∷ []) (0 ∷ []) (0 ∷ []) ∙ append_assoc M (0 ∷ []) (0 ∷ 0 ∷ []) ∙ sym (append-nil (M ++ 0 ∷ 0 ∷ 0 ∷ []))

pub reserved_marks : (ys : List Ident) (m : Made) → (reserved ys m).marks ≡ m.marks ++ zeros ys
reserved_marks [] m = sym (append-nil m.marks)
reserved_marks (y ∷ ys) m = reserved_marks ys (labelled m) ∙ append_assoc m.marks (0 ∷ []) (zeros ys)

pub zeros_length : (ys : List Ident) → length (zeros ys) ≡ length ys
zeros_length [] = refl
zeros_length (y ∷ ys) = ap suc (zeros_length ys)

mark_some : (o : Option ℕ) (b k : ℕ) (m : Made) → length m.pieces ≡ k → (mark (option_map (λ i. b + i) o) m).marks ≡ set_some o b k m.marks
mark_some None b k m e = refl
mark_some (Some i) b k m e = ap (λ v. set m.marks (b + i) v) e

pub emit_marks : (ns : List Ident) (x : Exits) (f : Flow) (m : Made) (k : ℕ) → length m.pieces ≡ k → x.base + length ns ≤ length m.marks → (emit ns x f m).marks ≡ sets ns x.base f k m.marks ++ table f k
emit_marks ns x Empty m k e h = sym (append-nil m.marks)
emit_marks ns x (Do at i) m k e h = sym (append-nil m.marks)
emit_marks ns x (Then a c) m k e h =
    let ma : Made = emit ns x a m in
    let ha : ma.marks ≡ sets ns x.base a k m.marks ++ table a k = emit_marks ns x a m k e h in
    let hl : length ma.marks ≡ length m.marks + length (table a k) = ap length ha ∙ length-append (sets ns x.base a k m.marks) (table a k) ∙ ap (λ n. n + length (table a k)) (sets_length ns x.base a k m.marks) in
    let hc : (emit ns x c ma).marks ≡ sets ns x.base c (k + size a) ma.marks ++ table c (k + size a) = emit_marks ns x c ma (k + size a) (omega (arith, emit_size ns x a m)) (omega arith) in
    hc ∙ ap (λ u. sets ns x.base c (k + size a) u ++ table c (k + size a)) ha
    ∙ ap (λ u. u ++ table c (k + size a)) (sets_append ns x.base c (k + size a) (sets ns x.base a k m.marks) (table a k) (omega (arith, sets_length ns x.base a k m.marks)))
    ∙ append_assoc (sets ns x.base c (k + size a) (sets ns x.base a k m.marks)) (table a k) (table c (k + size a))
emit_marks ns x (When at e' a) m k e h =
    let M : List ℕ = m.marks in
    let n : ℕ = length M in
    let b : ℕ = x.base in
    let S : List ℕ = sets ns b a (k + 1) M in
    let m1 : Made = put (labelled m) (piece.Branch at e' n) in
    let p1 : length m1.pieces ≡ k + 1 = omega (arith, length-append m.pieces (piece.Branch at e' n ∷ [])) in
    let h1 : b + length ns ≤ length m1.marks = omega (arith, length-append M (0 ∷ [])) in
    let m2 : Made = emit ns x a m1 in
    let g2 : m2.marks ≡ (S ++ 0 ∷ []) ++ ([] ++ table a (k + 1)) = step ns b a (k + 1) m1.marks m2.marks M (0 ∷ []) [] (opened1 M) (emit_marks ns x a m1 (k + 1) p1 h1) h in
    let v : length m2.pieces ≡ k + 1 + size a = omega (arith, emit_size ns x a m1) in
    place m2.marks S (0 ∷ []) (table a (k + 1)) n 0 n (length m2.pieces) g2 (sets_length ns b a (k + 1) M) (omega arith) (omega arith)
    ∙ append_assoc S (length m2.pieces ∷ []) (table a (k + 1))
    ∙ ap (λ z. S ++ z ∷ table a (k + 1)) v
emit_marks ns x (Either at e' a c) m k e h =
    let M : List ℕ = m.marks in
    let n : ℕ = length M in
    let b : ℕ = x.base in
    let kc : ℕ = k + 1 + size a + 1 in
    let S1 : List ℕ = sets ns b a (k + 1) M in
    let S2 : List ℕ = sets ns b c kc S1 in
    let l1 : length S1 ≡ n = sets_length ns b a (k + 1) M in
    let l2 : length S2 ≡ n = sets_length ns b c kc S1 ∙ l1 in
    let m1 : Made = put (labelled (labelled m)) (piece.Branch at e' n) in
    let p1 : length m1.pieces ≡ k + 1 = omega (arith, length-append m.pieces (piece.Branch at e' n ∷ [])) in
    let h1 : b + length ns ≤ length m1.marks = omega (arith, length-append M (0 ∷ []), length-append (M ++ 0 ∷ []) (0 ∷ [])) in
    let m2 : Made = emit ns x a m1 in
    let g2 : m2.marks ≡ (S1 ++ 0 ∷ 0 ∷ []) ++ ([] ++ table a (k + 1)) = step ns b a (k + 1) m1.marks m2.marks M (0 ∷ 0 ∷ []) [] (opened2 M) (emit_marks ns x a m1 (k + 1) p1 h1) h in
    let m3 : Made = put m2 (piece.Jump at (n + 1)) in
    let p3 : length m3.pieces ≡ kc = omega (arith, emit_size ns x a m1, length-append m2.pieces (piece.Jump at (n + 1) ∷ [])) in
    let m4 : Made = marked n m3 in
    let g4 : m4.marks ≡ (S1 ++ length m3.pieces ∷ 0 ∷ []) ++ table a (k + 1) = place m2.marks S1 (0 ∷ 0 ∷ []) (table a (k + 1)) n 0 n (length m3.pieces) g2 l1 (omega arith) (omega arith) in
    let h4 : b + length ns ≤ length m4.marks = omega (arith, ap length g4, length-append (S1 ++ length m3.pieces ∷ 0 ∷ []) (table a (k + 1)), length-append S1 (length m3.pieces ∷ 0 ∷ [])) in
    let m5 : Made = emit ns x c m4 in
    let g5 : m5.marks ≡ (S2 ++ length m3.pieces ∷ 0 ∷ []) ++ (table a (k + 1) ++ table c kc) = step ns b c kc m4.marks m5.marks S1 (length m3.pieces ∷ 0 ∷ []) (table a (k + 1)) g4 (emit_marks ns x c m4 kc p3 h4) (omega arith) in
    let v : length m5.pieces ≡ kc + size c = omega (arith, emit_size ns x c m4) in
    place m5.marks S2 (length m3.pieces ∷ 0 ∷ []) (table a (k + 1) ++ table c kc) n 1 (n + 1) (length m5.pieces) g5 l2 refl (omega arith)
    ∙ append_assoc S2 (length m3.pieces ∷ length m5.pieces ∷ []) (table a (k + 1) ++ table c kc)
    ∙ ap (λ z. S2 ++ z ∷ length m5.pieces ∷ (table a (k + 1) ++ table c kc)) p3
    ∙ ap (λ z. S2 ++ kc ∷ z ∷ (table a (k + 1) ++ table c kc)) v
emit_marks ns x (While at c e' a) m k e h =
    let M : List ℕ = m.marks in
    let n : ℕ = length M in
    let b : ℕ = x.base in
    let ka : ℕ = k + size c + 1 in
    let S1 : List ℕ = sets ns b c k M in
    let S2 : List ℕ = sets ns b a ka S1 in
    let l1 : length S1 ≡ n = sets_length ns b c k M in
    let l2 : length S2 ≡ n = sets_length ns b a ka S1 ∙ l1 in
    let m1 : Made = marked n (labelled (labelled m)) in
    let g1 : m1.marks ≡ (M ++ length m.pieces ∷ 0 ∷ []) ++ [] = place ((M ++ 0 ∷ []) ++ 0 ∷ []) M (0 ∷ 0 ∷ []) [] n 0 n (length m.pieces) (opened2 M) refl (omega arith) (omega arith) in
    let h1 : b + length ns ≤ length m1.marks = omega (arith, ap length g1, length-append (M ++ length m.pieces ∷ 0 ∷ []) [], length-append M (length m.pieces ∷ 0 ∷ [])) in
    let m2 : Made = emit ns x c m1 in
    let g2 : m2.marks ≡ (S1 ++ length m.pieces ∷ 0 ∷ []) ++ ([] ++ table c k) = step ns b c k m1.marks m2.marks M (length m.pieces ∷ 0 ∷ []) [] g1 (emit_marks ns x c m1 k e h1) h in
    let m3 : Made = put m2 (piece.Branch at e' (n + 1)) in
    let p3 : length m3.pieces ≡ ka = omega (arith, emit_size ns x c m1, length-append m2.pieces (piece.Branch at e' (n + 1) ∷ [])) in
    let h3 : b + length ns ≤ length m3.marks = omega (arith, ap length g2, length-append (S1 ++ length m.pieces ∷ 0 ∷ []) (table c k), length-append S1 (length m.pieces ∷ 0 ∷ [])) in
    let x' : Exits = within_loop x (n + 1) n in
    let m4 : Made = emit ns x' a m3 in
    let g4 : m4.marks ≡ (S2 ++ length m.pieces ∷ 0 ∷ []) ++ (table c k ++ table a ka) = step ns b a ka m3.marks m4.marks S1 (length m.pieces ∷ 0 ∷ []) (table c k) g2 (emit_marks ns x' a m3 ka p3 h3) (omega arith) in
    let m5 : Made = put m4 (piece.Jump at n) in
    let v : length m5.pieces ≡ ka + size a + 1 = omega (arith, emit_size ns x' a m3, length-append m4.pieces (piece.Jump at n ∷ [])) in
    place m4.marks S2 (length m.pieces ∷ 0 ∷ []) (table c k ++ table a ka) n 1 (n + 1) (length m5.pieces) g4 l2 refl (omega arith)
    ∙ append_assoc S2 (length m.pieces ∷ length m5.pieces ∷ []) (table c k ++ table a ka)
    ∙ ap (λ z. S2 ++ z ∷ length m5.pieces ∷ (table c k ++ table a ka)) e
    ∙ ap (λ z. S2 ++ k ∷ z ∷ (table c k ++ table a ka)) v
emit_marks ns x (DoWhile at a c e') m k e h =
    let M : List ℕ = m.marks in
    let n : ℕ = length M in
    let b : ℕ = x.base in
    let kc : ℕ = k + size a in
    let S1 : List ℕ = sets ns b a k M in
    let S2 : List ℕ = sets ns b c kc S1 in
    let l1 : length S1 ≡ n = sets_length ns b a k M in
    let l2 : length S2 ≡ n = sets_length ns b c kc S1 ∙ l1 in
    let m1 : Made = marked n (labelled (labelled (labelled m))) in
    let g1 : m1.marks ≡ (M ++ length m.pieces ∷ 0 ∷ 0 ∷ []) ++ [] = place (((M ++ 0 ∷ []) ++ 0 ∷ []) ++ 0 ∷ []) M (0 ∷ 0 ∷ 0 ∷ []) [] n 0 n (length m.pieces) (opened3 M) refl (omega arith) (omega arith) in
    let h1 : b + length ns ≤ length m1.marks = omega (arith, ap length g1, length-append (M ++ length m.pieces ∷ 0 ∷ 0 ∷ []) [], length-append M (length m.pieces ∷ 0 ∷ 0 ∷ [])) in
    let x' : Exits = within_loop x (n + 1 + 1) (n + 1) in
    let m2 : Made = emit ns x' a m1 in
    let g2 : m2.marks ≡ (S1 ++ length m.pieces ∷ 0 ∷ 0 ∷ []) ++ ([] ++ table a k) = step ns b a k m1.marks m2.marks M (length m.pieces ∷ 0 ∷ 0 ∷ []) [] g1 (emit_marks ns x' a m1 k e h1) h in
    let p2 : length m2.pieces ≡ kc = omega (arith, emit_size ns x' a m1) in
    let m3 : Made = marked (n + 1) m2 in
    let g3 : m3.marks ≡ (S1 ++ length m.pieces ∷ length m2.pieces ∷ 0 ∷ []) ++ table a k = place m2.marks S1 (length m.pieces ∷ 0 ∷ 0 ∷ []) (table a k) n 1 (n + 1) (length m2.pieces) g2 l1 refl (omega arith) in
    let h3 : b + length ns ≤ length m3.marks = omega (arith, ap length g3, length-append (S1 ++ length m.pieces ∷ length m2.pieces ∷ 0 ∷ []) (table a k), length-append S1 (length m.pieces ∷ length m2.pieces ∷ 0 ∷ [])) in
    let m4 : Made = emit ns x c m3 in
    let g4 : m4.marks ≡ (S2 ++ length m.pieces ∷ length m2.pieces ∷ 0 ∷ []) ++ (table a k ++ table c kc) = step ns b c kc m3.marks m4.marks S1 (length m.pieces ∷ length m2.pieces ∷ 0 ∷ []) (table a k) g3 (emit_marks ns x c m3 kc p2 h3) (omega arith) in
    let m5 : Made = put m4 (piece.Branch at e' (n + 1 + 1)) in
    let m6 : Made = put m5 (piece.Jump at n) in
    let v : length m6.pieces ≡ k + size a + size c + 2 = omega (arith, emit_size ns x c m3, length-append m4.pieces (piece.Branch at e' (n + 1 + 1) ∷ []), length-append m5.pieces (piece.Jump at n ∷ [])) in
    place m4.marks S2 (length m.pieces ∷ length m2.pieces ∷ 0 ∷ []) (table a k ++ table c kc) n 2 (n + 1 + 1) (length m6.pieces) g4 l2 (omega arith) (omega arith)
    ∙ append_assoc S2 (length m.pieces ∷ length m2.pieces ∷ length m6.pieces ∷ []) (table a k ++ table c kc)
    ∙ ap (λ z. S2 ++ z ∷ length m2.pieces ∷ length m6.pieces ∷ (table a k ++ table c kc)) e
    ∙ ap (λ z. S2 ++ k ∷ z ∷ length m6.pieces ∷ (table a k ++ table c kc)) p2
    ∙ ap (λ z. S2 ++ k ∷ kc ∷ z ∷ (table a k ++ table c kc)) v
emit_marks ns x (For at c e' a j) m k e h =
    let M : List ℕ = m.marks in
    let n : ℕ = length M in
    let b : ℕ = x.base in
    let ka : ℕ = k + size c + 1 in
    let kj : ℕ = k + size c + 1 + size a in
    let S1 : List ℕ = sets ns b c k M in
    let S2 : List ℕ = sets ns b a ka S1 in
    let S3 : List ℕ = sets ns b j kj S2 in
    let l1 : length S1 ≡ n = sets_length ns b c k M in
    let l2 : length S2 ≡ n = sets_length ns b a ka S1 ∙ l1 in
    let l3 : length S3 ≡ n = sets_length ns b j kj S2 ∙ l2 in
    let m1 : Made = marked n (labelled (labelled (labelled m))) in
    let g1 : m1.marks ≡ (M ++ length m.pieces ∷ 0 ∷ 0 ∷ []) ++ [] = place (((M ++ 0 ∷ []) ++ 0 ∷ []) ++ 0 ∷ []) M (0 ∷ 0 ∷ 0 ∷ []) [] n 0 n (length m.pieces) (opened3 M) refl (omega arith) (omega arith) in
    let h1 : b + length ns ≤ length m1.marks = omega (arith, ap length g1, length-append (M ++ length m.pieces ∷ 0 ∷ 0 ∷ []) [], length-append M (length m.pieces ∷ 0 ∷ 0 ∷ [])) in
    let m2 : Made = emit ns x c m1 in
    let g2 : m2.marks ≡ (S1 ++ length m.pieces ∷ 0 ∷ 0 ∷ []) ++ ([] ++ table c k) = step ns b c k m1.marks m2.marks M (length m.pieces ∷ 0 ∷ 0 ∷ []) [] g1 (emit_marks ns x c m1 k e h1) h in
    let m3 : Made = put m2 (piece.Branch at e' (n + 1 + 1)) in
    let p3 : length m3.pieces ≡ ka = omega (arith, emit_size ns x c m1, length-append m2.pieces (piece.Branch at e' (n + 1 + 1) ∷ [])) in
    let h3 : b + length ns ≤ length m3.marks = omega (arith, ap length g2, length-append (S1 ++ length m.pieces ∷ 0 ∷ 0 ∷ []) (table c k), length-append S1 (length m.pieces ∷ 0 ∷ 0 ∷ [])) in
    let x' : Exits = within_loop x (n + 1 + 1) (n + 1) in
    let m4 : Made = emit ns x' a m3 in
    let g4 : m4.marks ≡ (S2 ++ length m.pieces ∷ 0 ∷ 0 ∷ []) ++ (table c k ++ table a ka) = step ns b a ka m3.marks m4.marks S1 (length m.pieces ∷ 0 ∷ 0 ∷ []) (table c k) g2 (emit_marks ns x' a m3 ka p3 h3) (omega arith) in
    let p4 : length m4.pieces ≡ kj = omega (arith, emit_size ns x' a m3) in
    let m5 : Made = marked (n + 1) m4 in
    let T2 : List ℕ = table c k ++ table a ka in
    let g5 : m5.marks ≡ (S2 ++ length m.pieces ∷ length m4.pieces ∷ 0 ∷ []) ++ T2 = place m4.marks S2 (length m.pieces ∷ 0 ∷ 0 ∷ []) T2 n 1 (n + 1) (length m4.pieces) g4 l2 refl (omega arith) in
    let h5 : b + length ns ≤ length m5.marks = omega (arith, ap length g5, length-append (S2 ++ length m.pieces ∷ length m4.pieces ∷ 0 ∷ []) T2, length-append S2 (length m.pieces ∷ length m4.pieces ∷ 0 ∷ [])) in
    let m6 : Made = emit ns x j m5 in
    let g6 : m6.marks ≡ (S3 ++ length m.pieces ∷ length m4.pieces ∷ 0 ∷ []) ++ (T2 ++ table j kj) = step ns b j kj m5.marks m6.marks S2 (length m.pieces ∷ length m4.pieces ∷ 0 ∷ []) T2 g5 (emit_marks ns x j m5 kj p4 h5) (omega arith) in
    let m7 : Made = put m6 (piece.Jump at n) in
    let v : length m7.pieces ≡ kj + size j + 1 = omega (arith, emit_size ns x j m5, length-append m6.pieces (piece.Jump at n ∷ [])) in
    let T : List ℕ = table c k ++ (table a ka ++ table j kj) in
    place m6.marks S3 (length m.pieces ∷ length m4.pieces ∷ 0 ∷ []) (T2 ++ table j kj) n 2 (n + 1 + 1) (length m7.pieces) g6 l3 (omega arith) (omega arith)
    ∙ append_assoc S3 (length m.pieces ∷ length m4.pieces ∷ length m7.pieces ∷ []) (T2 ++ table j kj)
    ∙ ap (λ t. S3 ++ length m.pieces ∷ length m4.pieces ∷ length m7.pieces ∷ t) (append_assoc (table c k) (table a ka) (table j kj))
    ∙ ap (λ z. S3 ++ z ∷ length m4.pieces ∷ length m7.pieces ∷ T) e
    ∙ ap (λ z. S3 ++ k ∷ z ∷ length m7.pieces ∷ T) p4
    ∙ ap (λ z. S3 ++ k ∷ kj ∷ z ∷ T) v
emit_marks ns x (Body names a) m k e h =
    let M : List ℕ = m.marks in
    let n : ℕ = length M in
    let Z : List ℕ = sets names 0 a k (zeros names) in
    let m1 : Made = reserved names (labelled m) in
    let g1 : m1.marks ≡ (M ++ 0 ∷ []) ++ zeros names = reserved_marks names (labelled m) in
    let le : length (M ++ 0 ∷ []) ≡ n + 1 = length-append M (0 ∷ []) in
    let h1 : n + 1 + length names ≤ length m1.marks = omega (arith, ap length g1, length-append (M ++ 0 ∷ []) (zeros names), zeros_length names) in
    let p1 : length m1.pieces ≡ k = ap length (reserved_pieces names (labelled m)) ∙ e in
    let x' : Exits = within_body x n in
    let m2 : Made = emit names x' a m1 in
    let g2 : m2.marks ≡ (M ++ 0 ∷ []) ++ (Z ++ table a k) =
    emit_marks names x' a m1 k p1 h1 ∙ ap (λ u. sets names (n + 1) a k u ++ table a k) g1
    ∙ ap (λ u. u ++ table a k) (sets_shift names (n + 1) a k (M ++ 0 ∷ []) (zeros names) le)
    ∙ append_assoc (M ++ 0 ∷ []) Z (table a k) in
    let v : length m2.pieces ≡ k + size a = omega (arith, emit_size names x' a m1) in
    place m2.marks M (0 ∷ []) (Z ++ table a k) n 0 n (length m2.pieces) g2 refl (omega arith) (omega arith)
    ∙ append_assoc M (length m2.pieces ∷ []) (Z ++ table a k)
    ∙ ap (λ z. M ++ z ∷ (Z ++ table a k)) v
emit_marks ns x (Leave at w) m k e h = sym (append-nil m.marks)
emit_marks ns x (Mark y) m k e h = mark_some (position (λ z. bytes_eq z y) ns) x.base k m e ∙ sym (append-nil (set_some (position (λ z. bytes_eq z y) ns) x.base k m.marks))
emit_marks ns x (Goto at y) m k e h = sym (append-nil m.marks)

pub emit_labels : (ns : List Ident) (x : Exits) (f : Flow) (m : Made) (k : ℕ) → length m.pieces ≡ k → x.base + length ns ≤ length m.marks → length (emit ns x f m).marks ≡ length m.marks + length (table f k)
emit_labels ns x f m k e h = ap length (emit_marks ns x f m k e h) ∙ length-append (sets ns x.base f k m.marks) (table f k) ∙ ap (λ n. n + length (table f k)) (sets_length ns x.base f k m.marks)
