-- Code whose labels have got their places is the code that is laid out.
use Rattle.std.proofs.Common.{arith, ◌≡◌, ◌≢◌, ℕ, suc, ◌+◌, ◌<◌, ◌≤◌, Bool, true, false, zero, if◌then◌else◌, List, [], ◌∷◌, ◌++◌, length, map, set, get_or, refl, ◌∙◌, sym, ap, append_assoc, add-zero, zero-add, Option, Some, None, position, option_map}
use Rattle.std.specs.Str.{bytes_eq}
use Rattle.std.proofs.lemmas.Slice.Eq.{bytes_eq-Decides}
use Rattle.std.proofs.lemmas.List.{append-nil, length-append, length-set, map-append, get_or-append-add, get_or_append_left, get_or-set_same, get_or-set_other}
use Rattle.std.proofs.lemmas.List.Quantifiers.{position-Some}
use Rattle.mm_goto.specs.declared.ident.At.{At}
use Rattle.mm_goto.specs.declared.ident.Ident.{Ident}
use Rattle.mm_goto.specs.declared.program.Instr.TheVariants as instr
use Rattle.mm_flow.specs.declared.assembler.Exits.{Exits}
use Rattle.mm_flow.specs.declared.assembler.Piece.{Piece}
use Rattle.mm_flow.specs.declared.assembler.Piece.TheVariants as piece
use Rattle.mm_flow.specs.Flow.{Flow, Empty, Do, Then, When, Either, While, DoWhile, For, Body, Leave, Mark, Goto, Way, Behind, Next, Home, size, Ways, way, in_loop, in_body, mark_of, later, place_or_0, place_of_label, Placed, placed, lay}
use Rattle.mm_flow.specs.reading.Emission.{Made, emit, put, labelled, marked, mark, reserved, label_of, goto_piece, exit, within_loop, within_body}
use Rattle.mm_flow.specs.reading.Settling.{place_at, settled, piece_place}
use Rattle.mm_flow.proofs.Grows.{emit_size, reserved_pieces, mark_pieces}
use Rattle.mm_flat.proofs.Marks.{table, sets, set_some, zeros, zeros_length, sets_length, emit_labels, reserved_marks}

abbrev pub settled_piece : List ℕ → Piece → Placed
settled_piece marks p = placed (piece_place p) (settled marks p)

-- ---- the labels of a body

abbrev pub place_with : ℕ → Option ℕ → ℕ
place_with d None = d
place_with d (Some k) = k

with_later : (d : ℕ) (p q : Option ℕ) → place_with (place_with d p) q ≡ place_with d (later p q)
with_later d p None = refl
with_later d p (Some k) = refl

-- the labels x and y of the list stand at the same place of it only where they are one
mark_here : (ns : List Ident) (x y : Ident) (i k : ℕ) (ms : List ℕ) (t : Bool) → bytes_eq x y ≡ t → length ns ≤ length ms → position (λ (z : Ident). bytes_eq z y) ns ≡ Some i
    → get_or (set_some (position (λ (z : Ident). bytes_eq z x) ns) 0 k ms) i 0 ≡ place_with (get_or ms i 0) (if t then Some k else None)
mark_here ns x y i k ms true e h p =
    let same : x ≡ y = (bytes_eq-Decides x y).0 e in
    let within : i < length ns = (position-Some (λ (z : Ident). bytes_eq z y) ns i [] p).0 in
    ap (λ (u : Ident). get_or (set_some (position (λ (z : Ident). bytes_eq z u) ns) 0 k ms) i 0) same
    ∙ ap (λ o. get_or (set_some o 0 k ms) i 0) p
    ∙ ap (λ j. get_or (set ms j k) i 0) (zero-add i)
    ∙ get_or-set_same ms i k 0 (omega arith)
mark_here ns x y i k ms false e h p = other (position (λ (z : Ident). bytes_eq z x) ns) refl
  where
    at_y : bytes_eq (get_or ns i []) y ≡ true
    at_y = (position-Some (λ (z : Ident). bytes_eq z y) ns i [] p).1

    other : (o : Option ℕ) → position (λ (z : Ident). bytes_eq z x) ns ≡ o → get_or (set_some o 0 k ms) i 0 ≡ get_or ms i 0
    other None q = refl
    other (Some j) q =
        let at_x : bytes_eq (get_or ns j []) x ≡ true = (position-Some (λ (z : Ident). bytes_eq z x) ns j [] q).1 in
        let apart : i ≢ 0 + j = λ same.
        let ij : i ≡ j = omega arith in
        let ex : get_or ns j [] ≡ x = (bytes_eq-Decides (get_or ns j []) x).0 at_x in
        let ey : get_or ns i [] ≡ y = (bytes_eq-Decides (get_or ns i []) y).0 at_y in
        let one : x ≡ y = sym ex ∙ ap (λ n. get_or ns n []) (sym ij) ∙ ey in
        let yes : bytes_eq x y ≡ true = (bytes_eq-Decides x y).1 one in
        let no : true ≡ false = sym yes ∙ e in
        cc in
        get_or-set_other ms (0 + j) i k 0 apart

found_place : (ns : List Ident) (y : Ident) (i : ℕ) (f : Flow) (k : ℕ) (ms : List ℕ) → length ns ≤ length ms → position (λ (z : Ident). bytes_eq z y) ns ≡ Some i
    → get_or (sets ns 0 f k ms) i 0 ≡ place_with (get_or ms i 0) (mark_of y f k)
found_place ns y i Empty k ms h p = refl
found_place ns y i (Do at i') k ms h p = refl
found_place ns y i (Then a b) k ms h p =
    let ha : length ns ≤ length (sets ns 0 a k ms) = omega (arith, sets_length ns 0 a k ms) in
    found_place ns y i b (k + size a) (sets ns 0 a k ms) ha p
    ∙ ap (λ d. place_with d (mark_of y b (k + size a))) (found_place ns y i a k ms h p)
    ∙ with_later (get_or ms i 0) (mark_of y a k) (mark_of y b (k + size a))
found_place ns y i (When at e a) k ms h p = found_place ns y i a (k + 1) ms h p
found_place ns y i (Either at e a b) k ms h p =
    let kb : ℕ = k + 1 + size a + 1 in
    let ha : length ns ≤ length (sets ns 0 a (k + 1) ms) = omega (arith, sets_length ns 0 a (k + 1) ms) in
    found_place ns y i b kb (sets ns 0 a (k + 1) ms) ha p
    ∙ ap (λ d. place_with d (mark_of y b kb)) (found_place ns y i a (k + 1) ms h p)
    ∙ with_later (get_or ms i 0) (mark_of y a (k + 1)) (mark_of y b kb)
found_place ns y i (While at c e a) k ms h p =
    let ka : ℕ = k + size c + 1 in
    let hc : length ns ≤ length (sets ns 0 c k ms) = omega (arith, sets_length ns 0 c k ms) in
    found_place ns y i a ka (sets ns 0 c k ms) hc p
    ∙ ap (λ d. place_with d (mark_of y a ka)) (found_place ns y i c k ms h p)
    ∙ with_later (get_or ms i 0) (mark_of y c k) (mark_of y a ka)
found_place ns y i (DoWhile at a c e) k ms h p =
    let kc : ℕ = k + size a in
    let ha : length ns ≤ length (sets ns 0 a k ms) = omega (arith, sets_length ns 0 a k ms) in
    found_place ns y i c kc (sets ns 0 a k ms) ha p
    ∙ ap (λ d. place_with d (mark_of y c kc)) (found_place ns y i a k ms h p)
    ∙ with_later (get_or ms i 0) (mark_of y a k) (mark_of y c kc)
found_place ns y i (For at c e a j) k ms h p =
    let ka : ℕ = k + size c + 1 in
    let kj : ℕ = k + size c + 1 + size a in
    let S1 : List ℕ = sets ns 0 c k ms in
    let S2 : List ℕ = sets ns 0 a ka S1 in
    let hc : length ns ≤ length S1 = omega (arith, sets_length ns 0 c k ms) in
    let ha : length ns ≤ length S2 = omega (arith, sets_length ns 0 a ka S1) in
    found_place ns y i j kj S2 ha p
    ∙ ap (λ d. place_with d (mark_of y j kj)) (found_place ns y i a ka S1 hc p)
    ∙ ap (λ d. place_with (place_with d (mark_of y a ka)) (mark_of y j kj)) (found_place ns y i c k ms h p)
    ∙ ap (λ d. place_with d (mark_of y j kj)) (with_later (get_or ms i 0) (mark_of y c k) (mark_of y a ka))
    ∙ with_later (get_or ms i 0) (later (mark_of y c k) (mark_of y a ka)) (mark_of y j kj)
found_place ns y i (Body names a) k ms h p = refl
found_place ns y i (Leave at w) k ms h p = refl
found_place ns y i (Mark x) k ms h p = mark_here ns x y i k ms (bytes_eq x y) refl h p
found_place ns y i (Goto at x) k ms h p = refl

zeros_at : (ys : List Ident) (i : ℕ) → get_or (zeros ys) i 0 ≡ 0
zeros_at [] i = refl
zeros_at (y ∷ ys) zero = refl
zeros_at (y ∷ ys) (suc i) = zeros_at ys i

with_0 : (o : Option ℕ) → place_with 0 o ≡ place_or_0 o
with_0 None = refl
with_0 (Some k) = refl

-- ---- where the exits lead

abbrev pub place_or : List ℕ → Option ℕ → ℕ
place_or marks None = 0
place_or marks (Some l) = place_at marks l

-- the labels have the places to which the ways lead
pub record Agrees (marks : List ℕ) (ns : List Ident) (x : Exits) (w : Ways) : Type 0 where
  pub behind : place_at marks x.behind ≡ w.behind
  pub next : place_at marks x.next ≡ w.next
  pub home : place_at marks x.home ≡ w.home
  pub label : (y : Ident) → place_or marks (label_of ns x y) ≡ w.label y

-- the labels from l on have these places
abbrev pub Covers : List ℕ → ℕ → List ℕ → Type 0
Covers marks l ts = (i : ℕ) → i < length ts → place_at marks (l + i) ≡ get_or ts i 0

front : (marks : List ℕ) (l : ℕ) (ts us : List ℕ) → Covers marks l (ts ++ us) → Covers marks l ts
front marks l ts us c i h = c i (omega (arith, length-append ts us)) ∙ get_or_append_left ts us 0 i h

rest : (marks : List ℕ) (l m : ℕ) (ts us : List ℕ) → Covers marks l (ts ++ us) → l + length ts ≡ m → Covers marks m us
rest marks l m ts us c e i h =
    let same : m + i ≡ l + (length ts + i) = omega arith in
    ap (place_at marks) same ∙ c (length ts + i) (omega (arith, length-append ts us)) ∙ get_or-append-add ts us i 0

first : (marks : List ℕ) (l t : ℕ) (ts : List ℕ) → Covers marks l (t ∷ ts) → place_at marks l ≡ t
first marks l t ts c = ap (place_at marks) (sym (add-zero l)) ∙ c 0 (omega arith)

tail : (marks : List ℕ) (l m t : ℕ) (ts : List ℕ) → Covers marks l (t ∷ ts) → m ≡ l + 1 → Covers marks m ts
tail marks l m t ts c e i h =
    let same : m + i ≡ l + suc i = omega arith in
    ap (place_at marks) same ∙ c (suc i) (omega arith)

exit_is : (marks : List ℕ) (ns : List Ident) (x : Exits) (w : Ways) (y : Way) → Agrees marks ns x w → place_at marks (exit x y) ≡ way w y
exit_is marks ns x w Behind g = g.behind
exit_is marks ns x w Next g = g.next
exit_is marks ns x w Home g = g.home

looped : (marks : List ℕ) (ns : List Ident) (x : Exits) (w : Ways) (behind next kb kn : ℕ) → Agrees marks ns x w → place_at marks behind ≡ kb → place_at marks next ≡ kn → Agrees marks ns (within_loop x behind next) (in_loop w kb kn)
looped marks ns x w behind next kb kn g eb en = record { behind = eb; next = en; home = g.home; label = g.label }

labels_agree : (marks : List ℕ) (names : List Ident) (y : Ident) (a : Flow) (k home : ℕ) (o : Option ℕ) → position (λ (z : Ident). bytes_eq z y) names ≡ o
    → Covers marks (home + 1) (sets names 0 a k (zeros names))
    → place_or marks (option_map (λ i. home + 1 + i) o) ≡ place_of_label o (mark_of y a k)
labels_agree marks names y a k home None p c = refl
labels_agree marks names y a k home (Some i) p c =
    let within : i < length names = (position-Some (λ (z : Ident). bytes_eq z y) names i [] p).0 in
    c i (omega (arith, sets_length names 0 a k (zeros names), zeros_length names))
    ∙ found_place names y i a k (zeros names) (omega (arith, zeros_length names)) p
    ∙ ap (λ d. place_with d (mark_of y a k)) (zeros_at names i)
    ∙ with_0 (mark_of y a k)

-- ---- the whole

abbrev pub code_of : List ℕ → Made → List Placed
code_of marks m = map (settled_piece marks) m.pieces

one : (marks : List ℕ) (m : Made) (p : Piece) → code_of marks (put m p) ≡ code_of marks m ++ settled_piece marks p ∷ []
one marks m p = map-append (settled_piece marks) m.pieces (p ∷ [])

mark_code : (marks : List ℕ) (o : Option ℕ) (m : Made) → code_of marks (mark o m) ≡ code_of marks m
mark_code marks o m = ap (map (settled_piece marks)) (mark_pieces o m)

goto_is : (marks : List ℕ) (at : At) (o : Option ℕ) → settled_piece marks (goto_piece at o) ≡ placed at (instr.Jump (place_or marks o))
goto_is marks at None = refl
goto_is marks at (Some l) = refl

pub settles : (marks : List ℕ) (ns : List Ident) (x : Exits) (w : Ways) (f : Flow) (m : Made) (k : ℕ) → length m.pieces ≡ k → x.base + length ns ≤ length m.marks → Agrees marks ns x w → Covers marks (length m.marks) (table f k)
    → code_of marks (emit ns x f m) ≡ code_of marks m ++ lay w f k
settles marks ns x w Empty m k e h g c = sym (append-nil (code_of marks m))
settles marks ns x w (Do at i) m k e h g c = one marks m (piece.Do at i)
settles marks ns x w (Then a b) m k e h g c =
    let ma : Made = emit ns x a m in
    let la : length ma.marks ≡ length m.marks + length (table a k) = emit_labels ns x a m k e h in
    settles marks ns x w b ma (k + size a) (omega (arith, emit_size ns x a m)) (omega arith) g (rest marks (length m.marks) (length ma.marks) (table a k) (table b (k + size a)) c (sym la))
    ∙ ap (λ u. u ++ lay w b (k + size a)) (settles marks ns x w a m k e h g (front marks (length m.marks) (table a k) (table b (k + size a)) c))
    ∙ append_assoc (code_of marks m) (lay w a k) (lay w b (k + size a))
settles marks ns x w (When at e' a) m k e h g c =
    let n : ℕ = length m.marks in
    let m1 : Made = put (labelled m) (piece.Branch at e' n) in
    let p1 : length m1.pieces ≡ k + 1 = omega (arith, length-append m.pieces (piece.Branch at e' n ∷ [])) in
    let l1 : length m1.marks ≡ n + 1 = length-append m.marks (0 ∷ []) in
    settles marks ns x w a m1 (k + 1) p1 (omega arith) g (tail marks n (length m1.marks) (k + 1 + size a) (table a (k + 1)) c l1)
    ∙ ap (λ u. u ++ lay w a (k + 1)) (one marks (labelled m) (piece.Branch at e' n))
    ∙ append_assoc (code_of marks m) (placed at (instr.Branch e' (place_at marks n)) ∷ []) (lay w a (k + 1))
    ∙ ap (λ z. code_of marks m ++ placed at (instr.Branch e' z) ∷ lay w a (k + 1)) (first marks n (k + 1 + size a) (table a (k + 1)) c)
settles marks ns x w (Either at e' a b) m k e h g c =
    let n : ℕ = length m.marks in
    let kb : ℕ = k + 1 + size a + 1 in
    let c1 = tail marks n (n + 1) kb ((kb + size b) ∷ (table a (k + 1) ++ table b kb)) c refl in
    let m1 : Made = put (labelled (labelled m)) (piece.Branch at e' n) in
    let p1 : length m1.pieces ≡ k + 1 = omega (arith, length-append m.pieces (piece.Branch at e' n ∷ [])) in
    let l1 : length m1.marks ≡ n + 1 + 1 = omega (arith, length-append m.marks (0 ∷ []), length-append (m.marks ++ 0 ∷ []) (0 ∷ [])) in
    let c2 = tail marks (n + 1) (length m1.marks) (kb + size b) (table a (k + 1) ++ table b kb) c1 l1 in
    let m2 : Made = emit ns x a m1 in
    let la : length m2.marks ≡ length m1.marks + length (table a (k + 1)) = emit_labels ns x a m1 (k + 1) p1 (omega arith) in
    let m3 : Made = put m2 (piece.Jump at (n + 1)) in
    let m4 : Made = marked n m3 in
    let l4 : length m4.marks ≡ length m1.marks + length (table a (k + 1)) = length-set m2.marks n (length m3.pieces) ∙ la in
    let p4 : length m4.pieces ≡ kb = omega (arith, emit_size ns x a m1, length-append m2.pieces (piece.Jump at (n + 1) ∷ [])) in
    let la' = lay w a (k + 1) in
    let lb' = lay w b kb in
    settles marks ns x w b m4 kb p4 (omega arith) g (rest marks (length m1.marks) (length m4.marks) (table a (k + 1)) (table b kb) c2 (sym l4))
    ∙ ap (λ u. u ++ lb') (one marks m2 (piece.Jump at (n + 1))
    ∙ ap (λ u. u ++ placed at (instr.Jump (place_at marks (n + 1))) ∷ []) (settles marks ns x w a m1 (k + 1) p1 (omega arith) g (front marks (length m1.marks) (table a (k + 1)) (table b kb) c2)
    ∙ ap (λ u. u ++ la') (one marks (labelled (labelled m)) (piece.Branch at e' n))
    ∙ append_assoc (code_of marks m) (placed at (instr.Branch e' (place_at marks n)) ∷ []) la'))
    ∙ append_assoc (code_of marks m ++ placed at (instr.Branch e' (place_at marks n)) ∷ la') (placed at (instr.Jump (place_at marks (n + 1))) ∷ []) lb'
    ∙ append_assoc (code_of marks m) (placed at (instr.Branch e' (place_at marks n)) ∷ la') (placed at (instr.Jump (place_at marks (n + 1))) ∷ lb')
    ∙ ap (λ z. code_of marks m ++ placed at (instr.Branch e' z) ∷ (la' ++ placed at (instr.Jump (place_at marks (n + 1))) ∷ lb')) (first marks n kb ((kb + size b) ∷ (table a (k + 1) ++ table b kb)) c)
    ∙ ap (λ z. code_of marks m ++ placed at (instr.Branch e' kb) ∷ (la' ++ placed at (instr.Jump z) ∷ lb')) (first marks (n + 1) (kb + size b) (table a (k + 1) ++ table b kb) c1)
settles marks ns x w (While at t e' a) m k e h g c =
    let n : ℕ = length m.marks in
    let ka : ℕ = k + size t + 1 in
    let end : ℕ = k + size t + 1 + size a + 1 in
    let c1 = tail marks n (n + 1) k (end ∷ (table t k ++ table a ka)) c refl in
    let m1 : Made = marked n (labelled (labelled m)) in
    let l1 : length m1.marks ≡ n + 1 + 1 = omega (arith, length-set ((m.marks ++ 0 ∷ []) ++ 0 ∷ []) n (length m.pieces), length-append m.marks (0 ∷ []), length-append (m.marks ++ 0 ∷ []) (0 ∷ [])) in
    let c2 = tail marks (n + 1) (length m1.marks) end (table t k ++ table a ka) c1 l1 in
    let m2 : Made = emit ns x t m1 in
    let l2 : length m2.marks ≡ length m1.marks + length (table t k) = emit_labels ns x t m1 k e (omega arith) in
    let m3 : Made = put m2 (piece.Branch at e' (n + 1)) in
    let p3 : length m3.pieces ≡ ka = omega (arith, emit_size ns x t m1, length-append m2.pieces (piece.Branch at e' (n + 1) ∷ [])) in
    let x' : Exits = within_loop x (n + 1) n in
    let w' : Ways = in_loop w end k in
    let top_is = first marks n k (end ∷ (table t k ++ table a ka)) c in
    let end_is = first marks (n + 1) end (table t k ++ table a ka) c1 in
    let g' = looped marks ns x w (n + 1) n end k g end_is top_is in
    let m4 : Made = emit ns x' a m3 in
    let lt = lay w t k in
    let la = lay w' a ka in
    let branch = placed at (instr.Branch e' (place_at marks (n + 1))) in
    let jump = placed at (instr.Jump (place_at marks n)) in
    one marks m4 (piece.Jump at n)
    ∙ ap (λ u. u ++ jump ∷ []) (settles marks ns x' w' a m3 ka p3 (omega arith) g' (rest marks (length m1.marks) (length m2.marks) (table t k) (table a ka) c2 (sym l2))
    ∙ ap (λ u. u ++ la) (one marks m2 (piece.Branch at e' (n + 1))
    ∙ ap (λ u. u ++ branch ∷ []) (settles marks ns x w t m1 k e (omega arith) g (front marks (length m1.marks) (table t k) (table a ka) c2))))
    ∙ append_assoc ((code_of marks m ++ lt) ++ branch ∷ []) la (jump ∷ [])
    ∙ append_assoc (code_of marks m ++ lt) (branch ∷ []) (la ++ jump ∷ [])
    ∙ append_assoc (code_of marks m) lt (branch ∷ (la ++ jump ∷ []))
    ∙ ap (λ z. code_of marks m ++ (lt ++ placed at (instr.Branch e' z) ∷ (la ++ jump ∷ []))) end_is
    ∙ ap (λ z. code_of marks m ++ (lt ++ placed at (instr.Branch e' end) ∷ (la ++ placed at (instr.Jump z) ∷ []))) top_is
settles marks ns x w (DoWhile at a t e') m k e h g c =
    let n : ℕ = length m.marks in
    let next : ℕ = k + size a in
    let end : ℕ = k + size a + size t + 2 in
    let c1 = tail marks n (n + 1) k (next ∷ (end ∷ (table a k ++ table t next))) c refl in
    let c2 = tail marks (n + 1) (n + 1 + 1) next (end ∷ (table a k ++ table t next)) c1 refl in
    let m1 : Made = marked n (labelled (labelled (labelled m))) in
    let l1 : length m1.marks ≡ n + 1 + 1 + 1 = omega (arith, length-set (((m.marks ++ 0 ∷ []) ++ 0 ∷ []) ++ 0 ∷ []) n (length m.pieces), length-append m.marks (0 ∷ []), length-append (m.marks ++ 0 ∷ []) (0 ∷ []), length-append ((m.marks ++ 0 ∷ []) ++ 0 ∷ []) (0 ∷ [])) in
    let c3 = tail marks (n + 1 + 1) (length m1.marks) end (table a k ++ table t next) c2 l1 in
    let x' : Exits = within_loop x (n + 1 + 1) (n + 1) in
    let w' : Ways = in_loop w end next in
    let top_is = first marks n k (next ∷ (end ∷ (table a k ++ table t next))) c in
    let next_is = first marks (n + 1) next (end ∷ (table a k ++ table t next)) c1 in
    let end_is = first marks (n + 1 + 1) end (table a k ++ table t next) c2 in
    let g' = looped marks ns x w (n + 1 + 1) (n + 1) end next g end_is next_is in
    let m2 : Made = emit ns x' a m1 in
    let l2 : length m2.marks ≡ length m1.marks + length (table a k) = emit_labels ns x' a m1 k e (omega arith) in
    let p2 : length m2.pieces ≡ next = omega (arith, emit_size ns x' a m1) in
    let m3 : Made = marked (n + 1) m2 in
    let l3 : length m3.marks ≡ length m1.marks + length (table a k) = length-set m2.marks (n + 1) (length m2.pieces) ∙ l2 in
    let m4 : Made = emit ns x t m3 in
    let m5 : Made = put m4 (piece.Branch at e' (n + 1 + 1)) in
    let la = lay w' a k in
    let lt = lay w t next in
    let branch = placed at (instr.Branch e' (place_at marks (n + 1 + 1))) in
    let jump = placed at (instr.Jump (place_at marks n)) in
    one marks m5 (piece.Jump at n)
    ∙ ap (λ u. u ++ jump ∷ []) (one marks m4 (piece.Branch at e' (n + 1 + 1))
    ∙ ap (λ u. u ++ branch ∷ []) (settles marks ns x w t m3 next p2 (omega arith) g (rest marks (length m1.marks) (length m3.marks) (table a k) (table t next) c3 (sym l3))
    ∙ ap (λ u. u ++ lt) (settles marks ns x' w' a m1 k e (omega arith) g' (front marks (length m1.marks) (table a k) (table t next) c3))))
    ∙ append_assoc (((code_of marks m ++ la) ++ lt)) (branch ∷ []) (jump ∷ [])
    ∙ append_assoc (code_of marks m ++ la) lt (branch ∷ jump ∷ [])
    ∙ append_assoc (code_of marks m) la (lt ++ branch ∷ jump ∷ [])
    ∙ ap (λ z. code_of marks m ++ (la ++ (lt ++ placed at (instr.Branch e' z) ∷ jump ∷ []))) end_is
    ∙ ap (λ z. code_of marks m ++ (la ++ (lt ++ placed at (instr.Branch e' end) ∷ placed at (instr.Jump z) ∷ []))) top_is
settles marks ns x w (For at t e' a j) m k e h g c =
    let n : ℕ = length m.marks in
    let ka : ℕ = k + size t + 1 in
    let next : ℕ = k + size t + 1 + size a in
    let end : ℕ = k + size t + 1 + size a + size j + 1 in
    let ts : List ℕ = table t k ++ (table a ka ++ table j next) in
    let c1 = tail marks n (n + 1) k (next ∷ (end ∷ ts)) c refl in
    let c2 = tail marks (n + 1) (n + 1 + 1) next (end ∷ ts) c1 refl in
    let m1 : Made = marked n (labelled (labelled (labelled m))) in
    let l1 : length m1.marks ≡ n + 1 + 1 + 1 = omega (arith, length-set (((m.marks ++ 0 ∷ []) ++ 0 ∷ []) ++ 0 ∷ []) n (length m.pieces), length-append m.marks (0 ∷ []), length-append (m.marks ++ 0 ∷ []) (0 ∷ []), length-append ((m.marks ++ 0 ∷ []) ++ 0 ∷ []) (0 ∷ [])) in
    let c3 = tail marks (n + 1 + 1) (length m1.marks) end ts c2 l1 in
    let x' : Exits = within_loop x (n + 1 + 1) (n + 1) in
    let w' : Ways = in_loop w end next in
    let top_is = first marks n k (next ∷ (end ∷ ts)) c in
    let next_is = first marks (n + 1) next (end ∷ ts) c1 in
    let end_is = first marks (n + 1 + 1) end ts c2 in
    let g' = looped marks ns x w (n + 1 + 1) (n + 1) end next g end_is next_is in
    let m2 : Made = emit ns x t m1 in
    let l2 : length m2.marks ≡ length m1.marks + length (table t k) = emit_labels ns x t m1 k e (omega arith) in
    let m3 : Made = put m2 (piece.Branch at e' (n + 1 + 1)) in
    let p3 : length m3.pieces ≡ ka = omega (arith, emit_size ns x t m1, length-append m2.pieces (piece.Branch at e' (n + 1 + 1) ∷ [])) in
    let c4 = rest marks (length m1.marks) (length m2.marks) (table t k) (table a ka ++ table j next) c3 (sym l2) in
    let m4 : Made = emit ns x' a m3 in
    let l4 : length m4.marks ≡ length m2.marks + length (table a ka) = emit_labels ns x' a m3 ka p3 (omega arith) in
    let p4 : length m4.pieces ≡ next = omega (arith, emit_size ns x' a m3) in
    let m5 : Made = marked (n + 1) m4 in
    let l5 : length m5.marks ≡ length m2.marks + length (table a ka) = length-set m4.marks (n + 1) (length m4.pieces) ∙ l4 in
    let m6 : Made = emit ns x j m5 in
    let lt = lay w t k in
    let la = lay w' a ka in
    let lj = lay w j next in
    let branch = placed at (instr.Branch e' (place_at marks (n + 1 + 1))) in
    let jump = placed at (instr.Jump (place_at marks n)) in
    one marks m6 (piece.Jump at n)
    ∙ ap (λ u. u ++ jump ∷ []) (settles marks ns x w j m5 next p4 (omega arith) g (rest marks (length m2.marks) (length m5.marks) (table a ka) (table j next) c4 (sym l5))
    ∙ ap (λ u. u ++ lj) (settles marks ns x' w' a m3 ka p3 (omega arith) g' (front marks (length m2.marks) (table a ka) (table j next) c4)
    ∙ ap (λ u. u ++ la) (one marks m2 (piece.Branch at e' (n + 1 + 1))
    ∙ ap (λ u. u ++ branch ∷ []) (settles marks ns x w t m1 k e (omega arith) g (front marks (length m1.marks) (table t k) (table a ka ++ table j next) c3)))))
    ∙ append_assoc (((code_of marks m ++ lt) ++ branch ∷ []) ++ la) lj (jump ∷ [])
    ∙ append_assoc ((code_of marks m ++ lt) ++ branch ∷ []) la (lj ++ jump ∷ [])
    ∙ append_assoc (code_of marks m ++ lt) (branch ∷ []) (la ++ (lj ++ jump ∷ []))
    ∙ append_assoc (code_of marks m) lt (branch ∷ (la ++ (lj ++ jump ∷ [])))
    ∙ ap (λ z. code_of marks m ++ (lt ++ placed at (instr.Branch e' z) ∷ (la ++ (lj ++ jump ∷ [])))) end_is
    ∙ ap (λ z. code_of marks m ++ (lt ++ placed at (instr.Branch e' end) ∷ (la ++ (lj ++ placed at (instr.Jump z) ∷ [])))) top_is
settles marks ns x w (Body names a) m k e h g c =
    let n : ℕ = length m.marks in
    let Z : List ℕ = sets names 0 a k (zeros names) in
    let m1 : Made = reserved names (labelled m) in
    let g1 : m1.marks ≡ (m.marks ++ 0 ∷ []) ++ zeros names = reserved_marks names (labelled m) in
    let l1 : length m1.marks ≡ n + 1 + length names = omega (arith, ap length g1, length-append (m.marks ++ 0 ∷ []) (zeros names), length-append m.marks (0 ∷ []), zeros_length names) in
    let p1 : length m1.pieces ≡ k = ap length (reserved_pieces names (labelled m)) ∙ e in
    let c1 = tail marks n (n + 1) (k + size a) (Z ++ table a k) c refl in
    let home_is = first marks n (k + size a) (Z ++ table a k) c in
    let lz : length Z ≡ length names = sets_length names 0 a k (zeros names) ∙ zeros_length names in
    let g' : Agrees marks names (within_body x n) (in_body w names a k) = record {
      behind = g.behind;
      next = g.next;
      home = home_is;
      label = λ y. labels_agree marks names y a k n (position (λ (z : Ident). bytes_eq z y) names) refl (front marks (n + 1) Z (table a k) c1);
    } in
    settles marks names (within_body x n) (in_body w names a k) a m1 k p1 (omega arith) g' (rest marks (n + 1) (length m1.marks) Z (table a k) c1 (omega arith))
    ∙ ap (λ ps. map (settled_piece marks) ps ++ lay (in_body w names a k) a k) (reserved_pieces names (labelled m))
settles marks ns x w (Leave at y) m k e h g c = one marks m (piece.Jump at (exit x y)) ∙ ap (λ z. code_of marks m ++ placed at (instr.Jump z) ∷ []) (exit_is marks ns x w y g)
settles marks ns x w (Mark y) m k e h g c = mark_code marks (label_of ns x y) m ∙ sym (append-nil (code_of marks m))
settles marks ns x w (Goto at y) m k e h g c =
    one marks m (goto_piece at (label_of ns x y))
    ∙ ap (λ z. code_of marks m ++ z ∷ []) (goto_is marks at (label_of ns x y))
    ∙ ap (λ z. code_of marks m ++ placed at (instr.Jump z) ∷ []) (g.label y)
