-- What it is that pieces are read as a part of a tree, in front of any others.
use Rattle.std.proofs.Common.{◌≡◌, ℕ, true, List, [], ◌∷◌, ◌++◌, map, refl, sym, subst, append_assoc}
use Rattle.mm_goto.specs.declared.ident.At.{At}
use Rattle.mm_parse_expr.specs.declared.symbol.Symbol.{Symbol}
use Rattle.mm_parse_expr.specs.declared.symbol.Symbol.TheVariants as symbol
use Rattle.mm_parse_expr.specs.declared.terminal.Terminal.{Terminal}
use Rattle.mm_parse_expr.specs.Grammar.{terminal}
use Rattle.mm_print.specs.Pieces.{Piece, commas}
use Rattle.mm_print.specs.Printable.{OneOrMore}
use Rattle.mm_print.proofs.Signs.{laid, behind as past}
use Rattle.mm_print.proofs.Spelling.{Fit, ends_word, signs}

-- a line of the grammar: from some terminals on there is a tree, and then the others
abbrev pub Line : Type 0 → Type 1
Line A = List Terminal → A → List Terminal → Type 0

-- at these places the front is read as the part but for its places, and rest is left
pub record Read {A : Type 0} (bare : A → A) (L : Line A) (ps : List At) (front rest : List Piece) (a : A) : Type 0 where
  pub tree : A
  pub left : List At
  pub parsed : L (laid ps (signs front)) tree (laid left (signs rest))
  pub same : bare tree ≡ bare a

-- in front of what ends a word these pieces are tokens, and are read as the part
pub record Reads {A : Type 0} (bare : A → A) (L : Line A) (a : A) (us : List Piece) : Type 0 where
  pub fit : (rest : List Piece) → ends_word rest ≡ true → Fit rest → Fit (us ++ rest)
  pub read : (ps : List At) (rest : List Piece) → Read bare L ps (us ++ rest) rest a

-- ---- a mark behind, or a comma between

pub behind : (us rest : List Piece) (s : Symbol) → us ++ (Piece.mark s ∷ rest) ≡ (us ++ Piece.mark s ∷ []) ++ rest
behind us rest s = sym (append_assoc us (Piece.mark s ∷ []) rest)

pub comma_front : (us vs rest : List Piece) → us ++ (Piece.mark symbol.Comma ∷ Piece.blank ∷ (vs ++ rest)) ≡ (us ++ Piece.mark symbol.Comma ∷ Piece.blank ∷ vs) ++ rest
comma_front us vs rest = sym (append_assoc us (Piece.mark symbol.Comma ∷ Piece.blank ∷ vs) rest)

-- ---- lists

pub cons_same : {A B : Type 0} (h : A → B) (x y : A) (xs ys : List A) → h x ≡ h y → map h xs ≡ map h ys → map h (x ∷ xs) ≡ map h (y ∷ ys)
cons_same h x y xs ys e k = cc

-- a line of the grammar for one or more with commas between them
pub record Commas {A : Type 0} (L : Line A) (Ls : Line (List A)) : Type 0 where
  pub last : {a : A} {ts rest : List Terminal} → L ts a rest → Ls ts (a ∷ []) rest
  pub more : {a : A} {xs : List A} {ts us rest : List Terminal} {p : At} {x : List ℕ} → L ts a (terminal symbol.Comma p x ∷ us) → Ls us xs rest → Ls ts (a ∷ xs) rest

pub commas_read : {A : Type 0} (bare : A → A) (L : Line A) (Ls : Line (List A)) (pieces : A → List Piece) (P : A → Type 0) → Commas L Ls → ((a : A) → P a → Reads bare L a (pieces a)) → {xs : List A} → OneOrMore P xs → Reads (map bare) Ls xs (commas (map pieces xs))
commas_read bare L Ls pieces P c each (OneOrMore.last {a = a} h) = record {
  fit = (each a h).fit;
  read = λ ps rest. let r = (each a h).read ps rest in record { tree = r.tree ∷ []; left = r.left; parsed = c.last r.parsed; same = cons_same bare r.tree a [] [] r.same refl };
}
commas_read bare L Ls pieces P c each (OneOrMore.more {a = a} {b = b} {xs = xs} h hs) =
    let r = each a h in
    let t = commas_read bare L Ls pieces P c each hs in
    record {
      fit = λ rest k f. subst Fit (comma_front (pieces a) (commas (map pieces (b ∷ xs))) rest) (r.fit (Piece.mark symbol.Comma ∷ Piece.blank ∷ (commas (map pieces (b ∷ xs)) ++ rest)) refl (tt, refl, (tt, refl, t.fit rest k f)));
      read = λ ps rest. subst (λ us. Read (map bare) Ls ps us rest (a ∷ b ∷ xs)) (comma_front (pieces a) (commas (map pieces (b ∷ xs))) rest)
          (let i = r.read ps (Piece.mark symbol.Comma ∷ Piece.blank ∷ (commas (map pieces (b ∷ xs)) ++ rest)) in
          let j = t.read (past i.left) rest in
          record { tree = i.tree ∷ j.tree; left = j.left; parsed = c.more i.parsed j.parsed; same = cons_same bare i.tree a j.tree (b ∷ xs) i.same j.same });
    }
