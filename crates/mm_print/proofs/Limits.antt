-- A text whose tree has room passes no limit of a woven program: open brackets and tokens, piece by piece.
use Rattle.std.proofs.Common.{◌≡◌, ℕ, zero, suc, pos, ◌+◌, ◌-◌, ◌≤◌, Bool, true, false, cond, List, [], ◌∷◌, ◌++◌, map, Option, None, Some, refl, sym, ◌∙◌, ap, append_assoc, append-nil, arith}
use Rattle.std.proofs.lemmas.Bool.Decides.{nat_tests}
use Rattle.mm_goto.specs.declared.ident.At.{At}
use Rattle.mm_goto.specs.declared.pure.Binary.{Binary}
use Rattle.mm_tree.specs.declared.side.Side.TheVariants.{Output}
use Rattle.mm_parse_expr.specs.declared.symbol.Symbol.{Symbol}
use Rattle.mm_parse_expr.specs.declared.symbol.Symbol.TheVariants as symbol
use Rattle.mm_parse_expr.specs.declared.symbol.Keyword.{Keyword}
use Rattle.mm_parse_expr.specs.declared.terminal.Terminal.{Terminal}
use Rattle.mm_parse_expr.specs.Grammar.{terminal}
use Rattle.mm_grammar.specs.declared.depth.Counts.{Counts}
use Rattle.mm_grammar.specs.Nesting.{limits, brackets_after, tokens_after, words_within, words_after, counted, passes, deep_behind, deep_at}
use Rattle.mm_print.specs.Pieces.{Piece, mark_text, spaced, commas, called, subscript}
use Rattle.mm_print.specs.Printable.{OneOrMore}
use Rattle.mm_print.specs.Room.{Room, list_room}
use Rattle.mm_print.specs.Expressions.{enclosed}
use Rattle.mm_print.proofs.Signs.{laid, first, behind as past}
use Rattle.mm_print.proofs.Spelling.{signs}

-- so many brackets are open, and so many tokens stand since the last of the four marks
abbrev pub counts : ℕ → ℕ → Counts
counts o n = record { brackets = o; tokens = n; words = 0 }

abbrev pub deep : ℕ → ℕ → List Terminal → Option At
deep o n ts = deep_behind (limits Output) (counts o n) ts

no_words : (o : ℕ) (s : Symbol) → words_within 0 s ≡ 0 → words_after o 0 s ≡ 0
no_words zero s h = refl
no_words (suc o) s h = h

-- a token within the limits
pub token : (o n p m : ℕ) (s : Symbol) (at : At) (x : List ℕ) (ts : List Terminal) → brackets_after o s ≡ p → tokens_after n s ≡ m → words_within 0 s ≡ 0 → p ≤ 512 → m ≤ 2048 → deep o n (terminal s at x ∷ ts) ≡ deep p m ts
token o n p m s at x ts b t w low few =
    let same : counted (counts o n) s ≡ counts p m = λ i. record { brackets = b i; tokens = t i; words = no_words (brackets_after o s) s w i } in
    ap (λ c. cond (passes (limits Output) c) (Some at) (deep_behind (limits Output) c ts)) same
    ∙ ap (λ b. cond b (Some at) (deep p m ts)) within
  where
    within : passes (limits Output) (counts p m) ≡ false
    within = grind (arith, nat_tests)

-- ---- pieces that leave the brackets as they were

-- within so many brackets and tokens more than there are, the pieces pass no limit
pub record IsCalm (ps : List Piece) (b t : ℕ) : Type 0 where
  pub calm : (o n : ℕ) → o + b ≤ 512 → n + t ≤ 2048 → (at : List At) (rest : List Piece) → (m : ℕ) × (m ≤ n + t) × (left : List At) × (deep o n (laid at (signs (ps ++ rest))) ≡ deep o m (laid left (signs rest)))

pub calm_nothing : IsCalm [] 0 0
calm_nothing = record { calm = λ o n h k at rest. (n, omega (arith), at, refl) }

pub calm_more : {ps : List Piece} {b c t u : ℕ} → b ≤ c → t ≤ u → IsCalm ps b t → IsCalm ps c u
calm_more h k r = record { calm = λ o n i j at rest. let a = r.calm o n (omega (arith, h, i)) (omega (arith, k, j)) at rest in (a.0, (let l = a.1 in omega (arith, l, k)), a.2, a.3) }

pub calm_blank : {ps : List Piece} {b t : ℕ} → IsCalm ps b t → IsCalm (Piece.blank ∷ ps) b t
calm_blank r = record { calm = r.calm }

pub calm_join : {ps qs : List Piece} {b t u : ℕ} → IsCalm ps b t → IsCalm qs b u → IsCalm (ps ++ qs) b (t + u)
calm_join {ps = ps} {qs = qs} {b = b} {t = t} {u = u} c d = record { calm = λ o n i j at rest. both o n at rest i j (c.calm o n i (omega (arith, j)) at (qs ++ rest)) }
  where
    both : (o n : ℕ) (at : List At) (rest : List Piece) → o + b ≤ 512 → n + (t + u) ≤ 2048 → ((m : ℕ) × (m ≤ n + t) × (left : List At) × (deep o n (laid at (signs (ps ++ (qs ++ rest)))) ≡ deep o m (laid left (signs (qs ++ rest))))) → (m : ℕ) × (m ≤ n + (t + u)) × (left : List At) × (deep o n (laid at (signs ((ps ++ qs) ++ rest))) ≡ deep o m (laid left (signs rest)))
    both o n at rest i j (m, few, left, e) = let a = d.calm o m i (omega (arith, few, j)) left rest in (a.0, (let k = a.1 in omega (arith, few, k)), a.2, ap (λ us. deep o n (laid at (signs us))) (append_assoc ps qs rest) ∙ e ∙ a.3)

-- a token that is no bracket, none of the four marks, and none of the two words
pub record IsPlain (s : Symbol) : Type 0 where
  pub brackets : (o : ℕ) → brackets_after o s ≡ o
  pub tokens : (n : ℕ) → tokens_after n s ≡ n + 1
  pub words : words_within 0 s ≡ 0

-- a piece that is this token
pub record IsToken (p : Piece) (s : Symbol) : Type 0 where
  pub spelling : List ℕ
  pub laid : (at : List At) (rest : List Piece) → laid at (signs (p ∷ rest)) ≡ terminal s (first at) spelling ∷ laid (past at) (signs rest)

pub calm_token : {p : Piece} {s : Symbol} → IsToken p s → IsPlain s → IsCalm (p ∷ []) 0 1
calm_token {s = s} t h = record {
  calm = λ o n i j at rest.
      (n + 1, omega arith, past at, ap (deep o n) (t.laid at rest) ∙ token o n o (n + 1) s (first at) t.spelling (laid (past at) (signs rest)) (h.brackets o) (h.tokens n) h.words (omega (arith, i)) j);
}

pub plain_operator : (op : Binary) → IsPlain (symbol.Operator op)
plain_operator op = record { brackets = λ o. refl; tokens = λ n. refl; words = refl }

pub calm_name : (x : List ℕ) → IsCalm (Piece.name x ∷ []) 0 1
calm_name x = calm_token {s = symbol.Name} (record { spelling = x; laid = λ at rest. refl }) (record { brackets = λ o. refl; tokens = λ n. refl; words = refl })

pub calm_number : (n : ℕ) → IsCalm (Piece.number n ∷ []) 0 1
calm_number n = calm_token {s = symbol.Number (pos n)} (record { spelling = _; laid = λ at rest. refl }) (record { brackets = λ o. refl; tokens = λ n. refl; words = refl })

pub calm_mark : (s : Symbol) → IsPlain s → IsCalm (Piece.mark s ∷ []) 0 1
calm_mark s h = calm_token {s = s} (record { spelling = _; laid = λ at rest. refl }) h

-- a bracket and the one that closes it
pub record AreBrackets (l r : Symbol) : Type 0 where
  pub opens : (o : ℕ) → brackets_after o l ≡ o + 1
  pub closes : (o : ℕ) → brackets_after (o + 1) r ≡ o
  pub left : (n : ℕ) → tokens_after n l ≡ n + 1
  pub right : (n : ℕ) → tokens_after n r ≡ n + 1
  pub words : words_within 0 l ≡ 0
  pub words' : words_within 0 r ≡ 0

less : (o : ℕ) → o + 1 - 1 ≡ o
less o = omega arith

pub round : AreBrackets symbol.Open symbol.Close
round = record { opens = λ o. refl; closes = less; left = λ n. refl; right = λ n. refl; words = refl; words' = refl }

pub square : AreBrackets symbol.OpenBracket symbol.CloseBracket
square = record { opens = λ o. refl; closes = less; left = λ n. refl; right = λ n. refl; words = refl; words' = refl }

pub calm_within : {l r : Symbol} {ps : List Piece} {b t : ℕ} → AreBrackets l r → IsCalm ps b t → IsCalm (Piece.mark l ∷ ps ++ Piece.mark r ∷ []) (1 + b) (2 + t)
calm_within {l = l} {r = r} {ps = ps} {b = b} {t = t} k c = record { calm = λ o n i j at rest. closed o n at rest (omega (arith, i)) (omega (arith, j)) (c.calm (o + 1) (n + 1) (omega (arith, i)) (omega (arith, j)) (past at) (Piece.mark r ∷ rest)) }
  where
    closed : (o n : ℕ) (at : List At) (rest : List Piece) → o + 1 ≤ 512 → n + 2 + t ≤ 2048 → ((m : ℕ) × (m ≤ n + 1 + t) × (left : List At) × (deep (o + 1) (n + 1) (laid (past at) (signs (ps ++ (Piece.mark r ∷ rest)))) ≡ deep (o + 1) m (laid left (signs (Piece.mark r ∷ rest))))) → (m : ℕ) × (m ≤ n + (2 + t)) × (left : List At) × (deep o n (laid at (signs ((Piece.mark l ∷ ps ++ Piece.mark r ∷ []) ++ rest))) ≡ deep o m (laid left (signs rest)))
    closed o n at rest i j (m, few, left, e) = (
      m + 1,
      omega (arith, few),
      past left,
      token o n (o + 1) (n + 1) l (first at) (mark_text l) (laid (past at) (signs ((ps ++ Piece.mark r ∷ []) ++ rest))) (k.opens o) (k.left n) k.words i (omega (arith, j))
          ∙ ap (λ us. deep (o + 1) (n + 1) (laid (past at) (signs us))) (append_assoc ps (Piece.mark r ∷ []) rest)
          ∙ e
          ∙ token (o + 1) m o (m + 1) r (first left) (mark_text r) (laid (past left) (signs rest)) (k.closes o) (k.right m) k.words' (omega (arith, i)) (omega (arith, few, j)),
    )

-- a comma ends a run
pub calm_comma : IsCalm (Piece.mark symbol.Comma ∷ Piece.blank ∷ []) 0 0
calm_comma = record { calm = λ o n i j at rest. (0, omega arith, past at, token o n o 0 symbol.Comma (first at) (mark_text symbol.Comma) (laid (past at) (signs rest)) refl refl refl (omega (arith, i)) (omega arith)) }

pub calm_null : IsCalm (Piece.null ∷ []) 0 1
calm_null = calm_token {s = symbol.Null} (record { spelling = _; laid = λ at rest. refl }) (record { brackets = λ o. refl; tokens = λ n. refl; words = refl })

pub calm_quoted : (x : List ℕ) → IsCalm (Piece.quoted x ∷ []) 0 1
calm_quoted x = calm_token {s = symbol.Text} (record { spelling = x; laid = λ at rest. refl }) (record { brackets = λ o. refl; tokens = λ n. refl; words = refl })

pub calm_word : (k : Keyword) → IsPlain (symbol.Keyword k) → IsCalm (Piece.word k ∷ []) 0 1
calm_word k h = calm_token {s = symbol.Keyword k} (record { spelling = _; laid = λ at rest. refl }) h

pub plain_assign : IsPlain symbol.Assign
plain_assign = record { brackets = λ o. refl; tokens = λ n. refl; words = refl }

pub plain_update : (op : Binary) → IsPlain (symbol.Update op)
plain_update op = record { brackets = λ o. refl; tokens = λ n. refl; words = refl }

pub plain_colon : IsPlain symbol.Colon
plain_colon = record { brackets = λ o. refl; tokens = λ n. refl; words = refl }

pub plain_question : IsPlain symbol.Question
plain_question = record { brackets = λ o. refl; tokens = λ n. refl; words = refl }

-- more in front of what is calm within as many brackets
pub calm_before : (b : ℕ) {ps qs : List Piece} {t u : ℕ} → IsCalm ps 0 t → IsCalm qs b u → IsCalm (ps ++ qs) b (t + u)
calm_before b c d = calm_join (calm_more (omega arith) (omega arith) c) d

pub calm_spaced : {s : Symbol} {ps : List Piece} {b t : ℕ} → IsPlain s → IsCalm ps b t → IsCalm (spaced s ps) b (1 + t)
calm_spaced {s = s} {b = b} h c = calm_blank (calm_before b {ps = Piece.mark s ∷ []} (calm_mark s h) (calm_blank c))

pub calm_operand : (compound : Bool) {ps : List Piece} {b t : ℕ} → IsCalm ps b t → IsCalm (enclosed compound ps) (1 + b) (2 + t)
calm_operand true c = calm_within round c
calm_operand false c = calm_more (omega arith) (omega arith) c

pub calm_subscript : {ps : List Piece} {b t : ℕ} → IsCalm ps b t → IsCalm (subscript ps) (1 + b) (2 + t)
calm_subscript c = calm_within square c

-- with one within so many brackets and another
pub calm_beside : {ps qs : List Piece} {b c t u : ℕ} → IsCalm ps b t → IsCalm qs c u → IsCalm (ps ++ qs) (b + c) (t + u)
calm_beside {b = b} {c = c} v w = calm_join (calm_more (omega arith) (omega arith) v) (calm_more (omega arith) (omega arith) w)

pub calm_two : (b c : ℕ) {s : Symbol} {ps qs : List Piece} {t u : ℕ} → IsPlain s → IsCalm ps (1 + b) t → IsCalm qs (1 + c) u → IsCalm (ps ++ spaced s qs) (1 + (b + c)) (1 + (t + u))
calm_two b c {s = s} {ps = ps} {qs = qs} {t = t} {u = u} h v w =
    let left : IsCalm ps (1 + (b + c)) t = calm_more (omega arith) (omega arith) v in
    let right : IsCalm qs (1 + (b + c)) u = calm_more (omega arith) (omega arith) w in
    let both : IsCalm (ps ++ spaced s qs) (1 + (b + c)) (t + (1 + u)) = calm_join left (calm_spaced h right) in
    calm_more (omega arith) (omega arith) both

pub calm_called : (p : Piece) {ps : List Piece} {b t : ℕ} → IsCalm (p ∷ []) 0 1 → IsCalm ps b t → IsCalm (called p ps) (1 + b) (3 + t)
calm_called p {ps = ps} {b = b} {t = t} h c =
    let both : IsCalm (called p ps) (1 + b) (1 + (2 + t)) = calm_before (1 + b) h (calm_within round c) in
    calm_more (omega arith) (omega arith) both

pub calm_after_comma : {ps : List Piece} {b t : ℕ} → IsCalm ps b t → IsCalm (Piece.mark symbol.Comma ∷ Piece.blank ∷ ps) b t
calm_after_comma {ps = ps} {b = b} {t = t} c =
    let both : IsCalm (Piece.mark symbol.Comma ∷ Piece.blank ∷ ps) b (0 + t) = calm_before b calm_comma c in
    calm_more (omega arith) (omega arith) both

-- ---- lists

pub calm_list : {A : Type 0} {P : A → Type 0} (pieces : A → List Piece) (room : (a : A) → P a → Room) → ((a : A) (h : P a) → IsCalm (pieces a) (room a h).brackets (room a h).tokens) → (xs : List A) (h : OneOrMore P xs) → IsCalm (commas (map pieces xs)) (list_room room h).brackets (list_room room h).tokens
calm_list pieces room each xs (OneOrMore.last {a = a} h) = each a h
calm_list pieces room each xs (OneOrMore.more {a = a} {b = b} {xs = ys} h hs) = calm_beside (each a h) (calm_after_comma (calm_list pieces room each (b ∷ ys) hs))

-- the comma between two keeps both within what each takes
comma_between : {ps qs : List Piece} {b t : ℕ} → IsCalm ps b t → IsCalm qs b t → IsCalm (ps ++ Piece.mark symbol.Comma ∷ Piece.blank ∷ qs) b t
comma_between {ps = ps} {qs = qs} {b = b} {t = t} c d = record { calm = λ o n i j at rest. both o n at rest i j (c.calm o n i j at (Piece.mark symbol.Comma ∷ Piece.blank ∷ (qs ++ rest))) }
  where
    both : (o n : ℕ) (at : List At) (rest : List Piece) → o + b ≤ 512 → n + t ≤ 2048 → ((m : ℕ) × (m ≤ n + t) × (left : List At) × (deep o n (laid at (signs (ps ++ (Piece.mark symbol.Comma ∷ Piece.blank ∷ (qs ++ rest))))) ≡ deep o m (laid left (signs (Piece.mark symbol.Comma ∷ Piece.blank ∷ (qs ++ rest)))))) → (m : ℕ) × (m ≤ n + t) × (left : List At) × (deep o n (laid at (signs ((ps ++ Piece.mark symbol.Comma ∷ Piece.blank ∷ qs) ++ rest))) ≡ deep o m (laid left (signs rest)))
    both o n at rest i j (m, few, left, e) =
        let a = d.calm o 0 i (omega (arith, j)) (past left) rest in (
          a.0,
          (let k = a.1 in omega (arith, k)),
          a.2,
          ap (λ us. deep o n (laid at (signs us))) (append_assoc ps (Piece.mark symbol.Comma ∷ Piece.blank ∷ qs) rest)
              ∙ e
              ∙ token o m o 0 symbol.Comma (first left) (mark_text symbol.Comma) (laid (past left) (signs (qs ++ rest))) refl refl refl (omega (arith, i)) (omega arith)
              ∙ a.3,
        )

pub calm_all : {A : Type 0} {P : A → Type 0} (pieces : A → List Piece) (b t : ℕ) → ((a : A) → P a → IsCalm (pieces a) b t) → (xs : List A) → OneOrMore P xs → IsCalm (commas (map pieces xs)) b t
calm_all pieces b t each xs (OneOrMore.last {a = a} h) = each a h
calm_all pieces b t each xs (OneOrMore.more {a = a} {b = c} {xs = ys} h hs) = comma_between (each a h) (calm_all pieces b t each (c ∷ ys) hs)

-- start values in braces
pub calm_braces : {ps : List Piece} {b t : ℕ} → t ≤ 2048 → IsCalm ps b t → IsCalm (Piece.mark symbol.OpenBrace ∷ ps ++ Piece.mark symbol.CloseBrace ∷ []) (1 + b) 0
calm_braces {ps = ps} {b = b} {t = t} h c = record { calm = λ o n i j at rest. closed o n at rest (omega (arith, i)) (c.calm (o + 1) 0 (omega (arith, i)) (omega (arith, h)) (past at) (Piece.mark symbol.CloseBrace ∷ rest)) }
  where
    closed : (o n : ℕ) (at : List At) (rest : List Piece) → o + 1 ≤ 512 → ((m : ℕ) × (m ≤ 0 + t) × (left : List At) × (deep (o + 1) 0 (laid (past at) (signs (ps ++ (Piece.mark symbol.CloseBrace ∷ rest)))) ≡ deep (o + 1) m (laid left (signs (Piece.mark symbol.CloseBrace ∷ rest))))) → (m : ℕ) × (m ≤ n + 0) × (left : List At) × (deep o n (laid at (signs ((Piece.mark symbol.OpenBrace ∷ ps ++ Piece.mark symbol.CloseBrace ∷ []) ++ rest))) ≡ deep o m (laid left (signs rest)))
    closed o n at rest i (m, few, left, e) = (
      0,
      omega arith,
      past left,
      token o n (o + 1) 0 symbol.OpenBrace (first at) (mark_text symbol.OpenBrace) (laid (past at) (signs ((ps ++ Piece.mark symbol.CloseBrace ∷ []) ++ rest))) refl refl refl i (omega arith)
          ∙ ap (λ us. deep (o + 1) 0 (laid (past at) (signs us))) (append_assoc ps (Piece.mark symbol.CloseBrace ∷ []) rest)
          ∙ e
          ∙ token (o + 1) m o 0 symbol.CloseBrace (first left) (mark_text symbol.CloseBrace) (laid (past left) (signs rest)) (less o) refl refl (omega (arith, i)) (omega arith),
    )

-- ---- statements and blocks

-- within so many brackets and tokens more, the pieces pass no limit, and no token is counted behind them
pub record IsClosed (ps : List Piece) (b t : ℕ) : Type 0 where
  pub closed : (o n : ℕ) → o + b ≤ 512 → n + t ≤ 2048 → (at : List At) (rest : List Piece) → (left : List At) × (deep o n (laid at (signs (ps ++ rest))) ≡ deep o 0 (laid left (signs rest)))

-- the same where none is counted before them
pub record Runs (ps : List Piece) (b : ℕ) : Type 0 where
  pub run : (o : ℕ) → o + b ≤ 512 → (at : List At) (rest : List Piece) → (left : List At) × (deep o 0 (laid at (signs (ps ++ rest))) ≡ deep o 0 (laid left (signs rest)))

pub closed_more : {ps : List Piece} {b c t u : ℕ} → b ≤ c → t ≤ u → IsClosed ps b t → IsClosed ps c u
closed_more h k r = record { closed = λ o n i j at rest. r.closed o n (omega (arith, h, i)) (omega (arith, k, j)) at rest }

-- a semicolon
pub closed_semicolon : {ps : List Piece} {b t : ℕ} → IsCalm ps b t → IsClosed (ps ++ Piece.mark symbol.Semicolon ∷ []) b t
closed_semicolon {ps = ps} {b = b} {t = t} c = record { closed = λ o n i j at rest. ended o n at rest (omega (arith, i)) (c.calm o n i j at (Piece.mark symbol.Semicolon ∷ rest)) }
  where
    ended : (o n : ℕ) (at : List At) (rest : List Piece) → o ≤ 512 → ((m : ℕ) × (m ≤ n + t) × (left : List At) × (deep o n (laid at (signs (ps ++ (Piece.mark symbol.Semicolon ∷ rest)))) ≡ deep o m (laid left (signs (Piece.mark symbol.Semicolon ∷ rest))))) → (left : List At) × (deep o n (laid at (signs ((ps ++ Piece.mark symbol.Semicolon ∷ []) ++ rest))) ≡ deep o 0 (laid left (signs rest)))
    ended o n at rest i (m, few, left, e) = (
      past left,
      ap (λ us. deep o n (laid at (signs us))) (append_assoc ps (Piece.mark symbol.Semicolon ∷ []) rest)
          ∙ e
          ∙ token o m o 0 symbol.Semicolon (first left) (mark_text symbol.Semicolon) (laid (past left) (signs rest)) refl refl refl i (omega arith),
    )

pub closed_behind : {ps qs : List Piece} {b t u : ℕ} → IsCalm ps b t → IsClosed qs b u → IsClosed (ps ++ qs) b (t + u)
closed_behind {ps = ps} {qs = qs} {b = b} {t = t} {u = u} c d = record { closed = λ o n i j at rest. both o n at rest i j (c.calm o n i (omega (arith, j)) at (qs ++ rest)) }
  where
    both : (o n : ℕ) (at : List At) (rest : List Piece) → o + b ≤ 512 → n + (t + u) ≤ 2048 → ((m : ℕ) × (m ≤ n + t) × (left : List At) × (deep o n (laid at (signs (ps ++ (qs ++ rest)))) ≡ deep o m (laid left (signs (qs ++ rest))))) → (left : List At) × (deep o n (laid at (signs ((ps ++ qs) ++ rest))) ≡ deep o 0 (laid left (signs rest)))
    both o n at rest i j (m, few, left, e) = let a = d.closed o m i (omega (arith, few, j)) left rest in (a.0, ap (λ us. deep o n (laid at (signs us))) (append_assoc ps qs rest) ∙ e ∙ a.1)

pub run_nothing : {b : ℕ} → Runs [] b
run_nothing = record { run = λ o i at rest. (at, refl) }

-- a statement on a line, and those behind it
pub run_more : (n : ℕ) {ps qs : List Piece} {b t : ℕ} → t ≤ 2048 → IsClosed ps b t → Runs qs b → Runs (Piece.line n ∷ ps ++ qs) b
run_more n {ps = ps} {qs = qs} h c d = record {
  run = λ o i at rest.
      let a = c.closed o 0 i (omega (arith, h)) at (qs ++ rest) in
      let e = d.run o i a.0 rest in
      (e.0, ap (λ us. deep o 0 (laid at (signs us))) (append_assoc ps qs rest) ∙ a.1 ∙ e.1);
}

-- an item, and those behind it
pub run_items : (n : ℕ) {ps qs : List Piece} {b t : ℕ} → t ≤ 2048 → IsClosed ps b t → Runs qs b → Runs ((ps ++ Piece.line n ∷ []) ++ qs) b
run_items n {ps = ps} {qs = qs} h c d = record {
  run = λ o i at rest.
      let a = c.closed o 0 i (omega (arith, h)) at (Piece.line n ∷ (qs ++ rest)) in
      let e = d.run o i a.0 rest in
      (e.0, ap (λ us. deep o 0 (laid at (signs us))) (front rest) ∙ a.1 ∙ e.1);
}
  where
    front : (rest : List Piece) → ((ps ++ Piece.line n ∷ []) ++ qs) ++ rest ≡ ps ++ (Piece.line n ∷ (qs ++ rest))
    front rest = simp append_assoc

-- a block
pub closed_braces : (n : ℕ) {ps : List Piece} {b : ℕ} → Runs ps b → IsClosed (Piece.mark symbol.OpenBrace ∷ ps ++ Piece.line n ∷ Piece.mark symbol.CloseBrace ∷ []) (1 + b) 0
closed_braces n {ps = ps} {b = b} r = record {
  closed = λ o m i j at rest.
      let a = r.run (o + 1) (omega (arith, i)) (past at) (Piece.line n ∷ Piece.mark symbol.CloseBrace ∷ rest) in (
        past a.0,
        token o m (o + 1) 0 symbol.OpenBrace (first at) (mark_text symbol.OpenBrace) (laid (past at) (signs ((ps ++ Piece.line n ∷ Piece.mark symbol.CloseBrace ∷ []) ++ rest))) refl refl refl (omega (arith, i)) (omega arith)
            ∙ ap (λ us. deep (o + 1) 0 (laid (past at) (signs us))) (append_assoc ps (Piece.line n ∷ Piece.mark symbol.CloseBrace ∷ []) rest)
            ∙ a.1
            ∙ token (o + 1) 0 o 0 symbol.CloseBrace (first a.0) (mark_text symbol.CloseBrace) (laid (past a.0) (signs rest)) (less o) refl refl (omega (arith, i)) (omega arith),
      );
}

-- a program that is such a run passes no limit
pub run_is_shallow : {ps : List Piece} {b : ℕ} → b ≤ 512 → Runs ps b → (at : List At) → deep_at Output (laid at (signs ps)) ≡ None
run_is_shallow {ps = ps} {b = b} h r at =
    let a = r.run 0 (omega (arith, h)) at [] in
    ap (λ us. deep_at Output (laid at (signs us))) (sym (append-nil ps)) ∙ a.1

pub closed_blank : {ps : List Piece} {b t : ℕ} → IsClosed ps b t → IsClosed (Piece.blank ∷ ps) b t
closed_blank c = record { closed = c.closed }

-- a closed run, and another behind it
pub closed_then : {ps qs : List Piece} {b t u : ℕ} → u ≤ 2048 → IsClosed ps b t → IsClosed qs b u → IsClosed (ps ++ qs) b t
closed_then {ps = ps} {qs = qs} h c d = record {
  closed = λ o n i j at rest.
      let a = c.closed o n i j at (qs ++ rest) in
      let e = d.closed o 0 i (omega (arith, h)) a.0 rest in
      (e.0, ap (λ us. deep o n (laid at (signs us))) (append_assoc ps qs rest) ∙ a.1 ∙ e.1);
}
