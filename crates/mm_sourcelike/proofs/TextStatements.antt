-- What the statements of the grammar are like: their phrases are short, their numbers are ints, declarations stand in blocks, and there
-- are no more assertions than tokens.
use Rattle.std.proofs.Common.{arith, ◌≡◌, refl, subst, sym, ap, ◌∙◌, ℕ, ℤ, ◌+◌, ◌≤◌, Bool, true, false, not, ◌&&◌, List, [], ◌∷◌, ◌++◌, map, length, cond, Option, Some, None}
use Rattle.std.specs.List.{AllByRecursion, count_by, flat_map}
use Rattle.std.proofs.lemmas.List.Sums.{sum_by-append, sum_by-cons}
use Rattle.mm_goto.specs.declared.ident.At.{At}
use Rattle.mm_goto.specs.declared.pure.Binary.{Binary}
use Rattle.mm_goto.specs.declared.pure.Binary.TheVariants as binary
use Rattle.mm_goto.specs.Valid.{IsInt}
use Rattle.mm_tree.specs.declared.expr.Expr.{Expr}
use Rattle.mm_tree.specs.declared.expr.Word.{Word}
use Rattle.mm_tree.specs.declared.stmt.Left.{Left}
use Rattle.mm_tree.specs.declared.stmt.Local.{Local}
use Rattle.mm_tree.specs.declared.stmt.Value.{Value}
use Rattle.mm_tree.specs.declared.stmt.Value.TheVariants as value
use Rattle.mm_tree.specs.declared.stmt.Stmt.{Stmt}
use Rattle.mm_tree.specs.declared.stmt.StmtNode.{StmtNode, roll-StmtNode}
use Rattle.mm_tree.specs.declared.stmt.StmtNode.TheVariants as stmt
use Rattle.mm_tree.specs.declared.stmt.StmtNode.TheOpen as layer
use Rattle.mm_tree.specs.declared.stmt.StmtNode.TheOpen.{StmtNode-F}
use Rattle.mm_tree.specs.declared.stmt.StmtNode.TheFolds.{fold-StmtNode, fold-roll-StmtNode, fold-roll-Stmt, map-StmtNode}
use Rattle.mm_tree.specs.Trees.{statement, word as word_at}
use Rattle.mm_flow.specs.declared.mentions.Mention.{Mention}
use Rattle.mm_flow.specs.declared.mentions.Mention.TheVariants.{Label}
use Rattle.mm_flow.specs.Text.{is_assertion, mention_step, mentions_of, of_local}
use Rattle.mm_flow.specs.Text as mention
use Rattle.mm_parse_expr.specs.declared.terminal.Terminal.{Terminal}
use Rattle.mm_parse_expr.specs.declared.symbol.Symbol.TheVariants.{Semicolon}
use Rattle.mm_parse_expr.specs.Grammar.{terminal}
use Rattle.mm_grammar.specs.StatementGrammar as g
use Rattle.mm_grammar.specs.StatementGrammar.{IsAssign, IsNull, IsAction, AreNames, IsStar, IsLocal, AreLocals, IsDeclaration, IsStep, IsFirst, IsCondition, IsGiven, IsStmt, IsStmtNode, IsBody, one}
use Rattle.mm_grammar.proofs.StatementShorter.{assign_shorter, action_shorter, declaration_shorter, step_shorter, first_shorter, condition_shorter, given_shorter}
use Rattle.mm_parse_expr.proofs.ExprComplete.{expr_shorter}
use Rattle.mm_print.specs.Printable.{updates}
use Rattle.mm_sourcelike.specs.Ints.{numbers_of, of_value, of_left, of_optional, of_locals, of_parts, stmt_numbers, stmt_layer, of_stmt}
use Rattle.mm_sourcelike.specs.Shapes.{Shape, shape_step, shape_layer, shape_of, are_scoped, is_closed}
use Rattle.mm_sourcelike.specs.Grammatical.{Phrase, alone, updating, IsPhrase, left_phrases, value_phrases, optional_phrases, local_phrases, all_phrases, stmt_phrases, phrases_layer, phrases_of}
use Rattle.mm_sourcelike.proofs.TextStreams.{Stream, within}
use Rattle.mm_sourcelike.proofs.TextExpressions.{both, Spelled, expr_read, one_spelled}
use Rattle.mm_sourcelike.proofs.TextValues.{spelled_ints, spelled_unsigned, phrase_alone, left_read, call_read, value_read}

-- ---- one layer of a statement

abbrev phrases_in : StmtNode-F StmtNode Stmt → List Phrase
phrases_in z = stmt_phrases (map-StmtNode StmtNode Stmt (List Phrase) (List Phrase) (fold-StmtNode (List Phrase) (List Phrase) stmt_phrases phrases_layer) phrases_of z)

abbrev ints_in : StmtNode-F StmtNode Stmt → List ℤ
ints_in z = stmt_numbers (map-StmtNode StmtNode Stmt (List ℤ) (List ℤ) (fold-StmtNode (List ℤ) (List ℤ) stmt_numbers stmt_layer) of_stmt z)

abbrev shape_in : StmtNode-F StmtNode Stmt → Shape
shape_in z = shape_step (map-StmtNode StmtNode Stmt Shape Shape (fold-StmtNode Shape Shape shape_step shape_layer) shape_of z)

abbrev mentions_in : StmtNode-F StmtNode Stmt → List Mention
mentions_in z = mention_step (map-StmtNode StmtNode Stmt (List Mention) (List Mention) (fold-StmtNode (List Mention) (List Mention) mention_step (λ layer. layer.node)) mentions_of z)

phrases_at : (at : At) (z : StmtNode-F StmtNode Stmt) → phrases_of (statement at (roll-StmtNode z)) ≡ phrases_in z
unfolding phrases_of
phrases_at at z = fold-roll-Stmt (List Phrase) (List Phrase) stmt_phrases phrases_layer (record { at = at; node = roll-StmtNode z }) ∙ fold-roll-StmtNode (List Phrase) (List Phrase) stmt_phrases phrases_layer z

ints_at : (at : At) (z : StmtNode-F StmtNode Stmt) → of_stmt (statement at (roll-StmtNode z)) ≡ ints_in z
unfolding of_stmt
ints_at at z = fold-roll-Stmt (List ℤ) (List ℤ) stmt_numbers stmt_layer (record { at = at; node = roll-StmtNode z }) ∙ fold-roll-StmtNode (List ℤ) (List ℤ) stmt_numbers stmt_layer z

shape_at : (at : At) (z : StmtNode-F StmtNode Stmt) → shape_of (statement at (roll-StmtNode z)) ≡ shape_in z
unfolding shape_of
shape_at at z = fold-roll-Stmt Shape Shape shape_step shape_layer (record { at = at; node = roll-StmtNode z }) ∙ fold-roll-StmtNode Shape Shape shape_step shape_layer z

mentions_at : (at : At) (z : StmtNode-F StmtNode Stmt) → mentions_of (statement at (roll-StmtNode z)) ≡ mentions_in z
unfolding mentions_of
mentions_at at z = fold-roll-Stmt (List Mention) (List Mention) mention_step (λ layer. layer.node) (record { at = at; node = roll-StmtNode z }) ∙ fold-roll-StmtNode (List Mention) (List Mention) mention_step (λ layer. layer.node) z

module _ (most : ℕ) where
  -- ---- statements

  abbrev pub asserts : List Mention → ℕ
  asserts ms = count_by is_assertion ms

  -- it is of short phrases and ints, scoped, declares or not, and has so many assertions at most
  pub record Fits (declares : Bool) (many : ℕ) (s : Stmt) : Type 0 where
    pub phrases : AllByRecursion (IsPhrase most) (phrases_of s)
    pub ints : AllByRecursion IsInt (of_stmt s)
    pub scoped : (shape_of s).is_scoped ≡ true
    pub declared : (shape_of s).declares ≡ declares
    pub few : asserts (mentions_of s) ≤ many

  pub record Layer (declares : Bool) (many : ℕ) (z : StmtNode-F StmtNode Stmt) : Type 0 where
    pub phrases : AllByRecursion (IsPhrase most) (phrases_in z)
    pub ints : AllByRecursion IsInt (ints_in z)
    pub scoped : (shape_in z).is_scoped ≡ true
    pub declared : (shape_in z).declares ≡ declares
    pub few : asserts (mentions_in z) ≤ many

  fits : {declares : Bool} {many : ℕ} (m : StmtNode) (z : StmtNode-F StmtNode Stmt) → roll-StmtNode z ≡ m → Layer declares many z → (at : At) → Fits declares many (statement at m)
  fits {declares} {many} m z is layer at = subst (λ (k : StmtNode). Fits declares many (statement at k)) is (record {
    phrases = subst (λ (ps : List Phrase). AllByRecursion (IsPhrase most) ps) (sym (phrases_at at z)) layer.phrases;
    ints = subst (λ (zs : List ℤ). AllByRecursion IsInt zs) (sym (ints_at at z)) layer.ints;
    scoped = ap (λ (d : Shape). d.is_scoped) (shape_at at z) ∙ layer.scoped;
    declared = ap (λ (d : Shape). d.declares) (shape_at at z) ∙ layer.declared;
    few = subst (λ (ms : List Mention). asserts ms ≤ many) (sym (mentions_at at z)) layer.few;
  })

  asserts_append : (xs ys : List Mention) → asserts (xs ++ ys) ≡ asserts xs + asserts ys
  asserts_append xs ys = sum_by-append (λ (m : Mention). cond (is_assertion m) 1 0) xs ys

  -- a node from some terminals to others: what it is wherever it stands
  pub record NodeRead (declares : Bool) (ts : List Terminal) (m : StmtNode) (rest : List Terminal) : Type 0 where
    pub after : ℕ
    pub stream : Stream most after rest
    pub many : ℕ
    pub few : many + length rest ≤ length ts
    pub fits : (at : At) → Fits declares many (statement at m)

  pub record StmtRead (declares : Bool) (ts : List Terminal) (s : Stmt) (rest : List Terminal) : Type 0 where
    pub after : ℕ
    pub stream : Stream most after rest
    pub many : ℕ
    pub few : many + length rest ≤ length ts
    pub is : Fits declares many s

  -- a layer with no statements in it
  leaf : {many : ℕ} (z : StmtNode-F StmtNode Stmt) → AllByRecursion (IsPhrase most) (phrases_in z) → AllByRecursion IsInt (ints_in z) → shape_in z ≡ record { declares = false; is_scoped = true } → asserts (mentions_in z) ≤ many → Layer false many z
  leaf z phrases ints shape few = record { phrases = phrases; ints = ints; scoped = ap (λ (d : Shape). d.is_scoped) shape; declared = ap (λ (d : Shape). d.declares) shape; few = few }

  -- ---- assignments

  value_asserts : (v : Value) → asserts (mention.of_value v) ≡ 0
  value_asserts (value.Plain e) = refl
  value_asserts (value.Call at f es) = refl
  value_asserts (value.FetchAdd at p e) = refl
  value_asserts (value.CompareSwap at p e f) = refl

  optional_asserts : (v : Option Value) → asserts (mention.of_optional v) ≡ 0
  optional_asserts None = refl
  optional_asserts (Some v) = value_asserts v

  record AssignRead (m : StmtNode) (rest : List Terminal) : Type 0 where
    pub after : ℕ
    pub stream : Stream most after rest
    pub fits : (at : At) → Fits false 0 (statement at m)

  update_fits : {n after : ℕ} (l : Left) (op : Binary) (e : Expr) → AllByRecursion (IsPhrase most) (left_phrases l.node) → AllByRecursion IsInt (of_left l.node) → Spelled n after e → after ≤ most → updates op ≡ true → (at : At) → Fits false 0 (statement at (stmt.Update l op e))
  update_fits l op e phrases ints is bound by = fits (stmt.Update l op e) (layer.Update l op e) (stmt.rolls-Update l op e)
      (leaf (layer.Update l op e)
      (both (IsPhrase most) (left_phrases l.node) (updating op e ∷ []) phrases (record { short = omega (arith, is.tokens, bound); numbers = spelled_unsigned e is; update = by }, tt))
      (both IsInt (of_left l.node) (numbers_of e) ints (spelled_ints e is))
      refl (omega arith))

  assign_read : {ts : List Terminal} {m : StmtNode} {rest : List Terminal} → IsAssign ts m rest → (n : ℕ) → Stream most n ts → AssignRead m rest
  assign_read (g.assign {l = l} {v = v} d f) n s =
      let x = left_read most d n s in
      let y = value_read most f (x.after + 1) x.stream.2 in
      record {
        after = y.after;
        stream = y.stream;
        fits = fits (stmt.Assign l v) (layer.Assign l v) (stmt.rolls-Assign l v)
            (leaf (layer.Assign l v)
            (both (IsPhrase most) (left_phrases l.node) (value_phrases v) x.phrases y.phrases)
            (both IsInt (of_left l.node) (of_value v) x.ints y.ints)
            refl (omega (arith, value_asserts v)));
      }
  assign_read {rest = rest} (g.update {l = l} {op = op} {e = e} d f) n s =
      let x = left_read most d n s in
      let y = expr_read most f (x.after + 1) x.stream.2 in
      record {
        after = y.after;
        stream = y.stream;
        fits = update_fits l op e x.phrases x.ints y.is (within most y.after rest y.stream) x.stream.1;
      }
  assign_read {rest = rest} (g.increment {l = l} {p = p} d) n s =
      let x = left_read most d n s in
      record {
        after = x.after + 1;
        stream = x.stream.2;
        fits = update_fits l binary.Add (one p) x.phrases x.ints (one_spelled x.after p) (within most (x.after + 1) rest x.stream.2) refl;
      }
  assign_read {rest = rest} (g.decrement {l = l} {p = p} d) n s =
      let x = left_read most d n s in
      record {
        after = x.after + 1;
        stream = x.stream.2;
        fits = update_fits l binary.Sub (one p) x.phrases x.ints (one_spelled x.after p) (within most (x.after + 1) rest x.stream.2) refl;
      }
  assign_read (g.increment_before {l = l} {ts = ts} {p = p} d) n s =
      let x = left_read most d (n + 1) s.2 in
      record {
        after = x.after;
        stream = x.stream;
        fits = update_fits l binary.Add (one p) x.phrases x.ints (one_spelled 0 p) (omega (arith, within most (n + 1) ts s.2)) refl;
      }
  assign_read (g.decrement_before {l = l} {ts = ts} {p = p} d) n s =
      let x = left_read most d (n + 1) s.2 in
      record {
        after = x.after;
        stream = x.stream;
        fits = update_fits l binary.Sub (one p) x.phrases x.ints (one_spelled 0 p) (omega (arith, within most (n + 1) ts s.2)) refl;
      }

  -- ---- actions

  record ActionRead (m : StmtNode) (rest : List Terminal) : Type 0 where
    pub after : ℕ
    pub stream : Stream most after rest
    pub fits : (at : At) → Fits false 1 (statement at m)

  null_read : {ts rest : List Terminal} → IsNull ts rest → (n : ℕ) → Stream most n ts → Stream most (n + 1) rest
  null_read g.null_word n s = s.2
  null_read g.null_number n s = s.2

  plain_fits : {many : ℕ} (m : StmtNode) (z : StmtNode-F StmtNode Stmt) → roll-StmtNode z ≡ m → phrases_in z ≡ [] → ints_in z ≡ [] → shape_in z ≡ record { declares = false; is_scoped = true } → asserts (mentions_in z) ≤ many → (at : At) → Fits false many (statement at m)
  plain_fits m z is phrases ints shape few = fits m z is (leaf z (subst (λ (ps : List Phrase). AllByRecursion (IsPhrase most) ps) (sym phrases) tt) (subst (λ (zs : List ℤ). AllByRecursion IsInt zs) (sym ints) tt) shape few)

  action_read : {ts : List Terminal} {m : StmtNode} {rest : List Terminal} → IsAction ts m rest → (n : ℕ) → Stream most n ts → ActionRead m rest
  action_read (g.effect {v = v} d) n s =
      let x = call_read most d n s in
      record { after = x.after; stream = x.stream; fits = fits (stmt.Do v) (layer.Do v) (stmt.rolls-Do v) (leaf (layer.Do v) x.phrases x.ints refl (omega (arith, value_asserts v))) }
  action_read (g.assert {e = e} d) n s =
      let x = expr_read most d (n + 1 + 1) s.2.2 in
      record { after = x.after + 1; stream = x.stream.2; fits = fits (stmt.Assert e None) (layer.Assert e None) (stmt.rolls-Assert e None) (leaf (layer.Assert e None) (phrase_alone most e x.is x.stream.0, tt) (spelled_ints e x.is) refl (omega arith)) }
  action_read (g.named_assert {e = e} {w = w} d) n s =
      let x = expr_read most d (n + 1 + 1) s.2.2 in
      record { after = 0 + 1 + 1; stream = x.stream.2.2.2; fits = fits (stmt.Assert e (Some w)) (layer.Assert e (Some w)) (stmt.rolls-Assert e (Some w)) (leaf (layer.Assert e (Some w)) (phrase_alone most e x.is x.stream.0, tt) (spelled_ints e x.is) refl (omega arith)) }
  action_read (g.assume {e = e} d) n s =
      let x = expr_read most d (n + 1 + 1) s.2.2 in
      record { after = x.after + 1; stream = x.stream.2; fits = fits (stmt.Assume e) (layer.Assume e) (stmt.rolls-Assume e) (leaf (layer.Assume e) (phrase_alone most e x.is x.stream.0, tt) (spelled_ints e x.is) refl (omega arith)) }
  action_read g.fence n s = record { after = n + 1 + 1 + 1; stream = s.2.2.2; fits = plain_fits stmt.Fence layer.Fence stmt.rolls-Fence refl refl refl (omega arith) }
  action_read (g.lock {s = p} {w = w}) n s = record { after = n + 1 + 1 + 1 + 1 + 1; stream = s.2.2.2.2.2; fits = plain_fits (stmt.Lock (word_at p w)) (layer.Lock (word_at p w)) (stmt.rolls-Lock (word_at p w)) refl refl refl (omega arith) }
  action_read (g.unlock {s = p} {w = w}) n s = record { after = n + 1 + 1 + 1 + 1 + 1; stream = s.2.2.2.2.2; fits = plain_fits (stmt.Unlock (word_at p w)) (layer.Unlock (word_at p w)) (stmt.rolls-Unlock (word_at p w)) refl refl refl (omega arith) }
  action_read (g.start {s = p} {j = q} {w = w} {b = b} d f) n s =
      let x = null_read d 0 s.2.2.2.2.2 in
      let y = null_read f 0 x.2.2.2 in
      record { after = 0 + 1 + 1; stream = y.2; fits = plain_fits (stmt.Start (word_at p w) (word_at q b)) (layer.Start (word_at p w) (word_at q b)) (stmt.rolls-Start (word_at p w) (word_at q b)) refl refl refl (omega arith) }
  action_read (g.join {r = p} {z = w} d) n s =
      let x = null_read d 0 s.2.2.2.2 in
      record { after = 0 + 1 + 1; stream = x.2; fits = plain_fits (stmt.Join (word_at p w)) (layer.Join (word_at p w)) (stmt.rolls-Join (word_at p w)) refl refl refl (omega arith) }
  action_read g.atom_begin n s = record { after = n + 1 + 1 + 1; stream = s.2.2.2; fits = plain_fits stmt.AtomBegin layer.AtomBegin stmt.rolls-AtomBegin refl refl refl (omega arith) }
  action_read g.atom_end n s = record { after = n + 1 + 1 + 1; stream = s.2.2.2; fits = plain_fits stmt.AtomEnd layer.AtomEnd stmt.rolls-AtomEnd refl refl refl (omega arith) }

  -- ---- declarations

  -- behind some terminals, from others on
  pub record Behind (ts rest : List Terminal) : Type 0 where
    pub after : ℕ
    pub stream : Stream most after rest
    pub shorter : length rest ≤ length ts

  pub names_read : {ts : List Terminal} {ws : List Word} {rest : List Terminal} → AreNames ts ws rest → (n : ℕ) → Stream most n ts → Behind ts rest
  names_read g.last_name n s = record { after = n + 1; stream = s.2; shorter = omega arith }
  names_read (g.more_names m) n s = let x = names_read m 0 s.2.2 in record { after = x.after; stream = x.stream; shorter = omega (arith, x.shorter) }

  pub star_read : {ts : List Terminal} {b : Bool} {rest : List Terminal} → IsStar ts b rest → (n : ℕ) → Stream most n ts → Behind ts rest
  star_read g.no_star n s = record { after = n; stream = s; shorter = omega arith }
  star_read g.star n s = record { after = n + 1; stream = s.2; shorter = omega arith }

  record LocalsRead (ls : List Local) (rest : List Terminal) : Type 0 where
    pub after : ℕ
    pub stream : Stream most after rest
    pub phrases : AllByRecursion (IsPhrase most) (local_phrases ls)
    pub ints : AllByRecursion IsInt (of_locals ls)
    pub few : asserts (flat_map of_local ls) ≡ 0

  record LocalRead (l : Local) (rest : List Terminal) : Type 0 where
    pub after : ℕ
    pub stream : Stream most after rest
    pub phrases : AllByRecursion (IsPhrase most) (optional_phrases l.value)
    pub ints : AllByRecursion IsInt (of_optional l.value)

  local_read : {ts : List Terminal} {l : Local} {rest : List Terminal} → IsLocal ts l rest → (n : ℕ) → Stream most n ts → LocalRead l rest
  local_read (g.bare_local d) n s =
      let x = star_read d n s in
      record { after = x.after + 1; stream = x.stream.2; phrases = tt; ints = tt }
  local_read (g.set_local d f) n s =
      let x = star_read d n s in
      let y = value_read most f (x.after + 1 + 1) x.stream.2.2 in
      record { after = y.after; stream = y.stream; phrases = y.phrases; ints = y.ints }

  locals_read : {ts : List Terminal} {ls : List Local} {rest : List Terminal} → AreLocals ts ls rest → (n : ℕ) → Stream most n ts → LocalsRead ls rest
  locals_read (g.last_local {l = l} d) n s =
      let x = local_read d n s in
      record {
        after = x.after;
        stream = x.stream;
        phrases = both (IsPhrase most) (optional_phrases l.value) [] x.phrases tt;
        ints = both IsInt (of_optional l.value) [] x.ints tt;
        few = omega (arith, asserts_append (of_local l) [], optional_asserts l.value);
      }
  locals_read (g.more_locals {l = l} {ls = ls} d m) n s =
      let x = local_read d n s in
      let y = locals_read m 0 x.stream.2 in
      record {
        after = y.after;
        stream = y.stream;
        phrases = both (IsPhrase most) (optional_phrases l.value) (local_phrases ls) x.phrases y.phrases;
        ints = both IsInt (of_optional l.value) (of_locals ls) x.ints y.ints;
        few = omega (arith, asserts_append (of_local l) (flat_map of_local ls), optional_asserts l.value, y.few);
      }

  record DeclarationRead (m : StmtNode) (rest : List Terminal) : Type 0 where
    pub after : ℕ
    pub stream : Stream most after rest
    pub fits : (at : At) → Fits true 0 (statement at m)

  declare_read : (ls : List Local) (q : At) (y : List ℕ) (rest : List Terminal) → LocalsRead ls (terminal Semicolon q y ∷ rest) → DeclarationRead (stmt.Declare ls) rest
  declare_read ls q y rest x = record {
    after = 0;
    stream = x.stream.2;
    fits = fits (stmt.Declare ls) (layer.Declare ls) (stmt.rolls-Declare ls) (record { phrases = x.phrases; ints = x.ints; scoped = refl; declared = refl; few = omega (arith, x.few) });
  }

  declaration_read : {ts : List Terminal} {m : StmtNode} {rest : List Terminal} → IsDeclaration ts m rest → (n : ℕ) → Stream most n ts → DeclarationRead m rest
  declaration_read {rest = rest} (g.ints {ls = ls} {q = q} {y = y} d) n s = declare_read ls q y rest (locals_read d (n + 1) s.2)
  declaration_read {rest = rest} (g.volatile_ints {ls = ls} {r = r} {z = z} d) n s = declare_read ls r z rest (locals_read d (n + 1 + 1) s.2.2)
  declaration_read (g.threads {ws = ws} d) n s =
      let x = names_read d (n + 1) s.2 in
      record {
        after = 0;
        stream = x.stream.2;
        fits = fits (stmt.DeclareThread ws) (layer.DeclareThread ws) (stmt.rolls-DeclareThread ws) (record { phrases = tt; ints = tt; scoped = refl; declared = refl; few = omega arith });
      }

  -- ---- parts of a loop

  -- what a statement that may be left out has: nothing that asserts
  record Part : Type 0 where
    pub phrases : List Phrase
    pub ints : List ℤ
    pub mentions : List Mention
    pub short : AllByRecursion (IsPhrase most) phrases
    pub fit : AllByRecursion IsInt ints
    pub few : asserts mentions ≡ 0

  abbrev no_part : Part
  no_part = record { phrases = []; ints = []; mentions = []; short = tt; fit = tt; few = refl }

  abbrev a_part : {declares : Bool} (s : Stmt) → Fits declares 0 s → Part
  a_part s is = record { phrases = phrases_of s; ints = of_stmt s; mentions = mentions_of s; short = is.phrases; fit = is.ints; few = omega (arith, is.few) }

  -- a step declares nothing, the first part of a loop may
  abbrev StepIs : Option Stmt → Type 0
  StepIs None = Unit {0}
  StepIs (Some s) = Fits false 0 s

  abbrev FirstIs : Option Stmt → Type 0
  FirstIs None = Unit {0}
  FirstIs (Some s) = (declares : Bool) × Fits declares 0 s

  record StepRead (i : Option Stmt) (rest : List Terminal) : Type 0 where
    pub after : ℕ
    pub stream : Stream most after rest
    pub is : StepIs i

  record FirstRead (i : Option Stmt) (rest : List Terminal) : Type 0 where
    pub after : ℕ
    pub stream : Stream most after rest
    pub is : FirstIs i

  step_read : {ts : List Terminal} {i : Option Stmt} {rest : List Terminal} → IsStep ts i rest → (n : ℕ) → Stream most n ts → StepRead i rest
  step_read g.no_step n s = record { after = n; stream = s; is = tt }
  step_read (g.step {t = t} d) n s = let x = assign_read d n s in record { after = x.after; stream = x.stream; is = x.fits t.at }

  first_of : (i : Option Stmt) → StepIs i → FirstIs i
  first_of None is = tt
  first_of (Some s) is = (false, is)

  first_read : {ts : List Terminal} {i : Option Stmt} {rest : List Terminal} → IsFirst ts i rest → (n : ℕ) → Stream most n ts → FirstRead i rest
  first_read (g.first_declaration {t = t} d) n s = let x = declaration_read d n s in record { after = x.after; stream = x.stream; is = (true, x.fits t.at) }
  first_read (g.first_step {s = i} d) n s = let x = step_read d n s in record { after = 0; stream = x.stream.2; is = first_of i x.is }

  record ConditionRead (e : Expr) (rest : List Terminal) : Type 0 where
    pub after : ℕ
    pub stream : Stream most after rest
    pub phrase : IsPhrase most (alone e)
    pub ints : AllByRecursion IsInt (numbers_of e)

  condition_read : {ts : List Terminal} {e : Expr} {rest : List Terminal} → 1 ≤ most → IsCondition ts e rest → (n : ℕ) → Stream most n ts → ConditionRead e rest
  condition_read some (g.no_condition {p = p}) n s = record { after = 0; stream = s.2; phrase = phrase_alone most (one p) (one_spelled 0 p) (omega (arith, some)); ints = spelled_ints (one p) (one_spelled 0 p) }
  condition_read some (g.condition {e = e} d) n s =
      let x = expr_read most d n s in
      record { after = 0; stream = x.stream.2; phrase = phrase_alone most e x.is x.stream.0; ints = spelled_ints e x.is }

  all_three : (a b c : Bool) → a ≡ true → b ≡ true → c ≡ true → a && (b && c) ≡ true
  all_three true true true e f h = refl
  all_three true true false e f h = h
  all_three true false c e f h = f
  all_three false b c e f h = e

  is_closed_by : (d : Shape) → d.is_scoped ≡ true → d.declares ≡ false → is_closed d ≡ true
  is_closed_by d e f = ap (λ (b : Bool). b && not d.declares) e ∙ ap not f

  closed : {many : ℕ} (s : Stmt) → Fits false many s → is_closed (shape_of s) ≡ true
  closed s is = is_closed_by (shape_of s) is.scoped is.declared

  for_layer : {many : ℕ} (z : StmtNode-F StmtNode Stmt) (p q : Part) (e : Expr) (s : Stmt) → IsPhrase most (alone e) → AllByRecursion IsInt (numbers_of e) → Fits false many s
      → phrases_in z ≡ p.phrases ++ ((alone e ∷ []) ++ (q.phrases ++ phrases_of s))
      → ints_in z ≡ p.ints ++ (numbers_of e ++ (q.ints ++ of_stmt s))
      → (shape_in z).is_scoped ≡ true
      → (shape_in z).declares ≡ false
      → mentions_in z ≡ p.mentions ++ (q.mentions ++ mentions_of s)
      → Layer false many z
  for_layer {many} z p q e s phrase ints is phrases_are ints_are scoped declared mentions_are = record {
    phrases = subst (λ (ps : List Phrase). AllByRecursion (IsPhrase most) ps) (sym phrases_are) (both (IsPhrase most) p.phrases (alone e ∷ (q.phrases ++ phrases_of s)) p.short (phrase, both (IsPhrase most) q.phrases (phrases_of s) q.short is.phrases));
    ints = subst (λ (zs : List ℤ). AllByRecursion IsInt zs) (sym ints_are) (both IsInt p.ints (numbers_of e ++ (q.ints ++ of_stmt s)) p.fit (both IsInt (numbers_of e) (q.ints ++ of_stmt s) ints (both IsInt q.ints (of_stmt s) q.fit is.ints)));
    scoped = scoped;
    declared = declared;
    few = subst (λ (ms : List Mention). asserts ms ≤ many) (sym mentions_are) (omega (arith, asserts_append p.mentions (q.mentions ++ mentions_of s), asserts_append q.mentions (mentions_of s), p.few, q.few, is.few));
  }

  for_is : {many : ℕ} (i j : Option Stmt) (e : Expr) (s : Stmt) → FirstIs i → IsPhrase most (alone e) → AllByRecursion IsInt (numbers_of e) → StepIs j → Fits false many s → Layer false many (layer.For i (Some e) j s)
  for_is None None e s f phrase ints h is = for_layer (layer.For None (Some e) None s) no_part no_part e s phrase ints is refl refl (all_three true true (is_closed (shape_of s)) refl refl (closed s is)) refl refl
  for_is (Some i) None e s f phrase ints h is = for_layer (layer.For (Some i) (Some e) None s) (a_part i f.1) no_part e s phrase ints is refl refl (all_three (shape_of i).is_scoped true (is_closed (shape_of s)) f.1.scoped refl (closed s is)) refl refl
  for_is None (Some j) e s f phrase ints h is = for_layer (layer.For None (Some e) (Some j) s) no_part (a_part j h) e s phrase ints is refl refl (all_three true (is_closed (shape_of j)) (is_closed (shape_of s)) refl (closed j h) (closed s is)) refl refl
  for_is (Some i) (Some j) e s f phrase ints h is = for_layer (layer.For (Some i) (Some e) (Some j) s) (a_part i f.1) (a_part j h) e s phrase ints is refl refl (all_three (shape_of i).is_scoped (is_closed (shape_of j)) (is_closed (shape_of s)) f.1.scoped (closed j h) (closed s is)) refl refl

  -- ---- statements

  record GivenRead (v : Option Value) (rest : List Terminal) : Type 0 where
    pub after : ℕ
    pub stream : Stream most after rest
    pub phrases : AllByRecursion (IsPhrase most) (optional_phrases v)
    pub ints : AllByRecursion IsInt (of_optional v)

  given_read : {ts : List Terminal} {v : Option Value} {rest : List Terminal} → IsGiven ts v rest → (n : ℕ) → Stream most n ts → GivenRead v rest
  given_read g.nothing n s = record { after = 0; stream = s.2; phrases = tt; ints = tt }
  given_read (g.given d) n s = let x = value_read most d n s in record { after = 0; stream = x.stream.2; phrases = x.phrases; ints = x.ints }

  -- the rest of a block
  pub record BodyRead (ts : List Terminal) (ss : List Stmt) (rest : List Terminal) : Type 0 where
    pub after : ℕ
    pub stream : Stream most after rest
    pub phrases : AllByRecursion (IsPhrase most) (all_phrases (map phrases_of ss))
    pub ints : AllByRecursion IsInt (of_parts (map of_stmt ss))
    pub scoped : are_scoped (map shape_of ss) ≡ true
    pub few : asserts (mention.of_parts (map mentions_of ss)) + length rest ≤ length ts

  more_body : {declares : Bool} {many : ℕ} {ts us rest : List Terminal} (s : Stmt) (ss : List Stmt) → Fits declares many s → many + length us ≤ length ts → BodyRead us ss rest → BodyRead ts (s ∷ ss) rest
  more_body s ss is few x = record {
    after = x.after;
    stream = x.stream;
    phrases = both (IsPhrase most) (phrases_of s) (all_phrases (map phrases_of ss)) is.phrases x.phrases;
    ints = both IsInt (of_stmt s) (of_parts (map of_stmt ss)) is.ints x.ints;
    scoped = ap (λ (b : Bool). b && are_scoped (map shape_of ss)) is.scoped ∙ x.scoped;
    few = omega (arith, few, is.few, x.few, asserts_append (mentions_of s) (mention.of_parts (map mentions_of ss)));
  }

  when_layer : {many : ℕ} (e : Expr) (s : Stmt) → IsPhrase most (alone e) → AllByRecursion IsInt (numbers_of e) → Fits false many s → Layer false many (layer.If e s None)
  when_layer e s phrase ints is = record {
    phrases = (phrase, both (IsPhrase most) (phrases_of s) [] is.phrases tt);
    ints = both IsInt (numbers_of e) (of_stmt s ++ []) ints (both IsInt (of_stmt s) [] is.ints tt);
    scoped = all_three (is_closed (shape_of s)) true true (closed s is) refl refl;
    declared = refl;
    few = omega (arith, is.few, asserts_append (mentions_of s) []);
  }

  choose_layer : {m n : ℕ} (e : Expr) (s o : Stmt) → IsPhrase most (alone e) → AllByRecursion IsInt (numbers_of e) → Fits false m s → Fits false n o → Layer false (m + n) (layer.If e s (Some o))
  choose_layer e s o phrase ints is other = record {
    phrases = (phrase, both (IsPhrase most) (phrases_of s) (phrases_of o) is.phrases other.phrases);
    ints = both IsInt (numbers_of e) (of_stmt s ++ of_stmt o) ints (both IsInt (of_stmt s) (of_stmt o) is.ints other.ints);
    scoped = all_three true (is_closed (shape_of s)) (is_closed (shape_of o)) refl (closed s is) (closed o other);
    declared = refl;
    few = omega (arith, is.few, other.few, asserts_append (mentions_of s) (mentions_of o));
  }

  mutual
    pub stmt_read : {ts : List Terminal} {s : Stmt} {rest : List Terminal} → 1 ≤ most → IsStmt ts s rest → (n : ℕ) → Stream most n ts → StmtRead false ts s rest
    stmt_read some (g.at_first {t = t} d) n s = let x = node_read some d n s in record { after = x.after; stream = x.stream; many = x.many; few = x.few; is = x.fits t.at }

    pub node_read : {ts : List Terminal} {m : StmtNode} {rest : List Terminal} → 1 ≤ most → IsStmtNode ts m rest → (n : ℕ) → Stream most n ts → NodeRead false ts m rest
    node_read some g.empty n s = record { after = 0; stream = s.2; many = 0; few = omega arith; fits = plain_fits stmt.Empty layer.Empty stmt.rolls-Empty refl refl refl (omega arith) }
    node_read some (g.block {ss = ss} d) n s =
        let x = body_read some d 0 s.2 in
        record {
          after = x.after;
          stream = x.stream;
          many = asserts (mention.of_parts (map mentions_of ss));
          few = omega (arith, x.few);
          fits = fits (stmt.Block ss) (layer.Block ss) (stmt.rolls-Block ss) (record { phrases = x.phrases; ints = x.ints; scoped = x.scoped; declared = refl; few = omega arith });
        }
    node_read some (g.assignment d) n s =
        let x = assign_read d n s in
        record { after = 0; stream = x.stream.2; many = 0; few = omega (arith, assign_shorter d); fits = x.fits }
    node_read some (g.action d) n s =
        let x = action_read d n s in
        record { after = 0; stream = x.stream.2; many = 1; few = omega (arith, action_shorter d); fits = x.fits }
    node_read some (g.when {e = e} {s = body} d f none) n s =
        let x = expr_read most d (n + 1 + 1) s.2.2 in
        let y = stmt_read some f (x.after + 1) x.stream.2 in
        record {
          after = y.after;
          stream = y.stream;
          many = y.many;
          few = omega (arith, expr_shorter d, y.few);
          fits = fits (stmt.If e body None) (layer.If e body None) (stmt.rolls-If e body None) (when_layer e body (phrase_alone most e x.is x.stream.0) (spelled_ints e x.is) y.is);
        }
    node_read some (g.choose {e = e} {s = body} {o = other} d f h) n s =
        let x = expr_read most d (n + 1 + 1) s.2.2 in
        let y = stmt_read some f (x.after + 1) x.stream.2 in
        let z = stmt_read some h (y.after + 1) y.stream.2 in
        record {
          after = z.after;
          stream = z.stream;
          many = y.many + z.many;
          few = omega (arith, expr_shorter d, y.few, z.few);
          fits = fits (stmt.If e body (Some other)) (layer.If e body (Some other)) (stmt.rolls-If e body (Some other)) (choose_layer e body other (phrase_alone most e x.is x.stream.0) (spelled_ints e x.is) y.is z.is);
        }
    node_read some (g.while {e = e} {s = body} d f) n s =
        let x = expr_read most d (n + 1 + 1) s.2.2 in
        let y = stmt_read some f (x.after + 1) x.stream.2 in
        record {
          after = y.after;
          stream = y.stream;
          many = y.many;
          few = omega (arith, expr_shorter d, y.few);
          fits = fits (stmt.While e body) (layer.While e body) (stmt.rolls-While e body) (record {
            phrases = (phrase_alone most e x.is x.stream.0, y.is.phrases);
            ints = both IsInt (numbers_of e) (of_stmt body) (spelled_ints e x.is) y.is.ints;
            scoped = closed body y.is;
            declared = refl;
            few = y.is.few;
          });
        }
    node_read some (g.do_while {e = e} {s = body} d f) n s =
        let y = stmt_read some d (n + 1) s.2 in
        let x = expr_read most f (y.after + 1 + 1) y.stream.2.2 in
        record {
          after = 0;
          stream = x.stream.2.2;
          many = y.many;
          few = omega (arith, expr_shorter f, y.few);
          fits = fits (stmt.DoWhile body e) (layer.DoWhile body e) (stmt.rolls-DoWhile body e) (record {
            phrases = both (IsPhrase most) (phrases_of body) (alone e ∷ []) y.is.phrases (phrase_alone most e x.is x.stream.0, tt);
            ints = both IsInt (of_stmt body) (numbers_of e) y.is.ints (spelled_ints e x.is);
            scoped = closed body y.is;
            declared = refl;
            few = y.is.few;
          });
        }
    node_read some (g.for {first = i} {step = j} {e = e} {s = body} d c h f) n s =
        let x = first_read d (n + 1 + 1) s.2.2 in
        let y = condition_read some c x.after x.stream in
        let z = step_read h y.after y.stream in
        let w = stmt_read some f (z.after + 1) z.stream.2 in
        record {
          after = w.after;
          stream = w.stream;
          many = w.many;
          few = omega (arith, first_shorter d, condition_shorter c, step_shorter h, w.few);
          fits = fits (stmt.For i (Some e) j body) (layer.For i (Some e) j body) (stmt.rolls-For i (Some e) j body) (for_is i j e body x.is y.phrase y.ints z.is w.is);
        }
    node_read some g.break n s = record { after = 0; stream = s.2.2; many = 0; few = omega arith; fits = plain_fits stmt.Break layer.Break stmt.rolls-Break refl refl refl (omega arith) }
    node_read some g.continue n s = record { after = 0; stream = s.2.2; many = 0; few = omega arith; fits = plain_fits stmt.Continue layer.Continue stmt.rolls-Continue refl refl refl (omega arith) }
    node_read some (g.return {v = v} d) n s =
        let x = given_read d (n + 1) s.2 in
        record { after = x.after; stream = x.stream; many = 0; few = omega (arith, given_shorter d); fits = fits (stmt.Return v) (layer.Return v) (stmt.rolls-Return v) (leaf (layer.Return v) x.phrases x.ints refl (omega (arith, optional_asserts v))) }
    node_read some (g.goto {q = p} {y = w}) n s = record { after = 0; stream = s.2.2.2; many = 0; few = omega arith; fits = plain_fits (stmt.Goto (word_at p w)) (layer.Goto (word_at p w)) (stmt.rolls-Goto (word_at p w)) refl refl refl (omega arith) }
    node_read some (g.label {s = body} {p = p} {x = w} d) n s =
        let y = stmt_read some d (n + 1 + 1) s.2.2 in
        record {
          after = y.after;
          stream = y.stream;
          many = y.many;
          few = omega (arith, y.few);
          fits = fits (stmt.Label (word_at p w) body) (layer.Label (word_at p w) body) (stmt.rolls-Label (word_at p w) body) (record { phrases = y.is.phrases; ints = y.is.ints; scoped = y.is.scoped; declared = y.is.declared; few = omega (arith, y.is.few, sum_by-cons (λ (m : Mention). cond (is_assertion m) 1 0) (Label w) (mentions_of body)) });
        }

    pub body_read : {ts : List Terminal} {ss : List Stmt} {rest : List Terminal} → 1 ≤ most → IsBody ts ss rest → (n : ℕ) → Stream most n ts → BodyRead ts ss rest
    body_read some g.end n s = record { after = 0; stream = s.2; phrases = tt; ints = tt; scoped = refl; few = omega arith }
    body_read some (g.declaration {t = t} {n = m} {ss = ss} d f) n s =
        let x = declaration_read d n s in
        more_body (statement t.at m) ss (x.fits t.at) (omega (arith, declaration_shorter d)) (body_read some f x.after x.stream)
    body_read some (g.further {s = body} {ss = ss} d f) n s =
        let x = stmt_read some d n s in
        more_body body ss x.is x.few (body_read some f x.after x.stream)
