-- What the items of the grammar are like.
use Rattle.std.proofs.Common.{arith, ◌≡◌, refl, subst, sym, ap, ◌∙◌, ℕ, ℤ, pos, negsuc, ◌+◌, ◌≤◌, ◌≤ℤ◌, Bool, true, false, ◌&&◌, List, [], ◌∷◌, ◌++◌, map, length, Some, None}
use Rattle.std.proofs.lemmas.Int.{ints}
use Rattle.std.specs.Int.{w32, int_wrapping_neg}
use Rattle.std.specs.List.{AllByRecursion}
use Rattle.mm_goto.specs.declared.ident.At.{At}
use Rattle.mm_goto.specs.declared.ident.Ident.{Ident}
use Rattle.mm_goto.specs.Valid.{IsInt}
use Rattle.mm_tree.specs.declared.expr.Expr.{Expr}
use Rattle.mm_tree.specs.declared.expr.Word.{Word}
use Rattle.mm_tree.specs.declared.expr.Node.TheVariants as node
use Rattle.mm_tree.specs.declared.expr.Node.TheOpen as layer
use Rattle.mm_tree.specs.declared.item.Gives.{Gives}
use Rattle.mm_tree.specs.declared.item.Gives.TheVariants as gives
use Rattle.mm_tree.specs.declared.item.Global.{Global}
use Rattle.mm_tree.specs.declared.item.Item.{Item}
use Rattle.mm_tree.specs.declared.item.Item.TheVariants as item
use Rattle.mm_tree.specs.declared.item.Param.{Param}
use Rattle.mm_tree.specs.declared.stmt.Stmt.{Stmt}
use Rattle.mm_tree.specs.Trees.{word as word_at, global}
use Rattle.mm_flow.specs.Text.{asserts_in}
use Rattle.mm_flow.specs.Programs.{body_of, globals_of, globals_in, mutexes_of, mutexes_in}
use Rattle.mm_parse_expr.specs.declared.symbol.Keyword.{Keyword as Reserved}
use Rattle.mm_parse_expr.specs.declared.terminal.Terminal.{Terminal}
use Rattle.mm_grammar.specs.ProgramGrammar as g
use Rattle.mm_grammar.specs.ProgramGrammar.{IsConst, AreConsts, IsInit, IsGlobal, AreGlobals, IsMutex, AreMutexes, IsOptional, IsParam, AreParams, IsParams, IsThreadParams, IsGives, AreQuals, IsItem, AreItems, number_at}
use Rattle.mm_sourcelike.specs.Ints.{numbers_of, all_numbers, of_parts, of_stmt, of_stmts, of_globals, of_item, of_items, asserts_of}
use Rattle.mm_sourcelike.specs.Shapes.{shape_of, are_scoped, body_scoped, items_scoped}
use Rattle.mm_sourcelike.specs.Grammatical.{IsPhrase, IsName, IsGlobal as IsGood, IsOfInts, all_phrases, phrases_of, body_phrases, item_phrases}
use Rattle.mm_sourcelike.proofs.TextStreams.{IsLiteral, Stream}
use Rattle.mm_sourcelike.proofs.TextExpressions.{both, numbers_are}
use Rattle.mm_sourcelike.proofs.TextStatements.{Behind, names_read, star_read, body_read, BodyRead}

-- ---- initialisers

-- an int above the least one
abbrev IsStart : ℤ → Type 0
IsStart z = IsInt z × (negsuc 2147483646 ≤ℤ z)

literal_start : (z : ℤ) → IsLiteral z → IsStart z
literal_start z l = subst IsStart (sym l.1) (by l.0 l.2)
  where
    by : (k : ℕ) → k ≤ 2147483647 → IsStart (pos k)
    by k h = (omega (arith, h), omega (arith, ints, h))

negated_start : (z : ℤ) → IsLiteral z → IsStart (int_wrapping_neg w32 z)
negated_start z l = subst (λ (y : ℤ). IsStart (int_wrapping_neg w32 y)) (sym l.1) (by l.0 l.2)
  where
    by : (k : ℕ) → k ≤ 2147483647 → IsStart (int_wrapping_neg w32 (pos k))
    by k h = (grind (arith, ints), grind (arith, ints))

module _ (most : ℕ) where
  record StartsRead (ts : List Terminal) (es : List Expr) (rest : List Terminal) : Type 0 where
    pub after : ℕ
    pub stream : Stream most after rest
    pub shorter : length rest ≤ length ts
    pub starts : AllByRecursion IsStart (all_numbers es)

  -- an expression of one number
  one_number : (p : At) (z : ℤ) → IsStart z → AllByRecursion IsStart (all_numbers (number_at p z ∷ []))
  one_number p z is = subst (λ (zs : List ℤ). AllByRecursion IsStart (zs ++ [])) (sym (numbers_are p (node.Number z) (layer.Number z) (node.rolls-Number z))) (is, tt)

  -- expressions, one behind another
  more_starts : (e : Expr) (es : List Expr) → AllByRecursion IsStart (all_numbers (e ∷ [])) → AllByRecursion IsStart (all_numbers es) → AllByRecursion IsStart (all_numbers (e ∷ es))
  more_starts e es h k = both IsStart (numbers_of e) (all_numbers es) (front IsStart (numbers_of e) h) k
    where
      front : (P : ℤ → Type 0) (xs : List ℤ) → AllByRecursion P (xs ++ []) → AllByRecursion P xs
      front P [] a = tt
      front P (x ∷ xs) a = (a.0, front P xs a.1)

  const_read : {ts : List Terminal} {e : Expr} {rest : List Terminal} → IsConst ts e rest → (n : ℕ) → Stream most n ts → StartsRead ts (e ∷ []) rest
  const_read (g.number {n = z} {p = p}) n s = record { after = n + 1; stream = s.2; shorter = omega arith; starts = one_number p z (literal_start z s.1) }
  const_read (g.negated {n = z} {p = p}) n s = record { after = n + 1 + 1; stream = s.2.2; shorter = omega arith; starts = one_number p (int_wrapping_neg w32 z) (negated_start z s.2.1) }

  consts_read : {ts : List Terminal} {es : List Expr} {rest : List Terminal} → AreConsts ts es rest → (n : ℕ) → Stream most n ts → StartsRead ts es rest
  consts_read (g.last_const d) n s = const_read d n s
  consts_read (g.more_consts {e = e} {es = es} d m) n s =
      let x = const_read d n s in
      let y = consts_read m 0 x.stream.2 in
      record { after = y.after; stream = y.stream; shorter = omega (arith, x.shorter, y.shorter); starts = more_starts e es x.starts y.starts }

  init_read : {ts : List Terminal} {e : Expr} {rest : List Terminal} → IsInit ts e rest → (n : ℕ) → Stream most n ts → StartsRead ts (e ∷ []) rest
  init_read (g.constant d) n s = const_read d n s
  init_read (g.null {p = p}) n s = record { after = n + 1; stream = s.2; shorter = omega arith; starts = subst (λ (zs : List ℤ). AllByRecursion IsStart (zs ++ [])) (sym (numbers_are p node.Null layer.Null node.rolls-Null)) tt }
  init_read (g.address {p = p} {q = q} {y = y}) n s = record { after = n + 1 + 1; stream = s.2.2; shorter = omega arith; starts = subst (λ (zs : List ℤ). AllByRecursion IsStart (zs ++ [])) (sym (numbers_are p (node.AddrName (word_at q y)) (layer.AddrName (word_at q y)) (node.rolls-AddrName (word_at q y)))) tt }
  init_read (g.element_address {n = z} {p = p} {q = q} {s = i} {y = y}) n s = record {
    after = n + 1 + 1 + 1 + 1 + 1;
    stream = s.2.2.2.2.2;
    shorter = omega arith;
    starts = subst (λ (zs : List ℤ). AllByRecursion IsStart (zs ++ [])) (sym (numbers_are p (node.AddrIndex (word_at q y) (number_at i z)) (layer.AddrIndex (word_at q y) (number_at i z)) (node.rolls-AddrIndex (word_at q y) (number_at i z)))) (one_number i z (literal_start z s.2.2.2.1));
  }

  -- ---- globals

  above_least : (zs : List ℤ) → AllByRecursion IsStart zs → AllByRecursion (λ z. negsuc 2147483646 ≤ℤ z) zs
  above_least [] a = tt
  above_least (z ∷ zs) a = (a.0.1, above_least zs a.1)

  are_ints : (zs : List ℤ) → AllByRecursion IsStart zs → AllByRecursion IsInt zs
  are_ints [] a = tt
  are_ints (z ∷ zs) a = (a.0.0, are_ints zs a.1)

  record GlobalsRead (ts : List Terminal) (gs : List Global) (rest : List Terminal) : Type 0 where
    pub after : ℕ
    pub stream : Stream most after rest
    pub shorter : length rest ≤ length ts
    pub good : AllByRecursion IsGood gs
    pub ints : AllByRecursion IsInt (of_globals gs)

  -- one global of start values
  a_global : (gl : Global) (after : ℕ) (ts rest : List Terminal) → Stream most after rest → length rest ≤ length ts → IsName gl.name → IsOfInts gl.len gl.pointer → AllByRecursion IsStart (all_numbers gl.init) → GlobalsRead ts (gl ∷ []) rest
  a_global gl after ts rest stream shorter name array starts = record {
    after = after;
    stream = stream;
    shorter = shorter;
    good = (record { name = name; array = array; numbers = above_least (all_numbers gl.init) starts }, tt);
    ints = both IsInt (all_numbers gl.init) [] (are_ints (all_numbers gl.init) starts) tt;
  }

  global_read : {ts : List Terminal} {gl : Global} {rest : List Terminal} → IsGlobal ts gl rest → (n : ℕ) → Stream most n ts → GlobalsRead ts (gl ∷ []) rest
  global_read {ts = ts} {rest = rest} (g.variable {star = star} {p = p} {x = x} d) n s =
      let y = star_read most d n s in
      a_global (global p star x None []) (y.after + 1) ts rest y.stream.2 (omega (arith, y.shorter)) y.stream.1 tt tt
  global_read {ts = ts} {rest = rest} (g.set_variable {star = star} {e = e} {p = p} {x = x} d f) n s =
      let y = star_read most d n s in
      let z = init_read f (y.after + 1 + 1) y.stream.2.2 in
      a_global (global p star x None (e ∷ [])) z.after ts rest z.stream (omega (arith, y.shorter, z.shorter)) y.stream.1 tt z.starts
  global_read {ts = ts} {rest = rest} (g.array {n = k} {p = p} {x = x}) n s = a_global (global p false x (Some k) []) (n + 1 + 1 + 1 + 1) ts rest s.2.2.2.2 (omega arith) s.1 refl tt
  global_read {ts = ts} {rest = rest} (g.set_array {n = k} {es = es} {p = p} {x = x} d) n s =
      let z = consts_read d 0 s.2.2.2.2.2.2 in
      a_global (global p false x (Some k) es) 0 ts rest z.stream.2 (omega (arith, z.shorter)) s.1 refl z.starts

  globals_read : {ts : List Terminal} {gs : List Global} {rest : List Terminal} → AreGlobals ts gs rest → (n : ℕ) → Stream most n ts → GlobalsRead ts gs rest
  globals_read (g.last_global d) n s = global_read d n s
  globals_read (g.more_globals {g = gl} {gs = gs} d m) n s =
      let x = global_read d n s in
      let y = globals_read m 0 x.stream.2 in
      record {
        after = y.after;
        stream = y.stream;
        shorter = omega (arith, x.shorter, y.shorter);
        good = (x.good.0, y.good);
        ints = both IsInt (all_numbers gl.init) (of_globals gs) (front (all_numbers gl.init) x.ints) y.ints;
      }
    where
      front : (xs : List ℤ) → AllByRecursion IsInt (xs ++ []) → AllByRecursion IsInt xs
      front [] a = tt
      front (x ∷ xs) a = (a.0, front xs a.1)

  -- ---- mutexes

  record MutexesRead (ts : List Terminal) (ws : List Word) (rest : List Terminal) : Type 0 where
    pub after : ℕ
    pub stream : Stream most after rest
    pub shorter : length rest ≤ length ts
    pub names : AllByRecursion IsName (map (λ (w : Word). w.name) ws)

  mutex_read : {ts : List Terminal} {w : Word} {rest : List Terminal} → IsMutex ts w rest → (n : ℕ) → Stream most n ts → MutexesRead ts (w ∷ []) rest
  mutex_read g.mutex n s = record { after = n + 1; stream = s.2; shorter = omega arith; names = (s.1, tt) }
  mutex_read g.set_mutex n s = record { after = n + 1 + 1 + 1; stream = s.2.2.2; shorter = omega arith; names = (s.1, tt) }

  mutexes_read : {ts : List Terminal} {ws : List Word} {rest : List Terminal} → AreMutexes ts ws rest → (n : ℕ) → Stream most n ts → MutexesRead ts ws rest
  mutexes_read (g.last_mutex d) n s = mutex_read d n s
  mutexes_read (g.more_mutexes d m) n s =
      let x = mutex_read d n s in
      let y = mutexes_read m 0 x.stream.2 in
      record { after = y.after; stream = y.stream; shorter = omega (arith, x.shorter, y.shorter); names = (x.names.0, y.names) }

  -- ---- what stands before a body

  optional_read : {k : Reserved} {ts rest : List Terminal} → IsOptional k ts rest → (n : ℕ) → Stream most n ts → Behind most ts rest
  optional_read g.absent n s = record { after = n; stream = s; shorter = omega arith }
  optional_read g.present n s = record { after = n + 1; stream = s.2; shorter = omega arith }

  quals_read : {ts rest : List Terminal} → AreQuals ts rest → (n : ℕ) → Stream most n ts → Behind most ts rest
  quals_read g.no_quals n s = record { after = n; stream = s; shorter = omega arith }
  quals_read (g.static d) n s = let x = quals_read d (n + 1) s.2 in record { after = x.after; stream = x.stream; shorter = omega (arith, x.shorter) }
  quals_read (g.volatile d) n s = let x = quals_read d (n + 1) s.2 in record { after = x.after; stream = x.stream; shorter = omega (arith, x.shorter) }

  gives_read : {ts : List Terminal} {kind : Gives} {rest : List Terminal} → IsGives ts kind rest → (n : ℕ) → Stream most n ts → Behind most ts rest
  gives_read g.gives_int n s = record { after = n + 1; stream = s.2; shorter = omega arith }
  gives_read g.gives_pointer n s = record { after = n + 1 + 1; stream = s.2.2; shorter = omega arith }
  gives_read g.gives_nothing n s = record { after = n + 1; stream = s.2; shorter = omega arith }

  param_read : {ts : List Terminal} {a : Param} {rest : List Terminal} → IsParam ts a rest → (n : ℕ) → Stream most n ts → Behind most ts rest
  param_read (g.one_param d) n s = let x = star_read most d (n + 1) s.2 in record { after = x.after + 1; stream = x.stream.2; shorter = omega (arith, x.shorter) }

  list_params_read : {ts : List Terminal} {ps : List Param} {rest : List Terminal} → AreParams ts ps rest → (n : ℕ) → Stream most n ts → Behind most ts rest
  list_params_read (g.last_param d) n s = param_read d n s
  list_params_read (g.more_params d m) n s =
      let x = param_read d n s in
      let y = list_params_read m 0 x.stream.2 in
      record { after = y.after; stream = y.stream; shorter = omega (arith, x.shorter, y.shorter) }

  params_read : {ts : List Terminal} {ps : List Param} {rest : List Terminal} → IsParams ts ps rest → (n : ℕ) → Stream most n ts → Behind most ts rest
  params_read (g.no_params d) n s = let x = optional_read d (n + 1) s.2 in record { after = x.after + 1; stream = x.stream.2; shorter = omega (arith, x.shorter) }
  params_read (g.params d) n s = let x = list_params_read d (n + 1) s.2 in record { after = x.after + 1; stream = x.stream.2; shorter = omega (arith, x.shorter) }

  thread_params_read : {ts : List Terminal} {ps : List Param} {rest : List Terminal} → IsThreadParams ts ps rest → (n : ℕ) → Stream most n ts → Behind most ts rest
  thread_params_read (g.no_thread_params d) n s = let x = optional_read d (n + 1) s.2 in record { after = x.after + 1; stream = x.stream.2; shorter = omega (arith, x.shorter) }
  thread_params_read g.nameless_param n s = record { after = n + 1 + 1 + 1 + 1; stream = s.2.2.2.2; shorter = omega arith }
  thread_params_read g.thread_param n s = record { after = n + 1 + 1 + 1 + 1 + 1; stream = s.2.2.2.2.2; shorter = omega arith }

  -- ---- items

  body_phrases_are : (ss : List Stmt) → body_phrases ss ≡ all_phrases (map phrases_of ss)
  body_phrases_are [] = refl
  body_phrases_are (s ∷ ss) = ap (λ ps. phrases_of s ++ ps) (body_phrases_are ss)

  body_ints_are : (ss : List Stmt) → of_stmts ss ≡ of_parts (map of_stmt ss)
  body_ints_are [] = refl
  body_ints_are (s ∷ ss) = ap (λ zs. of_stmt s ++ zs) (body_ints_are ss)

  body_scoped_is : (ss : List Stmt) → body_scoped ss ≡ are_scoped (map shape_of ss)
  body_scoped_is [] = refl
  body_scoped_is (s ∷ ss) = ap (λ b. (shape_of s).is_scoped && b) (body_scoped_is ss)

  record ItemRead (ts : List Terminal) (i : Item) (rest : List Terminal) : Type 0 where
    pub after : ℕ
    pub stream : Stream most after rest
    pub few : asserts_in (body_of i) + length rest ≤ length ts
    pub phrases : AllByRecursion (IsPhrase most) (body_phrases (body_of i))
    pub ints : AllByRecursion IsInt (of_item i)
    pub scoped : body_scoped (body_of i) ≡ true
    pub globals : AllByRecursion IsGood (globals_of i)
    pub mutexes : AllByRecursion IsName (mutexes_of i)

  function_read : (at : At) (kind : Gives) (x : Ident) (ps : List Param) (ss : List Stmt) {ts ws rest : List Terminal} → length ws ≤ length ts → BodyRead most ws ss rest → ItemRead ts (item.Function at kind x ps ss) rest
  function_read at kind x ps ss shorter y = record {
    after = y.after;
    stream = y.stream;
    few = omega (arith, shorter, y.few);
    phrases = subst (λ ps. AllByRecursion (IsPhrase most) ps) (sym (body_phrases_are ss)) y.phrases;
    ints = subst (λ zs. AllByRecursion IsInt zs) (sym (body_ints_are ss)) y.ints;
    scoped = body_scoped_is ss ∙ y.scoped;
    globals = tt;
    mutexes = tt;
  }

  item_read : {ts : List Terminal} {i : Item} {rest : List Terminal} → 1 ≤ most → IsItem ts i rest → (n : ℕ) → Stream most n ts → ItemRead ts i rest
  item_read some (g.globals {gs = gs} d m) n s =
      let x = quals_read d n s in
      let y = globals_read m (x.after + 1) x.stream.2 in
      record { after = 0; stream = y.stream.2; few = omega (arith, x.shorter, y.shorter); phrases = tt; ints = y.ints; scoped = refl; globals = y.good; mutexes = tt }
  item_read some (g.mutexes {ws = ws} d m) n s =
      let x = quals_read d n s in
      let y = mutexes_read m (x.after + 1) x.stream.2 in
      record { after = 0; stream = y.stream.2; few = omega (arith, x.shorter, y.shorter); phrases = tt; ints = tt; scoped = refl; globals = tt; mutexes = y.names }
  item_read some (g.threads d m) n s =
      let x = quals_read d n s in
      let y = names_read most m (x.after + 1) x.stream.2 in
      record { after = 0; stream = y.stream.2; few = omega (arith, x.shorter, y.shorter); phrases = tt; ints = tt; scoped = refl; globals = tt; mutexes = tt }
  item_read some (g.input d f) n s =
      let x = optional_read d n s in
      let y = optional_read f (x.after + 1 + 1 + 1) x.stream.2.2.2 in
      record { after = 0; stream = y.stream.2.2; few = omega (arith, x.shorter, y.shorter); phrases = tt; ints = tt; scoped = refl; globals = tt; mutexes = tt }
  item_read some (g.function {kind = kind} {ps = ps} {ss = ss} {p = p} {x = f} d k h b) n s =
      let x = optional_read d n s in
      let y = gives_read k x.after x.stream in
      let z = params_read h (y.after + 1) y.stream.2 in
      function_read p kind f ps ss (omega (arith, x.shorter, y.shorter, z.shorter)) (body_read most some b 0 z.stream.2)
  item_read some (g.thread_function {ps = ps} {ss = ss} {r = r} {z = f} d h b) n s =
      let x = optional_read d n s in
      let y = thread_params_read h (x.after + 1 + 1 + 1) x.stream.2.2.2 in
      function_read r gives.Thread f ps ss (omega (arith, x.shorter, y.shorter)) (body_read most some b 0 y.stream.2)

  pub record ItemsRead (ts : List Terminal) (is : List Item) (rest : List Terminal) : Type 0 where
    pub few : asserts_of is + length rest ≤ length ts
    pub phrases : AllByRecursion (IsPhrase most) (item_phrases is)
    pub ints : AllByRecursion IsInt (of_items is)
    pub scoped : items_scoped is ≡ true
    pub globals : AllByRecursion IsGood (globals_in is)
    pub mutexes : AllByRecursion IsName (mutexes_in is)

  pub items_read : {ts : List Terminal} {is : List Item} {rest : List Terminal} → 1 ≤ most → AreItems ts is rest → (n : ℕ) → Stream most n ts → ItemsRead ts is rest
  items_read some g.no_items n s = record { few = omega arith; phrases = tt; ints = tt; scoped = refl; globals = tt; mutexes = tt }
  items_read some (g.more_items {i = i} {is = is} d m) n s =
      let x = item_read some d n s in
      let y = items_read some m x.after x.stream in
      record {
        few = omega (arith, x.few, y.few);
        phrases = both (IsPhrase most) (body_phrases (body_of i)) (item_phrases is) x.phrases y.phrases;
        ints = both IsInt (of_item i) (of_items is) x.ints y.ints;
        scoped = ap (λ (b : Bool). b && items_scoped is) x.scoped ∙ y.scoped;
        globals = both IsGood (globals_of i) (globals_in is) x.globals y.globals;
        mutexes = both IsName (mutexes_of i) (mutexes_in is) x.mutexes y.mutexes;
      }
