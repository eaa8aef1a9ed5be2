-- How the readers of statements and bodies read: they see what they take and one terminal more, and what they took before a fault can be completed.
use Rattle.std.proofs.Common.{◌≡◌, ℕ, zero, suc, List, [], ◌∷◌, Option, Some, None, refl, sym, ◌∙◌, ap, subst}
use Rattle.mm_goto.specs.declared.ident.At.{At as Place}
use Rattle.mm_goto.specs.declared.pure.Binary.TheVariants as binary
use Rattle.mm_tree.specs.declared.expr.Expr.{Expr}
use Rattle.mm_tree.specs.declared.stmt.Left.{Left}
use Rattle.mm_tree.specs.declared.stmt.Stmt.{Stmt}
use Rattle.mm_tree.specs.declared.stmt.StmtNode.{StmtNode}
use Rattle.mm_tree.specs.declared.stmt.StmtNode.TheVariants as node
use Rattle.mm_reading.specs.Parsing.{◌>>=◌, ◌>>◌, pure, fail, peek, skip}
use Rattle.mm_reading.proofs.Combining.{Reads, Takes, Example, Branch, takes, fails, ends, reads_none, reads_peek, reads_switch, takes_skip, takes_skip_same, example_pure, example_end, example_token, example_switch}
use Rattle.mm_parse_expr.specs.declared.symbol.Keyword.{Keyword as Reserved}
use Rattle.mm_parse_expr.specs.declared.symbol.Keyword.TheVariants as reserved
use Rattle.mm_parse_expr.specs.declared.symbol.Symbol.{Symbol}
use Rattle.mm_parse_expr.specs.declared.symbol.Symbol.TheVariants.{Name, Keyword, Operator, Increment, Decrement, Colon, Semicolon, Open, OpenBrace, CloseBrace}
use Rattle.mm_parse_expr.specs.declared.terminal.Terminal.{Terminal}
use Rattle.mm_parse_expr.specs.Grammar.{terminal}
use Rattle.mm_tree.specs.Trees.{word, statement}
use Rattle.mm_parse_expr.specs.reading.ExprReading.{Reader, index}
use Rattle.mm_parse_expr.proofs.Follow.{Any, Stops, Ends}
use Rattle.mm_grammar.specs.StatementGrammar.{is_no_else}
use Rattle.mm_grammar.specs.reading.StatementReading as r
use Rattle.mm_grammar.specs.reading.StatementReading.{Inner}
use Rattle.mm_grammar.proofs.MarkReads.{Follow, sample}
use Rattle.mm_grammar.proofs.StatementReadsChoice as choose
use Rattle.mm_grammar.proofs.StatementReadsChoice.{Many, Begun, begins, example_taken, reads_begun}
use Rattle.mm_grammar.proofs.StatementReadsParts.{Reading, bound, within, anyhow, done, close_reading, while_reading, int_reading, open_reading, expr_reading}
use Rattle.mm_grammar.proofs.StatementReadsValue.{EndsValue, named_left_reading, pointed_left_reading, grouped_left_reading, left_reading, call_reading, fetch_add_reading, compare_swap_reading}
use Rattle.mm_grammar.proofs.StatementReadsAssign.{set_reading, increment_reading, decrement_reading, ints_reading, threads_reading, first_reading, condition_reading, step_reading, given_reading}
use Rattle.mm_grammar.proofs.StatementReadsNode.{ended_reading, bare_reading, with_expr_reading, with_address_reading, named_assert_reading, start_reading, join_reading, goto_reading}

-- not the word else
abbrev pub NotElse : Follow
NotElse None = Unit {0}
NotElse (Some t) = is_no_else t.symbol

-- how the readers of what stands within a statement read
pub record Within (n : ℕ) (i : Inner) : Type 0 where
  pub stmt : Reading n Any NotElse i.stmt r.stmt
  pub body : Reading n NotElse Any i.body r.body

-- what a reader goes on with behind a terminal, where one does
data Goes {A : Type 0} (n : ℕ) (C : Follow) (o : Option (Reader A)) (o' : ℕ → Option (Reader A)) : Type 0 where
  none : o ≡ None → ((m : ℕ) → o' m ≡ None) → Goes n C o o'
  some : (p : Reader A) (q : Many A) → o ≡ Some p → ((m : ℕ) → o' m ≡ Some (q m)) → Reading n Any C p q → Goes n C o o'

-- a left side, and what is done with it
assigned : {n : ℕ} {C : Follow} {p : Reader Left} {q : Many Left} → Reading n Any (Stops 0) p q → Reading n Any C (p >>= λ l. r.set n l >>= r.ended) (λ m. q m >>= λ l. r.set m l >>= r.ended)
assigned left = bound left (λ l. bound (set_reading l) (λ d. ended_reading EndsValue tt d))

-- a call that stands alone
called : {n : ℕ} {C : Follow} (t : Terminal) → Reading n Any C (r.call n t >>= λ v. r.ended (node.Do v)) (λ m. r.call m t >>= λ v. r.ended (node.Do v))
called t = bound (call_reading t) (λ v. ended_reading Any tt (node.Do v))

named_example : (t : Terminal) → Example Any NotElse (λ m. r.named m (r.inner m) t)
unfolding r.named peek skip
named_example t = example_taken Any Any NotElse (sample Open) (λ m. r.named m (r.inner m) t) (λ m. r.call m t >>= λ v. r.ended (node.Do v)) tt (λ m ts. refl) (called {n = 0} t).example

-- what is not else ends a condition
else_clear : (i : Inner) (e : Expr) (s : Stmt) (h : Option Terminal) → NotElse h → r.else_at i e s h ≡ pure (node.If e s None)
else_clear i e s None c = refl
else_clear i e s (Some t) c = by t.symbol c
  where
    by : (k : Symbol) → is_no_else k → r.else_by i e s k ≡ pure (node.If e s None)
    by (Keyword reserved.Else) c = absurd c
    by _ c = refl

-- ---- one level

module _ (n : ℕ) (i : Inner) (W : Within n i) where
  -- behind a name: a call, a label, or an assignment
  named_reading : (t : Terminal) → Reading n Any NotElse (r.named n i t) (λ m. r.named m (r.inner m) t)
  unfolding r.named r.named_left r.set index peek fail pure
  named_reading t = record { reads = reads_begun n Any NotElse (r.named_at n i t) (λ h m. r.named_at m (r.inner m) t h) tt (named_example t) refl (λ m. refl) (λ u. by u.symbol u.at u.spelling); example = named_example t }
    where
      by : (s : Symbol) (p : Place) (x : List ℕ) → Begun n NotElse (r.named_at n i t) (λ h m. r.named_at m (r.inner m) t h) (terminal s p x)
      by Open p x = choose.takes (takes_skip_same n (terminal Open p x) Any NotElse _ (λ m. r.call m t >>= λ v. r.ended (node.Do v)) (called t).reads)
      by Colon p x = choose.takes (takes_skip_same n (terminal Colon p x) Any NotElse _ (λ m. r.stmt m >>= λ s. pure (node.Label (word t.at t.spelling) s)) (bound W.stmt (λ s. done _)).reads)
      by _ p x = begins refl (assigned (named_left_reading t)).reads

  -- behind the statement of a condition
  else_reading : (e : Expr) (s : Stmt) → Reading n NotElse NotElse (peek (r.else_at i e s)) (λ m. peek (r.else_at (r.inner m) e s))
  else_reading e s = record { reads = reads_peek n NotElse NotElse (r.else_at i e s) (λ h m. r.else_at (r.inner m) e s h) ex branch; example = ex }
    where
      ex : Example NotElse NotElse (λ m. peek (r.else_at (r.inner m) e s))
      ex = example_end NotElse NotElse _ (λ h m. r.else_at (r.inner m) e s h) (node.If e s None) (λ m. refl) (λ h m c. else_clear (r.inner (suc m)) e s h c) (λ h c. c)

      by : (k : Symbol) (p : Place) (x : List ℕ) → Branch n NotElse NotElse (r.else_at i e s) (λ h m. r.else_at (r.inner m) e s h) (Some (terminal k p x))
      by (Keyword reserved.Else) p x = takes (takes_skip_same n (terminal (Keyword reserved.Else) p x) Any NotElse _ (λ m. r.stmt m >>= λ o. pure (node.If e s (Some o))) (bound W.stmt (λ o. done _)).reads)
      by _ p x = ends _ refl (λ m. refl) (λ h m c. else_clear (r.inner (suc m)) e s h c) (λ h c. c)

      branch : (h : Option Terminal) → Branch n NotElse NotElse (r.else_at i e s) (λ h m. r.else_at (r.inner m) e s h) h
      branch None = ends _ refl (λ m. refl) (λ h m c. else_clear (r.inner (suc m)) e s h c) (λ h c. c)
      branch (Some t) = by t.symbol t.at t.spelling

  when_reading : Reading n Any NotElse (r.when n i) (λ m. r.when m (r.inner m))
  unfolding r.when
  when_reading = bound open_reading (λ u. bound expr_reading (λ e. bound (close_reading Ends tt) (λ u. bound W.stmt (λ s. else_reading e s))))

  while_loop_reading : Reading n Any NotElse (r.while n i) (λ m. r.while m (r.inner m))
  unfolding r.while
  while_loop_reading = bound open_reading (λ u. bound expr_reading (λ e. bound (close_reading Ends tt) (λ u. bound W.stmt (λ s. done _))))

  do_while_reading : {C : Follow} → Reading n Any C (r.do_while n i) (λ m. r.do_while m (r.inner m))
  unfolding r.do_while
  do_while_reading = bound W.stmt (λ s. bound (while_reading NotElse tt) (λ u. with_expr_reading (λ e. node.DoWhile s e)))

  for_reading : Reading n Any NotElse (r.for n i) (λ m. r.for m (r.inner m))
  unfolding r.for
  for_reading = bound open_reading (λ u. bound first_reading (λ f. bound condition_reading (λ e. bound step_reading (λ s. bound W.stmt (λ b. done _)))))

  behind_word_reads : (k : Reserved) (t : Terminal) → Goes n NotElse (r.behind_word n i k t) (λ m. r.behind_word m (r.inner m) k t)
  behind_word_reads reserved.FetchAndAdd t = some _ _ refl (λ m. refl) (bound (fetch_add_reading t) (λ v. ended_reading Any tt (node.Do v)))
  behind_word_reads reserved.CompareAndSwap t = some _ _ refl (λ m. refl) (bound (compare_swap_reading t) (λ v. ended_reading Any tt (node.Do v)))
  behind_word_reads reserved.Assert t = some _ _ refl (λ m. refl) (with_expr_reading (λ e. node.Assert e None))
  behind_word_reads reserved.ProverAssert t = some _ _ refl (λ m. refl) named_assert_reading
  behind_word_reads reserved.Assume t = some _ _ refl (λ m. refl) (with_expr_reading node.Assume)
  behind_word_reads reserved.Synchronize t = some _ _ refl (λ m. refl) (bare_reading node.Fence)
  behind_word_reads reserved.Lock t = some _ _ refl (λ m. refl) (with_address_reading node.Lock)
  behind_word_reads reserved.Unlock t = some _ _ refl (λ m. refl) (with_address_reading node.Unlock)
  behind_word_reads reserved.Create t = some _ _ refl (λ m. refl) start_reading
  behind_word_reads reserved.Join t = some _ _ refl (λ m. refl) join_reading
  behind_word_reads reserved.AtomicBegin t = some _ _ refl (λ m. refl) (bare_reading node.AtomBegin)
  behind_word_reads reserved.AtomicEnd t = some _ _ refl (λ m. refl) (bare_reading node.AtomEnd)
  behind_word_reads reserved.If t = some _ _ refl (λ m. refl) when_reading
  behind_word_reads reserved.While t = some _ _ refl (λ m. refl) while_loop_reading
  behind_word_reads reserved.Do t = some _ _ refl (λ m. refl) do_while_reading
  behind_word_reads reserved.For t = some _ _ refl (λ m. refl) for_reading
  behind_word_reads reserved.Break t = some _ _ refl (λ m. refl) (ended_reading Any tt node.Break)
  behind_word_reads reserved.Continue t = some _ _ refl (λ m. refl) (ended_reading Any tt node.Continue)
  behind_word_reads reserved.Return t = some _ _ refl (λ m. refl) (within NotElse (λ h c. tt) (bound given_reading (λ v. done _)))
  behind_word_reads reserved.Goto t = some _ _ refl (λ m. refl) goto_reading
  behind_word_reads _ t = none refl (λ m. refl)

  node_reads : (s : Symbol) (t : Terminal) → Goes n NotElse (r.node_by n i s t) (λ m. r.node_by m (r.inner m) s t)
  node_reads Semicolon t = some _ _ refl (λ m. refl) (anyhow (done node.Empty))
  node_reads OpenBrace t = some _ _ refl (λ m. refl) (within NotElse (λ h c. tt) (anyhow (bound W.body (λ ss. done _))))
  node_reads Name t = some _ _ refl (λ m. refl) (named_reading t)
  node_reads Increment t = some _ _ refl (λ m. refl) (bound (increment_reading t) (λ d. ended_reading EndsValue tt d))
  node_reads Decrement t = some _ _ refl (λ m. refl) (bound (decrement_reading t) (λ d. ended_reading EndsValue tt d))
  node_reads (Operator binary.Mul) t = some _ _ refl (λ m. refl) (assigned (pointed_left_reading t))
  node_reads Open t = some _ _ refl (λ m. refl) (assigned (grouped_left_reading left_reading))
  node_reads (Keyword k) t = behind_word_reads k t
  node_reads _ t = none refl (λ m. refl)

-- ---- statements and bodies

-- over a bound that is one less
abbrev stmt_above : Option Terminal → Many Stmt
stmt_above h zero = fail
stmt_above h (suc m) = r.stmt_at m (r.inner m) h

abbrev body_above : Option Terminal → Many (List Stmt)
body_above h zero = fail
body_above h (suc m) = r.body_at m (r.inner m) h

pub stmt_example : Example Any NotElse r.stmt
unfolding r.inner r.stmt_of peek skip pure
stmt_example = example_token Any NotElse NotElse (sample Semicolon) r.stmt (λ m. pure (statement (sample Semicolon).at node.Empty)) tt (λ m ts. refl) (example_pure NotElse _)

bodies_example : Example NotElse Any r.body
unfolding r.inner r.body_of peek skip
bodies_example = example_token NotElse Any Any (sample CloseBrace) r.body (λ m. pure []) tt (λ m ts. refl) (example_pure Any [])

-- a statement is read as those within it are
stmt_step : (n : ℕ) (i : Inner) → Within n i → Reads (suc n) Any NotElse (r.stmt_of n i) r.stmt
unfolding r.inner r.stmt_of
stmt_step n i W = reads_switch (suc n) Any NotElse _ (λ m. peek (λ h. stmt_above h m)) r.stmt (λ m. refl) (reads_peek (suc n) Any NotElse (r.stmt_at n i) stmt_above (example_switch Any NotElse r.stmt _ (λ m. refl) stmt_example) branch)
  where
    by : (t : Terminal) → Goes n NotElse (r.node_by n i t.symbol t) (λ m. r.node_by m (r.inner m) t.symbol t) → Branch (suc n) Any NotElse (r.stmt_at n i) stmt_above (Some t)
    by t (none e e') = fails (ap (r.stmt_begun t) e) (λ m. ap (r.stmt_begun t) (e' m))
    by t (some p q e e' R) = takes (subst (λ (o : Option (Reader StmtNode)). Takes (suc n) t NotElse (r.stmt_begun t o) (stmt_above (Some t))) (sym e) (takes_skip n t Any NotElse (p >>= λ d. pure (statement t.at d)) (λ m. q m >>= λ d. pure (statement t.at d)) _ (λ m. ap (r.stmt_begun t) (e' m)) (bound R (λ d. done _)).reads))

    branch : (h : Option Terminal) → Branch (suc n) Any NotElse (r.stmt_at n i) stmt_above h
    branch None = fails refl (λ m. refl)
    branch (Some t) = by t (node_reads n i W t.symbol t)

module _ (n : ℕ) (i : Inner) (W : Within n i) where
  -- behind what a body goes on with
  begun : (t : Terminal) (o : Option (Reader StmtNode)) (o' : ℕ → Option (Reader StmtNode)) → Goes n NotElse o o' → r.body_at n i (Some t) ≡ r.body_begun i t o → ((m : ℕ) → r.body_at m (r.inner m) (Some t) ≡ r.body_begun (r.inner m) t (o' m)) → Branch (suc n) NotElse Any (r.body_at n i) body_above (Some t)
  begun t o o' (none e e') j j' = fails (j ∙ ap (r.body_begun i t) e) (λ m. j' m ∙ ap (r.body_begun (r.inner m) t) (e' m))
  begun t o o' (some p q e e' R) j j' = takes (subst (λ (s : Reader (List Stmt)). Takes (suc n) t Any s (body_above (Some t))) (sym (j ∙ ap (r.body_begun i t) e)) (takes_skip n t Any Any (p >>= λ d. i.body >>= λ ss. pure (statement t.at d ∷ ss)) (λ m. q m >>= λ d. r.body m >>= λ ss. pure (statement t.at d ∷ ss)) _ (λ m. j' m ∙ ap (r.body_begun (r.inner m) t) (e' m)) (bound R (λ d. bound W.body (λ ss. done _))).reads))

  body_by_reads : (s : Symbol) (p : Place) (x : List ℕ) → Branch (suc n) NotElse Any (r.body_at n i) body_above (Some (terminal s p x))
  body_by_reads CloseBrace p x = takes (takes_skip n (terminal CloseBrace p x) Any Any _ (λ m. pure []) _ (λ m. refl) (anyhow (done [])).reads)
  body_by_reads (Keyword reserved.Int) p x = begun (terminal (Keyword reserved.Int) p x) _ _ (some (r.ints n) r.ints refl (λ m. refl) ints_reading) refl (λ m. refl)
  body_by_reads (Keyword reserved.Volatile) p x = begun (terminal (Keyword reserved.Volatile) p x) _ _ (some (r.int_word >> r.ints n) (λ m. r.int_word >> r.ints m) refl (λ m. refl) (bound int_reading (λ u. ints_reading))) refl (λ m. refl)
  body_by_reads (Keyword reserved.Thread) p x = begun (terminal (Keyword reserved.Thread) p x) _ _ (some (r.threads n) r.threads refl (λ m. refl) threads_reading) refl (λ m. refl)
  body_by_reads s p x = begun (terminal s p x) _ _ (node_reads n i W s (terminal s p x)) refl (λ m. refl)

  -- a body is read as what stands within it is
  body_step : Reads (suc n) NotElse Any (r.body_of n i) r.body
  unfolding r.inner r.body_of
  body_step = reads_switch (suc n) NotElse Any _ (λ m. peek (λ h. body_above h m)) r.body (λ m. refl) (reads_peek (suc n) NotElse Any (r.body_at n i) body_above (example_switch NotElse Any r.body _ (λ m. refl) bodies_example) branch)
    where
      branch : (h : Option Terminal) → Branch (suc n) NotElse Any (r.body_at n i) body_above h
      branch None = fails refl (λ m. refl)
      branch (Some t) = body_by_reads t.symbol t.at t.spelling

-- the readers read alike with any two bounds that are large enough
within_reads : (n : ℕ) → Within n (r.inner n)
unfolding r.inner
within_reads zero = record {
  stmt = record { reads = reads_none Any NotElse _ _; example = stmt_example };
  body = record { reads = reads_none NotElse Any _ _; example = bodies_example };
}
within_reads (suc n) =
    let W = within_reads n in
    record {
      stmt = record { reads = stmt_step n (r.inner n) W; example = stmt_example };
      body = record { reads = body_step n (r.inner n) W; example = bodies_example };
    }

-- a statement sees whether else stands behind it, and no more
pub stmt_reads : (n : ℕ) → Reads n Any NotElse (r.stmt n) (λ m. r.stmt m)
stmt_reads n = (within_reads n).stmt.reads

-- a body ends with a brace, so that anything may follow
pub body_reads : (n : ℕ) → Reads n Any Any (r.body n) (λ m. r.body m)
body_reads n = (anyhow (within_reads n).body).reads

pub body_example : Example Any Any (λ m. r.body m)
body_example = (anyhow (within_reads 0).body).example
