-- What calls do: their arguments are plain, and the function's body is written out.
use Rattle.std.proofs.Common.{arith, ◌≡◌, ℕ, ◌+◌, ◌<◌, ◌≤◌, ℤ, pos, true, false, List, [], ◌∷◌, length, Some, refl, sym, ◌∙◌, ap, subst, slice_set}
use Rattle.std.proofs.lemmas.List.{length-set, get_or-set_same, get_or-set_other}
use Rattle.mm_goto.specs.Value.{value_of, unary_value, binary_value}
use Rattle.mm_goto.specs.Terms.{the_local, applied, combined}
use Rattle.mm_goto.specs.declared.ident.Ident.{Ident}
use Rattle.mm_goto.specs.declared.pure.Pure.{Pure}
use Rattle.mm_goto.specs.declared.pure.Unary.{Unary}
use Rattle.mm_goto.specs.declared.pure.Binary.{Binary}
use Rattle.mm_goto.specs.declared.program.Instr.TheVariants as instr
use Rattle.mm_sched.specs.Event.{is_int}
use Rattle.mm_tree.specs.Places.{nowhere}
use Rattle.mm_tree.specs.declared.expr.Expr.{Expr}
use Rattle.mm_tree.specs.declared.expr.Node.TheOpen as node
use Rattle.mm_tree.specs.declared.stmt.StmtNode.TheOpen as stmt
use Rattle.mm_tree.specs.Trees as tree
use Rattle.mm_tree.specs.declared.stmt.LeftNode.TheVariants as left
use Rattle.mm_words.specs.Words.{assign_call, number, num, var, un, bin, call, called}
use Rattle.mm_flow.specs.declared.names.Named.{Named}
use Rattle.mm_flow.specs.declared.names.Seen.{Seen}
use Rattle.mm_flow.specs.declared.names.Joining.TheVariants.{Both}
use Rattle.mm_flow.specs.Flow.{Flow, Empty, Do, Then, Body, Home}
use Rattle.mm_flow.specs.Text.{labels_in}
use Rattle.mm_flow.specs.Scopes.{local_of}
use Rattle.mm_flow.specs.Expressions.{Scope, Val, zero_value, of_one, of_two, joining, division_check, reading, expr_value, Vals, values}
use Rattle.mm_flow.specs.Statements.{Within, Did, Function, scope, is_input, input, sets, bound, function_of, value_of as val_of, assigned, set_to, effect, body_code}
use Rattle.mm_meaning.specs.Meaning.{Halted, View, Outcome, Done, Left, then_do, caught, meaning}
use Rattle.mm_meaning.specs.Acting.{act, at_slot, let_local, with_input}
use Rattle.mm_meaning.proofs.Lowering.{value_is, stmt_is}
use Rattle.mm_meaning.proofs.Numbers.{const_value, local_value, un_value, bin_value}
use Rattle.mm_meaning.proofs.Looks.{Looks, looks_self, looks_on}
use Rattle.mm_meaning.proofs.Alike.{Alike, alike_below, alike_on, alike_caught}
use Rattle.mm_meaning.proofs.Does.{told, Does, DoesAll, does_by, Computed, Computes}

-- ---- arguments

-- an expression that takes no fresh local, and whose checks hold in a
pub record Plain (fuel m : ℕ) (a : View) (s : Scope) (e : Expr) (x : ℤ) : Type 0 where
  pub flow : Flow
  pub pure : Pure
  pub is : (n : ℕ) → expr_value e s n ≡ record { flow = flow; pure = pure; next = n }
  pub quiet : (l : View) → Looks m l a → meaning act flow fuel l ≡ Done l
  pub value : (ls : List ℤ) → ((r : ℕ) → r < m → at_slot ls r ≡ at_slot a.locals r) → value_of pure ls ≡ x

-- the locals where those from n on have these values
abbrev pub set_all : List ℤ → ℕ → List ℤ → List ℤ
set_all ls n [] = ls
set_all ls n (x ∷ xs) = set_all (slice_set ls n x) (n + 1) xs

pub record PlainAll (fuel m : ℕ) (a : View) (s : Scope) (es : List Expr) (xs : List ℤ) : Type 0 where
  pub flow : Flow
  pub pures : List Pure
  pub is : (n : ℕ) → values s es n ≡ record { flow = flow; pures = pures; next = n }
  pub quiet : (l : View) → Looks m l a → meaning act flow fuel l ≡ Done l
  pub sets_are : (n : ℕ) → m ≤ n → (l : View) → ((r : ℕ) → r < m → at_slot l.locals r ≡ at_slot a.locals r) → meaning act (sets nowhere pures n) fuel l ≡ Done (record { memory = l.memory; locals = set_all l.locals n xs; inputs = l.inputs })

module _ {fuel m : ℕ} {a : View} {s : Scope} where
  pub number_plain : (z : ℤ) → Plain fuel m a s (number z) z
  number_plain z = record { flow = Empty; pure = _; is = λ n. value_is (node.Number z) s n; quiet = λ l look. refl; value = λ ls h. const_value z ls }

  pub num_plain : (c : ℕ) → Plain fuel m a s (num c) (pos c)
  num_plain c = number_plain (pos c)

  pub var_plain : (x : Ident) (r : ℕ) → r < m → local_of s.names x ≡ Some r → Plain fuel m a s (var x) (at_slot a.locals r)
  var_plain x r below e = record { flow = Empty; pure = _; is = λ n. value_is (node.Name x) s n ∙ rw e refl; quiet = λ l look. refl; value = λ ls h. local_value r ls ∙ h r below }

  pub un_plain : {e : Expr} {x : ℤ} (op : Unary) → Plain fuel m a s e x → Plain fuel m a s (un op e) (unary_value op x)
  un_plain {e = e} op p = record {
    flow = p.flow;
    pure = applied op p.pure;
    is = λ n. value_is (node.Un op e) s n ∙ ap (of_one op) (p.is n);
    quiet = p.quiet;
    value = λ ls h. un_value op p.pure ls ∙ ap (unary_value op) (p.value ls h);
  }

  pub bin_plain : {e f : Expr} {x y : ℤ} (op : Binary) → joining op ((reading f).has_code s) ≡ Both → ((p : Pure) (l : View) → value_of p l.locals ≡ y → meaning act (division_check op nowhere p) fuel l ≡ Done l) → Plain fuel m a s e x → Plain fuel m a s f y → Plain fuel m a s (bin op e f) (binary_value op x y)
  bin_plain {e = e} {f = f} {x = x} op is_both check p q = record {
    flow = Then p.flow (Then q.flow (division_check op nowhere q.pure));
    pure = combined op p.pure q.pure;
    is = λ n. value_is (node.Bin op e f) s n ∙ rw is_both (ap (λ v. of_two nowhere op v (expr_value f s)) (p.is n) ∙ ap (λ (v : Val). (let y : Val = record { flow = Then p.flow (Then v.flow (division_check op nowhere v.pure)); pure = combined op p.pure v.pure; next = v.next } in y)) (q.is n));
    quiet = λ l look. ap (λ o. then_do o (meaning act (Then q.flow (division_check op nowhere q.pure)) fuel)) (p.quiet l look) ∙ ap (λ o. then_do o (meaning act (division_check op nowhere q.pure) fuel)) (q.quiet l look) ∙ check q.pure l (q.value l.locals look.locals);
    value = λ ls h. bin_value op p.pure q.pure ls ∙ ap (λ z. binary_value op z (value_of q.pure ls)) (p.value ls h) ∙ ap (binary_value op x) (q.value ls h);
  }

  pub no_args : PlainAll fuel m a s [] []
  no_args = record { flow = Empty; pures = []; is = λ n. refl; quiet = λ l look. refl; sets_are = λ n h l same. refl }

  pub arg : {e : Expr} {x : ℤ} {es : List Expr} {xs : List ℤ} → Plain fuel m a s e x → PlainAll fuel m a s es xs → PlainAll fuel m a s (e ∷ es) (x ∷ xs)
  arg {e = e} {x = x} {es = es} {xs = xs} p q = record {
    flow = Then p.flow q.flow;
    pures = p.pure ∷ q.pures;
    is = λ n. ap (λ v. (let rest = values s es v.next in let y : Vals = record { flow = Then v.flow rest.flow; pures = v.pure ∷ rest.pures; next = rest.next } in y)) (p.is n) ∙ ap (λ rest. (let y : Vals = record { flow = Then p.flow rest.flow; pures = p.pure ∷ rest.pures; next = rest.next } in y)) (q.is n);
    quiet = λ l look. ap (λ o. then_do o (meaning act q.flow fuel)) (p.quiet l look) ∙ q.quiet l look;
    sets_are = λ n h l same. ap (λ y. meaning act (sets nowhere q.pures (n + 1)) fuel (let_local l n y)) (p.value l.locals same)
        ∙ q.sets_are (n + 1) (omega arith) (let_local l n x) (λ r below. get_or-set_other l.locals n r x (pos 0) (omega arith) ∙ same r below);
  }

pub length_set_all : (ls : List ℤ) (n : ℕ) (xs : List ℤ) → length (set_all ls n xs) ≡ length ls
length_set_all ls n [] = refl
length_set_all ls n (x ∷ xs) = length_set_all (slice_set ls n x) (n + 1) xs ∙ length-set ls n x

pub set_all_below : (ls : List ℤ) (n : ℕ) (xs : List ℤ) (r : ℕ) → r < n → at_slot (set_all ls n xs) r ≡ at_slot ls r
set_all_below ls n [] r h = refl
set_all_below ls n (x ∷ xs) r h = set_all_below (slice_set ls n x) (n + 1) xs r (omega arith) ∙ get_or-set_other ls n r x (pos 0) (omega arith)

-- ---- bodies

-- what the body sees first: the caller's locals, and from k on the parameters and the local for what the function returns
abbrev pub entered : View → ℕ → List ℤ → ℕ → View
entered l k xs p = record { memory = l.memory; locals = slice_set (set_all l.locals k xs) (k + p) (pos 0); inputs = l.inputs }

-- what is counted before the body of a function
abbrev pub counted_before : Function → Seen
counted_before f = record { asserts = f.asserts; starts = 0 }

-- the body of f, where its parameters are the locals from k on, and end is its outcome from wherever it is called
pub record BodyDoes (fuel : ℕ) (w : Within) (f : Function) (k j : ℕ) (xs : List ℤ) (l : View) (end : Outcome) : Type 0 where
  pub inner : Within
  pub later : Seen
  pub is : w.inline f (bound f.params k) (k + length f.params + 1) (k + length f.params) ≡ body_code f.body inner (told (counted_before f) (bound f.params k) (k + length f.params + 1))
  pub does : DoesAll fuel (k + length f.params + 1) inner (bound f.params k) (entered l k xs (length f.params)) (counted_before f) (k + length f.params + 1) later j f.body end

-- the body, for a caller who lets its value go: the caller sees o
pub record Called (fuel m : ℕ) (w : Within) (f : Function) (k j : ℕ) (xs : List ℤ) (l : View) (o : Outcome) : Type 0 where
  pub end : Outcome
  pub body : BodyDoes fuel w f k j xs l end
  pub like : Alike m (caught end) o

-- the body, for a caller who then sees b, and reads the local for what it returns
pub record Gives (fuel m : ℕ) (w : Within) (f : Function) (k j : ℕ) (xs : List ℤ) (b : View) (y : ℤ) (l : View) : Type 0 where
  pub end : View
  pub body : BodyDoes fuel w f k j xs l (Left Home end)
  pub like : Looks m end b
  pub value : at_slot end.locals (k + length f.params) ≡ y

-- the code of a call
abbrev called_flow : Within → ℕ → Function → Flow → List Pure → Flow
called_flow w k f flow pures = Then flow (Then (sets nowhere pures k) (Then (Do nowhere (instr.Set (k + length f.params) zero_value)) (Body (labels_in f.body) (w.inline f (bound f.params k) (k + length f.params + 1) (k + length f.params)).flow)))

call_is : {fuel m : ℕ} {names : List Named} {a : View} {es : List Expr} {xs : List ℤ} (w : Within) (k : ℕ) (x : Ident) (f : Function) → is_input x ≡ false → function_of w.items w.parts.asserts x ≡ Some f → (args : PlainAll fuel m a (scope w names) es xs) →
    val_of w names k (called x es) ≡ record { flow = called_flow w k f args.flow args.pures; pure = the_local (k + length f.params); next = (w.inline f (bound f.params k) (k + length f.params + 1) (k + length f.params)).known.next }
call_is w k x f no_input is args = rw no_input (rw is (rw (args.is (k + length f.params + 1)) refl))

module _ {fuel m : ℕ} {w : Within} {names : List Named} {a : View} where
  -- the code of a call leads to where its body does
  inside : {k j : ℕ} {es : List Expr} {xs : List ℤ} {end : Outcome} (f : Function) (args : PlainAll fuel m a (scope w names) es xs) → m ≤ k → j ≤ length a.locals → (l : View) → Looks m l a → BodyDoes fuel w f k j xs l end → Alike (k + length f.params + 1) (meaning act (called_flow w k f args.flow args.pures) fuel l) (caught end)
  inside {k = k} {xs = xs} {end = end} f args mk room l look b =
      rw (args.quiet l look) (rw (args.sets_are k mk l look.locals) (rw (const_value (pos 0) (set_all l.locals k xs)) (rw b.is
      (alike_caught (k + n + 1) (meaning act (body_code f.body b.inner (told (counted_before f) (bound f.params k) (k + n + 1))).flow fuel (entered l k xs n)) end
      ((b.does.by (omega arith) (omega (arith, length-set (set_all l.locals k xs) (k + n) (pos 0), length_set_all l.locals k xs, look.many))).by (entered l k xs n) (looks_self (k + n + 1) (entered l k xs n)))))))
    where
      n : ℕ
      n = length f.params

  -- f(..);
  pub calls : {seen : Seen} {k j : ℕ} {es : List Expr} {xs : List ℤ} {o : Outcome} (x : Ident) (f : Function) → is_input x ≡ false → function_of w.items w.parts.asserts x ≡ Some f → PlainAll fuel m a (scope w names) es xs → ((l : View) → Looks m l a → Called fuel m w f k j xs l o) → Does fuel m w names a seen k seen j (call x es) o
  calls {seen = seen} {k = k} {j = j} {es = es} {xs = xs} {o = o} x f no_input is args body =
      let first = body a (looks_self m a) in
      does_by (effect (told seen names k) (val_of w names k (called x es))) (stmt_is (stmt.Do (called x es)) w (told seen names k))
      (ap (λ (v : Val). told seen names v.next) (call_is w k x f no_input is args) ∙ ap (λ (d : Did). told seen names d.known.next) first.body.is ∙ ap (told seen names) first.body.does.next)
      (omega (arith, first.body.does.grows))
      (λ mk room l look. subst (λ (v : Val). Alike m (meaning act v.flow fuel l) o) (sym (call_is w k x f no_input is args)) (seen_after mk room l look (body l look)))
    where
      seen_after : m ≤ k → j ≤ length a.locals → (l : View) → Looks m l a → Called fuel m w f k j xs l o → Alike m (meaning act (called_flow w k f args.flow args.pures) fuel l) o
      seen_after mk room l look b = alike_on m _ (caught b.end) o (alike_below m (k + length f.params + 1) _ (caught b.end) (omega arith) (inside f args mk room l look b.body)) b.like

  -- f(..), whose value is taken
  pub call_computes : {k j : ℕ} {es : List Expr} {xs : List ℤ} {b : View} {y : ℤ} (x : Ident) (f : Function) → is_input x ≡ false → function_of w.items w.parts.asserts x ≡ Some f → PlainAll fuel m a (scope w names) es xs → ((l : View) → Looks m l a → Gives fuel m w f k j xs b y l) → Computes fuel m w names a b k j (called x es) y
  call_computes {k = k} {j = j} {es = es} {xs = xs} {b = b} {y = y} x f no_input is args body =
      let first = body a (looks_self m a) in
      record {
        next = ap (λ (v : Val). v.next) (call_is w k x f no_input is args) ∙ ap (λ (d : Did). d.known.next) first.body.is ∙ first.body.does.next;
        grows = omega (arith, first.body.does.grows);
        by = λ mk room l look. subst (λ (v : Val). Computed fuel m b l v y) (sym (call_is w k x f no_input is args)) (behind mk room l look (body l look));
      }
    where
      n : ℕ
      n = length f.params

      value : Val
      value = record { flow = called_flow w k f args.flow args.pures; pure = the_local (k + n); next = (w.inline f (bound f.params k) (k + n + 1) (k + n)).known.next }

      ended : (l : View) (r : Outcome) (end : View) → meaning act value.flow fuel l ≡ r → Alike (k + n + 1) r (Done end) → m ≤ k → Looks m end b → at_slot end.locals (k + n) ≡ y → Computed fuel m b l value y
      ended l (Done to) end e h mk look v = record { to = to; does = e; looks = looks_on m (k + n + 1) to end b (omega arith) h look; value = local_value (k + n) to.locals ∙ h.locals (k + n) (omega arith) ∙ v }
      ended l r end e h mk look v = absurd h

      behind : m ≤ k → j ≤ length a.locals → (l : View) → Looks m l a → Gives fuel m w f k j xs b y l → Computed fuel m b l value y
      behind mk room l look g = ended l (meaning act value.flow fuel l) g.end refl (inside f args mk room l look g.body) mk g.like g.value

  -- ---- inputs

  -- f(), of any int: the next input
  pub input_computes : {k : ℕ} {v : ℤ} {vs : List ℤ} (x : Ident) → is_input x ≡ true → a.inputs ≡ v ∷ vs → is_int v ≡ true → Computes fuel m w names a (record { memory = a.memory; locals = a.locals; inputs = vs }) k (k + 1) (called x []) v
  input_computes {k = k} {v = v} {vs = vs} x is_in e int = record {
    next = rw is_in refl;
    grows = omega arith;
    by = λ mk room l look. subst (λ (u : Val). Computed fuel m (record { memory = a.memory; locals = a.locals; inputs = vs }) l u v) (sym is) (taken mk room l look);
  }
    where
      is : val_of w names k (called x []) ≡ input nowhere k
      is = rw is_in refl

      next : View → View
      next l = record { memory = l.memory; locals = slice_set l.locals k v; inputs = vs }

      taken : m ≤ k → k + 1 ≤ length a.locals → (l : View) → Looks m l a → Computed fuel m (record { memory = a.memory; locals = a.locals; inputs = vs }) l (input nowhere k) v
      taken mk room l look = record {
        to = next l;
        does = ap (λ ins. with_input ins l k) (look.inputs ∙ e) ∙ rw int refl;
        looks = record { memory = look.memory; inputs = refl; many = length-set l.locals k v ∙ look.many; locals = λ r q. get_or-set_other l.locals k r v (pos 0) (omega arith) ∙ look.locals r q };
        value = local_value k (slice_set l.locals k v) ∙ get_or-set_same l.locals k v (pos 0) (omega (arith, look.many));
      }

  -- x = f(); where no input is left that is an int
  pub input_halts : {seen : Seen} {k r : ℕ} (x f : Ident) → local_of names x ≡ Some r → is_input f ≡ true → ((l : View) → with_input a.inputs l k ≡ Halted) → Does fuel m w names a seen k seen (k + 1) (assign_call x f []) Halted
  unfolding assigned
  input_halts {seen = seen} {k = k} {r = r} x f is is_in none = does_by
      (effect (told seen names k) (set_to nowhere r (input nowhere k)))
      (stmt_is (stmt.Assign (tree.left_at nowhere (left.Name x)) (called f [])) w (told seen names k) ∙ rw is (rw is_in refl))
      refl (omega arith)
      (λ mk room l look. rw (ap (λ ins. with_input ins l k) look.inputs ∙ none l) tt)
