-- What reading an expression does: its code fills fresh locals alone, and behind it the value is known.
use Rattle.std.proofs.Common.{arith, ◌≡◌, ℕ, ◌+◌, ◌<◌, ◌≤◌, ℤ, pos, List, length, Some, None, refl, sym, ◌∙◌, ap, subst}
use Rattle.std.proofs.lemmas.List.{get_or-set_same, get_or-set_other}
use Rattle.std.proofs.lemmas.Bool.{lt-ltb}
use Rattle.mm_goto.specs.Value.{value_of, binary_value, unary_value}
use Rattle.mm_goto.specs.declared.ident.Ident.{Ident}
use Rattle.mm_goto.specs.declared.pure.Pure.{Pure}
use Rattle.mm_goto.specs.declared.pure.Unary.{Unary}
use Rattle.mm_goto.specs.declared.pure.Binary.{Binary}
use Rattle.mm_goto.specs.declared.program.Target.TheVariants as target
use Rattle.mm_goto.specs.declared.program.Instr.TheVariants as instr
use Rattle.mm_goto.specs.Checks.{is_in_range}
use Rattle.mm_goto.specs.Terms.{constant, the_local, combined}
use Rattle.mm_sched.specs.Event.{cell_of}
use Rattle.mm_tree.specs.Places.{nowhere}
use Rattle.mm_tree.specs.declared.expr.Expr.{Expr}
use Rattle.mm_tree.specs.declared.expr.Node.TheOpen as node
use Rattle.mm_words.specs.Words.{number, num, var, elem, un, bin}
use Rattle.mm_flow.specs.declared.names.Spot.{Spot}
use Rattle.mm_flow.specs.declared.names.Joining.TheVariants.{Both}
use Rattle.mm_flow.specs.Flow.{Empty, Then}
use Rattle.mm_flow.specs.Scopes.{local_of, spot_of}
use Rattle.mm_flow.specs.Expressions.{Scope, Val, no_code, Aim, cell, indexed, loaded, of_one, of_two, joining, division_check, expr_value, reading}
use Rattle.mm_meaning.specs.Meaning.{View, Done, then_do, meaning}
use Rattle.mm_meaning.specs.Acting.{act, at_slot, let_local, with_cell}
use Rattle.mm_meaning.proofs.Lowering.{value_is}
use Rattle.mm_meaning.proofs.Numbers.{const_value, local_value, un_value, bin_value, in_range}
use Rattle.mm_meaning.proofs.Looks.{Looks, looks_fresh}

-- from l, which looks like a, the code leads on, and the value behind it is x
pub record Got (fuel m n k : ℕ) (a l : View) (v : Val) (x : ℤ) : Type 0 where
  pub to : View
  pub does : meaning act v.flow fuel l ≡ Done to
  pub looks : Looks m to a
  pub kept : (r : ℕ) → r < n → at_slot to.locals r ≡ at_slot l.locals r
  pub value : (ls : List ℤ) → ((r : ℕ) → r < k → at_slot ls r ≡ at_slot to.locals r) → value_of v.pure ls ≡ x

pub record GetsVal (fuel m : ℕ) (a : View) (n k : ℕ) (v : Val) (x : ℤ) : Type 0 where
  pub next : v.next ≡ k
  pub grows : n ≤ k
  pub by : m ≤ n → k ≤ length a.locals → (l : View) → Looks m l a → Got fuel m n k a l v x

-- where n is the next fresh local, and k the next behind it, the expression has the value x in a
pub record Gets (fuel m : ℕ) (a : View) (s : Scope) (n k : ℕ) (e : Expr) (x : ℤ) : Type 0 where
  pub is : GetsVal fuel m a n k (expr_value e s n) x

-- what an access of a cell finds behind its code
pub record Aimed (fuel m n k : ℕ) (a l : View) (t : Aim) (c : ℕ) : Type 0 where
  pub to : View
  pub does : meaning act t.flow fuel l ≡ Done to
  pub looks : Looks m to a
  pub kept : (r : ℕ) → r < n → at_slot to.locals r ≡ at_slot l.locals r
  pub found : (cells : ℕ) (ls : List ℤ) → cells ≡ length a.memory → ((r : ℕ) → r < k → at_slot ls r ≡ at_slot to.locals r) → cell_of cells ls t.target ≡ Some c

-- the access is of cell c
pub record Aims (fuel m : ℕ) (a : View) (n k : ℕ) (t : Aim) (c : ℕ) : Type 0 where
  pub next : t.next ≡ k
  pub grows : n ≤ k
  pub by : m ≤ n → k ≤ length a.locals → (l : View) → Looks m l a → Aimed fuel m n k a l t c

-- ---- values

plain_gets : {fuel m : ℕ} {a : View} (n : ℕ) (p : Pure) (x : ℤ) → ((l : View) → Looks m l a → m ≤ n → (ls : List ℤ) → ((r : ℕ) → r < n → at_slot ls r ≡ at_slot l.locals r) → value_of p ls ≡ x) → GetsVal fuel m a n n (no_code p n) x
plain_gets n p x h = record { next = refl; grows = omega arith; by = λ mn room l s. record { to = l; does = refl; looks = s; kept = λ r q. refl; value = h l s mn } }

-- the value of a cell, in the fresh local behind its code
pub loaded_gets : {fuel m : ℕ} {a : View} {n k c : ℕ} (t : Aim) → Aims fuel m a n k t c → GetsVal fuel m a n (k + 1) (loaded nowhere t) (at_slot a.memory c)
loaded_gets {fuel = fuel} {m = m} {a = a} {n = n} {k = k} {c = c} t h = record {
  next = ap (λ z. z + 1) h.next;
  grows = omega (arith, h.grows);
  by = λ mn room l s. behind mn room l (h.by mn (omega arith) l s);
}
  where
    y : ℤ
    y = at_slot a.memory c

    behind : m ≤ n → k + 1 ≤ length a.locals → (l : View) → Aimed fuel m n k a l t c → Got fuel m n (k + 1) a l (loaded nowhere t) y
    behind mn room l g = record {
      to = let_local g.to t.next y;
      does = ap (λ o. then_do o (act (instr.Load t.next t.target))) g.does
          ∙ ap (λ o. with_cell o (λ i. let_local g.to t.next (at_slot g.to.memory i))) (g.found (length g.to.memory) g.to.locals (ap length g.looks.memory) (λ r q. refl))
          ∙ ap (λ (mem : List ℤ). Done (let_local g.to t.next (at_slot mem c))) g.looks.memory;
      looks = looks_fresh m g.to a t.next y (omega (arith, h.next, h.grows)) g.looks;
      kept = λ r q. get_or-set_other g.to.locals t.next r y (pos 0) (omega (arith, h.next, h.grows)) ∙ g.kept r q;
      value = λ ls same. local_value t.next ls ∙ same t.next (omega (arith, h.next)) ∙ get_or-set_same g.to.locals t.next y (pos 0) (omega (arith, h.next, g.looks.many));
    }

-- a shared variable
pub cell_aims : {fuel m : ℕ} {a : View} (n : ℕ) (s : Spot) → Aims fuel m a n n (cell s n) s.first
cell_aims n s = record { next = refl; grows = omega arith; by = λ mn room l look. record { to = l; does = refl; looks = look; kept = λ r q. refl; found = λ cells ls e h. refl } }

-- x[i], where the index is in the array
pub indexed_aims : {fuel m : ℕ} {a : View} {n k : ℕ} {v : Val} (s : Spot) (i : ℕ) → i < s.len → GetsVal fuel m a n k v (pos i) → Aims fuel m a n k (indexed nowhere s v) (s.first + i)
indexed_aims {fuel = fuel} {m = m} {a = a} {n = n} {k = k} {v = v} s i below h = record { next = h.next; grows = h.grows; by = λ mn room l look. behind l (h.by mn room l look) }
  where
    behind : (l : View) → Got fuel m n k a l v (pos i) → Aimed fuel m n k a l (indexed nowhere s v) (s.first + i)
    behind l g = record {
      to = g.to;
      does = ap (λ o. then_do o (act (instr.Assert (is_in_range v.pure s.len) 0))) g.does ∙ checked;
      looks = g.looks;
      kept = g.kept;
      found = λ cells ls e same. (let f : cell_of cells ls (target.Elem s.first s.len v.pure) ≡ Some (s.first + i) = rw (g.value ls same) (rw (lt-ltb i s.len below) refl) in f);
    }
      where
        checked : act (instr.Assert (is_in_range v.pure s.len) 0) g.to ≡ Done g.to
        checked = rw (in_range v.pure s.len i g.to.locals (g.value g.to.locals (λ r q. refl)) below) refl

module _ {fuel m : ℕ} {a : View} {s : Scope} where
  pub number_gets : (n : ℕ) (z : ℤ) → Gets fuel m a s n n (number z) z
  number_gets n z = record { is = subst (λ v. GetsVal fuel m a n n v z) (sym (value_is (node.Number z) s n)) (plain_gets n (constant z) z (λ l look mn ls h. const_value z ls)) }

  pub num_gets : (n c : ℕ) → Gets fuel m a s n n (num c) (pos c)
  num_gets n c = number_gets n (pos c)

  -- a local that is looked at
  pub var_gets : (n : ℕ) (x : Ident) (l : ℕ) → l < m → local_of s.names x ≡ Some l → Gets fuel m a s n n (var x) (at_slot a.locals l)
  var_gets n x l h e = record { is = subst (λ v. GetsVal fuel m a n n v (at_slot a.locals l)) (sym (value_is (node.Name x) s n ∙ rw e refl)) (plain_gets n (the_local l) (at_slot a.locals l) (λ v look mn ls same. local_value l ls ∙ same l (omega arith) ∙ look.locals l h)) }

  -- a shared variable
  pub shared_gets : (n : ℕ) (x : Ident) (g : Spot) → local_of s.names x ≡ None → spot_of s.spots x ≡ Some g → Gets fuel m a s n (n + 1) (var x) (at_slot a.memory g.first)
  shared_gets n x g no_local e = record { is = subst (λ v. GetsVal fuel m a n (n + 1) v (at_slot a.memory g.first)) (sym (value_is (node.Name x) s n ∙ rw no_local (rw e refl))) (loaded_gets (cell g n) (cell_aims n g)) }

  -- an element of an array, by an index that is in it
  pub elem_gets : {n k : ℕ} {e : Expr} (x : Ident) (g : Spot) (i : ℕ) → spot_of s.spots x ≡ Some g → i < g.len → Gets fuel m a s n k e (pos i) → Gets fuel m a s n (k + 1) (elem x e) (at_slot a.memory (g.first + i))
  elem_gets {n = n} {k = k} {e = e} x g i is below p =
      record { is = subst (λ v. GetsVal fuel m a n (k + 1) v (at_slot a.memory (g.first + i))) (sym (value_is (node.Index x e) s n ∙ rw is refl)) (loaded_gets (indexed nowhere g (expr_value e s n)) (indexed_aims g i below p.is)) }

  pub un_gets : {n k : ℕ} {e : Expr} {x : ℤ} (op : Unary) → Gets fuel m a s n k e x → Gets fuel m a s n k (un op e) (unary_value op x)
  un_gets {n = n} {k = k} {e = e} {x = x} op p = record { is = subst (λ v. GetsVal fuel m a n k v (unary_value op x)) (sym (value_is (node.Un op e) s n)) (whole (expr_value e s n) p.is) }
    where
      whole : (v : Val) → GetsVal fuel m a n k v x → GetsVal fuel m a n k (of_one op v) (unary_value op x)
      whole v h = record { next = h.next; grows = h.grows; by = λ mn room l look. behind l (h.by mn room l look) }
        where
          behind : (l : View) → Got fuel m n k a l v x → Got fuel m n k a l (of_one op v) (unary_value op x)
          behind l g = record { to = g.to; does = g.does; looks = g.looks; kept = g.kept; value = λ ls same. un_value op v.pure ls ∙ ap (unary_value op) (g.value ls same) }

  -- both operands are evaluated, and the check of a divisor holds
  pub two_gets : {n k j : ℕ} {e f : Expr} {x y : ℤ} (op : Binary) → joining op ((reading f).has_code s) ≡ Both →
      ((p : Pure) (l : View) → value_of p l.locals ≡ y → meaning act (division_check op nowhere p) fuel l ≡ Done l) →
      Gets fuel m a s n k e x → Gets fuel m a s k j f y → Gets fuel m a s n j (bin op e f) (binary_value op x y)
  two_gets {n = n} {k = k} {j = j} {e = e} {f = f} {x = x} {y = y} op is_both check p q =
      record { is = subst (λ v. GetsVal fuel m a n j v (binary_value op x y)) (sym (value_is (node.Bin op e f) s n ∙ rw is_both refl)) (whole (expr_value e s n) p.is) }
    where
      w : Val
      w = expr_value f s k

      both_of : Val → Val → Val
      both_of v u = record { flow = Then v.flow (Then u.flow (division_check op nowhere u.pure)); pure = combined op v.pure u.pure; next = u.next }

      whole : (v : Val) → GetsVal fuel m a n k v x → GetsVal fuel m a n j (of_two nowhere op v (expr_value f s)) (binary_value op x y)
      whole v h = subst (λ i. GetsVal fuel m a n j (both_of v (expr_value f s i)) (binary_value op x y)) (sym h.next) (record {
        next = q.is.next;
        grows = omega (arith, h.grows, q.is.grows);
        by = λ mn room l look. behind l (h.by mn (omega (arith, q.is.grows)) l look) (λ b z. q.is.by (omega (arith, h.grows)) room b z);
      })
        where
          behind : (l : View) → (g : Got fuel m n k a l v x) → ((b : View) → Looks m b a → Got fuel m k j a b w y) → Got fuel m n j a l (both_of v w) (binary_value op x y)
          behind l g then_second = (let b = then_second g.to g.looks in record {
            to = b.to;
            does = ap (λ o. then_do o (meaning act (Then w.flow (division_check op nowhere w.pure)) fuel)) g.does
                ∙ ap (λ o. then_do o (meaning act (division_check op nowhere w.pure) fuel)) b.does
                ∙ check w.pure b.to (b.value b.to.locals (λ r h2. refl));
            looks = b.looks;
            kept = λ r h2. b.kept r (omega (arith, h.grows)) ∙ g.kept r h2;
            value = λ ls same. bin_value op v.pure w.pure ls
                ∙ ap (λ z. binary_value op z (value_of w.pure ls)) (g.value ls (λ r h2. same r (omega (arith, q.is.grows)) ∙ b.kept r h2))
                ∙ ap (λ z. binary_value op x z) (b.value ls same);
          })

  -- an operator that does not divide
  pub bin_gets : {n k j : ℕ} {e f : Expr} {x y : ℤ} (op : Binary) → joining op ((reading f).has_code s) ≡ Both → ((p : Pure) → division_check op nowhere p ≡ Empty) →
      Gets fuel m a s n k e x → Gets fuel m a s k j f y → Gets fuel m a s n j (bin op e f) (binary_value op x y)
  bin_gets op is_both no_check p q = two_gets op is_both (λ e l h. ap (λ c. meaning act c fuel l) (no_check e)) p q

-- the value by another name
pub gets_as : {fuel m n k : ℕ} {a : View} {s : Scope} {e : Expr} {x y : ℤ} → x ≡ y → Gets fuel m a s n k e x → Gets fuel m a s n k e y
gets_as {fuel = fuel} {m = m} {n = n} {k = k} {a = a} {s = s} {e = e} same g = subst (λ z. Gets fuel m a s n k e z) same g
