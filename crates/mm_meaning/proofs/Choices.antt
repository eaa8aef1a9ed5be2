-- What reading choices and operands that are not always evaluated does.
use Rattle.std.proofs.Common.{arith, ◌≡◌, ℕ, ◌+◌, ◌≤◌, ℤ, pos, true, false, not, List, length, refl, sym, ◌∙◌, ap, subst, slice_set, if◌then◌else◌}
use Rattle.std.specs.Prelude.{◌||◌}
use Rattle.std.proofs.lemmas.List.{get_or-set_same, get_or-set_other}
use Rattle.mm_goto.specs.Value.{value_of, is_zero, unary_value, binary_value}
use Rattle.mm_goto.specs.declared.pure.Pure.{Pure}
use Rattle.mm_goto.specs.declared.pure.Unary.TheVariants.{Not}
use Rattle.mm_goto.specs.declared.pure.Binary.TheVariants as binary
use Rattle.mm_goto.specs.declared.program.Instr.TheVariants as instr
use Rattle.mm_goto.specs.Checks.{is_not_zero}
use Rattle.mm_goto.specs.Terms.{the_local, constant, applied}
use Rattle.mm_tree.specs.Places.{nowhere}
use Rattle.mm_tree.specs.declared.expr.Expr.{Expr}
use Rattle.mm_tree.specs.declared.expr.Node.TheOpen as node
use Rattle.mm_words.specs.Words.{bin, choice}
use Rattle.mm_flow.specs.declared.names.Joining.TheVariants.{And, Or}
use Rattle.mm_flow.specs.Flow.{Do, Then, When}
use Rattle.mm_flow.specs.Words.{chosen}
use Rattle.mm_flow.specs.Expressions.{Scope, Val, zero_value, one_value, short, joining, of_three, expr_value, reading}
use Rattle.mm_meaning.specs.Meaning.{View}
use Rattle.mm_meaning.specs.Acting.{let_local}
use Rattle.mm_meaning.proofs.Lowering.{value_is}
use Rattle.mm_meaning.proofs.Numbers.{const_value, local_value, un_value, bin_value, cond_value, truth_zero}
use Rattle.mm_meaning.proofs.Looks.{looks_fresh}
use Rattle.mm_meaning.proofs.Gets.{Got, GetsVal, Gets}
use Rattle.mm_meaning.proofs.Sized.{Sized}

module _ {fuel m : ℕ} {a : View} {s : Scope} where
  -- ---- && and ||, where the second operand has code

  -- the second operand is not evaluated
  skipped : {n k j : ℕ} {f : Expr} {x : ℤ} (start test : Pure) (z t : ℤ) (v : Val) → ((ls : List ℤ) → value_of start ls ≡ z) → ((ls : List ℤ) → value_of v.pure ls ≡ x → value_of test ls ≡ t) → is_zero t ≡ true → GetsVal fuel m a n k v x → Sized s (k + 1) j f → GetsVal fuel m a n j (short nowhere start test v (expr_value f s)) z
  skipped {n = n} {k = k} {j = j} {f = f} {x = x} start test z t v starts tests is h q = record {
    next = ap (λ i. (expr_value f s (i + 1)).next) h.next ∙ q.is;
    grows = omega (arith, h.grows, q.grows);
    by = λ mn room l look. behind mn room l (h.by mn (omega (arith, q.grows)) l look);
  }
    where
      behind : m ≤ n → j ≤ length a.locals → (l : View) → Got fuel m n k a l v x → Got fuel m n j a l (short nowhere start test v (expr_value f s)) z
      behind mn room l g = (let b = let_local g.to v.next z in record {
        to = b;
        does = rw g.does (rw (starts g.to.locals) (rw (tests b.locals (g.value b.locals (λ r q2. get_or-set_other g.to.locals v.next r z (pos 0) (omega (arith, h.next))))) (rw is refl)));
        looks = looks_fresh m g.to a v.next z (omega (arith, h.next, h.grows)) g.looks;
        kept = λ r q2. get_or-set_other g.to.locals v.next r z (pos 0) (omega (arith, h.next, h.grows)) ∙ g.kept r q2;
        value = λ ls same. local_value v.next ls ∙ same v.next (omega (arith, h.next, q.grows)) ∙ get_or-set_same g.to.locals v.next z (pos 0) (omega (arith, h.next, q.grows, g.looks.many));
      })

  -- it is, and its test is the value
  reached : {n k j : ℕ} {f : Expr} {x y : ℤ} (start test : Pure) (z t : ℤ) (v : Val) → ((ls : List ℤ) → value_of start ls ≡ z) → ((ls : List ℤ) → value_of v.pure ls ≡ x → value_of test ls ≡ t) → is_zero t ≡ false → GetsVal fuel m a n k v x → Gets fuel m a s (k + 1) j f y → GetsVal fuel m a n j (short nowhere start test v (expr_value f s)) (binary_value binary.Ne y (pos 0))
  reached {n = n} {k = k} {j = j} {f = f} {x = x} {y = y} start test z t v starts tests is h q = record {
    next = ap (λ i. (expr_value f s (i + 1)).next) h.next ∙ q.is.next;
    grows = omega (arith, h.grows, q.is.grows);
    by = λ mn room l look. behind mn room l (h.by mn (omega (arith, q.is.grows)) l look);
  }
    where
      u : ℕ → Val
      u i = expr_value f s (i + 1)

      w : Val
      w = expr_value f s (k + 1)

      whole : ℕ → Val → Val
      whole i c = record { flow = Then v.flow (Then (Do nowhere (instr.Set i start)) (When nowhere test (Then c.flow (Do nowhere (instr.Set i (is_not_zero c.pure)))))); pure = the_local i; next = c.next }

      behind : m ≤ n → j ≤ length a.locals → (l : View) → Got fuel m n k a l v x → Got fuel m n j a l (short nowhere start test v (expr_value f s)) (binary_value binary.Ne y (pos 0))
      behind mn room l g = subst (λ i. Got fuel m n j a l (whole i (u i)) (binary_value binary.Ne y (pos 0))) (sym h.next)
          (last (q.is.by (omega (arith, h.grows)) room (let_local g.to k z) (looks_fresh m g.to a k z (omega (arith, h.grows)) g.looks)))
        where
          b : View
          b = let_local g.to k z

          out : ℤ
          out = binary_value binary.Ne y (pos 0)

          last : Got fuel m (k + 1) j a (let_local g.to k z) w y → Got fuel m n j a l (whole k w) (binary_value binary.Ne y (pos 0))
          last c = record {
            to = let_local c.to k (binary_value binary.Ne y (pos 0));
            does = rw g.does (rw (starts g.to.locals) (rw (tests (slice_set g.to.locals k z) (g.value (slice_set g.to.locals k z) (λ r q2. get_or-set_other g.to.locals k r z (pos 0) (omega arith)))) (rw is (rw c.does (rw (bin_value binary.Ne w.pure (constant (pos 0)) c.to.locals) (rw (c.value c.to.locals (λ r q2. refl)) (rw (const_value (pos 0) c.to.locals) refl)))))));
            looks = looks_fresh m c.to a k out (omega (arith, h.grows)) c.looks;
            kept = λ r q2. get_or-set_other c.to.locals k r out (pos 0) (omega (arith, h.grows)) ∙ c.kept r (omega (arith, h.grows)) ∙ get_or-set_other g.to.locals k r z (pos 0) (omega (arith, h.grows)) ∙ g.kept r q2;
            value = λ ls same. local_value k ls ∙ same k (omega (arith, q.is.grows)) ∙ get_or-set_same c.to.locals k out (pos 0) (omega (arith, q.is.grows, c.looks.many));
          }

  -- e && f
  pub and_skips : {n k j : ℕ} {e f : Expr} {x : ℤ} → joining binary.Land ((reading f).has_code s) ≡ And → is_zero x ≡ true → Gets fuel m a s n k e x → Sized s (k + 1) j f → Gets fuel m a s n j (bin binary.Land e f) (pos 0)
  and_skips {n = n} {j = j} {e = e} {f = f} {x = x} is_and z p q = record {
    is = subst (λ v. GetsVal fuel m a n j v (pos 0)) (sym (value_is (node.Bin binary.Land e f) s n ∙ rw is_and refl))
        (skipped zero_value (expr_value e s n).pure (pos 0) x (expr_value e s n) (λ ls. const_value (pos 0) ls) (λ ls h. h) z p.is q);
  }

  pub and_reaches : {n k j : ℕ} {e f : Expr} {x y : ℤ} → joining binary.Land ((reading f).has_code s) ≡ And → is_zero x ≡ false → Gets fuel m a s n k e x → Gets fuel m a s (k + 1) j f y → Gets fuel m a s n j (bin binary.Land e f) (binary_value binary.Ne y (pos 0))
  and_reaches {n = n} {j = j} {e = e} {f = f} {x = x} {y = y} is_and z p q = record {
    is = subst (λ v. GetsVal fuel m a n j v (binary_value binary.Ne y (pos 0))) (sym (value_is (node.Bin binary.Land e f) s n ∙ rw is_and refl))
        (reached zero_value (expr_value e s n).pure (pos 0) x (expr_value e s n) (λ ls. const_value (pos 0) ls) (λ ls h. h) z p.is q);
  }

  -- e || f
  pub or_skips : {n k j : ℕ} {e f : Expr} {x : ℤ} → joining binary.Lor ((reading f).has_code s) ≡ Or → is_zero x ≡ false → Gets fuel m a s n k e x → Sized s (k + 1) j f → Gets fuel m a s n j (bin binary.Lor e f) (pos 1)
  or_skips {n = n} {j = j} {e = e} {f = f} {x = x} is_or z p q = record {
    is = subst (λ v. GetsVal fuel m a n j v (pos 1)) (sym (value_is (node.Bin binary.Lor e f) s n ∙ rw is_or refl))
        (skipped one_value (applied Not (expr_value e s n).pure) (pos 1) (unary_value Not x) (expr_value e s n) (λ ls. const_value (pos 1) ls) (λ ls h. un_value Not (expr_value e s n).pure ls ∙ ap (unary_value Not) h) (truth_zero (is_zero x) ∙ ap not z) p.is q);
  }

  pub or_reaches : {n k j : ℕ} {e f : Expr} {x y : ℤ} → joining binary.Lor ((reading f).has_code s) ≡ Or → is_zero x ≡ true → Gets fuel m a s n k e x → Gets fuel m a s (k + 1) j f y → Gets fuel m a s n j (bin binary.Lor e f) (binary_value binary.Ne y (pos 0))
  or_reaches {n = n} {j = j} {e = e} {f = f} {x = x} {y = y} is_or z p q = record {
    is = subst (λ v. GetsVal fuel m a n j v (binary_value binary.Ne y (pos 0))) (sym (value_is (node.Bin binary.Lor e f) s n ∙ rw is_or refl))
        (reached one_value (applied Not (expr_value e s n).pure) (pos 1) (unary_value Not x) (expr_value e s n) (λ ls. const_value (pos 1) ls) (λ ls h. un_value Not (expr_value e s n).pure ls ∙ ap (unary_value Not) h) (truth_zero (is_zero x) ∙ ap not z) p.is q);
  }

  -- ---- c ? a : b

  -- where no arm has code, both are evaluated
  pub choice_gets : {n k j i : ℕ} {c e f : Expr} {x y z : ℤ} → ((reading e).has_code s || (reading f).has_code s) ≡ false → Gets fuel m a s n k c x → Gets fuel m a s k j e y → Gets fuel m a s j i f z → Gets fuel m a s n i (choice c e f) (if is_zero x then z else y)
  choice_gets {n = n} {k = k} {j = j} {i = i} {c = c} {e = e} {f = f} {x = x} {y = y} {z = z} no_code_in p q r =
      record { is = subst (λ v. GetsVal fuel m a n i v (if is_zero x then z else y)) (sym (value_is (node.Cond c e f) s n ∙ rw no_code_in refl)) (whole (expr_value c s n) p.is) }
    where
      out : ℤ
      out = if is_zero x then z else y

      u : Val
      u = expr_value e s k

      w : Val
      w = expr_value f s j

      three : Val → Val
      three v = record { flow = Then v.flow (Then u.flow w.flow); pure = chosen v.pure u.pure w.pure; next = w.next }

      -- where the fresh locals begin
      placed : (v : Val) → v.next ≡ k → of_three v (expr_value e s) (expr_value f s) ≡ three v
      placed v g = ap (λ t. (let b = expr_value e s t in let d = expr_value f s b.next in let o : Val = record { flow = Then v.flow (Then b.flow d.flow); pure = chosen v.pure b.pure d.pure; next = d.next } in o)) g
          ∙ ap (λ t. (let d = expr_value f s t in let o : Val = record { flow = Then v.flow (Then u.flow d.flow); pure = chosen v.pure u.pure d.pure; next = d.next } in o)) q.is.next

      whole : (v : Val) → GetsVal fuel m a n k v x → GetsVal fuel m a n i (of_three v (expr_value e s) (expr_value f s)) (if is_zero x then z else y)
      whole v h = subst (λ o. GetsVal fuel m a n i o (if is_zero x then z else y)) (sym (placed v h.next)) (record {
        next = r.is.next;
        grows = omega (arith, h.grows, q.is.grows, r.is.grows);
        by = λ mn room l look. behind mn room l (h.by mn (omega (arith, q.is.grows, r.is.grows)) l look);
      })
        where
          behind : m ≤ n → i ≤ length a.locals → (l : View) → Got fuel m n k a l v x → Got fuel m n i a l (three v) (if is_zero x then z else y)
          behind mn room l g = second (q.is.by (omega (arith, h.grows)) (omega (arith, r.is.grows)) g.to g.looks)
            where
              second : Got fuel m k j a g.to u y → Got fuel m n i a l (three v) (if is_zero x then z else y)
              second b = third (r.is.by (omega (arith, h.grows, q.is.grows)) room b.to b.looks)
                where
                  third : Got fuel m j i a b.to w z → Got fuel m n i a l (three v) (if is_zero x then z else y)
                  third d = record {
                    to = d.to;
                    does = rw g.does (rw b.does d.does);
                    looks = d.looks;
                    kept = λ t below. d.kept t (omega (arith, h.grows, q.is.grows)) ∙ b.kept t (omega (arith, h.grows)) ∙ g.kept t below;
                    value = λ ls same. cond_value v.pure u.pure w.pure ls
                        ∙ ap (λ o. if is_zero o then value_of w.pure ls else value_of u.pure ls) (g.value ls (λ t below. same t (omega (arith, q.is.grows, r.is.grows)) ∙ d.kept t (omega (arith, q.is.grows)) ∙ b.kept t below))
                        ∙ ap (λ o. if is_zero x then o else value_of u.pure ls) (d.value ls same)
                        ∙ ap (λ o. if is_zero x then z else o) (b.value ls (λ t below. same t (omega (arith, r.is.grows)) ∙ d.kept t below));
                  }
