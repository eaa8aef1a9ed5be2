-- What reading and following pointers does.
use Rattle.std.proofs.Common.{arith, ◌≡◌, ℕ, suc, ◌+◌, ◌^◌, ◌<◌, ℤ, pos, List, length, Some, refl, sym, ◌∙◌, ap, subst}
use Rattle.std.proofs.lemmas.Bool.{lt-ltb}
use Rattle.mm_goto.specs.Value.{address}
use Rattle.mm_goto.specs.declared.ident.Ident.{Ident}
use Rattle.mm_goto.specs.declared.program.Target.TheVariants as target
use Rattle.mm_goto.specs.declared.program.Instr.TheVariants as instr
use Rattle.mm_sched.specs.Event.{cell_of}
use Rattle.mm_tree.specs.Places.{nowhere}
use Rattle.mm_tree.specs.declared.expr.Expr.{Expr}
use Rattle.mm_tree.specs.declared.expr.Node.TheOpen as node
use Rattle.mm_words.specs.Words.{address_elem, assign_deref, deref, address as address_word, word}
use Rattle.mm_flow.specs.declared.names.Spot.{Spot}
use Rattle.mm_flow.specs.Scopes.{spot_of}
use Rattle.mm_flow.specs.Words.{address as address_of}
use Rattle.mm_flow.specs.Expressions.{Scope, Val, no_code, followed, address_at, expr_value}
use Rattle.mm_meaning.specs.Meaning.{View, Done, then_do}
use Rattle.mm_meaning.specs.Acting.{let_cell, act, at_slot}
use Rattle.mm_meaning.proofs.Lowering.{value_is}
use Rattle.mm_meaning.proofs.Numbers.{address_value, element_value, in_range, not_null}
use Rattle.mm_meaning.proofs.Gets.{Got, GetsVal, Gets, Aimed, Aims, loaded_gets}
use Rattle.std.specs.Int.{w32, int_wrapping_add}
use Rattle.mm_tree.specs.declared.stmt.LeftNode.TheVariants as left
use Rattle.mm_goto.specs.Checks.{is_in_range, is_not_zero}
use Rattle.mm_flow.specs.declared.names.Named.{Named}
use Rattle.mm_flow.specs.declared.names.Seen.{Seen}
use Rattle.mm_flow.specs.Statements.{Within, scope}
use Rattle.mm_meaning.proofs.Does.{Does, stores}

-- *p, where the pointer is the address of a cell
pub followed_aims : {fuel m : ℕ} {a : View} {n k : ℕ} {v : Val} (c : ℕ) → c < length a.memory → suc c < 2 ^ 31 → GetsVal fuel m a n k v (pos (suc c)) → Aims fuel m a n k (followed nowhere v) c
followed_aims {fuel = fuel} {m = m} {a = a} {n = n} {k = k} {v = v} c below small h = record { next = h.next; grows = h.grows; by = λ mn room l look. behind l (h.by mn room l look) }
  where
    behind : (l : View) → Got fuel m n k a l v (pos (suc c)) → Aimed fuel m n k a l (followed nowhere v) c
    behind l g = record {
      to = g.to;
      does = ap (λ o. then_do o (act (instr.Assert (is_not_zero v.pure) 0))) g.does ∙ checked;
      looks = g.looks;
      kept = g.kept;
      found = λ cells ls e same. (let f : cell_of cells ls (target.Deref v.pure) ≡ Some c = rw (g.value ls same) (rw e (rw (lt-ltb c (length a.memory) below) refl)) in f);
    }
      where
        checked : act (instr.Assert (is_not_zero v.pure) 0) g.to ≡ Done g.to
        checked = rw (not_null v.pure c g.to.locals (g.value g.to.locals (λ r q. refl)) small) refl

module _ {fuel m : ℕ} {a : View} {s : Scope} where
  pub deref_gets : {n k : ℕ} {e : Expr} (c : ℕ) → c < length a.memory → suc c < 2 ^ 31 → Gets fuel m a s n k e (pos (suc c)) → Gets fuel m a s n (k + 1) (deref e) (at_slot a.memory c)
  deref_gets {n = n} {k = k} {e = e} c below small p =
      record { is = subst (λ v. GetsVal fuel m a n (k + 1) v (at_slot a.memory c)) (sym (value_is (node.Deref e) s n)) (loaded_gets (followed nowhere (expr_value e s n)) (followed_aims c below small p.is)) }

  pub address_gets : (n : ℕ) (x : Ident) (g : Spot) → spot_of s.spots x ≡ Some g → Gets fuel m a s n n (address_word x) (address g.first)
  address_gets n x g is = record {
    is = subst (λ v. GetsVal fuel m a n n v (address g.first)) (sym (value_is (node.AddrName (word x)) s n ∙ rw is refl))
        (let r : GetsVal fuel m a n n (no_code (address_of g.first) n) (address g.first) = record { next = refl; grows = omega arith; by = λ mn room l look. record { to = l; does = refl; looks = look; kept = λ r q. refl; value = λ ls same. address_value g.first ls } } in r);
  }

  -- &x[e], by an index that is in it
  pub address_elem_gets : {n k : ℕ} {e : Expr} (x : Ident) (g : Spot) (i : ℕ) → spot_of s.spots x ≡ Some g → i < g.len → Gets fuel m a s n k e (pos i) → Gets fuel m a s n k (address_elem x e) (int_wrapping_add w32 (address g.first) (pos i))
  address_elem_gets {n = n} {k = k} {e = e} x g i is below p =
      record { is = subst (λ v. GetsVal fuel m a n k v (int_wrapping_add w32 (address g.first) (pos i))) (sym (value_is (node.AddrIndex (word x) e) s n ∙ rw is refl)) (whole (expr_value e s n) p.is) }
    where
      whole : (v : Val) → GetsVal fuel m a n k v (pos i) → GetsVal fuel m a n k (address_at nowhere g v) (int_wrapping_add w32 (address g.first) (pos i))
      whole v h = record { next = h.next; grows = h.grows; by = λ mn room l look. behind l (h.by mn room l look) }
        where
          behind : (l : View) → Got fuel m n k a l v (pos i) → Got fuel m n k a l (address_at nowhere g v) (int_wrapping_add w32 (address g.first) (pos i))
          behind l b = record {
            to = b.to;
            does = ap (λ o. then_do o (act (instr.Assert (is_in_range v.pure g.len) 0))) b.does ∙ checked;
            looks = b.looks;
            kept = b.kept;
            value = λ ls same. element_value g.first g.len v.pure ls ∙ ap (int_wrapping_add w32 (address g.first)) (b.value ls same);
          }
            where
              checked : act (instr.Assert (is_in_range v.pure g.len) 0) b.to ≡ Done b.to
              checked = rw (in_range v.pure g.len i b.to.locals (b.value b.to.locals (λ r q. refl)) below) refl

-- *p = f;
pub assigns_deref : {fuel m : ℕ} {w : Within} {names : List Named} {a : View} {seen : Seen} {k i j : ℕ} {e f : Expr} {y : ℤ} (c : ℕ) → c < length a.memory → suc c < 2 ^ 31 → Gets fuel m a (scope w names) k i e (pos (suc c)) → Gets fuel m a (scope w names) i j f y → Does fuel m w names a seen k seen j (assign_deref e f) (Done (let_cell a c y))
assigns_deref {e = e} c below small p q = stores (left.Deref e) refl (followed_aims c below small p.is) q
