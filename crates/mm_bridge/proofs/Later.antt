-- Of two steps of one thread that an edge by cells or by a queue joins, the second is of a later instruction.
use Rattle.std.proofs.Common.{arith, ◌≡◌, ℕ, ◌<◌, ◌≤◌, ℤ, ◌⊎◌, inl, inr, [], length, take, Option, Some, None, refl, Bool, true, false, sym, ◌∙◌, ap, ap₂, subst, slice_get, if◌then◌else◌}
use Rattle.std.specs.Prelude.{◌||◌, is_some, option_and_then}
use Rattle.std.proofs.lemmas.Bool.{cases_order, false≢true, eq-eqb}
use Rattle.std.proofs.lemmas.Option.{none-some, same_Some}
use Rattle.mm_goto.specs.Bounds.{Bounding}
use Rattle.mm_goto.specs.declared.model.Model.{Model}
use Rattle.mm_goto.specs.Listing.{Listing}
use Rattle.mm_sched.specs.declared.entry.Act.{Act}
use Rattle.mm_sched.specs.declared.entry.Act.TheVariants.{Goes, Loads, Pushes, Puts, Updates, Misses}
use Rattle.mm_sched.specs.declared.entry.Event.{Event}
use Rattle.mm_sched.specs.declared.entry.Event.TheVariants.{Does, Flushes}
use Rattle.mm_sched.specs.State.{pending_of}
use Rattle.mm_sched.specs.Buffer.{is_empty}
use Rattle.mm_sched.proofs.Happens.{HasNames}
use Rattle.mm_runkeys.specs.Keys.{deed, key, queue, own, drains, pushes, pops, makes, only_reads_by, is_own, own_by}
use Rattle.mm_runkeys.specs.declared.keys.Layout.{Layout}
use Rattle.mm_runkeys.specs.Spans.{is_key, times}
use Rattle.mm_rungraph.specs.Edges.{IsIssued, IsOverwritten}
use Rattle.mm_rungraph.specs.RunGraph.{layout_of}
use Rattle.mm_rungraph.proofs.Queues.{digits}
use Rattle.mm_rungraph.proofs.Whole.{times_up}
use Rattle.mm_rungraph.proofs.Nths.{within}
use Rattle.mm_reorder.proofs.Classes.{what_is, below, issued_below, one_store}
use Rattle.mm_reorder.proofs.Counting.{pops_it}
use Rattle.mm_reorder.proofs.Course.{Course, told, by_is}
use Rattle.mm_reorder.proofs.Issuing.{StoreOf, store_of, made_behind, store_cell}
use Rattle.mm_reorder.proofs.Lateness.{empty_by, flush_is, store_made, stored_first, out_before}
use Rattle.mm_reorder.proofs.Loading.{owns}
use Rattle.mm_reorder.proofs.Newest.{newest}

none_of : (o : Option ℤ) → is_some o ≡ false → o ≡ None
none_of None h = refl
none_of (Some x) h = absurd (false≢true (sym h))

no_read : (o w : Bool) (c : ℕ) → (if o || w then None else None) ≡ Some c → ⊥
no_read true w c h = none-some c h
no_read false true c h = none-some c h
no_read false false c h = none-some c h

-- it loads memory, or is drained
pub only_reads_as : (o : Bool) (t : ℕ) (a : Act) (c : ℕ) → only_reads_by o (Does t a) ≡ Some c → ((l : ℕ) × (v : ℤ) × (a ≡ Loads l c v) × (o ≡ false)) ⊎ ((deed a).drained ≡ true)
only_reads_as o t (Loads l d x) c h = go o refl h
  where
    go : (b : Bool) → o ≡ b → (if b || false then None else Some d) ≡ Some c → ((l2 : ℕ) × (v : ℤ) × (Loads l d x ≡ Loads l2 c v) × (o ≡ false)) ⊎ (false ≡ true)
    go false e y = inl (l, x, ap (λ z. Loads l z x) (same_Some d c y), e)
    go true e y = absurd (none-some c y)
only_reads_as o t (Misses l d) c h = inr refl
only_reads_as o t (Updates l x d y) c h = inr refl
only_reads_as o t (Goes j) c h = absurd (no_read o false c h)
only_reads_as o t (Puts d x) c h = absurd (no_read o true c h)
only_reads_as o t a c h = absurd (no_read o false c h)

pub own_as : (o : Bool) (t : ℕ) (a : Act) (x : ℕ) (s : Layout) → own_by s o (Does t a) ≡ Some x → (l : ℕ) × (c : ℕ) × (v : ℤ) × (a ≡ Loads l c v) × (own s t c ≡ x)
own_as false t a x s h = absurd (none-some x h)
own_as true t (Loads l c v) x s h = (l, c, v, refl, same_Some (own s t c) x h)
own_as true t (Goes j) x s h = absurd (none-some x h)
own_as true t a x s h = absurd (none-some x h)

makes_by : (s : Layout) (v : Event) (x : ℕ) → makes s v ≡ Some x → (t : ℕ) × (c : ℕ) × (z : ℤ) × (v ≡ Does t (Pushes c z)) × (own s t c ≡ x)
makes_by s (Flushes u c y) x h = absurd (none-some x h)
makes_by s (Does u (Pushes c y)) x h = (u, c, y, refl, same_Some (own s u c) x h)
makes_by s (Does u (Goes j)) x h = absurd (none-some x h)
makes_by s (Does u a) x h = absurd (none-some x h)

module _ (m : Model) (bound : Bounding) (p : Listing) (k : Course m bound p) where
  -- what is step n
  is : (n : ℕ) (v : Event) → slice_get k.events n ≡ Some v → k.walk.what n ≡ v
  is n v e = what_is m bound p k [] n v e

  under : (n : ℕ) (v : Event) → slice_get k.events n ≡ Some v → n < k.walk.size
  under n v e = below m bound p k [] n v e

  -- the cell of a load is one of the program's
  pub load_cell : (n t l c : ℕ) (v : ℤ) → slice_get k.events n ≡ Some (Does t (Loads l c v)) → c < length p.cells
  load_cell n t l c v e = let below : n < k.walk.size = under n (Does t (Loads l c v)) e in subst (λ z. c < z) (k.cells n below) (subst (HasNames (k.walk.at n).state) (is n (Does t (Loads l c v)) e) (k.walk.names n below)).1

  -- ---- two flushes

  -- of two flushes of one queue the first is of the earlier store
  pub queue_order : (a b i j : ℕ) (x : IsIssued (layout_of m bound p) k.events a i) (y : IsIssued (layout_of m bound p) k.events b j) → x.queue ≡ y.queue → i < j → a < b
  queue_order a b i j x y same l = go (cases_order a b)
    where
      flushed : times (pops (layout_of m bound p)) y.queue (take i k.events) < times (pops (layout_of m bound p)) y.queue (take j k.events)
      flushed = times_up (pops (layout_of m bound p)) k.events y.queue i j (x.flushed.is ∙ ap Some same) l (let w = within (pops (layout_of m bound p)) k.events y.queue j y.flushed.is in omega (arith, w))

      nths : x.nth < y.nth
      nths = let e : times (pops (layout_of m bound p)) x.queue (take i k.events) ≡ x.nth = x.flushed.nth in let f : times (pops (layout_of m bound p)) y.queue (take j k.events) ≡ y.nth = y.flushed.nth in let g = subst (λ q. times (pops (layout_of m bound p)) q (take i k.events) ≡ x.nth) same e in omega (arith, flushed, f, g)

      of_a : times (pushes (layout_of m bound p)) y.queue (take a k.events) ≡ x.nth
      of_a = subst (λ q. times (pushes (layout_of m bound p)) q (take a k.events) ≡ x.nth) same x.made.nth

      of_b : times (pushes (layout_of m bound p)) y.queue (take b k.events) ≡ y.nth
      of_b = y.made.nth

      go : (a ≡ b) ⊎ ((a < b) ⊎ (b < a)) → a < b
      go (inr (inl h)) = h
      go (inl e) = absurd (let f = subst (λ n. times (pushes (layout_of m bound p)) y.queue (take n k.events) ≡ x.nth) e of_a in omega (arith, nths, f, of_b))
      go (inr (inr h)) = absurd (let u = times_up (pushes (layout_of m bound p)) k.events y.queue b a y.made.is h (let w = within (pushes (layout_of m bound p)) k.events x.queue a x.made.is in omega (arith, w)) in omega (arith, u, nths, of_a, of_b))

  -- the queue of a flush
  pub queue_of : (a n t c : ℕ) (v : ℤ) (i : IsIssued (layout_of m bound p) k.events a n) → slice_get k.events n ≡ Some (Flushes t c v) → i.queue ≡ queue (layout_of m bound p) t c
  queue_of a n t c v i e = same_Some i.queue (queue (layout_of m bound p) t c) (sym i.flushed.is ∙ ap (option_and_then (λ z. pops (layout_of m bound p) z)) e)

  -- ---- an instruction, and a flush behind it

  module _ (i j b t c : ℕ) (a : Act) (v : ℤ) (at_i : slice_get k.events i ≡ Some (Does t a)) (at_j : slice_get k.events j ≡ Some (Flushes t c v)) (issued : IsIssued (layout_of m bound p) k.events b j) (l : i < j) where
    f : StoreOf m bound p k j t c
    f = store_of m bound p k j t c v (under j (Flushes t c v) at_j) (is j (Flushes t c v) at_j)

    same_store : f.store ≡ b
    same_store = one_store (layout_of m bound p) k.events f.store b j f.issued issued

    made_it : k.walk.what f.store ≡ Does t (Pushes c v)
    made_it = store_made m bound p k [] f.store j t c v (under j (Flushes t c v) at_j) (is j (Flushes t c v) at_j) f.issued

    -- the instruction is another one
    by_order : (i ≡ f.store → ⊥) → (f.store < i → ⊥) → i < b
    by_order n o = go (cases_order i f.store)
      where
        go : (i ≡ f.store) ⊎ ((i < f.store) ⊎ (f.store < i)) → i < b
        go (inl e) = absurd (n e)
        go (inr (inl h)) = subst (λ z. i < z) same_store h
        go (inr (inr h)) = absurd (o h)

    differs : ((d : ℕ) (x : ℤ) → a ≡ Pushes d x → ⊥) → i ≡ f.store → ⊥
    differs n e = n c v (one (sym (is i (Does t a) at_i) ∙ ap k.walk.what e ∙ made_it))
      where
        one : Does t a ≡ Does t (Pushes c v) → a ≡ Pushes c v
        one h = cc

    -- a drained instruction finds none of the thread's stores pending
    pub drained_first : (deed a).drained ≡ true → i < b
    drained_first d = by_order (differs (λ e x same. false≢true (sym (ap (λ z. (deed z).drained) same) ∙ d))) (λ h. let z : i ≤ f.store = made_behind m bound p k t c j i v (omega (arith, l)) (under j (Flushes t c v) at_j) empty (is j (Flushes t c v) at_j) f in omega (arith, z, h))
      where
        key_is : is_key t (drains (Does t a)) ≡ true
        key_is = ap (λ z. is_key t (if z then Some t else None)) d ∙ eq-eqb t t refl

        empty : is_empty (pending_of (k.walk.at i).state t) ≡ true
        empty = empty_by m bound (k.walk.at i).state t a (told m bound p k i t a (under i (Does t a) at_i) (is i (Does t a) at_i)) key_is

    -- a load of memory finds none of them to the cell
    pub load_first : (x : ℕ) (w : ℤ) → a ≡ Loads x c w → is_own (layout_of m bound p) (take i k.events) (Does t a) ≡ false → i < b
    load_first x w load memory = by_order (differs (λ e y same. no_store (sym load ∙ same))) (λ h. let z : j < i = out_before m bound p k [] t c f.store j i v h (under i (Does t a) at_i) (under j (Flushes t c v) at_j) made_it f.number nothing in omega (arith, z, l))
      where
        no_store : {d : ℕ} {y : ℤ} → Loads x c w ≡ Pushes d y → ⊥
        no_store e = cc

        here : k.walk.what i ≡ Does t (Loads x c w)
        here = is i (Does t a) at_i ∙ ap (λ z. Does t z) load

        nothing : newest (pending_of (k.walk.at i).state t) c ≡ None
        nothing = none_of (newest (pending_of (k.walk.at i).state t) c) (sym (owns m bound p k t x c i w (newest (pending_of (k.walk.at i).state t) c) (under i (Does t a) at_i) here refl) ∙ sym (ap (λ z. is_own (layout_of m bound p) (take i k.events) (Does t z)) load) ∙ memory)

    -- a load of the thread's own store takes the newest
    pub own_first : (x : ℕ) (w : ℤ) → a ≡ Loads x c w → (o : IsOverwritten (layout_of m bound p) k.events i j) → own (layout_of m bound p) t c ≡ o.took.key → i < b
    own_first x w load o own_key = by_order (differs (λ e y same. no_store (sym load ∙ same))) (λ h. o.took.none f.store after_it h (by_is m bound p k (makes (layout_of m bound p)) f.store (let z : f.store < j = f.before in let y = under j (Flushes t c v) at_j in omega (arith, z, y)) ∙ ap (makes (layout_of m bound p)) made_it ∙ ap Some own_key))
      where
        no_store : {d : ℕ} {y : ℤ} → Loads x c w ≡ Pushes d y → ⊥
        no_store e = cc

        lx : i < k.walk.size
        lx = under i (Does t a) at_i

        below_i : o.store < i
        below_i = o.took.before

        took_it : (z : ℤ) × (k.walk.what o.store ≡ Does t (Pushes c z))
        took_it = go (makes_by (layout_of m bound p) (k.walk.what o.store) o.took.key (sym (by_is m bound p k (makes (layout_of m bound p)) o.store (omega (arith, below_i, lx))) ∙ o.took.from))
          where
            go : (u : ℕ) × (d : ℕ) × (z : ℤ) × (k.walk.what o.store ≡ Does u (Pushes d z)) × (own (layout_of m bound p) u d ≡ o.took.key) → (z : ℤ) × (k.walk.what o.store ≡ Does t (Pushes c z))
            go (u, d, z, e, same) =
                let q = digits (length p.cells) u t d c (store_cell m bound p k o.store u d z (omega (arith, below_i, lx)) e) (load_cell i t x c w (at_i ∙ ap (λ z. Some (Does t z)) load)) (same ∙ sym own_key) in
                (z, e ∙ ap₂ (λ a b. Does a (Pushes b z)) q.0 q.1)

        flush_it : k.walk.what o.flush ≡ Flushes t c took_it.0
        flush_it = flush_is m bound p k [] o.store o.flush t c took_it.0 (omega (arith, below_i, lx)) took_it.1 o.issued

        number : (k.walk.at o.store).pushed t (key m c) ≡ (k.walk.at o.flush).popped t (key m c)
        number =
            let g = store_of m bound p k o.flush t c took_it.0 (issued_below m bound p k [] o.store o.flush o.issued) flush_it in
            subst (λ z. (k.walk.at z).pushed t (key m c) ≡ (k.walk.at o.flush).popped t (key m c)) (one_store (layout_of m bound p) k.events g.store o.store o.flush g.issued o.issued) g.number

        after_it : o.store < f.store
        after_it = stored_first m bound p k [] t (key m c) o.store f.store o.flush j o.next.before (under j (Flushes t c v) at_j) (omega (arith, below_i, lx)) (pops_it m (k.walk.what o.flush) t c took_it.0 flush_it) number f.number
