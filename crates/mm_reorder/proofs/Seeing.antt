-- A load sees the same value in another order.
use Rattle.std.proofs.Common.{arith, ◌≡◌, ℕ, suc, ◌<◌, ◌≤◌, ℤ, pos, Option, Some, None, refl, Bool, true, false, sym, ◌∙◌, ap, ap₂, subst, ◌==◌, slice_get, get_or-set_same, ⊎_elim}
use Rattle.std.specs.Prelude.{unwrap_or}
use Rattle.std.proofs.lemmas.Bool.{cases_lt, eqb-true, eq-eqb}
use Rattle.std.proofs.lemmas.Option.{unwrap_or-slice_get, same_Some}
use Rattle.mm_goto.specs.Bounds.{Bounding}
use Rattle.mm_goto.specs.declared.model.Model.{Model}
use Rattle.mm_goto.specs.Listing.{Listing}
use Rattle.mm_sched.specs.declared.entry.Event.TheVariants.{Flushes}
use Rattle.mm_sched.specs.State.{State, Pending, pending_of, at_cell}
use Rattle.mm_sched.specs.Buffer.{seen}
use Rattle.mm_sched.specs.Event.{flushed}
use Rattle.mm_sched.proofs.Happens.{HasNames}
use Rattle.mm_runkeys.specs.Keys.{key}
use Rattle.mm_reorder.proofs.Counting.{IsPop, pop_of, pops_it, head_is, popped_past}
use Rattle.mm_reorder.proofs.Newest.{newest, newest_is, NotAt, IsLast, newest_none, none_newest, newest_last, last_newest}
use Rattle.mm_reorder.proofs.Part.{newest_part}
use Rattle.mm_reorder.proofs.Parts.{Ghost, CellOf, PushedOf, PoppedOf, changes, follow}
use Rattle.mm_reorder.proofs.Queue.{live}
use Rattle.mm_reorder.proofs.Walking.{Walk, Queued, Agree, Cuts, same_at}

pub cell_alike : (s h : State) (c : ℕ) → slice_get s.memory c ≡ slice_get h.memory c → at_cell s c ≡ at_cell h c
cell_alike s h c e = sym (unwrap_or-slice_get s.memory c (pos 0)) ∙ ap (λ o. unwrap_or o (pos 0)) e ∙ unwrap_or-slice_get h.memory c (pos 0)

module _ (m : Model) (bound : Bounding) (p : Listing) (w : Walk m bound p) where
  -- after a flush its value is in memory
  pub flushed_cell : (u t c : ℕ) (x : ℤ) → u < w.size → w.what u ≡ Flushes t c x → at_cell (w.at (suc u)).state c ≡ x
  unfolding flushed
  flushed_cell u t c x l e =
      ap (λ (g : Ghost). at_cell g.state c) (w.goes u l)
      ∙ ap (λ v. at_cell (follow m (w.at u) v).state c) e
      ∙ get_or-set_same (w.at u).state.memory c x (pos 0) (subst (HasNames (w.at u).state) e (w.names u l)).1

  pub newest_queued : (g : Ghost) (t c : ℕ) → Queued m w.stores g → newest (pending_of g.state t) c ≡ newest (live (w.stores t (key m c)) (g.popped t (key m c)) (g.pushed t (key m c))) c
  newest_queued g t c h = sym (newest_part m (pending_of g.state t) c) ∙ ap (λ ps. newest ps c) (h t c).1

  seen_is : (s : State) (t c : ℕ) → seen s t c ≡ unwrap_or (newest (pending_of s t) c) (at_cell s c)
  seen_is s t c = ap (λ o. unwrap_or o (at_cell s c)) (newest_is (pending_of s t) c)

  module _ (done : ℕ → Bool) (g : Ghost) (v : ℕ) (l : v < w.size) (agree : Agree m bound p w done g) (queued : Queued m w.stores g) (t c : ℕ)
      -- program order
      (issued : Cuts m bound p w done (PushedOf t (key m c)) v)
      -- where it read memory
      (from_memory : newest (pending_of (w.at v).state t) c ≡ None → Cuts m bound p w done (CellOf c) v)
      -- where it read its own pending store, that step u flushed
      (from_own : (u : ℕ) (x : ℤ) → u < w.size → w.what u ≡ Flushes t c x → (w.at v).popped t (key m c) ≤ (w.at u).popped t (key m c) → IsLast (w.stores t (key m c)) ((w.at v).pushed t (key m c)) c x ((w.at u).popped t (key m c)) → done u ≡ true → Cuts m bound p w done (CellOf c) (suc u)) where
    same_into : g.pushed t (key m c) ≡ (w.at v).pushed t (key m c)
    same_into = same_at m bound p w done g (PushedOf t (key m c)) v agree issued (omega arith)

    newest_now : newest (pending_of g.state t) c ≡ newest (live (w.stores t (key m c)) (g.popped t (key m c)) ((w.at v).pushed t (key m c))) c
    newest_now = newest_queued g t c queued ∙ ap (λ i. newest (live (w.stores t (key m c)) (g.popped t (key m c)) i) c) same_into

    newest_then : newest (pending_of (w.at v).state t) c ≡ newest (live (w.stores t (key m c)) ((w.at v).popped t (key m c)) ((w.at v).pushed t (key m c))) c
    newest_then = newest_queued (w.at v) t c (w.queued v (omega arith))

    -- a store that v found out is out now, if it is to c
    already_out : Cuts m bound p w done (CellOf c) v → (j : ℕ) → g.popped t (key m c) ≤ j → j < (w.at v).popped t (key m c) → NotAt (w.stores t (key m c)) c j
    already_out cut j l2 n q e = go (q.0 == c) refl (pop_of m bound p w t (key m c) v j (omega arith) n)
      where
        clash : (q.0 == c) ≡ true → (u : ℕ) → u < v → (w.at u).popped t (key m c) ≡ j → IsPop m (w.what u) t (key m c) → ⊥
        clash h u a b (k, x, d, y) =
            let at : slice_get (w.stores t (key m c)) ((w.at u).popped t (key m c)) ≡ Some (k, x) = subst (λ z. slice_get (w.stores t z) ((w.at u).popped t z) ≡ Some (k, x)) y (head_is m bound p w u t k x (omega arith) d).1 in
            let same : q ≡ (k, x) = same_Some q (k, x) (sym e ∙ subst (λ i. slice_get (w.stores t (key m c)) i ≡ Some (k, x)) b at) in
            let here : k ≡ c = ap (λ (z : Pending). z.0) (sym same) ∙ eqb-true q.0 c h in
            let past : (w.at u).popped t (key m c) < g.popped t (key m c) = subst (λ z. (w.at u).popped t z < g.popped t z) y (popped_past m bound p w done g agree t k u x (omega arith) d ((cut u (omega arith) (ap (λ z. changes m z (CellOf c)) d ∙ eq-eqb k c here)).1 a)) in
            omega (arith, past, b, l2)

        go : (b : Bool) → (q.0 == c) ≡ b → (u : ℕ) × (u < v) × ((w.at u).popped t (key m c) ≡ j) × IsPop m (w.what u) t (key m c) → (q.0 == c) ≡ false
        go false h r = h
        go true h r = absurd (clash h r.0 r.1 r.2 r.3)

    memory_seen : newest (pending_of (w.at v).state t) c ≡ None → unwrap_or (newest (pending_of (w.at v).state t) c) (at_cell (w.at v).state c) ≡ unwrap_or (newest (pending_of g.state t) c) (at_cell g.state c)
    memory_seen e = ap₂ (λ o x. unwrap_or o x) (e ∙ sym (newest_now ∙ none_newest (w.stores t (key m c)) (g.popped t (key m c)) ((w.at v).pushed t (key m c)) c none)) (sym (cell_alike g.state (w.at v).state c (same_at m bound p w done g (CellOf c) v agree (from_memory e) (omega arith))))
      where
        none : (j : ℕ) → g.popped t (key m c) ≤ j → j < (w.at v).pushed t (key m c) → NotAt (w.stores t (key m c)) c j
        none j l2 n = ⊎_elim (already_out (from_memory e) j l2) (λ b. newest_none (w.stores t (key m c)) ((w.at v).popped t (key m c)) ((w.at v).pushed t (key m c)) c (sym newest_then ∙ e) j b n) (cases_lt j ((w.at v).popped t (key m c)))

    own_seen : (x : ℤ) → newest (pending_of (w.at v).state t) c ≡ Some x → (i : ℕ) × ((w.at v).popped t (key m c) ≤ i) × IsLast (w.stores t (key m c)) ((w.at v).pushed t (key m c)) c x i → unwrap_or (newest (pending_of (w.at v).state t) c) (at_cell (w.at v).state c) ≡ unwrap_or (newest (pending_of g.state t) c) (at_cell g.state c)
    own_seen x e (i, lo, last) = ap (λ o. unwrap_or o (at_cell (w.at v).state c)) e ∙ sym (⊎_elim out still (cases_lt i (g.popped t (key m c))))
      where
        still : g.popped t (key m c) ≤ i → unwrap_or (newest (pending_of g.state t) c) (at_cell g.state c) ≡ x
        still b = ap (λ o. unwrap_or o (at_cell g.state c)) (newest_now ∙ last_newest (w.stores t (key m c)) (g.popped t (key m c)) ((w.at v).pushed t (key m c)) c x i b last)

        none : i < g.popped t (key m c) → newest (pending_of g.state t) c ≡ None
        none b = newest_now ∙ none_newest (w.stores t (key m c)) (g.popped t (key m c)) ((w.at v).pushed t (key m c)) c (λ j l2 n. last.2 j (omega arith) n)

        there : (u k : ℕ) → k ≤ w.size → Cuts m bound p w done (PoppedOf t (key m c)) k → u < k → (w.at u).popped t (key m c) ≡ i → IsPop m (w.what u) t (key m c) → at_cell g.state c ≡ x
        there u k l2 cut a b (d, y, is, same_key) =
            let at : slice_get (w.stores t (key m c)) ((w.at u).popped t (key m c)) ≡ Some (d, y) = subst (λ z. slice_get (w.stores t z) ((w.at u).popped t z) ≡ Some (d, y)) same_key (head_is m bound p w u t d y (omega arith) is).1 in
            let same : ◌≡◌ {A = Pending} (d, y) (c, x) = same_Some (d, y) (c, x) (sym (subst (λ j. slice_get (w.stores t (key m c)) j ≡ Some (d, y)) b at) ∙ last.1) in
            let own : w.what u ≡ Flushes t c x = is ∙ ap (λ (z : Pending). Flushes t z.0 z.1) same in
            let is_done : done u ≡ true = (cut u (omega arith) (pops_it m (w.what u) t c x own)).1 a in
            let cell : Cuts m bound p w done (CellOf c) (suc u) = from_own u x (omega arith) own (subst (λ j. (w.at v).popped t (key m c) ≤ j) (sym b) lo) (subst (λ j. IsLast (w.stores t (key m c)) ((w.at v).pushed t (key m c)) c x j) (sym b) last) is_done in
            cell_alike g.state (w.at (suc u)).state c (same_at m bound p w done g (CellOf c) (suc u) agree cell (omega arith)) ∙ flushed_cell u t c x (omega arith) own

        out : i < g.popped t (key m c) → unwrap_or (newest (pending_of g.state t) c) (at_cell g.state c) ≡ x
        out b = go (agree (PoppedOf t (key m c)))
          where
            go : (k : ℕ) × (k ≤ w.size) × Cuts m bound p w done (PoppedOf t (key m c)) k × (g.popped t (key m c) ≡ (w.at k).popped t (key m c)) → unwrap_or (newest (pending_of g.state t) c) (at_cell g.state c) ≡ x
            go (k, l2, cut, same) =
                let f = pop_of m bound p w t (key m c) k i l2 (subst (λ j. i < j) same b) in
                ap₂ (λ o y. unwrap_or o y) (none b) (there f.0 k l2 cut f.1 f.2 f.3)

    pub load_seen : seen (w.at v).state t c ≡ seen g.state t c
    load_seen = seen_is (w.at v).state t c ∙ go (newest (pending_of (w.at v).state t) c) refl ∙ sym (seen_is g.state t c)
      where
        go : (o : Option ℤ) → newest (pending_of (w.at v).state t) c ≡ o → unwrap_or (newest (pending_of (w.at v).state t) c) (at_cell (w.at v).state c) ≡ unwrap_or (newest (pending_of g.state t) c) (at_cell g.state c)
        go None e = memory_seen e
        go (Some x) e = own_seen x e (newest_last (w.stores t (key m c)) ((w.at v).popped t (key m c)) ((w.at v).pushed t (key m c)) c x (sym newest_then ∙ e))
