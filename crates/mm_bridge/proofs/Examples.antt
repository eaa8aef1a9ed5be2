-- The cycles of the examples, edge by edge.
use Rattle.std.proofs.Common.{arith, ◌≡◌, ℕ, zero, suc, ◌+◌, ◌<◌, pos, inl, inr, [], Option, Some, None, refl}
use Rattle.mm_goto.specs.Bounds.{uniform}
use Rattle.mm_goto.specs.declared.model.Model.TheVariants.{Tso, Pso}
use Rattle.mm_sched.specs.Tiny.{store_buffering, message_passing}
use Rattle.mm_runkeys.specs.declared.graph.EdgeKind.TheVariants.{Program, Issue, Reads, FromRead}
use Rattle.mm_runkeys.specs.declared.keys.Layout.{Layout}
use Rattle.mm_runkeys.specs.Keys.{runs, writes}
use Rattle.mm_rungraph.specs.Edges.{by, IsEdge}
use Rattle.mm_rungraph.specs.RunGraph.{layout_of}
use Rattle.mm_reorder.specs.AddedEdges.{IsAdded}
use Rattle.mm_reorder.specs.Cycles.{Cycle, Link, here, step}
use Rattle.mm_bridge.specs.Tiny.{both_late_events, message_late_events}

none_some : {A : Type 0} (x : A) → None ≡ Some x → ⊥
none_some x e = cc

zero_one : ◌≡◌ {A = Option ℕ} (Some 0) (Some 1) → ⊥
zero_one e = cc

one_zero : ◌≡◌ {A = Option ℕ} (Some 1) (Some 0) → ⊥
one_zero e = cc

-- no step stands between
none_between : {A : Type 0} (a k : ℕ) → a < k → k < a + 1 → A
none_between a k low high = absurd (omega (arith, low, high))

-- ---- store buffering

module _ where
  abbrev buffering : Layout
  buffering = layout_of Tso (uniform 1) store_buffering

  -- main goes on behind its store
  main_next : IsEdge buffering both_late_events Program 1 3
  main_next = record { key = 0; before = omega arith; from = refl; to = refl; none = between }
    where
      between : (k : ℕ) → 1 < k → k < 3 → by runs both_late_events k ≡ Some 0 → ⊥
      between zero low high e = absurd (omega (arith, low))
      between (suc zero) low high e = absurd (omega (arith, low))
      between (suc (suc zero)) low high e = one_zero e
      between (suc (suc (suc k))) low high e = absurd (omega (arith, high))

  -- and so does the other thread
  other_next : IsEdge buffering both_late_events Program 2 4
  other_next = record { key = 1; before = omega arith; from = refl; to = refl; none = between }
    where
      between : (k : ℕ) → 2 < k → k < 4 → by runs both_late_events k ≡ Some 1 → ⊥
      between zero low high e = absurd (omega (arith, low))
      between (suc zero) low high e = absurd (omega (arith, low))
      between (suc (suc zero)) low high e = absurd (omega (arith, low))
      between (suc (suc (suc zero))) low high e = zero_one e
      between (suc (suc (suc (suc k)))) low high e = absurd (omega (arith, high))

  -- each load reads before the other thread's store reaches memory
  main_reads : IsEdge buffering both_late_events FromRead 3 6
  main_reads = inl (record { key = 1; before = omega arith; from = refl; to = refl; none = between })
    where
      between : (k : ℕ) → 3 < k → k < 6 → by writes both_late_events k ≡ Some 1 → ⊥
      between zero low high e = absurd (omega (arith, low))
      between (suc zero) low high e = absurd (omega (arith, low))
      between (suc (suc zero)) low high e = absurd (omega (arith, low))
      between (suc (suc (suc zero))) low high e = absurd (omega (arith, low))
      between (suc (suc (suc (suc zero)))) low high e = none_some 1 e
      between (suc (suc (suc (suc (suc zero))))) low high e = zero_one e
      between (suc (suc (suc (suc (suc (suc k)))))) low high e = absurd (omega (arith, high))

  other_reads : IsEdge buffering both_late_events FromRead 4 5
  other_reads = inl (record { key = 0; before = omega arith; from = refl; to = refl; none = λ k low high e. none_between 4 k low high })

  main_late : IsAdded buffering store_buffering [] both_late_events 5 3
  main_late = record {
    store = 1;
    direct = record { thread = 0; cell = 0; value = pos 1; stores = refl; outside = refl };
    flush = record { queue = 0; nth = 0; before = omega arith; made = record { is = refl; nth = refl }; flushed = record { is = refl; nth = refl } };
    next = main_next;
  }

  other_late : IsAdded buffering store_buffering [] both_late_events 6 4
  other_late = record {
    store = 2;
    direct = record { thread = 1; cell = 1; value = pos 1; stores = refl; outside = refl };
    flush = record { queue = 2; nth = 0; before = omega arith; made = record { is = refl; nth = refl }; flushed = record { is = refl; nth = refl } };
    next = other_next;
  }

  pub buffering_cycle : Cycle (Link buffering store_buffering [] both_late_events) 5
  buffering_cycle = (3, inr main_late, step 6 (inl (FromRead, main_reads)) (step 4 (inr other_late) (step 5 (inl (FromRead, other_reads)) here)))

-- ---- message passing

module _ where
  abbrev passing : Layout
  passing = layout_of Pso (uniform 1) message_passing

  message_late : IsAdded passing message_passing [] message_late_events 6 2
  message_late = record {
    store = 1;
    direct = record { thread = 0; cell = 0; value = pos 5; stores = refl; outside = refl };
    flush = record { queue = 0; nth = 0; before = omega arith; made = record { is = refl; nth = refl }; flushed = record { is = refl; nth = refl } };
    next = record { key = 0; before = omega arith; from = refl; to = refl; none = λ k low high e. none_between 1 k low high };
  }

  flag_issued : IsEdge passing message_late_events Issue 2 3
  flag_issued = record { queue = 1; nth = 0; before = omega arith; made = record { is = refl; nth = refl }; flushed = record { is = refl; nth = refl } }

  flag_read : IsEdge passing message_late_events Reads 3 4
  flag_read = record { key = 1; before = omega arith; from = refl; to = refl; none = λ k low high e. none_between 3 k low high }

  reads_on : IsEdge passing message_late_events Program 4 5
  reads_on = record { key = 1; before = omega arith; from = refl; to = refl; none = λ k low high e. none_between 4 k low high }

  message_unread : IsEdge passing message_late_events FromRead 5 6
  message_unread = inl (record { key = 0; before = omega arith; from = refl; to = refl; none = λ k low high e. none_between 5 k low high })

  pub passing_cycle : Cycle (Link passing message_passing [] message_late_events) 6
  passing_cycle = (2, inr message_late, step 3 (inl (Issue, flag_issued)) (step 4 (inl (Reads, flag_read)) (step 5 (inl (Program, reads_on)) (step 6 (inl (FromRead, message_unread)) here))))
