-- The laws of the helpers, from their calls' rules.
use Rattle.std.proofs.Common.{arith, true, false, Bool, ◌≡◌, ℕ, ◌+◌, ◌<◌, ◌≤◌, ◌^◌, ℤ, List, [], ◌∷◌, length, slice_get, nat_lt, if◌then◌else◌, Some, None}
use Rattle.mm_goto.specs.Value.{value_of}
use Rattle.mm_sched.specs.State.{State, Pending, pending_of}
use Rattle.mm_sched.specs.Buffer as buffer
use Rattle.mm_sched.specs.Event.{pushed, flushed, written}
use Rattle.mm_words.specs.Words.{num, number, call}
use Rattle.mm_helpers.specs.Helpers.{wm_put, wm_pop, wm_get, wm_empty, wm_set, wm_flush}
use Rattle.mm_flow.specs.declared.names.Named.{Named}
use Rattle.mm_flow.specs.declared.names.Seen.{Seen}
use Rattle.mm_flow.specs.Statements.{Within, function_of}
use Rattle.mm_meaning.specs.Acting.{act}
use Rattle.mm_meaning.specs.Meaning.{View, Outcome, Done, Halted, meaning}
use Rattle.mm_meaning.proofs.Looks.{looks_self}
use Rattle.mm_meaning.proofs.Alike.{Alike}
use Rattle.mm_meaning.proofs.Calls.{num_plain, number_plain}
use Rattle.mm_pieces.specs.Calling.{Inlines, Sees, put_function, pop_function, get_function, empty_function, set_function, flush_function, known, flow_of, call_of}
use Rattle.mm_pieces.specs.Mirroring.{Table, IsSmall, HasArrays, Homes, Mirrors, Agrees}
use Rattle.mm_pieces.specs.Flushing.{Safe, Leaves, thread_rows, asked}
use Rattle.mm_pieces.proofs.Agreeing.{agrees_as, mirrors_as}
use Rattle.mm_pieces.proofs.Stores.{put_agrees}
use Rattle.mm_pieces.proofs.Flushes.{pop_agrees}
use Rattle.mm_pieces.proofs.Loads.{get_agrees}
use Rattle.mm_pieces.proofs.Sets.{empty_agrees, set_agrees, set_view}
use Rattle.mm_pieces.proofs.FlushLoop.{popped_at, flush_does}
use Rattle.mm_pieces.proofs.FlushCall.{flush_ends}

module _ (tb : Table) (count size : ℕ) (home : ℕ → ℕ) (homes : Homes tb count size home) (small : IsSmall tb) where
  pub put_law : (fuel asserts mem : ℕ) (w : Within) (inner : ℕ → Within) → Inlines w inner → Sees tb count mem inner → function_of w.items w.parts.asserts wm_put ≡ Some (put_function tb.places asserts) →
      (names : List Named) (seen : Seen) (a : View) (s : State) (t c k : ℕ) (v : ℤ) → Mirrors tb count size home a s → t < tb.rows → k + 8 ≤ length a.locals →
      Agrees (Mirrors tb count size home) (meaning act (flow_of w (known seen names k) (call wm_put (num t ∷ num c ∷ number v ∷ []))) fuel a) (if nat_lt (length (pending_of s t)) tb.places then Some (pushed s t c v) else None)
  put_law fuel asserts mem w inner inlines sees is names seen a s t c k v like below room =
      let r = put_agrees tb count size home homes small fuel k asserts w inner inlines sees.arrays is names seen a s t c k v (num c) (number v) like below (omega arith) (omega arith) (num_plain c) (number_plain v) in
      agrees_as tb count size home k (meaning act (flow_of w (known seen names k) (call wm_put (num t ∷ num c ∷ number v ∷ []))) fuel a) r.0 (if nat_lt (length (pending_of s t)) tb.places then Some (pushed s t c v) else None) (λ b q h. h.0) ((r.1.by (omega arith) (omega arith)).by a (looks_self k a)) r.2

  pub pop_law : (fuel asserts mem : ℕ) (w : Within) (inner : ℕ → Within) → Inlines w inner → Sees tb count mem inner → mem + count ≤ tb.lens → function_of w.items w.parts.asserts wm_pop ≡ Some (pop_function tb.places asserts) →
      (names : List Named) (seen : Seen) (a : View) (s : State) (t c k : ℕ) (v : ℤ) (rest : List Pending) → Mirrors tb count size home a s → t < tb.rows → k + 9 ≤ length a.locals →
      pending_of s t ≡ (c, v) ∷ rest → c < count → home c ≡ mem + c → c < length s.memory → length rest < fuel →
      Agrees (Mirrors tb count size home) (meaning act (flow_of w (known seen names k) (call wm_pop (num t ∷ []))) fuel a) (Some (flushed s t c v))
  pop_law fuel asserts mem w inner inlines sees mem_len is names seen a s t c k v rest like below room pends cc_below moved in_memory fueled =
      let r = pop_agrees tb count size home homes small fuel k asserts mem w inner inlines sees.arrays sees.shared mem_len is names seen a s t c k v rest (num t) like below (omega arith) (omega arith) (num_plain t) pends cc_below moved in_memory fueled in
      agrees_as {R = Mirrors tb count size home} tb count size home k (meaning act (flow_of w (known seen names k) (call wm_pop (num t ∷ []))) fuel a) _ (Some (flushed s t c v)) (λ b q h. h) ((r.0.by (omega arith) (omega arith)).by a (looks_self k a)) r.1

  pub get_law : count < 2 ^ 31 → (fuel asserts mem : ℕ) (w : Within) (inner : ℕ → Within) → Inlines w inner → Sees tb count mem inner → function_of w.items w.parts.asserts wm_get ≡ Some (get_function tb.places asserts) →
      (names : List Named) (a : View) (s : State) (t c k : ℕ) → Mirrors tb count size home a s → t < tb.rows → k + 8 ≤ length a.locals → c < count → home c ≡ mem + c →
      ((i : ℕ) (q : Pending) → slice_get (pending_of s t) i ≡ Some q → q.0 < count) → length (pending_of s t) < fuel →
      (b : View) × (meaning act (call_of w names k wm_get (num t ∷ num c ∷ [])).flow fuel a ≡ Done b) × (b.memory ≡ a.memory) × (value_of (call_of w names k wm_get (num t ∷ num c ∷ [])).pure b.locals ≡ buffer.seen s t c)
  get_law few fuel asserts mem w inner inlines sees is names a s t c k like below room cc_below moved inside fueled =
      let r = get_agrees tb count size home homes small few fuel k asserts mem w inner inlines sees.arrays sees.shared is names a s t c k (num c) like below (omega arith) (omega arith) (num_plain c) cc_below moved inside fueled in
      let g = r.by (omega arith) (omega arith) a (looks_self k a) in
      (g.to, g.does, g.looks.memory, g.value)

  -- one outcome where the test is true, and none where it is false
  agrees_if : (m : ℕ) (x : Bool) (r : Outcome) (b : View) (q : State) → Alike m r (if x then Done b else Halted) → Mirrors tb count size home b q → Agrees (Mirrors tb count size home) r (if x then Some q else None)
  agrees_if m true r b q h like = agrees_as {R = Mirrors tb count size home} tb count size home m r (Done b) (Some q) (λ i j g. g) h like
  agrees_if m false r b q h like = agrees_as {R = Mirrors tb count size home} tb count size home m r Halted None (λ i j g. g) h tt

  pub empty_law : (fuel asserts mem : ℕ) (w : Within) (inner : ℕ → Within) → Inlines w inner → Sees tb count mem inner → function_of w.items w.parts.asserts wm_empty ≡ Some (empty_function asserts) →
      (names : List Named) (seen : Seen) (a : View) (s : State) (t k : ℕ) → Mirrors tb count size home a s → t < tb.rows → k + 3 ≤ length a.locals →
      Agrees (Mirrors tb count size home) (meaning act (flow_of w (known seen names k) (call wm_empty (num t ∷ []))) fuel a) (if buffer.is_empty (pending_of s t) then Some s else None)
  empty_law fuel asserts mem w inner inlines sees is names seen a s t k like below room =
      let d = empty_agrees tb count size home homes small fuel k asserts w inner inlines sees.arrays is names seen a s t k like below (omega arith) (omega arith) in
      agrees_if k (buffer.is_empty (pending_of s t)) (meaning act (flow_of w (known seen names k) (call wm_empty (num t ∷ []))) fuel a) a s ((d.by (omega arith) (omega arith)).by a (looks_self k a)) like

  pub set_law : (fuel asserts mem : ℕ) (w : Within) (inner : ℕ → Within) → Inlines w inner → Sees tb count mem inner → function_of w.items w.parts.asserts wm_set ≡ Some (set_function asserts) →
      (names : List Named) (seen : Seen) (a : View) (s : State) (t c k : ℕ) (v : ℤ) → Mirrors tb count size home a s → t < tb.rows → k + 5 ≤ length a.locals → c < count → home c ≡ mem + c → c < length s.memory →
      Agrees (Mirrors tb count size home) (meaning act (flow_of w (known seen names k) (call wm_set (num t ∷ num c ∷ number v ∷ []))) fuel a) (if buffer.is_empty (pending_of s t) then Some (written s c v) else None)
  set_law fuel asserts mem w inner inlines sees is names seen a s t c k v like below room cc_below moved in_memory =
      let d = set_agrees tb count size home homes small fuel k asserts w inner inlines sees.arrays mem sees.shared is names seen a s t c k v (num c) (number v) like below (omega arith) (omega arith) (num_plain c) (number_plain v) cc_below moved in_memory in
      agrees_if k (buffer.is_empty (pending_of s t)) (meaning act (flow_of w (known seen names k) (call wm_set (num t ∷ num c ∷ number v ∷ []))) fuel a) (set_view tb count size home homes small fuel k asserts w inner inlines sees.arrays a c v) (written s c v)
      ((d.0.by (omega arith) (omega arith)).by a (looks_self k a)) d.1

  pub flush_law : (fuel of_pop of_flush mem shorter : ℕ) (w : Within) (middle inner : ℕ → Within) → Inlines w middle → ((r : ℕ) → Inlines (middle r) inner) →
      ((r : ℕ) → HasArrays tb (middle r).parts.spots) → Sees tb count mem inner → mem + count ≤ tb.lens → shorter ≤ fuel →
      ((r : ℕ) → function_of (middle r).items (middle r).parts.asserts wm_pop ≡ Some (pop_function tb.places of_pop)) → function_of w.items w.parts.asserts wm_flush ≡ Some (flush_function tb.rows of_flush) →
      (names : List Named) (seen : Seen) (a : View) (s : State) (k : ℕ) → Mirrors tb count size home a s → Safe tb count home mem shorter s → k + 14 ≤ length a.locals → length a.inputs ≤ fuel →
      Agrees (Leaves (Mirrors tb count size home)) (meaning act (flow_of w (known seen names k) (call wm_flush [])) fuel a) (asked (thread_rows tb.rows) s a.inputs)
  flush_law fuel of_pop of_flush mem shorter w middle inner inlines inlines2 here sees mem_len fueled pop_is flush_is names seen a s k like safe room few =
      flush_ends (thread_rows tb.rows) tb.lens (Mirrors tb count size home) (Safe tb count home mem shorter) (popped_at tb count size home homes mem shorter) (mirrors_as tb count size home) fuel k of_flush w middle inlines flush_is (λ slot. slot + 1 + 1 + 1 + 1 + 1 + 1 + 1 + 1 + 1 + 1 + 1 + 1 + 1)
      (λ slot seen2 r. flush_does tb count size home homes mem shorter small fuel of_pop slot fueled (middle r) seen2 inner (inlines2 r) (here r) sees.arrays sees.shared mem_len (pop_is r)) names seen a s k like safe (omega arith) (omega arith) (omega arith) few
