-- The laws of the helpers under PSO, from their calls' rules.
use Rattle.std.proofs.Common.{arith, ◌≡◌, ℕ, ◌+◌, ◌<◌, ◌≤◌, ℤ, Bool, true, false, List, [], ◌∷◌, length, slice_get, nat_lt, if◌then◌else◌, Some, None, refl}
use Rattle.mm_goto.specs.Value.{value_of}
use Rattle.mm_sched.specs.State.{State, Pending, pending_of}
use Rattle.mm_sched.specs.Buffer as buffer
use Rattle.mm_sched.specs.Event.{pushed, flushed, written}
use Rattle.mm_words.specs.Words.{num, number, call}
use Rattle.mm_helpers.specs.Helpers.{wm_put, wm_pop, wm_get, wm_empty, wm_set, wm_flush}
use Rattle.mm_flow.specs.declared.names.Named.{Named}
use Rattle.mm_flow.specs.declared.names.Seen.{Seen}
use Rattle.mm_flow.specs.Statements.{Within, function_of}
use Rattle.mm_meaning.specs.Acting.{act}
use Rattle.mm_meaning.specs.Meaning.{View, Outcome, Done, Left, Failed, Halted, Other, meaning}
use Rattle.mm_meaning.proofs.Looks.{looks_self}
use Rattle.mm_meaning.proofs.Alike.{Alike}
use Rattle.mm_meaning.proofs.Calls.{num_plain, number_plain}
use Rattle.mm_pieces.specs.Calling.{Inlines, flush_function, known, flow_of, call_of}
use Rattle.mm_pieces.specs.Flushing.{Leaves, asked}
use Rattle.mm_pieces.specs.Mirroring.{Agrees}
use Rattle.mm_pieces.specs.Parts.{PartTable, AreFew, SeesParts, PartHomes, MirrorsParts, SafeParts, rows_of, row_of, parts_of, cell_rows, pso_put_function, pso_pop_function, pso_get_function, pso_empty_function, pso_set_function}
use Rattle.mm_pieces.proofs.Mirrored.{mirrors_part_as}
use Rattle.mm_pieces.proofs.HeldPart.{mirrors_put_part}
use Rattle.mm_pieces.proofs.StorePart.{put_part_view, put_part_agrees}
use Rattle.mm_pieces.proofs.PoppedPart.{mirrors_pop_part}
use Rattle.mm_pieces.proofs.FlushPart.{pop_part_view, pop_part_agrees}
use Rattle.mm_pieces.proofs.LoadPart.{get_part_agrees}
use Rattle.mm_pieces.proofs.SetPart.{mirrors_set_part, set_part_view, set_part_agrees}
use Rattle.mm_pieces.proofs.EmptyPart.{empty_part_agrees}
use Rattle.mm_pieces.proofs.FlushRows.{popped_row, flush_rows_does}
use Rattle.mm_pieces.proofs.FlushCall.{flush_ends}

is_below : (n p : ℕ) → nat_lt n p ≡ true → n < p
is_below n p e = grind arith

module _ (tb : PartTable) (size : ℕ) (home : ℕ → ℕ) (homes : PartHomes tb size home) (few : AreFew tb) where
  -- one outcome where the test is true, and none where it is false
  agrees_part_if : (m : ℕ) (x : Bool) (r : Outcome) (b : View) (q : State) → Alike m r (if x then Done b else Halted) → (x ≡ true → MirrorsParts tb size home b q) → Agrees (MirrorsParts tb size home) r (if x then Some q else None)
  agrees_part_if m true (Done l) b q h like = mirrors_part_as tb size home l b q h.memory (like refl)
  agrees_part_if m true Halted b q h like = absurd h
  agrees_part_if m true (Left w l) b q h like = absurd h
  agrees_part_if m true (Failed i) b q h like = absurd h
  agrees_part_if m true Other b q h like = absurd h
  agrees_part_if m false Halted b q h like = tt
  agrees_part_if m false (Done l) b q h like = absurd h
  agrees_part_if m false (Left w l) b q h like = absurd h
  agrees_part_if m false (Failed i) b q h like = absurd h
  agrees_part_if m false Other b q h like = absurd h

  pub put_part_law : (fuel asserts mem : ℕ) (w : Within) (inner : ℕ → Within) → Inlines w inner → SeesParts tb mem inner → function_of w.items w.parts.asserts wm_put ≡ Some (pso_put_function tb asserts) →
      (names : List Named) (seen : Seen) (a : View) (s : State) (t c k : ℕ) (v : ℤ) → MirrorsParts tb size home a s → t < tb.threads → c < tb.cells → k + 8 ≤ length a.locals →
      Agrees (MirrorsParts tb size home) (meaning act (flow_of w (known seen names k) (call wm_put (num t ∷ num c ∷ number v ∷ []))) fuel a) (if nat_lt (length (parts_of s t c)) tb.places then Some (pushed s t c v) else None)
  put_part_law fuel asserts mem w inner inlines sees is names seen a s t c k v like lt lc room =
      agrees_part_if k (nat_lt (length (parts_of s t c)) tb.places) (meaning act (flow_of w (known seen names k) (call wm_put (num t ∷ num c ∷ number v ∷ []))) fuel a)
      (put_part_view tb size home homes few fuel k asserts w inner inlines sees.arrays is a s t c v) (pushed s t c v)
      (((put_part_agrees tb size home homes few fuel k asserts w inner inlines sees.arrays is names seen a s t c k v (num c) (number v) like lt lc (omega arith) (omega arith) (num_plain c) (number_plain v)).by (omega arith) (omega arith)).by a (looks_self k a))
      (λ e. mirrors_put_part tb size home homes a s t c v like lt lc (is_below (length (parts_of s t c)) tb.places e) _ refl)

  pub pop_part_law : (fuel asserts mem : ℕ) (w : Within) (inner : ℕ → Within) → Inlines w inner → SeesParts tb mem inner → mem + tb.cells ≤ tb.lens → function_of w.items w.parts.asserts wm_pop ≡ Some (pso_pop_function tb asserts) →
      (names : List Named) (seen : Seen) (a : View) (s : State) (t c k : ℕ) (v : ℤ) (rest : List Pending) → MirrorsParts tb size home a s → t < tb.threads → c < tb.cells → k + 7 ≤ length a.locals → parts_of s t c ≡ (c, v) ∷ rest → home c ≡ mem + c → c < length s.memory → length rest < fuel →
      Agrees (MirrorsParts tb size home) (meaning act (flow_of w (known seen names k) (call wm_pop (num (row_of tb t c) ∷ []))) fuel a) (Some (flushed s t c v))
  pop_part_law fuel asserts mem w inner inlines sees mem_len is names seen a s t c k v rest like lt lc room pends moved in_memory fueled =
      agrees_part_if k true (meaning act (flow_of w (known seen names k) (call wm_pop (num (row_of tb t c) ∷ []))) fuel a)
      (pop_part_view tb size home homes few fuel k asserts mem w inner inlines sees mem_len is a t (length rest) c v) (flushed s t c v)
      (((pop_part_agrees tb size home homes few fuel k asserts mem w inner inlines sees mem_len is names seen a s t c k v rest (num (row_of tb t c)) like lt lc (omega arith) (omega arith) (num_plain (row_of tb t c)) pends moved fueled).by (omega arith) (omega arith)).by a (looks_self k a))
      (λ e. mirrors_pop_part tb size home homes a s t c v rest like lt lc in_memory pends _ refl)

  pub get_part_law : (fuel asserts mem : ℕ) (w : Within) (inner : ℕ → Within) → Inlines w inner → SeesParts tb mem inner → function_of w.items w.parts.asserts wm_get ≡ Some (pso_get_function tb asserts) →
      (names : List Named) (a : View) (s : State) (t c k : ℕ) → MirrorsParts tb size home a s → t < tb.threads → c < tb.cells → k + 8 ≤ length a.locals → home c ≡ mem + c →
      (b : View) × (meaning act (call_of w names k wm_get (num t ∷ num c ∷ [])).flow fuel a ≡ Done b) × (b.memory ≡ a.memory) × (value_of (call_of w names k wm_get (num t ∷ num c ∷ [])).pure b.locals ≡ buffer.seen s t c)
  get_part_law fuel asserts mem w inner inlines sees is names a s t c k like lt lc room moved =
      let g = (get_part_agrees tb size home few fuel k asserts mem w inner inlines sees is names a s t c k (num c) like lt lc (omega arith) (omega arith) (num_plain c) moved).by (omega arith) (omega arith) a (looks_self k a) in
      (g.to, g.does, g.looks.memory, g.value)

  pub set_part_law : (fuel asserts mem : ℕ) (w : Within) (inner : ℕ → Within) → Inlines w inner → SeesParts tb mem inner → function_of w.items w.parts.asserts wm_set ≡ Some (pso_set_function tb asserts) →
      (names : List Named) (seen : Seen) (a : View) (s : State) (t c k : ℕ) (v : ℤ) → MirrorsParts tb size home a s → t < tb.threads → c < tb.cells → k + 5 ≤ length a.locals → home c ≡ mem + c → c < length s.memory →
      Agrees (MirrorsParts tb size home) (meaning act (flow_of w (known seen names k) (call wm_set (num t ∷ num c ∷ number v ∷ []))) fuel a) (if buffer.is_empty (parts_of s t c) then Some (written s c v) else None)
  set_part_law fuel asserts mem w inner inlines sees is names seen a s t c k v like lt lc room moved in_memory =
      agrees_part_if k (buffer.is_empty (parts_of s t c)) (meaning act (flow_of w (known seen names k) (call wm_set (num t ∷ num c ∷ number v ∷ []))) fuel a)
      (set_part_view tb size home homes few fuel k asserts mem w inner inlines sees is a c v) (written s c v)
      (((set_part_agrees tb size home homes few fuel k asserts mem w inner inlines sees is names seen a s t c k v (num c) (number v) like lt lc (omega arith) (omega arith) (num_plain c) (number_plain v) moved).by (omega arith) (omega arith)).by a (looks_self k a))
      (λ e. mirrors_set_part tb size home homes a s c v like lc in_memory _ refl)

  pub empty_part_law : (fuel asserts mem : ℕ) (w : Within) (inner : ℕ → Within) → Inlines w inner → SeesParts tb mem inner → tb.cells < fuel → function_of w.items w.parts.asserts wm_empty ≡ Some (pso_empty_function tb asserts) →
      (names : List Named) (seen : Seen) (a : View) (s : State) (t k : ℕ) → MirrorsParts tb size home a s → t < tb.threads → k + 4 ≤ length a.locals → ((i : ℕ) (q : Pending) → slice_get (pending_of s t) i ≡ Some q → q.0 < tb.cells) →
      Agrees (MirrorsParts tb size home) (meaning act (flow_of w (known seen names k) (call wm_empty (num t ∷ []))) fuel a) (if buffer.is_empty (pending_of s t) then Some s else None)
  empty_part_law fuel asserts mem w inner inlines sees fueled is names seen a s t k like lt room inside =
      agrees_part_if k (buffer.is_empty (pending_of s t)) (meaning act (flow_of w (known seen names k) (call wm_empty (num t ∷ []))) fuel a) a s
      (((empty_part_agrees tb size home few fuel k asserts mem w inner inlines sees is names seen a s t k like lt (omega arith) (omega arith) fueled inside).by (omega arith) (omega arith)).by a (looks_self k a))
      (λ e. like)

  pub flush_part_law : (fuel of_pop of_flush mem shorter : ℕ) (w : Within) (middle inner : ℕ → Within) → Inlines w middle → ((r : ℕ) → Inlines (middle r) inner) →
      SeesParts tb mem middle → SeesParts tb mem inner → mem + tb.cells ≤ tb.lens → shorter ≤ fuel →
      ((r : ℕ) → function_of (middle r).items (middle r).parts.asserts wm_pop ≡ Some (pso_pop_function tb of_pop)) →
      function_of w.items w.parts.asserts wm_flush ≡ Some (flush_function (rows_of tb) of_flush) →
      (names : List Named) (seen : Seen) (a : View) (s : State) (k : ℕ) → MirrorsParts tb size home a s → SafeParts tb home mem shorter s →
      k + 12 ≤ length a.locals → length a.inputs ≤ fuel →
      Agrees (Leaves (MirrorsParts tb size home))
      (meaning act (flow_of w (known seen names k) (call wm_flush [])) fuel a)
      (asked (cell_rows tb) s a.inputs)
  flush_part_law fuel of_pop of_flush mem shorter w middle inner inlines inlines2 around sees mem_len fueled pop_is flush_is names seen a s k like safe room little =
      flush_ends (cell_rows tb) tb.lens (MirrorsParts tb size home) (SafeParts tb home mem shorter) (popped_row tb size home homes mem shorter) (mirrors_part_as tb size home) fuel k of_flush w middle inlines flush_is (λ slot. slot + 1 + 1 + 1 + 1 + 1 + 1 + 1 + 1 + 1 + 1 + 1)
      (λ slot seen2 r. flush_rows_does tb size home homes mem shorter few fuel of_pop slot fueled (middle r) seen2 inner (inlines2 r) (around.arrays r) sees mem_len (pop_is r)) names seen a s k like safe (omega arith) (omega arith) (omega arith) little
