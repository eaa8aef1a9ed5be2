-- What an instruction of main becomes tells of the start or the wait that it is, and of no other.
use Rattle.std.proofs.Common.{◌≡◌, ℕ, Bool, true, false, not, ◌&&◌, if◌then◌else◌, List, [], ◌∷◌, ◌++◌, map, slice_get, append_assoc, refl, ◌∙◌, sym, ap, subst, Option, Some, None}
use Rattle.mm_goto.specs.declared.ident.Ident.{Ident}
use Rattle.mm_goto.specs.declared.shape.Shape.{Shape}
use Rattle.mm_goto.specs.declared.program.Instr.{Instr}
use Rattle.mm_goto.specs.declared.program.Instr.TheVariants as i
use Rattle.mm_goto.specs.Listing.{Listing}
use Rattle.mm_tree.specs.Places.{nowhere}
use Rattle.mm_tree.specs.declared.item.Gives.TheVariants as gives
use Rattle.mm_tree.specs.declared.item.Item.{Item}
use Rattle.mm_tree.specs.declared.stmt.Stmt.{Stmt}
use Rattle.mm_tree.specs.declared.stmt.StmtNode.TheOpen as stmt
use Rattle.mm_scope.specs.declared.around.Around.{Around}
use Rattle.mm_scope.specs.declared.table.Meaning.TheVariants as meaning
use Rattle.mm_scope.specs.Notes.{Use}
use Rattle.mm_scope.specs.Scopes.{Names, Table, meaning_of}
use Rattle.mm_scope.specs.Statements.{Placed, all_at, said_stmt}
use Rattle.mm_scope.specs.Steps.{in_turn}
use Rattle.mm_scope.specs.Threads.{use_of, as_thread, noted_thread, as_function, gives_thread, as_body, noted_body, started}
use Rattle.mm_words.specs.Words as words
use Rattle.mm_words.specs.Words.{num}
use Rattle.mm_templates.specs.Names.{label_name, handle_name, thread_name}
use Rattle.mm_templates.specs.Instructions.{reaches_by_pointer, emptied, drained, plain, with_buffers, woven_instr}
use Rattle.mm_sensible.proofs.QuietStatements.{AreFine, fine_nothing, Tells, tells_noting, tells_skip, tells_then, stand}
use Rattle.mm_sensible.proofs.WordStatements.{Quiet, AllQuiet, said_is}
use Rattle.mm_sensible.proofs.QuietTemplates.{IsHome, Calm, IsReady, next, none, drained_calm, emptied_quiet, woven_calm}

-- the notes of a start and of a wait, of the thread that a variable holds
abbrev pub start_of : ℕ → Use
start_of u = use_of (Some (thread_name u)) false nowhere (words.word (handle_name u))

abbrev pub join_of : ℕ → Use
join_of u = use_of None false nowhere (words.word (handle_name u))

-- what an instruction tells of
abbrev pub told_by : Instr → List Use
told_by (i.Start u) = start_of u ∷ []
told_by (i.Join u) = join_of u ∷ []
told_by _ = []

module _ (items : List Item) (labels : Table) (k : ℕ) (names : Names) where
  -- in the outermost block of main
  abbrev there : Around
  there = stand k gives.Int 0 false true

  abbrev One : List Use → Stmt → Type 0
  One us s = Tells us (said_stmt items labels s there names)

  -- statements one behind another, and what they tell of
  pub data AllTell : List Use → List Stmt → Type 0 where
    no_more : AllTell [] []
    one_more : {us vs : List Use} {s : Stmt} {ss : List Stmt} → One us s → AllTell vs ss → AllTell (us ++ vs) (s ∷ ss)

  pub tell_append : {us vs : List Use} {ss ts : List Stmt} → AllTell us ss → AllTell vs ts → AllTell (us ++ vs) (ss ++ ts)
  tell_append no_more r = r
  tell_append {vs = ws} {ts = ts} (one_more {us} {vs} {s} {ss} h t) r = subst (λ xs. AllTell xs (s ∷ (ss ++ ts))) (sym (append_assoc us vs ws)) (one_more h (tell_append t r))

  pub tell_quiet : (ss : List Stmt) → AllQuiet items labels k gives.Int names ss → AllTell [] ss
  unfolding AllQuiet Quiet
  tell_quiet [] h = no_more
  tell_quiet (s ∷ ss) h = one_more (h.0 0 false true) (tell_quiet ss h.1)

  pub all_told : {us : List Use} {ss : List Stmt} → AllTell us ss → Tells us (all_at there (map (said_stmt items labels) ss) names)
  unfolding all_at in_turn
  all_told no_more = tells_skip names
  all_told (one_more {us} {vs} {s} {ss} h r) = tells_then (said_stmt items labels s there) (all_at there (map (said_stmt items labels) ss)) names h (all_told r)

  -- a label before the first
  tell_labelled : (x : Ident) {us : List Use} {ss : List Stmt} → AllTell us ss → AllTell us (words.labelled x ss)
  tell_labelled x no_more = no_more
  tell_labelled x (one_more {us} {vs} {s} {ss} h r) = one_more (subst (λ (f : Placed). Tells us (f there names)) (sym (said_is items labels k gives.Int names (stmt.Label (words.word x) s))) h) r

  thread_told : (f : Option Ident) (x : Ident) → meaning_of names x ≡ Some meaning.SharedThread → Tells (use_of f false nowhere (words.word x) ∷ []) (noted_thread there f nowhere (words.word x) names)
  unfolding noted_thread
  thread_told f x e =
      tells_noting (use_of f false nowhere (words.word x) ∷ []) (as_thread true f nowhere (words.word x) (meaning_of names x))
      (subst (AreFine (use_of f false nowhere (words.word x) ∷ [])) (sym (ap (as_thread true f nowhere (words.word x)) e)) (record { fine = refl; uses = refl }))

  -- the name is that of a thread's function
  abbrev pub IsThreadName : Ident → Type 0
  IsThreadName f = (j : ℕ) × (meaning_of names f ≡ Some (meaning.Function j)) × (gives_thread (slice_get items j) ≡ true)

  body_told : (f : Ident) → IsThreadName f → Tells [] (noted_body items nowhere (words.word f) names)
  unfolding noted_body
  body_told f (j, e, g) = tells_noting [] (as_body items nowhere nowhere (meaning_of names f)) (fine_nothing (ap (as_body items nowhere nowhere) e ∙ ap (as_function nowhere) g))

  start_told : (x f : Ident) → meaning_of names x ≡ Some meaning.SharedThread → IsThreadName f → One (use_of (Some f) false nowhere (words.word x) ∷ []) (words.start x f)
  unfolding started
  start_told x f e t =
      subst (λ (p : Placed). Tells (use_of (Some f) false nowhere (words.word x) ∷ []) (p there names)) (sym (said_is items labels k gives.Int names (stmt.Start (words.word x) (words.word f))))
      (tells_then (noted_thread there (Some f) nowhere (words.word x)) (noted_body items nowhere (words.word f)) names (thread_told (Some f) x e) (body_told f t))

  join_told : (x : Ident) → meaning_of names x ≡ Some meaning.SharedThread → One (use_of None false nowhere (words.word x) ∷ []) (words.join x)
  join_told x e = subst (λ (p : Placed). Tells (use_of None false nowhere (words.word x) ∷ []) (p there names)) (sym (said_is items labels k gives.Int names (stmt.Join (words.word x)))) (thread_told None x e)

-- ---- instructions of main

module _ (p : Listing) (shape : Shape) (buffers : Bool) (items : List Item) (labels : Table) (k : ℕ) (names : Names) (n size : ℕ) (home : IsHome p shape buffers items labels k names n size) (ends : Quiet items labels k gives.Int names (words.return (num 0))) where
  -- the instruction is ready as in any thread, or starts or joins a thread that is declared
  unfoldable pub IsReadyInMain : Instr → Type 0
  IsReadyInMain (i.Start u) = (meaning_of names (handle_name u) ≡ Some meaning.SharedThread) × IsThreadName items labels k names (thread_name u)
  IsReadyInMain (i.Join u) = meaning_of names (handle_name u) ≡ Some meaning.SharedThread
  IsReadyInMain it = IsReady p shape buffers items labels k gives.Int names n size home it

  calm_tells : (ss : List Stmt) → Calm p shape buffers items labels k gives.Int names n size home ss → AllTell items labels k names [] ss
  unfolding Calm
  calm_tells ss h = tell_quiet items labels k names ss h

  drained_tells : buffers ≡ true → (t j : ℕ) (rest : List Stmt) → Calm p shape buffers items labels k gives.Int names n size home rest → AllTell items labels k names [] (drained shape.points t j rest)
  drained_tells on t j rest h = calm_tells (drained shape.points t j rest) (drained_calm p shape buffers items labels k gives.Int names n size home ends on t j rest h)

  start_tells : (addresses : Bool) (t j u : ℕ) → meaning_of names (handle_name u) ≡ Some meaning.SharedThread → IsThreadName items labels k names (thread_name u) → AllTell items labels k names (start_of u ∷ []) (woven_instr p shape buffers addresses t j (i.Start u))
  start_tells addresses t j u e f = by buffers refl
    where
      alone : AllTell items labels k names (start_of u ∷ []) (plain p shape (i.Start u))
      alone = one_more (start_told items labels k names (handle_name u) (thread_name u) e f) no_more

      by : (b : Bool) → buffers ≡ b → AllTell items labels k names (start_of u ∷ []) (words.labelled (label_name j) (if b then with_buffers p shape t j (i.Start u) else plain p shape (i.Start u)))
      by true q = tell_labelled items labels k names (label_name j) (tell_append items labels k names (drained_tells q t j [] (none p shape buffers items labels k gives.Int names n size home)) alone)
      by false q = tell_labelled items labels k names (label_name j) alone

  join_tells : (addresses : Bool) (t j u : ℕ) → meaning_of names (handle_name u) ≡ Some meaning.SharedThread → AllTell items labels k names (join_of u ∷ []) (woven_instr p shape buffers addresses t j (i.Join u))
  join_tells addresses t j u e = by buffers refl
    where
      alone : AllTell items labels k names (join_of u ∷ []) (plain p shape (i.Join u))
      alone = one_more (join_told items labels k names (handle_name u) e) no_more

      by : (b : Bool) → buffers ≡ b → AllTell items labels k names (join_of u ∷ []) (words.labelled (label_name j) (if b then with_buffers p shape t j (i.Join u) else plain p shape (i.Join u)))
      by true q = tell_labelled items labels k names (label_name j) (tell_append items labels k names alone (drained_tells q t j (emptied u ∷ []) (next p shape buffers items labels k gives.Int names n size home (emptied u) [] (emptied_quiet p shape buffers items labels k gives.Int names n size home ends q u) (none p shape buffers items labels k gives.Int names n size home))))
      by false q = tell_labelled items labels k names (label_name j) alone

  -- what an instruction of main becomes, where it follows a pointer only if an address stands in the program
  pub main_tells : (addresses : Bool) (t j : ℕ) (it : Instr) → ((reaches_by_pointer it && not addresses) ≡ false → IsReadyInMain it) → AllTell items labels k names (told_by it) (woven_instr p shape buffers addresses t j it)
  unfolding IsReadyInMain
  main_tells addresses t j (i.Start u) h = let r = h refl in start_tells addresses t j u r.0 r.1
  main_tells addresses t j (i.Join u) h = join_tells addresses t j u (h refl)
  main_tells addresses t j (i.Set l e) h = calm_tells (woven_instr p shape buffers addresses t j (i.Set l e)) (woven_calm p shape buffers items labels k gives.Int names n size home ends addresses t j (i.Set l e) h)
  main_tells addresses t j (i.Load l a) h = calm_tells (woven_instr p shape buffers addresses t j (i.Load l a)) (woven_calm p shape buffers items labels k gives.Int names n size home ends addresses t j (i.Load l a) h)
  main_tells addresses t j (i.Store a e) h = calm_tells (woven_instr p shape buffers addresses t j (i.Store a e)) (woven_calm p shape buffers items labels k gives.Int names n size home ends addresses t j (i.Store a e) h)
  main_tells addresses t j (i.Input l) h = calm_tells (woven_instr p shape buffers addresses t j (i.Input l)) (woven_calm p shape buffers items labels k gives.Int names n size home ends addresses t j (i.Input l) h)
  main_tells addresses t j (i.Jump m) h = calm_tells (woven_instr p shape buffers addresses t j (i.Jump m)) (woven_calm p shape buffers items labels k gives.Int names n size home ends addresses t j (i.Jump m) h)
  main_tells addresses t j (i.Branch e m) h = calm_tells (woven_instr p shape buffers addresses t j (i.Branch e m)) (woven_calm p shape buffers items labels k gives.Int names n size home ends addresses t j (i.Branch e m) h)
  main_tells addresses t j (i.Assert e m) h = calm_tells (woven_instr p shape buffers addresses t j (i.Assert e m)) (woven_calm p shape buffers items labels k gives.Int names n size home ends addresses t j (i.Assert e m) h)
  main_tells addresses t j (i.Assume e) h = calm_tells (woven_instr p shape buffers addresses t j (i.Assume e)) (woven_calm p shape buffers items labels k gives.Int names n size home ends addresses t j (i.Assume e) h)
  main_tells addresses t j i.Fence h = calm_tells (woven_instr p shape buffers addresses t j i.Fence) (woven_calm p shape buffers items labels k gives.Int names n size home ends addresses t j i.Fence h)
  main_tells addresses t j (i.Lock m) h = calm_tells (woven_instr p shape buffers addresses t j (i.Lock m)) (woven_calm p shape buffers items labels k gives.Int names n size home ends addresses t j (i.Lock m) h)
  main_tells addresses t j (i.Unlock m) h = calm_tells (woven_instr p shape buffers addresses t j (i.Unlock m)) (woven_calm p shape buffers items labels k gives.Int names n size home ends addresses t j (i.Unlock m) h)
  main_tells addresses t j (i.Add l a e) h = calm_tells (woven_instr p shape buffers addresses t j (i.Add l a e)) (woven_calm p shape buffers items labels k gives.Int names n size home ends addresses t j (i.Add l a e) h)
  main_tells addresses t j (i.Cas l a e f) h = calm_tells (woven_instr p shape buffers addresses t j (i.Cas l a e f)) (woven_calm p shape buffers items labels k gives.Int names n size home ends addresses t j (i.Cas l a e f) h)
  main_tells addresses t j i.AtomBegin h = calm_tells (woven_instr p shape buffers addresses t j i.AtomBegin) (woven_calm p shape buffers items labels k gives.Int names n size home ends addresses t j i.AtomBegin h)
  main_tells addresses t j i.AtomEnd h = calm_tells (woven_instr p shape buffers addresses t j i.AtomEnd) (woven_calm p shape buffers items labels k gives.Int names n size home ends addresses t j i.AtomEnd h)
  main_tells addresses t j i.End h = calm_tells (woven_instr p shape buffers addresses t j i.End) (woven_calm p shape buffers items labels k gives.Int names n size home ends addresses t j i.End h)
