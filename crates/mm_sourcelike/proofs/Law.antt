-- A flattened program is valid.
use Rattle.std.proofs.Common.{arith, ◌≡◌, ℕ, ◌+◌, Bool, true, false, cond, List, [], ◌∷◌, ◌++◌, length, map, take, codes, refl, ◌∙◌, sym, ap, subst, append_assoc, None}
use Rattle.std.specs.List.{AllByRecursion, count_by, filter, filter_map, slice_get}
use Rattle.std.proofs.lemmas.List.Sums.{sum_by-cons}
use Rattle.std.proofs.Math.Seq.{take-append_seam}
use Rattle.mm_goto.specs.declared.program.Instr.{Instr}
use Rattle.mm_goto.specs.Listing.{Listing}
use Rattle.mm_goto.specs.Sourcelike.{is_start_or_join}
use Rattle.mm_goto.specs.Valid.{IsValid, is_start, is_join}
use Rattle.mm_tree.specs.declared.item.Item.{Item}
use Rattle.mm_tree.specs.declared.item.Tree.{Tree}
use Rattle.mm_tree.specs.declared.side.Side.{Side}
use Rattle.mm_flow.specs.declared.names.Parts.{Parts}
use Rattle.mm_flow.specs.declared.names.Started.{Started}
use Rattle.mm_flow.specs.Programs.{parts_of, thread_of, thread_code, named_function, the_function, in_thread, at_entry, program_of, limit_passed}
use Rattle.mm_flow.specs.Statements.{Function}
use Rattle.mm_flow.specs.Text.{creates_in}
use Rattle.mm_scope.specs.declared.fault.Rule.TheVariants.{BadThread}
use Rattle.mm_scope.specs.Faults.{fault}
use Rattle.mm_scope.specs.Notes.{Note, Use, a_fault, a_call, a_use, an_assertion}
use Rattle.mm_scope.specs.Statements.{all_at, said_stmt}
use Rattle.mm_names.specs.Items.{ahead, listed_items}
use Rattle.mm_names.specs.Programs.{notes_of, uses_of, use_in, misused, IsAccepted}
use Rattle.mm_names.specs.Threads.{is_misused}
use Rattle.mm_sourcelike.specs.Ints.{AreInts}
use Rattle.mm_sourcelike.specs.Shapes.{IsScoped}
use Rattle.mm_sourcelike.proofs.Bodies.{BodyThreads, body_threads}
use Rattle.mm_sourcelike.proofs.Cells.{at_right}
use Rattle.mm_sourcelike.proofs.Counting.{steps}
use Rattle.mm_sourcelike.proofs.Inlining.{thread_accepted}
use Rattle.mm_sourcelike.proofs.Jumping.{Level}
use Rattle.mm_sourcelike.proofs.Numbers.{once, joined, Proper}
use Rattle.mm_sourcelike.proofs.Starting.{global_names}
use Rattle.mm_sourcelike.proofs.Starts.{numbered, started_in, events}
use Rattle.mm_sourcelike.proofs.Threading.{no_start, no_join}
use Rattle.mm_sourcelike.proofs.Using.{uses}
use Rattle.mm_sourcelike.proofs.Validity.{StartsFine, IsThreadFunction, main_flow, same_body, function_fine, text, accepted_notes, is_valid}
use Rattle.mm_sourcelike.proofs.Walking.{TheMain, the_main, text_uses, FunctionFine}

-- ---- uses

same_uses : (ns : List Note) → filter_map use_in ns ≡ uses ns
same_uses [] = refl
same_uses (a_use u ∷ ns) = ap (λ us. u ∷ us) (same_uses ns)
same_uses (a_fault f ∷ ns) = same_uses ns
same_uses (a_call c ∷ ns) = same_uses ns
same_uses (an_assertion ∷ ns) = same_uses ns

proper : (side : Side) (tree : Tree) → IsAccepted side tree → (whole before us : List Use) → uses_of side tree ≡ whole → whole ≡ before ++ us → Proper before us
proper side tree h whole before [] e q = tt
proper side tree h whole before (u ∷ us) e q = (by (is_misused before u) refl, proper side tree h whole (before ++ u ∷ []) us e (q ∙ sym (append_assoc before (u ∷ []) us)))
  where
    by : (b : Bool) → is_misused before u ≡ b → is_misused before u ≡ false
    by false r = r
    by true r =
        let same : uses_of side tree ≡ before ++ u ∷ us = e ∙ q in
        let index : length before ≡ length before + 0 = omega arith in
        absurd (h.no_fault (fault BadThread u.at) (misused (length before) (record {
          it = u;
          is_k = ap (λ ws. slice_get ws (length before)) same ∙ (ap (slice_get (before ++ u ∷ us)) index ∙ at_right before (u ∷ us) 0);
          misused = ap (λ ws. is_misused (take (length before) ws) u) same ∙ (ap (λ ws. is_misused ws u) (take-append_seam before (u ∷ us)) ∙ r);
          is = refl;
        })))

-- ---- counts

kept_count : (test : Instr → Bool) → ((i : Instr) → is_start_or_join i ≡ false → test i ≡ false) → (is : List Instr) → count_by test is ≡ count_by test (filter is_start_or_join is)
kept_count test h [] = refl
kept_count test h (i ∷ is) = by (is_start_or_join i) refl (kept_count test h is)
  where
    head : (js : List Instr) → count_by test (i ∷ js) ≡ cond {A = ℕ} (test i) 1 0 + count_by test js
    head js = sum_by-cons (λ j. cond {A = ℕ} (test j) 1 0) i js

    by : (b : Bool) → is_start_or_join i ≡ b → count_by test is ≡ count_by test (filter is_start_or_join is) → count_by test (i ∷ is) ≡ count_by test (cond b (i ∷ filter is_start_or_join is) (filter is_start_or_join is))
    by true e r = omega (arith, head is, head (filter is_start_or_join is), r)
    by false e r = let none : cond {A = ℕ} (test i) 1 0 ≡ 0 = ap {B = ℕ} (λ b. cond b 1 0) (h i e) in omega (arith, head is, none, r)

-- ---- the whole

module _ (side : Side) (tree : Tree) (ints : AreInts tree) (scoped : IsScoped tree) (accepted : IsAccepted side tree) (none : limit_passed side tree ≡ None) where
  abbrev items : List Item
  items = tree.items

  abbrev p : Listing
  p = program_of side tree

  abbrev parts : Parts
  parts = parts_of side items

  abbrev pub all_uses : List Use
  all_uses = uses (listed_items side items 0 items (global_names (ahead [] 0 items))).notes

  pub main : TheMain side items p refl all_uses
  main = the_main side items p refl [] items 0 all_uses refl refl accepted.main (text_uses side items p refl ints.numbers scoped ints.asserts (accepted_notes side tree accepted))

  pub fine : FunctionFine side items p refl main.function.at main.function.gives (codes "main") main.function.params main.function.body
  fine = function_fine side tree ints scoped accepted none (codes "main") main.k main.function

  abbrev pub f : Function
  f = record { params = main.function.params; body = main.function.body; asserts = fine.before }

  same_starts : creates_in f.body ≡ parts.starts
  same_starts = sym (ap creates_in (same_body items 0 (codes "main") f fine.is))

  named : named_function parts items (codes "main") ≡ f
  named = ap the_function fine.is

  threads : BodyThreads items parts.starts main.body.body.names (all_at main.body.body.around (map (said_stmt items main.body.body.labels) f.body) main.body.body.names).notes (at_entry f.asserts) (thread_code parts items f) f.body
  threads =
      let b = main.body.body in
      body_threads p (thread_of parts items (codes "main")) items b.labels f.body b.around b.names (in_thread parts items) (at_entry f.asserts) b.place
      (thread_accepted p (thread_of parts items (codes "main")) items parts (text side tree ints scoped accepted none) true f b fine.asserts (omega (arith, ap (λ (g : Function). (thread_code parts items g).known.next) named)) (λ e. same_starts))

  abbrev pub main_uses : List Use
  main_uses = uses (all_at main.body.body.around (map (said_stmt items main.body.body.labels) f.body) main.body.body.names).notes

  -- main starts threads and waits for them in no loop and in no branch
  pub main_level : Level (main_flow parts items)
  main_level = subst (λ (g : Function). Level (thread_code parts items g).flow) (sym named) threads.level

  starts_are : parts.starts ≡ started_in main_uses
  starts_are = sym same_starts ∙ threads.creates

  pub proper_uses : Proper [] main_uses
  unfolding notes_of
  proper_uses = proper side tree accepted main_uses [] main_uses (same_uses (notes_of side tree) ∙ main.body.noted) refl

  pub events_are : events (main_flow parts items) ≡ numbered (started_in main_uses) 0 main_uses
  events_are = ap (λ (g : Function). events (thread_code parts items g).flow) named ∙ (threads.events ∙ ap (λ ss. numbered ss 0 main_uses) starts_are)

  -- what holds of the instructions of all uses holds of main's Starts and Joins
  pub main_events : (P : List Instr → Type 0) → ((all : List Started) (us : List Use) → P (numbered all 0 us)) → P (events (main_flow parts items))
  main_events P h = subst P (sym events_are) (h (started_in main_uses) main_uses)

  pub starts_fine : StartsFine items parts
  starts_fine = record {
    threads = subst (AllByRecursion (λ (s : Started). IsThreadFunction items s.function)) (sym starts_are) threads.functions;
    once = λ u l h. kept_count (is_start u) (no_start u) (steps (main_flow parts items)) ∙ (ap (count_by (is_start u)) events_are ∙ once (started_in main_uses) 0 u main_uses l (omega (arith, h, ap length starts_are)));
    joins = λ u l h. omega (arith, kept_count (is_join u) (no_join u) (steps (main_flow parts items)), ap (count_by (is_join u)) events_are, joined main_uses u threads.apart proper_uses l (omega (arith, h, ap length starts_are)));
  }

  pub flattened_valid : IsValid (program_of side tree)
  flattened_valid = is_valid side tree ints scoped accepted none starts_fine
