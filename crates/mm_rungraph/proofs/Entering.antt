-- Entries, as code adds them.
use Rattle.std.proofs.Common.{arith, ◌≡◌, ℕ, zero, suc, ◌+◌, ◌<◌, List, [], ◌∷◌, ◌++◌, length, map, take, replicate, sym, ◌∙◌, ap, slice_index_or, append_assoc, append-nil}
use Rattle.std.proofs.lemmas.List.{take_more}
use Rattle.std.proofs.lemmas.Grind.{flat_map-append}
use Rattle.mm_goto.specs.declared.model.Model.{Model}
use Rattle.mm_sched.specs.declared.entry.Entry.{Entry}
use Rattle.mm_sched.specs.declared.schedule.Line.{Line}
use Rattle.mm_sched.specs.ScheduleText.{entries_in}
use Rattle.mm_sched.specs.State.{Pending}
use Rattle.mm_rungraph.specs.Extension.{flush_entry, thread_flushes}

flushes_more : (m : Model) (lists : List (List Pending)) (t i : ℕ) → i < length lists → thread_flushes m (take (suc i) lists) t ≡ thread_flushes m (take i lists) t ++ map (flush_entry m (t + i)) (slice_index_or lists i [])
flushes_more m [] t i l = absurd (omega (arith, l))
flushes_more m (ps ∷ lists) t zero l = append-nil (map (flush_entry m t) ps) ∙ ap (λ k. map (flush_entry m k) ps) (let e : t ≡ t + 0 = omega arith in e)
flushes_more m (ps ∷ lists) t (suc i) l =
    ap (λ es. map (flush_entry m t) ps ++ es) (flushes_more m lists (suc t) i (omega (arith, l)))
    ∙ sym (append_assoc (map (flush_entry m t) ps) (thread_flushes m (take i lists) (suc t)) (map (flush_entry m (suc t + i)) (slice_index_or lists i [])))
    ∙ ap (λ k. (map (flush_entry m t) ps ++ thread_flushes m (take i lists) (suc t)) ++ map (flush_entry m k) (slice_index_or lists i [])) (let e : suc t + i ≡ t + suc i = omega arith in e)

pub flushes_next : (m : Model) (lists : List (List Pending)) (i : ℕ) (old new : List Entry) → i < length lists → old ≡ thread_flushes m (take i lists) 0 → new ≡ old ++ map (flush_entry m i) (slice_index_or lists i []) → new ≡ thread_flushes m (take (i + 1) lists) 0
flushes_next m lists i old new l h k =
    k ∙ ap (λ es. es ++ map (flush_entry m i) (slice_index_or lists i [])) h
    ∙ ap (λ j. thread_flushes m (take i lists) 0 ++ map (flush_entry m j) (slice_index_or lists i [])) (let e : i ≡ 0 + i = omega arith in e)
    ∙ sym (flushes_more m lists 0 i l)
    ∙ ap (λ j. thread_flushes m (take j lists) 0) (let e : suc i ≡ i + 1 = omega arith in e)

pub entries_next : (lines : List Line) (d : Line) (i : ℕ) (old new : List Entry) → i < length lines → old ≡ entries_in (take i lines) → new ≡ old ++ replicate (slice_index_or lines i d).count (slice_index_or lines i d).item → new ≡ entries_in (take (i + 1) lines)
entries_next lines d i old new l h k =
    k ∙ ap (λ es. es ++ replicate (slice_index_or lines i d).count (slice_index_or lines i d).item) h
    ∙ sym (ap entries_in (take_more lines i d l) ∙ flat_map-append (λ (x : Line). replicate x.count x.item) (take i lines) (slice_index_or lines i d ∷ []) ∙ ap (λ es. entries_in (take i lines) ++ es) (append-nil (replicate (slice_index_or lines i d).count (slice_index_or lines i d).item)))
