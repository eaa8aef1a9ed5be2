-- A section of the code: atomic from its begin to its end. In any run it goes as the meaning of its body says.
use Rattle.std.proofs.Common.{arith, ◌≡◌, ℕ, zero, suc, ◌+◌, ◌<◌, ℤ, List, [], ◌∷◌, ◌++◌, length, length-append, map, Option, Some, None, refl, true, sym, ◌∙◌, ap, subst, slice_get, slice_set, inl, inr, ◌⊎◌}
use Rattle.std.specs.Prelude.{slice_index_or}
use Rattle.std.proofs.lemmas.List.{set-set}
use Rattle.std.proofs.lemmas.Option.{slice_get_within}
use Rattle.mm_goto.specs.Listing.{Listing}
use Rattle.mm_goto.specs.declared.program.Instr.{Instr}
use Rattle.mm_goto.specs.declared.program.Instr.TheVariants.{AtomEnd}
use Rattle.mm_sched.specs.declared.entry.Entry.{Entry}
use Rattle.mm_sched.specs.declared.entry.Entry.TheVariants.{Step}
use Rattle.mm_sched.specs.declared.entry.Rules.TheVariants.{Sc}
use Rattle.mm_sched.specs.State.{State, Frame, frame_of}
use Rattle.mm_sched.specs.Event.{event, next, acted, act as machine_act}
use Rattle.mm_sched.specs.Runs.{run}
use Rattle.mm_sched.specs.Guarded.{◌>>=◌}
use Rattle.mm_sched.proofs.Joins.{run-append}
use Rattle.mm_flow.specs.Flow.{Flow, Ways, size}
use Rattle.mm_meaning.specs.Meaning.{View, Outcome, Done, Left, Failed, Halted, Other, meaning}
use Rattle.mm_meaning.specs.Inside.{own, inputs_of, stays, inside, frame, stand, RunsInside, Meets}
use Rattle.mm_meaning.specs.Sections.{HasCode, MayEnter, SectionAt, sees, behind, GoesOn, Section}
use Rattle.mm_meaning.specs.Acting.{act}
use Rattle.mm_meaning.proofs.Machine.{same, runs_inside, step_is, my_frame}
use Rattle.mm_meaning.proofs.Back.{bound, passed_guard, inputs_split, same_entry, stays_here, flow_meets, length-own}

pub index_is : {A : Type 0} (xs : List A) (t : ℕ) (d a : A) → slice_get xs t ≡ Some a → slice_index_or xs t d ≡ a
index_is [] t d a e = cc
index_is (x ∷ xs) zero d a e = cc
index_is (x ∷ xs) (suc t) d a e = index_is xs t d a e

module _ (p : Listing) (s : State) (t : ℕ) (f : Frame) (c : Flow) (ways : Ways) (a : MayEnter s t f) (code : List Instr) (is_code : HasCode p t code) (h : SectionAt code f.place c ways) where
  there : t < length s.threads
  there = slice_get_within s.threads t f a.has

  framed : (k : ℕ) → record f { place = k } ≡ frame k (sees s f [])
  framed k = ap (λ b. (let x : Frame = record { place = k; locals = f.locals; started = b; ended = f.ended } in x)) a.started ∙ ap (λ b. (let x : Frame = record { place = k; locals = f.locals; started = true; ended = b } in x)) a.going

  begins : (ins : List ℤ) → next Sc p s (Step t) ≡ Some (stand t s (f.place + 1) (sees s f ins))
  unfolding event machine_act acted
  begins ins = rw a.has (rw (is_code f.place) (rw h.first (rw a.started (rw a.going (rw a.unfailed (rw a.free (entered (frame_of s t) (index_is s.threads t _ f a.has))))))))
    where
      entered : (g : Frame) → g ≡ f → Some (record s { section = Some t; verdict = None; threads = slice_set s.threads t (record g { place = g.place + 1 }) }) ≡ Some (stand t s (f.place + 1) (sees s f ins))
      entered g e = subst (λ (g : Frame). Some (record s { section = Some t; verdict = None; threads = slice_set s.threads t (record g { place = g.place + 1 }) }) ≡ Some (stand t s (f.place + 1) (sees s f ins))) (sym e) (ap (λ x. Some (record s { section = Some t; verdict = None; threads = slice_set s.threads t x })) (framed (f.place + 1)))

  closes : (l : View) → next Sc p (stand t s (f.place + 1 + size c) l) (Step t) ≡ Some (behind s t (f.place + 1 + size c + 1) l)
  unfolding machine_act acted
  closes l = step_is p t s there a.dry code is_code (f.place + 1 + size c) l AtomEnd h.last ∙ rw (same t) (rw (my_frame p t s there a.dry code is_code (f.place + 1 + size c) l) (ap (λ fs. Some (record (stand t s (f.place + 1 + size c) l) { section = None; threads = fs })) (set-set s.threads t (frame (f.place + 1 + size c) l) (frame (f.place + 1 + size c + 1) l))))

  -- forth: where the meaning is done, there is a run
  pub section_runs : (n : ℕ) (ins : List ℤ) (l : View) → meaning act c n (sees s f ins) ≡ Done l → (es : List Entry) × (run Sc p s es ≡ Some (behind s t (f.place + 1 + size c + 1) l))
  section_runs n ins l e =
      let r = subst (λ o. RunsInside p t s ways n (f.place + 1) (sees s f ins) (f.place + 1 + size c) o) e (runs_inside p t s there a.dry code is_code c ways n (f.place + 1) (sees s f ins) h.body) in (
        Step t ∷ (map (own t) r.steps ++ Step t ∷ []),
        ap (λ o. o >>= λ m. run Sc p m (map (own t) r.steps ++ Step t ∷ [])) (begins ins)
            ∙ run-append Sc p _ (map (own t) r.steps) (Step t ∷ [])
            ∙ ap (λ o. o >>= λ m. run Sc p m (Step t ∷ [])) (outside r.steps _ _ r.goes)
            ∙ ap (λ o. o >>= λ m. Some m) (closes l),
      )
    where
      outside : (ws : List (Option ℤ)) (x y : State) → inside p t x ws ≡ Some y → run Sc p x (map (own t) ws) ≡ Some y
      outside [] x y e = e
      outside (w ∷ ws) x y e =
          let b = bound _ (λ m. inside p t m ws) y e in
          let g = passed_guard (stays x t) (next Sc p x (own t w)) b.mid b.is in
          ap (λ o. o >>= λ m. run Sc p m (map (own t) ws)) g.1 ∙ outside ws b.mid y b.goes

  -- back: how any run goes on
  pub section_meets : (n : ℕ) (es : List Entry) (z : State) → length es < n → run Sc p s (Step t ∷ es) ≡ Some z → Section p s t (f.place + 1 + size c + 1) (Step t ∷ es) z (meaning act c n (sees s f (inputs_of es)))
  section_meets n es z few r =
      let l0 = sees s f (inputs_of es) in
      let go_on = ap (λ o. o >>= λ m. run Sc p m es) (sym (begins (inputs_of es))) ∙ r in
      ends (meaning act c n l0) (flow_meets p t s there a.dry code is_code c n (f.place + 1) l0 ways es z h.body few refl go_on)
    where
      ends : (o : Outcome) → Meets p t s (f.place + 1 + size c) ways es z o → Section p s t (f.place + 1 + size c + 1) (Step t ∷ es) z o
      ends (Left j l) m = tt
      ends (Failed b) m = m
      ends Halted m = m
      ends Other m = tt
      ends (Done l) (inr m) = inr m
      ends (Done l) (inl m) = go m.later m.split m.left m.goes
        where
          go : (later : List Entry) → es ≡ map (own t) m.before ++ later → inputs_of later ≡ l.inputs → run Sc p (stand t s (f.place + 1 + size c) l) later ≡ Some z → GoesOn p s t (f.place + 1 + size c + 1) l (Step t ∷ es) z ⊎ (stays z t ≡ true)
          go [] split left goes = let e : stand t s (f.place + 1 + size c) l ≡ z = cc in inr (ap (λ x. stays x t) (sym e) ∙ stays_here p t s there a.dry code is_code (f.place + 1 + size c) l)
          go (x ∷ later) split left goes =
              let end = stand t s (f.place + 1 + size c) l in
              let b = bound (next Sc p end x) (λ m. run Sc p m later) z goes in
              let one = same_entry p t end _ b.mid None x l.inputs (inputs_of later) (stays_here p t s there a.dry code is_code (f.place + 1 + size c) l) (closes l) b.is (sym left ∙ inputs_split p t x later) in
              let mids : behind s t (f.place + 1 + size c + 1) l ≡ b.mid = (let e = sym (closes l) ∙ ap (λ y. next Sc p end y) (sym one) ∙ b.is in cc) in
              inl (record {
                later = later;
                fewer = omega (arith, ap length split ∙ length-append (map (own t) m.before) (x ∷ later), length-own p t s there a.dry code is_code m.before);
                left = ap (λ y. inputs_of (y ∷ later)) (sym one) ∙ left;
                goes = ap (λ m. run Sc p m later) mids ∙ b.goes;
              })
