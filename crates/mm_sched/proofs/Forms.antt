-- The forms of a line: what is read is what each says.
use Rattle.std.proofs.Common.{zero, suc, ◌≡◌, ◌≢◌, ℕ, ◌<◌, ◌≤◌, ◌^◌, ℤ, Bool, true, false, ◌==◌, not, List, ◌∷◌, ◌++◌, append_assoc, codes, Option, Some, None, refl, sym, ap, ◌∙◌, arith, subst, inl, inr, ⊎_elim, ◌⊎◌, Decides, FitsSigned}
use Rattle.std.specs.Int.{w32}
use Rattle.std.specs.List.{All}
use Rattle.std.specs.Fmt.{decimal, signed_decimal}
use Rattle.std.specs.Str.{bytes_eq}
use Rattle.std.proofs.lemmas.Option.{option_and_then_some, same_Some}
use Rattle.std.proofs.lemmas.Slice.Eq.{bytes_eq-Decides}
use Rattle.mm_sched.specs.declared.entry.Entry.{Entry}
use Rattle.mm_sched.specs.declared.entry.Entry.TheVariants.{Step, In, Flush, FlushCell}
use Rattle.mm_sched.specs.declared.schedule.Line.{Line}
use Rattle.mm_sched.specs.Guarded.{guarded}
use Rattle.mm_sched.specs.ScheduleText.{step_text, steps_text, in_text, flush_text, flush_cell_text, IsEntry, Says, IsLine}
use Rattle.mm_sched.specs.reading.Reading.{Cut, cut, number_of, int_of, blank, step_of, steps_of, in_of, flush_all_of, flush_cell_of, flush_of, form_of, line_of}
use Rattle.mm_sched.specs.ScheduleText.{times}
use Rattle.mm_sched.proofs.Cutting.{cut_in, cut_at, cut_none, is_cut}
use Rattle.mm_sched.proofs.Numerals.{is_written, number_of_decimal, decimal_free, int_is_written, int_of_decimal, one_above}

-- two words, and a blank between them
two_words : (head a b : List ℕ) → head ++ (a ++ blank ∷ b) ≡ head ++ a ++ codes " " ++ b
two_words head a b = simp append_assoc

step_is : (w : List ℕ) (l : Line) → step_of w ≡ Some l → IsLine (codes "step " ++ w) l
step_is w l h = option_and_then_some (λ t. Some (times (Step t) 1)) (number_of w) l h (λ t n e.
    let is = is_written w t n in
    subst (λ x. IsLine (codes "step " ++ w) x) (same_Some _ _ e) (is.fits, inl (ap (λ x. codes "step " ++ x) is.text, refl)))

some_steps : (n : ℕ) (x l : Line) → guarded (not (n == 0)) (Some x) ≡ Some l → (1 ≤ n) × (x ≡ l)
some_steps zero x l h = cc
some_steps (suc n) x l h = (omega arith, same_Some _ _ (rw (one_above n) at h))

-- a text is its two numbers with a blank between them
both : (head w a b : List ℕ) (c : Cut) → cut blank w ≡ Some c → c.before ≡ a → c.behind ≡ b → head ++ w ≡ head ++ a ++ codes " " ++ b
both head w a b c e f g = ap (λ x. head ++ x) ((is_cut blank w c e).joins ∙ rw (f, g) refl) ∙ two_words head a b

steps_is : (w : List ℕ) (l : Line) → steps_of w ≡ Some l → IsLine (codes "steps " ++ w) l
steps_is w l h = option_and_then_some _ (cut blank w) l h (λ c e f. option_and_then_some _ (number_of c.before) l f (λ t g i. option_and_then_some _ (number_of c.behind) l i (λ n j k.
    let first = is_written c.before t g in
    let second = is_written c.behind n j in
    let some = some_steps n (times (Step t) n) l k in
    subst (λ x. IsLine (codes "steps " ++ w) x) some.1 (first.fits, inr (both (codes "steps ") w (decimal t) (decimal n) c e first.text second.text, some.0, second.fits)))))

in_is : (w : List ℕ) (l : Line) → in_of w ≡ Some l → IsLine (codes "in " ++ w) l
in_is w l h = option_and_then_some _ (cut blank w) l h (λ c e f. option_and_then_some _ (number_of c.before) l f (λ t g i. option_and_then_some _ (int_of c.behind) l i (λ v j k.
    let first = is_written c.before t g in
    let second = int_is_written c.behind v j in
    subst (λ x. IsLine (codes "in " ++ w) x) (same_Some _ _ k) ((first.fits, second.fits), (both (codes "in ") w (decimal t) (signed_decimal v) c e first.text second.text, refl)))))

flush_all_is : (w : List ℕ) (l : Line) → flush_all_of w ≡ Some l → IsLine (codes "flush " ++ w) l
flush_all_is w l h = option_and_then_some _ (number_of w) l h (λ t n e.
    let is = is_written w t n in
    subst (λ x. IsLine (codes "flush " ++ w) x) (same_Some _ _ e) (is.fits, (ap (λ x. codes "flush " ++ x) is.text, refl)))

flush_cell_is : (w : List ℕ) (c : Cut) (l : Line) → cut blank w ≡ Some c → flush_cell_of c ≡ Some l → IsLine (codes "flush " ++ w) l
flush_cell_is w c l e h = option_and_then_some _ (number_of c.before) l h (λ t g i. option_and_then_some _ (number_of c.behind) l i (λ cell j k.
    let first = is_written c.before t g in
    let second = is_written c.behind cell j in
    subst (λ x. IsLine (codes "flush " ++ w) x) (same_Some _ _ k) ((first.fits, second.fits), (both (codes "flush ") w (decimal t) (decimal cell) c e first.text second.text, refl))))

flush_is : (w : List ℕ) (l : Line) → flush_of w ≡ Some l → IsLine (codes "flush " ++ w) l
flush_is w l h = at (cut blank w) (λ c e. e) h
  where
    at : (o : Option Cut) → ((c : Cut) → o ≡ Some c → cut blank w ≡ Some c) → (elim o as (λ _. Option Line) [ None ↦ flush_all_of w | Some c ↦ flush_cell_of c ]) ≡ Some l → IsLine (codes "flush " ++ w) l
    at None from e = flush_all_is w l e
    at (Some c) from e = flush_cell_is w c l (from c refl) e

-- a text that is tested is one of the two
pub tested : (word text : List ℕ) → ((bytes_eq word text ≡ true) × (word ≡ text)) ⊎ (bytes_eq word text ≡ false)
tested word text = at (bytes_eq word text) (bytes_eq-Decides word text)
  where
    at : (t : Bool) → Decides t (word ≡ text) → ((t ≡ true) × (word ≡ text)) ⊎ (t ≡ false)
    at true d = inl (refl, d.0 refl)
    at false d = inr refl

-- what is read of a first word, and of the text behind it
form_is : (word w : List ℕ) (l : Line) → form_of word w ≡ Some l → IsLine (word ++ blank ∷ w) l
form_is word w l h =
    ⊎_elim (λ p. subst (λ x. IsLine (x ++ blank ∷ w) l) (sym p.1) (step_is w l (rw p.0 at h))) (λ no_step.
    let h1 = rw no_step at h in
    ⊎_elim (λ p. subst (λ x. IsLine (x ++ blank ∷ w) l) (sym p.1) (steps_is w l (rw p.0 at h1))) (λ no_steps.
    let h2 = rw no_steps at h1 in
    ⊎_elim (λ p. subst (λ x. IsLine (x ++ blank ∷ w) l) (sym p.1) (in_is w l (rw p.0 at h2))) (λ no_in.
    let h3 = rw no_in at h2 in
    ⊎_elim (λ p. subst (λ x. IsLine (x ++ blank ∷ w) l) (sym p.1) (flush_is w l (rw p.0 at h3))) (λ no_flush.
    let h4 = rw no_flush at h3 in cc)
    (tested word (codes "flush"))) (tested word (codes "in"))) (tested word (codes "steps"))) (tested word (codes "step"))

pub line_is : (w : List ℕ) (l : Line) → line_of w ≡ Some l → IsLine w l
unfolding line_of
line_is w l h = option_and_then_some _ (cut blank w) l h (λ c e f. subst (λ x. IsLine x l) (sym (is_cut blank w c e).joins) (form_is c.before c.behind l f))

-- ---- what is said is read

cut_two : (a b : List ℕ) → All (λ x. x ≢ blank) a → cut blank (a ++ codes " " ++ b) ≡ Some (cut_in a b)
cut_two a b free = rw append_assoc (cut_at blank a b free)

free_number : (t : ℕ) → t < 2 ^ 32 → All (λ x. x ≢ blank) (decimal t)
free_number t fits = decimal_free blank t fits (inl (omega arith))

says_step : (t : ℕ) → t < 2 ^ 32 → line_of (step_text t) ≡ Some (times (Step t) 1)
unfolding line_of
says_step t fits = rw (number_of_decimal t fits) refl

says_steps : (t n : ℕ) → t < 2 ^ 32 → 1 ≤ n → n < 2 ^ 32 → line_of (steps_text t n) ≡ Some (times (Step t) n)
unfolding line_of
says_steps t zero fits some small = absurd (omega arith)
says_steps t (suc n) fits some small = rw (cut_two (decimal t) (decimal (suc n)) (free_number t fits), number_of_decimal t fits, number_of_decimal (suc n) small, one_above n) refl

says_in : (t : ℕ) (v : ℤ) → t < 2 ^ 32 → FitsSigned w32 v → line_of (in_text t v) ≡ Some (times (In t v) 1)
unfolding line_of
says_in t v fits small = rw (cut_two (decimal t) (signed_decimal v) (free_number t fits), number_of_decimal t fits, int_of_decimal v small) refl

says_flush : (t : ℕ) → t < 2 ^ 32 → line_of (flush_text t) ≡ Some (times (Flush t) 1)
unfolding line_of
says_flush t fits = rw (cut_none blank (decimal t) (free_number t fits), number_of_decimal t fits) refl

says_flush_cell : (t c : ℕ) → t < 2 ^ 32 → c < 2 ^ 32 → line_of (flush_cell_text t c) ≡ Some (times (FlushCell t c) 1)
unfolding line_of
says_flush_cell t c fits small = rw (cut_two (decimal t) (decimal c) (free_number t fits), number_of_decimal t fits, number_of_decimal c small) refl

pub line_read : (w : List ℕ) (e : Entry) (n : ℕ) → IsEntry e → Says w e n → line_of w ≡ Some (times e n)
line_read w (Step t) n fits s = ⊎_elim (λ p. rw (p.0, p.1) (says_step t fits)) (λ p. rw (p.0) (says_steps t n fits p.1 p.2)) s
line_read w (In t v) n fits s = rw (s.0, s.1) (says_in t v fits.0 fits.1)
line_read w (Flush t) n fits s = rw (s.0, s.1) (says_flush t fits)
line_read w (FlushCell t c) n fits s = rw (s.0, s.1) (says_flush_cell t c fits.0 fits.1)
