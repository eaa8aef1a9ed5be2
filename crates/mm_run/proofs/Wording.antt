-- The words are read as the shapes of the commands have them.
use Rattle.std.proofs.Common.{◌≡◌, ◌⊎◌, inl, inr, ⊎_elim, ℕ, ◌+◌, ◌-◌, ◌≤◌, Bool, true, false, ◌&&◌, nat_le, cond, List, [], ◌∷◌, codes, Option, Some, None, IfSome, option_and_then, refl, sym, ◌∙◌, ap, subst, arith}
use Rattle.std.specs.Fmt.{decimal}
use Rattle.std.specs.Str.{bytes_eq}
use Rattle.std.proofs.lemmas.Bool.{and_parts}
use Rattle.std.proofs.lemmas.Bool.Decides.{nat_tests}
use Rattle.std.proofs.lemmas.Fmt.{decimal_digit}
use Rattle.std.proofs.lemmas.Option.{option_and_then_some}
use Rattle.std.proofs.lemmas.Slice.Eq.{bytes_eq-Decides}
use Rattle.mm_goto.specs.declared.model.Model.{Model}
use Rattle.mm_goto.specs.declared.model.Model.TheVariants.{Tso, Pso}
use Rattle.mm_goto.specs.Bounds.{IsBound}
use Rattle.mm_goto.specs.Models.{word_of}
use Rattle.mm_run.specs.declared.command.Settings.{Settings}
use Rattle.mm_run.specs.declared.command.Settings.TheVariants.{Instrument, Cycles, ReplaySc, Replay}
use Rattle.mm_run.specs.Settings.{AskFor, IsThere, words_of}
use Rattle.mm_run.specs.reading.Words.{bound_of, command_of, model_of, settings_of, with_bound, without_bound}

-- ---- what is read is what the words say

same_word : (a b : List ℕ) → bytes_eq a b ≡ true → a ≡ b
same_word a b = (bytes_eq-Decides a b).0

-- one of two answers was given
chosen : {A : Type 0} (b : Bool) (o p : Option A) (a : A) → cond b o p ≡ Some a → ((b ≡ true) × (o ≡ Some a)) ⊎ (p ≡ Some a)
chosen true o p a e = inl (refl, e)
chosen false o p a e = inr e

-- the first of two answers was given, as the second is none
only : {A : Type 0} (b : Bool) (o : Option A) (a : A) → cond b o None ≡ Some a → (b ≡ true) × (o ≡ Some a)
only true o a e = (refl, e)
only false o a e = cc

model_said : (word : List ℕ) (m : Model) → model_of word ≡ Some m → word ≡ word_of m
model_said word m e =
    ⊎_elim (λ h. same_word word (codes "tso") h.0 ∙ tso h.1) (λ h. let k = only _ (Some Pso) m h in same_word word (codes "pso") k.0 ∙ pso k.1)
    (chosen (bytes_eq word (codes "tso")) (Some Tso) _ m e)
  where
    tso : Some Tso ≡ Some m → codes "tso" ≡ word_of m
    tso h = let same : Tso ≡ m = cc in ap word_of same

    pso : Some Pso ≡ Some m → codes "pso" ≡ word_of m
    pso h = let same : Pso ≡ m = cc in ap word_of same

bound_said : (word : List ℕ) (k : ℕ) → bound_of word ≡ Some k → IsBound k × (word ≡ decimal k)
bound_said [] k e = cc
bound_said (d ∷ c ∷ cs) k e = cc
bound_said (d ∷ []) k e =
    let h = only (nat_le 49 d && nat_le d 56) (Some (d - 48)) k e in
    let same : d - 48 ≡ k = let f = h.1 in cc in
    let least : nat_le 49 d ≡ true = (and_parts (nat_le 49 d) (nat_le d 56) h.0).0 in
    let most : nat_le d 56 ≡ true = (and_parts (nat_le 49 d) (nat_le d 56) h.0).1 in
    let low : 49 ≤ d = grind (arith, nat_tests) in
    let high : d ≤ 56 = grind (arith, nat_tests) in
    let digit : d ≡ 48 + k = omega (arith, same, low, high) in
    ((omega (arith, same, low), omega (arith, same, high)), ap (λ c. c ∷ []) digit ∙ sym (decimal_digit k (omega (arith, same, high))))

-- the words of a command with a model and a bound
abbrev five : List ℕ → Model → ℕ → List (List ℕ)
five word m k = word ∷ codes "--mm" ∷ word_of m ∷ codes "--bound" ∷ decimal k ∷ []

command_said : (word : List ℕ) (m : Model) (k : ℕ) (s : Settings) → IsBound k → command_of word m k ≡ Some s → AskFor (five word m k) s
command_said word m k s b e =
    ⊎_elim instrument
    (λ h. ⊎_elim cycles (λ i. replay (only _ (Some (Replay m k)) s i)) (chosen (bytes_eq word (codes "cycles")) (Some (Cycles m k)) _ s h))
    (chosen (bytes_eq word (codes "instrument")) (Some (Instrument m k)) _ s e)
  where
    instrument : (bytes_eq word (codes "instrument") ≡ true) × (Some (Instrument m k) ≡ Some s) → AskFor (five word m k) s
    instrument h =
        let f = h.1 in
        let same : Instrument m k ≡ s = cc in
        subst (λ (s : Settings). AskFor (five word m k) s) same (record { there = b; shape = ap (λ w. five w m k) (same_word word (codes "instrument") h.0) })

    cycles : (bytes_eq word (codes "cycles") ≡ true) × (Some (Cycles m k) ≡ Some s) → AskFor (five word m k) s
    cycles h =
        let f = h.1 in
        let same : Cycles m k ≡ s = cc in
        subst (λ (s : Settings). AskFor (five word m k) s) same (record { there = b; shape = ap (λ w. five w m k) (same_word word (codes "cycles") h.0) })

    replay : (bytes_eq word (codes "replay") ≡ true) × (Some (Replay m k) ≡ Some s) → AskFor (five word m k) s
    replay h =
        let f = h.1 in
        let same : Replay m k ≡ s = cc in
        subst (λ (s : Settings). AskFor (five word m k) s) same (record { there = b; shape = ap (λ w. five w m k) (same_word word (codes "replay") h.0) })

with_bound_said : (command mm model bound number : List ℕ) (s : Settings) → with_bound command mm model bound number ≡ Some s → AskFor (command ∷ mm ∷ model ∷ bound ∷ number ∷ []) s
with_bound_said command mm model bound number s e =
    let h = only (bytes_eq mm (codes "--mm") && bytes_eq bound (codes "--bound")) _ s e in
    let marks = and_parts (bytes_eq mm (codes "--mm")) (bytes_eq bound (codes "--bound")) h.0 in
    option_and_then_some (λ m. option_and_then (λ k. command_of command m k) (bound_of number)) (model_of model) s h.1 (λ m f g.
    option_and_then_some (λ k. command_of command m k) (bound_of number) s g (λ k i j.
    let b = bound_said number k i in
    let one : command ∷ mm ∷ model ∷ bound ∷ number ∷ [] ≡ command ∷ codes "--mm" ∷ word_of m ∷ codes "--bound" ∷ decimal k ∷ []
    = λ x. command ∷ same_word mm (codes "--mm") marks.0 x ∷ model_said model m f x ∷ same_word bound (codes "--bound") marks.1 x ∷ b.1 x ∷ [] in
    subst (λ (ws : List (List ℕ)). AskFor ws s) (sym one) (command_said command m k s b.0 j)))

without_bound_said : (command mm model : List ℕ) (s : Settings) → without_bound command mm model ≡ Some s → AskFor (command ∷ mm ∷ model ∷ []) s
without_bound_said command mm model s e =
    let h = only ((bytes_eq command (codes "replay") && bytes_eq mm (codes "--mm")) && bytes_eq model (codes "sc")) (Some ReplaySc) s e in
    let outer = and_parts (bytes_eq command (codes "replay") && bytes_eq mm (codes "--mm")) (bytes_eq model (codes "sc")) h.0 in
    let inner = and_parts (bytes_eq command (codes "replay")) (bytes_eq mm (codes "--mm")) outer.0 in
    let f = h.1 in
    let same : ReplaySc ≡ s = cc in
    let shape : command ∷ mm ∷ model ∷ [] ≡ codes "replay" ∷ codes "--mm" ∷ codes "sc" ∷ []
    = λ x. same_word command (codes "replay") inner.0 x ∷ same_word mm (codes "--mm") inner.1 x ∷ same_word model (codes "sc") outer.1 x ∷ [] in
    subst (λ (s : Settings). AskFor (command ∷ mm ∷ model ∷ []) s) same (record { there = tt; shape = shape })

said : (words : List (List ℕ)) (s : Settings) → settings_of words ≡ Some s → AskFor words s
said [] s e = cc
said (a ∷ []) s e = cc
said (a ∷ b ∷ []) s e = cc
said (a ∷ b ∷ c ∷ []) s e = without_bound_said a b c s e
said (a ∷ b ∷ c ∷ d ∷ []) s e = cc
said (a ∷ b ∷ c ∷ d ∷ f ∷ []) s e = with_bound_said a b c d f s e
said (a ∷ b ∷ c ∷ d ∷ f ∷ g ∷ gs) s e = cc

-- ---- what the words say is read

bound_read : (k : ℕ) → IsBound k → bound_of (decimal k) ≡ Some k
bound_read k h = ap bound_of (decimal_digit k (omega (arith, h.1))) ∙ digit
  where
    low : nat_le 49 (48 + k) ≡ true
    low = let l : 1 ≤ k = h.0 in grind (arith, nat_tests)

    high : nat_le (48 + k) 56 ≡ true
    high = let l : k ≤ 8 = h.1 in grind (arith, nat_tests)

    back : 48 + k - 48 ≡ k
    back = omega arith

    digit : cond (nat_le 49 (48 + k) && nat_le (48 + k) 56) (Some (48 + k - 48)) None ≡ Some k
    digit = ap (λ b. cond (b && nat_le (48 + k) 56) (Some (48 + k - 48)) None) low ∙ ap (λ b. cond b (Some (48 + k - 48)) None) high ∙ ap Some back

replay_read : (m : Model) (k : ℕ) → settings_of (words_of (Replay m k)) ≡ option_and_then (λ j. Some (Replay m j)) (bound_of (decimal k))
replay_read Tso k = refl
replay_read Pso k = refl

cycles_read : (m : Model) (k : ℕ) → settings_of (words_of (Cycles m k)) ≡ option_and_then (λ j. Some (Cycles m j)) (bound_of (decimal k))
cycles_read Tso k = refl
cycles_read Pso k = refl

instrument_read : (m : Model) (k : ℕ) → settings_of (words_of (Instrument m k)) ≡ option_and_then (λ j. Some (Instrument m j)) (bound_of (decimal k))
instrument_read Tso k = refl
instrument_read Pso k = refl

shape_read : (s : Settings) → IsThere s → settings_of (words_of s) ≡ Some s
shape_read (Instrument m k) h = instrument_read m k ∙ ap (λ o. option_and_then (λ j. Some (Instrument m j)) o) (bound_read k h)
shape_read (Cycles m k) h = cycles_read m k ∙ ap (λ o. option_and_then (λ j. Some (Cycles m j)) o) (bound_read k h)
shape_read ReplaySc h = refl
shape_read (Replay m k) h = replay_read m k ∙ ap (λ o. option_and_then (λ j. Some (Replay m j)) o) (bound_read k h)

pub is_read : (words : List (List ℕ)) (s : Settings) → AskFor words s → settings_of words ≡ Some s
is_read words s h = ap settings_of h.shape ∙ shape_read s h.there

-- ---- the answer

-- the words ask for what is read
pub asked : (words : List (List ℕ)) (o : Option Settings) → o ≡ settings_of words → IfSome o (AskFor words)
asked words None e = tt
asked words (Some s) e = said words s (sym e)

pub not_asked : (words : List (List ℕ)) (o : Option Settings) → o ≡ settings_of words → o ≡ None → (s : Settings) → AskFor words s → ⊥
not_asked words o e n s h = let f = is_read words s h in cc

-- words ask for one command
pub one_command : (words : List (List ℕ)) (s t : Settings) → AskFor words s → AskFor words t → s ≡ t
one_command words s t h k = let e = is_read words s h in let f = is_read words t k in cc
