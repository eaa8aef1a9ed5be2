-- What a site's kind says of its instruction.
use Rattle.std.proofs.Common.{◌≡◌, ◌∙◌, ℕ, Bool, true, false, sym, ap}
use Rattle.std.specs.Prelude.{◌↔◌}
use Rattle.std.proofs.lemmas.Bool.{true≢false}
use Rattle.mm_goto.specs.declared.program.Instr.{Instr}
use Rattle.mm_goto.specs.declared.program.Instr.TheVariants as i
use Rattle.mm_goto.specs.Sites.{Accesses, Writes, Handles}
use Rattle.mm_graph.specs.declared.site.SiteKind.{SiteKind}
use Rattle.mm_graph.specs.declared.site.SiteKind.TheVariants as kind
use Rattle.mm_graph.specs.Sites.{IsOfKind, subject_of}
use Rattle.mm_graph.specs.reading.Accesses.{accesses, writes, handles_mutex}

is_so : {b : Bool} {P : Type 0} → b ≡ true → P → (b ≡ true) ↔ P
is_so e p = (λ h. p, λ q. e)

is_not : {b : Bool} {P : Type 0} → b ≡ false → ¬ P → (b ≡ true) ↔ P
is_not e f = (λ h. absurd (true≢false (sym h ∙ e)), λ p. absurd (f p))

pub accesses_same : (k : SiteKind) (it : Instr) → IsOfKind k it → (accesses k ≡ true) ↔ Accesses it
accesses_same k (i.Load l t) is = is_so (ap accesses is) tt
accesses_same k (i.Store t e) is = is_so (ap accesses is) tt
accesses_same k (i.Add l t e) is = is_so (ap accesses is) tt
accesses_same k (i.Cas l t e f) is = is_so (ap accesses is) tt
accesses_same k (i.Lock m) is = is_not (ap accesses is) (λ h. h)
accesses_same k (i.Unlock m) is = is_not (ap accesses is) (λ h. h)
accesses_same k (i.Start u) is = is_not (ap accesses is) (λ h. h)
accesses_same k (i.Join u) is = is_not (ap accesses is) (λ h. h)
accesses_same k _ is = absurd is

pub writes_same : (k : SiteKind) (it : Instr) → IsOfKind k it → (writes k ≡ true) ↔ Writes it
writes_same k (i.Load l t) is = is_not (ap writes is) (λ h. h)
writes_same k (i.Store t e) is = is_so (ap writes is) tt
writes_same k (i.Add l t e) is = is_so (ap writes is) tt
writes_same k (i.Cas l t e f) is = is_so (ap writes is) tt
writes_same k (i.Lock m) is = is_not (ap writes is) (λ h. h)
writes_same k (i.Unlock m) is = is_not (ap writes is) (λ h. h)
writes_same k (i.Start u) is = is_not (ap writes is) (λ h. h)
writes_same k (i.Join u) is = is_not (ap writes is) (λ h. h)
writes_same k _ is = absurd is

-- it handles its subject where it handles a mutex
pub handled : (k : SiteKind) (n : ℕ) (it : Instr) → IsOfKind k it → n ≡ subject_of it → handles_mutex k ≡ true → Handles n it
handled k n (i.Load l t) is e h = absurd (true≢false (sym h ∙ ap handles_mutex is))
handled k n (i.Store t x) is e h = absurd (true≢false (sym h ∙ ap handles_mutex is))
handled k n (i.Add l t x) is e h = absurd (true≢false (sym h ∙ ap handles_mutex is))
handled k n (i.Cas l t x f) is e h = absurd (true≢false (sym h ∙ ap handles_mutex is))
handled k n (i.Lock m) is e h = sym e
handled k n (i.Unlock m) is e h = sym e
handled k n (i.Start u) is e h = absurd (true≢false (sym h ∙ ap handles_mutex is))
handled k n (i.Join u) is e h = absurd (true≢false (sym h ∙ ap handles_mutex is))
handled k n _ is e h = absurd is

pub handles : (k : SiteKind) (n m : ℕ) (it : Instr) → IsOfKind k it → n ≡ subject_of it → Handles m it → (handles_mutex k ≡ true) × (n ≡ m)
handles k n m (i.Lock x) is e h = (ap handles_mutex is, e ∙ h)
handles k n m (i.Unlock x) is e h = (ap handles_mutex is, e ∙ h)
handles k n m _ is e h = absurd h

pub starts : (k : SiteKind) (n u : ℕ) (it : Instr) → IsOfKind k it → n ≡ subject_of it → k ≡ kind.Start → n ≡ u → it ≡ i.Start u
starts k n u (i.Start v) is e h f = ap i.Start (sym e ∙ f)
starts k n u (i.Load l t) is e h f = absurd (let no : kind.Start ≡ kind.Load = sym h ∙ is in cc)
starts k n u (i.Store t x) is e h f = absurd (let no : kind.Start ≡ kind.Store = sym h ∙ is in cc)
starts k n u (i.Add l t x) is e h f = absurd (let no : kind.Start ≡ kind.Update = sym h ∙ is in cc)
starts k n u (i.Cas l t x y) is e h f = absurd (let no : kind.Start ≡ kind.Update = sym h ∙ is in cc)
starts k n u (i.Lock m) is e h f = absurd (let no : kind.Start ≡ kind.Lock = sym h ∙ is in cc)
starts k n u (i.Unlock m) is e h f = absurd (let no : kind.Start ≡ kind.Unlock = sym h ∙ is in cc)
starts k n u (i.Join v) is e h f = absurd (let no : kind.Start ≡ kind.Join = sym h ∙ is in cc)
starts k n u _ is e h f = absurd is

pub joins : (k : SiteKind) (n u : ℕ) (it : Instr) → IsOfKind k it → n ≡ subject_of it → k ≡ kind.Join → n ≡ u → it ≡ i.Join u
joins k n u (i.Join v) is e h f = ap i.Join (sym e ∙ f)
joins k n u (i.Load l t) is e h f = absurd (let no : kind.Join ≡ kind.Load = sym h ∙ is in cc)
joins k n u (i.Store t x) is e h f = absurd (let no : kind.Join ≡ kind.Store = sym h ∙ is in cc)
joins k n u (i.Add l t x) is e h f = absurd (let no : kind.Join ≡ kind.Update = sym h ∙ is in cc)
joins k n u (i.Cas l t x y) is e h f = absurd (let no : kind.Join ≡ kind.Update = sym h ∙ is in cc)
joins k n u (i.Lock m) is e h f = absurd (let no : kind.Join ≡ kind.Lock = sym h ∙ is in cc)
joins k n u (i.Unlock m) is e h f = absurd (let no : kind.Join ≡ kind.Unlock = sym h ∙ is in cc)
joins k n u (i.Start v) is e h f = absurd (let no : kind.Join ≡ kind.Start = sym h ∙ is in cc)
joins k n u _ is e h f = absurd is
