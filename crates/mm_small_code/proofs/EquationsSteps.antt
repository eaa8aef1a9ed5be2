-- What the code of the relation and that of the equations share, and that it is handed on from part to part.
use Rattle.std.proofs.Common.{◌≡◌, ℕ, ◌+◌, Bool, false, cond, List, [], ◌∷◌, ◌++◌, reverse, length, Option, Some, None, sym, ◌∙◌, ap, append_assoc, arith}
use Rattle.std.specs.Str.{bytes_eq}
use Rattle.mm_goto.specs.declared.ident.Ident.{Ident}
use Rattle.mm_flow.specs.declared.mentions.Mention.{Mention}
use Rattle.mm_flow.specs.declared.mentions.Mention.TheVariants.{Label}
use Rattle.mm_flow.specs.Flow.{Flow, Then, Mark, Ways, size, later, mark_of, lay}
use Rattle.mm_flow.specs.Statements.{Did, Known as Equated}
use Rattle.mm_flow.specs.Text.{creates}
use Rattle.mm_small_code.specs.reading.Flattening.{Placed, number_of, Known, Around, with_label}
use Rattle.mm_small_code.proofs.EquationsNames.{later_later, label_later, number_of_more, LacksLabel, lack_both, lack_first, lacked, creates-append}

-- what is known, in the equations
abbrev pub equated : Known → Equated
equated k = record { names = reverse k.locals; next = k.next; seen = record { asserts = k.asserts; starts = 0 } }

-- the ways and the labels lead to where they lead in the function
pub record Leads (f : Around) (x : Ways) : Type 0 where
  pub home : length f.code ≡ x.home + 1
  pub labels : (y : Ident) (m : ℕ) → number_of f.labels y ≡ Some m → x.label y ≡ m

-- The equations say the same as the relation: what is known behind the code, and the code in front of the rest. These are the
-- labels in it.
pub record StepIs (f : Around) (k j : Known) (d : Did) (ms : List Mention) (is rest : List Placed) : Type 0 where
  pub known : d.known ≡ equated j
  pub lengths : length is ≡ size d.flow + length rest
  pub code : (x : Ways) (c : ℕ) → Leads f x → is ≡ lay x d.flow c ++ rest
  pub marks : (y : Ident) (c : ℕ) → length f.code ≡ c + length is → number_of j.labels y ≡ later (number_of k.labels y) (mark_of y d.flow c)
  pub named : (y : Ident) (c : ℕ) → LacksLabel ms y → mark_of y d.flow c ≡ None
  pub no_creates : creates ms ≡ []

-- code without a label
pub unlabelled : (f : Around) (k j : Known) (d : Did) (ms : List Mention) (is rest : List Placed) → d.known ≡ equated j → length is ≡ size d.flow + length rest → ((x : Ways) (c : ℕ) → Leads f x → is ≡ lay x d.flow c ++ rest) → j.labels ≡ k.labels → ((y : Ident) (c : ℕ) → mark_of y d.flow c ≡ None) → creates ms ≡ [] → StepIs f k j d ms is rest
unlabelled f k j d ms is rest e l c s m n = record {
  known = e;
  lengths = l;
  code = c;
  marks = λ y p h. ap (λ ls. number_of ls y) s ∙ ap (later (number_of k.labels y)) (sym (m y p));
  named = λ y p h. m y p;
  no_creates = n;
}

pub two_flows : (x : Ways) (a b : Flow) (c : ℕ) (is mid rest : List Placed) → is ≡ lay x a c ++ mid → mid ≡ lay x b (c + size a) ++ rest → is ≡ lay x (Then a b) c ++ rest
two_flows x a b c is mid rest h g = h ∙ ap (λ is. lay x a c ++ is) g ∙ sym (append_assoc (lay x a c) (lay x b (c + size a)) rest)

none_later : (o r : Option ℕ) → o ≡ None → r ≡ None → later o r ≡ None
none_later o r h g = rw (h, g)

pub two_steps : (f : Around) (k j l : Known) (d e : Did) (ms ns : List Mention) (is mid rest : List Placed) → StepIs f k j d ms is mid → StepIs f j l e ns mid rest → StepIs f k l (record { flow = Then d.flow e.flow; known = e.known }) (ms ++ ns) is rest
two_steps f k j l d e ms ns is mid rest s t = record {
  known = t.known;
  lengths = omega (arith, s.lengths, t.lengths);
  code = λ x c h. two_flows x d.flow e.flow c is mid rest (s.code x c h) (t.code x (c + size d.flow) h);
  marks = λ y c h. t.marks y (c + size d.flow) (omega (arith, s.lengths)) ∙ ap (λ o. later o (mark_of y e.flow (c + size d.flow))) (s.marks y c h) ∙ later_later (number_of k.labels y) (mark_of y d.flow c) (mark_of y e.flow (c + size d.flow));
  named = λ y c h. none_later (mark_of y d.flow c) (mark_of y e.flow (c + size d.flow)) (s.named y c (lack_both ms ns y h).first) (t.named y (c + size d.flow) (lack_both ms ns y h).second);
  no_creates = creates-append ms ns s.no_creates t.no_creates;
}

no_mark : (b : Bool) (c : ℕ) → b ≡ false → cond b (Some c) None ≡ None
no_mark b c h = rw h

label_marks : (k : Known) (x y : Ident) (m c : ℕ) (o r : Option ℕ) → m ≡ c → o ≡ later (number_of (with_label k x m).labels y) r → o ≡ later (number_of k.labels y) (later (cond (bytes_eq x y) (Some c) None) r)
label_marks k x y m c o r e h =
    h
    ∙ ap (λ o. later o r) (number_of_more k.labels x y m)
    ∙ label_later (bytes_eq x y) m (number_of k.labels y) r
    ∙ ap (λ m. later (number_of k.labels y) (later (cond (bytes_eq x y) (Some m) None) r)) e

pub label_step : (f : Around) (k j : Known) (x : Ident) (m : ℕ) (d : Did) (ms : List Mention) (is rest : List Placed) → length f.code ≡ m + length is → StepIs f (with_label k x m) j d ms is rest → StepIs f k j (record { flow = Then (Mark x) d.flow; known = d.known }) (Label x ∷ ms) is rest
label_step f k j x m d ms is rest e s = record {
  known = s.known;
  lengths = omega (arith, s.lengths);
  code = λ w c h. s.code w (c + 0) h;
  marks = λ y c h. label_marks k x y m c (number_of j.labels y) (mark_of y d.flow (c + 0)) (omega (arith, e, h)) (s.marks y (c + 0) (omega (arith, h)));
  named = λ y c h. none_later (cond (bytes_eq x y) (Some c) None) (mark_of y d.flow (c + 0)) (no_mark (bytes_eq x y) c (lacked x y (lack_first x y ms h).first)) (s.named y (c + 0) (lack_first x y ms h).second);
  no_creates = s.no_creates;
}
