-- How a parser reads: it sees what it takes and one token more, and what it took before a fault can be completed.
use Rattle.std.proofs.Common.{◌≡◌, ℕ, zero, suc, ◌<◌, List, [], ◌∷◌, ◌++◌, length, length-append, append_assoc, arith, Option, Some, None, refl, sym, ◌∙◌, ap, subst, ◌⊎◌, inl, inr}
use Rattle.mm_reading.specs.Parsing.{Parser, Outcome, Parsed, Fault, ◌>>=◌, pure, fail, peek, skip, after, head, taken, token_at, token}

abbrev pub Never : {T : Type 0} → Option T → Type 0
Never h = ⊥

-- a parser for each bound on the tokens
abbrev pub Family : Type 0 → Type 0 → Type 0
Family T A = ℕ → Parser T A

-- The value a was read; the family q reads it too where what follows begins alike, or with what C allows.
-- B is what may stand first where nothing was read.
pub record Read {T A : Type 0} (q : Family T A) (B C : Option T → Type 0) (a : A) (rest ts : List T) : Type 0 where
  pub read : List T
  pub parts : read ++ rest ≡ ts
  pub fits : (tail : List T) → C (head tail) ⊎ (head tail ≡ head rest) → (m : ℕ) → length (read ++ tail) < m → q m (read ++ tail) ≡ Parsed a tail
  pub starts : read ≡ [] → (tail : List T) → C (head tail) → B (head tail)

-- Nothing can be read where what follows begins alike; before it a completion can.
pub record Broken {T A : Type 0} (q : Family T A) (B C : Option T → Type 0) (rest ts : List T) : Type 0 where
  pub read : List T
  pub parts : read ++ rest ≡ ts
  pub same : (tail : List T) → head tail ≡ head rest → (m : ℕ) → length (read ++ tail) < m → q m (read ++ tail) ≡ Fault tail
  pub more : List T
  pub value : A
  pub fits : (tail : List T) → C (head tail) → (m : ℕ) → length (read ++ (more ++ tail)) < m → q m (read ++ (more ++ tail)) ≡ Parsed value tail
  pub starts : read ≡ [] → (tail : List T) → C (head tail) → B (head (more ++ tail))

abbrev pub At : {T A : Type 0} → Family T A → (Option T → Type 0) → (Option T → Type 0) → Outcome T A → List T → Type 0
At q B C (Parsed a rest) ts = Read q B C a rest ts
At q B C (Fault rest) ts = Broken q B C rest ts

pub record Reads {T A : Type 0} (n : ℕ) (B C : Option T → Type 0) (p : Parser T A) (q : Family T A) : Type 0 where
  pub at : (ts : List T) → length ts < n → At q B C (p ts) ts

-- the same where a token stands next
pub record Takes {T A : Type 0} (n : ℕ) (t : T) (C : Option T → Type 0) (p : Parser T A) (q : Family T A) : Type 0 where
  pub at : (ts : List T) → length (t ∷ ts) < n → At q Never C (p (t ∷ ts)) (t ∷ ts)

-- tokens that the family reads
pub record Example {T A : Type 0} (B C : Option T → Type 0) (q : Family T A) : Type 0 where
  pub more : List T
  pub value : A
  pub fits : (tail : List T) → C (head tail) → (m : ℕ) → length (more ++ tail) < m → q m (more ++ tail) ≡ Parsed value tail
  pub starts : (tail : List T) → C (head tail) → B (head (more ++ tail))

abbrev pub seq : {T A B : Type 0} → Family T A → (A → Family T B) → Family T B
seq q g m = q m >>= λ a. g a m

-- ---- lists

head_over : {T : Type 0} (read rest ts tail : List T) → read ++ rest ≡ ts → head tail ≡ head rest → head (read ++ tail) ≡ head ts
head_over [] rest ts tail e h = h ∙ ap head e
head_over (x ∷ xs) rest ts tail e h = ap head e

empty_left : {T : Type 0} (xs ys : List T) → xs ++ ys ≡ [] → xs ≡ []
empty_left [] ys e = refl
empty_left (x ∷ xs) ys e = cc

empty_right : {T : Type 0} (xs ys : List T) → xs ++ ys ≡ [] → ys ≡ []
empty_right [] ys e = e
empty_right (x ∷ xs) ys e = cc

shorter : {T : Type 0} (read rest ts : List T) (n : ℕ) → read ++ rest ≡ ts → length ts < n → length rest < n
shorter read rest ts n e l = omega (arith, length-append read rest, ap length e)

shorter_right : {T : Type 0} (xs ys zs : List T) (m : ℕ) → length ((xs ++ ys) ++ zs) < m → length (ys ++ zs) < m
shorter_right xs ys zs m l = omega (arith, length-append (xs ++ ys) zs, length-append xs ys, length-append ys zs)

-- ---- the combinators

pub reads_pure : {T A : Type 0} (n : ℕ) (C : Option T → Type 0) (a : A) → Reads n C C (pure a) (λ m. pure a)
unfolding pure
reads_pure n C a = record { at = λ ts l. record { read = []; parts = refl; fits = λ tail c m l'. refl; starts = λ e tail c. c } }

pub example_pure : {T A : Type 0} (C : Option T → Type 0) (a : A) → Example C C (λ m. pure a)
unfolding pure
example_pure C a = record { more = []; value = a; fits = λ tail c m l. refl; starts = λ tail c. c }

module _ {T A B : Type 0} (n : ℕ) (P C D : Option T → Type 0) (q : Family T A) (f : A → Parser T B) (g : A → Family T B) where
  follow : (mid rest read tail : List T) → (parts : read ++ rest ≡ mid) → (read ≡ [] → C (head tail) ⊎ (head tail ≡ head mid)) → C (head (read ++ tail)) ⊎ (head (read ++ tail) ≡ head mid)
  follow mid rest [] tail parts h = h refl
  follow mid rest (x ∷ xs) tail parts h = inr (ap head parts)

  second : (a : A) (mid ts : List T) (h : Read q P C a mid ts) (o : Outcome T B) → At (g a) C D o mid → At (seq q g) P D o ts
  second a mid ts h (Parsed b rest) k = record {
    read = h.read ++ k.read;
    parts = append_assoc h.read k.read rest ∙ ap (λ xs. h.read ++ xs) k.parts ∙ h.parts;
    fits = λ tail c m l.
        let follows : C (head (k.read ++ tail)) ⊎ (head (k.read ++ tail) ≡ head mid) =
        follow mid rest k.read tail k.parts (λ e. elim c [ inl d ↦ inl (k.starts e tail d) | inr s ↦ inr (s ∙ ap head (sym (ap (λ xs. xs ++ rest) e) ∙ k.parts)) ]) in
        ap (λ xs. after (q m xs) (λ a. g a m)) (append_assoc h.read k.read tail)
        ∙ ap (λ o. after o (λ a. g a m)) (h.fits (k.read ++ tail) follows m (subst (λ xs. length xs < m) (append_assoc h.read k.read tail) l))
        ∙ k.fits tail c m (shorter_right h.read k.read tail m l);
    starts = λ e tail d. h.starts (empty_left h.read k.read e) tail (k.starts (empty_right h.read k.read e) tail d);
  }
  second a mid ts h (Fault rest) k = record {
    read = h.read ++ k.read;
    parts = append_assoc h.read k.read rest ∙ ap (λ xs. h.read ++ xs) k.parts ∙ h.parts;
    same = λ tail s m l.
        let follows : C (head (k.read ++ tail)) ⊎ (head (k.read ++ tail) ≡ head mid) =
        follow mid rest k.read tail k.parts (λ e. inr (s ∙ ap head (sym (ap (λ xs. xs ++ rest) e) ∙ k.parts))) in
        ap (λ xs. after (q m xs) (λ a. g a m)) (append_assoc h.read k.read tail)
        ∙ ap (λ o. after o (λ a. g a m)) (h.fits (k.read ++ tail) follows m (subst (λ xs. length xs < m) (append_assoc h.read k.read tail) l))
        ∙ k.same tail s m (shorter_right h.read k.read tail m l);
    more = k.more;
    value = k.value;
    fits = λ tail d m l.
        let follows : C (head (k.read ++ (k.more ++ tail))) ⊎ (head (k.read ++ (k.more ++ tail)) ≡ head mid) =
        follow mid rest k.read (k.more ++ tail) k.parts (λ e. inl (k.starts e tail d)) in
        ap (λ xs. after (q m xs) (λ a. g a m)) (append_assoc h.read k.read (k.more ++ tail))
        ∙ ap (λ o. after o (λ a. g a m)) (h.fits (k.read ++ (k.more ++ tail)) follows m (subst (λ xs. length xs < m) (append_assoc h.read k.read (k.more ++ tail)) l))
        ∙ k.fits tail d m (shorter_right h.read k.read (k.more ++ tail) m l);
    starts = λ e tail d. h.starts (empty_left h.read k.read e) (k.more ++ tail) (k.starts (empty_right h.read k.read e) tail d);
  }

  bind_at : ((a : A) → Reads n C D (f a) (g a)) → ((a : A) → Example C D (g a)) → (o : Outcome T A) (ts : List T) → length ts < n → At q P C o ts → At (seq q g) P D (after o f) ts
  bind_at fs ex (Parsed a mid) ts l h = second a mid ts h (f a mid) ((fs a).at mid (shorter h.read mid ts n h.parts l))
  bind_at fs ex (Fault rest) ts l h =
      let e = ex h.value in
      record {
        read = h.read;
        parts = h.parts;
        same = λ tail s m l'. ap (λ o. after o (λ a. g a m)) (h.same tail s m l');
        more = h.more ++ e.more;
        value = e.value;
        fits = λ tail d m l'.
            ap (λ xs. after (q m (h.read ++ xs)) (λ a. g a m)) (append_assoc h.more e.more tail)
            ∙ ap (λ o. after o (λ a. g a m)) (h.fits (e.more ++ tail) (e.starts tail d) m (subst (λ xs. length (h.read ++ xs) < m) (append_assoc h.more e.more tail) l'))
            ∙ e.fits tail d m (omega (arith, length-append h.read ((h.more ++ e.more) ++ tail), length-append (h.more ++ e.more) tail, length-append h.more e.more, length-append e.more tail));
        starts = λ none tail d. subst (λ xs. P (head xs)) (sym (append_assoc h.more e.more tail)) (h.starts none (e.more ++ tail) (e.starts tail d));
      }

-- p, and then f of its value
pub reads_bind : {T A B : Type 0} (n : ℕ) (P C D : Option T → Type 0) (p : Parser T A) (q : Family T A) (f : A → Parser T B) (g : A → Family T B) → Reads n P C p q → ((a : A) → Reads n C D (f a) (g a)) → ((a : A) → Example C D (g a)) → Reads n P D (p >>= f) (seq q g)
reads_bind n P C D p q f g r fs ex = record { at = λ ts l. bind_at n P C D q f g fs ex (p ts) ts l (r.at ts l) }

pub example_bind : {T A B : Type 0} (P C D : Option T → Type 0) (q : Family T A) (g : A → Family T B) → Example P C q → ((a : A) → Example C D (g a)) → Example P D (seq q g)
example_bind P C D q g h ex =
    let e = ex h.value in
    record {
      more = h.more ++ e.more;
      value = e.value;
      fits = λ tail d m l.
          ap (λ xs. after (q m xs) (λ a. g a m)) (append_assoc h.more e.more tail)
          ∙ ap (λ o. after o (λ a. g a m)) (h.fits (e.more ++ tail) (e.starts tail d) m (subst (λ xs. length xs < m) (append_assoc h.more e.more tail) l))
          ∙ e.fits tail d m (shorter_right h.more e.more tail m l);
      starts = λ tail d. subst (λ xs. P (head xs)) (sym (append_assoc h.more e.more tail)) (h.starts (e.more ++ tail) (e.starts tail d));
    }

pub takes_skip_alone : {T : Type 0} (n : ℕ) (t : T) (C : Option T → Type 0) → Takes n t C skip (λ m. skip)
unfolding skip
takes_skip_alone n t C = record { at = λ ts l. record { read = t ∷ []; parts = refl; fits = λ tail c m l. refl; starts = λ e tail c. cc } }

-- a token, and then p with a bound that is one less
pub takes_skip : {T B : Type 0} (n : ℕ) (t : T) (P C : Option T → Type 0) (p : Parser T B) (q q' : Family T B) → ((m : ℕ) → q' (suc m) ≡ (skip >>= λ _. q m)) → Reads n P C p q → Takes (suc n) t C (skip >>= λ _. p) q'
unfolding skip
takes_skip {T = T} {B = B} n t P C p q q' e r = record { at = λ ts l. taken (p ts) ts (r.at ts (omega arith)) }
  where
    step : (m : ℕ) (xs : List T) (o : Outcome T B) → length (t ∷ xs) < m → ((k : ℕ) → length xs < k → q k xs ≡ o) → q' m (t ∷ xs) ≡ o
    step zero xs o l h = absurd (omega arith)
    step (suc m) xs o l h = ap (λ (s : Parser T B). s (t ∷ xs)) (e m) ∙ h m (omega arith)

    taken : (o : Outcome T B) (ts : List T) → At q P C o ts → At q' Never C o (t ∷ ts)
    taken (Parsed b rest) ts k = record {
      read = t ∷ k.read;
      parts = ap (λ xs. t ∷ xs) k.parts;
      fits = λ tail c m l. step m (k.read ++ tail) _ l (k.fits tail c);
      starts = λ e tail c. cc;
    }
    taken (Fault rest) ts k = record {
      read = t ∷ k.read;
      parts = ap (λ xs. t ∷ xs) k.parts;
      same = λ tail s m l. step m (k.read ++ tail) _ l (k.same tail s);
      more = k.more;
      value = k.value;
      fits = λ tail c m l. step m (k.read ++ (k.more ++ tail)) _ l (k.fits tail c);
      starts = λ e tail c. cc;
    }

-- a token, and then p with the same bound
pub takes_skip_same : {T B : Type 0} (n : ℕ) (t : T) (P C : Option T → Type 0) (p : Parser T B) (q : Family T B) → Reads n P C p q → Takes n t C (skip >>= λ _. p) (λ m. skip >>= λ _. q m)
unfolding skip
takes_skip_same {T = T} {B = B} n t P C p q r = record { at = λ ts l. taken (p ts) ts (r.at ts (omega arith)) }
  where
    taken : (o : Outcome T B) (ts : List T) → At q P C o ts → At (λ m. skip >>= λ _. q m) Never C o (t ∷ ts)
    taken (Parsed b rest) ts k = record {
      read = t ∷ k.read;
      parts = ap (λ xs. t ∷ xs) k.parts;
      fits = λ tail c m l. k.fits tail c m (omega arith);
      starts = λ e tail c. cc;
    }
    taken (Fault rest) ts k = record {
      read = t ∷ k.read;
      parts = ap (λ xs. t ∷ xs) k.parts;
      same = λ tail s m l. k.same tail s m (omega arith);
      more = k.more;
      value = k.value;
      fits = λ tail c m l. k.fits tail c m (omega arith);
      starts = λ e tail c. cc;
    }

pub reads_none : {T A : Type 0} (P C : Option T → Type 0) (p : Parser T A) (q : Family T A) → Reads 0 P C p q
reads_none P C p q = record { at = λ ts l. absurd (omega arith) }

pub reads_less : {T A : Type 0} (n : ℕ) (P C : Option T → Type 0) (p : Parser T A) (q : Family T A) → Reads (suc n) P C p q → Reads n P C p q
reads_less n P C p q r = record { at = λ ts l. r.at ts (omega arith) }

-- a family that differs at the bound 0 alone
pub At-switch : {T A : Type 0} (P C : Option T → Type 0) (q q' : Family T A) → ((m : ℕ) → q' (suc m) ≡ q (suc m)) → (o : Outcome T A) (ts : List T) → At q P C o ts → At q' P C o ts
At-switch {T = T} {A = A} P C q q' e (Parsed a rest) ts h = record { read = h.read; parts = h.parts; starts = h.starts; fits = λ tail c m l. other m (h.read ++ tail) (Parsed a tail) l (h.fits tail c) }
  where
    other : (m : ℕ) (xs : List T) (o : Outcome T A) → length xs < m → ((k : ℕ) → length xs < k → q k xs ≡ o) → q' m xs ≡ o
    other zero xs o l h = absurd (omega arith)
    other (suc m) xs o l h = ap (λ (s : Parser T A). s xs) (e m) ∙ h (suc m) l
At-switch {T = T} {A = A} P C q q' e (Fault rest) ts h = record { read = h.read; parts = h.parts; starts = h.starts; more = h.more; value = h.value; same = λ tail s m l. other m (h.read ++ tail) (Fault tail) l (h.same tail s); fits = λ tail c m l. other m (h.read ++ (h.more ++ tail)) (Parsed h.value tail) l (h.fits tail c) }
  where
    other : (m : ℕ) (xs : List T) (o : Outcome T A) → length xs < m → ((k : ℕ) → length xs < k → q k xs ≡ o) → q' m xs ≡ o
    other zero xs o l h = absurd (omega arith)
    other (suc m) xs o l h = ap (λ (s : Parser T A). s xs) (e m) ∙ h (suc m) l

pub reads_switch : {T A : Type 0} (n : ℕ) (P C : Option T → Type 0) (p : Parser T A) (q q' : Family T A) → ((m : ℕ) → q' (suc m) ≡ q (suc m)) → Reads n P C p q → Reads n P C p q'
reads_switch n P C p q q' e r = record { at = λ ts l. At-switch P C q q' e (p ts) ts (r.at ts l) }

-- ---- a choice by the next token

-- what a choice does where h stands next: it takes a token, it fails, or it ends with a value
pub data Branch {T A : Type 0} (n : ℕ) (P C : Option T → Type 0) (f : Option T → Parser T A) (g : Option T → Family T A) : Option T → Type 0 where
  takes : {t : T} → Takes n t C (f (Some t)) (g (Some t)) → Branch n P C f g (Some t)
  fails : {h : Option T} → f h ≡ fail → ((m : ℕ) → g h (suc m) ≡ fail) → Branch n P C f g h
  ends : {h : Option T} (a : A) → f h ≡ pure a → ((m : ℕ) → g h (suc m) ≡ pure a) → ((k : Option T) (m : ℕ) → C k → g k (suc m) ≡ pure a) → ((k : Option T) → C k → P k) → Branch n P C f g h

module _ {T A : Type 0} (n : ℕ) (P C : Option T → Type 0) (f : Option T → Parser T A) (g : Option T → Family T A) where
  abbrev all : Family T A
  all m = peek (λ h. g h m)

  took : (t : T) (o : Outcome T A) (ts : List T) → At (g (Some t)) Never C o (t ∷ ts) → At all P C o (t ∷ ts)
  unfolding peek
  took t (Parsed a rest) ts k = record {
    read = k.read;
    parts = k.parts;
    fits = λ tail c m l. ap (λ h. g h m (k.read ++ tail)) (over tail k.read k.parts (λ e. elim c [ inl d ↦ absurd (k.starts e tail d) | inr s ↦ s ])) ∙ k.fits tail c m l;
    starts = λ e tail c. absurd (k.starts e tail c);
  }
    where
      over : (tail read : List T) → read ++ rest ≡ t ∷ ts → (read ≡ [] → head tail ≡ head rest) → head (read ++ tail) ≡ Some t
      over tail [] e h = h refl ∙ ap head e
      over tail (x ∷ xs) e h = ap head e
  took t (Fault rest) ts k = record {
    read = k.read;
    parts = k.parts;
    same = λ tail s m l. ap (λ h. g h m (k.read ++ tail)) (head_over k.read rest (t ∷ ts) tail k.parts s) ∙ k.same tail s m l;
    more = k.more;
    value = k.value;
    fits = λ tail c m l. ap (λ h. g h m (k.read ++ (k.more ++ tail))) (over tail c k.read k.parts k.starts) ∙ k.fits tail c m l;
    starts = λ e tail c. absurd (k.starts e tail c);
  }
    where
      over : (tail : List T) → C (head tail) → (read : List T) → read ++ rest ≡ t ∷ ts → (read ≡ [] → (tail : List T) → C (head tail) → ⊥) → head (read ++ (k.more ++ tail)) ≡ Some t
      over tail c [] e s = absurd (s refl tail c)
      over tail c (x ∷ xs) e s = ap head e

  failed : Example P C all → (ts : List T) → ((m : ℕ) → g (head ts) (suc m) ≡ fail) → At all P C (Fault ts) ts
  unfolding peek fail
  failed e ts h = record {
    read = [];
    parts = refl;
    same = λ tail s m l. broken tail s m l;
    more = e.more;
    value = e.value;
    fits = λ tail c m l. e.fits tail c m l;
    starts = λ none tail c. e.starts tail c;
  }
    where
      broken : (tail : List T) → head tail ≡ head ts → (m : ℕ) → length tail < m → g (head tail) m tail ≡ Fault tail
      broken tail s zero l = absurd (omega arith)
      broken tail s (suc m) l = ap (λ k. g k (suc m) tail) s ∙ ap (λ (p : Parser T A). p tail) (h m)

  ended : (a : A) (ts : List T) → ((m : ℕ) → g (head ts) (suc m) ≡ pure a) → ((k : Option T) (m : ℕ) → C k → g k (suc m) ≡ pure a) → ((k : Option T) → C k → P k) → At all P C (Parsed a ts) ts
  unfolding peek pure
  ended a ts h clear sub = record {
    read = [];
    parts = refl;
    fits = λ tail c m l. over tail c m l;
    starts = λ e tail c. sub (head tail) c;
  }
    where
      over : (tail : List T) → C (head tail) ⊎ (head tail ≡ head ts) → (m : ℕ) → length tail < m → g (head tail) m tail ≡ Parsed a tail
      over tail c zero l = absurd (omega arith)
      over tail (inl d) (suc m) l = ap (λ (p : Parser T A). p tail) (clear (head tail) m d)
      over tail (inr s) (suc m) l = ap (λ k. g k (suc m) tail) s ∙ ap (λ (p : Parser T A). p tail) (h m)

  choice : Example P C all → (ts : List T) → length ts < n → (h : Option T) → head ts ≡ h → Branch n P C f g h → At all P C (f h ts) ts
  unfolding fail pure
  choice ex [] l (Some t) e (takes r) = cc
  choice ex (x ∷ ts) l (Some t) e (takes r) = subst (λ (u : T). At all P C (f (Some t) (u ∷ ts)) (u ∷ ts)) (sym (same_token e)) (took t (f (Some t) (t ∷ ts)) ts (r.at ts l))
    where
      same_token : Some x ≡ Some t → x ≡ t
      same_token e = cc
  choice ex ts l h e (fails a b) = subst (λ (p : Parser T A). At all P C (p ts) ts) (sym a) (failed ex ts (λ m. ap (λ k. g k (suc m)) e ∙ b m))
  choice ex ts l h e (ends v a b clear sub) = subst (λ (p : Parser T A). At all P C (p ts) ts) (sym a) (ended v ts (λ m. ap (λ k. g k (suc m)) e ∙ b m) clear sub)

  pub reads_peek : Example P C all → ((h : Option T) → Branch n P C f g h) → Reads n P C (peek f) all
  unfolding peek
  reads_peek ex branches = record { at = λ ts l. choice ex ts l (head ts) refl (branches (head ts)) }

-- a choice that may end at once
pub example_end : {T A : Type 0} (P C : Option T → Type 0) (q : Family T A) (g : Option T → Family T A) (a : A) → ((m : ℕ) → q (suc m) ≡ peek (λ h. g h (suc m))) → ((h : Option T) (m : ℕ) → C h → g h (suc m) ≡ pure a) → ((h : Option T) → C h → P h) → Example P C q
unfolding peek pure
example_end {T = T} {A = A} P C q g a e clear sub = record { more = []; value = a; fits = λ tail c m l. over tail c m l; starts = λ tail c. sub (head tail) c }
  where
    over : (tail : List T) → C (head tail) → (m : ℕ) → length tail < m → q m tail ≡ Parsed a tail
    over tail c zero l = absurd (omega arith)
    over tail c (suc m) l = ap (λ (p : Parser T A). p tail) (e m) ∙ ap (λ (p : Parser T A). p tail) (clear (head tail) m c)

-- a choice that takes a token
pub example_token : {T A : Type 0} (P Q C : Option T → Type 0) (t : T) (q p : Family T A) → P (Some t) → ((m : ℕ) (ts : List T) → q (suc m) (t ∷ ts) ≡ p m ts) → Example Q C p → Example P C q
example_token {T = T} {A = A} P Q C t q p b e x = record {
  more = t ∷ x.more;
  value = x.value;
  fits = λ tail c m l. over tail c m l;
  starts = λ tail c. b;
}
  where
    over : (tail : List T) → C (head tail) → (m : ℕ) → length (t ∷ (x.more ++ tail)) < m → q m (t ∷ (x.more ++ tail)) ≡ Parsed x.value tail
    over tail c zero l = absurd (omega arith)
    over tail c (suc m) l = e m (x.more ++ tail) ∙ x.fits tail c m (omega arith)

at_up : {T A : Type 0} (P C : Option T → Type 0) (q : Family T A) (o : Outcome T A) (ts : List T) → At q P C o ts → At (λ m. q (suc m)) P C o ts
at_up P C q (Parsed a rest) ts h = record { read = h.read; parts = h.parts; starts = h.starts; fits = λ tail c m l. h.fits tail c (suc m) (omega arith) }
at_up P C q (Fault rest) ts h = record { read = h.read; parts = h.parts; starts = h.starts; more = h.more; value = h.value; same = λ tail s m l. h.same tail s (suc m) (omega arith); fits = λ tail c m l. h.fits tail c (suc m) (omega arith) }

-- a bound more than is needed
pub reads_up : {T A : Type 0} (n : ℕ) (P C : Option T → Type 0) (p : Parser T A) (q : Family T A) → Reads (suc n) P C p q → Reads n P C p (λ m. q (suc m))
reads_up n P C p q r = record { at = λ ts l. at_up P C q (p ts) ts (r.at ts (omega arith)) }

-- ---- one token

pub example_of_token : {T A : Type 0} (P C : Option T → Type 0) (f : T → Option A) (t : T) (a : A) → f t ≡ Some a → P (Some t) → Example P C (λ m. token f)
unfolding token peek skip pure
example_of_token P C f t a e p = record { more = t ∷ []; value = a; fits = λ tail c m l. ap (λ o. taken o (t ∷ tail)) e; starts = λ tail c. p }

-- a token that has a value under f, as t has
pub reads_token : {T A : Type 0} (n : ℕ) (P C : Option T → Type 0) (f : T → Option A) (t : T) (a : A) → f t ≡ Some a → P (Some t) → Reads n P C (token f) (λ m. token f)
unfolding token
reads_token {T = T} {A = A} n P C f t a e p = reads_peek n P C (token_at f) (λ h m. token_at f h) (example_of_token P C f t a e p) branch
  where
    by_value : (u : T) (o : Option A) → f u ≡ o → Branch n P C (token_at f) (λ h m. token_at f h) (Some u)
    by_value u None e = fails (ap taken e) (λ m. ap taken e)
    by_value u (Some b) e = takes (subst (λ (o : Option A). Takes n u C (taken o) (λ m. taken o)) (sym e) (takes_skip_same n u C C (pure b) (λ m. pure b) (reads_pure n C b)))

    branch : (h : Option T) → Branch n P C (token_at f) (λ h m. token_at f h) h
    branch None = fails refl (λ m. refl)
    branch (Some u) = by_value u (f u) refl

-- a family that differs at the bound 0 alone
pub example_switch : {T A : Type 0} (P C : Option T → Type 0) (q q' : Family T A) → ((m : ℕ) → q' (suc m) ≡ q (suc m)) → Example P C q → Example P C q'
example_switch {T = T} {A = A} P C q q' e x = record { more = x.more; value = x.value; starts = x.starts; fits = λ tail c m l. other m (x.more ++ tail) (Parsed x.value tail) l (x.fits tail c) }
  where
    other : (m : ℕ) (xs : List T) (o : Outcome T A) → length xs < m → ((k : ℕ) → length xs < k → q k xs ≡ o) → q' m xs ≡ o
    other zero xs o l h = absurd (omega arith)
    other (suc m) xs o l h = ap (λ (s : Parser T A). s xs) (e m) ∙ h (suc m) l
