-- Any run that meets the code goes as the meaning says, or does not come to its end.
use Rattle.std.proofs.Common.{arith, ◌≡◌, ℕ, ◌+◌, ◌<◌, ◌≤◌, ℤ, List, [], ◌∷◌, ◌++◌, length, map, Option, Some, None, option_map, refl, Bool, true, false, sym, ◌∙◌, ap, ◌&&◌, not, is_none, slice_get, append_assoc, length-append, inl, inr, ◌⊎◌}
use Rattle.std.specs.Prelude.{◌==◌}
use Rattle.mm_goto.specs.Listing.{Listing}
use Rattle.mm_goto.specs.declared.program.Instr.{Instr}
use Rattle.mm_goto.specs.declared.program.Instr.TheVariants.{Input}
use Rattle.mm_sched.specs.declared.entry.Entry.{Entry}
use Rattle.mm_sched.specs.declared.entry.Entry.TheVariants.{Step, In, Flush, FlushCell}
use Rattle.mm_sched.specs.declared.entry.Rules.{Rules}
use Rattle.mm_sched.specs.declared.entry.Rules.TheVariants.{Sc}
use Rattle.mm_sched.specs.declared.entry.Act.{Act}
use Rattle.mm_sched.specs.declared.entry.Event.{Event}
use Rattle.mm_sched.specs.State.{State, Frame, pending_of}
use Rattle.mm_sched.specs.Event.{event, next, after, act, does, input, fetched, is_owner, is_open_to, may_step}
use Rattle.mm_sched.specs.Runs.{run}
use Rattle.mm_sched.specs.Guarded.{◌>>=◌, guarded}
use Rattle.mm_flow.specs.Flow.{Flow, Ways, way, size}
use Rattle.mm_meaning.specs.Meaning.{View, Outcome, Done, Left, Failed, Halted, Other, meaning}
use Rattle.mm_meaning.specs.Standing.{Stands}
use Rattle.mm_meaning.specs.Inside.{own, values, inputs_of, stays, inside, stand, Ends, Leads, Stops, Breaks, RunsInside, Comes, Meets}
use Rattle.mm_meaning.specs.Acting.{act as meant}
use Rattle.mm_meaning.proofs.Machine.{runs_inside}

-- ---- kit: what a step that is made says

pub record Bound {A B : Type 0} (o : Option A) (f : A → Option B) (b : B) : Type 0 where
  pub mid : A
  pub is : o ≡ Some mid
  pub goes : f mid ≡ Some b

pub bound : {A B : Type 0} (o : Option A) (f : A → Option B) (b : B) → (o >>= f) ≡ Some b → Bound o f b
bound None f b e = cc
bound (Some a) f b e = record { mid = a; is = refl; goes = e }

pub passed_guard : {A : Type 0} (c : Bool) (o : Option A) (a : A) → guarded c o ≡ Some a → (c ≡ true) × (o ≡ Some a)
passed_guard true o a e = (refl, e)
passed_guard false o a e = cc

pub both : (a b : Bool) → (a && b) ≡ true → (a ≡ true) × (b ≡ true)
both true b e = (refl, e)
both false b e = cc

mapped : {A B : Type 0} (f : A → B) (o : Option A) (b : B) → option_map f o ≡ Some b → (a : A) × (o ≡ Some a) × (f a ≡ b)
mapped f None b e = cc
mapped f (Some a) b e = (a, refl, cc)

-- what a thread's entry that is enabled says
pub record Stepped (p : Listing) (s : State) (u : ℕ) (what : Frame → Instr → Option Act) : Type 0 where
  pub frame : Frame
  pub instr : Instr
  pub did : Act
  pub has : slice_get s.threads u ≡ Some frame
  pub at : fetched p u frame.place ≡ Some instr
  pub may : may_step s u frame ≡ true
  pub does : what frame instr ≡ Some did

happened : (p : Listing) (s : State) (u : ℕ) (what : Frame → Instr → Option Act) (e : Event) → does p s u what ≡ Some e → Stepped p s u what
happened p s u what e h =
    let a = bound (slice_get s.threads u) _ e h in
    let b = bound (fetched p u a.mid.place) _ e a.goes in
    let c = bound (guarded (may_step s u a.mid) (what a.mid b.mid)) _ e b.goes in
    let d = passed_guard (may_step s u a.mid) (what a.mid b.mid) c.mid c.is in
    record { frame = a.mid; instr = b.mid; did = c.mid; has = a.is; at = b.is; may = d.0; does = d.1 }

pub stepped : (r : Rules) (p : Listing) (s : State) (u : ℕ) (m : State) → next r p s (Step u) ≡ Some m → Stepped p s u (act r s u)
unfolding event
stepped r p s u m e = (let x = mapped (after s) _ m e in happened p s u (act r s u) x.0 x.1)

pub given : (r : Rules) (p : Listing) (s : State) (u : ℕ) (v : ℤ) (m : State) → next r p s (In u v) ≡ Some m → Stepped p s u (λ f i. input i v)
unfolding event
given r p s u v m e = (let x = mapped (after s) _ m e in happened p s u (λ f i. input i v) x.0 x.1)

-- who may step while t owns the section
equal : (u t : ℕ) → (u == t) ≡ true → u ≡ t
equal u t e = grind arith

the_owner : (o : Option ℕ) (t u : ℕ) → is_owner t o ≡ true → is_open_to u o ≡ true → u ≡ t
the_owner None t u a b = cc
the_owner (Some w) t u a b = sym (equal w u b) ∙ equal w t a

pub steps_alone : (s : State) (t u : ℕ) (f : Frame) → stays s t ≡ true → may_step s u f ≡ true → u ≡ t
steps_alone s t u f a b =
    the_owner s.section t u (both (is_owner t s.section) (is_none s.verdict) a).0 (both (f.started && not f.ended && is_none s.verdict) (is_open_to u s.section) b).1

-- Input takes an input and nothing else
no_mix : (s : State) (u : ℕ) (f : Frame) (i : Instr) (v : ℤ) (a b : Act) → act Sc s u f i ≡ Some a → input i v ≡ Some b → ⊥
unfolding act
no_mix s u f (Input l) v a b g h = cc
no_mix s u f i v a b g h = cc

pub not_both : (p : Listing) (s : State) (u : ℕ) (v : ℤ) (m n : State) → next Sc p s (Step u) ≡ Some m → next Sc p s (In u v) ≡ Some n → ⊥
not_both p s u v m n a b =
    let x = stepped Sc p s u m a in
    let y = given Sc p s u v n b in
    let f : x.frame ≡ y.frame = (let h = sym x.has ∙ y.has in cc) in
    let i : x.instr ≡ y.instr = (let h = sym x.at ∙ ap (λ g. fetched p u g.place) f ∙ y.at in cc) in
    no_mix s u x.frame x.instr v x.did y.did x.does (ap (λ j. input j v) i ∙ y.does)

module _ (p : Listing) (t : ℕ) where
  -- the run goes past the stretch
  pub record Past (a z : State) (ws : List (Option ℤ)) (es : List Entry) (rest : List ℤ) : Type 0 where
    pub later : List Entry
    pub split : es ≡ map (own t) ws ++ later
    pub left : inputs_of later ≡ rest
    pub goes : run Sc p a later ≡ Some z

  -- it ends on the way
  pub record Short (z : State) (ws : List (Option ℤ)) (es : List Entry) : Type 0 where
    pub fewer : length es < length ws
    pub open_still : stays z t ≡ true

  -- while t is in its section, an entry that leads on is the one of the stretch
  pub same_entry : (s m m' : State) (w : Option ℤ) (e : Entry) (vs us : List ℤ) → stays s t ≡ true → next Sc p s (own t w) ≡ Some m → next Sc p s e ≡ Some m' → values (w ∷ []) ++ vs ≡ inputs_of (e ∷ []) ++ us → e ≡ own t w
  unfolding event
  same_entry s m m' None (Step u) vs us st a b eq = let x = stepped Sc p s u m' b in ap Step (steps_alone s t u x.frame st x.may)
  same_entry s m m' (Some v) (Step u) vs us st a b eq =
      let x = stepped Sc p s u m' b in
      let o : u ≡ t = steps_alone s t u x.frame st x.may in
      absurd (not_both p s t v m' m (ap (λ w. next Sc p s (Step w)) (sym o) ∙ b) a)
  same_entry s m m' None (In u v) vs us st a b eq =
      let x = given Sc p s u v m' b in
      let o : u ≡ t = steps_alone s t u x.frame st x.may in
      absurd (not_both p s t v m m' a (ap (λ w. next Sc p s (In w v)) (sym o) ∙ b))
  same_entry s m m' (Some w) (In u v) vs us st a b eq =
      let x = given Sc p s u v m' b in
      let o : u ≡ t = steps_alone s t u x.frame st x.may in
      let same_value : v ≡ w = cc in
      ap (λ n. In n v) o ∙ ap (λ n. In t n) same_value
  same_entry s m m' w (Flush u) vs us st a b eq = cc
  same_entry s m m' w (FlushCell u c) vs us st a b eq = cc

  pub inputs_split : (e : Entry) (es : List Entry) → inputs_of (e ∷ es) ≡ inputs_of (e ∷ []) ++ inputs_of es
  inputs_split (Step u) es = refl
  inputs_split (In u v) es = refl
  inputs_split (Flush u) es = refl
  inputs_split (FlushCell u c) es = refl

  values_split : (w : Option ℤ) (ws : List (Option ℤ)) → values (w ∷ ws) ≡ values (w ∷ []) ++ values ws
  values_split None ws = refl
  values_split (Some v) ws = refl

  same_inputs : (w : Option ℤ) → inputs_of (own t w ∷ []) ≡ values (w ∷ [])
  same_inputs None = refl
  same_inputs (Some v) = refl

  cancel : (xs ys zs : List ℤ) → xs ++ ys ≡ xs ++ zs → ys ≡ zs
  cancel [] ys zs e = e
  cancel (x ∷ xs) ys zs e = cancel xs ys zs (let f : xs ++ ys ≡ xs ++ zs = cc in f)

  -- a stretch and any run from one state
  pub compare : (ws : List (Option ℤ)) (es : List Entry) (s a z : State) (rest : List ℤ) → inside p t s ws ≡ Some a → run Sc p s es ≡ Some z → values ws ++ rest ≡ inputs_of es → Past a z ws es rest ⊎ Short z ws es
  compare [] es s a z rest i r e = inl (record { later = es; split = refl; left = sym e; goes = ap (λ o. o >>= λ m. run Sc p m es) (sym i) ∙ r })
  compare (w ∷ ws) [] s a z rest i r e =
      let b = bound (guarded (stays s t) (next Sc p s (own t w))) (λ m. inside p t m ws) a i in
      let g = passed_guard (stays s t) (next Sc p s (own t w)) b.mid b.is in
      let here : s ≡ z = cc in
      inr (record { fewer = omega arith; open_still = ap (λ x. stays x t) (sym here) ∙ g.0 })
  compare (w ∷ ws) (e ∷ es) s a z rest i r eq =
      let b = bound (guarded (stays s t) (next Sc p s (own t w))) (λ m. inside p t m ws) a i in
      let g = passed_guard (stays s t) (next Sc p s (own t w)) b.mid b.is in
      let c = bound (next Sc p s e) (λ m. run Sc p m es) z r in
      let sum = sym (append_assoc (values (w ∷ [])) (values ws) rest) ∙ ap (λ vs. vs ++ rest) (sym (values_split w ws)) ∙ eq ∙ inputs_split e es in
      let one = same_entry s b.mid c.mid w e (values ws ++ rest) (inputs_of es) g.0 g.1 c.is sum in
      let mids : b.mid ≡ c.mid = (let h = sym g.1 ∙ ap (λ x. next Sc p s x) (sym one) ∙ c.is in cc) in
      let rests = cancel (values (w ∷ [])) (values ws ++ rest) (inputs_of es) (sum ∙ ap (λ x. inputs_of (x ∷ []) ++ inputs_of es) one ∙ ap (λ vs. vs ++ inputs_of es) (same_inputs w)) in
      go one (compare ws es b.mid a z rest b.goes (ap (λ m. run Sc p m es) mids ∙ c.goes) rests)
    where
      go : e ≡ own t w → Past a z ws es rest ⊎ Short z ws es → Past a z (w ∷ ws) (e ∷ es) rest ⊎ Short z (w ∷ ws) (e ∷ es)
      go one (inl x) = inl (record { later = x.later; split = ap (λ y. y ∷ es) one ∙ ap (λ ys. own t w ∷ ys) x.split; left = x.left; goes = x.goes })
      go one (inr x) = inr (record { fewer = let f = x.fewer in omega arith; open_still = x.open_still })

module _ (p : Listing) (t : ℕ) (S : State) (there : t < length S.threads) (dry : pending_of S t ≡ []) (code : List Instr) (is_code : (k : ℕ) → fetched p t k ≡ slice_get code k) where
  came : (k k' : ℕ) (l l' : View) (es : List Entry) (z : State) → l.inputs ≡ inputs_of es → run Sc p (stand t S k l) es ≡ Some z → Leads p t S k l k' l' → Comes p t S k' l' es z ⊎ (stays z t ≡ true)
  came k k' l l' es z e r a = go (compare p t a.steps es (stand t S k l) (stand t S k' l') z l'.inputs a.goes r (a.takes ∙ e))
    where
      go : Past p t (stand t S k' l') z a.steps es l'.inputs ⊎ Short p t z a.steps es → Comes p t S k' l' es z ⊎ (stays z t ≡ true)
      go (inl x) = inl (record { before = a.steps; later = x.later; split = x.split; left = x.left; goes = x.goes })
      go (inr x) = inr x.open_still

  -- nothing follows a verdict
  pub over : (s z : State) (a : ℕ) (es : List Entry) → s.verdict ≡ Some a → run Sc p s es ≡ Some z → s ≡ z
  unfolding event
  over s z a [] v r = cc
  over s z a (Step u ∷ es) v r =
      let b = bound (next Sc p s (Step u)) (λ m. run Sc p m es) z r in
      let x = stepped Sc p s u b.mid b.is in
      let c = (both (x.frame.started && not x.frame.ended) (is_none s.verdict) (both (x.frame.started && not x.frame.ended && is_none s.verdict) (is_open_to u s.section) x.may).0).1 in
      let d : is_none s.verdict ≡ false = rw v refl in absurd (let f = sym c ∙ d in cc)
  over s z a (In u w ∷ es) v r =
      let b = bound (next Sc p s (In u w)) (λ m. run Sc p m es) z r in
      let x = given Sc p s u w b.mid b.is in
      let c = (both (x.frame.started && not x.frame.ended) (is_none s.verdict) (both (x.frame.started && not x.frame.ended && is_none s.verdict) (is_open_to u s.section) x.may).0).1 in
      let d : is_none s.verdict ≡ false = rw v refl in absurd (let f = sym c ∙ d in cc)
  over s z a (Flush u ∷ es) v r = cc
  over s z a (FlushCell u c ∷ es) v r = cc

  pub stays_here : (k : ℕ) (l : View) → stays (stand t S k l) t ≡ true
  stays_here k l = let e : (t == t) ≡ true = grind arith in ap (λ b. b && true) e

  broke : (a k : ℕ) (l : View) (es : List Entry) (z : State) → l.inputs ≡ inputs_of es → run Sc p (stand t S k l) es ≡ Some z → Breaks p t S a k l → (z.verdict ≡ Some a) ⊎ (stays z t ≡ true)
  broke a k l es z e r x = go (compare p t x.leads.steps es (stand t S k l) (stand t S x.place x.sees) z x.sees.inputs x.leads.goes r (x.leads.takes ∙ e))
    where
      first : (later : List Entry) → inputs_of later ≡ x.sees.inputs → run Sc p (stand t S x.place x.sees) later ≡ Some z → (z.verdict ≡ Some a) ⊎ (stays z t ≡ true)
      first [] q g = let h : stand t S x.place x.sees ≡ z = cc in inr (ap (λ s. stays s t) (sym h) ∙ stays_here x.place x.sees)
      first (f ∷ later) q g =
          let b = bound (next Sc p (stand t S x.place x.sees) f) (λ m. run Sc p m later) z g in
          let same = same_entry p t (stand t S x.place x.sees) x.last b.mid None f x.sees.inputs (inputs_of later) (stays_here x.place x.sees) x.fails b.is (sym q ∙ inputs_split p t f later) in
          let mids : x.last ≡ b.mid = (let h = sym x.fails ∙ ap (λ y. next Sc p (stand t S x.place x.sees) y) (sym same) ∙ b.is in cc) in
          let end = over b.mid z a later (ap (λ (s : State). s.verdict) (sym mids) ∙ x.verdict) b.goes in
          inl (ap (λ (s : State). s.verdict) (sym end ∙ sym mids) ∙ x.verdict)

      go : Past p t (stand t S x.place x.sees) z x.leads.steps es x.sees.inputs ⊎ Short p t z x.leads.steps es → (z.verdict ≡ Some a) ⊎ (stays z t ≡ true)
      go (inl y) = first y.later y.left y.goes
      go (inr y) = inr y.open_still

  pub length-own : (ws : List (Option ℤ)) → length (map (own t) ws) ≡ length ws
  length-own [] = refl
  length-own (w ∷ ws) = let h = length-own ws in omega arith

  stopped : (n k : ℕ) (l : View) (es : List Entry) (z : State) → length es < n → l.inputs ≡ inputs_of es → run Sc p (stand t S k l) es ≡ Some z → Stops p t S n k l → stays z t ≡ true
  unfolding event
  stopped n k l es z few e r x = go x.why (compare p t x.leads.steps es (stand t S k l) (stand t S x.place x.sees) z x.sees.inputs x.leads.goes r (x.leads.takes ∙ e))
    where
      end : (later : List Entry) → inputs_of later ≡ x.sees.inputs → run Sc p (stand t S x.place x.sees) later ≡ Some z → Ends p t (stand t S x.place x.sees) x.sees.inputs → stays z t ≡ true
      end [] q g why = let h : stand t S x.place x.sees ≡ z = cc in ap (λ s. stays s t) (sym h) ∙ stays_here x.place x.sees
      end (Step u ∷ later) q g why =
          let b = bound (next Sc p (stand t S x.place x.sees) (Step u)) (λ m. run Sc p m later) z g in
          let y = stepped Sc p (stand t S x.place x.sees) u b.mid b.is in
          let o : u ≡ t = steps_alone (stand t S x.place x.sees) t u y.frame (stays_here x.place x.sees) y.may in
          absurd (why.by None b.mid tt (ap (λ w. next Sc p (stand t S x.place x.sees) (Step w)) (sym o) ∙ b.is))
      end (In u v ∷ later) q g why =
          let b = bound (next Sc p (stand t S x.place x.sees) (In u v)) (λ m. run Sc p m later) z g in
          let y = given Sc p (stand t S x.place x.sees) u v b.mid b.is in
          let o : u ≡ t = steps_alone (stand t S x.place x.sees) t u y.frame (stays_here x.place x.sees) y.may in
          absurd (why.by (Some v) b.mid (inputs_of later, sym q) (ap (λ w. next Sc p (stand t S x.place x.sees) (In w v)) (sym o) ∙ b.is))
      end (Flush u ∷ later) q g why = cc
      end (FlushCell u c ∷ later) q g why = cc

      go : (n ≤ length x.leads.steps) ⊎ Ends p t (stand t S x.place x.sees) x.sees.inputs → Past p t (stand t S x.place x.sees) z x.leads.steps es x.sees.inputs ⊎ Short p t z x.leads.steps es → stays z t ≡ true
      go why (inr y) = y.open_still
      go (inl le) (inl y) = absurd (let e1 = ap length y.split ∙ length-append (map (own t) x.leads.steps) y.later in omega (arith, length-own x.leads.steps))
      go (inr why) (inl y) = end y.later y.left y.goes why

  meets : (c : Flow) (n k : ℕ) (l : View) (ways : Ways) (es : List Entry) (z : State) (o : Outcome) → length es < n → l.inputs ≡ inputs_of es → run Sc p (stand t S k l) es ≡ Some z → RunsInside p t S ways n k l (k + size c) o → Meets p t S (k + size c) ways es z o
  meets c n k l ways es z (Done m) few e r a = came k (k + size c) l m es z e r a
  meets c n k l ways es z (Left j m) few e r a = came k (way ways j) l m es z e r a
  meets c n k l ways es z (Failed b) few e r a = broke b k l es z e r a
  meets c n k l ways es z Halted few e r a = stopped n k l es z few e r a
  meets c n k l ways es z Other few e r a = tt

  -- THE LAW, for any run
  pub flow_meets : (c : Flow) (n k : ℕ) (l : View) (ways : Ways) (es : List Entry) (z : State) → Stands code ways c k → length es < n → l.inputs ≡ inputs_of es → run Sc p (stand t S k l) es ≡ Some z → Meets p t S (k + size c) ways es z (meaning meant c n l)
  flow_meets c n k l ways es z h few e r = meets c n k l ways es z (meaning meant c n l) few e r (runs_inside p t S there dry code is_code c ways n k l h)
