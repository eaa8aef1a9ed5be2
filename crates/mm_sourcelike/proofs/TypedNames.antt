-- What a name that is accepted stands for has the type that it is judged to have.
use Rattle.std.proofs.Common.{◌≡◌, ℕ, ℤ, Bool, true, false, is_some, if◌then◌else◌, List, [], ◌∷◌, ◌++◌, refl, ◌∙◌, sym, ap, subst, Option, Some, None}
use Rattle.std.specs.List.{slice_get}
use Rattle.std.specs.Option.{option_or}
use Rattle.std.specs.Str.{bytes_eq}
use Rattle.std.proofs.lemmas.List.{append-nil}
use Rattle.mm_goto.specs.declared.ident.At.{At}
use Rattle.mm_goto.specs.declared.ident.Ident.{Ident}
use Rattle.mm_goto.specs.Listing.{Listing}
use Rattle.mm_tree.specs.declared.item.Global.{Global}
use Rattle.mm_tree.specs.declared.item.Item.{Item}
use Rattle.mm_flow.specs.declared.names.Named.{Named}
use Rattle.mm_flow.specs.declared.names.Spot.{Spot}
use Rattle.mm_flow.specs.Expressions.{the_spot}
use Rattle.mm_flow.specs.Programs.{globals_in}
use Rattle.mm_flow.specs.Scopes.{named, local_of, spot_of}
use Rattle.mm_scope.specs.declared.expression.Sort.{Sort}
use Rattle.mm_scope.specs.declared.expression.Sort.TheVariants as sort
use Rattle.mm_scope.specs.declared.operand.Kind.TheVariants.{Int, Pointer}
use Rattle.mm_scope.specs.declared.operand.Operand.{Operand}
use Rattle.mm_scope.specs.declared.table.Meaning.{Meaning}
use Rattle.mm_scope.specs.declared.table.Meaning.TheVariants as meaning
use Rattle.mm_scope.specs.Declarations.{meaning_of_local}
use Rattle.mm_scope.specs.Expressions.{judged_meaning, named as judged_name}
use Rattle.mm_scope.specs.Scopes.{Names, Named as NamedAs, named_as, found, meaning_in}
use Rattle.mm_scope.specs.Values.{kind_if_pointer}
use Rattle.mm_sourcelike.proofs.Cells.{row_of}
use Rattle.mm_sourcelike.proofs.Judging.{Known, is_pointer}
use Rattle.mm_sourcelike.proofs.Scoping.{NoFault, IsGlobalOf, IsSound, Means, found_push, local_push, same_some}
use Rattle.mm_sourcelike.proofs.Tables.{true_is_not}
use Rattle.mm_sourcelike.proofs.TypedPures.{SingleFits, ArrayFits}

-- ---- globals

-- the cells at a spot are a single one of this type, or a whole array of ints
abbrev pub SpotFits : Listing → Spot → Bool → Option ℤ → Type 0
SpotFits p s pointer None = SingleFits p s.first pointer
SpotFits p s pointer (Some n) = ArrayFits p (row_of s)

-- each global has cells of its type
pub record GlobalsFit (p : Listing) (items : List Item) (spots : List Spot) : Type 0 where
  pub each : (k : ℕ) (g : Global) → slice_get (globals_in items) k ≡ Some g → SpotFits p (the_spot (spot_of spots g.name)) g.pointer g.len

global_fits : (p : Listing) (items : List Item) (spots : List Spot) (x : Ident) (b : Bool) (len : Option ℤ) → GlobalsFit p items spots → IsGlobalOf items x b len → SpotFits p (the_spot (spot_of spots x)) b len
global_fits p items spots x b len f h =
    subst (λ l. SpotFits p (the_spot (spot_of spots x)) b l) h.len_is
    (subst (λ c. SpotFits p (the_spot (spot_of spots x)) c h.global.len) h.pointer_is
    (subst (λ y. SpotFits p (the_spot (spot_of spots y)) h.global.pointer h.global.len) h.name (f.each h.place h.global h.is)))

-- ---- locals

pub record IsLocal (q : ℕ → Bool) (names : List Named) (x : Ident) (b : Bool) : Type 0 where
  pub local : ℕ
  pub is : local_of names x ≡ Some local
  pub type : q local ≡ b

-- what locals are, where a local name has this meaning, by whether they hold pointers
abbrev pub StandsAs : (ℕ → Bool) → List Named → Ident → Meaning → Type 0
StandsAs q names x meaning.Int = IsLocal q names x false
StandsAs q names x meaning.Pointer = IsLocal q names x true
StandsAs q names x meaning.Thread = Unit {0}
StandsAs q names x meaning.Handed = Unit {0}
StandsAs q names x meaning.Unready = Unit {0}
StandsAs q names x meaning.Shared = ⊥
StandsAs q names x (meaning.Array n) = ⊥
StandsAs q names x meaning.Mutex = ⊥
StandsAs q names x meaning.SharedThread = ⊥
StandsAs q names x (meaning.Function k) = ⊥
StandsAs q names x (meaning.Ahead k) = ⊥
StandsAs q names x meaning.Input = ⊥
StandsAs q names x meaning.Label = ⊥

-- each local name stands for a local of its type, and no other name stands for one
pub record SeesTypes (q : ℕ → Bool) (locals : List NamedAs) (names : List Named) : Type 0 where
  pub each : (x : Ident) (m : Meaning) → found locals x ≡ Some m → StandsAs q names x m
  pub known : (x : Ident) (l : ℕ) → local_of names x ≡ Some l → is_some (found locals x) ≡ true

pub types_nil : (q : ℕ → Bool) (locals : List NamedAs) (ns : List Named) → SeesTypes q locals ns → SeesTypes q (locals ++ []) ns
types_nil q locals ns h = subst (λ (ls : List NamedAs). SeesTypes q ls ns) (sym (append-nil locals)) h

stands_by : (b : Bool) (q : ℕ → Bool) (ns : List Named) (m : Meaning) (old : Option Meaning) (y : Ident) (r : Meaning) → StandsAs q ns y m → ((s : Meaning) → old ≡ Some s → StandsAs q ns y s) → (if b then Some m else old) ≡ Some r → StandsAs q ns y r
stands_by true q ns m old y r h g e = subst (StandsAs q ns y) (same_some m r e) h
stands_by false q ns m old y r h g e = g r e

some_of : (b : Bool) (m : Meaning) (old : Option Meaning) → (b ≡ false → is_some old ≡ true) → is_some (if b then Some m else old) ≡ true
some_of true m old h = refl
some_of false m old h = h refl

-- a name that is no variable is declared
pub types_thread : (q : ℕ → Bool) (locals : List NamedAs) (ns : List Named) (x : Ident) (m : Meaning) → ((ms : List Named) (y : Ident) → StandsAs q ms y m) → SeesTypes q locals ns → SeesTypes q (locals ++ named_as x m ∷ []) ns
types_thread q locals ns x m v h = record {
  each = λ y r e. stands_by (bytes_eq x y) q ns m (found locals y) y r (v ns y) (h.each y) (sym (found_push locals x m y) ∙ e);
  known = λ y l e. ap is_some (found_push locals x m y) ∙ some_of (bytes_eq x y) m (found locals y) (λ f. h.known y l e);
}

-- what a name stands for is not changed by another name
other_local : (q : ℕ → Bool) (ns : List Named) (x y : Ident) (l : ℕ) (b : Bool) → bytes_eq x y ≡ false → IsLocal q ns y b → IsLocal q (ns ++ named x l ∷ []) y b
other_local q ns x y l b e h = record { local = h.local; is = local_push ns x l y ∙ (ap (λ c. if c then Some l else local_of ns y) e ∙ h.is); type = h.type }

other_stands : (q : ℕ → Bool) (ns : List Named) (x y : Ident) (l : ℕ) (m : Meaning) → bytes_eq x y ≡ false → StandsAs q ns y m → StandsAs q (ns ++ named x l ∷ []) y m
other_stands q ns x y l meaning.Int e h = other_local q ns x y l false e h
other_stands q ns x y l meaning.Pointer e h = other_local q ns x y l true e h
other_stands q ns x y l meaning.Thread e h = tt
other_stands q ns x y l meaning.Handed e h = tt
other_stands q ns x y l meaning.Unready e h = tt
other_stands q ns x y l meaning.Shared e h = h
other_stands q ns x y l (meaning.Array n) e h = h
other_stands q ns x y l meaning.Mutex e h = h
other_stands q ns x y l meaning.SharedThread e h = h
other_stands q ns x y l (meaning.Function k) e h = h
other_stands q ns x y l (meaning.Ahead k) e h = h
other_stands q ns x y l meaning.Input e h = h
other_stands q ns x y l meaning.Label e h = h

pub stands_as : (q : ℕ → Bool) (ns : List Named) (x : Ident) (l : ℕ) (b : Bool) (y : Ident) → q l ≡ b → bytes_eq x y ≡ true → StandsAs q (ns ++ named x l ∷ []) y (meaning_of_local b)
stands_as q ns x l true y t e = record { local = l; is = local_push ns x l y ∙ ap (λ c. if c then Some l else local_of ns y) e; type = t }
stands_as q ns x l false y t e = record { local = l; is = local_push ns x l y ∙ ap (λ c. if c then Some l else local_of ns y) e; type = t }

-- a variable is declared, and its local too
pub types_local : (q : ℕ → Bool) (locals : List NamedAs) (ns : List Named) (x : Ident) (l : ℕ) (m : Meaning) → ((y : Ident) → bytes_eq x y ≡ true → StandsAs q (ns ++ named x l ∷ []) y m) → SeesTypes q locals ns → SeesTypes q (locals ++ named_as x m ∷ []) (ns ++ named x l ∷ [])
types_local q locals ns x l m v h = record {
  each = λ y r e. by y (bytes_eq x y) refl r (sym (found_push locals x m y) ∙ e);
  known = λ y k e. ap is_some (found_push locals x m y) ∙ some_of (bytes_eq x y) m (found locals y) (λ f. h.known y k (sym (local_push ns x l y ∙ ap (λ c. if c then Some l else local_of ns y) f) ∙ e));
}
  where
    by : (y : Ident) (b : Bool) → bytes_eq x y ≡ b → (r : Meaning) → (if bytes_eq x y then Some m else found locals y) ≡ Some r → StandsAs q (ns ++ named x l ∷ []) y r
    by y true e r f = subst (StandsAs q (ns ++ named x l ∷ []) y) (same_some m r (sym (ap (λ d. if d then Some m else found locals y) e) ∙ f)) (v y e)
    by y false e r f = other_stands q ns x y l r e (h.each y r (sym (ap (λ d. if d then Some m else found locals y) e) ∙ f))

-- ---- names

-- what a variable is: a local of this type, or a global's only cell
pub data VariableIs (p : Listing) (spots : List Spot) (q : ℕ → Bool) (names : List Named) (x : Ident) (b : Bool) : Type 0 where
  a_local : IsLocal q names x b → VariableIs p spots q names x b
  a_global : local_of names x ≡ None → SingleFits p (the_spot (spot_of spots x)).first b → VariableIs p spots q names x b

pub record IsVariable (p : Listing) (spots : List Spot) (q : ℕ → Bool) (names : List Named) (x : Ident) (o : Operand) : Type 0 where
  pub place : VariableIs p spots q names x (is_pointer o.kind)
  pub kind : o.kind ≡ Some (kind_if_pointer (is_pointer o.kind))
  pub zero : o.zero ≡ false

module _ (p : Listing) (items : List Item) (spots : List Spot) (fit : GlobalsFit p items spots) (q : ℕ → Bool) (names : List Named) (x : Ident) (at : At) where
  abbrev judged : Sort → Meaning → Operand
  judged s m = (judged_meaning s at (Some m)).operand

  variable_local : (m : Meaning) → StandsAs q names x m → NoFault (judged_meaning sort.Variable at (Some m)).notes → IsVariable p spots q names x (judged sort.Variable m)
  variable_local meaning.Int s f = record { place = a_local s; kind = refl; zero = refl }
  variable_local meaning.Pointer s f = record { place = a_local s; kind = refl; zero = refl }
  variable_local meaning.Thread s f = absurd f
  variable_local meaning.Handed s f = absurd f
  variable_local meaning.Unready s f = absurd f
  variable_local meaning.Shared s f = absurd s
  variable_local (meaning.Array n) s f = absurd s
  variable_local meaning.Mutex s f = absurd s
  variable_local meaning.SharedThread s f = absurd s
  variable_local (meaning.Function k) s f = absurd s
  variable_local (meaning.Ahead k) s f = absurd s
  variable_local meaning.Input s f = absurd s
  variable_local meaning.Label s f = absurd s

  variable_global : (m : Meaning) → local_of names x ≡ None → Means spots p.mutexes items x m → NoFault (judged_meaning sort.Variable at (Some m)).notes → IsVariable p spots q names x (judged sort.Variable m)
  variable_global meaning.Shared e s f = record { place = a_global e (global_fits p items spots x false None fit s.global); kind = refl; zero = refl }
  variable_global meaning.Pointer e s f = record { place = a_global e (global_fits p items spots x true None fit s.global); kind = refl; zero = refl }
  variable_global meaning.Int e s f = absurd s
  variable_global meaning.Thread e s f = absurd s
  variable_global meaning.Handed e s f = absurd s
  variable_global meaning.Unready e s f = absurd s
  variable_global (meaning.Array n) e s f = absurd f
  variable_global meaning.Mutex e s f = absurd f
  variable_global meaning.SharedThread e s f = absurd f
  variable_global (meaning.Function k) e s f = absurd f
  variable_global (meaning.Ahead k) e s f = absurd f
  variable_global meaning.Input e s f = absurd f
  variable_global meaning.Label e s f = absurd s

  abbrev ArrayIs : Operand → Type 0
  ArrayIs o = Known o.kind × ArrayFits p (row_of (the_spot (spot_of spots x)))

  array_local : (m : Meaning) → StandsAs q names x m → NoFault (judged_meaning sort.Array at (Some m)).notes → ⊥
  array_local meaning.Int s f = f
  array_local meaning.Pointer s f = f
  array_local meaning.Thread s f = f
  array_local meaning.Handed s f = f
  array_local meaning.Unready s f = f
  array_local meaning.Shared s f = s
  array_local (meaning.Array n) s f = s
  array_local meaning.Mutex s f = s
  array_local meaning.SharedThread s f = s
  array_local (meaning.Function k) s f = s
  array_local (meaning.Ahead k) s f = s
  array_local meaning.Input s f = s
  array_local meaning.Label s f = s

  array_global : (m : Meaning) → Means spots p.mutexes items x m → NoFault (judged_meaning sort.Array at (Some m)).notes → ArrayIs (judged sort.Array m)
  array_global (meaning.Array n) s f = (tt, global_fits p items spots x s.pointer (Some n) fit s.global)
  array_global meaning.Shared s f = absurd f
  array_global meaning.Pointer s f = absurd f
  array_global meaning.Int s f = absurd s
  array_global meaning.Thread s f = absurd s
  array_global meaning.Handed s f = absurd s
  array_global meaning.Unready s f = absurd s
  array_global meaning.Mutex s f = absurd f
  array_global meaning.SharedThread s f = absurd f
  array_global (meaning.Function k) s f = absurd f
  array_global (meaning.Ahead k) s f = absurd f
  array_global meaning.Input s f = absurd f
  array_global meaning.Label s f = absurd s

  abbrev SharedIs : Operand → Type 0
  SharedIs o = Known o.kind × SingleFits p (the_spot (spot_of spots x)).first false

  shared_local : (m : Meaning) → StandsAs q names x m → NoFault (judged_meaning sort.Shared at (Some m)).notes → ⊥
  shared_local meaning.Int s f = f
  shared_local meaning.Pointer s f = f
  shared_local meaning.Thread s f = f
  shared_local meaning.Handed s f = f
  shared_local meaning.Unready s f = f
  shared_local meaning.Shared s f = s
  shared_local (meaning.Array n) s f = s
  shared_local meaning.Mutex s f = s
  shared_local meaning.SharedThread s f = s
  shared_local (meaning.Function k) s f = s
  shared_local (meaning.Ahead k) s f = s
  shared_local meaning.Input s f = s
  shared_local meaning.Label s f = s

  shared_global : (m : Meaning) → Means spots p.mutexes items x m → NoFault (judged_meaning sort.Shared at (Some m)).notes → SharedIs (judged sort.Shared m)
  shared_global meaning.Shared s f = (tt, global_fits p items spots x false None fit s.global)
  shared_global meaning.Pointer s f = absurd f
  shared_global (meaning.Array n) s f = absurd f
  shared_global meaning.Int s f = absurd s
  shared_global meaning.Thread s f = absurd s
  shared_global meaning.Handed s f = absurd s
  shared_global meaning.Unready s f = absurd s
  shared_global meaning.Mutex s f = absurd f
  shared_global meaning.SharedThread s f = absurd f
  shared_global (meaning.Function k) s f = absurd f
  shared_global (meaning.Ahead k) s f = absurd f
  shared_global meaning.Input s f = absurd f
  shared_global meaning.Label s f = absurd s

  module _ (ns : Names) (sound : IsSound spots p.mutexes items ns.globals) (sees : SeesTypes q ns.locals names) where
    abbrev Seen : Option Meaning → Type 0
    Seen a = ((m : Meaning) → a ≡ Some m → StandsAs q names x m) × ((l : ℕ) → local_of names x ≡ Some l → is_some a ≡ true)

    abbrev Meant : Option Meaning → Type 0
    Meant b = (m : Meaning) → b ≡ Some m → Means spots p.mutexes items x m

    no_local : ((l : ℕ) → local_of names x ≡ Some l → false ≡ true) → local_of names x ≡ None
    no_local h = by (local_of names x) refl
      where
        by : (o : Option ℕ) → local_of names x ≡ o → o ≡ None
        by None e = refl
        by (Some l) e = true_is_not (sym (h l e))

    pub variable_is : NoFault (judged_name sort.Variable ns at x).notes → IsVariable p spots q names x (judged_name sort.Variable ns at x).operand
    unfolding judged_name
    variable_is f = by (found ns.locals x) (meaning_in ns.globals x) (sees.each x, sees.known x) (sound.each x) f
      where
        by : (a b : Option Meaning) → Seen a → Meant b → NoFault (judged_meaning sort.Variable at (option_or a b)).notes → IsVariable p spots q names x (judged_meaning sort.Variable at (option_or a b)).operand
        by (Some m) b s g h = variable_local m (s.0 m refl) h
        by None (Some m) s g h = variable_global m (no_local s.1) (g m refl) h
        by None None s g h = absurd h

    pub array_is : NoFault (judged_name sort.Array ns at x).notes → ArrayIs (judged_name sort.Array ns at x).operand
    unfolding judged_name
    array_is f = by (found ns.locals x) (meaning_in ns.globals x) (sees.each x) (sound.each x) f
      where
        by : (a b : Option Meaning) → ((m : Meaning) → a ≡ Some m → StandsAs q names x m) → Meant b → NoFault (judged_meaning sort.Array at (option_or a b)).notes → ArrayIs (judged_meaning sort.Array at (option_or a b)).operand
        by (Some m) b s g h = absurd (array_local m (s m refl) h)
        by None (Some m) s g h = array_global m (g m refl) h
        by None None s g h = absurd h

    pub shared_is : NoFault (judged_name sort.Shared ns at x).notes → SharedIs (judged_name sort.Shared ns at x).operand
    unfolding judged_name
    shared_is f = by (found ns.locals x) (meaning_in ns.globals x) (sees.each x) (sound.each x) f
      where
        by : (a b : Option Meaning) → ((m : Meaning) → a ≡ Some m → StandsAs q names x m) → Meant b → NoFault (judged_meaning sort.Shared at (option_or a b)).notes → SharedIs (judged_meaning sort.Shared at (option_or a b)).operand
        by (Some m) b s g h = absurd (shared_local m (s m refl) h)
        by None (Some m) s g h = shared_global m (g m refl) h
        by None None s g h = absurd h
