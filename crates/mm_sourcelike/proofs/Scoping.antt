-- What names stand for where a text is accepted, and what they stand for where it is flattened.
use Rattle.std.proofs.Common.{◌≡◌, ℕ, ℤ, ◌<◌, ◌^◌, nat_eq, Bool, true, false, cond, if◌then◌else◌, List, [], ◌∷◌, ◌++◌, length, reverse, refl, ◌∙◌, ap, Option, Some, None, codes}
use Rattle.std.specs.List.{AllByRecursion, slice_get, find, starts_with}
use Rattle.std.specs.Option.{option_map}
use Rattle.std.specs.Str.{bytes_eq}
use Rattle.std.proofs.lemmas.List.{reverse-append}
use Rattle.mm_goto.specs.declared.ident.At.{At}
use Rattle.mm_goto.specs.declared.ident.Ident.{Ident}
use Rattle.mm_goto.specs.declared.program.Thread.{Thread}
use Rattle.mm_goto.specs.Listing.{Listing}
use Rattle.mm_goto.specs.Valid.{IsRow}
use Rattle.mm_tree.specs.declared.item.Gives.{Gives}
use Rattle.mm_tree.specs.declared.item.Global.{Global}
use Rattle.mm_tree.specs.declared.item.Item.{Item}
use Rattle.mm_tree.specs.declared.item.Item.TheVariants as item
use Rattle.mm_tree.specs.declared.item.Param.{Param}
use Rattle.mm_tree.specs.declared.stmt.Stmt.{Stmt}
use Rattle.mm_flow.specs.declared.names.Named.{Named}
use Rattle.mm_flow.specs.declared.names.Spot.{Spot}
use Rattle.mm_flow.specs.Scopes.{named, local_of, spot_of, index_of}
use Rattle.mm_flow.specs.Programs.{globals_in, natural}
use Rattle.mm_scope.specs.declared.table.Meaning.{Meaning}
use Rattle.mm_scope.specs.declared.table.Meaning.TheVariants as meaning
use Rattle.mm_scope.specs.Notes.{Note, a_fault, a_call, a_use, an_assertion}
use Rattle.mm_scope.specs.Scopes.{Names, Table, Named as NamedAs, named_as, found, is_named, meaning_in}
use Rattle.mm_sourcelike.proofs.Cells.{row_of}

-- ---- notes

-- there is no fault among them
abbrev pub NoFault : List Note → Type 0
NoFault [] = Unit {0}
NoFault (a_fault f ∷ ns) = ⊥
NoFault (a_call c ∷ ns) = NoFault ns
NoFault (a_use u ∷ ns) = NoFault ns
NoFault (an_assertion ∷ ns) = NoFault ns

pub fault_left : (xs ys : List Note) → NoFault (xs ++ ys) → NoFault xs
fault_left [] ys h = tt
fault_left (a_fault f ∷ xs) ys h = h
fault_left (a_call c ∷ xs) ys h = fault_left xs ys h
fault_left (a_use u ∷ xs) ys h = fault_left xs ys h
fault_left (an_assertion ∷ xs) ys h = fault_left xs ys h

pub fault_right : (xs ys : List Note) → NoFault (xs ++ ys) → NoFault ys
fault_right [] ys h = h
fault_right (a_fault f ∷ xs) ys h = absurd h
fault_right (a_call c ∷ xs) ys h = fault_right xs ys h
fault_right (a_use u ∷ xs) ys h = fault_right xs ys h
fault_right (an_assertion ∷ xs) ys h = fault_right xs ys h

-- ---- what a name stands for

pub record HasSpot (spots : List Spot) (x : Ident) : Type 0 where
  pub spot : Spot
  pub is : spot_of spots x ≡ Some spot

-- a global of the text has the name, and is a pointer and an array as this says
pub record IsGlobalOf (items : List Item) (x : Ident) (pointer : Bool) (len : Option ℤ) : Type 0 where
  pub place : ℕ
  pub global : Global
  pub is : slice_get (globals_in items) place ≡ Some global
  pub name : global.name ≡ x
  pub pointer_is : global.pointer ≡ pointer
  pub len_is : global.len ≡ len

pub record HasVariable (spots : List Spot) (items : List Item) (x : Ident) (pointer : Bool) : Type 0 where
  pub spot : Spot
  pub is : spot_of spots x ≡ Some spot
  pub global : IsGlobalOf items x pointer None

pub record HasArray (spots : List Spot) (items : List Item) (x : Ident) (n : ℤ) : Type 0 where
  pub spot : Spot
  pub is : spot_of spots x ≡ Some spot
  pub len : spot.len ≡ natural n
  pub pointer : Bool
  pub global : IsGlobalOf items x pointer (Some n)

pub record HasMutex (mutexes : List Ident) (x : Ident) : Type 0 where
  pub index : ℕ
  pub is : index_of mutexes x ≡ Some index

pub record HasFunction (items : List Item) (x : Ident) (k : ℕ) : Type 0 where
  pub at : At
  pub gives : Gives
  pub params : List Param
  pub body : List Stmt
  pub is : slice_get items k ≡ Some (item.Function at gives x params body)

pub record HasLocal (names : List Named) (x : Ident) : Type 0 where
  pub local : ℕ
  pub is : local_of names x ≡ Some local

-- what globals, mutexes and functions are, where a global name has this meaning
abbrev pub Means : List Spot → List Ident → List Item → Ident → Meaning → Type 0
Means spots mutexes items x meaning.Shared = HasVariable spots items x false
Means spots mutexes items x meaning.Pointer = HasVariable spots items x true
Means spots mutexes items x (meaning.Array n) = HasArray spots items x n
Means spots mutexes items x meaning.Mutex = HasMutex mutexes x
Means spots mutexes items x meaning.SharedThread = Unit {0}
Means spots mutexes items x (meaning.Function k) = HasFunction items x k
Means spots mutexes items x (meaning.Ahead k) = HasFunction items x k
Means spots mutexes items x meaning.Input = starts_with nat_eq x (codes "nondet_") ≡ true
Means spots mutexes items x meaning.Int = ⊥
Means spots mutexes items x meaning.Thread = ⊥
Means spots mutexes items x meaning.Handed = ⊥
Means spots mutexes items x meaning.Label = ⊥
Means spots mutexes items x meaning.Unready = ⊥

-- and what locals are, where a local name has it
abbrev pub Stands : List Named → Ident → Meaning → Type 0
Stands names x meaning.Int = HasLocal names x
Stands names x meaning.Pointer = HasLocal names x
Stands names x meaning.Thread = Unit {0}
Stands names x meaning.Handed = Unit {0}
Stands names x meaning.Unready = Unit {0}
Stands names x meaning.Shared = ⊥
Stands names x (meaning.Array n) = ⊥
Stands names x meaning.Mutex = ⊥
Stands names x meaning.SharedThread = ⊥
Stands names x (meaning.Function k) = ⊥
Stands names x (meaning.Ahead k) = ⊥
Stands names x meaning.Input = ⊥
Stands names x meaning.Label = ⊥

-- each local name stands for what it means
pub record Sees (locals : List NamedAs) (names : List Named) : Type 0 where
  pub each : (x : Ident) (m : Meaning) → found locals x ≡ Some m → Stands names x m

pub record IsSound (spots : List Spot) (mutexes : List Ident) (items : List Item) (table : Table) : Type 0 where
  pub each : (x : Ident) (m : Meaning) → meaning_in table x ≡ Some m → Means spots mutexes items x m

-- the locals of these names are the thread's
pub record AreLocals (t : Thread) (names : List Named) : Type 0 where
  pub each : (x : Ident) (l : ℕ) → local_of names x ≡ Some l → l < t.locals

-- where expressions are read
pub record Reads (p : Listing) (t : Thread) (items : List Item) (spots : List Spot) (named : List Named) (names : Names) : Type 0 where
  pub few : length p.cells < 2 ^ 31
  pub rows : AllByRecursion (λ s. IsRow p.cells (row_of s)) spots
  pub sees : Sees names.locals named
  pub locals : AreLocals t named
  pub globals : IsSound spots p.mutexes items names.globals

-- ---- one more name

pub found_push : (locals : List NamedAs) (x : Ident) (m : Meaning) (y : Ident) → found (locals ++ named_as x m ∷ []) y ≡ (if bytes_eq x y then Some m else found locals y)
found_push locals x m y = ap (λ ns. option_map (λ n. n.meaning) (find (is_named y) ns)) (reverse-append locals (named_as x m ∷ [])) ∙ by (bytes_eq x y)
  where
    by : (b : Bool) → option_map (λ n. n.meaning) (cond b (Some (named_as x m)) (find (is_named y) (reverse locals))) ≡ (if b then Some m else found locals y)
    by true = refl
    by false = refl

pub local_push : (names : List Named) (x : Ident) (l : ℕ) (y : Ident) → local_of (names ++ named x l ∷ []) y ≡ (if bytes_eq x y then Some l else local_of names y)
local_push names x l y = ap (λ ns. option_map (λ n. n.number) (find (λ n. bytes_eq n.name y) ns)) (reverse-append names (named x l ∷ [])) ∙ by (bytes_eq x y)
  where
    by : (b : Bool) → option_map (λ n. n.number) (cond b (Some (named x l)) (find (λ n. bytes_eq n.name y) (reverse names))) ≡ (if b then Some l else local_of names y)
    by true = refl
    by false = refl

pub same_some : {A : Type 0} (x y : A) → Some x ≡ Some y → x ≡ y
same_some x y e = cc

pub none_is_not : {A : Type 0} (x : A) → None ≡ Some x → ⊥
none_is_not x e = cc
