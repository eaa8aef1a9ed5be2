-- Steps that may fail, one after another.
use Rattle.std.proofs.Common.{◌≡◌, Option, Some, None, option_map, refl, Bool, true, false, IfSome, if◌then◌else◌, subst}
use Rattle.std.specs.Prelude.{ℕ, ℤ, not, is_none, ◌&&◌}
use Rattle.mm_sched.specs.declared.entry.How.{How}
use Rattle.mm_sched.specs.declared.entry.How.TheVariants.{AtOnce, Delayed, NotEnabled}
use Rattle.mm_sched.specs.declared.entry.Act.{Act}
use Rattle.mm_sched.specs.declared.entry.Act.TheVariants.{Pushes, Puts, Takes, Gives, Starts, Joins}
use Rattle.mm_sched.specs.Guarded.{◌>>=◌, guarded}
use Rattle.mm_sched.specs.State.{Frame}
use Rattle.mm_sched.specs.Event.{begun, is_owner, joined, locked, stored, unlocked}

pub bind-assoc : {A B C : Type 0} (o : Option A) (f : A → Option B) (g : B → Option C) → ((o >>= f) >>= g) ≡ (o >>= λ a. (f a >>= g))
bind-assoc None f g = refl
bind-assoc (Some a) f g = refl

-- two ways to go on that are the same
pub bind-same : {A B : Type 0} (o : Option A) (f g : A → Option B) → ((a : A) → f a ≡ g a) → (o >>= f) ≡ (o >>= g)
bind-same None f g h = refl
bind-same (Some a) f g h = h a

-- ---- what holds after a step that is made

module _ {A : Type 0} (P : A → Type 0) where
  pub guarded-if : (b : Bool) (o : Option A) → IfSome o P → IfSome (guarded b o) P
  guarded-if true o h = h
  guarded-if false o h = tt

  pub bind-if : {B : Type 0} (o : Option B) (f : B → Option A) → ((b : B) → IfSome (f b) P) → IfSome (o >>= f) P
  bind-if None f h = tt
  bind-if (Some b) f h = h b

  -- with a fact of the value in the middle
  pub bind-with : {B : Type 0} (Q : B → Type 0) (o : Option B) (f : B → Option A) → IfSome o Q → ((b : B) → Q b → IfSome (f b) P) → IfSome (o >>= f) P
  bind-with Q None f q h = tt
  bind-with Q (Some b) f q h = h b q

  pub map-if : {B : Type 0} (f : B → A) (o : Option B) → IfSome o (λ b. P (f b)) → IfSome (option_map f o) P
  map-if f None h = tt
  map-if f (Some b) h = h

  pub either-if : (b : Bool) (x y : A) → P x → P y → P (if b then x else y)
  either-if true x y p q = p
  either-if false x y p q = q

-- with a fact of the value that is passed on
pub map-with : {A B : Type 0} (P : A → Type 0) (Q : B → Type 0) (f : B → A) (o : Option B) → IfSome o Q → ((b : B) → Q b → P (f b)) → IfSome (option_map f o) P
map-with P Q f None q h = tt
map-with P Q f (Some b) q h = h b q

pub if-at : {A : Type 0} (P : A → Type 0) (o : Option A) (a : A) → o ≡ Some a → IfSome o P → P a
if-at P None a e h = absurd (cc)
if-at P (Some b) a e h = let same : b ≡ a = cc in subst P same h

-- what is done where a part of a step is there
pub bind-there : {A B : Type 0} (P : B → Type 0) (o : Option A) (f : A → Option B) → ((a : A) → o ≡ Some a → IfSome (f a) P) → IfSome (o >>= f) P
bind-there P None f h = tt
bind-there P (Some a) f h = h a refl

pub guarded-there : {A B : Type 0} (P : B → Type 0) (b : Bool) (o : Option A) (f : A → Option B) → (b ≡ true → IfSome (o >>= f) P) → IfSome (guarded b o >>= f) P
guarded-there P true o f h = h refl
guarded-there P false o f h = tt

-- the value that a step comes to
pub map-some : {A B P : Type 0} (f : A → B) (o : Option A) (b : B) → option_map f o ≡ Some b → ((a : A) → o ≡ Some a → f a ≡ b → P) → P
map-some f None b e k = absurd (cc)
map-some f (Some a) b e k = k a refl cc

-- ---- what holds after an act that may wait for others

module _ (P : Act → Type 0) where
  pub stored-if : (how : How) (c : ℕ) (v : ℤ) → P (Pushes c v) → P (Puts c v) → IfSome (stored how c v) P
  stored-if Delayed c v h k = h
  stored-if AtOnce c v h k = k
  stored-if NotEnabled c v h k = tt

  pub locked-if : (o : Option (Option ℕ)) (m : ℕ) → P (Takes m) → IfSome (locked o m) P
  locked-if None m h = tt
  locked-if (Some owner) m h = guarded-if P (is_none owner) (Some (Takes m)) h

  pub unlocked-if : (o : Option (Option ℕ)) (t m : ℕ) → P (Gives m) → IfSome (unlocked o t m) P
  unlocked-if None t m h = tt
  unlocked-if (Some owner) t m h = guarded-if P (is_owner t owner) (Some (Gives m)) h

  pub begun-if : (o : Option Frame) (u : ℕ) → P (Starts u) → IfSome (begun o u) P
  begun-if None u h = tt
  begun-if (Some g) u h = guarded-if P (not g.started) (Some (Starts u)) h

  pub joined-if : (o : Option Frame) (empty : Bool) (u : ℕ) → P (Joins u) → IfSome (joined o empty u) P
  joined-if None empty u h = tt
  joined-if (Some g) empty u h = guarded-if P (g.ended && empty) (Some (Joins u)) h
