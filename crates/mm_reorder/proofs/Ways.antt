-- Ways of edges.
use Rattle.std.proofs.Common.{◌≡◌, ℕ, Bool, true}

-- a way of one edge or more
pub data Way (E : ℕ → ℕ → Type 0) (b : ℕ) : ℕ → Type 0 where
  one : {a : ℕ} → E a b → Way E b a
  on : {a : ℕ} (k : ℕ) → E a k → Way E b k → Way E b a

module _ (E : ℕ → ℕ → Type 0) where
  -- from a to b
  abbrev pub Leads : ℕ → ℕ → Type 0
  Leads a b = Way E b a

  join_by : (b c a : ℕ) → Way E b a → Way E c b → Way E c a
  join_by b c a (one e) z = on b e z
  join_by b c a (on k e y) z = on k e (join_by b c k y z)

  pub join : (a b c : ℕ) → Leads a b → Leads b c → Leads a c
  join a b c y z = join_by b c a y z

  module _ (done : ℕ → Bool) (closed : (a b : ℕ) → E a b → done b ≡ true → done a ≡ true) where
    closed_by : (b a : ℕ) → Way E b a → done b ≡ true → done a ≡ true
    closed_by b a (one e) d = closed a b e d
    closed_by b a (on k e y) d = closed a k e (closed_by b k y d)

    -- what is done is closed under ways
    pub closed_way : (a b : ℕ) → Leads a b → done b ≡ true → done a ≡ true
    closed_way a b y d = closed_by b a y d

    ready_by : (v : ℕ) → ((a : ℕ) → E a v → done a ≡ true) → (a : ℕ) → Way E v a → done a ≡ true
    ready_by v ready a (one e) = ready a e
    ready_by v ready a (on k e y) = closed a k e (ready_by v ready k y)

    pub ready_way : (v : ℕ) → ((a : ℕ) → E a v → done a ≡ true) → (a : ℕ) → Leads a v → done a ≡ true
    ready_way v ready a y = ready_by v ready a y
