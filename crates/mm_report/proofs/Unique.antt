-- A program has one report.
use Rattle.std.proofs.Common.{arith, ◌≡◌, sym, ap, ◌∙◌, refl, ℕ, zero, suc, ◌+◌, ◌<◌, ◌≤◌, inl, inr, ⊎_elim, List, [], ◌∷◌, length, get_or, Option, Some, None}
use Rattle.std.specs.Prelude.{◌⊎◌, ◌↔◌, IsSomeAnd, slice_get}
use Rattle.std.proofs.lemmas.List.{get_or_default}
use Rattle.std.specs.List.{Contains}
use Rattle.std.specs.List.Sorted.{IsStrictlyIncreasing}
use Rattle.serde_json.specs.Data.{Data}
use Rattle.serde_json.specs.Written.{compact_text}
use Rattle.mm_goto.specs.Listing.{Listing}
use Rattle.mm_goto.specs.Sites.{sites, Names}
use Rattle.mm_goto.specs.declared.shape.Head.{Head}
use Rattle.mm_goto.specs.declared.shape.Note.{Note}
use Rattle.mm_goto.specs.declared.spot.Spot.{Spot}
use Rattle.mm_points.specs.Cells.{AreCells}
use Rattle.mm_points.proofs.Insertions.{increasing_le}
use Rattle.mm_report.specs.Reports.{AreReported, IsReport, list_data, note_data, report_of}

-- ---- numbers in order are determined by which they are

strict : (xs : List ℕ) → IsStrictlyIncreasing xs → (i j : ℕ) → i < j → j < length xs → get_or xs i 0 < get_or xs j 0
strict xs up i j less within =
    let next : get_or xs i 0 < get_or xs (i + 1) 0 = up i (omega (arith, less, within)) in
    let later : get_or xs (i + 1) 0 ≤ get_or xs j 0 = increasing_le xs up (i + 1) j (omega (arith, less)) within in
    omega (arith, next, later)

-- each number is below those behind it
data Rises : List ℕ → Type 0 where
  none : Rises []
  more : {x : ℕ} {xs : List ℕ} → ((c : ℕ) → Contains xs c → x < c) → Rises xs → Rises (x ∷ xs)

rises : (xs : List ℕ) → IsStrictlyIncreasing xs → Rises xs
rises [] up = Rises.none
rises (x ∷ xs) up = Rises.more above (rises xs behind)
  where
    behind : IsStrictlyIncreasing xs
    behind k h = strict (x ∷ xs) up (suc k) (suc (k + 1)) (omega arith) (omega (arith, h))

    above : (c : ℕ) → Contains xs c → x < c
    above c h =
        let first : x < get_or xs h.0 0 = strict (x ∷ xs) up 0 (suc h.0) (omega arith) (omega (arith, h.1)) in
        let same : get_or xs h.0 0 ≡ c = get_or_default xs h.0 0 c h.1 ∙ h.2 in
        omega (arith, first, same)

there_first : (x : ℕ) (xs : List ℕ) → Contains (x ∷ xs) x
there_first x xs = (0, omega arith, refl)

pub there_later : (x c : ℕ) (xs : List ℕ) → Contains xs c → Contains (x ∷ xs) c
there_later x c xs h = (suc h.0, omega (arith, h.1), h.2)

pub first_or_later : (x c : ℕ) (xs : List ℕ) → Contains (x ∷ xs) c → (x ≡ c) ⊎ Contains xs c
first_or_later x c xs h = by h.0 h.1 h.2
  where
    by : (k : ℕ) → k < length (x ∷ xs) → get_or (x ∷ xs) k c ≡ c → (x ≡ c) ⊎ Contains xs c
    by zero l e = inl e
    by (suc k) l e = inr (k, omega (arith, l), e)

least : (x c : ℕ) (xs : List ℕ) → ((d : ℕ) → Contains xs d → x < d) → Contains (x ∷ xs) c → x ≤ c
least x c xs above h = ⊎_elim (λ e. omega (arith, e)) (λ k. omega (arith, above c k)) (first_or_later x c xs h)

same_rising : (xs ys : List ℕ) → Rises xs → Rises ys → ((c : ℕ) → Contains xs c ↔ Contains ys c) → xs ≡ ys
same_rising [] [] h k each = refl
same_rising [] (y ∷ ys) h k each = absurd (omega (arith, ((each y).1 (there_first y ys)).1))
same_rising (x ∷ xs) [] h k each = absurd (omega (arith, ((each x).0 (there_first x xs)).1))
same_rising (x ∷ xs) (y ∷ ys) (Rises.more above h) (Rises.more over k) each =
    let up : x ≤ y = least x y xs above ((each y).1 (there_first y ys)) in
    let down : y ≤ x = least y x ys over ((each x).0 (there_first x xs)) in
    let same : x ≡ y = omega (arith, up, down) in
    ap (λ z. z ∷ xs) same ∙ ap (λ zs. y ∷ zs) (same_rising xs ys h k (λ c. (there c same, back c same)))
  where
    there : (c : ℕ) → x ≡ y → Contains xs c → Contains ys c
    there c same m = ⊎_elim (λ e. absurd (omega (arith, above c m, same, e))) (λ n. n) (first_or_later y c ys ((each c).0 (there_later x c xs m)))

    back : (c : ℕ) → x ≡ y → Contains ys c → Contains xs c
    back c same m = ⊎_elim (λ e. absurd (omega (arith, over c m, same, e))) (λ n. n) (first_or_later x c xs ((each c).1 (there_later y c ys m)))

pub same_increasing : (xs ys : List ℕ) → IsStrictlyIncreasing xs → IsStrictlyIncreasing ys → ((c : ℕ) → Contains xs c ↔ Contains ys c) → xs ≡ ys
same_increasing xs ys h k each = same_rising xs ys (rises xs h) (rises ys k) each

-- ---- reports

same_cells : (names : ℕ → Type 0) (a b : List ℕ) → AreCells names a → AreCells names b → a ≡ b
same_cells names a b h k = same_increasing a b h.ordered k.ordered (λ c. (λ m. (k.each c).1 ((h.each c).0 m), λ m. (h.each c).1 ((k.each c).0 m)))

same_named : (p : Listing) (o : Option Spot) (a b : List ℕ) → IsSomeAnd o (λ spot. AreCells (Names p spot) a) → IsSomeAnd o (λ spot. AreCells (Names p spot) b) → a ≡ b
same_named p None a b h k = absurd h
same_named p (Some spot) a b h k = same_cells (Names p spot) a b h k

same_reported : (p : Listing) (notes : List Note) (ds es : List Data) → AreReported p notes ds → AreReported p notes es → ds ≡ es
same_reported p notes ds es AreReported.none AreReported.none = refl
same_reported p notes ds es (AreReported.more {note = note} {notes = rest} {rest = us} a h i) (AreReported.more {rest = vs} b k j) =
    ap (λ named. note_data p.cells named note ∷ us) (same_named p (slice_get (sites p) note.site) a b h k) ∙ ap (λ ws. note_data p.cells b note ∷ ws) (same_reported p rest us vs i j)

pub one_report : (p : Listing) (head : Head) (a b : List ℕ) → IsReport p head a → IsReport p head b → a ≡ b
one_report p head a b h k =
    h.spelled ∙ (ap (λ ds. compact_text (report_of (list_data ds) (length (sites p)) head)) (same_reported p head.notes h.buffered k.buffered h.reported k.reported) ∙ sym k.spelled)
