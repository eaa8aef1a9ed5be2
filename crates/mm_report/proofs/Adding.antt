-- One more store behind those that are reported, and the whole report.
use Rattle.std.proofs.Common.{arith, ◌≡◌, sym, subst, ap, ◌∙◌, refl, ℕ, zero, suc, ◌+◌, ◌<◌, ◌≤◌, ◌||◌, false, List, [], ◌∷◌, ◌++◌, length, map, take, get_or, Some, None, inl, inr}
use Rattle.std.specs.Prelude.{◌⊎◌, IsSomeAnd, slice_get}
use Rattle.std.proofs.lemmas.Option.{slice_get_cases}
use Rattle.std.proofs.lemmas.List.{map-append}
use Rattle.serde_json.specs.Data.{Data}
use Rattle.serde_json.specs.View.{view, items_of}
use Rattle.serde_json.specs.Written.{compact_text, has_float, items_have_float}
use Rattle.serde_json.specs.declared.value.Value.{Value}
use Rattle.mm_goto.specs.Listing.{Listing}
use Rattle.mm_goto.specs.Sites.{sites, Names}
use Rattle.mm_goto.specs.declared.program.Cell.{Cell}
use Rattle.mm_goto.specs.declared.shape.Head.{Head}
use Rattle.mm_goto.specs.declared.shape.Note.{Note}
use Rattle.mm_goto.specs.declared.spot.Spot.{Spot}
use Rattle.mm_points.specs.Cells.{AreCells}
use Rattle.mm_graph.specs.declared.event_graph.Graph.{Graph}
use Rattle.mm_graph.specs.declared.site.Site.{Site}
use Rattle.mm_graph.specs.Graphs.{IsGraphOf}
use Rattle.mm_report.specs.Reports.{AreReported, IsReport, list_data, name_data, note_data, number_data, report_of}

-- just these cells may be accessed by the store of the note
abbrev pub IsNoted : Listing → Note → List ℕ → Type 0
IsNoted p note named = IsSomeAnd (slice_get (sites p) note.site) (λ spot. AreCells (Names p spot) named)

behind : (p : Listing) (notes : List Note) (ds : List Data) (note : Note) (named : List ℕ) → AreReported p notes ds → IsNoted p note named → AreReported p (notes ++ note ∷ []) (ds ++ note_data p.cells named note ∷ [])
behind p notes ds note named AreReported.none is = AreReported.more named is AreReported.none
behind p notes ds note named (AreReported.more {notes = rest} {rest = others} first h k) is = AreReported.more first h (behind p rest others note named k is)

taken : {X : Type 0} (xs : List X) (k : ℕ) (x : X) → slice_get xs k ≡ Some x → take (suc k) xs ≡ take k xs ++ x ∷ []
taken [] zero x e = cc
taken [] (suc k) x e = cc
taken (y ∷ ys) zero x e = ap (λ z. z ∷ []) (same e)
  where
    same : Some y ≡ Some x → y ≡ x
    same f = cc
taken (y ∷ ys) (suc k) x e = ap (λ zs. y ∷ zs) (taken ys k x e)

pub one_more : (p : Listing) (notes : List Note) (k : ℕ) (values : List Value) (value : Value) (note : Note) (named : List ℕ)
    → AreReported p (take k notes) (map view values)
    → slice_get notes k ≡ Some note
    → IsNoted p note named
    → view value ≡ note_data p.cells named note
    → AreReported p (take (k + 1) notes) (map view (values ++ value ∷ []))
one_more p notes k values value note named so e is same =
    let count : suc k ≡ k + 1 = omega arith in
    let front : take (k + 1) notes ≡ take k notes ++ note ∷ [] = ap (λ n. take n notes) (sym count) ∙ taken notes k note e in
    let back : map view values ++ note_data p.cells named note ∷ [] ≡ map view (values ++ value ∷ []) = ap (λ d. map view values ++ d ∷ []) (sym same) ∙ sym (map-append view values (value ∷ [])) in
    subst (λ ds. AreReported p (take (k + 1) notes) ds) back (subst (λ ns. AreReported p ns (map view values ++ note_data p.cells named note ∷ [])) (sym front) (behind p (take k notes) (map view values) note named so is))

-- the site that a note is of, with its cells
pub noted : (p : Listing) (g : Graph) → IsGraphOf p g → (note : Note) (site : Site) → note.site < length (sites p) → slice_get g.sites note.site ≡ Some site → IsNoted p note site.cells
noted p g is note site small e = there (slice_get_cases (sites p) note.site).1
  where
    there : ((spot : Spot) × (note.site < length (sites p)) × (slice_get (sites p) note.site ≡ Some spot) × (get_or (sites p) note.site spot ≡ spot)) ⊎ ((length (sites p) ≤ note.site) × (slice_get (sites p) note.site ≡ None)) → IsNoted p note site.cells
    there (inl s) = subst (λ o. IsSomeAnd o (λ spot. AreCells (Names p spot) site.cells)) (sym s.2) (is.each note.site s.0 site s.2 e).cells
    there (inr n) = absurd (omega (arith, n.0, small))

-- ---- a report has numbers without a fraction alone

names_whole : (cells : List Cell) (cs : List ℕ) → items_have_float (items_of (map (name_data cells) cs)) ≡ false
names_whole cells [] = refl
names_whole cells (c ∷ cs) = names_whole cells cs

numbers_whole : (ns : List ℕ) → items_have_float (items_of (map number_data ns)) ≡ false
numbers_whole [] = refl
numbers_whole (n ∷ ns) = numbers_whole ns

note_whole : (cells : List Cell) (named : List ℕ) (note : Note) → has_float (note_data cells named note) ≡ false
note_whole cells named note =
    ap (λ b. b || (items_have_float (items_of (map number_data note.cycle)) || false)) (names_whole cells named)
    ∙ ap (λ b. b || false) (numbers_whole note.cycle)

reported_whole : (p : Listing) (notes : List Note) (ds : List Data) → AreReported p notes ds → items_have_float (items_of ds) ≡ false
reported_whole p notes ds AreReported.none = refl
reported_whole p notes ds (AreReported.more {note = note} {notes = rest} {rest = others} named is h) =
    ap (λ b. b || items_have_float (items_of others)) (note_whole p.cells named note) ∙ reported_whole p rest others h

pub is_report : (p : Listing) (head : Head) (ds : List Data) (value : Value) (count : ℕ) (text : List ℕ)
    → AreReported p head.notes ds
    → view value ≡ report_of (list_data ds) count head
    → count ≡ length (sites p)
    → (has_float (view value) ≡ false → text ≡ compact_text (view value))
    → IsReport p head text
is_report p head ds value count text h e same spelled =
    let whole : has_float (view value) ≡ false = ap has_float e ∙ ap (λ b. b || false) (reported_whole p head.notes ds h) in
    record { buffered = ds; reported = h; spelled = spelled whole ∙ ap compact_text (e ∙ ap (λ n. report_of (list_data ds) n head) same) }
