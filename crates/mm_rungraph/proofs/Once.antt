-- Each edge stands in the list once.
use Rattle.std.proofs.Common.{arith, ◌≡◌, ℕ, ◌<◌, ◌⊎◌, inl, inr, Bool, true, false, if◌then◌else◌, List, [], ◌∷◌, ◌++◌, length, map, Option, Some, None, refl, sym, ap, subst, rules}
use Rattle.std.specs.Prelude.{Contains, option_to_list}
use Rattle.std.proofs.lemmas.List.Elements.{Contains-append_cases}
use Rattle.mm_sched.specs.declared.entry.Event.{Event}
use Rattle.mm_runkeys.specs.declared.graph.EdgeKind.{EdgeKind}
use Rattle.mm_runkeys.specs.declared.graph.EdgeKind.TheVariants.{Program, Issue, Fifo, Reads, Coherence, FromRead, Drain, Mutex, Start, Join, Room}
use Rattle.mm_runkeys.specs.declared.graph.RunEdge.{RunEdge}
use Rattle.mm_rungraph.specs.RunGraph.{Once}
use Rattle.mm_runkeys.specs.Spans.{Key, is_key}
use Rattle.mm_runkeys.specs.reading.Tables.{row, asked_row, stepped, edge, linked}
use Rattle.mm_runkeys.specs.reading.Marks.{all_kinds, links}
use Rattle.mm_rungraph.proofs.Spanning.{AreOpen, row_stepped, stepped_length}
use Rattle.mm_runkeys.proofs.Links.{front, empty, there, of_map}

module _ {A : Type 0} where
  pub once_append : (xs ys : List A) → Once xs → Once ys → ((d : A) → Contains xs d → Contains ys d → ⊥) → Once (xs ++ ys)
  once_append [] ys o p n = p
  once_append (x ∷ xs) ys o p n = (λ c. go (Contains-append_cases xs ys x c), once_append xs ys o.1 p (λ d i j. n d (there x xs d i) j))
    where
      go : Contains xs x ⊎ Contains ys x → ⊥
      go (inl c) = o.0 c
      go (inr c) = n x (0, omega arith, refl) c

pub once_map : (n : ℕ) (k : EdgeKind) (xs : List ℕ) → Once xs → Once (map (edge n k) xs)
once_map n k [] o = tt
once_map n k (x ∷ xs) o = (λ c. o.0 (of_map n k xs (edge n k x) c).2, once_map n k xs o.1)

-- ---- rows

abbrev pub AreOnce : List (List ℕ) → Type 0
AreOnce rows = (x : ℕ) → x < length rows → Once (row rows x)

pub once_step : (marked erased : Key) (es : List Event) (rows : List (List ℕ)) (er mk : Option ℕ) → AreOpen marked erased es rows → AreOnce rows → AreOnce (stepped rows er mk (length es))
once_step marked erased es rows er mk opened once x l =
    let here : x < length rows = rw (stepped_length rows er mk (length es)) at l in
    rw (row_stepped rows er mk (length es) x here) (go here (is_key x er) (is_key x mk))
  where
    go : x < length rows → (a b : Bool) → Once ((if a then [] else row rows x) ++ (if b then length es ∷ [] else []))
    go h true true = (λ c. empty (length es) c, tt)
    go h true false = tt
    go h false true = once_append (row rows x) (length es ∷ []) (once x h) (λ c. empty (length es) c, tt) (λ d i j. clash d (front (length es) [] d j) ((opened.each x d h).0 i).within)
      where
        clash : (d : ℕ) → (length es ≡ d) ⊎ Contains [] d → d < length es → ⊥
        clash d (inl e) m = absurd (omega arith)
        clash d (inr c) m = empty d c
    go h false false = once_append (row rows x) [] (once x h) tt (λ d i j. empty d j)

pub asked_once : (rows : List (List ℕ)) (o : Option ℕ) → AreOnce rows → ((x : ℕ) → o ≡ Some x → x < length rows) → Once (asked_row rows o)
asked_once rows None a l = tt
asked_once rows (Some x) a l = a x (l x refl)

pub option_once : {A : Type 0} (o : Option A) → Once (option_to_list o)
option_once None = tt
option_once (Some x) = (λ c. empty x c, tt)

-- ---- edges

abbrev pub rank : EdgeKind → ℕ
rank Program = 0
rank Issue = 1
rank Fifo = 2
rank Reads = 3
rank Coherence = 4
rank FromRead = 5
rank Drain = 6
rank Mutex = 7
rank Start = 8
rank Join = 9
rank Room = 10

-- the kinds stand above the rank, and in order
abbrev pub Above : ℕ → List EdgeKind → Type 0
Above r [] = Unit {0}
Above r (k ∷ ks) = (r < rank k) × Above r ks

abbrev pub Ascend : List EdgeKind → Type 0
Ascend [] = Unit {0}
Ascend (k ∷ ks) = Above (rank k) ks × Ascend ks

module _ (from : EdgeKind → List ℕ) (n : ℕ) (once : (k : EdgeKind) → Once (from k)) where
  abbrev IsOld : List EdgeKind → RunEdge → Type 0
  IsOld ks d = (d.to < n) ⊎ Above (rank d.kind) ks

  links_once : (ks : List EdgeKind) (edges : List RunEdge) → Ascend ks → Once edges → ((d : RunEdge) → Contains edges d → IsOld ks d) → Once (links ks from n edges)
  links_once [] edges a o old = o
  links_once (k ∷ ks) edges a o old = links_once ks (linked edges k (from k) n) a.1
      (once_append edges (map (edge n k) (from k)) o (once_map n k (from k) (once k)) (λ d i j. clash d (old d i) (of_map n k (from k) d j).0 (of_map n k (from k) d j).1))
      (λ d c. on d (Contains-append_cases edges (map (edge n k) (from k)) d c))
    where
      clash : (d : RunEdge) → IsOld (k ∷ ks) d → d.to ≡ n → d.kind ≡ k → ⊥
      clash d (inl l) e f = absurd (omega (arith, l, e))
      clash d (inr h) e f = absurd (let r : rank d.kind ≡ rank k = ap rank f in let l = h.0 in omega (arith, r, l))

      on : (d : RunEdge) → Contains edges d ⊎ Contains (map (edge n k) (from k)) d → IsOld ks d
      on d (inr c) = inr (subst (λ r. Above r ks) (ap rank (sym (of_map n k (from k) d c).1)) a.0)
      on d (inl c) = weaker d (old d c)
        where
          weaker : (d : RunEdge) → IsOld (k ∷ ks) d → IsOld ks d
          weaker d (inl l) = inl l
          weaker d (inr h) = inr h.1

  pub all_once : (edges : List RunEdge) → Once edges → ((d : RunEdge) → Contains edges d → d.to < n) → Once (links all_kinds from n edges)
  all_once edges o old = links_once all_kinds edges ascend o (λ d c. inl (old d c))
    where
      ascend : Ascend all_kinds
      ascend = search rules
