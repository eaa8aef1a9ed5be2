-- The places in the text do not matter to what a program does.
use Rattle.std.proofs.Common.{◌≡◌, ℕ, true, false, List, [], ◌∷◌, map, Option, Some, None, refl, sym, ◌∙◌, ap}
use Rattle.std.specs.Prelude.{◌↔◌, slice_get, option_map}
use Rattle.std.proofs.lemmas.Option.{slice_get-map}
use Rattle.mm_goto.specs.declared.program.Instr.{Instr}
use Rattle.mm_goto.specs.declared.program.Thread.{Thread}
use Rattle.mm_goto.specs.Listing.{Listing, unplaced, without_places}
use Rattle.mm_sched.specs.declared.entry.Act.{Act}
use Rattle.mm_sched.specs.declared.entry.Entry.{Entry}
use Rattle.mm_sched.specs.declared.entry.Entry.TheVariants.{Step, In, Flush, FlushCell}
use Rattle.mm_sched.specs.declared.entry.Event.TheVariants.{Does}
use Rattle.mm_sched.specs.declared.entry.Rules.{Rules}
use Rattle.mm_sched.specs.Guarded.{◌>>=◌, guarded}
use Rattle.mm_sched.specs.State.{Frame, State, initial, at_start, all_at_start, Pending}
use Rattle.mm_sched.specs.Event.{fetched, does, event, after, next, may_step}
use Rattle.mm_sched.specs.Runs.{run, Reaches}
use Rattle.mm_sched.proofs.Steps.{bind-same}

code_at : (o : Option Thread) (f : Thread → Option Instr) (g : Thread → Option Instr) → ((t : Thread) → f (unplaced t) ≡ g t) → (option_map unplaced o >>= f) ≡ (o >>= g)
code_at None f g h = refl
code_at (Some t) f g h = h t

fetched_same : (p : Listing) (t k : ℕ) → fetched (without_places p) t k ≡ fetched p t k
fetched_same p t k = ap (λ o. o >>= λ thread. slice_get thread.code k) (slice_get-map unplaced p.threads t) ∙ code_at (slice_get p.threads t) (λ thread. slice_get thread.code k) (λ thread. slice_get thread.code k) (λ thread. refl)

does_same : (p : Listing) (s : State) (t : ℕ) (what : Frame → Instr → Option Act) → does (without_places p) s t what ≡ does p s t what
does_same p s t what = bind-same (slice_get s.threads t) _ _ (λ f. ap (λ o. o >>= λ i. (guarded (may_step s t f) (what f i) >>= λ a. Some (Does t a))) (fetched_same p t f.place))

event_same : (r : Rules) (p : Listing) (s : State) (e : Entry) → event r (without_places p) s e ≡ event r p s e
unfolding event
event_same r p s (Step t) = does_same p s t _
event_same r p s (In t v) = does_same p s t _
event_same r p s (Flush t) = refl
event_same r p s (FlushCell t c) = refl

run_same : (r : Rules) (p : Listing) (s : State) (es : List Entry) → run r (without_places p) s es ≡ run r p s es
run_same r p s [] = refl
run_same r p s (e ∷ es) =
    ap (λ o. option_map (after s) o >>= λ mid. run r (without_places p) mid es) (event_same r p s e)
    ∙ bind-same (next r p s e) _ _ (λ mid. run_same r p mid es)

others_same : (ts : List Thread) → map (at_start false) (map unplaced ts) ≡ map (at_start false) ts
others_same [] = refl
others_same (t ∷ ts) = ap (λ fs. at_start false t ∷ fs) (others_same ts)

all_same : (ts : List Thread) → all_at_start (map unplaced ts) ≡ all_at_start ts
all_same [] = refl
all_same (t ∷ ts) = ap (λ fs. at_start true t ∷ fs) (others_same ts)

pending_same : (ts : List Thread) → map (λ (thread : Thread). let none : List Pending = [] in none) (map unplaced ts) ≡ map (λ (thread : Thread). let none : List Pending = [] in none) ts
pending_same [] = refl
pending_same (t ∷ ts) = ap (λ ps. [] ∷ ps) (pending_same ts)

initial_same : (p : Listing) → initial (without_places p) ≡ initial p
unfolding initial
initial_same p = ap (λ fs. record (initial p) { threads = fs; pending = map (λ thread. []) (map unplaced p.threads) }) (all_same p.threads) ∙ ap (λ ps. record (initial p) { pending = ps }) (pending_same p.threads)

fails_same : (r : Rules) (p : Listing) (s : State) (es : List Entry) → run r (without_places p) (initial (without_places p)) es ≡ run r p (initial p) es
fails_same r p s es = ap (λ s. run r (without_places p) s es) (initial_same p) ∙ run_same r p (initial p) es

pub places_do_not_matter : (r : Rules) (p : Listing) (n : ℕ) → Reaches r (without_places p) n ↔ Reaches r p n
places_do_not_matter r p n = (there, back)
  where
    there : Reaches r (without_places p) n → Reaches r p n
    there (es, f) = (es, record { last = f.last; runs = sym (fails_same r p (initial p) es) ∙ f.runs; verdict = f.verdict })

    back : Reaches r p n → Reaches r (without_places p) n
    back (es, f) = (es, record { last = f.last; runs = fails_same r p (initial p) es ∙ f.runs; verdict = f.verdict })
