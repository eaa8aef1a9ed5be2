-- An input has an answer.
use Rattle.std.proofs.Common.{◌≡◌, ◌⊎◌, inl, inr, ⊎_elim, ℕ, zero, suc, ◌+◌, ◌<◌, ◌≤◌, Bool, true, false, List, [], ◌∷◌, ◌++◌, length, take, drop, map, codes, Option, Some, None, option_and_then, refl, sym, ◌∙◌, ap, subst, arith, append_assoc, length-append, IsUtf8}
use Rattle.std.specs.Str.{chars, is_utf8}
use Rattle.std.proofs.lemmas.Bool.{cases_lt}
use Rattle.std.specs.Prelude.{◌^◌, slice_get}
use Rattle.std.proofs.lemmas.List.{length-drop, length-map, length-take-le, take_all, take-append-drop}
use Rattle.std.proofs.lemmas.Str.{IsUtf8-from_is_utf8, is_utf8-from_IsUtf8, IsUtf8-nil}
use Rattle.mm_goto.specs.declared.ident.At.{At}
use Rattle.mm_goto.specs.declared.model.Model.{Model}
use Rattle.mm_goto.specs.Bounds.{Bounding, IsBound}
use Rattle.mm_goto.specs.Listing.{Listing}
use Rattle.mm_goto.specs.Place.{place_after, start}
use Rattle.mm_goto.specs.Sites.{sites}
use Rattle.mm_goto.specs.Valid.{IsValid}
use Rattle.mm_lexer.specs.declared.token.Token.{Token}
use Rattle.mm_lexer.specs.declared.token.LexFault.{LexFault}
use Rattle.mm_lexer.specs.declared.token.LexFault.TheVariants as lex_fault
use Rattle.mm_lexer.specs.declared.piece.Piece.{Piece}
use Rattle.mm_lexer.specs.declared.piece.Piece.TheVariants as piece
use Rattle.mm_lexer.specs.Piece.{piece_at}
use Rattle.mm_lexer.specs.Tokens.{AreTokens, IsFirstFault, fault_of}
use Rattle.mm_lexer.proofs.Unique.{tokens_and_fault}
use Rattle.mm_tree.specs.declared.item.Tree.{Tree}
use Rattle.mm_tree.specs.declared.side.Side.{Side}
use Rattle.mm_reading.specs.Parsing.{Outcome as Read, Parsed, Fault}
use Rattle.mm_parse_expr.specs.declared.symbol.Symbol.{Symbol}
use Rattle.mm_parse_expr.specs.declared.symbol.Symbol.TheVariants as symbol
use Rattle.mm_parse_expr.specs.declared.terminal.Terminal.{Terminal}
use Rattle.mm_parse_expr.specs.declared.fault.ParseFault.{ParseFault}
use Rattle.mm_parse_expr.specs.declared.fault.ParseFault.TheVariants as parse_fault
use Rattle.mm_parse_expr.specs.Faults.{fault_at, refusal}
use Rattle.mm_parse_expr.specs.Terminals.{terminal_of}
use Rattle.mm_grammar.specs.Nesting.{deep_at}
use Rattle.mm_parse.specs.Faults.{IsFault, too_deep, no_program}
use Rattle.mm_grammar.specs.ProgramGrammar.{IsProgram}
use Rattle.mm_grammar.specs.reading.ProgramReading.{program}
use Rattle.mm_grammar.proofs.ProgramRuns.{program_fault, program_whole}
use Rattle.mm_grammar.proofs.ProgramSound.{program_sound}
use Rattle.mm_sched.specs.declared.entry.Entry.{Entry}
use Rattle.mm_sched.specs.declared.entry.Rules.{Rules}
use Rattle.mm_sched.specs.declared.entry.Rules.TheVariants.{Sc, Buffered}
use Rattle.mm_sched.specs.State.{State, initial}
use Rattle.mm_sched.specs.Event.{next}
use Rattle.mm_sched.specs.Runs.{run}
use Rattle.mm_sched.specs.ScheduleText.{entries_in}
use Rattle.mm_sched.proofs.ReadingOn.{one_of_them}
use Rattle.mm_tree.specs.declared.side.Side.TheVariants.{Source}
use Rattle.mm_flow.specs.declared.fault.Limit.{Limit}
use Rattle.mm_flow.specs.Flow.{Placed, lay}
use Rattle.mm_flow.specs.Programs.{all_to, end_of, flow_of, laid, limit_passed, locals_of, parts_of, program_of, thread_of, threads_in}
use Rattle.mm_goto.specs.declared.ident.Ident.{Ident}
use Rattle.mm_goto.specs.declared.program.Thread.{Thread}
use Rattle.mm_grammar.specs.Meaning.{IsTreeOf}
use Rattle.mm_print.specs.Items.{printed_text}
use Rattle.mm_instr.specs.Woven.{woven}
use Rattle.mm_planned.proofs.Existing.{a_plan}
use Rattle.mm_graph.specs.Graphs.{IsSmall}
use Rattle.mm_run.specs.reading.Sound.{IsOfSource}
use Rattle.mm_run.proofs.ReadAgain.{WovenIsAccepted, read_again}
use Rattle.mm_run.proofs.Sound.{valid_program}
use Rattle.mm_run.specs.declared.command.Settings.{Settings}
use Rattle.mm_run.specs.declared.command.Settings.TheVariants.{Instrument, Cycles, ReplaySc, Replay}
use Rattle.mm_run.specs.declared.status.Status.{Status}
use Rattle.mm_run.specs.declared.status.Status.TheVariants.{Done, Refused}
use Rattle.mm_run.specs.Answer.{AnswersParts, AnswersProgram, AnswersText, AnswersWhole, IsTooLargeFor, IsWoven, PrintsWoven, Refusing, Replays, ReportsCycles}
use Rattle.mm_names.specs.declared.refusal.NameFault.{NameFault}
use Rattle.mm_names.specs.declared.refusal.NameFault.TheVariants as name_fault
use Rattle.mm_names.specs.Programs.{IsAccepted as MakesSense, IsRefused as IsNameFault, no_main, at_fault, refusal_of}
use Rattle.mm_scope.specs.declared.fault.Rule.{Rule}
use Rattle.mm_scope.specs.declared.fault.Rule.TheVariants as rule
use Rattle.mm_names.proofs.Decided.{each}
use Rattle.mm_run.specs.Lines.{refusal_line, verdict_line}
use Rattle.mm_run.specs.Outcome.{IsStuckBehind, Outcome, TellsVerdict}
use Rattle.mm_run.specs.Parts.{IsNotUtf8, IsParting, IsSplit, LacksPart}
use Rattle.mm_run.specs.Program.{IsNoProgram, IsProgramText, limit_words, side_for}
use Rattle.mm_run.specs.Settings.{IsThere}
use Rattle.mm_run.proofs.Alike.{is_alike}
use Rattle.mm_planned.proofs.SomeHead.{HasPlaces}
use Rattle.mm_run.proofs.AReport.{an_answer_of_cycles}

-- ---- a text, or where it is none

-- the longest front of at most n bytes that is a text, where no longer one is
longest_text : (bs : List ℕ) (n : ℕ) → ((m : ℕ) → n < m → ¬ (IsUtf8 (take m bs))) → (k : ℕ) × (k ≤ n) × IsUtf8 (take k bs) × ((m : ℕ) → k < m → ¬ (IsUtf8 (take m bs)))
longest_text bs zero h = (0, omega arith, IsUtf8-nil, h)
longest_text bs (suc n) h = here (is_utf8 (take (suc n) bs)) refl (longest_text bs n)
  where
    below : is_utf8 (take (suc n) bs) ≡ false → (m : ℕ) → n < m → ¬ (IsUtf8 (take m bs))
    below e m l u = ⊎_elim (λ k. h m k u) (λ k. let same : m ≡ suc n = omega (arith, k, l) in no (subst (λ m. IsUtf8 (take m bs)) same u)) (cases_lt (suc n) m)
      where
        no : IsUtf8 (take (suc n) bs) → ⊥
        no v = let f = is_utf8-from_IsUtf8 (take (suc n) bs) v in cc

    here : (b : Bool) → is_utf8 (take (suc n) bs) ≡ b
        → (((m : ℕ) → n < m → ¬ (IsUtf8 (take m bs))) → (k : ℕ) × (k ≤ n) × IsUtf8 (take k bs) × ((m : ℕ) → k < m → ¬ (IsUtf8 (take m bs))))
        → (k : ℕ) × (k ≤ suc n) × IsUtf8 (take k bs) × ((m : ℕ) → k < m → ¬ (IsUtf8 (take m bs)))
    here true e shorter = (suc n, omega arith, IsUtf8-from_is_utf8 (take (suc n) bs) e, h)
    here false e shorter = let r = shorter (below e) in (r.0, omega (arith, r.1), r.2, r.3)

text_or_not : (bs : List ℕ) → IsUtf8 bs ⊎ ((at : At) × IsNotUtf8 bs at)
text_or_not bs = here (is_utf8 bs) refl
  where
    none : is_utf8 bs ≡ false → IsUtf8 bs → ⊥
    none e u = let f = is_utf8-from_IsUtf8 bs u in cc

    here : (b : Bool) → is_utf8 bs ≡ b → IsUtf8 bs ⊎ ((at : At) × IsNotUtf8 bs at)
    here true e = inl (IsUtf8-from_is_utf8 bs e)
    here false e =
        let whole : (m : ℕ) → length bs ≤ m → ¬ (IsUtf8 (take m bs)) = λ m l u. none e (subst IsUtf8 (take_all m bs l) u) in
        let r = longest_text bs (length bs) (λ m l. whole m (omega (arith, l))) in
        let short : r.0 < length bs = ⊎_elim (λ l. l) (λ l. absurd (whole r.0 l r.2)) (cases_lt r.0 (length bs)) in
        inr (place_after (chars (take r.0 bs)), record { front = r.0; longest = record { short = short; front = r.2; longest = r.3 }; place = refl })

-- ---- the parts of a text

-- either the list begins with the word, or it does not
front_of : (word xs : List ℕ) → ((rest : List ℕ) × (xs ≡ word ++ rest)) ⊎ ((rest : List ℕ) → xs ≡ word ++ rest → ⊥)
front_of [] xs = inl (xs, refl)
front_of (c ∷ word) [] = inr (λ rest e. cc)
front_of (c ∷ word) (x ∷ xs) = ⊎_elim (λ l. inr (λ rest e. apart l (heads rest e))) (λ l. ⊎_elim (λ k. inr (λ rest e. over k (heads rest e))) (λ k. same (omega (arith, l, k)) (front_of word xs)) (cases_lt c x)) (cases_lt x c)
  where
    heads : (rest : List ℕ) → x ∷ xs ≡ (c ∷ word) ++ rest → x ≡ c
    heads rest e = cc

    apart : x < c → x ≡ c → ⊥
    apart l e = omega (arith, l, e)

    over : c < x → x ≡ c → ⊥
    over l e = omega (arith, l, e)

    same : x ≡ c → ((rest : List ℕ) × (xs ≡ word ++ rest)) ⊎ ((rest : List ℕ) → xs ≡ word ++ rest → ⊥) → ((rest : List ℕ) × (x ∷ xs ≡ (c ∷ word) ++ rest)) ⊎ ((rest : List ℕ) → x ∷ xs ≡ (c ∷ word) ++ rest → ⊥)
    same e (inl h) = inl (h.0, λ k. e k ∷ h.1 k)
    same e (inr h) = inr (λ rest f. h rest (cc))

line : List ℕ
line = codes "\n%%\n"

no_line_behind : (text : List ℕ) (i : ℕ) → length text + 1 ≤ i → IsParting text i → ⊥
no_line_behind text i l h = omega (arith, l, ap length h.line, length-drop i (10 ∷ text), length-append (codes "\n%%\n") h.behind)

-- the first line %%, from place i on
first_line : (text : List ℕ) (left i : ℕ) → length text + 1 ≤ i + left → ((j : ℕ) → j < i → IsParting text j → ⊥) → ((k : ℕ) × IsParting text k × ((j : ℕ) → IsParting text j → k ≤ j)) ⊎ LacksPart text
first_line text zero i l h = inr (λ j p. ⊎_elim (λ k. h j k p) (λ k. no_line_behind text j (omega (arith, k, l)) p) (cases_lt j i))
first_line text (suc left) i l h = ⊎_elim
    (λ p. inl (i, record { behind = p.0; line = p.1 }, λ j q. ⊎_elim (λ k. absurd (h j k q)) (λ k. k) (cases_lt j i)))
    (λ p. first_line text left (i + 1) (omega (arith, l)) (λ j k q. ⊎_elim (λ m. h j m q) (λ m. let same : j ≡ i = omega (arith, m, k) in p q.behind (ap (λ n. drop n (10 ∷ text)) (sym same) ∙ q.line)) (cases_lt j i)))
    (front_of (codes "\n%%\n") (drop i (10 ∷ text)))

drop_nothing : (i : ℕ) → drop {A = ℕ} i [] ≡ []
drop_nothing zero = refl
drop_nothing (suc i) = refl

drop_first : (i x : ℕ) (xs : List ℕ) → drop i xs ≡ drop 1 (drop i (x ∷ xs))
drop_first zero x xs = refl
drop_first (suc i) x [] = sym (ap (drop 1) (drop_nothing i))
drop_first (suc i) x (y ∷ ys) = drop_first i y ys

split_or_not : (text : List ℕ) → ((program : List ℕ) × (schedule : List ℕ) × IsSplit text program schedule) ⊎ LacksPart text
split_or_not text = ⊎_elim (λ h. inl (take h.0 text, h.1.behind, splits h.0 h.1 h.2)) inr (first_line text (length text + 1) 0 (omega arith) (λ j l p. omega (arith, l)))
  where
    splits : (i : ℕ) (p : IsParting text i) → ((j : ℕ) → IsParting text j → i ≤ j) → IsSplit text (take i text) p.behind
    splits i p first =
        let few : i ≤ length text = omega (arith, ap length p.line, length-drop i (10 ∷ text), length-append (codes "\n%%\n") p.behind) in
        let count : length (take i text) ≡ i = length-take-le i text few in
        let rest : drop i text ≡ codes "%%\n" ++ p.behind = drop_first i 10 text ∙ ap (drop 1) p.line in
        record {
          whole = sym (take-append-drop i text) ∙ ap (λ xs. take i text ++ xs) rest ∙ sym (append_assoc (take i text) (codes "%%\n") p.behind);
          parting = subst (IsParting text) (sym count) p;
          first = λ j q. omega (arith, count, first j q);
        }

-- ---- a tree, or a fault

module _ (side : Side) (text : List ℕ) (tokens : List Token) (cut : AreTokens text tokens) where
  abbrev terminals : List Terminal
  terminals = map (terminal_of text) tokens

  tree_or_fault : ((tree : Tree) × IsTreeOf side text tree) ⊎ ((fault : ParseFault) × IsFault side text tokens fault)
  tree_or_fault = deep (deep_at side terminals) refl
    where
      read : deep_at side terminals ≡ None → (o : Read Terminal Tree) → program (length terminals + 1) terminals ≡ o → ((tree : Tree) × IsTreeOf side text tree) ⊎ ((fault : ParseFault) × IsFault side text tokens fault)
      read shallow (Parsed tree rest) e =
          let whole : rest ≡ [] = program_whole (length terminals + 1) terminals rest tree e in
          let parsed : IsProgram terminals tree = program_sound (length terminals + 1) terminals tree (e ∙ ap (λ rest. Parsed tree rest) whole) in
          inl (tree, record { tokens = tokens; cut = cut; shallow = shallow; parsed = parsed })
      read shallow (Fault rest) e = inr (fault_at text rest, no_program rest shallow (program_fault (length terminals + 1) terminals rest (omega arith) e))

      deep : (o : Option At) → deep_at side terminals ≡ o → ((tree : Tree) × IsTreeOf side text tree) ⊎ ((fault : ParseFault) × IsFault side text tokens fault)
      deep (Some at) e = inr (parse_fault.TooDeep at, too_deep at e)
      deep None e = read e (program (length terminals + 1) terminals) refl

-- ---- a program, or a refusal

-- a text is no program
abbrev HasNone : Side → List ℕ → Type 0
HasNone side text = (at : At) × (why : List ℕ) × IsNoProgram side text at why

no_memory_at : (text : List ℕ) (rest : List Terminal) → fault_at text rest ≡ parse_fault.NoMemory → ⊥
no_memory_at text [] e = cc
no_memory_at text (t ∷ rest) e = at t.symbol e
  where
    at : (s : Symbol) → refusal s t ≡ parse_fault.NoMemory → ⊥
    at symbol.Outside e = cc
    at s e = cc

fault_refuses : (side : Side) (text : List ℕ) (tokens : List Token) → AreTokens text tokens → (fault : ParseFault) → IsFault side text tokens fault → HasNone side text
fault_refuses side text tokens cut (parse_fault.TooDeep at) h = (at, codes "too deep", IsNoProgram.too_deep at (record { tokens = tokens; cut = cut; fails = h }))
fault_refuses side text tokens cut (parse_fault.OutsideProfile word at) h = (at, codes "outside profile: " ++ word, IsNoProgram.outside word at (record { tokens = tokens; cut = cut; fails = h }))
fault_refuses side text tokens cut (parse_fault.BadSyntax at) h = (at, codes "bad syntax", IsNoProgram.bad_syntax at (record { tokens = tokens; cut = cut; fails = h }))
fault_refuses side text tokens cut parse_fault.NoMemory h = absurd (never parse_fault.NoMemory h refl)
  where
    never : (fault : ParseFault) → IsFault side text tokens fault → fault ≡ parse_fault.NoMemory → ⊥
    never fault (IsFault.too_deep at e) f = cc
    never fault (IsFault.no_program rest e k) f = no_memory_at text rest f

unlexed_refuses : (side : Side) (text : List ℕ) (fault : LexFault) → IsFirstFault text fault → HasNone side text
unlexed_refuses side text (lex_fault.BadToken at) h = (at, codes "bad token", IsNoProgram.bad_token at h)
unlexed_refuses side text (lex_fault.NumberTooLarge at) h = (at, codes "number too large", IsNoProgram.large_number at h)
unlexed_refuses side text lex_fault.NoMemory h = absurd (never (piece_at h.place.is_head h.rest) h.fails)
  where
    never : (x : Piece) → fault_of x h.place.at ≡ Some lex_fault.NoMemory → ⊥
    never piece.End e = cc
    never (piece.Gap n) e = cc
    never (piece.Token kind n) e = cc
    never piece.Bad e = cc
    never piece.TooLarge e = cc

-- want of memory is no fault of a program
no_memory_said : (side : Side) (tree : Tree) (fault : NameFault) → IsNameFault side tree fault → fault ≡ name_fault.NoMemory → ⊥
no_memory_said side tree fault (no_main e) m = cc
no_memory_said side tree fault (at_fault f main is least) m = told f.rule m
  where
    told : (r : Rule) → refusal_of (record { rule = r; at = f.at }) ≡ name_fault.NoMemory → ⊥
    told rule.ReservedName m = cc
    told rule.OutputOnly m = cc
    told rule.TwiceDeclared m = cc
    told rule.UnknownName m = cc
    told rule.WrongType m = cc
    told rule.BadThread m = cc
    told rule.Recursion m = cc

name_refuses : (side : Side) (text : List ℕ) (tree : Tree) → IsTreeOf side text tree → (fault : NameFault) → IsNameFault side tree fault → HasNone side text
name_refuses side text tree read (name_fault.NoMain at) h = (at, codes "no main", IsNoProgram.no_main at (record { tree = tree; read = read; fails = h }))
name_refuses side text tree read (name_fault.ReservedName at) h = (at, codes "reserved name", IsNoProgram.reserved at (record { tree = tree; read = read; fails = h }))
name_refuses side text tree read (name_fault.OutputOnly at) h = (at, codes "output only", IsNoProgram.output_only at (record { tree = tree; read = read; fails = h }))
name_refuses side text tree read (name_fault.TwiceDeclared at) h = (at, codes "declared twice", IsNoProgram.twice at (record { tree = tree; read = read; fails = h }))
name_refuses side text tree read (name_fault.UnknownName at) h = (at, codes "unknown name", IsNoProgram.unknown at (record { tree = tree; read = read; fails = h }))
name_refuses side text tree read (name_fault.WrongType at) h = (at, codes "wrong type", IsNoProgram.wrong_type at (record { tree = tree; read = read; fails = h }))
name_refuses side text tree read (name_fault.BadThread at) h = (at, codes "bad thread", IsNoProgram.bad_thread at (record { tree = tree; read = read; fails = h }))
name_refuses side text tree read (name_fault.Recursion at) h = (at, codes "recursion", IsNoProgram.recursion at (record { tree = tree; read = read; fails = h }))
name_refuses side text tree read name_fault.NoMemory h = absurd (no_memory_said side tree _ h refl)

-- the text is a program, or is none
abbrev IsKnown : Side → List ℕ → Type 0
IsKnown side text = ((tree : Tree) × IsTreeOf side text tree × MakesSense side tree × (limit_passed side tree ≡ None)) ⊎ HasNone side text

limited : (side : Side) (text : List ℕ) (tree : Tree) → IsTreeOf side text tree → MakesSense side tree → (o : Option Limit) → limit_passed side tree ≡ o → IsKnown side text
limited side text tree read sense None e = inl (tree, read, sense, e)
limited side text tree read sense (Some limit) e = inr (start, limit_words limit, IsNoProgram.too_many limit (record { tree = tree; read = read; sense = sense; passed = e }))

sensible : (side : Side) (text : List ℕ) (tree : Tree) → IsTreeOf side text tree → MakesSense side tree ⊎ ((fault : NameFault) × IsNameFault side tree fault) → IsKnown side text
sensible side text tree read (inl sense) = limited side text tree read sense (limit_passed side tree) refl
sensible side text tree read (inr f) = inr (name_refuses side text tree read f.0 f.1)

known : (side : Side) (text : List ℕ) → IsKnown side text
known side text = ⊎_elim
    (λ t. ⊎_elim (λ r. sensible side text r.0 r.1 (each side r.0)) (λ f. inr (fault_refuses side text t.0 t.1 f.0 f.1)) (tree_or_fault side text t.0 t.1))
    (λ f. inr (unlexed_refuses side text f.0 f.1))
    (tokens_and_fault text)

of_any : (side : Side) (text : List ℕ) → IsKnown side text → ((p : Listing) × IsProgramText side text p) ⊎ HasNone side text
of_any side text (inl k) = inl (program_of side k.0, record { tree = k.0; read = k.1; sense = k.2; within = k.3; flat = refl })
of_any side text (inr n) = inr n

-- ---- a run, or an entry that is not enabled

module _ (r : Rules) (p : Listing) where
  one_later : (from mid : State) (e : Entry) (es : List Entry) (k : ℕ) → next r p from e ≡ Some mid → IsStuckBehind r p mid es k → IsStuckBehind r p from (e ∷ es) (suc k)
  one_later from mid e es k f s = record {
    before = e ∷ s.before;
    entry = s.entry;
    behind = s.behind;
    mid = s.mid;
    parts = ap (λ xs. e ∷ xs) s.parts;
    count = ap suc s.count;
    runs = ap (λ (o : Option State). option_and_then (λ mid. run r p mid s.before) o) f ∙ s.runs;
    stuck = s.stuck;
  }

  -- the entries are a run, or one of them is not enabled
  abbrev Comes : State → List Entry → Type 0
  Comes from es = ((last : State) × (run r p from es ≡ Some last)) ⊎ ((k : ℕ) × IsStuckBehind r p from es k)

  run_or_stuck : (from : State) (es : List Entry) → Comes from es
  run_or_stuck from [] = inl (from, refl)
  run_or_stuck from (e ∷ es) = here (next r p from e) refl (λ mid. run_or_stuck mid es)
    where
      here : (o : Option State) → next r p from e ≡ o → ((mid : State) → Comes mid es) → Comes from (e ∷ es)
      here None f later = inr (0, record { before = []; entry = e; behind = es; mid = from; parts = refl; count = refl; runs = refl; stuck = f })
      here (Some mid) f later = ⊎_elim
          (λ h. inl (h.0, ap (λ (o : Option State). option_and_then (λ mid. run r p mid es) o) f ∙ h.1))
          (λ h. inr (suc h.0, one_later from mid e es h.0 f h.1))
          (later mid)

  replay_answers : (schedule : List ℕ) → (status : Status) × (out : List ℕ) × Replays r p schedule status out
  replay_answers schedule = ⊎_elim
      (λ h. ⊎_elim
      (λ e. (Done, verdict_line e.0.verdict, Outcome.ends h.0 e.0 h.1 e.1 TellsVerdict.verdict))
      (λ s. (_, _, Outcome.stuck h.0 s.0 h.1 s.1))
      (run_or_stuck (initial p) (entries_in h.0)))
      (λ h. (_, _, Outcome.bad h.0 h.1))
      (one_of_them schedule)

-- ---- the answer

-- some status and some output answer
abbrev IsAnswered : (Status → List ℕ → Type 0) → Type 0
IsAnswered Answers = (status : Status) × (out : List ℕ) × Answers status out

-- the program of a source is too large, or has a woven program
an_answer_of_instrument : WovenIsAccepted → (m : Model) (bound : Bounding) → IsBound bound → (p : Listing) → IsOfSource p → IsAnswered (PrintsWoven m bound p)
an_answer_of_instrument law m bound b p source = ⊎_elim
    (λ l. (_, _, PrintsWoven.too_large (IsTooLargeFor.too_many_sites l)))
    (λ few. ⊎_elim
    (λ l. (_, _, PrintsWoven.too_large (IsTooLargeFor.too_many_cells (few, l))))
    (λ small.
    let valid : IsValid p = valid_program Source source.text p source.utf8 source.short source.read in
    let here : IsSmall p = record { sites = few; cells = small } in
    let made = a_plan p m bound valid in
    let w : IsWoven p m bound (printed_text (woven p made.0) made.1) = record { shape = made.0; head = made.1; plan = made.2; text = refl } in
    (Done, printed_text (woven p made.0) made.1, PrintsWoven.done here w (read_again law p m bound _ source here b w) (is_alike p m bound _ valid b.0 w)))
    (cases_lt 256 (length p.cells)))
    (cases_lt 1024 (length (sites p)))

woven_answers : WovenIsAccepted → (m : Model) (bound : Bounding) → IsBound bound → (input : List ℕ) → IsUtf8 input → length input < 2 ^ 32 → IsAnswered (AnswersProgram Source (PrintsWoven m bound) input)
woven_answers law m bound b input utf8 short = ⊎_elim
    (λ h. let a = an_answer_of_instrument law m bound b h.0 (record { text = input; utf8 = utf8; short = short; read = h.1 }) in (a.0, a.1, AnswersProgram.program h.0 h.1 a.2))
    (λ h. (Refused, refusal_line h.0 h.1, AnswersProgram.refused (Refusing.refused h.0 h.1 h.2)))
    (of_any Source input (known Source input))

parts_answer : (r : Rules) (input : List ℕ) → IsAnswered (AnswersParts (side_for r) (Replays r) input)
parts_answer r input = ⊎_elim
    (λ s. ⊎_elim
    (λ h. let a = replay_answers r h.0 s.1 in (a.0, a.1, AnswersParts.both s.0 s.1 h.0 s.2 h.1 a.2))
    (λ h. (Refused, refusal_line h.0 h.1, AnswersParts.refused s.0 s.1 s.2 (Refusing.refused h.0 h.1 h.2)))
    (of_any (side_for r s.0) s.0 (known (side_for r s.0) s.0)))
    (λ l. (Refused, _, AnswersParts.one_part l))
    (split_or_not input)

-- each instruction that a text is flattened to comes from a place in it
laid_places : (locals : ℕ) (ps : List Placed) → length (laid locals ps).places ≡ length (laid locals ps).code
laid_places locals ps = length-map ps (λ (q : Placed). q.at) ∙ sym (length-map ps (λ (q : Placed). q.instr))

has_places : (side : Side) (tree : Tree) → HasPlaces (program_of side tree)
has_places side tree t thread e = by (threads_in (parts_of side tree.items)) t e
  where
    by : (fs : List Ident) (t : ℕ) → slice_get (map (thread_of (parts_of side tree.items) tree.items) fs) t ≡ Some thread → length thread.places ≡ length thread.code
    by [] zero f = absurd (cc)
    by [] (suc t) f = absurd (cc)
    by (g ∷ fs) zero f = let same : thread_of (parts_of side tree.items) tree.items g ≡ thread = cc in subst (λ (x : Thread). length x.places ≡ length x.code) same (laid_places (locals_of (parts_of side tree.items) tree.items g) (lay (all_to (end_of (parts_of side tree.items) tree.items g)) (flow_of (parts_of side tree.items) tree.items g) 0))
    by (g ∷ fs) (suc t) f = by fs t f

report_answers : (m : Model) (bound : Bounding) (input : List ℕ) → IsAnswered (AnswersProgram Source (ReportsCycles m bound) input)
report_answers m bound input = ⊎_elim
    (λ h. let a = an_answer_of_cycles h.0 (subst HasPlaces (sym h.1.flat) (has_places Source h.1.tree)) m bound in (a.0, a.1, AnswersProgram.program h.0 h.1 a.2))
    (λ h. (Refused, refusal_line h.0 h.1, AnswersProgram.refused (Refusing.refused h.0 h.1 h.2)))
    (of_any Source input (known Source input))

text_answers : WovenIsAccepted → (s : Settings) → IsThere s → (input : List ℕ) → IsUtf8 input → length input < 2 ^ 32 → IsAnswered (AnswersText s input)
text_answers law (Instrument m bound) t input utf8 short = woven_answers law m bound t input utf8 short
text_answers law (Cycles m bound) t input utf8 short = report_answers m bound input
text_answers law ReplaySc t input utf8 short = parts_answer Sc input
text_answers law (Replay m bound) t input utf8 short = parts_answer (Buffered m bound) input

pub an_answer : WovenIsAccepted → (s : Settings) → IsThere s → (input : List ℕ) → length input ≤ 16777216 → IsAnswered (AnswersWhole s input)
an_answer law s t input short = ⊎_elim
    (λ u. let a = text_answers law s t input u (omega (arith, short)) in (a.0, a.1, AnswersWhole.text u a.2))
    (λ n. (Refused, refusal_line n.0 (codes "not UTF-8"), AnswersWhole.no_text n.0 n.1))
    (text_or_not input)
