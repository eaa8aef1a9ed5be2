-- Where the reader of programs gives a fault the terminals are no program; where it gives a tree it took all of them.
use Rattle.std.proofs.Common.{◌≡◌, ℕ, zero, suc, ◌<◌, List, [], ◌∷◌, length, Option, Some, None, refl, subst}
use Rattle.mm_tree.specs.declared.item.Item.{Item}
use Rattle.mm_tree.specs.declared.item.Tree.{Tree}
use Rattle.mm_reading.specs.Parsing.{Outcome, Parsed, Fault, ◌>>=◌, pure, fail, peek, skip}
use Rattle.mm_reading.specs.Runs.{IsFirstRefusal}
use Rattle.mm_reading.proofs.LongestRuns.{fault_refuses}
use Rattle.mm_reading.proofs.Sounding.{SoundAt, sound_after}
use Rattle.mm_parse_expr.specs.declared.terminal.Terminal.{Terminal}
use Rattle.mm_parse_expr.specs.reading.ExprReading.{Reader}
use Rattle.mm_parse_expr.proofs.Follow.{Any}
use Rattle.mm_grammar.specs.ProgramGrammar.{IsProgram}
use Rattle.mm_grammar.specs.reading.ProgramReading as r
use Rattle.mm_grammar.proofs.ProgramComplete.{program_complete}
use Rattle.mm_grammar.proofs.ProgramSound.{program_sound}
use Rattle.mm_grammar.proofs.ProgramReads.{IsEnd, program_reads}

-- ---- trees

-- nothing is left
abbrev Whole : {A : Type 0} → A → List Terminal → Type 0
Whole a rest = rest ≡ []

anything : {A : Type 0} (o : Outcome Terminal A) → SoundAt (λ a rest. Unit {0}) o
anything (Parsed a rest) = tt
anything (Fault rest) = tt

begun_whole : (inner : Reader (List Item)) → ((ts : List Terminal) → SoundAt Whole (inner ts)) → (o : Option (Reader Item)) (t : Terminal) (ts : List Terminal) → SoundAt Whole (r.items_begun o inner (t ∷ ts))
unfolding fail skip pure
begun_whole inner k None t ts = tt
begun_whole inner k (Some p) t ts = sound_after (λ i mid. Unit {0}) Whole (p ts) (λ i. inner >>= λ is. pure (i ∷ is)) (anything (p ts))
    (λ i mid u. sound_after Whole Whole (inner mid) (λ is. pure (i ∷ is)) (k mid) (λ is rest e. e))

items_whole : (n : ℕ) (ts : List Terminal) → SoundAt Whole (r.items n ts)
unfolding r.items peek fail pure
items_whole zero ts = tt
items_whole (suc n) [] = refl
items_whole (suc n) (t ∷ ts) = begun_whole (r.items n) (items_whole n) (r.item_by n t.symbol) t ts

-- a tree is of all the terminals
pub program_whole : (n : ℕ) (ts rest : List Terminal) (tree : Tree) → r.program n ts ≡ Parsed tree rest → rest ≡ []
unfolding r.program pure
program_whole n ts rest tree e = subst (λ (o : Outcome Terminal Tree). SoundAt Whole o) e (sound_after Whole Whole (r.items n ts) (λ is. pure (r.program_of is)) (items_whole n ts) (λ is rest e. e))

-- ---- faults

-- the terminals behind a fault stand behind the longest run that begins a program
pub program_fault : (n : ℕ) (ts rest : List Terminal) → length ts < n → r.program n ts ≡ Fault rest → IsFirstRefusal IsProgram ts rest
program_fault n ts rest l e = fault_refuses IsProgram Any IsEnd (λ m. r.program m) tt program_sound (λ ts tree d m l. program_complete ts tree d m l) n ts rest l ((program_reads n).at ts l) e
