-- A text has one goto program or is refused, and not both.
use Rattle.std.proofs.Common.{◌≡◌, ◌≢◌, ℕ, List, map, Option, Some, None, string_bytes, sym, ◌∙◌, ap, subst}
use Rattle.mm_goto.specs.declared.ident.At.{At}
use Rattle.mm_goto.specs.Listing.{Listing}
use Rattle.mm_lexer.specs.declared.token.Token.{Token}
use Rattle.mm_lexer.specs.declared.token.LexFault.{LexFault}
use Rattle.mm_lexer.specs.Tokens.{AreTokens, IsFirstFault}
use Rattle.mm_lexer.proofs.Unique.{tokens_unique, tokens_or_fault}
use Rattle.mm_tree.specs.declared.item.Tree.{Tree}
use Rattle.mm_tree.specs.declared.side.Side.{Side}
use Rattle.mm_flow.specs.declared.fault.Limit.{Limit}
use Rattle.mm_flow.specs.Programs.{limit_passed, program_of}
use Rattle.mm_parse_expr.specs.declared.fault.ParseFault.{ParseFault}
use Rattle.mm_parse_expr.specs.Terminals.{terminal_of}
use Rattle.mm_parse.specs.Faults.{IsFault, Parses}
use Rattle.mm_grammar.specs.Meaning.{IsTreeOf}
use Rattle.mm_grammar.specs.ProgramGrammar.{IsProgram}
use Rattle.mm_grammar.proofs.ProgramComplete.{one_program as one_grammar_tree}
use Rattle.mm_lexer.specs.declared.token.LexFault.TheVariants as lex_fault
use Rattle.mm_parse_expr.specs.declared.fault.ParseFault.TheVariants as parse_fault
use Rattle.mm_run.specs.declared.program.ProgramFault.{ProgramFault}
use Rattle.mm_run.specs.declared.program.ProgramFault.TheVariants as program_fault
use Rattle.mm_run.specs.Refusal.{Rejects, Says, Tells}
use Rattle.mm_run.specs.declared.status.Status.{Status}
use Rattle.mm_run.specs.Answer.{Refusing}
use Rattle.mm_names.specs.declared.refusal.NameFault.{NameFault}
use Rattle.mm_names.specs.declared.refusal.NameFault.TheVariants as name_fault
use Rattle.mm_names.specs.Programs.{IsAccepted as MakesSense, IsRefused as IsNameFault}
use Rattle.mm_names.proofs.Decided.{never_both}
use Rattle.mm_run.specs.Program.{HasFault, HasNameFault, IsNoProgram, IsProgramText, PassesLimit}

-- the tree of the tokens is that of the text
pub tree_of : (side : Side) (text : List ℕ) (tokens read : List Token) (tree : Tree) → read ≡ tokens → AreTokens text tokens → Parses side text read tree → IsTreeOf side text tree
tree_of side text tokens read tree same cut h = let there : Parses side text tokens tree = subst (λ (ts : List Token). Parses side text ts tree) same h in record { tokens = tokens; cut = cut; shallow = there.shallow; parsed = there.program }

pub one_tree : (side : Side) (text : List ℕ) (a b : Tree) → IsTreeOf side text a → IsTreeOf side text b → a ≡ b
one_tree side text a b h k =
    let same : h.tokens ≡ k.tokens = tokens_unique text h.tokens k.tokens h.cut k.cut in
    one_grammar_tree (map (terminal_of text) h.tokens) a b h.parsed (subst (λ (ts : List Token). IsProgram (map (terminal_of text) ts) b) (sym same) k.parsed)

pub one_program : (side : Side) (text : List ℕ) (p q : Listing) → IsProgramText side text p → IsProgramText side text q → p ≡ q
one_program side text p q h k =
    let same : h.tree ≡ k.tree = one_tree side text h.tree k.tree h.read k.read in
    h.flat ∙ ap (program_of side) same ∙ sym k.flat

-- a text that has a tree has no fault of its tokens and none of the grammar
module _ (side : Side) (text : List ℕ) (tree : Tree) (h : IsTreeOf side text tree) where
  pub no_fault : (fault : LexFault) → IsFirstFault text fault → ⊥
  no_fault fault f = tokens_or_fault text h.tokens fault h.cut f

  never : {at : At} {o : Option At} → o ≡ None → o ≡ Some at → ⊥
  never e f = cc

  parsed : (fault : ParseFault) → IsFault side text h.tokens fault → ⊥
  parsed fault (IsFault.too_deep at e) = never h.shallow e
  parsed fault (IsFault.no_program rest e f) = f.none tree h.parsed

  pub no_parse_fault : (fault : ParseFault) → HasFault side text fault → ⊥
  no_parse_fault fault f = parsed fault (subst (λ (ts : List Token). IsFault side text ts fault) (tokens_unique text f.tokens h.tokens f.cut h.cut) f.fails)

-- nor has one that makes sense a fault of its names and types
pub no_name_fault : (side : Side) (text : List ℕ) (tree : Tree) → IsTreeOf side text tree → MakesSense side tree → (fault : NameFault) → HasNameFault side text fault → ⊥
no_name_fault side text tree read sense fault f = never_both side tree fault sense (subst (λ (t : Tree). IsNameFault side t fault) (one_tree side text f.tree tree f.read read) f.fails)

-- nor does it pass a limit where it passes none
pub no_limit : (side : Side) (text : List ℕ) (tree : Tree) → IsTreeOf side text tree → limit_passed side tree ≡ None → (limit : Limit) → PassesLimit side text limit → ⊥
no_limit side text tree read none limit f = never (subst (λ (t : Tree). limit_passed side t ≡ None) (one_tree side text tree f.tree read f.read) none) f.passed
  where
    never : {o : Option Limit} → o ≡ None → o ≡ Some limit → ⊥
    never e f = cc

module _ (side : Side) (text : List ℕ) (tree : Tree) (read : IsTreeOf side text tree) (sense : MakesSense side tree) (within : limit_passed side tree ≡ None) where
  pub is_program : (at : At) (why : List ℕ) → IsNoProgram side text at why → ⊥
  is_program at why (IsNoProgram.bad_token q f) = no_fault side text tree read _ f
  is_program at why (IsNoProgram.large_number q f) = no_fault side text tree read _ f
  is_program at why (IsNoProgram.too_deep q f) = no_parse_fault side text tree read _ f
  is_program at why (IsNoProgram.outside word q f) = no_parse_fault side text tree read _ f
  is_program at why (IsNoProgram.bad_syntax q f) = no_parse_fault side text tree read _ f
  is_program at why (IsNoProgram.no_main q f) = no_name_fault side text tree read sense _ f
  is_program at why (IsNoProgram.reserved q f) = no_name_fault side text tree read sense _ f
  is_program at why (IsNoProgram.output_only q f) = no_name_fault side text tree read sense _ f
  is_program at why (IsNoProgram.twice q f) = no_name_fault side text tree read sense _ f
  is_program at why (IsNoProgram.unknown q f) = no_name_fault side text tree read sense _ f
  is_program at why (IsNoProgram.wrong_type q f) = no_name_fault side text tree read sense _ f
  is_program at why (IsNoProgram.bad_thread q f) = no_name_fault side text tree read sense _ f
  is_program at why (IsNoProgram.recursion q f) = no_name_fault side text tree read sense _ f
  is_program at why (IsNoProgram.too_many limit f) = no_limit side text tree read within limit f

pub not_refused : (side : Side) (text : List ℕ) (p : Listing) → IsProgramText side text p → (status : Status) (out : List ℕ) → Refusing side text status out → ⊥
not_refused side text p h status out (Refusing.refused at why r) = is_program side text h.tree h.read h.sense h.within at why r

-- ---- what a fault says

-- a fault that says why the text is no program rejects it
pub rejects : (side : Side) (text : List ℕ) (at : At) (why : List ℕ) (fault : ProgramFault) → IsNoProgram side text at why → Says fault at why → Rejects side text fault
rejects side text at why (program_fault.Refused r) h s = rw (s.0, s.1) h
rejects side text at why program_fault.NoMemory h s = tt

-- what a fault tells is the answer
pub rejects_any : (side : Side) (text : List ℕ) (fault : ProgramFault) (s : Status) (out : List ℕ) → Tells fault s out → Rejects side text fault → Refusing side text s out
rejects_any side text (program_fault.Refused r) s out t h = rw (t.0, t.1) (Refusing.refused r.at (string_bytes r.why) h)
rejects_any side text program_fault.NoMemory s out t h = absurd t

-- a fault that is known, of tokens
pub lexed : (text : List ℕ) (fault f : LexFault) → fault ≡ f → (f ≡ lex_fault.NoMemory → ⊥) → (fault ≢ lex_fault.NoMemory → IsFirstFault text fault) → IsFirstFault text f
lexed text fault f e n h = subst (λ (x : LexFault). IsFirstFault text x) e (h (λ m. n (sym e ∙ m)))

-- and of the grammar
pub known : (side : Side) (text : List ℕ) (tokens : List Token) (fault f : ParseFault) → AreTokens text tokens → fault ≡ f → (f ≡ parse_fault.NoMemory → ⊥) → (fault ≢ parse_fault.NoMemory → IsFault side text tokens fault) → HasFault side text f
known side text tokens fault f t e n h = record { tokens = tokens; cut = t; fails = subst (λ (x : ParseFault). IsFault side text tokens x) e (h (λ m. n (sym e ∙ m))) }

-- and of names and types
pub sensed : (side : Side) (text : List ℕ) (tree : Tree) (fault f : NameFault) → IsTreeOf side text tree → fault ≡ f → (f ≡ name_fault.NoMemory → ⊥) → (fault ≢ name_fault.NoMemory → IsNameFault side tree fault) → HasNameFault side text f
sensed side text tree fault f t e n h = record { tree = tree; read = t; fails = subst (λ (x : NameFault). IsNameFault side tree x) e (h (λ m. n (sym e ∙ m))) }
