-- Which texts are programs for a command, and why and where another is refused.
use Rattle.std.specs.Prelude.{◌≡◌, ℕ, nat_eq, Bool, if◌then◌else◌, List, ◌++◌, codes, Some, None}
use Rattle.std.specs.List.{starts_with}
use Rattle.mm_goto.specs.declared.ident.At.{At}
use Rattle.mm_goto.specs.declared.ident.Ident.{Ident}
use Rattle.mm_goto.specs.Listing.{Listing}
use Rattle.mm_goto.specs.Place.{start}
use Rattle.mm_sched.specs.declared.entry.Rules.{Rules}
use Rattle.mm_sched.specs.declared.entry.Rules.TheVariants.{Sc, Buffered, Partial}
use Rattle.mm_lexer.specs.declared.token.Token.{Token}
use Rattle.mm_lexer.specs.declared.token.LexFault.TheVariants.{BadToken, NumberTooLarge}
use Rattle.mm_lexer.specs.Tokens.{AreTokens, IsFirstFault}
use Rattle.mm_tree.specs.declared.item.Tree.{Tree}
use Rattle.mm_tree.specs.declared.side.Side.{Side}
use Rattle.mm_tree.specs.declared.side.Side.TheVariants.{Source, Output}
use Rattle.mm_flow.specs.declared.fault.Limit.{Limit}
use Rattle.mm_flow.specs.declared.fault.Limit.TheVariants.{Threads, NestedCalls, Instructions, Locals, Mutexes, Cells}
use Rattle.mm_flow.specs.Programs.{limit_passed, program_of}
use Rattle.mm_parse_expr.specs.declared.fault.ParseFault.{ParseFault}
use Rattle.mm_parse_expr.specs.declared.fault.ParseFault.TheVariants.{TooDeep, OutsideProfile, BadSyntax}
use Rattle.mm_parse.specs.Faults.{IsFault}
use Rattle.mm_names.specs.declared.refusal.NameFault.{NameFault}
use Rattle.mm_names.specs.declared.refusal.NameFault.TheVariants.{NoMain, ReservedName, OutputOnly, TwiceDeclared, UnknownName, WrongType, BadThread, Recursion}
use Rattle.mm_names.specs.Programs.{IsAccepted as MakesSense, IsRefused as IsNameFault}
use Rattle.mm_grammar.specs.Meaning.{IsTreeOf}

-- the text begins as a printed program does
abbrev pub is_printed : List ℕ → Bool
is_printed text = starts_with nat_eq text (codes "/* goto-mm 1")

-- Without buffers a printed program is run too: an atomic section leaves no store behind. With buffers every text is a source.
abbrev pub side_for : Rules → List ℕ → Side
side_for Sc text = if is_printed text then Output else Source
side_for (Buffered m bound) text = Source
side_for (Partial m bound buffered) text = Source

-- The text has the tree of a program whose names and types make sense, and which passes no limit, and flattened it is this goto
-- program.
pub record IsProgramText (side : Side) (text : List ℕ) (p : Listing) : Type 0 where
  pub tree : Tree
  pub read : IsTreeOf side text tree
  pub sense : MakesSense side tree
  pub within : limit_passed side tree ≡ None
  pub flat : p ≡ program_of side tree

-- the text has tokens, and this is their fault
pub record HasFault (side : Side) (text : List ℕ) (fault : ParseFault) : Type 0 where
  pub tokens : List Token
  pub cut : AreTokens text tokens
  pub fails : IsFault side text tokens fault

-- the text has a tree, and this is the fault of its names and types
pub record HasNameFault (side : Side) (text : List ℕ) (fault : NameFault) : Type 0 where
  pub tree : Tree
  pub read : IsTreeOf side text tree
  pub fails : IsNameFault side tree fault

-- the text has the tree of a program that makes sense, and this is the first limit that it passes
pub record PassesLimit (side : Side) (text : List ℕ) (limit : Limit) : Type 0 where
  pub tree : Tree
  pub read : IsTreeOf side text tree
  pub sense : MakesSense side tree
  pub passed : limit_passed side tree ≡ Some limit

-- what is said of a limit that is passed
abbrev pub limit_words : Limit → List ℕ
limit_words Threads = codes "too many threads"
limit_words NestedCalls = codes "too many nested calls"
limit_words Instructions = codes "too many instructions"
limit_words Locals = codes "too many locals"
limit_words Mutexes = codes "too many mutexes"
limit_words Cells = codes "too many cells"

-- the text is no program: at the place, for what these words say, the first of the stages of reading refuses it
pub data IsNoProgram (side : Side) (text : List ℕ) : At → List ℕ → Type 0 where
  bad_token : (at : At)
      → IsFirstFault text (BadToken at)
      → IsNoProgram side text at (codes "bad token")
  large_number : (at : At)
      → IsFirstFault text (NumberTooLarge at)
      → IsNoProgram side text at (codes "number too large")
  too_deep : (at : At)
      → HasFault side text (TooDeep at)
      → IsNoProgram side text at (codes "too deep")
  outside : (word : Ident) (at : At)
      → HasFault side text (OutsideProfile word at)
      → IsNoProgram side text at (codes "outside profile: " ++ word)
  bad_syntax : (at : At)
      → HasFault side text (BadSyntax at)
      → IsNoProgram side text at (codes "bad syntax")
  no_main : (at : At)
      → HasNameFault side text (NoMain at)
      → IsNoProgram side text at (codes "no main")
  reserved : (at : At)
      → HasNameFault side text (ReservedName at)
      → IsNoProgram side text at (codes "reserved name")
  output_only : (at : At)
      → HasNameFault side text (OutputOnly at)
      → IsNoProgram side text at (codes "output only")
  twice : (at : At)
      → HasNameFault side text (TwiceDeclared at)
      → IsNoProgram side text at (codes "declared twice")
  unknown : (at : At)
      → HasNameFault side text (UnknownName at)
      → IsNoProgram side text at (codes "unknown name")
  wrong_type : (at : At)
      → HasNameFault side text (WrongType at)
      → IsNoProgram side text at (codes "wrong type")
  bad_thread : (at : At)
      → HasNameFault side text (BadThread at)
      → IsNoProgram side text at (codes "bad thread")
  recursion : (at : At)
      → HasNameFault side text (Recursion at)
      → IsNoProgram side text at (codes "recursion")
  too_many : (limit : Limit)
      → PassesLimit side text limit
      → IsNoProgram side text start (limit_words limit)
