-- The tree of every text is grammatical.
use Rattle.std.proofs.Common.{arith, ◌≡◌, refl, subst, ℕ, ◌<◌, ◌≤◌, ◌^◌, List, [], length, map}
use Rattle.std.proofs.lemmas.List.{length-map}
use Rattle.std.specs.List.{AllByRecursion}
use Rattle.std.specs.Str.{IsUtf8}
use Rattle.mm_tree.specs.declared.item.Tree.{Tree}
use Rattle.mm_tree.specs.declared.side.Side.{Side}
use Rattle.mm_tree.specs.declared.side.Side.TheVariants.{Source, Output}
use Rattle.mm_parse_expr.specs.declared.terminal.Terminal.{Terminal}
use Rattle.mm_parse_expr.specs.Terminals.{terminal_of}
use Rattle.mm_grammar.specs.Meaning.{IsTreeOf}
use Rattle.mm_grammar.specs.Nesting.{limits, nothing}
use Rattle.mm_sourcelike.specs.Ints.{asserts_of}
use Rattle.mm_sourcelike.specs.Grammatical.{IsGrammatical, IsPhrase, item_phrases, most_tokens}
use Rattle.mm_sourcelike.proofs.TextStreams.{Stream}
use Rattle.mm_sourcelike.proofs.TextItems.{ItemsRead, items_read}
use Rattle.mm_sourcelike.proofs.TextTokens.{tokens_proper, few_tokens, shallow_stream}

limit : (side : Side) → (limits side).tokens ≡ most_tokens side
limit Source = refl
limit Output = refl

some : (side : Side) → 1 ≤ (limits side).tokens
some Source = omega arith
some Output = omega arith

pub text_is_grammatical : (side : Side) (text : List ℕ) (tree : Tree) → IsUtf8 text → length text < 2 ^ 32 → IsTreeOf side text tree → IsGrammatical side tree
text_is_grammatical side text tree utf8 small is =
    let most : ℕ = (limits side).tokens in
    let ts : List Terminal = map (terminal_of text) is.tokens in
    let stream : Stream most 0 ts = shallow_stream side nothing ts is.shallow (tokens_proper text is.tokens utf8 is.cut) (omega arith) in
    let read : ItemsRead most ts tree.items [] = items_read most (some side) is.parsed 0 stream in
    let few : asserts_of tree.items < 2 ^ 32 = omega (arith, read.few, few_tokens text is.tokens utf8 is.cut, small, length-map is.tokens (terminal_of text)) in
    record {
      ints = record { numbers = read.ints; asserts = few };
      scoped = read.scoped;
      phrases = subst (λ (n : ℕ). AllByRecursion (IsPhrase n) (item_phrases tree.items)) (limit side) read.phrases;
      globals = read.globals;
      mutexes = read.mutexes;
    }
