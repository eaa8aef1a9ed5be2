-- The printed text of a printable program is cut into tokens, and these are read as the program.
use Rattle.std.proofs.Common.{◌≡◌, ℕ, ◌⊎◌, inl, inr, List, [], map, None, sym, ◌∙◌, ap, subst}
use Rattle.std.proofs.lemmas.List.Elements.{recursion_from_All}
use Rattle.mm_goto.specs.declared.shape.Head.{Head}
use Rattle.mm_lexer.specs.declared.token.LexFault.{LexFault}
use Rattle.mm_lexer.specs.declared.token.Token.{Token}
use Rattle.mm_lexer.specs.Tokens.{AreTokens, IsFirstFault}
use Rattle.mm_lexer.proofs.Spans.{tokens_say, not_refused}
use Rattle.mm_lexer.proofs.Unique.{tokens_and_fault, tokens_unique}
use Rattle.mm_tree.specs.declared.item.Tree.{Tree}
use Rattle.mm_tree.specs.declared.side.Side.{Side}
use Rattle.mm_tree.specs.declared.side.Side.TheVariants.{Output}
use Rattle.mm_tree.specs.Places.{without_places}
use Rattle.mm_parse_expr.specs.Terminals.{terminal_of}
use Rattle.mm_grammar.specs.Meaning.{IsTreeOf}
use Rattle.mm_grammar.specs.Nesting.{deep_at}
use Rattle.mm_grammar.specs.ProgramGrammar.{AreItems, IsProgram}
use Rattle.mm_grammar.proofs.ProgramComplete.{one_program}
use Rattle.mm_print.specs.Items.{items_pieces, printed_text}
use Rattle.mm_print.specs.Printable.{IsPrintableItem, IsPrintableTree}
use Rattle.mm_print.specs.Room.{IsRoomy, IsRoomyTree}
use Rattle.mm_print.proofs.Heads.{Begins, head_begins}
use Rattle.mm_print.proofs.Signs.{laid, lexeme, places, terminals_laid}
use Rattle.mm_print.proofs.Spelling.{signs, pieces_say}
use Rattle.mm_print.proofs.ItemReads.{items_fit, items_read}
use Rattle.mm_print.proofs.Roomy.{roomy_is_shallow}

-- it is cut into tokens, and these are a program with this tree but for the places
record IsReadBack (text : List ℕ) (t : Tree) : Type 0 where
  tokens : List Token
  cut : AreTokens text tokens
  tree : Tree
  parsed : IsProgram (map (terminal_of text) tokens) tree
  same : without_places tree ≡ without_places t

begins : (t : Tree) (h : Head) → IsPrintableTree t → Begins (printed_text t h) (signs (items_pieces t.items))
begins t h p = head_begins h (pieces_say (items_pieces t.items) (items_fit t.items (recursion_from_All IsPrintableItem t.items p)))

-- its tokens are those of its pieces
terminals_of : (t : Tree) (h : Head) (ts : List Token) → IsPrintableTree t → AreTokens (printed_text t h) ts → map (terminal_of (printed_text t h)) ts ≡ laid (places ts) (signs (items_pieces t.items))
terminals_of t h ts p a =
    let b = begins t h p in
    terminals_laid (printed_text t h) ts (signs (items_pieces t.items)) (tokens_say (printed_text t h) (map lexeme (signs (items_pieces t.items))) ts b.utf8 b.spells a) b.signs

read_back : (t : Tree) (h : Head) → IsPrintableTree t → IsReadBack (printed_text t h) t
read_back t h p = by (tokens_and_fault (printed_text t h))
  where
    of_tokens : (ts : List Token) → AreTokens (printed_text t h) ts → IsReadBack (printed_text t h) t
    of_tokens ts a =
        let r = items_read t.items (recursion_from_All IsPrintableItem t.items p) (places ts) in
        record { tokens = ts; cut = a; tree = record { items = r.tree }; parsed = subst (λ us. AreItems us r.tree []) (sym (terminals_of t h ts p a)) r.parsed; same = λ i. record { items = r.same i } }

    by : ((ts : List Token) × AreTokens (printed_text t h) ts) ⊎ ((f : LexFault) × IsFirstFault (printed_text t h) f) → IsReadBack (printed_text t h) t
    by (inl (ts, a)) = of_tokens ts a
    by (inr (f, e)) = let b = begins t h p in absurd (not_refused (printed_text t h) (map lexeme (signs (items_pieces t.items))) f b.utf8 b.spells e)

pub is_cut : (t : Tree) (h : Head) → IsPrintableTree t → (ts : List Token) × AreTokens (printed_text t h) ts
is_cut t h p = let r = read_back t h p in (r.tokens, r.cut)

-- where no limit of the side refuses it, it has the tree
pub is_read : (side : Side) (t : Tree) (h : Head) (ts : List Token) → IsPrintableTree t → AreTokens (printed_text t h) ts → deep_at side (map (terminal_of (printed_text t h)) ts) ≡ None → (u : Tree) × IsTreeOf side (printed_text t h) u × (without_places u ≡ without_places t)
is_read side t h ts p a k =
    let r = read_back t h p in
    let e = tokens_unique (printed_text t h) ts r.tokens a r.cut in
    (r.tree, record { tokens = r.tokens; cut = r.cut; shallow = subst (λ us. deep_at side (map (terminal_of (printed_text t h)) us) ≡ None) e k; parsed = r.parsed }, r.same)

-- and no other
pub read_alone : (side : Side) (t u : Tree) (h : Head) → IsPrintableTree t → IsTreeOf side (printed_text t h) u → without_places u ≡ without_places t
read_alone side t u h p d =
    let r = read_back t h p in
    let e = tokens_unique (printed_text t h) d.tokens r.tokens d.cut r.cut in
    let q : IsProgram (map (terminal_of (printed_text t h)) r.tokens) u = subst (λ us. IsProgram (map (terminal_of (printed_text t h)) us) u) e d.parsed in
    ap without_places (one_program (map (terminal_of (printed_text t h)) r.tokens) u r.tree q r.parsed) ∙ r.same

-- ---- within the limits of a woven program

printable_of : (t : Tree) → IsRoomyTree t → IsPrintableTree t
printable_of t r = λ k d h. (r k d h).printable

pub is_accepted : (t : Tree) (h : Head) → IsRoomyTree t → (u : Tree) × IsTreeOf Output (printed_text t h) u × (without_places u ≡ without_places t)
is_accepted t h r =
    let p = printable_of t r in
    let c = is_cut t h p in
    is_read Output t h c.0 p c.1 (ap (deep_at Output) (terminals_of t h c.0 p c.1) ∙ roomy_is_shallow t.items (recursion_from_All IsRoomy t.items r) (places c.0))
