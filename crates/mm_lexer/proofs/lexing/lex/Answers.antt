use Rattle.std.proofs.Common.{◌≡◌, refl, sym, subst, rules, List, [], ◌∷◌, ℕ, take, drop}
use Rattle.std.specs.Str.{chars}
use Rattle.mm_lexer.specs.Place.{start}
use Rattle.mm_lexer.specs.Tokens.{Reads, AreTokens, HasToken, token_at}
use Rattle.mm_lexer.specs.Piece.{piece_at}
use Rattle.mm_lexer.specs.declared.place.Place.{Place}
use Rattle.mm_lexer.specs.Place.{past_all}
use Rattle.mm_lexer.specs.declared.piece.Piece.TheVariants.{End}
use Rattle.mm_lexer.specs.declared.piece.Piece.TheVariants as piece
use Rattle.mm_lexer.specs.declared.token.TokenKind.{TokenKind}
use Rattle.mm_lexer.specs.declared.token.Token.{Token}
use Rattle.mm_lexer.proofs.Spans.{all_spans, all_in_order}
use Rattle.mm_lexer.proofs.Pieces.{end_is_nil, gap_shorter, token_shorter}
use Rattle.mm_lexer.proofs.Reading.{gap_more, token_more}
use Rattle.mm_lexer.proofs.lexing.lex.Goals as goal

read_all : {text cs : List ℕ} {ts : List Token} {q : Place} → Reads start (chars text) ts q cs → piece_at q.is_head cs ≡ End → AreTokens text ts
read_all {text} {cs} {ts} {q} r e = record { end = q; read = subst (λ (rest : List ℕ). Reads start (chars text) ts q rest) (end_is_nil q.is_head cs e) r }

-- behind what was read stands one token more
one_more_token : {text cs : List ℕ} {ts : List Token} {q : Place} {kind : TokenKind} {n : ℕ} → Reads start (chars text) ts q cs → piece_at q.is_head cs ≡ piece.Token kind n → HasToken text
one_more_token {cs = cs} {ts = []} {q = q} {kind = kind} {n = n} r e = record { first = token_at kind q (take n cs); others = []; place = past_all q (take n cs); rest = drop n cs; read = token_more r e refl }
one_more_token {cs = cs} {ts = t ∷ ts} {q = q} r e = record { first = t; others = ts; place = q; rest = cs; read = r }

pub loop-tokens-init : goal.loop-tokens-init
loop-tokens-init c = record { read = rw (c.new-tokens.ensures.items, c.start-place.ensures) Reads.none; room = search rules; text = c.utf8.text }

pub returns-in-End-clause-tokens : goal.returns-in-End-clause-tokens
returns-in-End-clause-tokens c = read_all c.loop-tokens.invariant.read (sym c.in-End.ensures)

pub returns-in-End-clause-spans : goal.returns-in-End-clause-spans
returns-in-End-clause-spans c = all_spans _ _ c.utf8.text (read_all c.loop-tokens.invariant.read (sym c.in-End.ensures))

pub returns-in-End-clause-in_order : goal.returns-in-End-clause-in_order
returns-in-End-clause-in_order c = all_in_order _ _ (read_all c.loop-tokens.invariant.read (sym c.in-End.ensures))

pub loop-tokens-smaller-in-Gap : goal.loop-tokens-smaller-in-Gap
loop-tokens-smaller-in-Gap c = rw c.after.ensures.rest (gap_shorter _ _ _ (sym c.in-Gap.ensures))

pub loop-tokens-preserved-in-Gap : goal.loop-tokens-preserved-in-Gap
loop-tokens-preserved-in-Gap c = record { read = rw (c.after.ensures.place, c.after.ensures.rest) (gap_more c.loop-tokens.invariant.read (sym c.in-Gap.ensures)); room = c.after.ensures.room; text = search rules }

pub loop-tokens-smaller : goal.loop-tokens-smaller
loop-tokens-smaller c = rw c.after-in-Token.ensures.rest (token_shorter _ _ _ _ (sym c.in-Token.ensures))

pub loop-tokens-preserved : goal.loop-tokens-preserved
loop-tokens-preserved c = record { read = rw (c.in_ok-push-in-Token.ensures.items, c.after-in-Token.ensures.place, c.after-in-Token.ensures.rest) (token_more c.loop-tokens.invariant.read (sym c.in-Token.ensures) refl); room = c.after-in-Token.ensures.room; text = search rules }

pub returns-in_err-push-in-Token-clause-memory : goal.returns-in_err-push-in-Token-clause-memory
returns-in_err-push-in-Token-clause-memory c = let known : HasToken c.args.text.now = one_more_token c.loop-tokens.invariant.read (sym c.in-Token.ensures) in search (rules, known)
