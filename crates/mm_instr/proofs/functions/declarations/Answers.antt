use Rattle.std.proofs.Common.{arith, ◌≡◌, ◌++◌, ◌∷◌, [], ◌∙◌, sym, ap, map}
use Rattle.std.specs.List.{range_with_len}
use Rattle.std.proofs.lemmas.List.FromFn.{map-range_with_len_more}
use Rattle.mm_words.specs.Words.{declare}
use Rattle.mm_templates.specs.Names.{local_name}
use Rattle.mm_instr.proofs.functions.declarations.Goals as goal

pub loop-l-preserved : goal.loop-l-preserved
loop-l-preserved c =
    c.in_ok-add.ensures
    ∙ ap (λ s. c.loop-l.stmts.items ++ s ∷ []) c.in_ok-local_declaration.ensures
    ∙ ap (λ ss. ss ++ declare (local_name c.loop-l.l) ∷ []) c.loop-l.invariant
    ∙ sym (map-range_with_len_more (λ k. declare (local_name k)) 0 c.loop-l.l c.loop-l.l (omega arith))

pub returns : goal.returns
returns c = let all : c.loop-l.l ≡ c.args.locals = omega arith in c.loop-l.invariant ∙ ap (λ n. map (λ k. declare (local_name k)) (range_with_len 0 n)) all
