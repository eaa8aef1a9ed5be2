use Rattle.std.proofs.Common.{arith, ◌≡◌, ◌+◌, ◌-◌, ◌++◌, ◌∷◌, [], ◌∙◌, sym, ap, map, append_assoc}
use Rattle.std.specs.List.{range_with_len}
use Rattle.std.proofs.lemmas.List.FromFn.{map-range_with_len_more}
use Rattle.mm_words.specs.Words.{thread_variable}
use Rattle.mm_templates.specs.Names.{handle_name}
use Rattle.mm_instr.proofs.items.put_handles.Goals as goal

pub loop-k-preserved : goal.loop-k-preserved
loop-k-preserved c =
    let named : c.in_ok-next.field-0 ≡ c.loop-k.k + 1 = c.in_ok-next.ensures in
    c.in_ok-add.ensures
    ∙ ap (λ s. c.loop-k.out.items ++ s ∷ []) (c.in_ok-handle.ensures ∙ ap (λ u. thread_variable (handle_name u)) named)
    ∙ ap (λ ss. ss ++ thread_variable (handle_name (c.loop-k.k + 1)) ∷ []) c.loop-k.invariant
    ∙ append_assoc c.args.out.now.items _ _
    ∙ ap (λ ss. c.args.out.now.items ++ ss) (sym (map-range_with_len_more (λ u. thread_variable (handle_name u)) 1 c.loop-k.k (c.loop-k.k + 1) (omega arith)))

pub returns : goal.returns
returns c = let all : c.loop-k.k ≡ c.args.threads - 1 = omega arith in c.loop-k.invariant ∙ ap (λ n. c.args.out.now.items ++ map (λ u. thread_variable (handle_name u)) (range_with_len 1 n)) all
