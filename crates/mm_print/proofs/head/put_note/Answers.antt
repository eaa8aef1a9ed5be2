use Rattle.std.proofs.Common.{◌≡◌, ◌++◌, List, ℕ, ◌∙◌, codes, append_assoc}
use Rattle.std.proofs.lemmas.Result.{on_ok_weaker}
use Rattle.mm_print.specs.HeadLines.{comment_line, note_line}
use Rattle.mm_print.proofs.head.put_note.Goals as goal

note_parts : (out o1 o2 o3 o4 s p cs : List ℕ) → o1 ≡ out ++ codes "/* buffered #" ++ s → o2 ≡ o1 ++ p → o3 ≡ o2 ++ codes " cycle" → o4 ≡ o3 ++ cs → o4 ++ codes " */\n" ≡ out ++ comment_line (codes " buffered" ++ (codes " #" ++ s) ++ p ++ codes " cycle" ++ cs ++ codes " ")
note_parts out o1 o2 o3 o4 s p cs e g h i = rw (i, h, g, e) (simp append_assoc)

pub returns : goal.returns
unfolding note_line
returns c =
    let cycle = c.items.ensures in
    on_ok_weaker c.put-2.result (λ e. e ∙ note_parts _ _ _ _ _ _ _ _ c.in_ok-put_with.ensures c.in_ok-put_place.ensures c.in_ok-put.ensures (rw cycle at c.in_ok-put_sites.ensures)) c.put-2.ensures
