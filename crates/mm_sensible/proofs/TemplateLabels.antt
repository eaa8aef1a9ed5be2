-- The labels in what an instruction becomes: its own before the first statement, and no other.
use Rattle.std.proofs.Common.{rules, ◌≡◌, ℕ, Bool, true, false, not, ◌&&◌, if◌then◌else◌, List, [], ◌∷◌, ◌++◌, append_assoc, refl, ◌∙◌, sym, ap}
use Rattle.mm_goto.specs.declared.ident.Ident.{Ident}
use Rattle.mm_goto.specs.declared.model.Model.{Model}
use Rattle.mm_goto.specs.declared.model.Model.TheVariants.{Tso, Pso}
use Rattle.mm_goto.specs.declared.shape.Shape.{Shape}
use Rattle.mm_goto.specs.declared.pure.Pure.{Pure}
use Rattle.mm_goto.specs.declared.program.Target.{Target}
use Rattle.mm_goto.specs.declared.program.Target.TheVariants as target
use Rattle.mm_goto.specs.declared.program.Instr.{Instr}
use Rattle.mm_goto.specs.declared.program.Instr.TheVariants as i
use Rattle.mm_goto.specs.Listing.{Listing}
use Rattle.mm_goto.specs.Shapes.{flag_at}
use Rattle.mm_goto.specs.Sourcelike.{is_section}
use Rattle.mm_tree.specs.declared.expr.Expr.{Expr}
use Rattle.mm_tree.specs.declared.stmt.Stmt.{Stmt}
use Rattle.mm_tree.specs.declared.stmt.StmtNode.{the_lemmas as stmt_lemmas}
use Rattle.mm_names.specs.Items.{labels_of}
use Rattle.mm_names.specs.Labels.{labels_in, all_labels}
use Rattle.mm_words.specs.Words as words
use Rattle.mm_words.specs.Words.{num}
use Rattle.mm_helpers.specs.Helpers.{wm_mem, wm_flush, wm_put, wm_get, wm_set}
use Rattle.mm_templates.specs.Names.{local_name, label_name}
use Rattle.mm_templates.specs.Expressions.{printed, cell_number}
use Rattle.mm_templates.specs.Homes.{is_moved, write_by_name}
use Rattle.mm_templates.specs.Instructions.{reaches_by_pointer, flushed, emptied, emptied_before, drained, value_at, written, added, swapped, plain, loaded, stored, with_buffers, woven_instr}

-- no label stands in the statements
abbrev None_in : List Stmt → Type 0
None_in ss = labels_of ss ≡ []

nothing : None_in []
unfolding all_labels
nothing = refl

pub labels_append : (ss ts : List Stmt) → labels_of (ss ++ ts) ≡ labels_of ss ++ labels_of ts
unfolding all_labels
labels_append [] ts = refl
labels_append (s ∷ ss) ts = ap (λ ws. labels_in s ++ ws) (labels_append ss ts) ∙ sym (append_assoc (labels_in s) (labels_of ss) (labels_of ts))

none_both : (ss ts : List Stmt) → None_in ss → None_in ts → None_in (ss ++ ts)
none_both ss ts h g = labels_append ss ts ∙ ap (λ ws. ws ++ labels_of ts) h ∙ g

none_next : (s : Stmt) (ss : List Stmt) → labels_in s ≡ [] → None_in ss → None_in (s ∷ ss)
unfolding all_labels
none_next s ss h g = ap (λ ws. ws ++ labels_of ss) h ∙ g

assign_none : (x : Ident) (e : Expr) → labels_in (words.assign x e) ≡ []
unfolding words.stmt_of
assign_none x e = search (rules, stmt_lemmas)

assign_elem_none : (x : Ident) (j e : Expr) → labels_in (words.assign_elem x j e) ≡ []
unfolding words.stmt_of
assign_elem_none x j e = search (rules, stmt_lemmas)

assign_call_none : (x f : Ident) (es : List Expr) → labels_in (words.assign_call x f es) ≡ []
unfolding words.stmt_of
assign_call_none x f es = search (rules, stmt_lemmas)

call_none : (f : Ident) (es : List Expr) → labels_in (words.call f es) ≡ []
unfolding words.stmt_of
call_none f es = search (rules, stmt_lemmas)

when_none : (e : Expr) (s : Stmt) → labels_in s ≡ [] → labels_in (words.when e (s ∷ [])) ≡ []
unfolding words.stmt_of all_labels
when_none e s h = search (rules, stmt_lemmas, h)

begin_none : labels_in words.atomic_begin ≡ []
unfolding words.stmt_of
begin_none = search (rules, stmt_lemmas)

end_none : None_in (words.atomic_end ∷ [])
unfolding words.stmt_of all_labels
end_none = search (rules, stmt_lemmas)

section_none : (ss : List Stmt) → None_in ss → None_in (words.section ss)
section_none ss h = none_next words.atomic_begin (ss ++ words.atomic_end ∷ []) begin_none (none_both ss (words.atomic_end ∷ []) h end_none)

module _ (p : Listing) (shape : Shape) where
  written_none : (a : Target) (e : Expr) → labels_in (written p shape a e) ≡ []
  written_none a e = by (is_moved shape.moved a)
    where
      by_name : (a : Target) → labels_in (write_by_name p.cells a e) ≡ []
      by_name (target.Cell c) = assign_none _ e
      by_name (target.Elem first len index) = assign_elem_none _ (printed index) e
      by_name (target.Deref d) = assign_elem_none wm_mem (cell_number (target.Deref d)) e

      by : (b : Bool) → labels_in (if b then words.assign_elem wm_mem (cell_number a) e else write_by_name p.cells a e) ≡ []
      by true = assign_elem_none wm_mem (cell_number a) e
      by false = by_name a

  written_alone : (a : Target) (e : Expr) → None_in (written p shape a e ∷ [])
  written_alone a e = none_next (written p shape a e) [] (written_none a e) nothing

  added_none : (l : ℕ) (a : Target) (e : Pure) → None_in (added p shape l a e)
  added_none l a e =
      let sum : Expr = words.plus (words.var (local_name l)) (printed e) in
      none_next (words.assign (local_name l) (value_at p shape a)) (written p shape a sum ∷ []) (assign_none (local_name l) (value_at p shape a)) (written_alone a sum)

  swapped_none : (l : ℕ) (a : Target) (e f : Pure) → None_in (swapped p shape l a e f)
  swapped_none l a e f =
      let same : Expr = words.equal (words.var (local_name l)) (printed e) in
      let result : Stmt = words.assign (local_name l) same in
      let swap : Stmt = words.when same (written p shape a (printed f) ∷ []) in
      none_next (words.assign (local_name l) (value_at p shape a)) (swap ∷ result ∷ []) (assign_none (local_name l) (value_at p shape a))
      (none_next swap (result ∷ []) (when_none same (written p shape a (printed f)) (written_none a (printed f)))
      (none_next result [] (assign_none (local_name l) same) nothing))

  plain_none : (it : Instr) → None_in (plain p shape it)
  unfolding words.stmt_of all_labels
  plain_none (i.Set l e) = search (rules, stmt_lemmas)
  plain_none (i.Load l a) = search (rules, stmt_lemmas)
  plain_none (i.Store a e) = written_alone a (printed e)
  plain_none (i.Input l) = search (rules, stmt_lemmas)
  plain_none (i.Jump j) = search (rules, stmt_lemmas)
  plain_none (i.Branch e j) = search (rules, stmt_lemmas)
  plain_none (i.Assert e m) = search (rules, stmt_lemmas)
  plain_none (i.Assume e) = search (rules, stmt_lemmas)
  plain_none i.Fence = search (rules, stmt_lemmas)
  plain_none (i.Lock m) = search (rules, stmt_lemmas)
  plain_none (i.Unlock m) = search (rules, stmt_lemmas)
  plain_none (i.Add l a e) = section_none (added p shape l a e) (added_none l a e)
  plain_none (i.Cas l a e f) = section_none (swapped p shape l a e f) (swapped_none l a e f)
  plain_none (i.Start u) = search (rules, stmt_lemmas)
  plain_none (i.Join u) = search (rules, stmt_lemmas)
  plain_none i.AtomBegin = refl
  plain_none i.AtomEnd = refl
  plain_none i.End = search (rules, stmt_lemmas)

  flushed_none : (t j : ℕ) → None_in (flushed shape.points t j)
  flushed_none t j = by (flag_at shape.points t j)
    where
      by : (b : Bool) → None_in (if b then words.call wm_flush [] ∷ [] else [])
      by true = none_next (words.call wm_flush []) [] (call_none wm_flush []) nothing
      by false = nothing

  drained_none : (t j : ℕ) (rest : List Stmt) → None_in rest → None_in (drained shape.points t j rest)
  drained_none t j rest h = section_none (flushed shape.points t j ++ emptied t ∷ rest) (none_both (flushed shape.points t j) (emptied t ∷ rest) (flushed_none t j) (none_next (emptied t) rest (call_none _ _) h))

  loaded_none : (t l : ℕ) (a : Target) → labels_in (loaded p shape t l a) ≡ []
  loaded_none t l a = by (is_moved shape.moved a)
    where
      by : (b : Bool) → labels_in (if b then words.assign_call (local_name l) wm_get (num t ∷ cell_number a ∷ []) else words.assign (local_name l) (value_at p shape a)) ≡ []
      by true = assign_call_none (local_name l) wm_get (num t ∷ cell_number a ∷ [])
      by false = assign_none (local_name l) (value_at p shape a)

  before_none : (m : Model) (t : ℕ) → None_in (emptied_before m t)
  before_none Tso t = none_next (emptied t) [] (call_none _ _) nothing
  before_none Pso t = nothing

  stored_none : (t j : ℕ) (a : Target) (e : Pure) → None_in (stored p shape t j a e)
  stored_none t j a e = by (flag_at shape.buffered t j) (is_moved shape.moved a)
    where
      by : (b m : Bool) → None_in (if b then words.call wm_put (num t ∷ cell_number a ∷ printed e ∷ []) ∷ [] else (if m then words.call wm_set (num t ∷ cell_number a ∷ printed e ∷ []) ∷ [] else (emptied_before shape.model t ++ written p shape a (printed e) ∷ [])))
      by true m = none_next _ [] (call_none wm_put _) nothing
      by false true = none_next _ [] (call_none wm_set _) nothing
      by false false = none_both (emptied_before shape.model t) _ (before_none shape.model t) (written_alone a (printed e))

  buffered_none : (t j : ℕ) (it : Instr) → None_in (with_buffers p shape t j it)
  buffered_none t j (i.Load l a) = section_none _ (none_both (flushed shape.points t j) (loaded p shape t l a ∷ []) (flushed_none t j) (none_next (loaded p shape t l a) [] (loaded_none t l a) nothing))
  buffered_none t j (i.Store a e) = section_none _ (none_both (flushed shape.points t j) (stored p shape t j a e) (flushed_none t j) (stored_none t j a e))
  buffered_none t j (i.Add l a e) = drained_none t j (added p shape l a e) (added_none l a e)
  buffered_none t j (i.Cas l a e f) = drained_none t j (swapped p shape l a e f) (swapped_none l a e f)
  buffered_none t j i.Fence = none_both (drained shape.points t j []) (plain p shape i.Fence) (drained_none t j [] nothing) (plain_none i.Fence)
  buffered_none t j (i.Lock m) = none_both (drained shape.points t j []) (plain p shape (i.Lock m)) (drained_none t j [] nothing) (plain_none (i.Lock m))
  buffered_none t j (i.Unlock m) = none_both (drained shape.points t j []) (plain p shape (i.Unlock m)) (drained_none t j [] nothing) (plain_none (i.Unlock m))
  buffered_none t j (i.Start u) = none_both (drained shape.points t j []) (plain p shape (i.Start u)) (drained_none t j [] nothing) (plain_none (i.Start u))
  buffered_none t j (i.Join u) = none_both (plain p shape (i.Join u)) (drained shape.points t j (emptied u ∷ [])) (plain_none (i.Join u)) (drained_none t j (emptied u ∷ []) (none_next (emptied u) [] (call_none _ _) nothing))
  buffered_none t j (i.Set l e) = plain_none (i.Set l e)
  buffered_none t j (i.Input l) = plain_none (i.Input l)
  buffered_none t j (i.Jump m) = plain_none (i.Jump m)
  buffered_none t j (i.Branch e m) = plain_none (i.Branch e m)
  buffered_none t j (i.Assert e m) = plain_none (i.Assert e m)
  buffered_none t j (i.Assume e) = plain_none (i.Assume e)
  buffered_none t j i.AtomBegin = nothing
  buffered_none t j i.AtomEnd = nothing
  buffered_none t j i.End = plain_none i.End

  -- ---- the label

  -- there are some statements
  IsSome_of : List Stmt → Bool
  IsSome_of [] = false
  IsSome_of (s ∷ ss) = true

  label_in : (x : Ident) (s : Stmt) → labels_in (words.label x s) ≡ words.word x ∷ labels_in s
  unfolding words.stmt_of
  label_in x s = search (rules, stmt_lemmas)

  labelled_one : (x : Ident) (ss : List Stmt) → IsSome_of ss ≡ true → None_in ss → labels_of (words.labelled x ss) ≡ words.word x ∷ []
  unfolding IsSome_of all_labels
  labelled_one x [] some h = cc
  labelled_one x (s ∷ ss) some h = ap (λ ws. ws ++ labels_of ss) (label_in x s) ∙ ap (λ ws. words.word x ∷ ws) h

  plain_some : (it : Instr) → is_section it ≡ false → IsSome_of (plain p shape it) ≡ true
  unfolding IsSome_of
  plain_some (i.Set l e) h = refl
  plain_some (i.Load l a) h = refl
  plain_some (i.Store a e) h = refl
  plain_some (i.Input l) h = refl
  plain_some (i.Jump j) h = refl
  plain_some (i.Branch e j) h = refl
  plain_some (i.Assert e m) h = refl
  plain_some (i.Assume e) h = refl
  plain_some i.Fence h = refl
  plain_some (i.Lock m) h = refl
  plain_some (i.Unlock m) h = refl
  plain_some (i.Add l a e) h = refl
  plain_some (i.Cas l a e f) h = refl
  plain_some (i.Start u) h = refl
  plain_some (i.Join u) h = refl
  plain_some i.AtomBegin h = sym h
  plain_some i.AtomEnd h = sym h
  plain_some i.End h = refl

  buffered_some : (t j : ℕ) (it : Instr) → is_section it ≡ false → IsSome_of (with_buffers p shape t j it) ≡ true
  unfolding IsSome_of
  buffered_some t j (i.Set l e) h = refl
  buffered_some t j (i.Load l a) h = refl
  buffered_some t j (i.Store a e) h = refl
  buffered_some t j (i.Input l) h = refl
  buffered_some t j (i.Jump m) h = refl
  buffered_some t j (i.Branch e m) h = refl
  buffered_some t j (i.Assert e m) h = refl
  buffered_some t j (i.Assume e) h = refl
  buffered_some t j i.Fence h = refl
  buffered_some t j (i.Lock m) h = refl
  buffered_some t j (i.Unlock m) h = refl
  buffered_some t j (i.Add l a e) h = refl
  buffered_some t j (i.Cas l a e f) h = refl
  buffered_some t j (i.Start u) h = refl
  buffered_some t j (i.Join u) h = refl
  buffered_some t j i.AtomBegin h = sym h
  buffered_some t j i.AtomEnd h = sym h
  buffered_some t j i.End h = refl

  -- what an instruction becomes has one label
  pub woven_label : (buffers addresses : Bool) (t j : ℕ) (it : Instr) → is_section it ≡ false → labels_of (woven_instr p shape buffers addresses t j it) ≡ words.word (label_name j) ∷ []
  unfolding words.stmt_of all_labels IsSome_of
  woven_label buffers addresses t j it h = by (reaches_by_pointer it && not addresses) buffers
    where
      skip_none : None_in (words.skip ∷ [])
      skip_none = search (rules, stmt_lemmas)

      by : (b c : Bool) → labels_of (words.labelled (label_name j) (if b then words.skip ∷ [] else (if c then with_buffers p shape t j it else plain p shape it))) ≡ words.word (label_name j) ∷ []
      by true c = labelled_one (label_name j) (words.skip ∷ []) refl skip_none
      by false true = labelled_one (label_name j) (with_buffers p shape t j it) (buffered_some t j it h) (buffered_none t j it)
      by false false = labelled_one (label_name j) (plain p shape it) (plain_some it h) (plain_none it)
