-- The instructions of a program that a source can have are ready to be woven.
use Rattle.std.proofs.Common.{◌≡◌, ℕ, Bool, true, false, List, [], ◌∷◌, ◌++◌, length, refl}
use Rattle.std.specs.Prelude.{All}
use Rattle.std.specs.List.{flat_map}
use Rattle.std.proofs.lemmas.List.Elements.{All-head}
use Rattle.mm_goto.specs.declared.shape.Shape.{Shape}
use Rattle.mm_goto.specs.declared.program.Target.{Target}
use Rattle.mm_goto.specs.declared.program.Target.TheVariants as target
use Rattle.mm_goto.specs.declared.program.Instr.{Instr}
use Rattle.mm_goto.specs.declared.program.Instr.TheVariants as i
use Rattle.mm_goto.specs.declared.program.Thread.{Thread}
use Rattle.mm_goto.specs.declared.row.Row.{Row}
use Rattle.mm_goto.specs.Listing.{Listing}
use Rattle.mm_goto.specs.Sourcelike.{is_start_or_join, target_rows, target_cells, IsSingle, IsWholeArray, IsSourceInstr}
use Rattle.mm_goto.specs.Valid.{IsTargetIn, IsInstrIn}
use Rattle.mm_tree.specs.declared.item.Gives.{Gives}
use Rattle.mm_tree.specs.declared.item.Item.{Item}
use Rattle.mm_scope.specs.Scopes.{Names, Table}
use Rattle.mm_helpers.specs.Helpers.{wm_mem}
use Rattle.mm_templates.specs.Instructions.{is_pointed, reaches_by_pointer}
use Rattle.mm_sensible.proofs.AssertionTexts.{assertion_text}
use Rattle.mm_sensible.proofs.IntExpressions.{IsArrayName}
use Rattle.mm_sensible.proofs.QuietTemplates.{IsHome, IsKnown, IsReady}

differ : true ≡ false → ⊥
differ e = cc

module _ (p : Listing) (shape : Shape) (buffers : Bool) (items : List Item) (labels : Table) (k : ℕ) (g : Gives) (names : Names) (t : Thread) (home : IsHome p shape buffers items labels k names t.locals (length t.code)) where
  abbrev Known : Target → Type 0
  Known a = IsKnown p shape buffers items labels k g names t.locals (length t.code) home a

  known : (a : Target) (cells : List ℕ) (rows : List Row) → IsTargetIn p t a → All (IsSingle p) (flat_map target_cells (a ∷ []) ++ cells) → All (IsWholeArray p) (flat_map target_rows (a ∷ []) ++ rows) → (is_pointed a ≡ true → IsArrayName names wm_mem) → Known a
  unfolding IsKnown
  known (target.Cell c) cells rows h singles arrays memory = All-head (IsSingle p) c cells singles
  known (target.Elem first len index) cells rows h singles arrays memory = (h.1.locals, (All-head (IsWholeArray p) (record { first = first; len = len }) rows arrays).first)
  known (target.Deref e) cells rows h singles arrays memory = (h.locals, memory refl)

  pub ready : (place : ℕ) (it : Instr) → IsInstrIn p t it → IsSourceInstr p t.code place it → is_start_or_join it ≡ false → (reaches_by_pointer it ≡ true → IsArrayName names wm_mem) → IsReady p shape buffers items labels k g names t.locals (length t.code) home it
  unfolding IsReady
  ready place (i.Set l e) h s other memory = (h.0, h.1.locals)
  ready place (i.Load l a) h s other memory = (h.0, known a _ _ h.1 s.singles s.arrays memory)
  ready place (i.Store a e) h s other memory = (known a _ _ h.0 s.singles s.arrays memory, h.1.locals)
  ready place (i.Input l) h s other memory = h
  ready place (i.Jump j) h s other memory = h
  ready place (i.Branch e j) h s other memory = (h.0.locals, h.1)
  ready place (i.Assert e m) h s other memory = (h.0.locals, assertion_text m h.1)
  ready place (i.Assume e) h s other memory = h.locals
  ready place i.Fence h s other memory = tt
  ready place (i.Lock m) h s other memory = h
  ready place (i.Unlock m) h s other memory = h
  ready place (i.Add l a e) h s other memory = (h.0, known a _ _ h.1 s.singles s.arrays memory, h.2.locals)
  ready place (i.Cas l a e f) h s other memory = (h.0, known a _ _ h.1 s.singles s.arrays memory, h.2.locals, h.3.locals)
  ready place (i.Start u) h s other memory = absurd (differ other)
  ready place (i.Join u) h s other memory = absurd (differ other)
  ready place i.AtomBegin h s other memory = tt
  ready place i.AtomEnd h s other memory = tt
  ready place i.End h s other memory = tt
