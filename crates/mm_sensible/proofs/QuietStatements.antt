-- Statements of woven programs declare nothing, and what is noted in them is sound: word by word.
use Rattle.std.proofs.Common.{◌≡◌, ℕ, suc, ◌<◌, nat_lt, nat_eq, Bool, true, false, ◌&&◌, if◌then◌else◌, List, [], ◌∷◌, ◌++◌, map, length, slice_get, codes, is_some, append-nil, refl, ◌∙◌, sym, ap, subst, Option, Some, arith}
use Rattle.std.specs.List.{list_all, starts_with}
use Rattle.std.proofs.lemmas.Bool.Decides.{nat_tests}
use Rattle.std.proofs.lemmas.List.Elements.{filter_map-append}
use Rattle.std.proofs.lemmas.Bool.{and_parts}
use Rattle.mm_goto.specs.declared.ident.Ident.{Ident}
use Rattle.mm_tree.specs.Places.{nowhere}
use Rattle.mm_tree.specs.declared.expr.Expr.{Expr}
use Rattle.mm_tree.specs.declared.item.Gives.{Gives}
use Rattle.mm_tree.specs.declared.item.Item.{Item}
use Rattle.mm_tree.specs.declared.side.Side.TheVariants.{Output}
use Rattle.mm_tree.specs.declared.stmt.Stmt.{Stmt}
use Rattle.mm_scope.specs.declared.around.Around.{Around}
use Rattle.mm_scope.specs.declared.operand.Kind.{Kind}
use Rattle.mm_scope.specs.declared.operand.Kind.TheVariants as kind
use Rattle.mm_scope.specs.declared.table.Meaning.TheVariants as meaning
use Rattle.mm_scope.specs.Expressions.{judged_expr}
use Rattle.mm_scope.specs.Notes.{Note, Use, a_call}
use Rattle.mm_scope.specs.Operands.{Judged, fit}
use Rattle.mm_scope.specs.Scopes.{Names, meaning_of}
use Rattle.mm_scope.specs.Steps.{Said, Step, skip, noting, behind, and_then, closed}
use Rattle.mm_scope.specs.Values.{judged_argument, rest, arguments, are_known, call_fault, can_be_called, input_call, function_call, numbered_call, call_of, call, kind_given, kind_where}
use Rattle.mm_names.specs.Programs.{use_in}
use Rattle.mm_words.specs.Words as words
use Rattle.mm_sensible.proofs.SoundNotes.{is_fine, uses_in}
use Rattle.mm_sensible.proofs.IntExpressions.{IsIntJudged, IsInt, fitted_int}

-- ---- notes

pub all_append : {X : Type 0} (f : X → Bool) (xs ys : List X) → list_all f xs ≡ true → list_all f ys ≡ true → list_all f (xs ++ ys) ≡ true
all_append f [] ys h g = g
all_append f (x ∷ xs) ys h g = let p = and_parts (f x) (list_all f xs) h in ap (λ b. b && list_all f (xs ++ ys)) p.0 ∙ all_append f xs ys p.1 g

-- these notes are fine, and of starts and joins they have these
pub record AreFine (us : List Use) (ns : List Note) : Type 0 where
  pub fine : list_all is_fine ns ≡ true
  pub uses : uses_in ns ≡ us

pub fine_none : AreFine [] []
fine_none = record { fine = refl; uses = refl }

pub fine_both : {us vs : List Use} (ns ms : List Note) → AreFine us ns → AreFine vs ms → AreFine (us ++ vs) (ns ++ ms)
fine_both {us} {vs} ns ms f g = record {
  fine = all_append is_fine ns ms f.fine g.fine;
  uses = filter_map-append use_in ns ms ∙ ap (λ ws. ws ++ uses_in ms) f.uses ∙ ap (λ ws. us ++ ws) g.uses;
}

pub fine_nothing : {ns : List Note} → ns ≡ [] → AreFine [] ns
fine_nothing e = subst (AreFine []) (sym e) fine_none

-- nothing is declared, and what is noted is fine
pub record Tells (us : List Use) (s : Said) : Type 0 where
  pub declared : s.declared ≡ []
  pub notes : AreFine us s.notes

pub tells_noting : (us : List Use) (ns : List Note) → AreFine us ns → Tells us (noting ns)
tells_noting us ns f = record { declared = refl; notes = f }

pub tells_skip : (names : Names) → Tells [] (skip names)
unfolding skip
tells_skip names = record { declared = refl; notes = fine_none }

-- where nothing is declared, the names stay
stays : (f : Step) (names : Names) → (f names).declared ≡ [] → behind f names ≡ names
stays f names e = ap (λ ds. record names { locals = names.locals ++ ds }) e ∙ ap (λ ls. record names { locals = ls }) (append-nil names.locals)

pub tells_then : {us vs : List Use} (f g : Step) (names : Names) → Tells us (f names) → Tells vs (g names) → Tells (us ++ vs) (and_then f g names)
unfolding and_then
tells_then {us} {vs} f g names h k =
    let later : Tells vs (g (behind f names)) = subst (λ n. Tells vs (g n)) (sym (stays f names h.declared)) k in
    record {
      declared = ap (λ ds. ds ++ (g (behind f names)).declared) h.declared ∙ later.declared;
      notes = fine_both (f names).notes (g (behind f names)).notes h.notes later.notes;
    }

pub tells_closed : {us : List Use} (f : Step) (names : Names) → Tells us (f names) → Tells us (closed f names)
unfolding closed
tells_closed f names h = record { declared = refl; notes = h.notes }

-- ---- values

-- the value has this type, where it is not refused, and what is noted in it is fine
pub record IsQuietJudged (k : Option Kind) (j : Judged) : Type 0 where
  pub kind : j.operand.kind ≡ k
  pub notes : AreFine [] j.notes

pub quiet_int : (j : Judged) → IsIntJudged j → IsQuietJudged (Some kind.Int) j
quiet_int j i = record { kind = i.kind; notes = fine_nothing i.notes }

-- each is an int
unfoldable pub AreInts : Names → List Expr → Type 0
AreInts names [] = Unit {0}
AreInts names (e ∷ es) = IsInt names e × AreInts names es

-- where a function stands around a statement
abbrev pub stand : ℕ → Gives → ℕ → Bool → Bool → Around
stand k g from looped outermost = record { side = Output; caller = k; gives = g; from = from; looped = looped; outermost = outermost }

is_below : (m n : ℕ) → m < n → nat_lt m n ≡ true
is_below m n h = grind (arith, nat_tests)

is_equal : (m n : ℕ) → m ≡ n → nat_eq m n ≡ true
is_equal m n h = grind (arith, nat_tests)

length_params : (xs : List Ident) → length (map words.param xs) ≡ length xs
length_params [] = refl
length_params (x ∷ xs) = ap suc (length_params xs)

-- an int is an argument of any parameter that is no pointer
argument_int : (names : Names) (xs : List Ident) (e : Expr) → IsInt names e → IsIntJudged (judged_argument names (slice_get (map words.param xs) 0) e)
argument_int names [] e i = record { kind = i.kind; notes = ap (λ ns. ns ++ []) i.notes }
argument_int names (x ∷ xs) e i =
    let f : IsIntJudged (fit kind.Int (judged_expr names e).operand) = fitted_int (judged_expr names e).operand i.kind in
    record { kind = f.kind; notes = ap (λ ns. ns ++ (fit kind.Int (judged_expr names e).operand).notes) i.notes ∙ f.notes }

rest_params : (xs : List Ident) → (ys : List Ident) × (rest (map words.param xs) ≡ map words.param ys)
rest_params [] = ([], refl)
rest_params (x ∷ xs) = (xs, refl)

arguments_none : (names : Names) (xs : List Ident) (es : List Expr) → AreInts names es → arguments names (map words.param xs) es ≡ []
unfolding arguments AreInts
arguments_none names xs [] h = refl
arguments_none names xs (e ∷ es) h =
    let more = rest_params xs in
    ap (λ ns. ns ++ arguments names (rest (map words.param xs)) es) (argument_int names xs e h.0).notes
    ∙ ap (λ ps. arguments names ps es) more.1
    ∙ arguments_none names more.0 es h.1

known_true : (names : Names) (xs : List Ident) (es : List Expr) → AreInts names es → are_known names (map words.param xs) es ≡ true
unfolding are_known AreInts
known_true names xs [] h = refl
known_true names xs (e ∷ es) h =
    let more = rest_params xs in
    ap (λ k. is_some k && are_known names (rest (map words.param xs)) es) (argument_int names xs e h.0).kind
    ∙ ap (λ ps. are_known names ps es) more.1
    ∙ known_true names more.0 es h.1

-- the function is one further up than function k, and takes ints
pub record IsCallable (items : List Item) (k : ℕ) (names : Names) (f : Ident) (g : Gives) (xs : List Ident) : Type 0 where
  pub callee : ℕ
  pub body : List Stmt
  pub means : meaning_of names f ≡ Some (meaning.Function callee)
  pub is : slice_get items callee ≡ Some (words.function g f (map words.param xs) body)
  pub up : callee < k
  pub can : can_be_called f g ≡ true
  pub no_input : starts_with nat_eq f (codes "nondet_") ≡ false

module _ (items : List Item) (k : ℕ) (names : Names) (f : Ident) where
  call_if : Bool → List Expr → Judged
  call_if b es = if b then input_call names nowhere es else call_of items names k nowhere es (meaning_of names f)

  -- a call of a function further up, by as many ints as it takes
  pub call_quiet : (g : Gives) (xs : List Ident) (es : List Expr) → IsCallable items k names f g xs → AreInts names es → length es ≡ length xs → IsQuietJudged (kind_given g) (call items names k nowhere f es)
  unfolding call call_if
  call_quiet g xs es c h n = subst (IsQuietJudged (kind_given g)) (sym found) it
    where
      it_is : Item
      it_is = words.function g f (map words.param xs) c.body

      found : call items names k nowhere f es ≡ function_call names k c.callee nowhere es it_is
      found =
          ap (λ b. call_if b es) c.no_input
          ∙ ap (call_of items names k nowhere es) c.means
          ∙ ap (numbered_call names k c.callee nowhere es) c.is

      counted : (can_be_called f g && nat_eq (length es) (length (map words.param xs))) ≡ true
      counted = ap (λ b. b && nat_eq (length es) (length (map words.param xs))) c.can ∙ is_equal (length es) (length (map words.param xs)) (n ∙ sym (length_params xs))

      the_call : Note
      the_call = a_call (record { caller = k; callee = c.callee; at = nowhere })

      noted : (the_call ∷ call_fault nowhere (can_be_called f g && nat_eq (length es) (length (map words.param xs)))) ++ arguments names (map words.param xs) es ≡ the_call ∷ []
      noted =
          ap (λ b. (the_call ∷ call_fault nowhere b) ++ arguments names (map words.param xs) es) counted
          ∙ ap (λ ns. (the_call ∷ []) ++ ns) (arguments_none names xs es h)

      it : IsQuietJudged (kind_given g) (function_call names k c.callee nowhere es it_is)
      it = record {
        kind = ap (λ b. kind_where b (kind_given g)) (known_true names xs es h);
        notes = subst (AreFine []) (sym noted) (record { fine = ap (λ b. b && true) (is_below c.callee k c.up); uses = refl });
      }

  -- an input
  pub input_quiet : starts_with nat_eq f (codes "nondet_") ≡ true → IsQuietJudged (Some kind.Int) (call items names k nowhere f [])
  unfolding call call_if arguments are_known
  input_quiet e = subst (IsQuietJudged (Some kind.Int)) (sym (ap (λ b. call_if b []) e)) (record { kind = refl; notes = fine_none })
