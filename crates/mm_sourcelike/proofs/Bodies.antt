-- The Starts and Joins of main's body, in their order.
use Rattle.std.proofs.Common.{arith, ◌≡◌, ◌+◌, Bool, true, false, cond, List, [], ◌∷◌, ◌++◌, length, map, reverse, refl, ◌∙◌, sym, ap, subst, Some, None}
use Rattle.std.specs.List.{AllByRecursion, find}
use Rattle.std.specs.Option.{option_map}
use Rattle.std.specs.Str.{bytes_eq}
use Rattle.std.proofs.lemmas.List.{reverse-append}
use Rattle.mm_goto.specs.declared.ident.Ident.{Ident}
use Rattle.mm_goto.specs.declared.program.Thread.{Thread}
use Rattle.mm_goto.specs.Listing.{Listing}
use Rattle.mm_goto.specs.Valid.{IsInt}
use Rattle.mm_tree.specs.declared.item.Item.{Item}
use Rattle.mm_tree.specs.declared.stmt.Stmt.{Stmt}
use Rattle.mm_flow.specs.declared.names.Started.{Started}
use Rattle.mm_flow.specs.Statements.{Known, Did, Within, stmt_code, body_code}
use Rattle.mm_flow.specs.Text.{mentions_of, mentions, creates}
use Rattle.mm_scope.specs.declared.around.Around.{Around}
use Rattle.mm_scope.specs.declared.table.Meaning.TheVariants as meaning
use Rattle.mm_scope.specs.Notes.{Note, Use}
use Rattle.mm_scope.specs.Scopes.{Names, Table, Named as NamedAs, found, is_named}
use Rattle.mm_scope.specs.Statements.{all_at, said_stmt}
use Rattle.mm_scope.specs.Steps.{Said, behind, and_then, in_turn, skip}
use Rattle.mm_sourcelike.specs.Ints.{of_stmt, of_stmts}
use Rattle.mm_sourcelike.specs.Shapes.{shape_of, body_scoped}
use Rattle.mm_sourcelike.proofs.Cells.{both_all}
use Rattle.mm_sourcelike.proofs.Counting.{steps}
use Rattle.mm_sourcelike.proofs.Evaluating.{all_left, all_right}
use Rattle.mm_sourcelike.proofs.Jumping.{Level, calm, in_order}
use Rattle.mm_sourcelike.proofs.Lengthening.{body_long}
use Rattle.mm_sourcelike.proofs.Mentioned.{stmt_passes, creates_append}
use Rattle.mm_sourcelike.proofs.Scoping.{fault_left, fault_right, none_is_not}
use Rattle.mm_sourcelike.proofs.Standing.{Accepted, room_before, reads_with}
use Rattle.mm_sourcelike.proofs.Starts.{numbered, numbered_append, started_in, started_append, events, filter_append, FlagFits, stmt_threads}
use Rattle.mm_sourcelike.proofs.Statements.{stmt_agrees}
use Rattle.mm_sourcelike.proofs.Tables.{otherwise, all_weaker}
use Rattle.mm_sourcelike.proofs.Using.{uses, uses_append}
use Rattle.mm_sourcelike.proofs.Validity.{IsThreadFunction}
use Rattle.mm_sourcelike.proofs.Valuing.{test_first, test_second}

-- behind a use of a local variable there is none of a global of its name
abbrev pub Follows : Use → Use → Type 0
Follows u v = u.local ≡ true → v.local ≡ false → bytes_eq u.variable v.variable ≡ false

abbrev pub Apart : List Use → Type 0
Apart [] = Unit {0}
Apart (u ∷ us) = AllByRecursion (Follows u) us × Apart us

-- no local hides a global variable that is used
abbrev pub IsBare : Names → Use → Type 0
IsBare names u = u.local ≡ false → found names.locals u.variable ≡ None

hidden : (names : Names) (u v : Use) → FlagFits names u → IsBare names v → Follows u v
hidden names u v h g e f =
    otherwise u.variable v.variable (λ q. none_is_not meaning.Thread (sym (g f) ∙ (ap (found names.locals) (sym q) ∙ h.local e)))

fits_bare : (names : Names) (u : Use) → FlagFits names u → IsBare names u
fits_bare names u h e = h.global e

each_follows : (names : Names) (u : Use) (vs : List Use) → FlagFits names u → AllByRecursion (IsBare names) vs → AllByRecursion (Follows u) vs
each_follows names u vs h g = all_weaker (IsBare names) (Follows u) (λ v. hidden names u v h) vs g

apart_both : (names : Names) (us vs : List Use) → AllByRecursion (FlagFits names) us → AllByRecursion (IsBare names) vs → Apart vs → Apart (us ++ vs)
apart_both names [] vs h g a = a
apart_both names (u ∷ us) vs h g a =
    (both_all (Follows u) us vs (each_follows names u us h.0 (all_weaker (FlagFits names) (IsBare names) (fits_bare names) us h.1)) (each_follows names u vs h.0 g), apart_both names us vs h.1 g a)

-- what is not found among more names is not found among fewer
none_right : (x : Ident) (xs ys : List NamedAs) → option_map (λ (n : NamedAs). n.meaning) (find (is_named x) (xs ++ ys)) ≡ None → option_map (λ (n : NamedAs). n.meaning) (find (is_named x) ys) ≡ None
none_right x [] ys e = e
none_right x (n ∷ xs) ys e = by (is_named x n) (none_right x xs ys) e
  where
    by : (b : Bool) → (option_map (λ (m : NamedAs). m.meaning) (find (is_named x) (xs ++ ys)) ≡ None → option_map (λ (m : NamedAs). m.meaning) (find (is_named x) ys) ≡ None)
        → option_map (λ (m : NamedAs). m.meaning) (cond b (Some n) (find (is_named x) (xs ++ ys))) ≡ None → option_map (λ (m : NamedAs). m.meaning) (find (is_named x) ys) ≡ None
    by true h q = absurd (none_is_not n.meaning (sym q))
    by false h q = h q

bare_before : (names : Names) (declared : List NamedAs) (u : Use) → IsBare (record names { locals = names.locals ++ declared }) u → IsBare names u
bare_before names declared u h e =
    none_right u.variable (reverse declared) (reverse names.locals) (ap (λ ns. option_map (λ (n : NamedAs). n.meaning) (find (is_named u.variable) ns)) (sym (reverse-append names.locals declared)) ∙ h e)

pub record BodyThreads (items : List Item) (starts : List Started) (names : Names) (ns : List Note) (k : Known) (d : Did) (ss : List Stmt) : Type 0 where
  pub events : events d.flow ≡ numbered starts k.seen.starts (uses ns)
  pub creates : creates (mentions ss) ≡ started_in (uses ns)
  pub functions : AllByRecursion (λ (s : Started). IsThreadFunction items s.function) (started_in (uses ns))
  pub bare : AllByRecursion (IsBare names) (uses ns)
  pub apart : Apart (uses ns)
  pub level : Level d.flow

module _ (p : Listing) (t : Thread) (items : List Item) (labels : Table) where
  pub body_threads : (ss : List Stmt) (a : Around) (names : Names) (w : Within) (k : Known) → a.outermost ≡ true → Accepted p t items (λ b. all_at b (map (said_stmt items labels) ss)) (body_code ss) (of_stmts ss) (body_scoped ss) a names w k
      → BodyThreads items w.parts.starts names (all_at a (map (said_stmt items labels) ss) names).notes k (body_code ss w k) ss
  unfolding all_at in_turn and_then skip
  body_threads [] a names w k e h = record { events = refl; creates = refl; functions = tt; bare = tt; apart = tt; level = calm tt }
  body_threads (s ∷ ss) a names w k e h =
      let said : Said = said_stmt items labels s a names in
      let mid : Known = (stmt_code s w k).known in
      let before : Names = behind (said_stmt items labels s a) names in
      let after : Did = body_code ss w mid in
      let more : List Note = (all_at a (map (said_stmt items labels) ss) before).notes in
      let first : Accepted p t items (said_stmt items labels s) (stmt_code s) (of_stmt s) (shape_of s).is_scoped a names w k = record {
        good = h.good;
        side = h.side;
        reads = h.reads;
        ints = all_left IsInt (of_stmt s) (of_stmts ss) h.ints;
        scoped = test_first (shape_of s).is_scoped (body_scoped ss) h.scoped;
        fine = fault_left said.notes more h.fine;
        room = room_before p t a.outermost mid after (body_long ss w h.good.grow mid) (record { next = h.room.next; asserts = h.room.asserts; starts = h.room.starts });
      } in
      let done = (stmt_agrees p t items labels s).does a names w k first in
      let one = stmt_threads p t items labels s a names w k e first in
      let two = body_threads ss a before w mid e (record {
        good = h.good;
        side = h.side;
        reads = reads_with p t items w.parts.spots k.names mid.names names said.declared h.reads done.sees done.thread;
        ints = all_right IsInt (of_stmt s) (of_stmts ss) h.ints;
        scoped = test_second (shape_of s).is_scoped (body_scoped ss) h.scoped;
        fine = fault_right said.notes more h.fine;
        room = record { next = h.room.next; asserts = h.room.asserts; starts = h.room.starts };
      }) in
      let us : List Use = uses said.notes in
      let vs : List Use = uses more in
      let all : uses (said.notes ++ more) ≡ us ++ vs = uses_append said.notes more in
      let count : mid.seen.starts ≡ k.seen.starts + length (started_in us) = (stmt_passes s w k).starts ∙ omega (arith, ap length one.creates) in
      let bare = all_weaker (IsBare before) (IsBare names) (bare_before names said.declared) vs two.bare in
      record {
        events = filter_append (steps (stmt_code s w k).flow) (steps after.flow)
            ∙ (ap (λ is. is ++ events after.flow) one.events ∙ (ap (λ is. numbered w.parts.starts k.seen.starts us ++ is) (two.events ∙ ap (λ n. numbered w.parts.starts n vs) count)
            ∙ (sym (numbered_append w.parts.starts k.seen.starts us vs) ∙ ap (numbered w.parts.starts k.seen.starts) (sym all))));
        creates = creates_append (mentions_of s) (mentions ss) ∙ (ap (λ cs. cs ++ creates (mentions ss)) one.creates ∙ (ap (λ cs. started_in us ++ cs) two.creates ∙ (sym (started_append us vs) ∙ ap started_in (sym all))));
        functions = subst (λ ws. AllByRecursion (λ (q : Started). IsThreadFunction items q.function) ws) (sym (ap started_in all ∙ started_append us vs)) (both_all (λ (q : Started). IsThreadFunction items q.function) (started_in us) (started_in vs) one.functions two.functions);
        bare = subst (AllByRecursion (IsBare names)) (sym all) (both_all (IsBare names) us vs (all_weaker (FlagFits names) (IsBare names) (fits_bare names) us one.flags) bare);
        apart = subst Apart (sym all) (apart_both names us vs one.flags bare two.apart);
        level = in_order one.level two.level;
      }
