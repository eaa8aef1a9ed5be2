-- Statements with statements in them: what is done by them agrees with what is said where their parts do.
use Rattle.std.proofs.Common.{arith, ◌≡◌, ℕ, ℤ, pos, ◌≤◌, Bool, true, false, ◌&&◌, not, List, [], ◌∷◌, ◌++◌, refl, ◌∙◌, sym, ap, subst, append_assoc, Option, Some, None}
use Rattle.std.specs.List.{AllByRecursion}
use Rattle.mm_goto.specs.declared.ident.At.{At}
use Rattle.mm_goto.specs.declared.program.Thread.{Thread}
use Rattle.mm_goto.specs.Listing.{Listing}
use Rattle.mm_goto.specs.Valid.{IsInt}
use Rattle.mm_tree.specs.declared.expr.Expr.{Expr}
use Rattle.mm_tree.specs.declared.item.Item.{Item}
use Rattle.mm_flow.specs.declared.names.Named.{Named}
use Rattle.mm_flow.specs.Expressions.{Val, one_value}
use Rattle.mm_flow.specs.Statements.{Known, Did, Doing, Within, scope, reads, from, in_order, inner as inside, if_code, choice_code, while_code, do_code, optional, condition, for_code}
use Rattle.mm_scope.specs.declared.around.Around.{Around}
use Rattle.mm_scope.specs.Expressions.{judged_expr}
use Rattle.mm_scope.specs.Notes.{Note}
use Rattle.mm_scope.specs.Parts.{inner, guarded, in_loop, noted_expr}
use Rattle.mm_scope.specs.Scopes.{Names, Named as NamedAs}
use Rattle.mm_scope.specs.Steps.{Step, Said, skip, behind, and_then, in_turn, if_there, closed}
use Rattle.mm_scope.specs.Statements.{Placed, all_at, if_some, block, choice, while_loop, do_loop, for_loop}
use Rattle.mm_sourcelike.specs.Ints.{numbers_of, of_condition}
use Rattle.mm_sourcelike.specs.Shapes.{Shape, plain, whole, is_closed}
use Rattle.mm_sourcelike.proofs.Evaluating.{all_left, all_right, ValIn, expr_fine}
use Rattle.mm_sourcelike.proofs.Growth.{grows}
use Rattle.mm_sourcelike.proofs.Lengthening.{Long, Lengthens, condition_grows}
use Rattle.mm_sourcelike.proofs.Pures.{one_in}
use Rattle.mm_sourcelike.proofs.Scoping.{NoFault, fault_left, fault_right, Sees, Reads}
use Rattle.mm_sourcelike.proofs.Standing.{HasRoom, FlowAt, FlowTyped, Done, Does, Agrees, names_kept, test_typed, sees_nil, reads_with, reads_nil, at_once, within, room_before, room_inside}
use Rattle.mm_sourcelike.proofs.TypedExpressions.{FitsFlow, FitsTest}
use Rattle.mm_sourcelike.proofs.TypedNames.{GlobalsFit, SeesTypes, types_nil}
use Rattle.mm_sourcelike.proofs.TypedPures.{constant_tidy, int_typed, one_is}
use Rattle.mm_sourcelike.proofs.Typing.{Typing, both, over, still}
use Rattle.mm_sourcelike.proofs.Valuing.{IsGood, test_first, test_second}

module _ (p : Listing) (t : Thread) (items : List Item) where
  -- ---- in order

  pub none_done : Does p t items (λ a. all_at a []) (in_order []) [] true
  unfolding all_at in_turn skip
  none_done a names w k h = record { flow = tt; starts = λ e. refl; sees = sees_nil names.locals k.names h.reads.sees; thread = h.reads.locals; typed = λ g c. still k.next _ (λ q ret seen. (tt, types_nil q names.locals k.names seen)) }

  pub more_done : (s : Placed) (d : Doing) (z : List ℤ) (b : Bool) (ss : List Placed) (ds : List Doing) (zs : List ℤ) (c : Bool)
      → Does p t items s d z b → Long d → Long (in_order ds) → Does p t items (λ a. all_at a ss) (in_order ds) zs c
      → Does p t items (λ a. all_at a (s ∷ ss)) (in_order (d ∷ ds)) (z ++ zs) (b && c)
  unfolding all_at in_turn and_then
  more_done s d z b ss ds zs c does first long rest a names w k h =
      let step : Step = s a in
      let said : Said = s a names in
      let mid : Known = (d w k).known in
      let before : Names = behind (s a) names in
      let after : Did = in_order ds w mid in
      let one = does a names w k (record {
        good = h.good;
        side = h.side;
        reads = h.reads;
        ints = all_left IsInt z zs h.ints;
        scoped = test_first b c h.scoped;
        fine = fault_left said.notes (all_at a ss before).notes h.fine;
        room = room_before p t a.outermost mid after (long w h.good.grow mid) h.room;
      }) in
      let two = rest a before w mid (record {
        good = h.good;
        side = h.side;
        reads = reads_with p t items w.parts.spots k.names mid.names names said.declared h.reads one.sees one.thread;
        ints = all_right IsInt z zs h.ints;
        scoped = test_second b c h.scoped;
        fine = fault_right said.notes (all_at a ss before).notes h.fine;
        room = h.room;
      }) in
      record {
        flow = (one.flow, two.flow);
        starts = λ e. two.starts e ∙ one.starts e;
        sees = subst (λ (ls : List NamedAs). Sees ls after.known.names) (append_assoc names.locals said.declared (all_at a ss before).declared) two.sees;
        thread = two.thread;
        typed = λ g c. over k.next after.known.next _ _ (λ q r ret seen.
            let x = r.0 ret seen in
            let y = r.1 ret x.1 in
            ((x.0, y.0), subst (λ (ls : List NamedAs). SeesTypes q ls after.known.names) (append_assoc names.locals said.declared (all_at a ss before).declared) y.1))
            (both k.next mid.next after.known.next _ _ (first w h.good.grow k).next (long w h.good.grow mid).next (one.typed g c) (two.typed g c));
      }

  -- the code alone
  flow_only : {said : Said} {d : Did} (w : Within) (a : Around) (names : Names) (k : Known) → Done p t items w a names k said d → FlowTyped p items w a names k d.flow d.known.next
  flow_only {said = said} {d = d} w a names k h g c = over k.next d.known.next _ _ (λ q r ret seen. (r ret seen).0) (h.typed g c)

  pub block_agrees : (ss : List Placed) (ds : List Doing) (zs : List ℤ) (b : Bool) → Does p t items (λ a. all_at a ss) (in_order ds) zs b → Agrees p t items (λ a. block a ss) (inside (in_order ds)) zs (whole b)
  unfolding block closed
  block_agrees ss ds zs b does = record {
    quiet = λ e f a names. refl;
    does = λ a names w k h.
        let one = does (inner a names) names w k (record {
          good = h.good;
          side = h.side;
          reads = h.reads;
          ints = h.ints;
          scoped = h.scoped;
          fine = h.fine;
          room = room_inside p t a.outermost (inside (in_order ds) w k).known (in_order ds w k).known (omega arith) (omega arith) h.room;
        }) in
        record {
          flow = within p t a.outermost (in_order ds w k).flow one.flow;
          starts = λ e. one.starts refl;
          sees = sees_nil names.locals k.names h.reads.sees;
          thread = h.reads.locals;
          typed = names_kept p items w a names k (in_order ds w k).flow (in_order ds w k).known.next [] refl (flow_only w (inner a names) names k one);
        };
  }

  -- ---- parts that declare nothing

  not_true : (b : Bool) → not b ≡ true → b ≡ false
  not_true true e = sym e
  not_true false e = refl

  scoped_of : (shape : Shape) → is_closed shape ≡ true → shape.is_scoped ≡ true
  scoped_of shape e = test_first shape.is_scoped (not shape.declares) e

  closed_quiet : (s : Placed) (d : Doing) (zs : List ℤ) (shape : Shape) → Agrees p t items s d zs shape → is_closed shape ≡ true → (a : Around) (names : Names) → (s a names).declared ≡ []
  closed_quiet s d zs shape g e = g.quiet (not_true shape.declares (test_second shape.is_scoped (not shape.declares) e)) (scoped_of shape e)

  reads_quiet : (w : Within) (ns : List Named) (names : Names) (declared : List NamedAs) → declared ≡ [] → Reads p t items w.parts.spots ns names → Reads p t items w.parts.spots ns (record names { locals = names.locals ++ declared })
  reads_quiet w ns names declared e r = subst (λ (ds : List NamedAs). Reads p t items w.parts.spots ns (record names { locals = names.locals ++ ds })) (sym e) (reads_nil p t items w.parts.spots ns names r)

  sees_quiet : (ns : List Named) (locals declared : List NamedAs) → declared ≡ [] → Sees locals ns → Sees (locals ++ declared) ns
  sees_quiet ns locals declared e h = subst (λ (ds : List NamedAs). Sees (locals ++ ds) ns) (sym e) (sees_nil locals ns h)

  -- a part of a statement, which starts nothing and whose names end with it
  part_done : (s : Placed) (d : Doing) (zs : List ℤ) (shape : Shape) → Agrees p t items s d zs shape → is_closed shape ≡ true → (outer : Bool) (last : Known) (a : Around) (names : Names) (w : Within) (k : Known)
      → IsGood p t items w → a.side ≡ w.parts.side → a.outermost ≡ false → Reads p t items w.parts.spots k.names names → AllByRecursion IsInt zs → NoFault (s a names).notes
      → HasRoom p t outer last → (d w k).known.next ≤ last.next → (d w k).known.seen.asserts ≤ last.seen.asserts
      → FlowAt p t outer (d w k).flow × ((d w k).known.seen.starts ≡ k.seen.starts) × FlowTyped p items w a names k (d w k).flow (d w k).known.next
  part_done s d zs shape g e outer last a names w k good side out r i f room m n =
      let one = g.does a names w k (record {
        good = good;
        side = side;
        reads = r;
        ints = i;
        scoped = scoped_of shape e;
        fine = f;
        room = subst (λ b. HasRoom p t b (d w k).known) (sym out) (room_inside p t outer last (d w k).known m n room);
      }) in
      (within p t outer (d w k).flow (subst (λ b. FlowAt p t b (d w k).flow) out one.flow), one.starts out, flow_only w a names k one)

  value_at : (w : Within) (ns : List Named) (names : Names) (e : Expr) (n : ℕ) → Reads p t items w.parts.spots ns names → AllByRecursion IsInt (numbers_of e) → NoFault (judged_expr names e).notes → (reads w ns e n).next ≤ t.locals → ValIn p t (reads w ns e n)
  value_at w ns names e n r i f l = expr_fine p t items names e (scope w ns) n r i f l

  -- names that stand for the same behind what declares none
  seen_quiet : (q : ℕ → Bool) (ns : List Named) (locals declared : List NamedAs) → declared ≡ [] → SeesTypes q locals ns → SeesTypes q (locals ++ declared) ns
  seen_quiet q ns locals declared e h = subst (λ (ds : List NamedAs). SeesTypes q (locals ++ ds) ns) (sym e) (types_nil q locals ns h)

  -- the names behind an expression
  abbrev behind_value : Names → Names
  behind_value names = record names { locals = names.locals ++ [] }

  -- ---- if

  pub if_agrees : (at : At) (c : Expr) (s : Placed) (d : Doing) (z : List ℤ) (shape : Shape) → Agrees p t items s d z shape → Long d
      → Agrees p t items (λ a. choice a c s None) (if_code at c d) (numbers_of c ++ (z ++ [])) (whole (is_closed shape && true))
  unfolding choice and_then skip
  if_agrees at c s d z shape g long_of = record {
    quiet = λ e f a names. quiet (test_first (is_closed shape) true f) a names;
    does = λ a names w k h.
        let closed : is_closed shape ≡ true = test_first (is_closed shape) true h.scoped in
        let names1 : Names = behind_value names in
        let v : Val = reads w k.names c k.next in
        let j : Known = from k v.next in
        let notes : List Note = (s (guarded a) names1).notes in
        let l : Lengthens j (d w j) = long_of w h.good.grow j in
        let one = part_done s d z shape g closed a.outermost (d w j).known (guarded a) names1 w j h.good h.side refl
        (reads_nil p t items w.parts.spots k.names names h.reads)
        (all_left IsInt z [] (all_right IsInt (numbers_of c) (z ++ []) h.ints))
        (fault_left notes [] (fault_right (judged_expr names c).notes (notes ++ []) h.fine))
        (record { next = h.room.next; asserts = h.room.asserts; starts = h.room.starts }) (omega arith) (omega arith) in
        let u = value_at w k.names names c k.next h.reads (all_left IsInt (numbers_of c) (z ++ []) h.ints) (fault_left (judged_expr names c).notes (notes ++ []) h.fine) (omega (arith, l.next, h.room.next)) in
        record {
          flow = (at_once p t a.outermost v.flow u.flow, (u.pure, one.0));
          starts = λ e. one.1;
          sees = sees_quiet k.names names.locals (choice a c s None names).declared (quiet closed a names) h.reads.sees;
          thread = h.reads.locals;
          typed = names_kept p items w a names k (if_code at c d w k).flow (d w j).known.next (choice a c s None names).declared (quiet closed a names) (λ g0 c0. over k.next (d w j).known.next _ _ (λ q r ret seen.
              let x = r.0 seen in (x.0, (x.1, r.1 ret (types_nil q names.locals k.names seen))))
              (both k.next v.next (d w j).known.next _ _ (grows c (scope w k.names) k.next) l.next
              (test_typed p t items w k.names names c k.next h.reads (fault_left (judged_expr names c).notes (notes ++ []) h.fine) g0) (one.2 g0 c0)));
        };
  }
    where
      quiet : is_closed shape ≡ true → (a : Around) (names : Names) → (choice a c s None names).declared ≡ []
      quiet e a names = ap (λ (ds : List NamedAs). ds ++ []) (closed_quiet s d z shape g e (guarded a) (behind_value names))

  pub choice_agrees : (at : At) (c : Expr) (s : Placed) (d : Doing) (z : List ℤ) (shape : Shape) (o : Placed) (e : Doing) (y : List ℤ) (other : Shape)
      → Agrees p t items s d z shape → Long d → Agrees p t items o e y other → Long e
      → Agrees p t items (λ a. choice a c s (Some o)) (choice_code at c d e) (numbers_of c ++ (z ++ y)) (whole (is_closed shape && is_closed other))
  unfolding choice and_then
  choice_agrees at c s d z shape o e y other g gl f fl = record {
    quiet = λ q b a names. quiet (test_first (is_closed shape) (is_closed other) b) (test_second (is_closed shape) (is_closed other) b) a names;
    does = λ a names w k h.
        let first : is_closed shape ≡ true = test_first (is_closed shape) (is_closed other) h.scoped in
        let second : is_closed other ≡ true = test_second (is_closed shape) (is_closed other) h.scoped in
        let names1 : Names = behind_value names in
        let names2 : Names = behind (s (guarded a)) names1 in
        let v : Val = reads w k.names c k.next in
        let j : Known = from k v.next in
        let i : Known = (inside d w j).known in
        let notes : List Note = (s (guarded a) names1).notes in
        let more : List Note = (o (guarded a) names2).notes in
        let l : Lengthens j (d w j) = gl w h.good.grow j in
        let m : Lengthens i (e w i) = fl w h.good.grow i in
        let room : HasRoom p t a.outermost (e w i).known = record { next = h.room.next; asserts = h.room.asserts; starts = h.room.starts } in
        let reads1 = reads_nil p t items w.parts.spots k.names names h.reads in
        let behind_test = fault_right (judged_expr names c).notes (notes ++ more) h.fine in
        let ints = all_right IsInt (numbers_of c) (z ++ y) h.ints in
        let one = part_done s d z shape g first a.outermost (e w i).known (guarded a) names1 w j h.good h.side refl reads1
        (all_left IsInt z y ints) (fault_left notes more behind_test) room m.next m.asserts in
        let two = part_done o e y other f second a.outermost (e w i).known (guarded a) names2 w i h.good h.side refl
        (reads_quiet w k.names names1 (s (guarded a) names1).declared (closed_quiet s d z shape g first (guarded a) names1) reads1)
        (all_right IsInt z y ints) (fault_right notes more behind_test) room (omega arith) (omega arith) in
        let u = value_at w k.names names c k.next h.reads (all_left IsInt (numbers_of c) (z ++ y) h.ints) (fault_left (judged_expr names c).notes (notes ++ more) h.fine) (omega (arith, l.next, m.next, h.room.next)) in
        record {
          flow = (at_once p t a.outermost v.flow u.flow, (u.pure, one.0, two.0));
          starts = λ q. two.1 ∙ one.1;
          sees = sees_quiet k.names names.locals (choice a c s (Some o) names).declared (quiet first second a names) h.reads.sees;
          thread = h.reads.locals;
          typed = names_kept p items w a names k (choice_code at c d e w k).flow (e w i).known.next (choice a c s (Some o) names).declared (quiet first second a names) (λ g0 c0. over k.next (e w i).known.next _ _ (λ q r ret seen.
              let x = r.0 seen in
              let seen1 = types_nil q names.locals k.names seen in
              (x.0, (x.1, r.1.0 ret seen1, r.1.1 ret (seen_quiet q k.names names1.locals (s (guarded a) names1).declared (closed_quiet s d z shape g first (guarded a) names1) seen1))))
              (both k.next v.next (e w i).known.next _ _ (grows c (scope w k.names) k.next) (omega (arith, l.next, m.next))
              (test_typed p t items w k.names names c k.next h.reads (fault_left (judged_expr names c).notes (notes ++ more) h.fine) g0)
              (both v.next i.next (e w i).known.next _ _ l.next m.next (one.2 g0 c0) (two.2 g0 c0))));
        };
  }
    where
      quiet : is_closed shape ≡ true → is_closed other ≡ true → (a : Around) (names : Names) → (choice a c s (Some o) names).declared ≡ []
      quiet q b a names =
          ap (λ (ds : List NamedAs). ds ++ (o (guarded a) (behind (s (guarded a)) (behind_value names))).declared) (closed_quiet s d z shape g q (guarded a) (behind_value names))
          ∙ closed_quiet o e y other f b (guarded a) (behind (s (guarded a)) (behind_value names))

  -- ---- loops

  pub while_agrees : (at : At) (c : Expr) (s : Placed) (d : Doing) (z : List ℤ) (shape : Shape) → Agrees p t items s d z shape → Long d
      → Agrees p t items (λ a. while_loop a c s) (while_code at c d) (numbers_of c ++ z) (whole (is_closed shape))
  unfolding while_loop and_then while_code
  while_agrees at c s d z shape g long_of = record {
    quiet = λ e f a names. closed_quiet s d z shape g f (in_loop a) (behind_value names);
    does = λ a names w k h.
        let names1 : Names = behind_value names in
        let v : Val = reads w k.names c k.next in
        let j : Known = from k v.next in
        let notes : List Note = (s (in_loop a) names1).notes in
        let l : Lengthens j (d w j) = long_of w h.good.grow j in
        let one = part_done s d z shape g h.scoped a.outermost (d w j).known (in_loop a) names1 w j h.good h.side refl
        (reads_nil p t items w.parts.spots k.names names h.reads)
        (all_right IsInt (numbers_of c) z h.ints)
        (fault_right (judged_expr names c).notes notes h.fine)
        (record { next = h.room.next; asserts = h.room.asserts; starts = h.room.starts }) (omega arith) (omega arith) in
        let u = value_at w k.names names c k.next h.reads (all_left IsInt (numbers_of c) z h.ints) (fault_left (judged_expr names c).notes notes h.fine) (omega (arith, l.next, h.room.next)) in
        record {
          flow = (at_once p t a.outermost v.flow u.flow, u.pure, one.0);
          starts = λ e. one.1;
          sees = sees_quiet k.names names.locals (s (in_loop a) names1).declared (closed_quiet s d z shape g h.scoped (in_loop a) names1) h.reads.sees;
          thread = h.reads.locals;
          typed = names_kept p items w a names k (while_code at c d w k).flow (d w j).known.next (s (in_loop a) names1).declared (closed_quiet s d z shape g h.scoped (in_loop a) names1) (λ g0 c0. over k.next (d w j).known.next _ _ (λ q r ret seen.
              let x = r.0 seen in (x.0, x.1, r.1 ret (types_nil q names.locals k.names seen)))
              (both k.next v.next (d w j).known.next _ _ (grows c (scope w k.names) k.next) l.next
              (test_typed p t items w k.names names c k.next h.reads (fault_left (judged_expr names c).notes notes h.fine) g0) (one.2 g0 c0)));
        };
  }

  pub do_agrees : (at : At) (c : Expr) (s : Placed) (d : Doing) (z : List ℤ) (shape : Shape) → Agrees p t items s d z shape → Long d
      → Agrees p t items (λ a. do_loop a s c) (do_code at d c) (z ++ numbers_of c) (whole (is_closed shape))
  unfolding do_loop and_then
  do_agrees at c s d z shape g long_of = record {
    quiet = λ e f a names. quiet f a names;
    does = λ a names w k h.
        let names1 : Names = behind (s (in_loop a)) names in
        let i : Known = (inside d w k).known in
        let v : Val = reads w k.names c i.next in
        let notes : List Note = (s (in_loop a) names).notes in
        let up : i.next ≤ v.next = grows c (scope w k.names) i.next in
        let one = part_done s d z shape g h.scoped a.outermost (from i v.next) (in_loop a) names w k h.good h.side refl h.reads
        (all_left IsInt z (numbers_of c) h.ints)
        (fault_left notes (judged_expr names1 c).notes h.fine)
        (record { next = h.room.next; asserts = h.room.asserts; starts = h.room.starts }) up (omega arith) in
        let u = value_at w k.names names1 c i.next (reads_quiet w k.names names (s (in_loop a) names).declared (closed_quiet s d z shape g h.scoped (in_loop a) names) h.reads)
        (all_right IsInt z (numbers_of c) h.ints) (fault_right notes (judged_expr names1 c).notes h.fine) h.room.next in
        record {
          flow = (one.0, at_once p t a.outermost v.flow u.flow, u.pure);
          starts = λ e. one.1;
          sees = sees_quiet k.names names.locals ((s (in_loop a) names).declared ++ []) (quiet h.scoped a names) h.reads.sees;
          thread = h.reads.locals;
          typed = names_kept p items w a names k (do_code at d c w k).flow v.next ((s (in_loop a) names).declared ++ []) (quiet h.scoped a names) (λ g0 c0. over k.next v.next _ _ (λ q r ret seen.
              let x = r.1 (seen_quiet q k.names names.locals (s (in_loop a) names).declared (closed_quiet s d z shape g h.scoped (in_loop a) names) seen) in
              (r.0 ret seen, x.0, x.1))
              (both k.next i.next v.next _ _ (long_of w h.good.grow k).next up (one.2 g0 c0)
              (test_typed p t items w k.names names1 c i.next (reads_quiet w k.names names (s (in_loop a) names).declared (closed_quiet s d z shape g h.scoped (in_loop a) names) h.reads) (fault_right notes (judged_expr names1 c).notes h.fine) g0)));
        };
  }
    where
      quiet : is_closed shape ≡ true → (a : Around) (names : Names) → ((s (in_loop a) names).declared ++ []) ≡ []
      quiet e a names = ap (λ (ds : List NamedAs). ds ++ []) (closed_quiet s d z shape g e (in_loop a) names)

  -- a part that may be left out
  pub none_agrees : Agrees p t items (λ a. if_some a None) (optional None) [] plain
  unfolding skip
  none_agrees = record {
    quiet = λ e f a names. refl;
    does = λ a names w k h. record { flow = tt; starts = λ e. refl; sees = sees_nil names.locals k.names h.reads.sees; thread = h.reads.locals; typed = λ g c. still k.next _ (λ q ret seen. (tt, types_nil q names.locals k.names seen)) };
  }

  condition_at : (c : Option Expr) (w : Within) (ns : List Named) (names : Names) (n : ℕ) → Reads p t items w.parts.spots ns names → AllByRecursion IsInt (of_condition c) → NoFault (if_there noted_expr c names).notes → (condition (scope w ns) c n).next ≤ t.locals → ValIn p t (condition (scope w ns) c n)
  condition_at None w ns names n r i f l = record { flow = tt; pure = one_in p t }
  condition_at (Some c) w ns names n r i f l = value_at w ns names c n r i f l

  condition_typed : (c : Option Expr) (w : Within) (ns : List Named) (names : Names) (n : ℕ) → Reads p t items w.parts.spots ns names → NoFault (if_there noted_expr c names).notes → GlobalsFit p items w.parts.spots
      → Typing n (condition (scope w ns) c n).next (λ q. SeesTypes q names.locals ns → FitsFlow p q (condition (scope w ns) c n).flow × FitsTest p q (condition (scope w ns) c n).pure)
  condition_typed None w ns names n r f g = still n _ (λ q seen. (tt, (int_typed q one_value (one_is q), constant_tidy p (pos 1))))
  condition_typed (Some c) w ns names n r f g = test_typed p t items w ns names c n r f g

  condition_quiet : (c : Option Expr) (names : Names) → (if_there noted_expr c names).declared ≡ []
  unfolding skip
  condition_quiet None names = refl
  condition_quiet (Some c) names = refl

  pub for_agrees : (at : At) (first : Option Placed) (i : Option Doing) (zi : List ℤ) (si : Shape) (c : Option Expr) (next : Option Placed) (j : Option Doing) (zj : List ℤ) (sj : Shape) (s : Placed) (d : Doing) (z : List ℤ) (shape : Shape)
      → Agrees p t items (λ a. if_some a first) (optional i) zi si → Long (optional i) → Agrees p t items (λ a. if_some a next) (optional j) zj sj → Long (optional j) → Agrees p t items s d z shape → Long d
      → Agrees p t items (λ a. for_loop a first c next s) (inside (for_code at i c j d)) (zi ++ (of_condition c ++ (zj ++ z))) (whole (si.is_scoped && (is_closed sj && is_closed shape)))
  unfolding for_loop closed and_then for_code
  for_agrees at first i zi si c next j zj sj s d z shape gi li gj lj g gl = record {
    quiet = λ e f a names. refl;
    does = λ a0 names0 w k h.
        let a : Around = inner a0 names0 in
        let closed_j : is_closed sj ≡ true = test_first (is_closed sj) (is_closed shape) (test_second si.is_scoped (is_closed sj && is_closed shape) h.scoped) in
        let closed_s : is_closed shape ≡ true = test_second (is_closed sj) (is_closed shape) (test_second si.is_scoped (is_closed sj && is_closed shape) h.scoped) in
        let said1 : Said = if_some a first names0 in
        let names1 : Names = behind (if_some a first) names0 in
        let said2 : Said = if_there noted_expr c names1 in
        let names2 : Names = behind (if_there noted_expr c) names1 in
        let said3 : Said = if_some a next names2 in
        let names3 : Names = behind (if_some a next) names2 in
        let notes : List Note = (s (in_loop a) names3).notes in
        let k1 : Known = (optional i w k).known in
        let v : Val = condition (scope w k1.names) c k1.next in
        let k2 : Known = from k1 v.next in
        let k3 : Known = (inside d w k2).known in
        let last : Known = (optional j w k3).known in
        let up : k1.next ≤ v.next = condition_grows (scope w k1.names) c k1.next in
        let ls : Lengthens k2 (d w k2) = gl w h.good.grow k2 in
        let le : Lengthens k3 (optional j w k3) = lj w h.good.grow k3 in
        let room : HasRoom p t a0.outermost last = record { next = h.room.next; asserts = h.room.asserts; starts = h.room.starts } in
        let f1 = fault_right said1.notes (said2.notes ++ (said3.notes ++ notes)) h.fine in
        let f2 = fault_right said2.notes (said3.notes ++ notes) f1 in
        let i1 = all_right IsInt zi (of_condition c ++ (zj ++ z)) h.ints in
        let i2 = all_right IsInt (of_condition c) (zj ++ z) i1 in
        let one = gi.does a names0 w k (record {
          good = h.good;
          side = h.side;
          reads = h.reads;
          ints = all_left IsInt zi (of_condition c ++ (zj ++ z)) h.ints;
          scoped = test_first si.is_scoped (is_closed sj && is_closed shape) h.scoped;
          fine = fault_left said1.notes (said2.notes ++ (said3.notes ++ notes)) h.fine;
          room = room_inside p t a0.outermost last k1 (omega (arith, up, ls.next, le.next)) (omega (arith, ls.asserts, le.asserts)) room;
        }) in
        let reads1 = reads_with p t items w.parts.spots k.names k1.names names0 said1.declared h.reads one.sees one.thread in
        let reads2 = reads_quiet w k1.names names1 said2.declared (condition_quiet c names1) reads1 in
        let reads3 = reads_quiet w k1.names names2 said3.declared (closed_quiet (λ b. if_some b next) (optional j) zj sj gj closed_j a names2) reads2 in
        let u = condition_at c w k1.names names1 k1.next reads1 (all_left IsInt (of_condition c) (zj ++ z) i1) (fault_left said2.notes (said3.notes ++ notes) f1) (omega (arith, ls.next, le.next, h.room.next)) in
        let body = part_done s d z shape g closed_s a0.outermost last (in_loop a) names3 w k2 h.good h.side refl reads3 (all_right IsInt zj z i2) (fault_right said3.notes notes f2) room le.next le.asserts in
        let step = part_done (λ b. if_some b next) (optional j) zj sj gj closed_j a0.outermost last a names2 w k3 h.good h.side refl reads2 (all_left IsInt zj z i2) (fault_left said3.notes notes f2) room (omega arith) (omega arith) in
        record {
          flow = (within p t a0.outermost (optional i w k).flow one.flow, (at_once p t a0.outermost v.flow u.flow, u.pure, body.0, step.0));
          starts = λ e. step.1 ∙ (body.1 ∙ one.starts refl);
          sees = sees_nil names0.locals k.names h.reads.sees;
          thread = h.reads.locals;
          typed = names_kept p items w a0 names0 k (for_code at i c j d w k).flow last.next [] refl (λ g0 c0. over k.next last.next _ _ (λ q r ret seen.
              let x = r.0 ret seen in
              let y = r.1.0 x.1 in
              let seen2 = seen_quiet q k1.names names1.locals said2.declared (condition_quiet c names1) x.1 in
              let seen3 = seen_quiet q k1.names names2.locals said3.declared (closed_quiet (λ b. if_some b next) (optional j) zj sj gj closed_j a names2) seen2 in
              (x.0, (y.0, y.1, r.1.1.0 ret seen3, r.1.1.1 ret seen2)))
              (both k.next k1.next last.next _ _ (li w h.good.grow k).next (omega (arith, up, ls.next, le.next)) (one.typed g0 c0)
              (both k1.next v.next last.next _ _ up (omega (arith, ls.next, le.next)) (condition_typed c w k1.names names1 k1.next reads1 (fault_left said2.notes (said3.notes ++ notes) f1) g0)
              (both v.next k3.next last.next _ _ ls.next le.next (body.2 g0 c0) (step.2 g0 c0)))));
        };
  }
