use Rattle.std.proofs.Common.{◌≡◌, not, ◌+◌, ◌∷◌, ◌++◌, drop, map, refl, sym, ap, subst, ◌∙◌}
use Rattle.pg_meaning.specs.Names.{is_among}
use Rattle.pg_meaning.specs.Scopes.{column_names}
use Rattle.pg_meaning.specs.StaticFaults.{least, found_if, item_faults}
use Rattle.pg_meaning.specs.declared.fault.Fault.TheVariants.{DuplicateColumn}
use Rattle.pg_scope.proofs.FirstLemmas.{in_turn, walk_past, walked, item_here, items_end}
use Rattle.pg_scope.proofs.ScopeLemmas.{stood_there, stood_or, same_self, more_left, moves_left, nothing_right}
use Rattle.pg_scope.specs.Columns.{column_of, starred}
use Rattle.pg_scope.specs.First.{IsFirst}
use Rattle.pg_scope.specs.Names.{names_in, HasSame}
use Rattle.pg_syntax_tree.specs.View.{item_view}
use Rattle.pg_scope.proofs.items.fault_in_items.Goals as goal

pub loop-item-init : goal.loop-item-init
loop-item-init c =
    let none = c.requires in (
      starred c.args.star (names_in c.args.scope.now),
      subst (λ ks. HasSame (map (λ k. k.now) ks ++ starred c.args.star (names_in c.args.scope.now)) (starred c.args.star (names_in c.args.scope.now))) (sym none) (same_self _),
      subst (λ ks. HasSame (map (λ k. k.now) ks ++ column_names (map (column_of c.args.naming) (map item_view c.args.items.now.items))) (column_names (map (column_of c.args.naming) (map item_view c.args.items.now.items)))) (sym none) (same_self _),
      refl,
    )

pub loop-item-preserved : goal.loop-item-preserved
loop-item-preserved c =
    let (done, same, names, rest) = c.loop-item.invariant in
    let column = column_of c.args.naming in
    let x = c.item-item.result in
    let i = c.loop-item.item-index in
    let name = (column (item_view x)).name in
    let is = c.column_name-name.ensures in
    let item = item_here c.loop-item-test.true c.item-item.is c.deref-item-items.ensures.value in
    let here : c.if-not-new.again ≡ is_among (names_in c.loop-item.columns ++ starred c.args.star (names_in c.args.scope.now)) c.column_name-name.result.now = elim c.if-not-new.branch [
      | goal.then-not-new w ↦ stood_there (names_in c.loop-item.columns) (starred c.args.star (names_in c.args.scope.now)) c.column_name-name.result.now c.in_ok-new.ensures.added w.if-not-new.true (w.again-is ∙ ap not w.if-not-new.true)
      | goal.else-not-new w ↦ stood_or (names_in c.loop-item.columns) (starred c.args.star (names_in c.args.scope.now)) c.column_name-name.result.now c.in_ok-new.ensures.added w.if-not-new.false (w.again-is ∙ w.is_starred-again.ensures)
    ] in
    let again = here ∙ ap (is_among (names_in c.loop-item.columns ++ starred c.args.star (names_in c.args.scope.now))) is ∙ same.is name in
    let noted = subst (λ b. IsFirst c.loop-item.first (found_if b x.start DuplicateColumn) c.noted-first.result) again c.noted-first.ensures in
    let all = column_names (map column (map item_view c.args.items.now.items)) in (
      name ∷ done,
      more_left (starred c.args.star (names_in c.args.scope.now)) c.in_ok-new.ensures.names is same,
      moves_left (column_names (map column (map item_view (drop (i + 1) c.args.items.now.items)))) c.in_ok-new.ensures.names is (subst (λ ys. HasSame (names_in c.loop-item.columns ++ column_names (map column (map item_view ys))) all) item names),
      rest ∙ walk_past (λ ys. item_faults column (names_in c.args.scope.now) done (map item_view ys)) (λ ys. item_faults column (names_in c.args.scope.now) (name ∷ done) (map item_view ys)) (λ ys. refl)
          c.loop-item-test.true c.item-item.is c.deref-item-items.ensures.value (in_turn noted c.fault_in_expression-first.ensures),
    )

pub returns-clause-first : goal.returns-clause-first
returns-clause-first c =
    let (done, same, names, rest) = c.loop-item.invariant in
    let none = items_end c.loop-item-test.false c.deref-item-items.ensures.value in
    walked _ _ _ (rest ∙ ap (λ ys. least c.loop-item.first (item_faults (column_of c.args.naming) (names_in c.args.scope.now) done (map item_view ys))) none)

pub returns-clause-names : goal.returns-clause-names
returns-clause-names c =
    let (done, same, names, rest) = c.loop-item.invariant in
    nothing_right (ap (λ ys. column_names (map (column_of c.args.naming) (map item_view ys))) (items_end c.loop-item-test.false c.deref-item-items.ensures.value)) names
