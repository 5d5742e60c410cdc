use Rattle.std.proofs.Common.{◌∙◌, ◌++◌, map, sym, subst}
use Rattle.std.proofs.lemmas.Bool.{false≢true}
use Rattle.pg_meaning.specs.Scopes.{column_names}
use Rattle.pg_meaning.specs.StaticFaults.{item_faults, projection_faults}
use Rattle.pg_scope.proofs.ProjectionLemmas.{projected, narrow_star, names_alone, names_with_star, visible_narrow, visible_wide}
use Rattle.pg_scope.specs.Columns.{column_of, starred}
use Rattle.pg_scope.specs.First.{IsFirst}
use Rattle.pg_scope.specs.Names.{names_in, HasSame}
use Rattle.pg_scope.specs.Roles.{seen}
use Rattle.pg_syntax_tree.specs.View.{projection_view}
use Rattle.pg_scope.proofs.projections.fault_in_projection.Goals as goal

pub returns-then-star : goal.returns-then-star
returns-then-star c =
    let p = projection_view c.args.projection.now in
    let scope = names_in c.args.scope in
    let naming = c.args.naming in
    let condition = seen c.args.condition in
    let own = column_names (map (column_of naming) p.items) in
    let starred_there = sym c.is_some-star.ensures ∙ c.if-star.true in
    let items = subst (λ b. IsFirst c.args.first (item_faults (column_of naming) scope (starred b scope) p.items) c.in_ok-first.first) c.is_some-star.ensures c.in_ok-first.ensures.first in
    elim c.if-is_narrow.branch [
      | goal.then-is_narrow w ↦ absurd (false≢true (sym (narrow_star naming scope p (sym c.is_narrow.ensures ∙ w.if-is_narrow.true)) ∙ starred_there))
      | goal.else-is_narrow+in_ok-add_columns w ↦
          let wide = sym c.is_narrow.ensures ∙ w.if-is_narrow.false in
          let visible : HasSame (names_in c.if-is_narrow.visible.now) (own ++ scope) = rw w.visible-is w.in_ok-add_columns.ensures in
          let behind : HasSame (names_in c.if-is_narrow.scope) (own ++ scope) = rw w.scope-is w.in_ok-add_columns.ensures in
          (projected naming scope p condition (visible_wide naming scope p wide visible) items c.in_ok-found.ensures, names_with_star naming scope p starred_there behind)
    ]

pub returns : goal.returns
returns c =
    let p = projection_view c.args.projection.now in
    let scope = names_in c.args.scope in
    let naming = c.args.naming in
    let condition = seen c.args.condition in
    let own = column_names (map (column_of naming) p.items) in
    let items = subst (λ b. IsFirst c.args.first (item_faults (column_of naming) scope (starred b scope) p.items) c.in_ok-first.first) c.is_some-star.ensures c.in_ok-first.ensures.first in
    let faults : IsFirst c.args.first (projection_faults (column_of naming) scope p condition) c.in_ok-found.found = elim c.if-is_narrow.branch [
      | goal.then-is_narrow w ↦
          let visible : HasSame (names_in c.if-is_narrow.visible.now) own = rw w.visible-is c.in_ok-first.ensures.names in
          projected naming scope p condition (visible_narrow naming scope p (sym c.is_narrow.ensures ∙ w.if-is_narrow.true) visible) items c.in_ok-found.ensures
      | goal.else-is_narrow+in_ok-add_columns w ↦
          let visible : HasSame (names_in c.if-is_narrow.visible.now) (own ++ scope) = rw w.visible-is w.in_ok-add_columns.ensures in
          projected naming scope p condition (visible_wide naming scope p (sym c.is_narrow.ensures ∙ w.if-is_narrow.false) visible) items c.in_ok-found.ensures
    ] in
    (faults, names_alone naming scope p (sym c.is_some-star.ensures ∙ c.if-star.false) c.in_ok-first.ensures.names)
