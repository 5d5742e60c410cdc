use Rattle.std.proofs.Common.{[], ◌∷◌, map, refl, sym, ap, subst, ◌∙◌}
use Rattle.pg_meaning.specs.Patterns.{add_path_names}
use Rattle.pg_scope.proofs.FirstLemmas.{item_here, items_end}
use Rattle.pg_scope.proofs.ScopeLemmas.{same_self, same_in_turn, paths_same}
use Rattle.pg_scope.specs.Names.{names_in, HasSame}
use Rattle.pg_syntax_tree.specs.View.{path_view}
use Rattle.pg_scope.proofs.scopes.add_paths.Goals as goal

pub loop-path-init : goal.loop-path-init
loop-path-init c = (names_in c.args.names.now, same_self _, refl)

pub loop-path-preserved : goal.loop-path-preserved
loop-path-preserved c =
    let (ns, same, rest) = c.loop-path.invariant in
    let p = path_view c.path-item.result in (
      add_path_names (p ∷ []) ns,
      same_in_turn c.in_ok-add_path.ensures (paths_same (p ∷ []) same),
      rest ∙ ap (λ ys. add_path_names (map path_view ys) ns) (item_here c.loop-path-test.true c.path-item.is c.deref-path-items.ensures.value),
    )

pub returns : goal.returns
returns c =
    let (ns, same, rest) = c.loop-path.invariant in
    let all = rest ∙ ap (λ ys. add_path_names (map path_view ys) ns) (items_end c.loop-path-test.false c.deref-path-items.ensures.value) in
    subst (HasSame (names_in c.loop-path.names)) (sym all) same
