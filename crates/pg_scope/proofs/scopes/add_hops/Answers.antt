use Rattle.std.proofs.Common.{map, refl, sym, ap, subst, ◌∙◌}
use Rattle.pg_meaning.specs.Patterns.{node_name, relationship_name, add_if_named, add_hop_names}
use Rattle.pg_scope.proofs.FirstLemmas.{item_here, items_end}
use Rattle.pg_scope.proofs.ScopeLemmas.{same_self, variable_added, relationship_added}
use Rattle.pg_scope.specs.Names.{names_in, HasSame}
use Rattle.pg_syntax_tree.specs.View.{hop_view, node_view, relationship_view}
use Rattle.pg_scope.proofs.scopes.add_hops.Goals as goal

pub loop-relationship-init : goal.loop-relationship-init
loop-relationship-init c = (names_in c.args.names.now, same_self _, refl)

pub loop-relationship-preserved : goal.loop-relationship-preserved
loop-relationship-preserved c =
    let (ns, same, rest) = c.loop-relationship.invariant in
    let h = c.loop-relationship-item.result in
    let r = relationship_view h.0 in
    let n = node_view h.1 in (
      add_if_named (node_name n) (add_if_named (relationship_name r) ns),
      variable_added n.variable c.in_ok-add_variable.ensures (relationship_added r c.in_ok-add_relationship_variable.ensures same),
      rest ∙ ap (λ ys. add_hop_names (map hop_view ys) ns) (item_here c.loop-relationship-test.true c.loop-relationship-item.is c.deref-relationship-items.ensures.value),
    )

pub returns : goal.returns
returns c =
    let (ns, same, rest) = c.loop-relationship.invariant in
    let all = rest ∙ ap (λ ys. add_hop_names (map hop_view ys) ns) (items_end c.loop-relationship-test.false c.deref-relationship-items.ensures.value) in
    subst (HasSame (names_in c.loop-relationship.names)) (sym all) same
