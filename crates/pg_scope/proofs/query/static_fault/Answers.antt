use Rattle.std.proofs.Common.{[], map, refl, sym, ap, subst, ◌∙◌}
use Rattle.pg_meaning.specs.Scopes.{scope_after}
use Rattle.pg_meaning.specs.StaticFaults.{least, clauses_faults, static_fault, static_faults}
use Rattle.pg_scope.proofs.FirstLemmas.{least_of_none, walk_past, items_end}
use Rattle.pg_scope.proofs.ScopeLemmas.{same_self}
use Rattle.pg_scope.proofs.StepLemmas.{steps_more}
use Rattle.pg_scope.specs.Names.{HasSame}
use Rattle.pg_syntax_tree.specs.View.{clause_view}
use Rattle.pg_scope.proofs.query.static_fault.Goals as goal

pub loop-clause-init : goal.loop-clause-init
loop-clause-init c = ([], subst (λ ks. HasSame (map (λ k. k.now) ks) []) (sym c.new-scope.ensures.empty) (same_self _), refl)

pub loop-clause-preserved : goal.loop-clause-preserved
loop-clause-preserved c =
    let (ns, same, rest) = c.loop-clause.invariant in
    let x = clause_view c.clause-item.result in
    let more = steps_more same c.in_ok-found.ensures in (
      scope_after ns x,
      more.1,
      rest ∙ walk_past (λ ys. clauses_faults ns (map clause_view ys)) (λ ys. clauses_faults (scope_after ns x) (map clause_view ys)) (λ ys. refl) c.loop-clause-test.true c.clause-item.is c.deref-clause-items.ensures.value more.0,
    )

pub returns : goal.returns
unfolding static_fault static_faults
returns c =
    let (ns, same, rest) = c.loop-clause.invariant in
    sym (rest ∙ ap (λ ys. least c.loop-clause.first (clauses_faults ns (map clause_view ys))) (items_end c.loop-clause-test.false c.deref-clause-items.ensures.value) ∙ least_of_none c.loop-clause.first)
