use Rattle.std.proofs.Common.{◌||◌, ◌+◌, drop, refl, sym, ap, ◌∙◌}
use Rattle.pg_expr.specs.Contexts.{founds_view}
use Rattle.pg_meaning.specs.Functions.{has_deleted, is_deleted}
use Rattle.pg_scope.proofs.FirstLemmas.{item_here, items_end}
use Rattle.pg_expr.proofs.calls.has_deleted.Goals as goal

pub returns-then-is_deleted : goal.returns-then-is_deleted
returns-then-is_deleted g c =
    let graph = c.args.graph.now in
    let items = c.deref-argument-items.result.now in
    let rest = drop (c.loop-argument.argument-index + 1) items in
    sym
    (ap (λ fs. has_deleted graph (founds_view fs)) (sym c.deref-argument-items.ensures.value)
    ∙ c.loop-argument.invariant
    ∙ ap (λ fs. has_deleted graph (founds_view fs)) (item_here c.loop-argument-test.true c.argument-item.is refl)
    ∙ ap (λ b. b || has_deleted graph (founds_view rest)) (ap (is_deleted graph) (sym c.look.ensures) ∙ sym c.is_deleted.ensures ∙ c.if-is_deleted.true))

pub loop-argument-preserved : goal.loop-argument-preserved
loop-argument-preserved g c =
    let graph = c.args.graph.now in
    let rest = drop (c.loop-argument.argument-index + 1) c.deref-argument-items.result.now in
    c.loop-argument.invariant
    ∙ ap (λ fs. has_deleted graph (founds_view fs)) (item_here c.loop-argument-test.true c.argument-item.is refl)
    ∙ ap (λ b. b || has_deleted graph (founds_view rest)) (ap (is_deleted graph) (sym c.look.ensures) ∙ sym c.is_deleted.ensures ∙ c.if-is_deleted.false)

pub returns : goal.returns
returns g c =
    let graph = c.args.graph.now in
    sym
    (ap (λ fs. has_deleted graph (founds_view fs)) (sym c.deref-argument-items.ensures.value)
    ∙ c.loop-argument.invariant
    ∙ ap (λ fs. has_deleted graph (founds_view fs)) (items_end c.loop-argument-test.false refl))
