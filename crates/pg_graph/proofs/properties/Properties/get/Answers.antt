use Rattle.std.proofs.Common.{Ok, Err, Some, sym, ap, subst, ◌∙◌}
use Rattle.std.specs.FinMap as map
use Rattle.pg_graph.specs.Sorted.{IsPlace}
use Rattle.pg_graph.proofs.Entries.{get_found, get_missing}
use Rattle.pg_value_core.specs.View.{view}
use Rattle.pg_graph.proofs.properties.Properties.get.Goals as goal

pub returns-in-Ok : goal.returns-in-Ok
returns-in-Ok c =
    let items = c.self.inside.entries.items in
    let at : IsPlace (λ e. e.0) c.args.key items (Ok c.in-Ok.i) =
    subst (λ k. IsPlace (λ e. e.0) k items (Ok c.in-Ok.i)) c.number.ensures (subst (λ xs. IsPlace (λ e. e.0) c.number.result xs (Ok c.in-Ok.i)) c.as_slice.ensures.value c.in-Ok.ensures) in
    ap (λ e. Some (view e.1)) c.index.ensures
    ∙ sym (get_found view c.args.key items c.in-Ok.i _ c.self.invariant at.0 at.1)
    ∙ ap (λ m. map.get m c.args.key) c.self.view_is

pub returns-in-Err : goal.returns-in-Err
returns-in-Err c =
    let items = c.self.inside.entries.items in
    let at : IsPlace (λ e. e.0) c.args.key items (Err c.in-Err.field-0) =
    subst (λ k. IsPlace (λ e. e.0) k items (Err c.in-Err.field-0)) c.number.ensures (subst (λ xs. IsPlace (λ e. e.0) c.number.result xs (Err c.in-Err.field-0)) c.as_slice.ensures.value c.in-Err.ensures) in
    sym (get_missing view c.args.key items c.in-Err.field-0 c.self.invariant at.1) ∙ ap (λ m. map.get m c.args.key) c.self.view_is
