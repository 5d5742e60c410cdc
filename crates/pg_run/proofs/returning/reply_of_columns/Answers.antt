use Rattle.std.proofs.Common.{◌≡◌, length, sym, ap, ◌∙◌}
use Rattle.std.proofs.lemmas.List.{length-map}
use Rattle.pg_project.specs.Items.{columns_of, expressions_view}
use Rattle.pg_meaning.specs.Answer.{◌>>=◌, each_answer}
use Rattle.pg_meaning.specs.Meters.{spend}
use Rattle.pg_meaning.specs.Scopes.{return_columns}
use Rattle.pg_project.specs.Given.{cut_given, cut_of, trees_of, values_given}
use Rattle.pg_run.proofs.Returns.{gives_same, returned_each}
use Rattle.pg_run.specs.Returning.{named_items}
use Rattle.pg_rows.specs.States.{seen}
use Rattle.pg_run.specs.Telling.{told}
use Rattle.pg_syntax_tree.specs.View.{expression_view, projection_view}
use Rattle.pg_run.proofs.returning.reply_of_columns.Goals as goal

pub returns : goal.returns
returns g c = λ s suits.
    let p = projection_view c.args.projection.now in
    let graph = c.args.graph.now in
    let t = seen c.args.table.now in
    let used = c.args.meter.now.used in
    let columns = c.in_ok-columns.columns.names in
    let items = c.in_ok-expressions.expressions.items in
    let es = expressions_view items in
    let same : length columns ≡ length es = sym c.in_ok-expressions.ensures.len ∙ sym (length-map items (λ e. expression_view e.now)) in
    let are : columns_of columns es ≡ return_columns s.scope p = sym c.in_ok-expressions.ensures.trees ∙ c.in_ok-columns.ensures ∙ ap (λ ns. return_columns ns p) (c.names.ensures ∙ sym suits.scope_is) in
    let scope = c.names-3.ensures in
    let rows = c.rows.ensures.rows in
    let ready = c.in_ok-ready.ready.items in
    let lent : ready ≡ c.as_slice.result.now = sym c.as_slice.ensures.value in
    let trees : es ≡ trees_of c.names-3.result.now c.as_slice.result.now = sym c.in_ok-ready.ensures.trees ∙ ap (λ ns. trees_of ns ready) (c.names-2.ensures ∙ sym scope) ∙ ap (trees_of c.names-3.result.now) lent in
    gives_same c.reply_of_each.result _ _ (λ reply. reply)
    (returned_each c.args.notes s graph p t used columns es same are (c.requires s.scope)
    ∙ (λ i. spend s used (length (sym rows i)) >>= λ steps. cut_given (suits.parameters_are i) graph p.skip p.limit >>= λ k. each_answer (values_given (suits.parameters_are i) graph (sym scope i) (trees i)) (sym rows i) >>= λ found. told c.args.notes graph (named_items (sym c.names-4.ensures i)) (cut_of k found) steps))
    (c.reply_of_each.ensures c.args.notes s (named_items c.names-4.result.now) suits.steps_are (c.in_ok-telling.ensures graph))
