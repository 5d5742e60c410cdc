use Rattle.std.proofs.Common.{◌≡◌, length, map, sym, ◌∙◌}
use Rattle.pg_project.specs.Columns.{values_in_items}
use Rattle.pg_meaning.specs.Answer.{◌>>=◌, each_answer}
use Rattle.pg_meaning.specs.Meters.{spend}
use Rattle.pg_meaning.specs.Scopes.{column_names, return_column}
use Rattle.pg_project.specs.Given.{cut_given, cut_of, trees_of, values_given}
use Rattle.pg_run.proofs.Returns.{gives_same, item_columns, item_lengths, returned_each}
use Rattle.pg_run.specs.Returning.{named_items}
use Rattle.pg_rows.specs.States.{seen}
use Rattle.pg_run.specs.Telling.{told}
use Rattle.pg_syntax_tree.specs.View.{projection_view}
use Rattle.pg_run.proofs.returning.reply_of_items.Goals as goal

pub returns : goal.returns
returns g c = λ s suits.
    let p = projection_view c.args.projection.now in
    let graph = c.args.graph.now in
    let t = seen c.args.table.now in
    let used = c.args.meter.now.used in
    let columns = column_names (map return_column p.items) in
    let es = values_in_items p.items in
    let scope = c.names-2.ensures in
    let rows = c.rows.ensures.rows in
    let ready = c.in_ok-ready.ready.items in
    let trees : es ≡ trees_of c.names-2.result.now c.as_slice.result.now =
    sym c.in_ok-ready.ensures ∙ (λ i. trees_of ((c.names.ensures ∙ sym scope) i) (sym c.as_slice.ensures.value i)) in
    gives_same c.reply_of_each.result _ _ (λ reply. reply)
    (returned_each c.args.notes s graph p t used columns es (item_lengths p.items) (item_columns s.scope p c.requires.star) (c.requires.turns s.scope)
    ∙ (λ i. spend s used (length (sym rows i)) >>= λ steps. cut_given (suits.parameters_are i) graph p.skip p.limit >>= λ k. each_answer (values_given (suits.parameters_are i) graph (sym scope i) (trees i)) (sym rows i) >>= λ found. told c.args.notes graph (named_items columns) (cut_of k found) steps))
    (c.reply_of_each.ensures c.args.notes s (named_items columns) suits.steps_are (c.in_ok-telling.ensures graph))
