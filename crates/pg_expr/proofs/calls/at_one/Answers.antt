use Rattle.std.proofs.Common.{ap}
use Rattle.pg_expr.proofs.Walks.{ok_by, err_by}
use Rattle.pg_expr.specs.Contexts.{found_view}
use Rattle.pg_meaning.specs.Functions.{function_at}
use Rattle.pg_meaning.specs.Value.{no_items, item}
use Rattle.pg_scope.specs.Calls.{function_view}
use Rattle.pg_expr.proofs.calls.at_one.Goals as goal

pub returns-in-Properties : goal.returns-in-Properties
returns-in-Properties g c =
    let same = ap (λ f. function_at c.args.graph.now (function_view f) (item (found_view c.args.argument) no_items)) c.in-Properties.is in
    record { ok = ok_by c.properties.result found_view same c.properties.ensures.ok; err = err_by c.properties.result same c.properties.ensures.err }

pub returns-in-Head : goal.returns-in-Head
returns-in-Head g c =
    let same = ap (λ f. function_at c.args.graph.now (function_view f) (item (found_view c.args.argument) no_items)) c.in-Head.is in
    record { ok = ok_by c.end_item.result found_view same c.end_item.ensures.ok; err = err_by c.end_item.result same c.end_item.ensures.err }

pub returns-in-Last : goal.returns-in-Last
returns-in-Last g c =
    let same = ap (λ f. function_at c.args.graph.now (function_view f) (item (found_view c.args.argument) no_items)) c.in-Last.is in
    record { ok = ok_by c.end_item-in-Last.result found_view same c.end_item-in-Last.ensures.ok; err = err_by c.end_item-in-Last.result same c.end_item-in-Last.ensures.err }

pub returns-in-ToString : goal.returns-in-ToString
returns-in-ToString g c =
    let same = ap (λ f. function_at c.args.graph.now (function_view f) (item (found_view c.args.argument) no_items)) c.in-ToString.is in
    record { ok = ok_by c.to_text.result found_view same c.to_text.ensures.ok; err = err_by c.to_text.result same c.to_text.ensures.err }

pub returns-in-Coalesce : goal.returns-in-Coalesce
returns-in-Coalesce g c = record { ok = ap (λ f. function_at c.args.graph.now (function_view f) (item (found_view c.args.argument) no_items)) c.in-Coalesce.is; err = tt }
