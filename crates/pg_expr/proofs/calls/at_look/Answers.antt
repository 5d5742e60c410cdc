use Rattle.std.proofs.Common.{ap}
use Rattle.pg_expr.proofs.Turns.{told}
use Rattle.pg_expr.proofs.Walks.{ok_by, err_by}
use Rattle.pg_meaning.specs.Functions.{function_at}
use Rattle.pg_meaning.specs.Value.{no_items, item}
use Rattle.pg_scope.specs.Calls.{function_view}
use Rattle.pg_value_core.specs.View.{view}
use Rattle.pg_expr.proofs.calls.at_look.Goals as goal

pub returns-in-Id : goal.returns-in-Id
returns-in-Id g c =
    let same = ap (λ f. function_at c.args.graph.now (function_view f) (item (view c.args.v.now) no_items)) c.in-Id.is in
    record { ok = ok_by c.number.result view same c.number.ensures.ok; err = err_by c.number.result same (told {seen = view} c.number.result c.number.ensures.ok c.number.ensures.err).err }

pub returns-in-Labels : goal.returns-in-Labels
returns-in-Labels g c =
    let same = ap (λ f. function_at c.args.graph.now (function_view f) (item (view c.args.v.now) no_items)) c.in-Labels.is in
    record { ok = ok_by c.labels.result view same c.labels.ensures.ok; err = err_by c.labels.result same c.labels.ensures.err }

pub returns-in-Type : goal.returns-in-Type
returns-in-Type g c =
    let same = ap (λ f. function_at c.args.graph.now (function_view f) (item (view c.args.v.now) no_items)) c.in-Type.is in
    record { ok = ok_by c.kind.result view same c.kind.ensures.ok; err = err_by c.kind.result same c.kind.ensures.err }

pub returns-in-Keys : goal.returns-in-Keys
returns-in-Keys g c =
    let same = ap (λ f. function_at c.args.graph.now (function_view f) (item (view c.args.v.now) no_items)) c.in-Keys.is in
    record { ok = ok_by c.keys.result view same c.keys.ensures.ok; err = err_by c.keys.result same c.keys.ensures.err }

pub returns-in-Size : goal.returns-in-Size
returns-in-Size g c =
    let same = ap (λ f. function_at c.args.graph.now (function_view f) (item (view c.args.v.now) no_items)) c.in-Size.is in
    record { ok = ok_by c.size.result view same c.size.ensures.ok; err = err_by c.size.result same (told {seen = view} c.size.result c.size.ensures.ok c.size.ensures.err).err }

pub returns-in-Length : goal.returns-in-Length
returns-in-Length g c =
    let same = ap (λ f. function_at c.args.graph.now (function_view f) (item (view c.args.v.now) no_items)) c.in-Length.is in
    record { ok = ok_by c.length.result view same c.length.ensures.ok; err = err_by c.length.result same (told {seen = view} c.length.result c.length.ensures.ok c.length.ensures.err).err }

pub returns-in-Nodes : goal.returns-in-Nodes
returns-in-Nodes g c =
    let same = ap (λ f. function_at c.args.graph.now (function_view f) (item (view c.args.v.now) no_items)) c.in-Nodes.is in
    record { ok = ok_by c.nodes.result view same c.nodes.ensures.ok; err = err_by c.nodes.result same c.nodes.ensures.err }

pub returns-in-Relationships : goal.returns-in-Relationships
returns-in-Relationships g c =
    let same = ap (λ f. function_at c.args.graph.now (function_view f) (item (view c.args.v.now) no_items)) c.in-Relationships.is in
    record { ok = ok_by c.relationships.result view same c.relationships.ensures.ok; err = err_by c.relationships.result same c.relationships.ensures.err }

pub returns-in-ToInteger : goal.returns-in-ToInteger
returns-in-ToInteger g c =
    let same = ap (λ f. function_at c.args.graph.now (function_view f) (item (view c.args.v.now) no_items)) c.in-ToInteger.is in
    record { ok = ok_by c.to_integer.result view same c.to_integer.ensures.ok; err = err_by c.to_integer.result same (told {seen = view} c.to_integer.result c.to_integer.ensures.ok c.to_integer.ensures.err).err }

pub returns-in-Abs : goal.returns-in-Abs
returns-in-Abs g c =
    let same = ap (λ f. function_at c.args.graph.now (function_view f) (item (view c.args.v.now) no_items)) c.in-Abs.is in
    record { ok = ok_by c.absolute.result view same c.absolute.ensures.ok; err = err_by c.absolute.result same (told {seen = view} c.absolute.result c.absolute.ensures.ok c.absolute.ensures.err).err }

pub returns-in-StartNode : goal.returns-in-StartNode
returns-in-StartNode g c =
    let same = ap (λ f. function_at c.args.graph.now (function_view f) (item (view c.args.v.now) no_items)) c.in-StartNode.is in
    record { ok = ok_by c.end_node.result view same c.end_node.ensures.ok; err = err_by c.end_node.result same (told {seen = view} c.end_node.result c.end_node.ensures.ok c.end_node.ensures.err).err }
