use Rattle.std.proofs.Common.{rules, ◌≡◌, true, false, [], ap, subst}
use Rattle.pg_run.proofs.Returns.{gives_same}
use Rattle.pg_run.specs.Returning.{named_items, replied}
use Rattle.pg_rows.specs.States.{seen, state_of}
use Rattle.pg_run.specs.Telling.{IsTelling, told}
use Rattle.pg_run.specs.Told.{rows_told}
use Rattle.pg_run.proofs.running.reply_of.Goals as goal

pub returns-then-not-planned : goal.returns-then-not-planned
returns-then-not-planned g c =
    let graph = c.args.graph.now in
    let none : c.args.planned.now.returns ≡ false = search rules in
    gives_same c.finish.result _ (told c.args.planned.now.notes graph (named_items []) [] c.args.steps) (λ reply. reply)
    (ap (λ b. replied c.args.planned.now.notes b (seen c.args.table).names (state_of graph (seen c.args.table) c.args.steps)) none)
    (c.finish.ensures c.args.planned.now.notes graph (named_items []) [] (subst (λ ns. IsTelling c.args.planned.now.notes graph (named_items ns) [] c.in_ok-empty.empty) c.new-columns.ensures (c.in_ok-empty.ensures graph)))

pub returns : goal.returns
returns g c =
    let graph = c.args.graph.now in
    let t = seen c.args.table in
    let some : c.args.planned.now.returns ≡ true = search rules in
    gives_same c.finish-2.result _ (told c.args.planned.now.notes graph (named_items t.names) (rows_told t) c.args.steps) (λ reply. reply)
    (ap (λ b. replied c.args.planned.now.notes b t.names (state_of graph t c.args.steps)) some)
    (c.finish-2.ensures c.args.planned.now.notes graph (named_items t.names) (rows_told t) (c.in_ok-tell_table.ensures c.args.planned.now.notes (named_items t.names) (subst (λ ns. IsTelling c.args.planned.now.notes graph (named_items ns) [] c.in_ok-telling.telling) c.names.ensures (c.in_ok-telling.ensures graph))))
