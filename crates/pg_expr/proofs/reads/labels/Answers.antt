use Rattle.std.proofs.Common.{sym, ◌∙◌}
use Rattle.pg_expr.proofs.LabelLemmas.{no_labels}
use Rattle.pg_expr.specs.Contexts.{found_view}
use Rattle.pg_expr.proofs.reads.labels.Goals as goal

pub returns-then-is_empty-clause-ok : goal.returns-then-is_empty-clause-ok
returns-then-is_empty-clause-ok g c = no_labels c.args.graph.now c.args.labels.now (found_view c.args.value) (sym c.is_empty.ensures ∙ c.if-is_empty.true)

pub returns-then-is_empty-clause-err : goal.returns-then-is_empty-clause-err
returns-then-is_empty-clause-err g c = tt

pub some_labels-requires : goal.some_labels-requires
some_labels-requires g c = sym c.is_empty.ensures ∙ c.if-is_empty.false
