use Rattle.pg_plan.specs.Catalogue.{catalogue_view}
use Rattle.pg_syntax_tree.specs.View.{query_view}
use Rattle.pg_plan.proofs.MeaningLemmas.{begins_well}
use Rattle.pg_plan.proofs.reading.plan_text.Goals as goal

pub new-requires-clause-begins : goal.new-requires-clause-begins
new-requires-clause-begins c = begins_well (catalogue_view c.args.catalogue.now.items) _ (query_view c.into_query-query.result) c.in_ok-anchors.ensures
