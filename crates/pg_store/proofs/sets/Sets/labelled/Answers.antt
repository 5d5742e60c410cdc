use Rattle.std.proofs.Common.{ap, ◌∙◌}
use Rattle.std.specs.Ordering.{nat_cmp}
use Rattle.pg_index.specs.Index.{ids_at}
use Rattle.pg_store.proofs.sets.Sets.labelled.Goals as goal

pub returns-in-Some : goal.returns-in-Some
returns-in-Some c = c.in-Some.ensures ∙ ap (ids_at nat_cmp c.args.self.now.labels) c.as_u64.ensures

pub returns-in-None : goal.returns-in-None
returns-in-None c = c.args.self.now.none_is_empty ∙ c.in-None.ensures ∙ ap (ids_at nat_cmp c.args.self.now.labels) c.as_u64.ensures
