use Rattle.std.proofs.Common.{true, false, subst, sym, ap, ◌∙◌}
use Rattle.pg_pool.specs.Lists.{IsIncidence}
use Rattle.pg_pool.proofs.SlotChanges.{finds_empty}
use Rattle.pg_pool.proofs.Values.{values_empty}
use Rattle.pg_pool.specs.Records.{node_at, rel_at}
use Rattle.pg_pool.specs.Tables.{Finds}
use Rattle.pg_pool.specs.Values.{map_values}
use Rattle.pg_pool.proofs.pooled_tables.PooledTablesTables.new.Goals as goal

pub returns-clause-fits : goal.returns-clause-fits
returns-clause-fits g c = λ shared unused. record {
  nodes = subst (λ ids. Finds true c.args.owner ids shared.records) (sym c.new.ensures) (finds_empty true c.args.owner shared.records (λ key id. unused key id true));
  rels = subst (λ ids. Finds false c.args.owner ids shared.records) (sym c.new-2.ensures) (finds_empty false c.args.owner shared.records (λ key id. unused key id false));
  incidence = subst (IsIncidence c.new-3.result) (sym (ap (map_values (rel_at shared.records)) c.new-2.ensures ∙ values_empty (rel_at shared.records))) c.new-3.ensures;
}

pub returns-clause-empty : goal.returns-clause-empty
returns-clause-empty g c = λ shared unused i. record {
  nodes = (ap (map_values (node_at shared.records)) c.new.ensures ∙ values_empty (node_at shared.records)) i;
  rels = (ap (map_values (rel_at shared.records)) c.new-2.ensures ∙ values_empty (rel_at shared.records)) i;
}
