use Rattle.std.proofs.Common.{option_copied, sym, ap, ◌∙◌}
use Rattle.std.specs.Option.{option_map}
use Rattle.pg_pool.proofs.Found.{node_there}
use Rattle.pg_pool.proofs.SlotChanges.{labelled_some}
use Rattle.pg_pool.proofs.Values.{outside_some}
use Rattle.pg_pool.specs.Records.{node_at}
use Rattle.pg_pool.specs.Values.{get-map_values}
use Rattle.pg_pool.proofs.pooled_tables.PooledTablesTables.node.Goals as goal

pub returns-in_err-key : goal.returns-in_err-key
returns-in_err-key g c = ap option_copied c.from_residual.ensures ∙ ap (option_map (node_at c.args.shared.now.records)) c.in_err-key.ensures ∙ sym (get-map_values _ _ _)

pub node-requires : goal.node-requires
node-requires g c = labelled_some _ _ _ ((c.requires.nodes _ _).0 (sym c.in_ok-key.ensures))

pub returns : goal.returns
returns g c =
    let found = sym c.in_ok-key.ensures in
    c.node.ensures ∙ node_there _ _ _ ((c.requires.nodes _ _).0 found) ∙ sym (outside_some _ _ _ _ found)
