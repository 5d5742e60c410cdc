use Rattle.std.proofs.Common.{refl}
use Rattle.pg_pool.proofs.SlotChanges.{labelled_some}
use Rattle.pg_pool.proofs.Steps.{node_dropped}
use Rattle.pg_pool.proofs.Values.{inside_some}
use Rattle.pg_pool.proofs.pooled_tables.PooledTablesTables.drop_node.Goals as goal

pub remove-key-requires : goal.remove-key-requires
remove-key-requires g c = inside_some _ _ _ c.requires.present

pub remove-requires : goal.remove-requires
remove-requires g c = labelled_some _ _ _ ((c.requires.fits.nodes _ _).0 c.remove-key.ensures.before)

pub returns : goal.returns
returns g c =
    let step = node_dropped c.args.self.now c.args.shared.now (record c.args.shared.now { records = c.remove.new.self }) c.remove-key.result c.requires.fits
    c.remove.ensures.updates.others c.args.id.0 c.remove-key.new.self c.remove-key.ensures.before c.remove.ensures.updates.changed c.remove-key.ensures.removed in
    record { dropped = step.content; keeps = record { fits = step.fits; owner = refl; others = step.others } }
