use Rattle.pg_graph.proofs.Incident.{outgoing_rise, incoming_rise}
use Rattle.pg_tables.proofs.PlainTablesTables.drop_rel.Goals as goal

pub remove-requires-clause-outgoing : goal.remove-requires-clause-outgoing
remove-requires-clause-outgoing g c = outgoing_rise _ _ c.requires.fits

pub remove-requires-clause-incoming : goal.remove-requires-clause-incoming
remove-requires-clause-incoming g c = incoming_rise _ _ c.requires.fits
