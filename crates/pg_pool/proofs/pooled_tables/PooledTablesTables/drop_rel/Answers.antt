use Rattle.std.proofs.Common.{Some, sym, ap, refl, ◌∙◌}
use Rattle.pg_pool.proofs.ListPlaces.{outgoing_sound, incoming_sound}
use Rattle.pg_pool.proofs.SlotChanges.{labelled_some, same_some, true_not_false}
use Rattle.pg_pool.proofs.Steps.{rel_dropped}
use Rattle.pg_pool.proofs.Values.{inside_some, outside_some}
use Rattle.pg_pool.specs.Records.{label, rel_or_none}
use Rattle.pg_pool.proofs.pooled_tables.PooledTablesTables.drop_rel.Goals as goal

pub remove-key-requires : goal.remove-key-requires
remove-key-requires g c = inside_some _ _ _ c.requires.present

pub remove-requires : goal.remove-requires
remove-requires g c = labelled_some _ _ _ ((c.requires.fits.rels _ _).0 c.remove-key.ensures.before)

pub unreachable-requires : goal.unreachable-requires
unreachable-requires g c =
    let labels = sym (ap label c.in-Node.ensures.before) ∙ (c.requires.fits.rels _ _).0 c.remove-key.ensures.before in
    true_not_false (ap (λ p. p.1.0) (same_some _ _ labels))

pub remove-requires-in-Rel-clause-outgoing : goal.remove-requires-in-Rel-clause-outgoing
remove-requires-in-Rel-clause-outgoing g c = outgoing_sound _ _ c.requires.fits.incidence

pub remove-requires-in-Rel-clause-incoming : goal.remove-requires-in-Rel-clause-incoming
remove-requires-in-Rel-clause-incoming g c = incoming_sound _ _ c.requires.fits.incidence

pub returns : goal.returns
returns g c =
    let there = outside_some _ _ _ _ c.remove-key.ensures.before ∙ ap (λ s. Some (rel_or_none s)) c.in-Rel.ensures.before in
    let step = rel_dropped c.args.self.now c.args.shared.now (record c.args.shared.now { records = c.remove.new.self }) c.remove-key.result c.requires.fits
    c.remove.ensures.updates.others c.args.id.0 c.remove-key.new.self c.remove-in-Rel.new.self c.remove-key.ensures.before c.remove.ensures.updates.changed c.remove-key.ensures.removed
    (c.remove-in-Rel.ensures _ c.in-Rel.rel refl refl there c.requires.fits.incidence) in
    record { dropped = step.content; keeps = record { fits = step.fits; owner = refl; others = step.others } }
