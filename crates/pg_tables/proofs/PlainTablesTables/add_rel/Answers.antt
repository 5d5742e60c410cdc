use Rattle.std.proofs.Common.{refl, subst, sym, ◌∙◌}
use Rattle.pg_graph.specs.Links.{IsIncidence}
use Rattle.pg_graph.proofs.Incident.{outgoing_rise, incoming_rise}
use Rattle.pg_graph.proofs.Others.{others_refl}
use Rattle.pg_graph.proofs.Maps.{get_inserted, removed_inserted}
use Rattle.pg_tables.proofs.PlainTablesTables.add_rel.Goals as goal

pub add-requires-clause-outgoing : goal.add-requires-clause-outgoing
add-requires-clause-outgoing g c = outgoing_rise _ _ c.requires.fits

pub add-requires-clause-incoming : goal.add-requires-clause-incoming
add-requires-clause-incoming g c = incoming_rise _ _ c.requires.fits

pub remove-requires-clause-outgoing : goal.remove-requires-clause-outgoing
remove-requires-clause-outgoing g c = outgoing_rise _ _ (c.in_ok-add.ensures.ok c.args.self.now.rels c.args.rel refl refl c.requires.absent c.requires.fits)

pub remove-requires-clause-incoming : goal.remove-requires-clause-incoming
remove-requires-clause-incoming g c = incoming_rise _ _ (c.in_ok-add.ensures.ok c.args.self.now.rels c.args.rel refl refl c.requires.absent c.requires.fits)

pub returns-in-Err-clause-keeps : goal.returns-in-Err-clause-keeps
returns-in-Err-clause-keeps g c =
    let added = c.in_ok-add.ensures.ok c.args.self.now.rels c.args.rel refl refl c.requires.absent c.requires.fits in
    record {
      fits = subst (IsIncidence c.remove.new.self) (removed_inserted _ c.args.id.0 c.args.rel c.requires.absent ∙ sym c.in-Err.ensures.err)
          (c.remove.ensures _ c.args.rel refl refl (get_inserted c.args.self.now.rels c.args.id.0 c.args.rel) added);
      owner = refl;
      others = others_refl _ _;
    }
