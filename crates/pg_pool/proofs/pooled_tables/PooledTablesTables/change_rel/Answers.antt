use Rattle.std.proofs.Common.{◌≡◌, Some, option_copied, IsSome, refl, sym, ap, subst, ◌∙◌}
use Rattle.std.specs.FinMap as map
use Rattle.std.specs.Option.{option_map, option_map_or}
use Rattle.pg_pool.proofs.ListPlaces.{ends_stay}
use Rattle.pg_graph.specs.Content.{with_rel}
use Rattle.pg_pool.proofs.Found.{rel_there}
use Rattle.pg_pool.proofs.SlotChanges.{labelled_some, read_some, true_not_false, same_some}
use Rattle.pg_pool.proofs.Steps.{rel_changed}
use Rattle.pg_pool.proofs.Values.{inside_some, outside_some}
use Rattle.pg_pool.specs.Records.{label, rel_or_none}
use Rattle.pg_pool.specs.Tables.{content_of}
use Rattle.pg_pool.proofs.pooled_tables.PooledTablesTables.change_rel.Goals as goal

pub unwrap-key-requires : goal.unwrap-key-requires
unwrap-key-requires g c = subst IsSome (sym c.get.ensures) (inside_some _ _ _ c.requires.present)

pub unwrap-requires : goal.unwrap-requires
unwrap-requires g c =
    let labelled = (c.requires.fits.rels _ _).0 (sym c.get.ensures ∙ c.unwrap-key.ensures) in
    read_some _ (subst IsSome (sym (c.rel.ensures ∙ rel_there _ _ _ labelled)) refl)

pub rel-requires : goal.rel-requires
rel-requires g c = labelled_some _ _ _ ((c.requires.fits.rels _ _).0 (sym c.get.ensures ∙ c.unwrap-key.ensures))

pub replace-requires : goal.replace-requires
replace-requires g c = labelled_some _ _ _ ((c.requires.fits.rels _ _).0 (sym c.get.ensures ∙ c.unwrap-key.ensures))

pub unreachable-requires : goal.unreachable-requires
unreachable-requires g c =
    let labels = sym (ap label c.in-Node.ensures.before) ∙ (c.requires.fits.rels _ _).0 (sym c.get.ensures ∙ c.unwrap-key.ensures) in
    true_not_false (ap (λ p. p.1.0) (same_some _ _ labels))

pub returns : goal.returns
returns g c =
    let found : map.get c.args.self.now.rels c.args.id.0 ≡ Some c.unwrap-key.result = sym c.get.ensures ∙ c.unwrap-key.ensures in
    let content = content_of c.args.self.now c.args.shared.now in
    let there : map.get content.rels c.args.id.0 ≡ Some c.unwrap.result.now =
    outside_some _ _ _ _ found ∙ sym (rel_there _ _ _ ((c.requires.fits.rels _ _).0 found)) ∙ sym c.rel.ensures ∙ ap option_copied c.unwrap.ensures in
    let ends = c.with_properties-rel.ensures in
    let links = ends_stay c.args.self.now.incidence content.rels c.requires.fits.incidence c.args.id.0 c.unwrap.result.now c.with_properties-rel.result there (ap (λ r. r.source) ends) (ap (λ r. r.target) ends) in
    let replaced = c.in-Rel.ensures.replaced in
    let step = rel_changed c.args.self.now c.args.shared.now c.replace.new.self c.unwrap-key.result c.requires.fits replaced.others c.args.id c.with_properties-rel.result found (replaced.changed ∙ ap Some c.rel-2.ensures) links in
    record {
      before = ap (option_map (λ r. r.properties)) (outside_some _ _ _ _ found ∙ ap (λ s. Some (rel_or_none s)) c.in-Rel.ensures.before);
      changed = step.content ∙ ap (with_rel content c.args.id.0) ends
          ∙ sym (ap (λ o. option_map_or (λ rel. with_rel content c.args.id.0 (record rel { properties = c.args.properties })) o content) there);
      keeps = record { fits = step.fits; owner = refl; others = step.others };
    }
