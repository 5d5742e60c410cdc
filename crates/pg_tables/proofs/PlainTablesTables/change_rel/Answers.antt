use Rattle.std.proofs.Common.{option_copied, refl, subst, sym, ap, ◌∙◌}
use Rattle.pg_graph.specs.Links.{IsIncidence}
use Rattle.pg_graph.proofs.Incident.{ends_stay}
use Rattle.pg_graph.proofs.Others.{others_refl}
use Rattle.pg_tables.proofs.PlainTablesTables.change_rel.Goals as goal

pub returns-clause-keeps : goal.returns-clause-keeps
returns-clause-keeps g c =
    let there = sym c.get.ensures ∙ ap option_copied c.unwrap.ensures in
    let ends = c.with_properties-rel.ensures in
    record {
      fits = subst (IsIncidence c.args.self.now.incidence) (sym c.replace-properties.ensures.replaced)
          (ends_stay c.args.self.now.incidence c.args.self.now.rels c.requires.fits c.args.id.0 c.unwrap.result.now c.with_properties-rel.result there (ap (λ r. r.source) ends) (ap (λ r. r.target) ends));
      owner = refl;
      others = others_refl _ _;
    }
