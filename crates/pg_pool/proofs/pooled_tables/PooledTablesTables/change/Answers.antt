use Rattle.std.proofs.Common.{◌≡◌, Some, IsSome, refl, sym, ap, subst, ◌∙◌}
use Rattle.std.specs.FinMap as map
use Rattle.pg_pool.proofs.SlotChanges.{labelled_some, true_not_false, same_some}
use Rattle.pg_pool.proofs.Steps.{node_changed}
use Rattle.pg_pool.proofs.Values.{inside_some, outside_some}
use Rattle.pg_pool.specs.Records.{label, node_or_none}
use Rattle.pg_pool.proofs.pooled_tables.PooledTablesTables.change.Goals as goal

pub unwrap-key-requires : goal.unwrap-key-requires
unwrap-key-requires g c = subst IsSome (sym c.get.ensures) (inside_some _ _ _ c.requires.present)

pub replace-requires : goal.replace-requires
replace-requires g c = labelled_some _ _ _ ((c.requires.fits.nodes _ _).0 (sym c.get.ensures ∙ c.unwrap-key.ensures))

pub unreachable-requires : goal.unreachable-requires
unreachable-requires g c =
    let labels = sym (ap label c.in-Rel.ensures.before) ∙ (c.requires.fits.nodes _ _).0 (sym c.get.ensures ∙ c.unwrap-key.ensures) in
    true_not_false (sym (ap (λ p. p.1.0) (same_some _ _ labels)))

pub returns : goal.returns
returns g c =
    let found : map.get c.args.self.now.nodes c.args.id.0 ≡ Some c.unwrap-key.result = sym c.get.ensures ∙ c.unwrap-key.ensures in
    let replaced = c.in-Node.ensures.replaced in
    let step = node_changed c.args.self.now c.args.shared.now c.replace.new.self c.unwrap-key.result c.requires.fits replaced.others c.args.id c.args.node found (replaced.changed ∙ ap Some c.node.ensures) in
    record {
      before = outside_some _ _ _ _ found ∙ ap (λ s. Some (node_or_none s)) c.in-Node.ensures.before;
      changed = step.content;
      keeps = record { fits = step.fits; owner = refl; others = step.others };
    }
