use Rattle.std.proofs.Common.{sym, ap, subst, ◌∙◌}
use Rattle.pg_names.proofs.Interned.{found_text}
use Rattle.pg_graph.proofs.LabelsRemoved.{label_removed, label_removed_named, no_label_removed}
use Rattle.pg_graph.proofs.labels.Labels.remove_text.Goals as goal
use Rattle.pg_graph.specs.Refinement.{AreNamed, label_texts}

pub returns-in-Some-clause-texts : goal.returns-in-Some-clause-texts
returns-in-Some-clause-texts g c =
    let names = c.args.names.now in
    let t = c.args.text.now in
    ap (label_texts names) c.remove.ensures.removed
    ∙ label_removed names c.in-Some.ensures.distinct c.in-Some.name t (found_text t names c.in-Some.name (sym c.in-Some.ensures.found)) c.args.self.now c.requires c.remove.ensures.rising

pub returns-in-Some-clause-named : goal.returns-in-Some-clause-named
returns-in-Some-clause-named g c =
    let names = c.args.names.now in
    let t = c.args.text.now in
    subst (AreNamed names) (sym c.remove.ensures.removed)
    (label_removed_named names c.in-Some.ensures.distinct c.in-Some.name t (found_text t names c.in-Some.name (sym c.in-Some.ensures.found)) c.args.self.now c.requires)

pub returns-in_default-clause-texts : goal.returns-in_default-clause-texts
returns-in_default-clause-texts g c =
    no_label_removed c.args.names.now c.find.ensures.distinct c.args.text.now (sym c.find.ensures.found ∙ c.in_default.is) c.args.self.now c.requires
