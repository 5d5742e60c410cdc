use Rattle.std.proofs.Common.{◌==◌, false, sym, ap, ◌∙◌}
use Rattle.std.specs.List.{list_any}
use Rattle.std.specs.Option.{option_map_or}
use Rattle.pg_graph.proofs.Named.{label_is_read}
use Rattle.pg_graph.proofs.labels.Labels.contains_named.Goals as goal

pub returns-in-Some : goal.returns-in-Some
returns-in-Some g c =
    let labels = c.args.self.now in
    c.contains.ensures
    ∙ sym (label_is_read c.args.names.now labels c.args.text.now c.in-Some.ensures.distinct c.requires ∙ ap (λ o. option_map_or (λ n. list_any (λ l. l == n) labels) o false) (sym c.in-Some.ensures.found))

pub returns-in-None : goal.returns-in-None
returns-in-None g c =
    let labels = c.args.self.now in
    sym (label_is_read c.args.names.now labels c.args.text.now c.in-None.ensures.distinct c.requires ∙ ap (λ o. option_map_or (λ n. list_any (λ l. l == n) labels) o false) (sym c.in-None.ensures.found))
