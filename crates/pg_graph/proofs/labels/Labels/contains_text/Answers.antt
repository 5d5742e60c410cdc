use Rattle.std.proofs.Common.{[], map, sym, ap, ◌∙◌}
use Rattle.std.specs.List.{list_any}
use Rattle.std.specs.Str.{bytes_eq}
use Rattle.pg_graph.proofs.Named.{any_put, either_false}
use Rattle.pg_graph.proofs.labels.Labels.contains_text.Goals as goal
use Rattle.pg_graph.specs.Refinement.{text_of}

pub returns-then-is_short : goal.returns-then-is_short
returns-then-is_short g c =
    let names = c.args.names.now in
    let text = c.args.text.now in
    c.has_text.ensures
    ∙ ap (λ ls. list_any (bytes_eq text) (map (text_of names) ls)) c.as_slice-labels.ensures.names
    ∙ sym (any_put (bytes_eq text) (map (text_of names) c.args.self.now) [] ∙ either_false _)
