use Rattle.std.proofs.Common.{rules, ◌≡◌, map, length, sym, ◌∙◌}
use Rattle.std.proofs.lemmas.List.{length-map}
use Rattle.pg_value_core.specs.View.{view}
use Rattle.pg_write_make.proofs.NameLemmas.{none_new}
use Rattle.pg_write_make.specs.Bindings.{match_bindings, named}
use Rattle.pg_write_make.specs.Lent.{paths_view, trail_view}
use Rattle.pg_write_make.proofs.binding.bind_row.Goals as goal

pub returns-then-len-clause-bound : goal.returns-then-len-clause-bound
returns-then-len-clause-bound g c =
    let names = c.args.scene.now.names.now in
    let full : length c.args.values.now.items ≡ length names = search rules in
    sym (none_new names (map view c.args.values.now.items) (named (match_bindings c.args.graph.now (paths_view c.args.paths.now) (map trail_view c.args.trails.now.items))) c.requires (length-map c.args.values.now.items view ∙ full))
