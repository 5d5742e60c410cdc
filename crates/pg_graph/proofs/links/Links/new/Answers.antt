use Rattle.std.proofs.Common.{[], ap, ◌∙◌}
use Rattle.std.specs.Ordering.{nat_cmp}
use Rattle.std.specs.Option.{option_map_or}
use Rattle.std.specs.FinMap as map
use Rattle.pg_graph.specs.Links.{numbers}
use Rattle.pg_graph.proofs.links.Links.new.Goals as goal

pub returns : goal.returns
returns c = λ node. ap (λ m. option_map_or (λ v. numbers v.items) (map.get m node) []) c.new.ensures ∙ ap (λ o. option_map_or (λ v. numbers v.items) o []) (map.get-empty nat_cmp node)
