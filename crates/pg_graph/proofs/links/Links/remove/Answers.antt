use Rattle.std.proofs.Common.{◌==◌, cond, IsSome, [], lit<, refl, subst, sym, ap, ◌∙◌}
use Rattle.std.specs.Option.{option_map_or}
use Rattle.std.specs.FinMap as map
use Rattle.pg_graph.specs.Links.{links_at, without_id, numbers}
use Rattle.pg_graph.specs.Sorted.{Rises, without}
use Rattle.pg_graph.proofs.Maps.{get_inserted}
use Rattle.pg_graph.proofs.Ids.{list_at_inserted, twice_at, at_node, numbers_without, rises_of_numbers}
use Rattle.pg_graph.proofs.links.Links.remove.Goals as goal

pub remove-requires : goal.remove-requires
remove-requires c = (
  lit< tt,
  rises_of_numbers (λ r. r.0) c.replace-ids.result.items
      (subst (Rises (λ n. n)) (ap (λ o. option_map_or (λ v. numbers v.items) o []) c.replace-ids.ensures.before) (c.requires c.args.node)),
)

pub keep-requires : goal.keep-requires
keep-requires c = subst IsSome (sym (ap (λ m. map.get m c.args.node) c.replace-ids.ensures.replaced ∙ get_inserted _ c.args.node _)) refl

pub returns-then-is_some : goal.returns-then-is_some
returns-then-is_some c = λ q.
    let lists = c.args.self.now.lists in
    c.keep.ensures q
    ∙ ap (λ m. cond (q == c.args.node) (numbers c.remove.new.items.items) (option_map_or (λ v. numbers v.items) (map.get m q) [])) c.replace-ids.ensures.replaced
    ∙ ap (cond (q == c.args.node) (numbers c.remove.new.items.items)) (list_at_inserted (λ v. numbers v.items) lists c.args.node _ q)
    ∙ twice_at (q == c.args.node) _ _ _
    ∙ at_node (without_id c.args.id.0) (links_at c.args.self.now) c.args.node q _
    (ap numbers c.remove.ensures.removed ∙ ap (λ k. numbers (without (λ r. r.0) k c.replace-ids.result.items)) c.number.ensures ∙ numbers_without (λ r. r.0) c.args.id.0 c.replace-ids.result.items ∙ ap (λ o. without_id c.args.id.0 (option_map_or (λ v. numbers v.items) o [])) (sym c.replace-ids.ensures.before))
