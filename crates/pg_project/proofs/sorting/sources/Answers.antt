use Rattle.std.proofs.Common.{◌∷◌, [], length, map, ap, ◌∙◌}
use Rattle.std.proofs.lemmas.List.{map-append}
use Rattle.pg_project.specs.Items.{expressions_view}
use Rattle.pg_meaning.specs.Projections.{is_descending}
use Rattle.pg_meaning.specs.Tree.{SortItem}
use Rattle.pg_project.proofs.MadeLemmas.{all_made, map_twice-append, one_made}
use Rattle.pg_project.specs.Given.{sort_source}
use Rattle.pg_project.specs.Sources.{source_directions, source_view, sources_view}
use Rattle.pg_syntax_tree.specs.View.{sort_item_view}
use Rattle.pg_project.proofs.TurnLemmas.{all_long, one_longer}
use Rattle.pg_project.specs.declared.sorting.SortSource.{SortSource}
use Rattle.pg_project.proofs.sorting.sources.Goals as goal

pub loop-item-preserved : goal.loop-item-preserved
loop-item-preserved c =
    let l = c.loop-item in
    let names = c.args.names.now in
    let found = l.found.items in
    let source : SortSource = record { key = c.in_ok-key.key; descends = c.is_descending.result } in
    let pushed = c.in_ok-push.ensures.items in
    let of_key = λ (o : SortItem). sort_source (expressions_view c.args.items.now.items) o.key in
    let falls = λ (o : SortItem). is_descending o.direction in (
      one_made (λ zs. map of_key (map sort_item_view zs)) (map_twice-append of_key sort_item_view) (sources_view names found) c.deref-item-items.result.now c.args.order.now.items c.deref-item-items.ensures.value l.item-index l.invariant.0
          c.item-item.result c.loop-item-test.true c.item-item.is (sources_view names c.push.new.self.items) (source_view names source ∷ []) (ap (sources_view names) pushed ∙ map-append (source_view names) found (source ∷ [])) (λ j. c.in_ok-key.ensures j ∷ []),
      one_made (λ zs. map falls (map sort_item_view zs)) (map_twice-append falls sort_item_view) (source_directions found) c.deref-item-items.result.now c.args.order.now.items c.deref-item-items.ensures.value l.item-index l.invariant.1
          c.item-item.result c.loop-item-test.true c.item-item.is (source_directions c.push.new.self.items) (source.descends ∷ []) (ap source_directions pushed ∙ map-append (λ (s : SortSource). s.descends) found (source ∷ [])) (λ j. c.is_descending.ensures j ∷ []),
      one_longer found c.push.new.self.items source l.item-index pushed l.invariant.2,
    )

pub returns-clause-sources : goal.returns-clause-sources
returns-clause-sources c =
    let l = c.loop-item in
    let of_key = λ (o : SortItem). sort_source (expressions_view c.args.items.now.items) o.key in
    all_made (λ zs. map of_key (map sort_item_view zs)) (map_twice-append of_key sort_item_view) (sources_view c.args.names.now l.found.items) c.deref-item-items.result.now c.args.order.now.items c.deref-item-items.ensures.value l.item-index l.invariant.0 c.loop-item-test.false

pub returns-clause-directions : goal.returns-clause-directions
returns-clause-directions c =
    let l = c.loop-item in
    let falls = λ (o : SortItem). is_descending o.direction in
    all_made (λ zs. map falls (map sort_item_view zs)) (map_twice-append falls sort_item_view) (source_directions l.found.items) c.deref-item-items.result.now c.args.order.now.items c.deref-item-items.ensures.value l.item-index l.invariant.1 c.loop-item-test.false

pub returns-clause-len : goal.returns-clause-len
returns-clause-len c = all_long c.deref-item-items.result.now c.args.order.now.items (length c.loop-item.found.items) c.loop-item.item-index c.deref-item-items.ensures.value c.loop-item.invariant.2 c.loop-item.auto.item-index-end c.loop-item-test.false
