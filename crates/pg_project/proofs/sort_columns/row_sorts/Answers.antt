use Rattle.std.proofs.Common.{◌∷◌, [], slice_index_or, refl, ap, ◌∙◌}
use Rattle.std.proofs.lemmas.List.{map-append}
use Rattle.pg_meaning.specs.Value.{null}
use Rattle.pg_project.proofs.InTurn.{none_before}
use Rattle.pg_project.proofs.MadeLemmas.{all_made, one_made}
use Rattle.pg_project.proofs.TurnLemmas.{turn_done, turns_over}
use Rattle.pg_project.specs.Given.{key_given, keys_given}
use Rattle.pg_project.specs.Sources.{source_directions, source_view, sources_view}
use Rattle.pg_project.specs.declared.sorting.SortSource.{SortSource}
use Rattle.pg_rows.specs.Sorts.{directions_of, picked}
use Rattle.pg_rows.specs.declared.sort_by.SortBy.{SortBy}
use Rattle.pg_project.proofs.sort_columns.row_sorts.Goals as goal

pub loop-source-init : goal.loop-source-init
loop-source-init c = (
  ap directions_of c.new-found.ensures.items,
  λ parameters graph values long. none_before (picked c.new-found.result.items values) (keys_given parameters graph c.args.names.now (sources_view c.args.names.now c.args.sources.now.items) values) (ap (λ ss. picked ss values) c.new-found.ensures.items),
)

pub loop-source-preserved : goal.loop-source-preserved
loop-source-preserved c =
    let l = c.loop-source in
    let names = c.args.names.now in
    let sort : SortBy = record { column = c.in-Some.column; descends = c.source-item.result.descends } in
    let pushed = c.in_ok-push.ensures.items in (
      one_made source_directions (map-append (λ (s : SortSource). s.descends)) (directions_of l.found.items) c.deref-source-items.result.now c.args.sources.now.items c.deref-source-items.ensures.value l.source-index l.invariant.0
          c.source-item.result c.loop-source-test.true c.source-item.is (directions_of c.push.new.self.items) (sort.descends ∷ []) (ap directions_of pushed ∙ map-append (λ (s : SortBy). s.descends) l.found.items (sort ∷ [])) refl,
      λ parameters graph values long.
          turn_done (source_view names) (key_given parameters graph names values) (λ (s : SortBy). slice_index_or values s.column null) c.deref-source-items.result.now c.args.sources.now.items c.deref-source-items.ensures.value l.source-index l.found.items
          (keys_given parameters graph names (sources_view names c.args.sources.now.items) values) (l.invariant.1 parameters graph values long) c.source-item.result c.loop-source-test.true c.source-item.is
          sort c.push.new.self.items (c.in-Some.ensures parameters graph values long) pushed,
    )

pub returns : goal.returns
returns c =
    let l = c.loop-source in
    let names = c.args.names.now in
    record {
      directions = all_made source_directions (map-append (λ (s : SortSource). s.descends)) (directions_of l.found.items) c.deref-source-items.result.now c.args.sources.now.items c.deref-source-items.ensures.value l.source-index l.invariant.0 c.loop-source-test.false;
      keys = λ parameters graph values long.
          turns_over (source_view names) (key_given parameters graph names values) (λ (s : SortBy). slice_index_or values s.column null) c.deref-source-items.result.now c.args.sources.now.items c.deref-source-items.ensures.value l.source-index l.found.items
          (keys_given parameters graph names (sources_view names c.args.sources.now.items) values) (l.invariant.1 parameters graph values long) c.loop-source-test.false;
    }
