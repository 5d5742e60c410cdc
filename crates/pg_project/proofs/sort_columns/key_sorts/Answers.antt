use Rattle.std.proofs.Common.{◌≡◌, ◌<◌, ◌≤◌, ◌∷◌, [], length, refl, sym, ap, ◌∙◌, arith}
use Rattle.std.proofs.lemmas.List.{map-append}
use Rattle.pg_project.proofs.MadeLemmas.{all_made, one_made}
use Rattle.pg_project.proofs.SortColumns.{all_taken, one_picked}
use Rattle.pg_project.proofs.TurnLemmas.{all_long, one_longer}
use Rattle.pg_project.specs.Sources.{source_directions}
use Rattle.pg_project.specs.declared.sorting.SortSource.{SortSource}
use Rattle.pg_rows.specs.Sorts.{directions_of, picked}
use Rattle.pg_rows.specs.declared.sort_by.SortBy.{SortBy}
use Rattle.pg_project.proofs.sort_columns.key_sorts.Goals as goal

pub loop-source-preserved : goal.loop-source-preserved
loop-source-preserved c =
    let l = c.loop-source in
    let sort : SortBy = record { column = c.len-column.result; descends = c.source-item.result.descends } in
    let pushed = c.in_ok-push.ensures.items in (
      one_made source_directions (map-append (λ (s : SortSource). s.descends)) (directions_of l.found.items) c.deref-source-items.result.now c.args.sources.now.items c.deref-source-items.ensures.value l.source-index l.invariant.0
          c.source-item.result c.loop-source-test.true c.source-item.is (directions_of c.push.new.self.items) (sort.descends ∷ []) (ap directions_of pushed ∙ map-append (λ (s : SortBy). s.descends) l.found.items (sort ∷ [])) refl,
      one_longer l.found.items c.push.new.self.items sort l.source-index pushed l.invariant.1,
      λ keys long.
          let before : l.source-index ≤ length keys = omega (arith, long) in
          let within : l.source-index < length keys = omega (arith, long) in
          ap (λ ss. picked ss keys) pushed ∙ one_picked l.found.items sort keys l.source-index (l.invariant.2 keys before) (c.len-column.ensures ∙ l.found.ok.0 ∙ l.invariant.1) within,
    )

pub returns-clause-directions : goal.returns-clause-directions
returns-clause-directions c =
    let l = c.loop-source in
    all_made source_directions (map-append (λ (s : SortSource). s.descends)) (directions_of l.found.items) c.deref-source-items.result.now c.args.sources.now.items c.deref-source-items.ensures.value l.source-index l.invariant.0 c.loop-source-test.false

pub returns-clause-keys : goal.returns-clause-keys
returns-clause-keys c = λ keys long.
    let l = c.loop-source in
    let all : l.source-index ≡ length c.args.sources.now.items = all_long c.deref-source-items.result.now c.args.sources.now.items l.source-index l.source-index c.deref-source-items.ensures.value refl l.auto.source-index-end c.loop-source-test.false in
    let ended : l.source-index ≡ length keys = all ∙ sym long in
    let within : l.source-index ≤ length keys = omega (arith, ended) in
    l.invariant.2 keys within ∙ all_taken keys l.source-index ended
