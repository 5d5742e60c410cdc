use Rattle.std.proofs.Common.{◌≡◌, ◌<◌, ◌*◌, ◌++◌, [], length, sym, ap, ◌∙◌, arith}
use Rattle.std.proofs.lemmas.Bool.Decides.{nat_tests}
use Rattle.std.proofs.lemmas.List.{length-map, nil_from_length}
use Rattle.pg_expr.specs.Prepared.{tree_of}
use Rattle.pg_project.proofs.Numbered.{no_group, one_group, one_paired}
use Rattle.pg_project.proofs.Parted.{none_each}
use Rattle.pg_project.specs.Kept.{begun, first_kept}
use Rattle.pg_project.specs.KeptGroups.{groups_of, groups_view, parted}
use Rattle.pg_project.specs.ReadyItems.{aggregate_view, aggregates_view, keys_of}
use Rattle.pg_project.specs.Views.{taken_view, takens_view}
use Rattle.pg_rows.specs.Groups.{keys_view}
use Rattle.pg_project.proofs.groups.Groups.new.Goals as goal
use Rattle.pg_project.proofs.groups.Groups.new.Goals.{then-is_empty+in_ok-insert+in_ok-begin, else-is_empty}

pub returns-clause-groups : goal.returns-clause-groups
returns-clause-groups c =
    let keys = c.args.items.now.keys.items in
    let items = c.args.items.now.aggregates.items in
    let each = length items in
    λ names.
    let aggregates = aggregates_view names items in
    elim c.if-is_empty.branch [
      | then-is_empty+in_ok-insert+in_ok-begin w ↦
          let none : length keys ≡ 0 = grind (arith, nat_tests, w.if-is_empty.ensures) in
          ap (groups_view each) w.groups-is
          ∙ one_group aggregates each (length-map items (aggregate_view names)) c.with_hasher.result.keys w.insert.new.self.keys (takens_view w.begin.new.taken.items) w.new-then-is_empty.result c.with_hasher.ensures.empty w.in_ok-insert.ensures.keys
          (w.in_ok-begin.ensures names ∙ ap (λ ts. takens_view ts ++ begun aggregates) c.new.ensures.items) w.new-then-is_empty.ensures.items
          ∙ sym (ap (λ ks. first_kept (keys_of names ks) aggregates) (nil_from_length keys none))
      | else-is_empty w ↦
          let some : 0 < length keys = grind (arith, nat_tests, w.if-is_empty.ensures) in
          ap (groups_view each) w.groups-is
          ∙ ap (λ ks. groups_of (keys_view ks) (parted (length ks) each (takens_view c.new.result.items))) c.with_hasher.ensures.empty
          ∙ sym (no_group aggregates (keys_of names keys) (let long = length-map keys (tree_of names) in omega (arith, long, some)))
    ]

pub returns-clause-paired : goal.returns-clause-paired
returns-clause-paired c =
    let items = c.args.items.now.aggregates.items in
    let each = length items in
    elim c.if-is_empty.branch [
      | then-is_empty+in_ok-insert+in_ok-begin w ↦
          ap (λ g. length g.taken.items) w.groups-is
          ∙ sym (length-map w.begin.new.taken.items taken_view)
          ∙ one_paired (aggregates_view [] items) each (length-map items (aggregate_view [])) c.with_hasher.result.keys w.insert.new.self.keys (takens_view w.begin.new.taken.items) w.new-then-is_empty.result c.with_hasher.ensures.empty w.in_ok-insert.ensures.keys
          (w.in_ok-begin.ensures [] ∙ ap (λ ts. takens_view ts ++ begun (aggregates_view [] items)) c.new.ensures.items)
          ∙ ap (λ g. length g.keys.keys * each) (sym w.groups-is)
      | else-is_empty w ↦
          ap (λ g. length g.taken.items) w.groups-is
          ∙ ap length c.new.ensures.items
          ∙ sym (none_each each)
          ∙ ap (λ ks. length ks * each) (sym c.with_hasher.ensures.empty)
          ∙ ap (λ g. length g.keys.keys * each) (sym w.groups-is)
    ]
