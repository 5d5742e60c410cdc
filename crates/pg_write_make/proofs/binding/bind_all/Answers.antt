use Rattle.std.proofs.Common.{rules, ◌≡◌, false, List, [], ◌∷◌, ◌++◌, map, length, Some, is_some, sym, ap, subst, ◌∙◌, true}
use Rattle.std.proofs.lemmas.List.{length-map, map-append}
use Rattle.std.specs.Vec.Iter.{into_iter_items}
use Rattle.pg_meaning.specs.Rows.{value_in}
use Rattle.pg_rows.specs.Named.{row_of}
use Rattle.pg_value_core.specs.View.{view}
use Rattle.pg_write_make.proofs.NameLemmas.{all_bound, binds_one, binds_none}
use Rattle.pg_write_make.proofs.TrailLemmas.{none_there}
use Rattle.pg_write_make.specs.Bindings.{Binding, EndsWith, bind_each}
use Rattle.pg_write_make.specs.Lent.{bindings_view}
use Rattle.std.proofs.lemmas.Result.{IfOk-from_err}
use Rattle.pg_write_make.proofs.binding.bind_all.Goals as goal

pub loop-name-preserved-in-Continue-1 : goal.loop-name-preserved-in-Continue-1
loop-name-preserved-in-Continue-1 c =
    let names = c.args.scene.now.names.now in
    let values = map view c.loop-name.values.items in
    let first : bindings_view (into_iter_items c.loop-name.name-iterator) ≡ (Some c.in-Some.name.now, view c.in-Some.value) ∷ bindings_view (into_iter_items c.next.new.self) = ap bindings_view c.in-Some.ensures.steps.0 in
    let pushed : map view c.push.new.self.items ≡ values ++ view c.in-Some.value ∷ [] = ap (map view) c.in_ok-push.ensures.items ∙ map-append view c.loop-name.values.items (c.in-Some.value ∷ []) in
    let free : is_some (value_in c.in-Some.name.now (row_of names values)) ≡ false = search rules in
    let bound = binds_one names values (map view c.push.new.self.items) c.in-Some.name.now (view c.in-Some.value) _ _ _ first pushed free c.loop-name.invariant.rest c.loop-name.invariant.ends in
    record { rest = bound.0; ends = bound.1 }

pub returns-clause-whole : goal.returns-clause-whole
returns-clause-whole c =
    let names = c.args.scene.now.names.now in
    let values = map view c.loop-name.values.items in
    let few : length (into_iter_items c.loop-name.name-iterator) ≡ 0 = search rules in
    let left : into_iter_items c.loop-name.name-iterator ≡ [] = none_there (into_iter_items c.loop-name.name-iterator) few in
    let none : bindings_view (into_iter_items c.loop-name.name-iterator) ≡ [] = ap bindings_view left in
    sym (length-map c.loop-name.values.items view) ∙ all_bound names values (subst (λ (bs : List Binding). EndsWith names values bs) none c.loop-name.invariant.ends)

pub returns-in_err-push-clause-bound : goal.returns-in_err-push-clause-bound
returns-in_err-push-clause-bound c = IfOk-from_err c.from_residual.result _ c.from_residual.ensures.0

pub returns-in_err-push-clause-whole : goal.returns-in_err-push-clause-whole
returns-in_err-push-clause-whole c = IfOk-from_err c.from_residual.result _ c.from_residual.ensures.0

pub loop-name-preserved : goal.loop-name-preserved
loop-name-preserved c =
    let names = c.args.scene.now.names.now in
    let values = map view c.loop-name.values.items in
    let there : is_some (value_in c.in-Some.name.now (row_of names values)) ≡ true = search rules in
    let bound = binds_none names values c.in-Some.name.now (view c.in-Some.value) (bindings_view (into_iter_items c.loop-name.name-iterator)) (bindings_view (into_iter_items c.next.new.self))
    (bind_each (bindings_view c.args.bindings.items) (row_of names (map view c.args.values.now.items))) (ap bindings_view c.in-Some.ensures.steps.0) there c.loop-name.invariant.rest c.loop-name.invariant.ends in
    record { rest = bound.0; ends = bound.1 }
