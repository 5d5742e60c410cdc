use Rattle.std.proofs.Common.{◌≡◌, ◌∷◌, ◌++◌, [], List, map, ap, ◌∙◌}
use Rattle.std.proofs.lemmas.Result.{IfOk-from_err, IfOk-at_ok}
use Rattle.std.proofs.lemmas.List.{map-append}
use Rattle.pg_expr.specs.Prepared.{tree_of}
use Rattle.pg_meaning.specs.Tree.{Expression}
use Rattle.pg_project.proofs.MadeLemmas.{all_made, map_twice-append, one_made}
use Rattle.pg_project.specs.Columns.{values_in_items}
use Rattle.pg_project.specs.Given.{trees_of}
use Rattle.pg_syntax_tree.specs.View.{item_view}
use Rattle.pg_syntax_tree.specs.declared.clauses.Item.{Item}
use Rattle.pg_project.proofs.values.prepare_items.Goals as goal

abbrev trees : List Item → List Expression
trees items = values_in_items (map item_view items)

joined : (xs ys : List Item) → trees (xs ++ ys) ≡ trees xs ++ trees ys
joined = map_twice-append (λ i. i.value) item_view

pub loop-item-preserved : goal.loop-item-preserved
loop-item-preserved c =
    let l = c.loop-item in
    let names = c.args.names.now in
    let ready = l.ready.items in
    let one = c.in_ok-push_made.ensures.0 in
    one_made trees joined (trees_of names ready) c.deref-item-items.result.now c.args.items.now.items c.deref-item-items.ensures.value l.item-index l.invariant
    c.item-item.result c.loop-item-test.true c.item-item.is (trees_of names c.push_made.new.list.items) (tree_of names one ∷ []) (ap (trees_of names) c.in_ok-push_made.ensures.2 ∙ map-append (tree_of names) ready (one ∷ [])) (λ j. IfOk-at_ok _ c.in_ok-push_made.ensures.1 c.prepare.ensures j ∷ [])

pub returns : goal.returns
returns c =
    let l = c.loop-item in
    all_made trees joined (trees_of c.args.names.now l.ready.items) c.deref-item-items.result.now c.args.items.now.items c.deref-item-items.ensures.value l.item-index l.invariant c.loop-item-test.false

pub returns-in_err-push_made : goal.returns-in_err-push_made
returns-in_err-push_made c = IfOk-from_err c.from_residual-in_err-push_made.result _ c.from_residual-in_err-push_made.ensures.0
