use Rattle.std.proofs.Common.{◌≡◌, ◌∷◌, ◌++◌, [], List, ℕ, map, take, refl, ap, subst, ◌∙◌}
use Rattle.std.proofs.lemmas.List.{map-append}
use Rattle.pg_json.specs.Telling.{HasNamed}
use Rattle.pg_meaning.specs.Scopes.{column_names, return_column}
use Rattle.pg_project.proofs.MadeLemmas.{all_made, map_twice-append, one_made}
use Rattle.pg_syntax_tree.specs.View.{item_view}
use Rattle.pg_syntax_tree.specs.declared.clauses.Item.{Item}
use Rattle.pg_run.proofs.reply_writer.ReplyWriter.begin_items.Goals as goal

abbrev names_of : List Item → List (List ℕ)
names_of items = column_names (map return_column (map item_view items))

joined : (xs ys : List Item) → names_of (xs ++ ys) ≡ names_of xs ++ names_of ys
joined xs ys = ap column_names (map_twice-append return_column item_view xs ys) ∙ map-append (λ c. c.name) (map return_column (map item_view xs)) (map return_column (map item_view ys))

pub loop-item-preserved : goal.loop-item-preserved
loop-item-preserved c =
    let l = c.loop-item in
    let so_far = names_of (take l.item-index c.args.items.now.items) in
    let name = c.column_name.result.now in
    subst (HasNamed _)
    (one_made names_of joined so_far c.deref-item-items.result.now c.args.items.now.items c.deref-item-items.ensures.value l.item-index refl
    c.item-item.result c.loop-item-test.true c.item-item.is (so_far ++ name ∷ []) (name ∷ []) refl (λ j. c.column_name.ensures j ∷ []))
    (c.in_ok-name.ensures so_far l.invariant)

pub returns : goal.returns
returns c =
    let l = c.loop-item in
    let items = c.args.items.now.items in
    c.behind.ensures (names_of items)
    (subst (HasNamed _) (all_made names_of joined (names_of (take l.item-index items)) c.deref-item-items.result.now items c.deref-item-items.ensures.value l.item-index refl c.loop-item-test.false) l.invariant)
