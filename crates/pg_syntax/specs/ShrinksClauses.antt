-- No parser of clauses takes a token back.
use Rattle.std.proofs.Common.{ℕ, Bool, true, false, List, []}
use Rattle.std.specs.Prelude.{is_some}
use Rattle.pg_meaning.specs.declared.lexemes.Keyword.{Keyword}
use Rattle.pg_meaning.specs.declared.lexemes.Keyword.TheVariants as k
use Rattle.pg_meaning.specs.declared.lexemes.Symbol.TheVariants as s
use Rattle.pg_meaning.specs.Tree.{Name, Expression, Item}
use Rattle.pg_meaning.specs.Tree as tree
use Rattle.pg_meaning.specs.Parse as parse
use Rattle.pg_meaning.specs.Parse.{Parser, pure, refuse, sees, sees_symbol, sees_keyword}
use Rattle.pg_syntax.specs.Pieces.{set_target, remove_target, behind, item, items}
use Rattle.pg_syntax_tokens.specs.Shrinks.{Shrinks, Eats}
use Rattle.pg_syntax_tokens.specs.ShrinksLaws.{eats_shrinks, pure_shrinks, bind_shrinks, bind_eats, then_eats, branch_shrinks, branch_eats, mapped_shrinks, eat_keyword_shrinks, var_eats, name_eats, many_shrinks, maybe_shrinks, comma_eats, separated_shrinks, labels_shrinks, refuse_shrinks, left_shrinks, given_shrinks, token_eats, here_shrinks, eat_symbol_shrinks, after_symbol, after_keyword}
use Rattle.pg_syntax.specs.ShrinksPatterns.{path_shrinks}

behind_shrinks : {p : Parser Expression} (x : Keyword) → Shrinks p → Shrinks (behind x p)
behind_shrinks x h = maybe_shrinks (sees_keyword x) (eats_shrinks (after_keyword x h))

match_eats : {p : Parser Expression} → Shrinks p → Eats (parse.match_clause p)
unfolding parse.match_clause
match_eats h =
    then_eats (eat_keyword_shrinks k.Optional) (λ is_optional.
    after_keyword k.Match (
    bind_shrinks (separated_shrinks (path_shrinks h)) (λ ps.
    bind_shrinks (behind_shrinks k.Where h) (λ c. pure_shrinks _))))

unwind_eats : {p : Parser Expression} → Shrinks p → Eats (parse.unwind_clause p)
unfolding parse.unwind_clause
unwind_eats h =
    after_keyword k.Unwind (
    bind_shrinks h (λ x.
    eats_shrinks (after_keyword k.As (bind_shrinks (eats_shrinks var_eats) (λ n. pure_shrinks _)))))

pub reading_eats : {p : Parser Expression} → Shrinks p → Eats (parse.reading p)
unfolding parse.reading
reading_eats h = branch_eats (sees_keyword k.Unwind) (unwind_eats h) (match_eats h)

set_target_shrinks : {p : Parser Expression} (n : Name) → Shrinks p → Shrinks (set_target p n)
set_target_shrinks n h =
    branch_shrinks (sees_symbol s.Dot) (eats_shrinks (after_symbol s.Dot (bind_shrinks (eats_shrinks name_eats) (λ m. eats_shrinks (after_symbol s.Equal (bind_shrinks h (λ x. pure_shrinks _)))))))
    (branch_shrinks (sees_symbol s.Equal) (eats_shrinks (after_symbol s.Equal (bind_shrinks h (λ x. pure_shrinks _))))
    (branch_shrinks (sees_symbol s.PlusEqual) (eats_shrinks (after_symbol s.PlusEqual (bind_shrinks h (λ x. pure_shrinks _))))
    (mapped_shrinks (tree.set_labels n) labels_shrinks)))

pub set_item_eats : {p : Parser Expression} → Shrinks p → Eats (parse.set_item p)
unfolding parse.set_item
set_item_eats h = bind_eats var_eats (λ n. set_target_shrinks n h)

remove_target_shrinks : (n : Name) → Shrinks (remove_target n)
remove_target_shrinks n =
    branch_shrinks (sees_symbol s.Dot) (eats_shrinks (after_symbol s.Dot (bind_shrinks (eats_shrinks name_eats) (λ m. pure_shrinks _))))
    (mapped_shrinks (tree.remove_labels n) labels_shrinks)

pub remove_item_eats : Eats parse.remove_item
unfolding parse.remove_item
remove_item_eats = bind_eats var_eats (λ n. remove_target_shrinks n)

event_eats : Eats parse.event
event_eats = branch_eats (sees_keyword k.Create) (after_keyword k.Create (pure_shrinks _)) (after_keyword k.Match (pure_shrinks _))

pub on_items_eats : {p : Parser Expression} → Shrinks p → Eats (parse.on_items p)
unfolding parse.on_items
on_items_eats h =
    after_keyword k.On (
    bind_shrinks (eats_shrinks event_eats) (λ e.
    eats_shrinks (after_keyword k.Set (bind_shrinks (separated_shrinks (eats_shrinks (set_item_eats h))) (λ xs. pure_shrinks _)))))

merge_eats : {p : Parser Expression} → Shrinks p → Eats (parse.merge_clause p)
unfolding parse.merge_clause
merge_eats h =
    after_keyword k.Merge (
    bind_shrinks (path_shrinks h) (λ p.
    bind_shrinks (many_shrinks (sees_keyword k.On) [] (eats_shrinks (on_items_eats h))) (λ os. pure_shrinks _)))

delete_eats : {p : Parser Expression} → Shrinks p → Eats (parse.delete_clause p)
unfolding parse.delete_clause
delete_eats h = then_eats (eat_keyword_shrinks k.Detach) (λ is_detach. after_keyword k.Delete (bind_shrinks (separated_shrinks h) (λ xs. pure_shrinks _)))

pub updating_eats : {p : Parser Expression} → Shrinks p → Eats (parse.updating p)
unfolding parse.updating
updating_eats h =
    branch_eats (sees_keyword k.Create) (after_keyword k.Create (mapped_shrinks tree.create (separated_shrinks (path_shrinks h))))
    (branch_eats (sees_keyword k.Merge) (merge_eats h)
    (branch_eats (sees_keyword k.Set) (after_keyword k.Set (mapped_shrinks tree.set_items (separated_shrinks (eats_shrinks (set_item_eats h)))))
    (branch_eats (sees_keyword k.Remove) (after_keyword k.Remove (mapped_shrinks tree.remove_items (separated_shrinks (eats_shrinks remove_item_eats))))
    (delete_eats h))))

-- ---- WITH and RETURN

return_item_shrinks : {p : Parser Expression} (text : List ℕ) → Shrinks p → Shrinks (parse.return_item text p)
unfolding parse.return_item
return_item_shrinks text h =
    bind_shrinks left_shrinks (λ old.
    bind_shrinks h (λ x.
    bind_shrinks left_shrinks (λ new.
    bind_shrinks (given_shrinks _) (λ bytes.
    bind_shrinks (maybe_shrinks (sees_keyword k.As) (eats_shrinks (after_keyword k.As (eats_shrinks var_eats)))) (λ a. pure_shrinks _)))))

with_item_shrinks : {p : Parser Expression} (text : List ℕ) → Shrinks p → Shrinks (parse.with_item text p)
unfolding parse.with_item
with_item_shrinks text h = bind_shrinks (return_item_shrinks text h) (λ i. by i (parse.may_stand i.value i.alias))
  where
    by : (i : Item) (b : Bool) → Shrinks {A = Item} (elim b [ true ↦ pure i | false ↦ refuse ])
    by i true = pure_shrinks i
    by i false = refuse_shrinks

pub item_shrinks : {p : Parser Expression} (of_with : Bool) (text : List ℕ) → Shrinks p → Shrinks (item of_with text p)
item_shrinks true text h = with_item_shrinks text h
item_shrinks false text h = return_item_shrinks text h

direction_eats : Eats parse.direction
unfolding parse.direction
direction_eats = token_eats (λ t. parse.direction_of t.lexeme)

pub sort_item_shrinks : {p : Parser Expression} → Shrinks p → Shrinks (parse.sort_item p)
unfolding parse.sort_item
sort_item_shrinks h = bind_shrinks h (λ x. bind_shrinks (maybe_shrinks (sees (λ l. is_some (parse.direction_of l))) (eats_shrinks direction_eats)) (λ d. pure_shrinks _))

ordering_shrinks : {p : Parser Expression} → Shrinks p → Shrinks (parse.ordering p)
ordering_shrinks h = branch_shrinks (sees_keyword k.Order) (eats_shrinks (after_keyword k.Order (eats_shrinks (after_keyword k.By (separated_shrinks (sort_item_shrinks h)))))) (pure_shrinks [])

items_shrinks : {p : Parser Item} (star : Bool) → Shrinks p → Shrinks (items star p)
items_shrinks true h = many_shrinks (sees_symbol s.Comma) [] (eats_shrinks (comma_eats h))
items_shrinks false h = separated_shrinks h

projection_shrinks : {p : Parser Expression} {q : Parser Item} → Shrinks p → Shrinks q → Shrinks (parse.projection p q)
unfolding parse.projection
projection_shrinks h i =
    bind_shrinks (eat_keyword_shrinks k.Distinct) (λ distinct.
    bind_shrinks here_shrinks (λ at.
    bind_shrinks (eat_symbol_shrinks s.Star) (λ star.
    bind_shrinks (items_shrinks star i) (λ xs.
    bind_shrinks (ordering_shrinks h) (λ os.
    bind_shrinks (behind_shrinks k.Skip h) (λ m.
    bind_shrinks (behind_shrinks k.Limit h) (λ n. pure_shrinks _)))))))

pub with_eats : {p : Parser Expression} (text : List ℕ) → Shrinks p → Eats (parse.with_clause text p)
unfolding parse.with_clause
with_eats text h = after_keyword k.With (bind_shrinks (projection_shrinks h (with_item_shrinks text h)) (λ p. bind_shrinks (behind_shrinks k.Where h) (λ c. pure_shrinks _)))
